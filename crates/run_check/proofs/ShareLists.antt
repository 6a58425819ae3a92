-- Shares of passes: what they were told, and what comes next in them.
use Rattle.std.proofs.Common.{◌≡◌, ◌≢◌, ◌==◌, ◌⊎◌, ℕ, ◌+◌, ◌<◌, ◌≤◌, zero, suc, Bool, true, false, cond, Result, Ok, Err, IfErr, OnOk, List, [], ◌∷◌, ◌++◌, map, length, get_or, drop, refl, sym, ap, ◌∙◌, subst, arith, inl, inr, length-append, append_assoc, append-nil}
use Rattle.std.specs.Prelude.{All}
use Rattle.std.specs.List.{flat_map}
use Rattle.std.specs.Fmt.{decimal}
use Rattle.std.specs.Str.{bytes_eq}
use Rattle.std.proofs.Math.Seq.{drop-cons}
use Rattle.std.proofs.lemmas.Bool.{true≢false, cases_lt}
use Rattle.std.proofs.lemmas.List.{length-map}
use Rattle.std.proofs.lemmas.Slice.Eq.{bytes_eq-Decides}
use Rattle.kmem_text.specs.declared.command.Line.{Line}
use Rattle.kmem_model.specs.declared.record_entry.RecordEntry.{RecordEntry}
use Rattle.kmem_model.specs.RunLines.{place_line}
use Rattle.kmem_model.specs.Checked.{answered}
use Rattle.kmem_model.specs.Checked.{Asked, asked_of_pass, asked_in_turn, passes_below}
use Rattle.run_check.specs.Told.{entry_of, of_pass, HasRead, StopsReading}
use Rattle.run_check.specs.Shares.{told_in, left_of, left_in}
use Rattle.run_check.specs.declared.share.Share.{Share}
use Rattle.run_check.specs.declared.told.Told.{Told}
use Rattle.run_check.proofs.Asked.{reads_on, stops_on, one_is}
use Rattle.run_check.specs.Faults.{IfIllegal}
use Rattle.run_check.specs.declared.fault.Fault.{Fault}
use Rattle.run_check.specs.declared.fault.Fault.TheVariants.{BadScript, Read, Write, Limit, NoMemory, Illegal}
use Rattle.std.proofs.lemmas.List.Elements.{All-append}

-- the next entry of a share
pub left_cons : (told : List Told) (next : ℕ) (t : Told) → next < length told → t ≡ get_or told next t → map entry_of (drop next told) ≡ entry_of t ∷ map entry_of (drop (suc next) told)
left_cons told next t small is = ap (map entry_of) (drop-cons told next t small) ∙ ap (λ x. entry_of x ∷ map entry_of (drop (suc next) told)) (sym is)

pub same_head : (e f : RecordEntry) (xs ys : List RecordEntry) → e ∷ xs ≡ f ∷ ys → e ≡ f
same_head e f xs ys h = cc

-- the line is the place of the next entry, or of none that comes next
pub is_next : (line : List ℕ) (told : List Told) (next pass : ℕ) (t : Told) → next < length told → t ≡ get_or told next t → bytes_eq line (decimal (pass + 1) ++ 32 ∷ decimal t.number) ≡ true → (e : RecordEntry) × (rest : List RecordEntry) × (map entry_of (drop next told) ≡ e ∷ rest) × (line ≡ place_line (answered (pass, e)))
is_next line told next pass t small is same = (entry_of t, map entry_of (drop (suc next) told), left_cons told next t small is, (bytes_eq-Decides line _).0 same)

pub is_not_next : (line : List ℕ) (told : List Told) (next pass : ℕ) (t : Told) → next < length told → t ≡ get_or told next t → bytes_eq line (decimal (pass + 1) ++ 32 ∷ decimal t.number) ≡ false → (e : RecordEntry) (rest : List RecordEntry) → map entry_of (drop next told) ≡ e ∷ rest → line ≢ place_line (answered (pass, e))
is_not_next line told next pass t small is other e rest left place =
    let head : entry_of t ≡ e = same_head (entry_of t) e _ rest (sym (left_cons told next t small is) ∙ left) in
    true≢false (sym ((bytes_eq-Decides line (decimal (pass + 1) ++ 32 ∷ decimal t.number)).1 (place ∙ ap (λ x. place_line (answered (pass, x))) (sym head))) ∙ other)

-- a share at its pass
pub left_at : (shares : List Share) (pass : ℕ) (s : Share) → pass < length shares → s ≡ get_or shares pass s → left_in shares pass ≡ left_of s
left_at [] pass s small is = absurd (omega arith)
left_at (x ∷ shares) zero s small is = ap left_of (sym is)
left_at (x ∷ shares) (suc pass) s small is = left_at shares pass s (omega arith) is

-- a share more
told_in_more : (q : ℕ) (shares : List Share) (s : Share) → told_in q (shares ++ s ∷ []) ≡ told_in q shares ++ of_pass (q + length shares) s.told.items
told_in_more q [] s = append-nil (of_pass q s.told.items) ∙ ap (λ n. of_pass n s.told.items) (omega arith)
told_in_more q (x ∷ shares) s =
    ap (λ xs. of_pass q x.told.items ++ xs) (told_in_more (q + 1) shares s ∙ ap (λ n. told_in (q + 1) shares ++ of_pass n s.told.items) (omega arith))
    ∙ sym (append_assoc (of_pass q x.told.items) (told_in (q + 1) shares) (of_pass (q + suc (length shares)) s.told.items))

pub told_more : (shares longer : List Share) (s : Share) (pass : ℕ) → longer ≡ shares ++ s ∷ [] → length shares ≡ pass → told_in 0 longer ≡ told_in 0 shares ++ of_pass pass s.told.items
told_more shares longer s pass put count = ap (told_in 0) put ∙ told_in_more 0 shares s ∙ ap (λ n. told_in 0 shares ++ of_pass n s.told.items) (omega (arith, count))

flat_map-append_one : (f : ℕ → List Asked) (xs : List ℕ) (x : ℕ) → flat_map f (xs ++ x ∷ []) ≡ flat_map f xs ++ f x
flat_map-append_one f [] x = append-nil (f x)
flat_map-append_one f (y ∷ xs) x = ap (λ ys. f y ++ ys) (flat_map-append_one f xs x) ∙ sym (append_assoc (f y) (flat_map f xs) (f x))

pub turn_suc : (pass : ℕ) (lines : List Line) → asked_in_turn (suc pass) lines ≡ asked_in_turn pass lines ++ asked_of_pass lines pass
turn_suc pass lines = flat_map-append_one (asked_of_pass lines) (passes_below pass) pass

pub turn_more : (pass : ℕ) (lines : List Line) → asked_in_turn (pass + 1) lines ≡ asked_in_turn pass lines ++ asked_of_pass lines pass
turn_more pass lines = let next : pass + 1 ≡ suc pass = omega arith in ap (λ n. asked_in_turn n lines) next ∙ turn_suc pass lines

-- what comes before a pass, the pass, and what comes behind it
pub turn_split : (workers pass : ℕ) (lines : List Line) → pass < workers → (rest : List Asked) × (asked_in_turn workers lines ≡ asked_in_turn pass lines ++ (asked_of_pass lines pass ++ rest))
turn_split zero pass lines small = absurd (omega arith)
turn_split (suc workers) pass lines small = elim (cases_lt pass workers) [
  | inl below ↦
      let h = turn_split workers pass lines below in (
        h.0 ++ asked_of_pass lines workers,
        turn_suc workers lines ∙ ap (λ xs. xs ++ asked_of_pass lines workers) h.1
            ∙ append_assoc (asked_in_turn pass lines) (asked_of_pass lines pass ++ h.0) (asked_of_pass lines workers)
            ∙ ap (λ xs. asked_in_turn pass lines ++ xs) (append_assoc (asked_of_pass lines pass) h.0 (asked_of_pass lines workers)),
      )
  | inr over ↦
      let at : workers ≡ pass = omega arith in
      ([], turn_suc workers lines ∙ ap (λ n. asked_in_turn n lines ++ asked_of_pass lines n) at ∙ ap (λ xs. asked_in_turn pass lines ++ xs) (sym (append-nil (asked_of_pass lines pass))))
]

-- a pass more is read
pub reads_pass : (names : List (List ℕ)) (lines : List Line) (pass : ℕ) (shares longer : List Share) (s : Share) (before mid after : List (List ℕ)) → longer ≡ shares ++ s ∷ [] → length shares ≡ pass → HasRead names (asked_in_turn pass lines) (told_in 0 shares) before mid → HasRead names (asked_of_pass lines pass) (of_pass pass s.told.items) mid after → HasRead names (asked_in_turn (pass + 1) lines) (told_in 0 longer) before after
reads_pass names lines pass shares longer s before mid after put count h k =
    subst (λ asked. HasRead names asked (told_in 0 longer) before after) (sym (turn_more pass lines))
    (subst (λ told. HasRead names (asked_in_turn pass lines ++ asked_of_pass lines pass) told before after) (sym (told_more shares longer s pass put count))
    (reads_on names (asked_in_turn pass lines) (asked_of_pass lines pass) (told_in 0 shares) (of_pass pass s.told.items) before mid after h k))

-- or reading stops in it
pub stops_in_pass : (names : List (List ℕ)) (lines : List Line) (workers pass : ℕ) (told : List (ℕ × RecordEntry)) (before mid : List (List ℕ)) (count : ℕ) → pass < workers → HasRead names (asked_in_turn pass lines) told before mid → StopsReading names (asked_of_pass lines pass) mid count → StopsReading names (asked_in_turn workers lines) before (length told + count)
stops_in_pass names lines workers pass told before mid count small h s =
    let split = turn_split workers pass lines small in
    subst (λ asked. StopsReading names asked before (length told + count)) (sym split.1) (stops_on names (asked_in_turn pass lines) (asked_of_pass lines pass) split.0 told before mid count h s)

pub no_cons : (e : RecordEntry) (rest : List RecordEntry) → [] ≡ e ∷ rest → ⊥
no_cons e rest h = cc

pub left_within : (shares : List Share) (pass : ℕ) (e : RecordEntry) (rest : List RecordEntry) → left_in shares pass ≡ e ∷ rest → pass < length shares
left_within [] pass e rest h = absurd (no_cons e rest h)
left_within (s ∷ shares) zero e rest h = omega arith
left_within (s ∷ shares) (suc pass) e rest h = omega (arith, left_within shares pass e rest h)

pub share_more : (P : Share → Type 0) (shares longer : List Share) (s : Share) → longer ≡ shares ++ s ∷ [] → P s → All P shares → All P longer
share_more P shares longer s put h all = subst (All P) (sym put) (All-append P shares (s ∷ []) all (one_is P s h))

pub length-told_more : (shares longer : List Share) (s : Share) (pass : ℕ) → longer ≡ shares ++ s ∷ [] → length shares ≡ pass → length (told_in 0 longer) ≡ length (told_in 0 shares) + length s.told.items
length-told_more shares longer s pass put count = omega (arith, ap length (told_more shares longer s pass put count), length-append (told_in 0 shares) (of_pass pass s.told.items), length-map {B = ℕ × RecordEntry} s.told.items (λ (t : Told). (pass, entry_of t)))

pub illegal_on : (f : Fault) (P Q : ℕ → Type 0) → ((line : ℕ) → P line → Q line) → IfIllegal f P → IfIllegal f Q
illegal_on (Illegal line) P Q on h = on line h
illegal_on NoMemory P Q on h = tt
illegal_on (BadScript line check) P Q on h = h
illegal_on Read P Q on h = h
illegal_on Write P Q on h = h
illegal_on Limit P Q on h = h

pub err_on : {A : Type 0} (r : Result A Fault) (f : Fault) (P Q : ℕ → Type 0) → r ≡ Err f → ((line : ℕ) → P line → Q line) → IfIllegal f P → IfErr r (λ fault. IfIllegal fault Q)
err_on r f P Q is on h = subst (λ x. IfErr x (λ fault. IfIllegal fault Q)) (sym is) (illegal_on f P Q on h)

pub on_ok : {A : Type 0} (r : Result A Fault) (P Q : Type 0) → (P → Q) → OnOk r P → OnOk r Q
on_ok (Ok x) P Q f h = f h
on_ok (Err e) P Q f h = tt

pub on_err : {A : Type 0} (r : Result A Fault) (N : Type 0) (Q : ℕ → Type 0) (line : ℕ) → (N → Q line) → IfErr r (λ fault. (fault ≡ Illegal line) × N) → IfErr r (λ fault. IfIllegal fault Q)
on_err (Ok x) N Q line f h = tt
on_err (Err e) N Q line f h = subst (λ x. IfIllegal x Q) (sym h.0) (f h.1)
