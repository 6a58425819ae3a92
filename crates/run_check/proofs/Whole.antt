-- A run without an illegal line tells a history of its script.
use Rattle.std.proofs.Common.{◌≡◌, ◌≢◌, ◌==◌, ◌⊎◌, ℕ, ◌+◌, ◌<◌, ◌≤◌, zero, suc, Bool, true, false, cond, List, [], ◌∷◌, ◌++◌, map, filter, length, drop, refl, sym, ap, ◌∙◌, subst, arith, inl, inr, length-append, append_assoc, append-nil}
use Rattle.std.specs.Prelude.{All}
use Rattle.std.specs.List.{flat_map, range_with_len}
use Rattle.std.proofs.lemmas.List.{length-map, map-append}
use Rattle.std.proofs.lemmas.Bool.{cases_lt}
use Rattle.kmem_text.specs.Grammar.{Plain}
use Rattle.kmem_text.specs.Scripts.{IsWorker}
use Rattle.kmem_text.specs.declared.command.Command.{Command}
use Rattle.kmem_text.specs.declared.command.Line.{Line}
use Rattle.kmem_model.specs.declared.record_entry.RecordEntry.{RecordEntry}
use Rattle.kmem_model.specs.History.{worker_of, commands_of, numbered, asked_by, own_entries, IsShared}
use Rattle.kmem_model.specs.RunLines.{ReplyAt, place_line, reply_line, replies_at, replies_to, by_worker, run_lines, IsHistoryOf}
use Rattle.kmem_model.specs.Checked.{Asked, answered, asked_by_entry, asked_in_turn, asked_of_pass, TellsHistory, run_header, replies_header, history_header, report_header}
use Rattle.run_check.specs.Told.{entry_of, of_pass, HasRead}
use Rattle.run_check.specs.Shares.{told_in, left_of, left_in}
use Rattle.run_check.specs.Replayed.{HasReplayed}
use Rattle.run_check.specs.declared.share.Share.{Share}
use Rattle.run_check.specs.declared.told.Told.{Told}
use Rattle.run_check.proofs.KeptMaps.{same_or_not, itself}
use Rattle.run_check.proofs.Replaying.{not_itself}
use Rattle.run_check.proofs.ShareLists.{turn_suc, left_within, no_cons}
use Rattle.run_check.proofs.PlacesStand.{places_of, own_both}
use Rattle.run_check.proofs.Totals.{total, total_same, none_in_total, total_left}

-- What each pass was told

own_pass : (q : ℕ) (told : List Told) → own_entries q (of_pass q told) ≡ map entry_of told
own_pass q [] = refl
own_pass q (t ∷ told) = ap (λ b. map (λ (x : ℕ × RecordEntry). x.1) (cond b ((q, entry_of t) ∷ filter (λ x. x.0 == q) (of_pass q told)) (filter (λ x. x.0 == q) (of_pass q told)))) (itself q) ∙ ap (λ xs. entry_of t ∷ xs) (own_pass q told)

own_other : (p q : ℕ) (told : List Told) → p ≢ q → own_entries p (of_pass q told) ≡ []
own_other p q [] other = refl
own_other p q (t ∷ told) other = ap (λ b. map (λ (x : ℕ × RecordEntry). x.1) (cond b ((q, entry_of t) ∷ filter (λ x. x.0 == p) (of_pass q told)) (filter (λ x. x.0 == p) (of_pass q told)))) (not_itself p q other) ∙ own_other p q told other

own_below : (p q : ℕ) (shares : List Share) → p < q → own_entries p (told_in q shares) ≡ []
own_below p q [] small = refl
own_below p q (s ∷ shares) small =
    own_both p (of_pass q s.told.items) (told_in (q + 1) shares)
    ∙ (λ i. own_other p q s.told.items (λ e. omega arith) i ++ own_below p (q + 1) shares (omega arith) i)

own_in : (q p : ℕ) (shares : List Share) → All (λ (s : Share). s.next ≡ 0) shares → own_entries (q + p) (told_in q shares) ≡ left_in shares p
own_in q p [] fresh = refl
own_in q zero (s ∷ shares) fresh =
    let at : q + 0 ≡ q = omega arith in
    ap (λ n. own_entries n (of_pass q s.told.items ++ told_in (q + 1) shares)) at
    ∙ own_both q (of_pass q s.told.items) (told_in (q + 1) shares)
    ∙ (λ i. own_pass q s.told.items i ++ own_below q (q + 1) shares (omega arith) i)
    ∙ append-nil (map entry_of s.told.items)
    ∙ ap (λ n. map entry_of (drop n s.told.items)) (sym (fresh 0 s (omega arith)))
own_in q (suc p) (s ∷ shares) fresh =
    let at : q + suc p ≡ (q + 1) + p = omega arith in
    own_both (q + suc p) (of_pass q s.told.items) (told_in (q + 1) shares)
    ∙ (λ i. own_other (q + suc p) q s.told.items (λ e. omega arith) i ++ own_entries (at i) (told_in (q + 1) shares))
    ∙ own_in (q + 1) p shares (λ k d small. fresh (suc k) d (omega arith))

pub fresh_left : (shares : List Share) → All (λ (s : Share). s.next ≡ 0) shares → (p : ℕ) → own_entries p (told_in 0 shares) ≡ left_in shares p
fresh_left shares fresh p = let at : p ≡ 0 + p = omega arith in ap (λ n. own_entries n (told_in 0 shares)) at ∙ own_in 0 p shares fresh

length-left : (q : ℕ) (shares : List Share) → All (λ (s : Share). s.next ≡ 0) shares → total (length shares) (λ p. length (left_in shares p)) ≡ length (told_in q shares)
length-left q [] fresh = refl
length-left q (s ∷ shares) fresh =
    let first : length (left_of s) ≡ length s.told.items = ap (λ n. length (map entry_of (drop n s.told.items))) (fresh 0 s (omega arith)) ∙ length-map s.told.items entry_of in
    omega (arith, first, length-left (q + 1) shares (λ k d small. fresh (suc k) d (omega arith)), length-append (of_pass q s.told.items) (told_in (q + 1) shares), length-map {B = ℕ × RecordEntry} s.told.items (λ (t : Told). (q, entry_of t)))

empty_is : (xs : List RecordEntry) → length xs ≡ 0 → xs ≡ []
empty_is [] e = refl
empty_is (x ∷ xs) e = absurd (omega arith)

none_left_beyond : (shares : List Share) (p : ℕ) → length shares ≤ p → left_in shares p ≡ []
none_left_beyond [] p beyond = refl
none_left_beyond (s ∷ shares) zero beyond = absurd (omega arith)
none_left_beyond (s ∷ shares) (suc p) beyond = none_left_beyond shares p (omega arith)

-- once as many entries have come as were told, each pass has had all of its own
pub all_come : (shares : List Share) (h : List (ℕ × RecordEntry)) (left' : ℕ → List RecordEntry) → length shares ≤ 16 → All (λ (s : Share). s.next ≡ 0) shares → length h ≡ length (told_in 0 shares) → ((p : ℕ) → left_in shares p ≡ own_entries p h ++ left' p) → (p : ℕ) → own_entries p h ≡ left_in shares p
all_come shares h left' small fresh len turns p =
    let sum = total_left (length shares) (left_in shares) left' h small (λ q e rest is. left_within shares q e rest is) turns in
    let zero_left : total (length shares) (λ q. length (left' q)) ≡ 0 = omega (arith, sum, length-left 0 shares fresh, len) in
    let none : left' p ≡ [] = elim (cases_lt p (length shares)) [
      | inl below ↦ empty_is (left' p) (none_in_total (length shares) (λ q. length (left' q)) zero_left p below)
      | inr beyond ↦ empty_is (left' p) (omega (arith, ap length (none_left_beyond shares p beyond), ap length (turns p), length-append (own_entries p h) (left' p)))
    ] in
    sym (turns p ∙ ap (λ xs. own_entries p h ++ xs) none ∙ append-nil (own_entries p h))

-- Shares of the script

abbrev numbers : RecordEntry → ℕ × Command
numbers e = (e.number, e.command)

asked_own : (p : ℕ) (h : List (ℕ × RecordEntry)) → asked_by p h ≡ map numbers (own_entries p h)
asked_own p [] = refl
asked_own p (e ∷ h) = elim (e.0 == p) as (λ b. map (λ (x : ℕ × RecordEntry). (x.1.number, x.1.command)) (cond b (e ∷ filter (λ x. x.0 == p) h) (filter (λ x. x.0 == p) h)) ≡ map numbers (map (λ (x : ℕ × RecordEntry). x.1) (cond b (e ∷ filter (λ x. x.0 == p) h) (filter (λ x. x.0 == p) h)))) [
  | true ↦ ap (λ xs. (e.1.number, e.1.command) ∷ xs) (asked_own p h)
  | false ↦ asked_own p h
]

abbrev pair_of : Asked → ℕ × Command
pair_of a = (a.number, a.command)

abbrev asked_to : ℕ → List Asked → List (ℕ × Command)
asked_to p asked = map pair_of (filter (λ a. a.pass == p) asked)

asked_told : (p : ℕ) (told : List (ℕ × RecordEntry)) → asked_by p told ≡ asked_to p (map asked_by_entry told)
asked_told p [] = refl
asked_told p (e ∷ told) = elim (e.0 == p) as (λ b. map (λ (x : ℕ × RecordEntry). (x.1.number, x.1.command)) (cond b (e ∷ filter (λ x. x.0 == p) told) (filter (λ x. x.0 == p) told)) ≡ map pair_of (cond b (asked_by_entry e ∷ filter (λ a. a.pass == p) (map asked_by_entry told)) (filter (λ a. a.pass == p) (map asked_by_entry told)))) [
  | true ↦ ap (λ xs. (e.1.number, e.1.command) ∷ xs) (asked_told p told)
  | false ↦ asked_told p told
]

asked_both : (p : ℕ) (xs ys : List Asked) → asked_to p (xs ++ ys) ≡ asked_to p xs ++ asked_to p ys
asked_both p [] ys = refl
asked_both p (a ∷ xs) ys = elim (a.pass == p) as (λ b. map pair_of (cond b (a ∷ filter (λ a. a.pass == p) (xs ++ ys)) (filter (λ a. a.pass == p) (xs ++ ys))) ≡ map pair_of (cond b (a ∷ filter (λ a. a.pass == p) xs) (filter (λ a. a.pass == p) xs)) ++ asked_to p ys) [
  | true ↦ ap (λ zs. (a.number, a.command) ∷ zs) (asked_both p xs ys)
  | false ↦ asked_both p xs ys
]

abbrev asked_as : ℕ → List (ℕ × Command) → List Asked
asked_as q cs = map (λ c. record { pass = q; number = c.0; command = c.1 }) cs

asked_same : (q : ℕ) (cs : List (ℕ × Command)) → asked_to q (asked_as q cs) ≡ cs
asked_same q [] = refl
asked_same q (c ∷ cs) =
    ap (λ b. map pair_of (cond b (record { pass = q; number = c.0; command = c.1 } ∷ filter (λ a. a.pass == q) (asked_as q cs)) (filter (λ a. a.pass == q) (asked_as q cs)))) (itself q)
    ∙ ap (λ xs. (c.0, c.1) ∷ xs) (asked_same q cs)

asked_other : (p q : ℕ) (cs : List (ℕ × Command)) → p ≢ q → asked_to p (asked_as q cs) ≡ []
asked_other p q [] other = refl
asked_other p q (c ∷ cs) other =
    ap (λ b. map pair_of (cond b (record { pass = q; number = c.0; command = c.1 } ∷ filter (λ a. a.pass == p) (asked_as q cs)) (filter (λ a. a.pass == p) (asked_as q cs)))) (not_itself p q other)
    ∙ asked_other p q cs other

turns_beyond : (n p : ℕ) (lines : List Line) → n ≤ p → asked_to p (asked_in_turn n lines) ≡ []
turns_beyond zero p lines beyond = refl
turns_beyond (suc n) p lines beyond =
    ap (asked_to p) (turn_suc n lines) ∙ asked_both p (asked_in_turn n lines) (asked_of_pass lines n)
    ∙ (λ i. turns_beyond n p lines (omega arith) i ++ asked_other p n (numbered 1 (commands_of (worker_of n) lines)) (λ e. omega arith) i)

turns_of : (n p : ℕ) (lines : List Line) → p < n → asked_to p (asked_in_turn n lines) ≡ numbered 1 (commands_of (worker_of p) lines)
turns_of zero p lines small = absurd (omega arith)
turns_of (suc n) p lines small =
    ap (asked_to p) (turn_suc n lines) ∙ asked_both p (asked_in_turn n lines) (asked_of_pass lines n)
    ∙ elim (same_or_not p n) as (λ _. asked_to p (asked_in_turn n lines) ++ asked_to p (asked_of_pass lines n) ≡ numbered 1 (commands_of (worker_of p) lines)) [
      | inl s ↦
          (λ i. turns_beyond n p lines (omega (arith, s.0)) i ++ asked_to (s.0 i) (asked_of_pass lines n))
          ∙ asked_same n (numbered 1 (commands_of (worker_of n) lines)) ∙ ap (λ q. numbered 1 (commands_of (worker_of q) lines)) (sym s.0)
      | inr s ↦
          (λ i. turns_of n p lines (omega (arith, s.0)) i ++ asked_other p n (numbered 1 (commands_of (worker_of n) lines)) s.0 i)
          ∙ append-nil (numbered 1 (commands_of (worker_of p) lines))
    ]

none_beyond : (n p : ℕ) (lines : List Line) → All (λ (l : Line). IsWorker n l.worker) lines → n ≤ p → commands_of (worker_of p) lines ≡ []
none_beyond n p [] all beyond = refl
none_beyond n p (l ∷ lines) all beyond =
    let first = all 0 l (omega arith) in
    ap (λ b. map (λ (x : Line). x.command) (cond b (l ∷ filter (λ x. x.worker == worker_of p) lines) (filter (λ x. x.worker == worker_of p) lines))) (not_itself (worker_of p) l.worker (λ e. omega (arith, first.1)))
    ∙ none_beyond n p lines (λ k d small. all (suc k) d (omega arith)) beyond

shared_is : (workers : ℕ) (lines : List Line) (told h : List (ℕ × RecordEntry)) → All (λ (l : Line). IsWorker workers l.worker) lines → map asked_by_entry told ≡ asked_in_turn workers lines → ((p : ℕ) → own_entries p h ≡ own_entries p told) → IsShared h lines
shared_is workers lines told h all asks own pass =
    asked_own pass h ∙ ap (map numbers) (own pass) ∙ sym (asked_own pass told) ∙ asked_told pass told ∙ ap (asked_to pass) asks
    ∙ elim (cases_lt pass workers) as (λ _. asked_to pass (asked_in_turn workers lines) ≡ numbered 1 (commands_of (worker_of pass) lines)) [
      | inl below ↦ turns_of workers pass lines below
      | inr beyond ↦ turns_beyond workers pass lines beyond ∙ ap (numbered 1) (sym (none_beyond workers pass lines all beyond))
    ]

-- The printed lines

to_worker : (p : ℕ) (h : List (ℕ × RecordEntry)) → replies_to (replies_at h) (p + 1) ≡ map (λ x. answered (p, x)) (own_entries p h)
to_worker p [] = refl
to_worker p (e ∷ h) = elim (same_or_not e.0 p) [
  | inl s ↦
      ap (λ b. cond b (answered e ∷ replies_to (replies_at h) (p + 1)) (replies_to (replies_at h) (p + 1))) (ap (λ n. n + 1 == p + 1) s.0 ∙ itself (p + 1))
      ∙ (λ i. answered (s.0 i, e.1) ∷ to_worker p h i)
      ∙ sym (ap (λ b. map (λ (x : RecordEntry). answered (p, x)) (map (λ (x : ℕ × RecordEntry). x.1) (cond b (e ∷ filter (λ x. x.0 == p) h) (filter (λ x. x.0 == p) h)))) s.1)
  | inr s ↦
      ap (λ b. cond b (answered e ∷ replies_to (replies_at h) (p + 1)) (replies_to (replies_at h) (p + 1))) (not_itself (p + 1) (e.0 + 1) (λ q. s.0 (omega arith)))
      ∙ to_worker p h
      ∙ sym (ap (λ b. map (λ (x : RecordEntry). answered (p, x)) (map (λ (x : ℕ × RecordEntry). x.1) (cond b (e ∷ filter (λ x. x.0 == p) h) (filter (λ x. x.0 == p) h)))) s.1)
]

answers_of : (q : ℕ) (told : List Told) → map (λ x. answered (q, x)) (map entry_of told) ≡ map answered (of_pass q told)
answers_of q [] = refl
answers_of q (t ∷ told) = ap (λ xs. answered (q, entry_of t) ∷ xs) (answers_of q told)

by_shares : (q : ℕ) (shares : List Share) (h : List (ℕ × RecordEntry)) → All (λ (s : Share). s.next ≡ 0) shares → ((p : ℕ) → own_entries (q + p) h ≡ left_in shares p) → flat_map (replies_to (replies_at h)) (range_with_len (q + 1) (length shares)) ≡ map answered (told_in q shares)
by_shares q [] h fresh own = refl
by_shares q (s ∷ shares) h fresh own =
    let at : q ≡ q + 0 = omega arith in
    let first : replies_to (replies_at h) (q + 1) ≡ map answered (of_pass q s.told.items) =
    to_worker q h ∙ ap (λ n. map (λ x. answered (q, x)) (own_entries n h)) at ∙ ap (map (λ x. answered (q, x))) (own 0)
    ∙ ap (λ n. map (λ x. answered (q, x)) (map entry_of (drop n s.told.items))) (fresh 0 s (omega arith)) ∙ answers_of q s.told.items in
    let rest = by_shares (q + 1) shares h (λ k d small. fresh (suc k) d (omega arith)) (λ p. ap (λ n. own_entries n h) (omega arith) ∙ own (suc p)) in
    (λ i. first i ++ rest i) ∙ sym (map-append answered (of_pass q s.told.items) (told_in (q + 1) shares))

mapped_twice : {A B C : Type 0} (f : B → C) (g : A → B) (xs : List A) → map f (map g xs) ≡ map (λ x. f (g x)) xs
mapped_twice f g [] = refl
mapped_twice f g (x ∷ xs) = ap (λ ys. f (g x) ∷ ys) (mapped_twice f g xs)

-- the run tells a history of the script
pub tells_history : (workers : ℕ) (script : Plain) (run before after places rest behind : List (List ℕ)) (shares : List Share) (h : List (ℕ × RecordEntry)) (left' : ℕ → List RecordEntry) → workers ≡ length shares → length shares ≤ 16 → All (λ (l : Line). IsWorker workers l.worker) script.lines → All (λ (s : Share). s.next ≡ 0) shares → run ≡ run_header ∷ replies_header ∷ before → HasRead script.names (asked_in_turn workers script.lines) (told_in 0 shares) before after → after ≡ history_header ∷ places → HasReplayed (length script.names) workers h (left_in shares) places left' rest → length h ≡ length (told_in 0 shares) → rest ≡ report_header ∷ behind → TellsHistory workers script run
tells_history workers script run before after places rest behind shares h left' count small all fresh run_is read after_is replayed len rest_is =
    let told = told_in 0 shares in
    let come = all_come shares h left' small fresh len replayed.turns in
    let own : (p : ℕ) → own_entries p h ≡ own_entries p told = λ p. come p ∙ sym (fresh_left shares fresh p) in
    let by : by_worker workers (replies_at h) ≡ map answered told =
    ap (λ n. flat_map (replies_to (replies_at h)) (range_with_len 1 n)) count
    ∙ by_shares 0 shares h fresh (λ p. ap (λ n. own_entries n h) (omega arith) ∙ come p) in
    let replies : map (reply_line script.names) (by_worker workers (replies_at h)) ≡ map (λ e. reply_line script.names (answered e)) told = ap (map (reply_line script.names)) by ∙ mapped_twice (reply_line script.names) answered told in
    let placed : map place_line (replies_at h) ≡ places_of h = mapped_twice place_line answered h in
    let tail : places ≡ map place_line (replies_at h) ++ report_header ∷ behind = replayed.lines ∙ (λ i. sym placed i ++ rest_is i) in
    record {
      history = h;
      rest = behind;
      is = record { legal = replayed.legal; shared = shared_is workers script.lines told h all read.asks own };
      lines = run_is ∙ ap (λ xs. run_header ∷ replies_header ∷ xs)
          (read.lines ∙ (λ i. sym replies i ++ (after_is ∙ ap (λ xs. history_header ∷ xs) tail) i)
          ∙ sym (append_assoc (map (reply_line script.names) (by_worker workers (replies_at h))) (history_header ∷ map place_line (replies_at h)) (report_header ∷ behind)));
    }
