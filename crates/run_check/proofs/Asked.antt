-- Commands asked in turn, and the lines that tell their replies.
use Rattle.std.proofs.Common.{◌≡◌, ◌≢◌, ◌==◌, ◌≤◌, filter, ℕ, ◌+◌, ◌<◌, zero, suc, Bool, true, false, Result, Err, IfErr, List, [], ◌∷◌, ◌++◌, Some, map, length, get_or, take, drop, refl, sym, ap, ◌∙◌, subst, arith, append_assoc, length-append}
use Rattle.std.specs.Prelude.{All, slice_get}
use Rattle.std.proofs.Math.Seq.{take-suc, drop-cons}
use Rattle.std.proofs.lemmas.List.{map-append, take-append-drop, take_all, length-map}
use Rattle.std.proofs.lemmas.List.Sums.{length-filter, count_by-le-length}
use Rattle.std.proofs.lemmas.List.Elements.{All-append, All-map, All-filter}
use Rattle.kmem_text.specs.ReplyRows.{IsReplyTo}
use Rattle.kmem_text.specs.declared.command.Command.{Command}
use Rattle.kmem_text.specs.declared.command.Line.{Line}
use Rattle.kmem_text.specs.declared.command.Reply.{Reply}
use Rattle.kmem_model.specs.declared.record_entry.RecordEntry.{RecordEntry}
use Rattle.kmem_model.specs.History.{numbered, commands_of}
use Rattle.kmem_model.specs.RunLines.{reply_line}
use Rattle.kmem_model.specs.Checked.{answered}
use Rattle.kmem_model.specs.Checked.{Asked, asked_by_entry, TellsReply}
use Rattle.run_check.specs.Told.{IsWithin, asked_by_pass, entry_of, of_pass, HasRead, StopsReading}
use Rattle.run_check.specs.Faults.{IfIllegal}
use Rattle.run_check.specs.declared.fault.Fault.{Fault}
use Rattle.run_check.specs.declared.fault.Fault.TheVariants.{Illegal}
use Rattle.run_check.specs.declared.told.Told.{Told}

-- the command of a pass with this number
abbrev pub asked_as : ℕ → ℕ → Command → Asked
asked_as pass number command = record { pass = pass; number = number; command = command }

abbrev asked_from : ℕ → ℕ → List Command → List Asked
asked_from pass n cs = map (λ c. asked_as pass c.0 c.1) (numbered n cs)

length-asked_from : (pass n : ℕ) (cs : List Command) → length (asked_from pass n cs) ≡ length cs
length-asked_from pass n [] = refl
length-asked_from pass n (c ∷ cs) = ap suc (length-asked_from pass (n + 1) cs)

pub length-asked : (pass : ℕ) (cs : List Command) → length (asked_by_pass pass cs) ≡ length cs
length-asked pass cs = length-asked_from pass 1 cs

asked_from_at : (pass n : ℕ) (cs : List Command) (i : ℕ) (d : Asked) (c : Command) → i < length cs → get_or (asked_from pass n cs) i d ≡ asked_as pass (n + i) (get_or cs i c)
asked_from_at pass n [] i d c small = absurd (omega arith)
asked_from_at pass n (x ∷ cs) zero d c small = ap (λ m. asked_as pass m x) (omega arith)
asked_from_at pass n (x ∷ cs) (suc i) d c small = asked_from_at pass (n + 1) cs i d c (omega arith) ∙ ap (λ m. asked_as pass m (get_or cs i c)) (omega arith)

-- the command at a place, with what stands before and behind it
pub asked_at : (pass : ℕ) (cs : List Command) (i : ℕ) (c : Command) → i < length cs → asked_by_pass pass cs ≡ take i (asked_by_pass pass cs) ++ asked_as pass (i + 1) (get_or cs i c) ∷ drop (suc i) (asked_by_pass pass cs)
asked_at pass cs i c small =
    let asked = asked_by_pass pass cs in
    let d = asked_as pass 0 c in
    let within : i < length asked = omega (arith, length-asked pass cs) in
    let is : get_or asked i d ≡ asked_as pass (i + 1) (get_or cs i c) = asked_from_at pass 1 cs i d c small ∙ ap (λ m. asked_as pass m (get_or cs i c)) (omega arith) in
    sym (take-append-drop i asked) ∙ ap (λ xs. take i asked ++ xs) (drop-cons asked i d within ∙ ap (λ a. a ∷ drop (suc i) asked) is)

pub asked_more : (pass : ℕ) (cs : List Command) (i : ℕ) (c : Command) → i < length cs → take (i + 1) (asked_by_pass pass cs) ≡ take i (asked_by_pass pass cs) ++ asked_as pass (i + 1) (get_or cs i c) ∷ []
asked_more pass cs i c small =
    let asked = asked_by_pass pass cs in
    let d = asked_as pass 0 c in
    let within : i < length asked = omega (arith, length-asked pass cs) in
    let is : get_or asked i d ≡ asked_as pass (i + 1) (get_or cs i c) = asked_from_at pass 1 cs i d c small ∙ ap (λ m. asked_as pass m (get_or cs i c)) (omega arith) in
    let next : i + 1 ≡ suc i = omega arith in
    ap (λ n. take n asked) next ∙ take-suc asked i d within ∙ ap (λ a. take i asked ++ a ∷ []) is

pub one_is : {X : Type 0} (P : X → Type 0) (x : X) → P x → All P (x ∷ [])
one_is P x h zero d small = h
one_is P x h (suc k) d small = absurd (omega arith)

-- a line more is read
pub reads_more : (names : List (List ℕ)) (asked : List Asked) (told : List (ℕ × RecordEntry)) (before mid after : List (List ℕ)) (a : Asked) (e : ℕ × RecordEntry) → HasRead names asked told before mid → asked_by_entry e ≡ a → IsReplyTo (length names) e.1.command e.1.reply → mid ≡ reply_line names (answered e) ∷ after → HasRead names (asked ++ a ∷ []) (told ++ e ∷ []) before after
reads_more names asked told before mid after a e h asks may line = record {
  asks = map-append asked_by_entry told (e ∷ []) ∙ (λ i. h.asks i ++ asks i ∷ []);
  may = All-append (λ (x : ℕ × RecordEntry). IsReplyTo (length names) x.1.command x.1.reply) told (e ∷ []) h.may (one_is (λ (x : ℕ × RecordEntry). IsReplyTo (length names) x.1.command x.1.reply) e may);
  lines =
      h.lines ∙ ap (λ xs. map (λ x. reply_line names (answered x)) told ++ xs) line
      ∙ sym (append_assoc (map (λ x. reply_line names (answered x)) told) (reply_line names (answered e) ∷ []) after)
      ∙ ap (λ xs. xs ++ after) (sym (map-append (λ x. reply_line names (answered x)) told (e ∷ [])));
}

pub reads_none : (names : List (List ℕ)) (before : List (List ℕ)) → HasRead names [] [] before before
reads_none names before = record { asks = refl; may = λ k d small. absurd (omega arith); lines = refl }

-- reading goes on
pub reads_on : (names : List (List ℕ)) (asked asked' : List Asked) (told told' : List (ℕ × RecordEntry)) (before mid after : List (List ℕ)) → HasRead names asked told before mid → HasRead names asked' told' mid after → HasRead names (asked ++ asked') (told ++ told') before after
reads_on names asked asked' told told' before mid after h k = record {
  asks = map-append asked_by_entry told told' ∙ (λ i. h.asks i ++ k.asks i);
  may = All-append (λ (x : ℕ × RecordEntry). IsReplyTo (length names) x.1.command x.1.reply) told told' h.may k.may;
  lines =
      h.lines ∙ ap (λ xs. map (λ x. reply_line names (answered x)) told ++ xs) k.lines
      ∙ sym (append_assoc (map (λ x. reply_line names (answered x)) told) (map (λ x. reply_line names (answered x)) told') after)
      ∙ ap (λ xs. xs ++ after) (sym (map-append (λ x. reply_line names (answered x)) told told'));
}

-- what stops behind lines that are read stops there
pub stops_on : (names : List (List ℕ)) (asked asked' rest : List Asked) (told : List (ℕ × RecordEntry)) (before mid : List (List ℕ)) (count : ℕ) → HasRead names asked told before mid → StopsReading names asked' mid count → StopsReading names (asked ++ (asked' ++ rest)) before (length told + count)
stops_on names asked asked' rest told before mid count h s = record {
  told = told ++ s.told;
  front = asked ++ s.front;
  next = s.next;
  more = s.more ++ rest;
  after = s.after;
  whole = ap (λ xs. asked ++ (xs ++ rest)) s.whole ∙ ap (λ xs. asked ++ xs) (append_assoc s.front (s.next ∷ s.more) rest) ∙ sym (append_assoc asked s.front (s.next ∷ (s.more ++ rest)));
  read = reads_on names asked s.front told s.told before mid s.after h s.read;
  counted = ap (λ n. length told + n) s.counted ∙ sym (length-append told s.told);
  refused = s.refused;
}

-- the next command of a pass is replied to by the next line
pub reads_next : (names : List (List ℕ)) (pass i : ℕ) (cs : List Command) (c : Command) (t : Told) (told longer : List Told) (before mid after : List (List ℕ)) → i < length cs → c ≡ get_or cs i c → t.number ≡ i + 1 → t.command ≡ c → IsReplyTo (length names) t.command t.reply → mid ≡ reply_line names (record { worker = pass + 1; number = i + 1; reply = t.reply }) ∷ after → longer ≡ told ++ t ∷ [] → HasRead names (take i (asked_by_pass pass cs)) (of_pass pass told) before mid → HasRead names (take (i + 1) (asked_by_pass pass cs)) (of_pass pass longer) before after
reads_next names pass i cs c t told longer before mid after small at number command may line put h =
    let e : ℕ × RecordEntry = (pass, entry_of t) in
    let asks : asked_by_entry e ≡ asked_as pass (i + 1) (get_or cs i c) = λ j. asked_as pass (number j) ((command ∙ at) j) in
    let told_line : mid ≡ reply_line names (answered e) ∷ after = line ∙ ap (λ n. reply_line names (record { worker = pass + 1; number = n; reply = t.reply }) ∷ after) (sym number) in
    let read = reads_more names (take i (asked_by_pass pass cs)) (of_pass pass told) before mid after (asked_as pass (i + 1) (get_or cs i c)) e h asks may told_line in
    let entries : of_pass pass told ++ e ∷ [] ≡ of_pass pass longer = sym (ap (of_pass pass) put ∙ map-append (λ t. (pass, entry_of t)) told (t ∷ [])) in
    subst (λ xs. HasRead names xs (of_pass pass longer) before after) (sym (asked_more pass cs i c small))
    (subst (λ xs. HasRead names (take i (asked_by_pass pass cs) ++ asked_as pass (i + 1) (get_or cs i c) ∷ []) xs before after) entries read)

-- or by none
pub stops_here : (names : List (List ℕ)) (pass i : ℕ) (cs : List Command) (c : Command) (told : List Told) (before mid : List (List ℕ)) → i < length cs → c ≡ get_or cs i c → length told ≡ i → ((reply : Reply) → IsReplyTo (length names) c reply → slice_get mid 0 ≢ Some (reply_line names (record { worker = pass + 1; number = i + 1; reply = reply }))) → HasRead names (take i (asked_by_pass pass cs)) (of_pass pass told) before mid → StopsReading names (asked_by_pass pass cs) before i
stops_here names pass i cs c told before mid small at count none h = record {
  told = of_pass pass told;
  front = take i (asked_by_pass pass cs);
  next = asked_as pass (i + 1) (get_or cs i c);
  more = drop (suc i) (asked_by_pass pass cs);
  after = mid;
  whole = asked_at pass cs i c small;
  read = h;
  counted = sym count ∙ sym (length-map told (λ (t : Told). (pass, entry_of t)));
  refused = λ line is tells. none tells.0 (subst (λ x. IsReplyTo (length names) x tells.0) (sym at) tells.1) (is ∙ ap Some tells.2);
}

-- all commands are replied to
pub reads_all : (names : List (List ℕ)) (pass i : ℕ) (cs : List Command) (told : List (ℕ × RecordEntry)) (before after : List (List ℕ)) → length cs ≤ i → HasRead names (take i (asked_by_pass pass cs)) told before after → HasRead names (asked_by_pass pass cs) told before after
reads_all names pass i cs told before after all h = subst (λ xs. HasRead names xs told before after) (take_all i (asked_by_pass pass cs) (omega (arith, length-asked pass cs))) h

pub illegal_is : {A : Type 0} (r : Result A Fault) (P : ℕ → Type 0) (line : ℕ) → r ≡ Err (Illegal line) → P line → IfErr r (λ f. IfIllegal f P)
illegal_is r P line is h = subst (λ x. IfErr x (λ f. IfIllegal f P)) (sym is) h

pub few_commands : (worker : ℕ) (lines : List Line) → length (commands_of worker lines) ≤ length lines
few_commands worker lines =
    omega (arith, length-map (filter (λ l. l.worker == worker) lines) (λ (l : Line). l.command), length-filter (λ (l : Line). l.worker == worker) lines, count_by-le-length (λ (l : Line). l.worker == worker) lines)

-- the next command is within the script where all are
pub within_more : (names : List (List ℕ)) (cs : List Command) (i : ℕ) (c : Command) (t : Told) (told longer : List Told) → i < length cs → c ≡ get_or cs i c → t.command ≡ c → longer ≡ told ++ t ∷ [] → All (IsWithin (length names)) cs → All (λ (t : Told). IsWithin (length names) t.command) told → All (λ (t : Told). IsWithin (length names) t.command) longer
within_more names cs i c t told longer small at command put all h =
    let it : IsWithin (length names) t.command = subst (IsWithin (length names)) (sym (command ∙ at)) (all i c small) in
    subst (All (λ (t : Told). IsWithin (length names) t.command)) (sym put) (All-append (λ (t : Told). IsWithin (length names) t.command) told (t ∷ []) h (one_is (λ (t : Told). IsWithin (length names) t.command) t it))

-- a worker's commands are within the script where all are
pub commands_within : (names worker : ℕ) (lines : List Line) → All (λ (l : Line). IsWithin names l.command) lines → All (IsWithin names) (commands_of worker lines)
commands_within names worker lines h =
    All-map (IsWithin names) (λ (l : Line). l.command) (filter (λ l. l.worker == worker) lines) (All-filter (λ (l : Line). l.worker == worker) (λ (l : Line). IsWithin names l.command) lines h)
