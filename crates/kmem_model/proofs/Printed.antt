-- What a run prints fixes its history.
use Rattle.std.proofs.Common.{◌≡◌, ◌≢◌, ◌⊎◌, ◌==◌, ◌+◌, ◌-◌, ◌/◌, ◌%◌, ◌^◌, ◌<◌, ◌≤◌, ◌++◌, ℕ, zero, suc, Bool, true, false, List, [], ◌∷◌, length, map, filter, get_or, set, Option, Some, None, is_some, is_none, refl, sym, ap, ap₂, ◌∙◌, subst, ⊎_elim, inl, inr, arith, append_assoc, length-append}
use Rattle.std.specs.Prelude.{codes, nat_lt}
use Rattle.std.specs.Fmt.{decimal, digits, digits_onto, digit_glyph}
use Rattle.std.specs.List.{range_with_len, list_all, AllByRecursion}
use Rattle.std.specs.Option.{option_map, option_map_or}
use Rattle.std.proofs.lemmas.Fmt.{decimal_injective}
use Rattle.std.proofs.lemmas.Bool.{and_parts, cases_eq, cases_lt, cond_both, cond-true, cond-false, eq-eqb, ne_eqb, eqb-true}
use Rattle.std.proofs.lemmas.List.{length-map}
use Rattle.std.proofs.lemmas.List.Elements.{recursion_from_All}
use Rattle.kmem_text.specs.Texts.{is_name, is_value, is_within, is_name_byte, is_value_byte}
use Rattle.kmem_text.specs.Grammar.{Plain}
use Rattle.kmem_text.specs.Scripts.{IsScript, IsWithValue}
use Rattle.kmem_text.specs.Replies.{reply_text}
use Rattle.kmem_text.specs.declared.command.Command.{Command}
use Rattle.kmem_text.specs.declared.command.Command.TheVariants.{Put, Get, Del, First, Next, Count, Link, Hold, Read, Write, Drop, Fix, Loose}
use Rattle.kmem_text.specs.declared.command.Line.{Line}
use Rattle.kmem_text.specs.declared.command.Reply.{Reply}
use Rattle.kmem_text.specs.declared.command.Reply.TheVariants.{New, Was, Full, Gone, Val, Absent, At, Number, Done, Taken, Many, Used, Idle}
use Rattle.kmem_model.specs.Records.{Record, RecordMap, id_of, held_at, value_at, record_at, tag_place, name_count, least_name, with_name, with_tag, without_unused, is_used, no_records}
use Rattle.kmem_model.specs.RecordStep.{Step, put_step, get_step, del_step, at_step, named_value, link_step, hold_step, read_step, write_step, drop_step, fix_step, step}
use Rattle.kmem_model.specs.declared.record_entry.RecordEntry.{RecordEntry}
use Rattle.kmem_model.specs.History.{worker_of, is_refusal, map_next, is_put_of_absent, IsRight, IsLegalHistory, commands_of, numbered, IsShared}
use Rattle.kmem_model.specs.RunLines.{ReplyAt, replies_at, place_line, reply_line, replies_to, by_worker, run_lines, run_text, IsHistoryOf}
use Rattle.kmem_model.proofs.PrintedLists.{first_of, rest_of, Avoids, avoids_both, cut_at, cut_lines, cut_parts, of_key, same_by_key, length_by_key, each_alike, IsKeyWithin, none_outside, all_by_key, keys_have, in_range, all_both, all_mapped, all_parts, parts_length}

-- Texts without a line feed

-- a line feed, and a space, are below every byte of a number
abbrev IsAbove : ℕ → List ℕ → Type 0
IsAbove low [] = Unit {0}
IsAbove low (b ∷ bs) = (low ≤ b) × IsAbove low bs

glyph_high : (d : ℕ) → 48 ≤ digit_glyph false d
glyph_high d = cond_both (nat_lt d 10) (48 + d) (87 + d) (λ g. 48 ≤ g) (λ small. omega arith) (λ large. omega arith)

digits_high : (k n : ℕ) (acc : List ℕ) → IsAbove 48 acc → IsAbove 48 (digits_onto k 10 false n acc)
digits_high zero n acc h = h
digits_high (suc k) n acc h =
    cond_both (n / 10 == 0) (digit_glyph false (n % 10) ∷ acc) (digits_onto k 10 false (n / 10) (digit_glyph false (n % 10) ∷ acc)) (IsAbove 48)
    (λ last. (glyph_high (n % 10), h))
    (λ more. digits_high k (n / 10) (digit_glyph false (n % 10) ∷ acc) (glyph_high (n % 10), h))

decimal_high : (n : ℕ) → IsAbove 48 (decimal n)
unfolding digits
decimal_high n = digits_high 64 n [] tt

above_avoids : (c low : ℕ) (bs : List ℕ) → c < low → IsAbove low bs → Avoids c bs
above_avoids c low [] small h = tt
above_avoids c low (b ∷ bs) small h = (λ same. omega (arith, same, small, h.0), above_avoids c low bs small h.1)

decimal_avoids : (c n : ℕ) → c < 48 → Avoids c (decimal n)
decimal_avoids c n small = above_avoids c 48 (decimal n) small (decimal_high n)

-- a text whose bytes pass a test that the byte fails
pub tested_avoids : (test : ℕ → Bool) (c : ℕ) → test c ≡ false → (bs : List ℕ) → list_all test bs ≡ true → Avoids c bs
tested_avoids test c fails [] h = tt
tested_avoids test c fails (b ∷ bs) h =
    let parts = and_parts (test b) (list_all test bs) h in
    (λ same. absurd (true_is_not_false (sym parts.0 ∙ (ap test same ∙ fails))), tested_avoids test c fails bs parts.1)
  where
    true_is_not_false : true ≡ false → ⊥
    true_is_not_false e = cc

pub name_avoids : (name : List ℕ) → is_name name ≡ true → Avoids 10 name
name_avoids name h = tested_avoids is_name_byte 10 refl name (and_parts (is_within 1 32 (length name)) (list_all is_name_byte name) h).1

pub value_avoids : (value : List ℕ) → is_value value ≡ true → Avoids 10 value
value_avoids value h = tested_avoids is_value_byte 10 refl value (and_parts (is_within 1 64 (length value)) (list_all is_value_byte value) h).1

place_avoids : (a : ReplyAt) → Avoids 10 (place_line a)
place_avoids a = avoids_both 10 (decimal a.worker) (32 ∷ decimal a.number) (decimal_avoids 10 a.worker (omega arith)) (λ same. omega (arith, same), decimal_avoids 10 a.number (omega arith))

-- Maps whose values have no line feed

abbrev IsPlainRecord : Option Record → Type 0
IsPlainRecord None = Unit {0}
IsPlainRecord (Some r) = Avoids 10 r.value

abbrev ArePlain : List (Option Record) → Type 0
ArePlain records = AllByRecursion IsPlainRecord records

plain_at : (records : List (Option Record)) (i : ℕ) → ArePlain records → IsPlainRecord (get_or records i None)
plain_at [] i h = tt
plain_at (r ∷ records) zero h = h.0
plain_at (r ∷ records) (suc i) h = plain_at records i h.1

plain_set : (records : List (Option Record)) (i : ℕ) (x : Option Record) → ArePlain records → IsPlainRecord x → ArePlain (set records i x)
plain_set [] i x h k = tt
plain_set (r ∷ records) zero x h k = (k, h.1)
plain_set (r ∷ records) (suc i) x h k = (h.0, plain_set records i x h.1 k)

plain_more : (records : List (Option Record)) (x : Option Record) → ArePlain records → IsPlainRecord x → ArePlain (records ++ x ∷ [])
plain_more [] x h k = (k, tt)
plain_more (r ∷ records) x h k = (h.0, plain_more records x h.1 k)

value_plain : (o : Option Record) → IsPlainRecord o → Avoids 10 (option_map_or (λ (r : Record). r.value) o [])
value_plain None h = tt
value_plain (Some r) h = h

changed_plain : (o : Option Record) (change : Record → Record) → ((r : Record) → Avoids 10 r.value → Avoids 10 (change r).value) → IsPlainRecord o → IsPlainRecord (option_map change o)
changed_plain None change keeps h = tt
changed_plain (Some r) change keeps h = keeps r h

abbrev IsPlainMap : RecordMap → Type 0
IsPlainMap m = ArePlain m.records

at_plain : (m : RecordMap) (id : ℕ) → IsPlainMap m → Avoids 10 (value_at m id)
at_plain m id h = value_plain (record_at m id) (plain_at m.records id h)

-- the value of the reply, if it has one, has no line feed
abbrev IsPlainReply : Reply → Type 0
IsPlainReply (Was value) = Avoids 10 value
IsPlainReply (Gone value) = Avoids 10 value
IsPlainReply (Val value) = Avoids 10 value
IsPlainReply (At name value) = Avoids 10 value
IsPlainReply _ = Unit {0}

record IsPlainStep (next : Step) : Type 0 where
  map : IsPlainMap next.map
  reply : IsPlainReply next.reply

put_plain : (m : RecordMap) (name : ℕ) (value : List ℕ) (id : Option ℕ) → IsPlainMap m → Avoids 10 value → IsPlainStep (put_step m name value id)
put_plain m name value None h k = record { map = plain_more m.records (Some (record { value = value; fixed = false })) h k; reply = tt }
put_plain m name value (Some id) h k = record {
  map = plain_set m.records id (option_map (λ (r : Record). record { value = value; fixed = r.fixed }) (record_at m id)) h
      (changed_plain (record_at m id) (λ (r : Record). record { value = value; fixed = r.fixed }) (λ r p. k) (plain_at m.records id h));
  reply = at_plain m id h;
}

get_plain : (m : RecordMap) (id : Option ℕ) → IsPlainMap m → IsPlainStep (get_step m id)
get_plain m None h = record { map = h; reply = tt }
get_plain m (Some id) h = record { map = h; reply = at_plain m id h }

unused_plain : (m : RecordMap) (id : ℕ) → IsPlainMap m → IsPlainMap (without_unused m id)
unused_plain m id h = cond_both (is_used m id) m (record m { records = set m.records id None }) IsPlainMap (λ used. h) (λ unused. plain_set m.records id None h tt)

del_plain : (m : RecordMap) (name : ℕ) (id : Option ℕ) → IsPlainMap m → IsPlainStep (del_step m name id)
del_plain m name None h = record { map = h; reply = tt }
del_plain m name (Some id) h = record { map = unused_plain (with_name m name None) id h; reply = at_plain m id h }

named_plain : (m : RecordMap) (id : Option ℕ) → IsPlainMap m → Avoids 10 (named_value m id)
named_plain m None h = tt
named_plain m (Some id) h = at_plain m id h

least_plain : (m : RecordMap) (name : Option ℕ) → IsPlainMap m → IsPlainStep (at_step m name)
least_plain m None h = record { map = h; reply = tt }
least_plain m (Some name) h = record { map = h; reply = named_plain m (id_of m name) h }

link_plain : (m : RecordMap) (other : ℕ) (id : Option ℕ) → IsPlainMap m → IsPlainStep (link_step m other id)
link_plain m other None h = record { map = h; reply = tt }
link_plain m other (Some id) h =
    cond_both (is_some (id_of m other)) _ _ IsPlainStep
    (λ taken. record { map = h; reply = tt })
    (λ free. cond_both (name_count m id == 8) _ _ IsPlainStep (λ many. record { map = h; reply = tt }) (λ few. record { map = h; reply = tt }))

hold_plain : (m : RecordMap) (place : ℕ) (held named : Option ℕ) → IsPlainMap m → IsPlainStep (hold_step m place held named)
hold_plain m place (Some id) named h = record { map = h; reply = tt }
hold_plain m place None None h = record { map = h; reply = tt }
hold_plain m place None (Some id) h = record { map = h; reply = tt }

read_plain : (m : RecordMap) (held : Option ℕ) → IsPlainMap m → IsPlainStep (read_step m held)
read_plain m None h = record { map = h; reply = tt }
read_plain m (Some id) h = record { map = h; reply = at_plain m id h }

write_plain : (m : RecordMap) (value : List ℕ) (held : Option ℕ) → IsPlainMap m → Avoids 10 value → IsPlainStep (write_step m value held)
write_plain m value None h k = record { map = h; reply = tt }
write_plain m value (Some id) h k = record {
  map = plain_set m.records id (option_map (λ (r : Record). record { value = value; fixed = r.fixed }) (record_at m id)) h
      (changed_plain (record_at m id) (λ (r : Record). record { value = value; fixed = r.fixed }) (λ r p. k) (plain_at m.records id h));
  reply = at_plain m id h;
}

drop_plain : (m : RecordMap) (place : ℕ) (held : Option ℕ) → IsPlainMap m → IsPlainStep (drop_step m place held)
drop_plain m place None h = record { map = h; reply = tt }
drop_plain m place (Some id) h = record { map = unused_plain (with_tag m place None) id h; reply = tt }

fix_plain : (m : RecordMap) (fixed : Bool) (id : Option ℕ) → IsPlainMap m → IsPlainStep (fix_step m fixed id)
fix_plain m fixed None h = record { map = h; reply = tt }
fix_plain m fixed (Some id) h = record {
  map = plain_set m.records id (option_map (λ (r : Record). record { value = r.value; fixed = fixed }) (record_at m id)) h
      (changed_plain (record_at m id) (λ (r : Record). record { value = r.value; fixed = fixed }) (λ r p. p) (plain_at m.records id h));
  reply = tt;
}

step_plain : (m : RecordMap) (worker : ℕ) (command : Command) → IsPlainMap m → IsWithValue command → IsPlainStep (step m worker command)
step_plain m worker (Put name value) h k = put_plain m name.0 value (id_of m name.0) h (value_avoids value k)
step_plain m worker (Get name) h k = get_plain m (id_of m name.0) h
step_plain m worker (Del name) h k = del_plain m name.0 (id_of m name.0) h
step_plain m worker First h k = least_plain m (least_name m 0) h
step_plain m worker (Next name) h k = least_plain m (least_name m (name.0 + 1)) h
step_plain m worker Count h k = record { map = h; reply = tt }
step_plain m worker (Link name other) h k = link_plain m other.0 (id_of m name.0) h
step_plain m worker (Hold tag name) h k = hold_plain m (tag_place worker tag) (held_at m (tag_place worker tag)) (id_of m name.0) h
step_plain m worker (Read tag) h k = read_plain m (held_at m (tag_place worker tag)) h
step_plain m worker (Write tag value) h k = write_plain m value (held_at m (tag_place worker tag)) h (value_avoids value k)
step_plain m worker (Drop tag) h k = drop_plain m (tag_place worker tag) (held_at m (tag_place worker tag)) h
step_plain m worker (Fix name) h k = fix_plain m true (id_of m name.0) h
step_plain m worker (Loose name) h k = fix_plain m false (id_of m name.0) h

-- The texts of replies

word_avoids : (word : List ℕ) → list_all (is_within 32 126) word ≡ true → Avoids 10 word
word_avoids word h = tested_avoids (is_within 32 126) 10 refl word h

name_at_avoids : (names : List (List ℕ)) (i : ℕ) → AllByRecursion (Avoids 10) names → Avoids 10 (get_or names i [])
name_at_avoids [] i h = tt
name_at_avoids (n ∷ names) zero h = h.0
name_at_avoids (n ∷ names) (suc i) h = name_at_avoids names i h.1

reply_avoids : (names : List (List ℕ)) (reply : Reply) → AllByRecursion (Avoids 10) names → IsPlainReply reply → Avoids 10 (reply_text names reply)
reply_avoids names New n h = word_avoids (codes "new") refl
reply_avoids names (Was value) n h = avoids_both 10 (codes "was ") value (word_avoids (codes "was ") refl) h
reply_avoids names Full n h = word_avoids (codes "full") refl
reply_avoids names (Gone value) n h = avoids_both 10 (codes "del ") value (word_avoids (codes "del ") refl) h
reply_avoids names (Val value) n h = avoids_both 10 (codes "val ") value (word_avoids (codes "val ") refl) h
reply_avoids names Absent n h = word_avoids (codes "none") refl
reply_avoids names (At name value) n h =
    avoids_both 10 (codes "at ") (get_or names name.0 [] ++ codes " " ++ value) (word_avoids (codes "at ") refl)
    (avoids_both 10 (get_or names name.0 [] ++ codes " ") value (avoids_both 10 (get_or names name.0 []) (codes " ") (name_at_avoids names name.0 n) (word_avoids (codes " ") refl)) h)
reply_avoids names (Number count) n h = avoids_both 10 (codes "n ") (decimal count) (word_avoids (codes "n ") refl) (decimal_avoids 10 count (omega arith))
reply_avoids names Done n h = word_avoids (codes "ok") refl
reply_avoids names Taken n h = word_avoids (codes "taken") refl
reply_avoids names Many n h = word_avoids (codes "many") refl
reply_avoids names Used n h = word_avoids (codes "used") refl
reply_avoids names Idle n h = word_avoids (codes "idle") refl

-- the replies of a legal history have no line feed
right_plain : (m : RecordMap) (e : ℕ × RecordEntry) → IsPlainStep (step m (worker_of e.0) e.1.command) → IsRight m e → IsPlainReply e.1.reply
right_plain m e plain right = ⊎_elim (λ refused. subst IsPlainReply (sym refused.0) tt) (λ taken. subst IsPlainReply (sym taken) plain.reply) right

next_plain : (m : RecordMap) (e : ℕ × RecordEntry) → IsPlainMap m → IsPlainStep (step m (worker_of e.0) e.1.command) → IsPlainMap (map_next m e)
next_plain m e h plain = cond_both (is_refusal e.1.reply) m (step m (worker_of e.0) e.1.command).map IsPlainMap (λ refused. h) (λ taken. plain.map)

replies_plain : (m : RecordMap) (h : List (ℕ × RecordEntry)) → IsPlainMap m → AllByRecursion (λ (e : ℕ × RecordEntry). IsWithValue e.1.command) h → IsLegalHistory m h → AllByRecursion (λ (a : ReplyAt). IsPlainReply a.reply) (replies_at h)
replies_plain m [] plain values legal = tt
replies_plain m (e ∷ h) plain values legal =
    let here = step_plain m (worker_of e.0) e.1.command plain values.0 in
    (right_plain m e here legal.0, replies_plain (map_next m e) h (next_plain m e plain here) values.1 legal.1)

line_avoids : (names : List (List ℕ)) (a : ReplyAt) → AllByRecursion (Avoids 10) names → IsPlainReply a.reply → Avoids 10 (reply_line names a)
line_avoids names a n h = avoids_both 10 (place_line a) (32 ∷ reply_text names a.reply) (place_avoids a) (λ same. omega (arith, same), reply_avoids names a.reply n h)

-- Numbers and workers of a shared history

-- numbers from one on are no more than there are commands
numbers_within : (start bound : ℕ) (commands : List Command) → start + length commands ≤ bound → AllByRecursion (λ (q : ℕ × Command). q.0 < bound) (numbered start commands)
numbers_within start bound [] h = tt
numbers_within start bound (c ∷ commands) h = (omega (arith, h), numbers_within (start + 1) bound commands (omega (arith, h)))

numbered_length : (start : ℕ) (commands : List Command) → length (numbered start commands) ≡ length commands
numbered_length start [] = refl
numbered_length start (c ∷ commands) = ap suc (numbered_length (start + 1) commands)

-- a worker has no more commands than there are lines
few_commands : (worker : ℕ) (lines : List Line) → length (commands_of worker lines) ≤ length lines
few_commands worker [] = omega arith
few_commands worker (line ∷ lines) =
    cond_both (line.worker == worker) (line ∷ filter (λ (x : Line). x.worker == worker) lines) (filter (λ (x : Line). x.worker == worker) lines) (λ xs. length (map (λ (x : Line). x.command) xs) ≤ length (line ∷ lines))
    (λ mine. omega (arith, few_commands worker lines))
    (λ other. omega (arith, few_commands worker lines))

-- and one above all has none
no_commands : (worker most : ℕ) (lines : List Line) → most < worker → AllByRecursion (λ (line : Line). line.worker ≤ most) lines → length (commands_of worker lines) ≡ 0
no_commands worker most [] above h = refl
no_commands worker most (line ∷ lines) above h =
    cond_both (line.worker == worker) (line ∷ filter (λ (x : Line). x.worker == worker) lines) (filter (λ (x : Line). x.worker == worker) lines) (λ xs. length (map (λ (x : Line). x.command) xs) ≡ 0)
    (λ mine. absurd (omega (arith, eqb_is line.worker worker mine, above, h.0)))
    (λ other. no_commands worker most lines above h.1)
  where
    eqb_is : (a b : ℕ) → (a == b) ≡ true → a ≡ b
    eqb_is a b e = eqb-true a b e

-- the values of these commands are values
values_kept : (worker : ℕ) (lines : List Line) → AllByRecursion (λ (line : Line). IsWithValue line.command) lines → AllByRecursion IsWithValue (commands_of worker lines)
values_kept worker [] h = tt
values_kept worker (line ∷ lines) h =
    cond_both (line.worker == worker) (line ∷ filter (λ (x : Line). x.worker == worker) lines) (filter (λ (x : Line). x.worker == worker) lines) (λ xs. AllByRecursion IsWithValue (map (λ (x : Line). x.command) xs))
    (λ mine. (h.0, values_kept worker lines h.1))
    (λ other. values_kept worker lines h.1)

numbered_values : (start : ℕ) (commands : List Command) → AllByRecursion IsWithValue commands → AllByRecursion (λ (q : ℕ × Command). IsWithValue q.1) (numbered start commands)
numbered_values start [] h = tt
numbered_values start (c ∷ commands) h = (h.0, numbered_values (start + 1) commands h.1)

abbrev History : Type 0
History = List (ℕ × RecordEntry)

-- number and command of an entry
abbrev asked : ℕ × RecordEntry → ℕ × Command
asked e = (e.1.number, e.1.command)

-- what a history has of the script that it is shared of
record IsShare (workers most : ℕ) (h : History) : Type 0 where
  within : AllByRecursion (λ (e : ℕ × RecordEntry). e.0 < workers) h
  numbers : AllByRecursion (λ (e : ℕ × RecordEntry). e.1.number < most + 1) h
  values : AllByRecursion (λ (e : ℕ × RecordEntry). IsWithValue e.1.command) h

share_length : (script : Plain) (h : History) (pass : ℕ) → IsShared h script.lines → length (of_key (λ (e : ℕ × RecordEntry). e.0) h pass) ≡ length (commands_of (worker_of pass) script.lines)
share_length script h pass shared =
    sym (length-map (of_key (λ (e : ℕ × RecordEntry). e.0) h pass) asked) ∙ (ap length (shared pass) ∙ numbered_length 1 (commands_of (worker_of pass) script.lines))

share_of : (workers : ℕ) (script : Plain) (h : History) → IsScript workers script → IsShared h script.lines → IsShare workers (length script.lines) h
share_of workers script h is shared = record {
  within = keys_have (λ (e : ℕ × RecordEntry). e.0) (λ k. k < workers) h
      (λ k. ⊎_elim (λ small. inl small)
      (λ large. inr (share_length script h k shared ∙ no_commands (worker_of k) workers script.lines (omega (arith, large)) (workers_low script.lines (recursion_from_All (λ (line : Line). (0 < line.worker) × (line.worker ≤ workers)) script.lines is.workers))))
      (cases_lt k workers));
  numbers = all_by_key (λ (e : ℕ × RecordEntry). e.0) asked (λ q. q.0 < length script.lines + 1) h
      (λ k. subst (AllByRecursion (λ (q : ℕ × Command). q.0 < length script.lines + 1)) (sym (shared k))
      (numbers_within 1 (length script.lines + 1) (commands_of (worker_of k) script.lines) (omega (arith, few_commands (worker_of k) script.lines))));
  values = all_by_key (λ (e : ℕ × RecordEntry). e.0) asked (λ q. IsWithValue q.1) h
      (λ k. subst (AllByRecursion (λ (q : ℕ × Command). IsWithValue q.1)) (sym (shared k))
      (numbered_values 1 (commands_of (worker_of k) script.lines) (values_kept (worker_of k) script.lines (recursion_from_All (λ (line : Line). IsWithValue line.command) script.lines is.values))));
}
  where
    workers_low : (lines : List Line) → AllByRecursion (λ (line : Line). (0 < line.worker) × (line.worker ≤ workers)) lines → AllByRecursion (λ (line : Line). line.worker ≤ workers) lines
    workers_low [] h = tt
    workers_low (line ∷ lines) h = (h.0.1, workers_low lines h.1)

-- Two histories of one script

-- as many replies to each worker
none_to_nobody : (h : History) → length (replies_to (replies_at h) 0) ≡ 0
none_to_nobody [] = refl
none_to_nobody (e ∷ h) =
    cond_both (worker_of e.0 == 0) (record { worker = worker_of e.0; number = e.1.number; reply = e.1.reply } ∷ replies_to (replies_at h) 0) (replies_to (replies_at h) 0) (λ xs. length xs ≡ 0)
    (λ mine. absurd (omega (arith, eqb-true (worker_of e.0) 0 mine)))
    (λ other. none_to_nobody h)

replies_length : (h : History) (pass : ℕ) → length (replies_to (replies_at h) (worker_of pass)) ≡ length (of_key (λ (e : ℕ × RecordEntry). e.0) h pass)
replies_length [] pass = refl
replies_length (e ∷ h) pass = by (replies_length h pass) (cases_eq e.0 pass)
  where
    here : ReplyAt
    here = record { worker = worker_of e.0; number = e.1.number; reply = e.1.reply }

    by : length (replies_to (replies_at h) (worker_of pass)) ≡ length (of_key (λ (e : ℕ × RecordEntry). e.0) h pass) → (e.0 ≡ pass) ⊎ (e.0 ≢ pass) →
        length (replies_to (here ∷ replies_at h) (worker_of pass)) ≡ length (of_key (λ (e : ℕ × RecordEntry). e.0) (e ∷ h) pass)
    by on (inl mine) =
        ap length (cond-true (worker_of e.0 == worker_of pass) (here ∷ replies_to (replies_at h) (worker_of pass)) (replies_to (replies_at h) (worker_of pass)) (eq-eqb (worker_of e.0) (worker_of pass) (ap (λ n. n + 1) mine)))
        ∙ (ap suc on
        ∙ sym (ap length (cond-true (e.0 == pass) (e ∷ of_key (λ (e : ℕ × RecordEntry). e.0) h pass) (of_key (λ (e : ℕ × RecordEntry). e.0) h pass) (eq-eqb e.0 pass mine))))
    by on (inr other) =
        ap length (cond-false (worker_of e.0 == worker_of pass) (here ∷ replies_to (replies_at h) (worker_of pass)) (replies_to (replies_at h) (worker_of pass)) (ne_eqb (worker_of e.0) (worker_of pass) (λ same. other (omega (arith, same)))))
        ∙ (on
        ∙ sym (ap length (cond-false (e.0 == pass) (e ∷ of_key (λ (e : ℕ × RecordEntry). e.0) h pass) (of_key (λ (e : ℕ × RecordEntry). e.0) h pass) (ne_eqb e.0 pass other))))

as_many : (script : Plain) (g h : History) → IsShared g script.lines → IsShared h script.lines → (worker : ℕ) → length (replies_to (replies_at g) worker) ≡ length (replies_to (replies_at h) worker)
as_many script g h first second worker = ⊎_elim nobody somebody (cases_eq worker 0)
  where
    nobody : worker ≡ 0 → length (replies_to (replies_at g) worker) ≡ length (replies_to (replies_at h) worker)
    nobody e = subst (λ w. length (replies_to (replies_at g) w) ≡ length (replies_to (replies_at h) w)) (sym e) (none_to_nobody g ∙ sym (none_to_nobody h))

    somebody : worker ≢ 0 → length (replies_to (replies_at g) worker) ≡ length (replies_to (replies_at h) worker)
    somebody e =
        let is : worker_of (worker - 1) ≡ worker = omega (arith, e) in
        subst (λ w. length (replies_to (replies_at g) w) ≡ length (replies_to (replies_at h) w)) is
        (replies_length g (worker - 1) ∙ (share_length script g (worker - 1) first ∙ sym (replies_length h (worker - 1) ∙ share_length script h (worker - 1) second)))

-- the text of a reply
abbrev text_at : List (List ℕ) → ReplyAt → List ℕ
text_at names a = reply_text names a.reply

-- lines of replies that are alike have texts that are alike
texts_alike : (names : List (List ℕ)) (xs ys : List ReplyAt) → map (reply_line names) xs ≡ map (reply_line names) ys → map (text_at names) xs ≡ map (text_at names) ys
texts_alike names [] [] e = refl
texts_alike names [] (y ∷ ys) e = absurd (omega (arith, ap length e))
texts_alike names (x ∷ xs) [] e = absurd (omega (arith, ap length e))
texts_alike names (x ∷ xs) (y ∷ ys) e =
    let line : reply_line names x ≡ reply_line names y = ap (first_of []) e in
    let spread : decimal x.worker ++ 32 ∷ (decimal x.number ++ 32 ∷ text_at names x) ≡ decimal y.worker ++ 32 ∷ (decimal y.number ++ 32 ∷ text_at names y) =
    sym (append_assoc (decimal x.worker) (32 ∷ decimal x.number) (32 ∷ text_at names x)) ∙ (line ∙ append_assoc (decimal y.worker) (32 ∷ decimal y.number) (32 ∷ text_at names y)) in
    let numbers = cut_at 32 (decimal x.worker) (decimal y.worker) (decimal x.number ++ 32 ∷ text_at names x) (decimal y.number ++ 32 ∷ text_at names y) (decimal_avoids 32 x.worker (omega arith)) (decimal_avoids 32 y.worker (omega arith)) spread in
    let texts = cut_at 32 (decimal x.number) (decimal y.number) (text_at names x) (text_at names y) (decimal_avoids 32 x.number (omega arith)) (decimal_avoids 32 y.number (omega arith)) numbers.1 in
    ap₂ (λ z zs. z ∷ zs) texts.1 (texts_alike names xs ys (ap rest_of e))

-- places that are printed alike are of the same workers
abbrev IsSmall : ReplyAt → Type 0
IsSmall a = a.worker < 2 ^ 64

workers_alike : (xs ys : List ReplyAt) → AllByRecursion IsSmall xs → AllByRecursion IsSmall ys → map place_line xs ≡ map place_line ys → map (λ (a : ReplyAt). a.worker) xs ≡ map (λ (a : ReplyAt). a.worker) ys
workers_alike [] [] h k e = refl
workers_alike [] (y ∷ ys) h k e = absurd (omega (arith, ap length e))
workers_alike (x ∷ xs) [] h k e = absurd (omega (arith, ap length e))
workers_alike (x ∷ xs) (y ∷ ys) h k e =
    let cut = cut_at 32 (decimal x.worker) (decimal y.worker) (decimal x.number) (decimal y.number) (decimal_avoids 32 x.worker (omega arith)) (decimal_avoids 32 y.worker (omega arith)) (ap (first_of []) e) in
    ap₂ (λ z zs. z ∷ zs) (decimal_injective x.worker y.worker h.0 k.0 cut.0) (workers_alike xs ys h.1 k.1 (ap rest_of e))

-- One entry after the other

not_true : false ≡ true → ⊥
not_true e = cc

put_new : (m : RecordMap) (worker : ℕ) (command : Command) → is_put_of_absent m command ≡ true → (step m worker command).reply ≡ New
put_new m worker (Put name value) e = by (id_of m name.0) e
  where
    by : (id : Option ℕ) → is_none id ≡ true → (put_step m name.0 value id).reply ≡ New
    by None e = refl
    by (Some i) e = absurd (not_true e)
put_new m worker (Get name) e = absurd (not_true e)
put_new m worker (Del name) e = absurd (not_true e)
put_new m worker First e = absurd (not_true e)
put_new m worker (Next name) e = absurd (not_true e)
put_new m worker Count e = absurd (not_true e)
put_new m worker (Link name other) e = absurd (not_true e)
put_new m worker (Hold tag name) e = absurd (not_true e)
put_new m worker (Read tag) e = absurd (not_true e)
put_new m worker (Write tag value) e = absurd (not_true e)
put_new m worker (Drop tag) e = absurd (not_true e)
put_new m worker (Fix name) e = absurd (not_true e)
put_new m worker (Loose name) e = absurd (not_true e)

-- `full` and `new` are told apart by their texts
full_is_not_new : (names : List (List ℕ)) → reply_text names Full ≡ reply_text names New → ⊥
full_is_not_new names e = let first : 102 ≡ 110 = ap (first_of 0) e in omega (arith, first)

reply_same : (names : List (List ℕ)) (m : RecordMap) (e f : ℕ × RecordEntry) → e.0 ≡ f.0 → e.1.command ≡ f.1.command →
    reply_text names e.1.reply ≡ reply_text names f.1.reply → IsRight m e → IsRight m f → e.1.reply ≡ f.1.reply
reply_same names m e f pass command text (inl a) (inl b) = a.0 ∙ sym b.0
reply_same names m e f pass command text (inr a) (inr b) = a ∙ (ap₂ (λ p c. (step m (worker_of p) c).reply) pass command ∙ sym b)
reply_same names m e f pass command text (inl a) (inr b) =
    let new : f.1.reply ≡ New = b ∙ put_new m (worker_of f.0) f.1.command (subst (λ c. is_put_of_absent m c ≡ true) command a.1) in
    absurd (full_is_not_new names (sym (ap (reply_text names) a.0) ∙ (text ∙ ap (reply_text names) new)))
reply_same names m e f pass command text (inr a) (inl b) =
    let new : e.1.reply ≡ New = a ∙ put_new m (worker_of e.0) e.1.command (subst (λ c. is_put_of_absent m c ≡ true) (sym command) b.1) in
    absurd (full_is_not_new names (sym (ap (reply_text names) b.0) ∙ (sym text ∙ ap (reply_text names) new)))

entry_same : (e f : ℕ × RecordEntry) → e.0 ≡ f.0 → e.1.number ≡ f.1.number → e.1.command ≡ f.1.command → e.1.reply ≡ f.1.reply → e ≡ f
entry_same e f pass number command reply = λ i. (pass i, record { number = number i; command = command i; reply = reply i })

same_history : (names : List (List ℕ)) (m : RecordMap) (g h : History) → map (λ (e : ℕ × RecordEntry). e.0) g ≡ map (λ (e : ℕ × RecordEntry). e.0) h → map asked g ≡ map asked h →
    map (λ (e : ℕ × RecordEntry). reply_text names e.1.reply) g ≡ map (λ (e : ℕ × RecordEntry). reply_text names e.1.reply) h → IsLegalHistory m g → IsLegalHistory m h → g ≡ h
same_history names m [] [] passes commands texts first second = refl
same_history names m [] (f ∷ h) passes commands texts first second = absurd (omega (arith, ap length passes))
same_history names m (e ∷ g) [] passes commands texts first second = absurd (omega (arith, ap length passes))
same_history names m (e ∷ g) (f ∷ h) passes commands texts first second =
    let pass : e.0 ≡ f.0 = ap (first_of 0) passes in
    let both : asked e ≡ asked f = ap (first_of (asked e)) commands in
    let text : reply_text names e.1.reply ≡ reply_text names f.1.reply = ap (first_of []) texts in
    let same : e ≡ f = entry_same e f pass (ap (λ (q : ℕ × Command). q.0) both) (ap (λ (q : ℕ × Command). q.1) both) (reply_same names m e f pass (ap (λ (q : ℕ × Command). q.1) both) text first.0 second.0) in
    ap₂ (λ x xs. x ∷ xs) same
    (same_history names (map_next m e) g h (ap rest_of passes) (ap rest_of commands) (ap rest_of texts) first.1 (subst (λ (x : ℕ × RecordEntry). IsLegalHistory (map_next m x) h) (sym same) second.1))

-- The law

passes_of : (g h : History) → map (λ (a : ReplyAt). a.worker) (replies_at g) ≡ map (λ (a : ReplyAt). a.worker) (replies_at h) → map (λ (e : ℕ × RecordEntry). e.0) g ≡ map (λ (e : ℕ × RecordEntry). e.0) h
passes_of [] [] e = refl
passes_of [] (f ∷ h) e = absurd (omega (arith, ap length e))
passes_of (x ∷ g) [] e = absurd (omega (arith, ap length e))
passes_of (x ∷ g) (y ∷ h) e =
    let worker : x.0 + 1 ≡ y.0 + 1 = ap (first_of 0) e in
    let pass : x.0 ≡ y.0 = omega (arith, worker) in
    ap₂ (λ z zs. z ∷ zs) pass (passes_of g h (ap rest_of e))

texts_of : (names : List (List ℕ)) (h : History) → map (text_at names) (replies_at h) ≡ map (λ (e : ℕ × RecordEntry). reply_text names e.1.reply) h
texts_of names [] = refl
texts_of names (e ∷ h) = ap (λ xs. reply_text names e.1.reply ∷ xs) (texts_of names h)

replies_within : (workers : ℕ) (h : History) → AllByRecursion (λ (e : ℕ × RecordEntry). e.0 < workers) h → AllByRecursion (IsKeyWithin (λ (a : ReplyAt). a.worker) 1 workers) (replies_at h)
replies_within workers [] small = tt
replies_within workers (e ∷ h) small = ((omega arith, omega (arith, small.0)), replies_within workers h small.1)

replies_small : (workers : ℕ) (h : History) → workers ≤ 16 → AllByRecursion (λ (e : ℕ × RecordEntry). e.0 < workers) h → AllByRecursion IsSmall (replies_at h)
replies_small workers [] few small = tt
replies_small workers (e ∷ h) few small = (omega (arith, few, small.0), replies_small workers h few small.1)

not_key : (worker workers : ℕ) (xs : List ReplyAt) → (worker < 1) ⊎ (1 + workers ≤ worker) → AllByRecursion (IsKeyWithin (λ (a : ReplyAt). a.worker) 1 workers) xs → AllByRecursion (λ (a : ReplyAt). a.worker ≢ worker) xs
not_key worker workers [] out h = tt
not_key worker workers (x ∷ xs) out h = (
  λ same. ⊎_elim (λ low. omega (arith, low, same, h.0.0)) (λ high. omega (arith, high, same, h.0.1)) out,
  not_key worker workers xs out h.1,
)

-- what each history of a script has on its own
record IsPrinted (workers : ℕ) (script : Plain) (h : History) : Type 0 where
  within : AllByRecursion (IsKeyWithin (λ (a : ReplyAt). a.worker) 1 workers) (replies_at h)
  small : AllByRecursion IsSmall (replies_at h)
  lines : AllByRecursion (Avoids 10) (run_lines workers script.names (replies_at h))

names_avoid : (names : List (List ℕ)) → AllByRecursion (λ name. is_name name ≡ true) names → AllByRecursion (Avoids 10) names
names_avoid [] h = tt
names_avoid (n ∷ names) h = (name_avoids n h.0, names_avoid names h.1)

is_printed : (workers : ℕ) (script : Plain) (h : History) → workers ≤ 16 → IsScript workers script → IsHistoryOf workers script h → IsPrinted workers script h
is_printed workers script h few is history =
    let share = share_of workers script h is history.shared in
    let names = names_avoid script.names (recursion_from_All (λ (n : List ℕ). is_name n ≡ true) script.names is.named) in
    let given = replies_at h in
    let plain = replies_plain (no_records (length script.names) workers) h tt share.values history.legal in
    record {
      within = replies_within workers h share.within;
      small = replies_small workers h few share.within;
      lines = (
        word_avoids (codes "=== replies") refl,
        all_both (Avoids 10) (map (reply_line script.names) (by_worker workers given)) (codes "=== history" ∷ map place_line given)
            (all_mapped (reply_line script.names) (Avoids 10) (λ (a : ReplyAt). IsPlainReply a.reply) (by_worker workers given) (λ a p. line_avoids script.names a names p)
            (all_parts (λ (a : ReplyAt). a.worker) (λ (a : ReplyAt). IsPlainReply a.reply) given (range_with_len 1 workers) plain))
            (word_avoids (codes "=== history") refl, all_mapped place_line (Avoids 10) (λ (a : ReplyAt). IsPlainReply a.reply) given (λ a p. place_avoids a) plain),
      );
    }

lines_length : (workers : ℕ) (names : List (List ℕ)) (given : List ReplyAt) → length (run_lines workers names given) ≡ suc (length (by_worker workers given) + suc (length given))
lines_length workers names given =
    ap suc (length-append (map (reply_line names) (by_worker workers given)) (codes "=== history" ∷ map place_line given)
    ∙ ap₂ (λ a b. a + suc b) (length-map (by_worker workers given) (reply_line names)) (length-map given place_line))

-- two histories of a script that are printed alike
pub printed_alike : (workers : ℕ) (script : Plain) (g h : History) (r s : List ℕ) → workers ≤ 16 → IsScript workers script → IsHistoryOf workers script g → IsHistoryOf workers script h →
    run_text workers script.names g r ≡ run_text workers script.names h s → (g ≡ h) × (r ≡ s)
printed_alike workers script g h r s few is first second text =
    let one = is_printed workers script g few is first in
    let two = is_printed workers script h few is second in
    let many = as_many script g h first.shared second.shared in
    let parts : length (by_worker workers (replies_at g)) ≡ length (by_worker workers (replies_at h)) = parts_length (λ (a : ReplyAt). a.worker) (replies_at g) (replies_at h) (range_with_len 1 workers) many in
    let longs : length (replies_at g) ≡ length (replies_at h) =
    sym (length_by_key (λ (a : ReplyAt). a.worker) 1 workers (replies_at g) one.within) ∙ (parts ∙ length_by_key (λ (a : ReplyAt). a.worker) 1 workers (replies_at h) two.within) in
    let cut = cut_lines (run_lines workers script.names (replies_at g)) (run_lines workers script.names (replies_at h)) r s
    (lines_length workers script.names (replies_at g) ∙ (ap₂ (λ a b. suc (a + suc b)) parts longs ∙ sym (lines_length workers script.names (replies_at h)))) one.lines two.lines text in
    let halves = cut_parts (map (reply_line script.names) (by_worker workers (replies_at g))) (map (reply_line script.names) (by_worker workers (replies_at h)))
    (codes "=== history" ∷ map place_line (replies_at g)) (codes "=== history" ∷ map place_line (replies_at h))
    (length-map (by_worker workers (replies_at g)) (reply_line script.names) ∙ (parts ∙ sym (length-map (by_worker workers (replies_at h)) (reply_line script.names)))) (ap rest_of cut.0) in
    let alike = each_alike (λ (a : ReplyAt). a.worker) (reply_line script.names) (replies_at g) (replies_at h) (range_with_len 1 workers) many halves.0 in
    let workers_same = workers_alike (replies_at g) (replies_at h) one.small two.small (ap rest_of halves.1) in
    let each : (k : ℕ) → map (text_at script.names) (replies_to (replies_at g) k) ≡ map (text_at script.names) (replies_to (replies_at h) k) = each_text one.within two.within alike in
    let texts = same_by_key (λ (a : ReplyAt). a.worker) (text_at script.names) (replies_at g) (replies_at h) workers_same each in
    let passes = passes_of g h workers_same in
    let commands = same_by_key (λ (e : ℕ × RecordEntry). e.0) asked g h passes (λ k. first.shared k ∙ sym (second.shared k)) in (
      same_history script.names (no_records (length script.names) workers) g h passes commands (sym (texts_of script.names g) ∙ (texts ∙ texts_of script.names h)) first.legal second.legal,
      cut.1,
    )
  where
    each_text : AllByRecursion (IsKeyWithin (λ (a : ReplyAt). a.worker) 1 workers) (replies_at g) → AllByRecursion (IsKeyWithin (λ (a : ReplyAt). a.worker) 1 workers) (replies_at h) →
        AllByRecursion (λ k. map (reply_line script.names) (replies_to (replies_at g) k) ≡ map (reply_line script.names) (replies_to (replies_at h) k)) (range_with_len 1 workers) →
        (k : ℕ) → map (text_at script.names) (replies_to (replies_at g) k) ≡ map (text_at script.names) (replies_to (replies_at h) k)
    each_text one two alike k = ⊎_elim (λ low. outside (inl low)) (λ from. ⊎_elim (λ small. inside from small) (λ large. outside (inr large)) (cases_lt k (1 + workers))) (cases_lt k 1)
      where
        inside : 1 ≤ k → k < 1 + workers → map (text_at script.names) (replies_to (replies_at g) k) ≡ map (text_at script.names) (replies_to (replies_at h) k)
        inside from small =
            texts_alike script.names (replies_to (replies_at g) k) (replies_to (replies_at h) k)
            (in_range (λ k. map (reply_line script.names) (replies_to (replies_at g) k) ≡ map (reply_line script.names) (replies_to (replies_at h) k)) 1 workers k alike from small)

        outside : (k < 1) ⊎ (1 + workers ≤ k) → map (text_at script.names) (replies_to (replies_at g) k) ≡ map (text_at script.names) (replies_to (replies_at h) k)
        outside out =
            ap (map (text_at script.names))
            (none_outside (λ (a : ReplyAt). a.worker) k (replies_at g) (not_key k workers (replies_at g) out one) ∙ sym (none_outside (λ (a : ReplyAt). a.worker) k (replies_at h) (not_key k workers (replies_at h) out two)))
