-- The replies of `one` are those of a legal history, which is shared by the workers of the lines.
use Rattle.std.proofs.Common.{◌≡◌, ◌≢◌, ◌↔◌, ◌==◌, ◌+◌, ◌-◌, ◌<◌, ◌++◌, ℕ, suc, Bool, true, false, List, [], ◌∷◌, All, length, map, filter, Option, Some, None, is_some, refl, sym, ap, ap₂, ◌∙◌, subst, ⊎_elim, inl, inr, add-zero, arith}
use Rattle.std.specs.Bool.{then_some}
use Rattle.std.specs.Option.{option_map_or}
use Rattle.std.proofs.lemmas.Bool.{and_parts, cases_Bool, cases_eq, eq-eqb, ne_eqb, cond_both, cond-true, cond-false}
use Rattle.std.proofs.lemmas.List.{length-append, map-append}
use Rattle.std.proofs.lemmas.List.Elements.{filter-append}
use Rattle.kmem_text.specs.declared.command.Line.{Line}
use Rattle.kmem_text.specs.declared.command.Command.{Command}
use Rattle.kmem_text.specs.declared.command.Command.TheVariants.{Put, Get, Del, First, Next, Count, Link, Hold, Read, Write, Drop, Fix, Loose}
use Rattle.kmem_text.specs.declared.command.Reply.{Reply}
use Rattle.kmem_text.specs.declared.command.Reply.TheVariants.{Full}
use Rattle.kmem_model.specs.CacheState.{CacheState, is_out}
use Rattle.kmem_model.specs.CacheEnter.{is_full, may_take, with_out, on_slab_of, slab_freed, emptied_goes}
use Rattle.kmem_model.specs.declared.cache_entry.CacheEntry.TheVariants as entry
use Rattle.kmem_model.specs.Heap.{address_in}
use Rattle.kmem_model.specs.Records.{RecordMap, id_of, held_at, name_count, least_name, tag_place, is_live}
use Rattle.kmem_model.specs.RecordStep.{Step, put_step, get_step, del_step, at_step, link_step, hold_step, read_step, write_step, drop_step, fix_step, step}
use Rattle.kmem_model.specs.declared.record_entry.RecordEntry.{RecordEntry}
use Rattle.kmem_model.specs.History.{worker_of, is_refusal, map_next, map_after, is_put_of_absent, is_full_due, IsRight, IsLegalHistory, commands_of, numbered, asked_by, replies_of, IsFullExactly}
use Rattle.kmem_model.specs.One.{OneState, OneStep, buffers_of, entered_by, address_for, cache_with, cache_without, placed_step, has_no_room, is_refused, one_step}
use Rattle.kmem_model.specs.OneRun.{OneRun, stage_of, run_after, settled_run, is_settle_due, line_run, replies, history_of}
use Rattle.kmem_model.specs.Settle.{Course}
use Rattle.kmem_model.specs.SettleWhole.{enough}
use Rattle.kmem_model.specs.SettleMeasure.{settled}
use Rattle.kmem_model.proofs.SettleSizes.{settled_sizes}

-- The step of the map never replies `full`

abbrev IsNotFull : Step → Type 0
IsNotFull next = next.reply ≢ Full

put_not_full : (m : RecordMap) (name : ℕ) (value : List ℕ) (id : Option ℕ) → (put_step m name value id).reply ≢ Full
put_not_full m name value None = λ e. cc
put_not_full m name value (Some id) = λ e. cc

get_not_full : (m : RecordMap) (id : Option ℕ) → (get_step m id).reply ≢ Full
get_not_full m None = λ e. cc
get_not_full m (Some id) = λ e. cc

del_not_full : (m : RecordMap) (name : ℕ) (id : Option ℕ) → (del_step m name id).reply ≢ Full
del_not_full m name None = λ e. cc
del_not_full m name (Some id) = λ e. cc

at_not_full : (m : RecordMap) (name : Option ℕ) → (at_step m name).reply ≢ Full
at_not_full m None = λ e. cc
at_not_full m (Some name) = λ e. cc

link_not_full : (m : RecordMap) (other : ℕ) (id : Option ℕ) → IsNotFull (link_step m other id)
link_not_full m other None = λ e. cc
link_not_full m other (Some id) =
    cond_both (is_some (id_of m other)) _ _ IsNotFull
    (λ taken e. cc)
    (λ free. cond_both (name_count m id == 8) _ _ IsNotFull (λ many e. cc) (λ few e. cc))

hold_not_full : (m : RecordMap) (place : ℕ) (held named : Option ℕ) → IsNotFull (hold_step m place held named)
hold_not_full m place (Some id) named = λ e. cc
hold_not_full m place None None = λ e. cc
hold_not_full m place None (Some id) = λ e. cc

read_not_full : (m : RecordMap) (held : Option ℕ) → IsNotFull (read_step m held)
read_not_full m None = λ e. cc
read_not_full m (Some id) = λ e. cc

write_not_full : (m : RecordMap) (value : List ℕ) (held : Option ℕ) → IsNotFull (write_step m value held)
write_not_full m value None = λ e. cc
write_not_full m value (Some id) = λ e. cc

drop_not_full : (m : RecordMap) (place : ℕ) (held : Option ℕ) → IsNotFull (drop_step m place held)
drop_not_full m place None = λ e. cc
drop_not_full m place (Some id) = λ e. cc

fix_not_full : (m : RecordMap) (fixed : Bool) (id : Option ℕ) → IsNotFull (fix_step m fixed id)
fix_not_full m fixed None = λ e. cc
fix_not_full m fixed (Some id) = λ e. cc

step_not_full : (m : RecordMap) (worker : ℕ) (command : Command) → IsNotFull (step m worker command)
step_not_full m worker (Put name value) = put_not_full m name.0 value (id_of m name.0)
step_not_full m worker (Get name) = get_not_full m (id_of m name.0)
step_not_full m worker (Del name) = del_not_full m name.0 (id_of m name.0)
step_not_full m worker First = at_not_full m (least_name m 0)
step_not_full m worker (Next name) = at_not_full m (least_name m (name.0 + 1))
step_not_full m worker Count = λ e. cc
step_not_full m worker (Link name other) = link_not_full m other.0 (id_of m name.0)
step_not_full m worker (Hold tag name) = hold_not_full m (tag_place worker tag) (held_at m (tag_place worker tag)) (id_of m name.0)
step_not_full m worker (Read tag) = read_not_full m (held_at m (tag_place worker tag))
step_not_full m worker (Write tag value) = write_not_full m value (held_at m (tag_place worker tag))
step_not_full m worker (Drop tag) = drop_not_full m (tag_place worker tag) (held_at m (tag_place worker tag))
step_not_full m worker (Fix name) = fix_not_full m true (id_of m name.0)
step_not_full m worker (Loose name) = fix_not_full m false (id_of m name.0)

-- A step of `one` is the step of the map, and leaves as many buffers

-- as many buffers are there after an entry
pub entered_buffers_alloc : (s : CacheState) (b : ℕ) → buffers_of (entered_by s (entry.Alloc b)) ≡ buffers_of s
entered_buffers_alloc s b = by_test (may_take s b)
  where
    by_test : (c : Bool) → buffers_of (option_map_or (λ next. next) (then_some c (with_out s b)) s) ≡ buffers_of s
    by_test true = refl
    by_test false = refl

pub entered_buffers_free : (s : CacheState) (b : ℕ) → buffers_of (entered_by s (entry.Free b)) ≡ buffers_of s
entered_buffers_free s b = by_test (is_out s b)
  where
    by_test : (c : Bool) → buffers_of (option_map_or (λ next. next) (then_some c (on_slab_of s b (slab_freed (emptied_goes s)))) s) ≡ buffers_of s
    by_test true = refl
    by_test false = refl

with_buffers : (s : OneState) → buffers_of (cache_with s) ≡ buffers_of s.cache
with_buffers s = cond_both (is_full s.cache) _ _ (λ cache. buffers_of cache ≡ buffers_of s.cache) (λ full. refl) (λ room. entered_buffers_alloc s.cache (address_for s))

without_buffers : (s : OneState) (next : RecordMap) (id : Option ℕ) → buffers_of (cache_without s next id) ≡ buffers_of s.cache
without_buffers s next None = refl
without_buffers s next (Some id) = cond_both (is_live next id) _ _ (λ cache. buffers_of cache ≡ buffers_of s.cache) (λ live. refl) (λ dead. entered_buffers_free s.cache (address_in s.addresses id))

-- what a step of `one` has of the step of the map
pub record IsStepOf (s : OneState) (next : Step) (made : OneStep) : Type 0 where
  pub reply : made.reply ≡ next.reply
  pub map : made.state.map ≡ next.map
  pub buffers : buffers_of made.state.cache ≡ buffers_of s.cache

pub placed_is : (s : OneState) (command : Command) (next : Step) → IsStepOf s next (placed_step s command next)
placed_is s (Put name value) next =
    cond_both (is_some (id_of s.map name.0)) _ _ (IsStepOf s next)
    (λ there. record { reply = refl; map = refl; buffers = refl })
    (λ absent. record { reply = refl; map = refl; buffers = with_buffers s })
placed_is s (Del name) next = record { reply = refl; map = refl; buffers = without_buffers s next.map (id_of s.map name.0) }
placed_is s (Get name) next = record { reply = refl; map = refl; buffers = refl }
placed_is s First next = record { reply = refl; map = refl; buffers = refl }
placed_is s (Next name) next = record { reply = refl; map = refl; buffers = refl }
placed_is s Count next = record { reply = refl; map = refl; buffers = refl }
placed_is s (Link name other) next = record { reply = refl; map = refl; buffers = refl }
placed_is s (Hold tag name) next = record { reply = refl; map = refl; buffers = refl }
placed_is s (Read tag) next = record { reply = refl; map = refl; buffers = refl }
placed_is s (Write tag value) next = record { reply = refl; map = refl; buffers = refl }
placed_is s (Drop tag) next = record { reply = refl; map = refl; buffers = refl }
placed_is s (Fix name) next = record { reply = refl; map = refl; buffers = refl }
placed_is s (Loose name) next = record { reply = refl; map = refl; buffers = refl }

-- One command

-- a command that isn't refused, and one that is
step_taken : (s : OneState) (worker : ℕ) (command : Command) → is_refused s command ≡ false → one_step s worker command ≡ placed_step s command (step s.map worker command)
step_taken s worker command e = cond-false (is_refused s command) _ _ e

step_refused : (s : OneState) (worker : ℕ) (command : Command) → is_refused s command ≡ true → one_step s worker command ≡ record { reply = Full; state = s }
step_refused s worker command e = cond-true (is_refused s command) _ _ e

not_refusal : (reply : Reply) → reply ≢ Full → is_refusal reply ≡ false
not_refusal Full other = absurd (other refl)
not_refusal _ other = refl

-- the step of the map is no refusal
pub step_no_refusal : (m : RecordMap) (worker : ℕ) (command : Command) → is_refusal (step m worker command).reply ≡ false
step_no_refusal m worker command = not_refusal (step m worker command).reply (step_not_full m worker command)

-- `full` is replied exactly where the command is refused
pub full_exactly : (s : OneState) (worker : ℕ) (command : Command) {due : Bool} → is_refused s command ≡ due → ((one_step s worker command).reply ≡ Full) ↔ (due ≡ true)
full_exactly s worker command {due} e = (
  λ full. ⊎_elim (λ yes. sym e ∙ yes) (λ no. absurd (step_not_full s.map worker command (sym (placed_is s command (step s.map worker command)).reply ∙ (sym (ap (λ (made : OneStep). made.reply) (step_taken s worker command no)) ∙ full)))) (cases_Bool (is_refused s command)),
  λ yes. ap (λ (made : OneStep). made.reply) (step_refused s worker command (e ∙ yes)),
)

-- the entry of a line is right, and the map after it is that of the step
record IsEntry (s : OneState) (line : Line) (e : ℕ × RecordEntry) : Type 0 where
  right : IsRight s.map e
  next : map_next s.map e ≡ (one_step s line.worker line.command).state.map

entry_is : (s : OneState) (line : Line) (number : ℕ) → 0 < line.worker → IsEntry s line (line.worker - 1, record { number = number; command = line.command; reply = (one_step s line.worker line.command).reply })
entry_is s line number positive = ⊎_elim (λ yes. refused yes) (λ no. taken no) (cases_Bool (is_refused s line.command))
  where
    worker : worker_of (line.worker - 1) ≡ line.worker
    worker = omega (arith, positive)

    entry_with : Reply → ℕ × RecordEntry
    entry_with reply = (line.worker - 1, record { number = number; command = line.command; reply = reply })

    refused : is_refused s line.command ≡ true → IsEntry s line (line.worker - 1, record { number = number; command = line.command; reply = (one_step s line.worker line.command).reply })
    refused due =
        let is = step_refused s line.worker line.command due in
        record {
          right = inl (ap (λ (made : OneStep). made.reply) is, (and_parts (is_put_of_absent s.map line.command) (has_no_room s) due).0);
          next = cond-true (is_refusal (one_step s line.worker line.command).reply) s.map _ (ap (λ (made : OneStep). is_refusal made.reply) is) ∙ sym (ap (λ (made : OneStep). made.state.map) is);
        }

    taken : is_refused s line.command ≡ false → IsEntry s line (line.worker - 1, record { number = number; command = line.command; reply = (one_step s line.worker line.command).reply })
    taken free =
        let is = step_taken s line.worker line.command free in
        let same = placed_is s line.command (step s.map line.worker line.command) in
        let reply : (one_step s line.worker line.command).reply ≡ (step s.map line.worker line.command).reply = ap (λ (made : OneStep). made.reply) is ∙ same.reply in
        record {
          right = inr (reply ∙ sym (ap (λ w. (step s.map w line.command).reply) worker));
          next =
              cond-false (is_refusal (one_step s line.worker line.command).reply) s.map _ (ap is_refusal reply ∙ step_no_refusal s.map line.worker line.command)
              ∙ (ap (λ w. (step s.map w line.command).map) worker
              ∙ (sym same.map ∙ sym (ap (λ (made : OneStep). made.state.map) is)));
        }

-- a step leaves as many buffers
step_buffers : (s : OneState) (worker : ℕ) (command : Command) → buffers_of (one_step s worker command).state.cache ≡ buffers_of s.cache
step_buffers s worker command =
    cond_both (is_refused s command) _ _ (λ (made : OneStep). buffers_of made.state.cache ≡ buffers_of s.cache)
    (λ due. refl)
    (λ free. (placed_is s command (step s.map worker command)).buffers)

-- The laws, by induction on the lines

-- a settle leaves the map and the number of buffers
pub record IsSettledAs (run next : OneRun) : Type 0 where
  pub map : next.state.map ≡ run.state.map
  pub buffers : buffers_of next.state.cache ≡ buffers_of run.state.cache

settled_as : (run : OneRun) → IsSettledAs run (settled_run run)
settled_as run = by_course (settled (stage_of run.state)) refl
  where
    by_course : (x : Option Course) → settled (stage_of run.state) ≡ x → IsSettledAs run (option_map_or (run_after run) x run)
    by_course None e = record { map = refl; buffers = refl }
    by_course (Some course) e = record { map = refl; buffers = (settled_sizes (enough (stage_of run.state)) (stage_of run.state) course e).asked }

line_as : (every : Option ℕ) (number : ℕ) (run : OneRun) (line : Line) → IsSettledAs (record run { state = (one_step run.state line.worker line.command).state }) (line_run every number run line)
line_as every number run line =
    cond_both (is_settle_due every number) _ _ (IsSettledAs (record run { state = (one_step run.state line.worker line.command).state }))
    (λ due. settled_as (record run { state = (one_step run.state line.worker line.command).state }))
    (λ other. record { map = refl; buffers = refl })

-- the first of these lines, and the others
head_positive : (line : Line) (lines : List Line) → All (λ (x : Line). 0 < x.worker) (line ∷ lines) → 0 < line.worker
head_positive line lines positive = positive 0 line (omega arith)

tail_positive : (line : Line) (lines : List Line) → All (λ (x : Line). 0 < x.worker) (line ∷ lines) → All (λ (x : Line). 0 < x.worker) lines
tail_positive line lines positive = λ i d below. positive (suc i) d (omega arith)

pub legal_from : (every : Option ℕ) (number : ℕ) (run : OneRun) (before lines : List Line) → All (λ (x : Line). 0 < x.worker) lines → IsLegalHistory run.state.map (history_of every number run before lines)
legal_from every number run before [] positive = tt
legal_from every number run before (line ∷ lines) positive =
    let is = entry_is run.state line (length (commands_of line.worker before) + 1) (head_positive line lines positive) in
    let rest : List (ℕ × RecordEntry) = history_of every (number + 1) (line_run every number run line) (before ++ line ∷ []) lines in (
      is.right,
      subst (λ m. IsLegalHistory m rest) ((line_as every number run line).map ∙ sym is.next) (legal_from every (number + 1) (line_run every number run line) (before ++ line ∷ []) lines (tail_positive line lines positive)),
    )

-- the replies of the history are the replies
pub replies_from : (every : Option ℕ) (number : ℕ) (run : OneRun) (before lines : List Line) → replies_of (history_of every number run before lines) ≡ replies every number run lines
replies_from every number run before [] = refl
replies_from every number run before (line ∷ lines) = ap (λ rs. (one_step run.state line.worker line.command).reply ∷ rs) (replies_from every (number + 1) (line_run every number run line) (before ++ line ∷ []) lines)

-- a worker's commands with one line more
commands_more : (worker : ℕ) (before : List Line) (line : Line) → commands_of worker (before ++ line ∷ []) ≡ commands_of worker before ++ commands_of worker (line ∷ [])
commands_more worker before line = ap (map (λ (x : Line). x.command)) (filter-append (λ (x : Line). x.worker == worker) before (line ∷ [])) ∙ map-append (λ (x : Line). x.command) (filter (λ (x : Line). x.worker == worker) before) (filter (λ (x : Line). x.worker == worker) (line ∷ []))

-- one line before such entries
shared_on : (every : Option ℕ) (number : ℕ) (run : OneRun) (before : List Line) (line : Line) (lines : List Line) (pass : ℕ) → 0 < line.worker →
    asked_by pass (history_of every (number + 1) (line_run every number run line) (before ++ line ∷ []) lines) ≡ numbered (length (commands_of (worker_of pass) (before ++ line ∷ [])) + 1) (commands_of (worker_of pass) lines) →
    asked_by pass (history_of every number run before (line ∷ lines)) ≡ numbered (length (commands_of (worker_of pass) before) + 1) (commands_of (worker_of pass) (line ∷ lines))
shared_on every number run before line lines pass positive_here further = ⊎_elim (λ mine. of_pass mine) (λ other. of_other other) (cases_eq line.worker (worker_of pass))
  where
    rest : List (ℕ × RecordEntry)
    rest = history_of every (number + 1) (line_run every number run line) (before ++ line ∷ []) lines

    entry_of : ℕ × RecordEntry
    entry_of = (line.worker - 1, record { number = length (commands_of line.worker before) + 1; command = line.command; reply = (one_step run.state line.worker line.command).reply })

    more : length (commands_of (worker_of pass) (before ++ line ∷ [])) ≡ length (commands_of (worker_of pass) before) + length (commands_of (worker_of pass) (line ∷ []))
    more = ap length (commands_more (worker_of pass) before line) ∙ length-append (commands_of (worker_of pass) before) (commands_of (worker_of pass) (line ∷ []))

    of_pass : line.worker ≡ worker_of pass → asked_by pass (entry_of ∷ rest) ≡ numbered (length (commands_of (worker_of pass) before) + 1) (commands_of (worker_of pass) (line ∷ lines))
    of_pass mine =
        let here : (line.worker - 1 == pass) ≡ true = eq-eqb (line.worker - 1) pass (omega (arith, mine)) in
        let one : (line.worker == worker_of pass) ≡ true = eq-eqb line.worker (worker_of pass) mine in
        let kept : asked_by pass (entry_of ∷ rest) ≡ (length (commands_of line.worker before) + 1, line.command) ∷ asked_by pass rest = ap (map (λ (e : ℕ × RecordEntry). (e.1.number, e.1.command))) (cond-true (line.worker - 1 == pass) _ _ here) in
        let taken : commands_of (worker_of pass) (line ∷ lines) ≡ line.command ∷ commands_of (worker_of pass) lines = ap (map (λ (x : Line). x.command)) (cond-true (line.worker == worker_of pass) _ _ one) in
        let grown : length (commands_of (worker_of pass) (line ∷ [])) ≡ 1 = ap (λ (xs : List Line). length (map (λ (x : Line). x.command) xs)) (cond-true (line.worker == worker_of pass) _ _ one) in
        kept
        ∙ (ap₂ (λ n es. (n + 1, line.command) ∷ es) (ap (λ w. length (commands_of w before)) mine)
        (further ∙ ap (λ n. numbered (n + 1) (commands_of (worker_of pass) lines)) (more ∙ ap (λ n. length (commands_of (worker_of pass) before) + n) grown))
        ∙ sym (ap (numbered (length (commands_of (worker_of pass) before) + 1)) taken))

    of_other : line.worker ≢ worker_of pass → asked_by pass (entry_of ∷ rest) ≡ numbered (length (commands_of (worker_of pass) before) + 1) (commands_of (worker_of pass) (line ∷ lines))
    of_other other =
        let here : (line.worker - 1 == pass) ≡ false = ne_eqb (line.worker - 1) pass (λ same. other (omega (arith, same, positive_here))) in
        let one : (line.worker == worker_of pass) ≡ false = ne_eqb line.worker (worker_of pass) other in
        let kept : asked_by pass (entry_of ∷ rest) ≡ asked_by pass rest = ap (map (λ (e : ℕ × RecordEntry). (e.1.number, e.1.command))) (cond-false (line.worker - 1 == pass) _ _ here) in
        let taken : commands_of (worker_of pass) (line ∷ lines) ≡ commands_of (worker_of pass) lines = ap (map (λ (x : Line). x.command)) (cond-false (line.worker == worker_of pass) _ _ one) in
        let grown : length (commands_of (worker_of pass) (line ∷ [])) ≡ 0 = ap (λ (xs : List Line). length (map (λ (x : Line). x.command) xs)) (cond-false (line.worker == worker_of pass) _ _ one) in
        kept ∙ (further ∙ (ap (λ n. numbered (n + 1) (commands_of (worker_of pass) lines)) (more ∙ (ap (λ n. length (commands_of (worker_of pass) before) + n) grown ∙ add-zero (length (commands_of (worker_of pass) before)))) ∙ sym (ap (numbered (length (commands_of (worker_of pass) before) + 1)) taken)))

-- behind earlier lines each worker's entries are its further commands with their numbers
pub shared_from : (every : Option ℕ) (number : ℕ) (run : OneRun) (before lines : List Line) (pass : ℕ) → All (λ (x : Line). 0 < x.worker) lines →
    asked_by pass (history_of every number run before lines) ≡ numbered (length (commands_of (worker_of pass) before) + 1) (commands_of (worker_of pass) lines)
shared_from every number run before [] pass positive = refl
shared_from every number run before (line ∷ lines) pass positive =
    shared_on every number run before line lines pass (head_positive line lines positive)
    (shared_from every (number + 1) (line_run every number run line) (before ++ line ∷ []) lines pass (tail_positive line lines positive))

-- one line whose reply is `full` exactly where it is due
pub full_on : (capacity : ℕ) (every : Option ℕ) (number : ℕ) (run : OneRun) (before : List Line) (line : Line) (lines : List Line) → 0 < line.worker →
    ((one_step run.state line.worker line.command).reply ≡ Full) ↔ (is_full_due capacity run.state.map line.command ≡ true) →
    IsFullExactly capacity (line_run every number run line).state.map (history_of every (number + 1) (line_run every number run line) (before ++ line ∷ []) lines) →
    IsFullExactly capacity run.state.map (history_of every number run before (line ∷ lines))
full_on capacity every number run before line lines positive due after =
    let is = entry_is run.state line (length (commands_of line.worker before) + 1) positive in
    (due, subst (λ m. IsFullExactly capacity m (history_of every (number + 1) (line_run every number run line) (before ++ line ∷ []) lines)) ((line_as every number run line).map ∙ sym is.next) after)

-- a line leaves as many buffers
pub line_buffers : (every : Option ℕ) (number : ℕ) (run : OneRun) (line : Line) → buffers_of (line_run every number run line).state.cache ≡ buffers_of run.state.cache
line_buffers every number run line = (line_as every number run line).buffers ∙ step_buffers run.state line.worker line.command

-- A history followed by another

pub map_after-append : (m : RecordMap) (h k : List (ℕ × RecordEntry)) → map_after m (h ++ k) ≡ map_after (map_after m h) k
map_after-append m [] k = refl
map_after-append m (e ∷ h) k = map_after-append (map_next m e) h k

pub legal-append : (m : RecordMap) (h k : List (ℕ × RecordEntry)) → IsLegalHistory m (h ++ k) ↔ (IsLegalHistory m h × IsLegalHistory (map_after m h) k)
legal-append m [] k = (λ legal. (tt, legal), λ both. both.1)
legal-append m (e ∷ h) k =
    let rest = legal-append (map_next m e) h k in (
      λ legal. let parts = rest.0 legal.1 in ((legal.0, parts.0), parts.1),
      λ both. (both.0.0, rest.1 (both.0.1, both.1)),
    )
