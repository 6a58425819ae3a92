-- A command on a tag that isn't in use.
use Rattle.std.proofs.Common.{◌≡◌, ℕ, ◌<◌, ◌*◌, false, List, Option, None, Some, get_or, inl, inr, arith, sym, ap, ◌∙◌, refl, subst}
use Rattle.std.specs.Option.{is_some, option_map}
use Rattle.std.proofs.lemmas.List.{length-replicate}
use Rattle.kmem_text.specs.declared.command.Command.{Command}
use Rattle.kmem_text.specs.declared.command.Command.TheVariants.{Read, Write, Drop}
use Rattle.kmem_text.specs.declared.command.Reply.TheVariants.{Idle}
use Rattle.kmem_text.specs.Grammar.{IsWithinNames, IsWithinTags}
use Rattle.kmem_model.specs.Records.{RecordMap, no_records, tag_place, held_at, live_count}
use Rattle.kmem_model.specs.RecordStep.{Step, step, read_step, write_step, drop_step}
use Rattle.kmem_model.specs.Heap.{HeapState, StandsFor, hold_at, address_in}
use Rattle.kmem_model.specs.History.{worker_of, map_after, in_use, own_entries}
use Rattle.kmem_model.specs.declared.record_entry.RecordEntry.{RecordEntry}
use Rattle.kmem_model.proofs.CacheLists.{get_or-map_default}
use Rattle.kmem_model.proofs.HistoryTags.{in_use_from, none_held}
use Rattle.record_table.specs.Tables.{TableView, IsStandingFor, home_of}
use Rattle.record_table.specs.Turns.{entry_of, HasEntered}
use Rattle.record_table.specs.Holds.{tag_in, IsIdleAsk}
use Rattle.record_table.proofs.Entered.{entered, next_is}

none_from : (x : Option ℕ) → is_some x ≡ false → x ≡ None
none_from None e = refl
none_from (Some x) e = absurd (cc)

none_under : (f : ℕ → ℕ) (x : Option ℕ) → option_map f x ≡ None → x ≡ None
none_under f None e = refl
none_under f (Some x) e = absurd (cc)

-- no tag holds anything at this place of a heap, where none does in a map for which it stands; and the other way round
hold_is : (m : RecordMap) (addresses : List ℕ) (h : HeapState) (place : ℕ) → StandsFor m addresses h → hold_at h place ≡ option_map (address_in addresses) (held_at m place)
hold_is m addresses h place stands =
    ap (λ xs. get_or xs place None) stands.paired.tags ∙ get_or-map_default (option_map (address_in addresses)) m.tags place None

-- a tag that a heap has at an address holds some id, with that address, in each map for which the heap stands
pub held_in : (m : RecordMap) (addresses : List ℕ) (h : HeapState) (place b : ℕ) → StandsFor m addresses h → hold_at h place ≡ Some b →
    (id : ℕ) × (held_at m place ≡ Some id) × (address_in addresses id ≡ b)
held_in m addresses h place b stands there = by (held_at m place) refl (sym (hold_is m addresses h place stands) ∙ there)
  where
    by : (x : Option ℕ) → held_at m place ≡ x → option_map (address_in addresses) x ≡ Some b → (id : ℕ) × (held_at m place ≡ Some id) × (address_in addresses id ≡ b)
    by None is e = absurd (cc)
    by (Some id) is e = (id, is, cc)

-- a tag that its pass's own entries leave free
free_in : (t : TableView) (h : List (ℕ × RecordEntry)) (who tag : ℕ) → IsStandingFor t h → who < t.workers → tag < 8 → in_use tag false (own_entries who h) ≡ false →
    held_at (map_after (no_records t.names t.workers) h) (tag_place (worker_of who) tag) ≡ None
free_in t h who tag it worker small free =
    let start = no_records t.names t.workers in
    none_from _
    (in_use_from t.names t.workers who tag start h small worker (length-replicate (8 * t.workers) None) it.legal it.within
    ∙ (ap (λ b. in_use tag b (own_entries who h)) (none_held t.names t.workers (tag_place (worker_of who) tag)) ∙ free))

-- it is free for every history that the object stands for
free_for_all : (t : TableView) (h other : List (ℕ × RecordEntry)) (place : ℕ) → IsStandingFor t h → (it : IsStandingFor t other) →
    held_at (map_after (no_records t.names t.workers) h) place ≡ None → held_at (map_after (no_records t.names t.workers) other) place ≡ None
free_for_all t h other place first it none =
    none_under (address_in it.addresses) _
    (sym (hold_is _ it.addresses t.heap.heap place it.stands)
    ∙ (hold_is _ first.addresses t.heap.heap place first.stands ∙ ap (option_map (address_in first.addresses)) none))

-- what is said of it, and that the map stays
idle_step : (m : RecordMap) (worker : ℕ) (command : Command) (tag : ℕ) → tag_in command ≡ Some tag → held_at m (tag_place worker tag) ≡ None →
    step m worker command ≡ record { reply = Idle; map = m }
idle_step m worker (Read t) tag on none = ap (read_step m) (subst (λ n. held_at m (tag_place worker n) ≡ None) (sym (some_is on)) none)
  where
    some_is : Some t ≡ Some tag → t ≡ tag
    some_is e = cc
idle_step m worker (Write t v) tag on none = ap (write_step m v) (subst (λ n. held_at m (tag_place worker n) ≡ None) (sym (some_is on)) none)
  where
    some_is : Some t ≡ Some tag → t ≡ tag
    some_is e = cc
idle_step m worker (Drop t) tag on none = ap (drop_step m (tag_place worker t)) (subst (λ n. held_at m (tag_place worker n) ≡ None) (sym (some_is on)) none)
  where
    some_is : Some t ≡ Some tag → t ≡ tag
    some_is e = cc
idle_step m worker command tag on none = absurd (cc)

-- a command on a tag names no name, and its tag is small
on_tag : (names : ℕ) (command : Command) (tag : ℕ) → tag_in command ≡ Some tag → tag < 8 → IsWithinNames names command × IsWithinTags command
on_tag names (Read t) tag on small = (tt, subst (λ n. n < 8) (some_is on) small)
  where
    some_is : Some t ≡ Some tag → tag ≡ t
    some_is e = cc
on_tag names (Write t v) tag on small = (tt, subst (λ n. n < 8) (some_is on) small)
  where
    some_is : Some t ≡ Some tag → tag ≡ t
    some_is e = cc
on_tag names (Drop t) tag on small = (tt, subst (λ n. n < 8) (some_is on) small)
  where
    some_is : Some t ≡ Some tag → tag ≡ t
    some_is e = cc
on_tag names command tag on small = absurd (cc)

pub idled : (t : TableView) (who number : ℕ) (command : Command) (h : List (ℕ × RecordEntry)) → IsStandingFor t h → IsIdleAsk (home_of t) who command h →
    HasEntered t t who (entry_of number command Idle)
idled t who number command h first ask other it =
    let m = map_after (no_records t.names t.workers) other in
    let none = free_for_all t h other (tag_place (worker_of who) ask.tag) first it (free_in t h who ask.tag first ask.worker ask.small ask.free) in
    let is : step m (worker_of who) command ≡ record { reply = Idle; map = m } = idle_step m (worker_of who) command ask.tag ask.on none in
    let within = on_tag t.names command ask.tag ask.on ask.small in
    let same : Idle ≡ (step m (worker_of who) command).reply = ap (λ (s : Step). s.reply) (sym is) in
    let stays = next_is m who number command Idle same ∙ ap (λ (s : Step). s.map) is in
    entered t t.heap t.pen t.shares who number command Idle other ask.worker within.0 within.1 it (inr same) it.addresses
    (subst (λ (map : RecordMap). StandsFor map it.addresses t.heap.heap) (sym stays) it.stands) it.known it.counted
    (inl (omega (arith, ap live_count stays)))
