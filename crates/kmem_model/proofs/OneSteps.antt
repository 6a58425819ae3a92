-- What a heap and a cache do at a command is the step of `one`.
use Rattle.std.proofs.Common.{◌≡◌, ◌↔◌, ℕ, ◌<◌, ◌≤◌, ◌==◌, ◌&&◌, ◌||◌, not, ◌++◌, ◌*◌, ◌/◌, ◌%◌, Bool, true, false, List, [], ◌∷◌, length, replicate, get_or, set, option_map, Option, Some, None, is_some, is_none, ◌⊎◌, inl, inr, ⊎_elim, sym, ◌∙◌, ap, refl, subst, arith}
use Rattle.std.specs.Option.{option_map_or}
use Rattle.std.proofs.lemmas.Bool.{cases_lt, cases_eq, both_ways, cond-true, cond-false, cond_both, eq-eqb, ne_eqb, and_left, and_right, and_from}
use Rattle.std.proofs.lemmas.List.{get_or-set_same, get_or-set_other, get_or-replicate, get_or_past, length-map, length-set, length-replicate}
use Rattle.kmem_text.specs.declared.command.NameId.{NameId}
use Rattle.kmem_text.specs.declared.command.Command.{Command}
use Rattle.kmem_text.specs.declared.command.Command.TheVariants.{Put, Get, Del, First, Next, Count, Link, Hold, Read, Write, Drop, Fix, Loose}
use Rattle.kmem_text.specs.declared.command.Tag.{Tag}
use Rattle.kmem_text.specs.declared.command.Reply.TheVariants.{New, Full, Idle}
use Rattle.kmem_model.proofs.CacheLists.{get_or-map_default, get_or-replicate_none}
use Rattle.kmem_model.proofs.CacheSearch.{least_from_some}
use Rattle.kmem_model.proofs.PlacesKept.{then_some_says}
use Rattle.kmem_model.proofs.Legal.{entered_buffers_alloc, entered_buffers_free, placed_is, full_exactly}
use Rattle.kmem_model.proofs.StepTags.{looks_leave, tags_stay}
use Rattle.kmem_model.proofs.RecordsValid.{is_the_some, some_within}
use Rattle.kmem_model.proofs.SettleWhole.{enter_whole, opening_whole, opening_calm}
use Rattle.kmem_model.proofs.Heaps.{leftover_same, room_is}
use Rattle.kmem_model.proofs.Outs.{out_after_alloc, out_after_free}
use Rattle.kmem_model.specs.CacheState.{sizes_of, CacheState, no_slab, slab_in_source, is_out, is_out_on, has_pending, opening}
use Rattle.kmem_model.specs.CacheOrder.{is_the, wanted}
use Rattle.kmem_model.specs.CacheEnter.{is_full, may_take, with_out, enter}
use Rattle.kmem_model.specs.declared.cache_entry.CacheEntry.{CacheEntry}
use Rattle.kmem_model.specs.declared.cache_entry.CacheEntry.TheVariants as entry
use Rattle.kmem_model.specs.Records.{RecordMap, id_of, held_at, is_live, tag_place, no_records}
use Rattle.kmem_model.specs.RecordStep.{put_step, read_step, write_step, drop_step, step, only_looks, leaves_tags}
use Rattle.kmem_model.specs.Heap.{least_left_in, Object, HeapState, StandsFor, hold_at, object_at, address_of, address_in, places_of, is_leftover}
use Rattle.kmem_model.specs.History.{is_put_of_absent, is_full_due}
use Rattle.kmem_model.specs.One.{OneState, OneStep, buffers_of, entered_by, least_leftover, address_for, cache_with, cache_without, placed_step, has_no_room, is_refused, one_step, one_start, one_workers, one_limit}
use Rattle.kmem_model.specs.OneStands.{OneStands, OneEnds, leaves_objects, IsOnTag}

-- Reads

-- whether there is an object, by the list of places
place_is : (h : HeapState) (b : ℕ) → is_some (object_at h b) ≡ get_or (places_of h.objects) b false
place_is h b = sym (get_or-map_default is_some h.objects b None)

-- as many objects where the places are as many
sized : (h : HeapState) (places : List Bool) (n : ℕ) → places_of h.objects ≡ places → length places ≡ n → length h.objects ≡ n
sized h places n e size = sym (length-map h.objects is_some) ∙ (ap length e ∙ size)

-- the entry that is legal leaves the state that `one` has
pub entered_is : (s t : CacheState) (made : CacheEntry) → enter s made ≡ Some t → entered_by s made ≡ t
entered_is s t made e = ap (λ x. option_map_or (λ next. next) x s) e

-- a name is present in the heap exactly where it is in the map
pub present_is : (s : OneState) (h : HeapState) (name : ℕ) → OneStands s h → is_some (id_of s.map name) ≡ is_some (address_of h name)
present_is s h name stands =
    sym (ap (λ xs. is_some (get_or xs name None)) stands.stands.paired.names ∙ (ap is_some (get_or-map_default (option_map (address_in s.addresses)) s.map.names name None) ∙ mapped (id_of s.map name)))
  where
    mapped : (x : Option ℕ) → is_some (option_map (address_in s.addresses) x) ≡ is_some x
    mapped None = refl
    mapped (Some id) = refl

absent_is : (s : OneState) (h : HeapState) (name : ℕ) → OneStands s h → address_of h name ≡ None → id_of s.map name ≡ None
absent_is s h name stands e = none_from (id_of s.map name) (present_is s h name stands ∙ ap is_some e)
  where
    none_from : (x : Option ℕ) → is_some x ≡ false → x ≡ None
    none_from None e = refl
    none_from (Some x) e = absurd (both_ways true e refl)

-- Which branch a step takes

taken : (s : OneState) (worker : ℕ) (command : Command) → is_refused s command ≡ false → one_step s worker command ≡ placed_step s command (step s.map worker command)
taken s worker command e = cond-false (is_refused s command) _ _ e

refused : (s : OneState) (worker : ℕ) (command : Command) → is_refused s command ≡ true → one_step s worker command ≡ record { reply = Full; state = s }
refused s worker command e = cond-true (is_refused s command) _ _ e

-- no put of an absent name
not_due : (s : OneState) (command : Command) → is_put_of_absent s.map command ≡ false → is_refused s command ≡ false
not_due s command e = and_left (is_put_of_absent s.map command) (has_no_room s) e

-- room, also for a put of an absent name
room_not_due : (s : OneState) (command : Command) → has_no_room s ≡ false → is_refused s command ≡ false
room_not_due s command room = and_right (is_put_of_absent s.map command) (has_no_room s) room

-- A command that leaves every object where it is

plain_step : (s : OneState) (worker : ℕ) (command : Command) → leaves_objects command ≡ true → one_step s worker command ≡ record { reply = (step s.map worker command).reply; state = record s { map = (step s.map worker command).map } }
plain_step s worker (Put name value) leaves = absurd (both_ways false refl leaves)
plain_step s worker (Del name) leaves = absurd (both_ways false refl leaves)
plain_step s worker (Get name) leaves = refl
plain_step s worker First leaves = refl
plain_step s worker (Next name) leaves = refl
plain_step s worker Count leaves = refl
plain_step s worker (Link name other) leaves = refl
plain_step s worker (Hold tag name) leaves = refl
plain_step s worker (Read tag) leaves = refl
plain_step s worker (Write tag value) leaves = refl
plain_step s worker (Drop tag) leaves = refl
plain_step s worker (Fix name) leaves = refl
plain_step s worker (Loose name) leaves = refl

-- the heap stands for a further map at the same cache
same_places : (s : OneState) (h new : HeapState) (m : RecordMap) (addresses : List ℕ) → OneStands s h → StandsFor m addresses new → places_of new.objects ≡ places_of h.objects → OneStands (record { map = m; cache = s.cache; addresses = addresses }) new
same_places s h new m addresses stands after places =
    record {
      whole = stands.whole;
      calm = stands.calm;
      stands = after;
      size = sized new (places_of h.objects) (buffers_of s.cache) places (length-map h.objects is_some ∙ stands.size);
      places = λ b. place_is new b ∙ (ap (λ ps. get_or ps b false) places ∙ (sym (place_is h b) ∙ stands.places b));
    }

pub leaving_ends : (s : OneState) (h new : HeapState) (worker : ℕ) (command : Command) → OneStands s h → leaves_objects command ≡ true → StandsFor (step s.map worker command).map s.addresses new → places_of new.objects ≡ places_of h.objects → OneEnds (one_step s worker command) (step s.map worker command).reply s.cache new
leaving_ends s h new worker command stands leaves after places =
    subst (λ made. OneEnds made (step s.map worker command).reply s.cache new) (sym (plain_step s worker command leaves))
    (record {
      replies = refl;
      leaves = refl;
      stands = same_places s h new (step s.map worker command).map s.addresses stands after places;
    })

-- A put of a name that is there

replaced_step : (s : OneState) (worker : ℕ) (name : NameId) (value : List ℕ) → is_some (id_of s.map name.0) ≡ true → one_step s worker (Put name value) ≡ record { reply = (step s.map worker (Put name value)).reply; state = record s { map = (step s.map worker (Put name value)).map } }
replaced_step s worker name value there =
    taken s worker (Put name value) (not_due s (Put name value) (some_not_none (id_of s.map name.0) there))
    ∙ cond-true (is_some (id_of s.map name.0)) _ _ there
  where
    some_not_none : (x : Option ℕ) → is_some x ≡ true → is_none x ≡ false
    some_not_none (Some x) e = refl
    some_not_none None e = absurd (both_ways false refl e)

pub replaced_ends : (s : OneState) (h new : HeapState) (worker : ℕ) (name : NameId) (value : List ℕ) → OneStands s h → is_some (address_of h name.0) ≡ true → StandsFor (step s.map worker (Put name value)).map s.addresses new → places_of new.objects ≡ places_of h.objects → OneEnds (one_step s worker (Put name value)) (step s.map worker (Put name value)).reply s.cache new
replaced_ends s h new worker name value stands there after places =
    subst (λ made. OneEnds made (step s.map worker (Put name value)).reply s.cache new) (sym (replaced_step s worker name value (present_is s h name.0 stands ∙ there)))
    (record {
      replies = refl;
      leaves = refl;
      stands = same_places s h new (step s.map worker (Put name value)).map s.addresses stands after places;
    })

-- A put of an absent name

-- with room it is placed, and replies as a new one
placed_new : (s : OneState) (worker : ℕ) (name : NameId) (value : List ℕ) → id_of s.map name.0 ≡ None → has_no_room s ≡ false → one_step s worker (Put name value) ≡ record { reply = New; state = record { map = (step s.map worker (Put name value)).map; cache = cache_with s; addresses = s.addresses ++ address_for s ∷ [] } }
placed_new s worker name value absent few =
    taken s worker (Put name value) (room_not_due s (Put name value) few)
    ∙ (cond-false (is_some (id_of s.map name.0)) _ _ (ap is_some absent)
    ∙ ap (λ reply. record { reply = reply; state = record { map = (step s.map worker (Put name value)).map; cache = cache_with s; addresses = s.addresses ++ address_for s ∷ [] } }) (ap (λ id. (put_step s.map name.0 value id).reply) absent))

-- where it goes
address_allocated : (s : OneState) (b : ℕ) → is_full s.cache ≡ false → is_the (wanted s.cache) b ≡ true → address_for s ≡ b
address_allocated s b room is = ap (λ x. option_map_or (λ n. n) x 0) (cond-false (is_full s.cache) (least_leftover s) (wanted s.cache) room ∙ is_the_some (wanted s.cache) b is)

address_left : (s : OneState) (b : ℕ) → is_full s.cache ≡ true → least_leftover s ≡ Some b → address_for s ≡ b
address_left s b full is = ap (λ x. option_map_or (λ n. n) x 0) (cond-true (is_full s.cache) (least_leftover s) (wanted s.cache) full ∙ is)

-- the cache that it leaves
cache_allocated : (s : OneState) (b : ℕ) (t : CacheState) → is_full s.cache ≡ false → address_for s ≡ b → enter s.cache (entry.Alloc b) ≡ Some t → cache_with s ≡ t
cache_allocated s b t room at e = cond-false (is_full s.cache) _ _ room ∙ (ap (λ n. entered_by s.cache (entry.Alloc n)) at ∙ entered_is s.cache t (entry.Alloc b) e)

-- no move is pending after a buffer was allocated
calm_alloc : (s t : CacheState) (b : ℕ) → enter s (entry.Alloc b) ≡ Some t → has_pending s ≡ false → has_pending t ≡ false
calm_alloc s t b e calm = ap has_pending (sym (then_some_says (may_take s b) (with_out s b) t e).1) ∙ calm

pub made_ends : (s : OneState) (h new : HeapState) (t : CacheState) (worker : ℕ) (name : NameId) (value : List ℕ) (b : ℕ) → OneStands s h → address_of h name.0 ≡ None → is_full s.cache ≡ false → enter s.cache (entry.Alloc b) ≡ Some t → b < buffers_of s.cache → object_at h b ≡ None → StandsFor (step s.map worker (Put name value)).map (s.addresses ++ b ∷ []) new → places_of new.objects ≡ set (places_of h.objects) b true → OneEnds (one_step s worker (Put name value)) New t new
made_ends s h new t worker name value b stands absent room e below empty after places =
    let may : is_the (wanted s.cache) b ≡ true = (then_some_says (may_take s.cache b) (with_out s.cache b) t e).0 in
    let at : address_for s ≡ b = address_allocated s b room may in
    let cache : cache_with s ≡ t = cache_allocated s b t room at e in
    let is = placed_new s worker name value (absent_is s h name.0 stands absent) (and_left (is_full s.cache) (is_none (least_leftover s)) room) in
    subst (λ made. OneEnds made New t new) (sym (is ∙ ap (λ n. record { reply = New; state = record { map = (step s.map worker (Put name value)).map; cache = cache_with s; addresses = s.addresses ++ n ∷ [] } }) at ∙ ap (λ c. record { reply = New; state = record { map = (step s.map worker (Put name value)).map; cache = c; addresses = s.addresses ++ b ∷ [] } }) cache))
    (record {
      replies = refl;
      leaves = refl;
      stands = record {
        whole = enter_whole s.cache t (entry.Alloc b) stands.whole e;
        calm = calm_alloc s.cache t b e stands.calm;
        stands = after;
        size = sized new (set (places_of h.objects) b true) (buffers_of t) places (length-set (places_of h.objects) b true ∙ (length-map h.objects is_some ∙ (stands.size ∙ sym (buffers t))));
        places = λ n. place_is new n ∙ (ap (λ ps. get_or ps n false) places ∙ (written n ∙ sym (out_after_alloc s.cache t b n stands.whole below e)));
      };
    })
  where
    buffers : (u : CacheState) → buffers_of t ≡ buffers_of s.cache
    buffers u = ap buffers_of (sym (entered_is s.cache t (entry.Alloc b) e)) ∙ entered_buffers_alloc s.cache b

    written : (n : ℕ) → get_or (set (places_of h.objects) b true) n false ≡ (n == b || is_out s.cache n)
    written n =
        ⊎_elim
        (λ same. ap (λ k. get_or (set (places_of h.objects) b true) k false) same ∙ (get_or-set_same (places_of h.objects) b true false (omega (arith, length-map h.objects is_some, stands.size, below)) ∙ sym (ap (λ x. x || is_out s.cache n) (eq-eqb n b same))))
        (λ other. get_or-set_other (places_of h.objects) b n true false other ∙ (sym (place_is h n) ∙ (stands.places n ∙ sym (ap (λ x. x || is_out s.cache n) (ne_eqb n b other)))))
        (cases_eq n b)

pub reused_ends : (s : OneState) (h new : HeapState) (worker : ℕ) (name : NameId) (value : List ℕ) (b : ℕ) → OneStands s h → address_of h name.0 ≡ None → is_full s.cache ≡ true → least_left_in h ≡ Some b → StandsFor (step s.map worker (Put name value)).map (s.addresses ++ b ∷ []) new → places_of new.objects ≡ places_of h.objects → OneEnds (one_step s worker (Put name value)) New s.cache new
reused_ends s h new worker name value b stands absent full left after places =
    let is_left : least_leftover s ≡ Some b = sym (leftover_same s h stands) ∙ left in
    let at : address_for s ≡ b = address_left s b full is_left in
    let cache : cache_with s ≡ s.cache = cond-true (is_full s.cache) s.cache _ full in
    let is = placed_new s worker name value (absent_is s h name.0 stands absent) (and_right (is_full s.cache) (is_none (least_leftover s)) (ap is_none is_left)) in
    subst (λ made. OneEnds made New s.cache new) (sym (is ∙ ap (λ n. record { reply = New; state = record { map = (step s.map worker (Put name value)).map; cache = cache_with s; addresses = s.addresses ++ n ∷ [] } }) at ∙ ap (λ c. record { reply = New; state = record { map = (step s.map worker (Put name value)).map; cache = c; addresses = s.addresses ++ b ∷ [] } }) cache))
    (record {
      replies = refl;
      leaves = refl;
      stands = same_places s h new (step s.map worker (Put name value)).map (s.addresses ++ b ∷ []) stands after places;
    })

pub refused_ends : (s : OneState) (h : HeapState) (worker : ℕ) (name : NameId) (value : List ℕ) → OneStands s h → address_of h name.0 ≡ None → is_full s.cache ≡ true → least_left_in h ≡ None → OneEnds (one_step s worker (Put name value)) Full s.cache h
refused_ends s h worker name value stands absent full none =
    let no_room : has_no_room s ≡ true = and_from (is_full s.cache) (is_none (least_leftover s)) full (ap is_none (sym (leftover_same s h stands) ∙ none)) in
    let due : is_refused s (Put name value) ≡ true = and_from (is_none (id_of s.map name.0)) (has_no_room s) (ap is_none (absent_is s h name.0 stands absent)) no_room in
    subst (λ made. OneEnds made Full s.cache h) (sym (refused s worker (Put name value) due))
    (record { replies = refl; leaves = refl; stands = stands })

-- A del

-- where the record lives on, or there is none, the cache stays
pub kept_ends : (s : OneState) (h new : HeapState) (worker : ℕ) (name : NameId) → OneStands s h → ((id : ℕ) → id_of s.map name.0 ≡ Some id → is_live (step s.map worker (Del name)).map id ≡ true) → StandsFor (step s.map worker (Del name)).map s.addresses new → places_of new.objects ≡ places_of h.objects → OneEnds (one_step s worker (Del name)) (step s.map worker (Del name)).reply s.cache new
kept_ends s h new worker name stands lives after places =
    subst (λ c. OneEnds (record { reply = (step s.map worker (Del name)).reply; state = record { map = (step s.map worker (Del name)).map; cache = c; addresses = s.addresses } }) (step s.map worker (Del name)).reply s.cache new)
    (sym (stays (id_of s.map name.0) refl))
    (record {
      replies = refl;
      leaves = refl;
      stands = same_places s h new (step s.map worker (Del name)).map s.addresses stands after places;
    })
  where
    stays : (id : Option ℕ) → id_of s.map name.0 ≡ id → cache_without s (step s.map worker (Del name)).map id ≡ s.cache
    stays None e = refl
    stays (Some id) e = cond-true (is_live (step s.map worker (Del name)).map id) s.cache _ (lives id e)

-- no move is pending after a buffer was freed
calm_free : (s t : CacheState) (b : ℕ) → enter s (entry.Free b) ≡ Some t → has_pending s ≡ false → has_pending t ≡ false
calm_free s t b e calm = ap has_pending (sym (then_some_says (is_out s b) _ t e).1) ∙ calm

-- where it ends, its buffer is freed
pub ended_ends : (s : OneState) (h new : HeapState) (t : CacheState) (worker : ℕ) (name : NameId) (b : ℕ) → OneStands s h → address_of h name.0 ≡ Some b → ((id : ℕ) → id_of s.map name.0 ≡ Some id → (is_live (step s.map worker (Del name)).map id ≡ false) × (address_in s.addresses id ≡ b)) → enter s.cache (entry.Free b) ≡ Some t → StandsFor (step s.map worker (Del name)).map s.addresses new → places_of new.objects ≡ set (places_of h.objects) b false → OneEnds (one_step s worker (Del name)) (step s.map worker (Del name)).reply t new
ended_ends s h new t worker name b stands there ended e after places =
    subst (λ c. OneEnds (record { reply = (step s.map worker (Del name)).reply; state = record { map = (step s.map worker (Del name)).map; cache = c; addresses = s.addresses } }) (step s.map worker (Del name)).reply t new)
    (sym (freed (id_of s.map name.0) refl (present_is s h name.0 stands ∙ ap is_some there)))
    (record {
      replies = refl;
      leaves = refl;
      stands = record {
        whole = enter_whole s.cache t (entry.Free b) stands.whole e;
        calm = calm_free s.cache t b e stands.calm;
        stands = after;
        size = sized new (set (places_of h.objects) b false) (buffers_of t) places (length-set (places_of h.objects) b false ∙ (length-map h.objects is_some ∙ (stands.size ∙ sym buffers)));
        places = λ n. place_is new n ∙ (ap (λ ps. get_or ps n false) places ∙ (written n ∙ sym (out_after_free s.cache t b n stands.whole e)));
      };
    })
  where
    freed : (id : Option ℕ) → id_of s.map name.0 ≡ id → is_some id ≡ true → cache_without s (step s.map worker (Del name)).map id ≡ t
    freed None is some = absurd (both_ways false refl some)
    freed (Some id) is some = cond-false (is_live (step s.map worker (Del name)).map id) s.cache _ (ended id is).0 ∙ (ap (λ n. entered_by s.cache (entry.Free n)) (ended id is).1 ∙ entered_is s.cache t (entry.Free b) e)

    buffers : buffers_of t ≡ buffers_of s.cache
    buffers = ap buffers_of (sym (entered_is s.cache t (entry.Free b) e)) ∙ entered_buffers_free s.cache b

    inside : b < length (places_of h.objects)
    inside = omega (arith, length-map h.objects is_some, some_within h.objects b (stands.stands.paired.tied.named name.0 b there))

    written : (n : ℕ) → get_or (set (places_of h.objects) b false) n false ≡ (not (n == b) && is_out s.cache n)
    written n =
        ⊎_elim
        (λ same. ap (λ k. get_or (set (places_of h.objects) b false) k false) same ∙ (get_or-set_same (places_of h.objects) b false false inside ∙ sym (ap (λ x. not x && is_out s.cache n) (eq-eqb n b same))))
        (λ other. get_or-set_other (places_of h.objects) b n false false other ∙ (sym (place_is h n) ∙ (stands.places n ∙ sym (ap (λ x. not x && is_out s.cache n) (ne_eqb n b other)))))
        (cases_eq n b)

-- A command that only looks, and one on a tag that isn't in use

looking_leaves : (command : Command) → only_looks command ≡ true → leaves_objects command ≡ true
looking_leaves (Get name) looks = refl
looking_leaves First looks = refl
looking_leaves (Next name) looks = refl
looking_leaves Count looks = refl
looking_leaves (Read tag) looks = refl
looking_leaves (Put name value) looks = looks
looking_leaves (Del name) looks = looks
looking_leaves (Link name other) looks = refl
looking_leaves (Hold tag name) looks = refl
looking_leaves (Write tag value) looks = refl
looking_leaves (Drop tag) looks = refl
looking_leaves (Fix name) looks = refl
looking_leaves (Loose name) looks = refl

-- where the step leaves the map, the heap stands as it is
unmoved_ends : (s : OneState) (h : HeapState) (worker : ℕ) (command : Command) → OneStands s h → leaves_objects command ≡ true → (step s.map worker command).map ≡ s.map → OneEnds (one_step s worker command) (step s.map worker command).reply s.cache h
unmoved_ends s h worker command stands leaves same =
    subst (λ made. OneEnds made (step s.map worker command).reply s.cache h) (sym (plain_step s worker command leaves))
    (record {
      replies = refl;
      leaves = refl;
      stands = same_places s h h (step s.map worker command).map s.addresses stands (subst (λ m. StandsFor m s.addresses h) (sym same) stands.stands) refl;
    })

pub looking_ends : (s : OneState) (h : HeapState) (worker : ℕ) (command : Command) → OneStands s h → only_looks command ≡ true → OneEnds (one_step s worker command) (step s.map worker command).reply s.cache h
looking_ends s h worker command stands looks = unmoved_ends s h worker command stands (looking_leaves command looks) (looks_leave s.map worker command looks)

-- the tag of a command on a record that a tag holds
not_in_use : (s : OneState) (h : HeapState) (place : ℕ) → OneStands s h → hold_at h place ≡ None → held_at s.map place ≡ None
not_in_use s h place stands e =
    by_id (held_at s.map place) (sym (ap (λ xs. get_or xs place None) stands.stands.paired.tags ∙ get_or-map_default (option_map (address_in s.addresses)) s.map.tags place None) ∙ e)
  where
    by_id : (x : Option ℕ) → option_map (address_in s.addresses) x ≡ None → x ≡ None
    by_id None e = refl
    by_id (Some id) e = absurd (cc)

pub idle_ends : (s : OneState) (h : HeapState) (worker : ℕ) (command : Command) (tag : Tag) → OneStands s h → hold_at h (tag_place worker tag) ≡ None → IsOnTag command tag → OneEnds (one_step s worker command) Idle s.cache h
idle_ends s h worker command tag stands none on =
    let is = idle_step command on in
    subst (λ reply. OneEnds (one_step s worker command) reply s.cache h) is.1 (unmoved_ends s h worker command stands (leaves command on) is.0)
  where
    none_held : held_at s.map (tag_place worker tag) ≡ None
    none_held = not_in_use s h (tag_place worker tag) stands none

    leaves : (c : Command) → IsOnTag c tag → leaves_objects c ≡ true
    leaves (Read t) on = refl
    leaves (Write t value) on = refl
    leaves (Drop t) on = refl
    leaves (Put name value) on = absurd on
    leaves (Get name) on = absurd on
    leaves (Del name) on = absurd on
    leaves First on = absurd on
    leaves (Next name) on = absurd on
    leaves Count on = absurd on
    leaves (Link name other) on = absurd on
    leaves (Hold t name) on = absurd on
    leaves (Fix name) on = absurd on
    leaves (Loose name) on = absurd on

    idle_step : (c : Command) → IsOnTag c tag → ((step s.map worker c).map ≡ s.map) × ((step s.map worker c).reply ≡ Idle)
    idle_step (Read t) on = let e = ap (λ (u : Tag). held_at s.map (tag_place worker u)) on ∙ none_held in (ap (λ x. (read_step s.map x).map) e, ap (λ x. (read_step s.map x).reply) e)
    idle_step (Write t value) on = let e = ap (λ (u : Tag). held_at s.map (tag_place worker u)) on ∙ none_held in (ap (λ x. (write_step s.map value x).map) e, ap (λ x. (write_step s.map value x).reply) e)
    idle_step (Drop t) on = let e = ap (λ (u : Tag). held_at s.map (tag_place worker u)) on ∙ none_held in (ap (λ x. (drop_step s.map (tag_place worker t) x).map) e, ap (λ x. (drop_step s.map (tag_place worker t) x).reply) e)
    idle_step (Put name value) on = absurd on
    idle_step (Get name) on = absurd on
    idle_step (Del name) on = absurd on
    idle_step First on = absurd on
    idle_step (Next name) on = absurd on
    idle_step Count on = absurd on
    idle_step (Link name other) on = absurd on
    idle_step (Hold t name) on = absurd on
    idle_step (Fix name) on = absurd on
    idle_step (Loose name) on = absurd on

-- The start

-- no buffer is out of a cache that was just opened
none_out : (slabs chunks limit b : ℕ) → is_out (opening (sizes_of slabs chunks limit)) b ≡ false
none_out slabs chunks limit b =
    ⊎_elim
    (λ row. ap (λ slab. is_out_on slab (b % chunks)) (get_or-replicate slabs (b / chunks) (slab_in_source chunks) no_slab row) ∙ on_slab (cases_lt (b % chunks) chunks))
    (λ past. ap (λ slab. is_out_on slab (b % chunks)) (get_or_past (replicate slabs (slab_in_source chunks)) (b / chunks) no_slab (omega (arith, past, length-replicate slabs (slab_in_source chunks)))))
    (cases_lt (b / chunks) slabs)
  where
    on_slab : (b % chunks < chunks) ⊎ (chunks ≤ b % chunks) → get_or (replicate chunks false) (b % chunks) false ≡ false
    on_slab (inl column) = get_or-replicate chunks (b % chunks) false false column
    on_slab (inr past) = get_or_past (replicate chunks false) (b % chunks) false (omega (arith, past, length-replicate chunks false))

pub start_ends : (slabs chunks names : ℕ) (h : HeapState) → 0 < chunks → h.objects ≡ replicate (slabs * chunks) None → StandsFor (no_records names one_workers) [] h → OneStands (one_start slabs chunks names) h
start_ends slabs chunks names h positive empty stands =
    record {
      whole = opening_whole slabs chunks one_limit positive (omega arith);
      calm = opening_calm slabs chunks one_limit;
      stands = stands;
      size = ap length empty ∙ (length-replicate (slabs * chunks) None ∙ sym (length-replicate (slabs * chunks) false));
      places = λ b. ap (λ (os : List (Option Object)). is_some (get_or os b None)) empty ∙ (ap is_some (get_or-replicate_none (slabs * chunks) b) ∙ sym (none_out slabs chunks one_limit b));
    }

-- A leftover that is freed

-- where the heap's least leftover is freed, the least leftover of `one` is
pub freed_ends : (s : OneState) (h new : HeapState) (t : CacheState) (b : ℕ) → OneStands s h → least_left_in h ≡ Some b → enter s.cache (entry.Free b) ≡ Some t → StandsFor s.map s.addresses new → places_of new.objects ≡ set (places_of h.objects) b false → (least_leftover s ≡ Some b) × (entered_by s.cache (entry.Free b) ≡ t) × OneStands (record s { cache = entered_by s.cache (entry.Free b) }) new
freed_ends s h new t b stands left e after places = (
  sym (leftover_same s h stands) ∙ left,
  entered_is s.cache t (entry.Free b) e,
  subst (λ c. OneStands (record s { cache = c }) new) (sym (entered_is s.cache t (entry.Free b) e))
      (record {
        whole = enter_whole s.cache t (entry.Free b) stands.whole e;
        calm = calm_free s.cache t b e stands.calm;
        stands = after;
        size = sized new (set (places_of h.objects) b false) (buffers_of t) places (length-set (places_of h.objects) b false ∙ (length-map h.objects is_some ∙ (stands.size ∙ sym buffers)));
        places = λ n. place_is new n ∙ (ap (λ ps. get_or ps n false) places ∙ (written n ∙ sym (out_after_free s.cache t b n stands.whole e)));
      }),
)
  where
    buffers : buffers_of t ≡ buffers_of s.cache
    buffers = ap buffers_of (sym (entered_is s.cache t (entry.Free b) e)) ∙ entered_buffers_free s.cache b

    inside : b < length (places_of h.objects)
    inside = omega (arith, length-map h.objects is_some, (least_from_some (length h.objects) (λ n. is_leftover (object_at h n)) b left).below)

    written : (n : ℕ) → get_or (set (places_of h.objects) b false) n false ≡ (not (n == b) && is_out s.cache n)
    written n =
        ⊎_elim
        (λ same. ap (λ k. get_or (set (places_of h.objects) b false) k false) same ∙ (get_or-set_same (places_of h.objects) b false false inside ∙ sym (ap (λ x. not x && is_out s.cache n) (eq-eqb n b same))))
        (λ other. get_or-set_other (places_of h.objects) b n false false other ∙ (sym (place_is h n) ∙ (stands.places n ∙ sym (ap (λ x. not x && is_out s.cache n) (ne_eqb n b other)))))
        (cases_eq n b)

-- Tags after a step

pub maps_are : (s : OneState) (worker : ℕ) (command : Command) → leaves_objects command ≡ true → (one_step s worker command).state.map ≡ (step s.map worker command).map
maps_are s worker command leaves = ap (λ (made : OneStep). made.state.map) (plain_step s worker command leaves)

pub one_tags_stay : (s : OneState) (worker : ℕ) (command : Command) → leaves_tags command ≡ true → (one_step s worker command).state.map.tags ≡ s.map.tags
one_tags_stay s worker command leaves =
    cond_both (is_refused s command) _ _ (λ (made : OneStep). made.state.map.tags ≡ s.map.tags)
    (λ due. refl)
    (λ free. ap (λ (m : RecordMap). m.tags) (placed_is s command (step s.map worker command)).map ∙ tags_stay s.map worker command leaves)

-- `full` is replied exactly where as many records live as there are buffers
pub full_ends : (s : OneState) (h : HeapState) (worker : ℕ) (command : Command) → OneStands s h → ((one_step s worker command).reply ≡ Full) ↔ (is_full_due (buffers_of s.cache) s.map command ≡ true)
full_ends s h worker command stands = full_exactly s worker command (ap (λ room. is_put_of_absent s.map command && room) (room_is s h stands))
