-- A settle of records: each is where its names and its tags are.
use Rattle.std.proofs.Common.{◌≡◌, ℕ, suc, zero, ◌+◌, ◌*◌, ◌<◌, ◌==◌, ◌⊎◌, inl, inr, nat_lt, Bool, true, false, cond, List, [], ◌∷◌, length, map, get_or, Option, Some, None, is_some, is_none, option_map, option_and_then, ⊎_elim, sym, ◌∙◌, ap, refl, subst, arith}
use Rattle.std.specs.List.{list_any}
use Rattle.std.proofs.lemmas.Bool.{cases_lt, both_ways, ltb-true, cond-true, cond-false}
use Rattle.std.proofs.lemmas.List.{length-map, get_or_default}
use Rattle.kmem_buf.specs.declared.owner.Stand.{Stand}
use Rattle.kmem_buf.specs.declared.owner.Stand.TheVariants.{Movable, Spare, Fixed, Busy}
use Rattle.kmem_model.proofs.CacheLists.{get_or-map_default, map-map, map_agree}
use Rattle.kmem_model.proofs.CacheChoices.{map_says}
use Rattle.kmem_model.proofs.RecordsValid.{is_the_some, is_the_same, live_within, some_within}
use Rattle.kmem_model.proofs.Heaps.{leads_somewhere, live_object}
use Rattle.kmem_model.specs.CacheState.{CacheState}
use Rattle.kmem_model.specs.CacheOrder.{is_the}
use Rattle.kmem_model.specs.Records.{RecordMap, id_of, held_at, is_live, name_count, tag_count}
use Rattle.kmem_model.specs.Heap.{Object, HeapState, address_of, object_at, record_of, has_record, address_in, IsTied, StandsFor}
use Rattle.kmem_model.specs.Says.{answer_about, stage_in, AreInBuffers}
use Rattle.kmem_model.specs.Settle.{Stage, EndedMove}
use Rattle.kmem_model.specs.SettleWhole.{IsSettled, IsStuckSlab}
use Rattle.kmem_model.specs.OneRun.{addresses_moved}
use Rattle.kmem_model.specs.declared.cache_entry.Said.{Said}
use Rattle.record_heap.specs.View.{HeapView}
use Rattle.record_heap.specs.Tenants.{TenantState, stand_of, stands_of, tag_of, tags_from, tags_at, tenants_in, tenants_of, MeaningState, HasMeaning}
use Rattle.record_heap.proofs.Tenants.{about_stand, stand_is, tenant_is, many}
use Rattle.consolidator.specs.Settles.{HeapMoves}
use Rattle.consolidator.specs.Owned.{Holdings, holdings, has_object, AreOwned, said_about, stage_with, holdings_left, AreAnswered, IsHeldUp, AreSettled}
use Rattle.consolidator.proofs.Owning.{said_is}
use Rattle.consolidator.proofs.Followed.{is_kept, housed_left, length_moved}

-- The stage

object_is : (x : Option Object) → has_object (stand_of x) ≡ is_some x
object_is None = refl
object_is (Some o) = by (is_none o.value) o.fixed (nat_lt 0 o.holds)
  where
    by : (none fixed held : Bool) → has_object (cond none Spare (cond fixed Fixed (cond held Busy Movable))) ≡ true
    by true fixed held = refl
    by false true held = refl
    by false false true = refl
    by false false false = refl

pub heap_owned : (cache : CacheState) (h : HeapView) → AreInBuffers cache h.heap.objects → AreOwned cache (stands_of h)
heap_owned cache h within = record {
  size = length-map h.heap.objects stand_of ∙ within.size;
  places = λ b. ap has_object (stand_is h b) ∙ (object_is (object_at h.heap b) ∙ within.places b);
}

pub owned_within : (cache : CacheState) (h : HeapView) → AreOwned cache (stands_of h) → AreInBuffers cache h.heap.objects
owned_within cache h owned = record {
  size = sym (length-map h.heap.objects stand_of) ∙ owned.size;
  places = λ b. sym (object_is (object_at h.heap b)) ∙ (ap has_object (sym (stand_is h b)) ∙ owned.places b);
}

pub same_stage : (cache : CacheState) (h : HeapView) → stage_with cache (stands_of h) ≡ stage_in cache h.heap.objects
same_stage cache h = ap (λ (says : List Said). record { cache = cache; says = says })
    (map-map stand_of said_about h.heap.objects ∙ map_agree (λ x. said_about (stand_of x)) answer_about h.heap.objects (λ i d below. about_stand (get_or h.heap.objects i d)))

stuck_is : (cache : CacheState) (stands : List Stand) (i : ℕ) → IsHeldUp cache stands i → IsStuckSlab (stage_with cache stands) i
stuck_is cache stands i held =
    let b = i * cache.chunks + held.index in
    record {
      index = held.index;
      marked = held.marked;
      out = held.out;
      said = ⊎_elim (λ fixed. inl (said_is cache stands b ∙ ap said_about fixed)) (λ busy. inr (said_is cache stands b ∙ ap said_about busy)) held.stand;
    }

pub settled_in_heap : (cache : CacheState) (h : HeapView) → AreSettled cache (stands_of h) → IsSettled (stage_in cache h.heap.objects)
settled_in_heap cache h settled = subst (λ (s : Stage). IsSettled s) (same_stage cache h) (record {
  calm = settled.calm;
  none_dead = settled.none_dead;
  partial = ⊎_elim (λ few. inl few) (λ held. inr (λ i partial. stuck_is cache (stands_of h) i (held i partial))) settled.partial;
})

-- Tags

-- the tag is among these
Has : ℕ × ℕ → List (ℕ × ℕ) → Type 0
Has t [] = ⊥
Has t (x ∷ xs) = (t ≡ x) ⊎ Has t xs

tag_there : (xs : List (Option ℕ)) (from i b : ℕ) → get_or xs i None ≡ Some b → Has (tag_of (from + i)) (tags_from from b xs)
unfolding Has
tag_there [] from i b e = absurd (cc)
tag_there (x ∷ xs) from zero b e =
    subst (λ ts. Has (tag_of (from + 0)) ts) (sym (cond-true (is_the x b) _ _ (is_the_same x b e))) (inl (ap tag_of (omega arith)))
tag_there (x ∷ xs) from (suc i) b e = by (subst (λ n. Has (tag_of n) (tags_from (from + 1) b xs)) (omega arith) (tag_there xs (from + 1) i b e)) (is_the x b) refl
  where
    by : Has (tag_of (from + suc i)) (tags_from (from + 1) b xs) → (t : Bool) → is_the x b ≡ t → Has (tag_of (from + suc i)) (tags_from from b (x ∷ xs))
    by later true is = subst (λ ts. Has (tag_of (from + suc i)) ts) (sym (cond-true (is_the x b) _ _ is)) (inr later)
    by later false is = subst (λ ts. Has (tag_of (from + suc i)) ts) (sym (cond-false (is_the x b) _ _ is)) later

-- where a tag stands
record Stands (xs : List (Option ℕ)) (from b : ℕ) (t : ℕ × ℕ) : Type 0 where
  at : ℕ
  is : t ≡ tag_of (from + at)
  leads : get_or xs at None ≡ Some b

stands_later : (x : Option ℕ) (xs : List (Option ℕ)) (from b : ℕ) (t : ℕ × ℕ) → Stands xs (from + 1) b t → Stands (x ∷ xs) from b t
stands_later x xs from b t s = record { at = suc s.at; is = s.is ∙ ap tag_of (omega arith); leads = s.leads }

tag_stands : (xs : List (Option ℕ)) (from b : ℕ) (t : ℕ × ℕ) → Has t (tags_from from b xs) → Stands xs from b t
unfolding Has
tag_stands [] from b t has = absurd has
tag_stands (x ∷ xs) from b t has = by (tag_stands xs (from + 1) b t) (is_the x b) refl
  where
    by : (Has t (tags_from (from + 1) b xs) → Stands xs (from + 1) b t) → (u : Bool) → is_the x b ≡ u → Stands (x ∷ xs) from b t
    by rest true is = ⊎_elim
        (λ here. record { at = 0; is = here ∙ ap tag_of (omega arith); leads = is_the_some x b is })
        (λ later. stands_later x xs from b t (rest later))
        (subst (λ ts. Has t ts) (cond-true (is_the x b) _ _ is) has)
    by rest false is = stands_later x xs from b t (rest (subst (λ ts. Has t ts) (cond-false (is_the x b) _ _ is) has))

one_place : (p q : ℕ) → tag_of p ≡ tag_of q → p ≡ q
one_place p q e = omega (arith, ap (λ (t : ℕ × ℕ). t.0) e, ap (λ (t : ℕ × ℕ). t.1) e)

-- a tag that two addresses have leads to both
tag_leads : (xs ys : List (Option ℕ)) (p b c : ℕ) → tags_from 0 b xs ≡ tags_from 0 c ys → get_or xs p None ≡ Some b → get_or ys p None ≡ Some c
tag_leads xs ys p b c same e =
    let s = tag_stands ys 0 c (tag_of (0 + p)) (subst (λ ts. Has (tag_of (0 + p)) ts) same (tag_there xs 0 p b e)) in
    ap (λ n. get_or ys n None) (one_place p s.at (ap tag_of (omega arith) ∙ (s.is ∙ ap tag_of (omega arith)))) ∙ s.leads

-- An address, by the tenant there

-- the object of a tenant
record IsTenant (h : HeapState) (b : ℕ) (t : TenantState) : Type 0 where
  o : Object
  there : object_at h b ≡ Some o
  names : o.names ≡ t.names
  tags : tags_at h b ≡ t.tags

tenant_there : (h : HeapState) (b : ℕ) (t : TenantState) → get_or (tenants_in h) b None ≡ Some t → IsTenant h b t
tenant_there h b t e =
    let below : b < length h.objects = omega (arith, some_within (tenants_in h) b (ap is_some e), many h) in
    let (o, is, same) = map_says (λ (o : Object). record { names = o.names; tags = tags_at h b }) (object_at h b) t (sym (tenant_is h b below) ∙ e) in
    record { o = o; there = is; names = ap (λ (u : TenantState). u.names) same; tags = ap (λ (u : TenantState). u.tags) same }

-- a name of the tenant leads to where it is
name_leads : (h : HeapState) (b c name : ℕ) (k : HeapState) (o p : Object) → IsTied h → IsTied k → object_at h b ≡ Some o → object_at k c ≡ Some p → o.names ≡ p.names →
    address_of h name ≡ Some b → address_of k name ≡ Some c
name_leads h b c name k o p tied_h tied_k is_o is_p same e =
    is_the_some (address_of k name) c
    (sym ((tied_k.objects c p is_p).names name)
    ∙ (ap (λ names. list_any (λ other. other == name) names) (sym same) ∙ ((tied_h.objects b o is_o).names name ∙ is_the_same (address_of h name) b e)))

-- the address that the map's id has
read_address : (names ids : List (Option ℕ)) (addresses : List ℕ) (i id : ℕ) → names ≡ map (option_map (address_in addresses)) ids → get_or ids i None ≡ Some id → get_or names i None ≡ Some (address_in addresses id)
read_address names ids addresses i id are e =
    ap (λ xs. get_or xs i None) are ∙ (get_or-map_default (option_map (address_in addresses)) ids i None ∙ ap (option_map (address_in addresses)) e)

some_same : (a b : ℕ) → ◌≡◌ {A = Option ℕ} (Some a) (Some b) → a ≡ b
some_same a b e = cc

-- where the tenant of an id's record is found, there the heap has the record
module _ (m : RecordMap) (old new : HeapState) (a z : List ℕ) (s : StandsFor m a old) (u : StandsFor m z new) (id c : ℕ) (live : is_live m id ≡ true) (t : TenantState)
    (before : IsTenant old (address_in a id) t) (after : IsTenant new c t) where
  by_name : (name : ℕ) → id_of m name ≡ Some id → c ≡ address_in z id
  by_name name e =
      some_same c (address_in z id)
      (sym (name_leads old (address_in a id) c name new before.o after.o s.paired.tied u.paired.tied before.there after.there (before.names ∙ sym after.names)
      (read_address old.names m.names a name id s.paired.names e))
      ∙ read_address new.names m.names z name id u.paired.names e)

  by_tag : (place : ℕ) → held_at m place ≡ Some id → c ≡ address_in z id
  by_tag place e =
      some_same c (address_in z id)
      (sym (tag_leads old.tags new.tags place (address_in a id) c (before.tags ∙ sym after.tags) (read_address old.tags m.tags a place id s.paired.tags e))
      ∙ read_address new.tags m.tags z place id u.paired.tags e)

  found_there : c ≡ address_in z id
  found_there = ⊎_elim
      (λ named. let at = leads_somewhere m.names id named in by_name at.0 at.1)
      (λ unnamed. let at = leads_somewhere m.tags id (omega (arith, unnamed, ltb-true 0 (name_count m id + tag_count m id) (s.valid.used id live))) in by_tag at.0 at.1)
      (cases_lt 0 (name_count m id))

-- All addresses

-- two lists of addresses that agree where a record lives serve alike
module _ (m : RecordMap) (h : HeapState) (a z : List ℕ) (size : length a ≡ length m.records) (same : (id : ℕ) → is_live m id ≡ true → address_in a id ≡ address_in z id) (u : StandsFor m z h) where
  leads_alike : (ids : List (Option ℕ)) → ((i id : ℕ) → get_or ids i None ≡ Some id → is_live m id ≡ true) → map (option_map (address_in z)) ids ≡ map (option_map (address_in a)) ids
  leads_alike ids lives = map_agree (option_map (address_in z)) (option_map (address_in a)) ids (λ i d below.
      by i (get_or ids i d) (get_or_default ids i None d below))
    where
      by : (i : ℕ) (x : Option ℕ) → get_or ids i None ≡ x → option_map (address_in z) x ≡ option_map (address_in a) x
      by i None e = refl
      by i (Some id) e = ap Some (sym (same id (lives i id e)))

  pub stands_alike : StandsFor m a h
  stands_alike = record {
    valid = u.valid;
    paired =
        record {
          size = size;
          names = u.paired.names ∙ leads_alike m.names u.valid.named;
          tags = u.paired.tags ∙ leads_alike m.tags u.valid.held;
          records = λ id live. ap (λ b. option_and_then record_of (object_at h b)) (same id live) ∙ u.paired.records id live;
          apart = λ i j live_i live_j e. u.paired.apart i j live_i live_j (sym (same i live_i) ∙ (e ∙ same j live_j));
          count = u.paired.count;
          tied = u.paired.tied;
        };
  }

-- The heap after a settle

kept_is : (x : Option Object) → has_record x ≡ true → is_kept (stand_of x) ≡ true
kept_is None e = absurd (both_ways false refl e)
kept_is (Some o) e = by o.value e o.fixed (nat_lt 0 o.holds)
  where
    by : (v : Option (List ℕ)) → is_some v ≡ true → (fixed held : Bool) → is_kept (cond (is_none v) Spare (cond fixed Fixed (cond held Busy Movable))) ≡ true
    by None e fixed held = absurd (both_ways false refl e)
    by (Some v) e true held = refl
    by (Some v) e false true = refl
    by (Some v) e false false = refl

module _ (old new : HeapView) (moves : List EndedMove) (answered : AreAnswered (holdings stands_of tenants_of old) moves)
    (left : holdings stands_of tenants_of new ≡ holdings_left (holdings stands_of tenants_of old) moves) where
  sized : length (tenants_of old) ≡ length (stands_of old)
  sized = many old.heap ∙ sym (length-map old.heap.objects stand_of)

  -- the tenant of an id's record, before and after
  follows : (m : RecordMap) (a z : List ℕ) → StandsFor m a old.heap → StandsFor m z new.heap → (id : ℕ) → is_live m id ≡ true → address_in (addresses_moved a moves) id ≡ address_in z id
  follows m a z s u id live =
      let b = address_in a id in let there = live_object m a old.heap id (object_at old.heap b) s.paired live refl in
      let below : b < length old.heap.objects = some_within old.heap.objects b (some_has (object_at old.heap b) there) in
      let (o, is) = some_is (object_at old.heap b) there in
      let t : TenantState = record { names = o.names; tags = tags_at old.heap b } in
      let reads : get_or (tenants_of old) b None ≡ Some t = tenant_is old.heap b below ∙ ap (option_map (λ (q : Object). record { names = q.names; tags = tags_at old.heap b })) is in
      let low : id < length a = omega (arith, live_within m id live, s.paired.size) in
      let housed = housed_left (holdings stands_of tenants_of old) moves a id t sized answered low
      (record { kept = ap is_kept (stand_is old b) ∙ kept_is (object_at old.heap b) there; tenant = reads }) in
      let found = ap (λ (h : Holdings TenantState). get_or h.tenants (address_in (addresses_moved a moves) id) None) left ∙ housed.tenant in
      found_there m old.heap new.heap a z s u id (address_in (addresses_moved a moves) id) live t (tenant_there old.heap b t reads)
      (tenant_there new.heap (address_in (addresses_moved a moves) id) t found)
    where
      some_has : (x : Option Object) → has_record x ≡ true → is_some x ≡ true
      some_has None e = e
      some_has (Some o) e = refl

      some_is : (x : Option Object) → has_record x ≡ true → (o : Object) × (x ≡ Some o)
      some_is None e = absurd (both_ways false refl e)
      some_is (Some o) e = (o, refl)

  meaning_with : Option RecordMap → MeaningState
  meaning_with map =
      record {
        map = map;
        holds = old.holds;
        names = length old.heap.names;
        tags = length old.heap.tags;
        buffers = length old.heap.objects;
      }

  pub heap_moves : ((m : MeaningState) → HasMeaning old m → HasMeaning new m) → new.home ≡ old.home → HeapMoves old moves new
  unfolding meaning_with
  heap_moves meaning home =
      let frame = meaning (meaning_with None) (record { map = tt; holds = refl; names = refl; tags = refl; buffers = refl }) in
      record {
        stands = λ m a s.
            let after = meaning (meaning_with (Some m)) (record { map = (a, s); holds = refl; names = refl; tags = refl; buffers = refl }) in
            stands_alike m new.heap (addresses_moved a moves) after.map.0 (length_moved a moves ∙ s.paired.size) (follows m a after.map.0 s after.map.1) after.map.1;
        frame = record { home = home; holds = frame.holds; names = frame.names; tags = frame.tags; objects = frame.buffers };
      }
