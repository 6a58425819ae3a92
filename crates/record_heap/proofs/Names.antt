-- A name more and a name less: what it keeps, and the step of the map that it is.
use Rattle.std.proofs.Common.{◌≡◌, ℕ, zero, suc, ◌+◌, ◌-◌, ◌<◌, ◌≤◌, ◌==◌, Bool, true, false, not, cond, List, [], ◌∷◌, length, get_or, set, count_by, Option, Some, None, is_some, option_map, sym, ◌∙◌, ap, refl, subst, arith, ⊎_elim}
use Rattle.std.specs.Option.{option_map_or}
use Rattle.std.proofs.lemmas.Bool.{both_ways, cases_eq, ne_eqb, eqb-true, eqb-false, cond-true, cond-false}
use Rattle.std.proofs.lemmas.List.{get_or-set_same, get_or-set_other, length-set, length-append, set-set}
use Rattle.kmem_text.specs.declared.command.Reply.TheVariants.{Gone, Done, Taken, Many}
use Rattle.kmem_model.specs.Records.{Record, RecordMap, IsValid, id_of, record_at, is_live, value_at, name_count, tag_count, is_used, without_unused}
use Rattle.kmem_model.specs.Records as map_of
use Rattle.kmem_model.specs.RecordStep.{del_step, link_step}
use Rattle.kmem_model.specs.Heap.{Object, HeapState, address_of, object_at, has_record, address_in, IsTied, IsPaired}
use Rattle.record_heap.specs.Objects.{with_back, without_back, is_unused}
use Rattle.record_heap.specs.Changes.{value_in, names_in, with_object, linked, unlinked}
use Rattle.record_heap.specs.Kept.{IsHeapKept}
use Rattle.kmem_model.proofs.CacheLists.{counted, count-set_more, count-set_less}
use Rattle.kmem_model.proofs.RecordsValid.{some_within, read_within}
use Rattle.record_heap.proofs.Lists.{is_the-none}
use Rattle.record_heap.proofs.Tied.{put_at, IsCounted, same_but, same_but-begun, same_but-ended, tied_used, tied_gone, counted_linked, counted_unlinked}
use Rattle.record_heap.proofs.Stands.{led, no_name, is_used_by}
use Rattle.record_heap.proofs.Kept.{one_if, kept_at, whole_of, whole_without, whole_back}
use Rattle.record_heap.proofs.Steps.{step_of, IsRecord, value_same, record_same, same_there, changed_there, begun_mapped, ended_mapped, low, record_now, left_now, none_some, counts_stay}

-- ids with one address are one, where they are read in a list of ids that live
pub apart_in : (m : RecordMap) (a : List ℕ) (h : HeapState) → IsPaired m a h → (id : ℕ) → is_live m id ≡ true → (xs : List (Option ℕ)) → ((i j : ℕ) → get_or xs i None ≡ Some j → is_live m j ≡ true) →
    (i j : ℕ) → get_or xs i None ≡ Some j → address_in a j ≡ address_in a id → j ≡ id
apart_in m a h s id live xs lives i j is same = s.apart j id (lives i j is) live same

-- what is read after a name or a tag was taken out was there before
pub read_less : (xs : List (Option ℕ)) (n i j : ℕ) → get_or (set xs n None) i None ≡ Some j → get_or xs i None ≡ Some j
read_less xs n i j is =
    ⊎_elim
    (λ same.
    let none : get_or (set xs n None) n None ≡ None = gone xs n in
    absurd (never (sym none ∙ (ap (λ k. get_or (set xs n None) k None) (sym same) ∙ is))))
    (λ apart. sym (get_or-set_other xs n i None None apart) ∙ is) (cases_eq i n)
  where
    gone : (ys : List (Option ℕ)) (k : ℕ) → get_or (set ys k None) k None ≡ None
    gone [] k = refl
    gone (y ∷ ys) zero = refl
    gone (y ∷ ys) (suc k) = gone ys k

    never : ◌≡◌ {A = Option ℕ} None (Some j) → ⊥
    never e = cc

-- the map without the record
abbrev pub ended_map : RecordMap → ℕ → RecordMap
ended_map m id = record m { records = set m.records id None }

pub one_id : (i j : ℕ) → ◌≡◌ {A = Option ℕ} (Some i) (Some j) → i ≡ j
one_id i j e = cc

module _ (h : HeapState) (p r l : ℕ) (kept : IsHeapKept h p r l) (b : ℕ) (it : IsRecord h b) where
  -- One name more

  module _ (n : ℕ) (below : n < length h.names) (was : address_of h n ≡ None) where
    linked_is : linked h n b ≡ put_at h (set h.names n (Some b)) h.tags b (Some (with_back n it.o))
    linked_is = ap (λ (y : Option Object). put_at h (set h.names n (Some b)) h.tags b (option_map (with_back n) y)) it.at

    tied_link : IsTied (put_at h (set h.names n (Some b)) h.tags b (Some (with_back n it.o)))
    tied_link =
        tied_used h (set h.names n (Some b)) h.tags b kept.tied (low h p r l kept b it) (same_but-begun b h.names n was) (same_but b h.tags) (with_back n it.o)
        (counted_linked h.names h.tags b n it.o it.counts below was) (λ none. omega (arith, none, length-append it.o.names (n ∷ [])))

    pub linked_kept : IsHeapKept (linked h n b) (p + 1) r l
    linked_kept =
        let c = counts_stay h p r l kept b it (with_back n it.o) it.has in
        subst (λ k. IsHeapKept k (p + 1) r l) (sym linked_is)
        (kept_at h p r l kept (set h.names n (Some b)) h.tags b (low h p r l kept b it) (Some (with_back n it.o)) (p + 1) r l tied_link
        (whole_of (with_back n it.o) (whole_back it.o n it.has (it.counts.back n ∙ is_the-none (address_of h n) b was) it.whole)) (length-set h.names n (Some b)) refl
        (omega (arith, kept.names_counted, count-set_more is_some h.names n (Some b) None below (ap is_some was) refl)) c.0 c.1)

    pub linked_stands : (m : RecordMap) (a : List ℕ) → IsValid m → IsPaired m a h → (name : ℕ) → address_of h name ≡ Some b → length (names_in h b) < 8 →
        (Done ≡ (link_step m n (id_of m name)).reply) × IsPaired (link_step m n (id_of m name)).map a (linked h n b)
    linked_stands m a valid s name leads room =
        let t = led m a h valid s name b leads in
        let free : is_some (id_of m n) ≡ false = ap is_some (no_name m a h s n was) in
        let counts : length it.o.names ≡ name_count m t.id =
        (is_used_by m a h.names h.tags t.id it.o s.names s.tags (apart_in m a h s t.id t.live m.names (λ i j is. valid.named i j is)) (apart_in m a h s t.id t.live m.tags (λ i j is. valid.held i j is))
        (subst (λ c. IsCounted h.names h.tags c it.o) (sym t.at) it.counts)).0 in
        let names : names_in h b ≡ it.o.names = ap (λ (y : Option Object). option_map_or (λ (q : Object). q.names) y []) it.at in
        let few : (name_count m t.id == 8) ≡ false = ne_eqb (name_count m t.id) 8 (λ e. omega (arith, e, counts, room, ap (λ (xs : List ℕ). length xs) names)) in
        let step : link_step m n (id_of m name) ≡ step_of Done (map_of.with_name m n (Some t.id)) =
        ap (link_step m n) t.is ∙ by (is_some (id_of m n)) (name_count m t.id == 8) t.id free few in (
          sym (ap (λ q. q.reply) step),
          subst (λ k. IsPaired k a (linked h n b)) (sym (ap (λ q. q.map) step))
              (subst (λ k. IsPaired (map_of.with_name m n (Some t.id)) a k) (sym linked_is)
              (same_there m a h s (id_of m name) b t (set m.names n (Some t.id)) m.tags (set h.names n (Some b)) h.tags (Some (with_back n it.o)) (begun_mapped m a h s (id_of m name) b t m.names h.names n s.names) s.tags
              (record_same m a h s (id_of m name) b t it.o it.at) tied_link)),
        )
      where
        by : (x y : Bool) (id : ℕ) → x ≡ false → y ≡ false → cond x (step_of Taken m) (cond y (step_of Many m) (step_of Done (map_of.with_name m n (Some id)))) ≡ step_of Done (map_of.with_name m n (Some id))
        by true y id e f = absurd (both_ways true e refl)
        by false true id e f = absurd (both_ways true f refl)
        by false false id e f = refl

  -- the record has as many names as a record may have
  pub full_stays : (m : RecordMap) (a : List ℕ) → IsValid m → IsPaired m a h → (n name : ℕ) → address_of h n ≡ None → address_of h name ≡ Some b → (length (names_in h b) == 8) ≡ true →
      link_step m n (id_of m name) ≡ step_of Many m
  full_stays m a valid s n name was leads full =
      let t = led m a h valid s name b leads in
      let counts : length it.o.names ≡ name_count m t.id =
      (is_used_by m a h.names h.tags t.id it.o s.names s.tags (apart_in m a h s t.id t.live m.names (λ i j is. valid.named i j is)) (apart_in m a h s t.id t.live m.tags (λ i j is. valid.held i j is))
      (subst (λ c. IsCounted h.names h.tags c it.o) (sym t.at) it.counts)).0 in
      let names : names_in h b ≡ it.o.names = ap (λ (y : Option Object). option_map_or (λ (q : Object). q.names) y []) it.at in
      ap (link_step m n) t.is
      ∙ by (is_some (id_of m n)) (name_count m t.id == 8) t.id (ap is_some (no_name m a h s n was))
      (ap (λ k. k == 8) (sym (ap (λ (xs : List ℕ). length xs) names ∙ counts)) ∙ full)
    where
      by : (x y : Bool) (id : ℕ) → x ≡ false → y ≡ true → cond x (step_of Taken m) (cond y (step_of Many m) (step_of Done (map_of.with_name m n (Some id)))) ≡ step_of Many m
      by true y id e f = absurd (both_ways true e refl)
      by false true id e f = refl
      by false false id e f = absurd (both_ways false refl f)

  -- One name less

  module _ (n : ℕ) (was : address_of h n ≡ Some b) where
    unlinked_is : unlinked h n b ≡ put_at h (set h.names n None) h.tags b (Some (without_back n it.o))
    unlinked_is = ap (λ (y : Option Object). put_at h (set h.names n None) h.tags b (option_map (without_back n) y)) it.at

    pub object_left : object_at (unlinked h n b) b ≡ Some (without_back n it.o)
    object_left =
        get_or-set_same h.objects b (option_map (without_back n) (object_at h b)) None (low h p r l kept b it) ∙ ap (option_map (without_back n)) it.at

    ended_is : with_object (unlinked h n b) b None ≡ put_at h (set h.names n None) h.tags b None
    ended_is =
        ap (λ (objects : List (Option Object)). record { names = set h.names n None; tags = h.tags; objects = objects })
        (set-set h.objects b (option_map (without_back n) (object_at h b)) None)

    counts : IsCounted (set h.names n None) h.tags b (without_back n it.o)
    counts = counted_unlinked h.names h.tags b n it.o it.counts was (it.whole.once n)

    fewer : p - 1 ≡ count_by is_some (set h.names n None)
    fewer =
        omega (arith, kept.names_counted, count-set_less is_some h.names n None None (read_within h.names n b was) (ap is_some was) refl)

    tied_unlink : is_unused (without_back n it.o) ≡ false → IsTied (put_at h (set h.names n None) h.tags b (Some (without_back n it.o)))
    tied_unlink used =
        tied_used h (set h.names n None) h.tags b kept.tied (low h p r l kept b it) (same_but-ended b h.names n was) (same_but b h.tags) (without_back n it.o) counts
        (eqb-false (length (without_back n it.o).names + (without_back n it.o).holds) 0 used)

    tied_end : is_unused (without_back n it.o) ≡ true → IsTied (put_at h (set h.names n None) h.tags b None)
    tied_end unused =
        tied_gone h (set h.names n None) h.tags b kept.tied (low h p r l kept b it) (same_but-ended b h.names n was) (same_but b h.tags) (without_back n it.o) counts
        (eqb-true (length (without_back n it.o).names + (without_back n it.o).holds) 0 unused)

    pub unlinked_kept : is_unused (without_back n it.o) ≡ false → IsHeapKept (unlinked h n b) (p - 1) r l
    unlinked_kept used =
        let c = counts_stay h p r l kept b it (without_back n it.o) it.has in
        subst (λ k. IsHeapKept k (p - 1) r l) (sym unlinked_is)
        (kept_at h p r l kept (set h.names n None) h.tags b (low h p r l kept b it) (Some (without_back n it.o)) (p - 1) r l (tied_unlink used)
        (whole_of (without_back n it.o) (whole_without it.o n it.has it.whole)) (length-set h.names n None) refl fewer c.0 c.1)

    pub some_record : 1 ≤ r
    some_record =
        omega (arith, kept.records_counted, counted has_record h.objects b None (low h p r l kept b it) (record_now h p r l kept b it))

    pub ended_kept : is_unused (without_back n it.o) ≡ true → IsHeapKept (with_object (unlinked h n b) b None) (p - 1) (r - 1) l
    ended_kept unused =
        subst (λ k. IsHeapKept k (p - 1) (r - 1) l) (sym ended_is)
        (kept_at h p r l kept (set h.names n None) h.tags b (low h p r l kept b it) None (p - 1) (r - 1) l (tied_end unused) (λ q e. absurd (never q e)) (length-set h.names n None) refl fewer
        (omega (arith, some_record, ap one_if (record_now h p r l kept b it)))
        (ap (λ t. l + one_if t) (left_now h p r l kept b it ∙ none_some h p r l kept b it it.o.value it.has)))
      where
        never : (q : Object) → ◌≡◌ {A = Option Object} None (Some q) → ⊥
        never q e = cc

    -- the step of the map

    module _ (m : RecordMap) (a : List ℕ) (valid : IsValid m) (s : IsPaired m a h) where
      pub is_used_now : is_used (map_of.with_name m n None) (led m a h valid s n b was).id ≡ not (is_unused (without_back n it.o))
      is_used_now =
          let t = led m a h valid s n b was in
          (is_used_by (map_of.with_name m n None) a (set h.names n None) h.tags t.id (without_back n it.o) (ended_mapped m a h s (id_of m n) b t m.names h.names n s.names) s.tags
          (apart_in m a h s t.id t.live (set m.names n None) (λ i j is. valid.named i j (read_less m.names n i j is))) (apart_in m a h s t.id t.live m.tags (λ i j is. valid.held i j is))
          (subst (λ c. IsCounted (set h.names n None) h.tags c (without_back n it.o)) (sym t.at) counts)).1

      pub gone_reply : (v : List ℕ) → value_in h b ≡ Some v → Gone v ≡ (del_step m n (id_of m n)).reply
      gone_reply v is =
          let t = led m a h valid s n b was in
          ap Gone (value_same m a h s (id_of m n) b t v is) ∙ ap (λ x. (del_step m n x).reply) (sym t.is)

      step_map : (del_step m n (id_of m n)).map ≡ without_unused (map_of.with_name m n None) (led m a h valid s n b was).id
      step_map = ap (λ x. (del_step m n x).map) (led m a h valid s n b was).is

      used_map : is_unused (without_back n it.o) ≡ false → (del_step m n (id_of m n)).map ≡ map_of.with_name m n None
      used_map used =
          step_map
          ∙ cond-true (is_used (map_of.with_name m n None) (led m a h valid s n b was).id) (map_of.with_name m n None) (ended_map (map_of.with_name m n None) (led m a h valid s n b was).id)
          (is_used_now ∙ ap not used)

      unused_map : is_unused (without_back n it.o) ≡ true → (del_step m n (id_of m n)).map ≡ ended_map (map_of.with_name m n None) (led m a h valid s n b was).id
      unused_map unused =
          step_map
          ∙ cond-false (is_used (map_of.with_name m n None) (led m a h valid s n b was).id) (map_of.with_name m n None) (ended_map (map_of.with_name m n None) (led m a h valid s n b was).id)
          (is_used_now ∙ ap not unused)

      pub unlinked_stands : is_unused (without_back n it.o) ≡ false → IsPaired (del_step m n (id_of m n)).map a (unlinked h n b)
      unlinked_stands used =
          let t = led m a h valid s n b was in
          subst (λ k. IsPaired k a (unlinked h n b)) (sym (used_map used))
          (subst (λ k. IsPaired (map_of.with_name m n None) a k) (sym unlinked_is)
          (same_there m a h s (id_of m n) b t (set m.names n None) m.tags (set h.names n None) h.tags (Some (without_back n it.o)) (ended_mapped m a h s (id_of m n) b t m.names h.names n s.names) s.tags
          (record_same m a h s (id_of m n) b t it.o it.at) (tied_unlink used)))

      pub ended_stands : is_unused (without_back n it.o) ≡ true → IsPaired (del_step m n (id_of m n)).map a (with_object (unlinked h n b) b None)
      ended_stands unused =
          let t = led m a h valid s n b was in
          subst (λ k. IsPaired k a (with_object (unlinked h n b) b None)) (sym (unused_map unused))
          (subst (λ k. IsPaired (ended_map (map_of.with_name m n None) t.id) a k) (sym ended_is)
          (changed_there m a h s (id_of m n) b t (set m.names n None) m.tags (set h.names n None) h.tags None None (ended_mapped m a h s (id_of m n) b t m.names h.names n s.names) s.tags refl (tied_end unused)))

      -- the record lives on exactly where it is used
      pub lives_on : is_unused (without_back n it.o) ≡ false → (id : ℕ) → id_of m n ≡ Some id → is_live (del_step m n (id_of m n)).map id ≡ true
      lives_on used id is =
          let t = led m a h valid s n b was in
          ap (λ k. is_live k id) (used_map used) ∙ (ap (is_live m) (one_id id t.id (sym is ∙ t.is)) ∙ t.live)

      pub ends_now : is_unused (without_back n it.o) ≡ true → (id : ℕ) → id_of m n ≡ Some id → (is_live (del_step m n (id_of m n)).map id ≡ false) × (address_in a id ≡ b)
      ends_now unused id is =
          let t = led m a h valid s n b was in
          let same : id ≡ t.id = one_id id t.id (sym is ∙ t.is) in (
            ap (λ k. is_live k id) (unused_map unused)
                ∙ (ap (λ i. is_some (get_or (set m.records t.id None) i None)) same ∙ ap is_some (get_or-set_same m.records t.id None None (some_within m.records t.id t.live))),
            ap (address_in a) same ∙ t.at,
          )
