-- A tag more and a tag less: what it keeps, and the step of the map that it is.
use Rattle.std.proofs.Common.{◌≡◌, ℕ, ◌+◌, ◌-◌, ◌^◌, ◌<◌, ◌≤◌, Bool, true, false, not, List, length, set, Option, Some, None, option_map, sym, ◌∙◌, ap, ap₂, refl, subst, arith}
use Rattle.std.specs.Option.{option_map_or}
use Rattle.std.proofs.lemmas.Bool.{eqb-true, eqb-false, cond-true, cond-false}
use Rattle.std.proofs.lemmas.List.{get_or-set_same, length-set, set-set}
use Rattle.std.proofs.lemmas.List.Sums.{count_by-le-length}
use Rattle.kmem_text.specs.declared.command.Reply.TheVariants.{Done, Was}
use Rattle.kmem_model.specs.CacheOrder.{is_the}
use Rattle.kmem_model.specs.Records.{Record, RecordMap, IsValid, id_of, held_at, record_at, is_live, value_at, is_used, without_unused}
use Rattle.kmem_model.specs.Records as map_of
use Rattle.kmem_model.specs.RecordStep.{hold_step, write_step, drop_step, put_step, fix_step}
use Rattle.kmem_model.specs.Heap.{Object, HeapState, blank, address_of, hold_at, object_at, has_record, is_leftover, IsTied, IsPaired}
use Rattle.record_heap.specs.Objects.{held_more, held_less, is_unused}
use Rattle.record_heap.specs.Changes.{value_in, holds_in, with_object, valued, fixed_at, tagged, untagged}
use Rattle.record_heap.specs.Kept.{IsHeapKept}
use Rattle.kmem_model.proofs.CacheLists.{counted}
use Rattle.kmem_model.proofs.RecordsValid.{read_within, is_the_same}
use Rattle.record_heap.proofs.Tied.{put_at, IsCounted, same_but, same_but-begun, same_but-ended, tied_used, tied_left, counted_held, counted_released}
use Rattle.record_heap.proofs.Stands.{led, led_tag, no_tag, is_used_by}
use Rattle.record_heap.proofs.Kept.{one_if, kept_at, whole_of, whole_held, whole_released, whole_blank}
use Rattle.record_heap.proofs.Steps.{IsRecord, value_same, record_same, same_there, changed_there, begun_mapped, ended_mapped, low, record_now, left_now, none_some, counts_stay, valued_stands, fixed_stands}
use Rattle.record_heap.proofs.Names.{apart_in, read_less, ended_map}

module _ (h : HeapState) (p r l : ℕ) (kept : IsHeapKept h p r l) (b : ℕ) (it : IsRecord h b) where
  -- A value or a flag is written

  pub fix_stands : (m : RecordMap) (a : List ℕ) → IsValid m → IsPaired m a h → (name : ℕ) → address_of h name ≡ Some b → (fixed : Bool) →
      IsPaired (fix_step m fixed (id_of m name)).map a (fixed_at h b fixed)
  fix_stands m a valid s name leads fixed =
      let t = led m a h valid s name b leads in
      subst (λ (x : Option ℕ). IsPaired (fix_step m fixed x).map a (fixed_at h b fixed)) (sym t.is) (fixed_stands h p r l kept b it m a s (id_of m name) t fixed)

  pub write_stands : (m : RecordMap) (a : List ℕ) → IsValid m → IsPaired m a h → (place : ℕ) → hold_at h place ≡ Some b → (value : List ℕ) →
      IsPaired (write_step m value (held_at m place)).map a (valued h b value)
  write_stands m a valid s place leads value =
      let t = led_tag m a h valid s place b leads in
      subst (λ (x : Option ℕ). IsPaired (write_step m value x).map a (valued h b value)) (sym t.is) (valued_stands h p r l kept b it m a s (held_at m place) t value)

  pub put_stands : (m : RecordMap) (a : List ℕ) → IsValid m → IsPaired m a h → (name : ℕ) → address_of h name ≡ Some b → (value : List ℕ) →
      IsPaired (put_step m name value (id_of m name)).map a (valued h b value)
  put_stands m a valid s name leads value =
      let t = led m a h valid s name b leads in
      subst (λ (x : Option ℕ). IsPaired (put_step m name value x).map a (valued h b value)) (sym t.is) (valued_stands h p r l kept b it m a s (id_of m name) t value)

  -- One tag more

  pub few_holds : holds_in h b + 1 < 2 ^ 32
  few_holds =
      omega (
        arith,
        ap (λ (y : Option Object). option_map_or (λ (q : Object). q.holds) y 0) it.at,
        it.counts.held,
        count_by-le-length (λ c. is_the c b) h.tags,
        kept.tags,
      )

  module _ (place : ℕ) (below : place < length h.tags) (was : hold_at h place ≡ None) where
    tagged_is : tagged h place b ≡ put_at h h.names (set h.tags place (Some b)) b (Some (held_more it.o))
    tagged_is = ap (λ (y : Option Object). put_at h h.names (set h.tags place (Some b)) b (option_map held_more y)) it.at

    tied_tag : IsTied (put_at h h.names (set h.tags place (Some b)) b (Some (held_more it.o)))
    tied_tag =
        tied_used h h.names (set h.tags place (Some b)) b kept.tied (low h p r l kept b it) (same_but b h.names) (same_but-begun b h.tags place was) (held_more it.o)
        (counted_held h.names h.tags b place it.o it.counts below was) (λ none. omega (arith, none))

    pub tagged_kept : IsHeapKept (tagged h place b) p r l
    tagged_kept =
        let c = counts_stay h p r l kept b it (held_more it.o) it.has in
        subst (λ k. IsHeapKept k p r l) (sym tagged_is)
        (kept_at h p r l kept h.names (set h.tags place (Some b)) b (low h p r l kept b it) (Some (held_more it.o)) p r l tied_tag
        (whole_of (held_more it.o) (whole_held it.o it.has it.whole)) refl (length-set h.tags place (Some b)) kept.names_counted c.0 c.1)

    pub tagged_stands : (m : RecordMap) (a : List ℕ) → IsValid m → IsPaired m a h → (name : ℕ) → address_of h name ≡ Some b →
        (Done ≡ (hold_step m place (held_at m place) (id_of m name)).reply) × IsPaired (hold_step m place (held_at m place) (id_of m name)).map a (tagged h place b)
    tagged_stands m a valid s name leads =
        let t = led m a h valid s name b leads in
        let step : hold_step m place (held_at m place) (id_of m name) ≡ hold_step m place None (Some t.id) =
        ap₂ (λ (x y : Option ℕ). hold_step m place x y) (no_tag m a h s place was) t.is in (
          sym (ap (λ q. q.reply) step),
          subst (λ k. IsPaired k a (tagged h place b)) (sym (ap (λ q. q.map) step))
              (subst (λ k. IsPaired (map_of.with_tag m place (Some t.id)) a k) (sym tagged_is)
              (same_there m a h s (id_of m name) b t m.names (set m.tags place (Some t.id)) h.names (set h.tags place (Some b)) (Some (held_more it.o)) s.names (begun_mapped m a h s (id_of m name) b t m.tags h.tags place s.tags)
              (record_same m a h s (id_of m name) b t it.o it.at) tied_tag)),
        )

  -- One tag less

  module _ (place : ℕ) (was : hold_at h place ≡ Some b) where
    untagged_is : untagged h place b ≡ put_at h h.names (set h.tags place None) b (Some (held_less it.o))
    untagged_is = ap (λ (y : Option Object). put_at h h.names (set h.tags place None) b (option_map held_less y)) it.at

    pub object_less : object_at (untagged h place b) b ≡ Some (held_less it.o)
    object_less = get_or-set_same h.objects b (option_map held_less (object_at h b)) None (low h p r l kept b it) ∙ ap (option_map held_less) it.at

    left_is : with_object (untagged h place b) b (Some blank) ≡ put_at h h.names (set h.tags place None) b (Some blank)
    left_is =
        ap (λ (objects : List (Option Object)). record { names = h.names; tags = set h.tags place None; objects = objects })
        (set-set h.objects b (option_map held_less (object_at h b)) (Some blank))

    counts : IsCounted h.names (set h.tags place None) b (held_less it.o)
    counts = counted_released h.names h.tags b place it.o it.counts was

    tied_untag : is_unused (held_less it.o) ≡ false → IsTied (put_at h h.names (set h.tags place None) b (Some (held_less it.o)))
    tied_untag used =
        tied_used h h.names (set h.tags place None) b kept.tied (low h p r l kept b it) (same_but b h.names) (same_but-ended b h.tags place was) (held_less it.o) counts
        (eqb-false (length (held_less it.o).names + (held_less it.o).holds) 0 used)

    tied_leave : is_unused (held_less it.o) ≡ true → IsTied (put_at h h.names (set h.tags place None) b (Some blank))
    tied_leave unused =
        tied_left h h.names (set h.tags place None) b kept.tied (low h p r l kept b it) (same_but b h.names) (same_but-ended b h.tags place was) (held_less it.o) counts
        (eqb-true (length (held_less it.o).names + (held_less it.o).holds) 0 unused)

    pub untagged_kept : is_unused (held_less it.o) ≡ false → IsHeapKept (untagged h place b) p r l
    untagged_kept used =
        let c = counts_stay h p r l kept b it (held_less it.o) it.has in
        subst (λ k. IsHeapKept k p r l) (sym untagged_is)
        (kept_at h p r l kept h.names (set h.tags place None) b (low h p r l kept b it) (Some (held_less it.o)) p r l (tied_untag used)
        (whole_of (held_less it.o) (whole_released it.o it.has it.whole)) refl (length-set h.tags place None) kept.names_counted c.0 c.1)

    pub some_record : 1 ≤ r
    some_record = omega (arith, kept.records_counted, counted has_record h.objects b None (low h p r l kept b it) (record_now h p r l kept b it))

    pub left_kept : is_unused (held_less it.o) ≡ true → IsHeapKept (with_object (untagged h place b) b (Some blank)) p (r - 1) (l + 1)
    left_kept unused =
        subst (λ k. IsHeapKept k p (r - 1) (l + 1)) (sym left_is)
        (kept_at h p r l kept h.names (set h.tags place None) b (low h p r l kept b it) (Some blank) p (r - 1) (l + 1) (tied_leave unused) (whole_of blank whole_blank) refl (length-set h.tags place None) kept.names_counted
        (omega (arith, some_record, ap one_if (record_now h p r l kept b it)))
        (let z : l + 1 + one_if (is_leftover (object_at h b)) ≡ l + 1 = omega (arith, ap one_if (left_now h p r l kept b it ∙ none_some h p r l kept b it it.o.value it.has)) in z))

    -- the step of the map

    module _ (m : RecordMap) (a : List ℕ) (valid : IsValid m) (s : IsPaired m a h) where
      is_used_now : is_used (map_of.with_tag m place None) (led_tag m a h valid s place b was).id ≡ not (is_unused (held_less it.o))
      is_used_now =
          let t = led_tag m a h valid s place b was in
          (is_used_by (map_of.with_tag m place None) a h.names (set h.tags place None) t.id (held_less it.o) s.names (ended_mapped m a h s (held_at m place) b t m.tags h.tags place s.tags)
          (apart_in m a h s t.id t.live m.names (λ i j is. valid.named i j is)) (apart_in m a h s t.id t.live (set m.tags place None) (λ i j is. valid.held i j (read_less m.tags place i j is)))
          (subst (λ c. IsCounted h.names (set h.tags place None) c (held_less it.o)) (sym t.at) counts)).1

      pub was_reply : (value v : List ℕ) → value_in h b ≡ Some v → Was v ≡ (write_step m value (held_at m place)).reply
      was_reply value v is =
          let t = led_tag m a h valid s place b was in
          ap Was (value_same m a h s (held_at m place) b t v is) ∙ ap (λ x. (write_step m value x).reply) (sym t.is)

      step_map : (drop_step m place (held_at m place)).map ≡ without_unused (map_of.with_tag m place None) (led_tag m a h valid s place b was).id
      step_map = ap (λ x. (drop_step m place x).map) (led_tag m a h valid s place b was).is

      pub untagged_stands : is_unused (held_less it.o) ≡ false → IsPaired (drop_step m place (held_at m place)).map a (untagged h place b)
      untagged_stands used =
          let t = led_tag m a h valid s place b was in
          subst (λ k. IsPaired k a (untagged h place b))
          (sym (step_map ∙ cond-true (is_used (map_of.with_tag m place None) t.id) (map_of.with_tag m place None) (ended_map (map_of.with_tag m place None) t.id) (is_used_now ∙ ap not used)))
          (subst (λ k. IsPaired (map_of.with_tag m place None) a k) (sym untagged_is)
          (same_there m a h s (held_at m place) b t m.names (set m.tags place None) h.names (set h.tags place None) (Some (held_less it.o)) s.names (ended_mapped m a h s (held_at m place) b t m.tags h.tags place s.tags)
          (record_same m a h s (held_at m place) b t it.o it.at) (tied_untag used)))

      pub left_stands : is_unused (held_less it.o) ≡ true → IsPaired (drop_step m place (held_at m place)).map a (with_object (untagged h place b) b (Some blank))
      left_stands unused =
          let t = led_tag m a h valid s place b was in
          subst (λ k. IsPaired k a (with_object (untagged h place b) b (Some blank)))
          (sym (step_map ∙ cond-false (is_used (map_of.with_tag m place None) t.id) (map_of.with_tag m place None) (ended_map (map_of.with_tag m place None) t.id) (is_used_now ∙ ap not unused)))
          (subst (λ k. IsPaired (ended_map (map_of.with_tag m place None) t.id) a k) (sym left_is)
          (changed_there m a h s (held_at m place) b t m.names (set m.tags place None) h.names (set h.tags place None) None (Some blank) s.names (ended_mapped m a h s (held_at m place) b t m.tags h.tags place s.tags) refl (tied_leave unused)))

    -- it is held
    pub held_some : 0 < holds_in h b
    held_some =
        omega (
          arith,
          ap (λ (y : Option Object). option_map_or (λ (q : Object). q.holds) y 0) it.at,
          it.counts.held,
          counted (λ c. is_the c b) h.tags place None (read_within h.tags place b was) (is_the_same (hold_at h place) b was),
        )
