-- What is left after leftovers are freed and the cache is settled: the records that live, and nothing else.
use Rattle.std.proofs.Common.{◌≡◌, ◌+◌, ◌<◌, ◌≤◌, ◌&&◌, ℕ, zero, suc, Bool, true, false, cond, List, [], ◌∷◌, length, get_or, set, count_by, Option, Some, None, is_some, is_none, refl, sym, ap, ap₂, ◌∙◌, ⊎_elim, arith, option_and_then, ◌==◌}
use Rattle.std.specs.Prelude.{nat_lt}
use Rattle.std.specs.Option.{option_map_or}
use Rattle.std.proofs.lemmas.Bool.{cases_lt, cases_eq, cases_Bool, cond_both, and_parts}
use Rattle.std.proofs.lemmas.List.{get_or-set_same, get_or-set_other, set_past}
use Rattle.std.proofs.lemmas.List.Sums.{sum_by-cons}
use Rattle.kmem_model.specs.CacheState.{CacheState, out_count, is_out}
use Rattle.kmem_model.specs.CacheHistory.{Follows}
use Rattle.kmem_model.specs.CacheCounts.{total, made_out, made_free}
use Rattle.kmem_model.specs.CacheEnter.{enter, scan_started}
use Rattle.kmem_model.specs.Records.{RecordMap, is_live, tag_count, live_count}
use Rattle.kmem_model.specs.Heap.{Object, HeapState, StandsFor, address_in, has_record, is_leftover, least_left_in, object_at, places_of}
use Rattle.kmem_model.specs.Says.{answer_about, says, stage_in}
use Rattle.kmem_model.specs.One.{OneState, id_at, least_leftover, buffers_of}
use Rattle.kmem_model.specs.OneRun.{answer_by, answer_at, is_fixed, without_leftover, without_leftovers}
use Rattle.kmem_model.specs.OneStands.{OneStands}
use Rattle.kmem_model.specs.Settle.{Stage, EndedMove, Course, said_at, says_after, cache_after_move, scanned, settled_in}
use Rattle.kmem_model.specs.SettleWhole.{IsWhole, IsWholeStage, is_movable}
use Rattle.kmem_model.specs.SettleMeasure.{IsInSettle}
use Rattle.kmem_model.specs.SettleTurns.{with_cache, course_at}
use Rattle.kmem_model.specs.Report.{is_no, is_later, is_dont_need}
use Rattle.kmem_model.specs.declared.cache_entry.CacheEntry.{CacheEntry}
use Rattle.kmem_model.specs.declared.cache_entry.CacheEntry.TheVariants.{Begin, End}
use Rattle.kmem_model.specs.declared.cache_entry.Said.{Said}
use Rattle.kmem_model.specs.declared.cache_entry.Said.TheVariants.{Yes, No, Later, DontNeed, DontKnow}
use Rattle.kmem_model.proofs.CacheChoices.{map_says}
use Rattle.kmem_model.proofs.CacheSearch.{fails_from_none, least_from_some}
use Rattle.kmem_model.proofs.PlacesKept.{and_then_says}
use Rattle.kmem_model.proofs.SettleKept.{IsNext, IsMovedOn}
use Rattle.kmem_model.proofs.SettleScan.{moved_keeps, scan_whole, scan_from}
use Rattle.kmem_model.proofs.SettleScanned.{IsScanned}
use Rattle.kmem_model.proofs.SettleEnds.{settle_keeps}
use Rattle.kmem_model.proofs.SettleFewest.{out_forgotten}
use Rattle.run_end.proofs.Asked.{AreAmong, is_other_than}

-- Leftovers

pub without_map : (n : ℕ) (s : OneState) → (without_leftovers n s).map ≡ s.map
without_map zero s = refl
without_map (suc n) s = by_one (λ b. without_map n (without_leftover s b)) (least_leftover s)
  where
    by_one : ((b : ℕ) → (without_leftovers n (without_leftover s b)).map ≡ s.map) → (o : Option ℕ) → (option_map_or (λ b. without_leftovers n (without_leftover s b)) o s).map ≡ s.map
    by_one on None = refl
    by_one on (Some b) = on b

pub there_count : (objects : List (Option Object)) → count_by (λ x. x) (places_of objects) ≡ count_by is_some objects
there_count [] = refl
there_count (o ∷ os) =
    omega (
      arith,
      there_count os,
      sum_by-cons (λ (b : Bool). cond {A = ℕ} b 1 0) (is_some o) (places_of os),
      sum_by-cons (λ (x : Option Object). cond {A = ℕ} (is_some x) 1 0) o os,
    )

-- each object has a record or is a leftover
one_kind : (o : Option Object) → ◌≡◌ {A = ℕ} (cond (is_some o) 1 0) (cond (has_record o) 1 0 + cond (is_leftover o) 1 0)
one_kind None = refl
one_kind (Some o) = by_value o.value
  where
    by_value : (v : Option (List ℕ)) → ◌≡◌ {A = ℕ} 1 (cond (is_some v) 1 0 + cond (is_none v) 1 0)
    by_value None = refl
    by_value (Some v) = refl

kinds : (objects : List (Option Object)) → count_by is_some objects ≡ count_by has_record objects + count_by is_leftover objects
kinds [] = refl
kinds (o ∷ os) =
    omega (
      arith,
      one_kind o,
      kinds os,
      sum_by-cons (λ (x : Option Object). cond {A = ℕ} (is_some x) 1 0) o os,
      sum_by-cons (λ (x : Option Object). cond {A = ℕ} (has_record x) 1 0) o os,
      sum_by-cons (λ (x : Option Object). cond {A = ℕ} (is_leftover x) 1 0) o os,
    )

-- where there is no leftover there is none at any place
none_at : (h : HeapState) → least_left_in h ≡ None → (b : ℕ) → is_leftover (object_at h b) ≡ false
none_at h none b = ⊎_elim (λ small. fails_from_none (length h.objects) (λ n. is_leftover (object_at h n)) none b small) (λ far. past h.objects b far) (cases_lt b (length h.objects))
  where
    past : (os : List (Option Object)) (i : ℕ) → length os ≤ i → is_leftover (get_or os i None) ≡ false
    past [] i far = refl
    past (o ∷ os) zero far = absurd (omega (arith, far))
    past (o ∷ os) (suc i) far = past os i (omega (arith, far))

-- so there are as many objects as records live
pub as_many : (m : RecordMap) (addresses : List ℕ) (h : HeapState) → StandsFor m addresses h → least_left_in h ≡ None → count_by (λ x. x) (places_of h.objects) ≡ live_count m
as_many m addresses h stands none =
    omega (
      arith,
      there_count h.objects,
      kinds h.objects,
      stands.paired.count,
      none_counted h.objects (none_at h none),
    )
  where
    none_counted : (os : List (Option Object)) → ((b : ℕ) → is_leftover (get_or os b None) ≡ false) → count_by is_leftover os ≡ 0
    none_counted [] each = refl
    none_counted (o ∷ os) each =
        let head : ◌≡◌ {A = ℕ} (cond (is_leftover o) 1 0) 0 = ap (λ (b : Bool). cond {A = ℕ} b 1 0) (each 0) in
        omega (arith, head, none_counted os (λ b. each (suc b)), sum_by-cons (λ (x : Option Object). cond {A = ℕ} (is_leftover x) 1 0) o os)

-- A settle without leftovers

-- no answer frees both buffers, and as many buffers are out as before
record IsKept (before : CacheState) (stage : Stage) : Type 0 where
  needed : (b : ℕ) → is_dont_need (said_at stage b) ≡ false
  out : out_count stage.cache ≡ out_count before

needed_set : (says : List Said) (i b : ℕ) (said : Said) → is_dont_need said ≡ false → is_dont_need (get_or says b DontKnow) ≡ false →
    is_dont_need (get_or (set says i said) b DontKnow) ≡ false
needed_set says i b said new old =
    ⊎_elim
    (λ same.
    ⊎_elim (λ below. ap (λ n. is_dont_need (get_or (set says i said) n DontKnow)) same ∙ (ap is_dont_need (get_or-set_same says i said DontKnow below) ∙ new))
    (λ past. ap (λ xs. is_dont_need (get_or xs b DontKnow)) (set_past says i said past) ∙ old)
    (cases_lt i (length says)))
    (λ other. ap is_dont_need (get_or-set_other says i b said DontKnow other) ∙ old)
    (cases_eq b i)

needed_after : (said : Said) (from to : ℕ) (says : List Said) → ((b : ℕ) → is_dont_need (get_or says b DontKnow) ≡ false) →
    (b : ℕ) → is_dont_need (get_or (says_after said from to says) b DontKnow) ≡ false
needed_after Yes from to says all b =
    needed_set (set says to (get_or says from DontKnow)) from b DontKnow refl (needed_set says to b (get_or says from DontKnow) (all from) (all b))
needed_after No from to says all b = all b
needed_after Later from to says all b = all b
needed_after DontNeed from to says all b = needed_set says from b DontKnow refl (all b)
needed_after DontKnow from to says all b = all b

-- a move that isn't answered so hands back one buffer
one_back : (said : Said) → is_dont_need said ≡ false → made_free (End 0 said) ≡ 1
one_back Yes e = refl
one_back No e = refl
one_back Later e = refl
one_back DontNeed e = absurd (no e)
  where
    no : true ≡ false → ⊥
    no h = cc
one_back DontKnow e = refl

abbrev Along : Type 0
Along = (s t : CacheState) (entries : List CacheEntry) → IsWhole s → Follows s entries t → out_count t + total made_free entries ≡ out_count s + total made_out entries

module _ (along : Along) (before : CacheState) where
  kept_move : (course : Course) (move : EndedMove) (t : Stage) → IsWholeStage course.stage → IsKept before course.stage →
      IsNext course.stage move.from move.to move.said → IsMovedOn course.stage t move.from move.to move.said → IsKept before t
  kept_move course move t whole kept next on =
      let (cache, there, same) = map_says (λ cache. record { cache = cache; says = says_after move.said move.from move.to course.stage.says })
      (cache_after_move course.stage.cache move) t on.after in
      let (begun, first, second) = and_then_says (λ begun. enter begun (End 0 move.said)) (enter course.stage.cache (Begin 0 move.from move.to)) cache there in
      let is : t.cache ≡ cache = ap (λ (x : Stage). x.cache) (sym same) in
      let told : t.says ≡ says_after move.said move.from move.to course.stage.says = ap (λ (x : Stage). x.says) (sym same) in
      let asked : is_dont_need move.said ≡ false = ap is_dont_need next.answer ∙ kept.needed move.from in
      record {
        needed = λ b. ap (λ says. is_dont_need (get_or says b DontKnow)) told ∙ needed_after move.said move.from move.to course.stage.says kept.needed b;
        out = omega (arith, ap out_count is, kept.out, one_back move.said asked, along course.stage.cache cache (Begin 0 move.from move.to ∷ End 0 move.said ∷ []) whole.cache (chained begun first second));
      }
    where
      chained : {cache : CacheState} (begun : CacheState) → enter course.stage.cache (Begin 0 move.from move.to) ≡ Some begun → enter begun (End 0 move.said) ≡ Some cache →
          Follows course.stage.cache (Begin 0 move.from move.to ∷ End 0 move.said ∷ []) cache
      chained begun first second = ap (λ o. option_and_then (λ next. option_and_then (λ last. Some last) (enter next (End 0 move.said))) o) first ∙ ap (option_and_then (λ last. Some last)) second

  kept_scan : (stage : Stage) (scan : Course) → IsInSettle stage → IsKept before stage → scanned stage ≡ Some scan → IsScanned stage scan → IsKept before scan.stage
  kept_scan stage scan inside kept e says =
      let started : CacheState = scan_started stage.cache true in
      let (whole, after, idle) = moved_keeps (λ (course : Course). IsKept before course.stage)
      (λ course move t old now next on. kept_move course move t old now next on)
      (length started.asked + 1) (course_at (with_cache stage started)) scan (scan_whole stage started inside.whole refl)
      (record { needed = kept.needed; out = kept.out })
      (sym (scan_from stage started refl) ∙ e) in
      after

-- what a settle of a stage without a leftover leaves
pub settled_kept : Along → (n : ℕ) (stage : Stage) (result : Course) → IsWholeStage stage → ((b : ℕ) → is_dont_need (said_at stage b) ≡ false) → settled_in n stage ≡ Some result →
    ((b : ℕ) → is_dont_need (said_at result.stage b) ≡ false) × (out_count result.stage.cache ≡ out_count stage.cache)
settled_kept along n stage result whole needed e =
    let (inside, kept, rest) = settle_keeps (IsKept stage.cache) (kept_scan along stage.cache) n stage result whole
    (record { needed = needed; out = out_forgotten stage.cache.slabs }) e in
    (kept.needed, kept.out)

-- Answers about objects

-- no leftover, no such answer
pub needed_by : (h : HeapState) (cache : CacheState) → ((b : ℕ) → said_at (stage_in cache h.objects) b ≡ says h true b) → least_left_in h ≡ None → (b : ℕ) → is_dont_need (said_at (stage_in cache h.objects) b) ≡ false
needed_by h cache said none b = ap is_dont_need (said b) ∙ about (object_at h b) (none_at h none b)
  where
    about : (o : Option Object) → is_leftover o ≡ false → is_dont_need (answer_about o) ≡ false
    about None e = refl
    about (Some o) e =
        ap (λ x. is_dont_need (cond x DontNeed (cond o.fixed No (cond (nat_lt 0 o.holds) Later Yes)))) e
        ∙ cond_both o.fixed No (cond (nat_lt 0 o.holds) Later Yes) (λ (s : Said). is_dont_need s ≡ false) (λ f. refl)
        (λ f. cond_both (nat_lt 0 o.holds) Later Yes (λ (s : Said). is_dont_need s ≡ false) (λ g. refl) (λ g. refl))

-- no such answer, no leftover: each object has a record
pub has_records : (h : HeapState) (cache : CacheState) → ((b : ℕ) → said_at (stage_in cache h.objects) b ≡ says h true b) → ((b : ℕ) → is_dont_need (said_at (stage_in cache h.objects) b) ≡ false) →
    (b : ℕ) → is_some (object_at h b) ≡ true → has_record (object_at h b) ≡ true
has_records h cache said needed b there = about (object_at h b) (ap is_dont_need (sym (said b)) ∙ needed b) there
  where
    by_value : (v : Option (List ℕ)) (rest : Said) → is_dont_need (cond (is_none v) DontNeed rest) ≡ false → is_some v ≡ true
    by_value None rest e = absurd (no e)
      where
        no : true ≡ false → ⊥
        no x = cc
    by_value (Some v) rest e = refl

    about : (o : Option Object) → is_dont_need (answer_about o) ≡ false → is_some o ≡ true → has_record o ≡ true
    about None e is = is
    about (Some o) e is = by_value o.value (cond o.fixed No (cond (nat_lt 0 o.holds) Later Yes)) e

-- where there is no leftover, all answers are among those about records that live
pub all_such : (among : Said → Bool) → among DontKnow ≡ true → (s : OneState) (h : HeapState) → OneStands s h →
    ((id : ℕ) → is_live s.map id ≡ true → among (answer_by s.map (Some id)) ≡ true) → least_leftover s ≡ None →
    ((b : ℕ) → said_at (stage_in s.cache h.objects) b ≡ says h true b) → ((b : ℕ) → says h true b ≡ answer_at s b) → AreAmong among (stage_in s.cache h.objects)
all_such among unknown s h stands each none said right b =
    ap among (said b ∙ right b)
    ∙ ⊎_elim (λ out. ap (λ x. among (cond x (answer_by s.map (id_at s.map s.addresses b)) DontKnow)) out ∙ named (id_at s.map s.addresses b) refl out)
    (λ back. ap (λ x. among (cond x (answer_by s.map (id_at s.map s.addresses b)) DontKnow)) back ∙ unknown)
    (cases_Bool (is_out s.cache b))
  where
    below : is_out s.cache b ≡ true → b < buffers_of s.cache
    below out = ⊎_elim (λ small. small) (λ far. absurd (apart (sym (past h.objects b (omega (arith, far, stands.size))) ∙ (stands.places b ∙ out)))) (cases_lt b (buffers_of s.cache))
      where
        apart : false ≡ true → ⊥
        apart e = cc

        past : (os : List (Option Object)) (i : ℕ) → length os ≤ i → is_some (get_or os i None) ≡ false
        past [] i far = refl
        past (o ∷ os) zero far = absurd (omega (arith, far))
        past (o ∷ os) (suc i) far = past os i (omega (arith, far))

    named : (o : Option ℕ) → id_at s.map s.addresses b ≡ o → is_out s.cache b ≡ true → among (answer_by s.map o) ≡ true
    named None is out = absurd (apart (sym (ap₂ (λ x y. x && is_none y) out is) ∙ fails_from_none (buffers_of s.cache) (λ n. is_out s.cache n && is_none (id_at s.map s.addresses n)) none b (below out)))
      where
        apart : true ≡ false → ⊥
        apart e = cc
    named (Some id) is out =
        let found = (least_from_some (length s.addresses) (λ i. is_live s.map i && address_in s.addresses i == b) id is).passes in
        each id (and_parts (is_live s.map id) (address_in s.addresses id == b) found).0

-- no answer but that of a record
module _ (m : RecordMap) (id : ℕ) where
  pub such_movable : is_fixed m id ≡ false → tag_count m id ≡ 0 → is_movable (answer_by m (Some id)) ≡ true
  such_movable loose untagged =
      ap (λ x. is_movable (cond x No (cond (nat_lt 0 (tag_count m id)) Later Yes))) loose ∙ ap (λ n. is_movable (cond (nat_lt 0 n) Later Yes)) untagged

  pub such_now : tag_count m id ≡ 0 → is_other_than is_later (answer_by m (Some id)) ≡ true
  such_now untagged =
      ap (λ n. is_other_than is_later (cond (is_fixed m id) No (cond (nat_lt 0 n) Later Yes))) untagged
      ∙ cond_both (is_fixed m id) No Yes (λ (s : Said). is_other_than is_later s ≡ true) (λ f. refl) (λ f. refl)

  pub such_loose : is_fixed m id ≡ false → is_other_than is_no (answer_by m (Some id)) ≡ true
  such_loose loose =
      ap (λ x. is_other_than is_no (cond x No (cond (nat_lt 0 (tag_count m id)) Later Yes))) loose
      ∙ cond_both (nat_lt 0 (tag_count m id)) Later Yes (λ (s : Said). is_other_than is_no s ≡ true) (λ f. refl) (λ f. refl)

  pub such_needed : is_other_than is_dont_need (answer_by m (Some id)) ≡ true
  such_needed =
      cond_both (is_fixed m id) No (cond (nat_lt 0 (tag_count m id)) Later Yes) (λ (s : Said). is_other_than is_dont_need s ≡ true) (λ f. refl)
      (λ f. cond_both (nat_lt 0 (tag_count m id)) Later Yes (λ (s : Said). is_other_than is_dont_need s ≡ true) (λ g. refl) (λ g. refl))
