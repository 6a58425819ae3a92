-- What the movers leave in the history of the cache, and the sums over all that took part.
use Rattle.std.proofs.Common.{◌≡◌, ◌+◌, ◌-◌, ◌^◌, ◌<◌, ◌||◌, ℕ, Bool, true, false, cond, min, List, [], ◌∷◌, filter, replicate, count_by, All, refl, ap, ◌∙◌, ap₂, arith}
use Rattle.std.specs.List.{sum_by}
use Rattle.std.proofs.lemmas.List.Elements.{All-head, All-tail}
use Rattle.std.proofs.lemmas.List.Sums.{sum_by-cons}
use Rattle.kmem_model.specs.declared.cache_entry.CacheEntry.{CacheEntry}
use Rattle.kmem_model.specs.declared.cache_entry.CacheEntry.TheVariants.{Alloc, Full, Free, Scan, Begin, Idle, Gone, End, Forget}
use Rattle.kmem_model.specs.declared.cache_entry.Said.{Said}
use Rattle.kmem_model.specs.CacheCounts.{total, entries_in, entries_by}
use Rattle.kmem_model.specs.CacheScans.{is_scan, is_begin, scanning, has_rounds}
use Rattle.kmem_model.specs.Report.{MoveCounts, counted_in, ends_in, is_end_by, is_gone_entry, is_yes, is_no, is_later, is_dont_need, is_dont_know}
use Rattle.record_table.specs.Runs.{asks_slabs, frees_slab}
use Rattle.object_cache.specs.declared.tally.Tally.{Tally}
use Rattle.consolidator.specs.declared.driving.MoverPlan.{MoverPlan}
use Rattle.consolidator.specs.Tallies.{tally_sum, ends_of, capped_sum}
use Rattle.run_workers.specs.declared.worker.Worker.{Worker}
use Rattle.run_movers.specs.declared.mover.MoverTask.{MoverTask}
use Rattle.run_movers.specs.Histories.{AreWorkersBefore, IsOfMoversAlone}
use Rattle.run_engine.specs.declared.shared.Shared.{Shared}
use Rattle.run_engine.specs.Done.{IsMoverDone}
use Rattle.run_engine.specs.Ran.{HasScansBy}

-- A mover's scans

pub scans_by : (shared : Shared) (pass : ℕ) (plan : MoverPlan) (t : MoverTask) (history : List (ℕ × CacheEntry)) → IsMoverDone shared pass plan t →
    entries_by pass history ≡ t.seat.pass.mine → HasScansBy pass plan history
scans_by shared pass plan t history done exact =
    record {
      scans = ap (filter is_scan) exact ∙ (done.moved.scans ∙ ap (λ (p : MoverPlan). replicate p.scans (Scan p.desperate)) done.waiting.plan_is);
      rounds = ap (λ es. has_rounds (scanning es)) exact ∙ done.moved.rounds;
    }

-- the pass of a mover that is done
pub pass_is : (shared : Shared) (pass : ℕ) (plan : MoverPlan) (t : MoverTask) → IsMoverDone shared pass plan t → t.seat.pass.number ≡ pass
pass_is shared pass plan t done = done.moved.same.1 ∙ done.waiting.seat

pub mover_is : (shared : Shared) (pass : ℕ) (plan : MoverPlan) (t : MoverTask) → IsMoverDone shared pass plan t → t.mover.pass.number ≡ pass
mover_is shared pass plan t done = done.moved.same.2 ∙ done.waiting.mover

-- Sums over the workers

pub balances : (workers : List Worker) → All (λ w. w.seat.lent + w.session.share.fetched ≡ w.seat.returned + w.session.share.brought) workers →
    sum_by (λ w. w.seat.lent) workers + sum_by (λ w. w.session.share.fetched) workers
    ≡ sum_by (λ w. w.seat.returned) workers + sum_by (λ w. w.session.share.brought) workers
balances [] all = refl
balances (w ∷ ws) all =
    let P : Worker → Type 0 = λ w. w.seat.lent + w.session.share.fetched ≡ w.seat.returned + w.session.share.brought in
    omega (
      arith,
      All-head P w ws all,
      balances ws (All-tail P w ws all),
      sum_by-cons (λ (v : Worker). v.seat.lent) w ws,
      sum_by-cons (λ (v : Worker). v.session.share.fetched) w ws,
      sum_by-cons (λ (v : Worker). v.seat.returned) w ws,
      sum_by-cons (λ (v : Worker). v.session.share.brought) w ws,
    )

pub sum_pair : {A : Type 0} (weight : A → ℕ) (x y : A) → sum_by weight (x ∷ y ∷ []) ≡ weight x + weight y
sum_pair weight x y = omega (arith, sum_by-cons weight x (y ∷ []), sum_by-cons weight y [])

pub sum_behind : {A : Type 0} (weight : A → ℕ) (x y : A) (zs : List A) → sum_by weight (x ∷ y ∷ zs) ≡ weight x + weight y + sum_by weight zs
sum_behind weight x y zs = omega (arith, sum_by-cons weight x (y ∷ zs), sum_by-cons weight y zs)

-- Entries that are counted

abbrev pub weight_of : (CacheEntry → Bool) → CacheEntry → ℕ
weight_of is e = cond (is e) 1 0

pub total_is : (is : CacheEntry → Bool) (entries : List CacheEntry) → total (weight_of is) entries ≡ count_by is entries
total_is is [] = refl
total_is is (e ∷ es) = omega (arith, total_is is es, sum_by-cons (λ (x : CacheEntry). cond {A = ℕ} (is x) 1 0) e es)

-- no entry of a worker is one of these
abbrev NotOfWorkers : (CacheEntry → Bool) → Type 0
NotOfWorkers is = (e : CacheEntry) → (asks_slabs e || frees_slab e) ≡ true → is e ≡ false

no : false ≡ true → ⊥
no e = cc

begin_not : NotOfWorkers is_begin
begin_not (Alloc b) h = refl
begin_not Full h = refl
begin_not (Free b) h = refl
begin_not (Scan d) h = refl
begin_not (Begin j b c) h = absurd (no h)
begin_not Idle h = refl
begin_not (Gone j) h = refl
begin_not (End j a) h = refl
begin_not Forget h = refl

end_not : (is : Said → Bool) → NotOfWorkers (is_end_by is)
end_not is (Alloc b) h = refl
end_not is Full h = refl
end_not is (Free b) h = refl
end_not is (Scan d) h = refl
end_not is (Begin j b c) h = refl
end_not is Idle h = refl
end_not is (Gone j) h = refl
end_not is (End j a) h = absurd (no h)
end_not is Forget h = refl

gone_not : NotOfWorkers is_gone_entry
gone_not (Alloc b) h = refl
gone_not Full h = refl
gone_not (Free b) h = refl
gone_not (Scan d) h = refl
gone_not (Begin j b c) h = refl
gone_not Idle h = refl
gone_not (Gone j) h = absurd (no h)
gone_not (End j a) h = refl
gone_not Forget h = refl

weighs_alone : (is : CacheEntry → Bool) → NotOfWorkers is → IsOfMoversAlone (weight_of is)
weighs_alone is not e h = ap (λ (x : Bool). cond {A = ℕ} x 1 0) (not e h)

abbrev pub SumsLaw : Type 0
SumsLaw = (weight : CacheEntry → ℕ) (workers : ℕ) (history : List (ℕ × CacheEntry)) → IsOfMoversAlone weight →
    All (λ e. e.0 < workers + 2) history → AreWorkersBefore workers history →
    total weight (entries_in history) ≡ total weight (entries_by workers history) + total weight (entries_by (workers + 1) history)

capped : (a b c : ℕ) → c ≡ a + b → capped_sum (min a (2 ^ 64 - 1)) (min b (2 ^ 64 - 1)) ≡ min c (2 ^ 64 - 1)
capped a b c e = grind arith

module _ (law : SumsLaw) (workers : ℕ) (history : List (ℕ × CacheEntry)) (within : All (λ (e : ℕ × CacheEntry). e.0 < workers + 2) history)
    (before : AreWorkersBefore workers history) (a b : List CacheEntry) (first : entries_by workers history ≡ a)
    (second : entries_by (workers + 1) history ≡ b) where
  both : (is : CacheEntry → Bool) → NotOfWorkers is → count_by is (entries_in history) ≡ count_by is a + count_by is b
  both is not =
      omega (
        arith,
        law (weight_of is) workers history (weighs_alone is not) within before,
        total_is is (entries_in history),
        total_is is (entries_by workers history),
        total_is is (entries_by (workers + 1) history),
        ap (count_by is) first,
        ap (count_by is) second,
      )

  each : (is : CacheEntry → Bool) → NotOfWorkers is → capped_sum (counted_in a is) (counted_in b is) ≡ counted_in (entries_in history) is
  each is not = capped (count_by is a) (count_by is b) (count_by is (entries_in history)) (both is not)

  -- the tallies of both movers count the entries of all
  pub begun_in_all : (s t : Tally) → s.begun ≡ counted_in a is_begin → t.begun ≡ counted_in b is_begin → (tally_sum s t).begun ≡ counted_in (entries_in history) is_begin
  begun_in_all s t is as_well = ap₂ capped_sum is as_well ∙ each is_begin begin_not

  pub ended_in_all : (s t : Tally) → ends_of s ≡ ends_in a → ends_of t ≡ ends_in b → ends_of (tally_sum s t) ≡ ends_in (entries_in history)
  ended_in_all s t is as_well = ap₂ sums is as_well ∙ joined
    where
      sums : MoveCounts → MoveCounts → MoveCounts
      sums m n =
          record {
            yes = capped_sum m.yes n.yes;
            no = capped_sum m.no n.no;
            later = capped_sum m.later n.later;
            dont_need = capped_sum m.dont_need n.dont_need;
            dont_know = capped_sum m.dont_know n.dont_know;
            gone = capped_sum m.gone n.gone;
          }

      joined : sums (ends_in a) (ends_in b) ≡ ends_in (entries_in history)
      joined = λ i. record {
        yes = each (is_end_by is_yes) (end_not is_yes) i;
        no = each (is_end_by is_no) (end_not is_no) i;
        later = each (is_end_by is_later) (end_not is_later) i;
        dont_need = each (is_end_by is_dont_need) (end_not is_dont_need) i;
        dont_know = each (is_end_by is_dont_know) (end_not is_dont_know) i;
        gone = each is_gone_entry gone_not i;
      }
