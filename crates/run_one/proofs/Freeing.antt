-- Leftovers that are freed one after another.
use Rattle.std.proofs.Common.{◌≡◌, ◌<◌, ◌≤◌, ◌+◌, ℕ, zero, suc, Bool, true, false, cond, count_by, None, is_some, refl, sym, ap, ◌∙◌, subst, arith}
use Rattle.std.specs.Option.{option_map_or}
use Rattle.std.proofs.lemmas.List.{length-map}
use Rattle.std.proofs.lemmas.List.Sums.{count_by-le-length}
use Rattle.kmem_model.specs.Heap.{places_of}
use Rattle.kmem_model.specs.One.{OneState, buffers_of, least_leftover}
use Rattle.kmem_model.specs.OneRun.{without_leftover, without_leftovers}
use Rattle.run_one.specs.Bench.{BenchView, StandsAt, FreesOne}
use Rattle.run_one.proofs.Within.{IsFreeing}

pub freeing_start : (s : OneState) (b : BenchView) (more : Bool) → StandsAt s b → more ≡ true → IsFreeing s b more
freeing_start s b more at is =
    record {
      n = buffers_of s.cache;
      state = s;
      stands = at;
      fuel = omega (arith, count_by-le-length (λ x. x) (places_of b.heap.heap.objects), length-map b.heap.heap.objects is_some, at.stands.size);
      same = refl;
      last = λ no. absurd (both more is no);
    }
  where
    both : (x : Bool) → x ≡ true → x ≡ false → ⊥
    both true e f = cc
    both false e f = cc

-- where there is no leftover, all are freed
pub none_left : (n : ℕ) (s : OneState) → least_leftover s ≡ None → without_leftovers n s ≡ s
none_left zero s e = refl
none_left (suc n) s e = ap (λ x. option_map_or (λ b. without_leftovers n (without_leftover s b)) x s) e

pub freeing_on : (s : OneState) (old new : BenchView) (more : Bool) (was : Bool) (f : IsFreeing s old was) → FreesOne f.state old more new → IsFreeing s new more
freeing_on s old new true was f does = by_fuel f.n f.fuel f.same
  where
    by_fuel : (n : ℕ) → count_by (λ x. x) (places_of old.heap.heap.objects) ≤ n → without_leftovers n f.state ≡ without_leftovers (buffers_of s.cache) s → IsFreeing s new true
    by_fuel zero fuel same = absurd (omega (arith, fuel, does.3))
    by_fuel (suc n) fuel same =
        record {
          n = n;
          state = without_leftover f.state does.0;
          stands = does.2;
          fuel = omega (arith, fuel, does.3);
          same = sym (ap (λ x. option_map_or (λ b. without_leftovers n (without_leftover f.state b)) x f.state) does.1) ∙ same;
          last = λ no. absurd (cc);
        }
freeing_on s old new false was f does =
    record {
      n = f.n;
      state = f.state;
      stands = subst (StandsAt f.state) (sym does.1) f.stands;
      fuel = subst (λ (b : BenchView). count_by (λ x. x) (places_of b.heap.heap.objects) ≤ f.n) (sym does.1) f.fuel;
      same = f.same;
      last = λ no. does.0;
    }

-- fewer objects, or the last turn
pub fewer : (s : OneState) (old new : BenchView) (more : Bool) → FreesOne s old more new → count_by (λ x. x) (places_of new.heap.heap.objects) + cond more 1 0 < count_by (λ x. x) (places_of old.heap.heap.objects) + 1
fewer s old new true does = omega (arith, does.3)
fewer s old new false does = omega (arith, ap (λ (b : BenchView). count_by (λ x. x) (places_of b.heap.heap.objects)) does.1)

pub freed_all : (s : OneState) (b : BenchView) (more : Bool) → IsFreeing s b more → more ≡ false → StandsAt (without_leftovers (buffers_of s.cache) s) b
freed_all s b more f is = subst (λ (t : OneState). StandsAt t b) (sym (none_left f.n f.state (f.last is)) ∙ f.same) f.stands
