-- Where everything can be moved settle leaves as few slabs as can be.
use Rattle.std.proofs.Common.{◌≡◌, ℕ, zero, suc, ◌+◌, ◌*◌, ◌-◌, ◌<◌, ◌≤◌, ◌&&◌, Bool, true, false, cond, List, [], ◌∷◌, map, length, get_or, set, All, count_by, Some, None, ⊎_elim, sym, ◌∙◌, ap, refl, subst, arith}
use Rattle.std.specs.Prelude.{nat_lt, sum_by, sum}
use Rattle.std.proofs.lemmas.Bool.{cases_lt, cases_eq, cases_Bool, and_from, lt-ltb}
use Rattle.std.proofs.lemmas.List.{get_or-set_same, get_or-set_other, set_past, get_or_default}
use Rattle.std.proofs.lemmas.List.Sums.{sum_by-cons, count_by-le-length, sum-map}
use Rattle.std.proofs.lemmas.List.Elements.{All-head, All-tail}
use Rattle.kmem_model.proofs.CacheLists.{count_from_none, map-map}
use Rattle.kmem_model.proofs.CacheChoices.{map_says}
use Rattle.kmem_model.proofs.SettleKept.{IsNext, IsMovedOn, next_known}
use Rattle.kmem_model.proofs.SettleScan.{moved_keeps, scan_whole, scan_from}
use Rattle.kmem_model.proofs.SettleScanned.{IsScanned}
use Rattle.kmem_model.proofs.SettleEnds.{settle_keeps, settle_leaves, forget_slab}
use Rattle.kmem_model.specs.CacheState.{SlabState, CacheState, slab_at, no_slab, used, is_listed, slab_count, out_count}
use Rattle.kmem_model.specs.CacheOrder.{is_partial}
use Rattle.kmem_model.specs.CacheEnter.{unmarked, scan_started}
use Rattle.kmem_model.specs.Settle.{Stage, EndedMove, Course, says_after, after_move, cache_after_move, scanned, settled_in}
use Rattle.kmem_model.specs.SettleWhole.{IsWholeSlab, IsWholeStage, IsSettled, is_known, is_movable, AreAllMovable, HasFewestSlabs}
use Rattle.kmem_model.specs.SettleMeasure.{IsInSettle}
use Rattle.kmem_model.specs.SettleTurns.{with_cache, course_at}
use Rattle.kmem_model.specs.declared.cache_entry.Said.{Said}
use Rattle.kmem_model.specs.declared.cache_entry.Said.TheVariants.{Yes, No, Later, DontNeed, DontKnow}

-- How many buffers are out on listed slabs of which few are partial

slab_fits : (c : ℕ) (slab : SlabState) → 0 < c → IsWholeSlab c slab →
    (used slab ≤ cond (is_listed slab) 1 0 * c) × (cond (is_listed slab) 1 0 * c ≤ used slab + (c - 1) * cond (is_partial slab) 1 0)
slab_fits c slab some whole = by_listed (is_listed slab) refl
  where
    fits : used slab ≤ c
    fits = omega (arith, whole.size, count_by-le-length (λ x. x) slab.out)

    by_listed : (b : Bool) → is_listed slab ≡ b →
        (used slab ≤ cond b 1 0 * c) × (cond b 1 0 * c ≤ used slab + (c - 1) * cond (is_partial slab) 1 0)
    by_listed false is = (omega (arith, whole.others_free is), omega arith)
    by_listed true is =
        ⊎_elim
        (λ less.
        let partial : is_partial slab ≡ true =
        and_from (is_listed slab && nat_lt 0 (used slab)) (nat_lt (used slab) (length slab.out))
        (and_from (is_listed slab) (nat_lt 0 (used slab)) is (lt-ltb 0 (used slab) (whole.listed_out is)))
        (lt-ltb (used slab) (length slab.out) (omega (arith, less, whole.size))) in
        let one : ◌≡◌ {A = ℕ} ((c - 1) * cond (is_partial slab) 1 0) ((c - 1) * 1) = ap {B = ℕ} (λ b. (c - 1) * cond b 1 0) partial in
        (omega (arith, fits), omega (arith, one, whole.listed_out is, some)))
        (λ all. (omega (arith, fits), omega (arith, all)))
        (cases_lt (used slab) c)

slabs_fit : (c : ℕ) (xs : List SlabState) → 0 < c → All (IsWholeSlab c) xs →
    (sum_by used xs ≤ count_by is_listed xs * c) × (count_by is_listed xs * c ≤ sum_by used xs + (c - 1) * count_by is_partial xs)
slabs_fit c [] some whole = (omega arith, omega arith)
slabs_fit c (x ∷ xs) some whole =
    let rest = slabs_fit c xs some (All-tail (IsWholeSlab c) x xs whole) in
    let head = slab_fits c x some (All-head (IsWholeSlab c) x xs whole) in
    let listed : count_by is_listed (x ∷ xs) * c ≡ cond (is_listed x) 1 0 * c + count_by is_listed xs * c =
    ap {B = ℕ} (λ n. n * c) (sum_by-cons (λ slab. cond (is_listed slab) 1 0) x xs) ∙ spread (cond (is_listed x) 1 0) (count_by is_listed xs) in
    let partial : (c - 1) * count_by is_partial (x ∷ xs) ≡ (c - 1) * cond (is_partial x) 1 0 + (c - 1) * count_by is_partial xs =
    ap {B = ℕ} (λ n. (c - 1) * n) (sum_by-cons (λ slab. cond (is_partial slab) 1 0) x xs) ∙ spread_right (c - 1) (cond (is_partial x) 1 0) (count_by is_partial xs) in
    let out : sum_by used (x ∷ xs) ≡ used x + sum_by used xs = sum_by-cons used x xs in (
      sums_to (sum_by used (x ∷ xs)) (used x) (sum_by used xs) (count_by is_listed (x ∷ xs) * c) (cond (is_listed x) 1 0 * c) (count_by is_listed xs * c) out listed head.0 rest.0,
      sums_from (sum_by used (x ∷ xs)) (used x) (sum_by used xs) (count_by is_listed (x ∷ xs) * c) (cond (is_listed x) 1 0 * c) (count_by is_listed xs * c)
          ((c - 1) * count_by is_partial (x ∷ xs)) ((c - 1) * cond (is_partial x) 1 0) ((c - 1) * count_by is_partial xs) out listed partial head.1 rest.1,
    )
  where
    spread : (a b : ℕ) → (a + b) * c ≡ a * c + b * c
    spread a b = omega arith

    spread_right : (m a b : ℕ) → m * (a + b) ≡ m * a + m * b
    spread_right m a b = omega arith

    sums_to : (u a b l m n : ℕ) → u ≡ a + b → l ≡ m + n → a ≤ m → b ≤ n → u ≤ l
    sums_to u a b l m n e1 e2 h1 h2 = omega arith

    sums_from : (u a b l m n p q r : ℕ) → u ≡ a + b → l ≡ m + n → p ≡ q + r → m ≤ a + q → n ≤ b + r → l ≤ u + p
    sums_from u a b l m n p q r e1 e2 e3 h1 h2 = omega arith

-- What is kept

record IsLoose (before : CacheState) (stage : Stage) : Type 0 where
  movable : AreAllMovable stage
  unmarked : (i k : ℕ) → (slab_at stage.cache.slabs i).stuck ≡ Some k → ⊥
  out : out_count stage.cache ≡ out_count before
  chunks : stage.cache.chunks ≡ before.chunks

yes_from : (said : Said) → is_movable said ≡ true → is_known said ≡ true → said ≡ Yes
yes_from Yes m k = refl
yes_from No m k = absurd (cc)
yes_from Later m k = absurd (cc)
yes_from DontNeed m k = absurd (cc)
yes_from DontKnow m k = absurd (cc)

movable_set : (says : List Said) (i b : ℕ) (said : Said) → is_movable said ≡ true → is_movable (get_or says b DontKnow) ≡ true →
    is_movable (get_or (set says i said) b DontKnow) ≡ true
movable_set says i b said new old =
    ⊎_elim
    (λ same.
    ⊎_elim (λ below. ap (λ n. is_movable (get_or (set says i said) n DontKnow)) same ∙ (ap is_movable (get_or-set_same says i said DontKnow below) ∙ new))
    (λ past. ap (λ xs. is_movable (get_or xs b DontKnow)) (set_past says i said past) ∙ old)
    (cases_lt i (length says)))
    (λ other. ap is_movable (get_or-set_other says i b said DontKnow other) ∙ old)
    (cases_eq b i)

movable_after : (said : Said) (from to : ℕ) (says : List Said) → ((b : ℕ) → is_movable (get_or says b DontKnow) ≡ true) →
    (b : ℕ) → is_movable (get_or (says_after said from to says) b DontKnow) ≡ true
movable_after Yes from to says all b =
    movable_set (set says to (get_or says from DontKnow)) from b DontKnow refl (movable_set says to b (get_or says from DontKnow) (all from) (all b))
movable_after No from to says all b = all b
movable_after Later from to says all b = all b
movable_after DontNeed from to says all b = movable_set says from b DontKnow refl (all b)
movable_after DontKnow from to says all b = all b

-- the answers that a move leaves
says_is : (stage t : Stage) (move : EndedMove) → after_move stage move ≡ Some t → t.says ≡ says_after move.said move.from move.to stage.says
says_is stage t move e =
    let (cache, there, same) = map_says (λ cache. stage_with cache) (cache_after_move stage.cache move) t e in
    ap (λ (x : Stage). x.says) (sym same)
  where
    stage_with : CacheState → Stage
    stage_with cache = record { cache = cache; says = says_after move.said move.from move.to stage.says }

loose_move : (before : CacheState) (course : Course) (move : EndedMove) (t : Stage) → IsWholeStage course.stage → IsLoose before course.stage →
    IsNext course.stage move.from move.to move.said → IsMovedOn course.stage t move.from move.to move.said → IsLoose before t
loose_move before course move t whole loose next on =
    record {
      movable = λ b.
          ap (λ says. is_movable (get_or says b DontKnow)) (says_is course.stage t move on.after)
          ∙ movable_after move.said move.from move.to course.stage.says loose.movable b;
      unmarked = λ i k e. loose.unmarked i k (on.yes_marks yes i k e);
      out = on.yes_out yes ∙ loose.out;
      chunks = on.sizes.chunks ∙ loose.chunks;
    }
  where
    yes : move.said ≡ Yes
    yes =
        yes_from move.said (ap is_movable next.answer ∙ loose.movable move.from)
        (ap is_known next.answer ∙ next_known course.stage move.from move.to move.said whole next)

loose_scan : (before : CacheState) (stage : Stage) (scan : Course) → IsInSettle stage → IsLoose before stage → scanned stage ≡ Some scan →
    IsScanned stage scan → IsLoose before scan.stage
loose_scan before stage scan inside loose e says =
    let started : CacheState = scan_started stage.cache true in
    let (whole, kept, idle) = moved_keeps (λ (course : Course). IsLoose before course.stage)
    (λ course move t old now next on. loose_move before course move t old now next on)
    (length started.asked + 1) (course_at (with_cache stage started)) scan (scan_whole stage started inside.whole refl)
    (record { movable = loose.movable; unmarked = loose.unmarked; out = loose.out; chunks = loose.chunks })
    (sym (scan_from stage started refl) ∙ e) in
    kept

-- The law

few_partial : (stage : Stage) → IsSettled stage → ((i k : ℕ) → (slab_at stage.cache.slabs i).stuck ≡ Some k → ⊥) → count_by is_partial stage.cache.slabs ≤ 1
few_partial stage settled unmarked' =
    ⊎_elim (λ few. few)
    (λ stuck.
    omega (
      arith,
      count_from_none is_partial stage.cache.slabs
          (λ i d below.
          ap is_partial (get_or_default stage.cache.slabs i d no_slab below)
          ∙ ⊎_elim (λ partial. absurd (unmarked' i (stuck i partial).index (stuck i partial).marked)) (λ no. no)
          (cases_Bool (is_partial (slab_at stage.cache.slabs i)))),
    ))
    settled.partial

pub out_forgotten : (xs : List SlabState) → sum_by used (map unmarked xs) ≡ sum_by used xs
out_forgotten xs = sym (sum-map used (map unmarked xs)) ∙ (ap sum (map-map unmarked used xs) ∙ sum-map used xs)

pub settle_fewest : (n : ℕ) (stage : Stage) (result : Course) → IsWholeStage stage → AreAllMovable stage → settled_in n stage ≡ Some result →
    HasFewestSlabs stage.cache result.stage.cache
settle_fewest n stage result whole movable e =
    let (inside, loose, rest) = settle_keeps (IsLoose stage.cache) (loose_scan stage.cache) n stage result whole begins e in
    let (later, settled) = settle_leaves n stage result whole e in
    let s : CacheState = result.stage.cache in
    let fit = slabs_fit s.chunks s.slabs later.cache.positive later.cache.slabs in
    let few : count_by is_partial s.slabs ≤ 1 = few_partial result.stage settled loose.unmarked in
    let fewest : slab_count s * s.chunks < out_count s + s.chunks =
    below (slab_count s * s.chunks) (out_count s) s.chunks (count_by is_partial s.slabs) later.cache.positive few fit.1 in
    record {
      out = loose.out;
      enough = subst (λ m. m ≤ slab_count s * stage.cache.chunks) loose.out (subst (λ c. out_count s ≤ slab_count s * c) loose.chunks fit.0);
      fewest =
          subst (λ m. slab_count s * stage.cache.chunks < m + stage.cache.chunks) loose.out
          (subst (λ c. slab_count s * c < out_count s + c) loose.chunks fewest);
    }
  where
    below : (l u c p : ℕ) → 0 < c → p ≤ 1 → l ≤ u + (c - 1) * p → l < u + c
    below l u c zero some few h = omega arith
    below l u c (suc zero) some few h = omega arith
    below l u c (suc (suc p)) some few h = absurd (omega arith)

    none_some : (k : ℕ) → None ≡ Some k → ⊥
    none_some k h = cc

    begins : IsLoose stage.cache (with_cache stage (record stage.cache { slabs = map unmarked stage.cache.slabs }))
    begins =
        record {
          movable = movable;
          unmarked = λ i k h. none_some k (ap (λ (slab : SlabState). slab.stuck) (sym (forget_slab stage.cache i)) ∙ h);
          out = out_forgotten stage.cache.slabs;
          chunks = refl;
        }
