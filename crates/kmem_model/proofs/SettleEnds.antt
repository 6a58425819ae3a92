-- Settle ends, and leaves at most one partial slab, or partial slabs that are all stuck.
use Rattle.std.proofs.Common.{◌≡◌, ◌≢◌, ℕ, zero, suc, ◌+◌, ◌*◌, ◌/◌, ◌%◌, ◌<◌, ◌≤◌, ◌==◌, ◌&&◌, not, Bool, true, false, cond, List, [], ◌∷◌, map, length, get_or, All, count_by, Option, Some, None, is_some, option_map, option_and_then, inl, inr, ◌⊎◌, ⊎_elim, sym, ◌∙◌, ap, ap₂, refl, subst, arith, add-one}
use Rattle.std.specs.List.{list_any}
use Rattle.std.proofs.lemmas.Bool.{cases_Bool, both_ways, and_parts, and_from, and_cases, not-true, not-false, not_from_false, eqb-true, eqb-false}
use Rattle.std.proofs.lemmas.List.{get_or_default}
use Rattle.std.proofs.lemmas.List.Sums.{sum_by-le, sum_by-cons, count_by-le-length}
use Rattle.kmem_model.proofs.CacheLists.{count_from_none, get_or-map_default}
use Rattle.kmem_model.proofs.CacheChoices.{is_the_says, partial_within}
use Rattle.kmem_model.proofs.CacheSearch.{fails_from_none, least_from_some, is_none_says, none_passes_from_none, foremost_from_some}
use Rattle.kmem_model.proofs.CacheRanks.{comes_before-order}
use Rattle.kmem_model.proofs.SettleWhole.{AreSameSizes, enter_whole, enter_sizes}
use Rattle.kmem_model.proofs.SettleGain.{within_bound}
use Rattle.kmem_model.proofs.SettleKept.{IsMarkAt, mark_at}
use Rattle.kmem_model.proofs.SettleScanned.{IsScanned, scan_says, scan_ends}
use Rattle.kmem_model.specs.CacheState.{SlabState, CacheState, no_slab, slab_at, used, is_out_on}
use Rattle.kmem_model.specs.CacheOrder.{least_below, IsLeastBelow, IsForemost, is_the, is_partial, is_marked, is_fuller, comes_before, first_partial}
use Rattle.kmem_model.specs.CacheEnter.{unmarked, enter}
use Rattle.kmem_model.specs.Settle.{Stage, Course, said_at, scanned, gains, is_open_slab, is_rest_marked, is_done, with_scan, scanned_in, settled_in}
use Rattle.kmem_model.specs.SettleWhole.{IsWholeSlab, IsWhole, IsWholeStage, enough, IsStuckSlab, IsSettled}
use Rattle.kmem_model.specs.SettleMeasure.{slab_gain, gain, scans_left, is_staying, IsInSettle, scanned_all, settled}
use Rattle.kmem_model.specs.SettleTurns.{with_cache, course_at, IsScanOn}
use Rattle.kmem_model.specs.declared.cache_entry.Said.{Said}
use Rattle.kmem_model.specs.declared.cache_entry.Said.TheVariants.{Yes, No, Later, DontNeed, DontKnow}
use Rattle.kmem_model.specs.declared.cache_entry.CacheEntry.TheVariants.{Forget}

-- The number of gains is bounded

gain_bound : (s : CacheState) → IsWhole s → gain s ≤ 12 * length s.slabs * s.chunks * s.chunks
gain_bound s whole = omega (arith, sum_by-le (slab_gain s.chunks) (12 * s.chunks * s.chunks) s.slabs each)
  where
    each : All (λ slab. slab_gain s.chunks slab ≤ 12 * s.chunks * s.chunks) s.slabs
    each i d below =
        let slab : IsWholeSlab s.chunks (get_or s.slabs i d) = whole.slabs i d below in
        within_bound s.chunks (used (get_or s.slabs i d)) (get_or s.slabs i d).later (is_marked (get_or s.slabs i d)) whole.positive
        (omega (arith, slab.size, count_by-le-length (λ x. x) (get_or s.slabs i d).out)) slab.counted

-- fewer scans are left after one that gained
fewer_left : (stage t : Stage) → IsWhole stage.cache → IsWhole t.cache → AreSameSizes stage.cache t.cache →
    gain stage.cache < gain t.cache → scans_left t < scans_left stage
fewer_left stage t whole later sizes more =
    let bound : 12 * length t.cache.slabs * t.cache.chunks * t.cache.chunks ≡ 12 * length stage.cache.slabs * stage.cache.chunks * stage.cache.chunks =
    ap₂ (λ n c. 12 * n * c * c) sizes.slabs sizes.chunks in
    omega (arith, bound, more, gain_bound stage.cache whole, gain_bound t.cache later)

left_fit : (stage : Stage) → scans_left stage < enough stage
left_fit stage = omega arith

-- Turns

-- the one course or the other
abbrev choose : Bool → Option Course → Option Course → Option Course
choose b x y = elim b [ true ↦ x | false ↦ y ]

turned : (n : ℕ) (course scan : Course) (b : Bool) → scanned course.stage ≡ Some scan → is_done scan ≡ b →
    scanned_in (suc n) course ≡ choose b (Some (with_scan course.moves scan)) (scanned_in n (with_scan course.moves scan))
turned n course scan b e done =
    ap
    (option_and_then
    (λ (c : Course). choose (is_done c) (Some (with_scan course.moves c)) (scanned_in n (with_scan course.moves c))))
    e
    ∙ ap (λ x. choose x (Some (with_scan course.moves scan)) (scanned_in n (with_scan course.moves scan))) done

-- the last scan
pub scanned_last : (n : ℕ) (course scan : Course) → scanned course.stage ≡ Some scan → is_done scan ≡ true →
    scanned_in (suc n) course ≡ Some (with_scan course.moves scan)
scanned_last n course scan e done = turned n course scan true e done

-- one that isn't the last
pub scanned_more : (n : ℕ) (course scan : Course) → scanned course.stage ≡ Some scan → is_done scan ≡ false →
    scanned_in (suc n) course ≡ scanned_in n (with_scan course.moves scan)
scanned_more n course scan e done = turned n course scan false e done

-- any numbers of scans that are enough do the same
scanned_enough : (m n : ℕ) (course : Course) → IsInSettle course.stage → scans_left course.stage < m → scans_left course.stage < n →
    scanned_in m course ≡ scanned_in n course
scanned_enough zero n course inside a b = absurd (omega arith)
scanned_enough (suc m) zero course inside a b = absurd (omega arith)
scanned_enough (suc m) (suc n) course inside a b =
    let (scan, e) = scan_ends course.stage inside.whole in
    let says : IsScanned course.stage scan = scan_says course.stage scan inside e in
    ⊎_elim (λ done. scanned_last m course scan e done ∙ sym (scanned_last n course scan e done))
    (λ more.
    let fewer : scans_left scan.stage < scans_left course.stage =
    fewer_left course.stage scan.stage inside.whole.cache says.inside.whole.cache says.sizes (says.grows more) in
    scanned_more m course scan e more
    ∙ (scanned_enough m n (with_scan course.moves scan) says.inside (omega (arith, fewer)) (omega (arith, fewer))
    ∙ sym (scanned_more n course scan e more)))
    (cases_Bool (is_done scan))

-- enough scans come to an end
scanned_ends : (n : ℕ) (course : Course) → IsInSettle course.stage → scans_left course.stage < n → (r : Course) × (scanned_in n course ≡ Some r)
scanned_ends zero course inside a = absurd (omega arith)
scanned_ends (suc n) course inside a =
    let (scan, e) = scan_ends course.stage inside.whole in
    let says : IsScanned course.stage scan = scan_says course.stage scan inside e in
    ⊎_elim (λ done. (with_scan course.moves scan, scanned_last n course scan e done))
    (λ more.
    let fewer : scans_left scan.stage < scans_left course.stage =
    fewer_left course.stage scan.stage inside.whole.cache says.inside.whole.cache says.sizes (says.grows more) in
    let (r, h) = scanned_ends n (with_scan course.moves scan) says.inside (omega (arith, fewer)) in
    (r, scanned_more n course scan e more ∙ h))
    (cases_Bool (is_done scan))

-- what each scan keeps holds at the end, which is that of a last scan
pub scanned_keeps : (P : Stage → Type 0) →
    ((stage : Stage) (scan : Course) → IsInSettle stage → P stage → scanned stage ≡ Some scan → IsScanned stage scan → P scan.stage) →
    (n : ℕ) (course r : Course) → IsInSettle course.stage → P course.stage → scanned_in n course ≡ Some r →
    IsInSettle r.stage × P r.stage × (is_rest_marked r.stage.cache.slabs ≡ true)
scanned_keeps P step zero course r inside p h = absurd (cc)
scanned_keeps P step (suc n) course r inside p h =
    let (scan, e) = scan_ends course.stage inside.whole in
    let says : IsScanned course.stage scan = scan_says course.stage scan inside e in
    let next : P scan.stage = step course.stage scan inside p e says in
    ⊎_elim
    (λ done.
    let both : Some (with_scan course.moves scan) ≡ Some r = sym (scanned_last n course scan e done) ∙ h in
    let same : with_scan course.moves scan ≡ r = cc in
    subst (λ (c : Course). IsInSettle c.stage × P c.stage × (is_rest_marked c.stage.cache.slabs ≡ true)) same
    (says.inside, next, (and_parts (not (list_any (λ move. gains move.said) scan.moves)) (is_rest_marked scan.stage.cache.slabs) done).1))
    (λ more. scanned_keeps P step n (with_scan course.moves scan) r says.inside next (sym (scanned_more n course scan e more) ∙ h))
    (cases_Bool (is_done scan))

-- more scans that may be made change nothing
scanned_stays : (n k : ℕ) (course r : Course) → scanned_in n course ≡ Some r → scanned_in (n + k) course ≡ Some r
scanned_stays zero k course r h = absurd (cc)
scanned_stays (suc n) k course r h = ap (λ m. scanned_in m course) number ∙ by_scan (λ scan g. scanned_stays n k (with_scan course.moves scan) r g) (scanned course.stage) refl
  where
    number : suc n + k ≡ suc (n + k)
    number = omega arith

    Rest : Type 0
    Rest = (scan : Course) → scanned_in n (with_scan course.moves scan) ≡ Some r → scanned_in (n + k) (with_scan course.moves scan) ≡ Some r

    by_done : Rest → (scan : Course) → scanned course.stage ≡ Some scan → (b : Bool) → is_done scan ≡ b → scanned_in (suc (n + k)) course ≡ Some r
    by_done rest scan e true done = scanned_last (n + k) course scan e done ∙ (sym (scanned_last n course scan e done) ∙ h)
    by_done rest scan e false more =
        scanned_more (n + k) course scan e more
        ∙ rest scan (sym (scanned_more n course scan e more) ∙ h)

    by_scan : Rest → (o : Option Course) → scanned course.stage ≡ o → scanned_in (suc (n + k)) course ≡ Some r
    by_scan rest (Some scan) e = by_done rest scan e (is_done scan) refl
    by_scan rest None e =
        let none : scanned_in (suc n) course ≡ None = ap (option_and_then (λ (c : Course). choose (is_done c) (Some (with_scan course.moves c)) (scanned_in n (with_scan course.moves c)))) e in
        let clash : None ≡ Some r = sym none ∙ h in
        absurd (cc)

-- What is left at the end

count_one : {A : Type 0} (p : A → Bool) (xs : List A) (f : ℕ) (d : A) → ((i : ℕ) → i < length xs → i ≢ f → p (get_or xs i d) ≡ false) → count_by p xs ≤ 1
count_one p [] f d others = omega arith
count_one p (x ∷ xs) zero d others =
    let rest : count_by p xs ≡ 0 = count_from_none p xs
    (λ i e below. ap p (get_or_default xs i e d below) ∙ others (suc i) (omega arith) (λ same. absurd (omega (arith, same)))) in
    let head : cond (p x) 1 0 ≤ 1 = at_most_one (p x) in
    omega (arith, sum_by-cons (λ y. cond (p y) 1 0) x xs)
  where
    at_most_one : (b : Bool) → ◌≤◌ (cond b 1 0) 1
    at_most_one true = omega arith
    at_most_one false = omega arith
count_one p (x ∷ xs) (suc f) d others =
    let rest : count_by p xs ≤ 1 = count_one p xs f d (λ i below apart. others (suc i) (omega arith) (λ same. apart (omega (arith, same)))) in
    let head : ◌≡◌ {A = ℕ} (cond (p x) 1 0) 0 = ap {B = ℕ} (λ b. cond b 1 0) (others 0 (omega arith) (λ same. absurd (omega (arith, same)))) in
    omega (arith, sum_by-cons (λ y. cond (p y) 1 0) x xs)

-- a slab before a marked one is marked
before_marked : (slabs : List SlabState) (f i : ℕ) → comes_before slabs f i ≡ true → is_marked (slab_at slabs i) ≡ true → is_marked (slab_at slabs f) ≡ true
before_marked slabs f i before marked =
    by_mark (is_marked (slab_at slabs f)) (is_marked (slab_at slabs i)) (is_fuller (slab_at slabs f) f (slab_at slabs i) i) before marked
  where
    by_mark : (a b fuller : Bool) → cond a (cond b fuller true) (cond b false fuller) ≡ true → b ≡ true → a ≡ true
    by_mark true b fuller e m = refl
    by_mark false true fuller e m = absurd (cc)
    by_mark false false fuller e m = absurd (cc)

staying_says : (said : Said) → is_staying said ≡ true → (said ≡ No) ⊎ (said ≡ Later)
staying_says Yes e = absurd (cc)
staying_says No e = inl refl
staying_says Later e = inr refl
staying_says DontNeed e = absurd (cc)
staying_says DontKnow e = absurd (cc)

module _ (stage : Stage) (inside : IsInSettle stage) (rest : is_rest_marked stage.cache.slabs ≡ true) where
  abbrev slabs : List SlabState
  slabs = stage.cache.slabs

  others_marked : (i : ℕ) → is_partial (slab_at slabs i) ≡ true → is_the (first_partial slabs) i ≡ false → is_marked (slab_at slabs i) ≡ true
  others_marked i partial other =
      ⊎_elim (λ marked. marked)
      (λ unmarked'.
      absurd
      (both_ways (is_open_slab slabs i)
      (fails_from_none (length slabs) (is_open_slab slabs) (is_none_says (least_below (length slabs) (is_open_slab slabs)) rest) i
      (partial_within slabs i partial))
      (and_from (is_partial (slab_at slabs i) && not (is_marked (slab_at slabs i))) (not (is_the (first_partial slabs) i))
      (and_from (is_partial (slab_at slabs i)) (not (is_marked (slab_at slabs i))) partial (not_from_false (is_marked (slab_at slabs i)) unmarked'))
      (not_from_false (is_the (first_partial slabs) i) other))))
      (cases_Bool (is_marked (slab_at slabs i)))

  stuck_slab : (i : ℕ) → is_marked (slab_at slabs i) ≡ true → IsStuckSlab stage i
  stuck_slab i marked = by_stuck (slab_at slabs i).stuck refl marked
    where
      by_stuck : (o : Option ℕ) → (slab_at slabs i).stuck ≡ o → is_some o ≡ true → IsStuckSlab stage i
      by_stuck None is some = absurd (cc)
      by_stuck (Some k) is some =
          let at : IsMarkAt stage i k = mark_at stage i k inside.whole is in
          record { index = k; marked = is; out = at.out; said = staying_says (said_at stage (i * stage.cache.chunks + k)) (inside.held i k is) }

  partial_left : (count_by is_partial slabs ≤ 1) ⊎ ((i : ℕ) → is_partial (slab_at slabs i) ≡ true → IsStuckSlab stage i)
  partial_left = by_first (first_partial slabs) refl
    where
      -- besides the first one
      other : ℕ → ℕ → Bool
      other f i = is_partial (slab_at slabs i) && not (i == f)

      by_other : (f : ℕ) → first_partial slabs ≡ Some f → (o : Option ℕ) → least_below (length slabs) (other f) ≡ o →
          (count_by is_partial slabs ≤ 1) ⊎ ((i : ℕ) → is_partial (slab_at slabs i) ≡ true → IsStuckSlab stage i)
      by_other f first None is =
          inl
          (count_one is_partial slabs f no_slab
          (λ i below apart.
          ⊎_elim (λ no. no)
          (λ same. absurd (apart (eqb-true i f (not-false (i == f) same))))
          (and_cases (is_partial (slab_at slabs i)) (not (i == f)) (fails_from_none (length slabs) (other f) is i below))))
      by_other f first (Some g) is =
          inr
          (λ i partial.
          ⊎_elim
          (λ the. stuck_slab i (subst (λ n. is_marked (slab_at slabs n) ≡ true) (first_is i the) f_marked))
          (λ apart. stuck_slab i (others_marked i partial apart))
          (cases_Bool (is_the (first_partial slabs) i)))
        where
          first_is : (i : ℕ) → is_the (first_partial slabs) i ≡ true → f ≡ i
          first_is i the = let both : Some f ≡ Some i = sym first ∙ is_the_says (first_partial slabs) i the in cc

          least : IsLeastBelow (length slabs) (other f) g
          least = least_from_some (length slabs) (other f) g is

          g_partial : is_partial (slab_at slabs g) ≡ true
          g_partial = (and_parts (is_partial (slab_at slabs g)) (not (g == f)) least.passes).0

          g_apart : g ≢ f
          g_apart = eqb-false g f (not-true (g == f) (and_parts (is_partial (slab_at slabs g)) (not (g == f)) least.passes).1)

          found : IsForemost (length slabs) (λ n. is_partial (slab_at slabs n)) (comes_before slabs) f
          found = foremost_from_some (length slabs) (λ n. is_partial (slab_at slabs n)) (comes_before slabs) f first

          before : comes_before slabs f g ≡ true
          before = (comes_before-order slabs).total g f g_apart (found.first g (partial_within slabs g g_partial) g_partial)

          g_marked : is_marked (slab_at slabs g) ≡ true
          g_marked =
              others_marked g g_partial
              (⊎_elim (λ the. absurd (g_apart (sym (first_is g the)))) (λ no. no) (cases_Bool (is_the (first_partial slabs) g)))

          f_marked : is_marked (slab_at slabs f) ≡ true
          f_marked = before_marked slabs f g before g_marked

      by_first : (o : Option ℕ) → first_partial slabs ≡ o → (count_by is_partial slabs ≤ 1) ⊎ ((i : ℕ) → is_partial (slab_at slabs i) ≡ true → IsStuckSlab stage i)
      by_first None none =
          inl
          (omega (
            arith,
            count_from_none is_partial slabs
                (λ i d below.
                ap is_partial (get_or_default slabs i d no_slab below)
                ∙ none_passes_from_none (length slabs) (λ n. is_partial (slab_at slabs n)) (comes_before slabs) (comes_before-order slabs) none i below),
          ))
      by_first (Some f) first = by_other f first (least_below (length slabs) (other f)) refl

  pub settled_is : IsSettled stage
  settled_is =
      record {
        calm = inside.whole.calm;
        none_dead = inside.whole.cache.dead inside.whole.calm;
        partial = partial_left;
      }

-- Settle

pub forget_slab : (s : CacheState) (i : ℕ) → slab_at (map unmarked s.slabs) i ≡ unmarked (slab_at s.slabs i)
forget_slab s i = get_or-map_default unmarked s.slabs i no_slab

-- after every mark is forgotten
pub forget_inside : (stage : Stage) (t : CacheState) → IsWholeStage stage → enter stage.cache Forget ≡ Some t → IsInSettle (with_cache stage t)
forget_inside stage t whole e =
    subst (λ x. IsInSettle (with_cache stage x)) same
    (record {
      whole =
          record {
            cache = enter_whole stage.cache cleared Forget whole.cache refl;
            calm = whole.calm;
            says = whole.says ∙ ap (λ n. n * stage.cache.chunks) (sym sizes.slabs);
            known = λ b.
                whole.known b
                ∙ ap (λ (slab : SlabState). is_out_on slab (b % stage.cache.chunks)) (sym (forget_slab stage.cache (b / stage.cache.chunks)));
          };
      held = λ i k h. absurd (none_some k (ap (λ (slab : SlabState). slab.stuck) (sym (forget_slab stage.cache i)) ∙ h));
    })
  where
    cleared : CacheState
    cleared = record stage.cache { slabs = map unmarked stage.cache.slabs }

    same : cleared ≡ t
    same = cc

    sizes : AreSameSizes stage.cache cleared
    sizes = enter_sizes stage.cache cleared Forget refl

    none_some : (k : ℕ) → None ≡ Some k → ⊥
    none_some k h = cc

pub settled_from : (n : ℕ) (stage : Stage) (t : CacheState) → enter stage.cache Forget ≡ Some t →
    settled_in n stage ≡ scanned_in n (course_at (with_cache stage t))
settled_from n stage t e = ap (λ o. option_and_then (λ course. scanned_in n course) (option_map (λ cache. course_at (with_cache stage cache)) o)) e

-- settle ends
pub settle_ends : (stage : Stage) → IsWholeStage stage → is_some (settled_in (enough stage) stage) ≡ true
settle_ends stage whole =
    let (r, e) = scanned_ends (enough stage) (course_at (with_cache stage (cleared stage))) inside fits in
    ap is_some (settled_from (enough stage) stage (cleared stage) refl ∙ e)
  where
    cleared : Stage → CacheState
    cleared stage = record stage.cache { slabs = map unmarked stage.cache.slabs }

    inside : IsInSettle (with_cache stage (cleared stage))
    inside = forget_inside stage (cleared stage) whole refl

    fits : scans_left (with_cache stage (cleared stage)) < enough stage
    fits =
        let sizes : AreSameSizes stage.cache (cleared stage) = enter_sizes stage.cache (cleared stage) Forget refl in
        let same : enough (with_cache stage (cleared stage)) ≡ enough stage = ap {B = ℕ} (λ n. 12 * n * stage.cache.chunks * stage.cache.chunks + 1) sizes.slabs in
        omega (arith, same, left_fit (with_cache stage (cleared stage)))

-- what settle keeps and leaves
pub settle_keeps : (P : Stage → Type 0) →
    ((stage : Stage) (scan : Course) → IsInSettle stage → P stage → scanned stage ≡ Some scan → IsScanned stage scan → P scan.stage) →
    (n : ℕ) (stage : Stage) (result : Course) → IsWholeStage stage → P (with_cache stage (record stage.cache { slabs = map unmarked stage.cache.slabs })) →
    settled_in n stage ≡ Some result → IsInSettle result.stage × P result.stage × (is_rest_marked result.stage.cache.slabs ≡ true)
settle_keeps P step n stage result whole p e =
    scanned_keeps P step n (course_at (with_cache stage cleared)) result (forget_inside stage cleared whole refl) p
    (sym (settled_from n stage cleared refl) ∙ e)
  where
    cleared : CacheState
    cleared = record stage.cache { slabs = map unmarked stage.cache.slabs }

pub settle_leaves : (n : ℕ) (stage : Stage) (result : Course) → IsWholeStage stage → settled_in n stage ≡ Some result →
    IsWholeStage result.stage × IsSettled result.stage
settle_leaves n stage result whole e =
    let (inside, nothing, rest) = settle_keeps (λ t. Unit {0}) (λ t scan old p h says. tt) n stage result whole tt e in
    (inside.whole, settled_is result.stage inside rest)

pub settle_stays : (n k : ℕ) (stage : Stage) (result : Course) → settled_in n stage ≡ Some result → settled_in (n + k) stage ≡ Some result
settle_stays n k stage result e =
    settled_from (n + k) stage cleared refl
    ∙ scanned_stays n k (course_at (with_cache stage cleared)) result (sym (settled_from n stage cleared refl) ∙ e)
  where
    cleared : CacheState
    cleared = record stage.cache { slabs = map unmarked stage.cache.slabs }

-- The laws of settle's loop

pub forget_starts : (stage : Stage) (t : CacheState) → enter stage.cache Forget ≡ Some t → settled stage ≡ scanned_all (course_at (with_cache stage t))
forget_starts stage t e =
    settled_from (enough stage) stage t e
    ∙ ap₂ (λ n c. scanned_in (12 * n * c * c + 1) (course_at (with_cache stage t))) (sym sizes.slabs) (sym sizes.chunks)
  where
    sizes : AreSameSizes stage.cache t
    sizes = enter_sizes stage.cache t Forget e

pub scan_is_last : (course scan : Course) → scanned course.stage ≡ Some scan → is_done scan ≡ true →
    scanned_all course ≡ Some (with_scan course.moves scan)
scan_is_last course scan e done =
    ap (λ n. scanned_in n course) (add-one (12 * length course.stage.cache.slabs * course.stage.cache.chunks * course.stage.cache.chunks))
    ∙ scanned_last (12 * length course.stage.cache.slabs * course.stage.cache.chunks * course.stage.cache.chunks) course scan e done

pub scan_goes_on : (course scan : Course) → IsInSettle course.stage → scanned course.stage ≡ Some scan → is_done scan ≡ false →
    IsScanOn course (with_scan course.moves scan)
scan_goes_on course scan inside e more =
    record {
      inside = says.inside;
      fewer = fewer;
      same =
          scanned_enough (enough scan.stage) most (with_scan course.moves scan) says.inside (left_fit scan.stage)
          (omega (arith, fewer, left_fit course.stage))
          ∙ (sym (scanned_more most course scan e more) ∙ sym (ap (λ n. scanned_in n course) (add-one most)));
    }
  where
    most : ℕ
    most = 12 * length course.stage.cache.slabs * course.stage.cache.chunks * course.stage.cache.chunks

    says : IsScanned course.stage scan
    says = scan_says course.stage scan inside e

    fewer : scans_left scan.stage < scans_left course.stage
    fewer = fewer_left course.stage scan.stage inside.whole.cache says.inside.whole.cache says.sizes (says.grows more)
