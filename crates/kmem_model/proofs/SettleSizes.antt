-- Settle leaves as many slabs and buffers as there were.
use Rattle.std.proofs.Common.{◌≡◌, ℕ, zero, suc, ◌+◌, ◌++◌, Bool, true, false, cond, [], ◌∷◌, length, Some, is_none, option_and_then, option_map, subst}
use Rattle.kmem_model.proofs.CacheChoices.{map_says}
use Rattle.kmem_model.proofs.PlacesKept.{and_then_says}
use Rattle.kmem_model.proofs.SettleWhole.{AreSameSizes, same_sizes, sizes_on, enter_sizes}
use Rattle.kmem_model.specs.CacheState.{CacheState}
use Rattle.kmem_model.specs.CacheEnter.{enter}
use Rattle.kmem_model.specs.declared.cache_entry.CacheEntry.TheVariants.{Scan, Begin, End, Forget}
use Rattle.kmem_model.specs.Settle.{Stage, EndedMove, Course, next_move, says_after, cache_after_move, after_move, one_move_on, moved_in, moved, scan_begun, scanned, is_done, with_scan, scanned_in, forgotten, settled_in}

-- one move
move_sizes : (s t : CacheState) (move : EndedMove) → cache_after_move s move ≡ Some t → AreSameSizes s t
move_sizes s t move e =
    let (begun, e1, e2) = and_then_says (λ begun. enter begun (End 0 move.said)) (enter s (Begin 0 move.from move.to)) t e in
    sizes_on s begun t (enter_sizes s begun (Begin 0 move.from move.to) e1) (enter_sizes begun t (End 0 move.said) e2)

on_sizes : (course next : Course) → one_move_on course ≡ Some next → AreSameSizes course.stage.cache next.stage.cache
on_sizes course next e =
    let (move, e1, e2) = and_then_says (λ move. option_map (λ stage. record { stage = stage; moves = course.moves ++ move ∷ [] }) (after_move course.stage move)) (next_move course.stage) next e in
    let (stage, f1, f2) = map_says (λ stage. record { stage = stage; moves = course.moves ++ move ∷ [] }) (after_move course.stage move) next e2 in
    let (cache, g1, g2) = map_says (λ cache. record { cache = cache; says = says_after move.said move.from move.to course.stage.says }) (cache_after_move course.stage.cache move) stage f1 in
    subst (λ (c : Course). AreSameSizes course.stage.cache c.stage.cache) f2 (subst (λ (t : Stage). AreSameSizes course.stage.cache t.cache) g2 (move_sizes course.stage.cache cache move g1))

moved_sizes : (n : ℕ) (course next : Course) → moved_in n course ≡ Some next → AreSameSizes course.stage.cache next.stage.cache
moved_sizes zero course next e = absurd (cc)
moved_sizes (suc n) course next e = by_idle (λ on f. moved_sizes n on next f) (is_none (next_move course.stage)) e
  where
    by_idle : ((on : Course) → moved_in n on ≡ Some next → AreSameSizes on.stage.cache next.stage.cache) → (b : Bool) → cond b (Some course) (option_and_then (λ on. moved_in n on) (one_move_on course)) ≡ Some next → AreSameSizes course.stage.cache next.stage.cache
    by_idle rest true e = let same : course ≡ next = cc in subst (λ (c : Course). AreSameSizes course.stage.cache c.stage.cache) same (same_sizes course.stage.cache)
    by_idle rest false e =
        let (on, e1, e2) = and_then_says (λ on. moved_in n on) (one_move_on course) next e in
        sizes_on course.stage.cache on.stage.cache next.stage.cache (on_sizes course on e1) (rest on e2)

-- one scan
scan_sizes : (stage : Stage) (scan : Course) → scanned stage ≡ Some scan → AreSameSizes stage.cache scan.stage.cache
scan_sizes stage scan e =
    let (begun, e1, e2) = and_then_says moved (scan_begun stage) scan e in
    let (cache, f1, f2) = map_says (λ cache. record { stage = record stage { cache = cache }; moves = [] }) (enter stage.cache (Scan true)) begun e1 in
    sizes_on stage.cache begun.stage.cache scan.stage.cache
    (subst (λ (c : Course). AreSameSizes stage.cache c.stage.cache) f2 (enter_sizes stage.cache cache (Scan true) f1))
    (moved_sizes (length begun.stage.cache.asked + 1) begun scan e2)

scans_sizes : (n : ℕ) (course next : Course) → scanned_in n course ≡ Some next → AreSameSizes course.stage.cache next.stage.cache
scans_sizes zero course next e = absurd (cc)
scans_sizes (suc n) course next e =
    let (scan, e1, e2) = and_then_says (λ scan. elim (is_done scan) [ true ↦ Some (with_scan course.moves scan) | false ↦ scanned_in n (with_scan course.moves scan) ]) (scanned course.stage) next e in
    sizes_on course.stage.cache scan.stage.cache next.stage.cache (scan_sizes course.stage scan e1) (by_done scan (λ f. scans_sizes n (with_scan course.moves scan) next f) (is_done scan) e2)
  where
    by_done : (scan : Course) → (scanned_in n (with_scan course.moves scan) ≡ Some next → AreSameSizes scan.stage.cache next.stage.cache) → (b : Bool) → elim b [ true ↦ Some (with_scan course.moves scan) | false ↦ scanned_in n (with_scan course.moves scan) ] ≡ Some next → AreSameSizes scan.stage.cache next.stage.cache
    by_done scan rest true e = let same : with_scan course.moves scan ≡ next = cc in subst (λ (c : Course). AreSameSizes scan.stage.cache c.stage.cache) same (same_sizes scan.stage.cache)
    by_done scan rest false e = rest e

pub settled_sizes : (n : ℕ) (stage : Stage) (course : Course) → settled_in n stage ≡ Some course → AreSameSizes stage.cache course.stage.cache
settled_sizes n stage course e =
    let (begun, e1, e2) = and_then_says (λ begun. scanned_in n begun) (forgotten stage) course e in
    let (cache, f1, f2) = map_says (λ cache. record { stage = record stage { cache = cache }; moves = [] }) (enter stage.cache Forget) begun e1 in
    sizes_on stage.cache begun.stage.cache course.stage.cache
    (subst (λ (c : Course). AreSameSizes stage.cache c.stage.cache) f2 (enter_sizes stage.cache cache Forget f1))
    (scans_sizes n begun course e2)
