-- One move of settle: what it takes, and the slabs that it leaves.
use Rattle.std.proofs.Common.{◌≡◌, ◌≢◌, ℕ, ◌+◌, ◌*◌, ◌/◌, ◌%◌, ◌<◌, ◌==◌, ◌&&◌, not, Bool, true, false, cond, List, [], ◌∷◌, map, length, get_or, set, All, count_by, Option, Some, None, is_some, is_none, option_map, option_and_then, ⊎_elim, sym, ◌∙◌, ap, ap₂, refl, subst, arith}
use Rattle.std.proofs.lemmas.Bool.{cond-false}
use Rattle.std.specs.List.{list_any}
use Rattle.std.specs.Bool.{then_some}
use Rattle.std.proofs.lemmas.Bool.{cases_Bool, both_ways, and_parts, and_from, or_parts, not-true, not_from_false, eq-eqb, ne_eqb}
use Rattle.std.proofs.lemmas.List.{get_or-set_same, get_or-set_other, set-set, set_comm, set-get_or, map-set, length-set}
use Rattle.std.proofs.lemmas.List.Elements.{All-set}
use Rattle.std.proofs.lemmas.List.Folds.{list_any_at, map_fixed}
use Rattle.std.proofs.lemmas.Nat.{div-mul-add, mod-mul-add}
use Rattle.kmem_model.proofs.CacheLists.{reads_within, count_from_none}
use Rattle.kmem_model.proofs.PlacesKept.{and_then_says}
use Rattle.kmem_model.proofs.CacheChoices.{map_says, is_the_says, partial_listed, partial_within, reclaimable_partial}
use Rattle.kmem_model.proofs.CacheSearch.{least_from_some, some_from_least, foremost_from_some}
use Rattle.kmem_model.proofs.CacheRanks.{comes_before-order}
use Rattle.kmem_model.proofs.SettleWhole.{HasGoodMarks, whole_marks}
use Rattle.kmem_model.specs.CacheState.{SlabState, CacheState, is_same_standing, no_slab, slab_at, is_listed, is_dead, used, is_out_on, is_out, move_at, has_pending, pending_count}
use Rattle.kmem_model.specs.CacheOrder.{foremost, IsLeastBelow, IsForemost, is_the, is_partial, comes_before, first_partial, least_free, first_partial_free, is_reclaimable, can_move, least_to_move, is_left_out, chosen, free_number, is_at_limit, is_idle}
use Rattle.kmem_model.specs.CacheEnter.{slab_taken, slab_freed, slab_given_back, slab_answered, on_slab_of, with_move, emptied_goes, freed, all_freed, handed_back, without_move, with_answer, may_begin, ended, enter}
use Rattle.kmem_model.specs.Settle.{cache_after_move}
use Rattle.kmem_model.specs.SettleWhole.{IsWhole}
use Rattle.kmem_model.specs.declared.cache_state.Standing.{Standing}
use Rattle.kmem_model.specs.declared.cache_state.Standing.TheVariants.{Source, Listed, Dead}
use Rattle.kmem_model.specs.declared.cache_state.PendingMove.{PendingMove}
use Rattle.kmem_model.specs.declared.cache_entry.Said.{Said}
use Rattle.kmem_model.specs.declared.cache_entry.Said.TheVariants.{Yes, No, Later, DontNeed, DontKnow}
use Rattle.kmem_model.specs.declared.cache_entry.CacheEntry.TheVariants.{Begin, End}

-- Nothing pending

none_pending : (xs : List (Option PendingMove)) → list_any is_some xs ≡ false → (i : ℕ) (d : Option PendingMove) → i < length xs →
    is_some (get_or xs i d) ≡ false
none_pending xs calm i d below =
    ⊎_elim (λ some. absurd (both_ways (list_any is_some xs) calm (list_any_at is_some xs i d below some))) (λ none. none)
    (cases_Bool (is_some (get_or xs i d)))

some_not : (o : Option PendingMove) → is_some o ≡ false → o ≡ None
some_not None e = refl
some_not (Some x) e = absurd (cc)

-- What a choice takes

-- the next move takes buffer kx of slab x to buffer kf of the first partial slab f
pub record IsChoice (s : CacheState) (from to x kx f kf : ℕ) : Type 0 where
  pub from_is : x * s.chunks + kx ≡ from
  pub to_is : f * s.chunks + kf ≡ to
  pub from_within : kx < length (slab_at s.slabs x).out
  pub to_within : kf < length (slab_at s.slabs f).out
  pub from_partial : is_partial (slab_at s.slabs x) ≡ true
  pub to_partial : is_partial (slab_at s.slabs f) ≡ true
  pub first : first_partial s.slabs ≡ Some f
  pub apart : x ≢ f
  pub before : comes_before s.slabs f x ≡ true
  pub out : is_out_on (slab_at s.slabs x) kx ≡ true
  pub free : is_out_on (slab_at s.slabs f) kf ≡ false
  pub not_asked : get_or s.asked from false ≡ false

-- the numbers of a choice
pub record Chosen (s : CacheState) (from to : ℕ) : Type 0 where
  pub x : ℕ
  pub kx : ℕ
  pub f : ℕ
  pub kf : ℕ
  pub choice : IsChoice s from to x kx f kf

pub choice_says : (s : CacheState) (from to : ℕ) → chosen s ≡ Some from → first_partial_free s.chunks s.slabs ≡ Some to → Chosen s from to
choice_says s from to old new =
    let (f, first, g) = and_then_says (λ i. option_map (λ k. i * s.chunks + k) (least_free (slab_at s.slabs i))) (first_partial s.slabs) to new in
    let (kf, least, to_is) = map_says (λ k. f * s.chunks + k) (least_free (slab_at s.slabs f)) to g in
    let (x, last, h) = and_then_says
    (λ i. option_map (λ k. i * s.chunks + k) (least_to_move s.chunks s.numerator s.mode (is_left_out s) s.slabs i))
    (foremost (length s.slabs) (λ i. is_some (least_to_move s.chunks s.numerator s.mode (is_left_out s) s.slabs i)) (λ j i. comes_before s.slabs i j))
    from old in
    let (kx, found, from_is) = map_says (λ k. x * s.chunks + k) (least_to_move s.chunks s.numerator s.mode (is_left_out s) s.slabs x) from h in
    let foremost : IsForemost (length s.slabs) (λ n. is_partial (slab_at s.slabs n)) (comes_before s.slabs) f =
    foremost_from_some (length s.slabs) (λ n. is_partial (slab_at s.slabs n)) (comes_before s.slabs) f first in
    let free : IsLeastBelow (length (slab_at s.slabs f).out) (λ n. not (is_out_on (slab_at s.slabs f) n)) kf =
    least_from_some (length (slab_at s.slabs f).out) (λ n. not (is_out_on (slab_at s.slabs f) n)) kf least in
    let can : IsLeastBelow (length (slab_at s.slabs x).out) (can_move s.chunks s.numerator s.mode (is_left_out s) s.slabs x) kx =
    least_from_some (length (slab_at s.slabs x).out) (can_move s.chunks s.numerator s.mode (is_left_out s) s.slabs x) kx found in
    let parts = and_parts (is_reclaimable s.chunks s.numerator s.mode (slab_at s.slabs x) && not (is_the (first_partial s.slabs) x) && is_out_on (slab_at s.slabs x) kx)
    (not (is_left_out s (x * s.chunks + kx))) can.passes in
    let more = and_parts (is_reclaimable s.chunks s.numerator s.mode (slab_at s.slabs x) && not (is_the (first_partial s.slabs) x)) (is_out_on (slab_at s.slabs x) kx) parts.0 in
    let most = and_parts (is_reclaimable s.chunks s.numerator s.mode (slab_at s.slabs x)) (not (is_the (first_partial s.slabs) x)) more.0 in
    let partial : is_partial (slab_at s.slabs x) ≡ true = reclaimable_partial s.chunks s.numerator s.mode (slab_at s.slabs x) most.0 in
    let apart : x ≢ f = λ same.
    both_ways (is_the (first_partial s.slabs) x) (not-true _ most.1) (ap (λ o. is_the o x) first ∙ eq-eqb f x (sym same)) in
    record {
      x = x;
      kx = kx;
      f = f;
      kf = kf;
      choice =
          record {
            from_is = from_is;
            to_is = to_is;
            from_within = can.below;
            to_within = free.below;
            from_partial = partial;
            to_partial = foremost.passes;
            first = first;
            apart = apart;
            before = (comes_before-order s.slabs).total x f apart (foremost.first x (partial_within s.slabs x partial) partial);
            out = more.1;
            free = not-true (is_out_on (slab_at s.slabs f) kf) free.passes;
            not_asked = subst (λ b. get_or s.asked b false ≡ false) from_is (or_parts _ _ (not-true _ parts.1)).0;
          };
    }

-- Slabs

-- what a taken slab is, where it is listed
pub taken_is : (slab : SlabState) (k : ℕ) → is_listed slab ≡ true → slab_taken slab k ≡ record slab { out = set slab.out k true }
taken_is slab k listed = ap (λ (b : Bool). let base = cond b slab (record { standing = Listed; out = slab.out; later = 0; stuck = None }) in record base { out = set base.out k true }) listed

not_stuck : (slab : SlabState) (k : ℕ) → HasGoodMarks slab → is_out_on slab k ≡ false → is_the slab.stuck k ≡ false
not_stuck slab k good free =
    ⊎_elim (λ is. absurd (both_ways (is_out_on slab k) free (good.stuck_out k (is_the_says slab.stuck k is)))) (λ no. no)
    (cases_Bool (is_the slab.stuck k))

-- a buffer that is taken and freed again leaves a partial slab as it was
pub freed_again : (slab : SlabState) (k : ℕ) (emptied : Standing) → HasGoodMarks slab → is_listed slab ≡ true → 0 < used slab →
    is_out_on slab k ≡ false → slab_freed emptied (slab_taken slab k) k ≡ slab
freed_again slab k emptied good listed some free =
    ap (λ x. slab_freed emptied x k) (taken_is slab k listed)
    ∙ ap (λ o. put o) outs
    ∙ (cond-false (count_by (λ x. x) slab.out == 0) _ _ (ne_eqb (count_by (λ x. x) slab.out) 0 (λ none. omega (arith, none)))
    ∙ cond-false (is_the slab.stuck k) _ _ (not_stuck slab k good free))
  where
    outs : set (set slab.out k true) k false ≡ slab.out
    outs = set-set slab.out k true false ∙ (ap (λ x. set slab.out k x) (sym free) ∙ set-get_or slab.out k false)

    put : List Bool → SlabState
    put o =
        cond (count_by (λ x. x) o == 0) (record { standing = emptied; out = o; later = 0; stuck = None })
        (cond (is_the slab.stuck k) (record { standing = slab.standing; out = o; later = 0; stuck = None }) (record slab { out = o }))

-- a slab that isn't dead stays as it is when dead ones are given back
given_back_stays : (slab : SlabState) → is_dead slab ≡ false → slab_given_back slab ≡ slab
given_back_stays slab alive = cond-false (is_dead slab) (record slab { standing = Source }) slab alive

-- a listed slab that is emptied while a move is pending is given back as if none were
given_back_freed : (slab : SlabState) (k : ℕ) → is_listed slab ≡ true → slab_given_back (slab_freed Dead slab k) ≡ slab_freed Source slab k
given_back_freed slab k listed = by_count (count_by (λ x. x) out == 0) (is_the slab.stuck k)
  where
    out : List Bool
    out = set slab.out k false

    alive : is_dead slab ≡ false
    alive = by_standing slab.standing refl
      where
        by_standing : (standing : Standing) → slab.standing ≡ standing → is_same_standing Dead standing ≡ false
        by_standing Source is = refl
        by_standing Listed is = refl
        by_standing Dead is = absurd (both_ways (is_listed slab) (ap (is_same_standing Listed) is) listed)

    by_count : (b c : Bool) →
        slab_given_back
        (cond b (record { standing = Dead; out = out; later = 0; stuck = None })
        (cond c (record { standing = slab.standing; out = out; later = 0; stuck = None }) (record slab { out = out })))
        ≡ cond b (record { standing = Source; out = out; later = 0; stuck = None })
        (cond c (record { standing = slab.standing; out = out; later = 0; stuck = None }) (record slab { out = out }))
    by_count true c = refl
    by_count false true = given_back_stays (record { standing = slab.standing; out = out; later = 0; stuck = None }) alive
    by_count false false = given_back_stays (record slab { out = out }) alive

pub listed_alive : (slab : SlabState) → is_listed slab ≡ true → is_dead slab ≡ false
listed_alive slab listed = by_standing slab.standing refl
  where
    by_standing : (standing : Standing) → slab.standing ≡ standing → is_same_standing Dead standing ≡ false
    by_standing Source is = refl
    by_standing Listed is = refl
    by_standing Dead is = absurd (both_ways (is_listed slab) (ap (is_same_standing Listed) is) listed)

-- an answer doesn't change where a slab stands, nor what is out on it
pub answered_standing : (said : Said) (slab : SlabState) (k : ℕ) → (slab_answered said slab k).standing ≡ slab.standing
answered_standing Yes slab k = refl
answered_standing No slab k = refl
answered_standing Later slab k = refl
answered_standing DontNeed slab k = refl
answered_standing DontKnow slab k = refl

pub answered_out : (said : Said) (slab : SlabState) (k : ℕ) → (slab_answered said slab k).out ≡ slab.out
answered_out Yes slab k = refl
answered_out No slab k = refl
answered_out Later slab k = refl
answered_out DontNeed slab k = refl
answered_out DontKnow slab k = refl

-- the slabs that a move leaves
abbrev pub slabs_after : Said → List SlabState → ℕ → ℕ → ℕ → ℕ → List SlabState
slabs_after Yes xs x kx f kf = set (set xs f (slab_taken (slab_at xs f) kf)) x (slab_freed Source (slab_at xs x) kx)
slabs_after No xs x kx f kf = set xs x (slab_answered No (slab_at xs x) kx)
slabs_after Later xs x kx f kf = set xs x (slab_answered Later (slab_at xs x) kx)
slabs_after DontNeed xs x kx f kf = set xs x (slab_freed Source (slab_at xs x) kx)
slabs_after DontKnow xs x kx f kf = set xs x (slab_answered DontKnow (slab_at xs x) kx)

-- the cache that a move leaves, with these slabs
abbrev pub moved_on : CacheState → ℕ → ℕ → List SlabState → CacheState
moved_on s from to xs = record s { slabs = xs; begun = true; asked = set (set s.asked from true) to true }

module _ (s : CacheState) (whole : IsWhole s) (calm : has_pending s ≡ false) where
  pub no_move_at : (j : ℕ) → move_at s j ≡ None
  no_move_at j =
      ⊎_elim
      (λ some. absurd
      (both_ways (is_some (move_at s j)) (none_pending s.pending calm j None (reads_within s.pending j None is_some refl some)) some))
      (λ none. some_not (move_at s j) none)
      (cases_Bool (is_some (move_at s j)))

  pub free_number_zero : free_number s ≡ Some 0
  free_number_zero =
      some_from_least (length s.pending) (λ j. is_none (move_at s j)) 0
      (record { below = whole.limit; passes = ap is_none (no_move_at 0); least = λ j below. absurd (omega arith) })

  pub not_at_limit : is_at_limit s ≡ false
  not_at_limit =
      let none : pending_count s ≡ 0 = count_from_none is_some s.pending (none_pending s.pending calm) in
      ne_eqb (pending_count s) (length s.pending) (λ same. omega (arith, whole.limit))

  none_dead : All (λ slab. is_dead slab ≡ false) s.slabs
  none_dead = whole.dead calm

  module _ (from to x kx f kf : ℕ) (choice : IsChoice s from to x kx f kf) where
    abbrev X : SlabState
    X = slab_at s.slabs x

    abbrev F : SlabState
    F = slab_at s.slabs f

    abbrev m : PendingMove
    m = record { from = from; to = to }

    -- the cache while the move is pending, with these slabs
    abbrev in_move : List SlabState → CacheState
    in_move xs =
        record s {
          slabs = xs;
          begun = true;
          asked = set (set s.asked from true) to true;
          pending = set s.pending 0 (Some m);
        }

    x_below : x < length s.slabs
    x_below = partial_within s.slabs x choice.from_partial

    f_below : f < length s.slabs
    f_below = partial_within s.slabs f choice.to_partial

    x_listed : is_listed X ≡ true
    x_listed = ap (is_same_standing Listed) (partial_listed X choice.from_partial)

    f_listed : is_listed F ≡ true
    f_listed = ap (is_same_standing Listed) (partial_listed F choice.to_partial)

    x_size : length X.out ≡ s.chunks
    x_size = (whole.slabs x no_slab x_below).size

    f_size : length F.out ≡ s.chunks
    f_size = (whole.slabs f no_slab f_below).size

    pub from_row : from / s.chunks ≡ x
    from_row = ap (λ b. b / s.chunks) (sym choice.from_is) ∙ div-mul-add x s.chunks kx (omega (arith, x_size, choice.from_within))

    pub from_index : from % s.chunks ≡ kx
    from_index = ap (λ b. b % s.chunks) (sym choice.from_is) ∙ mod-mul-add x s.chunks kx (omega (arith, x_size, choice.from_within))

    pub to_row : to / s.chunks ≡ f
    to_row = ap (λ b. b / s.chunks) (sym choice.to_is) ∙ div-mul-add f s.chunks kf (omega (arith, f_size, choice.to_within))

    pub to_index : to % s.chunks ≡ kf
    to_index = ap (λ b. b % s.chunks) (sym choice.to_is) ∙ mod-mul-add f s.chunks kf (omega (arith, f_size, choice.to_within))

    -- the slabs once the new buffer is taken
    abbrev begun_slabs : List SlabState
    begun_slabs = set s.slabs f (slab_taken F kf)

    begin_is : is_idle s ≡ false → chosen s ≡ Some from → first_partial_free s.chunks s.slabs ≡ Some to →
        enter s (Begin 0 from to) ≡ Some (in_move begun_slabs)
    begin_is busy old new =
        ap (λ b. then_some b (with_move s 0 m)) legal
        ∙ ap₂ (λ i k. Some (in_move (set s.slabs i (slab_taken (slab_at s.slabs i) k)))) to_row to_index
      where
        is_the_some : (o : Option ℕ) (n : ℕ) → o ≡ Some n → is_the o n ≡ true
        is_the_some o n e = ap (λ p. is_the p n) e ∙ eq-eqb n n refl

        legal : may_begin s 0 m ≡ true
        legal =
            and_from (not (is_idle s) && is_the (free_number s) 0 && is_the (chosen s) from) (is_the (first_partial_free s.chunks s.slabs) to)
            (and_from (not (is_idle s) && is_the (free_number s) 0) (is_the (chosen s) from)
            (and_from (not (is_idle s)) (is_the (free_number s) 0) (not_from_false (is_idle s) busy)
            (is_the_some (free_number s) 0 free_number_zero))
            (is_the_some (chosen s) from old))
            (is_the_some (first_partial_free s.chunks s.slabs) to new)

    pending_in : (xs : List SlabState) → has_pending (in_move xs) ≡ true
    pending_in xs =
        list_any_at is_some (set s.pending 0 (Some m)) 0 None (omega (arith, whole.limit, length-set s.pending 0 (Some m)))
        (ap is_some (get_or-set_same s.pending 0 (Some m) None whole.limit))

    -- a buffer is freed while the move is pending
    freed_in : (xs : List SlabState) (b r k : ℕ) → b / s.chunks ≡ r → b % s.chunks ≡ k → is_out_on (slab_at xs r) k ≡ true →
        freed (in_move xs) b ≡ Some (in_move (set xs r (slab_freed Dead (slab_at xs r) k)))
    freed_in xs b r k row index out =
        ap (λ t. then_some t (on_slab_of (in_move xs) b (slab_freed (emptied_goes (in_move xs)))))
        (ap₂ (λ i n. is_out_on (slab_at xs i) n) row index ∙ out)
        ∙ (ap (λ t. Some (on_slab_of (in_move xs) b (slab_freed (cond t Dead Source)))) (pending_in xs)
        ∙ ap₂ (λ i n. Some (in_move (set xs i (slab_freed Dead (slab_at xs i) n)))) row index)

    -- an answer is taken while the move is pending
    answer_in : (xs : List SlabState) (said : Said) → is_out_on (slab_at xs x) kx ≡ true →
        with_answer (in_move xs) from said ≡ in_move (set xs x (slab_answered said (slab_at xs x) kx))
    answer_in xs said out =
        ap (λ t. cond t (on_slab_of (in_move xs) from (slab_answered said)) (in_move xs))
        (ap₂ (λ i n. is_out_on (slab_at xs i) n) from_row from_index ∙ out)
        ∙ ap₂ (λ i n. in_move (set xs i (slab_answered said (slab_at xs i) n))) from_row from_index

    -- the answers that leave nothing there
    answer_nothing : (xs : List SlabState) (said : Said) → ((slab : SlabState) (k : ℕ) → slab_answered said slab k ≡ slab) →
        with_answer (in_move xs) from said ≡ in_move xs
    answer_nothing xs said none = by_out (is_out (in_move xs) from)
      where
        i : ℕ
        i = from / s.chunks

        same : set xs i (slab_answered said (slab_at xs i) (from % s.chunks)) ≡ xs
        same = ap (set xs i) (none (slab_at xs i) (from % s.chunks)) ∙ set-get_or xs i no_slab

        by_out : (b : Bool) → cond b (on_slab_of (in_move xs) from (slab_answered said)) (in_move xs) ≡ in_move xs
        by_out true = ap in_move same
        by_out false = refl

    -- the move is pending no more
    without_in : (xs : List SlabState) → without_move (in_move xs) 0 ≡ moved_on s from to (map slab_given_back xs)
    without_in xs =
        ap
        (λ p.
        let next : CacheState = record (in_move xs) { pending = p } in
        cond (has_pending next) next (record next { slabs = map slab_given_back xs }))
        pending
        ∙ cond-false (has_pending s) (moved_on s from to xs) (moved_on s from to (map slab_given_back xs)) calm
      where
        pending : set (set s.pending 0 (Some m)) 0 None ≡ s.pending
        pending =
            set-set s.pending 0 (Some m) None ∙ (ap (set s.pending 0) (sym (no_move_at 0)) ∙ set-get_or s.pending 0 None)

    move_in : (xs : List SlabState) → move_at (in_move xs) 0 ≡ Some m
    move_in xs = get_or-set_same s.pending 0 (Some m) None whole.limit

    -- the move ends, by what is freed and answered
    ended_by : (said : Said) (ys : List SlabState) → all_freed (in_move begun_slabs) (handed_back said m) ≡ Some (in_move ys) →
        (zs : List SlabState) → with_answer (in_move ys) from said ≡ in_move zs → enter (in_move begun_slabs) (End 0 said) ≡ Some (moved_on s from to (map slab_given_back zs))
    ended_by said ys frees zs answers =
        ap (option_and_then (ended (in_move begun_slabs) 0 said)) (move_in begun_slabs)
        ∙ (ap (option_map (λ next. without_move (with_answer next from said) 0)) frees
        ∙ (ap (λ t. Some (without_move t 0)) answers ∙ ap Some (without_in zs)))

    good_at : (i : ℕ) → i < length s.slabs → HasGoodMarks (slab_at s.slabs i)
    good_at i below = whole_marks s whole i no_slab below

    x_at_begun : slab_at begun_slabs x ≡ X
    x_at_begun = get_or-set_other s.slabs f x (slab_taken F kf) no_slab choice.apart

    f_at_begun : slab_at begun_slabs f ≡ slab_taken F kf
    f_at_begun = get_or-set_same s.slabs f (slab_taken F kf) no_slab f_below

    f_used : 0 < used F
    f_used = (whole.slabs f no_slab f_below).listed_out f_listed

    f_again : slab_freed Dead (slab_taken F kf) kf ≡ F
    f_again = freed_again F kf Dead (good_at f f_below) f_listed f_used choice.free

    to_out : is_out_on (slab_taken F kf) kf ≡ true
    to_out =
        ap (λ slab. is_out_on slab kf) (taken_is F kf f_listed)
        ∙ get_or-set_same F.out kf true false choice.to_within

    -- the old buffer stays out when the move begins
    pub out_begun : (begun : CacheState) → is_idle s ≡ false → chosen s ≡ Some from → first_partial_free s.chunks s.slabs ≡ Some to →
        enter s (Begin 0 from to) ≡ Some begun → is_out begun from ≡ true
    out_begun begun busy old new e =
        let both : Some (in_move begun_slabs) ≡ Some begun = sym (begin_is busy old new) ∙ e in
        let same : in_move begun_slabs ≡ begun = cc in
        ap (λ t. is_out t from) (sym same)
        ∙ (ap₂ (λ i n. is_out_on (slab_at begun_slabs i) n) from_row from_index ∙ (ap (λ slab. is_out_on slab kx) x_at_begun ∙ choice.out))

    -- what is given back of slabs of which only one may be dead
    given_back_set : (xs : List SlabState) (i : ℕ) (slab : SlabState) → All (λ y. is_dead y ≡ false) xs →
        map slab_given_back (set xs i slab) ≡ set xs i (slab_given_back slab)
    given_back_set xs i slab alive =
        map-set slab_given_back xs i slab
        ∙ ap (λ ys. set ys i (slab_given_back slab))
        (map_fixed slab_given_back xs (λ j d below. given_back_stays (get_or xs j d) (alive j d below)))

    taken_alive : is_dead (slab_taken F kf) ≡ false
    taken_alive = ap is_dead (taken_is F kf f_listed) ∙ listed_alive F f_listed

    begun_alive : All (λ y. is_dead y ≡ false) begun_slabs
    begun_alive = All-set (λ y. is_dead y ≡ false) s.slabs f (slab_taken F kf) taken_alive none_dead

    -- YES
    ends_yes : enter (in_move begun_slabs) (End 0 Yes) ≡ Some (moved_on s from to (slabs_after Yes s.slabs x kx f kf))
    ends_yes =
        ended_by Yes (set begun_slabs x (slab_freed Dead X kx)) frees (set begun_slabs x (slab_freed Dead X kx))
        (answer_nothing (set begun_slabs x (slab_freed Dead X kx)) Yes (λ slab k. refl))
        ∙ ap (λ ys. Some (moved_on s from to ys))
        (given_back_set begun_slabs x (slab_freed Dead X kx) begun_alive ∙ ap (set begun_slabs x) (given_back_freed X kx x_listed))
      where
        frees : all_freed (in_move begun_slabs) (from ∷ []) ≡ Some (in_move (set begun_slabs x (slab_freed Dead X kx)))
        frees =
            ap (option_and_then (λ next. all_freed next []))
            (freed_in begun_slabs from x kx from_row from_index (ap (λ slab. is_out_on slab kx) x_at_begun ∙ choice.out))
            ∙ ap (λ slab. Some (in_move (set begun_slabs x (slab_freed Dead slab kx)))) x_at_begun

    -- the answers that hand back the new buffer alone
    frees_to : all_freed (in_move begun_slabs) (to ∷ []) ≡ Some (in_move s.slabs)
    frees_to =
        ap (option_and_then (λ next. all_freed next []))
        (freed_in begun_slabs to f kf to_row to_index (ap (λ slab. is_out_on slab kf) f_at_begun ∙ to_out))
        ∙ ap (λ ys. Some (in_move ys))
        (ap (λ slab. set begun_slabs f (slab_freed Dead slab kf)) f_at_begun
        ∙ (ap (set begun_slabs f) f_again ∙ (set-set s.slabs f (slab_taken F kf) F ∙ set-get_or s.slabs f no_slab)))

    ends_stay : (said : Said) → handed_back said m ≡ to ∷ [] →
        enter (in_move begun_slabs) (End 0 said) ≡ Some (moved_on s from to (set s.slabs x (slab_answered said X kx)))
    ends_stay said back =
        ended_by said s.slabs (ap (all_freed (in_move begun_slabs)) back ∙ frees_to) (set s.slabs x (slab_answered said X kx))
        (answer_in s.slabs said choice.out)
        ∙ ap (λ ys. Some (moved_on s from to ys))
        (given_back_set s.slabs x (slab_answered said X kx) none_dead
        ∙ ap (set s.slabs x)
        (given_back_stays (slab_answered said X kx) (ap (is_same_standing Dead) (answered_standing said X kx) ∙ listed_alive X x_listed)))

    -- DONT_NEED
    ends_dont_need : enter (in_move begun_slabs) (End 0 DontNeed) ≡ Some (moved_on s from to (slabs_after DontNeed s.slabs x kx f kf))
    ends_dont_need =
        ended_by DontNeed (set s.slabs x (slab_freed Dead X kx)) frees (set s.slabs x (slab_freed Dead X kx))
        (answer_nothing (set s.slabs x (slab_freed Dead X kx)) DontNeed (λ slab k. refl))
        ∙ ap (λ ys. Some (moved_on s from to ys))
        (given_back_set s.slabs x (slab_freed Dead X kx) none_dead ∙ ap (set s.slabs x) (given_back_freed X kx x_listed))
      where
        Y : SlabState
        Y = slab_freed Dead X kx

        middle : List SlabState
        middle = set begun_slabs x Y

        f_other : f ≢ x
        f_other same = choice.apart (sym same)

        f_at_middle : slab_at middle f ≡ slab_taken F kf
        f_at_middle = get_or-set_other begun_slabs x f Y no_slab f_other ∙ f_at_begun

        lists : set middle f (slab_freed Dead (slab_at middle f) kf) ≡ set s.slabs x Y
        lists =
            ap (λ slab. set middle f (slab_freed Dead slab kf)) f_at_middle
            ∙ (ap (set middle f) f_again
            ∙ (set_comm begun_slabs x f Y F choice.apart
            ∙ ap (λ ys. set ys x Y) (set-set s.slabs f (slab_taken F kf) F ∙ set-get_or s.slabs f no_slab)))

        frees : all_freed (in_move begun_slabs) (from ∷ to ∷ []) ≡ Some (in_move (set s.slabs x Y))
        frees =
            ap (option_and_then (λ next. all_freed next (to ∷ [])))
            (freed_in begun_slabs from x kx from_row from_index (ap (λ slab. is_out_on slab kx) x_at_begun ∙ choice.out)
            ∙ ap (λ slab. Some (in_move (set begun_slabs x (slab_freed Dead slab kx)))) x_at_begun)
            ∙ (ap (option_and_then (λ next. all_freed next []))
            (freed_in middle to f kf to_row to_index (ap (λ slab. is_out_on slab kf) f_at_middle ∙ to_out))
            ∙ ap (λ ys. Some (in_move ys)) lists)

    pub ends_is : (said : Said) → enter (in_move begun_slabs) (End 0 said) ≡ Some (moved_on s from to (slabs_after said s.slabs x kx f kf))
    ends_is Yes = ends_yes
    ends_is No = ends_stay No refl
    ends_is Later = ends_stay Later refl
    ends_is DontNeed = ends_dont_need
    ends_is DontKnow = ends_stay DontKnow refl

    -- a whole move
    pub move_is : (said : Said) → is_idle s ≡ false → chosen s ≡ Some from → first_partial_free s.chunks s.slabs ≡ Some to →
        cache_after_move s (record { from = from; to = to; said = said })
        ≡ Some (moved_on s from to (slabs_after said s.slabs x kx f kf))
    move_is said busy old new =
        ap (option_and_then (λ begun. enter begun (End 0 said))) (begin_is busy old new) ∙ ends_is said
