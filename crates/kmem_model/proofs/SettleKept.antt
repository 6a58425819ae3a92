-- What one move of settle keeps of a stage, and what it gains.
use Rattle.std.proofs.Common.{◌≡◌, ◌≢◌, ℕ, ◌+◌, ◌*◌, ◌/◌, ◌%◌, ◌<◌, ◌==◌, Bool, true, false, cond, List, length, get_or, set, count_by, Option, Some, None, is_some, option_map, option_and_then, inl, inr, ◌⊎◌, ⊎_elim, sym, ◌∙◌, ap, ap₂, refl, subst, arith}
use Rattle.std.specs.Prelude.{sum_by, min}
use Rattle.std.specs.Option.{option_or}
use Rattle.std.proofs.lemmas.Bool.{cond-false, cases_eq, cases_lt, cases_Bool, both_ways, and_parts, ltb-true}
use Rattle.std.proofs.lemmas.List.{get_or-set_same, get_or-set_other, length-set, set_past, set-get_or, get_or_default}
use Rattle.std.proofs.lemmas.List.Sums.{sum_by-set}
use Rattle.std.proofs.lemmas.Nat.{div-mul-add, mod-mul-add, mul-add-lt}
use Rattle.kmem_model.proofs.CacheLists.{reads_within, count-set}
use Rattle.kmem_model.proofs.PlacesKept.{and_then_says}
use Rattle.kmem_model.proofs.CacheChoices.{map_says, is_the_says, partial_listed, partial_within}
use Rattle.kmem_model.proofs.SettleWhole.{HasGoodMarks, AreSameSizes, whole_marks, enter_whole, enter_sizes, sizes_on}
use Rattle.kmem_model.proofs.SettleMove.{IsChoice, Chosen, choice_says, slabs_after, moved_on, move_is, from_row, from_index, to_row, to_index, answered_out}
use Rattle.kmem_model.proofs.SettleGain.{gain_of, freed_out, freed_stuck, freed_used, taken_out, taken_stuck, taken_used, taken_gain, fuller_says, loss_of, gains_yes, gains_lost, StaysOrGains, never_gains, later_gains}
use Rattle.kmem_model.specs.CacheState.{SlabState, CacheState, is_same_standing, no_slab, slab_at, is_listed, used, is_out_on, is_out, out_count}
use Rattle.kmem_model.specs.CacheOrder.{is_the, is_marked, is_fuller, first_partial_free, chosen, is_idle}
use Rattle.kmem_model.specs.CacheEnter.{slab_taken, slab_freed, slab_answered, enter}
use Rattle.kmem_model.specs.Settle.{Stage, EndedMove, said_at, next_move, says_after, cache_after_move, after_move, gains}
use Rattle.kmem_model.specs.SettleWhole.{IsWholeSlab, IsWhole, IsWholeStage, is_known}
use Rattle.kmem_model.specs.SettleMeasure.{slab_gain, gain, moves_left, is_staying}
use Rattle.kmem_model.specs.declared.cache_state.Standing.TheVariants.{Source, Listed}
use Rattle.kmem_model.specs.declared.cache_entry.Said.{Said}
use Rattle.kmem_model.specs.declared.cache_entry.Said.TheVariants.{Yes, No, Later, DontNeed, DontKnow}
use Rattle.kmem_model.specs.declared.cache_entry.CacheEntry.TheVariants.{Begin, End}

-- The next move

pub record IsNext (stage : Stage) (from to : ℕ) (said : Said) : Type 0 where
  pub busy : is_idle stage.cache ≡ false
  pub old : chosen stage.cache ≡ Some from
  pub new : first_partial_free stage.cache.chunks stage.cache.slabs ≡ Some to
  pub answer : said ≡ said_at stage from

pub next_says : (stage : Stage) (move : EndedMove) → next_move stage ≡ Some move → IsNext stage move.from move.to move.said
next_says stage move e = by_idle (is_idle stage.cache) refl e
  where
    choices : Option EndedMove
    choices =
        option_and_then
        (λ from.
        option_map (λ to. record { from = from; to = to; said = said_at stage from })
        (first_partial_free stage.cache.chunks stage.cache.slabs))
        (chosen stage.cache)

    by_idle : (b : Bool) → is_idle stage.cache ≡ b → cond b None choices ≡ Some move → IsNext stage move.from move.to move.said
    by_idle true is h = absurd (cc)
    by_idle false is h =
        let (from, old, g) = and_then_says
        (λ from.
        option_map (λ to. record { from = from; to = to; said = said_at stage from })
        (first_partial_free stage.cache.chunks stage.cache.slabs))
        (chosen stage.cache) move h in
        let (to, new, same) = map_says (λ to. record { from = from; to = to; said = said_at stage from })
        (first_partial_free stage.cache.chunks stage.cache.slabs) move g in
        subst (λ (m : EndedMove). IsNext stage m.from m.to m.said) same (record { busy = is; old = old; new = new; answer = refl })

pub next_from : (stage : Stage) (from to : ℕ) (said : Said) → IsNext stage from to said →
    next_move stage ≡ Some (record { from = from; to = to; said = said })
next_from stage from to said next =
    cond-false (is_idle stage.cache) None _ next.busy
    ∙ (ap
    (option_and_then
    (λ from.
    option_map (λ to. record { from = from; to = to; said = said_at stage from })
    (first_partial_free stage.cache.chunks stage.cache.slabs)))
    next.old
    ∙ (ap (option_map (λ to. record { from = from; to = to; said = said_at stage from })) next.new
    ∙ ap (λ s. Some (record { from = from; to = to; said = s })) (sym next.answer)))

-- Places

place_is : (c m n : ℕ) → m / c ≡ n / c → m % c ≡ n % c → 0 < c → m ≡ n
place_is c m n row index some =
    let e : c * (m / c) ≡ c * (n / c) = ap {B = ℕ} (λ r. c * r) row in omega arith

-- What is out and what is answered agree

abbrev pub DoAgree : ℕ → List SlabState → List Said → Type 0
DoAgree c xs says = (b : ℕ) → is_known (get_or says b DontKnow) ≡ is_out_on (slab_at xs (b / c)) (b % c)

out_put_other : (xs : List SlabState) (x k i n : ℕ) (y : SlabState) (v : Bool) → y.out ≡ set (slab_at xs x).out k v →
    (i ≡ x → n ≡ k → ⊥) → is_out_on (slab_at (set xs x y) i) n ≡ is_out_on (slab_at xs i) n
out_put_other xs x k i n y v out apart =
    ⊎_elim
    (λ same.
    ⊎_elim
    (λ below.
    ap (λ j. is_out_on (slab_at (set xs x y) j) n) same
    ∙ (ap (λ slab. is_out_on slab n) (get_or-set_same xs x y no_slab below)
    ∙ (ap (λ o. get_or o n false) out
    ∙ (get_or-set_other (slab_at xs x).out k n v false (apart same)
    ∙ ap (λ j. is_out_on (slab_at xs j) n) (sym same)))))
    (λ past. ap (λ ys. is_out_on (slab_at ys i) n) (set_past xs x y past))
    (cases_lt x (length xs)))
    (λ other. ap (λ slab. is_out_on slab n) (get_or-set_other xs x i y no_slab other))
    (cases_eq i x)

-- a buffer becomes out or free, with an answer that says so
agree_put : (c : ℕ) (xs : List SlabState) (says : List Said) (b x k : ℕ) (y : SlabState) (v : Bool) (w : Said) → 0 < c → b / c ≡ x →
    b % c ≡ k → x < length xs → k < length (slab_at xs x).out → b < length says → y.out ≡ set (slab_at xs x).out k v →
    is_known w ≡ v → DoAgree c xs says → DoAgree c (set xs x y) (set says b w)
agree_put c xs says b x k y v w some row index below within has out knows agree n =
    ⊎_elim
    (λ same.
    let here : is_known (get_or (set says b w) n DontKnow) ≡ v =
    ap (λ j. is_known (get_or (set says b w) j DontKnow)) same ∙ (ap is_known (get_or-set_same says b w DontKnow has) ∙ knows) in
    let there : is_out_on (slab_at (set xs x y) (n / c)) (n % c) ≡ v =
    ap (λ j. is_out_on (slab_at (set xs x y) (j / c)) (j % c)) same
    ∙ (ap₂ (λ i m. is_out_on (slab_at (set xs x y) i) m) row index
    ∙ (ap (λ slab. is_out_on slab k) (get_or-set_same xs x y no_slab below)
    ∙ (ap (λ o. get_or o k false) out ∙ get_or-set_same (slab_at xs x).out k v false within))) in
    here ∙ sym there)
    (λ other.
    ap is_known (get_or-set_other says b n w DontKnow other)
    ∙ (agree n
    ∙ sym (out_put_other xs x k (n / c) (n % c) y v out (λ i m. other (place_is c n b (i ∙ sym row) (m ∙ sym index) some)))))
    (cases_eq n b)

-- nothing becomes out or free
agree_stay : (c : ℕ) (xs : List SlabState) (says : List Said) (x : ℕ) (y : SlabState) → y.out ≡ (slab_at xs x).out →
    DoAgree c xs says → DoAgree c (set xs x y) says
agree_stay c xs says x y out agree n =
    agree n
    ∙ sym
    (⊎_elim
    (λ same.
    ⊎_elim
    (λ below.
    ap (λ j. is_out_on (slab_at (set xs x y) j) (n % c)) same
    ∙ (ap (λ slab. is_out_on slab (n % c)) (get_or-set_same xs x y no_slab below)
    ∙ (ap (λ o. get_or o (n % c) false) out ∙ ap (λ j. is_out_on (slab_at xs j) (n % c)) (sym same))))
    (λ past. ap (λ ys. is_out_on (slab_at ys (n / c)) (n % c)) (set_past xs x y past))
    (cases_lt x (length xs)))
    (λ other. ap (λ slab. is_out_on slab (n % c)) (get_or-set_other xs x (n / c) y no_slab other))
    (cases_eq (n / c) x))

-- Marks

-- a slab is changed that gets no new mark
stuck_put : (xs : List SlabState) (x i k : ℕ) (y : SlabState) → (y.stuck ≡ Some k → (slab_at xs x).stuck ≡ Some k) →
    (slab_at (set xs x y) i).stuck ≡ Some k → (slab_at xs i).stuck ≡ Some k
stuck_put xs x i k y old e =
    ⊎_elim
    (λ same.
    ⊎_elim
    (λ below.
    let here : (slab_at (set xs x y) i).stuck ≡ y.stuck =
    ap (λ j. (slab_at (set xs x y) j).stuck) same ∙ ap (λ (z : SlabState). z.stuck) (get_or-set_same xs x y no_slab below) in
    ap (λ j. (slab_at xs j).stuck) same ∙ old (sym here ∙ e))
    (λ past. ap (λ ys. (slab_at ys i).stuck) (sym (set_past xs x y past)) ∙ e)
    (cases_lt x (length xs)))
    (λ other. ap (λ (z : SlabState). z.stuck) (sym (get_or-set_other xs x i y no_slab other)) ∙ e)
    (cases_eq i x)

-- a slab is changed, whose mark stays or is set
stuck_put_or : (xs : List SlabState) (x kx i k : ℕ) (y : SlabState) →
    (y.stuck ≡ Some k → ((slab_at xs x).stuck ≡ Some k) ⊎ (k ≡ kx)) →
    (slab_at (set xs x y) i).stuck ≡ Some k → ((slab_at xs i).stuck ≡ Some k) ⊎ ((i ≡ x) × (k ≡ kx))
stuck_put_or xs x kx i k y old e =
    ⊎_elim
    (λ same.
    ⊎_elim
    (λ below.
    let here : (slab_at (set xs x y) i).stuck ≡ y.stuck =
    ap (λ j. (slab_at (set xs x y) j).stuck) same ∙ ap (λ (z : SlabState). z.stuck) (get_or-set_same xs x y no_slab below) in
    ⊎_elim (λ was. inl (ap (λ j. (slab_at xs j).stuck) same ∙ was)) (λ new. inr (same, new)) (old (sym here ∙ e)))
    (λ past. inl (ap (λ ys. (slab_at ys i).stuck) (sym (set_past xs x y past)) ∙ e))
    (cases_lt x (length xs)))
    (λ other. inl (ap (λ (z : SlabState). z.stuck) (sym (get_or-set_other xs x i y no_slab other)) ∙ e))
    (cases_eq i x)

stuck_or_new : (o : Option ℕ) (kx k : ℕ) → option_or o (Some kx) ≡ Some k → (o ≡ Some k) ⊎ (k ≡ kx)
stuck_or_new None kx k e = let same : kx ≡ k = cc in inr (sym same)
stuck_or_new (Some n) kx k e = inl e

later_stuck : (b : Bool) (o : Option ℕ) (kx k : ℕ) → cond b (option_or o (Some kx)) o ≡ Some k → (o ≡ Some k) ⊎ (k ≡ kx)
later_stuck true o kx k e = stuck_or_new o kx k e
later_stuck false o kx k e = inl e

answered_stuck : (said : Said) (slab : SlabState) (kx k : ℕ) → (slab_answered said slab kx).stuck ≡ Some k → (slab.stuck ≡ Some k) ⊎ (k ≡ kx)
answered_stuck Yes slab kx k e = inl e
answered_stuck No slab kx k e = stuck_or_new slab.stuck kx k e
answered_stuck Later slab kx k e = later_stuck (min 3 (slab.later + 1) == 3) slab.stuck kx k e
answered_stuck DontNeed slab kx k e = inl e
answered_stuck DontKnow slab kx k e = later_stuck (min 3 (slab.later + 1) == 3) slab.stuck kx k e

-- where a stuck buffer stands
pub record IsMarkAt (stage : Stage) (i k : ℕ) : Type 0 where
  pub row : (i * stage.cache.chunks + k) / stage.cache.chunks ≡ i
  pub index : (i * stage.cache.chunks + k) % stage.cache.chunks ≡ k
  pub out : is_out_on (slab_at stage.cache.slabs i) k ≡ true
  pub known : is_known (said_at stage (i * stage.cache.chunks + k)) ≡ true

pub mark_at : (stage : Stage) (i k : ℕ) → IsWholeStage stage → (slab_at stage.cache.slabs i).stuck ≡ Some k → IsMarkAt stage i k
mark_at stage i k whole e =
    record {
      row = row;
      index = index;
      out = out;
      known = whole.known (i * c + k) ∙ (ap₂ (λ r n. is_out_on (slab_at stage.cache.slabs r) n) row index ∙ out);
    }
  where
    c : ℕ
    c = stage.cache.chunks

    slab : IsWholeSlab c (slab_at stage.cache.slabs i)
    slab =
        whole.cache.slabs i no_slab (reads_within stage.cache.slabs i no_slab (λ z. is_some z.stuck) refl (ap is_some e))

    out : is_out_on (slab_at stage.cache.slabs i) k ≡ true
    out = slab.stuck_out k e

    below : k < c
    below = omega (arith, slab.size, reads_within (slab_at stage.cache.slabs i).out k false (λ z. z) refl out)

    row : (i * c + k) / c ≡ i
    row = div-mul-add i c k below

    index : (i * c + k) % c ≡ k
    index = mod-mul-add i c k below

-- One move

-- a move that changes no slab: what it asks about lies on a slab with a mark, or is free
pub record IsQuiet (stage t : Stage) (said : Said) : Type 0 where
  pub slabs : t.cache.slabs ≡ stage.cache.slabs
  pub stays : gains said ≡ false
  pub asked : (b : ℕ) → get_or t.cache.asked b false ≡ true → is_out stage.cache b ≡ true →
      (get_or stage.cache.asked b false ≡ true) ⊎ (is_marked (slab_at stage.cache.slabs (b / stage.cache.chunks)) ≡ true)

-- the object in each stuck buffer stays
abbrev pub IsHeld : Stage → Type 0
IsHeld stage = (i k : ℕ) → (slab_at stage.cache.slabs i).stuck ≡ Some k → is_staying (said_at stage (i * stage.cache.chunks + k)) ≡ true

-- what a move leaves
pub record IsMovedOn (stage t : Stage) (from to : ℕ) (said : Said) : Type 0 where
  pub after : after_move stage (record { from = from; to = to; said = said }) ≡ Some t
  pub whole : IsWholeStage t
  pub sizes : AreSameSizes stage.cache t.cache
  pub mode : t.cache.mode ≡ stage.cache.mode
  pub fewer : moves_left t < moves_left stage
  pub held : IsHeld stage → IsHeld t
  pub grows : IsHeld stage → (gain stage.cache < gain t.cache) ⊎ IsQuiet stage t said
  pub yes_out : said ≡ Yes → out_count t.cache ≡ out_count stage.cache
  pub yes_marks : said ≡ Yes → (i k : ℕ) → (slab_at t.cache.slabs i).stuck ≡ Some k → (slab_at stage.cache.slabs i).stuck ≡ Some k

module _ (stage : Stage) (whole : IsWholeStage stage) (from to : ℕ) (said : Said) (next : IsNext stage from to said)
    (x kx f kf : ℕ) (choice : IsChoice stage.cache from to x kx f kf) where
  abbrev s : CacheState
  s = stage.cache

  abbrev c : ℕ
  c = stage.cache.chunks

  abbrev X : SlabState
  X = slab_at stage.cache.slabs x

  abbrev F : SlabState
  F = slab_at stage.cache.slabs f

  abbrev T : SlabState
  T = slab_taken F kf

  abbrev Y : SlabState
  Y = slab_freed Source X kx

  abbrev xs : List SlabState
  xs = stage.cache.slabs

  x_below : x < length xs
  x_below = partial_within xs x choice.from_partial

  f_below : f < length xs
  f_below = partial_within xs f choice.to_partial

  x_listed : is_listed X ≡ true
  x_listed = ap (is_same_standing Listed) (partial_listed X choice.from_partial)

  f_listed : is_listed F ≡ true
  f_listed = ap (is_same_standing Listed) (partial_listed F choice.to_partial)

  x_whole : IsWholeSlab c X
  x_whole = whole.cache.slabs x no_slab x_below

  f_whole : IsWholeSlab c F
  f_whole = whole.cache.slabs f no_slab f_below

  x_good : HasGoodMarks X
  x_good = whole_marks s whole.cache x no_slab x_below

  x_row : from / c ≡ x
  x_row = from_row s whole.cache whole.calm from to x kx f kf choice

  x_index : from % c ≡ kx
  x_index = from_index s whole.cache whole.calm from to x kx f kf choice

  f_row : to / c ≡ f
  f_row = to_row s whole.cache whole.calm from to x kx f kf choice

  f_index : to % c ≡ kf
  f_index = to_index s whole.cache whole.calm from to x kx f kf choice

  from_has : from < length stage.says
  from_has = omega (arith, mul-add-lt x c kx (length xs) x_below (omega (arith, x_whole.size, choice.from_within)), choice.from_is, whole.says)

  to_has : to < length stage.says
  to_has = omega (arith, mul-add-lt f c kf (length xs) f_below (omega (arith, f_whole.size, choice.to_within)), choice.to_is, whole.says)

  from_out : is_out s from ≡ true
  from_out = ap₂ (λ i n. is_out_on (slab_at xs i) n) x_row x_index ∙ choice.out

  to_free : is_out s to ≡ false
  to_free = ap₂ (λ i n. is_out_on (slab_at xs i) n) f_row f_index ∙ choice.free

  from_known : is_known (said_at stage from) ≡ true
  from_known = whole.known from ∙ from_out

  x_at_begun : slab_at (set xs f T) x ≡ X
  x_at_begun = get_or-set_other xs f x T no_slab choice.apart

  abbrev after_by : Said → Stage
  after_by answer =
      record {
        cache = moved_on stage.cache from to (slabs_after answer stage.cache.slabs x kx f kf);
        says = says_after answer from to stage.says;
      }

  cache_is : cache_after_move s (record { from = from; to = to; said = said }) ≡ Some (after_by said).cache
  cache_is = move_is s whole.cache whole.calm from to x kx f kf choice said next.busy next.old next.new

  after_is : after_move stage (record { from = from; to = to; said = said }) ≡ Some (after_by said)
  after_is = ap (option_map (λ cache. record { cache = cache; says = says_after said from to stage.says })) cache_is

  cache_whole : IsWhole (after_by said).cache
  cache_whole =
      let (b, e1, e2) = and_then_says (λ begun. enter begun (End 0 said)) (enter s (Begin 0 from to)) (after_by said).cache cache_is in
      enter_whole b (after_by said).cache (End 0 said) (enter_whole s b (Begin 0 from to) whole.cache e1) e2

  cache_sizes : AreSameSizes s (after_by said).cache
  cache_sizes =
      let (b, e1, e2) = and_then_says (λ begun. enter begun (End 0 said)) (enter s (Begin 0 from to)) (after_by said).cache cache_is in
      sizes_on s b (after_by said).cache (enter_sizes s b (Begin 0 from to) e1) (enter_sizes b (after_by said).cache (End 0 said) e2)

  says_size : (answer : Said) → length (says_after answer from to stage.says) ≡ length stage.says
  says_size Yes =
      length-set (set stage.says to (said_at stage from)) from DontKnow ∙ length-set stage.says to (said_at stage from)
  says_size No = refl
  says_size Later = refl
  says_size DontNeed = length-set stage.says from DontKnow
  says_size DontKnow = refl

  -- what is out and what is answered agree afterwards
  agrees : (answer : Said) → DoAgree c (slabs_after answer xs x kx f kf) (says_after answer from to stage.says)
  agrees Yes =
      agree_put c (set xs f T) (set stage.says to (said_at stage from)) from x kx Y false DontKnow whole.cache.positive x_row x_index
      (omega (arith, x_below, length-set xs f T))
      (subst (λ (slab : SlabState). kx < length slab.out) (sym x_at_begun) choice.from_within)
      (omega (arith, from_has, length-set stage.says to (said_at stage from)))
      (freed_out Source X kx ∙ ap (λ (slab : SlabState). set slab.out kx false) (sym x_at_begun)) refl
      (agree_put c xs stage.says to f kf T true (said_at stage from) whole.cache.positive f_row f_index f_below choice.to_within to_has
      (taken_out F kf f_listed) from_known whole.known)
  agrees No = agree_stay c xs stage.says x (slab_answered No X kx) (answered_out No X kx) whole.known
  agrees Later = agree_stay c xs stage.says x (slab_answered Later X kx) (answered_out Later X kx) whole.known
  agrees DontNeed =
      agree_put c xs stage.says from x kx Y false DontKnow whole.cache.positive x_row x_index x_below choice.from_within from_has
      (freed_out Source X kx) refl whole.known
  agrees DontKnow = agree_stay c xs stage.says x (slab_answered DontKnow X kx) (answered_out DontKnow X kx) whole.known

  after_whole : IsWholeStage (after_by said)
  after_whole =
      record {
        cache = cache_whole;
        calm = whole.calm;
        says = says_size said ∙ (whole.says ∙ ap₂ (λ m n. m * n) (sym cache_sizes.slabs) (sym cache_sizes.chunks));
        known = agrees said;
      }

  -- fewer buffers are not asked
  after_fewer : moves_left (after_by said) < moves_left stage
  after_fewer =
      let old : ◌≡◌ {A = ℕ} (cond (cond (get_or s.asked from true) false true) 1 0) 1 =
      ap {B = ℕ} (λ b. cond (cond b false true) 1 0) (get_or_default s.asked from true false asked_has ∙ choice.not_asked) in
      let once : count_by free (set s.asked from true) + cond (free (get_or s.asked from true)) 1 0 ≡ count_by free s.asked + 0 =
      count-set free s.asked from true true asked_has in
      let twice : count_by free (set (set s.asked from true) to true) + cond (free (get_or (set s.asked from true) to true)) 1 0
      ≡ count_by free (set s.asked from true) + 0 =
      count-set free (set s.asked from true) to true true (omega (arith, to_asked, length-set s.asked from true)) in
      omega (arith, old, once, twice)
    where
      free : Bool → Bool
      free asked = cond asked false true

      asked_has : from < length s.asked
      asked_has = omega (arith, from_has, whole.says, whole.cache.asked)

      to_asked : to < length s.asked
      to_asked = omega (arith, to_has, whole.says, whole.cache.asked)

  -- a buffer that the client knows afterwards isn't the old one, where that is free then
  not_from : (says : List Said) (b : ℕ) → from < length says → is_known (get_or (set says from DontKnow) b DontKnow) ≡ true → b ≢ from
  not_from says b has known same =
      both_ways (is_known (get_or (set says from DontKnow) b DontKnow))
      (ap (λ n. is_known (get_or (set says from DontKnow) n DontKnow)) same ∙ ap is_known (get_or-set_same says from DontKnow DontKnow has))
      known

  -- a stuck buffer isn't the new one
  not_to : (i k : ℕ) → (slab_at xs i).stuck ≡ Some k → i * c + k ≢ to
  not_to i k e same =
      let at : IsMarkAt stage i k = mark_at stage i k whole e in
      both_ways (is_out s to) to_free
      (ap (is_out s) (sym same) ∙ (ap₂ (λ r n. is_out_on (slab_at xs r) n) at.row at.index ∙ at.out))

  stuck_yes : (i k : ℕ) → (slab_at (slabs_after Yes xs x kx f kf) i).stuck ≡ Some k → (slab_at xs i).stuck ≡ Some k
  stuck_yes i k e =
      stuck_put xs f i k T (λ h. sym (taken_stuck F kf f_listed) ∙ h)
      (stuck_put (set xs f T) x i k Y (λ h. ap (λ (z : SlabState). z.stuck) x_at_begun ∙ freed_stuck Source X kx k h) e)

  -- the answers by which the object stays
  held_stay : (answer : Said) → said ≡ answer → is_staying answer ≡ true → IsHeld stage →
      (i k : ℕ) → (slab_at (set xs x (slab_answered answer X kx)) i).stuck ≡ Some k → is_staying (said_at stage (i * c + k)) ≡ true
  held_stay answer is stays held i k e =
      ⊎_elim (λ old. held i k old)
      (λ (row, index).
      let same : i * c + k ≡ from = ap₂ (λ r n. r * c + n) row index ∙ choice.from_is in
      ap (λ b. is_staying (said_at stage b)) same ∙ (ap is_staying (sym next.answer ∙ is) ∙ stays))
      (stuck_put_or xs x kx i k (slab_answered answer X kx) (answered_stuck answer X kx k) e)

  held_by : (answer : Said) → said ≡ answer → IsWholeStage (after_by answer) → IsHeld stage → IsHeld (after_by answer)
  held_by Yes is later held i k e =
      let at : IsMarkAt (after_by Yes) i k = mark_at (after_by Yes) i k later e in
      let old : (slab_at xs i).stuck ≡ Some k = stuck_yes i k e in
      let begun : List Said = set stage.says to (said_at stage from) in
      ap is_staying
      (get_or-set_other begun from (i * c + k) DontKnow DontKnow
      (not_from begun (i * c + k) (omega (arith, from_has, length-set stage.says to (said_at stage from))) at.known)
      ∙ get_or-set_other stage.says to (i * c + k) (said_at stage from) DontKnow (not_to i k old))
      ∙ held i k old
  held_by No is later held i k e = held_stay No is refl held i k e
  held_by Later is later held i k e = held_stay Later is refl held i k e
  held_by DontNeed is later held i k e =
      let at : IsMarkAt (after_by DontNeed) i k = mark_at (after_by DontNeed) i k later e in
      let old : (slab_at xs i).stuck ≡ Some k = stuck_put xs x i k Y (λ h. freed_stuck Source X kx k h) e in
      ap is_staying
      (get_or-set_other stage.says from (i * c + k) DontKnow DontKnow (not_from stage.says (i * c + k) from_has at.known))
      ∙ held i k old
  held_by DontKnow is later held i k e = absurd (both_ways (is_known (said_at stage from)) (ap is_known (sym next.answer ∙ is)) from_known)

  -- What is gained

  begun_gain : sum_by (slab_gain c) (set xs f T) + slab_gain c F ≡ sum_by (slab_gain c) xs + slab_gain c T
  begun_gain = sum_by-set (slab_gain c) xs f T no_slab f_below

  -- the old buffer isn't the stuck one, where its object doesn't stay
  not_the_stuck : IsHeld stage → is_staying said ≡ false → is_the X.stuck kx ≡ false
  not_the_stuck held leaves =
      ⊎_elim
      (λ is.
      absurd
      (both_ways (is_staying said) leaves
      (ap is_staying (next.answer ∙ ap (said_at stage) (sym choice.from_is)) ∙ held x kx (is_the_says X.stuck kx is))))
      (λ no. no)
      (cases_Bool (is_the X.stuck kx))

  x_short : used X < c
  x_short = omega (arith, ltb-true (used X) (length X.out) (and_parts _ _ choice.from_partial).1, x_whole.size)

  f_short : used F < c
  f_short = omega (arith, ltb-true (used F) (length F.out) (and_parts _ _ choice.to_partial).1, f_whole.size)

  y_used : used Y + 1 ≡ used X
  y_used = freed_used Source X kx choice.out

  grows_yes : IsHeld stage → is_staying said ≡ false → sum_by (slab_gain c) xs < sum_by (slab_gain c) (slabs_after Yes xs x kx f kf)
  grows_yes held leaves =
      let moved : sum_by (slab_gain c) (slabs_after Yes xs x kx f kf) + slab_gain c (get_or (set xs f T) x no_slab) ≡ sum_by (slab_gain c) (set xs f T) + slab_gain c Y =
      sum_by-set (slab_gain c) (set xs f T) x Y no_slab (omega (arith, x_below, length-set xs f T)) in
      let at : slab_gain c (get_or (set xs f T) x no_slab) ≡ slab_gain c X = ap {B = ℕ} (slab_gain c) x_at_begun in
      let both : gain_of c (used F) (is_marked F) F.later + gain_of c (used Y + 1) (is_marked X) X.later < gain_of c (used F + 1) (is_marked F) F.later + gain_of c (used Y) (is_marked Y) Y.later =
      gains_yes c (used F) (used Y) F.later X.later Y.later (is_marked F) (is_marked X) (is_marked Y) (is_fuller F f X x) f_short
      (omega (arith, x_short, y_used)) (λ h. omega (arith, y_used, fuller_says F X f x h)) choice.before
      (loss_of Source X kx x_good choice.out (not_the_stuck held leaves)) in
      let x_gain : gain_of c (used Y + 1) (is_marked X) X.later ≡ slab_gain c X = ap {B = ℕ} (λ u. gain_of c u (is_marked X) X.later) y_used in
      let t_gain : slab_gain c T ≡ gain_of c (used F + 1) (is_marked F) F.later = taken_gain c F kf f_listed choice.to_within choice.free in
      sums (sum_by (slab_gain c) xs) (sum_by (slab_gain c) (set xs f T)) (sum_by (slab_gain c) (slabs_after Yes xs x kx f kf))
      (slab_gain c (get_or (set xs f T) x no_slab)) (slab_gain c F) (slab_gain c X) (slab_gain c T) (slab_gain c Y)
      (gain_of c (used Y + 1) (is_marked X) X.later) (gain_of c (used F + 1) (is_marked F) F.later)
      begun_gain moved at both x_gain t_gain
    where
      sums : (all begun end at gf gx gt gy ux ut : ℕ) → begun + gf ≡ all + gt → end + at ≡ begun + gy → at ≡ gx → gf + ux < ut + gy →
          ux ≡ gx → gt ≡ ut → all < end
      sums all begun end at gf gx gt gy ux ut e1 e2 e3 e4 e5 e6 = omega arith

  grows_lost : IsHeld stage → is_staying said ≡ false → sum_by (slab_gain c) xs < sum_by (slab_gain c) (set xs x Y)
  grows_lost held leaves =
      sums (sum_by (slab_gain c) xs) (sum_by (slab_gain c) (set xs x Y)) (slab_gain c X) (slab_gain c Y)
      (gain_of c (used Y + 1) (is_marked X) X.later)
      (sum_by-set (slab_gain c) xs x Y no_slab x_below)
      (ap {B = ℕ} (λ u. gain_of c u (is_marked X) X.later) y_used)
      (gains_lost c (used Y) X.later Y.later (is_marked X) (is_marked Y) (omega (arith, x_short, y_used))
      (loss_of Source X kx x_good choice.out (not_the_stuck held leaves)))
    where
      sums : (all end gx gy ux : ℕ) → end + gx ≡ all + gy → ux ≡ gx → ux < gy → all < end
      sums all end gx gy ux e1 e2 e3 = omega arith

  -- what was asked about
  asked_says : (b : ℕ) → get_or (set (set s.asked from true) to true) b false ≡ true → (get_or s.asked b false ≡ true) ⊎ ((b ≡ from) ⊎ (b ≡ to))
  asked_says b e =
      ⊎_elim (λ same. inr (inr same))
      (λ other.
      ⊎_elim (λ same. inr (inl same))
      (λ apart.
      inl
      (sym (get_or-set_other s.asked from b true false apart)
      ∙ (sym (get_or-set_other (set s.asked from true) to b true false other) ∙ e)))
      (cases_eq b from))
      (cases_eq b to)

  quiet : (answer : Said) → gains answer ≡ false → slab_answered answer X kx ≡ X → is_marked X ≡ true →
      (after_by answer).cache.slabs ≡ set xs x (slab_answered answer X kx) → IsQuiet stage (after_by answer) answer
  quiet answer stays same marked slabs =
      record {
        slabs = slabs ∙ (ap (set xs x) same ∙ set-get_or xs x no_slab);
        stays = stays;
        asked = λ b e out.
            ⊎_elim (λ old. inl old)
            (λ new.
            ⊎_elim (λ is. inr (ap (λ n. is_marked (slab_at xs n)) (ap (λ n. n / c) is ∙ x_row) ∙ marked))
            (λ is. absurd (both_ways (is_out s to) to_free (ap (is_out s) (sym is) ∙ out)))
            new)
            (asked_says b e);
      }

  grows_stay : (answer : Said) → gains answer ≡ false → StaysOrGains c X (slab_answered answer X kx) →
      (after_by answer).cache.slabs ≡ set xs x (slab_answered answer X kx) →
      (gain s < gain (after_by answer).cache) ⊎ IsQuiet stage (after_by answer) answer
  grows_stay answer stays either slabs =
      ⊎_elim
      (λ more.
      inl
      (omega
      (arith, more, sum_by-set (slab_gain c) xs x (slab_answered answer X kx) no_slab x_below, ap {B = ℕ} (sum_by (slab_gain c)) slabs)))
      (λ (marked, same). inr (quiet answer stays same marked slabs))
      either

  grows_by : (answer : Said) → said ≡ answer → IsHeld stage → (gain s < gain (after_by answer).cache) ⊎ IsQuiet stage (after_by answer) answer
  grows_by Yes is held = inl (grows_yes held (ap is_staying is))
  grows_by No is held = grows_stay No refl (never_gains c X kx) refl
  grows_by Later is held = grows_stay Later refl (later_gains c X kx x_good) refl
  grows_by DontNeed is held = inl (grows_lost held (ap is_staying is))
  grows_by DontKnow is held = grows_stay DontKnow refl (later_gains c X kx x_good) refl

  -- as many are out after YES
  out_yes : sum_by used (slabs_after Yes xs x kx f kf) ≡ sum_by used xs
  out_yes =
      sums (sum_by used xs) (sum_by used (set xs f T)) (sum_by used (slabs_after Yes xs x kx f kf)) (used (get_or (set xs f T) x no_slab)) (used F) (used X)
      (used T) (used Y) (sum_by-set used xs f T no_slab f_below)
      (sum_by-set used (set xs f T) x Y no_slab (omega (arith, x_below, length-set xs f T)))
      (ap {B = ℕ} used x_at_begun)
      (taken_used F kf f_listed choice.to_within choice.free)
      y_used
    where
      sums : (all begun end at f x t y : ℕ) → begun + f ≡ all + t → end + at ≡ begun + y → at ≡ x → t ≡ f + 1 → y + 1 ≡ x → end ≡ all
      sums all begun end at f x t y e1 e2 e3 e4 e5 = omega arith

  out_by : (answer : Said) → answer ≡ Yes → out_count (after_by answer).cache ≡ out_count s
  out_by Yes is = out_yes
  out_by No is = absurd (cc)
  out_by Later is = absurd (cc)
  out_by DontNeed is = absurd (cc)
  out_by DontKnow is = absurd (cc)

  marks_by : (answer : Said) → answer ≡ Yes → (i k : ℕ) → (slab_at (after_by answer).cache.slabs i).stuck ≡ Some k → (slab_at xs i).stuck ≡ Some k
  marks_by Yes is i k e = stuck_yes i k e
  marks_by No is i k e = absurd (cc)
  marks_by Later is i k e = absurd (cc)
  marks_by DontNeed is i k e = absurd (cc)
  marks_by DontKnow is i k e = absurd (cc)

  moved_by : IsMovedOn stage (after_by said) from to said
  moved_by =
      record {
        after = after_is;
        whole = after_whole;
        sizes = cache_sizes;
        mode = refl;
        fewer = after_fewer;
        held = held_by said refl after_whole;
        grows = grows_by said refl;
        yes_out = out_by said;
        yes_marks = marks_by said;
      }

-- a move that is the next one can be made
pub record MovesOn (stage : Stage) (from to : ℕ) (said : Said) : Type 0 where
  pub stage_after : Stage
  pub moved : IsMovedOn stage stage_after from to said

pub moves_on : (stage : Stage) (from to : ℕ) (said : Said) → IsWholeStage stage → IsNext stage from to said → MovesOn stage from to said
moves_on stage from to said whole next =
    let chosen : Chosen stage.cache from to = choice_says stage.cache from to next.old next.new in
    record {
      stage_after = after_by stage whole from to said next chosen.x chosen.kx chosen.f chosen.kf chosen.choice said;
      moved = moved_by stage whole from to said next chosen.x chosen.kx chosen.f chosen.kf chosen.choice;
    }

-- the client knows the object at the old buffer
pub next_known : (stage : Stage) (from to : ℕ) (said : Said) → IsWholeStage stage → IsNext stage from to said → is_known (said_at stage from) ≡ true
next_known stage from to said whole next =
    let chosen : Chosen stage.cache from to = choice_says stage.cache from to next.old next.new in
    from_known stage whole from to said next chosen.x chosen.kx chosen.f chosen.kf chosen.choice
