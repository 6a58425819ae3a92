-- What is kept of the pending moves.
use Rattle.std.proofs.Common.{◌≡◌, ℕ, zero, suc, ◌+◌, ◌-◌, ◌<◌, ◌≤◌, ◌^◌, ◌||◌, ◌==◌, Bool, true, false, cond, List, [], ◌∷◌, length, get_or, set, replicate, count_by, Option, Some, None, is_some, map, ap₂, ⊎_elim, sym, ◌∙◌, ap, refl, arith, subst, mul-zero}
use Rattle.std.specs.List.{list_any}
use Rattle.std.proofs.lemmas.List.{length-replicate, get_or-replicate, get_or-set_same, get_or-set_other, length-set, length-map, ext_get_or, get_or_past}
use Rattle.std.proofs.lemmas.Bool.{both_ways, cases_eq, cases_lt, ne_eqb}
use Rattle.std.proofs.lemmas.List.Folds.{sum_by-replicate}
use Rattle.std.proofs.lemmas.List.Sums.{count_by-le-length}
use Rattle.kmem_buf.specs.Stubs.{StubState, AreUnissued}
use Rattle.kmem_model.specs.CacheOrder.{is_of_move}
use Rattle.kmem_model.specs.declared.cache_state.PendingMove.{PendingMove}
use Rattle.object_cache.specs.Moves.{AreTracked, AreWithin, IsStubOf, IsWithin, is_left_out_of}
use Rattle.object_cache.proofs.Lists.{or_false, any-set_same, any-set_more, count-set, two_set}

no_moves : ℕ → List (Option PendingMove)
no_moves n = replicate n None

none_counted : (n : ℕ) → 0 ≡ count_by is_some (no_moves n)
unfolding no_moves
none_counted n = sym (sum_by-replicate (λ o. cond (is_some o) 1 0) n None ∙ mul-zero n)

none_of_move : (b n : ℕ) → list_any (is_of_move b) (no_moves n) ≡ false
unfolding no_moves
none_of_move b zero = refl
none_of_move b (suc n) = none_of_move b n

pub start : (stubs : List StubState) (limit buffers : ℕ) → length stubs ≡ limit → AreUnissued stubs → limit < 2 ^ 32 →
    AreTracked stubs (replicate limit None) (replicate buffers false) 0
unfolding no_moves
start stubs limit buffers as_many free few =
    record {
      size = as_many ∙ sym (length-replicate limit None);
      few = omega (arith, few, length-replicate {A = Option PendingMove} limit None);
      issued = λ j d below.
          let low : j < limit = omega (arith, below, length-replicate {A = Option PendingMove} limit None) in
          subst (IsStubOf j (get_or stubs j d)) (sym (get_or-replicate limit j None None low)) (free j d (omega (arith, low, as_many)));
      within = λ j below.
          subst (IsWithin (length (replicate buffers false)))
          (sym (get_or-replicate limit j None None (omega (arith, below, length-replicate {A = Option PendingMove} limit None)))) tt;
      counted = none_counted limit;
    }

-- nothing is left out where no buffer was asked about and no move is pending
pub none_out : (limit buffers b : ℕ) → get_or (replicate buffers false) b false ≡ is_left_out_of (replicate buffers false) (replicate limit None) b
unfolding no_moves
none_out limit buffers b =
    or_false (get_or (replicate buffers false) b false) ∙ ap (λ c. get_or (replicate buffers false) b false || c) (sym (none_of_move b limit))

-- what an issued stub with a move's facts says of its place
pub stub_says : (j : ℕ) (stub : StubState) (o : Option PendingMove) (n from to : ℕ) → IsStubOf j stub o → stub.issued ≡ true →
    stub.facts ≡ n ∷ from ∷ to ∷ [] → (n ≡ j) × (o ≡ Some (record { from = from; to = to }))
stub_says j stub None n from to is issued facts = absurd (both_ways stub.issued is issued)
stub_says j stub (Some m) n from to is issued facts =
    let same : j ∷ m.from ∷ m.to ∷ [] ≡ n ∷ from ∷ to ∷ [] = sym is.1 ∙ facts in
    ((cc), ap₂ (λ (f t : ℕ). Some (record { from = f; to = t })) (cc) (cc))

pub within_at : (buffers : ℕ) (o : Option PendingMove) (from to : ℕ) → o ≡ Some (record { from = from; to = to }) → IsWithin buffers o →
    (from < buffers) × (to < buffers)
within_at buffers o from to e within = subst (IsWithin buffers) e within

module _ (stubs : List StubState) (pending : List (Option PendingMove)) (asked : List Bool) (count : ℕ) (kept : AreTracked stubs pending asked count) (slot : ℕ) (low : slot < length pending) where
  -- the stubs beside a place that changes
  stubs-set : (stub : StubState) (o : Option PendingMove) → IsStubOf slot stub o → (j : ℕ) (d : StubState) → j < length (set pending slot o) →
      IsStubOf j (get_or (set stubs slot stub) j d) (get_or (set pending slot o) j None)
  stubs-set stub o here j d below =
      ⊎_elim
      (λ same.
      subst (λ n. IsStubOf n (get_or (set stubs slot stub) n d) (get_or (set pending slot o) n None)) (sym same)
      (let IsHere : StubState → Option PendingMove → Type 0 = IsStubOf slot in
      rw (get_or-set_same stubs slot stub d (omega (arith, low, kept.size)), get_or-set_same pending slot o None low) here))
      (λ apart.
      rw (get_or-set_other stubs slot j stub d apart, get_or-set_other pending slot j o None apart)
      (kept.issued j d (omega (arith, below, length-set pending slot o))))
      (cases_eq j slot)

  within-set : (buffers : ℕ) (o : Option PendingMove) → buffers ≡ length asked → IsWithin buffers o → AreWithin buffers (set pending slot o)
  within-set buffers o same here j below =
      ⊎_elim
      (λ is. subst (λ n. IsWithin buffers (get_or (set pending slot o) n None)) (sym is) (subst (IsWithin buffers) (sym (get_or-set_same pending slot o None low)) here))
      (λ apart.
      subst (IsWithin buffers) (sym (get_or-set_other pending slot j o None apart))
      (subst (λ n. IsWithin n (get_or pending j None)) (sym same) (kept.within j (omega (arith, below, length-set pending slot o)))))
      (cases_eq j slot)

  -- what a stub that is issued says of the move at its place
  pub pending_says : (stub : StubState) (n from to : ℕ) → stub ≡ get_or stubs slot stub → stub.issued ≡ true → stub.facts ≡ n ∷ from ∷ to ∷ [] →
      ((n ≡ slot) × (get_or pending slot None ≡ Some (record { from = from; to = to }))) × ((from < length asked) × (to < length asked))
  pending_says stub n from to read issued facts =
      let says =
      stub_says slot stub (get_or pending slot None) n from to
      (subst (λ (s : StubState). IsStubOf slot s (get_or pending slot None)) (sym read) (kept.issued slot stub low)) issued facts in
      (says, within_at (length asked) (get_or pending slot None) from to says.1 (kept.within slot low))

  -- what stands where no move is pending
  pub free_says : (stub : StubState) → stub ≡ get_or stubs slot stub → get_or pending slot None ≡ None → stub.issued ≡ false
  free_says stub read free =
      subst (IsStubOf slot stub) free
      (subst (λ (s : StubState). IsStubOf slot s (get_or pending slot None)) (sym read) (kept.issued slot stub low))

  -- one more and one less is pending
  pub fewer : get_or pending slot None ≡ None → count + 1 ≤ length pending
  fewer free =
      let m : PendingMove = record { from = 0; to = 0 } in
      omega (
        arith,
        kept.counted,
        count-set is_some pending slot (Some m) None low,
        ap {B = ℕ} (λ o. cond (is_some o) 1 0) free,
        count_by-le-length is_some (set pending slot (Some m)),
        length-set pending slot (Some m),
      )

  pub some_pending : (m : PendingMove) → get_or pending slot None ≡ Some m → 1 ≤ count
  some_pending m was =
      omega (arith, kept.counted, count-set is_some pending slot None None low, ap {B = ℕ} (λ o. cond (is_some o) 1 0) was)

  sizes-set : (stub : StubState) (o : Option PendingMove) → length (set stubs slot stub) ≡ length (set pending slot o)
  sizes-set stub o = length-set stubs slot stub ∙ (kept.size ∙ sym (length-set pending slot o))

  -- a move begins
  pub begun : (stub : StubState) (from to : ℕ) → get_or pending slot None ≡ None → from < length asked → to < length asked →
      stub.issued ≡ true → stub.facts ≡ slot ∷ from ∷ to ∷ [] →
      AreTracked (set stubs slot stub) (set pending slot (Some (record { from = from; to = to }))) (set (set asked from true) to true) (count + 1)
  begun stub from to free one other issued facts =
      let m : PendingMove = record { from = from; to = to } in
      let size : length (set (set asked from true) to true) ≡ length asked = length-set (set asked from true) to true ∙ length-set asked from true in
      record {
        size = sizes-set stub (Some m);
        few = omega (arith, kept.few, length-set pending slot (Some m));
        issued = stubs-set stub (Some m) (issued, facts);
        within = within-set (length (set (set asked from true) to true)) (Some m) size (omega (arith, one, size), omega (arith, other, size));
        counted =
            omega (arith, kept.counted, count-set is_some pending slot (Some m) None low, ap {B = ℕ} (λ o. cond (is_some o) 1 0) free);
      }

  -- a move ends
  pub ended : (stub : StubState) (m : PendingMove) → get_or pending slot None ≡ Some m → stub.issued ≡ false →
      AreTracked (set stubs slot stub) (set pending slot None) asked (count - 1)
  ended stub m was free =
      record {
        size = sizes-set stub None;
        few = omega (arith, kept.few, length-set {A = Option PendingMove} pending slot None);
        issued = stubs-set stub None free;
        within = within-set (length asked) None refl tt;
        counted =
            omega (arith, kept.counted, count-set is_some pending slot None None low, ap {B = ℕ} (λ o. cond (is_some o) 1 0) was);
      }

-- what a scan leaves out, once a move has begun, and once it has ended
module _ (asked skip : List Bool) (pending : List (Option PendingMove)) (slot : ℕ) (low : slot < length pending) (size : length skip ≡ length asked)
    (told : (b : ℕ) → get_or skip b false ≡ is_left_out_of asked pending b) where
  pub out_begun : (from to : ℕ) → get_or pending slot None ≡ None → from < length asked → to < length asked →
      (b : ℕ) → get_or (set (set skip from true) to true) b false
      ≡ is_left_out_of (set (set asked from true) to true) (set pending slot (Some (record { from = from; to = to }))) b
  out_begun from to free one other b =
      let m : PendingMove = record { from = from; to = to } in
      two_set skip from to b (omega (arith, one, size)) (omega (arith, other, size))
      ∙ (ap (λ t. t || (from == b || to == b)) (told b)
      ∙ (twice (get_or asked b false) (list_any (is_of_move b) pending) (from == b || to == b)
      ∙ ap₂ (λ (s t : Bool). s || t) (sym (two_set asked from to b one other))
      (sym (any-set_more (is_of_move b) pending slot (Some m) None low (ap (is_of_move b) free)))))
    where
      twice : (a y t : Bool) → ((a || y) || t) ≡ ((a || t) || (y || t))
      twice true y t = refl
      twice false true true = refl
      twice false true false = refl
      twice false false true = refl
      twice false false false = refl

  pub out_ended : (from to : ℕ) → get_or pending slot None ≡ Some (record { from = from; to = to }) → from < length asked → to < length asked →
      (one other : Bool) → one ≡ is_left_out_of asked (set pending slot None) from → other ≡ is_left_out_of asked (set pending slot None) to →
      (b : ℕ) → get_or (set (set skip from one) to other) b false ≡ is_left_out_of asked (set pending slot None) b
  out_ended from to was below inside one other first second b =
      ⊎_elim
      (λ same.
      ap (λ n. get_or (set (set skip from one) to other) n false) same
      ∙ (get_or-set_same (set skip from one) to other false (omega (arith, inside, length-set skip from one, size))
      ∙ (second ∙ ap (is_left_out_of asked (set pending slot None)) (sym same))))
      (λ apart.
      get_or-set_other (set skip from one) to b other false apart
      ∙ ⊎_elim
      (λ same.
      ap (λ n. get_or (set skip from one) n false) same
      ∙ (get_or-set_same skip from one false (omega (arith, below, size))
      ∙ (first ∙ ap (is_left_out_of asked (set pending slot None)) (sym same))))
      (λ far.
      get_or-set_other skip from b one false far
      ∙ (told b
      ∙ ap (λ t. get_or asked b false || t)
      (sym
      (any-set_same (is_of_move b) pending slot None None
      (sym (ap (is_of_move b) was ∙ ap₂ (λ (s t : Bool). s || t) (ne_eqb from b (λ e. far (sym e))) (ne_eqb to b (λ e. apart (sym e)))))))))
      (cases_eq b from))
      (cases_eq b to)

pub unasked : (bs : List Bool) (b : ℕ) → get_or (map (λ (x : Bool). false) bs) b false ≡ false
unasked [] b = refl
unasked (x ∷ bs) zero = refl
unasked (x ∷ bs) (suc b) = unasked bs b

-- no buffer counts as asked about any more
pub anew : (stubs : List StubState) (pending : List (Option PendingMove)) (asked fresh : List Bool) (count : ℕ) → AreTracked stubs pending asked count →
    fresh ≡ map (λ (b : Bool). false) asked → AreTracked stubs pending fresh count
anew stubs pending asked fresh count kept is =
    record {
      size = kept.size;
      few = kept.few;
      issued = kept.issued;
      within = subst (λ n. AreWithin n pending) (sym (ap (λ (bs : List Bool). length bs) is ∙ length-map asked (λ (b : Bool). false))) kept.within;
      counted = kept.counted;
    }

-- one buffer less counts as asked about
pub unask : (pending : List (Option PendingMove)) (asked skip : List Bool) (i : ℕ) → i < length asked → length skip ≡ length asked →
    ((b : ℕ) → get_or skip b false ≡ is_left_out_of asked pending b) →
    (b : ℕ) → get_or (set skip i (list_any (is_of_move i) pending)) b false ≡ is_left_out_of (set asked i false) pending b
unask pending asked skip i low size told b =
    ⊎_elim
    (λ (same : b ≡ i).
    ap (λ n. get_or (set skip i (list_any (is_of_move i) pending)) n false) same
    ∙ (get_or-set_same skip i (list_any (is_of_move i) pending) false (omega (arith, low, size))
    ∙ sym (ap (λ n. is_left_out_of (set asked i false) pending n) same
    ∙ ap (λ (t : Bool). t || list_any (is_of_move i) pending) (get_or-set_same asked i false false low))))
    (λ apart.
    get_or-set_other skip i b (list_any (is_of_move i) pending) false apart
    ∙ (told b ∙ ap (λ (t : Bool). t || list_any (is_of_move b) pending) (sym (get_or-set_other asked i b false false apart))))
    (cases_eq b i)

-- and fewer do
pub fewer_asked : (asked : List Bool) (i : ℕ) → get_or asked i false ≡ true → i < length asked →
    count_by (λ (b : Bool). b) (set asked i false) < count_by (λ (b : Bool). b) asked
fewer_asked asked i given low =
    omega (arith, count-set (λ (b : Bool). b) asked i false false low, ap {A = Bool} {B = ℕ} (λ b. cond b 1 0) given)

-- where none does, what is skipped are the buffers of pending moves
pub none_asked : (pending : List (Option PendingMove)) (asked old : List Bool) → length asked ≡ length old → ((b : ℕ) → get_or asked b false ≡ false) →
    asked ≡ map (λ (b : Bool). false) old
none_asked pending asked old size none =
    ext_get_or false asked (map (λ (b : Bool). false) old) (size ∙ sym (length-map old (λ (b : Bool). false)))
    (λ b below. none b ∙ sym (unasked old b))

-- a buffer that was asked about is one of them
pub asked_within : (asked : List Bool) (i : ℕ) → get_or asked i false ≡ true → i < length asked
asked_within asked i given =
    ⊎_elim (λ low. low) (λ past. absurd (both_ways (get_or asked i false) (get_or_past asked i false past) given)) (cases_lt i (length asked))

-- a place at which a move is pending is one of them
pub pending_within : (pending : List (Option PendingMove)) (slot : ℕ) (m : PendingMove) → get_or pending slot None ≡ Some m → slot < length pending
pending_within pending slot m was =
    ⊎_elim (λ low. low)
    (λ past. absurd (both_ways (is_some (get_or pending slot None)) (ap is_some (get_or_past pending slot None past)) (ap is_some was)))
    (cases_lt slot (length pending))
