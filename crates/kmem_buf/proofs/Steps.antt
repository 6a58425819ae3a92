-- Each kind of step keeps the rule.
use Rattle.std.proofs.Common.{◌≡◌, ◌≢◌, ◌⊎◌, ℕ, zero, suc, List, [], ◌∷◌, ◌++◌, length, set, inl, inr, refl, sym, ap, ◌∙◌, subst, ⊎_elim}
use mathlib.Core.Option.{Option, none, some, some-injective, some-ne-none}
use lib.ListN.{get_elem?}
use Rattle.atomic_table.specs.Table.{Me, Step, keeps, Allows, Splits, Joins}
use Rattle.atomic_table.proofs.Lists.{at_set}
use Rattle.kmem_buf.specs.declared.board.View.{View}
use Rattle.kmem_buf.specs.declared.board.View.TheVariants.{Free, Issued, Met, Out, Clashed, Gone}
use Rattle.kmem_buf.specs.Board.{FitsPlace, AreTied, Agrees, met, issued_part, out_part, Noted, Ended, IsStub, IsMeeting}

-- what stands in a list that grew by one, with its place
pub at_snoc_place : {A : Type 0} (l : List A) (a b : A) (j : ℕ) → get_elem? (l ++ a ∷ []) j ≡ some b → (get_elem? l j ≡ some b) ⊎ ((j ≡ length l) × (a ≡ b))
at_snoc_place [] a b zero e = inr (refl, some-injective a b e)
at_snoc_place [] a b (suc j) e = absurd (some-ne-none b (sym e))
at_snoc_place (x ∷ xs) a b zero e = inl e
at_snoc_place (x ∷ xs) a b (suc j) e = ⊎_elim inl (λ (t : (j ≡ length xs) × (a ≡ b)). inr (ap suc t.0, t.1)) (at_snoc_place xs a b j e)

-- a view at neither place fits any rule
elsewhere : (stub slip i : ℕ) (out : Option (List ℕ)) (u : View) → i ≢ stub → i ≢ slip → FitsPlace stub slip out i u → (stub' slip' : ℕ) (out' : Option (List ℕ)) → FitsPlace stub' slip' out' i u
elsewhere stub slip i out (Free f) ns nl h stub' slip' out' = absurd (ns h.0)
elsewhere stub slip i out (Issued f) ns nl h stub' slip' out' = absurd (ns h.0)
elsewhere stub slip i out (Met f g) ns nl h stub' slip' out' = absurd (ns h.0)
elsewhere stub slip i out (Out f) ns nl h stub' slip' out' = absurd (nl h.0)
elsewhere stub slip i out Clashed ns nl h stub' slip' out' = absurd h
elsewhere stub slip i out Gone ns nl h stub' slip' out' = tt

-- with no slip out, a view away from the stub's place fits any rule
idle : (stub slip i : ℕ) (out : Option (List ℕ)) (u : View) → out ≡ none → i ≢ stub → FitsPlace stub slip out i u → (stub' slip' : ℕ) (out' : Option (List ℕ)) → FitsPlace stub' slip' out' i u
idle stub slip i out (Free f) off ns h stub' slip' out' = absurd (ns h.0)
idle stub slip i out (Issued f) off ns h stub' slip' out' = absurd (ns h.0)
idle stub slip i out (Met f g) off ns h stub' slip' out' = absurd (ns h.0)
idle stub slip i out (Out f) off ns h stub' slip' out' = absurd (some-ne-none f (sym h.1 ∙ off))
idle stub slip i out Clashed off ns h stub' slip' out' = absurd h
idle stub slip i out Gone off ns h stub' slip' out' = tt

-- one view changes, and the others fit the new rule too
one_changes : (views : List View) (id : ℕ) (w : View) (stub slip : ℕ) (out : Option (List ℕ)) → ((i : ℕ) (u : View) → i ≢ id → get_elem? views i ≡ some u → FitsPlace stub slip out i u) → FitsPlace stub slip out id w
    → (i : ℕ) (u : View) → get_elem? (set views id w) i ≡ some u → FitsPlace stub slip out i u
one_changes views id w stub slip out others mine i u e =
    ⊎_elim
    (λ (x : (i ≡ id) × (w ≡ u)). subst (λ (y : ℕ × View). FitsPlace stub slip out y.0 y.1) (λ k. (sym x.0 k, x.1 k)) mine)
    (λ (x : (i ≢ id) × (get_elem? views i ≡ some u)). others i u x.0 x.1)
    (at_set views id i w u e)

-- a new seat comes last, and the others fit the new rule too
one_comes : (views : List View) (w : View) (stub slip : ℕ) (out : Option (List ℕ)) → ((i : ℕ) (u : View) → get_elem? views i ≡ some u → FitsPlace stub slip out i u) → FitsPlace stub slip out (length views) w
    → (i : ℕ) (u : View) → get_elem? (views ++ w ∷ []) i ≡ some u → FitsPlace stub slip out i u
one_comes views w stub slip out others mine i u e =
    ⊎_elim
    (λ (x : get_elem? views i ≡ some u). others i u x)
    (λ (x : (i ≡ length views) × (w ≡ u)). subst (λ (y : ℕ × View). FitsPlace stub slip out y.0 y.1) (λ k. (sym x.0 k, x.1 k)) mine)
    (at_snoc_place views w u i e)

-- the table starts with a stub that is not issued
pub begins : (f : List ℕ) → AreTied (Free f ∷ [])
begins f = record { stub = 0; slip = 0; out = none; fits = one }
  where
    one : (i : ℕ) (v : View) → get_elem? (Free f ∷ []) i ≡ some v → FitsPlace 0 0 none i v
    one zero v e = subst (FitsPlace 0 0 none 0) (some-injective (Free f) v e) (refl, refl)
    one (suc i) v e = absurd (some-ne-none v (sym e))

-- split a seat: the first seat becomes the key, and a new one is the stub's
pub opens : (id : ℕ) (f : List ℕ) → Splits Agrees id (Free f) Gone (Free f)
opens id f s h at =
    let mine : (id ≡ h.stub) × (h.out ≡ none) = h.fits id (Free f) at in
    let left = set s.views id Gone in
    record {
      stub = length left;
      slip = h.slip;
      out = none;
      fits = one_comes left (Free f) (length left) h.slip none
          (one_changes s.views id Gone (length left) h.slip none (λ i u away e. idle h.stub h.slip i h.out u mine.1 (λ is. away (is ∙ sym mine.0)) (h.fits i u e) (length left) h.slip none) tt) (refl, refl);
    }

-- swap: a stub that is not issued notes other facts
pub notes : (slots id : ℕ) (f facts : List ℕ) (new : ℕ) (st : Step (Unit {0})) → Allows Agrees slots id (Free f, []) 0 (λ _. new) (Noted facts st (Free f, []))
notes slots id f facts new st s h _ at _ =
    let mine : (id ≡ h.stub) × (h.out ≡ none) = h.fits id (Free f) at in (
      Free facts,
      keeps,
      tt,
      record { stub = h.stub; slip = h.slip; out = h.out; fits = one_changes s.views id (Free facts) h.stub h.slip h.out (λ i u away e. h.fits i u e) mine },
      refl,
    )

-- split a seat: the stub is issued, and a slip with its facts comes
pub issues : (id : ℕ) (f : List ℕ) → Splits Agrees id (Free f) (Issued f) (Out f)
issues id f s h at =
    let mine : (id ≡ h.stub) × (h.out ≡ none) = h.fits id (Free f) at in
    let left = set s.views id (Issued f) in
    record {
      stub = h.stub;
      slip = length left;
      out = some f;
      fits = one_comes left (Out f) h.stub (length left) (some f)
          (one_changes s.views id (Issued f) h.stub (length left) (some f) (λ i u away e. idle h.stub h.slip i h.out u mine.1 (λ is. away (is ∙ sym mine.0)) (h.fits i u e) h.stub (length left) (some f)) (mine.0, refl)) (refl, refl);
    }

-- join a seat: the stub takes in its slip, whose facts are its own
joins_issued : (id : ℕ) (f : List ℕ) (other : ℕ) (g : List ℕ) → Joins Agrees id (Issued f) other (Out g) (Met f g) Gone
joins_issued id f other g s h at apart there =
    let mine : (id ≡ h.stub) × (h.out ≡ some f) = h.fits id (Issued f) at in
    let theirs : (other ≡ h.slip) × (h.out ≡ some g) = ⊎_elim
    (λ (t : (other ≡ id) × (Met f g ≡ Out g)). absurd (apart t.0))
    (λ (t : (other ≢ id) × (get_elem? s.views other ≡ some (Out g))). h.fits other (Out g) t.1)
    (at_set s.views id other (Met f g) (Out g) there) in
    let same : f ≡ g = some-injective f g (sym mine.1 ∙ theirs.1) in
    let now = set s.views id (Met f g) in
    record {
      stub = h.stub;
      slip = h.slip;
      out = none;
      fits = one_changes now other Gone h.stub h.slip none
          (λ j v far e'. ⊎_elim
          (λ (t : (j ≡ id) × (Met f g ≡ v)). subst (λ (y : ℕ × View). FitsPlace h.stub h.slip none y.0 y.1) (λ k. (sym t.0 k, t.1 k)) (mine.0, refl, same))
          (λ (t : (j ≢ id) × (get_elem? s.views j ≡ some v)). elsewhere h.stub h.slip j h.out v (λ is. t.0 (is ∙ sym mine.0)) (λ is. far (is ∙ sym theirs.0)) (h.fits j v t.1) h.stub h.slip none)
          (at_set s.views id j (Met f g) v e')) tt;
    }

-- a stub that is not issued meets no slip
joins_free : (id : ℕ) (f : List ℕ) (other : ℕ) (g : List ℕ) → Joins Agrees id (Free f) other (Out g) Clashed Gone
joins_free id f other g s h at apart there =
    let mine : (id ≡ h.stub) × (h.out ≡ none) = h.fits id (Free f) at in
    let theirs : (other ≡ h.slip) × (h.out ≡ some g) = ⊎_elim
    (λ (t : (other ≡ id) × (Clashed ≡ Out g)). absurd (apart t.0))
    (λ (t : (other ≢ id) × (get_elem? s.views other ≡ some (Out g))). h.fits other (Out g) t.1)
    (at_set s.views id other Clashed (Out g) there) in
    absurd (some-ne-none g (sym theirs.1 ∙ mine.1))

joins : (id : ℕ) (v : View) (other : ℕ) (g : List ℕ) → IsStub v → Joins Agrees id v other (Out g) (met v (Out g)) Gone
joins id (Free f) other g is = joins_free id f other g
joins id (Issued f) other g is = joins_issued id f other g
joins id (Met f h) other g is = absurd is
joins id (Out f) other g is = absurd is
joins id Clashed other g is = absurd is
joins id Gone other g is = absurd is

-- swap: the issue ends, and the slip that was met was the stub's own
ends_met : (slots id : ℕ) (f g : List ℕ) (new : ℕ) (st : Step (Unit {0})) → Allows Agrees slots id (Met f g, []) 0 (λ _. new) (Ended st (Met f g, []))
ends_met slots id f g new st s h _ at _ =
    let mine : (id ≡ h.stub) × (h.out ≡ none) × (f ≡ g) = h.fits id (Met f g) at in (
      Free f,
      keeps,
      tt,
      record { stub = h.stub; slip = h.slip; out = h.out; fits = one_changes s.views id (Free f) h.stub h.slip h.out (λ i u away e. h.fits i u e) (mine.0, mine.1) },
      (mine.2, refl),
    )

ends : (slots id : ℕ) (v : View) (new : ℕ) (st : Step (Unit {0})) → IsMeeting v → Allows Agrees slots id (v, []) 0 (λ _. new) (Ended st (v, []))
ends slots id (Free f) new st is = absurd is
ends slots id (Issued f) new st is = absurd is
ends slots id (Met f g) new st is = ends_met slots id f g new st
ends slots id (Out f) new st is = absurd is
ends slots id Clashed new st is = λ s h _ at _. absurd (h.fits id Clashed at)
ends slots id Gone new st is = absurd is

-- the same, at a seat whose view is known
pub opens_as : (id : ℕ) (v : View) (f : List ℕ) → v ≡ Free f → Splits Agrees id v Gone v
opens_as id v f is = subst (λ (u : View). Splits Agrees id u Gone u) (sym is) (opens id f)

pub notes_as : (slots id : ℕ) (me : Me (Unit {0}) View) (f facts : List ℕ) (new : ℕ) (st : Step (Unit {0})) → me ≡ (Free f, []) → Allows Agrees slots id me 0 (λ _. new) (Noted facts st me)
notes_as slots id me f facts new st is = subst (λ (m : Me (Unit {0}) View). Allows Agrees slots id m 0 (λ _. new) (Noted facts st m)) (sym is) (notes slots id f facts new st)

pub issues_as : (id : ℕ) (v : View) (f : List ℕ) → v ≡ Free f → Splits Agrees id v (issued_part v) (out_part v)
issues_as id v f is = subst (λ (u : View). Splits Agrees id u (issued_part u) (out_part u)) (sym is) (issues id f)

pub joins_as : (id : ℕ) (v : View) (other : ℕ) (w : View) (g : List ℕ) → IsStub v → w ≡ Out g → Joins Agrees id v other w (met v w) Gone
joins_as id v other w g stub is = subst (λ (u : View). Joins Agrees id v other u (met v u) Gone) (sym is) (joins id v other g stub)

pub ends_as : (slots id : ℕ) (me : Me (Unit {0}) View) (new : ℕ) (st : Step (Unit {0})) → me.1 ≡ [] → IsMeeting me.0 → Allows Agrees slots id me 0 (λ _. new) (Ended st me)
ends_as slots id me new st none_held is = subst (λ (c : List (ℕ × Unit {0})). Allows Agrees slots id (me.0, c) 0 (λ _. new) (Ended st (me.0, c))) (sym none_held) (ends slots id me.0 new st is)
