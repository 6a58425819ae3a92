-- A turn from its ticket to the next one's: what is known at each of its calls, and what it comes to.
use Rattle.std.proofs.Common.{◌≡◌, ℕ, ◌+◌, ◌^◌, ◌<◌, ◌≤◌, List, [], ◌∷◌, ◌++◌, length, ap, sym, ◌∙◌, refl, subst, arith, Option, Some, None, vec_capacity}
use Rattle.std.proofs.lemmas.List.{append-nil}
use Rattle.atomic_table.specs.Seated.{TableId}
use Rattle.hist_lock.specs.declared.rule.Held.{Held}
use Rattle.hist_lock.specs.declared.rule.Bounds.{Bounds}
use Rattle.hist_lock.specs.declared.rule.Claim.{Claim}
use Rattle.hist_lock.specs.declared.rule.Stage.TheVariants.{Idle, Holding}
use Rattle.hist_lock.specs.History.{entries_of, listed, told}
use Rattle.hist_lock.specs.Passes.{PassState, MayMeet, IsTurn}
use Rattle.hist_lock.specs.Rule.{own}
use Rattle.hist_lock.specs.Steps.{Sat, IsAt, at_stage, with_journal}
use Rattle.hist_lock.specs.Seats.{pass_state, IsResting, HasEntered, HasRun, HasNoted}
use Rattle.hist_lock.proofs.Moves.{entries_of-push}

-- the pass's entries after its turn
entries_of-told : {E : Type 0} (n : ℕ) (h : List (ℕ × E)) (e : Option E) → entries_of n (told h n e) ≡ entries_of n h ++ listed e
entries_of-told n h None = sym (append-nil (entries_of n h))
entries_of-told n h (Some x) = entries_of-push n h x

pub listed_few : {E : Type 0} (e : Option E) → length (listed e) ≤ 1
listed_few None = omega arith
listed_few (Some x) = omega arith

-- a turn that made no entry changes nothing that is noted
pub noted_none : {O E H : Type 0} (held : Held O E) (me : Sat O E H) → IsAt Holding ((0, held) ∷ []) me → held.journal.items ≡ (own me.0).seen → entries_of (own me.0).number (own me.0).seen ≡ (own me.0).mine
    → HasNoted None held held me.0 me
noted_none held me holds seen exact =
    let c = own me.0 in let mine : c.mine ≡ entries_of c.number held.journal.items = sym exact ∙ ap (entries_of c.number) (sym seen) in record {
      holds = holds;
      object = refl;
      journal = refl;
      room = refl;
      bounds = refl;
      claim = λ i. record { number = c.number; seen = sym seen i; mine = mine i };
    }

module _ {O E H : Type 0} (stands : O → List (ℕ × E) → Type 0) (home_of : O → H) (b : Bounds H) (table : TableId) (number left : ℕ)
    (me at_hand : Sat O E H) (held : Held O E) (resting : IsResting b number left me) (entered : HasEntered stands home_of me.0 held at_hand) where
  abbrev journal : List (ℕ × E)
  journal = held.journal.items

  abbrev pass : PassState E H
  pass = pass_state table b number left (own me.0)

  within : (home_of held.object ≡ b.home) × (length journal + me.0.left ≤ b.room) × (b.room < 2 ^ 32) × (b.room ≤ vec_capacity held.journal)
  within = let f = entered.found in f.within b resting.bounds

  pub meets : MayMeet pass journal
  meets = let f = entered.found in let w = within in let l = resting.left_is in record {
    front = f.front;
    exact = ap (λ n. entries_of n journal) (sym resting.number_is) ∙ f.exact;
    room = omega arith;
    bound = w.2;
  }

  -- the turn may run
  pub asks : (can : ℕ → H → List (ℕ × E) → Type 0) (p : PassState E H) → pass ≡ p
      → ((h : List (ℕ × E)) (object : O) → MayMeet p h → stands object h → home_of object ≡ p.site.home → can p.number p.site.home h)
      → can number (home_of held.object) journal
  asks can p view given = let f = entered.found in let w = within in
      let home : home_of held.object ≡ p.site.home = w.0 ∙ ap (λ (q : PassState E H). q.site.home) view in
      let may : can p.number p.site.home journal = given journal held.object (subst (λ (q : PassState E H). MayMeet q journal) view meets) f.stood home in
      subst (λ (x : ℕ × H). can x.0 x.1 journal) (λ i. ((sym (ap (λ (q : PassState E H). q.number) view)) i, sym home i)) may

  -- the claim of the seat that has the value
  own_number : (own at_hand.0).number ≡ number
  own_number = ap (λ (c : Claim E). c.number) entered.claim ∙ resting.number_is

  module _ {Out : Type 0} (can : H → List (ℕ × E) → Type 0) (tells : H → O → O → List (ℕ × E) → Out → Option E → Type 0) (out : Out) (entry : Option E)
      (new : Held O E) (run : Sat O E H) (view : run.0 ≡ at_hand.0) (hand : run.1 ≡ (0, new) ∷ []) (ran : HasRun stands home_of can tells number held new out entry) where
    pub run_at : IsAt Holding ((0, new) ∷ []) run
    run_at = let h = entered.holds in (ap (λ v. v.stage) view ∙ h.0, ap (λ v. v.claims) view ∙ (h.1 ∙ ap (λ v. own v ∷ []) (sym view)), hand)

    pub run_seen : new.journal.items ≡ (own run.0).seen
    run_seen = ap (λ j. j.items) ran.journal ∙ (sym (ap (λ (c : Claim E). c.seen) entered.claim) ∙ ap (λ v. (own v).seen) (sym view))

    pub run_number : (own run.0).number ≡ number
    run_number = ap (λ v. (own v).number) view ∙ own_number

    pub run_exact : entries_of number (own run.0).seen ≡ (own run.0).mine
    run_exact =
        let c : own run.0 ≡ with_journal journal (own me.0) = ap own view ∙ entered.claim in
        ap (λ (x : Claim E). entries_of number x.seen) c ∙ (ap (λ n. entries_of n journal) (sym resting.number_is) ∙ sym (ap (λ (x : Claim E). x.mine) c))

    -- the journal has room for the entry
    pub run_room : length (listed entry) ≤ left → length new.journal.items + length (listed entry) ≤ vec_capacity new.journal
    run_room fits = let w = within in let l = resting.left_is in omega (arith, ap (λ j. length j.items) ran.journal, ap (λ j. vec_capacity j) ran.journal)

    module _ (may : can (home_of held.object) journal) (last : Held O E) (noted_at : Sat O E H) (noted : HasNoted entry new last run.0 noted_at) where
      told_is : last.journal.items ≡ told journal number entry
      told_is = noted.journal ∙ (λ i. told (ran.journal i).items (run_number i) entry)

      stood_now : stands last.object (told journal number entry)
      stood_now = let f = entered.found in let r = ran.ran journal f.stood may in subst (λ o. stands o (told journal number entry)) (sym noted.object) r.0

      home_now : home_of last.object ≡ b.home
      home_now = let w = within in ap home_of noted.object ∙ (ran.home ∙ w.0)

      -- the value may be given back
      pub whole : (x : Held O E) × (bound : Bounds H) × IsAt Holding ((0, x) ∷ []) noted_at × (noted_at.0.bounds ≡ Some bound) × (x.journal.items ≡ (own noted_at.0).seen) × stands x.object x.journal.items × (home_of x.object ≡ bound.home) × (bound.room ≤ vec_capacity x.journal)
      whole = let w = within in let s = entered.same in (
        last,
        b,
        noted.holds,
        noted.bounds ∙ (ap (λ v. v.bounds) view ∙ (s.0 ∙ resting.bounds)),
        sym (ap (λ (c : Claim E). c.seen) noted.claim),
        subst (stands last.object) (sym told_is) stood_now,
        home_now,
        omega (arith, noted.room, ap (λ j. vec_capacity j) ran.journal),
      )

      module _ (left_now : ℕ) (fewer : left_now + length (listed entry) ≡ left) (me_now : Sat O E H) (freed : me_now ≡ (at_stage Idle noted_at.0, [])) (seat_left : noted_at.0.left ≡ left_now) where
        claim_now : own me_now.0 ≡ with_journal last.journal.items (own run.0)
        claim_now = ap (λ (m : Sat O E H). own m.0) freed ∙ noted.claim

        number_now : (own me_now.0).number ≡ number
        number_now = ap (λ (c : Claim E). c.number) claim_now ∙ run_number

        exact_now : entries_of number (own me_now.0).seen ≡ (own me_now.0).mine
        exact_now = ap (λ (c : Claim E). entries_of number c.seen) claim_now ∙ (ap (λ n. entries_of n last.journal.items) (sym run_number) ∙ sym (ap (λ (c : Claim E). c.mine) claim_now))

        pub rests : IsResting b number left_now me_now
        rests = let h = noted.holds in let s = entered.same in record {
          idle = (ap (λ (m : Sat O E H). m.0.stage) freed, ap (λ (m : Sat O E H). m.0.claims) freed ∙ (h.1 ∙ ap (λ (m : Sat O E H). own m.0 ∷ []) (sym freed)), ap (λ (m : Sat O E H). m.1) freed);
          bounds = ap (λ (m : Sat O E H). m.0.bounds) freed ∙ (noted.bounds ∙ (ap (λ v. v.bounds) view ∙ (s.0 ∙ resting.bounds)));
          left_is = ap (λ (m : Sat O E H). m.0.left) freed ∙ seat_left;
          number_is = number_now;
          exact = exact_now;
        }

        pub turned : IsTurn stands home_of (tells b.home) pass (pass_state table b number left_now (own me_now.0)) out journal entry
        turned = let f = entered.found in let w = within in let r = ran.ran journal f.stood may in
            let seen : (own me_now.0).seen ≡ told journal number entry = ap (λ (c : Claim E). c.seen) claim_now ∙ told_is in record {
              met = meets;
              before = held.object;
              after = last.object;
              stood = (f.stood, w.0);
              stands_now = (stood_now, home_now);
              answered = subst (λ (x : H × O). tells x.0 held.object x.1 journal out entry) (λ i. (w.0 i, sym noted.object i)) r.1;
              seen = seen;
              mine = sym exact_now ∙ (ap (entries_of number) seen ∙ (entries_of-told number journal entry ∙ ap (λ l. l ++ listed entry) (ap (λ n. entries_of n journal) (sym resting.number_is) ∙ f.exact)));
              left = fewer;
              exact = exact_now;
              site = refl;
              number = refl;
            }
