use Rattle.std.proofs.Common.{◌≡◌, ℕ, refl, add-zero, ◌+◌, ◌<◌, length, slice_get, Some, arith, true, false, is_some, inl, inr, set, sym, ap, ap₂, ◌∙◌, subst, subst₂}
use Rattle.kmem_model.specs.Says.{says}
use Rattle.kmem_model.specs.Heap.{object_at, places_of}
use Rattle.kmem_model.specs.Settle.{places_after}
use Rattle.kmem_answers.specs.Words.{said_of}
use Rattle.kmem_buf.specs.declared.client.Verdict.{Verdict}
use Rattle.kmem_buf.specs.declared.client.Verdict.TheVariants as verdict
use Rattle.std.proofs.lemmas.Option.{slice_get_within}
use Rattle.record_table.specs.Shares.{SharesState}
use Rattle.marks.specs.Words.{MarkPenState}
use Rattle.record_table.specs.Tables.{TableView}
use Rattle.record_table.specs.Moves.{StaysStanding}
use Rattle.record_table.proofs.Moved.{stays_after, word_there, brought_said, fetched_said}
use Rattle.record_table.proofs.records.Records.answer_move.Goals as goal
use Rattle.record_table.proofs.records.Records.answer_move.Goals.{in-Yes, in-DontNeed, in-No}

pub returns-clause-stands : goal.returns-clause-stands
returns-clause-stands c =
    let f = c.self.inside in
    let t : TableView = record { heap = f.heap; pen = f.pen; shares = f.shares; names = f.names; workers = f.workers } in
    let from = c.args.from in
    let to = c.args.to.number in
    let did = c.answer_move-answer in
    let said : (v : Verdict) → c.verdict.result ≡ v → says f.heap.heap true from ≡ said_of v =
    (λ v is. sym did.ensures.answer ∙ ap said_of (sym c.verdict.ensures ∙ is)) in
    let low : to < length f.heap.heap.objects = omega (
      arith,
      slice_get_within f.heap.home.cells to c.args.to.home
          (subst (λ (v : TableView). slice_get v.heap.home.cells to ≡ Some c.args.to.home) (sym c.self.view_is) c.requires.ask.ready.of),
      c.self.invariant.objects,
    ) in
    let there : is_some (object_at f.heap.heap from) ≡ true = sym c.lists.ensures ∙ c.if-not-lists.false in
    let counted : (shares : SharesState) (b d : ℕ) (v : Verdict) → says f.heap.heap true from ≡ said_of v →
    shares ≡ record f.shares { brought = f.shares.brought + b; fetched = f.shares.fetched + d } → b ≡ brought_said (said_of v) → d ≡ fetched_said (said_of v) →
    (shares.brought ≡ f.shares.brought + brought_said (says f.heap.heap true from)) × (shares.fetched ≡ f.shares.fetched + fetched_said (says f.heap.heap true from)) =
    (λ shares b d v is same more less. (
      ap (λ (s : SharesState). s.brought) same ∙ ap (λ n. f.shares.brought + n) (more ∙ sym (ap brought_said is)),
      ap (λ (s : SharesState). s.fetched) same ∙ ap (λ n. f.shares.fetched + n) (less ∙ sym (ap fetched_said is)),
    )) in
    let none : (v : Verdict) → says f.heap.heap true from ≡ said_of v → 0 ≡ brought_said (said_of v) → 0 ≡ fetched_said (said_of v) →
    (f.shares.brought ≡ f.shares.brought + brought_said (says f.heap.heap true from)) × (f.shares.fetched ≡ f.shares.fetched + fetched_said (says f.heap.heap true from)) =
    (λ v is more less. (
      sym (add-zero f.shares.brought) ∙ ap (λ n. f.shares.brought + n) (more ∙ sym (ap brought_said is)),
      sym (add-zero f.shares.fetched) ∙ ap (λ n. f.shares.fetched + n) (less ∙ sym (ap fetched_said is)),
    )) in
    let stays : (pen : MarkPenState) (shares : SharesState) → (t.pen.known ≡ places_of f.heap.heap.objects → pen.known ≡ places_after false (says f.heap.heap true from) from to t.pen.known) →
    (shares.brought ≡ t.shares.brought + brought_said (says f.heap.heap true from)) × (shares.fetched ≡ t.shares.fetched + fetched_said (says f.heap.heap true from)) →
    StaysStanding t (record t { heap = did.new.self; pen = pen; shares = shares }) =
    (λ pen shares words grown. stays_after t did.new.self pen shares from to (says f.heap.heap true from) did.ensures.heap did.ensures.stands words
    (record { there = there; empty = did.ensures.empty; low = low }) grown) in
    elim c.match-verdict.branch [
      | in-Yes w ↦
          subst₂ StaysStanding c.self.view_is (sym w.self-is)
          (stays w.clear.new.pen w.count-share.new.self (λ known.
          ap (λ (p : MarkPenState). p.known) w.clear.ensures
          ∙ (ap (λ (p : MarkPenState). set p.known from false) w.set.ensures
          ∙ (ap₂ (λ n b. set (set f.pen.known n b) from false) c.number-number.ensures (sym (word_there t from there known))
          ∙ ap (λ s. places_after false s from to f.pen.known) (sym (said verdict.Yes w.in-Yes.is)))))
          (counted w.count-share.new.self 1 1 verdict.Yes (said verdict.Yes w.in-Yes.is) w.count-share.ensures.shares refl refl))
      | in-DontNeed w ↦
          subst₂ StaysStanding c.self.view_is (sym w.self-is)
          (stays w.clear-in-DontNeed.new.pen w.count-share-in-DontNeed.new.self (λ known.
          ap (λ (p : MarkPenState). p.known) w.clear-in-DontNeed.ensures
          ∙ ap (λ s. places_after false s from to f.pen.known) (sym (said verdict.DontNeed w.in-DontNeed.is)))
          (counted w.count-share-in-DontNeed.new.self 0 1 verdict.DontNeed (said verdict.DontNeed w.in-DontNeed.is) w.count-share-in-DontNeed.ensures.shares refl refl))
      | in-No w ↦
          subst₂ StaysStanding c.self.view_is (sym w.self-is)
          (stays f.pen f.shares (λ known. elim w.in-No.is [
            | inl first ↦ ap (λ s. places_after false s from to f.pen.known) (sym (said verdict.No first))
            | inr other ↦ (elim other [
              | inl later ↦ ap (λ s. places_after false s from to f.pen.known) (sym (said verdict.Later later))
              | inr unknown ↦ ap (λ s. places_after false s from to f.pen.known) (sym (said verdict.DontKnow unknown))
            ])
          ])
          (elim w.in-No.is [
            | inl first ↦ none verdict.No (said verdict.No first) refl refl
            | inr other ↦ (elim other [
              | inl later ↦ none verdict.Later (said verdict.Later later) refl refl
              | inr unknown ↦ none verdict.DontKnow (said verdict.DontKnow unknown) refl refl
            ])
          ]))
    ]
