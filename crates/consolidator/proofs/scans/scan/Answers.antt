use Rattle.std.proofs.Common.{◌≡◌, ◌<◌, ◌||◌, ℕ, Bool, true, [], length, slice_get, Some, ap, ap₂, sym, ◌∙◌, refl, subst, Err}
use Rattle.std.proofs.lemmas.Bool.{false≢true}
use Rattle.std.specs.Bool.{then_some}
use Rattle.std.specs.Option.{IsSome}
use Rattle.kmem_buf.specs.Answers.{verdict_of, IsAnswerTo}
use Rattle.kmem_buf.specs.Homes.{Homes}
use Rattle.kmem_buf.specs.Owners.{verdict_at}
use Rattle.kmem_buf.specs.declared.owner.Stand.TheVariants.{Unknown}
use Rattle.kmem_model.specs.CacheOrder.{is_idle}
use Rattle.kmem_model.specs.Settle.{Course, gains, said_at}
use Rattle.kmem_model.specs.SettleTurns.{course_moved, IsMoveOn}
use Rattle.kmem_model.specs.declared.cache_entry.Said.{Said}
use Rattle.object_cache.specs.Cache.{CacheView}
use Rattle.kmem_answers.specs.Words.{said_of}
use Rattle.object_cache.specs.Moves.{PendingState, JobState}
use Rattle.object_cache.specs.declared.cache.BeginRefused.{BeginRefused}
use Rattle.object_cache.specs.declared.cache.BeginRefused.TheVariants.{Idle, NoMemory}
use Rattle.object_cache.specs.declared.tally.Tally.{Tally}
use Rattle.consolidator.specs.Tallies.{counted}
use Rattle.consolidator.specs.Owned.{holdings, holdings_after, stage_with, ScansWith}
use Rattle.consolidator.proofs.Within.{IsOnScan}
use Rattle.consolidator.proofs.Owning.{said_is, known_within, begun_empty}
use Rattle.consolidator.proofs.Turns.{same_from, same_to, on_scan_more, ends_same, scans_to, legal_idle, or_true}
use Rattle.consolidator.proofs.scans.scan.Given.{Over}
use Rattle.consolidator.proofs.scans.scan.Goals as goal
use Rattle.consolidator.proofs.scans.scan.Goals.{then-gained, else-gained, After-end, In-Err}

pub moves-init : goal.moves-init
moves-init g c =
    let begun = c.law_moves.ensures.started (stage_with c.args.cache.now.state (g.H.Owner.stands c.args.owner.now)) c.start_scan.new.self.state c.requires.whole c.start_scan.ensures.entry in
    record {
      homes = (c.start_scan.ensures.home, refl);
      meaning = λ m stands. stands;
      on = record { moves = []; whole = begun.0; same = sym begun.1; flag = refl; counts = refl; answered = tt; left = refl };
    }

-- One move

pub answer-answer-requires-clause-from : goal.answer-answer-requires-clause-from
answer-answer-requires-clause-from g c =
    let stands = g.H.Owner.stands c.moves.owner in
    let begun = c.law_moves.ensures.begun (stage_with c.moves.cache.state stands) c.in-Ok.job.move.no c.in-Ok.job.move.from c.in-Ok.job.move.to c.begin.new.self.state
    c.moves.invariant.on.whole c.in-Ok.ensures.entry in
    let from_is = same_from c.part-pending.result.0 c.in-Some.kept c.in-Ok.job c.from.result c.from.ensures c.part-pending.ensures.0 c.in-Some.ensures.kept.0 in
    subst (λ b. b < length stands) (sym from_is) (known_within c.moves.cache.state stands c.in-Ok.job.move.from begun.1)

pub answer-answer-requires-clause-empty : goal.answer-answer-requires-clause-empty
answer-answer-requires-clause-empty g c =
    let stands = g.H.Owner.stands c.moves.owner in let to = c.in-Ok.job.move.to in
    let empty = begun_empty c.moves.cache.state c.begin.new.self.state stands c.in-Ok.job.move.no c.in-Ok.job.move.from to c.moves.invariant.on.whole c.in-Ok.ensures.entry in
    let to_is = same_to c.part-pending.result.1 c.in-Some.kept c.in-Ok.job c.part-pending.ensures.1 c.in-Some.ensures.kept.0 c.in-Ok.ensures.job.to in
    subst (λ b. slice_get stands b ≡ Some Unknown) (sym to_is) empty

from_is : (g : Over) (c : goal.After-end g) → c.from.result ≡ c.in-Ok.job.move.from
from_is g c = same_from c.part-pending.result.0 c.in-Some.kept c.in-Ok.job c.from.result c.from.ensures c.part-pending.ensures.0 c.in-Some.ensures.kept.0

to_is : (g : Over) (c : goal.After-end g) → c.part-pending.result.1.number ≡ c.in-Ok.job.move.to
to_is g c = same_to c.part-pending.result.1 c.in-Some.kept c.in-Ok.job c.part-pending.ensures.1 c.in-Some.ensures.kept.0 c.in-Ok.ensures.job.to

-- the answer about the old buffer
abbrev said : (g : Over) → goal.After-end g → Said
said g c = said_at (stage_with c.moves.cache.state (g.H.Owner.stands c.moves.owner)) c.in-Ok.job.move.from

said_of_is : (g : Over) (c : goal.After-end g) → said_of (verdict_of c.answer-answer.result) ≡ said g c
said_of_is g c =
    let stands = g.H.Owner.stands c.moves.owner in
    ap said_of c.answer-answer.ensures.answer
    ∙ (ap (λ b. said_of (verdict_at stands b)) (from_is g c) ∙ sym (said_is c.moves.cache.state stands c.in-Ok.job.move.from))

-- the course at the loop's head
abbrev now : (g : Over) → goal.After-end g → Course
now g c = record { stage = stage_with c.moves.cache.state (g.H.Owner.stands c.moves.owner); moves = c.moves.invariant.on.moves }

made : (g : Over) (c : goal.After-end g) → IsMoveOn (now g c) (course_moved (now g c) c.in-Ok.job.move.from c.in-Ok.job.move.to c.end.new.self.state)
made g c =
    c.law_moves.ensures.ended (now g c) c.in-Ok.job.move.no c.in-Ok.job.move.from c.in-Ok.job.move.to c.begin.new.self.state c.end.new.self.state
    c.moves.invariant.on.whole c.in-Ok.ensures.entry
    (ends_same c.still.new.self.state c.begin.new.self.state c.end.new.self.state c.part-pending.result.0.no c.in-Ok.job.move.no
    (said_of (verdict_of c.answer-answer.result)) (said g c) c.end.ensures.entry
    (ap (λ (v : CacheView). v.state) c.in-Some.ensures.kept.1) (ap (λ (p : PendingState). p.no) (c.part-pending.ensures.0 ∙ ap (λ (k : JobState g.row.K-Object.Denot). k.move) c.in-Some.ensures.kept.0)) (said_of_is g c))

pub moves-smaller : goal.moves-smaller
moves-smaller g c = (made g c).fewer

gained_is : (g : Over) (c : goal.After-end g) → (c.moves.gained || gains (said g c)) ≡ c.if-gained.gained
gained_is g c =
    elim c.if-gained.branch [
      | then-gained w ↦ or_true c.moves.gained (gains (said g c)) w.if-gained.true ∙ (sym w.if-gained.true ∙ sym w.gained-is)
      | else-gained w ↦
          ap (λ (b : Bool). b || gains (said g c)) w.if-gained.false
          ∙ (ap gains (sym (said_of_is g c)) ∙ (ap (λ v. gains (said_of v)) (sym c.verdict-verdict.ensures) ∙ (sym w.frees_old-gained.ensures ∙ sym w.gained-is)))
    ]

tally_is : (g : Over) (c : goal.After-end g) → counted c.moves.tally (said g c) ≡ c.count.new.tally
tally_is g c =
    ap (counted c.moves.tally) (sym (said_of_is g c) ∙ ap said_of (sym c.verdict-verdict.ensures)) ∙ sym c.count.ensures

-- what the answer leaves of the owner's
left_is : (g : Over) (c : goal.After-end g) → holdings g.H.Owner.stands g.H.Owner.tenants c.answer-answer.new.self ≡ holdings_after (holdings g.H.Owner.stands g.H.Owner.tenants c.moves.owner) c.in-Ok.job.move.from c.in-Ok.job.move.to
left_is g c =
    let held = holdings g.H.Owner.stands g.H.Owner.tenants c.moves.owner in
    ap₂ (λ stands tenants. record { stands = stands; tenants = tenants }) c.answer-answer.ensures.stands c.answer-answer.ensures.tenants
    ∙ ap₂ (λ from to. holdings_after held from to) (from_is g c) (to_is g c)

pub moves-preserved : goal.moves-preserved
moves-preserved g c =
    let has = holdings g.H.Owner.stands g.H.Owner.tenants in let was = has c.args.owner.now in let held = has c.moves.owner in let left = has c.answer-answer.new.self in
    let from = c.in-Ok.job.move.from in let to = c.in-Ok.job.move.to in
    let old = c.args.cache.now.state in let tally = c.args.tally.now in let ended = c.end.new.self.state in
    record {
      homes = (
        c.end.ensures.home ∙ (c.in-Some.ensures.home ∙ (c.in-Ok.ensures.home ∙ c.moves.invariant.homes.0)),
        c.answer-answer.ensures.home ∙ c.moves.invariant.homes.1,
      );
      meaning = λ m stands. c.answer-answer.ensures.meaning m (c.moves.invariant.meaning m stands);
      on =
          subst (λ (b : Bool). IsOnScan old ended was left tally c.count.new.tally b) (gained_is g c)
          (subst (λ (t : Tally). IsOnScan old ended was left tally t (c.moves.gained || gains (said g c))) (tally_is g c)
          (on_scan_more old c.moves.cache.state was held left tally c.moves.tally c.moves.gained c.moves.invariant.on from to ended (said g c) refl (made g c)
          (begun_empty c.moves.cache.state c.begin.new.self.state held.stands c.in-Ok.job.move.no from to c.moves.invariant.on.whole c.in-Ok.ensures.entry) (left_is g c)));
    }

-- The end

-- the refusal is that the cache is idle
idle_is : (g : Over) (c : goal.In-Err g) → is_idle c.moves.cache.state ≡ true
idle_is g c = by_kind c.in-Err.field-0 (λ e. c.in-Err.ensures.idle.0 (ap Err e)) (λ e. c.in-Err.ensures.memory c.requires.never (ap Err e))
  where
    by_kind : (kind : BeginRefused) → (kind ≡ Idle → IsSome (then_some (is_idle c.moves.cache.state) c.moves.cache.state)) → (kind ≡ NoMemory → ⊥) → is_idle c.moves.cache.state ≡ true
    by_kind Idle legal never = legal_idle (is_idle c.moves.cache.state) c.moves.cache.state (legal refl)
    by_kind NoMemory legal never = absurd (never refl)

pub returns-in-Err-clause-scan : goal.returns-in-Err-clause-scan
returns-in-Err-clause-scan g c =
    let has = holdings g.H.Owner.stands g.H.Owner.tenants in let was = has c.args.owner.now in let held = has c.moves.owner in
    subst
    (λ (v : CacheView). ScansWith c.args.cache.now.state v.state was held c.args.tally.now c.moves.tally c.moves.gained)
    (sym c.in-Err.ensures.refused)
    (scans_to c.args.cache.now.state c.moves.cache.state was held c.args.tally.now c.moves.tally c.moves.gained c.moves.invariant.on
    (c.law_moves.ensures.idle (record { stage = stage_with c.moves.cache.state held.stands; moves = c.moves.invariant.on.moves }) (idle_is g c)))

pub returns-in_default-clause-scan : goal.returns-in_default-clause-scan
returns-in_default-clause-scan g c =
    let begun = c.law_moves.ensures.begun (stage_with c.moves.cache.state (g.H.Owner.stands c.moves.owner)) c.in-Ok.job.move.no c.in-Ok.job.move.from c.in-Ok.job.move.to c.begin.new.self.state
    c.moves.invariant.on.whole c.in-Ok.ensures.entry in
    absurd (false≢true (c.in_default.ensures.out.1 begun.0))

pub end-requires-clause-answer : goal.end-requires-clause-answer
end-requires-clause-answer g c =
    let constructed = g.K.Kind.constructed in let answer = c.answer-answer.result in let cells = (g.H.Owner.home c.moves.owner).cells in
    let to_is : c.part-pending.result.1.number ≡ c.part-pending.result.0.to =
    same_to c.part-pending.result.1 c.in-Some.kept c.in-Ok.job c.part-pending.ensures.1 c.in-Some.ensures.kept.0 c.in-Ok.ensures.job.to
    ∙ sym (ap (λ (p : PendingState). p.to) (c.part-pending.ensures.0 ∙ ap (λ (k : JobState g.row.K-Object.Denot). k.move) c.in-Some.ensures.kept.0)) in
    let home_is : g.H.Owner.home c.moves.owner ≡ c.still.new.self.home =
    c.moves.invariant.homes.1 ∙ (c.requires.home ∙ (sym c.moves.invariant.homes.0 ∙ (sym c.in-Ok.ensures.home ∙ sym c.in-Some.ensures.home))) in
    subst (λ (h : Homes). IsAnswerTo constructed h.cells c.part-pending.result.0.from c.part-pending.result.0.to answer) home_is
    (subst (λ (t : ℕ). IsAnswerTo constructed cells c.part-pending.result.0.from t answer) to_is
    (subst (λ (f : ℕ). IsAnswerTo constructed cells f c.part-pending.result.1.number answer) c.from.ensures c.answer-answer.ensures.buffers))
