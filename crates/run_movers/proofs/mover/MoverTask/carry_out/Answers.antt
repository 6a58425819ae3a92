use Rattle.std.proofs.Common.{◌≡◌, ◌++◌, List, length, refl, sym, ap, ◌∙◌, subst, arith}
use Rattle.std.specs.Prelude.{filter}
use Rattle.std.specs.List.{All}
use Rattle.kmem_model.specs.CacheCounts.{moves_begun, moves_ended, total}
use Rattle.kmem_model.specs.CacheScans.{is_begin, is_scan, scanning, has_rounds}
use Rattle.kmem_model.specs.Report.{counted_in, ends_in}
use Rattle.kmem_model.specs.declared.cache_entry.CacheEntry.{CacheEntry}
use Rattle.record_table.specs.Asks.{IsMoverOf}
use Rattle.consolidator.specs.Rounds.{IsOfMover}
use Rattle.consolidator.specs.Tallies.{ends_of}
use Rattle.run_movers.proofs.mover.MoverTask.carry_out.Goals as goal

pub returns : goal.returns
returns g c =
    let whole = c.drive.ensures.whole in
    let ready = c.requires.ready in
    let client = c.drive.new.client in
    let mine : c.drive.new.seat.pass.mine ≡ whole.entries = whole.worked.entered.mine ∙ ap (λ (xs : List CacheEntry). xs ++ whole.entries) ready.seat_none.0 in
    let pushed = ap length ready.place_none.0 in
    let popped = ap length ready.place_none.1 in
    let stays = c.drive.ensures.stays.1 in
    record {
      moved = record {
        driven = c.drive.ensures.driven;
        kinds = subst (All IsOfMover) (sym mine) whole.worked.entered.kinds;
        scans = ap (filter is_scan) mine ∙ whole.scans_are;
        rounds = ap (λ xs. has_rounds (scanning xs)) mine ∙ whole.rounds;
        begun = omega (arith, whole.worked.queued.begun, pushed, ready.place_none.2, ap (total moves_begun) mine);
        ended = omega (arith, whole.worked.queued.ended, popped, ready.place_none.2, ap (total moves_ended) mine);
        done = whole.done;
        tally = ap (λ n. n.tally.begun) whole.worked.entered.noted
            ∙ (c.law_notes.ensures.begun _ whole.entries ready.tally_none ∙ ap (λ xs. counted_in xs is_begin) (sym mine));
        ends = ap (λ n. ends_of n.tally) whole.worked.entered.noted ∙ (c.law_notes.ensures.ends _ whole.entries ready.tally_none ∙ ap ends_in (sym mine));
        given = c.drive.ensures.given;
        balance = omega (arith, c.drive.ensures.balance, pushed, popped, ready.seat_none.1, ready.seat_none.2, ready.fresh.counts.0, ready.fresh.counts.1);
        of = subst (λ t. IsMoverOf t client.mover.now) (ap (λ s. s.table) stays) client.of;
        seat_of = c.drive.ensures.of.0;
        place_of = c.drive.ensures.of.1;
        same = (refl, whole.worked.entered.number, ap (λ s. s.number) stays);
      };
      paced = λ i lt. let at = c.drive.ensures.paced i lt in (at.0, at.1.mover.now, at.2, at.3, at.4, at.5);
    }
