use Rattle.std.proofs.Common.{◌<◌, ◌++◌, ◌∷◌, [], ap, sym, subst, ◌∙◌, append_assoc}
use Rattle.move_queue.specs.declared.rule.View.{View}
use Rattle.move_queue.specs.declared.rule.CountView.{CountView}
use Rattle.move_queue.specs.Seats.{known_by, HasGathered}
use Rattle.move_queue.proofs.Gathering.{last_of, part_of, first_in, more_in}
use Rattle.move_queue.proofs.close.gather_all.Goals as goal

pub loop-next-init : goal.loop-next-init
loop-next-init g c =
    let ring = c.args.ring.now.table.shared.table_id in let line = c.args.line.now in let last = c.in-Some.last in let part = c.part-pass in let pass = part.result.0 in let mark = part.result.1 in
    let items = c.in-Some.ensures.items in
    let of = last_of ring line.table_id line.key c.args.seats.items c.pop.new.self.items last items c.requires.of in
    let same = part_of ring line.table_id line.key last pass.table_id mark.table_id (known_by pass) mark.me.0 of.0 part.ensures.seat in
    record {
      pass = (same.0, part.ensures.free.0);
      mark = same.1;
      of = of.1;
      gathered = (last ∷ [], items, first_in line.key last pass.table_id mark.table_id (known_by pass) mark.me.0 part.ensures.seat same.2 part.ensures.agree);
    }

pub join_pass-requires-clause-of : goal.join_pass-requires-clause-of
join_pass-requires-clause-of g c =
    let ring = c.args.ring.now.table.shared.table_id in let line = c.args.line.now in let next = c.in-Some-pop.next in let part = c.part-other_pass in let inv = c.loop-next.invariant in
    let of = last_of ring line.table_id line.key c.loop-next.seats.items c.pop-in-loop-next.new.self.items next c.in-Some-pop.ensures.items inv.of in
    let same = part_of ring line.table_id line.key next part.result.0.table_id part.result.1.table_id (known_by part.result.0) part.result.1.me.0 of.0 part.ensures.seat in
    (inv.pass, (same.0, part.ensures.free.0))

pub join_pass-requires-clause-some : goal.join_pass-requires-clause-some
join_pass-requires-clause-some g c = let gathered = c.loop-next.invariant.gathered in subst (λ n. 0 < n) (sym gathered.2.many) gathered.2.some

pub join_mark-requires-clause-other : goal.join_mark-requires-clause-other
join_mark-requires-clause-other g c =
    let ring = c.args.ring.now.table.shared.table_id in let line = c.args.line.now in let next = c.in-Some-pop.next in let part = c.part-other_pass in let inv = c.loop-next.invariant in
    let of = last_of ring line.table_id line.key c.loop-next.seats.items c.pop-in-loop-next.new.self.items next c.in-Some-pop.ensures.items inv.of in
    let same = part_of ring line.table_id line.key next part.result.0.table_id part.result.1.table_id (known_by part.result.0) part.result.1.me.0 of.0 part.ensures.seat in
    (same.1, part.ensures.free.1)

pub join_mark-requires-clause-some : goal.join_mark-requires-clause-some
join_mark-requires-clause-some g c = let gathered = c.loop-next.invariant.gathered in subst (λ n. 0 < n) (sym gathered.2.counts_many) gathered.2.some

pub loop-next-preserved : goal.loop-next-preserved
loop-next-preserved g c =
    let X = g.row.K-Object.Denot in
    let ring = c.args.ring.now.table.shared.table_id in let line = c.args.line.now in let next = c.in-Some-pop.next in let part = c.part-other_pass in let inv = c.loop-next.invariant in
    let rest = c.pop-in-loop-next.new.self.items in let items = c.in-Some-pop.ensures.items in let done = inv.gathered.0 in
    let of = last_of ring line.table_id line.key c.loop-next.seats.items rest next items inv.of in
    let pass = c.join_pass in let mark = c.join_mark in
    let v = known_by c.loop-next.pass in let w = known_by part.result.0 in let d = part.result.1.me.0 in let m = c.loop-next.mark.me.0 in
    let all = more_in line.key next done part.result.0.table_id part.result.1.table_id v w m d part.ensures.seat inv.gathered.2 part.ensures.agree in
    record {
      pass = (pass.ensures.same.0 ∙ inv.pass.0, pass.ensures.same.2 ∙ inv.pass.1);
      mark = mark.ensures.same.0 ∙ inv.mark;
      of = of.1;
      gathered = (
        next ∷ done,
        inv.gathered.1 ∙ (ap (λ l. l ++ done) items ∙ append_assoc rest (next ∷ []) done),
        subst (λ (p : View X × CountView). HasGathered line.key (next ∷ done) p.0 p.1) (λ i. (sym pass.ensures.joined i, ap (λ me. me.0) (sym mark.ensures.joined) i)) all,
      );
    }
