use Rattle.std.proofs.Common.{◌≡◌, ◌∷◌, ◌++◌, [], ap, ◌∙◌, append_assoc}
use Rattle.hist_lock.specs.Passes.{PassState}
use Rattle.hist_lock.proofs.Passes.{All-last}
use Rattle.hist_lock.proofs.gather.gather_all.Goals as goal

pub join-requires-clause-other : goal.join-requires-clause-other
join-requires-clause-other g c =
    let P : PassState g.row.O-Entry.Denot g.row.O-Home.Denot → Type 0 = λ p. p.site.table ≡ c.args.line.now.table_id in
    let popped = c.in-Some-pop.ensures in
    (c.into_seat.ensures.table ∙ (All-last P c.loop-pass.passes.items c.pop-in-loop-pass.new.self.items c.in-Some-pop.pass popped.items c.loop-pass.invariant.of).1, c.into_seat.ensures.idle.1)

pub loop-pass-preserved : goal.loop-pass-preserved
loop-pass-preserved g c =
    let P : PassState g.row.O-Entry.Denot g.row.O-Home.Denot → Type 0 = λ p. p.site.table ≡ c.args.line.now.table_id in
    let popped = c.in-Some-pop.ensures in let pass = c.in-Some-pop.pass in let left = c.pop-in-loop-pass.new.self.items in
    let inv = c.loop-pass.invariant in let done = inv.gathered.0 in let had = inv.gathered.2 in let seat = c.into_seat.ensures in let both = c.join.ensures.joined in
    record {
      table = c.join.ensures.same.0 ∙ inv.table;
      of = (All-last P c.loop-pass.passes.items left pass popped.items inv.of).0;
      gathered = (
        pass ∷ done,
        inv.gathered.1 ∙ (ap (λ l. l ++ done) popped.items ∙ append_assoc left (pass ∷ []) done),
        record {
          idle = ap (λ m. m.0.stage) both ∙ had.idle;
          empty = ap (λ m. m.1) both ∙ had.empty;
          claims = ap (λ m. m.0.claims) both ∙ (λ i. seat.claim i ++ had.claims i);
        },
      );
    }
