use Rattle.std.proofs.Common.{◌≡◌, sym, ap, ◌∙◌, subst, arith}
use Rattle.kmem_buf.specs.Answers.{verdict_of}
use Rattle.kmem_buf.specs.declared.client.Verdict.TheVariants.{DontKnow}
use Rattle.marks.specs.Words.{MarkSeatState}
use Rattle.hist_lock.specs.Passes.{Site}
use Rattle.record_table.specs.Tables.{TableHome, IsStandingFor}
use Rattle.record_table.specs.Moves.{IsAsked, IsRightAnswer}
use Rattle.record_table.specs.Asks.{IsDueAfter}
use Rattle.record_table.proofs.Sessions.{looked_on, looked_on_more}
use Rattle.record_table.proofs.Due.{due_of, known_there}
use Rattle.record_table.proofs.table.RecordTable.answer.Goals as goal

pub returns-in-Answered-clause-asked : goal.returns-in-Answered-clause-asked
returns-in-Answered-clause-asked g c =
    let inv = c.loop.invariant.asking in
    let h = c.look-asked.ensures.0 in
    let turn = c.look-asked.ensures.1 in
    let before = turn.before in
    let answer = c.in-Answered.answer in
    let right : IsRightAnswer before c.args.from c.loop.to answer = subst (IsAsked before c.args.from c.loop.to) c.in-Answered.is turn.answered.1 in
    let looked = looked_on _ c.loop.pass c.look-asked.new.pass c.look-asked.result h turn in
    record {
      looked = looked_on_more c.args.pass.now c.loop.pass c.look-asked.new.pass inv.looked looked;
      loaded = omega (arith, inv.loads, ap (λ (s : MarkSeatState). s.loads) c.known.ensures);
      home = ap (λ (s : MarkSeatState). s.home) c.known.ensures ∙ inv.home;
      unknown = λ (unknown : verdict_of answer ≡ DontKnow). absurd (known_there before.heap.heap c.args.from (verdict_of answer) right.there right.right unknown);
      known = λ _.
          let home = turn.stood.1 ∙ ap (λ (s : Site TableHome). s.home) (sym turn.site) in
          record {
            before = before;
            home_is = home;
            stood = subst (IsStandingFor before) (sym turn.seen) turn.stood.0;
            there = right.there;
            right = right.right;
            due =
                subst (λ (home : TableHome). IsDueAfter home (verdict_of answer) c.look-asked.new.pass.seen) home
                (due_of before c.look-asked.new.pass.seen c.args.from (subst (IsStandingFor before) (sym turn.seen) turn.stood.0) (verdict_of answer) right.right);
          };
    }
