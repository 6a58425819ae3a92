use Rattle.std.proofs.Common.{◌++◌, [], map, sym, subst}
use Rattle.std.specs.Prelude.{codes}
use Rattle.std.specs.Io.KnownBytes.{Appends}
use Rattle.kmem_io.specs.Streams.{AppendsFront}
use Rattle.kmem_model.specs.RunLines.{replies_at, by_worker, reply_line, place_line, as_lines}
use Rattle.run_print.proofs.Carried.{run_is, after_none, after_one, after_two, after_three, after_four, after_all}
use Rattle.std.specs.Result.{OnOk}
use Rattle.std.proofs.Common.{Result, Ok, Err}
use Rattle.run_print.proofs.print.print_run.Goals as goal

on_both : {T E A B C : Type 0} (r : Result T E) → OnOk r A → OnOk r B → (A → B → C) → OnOk r C
on_both (Ok x) h k f = f h k
on_both (Err e) h k f = tt

pub returns-in_err-print_head-clause-front : goal.returns-in_err-print_head-clause-front
returns-in_err-print_head-clause-front g c =
    subst (AppendsFront (g.W.Sink.written c.args.out.now) (g.W.Sink.written c.print_head.new.out))
    (sym (run_is c.args.workers c.args.script.now.names.items (replies_at c.args.entries.now)))
    (after_none _ c.args.page.now c.requires.page _ ((codes "=== replies\n") ++ ((as_lines (map (reply_line c.args.script.now.names.items) (by_worker c.args.workers (replies_at c.args.entries.now)))) ++ ((codes "=== history\n") ++ (as_lines (map place_line (replies_at c.args.entries.now)))))) c.in_err-print_head.ensures.front)

pub returns-in_err-print_replies-clause-front : goal.returns-in_err-print_replies-clause-front
returns-in_err-print_replies-clause-front g c =
    subst (AppendsFront (g.W.Sink.written c.args.out.now) (g.W.Sink.written c.print_replies.new.out))
    (sym (run_is c.args.workers c.args.script.now.names.items (replies_at c.args.entries.now)))
    (after_one _ c.args.page.now c.requires.page _ _ _ (codes "=== replies\n") (as_lines (map (reply_line c.args.script.now.names.items) (by_worker c.args.workers (replies_at c.args.entries.now)))) ((codes "=== history\n") ++ (as_lines (map place_line (replies_at c.args.entries.now)))) c.in_ok-print_head.ensures.carried c.in_err-print_replies.ensures.front)

pub returns-in_err-print_head-2-clause-front : goal.returns-in_err-print_head-2-clause-front
returns-in_err-print_head-2-clause-front g c =
    subst (AppendsFront (g.W.Sink.written c.args.out.now) (g.W.Sink.written c.print_head-2.new.out))
    (sym (run_is c.args.workers c.args.script.now.names.items (replies_at c.args.entries.now)))
    (after_two _ c.args.page.now c.requires.page _ _ _ _ _ (codes "=== replies\n") (as_lines (map (reply_line c.args.script.now.names.items) (by_worker c.args.workers (replies_at c.args.entries.now)))) [] ((codes "=== history\n") ++ (as_lines (map place_line (replies_at c.args.entries.now)))) c.in_ok-print_head.ensures.carried c.in_ok-print_replies.ensures.carried c.in_err-print_head-2.ensures.front)

pub returns-in_err-print_places-clause-front : goal.returns-in_err-print_places-clause-front
returns-in_err-print_places-clause-front g c =
    subst (AppendsFront (g.W.Sink.written c.args.out.now) (g.W.Sink.written c.print_places.new.out))
    (sym (run_is c.args.workers c.args.script.now.names.items (replies_at c.args.entries.now)))
    (after_three _ c.args.page.now c.requires.page _ _ _ _ _ _ _ (codes "=== replies\n") (as_lines (map (reply_line c.args.script.now.names.items) (by_worker c.args.workers (replies_at c.args.entries.now)))) (codes "=== history\n") (as_lines (map place_line (replies_at c.args.entries.now))) c.in_ok-print_head.ensures.carried c.in_ok-print_replies.ensures.carried c.in_ok-print_head-2.ensures.carried c.in_err-print_places.ensures.front)

pub returns-clause-front : goal.returns-clause-front
returns-clause-front g c =
    subst (AppendsFront (g.W.Sink.written c.args.out.now) (g.W.Sink.written c.write_out.new.out))
    (sym (run_is c.args.workers c.args.script.now.names.items (replies_at c.args.entries.now)))
    (after_four _ c.args.page.now c.requires.page _ _ _ _ _ _ _ _ _ (codes "=== replies\n") (as_lines (map (reply_line c.args.script.now.names.items) (by_worker c.args.workers (replies_at c.args.entries.now)))) (codes "=== history\n") (as_lines (map place_line (replies_at c.args.entries.now))) c.in_ok-print_head.ensures.carried c.in_ok-print_replies.ensures.carried c.in_ok-print_head-2.ensures.carried c.in_ok-print_places.ensures.carried c.write_out.ensures.front)

pub returns-clause-whole : goal.returns-clause-whole
returns-clause-whole g c =
    on_both c.write_out.result c.write_out.ensures.carried c.write_out.ensures.none
    (λ last none.
    subst (Appends (g.W.Sink.written c.args.out.now) (g.W.Sink.written c.write_out.new.out))
    (sym (run_is c.args.workers c.args.script.now.names.items (replies_at c.args.entries.now)))
    (after_all _ c.args.page.now c.requires.page _ _ _ _ _ _ _ _ _ _ (codes "=== replies\n") (as_lines (map (reply_line c.args.script.now.names.items) (by_worker c.args.workers (replies_at c.args.entries.now)))) (codes "=== history\n") (as_lines (map place_line (replies_at c.args.entries.now)))
    c.in_ok-print_head.ensures.carried c.in_ok-print_replies.ensures.carried c.in_ok-print_head-2.ensures.carried c.in_ok-print_places.ensures.carried last none))
