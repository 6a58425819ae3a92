use Rattle.std.proofs.Common.{◌≡◌, ◌∙◌, true, false, List, codes, Option, None, sym, ap}
use Rattle.std.specs.Str.{bytes_eq}
use Rattle.std.proofs.lemmas.Bool.{cond-true, cond-false}
use Rattle.clap.specs.Words.{Text, Row, first_value, found_of, rows_of}
use Rattle.clap.specs.declared.parser.matches.Found.{Found}
use Rattle.clap.proofs.WalkLemmas.{first_value-rows}
use Rattle.command_line.specs.CommandLine.{one_in, check_in, plan_named}
use Rattle.command_line.proofs.words.plan_named.Goals as goal

same_one : (a1 a2 b1 b2 d1 d2 : Option Text) → a1 ≡ a2 → b1 ≡ b2 → d1 ≡ d2 → one_in a1 b1 d1 ≡ one_in a2 b2 d2
same_one a1 a2 b1 b2 d1 d2 ea eb ed = cc

-- what the values of a subcommand come to, by its rows: the choice passes the names before it and is taken at its own
one_by_rows : (f : Found) (name : Text) → bytes_eq name (codes "one") ≡ true → one_in (first_value f (codes "slabs")) (first_value f (codes "chunks")) (first_value f (codes "every")) ≡ plan_named name (rows_of f)
one_by_rows f name is =
    same_one _ _ _ _ _ _ (first_value-rows f (codes "slabs")) (first_value-rows f (codes "chunks")) (first_value-rows f (codes "every"))
    ∙ sym (cond-true (bytes_eq name (codes "one")) _ _ is)

check_by_rows : (f : Found) (name : Text) → bytes_eq name (codes "one") ≡ false → bytes_eq name (codes "check") ≡ true → check_in (first_value f (codes "workers")) ≡ plan_named name (rows_of f)
check_by_rows f name e1 is =
    ap check_in (first_value-rows f (codes "workers"))
    ∙ sym (cond-false (bytes_eq name (codes "one")) _ _ e1 ∙ cond-true (bytes_eq name (codes "check")) _ _ is)

none_by_rows : (rows : List Row) (name : Text) → bytes_eq name (codes "one") ≡ false → bytes_eq name (codes "check") ≡ false → None ≡ plan_named name rows
none_by_rows rows name e1 e2 = sym (cond-false (bytes_eq name (codes "one")) _ _ e1 ∙ cond-false (bytes_eq name (codes "check")) _ _ e2)

pub returns-then-eq-clause-plan : goal.returns-then-eq-clause-plan
returns-then-eq-clause-plan c = c.one_in.ensures.plan ∙ one_by_rows (found_of c.args.given.now) c.args.name.now (sym c.eq.ensures ∙ c.if-eq.true)

pub returns-then-eq-2-clause-plan : goal.returns-then-eq-2-clause-plan
returns-then-eq-2-clause-plan c =
    c.check_in.ensures.plan ∙ check_by_rows (found_of c.args.given.now) c.args.name.now (sym c.eq.ensures ∙ c.if-eq.false) (sym c.eq-else-eq.ensures ∙ c.if-eq-2.true)

pub returns-else-eq-2-clause-plan : goal.returns-else-eq-2-clause-plan
returns-else-eq-2-clause-plan c =
    none_by_rows (rows_of (found_of c.args.given.now)) c.args.name.now (sym c.eq.ensures ∙ c.if-eq.false) (sym c.eq-else-eq.ensures ∙ c.if-eq-2.false)
