use Rattle.std.proofs.Common.{◌≡◌, ◌∙◌, true, false, List, codes, Option, Some, None, sym, ap}
use Rattle.std.specs.Prelude.{Box, option_map}
use Rattle.std.specs.Box.{box_value}
use Rattle.std.specs.Str.{bytes_eq}
use Rattle.std.proofs.lemmas.Bool.{cond-true, cond-false}
use Rattle.clap.specs.Words.{Text, Row, first_value, found_of, rows_of, subcommand_rows}
use Rattle.clap.specs.declared.parser.matches.Found.{Found}
use Rattle.clap.specs.declared.parser.matches.SubCommand.{SubCommand}
use Rattle.clap.specs.declared.parser.matches.ArgMatches.TheViews.{out-SubCommand}
use Rattle.clap.proofs.WalkLemmas.{first_value-rows}
use Rattle.command_line.specs.CommandLine.{run_in, gen_in, program_named, program_found}
use Rattle.command_line.proofs.words.program_found.Goals as goal

module _ {Z : Type 0} where
  -- the name and the rows, each known by itself
  both_known : (o : Option (Box SubCommand Z)) (name : Text) (rows : List Row) → Some name ≡ option_map (λ b. (out-SubCommand (box_value b)).name.now) o → Some rows ≡ option_map (λ p. p.1) (subcommand_rows o)
      → subcommand_rows o ≡ Some (name, rows)
  both_known None name rows e1 e2 = absurd cc
  both_known (Some b) name rows e1 e2 = cc

same_run : (a1 a2 b1 b2 d1 d2 f1 f2 g1 g2 : Option Text) → a1 ≡ a2 → b1 ≡ b2 → d1 ≡ d2 → f1 ≡ f2 → g1 ≡ g2 → run_in a1 b1 d1 f1 g1 ≡ run_in a2 b2 d2 f2 g2
same_run a1 a2 b1 b2 d1 d2 f1 f2 g1 g2 ea eb ed ef eg = λ i. run_in (ea i) (eb i) (ed i) (ef i) (eg i)

-- what the values of a run come to, by its rows
run_by_rows : (f : Found) (name : Text) → bytes_eq name (codes "run") ≡ true → run_in (first_value f (codes "slabs")) (first_value f (codes "chunks")) (first_value f (codes "workers")) (first_value f (codes "scans")) (first_value f (codes "desperate")) ≡ program_named name (rows_of f)
run_by_rows f name is =
    same_run _ _ _ _ _ _ _ _ _ _ (first_value-rows f (codes "slabs")) (first_value-rows f (codes "chunks")) (first_value-rows f (codes "workers")) (first_value-rows f (codes "scans")) (first_value-rows f (codes "desperate"))
    ∙ sym (cond-true (bytes_eq name (codes "run")) _ _ is)

same_gen : (a1 a2 b1 b2 d1 d2 : Option Text) → a1 ≡ a2 → b1 ≡ b2 → d1 ≡ d2 → gen_in a1 b1 d1 ≡ gen_in a2 b2 d2
same_gen a1 a2 b1 b2 d1 d2 ea eb ed = λ i. gen_in (ea i) (eb i) (ed i)

-- and those of a made script
gen_by_rows : (f : Found) (name : Text) → bytes_eq name (codes "run") ≡ false → bytes_eq name (codes "gen") ≡ true → gen_in (first_value f (codes "seed")) (first_value f (codes "workers")) (first_value f (codes "commands")) ≡ program_named name (rows_of f)
gen_by_rows f name e1 is =
    same_gen _ _ _ _ _ _ (first_value-rows f (codes "seed")) (first_value-rows f (codes "workers")) (first_value-rows f (codes "commands"))
    ∙ sym (cond-false (bytes_eq name (codes "run")) _ _ e1 ∙ cond-true (bytes_eq name (codes "gen")) _ _ is)

pub returns-then-eq-clause-program : goal.returns-then-eq-clause-program
returns-then-eq-clause-program c =
    let rows = both_known _ c.in_ok-name.name.now (rows_of (found_of c.in_ok-name.given.now)) c.in_ok-name.ensures.name c.in_ok-name.ensures.rows in
    c.run_in.ensures.program ∙ (run_by_rows (found_of c.in_ok-name.given.now) c.in_ok-name.name.now (sym c.eq.ensures ∙ c.if-eq.true) ∙ sym (ap program_found rows))

pub returns-then-eq-2-clause-program : goal.returns-then-eq-2-clause-program
returns-then-eq-2-clause-program c =
    let rows = both_known _ c.in_ok-name.name.now (rows_of (found_of c.in_ok-name.given.now)) c.in_ok-name.ensures.name c.in_ok-name.ensures.rows in
    c.gen_in.ensures.program
    ∙ (gen_by_rows (found_of c.in_ok-name.given.now) c.in_ok-name.name.now (sym c.eq.ensures ∙ c.if-eq.false) (sym c.eq-else-eq.ensures ∙ c.if-eq-2.true) ∙ sym (ap program_found rows))
