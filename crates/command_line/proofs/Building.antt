-- What a chain of builders makes, one link at a time.
use Rattle.std.proofs.Common.{◌≡◌, ◌∙◌, false, ap, ap₂}
use Rattle.clap.specs.Words.{App, Rule, AddsArg, AddsSubcommand, app_of, rule_of, with_rule, with_subcommand}
use Rattle.clap.specs.declared.builder.arg.Arg.{Arg}
use Rattle.clap.specs.declared.builder.command.Command.{Command}
use Rattle.command_line.specs.CommandLine.{IsLocal}

-- one more argument
pub takes : {old new : Command} {a : Arg} {app : App} {r : Rule} → AddsArg old a new → a.global ≡ false → app_of old ≡ app → rule_of a ≡ r → app_of new ≡ with_rule app r
takes adds local before rule = adds.shape local ∙ ap₂ with_rule before rule

-- one more subcommand
pub joins : {old sub new : Command} {app below : App} → AddsSubcommand old sub new → IsLocal sub → app_of old ≡ app → app_of sub ≡ below → app_of new ≡ with_subcommand app below.top
joins adds local before sub = adds.shape local ∙ ap₂ with_subcommand before (ap (λ (a : App). a.top) sub)
