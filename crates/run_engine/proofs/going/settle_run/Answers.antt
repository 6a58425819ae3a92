use Rattle.kmem_text.specs.Scripts.{plain}
use Rattle.run_engine.specs.Ran.{last_map}
use Rattle.run_engine.proofs.Reports.{report_so}
use Rattle.run_engine.proofs.going.settle_run.Goals as goal

pub invariant_of-result : goal.invariant_of-result
invariant_of-result c =
    record {
      workers = c.requires.plan;
      is = c.requires.closed.ran;
      printable = c.requires.closed.printable;
      report =
          report_so
          (record {
            yes = c.law_tally.ensures.yes;
            no_s = c.law_tally.ensures.no;
            later = c.law_tally.ensures.later;
            dont_need = c.law_tally.ensures.dont_need;
            dont_know = c.law_tally.ensures.dont_know;
            gone = c.law_tally.ensures.gone;
          })
          (record { held = c.law_taken.ensures.held; fixed = c.law_taken.ensures.fixed })
          c.args.plan (plain c.args.script) c.args.closed c.wind_up-settled.new.cache c.wind_up-settled.new.heap c.wind_up-settled.result c.live.result c.requires.closed
          (record {
            whole = c.law_whole.ensures.whole;
            buffers = c.wind_up-settled.ensures.buffers;
            wound_up = c.wind_up-settled.ensures.wound_up;
            stands = c.wind_up-settled.ensures.stands;
            records = c.wind_up-settled.ensures.records;
            live_is = c.wind_up-settled.ensures.live;
            fewest = c.wind_up-settled.ensures.fewest;
            answered = c.wind_up-settled.ensures.answered;
            done = c.wind_up-settled.ensures.settled;
            after = c.wind_up-settled.ensures.after;
            told = c.live.ensures.live;
          });
      live =
          let m = last_map c.args.plan (plain c.args.script) c.args.closed.ran.records.entries in
          let after = c.wind_up-settled.ensures.stands m c.requires.closed.addresses c.requires.closed.stands in
          c.live.ensures.live m after.0 after.1;
      page_is = c.requires.page;
    }
