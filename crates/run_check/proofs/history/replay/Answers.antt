use Rattle.std.proofs.Common.{◌≡◌, ◌+◌, ◌∙◌, Err, sym, subst, length, rules, arith, refl}
use Rattle.std.specs.Prelude.{All}
use Rattle.run_check.specs.Cursor.{lines_in}
use Rattle.run_check.specs.Kept.{kept_map}
use Rattle.run_check.specs.Shares.{left_in, IsShareWithin}
use Rattle.run_check.proofs.Replaying.{replayed_none, replayed_more, replay_stops, names_of}
use Rattle.run_check.proofs.ShareLists.{err_on}
use Rattle.run_check.proofs.history.replay.Goals as goal

pub loop-init : goal.loop-init
loop-init c =
    let names = length c.args.map.now.names.items in
    let workers = length c.args.shares.now.items in
    record {
      kept = c.requires.kept;
      within = c.requires.within;
      shares = refl;
      taken = omega arith;
      replayed = replayed_none names workers (left_in c.args.shares.now.items) (lines_in c.args.lines.now.rest.now) (kept_map c.args.map.now) c.requires.start (c.law_step.ensures.start names workers);
    }

pub loop-preserved : goal.loop-preserved
loop-preserved c =
    let names = length c.args.map.now.names.items in
    let workers = length c.args.shares.now.items in
    let old = c.loop.invariant.replayed in
    let h = c.in_ok-take_place.ensures in
    let new = replayed_more names workers (left_in c.args.shares.now.items) (lines_in c.args.lines.now.rest.now) (kept_map c.loop.map) (kept_map c.take_place.new.map) c.loop.shares.items c.take_place.new.shares.items _ _ c.loop.counter c.law_step.ensures.valid (λ m front rest. (c.law_history.ensures.legal m front rest).1) c.law_history.ensures.after old h.takes in
    let same : length c.loop.map.names.items ≡ length c.take_place.new.map.names.items =
    names_of names workers _ _ (kept_map c.loop.map) _ _ c.loop.counter old ∙ sym (names_of names workers _ _ (kept_map c.take_place.new.map) _ _ (c.loop.counter + 1) new) in
    record {
      kept = h.kept;
      within = subst (λ n. All (IsShareWithin n) c.take_place.new.shares.items) same h.within;
      shares = h.shares ∙ c.loop.invariant.shares;
      taken = omega (arith, h.taken, c.loop.invariant.taken);
      replayed = new;
    }

pub returns-in_err-take_place-clause-stops : goal.returns-in_err-take_place-clause-stops
returns-in_err-take_place-clause-stops c =
    let names = length c.args.map.now.names.items in
    let workers = length c.args.shares.now.items in
    let is : c.from_residual.result ≡ Err c.in_err-take_place.field-0.0 = search rules in
    err_on c.from_residual.result c.in_err-take_place.field-0.0 _ _ is
    (λ line h. (c.loop.counter, omega arith, omega (arith, h.0, c.loop.invariant.taken), replay_stops names workers _ _ (kept_map c.loop.map) _ _ c.loop.counter c.loop.invariant.replayed h.1))
    c.in_err-take_place.ensures.refused
