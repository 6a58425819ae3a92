use Rattle.std.proofs.Common.{◌≡◌, ◌+◌, ◌++◌, ◌∷◌, [], Err, ap, length, rules, refl, arith}
use Rattle.kmem_model.specs.Checked.{asked_in_turn}
use Rattle.run_check.specs.Cursor.{lines_in}
use Rattle.run_check.specs.Told.{StopsReading}
use Rattle.run_check.specs.Shares.{told_in, IsShareWithin}
use Rattle.run_check.specs.declared.share.Share.{Share}
use Rattle.run_check.proofs.ShareLists.{reads_pass, stops_in_pass, share_more, length-told_more, err_on}
use Rattle.run_check.proofs.replies.read_replies.Goals as goal

pub returns-in_err-told-clause-stops : goal.returns-in_err-told-clause-stops
returns-in_err-told-clause-stops c =
    let names = c.args.script.now.names.items in
    let lines = c.args.script.now.lines.items in
    let told = told_in 0 c.loop-pass.shares.items in
    let is : c.from_residual-in_err-told.result ≡ Err c.in_err-told.field-0.0 = search rules in
    err_on c.from_residual-in_err-told.result c.in_err-told.field-0.0 _ _ is
    (λ line h. (length told + h.0, omega (arith, h.1, c.loop-pass.invariant.taken), stops_in_pass names lines c.args.workers c.loop-pass.pass told _ _ h.0 (omega arith) c.loop-pass.invariant.read h.2))
    c.in_err-told.ensures.stops

pub loop-pass-preserved : goal.loop-pass-preserved
loop-pass-preserved c =
    let names = c.args.script.now.names.items in
    let s : Share = record { told = c.in_ok-told.told; next = 0 } in
    let put : c.push.new.self.items ≡ c.loop-pass.shares.items ++ s ∷ [] = c.in_ok-push.ensures.items in
    record {
      within = share_more (IsShareWithin (length names)) c.loop-pass.shares.items c.push.new.self.items s put c.in_ok-told.ensures.within c.loop-pass.invariant.within;
      fresh = share_more (λ (share : Share). share.next ≡ 0) c.loop-pass.shares.items c.push.new.self.items s put refl c.loop-pass.invariant.fresh;
      count = search rules;
      read = reads_pass names c.args.script.now.lines.items c.loop-pass.pass c.loop-pass.shares.items c.push.new.self.items s _ _ _ put c.loop-pass.invariant.count c.loop-pass.invariant.read c.in_ok-told.ensures.read;
      taken = omega (arith, length-told_more c.loop-pass.shares.items c.push.new.self.items s c.loop-pass.pass put c.loop-pass.invariant.count, c.loop-pass.invariant.taken, c.in_ok-told.ensures.taken);
    }
