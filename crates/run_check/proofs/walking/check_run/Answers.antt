use Rattle.std.proofs.Common.{◌≡◌, ◌≢◌, ◌+◌, ◌∷◌, ◌<◌, ◌∙◌, Some, Err, ap, sym, subst, length, rules, refl, arith, replicate, None, Option, ℕ, List}
use Rattle.std.specs.Prelude.{slice_get}
use Rattle.std.proofs.Math.ListN.{length-replicate}
use Rattle.kmem_text.specs.Scripts.{plain}
use Rattle.kmem_model.specs.declared.record_entry.RecordEntry.{RecordEntry}
use Rattle.kmem_model.specs.Records.{RecordMap}
use Rattle.kmem_model.specs.Checked.{run_header, replies_header, history_header, report_header}
use Rattle.run_check.specs.Cursor.{lines_in}
use Rattle.run_check.specs.Kept.{kept_map}
use Rattle.run_check.specs.Shares.{told_in, left_in}
use Rattle.run_check.specs.Replayed.{HasReplayed, StopsReplay}
use Rattle.run_check.specs.declared.fault.Fault.TheVariants.{Illegal}
use Rattle.run_check.proofs.Asked.{illegal_is}
use Rattle.run_check.proofs.ShareLists.{err_on, on_ok, on_err, left_within}
use Rattle.run_check.proofs.Whole.{fresh_left, tells_history}
use Rattle.run_check.proofs.Walk.{refused_in_replies, refused_at_history, refused_in_history, refused_at_report, all_stand, told_len}
use Rattle.run_check.proofs.walking.check_run.Goals as goal

pub returns-in_err-shares-clause-illegal : goal.returns-in_err-shares-clause-illegal
returns-in_err-shares-clause-illegal c =
    let one = c.in_ok-expect.ensures.ok in
    let two = c.in_ok-expect-2.ensures.ok in
    let is : c.from_residual-in_err-shares.result ≡ Err c.in_err-shares.field-0.0 = search rules in
    err_on c.from_residual-in_err-shares.result c.in_err-shares.field-0.0 _ _ is
    (λ line h. refused_in_replies c.args.workers (plain c.args.script.now) (lines_in c.args.lines.now.rest.now) (lines_in c.expect-2.new.self.rest.now) c.args.lines.now.taken c.expect-2.new.self.taken line h.0 c.requires.script
    (one.0 ∙ ap (λ xs. run_header ∷ xs) two.0) (omega (arith, one.1, two.1)) h.1 h.2)
    c.in_err-shares.ensures.stops

pub returns-in_err-expect-3-clause-illegal : goal.returns-in_err-expect-3-clause-illegal
returns-in_err-expect-3-clause-illegal c =
    let one = c.in_ok-expect.ensures.ok in
    let two = c.in_ok-expect-2.ensures.ok in
    let err = c.in_err-expect-3.ensures.err in
    let is : c.from_residual-in_err-expect-3.result ≡ Err c.in_err-expect-3.field-0.0 = search rules in
    illegal_is c.from_residual-in_err-expect-3.result _ (c.read_replies.new.lines.taken + 1) (is ∙ ap Err err.0)
    (refused_at_history c.args.workers (plain c.args.script.now) (lines_in c.args.lines.now.rest.now) (lines_in c.expect-2.new.self.rest.now) (lines_in c.read_replies.new.lines.rest.now) (told_in 0 c.in_ok-shares.shares.items)
    c.args.lines.now.taken c.expect-2.new.self.taken c.read_replies.new.lines.taken _ c.requires.script (one.0 ∙ ap (λ xs. run_header ∷ xs) two.0) c.in_ok-shares.ensures.read (omega (arith, one.1, two.1)) c.in_ok-shares.ensures.taken refl err.1)

pub returns-in_err-replay-clause-illegal : goal.returns-in_err-replay-clause-illegal
returns-in_err-replay-clause-illegal c =
    let script = plain c.args.script.now in
    let shares = c.in_ok-shares.shares.items in
    let one = c.in_ok-expect.ensures.ok in
    let two = c.in_ok-expect-2.ensures.ok in
    let three = c.in_ok-expect-3.ensures.ok in
    let is : c.from_residual-in_err-replay.result ≡ Err c.in_err-replay.field-0.0 = search rules in
    let none : Option ℕ = None in
    let made : length c.in_ok-map.map.names.items ≡ c.len.result = ap (λ (m : RecordMap). length m.names) c.in_ok-map.ensures.1 ∙ length-replicate c.len.result none in
    let names : length c.in_ok-map.map.names.items ≡ length script.names = omega arith in
    err_on c.from_residual-in_err-replay.result c.in_err-replay.field-0.0 _ _ is
    (λ line h. refused_in_history c.law_reread.ensures (λ m front rest. (c.law_history.ensures.legal m front rest).0) c.args.workers script (lines_in c.args.lines.now.rest.now) (lines_in c.expect-2.new.self.rest.now) (lines_in c.read_replies.new.lines.rest.now) (lines_in c.expect-3.new.self.rest.now) (told_in 0 shares) (left_in shares)
    c.args.lines.now.taken c.expect-2.new.self.taken c.read_replies.new.lines.taken c.expect-3.new.self.taken line h.0 c.requires.script (one.0 ∙ ap (λ xs. run_header ∷ xs) two.0) c.in_ok-shares.ensures.read
    (fresh_left shares c.in_ok-shares.ensures.fresh) (λ p e rest mine. let within = left_within shares p e rest mine in omega (arith, within, c.in_ok-shares.ensures.count)) three.0 (omega (arith, one.1, two.1)) c.in_ok-shares.ensures.taken three.1 (omega (arith, h.1)) h.2
    (subst (λ n. StopsReplay n c.args.workers (left_in shares) (lines_in c.expect-3.new.self.rest.now) h.0) names (subst (λ w. StopsReplay (length c.in_ok-map.map.names.items) w (left_in shares) (lines_in c.expect-3.new.self.rest.now) h.0) c.in_ok-shares.ensures.count h.3)))
    c.in_err-replay.ensures.stops

pub returns-clause-stand : goal.returns-clause-stand
returns-clause-stand c =
    let script = plain c.args.script.now in
    let shares = c.in_ok-shares.shares.items in
    let one = c.in_ok-expect.ensures.ok in
    let two = c.in_ok-expect-2.ensures.ok in
    let three = c.in_ok-expect-3.ensures.ok in
    let replayed = c.in_ok-replay.ensures.replayed in
    let none : Option ℕ = None in
    let made : length c.in_ok-map.map.names.items ≡ c.len.result = ap (λ (m : RecordMap). length m.names) c.in_ok-map.ensures.1 ∙ length-replicate c.len.result none in
    let names : length c.in_ok-map.map.names.items ≡ length script.names = omega arith in
    let run_is = one.0 ∙ ap (λ xs. run_header ∷ xs) two.0 in
    let r : HasReplayed (length script.names) c.args.workers replayed.0 (left_in shares) (lines_in c.expect-3.new.self.rest.now) replayed.1 (lines_in c.replay.new.lines.rest.now) =
    subst (λ n. HasReplayed n c.args.workers replayed.0 (left_in shares) (lines_in c.expect-3.new.self.rest.now) replayed.1 (lines_in c.replay.new.lines.rest.now)) names
    (subst (λ w. HasReplayed (length c.in_ok-map.map.names.items) w replayed.0 (left_in shares) (lines_in c.expect-3.new.self.rest.now) replayed.1 (lines_in c.replay.new.lines.rest.now)) c.in_ok-shares.ensures.count replayed.3) in
    let size : length replayed.0 ≡ length script.lines = omega (arith, replayed.2) in
    let splits = λ (m : RecordMap) (front rest : List (ℕ × RecordEntry)). (c.law_history.ensures.legal m front rest).0 in
    on_ok c.expect-4.result _ _
    (λ four. all_stand splits c.args.workers script (lines_in c.args.lines.now.rest.now) (lines_in c.expect-2.new.self.rest.now) (lines_in c.read_replies.new.lines.rest.now) (lines_in c.expect-3.new.self.rest.now) (lines_in c.replay.new.lines.rest.now) _ (told_in 0 shares) replayed.0 (left_in shares) replayed.1
    c.requires.script run_is c.in_ok-shares.ensures.read (fresh_left shares c.in_ok-shares.ensures.fresh) three.0 r size four.0)
    c.expect-4.ensures.ok

pub returns-clause-tells : goal.returns-clause-tells
returns-clause-tells c =
    let script = plain c.args.script.now in
    let shares = c.in_ok-shares.shares.items in
    let one = c.in_ok-expect.ensures.ok in
    let two = c.in_ok-expect-2.ensures.ok in
    let three = c.in_ok-expect-3.ensures.ok in
    let replayed = c.in_ok-replay.ensures.replayed in
    let none : Option ℕ = None in
    let made : length c.in_ok-map.map.names.items ≡ c.len.result = ap (λ (m : RecordMap). length m.names) c.in_ok-map.ensures.1 ∙ length-replicate c.len.result none in
    let names : length c.in_ok-map.map.names.items ≡ length script.names = omega arith in
    let run_is = one.0 ∙ ap (λ xs. run_header ∷ xs) two.0 in
    let r : HasReplayed (length script.names) c.args.workers replayed.0 (left_in shares) (lines_in c.expect-3.new.self.rest.now) replayed.1 (lines_in c.replay.new.lines.rest.now) =
    subst (λ n. HasReplayed n c.args.workers replayed.0 (left_in shares) (lines_in c.expect-3.new.self.rest.now) replayed.1 (lines_in c.replay.new.lines.rest.now)) names
    (subst (λ w. HasReplayed (length c.in_ok-map.map.names.items) w replayed.0 (left_in shares) (lines_in c.expect-3.new.self.rest.now) replayed.1 (lines_in c.replay.new.lines.rest.now)) c.in_ok-shares.ensures.count replayed.3) in
    let size : length replayed.0 ≡ length script.lines = omega (arith, replayed.2) in
    let splits = λ (m : RecordMap) (front rest : List (ℕ × RecordEntry)). (c.law_history.ensures.legal m front rest).0 in
    let len = told_len c.args.workers script (told_in 0 shares) (lines_in c.expect-2.new.self.rest.now) (lines_in c.read_replies.new.lines.rest.now) c.requires.script c.in_ok-shares.ensures.read in
    on_ok c.expect-4.result _ _
    (λ four. tells_history c.args.workers script (lines_in c.args.lines.now.rest.now) (lines_in c.expect-2.new.self.rest.now) (lines_in c.read_replies.new.lines.rest.now) (lines_in c.expect-3.new.self.rest.now) (lines_in c.replay.new.lines.rest.now) _ shares replayed.0 replayed.1
    (sym c.in_ok-shares.ensures.count) (omega (arith, c.in_ok-shares.ensures.count)) c.requires.script.workers c.in_ok-shares.ensures.fresh run_is c.in_ok-shares.ensures.read three.0 r (size ∙ sym len) four.0)
    c.expect-4.ensures.ok

pub returns-clause-illegal : goal.returns-clause-illegal
returns-clause-illegal c =
    let script = plain c.args.script.now in
    let shares = c.in_ok-shares.shares.items in
    let one = c.in_ok-expect.ensures.ok in
    let two = c.in_ok-expect-2.ensures.ok in
    let three = c.in_ok-expect-3.ensures.ok in
    let replayed = c.in_ok-replay.ensures.replayed in
    let none : Option ℕ = None in
    let made : length c.in_ok-map.map.names.items ≡ c.len.result = ap (λ (m : RecordMap). length m.names) c.in_ok-map.ensures.1 ∙ length-replicate c.len.result none in
    let names : length c.in_ok-map.map.names.items ≡ length script.names = omega arith in
    let run_is = one.0 ∙ ap (λ xs. run_header ∷ xs) two.0 in
    let r : HasReplayed (length script.names) c.args.workers replayed.0 (left_in shares) (lines_in c.expect-3.new.self.rest.now) replayed.1 (lines_in c.replay.new.lines.rest.now) =
    subst (λ n. HasReplayed n c.args.workers replayed.0 (left_in shares) (lines_in c.expect-3.new.self.rest.now) replayed.1 (lines_in c.replay.new.lines.rest.now)) names
    (subst (λ w. HasReplayed (length c.in_ok-map.map.names.items) w replayed.0 (left_in shares) (lines_in c.expect-3.new.self.rest.now) replayed.1 (lines_in c.replay.new.lines.rest.now)) c.in_ok-shares.ensures.count replayed.3) in
    let size : length replayed.0 ≡ length script.lines = omega (arith, replayed.2) in
    let splits = λ (m : RecordMap) (front rest : List (ℕ × RecordEntry)). (c.law_history.ensures.legal m front rest).0 in
    on_err c.expect-4.result _ _ (c.replay.new.lines.taken + 1)
    (λ none_there. refused_at_report splits c.args.workers script (lines_in c.args.lines.now.rest.now) (lines_in c.expect-2.new.self.rest.now) (lines_in c.read_replies.new.lines.rest.now) (lines_in c.expect-3.new.self.rest.now) (lines_in c.replay.new.lines.rest.now) (told_in 0 shares) replayed.0 (left_in shares) replayed.1
    c.args.lines.now.taken c.expect-2.new.self.taken c.read_replies.new.lines.taken c.expect-3.new.self.taken c.replay.new.lines.taken (c.replay.new.lines.taken + 1)
    c.requires.script run_is c.in_ok-shares.ensures.read (fresh_left shares c.in_ok-shares.ensures.fresh) three.0 r size (omega (arith, one.1, two.1)) c.in_ok-shares.ensures.taken three.1 (omega (arith, c.in_ok-replay.ensures.taken)) refl none_there)
    c.expect-4.ensures.err
