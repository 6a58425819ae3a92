use Rattle.std.proofs.Common.{◌≡◌, ◌+◌, ◌<◌, ◌∷◌, ◌∙◌, ap, sym, subst, length, map, drop, rules, arith, refl}
use Rattle.run_check.specs.Cursor.{lines_in}
use Rattle.run_check.specs.Kept.{kept_map}
use Rattle.run_check.specs.Told.{entry_of}
use Rattle.run_check.specs.Shares.{left_of, left_in}
use Rattle.run_check.specs.declared.share.Share.{Share}
use Rattle.run_check.proofs.ShareLists.{left_at}
use Rattle.run_check.proofs.Placed.{has_next, told_range, refuses, takes_place, same_share}
use Rattle.run_check.proofs.history.take_place.Goals as goal

pub next_told-told-requires : goal.next_told-told-requires
next_told-told-requires c =
    let shares = c.args.shares.now.items in
    let pass = c.in-Some-find_share.pass in
    let s = c.index.result.now in
    let some = c.in-Some-find_share.ensures.some in
    let small : pass < length shares = omega (arith, c.in-Some-find_share.ensures.within, ap length c.deref.ensures.value) in
    has_next s.told.items s.next some.0 some.1 (sym (left_at shares pass s small c.index.ensures) ∙ ap (λ xs. left_in xs pass) (sym c.deref.ensures.value) ∙ some.2)

pub takes-requires-clause-range : goal.takes-requires-clause-range
takes-requires-clause-range c =
    let shares = c.args.shares.now.items in
    let pass = c.in-Some-find_share.pass in
    let s = c.index.result.now in
    let some = c.in-Some-find_share.ensures.some in
    let small : pass < length shares = omega (arith, c.in-Some-find_share.ensures.within, ap length c.deref.ensures.value) in
    let next = has_next s.told.items s.next some.0 some.1 (sym (left_at shares pass s small c.index.ensures) ∙ ap (λ xs. left_in xs pass) (sym c.deref.ensures.value) ∙ some.2) in
    told_range (length c.args.map.now.names.items) _ shares pass s c.next_told-told.result c.requires.within small c.index.ensures next c.next_told-told.ensures.at refl c.requires.workers.1

pub returns-then-not-branch-clause-refused : goal.returns-then-not-branch-clause-refused
returns-then-not-branch-clause-refused c =
    let shares = c.args.shares.now.items in
    let pass = c.in-Some-find_share.pass in
    let s = c.index.result.now in
    let some = c.in-Some-find_share.ensures.some in
    let small : pass < length shares = omega (arith, c.in-Some-find_share.ensures.within, ap length c.deref.ensures.value) in
    let number : c.number-number.result ≡ c.args.lines.now.taken + 1 = search rules in (
      number,
      refuses _ shares _ (lines_in c.next.new.self.rest.now) c.in-Some.line.now pass s c.next_told-told.result some.0 some.1 _ c.requires.workers.0 small c.index.ensures c.in-Some.ensures.line
          (ap (λ xs. left_in xs pass) (sym c.deref.ensures.value) ∙ some.2) some.3 c.next_told-told.ensures.left (c.in_ok-takes.ensures.wrong c.if-not-branch.true),
    )

pub returns-clause-takes : goal.returns-clause-takes
returns-clause-takes c =
    let shares = c.args.shares.now.items in
    let pass = c.in-Some-find_share.pass in
    let s = c.index.result.now in
    let some = c.in-Some-find_share.ensures.some in
    let small : pass < length shares = omega (arith, c.in-Some-find_share.ensures.within, ap length c.deref.ensures.value) in
    let next = has_next s.told.items s.next some.0 some.1 (sym (left_at shares pass s small c.index.ensures) ∙ ap (λ xs. left_in xs pass) (sym c.deref.ensures.value) ∙ some.2) in
    let range = told_range (length c.args.map.now.names.items) (kept_map c.args.map.now) shares pass s c.next_told-told.result c.requires.within small c.index.ensures next c.next_told-told.ensures.at refl c.requires.workers.1 in
    let s' : Share = record { told = c.index_mut.result.now.told; next = c.index_mut.result.now.next + 1 } in
    let left : left_of s ≡ entry_of c.next_told-told.result ∷ left_of s' = c.next_told-told.ensures.left ∙ ap (λ (x : Share). entry_of c.next_told-told.result ∷ map entry_of (drop (x.next + 1) x.told.items)) (same_share shares pass s c.index_mut.result.now small c.index.ensures c.index_mut.ensures.value) in
    takes_place _ _ shares _ _ c.in-Some.line.now pass s s' c.next_told-told.result some.0 some.1 small c.index.ensures c.in-Some.ensures.line
    (ap (λ xs. left_in xs pass) (sym c.deref.ensures.value) ∙ some.2) some.3 left range (c.in_ok-takes.ensures.right c.if-not-branch.false)
