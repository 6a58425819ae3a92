use Rattle.std.proofs.Common.{◌≡◌, ℕ, ◌+◌, ◌<◌, ◌++◌, List, map, reverse, All, Contains, ap, sym, ◌∙◌, subst, arith}
use Rattle.std.specs.List.{sum_by, range_with_len}
use Rattle.std.proofs.lemmas.List.Elements.{All-same, All-weaker, All-contains}
use Rattle.std.proofs.lemmas.List.Sums.{sum_by-append}
use Rattle.table_sums.proofs.Spreads.{numbering}
use Rattle.kmem_model.specs.declared.record_entry.RecordEntry.{RecordEntry}
use Rattle.hist_lock.specs.History.{IsFront, entries_of}
use Rattle.hist_lock.specs.Passes.{PassState, Site}
use Rattle.kmem_cache.proofs.Partings.{sum-map}
use Rattle.record_table.specs.Shares.{ShareState}
use Rattle.record_table.specs.Tables.{TableHome, TableView, object_count}
use Rattle.record_table.specs.Sessions.{SessionState}
use Rattle.record_table.specs.Asks.{MoverState}
use Rattle.record_table.specs.Closing.{all_numbers}
use Rattle.record_table.proofs.Ends.{both_turned, sum_both, all_first, all_second, all_both}
use Rattle.record_table.proofs.table.RecordTable.close.Goals as goal

abbrev pass_of : SessionState → PassState RecordEntry TableHome
pass_of s = s.pass

abbrev mover_pass : MoverState → PassState RecordEntry TableHome
mover_pass m = m.pass

abbrev share_of : SessionState → ShareState
share_of s = s.share

abbrev mover_share : MoverState → ShareState
mover_share m = m.share

-- all passes, and all shares, are those of the sessions and of the movers
passes_are : (c : goal.After-part_movers-passes) → c.part_movers-passes.result.passes.items ≡ both_turned pass_of mover_pass c.args.sessions.items c.args.movers.items
passes_are c = c.part_movers-passes.ensures.passes ∙ ap (λ l. l ++ map mover_pass (reverse c.args.movers.items)) c.part_sessions-parts.ensures.passes

pub close-records-requires-clause-of : goal.close-records-requires-clause-of
close-records-requires-clause-of c =
    let P : PassState RecordEntry TableHome → Type 0 = λ p. p.site ≡ c.self.inside.lock in
    let own : (site : Site TableHome) → site ≡ c.args.self → site ≡ c.self.inside.lock = λ site e. e ∙ sym c.self.view_is in
    All-same P c.part_movers-passes.result.passes.items (both_turned pass_of mover_pass c.args.sessions.items c.args.movers.items) (passes_are c)
    (all_both pass_of mover_pass c.args.sessions.items c.args.movers.items P
    (All-weaker (λ s. s.pass.site ≡ c.args.self) (λ (s : SessionState). P s.pass) (λ s e. own s.pass.site e) c.args.sessions.items c.requires.of)
    (All-weaker (λ m. m.pass.site ≡ c.args.self) (λ (m : MoverState). P m.pass) (λ m e. own m.pass.site e) c.args.movers.items c.requires.movers_of))

shares_are : (c : goal.After-drop-self-inside) → c.part_movers-passes.result.shares.items ≡ both_turned share_of mover_share c.args.sessions.items c.args.movers.items
shares_are c = c.part_movers-passes.ensures.shares ∙ ap (λ l. l ++ map mover_share (reverse c.args.movers.items)) c.part_sessions-parts.ensures.shares

all_are : (c : goal.After-drop-self-inside) → c.part_movers-passes.result.passes.items ≡ both_turned pass_of mover_pass c.args.sessions.items c.args.movers.items
all_are c = c.part_movers-passes.ensures.passes ∙ ap (λ l. l ++ map mover_pass (reverse c.args.movers.items)) c.part_sessions-parts.ensures.passes

pub returns-clause-counts : goal.returns-clause-counts
returns-clause-counts c =
    let counted = c.close-records.ensures.stands.counted in
    let brought = c.take_back_all.ensures.brought ∙ ap (sum_by (λ (s : ShareState). s.brought)) (shares_are c) in
    let fetched = c.take_back_all.ensures.fetched ∙ ap (sum_by (λ (s : ShareState). s.fetched)) (shares_are c) in
    let ss = c.args.sessions.items in
    let ms = c.args.movers.items in
    omega (
      arith,
      counted,
      ap (λ (v : TableView). v.shares.brought) c.records.view_is,
      ap (λ (v : TableView). v.shares.fetched) c.records.view_is,
      ap (λ (v : TableView). object_count v.heap.heap) c.records.view_is,
      brought,
      fetched,
      sum_both share_of mover_share ss ms (λ (s : ShareState). s.brought),
      sum_both share_of mover_share ss ms (λ (s : ShareState). s.fetched),
    )

abbrev front_in : List (ℕ × RecordEntry) → PassState RecordEntry TableHome → Type 0
front_in h p = IsFront p.seen h

abbrev exact_in : List (ℕ × RecordEntry) → PassState RecordEntry TableHome → Type 0
exact_in h p = entries_of p.number h ≡ p.mine

turned : (c : goal.After-drop-self-inside) (P : PassState RecordEntry TableHome → Type 0) → All P c.part_movers-passes.result.passes.items →
    All P (both_turned pass_of mover_pass c.args.sessions.items c.args.movers.items)
turned c P all = All-same P (both_turned pass_of mover_pass c.args.sessions.items c.args.movers.items) c.part_movers-passes.result.passes.items (sym (all_are c)) all

pub returns-clause-fronts : goal.returns-clause-fronts
returns-clause-fronts c =
    let P = front_in c.close-records.result.1.items in
    all_first pass_of mover_pass c.args.sessions.items c.args.movers.items P (turned c P c.close-records.ensures.fronts)

pub returns-clause-mover_fronts : goal.returns-clause-mover_fronts
returns-clause-mover_fronts c =
    let P = front_in c.close-records.result.1.items in
    all_second pass_of mover_pass c.args.sessions.items c.args.movers.items P (turned c P c.close-records.ensures.fronts)

pub returns-clause-exact : goal.returns-clause-exact
returns-clause-exact c =
    let P = exact_in c.close-records.result.1.items in
    all_first pass_of mover_pass c.args.sessions.items c.args.movers.items P (turned c P c.close-records.ensures.exact)

-- a mover's own entries are none
pub returns-clause-silent : goal.returns-clause-silent
returns-clause-silent c =
    let P = exact_in c.close-records.result.1.items in
    let own = all_second pass_of mover_pass c.args.sessions.items c.args.movers.items P (turned c P c.close-records.ensures.exact) in
    λ k d small. own k d small ∙ c.part_movers-passes.ensures.silent k d small

pub returns-clause-numbers : goal.returns-clause-numbers
returns-clause-numbers c =
    let ss = c.args.sessions.items in
    let ms = c.args.movers.items in
    let number : PassState RecordEntry TableHome → ℕ = λ p. p.number in
    numbering (all_numbers ss ms) c.args.self.count (λ weight.
    let numbers : sum_by weight (all_numbers ss ms) ≡ sum_by (λ (s : SessionState). weight s.pass.number) ss + sum_by (λ (m : MoverState). weight m.pass.number) ms =
    omega (
      arith,
      sum_by-append weight (map (λ (s : SessionState). s.pass.number) ss) (map (λ (m : MoverState). m.pass.number) ms),
      sum-map weight (λ (s : SessionState). s.pass.number) ss,
      sum-map weight (λ (m : MoverState). m.pass.number) ms,
    ) in
    let closed = ap (λ ps. sum_by weight (map number ps)) (sym (all_are c)) ∙ c.close-records.ensures.weighs weight in
    let both = sum-map weight number (both_turned pass_of mover_pass ss ms) ∙ sum_both pass_of mover_pass ss ms (λ (p : PassState RecordEntry TableHome). weight p.number) in
    numbers ∙ (sym both ∙ (closed ∙ ap (λ (k : Site TableHome). sum_by weight (range_with_len 0 k.count)) c.self.view_is)))

pub returns-clause-within : goal.returns-clause-within
returns-clause-within c =
    let h = c.close-records.result.1.items in
    let numbers = map (λ (p : PassState RecordEntry TableHome). p.number) c.part_movers-passes.result.passes.items in
    let closed = c.close-records.ensures in
    subst (λ n. All (λ (x : ℕ × RecordEntry). x.0 < n) h) (ap (λ (k : Site TableHome). k.count) c.self.view_is)
    (All-weaker (λ (x : ℕ × RecordEntry). Contains numbers x.0) (λ x. x.0 < c.self.inside.lock.count) (λ x has. All-contains (λ n. n < c.self.inside.lock.count) numbers x.0 closed.numbers.within has) h closed.others)
