-- What the passes of a record table have put into its heap and taken out of it (this project's own).
use Rattle.std.specs.Prelude.{◌≡◌, ℕ, ◌+◌, List, [], ◌∷◌, Some, slice_get, slice_index, if◌then◌else◌}
use Rattle.std.specs.List.{sum_by}
use Rattle.atomic_table.specs.Seated.{TableId}
use Rattle.kmem_buf.specs.Homes.{stub_homes}
use Rattle.kmem_buf.specs.Stubs.{StubState}

-- a pass's share of the heap: its place among those of its table, how many buffers the pass has put in and taken out, and the home of its slip
pub record ShareState : Type 0 where
  pub place : ℕ
  pub brought : ℕ
  pub fetched : ℕ
  pub home : TableId

-- all shares of a table: the homes of their stubs, by place; how many shares are out; and what these have put in and taken out in all
pub record SharesState : Type 0 where
  pub homes : List TableId
  pub out : ℕ
  pub brought : ℕ
  pub fetched : ℕ

-- the facts with which a share is issued
abbrev pub share_facts : ℕ → ℕ → List ℕ
share_facts brought fetched = brought ∷ fetched ∷ 0 ∷ []

-- what a stub says of its share, while that is out
abbrev pub out_of : StubState → ℕ
out_of s = if s.issued then 1 else 0

abbrev pub brought_of : StubState → ℕ
brought_of s = if s.issued then slice_index s.facts 0 else 0

abbrev pub fetched_of : StubState → ℕ
fetched_of s = if s.issued then slice_index s.facts 1 else 0

-- what these stubs say together
abbrev pub shares_of : List StubState → SharesState
shares_of stubs =
    record {
      homes = stub_homes stubs;
      out = sum_by out_of stubs;
      brought = sum_by brought_of stubs;
      fetched = sum_by fetched_of stubs;
    }

-- the share is one of these homes
abbrev pub IsShareAt : List TableId → ShareState → Type 0
IsShareAt homes share = slice_get homes share.place ≡ Some share.home

-- a share that has put nothing in and taken nothing out; and one for each home, the first at this place
abbrev pub fresh_share : ℕ → TableId → ShareState
fresh_share place home = record { place = place; brought = 0; fetched = 0; home = home }

abbrev pub fresh_shares : ℕ → List TableId → List ShareState
fresh_shares place [] = []
fresh_shares place (home ∷ homes) = fresh_share place home ∷ fresh_shares (place + 1) homes

-- the share with so many more buffers put in, and taken out
abbrev pub counted_on : ℕ → ℕ → ShareState → ShareState
counted_on brought fetched share = record share { brought = share.brought + brought; fetched = share.fetched + fetched }
