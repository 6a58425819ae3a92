use Rattle.std.proofs.Common.{◌≡◌, ◌≤◌, vec_len, vec_capacity}
use Rattle.kmem_buf.specs.Homes.{stub_homes}
use Rattle.record_table.specs.Shares.{shares_of, fresh_shares}
use Rattle.record_table.proofs.shares.Shares.create.Given as goal

-- so many shares were dealt
abbrev pub invariant-loop-place : goal.invariant-loop-place
invariant-loop-place l = record {
  shares : shares_of l.stubs.items ≡ record { homes = stub_homes l.stubs.items; out = l.place; brought = 0; fetched = 0 };
  dealt : l.dealt.items ≡ fresh_shares 0 (stub_homes l.stubs.items);
  stubs : (vec_len l.stubs ≡ l.place) × (l.count ≤ vec_capacity l.stubs);
  room : (vec_len l.dealt ≡ l.place) × (l.count ≤ vec_capacity l.dealt);
}
