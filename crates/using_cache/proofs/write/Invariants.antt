use Rattle.std.proofs.Common.{◌≡◌, ◌≤◌, vec_len, vec_capacity}
use Rattle.using_cache.proofs.write.Given as goal

-- the text so far stands in the message, which has kept its room
abbrev pub invariant-loop-byte : goal.invariant-loop-byte
invariant-loop-byte l = record {
  written : vec_len l.message ≡ l.byte-index;
  room : 64 ≤ vec_capacity l.message;
}
