use Rattle.std.proofs.Common.{◌≡◌, ◌<◌, ◌^◌, take, fold}
use Rattle.contradiction_checker.specs.Chains.{with_byte}
use Rattle.contradiction_checker.proofs.chain.with_bytes.Given as goal

abbrev pub invariant-loop-byte : goal.invariant-loop-byte
invariant-loop-byte l = record {
  value : l.number ≡ fold with_byte l.key (take l.byte-index l.bytes);
  small : l.number < 2 ^ 32;
}
