use Rattle.std.proofs.Common.{◌≡◌, ◌++◌, drop, length, take}
use Rattle.hmac_core.specs.Hmac.{xor_each}
use Rattle.hmac_core.proofs.keyed.xored.Given as goal

-- the bytes before the index are done, and the others are as they came
abbrev pub invariant-loop-byte : goal.invariant-loop-byte
invariant-loop-byte l = record {
  len : length l.fn.block ≡ 128;
  done : l.byte-items ≡ xor_each l.pad (take l.byte-index l.fn.block) ++ drop l.byte-index l.fn.block;
}
