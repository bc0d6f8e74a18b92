use Rattle.std.proofs.Common.{◌<◌, ℕ, bit_xor, length, arith, slice_index}
use Rattle.std.proofs.lemmas.List.{get_or_default}
use Rattle.std.proofs.lemmas.List.Edits.{map_over_more}
use Rattle.hmac_core.proofs.keyed.xored.Goals as goal

pub loop-byte-preserved : goal.loop-byte-preserved
loop-byte-preserved c =
    let items = c.loop-byte.byte-items in
    let i = c.loop-byte.byte-index in
    let byte = slice_index items i in
    let in_block : i < length c.args.block = omega arith in
    let in_items : i < length items = omega arith in
    record {
      len = c.loop-byte.invariant.len;
      done = map_over_more (λ (b : ℕ). bit_xor b c.args.pad) c.args.block items i byte in_block
          c.loop-byte.invariant.done (get_or_default items i 0 byte in_items);
    }
