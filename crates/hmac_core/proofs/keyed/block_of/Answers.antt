use Rattle.std.proofs.Common.{◌<◌, ◌≤◌, length, take, ap, sym, ◌∙◌, arith}
use Rattle.hmac_core.proofs.HmacLemmas.{IsMacLen-bound, block_len_of-bound, short_key-long, short_key-short, take-with_zeros}
use Rattle.hmac_core.specs.Hash.{block_len_of, digest_of}
use Rattle.hmac_core.specs.Hmac.{with_zeros}
use Rattle.hmac_core.proofs.keyed.block_of.Goals as goal

pub returns-then-key-block_len : goal.returns-then-key-block_len
returns-then-key-block_len c =
    let len = block_len_of c.args.hash in
    let bound = block_len_of-bound c.args.hash in
    let fits : length c.args.key.now ≤ len = omega arith in
    ap (take len) c.padded.ensures ∙ take-with_zeros len 128 c.args.key.now fits bound.1
    ∙ ap (with_zeros len) (sym (short_key-short (digest_of c.args.hash) len c.args.key.now fits))

pub returns-else-key-block_len : goal.returns-else-key-block_len
returns-else-key-block_len c =
    let len = block_len_of c.args.hash in
    let bound = block_len_of-bound c.args.hash in
    let digest = c.as_slice.result.now in
    let digest_fits = IsMacLen-bound (length digest) c.as_slice.ensures.len in
    let fits : length digest ≤ len = omega arith in
    let long : len < length c.args.key.now = omega arith in
    ap (take len) c.padded-else-key-block_len.ensures ∙ take-with_zeros len 128 digest fits bound.1
    ∙ ap (with_zeros len) (c.as_slice.ensures.bytes ∙ c.digest.ensures
    ∙ sym (short_key-long (digest_of c.args.hash) len c.args.key.now long))
