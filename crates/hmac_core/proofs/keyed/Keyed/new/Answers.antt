use Rattle.std.proofs.Common.{ℕ, subst}
use Rattle.hmac_core.proofs.HmacLemmas.{pad-block_key}
use Rattle.hmac_core.specs.Hash.{block_len_of, digest_of}
use Rattle.hmac_core.specs.Hasher.{HasTaken}
use Rattle.hmac_core.specs.Hmac.{ipad, opad}
use Rattle.hmac_core.specs.Keyed.{IsKeyed}
use Rattle.hmac_core.proofs.keyed.Keyed.new.Goals as goal

pub returns : goal.returns
returns c =
    let hash = c.args.hash in
    let len = c.block_len-block_len.ensures in
    let pads = λ (pad : ℕ). pad-block_key (digest_of hash) (block_len_of hash) pad c.args.key.now c.block_of-key.result c.block_of-key.ensures in
    unfold IsKeyed in (
      subst (HasTaken c.new.result hash) (rw (c.xored.ensures, len) (pads ipad)) c.new.ensures,
      subst (HasTaken c.new-2.result hash) (rw (c.xored-2.ensures, len) (pads opad)) c.new-2.ensures,
    )
