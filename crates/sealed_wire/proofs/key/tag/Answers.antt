-- A MAC of SHA-256 has 32 bytes.
use Rattle.std.proofs.Common.{length, ap, sym, ◌∙◌}
use Rattle.hmac_core.specs.declared.hash.Hash.TheVariants.{Sha256}
use Rattle.sealed_wire.proofs.TagLemmas.{length-mac_of}
use Rattle.sealed_wire.proofs.key.tag.Goals as goal

pub copy_from_slice-requires : goal.copy_from_slice-requires
copy_from_slice-requires c =
    let key = c.key.inside.bytes.items in
    sym (ap length (c.as_slice.ensures.bytes ∙ c.mac-mac.ensures Sha256 key c.key.invariant.1) ∙ length-mac_of key c.args.bytes.now)
