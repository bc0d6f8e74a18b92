use Rattle.std.proofs.Common.{◌≡◌, length, ap, ◌∙◌, arith}
use Rattle.floors_file.proofs.SealedLemmas.{length_mac_of}
use Rattle.floors_file.proofs.sealed.mac_digits.Goals as goal

pub unwrap-requires : goal.unwrap-requires
unwrap-requires c =
    let len : length c.as_slice.result.now ≡ 32 = ap length (c.as_slice.ensures.bytes ∙ c.hmac-mac.ensures) ∙ length_mac_of c.args.key.now c.args.body.now in
    c.encode_to_slice.ensures.fits.1 (omega (arith, len))
