-- The line of a MAC.
use Rattle.std.proofs.Common.{◌≡◌, ℕ, ◌+◌, List, ◌++◌, length, arith}
use Rattle.std.specs.Prelude.{count_by}
use Rattle.std.proofs.lemmas.List.Splits.{length-slice_split}
use Rattle.hex.specs.Hex.{lower_digits}
use Rattle.hex.proofs.HexLemmas.{length-encode_with}
use Rattle.hmac_core.specs.Hash.{mac_of}
use Rattle.hmac_core.specs.Hmac.{block_key, ipad, opad, xor_each}
use Rattle.hmac_core.specs.declared.hash.Hash.TheVariants.{Sha256}
use Rattle.sha2.proofs.Facts256.{length-sha256}
use Rattle.sha2.specs.Sha256.{sha256}
use Rattle.token_file.specs.Fields.{is_line_end, lines_of}
use Rattle.floors_file.specs.Sealed.{mac_digits}

pub length_mac_of : (key body : List ℕ) → length (mac_of Sha256 key body) ≡ 32
length_mac_of key body =
    let block = block_key sha256 64 key in
    length-sha256 (xor_each opad block ++ sha256 (xor_each ipad block ++ body))

pub length_mac_digits : (key body : List ℕ) → length (mac_digits key body) ≡ 64
unfolding mac_digits
length_mac_digits key body =
    let bytes = length_mac_of key body in
    omega (arith, length-encode_with lower_digits (mac_of Sha256 key body), bytes)

pub length_lines : (text : List ℕ) → length (lines_of text) ≡ count_by is_line_end text + 1
length_lines text = length-slice_split is_line_end text
