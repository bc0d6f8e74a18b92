use Rattle.std.proofs.Common.{ℕ, ◌<◌, List, ◌++◌, length, ap, sym, ◌∙◌, subst, arith}
use Rattle.std.specs.List.{filter_map}
use Rattle.hex.specs.Hex.{IsBytes}
use Rattle.secret_text.specs.Base32.{symbol_value}
use Rattle.secret_text.specs.Bits.{bits_of_each}
use Rattle.secret_text.proofs.BitsLemmas.{length-bits_of_each, length_of_pair}
use Rattle.secret_text.proofs.ReadLemmas.{count_refusal-none}
use Rattle.secret_text.proofs.base32.read_base32.Goals as goal

pub bytes_of-requires : goal.bytes_of-requires
bytes_of-requires c =
    let counted = count_refusal-none c.count_values.result (sym c.count_fault.ensures ∙ c.in_default-count_fault.is) in
    omega arith

pub secret_of-requires : goal.secret_of-requires
secret_of-requires c =
    let counted = count_refusal-none c.count_values.result (sym c.count_fault.ensures ∙ c.in_default-count_fault.is) in
    let values = filter_map symbol_value c.before_padding-text.result.now in
    let bytes = c.bytes_of.result.items in
    let rest = c.bytes_of.ensures.0 in
    let short : length rest < 8 = c.bytes_of.ensures.1 in
    let both = length_of_pair (bits_of_each 5 values) (bits_of_each 8 bytes) rest c.bytes_of.ensures.2 in
    let fives = length-bits_of_each 5 values in
    let eights = length-bits_of_each 8 bytes in
    let same = ap (length {A = ℕ}) c.deref.ensures.0 in
    (omega arith, omega arith)

pub returns-clause-found : goal.returns-clause-found
returns-clause-found c =
    let counted = count_refusal-none c.count_values.result (sym c.count_fault.ensures ∙ c.in_default-count_fault.is) in
    let values = filter_map symbol_value c.before_padding-text.result.now in
    let bytes = c.bytes_of.result.items in
    let rest = c.bytes_of.ensures.0 in
    let short : length rest < 8 = c.bytes_of.ensures.1 in
    let both = length_of_pair (bits_of_each 5 values) (bits_of_each 8 bytes) rest c.bytes_of.ensures.2 in
    let fives = length-bits_of_each 5 values in
    let eights = length-bits_of_each 8 bytes in
    record {
      are_bytes = subst IsBytes (sym c.secret_of.ensures.value) c.secret_of.ensures.bytes;
      rest = rest;
      short = omega arith;
      same_bits = ap (λ (xs : List ℕ). bits_of_each 5 (filter_map symbol_value xs)) (sym c.before_padding-text.ensures)
          ∙ c.bytes_of.ensures.2
          ∙ ap (λ (xs : List ℕ). bits_of_each 8 xs ++ rest) (sym (c.secret_of.ensures.value ∙ c.deref.ensures.0));
    }
