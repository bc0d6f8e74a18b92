use Rattle.std.proofs.Common.{◌≡◌, ℕ, ◌≤◌, List, [], ◌++◌, length, take, map, replicate, ap, sym, ◌∙◌, append-nil, length-append, arith}
use Rattle.std.proofs.lemmas.List.{length-replicate, length-take-le, take_all}
use Rattle.secret_text.specs.Base32.{padding_len, symbol_of}
use Rattle.secret_text.specs.Bits.{bits_of_each}
use Rattle.secret_text.proofs.BitsLemmas.{length-bits_of_each}
use Rattle.secret_text.proofs.ReadLemmas.{IsWritten-length, padding_len-room}
use Rattle.secret_text.proofs.WriteLemmas.{IsCanonical, text_of_canonical}
use Rattle.secret_text.proofs.base32.write_base32.Goals as goal

pub push_byte-requires-clause-room : goal.push_byte-requires-clause-room
push_byte-requires-clause-room c =
    let front = take c.loop-byte.byte-index c.as_slice-bytes.result.now in
    let written = IsWritten-length c.loop-byte.text.items c.loop-byte.bits (bits_of_each 8 front) c.loop-byte.invariant.written in
    let eights = length-bits_of_each 8 front in
    let i : c.loop-byte.byte-index ≤ length c.as_slice-bytes.result.now = omega arith in
    let len = length-take-le c.loop-byte.byte-index c.as_slice-bytes.result.now i in
    omega arith

pub finish-requires-clause-room : goal.finish-requires-clause-room
finish-requires-clause-room c =
    let front = take c.loop-byte.byte-index c.as_slice-bytes.result.now in
    let written = IsWritten-length c.loop-byte.text.items c.loop-byte.bits (bits_of_each 8 front) c.loop-byte.invariant.written in
    let eights = length-bits_of_each 8 front in
    let i : c.loop-byte.byte-index ≤ length c.as_slice-bytes.result.now = omega arith in
    let len = length-take-le c.loop-byte.byte-index c.as_slice-bytes.result.now i in
    omega arith

pub push_padding-requires : goal.push_padding-requires
push_padding-requires c =
    let bytes = c.as_slice-bytes.result.now in
    let front = take c.loop-byte.byte-index bytes in
    let done = c.finish.ensures (bits_of_each 8 front) c.loop-byte.invariant.written in
    let written = IsWritten-length c.finish.new.text.items [] (bits_of_each 8 front ++ replicate done.0 0) done.2 in
    let eights = length-bits_of_each 8 front in
    let whole = length-append (bits_of_each 8 front) (replicate done.0 0) in
    let zeros = length-replicate {A = ℕ} done.0 0 in
    let i : c.loop-byte.byte-index ≤ length bytes = omega arith in
    let len = length-take-le c.loop-byte.byte-index bytes i in
    let room = padding_len-room (length bytes) (length c.finish.new.text.items) done.0 (omega arith) (omega arith) done.1 in
    omega arith

pub returns-clause-text : goal.returns-clause-text
returns-clause-text c =
    let bytes = c.as_slice-bytes.result.now in
    let front = take c.loop-byte.byte-index bytes in
    let done = c.finish.ensures (bits_of_each 8 front) c.loop-byte.invariant.written in
    let all : front ≡ c.args.secret.now = take_all c.loop-byte.byte-index bytes (omega arith) ∙ c.as_slice-bytes.ensures.value in
    let pads : c.padding_of.result ≡ padding_len (length c.args.secret.now) =
    c.padding_of.ensures ∙ ap (λ (xs : List ℕ). padding_len (length xs)) c.as_slice-bytes.ensures.value in
    let is_canonical : IsCanonical c.args.secret.now c.push_padding.new.text.items = record {
      values = done.2.values;
      below_32 = done.2.below_32;
      zeros = done.0;
      few = done.1;
      same_bits = sym (append-nil (bits_of_each 5 done.2.values)) ∙ done.2.same_bits
          ∙ ap (λ (xs : List ℕ). bits_of_each 8 xs ++ replicate done.0 0) all;
      spelled = c.push_padding.ensures ∙ ap (λ (xs : List ℕ). xs ++ replicate c.padding_of.result 61) done.2.spelled
          ∙ ap (λ (n : ℕ). map symbol_of done.2.values ++ replicate n 61) pads;
    } in
    text_of_canonical c.args.secret.now c.push_padding.new.text.items is_canonical
