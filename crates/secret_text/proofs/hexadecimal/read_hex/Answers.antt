use Rattle.std.proofs.Common.{rules, ◌≡◌, ◌<◌, ◌≤◌, length, Ok, Err, sym, ap, ◌∙◌, Some, arith}
use Rattle.hex.specs.Hex.{decode_of}
use Rattle.secret_text.proofs.HexLemmas.{refusal-err, refusal-ok}
use Rattle.secret_text.proofs.hexadecimal.read_hex.Goals as goal

pub returns-in-Ok-clause-fault : goal.returns-in-Ok-clause-fault
returns-in-Ok-clause-fault c =
    let decoded : decode_of c.args.text.now ≡ Ok c.decode_to_slice.new.out = search rules in
    let some : 0 < length c.args.text.now = search rules in
    let fits : length c.args.text.now ≤ 256 = omega arith in
    sym (refusal-ok c.args.text.now c.decode_to_slice.new.out some c.if-text-ne0.false fits decoded)

pub returns-in-Err-clause-fault : goal.returns-in-Err-clause-fault
returns-in-Err-clause-fault c =
    let decoded : decode_of c.args.text.now ≡ Err c.in-Err.error = search rules in
    let some : 0 < length c.args.text.now = search rules in
    let fits : length c.args.text.now ≤ 256 = omega arith in
    sym (refusal-err c.args.text.now c.in-Err.error some c.if-text-ne0.false fits decoded
    ∙ ap Some (sym c.fault_of.ensures))
