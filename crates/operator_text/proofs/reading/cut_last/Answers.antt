use Rattle.std.proofs.Common.{sym, ◌∙◌, length, arith}
use Rattle.std.proofs.lemmas.Bool.{eqb-false, eqb-true}
use Rattle.operator_text.proofs.LastLemmas.{found, last_found, more_found}
use Rattle.operator_text.proofs.reading.cut_last.Goals as goal

pub returns-then-is_empty : goal.returns-then-is_empty
returns-then-is_empty c =
    let bytes = c.args.bytes.now in
    let line = c.in-Some.line.now in
    let rest = c.in-Some.rest.now in
    last_found bytes c.loop-line.place line rest
    (found bytes c.loop-line.place line rest c.loop-line.invariant.0 c.loop-line.invariant.1 c.in-Some.ensures.halves c.in-Some.ensures.some)
    (eqb-true (length rest) 0 (sym c.is_empty.ensures ∙ c.if-is_empty.true))

pub loop-line-preserved : goal.loop-line-preserved
loop-line-preserved c =
    let bytes = c.args.bytes.now in
    let line = c.in-Some.line.now in
    let rest = c.in-Some.rest.now in
    let some = eqb-false (length rest) 0 (sym c.is_empty.ensures ∙ c.if-is_empty.false) in (
      omega arith,
      more_found bytes c.loop-line.place line rest
          (found bytes c.loop-line.place line rest c.loop-line.invariant.0 c.loop-line.invariant.1 c.in-Some.ensures.halves c.in-Some.ensures.some)
          (omega (arith, some)),
    )
