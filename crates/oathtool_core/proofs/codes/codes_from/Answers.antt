use Rattle.std.proofs.Common.{◌≡◌, ℕ, ◌+◌, List, ◌++◌, ap, ◌∙◌, sym}
use Rattle.program_edge.specs.Line.{line_of}
use Rattle.oathtool_core.specs.Codes.{code_at, code_lines}
use Rattle.oathtool_core.proofs.CodeLines.{code_lines_more, joined}
use Rattle.oathtool_core.proofs.codes.codes_from.Goals as goal

pub loop-distance-preserved : goal.loop-distance-preserved
loop-distance-preserved g c =
    let before : List ℕ = code_lines c.args.generator c.args.first c.loop-distance.distance in
    let factor : c.factor_after.result ≡ c.args.first + c.loop-distance.distance = c.factor_after.ensures in
    let text : c.as_slice.result.now ≡ code_at c.args.generator (c.args.first + c.loop-distance.distance) =
    c.as_slice.ensures.value ∙ c.code-code.ensures ∙ ap (code_at c.args.generator) factor in
    joined _ _ _ before _ _ c.loop-distance.invariant c.in_ok-write_line.ensures.written
    (code_lines_more c.args.generator c.args.first c.loop-distance.distance ∙ ap (λ (l : List ℕ). before ++ line_of l) (sym text))
