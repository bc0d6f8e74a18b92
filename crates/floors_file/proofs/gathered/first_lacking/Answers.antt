use Rattle.std.proofs.Common.{map, sym, ◌∙◌}
use Rattle.floors_file.specs.Floors.{floor_value, floors_value}
use Rattle.floors_file.specs.Gathered.{lacks}
use Rattle.floors_file.proofs.GatheredLemmas.{next_fails, next_passes}
use Rattle.floors_file.proofs.gathered.first_lacking.Goals as goal

pub returns-then-lacks-clause-place : goal.returns-then-lacks-clause-place
returns-then-lacks-clause-place c =
    sym (next_passes (lacks c.args.is_same (map floors_value c.args.files.now) (map floor_value c.args.rows.now)) c.args.book.now c.loop-number.number
    c.token_at.result.now c.token_at.ensures (sym c.lacks.ensures ∙ c.if-lacks.true) c.loop-number.invariant)

pub loop-number-preserved : goal.loop-number-preserved
loop-number-preserved c =
    next_fails (lacks c.args.is_same (map floors_value c.args.files.now) (map floor_value c.args.rows.now)) c.args.book.now c.loop-number.number
    c.token_at.result.now c.token_at.ensures (sym c.lacks.ensures ∙ c.if-lacks.false) c.loop-number.invariant
