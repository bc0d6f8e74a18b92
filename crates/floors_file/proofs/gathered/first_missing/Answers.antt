use Rattle.std.proofs.Common.{map, sym, ◌∙◌, arith}
use Rattle.floors_file.specs.Floors.{floors_value}
use Rattle.floors_file.proofs.GatheredLemmas.{next_there}
use Rattle.floors_file.proofs.gathered.first_missing.Goals as goal

pub loop-number-preserved : goal.loop-number-preserved
loop-number-preserved c =
    next_there c.args.lost.now (map floors_value c.args.files.now) c.args.members c.loop-number.number (omega arith)
    (sym c.is_there.ensures ∙ c.if-not-is_there.false) c.loop-number.invariant
