use Rattle.std.proofs.Common.{map, sym, ◌∙◌, arith}
use Rattle.floors_file.specs.Named.{named_value}
use Rattle.floors_file.proofs.NamedGatheredLemmas.{named_there}
use Rattle.floors_file.proofs.named_gathered.first_missing.Goals as goal

pub loop-number-preserved : goal.loop-number-preserved
loop-number-preserved c =
    named_there c.args.lost.now (map named_value c.args.files.now) c.args.members c.loop-number.number (omega arith)
    (sym c.is_there.ensures ∙ c.if-not-is_there.false) c.loop-number.invariant
