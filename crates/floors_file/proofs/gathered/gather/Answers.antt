use Rattle.std.proofs.Common.{map}
use Rattle.floors_file.specs.Floors.{floors_value}
use Rattle.floors_file.proofs.GatheredLemmas.{gathered_step}
use Rattle.floors_file.proofs.gathered.gather.Goals as goal

pub loop-number-preserved : goal.loop-number-preserved
loop-number-preserved c =
    gathered_step (map floors_value c.args.files.now) c.args.book.now c.args.own.now c.loop-number.number c.token_at-token.result.now
    c.floor_at.result c.greatest.result c.name.result.now c.unwrap_or-floor.result c.loop-number.floors.items c.push.new.self.items
    c.token_at-token.ensures c.floor_at.ensures c.name.ensures.value c.greatest.ensures c.unwrap_or-floor.ensures c.in_ok-push.ensures.items
    c.loop-number.invariant
