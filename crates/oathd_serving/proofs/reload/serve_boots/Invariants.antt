-- boots were served one after another, and without a log nothing was written
use Rattle.std.proofs.Common.{◌≡◌, ◌<◌, ◌^◌, List, false}
use Rattle.oathd_serving.specs.Reload.{AreBoots}
use Rattle.oathd_serving.specs.contracts.reload.BootLater.TheImpl.{ghosts}
use Rattle.oathd_serving.specs.declared.reload.Boot.{Boot}
use Rattle.oathd_serving.proofs.reload.serve_boots.Given as goal

abbrev pub invariant-loop-boot : goal.invariant-loop-boot
invariant-loop-boot g l = record {
  few : l.boot.turns < 2 ^ 54;
  later : (later : List Boot) × AreBoots (ghosts.later l.serving l.cluster) l.initial.boot l.boot later;
  unlogged : l.serving.is_logged ≡ false → l.log ≡ l.fn.log;
}

abbrev pub decreases-loop-boot : goal.decreases-loop-boot
decreases-loop-boot g l = l.boot.turns
