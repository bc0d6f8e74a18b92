use Rattle.cluster_sim.proofs.Lost.{more_least, next_least}
use Rattle.cluster_sim.proofs.losses.least_of.Goals as goal

pub loop-token-preserved : goal.loop-token-preserved
loop-token-preserved c =
    let old = c.loop-token.least.items in
    let new = c.push.new.self.items in
    let y = c.greatest_next.result in
    let k = c.loop-token.token in
    let h = c.loop-token.invariant in
    (more_least old new y k c.in_ok-push.ensures.items h.0, λ config key w run. next_least w c.args.gone k old new y c.in_ok-push.ensures.items h.0 (c.greatest_next.ensures config key w run) (h.1 config key w run))
