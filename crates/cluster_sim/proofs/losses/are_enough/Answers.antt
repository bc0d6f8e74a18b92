use Rattle.std.proofs.Common.{◌<◌, sym, ◌∙◌, subst}
use Rattle.cluster_sim.specs.World.{floor_in}
use Rattle.cluster_sim.proofs.Lost.{lt_from_is_lt, not_enough}
use Rattle.cluster_sim.proofs.losses.are_enough.Goals as goal

pub returns-then-lt : goal.returns-then-lt
returns-then-lt c =
    let less = lt_from_is_lt c.floor_of.result c.floor_of-in-loop-token.result (sym c.lt.ensures ∙ c.if-lt.true) in
    let one = subst (λ n. n < c.floor_of-in-loop-token.result) c.floor_of.ensures less in
    sym (not_enough c.args.tokens c.loop-token.token (floor_in c.args.least.now) (floor_in c.args.floors.now) c.loop-token-test.true
    (subst (λ n. floor_in c.args.floors.now c.loop-token.token < n) c.floor_of-in-loop-token.ensures one))
