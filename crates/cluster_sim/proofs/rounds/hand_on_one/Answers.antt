use Rattle.std.proofs.Common.{List, ap, sym, ◌∙◌, subst}
use Rattle.std.specs.Prelude.{IfOk}
use Rattle.cluster_sim.specs.Journal.{Letter}
use Rattle.cluster_sim.specs.RoundRun.{HaveHappened}
use Rattle.cluster_sim.specs.World.{WorldEvent}
use Rattle.cluster_sim.proofs.RoundPlay.{between_handed, none_sent, not_between}
use Rattle.cluster_sim.proofs.rounds.hand_on_one.Goals as goal

pub returns-in_default-clause-plays : goal.returns-in_default-clause-plays
returns-in_default-clause-plays c config w h spelled =
    none_sent config c.args.key.now c.args.live.now c.args.k c.args.number w (record { nodes = c.args.nodes.now; journal = c.args.journal.now }) c.in_default.ensures.none h

pub returns-then-not-is_between_live-clause-plays : goal.returns-then-not-is_between_live-clause-plays
returns-then-not-is_between_live-clause-plays c config w h spelled =
    not_between config c.args.key.now c.args.live.now c.args.k c.args.number w (record { nodes = c.args.nodes.now; journal = c.args.journal.now }) c.in-Some.datagram.now c.in-Some.ensures.some
    (sym c.is_between_live.ensures ∙ c.if-not-is_between_live.true) h

pub returns-clause-plays : goal.returns-clause-plays
returns-clause-plays c config w h spelled =
    subst (λ (xs : List WorldEvent). IfOk c.play_one.result (λ next. HaveHappened config c.args.key.now c.args.number xs w (record { nodes = c.play_one.new.nodes; journal = c.play_one.new.journal }) next))
    (sym (between_handed config c.args.key.now c.args.live.now c.args.k w (record { nodes = c.args.nodes.now; journal = c.args.journal.now }) c.in-Some.datagram.now c.in-Some.ensures.some
    (sym c.is_between_live.ensures ∙ c.if-not-is_between_live.false) h c.from-node.result (c.from-node.ensures ∙ ap (λ (x : Letter). x.receiver) c.datagram-2.view_is)))
    (c.play_one.ensures.plays config w h spelled)
