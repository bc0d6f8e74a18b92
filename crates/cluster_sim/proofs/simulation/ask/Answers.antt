use Rattle.std.proofs.Common.{◌≡◌, suc, length, ap, subst, sym, ◌∙◌, arith, get_or, set, true}
use Rattle.vote_core.specs.Schedule.{is_member}
use Rattle.oath_node.specs.Hosted.{event_of}
use Rattle.cluster_sim.specs.Journal.{IsAsked}
use Rattle.cluster_sim.proofs.HostLemmas.{asked_in, asked_out, here}
use Rattle.cluster_sim.proofs.simulation.ask.Goals as goal

pub returns-in_err-index-clause-asks : goal.returns-in_err-index-clause-asks
returns-in_err-index-clause-asks c config key n lost x len there are =
    subst (IsAsked config key n lost x c.args.node (event_of key c.args.event) c.args.nodes.now) (sym c.from_residual.ensures)
    (asked_out config key n c.args.node lost x (event_of key c.args.event) c.args.nodes.now (ap (λ m. is_member m c.args.node) len ∙ c.in_err-index.ensures.none) are)

pub returns-clause-asks : goal.returns-clause-asks
returns-clause-asks c config key n lost x len there are =
    let e = event_of key c.args.event in
    let k = c.in_ok-index.index in
    let i : suc k ≡ c.args.node = omega (arith, c.in_ok-index.ensures.place) in
    let member : is_member n (suc k) ≡ true = ap (λ m. is_member m (suc k)) len ∙ ap (λ j. is_member (length c.args.nodes.now) j) i ∙ c.in_ok-index.ensures.member in
    let old = get_or c.args.nodes.now k c.index-nodes-index.result in
    let handed = c.hand.ensures config key (record { me = suc k; n = n }) (x (suc k)) (are k old (here c.args.nodes.now k c.index-nodes-index.result c.in_ok-index.ensures.within) (ap lost i ∙ there)) in
    subst (λ j. IsAsked config key n lost x j e (set c.args.nodes.now k c.hand.new.node) c.hand.result) i (asked_in config key n k lost x e c.args.nodes.now c.hand.new.node c.hand.result member are handed)
