use Rattle.std.proofs.Common.{◌≡◌, Some, suc, ap, get_or, length, set, subst, sym, ◌∙◌, arith, true, not}
use Rattle.std.specs.Prelude.{is_some}
use Rattle.std.proofs.lemmas.Bool.{and_right}
use Rattle.std.proofs.lemmas.List.{length-set}
use Rattle.vote_core.specs.Schedule.{is_member}
use Rattle.cluster_sim.specs.Journal.{IsRun, used_in}
use Rattle.cluster_sim.specs.World.{world_after_restart}
use Rattle.cluster_sim.proofs.HostLemmas.{has_none, here, restart_in, restart_out, store_gone, store_there}
use Rattle.cluster_sim.proofs.simulation.reopen_at.Goals as goal

pub returns-then-is_some-clause-restarts : goal.returns-then-is_some-clause-restarts
returns-then-is_some-clause-restarts c config key w h =
    let node = c.args.node in
    let gone = store_gone _ (used_in c.args.journal.now.losses node) (w.lost node) (w.nodes node) (h.losses.used node) (ap is_some (sym c.used_boot.ensures) ∙ sym c.is_some.ensures ∙ c.if-is_some.true) in
    restart_out config key w (record { nodes = c.args.nodes.now; journal = c.args.journal.now }) node h (has_none w node gone)

pub returns-in-Some-clause-restarts : goal.returns-in-Some-clause-restarts
returns-in-Some-clause-restarts c config key w h =
    let node = c.args.node in
    let there = store_there _ (used_in c.args.journal.now.losses node) (w.lost node) (w.nodes node) (h.losses.used node) (ap is_some (sym c.used_boot.ensures) ∙ sym c.is_some.ensures ∙ c.if-is_some.false) in
    let k = c.in-Some.index in
    let i : suc k ≡ c.args.node = omega (arith, c.in-Some.ensures.place) in
    let member : is_member w.n (suc k) ≡ true = ap (λ m. is_member m (suc k)) h.n ∙ ap (λ z. is_member (length c.args.nodes.now) z) i ∙ c.in-Some.ensures.member in
    let host = c.reopen.ensures config key (record { me = suc k; n = w.n }) (w.nodes (suc k))
    (h.hosts k (get_or c.args.nodes.now k c.index-nodes-index.result) (here c.args.nodes.now k c.index-nodes-index.result c.in-Some.ensures.within) (ap w.lost i ∙ there)) in
    subst (λ z. IsRun config key (world_after_restart (Some z) w) (record { nodes = set c.args.nodes.now k c.reopen.new.node; journal = c.args.journal.now })) i
    (restart_in config key w c.args.nodes.now c.args.journal.now k c.reopen.new.node h (ap w.lost i ∙ there) member host (length-set c.args.nodes.now k c.reopen.new.node))

pub returns-in_default-clause-restarts : goal.returns-in_default-clause-restarts
returns-in_default-clause-restarts c config key w h =
    restart_out config key w (record { nodes = c.args.nodes.now; journal = c.args.journal.now }) c.args.node h (and_right (not (w.lost c.args.node)) (is_member w.n c.args.node) (ap (λ m. is_member m c.args.node) h.n ∙ c.in_default.ensures.none))
