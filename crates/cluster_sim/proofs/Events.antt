-- Each event is the voting event that the refinement names.
use Rattle.std.proofs.Common.{◌≡◌, ℕ, List, [], ◌∷◌, ◌++◌, true, false, cond, length, Option, Some, None, refl, sym, ap, ◌∙◌, ltb}
use Rattle.vote_core.specs.NodeSet.{with_node}
use Rattle.vote_core.specs.Rows.{row}
use Rattle.vote_core.specs.Schedule.{Cluster, Member, after_act, after_loss, after_replacement, greatest, opening_member, set_node, with_member, without_node, restarted_member, last_boot, after_restart as vote_restart, with_sent_of as vote_unsent, after_event as vote_happens}
use Rattle.otp_core.specs.Acceptance.{Acceptance}
use Rattle.oath_node.specs.Machine.{Config, NodeState, stopped_node, opened_node, restarted_node}
use Rattle.cluster_sim.specs.World.{World, WorldEvent, Happens, Cut, Restart, Lost, Anew, floor_in, has_store, lost_node, may_be_anew, note_anew, opening_node, world_after_act, world_after_anew, world_after_loss, node_of, world_after_restart, with_told_of, world_after_event, with_state, begun_in, passes_in}
use Rattle.cluster_sim.proofs.Refinement.{member_of, cluster_of, vote_of, vote_event}
use Rattle.cluster_sim.proofs.BelowLaws.{GroundLaw}
use Rattle.cluster_sim.proofs.Shape.{push, right_nil, seen_set, of_parts}
use Rattle.cluster_sim.proofs.Sizes.{Sized}
use Rattle.cluster_sim.proofs.Acts.{act_same, same_node}

restarted_same : (x : NodeState) → member_of (restarted_node x) ≡ restarted_member (member_of x)
restarted_same x = push member_of (ltb x.content.boot last_boot) (opened_node x.content) (stopped_node x)

back : (i : ℕ) (w : World) → World
back i w = record { n = w.n; lost = w.lost; least = w.least; nodes = with_state i (restarted_node (w.nodes i)) w.nodes; sent = w.sent; history = w.history; told = w.told }

back_same : (i : ℕ) (w : World) → cluster_of (back i w) ≡ with_member i (restarted_member (member_of (w.nodes i))) (cluster_of w)
unfolding back
back_same i w =
    ap (λ f. of_parts w w.sent (begun_in w.history) f (passes_in w.history)) (seen_set i (restarted_node (w.nodes i)) w.nodes ∙ ap (λ y. set_node i y (λ j. member_of (w.nodes j))) (restarted_same (w.nodes i)))

restart_same : (o : Option ℕ) (w : World) → cluster_of (world_after_restart o w) ≡ vote_restart o (cluster_of w)
unfolding world_after_restart vote_restart back
restart_same None w = refl
restart_same (Some i) w = push cluster_of (has_store w i) (back i w) w ∙ ap (λ z. cond (has_store w i) z (cluster_of w)) (back_same i w)

-- ---- lost and replaced stores

lost_to : (i : ℕ) (w : World) → World
lost_to i w = record w {
  nodes = with_state i (lost_node (w.nodes i)) w.nodes;
  lost = with_node i w.lost;
  least = λ t. greatest w.n (with_node i w.lost) (λ j. (row (w.nodes j).content t).next);
}

lost_from : (i : ℕ) (v : Cluster) (nodes : ℕ → Member) → Cluster
lost_from i v nodes = record v {
  nodes = nodes;
  lost = with_node i v.lost;
  least = λ t. greatest v.n (with_node i v.lost) (λ j. (row (v.nodes j).content t).next);
}

loss_same : (i : ℕ) (w : World) → cluster_of (world_after_loss i w) ≡ after_loss i (cluster_of w)
unfolding world_after_loss after_loss lost_to lost_from
loss_same i w =
    push cluster_of (has_store w i) (lost_to i w) w
    ∙ ap (λ f. cond (has_store w i) (lost_from i (cluster_of w) f) (cluster_of w)) (seen_set i (lost_node (w.nodes i)) w.nodes)

anew_to : (e i boot : ℕ) (floor : ℕ → ℕ) (w : World) → World
anew_to e i boot floor w = record w {
  nodes = with_state i (opening_node boot (length (w.nodes i).content.rows) floor) w.nodes;
  lost = without_node i w.lost;
  history = note_anew e i ∷ w.history;
}

anew_from : (i : ℕ) (v : Cluster) (nodes : ℕ → Member) (passes : List Acceptance) → Cluster
anew_from i v nodes passes = record v { nodes = nodes; lost = without_node i v.lost; accepted = passes }

anew_same : (e i boot : ℕ) (floor : ℕ → ℕ) (w : World) → cluster_of (world_after_anew e i boot floor w) ≡ after_replacement i boot floor (cluster_of w)
unfolding world_after_anew after_replacement anew_to anew_from
anew_same e i boot floor w =
    let k = length (w.nodes i).content.rows in
    let b = may_be_anew w i boot floor in
    push cluster_of b (anew_to e i boot floor w) w
    ∙ ap (λ f. cond b (anew_from i (cluster_of w) f (passes_in w.history ++ [])) (cluster_of w)) (seen_set i (opening_node boot k floor) w.nodes)
    ∙ ap (λ l. cond b (anew_from i (cluster_of w) (set_node i (opening_member boot k floor) (λ j. member_of (w.nodes j))) l) (cluster_of w)) (right_nil (passes_in w.history))

pub happens_same : GroundLaw → (config : Config) (e : ℕ) (x : WorldEvent) (w : World) → Sized (length config.book) (cluster_of w) → cluster_of (world_after_event config e x w) ≡ vote_happens e (vote_event config w x) (cluster_of w)
unfolding world_after_event vote_happens
happens_same law config e (Happens a) w sized = act_same law config e a w sized
happens_same law config e (Cut true a) w sized =
    restart_same (node_of a w) (with_told_of w (world_after_act config e a w))
    ∙ ap (λ z. vote_restart (node_of a w) (vote_unsent (cluster_of w) z)) (act_same law config e a w sized)
    ∙ ap (λ o. vote_restart o (vote_unsent (cluster_of w) (after_act e (vote_of config w a) (cluster_of w)))) (sym (same_node config w a))
happens_same law config e (Cut false a) w sized = restart_same (node_of a w) w ∙ ap (λ o. vote_restart o (cluster_of w)) (sym (same_node config w a))
happens_same law config e (Restart i) w sized = restart_same (Some i) w
happens_same law config e (Lost i) w sized = loss_same i w
happens_same law config e (Anew i boot floors) w sized = anew_same e i boot (floor_in floors) w
