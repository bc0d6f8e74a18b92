-- What a node over a store in memory refuses is what its machine does.
use Rattle.std.proofs.Common.{◌≡◌, ℕ, ◌^◌, Bool, false, List, None, sym, ap, ◌∙◌, subst, arith, ltb}
use Rattle.std.proofs.lemmas.Bool.{cond_both, cond-false}
use Rattle.otp_core.specs.Limits.{Limits}
use Rattle.token_file.specs.Credential.{Credential}
use Rattle.floor_store.specs.Content.{Content}
use Rattle.vote_core.specs.NodeSet.{PlaceRecord}
use Rattle.oath_node.specs.Calls.{FailsBy, IsProposal, IsProposing}
use Rattle.oath_node.specs.Hosted.{Hosted, config_of}
use Rattle.oath_node.specs.Machine.{Config, Made, NodeEvent, NodeState, Client, Peer, Tick, made_by_event, made_by_ruling, stopped_node, made_while_running, made_by_proposal, quiet_made, ruling_at}
use Rattle.oath_node.specs.Outputs.{outputs_of}
use Rattle.oath_node.specs.declared.ruling.Ruling.{Ruling}
use Rattle.oath_node.specs.declared.ruling.Ruling.TheVariants.{Outside, Again, Waiting, Denied, Wrong, Fitting}
use Rattle.oath_node.specs.declared.fault.NodeFault.{NodeFault}
use Rattle.oath_node.specs.declared.fault.NodeFault.TheVariants.{Store, Stopped, Spent}
use Rattle.client_lines.specs.Request.{without_lf}
use Rattle.cluster_sim.specs.Journal.{IsHanded, IsHost, memory_held}

stopped_made : (config : Config) (place : PlaceRecord) (x : NodeState) (e : NodeEvent) → x.running ≡ false → made_by_event config place e x ≡ quiet_made x
unfolding made_by_event
stopped_made config place x e stop = cond-false x.running (made_while_running config place e x) (quiet_made x) stop

spent_ruling : (place : PlaceRecord) (x : NodeState) (client moment : ℕ) (line : List ℕ) (r : Ruling) → IsProposal r → x.voter.seq ≡ 2 ^ 62 → made_by_ruling place client moment line r x ≡ quiet_made (stopped_node x)
unfolding made_by_ruling made_by_proposal
spent_ruling place x client moment line Outside h s = absurd h
spent_ruling place x client moment line (Again text) h s = absurd h
spent_ruling place x client moment line Waiting h s = absurd h
spent_ruling place x client moment line (Denied nonce reason) h s = absurd h
spent_ruling place x client moment line (Wrong nonce reason token) h s = absurd h
spent_ruling place x client moment line (Fitting nonce token span drift) h s = cond-false (ltb x.voter.seq (2 ^ 62)) _ (quiet_made (stopped_node x)) (ap (λ k. ltb k (2 ^ 62)) s)

-- a stopped node is the same once it is stopped
halted_same : (x : NodeState) → x.running ≡ false → quiet_made x ≡ quiet_made (stopped_node x)
halted_same x h = ap (λ (b : Bool). quiet_made (record { content = x.content; voter = x.voter; owners = x.owners; answers = x.answers; running = b })) h

spent_event : (config : Config) (place : PlaceRecord) (x : NodeState) (e : NodeEvent) → IsProposing config x e → x.voter.seq ≡ 2 ^ 62 → made_while_running config place e x ≡ quiet_made (stopped_node x)
unfolding made_while_running
spent_event config place x (Client client moment text) h s = spent_ruling place x client moment (without_lf text) (ruling_at config x client moment text) h s
spent_event config place x (Peer from read) h s = absurd h
spent_event config place x Tick h s = absurd h

spent_made : (config : Config) (place : PlaceRecord) (x : NodeState) (e : NodeEvent) → IsProposing config x e → x.voter.seq ≡ 2 ^ 62 → made_by_event config place e x ≡ quiet_made (stopped_node x)
unfolding made_by_event
spent_made config place x e h s =
    cond_both x.running (made_while_running config place e x) (quiet_made x) (λ (m : Made). m ≡ quiet_made (stopped_node x)) (λ _. spent_event config place x e h s) (λ stop. halted_same x stop)

-- an event that sends and replies nothing
as_quiet : (config : Config) (key : List ℕ) (place : PlaceRecord) (x y : NodeState) (e : NodeEvent) (new : Hosted Content) → made_by_event config place e x ≡ quiet_made y → IsHost config key place y new → IsHanded config key place x e new None
as_quiet config key place x y e new same h = record {
  left = subst (λ (m : Made). IsHost config key place m.state new) (sym same) h;
  put_out = ap (outputs_of key place) same;
}

stop_host : (config : Config) (key : List ℕ) (place : PlaceRecord) (x : NodeState) (old : Hosted Content) → IsHost config key place x old → IsHost config key place (stopped_node x) (record old { running = false })
stop_host config key place x old h = record { state = ap stopped_node h.state; book = h.book; limits = h.limits; key_is = h.key_is; place = h.place }

same_config : (config : Config) (book : List Credential) (limits : Limits) → book ≡ config.book → limits ≡ config.limits → ◌≡◌ {A = Config} (record { book = book; limits = limits }) config
same_config config book limits b l = ap (λ (x : List Credential). record { book = x; limits = limits }) b ∙ ap (λ (x : Limits). record { book = config.book; limits = x }) l

pub refused : (config : Config) (key : List ℕ) (place : PlaceRecord) (x : NodeState) (e : NodeEvent) (old new : Hosted Content) (f : NodeFault)
    → FailsBy memory_held old new e f → IsHost config key place x old → IsHanded config key place x e new None
refused config key place x e old new (Store s) fails h = absurd (omega (arith, fails.counted))
refused config key place x e old new Stopped fails h =
    as_quiet config key place x x e new
    (stopped_made config place x e (ap (λ (y : NodeState). y.running) (sym h.state) ∙ fails.0))
    (subst (IsHost config key place x) (sym fails.1) h)
refused config key place x e old new Spent fails h =
    as_quiet config key place x (stopped_node x) e new
    (spent_made config place x e
    (subst (λ (c : Config). IsProposing c x e) (same_config config old.book old.limits h.book h.limits)
    (subst (λ (y : NodeState). IsProposing (config_of old) y e) h.state (fails.proposing tt)))
    (ap (λ (y : NodeState). y.voter.seq) (sym h.state) ∙ fails.none_left))
    (subst (IsHost config key place (stopped_node x)) (sym fails.unchanged) (stop_host config key place x old h))
