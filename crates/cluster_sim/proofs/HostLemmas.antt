-- The nodes of a world, one of which changes.
use Rattle.std.proofs.Common.{◌≡◌, ◌≢◌, ℕ, zero, suc, ◌<◌, get_or, Bool, true, false, not, ◌&&◌, List, [], ◌∷◌, length, Option, Some, None, refl, sym, ap, ◌∙◌, subst, arith, eqb, set, true≢false}
use Rattle.std.specs.Prelude.{is_some}
use Rattle.std.specs.List.{slice_get}
use Rattle.std.proofs.lemmas.Bool.{cond_both, eqb-true, cond-true, cond-false, eq-eqb}
use Rattle.std.proofs.lemmas.Option.{none-some, same_Some}
use Rattle.floor_store.specs.Content.{Content}
use Rattle.vote_core.specs.Schedule.{is_member}
use Rattle.oath_node.specs.Hosted.{Hosted}
use Rattle.oath_node.specs.Machine.{Config, NodeEvent, NodeState, made_by_event, restarted_node}
use Rattle.oath_node.specs.Outputs.{OutputsRecord, outputs_of}
use Rattle.cluster_sim.specs.Journal.{AreHosts, IsAsked, IsHanded, IsHost, IsLossOf, IsRun, IsPutOut, JournalRecord, SimulationRecord, nodes_after, outputs_at, used_in}
use Rattle.oath_node.specs.Outputs.{no_outputs}
use Rattle.cluster_sim.specs.World.{World, has_store, world_after_restart, with_state}

-- an element of a list with one set
of_set : {X : Type 0} (P : ℕ → X → Type 0) (xs : List X) (k : ℕ) (y : X) → ((j : ℕ) (x : X) → slice_get xs j ≡ Some x → j ≢ k → P j x) → P k y
    → (j : ℕ) (x : X) → slice_get (set xs k y) j ≡ Some x → P j x
of_set P [] k y old new j x e = absurd (none-some x e)
of_set P (a ∷ xs) zero y old new zero x e = subst (P zero) (same_Some y x e) new
of_set P (a ∷ xs) zero y old new (suc j) x e = old (suc j) x e (λ s. absurd (omega (arith, s)))
of_set P (a ∷ xs) (suc k) y old new zero x e = old zero x e (λ s. absurd (omega (arith, s)))
of_set P (a ∷ xs) (suc k) y old new (suc j) x e = of_set (λ i z. P (suc i) z) xs k y (λ i z f ne. old (suc i) z f (λ s. ne (omega (arith, s)))) new j x e

-- one change of a node; at the other nodes no new store is kept
pub hosts_set : (config : Config) (key : List ℕ) (n k : ℕ) (old lost : ℕ → Bool) (nodes : ℕ → NodeState) (hosts : List (Hosted Content)) (x : NodeState) (h : Hosted Content)
    → ((j : ℕ) → j ≢ k → lost (suc j) ≡ false → old (suc j) ≡ false) → AreHosts config key n old nodes hosts → IsHost config key (record { me = suc k; n = n }) x h
    → AreHosts config key n lost (with_state (suc k) x nodes) (set hosts k h)
hosts_set config key n k old lost nodes hosts x h still are here =
    of_set (λ j y. lost (suc j) ≡ false → IsHost config key (record { me = suc j; n = n }) (with_state (suc k) x nodes (suc j)) y) hosts k h
    (λ j y e ne at. subst (λ z. IsHost config key (record { me = suc j; n = n }) z y) (sym (cond-false (eqb (suc j) (suc k)) x (nodes (suc j)) (eq-apart j k ne))) (are j y e (still j ne at)))
    (λ _. subst (λ z. IsHost config key (record { me = suc k; n = n }) z h) (sym (cond-true (eqb (suc k) (suc k)) x (nodes (suc k)) (eq-eqb (suc k) (suc k) refl))) here)
  where
    split : (b : Bool) (j k : ℕ) → eqb (suc j) (suc k) ≡ b → j ≢ k → b ≡ false
    split true j k e ne = absurd (ne (omega (arith, eqb-true (suc j) (suc k) e)))
    split false j k e ne = refl

    eq-apart : (j k : ℕ) → j ≢ k → eqb (suc j) (suc k) ≡ false
    eq-apart j k ne = split (eqb (suc j) (suc k)) j k refl ne

-- at a member
pub member_after : (config : Config) (n i : ℕ) (nodes : ℕ → NodeState) (e : NodeEvent) → is_member n i ≡ true
    → nodes_after config n nodes i e ≡ with_state i (made_by_event config (record { me = i; n = n }) e (nodes i)).state nodes
member_after config n i nodes e m = cond-true (is_member n i) _ nodes m

pub outside_after : (config : Config) (n i : ℕ) (nodes : ℕ → NodeState) (e : NodeEvent) → is_member n i ≡ false → nodes_after config n nodes i e ≡ nodes
outside_after config n i nodes e m = cond-false (is_member n i) _ nodes m

pub member_outputs : (config : Config) (key : List ℕ) (n i : ℕ) (nodes : ℕ → NodeState) (e : NodeEvent) → is_member n i ≡ true
    → outputs_at config key n nodes i e ≡ outputs_of key (record { me = i; n = n }) (made_by_event config (record { me = i; n = n }) e (nodes i))
member_outputs config key n i nodes e m = cond-true (is_member n i) _ no_outputs m

pub outside_outputs : (config : Config) (key : List ℕ) (n i : ℕ) (nodes : ℕ → NodeState) (e : NodeEvent) → is_member n i ≡ false → outputs_at config key n nodes i e ≡ no_outputs
outside_outputs config key n i nodes e m = cond-false (is_member n i) _ no_outputs m

-- a member took an event
pub asked_in : (config : Config) (key : List ℕ) (n k : ℕ) (lost : ℕ → Bool) (nodes : ℕ → NodeState) (e : NodeEvent) (hosts : List (Hosted Content)) (h : Hosted Content) (o : Option OutputsRecord)
    → is_member n (suc k) ≡ true → AreHosts config key n lost nodes hosts → IsHanded config key (record { me = suc k; n = n }) (nodes (suc k)) e h o
    → IsAsked config key n lost nodes (suc k) e (set hosts k h) o
asked_in config key n k lost nodes e hosts h o member are handed = record {
  left = subst (λ (f : ℕ → NodeState). AreHosts config key n lost f (set hosts k h)) (sym (member_after config n (suc k) nodes e member))
      (hosts_set config key n k lost lost nodes hosts (made_by_event config (record { me = suc k; n = n }) e (nodes (suc k))).state h (λ j ne at. at) are handed.left);
  put_out = subst (IsPutOut o) (sym (member_outputs config key n (suc k) nodes e member)) handed.put_out;
}

-- no member was
pub asked_out : (config : Config) (key : List ℕ) (n i : ℕ) (lost : ℕ → Bool) (nodes : ℕ → NodeState) (e : NodeEvent) (hosts : List (Hosted Content))
    → is_member n i ≡ false → AreHosts config key n lost nodes hosts → IsAsked config key n lost nodes i e hosts None
asked_out config key n i lost nodes e hosts outside are = record {
  left = subst (λ (f : ℕ → NodeState). AreHosts config key n lost f hosts) (sym (outside_after config n i nodes e outside)) are;
  put_out = outside_outputs config key n i nodes e outside;
}

-- the item at a place
pub here : {X : Type 0} (xs : List X) (k : ℕ) (d : X) → k < length xs → slice_get xs k ≡ Some (get_or xs k d)
here [] k d h = absurd (omega (arith, h))
here (x ∷ xs) zero d h = refl
here (x ∷ xs) (suc k) d h = here xs k d (omega (arith, h))

-- ---- lost stores

-- a change of a node that has its store keeps the losses
pub losses_set : (tokens i : ℕ) (x : NodeState) (w : World) (j : JournalRecord) → w.lost i ≡ false → ((k : ℕ) → IsLossOf tokens (used_in j.losses k) (w.lost k) (w.nodes k))
    → (k : ℕ) → IsLossOf tokens (used_in j.losses k) (w.lost k) (with_state i x w.nodes k)
losses_set tokens i x w j there h k =
    cond_both (eqb k i) x (w.nodes k) (λ y. IsLossOf tokens (used_in j.losses k) (w.lost k) y) (λ q. kept (used_in j.losses k) (ap w.lost (eqb-true k i q) ∙ there) (h k)) (λ _. h k)
  where
    kept : (o : Option ℕ) → w.lost k ≡ false → IsLossOf tokens o (w.lost k) (w.nodes k) → IsLossOf tokens o (w.lost k) x
    kept None at l = l
    kept (Some used) at l = absurd (true≢false (sym l.0 ∙ at))

-- a store is lost exactly if the journal says so
pub store_there : (tokens : ℕ) (o : Option ℕ) (lost : Bool) (x : NodeState) → IsLossOf tokens o lost x → is_some o ≡ false → lost ≡ false
store_there tokens None lost x h at = h
store_there tokens (Some used) lost x h at = absurd (true≢false at)

pub store_gone : (tokens : ℕ) (o : Option ℕ) (lost : Bool) (x : NodeState) → IsLossOf tokens o lost x → is_some o ≡ true → lost ≡ true
store_gone tokens None lost x h at = absurd (true≢false (sym at))
store_gone tokens (Some used) lost x h at = h.0

-- a node that did not lose its store has one exactly if it is a member
pub has_it : (w : World) (i : ℕ) → w.lost i ≡ false → is_member w.n i ≡ has_store w i
has_it w i at = ap (λ b. not b && is_member w.n i) (sym at)

pub has_none : (w : World) (i : ℕ) → w.lost i ≡ true → has_store w i ≡ false
has_none w i at = ap (λ b. not b && is_member w.n i) at

-- ---- restarts

pub restart_in : (config : Config) (key : List ℕ) (w : World) (hosts : List (Hosted Content)) (j : JournalRecord) (k : ℕ) (new : Hosted Content) → IsRun config key w (record { nodes = hosts; journal = j })
    → w.lost (suc k) ≡ false → is_member w.n (suc k) ≡ true → IsHost config key (record { me = suc k; n = w.n }) (restarted_node (w.nodes (suc k))) new → length (set hosts k new) ≡ length hosts
    → IsRun config key (world_after_restart (Some (suc k)) w) (record { nodes = set hosts k new; journal = j })
unfolding world_after_restart
restart_in config key w hosts j k new h there member is len =
    subst (λ (x : World). IsRun config key x (record { nodes = set hosts k new; journal = j })) (sym (cond-true (has_store w (suc k)) _ w (sym (has_it w (suc k) there) ∙ member)))
    (record {
      n = h.n ∙ sym len;
      hosts = hosts_set config key w.n k w.lost w.lost w.nodes hosts (restarted_node (w.nodes (suc k))) new (λ i ne at. at) h.hosts is;
      recorded = record { sent = h.recorded.sent; starts = h.recorded.starts; passes = h.recorded.passes; answers = h.recorded.answers };
      losses = record { used = losses_set (length config.book) (suc k) (restarted_node (w.nodes (suc k))) w j there h.losses.used; least = h.losses.least };
    })

pub restart_out : (config : Config) (key : List ℕ) (w : World) (s : SimulationRecord) (i : ℕ) → IsRun config key w s → has_store w i ≡ false → IsRun config key (world_after_restart (Some i) w) s
unfolding world_after_restart
restart_out config key w s i h outside = subst (λ (x : World). IsRun config key x s) (sym (cond-false (has_store w i) _ w outside)) h
