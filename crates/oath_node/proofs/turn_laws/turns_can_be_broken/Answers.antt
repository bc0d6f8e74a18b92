-- A run of no turns received nothing, and is still at its start.
use Rattle.std.proofs.Common.{◌≡◌, ◌<◌, ◌≤◌, inl, inr, ℕ, zero, suc, List, [], ◌∷◌, ◌++◌, length, take, Option, Some, Result, Err, refl, ap, sym, subst, ◌∙◌, arith}
use Rattle.floor_store.specs.Broken.{SmallStore, booted, small_held, store_at}
use Rattle.floor_store.specs.Content.{Content}
use Rattle.oath_node.specs.Calls.{CommitsNode}
use Rattle.oath_node.specs.Hosted.{Hosted, state_of}
use Rattle.oath_node.specs.Machine.{NodeEvent, NodeState}
use Rattle.oath_node.specs.Broken.{node_over}
use Rattle.oath_node.specs.TurnsBroken.{nothing_yet, run_from, store_failed}
use Rattle.datagram_port.specs.Port.{PortEvent}
use Rattle.oath_node.specs.TurnServing.{EndsSo, FailsNext, Serves}
use Rattle.oath_node.specs.Turns.{AreBatches, Receipt, receipts_in, run_with_events}
use Rattle.oath_node.specs.declared.serve_fault.ServeFault.{ServeFault}
use Rattle.oath_node.specs.declared.turns.Served.{Served}
use Rattle.oath_node.proofs.turn_laws.turns_can_be_broken.Goals as goal

-- the boots of contents without tokens distinguish them
same_boot : (a b : ℕ) → booted a ≡ booted b → a ≡ b
same_boot a b e = ap (λ (content : Content). content.boot) e

-- boot 1 is not boot 0
not_first : booted 1 ≡ booted 0 → ⊥
not_first e = let x = same_boot 1 0 e in omega (arith, x)

-- a batch has a receipt
has_one : (before : List Receipt) (last : Receipt) (rest : List Receipt) → length ((before ++ last ∷ []) ++ rest) ≤ 0 → ⊥
has_one [] last rest l = omega (arith, l)
has_one (receipt ∷ before) last rest l = omega (arith, l)

-- without a receipt there is no batch
nothing_handed : (batches : List (List Receipt)) → AreBatches 0 batches → length (receipts_in batches) ≤ 0 → batches ≡ []
nothing_handed [] formed none = refl
nothing_handed (batch ∷ batches) formed none =
    absurd (has_one formed.0.before formed.0.last (receipts_in batches)
    (subst (λ (b : List Receipt). length (b ++ receipts_in batches) ≤ 0) formed.0.is none))

-- a run of no turns ends like a run of no batch
ends_of : (old new : Hosted SmallStore) (entries : Option (List PortEvent)) (told : Option (List (Option ℕ))) (turns : ℕ)
    (result : Result Served ServeFault) → Serves small_held old new nothing_yet entries nothing_yet told turns result
    → turns < 1 → (small_held new.store).is_clean → EndsSo small_held old new nothing_yet entries [] result
ends_of old new entries told turns result h few clean =
    let most = h.most in
    let none = nothing_handed h.batches h.formed (omega (arith, few, most)) in
    subst (λ (batches : List (List Receipt)). EndsSo small_held old new nothing_yet entries batches result) none (h.exact clean)

-- the node at boot 1 differs from the node at boot 0
not_same : state_of small_held (node_over (store_at 1) []) ≡ state_of small_held (node_over (store_at 0) []) → ⊥
not_same e = not_first (ap (λ (node : NodeState). node.content) e)

pub returns-clause-serves_exact : goal.returns-clause-serves_exact
returns-clause-serves_exact c h = not_same (ends_of _ _ _ _ _ _ h (omega arith) refl).0.state

pub returns-clause-serves_entries : goal.returns-clause-serves_entries
returns-clause-serves_entries c h = let e = (ends_of _ _ _ _ _ _ h (omega arith) refl).0.entries in absurd cc

pub returns-clause-serves_served : goal.returns-clause-serves_served
returns-clause-serves_served c h =
    let e : 1 ≡ 0 = ap (λ (served : Served). served.received) (ends_of _ _ _ _ _ _ h (omega arith) refl).2 in
    omega (arith, e)

pub returns-clause-serves_no_fault_of_the_port : goal.returns-clause-serves_no_fault_of_the_port
returns-clause-serves_no_fault_of_the_port c h = let e = (ends_of _ _ _ _ _ _ h (omega arith) refl).1 in absurd cc

pub returns-clause-serves_no_fault_of_the_clock : goal.returns-clause-serves_no_fault_of_the_clock
returns-clause-serves_no_fault_of_the_clock c h = let e = (ends_of _ _ _ _ _ _ h (omega arith) refl).1 in absurd cc

pub returns-clause-serves_settled : goal.returns-clause-serves_settled
returns-clause-serves_settled c h =
    not_first (h.settled refl (λ content l. elim l [ inl e ↦ e | inr e ↦ e ]) (booted 1) (inr refl))

pub returns-clause-ends_by_clock : goal.returns-clause-ends_by_clock
returns-clause-ends_by_clock c = record {
  count = 0;
  within = omega arith;
  served = record { received = 0; replied = 0 };
  kept = Some [];
  told = Some [];
  before = record {
    batches = [];
    formed = tt;
    moments = refl;
    receives = refl;
    most = omega arith;
    all = refl;
    exact = λ clean. (record { state = refl; entries = refl }, refl, refl);
    settled = λ clean settled. settled;
    same = record { book = refl; limits = refl; key = refl; place = refl };
  };
}

pub returns-clause-ends_by_clock_before : goal.returns-clause-ends_by_clock_before
returns-clause-ends_by_clock_before c h = not_same (ends_of _ _ _ _ _ _ h.before h.within refl).0.state

pub returns-clause-ok_is_settled : goal.returns-clause-ok_is_settled
returns-clause-ok_is_settled c h = not_first (h (booted 1) (inr refl))

pub returns-clause-port_is_settled : goal.returns-clause-port_is_settled
returns-clause-port_is_settled c h = not_first (h (booted 1) (inr refl))

pub returns-clause-clock_is_settled : goal.returns-clause-clock_is_settled
returns-clause-clock_is_settled c h = not_first (h (booted 1) (inr refl))

-- the first of no events are none
first_of_none : (count : ℕ) → take {A = NodeEvent} count [] ≡ []
first_of_none zero = refl
first_of_none (suc count) = refl

pub returns-clause-leaves_another : goal.returns-clause-leaves_another
returns-clause-leaves_another c = λ member h.
    let among = h (booted 1) (inr refl) in
    not_first (subst (λ (events : List NodeEvent). booted 1 ≡ (run_with_events member events (run_from (node_over (store_at 0) []))).node.content) (first_of_none among.count) among.is)

pub returns-clause-fails : goal.returns-clause-fails
returns-clause-fails c = λ member. record {
  done = [];
  later = [];
  events_are = refl;
  before = node_over (store_at 0) [];
  state = refl;
  fails = record {
    commits = record {
      makes = record {
        ok = λ clean. tt;
        err = λ clean. inl refl;
        stays = λ broken. absurd cc;
        count = omega arith;
        clean = λ clean. clean;
        tokens = refl;
      };
      left = λ content l. inl l;
      settled = λ clean. tt;
      intact = tt;
    };
    state = λ clean. tt;
    runs = tt;
    fails = record {
      breaks = record { broken = record { is = refl; failure = refl }; counted = inr (refl, omega arith) };
      counted = omega arith;
      stops = refl;
    };
    stopped = (λ e. absurd cc, λ e. absurd cc);
    same = record { book = refl; limits = refl; key = refl; place = refl };
  };
  kept = refl;
}

-- no events are parted in none and none
nothing_done : (done later : List NodeEvent) → [] ≡ done ++ later → (done ≡ []) × (later ≡ [])
nothing_done [] later e = (refl, sym e)
nothing_done (event ∷ done) later e = absurd cc

pub returns-clause-fails_state : goal.returns-clause-fails_state
returns-clause-fails_state c = λ member h.
    let none = nothing_done h.done h.later h.events_are in
    let state : state_of small_held h.before ≡ state_of small_held (node_over (store_at 1) []) =
    subst (λ (events : List NodeEvent). state_of small_held h.before ≡ (run_with_events member events (run_from (node_over (store_at 1) []))).node) none.0 h.state in
    let fails : CommitsNode {A = Unit {0}} small_held h.before _ (Err store_failed) =
    subst (λ (events : List NodeEvent). FailsNext small_held h.before _ events store_failed) none.1 h.fails in
    let was : booted 0 ≡ (small_held h.before.store).content =
    elim (fails.commits.makes.err refl) [ inl e ↦ e | inr e ↦ e ] in
    not_first (sym (was ∙ ap (λ (node : NodeState). node.content) state))
