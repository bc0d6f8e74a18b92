-- A run of no turns serves nothing.
use Rattle.std.proofs.Common.{inl, inr, ◌≡◌, ◌≤◌, ℕ, ◌+◌, Bool, List, [], ◌∷◌, ◌++◌, length, Option, Some, None, refl, sym, ap, ◌∙◌, subst, arith}
use Rattle.std.specs.Prelude.{◌⊎◌, Result, Ok, Err}
use Rattle.std.proofs.lemmas.Option.{same_Some}
use Rattle.floor_store.specs.Held.{Held}
use Rattle.datagram_port.specs.Port.{PortEvent}
use Rattle.datagram_port.specs.Setup.{Setup}
use Rattle.oath_node.specs.Hosted.{Hosted}
use Rattle.oath_node.specs.TurnServing.{EndsSo, Serves, ServesUntil}
use Rattle.oath_node.specs.Turns.{AreBatches, Receipt, receipts_in}
use Rattle.oath_node.specs.declared.fault.NodeFault.TheVariants as node
use Rattle.oath_node.specs.declared.serve_fault.ServeFault.{ServeFault}
use Rattle.oath_node.specs.declared.serve_fault.ServeFault.TheVariants as turns
use Rattle.oath_node.specs.declared.turns.Served.{Served}
use Rattle.store_serving.specs.Broken.{so_much}
use Rattle.store_serving.specs.Through.{IsServed}
use Rattle.node_serving.specs.Stretches.{ActsOf, AreServed, FailsToAct, Stretch, end_after}
use Rattle.oathd_database.specs.Fault.{serve_end}
use Rattle.oathd_database.specs.declared.fault.Fault.TheVariants.{CannotWrite}
use Rattle.node_serving.proofs.StretchLemmas.{left_within}

-- a batch has a receipt
has_one : (before : List Receipt) (last : Receipt) (rest : List Receipt) → length ((before ++ last ∷ []) ++ rest) ≤ 0 → ⊥
has_one [] last rest l = omega (arith, l)
has_one (receipt ∷ before) last rest l = omega (arith, l)

-- without a receipt there is no batch
nothing_handed : (batches : List (List Receipt)) → AreBatches 0 batches → length (receipts_in batches) ≤ 0 → batches ≡ []
nothing_handed [] formed none = refl
nothing_handed (batch ∷ batches) formed none =
    absurd (has_one formed.0.before formed.0.last (receipts_in batches)
    (subst (λ (b : List Receipt). length (b ++ receipts_in batches) ≤ 0) formed.0.is none))

-- nothing is served in no turn, and nothing recorded
nothing_ended : {S : Type 0} (held : S → Held) (old new : Hosted S) (events : List PortEvent) (served : Served)
    (end : Result Served ServeFault) → Ok served ≡ serve_end end → Serves held old new (Some []) (Some events) None None 0 end
    → (held new.store).is_clean → (served ≡ so_much 0 0) × (events ≡ [])
nothing_ended held old new events served (Ok other) is h clean =
    let most = h.most in
    let none = nothing_handed h.batches h.formed (omega (arith, most)) in
    let same : served ≡ other = cc in
    let ends = subst (λ (batches : List (List Receipt)). EndsSo held old new (Some []) (Some events) batches (Ok other)) none (h.exact clean) in
    (same ∙ ends.2, sym (same_Some [] events ends.0.entries))
nothing_ended held old new events served (Err fault) is h clean = absurd cc

-- the end after no stretch
after_none : (S : Type 0) (end : Result Served ServeFault) → end_after {S = S} [] end ≡ end
after_none S (Ok served) = refl
after_none S (Err fault) = refl

module _ {S : Type 0} (held : S → Held) (acts : ActsOf S) (old new : Hosted S) (events : List PortEvent) (served : Served) (answers : ℕ → Bool → Bool → Type 0)
    (end : Result Served ServeFault) (is : Ok served ≡ serve_end end) (clean : (held new.store).is_clean) where
  -- in no turn there is one stretch alone
  nothing_in : (stretches : List (Stretch S)) (from : Hosted S) (first : Option (List PortEvent)) (asked : Option (List (Option ℕ))) (left : ℕ) (last : Result Served ServeFault)
      → AreServed held acts old (Some []) None 0 stretches from first asked left
      → ServesUntil held from new first (Some events) asked None left answers last ⊎ FailsToAct held acts from new first (Some events) asked None left last
      → end ≡ end_after stretches last → (served ≡ so_much 0 0) × (events ≡ [])
  nothing_in [] from first asked left last before ends counts =
      let same : end ≡ last = counts ∙ after_none S last in
      elim ends [
        | inl run ↦
            let within = run.within in
            let zero = before.3 in
            let most : run.most ≡ 0 = omega (arith, within, zero) in
            nothing_ended held from new events served last (is ∙ ap serve_end same)
            (subst (λ (f : Option (List PortEvent)). Serves held from new f (Some events) None None 0 last) before.1
            (subst (λ (a : Option (List (Option ℕ))). Serves held from new first (Some events) a None 0 last) before.2
            (subst (λ (n : ℕ). Serves held from new first (Some events) asked None n last) most run.serves))) clean
        | inr act ↦ let failed = is ∙ ap serve_end (same ∙ act.end_is) in absurd cc
      ]
  nothing_in (stretch ∷ earlier) from first asked left last before ends counts =
      let within = left_within held acts old (Some []) None 0 earlier stretch.from stretch.first stretch.asked (stretch.turns + left) before.0 in
      let some = before.2 in
      absurd (omega (arith, within, some))

-- in no turn nothing is served
pub nothing_served : {S : Type 0} {setup : Setup} {acts : ActsOf S} {answers : ℕ → Bool → Bool → Type 0} (held : S → Held) (old new : Hosted S) (served : Served)
    → (h : IsServed held acts old new setup 0 answers (Ok served)) → (held new.store).is_clean
    → (served ≡ so_much 0 0) × (h.events ≡ [])
nothing_served {acts = acts} {answers = answers} held old new served h clean =
    let run = h.serves in
    nothing_in held acts old new h.events served answers h.end h.ends clean run.stretches run.from run.from_first run.from_asked run.left run.end run.before run.last run.counts

-- no turn ends with a fault of the output
pub no_output : (end : Result Served ServeFault) → Err CannotWrite ≡ serve_end end → ⊥
no_output (Ok served) is = absurd cc
no_output (Err (turns.Node (node.Store fault))) is = absurd cc
no_output (Err (turns.Node node.Stopped)) is = absurd cc
no_output (Err (turns.Node node.Spent)) is = absurd cc
no_output (Err turns.Port) is = absurd cc
no_output (Err turns.Clock) is = absurd cc
