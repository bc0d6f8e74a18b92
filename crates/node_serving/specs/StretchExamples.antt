-- Small stretches of a node's turns, which keep or break one field of a promise. No contract cites them.
use Rattle.std.specs.Prelude.{◌≡◌, ⊤, ℕ, Bool, true, List, [], ◌∷◌, Option, Some, Result, Ok, Err}
use Rattle.datagram_port.specs.Port.{PortEvent, Faulted}
use Rattle.floor_store.specs.Broken.{SmallStore}
use Rattle.oath_node.specs.Broken.{fallen_node}
use Rattle.oath_node.specs.TurnsBroken.{nothing_yet}
use Rattle.oath_node.specs.declared.fault.NodeFault.{NodeFault}
use Rattle.oath_node.specs.declared.fault.NodeFault.TheVariants.{Stopped}
use Rattle.oath_node.specs.declared.turns.Served.{Served}
use Rattle.node_serving.specs.Stretches.{ActsOf, Stretch}

-- the counts of a run
abbrev pub counts : ℕ → ℕ → Served
counts received replied = record { received = received; replied = replied }

-- a stretch of one turn over a disk that returned other bytes, with the counts
abbrev pub stretch_with : Served → Stretch SmallStore
stretch_with served = record {
  from = fallen_node;
  stood = fallen_node;
  first = nothing_yet;
  asked = nothing_yet;
  turns = 1;
  served = served;
}

-- two stretches, the later one first
abbrev pub two_stretches : List (Stretch SmallStore)
two_stretches = stretch_with (counts 10 4) ∷ stretch_with (counts 1 0) ∷ []

-- a stretch in which a receive failed
abbrev pub faulted : Stretch SmallStore
faulted = stretch_with (counts 0 0)

-- the port's record after it
abbrev pub fault_came : Option (List PortEvent)
fault_came = Some (Faulted ∷ [])

-- any act
abbrev pub any_act : ActsOf SmallStore
any_act old new result = ⊤

-- an act that goes on, and one that found the node stopped
abbrev pub goes_on : Result Bool NodeFault
goes_on = Ok true

abbrev pub was_stopped : Result Bool NodeFault
was_stopped = Err Stopped

-- no answer at all
abbrev pub no_answer : ℕ → Bool → Bool → Type 0
no_answer left is_waiting ends = ⊥

-- the answer is accepted
abbrev pub is_accepted : (ℕ → Bool → Bool → Bool) → ℕ → Bool → Bool → Type 0
is_accepted accepts left is_waiting ends = accepts left is_waiting ends ≡ true
