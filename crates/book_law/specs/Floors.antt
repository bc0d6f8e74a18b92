-- Floors that processes tell at any time, also outside their turns. Floor: the first free factor of a token at a node.
use Rattle.std.specs.Prelude.{◌≡◌, ℕ, ◌≤◌, List, take, Option, Some, slice_get}
use Rattle.vote_core.specs.Schedule.{Envelope}
use Rattle.vote_core.specs.declared.message.Message.TheVariants.{Floor}
use Rattle.oath_node.specs.Machine.{NodeEvent, Peer}
use Rattle.seat_law.specs.Seats.{seat_name}
use Rattle.book_law.specs.Lives.{Action, Takes, StopsIn, Process, Setting, Down, Up, floor_in, state_of}

-- The node's store held the floor of the token, or a greater one, before an action up to the given one.
pub record WasHeld (setting : Setting) (history : List Action) (action node token floor : ℕ) : Type 0 where
  pub event : ℕ
  pub earlier : event ≤ action
  pub held : floor ≤ floor_in setting history node token event

-- the action takes the input at the node, or ends inside its step
abbrev pub IsTakenInAction : ℕ → NodeEvent → Option Action → Type 0
IsTakenInAction node input (Some (Takes at taken)) = (at ≡ node) × (taken ≡ input)
IsTakenInAction node input (Some (StopsIn at kept taken)) = (at ≡ node) × (taken ≡ input)
IsTakenInAction node input _ = ⊥

-- the store of the envelope's sender held the floor, of the token that the process has under the number
abbrev pub WasHeldAt : Setting → List Action → ℕ → ℕ → ℕ → ℕ → Process → Type 0
WasHeldAt setting history action sender number floor (Down store) = Unit {0}
WasHeldAt setting history action sender number floor (Up terms below state waiting) =
    WasHeld setting history action sender (seat_name terms.seats number) floor

-- In the action a node takes an envelope that only tells a floor. Its sender's store held this floor.
pub record TellsHeld (setting : Setting) (history : List Action) (action : ℕ) : Type 0 where
  pub node : ℕ
  pub from : ℕ
  pub envelope : Envelope
  pub number : ℕ
  pub floor : ℕ
  pub tells : envelope.message ≡ Floor number floor
  pub taken : IsTakenInAction node (Peer from (Some envelope)) (slice_get history action)
  pub held : WasHeldAt setting history action envelope.sender number floor
      ((state_of setting (take action history)).processes node)

-- some node's store held the floor of the token, or a greater one, before an action up to the given one
pub record WasHeldSomewhere (setting : Setting) (history : List Action) (action token floor : ℕ) : Type 0 where
  pub node : ℕ
  pub was : WasHeld setting history action node token floor
