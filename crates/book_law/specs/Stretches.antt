-- The turns of a node in stretches. After each but the last, something acts on the node for an operator.
use Rattle.std.specs.Prelude.{◌≡◌, ◌⊎◌, ℕ, Bool, true, List, [], ◌∷◌, Option, Some, None, Result, Ok, slice_get}
use Rattle.std.specs.Option.{option_and_then}
use Rattle.datagram_port.specs.Port.{PortEvent}
use Rattle.floor_store.specs.Held.{Held}
use Rattle.oath_node.specs.Hosted.{Hosted}
use Rattle.oath_node.specs.Reading.{ReadsNode}
use Rattle.oath_node.specs.TurnServing.{Serves as ServesTurns}
use Rattle.oath_node.specs.Unlocking.{UnlocksNode}
use Rattle.oath_node.specs.declared.fault.NodeFault.{NodeFault}
use Rattle.oath_node.specs.declared.turns.Served.{Served}
use Rattle.book_law.specs.Lives.{Terms}

-- A stretch of the turns of a node, and the node before the act that followed it. The port's record is the one at its
-- start. The act unlocked the number, if there is one.
pub record Stretch (S : Type 0) : Type 0 where
  pub from : Hosted S
  pub stood : Hosted S
  pub first : Option (List PortEvent)
  pub asked : Option (List (Option ℕ))
  pub told : Option (List (Option ℕ))
  pub turns : ℕ
  pub served : Served
  pub unlocked : Option ℕ

module _ {S : Type 0} (held : S → Held) where
  -- An act for an operator, from the first node to the second. It unlocks the number. Without a number it reads
  -- something of the store, or does nothing.
  abbrev pub ActsAs : Option ℕ → Hosted S → Hosted S → Result Bool NodeFault → Type 0
  ActsAs None old new result = ReadsNode held old new result ⊎ (new ≡ old)
  ActsAs (Some number) old new result = UnlocksNode held old new number result

  -- From the node `old` and the port's record `first`, stretches were served, the last one first. An act followed each,
  -- and left a clean store. Then the node was `now`, and the port's record was `entries`.
  abbrev pub AreServed :
      Hosted S → Option (List PortEvent) → List (Stretch S) → Hosted S → Option (List PortEvent) → Type 0
  AreServed old first [] now entries = (now ≡ old) × (entries ≡ first)
  AreServed old first (stretch ∷ earlier) now entries =
      AreServed old first earlier stretch.from stretch.first
      × ServesTurns held stretch.from stretch.stood stretch.first entries stretch.asked stretch.told stretch.turns
      (Ok stretch.served)
      × ActsAs stretch.unlocked stretch.stood now (Ok true)
      × (held now.store).is_clean

-- the canonical token of the unlocked number, if there is one and the process has a seat for it
abbrev pub token_cleared : Terms → Option ℕ → Option ℕ
token_cleared terms unlocked = option_and_then (slice_get terms.seats) unlocked

-- the tokens that the acts after the stretches cleared, the first one first, followed by the given later ones
abbrev pub tokens_cleared : {S : Type 0} → Terms → List (Stretch S) → List (Option ℕ) → List (Option ℕ)
tokens_cleared terms [] later = later
tokens_cleared terms (stretch ∷ earlier) later =
    tokens_cleared terms earlier (token_cleared terms stretch.unlocked ∷ later)
