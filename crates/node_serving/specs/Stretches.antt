-- The turns of a node in stretches. After each but the last, something acts on the node between two batches.
use Rattle.std.specs.Prelude.{◌≡◌, ◌⊎◌, ⊤, ℕ, ◌+◌, ◌-◌, ◌^◌, ◌<◌, ◌≤◌, min, Bool, true, List, [], ◌∷◌, Option, Some, None, Result, Ok, Err}
use Rattle.datagram_port.specs.Port.{PortEvent}
use Rattle.floor_store.specs.Held.{Held}
use Rattle.oath_node.specs.Hosted.{Hosted}
use Rattle.oath_node.specs.Reading.{ReadsNode}
use Rattle.oath_node.specs.TurnServing.{Serves, ServesUntil}
use Rattle.oath_node.specs.Unlocking.{UnlocksNode}
use Rattle.oath_node.specs.declared.fault.NodeFault.{NodeFault}
use Rattle.oath_node.specs.declared.serve_fault.ServeFault.{ServeFault}
use Rattle.oath_node.specs.declared.serve_fault.ServeFault.TheVariants.{Node}
use Rattle.oath_node.specs.declared.turns.Served.{Served}

-- ---- acts

-- what an act does to a node, from the first to the second: Ok (true), or the fault that stopped the node
abbrev pub ActsOf : Type 0 → Type 1
ActsOf S = Hosted S → Hosted S → Result Bool NodeFault → Type 0

-- no act
abbrev pub no_acts : {S : Type 0} → ActsOf S
no_acts old new result = ⊥

-- an act for an operator: it unlocks a token of the node, or reads something of its store, or does nothing
abbrev pub operator_acts : {S : Type 0} → (S → Held) → ActsOf S
operator_acts held old new result =
    ((token : ℕ) × UnlocksNode held old new token result)
    ⊎ (ReadsNode held old new result ⊎ ((result ≡ Ok true) × (new ≡ old)))

-- ---- stretches

-- A stretch of the turns of a node, and the node before the act that followed it. The records of the port and of the
-- clock are those at its start.
pub record Stretch (S : Type 0) : Type 0 where
  pub from : Hosted S
  pub stood : Hosted S
  pub first : Option (List PortEvent)
  pub asked : Option (List (Option ℕ))
  pub turns : ℕ
  pub served : Served

-- the counts of two runs, each at most the greatest number of 64 bits
abbrev pub both : Served → Served → Served
both one other = record {
  received = min (one.received + other.received) (2 ^ 64 - 1);
  replied = min (one.replied + other.replied) (2 ^ 64 - 1);
}

-- the counts of a run together with those of the runs before it, if there are any
abbrev pub counts_after : Option Served → Served → Served
counts_after None served = served
counts_after (Some counts) served = both counts served

-- the counts of stretches, the last one first, and of a run after them
abbrev pub counted : {S : Type 0} → List (Stretch S) → Served → Served
counted [] served = served
counted (stretch ∷ earlier) served = both (counted earlier stretch.served) served

-- the end of a run after stretches, with the counts of all
abbrev pub end_after : {S : Type 0} → List (Stretch S) → Result Served ServeFault → Result Served ServeFault
end_after stretches (Ok served) = Ok (counted stretches served)
end_after stretches (Err fault) = Err fault

module _ {S : Type 0} (held : S → Held) (acts : ActsOf S) where
  -- From a start with `turns` turns, stretches were served, the last one first, and each was followed by an act. Then
  -- the node was `now`, the records of the port and of the clock were `entries` and `told`, and `left` turns were left,
  -- one at least.
  abbrev pub AreServed : Hosted S → Option (List PortEvent) → Option (List (Option ℕ)) → ℕ → List (Stretch S)
      → Hosted S → Option (List PortEvent) → Option (List (Option ℕ)) → ℕ → Type 0
  AreServed old first asked turns [] now entries told left =
      (now ≡ old) × (entries ≡ first) × (told ≡ asked) × (left ≡ turns)
  AreServed old first asked turns (stretch ∷ earlier) now entries told left =
      AreServed old first asked turns earlier stretch.from stretch.first stretch.asked (stretch.turns + left)
      × (0 < stretch.turns) × (0 < left)
      × Serves held stretch.from stretch.stood stretch.first entries stretch.asked told stretch.turns
      (Ok stretch.served)
      × acts stretch.stood now (Ok true)

  -- The last stretch: an act that failed followed it, and stopped the node.
  pub record FailsToAct (from new : Hosted S) (first entries : Option (List PortEvent))
      (asked told : Option (List (Option ℕ))) (turns : ℕ) (end : Result Served ServeFault) : Type 0 where
    pub count : ℕ
    pub within : count ≤ turns
    pub served : Served
    pub stood : Hosted S
    pub serves : Serves held from stood first entries asked told count (Ok served)
    pub fault : NodeFault
    pub fails : acts stood new (Err fault)
    pub end_is : end ≡ Err (Node fault)

  -- A call that serves a node for `turns` turns in stretches, or until an answer ends them, from `old` to `new`. The
  -- records of the port are `first` and `entries`, and the clock's are `asked` and `told`. `answers` holds for the
  -- number of turns that are left at the end, for whether a client's line waits then, and for the last answer.
  pub record ServesIn (old new : Hosted S) (first entries : Option (List PortEvent))
      (asked told : Option (List (Option ℕ))) (turns : ℕ) (answers : ℕ → Bool → Bool → Type 0)
      (result : Result Served ServeFault) : Type 0 where
    pub stretches : List (Stretch S)
    -- the start of the last stretch
    pub from : Hosted S
    pub from_first : Option (List PortEvent)
    pub from_asked : Option (List (Option ℕ))
    pub left : ℕ
    pub before : AreServed old first asked turns stretches from from_first from_asked left
    pub end : Result Served ServeFault
    pub last : ServesUntil held from new from_first entries from_asked told left answers end
        ⊎ FailsToAct from new from_first entries from_asked told left end
    pub counts : result ≡ end_after stretches end

-- what says nothing of an answer
abbrev pub unasked : ℕ → Bool → Bool → Type 0
unasked left is_waiting ends = ⊤
