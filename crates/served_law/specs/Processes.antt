-- The whole run of a node that serves by names, as one use of its store in a history.
use Rattle.std.specs.Prelude.{◌≡◌, ◌⊎◌, ℕ, ◌+◌, Bool, true, List, [], ◌∷◌, Option, Some, None, Result, Ok, Err}
use Rattle.std.proofs.Common.{inl, inr}
use Rattle.datagram_port.specs.Port.{PortEvent}
use Rattle.floor_store.specs.Content.{Content}
use Rattle.floor_store.specs.Held.{Held}
use Rattle.oath_node.specs.Hosted.{Hosted}
use Rattle.oath_node.specs.TurnServing.{ServesUntil}
use Rattle.oath_node.specs.declared.fault.NodeFault.{NodeFault}
use Rattle.oath_node.specs.declared.serve_fault.ServeFault.{ServeFault}
use Rattle.oath_node.specs.declared.turns.Served.{Served}
use Rattle.node_serving.specs.Stretches.{AreServed, FailsToAct, ServesIn, Stretch, operator_acts}
use Rattle.book_law.specs.Lives.{Setting, Store, Terms}
use Rattle.book_law.specs.Stretches.{Stretch as StretchOf, token_cleared, tokens_cleared}
use Rattle.book_law.specs.Uses.{WasProcessIn}

-- ---- Acts and stretches

-- the number that an act for an operator unlocked, if it did
abbrev pub number_unlocked : {S : Type 0} (held : S → Held) (old new : Hosted S) (result : Result Bool NodeFault)
    → operator_acts held old new result → Option ℕ
number_unlocked held old new result (inl unlocks) = Some unlocks.0
number_unlocked held old new result (inr other) = None

module _ {S : Type 0} (held : S → Held) where
  -- the stretches as a history has them, each with the number that the act after it unlocked
  abbrev pub with_numbers : (old : Hosted S) (first : Option (List PortEvent)) (asked : Option (List (Option ℕ)))
      (turns : ℕ) (stretches : List (Stretch S)) (now : Hosted S) (entries : Option (List PortEvent))
      (told : Option (List (Option ℕ))) (left : ℕ)
      → AreServed held (operator_acts held) old first asked turns stretches now entries told left → List (StretchOf S)
  with_numbers old first asked turns [] now entries told left are = []
  with_numbers old first asked turns (stretch ∷ earlier) now entries told left are = record {
    from = stretch.from;
    stood = stretch.stood;
    first = stretch.first;
    asked = stretch.asked;
    told = told;
    turns = stretch.turns;
    served = stretch.served;
    unlocked = number_unlocked held stretch.stood now (Ok true) are.4;
  } ∷ with_numbers old first asked turns earlier stretch.from stretch.first stretch.asked (stretch.turns + left) are.0

  -- The store was clean at the start of each stretch, and of the turns after them, which began with the node `now`.
  abbrev pub AreClean : List (Stretch S) → Hosted S → Type 0
  AreClean [] now = (held now.store).is_clean
  AreClean (stretch ∷ earlier) now = (held now.store).is_clean × AreClean earlier stretch.from

  -- The end of a run, and the number whose gate it cleared there. Turns clear none. An act that failed cleared its own,
  -- or none.
  abbrev pub MayEndWith : (from new : Hosted S) (first entries : Option (List PortEvent))
      (asked told : Option (List (Option ℕ))) (turns : ℕ) (answers : ℕ → Bool → Bool → Type 0)
      (end : Result Served ServeFault)
      → ServesUntil held from new first entries asked told turns answers end
      ⊎ FailsToAct held (operator_acts held) from new first entries asked told turns end → Option ℕ → Type 0
  MayEndWith from new first entries asked told turns answers end (inl serves) number = number ≡ None
  MayEndWith from new first entries asked told turns answers end (inr fails) number =
      (number ≡ None) ⊎ (number ≡ number_unlocked held fails.stood new (Err fails.fault) fails.fails)

  -- ---- A run

  -- A run of turns in stretches, with acts for operators between them. The port's record was empty at the start.
  abbrev pub RunsIn : Hosted S → Hosted S → List PortEvent → ℕ → (ℕ → Bool → Bool → Type 0)
      → Result Served ServeFault → Type 0
  RunsIn old new entries turns answers result =
      ServesIn held (operator_acts held) old new (Some []) (Some entries) None None turns answers result

  module _ {old new : Hosted S} {entries : List PortEvent} {turns : ℕ} {answers : ℕ → Bool → Bool → Type 0}
      {result : Result Served ServeFault} (run : RunsIn old new entries turns answers result) where
    -- the store was clean at the start of each stretch of the run, and at its end
    pub record StaysClean : Type 0 where
      pub at_starts : AreClean run.stretches run.from
      pub at_end : (held new.store).is_clean

    -- the stretches of the run, with the numbers that the acts unlocked
    abbrev pub stretches_of : List (StretchOf S)
    stretches_of = with_numbers old (Some []) None turns run.stretches run.from run.from_first run.from_asked run.left
        run.before

    -- The run is one use of the store `found`. A stop left `left` of what the node saw. The process cleared the gates
    -- that the acts for operators unlocked, each after its stretch.
    pub record IsUse (setting : Setting) (node : ℕ) (terms : Terms) (port : List ℕ) (found : Store)
        (recorded : List PortEvent) (left : Content) : Type 0 where
      pub last : Option ℕ
      pub last_is : MayEndWith run.from new run.from_first (Some entries) run.from_asked None run.left answers run.end
          run.last last
      pub was : WasProcessIn setting node terms port found
          (tokens_cleared terms stretches_of (token_cleared terms last ∷ [])) recorded left
