-- The stretches of a run with acts for operators are those of a process in parts.
use Rattle.std.proofs.Common.{ℕ, ◌+◌, Bool, true, List, [], ◌∷◌, Option, Some, None, refl, subst, inl, inr}
use Rattle.std.specs.Prelude.{◌⊎◌, Result, Ok, Err}
use Rattle.datagram_port.specs.Port.{PortEvent}
use Rattle.floor_store.specs.Content.{Content}
use Rattle.floor_store.specs.Held.{Held}
use Rattle.floor_store.specs.Range.{IsCount}
use Rattle.oath_node.specs.Calls.{IsOpened}
use Rattle.oath_node.specs.Hosted.{Hosted}
use Rattle.oath_node.specs.TurnServing.{ServesUntil}
use Rattle.oath_node.specs.declared.fault.NodeFault.{NodeFault}
use Rattle.oath_node.specs.declared.serve_fault.ServeFault.{ServeFault}
use Rattle.oath_node.specs.declared.turns.Served.{Served}
use Rattle.seated_store.specs.Seated.{SeatedRecord, seated_held}
use Rattle.node_serving.specs.Stretches.{AreServed, FailsToAct, Stretch, operator_acts}
use Rattle.book_law.specs.Lives.{Setting, Store, Terms}
use Rattle.book_law.specs.Stretches.{ActsAs, AreServed as AreServedOf, Stretch as StretchOf, token_cleared, tokens_cleared}
use Rattle.book_law.specs.Uses.{IsSeatedMember, WasProcessIn}
use Rattle.book_law.proofs.Stretches.{act_fails, turns_end}
use Rattle.served_law.specs.Processes.{AreClean, IsUse, MayEndWith, RunsIn, StaysClean, number_unlocked, stretches_of, with_numbers}

-- ---- acts and stretches

module _ {S : Type 0} (held : S → Held) where
  pub acts_as : (old new : Hosted S) (result : Result Bool NodeFault) (act : operator_acts held old new result) → ActsAs held (number_unlocked held old new result act) old new result
  acts_as old new result (inl unlocks) = unlocks.1
  acts_as old new result (inr (inl reads)) = inl reads
  acts_as old new result (inr (inr nothing)) = inr nothing.1

  module _ (old : Hosted S) (first : Option (List PortEvent)) (asked : Option (List (Option ℕ))) (turns : ℕ) where
    pub are_served : (stretches : List (Stretch S)) (now : Hosted S) (entries : Option (List PortEvent)) (told : Option (List (Option ℕ))) (left : ℕ)
        (are : AreServed held (operator_acts held) old first asked turns stretches now entries told left) → AreClean held stretches now
        → AreServedOf held old first (with_numbers held old first asked turns stretches now entries told left are) now entries
    are_served [] now entries told left are clean = (are.0, are.1)
    are_served (stretch ∷ earlier) now entries told left are clean = (
      are_served earlier stretch.from stretch.first stretch.asked (stretch.turns + left) are.0 clean.1,
      are.3,
      acts_as stretch.stood now (Ok true) are.4,
      clean.0,
    )

    starts_clean : (stretches : List (Stretch S)) (now : Hosted S) (entries : Option (List PortEvent)) (told : Option (List (Option ℕ))) (left : ℕ)
        → AreServed held (operator_acts held) old first asked turns stretches now entries told left → AreClean held stretches now → (held old.store).is_clean
    starts_clean [] now entries told left are clean = subst (λ (n : Hosted S). (held n.store).is_clean) are.0 clean
    starts_clean (stretch ∷ earlier) now entries told left are clean =
        starts_clean earlier stretch.from stretch.first stretch.asked (stretch.turns + left) are.0 clean.1

  -- the store was clean at the start of the run
  pub run_starts_clean : {old new : Hosted S} {entries : List PortEvent} {turns : ℕ} {answers : ℕ → Bool → Bool → Type 0} {result : Result Served ServeFault}
      (run : RunsIn held old new entries turns answers result) → StaysClean held run → (held old.store).is_clean
  run_starts_clean {old} run stays =
      starts_clean old (Some []) None _ run.stretches run.from run.from_first run.from_asked run.left run.before stays.at_starts

-- ---- a run over a seated store

module _ {S : Type 0} (held : S → Held) (setting : Setting) (node : ℕ) (terms : Terms) (port : List ℕ) (found : Store) (store : SeatedRecord S) (old new : Hosted (SeatedRecord S))
    (member : IsSeatedMember held setting node terms port found store old) (opened : IsOpened (seated_held held) store old) (count : IsCount (seated_held held old.store).content.boot) where
  abbrev view : SeatedRecord S → Held
  view = seated_held held

  -- a use at an end of the turns
  record EndsAs (entries : List PortEvent) (answers : ℕ → Bool → Bool → Type 0) (stretches : List (StretchOf (SeatedRecord S))) (from : Hosted (SeatedRecord S)) (first : Option (List PortEvent)) (asked : Option (List (Option ℕ))) (left_turns : ℕ) (end : Result Served ServeFault)
      (left : Content) (ends : ServesUntil view from new first (Some entries) asked None left_turns answers end ⊎ FailsToAct view (operator_acts view) from new first (Some entries) asked None left_turns end) : Type 0 where
    last : Option ℕ
    last_is : MayEndWith view from new first (Some entries) asked None left_turns answers end ends last
    was : WasProcessIn setting node terms port found (tokens_cleared terms stretches (token_cleared terms last ∷ [])) entries left

  ends_as : (entries : List PortEvent) (answers : ℕ → Bool → Bool → Type 0) (stretches : List (StretchOf (SeatedRecord S))) (from : Hosted (SeatedRecord S)) (first : Option (List PortEvent)) (asked : Option (List (Option ℕ))) (left_turns : ℕ) (end : Result Served ServeFault) (left : Content)
      → (view old.store).is_clean → AreServedOf view old (Some []) stretches from first → (view new.store).is_clean → (view new.store).leaves left
      → (ends : ServesUntil view from new first (Some entries) asked None left_turns answers end ⊎ FailsToAct view (operator_acts view) from new first (Some entries) asked None left_turns end)
      → EndsAs entries answers stretches from first asked left_turns end left ends
  ends_as entries answers stretches from first asked left_turns end left begins are clean leaves (inl until) = record {
    last = None;
    last_is = refl;
    was = turns_end held setting node terms port found store old member opened begins count stretches from new first entries asked None until.most end left are until.serves clean leaves;
  }
  ends_as entries answers stretches from first asked left_turns end left begins are clean leaves (inr fails) =
      let number : Option ℕ = number_unlocked view fails.stood new (Err fails.fault) fails.fails in
      elim (act_fails held setting node terms port found store old member opened begins count stretches from fails.stood new first entries asked None fails.count fails.served number fails.fault left
      are fails.serves (acts_as view fails.stood new (Err fails.fault) fails.fails) clean leaves) [
        | inl was ↦ record { last = None; last_is = inl refl; was = was }
        | inr was ↦ record { last = number; last_is = inr refl; was = was }
      ]

  pub run_is_use : {entries : List PortEvent} {turns : ℕ} {answers : ℕ → Bool → Bool → Type 0} {result : Result Served ServeFault} (run : RunsIn view old new entries turns answers result) → StaysClean view run → (left : Content) → (view new.store).leaves left → IsUse view run setting node terms port found entries left
  run_is_use {entries} {turns} {answers} run stays left leaves =
      let begins = run_starts_clean view run stays in
      let are = are_served view old (Some []) None turns run.stretches run.from run.from_first run.from_asked run.left run.before stays.at_starts in
      let it = ends_as entries answers (stretches_of view run) run.from run.from_first run.from_asked run.left run.end left begins are stays.at_end leaves run.last in
      record { last = it.last; last_is = it.last_is; was = it.was }
