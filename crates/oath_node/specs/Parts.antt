-- The machine of a running node's parts, and the effects of calls on the parts. Only private contracts cite it: no
-- public contract depends on it.
use Rattle.std.specs.Prelude.{◌≡◌, ℕ, ◌^◌, false, List, map, Result, IfOk, IfErr}
use Rattle.floor_store.specs.Held.{Held, Breaks, MayPut}
use Rattle.vote_core.specs.State.{IsSameVoter, VoterRecord, sent_by, voter_of}
use Rattle.vote_core.specs.Voting.{pass_in}
use Rattle.vote_core.specs.declared.step.Step.{Step}
use Rattle.answer_ring.specs.Answers.{KeptAnswer}
use Rattle.oath_node.specs.Calls.{IsMade}
use Rattle.oath_node.specs.Hosted.{running_state}
use Rattle.oath_node.specs.Machine.{Made, NodeState, Owner, answers_to_decisions, kept_with_all, owners_of_pending, reply_with}
use Rattle.oath_node.specs.Outputs.{OutputsRecord, items_of}
use Rattle.oath_node.specs.declared.fault.NodeFault.{NodeFault}
use Rattle.oath_node.specs.declared.fault.NodeFault.TheVariants.{Store, Stopped, Spent}
use Rattle.oath_node.specs.declared.parts.Parts.{Parts}

-- the machine of the parts
abbrev pub state_in : {S : Type 0} → (S → Held) → Parts S → NodeState
state_in held parts =
    running_state (held parts.store).content parts.voter parts.owners.items parts.answers

-- The step stops the machine, because no number is left for a proposal. Nothing changes.
pub record StopsParts {S : Type 0} (held : S → Held) (old new : Parts S) (made : Made) : Type 0 where
  pub halts : (held old.store).is_clean → made.state.running ≡ false
  pub none_left : old.voter.seq ≡ 2 ^ 62
  pub unchanged : new ≡ old

-- the reason of a call's fault
abbrev pub FailsParts : {S : Type 0} → (S → Held) → Parts S → Parts S → Made → NodeFault → Type 0
FailsParts held old new made (Store fault) = Breaks held old.store new.store fault
FailsParts held old new made Stopped = ⊥
FailsParts held old new made Spent = StopsParts held old new made

-- A call that takes the parts through the step of their machine.
pub record Steps {S : Type 0} (held : S → Held) (key : List ℕ) (old new : Parts S) (step : NodeState → Made)
    (result : Result OutputsRecord NodeFault) : Type 0 where
  pub made : IfOk result (λ outputs. (held new.store).is_clean
      → IsMade key old.voter.place (step (state_in held old)) outputs (state_in held new))
  pub puts : MayPut held old.store new.store (step (state_in held old)).state.content result
  pub fails : IfErr result (FailsParts held old new (step (state_in held old)))
  pub boot : (held new.store).is_clean → (held new.store).content.boot ≡ (held old.store).content.boot
  pub same : IsSameVoter old.voter new.voter

-- The effects of a step of the voter: the owners that still wait, and the answers that are kept.
pub record Finishes {messages decisions : ℕ} (key : List ℕ) (voter : VoterRecord) (old : List Owner)
    (before : List KeptAnswer) (step : Step messages decisions) (waiting : List Owner) (kept : List KeptAnswer)
    (told : OutputsRecord) : Type 0 where
  -- the messages of the step, and the replies to its decisions
  pub outputs : told ≡ record {
    items = items_of key voter.place.me (sent_by step.sends.items)
        (map reply_with (answers_to_decisions old step.decisions.items));
    begun = step.begun;
    pass = pass_in step.decisions.items;
  }
  pub owners : waiting ≡ owners_of_pending (voter_of voter).pending old
  pub answers : kept ≡ kept_with_all before (answers_to_decisions old step.decisions.items)
