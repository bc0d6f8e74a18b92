-- The outcome of an acceptance's answer, in terms of the history.
use Rattle.std.specs.Prelude.{◌≡◌, ◌⊎◌, ℕ, true, List, take, Option, Some, slice_get}
use Rattle.otp_core.specs.Acceptance.{Acceptance}
use Rattle.oath_node.specs.Machine.{NodeState}
use Rattle.cluster_sim.specs.Answered.{ok_bytes}
use Rattle.cluster_sim.specs.World.{Answer}
use Rattle.book_law.specs.Lives.{Action, Takes, Stops, StopsIn, Loses, Output, Process, Setting, Store, Terms, ToClient, Up, answered_in, state_of}
use Rattle.book_law.specs.Promises.{IsAskedInAction}

-- the answer is in the list
pub record IsToldAmong (answer : Answer) (answers : List Answer) : Type 0 where
  pub place : ℕ
  pub is_there : slice_get answers place ≡ Some answer

-- the process still has to offer the answer
pub record HasYetToOffer (answer : Answer) (process : Process) : Type 0 where
  pub terms : Terms
  pub below : Store
  pub state : NodeState
  pub waiting : List Output
  pub is_up : process ≡ Up terms below state waiting
  pub place : ℕ
  pub is_there : slice_get waiting place ≡ Some (ToClient answer)

-- the action ends the process of the node
abbrev pub EndsProcess : ℕ → Option Action → Type 0
EndsProcess node (Some (Stops at)) = at ≡ node
EndsProcess node (Some (StopsIn at kept input)) = at ≡ node
EndsProcess node (Some (Loses at)) = at ≡ node
EndsProcess node _ = ⊥

-- the process of the node ended in an action before which it still had to offer the answer
pub record IsLost (setting : Setting) (history : List Action) (answer : Answer) : Type 0 where
  pub event : ℕ
  pub ends : EndsProcess answer.node (slice_get history event)
  pub yet : HasYetToOffer answer ((state_of setting (take event history)).processes answer.node)

-- An answer was offered, its process ended before it offered it, or the process still has to offer it.
abbrev pub IsOfferedOrEnds : Setting → List Action → Answer → Type 0
IsOfferedOrEnds setting history answer =
    IsToldAmong answer (answered_in setting history)
    ⊎ (IsLost setting history answer ⊎ HasYetToOffer answer ((state_of setting history).processes answer.node))

-- In the action in which the acceptance ended, its process made the OK for the client of its line. The process offered
-- the OK or still has to, unless it ended first.
pub record HasOk (setting : Setting) (history : List Action) (pass : Acceptance) : Type 0 where
  pub answer : Answer
  pub event : answer.event ≡ pass.ended
  pub node : answer.node ≡ pass.node
  pub line : List ℕ
  pub nonce : List ℕ
  pub asked : IsAskedInAction pass.node answer.client line nonce (slice_get history pass.began)
  pub bytes : answer.bytes ≡ ok_bytes nonce pass.hi
  pub becomes : IsOfferedOrEnds setting history answer

-- An acceptance in a taken step has its OK. An acceptance in a step inside which the process ended has none.
abbrev pub IsAnsweredInAction : Setting → List Action → Acceptance → Option Action → Type 0
IsAnsweredInAction setting history pass (Some (Takes node input)) = HasOk setting history pass
IsAnsweredInAction setting history pass (Some (StopsIn node true input)) = Unit {0}
IsAnsweredInAction setting history pass _ = ⊥

-- each of the acceptances has its OK in the history, or ended in a stop
abbrev pub AnswersAll : Setting → List Action → List Acceptance → Type 0
AnswersAll setting history passes =
    (i : ℕ) (pass : Acceptance) → slice_get passes i ≡ Some pass
    → IsAnsweredInAction setting history pass (slice_get history pass.ended)
