-- The promises about offered answers, in terms of the history.
use Rattle.std.specs.Prelude.{◌≡◌, ℕ, ◌<◌, ◌≤◌, true, List, Option, Some, slice_get}
use Rattle.otp_core.specs.Acceptance.{Acceptance}
use Rattle.client_lines.specs.Request.{without_lf}
use Rattle.oath_node.specs.Machine.{Client}
use Rattle.cluster_sim.specs.Answered.{IsOk, IsTextOf, ok_bytes}
use Rattle.cluster_sim.specs.World.{Answer}
use Rattle.book_law.specs.Lives.{Action, Takes, StopsIn, Setting, accepted_in}

-- the action takes the client's line with the nonce at the node, or ends inside its step and keeps its change
abbrev pub IsAskedInAction : ℕ → ℕ → List ℕ → List ℕ → Option Action → Type 0
IsAskedInAction node client line nonce (Some (Takes at (Client by moment text))) =
    (at ≡ node) × (by ≡ client) × IsTextOf line nonce text
IsAskedInAction node client line nonce (Some (StopsIn at true (Client by moment text))) =
    (at ≡ node) × (by ≡ client) × IsTextOf line nonce text
IsAskedInAction node client line nonce _ = ⊥

-- the action takes the client's line at the node, except for an LF at its end
abbrev pub IsSaidInAction : ℕ → ℕ → List ℕ → Option Action → Type 0
IsSaidInAction node client line (Some (Takes at (Client by moment text))) =
    (at ≡ node) × (by ≡ client) × (without_lf text ≡ line)
IsSaidInAction node client line _ = ⊥

-- The answer is the OK of an acceptance of its node. The process took the acceptance's line from the same client, with
-- the same nonce. If the acceptance ended in an earlier action, the client sent the line again.
pub record BelongsToAcceptance (setting : Setting) (history : List Action) (answer : Answer) : Type 0 where
  pub place : ℕ
  pub pass : Acceptance
  pub is_pass : slice_get (accepted_in setting history) place ≡ Some pass
  pub node : pass.node ≡ answer.node
  pub ended : pass.ended ≤ answer.event
  pub line : List ℕ
  pub nonce : List ℕ
  pub asked : IsAskedInAction answer.node answer.client line nonce (slice_get history pass.began)
  pub bytes : answer.bytes ≡ ok_bytes nonce pass.hi
  pub again : pass.ended < answer.event → IsSaidInAction answer.node answer.client line (slice_get history answer.event)

-- each of the answers that begins as an OK belongs to an acceptance of the history
abbrev pub AnswerTruly : Setting → List Action → List Answer → Type 0
AnswerTruly setting history answers =
    (i : ℕ) (answer : Answer) → slice_get answers i ≡ Some answer → IsOk answer.bytes
    → BelongsToAcceptance setting history answer
