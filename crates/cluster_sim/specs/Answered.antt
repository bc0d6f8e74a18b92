-- The acceptance to which an OK belongs, and the OK of an acceptance.
use Rattle.std.specs.Prelude.{◌≡◌, ℕ, ◌<◌, ◌≤◌, true, false, List, take, Option, Some, None, slice_get, codes}
use Rattle.otp_core.specs.Acceptance.{Acceptance}
use Rattle.otp_core.specs.Range.{IsFactor}
use Rattle.client_lines.specs.Answer.{answer_bytes}
use Rattle.client_lines.specs.Field.{IsNonce}
use Rattle.client_lines.specs.Request.{Request, IsLine, without_lf}
use Rattle.client_lines.specs.declared.answer.Answer.TheVariants.{Reply}
use Rattle.client_lines.specs.declared.answer.Outcome.TheVariants.{Accepted}
use Rattle.cluster_sim.specs.World.{Act, Says, Deliver, Ticks, Noise, WorldEvent, Happens, Cut, Restart, Lost, Anew, Answer}

-- the reply begins as an OK
abbrev pub IsOk : List ℕ → Type 0
IsOk bytes = take 3 bytes ≡ codes "OK "

-- the OK with the nonce and the last factor `hi`
abbrev pub ok_bytes : List ℕ → ℕ → List ℕ
ok_bytes nonce hi = answer_bytes (Reply nonce (Accepted hi))

-- a text in the line grammar with the nonce; without an LF at its end it is the line
pub record IsTextOf (line nonce text : List ℕ) : Type 0 where
  pub request : Request
  pub grammar : IsLine text request
  pub nonce_is : nonce ≡ request.nonce
  pub line_is : without_lf text ≡ line

-- the act is the client's line at the node, with the nonce
abbrev pub IsAskedBy : ℕ → ℕ → List ℕ → List ℕ → Act → Type 0
IsAskedBy node client line nonce (Says at by moment text) = (at ≡ node) × (by ≡ client) × IsTextOf line nonce text
IsAskedBy node client line nonce (Deliver at k) = ⊥
IsAskedBy node client line nonce (Ticks at) = ⊥
IsAskedBy node client line nonce (Noise at from read) = ⊥

-- the event is the client's line, or a stop inside it that kept its change
abbrev pub IsAskedIn : ℕ → ℕ → List ℕ → List ℕ → Option WorldEvent → Type 0
IsAskedIn node client line nonce None = ⊥
IsAskedIn node client line nonce (Some (Happens act)) = IsAskedBy node client line nonce act
IsAskedIn node client line nonce (Some (Cut true act)) = IsAskedBy node client line nonce act
IsAskedIn node client line nonce (Some (Cut false act)) = ⊥
IsAskedIn node client line nonce (Some (Restart at)) = ⊥
IsAskedIn node client line nonce (Some (Lost at)) = ⊥
IsAskedIn node client line nonce (Some (Anew at boot floors)) = ⊥

-- in the event the client sends the line at the node, except for an LF at its end
abbrev pub IsSaidIn : ℕ → ℕ → List ℕ → Option WorldEvent → Type 0
IsSaidIn node client line (Some (Happens (Says at by moment text))) =
    (at ≡ node) × (by ≡ client) × (without_lf text ≡ line)
IsSaidIn node client line _ = ⊥

-- An acceptance for a reply at the reply's node, with the last factor `hi`. The acceptance's line came from the reply's
-- client with the nonce. If the acceptance ended in an earlier event, the client sent the line again.
pub record IsPassOf (events : List WorldEvent) (passes : List Acceptance) (told : Answer) (nonce : List ℕ)
    (hi : ℕ) : Type 0 where
  pub place : ℕ
  pub pass : Acceptance
  pub is_pass : slice_get passes place ≡ Some pass
  pub node : pass.node ≡ told.node
  pub ended : pass.ended ≤ told.event
  pub last : pass.hi ≡ hi
  pub line : List ℕ
  pub asked : IsAskedIn told.node told.client line nonce (slice_get events pass.began)
  pub again : pass.ended < told.event → IsSaidIn told.node told.client line (slice_get events told.event)

-- the reply is the OK with some nonce and last factor, and has its acceptance
pub record BelongsToPass (events : List WorldEvent) (passes : List Acceptance) (told : Answer) : Type 0 where
  pub nonce : List ℕ
  pub hi : ℕ
  pub bytes : told.bytes ≡ ok_bytes nonce hi
  pub belongs : IsPassOf events passes told nonce hi

-- each reply that begins as an OK belongs to an acceptance
abbrev pub TellTruth : List WorldEvent → List Acceptance → List Answer → Type 0
TellTruth events passes answers =
    (i : ℕ) (told : Answer) → slice_get answers i ≡ Some told → IsOk told.bytes → BelongsToPass events passes told

-- each OK with a nonce and a factor has its acceptance
abbrev pub NamePasses : List WorldEvent → List Acceptance → List Answer → Type 0
NamePasses events passes answers =
    (i : ℕ) (told : Answer) (nonce : List ℕ) (hi : ℕ) → slice_get answers i ≡ Some told → IsNonce nonce → IsFactor hi
    → told.bytes ≡ ok_bytes nonce hi → IsPassOf events passes told nonce hi

-- the client whose line began the acceptance gets the OK in the event in which the acceptance ended
pub record HasAnswer (events : List WorldEvent) (answers : List Answer) (pass : Acceptance) : Type 0 where
  pub place : ℕ
  pub answer : Answer
  pub is_told : slice_get answers place ≡ Some answer
  pub event : answer.event ≡ pass.ended
  pub node : answer.node ≡ pass.node
  pub line : List ℕ
  pub nonce : List ℕ
  pub asked : IsAskedIn pass.node answer.client line nonce (slice_get events pass.began)
  pub bytes : answer.bytes ≡ ok_bytes nonce pass.hi

-- the acceptance has its OK, unless the node stopped in the event
abbrev pub IsAnsweredIn : List WorldEvent → List Answer → Acceptance → Option WorldEvent → Type 0
IsAnsweredIn events answers pass None = ⊥
IsAnsweredIn events answers pass (Some (Happens act)) = HasAnswer events answers pass
IsAnsweredIn events answers pass (Some (Cut true act)) = Unit {0}
IsAnsweredIn events answers pass (Some (Cut false act)) = ⊥
IsAnsweredIn events answers pass (Some (Restart node)) = ⊥
IsAnsweredIn events answers pass (Some (Lost node)) = ⊥
IsAnsweredIn events answers pass (Some (Anew node boot floors)) = ⊥

-- each acceptance has its OK, unless the node stopped in the event
abbrev pub AreAnswered : List WorldEvent → List Answer → List Acceptance → Type 0
AreAnswered events answers passes =
    (i : ℕ) (pass : Acceptance) → slice_get passes i ≡ Some pass
    → IsAnsweredIn events answers pass (slice_get events pass.ended)
