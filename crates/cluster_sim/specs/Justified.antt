-- The justification of an acceptance by a client's line. It doesn't use votes, grants or messages. Floor: the first
-- free factor of a token at a node.
use Rattle.std.specs.Prelude.{◌≡◌, ℕ, ℤ, true, false, List, Option, Some, None, slice_get}
use Rattle.otp_core.specs.Acceptance.{Acceptance}
use Rattle.token_file.specs.Credential.{Credential}
use Rattle.admit_core.specs.Entitled.{IsEntitled}
use Rattle.admit_core.specs.Throttle.{Result}
use Rattle.oath_node.specs.Machine.{Config}
use Rattle.client_lines.specs.Request.{Request, IsLine}
use Rattle.cluster_sim.specs.Drifts.{drift_before}
use Rattle.cluster_sim.specs.Results.{results_before}
use Rattle.cluster_sim.specs.World.{Act, Says, Deliver, Ticks, Noise, WorldEvent, Happens, Cut, Restart, Lost, Anew, floor_before, Start}

-- A line at a moment that entitles its sender to the factors `lo` to `hi`. It is in the line grammar, for the user of
-- the token. `next`, `drift` and `results` are the token's floor, drift and results so far at the node.
pub record IsGround (config : Config) (moment : ℕ) (line : List ℕ) (token next : ℕ) (drift : ℤ)
    (results : List Result) (lo hi : ℕ) : Type 0 where
  pub request : Request
  pub grammar : IsLine line request
  pub credential : Credential
  pub is_token : slice_get config.book token ≡ Some credential
  pub user : credential.name ≡ request.user
  pub entitled : IsEntitled credential config.limits moment request.submission request.password next drift results
      lo hi

-- the act is a line that justifies the acceptance, at its node
abbrev pub IsGroundIn : Config → ℕ → ℤ → List Result → Acceptance → Act → Type 0
IsGroundIn config next drift results accepted (Says node client moment line) =
    (node ≡ accepted.node) × IsGround config moment line accepted.token next drift results accepted.lo accepted.hi
IsGroundIn config next drift results accepted (Deliver node k) = ⊥
IsGroundIn config next drift results accepted (Ticks node) = ⊥
IsGroundIn config next drift results accepted (Noise node from read) = ⊥

-- the event is an act that justifies the acceptance, or a stop inside it that kept its change
abbrev pub IsGroundOf : Config → ℕ → ℤ → List Result → Acceptance → Option WorldEvent → Type 0
IsGroundOf config next drift results accepted None = ⊥
IsGroundOf config next drift results accepted (Some (Happens act)) = IsGroundIn config next drift results accepted act
IsGroundOf config next drift results accepted (Some (Cut true act)) = IsGroundIn config next drift results accepted act
IsGroundOf config next drift results accepted (Some (Cut false act)) = ⊥
IsGroundOf config next drift results accepted (Some (Restart node)) = ⊥
IsGroundOf config next drift results accepted (Some (Lost node)) = ⊥
IsGroundOf config next drift results accepted (Some (Anew node boot floors)) = ⊥

-- the event in which the acceptance began justifies it, by the floor, the drift and the results there before it
abbrev pub IsJustified : Config → Start → List WorldEvent → Acceptance → Type 0
IsJustified config start events accepted =
    let next = floor_before config start events accepted.node accepted.token accepted.began in
    let drift = drift_before config start events accepted.node accepted.token accepted.began in
    let results = results_before config start events accepted.node accepted.token accepted.began in
    IsGroundOf config next drift results accepted (slice_get events accepted.began)

-- each of the acceptances is justified
abbrev pub AreJustified : Config → Start → List WorldEvent → List Acceptance → Type 0
AreJustified config start events passes =
    (i : ℕ) (accepted : Acceptance) → slice_get passes i ≡ Some accepted → IsJustified config start events accepted
