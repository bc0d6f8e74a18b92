-- The drift of a token at a node, from the acceptances and the acts of a run. It doesn't use rows, proposals or votes.
use Rattle.std.specs.Prelude.{ℕ, ℤ, pos, ◌==◌, ◌&&◌, if◌then◌else◌, List, [], ◌∷◌, ◌++◌, Option, Some, None, slice_get}
use Rattle.otp_core.specs.Acceptance.{Acceptance}
use Rattle.otp_core.specs.Limits.{Limits}
use Rattle.token_file.specs.Credential.{Credential}
use Rattle.admit_core.specs.Drift.{kept_drift}
use Rattle.oath_node.specs.Machine.{Config}
use Rattle.cluster_sim.specs.World.{Act, Says, Deliver, Ticks, Noise, Note, WorldEvent, Happens, Cut, Restart, Lost, Anew, acceptance_in, begun_in, world_before, Start}

-- the moment of a client's line in an act
abbrev pub moment_of : Act → Option ℕ
moment_of (Says node client moment line) = Some moment
moment_of (Deliver node k) = None
moment_of (Ticks node) = None
moment_of (Noise node from read) = None

-- the moment of a client's line in an event, or in a stop inside it
abbrev pub moment_in : Option WorldEvent → Option ℕ
moment_in None = None
moment_in (Some (Happens act)) = moment_of act
moment_in (Some (Cut kept act)) = moment_of act
moment_in (Some (Restart node)) = None
moment_in (Some (Lost node)) = None
moment_in (Some (Anew node boot floors)) = None

-- the drift of an acceptance up to the factor `hi`, from its token and its line's moment
abbrev pub drift_by : Limits → Option Credential → Option ℕ → ℕ → ℤ
drift_by limits None moment hi = pos 0
drift_by limits (Some credential) None hi = pos 0
drift_by limits (Some credential) (Some moment) hi = kept_drift credential.kind limits moment hi

-- the drift of an acceptance in a run of the events
abbrev pub drift_kept : Config → List WorldEvent → Acceptance → ℤ
drift_kept config events pass =
    let moment = moment_in (slice_get events pass.began) in
    drift_by config.limits (slice_get config.book pass.token) moment pass.hi

-- The drift of a token at a node after the acceptances, the oldest first, from the given drift on. The last acceptance
-- of the token at the node decides.
abbrev pub drift_after : Config → List WorldEvent → ℕ → ℕ → ℤ → List Acceptance → ℤ
drift_after config events node token drift [] = drift
drift_after config events node token drift (pass ∷ passes) =
    let is_own = (pass.node == node) && (pass.token == token) in
    drift_after config events node token (if is_own then drift_kept config events pass else drift) passes

-- the acceptances of a history since the latest replacement of the node's store, in order
abbrev pub passes_since : ℕ → List Note → List Acceptance
passes_since node [] = []
passes_since node (note ∷ history) =
    if note.anew && (note.node == node)
    then []
    else passes_since node history ++ acceptance_in (begun_in (note ∷ history)) note.event note.node note.pass

-- The drift of the token at the node before the event of the given number. It is the drift of the token's last
-- acceptance there, and 0 if there is none since the latest replacement of the store.
abbrev pub drift_before : Config → Start → List WorldEvent → ℕ → ℕ → ℕ → ℤ
drift_before config start events node token event =
    let history = (world_before config start events event).history in
    drift_after config events node token (pos 0) (passes_since node history)
