-- The floors at which new tokens are enrolled. Floor: the first free factor of a token at a node.
use Rattle.std.specs.Prelude.{ℕ, ◌-◌, List, [], ◌∷◌, Option, None, Some, if◌then◌else◌}
use Rattle.otp_core.specs.Limits.{Limits}
use Rattle.otp_core.specs.Totp.{step_of}
use Rattle.token_file.specs.Credential.{Credential, period_of}
use Rattle.oathd_database.specs.Users.{drifted_floors}
use Rattle.oathd_roster.specs.declared.cluster.NamedCluster.{NamedCluster}

-- The floor of a token whose secret is new. A time token begins at its step of the moment, less the skew: no code of it
-- was accepted anywhere. An event token begins at its counter.
abbrev pub fresh_floor : Limits → ℕ → Option ℕ → ℕ → ℕ
fresh_floor limits moment None counter = counter
fresh_floor limits moment (Some period) counter = step_of moment 0 period - limits.skew

-- the floor of each token of a book whose secrets are new
abbrev pub fresh_floors : Limits → ℕ → List Credential → List ℕ → List ℕ
fresh_floors limits moment [] floors = []
fresh_floors limits moment (token ∷ book) [] = []
fresh_floors limits moment (token ∷ book) (floor ∷ floors) =
    fresh_floor limits moment (period_of token.kind) floor ∷ fresh_floors limits moment book floors

-- The floors of new tokens of a cluster at a start. They are those of the import, later by the drift for time tokens,
-- unless the cluster file says that the secrets of new tokens are new.
abbrev pub enrolment_floors : NamedCluster → Limits → ℕ → List Credential → List ℕ → List ℕ
enrolment_floors cluster limits moment book floors =
    if cluster.is_fresh then fresh_floors limits moment book floors else drifted_floors limits.drift book floors
