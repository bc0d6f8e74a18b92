-- Examples: a users file of two tokens, a user whom it lacks, and small stores. No contract cites them.
use Rattle.std.specs.Prelude.{ℕ, refl, false, List, [], ◌∷◌, codes}
use Rattle.sqlite.specs.Store.{Ghosts}
use Rattle.floor_sql.specs.Held.{SqlHeld}
use Rattle.roster_sql.specs.Examples.{one_token, small_bond}
use Rattle.seated_store.specs.Seated.{SeatedRecord}
use Rattle.oathd_database.specs.Broken.{new_store, still}
use Rattle.oathd_roster.specs.declared.cluster.NamedCluster.{NamedCluster}
use Rattle.token_file.specs.Credential.{Credential}
use Rattle.token_file.specs.Examples.{event_token}
use Rattle.oathd_seats.specs.declared.fault.SeatsFault.{SeatsFault}
use Rattle.oathd_seats.specs.declared.fault.SeatsFault.TheVariants.{NoUser}
use Rattle.oathd_seats.specs.declared.naming.Naming.{Naming}
use Rattle.oathd_seats.specs.Seen.{at_member}

-- the tokens of two users
abbrev pub ann_and_bob : List Credential
ann_and_bob = event_token (codes "ann") ∷ event_token (codes "bob") ∷ []

-- a fault of a user whom no token has
abbrev pub nobody : List ℕ → SeatsFault
nobody name = NoUser (record { ref_ptr = (0, 0); now = name })

-- a cluster of three members
abbrev pub small_cluster : NamedCluster
small_cluster = record { salt = codes "a-public-word"; bond = small_bond; is_fresh = false; bound = refl }

-- a store without a row, seen by no token
abbrev pub nothing_seen : SeatedRecord (SqlHeld ℕ)
nothing_seen = record { inner = new_store 4 []; seats = []; is_unusable = false }

-- a disk that always shows the store of node 1 with one token
abbrev pub one_named : Ghosts ℕ
one_named = still one_token.trees

-- a store whose only token is seen in its row
abbrev pub one_seen : SeatedRecord (SqlHeld ℕ)
one_seen = record { inner = new_store 4 (0 ∷ []); seats = 0 ∷ []; is_unusable = false }

-- a store of two tokens with these seats
abbrev pub two_seen : List ℕ → SeatedRecord (SqlHeld ℕ)
two_seen seats = record { inner = new_store 4 (5 ∷ 9 ∷ []); seats = seats; is_unusable = false }

-- the naming of node 1 of the cluster
abbrev pub by_names : Naming
by_names = at_member 1 small_cluster
