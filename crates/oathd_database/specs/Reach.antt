-- Floors files that were read after the last loss are sufficient for a replacement store.
--
-- The events are the events of vote_core: they include losses and replacements of members' stores. Floor: the first
-- free factor of a token at a node.
use Rattle.std.specs.Prelude.{◌≡◌, ℕ, ◌<◌, true, List, length, Some, IfSome, slice_get}
use Rattle.token_file.specs.Credential.{Credential, place_of}
use Rattle.vote_core.specs.Safety.{KeepsStore}
use Rattle.vote_core.specs.Schedule.{Event, Lost, Opening, cluster_before, has_store}
use Rattle.floors_file.specs.Floors.{FloorsRecord}
use Rattle.oathd_database.specs.Floors.{told_rows}

-- names are unique among the tokens of a book, so each is found by its name
abbrev pub AreFound : List Credential → Type 0
AreFound book = (token : ℕ) → IfSome (slice_get book token) (λ credential. place_of credential.name book ≡ Some token)

module _ (n tokens : ℕ) (opening : Opening) (events : List Event) where
  -- the event `loss` loses a store, and no later event does
  pub record IsLastLoss (loss : ℕ) : Type 0 where
    pub node : ℕ
    pub is : slice_get events loss ≡ Some (Lost node)
    pub had : has_store (cluster_before n tokens opening events loss) node ≡ true
    pub last : (event node : ℕ) → loss < event → slice_get events event ≡ Some (Lost node) → ⊥

  -- A file has the floors of its node for the tokens of a book before an event after `loss`. No store was created for
  -- the node in between.
  pub record IsReadAfter (loss : ℕ) (book : List Credential) (file : FloorsRecord) : Type 0 where
    pub event : ℕ
    pub later : loss < event
    pub kept : KeepsStore events file.head.node loss event
    pub each : length ((cluster_before n tokens opening events event).nodes file.head.node).content.rows ≡ length book
    pub told : file.rows
        ≡ told_rows book ((cluster_before n tokens opening events event).nodes file.head.node).content.rows

  -- each file was read after `loss`
  abbrev pub AreReadAfter : ℕ → List Credential → List FloorsRecord → Type 0
  AreReadAfter loss book files = (place : ℕ) → IfSome (slice_get files place) (IsReadAfter loss book)
