-- The effects of the commands that create, upgrade or level a stopped store, or print its floors, by their words.
--
-- Floor: the first free factor of a token at a node.
use Rattle.std.specs.Prelude.{◌≡◌, ℕ, List, length, Option, None, Some, Ok}
use Rattle.std.specs.Option.{option_map}
use Rattle.std.specs.Io.KnownBytes.{Appends}
use Rattle.sqlite.specs.Store.{Ghosts}
use Rattle.sqlite.specs.Held as sql
use Rattle.sqlite.specs.State.{HasCleanDisk}
use Rattle.otp_core.specs.Limits.{Limits, default_limits}
use Rattle.otp_core.specs.Range.{IsMoment}
use Rattle.vote_core.specs.NodeSet.{PlaceRecord}
use Rattle.floor_sql.specs.Held.{SqlHeld}
use Rattle.cluster_file.specs.ClusterFile.{ClusterRecord, cluster_of}
use Rattle.oathd_words.specs.declared.former_words.FormerWords.{FormerWords}
use Rattle.oathd_words.specs.declared.store_words.Owner.{Owner}
use Rattle.oathd_words.specs.declared.store_words.Owner.TheVariants.{Any, Node, Member}
use Rattle.oathd_database.specs.Commands.{HasMade, HasMigrated}
use Rattle.oathd_database.specs.Floors.{HasToldFloors}
use Rattle.oathd_database.specs.Level.{HasLevelled}
use Rattle.oathd_database.specs.Lost.{HasRemade}
use Rattle.oathd_database.specs.Made.{HasMadeMember, store_line}
use Rattle.oathd_database.specs.declared.lost.LostNode.{LostNode}
use Rattle.oathd_roster.specs.declared.cluster.NamedCluster.{NamedCluster}
use Rattle.oathd_tasks.specs.Check.{IsKeyIn}
use Rattle.oathd_acts.specs.Named.{AreNamedFloorsTold, IsMemberLevelled, IsMigratedByNames, IsRemadeByNames}
use Rattle.oathd_site.specs.Names.{IsNamedIn}
use Rattle.oathd_site.specs.Names.{place_in}

-- the given moment, or any without one
abbrev pub IsMomentOf : Option ℕ → ℕ → Type 0
IsMomentOf None moment = IsMoment moment
IsMomentOf (Some given) moment = moment ≡ given

-- the node whose store is replaced, with the lost nodes and the moment that the words give
pub record IsLostNodeOf (node : ℕ) (former : FormerWords) (lost : LostNode) : Type 0 where
  pub of_node : lost.node ≡ node
  pub of_lost : option_map (λ nodes. nodes.now) lost.lost ≡ option_map (λ nodes. nodes.items) former.lost
  pub of_since : lost.since ≡ former.since

-- Databases are opened by a connection that shows what `finds` says.
module _ {S : Type 0} (g : Ghosts S) (finds : sql.Held S → Type 0) where
  -- The node's store is created, as an import of some users file at the given moment or at any.
  pub record IsCreated (node : ℕ) (settings : Limits) (given : Option ℕ) : Type 0 where
    pub moment : ℕ
    pub of_moment : IsMomentOf given moment
    pub users : List ℕ
    pub store : SqlHeld S
    pub made : HasMade g finds settings moment 16777216 node store users

  -- The store of a member is created, as an import with the settings of its cluster file, and the member's text is
  -- written.
  pub record IsMemberCreated (node : ℕ) (given : Option ℕ) (text : List ℕ) (old new : Option (List ℕ)) : Type 0 where
    pub cluster : ClusterRecord
    pub of_text : cluster_of text ≡ Ok cluster
    pub unnamed : cluster.names ≡ None
    pub moment : ℕ
    pub of_moment : IsMomentOf given moment
    pub users : List ℕ
    pub store : SqlHeld S
    pub made : HasMadeMember g finds cluster.settings moment 16777216 (place_in cluster node) store old new users

  -- The node's store is replaced from the texts of floors files, one for each path.
  pub record IsReplaced (node : ℕ) (settings : Limits) (given : Option ℕ) (former : FormerWords)
      (store : SqlHeld S) : Type 0 where
    pub moment : ℕ
    pub of_moment : IsMomentOf given moment
    pub users : List ℕ
    pub lost : LostNode
    pub of_lost : IsLostNodeOf node former lost
    pub texts : List (List ℕ)
    pub each : length texts ≡ length former.floors.items
    pub made : HasRemade g finds settings moment 16777216 lost texts store users

  -- The store of the node at `place` is replaced, and the line of the new store is written.
  pub record IsReplacedSo (settings : Limits) (place : PlaceRecord) (given : Option ℕ) (former : FormerWords)
      (old new : Option (List ℕ)) : Type 0 where
    pub store : SqlHeld S
    pub replaced : IsReplaced place.me settings given former store
    pub written : HasCleanDisk (sql.state g store.conn) → Appends old new (store_line place store.mirror)

  -- A member's store is replaced by names, under the own key of its cluster.
  pub record IsMemberRemade (cluster : ClusterRecord) (place : PlaceRecord) (given : Option ℕ) (former : FormerWords)
      (old new : Option (List ℕ)) : Type 0 where
    pub named : NamedCluster
    pub is_in : IsNamedIn cluster named
    pub key : List ℕ
    pub of_key : IsKeyIn cluster.key key
    pub remade : IsRemadeByNames g finds cluster.settings place given named key former old new

  -- a member's store is replaced, by names if there are names
  abbrev pub IsReplacedBy : ClusterRecord → PlaceRecord → Option ℕ → FormerWords → Option (List ℕ)
      → Option (List ℕ) → Option (List ℕ) → Type 0
  IsReplacedBy cluster place given former None old new = IsReplacedSo cluster.settings place given former old new
  IsReplacedBy cluster place given former (Some names) old new = IsMemberRemade cluster place given former old new

  -- The store of a member is replaced with the settings of its cluster file.
  pub record IsMemberReplaced (node : ℕ) (given : Option ℕ) (former : FormerWords) (text : List ℕ)
      (old new : Option (List ℕ)) : Type 0 where
    pub cluster : ClusterRecord
    pub of_text : cluster_of text ≡ Ok cluster
    pub replaced : IsReplacedBy cluster (place_in cluster node) given former cluster.names old new

  -- The node's store is upgraded to the current format.
  abbrev pub IsMigrated : ℕ → Type 0
  IsMigrated node =
      (users : List ℕ) × (conn : sql.Held S) × HasMigrated g finds default_limits 0 16777216 node conn users

  -- the store of its owner is upgraded, with the number of members that the cluster had until now
  abbrev pub IsMigratedBy : Owner → Option ℕ → List ℕ → Type 0
  IsMigratedBy Any members text = ⊥
  IsMigratedBy (Node node) members text = IsMigrated node
  IsMigratedBy (Member node path) members text = IsMigratedByNames g finds node members text

  -- The floors of the node's store are raised by the texts of `count` floors files.
  pub record IsLevelled (node count : ℕ) : Type 0 where
    pub users : List ℕ
    pub texts : List (List ℕ)
    pub each : length texts ≡ count
    pub store : SqlHeld S
    pub levelled : HasLevelled g finds default_limits 16777216 node texts store users

  -- the floors of the store of its owner are raised by `count` floors files
  abbrev pub IsLevelledBy : Owner → ℕ → List ℕ → Type 0
  IsLevelledBy Any count text = ⊥
  IsLevelledBy (Node node) count text = IsLevelled node count
  IsLevelledBy (Member node path) count text = IsMemberLevelled g finds node count text

  -- The floors file of the node's store is written, with the given number of members and some moment.
  pub record AreFloorsTold (node members : ℕ) (old new : Option (List ℕ)) : Type 0 where
    pub moment : ℕ
    pub is_moment : IsMoment moment
    pub users : List ℕ
    pub told : HasToldFloors g finds default_limits 16777216 node members moment old new users

  -- The floors file of a member's store is written by names, under the own key of its cluster.
  pub record AreMembersNamedFloorsTold (cluster : ClusterRecord) (node : ℕ) (old new : Option (List ℕ))
      : Type 0 where
    pub named : NamedCluster
    pub is_in : IsNamedIn cluster named
    pub key : List ℕ
    pub of_key : IsKeyIn cluster.key key
    pub told : AreNamedFloorsTold g finds named key node old new

  -- a member's floors file is written, by names if there are names
  abbrev pub AreFloorsToldBy : ClusterRecord → ℕ → Option (List ℕ) → Option (List ℕ) → Option (List ℕ) → Type 0
  AreFloorsToldBy cluster node None old new = AreFloorsTold node (length cluster.members) old new
  AreFloorsToldBy cluster node (Some names) old new = AreMembersNamedFloorsTold cluster node old new

  -- The floors file of a member of the cluster that the text of a cluster file describes is written.
  pub record AreMembersFloorsTold (node : ℕ) (text : List ℕ) (old new : Option (List ℕ)) : Type 0 where
    pub cluster : ClusterRecord
    pub of_text : cluster_of text ≡ Ok cluster
    pub told : AreFloorsToldBy cluster node cluster.names old new
