-- The effects of the commands over a stopped store by names.
use Rattle.std.specs.Prelude.{◌≡◌, ◌<◌, ℕ, Bool, false, true, List, length, Option, Some, min}
use Rattle.std.specs.Option.{option_map, unwrap_or}
use Rattle.sqlite.specs.Store.{Ghosts}
use Rattle.sqlite.specs.Held as sql
use Rattle.otp_core.specs.Limits.{Limits, default_limits}
use Rattle.otp_core.specs.Range.{IsMoment}
use Rattle.vote_core.specs.NodeSet.{PlaceRecord}
use Rattle.floor_sql.specs.Held.{SqlHeld}
use Rattle.seated_store.specs.Seated.{SeatedRecord}
use Rattle.oathd_words.specs.declared.former_words.FormerWords.{FormerWords}
use Rattle.oathd_floors.specs.Dropped.{HasDropped}
use Rattle.oathd_floors.specs.Levelled.{HasLevelled}
use Rattle.oathd_floors.specs.Named.{HasNamed}
use Rattle.oathd_floors.specs.Remade.{HasRemade}
use Rattle.oathd_floors.specs.Told.{HasTold}
use Rattle.oathd_floors.specs.declared.remaking.Former.{Former}
use Rattle.oathd_roster.specs.Begun.{HasBegun}
use Rattle.oathd_seats.specs.Commands.{HasToldRoster}
use Rattle.oathd_roster.specs.declared.cluster.NamedCluster.{NamedCluster}
use Rattle.oathd_site.specs.Names.{IsKeyOf, IsMemberByNames}

-- Something is done for the member `node` of the cluster that the text of a cluster file describes, with the settings,
-- the place and the names that the text gives.
pub record IsOfMember (node : ℕ) (text : List ℕ) (does : Limits → PlaceRecord → NamedCluster → Type 0) : Type 0 where
  pub settings : Limits
  pub place : PlaceRecord
  pub named : NamedCluster
  pub member : IsMemberByNames node text settings place named
  pub done : does settings place named

-- The floors files of former stores are those of the words, and were read in a later second than they say.
pub record IsFormerOf (words : FormerWords) (former : Former) : Type 0 where
  pub of_lost : option_map (λ nodes. nodes.now) former.lost ≡ option_map (λ nodes. nodes.items) words.lost
  pub is_said : 0 < words.since
  pub of_since : former.since ≡ min words.since former.now
  pub is_now : IsMoment former.now
  pub each : length former.texts.now ≡ length words.floors.items

-- Databases are opened by a connection that shows what `finds` says.
module _ {S : Type 0} (g : Ghosts S) (finds : sql.Held S → Type 0) where
  -- The store of a member begins for a cluster that never served, with the tokens of some users file at some moment,
  -- and the member's text is written.
  pub record Begins (settings : Limits) (place : PlaceRecord) (named : NamedCluster) (old new : Option (List ℕ))
      (users : List ℕ) : Type 0 where
    pub moment : ℕ
    pub is_moment : IsMoment moment
    pub store : SeatedRecord (SqlHeld S)
    pub begun : HasBegun g finds named settings moment 16777216 place store old new users

  -- The floors of the member's store are raised by the texts of `count` floors files, under the own key of the cluster.
  pub record IsLevelledByNames (text : List ℕ) (node : ℕ) (named : NamedCluster) (count : ℕ) : Type 0 where
    pub key : List ℕ
    pub of_key : IsKeyOf text key
    pub now : ℕ
    pub is_now : IsMoment now
    pub texts : List (List ℕ)
    pub each : length texts ≡ count
    pub store : SqlHeld S
    pub levelled : HasLevelled g finds (record { key = key; own = named.bond; is_anew = false; now = now }) node texts
        store

  -- The floors file of a member's store is written under a key, at some moment.
  pub record AreNamedFloorsTold (named : NamedCluster) (key : List ℕ) (node : ℕ) (old new : Option (List ℕ))
      : Type 0 where
    pub moment : ℕ
    pub is_moment : IsMoment moment
    pub told : HasTold g finds named.bond key node moment old new

  -- The store of a member is replaced by names from floors files. New tokens are imported at the given moment, or at
  -- the present one.
  pub record IsRemadeByNames (settings : Limits) (place : PlaceRecord) (given : Option ℕ) (named : NamedCluster)
      (key : List ℕ) (words : FormerWords) (old new : Option (List ℕ)) : Type 0 where
    pub users : List ℕ
    pub former : Former
    pub of_former : IsFormerOf words former
    pub store : SeatedRecord (SqlHeld S)
    pub made : HasRemade g finds named key settings (unwrap_or given former.now) 16777216 place former store old new
        users

  -- the rows of the store are printed, or the rows of retired tokens are dropped whose floors other rows keep
  abbrev pub TellsRows : Bool → Limits → PlaceRecord → NamedCluster → Option (List ℕ) → Option (List ℕ) → List ℕ
      → Type 0
  TellsRows false settings place named old new users =
      HasToldRoster g finds named settings 16777216 place.me old new users
  TellsRows true settings place named old new users =
      (conn : sql.Held S) × HasDropped g finds named settings 16777216 place.me old new conn users

  -- The store gets names. The cluster had as many members until now.
  pub record GetsNames (members : Option ℕ) (place : PlaceRecord) (named : NamedCluster) : Type 0 where
    pub were : members ≡ Some place.n
    pub users : List ℕ
    pub conn : sql.Held S
    pub of_names : HasNamed g finds named default_limits 16777216 place.me conn users

  -- ---- Of the member `node` of the cluster that the text of a cluster file describes

  -- its store begins, for a cluster that never served
  abbrev pub IsBegun : ℕ → List ℕ → Option (List ℕ) → Option (List ℕ) → Type 0
  IsBegun node text old new = IsOfMember node text
      (λ settings place named. (users : List ℕ) × Begins settings place named old new users)

  -- its rows are printed or dropped
  abbrev pub IsRosterTold : ℕ → Bool → List ℕ → Option (List ℕ) → Option (List ℕ) → Type 0
  IsRosterTold node drops text old new = IsOfMember node text
      (λ settings place named. (users : List ℕ) × TellsRows drops settings place named old new users)

  -- its store gets names
  abbrev pub IsMigratedByNames : ℕ → Option ℕ → List ℕ → Type 0
  IsMigratedByNames node members text =
      IsOfMember node text (λ settings place named. GetsNames members place named)

  -- its floors are raised by `count` floors files
  abbrev pub IsMemberLevelled : ℕ → ℕ → List ℕ → Type 0
  IsMemberLevelled node count text =
      IsOfMember node text (λ settings place named. IsLevelledByNames text place.me named count)
