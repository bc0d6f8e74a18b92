-- The commands that look at a stopped store, by the places or by the names of its tokens.
use Rattle.std.specs.Prelude.{ℕ, List, Option, None, Some}
use Rattle.std.specs.Borrow.{Bor}
use Rattle.sqlite.specs.Store.{Ghosts}
use Rattle.sqlite.specs.Held as sql
use Rattle.otp_core.specs.Limits.{Limits, default_limits}
use Rattle.vote_core.specs.NodeSet.{PlaceRecord}
use Rattle.floor_sql.specs.Held.{SqlHeld}
use Rattle.oathd_words.specs.declared.store_words.Look.{Look}
use Rattle.oathd_words.specs.declared.store_words.Look.TheVariants.{Export, Audit, Gates, Unlock}
use Rattle.oathd_words.specs.declared.store_words.Owner.{Owner}
use Rattle.oathd_words.specs.declared.store_words.Owner.TheVariants.{Any, Node, Member}
use Rattle.oathd_roster.specs.declared.cluster.NamedCluster.{NamedCluster}
use Rattle.oathd_seats.specs.Commands.{HasAudited, HasExported, HasToldGates}
use Rattle.oathd_seats.specs.Unlock.{Unlocks}
use Rattle.oathd_seats.specs.declared.naming.Naming.{Naming}
use Rattle.oathd_seats.specs.declared.naming.Naming.TheVariants.{ByPlace, ByName}
use Rattle.oathd_site.specs.Names.{IsMemberByNames}

-- Databases are opened by a connection that shows what `finds` says.
module _ {S : Type 0} (g : Ghosts S) (finds : sql.Held S → Type 0) where
  -- what is printed of the store that a naming finds, or changed in it
  abbrev pub Looks : Look → Limits → Naming → Option (List ℕ) → Option (List ℕ) → List ℕ → Type 0
  Looks Export limits naming old new users = HasExported g finds naming limits 16777216 old new users
  Looks Audit limits naming old new users = HasAudited g finds naming limits 16777216 old new users
  Looks Gates limits naming old new users = HasToldGates g finds naming limits 16777216 old new users
  Looks (Unlock user) limits naming old new users =
      (store : SqlHeld S) × Unlocks g finds naming limits 16777216 user.now store users

  -- the same for some users file
  abbrev pub LooksFor : Look → Limits → Naming → Option (List ℕ) → Option (List ℕ) → Type 0
  LooksFor look limits naming old new = (users : List ℕ) × Looks look limits naming old new users

  -- The store of the member `node` is looked at by names. The text is that of the cluster file.
  pub record LooksByName (node : ℕ) (look : Look) (text : List ℕ) (old new : Option (List ℕ)) : Type 0 where
    pub limits : Limits
    pub place : PlaceRecord
    pub named : Bor NamedCluster
    pub member : IsMemberByNames node text limits place named.now
    pub looks : LooksFor look limits (ByName place.me named) old new

  -- the store of its owner is looked at
  abbrev pub IsLookDone : Owner → Look → List ℕ → Option (List ℕ) → Option (List ℕ) → Type 0
  IsLookDone Any look text old new = LooksFor look default_limits (ByPlace None) old new
  IsLookDone (Node node) look text old new = LooksFor look default_limits (ByPlace (Some node)) old new
  IsLookDone (Member node path) look text old new = LooksByName node look text old new
