-- The ends of the command `serve` by names.
use Rattle.std.specs.Prelude.{◌≡◌, ℕ, Bool, false, List, Option, Some, None, Result, Ok, Err}
use Rattle.sqlite.specs.Store.{Ghosts}
use Rattle.sqlite.specs.Held as sql
use Rattle.otp_core.specs.Range.{IsMoment}
use Rattle.oath_node.specs.declared.turns.Served.{Served}
use Rattle.cluster_file.specs.ClusterFile.{cluster_of}
use Rattle.oathd_words.specs.declared.store_words.ClusterWords.{ClusterWords}
use Rattle.oathd_words.specs.declared.store_words.ClusterWords.TheVariants.{Given, Named}
use Rattle.oathd_database.specs.declared.fault.Fault.TheVariants.{Memory, CannotWrite, NoClock, Users, Store, Socket}
use Rattle.node_serving.specs.declared.serving.Serving.{Serving}
use Rattle.store_serving.specs.Served.{EndsServingNamed, HasServedNamed}
use Rattle.oathd_roster.specs.declared.cluster.NamedCluster.{NamedCluster}
use Rattle.oathd_roster.specs.declared.fault.RosterFault.{RosterFault}
use Rattle.oathd_roster.specs.declared.fault.RosterFault.TheVariants.{Command}
use Rattle.oathd_serving.specs.Serve.{ServeEndsSo}
use Rattle.oathd_site.specs.declared.fault.Fault.{Fault}
use Rattle.oathd_site.specs.declared.fault.Fault.TheVariants.{Database, Floors, Task, Roster, Seats, Names}
use Rattle.oathd_site.specs.Names.{names_in, IsNamedOf}

-- the word of the names, if the words name a cluster file with one
abbrev pub names_asked : ClusterWords → List ℕ → Option (List ℕ)
names_asked (Given settings place members key) text = None
names_asked (Named node path) text = names_in (cluster_of text)

-- no answer ends the turns before all are served
abbrev pub never : ℕ → Bool → Bool → Type 0
never left is_waiting ends = ends ≡ false

-- Databases are opened by a connection that shows what `finds` says.
module _ {S : Type 0} (g : Ghosts S) (finds : sql.Held S → Type 0) where
  -- `IsAsked` holds for the parameters that were asked for, and `IsCluster` for the cluster.
  module _ (IsAsked : Serving → Type 0) (IsCluster : NamedCluster → Type 0) where
    -- A node with such parameters was served by names until its turns ended, for the tokens of some users file.
    -- `answers` is what is said of the end of the turns.
    pub record IsServedByNames (answers : ℕ → Bool → Bool → Type 0) : Type 0 where
      pub serving : Serving
      pub asked : IsAsked serving
      pub named : NamedCluster
      pub of_cluster : IsCluster named
      pub moment : ℕ
      pub is_moment : IsMoment moment
      pub users : List ℕ
      pub counts : Served
      pub served : HasServedNamed g finds named moment serving answers (Ok counts) users

    -- A node with such parameters ended with a fault: before its first turn, or with all that was served until then.
    pub record EndsByNames (fault : RosterFault) : Type 0 where
      pub serving : Serving
      pub asked : IsAsked serving
      pub named : NamedCluster
      pub of_cluster : IsCluster named
      pub moment : ℕ
      pub is_moment : IsMoment moment
      pub users : List ℕ
      pub ends : EndsServingNamed g finds named moment serving fault users

    -- The end of a command that serves by names. A fault of a task is one of the files that give the parameters, and
    -- the clock may fail before anything else.
    abbrev pub NamedEndsSo : Result Unit Fault → Type 0
    NamedEndsSo (Ok done) = IsServedByNames never
    NamedEndsSo (Err (Task fault)) = Unit {0}
    NamedEndsSo (Err (Database Memory)) = Unit {0}
    NamedEndsSo (Err (Database CannotWrite)) = EndsByNames (Command CannotWrite)
    NamedEndsSo (Err (Database NoClock)) = Unit {0}
    NamedEndsSo (Err (Database (Users fault))) = EndsByNames (Command (Users fault))
    NamedEndsSo (Err (Database (Store fault))) = EndsByNames (Command (Store fault))
    NamedEndsSo (Err (Database Socket)) = EndsByNames (Command Socket)
    NamedEndsSo (Err (Roster fault)) = EndsByNames fault
    NamedEndsSo (Err (Floors fault)) = ⊥
    NamedEndsSo (Err (Seats fault)) = ⊥
    NamedEndsSo (Err (Names fault)) = ⊥

  -- the end of a command that serves, by names if there are names
  abbrev pub EndsSo : (Serving → Type 0) → List ℕ → Option (List ℕ) → Result Unit Fault → Type 0
  EndsSo IsAsked text None result = ServeEndsSo g finds IsAsked result
  EndsSo IsAsked text (Some names) result = NamedEndsSo IsAsked (IsNamedOf text) result

  -- the same for a cluster that may have names
  abbrev pub EndsBy : (Serving → Type 0) → Option NamedCluster → Result Unit Fault → Type 0
  EndsBy IsAsked None result = ServeEndsSo g finds IsAsked result
  EndsBy IsAsked (Some named) result = NamedEndsSo IsAsked (λ other. other ≡ named) result
