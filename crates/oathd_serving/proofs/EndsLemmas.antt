-- How a command that serves by names ends.
use Rattle.std.proofs.Common.{inl, ◌≡◌, ◌∙◌, ℕ, Bool, true, List, Option, Some, None, ap, subst, sym}
use Rattle.std.specs.Prelude.{Result, Ok, Err, IfOk, false}
use Rattle.sqlite.specs.Store.{Ghosts}
use Rattle.sqlite.specs.Held as sql
use Rattle.otp_core.specs.Range.{IsMoment}
use Rattle.oath_node.specs.declared.turns.Served.{Served}
use Rattle.cluster_file.specs.ClusterFile.{ClusterRecord, cluster_of}
use Rattle.oathd_database.specs.declared.fault.Fault.TheVariants.{Memory, CannotWrite, NoClock, Users, Store, Socket}
use Rattle.node_serving.specs.declared.serving.Serving.{Serving}
use Rattle.store_serving.specs.Served.{EndsServingNamed, HasServedNamed}
use Rattle.oathd_roster.specs.declared.cluster.NamedCluster.{NamedCluster}
use Rattle.oathd_roster.specs.declared.fault.RosterFault.{RosterFault}
use Rattle.oathd_roster.specs.declared.fault.RosterFault.TheVariants.{Command, SameName, AnotherCluster, Full}
use Rattle.oathd_words.specs.declared.store_words.ClientWords.{ClientWords}
use Rattle.oathd_words.specs.declared.store_words.ClusterWords.{ClusterWords}
use Rattle.oathd_serving.specs.Served.{IsServedSo, IsServedWith}
use Rattle.oathd_serving.specs.Reload.{IsReloaded}
use Rattle.oathd_site.specs.Names.{AreNamesIn, IsNamedOf, names_in}
use Rattle.oathd_serving.specs.Ends.{EndsBy, EndsByNames, EndsSo, IsServedByNames, NamedEndsSo, names_asked}
use Rattle.oathd_site.specs.Fault.{fault_of}
use Rattle.oathd_serving.specs.Serve.{IsAskedFor}
use Rattle.oathd_site.specs.Fault.{IsOfTask}
use Rattle.oathd_site.specs.Users.{IsOfUsers}
use Rattle.oathd_site.specs.declared.fault.Fault.{Fault}
use Rattle.oathd_site.specs.declared.fault.Fault.TheVariants.{Database, Floors, Task, Roster, Seats, Names}
use Rattle.oathd_serving.proofs.ServeLemmas.{ends_as_asked, not_imported}

module _ {S : Type 0} (g : Ghosts S) (finds : sql.Held S → Type 0) where
  module _ (IsAsked : Serving → Type 0) (IsCluster : NamedCluster → Type 0) where
    -- a fault of a node
    ends_named : (fault : RosterFault) → EndsByNames g finds IsAsked IsCluster fault → NamedEndsSo g finds IsAsked IsCluster (Err (fault_of fault))
    ends_named (Command Memory) h = tt
    ends_named (Command CannotWrite) h = h
    ends_named (Command NoClock) h = tt
    ends_named (Command (Users fault)) h = h
    ends_named (Command (Store fault)) h = h
    ends_named (Command Socket) h = h
    ends_named (SameName row) h = h
    ends_named AnotherCluster h = h
    ends_named Full h = h

    module _ (serving : Serving) (asked : IsAsked serving) (named : NamedCluster) (of_cluster : IsCluster named) (moment : ℕ)
        (is_moment : IsMoment moment) where
      -- the node was served
      pub served_named : (answers : ℕ → Bool → Bool → Type 0) (counts : Served) (users : List ℕ) → HasServedNamed g finds named moment serving answers (Ok counts) users
          → IsServedByNames g finds IsAsked IsCluster answers
      served_named answers counts users h = record {
        serving = serving;
        asked = asked;
        named = named;
        of_cluster = of_cluster;
        moment = moment;
        is_moment = is_moment;
        users = users;
        counts = counts;
        served = h;
      }

      -- the node ended with a fault
      pub ended_named : (fault : RosterFault) (users : List ℕ) → EndsServingNamed g finds named moment serving fault users
          → NamedEndsSo g finds IsAsked IsCluster (Err (fault_of fault))
      ended_named fault users h = ends_named fault (record {
        serving = serving;
        asked = asked;
        named = named;
        of_cluster = of_cluster;
        moment = moment;
        is_moment = is_moment;
        users = users;
        ends = h;
      })

      -- the users file has a fault
      pub users_named : (fault : Fault) → IsOfUsers serving.settings moment fault → NamedEndsSo g finds IsAsked IsCluster (Err fault)
      users_named (Task fault) is = tt
      users_named (Database fault) is =
          let ends = not_imported serving.settings moment 16777216 fault is.0 is.1 in
          ended_named (Command fault) is.0 (inl ends)
      users_named (Floors fault) is = absurd is
      users_named (Roster fault) is = absurd is
      users_named (Seats fault) is = absurd is
      users_named (Names fault) is = absurd is

  -- the clock fails
  pub clock_named : (IsAsked : Serving → Type 0) (IsCluster : NamedCluster → Type 0) (fault : Fault) → fault ≡ Database NoClock
      → NamedEndsSo g finds IsAsked IsCluster (Err fault)
  clock_named IsAsked IsCluster fault is = subst (λ (f : Fault). NamedEndsSo g finds IsAsked IsCluster (Err f)) (sym is) tt

  module _ (IsAsked : Serving → Type 0) (IsCluster : NamedCluster → Type 0) (serving : Serving) (asked : IsAsked serving) (named : NamedCluster)
      (of_cluster : IsCluster named) where
    same_named : (fault : RosterFault) → EndsByNames g finds (λ other. other ≡ serving) (λ other. other ≡ named) fault
        → EndsByNames g finds IsAsked IsCluster fault
    same_named fault h = record {
      serving = h.serving;
      asked = subst IsAsked (sym h.asked) asked;
      named = h.named;
      of_cluster = subst IsCluster (sym h.of_cluster) of_cluster;
      moment = h.moment;
      is_moment = h.is_moment;
      users = h.users;
      ends = h.ends;
    }

    -- the parameters and the cluster were asked for
    pub named_as_asked : (result : Result Unit Fault) → NamedEndsSo g finds (λ other. other ≡ serving) (λ other. other ≡ named) result
        → NamedEndsSo g finds IsAsked IsCluster result
    named_as_asked (Ok done) h = record {
      serving = h.serving;
      asked = subst IsAsked (sym h.asked) asked;
      named = h.named;
      of_cluster = subst IsCluster (sym h.of_cluster) of_cluster;
      moment = h.moment;
      is_moment = h.is_moment;
      users = h.users;
      counts = h.counts;
      served = h.served;
    }
    named_as_asked (Err (Task fault)) h = tt
    named_as_asked (Err (Database Memory)) h = tt
    named_as_asked (Err (Database CannotWrite)) h = same_named (Command CannotWrite) h
    named_as_asked (Err (Database NoClock)) h = tt
    named_as_asked (Err (Database (Users fault))) h = same_named (Command (Users fault)) h
    named_as_asked (Err (Database (Store fault))) h = same_named (Command (Store fault)) h
    named_as_asked (Err (Database Socket)) h = same_named (Command Socket) h
    named_as_asked (Err (Floors fault)) h = h
    named_as_asked (Err (Roster fault)) h = same_named fault h
    named_as_asked (Err (Seats fault)) h = h
    named_as_asked (Err (Names fault)) h = h

  -- a fault of a task, with names or without
  pub ends_by_files : (IsAsked : Serving → Type 0) (text : List ℕ) (names : Option (List ℕ)) (fault : Fault) → IsOfTask fault
      → EndsSo g finds IsAsked text names (Err fault)
  ends_by_files IsAsked text None (Task fault) is = tt
  ends_by_files IsAsked text None (Names fault) is = absurd is
  ends_by_files IsAsked text None (Database fault) is = absurd is
  ends_by_files IsAsked text None (Floors fault) is = absurd is
  ends_by_files IsAsked text None (Roster fault) is = absurd is
  ends_by_files IsAsked text None (Seats fault) is = absurd is
  ends_by_files IsAsked text (Some names) (Task fault) is = tt
  ends_by_files IsAsked text (Some names) (Names fault) is = absurd is
  ends_by_files IsAsked text (Some names) (Database fault) is = absurd is
  ends_by_files IsAsked text (Some names) (Floors fault) is = absurd is
  ends_by_files IsAsked text (Some names) (Roster fault) is = absurd is
  ends_by_files IsAsked text (Some names) (Seats fault) is = absurd is

  module _ (IsAsked : Serving → Type 0) (text : List ℕ) (cluster : ClusterRecord) (said : cluster_of text ≡ Ok cluster) (serving : Serving)
      (asked : IsAsked serving) (result : Result Unit Fault) where
    by_names : (names : Option (List ℕ)) (given : Option NamedCluster) → cluster.names ≡ names → AreNamesIn cluster given
        → EndsBy g finds (λ other. other ≡ serving) given result → EndsSo g finds IsAsked text names result
    by_names None None same are h = ends_as_asked g finds IsAsked serving asked result h
    by_names None (Some named) same are h = let e = sym same ∙ are.of_names in absurd cc
    by_names (Some word) None same are h = let e = sym same ∙ are in absurd cc
    by_names (Some word) (Some named) same are h =
        named_as_asked IsAsked (IsNamedOf text) serving asked named (record { cluster = cluster; of_text = said; is_in = are }) result h

    -- a node is served by the names that the cluster file gives, or without names
    pub ends_by_names : (given : Option NamedCluster) → AreNamesIn cluster given → EndsBy g finds (λ other. other ≡ serving) given result
        → EndsSo g finds IsAsked text (names_in (cluster_of text)) result
    ends_by_names given are h = by_names (names_in (cluster_of text)) given (sym (ap names_in said)) are h

  -- a command that serves ended well
  pub served_so_well : (IsAsked : Serving → Type 0) (text : List ℕ) (names : Option (List ℕ)) (result : Result Unit Fault)
      → EndsSo g finds IsAsked text names result → IfOk result (λ _. IsServedSo g finds IsAsked text names)
  served_so_well IsAsked text None (Ok done) h = h
  served_so_well IsAsked text None (Err fault) h = tt
  served_so_well IsAsked text (Some names) (Ok done) h = h
  served_so_well IsAsked text (Some names) (Err fault) h = tt

  -- the same without another reading of the users file
  pub served_with_well : (cluster : ClusterWords) (turns : ℕ) (is_logged : Bool) (clients : ClientWords) (text : List ℕ) (reloads : Bool)
      (result : Result Unit Fault) → reloads ≡ false → EndsSo g finds (IsAskedFor cluster turns is_logged clients text) text (names_asked cluster text) result
      → IfOk result (λ _. IsServedWith g finds reloads cluster turns is_logged clients text)
  served_with_well cluster turns is_logged clients text reloads result is h =
      subst (λ (r : Bool). IfOk result (λ _. IsServedWith g finds r cluster turns is_logged clients text)) (sym is)
      (served_so_well (IsAskedFor cluster turns is_logged clients text) text (names_asked cluster text) result h)

  -- the same with it
  pub reloaded_well : (cluster : ClusterWords) (turns : ℕ) (is_logged : Bool) (clients : ClientWords) (text : List ℕ) (reloads : Bool)
      (result : Result Unit Fault) → reloads ≡ true
      → IfOk result (λ _. IsReloaded g finds (IsAskedFor cluster turns is_logged clients text) cluster turns text)
      → IfOk result (λ _. IsServedWith g finds reloads cluster turns is_logged clients text)
  reloaded_well cluster turns is_logged clients text reloads result is h =
      subst (λ (r : Bool). IfOk result (λ _. IsServedWith g finds r cluster turns is_logged clients text)) (sym is) h

  -- the same for the words of a log
  pub logged_well : (cluster : ClusterWords) (turns : ℕ) (is_logged has : Bool) (clients : ClientWords) (text : List ℕ) (reloads : Bool)
      (result : Result Unit Fault) → is_logged ≡ has → IfOk result (λ _. IsServedWith g finds reloads cluster turns is_logged clients text)
      → IfOk result (λ _. IsServedWith g finds reloads cluster turns has clients text)
  logged_well cluster turns is_logged has clients text reloads result same h =
      subst (λ (l : Bool). IfOk result (λ _. IsServedWith g finds reloads cluster turns l clients text)) same h
