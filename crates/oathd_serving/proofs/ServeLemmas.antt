-- How a command that serves ends.
use Rattle.std.proofs.Common.{inl, ◌≡◌, ℕ, List, subst, sym}
use Rattle.std.specs.Prelude.{Result, Ok, Err}
use Rattle.sqlite.specs.Store.{Ghosts}
use Rattle.sqlite.specs.Held as sql
use Rattle.otp_core.specs.Limits.{Limits}
use Rattle.oath_node.specs.declared.turns.Served.{Served}
use Rattle.store_serving.specs.Ends.{IsNotServed}
use Rattle.store_serving.specs.Placed.{EndsServing, HasServed, never}
use Rattle.oathd_database.specs.Users.{IsUnread}
use Rattle.oathd_database.specs.declared.fault.Fault as database
use Rattle.oathd_database.specs.declared.fault.Fault.TheVariants.{Memory, CannotWrite, NoClock, Users, Store, Socket}
use Rattle.node_serving.specs.declared.serving.Serving.{Serving}
use Rattle.oathd_serving.specs.Serve.{EndsAsAsked, IsServedAsAsked, ServeEndsSo}
use Rattle.oathd_site.specs.Fault.{IsOfTask}
use Rattle.oathd_site.specs.Users.{IsOfUsers}
use Rattle.oathd_site.specs.declared.fault.Fault.{Fault}
use Rattle.oathd_site.specs.declared.fault.Fault.TheVariants.{Database, Floors, Task, Roster, Seats, Names}

-- a users file is not imported
pub not_imported : (limits : Limits) (moment longest : ℕ) (fault : database.Fault) (text : List ℕ) → IsUnread limits moment longest fault text
    → IsNotServed limits moment longest fault text
not_imported limits moment longest Memory text h = tt
not_imported limits moment longest CannotWrite text h = absurd h
not_imported limits moment longest NoClock text h = absurd h
not_imported limits moment longest (Users fault) text h = h
not_imported limits moment longest (Store fault) text h = absurd h
not_imported limits moment longest Socket text h = absurd h

module _ {S : Type 0} (g : Ghosts S) (finds : sql.Held S → Type 0) (IsAsked : Serving → Type 0) where
  -- a fault of a node
  ends_by : (fault : database.Fault) → EndsAsAsked g finds IsAsked fault → ServeEndsSo g finds IsAsked (Err (Database fault))
  ends_by Memory h = tt
  ends_by CannotWrite h = h
  ends_by NoClock h = h
  ends_by (Users fault) h = h
  ends_by (Store fault) h = h
  ends_by Socket h = h

  -- a fault of a task
  pub ends_by_task : (fault : Fault) → IsOfTask fault → ServeEndsSo g finds IsAsked (Err fault)
  ends_by_task (Task fault) is = tt
  ends_by_task (Database fault) is = absurd is
  ends_by_task (Floors fault) is = absurd is
  ends_by_task (Roster fault) is = absurd is
  ends_by_task (Seats fault) is = absurd is
  ends_by_task (Names fault) is = absurd is

  module _ (serving : Serving) (asked : IsAsked serving) where
    -- the node was served
    pub served_so : (counts : Served) (users : List ℕ) → HasServed g finds serving never (Ok counts) users → IsServedAsAsked g finds IsAsked
    served_so counts users h = record { serving = serving; asked = asked; users = users; counts = counts; served = h }

    -- the node ended with a fault
    pub ended_so : (fault : database.Fault) (users : List ℕ) → EndsServing g finds serving fault users → ServeEndsSo g finds IsAsked (Err (Database fault))
    ended_so fault users h = ends_by fault (record { serving = serving; asked = asked; users = users; ends = h })

    -- the users file has a fault
    pub users_end : (fault : Fault) → IsOfUsers serving.settings 0 fault → ServeEndsSo g finds IsAsked (Err fault)
    users_end (Task fault) is = tt
    users_end (Database fault) is =
        let ends = not_imported serving.settings 0 16777216 fault is.0 is.1 in
        ends_by fault (record { serving = serving; asked = asked; users = is.0; ends = inl ends })
    users_end (Floors fault) is = absurd is
    users_end (Roster fault) is = absurd is
    users_end (Seats fault) is = absurd is
    users_end (Names fault) is = absurd is

    -- a fault of a node with these parameters
    same_end : (fault : database.Fault) → EndsAsAsked g finds (λ other. other ≡ serving) fault → EndsAsAsked g finds IsAsked fault
    same_end fault h = record { serving = h.serving; asked = subst IsAsked (sym h.asked) asked; users = h.users; ends = h.ends }

    -- the parameters were asked for
    pub ends_as_asked : (result : Result Unit Fault) → ServeEndsSo g finds (λ other. other ≡ serving) result → ServeEndsSo g finds IsAsked result
    ends_as_asked (Ok done) h =
        record { serving = h.serving; asked = subst IsAsked (sym h.asked) asked; users = h.users; counts = h.counts; served = h.served }
    ends_as_asked (Err (Task fault)) h = tt
    ends_as_asked (Err (Database Memory)) h = tt
    ends_as_asked (Err (Database CannotWrite)) h = same_end CannotWrite h
    ends_as_asked (Err (Database NoClock)) h = same_end NoClock h
    ends_as_asked (Err (Database (Users fault))) h = same_end (Users fault) h
    ends_as_asked (Err (Database (Store fault))) h = same_end (Store fault) h
    ends_as_asked (Err (Database Socket)) h = same_end Socket h
    ends_as_asked (Err (Floors fault)) h = h
    ends_as_asked (Err (Roster fault)) h = h
    ends_as_asked (Err (Seats fault)) h = h
    ends_as_asked (Err (Names fault)) h = h
