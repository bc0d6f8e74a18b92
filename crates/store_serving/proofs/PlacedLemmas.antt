-- How a command ends that serves a node over a store by place.
use Rattle.std.proofs.Common.{inl, inr, ◌≡◌, ℕ, Bool, false, List, Option, Some, IfSome, length, ap, subst, ◌∙◌}
use Rattle.std.specs.Prelude.{◌⊎◌, Result, Err}
use Rattle.std.proofs.lemmas.Option.{IfSome_then}
use Rattle.sqlite.specs.Store.{Ghosts}
use Rattle.sqlite.specs.Held as sql
use Rattle.token_file.specs.Credential.{Credential}
use Rattle.floor_sql.specs.Held.{SqlHeld, sql_held}
use Rattle.floor_store.specs.Held.{Held}
use Rattle.node_reports.specs.Responder.{ResponderAnswers}
use Rattle.oath_node.specs.Calls.{IsOpened}
use Rattle.oath_node.specs.Hosted.{Hosted}
use Rattle.oath_node.specs.declared.turns.Served.{Served}
use Rattle.otp_core.specs.Limits.{Limits}
use Rattle.seated_store.specs.Places.{own_seats}
use Rattle.seated_store.specs.Seated.{SeatedRecord, seated_held}
use Rattle.oathd_database.specs.Commands.{HasOpened, IsRefused}
use Rattle.oathd_database.specs.Users.{IsImported}
use Rattle.oathd_database.specs.declared.fault.Fault.{Fault}
use Rattle.oathd_database.specs.declared.fault.Fault.TheVariants.{Memory, CannotWrite, NoClock, Users, Store, Socket}
use Rattle.node_serving.specs.NodeKey.{tag_key}
use Rattle.node_serving.specs.Setup.{setup_for}
use Rattle.node_serving.specs.Stretches.{operator_acts, unasked}
use Rattle.node_serving.specs.declared.serving.Serving.{Serving}
use Rattle.store_serving.specs.Ends.{IsEarlyFault, IsNotServed}
use Rattle.store_serving.specs.Placed.{EndsServing, HasServed, IsServedPlaced, placed}
use Rattle.store_serving.specs.Through.{IsServed}
use Rattle.store_serving.proofs.ServedLemmas.{early_failed}

-- a store that is seen by seats
abbrev seen_by : {S : Type 0} → SqlHeld S → List ℕ → SeatedRecord (SqlHeld S)
seen_by store seats = record { inner = store; seats = seats; is_unusable = false }

-- a store that is seen by the seats of its own rows
pub placed_is : {S : Type 0} (store : SqlHeld S) (seats : List ℕ) (tokens count : ℕ) → seats ≡ own_seats tokens → tokens ≡ count
    → seen_by store seats ≡ placed count store
placed_is store seats tokens count own same = ap (seen_by store) (own ∙ ap own_seats same)

-- no store is opened to serve a node
refused_serving : (limits : Limits) (fault : Fault) (text : List ℕ) → IsRefused limits 0 16777216 fault text → IsNotServed limits 0 16777216 fault text
refused_serving limits Memory text h = tt
refused_serving limits CannotWrite text h = h
refused_serving limits NoClock text h = absurd h
refused_serving limits (Users fault) text h = h
refused_serving limits (Store fault) text h = h
refused_serving limits Socket text h = absurd h

pub ends_unopened : {S : Type 0} (g : Ghosts S) (finds : sql.Held S → Type 0) (serving : Serving) (a : Option (List ℕ)) (fault : Fault)
    → IfSome a (IsRefused serving.settings 0 16777216 fault) → IfSome a (EndsServing g finds serving fault)
ends_unopened g finds serving a fault h = IfSome_then a h (λ text is. inl (refused_serving serving.settings fault text is))

module _ {S : Type 0} (held : S → Held) (serving : Serving) (book : List Credential) (store : S) (first last : Hosted S) (in_boot : IsOpened held store first) (of_book : first.book ≡ book)
    (of_limits : first.limits ≡ serving.settings) (of_key : first.key ≡ tag_key serving.key book) (of_place : first.voter.place ≡ serving.place) where
  -- a node that is served over its store
  pub served_by : (answers : ℕ → Bool → Bool → Type 0) (result : Result Served Fault)
      → IsServed held (operator_acts held) first last (setup_for serving.place.me serving.members.items serving.lines) serving.turns answers result
      → IsServedPlaced held serving book store answers result
  served_by answers result run = record {
    first = first;
    in_boot = in_boot;
    of_book = of_book;
    of_limits = of_limits;
    of_key = of_key;
    of_place = of_place;
    last = last;
    served_is = run;
  }

  -- the node's run ends with a fault before the first turn, or in a turn
  pub ends_by : (fault : Fault)
      → IsEarlyFault fault ⊎ IsServed held (operator_acts held) first last (setup_for serving.place.me serving.members.items serving.lines) serving.turns (ResponderAnswers unasked) (Err fault)
      → IsEarlyFault fault ⊎ IsServedPlaced held serving book store (ResponderAnswers unasked) (Err fault)
  ends_by fault (inl early) = inl early
  ends_by fault (inr run) = inr (served_by (ResponderAnswers unasked) (Err fault) run)

module _ {S : Type 0} (g : Ghosts S) (finds : sql.Held S → Type 0) (serving : Serving) (a : Option (List ℕ)) (book : List Credential) (floors : List ℕ) (found : SqlHeld S)
    (imported : IfSome a (IsImported serving.settings 0 16777216 book floors)) (opened : HasOpened g finds (Some serving.place.me) (length book) found) (rows : length found.mirror.rows ≡ length book)
    (store : SeatedRecord (SqlHeld S)) (is : store ≡ placed (length book) found) where
  -- the node is served
  pub has_served : (answers : ℕ → Bool → Bool → Type 0) (result : Result Served Fault)
      → IsServedPlaced (seated_held (sql_held g)) serving book store (ResponderAnswers answers) result → IfSome a (HasServed g finds serving answers result)
  has_served answers result over = IfSome_then a imported (λ text i. record {
    import = record { book = book; floors = floors; imported = i };
    found = found;
    opened = opened;
    rows = rows;
    over = subst (λ (s : SeatedRecord (SqlHeld S)). IsServedPlaced (seated_held (sql_held g)) serving book s (ResponderAnswers answers) result) is over;
  })

  -- a fault ends it
  pub ends_served : (fault : Fault) → IsEarlyFault fault ⊎ IsServedPlaced (seated_held (sql_held g)) serving book store (ResponderAnswers unasked) (Err fault)
      → IfSome a (EndsServing g finds serving fault)
  ends_served fault (inl early) = IfSome_then a imported (λ text i. inl (early_failed serving.settings 0 16777216 book floors fault text i early))
  ends_served fault (inr over) = IfSome_then a (has_served unasked (Err fault) over) (λ text has. inr has)
