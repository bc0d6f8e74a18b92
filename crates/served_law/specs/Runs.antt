-- The runs of commands that serve nodes by names, as uses of their stores in a history and as steps.
use Rattle.std.specs.Prelude.{◌≡◌, ℕ, Bool, List, [], ◌∷◌, ◌++◌, Option, Some, None, Result, slice_index_or}
use Rattle.sqlite.specs.Store.{Ghosts}
use Rattle.sqlite.specs.Held as sql
use Rattle.datagram_port.specs.Port.{PortEvent}
use Rattle.floor_store.specs.Content.{Content}
use Rattle.floor_store.specs.Held.{Held}
use Rattle.floor_store.specs.Range.{IsCount}
use Rattle.floor_store.specs.Records.{PassRecord}
use Rattle.floor_sql.specs.Held.{SqlHeld, sql_held}
use Rattle.floor_sql.specs.declared.put.Put.{Put}
use Rattle.roster_sql.specs.Roster.{BondRecord, HoldsNamed}
use Rattle.roster_sql.specs.declared.entry.Entry.{Entry}
use Rattle.named_store.specs.Floors.{no_entry}
use Rattle.seated_store.specs.Seated.{SeatedRecord, seated_held}
use Rattle.named_port.specs.Runs.{handed_events}
use Rattle.oath_node.specs.declared.turns.Served.{Served}
use Rattle.vote_wire.specs.Key.{bare}
use Rattle.oath_node.specs.Machine.{NodeEvent}
use Rattle.node_serving.specs.Stretches.{unasked}
use Rattle.oathd_database.specs.declared.fault.Fault.{Fault}
use Rattle.node_serving.specs.declared.serving.Serving.{Serving}
use Rattle.store_serving.specs.Served.{HasServedNamed}
use Rattle.oathd_roster.specs.declared.cluster.NamedCluster.{NamedCluster}
use Rattle.book_law.specs.Lives.{Enrols, Raises, Setting, Store, Terms, store_under}
use Rattle.book_law.specs.Uses.{AreUses, Part, ServesInParts, StoreUse, Writes, entries_in, store_after, written_store}
use Rattle.name_law.specs.Ports.{first_translator}
use Rattle.order_law.specs.Steps.{AreOfProcess, Closed, Does, Ends, Starts, Step, entries_of_steps, place_in_end}
use Rattle.served_law.specs.Enrolled.{opening_uses}
use Rattle.served_law.specs.Processes.{IsUse, StaysClean}
use Rattle.served_law.specs.Seated.{HasKnownRows, served_terms, store_by_names, token_of}
use Rattle.served_law.specs.Uses.{AreAllStores, AreMemberStores, AreStoreUses, RunKind, RunsBy, Stores, Use, WritesBy}

-- the view of a store by names
abbrev pub view_of : {S : Type 0} → Ghosts S → SeatedRecord (SqlHeld S) → Held
view_of g = seated_held (sql_held g)

-- ---- One run

module _ {S : Type 0} {g : Ghosts S} {finds : sql.Held S → Type 0} {cluster : NamedCluster} {moment : ℕ}
    {serving : Serving} {answers : ℕ → Bool → Bool → Type 0} {result : Result Served Fault} {text : List ℕ}
    (run : HasServedNamed g finds cluster moment serving answers result text) where
  -- the store that the run found, as one of a history
  abbrev pub store_found : List (List ℕ) → List Entry → Store
  store_found names rows = store_by_names names rows run.found.inner.mirror

  -- the terms of the process
  abbrev pub terms_in : List (List ℕ) → Terms
  terms_in names = served_terms names cluster serving run.import.book

  -- what the process received, and what it offered, by its own numbers
  abbrev pub entries_of : List (List ℕ) → List PortEvent
  entries_of names =
      handed_events (first_translator names serving.place.me (terms_in names) run.over.boot run.over.known)
      run.over.served_is.serves.calls

  -- What a history asks of the run. The rows of the store that it found are known, and its members are the setting's.
  -- The database's disk was clean at the start of each stretch of turns and at the end, and its boot is in range.
  pub record IsSound (setting : Setting) (names : List (List ℕ)) (rows : List Entry) : Type 0 where
    pub known : HasKnownRows g cluster.bond names run.found.inner rows
    pub members : setting.n ≡ serving.place.n
    pub stays : StaysClean (view_of g) run.over.served_is.serves.serves
    pub boot : IsCount run.over.boot

  -- the run is one use of the store that it found, and a stop left `left` of its tokens
  abbrev pub IsOneUse : Setting → List (List ℕ) → List Entry → Content → Type 0
  IsOneUse setting names rows left =
      IsUse (view_of g) run.over.served_is.serves.serves setting serving.place.me (terms_in names) bare
      (store_found names rows) (entries_of names) left

-- ---- Runs and other uses

-- A run of a command, the rows of its store, and what a stop left of its tokens. `until` answered whether its turns
-- end, unless the command ended with a fault.
pub record NamedRun (U : Type 0) : Type 0 where
  pub cluster : NamedCluster
  pub moment : ℕ
  pub serving : Serving
  pub until : Option U
  pub result : Result Served Fault
  pub text : List ℕ
  pub rows : List Entry
  pub left : Content

-- what is known of the answers of a run
abbrev pub answers_of : {U : Type 0} → (U → ℕ → Bool → Bool → Type 0) → Option U → ℕ → Bool → Bool → Type 0
answers_of answers None = unasked
answers_of answers (Some until) = answers until

-- a use of a member's store: a run by names, or a writing action of a history without a process
abbrev pub NamedUse : Type 0 → Type 0
NamedUse U = Use (NamedRun U)

-- the stores of a member, in order, each with its uses
abbrev pub NamedStores : Type 0 → Type 0
NamedStores U = Stores (NamedRun U)

-- ---- The steps of an opening

-- the steps that raise the rows of the puts in the node's store, which has the rows `former`, to the floors of the puts
abbrev pub raising : ℕ → List (List ℕ) → List Entry → List Put → List Step
raising node names former [] = []
raising node names former (put ∷ puts) =
    Does (Raises node (token_of names (slice_index_or former put.token no_entry).name) put.row.next)
    ∷ raising node names former puts

-- the steps that give the node's store a row for each entry, with its floor
abbrev pub enrolling : ℕ → List (List ℕ) → List Entry → List ℕ → List Step
enrolling node names [] floors = []
enrolling node names (entry ∷ new) [] = []
enrolling node names (entry ∷ new) (floor ∷ floors) =
    Does (Enrols node (token_of names entry.name) floor) ∷ enrolling node names new floors

-- the steps of an opening: rows are raised, and then new rows are enrolled
abbrev pub opening_steps : ℕ → List (List ℕ) → List Entry → List Put → List Entry → List ℕ → List Step
opening_steps node names former puts new floors = raising node names former puts ++ enrolling node names new floors

-- ---- A run over a store

-- The tables of a connection hold the store of a history, whatever content and rows these are.
abbrev pub HoldsStore :
    {S : Type 0} → Ghosts S → BondRecord → List (List ℕ) → sql.Held S → Store → Type 0
HoldsStore g own names conn store = (content : Content) (passes : List PassRecord) (former : List Entry)
    → HoldsNamed (sql.state g conn).now content passes former own → store_by_names names former content ≡ store

module _ {S U : Type 0} (g : Ghosts S) (finds : sql.Held S → Type 0) (answers : U → ℕ → Bool → Bool → Type 0)
    (setting : Setting) (node : ℕ) (names : List (List ℕ)) where
  -- The node made the run. Before its new rows, the tables held the store of a history.
  pub record IsRunOver (store : Store) (run : NamedRun U) : Type 0 where
    pub served : HasServedNamed g finds run.cluster run.moment run.serving (answers_of answers run.until) run.result
        run.text
    pub of_node : run.serving.place.me ≡ node
    pub sound : IsSound served setting names run.rows
    pub holds : HoldsStore g run.cluster.bond names served.opened.conn store
    pub leaves : (view_of g served.over.last.store).leaves run.left

  -- the store of a history after the run: the rows without a token of the users file are the ones that the run found
  abbrev pub store_left : (store : Store) (run : NamedRun U) → IsRunOver store run → Store
  store_left store run is =
      store_under (terms_in is.served names).seats run.left (store_found is.served names run.rows)

  -- The steps are the run: raises of the rows `former`, enrolments of new rows, and its process. The process finds what
  -- the run found. Its port recorded what the run received and offered, in the order of the steps.
  pub record AreStepsOfRun (store : Store) (run : NamedRun U) (is : IsRunOver store run) (steps : List Step)
      : Type 0 where
    pub former : List Entry
    pub puts : List Put
    pub new : List Entry
    pub floors : List ℕ
    pub body : List Step
    pub kept : List NodeEvent
    pub of_one : AreOfProcess body
    pub recorded : entries_of_steps bare body ≡ entries_of is.served names
    pub found : place_in_end setting node (Closed store) (opening_steps node names former puts new floors)
        ≡ Closed (store_found is.served names run.rows)
    pub are : steps ≡ opening_steps node names former puts new floors
        ++ (Starts (terms_in is.served names) bare ∷ body ++ Ends kept ∷ [])
    pub after : place_in_end setting node (Closed store) steps ≡ Closed (store_left store run is)

-- runs by names, as a kind of runs
abbrev pub named_runs : {S U : Type 0} → Ghosts S → (sql.Held S → Type 0) → (U → ℕ → Bool → Bool → Type 0)
    → (setting : Setting) → List (List ℕ) → RunKind setting (NamedRun U)
named_runs g finds answers setting names = record {
  is_over = λ node store run. IsRunOver g finds answers setting node names store run;
  left = λ node store run is. store_left g finds answers setting node names store run is;
  are_steps = λ node store run is steps. AreStepsOfRun g finds answers setting node names store run is steps;
}

-- ---- All runs over one store

module _ {S U : Type 0} (g : Ghosts S) (finds : sql.Held S → Type 0) (answers : U → ℕ → Bool → Bool → Type 0)
    (setting : Setting) (node : ℕ) (names : List (List ℕ)) where
  -- the uses of the store in order, each on what the one before it left
  abbrev pub AreNamedUses : Store → List (NamedUse U) → Type 0
  AreNamedUses store named = AreStoreUses (named_runs g finds answers setting names) node store named

  -- the uses of each store, the first of which is the given one
  abbrev pub AreNamedStores : Store → NamedStores U → Type 0
  AreNamedStores store stores = AreMemberStores (named_runs g finds answers setting names) node store stores

  -- The uses of a history are the run: raises of the rows `former`, enrolments of new rows, and its process in parts.
  -- The process finds what the run found. Its port recorded what the run received and offered.
  pub record AreOfRun (store : Store) (run : NamedRun U) (is : IsRunOver g finds answers setting node names store run)
      (uses : List StoreUse) : Type 0 where
    pub former : List Entry
    pub puts : List Put
    pub new : List Entry
    pub floors : List ℕ
    pub found : store_after setting (opening_uses run.serving.place.me names former puts new floors) store
        ≡ store_found is.served names run.rows
    pub parts : List Part
    pub recorded : entries_in parts ≡ entries_of is.served names
    pub are : uses ≡ opening_uses run.serving.place.me names former puts new floors
        ++ ServesInParts (terms_in is.served names) bare parts run.left ∷ []

  -- the uses of a history are the store's, one after the other
  abbrev pub AreOf : (store : Store) (named : List (NamedUse U)) → AreNamedUses store named → List StoreUse → Type 0
  AreOf store [] are uses = uses ≡ []
  AreOf store (RunsBy run ∷ later) are uses =
      (first : List StoreUse) × (rest : List StoreUse) × (uses ≡ first ++ rest)
      × AreOfRun store run are.0 first
      × AreOf (store_left g finds answers setting node names store run are.0) later are.1 rest
  AreOf store (WritesBy action ∷ later) are uses =
      (rest : List StoreUse) × (uses ≡ Writes action ∷ rest)
      × AreOf (written_store setting action store) later are.1 rest

  -- the uses of the store, as a history has them
  pub record HasUsesOf (store : Store) (named : List (NamedUse U)) (are : AreNamedUses store named) : Type 0 where
    pub uses : List StoreUse
    pub are_of : AreOf store named are uses
    pub are_uses : AreUses setting node store uses

-- ---- All members

module _ {S U : Type 0} (g : Ghosts S) (finds : sql.Held S → Type 0) (answers : U → ℕ → Bool → Bool → Type 0)
    (setting : Setting) (names : List (List ℕ)) where
  -- each node has such uses of its stores, from its first one on
  abbrev pub AreAllNamedStores : (ℕ → NamedStores U) → Type 0
  AreAllNamedStores stores = AreAllStores (named_runs g finds answers setting names) stores
