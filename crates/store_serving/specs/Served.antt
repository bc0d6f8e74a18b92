-- A node that is served over a store by names.
use Rattle.std.specs.Prelude.{◌≡◌, ◌⊎◌, ℕ, ◌+◌, Bool, List, Result, Err}
use Rattle.sqlite.specs.Store.{Ghosts}
use Rattle.sqlite.specs.Held as sql
use Rattle.floor_port.specs.Packer.{new_packer}
use Rattle.floor_sql.specs.Held.{SqlHeld, sql_held}
use Rattle.floor_store.specs.Held.{Held}
use Rattle.named_port.specs.Translator.{new_translator}
use Rattle.oath_node.specs.Calls.{IsOpened}
use Rattle.oath_node.specs.Hosted.{Hosted}
use Rattle.oath_node.specs.declared.turns.Served.{Served}
use Rattle.named_store.specs.declared.opening.RowCounts.{RowCounts}
use Rattle.node_reports.specs.Responder.{ResponderAnswers}
use Rattle.seated_store.specs.Seated.{SeatedRecord, seated_held}
use Rattle.token_file.specs.Credential.{Credential}
use Rattle.token_names.specs.Names.{names_of}
use Rattle.vote_wire.specs.Key.{bare}
use Rattle.oathd_database.specs.Commands.{HasImport}
use Rattle.node_serving.specs.NodeKey.{tag_key}
use Rattle.node_serving.specs.Setup.{setup_for}
use Rattle.node_serving.specs.Stretches.{operator_acts, unasked}
use Rattle.oathd_database.specs.declared.fault.Fault.{Fault}
use Rattle.node_serving.specs.declared.serving.Serving.{Serving}
use Rattle.oathd_roster.specs.Enrolled.{IsServedText}
use Rattle.oathd_roster.specs.Opened.{HasOpenedNamed, IsNotOpened}
use Rattle.oathd_roster.specs.declared.cluster.NamedCluster.{NamedCluster}
use Rattle.oathd_roster.specs.declared.fault.RosterFault.{RosterFault}
use Rattle.oathd_roster.specs.declared.fault.RosterFault.TheVariants.{Command, SameName, AnotherCluster, Full}
use Rattle.store_serving.specs.declared.naming.Naming.{Naming}
use Rattle.store_serving.specs.Ends.{IsNotServed}
use Rattle.store_serving.specs.Through.{IsServedNamed, floors_in}

-- ---- the boot

-- What the ports of a node by names translate and tell by, in the boot after that of its store, for the tokens of a
-- book.
pub record IsNamingOf (serving : Serving) (book : List Credential) (names : List (List ℕ)) (store : Held)
    (naming : Naming) : Type 0 where
  pub of_key : naming.key ≡ tag_key serving.key book
  pub of_names : naming.names ≡ names
  pub of_node : naming.node.me ≡ serving.place.me
  pub of_members : naming.node.members ≡ serving.place.n
  pub boot_is : store.is_clean → naming.node.boot ≡ store.content.boot + 1
  pub floors_are : store.is_clean → naming.floors.items ≡ floors_in store.content

-- A node was opened over a store for the tokens of a book, and served by their names through new ports, or until an
-- answer or a fault ended the turns. Between two batches it was acted on for operators.
pub record IsServedOver {S : Type 0} (held : S → Held) (serving : Serving) (book : List Credential)
    (names : List (List ℕ)) (store : S) (answers : ℕ → Bool → Bool → Type 0) (result : Result Served Fault)
    : Type 0 where
  pub first : Hosted S
  pub in_boot : IsOpened held store first
  pub of_book : first.book ≡ book
  pub of_limits : first.limits ≡ serving.settings
  -- the node speaks to its port under the bare key, and the port to the members under the cluster's
  pub of_key : first.key ≡ bare
  pub of_place : first.voter.place ≡ serving.place
  pub last : Hosted S
  -- the boot of the node, after that of its store
  pub boot : ℕ
  pub boot_is : (held store).is_clean → boot ≡ (held store).content.boot + 1
  -- the floors of its tokens, those of its store
  pub floors : List ℕ
  pub floors_are : (held store).is_clean → floors ≡ floors_in (held store).content
  -- the members that went back in an earlier boot of the process, from member 0 to 9
  pub gone_back : List Bool
  -- the greatest boot in which each was heard in an earlier boot of the process, or 0
  pub known : List ℕ
  -- the port below is at the members of `serving`, and takes its lines
  pub served_is :
      let setup = setup_for serving.place.me serving.members.items serving.lines in
      let key = tag_key serving.key book in
      let me = serving.place.me in
      IsServedNamed held (operator_acts held) first last setup (new_translator key names me boot known)
      (new_packer key names me boot serving.place.n
      (record { gone_back = gone_back; known = known; floors = floors }))
      serving.turns answers result

-- ---- the command

module _ {S : Type 0} (g : Ghosts S) (finds : sql.Held S → Type 0) (cluster : NamedCluster) (moment : ℕ)
    (serving : Serving) (answers : ℕ → Bool → Bool → Type 0) where
  -- A node was opened over its store and served for the given turns, or until an answer or a fault ended them. Between
  -- two batches it was acted on for operators. The store was opened for the tokens of the users file, by their names.
  -- The node speaks to the other members by the same names.
  pub record HasServedNamed (result : Result Served Fault) (text : List ℕ) : Type 0 where
    pub import : HasImport serving.settings moment 16777216 text
    pub found : SeatedRecord (SqlHeld S)
    -- the numbers of its rows, which the log has
    pub counts : RowCounts
    pub opened :
        HasOpenedNamed g finds cluster serving.settings moment serving.place.me import.book import.floors found counts
    pub over : IsServedOver (seated_held (sql_held g)) serving import.book (names_of cluster.salt import.book) found
        (ResponderAnswers answers) result

-- A command that serves a node by names ends with the fault: before the first turn, or in a turn, with all that was
-- served until then.
abbrev pub EndsServingNamed : {S : Type 0} → Ghosts S → (sql.Held S → Type 0) → NamedCluster → ℕ → Serving → RosterFault
    → List ℕ → Type 0
EndsServingNamed g finds cluster moment serving (Command fault) text =
    IsNotServed serving.settings moment 16777216 fault text
    ⊎ HasServedNamed g finds cluster moment serving unasked (Err fault) text
EndsServingNamed g finds cluster moment serving (SameName row) text =
    IsNotOpened g finds cluster serving.settings moment 16777216 serving.place.me (SameName row) text
EndsServingNamed g finds cluster moment serving AnotherCluster text =
    IsNotOpened g finds cluster serving.settings moment 16777216 serving.place.me AnotherCluster text
EndsServingNamed g finds cluster moment serving Full text =
    IsNotOpened g finds cluster serving.settings moment 16777216 serving.place.me Full text

-- ---- the rows

module _ {S : Type 0} (g : Ghosts S) (finds : sql.Held S → Type 0) (cluster : NamedCluster) (moment : ℕ)
    (serving : Serving) where
  -- A node was served for the tokens of a users file, or of its rows that the store has if it has no room for the
  -- others.
  abbrev pub HasServedRows : (ℕ → Bool → Bool → Type 0) → Result Served Fault → List ℕ → Type 0
  HasServedRows answers result text = (served : List ℕ)
      × IsServedText g cluster serving.settings finds moment serving.place.me text served
      × HasServedNamed g finds cluster moment serving answers result served

  -- A command that serves for these tokens ends with the fault.
  abbrev pub EndsServingRows : RosterFault → List ℕ → Type 0
  EndsServingRows fault text = (served : List ℕ)
      × IsServedText g cluster serving.settings finds moment serving.place.me text served
      × EndsServingNamed g finds cluster moment serving fault served
