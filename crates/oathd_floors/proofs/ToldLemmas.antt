-- The floors of a store are told, and raised.
use Rattle.std.proofs.Common.{◌≡◌, ◌∙◌, ℕ, List, [], Option, Ok, ap, subst}
use Rattle.std.specs.Prelude.{Result}
use Rattle.std.specs.Io.KnownBytes.{Appends}
use Rattle.sqlite.specs.Store.{Ghosts}
use Rattle.sqlite.specs.Held as sql
use Rattle.floor_sql.specs.Held.{SqlHeld, sql_held}
use Rattle.floor_store.specs.Content.{Content}
use Rattle.floor_store.specs.declared.fault.StoreFault.{StoreFault}
use Rattle.floors_file.specs.Named.{NamedFloorsRecord}
use Rattle.floors_file.specs.NamedGathered.{gathered_rows}
use Rattle.floors_file.specs.NamedWriting.{named_floors_text}
use Rattle.floors_file.specs.declared.named.NamedFloor.{NamedFloor}
use Rattle.named_floors.specs.Level.{Levels, told_by}
use Rattle.named_floors.specs.Told.{TellingRecord, told_named}
use Rattle.roster_sql.specs.Roster.{BondRecord}
use Rattle.roster_sql.specs.declared.entry.Entry.{Entry}
use Rattle.oathd_database.specs.declared.fault.Fault.TheVariants.{Memory, CannotWrite, NoClock, Users, Store, Socket}
use Rattle.oathd_roster.specs.declared.fault.RosterFault.{RosterFault}
use Rattle.oathd_roster.specs.declared.fault.RosterFault.TheVariants.{Command, SameName, AnotherCluster, Full}
use Rattle.oathd_floors.specs.Files.{TakingRecord, files_after}
use Rattle.oathd_floors.specs.Levelled.{HasLevelled, IsNotRaised}
use Rattle.oathd_floors.specs.Rows.{HasRows, IsNotRead}
use Rattle.oathd_floors.specs.Told.{telling_of}

-- the node of a cluster, by the parts of its bond
pub telling_is : (node moment members : ℕ) (names life : List ℕ) (own : BondRecord) → members ≡ own.members → names ≡ own.names → life ≡ own.life
    → telling_of node moment (record { names = names; life = life; members = members }) ≡ telling_of node moment own
telling_is node moment members names life own counted named lived =
    let of : ℕ → List ℕ → List ℕ → TellingRecord = λ m n l. telling_of node moment (record { names = n; life = l; members = m }) in
    ap (λ m. of m names life) counted ∙ ap (λ n. of own.members n life) named ∙ ap (λ l. of own.members own.names l) lived

-- the text of the floors of a store
pub told_text : (key : List ℕ) (telling told : TellingRecord) (roster entries : List Entry) (heard : List ℕ) (content : Content) (floors : NamedFloorsRecord)
    (old new : Option (List ℕ)) → told ≡ telling → entries ≡ roster → floors ≡ told_named told entries heard content
    → Appends old new (named_floors_text key floors) → Appends old new (named_floors_text key (told_named telling roster heard content))
told_text key telling told roster entries heard content floors old new of_node of_rows is written =
    subst (λ (f : NamedFloorsRecord). Appends old new (named_floors_text key f))
    (is ∙ ap (λ t. told_named t entries heard content) of_node ∙ ap (λ r. told_named telling r heard content) of_rows) written

-- the store fails or is another cluster's, after the texts were taken
pub not_raised : {S : Type 0} (g : Ghosts S) (finds : sql.Held S → Type 0) (taking : TakingRecord) (texts : List (List ℕ)) (files : List NamedFloorsRecord)
    (fault : RosterFault) → files_after taking [] texts ≡ Ok files → IsNotRead g finds taking.own fault → IsNotRaised g finds taking texts fault
not_raised g finds taking texts files (Command Memory) taken is = tt
not_raised g finds taking texts files (Command CannotWrite) taken is = absurd is
not_raised g finds taking texts files (Command NoClock) taken is = absurd is
not_raised g finds taking texts files (Command (Users fault)) taken is = absurd is
not_raised g finds taking texts files (Command (Store fault)) taken is = (files, taken)
not_raised g finds taking texts files (Command Socket) taken is = absurd is
not_raised g finds taking texts files (SameName row) taken is = absurd is
not_raised g finds taking texts files AnotherCluster taken is = ((files, taken), is)
not_raised g finds taking texts files Full taken is = absurd is

-- the floors of a store are raised by files
pub has_levelled : {S : Type 0} (g : Ghosts S) (finds : sql.Held S → Type 0) (taking : TakingRecord) (node : ℕ) (texts : List (List ℕ))
    (files : List NamedFloorsRecord) (roster entries : List Entry) (gathered : List NamedFloor) (found new : SqlHeld S) (result : Result Unit StoreFault)
    (value : Unit) → files_after taking [] texts ≡ Ok files → HasRows g finds taking.own node roster found → gathered ≡ gathered_rows files → entries ≡ roster
    → result ≡ Ok value → Levels (sql_held g) found new (told_by gathered entries) result → HasLevelled g finds taking node texts new
has_levelled g finds taking node texts files roster entries gathered found new result value taken opened told same ok levels = record {
  files = files;
  taken = taken;
  roster = roster;
  found = found;
  opened = opened;
  levels = subst (λ (r : Result Unit StoreFault). Levels (sql_held g) found new (told_by (gathered_rows files) roster) r) ok
      (subst (λ (e : List Entry). Levels (sql_held g) found new (told_by (gathered_rows files) e) result) same
      (subst (λ (l : List NamedFloor). Levels (sql_held g) found new (told_by l entries) result) told levels));
}
