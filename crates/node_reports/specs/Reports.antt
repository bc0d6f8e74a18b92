-- What the text of a report says.
use Rattle.std.specs.Prelude.{◌≡◌, ℕ, List, length, Option, Some, replicate}
use Rattle.std.specs.List.{concat}
use Rattle.sqlite.specs.Store.{Ghosts}
use Rattle.sqlite.specs.Held.{state}
use Rattle.sqlite.specs.State.{HasCleanDisk}
use Rattle.floor_sql.specs.Held.{SqlHeld}
use Rattle.floor_store.specs.Held.{Held}
use Rattle.floors_file.specs.NamedWriting.{named_floors_text}
use Rattle.floors_file.specs.Writing.{floors_text}
use Rattle.named_floors.specs.Told.{TellingRecord, told_named}
use Rattle.oath_node.specs.Hosted.{Hosted}
use Rattle.oathd_database.specs.Floors.{told_floors}
use Rattle.oathd_database.specs.Gates.{gates_text}
use Rattle.status_text.specs.Status.{status_text}
use Rattle.operator_text.specs.declared.request.Report.{Report}
use Rattle.operator_text.specs.declared.request.Report.TheVariants.{Status, Gates, Floors, Passes, Roster}
use Rattle.status_text.specs.declared.status.Status.{Status as StatusValue}
use Rattle.seated_store.specs.Seated.{SeatedRecord}
use Rattle.seated_store.specs.Seats.{seated_content}
use Rattle.oathd_roster.specs.Roster.{roster_text}
use Rattle.node_reports.specs.NodeStatus.{TellsInfo, TellsStore, rows_within}
use Rattle.node_reports.specs.declared.named.NamedRows.{NamedRows}
use Rattle.node_reports.specs.declared.node_status.NodeInfo.{NodeInfo}
use Rattle.node_reports.specs.declared.placed.PlacedRows.{PlacedRows}

-- ---- over a store by names

-- the node that tells its floors at a moment
abbrev pub telling_of : NamedRows → ℕ → TellingRecord
telling_of rows moment = record {
  node = rows.node;
  members = rows.own.now.members;
  moment = moment;
  names = rows.own.now.names;
  life = rows.own.now.life;
}

-- the number of all rows below the seats
abbrev pub rows_below : {S : Type 0} → SeatedRecord (SqlHeld S) → Option ℕ
rows_below store = Some (length store.inner.mirror.rows)

-- The text is that of the offline command over the rows of the store. It has no text of another report.
abbrev pub IsNamedText : {S : Type 0} → Ghosts S → NamedRows → SeatedRecord (SqlHeld S) → Report → ℕ → List ℕ → Type 0
IsNamedText g rows store Gates moment text = HasCleanDisk (state g store.inner.conn)
    → text ≡ gates_text rows.book.now (seated_content store.seats store.inner.mirror).rows
IsNamedText g rows store Floors moment text = HasCleanDisk (state g store.inner.conn)
    → text ≡ named_floors_text rows.key.now
    (told_named (telling_of rows moment) rows.roster.items (replicate 10 0) store.inner.mirror)
IsNamedText g rows store Roster moment text = HasCleanDisk (state g store.inner.conn)
    → text ≡ roster_text rows.book.now store.seats rows.roster.items store.inner.mirror.rows
IsNamedText g rows store Status moment text = ⊥
IsNamedText g rows store Passes moment text = ⊥

-- ---- over a store by place

-- The text is that of the offline command over the rows of the store, of a cluster without names. It has no text of
-- another report.
abbrev pub IsPlacedText : {S : Type 0} → Ghosts S → PlacedRows → SeatedRecord (SqlHeld S) → Report → ℕ → List ℕ → Type 0
IsPlacedText g rows store Gates moment text = HasCleanDisk (state g store.inner.conn)
    → text ≡ gates_text rows.book.now (seated_content store.seats store.inner.mirror).rows
IsPlacedText g rows store Floors moment text = HasCleanDisk (state g store.inner.conn)
    → text ≡ floors_text (told_floors rows.place.me rows.place.n moment rows.book.now
    (seated_content store.seats store.inner.mirror))
IsPlacedText g rows store Status moment text = ⊥
IsPlacedText g rows store Passes moment text = ⊥
IsPlacedText g rows store Roster moment text = ⊥

-- ---- over any store

-- The text is that of the state of a node.
pub record IsStatusText {S : Type 0} (held : S → Held) (info : NodeInfo) (rows : S → Option ℕ) (node : Hosted S)
    (moment : ℕ) (text : List ℕ) : Type 0 where
  pub status : StatusValue
  pub store : (held node.store).is_clean → TellsStore moment (held node.store).content status
  pub all_rows : status.rows ≡ rows_within (rows node.store)
  pub stays : TellsInfo info moment status
  pub written : text ≡ concat (status_text status)

-- The text is that of a report on a node. All reports but the state read the store alone.
abbrev pub IsReportText : {S : Type 0} → (S → Held) → NodeInfo → (S → Option ℕ)
    → (S → Report → ℕ → List ℕ → Type 0) → Hosted S → Report → ℕ → List ℕ → Type 0
IsReportText held info rows says node Status moment text = IsStatusText held info rows node moment text
IsReportText held info rows says node Gates moment text = says node.store Gates moment text
IsReportText held info rows says node Floors moment text = says node.store Floors moment text
IsReportText held info rows says node Passes moment text = says node.store Passes moment text
IsReportText held info rows says node Roster moment text = says node.store Roster moment text
