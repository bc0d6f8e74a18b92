-- The rows of a users file whose tokens have rows in a store.
use Rattle.std.proofs.Common.{◌≡◌, ◌∙◌, ℕ, ◌+◌, ◌<◌, Bool, true, false, cond, ◌||◌, List, [], ◌∷◌, ◌++◌, length, map, take, get_or, slice_get, refl, ap, sym, subst, append_assoc, arith}
use Rattle.std.specs.Prelude.{◌≢◌, Result, Ok, Err}
use Rattle.std.specs.Borrow.{Bor}
use Rattle.std.specs.BTreeSet.{BTreeSet, Updates, contains}
use Rattle.std.specs.Cmp.Lexicographic.{slice_cmp}
use Rattle.std.specs.List.{flat_map}
use Rattle.std.specs.Ordering.{nat_cmp}
use Rattle.std.specs.Str.{bytes_eq}
use Rattle.std.proofs.lemmas.List.{append-nil, flat_map_more, map-append, take_more}
use Rattle.std.proofs.lemmas.List.Folds.{list_any-append}
use Rattle.std.proofs.lemmas.Map.Text.{is_eq-slice_cmp}
use Rattle.sqlite.specs.Store.{Ghosts}
use Rattle.sqlite.specs.Effect.{Database}
use Rattle.sqlite.specs.Held as sql
use Rattle.sqlite.specs.State.{HasCleanDisk}
use Rattle.otp_core.specs.Limits.{Limits}
use Rattle.floor_sql.specs.Calls.{KeepsTables}
use Rattle.floor_sql.specs.Held.{SqlHeld}
use Rattle.floor_sql.specs.Stored.{HoldsSelf}
use Rattle.floor_sql.specs.declared.schema.Format.TheVariants.{Named}
use Rattle.floor_store.specs.Content.{Content}
use Rattle.kept_rows.specs.Kept.{kept_line}
use Rattle.roster_sql.specs.Roster.{BondRecord}
use Rattle.roster_sql.specs.declared.entry.Entry.{Entry}
use Rattle.roster_sql.proofs.CommitLemmas.{survives_after}
use Rattle.named_store.specs.Entries.{entries_of}
use Rattle.named_store.proofs.LookLemmas.{keeps_then}
use Rattle.named_store.specs.Looked.{HasLooked, HoldsStore}
use Rattle.named_store.specs.Opened.{AreCounts, EnrolsNames, HasNames, HasSeated, HasSeats}
use Rattle.named_store.specs.declared.fault.NamedFault.{NamedFault}
use Rattle.named_store.specs.declared.fault.NamedFault.TheVariants as named
use Rattle.named_store.specs.declared.opening.RowCounts.{RowCounts}
use Rattle.seated_store.specs.Seated.{SeatedRecord}
use Rattle.token_file.specs.Credential.{Credential}
use Rattle.token_file.specs.UsersFile.{Import, book_of, import_of, instant_of, is_of_text}
use Rattle.token_file.specs.declared.fault.FileFault.{FileFault}
use Rattle.token_file.specs.declared.fault.LineFault.{LineFault}
use Rattle.oathd_database.specs.Fault.{IsOpenFault}
use Rattle.oathd_database.specs.Users.{IsImported}
use Rattle.oathd_database.specs.declared.fault.Fault.{Fault}
use Rattle.oathd_database.specs.declared.fault.Fault.TheVariants.{Memory, CannotWrite, NoClock, Users, Store, Socket}
use Rattle.oathd_roster.specs.Enrolled.{AreNamesOf, IsOpenedFor, IsRowsFault, KeepsRows, enrolled_rows, entries_in, is_enrolled, is_row}
use Rattle.oathd_roster.specs.Enrolment.{enrolment_floors}
use Rattle.oathd_roster.specs.Users.{IsUnnamed}
use Rattle.oathd_roster.proofs.OpenedLemmas.{refused_text}
use Rattle.oathd_roster.specs.Fault.{named_fault_of}
use Rattle.oathd_roster.specs.Opened.{HasOpenedNamed, IsKeptOut, IsNotOpened}
use Rattle.oathd_roster.specs.declared.cluster.NamedCluster.{NamedCluster}
use Rattle.oathd_roster.specs.declared.fault.RosterFault.{RosterFault}
use Rattle.oathd_roster.specs.declared.fault.RosterFault.TheVariants.{Command, SameName, AnotherCluster, Full}

-- ---- the names of rows

-- one more row, and a name that it has or hasn't
name_more : (e q : List ℕ) (had : Bool) (t : Bool) → bytes_eq e q ≡ t → cond t true had ≡ (had || (bytes_eq e q || false))
name_more e q true true is = refl
name_more e q true false is = refl
name_more e q false true is = sym (ap (λ b. b || false) is)
name_more e q false false is = sym (ap (λ b. b || false) is)

-- the names of the rows, with that of one more
pub names_more : (rows : List Entry) (e : Entry) (key : List ℕ) (old new : BTreeSet (List ℕ)) → key ≡ e.name → AreNamesOf rows old
    → Updates (slice_cmp nat_cmp) old new key true → AreNamesOf (rows ++ e ∷ []) new
names_more rows e key old new is has updates q =
    updates.0 q ∙ ap (λ t. cond t true (contains (slice_cmp nat_cmp) old q)) (is_eq-slice_cmp key q)
    ∙ ap (λ (k : List ℕ). cond (bytes_eq k q) true (contains (slice_cmp nat_cmp) old q)) is
    ∙ name_more e.name q (contains (slice_cmp nat_cmp) old q) (bytes_eq e.name q) refl
    ∙ ap (λ b. b || (bytes_eq e.name q || false)) (has q)
    ∙ sym (list_any-append (λ (row : Entry). bytes_eq row.name q) rows (e ∷ []))

-- the same for the row at a place
pub names_at : (roster : List Entry) (place : ℕ) (d : Entry) (key : List ℕ) (old new : BTreeSet (List ℕ)) → place < length roster
    → key ≡ (get_or roster place d).name → AreNamesOf (take place roster) old → Updates (slice_cmp nat_cmp) old new key true
    → AreNamesOf (take (place + 1) roster) new
names_at roster place d key old new low is has updates =
    subst (λ (rows : List Entry). AreNamesOf rows new) (sym (take_more roster place d low))
    (names_more (take place roster) (get_or roster place d) key old new is has updates)

-- ---- a line

module _ (salt : List ℕ) (limits : Limits) (roster : List Entry) (line : List ℕ) where
  -- a line that is read
  pub line_read : (book : List Credential) (floors : List ℕ) (entries : List Entry) (is : Bool) → IsImported limits 0 16777216 book floors line
      → entries ≡ entries_of salt book → is ≡ is_row roster (slice_get entries 0) → is ≡ is_enrolled salt limits roster line
  line_read book floors entries is read are found =
      found ∙ ap (λ (es : List Entry). is_row roster (slice_get es 0)) are
      ∙ sym (ap (λ (o : Result Import (ℕ × LineFault)). is_row roster (slice_get (entries_in salt o) 0)) read)

  -- a line with a fault has no token
  pub line_faulty : (fault : ℕ × LineFault) → book_of 16777216 (instant_of limits 0) line ≡ Err fault → false ≡ is_enrolled salt limits roster line
  line_faulty fault read = sym (ap (λ (o : Result Import (ℕ × LineFault)). is_row roster (slice_get (entries_in salt o) 0)) read)

  -- the fault of a line
  pub line_unread : (outer : RosterFault) (inner : Fault) (fault : FileFault) → outer ≡ Command inner → inner ≡ Users fault
      → IsUnnamed salt limits 0 16777216 outer line → is_of_text fault.kind ≡ true → false ≡ is_enrolled salt limits roster line
  line_unread outer inner fault one two unnamed told =
      line_faulty (fault.line, fault.kind)
      ((subst (λ (x : RosterFault). IsUnnamed salt limits 0 16777216 x line) (one ∙ ap Command two) unnamed).0 told)

-- the tokens of an outcome
abbrev book_in : Result Import (ℕ × LineFault) → List Credential
book_in (Ok import) = import.book
book_in (Err fault) = []

-- a text with tokens is not empty
pub text_has : (limits : Limits) (moment : ℕ) (book : List Credential) (floors text : List ℕ) → IsImported limits moment 16777216 book floors text
    → (length book ≡ 0 → ⊥) → text ≢ []
text_has limits moment book floors text read many none =
    many (sym (ap (λ (o : Result Import (ℕ × LineFault)). length (book_in o))
    (subst (λ (t : List ℕ). book_of 16777216 (instant_of limits moment) t ≡ Ok (import_of book floors)) none read)))

-- ---- lines

-- a line that is not kept
pub kept_not : (is_kept : List ℕ → Bool) (line old : List ℕ) → is_kept line ≡ false → old ≡ old ++ kept_line is_kept line
kept_not is_kept line old out = sym (ap (λ b. old ++ cond b (line ++ 10 ∷ []) []) out ∙ append-nil old)

-- a line that is kept
pub kept_new : (is_kept : List ℕ → Bool) (line old mid new : List ℕ) → is_kept line ≡ true → mid ≡ old ++ line → new ≡ mid ++ 10 ∷ []
    → new ≡ old ++ kept_line is_kept line
kept_new is_kept line old mid new is first last =
    last ∙ ap (λ m. m ++ 10 ∷ []) first ∙ append_assoc old line (10 ∷ [])
    ∙ sym (ap (λ b. old ++ cond b (line ++ 10 ∷ []) []) is)

-- the bytes of borrowed lines
abbrev pub bytes_of : List (Bor (List ℕ)) → List (List ℕ)
bytes_of lines = map (λ line. line.now) lines

-- what is kept of the lines before a place, and of the line there
pub kept_at : (is_kept : List ℕ → Bool) (lines : List (Bor (List ℕ))) (place : ℕ) (d : Bor (List ℕ)) (kept new : List ℕ) → place < length lines
    → kept ≡ flat_map (kept_line is_kept) (bytes_of (take place lines)) → new ≡ kept ++ kept_line is_kept (get_or lines place d).now
    → new ≡ flat_map (kept_line is_kept) (bytes_of (take (place + 1) lines))
kept_at is_kept lines place d kept new low so_far next =
    next ∙ ap (λ (k : List ℕ). k ++ kept_line is_kept (get_or lines place d).now) so_far
    ∙ flat_map_more (kept_line is_kept) [] (bytes_of (take place lines)) (get_or lines place d).now
    ∙ ap (flat_map (kept_line is_kept)) (sym (map-append (λ (l : Bor (List ℕ)). l.now) (take place lines) (get_or lines place d ∷ [])))
    ∙ ap (λ (ls : List (Bor (List ℕ))). flat_map (kept_line is_kept) (bytes_of ls)) (sym (take_more lines place d low))

-- ---- faults

-- only a full store makes this fault
pub full_of : (fault : NamedFault) → named_fault_of fault ≡ Full → fault ≡ named.Full
full_of named.AnotherCluster is = absurd cc
full_of named.Full is = refl
full_of (named.Store fault) is = absurd cc

-- ---- the store, after reads

-- what the tables say of its names
names_of_store : (db : Database) (node : ℕ) (roster : List Entry) (own : BondRecord) (content : Content) (count : ℕ)
    → HoldsStore db node roster own content count → length content.rows ≡ length roster → HasNames db node roster own
names_of_store db node roster own content count it counted =
    let holds = it.holds in
    record {
      store = record {
        schema = holds.schema;
        boot = content.boot;
        self = subst (λ n. HoldsSelf Named db.trees n (length roster) content.boot) it.of_node
            (subst (λ n. HoldsSelf Named db.trees holds.holds.node n content.boot) counted holds.holds.self);
      };
      entries = holds.roster;
      bond = holds.bond;
    }

module _ {S : Type 0} (g : Ghosts S) (old mid : sql.Held S) (kept : KeepsTables g old mid) where
  -- the store that is seen was in the tables before the reads
  seated_before : (node : ℕ) (names : List Entry) (floors : List ℕ) (own : BondRecord) (store : SeatedRecord (SqlHeld S))
      → HasSeated g mid node names floors own store → HasSeated g old node names floors own store
  seated_before node names floors own store it = record {
    tables = λ clean.
        let early : HasCleanDisk (sql.state g mid) = omega (arith, it.survives.clean) in
        subst (λ (d : Database). HasSeats node names floors own d (sql.state g store.inner.conn).now store.inner.mirror store.seats)
        (kept.read early).now (it.tables clean);
    sound = it.sound;
    works = it.works;
    survives = survives_after (EnrolsNames node names floors own) (EnrolsNames node names floors own) (sql.state g old) (sql.state g mid)
        (sql.state g store.inner.conn) (λ early. (kept.read early).now) (λ early db change. change) kept.survives it.survives;
  }

  module _ (cluster : NamedCluster) (limits : Limits) (node : ℕ) where
    -- a store that is opened after reads
    pub opened_before : (moment : ℕ) (book : List Credential) (floors : List ℕ) (store : SeatedRecord (SqlHeld S)) (counts : RowCounts)
        → IsOpenedFor g cluster limits moment mid node book floors store counts → IsOpenedFor g cluster limits moment old node book floors store counts
    opened_before moment book floors store counts it = record {
      seated = seated_before node (entries_of cluster.salt book) (enrolment_floors cluster limits moment book floors) cluster.bond store it.seated;
      counted = λ clean.
          let early : HasCleanDisk (sql.state g mid) = omega (arith, it.seated.survives.clean) in
          subst (λ (d : Database). AreCounts d node (entries_of cluster.salt book) cluster.bond counts) (kept.read early).now (it.counted clean);
      each = it.each;
      names_apart = it.names_apart;
    }

    -- rows that are read after other reads
    pub kept_before : (text rows : List ℕ) → KeepsRows g cluster limits mid node text rows → KeepsRows g cluster limits old node text rows
    kept_before text rows it = record {
      roster = it.roster;
      left = it.left;
      read = keeps_then g old mid it.left kept it.read;
      tables = λ clean.
          let early : HasCleanDisk (sql.state g mid) = omega (arith, it.read.survives.clean) in
          subst (λ (d : Database). HasNames d node it.roster cluster.bond) (kept.read early).now (it.tables clean);
      kept_are = it.kept_are;
    }

-- the connection of a store that was looked at, once it is closed
pub looked_closed : {S : Type 0} (g : Ghosts S) (old new : sql.Held S) (inner : SqlHeld S) (node : ℕ) (own : BondRecord) (roster : List Entry)
    (store : SeatedRecord (SqlHeld S)) → new ≡ inner.conn → inner ≡ store.inner → HasLooked g old node [] own roster store → KeepsTables g old new
looked_closed {S} g old new inner node own roster store is same it =
    subst (λ (left : sql.Held S). KeepsTables g old left) (sym (is ∙ ap (λ (i : SqlHeld S). i.conn) same)) it.kept

module _ {S : Type 0} (g : Ghosts S) (cluster : NamedCluster) (limits : Limits) where
  -- the rows are those of a store that was looked at
  pub rows_kept : (old : sql.Held S) (node : ℕ) (roster : List Entry) (store : SeatedRecord (SqlHeld S)) (text rows : List ℕ)
      → HasLooked g old node [] cluster.bond roster store → rows ≡ enrolled_rows cluster.salt limits roster text
      → KeepsRows g cluster limits old node text rows
  rows_kept old node roster store text rows it are = record {
    roster = roster;
    left = store.inner.conn;
    read = it.kept;
    tables = λ clean. let holds = (it.tables clean) in names_of_store (sql.state g old).now node roster cluster.bond store.inner.mirror store.inner.passes holds it.rows;
    kept_are = are;
  }

module _ {S : Type 0} (g : Ghosts S) (finds : sql.Held S → Type 0) (cluster : NamedCluster) (limits : Limits) (moment : ℕ) where
  -- what is opened in the tables of a connection is opened in some database
  pub opened_in : (conn : sql.Held S) (node : ℕ) (book : List Credential) (floors : List ℕ) (store : SeatedRecord (SqlHeld S)) (counts : RowCounts)
      → (HasCleanDisk (sql.state g conn) → finds conn) → IsOpenedFor g cluster limits moment conn node book floors store counts
      → HasOpenedNamed g finds cluster limits moment node book floors store counts
  opened_in conn node book floors store counts found it = record {
    conn = conn;
    found = found;
    seated = it.seated;
    counted = it.counted;
    each = it.each;
    names_apart = it.names_apart;
  }

  -- a refusal by the tables of a connection is one by those of some database
  pub kept_out_in : (conn : sql.Held S) (node : ℕ) (fault : NamedFault) (text : List ℕ) → (HasCleanDisk (sql.state g conn) → finds conn)
      → IsKeptOut g (λ first. first ≡ conn) cluster limits moment 16777216 node fault text → IsKeptOut g finds cluster limits moment 16777216 node fault text
  kept_out_in conn node fault text found it = record {
    import = it.import;
    conn = it.conn;
    found = λ clean.
        let same = it.found clean in
        subst finds (sym same) (found (subst (λ (first : sql.Held S). HasCleanDisk (sql.state g first)) same clean));
    left = it.left;
    cause = it.cause;
    kept = it.kept;
  }

  pub not_opened_in : (conn : sql.Held S) (node : ℕ) (fault : RosterFault) (text : List ℕ) → (HasCleanDisk (sql.state g conn) → finds conn)
      → IsNotOpened g (λ first. first ≡ conn) cluster limits moment 16777216 node fault text → IsNotOpened g finds cluster limits moment 16777216 node fault text
  not_opened_in conn node (Command fault) text found h = h
  not_opened_in conn node (SameName row) text found h = h
  not_opened_in conn node AnotherCluster text found h = kept_out_in conn node named.AnotherCluster text found h
  not_opened_in conn node Full text found h = kept_out_in conn node named.Full text found h

  open_refused : (node : ℕ) (fault : Fault) (book : List Credential) (floors text : List ℕ) → IsImported limits moment 16777216 book floors text
      → IsOpenFault fault → IsNotOpened g finds cluster limits moment 16777216 node (Command fault) text
  open_refused node Memory book floors text read is = tt
  open_refused node CannotWrite book floors text read is = absurd is
  open_refused node NoClock book floors text read is = absurd is
  open_refused node (Users fault) book floors text read is = absurd is
  open_refused node (Store fault) book floors text read is = record { book = book; floors = floors; imported = read }
  open_refused node Socket book floors text read is = absurd is

  -- the rows that a full store has don't open it either
  pub rows_refused : (node : ℕ) (fault : RosterFault) (book : List Credential) (floors text : List ℕ) → IsImported limits moment 16777216 book floors text
      → IsKeptOut g finds cluster limits moment 16777216 node named.Full text → IsRowsFault fault → IsNotOpened g finds cluster limits moment 16777216 node fault text
  rows_refused node (Command fault) book floors text read out is = open_refused node fault book floors text read is
  rows_refused node (SameName row) book floors text read out is = absurd is
  rows_refused node AnotherCluster book floors text read out is = absurd is
  rows_refused node Full book floors text read out is = out

  -- a fault of reading the users file
  pub unread_refused : (node : ℕ) (fault : RosterFault) (text : List ℕ) → IsUnnamed cluster.salt limits moment 16777216 fault text
      → IsNotOpened g finds cluster limits moment 16777216 node fault text
  unread_refused node (Command fault) text h = refused_text limits moment 16777216 fault text h
  unread_refused node (SameName row) text h = h
  unread_refused node AnotherCluster text h = absurd h
  unread_refused node Full text h = absurd h
