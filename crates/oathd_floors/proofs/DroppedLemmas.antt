-- Rows of a store are dropped.
use Rattle.std.proofs.Common.{◌≡◌, ◌≤◌, ◌<◌, ℕ, zero, suc, ◌+◌, ◌-◌, Bool, true, false, cond, ◌||◌, List, [], ◌∷◌, ◌++◌, length, map, take, get_or, Some, slice_get, refl, ap, sym, subst, ◌∙◌, arith}
use Rattle.std.specs.Prelude.{All, IfSome, Option, Result, Ok}
use Rattle.std.specs.Io.KnownBytes.{Appends}
use Rattle.std.specs.BTreeSet.{BTreeSet, Updates, contains}
use Rattle.std.specs.Cmp.Lexicographic.{slice_cmp}
use Rattle.std.specs.Ordering.{nat_cmp}
use Rattle.std.specs.Str.{bytes_eq}
use Rattle.std.proofs.lemmas.List.{length-map, take_more}
use Rattle.std.proofs.lemmas.List.Folds.{list_any-append}
use Rattle.std.proofs.lemmas.Map.Text.{is_eq-slice_cmp}
use Rattle.std.proofs.lemmas.List.Elements.{All-get_or}
use Rattle.std.proofs.lemmas.Option.{IfSome_then, get_or_from_slice_get, none-some, same_Some, slice_get_within}
use Rattle.sqlite.specs.Store.{Ghosts}
use Rattle.sqlite.specs.Held as sql
use Rattle.sqlite.specs.State.{HasCleanDisk}
use Rattle.otp_core.specs.Limits.{Limits}
use Rattle.token_file.specs.Credential.{Credential}
use Rattle.floor_store.specs.Content.{Content, opening_content_at}
use Rattle.floor_store.specs.Records.{PassRecord, RowRecord}
use Rattle.floor_store.specs.declared.fault.StoreFault.{StoreFault}
use Rattle.floor_sql.specs.Calls.{ReadsAudit}
use Rattle.floor_sql.specs.Held.{HasCommitted, SqlHeld}
use Rattle.floor_sql.specs.Staged.{passes_in, with_puts}
use Rattle.floor_sql.specs.Steps.{Transacts}
use Rattle.floor_sql.specs.Stored.{KeepsCommit}
use Rattle.floor_sql.specs.declared.put.Put.{Put}
use Rattle.floor_sql.specs.declared.read.Refusal.{Refusal}
use Rattle.roster_sql.specs.Roster.{BondRecord}
use Rattle.roster_renewal.specs.Renewed.{AreOf, Renews}
use Rattle.named_store.specs.Entries.{entries_of}
use Rattle.named_store.specs.Floors.{raised_floor}
use Rattle.retired_rows.specs.Renewed.{puts_of, rows_in}
use Rattle.retired_rows.specs.Staying.{entries_in, floors_in, staying}
use Rattle.retired_rows.proofs.RenewLemmas.{renewed_is}
use Rattle.retired_rows.proofs.StayLemmas.{returns_no_lower}
use Rattle.roster_sql.specs.declared.entry.Entry.{Entry}
use Rattle.retired_rows.specs.declared.row.NumberedRow.{NumberedRow}
use Rattle.oathd_database.specs.Users.{IsImported}
use Rattle.oathd_database.specs.declared.fault.Fault.TheVariants.{Store}
use Rattle.oathd_roster.specs.Enrolled.{AreNamesOf}
use Rattle.oathd_roster.specs.declared.cluster.NamedCluster.{NamedCluster}
use Rattle.oathd_roster.specs.declared.fault.RosterFault.TheVariants.{Command}
use Rattle.oathd_floors.specs.Dropped.{ForgetsNone, HasDropped, IsLeft, IsNotDropped, IsRenewed, drop_text, numbered, numbered_row}
use Rattle.oathd_floors.specs.Rows.{HasRows}

-- ---- the names of tokens

-- one more token, and a name that it has or hasn't
name_more : (e q : List ℕ) (had : Bool) (t : Bool) → bytes_eq e q ≡ t → cond t true had ≡ (had || (bytes_eq e q || false))
name_more e q true true is = refl
name_more e q true false is = refl
name_more e q false true is = sym (ap (λ b. b || false) is)
name_more e q false false is = sym (ap (λ b. b || false) is)

-- the names of the tokens, with that of one more
names_more : (names : List Entry) (e : Entry) (key : List ℕ) (old new : BTreeSet (List ℕ)) → key ≡ e.name → AreNamesOf names old
    → Updates (slice_cmp nat_cmp) old new key true → AreNamesOf (names ++ e ∷ []) new
names_more names e key old new is has updates q =
    updates.0 q ∙ ap (λ t. cond t true (contains (slice_cmp nat_cmp) old q)) (is_eq-slice_cmp key q)
    ∙ ap (λ (k : List ℕ). cond (bytes_eq k q) true (contains (slice_cmp nat_cmp) old q)) is
    ∙ name_more e.name q (contains (slice_cmp nat_cmp) old q) (bytes_eq e.name q) refl
    ∙ ap (λ b. b || (bytes_eq e.name q || false)) (has q)
    ∙ sym (list_any-append (λ (row : Entry). bytes_eq row.name q) names (e ∷ []))

-- the same for the token at a place
pub names_at : (names : List Entry) (place : ℕ) (d : Entry) (key : List ℕ) (old new : BTreeSet (List ℕ)) → place < length names
    → key ≡ (get_or names place d).name → AreNamesOf (take place names) old → Updates (slice_cmp nat_cmp) old new key true
    → AreNamesOf (take (place + 1) names) new
names_at names place d key old new low is has updates =
    subst (λ (all : List Entry). AreNamesOf all new) (sym (take_more names place d low))
    (names_more (take place names) (get_or names place d) key old new is has updates)

-- ---- rows and their numbers

numbered_on : (place first : ℕ) (roster : List Entry) (rows : List RowRecord) (names : List Entry) (entry : Entry) (row : RowRecord)
    → slice_get roster place ≡ Some entry → slice_get rows place ≡ Some row
    → numbered first (take (suc place) roster) (take (suc place) rows) names
    ≡ numbered first (take place roster) (take place rows) names ++ numbered_row (first + place) entry row names ∷ []
numbered_on place first [] rows names entry row at there = absurd (none-some entry at)
numbered_on place first (one ∷ roster) [] names entry row at there = absurd (none-some row there)
numbered_on zero first (one ∷ roster) (held ∷ rows) names entry row at there =
    let same : first ≡ first + 0 = omega arith in
    ap (λ (e : Entry). numbered_row first e held names ∷ []) (same_Some one entry at)
    ∙ ap (λ (r : RowRecord). numbered_row first entry r names ∷ []) (same_Some held row there)
    ∙ ap (λ (n : ℕ). numbered_row n entry row names ∷ []) same
numbered_on (suc place) first (one ∷ roster) (held ∷ rows) names entry row at there =
    let same : first + 1 + place ≡ first + suc place = omega arith in
    ap (λ (l : List NumberedRow). numbered_row first one held names ∷ l) (numbered_on place (first + 1) roster rows names entry row at there
    ∙ ap (λ (n : ℕ). numbered (first + 1) (take place roster) (take place rows) names ++ numbered_row n entry row names ∷ []) same)

-- one row more
pub numbered_next : (place : ℕ) (roster : List Entry) (rows : List RowRecord) (names : List Entry) (entry : Entry) (row : RowRecord)
    (before after : List NumberedRow) (one : NumberedRow) → slice_get roster place ≡ Some entry → slice_get rows place ≡ Some row
    → one ≡ numbered_row place entry row names → after ≡ before ++ one ∷ []
    → before ≡ numbered 0 (take place roster) (take place rows) names → after ≡ numbered 0 (take (place + 1) roster) (take (place + 1) rows) names
numbered_next place roster rows names entry row before after one at there same more so_far =
    let on : place + 1 ≡ suc place = omega arith in
    let from : place ≡ 0 + place = omega arith in
    more ∙ ap (λ (l : List NumberedRow). l ++ one ∷ []) so_far
    ∙ ap (λ (r : NumberedRow). numbered 0 (take place roster) (take place rows) names ++ r ∷ []) (same ∙ ap (λ (n : ℕ). numbered_row n entry row names) from)
    ∙ sym (numbered_on place 0 roster rows names entry row at there)
    ∙ sym (ap (λ (n : ℕ). numbered 0 (take n roster) (take n rows) names) on)

-- ---- the store

-- the puts are of the rows
pub are_of : (kept : List NumberedRow) (floors held : List ℕ) (puts all : List Put) → floors ≡ held → held ≡ floors_in kept → all ≡ puts
    → All (λ (put : Put). put.token < length kept) puts → AreOf (length floors) all
are_of kept floors held puts all is of_kept same within i put at =
    let P : Put → Type 0 = λ put. put.token < length kept in
    let inside : All P all = subst (λ (l : List Put). All P l) (sym same) within in
    let got : put.token < length kept = subst P (get_or_from_slice_get all i put put at) (All-get_or P all i put (slice_get_within all i put at) inside) in
    let count : length floors ≡ length kept = ap length is ∙ ap length of_kept ∙ length-map kept (λ (row : NumberedRow). row.row.next) in
    omega (arith, got, count)

module _ {S : Type 0} (g : Ghosts S) (node : ℕ) (own : BondRecord) where
  -- the transaction of the parts is that of the rows
  renews_so : (boot : ℕ) (kept : List NumberedRow) (passes : List PassRecord) (given : ℕ) (floors : List ℕ) (entries : List Entry) (puts : List Put)
      (old new : sql.Held S) (result : Result Unit Refusal) (value : Unit) → given ≡ boot → floors ≡ floors_in kept
      → entries ≡ entries_in kept → puts ≡ puts_of kept passes → result ≡ Ok value
      → Transacts g (λ (e : Refusal). e.0) old new (Renews node given floors entries own puts) KeepsCommit (λ _. ⊥) result
      → Transacts g {A = Unit {0}} {E = Refusal} (λ (e : Refusal). e.0) old new
      (Renews node boot (floors_in kept) (entries_in kept) own (puts_of kept passes))
      KeepsCommit (λ _. ⊥) (Ok tt)
  renews_so boot kept passes given floors entries puts old new result value of_boot of_floors of_entries of_puts is h =
      let Does : ℕ → List ℕ → List Entry → List Put → Result Unit Refusal → Type 0 =
      λ b f e p r. Transacts g (λ (x : Refusal). x.0) old new (Renews node b f e own p) KeepsCommit (λ _. ⊥) r in
      subst (λ b. Does b (floors_in kept) (entries_in kept) (puts_of kept passes) (Ok value)) of_boot
      (subst (λ f. Does given f (entries_in kept) (puts_of kept passes) (Ok value)) of_floors
      (subst (λ e. Does given floors e (puts_of kept passes) (Ok value)) of_entries
      (subst (λ p. Does given floors entries p (Ok value)) of_puts (subst (λ r. Does given floors entries puts r) is h))))

  -- the passes that were read are a list
  pub read_list : {A : Type 0} (old new : SqlHeld S) (given : A) (passes : List PassRecord) → ReadsAudit g old new (Ok given)
      → ReadsAudit g old new (Ok passes)
  read_list old new given passes h =
      record { intact = h.intact; stays = h.stays; content = h.content; tables = h.tables; survives = h.survives }

  -- the rows are renewed
  pub is_renewed : (kept : List NumberedRow) (store read : SqlHeld S) (passes : List PassRecord)
      (given : ℕ) (floors : List ℕ) (entries : List Entry) (puts : List Put) (conn new : sql.Held S) (result : Result Unit Refusal) (value : Unit)
      → ReadsAudit g store read (Ok passes) → (HasCleanDisk (sql.state g read.conn) → HasCommitted g read passes)
      → given ≡ store.mirror.boot → floors ≡ floors_in kept → entries ≡ entries_in kept
      → puts ≡ puts_of kept passes → conn ≡ read.conn → result ≡ Ok value
      → Transacts g (λ (e : Refusal). e.0) conn new (Renews node given floors entries own puts) KeepsCommit (λ _. ⊥) result
      → IsRenewed g node own store.mirror.boot kept store new
  is_renewed kept store read passes given floors entries puts conn new result value reads listed of_boot of_floors of_entries of_puts same is h = record {
    passes = passes;
    read = read;
    reads = reads;
    listed = listed;
    renewed = renews_so store.mirror.boot kept passes given floors entries puts read.conn new result value of_boot of_floors of_entries of_puts is
        (subst (λ (c : sql.Held S). Transacts g (λ (e : Refusal). e.0) c new (Renews node given floors entries own puts) KeepsCommit (λ _. ⊥) result) same h);
  }

-- ---- the command

module _ {S : Type 0} (g : Ghosts S) (finds : sql.Held S → Type 0) (cluster : NamedCluster) (limits : Limits) (node : ℕ) (a : Option (List ℕ))
    (book : List Credential) (next : List ℕ) (imported : IfSome a (IsImported limits 0 16777216 book next)) where
  -- the store fails
  pub fails : (fault : StoreFault) → IfSome a (IsNotDropped g finds cluster limits 16777216 node (Command (Store fault)))
  fails fault = IfSome_then a imported (λ text i. record { book = book; floors = next; imported = i })

  -- the rows are dropped
  pub has_dropped : (names roster held : List Entry) (store : SqlHeld S) (rows given : List NumberedRow) (conn : sql.Held S) (all left out : ℕ)
      (old new : Option (List ℕ)) → HasRows g finds cluster.bond node roster store → names ≡ entries_of cluster.salt book → held ≡ roster
      → (HasCleanDisk (sql.state g store.conn) → rows ≡ numbered 0 held store.mirror.rows names) → given ≡ rows
      → (HasCleanDisk (sql.state g store.conn) → IsLeft g node cluster.bond store.mirror.boot given store conn) → left ≡ length (staying given)
      → all ≡ length rows → out ≡ all - left → Appends old new (drop_text out left)
      → IfSome a (HasDropped g finds cluster limits 16777216 node old new conn)
  has_dropped names roster held store rows given conn all left out old new opened of_names of_roster are same stays count of_all of_out written =
      let of_left : left ≡ length (staying rows) = count ∙ ap (λ (l : List NumberedRow). length (staying l)) same in
      let of_dropped : out ≡ length rows - length (staying rows) = of_out ∙ ap (λ (n : ℕ). n - left) of_all ∙ ap (λ (n : ℕ). length rows - n) of_left in
      IfSome_then a imported (λ text i. record {
        import = record { book = book; floors = next; imported = i };
        roster = roster;
        store = store;
        opened = opened;
        rows = rows;
        are_rows = λ clean. are clean ∙ ap (λ (l : List Entry). numbered 0 l store.mirror.rows names) of_roster
            ∙ ap (λ (l : List Entry). numbered 0 roster store.mirror.rows l) of_names;
        left = λ clean. subst (λ (l : List NumberedRow). IsLeft g node cluster.bond store.mirror.boot l store conn) same (stays clean);
        written = subst (λ (n : ℕ). Appends old new (drop_text n (length (staying rows)))) of_dropped
            (subst (λ (n : ℕ). Appends old new (drop_text out n)) of_left written);
      })

-- ---- the law

floors_are : (kept : List NumberedRow) → map (λ (row : RowRecord). row.next) (rows_in kept) ≡ floors_in kept
floors_are [] = refl
floors_are (row ∷ kept) = ap (λ (l : List ℕ). row.row.next ∷ l) (floors_are kept)

-- no floor is forgotten
pub forgets_none : {S : Type 0} (g : Ghosts S) (node boot : ℕ) (own : BondRecord) (rows : List NumberedRow) (store : SqlHeld S) (new : sql.Held S)
    → HasCleanDisk (sql.state g new) → IsRenewed g node own boot (staying rows) store new → ForgetsNone node own rows (sql.state g new).committed
forgets_none g node boot own rows store new clean h =
    let kept = staying rows in
    let made = (h.renewed.ok clean).committed in
    let content = with_puts (opening_content_at boot (floors_in kept)) (puts_of kept h.passes) in
    let held : map (λ (row : RowRecord). row.next) content.rows ≡ floors_in kept =
    ap (λ (c : Content). map (λ (row : RowRecord). row.next) c.rows) (renewed_is boot kept h.passes) ∙ floors_are kept in
    record {
      roster = entries_in kept;
      content = content;
      passes = passes_in (puts_of kept h.passes);
      whole = made.whole;
      of_node = made.of_node;
      none_lower = λ place floor row at. subst (λ (l : List ℕ). row.row.next ≤ raised_floor (entries_in kept) l row.entry.seed floor) (sym held)
          (returns_no_lower rows place floor row at);
    }
