-- What the small databases are by which promises are broken.
use Rattle.std.proofs.Common.{◌≡◌, inl, ℕ, List, [], ◌∷◌, length, Some, Bool, true, false, refl, ap, sym, ◌∙◌, arith}
use Rattle.std.specs.Prelude.{Ok}
use Rattle.sqlite.specs.Held.{Held as Conn, state}
use Rattle.sqlite.specs.State.{HasCleanDisk, Survives}
use Rattle.sqlite.specs.Tree.{Trees}
use Rattle.sqlite_trees.specs.View.{doubt}
use Rattle.otp_core.specs.Limits.{Limits, default_limits}
use Rattle.token_file.specs.Credential.{Credential}
use Rattle.token_file.specs.UsersFile.{Import, import_of}
use Rattle.floor_store.specs.Content.{Content}
use Rattle.floor_store.specs.Records.{PassRecord}
use Rattle.floor_sql.specs.Broken.{tables_at}
use Rattle.floor_sql.specs.Calls.{IsMade, IsOpened, IsSound}
use Rattle.floor_sql.specs.Held.{SqlHeld}
use Rattle.floor_sql.specs.Migrate.{IsMigrated}
use Rattle.floor_sql.specs.Schema.{version_of}
use Rattle.floor_sql.specs.Stored.{Holds}
use Rattle.floor_sql.specs.declared.schema.Format.{Format}
use Rattle.floor_sql.proofs.BrokenLemmas.{count_of_none, own_row_is}
use Rattle.oathd_database.specs.Broken.{IsOfOne, disk_of, fallen, new_store, one_book, small_conn, store_of}
use Rattle.oathd_database.specs.Commands.{HasImport}
use Rattle.oathd_database.specs.Tables.{WritesAudit}
use Rattle.oathd_database.specs.Text.{audit_text}
use Rattle.oathd_database.specs.Users.{IsImported}

-- a disk that returns what was written is clean
pub clean_is : (trees : ℕ → Trees) (conn : Conn ℕ) → HasCleanDisk (state (disk_of true trees) conn)
unfolding doubt
clean_is trees conn = refl

-- and the one that fell is not
pub fallen_is : (conn : Conn ℕ) → HasCleanDisk (state fallen conn) → ⊥
unfolding doubt
fallen_is conn h = absurd cc

-- a call that changes nothing leaves what was left
pub stays : (is_clean : Bool) (trees : ℕ → Trees) (conn : Conn ℕ) (Commit : Trees → Type 0)
    → Survives (state (disk_of is_clean trees) conn) (state (disk_of is_clean trees) conn) Commit
stays is_clean trees conn Commit = record {
  clean = omega arith;
  shield = λ shielded. shielded;
  counts = omega arith;
  limit = refl;
  closes = λ clean is_open. inl is_open;
  crash = λ clean left may. inl may;
}

-- the contract claims nothing of tables on a dishonest disk
pub fallen_sound : (content : Content) → IsSound fallen (store_of content)
fallen_sound content = record { works = refl; idle = refl; settled = λ other left. absurd (fallen_is small_conn left.clean) }

pub fallen_opened : (node tokens : ℕ) (content : Content) → IsOpened fallen small_conn node tokens (store_of content)
fallen_opened node tokens content = record {
  content = λ clean. absurd (fallen_is small_conn clean);
  sound = fallen_sound content;
  kept = record {
    idle = refl;
    read = λ clean. absurd (fallen_is small_conn clean);
    survives = stays false (λ disk. tables_at 0 []) small_conn (λ left. ⊥);
  };
}

pub fallen_made : (node boot : ℕ) (floors : List ℕ) → IsMade fallen small_conn node boot floors (new_store boot floors)
fallen_made node boot floors = record {
  content = refl;
  no_passes = refl;
  sound = fallen_sound (new_store boot floors).mirror;
  tables = λ clean. absurd (fallen_is small_conn clean);
  survives = stays false (λ disk. tables_at 0 []) small_conn _;
}

pub fallen_migrated : (node tokens : ℕ) → IsMigrated fallen node tokens small_conn small_conn
fallen_migrated node tokens = record {
  idle = refl;
  tables = λ clean. absurd (fallen_is small_conn clean);
  survives = stays false (λ disk. tables_at 0 []) small_conn _;
}

-- what the tables of no token hold has none, at their boot
pub none_held : {format : Format} (boot : ℕ) (content : Content) (passes : List PassRecord) (h : Holds format (tables_at boot []) content passes)
    → (h.node ≡ 1) × (length content.rows ≡ 0) × (content.boot ≡ boot) × (length passes ≡ 0)
none_held {format} boot content passes h =
    let is = own_row_is 2 1 0 boot (version_of format) h.node (length content.rows) content.boot h.self in
    (sym is.1, sym is.2, sym is.3, count_of_none passes h.pass)

-- so a store that is opened over them is of node 1 and has no token, at their boot
pub opened_over : (boots : ℕ → ℕ) (old : Conn ℕ) (node tokens : ℕ) (store : SqlHeld ℕ)
    → IsOpened (disk_of true (λ disk. tables_at (boots disk) [])) old node tokens store
    → (node ≡ 1) × (tokens ≡ 0) × (store.mirror.boot ≡ boots old.store) × (length store.mirror.rows ≡ 0)
opened_over boots old node tokens store h =
    let found = h.content (clean_is (λ disk. tables_at (boots disk) []) store.conn) in
    let is = none_held (boots old.store) store.mirror found.passes found.holds in
    (sym found.of_node ∙ is.0, sym found.of_tokens ∙ is.1, is.2, is.1)

-- a users file has one import
pub imported_is : (limits : Limits) (moment longest : ℕ) (book : List Credential) (floors text : List ℕ) → IsImported limits moment longest book floors text
    → (import : HasImport limits moment longest text) → (import.book ≡ book) × (import.floors ≡ floors)
imported_is limits moment longest book floors text is import =
    let e : Ok (import_of book floors) ≡ Ok (import_of import.book import.floors) = sym is ∙ import.imported in
    let same : import_of book floors ≡ import_of import.book import.floors = cc in
    (sym (ap (λ (i : Import). i.book) same), sym (ap (λ (i : Import). i.floors) same))

-- the import of a users file of one token has one token
pub one_token : (moment longest : ℕ) (users : List ℕ) → IsOfOne moment longest users → (import : HasImport default_limits moment longest users)
    → length import.book ≡ 1
one_token moment longest users is import = ap (length {A = Credential}) (imported_is default_limits moment longest one_book (0 ∷ []) users is import).0

-- no pass is no text
no_text : (passes : List PassRecord) → length passes ≡ 0 → audit_text passes ≡ []
no_text [] none = refl
no_text (pass ∷ passes) none = absurd cc

-- the passes of the tables of no token are none, so nothing is written of them
pub nothing_written : (boots : ℕ → ℕ) (store : SqlHeld ℕ) (new : List ℕ)
    → WritesAudit (disk_of true (λ disk. tables_at (boots disk) [])) store (Some []) (Some new) → new ≡ []
nothing_written boots store new h =
    let is = none_held (boots store.conn.store) h.committed.base h.passes h.committed.holds in
    h.written ∙ no_text h.passes is.3
