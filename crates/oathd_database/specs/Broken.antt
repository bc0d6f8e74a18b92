-- Minimal databases, users files and floors files that keep or break one field of a promise. No contract cites them.
use Rattle.std.specs.Prelude.{◌≡◌, ℕ, zero, suc, pos, refl, Bool, true, false, List, [], ◌∷◌, Option, None, Some, codes}
use Rattle.std.specs.Global.{Vec}
use Rattle.std.specs.Borrow.{Bor}
use Rattle.std.proofs.Math.Dec.{lit≤}
use denote.RawPtr.{null_ptr}
use Rattle.sqlite.specs.Held.{Held as Conn}
use Rattle.sqlite.specs.Schema.{Schema}
use Rattle.sqlite.specs.Store.{Ghosts}
use Rattle.sqlite.specs.Tree.{Trees}
use Rattle.sqlite_trees.specs.declared.store.Shape.TheVariants.{Absent}
use Rattle.otp_core.specs.Limits.{Limits, default_limits}
use Rattle.token_file.specs.Credential.{Credential}
use Rattle.token_file.specs.Examples.{event_token, time_token}
use Rattle.token_file.specs.declared.fault.LineFault.{LineFault}
use Rattle.token_file.specs.declared.token.Kind.TheVariants.{Time30}
use Rattle.floor_store.specs.Content.{Content, opening_content_at}
use Rattle.floor_store.specs.Broken.{SmallStore, holding}
use Rattle.floor_store.specs.Examples.{old_pass}
use Rattle.floor_store.specs.declared.fault.StoreFault.TheVariants.{Disk}
use Rattle.floor_sql.specs.Broken.{old_db_at, tables_at, trees_of}
use Rattle.floor_sql.specs.Stored.{pass_row, self_row}
use Rattle.floor_sql.specs.Held.{SqlHeld}
use Rattle.floor_sql.specs.Schema.{floor_schema}
use Rattle.floors_file.specs.Examples.{text_of}
use Rattle.floors_file.specs.declared.fault.LineFault.{LineFault as FloorsLineFault}
use Rattle.floors_file.specs.declared.gathered.Asked.{Asked}
use Rattle.oathd_database.specs.Users.{IsImported}
use Rattle.oathd_database.specs.declared.fault.Fault.{Fault}
use Rattle.oathd_database.specs.declared.fault.Fault.TheVariants.{Users}
use Rattle.oathd_database.specs.declared.gather.GatherFault.{GatherFault}
use Rattle.oathd_database.specs.declared.gather.GatherFault.TheVariants.{Floors}
use Rattle.oathd_database.specs.declared.lost.LostNode.{LostNode}

-- ---- databases

-- A disk, given as a number, that shows and has committed `trees`. If `is_clean`, it returns what was written.
abbrev pub disk_of : Bool → (ℕ → Trees) → Ghosts ℕ
disk_of is_clean trees = record {
  view = λ disk. record {
    trees = trees disk;
    committed = trees disk;
    cursors = λ cursor. None;
    shape = λ tree. Absent;
    reals = λ tree. 0;
    committed_shape = λ tree. Absent;
    committed_reals = λ tree. 0;
    marks = [];
    is_numbered = true;
    has_sums = false;
    is_open = true;
    is_broken = false;
    is_clean = is_clean;
  };
  faults = λ disk. 0;
  recovers = λ disk left. left ≡ trees disk;
  is_shielded = λ disk. Unit {0};
  is_step = λ old new tree. Unit {0};
  blamed = λ disk. None;
  names = λ old new fault. Unit {0};
}

-- a disk that returned something other than what was written
abbrev pub fallen : Ghosts ℕ
fallen = disk_of false (λ disk. tables_at 0 [])

-- a disk that always shows `trees`
abbrev pub still : Trees → Ghosts ℕ
still trees = disk_of true (λ disk. trees)

-- the tables of node 1, and of node 2 with a pass
abbrev pub two_tables : ℕ → Trees
two_tables zero = tables_at 4 []
two_tables (suc disk) = trees_of (self_row 2 0 4 ∷ []) [] (pass_row 1 old_pass ∷ []) []

-- a disk that shows either of them
abbrev pub two_disks : Ghosts ℕ
two_disks = disk_of true two_tables

-- the tables of node 1 without a token, of version 1 and of version 2
abbrev pub old_and_new : ℕ → Trees
old_and_new zero = (old_db_at 4 []).trees
old_and_new (suc disk) = tables_at 4 []

-- a disk that shows either of them
abbrev pub migrating : Ghosts ℕ
migrating = disk_of true old_and_new

-- an empty list of the code
abbrev pub no_items : {A : Type 0} → Vec A
no_items = record {
  ptr = null_ptr;
  len = 0;
  cap = 0;
  alloc = record { memory = record { seal = tt } };
  items = [];
  ok = (refl, lit≤ tt);
  small = lit≤ tt;
}

-- a list of the code with one item
abbrev pub one_item : {A : Type 0} → A → Vec A
one_item item = record {
  ptr = null_ptr;
  len = 1;
  cap = 1;
  alloc = record { memory = record { seal = tt } };
  items = item ∷ [];
  ok = (refl, lit≤ tt);
  small = lit≤ tt;
}

-- a connection to the disk `disk` with a schema, outside a transaction
abbrev pub conn_of : Schema → ℕ → Conn ℕ
conn_of schema disk = record {
  store = disk;
  schema = schema;
  saved = record { base = None; marks = no_items };
  in_transaction = false;
  changes = 0;
  last_rowid = pos 0;
  cache = [];
  params = [];
  step_limit = None;
  reading = record {
    stream = record { given = no_items; page = []; marks = []; skip = 0; left = None; rounds = None };
    budget = record { is_limited = false; left = 0 };
    row = [];
    batch = 1;
    returned = no_items;
    at = 0;
  };
}

-- any connection is found
abbrev pub shows_any : Conn ℕ → Type 0
shows_any conn = Unit {0}

-- no connection is found
abbrev pub shows_none : Conn ℕ → Type 0
shows_none conn = ⊥

-- a connection to the tables of a store
abbrev pub small_conn : Conn ℕ
small_conn = conn_of floor_schema 0

-- a store with a content, over this connection
abbrev pub store_of : Content → SqlHeld ℕ
store_of content = record { conn = small_conn; mirror = content; staged = []; passes = 0; fault = None }

-- a new store at a boot, with floors (first free factors)
abbrev pub new_store : ℕ → List ℕ → SqlHeld ℕ
new_store boot floors = store_of (opening_content_at boot floors)

-- ---- users files

-- one event token, of user `a`
abbrev pub one_book : List Credential
one_book = event_token (codes "a") ∷ []

-- a users file of this book, of at most `longest` bytes, imported at a moment
abbrev pub IsOfOne : ℕ → ℕ → List ℕ → Type 0
IsOfOne moment longest users = IsImported default_limits moment longest one_book (0 ∷ []) users

-- a row without a name
abbrev pub no_users : List ℕ
no_users = codes "HOTP"

-- settings with a drift
abbrev pub drifting : ℕ → Limits
drifting drift = record default_limits { drift = drift }

-- a users file of one time token, imported with a drift of two steps
abbrev pub IsOfClock : List ℕ → Type 0
IsOfClock users = IsImported (drifting 2) 59 15 (time_token Time30 ∷ []) (3 ∷ []) users

-- a fault of a line of a users file
abbrev pub users_fault : ℕ → LineFault → Fault
users_fault line kind = Users (record { line = line; kind = kind })

-- ---- floors files

-- the floors file of the only node, at boot 7, with the floor of user `a`
abbrev pub floors_text : List ℕ → List ℕ
floors_text next = text_of (codes "floors 1 1 1 7 0 1" ∷ next ∷ [])

-- the floors file of the only node, without a token
abbrev pub no_floors : List ℕ
no_floors = text_of (codes "floors 1 1 1 7 0 0" ∷ [])

-- the lost nodes
abbrev pub lost_nodes : List ℕ → Option (Bor (List ℕ))
lost_nodes nodes = Some (record { ref_ptr = (0, 0); now = nodes })

-- the demand for a new boot
abbrev pub asked_for : ℕ → Asked
asked_for boot = record { since = 0; boot = boot }

-- a node of a cluster that is replaced as a whole
abbrev pub whole : LostNode
whole = record { node = 1; lost = None; since = 0 }

-- a fault of a line of the floors file `number`
abbrev pub floors_fault : ℕ → ℕ → FloorsLineFault → GatherFault
floors_fault number line kind = Floors number (record { line = line; kind = kind })

-- a store with a content, broken by the disk
abbrev pub failing : Content → SmallStore
failing content = record (holding content) { fault = Some Disk; failures = 1 }
