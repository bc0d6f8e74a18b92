-- A store that is opened by names, as a store of a history. All nodes have the same names for canonical tokens.
use Rattle.std.specs.Prelude.{◌≡◌, ℕ, true, List, Some, Contains, map, slice_get, unwrap_or}
use Rattle.sqlite.specs.Store.{Ghosts}
use Rattle.sqlite.specs.Held as sql
use Rattle.sqlite.specs.State.{HasCleanDisk}
use Rattle.token_file.specs.Credential.{Credential}
use Rattle.token_names.specs.Names.{names_of}
use Rattle.floor_store.specs.Content.{Content}
use Rattle.floor_store.specs.Held.{Held}
use Rattle.floor_store.specs.Records.{PassRecord}
use Rattle.floor_sql.specs.Held.{SqlHeld}
use Rattle.roster_sql.specs.Roster.{BondRecord, HoldsNamed}
use Rattle.roster_sql.specs.declared.entry.Entry.{Entry}
use Rattle.seated_store.specs.Seated.{SeatedRecord}
use Rattle.named_port.specs.Names.{number_of}
use Rattle.node_serving.specs.NodeKey.{tag_key}
use Rattle.node_serving.specs.declared.serving.Serving.{Serving}
use Rattle.oathd_roster.specs.declared.cluster.NamedCluster.{NamedCluster}
use Rattle.book_law.specs.Lives.{Store, Terms, do_fit, places_of}
use Rattle.name_law.specs.Datagrams.{AreNames}

-- ---- Tokens by their names

-- the canonical token of a name: its place among the names of all canonical tokens, 0 for an unknown name
abbrev pub token_of : List (List ℕ) → List ℕ → ℕ
token_of names name = unwrap_or (number_of names name) 0

-- the canonical tokens of names, in order
abbrev pub tokens_of : List (List ℕ) → List (List ℕ) → List ℕ
tokens_of names own = map (token_of names) own

-- ---- Stores

-- the names in rows, in order
abbrev pub row_names : List Entry → List (List ℕ)
row_names rows = map (λ (row : Entry). row.name) rows

-- a store with these rows and the content, as a store of a history
abbrev pub store_by_names : List (List ℕ) → List Entry → Content → Store
store_by_names names rows content = record { names = tokens_of names (row_names rows); content = content }

-- each row has the name of a canonical token
abbrev pub AreKnown : List (List ℕ) → List Entry → Type 0
AreKnown names rows = (row : ℕ) (entry : Entry) → slice_get rows row ≡ Some entry → Contains names entry.name

-- the tables of a store have its content, these rows and the bond
pub record HasRows {S : Type 0} (g : Ghosts S) (own : BondRecord) (store : SqlHeld S) (rows : List Entry)
    : Type 0 where
  pub passes : List PassRecord
  pub holds : HoldsNamed (sql.state g store.conn).now store.mirror passes rows own

-- The disk of a store is clean, and its tables have these rows. Each row has the name of a canonical token.
pub record HasKnownRows {S : Type 0} (g : Ghosts S) (own : BondRecord) (names : List (List ℕ)) (store : SqlHeld S)
    (rows : List Entry) : Type 0 where
  pub clean : HasCleanDisk (sql.state g store.conn)
  pub has : HasRows g own store rows
  pub are_names : AreNames names
  pub known : AreKnown names rows

-- The terms fit the store of a history, which has the content of the seated store. The terms' tokens have the same rows
-- in both.
pub record IsSeatedStore {S : Type 0} (held : S → Held) (terms : Terms) (found : Store) (store : SeatedRecord S)
    : Type 0 where
  pub fits : do_fit terms found ≡ true
  pub content : found.content ≡ (held store.inner).content
  pub seats : places_of found terms.seats ≡ store.seats

-- ---- Processes

-- the terms of a process that a command serves by names for the tokens of a book
abbrev pub served_terms : List (List ℕ) → NamedCluster → Serving → List Credential → Terms
served_terms names cluster serving book = record {
  config = record { book = book; limits = serving.settings };
  key = tag_key serving.key book;
  seats = tokens_of names (names_of cluster.salt book);
}
