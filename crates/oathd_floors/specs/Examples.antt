-- Examples: a cluster, its floors files, and small stores. No contract cites them.
use Rattle.std.specs.Prelude.{ℕ, refl, false, Bool, List, [], ◌∷◌, Option, None, Some, codes}
use Rattle.std.specs.Borrow.{Bor}
use Rattle.std.specs.Global.{Vec}
use Rattle.sqlite.specs.Effect.{Database}
use Rattle.sqlite.specs.Held.{Held as Conn}
use Rattle.sqlite.specs.Store.{Ghosts}
use Rattle.floor_sql.specs.Broken.{small_content}
use Rattle.floor_sql.specs.Held.{SqlHeld}
use Rattle.floor_sql.specs.Schema.{schema_of}
use Rattle.floor_sql.specs.Stored.{version_row}
use Rattle.floor_sql.specs.declared.schema.Format.TheVariants.{Named}
use Rattle.floor_store.specs.Content.{Content}
use Rattle.floors_file.specs.Named.{NamedFloorsRecord, NamedHeadRecord}
use Rattle.floors_file.specs.NamedWriting.{named_floors_text}
use Rattle.floors_file.specs.declared.fault.FloorsFault.{FloorsFault}
use Rattle.floors_file.specs.declared.fault.LineFault.{LineFault}
use Rattle.floors_file.specs.declared.named.NamedFloor.{NamedFloor}
use Rattle.roster_sql.specs.Examples.{entry_of, first_content, one_token, small_bond, store_of}
use Rattle.roster_sql.specs.declared.entry.Entry.{Entry}
use Rattle.seated_store.specs.Seated.{SeatedRecord}
use Rattle.oathd_database.specs.Broken.{conn_of, shows_any, still}
use Rattle.oathd_database.specs.Lost.{boot_at}
use Rattle.oathd_roster.specs.declared.cluster.NamedCluster.{NamedCluster}
use Rattle.oathd_floors.specs.Files.{TakingRecord}
use Rattle.oathd_floors.specs.Told.{told_file}
use Rattle.oathd_floors.specs.Remade.{HasRemade, HasRemadeStore, IsNotRemade}
use Rattle.oathd_floors.specs.declared.fault.NamedFloorsFault.{NamedFloorsFault}
use Rattle.oathd_floors.specs.declared.remaking.Former.{Former}
use Rattle.otp_core.specs.Limits.{default_limits}
use Rattle.vote_core.specs.NodeSet.{PlaceRecord}

-- ---- floors files

-- the files of the cluster at the moment 10, and also those of its former lives
abbrev pub taking_at : Bool → TakingRecord
taking_at is_anew = record { key = codes "key"; own = small_bond; is_anew = is_anew; now = 10 }

-- the head of a file of node 2 that was read at a moment
abbrev pub head_of : List ℕ → List ℕ → ℕ → ℕ → NamedHeadRecord
head_of names life members moment =
    record { node = 2; members = members; boot = 5; moment = moment; names = names; life = life }

-- the same of the cluster
abbrev pub own_head : ℕ → NamedHeadRecord
own_head moment = head_of (codes "a-public-word") (codes "1") 3 moment

-- heads at the moment 9: of the cluster, of other names, of another life, and of five members
abbrev pub heads : List NamedHeadRecord
heads = own_head 9 ∷ head_of (codes "another-word") (codes "1") 3 9 ∷ head_of (codes "a-public-word") (codes "2") 3 9
    ∷ head_of (codes "a-public-word") (codes "1") 5 9 ∷ []

-- a file of the cluster at the moment 9, with the given rows
abbrev pub file_with : List NamedFloor → NamedFloorsRecord
file_with rows = record { head = own_head 9; rows = rows; heard = [] }

-- the file of the only node of a former life, without a row
abbrev pub alone : NamedFloorsRecord
alone = record { head = record (own_head 9) { node = 1; members = 1 }; rows = []; heard = [] }

-- the same with the given rows
abbrev pub alone_with : List NamedFloor → NamedFloorsRecord
alone_with rows = record alone { rows = rows }

-- a fault at a line
abbrev pub at_line : ℕ → LineFault → FloorsFault
at_line line kind = record { line = line; kind = kind }

-- the texts of former stores, read after `since`, for a store that is made at the moment 10
abbrev pub former_of : ℕ → Option (Bor (List ℕ)) → List (Vec ℕ) → Former
former_of since lost texts = record {
  lost = lost;
  since = since;
  now = 10;
  texts = record { ref_ptr = (0, 0); now = texts };
}

-- ---- a cluster and its stores

-- a cluster of three members
abbrev pub small_cluster : NamedCluster
small_cluster = record { salt = codes "a-public-word"; bond = small_bond; is_fresh = false; bound = refl }

-- a connection to tables of version 3
abbrev pub named_conn : Conn ℕ
named_conn = conn_of (schema_of Named) 0

-- a disk that always shows the store of node 1 with one token
abbrev pub one_named : Ghosts ℕ
one_named = still one_token.trees

-- this store, with the given content
abbrev pub named_store : Content → SqlHeld ℕ
named_store content = record { conn = named_conn; mirror = content; staged = []; passes = 0; fault = None }

-- the entry of its token
abbrev pub one_entry : List Entry
one_entry = entry_of 1 2 ∷ []

-- its floors file at the moment 100, as a file of `node`
abbrev pub told_text : List ℕ → ℕ → List ℕ
told_text key node = named_floors_text key (told_file node 100 small_bond one_entry first_content)

-- the tables of node 1 without a token, of version 3, at the boot of the moment 10
abbrev pub no_tokens : Database
no_tokens = store_of (version_row 3 1 0 (boot_at 10)) [] [] [] small_bond

-- a disk that always shows them
abbrev pub none_named : Ghosts ℕ
none_named = still no_tokens.trees

-- this store, seen by no token
abbrev pub none_seen : SeatedRecord (SqlHeld ℕ)
none_seen = record { inner = named_store (small_content (boot_at 10)); seats = []; is_unusable = false }

-- ---- replacement stores

-- the place of a member of three
abbrev pub member : ℕ → PlaceRecord
member me = record { me = me; n = 3 }

module _ (g : Ghosts ℕ) where
  -- this store is made again as that of the member `me`, and the line is written
  abbrev pub IsRemadeOf : ℕ → Former → List ℕ → List ℕ → Type 0
  IsRemadeOf me former line users =
      HasRemade g shows_any small_cluster (codes "key") default_limits 0 11 (member me) former none_seen (Some [])
      (Some line) users

  -- the store of the member `me` is made again
  abbrev pub IsKeptOf : ℕ → Former → List ℕ → Type 0
  IsKeptOf me former users =
      HasRemadeStore g shows_any small_cluster (codes "key") default_limits 0 11 (member me) former users

  -- the store of node 1 is not made again from the texts
  abbrev pub IsNotRemadeOf : List (Vec ℕ) → NamedFloorsFault → List ℕ → Type 0
  IsNotRemadeOf texts fault users =
      IsNotRemade g shows_any small_cluster (codes "key") default_limits 0 11 (member 1) (former_of 8 None texts) fault
      users
