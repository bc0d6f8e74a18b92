-- A run of a command that serves a node alone, for a users file without a token, by names and by place. It finds a
-- store at boot 4. In its one turn a byte comes from a client, and the clock tells no time. The command ends with this
-- fault.
use Rattle.std.specs.Prelude.{ℕ, zero, suc, ◌+◌, true, false, List, [], ◌∷◌, ◌++◌, None, Err, codes, map, refl}
use Rattle.std.proofs.Math.Dec.{lit≤}
use Rattle.sqlite.specs.Effect.{Database}
use Rattle.sqlite.specs.Store.{Ghosts}
use Rattle.otp_core.specs.Limits.{default_limits}
use Rattle.floor_sql.specs.Broken.{small_content}
use Rattle.floor_sql.specs.Held.{SqlHeld}
use Rattle.floor_sql.specs.Schema.{schema_of}
use Rattle.floor_sql.specs.Stored.{version_row}
use Rattle.floor_sql.specs.declared.schema.Format.{Format}
use Rattle.floor_sql.specs.declared.schema.Format.TheVariants.{Named}
use Rattle.roster_sql.specs.Examples.{small_bond, store_of}
use Rattle.roster_sql.specs.Roster.{BondRecord}
use Rattle.seated_store.specs.Seated.{SeatedRecord}
use Rattle.vote_core.specs.Broken.{lone_voter}
use Rattle.vote_wire.specs.Key.{bare}
use Rattle.oath_node.specs.Hosted.{Hosted}
use Rattle.oath_node.specs.Turns.{FromClient}
use Rattle.datagram_port.specs.Port.{PortEvent, Received}
use Rattle.datagram_port.specs.declared.port.Sender.TheVariants.{Client as ToLine}
use Rattle.udp_port.specs.Address.{number_of}
use Rattle.udp_port.specs.Examples.{at_local}
use Rattle.oathd_database.specs.Broken.{conn_of, disk_of, one_item}
use Rattle.oathd_database.specs.declared.fault.Fault.TheVariants.{NoClock}
use Rattle.node_serving.specs.declared.gate.ClientLines.TheVariants.{Anybody}
use Rattle.node_serving.specs.declared.node_key.NodeKey.TheVariants.{Own}
use Rattle.node_serving.specs.declared.serving.Serving.{Serving}
use Rattle.oathd_roster.specs.declared.cluster.NamedCluster.{NamedCluster}
use Rattle.book_law.specs.Lives.{Setting, Terms}
use Rattle.order_law.specs.Examples.{at}
use Rattle.order_law.specs.Interleavings.{Item}
use Rattle.order_law.specs.Steps.{Ends, Hears, Starts, Step}
use Rattle.served_law.specs.Placed.{PlacedRun}
use Rattle.served_law.specs.Runs.{NamedRun, NamedStores}
use Rattle.served_law.specs.Seated.{served_terms}
use Rattle.served_law.specs.Uses.{Keeps, RunsBy, Stores}

-- ---- the node and its database

-- the bond of a cluster of one member
abbrev pub lone_bond : BondRecord
lone_bond = record small_bond { members = 1 }

-- the cluster of one member
abbrev pub lone_cluster : NamedCluster
lone_cluster = record { salt = codes "a-public-word"; bond = lone_bond; is_fresh = false; bound = refl }

-- the tables of its store without a token, at a boot
abbrev pub lone_tables : ℕ → Database
lone_tables boot = store_of (version_row 3 1 0 boot) [] [] [] lone_bond

-- a disk at boot 4 that can be written once, at boot 5
abbrev pub lone_disk : Ghosts ℕ
lone_disk = disk_of true (λ disk. (lone_tables (4 + disk)).trees)

-- its store before the write (0) or after it (1), in tables of a format
abbrev pub store_over : Format → ℕ → SeatedRecord (SqlHeld ℕ)
store_over format disk = record {
  inner = record {
    conn = conn_of (schema_of format) disk;
    mirror = small_content (4 + disk);
    staged = [];
    passes = 0;
    fault = None;
  };
  seats = [];
  is_unusable = false;
}

-- the same by names
abbrev pub lone_store : ℕ → SeatedRecord (SqlHeld ℕ)
lone_store disk = store_over Named disk

-- the only member, which listens at 127.0.0.1 with port 1 and is served for one turn
abbrev pub lone_serving : Serving
lone_serving = record {
  settings = default_limits;
  place = record { me = 1; n = 1 };
  members = one_item (at_local 1);
  key = Own [];
  turns = 1;
  is_logged = false;
  lines = Anybody;
  clients_said = (lit≤ tt, lit≤ tt);
  few = lit≤ tt;
  each = refl;
  settings_agreed = refl;
  members_agreed = refl;
}

-- the node after it opened the store
abbrev pub node_over : Format → Hosted (SeatedRecord (SqlHeld ℕ))
node_over format = record {
  store = store_over format 1;
  book = [];
  limits = default_limits;
  key = bare;
  voter = record lone_voter { boot = 5 };
  owners = [];
  answers = [];
  running = true;
}

-- the same by names
abbrev pub lone_node : Hosted (SeatedRecord (SqlHeld ℕ))
lone_node = node_over Named

-- ---- the run

-- the client at 127.0.0.1 with port 2
abbrev pub lone_client : ℕ
lone_client = number_of (at_local 2)

-- the byte
abbrev pub lone_text : List ℕ
lone_text = 0 ∷ []

-- what each port recorded
abbrev pub lone_events : List PortEvent
lone_events = Received (ToLine lone_client) lone_text ∷ []

-- the run of the command, with an empty users file
abbrev pub lone_run : NamedRun ℕ
lone_run = record {
  cluster = lone_cluster;
  moment = 0;
  serving = lone_serving;
  until = None;
  result = Err NoClock;
  text = [];
  rows = [];
  left = small_content 5;
}

-- the run of the command by place
abbrev pub lone_placed_run : PlacedRun
lone_placed_run = record { serving = lone_serving; result = Err NoClock; text = []; left = small_content 5 }

-- ---- the run in a history

-- a setting of one member whose first store has boot 4, without a token
abbrev pub lone : Setting
lone = record { n = 1; tokens = 0; boots = 4 ∷ []; old = [] }

-- node 1 made the run, and other nodes made none
abbrev pub stores_with : {R : Type 0} → R → ℕ → Stores R
stores_with run zero = Keeps []
stores_with run (suc zero) = Keeps (RunsBy run ∷ [])
stores_with run (suc (suc node)) = Keeps []

-- the same by names
abbrev pub lone_stores : ℕ → NamedStores ℕ
lone_stores = stores_with lone_run

-- the same by place
abbrev pub lone_placed_stores : ℕ → Stores PlacedRun
lone_placed_stores = stores_with lone_placed_run

-- the terms of its process
abbrev pub lone_terms : Terms
lone_terms = served_terms [] lone_cluster lone_serving []

-- the step of its process between the start and the end
abbrev pub lone_body : List Step
lone_body = Hears (FromClient lone_client lone_text None) ∷ []

-- the steps of the run
abbrev pub lone_steps : List Step
lone_steps = Starts lone_terms bare ∷ lone_body ++ Ends [] ∷ []

-- the only order of them
abbrev pub lone_items : List Item
lone_items = map (at 1) lone_steps
