-- A small disk, and a node that is served for no turn. No contract cites them.
use Rattle.std.specs.Prelude.{ℕ, ◌+◌, refl, true, false, []}
use Rattle.std.specs.declared.net.socket_addr.SocketAddrV4.{SocketAddrV4}
use Rattle.std.proofs.Math.Dec.{lit≤}
use Rattle.sqlite.specs.Store.{Ghosts}
use Rattle.otp_core.specs.Limits.{default_limits}
use Rattle.floor_sql.specs.Broken.{tables_at}
use Rattle.oath_node.specs.declared.turns.Served.{Served}
use Rattle.oathd_database.specs.Broken.{disk_of, one_item}
use Rattle.node_serving.specs.declared.gate.ClientLines.TheVariants.{Anybody}
use Rattle.node_serving.specs.declared.node_key.NodeKey.TheVariants.{Own}
use Rattle.node_serving.specs.declared.serving.Serving.{Serving}

-- a disk at boot 4 that can be written once, at boot 5
abbrev pub booting : Ghosts ℕ
booting = disk_of true (λ disk. tables_at (4 + disk) [])

-- a number of datagrams and of replies
abbrev pub so_much : ℕ → ℕ → Served
so_much received replied = record { received = received; replied = replied }

-- the only node at an address, served for no turn
abbrev pub serving_for : SocketAddrV4 → Serving
serving_for address = record {
  settings = default_limits;
  place = record { me = 1; n = 1 };
  members = one_item address;
  key = Own [];
  turns = 0;
  is_logged = false;
  lines = Anybody;
  clients_said = (lit≤ tt, lit≤ tt);
  few = lit≤ tt;
  each = refl;
  settings_agreed = refl;
  members_agreed = refl;
}
