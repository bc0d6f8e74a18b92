-- The log of a served node.
use Rattle.std.specs.Prelude.{ℕ, ◌+◌, List, [], ◌++◌, length, Option, Some, None}
use Rattle.std.specs.declared.net.socket_addr.SocketAddrV4.{SocketAddrV4}
use Rattle.cluster_file.specs.Key.{fingerprint_of}
use Rattle.node_log.specs.Text.{roster_line, start_line}
use Rattle.node_log.specs.declared.text.Roster.{Roster}
use Rattle.node_log.specs.declared.text.Start.{Start}
use Rattle.token_file.specs.Credential.{Credential}
use Rattle.udp_port.specs.Address.{number_of}
use Rattle.vote_core.specs.NodeSet.{PlaceRecord}
use Rattle.node_serving.specs.declared.serve.ServeLog.{ServeLog}

-- the content of the first line: a node is opened in the boot after that of its store
abbrev pub start_at : PlaceRecord → SocketAddrV4 → ℕ → List Credential → List ℕ → Start
start_at place address boot book key = record {
  node = place.me;
  members = place.n;
  address = number_of address;
  boot = boot + 1;
  tokens = length book;
  fingerprint = fingerprint_of key;
}

-- the line of a store's rows, if there is one
abbrev pub roster_text : Option Roster → List ℕ
roster_text None = []
roster_text (Some roster) = roster_line roster

-- the first lines of a log
abbrev pub first_lines : ServeLog → List ℕ
first_lines log = start_line log.start ++ roster_text log.roster
