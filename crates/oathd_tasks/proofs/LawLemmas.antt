-- What the cluster files say that break promises, and that a text says one cluster.
use Rattle.std.proofs.Common.{◌≡◌, ℕ, List, [], Result, Ok, Err, refl, sym, ap, ◌∙◌, arith}
use Rattle.std.specs.Net.Reader.{read_ipv4, read_number, read_octet, read_port, read_socket_v4}
use Rattle.hex.specs.Hex.{decode_pairs}
use Rattle.cluster_file.specs.Address.{address_text, is_same}
use Rattle.cluster_file.specs.ClusterFile.{ClusterRecord, cluster_of}
use Rattle.cluster_file.specs.Examples.{small_cluster}
use Rattle.cluster_file.specs.declared.fault.LineFault.{LineFault}
use Rattle.oathd_tasks.specs.Broken.{keyed_cluster, keyed_text, small_text}

pub small_says : cluster_of small_text ≡ Ok small_cluster
unfolding read_socket_v4 read_ipv4 read_port read_octet read_number is_same address_text
small_says = refl

pub keyed_says : cluster_of keyed_text ≡ Ok keyed_cluster
unfolding read_socket_v4 read_ipv4 read_port read_octet read_number is_same address_text decode_pairs
keyed_says = refl

-- the cluster that is read, or `other` if there is a fault
abbrev read_or : ClusterRecord → Result ClusterRecord (ℕ × LineFault) → ClusterRecord
read_or other (Ok cluster) = cluster
read_or other (Err fault) = other

pub says_one : (text : List ℕ) (a b : ClusterRecord) → cluster_of text ≡ Ok a → cluster_of text ≡ Ok b → a ≡ b
says_one text a b first second = ap (read_or a) (sym first ∙ second)

-- the line of a fault, or 0
abbrev line_told : Result ClusterRecord (ℕ × LineFault) → ℕ
line_told (Ok cluster) = 0
line_told (Err fault) = fault.0

-- a text without bytes says none
pub nothing_says : (cluster : ClusterRecord) → cluster_of [] ≡ Ok cluster → ⊥
nothing_says cluster says = let line : 1 ≡ 0 = ap line_told says in omega (arith, line)

-- the fault is at the first line
pub told_first : (line : ℕ) (kind : LineFault) → cluster_of [] ≡ Err (line, kind) → 1 ≡ line
told_first line kind says = ap line_told says
