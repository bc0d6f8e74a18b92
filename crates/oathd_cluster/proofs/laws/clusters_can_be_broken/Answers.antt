-- What is printed begins with the digit of the first node, and a reply has two bytes at least.
use Rattle.std.proofs.Common.{◌≡◌, ℕ, zero, suc, ◌+◌, List, [], ◌∷◌, map, take, refl, arith}
use Rattle.std.specs.Prelude.{codes}
use Rattle.oathd_cluster.specs.Broken.{one_line, two_lines}
use Rattle.oathd_cluster.specs.Line.{NodeLine}
use Rattle.oathd_cluster.specs.Run.{Reply, printed}
use Rattle.oathd_cluster.proofs.laws.clusters_can_be_broken.Goals as goal

-- the nodes of replies
abbrev nodes_of : List Reply → List ℕ
nodes_of replies = map (λ (reply : Reply). reply.node) replies

-- the first byte is the digit of the first node
first_byte : (replies : List Reply) (node : ℕ) (nodes : List ℕ) (first : ℕ) (rest : List ℕ) → nodes_of replies ≡ node ∷ nodes
    → first ∷ rest ≡ printed replies → first ≡ 48 + node
first_byte [] node nodes first rest e p = absurd cc
first_byte (reply ∷ replies) node nodes first rest e p =
    let same : reply.node ≡ node = cc in
    let byte : first ≡ 48 + reply.node = cc in
    omega (arith, same, byte)

-- replies of a node print at least one byte
has_byte : (replies : List Reply) (node : ℕ) (nodes : List ℕ) → nodes_of replies ≡ node ∷ nodes → [] ≡ printed replies → ⊥
has_byte [] node nodes e p = absurd cc
has_byte (reply ∷ replies) node nodes e p = absurd cc

-- replies of no node print nothing
has_none : (replies : List Reply) (first : ℕ) (rest : List ℕ) → nodes_of replies ≡ [] → first ∷ rest ≡ printed replies → ⊥
has_none [] first rest e p = absurd cc
has_none (reply ∷ replies) first rest e p = absurd cc

-- one byte alone is no reply
one_byte : (replies : List Reply) (first : ℕ) → first ∷ [] ≡ printed replies → ⊥
one_byte [] first p = absurd cc
one_byte (reply ∷ replies) first p = absurd cc

pub returns-clause-replies : goal.returns-clause-replies
returns-clause-replies c = record { replies = record { node = 2; text = codes "-" } ∷ []; each = refl; written = refl }

pub returns-clause-replies_missing : goal.returns-clause-replies_missing
returns-clause-replies_missing c h = has_byte h.replies 2 [] h.each h.written

pub returns-clause-replies_of_another_node : goal.returns-clause-replies_of_another_node
returns-clause-replies_of_another_node c h =
    let e : 49 ≡ 50 = first_byte h.replies 2 [] 49 (codes " -\n") h.each h.written in omega (arith, e)

pub returns-clause-replies_out_of_order : goal.returns-clause-replies_out_of_order
returns-clause-replies_out_of_order c h =
    let e : 49 ≡ 50 = first_byte h.replies 2 (1 ∷ []) 49 (codes " -\n2 -\n") h.each h.written in omega (arith, e)

pub returns-clause-replies_to_no_line : goal.returns-clause-replies_to_no_line
returns-clause-replies_to_no_line c h = has_none h.replies 50 (codes " -\n") h.each h.written

pub returns-clause-first_of_none : goal.returns-clause-first_of_none
returns-clause-first_of_none c = record { count = 0; writes = record { replies = []; each = refl; written = refl } }

pub returns-clause-first_of_two : goal.returns-clause-first_of_two
returns-clause-first_of_two c = record {
  count = 1;
  writes = record { replies = record { node = 2; text = codes "-" } ∷ []; each = refl; written = refl };
}

pub returns-clause-first_in_part : goal.returns-clause-first_in_part
returns-clause-first_in_part c h = one_byte h.writes.replies 50 h.writes.written

-- the first reply is for the first line
not_the_second : (count : ℕ) (replies : List Reply)
    → nodes_of replies ≡ map (λ (line : NodeLine). line.node) (take count two_lines) → codes "1 -\n" ≡ printed replies → ⊥
not_the_second zero replies e p = has_none replies 49 (codes " -\n") e p
not_the_second (suc count) replies e p =
    let byte : 49 ≡ 50 = first_byte replies 2 _ 49 (codes " -\n") e p in omega (arith, byte)

pub returns-clause-first_is_the_second : goal.returns-clause-first_is_the_second
returns-clause-first_is_the_second c h = not_the_second h.count h.writes.replies h.writes.each h.writes.written

pub returns-clause-ends : goal.returns-clause-ends
returns-clause-ends c = (refl, record { replies = []; each = refl; written = refl })

pub returns-clause-ends_without_a_reply : goal.returns-clause-ends_without_a_reply
returns-clause-ends_without_a_reply c h = has_byte h.1.replies 2 [] h.1.each h.1.written

pub returns-clause-bad_line : goal.returns-clause-bad_line
returns-clause-bad_line c = (refl, record { replies = []; each = refl; written = refl })

pub returns-clause-bad_line_without_a_reply : goal.returns-clause-bad_line_without_a_reply
returns-clause-bad_line_without_a_reply c h = has_byte h.1.replies 2 [] h.1.each h.1.written

pub returns-clause-memory : goal.returns-clause-memory
returns-clause-memory c = record { count = 0; writes = record { replies = []; each = refl; written = refl } }

pub returns-clause-memory_in_a_line : goal.returns-clause-memory_in_a_line
returns-clause-memory_in_a_line c h = one_byte h.writes.replies 50 h.writes.written

pub returns-clause-read_in_a_line : goal.returns-clause-read_in_a_line
returns-clause-read_in_a_line c h = one_byte h.writes.replies 50 h.writes.written

pub returns-clause-socket_in_a_line : goal.returns-clause-socket_in_a_line
returns-clause-socket_in_a_line c h = one_byte h.writes.replies 50 h.writes.written

pub returns-clause-node_in_a_line : goal.returns-clause-node_in_a_line
returns-clause-node_in_a_line c h = one_byte h.writes.replies 50 h.writes.written

-- one reply or none to a line for node 2 is none of node 1
not_node_1 : (count : ℕ) (replies : List Reply)
    → nodes_of replies ≡ map (λ (line : NodeLine). line.node) (take count one_line) → codes "1 -\n" ≡ printed replies → ⊥
not_node_1 zero replies e p = has_none replies 49 (codes " -\n") e p
not_node_1 (suc count) replies e p =
    let byte : 49 ≡ 50 = first_byte replies 2 _ 49 (codes " -\n") e p in omega (arith, byte)

pub returns-clause-memory_at_another_node : goal.returns-clause-memory_at_another_node
returns-clause-memory_at_another_node c h = not_node_1 h.count h.writes.replies h.writes.each h.writes.written

pub returns-clause-read_at_another_node : goal.returns-clause-read_at_another_node
returns-clause-read_at_another_node c h = not_node_1 h.count h.writes.replies h.writes.each h.writes.written

pub returns-clause-socket_at_another_node : goal.returns-clause-socket_at_another_node
returns-clause-socket_at_another_node c h = not_node_1 h.count h.writes.replies h.writes.each h.writes.written

pub returns-clause-node_at_another_node : goal.returns-clause-node_at_another_node
returns-clause-node_at_another_node c h = not_node_1 h.count h.writes.replies h.writes.each h.writes.written
