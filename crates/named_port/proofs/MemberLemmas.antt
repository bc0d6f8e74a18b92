-- The sender of a datagram is a member.
use Rattle.std.proofs.Common.{◌≡◌, ℕ, ◌<◌, eqb, leb, List, Some, arith}
use Rattle.std.specs.Prelude.{◌&&◌, not}
use Rattle.std.proofs.lemmas.Bool.{and_parts, leb-true}
use Rattle.named_wire.specs.Datagram.{datagram_at, front_of}
use Rattle.named_wire.specs.declared.head.Head.{Head}
use Rattle.named_wire.proofs.HeadLemmas.{head_takes}
use Rattle.named_wire.proofs.TagLemmas.{takes}

-- a sender is a member from 1 to 9
pub from_below : (key bytes : List ℕ) (head : Head) (body : List ℕ) → datagram_at key bytes ≡ Some (head, body) → head.from < 10
from_below key bytes head body e =
    let o = takes key bytes head body e in
    let h = head_takes (front_of bytes) head o.head_is in
    let a = and_parts (leb 1 head.from) (leb head.from 9 && (leb 1 head.to && (leb head.to 9 && not (eqb head.from head.to)))) h.ends in
    let b = and_parts (leb head.from 9) (leb 1 head.to && (leb head.to 9 && not (eqb head.from head.to))) a.1 in
    let c = leb-true head.from 9 b.0 in
    omega (arith, c)
