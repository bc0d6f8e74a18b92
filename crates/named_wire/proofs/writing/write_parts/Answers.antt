use Rattle.std.proofs.Common.{append_assoc}
use Rattle.named_wire.specs.Datagram.{datagram_bytes}
use Rattle.named_wire.proofs.writing.write_parts.Goals as goal

pub returns : goal.returns
unfolding datagram_bytes
returns g c =
    rw (c.push_all-4.ensures, c.tag-tag.ensures, c.deref.ensures.0, c.push_all-3.ensures, c.push_all-2.ensures, c.push_all.ensures, c.head_text-out.ensures.bytes) (simp append_assoc)
