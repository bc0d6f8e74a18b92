use Rattle.std.proofs.Common.{refl}
use Rattle.sealed_wire.specs.Sealed.{sealed_bytes}
use Rattle.sealed_wire.proofs.writing.seal_within.Goals as goal

pub returns : goal.returns
unfolding sealed_bytes
returns g c = rw (c.push_all-2.ensures, c.bound_tag-tag.ensures, c.deref.ensures.0, c.push_all.ensures, c.head_bytes-out.ensures.bytes) refl
