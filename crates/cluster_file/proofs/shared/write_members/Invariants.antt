use Rattle.std.proofs.Common.{◌≡◌, ◌+◌, map, take}
use Rattle.std.specs.Io.KnownBytes.{Appends}
use Rattle.cluster_file.specs.Address.{address_value}
use Rattle.cluster_file.specs.Shared.{members_text}
use Rattle.cluster_file.proofs.shared.write_members.Given as goal

-- the members so far are written
abbrev pub invariant-loop-member : goal.invariant-loop-member
invariant-loop-member g l = record {
  next : l.number ≡ l.member-index + 1;
  written : Appends (g.W.Write.contents l.fn.writer) (g.W.Write.contents l.writer)
      (members_text 1 (map address_value (take l.member-index l.members)));
}
