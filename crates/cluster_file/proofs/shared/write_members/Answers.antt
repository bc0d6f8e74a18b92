use Rattle.std.proofs.Common.{arith}
use Rattle.cluster_file.proofs.WritingLemmas.{append_member_at}
use Rattle.cluster_file.proofs.shared.write_members.Goals as goal

pub loop-member-preserved : goal.loop-member-preserved
loop-member-preserved g c = record {
  next = omega arith;
  written = append_member_at c.args.members.now c.loop-member.member-index _ (g.W.Write.contents c.args.writer.now)
      (g.W.Write.contents c.loop-member.writer) (g.W.Write.contents c.write_member.new.writer) c.loop-member.number (omega arith)
      c.loop-member.invariant.next c.loop-member.invariant.written c.in_ok-write_member.ensures;
}
