use Rattle.std.proofs.Common.{subst}
use Rattle.oathd_lines.specs.Secret.{EndsWithText}
use Rattle.oathd_tasks.proofs.FlushLemmas.{flush_kept, text_kept}
use Rattle.oathd_tasks.proofs.commands.print.Goals as goal

pub returns : goal.returns
returns g c =
    let old = g.O.Write.contents c.args.held.now in
    let mid = g.O.Write.contents c.print_secret-end.new.writer in
    let new = g.O.Write.contents c.flushed.new.writer in
    let end = subst (λ hex. EndsWithText hex c.print_secret-end.result old mid) c.as_bytes.ensures.value c.print_secret-end.ensures.ends in
    record {
      ends = flush_kept (λ end out. EndsWithText c.args.hex.now end old out) c.print_secret-end.result c.flushed.result mid new
          end (λ end h k. text_kept c.args.hex.now end old mid new h k)
          c.flushed.ensures.bytes c.flushed.ensures.ok c.flushed.ensures.fault;
    }
