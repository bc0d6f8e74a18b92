use Rattle.std.proofs.Common.{◌+◌, ◌∙◌, sym, subst, arith}
use Rattle.kept_rows.proofs.RowLemmas.{IsWritten, all_written, bytes_of, kept_written, left_written, none_written, past}
use Rattle.kept_rows.proofs.left.write_lines.Goals as goal
use Rattle.kept_rows.proofs.left.write_lines.Goals.{then-is_at, else-is_at+in_ok-write_row}

pub loop-line-init : goal.loop-line-init
loop-line-init g c = record {
  next = omega arith;
  few = omega arith;
  written = none_written (g.W.Write.contents c.args.writer.now) (bytes_of c.args.kept.now) (bytes_of c.args.lines.now);
}

pub loop-line-preserved : goal.loop-line-preserved
loop-line-preserved g c =
    let old = g.W.Write.contents c.args.writer.now in
    let was = c.loop-line.invariant in
    let lines = c.args.lines.now in
    let kept = bytes_of c.args.kept.now in
    let place = c.loop-line.place in
    let number = c.loop-line.number in
    let index = c.loop-line.line-index in
    elim c.if-is_at.branch [
      | then-is_at w ↦ record {
        next = omega (arith, was.next);
        few = omega (arith, was.few, w.place-is);
        written =
            subst (λ p. IsWritten old (g.W.Write.contents c.if-is_at.writer) (bytes_of lines) kept p (number + 1) (bytes_of lines) (index + 1)) (sym w.place-is)
            (subst (λ x. IsWritten old (g.W.Write.contents x) (bytes_of lines) kept (place + 1) (number + 1) (bytes_of lines) (index + 1)) (sym w.writer-is)
            (kept_written old kept place number lines index _ c.loop-line-test.true (g.W.Write.contents c.loop-line.writer)
            (sym c.is_at.ensures ∙ w.if-is_at.true) was.written));
      }
      | else-is_at+in_ok-write_row w ↦ record {
        next = omega (arith, was.next);
        few = omega (arith, was.few, w.place-is);
        written =
            subst (λ p. IsWritten old (g.W.Write.contents c.if-is_at.writer) (bytes_of lines) kept p (number + 1) (bytes_of lines) (index + 1)) (sym w.place-is)
            (subst (λ x. IsWritten old (g.W.Write.contents x) (bytes_of lines) kept place (number + 1) (bytes_of lines) (index + 1)) (sym w.writer-is)
            (left_written old kept place number lines index _ c.loop-line-test.true (g.W.Write.contents c.loop-line.writer) (g.W.Write.contents w.write_row.new.writer)
            (sym c.is_at.ensures ∙ w.if-is_at.false) w.in_ok-write_row.ensures was.written));
      }
    ]

pub returns : goal.returns
returns g c =
    all_written (g.W.Write.contents c.args.writer.now) (g.W.Write.contents c.loop-line.writer) (bytes_of c.args.kept.now) (bytes_of c.args.lines.now)
    c.loop-line.place c.loop-line.number c.loop-line.line-index (past c.args.lines.now c.loop-line.line-index c.loop-line-test.false)
    c.loop-line.invariant.written
