use Rattle.std.proofs.Common.{Ok, Err, refl}
use Rattle.oathd_tasks.specs.Nodes.{setup_value}
use Rattle.oathd_tasks.proofs.LinesLemmas.{lines_flushed}
use Rattle.oathd_tasks.proofs.commands.answer_lines.Goals as goal

pub returns-in-Ok : goal.returns-in-Ok
returns-in-Ok g c = record {
  ends = lines_flushed (setup_value c.args.setup.now) (g.R.Read.remaining c.args.reader.now) c.serve_lines-end.result (Ok c.in-Ok.field-0) _
      (g.O.Write.contents c.args.held.now) (g.O.Write.contents c.serve_lines-end.new.writer) (g.O.Write.contents c.flushed.new.writer) refl
      c.serve_lines-end.ensures.ends c.flushed.ensures.bytes c.in-Ok.ensures.ok c.in-Ok.ensures.fault;
}

pub returns-in-Err : goal.returns-in-Err
returns-in-Err g c = record {
  ends = lines_flushed (setup_value c.args.setup.now) (g.R.Read.remaining c.args.reader.now) c.serve_lines-end.result (Err c.in-Err.fault) _
      (g.O.Write.contents c.args.held.now) (g.O.Write.contents c.serve_lines-end.new.writer) (g.O.Write.contents c.flushed.new.writer) refl
      c.serve_lines-end.ensures.ends c.flushed.ensures.bytes c.in-Err.ensures.ok c.in-Err.ensures.fault;
}
