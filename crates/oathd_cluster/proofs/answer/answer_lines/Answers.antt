use Rattle.std.proofs.Common.{◌≡◌, ℕ, Some, None, IfSome, ap, subst, ◌∙◌}
use Rattle.std.specs.Prelude.{IfErr, Result}
use Rattle.std.specs.Io.KnownBytes.{Appends}
use Rattle.std.proofs.lemmas.Option.{IfSome_then}
use Rattle.program_edge.specs.Line.{line_of}
use Rattle.users_input.specs.Input.{TakesLine, line_text, lines_of}
use Rattle.users_input.specs.declared.fault.InputFault.TheVariants as input
use Rattle.oathd_cluster.specs.Fault.{input_fault_of}
use Rattle.oathd_cluster.specs.Line as value
use Rattle.oathd_cluster.specs.Line.{node_line_of, node_lines}
use Rattle.oathd_cluster.specs.Run.{EndsSo, IsBehindUsers, reply_text}
use Rattle.oathd_cluster.specs.declared.fault.Fault.{Fault}
use Rattle.oathd_cluster.proofs.AnswerLemmas.{answering_next, answering_start, end_by, ends_all, ends_bad, ends_cut, ends_failed, ends_rounds, input_behind, rounds_behind}
use Rattle.oathd_cluster.proofs.answer.answer_lines.Goals as goal

pub loop-number-init : goal.loop-number-init
loop-number-init g c =
    answering_start c.args.nodes c.args.first c.args.input.room (g.B.Read.remaining c.args.input.reader) (g.W.Write.contents c.args.writer.now)

pub returns-in_err-next_line : goal.returns-in_err-next_line
returns-in_err-next_line g c =
    let f = c.in_err-next_line.field-0.0 in
    let old = g.W.Write.contents c.args.writer.now in
    let new = g.W.Write.contents c.loop-number.writer in
    let nodes = c.args.nodes in
    record {
      ends = IfSome_then (g.B.Read.remaining c.args.input.reader) c.loop-number.invariant
          (λ text h. end_by c.from_residual.result (input_fault_of f)
          (λ (r : Result Unit Fault). EndsSo (node_lines nodes c.args.first (lines_of c.args.input.room text)) r old new)
          c.from_residual.ensures.1
          (ends_failed nodes _ c.loop-number.number c.loop-number.input.room (g.B.Read.remaining c.loop-number.input.reader) old new h f));
      behind = end_by c.from_residual.result (input_fault_of f) (λ (r : Result Unit Fault). IfErr r IsBehindUsers) c.from_residual.ensures.1 (input_behind f);
    }

pub returns-in-End : goal.returns-in-End
returns-in-End g c =
    let a = g.B.Read.remaining c.loop-number.input.reader in
    let b = g.B.Read.remaining c.next_line.new.self.reader in
    let line = c.next_line.new.line.items in
    let takes = subst (λ n. IfSome a (λ text. TakesLine n line c.loop-number.input.room text c.next_line.new.self.room b)) c.in-End.is c.in_ok-next_line.ensures.taken in
    record {
      ends = IfSome_then (g.B.Read.remaining c.args.input.reader) c.loop-number.invariant
          (λ text h. ends_all c.args.nodes _ c.loop-number.number c.loop-number.input.room a (g.W.Write.contents c.args.writer.now)
          (g.W.Write.contents c.loop-number.writer) h line c.next_line.new.self.room b takes);
      behind = tt;
    }

pub returns-in-Cut : goal.returns-in-Cut
returns-in-Cut g c =
    let a = g.B.Read.remaining c.loop-number.input.reader in
    let b = g.B.Read.remaining c.next_line.new.self.reader in
    let line = c.next_line.new.line.items in
    let takes = subst (λ n. IfSome a (λ text. TakesLine n line c.loop-number.input.room text c.next_line.new.self.room b)) c.in-Cut.is c.in_ok-next_line.ensures.taken in
    record {
      ends = IfSome_then (g.B.Read.remaining c.args.input.reader) c.loop-number.invariant
          (λ text h. ends_cut c.args.nodes _ c.loop-number.number c.loop-number.input.room a (g.W.Write.contents c.args.writer.now)
          (g.W.Write.contents c.loop-number.writer) h line c.next_line.new.self.room b takes);
      behind = tt;
    }

pub returns-in-None : goal.returns-in-None
returns-in-None g c =
    let a = g.B.Read.remaining c.loop-number.input.reader in
    let b = g.B.Read.remaining c.next_line.new.self.reader in
    let line = c.next_line.new.line.items in
    let takes = subst (λ n. IfSome a (λ text. TakesLine n line c.loop-number.input.room text c.next_line.new.self.room b)) c.in-Whole.is c.in_ok-next_line.ensures.taken in
    let is : None ≡ node_line_of c.args.nodes (line_text line) =
    c.in-None.ensures.line ∙ ap (node_line_of c.args.nodes) (c.text_of.ensures ∙ ap line_text c.deref.ensures.value) in
    record {
      ends = IfSome_then (g.B.Read.remaining c.args.input.reader) c.loop-number.invariant
          (λ text h. ends_bad c.args.nodes _ c.loop-number.number c.loop-number.input.room a (g.W.Write.contents c.args.writer.now)
          (g.W.Write.contents c.loop-number.writer) h line c.next_line.new.self.room b takes is);
      behind = tt;
    }

pub returns-in_err-len-in-Some : goal.returns-in_err-len-in-Some
returns-in_err-len-in-Some g c =
    let f = c.in_err-len-in-Some.field-0.0 in
    let old = g.W.Write.contents c.args.writer.now in
    let new = g.W.Write.contents c.loop-number.writer in
    let nodes = c.args.nodes in
    record {
      ends = IfSome_then (g.B.Read.remaining c.args.input.reader) c.loop-number.invariant
          (λ text h. end_by c.from_residual-in_err-len-in-Some.result f
          (λ (r : Result Unit Fault). EndsSo (node_lines nodes c.args.first (lines_of c.args.input.room text)) r old new)
          c.from_residual-in_err-len-in-Some.ensures.1
          (ends_rounds nodes _ c.loop-number.number c.loop-number.input.room (g.B.Read.remaining c.loop-number.input.reader) old new h f
          c.in_err-len-in-Some.ensures.fault));
      behind = end_by c.from_residual-in_err-len-in-Some.result f (λ (r : Result Unit Fault). IfErr r IsBehindUsers)
          c.from_residual-in_err-len-in-Some.ensures.1 (rounds_behind f c.in_err-len-in-Some.ensures.fault);
    }

pub loop-number-preserved : goal.loop-number-preserved
loop-number-preserved g c =
    let a = g.B.Read.remaining c.loop-number.input.reader in
    let b = g.B.Read.remaining c.next_line.new.self.reader in
    let line = c.next_line.new.line.items in
    let mid = g.W.Write.contents c.loop-number.writer in
    let new = g.W.Write.contents c.write_reply.new.writer in
    let takes = subst (λ n. IfSome a (λ text. TakesLine n line c.loop-number.input.room text c.next_line.new.self.room b)) c.in-Whole.is c.in_ok-next_line.ensures.taken in
    let is : Some c.in-Some.line ≡ node_line_of c.args.nodes (line_text line) =
    c.in-Some.ensures.line ∙ ap (node_line_of c.args.nodes) (c.text_of.ensures ∙ ap line_text c.deref.ensures.value) in
    let reply = c.match-branch-4.reply.now in
    let same : c.line.inside.node ≡ c.in-Some.line.node = ap (λ (l : value.NodeLine). l.node) c.line.view_is in
    let written = subst (λ (n : ℕ). Appends mid new (line_of (reply_text (record { node = n; text = reply })))) same c.in_ok-write_reply-in-Some.ensures.written in
    IfSome_then (g.B.Read.remaining c.args.input.reader) c.loop-number.invariant
    (λ text h. answering_next c.args.nodes _ c.loop-number.number c.loop-number.input.room a (g.W.Write.contents c.args.writer.now)
    mid h line c.next_line.new.self.room b takes c.in-Some.line is reply new written)

pub returns : goal.returns
returns g c = record {
  ends = IfSome_then (g.B.Read.remaining c.args.input.reader) c.loop-number.invariant
      (λ text h. ends_failed c.args.nodes _ c.loop-number.number c.loop-number.input.room (g.B.Read.remaining c.loop-number.input.reader)
      (g.W.Write.contents c.args.writer.now) (g.W.Write.contents c.loop-number.writer) h input.Memory);
  behind = tt;
}
