use Rattle.std.proofs.Common.{◌≡◌, ◌≤◌, ◌<◌, ◌^◌, ◌+◌, arith, ℕ, List, Some, None, IfSome, ap, subst, ◌∙◌}
use Rattle.std.specs.Prelude.{IfErr, Result}
use Rattle.std.specs.Io.KnownBytes.{Appends}
use Rattle.std.proofs.lemmas.Option.{IfSome_then}
use Rattle.program_edge.specs.Line.{line_of}
use Rattle.oathd_lines.specs.Client.{client_line_of, client_lines}
use Rattle.users_input.specs.Input.{HasRoom, TakesLine, line_text, lines_of}
use Rattle.oathd_lines.specs.Run.{EndsSo, IsBehindUsers, run_of_server}
use Rattle.oathd_lines.specs.declared.fault.Fault.{Fault}
use Rattle.users_input.specs.declared.fault.InputFault.TheVariants as input
use Rattle.oath_node.specs.ReferenceServer.{Server, service_of}
use Rattle.oath_node.specs.Serving.{IsServerAfter, IsServing}
use Rattle.users_input.specs.declared.input.NextLine.TheVariants.{Whole}
use Rattle.oathd_lines.proofs.ServeLemmas.{HasAnsweredFew, IsAnsweredSo, answering_next, answering_start, ends_all, ends_bad, ends_cut, ends_failed, handed_on, input_behind}
use Rattle.oathd_lines.proofs.lines.answer_lines.Goals as goal

pub returns-in_err-next_line-clause-ends : goal.returns-in_err-next_line-clause-ends
returns-in_err-next_line-clause-ends g c = λ book limits s serving.
    let f = c.in_err-next_line.field-0.0 in
    let old = g.W.Write.contents c.args.writer.now in
    let new = g.W.Write.contents c.loop-number.writer in
    IfSome_then (g.B.Read.remaining c.args.input.reader) (c.loop-number.invariant.1 book limits s serving)
    (λ text h. handed_on c.from_residual.result f
    (λ (r : Result Unit Fault). EndsSo (run_of_server book limits s (client_lines c.args.first (lines_of c.args.input.room text))) r old new) c.from_residual.ensures.1
    (ends_failed book limits _ _ c.loop-number.server c.loop-number.number c.loop-number.input.room (g.B.Read.remaining c.loop-number.input.reader) old new h f))

pub returns-in-End-clause-ends : goal.returns-in-End-clause-ends
returns-in-End-clause-ends g c = λ book limits s serving.
    let a = g.B.Read.remaining c.loop-number.input.reader in
    let b = g.B.Read.remaining c.next_line.new.self.reader in
    let line = c.next_line.new.line.items in
    let takes = subst (λ n. IfSome a (λ text. TakesLine n line c.loop-number.input.room text c.next_line.new.self.room b)) c.in-End.is c.in_ok-next_line.ensures.taken in
    IfSome_then (g.B.Read.remaining c.args.input.reader) (c.loop-number.invariant.1 book limits s serving)
    (λ text h. ends_all book limits _ _ c.loop-number.server c.loop-number.number c.loop-number.input.room a (g.W.Write.contents c.args.writer.now)
    (g.W.Write.contents c.loop-number.writer) h line c.next_line.new.self.room b takes)

pub returns-in-Cut-clause-ends : goal.returns-in-Cut-clause-ends
returns-in-Cut-clause-ends g c = λ book limits s serving.
    let a = g.B.Read.remaining c.loop-number.input.reader in
    let b = g.B.Read.remaining c.next_line.new.self.reader in
    let line = c.next_line.new.line.items in
    let takes = subst (λ n. IfSome a (λ text. TakesLine n line c.loop-number.input.room text c.next_line.new.self.room b)) c.in-Cut.is c.in_ok-next_line.ensures.taken in
    IfSome_then (g.B.Read.remaining c.args.input.reader) (c.loop-number.invariant.1 book limits s serving)
    (λ text h. ends_cut book limits _ _ c.loop-number.server c.loop-number.number c.loop-number.input.room a (g.W.Write.contents c.args.writer.now)
    (g.W.Write.contents c.loop-number.writer) h line c.next_line.new.self.room b takes)

pub returns-in-None-clause-ends : goal.returns-in-None-clause-ends
returns-in-None-clause-ends g c = λ book limits s serving.
    let a = g.B.Read.remaining c.loop-number.input.reader in
    let b = g.B.Read.remaining c.next_line.new.self.reader in
    let line = c.next_line.new.line.items in
    let takes = subst (λ n. IfSome a (λ text. TakesLine n line c.loop-number.input.room text c.next_line.new.self.room b)) c.in-Whole.is c.in_ok-next_line.ensures.taken in
    let is : None ≡ client_line_of (line_text line) = c.in-None.ensures ∙ ap client_line_of (c.text_of.ensures ∙ ap line_text c.deref.ensures.value) in
    IfSome_then (g.B.Read.remaining c.args.input.reader) (c.loop-number.invariant.1 book limits s serving)
    (λ text h. ends_bad book limits _ _ c.loop-number.server c.loop-number.number c.loop-number.input.room a (g.W.Write.contents c.args.writer.now)
    (g.W.Write.contents c.loop-number.writer) h line c.next_line.new.self.room b takes is)

pub unreachable-requires : goal.unreachable-requires
unreachable-requires g c =
    let few = c.loop-number.invariant.0 in
    let at = few.server in
    let refused : 2 ^ 62 ≤ few.count = (c.in-Err.ensures at.book at.limits few.count at.server at.serving).refused in
    let room : c.args.input.room < 2 ^ 62 = omega (arith, c.room-room.ensures.value, c.room-room.ensures.range) in
    omega (arith, refused, few.few, room)

pub loop-number-init : goal.loop-number-init
loop-number-init g c =
    let few : HasAnsweredFew c.args.server.now c.args.input.room c.args.input.room = record { count = 0; server = c.requires; few = omega arith } in (
      few,
      λ book limits s serving.
          answering_start book limits s c.args.server.now c.args.first c.args.input.room (g.B.Read.remaining c.args.input.reader) (g.W.Write.contents c.args.writer.now) serving,
    )

pub loop-number-preserved : goal.loop-number-preserved
loop-number-preserved g c =
    let few = c.loop-number.invariant.0 in
    let at = few.server in
    let here = c.in-Ok.ensures at.book at.limits few.count at.server at.serving in
    let room : HasRoom Whole c.loop-number.input.room c.next_line.new.self.room =
    subst (λ n. HasRoom n c.loop-number.input.room c.next_line.new.self.room) c.in-Whole.is c.in_ok-next_line.ensures.room in
    let after : IsServerAfter c.answer.new.self (few.count + 1) =
    record { book = at.book; limits = at.limits; server = (service_of at.book at.limits at.server c.in-Some.line).server; serving = here.serving } in (
      record { count = few.count + 1; server = after; few = omega (arith, few.few, room) },
      λ book limits s serving.
          let a = g.B.Read.remaining c.loop-number.input.reader in
          let b = g.B.Read.remaining c.next_line.new.self.reader in
          let line = c.next_line.new.line.items in
          let mid = g.W.Write.contents c.loop-number.writer in
          let new = g.W.Write.contents c.write_answer.new.writer in
          let takes = subst (λ n. IfSome a (λ text. TakesLine n line c.loop-number.input.room text c.next_line.new.self.room b)) c.in-Whole.is c.in_ok-next_line.ensures.taken in
          let is : Some c.in-Some.line ≡ client_line_of (line_text line) = c.in-Some.ensures ∙ ap client_line_of (c.text_of.ensures ∙ ap line_text c.deref.ensures.value) in
          let written = subst (λ (t : List ℕ). Appends mid new (line_of t)) c.deref-in-Ok.ensures.0 c.in_ok-write_answer-in-Ok.ensures.written in
          let answered : (count : ℕ) (state : Server) → IsServing c.loop-number.server book limits count state
          → IsAnsweredSo c.answer.new.self book limits count state c.in-Some.line c.in-Ok.answer.items = λ count state serving.
          let told = c.in-Ok.ensures book limits count state serving in
          record { answer = told.answer; serving = told.serving } in
          IfSome_then (g.B.Read.remaining c.args.input.reader) (c.loop-number.invariant.1 book limits s serving)
          (λ text h. answering_next book limits _ _ c.loop-number.server c.loop-number.number c.loop-number.input.room a (g.W.Write.contents c.args.writer.now)
          mid h line c.next_line.new.self.room b takes c.in-Some.line is c.answer.new.self c.in-Ok.answer.items answered new written),
    )

pub returns-clause-ends : goal.returns-clause-ends
returns-clause-ends g c = λ book limits s serving.
    IfSome_then (g.B.Read.remaining c.args.input.reader) (c.loop-number.invariant.1 book limits s serving)
    (λ text h. ends_failed book limits _ _ c.loop-number.server c.loop-number.number c.loop-number.input.room (g.B.Read.remaining c.loop-number.input.reader)
    (g.W.Write.contents c.args.writer.now) (g.W.Write.contents c.loop-number.writer) h input.Memory)

pub returns-in_err-next_line-clause-behind : goal.returns-in_err-next_line-clause-behind
returns-in_err-next_line-clause-behind g c =
    let f = c.in_err-next_line.field-0.0 in
    handed_on c.from_residual.result f (λ (r : Result Unit Fault). IfErr r IsBehindUsers) c.from_residual.ensures.1 (input_behind f)
