use Rattle.std.proofs.Common.{ℕ, List, IfSome, subst}
use Rattle.std.specs.Prelude.{IfErr, Result}
use Rattle.std.proofs.lemmas.Option.{IfSome_then}
use Rattle.token_file.specs.UsersFile.{Import}
use Rattle.oath_node.specs.ReferenceServer.{server_at}
use Rattle.oath_node.specs.Serving.{IsServing}
use Rattle.oathd_lines.specs.Fault.{input_fault_of}
use Rattle.oathd_lines.specs.Run.{EndsSo, IsBehindUsers, IsCutSo, Setup, run_read}
use Rattle.oathd_lines.specs.declared.fault.Fault.{Fault}
use Rattle.users_input.specs.declared.fault.InputFault.TheVariants as input
use Rattle.oathd_lines.proofs.ServeLemmas.{cut_or_memory, err_then, failed_behind, handed_on, input_behind, memory_ends_any, no_cut, refused_for, refused_or_memory, served_behind}
use Rattle.oathd_lines.proofs.lines.serve_input.Goals as goal

pub returns-in-Err : goal.returns-in-Err
returns-in-Err g c =
    let setup : Setup = record { limits = c.args.settings; moment = c.args.moment } in
    let which = refused_for c.fault.result c.in-Err.fault c.from.result c.from.ensures c.fault.ensures in
    record {
      ends = refused_or_memory setup 16777216 c.args.input.room (g.B.Read.remaining c.args.input.reader) _ c.in-Err.fault c.from.result
          (g.W.Write.contents c.args.writer.now) c.new-users.ensures.left c.in-Err.ensures.fault which;
      cut = cut_or_memory setup 16777216 c.args.input.room (g.B.Read.remaining c.args.input.reader) _ c.in-Err.fault c.from.result
          c.new-users.ensures.left c.in-Err.ensures.read which;
    }

pub returns-in_err-clients : goal.returns-in_err-clients
returns-in_err-clients g c =
    let setup : Setup = record { limits = c.args.settings; moment = c.args.moment } in
    let import : Import = record { book = c.in-Ok.read.0; floors = c.in-Ok.read.1.items } in
    let f = c.in_err-clients.field-0.0 in
    let out = g.W.Write.contents c.args.writer.now in
    let a = g.B.Read.remaining c.args.input.reader in
    record {
      ends = IfSome_then a (failed_behind setup 16777216 c.args.input.room a _ import c.new-users.ensures.left c.in-Ok.ensures.book f out)
          (λ text h. handed_on c.from_residual.result f (λ (r : Result Unit Fault). EndsSo (run_read setup 16777216 c.args.input.room text) r out out) c.from_residual.ensures.1 h);
      cut = handed_on c.from_residual.result f (λ (r : Result Unit Fault). IfErr r (λ x. IfSome a (λ text. IsCutSo setup 16777216 c.args.input.room text x)))
          c.from_residual.ensures.1 (no_cut setup 16777216 c.args.input.room a (input_fault_of f) (input_behind f));
    }

pub returns-in_err-server : goal.returns-in_err-server
returns-in_err-server g c =
    let setup : Setup = record { limits = c.args.settings; moment = c.args.moment } in
    let out = g.W.Write.contents c.args.writer.now in
    let a = g.B.Read.remaining c.args.input.reader in
    record {
      ends = IfSome_then a (memory_ends_any a (run_read setup 16777216 c.args.input.room) out)
          (λ text h. handed_on c.from_residual-in_err-server.result input.Memory (λ (r : Result Unit Fault). EndsSo (run_read setup 16777216 c.args.input.room text) r out out)
          c.from_residual-in_err-server.ensures.1 h);
      cut = handed_on c.from_residual-in_err-server.result input.Memory
          (λ (r : Result Unit Fault). IfErr r (λ x. IfSome a (λ text. IsCutSo setup 16777216 c.args.input.room text x)))
          c.from_residual-in_err-server.ensures.1 (no_cut setup 16777216 c.args.input.room a (input_fault_of input.Memory) tt);
    }

pub returns : goal.returns
returns g c =
    let setup : Setup = record { limits = c.args.settings; moment = c.args.moment } in
    let import : Import = record { book = c.in-Ok.read.0; floors = c.in-Ok.read.1.items } in
    let a = g.B.Read.remaining c.args.input.reader in
    let serving = subst (λ (fs : List ℕ). IsServing c.in_ok-server.server c.in-Ok.read.0 c.args.settings 0 (server_at fs)) c.deref.ensures.value c.in_ok-server.ensures.serving in
    record {
      ends = served_behind setup 16777216 c.args.input.room a _ import c.new-users.ensures.left c.in-Ok.ensures.book _ _ c.in_ok-clients.first c.in_ok-clients.clients.room
          (g.B.Read.remaining c.in_ok-clients.clients.reader) c.answer_lines.result (g.W.Write.contents c.args.writer.now) (g.W.Write.contents c.answer_lines.new.writer)
          c.new-users.ensures.rest c.in-Ok.ensures.behind c.in_ok-clients.ensures (c.answer_lines.ensures.ends import.book setup.limits (server_at import.floors) serving);
      cut = err_then c.answer_lines.result IsBehindUsers (λ x. IfSome a (λ text. IsCutSo setup 16777216 c.args.input.room text x)) c.answer_lines.ensures.behind
          (no_cut setup 16777216 c.args.input.room a);
    }
