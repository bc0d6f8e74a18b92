use Rattle.std.proofs.Common.{ℕ, List, IfSome}
use Rattle.std.specs.Prelude.{Result}
use Rattle.users_input.specs.Input.{lines_between, pieces_of}
use Rattle.token_file.specs.UsersFile.{import_of}
use Rattle.oathd_sim.specs.Sim.{EndsSo, IsCutSo, Setup, script_lines, sim_of_script, sim_read}
use Rattle.oathd_sim.specs.declared.fault.Fault.{Fault}
use Rattle.oathd_sim.proofs.FaultLemmas.{end_by, err_is}
use Rattle.oathd_sim.proofs.RunLemmas.{given_up_ends, given_up_is_no_cut, printed_ends, written_is_no_cut}
use Rattle.oathd_sim.proofs.sim.simulate.Goals as goal

pub returns-in_err-report-clause-ends : goal.returns-in_err-report-clause-ends
returns-in_err-report-clause-ends g c =
    let setup : Setup = record { nodes = c.args.nodes; limits = c.args.settings; moment = c.args.moment; key = c.args.key.now } in
    let a = g.B.Read.remaining c.args.input.reader in
    let out = g.W.Write.contents c.args.writer.now in
    let parts = c.in_ok-parts.parts in
    let x = c.in_err-report.field-0.0 in
    end_by c.from_residual-in_err-report.result x (λ (r : Result Unit Fault). IfSome a (λ (text : List ℕ). EndsSo (sim_read setup 16777216 c.args.input.room text) r out out))
    c.from_residual-in_err-report.ensures.1
    (given_up_ends setup 16777216 c.args.input.room parts.book parts.floors.items parts.first parts.script.bytes.items parts.script.is_cut a x out
    c.in_ok-parts.ensures.parts (c.in_err-report.ensures.fault c.args.moment))

pub returns-in_err-report-clause-cut : goal.returns-in_err-report-clause-cut
returns-in_err-report-clause-cut g c =
    let setup : Setup = record { nodes = c.args.nodes; limits = c.args.settings; moment = c.args.moment; key = c.args.key.now } in
    let a = g.B.Read.remaining c.args.input.reader in
    let parts = c.in_ok-parts.parts in
    let x = c.in_err-report.field-0.0 in
    err_is c.from_residual-in_err-report.result x (λ (y : Fault). IfSome a (λ (text : List ℕ). IsCutSo c.args.settings c.args.moment 16777216 c.args.input.room text y))
    c.from_residual-in_err-report.ensures.1
    (given_up_is_no_cut c.args.settings c.args.moment 16777216 c.args.input.room a
    (sim_of_script setup (import_of parts.book parts.floors.items) (script_lines c.args.nodes parts.first (lines_between parts.script.is_cut (pieces_of parts.script.bytes.items))))
    x (c.in_err-report.ensures.fault c.args.moment))

pub returns-clause-ends : goal.returns-clause-ends
returns-clause-ends g c =
    let setup : Setup = record { nodes = c.args.nodes; limits = c.args.settings; moment = c.args.moment; key = c.args.key.now } in
    let parts = c.in_ok-parts.parts in
    printed_ends setup 16777216 c.args.input.room parts.book parts.floors.items parts.first parts.script.bytes.items parts.script.is_cut
    (g.B.Read.remaining c.args.input.reader) c.in_ok-report.report c.print_report.result (g.W.Write.contents c.args.writer.now) (g.W.Write.contents c.print_report.new.writer)
    c.in_ok-parts.ensures.parts (c.in_ok-report.ensures.report c.args.moment) c.print_report.ensures.written c.print_report.ensures.fault

pub returns-clause-cut : goal.returns-clause-cut
returns-clause-cut g c =
    written_is_no_cut c.args.settings c.args.moment 16777216 c.args.input.room (g.B.Read.remaining c.args.input.reader) c.print_report.result c.print_report.ensures.fault
