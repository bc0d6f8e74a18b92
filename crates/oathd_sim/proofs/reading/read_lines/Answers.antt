use Rattle.std.proofs.Common.{subst}
use Rattle.oathd_sim.specs.Event.{script_value}
use Rattle.oathd_sim.specs.Reading.{IsRefused}
use Rattle.oathd_sim.specs.Script.{script_of}
use Rattle.users_input.specs.Input.{lines_between, pieces_of}
use Rattle.oathd_sim.specs.Sim.{script_lines}
use Rattle.oathd_sim.proofs.ScriptLemmas.{bad_is_refused, bad_number, cut_is_refused, refused_at, uncut_is_read}
use Rattle.oathd_sim.proofs.reading.read_lines.Goals as goal

pub bad_line-requires : goal.bad_line-requires
bad_line-requires c =
    bad_number c.args.nodes c.args.text.now c.in-Err-Line.number
    (subst (IsRefused (script_of c.args.nodes c.args.text.now)) c.in-Err-Line.field-0-is c.in-Err-Line.ensures.fault)

pub returns-in-Err-Line-clause-fault : goal.returns-in-Err-Line-clause-fault
returns-in-Err-Line-clause-fault c =
    refused_at (script_lines c.args.nodes c.args.first (lines_between c.args.is_cut (pieces_of c.args.text.now))) _ c.bad_line.result
    (bad_is_refused c.args.nodes c.args.first c.args.is_cut c.args.text.now c.in-Err-Line.number
    (subst (IsRefused (script_of c.args.nodes c.args.text.now)) c.in-Err-Line.field-0-is c.in-Err-Line.ensures.fault))
    c.bad_line.ensures

pub returns-then-is_cut-clause-fault : goal.returns-then-is_cut-clause-fault
returns-then-is_cut-clause-fault c =
    refused_at (script_lines c.args.nodes c.args.first (lines_between c.args.is_cut (pieces_of c.args.text.now))) _ c.bad_line-then-is_cut.result
    (cut_is_refused c.args.nodes c.args.first c.args.is_cut c.args.text.now (script_value c.in-Ok.script) c.line_count.result c.if-is_cut.true
    c.in-Ok.ensures.script c.line_count.ensures)
    c.bad_line-then-is_cut.ensures

pub returns-clause-script : goal.returns-clause-script
returns-clause-script c =
    uncut_is_read c.args.nodes c.args.first c.args.is_cut c.args.text.now (script_value c.in-Ok.script) c.if-is_cut.false c.in-Ok.ensures.script
