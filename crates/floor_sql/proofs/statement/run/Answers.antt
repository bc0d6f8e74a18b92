use Rattle.std.proofs.Common.{Err, arith}
use Rattle.sqlite.specs.Values.{bound}
use Rattle.sqlite.specs.Held.{state}
use Rattle.sqlite.specs.State.{ExecutesInside}
use Rattle.floor_sql.specs.declared.read.Refusal.{Refusal}
use Rattle.floor_sql.specs.Refusals.{IsFaultOf}
use Rattle.floor_sql.proofs.ListLemmas.{if_err}
use Rattle.floor_sql.proofs.statement.run.Goals as goal

pub returns-in_err-count-clause-cause : goal.returns-in_err-count-clause-cause
returns-in_err-count-clause-cause g c clean =
    let old = state g.S.Store c.args.tx.now.conn.now in
    let new = state g.S.Store c.execute.new.self.conn.now in
    let Goal : Refusal → Type 0 = λ e. IsFaultOf (λ error. ExecutesInside 0 c.args.sql.now (bound c.args.params.now) old new (Err error)) e.0 in
    let ran = c.in_err-count.ensures.runs clean (c.requires (omega (arith, c.execute.ensures.survives.clean))) in
    if_err c.from_residual.result _ Goal c.from_residual.ensures.1
    (λ e gives. record { error = c.in_err-count.field-0.0; refused = ran; is = gives.0 })
