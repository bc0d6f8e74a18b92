use Rattle.std.proofs.Common.{inr, sym, ap, subst, ◌∙◌, arith}
use Rattle.sqlite.specs.Effect.{Database}
use Rattle.sqlite.specs.Held.{state}
use Rattle.sqlite.specs.State.{HasCleanDisk}
use Rattle.floor_sql.specs.Stored.{HoldsDrift, HoldsFloor}
use Rattle.floor_sql.specs.Usable.{HasUsableFloor}
use Rattle.floor_sql.proofs.ReadOnlyLemmas.{fails, reads, reads_then}
use Rattle.floor_sql.proofs.read.read_row.Goals as goal

pub read_floor-requires : goal.read_floor-requires
read_floor-requires g c clean =
    let early : HasCleanDisk (state g.S.Store c.args.conn.now) = omega (arith, c.read_drift.ensures.only.crash.clean) in
    let has = c.requires early in
    inr (has.0, ap (λ (d : Database). d.schema) (c.in_ok-drift.ensures.only.read clean).now ∙ has.1)

pub returns-in_err-drift : goal.returns-in_err-drift
returns-in_err-drift g c = fails c.from_residual.ensures.1 c.in_err-drift.ensures.only
    (λ clean is has. c.in_err-drift.ensures.unusable clean is has.drift)

pub returns-in_err-row : goal.returns-in_err-row
returns-in_err-row g c =
    let mid = state g.S.Store c.read_drift.new.conn in
    fails c.from_residual-in_err-row.ensures.1 (reads_then c.in_ok-drift.ensures.only c.in_err-row.ensures.reads.only)
    (λ clean is has.
    let early : HasCleanDisk mid = omega (arith, c.read_floor.ensures.reads.only.crash.clean) in
    c.in_err-row.ensures.reads.unusable clean is
    (subst (λ (d : Database). HasUsableFloor d.trees c.args.token) (sym (c.in_ok-drift.ensures.only.read early).now) has.floor))

pub returns : goal.returns
returns g c =
    let old = state g.S.Store c.args.conn.now in
    let mid = state g.S.Store c.read_drift.new.conn in
    let token = c.args.token in
    let row = c.in_ok-row.row in
    reads (reads_then c.in_ok-drift.ensures.only c.in_ok-row.ensures.reads.only) (λ clean.
    let early : HasCleanDisk mid = omega (arith, c.read_floor.ensures.reads.only.crash.clean) in
    let floor : HoldsFloor mid.now.trees token row = c.in_ok-row.ensures.reads.value clean in
    let drift : HoldsDrift old.now.trees token c.in_ok-drift.drift = c.in_ok-drift.ensures.value early in
    record {
      floor = subst (λ (d : Database). HoldsFloor d.trees token row) (c.in_ok-drift.ensures.only.read early).now floor;
      drift = subst (HoldsDrift old.now.trees token) (sym c.in_ok-row.ensures.drift) drift;
    })
