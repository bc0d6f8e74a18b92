use Rattle.std.proofs.Common.{◌≡◌, ◌<◌, ℕ, pos, sym, subst, rules, arith}
use Rattle.sqlite.specs.Effect.{Database}
use Rattle.sqlite.specs.Held.{state}
use Rattle.sqlite.specs.State.{HasCleanDisk}
use Rattle.floor_sql.specs.Schema.{IsOfStore}
use Rattle.floor_sql.specs.Migrate.{HasUndrifted}
use Rattle.floor_sql.specs.Usable.{HasUsableFloor}
use Rattle.floor_sql.specs.Stored.{HoldsFloor}
use Rattle.floor_sql.proofs.MigrateLemmas.{one_more_read}
use Rattle.floor_sql.proofs.ReadOnlyLemmas.{fails, reads, reads_on, reads_then}
use Rattle.floor_sql.proofs.migrate.check_floors.Goals as goal

pub read_floor-requires : goal.read_floor-requires
read_floor-requires g c clean =
    let kept = c.loop-token.invariant in
    subst (λ (d : Database). IsOfStore d.schema) (sym (kept.reads.read clean).now) (c.requires (omega (arith, kept.reads.crash.clean)))

pub loop-token-preserved : goal.loop-token-preserved
loop-token-preserved g c =
    let kept = c.loop-token.invariant in
    let old = state g.S.Store c.args.conn.now in
    let mid = state g.S.Store c.loop-token.conn in
    let new = state g.S.Store c.read_floor.new.conn in
    let step = c.read_floor.ensures in
    let before = λ (clean : HasCleanDisk new). let early : HasCleanDisk mid = omega (arith, step.reads.only.crash.clean) in early in
    let row = c.in_ok-_row._row in
    let token = c.loop-token.token in
    record {
      reads = reads_on (reads_then kept.reads c.in_ok-_row.ensures.reads.only);
      held = λ clean.
          let it : HoldsFloor mid.now.trees token row = c.in_ok-_row.ensures.reads.value clean in
          let there : HoldsFloor old.now.trees token row = subst (λ (d : Database). HoldsFloor d.trees token row) (kept.reads.read (before clean)).now it in
          let none : row.drift ≡ pos 0 = search rules in
          one_more_read old.now.trees token row (kept.held (before clean)) there none;
    }

pub returns-in_err-_row : goal.returns-in_err-_row
returns-in_err-_row g c =
    let kept = c.loop-token.invariant in
    let mid = state g.S.Store c.loop-token.conn in
    let token = c.loop-token.token in
    let low : token < c.args.tokens = search rules in
    fails c.from_residual.ensures.1 (reads_then kept.reads c.in_err-_row.ensures.reads.only) (λ clean is all.
    let early : HasCleanDisk mid = omega (arith, c.read_floor.ensures.reads.only.crash.clean) in
    c.in_err-_row.ensures.reads.unusable clean is
    (subst (λ (d : Database). HasUsableFloor d.trees token) (sym (kept.reads.read early).now) (all token low)))

pub returns : goal.returns
returns g c =
    let trees = (state g.S.Store c.args.conn.now).now.trees in
    let all : c.loop-token.token ≡ c.args.tokens = omega arith in
    reads c.loop-token.invariant.reads
    (λ clean. subst (λ (n : ℕ). HasUndrifted trees n) all (c.loop-token.invariant.held clean))
