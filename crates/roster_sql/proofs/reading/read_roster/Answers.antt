use Rattle.std.proofs.Common.{◌≡◌, ◌<◌, length, sym, ap, ◌∙◌, subst, subst₂, rules, arith}
use Rattle.sqlite.specs.Effect.{Database}
use Rattle.sqlite.specs.Held.{state}
use Rattle.sqlite.specs.State.{HasCleanDisk}
use Rattle.roster_sql.specs.Read.{HasUsableEntry}
use Rattle.roster_sql.specs.Roster.{HoldsEntry}
use Rattle.roster_sql.proofs.ReadingLemmas.{roster_more}
use Rattle.floor_sql.proofs.ReadOnlyLemmas.{fails, reads, reads_on, reads_then}
use Rattle.roster_sql.proofs.reading.read_roster.Goals as goal

pub read_entry-requires : goal.read_entry-requires
read_entry-requires g c clean =
    let kept = c.loop-token.invariant in
    ap (λ (d : Database). d.schema) (kept.reads.read clean).now ∙ c.requires (omega (arith, kept.reads.crash.clean))

pub loop-token-preserved : goal.loop-token-preserved
loop-token-preserved g c =
    let kept = c.loop-token.invariant in
    let old = state g.S.Store c.args.conn.now in
    let mid = state g.S.Store c.loop-token.conn in
    let new = state g.S.Store c.read_entry.new.conn in
    let step = c.read_entry.ensures in
    let before = λ (clean : HasCleanDisk new). let early : HasCleanDisk mid = omega (arith, step.only.crash.clean) in early in
    record {
      counted = search rules;
      reads = reads_on (reads_then kept.reads c.in_ok-entry.ensures.only);
      held = λ clean.
          let row = c.in_ok-entry.entry in
          let rows = c.loop-token.entries.items in
          let place : c.loop-token.token ≡ length rows = search rules in
          let it : HoldsEntry mid.now.trees c.loop-token.token row = c.in_ok-entry.ensures.value clean in
          let there : HoldsEntry old.now.trees (length rows) row = subst₂ (λ (d : Database) t. HoldsEntry d.trees t row) (kept.reads.read (before clean)).now place it in
          rw c.in_ok-push.ensures.items (roster_more old.now.trees rows row (kept.held (before clean)) there);
    }

pub returns-in_err-entry-clause-reads : goal.returns-in_err-entry-clause-reads
returns-in_err-entry-clause-reads g c =
    let kept = c.loop-token.invariant in
    let mid = state g.S.Store c.loop-token.conn in
    let token = c.loop-token.token in
    let low : token < c.args.tokens = search rules in
    fails c.from_residual-in_err-entry.ensures.1 (reads_then kept.reads c.in_err-entry.ensures.only) (λ clean is all.
    let early : HasCleanDisk mid = omega (arith, c.read_entry.ensures.only.crash.clean) in
    c.in_err-entry.ensures.unusable clean is
    (subst (λ (d : Database). HasUsableEntry d.trees token) (sym (kept.reads.read early).now) (all token low)))

pub returns-clause-reads : goal.returns-clause-reads
returns-clause-reads g c = reads c.loop-token.invariant.reads c.loop-token.invariant.held
