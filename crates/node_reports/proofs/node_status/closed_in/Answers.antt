use Rattle.std.proofs.Common.{◌≡◌, ◌∙◌, ◌<◌, arith, Bool, length, subst}
use Rattle.std.specs.Prelude.{IfSome, slice_get}
use Rattle.floor_store.specs.Records.{RowRecord}
use Rattle.node_reports.specs.NodeStatus.{is_closed}
use Rattle.node_reports.proofs.NodeStatusLemmas.{one_closed, one_open}
use Rattle.node_reports.proofs.node_status.closed_in.Goals as goal
use Rattle.node_reports.proofs.node_status.closed_in.Goals.{then-branch, else-branch}

pub loop-token-preserved : goal.loop-token-preserved
loop-token-preserved g c =
    let held = g.S.FloorStore.held c.args.store.now in
    let rows = held.content.rows in
    let token = c.loop-token.token in
    let within : token < length rows = omega (arith, c.loop-token-test.true, c.tokens-token-end.ensures.value) in
    let is_row : Bool → Type 0 = λ closed. IfSome (slice_get rows token) (λ (row : RowRecord). closed ≡ is_closed c.args.moment row) in
    elim c.if-branch.branch [
      | then-branch w ↦ (
        omega (arith, w.closed-is, c.loop-token.invariant.0),
        λ clean. w.closed-is ∙ one_closed c.args.moment token rows c.loop-token.closed within
            (subst is_row w.if-branch.true (c.in_ok-is_closed.ensures clean)) (c.loop-token.invariant.1 clean),
      )
      | else-branch w ↦ (
        omega (arith, w.closed-is, c.loop-token.invariant.0),
        λ clean. w.closed-is ∙ one_open c.args.moment token rows c.loop-token.closed within
            (subst is_row w.if-branch.false (c.in_ok-is_closed.ensures clean)) (c.loop-token.invariant.1 clean),
      )
    ]
