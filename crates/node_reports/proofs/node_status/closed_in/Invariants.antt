use Rattle.std.proofs.Common.{◌≡◌, ◌≤◌, take}
use Rattle.node_reports.specs.NodeStatus.{closed_in}
use Rattle.node_reports.proofs.node_status.closed_in.Given as goal

-- the closed ones of the rows so far are counted
abbrev pub invariant-loop-token : goal.invariant-loop-token
invariant-loop-token g l =
    let held = g.S.FloorStore.held l.store in
    (l.closed ≤ l.token) × (held.is_clean → l.closed ≡ closed_in l.moment (take l.token held.content.rows))
