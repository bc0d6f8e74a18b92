-- The lists are computed, and so are the ends.
use Rattle.std.proofs.Common.{◌<◌, ◌≤◌, lit<, lit≤, arith}
use Rattle.std.proofs.lemmas.Int.{ints}
use Rattle.admit_core.proofs.laws.windows_are_worked.Goals as goal

pub returns-clause-in_events : goal.returns-clause-in_events
returns-clause-in_events c = (
  record { free = lit≤ tt; near = lit≤ tt; factor = lit< tt },
  record { free = lit≤ tt; near = lit≤ tt; factor = lit< tt },
  record { free = lit≤ tt; near = lit≤ tt; factor = lit< tt },
)

pub returns-clause-no_event_below : goal.returns-clause-no_event_below
returns-clause-no_event_below c h = let e : 7 ≤ 6 = h.free in omega (arith, e)

pub returns-clause-no_event_beyond : goal.returns-clause-no_event_beyond
returns-clause-no_event_beyond c h = let e : 18 ≤ 17 = h.near in omega (arith, e)

pub returns-clause-no_event_at_the_end : goal.returns-clause-no_event_at_the_end
returns-clause-no_event_at_the_end c h = let e : 4611686018427387904 < 4611686018427387904 = h.factor in omega (arith, e)

pub returns-clause-check_window : goal.returns-clause-check_window
returns-clause-check_window c = (
  record { free = lit≤ tt; near = lit≤ tt; factor = lit< tt },
  λ h. let e : 11 ≤ 10 = h.near in omega (arith, e),
)

pub returns-clause-resync_window : goal.returns-clause-resync_window
returns-clause-resync_window c = (
  record { free = lit≤ tt; near = lit≤ tt; factor = lit< tt },
  λ h. let e : 16 ≤ 15 = h.near in omega (arith, e),
)

pub returns-clause-in_steps : goal.returns-clause-in_steps
returns-clause-in_steps c = (
  record { free = lit≤ tt; recent = omega (arith, ints); near = omega (arith, ints); factor = lit< tt },
  record { free = lit≤ tt; recent = omega (arith, ints); near = omega (arith, ints); factor = lit< tt },
  record { free = lit≤ tt; recent = omega (arith, ints); near = omega (arith, ints); factor = lit< tt },
  record { free = lit≤ tt; recent = omega (arith, ints); near = omega (arith, ints); factor = lit< tt },
  record { free = lit≤ tt; recent = omega (arith, ints); near = omega (arith, ints); factor = lit< tt },
)

pub returns-clause-no_step_before : goal.returns-clause-no_step_before
returns-clause-no_step_before c = (
  λ h. let e = h.recent in omega (arith, ints),
  λ h. let e = h.recent in omega (arith, ints),
)

pub returns-clause-no_step_after : goal.returns-clause-no_step_after
returns-clause-no_step_after c = (
  λ h. let e = h.near in omega (arith, ints),
  λ h. let e = h.near in omega (arith, ints),
)

pub returns-clause-in_drifted_steps : goal.returns-clause-in_drifted_steps
returns-clause-in_drifted_steps c = (
  record { free = lit≤ tt; recent = omega (arith, ints); near = omega (arith, ints); factor = lit< tt },
  record { free = lit≤ tt; recent = omega (arith, ints); near = omega (arith, ints); factor = lit< tt },
  record { free = lit≤ tt; recent = omega (arith, ints); near = omega (arith, ints); factor = lit< tt },
  record { free = lit≤ tt; recent = omega (arith, ints); near = omega (arith, ints); factor = lit< tt },
  record { free = lit≤ tt; recent = omega (arith, ints); near = omega (arith, ints); factor = lit< tt },
)

pub returns-clause-no_drifted_step : goal.returns-clause-no_drifted_step
returns-clause-no_drifted_step c = (
  λ h. let e = h.near in omega (arith, ints),
  λ h. let e = h.recent in omega (arith, ints),
  λ h. let e = h.near in omega (arith, ints),
  λ h. let e = h.near in omega (arith, ints),
)

pub returns-clause-no_step_below : goal.returns-clause-no_step_below
returns-clause-no_step_below c h = let e : 4 ≤ 3 = h.free in omega (arith, e)

pub returns-clause-ends : goal.returns-clause-ends
returns-clause-ends c = (
  record { ordered = lit≤ tt; members = λ number. (λ h. (omega arith, omega (arith, h)), λ h. let high = h.1 in omega arith) },
  λ h. let e : 5 < 5 = (h.members 5).1 (lit≤ tt, lit≤ tt) in omega (arith, e),
  λ h. let e : 1 ≤ 0 = ((h.members 0).0 (lit< tt)).0 in omega (arith, e),
  λ h. let e : 1 ≤ 0 = h.ordered in omega (arith, e),
)
