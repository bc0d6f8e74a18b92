use Rattle.std.proofs.Common.{◌≡◌}
use Rattle.datagram_port.proofs.list_port.ListPort.next.Given as goal

-- the record is as it was
abbrev pub invariant-loop-place : goal.invariant-loop-place
invariant-loop-place l =
    (l.self-inside.entries ≡ l.initial.self-inside.entries) × (l.self-inside.is_whole ≡ l.initial.self-inside.is_whole)
