use Rattle.std.proofs.Common.{◌≡◌, map, take}
use Rattle.cluster_file.specs.Rows.{row_mac}
use Rattle.cluster_file.proofs.rows.row_macs.Given as goal

-- the MACs of the rows so far
abbrev pub invariant-loop-row : goal.invariant-loop-row
invariant-loop-row l = l.macs.items ≡ map (row_mac l.shared_key) (take l.row l.book)
