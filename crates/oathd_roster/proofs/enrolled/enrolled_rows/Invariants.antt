use Rattle.std.proofs.Common.{◌≡◌, take}
use Rattle.std.specs.List.{flat_map}
use Rattle.kept_rows.specs.Kept.{kept_line}
use Rattle.oathd_roster.specs.Enrolled.{is_enrolled}
use Rattle.oathd_roster.proofs.EnrolledLemmas.{bytes_of}
use Rattle.oathd_roster.proofs.enrolled.enrolled_rows.Given as goal

-- `l.kept` has what is kept of the lines so far
abbrev pub invariant-loop-line : goal.invariant-loop-line
invariant-loop-line l =
    l.kept.items ≡ flat_map (kept_line (is_enrolled l.salt l.settings l.roster)) (bytes_of (take l.line-index l.line-items))
