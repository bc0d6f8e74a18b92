use Rattle.floors_file.proofs.NamedReadingLemmas.{HasReadRows}
use Rattle.floors_file.proofs.named_reading.read_named_rows.Given as goal

-- these rows are read
abbrev pub invariant-loop-number : goal.invariant-loop-number
invariant-loop-number l = HasReadRows l.fn.count l.fn.text l.rest l.rows l.number
