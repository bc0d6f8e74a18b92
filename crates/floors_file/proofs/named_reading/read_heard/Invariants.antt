use Rattle.std.proofs.Common.{length}
use Rattle.floors_file.specs.Named.{named_head_value}
use Rattle.floors_file.proofs.NamedReadingLemmas.{HasHeard}
use Rattle.floors_file.proofs.named_reading.read_heard.Given as goal

-- these boots are read
abbrev pub invariant-loop-row : goal.invariant-loop-row
invariant-loop-row l = HasHeard l.fn.first (named_head_value l.fn.head) l.fn.text l.rest l.heard.items

-- the text gets shorter
abbrev pub decreases-loop-row : goal.decreases-loop-row
decreases-loop-row l = length l.rest
