use Rattle.std.proofs.Common.{◌≤◌, length}
use Rattle.oathd_sim.specs.Lines.{fields_of}
use Rattle.oathd_sim.proofs.RoundLemmas.{HasMembers}
use Rattle.oathd_sim.proofs.rounds.read_members.Given as goal

-- the yielded fields are read, and the number of members is at most the last of them
abbrev pub invariant-loop-field : goal.invariant-loop-field
invariant-loop-field l = record {
  members : HasMembers l.fn.nodes (fields_of l.fn.text) l.live.items l.last (length l.yielded);
  few : length l.live.items ≤ l.last;
  within : l.last ≤ l.fn.nodes;
}
