use Rattle.std.proofs.Common.{◌≡◌, drop}
use Rattle.vote_core.specs.Voting.{pass_in}
use Rattle.vote_core.proofs.step.Step.pass.Given as goal

-- none of those so far accepts
abbrev pub invariant-loop-made : goal.invariant-loop-made
invariant-loop-made g l = pass_in (drop l.made-index l.self.decisions.items) ≡ pass_in l.self.decisions.items
