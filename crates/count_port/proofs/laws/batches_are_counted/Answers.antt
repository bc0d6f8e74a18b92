use Rattle.std.proofs.Common.{refl, ◌∙◌, arith}
use Rattle.count_port.specs.Batches.{no_batches}
use Rattle.count_port.proofs.BatchLemmas.{commits_in, largest_in}
use Rattle.count_port.proofs.laws.batches_are_counted.Goals as goal

pub returns-clause-commits : goal.returns-clause-commits
returns-clause-commits c batches = commits_in batches no_batches refl ∙ omega arith

pub returns-clause-largest : goal.returns-clause-largest
returns-clause-largest c batches = largest_in batches no_batches refl (omega arith) ∙ omega arith
