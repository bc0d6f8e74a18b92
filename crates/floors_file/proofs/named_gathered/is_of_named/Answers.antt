use Rattle.std.proofs.Common.{sym, ◌∙◌}
use Rattle.std.specs.Prelude.{◌==◌}
use Rattle.floors_file.specs.Named.{named_value}
use Rattle.floors_file.proofs.ReadingLemmas.{any_of_map}
use Rattle.floors_file.proofs.named_gathered.is_of_named.Goals as goal

pub returns : goal.returns
returns c = c.has_node.ensures ∙ sym (any_of_map (λ file. file.head.node == c.args.node) named_value c.args.files.now)
