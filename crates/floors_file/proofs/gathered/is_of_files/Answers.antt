use Rattle.std.proofs.Common.{sym, ◌∙◌}
use Rattle.std.specs.Prelude.{◌==◌}
use Rattle.floors_file.specs.Floors.{floors_value}
use Rattle.floors_file.proofs.ReadingLemmas.{any_of_map}
use Rattle.floors_file.proofs.gathered.is_of_files.Goals as goal

pub returns : goal.returns
returns c = c.has_node.ensures ∙ sym (any_of_map (λ file. file.head.node == c.args.node) floors_value c.args.files.now)
