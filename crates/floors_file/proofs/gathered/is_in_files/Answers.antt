use Rattle.std.proofs.Common.{sym, ◌∙◌}
use Rattle.floors_file.specs.Floors.{floors_value}
use Rattle.floors_file.specs.Reading.{has_user}
use Rattle.floors_file.proofs.ReadingLemmas.{any_of_map}
use Rattle.floors_file.proofs.gathered.is_in_files.Goals as goal

pub returns : goal.returns
returns c = c.has_file.ensures ∙ sym (any_of_map (λ file. has_user c.args.user.now file.rows) floors_value c.args.files.now)
