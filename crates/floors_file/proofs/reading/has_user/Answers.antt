use Rattle.std.proofs.Common.{sym, ◌∙◌}
use Rattle.std.specs.Str.{bytes_eq}
use Rattle.floors_file.specs.Floors.{floor_value}
use Rattle.floors_file.proofs.ReadingLemmas.{any_of_map}
use Rattle.floors_file.proofs.reading.has_user.Goals as goal

pub returns : goal.returns
returns c = c.has_row.ensures ∙ sym (any_of_map (λ row. bytes_eq row.user c.args.user.now) floor_value c.args.rows.now)
