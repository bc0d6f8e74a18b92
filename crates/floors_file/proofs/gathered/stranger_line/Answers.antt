use Rattle.std.proofs.Common.{◌+◌, sym, ap, ◌∙◌}
use Rattle.std.specs.Prelude.{option_map}
use Rattle.floors_file.specs.Floors.{floor_value}
use Rattle.floors_file.specs.Gathered.{is_stranger}
use Rattle.floors_file.proofs.GatheredLemmas.{place_of_map}
use Rattle.floors_file.proofs.gathered.stranger_line.Goals as goal

pub returns-in-Some : goal.returns-in-Some
returns-in-Some c =
    ap (option_map (λ row. row + 2)) (c.in-Some.ensures.place ∙ sym (place_of_map (is_stranger c.args.book.now) floor_value 0 c.args.rows.now))

pub returns-in-None : goal.returns-in-None
returns-in-None c =
    ap (option_map (λ row. row + 2)) (c.in-None.ensures.place ∙ sym (place_of_map (is_stranger c.args.book.now) floor_value 0 c.args.rows.now))
