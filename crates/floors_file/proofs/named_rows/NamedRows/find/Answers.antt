use Rattle.std.proofs.Common.{◌≡◌, rules}
use Rattle.floors_file.specs.NamedRows.{place_of_name}
use Rattle.floors_file.proofs.NamedRowsLemmas.{place_within}
use Rattle.floors_file.proofs.named_rows.NamedRows.find.Goals as goal

pub returns-clause-within : goal.returns-clause-within
returns-clause-within c =
    let is : c.copied.result ≡ place_of_name c.args.name c.args.self.now = search rules in
    place_within c.args.name c.args.self.now c.copied.result is
