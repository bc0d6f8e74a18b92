use Rattle.std.proofs.Common.{◌≡◌, rules}
use Rattle.named_port.specs.Names.{number_of}
use Rattle.named_port.proofs.NamesLemmas.{named_by}
use Rattle.named_port.proofs.names.Names.number.Goals as goal

pub returns-clause-named : goal.returns-clause-named
returns-clause-named c =
    let is : c.copied.result ≡ number_of c.args.self.now c.args.name = search rules in
    named_by c.args.self.now c.args.name c.copied.result is
