use Rattle.std.proofs.Common.{◌≡◌, Some, sym, subst, ◌∙◌}
use Rattle.std.specs.Prelude.{IfSome}
use Rattle.token_names.specs.Names.{AreDistinct}
use Rattle.named_port.specs.Names.{number_of}
use Rattle.named_port.proofs.NamesLemmas.{own_number}
use Rattle.named_port.proofs.names.Names.name.Goals as goal

pub returns-clause-own : goal.returns-clause-own
returns-clause-own c =
    let items = c.deref.ensures.value in
    let distinct = subst AreDistinct (sym items) c.self.invariant.distinct in
    subst (λ names. IfSome c.copied.result (λ name. number_of names name ≡ Some c.args.number)) (items ∙ c.self.view_is)
    (own_number c.deref.result.now c.args.number c.get.result c.copied.result distinct c.copied.ensures c.get.ensures.lookup.0 c.get.ensures.lookup.1)
