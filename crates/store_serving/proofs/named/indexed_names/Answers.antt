use Rattle.std.proofs.Common.{◌∙◌, ap, map, subst, sym}
use Rattle.token_names.specs.Names.{AreDistinct}
use Rattle.oathd_roster.proofs.UsersLemmas.{distinct_names, name_in}
use Rattle.store_serving.proofs.named.indexed_names.Goals as goal

pub new-requires-clause-distinct : goal.new-requires-clause-distinct
new-requires-clause-distinct c =
    let named = c.args.named.now in
    subst AreDistinct (sym (c.in-Ok.ensures ∙ ap (map name_in) c.deref.ensures.value)) (distinct_names named.entries.items named.distinct)
