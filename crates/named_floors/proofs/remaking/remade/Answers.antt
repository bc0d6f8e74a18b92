use Rattle.std.proofs.Common.{◌<◌, length, All, sym, subst, ◌∙◌}
use Rattle.named_store.specs.Seating.{AreDistinct}
use Rattle.named_store.proofs.GrownLemmas.{places_within}
use Rattle.named_floors.specs.Remade.{gathered_entries}
use Rattle.named_floors.proofs.RemadeLemmas.{rows_distinct}
use Rattle.named_floors.proofs.remaking.remade.Goals as goal

pub seeded_floors-requires-clause-places : goal.seeded_floors-requires-clause-places
seeded_floors-requires-clause-places c =
    let names = c.args.names.now in
    subst (All (λ place. place < length names)) (sym (c.deref-4.ensures.value ∙ c.in_ok-seating.ensures.fresh.all_places))
    (places_within c.deref.result.now names)

pub returns-clause-distinct : goal.returns-clause-distinct
returns-clause-distinct c =
    let names = c.args.names.now in
    let distinct = c.in_ok-seating.ensures.distinct in
    rows_distinct (gathered_entries names c.args.gathered.now) names
    (subst AreDistinct (c.deref.ensures.value ∙ c.in_ok-entries.ensures.entries) distinct.0) distinct.1
