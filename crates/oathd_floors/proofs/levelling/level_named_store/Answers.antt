use Rattle.std.proofs.Common.{◌∙◌, List, ap, map, false}
use Rattle.floors_file.specs.Named.{named_value}
use Rattle.floors_file.specs.NamedGathered.{gathered_rows}
use Rattle.floors_file.specs.declared.named.NamedFloors.{NamedFloors}
use Rattle.oathd_floors.proofs.ToldLemmas.{has_levelled}
use Rattle.oathd_floors.proofs.levelling.level_named_store.Goals as goal

pub returns-in-Ok-level_named-clause-levelled : goal.returns-in-Ok-level_named-clause-levelled
returns-in-Ok-level_named-clause-levelled g c =
    let files = map named_value c.in-Ok.files.items in
    has_levelled g.S.Store g.D.Database.finds (record { key = c.args.key.now; own = c.args.cluster.now.bond; is_anew = false; now = c.args.now }) c.args.node
    (map (λ text. text.items) c.args.texts.now) files c.in_ok-roster.roster.items c.deref-2.result.now c.deref-3.result.now c.in_ok-roster.store
    c.level_named.new.store c.level_named.result _ c.in-Ok.ensures.read c.in_ok-roster.ensures.opened
    (c.deref-3.ensures.value ∙ c.in_ok-gathered.ensures.rows ∙ ap (λ (l : List NamedFloors). gathered_rows (map named_value l)) c.deref.ensures.value)
    c.deref-2.ensures.value c.in-Ok-level_named.is c.level_named.ensures
