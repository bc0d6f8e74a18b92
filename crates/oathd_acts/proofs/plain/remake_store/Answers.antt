use Rattle.std.proofs.Common.{◌∙◌, ap, length, map, refl}
use Rattle.std.proofs.lemmas.List.{length-map}
use Rattle.oathd_database.specs.declared.lost.LostNode.{LostNode}
use Rattle.oathd_acts.proofs.PlainLemmas.{lost_named, lost_none, replaced}
use Rattle.oathd_acts.proofs.plain.remake_store.Goals.{in-Some, in-None}
use Rattle.oathd_acts.proofs.plain.remake_store.Goals as goal

pub returns-in-Ok : goal.returns-in-Ok
returns-in-Ok g c =
    let texts = c.deref-2.result.now in
    let lost : LostNode = record { node = c.args.node; lost = c.match-former-4.lost; since = c.args.former.since } in
    replaced _ _ c.args.node _ c.args.settings c.args.moment c.args.former c.in_ok-moment.moment lost (map (λ text. text.items) texts) c.in-Ok.store
    c.in_ok-moment.ensures.moment
    (record {
      of_node = refl;
      of_lost = elim c.match-former-4.branch [
        | in-Some w ↦ lost_named _ _ _ _ _ w.in-Some.is w.as_slice.ensures.value w.lost-is
        | in-None w ↦ lost_none _ _ _ w.in-None.is w.lost-is
      ];
      of_since = refl;
    })
    (length-map texts _ ∙ ap length c.deref-2.ensures.value ∙ c.in_ok-texts.ensures ∙ ap length c.deref.ensures.value) c.in-Ok.ensures.made
