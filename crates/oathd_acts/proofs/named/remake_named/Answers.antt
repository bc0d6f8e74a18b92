use Rattle.std.proofs.Common.{◌∙◌, ap, arith, length}
use Rattle.oathd_floors.specs.declared.remaking.Former.{Former}
use Rattle.oathd_acts.proofs.PlainLemmas.{lost_named, lost_none}
use Rattle.oathd_acts.proofs.NamedLemmas.{remade_by_names}
use Rattle.oathd_acts.proofs.named.remake_named.Goals.{in-Some, in-None}
use Rattle.oathd_acts.proofs.named.remake_named.Goals as goal

pub returns-in-Ok : goal.returns-in-Ok
returns-in-Ok g c =
    let former : Former = record { lost = c.match-former-5.lost; since = c.min.result; now = c.in_ok-now.now; texts = c.deref-2.result } in
    remade_by_names _ _ c.args.settings c.args.place c.args.moment c.args.named.now c.args.key.now c.as_slice-3.result.now c.args.former _ _ _ former
    c.in-Ok._store c.moment_or-moment.result
    (record {
      of_lost = elim c.match-former-5.branch [
        | in-Some w ↦ lost_named _ _ _ _ _ w.in-Some.is w.as_slice.ensures.value w.lost-is
        | in-None w ↦ lost_none _ _ _ w.in-None.is w.lost-is
      ];
      is_said = omega (arith, c.if-former-eq0.false);
      of_since = c.min.ensures;
      is_now = c.in_ok-now.ensures.moment;
      each = ap length c.deref-2.ensures.value ∙ c.in_ok-texts.ensures ∙ ap length c.deref.ensures.value;
    })
    c.as_slice-3.ensures.value c.moment_or-moment.ensures.value c.in-Ok.ensures.made
