use Rattle.oathd_acts.proofs.LooksLemmas.{look_so}
use Rattle.oathd_acts.proofs.looks.look_by.Goals as goal

pub returns-in-Export : goal.returns-in-Export
returns-in-Export g c = look_so _ _ _ _ c.export.result c.args.look _ _ _ c.in-Export.is c.export.ensures

pub returns-in-Audit : goal.returns-in-Audit
returns-in-Audit g c = look_so _ _ _ _ c.audit.result c.args.look _ _ _ c.in-Audit.is c.audit.ensures

pub returns-in-Gates : goal.returns-in-Gates
returns-in-Gates g c = look_so _ _ _ _ c.gates.result c.args.look _ _ _ c.in-Gates.is c.gates.ensures

pub returns-in-Unlock : goal.returns-in-Unlock
returns-in-Unlock g c =
    look_so _ _ _ _ c.unlock.result c.args.look _ _ _ c.in-Unlock.is (c.unlock.ensures (g.O.Write.contents c.args.held.now) (g.O.Write.contents c.args.held.now))
