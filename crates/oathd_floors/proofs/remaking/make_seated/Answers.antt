use Rattle.std.proofs.Common.{map, subst, sym}
use Rattle.floors_file.specs.Named.{named_value}
use Rattle.oathd_roster.specs.declared.fault.RosterFault.{RosterFault}
use Rattle.oathd_floors.specs.Remade.{IsNotMadeAgain}
use Rattle.oathd_floors.proofs.RemadeLemmas.{not_made}
use Rattle.oathd_floors.proofs.remaking.make_seated.Goals as goal

pub returns-in-Err-clause-fault : goal.returns-in-Err-clause-fault
returns-in-Err-clause-fault g c =
    let files = map named_value c.args.files.now in
    subst (λ (f : RosterFault). IsNotMadeAgain files c.args.entries.now f) (sym c.from.ensures)
    (not_made files c.args.entries.now c.in-Err.fault c.in-Err.ensures.known)
