-- Both are lemmas.
use Rattle.served_law.proofs.Openings.{greatest_opened, named_greatest}
use Rattle.served_law.proofs.laws.served_names_open_greatest.Goals as goal

pub returns-clause-opened : goal.returns-clause-opened
returns-clause-opened g c = λ cluster limits moment node book floors store counts names rows seed opened its seeds once.
    greatest_opened g.S.Store g.D.Database.finds cluster limits moment node book floors store counts names rows seed opened its seeds once

pub returns-clause-uses : goal.returns-clause-uses
returns-clause-uses g c = λ setting node names seed store named are devices uses of.
    named_greatest g.S.Store g.D.Database.finds g.U.Stop.answers setting node names seed store named are devices uses of
