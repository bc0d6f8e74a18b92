use Rattle.sealed_port.proofs.DrainLemmas.{away_law, run_law, sealed_law}
use Rattle.sealed_port.proofs.drain_laws.what_is_turned_away_is_answered.Goals as goal

pub returns-clause-answered : goal.returns-clause-answered
returns-clause-answered c = away_law

pub returns-clause-run : goal.returns-clause-run
returns-clause-run c = run_law

pub returns-clause-sealed : goal.returns-clause-sealed
returns-clause-sealed c = sealed_law
