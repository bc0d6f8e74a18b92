-- The grammar decides what the reader of scripts reads.
use Rattle.oathd_sim.proofs.LineLemmas.{bad_said_again, bad_said_first, script_again, script_said}
use Rattle.oathd_sim.proofs.script_laws.scripts_are_in_the_grammar.Goals as goal

pub returns-clause-script : goal.returns-clause-script
returns-clause-script c nodes text script = (script_again nodes text script, script_said nodes text script)

pub returns-clause-fault : goal.returns-clause-fault
returns-clause-fault c nodes text number = (bad_said_again nodes text number, bad_said_first nodes text number)
