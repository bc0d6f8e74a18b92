-- Each condition is a field or a part.
use Rattle.std.proofs.Common.{◌≡◌, refl, sym, arith}
use Rattle.std.proofs.lemmas.Bool.{false≢true}
use Rattle.served_law.proofs.placed.placed_uses_can_be_broken.Goals as goal

pub returns-clause-turns : goal.returns-clause-turns
returns-clause-turns g c = λ served. refl

pub returns-clause-ended_turns : goal.returns-clause-ended_turns
returns-clause-ended_turns g c = λ served h. false≢true (sym h)

pub returns-clause-ended_by_a_fault : goal.returns-clause-ended_by_a_fault
returns-clause-ended_by_a_fault g c = λ fault. tt

pub returns-clause-run_elsewhere : goal.returns-clause-run_elsewhere
returns-clause-run_elsewhere g c = λ setting store run two h. let e = h.of_node in omega (arith, two, e)

pub returns-clause-run_over_another : goal.returns-clause-run_over_another
returns-clause-run_over_another g c = λ setting node store run none h. none h.served.found.mirror h.holds

pub returns-clause-run_over : goal.returns-clause-run_over
returns-clause-run_over g c = λ setting node store run is. is.holds

pub returns-clause-sound_run : goal.returns-clause-sound_run
returns-clause-sound_run g c = λ setting node store run is. is.sound

pub returns-clause-left : goal.returns-clause-left
returns-clause-left g c = λ setting node store run is. is.leaves

pub returns-clause-after : goal.returns-clause-after
returns-clause-after g c = λ setting node store run is. refl

pub returns-clause-created : goal.returns-clause-created
returns-clause-created g c = refl

pub returns-clause-served : goal.returns-clause-served
returns-clause-served g c = refl

pub returns-clause-writes : goal.returns-clause-writes
returns-clause-writes g c = (refl, (refl, tt))

pub returns-clause-writes_elsewhere : goal.returns-clause-writes_elsewhere
returns-clause-writes_elsewhere g c h = let e : 1 ≡ 2 = h.0 in omega (arith, e)

pub returns-clause-later_run : goal.returns-clause-later_run
returns-clause-later_run g c = λ setting node store run later are. (are.0, are.1)
