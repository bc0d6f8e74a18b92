-- The first two are one lemma, and the inputs are a law of ports.
use Rattle.node_serving.specs.Stretches.{unasked}
use Rattle.served_law.specs.Runs.{store_found, terms_in}
use Rattle.served_law.proofs.Runs.{run_is_one_use}
use Rattle.served_law.proofs.laws.served_names_are_processes.Goals as goal

pub returns-clause-served : goal.returns-clause-served
returns-clause-served g c = λ cluster moment serving until result text names rows setting left run sound leaves.
    run_is_one_use g.S.Store g.D.Database.finds cluster moment serving (g.U.Stop.answers until) result text names rows setting left run sound leaves

pub returns-clause-failed : goal.returns-clause-failed
returns-clause-failed g c = λ cluster moment serving result text names rows setting left run sound leaves.
    run_is_one_use g.S.Store g.D.Database.finds cluster moment serving unasked result text names rows setting left run sound leaves

pub returns-clause-inputs : goal.returns-clause-inputs
returns-clause-inputs g c = λ cluster moment serving until result text names rows setting left run one i place from part read at taken.
    c.named_ports_tell_envelopes.ensures.inputs_in_parts names setting serving.place.me run.over.boot run.over.known (terms_in run names) (store_found run names rows) one.was.parts run.over.served_is.serves.calls left one.was.is one.was.recorded
    i place from part read at taken
