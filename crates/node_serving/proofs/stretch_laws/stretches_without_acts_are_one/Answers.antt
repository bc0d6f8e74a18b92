use Rattle.floor_store.specs.Broken.{small_held}
use Rattle.node_serving.specs.StretchExamples.{any_act, is_accepted}
use Rattle.node_serving.specs.Stretches.{operator_acts, unasked}
use Rattle.node_serving.proofs.StretchLemmas.{operator_same, same_in, serves_once, some_served}
use Rattle.node_serving.proofs.stretch_laws.stretches_without_acts_are_one.Goals as goal

pub returns-clause-once : goal.returns-clause-once
returns-clause-once c = λ old new first entries asked told turns accepts result h.
    serves_once small_held old new first entries asked told turns result (is_accepted accepts) h

pub returns-clause-answered : goal.returns-clause-answered
returns-clause-answered c = λ old new first entries asked told turns accepts served h.
    some_served small_held any_act old new first entries asked told turns (is_accepted accepts) served h

pub returns-clause-same : goal.returns-clause-same
returns-clause-same c = λ old new first entries asked told turns result h.
    same_in small_held (operator_acts small_held) old new first entries asked told turns unasked result (operator_same small_held) h
