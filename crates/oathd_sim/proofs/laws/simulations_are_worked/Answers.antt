-- Each simulation is computed.
use Rattle.std.proofs.Common.{refl}
use Rattle.hex.specs.Hex.{decode_pairs}
use Rattle.std.specs.Fmt.{digits}
use Rattle.oath_node.specs.Machine.{made_by_event, made_by_ruling, made_while_running}
use Rattle.cluster_sim.specs.World.{world_after_act, world_after_event, world_after_events, world_after_turn, world_with_made}
use Rattle.oathd_sim.proofs.laws.simulations_are_worked.Goals as goal

pub returns-clause-moment : goal.returns-clause-moment
unfolding decode_pairs digits world_after_events world_after_event world_after_act world_after_turn world_with_made made_by_event made_while_running made_by_ruling
returns-clause-moment c = refl

pub returns-clause-skew_of_the_nodes : goal.returns-clause-skew_of_the_nodes
unfolding decode_pairs digits world_after_events world_after_event world_after_act world_after_turn world_with_made made_by_event made_while_running made_by_ruling
returns-clause-skew_of_the_nodes c = refl

pub returns-clause-skew_of_the_import : goal.returns-clause-skew_of_the_import
unfolding decode_pairs digits world_after_events world_after_event world_after_act world_after_turn world_with_made made_by_event made_while_running made_by_ruling
returns-clause-skew_of_the_import c = refl

pub returns-clause-at_the_limit : goal.returns-clause-at_the_limit
unfolding decode_pairs digits world_after_events world_after_event world_after_act world_after_turn world_with_made made_by_event made_while_running made_by_ruling
returns-clause-at_the_limit c = refl

pub returns-clause-past_the_limit : goal.returns-clause-past_the_limit
unfolding decode_pairs digits world_after_events world_after_event world_after_act world_after_turn world_with_made made_by_event made_while_running made_by_ruling
returns-clause-past_the_limit c = refl

pub returns-clause-noise : goal.returns-clause-noise
returns-clause-noise c key bytes = refl

pub returns-clause-noise_in_a_stop : goal.returns-clause-noise_in_a_stop
returns-clause-noise_in_a_stop c key bytes = refl

pub returns-clause-noise_of_a_script : goal.returns-clause-noise_of_a_script
returns-clause-noise_of_a_script c config key bytes = refl

pub returns-clause-noise_of_a_simulation : goal.returns-clause-noise_of_a_simulation
returns-clause-noise_of_a_simulation c key bytes = refl

pub returns-clause-other_events : goal.returns-clause-other_events
returns-clause-other_events c = refl
