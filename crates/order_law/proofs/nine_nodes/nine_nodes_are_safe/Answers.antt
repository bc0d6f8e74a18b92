-- The cases are computed, and the law is used.
use Rattle.std.proofs.Common.{refl}
use Rattle.std.proofs.lemmas.Option.{none-some}
use Rattle.admit_core.specs.Fit.{code_at}
use Rattle.sha1.specs.Sha1.{first_words, schedule, rounds, compress, hash_after, digest_bytes, sha1}
use Rattle.vote_core.specs.Voting.{propose, propose_alone, propose_among, on_ask, accept, count_grant, on_grant, raise, count_deny, on_deny, on_floor, on_message, tick}
use Rattle.oath_node.specs.Machine.{made_by_proposal, made_by_ruling, made_by_datagram, made_while_running, made_by_event}
use Rattle.book_law.specs.Lives.{state_after, state_after_action}
use Rattle.order_law.specs.Interleavings.{IsCausal}
use Rattle.order_law.specs.NineNodes.{five_of_nine, nine}
use Rattle.order_law.proofs.NineNodes.{caused_of_nine, login_of_nine}
use Rattle.order_law.proofs.nine_nodes.nine_nodes_are_safe.Goals as goal

causal : IsCausal nine five_of_nine
causal = record { is = login_of_nine; starts = λ i envelope at. absurd (none-some envelope at); caused = caused_of_nine }

pub returns-clause-causal : goal.returns-clause-causal
returns-clause-causal c = causal

pub returns-clause-too_few : goal.returns-clause-too_few
unfolding code_at first_words schedule rounds compress hash_after digest_bytes sha1 state_after state_after_action made_by_event made_while_running made_by_datagram made_by_ruling made_by_proposal propose propose_alone propose_among on_ask accept count_grant on_grant raise count_deny on_deny on_floor on_message tick
returns-clause-too_few c = refl

pub returns-clause-accepted : goal.returns-clause-accepted
unfolding code_at first_words schedule rounds compress hash_after digest_bytes sha1 state_after state_after_action made_by_event made_while_running made_by_datagram made_by_ruling made_by_proposal propose propose_alone propose_among on_ask accept count_grant on_grant raise count_deny on_deny on_floor on_message tick
returns-clause-accepted c = refl

pub returns-clause-answered : goal.returns-clause-answered
unfolding code_at first_words schedule rounds compress hash_after digest_bytes sha1 state_after state_after_action made_by_event made_while_running made_by_datagram made_by_ruling made_by_proposal propose propose_alone propose_among on_ask accept count_grant on_grant raise count_deny on_deny on_floor on_message tick
returns-clause-answered c = refl

pub returns-clause-single_use : goal.returns-clause-single_use
returns-clause-single_use c = c.causal_interleavings_are_safe.ensures.single_use nine five_of_nine causal

pub returns-clause-in_order : goal.returns-clause-in_order
returns-clause-in_order c = c.causal_interleavings_are_safe.ensures.in_order nine five_of_nine causal

pub returns-clause-majority : goal.returns-clause-majority
returns-clause-majority c = c.causal_interleavings_are_safe.ensures.majority nine five_of_nine causal

pub returns-clause-justified : goal.returns-clause-justified
returns-clause-justified c = c.causal_interleavings_are_safe.ensures.justified nine five_of_nine causal
