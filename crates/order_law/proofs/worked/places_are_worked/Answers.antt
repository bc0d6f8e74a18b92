-- Each is computed, the hash with it.
use Rattle.std.proofs.Common.{refl}
use Rattle.admit_core.specs.Fit.{code_at}
use Rattle.sha1.specs.Sha1.{first_words, schedule, rounds, compress, hash_after, digest_bytes, sha1}
use Rattle.vote_core.specs.Voting.{propose, propose_alone, propose_among, on_ask, accept, count_grant, on_grant, raise, count_deny, on_deny, on_floor, on_message, tick}
use Rattle.oath_node.specs.Machine.{made_by_proposal, made_by_ruling, made_by_datagram, made_while_running, made_by_event}
use Rattle.order_law.proofs.worked.places_are_worked.Goals as goal

pub returns-clause-starts : goal.returns-clause-starts
returns-clause-starts c = refl

pub returns-clause-begins : goal.returns-clause-begins
returns-clause-begins c = refl

pub returns-clause-hears : goal.returns-clause-hears
returns-clause-hears c = refl

pub returns-clause-commits : goal.returns-clause-commits
unfolding code_at first_words schedule rounds compress hash_after digest_bytes sha1 made_by_event made_while_running made_by_datagram made_by_ruling made_by_proposal propose propose_alone propose_among on_ask accept count_grant on_grant raise count_deny on_deny on_floor on_message tick
returns-clause-commits c = refl

pub returns-clause-says : goal.returns-clause-says
unfolding code_at first_words schedule rounds compress hash_after digest_bytes sha1 made_by_event made_while_running made_by_datagram made_by_ruling made_by_proposal propose propose_alone propose_among on_ask accept count_grant on_grant raise count_deny on_deny on_floor on_message tick
returns-clause-says c = refl

pub returns-clause-said : goal.returns-clause-said
unfolding code_at first_words schedule rounds compress hash_after digest_bytes sha1 made_by_event made_while_running made_by_datagram made_by_ruling made_by_proposal propose propose_alone propose_among on_ask accept count_grant on_grant raise count_deny on_deny on_floor on_message tick
returns-clause-said c = refl

pub returns-clause-pauses : goal.returns-clause-pauses
returns-clause-pauses c = refl

pub returns-clause-ends : goal.returns-clause-ends
returns-clause-ends c = refl

pub returns-clause-ends_at_the_commit : goal.returns-clause-ends_at_the_commit
unfolding code_at first_words schedule rounds compress hash_after digest_bytes sha1 made_by_event made_while_running made_by_datagram made_by_ruling made_by_proposal propose propose_alone propose_among on_ask accept count_grant on_grant raise count_deny on_deny on_floor on_message tick
returns-clause-ends_at_the_commit c = refl

pub returns-clause-loses : goal.returns-clause-loses
returns-clause-loses c = refl

pub returns-clause-loses_inside : goal.returns-clause-loses_inside
returns-clause-loses_inside c = refl

pub returns-clause-gets : goal.returns-clause-gets
returns-clause-gets c = refl

pub returns-clause-in_end : goal.returns-clause-in_end
unfolding code_at first_words schedule rounds compress hash_after digest_bytes sha1 made_by_event made_while_running made_by_datagram made_by_ruling made_by_proposal propose propose_alone propose_among on_ask accept count_grant on_grant raise count_deny on_deny on_floor on_message tick
returns-clause-in_end c = refl
