-- Each is computed.
use Rattle.std.proofs.Common.{refl}
use Rattle.vote_core.specs.Books.{after_course, go}
use Rattle.vote_core.specs.Schedule.{cluster_after, with_proposal_begun, after_restart}
use Rattle.vote_core.specs.Voting.{propose, propose_alone, propose_among, on_ask, accept, count_grant, on_grant, raise, count_deny, on_deny, on_floor, on_message, tell, tick}
use Rattle.vote_core.proofs.roster_laws.books_are_worked.Goals as goal

pub returns-clause-crossed : goal.returns-clause-crossed
unfolding go after_course with_proposal_begun cluster_after after_restart propose propose_alone propose_among on_ask accept count_grant on_grant raise count_deny on_deny on_floor on_message tick
returns-clause-crossed c = refl

pub returns-clause-again : goal.returns-clause-again
unfolding go after_course with_proposal_begun cluster_after after_restart propose propose_alone propose_among on_ask accept count_grant on_grant raise count_deny on_deny on_floor on_message tick
returns-clause-again c = refl

pub returns-clause-twice : goal.returns-clause-twice
unfolding go after_course with_proposal_begun cluster_after after_restart propose propose_alone propose_among on_ask accept count_grant on_grant raise count_deny on_deny on_floor on_message tick
returns-clause-twice c = refl

pub returns-clause-turns : goal.returns-clause-turns
unfolding go after_course with_proposal_begun cluster_after after_restart propose propose_alone propose_among on_ask accept count_grant on_grant raise count_deny on_deny on_floor on_message tick
returns-clause-turns c = refl

pub returns-clause-remade : goal.returns-clause-remade
unfolding go after_course with_proposal_begun cluster_after after_restart propose propose_alone propose_among on_ask accept count_grant on_grant raise count_deny on_deny on_floor on_message tick
returns-clause-remade c = refl

pub returns-clause-remade_too_low : goal.returns-clause-remade_too_low
unfolding go after_course with_proposal_begun cluster_after after_restart propose propose_alone propose_among on_ask accept count_grant on_grant raise count_deny on_deny on_floor on_message tick
returns-clause-remade_too_low c = refl

pub returns-clause-remade_without : goal.returns-clause-remade_without
unfolding go after_course with_proposal_begun cluster_after after_restart propose propose_alone propose_among on_ask accept count_grant on_grant raise count_deny on_deny on_floor on_message tick
returns-clause-remade_without c = refl

pub returns-clause-rows : goal.returns-clause-rows
unfolding go after_course with_proposal_begun cluster_after after_restart propose propose_alone propose_among on_ask accept count_grant on_grant raise count_deny on_deny on_floor on_message tick tell
returns-clause-rows c = refl
