-- Each clause is a lemma.
use Rattle.vote_core.proofs.Frames.{only_message, only_propose}
use Rattle.vote_core.proofs.Names.{proposed_named, heard_named, ticked_named, told_named, enrolled_named}
use Rattle.vote_core.proofs.roster_laws.own_numbers_are_names.Goals as goal

pub returns-clause-proposed : goal.returns-clause-proposed
returns-clause-proposed c = proposed_named

pub returns-clause-heard : goal.returns-clause-heard
returns-clause-heard c = heard_named

pub returns-clause-ticked : goal.returns-clause-ticked
returns-clause-ticked c = ticked_named

pub returns-clause-enrolled : goal.returns-clause-enrolled
returns-clause-enrolled c = enrolled_named

pub returns-clause-others_proposed : goal.returns-clause-others_proposed
returns-clause-others_proposed c place content voter token lo hi drift = only_propose place token lo hi drift content voter

pub returns-clause-others_heard : goal.returns-clause-others_heard
returns-clause-others_heard c place content voter from message = only_message place from message content voter

pub returns-clause-told : goal.returns-clause-told
returns-clause-told c name place told own canonical voter named = told_named name place told own canonical voter named
