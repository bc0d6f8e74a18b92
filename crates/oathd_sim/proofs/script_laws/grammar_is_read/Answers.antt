-- The grammar decides what the reader of lines reads.
use Rattle.oathd_sim.proofs.GrammarLemmas.{event_again, event_is, live_again, live_is, round_again, round_is}
use Rattle.oathd_sim.proofs.script_laws.grammar_is_read.Goals as goal

pub returns-clause-event : goal.returns-clause-event
returns-clause-event c line event = (event_again line event, event_is line event)

pub returns-clause-live : goal.returns-clause-live
returns-clause-live c nodes line live = (live_again nodes line live, live_is nodes line live)

pub returns-clause-round : goal.returns-clause-round
returns-clause-round c live line round = (round_again live line round, round_is live line round)
