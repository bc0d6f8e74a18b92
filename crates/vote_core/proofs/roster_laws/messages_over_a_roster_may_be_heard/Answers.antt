use Rattle.vote_core.proofs.Rosters.{heard_over}
use Rattle.vote_core.proofs.roster_laws.messages_over_a_roster_may_be_heard.Goals as goal

pub returns : goal.returns
returns c = heard_over
