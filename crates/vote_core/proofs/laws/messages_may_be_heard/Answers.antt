use Rattle.vote_core.proofs.Envelopes.{envelopes_hold}
use Rattle.vote_core.proofs.laws.messages_may_be_heard.Goals as goal

pub returns : goal.returns
returns c = envelopes_hold
