-- The program's test of the messages that a node hears. Only private contracts cite it: no public contract depends on
-- it.
use Rattle.std.specs.Prelude.{◌≡◌, ℕ}
use Rattle.vote_core.specs.Calls.{FitsVoter, IsOther}
use Rattle.vote_core.specs.NodeSet.{PlaceRecord}
use Rattle.vote_core.specs.declared.message.Message.{Message}

-- the message names the member that sent it, is for this node, and fits its voter
pub record IsHeardAs (place : PlaceRecord) (tokens from sender to : ℕ) (message : Message) : Type 0 where
  pub is_sender : sender ≡ from
  pub is_receiver : to ≡ place.me
  pub other : IsOther place from
  pub fits : FitsVoter place tokens from message
