-- Each case is computed.
use Rattle.std.proofs.Common.{refl}
use Rattle.std.specs.Fmt.{digits}
use Rattle.vote_wire.specs.Body.{body_at, message_at, floor_at, next_at}
use Rattle.vote_wire.specs.Datagram.{datagram_at, datagram_bytes}
use Rattle.vote_wire.specs.Key.{tag_of}
use Rattle.node_log.specs.Members.{member_line}
use Rattle.node_log.proofs.laws.records_are_worked.Goals as goal

pub returns-clause-heard : goal.returns-clause-heard
unfolding digits member_line datagram_bytes tag_of datagram_at body_at message_at floor_at next_at
returns-clause-heard c = refl

pub returns-clause-known : goal.returns-clause-known
unfolding digits member_line datagram_bytes tag_of datagram_at body_at message_at floor_at next_at
returns-clause-known c = refl

pub returns-clause-now_heard : goal.returns-clause-now_heard
unfolding digits member_line datagram_bytes tag_of datagram_at body_at message_at floor_at next_at
returns-clause-now_heard c = refl

pub returns-clause-unread : goal.returns-clause-unread
unfolding digits member_line datagram_bytes tag_of datagram_at body_at message_at floor_at next_at
returns-clause-unread c = refl

pub returns-clause-not_heard : goal.returns-clause-not_heard
unfolding digits member_line datagram_bytes tag_of datagram_at body_at message_at floor_at next_at
returns-clause-not_heard c = refl

pub returns-clause-of_another : goal.returns-clause-of_another
unfolding digits member_line datagram_bytes tag_of datagram_at body_at message_at floor_at next_at
returns-clause-of_another c = refl

pub returns-clause-silent : goal.returns-clause-silent
unfolding digits member_line datagram_bytes tag_of datagram_at body_at message_at floor_at next_at
returns-clause-silent c = refl
