-- Each case is computed.
use Rattle.std.proofs.Common.{refl}
use Rattle.bundle_port.proofs.worked.offers_are_worked.Goals as goal

pub returns-clause-waits : goal.returns-clause-waits
returns-clause-waits c = refl

pub returns-clause-waiting : goal.returns-clause-waiting
returns-clause-waiting c = refl

pub returns-clause-second_waits : goal.returns-clause-second_waits
returns-clause-second_waits c = refl

pub returns-clause-second_waiting : goal.returns-clause-second_waiting
returns-clause-second_waiting c = refl

pub returns-clause-lengths : goal.returns-clause-lengths
returns-clause-lengths c = refl

pub returns-clause-in_order : goal.returns-clause-in_order
returns-clause-in_order c = refl

pub returns-clause-in_order_after : goal.returns-clause-in_order_after
returns-clause-in_order_after c = refl

pub returns-clause-room : goal.returns-clause-room
returns-clause-room c = refl

pub returns-clause-sixth : goal.returns-clause-sixth
returns-clause-sixth c = refl

pub returns-clause-sixth_after : goal.returns-clause-sixth_after
returns-clause-sixth_after c = refl

pub returns-clause-seventh : goal.returns-clause-seventh
returns-clause-seventh c = refl

pub returns-clause-seventh_after : goal.returns-clause-seventh_after
returns-clause-seventh_after c = refl

pub returns-clause-members : goal.returns-clause-members
returns-clause-members c = refl

pub returns-clause-members_after : goal.returns-clause-members_after
returns-clause-members_after c = refl

pub returns-clause-client : goal.returns-clause-client
returns-clause-client c = refl

pub returns-clause-client_after : goal.returns-clause-client_after
returns-clause-client_after c = refl

pub returns-clause-datagrams : goal.returns-clause-datagrams
returns-clause-datagrams c = refl

pub returns-clause-flush : goal.returns-clause-flush
returns-clause-flush c = refl

pub returns-clause-flush_after : goal.returns-clause-flush_after
returns-clause-flush_after c = refl

pub returns-clause-waiting_for : goal.returns-clause-waiting_for
returns-clause-waiting_for c = refl

pub returns-clause-waiting_for_last : goal.returns-clause-waiting_for_last
returns-clause-waiting_for_last c = refl
