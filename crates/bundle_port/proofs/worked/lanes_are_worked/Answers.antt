-- Each case is computed.
use Rattle.std.proofs.Common.{refl}
use Rattle.bundle_port.proofs.worked.lanes_are_worked.Goals as goal

pub returns-clause-count : goal.returns-clause-count
returns-clause-count c = refl

pub returns-clause-busy_wait : goal.returns-clause-busy_wait
returns-clause-busy_wait c = refl

pub returns-clause-most : goal.returns-clause-most
returns-clause-most c = refl

pub returns-clause-calm : goal.returns-clause-calm
returns-clause-calm c = refl

pub returns-clause-lengths : goal.returns-clause-lengths
returns-clause-lengths c = refl

pub returns-clause-quiet_waits : goal.returns-clause-quiet_waits
returns-clause-quiet_waits c = refl

pub returns-clause-at_once : goal.returns-clause-at_once
returns-clause-at_once c = refl

pub returns-clause-at_once_after : goal.returns-clause-at_once_after
returns-clause-at_once_after c = refl

pub returns-clause-ninth : goal.returns-clause-ninth
returns-clause-ninth c = refl

pub returns-clause-second_waits : goal.returns-clause-second_waits
returns-clause-second_waits c = refl

pub returns-clause-later_are_joined : goal.returns-clause-later_are_joined
returns-clause-later_are_joined c = refl

pub returns-clause-busy_again : goal.returns-clause-busy_again
returns-clause-busy_again c = refl

pub returns-clause-own_lane : goal.returns-clause-own_lane
returns-clause-own_lane c = refl

pub returns-clause-no_part : goal.returns-clause-no_part
returns-clause-no_part c = refl

pub returns-clause-two_of_no_part : goal.returns-clause-two_of_no_part
returns-clause-two_of_no_part c = refl

pub returns-clause-clients : goal.returns-clause-clients
returns-clause-clients c = refl

pub returns-clause-polls : goal.returns-clause-polls
returns-clause-polls c = refl
