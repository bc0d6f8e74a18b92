-- Each case is computed.
use Rattle.std.proofs.Common.{refl}
use Rattle.bundle_port.proofs.worked.lists_are_worked.Goals as goal

pub returns-clause-parts : goal.returns-clause-parts
returns-clause-parts c = refl

pub returns-clause-own : goal.returns-clause-own
returns-clause-own c = refl

pub returns-clause-offered : goal.returns-clause-offered
returns-clause-offered c = refl

pub returns-clause-received : goal.returns-clause-received
returns-clause-received c = refl

pub returns-clause-datagrams : goal.returns-clause-datagrams
returns-clause-datagrams c = refl

pub returns-clause-left : goal.returns-clause-left
returns-clause-left c = refl

pub returns-clause-bundle_as_an_offer : goal.returns-clause-bundle_as_an_offer
returns-clause-bundle_as_an_offer c = refl
