use Rattle.std.proofs.Common.{List, ap, map, refl}
use Rattle.clients_file.specs.declared.clients.ClientEntry.{ClientEntry}
use Rattle.node_serving.proofs.setup_laws.lines_given_again_can_be_broken.Goals as goal

pub returns-clause-anybody : goal.returns-clause-anybody
returns-clause-anybody c = refl

pub returns-clause-anybody_for_this_machine : goal.returns-clause-anybody_for_this_machine
returns-clause-anybody_for_this_machine c h = absurd cc

pub returns-clause-this_machine : goal.returns-clause-this_machine
returns-clause-this_machine c = refl

pub returns-clause-this_machine_for_anybody : goal.returns-clause-this_machine_for_anybody
returns-clause-this_machine_for_anybody c h = absurd cc

pub returns-clause-clients : goal.returns-clause-clients
returns-clause-clients c = (refl, refl, refl, refl, refl)

pub returns-clause-another_key : goal.returns-clause-another_key
returns-clause-another_key c h =
    let e = ap (λ (all : List ClientEntry). map (λ (entry : ClientEntry). entry.key) all) h.0 in
    absurd cc

pub returns-clause-another_operator : goal.returns-clause-another_operator
returns-clause-another_operator c h = let e = h.1 in absurd cc

pub returns-clause-another_address : goal.returns-clause-another_address
returns-clause-another_address c h = let e = h.2 in absurd cc

pub returns-clause-another_lead : goal.returns-clause-another_lead
returns-clause-another_lead c h = let e = h.3 in absurd cc

pub returns-clause-another_limit : goal.returns-clause-another_limit
returns-clause-another_limit c h = let e = h.4 in absurd cc

pub returns-clause-anybody_for_clients : goal.returns-clause-anybody_for_clients
returns-clause-anybody_for_clients c h = h

pub returns-clause-this_machine_for_clients : goal.returns-clause-this_machine_for_clients
returns-clause-this_machine_for_clients c h = h
