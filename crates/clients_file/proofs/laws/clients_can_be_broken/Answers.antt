-- Each part is computed.
use Rattle.std.proofs.Common.{◌≡◌, zero, suc, ◌≤◌, lit<, lit≤, refl, ap, arith}
use Rattle.std.specs.Prelude.{All, slice_index}
use Rattle.sealed_wire.specs.declared.right.Right.TheVariants.{Operator, Reader}
use Rattle.clients_file.specs.Clients.{AreTwo, AreTwoOperators, IsLoopback, IsNoOperator, entry_of}
use Rattle.clients_file.specs.Examples.{client_at, operator_at, operators_clients, whole_clients}
use Rattle.std.specs.List.{AllPairs}
use Rattle.clients_file.proofs.laws.clients_can_be_broken.Goals as goal

seven_and_eight : AreTwo (client_at 7) (client_at 8)
seven_and_eight = record {
  numbers = λ e. absurd (omega (arith, e));
  keys = λ e. let same : 7 ≡ 8 = ap (λ block. slice_index block 15) e in absurd (omega (arith, same));
}

two_apart : AllPairs AreTwo whole_clients.clients
two_apart zero zero d before within = absurd (omega (arith, before))
two_apart zero (suc zero) d before within = seven_and_eight
two_apart zero (suc (suc j)) d before within = absurd (omega (arith, within))
two_apart (suc i) zero d before within = absurd (omega (arith, before))
two_apart (suc i) (suc zero) d before within = absurd (omega (arith, before))
two_apart (suc i) (suc (suc j)) d before within = absurd (omega (arith, within))

one_loopback : All IsLoopback whole_clients.plain
one_loopback zero d within = refl
one_loopback (suc k) d within = absurd (omega (arith, within))

pub returns-clause-clients : goal.returns-clause-clients
returns-clause-clients c = record {
  some = lit≤ tt;
  few = lit≤ tt;
  apart = two_apart;
  operators_apart = λ i j d before within. absurd (omega (arith, within));
  between = λ k d within i e here. absurd (omega (arith, here));
  few_plain = lit≤ tt;
  plain = one_loopback;
  least_ahead = lit≤ tt;
  most_ahead = lit≤ tt;
  failures = (lit≤ tt, lit≤ tt);
}

nine_and_ten : AreTwoOperators (operator_at Operator 9) (operator_at Reader 10)
nine_and_ten = record {
  numbers = λ e. absurd (omega (arith, e));
  keys = λ e. let same : 9 ≡ 10 = ap (λ block. slice_index block 15) e in absurd (omega (arith, same));
}

operators_apart : AllPairs AreTwoOperators operators_clients.operators
operators_apart zero zero d before within = absurd (omega (arith, before))
operators_apart zero (suc zero) d before within = nine_and_ten
operators_apart zero (suc (suc j)) d before within = absurd (omega (arith, within))
operators_apart (suc i) zero d before within = absurd (omega (arith, before))
operators_apart (suc i) (suc zero) d before within = absurd (omega (arith, before))
operators_apart (suc i) (suc (suc j)) d before within = absurd (omega (arith, within))

seven_and_nine : AreTwo (client_at 7) (entry_of (operator_at Operator 9))
seven_and_nine = record {
  numbers = λ e. absurd (omega (arith, e));
  keys = λ e. let same : 7 ≡ 9 = ap (λ block. slice_index block 15) e in absurd (omega (arith, same));
}

seven_and_ten : AreTwo (client_at 7) (entry_of (operator_at Reader 10))
seven_and_ten = record {
  numbers = λ e. absurd (omega (arith, e));
  keys = λ e. let same : 7 ≡ 10 = ap (λ block. slice_index block 15) e in absurd (omega (arith, same));
}

seven_is_none : IsNoOperator operators_clients.operators (client_at 7)
seven_is_none zero d within = seven_and_nine
seven_is_none (suc zero) d within = seven_and_ten
seven_is_none (suc (suc k)) d within = absurd (omega (arith, within))

between : All (IsNoOperator operators_clients.operators) operators_clients.clients
between zero d within = seven_is_none
between (suc k) d within = absurd (omega (arith, within))

pub returns-clause-with_operators : goal.returns-clause-with_operators
returns-clause-with_operators c = record {
  some = lit≤ tt;
  few = lit≤ tt;
  apart = λ i j d before within. absurd (omega (arith, before, within));
  operators_apart = operators_apart;
  between = between;
  few_plain = lit≤ tt;
  plain = λ k d within. absurd (omega (arith, within));
  least_ahead = lit≤ tt;
  most_ahead = lit≤ tt;
  failures = tt;
}

pub returns-clause-thirty_three_each : goal.returns-clause-thirty_three_each
returns-clause-thirty_three_each c = λ clients are one two. let few = are.few in omega (arith, few, one, two)

pub returns-clause-same_operator : goal.returns-clause-same_operator
returns-clause-same_operator c = λ are. (are.operators_apart 0 2 (operator_at Operator 0) (lit< tt) (lit< tt)).numbers refl

pub returns-clause-operator_with_the_key : goal.returns-clause-operator_with_the_key
returns-clause-operator_with_the_key c = λ are. (are.operators_apart 0 1 (operator_at Operator 0) (lit< tt) (lit< tt)).keys refl

pub returns-clause-operator_and_client : goal.returns-clause-operator_and_client
returns-clause-operator_and_client c = λ are. (are.between 0 (client_at 0) (lit< tt) 1 (operator_at Operator 0) (lit< tt)).numbers refl

pub returns-clause-operator_with_a_clients_key : goal.returns-clause-operator_with_a_clients_key
returns-clause-operator_with_a_clients_key c = λ are. (are.between 1 (client_at 0) (lit< tt) 1 (operator_at Operator 0) (lit< tt)).keys refl

pub returns-clause-nobody : goal.returns-clause-nobody
returns-clause-nobody c = λ are. let some : 1 ≤ 0 = are.some in absurd (omega (arith, some))

pub returns-clause-sixty_five : goal.returns-clause-sixty_five
returns-clause-sixty_five c = λ clients are is. let few = are.few in omega (arith, few, is)

pub returns-clause-same_number : goal.returns-clause-same_number
returns-clause-same_number c = λ are. (are.apart 0 2 (client_at 0) (lit< tt) (lit< tt)).numbers refl

pub returns-clause-same_key : goal.returns-clause-same_key
returns-clause-same_key c = λ are. (are.apart 1 2 (client_at 0) (lit< tt) (lit< tt)).keys refl

pub returns-clause-same_block : goal.returns-clause-same_block
returns-clause-same_block c = λ two. two.keys refl

pub returns-clause-seventeen_addresses : goal.returns-clause-seventeen_addresses
returns-clause-seventeen_addresses c = λ are. let few : 17 ≤ 16 = are.few_plain in absurd (omega (arith, few))

pub returns-clause-second_address : goal.returns-clause-second_address
returns-clause-second_address c = λ are. let first : 128 ≡ 127 = are.plain 1 0 (lit< tt) in absurd (omega (arith, first))

pub returns-clause-loopback : goal.returns-clause-loopback
returns-clause-loopback c = refl

pub returns-clause-below_loopback : goal.returns-clause-below_loopback
returns-clause-below_loopback c = λ is. let first : 126 ≡ 127 = is in absurd (omega (arith, first))

pub returns-clause-no_seconds : goal.returns-clause-no_seconds
returns-clause-no_seconds c = λ are. let least : 1 ≤ 0 = are.least_ahead in absurd (omega (arith, least))

pub returns-clause-sixty_one_seconds : goal.returns-clause-sixty_one_seconds
returns-clause-sixty_one_seconds c = λ are. let most : 61 ≤ 60 = are.most_ahead in absurd (omega (arith, most))

pub returns-clause-no_failures : goal.returns-clause-no_failures
returns-clause-no_failures c = λ are. let least : 1 ≤ 0 = are.failures.0 in absurd (omega (arith, least))

pub returns-clause-many_failures : goal.returns-clause-many_failures
returns-clause-many_failures c = λ are. let most : 65536 ≤ 65535 = are.failures.1 in absurd (omega (arith, most))
