use Rattle.std.proofs.Common.{◌≡◌, ℕ, [], ◌∷◌, Some, None, refl, ap, sym, ◌∙◌}
use Rattle.std.specs.Net.Addr.{ipv4_bits}
use Rattle.std.proofs.Math.Logic.{∥∥₁_elim}
use Rattle.datagram_port.specs.Port.{Received}
use Rattle.datagram_port.specs.Setup.{GateSetup}
use Rattle.datagram_port.specs.declared.port.Sender.TheVariants.{Client, Peer}
use Rattle.sealed_port.specs.Port.{handed_in}
use Rattle.sealed_port.specs.Setup.{AreHeard}
use Rattle.sealed_port.proofs.SetupLemmas.{byte_unsealed, handed_for}
use Rattle.udp_port.specs.Address.{number_of}
use Rattle.udp_port.specs.Examples.{at_host}
use Rattle.node_serving.specs.Gate.{gate_from}
use Rattle.node_serving.specs.Setup.{gate_setup_from}
use Rattle.node_serving.specs.SetupExamples.{clients_of}
use Rattle.node_serving.proofs.setup_laws.setups_can_be_broken.Goals as goal

not_heard : (address : ℕ) → AreHeard (gate_setup_from 1 (clients_of [])) (Received (Client address) (0 ∷ []) ∷ []) (Received (Client address) (0 ∷ []) ∷ []) → ⊥
not_heard address h =
    let byte = Received (Client address) (0 ∷ []) in
    let plain : h.0.gate.plain ≡ [] = ap (λ (setup : GateSetup). setup.plain) h.0.of_setup in
    let none : handed_in h.0.gate h.0.now byte ≡ None = byte_unsealed address 0 h.0.gate h.0.now plain in
    let e : Some byte ≡ None = sym (handed_for (gate_setup_from 1 (clients_of [])) byte byte h.0) ∙ none in
    absurd cc

pub returns-clause-unsealed : goal.returns-clause-unsealed
returns-clause-unsealed c h = ∥∥₁_elim h (λ x y. absurd x) (not_heard (number_of (at_host 10 1)))

pub returns-clause-barred : goal.returns-clause-barred
unfolding ipv4_bits
returns-clause-barred c h = absurd cc

pub returns-clause-of_this_machine : goal.returns-clause-of_this_machine
unfolding ipv4_bits
returns-clause-of_this_machine c = refl

pub returns-clause-member_past_the_gate : goal.returns-clause-member_past_the_gate
unfolding ipv4_bits
returns-clause-member_past_the_gate c = ∣ (
  record {
    before = [];
    received = Received (Peer 2) (0 ∷ []);
    after = [];
    is_received = refl;
    gate = gate_from 1 10 (clients_of []);
    of_setup = refl;
    now = None;
    handed = refl;
  },
  tt,
) ∣₁
