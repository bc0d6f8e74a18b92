-- The one event of the port below is handed in as it is, or is no line.
use Rattle.std.proofs.Common.{◌≡◌, ℕ, List, [], ◌∷◌, Option, Some, None, refl, ap, sym, ◌∙◌}
use Rattle.datagram_port.specs.Port.{Received}
use Rattle.datagram_port.specs.Setup.{GateSetup}
use Rattle.datagram_port.specs.declared.port.Sender.TheVariants.{Client, Peer}
use Rattle.hmac_core.specs.Unfolded.sha256_steps
use Rattle.sealed_wire.specs.Body.{head_at}
use Rattle.sealed_wire.specs.Key.{tag_of}
use Rattle.sealed_wire.specs.Sealed.{sealed_at, sealed_bytes}
use Rattle.sealed_wire.specs.Examples.{sealed_line}
use Rattle.sealed_port.specs.Examples.{check_line, first_gate, later_gate, plain_address}
use Rattle.sealed_port.specs.Gate.{GateRecord}
use Rattle.sealed_port.specs.Port.{handed_in}
use Rattle.sealed_port.specs.Setup.{IsHandedFor, gate_setup}
use Rattle.sealed_port.proofs.SetupLemmas.{byte_unsealed, handed_for, none_received}
use Rattle.sealed_port.proofs.worked.records_can_be_broken.Goals as goal

unplain : (plain : List ℕ) (gate : GateRecord) (now : Option ℕ) → plain ≡ gate.plain → plain ≡ 2130706433 ∷ []
    → handed_in (record gate { plain = plain }) now (Received (Client 7) []) ≡ None
unfolding head_at
unplain plain gate now e is = ap (λ (p : List ℕ). handed_in (record gate { plain = p }) now (Received (Client 7) [])) is

pub returns-clause-heard : goal.returns-clause-heard
unfolding tag_of sealed_bytes sealed_at head_at sha256_steps.first_words sha256_steps.schedule sha256_steps.rounds sha256_steps.compress sha256_steps.hash_after sha256_steps.digest_bytes sha256_steps.sha256
returns-clause-heard c =
    let line : IsHandedFor (gate_setup later_gate) (Received (Peer 3) [] ∷ Received (Client 7) sealed_line ∷ []) (Received (Client 281474976710914) check_line) =
    record {
      before = Received (Peer 3) [] ∷ [];
      received = Received (Client 7) sealed_line;
      after = [];
      is_received = refl;
      gate = first_gate;
      of_setup = refl;
      now = Some 1;
      handed = refl;
    } in
    (tt, (line, (tt, (tt, tt))))

pub returns-clause-nothing_below : goal.returns-clause-nothing_below
returns-clause-nothing_below c h = none_received h.0.before h.0.after h.0.received h.0.is_received

pub returns-clause-second_of_nothing : goal.returns-clause-second_of_nothing
returns-clause-second_of_nothing c h = none_received h.1.0.before h.1.0.after h.1.0.received h.1.0.is_received

pub returns-clause-another_member : goal.returns-clause-another_member
returns-clause-another_member c h =
    let e : Some (Received (Peer 3) []) ≡ Some (Received (Peer 2) []) = handed_for (gate_setup first_gate) (Received (Peer 3) []) (Received (Peer 2) []) h.0 in
    absurd cc

pub returns-clause-plain_line : goal.returns-clause-plain_line
returns-clause-plain_line c h =
    let plain : h.0.gate.plain ≡ 2130706433 ∷ [] = ap (λ (setup : GateSetup). setup.plain) h.0.of_setup in
    let none : handed_in h.0.gate h.0.now (Received (Client 7) []) ≡ None = unplain h.0.gate.plain h.0.gate h.0.now refl plain in
    let e : Some (Received (Client 7) []) ≡ None = sym (handed_for (gate_setup first_gate) (Received (Client 7) []) (Received (Client 7) []) h.0) ∙ none in
    absurd cc

pub returns-clause-of_a_plain_address : goal.returns-clause-of_a_plain_address
returns-clause-of_a_plain_address c = (
  record {
    before = [];
    received = Received (Client plain_address) [];
    after = [];
    is_received = refl;
    gate = first_gate;
    of_setup = refl;
    now = None;
    handed = refl;
  },
  tt,
)

pub returns-clause-for_nothing : goal.returns-clause-for_nothing
returns-clause-for_nothing c = λ setup event h. none_received h.before h.after h.received h.is_received

pub returns-clause-for_a_byte : goal.returns-clause-for_a_byte
returns-clause-for_a_byte c = λ setup address byte event plain h.
    let none : handed_in h.gate h.now (Received (Client address) (byte ∷ [])) ≡ None = byte_unsealed address byte h.gate h.now (ap (λ (setup : GateSetup). setup.plain) h.of_setup ∙ plain) in
    let e : Some event ≡ None = sym (handed_for setup (Received (Client address) (byte ∷ [])) event h) ∙ none in
    absurd cc
