-- The setup of a port that tells floors stays.
use Rattle.std.proofs.Common.{◌≡◌, ◌∙◌, [], ◌∷◌, ◌++◌, Option, ap}
use Rattle.datagram_port.specs.Setup.{Naming, Setup, under_names}
use Rattle.std.specs.Option.{option_map}
use Rattle.floor_port.specs.Packer.{PackerRecord}
use Rattle.floor_port.specs.Runs.{Call, after}
use Rattle.floor_port.specs.Setup.{telling_of, telling_setup}
use Rattle.floor_port.specs.declared.record.Record.{Record}
use Rattle.floor_port.proofs.CallLemmas.{same_start}

-- after one more call, of which the record has the same floors
pub setup_noted : (p u : PackerRecord) (before now : Record) (call : Call) (old new : Option Setup) → u ≡ after p call
    → now ≡ record before { calls = before.calls ++ call ∷ [] } → new ≡ old → telling_setup u now.start new ≡ telling_setup p before.start old
setup_noted p u before now call old new is noted same =
    let naming : telling_of u now.start ≡ telling_of p before.start =
    ap (λ (r : Record). telling_of u r.start) noted ∙ ap (λ (x : PackerRecord). telling_of x before.start) is
    ∙ ap (λ (x : PackerRecord). telling_of x before.start) (same_start p call before.start) in
    ap (λ (n : Naming). option_map (under_names n) new) naming ∙ ap (telling_setup p before.start) same
