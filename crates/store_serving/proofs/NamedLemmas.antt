-- What is the same under names is the same without them.
use Rattle.std.proofs.Common.{◌≡◌, ℕ, List, [], ◌∷◌, Option, Some, None, ap}
use Rattle.std.specs.Prelude.{IsSome}
use Rattle.std.proofs.lemmas.Option.{same_Some}
use Rattle.datagram_port.specs.Setup.{Naming, Setup, under_names}
use Rattle.named_port.specs.Runs.{at_start}
use Rattle.named_port.specs.Setup.{named_setup, naming_of}
use Rattle.named_port.specs.Translator.{TranslatorRecord, new_translator}

-- a naming where there is none
abbrev no_naming : Naming
no_naming = record { key = []; names = []; me = 0; boot = 0 }

abbrev nearest : List Naming → Naming
nearest [] = no_naming
nearest (naming ∷ namings) = naming

abbrev others : List Naming → List Naming
others [] = []
others (naming ∷ namings) = namings

-- the boots before the names
abbrev boots_in : List (List ℕ) → List ℕ
boots_in [] = []
boots_in (boots ∷ names) = boots

abbrev names_in : List (List ℕ) → List (List ℕ)
names_in [] = []
names_in (boots ∷ names) = names

-- the translator of the nearest naming, at its start
abbrev start_in : Setup → TranslatorRecord
start_in setup =
    let naming = nearest setup.namings in
    new_translator naming.key (names_in naming.names) naming.me naming.boot (boots_in naming.names)

-- the setup of the port below
abbrev below_in : Setup → Setup
below_in setup = record setup { namings = others setup.namings }

abbrev some_setup : Setup → Option Setup
some_setup setup = Some setup

-- the translator at its start, and the setup of the port below
pub parts_stay : (t u : TranslatorRecord) (old new : Option Setup) → IsSome old → named_setup u new ≡ named_setup t old
    → (at_start u ≡ at_start t) × (new ≡ old)
parts_stay t u (Some old) (Some new) known same =
    let one = same_Some (under_names (naming_of u) new) (under_names (naming_of t) old) same in
    (ap start_in one, ap some_setup (ap below_in one))
parts_stay t u (Some old) None known same = absurd cc
parts_stay t u None new known same = absurd cc
