-- What is the same under a port that tells floors is the same without it.
use Rattle.std.proofs.Common.{◌≡◌, ◌∙◌, ℕ, Bool, true, false, leb, List, [], ◌∷◌, map, Option, Some, None, ap, refl, sym}
use Rattle.std.specs.Prelude.{IsSome}
use Rattle.std.proofs.lemmas.Option.{same_Some}
use Rattle.datagram_port.specs.Setup.{Naming, Setup, under_names}
use Rattle.floor_port.specs.Packer.{PackerRecord, StartRecord, new_packer}
use Rattle.floor_port.specs.Runs.{at_start}
use Rattle.floor_port.specs.Setup.{marks_of, telling_of, telling_setup}

-- a naming where there is none
abbrev no_naming : Naming
no_naming = record { key = []; names = []; me = 0; boot = 0 }

abbrev nearest : List Naming → Naming
nearest [] = no_naming
nearest (naming ∷ namings) = naming

abbrev others : List Naming → List Naming
others [] = []
others (naming ∷ namings) = namings

-- the first number of a list, and the others
abbrev first_in : List ℕ → ℕ
first_in [] = 0
first_in (one ∷ numbers) = one

abbrev rest_in : List ℕ → List ℕ
rest_in [] = []
rest_in (one ∷ numbers) = numbers

-- the first list, and the others
abbrev head_in : List (List ℕ) → List ℕ
head_in [] = []
head_in (one ∷ lists) = one

abbrev tail_in : List (List ℕ) → List (List ℕ)
tail_in [] = []
tail_in (one ∷ lists) = lists

-- the marked members
abbrev unmarked : List ℕ → List Bool
unmarked marks = map (leb 1) marks

-- what the nearest naming begins with
abbrev begun_in : Setup → StartRecord
begun_in setup =
    let names = (nearest setup.namings).names in
    record { gone_back = unmarked (head_in (tail_in names)); known = head_in (tail_in (tail_in names)); floors = rest_in (head_in names) }

-- the packer of the nearest naming, at its start
abbrev start_in : Setup → PackerRecord
start_in setup =
    let naming = nearest setup.namings in
    new_packer naming.key (tail_in (tail_in (tail_in naming.names))) naming.me naming.boot (first_in (head_in naming.names)) (begun_in setup)

-- marks tell who is marked
unmarked_marks : (members : List Bool) → unmarked (marks_of members) ≡ members
unmarked_marks [] = refl
unmarked_marks (true ∷ members) = ap (λ (all : List Bool). true ∷ all) (unmarked_marks members)
unmarked_marks (false ∷ members) = ap (λ (all : List Bool). false ∷ all) (unmarked_marks members)

abbrev start_with : StartRecord → List Bool → StartRecord
start_with start gone_back = record start { gone_back = gone_back }

-- a start is read from its setup
start_read : (p : PackerRecord) (start : StartRecord) (below : Setup) → start_in (under_names (telling_of p start) below) ≡ at_start p start
start_read p start below =
    ap (λ (all : List Bool). new_packer p.key p.rows.names p.me p.boot p.members (start_with start all)) (unmarked_marks start.gone_back)

-- the setup of the port below
abbrev below_in : Setup → Setup
below_in setup = record setup { namings = others setup.namings }

abbrev some_setup : Setup → Option Setup
some_setup setup = Some setup

-- there is a setup below one of a port that tells floors
pub known_above : (p : PackerRecord) (start : StartRecord) (below : Option Setup) → IsSome below → IsSome (telling_setup p start below)
known_above p start (Some below) known = known
known_above p start None known = absurd cc

-- the packer at its start, and the setup of the port below
pub telling_stays : (p u : PackerRecord) (was now : StartRecord) (old new : Option Setup) → IsSome old → telling_setup u now new ≡ telling_setup p was old
    → (at_start u now ≡ at_start p was) × (new ≡ old)
telling_stays p u was now (Some old) (Some new) known same =
    let one = same_Some (under_names (telling_of u now) new) (under_names (telling_of p was) old) same in
    (sym (start_read u now new) ∙ ap start_in one ∙ start_read p was old, ap some_setup (ap below_in one))
telling_stays p u was now (Some old) None known same = absurd cc
telling_stays p u was now None new known same = absurd cc
