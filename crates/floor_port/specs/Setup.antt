-- The setup of a port that tells floors.
use Rattle.std.specs.Prelude.{ℕ, Bool, if◌then◌else◌, List, ◌∷◌, Option, map}
use Rattle.std.specs.Option.{option_map}
use Rattle.datagram_port.specs.Setup.{Naming, Setup, under_names}
use Rattle.floor_port.specs.Packer.{PackerRecord, StartRecord}

-- for each member 1 if it is known to have gone back, else 0
abbrev pub marks_of : List Bool → List ℕ
marks_of gone_back = map (λ one. if one then 1 else 0) gone_back

-- What a packer packs by, from its start. Before the names it has a list of the number of members and the floors of the
-- start, a list of the members that are known to have gone back, and the boots that are known.
abbrev pub telling_of : PackerRecord → StartRecord → Naming
telling_of packer start = record {
  key = packer.key;
  names = (packer.members ∷ start.floors) ∷ marks_of start.gone_back ∷ start.known ∷ packer.rows.names;
  me = packer.me;
  boot = packer.boot;
}

-- the setup of a port with the packer over a port with the given setup
abbrev pub telling_setup : PackerRecord → StartRecord → Option Setup → Option Setup
telling_setup packer start below = option_map (under_names (telling_of packer start)) below
