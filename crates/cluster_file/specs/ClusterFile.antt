-- The content of a cluster file. The first fault of the first faulty line decides; without one a missing value does.
use Rattle.std.specs.Prelude.{ℕ, ◌+◌, ◌==◌, nat_le, Bool, true, false, List, [], ◌∷◌, length, map, take, Option, Some, None, Result, Ok, Err, unwrap_or, if◌then◌else◌}
use Rattle.std.specs.Option.{option_copied}
use Rattle.otp_core.specs.Limits.{Limits}
use Rattle.token_file.specs.Fields.{fields_of, lines_of}
use Rattle.cluster_file.specs.declared.cluster.Cluster.{Cluster}
use Rattle.cluster_file.specs.declared.fault.LineFault.{LineFault}
use Rattle.cluster_file.specs.declared.fault.LineFault.TheVariants.{NoMember, NoKey, NoLife, NoNames, TooLong, Memory}
use Rattle.cluster_file.specs.Address.{Address, address_value}
use Rattle.cluster_file.specs.Fields.{◌>>=◌}
use Rattle.cluster_file.specs.Said.{KeyPlace, Said, after_fields, key_place, nothing_said}

-- the content of a whole file
pub record ClusterRecord : Type 0 where
  pub members : List Address
  pub settings : Limits
  pub key : KeyPlace
  pub life : List ℕ
  pub names : Option (List ℕ)
  pub fresh : Bool

-- the value of a cluster
abbrev pub cluster_value : Cluster → ClusterRecord
cluster_value cluster =
    record {
      members = map address_value cluster.members.items;
      settings = cluster.settings;
      key = key_place cluster.key;
      life = cluster.life.now;
      names = option_copied cluster.names;
      fresh = cluster.fresh;
    }

-- the given settings, with defaults for the others
abbrev pub settings_of : Said → Limits
settings_of said =
    record {
      look_ahead = unwrap_or said.look_ahead 10;
      skew = unwrap_or said.skew 1;
      range = unwrap_or said.range 100;
      drift = unwrap_or said.drift 0;
    }

-- whether the lines give `new-tokens` without the names that it needs
abbrev pub lacks_names : Bool → Option (List ℕ) → Bool
lacks_names true None = true
lacks_names fresh names = false

-- the cluster of the lines with a key and a life
abbrev pub cluster_with_names : Said → KeyPlace → List ℕ → Result ClusterRecord LineFault
cluster_with_names said key life =
    if lacks_names said.fresh said.names then Err NoNames
    else Ok (record {
      members = said.members;
      settings = settings_of said;
      key = key;
      life = life;
      names = said.names;
      fresh = said.fresh;
    })

-- the cluster of the lines with a key, and with a life if the lines give one
abbrev pub cluster_with_life : Said → KeyPlace → Option (List ℕ) → Result ClusterRecord LineFault
cluster_with_life said key None = Err NoLife
cluster_with_life said key (Some life) = cluster_with_names said key life

-- the cluster of the lines, with a key if the lines give one
abbrev pub cluster_with_key : Said → Option KeyPlace → Result ClusterRecord LineFault
cluster_with_key said None = Err NoKey
cluster_with_key said (Some key) = cluster_with_life said key said.life

-- the cluster of all lines, or the fault of a missing value
abbrev pub finished : Said → Result ClusterRecord LineFault
finished said = if length said.members == 0 then Err NoMember else cluster_with_key said said.key

-- an outcome with the line number of a fault
abbrev pub at_line : {A : Type 0} → ℕ → Result A LineFault → Result A (ℕ × LineFault)
at_line number (Ok value) = Ok value
at_line number (Err fault) = Err (number, fault)

-- the values of the lines from a number on, added to earlier values
abbrev pub after_lines : ℕ → Said → List (List ℕ) → Result Said (ℕ × LineFault)
after_lines number said [] = Ok said
after_lines number said (line ∷ lines) = do
  new ← at_line number (after_fields said (fields_of line))
  after_lines (number + 1) new lines

-- The cluster of a text of at most `limit` bytes, or its first fault with the line. A missing value has the number of
-- the line after the last LF. A text that is too long is not read: its fault has the line of the first byte above the
-- limit.
abbrev pub outcome_of : ℕ → List ℕ → Result ClusterRecord (ℕ × LineFault)
outcome_of limit text =
    if nat_le (length text) limit then (do
      said ← after_lines 1 nothing_said (lines_of text)
      at_line (length (lines_of text)) (finished said))
    else Err (length (lines_of (take limit text)), TooLong)

-- the cluster of a file of at most 65,536 bytes
abbrev pub cluster_of : List ℕ → Result ClusterRecord (ℕ × LineFault)
cluster_of text = outcome_of 65536 text

-- whether a fault is a refused allocation, and not one of the text
abbrev pub is_memory : LineFault → Bool
is_memory Memory = true
is_memory fault = false
