-- The end of the command `new-key`.
use Rattle.std.specs.Prelude.{◌≡◌, ℕ, List, Option, Result, Ok, Err, length}
use Rattle.std.specs.Io.KnownBytes.{Appends}
use Rattle.hex.specs.Hex.{encode_lower}
use Rattle.oathd_lines.specs.declared.fault.Fault.TheVariants as lines
use Rattle.program_edge.specs.Line.{line_of}
use Rattle.oathd_tasks.specs.declared.fault.Fault.{Fault}
use Rattle.oathd_tasks.specs.declared.fault.Fault.TheVariants.{Run, NoRandom}

-- a key of 32 bytes is written in hexadecimal digits, followed by LF
pub record WritesKey (old new : Option (List ℕ)) : Type 0 where
  pub key : List ℕ
  pub size : length key ≡ 32
  pub written : Appends old new (line_of (encode_lower key))

-- The command writes a key, the output fails, or there are no random bytes and nothing is written.
abbrev pub NewKeyEndsSo : Result Unit Fault → Option (List ℕ) → Option (List ℕ) → Type 0
NewKeyEndsSo (Ok done) old new = WritesKey old new
NewKeyEndsSo (Err (Run lines.CannotWrite)) old new = Unit {0}
NewKeyEndsSo (Err NoRandom) old new = new ≡ old
NewKeyEndsSo (Err fault) old new = ⊥
