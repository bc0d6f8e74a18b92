-- The end of the command `new-cluster`.
use Rattle.std.specs.Prelude.{◌≡◌, ℕ, List, ◌++◌, Option, Result, Ok, Err, length, codes}
use Rattle.std.specs.Io.KnownBytes.{Appends}
use Rattle.hex.specs.Hex.{encode_lower}
use Rattle.oathd_lines.specs.declared.fault.Fault.TheVariants as lines
use Rattle.oathd_tasks.specs.declared.fault.Fault.{Fault}
use Rattle.oathd_tasks.specs.declared.fault.Fault.TheVariants.{Run, NoRandom}

-- the line of a names word that is the bytes in hexadecimal digits, without its LF
unfoldable pub names_line : List ℕ → List ℕ
names_line bytes = codes "names " ++ encode_lower bytes

-- the lines of a cluster file but the members, with the names word of the bytes
unfoldable pub new_cluster_text : List ℕ → List ℕ
new_cluster_text bytes = names_line bytes ++ codes "\nlife 1\nkey-file key\n"

-- a cluster file with a names word of 16 bytes is written
pub record WritesCluster (old new : Option (List ℕ)) : Type 0 where
  pub bytes : List ℕ
  pub size : length bytes ≡ 16
  pub written : Appends old new (new_cluster_text bytes)

-- The command writes a cluster file, the output fails, or there are no random bytes and nothing is written.
abbrev pub NewClusterEndsSo : Result Unit Fault → Option (List ℕ) → Option (List ℕ) → Type 0
NewClusterEndsSo (Ok done) old new = WritesCluster old new
NewClusterEndsSo (Err (Run lines.CannotWrite)) old new = Unit {0}
NewClusterEndsSo (Err NoRandom) old new = new ≡ old
NewClusterEndsSo (Err fault) old new = ⊥
