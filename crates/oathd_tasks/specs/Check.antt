-- The reading of a cluster file, and the end of the command `check`.
use Rattle.std.specs.Prelude.{◌≡◌, ℕ, Bool, true, false, List, [], ◌∷◌, Option, IfSome, Result, Ok, Err}
use Rattle.std.specs.Io.KnownBytes.{Appends}
use Rattle.otp_core.specs.Limits.{Limits}
use Rattle.token_file.specs.Credential.{Credential}
use Rattle.token_file.specs.TypeWord.{has_prefix}
use Rattle.token_file.specs.UsersFile.{book_of, import_of, instant_of}
use Rattle.cluster_file.specs.Check.{named_check_text}
use Rattle.cluster_file.specs.ClusterFile.{ClusterRecord, cluster_of}
use Rattle.cluster_file.specs.Said.{Given, InFile, KeyPlace}
use Rattle.oathd_lines.specs.declared.fault.Fault as lines_fault
use Rattle.oathd_lines.specs.declared.fault.Fault.TheVariants as lines
use Rattle.oathd_tasks.specs.declared.fault.Fault.{Fault}
use Rattle.oathd_tasks.specs.declared.fault.Fault.TheVariants.{Run, ClusterFile, ByteOrderMark}

-- The key is the one in a cluster file. A key in a key file may be any.
abbrev pub IsKeyIn : KeyPlace → List ℕ → Type 0
IsKeyIn (InFile path) key = Unit {0}
IsKeyIn (Given bytes) key = key ≡ bytes

-- the fault is the first one of a cluster file's text, or the allocator refused the memory
abbrev pub IsOfClusterFile : List ℕ → Fault → Type 0
IsOfClusterFile text (Run lines.Memory) = Unit {0}
IsOfClusterFile text (ClusterFile fault) = cluster_of text ≡ Err (fault.line, fault.kind)
IsOfClusterFile text fault = ⊥

-- whether a text begins with the byte order mark of UTF-8
abbrev pub has_mark : List ℕ → Bool
has_mark text = has_prefix text (239 ∷ 187 ∷ 191 ∷ [])

-- The book has the tokens of a users file of at most 16,777,216 bytes, as a node with these limits reads them.
pub record HasTokens (limits : Limits) (book : List Credential) (text : List ℕ) : Type 0 where
  pub floors : List ℕ
  pub read : book_of 16777216 (instant_of limits 0) text ≡ Ok (import_of book floors)

-- The text is written, the output fails, or the allocator refuses the memory and nothing is written.
abbrev pub WritesSo : List ℕ → Result Unit lines_fault.Fault → Option (List ℕ) → Option (List ℕ) → Type 0
WritesSo text (Ok done) old new = Appends old new text
WritesSo text (Err lines.CannotWrite) old new = Unit {0}
WritesSo text (Err lines.Memory) old new = new ≡ old
WritesSo text (Err fault) old new = ⊥

-- What the members of a cluster share, with the tokens of a users file without a byte order mark, is written with its
-- fingerprint. If the cluster file gives names, so are the number of the tokens and the print of their rows.
pub record HasChecked (key : List ℕ) (cluster : ClusterRecord) (users old new : Option (List ℕ)) : Type 0 where
  pub book : List Credential
  pub unmarked : IfSome users (λ rows. has_mark rows ≡ false)
  pub has_tokens : IfSome users (HasTokens cluster.settings book)
  pub written : Appends old new (named_check_text key cluster book)

-- The end of a cluster's check, over a users file if its text is known: everything is written, the output fails, or
-- nothing is written.
abbrev pub EndsUsersSo : List ℕ → ClusterRecord → Option (List ℕ) → Result Unit Fault
    → Option (List ℕ) → Option (List ℕ) → Type 0
EndsUsersSo key cluster users (Ok done) old new = HasChecked key cluster users old new
EndsUsersSo key cluster users (Err (Run lines.CannotWrite)) old new = Unit {0}
EndsUsersSo key cluster users (Err (Run fault)) old new = new ≡ old
EndsUsersSo key cluster users (Err ByteOrderMark) old new = IfSome users (λ rows. has_mark rows ≡ true) × (new ≡ old)
EndsUsersSo key cluster users (Err fault) old new = ⊥

-- The end of the command `check`, over the text of a cluster file, and of a users file if it is known: everything is
-- written, the output fails, or nothing is written. A fault of the cluster file is its first one.
abbrev pub CheckEndsSo : List ℕ → Option (List ℕ) → Result Unit Fault → Option (List ℕ) → Option (List ℕ) → Type 0
CheckEndsSo text users (Ok done) old new =
    (cluster : ClusterRecord) × (cluster_of text ≡ Ok cluster)
    × (key : List ℕ) × IsKeyIn cluster.key key × HasChecked key cluster users old new
CheckEndsSo text users (Err (Run lines.CannotWrite)) old new = Unit {0}
CheckEndsSo text users (Err (ClusterFile fault)) old new =
    (cluster_of text ≡ Err (fault.line, fault.kind)) × (new ≡ old)
CheckEndsSo text users (Err ByteOrderMark) old new = IfSome users (λ rows. has_mark rows ≡ true) × (new ≡ old)
CheckEndsSo text users (Err fault) old new = new ≡ old
