-- The output and the end of a cluster. A network has no contract, so only the form of a reply's line is promised.
use Rattle.std.specs.Prelude.{◌≡◌, ℕ, ◌+◌, List, [], ◌∷◌, map, take, Option, Some, None, Result, Ok, Err, IsTrue}
use Rattle.std.specs.List.{flat_map}
use Rattle.std.specs.Io.KnownBytes.{Appends}
use Rattle.program_edge.specs.Line.{line_of}
use Rattle.otp_core.specs.Limits.{Limits}
use Rattle.token_file.specs.UsersFile.{book_of, instant_of, is_of_text}
use Rattle.oathd_cluster.specs.Line.{LinesRead, NodeLine}
use Rattle.oathd_cluster.specs.declared.fault.Fault.{Fault}
use Rattle.oathd_cluster.specs.declared.fault.Fault.TheVariants.{Memory, CannotRead, CannotWrite, Users, InputLine, Socket, Node}

-- the node of a line, and the text of its reply, or - without one in time
pub record Reply : Type 0 where
  pub node : ℕ
  pub text : List ℕ

-- the output for a line: the digit of the node, a space, and the reply
abbrev pub reply_text : Reply → List ℕ
reply_text reply = (48 + reply.node) ∷ 32 ∷ reply.text

-- replies, one on each line
abbrev pub printed : List Reply → List ℕ
printed replies = flat_map (λ reply. line_of (reply_text reply)) replies

-- a reply for each line is written, in order, and nothing else
pub record WritesReplies (lines : List NodeLine) (old new : Option (List ℕ)) : Type 0 where
  pub replies : List Reply
  pub each : map (λ (reply : Reply). reply.node) replies ≡ map (λ (line : NodeLine). line.node) lines
  pub written : Appends old new (printed replies)

-- replies for a prefix of the lines are written, and nothing else
pub record WritesFirst (lines : List NodeLine) (old new : Option (List ℕ)) : Type 0 where
  pub count : ℕ
  pub writes : WritesReplies (take count lines) old new

-- The end of a call over lines: each line before the first bad one has its reply, and the bad line is named. After a
-- refused allocation, or a failure of the input, a socket or a node, a prefix of the lines has replies, each complete.
-- After a failure of the output, nothing more is promised. If the users file is refused, nothing is written.
abbrev pub EndsSo : LinesRead → Result Unit Fault → Option (List ℕ) → Option (List ℕ) → Type 0
EndsSo lines (Ok done) old new = (lines.bad ≡ None) × WritesReplies lines.good old new
EndsSo lines (Err (InputLine number)) old new = (lines.bad ≡ Some number) × WritesReplies lines.good old new
EndsSo lines (Err CannotWrite) old new = Unit {0}
EndsSo lines (Err (Users fault)) old new = Appends old new []
EndsSo lines (Err Memory) old new = WritesFirst lines.good old new
EndsSo lines (Err CannotRead) old new = WritesFirst lines.good old new
EndsSo lines (Err Socket) old new = WritesFirst lines.good old new
EndsSo lines (Err (Node fault)) old new = WritesFirst lines.good old new

-- The users file, of at most `longest` bytes, is refused: for its first fault, or for one that the reader or the
-- allocator caused.
abbrev pub RefusesUsers : Limits → ℕ → ℕ → List ℕ → Fault → Type 0
RefusesUsers limits moment longest text (Users fault) =
    IsTrue (is_of_text fault.kind) → book_of longest (instant_of limits moment) text ≡ Err (fault.line, fault.kind)
RefusesUsers limits moment longest text fault = Unit {0}

-- the fault is not one of a users file. Private contracts alone cite it.
abbrev pub IsBehindUsers : Fault → Type 0
IsBehindUsers (Users fault) = ⊥
IsBehindUsers fault = Unit {0}

-- the fault is one of a users file. Private contracts alone cite it.
abbrev pub IsOfUsers : Fault → Type 0
IsOfUsers (Users fault) = Unit {0}
IsOfUsers fault = ⊥
