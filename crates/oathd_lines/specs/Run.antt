-- The answers and the end of a run over one input.
use Rattle.std.specs.Prelude.{◌≡◌, ℕ, ◌+◌, List, [], map, length, take, flat_map, Option, Some, None, Result, Ok, Err, IsTrue}
use Rattle.std.specs.Io.KnownBytes.{Appends}
use Rattle.program_edge.specs.Line.{line_of}
use Rattle.otp_core.specs.Limits.{Limits}
use Rattle.oath_node.specs.ReferenceServer.{Line, Server}
use Rattle.oath_node.specs.Report.{LineAnswer, report_from, report_of}
use Rattle.oathd_lines.specs.Client.{LinesRead, client_lines}
use Rattle.users_input.specs.Input.{TextLine, lines_of, users_file, users_part, rest_part}
use Rattle.oathd_lines.specs.declared.fault.Fault.{Fault}
use Rattle.oathd_lines.specs.declared.fault.Fault.TheVariants.{Memory, CannotRead, CannotWrite, Users, InputLine as BadLine}
use Rattle.token_file.specs.Credential.{Credential}
use Rattle.token_file.specs.UsersFile.{Import, IsCutOff, book_of, instant_of, is_of_text}
use Rattle.token_file.specs.declared.fault.FileFault.{FileFault}
use Rattle.token_file.specs.declared.fault.LineFault.{LineFault}
use Rattle.token_file.specs.declared.fault.LineFault.TheVariants.{Read}

-- the result of a run over one input
pub data Run : Type 0 where
  -- the users file has a fault, and no line is answered
  Refused : FileFault → Run
  -- the answers to the lines before the first bad line, and the number of the bad line
  Answered : List (List ℕ) → Option ℕ → Run

-- the bytes of an answer
abbrev pub bytes_of : LineAnswer → List ℕ
bytes_of answer = answer.bytes

-- the answers of one node to lines, from the floors of the import on (floor: the first free factor)
abbrev pub answers_of : Limits → Import → List Line → List (List ℕ)
answers_of limits import lines = map bytes_of (report_of import.book limits import.floors lines).answers

-- the answers of the reference server to lines, from a state on
abbrev pub answers_from : List Credential → Limits → Server → List Line → List (List ℕ)
answers_from book limits server lines = map bytes_of (report_from book limits 0 server lines).answers

-- a server's run: the lines before the first bad line are answered. Private contracts alone cite it.
abbrev pub run_of_server : List Credential → Limits → Server → LinesRead → Run
run_of_server book limits server lines = Answered (answers_from book limits server lines.good) lines.bad

-- an import's run: the lines before the first bad line are answered
abbrev pub run_of_lines : Limits → Import → LinesRead → Run
run_of_lines limits import lines = Answered (answers_of limits import lines.good) lines.bad

-- the run after the users file was read: an import, or its first fault
abbrev pub run_of_users : Limits → Result Import (ℕ × LineFault) → LinesRead → Run
run_of_users limits (Err fault) lines = Refused (record { line = fault.0; kind = fault.1 })
run_of_users limits (Ok import) lines = run_of_lines limits import lines

-- The lines of clients in an input. Lines are numbered from 1; the clients' follow the users file and `%%`.
abbrev pub clients_of : List TextLine → LinesRead
clients_of lines = client_lines (length (users_part lines) + 2) (rest_part lines)

-- a server's parameters: its limits, and the moment of the users' import
pub record Setup : Type 0 where
  pub limits : Limits
  pub moment : ℕ

-- the run over the bytes that were read of an input
abbrev pub run_read : Setup → ℕ → ℕ → List ℕ → Run
run_read setup longest limit read =
    run_of_users setup.limits
    (book_of longest (instant_of setup.limits setup.moment) (users_file (lines_of limit read) read))
    (clients_of (lines_of limit read))

-- The run over a text, with at most `longest` bytes for a users file and `limit` bytes for the input. One more byte is
-- read, to see whether the input continues.
abbrev pub run_of : Setup → ℕ → ℕ → List ℕ → Run
run_of setup longest limit text = run_read setup longest limit (take (limit + 1) text)

-- the run of the command `lines`: the input and its users file have at most 16 MiB each
abbrev pub run_of_input : Limits → ℕ → List ℕ → Run
run_of_input limits moment text = run_of (record { limits = limits; moment = moment }) 16777216 16777216 text

-- answers, one on each line
abbrev pub printed_lines : List (List ℕ) → List ℕ
printed_lines answers = flat_map line_of answers

-- the output of a run
abbrev pub output_of : Run → List ℕ
output_of (Refused fault) = []
output_of (Answered answers bad) = printed_lines answers

-- the end at the first bad line, if there is one
abbrev pub end_at : Option ℕ → Result Unit Fault
end_at None = Ok tt
end_at (Some number) = Err (BadLine number)

-- the end of a run
abbrev pub end_of : Run → Result Unit Fault
end_of (Refused fault) = Err (Users fault)
end_of (Answered answers bad) = end_at bad

-- the first `count` answers of a run
abbrev pub first_answers : ℕ → Run → List (List ℕ)
first_answers count (Refused fault) = []
first_answers count (Answered answers bad) = take count answers

-- a prefix of a run's answers is written, and nothing else
pub record WritesFirst (run : Run) (old new : Option (List ℕ)) : Type 0 where
  pub count : ℕ
  pub written : Appends old new (printed_lines (first_answers count run))

-- the users file of a run is accepted
abbrev pub IsTaken : Run → Type 0
IsTaken (Refused fault) = ⊥
IsTaken (Answered answers bad) = Unit {0}

-- The call ends as the run does and has written exactly the run's output, except in three cases. After a refused
-- allocation, or a failure of the input past an accepted users file, a prefix of the answers is written. A failure
-- within the users file is a fault of that file. After a failure of the output, nothing more is promised.
abbrev pub EndsSo : Run → Result Unit Fault → Option (List ℕ) → Option (List ℕ) → Type 0
EndsSo run (Err Memory) old new = WritesFirst run old new
EndsSo run (Err CannotRead) old new = IsTaken run × WritesFirst run old new
EndsSo run (Err CannotWrite) old new = Unit {0}
EndsSo run (Err (Users fault)) old new =
    (IsTrue (is_of_text fault.kind) → Err (Users fault) ≡ end_of run) × Appends old new []
EndsSo run result old new = (result ≡ end_of run) × Appends old new (output_of run)

-- the users file is refused: for its first fault, or for one that the allocator or the reader caused
abbrev pub RefusesUsers : Result Import (ℕ × LineFault) → Fault → Type 0
RefusesUsers import (Users fault) = IsTrue (is_of_text fault.kind) → import ≡ Err (fault.line, fault.kind)
RefusesUsers import _ = ⊥

-- If the input fails within a users file, the fault names the line that was being read, and the text before it has no
-- fault.
abbrev pub IsCutSo : Setup → ℕ → ℕ → List ℕ → Fault → Type 0
IsCutSo setup longest limit read (Users fault) = fault.kind ≡ Read
    → IsCutOff Read longest (instant_of setup.limits setup.moment) (users_file (lines_of limit read) read) fault.line
IsCutSo setup longest limit read fault = Unit {0}

-- the fault is not one of a users file. Private contracts alone cite it.
abbrev pub IsBehindUsers : Fault → Type 0
IsBehindUsers (Users fault) = ⊥
IsBehindUsers fault = Unit {0}
