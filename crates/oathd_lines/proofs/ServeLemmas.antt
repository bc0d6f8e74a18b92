-- Lines of clients are answered one after another.
use Rattle.std.proofs.Common.{◌≡◌, ◌≤◌, ℕ, ◌+◌, List, [], ◌∷◌, ◌++◌, length, take, Option, Some, None, IfSome, refl, sym, ap, subst, ◌∙◌, inl, inr}
use Rattle.std.specs.Prelude.{◌⊎◌, map, Result, Ok, Err, IfErr, IsErrAnd, IsTrue}
use Rattle.std.specs.Option.{option_map}
use Rattle.std.specs.Io.KnownBytes.{Appends}
use Rattle.std.proofs.KnownBytes.{Appends-nil, Appends-trans}
use Rattle.std.proofs.Math.Seq.{take-append_seam}
use Rattle.std.proofs.lemmas.List.Concat.{flat_map-append}
use Rattle.std.proofs.lemmas.List.{append-nil, append_assoc}
use Rattle.std.proofs.lemmas.Option.{IfSome_then}
use Rattle.program_edge.specs.Line.{line_of}
use Rattle.otp_core.specs.Limits.{Limits}
use Rattle.token_file.specs.Credential.{Credential}
use Rattle.token_file.specs.Source.{OfText, Stays}
use Rattle.token_file.specs.UsersFile.{Import, IsCutOff, book_of, instant_of, is_of_text}
use Rattle.token_file.specs.declared.fault.FileFault.{FileFault}
use Rattle.token_file.specs.declared.fault.LineFault.{LineFault}
use Rattle.token_file.specs.declared.fault.LineFault.TheVariants.{Read}
use Rattle.oath_node.specs.ReferenceServer.{Line, Server, server_at, service_of}
use Rattle.oath_node.specs.Report.{report_from}
use Rattle.oath_node.specs.Serving.{IsServerAfter, IsServing, Serving}
use Rattle.oathd_lines.specs.Client.{LinesRead, client_line_at, client_line_of, client_lines, with_line}
use Rattle.oathd_lines.specs.Fault.{input_fault_of, users_fault_of}
use Rattle.users_input.specs.Input.{TakesLine, TextLine, line_text, lines_of, rest_part, users_part}
use Rattle.oathd_lines.specs.Run.{Run, Answered, Refused, EndsSo, IsBehindUsers, IsCutSo, IsTaken, Setup, WritesFirst, answers_from, bytes_of, clients_of, end_at, printed_lines, run_of_lines, run_of_server, run_of_users, run_read}
use Rattle.users_input.specs.Users.{HasRest, NumberedLine, numbered, rest_behind, users_text}
use Rattle.oathd_lines.specs.declared.fault.Fault.{Fault}
use Rattle.oathd_lines.specs.declared.fault.Fault.TheVariants as fault
use Rattle.users_input.specs.declared.fault.InputFault.{InputFault}
use Rattle.users_input.specs.declared.fault.InputFault.TheVariants as input
use Rattle.users_input.specs.declared.fault.UsersFault.{UsersFault}
use Rattle.users_input.specs.declared.fault.UsersFault.TheVariants as users
use Rattle.users_input.specs.declared.input.NextLine.TheVariants.{Whole, Cut, End}
use Rattle.users_input.proofs.LineLemmas.{lines_none}
use Rattle.oathd_lines.proofs.RunLemmas.{refused_ends}
use Rattle.users_input.proofs.UsersLemmas.{rest_of_start}

-- ---- the answers of the reference server

-- the number of a line is no part of its answer
answers_numbered : (book : List Credential) (limits : Limits) (m n : ℕ) (s : Server) (lines : List Line)
    → map bytes_of (report_from book limits m s lines).answers ≡ map bytes_of (report_from book limits n s lines).answers
unfolding report_from
answers_numbered book limits m n s [] = refl
answers_numbered book limits m n s (l ∷ ls) =
    ap (λ (xs : List (List ℕ)). (service_of book limits s l).told.bytes ∷ xs)
    (answers_numbered book limits (m + 1) (n + 1) (service_of book limits s l).server ls)

answers_more : (book : List Credential) (limits : Limits) (s : Server) (l : Line) (ls : List Line)
    → answers_from book limits s (l ∷ ls)
    ≡ (service_of book limits s l).told.bytes ∷ answers_from book limits (service_of book limits s l).server ls
unfolding report_from
answers_more book limits s l ls =
    ap (λ (xs : List (List ℕ)). (service_of book limits s l).told.bytes ∷ xs)
    (answers_numbered book limits (0 + 1) 0 (service_of book limits s l).server ls)

answers_none : (book : List Credential) (limits : Limits) (s : Server) → answers_from book limits s [] ≡ []
unfolding report_from
answers_none book limits s = refl

printed_more : (done : List (List ℕ)) (answer : List ℕ) → printed_lines (done ++ answer ∷ []) ≡ printed_lines done ++ line_of answer
printed_more done answer = flat_map-append line_of done (answer ∷ []) ∙ ap (λ (l : List ℕ). printed_lines done ++ l) (append-nil (line_of answer))

-- ---- no input has too many lines

-- `count` lines are answered, each of which used up a byte of the room
pub record HasAnsweredFew (held : Serving) (room whole : ℕ) : Type 0 where
  pub count : ℕ
  pub server : IsServerAfter held count
  pub few : count + room ≤ whole

-- ---- before the line of a number

-- some answers are written, and those to the lines that are left are the rest of these, up to this bad line
pub record IsAnswering (book : List Credential) (limits : Limits) (answers : List (List ℕ)) (bad : Option ℕ) (held : Serving)
    (number room : ℕ) (left old new : Option (List ℕ)) : Type 0 where
  pub text : List ℕ
  pub left_is : left ≡ Some text
  pub count : ℕ
  pub server : Server
  pub serving : IsServing held book limits count server
  pub done : List (List ℕ)
  pub written : Appends old new (printed_lines done)
  pub answers_are : done ++ answers_from book limits server (client_lines number (lines_of room text)).good ≡ answers
  pub bad_is : (client_lines number (lines_of room text)).bad ≡ bad

-- a line is answered with these bytes, and what is held is the server after it
pub record IsAnsweredSo (held : Serving) (book : List Credential) (limits : Limits) (count : ℕ) (server : Server) (line : Line)
    (bytes : List ℕ) : Type 0 where
  pub answer : bytes ≡ (service_of book limits server line).told.bytes
  pub serving : IsServing held book limits (count + 1) (service_of book limits server line).server

pub answering_start : (book : List Credential) (limits : Limits) (s : Server) (held : Serving) (number room : ℕ) (left out : Option (List ℕ))
    → IsServing held book limits 0 s → IfSome left (λ text. IsAnswering book limits
    (answers_from book limits s (client_lines number (lines_of room text)).good) (client_lines number (lines_of room text)).bad held number room left out out)
answering_start book limits s held number room None out serving = tt
answering_start book limits s held number room (Some text) out serving = record {
  text = text;
  left_is = refl;
  count = 0;
  server = s;
  serving = serving;
  done = [];
  written = Appends-nil out;
  answers_are = refl;
  bad_is = refl;
}

module _ (book : List Credential) (limits : Limits) (answers : List (List ℕ)) (bad : Option ℕ) (held : Serving) (number room : ℕ)
    (left old : Option (List ℕ)) where
  pub answering_next : (mid : Option (List ℕ)) (h : IsAnswering book limits answers bad held number room left old mid)
      (line : List ℕ) (room' : ℕ) (left' : Option (List ℕ)) → IfSome left (λ text. TakesLine Whole line room text room' left')
      → (l : Line) → Some l ≡ client_line_of (line_text line) → (held' : Serving) (bytes : List ℕ)
      → ((count : ℕ) (s : Server) → IsServing held book limits count s
      → IsAnsweredSo held' book limits count s l bytes)
      → (new : Option (List ℕ)) → Appends mid new (line_of bytes)
      → IsAnswering book limits answers bad held' (number + 1) room' left' old new
  answering_next mid h line room' left' takes l is held' bytes answers_line new written =
      let k : TakesLine Whole line room h.text room' left' = subst (λ (o : Option (List ℕ)). IfSome o (λ text. TakesLine Whole line room text room' left')) h.left_is takes in
      let rest = client_lines (number + 1) (lines_of room' k.rest) in
      let answered = answers_line h.count h.server h.serving in
      let server = (service_of book limits h.server l).server in
      let read : client_lines number (lines_of room h.text) ≡ record { good = l ∷ rest.good; bad = rest.bad } =
      ap (client_lines number) k.next.0 ∙ ap (λ (o : Option Line). with_line number o rest) (sym is) in
      record {
        text = k.rest;
        left_is = k.remaining_is;
        count = h.count + 1;
        server = server;
        serving = answered.serving;
        done = h.done ++ bytes ∷ [];
        written = subst (Appends old new) (sym (printed_more h.done bytes)) (Appends-trans old mid new (printed_lines h.done) (line_of bytes) h.written written);
        answers_are = append_assoc h.done (bytes ∷ []) (answers_from book limits server rest.good)
            ∙ ap (λ (b : List ℕ). h.done ++ b ∷ answers_from book limits server rest.good) answered.answer
            ∙ ap (λ (xs : List (List ℕ)). h.done ++ xs) (sym (answers_more book limits h.server l rest.good))
            ∙ ap (λ (r : LinesRead). h.done ++ answers_from book limits h.server r.good) (sym read) ∙ h.answers_are;
        bad_is = sym (ap (λ (r : LinesRead). r.bad) read) ∙ h.bad_is;
      }

  -- no line that is left is good
  ends_with : (new : Option (List ℕ)) (h : IsAnswering book limits answers bad held number room left old new) (end : Option ℕ)
      → client_lines number (lines_of room h.text) ≡ record { good = []; bad = end } → (end_at end ≡ end_at bad) × Appends old new (printed_lines answers)
  ends_with new h end read =
      let all : h.done ≡ answers =
      sym (append-nil h.done) ∙ ap (λ (xs : List (List ℕ)). h.done ++ xs) (sym (answers_none book limits h.server))
      ∙ ap (λ (r : LinesRead). h.done ++ answers_from book limits h.server r.good) (sym read) ∙ h.answers_are in
      (ap end_at (sym (ap (λ (r : LinesRead). r.bad) read) ∙ h.bad_is), subst (λ (xs : List (List ℕ)). Appends old new (printed_lines xs)) all h.written)

  pub ends_all : (new : Option (List ℕ)) (h : IsAnswering book limits answers bad held number room left old new) (line : List ℕ) (room' : ℕ) (left' : Option (List ℕ))
      → IfSome left (λ text. TakesLine End line room text room' left') → EndsSo (Answered answers bad) (Ok tt) old new
  ends_all new h line room' left' takes =
      let k : TakesLine End line room h.text room' left' = subst (λ (o : Option (List ℕ)). IfSome o (λ text. TakesLine End line room text room' left')) h.left_is takes in
      ends_with new h None (ap (client_lines number) (ap (lines_of room) k.next ∙ lines_none room))

  pub ends_cut : (new : Option (List ℕ)) (h : IsAnswering book limits answers bad held number room left old new) (line : List ℕ) (room' : ℕ) (left' : Option (List ℕ))
      → IfSome left (λ text. TakesLine Cut line room text room' left') → EndsSo (Answered answers bad) (Err (fault.InputLine number)) old new
  ends_cut new h line room' left' takes =
      let k : TakesLine Cut line room h.text room' left' = subst (λ (o : Option (List ℕ)). IfSome o (λ text. TakesLine Cut line room text room' left')) h.left_is takes in
      ends_with new h (Some number) (ap (client_lines number) k.next.0)

  pub ends_bad : (new : Option (List ℕ)) (h : IsAnswering book limits answers bad held number room left old new) (line : List ℕ) (room' : ℕ) (left' : Option (List ℕ))
      → IfSome left (λ text. TakesLine Whole line room text room' left') → None ≡ client_line_of (line_text line)
      → EndsSo (Answered answers bad) (Err (fault.InputLine number)) old new
  ends_bad new h line room' left' takes is =
      let k : TakesLine Whole line room h.text room' left' = subst (λ (o : Option (List ℕ)). IfSome o (λ text. TakesLine Whole line room text room' left')) h.left_is takes in
      ends_with new h (Some number) (ap (client_lines number) k.next.0
      ∙ ap (λ (o : Option Line). with_line number o (client_lines (number + 1) (lines_of room' k.rest))) (sym is))

  writes_first : (new : Option (List ℕ)) → IsAnswering book limits answers bad held number room left old new → WritesFirst (Answered answers bad) old new
  writes_first new h =
      let rest = answers_from book limits h.server (client_lines number (lines_of room h.text)).good in
      let first : take (length h.done) answers ≡ h.done = ap (take (length h.done)) (sym h.answers_are) ∙ take-append_seam h.done rest in
      record {
        count = length h.done;
        written = subst (λ (xs : List (List ℕ)). Appends old new (printed_lines xs)) (sym first) h.written;
      }

  pub ends_failed : (new : Option (List ℕ)) → IsAnswering book limits answers bad held number room left old new → (f : InputFault)
      → EndsSo (Answered answers bad) (Err (input_fault_of f)) old new
  ends_failed new h input.Memory = writes_first new h
  ends_failed new h input.CannotRead = (tt, writes_first new h)

-- a fault of the input is passed on
pub handed_on : (r : Result Unit Fault) (f : InputFault) (P : Result Unit Fault → Type 0) → IsErrAnd r (λ x. x ≡ input_fault_of f)
    → P (Err (input_fault_of f)) → P r
handed_on (Ok one) f P h p = absurd h
handed_on (Err x) f P h p = subst (λ (y : Fault). P (Err y)) (sym h) p

-- ---- before the first line

nothing_written : (run : Run) (out : Option (List ℕ)) → WritesFirst run out out
nothing_written (Refused f) out = record { count = 0; written = Appends-nil out }
nothing_written (Answered answers bad) out = record { count = 0; written = Appends-nil out }

memory_ends : (run : Run) (out : Option (List ℕ)) → EndsSo run (Err fault.Memory) out out
memory_ends run out = nothing_written run out

-- for any text
pub memory_ends_any : (a : Option (List ℕ)) (run : List ℕ → Run) (out : Option (List ℕ)) → IfSome a (λ text. EndsSo (run text) (Err fault.Memory) out out)
memory_ends_any None run out = tt
memory_ends_any (Some text) run out = memory_ends (run text) out

failed_ends : (run : Run) (f : InputFault) (out : Option (List ℕ)) → IsTaken run → EndsSo run (Err (input_fault_of f)) out out
failed_ends run input.Memory out taken = nothing_written run out
failed_ends run input.CannotRead out taken = (taken, nothing_written run out)

-- the users file is refused
pub refused_or_memory : (setup : Setup) (longest room : ℕ) (a left : Option (List ℕ)) (f : FileFault) (end : Fault) (out : Option (List ℕ))
    → left ≡ option_map (users_text room) a
    → (IsTrue (is_of_text f.kind) → OfText left (λ text. book_of longest (instant_of setup.limits setup.moment) text ≡ Err (f.line, f.kind)))
    → ((end ≡ fault.Memory) ⊎ (end ≡ fault.Users f))
    → IfSome a (λ text. EndsSo (run_read setup longest room text) (Err end) out out)
refused_or_memory setup longest room None left f end out is refuses which = tt
refused_or_memory setup longest room (Some text) left f end out is refuses which =
    let run = run_read setup longest room text in
    let refused = λ (t : IsTrue (is_of_text f.kind)). subst (λ (o : Option (List ℕ)). OfText o (λ text. book_of longest (instant_of setup.limits setup.moment) text ≡ Err (f.line, f.kind))) is (refuses t) in
    elim which [
      | inl e ↦ subst (λ (x : Fault). EndsSo run (Err x) out out) (sym e) (memory_ends run out)
      | inr e ↦ subst (λ (x : Fault). EndsSo run (Err x) out out) (sym e) (refused_ends setup longest room text (fault.Users f) out out refused (Appends-nil out))
    ]

-- the run over a text whose users file is taken
run_taken : (setup : Setup) (longest room : ℕ) (text : List ℕ) (import : Import)
    → book_of longest (instant_of setup.limits setup.moment) (users_text room text) ≡ Ok import
    → run_read setup longest room text ≡ run_of_lines setup.limits import (clients_of (lines_of room text))
run_taken setup longest room text import e =
    ap (λ (r : Result Import (ℕ × LineFault)). run_of_users setup.limits r (clients_of (lines_of room text))) e

-- the lines of clients among numbered lines
abbrev clients_numbered : List NumberedLine → LinesRead
clients_numbered [] = record { good = []; bad = None }
clients_numbered (line ∷ rest) = with_line line.0 (client_line_at line.1) (clients_numbered rest)

client_lines_numbered : (number : ℕ) (lines : List TextLine) → client_lines number lines ≡ clients_numbered (numbered number lines)
client_lines_numbered number [] = refl
client_lines_numbered number (line ∷ rest) = ap (with_line number (client_line_at line)) (client_lines_numbered (number + 1) rest)

-- the lines after the users file of a text are its lines of clients
rest_is_clients : (room room' first : ℕ) (text text' : List ℕ) → numbered first (lines_of room' text') ≡ rest_behind 0 (lines_of room text)
    → client_lines first (lines_of room' text') ≡ clients_of (lines_of room text)
rest_is_clients room room' first text text' e =
    let lines = lines_of room text in
    client_lines_numbered first (lines_of room' text') ∙ ap clients_numbered (e ∙ rest_of_start lines)
    ∙ sym (client_lines_numbered (length (users_part lines) + 2) (rest_part lines))

module _ (setup : Setup) (longest room : ℕ) (a left : Option (List ℕ)) (import : Import)
    (left_is : left ≡ option_map (users_text room) a)
    (book_is : OfText left (λ text. book_of longest (instant_of setup.limits setup.moment) text ≡ Ok import)) where
  taken_by : (b : Option (List ℕ)) → b ≡ option_map (users_text room) a
      → OfText b (λ text. book_of longest (instant_of setup.limits setup.moment) text ≡ Ok import)
      → IfSome a (λ text. run_read setup longest room text ≡ run_of_lines setup.limits import (clients_of (lines_of room text)))
  taken_by b is book = at a (subst (λ (o : Option (List ℕ)). OfText o (λ text. book_of longest (instant_of setup.limits setup.moment) text ≡ Ok import)) is book)
    where
      at : (o : Option (List ℕ)) → OfText (option_map (users_text room) o) (λ text. book_of longest (instant_of setup.limits setup.moment) text ≡ Ok import)
          → IfSome o (λ text. run_read setup longest room text ≡ run_of_lines setup.limits import (clients_of (lines_of room text)))
      at None h = tt
      at (Some text) h = run_taken setup longest room text import h

  runs : IfSome a (λ text. run_read setup longest room text ≡ run_of_lines setup.limits import (clients_of (lines_of room text)))
  runs = taken_by left left_is book_is

  pub failed_behind : (f : InputFault) (out : Option (List ℕ)) → IfSome a (λ text. EndsSo (run_read setup longest room text) (Err (input_fault_of f)) out out)
  failed_behind f out = IfSome_then a runs (λ text e. failed_ends (run_read setup longest room text) f out (subst IsTaken (sym e) tt))

  pub served_behind : (behind after : Option (List NumberedLine)) (first room' : ℕ) (b : Option (List ℕ)) (end : Result Unit Fault) (old new : Option (List ℕ))
      → behind ≡ option_map (λ t. rest_behind 0 (lines_of room t)) a → Stays behind after
      → IfSome after (λ rest. HasRest rest first room' b)
      → IfSome b (λ text. EndsSo (run_of_server import.book setup.limits (server_at import.floors) (client_lines first (lines_of room' text))) end old new)
      → IfSome a (λ text. EndsSo (run_read setup longest room text) end old new)
  served_behind behind after first room' b end old new is stays has ends =
      both a runs (subst (λ (o : Option (List NumberedLine)). Stays o after) is stays)
    where
      last : (text : List ℕ) → run_read setup longest room text ≡ run_of_lines setup.limits import (clients_of (lines_of room text))
          → (rest : List NumberedLine) → rest ≡ rest_behind 0 (lines_of room text) → HasRest rest first room' b → EndsSo (run_read setup longest room text) end old new
      last text run rest same k =
          let here : EndsSo (run_of_server import.book setup.limits (server_at import.floors) (client_lines first (lines_of room' k.text))) end old new =
          subst (λ (o : Option (List ℕ)). IfSome o (λ t. EndsSo (run_of_server import.book setup.limits (server_at import.floors) (client_lines first (lines_of room' t))) end old new)) k.left_is ends in
          let read : client_lines first (lines_of room' k.text) ≡ clients_of (lines_of room text) = rest_is_clients room room' first text k.text (k.read ∙ same) in
          subst (λ (r : Run). EndsSo r end old new) (ap (run_of_lines setup.limits import) read ∙ sym run) here

      both : (o : Option (List ℕ)) → IfSome o (λ text. run_read setup longest room text ≡ run_of_lines setup.limits import (clients_of (lines_of room text)))
          → Stays (option_map (λ t. rest_behind 0 (lines_of room t)) o) after → IfSome o (λ text. EndsSo (run_read setup longest room text) end old new)
      both None run s = tt
      both (Some text) run s =
          last text run (rest_behind 0 (lines_of room text)) refl
          (subst (λ (o : Option (List NumberedLine)). IfSome o (λ rest. HasRest rest first room' b)) s has)

-- ---- the input fails within the users file

pub input_behind : (f : InputFault) → IsBehindUsers (input_fault_of f)
input_behind input.Memory = tt
input_behind input.CannotRead = tt

behind_is_no_cut : (setup : Setup) (longest room : ℕ) (text : List ℕ) (f : Fault) → IsBehindUsers f → IsCutSo setup longest room text f
behind_is_no_cut setup longest room text (fault.Users f) h = absurd h
behind_is_no_cut setup longest room text fault.Memory h = tt
behind_is_no_cut setup longest room text fault.CannotRead h = tt
behind_is_no_cut setup longest room text fault.CannotWrite h = tt
behind_is_no_cut setup longest room text (fault.InputLine number) h = tt
behind_is_no_cut setup longest room text (fault.BadKey key) h = tt
behind_is_no_cut setup longest room text fault.NotText h = tt

pub no_cut : (setup : Setup) (longest room : ℕ) (a : Option (List ℕ)) (f : Fault) → IsBehindUsers f → IfSome a (λ text. IsCutSo setup longest room text f)
no_cut setup longest room None f h = tt
no_cut setup longest room (Some text) f h = behind_is_no_cut setup longest room text f h

pub cut_or_memory : (setup : Setup) (longest room : ℕ) (a left : Option (List ℕ)) (f : FileFault) (end : Fault)
    → left ≡ option_map (users_text room) a
    → (f.kind ≡ Read → OfText left (λ text. IsCutOff Read longest (instant_of setup.limits setup.moment) text f.line))
    → ((end ≡ fault.Memory) ⊎ (end ≡ fault.Users f)) → IfSome a (λ text. IsCutSo setup longest room text end)
cut_or_memory setup longest room None left f end is cut which = tt
cut_or_memory setup longest room (Some text) left f end is cut which =
    let here = λ (k : f.kind ≡ Read). subst (λ (o : Option (List ℕ)). OfText o (λ t. IsCutOff Read longest (instant_of setup.limits setup.moment) t f.line)) is (cut k) in
    elim which [
      | inl e ↦ subst (λ (x : Fault). IsCutSo setup longest room text x) (sym e) tt
      | inr e ↦ subst (λ (x : Fault). IsCutSo setup longest room text x) (sym e) here
    ]

pub err_then : (r : Result Unit Fault) (P Q : Fault → Type 0) → IfErr r P → ((f : Fault) → P f → Q f) → IfErr r Q
err_then (Ok one) P Q h k = tt
err_then (Err f) P Q h k = k f h

-- what a users file is refused for, for a run
pub refused_for : (u : UsersFault) (f : FileFault) (end : Fault) → end ≡ users_fault_of u → ((u ≡ users.Memory) ⊎ (u ≡ users.File f))
    → (end ≡ fault.Memory) ⊎ (end ≡ fault.Users f)
refused_for u f end is which = elim which [
  | inl e ↦ inl (is ∙ ap users_fault_of e)
  | inr e ↦ inr (is ∙ ap users_fault_of e)
]
