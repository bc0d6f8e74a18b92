-- How a run ends.
use Rattle.std.proofs.Common.{◌≡◌, ℕ, List, [], Option, sym, ap}
use Rattle.std.specs.Prelude.{Result, Err}
use Rattle.std.specs.Io.KnownBytes.{Appends}
use Rattle.token_file.specs.UsersFile.{Import, book_of, instant_of}
use Rattle.token_file.specs.declared.fault.FileFault.{FileFault}
use Rattle.token_file.specs.declared.fault.LineFault.{LineFault}
use Rattle.users_input.specs.Input.{lines_of, users_file}
use Rattle.oathd_lines.specs.Run.{EndsSo, RefusesUsers, Setup, clients_of, end_of, run_of_users, run_read}
use Rattle.oathd_lines.specs.declared.fault.Fault.{Fault}
use Rattle.oathd_lines.specs.declared.fault.Fault.TheVariants.{Memory, CannotRead, CannotWrite, Users, InputLine, BadKey, NotText}

-- a fault of the users file ends it
users_fault : (setup : Setup) (longest limit : ℕ) (read : List ℕ) (fault : FileFault)
    → book_of longest (instant_of setup.limits setup.moment) (users_file (lines_of limit read) read) ≡ Err (fault.line, fault.kind)
    → Err (Users fault) ≡ end_of (run_read setup longest limit read)
users_fault setup longest limit read fault e =
    ap (λ (r : Result Import (ℕ × LineFault)). end_of (run_of_users setup.limits r (clients_of (lines_of limit read)))) (sym e)

pub refused_ends : (setup : Setup) (longest limit : ℕ) (read : List ℕ) (fault : Fault) (old new : Option (List ℕ))
    → RefusesUsers (book_of longest (instant_of setup.limits setup.moment) (users_file (lines_of limit read) read)) fault
    → Appends old new [] → EndsSo (run_read setup longest limit read) (Err fault) old new
refused_ends setup longest limit read (Users fault) old new h a = (λ t. users_fault setup longest limit read fault (h t), a)
refused_ends setup longest limit read Memory old new h a = absurd h
refused_ends setup longest limit read CannotRead old new h a = absurd h
refused_ends setup longest limit read CannotWrite old new h a = absurd h
refused_ends setup longest limit read (InputLine number) old new h a = absurd h
refused_ends setup longest limit read (BadKey key) old new h a = absurd h
refused_ends setup longest limit read NotText old new h a = absurd h
