-- How the command `lines` ends.
use Rattle.std.proofs.Common.{◌≡◌, ℕ, List, Option, Some, None, Result, Ok, Err, inl, inr, sym, subst}
use Rattle.std.specs.Prelude.{IsOk, IfErr, IfSome, OnOk, ◌⊎◌}
use Rattle.std.specs.Io.KnownBytes.{Keeps}
use Rattle.oathd_lines.specs.Run.{EndsSo, Run, WritesFirst, run_of_input}
use Rattle.oathd_lines.specs.declared.fault.Fault.{Fault}
use Rattle.oathd_lines.specs.declared.fault.Fault.TheVariants.{BadKey, CannotRead, CannotWrite, InputLine, Memory, NotText, Users}
use Rattle.oathd_sim.specs.Sim.{Setup}
use Rattle.oathd_tasks.specs.Nodes.{LinesEndSo}
use Rattle.oathd_tasks.specs.declared.fault.Fault as program
use Rattle.oathd_tasks.specs.declared.fault.Fault.TheVariants as program_fault
use Rattle.oathd_tasks.proofs.FlushLemmas.{appends_kept}

first_kept : (run : Run) (old mid new : Option (List ℕ)) → WritesFirst run old mid → Keeps mid new → WritesFirst run old new
first_kept run old mid new h k = record { count = h.count; written = appends_kept old mid new _ h.written k }

run_kept : (run : Run) (end : Result Unit Fault) (old mid new : Option (List ℕ)) → EndsSo run end old mid → Keeps mid new → EndsSo run end old new
run_kept run (Ok one) old mid new h k = (h.0, appends_kept old mid new _ h.1 k)
run_kept run (Err Memory) old mid new h k = first_kept run old mid new h k
run_kept run (Err CannotRead) old mid new h k = (h.0, first_kept run old mid new h.1 k)
run_kept run (Err CannotWrite) old mid new h k = tt
run_kept run (Err (Users fault)) old mid new h k = (h.0, appends_kept old mid new _ h.1 k)
run_kept run (Err (InputLine number)) old mid new h k = (h.0, appends_kept old mid new _ h.1 k)
run_kept run (Err (BadKey fault)) old mid new h k = (h.0, appends_kept old mid new _ h.1 k)
run_kept run (Err NotText) old mid new h k = (h.0, appends_kept old mid new _ h.1 k)

runs_kept : (input : Option (List ℕ)) (run : List ℕ → Run) (end : Result Unit Fault) (old mid new : Option (List ℕ))
    → IfSome input (λ text. EndsSo (run text) end old mid) → Keeps mid new → IfSome input (λ text. EndsSo (run text) end old new)
runs_kept None run end old mid new h k = tt
runs_kept (Some text) run end old mid new h k = run_kept (run text) end old mid new h k

unwritten : (input : Option (List ℕ)) (run : List ℕ → Run) (old new : Option (List ℕ)) → IfSome input (λ text. EndsSo (run text) (Err CannotWrite) old new)
unwritten None run old new = tt
unwritten (Some text) run old new = tt

-- what a flush gives is the end, or says that the output failed
run_flushed : (input : Option (List ℕ)) (run : List ℕ → Run) (end result : Result Unit Fault) (old mid new : Option (List ℕ))
    → IfSome input (λ text. EndsSo (run text) end old mid) → Keeps mid new → OnOk result (IsOk end)
    → IfErr result (λ (fault : Fault). (end ≡ Err fault) ⊎ (fault ≡ CannotWrite))
    → IfSome input (λ text. EndsSo (run text) result old new)
run_flushed input run (Ok one) (Ok other) old mid new h k ok fault = runs_kept input run (Ok one) old mid new h k
run_flushed input run (Err f) (Ok one) old mid new h k ok fault = absurd cc
run_flushed input run end (Err f) old mid new h k ok fault = elim fault [
  | inl same ↦ subst (λ (r : Result Unit Fault). IfSome input (λ text. EndsSo (run text) r old new)) same (runs_kept input run end old mid new h k)
  | inr outside ↦ subst (λ (x : Fault). IfSome input (λ text. EndsSo (run text) (Err x) old new)) (sym outside) (unwritten input run old new)
]

-- the result of a flush, as a program's result
abbrev pub handed_on : Result Unit Fault → Result Unit program.Fault
handed_on (Ok one) = Ok tt
handed_on (Err fault) = Err (program_fault.Run fault)

pub lines_flushed : (setup : Setup) (input : Option (List ℕ)) (end result : Result Unit Fault) (given : Result Unit program.Fault)
    (old mid new : Option (List ℕ)) → given ≡ handed_on result
    → IfSome input (λ text. EndsSo (run_of_input setup.limits setup.moment text) end old mid) → Keeps mid new → OnOk result (IsOk end)
    → IfErr result (λ (fault : Fault). (end ≡ Err fault) ⊎ (fault ≡ CannotWrite))
    → LinesEndSo setup input given old new
lines_flushed setup input end (Ok one) given old mid new is h k ok fault =
    subst (λ r. LinesEndSo setup input r old new) (sym is)
    (run_flushed input (run_of_input setup.limits setup.moment) end (Ok one) old mid new h k ok fault)
lines_flushed setup input end (Err f) given old mid new is h k ok fault =
    subst (λ r. LinesEndSo setup input r old new) (sym is)
    (run_flushed input (run_of_input setup.limits setup.moment) end (Err f) old mid new h k ok fault)
