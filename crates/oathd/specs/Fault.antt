-- The exit statuses of the faults that end the program.
use Rattle.std.specs.Prelude.{ℕ}
use Rattle.oathd_site.specs.Fault.{status_of}
use Rattle.oathd.specs.declared.told.EndFault.{EndFault}
use Rattle.oathd.specs.declared.told.ReplacedFault.{ReplacedFault}
use Rattle.oathd.specs.declared.told.ToldFault.{ToldFault}

-- the exit status
abbrev pub end_status : EndFault → ℕ
end_status end = status_of end.0

-- the exit status, whatever the cause
abbrev pub told_status : ToldFault → ℕ
told_status told = status_of told.fault

-- the exit status of a fault of a store whose files are gone
abbrev pub replaced_status : ReplacedFault → ℕ
replaced_status replaced = status_of replaced.fault
