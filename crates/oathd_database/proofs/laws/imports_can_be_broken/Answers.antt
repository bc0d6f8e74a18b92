-- A comment is imported as no token, and what is cut off in a text without a byte is its first line.
use Rattle.std.proofs.Common.{◌≡◌, ℕ, List, [], ◌∷◌, ◌++◌, Some, refl, ap, arith}
use Rattle.std.specs.Prelude.{Err, Result, codes}
use Rattle.otp_core.specs.Limits.{default_limits}
use Rattle.token_file.specs.UsersFile.{Import, instant_of, outcome_of}
use Rattle.token_file.specs.declared.fault.LineFault.{LineFault}
use Rattle.token_file.specs.declared.fault.LineFault.TheVariants.{Read}
use Rattle.oathd_database.specs.Commands.{HasImport}
use Rattle.oathd_database.proofs.laws.imports_can_be_broken.Goals as goal

-- the line of a fault
abbrev line_of : Result Import (ℕ × LineFault) → ℕ
line_of (Err fault) = fault.0
line_of _ = 0

cut_off_first : (taken left : List ℕ) → [] ≡ taken ++ left → outcome_of (Some Read) 6 (instant_of default_limits 0) taken ≡ Err (2, Read) → ⊥
cut_off_first [] left parts outcome = let e : 1 ≡ 2 = ap line_of outcome in omega (arith, e)
cut_off_first (byte ∷ taken) left parts outcome = absurd cc

pub returns-clause-unread_in_line_1 : goal.returns-clause-unread_in_line_1
returns-clause-unread_in_line_1 c = (λ is. absurd cc, λ is. record { taken = []; left = []; parts = refl; outcome = refl })

pub returns-clause-unread_in_line_2 : goal.returns-clause-unread_in_line_2
returns-clause-unread_in_line_2 c h = let cut = h.1 refl in cut_off_first cut.taken cut.left cut.parts cut.outcome

-- the import of a comment
none : HasImport default_limits 0 6 (codes "# none")
none = record { book = []; floors = []; imported = refl }

pub returns-clause-import : goal.returns-clause-import
returns-clause-import c = none

pub returns-clause-refused : goal.returns-clause-refused
returns-clause-refused c = none

pub returns-clause-output : goal.returns-clause-output
returns-clause-output c = none

pub returns-clause-output_store : goal.returns-clause-output_store
returns-clause-output_store c = none
