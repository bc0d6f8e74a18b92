-- How the command `secret --stdin` ends.
use Rattle.std.proofs.Common.{◌≡◌, ℕ, List, Option, Some, None, Result, Ok, Err, take, sym, ap, subst, ◌∙◌}
use Rattle.std.specs.Prelude.{IfSome, IsErrAnd}
use Rattle.client_lines.specs.Request.{without_lf}
use Rattle.oathd_lines.specs.declared.fault.Fault.{Fault}
use Rattle.oathd_tasks.specs.Nodes.{IsOfInput}

-- the digits of the bytes that were read
pub digits_known : (input : Option (List ℕ)) (text hex : List ℕ) → IfSome input (λ all. text ≡ take 258 all) → hex ≡ without_lf text
    → IfSome input (λ all. hex ≡ without_lf (take 258 all))
digits_known None text hex read is = tt
digits_known (Some all) text hex read is = is ∙ ap without_lf read

-- a result that is a fault of the input
pub unread_input : (result : Result Unit Fault) (fault : Fault) → IsErrAnd result (λ found. found ≡ fault) → IsOfInput fault → IsErrAnd result IsOfInput
unread_input (Ok one) fault same is = absurd same
unread_input (Err found) fault same is = subst IsOfInput (sym same) is
