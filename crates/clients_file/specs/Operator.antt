-- The key file of an operator: one line of a clients file.
use Rattle.std.specs.Prelude.{ℕ, ◌==◌, ◌&&◌, Bool, false, List, [], ◌∷◌, length, Result, Ok, Err, if◌then◌else◌}
use Rattle.std.specs.Option.{is_none}
use Rattle.token_file.specs.Fields.{lines_of}
use Rattle.clients_file.specs.declared.clients.OperatorEntry.{OperatorEntry}
use Rattle.clients_file.specs.declared.fault.ClientsFault.{ClientsFault}
use Rattle.clients_file.specs.declared.fault.LineFault.{LineFault}
use Rattle.clients_file.specs.declared.operator.OperatorFault.{OperatorFault}
use Rattle.clients_file.specs.declared.operator.OperatorFault.TheVariants.{Line, NoOperator, SurplusLine}
use Rattle.clients_file.specs.ClientsFile.{after_lines, is_memory}
use Rattle.clients_file.specs.Said.{Said, nothing_said}

-- whether lines say nothing but operators
abbrev pub says_operators : Said → Bool
says_operators said =
    length said.clients == 0 && length said.plain == 0 && is_none said.ahead && is_none said.failures

-- the only one of the operators
abbrev pub only_of : List OperatorEntry → Result OperatorEntry OperatorFault
only_of [] = Err NoOperator
only_of (operator ∷ []) = Ok operator
only_of (operator ∷ operators) = Err SurplusLine

-- the operator of lines that say one and nothing else
abbrev pub only_operator : Said → Result OperatorEntry OperatorFault
only_operator said = if says_operators said then only_of said.operators else Err SurplusLine

-- the operator of lines that were read
abbrev pub operator_after : Result Said (ℕ × LineFault) → Result OperatorEntry OperatorFault
operator_after (Ok said) = only_operator said
operator_after (Err fault) = Err (Line (record { line = fault.0; kind = fault.1 }))

-- the operator of a text
abbrev pub operator_of : List ℕ → Result OperatorEntry OperatorFault
operator_of text = operator_after (after_lines 1 nothing_said (lines_of text))

-- whether a fault is a refused allocation
abbrev pub is_memory_of : OperatorFault → Bool
is_memory_of (Line fault) = is_memory fault.kind
is_memory_of fault = false
