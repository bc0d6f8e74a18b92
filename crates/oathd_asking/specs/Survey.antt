-- The end of a survey of all members of a cluster.
use Rattle.std.specs.Prelude.{◌≡◌, ◌⊎◌, ℕ, suc, zero, ◌+◌, List, [], ◌∷◌, length, Option, Result, Ok, Err}
use Rattle.std.specs.Io.KnownBytes.{Appends}
use Rattle.clients_file.specs.declared.clients.OperatorEntry.{OperatorEntry}
use Rattle.operator_text.specs.declared.request.Report.TheVariants as reports
use Rattle.oathd_asking.specs.Report.{IsReportText, page_request}
use Rattle.oathd_asking.specs.Asked.{Asked}
use Rattle.oathd_asking.specs.Table.{health_of, table_text}
use Rattle.oathd_asking.specs.declared.fault.AskFault.{AskFault}
use Rattle.oathd_asking.specs.declared.fault.AskFault.TheVariants.{Memory, CannotWrite, NoClock, Degraded, NoMajority, Socket}
use Rattle.oathd_asking.specs.declared.table.Health.{Health}
use Rattle.oathd_asking.specs.declared.table.Health.TheVariants as healths

-- the requests for the states of members, from a number on
abbrev pub state_requests : OperatorEntry → ℕ → ℕ → List Asked
state_requests operator node zero = []
state_requests operator node (suc count) =
    record { operator = operator; node = node; text = page_request reports.Status 0 }
    ∷ state_requests operator (node + 1) count

-- a text is the state of a member, or it is empty since the member didn't tell it
abbrev pub IsState : OperatorEntry → ℕ → List ℕ → Type 0
IsState operator node text = (text ≡ []) ⊎ IsReportText operator node reports.Status text

-- the same of members from a number on
abbrev pub AreStates : OperatorEntry → ℕ → List (List ℕ) → Type 0
AreStates operator node [] = Unit {0}
AreStates operator node (text ∷ texts) = IsState operator node text × AreStates operator (node + 1) texts

-- the end of a survey by what its table says
abbrev pub survey_end : Health → Result Unit AskFault
survey_end healths.Well = Ok tt
survey_end healths.Degraded = Err Degraded
survey_end healths.NoMajority = Err NoMajority

-- A survey whose table was written. Its end is what the table says.
pub record IsSurveyed (operator : OperatorEntry) (members : ℕ) (result : Result Unit AskFault)
    (old new : Option (List ℕ)) : Type 0 where
  pub texts : List (List ℕ)
  pub count : length texts ≡ members
  pub each : AreStates operator 1 texts
  pub written : Appends old new (table_text texts)
  pub ends : result ≡ survey_end (health_of texts)

-- the memory, the clock or the socket failed
abbrev pub IsOfStates : AskFault → Type 0
IsOfStates fault = (fault ≡ Memory) ⊎ (fault ≡ NoClock) ⊎ (fault ≡ Socket)

-- the same, or the output failed
abbrev pub IsOfSurvey : AskFault → Type 0
IsOfSurvey fault = IsOfStates fault ⊎ (fault ≡ CannotWrite)
