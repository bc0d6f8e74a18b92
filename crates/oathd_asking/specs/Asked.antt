-- What requests on their way ask.
use Rattle.std.specs.Prelude.{ℕ, List, [], ◌∷◌}
use Rattle.clients_file.specs.declared.clients.OperatorEntry.{OperatorEntry}
use Rattle.oathd_asking.specs.Sent.{IsReportOn}
use Rattle.oathd_asking.specs.declared.sent.Sent.{Sent}

-- what an operator asks a node
pub record Asked : Type 0 where
  pub operator : OperatorEntry
  pub node : ℕ
  pub text : List ℕ

-- what is asked by a request on its way
abbrev pub asked_of : Sent → Asked
asked_of sent = record { operator = sent.operator.now; node = sent.node; text = sent.text.items }

-- a page is the report on the first one of what was asked
abbrev pub IsFirstReport : List Asked → List ℕ → Type 0
IsFirstReport [] page = ⊥
IsFirstReport (asked ∷ others) page = IsReportOn asked.operator asked.node asked.text page
