-- The requests of operators that a gate opened, until they are taken.
use Rattle.std.specs.Prelude.{ℕ, Bool, nat_lt, List, [], ◌∷◌, length, drop, Option, Some, None}
use Rattle.sealed_wire.specs.declared.right.Right.{Right}

-- a request: the number and the right of its operator, the address for its report, its moment, its tag and its text
pub record AsideRecord : Type 0 where
  pub number : ℕ
  pub right : Right
  pub address : ℕ
  pub moment : ℕ
  pub tag : List ℕ
  pub text : List ℕ

-- whether there is room for one more: there are at most 8
abbrev pub has_room : List AsideRecord → Bool
has_room aside = nat_lt (length aside) 8

-- the oldest request
abbrev pub oldest : List AsideRecord → Option AsideRecord
oldest [] = None
oldest (request ∷ requests) = Some request

-- the requests without the oldest
abbrev pub others : List AsideRecord → List AsideRecord
others requests = drop 1 requests
