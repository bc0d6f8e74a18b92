-- What every clients file gives.
use Rattle.std.specs.Prelude.{◌≡◌, ◌≤◌, ℕ, ◌+◌, ◌/◌, ◌^◌, List, length, All, IfSome}
use Rattle.std.specs.List.{AllPairs}
use Rattle.clients_file.specs.declared.clients.ClientEntry.{ClientEntry}
use Rattle.clients_file.specs.declared.clients.OperatorEntry.{OperatorEntry}
use Rattle.clients_file.specs.ClientsFile.{ClientsRecord}
use Rattle.clients_file.specs.Said.{block_of}

-- two clients with different numbers and different keys; HMAC-SHA-256 takes keys with the same block as the same key
pub record AreTwo (client other : ClientEntry) : Type 0 where
  pub numbers : client.number ≡ other.number → ⊥
  pub keys : block_of client.key ≡ block_of other.key → ⊥

-- the number and the key of an operator
abbrev pub entry_of : OperatorEntry → ClientEntry
entry_of operator = record { number = operator.number; key = operator.key }

-- two operators with different numbers and different keys
abbrev pub AreTwoOperators : OperatorEntry → OperatorEntry → Type 0
AreTwoOperators operator other = AreTwo (entry_of operator) (entry_of other)

-- a client that has another number and another key than each of the operators
abbrev pub IsNoOperator : List OperatorEntry → ClientEntry → Type 0
IsNoOperator operators client = All (λ operator. AreTwo client (entry_of operator)) operators

-- an address in 127.0.0.0/8
abbrev pub IsLoopback : ℕ → Type 0
IsLoopback address = address / 2 ^ 24 ≡ 127

-- at most 64 clients and operators, each two of them with different numbers and keys, at most 16 loopback addresses,
-- and 1 to 60 seconds; a limit of failures is 1 to 65535
pub record AreClients (clients : ClientsRecord) : Type 0 where
  pub some : 1 ≤ length clients.clients + length clients.plain
  pub few : length clients.clients + length clients.operators ≤ 64
  pub apart : AllPairs AreTwo clients.clients
  pub operators_apart : AllPairs AreTwoOperators clients.operators
  pub between : All (IsNoOperator clients.operators) clients.clients
  pub few_plain : length clients.plain ≤ 16
  pub plain : All IsLoopback clients.plain
  pub least_ahead : 1 ≤ clients.ahead
  pub most_ahead : clients.ahead ≤ 60
  pub failures : IfSome clients.failures (λ failures. (1 ≤ failures) × (failures ≤ 65535))
