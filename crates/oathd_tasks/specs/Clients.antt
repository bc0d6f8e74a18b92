-- The reading of a clients file.
use Rattle.std.specs.Prelude.{◌≡◌, ℕ, List, Ok, Err}
use Rattle.clients_file.specs.ClientsFile.{clients_of, clients_value}
use Rattle.clients_file.specs.declared.clients.Clients.{Clients}
use Rattle.oathd_lines.specs.declared.fault.Fault.TheVariants as lines
use Rattle.oathd_tasks.specs.File.{IsOfFile}
use Rattle.oathd_tasks.specs.declared.fault.Fault.{Fault}
use Rattle.oathd_tasks.specs.declared.fault.Fault.TheVariants.{Run, ClientsFile}

-- some text says the clients
pub record HasClients (clients : Clients) : Type 0 where
  pub text : List ℕ
  pub said : clients_of text ≡ Ok (clients_value clients)

-- the fault is the first one of a clients file's text, or the allocator refused the memory
abbrev pub IsOfClients : List ℕ → Fault → Type 0
IsOfClients text (Run lines.Memory) = Unit {0}
IsOfClients text (ClientsFile fault) = clients_of text ≡ Err (fault.line, fault.kind)
IsOfClients text fault = ⊥

-- the fault is the first one of some text, or one of a file
abbrev pub IsOfClientsFile : Fault → Type 0
IsOfClientsFile (ClientsFile fault) = (text : List ℕ) × (clients_of text ≡ Err (fault.line, fault.kind))
IsOfClientsFile fault = IsOfFile fault
