-- The server of ReferenceServer.antt with front ends at many places. The front end at which a line arrives answers it
-- as that server does. All front ends share the floors and nothing else. Floor: the first free factor of a token.
use Rattle.std.specs.Prelude.{ℕ, ◌==◌, if◌then◌else◌, List}
use Rattle.oath_node.specs.Machine.{Config}
use Rattle.oath_node.specs.ReferenceServer.{Front, Line, Server, Service, service_of}

-- the floor of each token, and the front end at each place
pub record FrontedServer : Type 0 where
  pub floors : List ℕ
  pub fronts : ℕ → Front

-- the server with the front end at the place
abbrev pub server_at_front : FrontedServer → ℕ → Server
server_at_front fronted place = record { floors = fronted.floors; front = fronted.fronts place }

-- the front ends with a server's state at the place `changed`
abbrev pub with_server_at : ℕ → Server → FrontedServer → FrontedServer
with_server_at changed server fronted =
    record { floors = server.floors; fronts = λ place. if place == changed then server.front else fronted.fronts place }

-- the service of a line at the place
abbrev pub service_at_front : Config → FrontedServer → ℕ → Line → Service
service_at_front config fronted place line =
    service_of config.book config.limits (server_at_front fronted place) line

-- all front ends after the line
abbrev pub fronted_after : Config → FrontedServer → ℕ → Line → FrontedServer
fronted_after config fronted place line =
    with_server_at place (service_at_front config fronted place line).server fronted
