-- A single node and the reference server, over the same events.
use Rattle.std.specs.Prelude.{ℕ, suc, ◌==◌, Bool, true, false, if◌then◌else◌, List, [], ◌∷◌, ◌++◌, length, map, slice_index_or}
use Rattle.std.specs.List.{range_with_len}
use Rattle.oath_node.specs.Machine.{Config}
use Rattle.oath_node.specs.ReferenceServer.{Server, Service, restarted_server, server_at, service_of}
use Rattle.cluster_sim.specs.World.{Act, Says, Deliver, Ticks, Noise, WorldEvent, Happens, Cut, Restart, Lost, Anew, Answer}

-- the service of a client's line
abbrev pub service_to : Config → Server → ℕ → ℕ → List ℕ → Service
service_to config server client moment text =
    service_of config.book config.limits server (record { client = client; moment = moment; text = text })

-- the server after an act: only lines reach it
abbrev pub server_after_act : Config → Act → Server → Server
server_after_act config (Says node client moment text) server =
    if node == 1 then (service_to config server client moment text).server else server
server_after_act config (Deliver node k) server = server
server_after_act config (Ticks node) server = server
server_after_act config (Noise node from read) server = server

-- the place of an act; 0 for a delivery, because no datagram was ever sent
abbrev pub front_of : Act → ℕ
front_of (Says node client moment text) = node
front_of (Deliver node k) = 0
front_of (Ticks node) = node
front_of (Noise node from read) = node

-- the server after a restart of the front end, if it is the only one there is
abbrev pub server_after_restart : ℕ → Server → Server
server_after_restart node server = if node == 1 then restarted_server server else server

-- The server after an event. A stop inside an act that keeps its change is the act without its answer, followed by a
-- restart. Another stop is a restart.
abbrev pub server_after_event : Config → WorldEvent → Server → Server
server_after_event config (Happens act) server = server_after_act config act server
server_after_event config (Cut true act) server =
    server_after_restart (front_of act) (server_after_act config act server)
server_after_event config (Cut false act) server = server_after_restart (front_of act) server
server_after_event config (Restart node) server = server_after_restart node server
server_after_event config (Lost node) server = server
server_after_event config (Anew node boot floors) server = server

-- the answer to a client's line in the event
abbrev pub told_of_line : Config → ℕ → Server → ℕ → ℕ → List ℕ → Answer
told_of_line config event server client moment text =
    let bytes = (service_to config server client moment text).told.bytes in
    record { event = event; node = 1; client = client; bytes = bytes }

-- the answers to an act in the event
abbrev pub answers_to_act : Config → ℕ → Act → Server → List Answer
answers_to_act config event (Says node client moment text) server =
    if node == 1 then told_of_line config event server client moment text ∷ [] else []
answers_to_act config event (Deliver node k) server = []
answers_to_act config event (Ticks node) server = []
answers_to_act config event (Noise node from read) server = []

-- the answers to the event of the given number
abbrev pub answers_to_event : Config → ℕ → WorldEvent → Server → List Answer
answers_to_event config event (Happens act) server = answers_to_act config event act server
answers_to_event config event (Cut kept act) server = []
answers_to_event config event (Restart node) server = []
answers_to_event config event (Lost node) server = []
answers_to_event config event (Anew node boot floors) server = []

-- the event removes the server's store; a node alone gets no replacement, because it was a majority
abbrev pub is_end : WorldEvent → Bool
is_end (Happens act) = false
is_end (Cut kept act) = false
is_end (Restart node) = false
is_end (Lost node) = node == 1
is_end (Anew node boot floors) = false

-- the answers to the events, the first of which has the given number; none after the server's store is lost
unfoldable pub reference_answers : Config → ℕ → List WorldEvent → Server → List Answer
reference_answers config first [] server = []
reference_answers config first (event ∷ events) server =
    if is_end event then []
    else answers_to_event config first event server
    ++ reference_answers config (suc first) events (server_after_event config event server)

-- The server with one floor (first free factor) for each token of the book, 0 for a missing one. No token has a result
-- or a drift, and no answer is kept.
abbrev pub opening_server : Config → List ℕ → Server
opening_server config floors =
    server_at (map (λ token. slice_index_or floors token 0) (range_with_len 0 (length config.book)))
