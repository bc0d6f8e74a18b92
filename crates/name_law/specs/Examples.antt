-- Two processes with their own orders of three canonical tokens, and an Ask between them. The bytes are those of
-- named_port's examples.
use Rattle.std.specs.Prelude.{ℕ, false, List, [], ◌∷◌, Option, Some, codes}
use Rattle.client_lines.specs.declared.answer.Outcome.TheVariants.{Accepted}
use Rattle.cluster_sim.specs.Examples.{told_outcome}
use Rattle.cluster_sim.specs.World.{Answer}
use Rattle.datagram_port.specs.Port.{PortEvent, Received}
use Rattle.datagram_port.specs.declared.port.Sender.TheVariants.{Peer}
use Rattle.floor_store.specs.Broken.{SmallStore, holding}
use Rattle.floor_store.specs.Content.{Content}
use Rattle.floor_store.specs.Examples.{content_at, free_row, pass, two_rows}
use Rattle.floor_store.specs.Records.{PassRecord, ProposalRecord, span_of}
use Rattle.named_port.specs.Examples.{name_with, zeros}
use Rattle.seated_store.specs.Seated.{SeatedRecord}
use Rattle.vote_core.specs.Schedule.{Envelope}
use Rattle.vote_core.specs.declared.message.Message.TheVariants.{Ask, Deny, Floor, Grant}
use Rattle.book_law.specs.Examples.{first_key, terms_of, three}
use Rattle.book_law.specs.Lives.{Output, Sealed, Setting, Store, Terms, ToPeer, store_with_rows}

-- the names of the canonical tokens 0, 1 and 2
abbrev pub all_names : List (List ℕ)
all_names = name_with 0xcc ∷ name_with 0xbb ∷ name_with 0xaa ∷ []

-- the terms of a process with the seats; its book is of no matter
abbrev pub seated : List ℕ → Terms
seated seats = terms_of zeros [] seats

-- node 1 has the tokens aa and cc, and node 2 the tokens bb and aa
abbrev pub terms_1 : Terms
terms_1 = seated (2 ∷ 0 ∷ [])

abbrev pub terms_2 : Terms
terms_2 = seated (1 ∷ 2 ∷ [])

-- node 1's first proposal of boot 2
abbrev pub proposal : ProposalRecord
proposal = record { node = 1; boot = 2; seq = 0 }

-- its Ask for node 2, for factor 1 of a token
abbrev pub ask_of : ℕ → Envelope
ask_of token = record { sender = 1; receiver = 2; message = Ask proposal token (span_of 1 1) }

-- the Ask under the canonical token, which is node 1's number 0 and node 2's number 1
abbrev pub sealed_ask : Sealed
sealed_ask = record { key = zeros; envelope = ask_of 2 }

-- node 2's first proposal of boot 2, for factor 1
abbrev pub proposal_of_2 : ProposalRecord
proposal_of_2 = record { node = 2; boot = 2; seq = 0 }

-- node 1's Grant and Deny of that proposal, by a number of node 2
abbrev pub grant_of : ℕ → Envelope
grant_of token = record { sender = 1; receiver = 2; message = Grant proposal_of_2 token (span_of 1 1) }

abbrev pub denial_of : ℕ → Envelope
denial_of token = record { sender = 1; receiver = 2; message = Deny proposal_of_2 token 9 }

-- node 1 tells node 2 the floor 9 of a token
abbrev pub floor_of : ℕ → Envelope
floor_of token = record { sender = 1; receiver = 2; message = Floor token 9 }

-- the floor under the canonical token, which is node 2's number 1
abbrev pub sealed_floor : Sealed
sealed_floor = record { key = zeros; envelope = floor_of 2 }

-- the same under another key
abbrev pub other_ask : List ℕ → Sealed
other_ask key = record { key = key; envelope = ask_of 2 }

-- the same for another factor
abbrev pub ask_for_factor : ℕ → Sealed
ask_for_factor factor = record {
  key = zeros;
  envelope = record { sender = 1; receiver = 2; message = Ask proposal 2 (span_of factor factor) };
}

-- the same to another node
abbrev pub ask_to : ℕ → Sealed
ask_to node = record {
  key = zeros;
  envelope = record { sender = 1; receiver = node; message = Ask proposal 2 (span_of 1 1) };
}

-- the Ask was offered
abbrev pub asked : List Output
asked = ToPeer sealed_ask ∷ []

-- three nodes with the number of canonical tokens, and an envelope of former times
abbrev pub three_of : ℕ → List Sealed → Setting
three_of tokens old = record three { tokens = tokens; old = old }

-- a factor and a floor past the last ones
abbrev pub past_floors : ℕ
past_floors = 4611686018427387905

-- bytes came from member 1
abbrev pub came : List ℕ → PortEvent
came bytes = Received (Peer 1) bytes

-- an answer to client 7
abbrev pub silver_told : Answer
silver_told = told_outcome 2 1 7 (codes "1") (Accepted 0)

-- two rows with the floors, of which a process sees the second
abbrev pub floors : ℕ → ℕ → Option PassRecord → Content
floors first second last = two_rows (free_row first) (free_row second) last

-- the last pass of a row
abbrev pub pass_of : ℕ → Option PassRecord
pass_of row = Some (pass row 5 5 4 8)

-- what a process with the seat sees of such a store
abbrev pub seen : ℕ → Content
seen floor = content_at 4 (free_row floor ∷ [])

-- the names of silver and maple, in book_law's examples
abbrev pub user_names : List (List ℕ)
user_names = name_with 0xaa ∷ name_with 0xbb ∷ []

-- the first Ask of node 1 in book_law's histories: for factor 0 of silver
abbrev pub silver_ask : Sealed
silver_ask = record {
  key = first_key;
  envelope = record {
    sender = 1;
    receiver = 2;
    message = Ask (record { node = 1; boot = 1; seq = 0 }) 0 (span_of 0 0);
  };
}

-- node 2 tells node 1 silver's floor 9
abbrev pub silver_floor : Sealed
silver_floor = record { key = first_key; envelope = record { sender = 2; receiver = 1; message = Floor 0 9 } }

-- ---- A node over a seated store

-- a store with a row for silver, with the floor
abbrev pub silver_row : ℕ → Store
silver_row floor = store_with_rows 0 (0 ∷ []) (λ token. floor)

-- the seated store over the content, with the seats
abbrev pub seated_over : Content → List ℕ → SeatedRecord SmallStore
seated_over content seats = record { inner = holding content; seats = seats; is_unusable = false }
