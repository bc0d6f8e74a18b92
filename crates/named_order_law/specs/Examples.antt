-- Node 1 hears node 2's Grant of silver's login, in order_law's worked login. No contract cites these.
use Rattle.std.specs.Prelude.{ℕ, List, [], ◌∷◌, replicate}
use Rattle.named_port.specs.Translator.{TranslatorRecord, new_translator}
use Rattle.book_law.specs.Examples.{first_key, silver_first}
use Rattle.book_law.specs.Lives.{Sealed, store_with_rows}
use Rattle.name_law.specs.Datagrams.{named_datagram, own_datagram, own_names}
use Rattle.name_law.specs.Examples.{user_names}
use Rattle.order_law.specs.Examples.{grant_of}
use Rattle.order_law.specs.Interleavings.{Said, ToMemberSaid}
use Rattle.order_law.specs.Steps.{Live, live_at}

-- the Grant under the canonical token and a key
abbrev pub grant_under : List ℕ → Sealed
grant_under key = record { key = key; envelope = grant_of 0 }

-- node 2 said it under the key
abbrev pub granted_under : List ℕ → List Said
granted_under key = ToMemberSaid (grant_under key) ∷ []

-- its datagram by names in node 2's boot
abbrev pub grant_bytes : ℕ → List ℕ
grant_bytes boot = named_datagram user_names boot (grant_under first_key)

-- what the translator of node 1 hands in for it
abbrev pub grant_handed : List ℕ
grant_handed = own_datagram (grant_of 0)

-- the translator of node 1 under a key
abbrev pub translator_under : List ℕ → TranslatorRecord
translator_under key = new_translator key (own_names user_names (0 ∷ 1 ∷ [])) 1 1 (replicate 10 0)

-- node 1's process, which speaks to its port under the key
abbrev pub listening : List ℕ → Live
listening port = live_at silver_first port (store_with_rows 1 (0 ∷ 1 ∷ []) (λ token. 0))
