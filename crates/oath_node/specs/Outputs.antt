-- The datagrams and replies of a node's call, as bytes.
use Rattle.std.specs.Prelude.{ℕ, List, [], ◌∷◌, ◌++◌, map, Option, None}
use Rattle.std.specs.Option.{option_map}
use Rattle.floor_store.specs.Records.{ProposalRecord, PassRecord}
use Rattle.vote_core.specs.NodeSet.{PlaceRecord}
use Rattle.vote_core.specs.declared.message.Message.{Message}
use Rattle.vote_wire.specs.Datagram.{datagram_bytes}
use Rattle.oath_node.specs.Machine.{Made, Reply as ReplyRecord}
use Rattle.oath_node.specs.declared.item.Item.{Item}
use Rattle.oath_node.specs.declared.item.Item.TheVariants.{Datagram, Reply}

-- the view of a call's outputs
pub record OutputsRecord : Type 0 where
  pub items : List Item
  pub begun : Option ProposalRecord
  pub pass : Option PassRecord

-- the datagram of a message to a member, under the key
abbrev pub datagram_item : List ℕ → ℕ → ℕ × Message → Item
datagram_item key me send = Datagram send.0 (record { items = datagram_bytes key me send.0 send.1 })

-- the reply to a client
abbrev pub reply_item : ReplyRecord → Item
reply_item reply = Reply reply.client (record { items = reply.bytes })

-- the datagrams first, then the replies, each in order
abbrev pub items_of : List ℕ → ℕ → List (ℕ × Message) → List ReplyRecord → List Item
items_of key me sends replies = map (datagram_item key me) sends ++ map reply_item replies

-- the outputs of a result, encoded under the key
abbrev pub outputs_of : List ℕ → PlaceRecord → Made → OutputsRecord
outputs_of key place made = record {
  items = items_of key place.me made.sends made.replies;
  begun = option_map (λ began. began.proposal) made.began;
  pass = made.pass;
}

-- no outputs
abbrev pub no_outputs : OutputsRecord
no_outputs = record { items = []; begun = None; pass = None }

-- one reply and nothing else
abbrev pub reply_outputs : ℕ → List ℕ → OutputsRecord
reply_outputs client bytes =
    record { items = Reply client (record { items = bytes }) ∷ []; begun = None; pass = None }
