-- The outputs of a call in the program. Only private contracts cite it: no public contract depends on it.
use Rattle.std.specs.Prelude.{ℕ, List}
use Rattle.vote_core.specs.State.{sent_by}
use Rattle.vote_core.specs.declared.message.Message.{Message}
use Rattle.oath_node.specs.Machine.{Reply}
use Rattle.oath_node.specs.declared.outputs.Parcel.{Parcel}
use Rattle.oath_node.specs.declared.outputs.Parcel.TheVariants.{Held, Lent}

-- each message beside its receiver
abbrev pub sends_in : Parcel → List (ℕ × Message)
sends_in (Held sends replies) = sent_by sends.items
sends_in (Lent sends replies) = sent_by sends.now

-- the replies
abbrev pub replies_in : Parcel → List Reply
replies_in (Held sends replies) = replies.items
replies_in (Lent sends replies) = replies.now
