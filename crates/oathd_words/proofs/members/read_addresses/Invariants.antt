use Rattle.std.proofs.Common.{◌≡◌, length}
use Rattle.oathd_words.proofs.MembersLemmas.{SaysFront}
use Rattle.oathd_words.proofs.members.read_addresses.Given as goal

-- the addresses until now are the addresses of the text's first parts
abbrev pub invariant-loop : goal.invariant-loop
invariant-loop l = SaysFront l.fn.text l.rest l.addresses.items × (length l.addresses.items ≡ l.counter)
