-- Two addresses are spelled out, and a text spells one address.
use Rattle.std.proofs.Common.{◌≡◌, codes, refl, ap, arith, lit<, lit≤}
use Rattle.std.specs.Fmt.{digits}
use Rattle.std.specs.Net.Addr.{ipv4_bits}
use Rattle.std.specs.Net.Grammar.{IsSocketV4Text}
use Rattle.std.specs.Net.Socket.{v4_port}
use Rattle.std.proofs.NetLemmas.Theorems.{IsSocketV4Text_unique}
use Rattle.udp_port.specs.Examples.{at_local}
use Rattle.oathd_words.specs.Broken.{local_text}
use Rattle.oathd_words.proofs.MembersLemmas.{five}
use Rattle.oathd_words.proofs.laws.members_can_be_broken.Goals as goal

six : IsSocketV4Text (local_text 6) (at_local 6)
unfolding digits
six = (
  codes "127.0.0.1",
  codes ":6",
  refl,
  record { a = 127; b = 0; c = 0; d = 1; fit = (lit< tt, lit< tt, lit< tt, lit< tt); value = refl; spelled = refl },
  (codes "6", refl, ((lit< tt, (lit< tt, tt)), refl), lit< tt),
)

pub returns-clause-says : goal.returns-clause-says
returns-clause-says c = (tt, (five, tt))

pub returns-clause-says_another : goal.returns-clause-says_another
returns-clause-says_another c h =
    let ports : 5 ≡ 6 = ap v4_port (IsSocketV4Text_unique (local_text 5) (at_local 5) (at_local 6) five h.0) in omega (arith, ports)

pub returns-clause-says_another_behind : goal.returns-clause-says_another_behind
returns-clause-says_another_behind c h =
    let ports : 6 ≡ 7 = ap v4_port (IsSocketV4Text_unique (local_text 6) (at_local 6) (at_local 7) six h.1.0) in omega (arith, ports)

pub returns-clause-members : goal.returns-clause-members
unfolding ipv4_bits
returns-clause-members c = record { said = (five, (six, tt)); few = lit≤ tt; different = refl }

pub returns-clause-members_said : goal.returns-clause-members_said
returns-clause-members_said c h =
    let ports : 5 ≡ 6 = ap v4_port (IsSocketV4Text_unique (local_text 5) (at_local 5) (at_local 6) five h.said.0) in omega (arith, ports)

pub returns-clause-members_different : goal.returns-clause-members_different
unfolding ipv4_bits
returns-clause-members_different c text h = let e = h.different in absurd cc

pub returns-clause-different : goal.returns-clause-different
unfolding ipv4_bits
returns-clause-different c = refl
