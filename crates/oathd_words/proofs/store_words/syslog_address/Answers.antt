use Rattle.std.proofs.Common.{subst}
use Rattle.std.specs.Net.Grammar.{IsSocketV4Text}
use Rattle.std.specs.declared.net.socket_addr.SocketAddrV4.{SocketAddrV4}
use Rattle.oathd_words.proofs.store_words.syslog_address.Goals as goal

pub returns-in-Err-clause-none : goal.returns-in-Err-clause-none
returns-in-Err-clause-none c =
    subst (λ t. (address : SocketAddrV4) → IsSocketV4Text t address → ⊥) c.as_bytes.ensures.value c.in-Err.ensures
