use Rattle.std.proofs.Common.{sym, subst}
use Rattle.std.specs.Net.Grammar.{IsSocketV4Text}
use Rattle.std.specs.declared.net.socket_addr.SocketAddrV4.{SocketAddrV4}
use Rattle.clap.specs.Matches.{found_of}
use Rattle.oathd_words.proofs.WordsLemmas.{no_address}
use Rattle.oathd_words.proofs.inquiry_words.asked_address.Goals as goal

pub returns-in-Err-clause-none : goal.returns-in-Err-clause-none
returns-in-Err-clause-none c =
    no_address (found_of c.args.matches.now) c.in_ok-text.text.now (sym c.in_ok-text.ensures)
    (subst (λ t. (address : SocketAddrV4) → IsSocketV4Text t address → ⊥) c.as_bytes.ensures.value c.in-Err.ensures)
