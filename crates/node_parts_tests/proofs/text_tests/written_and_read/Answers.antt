use Rattle.std.proofs.Common.{◌≡◌, List, ℕ, None, Result, Ok, Err, ap, ◌∙◌, subst}
use Rattle.std.specs.Prelude.{IfOk}
use Rattle.std.specs.Result.{result_err}
use Rattle.otp_core.specs.Range.{IsSecret}
use Rattle.secret_text.specs.Base32.{Spells, base32_text, refusal_of}
use Rattle.secret_text.specs.declared.fault.SecretFault.{SecretFault}
use Rattle.node_parts_tests.proofs.text_tests.written_and_read.Goals as goal

-- what is not refused, and spells one secret alone
read_is : (read : Result (List ℕ) SecretFault) (text secret : List ℕ) → result_err read ≡ None → IfOk read (Spells text)
    → ((other : List ℕ) → Spells text other → other ≡ secret) → read ≡ Ok secret
read_is (Ok found) text secret none spells alone = ap Ok (alone found spells)
read_is (Err fault) text secret none spells alone = cc none

pub returns : goal.returns
returns c =
    let secret = c.args.secret.now in
    let law = c.reads_what_it_wrote.ensures in
    let len : IsSecret secret = subst IsSecret c.as_slice-bytes.ensures.value c.as_slice-bytes.ensures.len in
    let text : c.deref.result.now ≡ base32_text secret = c.deref.ensures.0 ∙ c.write_base32.ensures.text in
    let none = c.read_base32.ensures.fault ∙ ap refusal_of text ∙ law.taken secret len in
    read_is c.read_base32.result c.deref.result.now secret none c.read_base32.ensures.found
    (λ other h. law.alone secret other c.write_base32.ensures.bytes (rw text at h))
