use Rattle.client_lines.proofs.FieldLemmas.{too_many}
use Rattle.client_lines.proofs.line.read_fields.Goals as goal

pub returns-in-Some-cut_at : goal.returns-in-Some-cut_at
returns-in-Some-cut_at c =
    too_many c.args.text.now c.in_ok-word.rest.now c.in_ok-nonce.rest.now c.in_ok-user.rest.now c.in_ok-code.rest.now
    c.in-Some.password.now c.in-Some-cut_at.field-0.1.now
    c.in_ok-word.word.now c.in_ok-nonce.nonce.now c.in_ok-user.user.now c.in_ok-code.code.now c.in-Some.second.now c.in-Some-cut_at.field-0.0.now
    c.in_ok-word.ensures.some c.in_ok-nonce.ensures.some c.in_ok-user.ensures.some c.in_ok-code.ensures.some c.in-Some.ensures.some
    c.in-Some-cut_at.ensures.some
