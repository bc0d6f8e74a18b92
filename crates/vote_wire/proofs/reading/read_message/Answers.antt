-- If the tag is right, the body is read. If it is wrong, nothing is read.
use Rattle.std.proofs.Common.{sym, ap, ◌∙◌}
use Rattle.vote_wire.specs.Body.{body_at}
use Rattle.vote_wire.proofs.TagLemmas.{is_none, is_some, tagged_is_read, untagged_is_none}
use Rattle.vote_wire.proofs.reading.read_message.Goals as goal

pub returns-in_err-tagged_body-clause-exact : goal.returns-in_err-tagged_body-clause-exact
returns-in_err-tagged_body-clause-exact c =
    c.from_residual.ensures ∙ sym (untagged_is_none c.args.key.now c.args.bytes.now c.in_err-tagged_body.ensures.none)

pub returns-clause-exact : goal.returns-clause-exact
returns-clause-exact c =
    let tagged = c.in_ok-tagged_body.ensures.some in
    c.body_at.ensures ∙ ap body_at tagged.1 ∙ sym (tagged_is_read c.args.key.now c.args.bytes.now tagged.0)

pub returns-clause-some : goal.returns-clause-some
returns-clause-some c = is_some c.args.key.now c.args.bytes.now c.body_at.result (returns-clause-exact c)

pub returns-clause-none : goal.returns-clause-none
returns-clause-none c = is_none c.args.key.now c.args.bytes.now c.body_at.result (returns-clause-exact c)
