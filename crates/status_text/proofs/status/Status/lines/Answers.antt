use Rattle.std.proofs.lemmas.List.Elements.{All-nil, All-same}
use Rattle.status_text.specs.StatusLine.{IsStatusLine}
use Rattle.status_text.proofs.status.Status.lines.Goals as goal

pub returns-clause-each : goal.returns-clause-each
returns-clause-each c prints =
    let none = All-same IsStatusLine _ _ c.new-lines.ensures (All-nil IsStatusLine) in
    let named = c.push_rows.ensures.each (c.push_book.ensures.each prints (c.push_identity.ensures.each prints none)) in
    let refused = c.push_refused.ensures.each (c.push_tokens.ensures.each named) in
    c.push_others.ensures.each (c.push_unopened.ensures.each (c.push_batches.ensures.each refused))
