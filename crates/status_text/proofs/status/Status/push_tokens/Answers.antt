use Rattle.status_text.proofs.status.Status.push_tokens.Goals as goal

pub returns-clause-each : goal.returns-clause-each
returns-clause-each c all =
    let closed = c.push_quantity-3.ensures.each (c.push_quantity-2.ensures.each (c.push_quantity.ensures.each all)) in
    c.push_quantity-6.ensures.each (c.push_quantity-5.ensures.each (c.push_quantity-4.ensures.each closed))
