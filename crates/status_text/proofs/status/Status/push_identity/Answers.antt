use Rattle.std.proofs.lemmas.List.Elements.{All-push, All-same}
use Rattle.status_text.specs.StatusLine.{IsStatusLine}
use Rattle.status_text.specs.declared.status_line.StatusLine.TheVariants.{Fingerprint}
use Rattle.status_text.proofs.status.Status.push_identity.Goals as goal

pub returns-clause-each : goal.returns-clause-each
returns-clause-each c prints all =
    let version = c.push_version.ensures.each (c.push_quantity.ensures.each (c.push_node.ensures.each all)) in
    let started = c.push_quantity-3.ensures.each (c.push_quantity-2.ensures.each version) in
    All-same IsStatusLine _ _ c.push.ensures.items (All-push IsStatusLine _ (Fingerprint c.args.self.now.fingerprint) started prints.0)
