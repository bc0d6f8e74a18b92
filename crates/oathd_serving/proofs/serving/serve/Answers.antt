use Rattle.std.proofs.Common.{refl}
use Rattle.oathd_serving.specs.Serve.{IsAskedFor}
use Rattle.oathd_serving.proofs.ServeLemmas.{ends_as_asked}
use Rattle.oathd_serving.proofs.WordsLemmas.{given_ends, named_ends, node_asked}
use Rattle.oathd_serving.proofs.serving.serve.Goals as goal

pub returns-in-Named : goal.returns-in-Named
returns-in-Named g c =
    named_ends _ _ c.args.cluster c.in-Named.node _ c.args.turns c.args.is_logged c.args.clients c.args.site.now.cluster.now c.serve_member.result c.in-Named.is
    c.serve_member.ensures

pub returns-in_ok-lines-in-Given : goal.returns-in_ok-lines-in-Given
returns-in_ok-lines-in-Given g c =
    given_ends _ _ c.args.cluster c.in-Given.settings c.in-Given.place c.in-Given.members _ c.args.turns c.args.is_logged c.args.clients c.args.site.now.cluster.now
    c.serve_as.result c.in-Given.is
    (ends_as_asked _ _ (IsAskedFor c.args.cluster c.args.turns c.args.is_logged c.args.clients c.args.site.now.cluster.now) _
    (node_asked c.args.cluster c.in-Given.settings c.in-Given.place c.in-Given.members _ c.args.turns c.args.is_logged c.args.clients c.args.site.now.cluster.now _
    c.in_ok-read_key-in-Given.field-0 c.in-Given.is refl refl refl refl refl refl c.in_ok-lines-in-Given.ensures.lines)
    c.serve_as.result c.serve_as.ensures)
