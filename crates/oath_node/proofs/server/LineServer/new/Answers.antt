use Rattle.std.proofs.Common.{◌≡◌, sym, subst, ◌∙◌}
use Rattle.std.specs.Prelude.{IfSome}
use Rattle.oath_node.specs.Alone.{IsAlone, alone_place}
use Rattle.oath_node.specs.ReferenceServer.{server_at}
use Rattle.oath_node.proofs.ServingLemmas.{alone_at_start}
use Rattle.oath_node.proofs.server.LineServer.new.Goals as goal

pub returns-in-Ok-clause-serving : goal.returns-in-Ok-clause-serving
returns-in-Ok-clause-serving c =
    let floors = c.args.floors.now in
    let place = subst (λ found. IfSome found (λ p. p ≡ alone_place)) c.unwrap-place.ensures c.new.ensures.value in
    let opened = c.in-Ok.ensures in
    record {
      book_is = opened.book_is;
      limits_are = opened.limits_are;
      place_is = opened.place_is ∙ place;
      alone = subst (λ x. IsAlone 0 x (server_at floors)) (sym opened.state) (alone_at_start floors);
    }
