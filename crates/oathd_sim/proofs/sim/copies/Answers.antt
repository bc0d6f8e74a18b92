use Rattle.std.proofs.Common.{◌≡◌, ◌++◌, ◌∷◌, [], ap, ◌∙◌, arith, map, replicate, List, ℕ}
use Rattle.std.proofs.lemmas.List.{map-append, replicate_more}
use Rattle.oathd_sim.proofs.sim.copies.Goals as goal

pub loop-done-preserved : goal.loop-done-preserved
loop-done-preserved c =
    let copied = c.in_ok-to_vec.ensures.items_if_clones_equal (λ x y same. same) in
    ap (map (λ list. list.items)) c.in_ok-push.ensures.items ∙ map-append (λ list. list.items) c.loop-done.lists.items (c.in_ok-to_vec.field-0 ∷ [])
    ∙ ap (λ (lists : List (List ℕ)). lists ++ c.in_ok-to_vec.field-0.items ∷ []) c.loop-done.invariant
    ∙ ap (λ (list : List ℕ). replicate c.loop-done.done c.args.floors.now ++ list ∷ []) copied
    ∙ replicate_more c.loop-done.done c.args.floors.now

pub returns-clause-same : goal.returns-clause-same
returns-clause-same c =
    let all : c.loop-done.done ≡ c.args.count = omega (arith, c.loop-done-test.false, c.loop-done.auto.done-end) in
    c.loop-done.invariant ∙ ap (λ (n : ℕ). replicate n c.args.floors.now) all
