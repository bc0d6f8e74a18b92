use Rattle.std.proofs.Common.{◌≡◌, ℕ, List, [], refl, sym, ap, ◌∙◌}
use Rattle.std.specs.Borrow.{Bor}
use Rattle.std.specs.Option.{option_map}
use Rattle.std.specs.Prelude.{◌==◌, slice_get, unwrap_or}
use Rattle.std.proofs.lemmas.Iterator.Consumers.{nth_from_yields_List}
use Rattle.std.proofs.lemmas.Iterator.Splits.{YieldsList-from_slice_split}
use Rattle.token_file.specs.Fields.{lines_of}
use Rattle.oathd_tasks.proofs.advice.line_at.Goals as goal

pub returns-in-Some : goal.returns-in-Some
returns-in-Some c =
    let road = YieldsList-from_slice_split _ (λ b. b == 10) c.args.text.now
    c.split.ensures.rest c.split.ensures.done c.split.ensures.closure (λ x r q k. (refl, k.called.met ∙ ap (λ b. b == 10) k.shows)) in
    ap (λ found. unwrap_or (option_map (λ (line : Bor (List ℕ)). line.now) found) []) (sym c.in-Some.is)
    ∙ ap (λ found. unwrap_or found []) (nth_from_yields_List c.nth.result c.nth.new.self _ c.nth.ensures.ran road)
    ∙ ap (λ number. unwrap_or (slice_get (lines_of c.args.text.now) number) []) c.saturating_sub.ensures

pub returns-in-None : goal.returns-in-None
returns-in-None c =
    let road = YieldsList-from_slice_split _ (λ b. b == 10) c.args.text.now
    c.split.ensures.rest c.split.ensures.done c.split.ensures.closure (λ x r q k. (refl, k.called.met ∙ ap (λ b. b == 10) k.shows)) in
    ap (λ found. unwrap_or (option_map (λ (line : Bor (List ℕ)). line.now) found) []) (sym c.in-None.is)
    ∙ ap (λ found. unwrap_or found []) (nth_from_yields_List c.nth.result c.nth.new.self _ c.nth.ensures.ran road)
    ∙ ap (λ number. unwrap_or (slice_get (lines_of c.args.text.now) number) []) c.saturating_sub.ensures
