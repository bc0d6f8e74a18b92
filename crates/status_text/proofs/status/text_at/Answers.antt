use Rattle.std.proofs.Common.{◌<◌, ◌≤◌, length, map, Some, sym, ap, ◌∙◌, arith}
use Rattle.std.specs.Option.{option_map}
use Rattle.std.proofs.lemmas.Bool.{ltb-false, ltb-true}
use Rattle.std.proofs.lemmas.List.{length-map}
use Rattle.std.proofs.lemmas.Option.{slice_get-get_or, slice_get-map, slice_get_past}
use Rattle.status_text.specs.StatusLine.{line_text}
use Rattle.status_text.proofs.status.text_at.Goals as goal

pub returns-in-Some : goal.returns-in-Some
returns-in-Some c =
    let lines = c.args.lines.now in
    let line = c.in-Some.line.now in
    let inside : c.args.number < length lines = ltb-true c.args.number (length lines) (sym c.in-Some.ensures.lookup.0) in
    ap Some (c.text.ensures ∙ ap line_text c.in-Some.ensures.lookup.1)
    ∙ sym (slice_get-map line_text lines c.args.number ∙ ap (option_map line_text) (slice_get-get_or lines c.args.number line inside))

pub returns-in-None : goal.returns-in-None
returns-in-None c =
    let lines = c.args.lines.now in
    let past : length lines ≤ c.args.number = ltb-false c.args.number (length lines) (sym c.in-None.ensures.lookup.0) in
    sym (slice_get_past (map line_text lines) c.args.number (omega (arith, length-map lines line_text)))
