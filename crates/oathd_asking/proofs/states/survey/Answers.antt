use Rattle.std.proofs.Common.{◌≡◌, ℕ, List, length, map, inl, ap, subst, ◌∙◌, arith}
use Rattle.std.specs.Io.KnownBytes.{Appends}
use Rattle.std.proofs.lemmas.List.{length-map}
use Rattle.oathd_asking.specs.Asked.{Asked, asked_of}
use Rattle.oathd_asking.specs.Survey.{state_requests, survey_end}
use Rattle.oathd_asking.specs.Table.{health_of, table_text}
use Rattle.oathd_asking.proofs.StateLemmas.{asked_count}
use Rattle.oathd_asking.proofs.states.survey.Goals as goal

pub states_of-requires-clause-few : goal.states_of-requires-clause-few
states_of-requires-clause-few g c =
    let count = asked_count c.args.operator.now asked_of c.in_ok-all.all.items (length c.args.members.now) c.in_ok-all.ensures.asked in
    omega (arith, count, ap length c.deref.ensures.value, c.requires)

pub states_of-requires-clause-asked : goal.states_of-requires-clause-asked
states_of-requires-clause-asked g c =
    let count = asked_count c.args.operator.now asked_of c.in_ok-all.all.items (length c.args.members.now) c.in_ok-all.ensures.asked in
    let same : length c.args.members.now ≡ length c.deref.result.now = omega (arith, count, ap length c.deref.ensures.value) in
    ap (map asked_of) c.deref.ensures.value ∙ c.in_ok-all.ensures.asked ∙ ap (state_requests c.args.operator.now 1) same

pub returns : goal.returns
returns g c =
    let count = asked_count c.args.operator.now asked_of c.in_ok-all.all.items (length c.args.members.now) c.in_ok-all.ensures.asked in
    let old = g.W.Write.contents c.args.writer.now in
    let new = g.W.Write.contents c.print_table.new.writer in
    inl (record {
      texts = map (λ text. text.items) c.in_ok-texts.texts.items;
      count = omega (arith, count, ap length c.deref.ensures.value, c.in_ok-texts.ensures.count, length-map c.in_ok-texts.texts.items (λ text. text.items));
      each = c.in_ok-texts.ensures.states;
      written = subst (λ xs. Appends old new (table_text (map (λ text. text.items) xs))) c.deref-2.ensures.value c.in_ok-print_table.ensures.printed;
      ends = c.end_of.ensures ∙ ap survey_end c.health_of.ensures
          ∙ ap (λ xs. survey_end (health_of (map (λ text. text.items) xs))) c.deref-3.ensures.value;
    })
