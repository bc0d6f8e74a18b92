use Rattle.std.proofs.Common.{◌≡◌, ◌+◌, ℕ, List, IfSome, take, ap, subst, ◌∙◌}
use Rattle.std.specs.Option.{option_map}
use Rattle.std.specs.Io.Buffered.{reader_buffer, reader_capacity, reader_inner, reader_remaining}
use Rattle.std.specs.Io.Take.{take_remaining}
use Rattle.users_input.proofs.LimitLemmas.{held_none, of_front}
use Rattle.oathd_sim.specs.Sim.{EndsSo, IsCutSo, Setup, sim_read, sim_of}
use Rattle.oathd_sim.proofs.FaultLemmas.{err_then}
use Rattle.oathd_sim.proofs.RunLemmas.{any_cut, memory_ends}
use Rattle.oathd_sim.proofs.sim.run_sim.Goals as goal

pub returns-in_default : goal.returns-in_default
returns-in_default g c =
    let setup : Setup = record { nodes = c.args.nodes; limits = c.args.settings; moment = c.args.moment; key = c.args.key.now } in
    let known = g.R.Read.remaining c.args.reader.now in
    record {
      ends = memory_ends known (sim_of setup 16777216 c.args.limit) (g.W.Write.contents c.args.writer.now);
      cut = any_cut known c.args.settings c.args.moment 16777216 c.args.limit (take (c.args.limit + 1));
    }

pub returns : goal.returns
returns g c =
    let setup : Setup = record { nodes = c.args.nodes; limits = c.args.settings; moment = c.args.moment; key = c.args.key.now } in
    let known = g.R.Read.remaining c.args.reader.now in
    let held = c.in-Ok.held in
    let input = c.new-3.result in
    let n = c.args.limit + 1 in
    let left = take_remaining (λ r. g.R.Read.remaining r.reader.now) in
    let limited : c.take-part.result.limit ≡ n = c.take-part.ensures.limit ∙ ap (λ (k : ℕ). k + 1) c.from.ensures in
    let all : reader_remaining left input.reader ≡ option_map (take n) known =
    ap (reader_remaining left) c.new-3.ensures.reader
    ∙ held_none (reader_capacity held) (reader_buffer held) (left (reader_inner held)) c.in-Ok.ensures.capacity c.in-Ok.ensures.empty
    ∙ ap left c.in-Ok.ensures.inner
    ∙ ap (λ (k : ℕ). option_map (take k) (g.R.Read.remaining c.take-part.result.inner.reader.now)) limited
    ∙ ap (λ r. option_map (take n) (g.R.Read.remaining r.reader.now)) c.take-part.ensures.inner
    ∙ ap (λ r. option_map (take n) (g.R.Read.remaining r.now)) c.new.ensures in
    let ends = subst (λ (k : ℕ). IfSome (reader_remaining left input.reader) (λ text. EndsSo (sim_read setup 16777216 k text) c.simulate.result
    (g.W.Write.contents c.args.writer.now) (g.W.Write.contents c.simulate.new.writer))) c.new-3.ensures.room c.simulate.ensures.ends in
    record {
      ends = of_front known (reader_remaining left input.reader) n (λ (text : List ℕ). EndsSo (sim_read setup 16777216 c.args.limit text) c.simulate.result
          (g.W.Write.contents c.args.writer.now) (g.W.Write.contents c.simulate.new.writer)) all ends;
      cut = err_then c.simulate.result (λ x. IfSome (reader_remaining left input.reader) (λ text. IsCutSo c.args.settings c.args.moment 16777216 input.room text x))
          (λ x. IfSome known (λ text. IsCutSo c.args.settings c.args.moment 16777216 c.args.limit (take n text) x)) c.simulate.ensures.cut
          (λ x h. of_front known (reader_remaining left input.reader) n (λ (text : List ℕ). IsCutSo c.args.settings c.args.moment 16777216 c.args.limit text x) all
          (subst (λ (k : ℕ). IfSome (reader_remaining left input.reader) (λ text. IsCutSo c.args.settings c.args.moment 16777216 k text x)) c.new-3.ensures.room h));
    }
