use Rattle.std.proofs.Common.{◌≡◌, ◌+◌, ℕ, List, IfSome, take, ap, subst, ◌∙◌}
use Rattle.std.specs.Option.{option_map}
use Rattle.std.specs.Io.Buffered.{reader_buffer, reader_capacity, reader_inner, reader_remaining}
use Rattle.std.specs.Io.Take.{take_remaining}
use Rattle.std.proofs.lemmas.Option.{IfSome_then}
use Rattle.oathd_lines.specs.Fault.{input_fault_of}
use Rattle.users_input.specs.declared.fault.InputFault.TheVariants as input
use Rattle.oathd_lines.specs.Run.{EndsSo, IsCutSo, Setup, run_of, run_read}
use Rattle.users_input.proofs.LimitLemmas.{held_none, of_front}
use Rattle.oathd_lines.proofs.ServeLemmas.{err_then, memory_ends_any, no_cut}
use Rattle.oathd_lines.proofs.lines.serve_lines.Goals as goal

pub returns-in_default : goal.returns-in_default
returns-in_default g c =
    let setup : Setup = record { limits = c.args.settings; moment = c.args.moment } in
    let known = g.R.Read.remaining c.args.reader.now in
    record {
      ends = memory_ends_any known (run_of setup 16777216 c.args.limit) (g.W.Write.contents c.args.writer.now);
      cut = IfSome_then known (no_cut setup 16777216 c.args.limit known (input_fault_of input.Memory) tt) (λ text h. tt);
    }

pub returns : goal.returns
returns g c =
    let setup : Setup = record { limits = c.args.settings; moment = c.args.moment } in
    let known = g.R.Read.remaining c.args.reader.now in
    let held = c.in-Ok.held in
    let n = c.args.limit + 1 in
    let left = take_remaining (λ r. g.R.Read.remaining r.reader.now) in
    let limited : c.take-part.result.limit ≡ n = c.take-part.ensures.limit ∙ ap (λ (k : ℕ). k + 1) c.from.ensures in
    let all : reader_remaining left c.new-3.result.reader ≡ option_map (take n) known =
    ap (reader_remaining left) c.new-3.ensures.reader
    ∙ held_none (reader_capacity held) (reader_buffer held) (left (reader_inner held)) c.in-Ok.ensures.capacity c.in-Ok.ensures.empty
    ∙ ap left c.in-Ok.ensures.inner
    ∙ ap (λ (k : ℕ). option_map (take k) (g.R.Read.remaining c.take-part.result.inner.reader.now)) limited
    ∙ ap (λ r. option_map (take n) (g.R.Read.remaining r.reader.now)) c.take-part.ensures.inner
    ∙ ap (λ r. option_map (take n) (g.R.Read.remaining r.now)) c.new.ensures in
    let ends = subst (λ (k : ℕ). IfSome (reader_remaining left c.new-3.result.reader) (λ text. EndsSo (run_read setup 16777216 k text) c.serve_input.result
    (g.W.Write.contents c.args.writer.now) (g.W.Write.contents c.serve_input.new.writer))) c.new-3.ensures.room c.serve_input.ensures.ends in
    record {
      ends = of_front known (reader_remaining left c.new-3.result.reader) n (λ (text : List ℕ). EndsSo (run_read setup 16777216 c.args.limit text) c.serve_input.result
          (g.W.Write.contents c.args.writer.now) (g.W.Write.contents c.serve_input.new.writer)) all ends;
      cut = err_then c.serve_input.result (λ x. IfSome (reader_remaining left c.new-3.result.reader) (λ text. IsCutSo setup 16777216 c.new-3.result.room text x))
          (λ x. IfSome known (λ text. IsCutSo setup 16777216 c.args.limit (take n text) x)) c.serve_input.ensures.cut
          (λ x h. of_front known (reader_remaining left c.new-3.result.reader) n (λ (text : List ℕ). IsCutSo setup 16777216 c.args.limit text x) all
          (subst (λ (k : ℕ). IfSome (reader_remaining left c.new-3.result.reader) (λ text. IsCutSo setup 16777216 k text x)) c.new-3.ensures.room h));
    }
