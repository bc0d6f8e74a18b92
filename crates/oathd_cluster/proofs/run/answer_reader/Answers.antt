use Rattle.std.proofs.Common.{◌≡◌, ◌+◌, ℕ, List, IfSome, take, ap, subst, ◌∙◌}
use Rattle.std.specs.Option.{option_map}
use Rattle.std.specs.Io.Buffered.{reader_buffer, reader_capacity, reader_inner, reader_remaining}
use Rattle.std.specs.Io.Take.{take_remaining}
use Rattle.users_input.specs.Input.{lines_of}
use Rattle.users_input.proofs.LimitLemmas.{held_none, of_front}
use Rattle.oathd_cluster.specs.Line.{node_lines}
use Rattle.oathd_cluster.specs.Run.{EndsSo}
use Rattle.oathd_cluster.specs.declared.fault.Fault.TheVariants as fault
use Rattle.oathd_cluster.proofs.RunLemmas.{unopened}
use Rattle.oathd_cluster.proofs.run.answer_reader.Goals as goal

pub returns-in_default-clause-ends : goal.returns-in_default-clause-ends
returns-in_default-clause-ends g c =
    unopened (g.R.Read.remaining c.args.reader.now) (λ text. node_lines c.args.nodes 1 (lines_of c.args.limit (take (c.args.limit + 1) text))) fault.Memory
    (g.W.Write.contents c.args.writer.now) tt

pub returns-clause-ends : goal.returns-clause-ends
returns-clause-ends g c =
    let known = g.R.Read.remaining c.args.reader.now in
    let held = c.in-Ok.held in
    let n = c.args.limit + 1 in
    let left = take_remaining (λ r. g.R.Read.remaining r.reader.now) in
    let limited : c.take-part.result.limit ≡ n = c.take-part.ensures.limit ∙ ap (λ (k : ℕ). k + 1) c.from.ensures in
    let all : reader_remaining left c.new-3.result.reader ≡ option_map (take n) known =
    ap (reader_remaining left) c.new-3.ensures.reader
    ∙ held_none (reader_capacity held) (reader_buffer held) (left (reader_inner held)) c.in-Ok.ensures.capacity c.in-Ok.ensures.empty
    ∙ ap left c.in-Ok.ensures.inner
    ∙ ap (λ (k : ℕ). option_map (take k) (g.R.Read.remaining c.take-part.result.inner.reader.now)) limited
    ∙ ap (λ r. option_map (take n) (g.R.Read.remaining r.reader.now)) c.take-part.ensures.inner
    ∙ ap (λ r. option_map (take n) (g.R.Read.remaining r.now)) c.new.ensures in
    let ends = subst (λ (k : ℕ). IfSome (reader_remaining left c.new-3.result.reader) (λ text. EndsSo (node_lines c.args.nodes 1 (lines_of k text)) c.answer_lines.result
    (g.W.Write.contents c.args.writer.now) (g.W.Write.contents c.answer_lines.new.writer))) c.new-3.ensures.room c.answer_lines.ensures.ends in
    of_front known (reader_remaining left c.new-3.result.reader) n (λ (text : List ℕ). EndsSo (node_lines c.args.nodes 1 (lines_of c.args.limit text)) c.answer_lines.result
    (g.W.Write.contents c.args.writer.now) (g.W.Write.contents c.answer_lines.new.writer)) all ends
