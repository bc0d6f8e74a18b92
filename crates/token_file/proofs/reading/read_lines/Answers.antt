use Rattle.std.proofs.Common.{◌≡◌, ◌≤◌, length, length-take-le, take, Ok, Err, refl, sym, ap, subst, ◌∙◌, arith}
use Rattle.std.specs.Prelude.{IsTrue, false}
use Rattle.token_file.specs.declared.fault.LineFault.TheVariants.{Read, Memory}
use Rattle.token_file.specs.declared.fault.FileFault.{FileFault}
use Rattle.token_file.specs.declared.source.Pulled.TheVariants.{Bytes}
use Rattle.token_file.specs.Source.{OfText, Pulls}
use Rattle.token_file.specs.UsersFile.{Instant, IsCutOff, after_line, at_line, book_of, is_of_text, is_read, is_read_result}
use Rattle.token_file.proofs.ReadingLemmas.{at_end, cut_here, err_both, err_map, fault_within, handed_on, memory_within, not_read, ok_map, or-false, same_failed, so_far_more, so_far_none, so_far_paired, so_far_within, text_map}
use Rattle.token_file.proofs.SourceLemmas.{stays_start, stays_then}
use Rattle.token_file.proofs.reading.read_lines.Goals as goal

pub loop-init : goal.loop-init
loop-init g c = record {
  so_far = so_far_none (record { skew = c.args.settings.skew; moment = c.args.moment }) c.args.limit (g.S.Source.left c.args.source.now) c.new-reading.result c.new-reading.ensures;
  behind = stays_start (g.S.Source.behind c.args.source.now);
  failed = refl;
}

-- the text ends here
pub returns-in-Bytes-eq0-clause-book : goal.returns-in-Bytes-eq0-clause-book
returns-in-Bytes-eq0-clause-book g c =
    let at : Instant = record { skew = c.args.settings.skew; moment = c.args.moment } in
    let p = c.loop.reading in
    let taken : Pulls (g.S.Source.left c.loop.source) (g.S.Source.left c.pull.new.self) (Bytes 0) c.pull.new.buffer =
    subst (λ n. Pulls (g.S.Source.left c.loop.source) (g.S.Source.left c.pull.new.self) (Bytes n) c.pull.new.buffer) c.in-Bytes-eq0.field-0-test c.in-Bytes-eq0.ensures.bytes in
    let end = at_end at c.args.limit c.loop.counter (g.S.Source.left c.args.source.now) (g.S.Source.left c.loop.source) (g.S.Source.left c.pull.new.self) p c.loop.invariant.so_far taken.1 (taken.2 refl) in
    ok_map c.finish.result (λ read. after_line at p.import p.begun ≡ Ok (record { book = read.0; floors = read.1.items }))
    (λ read. OfText (g.S.Source.left c.args.source.now) (λ text. book_of c.args.limit at text ≡ Ok (record { book = read.0; floors = read.1.items })))
    c.finish.ensures.ok
    (λ read e. text_map (g.S.Source.left c.args.source.now) (λ text. book_of c.args.limit at text ≡ at_line p.number (after_line at p.import p.begun))
    (λ text. book_of c.args.limit at text ≡ Ok (record { book = read.0; floors = read.1.items })) end (λ text h. h ∙ ap (at_line p.number) e))

pub returns-in-Bytes-eq0-clause-floors : goal.returns-in-Bytes-eq0-clause-floors
returns-in-Bytes-eq0-clause-floors g c =
    let at : Instant = record { skew = c.args.settings.skew; moment = c.args.moment } in
    let p = c.loop.reading in
    ok_map c.finish.result (λ read. after_line at p.import p.begun ≡ Ok (record { book = read.0; floors = read.1.items }))
    (λ read. length read.1.items ≡ length read.0)
    c.finish.ensures.ok
    (λ read e. so_far_paired at c.args.limit c.loop.counter (g.S.Source.left c.args.source.now) (g.S.Source.left c.loop.source) p (record { book = read.0; floors = read.1.items }) c.loop.invariant.so_far e)

pub returns-in-Bytes-eq0-clause-fault : goal.returns-in-Bytes-eq0-clause-fault
returns-in-Bytes-eq0-clause-fault g c =
    let at : Instant = record { skew = c.args.settings.skew; moment = c.args.moment } in
    let p = c.loop.reading in
    let taken : Pulls (g.S.Source.left c.loop.source) (g.S.Source.left c.pull.new.self) (Bytes 0) c.pull.new.buffer =
    subst (λ n. Pulls (g.S.Source.left c.loop.source) (g.S.Source.left c.pull.new.self) (Bytes n) c.pull.new.buffer) c.in-Bytes-eq0.field-0-test c.in-Bytes-eq0.ensures.bytes in
    let end = at_end at c.args.limit c.loop.counter (g.S.Source.left c.args.source.now) (g.S.Source.left c.loop.source) (g.S.Source.left c.pull.new.self) p c.loop.invariant.so_far taken.1 (taken.2 refl) in
    let Found : FileFault → Type 0 = λ fault. IsTrue (is_of_text fault.kind) → after_line at p.import p.begun ≡ Err fault.kind in
    let Here : FileFault → Type 0 = λ fault. fault.line ≡ p.number in
    err_map c.finish.result (λ fault. Found fault × Here fault)
    (λ fault. IsTrue (is_of_text fault.kind) → OfText (g.S.Source.left c.args.source.now) (λ text. book_of c.args.limit at text ≡ Err (fault.line, fault.kind)))
    (err_both c.finish.result Found Here c.finish.ensures.fault c.finish.ensures.line)
    (λ fault e t. text_map (g.S.Source.left c.args.source.now) (λ text. book_of c.args.limit at text ≡ at_line p.number (after_line at p.import p.begun))
    (λ text. book_of c.args.limit at text ≡ Err (fault.line, fault.kind)) end
    (λ text h. h ∙ ap (at_line p.number) (e.0 t) ∙ ap (λ n. Err (n, fault.kind)) (sym e.1)))

pub returns-in-Bytes-eq0-clause-memory : goal.returns-in-Bytes-eq0-clause-memory
returns-in-Bytes-eq0-clause-memory g c =
    let at : Instant = record { skew = c.args.settings.skew; moment = c.args.moment } in
    let p = c.loop.reading in
    err_map c.finish.result (λ fault. fault.line ≡ p.number)
    (λ fault. fault.kind ≡ Memory → OfText (g.S.Source.left c.args.source.now) (λ text. IsCutOff Memory c.args.limit at text fault.line))
    c.finish.ensures.line
    (λ fault e k. cut_here Memory at c.args.limit c.loop.counter fault.line (g.S.Source.left c.args.source.now) (g.S.Source.left c.loop.source) p c.loop.invariant.so_far c.finish.ensures.len e)

pub returns-in-Bytes-eq0-clause-failed : goal.returns-in-Bytes-eq0-clause-failed
returns-in-Bytes-eq0-clause-failed g c =
    same_failed (g.S.Source.has_failed c.args.source.now) (g.S.Source.has_failed c.loop.source) (g.S.Source.has_failed c.pull.new.self) (is_read_result c.finish.result)
    c.in-Bytes-eq0.ensures.failed c.loop.invariant.failed (not_read c.finish.result c.finish.ensures.unread)

pub returns-in-Bytes-eq0-clause-behind : goal.returns-in-Bytes-eq0-clause-behind
returns-in-Bytes-eq0-clause-behind g c =
    stays_then (g.S.Source.behind c.args.source.now) (g.S.Source.behind c.loop.source) (g.S.Source.behind c.pull.new.self)
    c.loop.invariant.behind c.in-Bytes-eq0.ensures.behind

-- a fault within the bytes that were pulled
pub returns-in_err-take_all-in-Bytes-clause-fault :
    goal.returns-in_err-take_all-in-Bytes-clause-fault
returns-in_err-take_all-in-Bytes-clause-fault g c =
    let at : Instant = record { skew = c.args.settings.skew; moment = c.args.moment } in
    let fault = c.in_err-take_all-in-Bytes.field-0.0 in
    handed_on c.from_residual.result fault
    (λ fault. IsTrue (is_of_text fault.kind) → OfText (g.S.Source.left c.args.source.now) (λ text. book_of c.args.limit at text ≡ Err (fault.line, fault.kind)))
    c.from_residual.ensures.1
    (fault_within at c.args.limit c.loop.counter (g.S.Source.left c.args.source.now) (g.S.Source.left c.loop.source) (g.S.Source.left c.pull.new.self) c.loop.reading
    (take c.in-Bytes.len c.pull.new.buffer) fault c.loop.invariant.so_far c.in-Bytes.ensures.bytes.1 c.in_err-take_all-in-Bytes.ensures.fault)

pub returns-in_err-take_all-in-Bytes-clause-memory :
    goal.returns-in_err-take_all-in-Bytes-clause-memory
returns-in_err-take_all-in-Bytes-clause-memory g c =
    let at : Instant = record { skew = c.args.settings.skew; moment = c.args.moment } in
    let fault = c.in_err-take_all-in-Bytes.field-0.0 in
    handed_on c.from_residual.result fault
    (λ fault. fault.kind ≡ Memory → OfText (g.S.Source.left c.args.source.now) (λ text. IsCutOff Memory c.args.limit at text fault.line))
    c.from_residual.ensures.1
    (memory_within at c.args.limit c.loop.counter (g.S.Source.left c.args.source.now) (g.S.Source.left c.loop.source) (g.S.Source.left c.pull.new.self) c.loop.reading
    (take c.in-Bytes.len c.pull.new.buffer) fault c.loop.invariant.so_far c.in-Bytes.ensures.bytes.1 c.in_err-take_all-in-Bytes.ensures.fault)

pub returns-in_err-take_all-in-Bytes-clause-failed :
    goal.returns-in_err-take_all-in-Bytes-clause-failed
returns-in_err-take_all-in-Bytes-clause-failed g c =
    let quiet = handed_on c.from_residual.result c.in_err-take_all-in-Bytes.field-0.0 (λ fault. is_read fault.kind ≡ false) c.from_residual.ensures.1 c.in_err-take_all-in-Bytes.ensures.fault.unread in
    same_failed (g.S.Source.has_failed c.args.source.now) (g.S.Source.has_failed c.loop.source) (g.S.Source.has_failed c.pull.new.self) (is_read_result c.from_residual.result)
    c.in-Bytes.ensures.failed c.loop.invariant.failed (not_read c.from_residual.result quiet)

pub returns-in_err-take_all-in-Bytes-clause-behind :
    goal.returns-in_err-take_all-in-Bytes-clause-behind
returns-in_err-take_all-in-Bytes-clause-behind g c =
    stays_then (g.S.Source.behind c.args.source.now) (g.S.Source.behind c.loop.source) (g.S.Source.behind c.pull.new.self)
    c.loop.invariant.behind c.in-Bytes.ensures.behind

pub returns-in-Failed-clause-behind : goal.returns-in-Failed-clause-behind
returns-in-Failed-clause-behind g c =
    stays_then (g.S.Source.behind c.args.source.now) (g.S.Source.behind c.loop.source) (g.S.Source.behind c.pull.new.self)
    c.loop.invariant.behind c.in-Failed.ensures.behind

pub returns-in-Failed-clause-read : goal.returns-in-Failed-clause-read
returns-in-Failed-clause-read g c = λ e.
    cut_here Read (record { skew = c.args.settings.skew; moment = c.args.moment }) c.args.limit c.loop.counter c.fault.result.line (g.S.Source.left c.args.source.now) (g.S.Source.left c.loop.source) c.loop.reading
    c.loop.invariant.so_far c.fault.ensures.len (ap (λ (f : FileFault). f.line) c.fault.ensures.fault)

pub loop-preserved : goal.loop-preserved
loop-preserved g c =
    let len = length-take-le c.in-Bytes.len c.pull.new.buffer c.in-Bytes.ensures.bytes.0 in
    let some : 1 ≤ length (take c.in-Bytes.len c.pull.new.buffer) = omega (arith, len, c.in-Bytes.len-test.1) in
    record {
      so_far = so_far_more (record { skew = c.args.settings.skew; moment = c.args.moment }) c.args.limit c.loop.counter (g.S.Source.left c.args.source.now) (g.S.Source.left c.loop.source)
          (g.S.Source.left c.pull.new.self) c.loop.reading c.take_all.new.self (take c.in-Bytes.len c.pull.new.buffer) c.loop.invariant.so_far c.in-Bytes.ensures.bytes.1
          c.in_ok-take_all-in-Bytes.ensures.ok some;
      behind = stays_then (g.S.Source.behind c.args.source.now) (g.S.Source.behind c.loop.source) (g.S.Source.behind c.pull.new.self)
          c.loop.invariant.behind c.in-Bytes.ensures.behind;
      failed = c.in-Bytes.ensures.failed ∙ or-false (g.S.Source.has_failed c.loop.source) ∙ c.loop.invariant.failed;
    }

pub unreachable-requires : goal.unreachable-requires
unreachable-requires g c =
    let within = so_far_within (record { skew = c.args.settings.skew; moment = c.args.moment }) c.args.limit c.loop.counter (g.S.Source.left c.args.source.now) (g.S.Source.left c.loop.source) c.loop.reading c.loop.invariant.so_far in
    omega (arith, c.loop-test.false, within)
