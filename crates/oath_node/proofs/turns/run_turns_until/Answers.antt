use Rattle.std.proofs.Common.{◌≡◌, ◌<◌, inl, inr, Bool, true, false, ℕ, ◌+◌, ◌-◌, List, ap, length, arith, refl, sym, subst, ◌∙◌}
use Rattle.std.specs.Prelude.{Result, Ok}
use Rattle.oath_node.specs.Hosted.{is_waiting}
use Rattle.oath_node.specs.Turns.{IsBatch, Receipt}
use Rattle.oath_node.proofs.BatchLemmas.{one_more}
use Rattle.oath_node.specs.TurnServing.{Serves, ServesUntil}
use Rattle.oath_node.specs.TurnSteps.{scene}
use Rattle.oath_node.specs.declared.serve_fault.ServeFault.{ServeFault}
use Rattle.oath_node.specs.declared.turns.Served.{Served}
use Rattle.oath_node.specs.declared.turns.Tally.{Tally}
use Rattle.oath_node.proofs.GrowLemmas.{err_is}
use Rattle.oath_node.proofs.TurnLemmas.{IsSoFar, ends_by_clock, serves_less, serves_until_end, serves_until_fault, so_far_asked, so_far_few, so_far_next, so_far_start, zero_tally}
use Rattle.oath_node.proofs.turns.run_turns_until.Goals as goal

pub loop-left-init : goal.loop-left-init
loop-left-init g c =
    let held = g.S.FloorStore.held in
    let first = g.P.Port.events c.args.port.now in
    let asked = g.C.Clock.moments c.args.clock.now in
    let zeros = c.default-tally.ensures in (
      0,
      omega arith,
      subst (λ (t : Tally). IsSoFar held c.args.node.now first asked 0 (scene g.P.Port.events c.args.node.now c.args.port.now t) asked)
          (sym (zero_tally c.default-tally.result zeros.0 zeros.1.0 zeros.1.1)) (so_far_start held c.args.node.now first asked),
      refl,
      inl refl,
    )

pub take_batch-requires-clause-few : goal.take_batch-requires-clause-few
take_batch-requires-clause-few g c =
    let h = c.loop-left.invariant in
    so_far_few g.S.FloorStore.held c.args.node.now (g.P.Port.events c.args.port.now) (g.C.Clock.moments c.args.clock.now) h.0
    c.loop-left.left c.args.turns (scene g.P.Port.events c.loop-left.node c.loop-left.port c.loop-left.tally)
    (g.C.Clock.moments c.loop-left.clock) h.2 h.1 c.requires.few

pub returns-in_err-left-clause-serves : goal.returns-in_err-left-clause-serves
returns-in_err-left-clause-serves g c =
    let held = g.S.FloorStore.held in
    let first = g.P.Port.events c.args.port.now in
    let asked = g.C.Clock.moments c.args.clock.now in
    let now = scene g.P.Port.events c.loop-left.node c.loop-left.port c.loop-left.tally in
    let new = scene g.P.Port.events c.take_batch.new.node c.take_batch.new.port c.take_batch.new.tally in
    let told = g.C.Clock.moments c.take_batch.new.clock in
    let fault = c.in_err-left.field-0.0 in
    let h = c.loop-left.invariant in
    let answers = g.U.Until.answers c.loop-left.until in
    subst (λ (r : Result Served ServeFault). ServesUntil held c.args.node.now new.node first new.entries asked told c.args.turns answers r)
    (sym (err_is c.from_residual.result fault c.from_residual.ensures.1))
    (serves_until_fault held c.args.node.now new.node first new.entries asked told c.args.turns answers fault
    (serves_less held c.args.node.now first asked h.0 c.loop-left.left c.args.turns now new (g.C.Clock.moments c.loop-left.clock) told
    fault c.requires.few h.1 h.2 c.in_err-left.ensures.takes))

pub returns-in_err-left-clause-clock : goal.returns-in_err-left-clause-clock
returns-in_err-left-clause-clock g c =
    let fault = c.in_err-left.field-0.0 in
    let h = c.loop-left.invariant in
    ends_by_clock g.S.FloorStore.held c.args.node.now (g.P.Port.events c.args.port.now)
    (g.C.Clock.moments c.args.clock.now) h.0 c.loop-left.left c.args.turns
    (scene g.P.Port.events c.loop-left.node c.loop-left.port c.loop-left.tally)
    (scene g.P.Port.events c.take_batch.new.node c.take_batch.new.port c.take_batch.new.tally)
    (g.C.Clock.moments c.loop-left.clock) (g.C.Clock.moments c.take_batch.new.clock) fault c.requires.few h.1
    h.2 c.in_err-left.ensures.takes c.from_residual.result (err_is c.from_residual.result fault c.from_residual.ensures.1)

-- the answer after a batch
asked_at : (answers : ℕ → Bool → Bool → Type 0) (count left : ℕ) (waits answer : Bool) (received : ℕ) (batch : List Receipt)
    → IsBatch received batch → answers left waits answer → (0 < count + length batch) × answers left waits answer
asked_at answers count left waits answer received batch b h =
    let some = ap (λ (xs : List Receipt). length xs) b.is ∙ one_more b.before b.last in
    (omega (arith, some), h)

pub loop-left-preserved : goal.loop-left-preserved
loop-left-preserved g c =
    let h = c.loop-left.invariant in
    let b = c.in_ok-left.ensures.takes in
    let taken = b.count in
    let asked = c.if-ends.ensures in
    let node = c.take_batch.new.node in
    let tally = c.take_batch.new.tally in (
      h.0 + length b.batch,
      omega (arith, h.1, taken, b.most),
      so_far_asked g.S.FloorStore.held c.args.node.now (g.P.Port.events c.args.port.now) (g.C.Clock.moments c.args.clock.now)
          (h.0 + length b.batch) node tally (g.P.Port.events c.take_batch.new.port) (g.P.Port.events c.ends.new.port)
          (g.C.Clock.moments c.take_batch.new.clock) asked.events
          (so_far_next ℕ g.S.FloorStore.held c.args.node.now (g.P.Port.events c.args.port.now) (g.C.Clock.moments c.args.clock.now) h.0
          (scene g.P.Port.events c.loop-left.node c.loop-left.port c.loop-left.tally)
          (scene g.P.Port.events node c.take_batch.new.port tally) b.batch (g.C.Clock.moments c.loop-left.clock)
          (g.C.Clock.moments c.take_batch.new.clock) c.in_ok-left.field-0 h.2 b.is_batch b.steps),
      asked.stays ∙ c.take_batch.ensures.stays ∙ h.3,
      inr (asked_at (g.U.Until.answers c.ends.new.self) h.0 (c.loop-left.left - c.in_ok-left.field-0) (is_waiting node) false c.loop-left.tally.received
          b.batch b.is_batch asked.answers),
    )

pub returns-then-ends-clause-serves : goal.returns-then-ends-clause-serves
returns-then-ends-clause-serves g c =
    let held = g.S.FloorStore.held in
    let first = g.P.Port.events c.args.port.now in
    let asked = g.C.Clock.moments c.args.clock.now in
    let node = c.take_batch.new.node in
    let tally = c.take_batch.new.tally in
    let before = scene g.P.Port.events node c.take_batch.new.port tally in
    let now = scene g.P.Port.events node c.ends.new.port tally in
    let told = g.C.Clock.moments c.take_batch.new.clock in
    let answers = g.U.Until.answers c.ends.new.self in
    let h = c.loop-left.invariant in
    let b = c.in_ok-left.ensures.takes in
    let taken = b.count in
    let left = c.loop-left.left - c.in_ok-left.field-0 in
    let count = h.0 + length b.batch in
    let sum : count + left ≡ c.args.turns = omega (arith, h.1, taken, b.most) in
    let so_far = so_far_asked held c.args.node.now first asked count node tally before.entries now.entries told c.if-ends.ensures.events
    (so_far_next ℕ held c.args.node.now first asked h.0
    (scene g.P.Port.events c.loop-left.node c.loop-left.port c.loop-left.tally) before b.batch (g.C.Clock.moments c.loop-left.clock)
    told c.in_ok-left.field-0 h.2 b.is_batch b.steps) in
    let last = asked_at answers h.0 left (is_waiting node) true c.loop-left.tally.received b.batch b.is_batch c.if-ends.ensures.answers in
    subst (λ (served : Served). ServesUntil held c.args.node.now node first now.entries asked told c.args.turns answers (Ok served))
    (sym c.counts_of.ensures)
    (serves_until_end held c.args.node.now first asked count left c.args.turns now told answers true c.requires.few sum so_far (inr last)
    (λ early. absurd cc))
