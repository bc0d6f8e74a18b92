use Rattle.std.proofs.Common.{◌≡◌, Bool, ap, arith, refl, sym, subst, ◌∙◌}
use Rattle.std.specs.Prelude.{Result, Ok, Err}
use Rattle.oath_node.specs.TurnServing.{ServesUntil}
use Rattle.oath_node.specs.declared.fault.NodeFault.{NodeFault}
use Rattle.oath_node.specs.declared.serve_fault.ServeFault.TheVariants.{Node}
use Rattle.oath_node.specs.declared.turns.Served.{Served}
use Rattle.oath_node.proofs.GrowLemmas.{err_is}
use Rattle.oathd_database.specs.Fault.{serve_fault_of}
use Rattle.oathd_database.specs.declared.fault.Fault.{Fault}
use Rattle.node_serving.proofs.StretchLemmas.{ends_act, ends_err, ends_ok, left_within, one_more, until_fault, until_so}
use Rattle.node_serving.proofs.serve.serve_node.Goals as goal

-- a run that fails so
abbrev failed : Fault → Result Served Fault
failed fault = Err fault

-- an act that ends so
abbrev went : Bool → Result Bool NodeFault
went goes_on = Ok goes_on

pub run_turns_until-requires : goal.run_turns_until-requires
run_turns_until-requires g c =
    let h = c.loop-left.invariant.0 in
    let below = c.requires in
    let within = left_within g.S.FloorStore.held g.U.Attend.acts c.args.node.now (g.P.Port.events c.args.port.now) (g.C.Clock.moments c.args.clock.now) c.args.turns
    h.stretches c.loop-left.node (g.P.Port.events c.loop-left.port) (g.C.Clock.moments c.loop-left.clock) c.loop-left.left h.are in
    record { few = omega (arith, within, below) }

pub returns-in_err-served-clause-turns : goal.returns-in_err-served-clause-turns
returns-in_err-served-clause-turns g c =
    let held = g.S.FloorStore.held in
    let new = c.run_turns_until.new in
    let fault = c.in_err-served.field-0.0 in
    let now = c.loop-left in
    let answers = g.U.Attend.answers new.until.attendant in
    let entries = g.P.Port.events now.port in
    let last = g.P.Port.events new.port in
    let told = g.C.Clock.moments now.clock in
    let said = g.C.Clock.moments new.clock in (
      Err fault,
      ends_err held g.U.Attend.acts c.args.node.now (g.P.Port.events c.args.port.now) (g.C.Clock.moments c.args.clock.now) c.args.turns
          now.node new.node entries last told said now.left now.before fault answers now.invariant.0
          (until_fault held now.node new.node entries last told said now.left (λ n waits ends. (new.until.left ≡ n) × answers n waits ends) answers fault
          c.in_err-served.ensures.serves),
      err_is c.from_residual.result (serve_fault_of fault) c.from_residual.ensures.1,
    )

pub returns-then-until-eq0-clause-turns : goal.returns-then-until-eq0-clause-turns
returns-then-until-eq0-clause-turns g c =
    let held = g.S.FloorStore.held in
    let new = c.run_turns_until.new in
    let served = c.in_ok-served.served in
    let now = c.loop-left in
    let all = c.counts_after-all in
    let answers = g.U.Attend.answers new.until.attendant in
    let entries = g.P.Port.events now.port in
    let last = g.P.Port.events new.port in
    let told = g.C.Clock.moments now.clock in
    let said = g.C.Clock.moments new.clock in (
      Ok all.result,
      ends_ok held g.U.Attend.acts c.args.node.now (g.P.Port.events c.args.port.now) (g.C.Clock.moments c.args.clock.now) c.args.turns
          now.node new.node entries last told said now.left now.before served all.result answers now.invariant.0
          (until_so held now.node new.node entries last told said now.left (λ n waits ends. (new.until.left ≡ n) × answers n waits ends) answers (Ok served)
          (λ n waits ends h. h.1) c.in_ok-served.ensures.serves) all.ensures,
      refl,
    )

pub returns-in-Ok-false-clause-turns : goal.returns-in-Ok-false-clause-turns
returns-in-Ok-false-clause-turns g c =
    let held = g.S.FloorStore.held in
    let new = c.run_turns_until.new in
    let after = c.act.new in
    let served = c.in_ok-served.served in
    let now = c.loop-left in
    let all = c.counts_after-all in
    let rests = c.in-Ok-false.ensures.rests (ap went c.in-Ok-false.field-0-test) in
    let answers = g.U.Attend.answers after.self in
    let entries = g.P.Port.events now.port in
    let last = g.P.Port.events new.port in
    let told = g.C.Clock.moments now.clock in
    let said = g.C.Clock.moments new.clock in
    let run = until_so held now.node new.node entries last told said now.left
    (λ n waits ends. (new.until.left ≡ n) × g.U.Attend.answers new.until.attendant n waits ends) answers (Ok served)
    (λ n waits ends h. subst (λ a. g.U.Attend.answers a n waits ends) (sym rests.0) h.1) c.in_ok-served.ensures.serves in
    let moved = subst (λ n. ServesUntil held now.node n entries last told said now.left answers (Ok served)) (sym rests.1) run in (
      Ok all.result,
      ends_ok held g.U.Attend.acts c.args.node.now (g.P.Port.events c.args.port.now) (g.C.Clock.moments c.args.clock.now) c.args.turns
          now.node after.node entries (g.P.Port.events after.port) told said now.left now.before served all.result answers now.invariant.0
          (subst (λ e. ServesUntil held now.node after.node entries e told said now.left answers (Ok served)) (sym c.act.ensures.events) moved)
          all.ensures,
      refl,
    )

pub returns-in-Err-clause-turns : goal.returns-in-Err-clause-turns
returns-in-Err-clause-turns g c =
    let held = g.S.FloorStore.held in
    let new = c.run_turns_until.new in
    let after = c.act.new in
    let served = c.in_ok-served.served in
    let now = c.loop-left in
    let fault = c.in-Err.fault in
    let answers = g.U.Attend.answers after.self in (
      Err (Node fault),
      ends_act held g.U.Attend.acts c.args.node.now (g.P.Port.events c.args.port.now) (g.C.Clock.moments c.args.clock.now) c.args.turns
          now.node new.node after.node (g.P.Port.events now.port) (g.P.Port.events new.port) (g.P.Port.events after.port)
          (g.C.Clock.moments now.clock) (g.C.Clock.moments new.clock) now.left now.before served fault
          (λ n waits ends. (new.until.left ≡ n) × g.U.Attend.answers new.until.attendant n waits ends) answers now.invariant.0
          c.in_ok-served.ensures.serves c.act.ensures.events (c.in-Err.ensures.acts (λ e. absurd cc)),
      ap failed (c.from-in-Err.ensures ∙ ap serve_fault_of c.from.ensures),
    )

pub loop-left-preserved : goal.loop-left-preserved
loop-left-preserved g c =
    let held = g.S.FloorStore.held in
    let new = c.run_turns_until.new in
    let after = c.act.new in
    let served = c.in_ok-served.served in
    let now = c.loop-left in
    let all = c.counts_after-all in
    let some = c.loop-left-test.true in
    let more = c.if-until-eq0.false in
    let yes = c.in-Ok-true.field-0-test in (
      one_more held g.U.Attend.acts c.args.node.now (g.P.Port.events c.args.port.now) (g.C.Clock.moments c.args.clock.now) c.args.turns
          now.node new.node after.node (g.P.Port.events now.port) (g.P.Port.events new.port) (g.P.Port.events after.port)
          (g.C.Clock.moments now.clock) (g.C.Clock.moments new.clock) now.left new.until.left now.before served all.result
          (g.U.Attend.answers new.until.attendant) now.invariant.0 (omega (arith, some)) (omega (arith, more)) c.in_ok-served.ensures.serves
          c.act.ensures.events (subst (λ b. g.U.Attend.acts new.node after.node (Ok b)) yes (c.in-Ok-true.ensures.acts (λ e. absurd cc))) all.ensures,
      c.act.ensures.stays ∙ c.run_turns_until.ensures.stays ∙ now.invariant.1,
    )

pub returns-in_err-served-2-clause-turns : goal.returns-in_err-served-2-clause-turns
returns-in_err-served-2-clause-turns g c =
    let held = g.S.FloorStore.held in
    let new = c.run_turns_until-2.new in
    let fault = c.in_err-served-2.field-0.0 in
    let now = c.loop-left in
    let test = c.loop-left-test.false in
    let answers = g.U.Attend.answers new.until.attendant in
    let entries = g.P.Port.events now.port in
    let last = g.P.Port.events new.port in
    let told = g.C.Clock.moments now.clock in
    let said = g.C.Clock.moments new.clock in
    let none : 0 ≡ now.left = omega (arith, test) in (
      Err fault,
      ends_err held g.U.Attend.acts c.args.node.now (g.P.Port.events c.args.port.now) (g.C.Clock.moments c.args.clock.now) c.args.turns
          now.node new.node entries last told said now.left now.before fault answers now.invariant.0
          (subst (λ n. ServesUntil held now.node new.node entries last told said n answers (Err fault)) none
          (until_fault held now.node new.node entries last told said 0 (λ n waits ends. (new.until.left ≡ n) × answers n waits ends) answers fault
          c.in_err-served-2.ensures.serves)),
      err_is c.from_residual-in_err-served-2.result (serve_fault_of fault) c.from_residual-in_err-served-2.ensures.1,
    )

pub returns-clause-turns : goal.returns-clause-turns
returns-clause-turns g c =
    let held = g.S.FloorStore.held in
    let new = c.run_turns_until-2.new in
    let served = c.in_ok-served-2.served in
    let now = c.loop-left in
    let all = c.counts_after in
    let test = c.loop-left-test.false in
    let answers = g.U.Attend.answers new.until.attendant in
    let entries = g.P.Port.events now.port in
    let last = g.P.Port.events new.port in
    let told = g.C.Clock.moments now.clock in
    let said = g.C.Clock.moments new.clock in
    let none : 0 ≡ now.left = omega (arith, test) in (
      Ok all.result,
      ends_ok held g.U.Attend.acts c.args.node.now (g.P.Port.events c.args.port.now) (g.C.Clock.moments c.args.clock.now) c.args.turns
          now.node new.node entries last told said now.left now.before served all.result answers now.invariant.0
          (subst (λ n. ServesUntil held now.node new.node entries last told said n answers (Ok served)) none
          (until_so held now.node new.node entries last told said 0 (λ n waits ends. (new.until.left ≡ n) × answers n waits ends) answers (Ok served)
          (λ n waits ends h. h.1) c.in_ok-served-2.ensures.serves)) all.ensures,
      refl,
    )
