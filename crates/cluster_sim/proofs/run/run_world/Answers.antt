-- The laws of the world, from the first start.
use Rattle.std.proofs.Common.{◌≡◌, ℕ, length, sym, ap, subst, ◌∙◌}
use Rattle.std.specs.Global.{Vec}
use Rattle.std.proofs.lemmas.List.{length-map}
use Rattle.std.proofs.lemmas.Result.{IfOk-weaker}
use Rattle.otp_core.specs.Acceptance.{HaveSingleUse, KeepRealTimeOrder}
use Rattle.vote_core.specs.Safety.{HaveMajority}
use Rattle.cluster_sim.specs.Answered.{AreAnswered, NamePasses, TellTruth}
use Rattle.cluster_sim.specs.Justified.{AreJustified}
use Rattle.cluster_sim.specs.Rounds.{AreServed}
use Rattle.cluster_sim.specs.Run.{floor_lists, run_of}
use Rattle.cluster_sim.specs.World.{ReportValue, floor_before, report_of}
use Rattle.cluster_sim.proofs.BelowLaws.{first_may}
use Rattle.cluster_sim.proofs.run.run_world.Goals as goal

pub returns-clause-single_use : goal.returns-clause-single_use
returns-clause-single_use c =
    let run = run_of c.args.book.now c.args.settings c.args.key.now c.args.floors.now c.args.events.now in
    let safe = c.world_is_safe.ensures.single_use run.config run.start run.events (first_may run.config (floor_lists c.args.floors.now)) in
    IfOk-weaker c.run_script.result (λ (r : ReportValue). r ≡ report_of run.config run.start run.events) (λ (r : ReportValue). HaveSingleUse r.passes)
    (λ r is. subst (λ (x : ReportValue). HaveSingleUse x.passes) (sym is) safe) c.run_script.ensures

pub returns-clause-in_order : goal.returns-clause-in_order
returns-clause-in_order c =
    let run = run_of c.args.book.now c.args.settings c.args.key.now c.args.floors.now c.args.events.now in
    let safe = c.world_is_safe.ensures.in_order run.config run.start run.events (first_may run.config (floor_lists c.args.floors.now)) in
    IfOk-weaker c.run_script.result (λ (r : ReportValue). r ≡ report_of run.config run.start run.events) (λ (r : ReportValue). KeepRealTimeOrder r.passes)
    (λ r is. subst (λ (x : ReportValue). KeepRealTimeOrder x.passes) (sym is) safe) c.run_script.ensures

pub returns-clause-majority : goal.returns-clause-majority
returns-clause-majority c =
    let run = run_of c.args.book.now c.args.settings c.args.key.now c.args.floors.now c.args.events.now in
    let floor = floor_before run.config run.start run.events in
    let n = length c.args.floors.now in
    let size = length-map c.args.floors.now (λ (v : Vec ℕ). v.items) in
    let safe = c.world_is_safe.ensures.majority run.config run.start run.events (first_may run.config (floor_lists c.args.floors.now)) in
    IfOk-weaker c.run_script.result (λ (r : ReportValue). r ≡ report_of run.config run.start run.events) (λ (r : ReportValue). HaveMajority n floor r.passes)
    (λ r is. subst (λ (x : ReportValue). HaveMajority n floor x.passes) (sym is) (subst (λ m. HaveMajority m floor (report_of run.config run.start run.events).passes) size safe)) c.run_script.ensures

pub returns-clause-justified : goal.returns-clause-justified
returns-clause-justified c =
    let run = run_of c.args.book.now c.args.settings c.args.key.now c.args.floors.now c.args.events.now in
    let safe = c.world_is_safe.ensures.justified run.config run.start run.events (first_may run.config (floor_lists c.args.floors.now)) in
    IfOk-weaker c.run_script.result (λ (r : ReportValue). r ≡ report_of run.config run.start run.events) (λ (r : ReportValue). AreJustified run.config run.start run.events r.passes)
    (λ r is. subst (λ (x : ReportValue). AreJustified run.config run.start run.events x.passes) (sym is) safe) c.run_script.ensures

pub returns-clause-told : goal.returns-clause-told
returns-clause-told c =
    let run = run_of c.args.book.now c.args.settings c.args.key.now c.args.floors.now c.args.events.now in
    let named = c.answers_belong_to_passes.ensures.told run.config run.start run.events (first_may run.config (floor_lists c.args.floors.now)) in
    IfOk-weaker c.run_script.result (λ (r : ReportValue). r ≡ report_of run.config run.start run.events) (λ (r : ReportValue). NamePasses run.events r.passes r.answers)
    (λ r is. subst (λ (x : ReportValue). NamePasses run.events x.passes x.answers) (sym is) named) c.run_script.ensures

pub returns-clause-no_other : goal.returns-clause-no_other
returns-clause-no_other c =
    let run = run_of c.args.book.now c.args.settings c.args.key.now c.args.floors.now c.args.events.now in
    let true_ones = c.answers_belong_to_passes.ensures.no_other run.config run.start run.events in
    IfOk-weaker c.run_script.result (λ (r : ReportValue). r ≡ report_of run.config run.start run.events) (λ (r : ReportValue). TellTruth run.events r.passes r.answers)
    (λ r is. subst (λ (x : ReportValue). TellTruth run.events x.passes x.answers) (sym is) true_ones) c.run_script.ensures

pub returns-clause-answered : goal.returns-clause-answered
returns-clause-answered c =
    let run = run_of c.args.book.now c.args.settings c.args.key.now c.args.floors.now c.args.events.now in
    let all = c.answers_belong_to_passes.ensures.answered run.config run.start run.events in
    IfOk-weaker c.run_script.result (λ (r : ReportValue). r ≡ report_of run.config run.start run.events) (λ (r : ReportValue). AreAnswered run.events r.answers r.passes)
    (λ r is. subst (λ (x : ReportValue). AreAnswered run.events x.answers x.passes) (sym is) all) c.run_script.ensures

pub returns-clause-spaced : goal.returns-clause-spaced
returns-clause-spaced c node token =
    let run = run_of c.args.book.now c.args.settings c.args.key.now c.args.floors.now c.args.events.now in
    c.world_is_safe.ensures.spaced run.config run.start run.events node token

pub returns-clause-served : goal.returns-clause-served
returns-clause-served c before rounds live lines split servable are =
    let run = run_of c.args.book.now c.args.settings c.args.key.now c.args.floors.now c.args.events.now in
    let served = c.rounds_are_the_reference.ensures.reported run.config run.start before rounds live lines servable are in
    IfOk-weaker c.run_script.result (λ (r : ReportValue). r ≡ report_of run.config run.start run.events) (λ (r : ReportValue). AreServed run.config run.start before rounds live lines r.answers)
    (λ r is. subst (λ (x : ReportValue). AreServed run.config run.start before rounds live lines x.answers) (sym (is ∙ ap (report_of run.config run.start) split)) served) c.run_script.ensures
