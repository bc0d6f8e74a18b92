use Rattle.std.proofs.Common.{[], ◌∷◌, drop}
use Rattle.std.proofs.lemmas.Result.{IfOk-weaker}
use Rattle.cluster_sim.specs.RoundRun.{HaveHappened, deliveries_from}
use Rattle.cluster_sim.specs.Run.{round_line}
use Rattle.cluster_sim.specs.Rounds.{is_between, line_event, round_events}
use Rattle.cluster_sim.specs.World.{world_after_events}
use Rattle.cluster_sim.proofs.RoundPlay.{deliveries_are_acts, round_happened, spelled_on}
use Rattle.cluster_sim.proofs.rounds.play_round.Goals as goal

pub returns-clause-plays : goal.returns-clause-plays
returns-clause-plays c config w h spelled =
    let key = c.args.key.now in
    let live = c.args.live.now in
    let n = c.args.number in
    let line = round_line c.args.line in
    let first = c.sent_count-first.result in
    let second = c.sent_count-second.result in
    let m1 = c.in_ok-asked.asked in
    let m2 = c.in_ok-answered.answered in
    let asked = c.in_ok-asked.ensures.plays config w h spelled in
    let w1 = world_after_events config n (line_event line ∷ []) w in
    let spelled1 = spelled_on config n m1 (line_event line ∷ []) w tt asked.count spelled in
    let answered = c.in_ok-answered.ensures.plays config w1 asked.run spelled1 in
    let w2 = world_after_events config m1 (deliveries_from live first w1) w1 in
    let spelled2 = spelled_on config m1 m2 (deliveries_from live first w1) w1 (deliveries_are_acts (is_between live) first (drop first w1.sent)) answered.count spelled1 in
    IfOk-weaker c.hand_on-2.result
    (λ next. HaveHappened config key m2 (deliveries_from live second w2) w2 (record { nodes = c.hand_on-2.new.nodes; journal = c.hand_on-2.new.journal }) next)
    (λ next. HaveHappened config key n (round_events config live n w line) w (record { nodes = c.hand_on-2.new.nodes; journal = c.hand_on-2.new.journal }) next)
    (λ next done. round_happened config key live n w line (record { nodes = c.args.nodes.now; journal = c.args.journal.now }) (record { nodes = c.play_one.new.nodes; journal = c.play_one.new.journal })
    (record { nodes = c.hand_on.new.nodes; journal = c.hand_on.new.journal }) (record { nodes = c.hand_on-2.new.nodes; journal = c.hand_on-2.new.journal }) first second m1 m2 next h
    c.sent_count-first.ensures asked c.sent_count-second.ensures answered done)
    (c.hand_on-2.ensures.plays config w2 answered.run spelled2)
