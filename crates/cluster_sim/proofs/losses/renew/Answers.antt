use Rattle.std.proofs.Common.{◌≡◌, ◌-◌, leb, ltb, suc, ◌&&◌, length, set, subst, sym, ap, ◌∙◌, arith}
use Rattle.std.proofs.lemmas.List.{length-set}
use Rattle.std.proofs.lemmas.Result.{on_ok_weaker}
use Rattle.std.specs.Prelude.{is_some}
use Rattle.otp_core.specs.Acceptance.{majority_of, size}
use Rattle.vote_core.specs.NodeSet.{PlaceRecord}
use Rattle.vote_core.specs.Schedule.{all_most, is_member, last_boot}
use Rattle.oath_node.specs.Serving.{IsInMemoryAt}
use Rattle.cluster_sim.specs.Losses.{are_lost, list_of}
use Rattle.oath_node.specs.Machine.{Config}
use Rattle.cluster_sim.specs.Journal.{IsRun, JournalRecord, SimulationRecord, journal_with_anew, used_in}
use Rattle.cluster_sim.specs.World.{floor_in, world_after_anew}
use Rattle.cluster_sim.proofs.HostLemmas.{store_there}
use Rattle.cluster_sim.proofs.Lost.{anew_run, is_gone, length_list, may_is, no_anew_out, no_anew_there, unmade_run}
use Rattle.cluster_sim.proofs.losses.renew.Goals as goal

pub returns-in_default-clause-plays : goal.returns-in_default-clause-plays
returns-in_default-clause-plays c event w h spelled =
    let shared = c.args.shared.now in
    let config : Config = record { book = shared.book.now; limits = shared.settings } in
    let floor = floor_in c.args.floors.now in
    unmade_run config shared.key.now w (record { nodes = c.args.nodes.now; journal = c.args.journal.now }) event c.args.node c.args.boot floor
    (no_anew_out w c.args.node c.args.boot floor (ap (λ m. is_member m c.args.node) h.n ∙ c.in_default.ensures.none)) h

pub returns-in_default-used_boot-clause-plays : goal.returns-in_default-used_boot-clause-plays
returns-in_default-used_boot-clause-plays c event w h spelled =
    let shared = c.args.shared.now in
    let config : Config = record { book = shared.book.now; limits = shared.settings } in
    let floor = floor_in c.args.floors.now in
    let node = c.args.node in
    let there = store_there (length config.book) (used_in c.args.journal.now.losses node) (w.lost node) (w.nodes node) (h.losses.used node) (ap is_some (sym c.used_boot.ensures ∙ c.in_default-used_boot.is)) in
    unmade_run config shared.key.now w (record { nodes = c.args.nodes.now; journal = c.args.journal.now }) event node c.args.boot floor (no_anew_there w node c.args.boot floor there) h

pub returns-then-not-may_be_anew-clause-plays : goal.returns-then-not-may_be_anew-clause-plays
returns-then-not-may_be_anew-clause-plays c event w h spelled =
    let shared = c.args.shared.now in
    let config : Config = record { book = shared.book.now; limits = shared.settings } in
    let key = shared.key.now in
    let floor = floor_in c.args.floors.now in
    let node = c.args.node in
    let s : SimulationRecord = record { nodes = c.args.nodes.now; journal = c.args.journal.now } in
    let member = ap (λ m. is_member m node) h.n ∙ c.in-Some.ensures.member in
    let gone = is_gone config key w s node c.in-Some-used_boot.used h (sym c.in-Some-used_boot.is ∙ c.used_boot.ensures) in
    let may = may_is config key w s node c.in-Some-used_boot.used c.args.boot floor h member gone in
    unmade_run config key w s event node c.args.boot floor (may ∙ ap (λ t. ltb (size (length c.args.nodes.now) (are_lost c.args.journal.now.losses)) (majority_of (length c.args.nodes.now)) && (ltb c.in-Some-used_boot.used c.args.boot && (leb c.args.boot last_boot && all_most t (floor_in c.args.journal.now.least) floor))) (sym c.len-tokens.ensures.value) ∙ sym c.may_be_anew.ensures.test ∙ c.if-not-may_be_anew.true) h

pub in_memory_at-requires-clause-tokens : goal.in_memory_at-requires-clause-tokens
in_memory_at-requires-clause-tokens c = ap length c.as_slice.ensures.value ∙ ap length c.in_ok-list.ensures ∙ length_list c.len-tokens.result (floor_in c.args.floors.now) ∙ c.len-tokens.ensures.value

pub returns-clause-plays : goal.returns-clause-plays
returns-clause-plays c event w h spelled =
    let shared = c.args.shared.now in
    let config : Config = record { book = shared.book.now; limits = shared.settings } in
    let key = shared.key.now in
    let floor = floor_in c.args.floors.now in
    let node = c.args.node in
    let k = c.in-Some.index in
    let at : suc k ≡ node = omega (arith, c.in-Some.ensures.place) in
    let s : SimulationRecord = record { nodes = c.args.nodes.now; journal = c.args.journal.now } in
    let member = ap (λ m. is_member m node) h.n ∙ c.in-Some.ensures.member in
    let gone = is_gone config key w s node c.in-Some-used_boot.used h (sym c.in-Some-used_boot.is ∙ c.used_boot.ensures) in
    let test = sym c.may_be_anew.ensures.test ∙ c.if-not-may_be_anew.false in
    let may = may_is config key w s node c.in-Some-used_boot.used c.args.boot floor h member gone
    ∙ ap (λ t. ltb (size (length c.args.nodes.now) (are_lost c.args.journal.now.losses)) (majority_of (length c.args.nodes.now)) && (ltb c.in-Some-used_boot.used c.args.boot && (leb c.args.boot last_boot && all_most t (floor_in c.args.journal.now.least) floor))) (sym c.len-tokens.ensures.value)
    ∙ test in
    let list = c.as_slice.ensures.value ∙ c.in_ok-list.ensures ∙ ap (λ t. list_of t floor) c.len-tokens.ensures.value in
    let new = c.in_ok-nodes.field-0 in
    let is = subst (λ (p : PlaceRecord). IsInMemoryAt (c.args.boot - 1) config.book config.limits p key c.as_slice.result.now new) c.in-Some-new.ensures.value c.in_ok-nodes.ensures in
    on_ok_weaker c.renew.result
    (λ (taken : c.renew.new.self ≡ journal_with_anew node c.args.journal.now). subst (λ (j : JournalRecord). IsRun config key (world_after_anew event node c.args.boot floor w) (record { nodes = set c.args.nodes.now k new; journal = j })) (sym taken)
    (anew_run config key w c.args.nodes.now c.args.journal.now event k node c.args.boot floor c.as_slice.result.now new at (length-set c.args.nodes.now k new) may gone.rows (c.may_be_anew.ensures.first (c.if-not-may_be_anew.false)) list is h)) c.renew.ensures
