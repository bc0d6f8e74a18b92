use Rattle.std.proofs.Common.{◌≡◌, suc, not, length, sym, subst, ap, ◌∙◌, arith}
use Rattle.std.specs.Prelude.{is_some}
use Rattle.floor_store.specs.Content.{Content}
use Rattle.cluster_sim.specs.Losses.{AreGreatest}
use Rattle.std.proofs.lemmas.Bool.{and_right}
use Rattle.std.proofs.lemmas.Result.{on_ok_weaker}
use Rattle.vote_core.specs.Schedule.{is_member}
use Rattle.cluster_sim.specs.Journal.{IsRun, JournalRecord, journal_with_loss, used_in}
use Rattle.cluster_sim.specs.World.{world_after_loss}
use Rattle.cluster_sim.proofs.HostLemmas.{has_none, store_gone}
use Rattle.cluster_sim.proofs.Lost.{lost_run, same_ok, unlost_run}
use Rattle.cluster_sim.proofs.losses.lose.Goals as goal

pub returns-in_default : goal.returns-in_default
returns-in_default c key config w h spelled =
    unlost_run config key w (record { nodes = c.args.nodes.now; journal = c.args.journal.now }) c.args.node
    (and_right (not (w.lost c.args.node)) (is_member w.n c.args.node) (ap (λ m. is_member m c.args.node) h.n ∙ c.in_default.ensures.none)) h

pub returns-then-is_some : goal.returns-then-is_some
returns-then-is_some c key config w h spelled =
    let node = c.args.node in
    let gone = store_gone _ (used_in c.args.journal.now.losses node) (w.lost node) (w.nodes node) (h.losses.used node) (ap is_some (sym c.used_boot.ensures) ∙ sym c.is_some.ensures ∙ c.if-is_some.true) in
    unlost_run config key w (record { nodes = c.args.nodes.now; journal = c.args.journal.now }) node (has_none w node gone) h

pub returns : goal.returns
returns c key config w h spelled =
    let node = c.args.node in
    let k = c.in-Some.index in
    let at : suc k ≡ node = omega (arith, c.in-Some.ensures.place) in
    let host = c.index-nodes-index.result in
    let same = c.store-store.ensures.store in
    let member = ap (λ m. is_member m node) h.n ∙ c.in-Some.ensures.member in
    let found = ap is_some (sym c.used_boot.ensures) ∙ sym c.is_some.ensures ∙ c.if-is_some.false in
    let boot = ap (λ (x : Content). x.boot) (sym same) ∙ same_ok (sym c.boot.ensures.boot ∙ c.in-Ok.is) in
    let tokens = c.tokens.ensures.value ∙ ap (λ (x : Content). length x.rows) same in
    let least = subst (λ m. AreGreatest w node m c.in_ok-least.least.items) tokens (c.in_ok-least.ensures config key w h) in
    on_ok_weaker c.lose.result
    (λ (taken : c.lose.new.self ≡ journal_with_loss node c.in-Ok.used c.in_ok-least.least.items c.args.journal.now). subst (λ (j : JournalRecord). IsRun config key (world_after_loss node w) (record { nodes = c.args.nodes.now; journal = j })) (sym taken)
    (lost_run config key w c.args.nodes.now c.args.journal.now k node c.in-Ok.used host c.in_ok-least.least.items at c.in-Some.ensures.within c.index-nodes-index.is member found boot c.store-store.ensures.tokens least h)) c.lose.ensures
