use Rattle.oathd_database.specs.Unlock.{unlocked_content}
use Rattle.oathd_database.proofs.UnlockLemmas.{put_commits, put_fails, unlocked_is, unwritten}
use Rattle.oathd_database.proofs.unlock.open_gate.Goals as goal

pub returns-in-Err : goal.returns-in-Err
returns-in-Err g c =
    let held = g.S.FloorStore.held in
    unwritten held c.args.store.now (unlocked_content (held c.args.store.now).content c.args.token) c.in-Err.fault

pub returns-in-Ok-put : goal.returns-in-Ok-put
returns-in-Ok-put g c =
    let held = g.S.FloorStore.held in
    let content = (held c.args.store.now).content in
    put_commits held c.args.store.now c.put.new.self c.commit.new.self _ (unlocked_content content c.args.token)
    (λ clean. unlocked_is content c.args.token c.in-Ok.row c.with_gate.result c.default.result c.with_gate.ensures c.default.ensures (c.in-Ok.ensures.ok clean))
    _ c.commit.result c.in-Ok-put.ensures.puts c.commit.ensures.commits

pub returns-in-Err-put : goal.returns-in-Err-put
returns-in-Err-put g c =
    let held = g.S.FloorStore.held in
    let content = (held c.args.store.now).content in
    put_fails held c.args.store.now c.put.new.self c.put.new.self _ (unlocked_content content c.args.token)
    (λ clean. unlocked_is content c.args.token c.in-Ok.row c.with_gate.result c.default.result c.with_gate.ensures c.default.ensures (c.in-Ok.ensures.ok clean))
    c.in-Err-put.fault c.in-Err-put.ensures.puts
