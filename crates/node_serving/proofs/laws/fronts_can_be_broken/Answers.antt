-- With a lead of 2 seconds a mark at second 5 belongs to a start at second 3.
use Rattle.std.proofs.Common.{◌≡◌, ℕ, refl, sym, ap, arith}
use Rattle.replay_window.specs.Window.{last_at}
use Rattle.node_serving.proofs.laws.fronts_can_be_broken.Goals as goal

pub returns-clause-gate : goal.returns-clause-gate
returns-clause-gate c = λ clients is.
    let mark : 5000000 ≡ last_at 3 clients.ahead = ap (last_at 3) (sym is) in
    (5000000, (3, omega arith, mark), refl)

pub returns-clause-start : goal.returns-clause-start
returns-clause-start c = (3, omega arith, refl)
