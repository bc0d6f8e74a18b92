use Rattle.std.proofs.Common.{◌≡◌, Some}
use Rattle.std.specs.Prelude.{codes}
use Rattle.clap.specs.Matches.{found_of}
use Rattle.oathd_words.specs.Given.{GivesMember}
use Rattle.oathd_words.proofs.NodesLemmas.{member_read, with_count}
use Rattle.oathd_words.proofs.words.sim_task.Goals as goal

pub returns-in-None-clause-none : goal.returns-in-None-clause-none
returns-in-None-clause-none c nodes moment asks given =
    let found = found_of c.args.matches.now in
    c.in-None.ensures.none nodes
    (with_count found (GivesMember found (codes "N")) (λ n. c.member_number.result ≡ Some n)
    (λ n h. member_read found c.member_number.result n c.member_number.ensures.some c.member_number.ensures.none h) nodes asks)
