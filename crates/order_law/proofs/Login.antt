-- Silver's login is an interleaving.
use Rattle.std.proofs.Common.{[], ◌∷◌, refl, sym, ap}
use Rattle.admit_core.specs.Fit.{code_at}
use Rattle.sha1.specs.Sha1.{first_words, schedule, rounds, compress, hash_after, digest_bytes, sha1}
use Rattle.vote_core.specs.Voting.{propose, propose_alone, propose_among, on_ask, accept, count_grant, on_grant, raise, count_deny, on_deny, on_floor, on_message, tick}
use Rattle.oath_node.specs.Machine.{made_by_proposal, made_by_ruling, made_by_datagram, made_while_running, made_by_event, Peer}
use Rattle.book_law.specs.Examples.{three}
use Rattle.order_law.specs.Examples.{ask_to, silver_login}
use Rattle.order_law.specs.Interleavings.{AreOfMembers, IsInterleaving, first_place, steps_at}
use Rattle.order_law.specs.Steps.{AreSteps, Sends}
use Rattle.order_law.proofs.Examples.{each_member, reads_ask, reads_grant}
use Rattle.order_law.proofs.Walk.{all_replaced}

one_steps : AreSteps three 1 (first_place three 1) (steps_at 1 silver_login)
unfolding code_at first_words schedule rounds compress hash_after digest_bytes sha1 made_by_event made_while_running made_by_datagram made_by_ruling made_by_proposal propose propose_alone propose_among on_ask accept count_grant on_grant raise count_deny on_deny on_floor on_message tick
one_steps = (refl, (refl, ((refl, refl), (refl, (refl, ((Sends (ask_to 3 0) ∷ [], refl), (([], refl), (refl, (ap (λ o. Peer 2 o ∷ []) (sym reads_grant), (([], refl), tt))))))))))

pub two_steps : AreSteps three 2 (first_place three 2) (steps_at 2 silver_login)
unfolding code_at first_words schedule rounds compress hash_after digest_bytes sha1 made_by_event made_while_running made_by_datagram made_by_ruling made_by_proposal propose propose_alone propose_among on_ask accept count_grant on_grant raise count_deny on_deny on_floor on_message tick
two_steps = (refl, (refl, ((refl, refl), (refl, (ap (λ o. Peer 1 o ∷ []) (sym reads_ask), (([], refl), tt))))))

members : AreOfMembers three silver_login
members = (refl, (refl, (refl, (refl, (refl, (refl, (refl, (refl, (refl, (refl, (refl, (refl, (refl, (refl, (refl, (refl, tt))))))))))))))))

pub login : IsInterleaving three silver_login
login = record { members = members; steps = each_member (λ node. AreSteps three node (first_place three node) (steps_at node silver_login)) one_steps two_steps tt; replaced = all_replaced three silver_login (tt, (tt, (tt, (tt, (tt, (tt, (tt, (tt, (tt, (tt, (tt, (tt, (tt, (tt, (tt, (tt, tt)))))))))))))))) }
