-- Each is computed, the hash with it.
use Rattle.std.proofs.Common.{◌≡◌, ℕ, zero, suc, List, [], ◌∷◌, ◌++◌, Some, refl, sym, ap, subst, arith}
use Rattle.std.specs.List.{slice_get}
use Rattle.std.proofs.lemmas.Option.{none-some, same_Some}
use Rattle.admit_core.specs.Fit.{code_at}
use Rattle.sha1.specs.Sha1.{first_words, schedule, rounds, compress, hash_after, digest_bytes, sha1}
use Rattle.vote_core.specs.Safety.{IsDeliverable, IsOfEarlierBoot}
use Rattle.vote_core.specs.Schedule.{Envelope}
use Rattle.vote_core.specs.Voting.{propose, propose_alone, propose_among, on_ask, accept, count_grant, on_grant, raise, count_deny, on_deny, on_floor, on_message, tick}
use Rattle.oath_node.specs.Machine.{made_by_proposal, made_by_ruling, made_by_datagram, made_while_running, made_by_event, Peer}
use Rattle.book_law.specs.Broken.{old_grant}
use Rattle.book_law.specs.Examples.{alone, maple_first, silver_first, silver_line, three}
use Rattle.vote_wire.specs.Key.{bare}
use Rattle.book_law.specs.Lives.{first_state, made_boot, state_after, state_after_action}
use Rattle.order_law.specs.Examples.{alone_with, ask_to, at, commits_line, grant_of, hears_line, says_ok, silver_login}
use Rattle.order_law.specs.Interleavings.{AreCaused, AreOfMembers, IsInterleaving, Item, first_place, said_before, steps_at}
use Rattle.order_law.specs.Steps.{AreSteps, Ends, Gets, Loses, Pauses, Sends, Step}
use Rattle.book_law.proofs.Walk.{former}
use Rattle.order_law.proofs.Examples.{each_member, heard_once, only_member, reads_ask, reads_grant}
use Rattle.order_law.proofs.Walk.{AllMay, all_replaced}
use Rattle.order_law.proofs.Login.{login, two_steps}
use Rattle.order_law.proofs.worked.interleavings_are_worked.Goals as goal

no_old : (i : ℕ) (envelope : Envelope) → slice_get [] i ≡ Some envelope → ⊥
no_old i envelope at = none-some envelope at

caused : AreCaused three (first_place three) (said_before three) silver_login
unfolding code_at first_words schedule rounds compress hash_after digest_bytes sha1 made_by_event made_while_running made_by_datagram made_by_ruling made_by_proposal propose propose_alone propose_among on_ask accept count_grant on_grant raise count_deny on_deny on_floor on_message tick
caused = (
  tt,
  (
    tt,
    (
      tt,
      (
        tt,
        (
          tt,
          (
            tt,
            (
              tt,
              (
                tt,
                (
                  tt,
                  (
                    tt,
                    (
                      heard_once maple_first bare _ 1 _ (ask_to 2 1) reads_ask (record { place = 0; is_there = refl }),
                      (
                        tt,
                        (
                          tt,
                          (
                            heard_once silver_first bare _ 2 _ (grant_of 0) reads_grant (record { place = 2; is_there = refl }),
                            (tt, (tt, tt)),
                          ),
                        ),
                      ),
                    ),
                  ),
                ),
              ),
            ),
          ),
        ),
      ),
    ),
  ),
)

-- ---- a lost store

abbrev with_another : List Item
with_another = silver_login ++ at 1 Loses ∷ at 1 (Gets 2 (0 ∷ []) (λ token. 1)) ∷ []

one_replaced : AreSteps three 1 (first_place three 1) (steps_at 1 with_another)
unfolding code_at first_words schedule rounds compress hash_after digest_bytes sha1 made_by_event made_while_running made_by_datagram made_by_ruling made_by_proposal propose propose_alone propose_among on_ask accept count_grant on_grant raise count_deny on_deny on_floor on_message tick
one_replaced = (refl, (refl, ((refl, refl), (refl, (refl, ((Sends (ask_to 3 0) ∷ [], refl), (([], refl), (refl, (ap (λ o. Peer 2 o ∷ []) (sym reads_grant), (([], refl), (tt, (tt, tt))))))))))))

may_replace : AllMay three 0 (first_state three) with_another
unfolding code_at first_words schedule rounds compress hash_after digest_bytes sha1 state_after state_after_action made_by_event made_while_running made_by_datagram made_by_ruling made_by_proposal propose propose_alone propose_among on_ask accept count_grant on_grant raise count_deny on_deny on_floor on_message tick
may_replace = (tt, (tt, (tt, (tt, (tt, (tt, (tt, (tt, (tt, (tt, (tt, (tt, (tt, (tt, (tt, (tt, (tt, (refl, tt))))))))))))))))))

caused_replaced : AreCaused three (first_place three) (said_before three) with_another
unfolding code_at first_words schedule rounds compress hash_after digest_bytes sha1 made_by_event made_while_running made_by_datagram made_by_ruling made_by_proposal propose propose_alone propose_among on_ask accept count_grant on_grant raise count_deny on_deny on_floor on_message tick
caused_replaced = (
  tt,
  (
    tt,
    (
      tt,
      (
        tt,
        (
          tt,
          (
            tt,
            (
              tt,
              (
                tt,
                (
                  tt,
                  (
                    tt,
                    (
                      heard_once maple_first bare _ 1 _ (ask_to 2 1) reads_ask (record { place = 0; is_there = refl }),
                      (
                        tt,
                        (
                          tt,
                          (
                            heard_once silver_first bare _ 2 _ (grant_of 0) reads_grant (record { place = 2; is_there = refl }),
                            (tt, (tt, (tt, (tt, tt)))),
                          ),
                        ),
                      ),
                    ),
                  ),
                ),
              ),
            ),
          ),
        ),
      ),
    ),
  ),
)

pub returns-clause-replaced : goal.returns-clause-replaced
returns-clause-replaced c = record {
  is = record {
    members = (refl, (refl, (refl, (refl, (refl, (refl, (refl, (refl, (refl, (refl, (refl, (refl, (refl, (refl, (refl, (refl, (refl, (refl, tt))))))))))))))))));
    steps = each_member (λ node. AreSteps three node (first_place three node) (steps_at node with_another)) one_replaced two_steps tt;
    replaced = all_replaced three with_another may_replace;
  };
  starts = λ i envelope at. absurd (no_old i envelope at);
  caused = caused_replaced;
}

pub returns-clause-interleaving : goal.returns-clause-interleaving
returns-clause-interleaving c = login

pub returns-clause-causal : goal.returns-clause-causal
returns-clause-causal c = record { is = login; starts = λ i envelope at. absurd (no_old i envelope at); caused = caused }

pub returns-clause-accepted : goal.returns-clause-accepted
unfolding code_at first_words schedule rounds compress hash_after digest_bytes sha1 state_after state_after_action made_by_event made_while_running made_by_datagram made_by_ruling made_by_proposal propose propose_alone propose_among on_ask accept count_grant on_grant raise count_deny on_deny on_floor on_message tick
returns-clause-accepted c = refl

pub returns-clause-answered : goal.returns-clause-answered
unfolding code_at first_words schedule rounds compress hash_after digest_bytes sha1 state_after state_after_action made_by_event made_while_running made_by_datagram made_by_ruling made_by_proposal propose propose_alone propose_among on_ask accept count_grant on_grant raise count_deny on_deny on_floor on_message tick
returns-clause-answered c = refl

-- the steps of node 1 alone
pub alone_is : (steps : List Step) → AreOfMembers alone (alone_with steps) → AllMay alone 0 (first_state alone) (alone_with steps) → AreSteps alone 1 (first_place alone 1) (steps_at 1 (alone_with steps)) → IsInterleaving alone (alone_with steps)
alone_is steps of_members all are = record { members = of_members; replaced = all_replaced alone (alone_with steps) all; steps = only_member (λ node. AreSteps alone node (first_place alone node) (steps_at node (alone_with steps))) are }

pub returns-clause-alone : goal.returns-clause-alone
unfolding code_at first_words schedule rounds compress hash_after digest_bytes sha1 made_by_event made_while_running made_by_datagram made_by_ruling made_by_proposal propose propose_alone propose_among on_ask accept count_grant on_grant raise count_deny on_deny on_floor on_message tick
returns-clause-alone c = record {
  is = alone_is (hears_line ∷ commits_line ∷ says_ok ∷ Ends [] ∷ []) (refl, (refl, (refl, (refl, (refl, (refl, tt)))))) (tt, (tt, (tt, (tt, (tt, (tt, tt)))))) (refl, ((refl, refl), (refl, (refl, (([], refl), (([], refl), tt))))));
  starts = λ i envelope at. absurd (no_old i envelope at);
  caused = (tt, (tt, (tt, (tt, (tt, (tt, tt))))));
}

pub returns-clause-ends_unheard : goal.returns-clause-ends_unheard
returns-clause-ends_unheard c = alone_is (hears_line ∷ Ends [] ∷ []) (refl, (refl, (refl, (refl, tt)))) (tt, (tt, (tt, (tt, tt)))) (refl, ((refl, refl), (refl, ((silver_line ∷ [], refl), tt))))

pub returns-clause-ends_at_the_commit : goal.returns-clause-ends_at_the_commit
returns-clause-ends_at_the_commit c = alone_is (hears_line ∷ Ends (silver_line ∷ []) ∷ []) (refl, (refl, (refl, (refl, tt)))) (tt, (tt, (tt, (tt, tt)))) (refl, ((refl, refl), (refl, (([], refl), tt))))

pub returns-clause-ends_silent : goal.returns-clause-ends_silent
returns-clause-ends_silent c = alone_is (hears_line ∷ commits_line ∷ Ends [] ∷ []) (refl, (refl, (refl, (refl, (refl, tt))))) (tt, (tt, (tt, (tt, (tt, tt))))) (refl, ((refl, refl), (refl, (refl, (([], refl), tt)))))

old_fits : (i : ℕ) (envelope : Envelope) → slice_get (former (old_grant 2)) i ≡ Some envelope → IsDeliverable 3 2 envelope × IsOfEarlierBoot (made_boot (old_grant 2)) envelope.message
old_fits zero envelope at =
    subst (λ l. IsDeliverable 3 2 l × IsOfEarlierBoot (made_boot (old_grant 2)) l.message) (same_Some _ envelope at)
    (record { first = omega arith; last = omega arith; other = record { first = omega arith; last = omega arith; other = λ e. let same : 2 ≡ 1 = e in omega (arith, same) }; fits = (omega arith, record { ordered = omega arith; short = omega arith }, refl) }, omega arith)
old_fits (suc i) envelope at = absurd (none-some envelope at)

pub returns-clause-former : goal.returns-clause-former
returns-clause-former c = record { is = record { members = tt; steps = λ node member. tt; replaced = all_replaced (old_grant 2) [] tt }; starts = old_fits; caused = tt }

pub returns-clause-recorded : goal.returns-clause-recorded
unfolding code_at first_words schedule rounds compress hash_after digest_bytes sha1 made_by_event made_while_running made_by_datagram made_by_ruling made_by_proposal propose propose_alone propose_among on_ask accept count_grant on_grant raise count_deny on_deny on_floor on_message tick
returns-clause-recorded c = record { steps = hears_line ∷ commits_line ∷ says_ok ∷ []; kept = []; of_one = (tt, (tt, (tt, tt))); are = ((refl, refl), (refl, (refl, (([], refl), (([], refl), tt))))); ends = refl; recorded = refl; cleared = refl }

pub returns-clause-paused : goal.returns-clause-paused
unfolding code_at first_words schedule rounds compress hash_after digest_bytes sha1 made_by_event made_while_running made_by_datagram made_by_ruling made_by_proposal propose propose_alone propose_among on_ask accept count_grant on_grant raise count_deny on_deny on_floor on_message tick
returns-clause-paused c = record {
  steps = Pauses (Some 0) ∷ hears_line ∷ commits_line ∷ says_ok ∷ [];
  kept = [];
  of_one = (tt, (tt, (tt, (tt, tt))));
  are = ((refl, refl), ((refl, refl), (refl, (refl, (([], refl), (([], refl), tt))))));
  ends = refl;
  recorded = refl;
  cleared = refl;
}
