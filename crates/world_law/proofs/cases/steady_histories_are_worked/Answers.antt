-- Each history is computed, the hash with it.
use Rattle.std.proofs.Common.{◌≡◌, ◌≤◌, ℕ, zero, suc, true, refl, arith, leb}
use Rattle.std.proofs.lemmas.Bool.{and_parts, false≢true, leb-true}
use Rattle.std.proofs.lemmas.Option.{none-some}
use Rattle.admit_core.specs.Fit.{code_at}
use Rattle.sha1.specs.Sha1.{first_words, schedule, rounds, compress, hash_after, digest_bytes, sha1}
use Rattle.vote_core.specs.Schedule.{is_member}
use Rattle.vote_core.specs.Voting.{propose, propose_alone, propose_among, on_ask, accept, count_grant, on_grant, raise, count_deny, on_deny, on_floor, on_message, tick}
use Rattle.oath_node.specs.Machine.{made_by_proposal, made_by_ruling, made_by_datagram, made_while_running, made_by_event}
use Rattle.book_law.specs.Lives.{Down, state_after, state_after_action, state_of}
use Rattle.world_law.specs.Examples.{one_node, one_row, three_nodes, three_rows}
use Rattle.world_law.specs.Steady.{AreEnrolled, AreSent, enrolled_store, setting_of}
use Rattle.world_law.proofs.cases.steady_histories_are_worked.Goals as goal

one_store : (node : ℕ) → is_member 1 node ≡ true → (state_of (setting_of one_node) one_row).processes node ≡ Down (enrolled_store one_node node)
unfolding state_after state_after_action
one_store zero member = absurd (false≢true member)
one_store (suc zero) member = refl
one_store (suc (suc k)) member =
    let low : suc (suc k) ≤ 1 = leb-true (suc (suc k)) 1 (and_parts (leb 1 (suc (suc k))) (leb (suc (suc k)) 1) member).1 in
    absurd (omega (arith, low))

three_stores : (node : ℕ) → is_member 3 node ≡ true → (state_of (setting_of three_nodes) three_rows).processes node ≡ Down (enrolled_store three_nodes node)
unfolding state_after state_after_action
three_stores zero member = absurd (false≢true member)
three_stores (suc zero) member = refl
three_stores (suc (suc zero)) member = refl
three_stores (suc (suc (suc zero))) member = refl
three_stores (suc (suc (suc (suc k)))) member =
    let node : ℕ = suc (suc (suc (suc k))) in
    let low : node ≤ 3 = leb-true node 3 (and_parts (leb 1 node) (leb node 3) member).1 in
    absurd (omega (arith, low))

pub returns-clause-enrolled : goal.returns-clause-enrolled
returns-clause-enrolled c = record { only = (tt, tt); stores = one_store }

three_enrolled : AreEnrolled three_nodes three_rows
three_enrolled = record { only = (tt, (tt, (tt, tt))); stores = three_stores }

pub returns-clause-enrolled_three : goal.returns-clause-enrolled_three
returns-clause-enrolled_three c = three_enrolled

pub returns-clause-enrolments : goal.returns-clause-enrolments
returns-clause-enrolments c = refl

pub returns-clause-is_steady : goal.returns-clause-is_steady
unfolding AreSent code_at first_words schedule rounds compress hash_after digest_bytes sha1 state_after state_after_action made_by_event made_while_running made_by_datagram made_by_ruling made_by_proposal propose propose_alone propose_among on_ask accept count_grant on_grant raise count_deny on_deny on_floor on_message tick
returns-clause-is_steady c = record {
  starts = λ i envelope at. absurd (none-some envelope at);
  enrolled = record { only = (tt, tt); stores = one_store };
  steady = (refl, (tt, (tt, tt)));
  sent = (tt, (tt, (tt, tt)));
}

pub returns-clause-accepted : goal.returns-clause-accepted
unfolding code_at first_words schedule rounds compress hash_after digest_bytes sha1 state_after state_after_action made_by_event made_while_running made_by_datagram made_by_ruling made_by_proposal propose propose_alone propose_among on_ask accept count_grant on_grant raise count_deny on_deny on_floor on_message tick
returns-clause-accepted c = refl

pub returns-clause-answered : goal.returns-clause-answered
unfolding code_at first_words schedule rounds compress hash_after digest_bytes sha1 state_after state_after_action made_by_event made_while_running made_by_datagram made_by_ruling made_by_proposal propose propose_alone propose_among on_ask accept count_grant on_grant raise count_deny on_deny on_floor on_message tick
returns-clause-answered c = refl

pub returns-clause-accepted_by_three : goal.returns-clause-accepted_by_three
unfolding code_at first_words schedule rounds compress hash_after digest_bytes sha1 state_after state_after_action made_by_event made_while_running made_by_datagram made_by_ruling made_by_proposal propose propose_alone propose_among on_ask accept count_grant on_grant raise count_deny on_deny on_floor on_message tick
returns-clause-accepted_by_three c = refl

pub returns-clause-steady_among_three : goal.returns-clause-steady_among_three
unfolding AreSent code_at first_words schedule rounds compress hash_after digest_bytes sha1 state_after state_after_action made_by_event made_while_running made_by_datagram made_by_ruling made_by_proposal propose propose_alone propose_among on_ask accept count_grant on_grant raise count_deny on_deny on_floor on_message tick
returns-clause-steady_among_three c = record {
  starts = λ i envelope at. absurd (none-some envelope at);
  enrolled = three_enrolled;
  steady = (refl, (refl, (tt, (tt, (tt, (tt, (tt, (tt, (tt, tt)))))))));
  sent = (tt, (tt, (tt, (tt, ((λ own. record { place = 0; is_there = refl }), (tt, ((λ own. record { place = 1; is_there = refl }), (tt, (tt, tt)))))))));
}

pub returns-clause-noise : goal.returns-clause-noise
unfolding AreSent state_after state_after_action
returns-clause-noise c = record {
  starts = λ i envelope at. absurd (none-some envelope at);
  enrolled = three_enrolled;
  steady = (refl, (tt, tt));
  sent = (tt, ((λ own. (let sender : 2 ≡ 3 = own in absurd (omega (arith, sender)))), tt));
}

pub returns-clause-lost_and_replaced : goal.returns-clause-lost_and_replaced
returns-clause-lost_and_replaced c = (tt, ((refl, omega arith), tt))
