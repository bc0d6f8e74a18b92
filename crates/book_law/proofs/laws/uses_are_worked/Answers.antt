-- Each is computed.
use Rattle.std.proofs.Common.{◌≡◌, true, [], ◌∷◌, refl, sym, arith}
use Rattle.admit_core.specs.Fit.{code_at}
use Rattle.sha1.specs.Sha1.{first_words, schedule, rounds, compress, hash_after, digest_bytes, sha1}
use Rattle.vote_core.specs.Voting.{propose, propose_alone, propose_among, on_ask, accept, count_grant, on_grant, raise, count_deny, on_deny, on_floor, on_message, tick}
use Rattle.oath_node.specs.Machine.{made_by_proposal, made_by_ruling, made_by_datagram, made_while_running, made_by_event}
use Rattle.book_law.specs.Examples.{alone, second_reply, silver_ok, takes_silver}
use Rattle.book_law.specs.Lives.{Enrols, FailsToOpen, Offers, Stops, ToClient, Unlocks, first_state}
use Rattle.book_law.specs.Uses.{ToClientOwn, own_offers, own_process}
use Rattle.book_law.proofs.Serving.{process_is_own}
use Rattle.book_law.proofs.laws.uses_are_worked.Goals as goal

pub returns-clause-first : goal.returns-clause-first
returns-clause-first c = refl

pub returns-clause-after : goal.returns-clause-after
unfolding raise
returns-clause-after c = refl

pub returns-clause-raised_after_a_process : goal.returns-clause-raised_after_a_process
unfolding raise
returns-clause-raised_after_a_process c = refl

pub returns-clause-inputs_of_a_stop : goal.returns-clause-inputs_of_a_stop
returns-clause-inputs_of_a_stop c = refl

pub returns-clause-own : goal.returns-clause-own
returns-clause-own c = sym (process_is_own alone 0 1 takes_silver (first_state alone) refl (tt, (tt, (tt, tt))))

pub returns-clause-of_another : goal.returns-clause-of_another
unfolding own_process
returns-clause-of_another c = refl

pub returns-clause-offers : goal.returns-clause-offers
unfolding own_process own_offers code_at first_words schedule rounds compress hash_after digest_bytes sha1 made_by_event made_while_running made_by_datagram made_by_ruling made_by_proposal propose propose_alone propose_among on_ask accept count_grant on_grant raise count_deny on_deny on_floor on_message tick
returns-clause-offers c = refl

pub returns-clause-offers_of_another : goal.returns-clause-offers_of_another
unfolding own_process own_offers
returns-clause-offers_of_another c = refl

pub returns-clause-inputs : goal.returns-clause-inputs
returns-clause-inputs c = refl

pub returns-clause-inputs_of_another : goal.returns-clause-inputs_of_another
returns-clause-inputs_of_another c = refl

pub returns-clause-named : goal.returns-clause-named
returns-clause-named c = refl

pub returns-clause-answer_named : goal.returns-clause-answer_named
returns-clause-answer_named c = refl

pub returns-clause-answer_encoded : goal.returns-clause-answer_encoded
returns-clause-answer_encoded c = refl

pub returns-clause-serving : goal.returns-clause-serving
returns-clause-serving c = (tt, ((λ (at : 1 ≡ 2). absurd (omega (arith, at))), (tt, tt)))

pub returns-clause-writes : goal.returns-clause-writes
returns-clause-writes c = (
  Enrols 2 0 0 ∷ [],
  Unlocks 2 0 ∷ FailsToOpen 1 true ∷ Offers 2 ∷ [],
  refl,
  ((λ (at : 1 ≡ 2). absurd (omega (arith, at))), tt),
  (Unlocks 2 0 ∷ [], Offers 2 ∷ [], refl, ((λ (at : 1 ≡ 2). absurd (omega (arith, at))), tt), ((λ (at : 1 ≡ 2). absurd (omega (arith, at))), tt)),
)

pub returns-clause-process : goal.returns-clause-process
unfolding own_process own_offers
returns-clause-process c = (
  Offers 2 ∷ [],
  Enrols 2 0 0 ∷ Offers 1 ∷ [],
  Stops 2 ∷ [],
  refl,
  ((λ (at : 1 ≡ 2). absurd (omega (arith, at))), tt),
  record { serving = ((λ (at : 1 ≡ 2). absurd (omega (arith, at))), (tt, tt)); takes = refl; offers = λ first. record { own = []; named = refl; encoded = refl } },
  ((λ (at : 1 ≡ 2). absurd (omega (arith, at))), tt),
)

pub returns-clause-recorded : goal.returns-clause-recorded
returns-clause-recorded c = refl

pub returns-clause-replies : goal.returns-clause-replies
returns-clause-replies c = (
  ToClient silver_ok ∷ [],
  ToClient second_reply ∷ [],
  refl,
  record { own = ToClientOwn silver_ok ∷ []; named = refl; encoded = refl },
  (ToClient second_reply ∷ [], [], refl, record { own = ToClientOwn second_reply ∷ []; named = refl; encoded = refl }, refl),
)
