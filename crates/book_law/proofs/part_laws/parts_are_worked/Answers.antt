-- Each is computed, the hash with it.
use Rattle.std.proofs.Common.{◌≡◌, [], ◌∷◌, refl, arith}
use Rattle.std.specs.Prelude.{Some, codes}
use Rattle.admit_core.specs.Fit.{code_at}
use Rattle.sha1.specs.Sha1.{first_words, schedule, rounds, compress, hash_after, digest_bytes, sha1}
use Rattle.client_lines.specs.declared.answer.Outcome.TheVariants.{Accepted, Refused}
use Rattle.client_lines.specs.declared.answer.Reason.TheVariants.{Invalid}
use Rattle.cluster_sim.specs.Examples.{told_outcome}
use Rattle.vote_core.specs.Voting.{propose, propose_alone, propose_among, on_ask, accept, count_grant, on_grant, raise, count_deny, on_deny, on_floor, on_message, tick}
use Rattle.oath_node.specs.Machine.{made_by_proposal, made_by_ruling, made_by_datagram, made_while_running, made_by_event, Tick}
use Rattle.oath_node.specs.Turns.{FromClient, Nothing}
use Rattle.book_law.specs.Lives.{Enrols, Offers, OpensGate, Stops, ToClient}
use Rattle.book_law.specs.PartExamples.{replied}
use Rattle.book_law.specs.Uses.{ToClientOwn, own_offers, own_process}
use Rattle.book_law.proofs.part_laws.parts_are_worked.Goals as goal

pub returns-clause-one : goal.returns-clause-one
returns-clause-one c = λ setting node terms port found taken entries left is. record {
  fits = is.fits;
  boot = is.boot;
  are = (
    record { receipts = is.receipts; received = is.received; later = is.later; events = is.events; rest = is.rest; offers = is.offers; left_out = tt },
    is.leaves,
  );
}

pub returns-clause-of_one : goal.returns-clause-of_one
returns-clause-of_one c = λ setting node terms port found taken entries left is. record {
  fits = is.fits;
  boot = is.boot;
  receipts = is.are.0.receipts;
  received = is.are.0.received;
  later = is.are.0.later;
  events = is.are.0.events;
  rest = is.are.0.rest;
  offers = is.are.0.offers;
  leaves = is.are.1;
}

pub returns-clause-cleared_between : goal.returns-clause-cleared_between
unfolding code_at first_words schedule rounds compress hash_after digest_bytes sha1 made_by_event made_while_running made_by_datagram made_by_ruling made_by_proposal propose propose_alone propose_among on_ask accept count_grant on_grant raise count_deny on_deny on_floor on_message tick
returns-clause-cleared_between c = record {
  fits = refl;
  boot = refl;
  are = (
    record { receipts = FromClient 7 (codes "CHECK 3 silver 000000 -") (Some 100) ∷ []; received = refl; later = []; events = refl; rest = []; offers = refl; left_out = (refl, refl) },
    (record { receipts = FromClient 7 (codes "CHECK 4 silver 755224 -") (Some 104) ∷ []; received = refl; later = []; events = refl; rest = []; offers = refl; left_out = tt }, refl),
  );
}

pub returns-clause-in_order : goal.returns-clause-in_order
unfolding code_at first_words schedule rounds compress hash_after digest_bytes sha1 made_by_event made_while_running made_by_datagram made_by_ruling made_by_proposal propose propose_alone propose_among on_ask accept count_grant on_grant raise count_deny on_deny on_floor on_message tick
returns-clause-in_order c = record {
  fits = refl;
  boot = refl;
  are = (
    record { receipts = FromClient 7 (codes "CHECK 1 silver 755224 -") (Some 100) ∷ []; received = refl; later = []; events = refl; rest = []; offers = refl; left_out = (refl, refl) },
    (record { receipts = FromClient 7 (codes "CHECK 4 silver 755224 -") (Some 104) ∷ []; received = refl; later = []; events = refl; rest = []; offers = refl; left_out = tt }, refl),
  );
}

pub returns-clause-cut_at_the_end : goal.returns-clause-cut_at_the_end
returns-clause-cut_at_the_end c = record {
  fits = refl;
  boot = refl;
  are = (
    record { receipts = []; received = refl; later = []; events = refl; rest = []; offers = refl; left_out = (refl, refl) },
    (record { receipts = Nothing ∷ []; received = refl; later = Tick ∷ []; events = refl; rest = []; offers = refl; left_out = tt }, refl),
  );
}

pub returns-clause-silent_at_the_end : goal.returns-clause-silent_at_the_end
unfolding code_at first_words schedule rounds compress hash_after digest_bytes sha1 made_by_event made_while_running made_by_datagram made_by_ruling made_by_proposal propose propose_alone propose_among on_ask accept count_grant on_grant raise count_deny on_deny on_floor on_message tick
returns-clause-silent_at_the_end c = record {
  fits = refl;
  boot = refl;
  are = (
    record { receipts = []; received = refl; later = []; events = refl; rest = []; offers = refl; left_out = (refl, refl) },
    (record { receipts = FromClient 7 (codes "CHECK 1 silver 755224 -") (Some 100) ∷ []; received = refl; later = []; events = refl; rest = replied (codes "1") (Accepted 0) ∷ []; offers = refl; left_out = tt }, refl),
  );
}

pub returns-clause-no_part : goal.returns-clause-no_part
returns-clause-no_part c = record { fits = refl; boot = refl; are = refl }

pub returns-clause-uses : goal.returns-clause-uses
returns-clause-uses c = (
  record {
    fits = refl;
    boot = refl;
    are = (
      record { receipts = []; received = refl; later = []; events = refl; rest = []; offers = refl; left_out = (refl, refl) },
      (record { receipts = []; received = refl; later = []; events = refl; rest = []; offers = refl; left_out = tt }, refl),
    );
  },
  tt,
)

pub returns-clause-actions : goal.returns-clause-actions
unfolding own_process own_offers
returns-clause-actions c = (
  Offers 2 ∷ [],
  Enrols 2 0 0 ∷ OpensGate 1 0 ∷ Offers 1 ∷ [],
  Stops 2 ∷ [],
  refl,
  ((λ (at : 1 ≡ 2). absurd (omega (arith, at))), tt),
  (
    Enrols 2 0 0 ∷ [],
    Offers 1 ∷ [],
    refl,
    record { serving = ((λ (at : 1 ≡ 2). absurd (omega (arith, at))), tt); takes = refl; offers = λ first. record { own = []; named = refl; encoded = refl } },
    (
      Offers 1 ∷ [],
      [],
      refl,
      record { serving = (tt, tt); takes = refl; offers = λ first. record { own = []; named = refl; encoded = refl } },
      tt,
    ),
  ),
  ((λ (at : 1 ≡ 2). absurd (omega (arith, at))), tt),
)

pub returns-clause-replies : goal.returns-clause-replies
returns-clause-replies c = (
  ToClient (told_outcome 1 1 7 (codes "3") (Refused Invalid)) ∷ ToClient (told_outcome 4 1 7 (codes "4") (Accepted 0)) ∷ [],
  [],
  refl,
  record { own = ToClientOwn (told_outcome 1 1 7 (codes "3") (Refused Invalid)) ∷ ToClientOwn (told_outcome 4 1 7 (codes "4") (Accepted 0)) ∷ []; named = refl; encoded = refl },
  refl,
)
