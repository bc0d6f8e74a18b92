-- Each promise is asked about the one that breaks it. The steps are computed, and where a line fits its code.
use Rattle.std.proofs.Common.{◌≡◌, inl, inr, refl, ap, arith}
use Rattle.std.specs.Fmt.{digits}
use Rattle.admit_core.specs.Fit.{code_at}
use Rattle.floor_store.specs.Broken.{booted}
use Rattle.floor_store.specs.Content.{Content}
use Rattle.hmac_core.specs.Unfolded.sha1_steps
use Rattle.vote_core.specs.Voting.{propose, propose_alone, propose_among}
use Rattle.oath_node.specs.Machine.{made_by_datagram, made_by_event, made_by_proposal, made_by_ruling, made_while_running}
use Rattle.oath_node.proofs.laws.calls_can_be_broken.Goals as goal

pub returns-clause-takes : goal.returns-clause-takes
unfolding made_by_event made_while_running made_by_datagram
returns-clause-takes c = record {
  made = λ clean. record { told = refl; left = refl };
  runs = (refl, refl);
  puts = record {
    makes = record {
      ok = λ clean. refl;
      err = search;
      stays = λ broken. absurd cc;
      count = omega arith;
      clean = λ clean. clean;
      tokens = refl;
    };
    left = λ clean content l. inl l;
    intact = λ works. refl;
  };
  fails = tt;
  stopped = (λ e. absurd cc, λ e. absurd cc);
  without_failure = λ same. tt;
  few = λ clean. omega arith;
  same = record { book = refl; limits = refl; key = refl; place = refl };
}

pub returns-clause-commits_all : goal.returns-clause-commits_all
returns-clause-commits_all c h =
    let e : 1 ≡ 0 = ap (λ (content : Content). content.boot) (h.commits.settled refl (booted 1) (inr refl)) in
    omega (arith, e)

pub returns-clause-handles : goal.returns-clause-handles
unfolding made_by_event made_while_running made_by_datagram
returns-clause-handles c = record {
  made = λ clean. record { told = refl; left = refl };
  runs = (refl, refl);
  writes = record {
    makes = record {
      ok = λ clean. refl;
      err = search;
      stays = λ broken. absurd cc;
      count = omega arith;
      clean = λ clean. clean;
      tokens = refl;
    };
    left = λ clean content l. inl l;
    settled = λ clean settled. settled;
    intact = λ works. refl;
  };
  fails = tt;
  same = record { book = refl; limits = refl; key = refl; place = refl };
}

pub returns-clause-handles_no_number : goal.returns-clause-handles_no_number
unfolding made_by_event made_while_running made_by_ruling made_by_proposal propose propose_alone propose_among code_at digits sha1_steps.first_words sha1_steps.schedule sha1_steps.rounds sha1_steps.compress sha1_steps.hash_after sha1_steps.digest_bytes sha1_steps.sha1
returns-clause-handles_no_number c = record {
  made = tt;
  runs = tt;
  writes = record {
    makes = record {
      ok = λ clean. tt;
      err = λ clean. inl refl;
      stays = λ broken. absurd cc;
      count = omega arith;
      clean = λ clean. clean;
      tokens = refl;
    };
    left = λ clean content l. inl l;
    settled = λ clean settled. tt;
    intact = λ works. tt;
  };
  fails = record { proposing = λ clean. tt; none_left = refl; unchanged = refl };
  same = record { book = refl; limits = refl; key = refl; place = refl };
}
