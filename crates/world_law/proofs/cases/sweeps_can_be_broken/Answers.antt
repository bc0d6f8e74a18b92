-- Each cluster state is computed, and of one history the hash with it.
use Rattle.std.proofs.Common.{◌≡◌, ℕ, zero, suc, ◌<◌, true, false, List, [], ◌∷◌, length, refl, ap, ◌∙◌, arith}
use Rattle.admit_core.specs.Fit.{code_at}
use Rattle.sha1.specs.Sha1.{first_words, schedule, rounds, compress, hash_after, digest_bytes, sha1}
use Rattle.vote_core.specs.Voting.{Ballot, propose, propose_alone, propose_among, tick}
use Rattle.oath_node.specs.Machine.{NodeState, Owner, made_by_proposal, made_by_ruling, made_by_datagram, made_while_running, made_by_event}
use Rattle.world_law.specs.Broken.{opened_machine, owning_machine, pending_machine}
use Rattle.world_law.specs.Examples.{one_node, one_open, one_terms}
use Rattle.book_law.specs.Lives.{Down, Output, Store, Terms, Up, state_after, state_after_action}
use Rattle.world_law.specs.Steady.{enrolled_store}
use Rattle.world_law.specs.Sweeps.{greatest_in, next_in}
use Rattle.world_law.proofs.cases.sweeps_can_be_broken.Goals as goal

no_member : false ≡ true → ⊥
no_member e = cc

no_process : (store : Store) (terms : Terms) (below : Store) (machine : NodeState) (waiting : List Output) → Down store ≡ Up terms below machine waiting → ⊥
no_process store terms below machine waiting e = cc

same_machine : (own : Terms) (over : Store) (one : NodeState) (terms : Terms) (below : Store) (other : NodeState) (waiting : List Output) → Up own over one [] ≡ Up terms below other waiting → one ≡ other
same_machine own over one terms below other waiting e = cc

pub returns-clause-stranger : goal.returns-clause-stranger
returns-clause-stranger c h = no_member h.member

-- one member holds the greatest of its own
level : (token : ℕ) → token < 1 → next_in one_open 1 token ≡ greatest_in (1 ∷ []) one_open token
unfolding state_after state_after_action
level zero short = refl
level (suc token) short = absurd (omega (arith, short))

pub returns-clause-swept : goal.returns-clause-swept
unfolding state_after state_after_action
returns-clause-swept c = record {
  is_live = record { member = refl; terms = one_terms; below = enrolled_store one_node 1; machine = opened_machine; waiting = []; is_up = refl; running = refl };
  pending = refl;
  owners = refl;
  next = level;
}

pub returns-clause-without_a_process : goal.returns-clause-without_a_process
unfolding state_after state_after_action
returns-clause-without_a_process c h = no_process (enrolled_store one_node 1) h.is_live.terms h.is_live.below h.is_live.machine h.is_live.waiting h.is_live.is_up

pub returns-clause-proposal_waits : goal.returns-clause-proposal_waits
returns-clause-proposal_waits c h =
    let same = same_machine one_terms (enrolled_store one_node 1) pending_machine h.is_live.terms h.is_live.below h.is_live.machine h.is_live.waiting h.is_live.is_up in
    let number : 1 ≡ 0 = ap (λ (machine : NodeState). length machine.voter.pending) same ∙ ap (λ (ballots : List Ballot). length ballots) h.pending in
    omega (arith, number)

pub returns-clause-line_waits : goal.returns-clause-line_waits
returns-clause-line_waits c h =
    let same = same_machine one_terms (enrolled_store one_node 1) owning_machine h.is_live.terms h.is_live.below h.is_live.machine h.is_live.waiting h.is_live.is_up in
    let number : 1 ≡ 0 = ap (λ (machine : NodeState). length machine.owners) same ∙ ap (λ (owners : List Owner). length owners) h.owners in
    omega (arith, number)

-- node 2 had a greater factor, and node 1 is below it
pub returns-clause-factor_behind : goal.returns-clause-factor_behind
unfolding state_after state_after_action
returns-clause-factor_behind c h =
    let short : 0 < 1 = omega arith in
    let next : 0 ≡ 1 = h.next 0 short in
    omega (arith, next)

pub returns-clause-second_token_behind : goal.returns-clause-second_token_behind
unfolding state_after state_after_action
returns-clause-second_token_behind c h =
    let short : 1 < 2 = omega arith in
    let next : 0 ≡ 1 = h.next 1 short in
    omega (arith, next)

pub returns-clause-factor_ahead : goal.returns-clause-factor_ahead
unfolding code_at first_words schedule rounds compress hash_after digest_bytes sha1 state_after state_after_action made_by_event made_while_running made_by_datagram made_by_ruling made_by_proposal propose propose_alone propose_among tick
returns-clause-factor_ahead c h =
    let short : 0 < 1 = omega arith in
    let next : 1 ≡ 0 = h.next 0 short in
    omega (arith, next)

pub returns-clause-each_floor : goal.returns-clause-each_floor
returns-clause-each_floor c = λ cluster live old new node token h short. h.next token short
