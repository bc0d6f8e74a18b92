-- Rows of a node alone, and of two nodes.
use Rattle.std.proofs.Common.{◌≡◌, ◌<◌, ◌≤◌, ◌+◌, ℕ, zero, suc, Bool, true, false, Some, refl, ap, arith}
use Rattle.std.proofs.lemmas.Bool.{cond_both, false≢true}
use Rattle.std.proofs.lemmas.Option.{none-some}
use Rattle.floor_store.specs.Content.{opening_row}
use Rattle.floor_store.specs.Records.{ProposalRecord, RowRecord, SpanRecord, span_of}
use Rattle.otp_core.specs.Acceptance.{size}
use Rattle.vote_core.proofs.Basics.{has_member}
use Rattle.seat_law.specs.SeedExamples.{first_proposal, taken, votes_once}
use Rattle.seat_law.specs.Votes.{HasVotes, IsVote}
use Rattle.seat_law.proofs.seed_laws.votes_can_be_broken.Goals as goal

no_grant : (x : ProposalRecord × SpanRecord) → (opening_row 0).grant ≡ Some x → ⊥
no_grant x e = none-some x e

later_used : (later : ℕ) → 0 < later → 0 < (votes_once 1 0 later).next
later_used zero low = absurd (omega (arith, low))
later_used (suc n) low = omega arith

others_stay : (other : ℕ) → (other ≡ 0 → ⊥) → votes_once 1 other 1 ≡ votes_once 1 other 0
others_stay zero apart = absurd (apart refl)
others_stay (suc n) apart = refl

first_vote : IsVote votes_once (taken 0 0) 1 0
first_vote = record {
  lets = record { after_it_began = omega arith; before_it_ended = omega arith; free = omega arith; used = later_used };
  proposal = first_proposal;
  is_new = λ e. no_grant (first_proposal, span_of 0 0) e;
  granted = refl;
  alone = others_stay;
}

pub returns-clause-vote : goal.returns-clause-vote
returns-clause-vote c = first_vote

pub returns-clause-raised : goal.returns-clause-raised
returns-clause-raised c h = none-some (h.proposal, span_of 0 0) h.granted

pub returns-clause-granted_before : goal.returns-clause-granted_before
returns-clause-granted_before c h = h.is_new h.granted

pub returns-clause-all_rows : goal.returns-clause-all_rows
returns-clause-all_rows c h =
    let same = ap (λ (r : RowRecord). r.next) (h.alone 1 (λ e. let is : 1 ≡ 0 = e in omega (arith, is))) in
    let floors : 1 ≡ 0 = same in
    omega (arith, floors)

-- no other row gets a grant
none_else : (node event : ℕ) → IsVote votes_once (taken 0 1) node event → ⊥
none_else zero event h = no_grant (h.proposal, span_of 0 0) h.granted
none_else (suc zero) event h = no_grant (h.proposal, span_of 0 0) h.granted
none_else (suc (suc node)) event h = no_grant (h.proposal, span_of 0 0) h.granted

pub returns-clause-another_token : goal.returns-clause-another_token
returns-clause-another_token c h = none_else 1 0 h

none_elsewhere : (event : ℕ) → IsVote votes_once (taken 0 0) 2 event → ⊥
none_elsewhere event h = no_grant (h.proposal, span_of 0 0) h.granted

pub returns-clause-another_node : goal.returns-clause-another_node
returns-clause-another_node c h = none_elsewhere 0 h

only_first : ℕ → Bool
only_first zero = false
only_first (suc zero) = true
only_first (suc (suc node)) = false

first_votes : (node : ℕ) → only_first node ≡ true → (event : ℕ) × IsVote votes_once (taken 0 0) node event
unfolding only_first
first_votes zero is = absurd (false≢true is)
first_votes (suc zero) is = (0, first_vote)
first_votes (suc (suc node)) is = absurd (false≢true is)

many : 1 ≤ size 1 only_first
unfolding only_first
many = omega arith

pub returns-clause-majority : goal.returns-clause-majority
returns-clause-majority c = record { nodes = only_first; many = many; each = first_votes }

pub returns-clause-half : goal.returns-clause-half
returns-clause-half c h =
    let need : 2 ≤ size 2 h.nodes = h.many in
    let second : size 2 h.nodes ≤ 1 =
    cond_both (h.nodes 2) 1 0 (λ m. m + size 1 h.nodes ≤ 1) (λ q. let x = h.each 2 q in absurd (none_elsewhere x.0 x.1))
    (λ _. cond_both (h.nodes 1) 1 0 (λ m. 0 + (m + 0) ≤ 1) (λ _. omega arith) (λ _. omega arith)) in
    omega (arith, need, second)

unvoted : HasVotes 1 votes_once (taken 0 1) → ⊥
unvoted h =
    let low : 1 ≤ size 1 h.nodes = h.many in
    let node = has_member 1 h.nodes (omega (arith, low)) in
    let x = h.each node.0 node.3 in
    none_else node.0 x.0 x.1

pub returns-clause-first_unvoted : goal.returns-clause-first_unvoted
returns-clause-first_unvoted c h = unvoted (h 0 (taken 0 1) refl)

pub returns-clause-second_unvoted : goal.returns-clause-second_unvoted
returns-clause-second_unvoted c h = unvoted (h 1 (taken 0 1) refl)
