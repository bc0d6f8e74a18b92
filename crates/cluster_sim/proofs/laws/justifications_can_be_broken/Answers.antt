-- What the line says and what stood before it are computed, and differ.
use Rattle.std.proofs.Common.{◌≡◌, ℕ, ◌≤◌, List, [], Some, None, ◌⊎◌, inl, inr, refl, arith, ap, sym, ◌∙◌, subst, ℤ}
use Rattle.std.specs.Prelude.{codes, slice_index}
use Rattle.std.proofs.lemmas.Int.{ints}
use Rattle.admit_core.specs.Entitled.{IsEntitled}
use Rattle.admit_core.specs.Fit.{InWindowOf, code_at}
use Rattle.otp_core.specs.Submission.{Check}
use Rattle.admit_core.specs.Throttle.{Result}
use Rattle.sha1.specs.Sha1.{first_words, schedule, rounds, compress, hash_after, digest_bytes, sha1}
use Rattle.vote_core.specs.Voting.{propose, propose_alone, propose_among, on_ask, accept, count_grant, on_grant, raise, count_deny, on_deny, on_floor, on_message, tick}
use Rattle.oath_node.specs.Machine.{made_by_proposal, made_by_ruling, made_by_datagram, made_while_running, made_by_event}
use Rattle.token_file.specs.Credential.{Credential}
use Rattle.token_file.specs.declared.token.Kind.TheVariants.{Time30}
use Rattle.client_lines.specs.Request.{Request, request_at}
use Rattle.client_lines.proofs.RequestLemmas.{request_of_line}
use Rattle.cluster_sim.specs.Drifts.{drift_before}
use Rattle.cluster_sim.specs.Examples.{acceptance, clock_alone, clock_config, clock_lines, config, user_named}
use Rattle.cluster_sim.specs.Justified.{IsGround}
use Rattle.cluster_sim.specs.World.{floor_before, world_with_made, world_after_turn, world_after_act, world_after_restart, world_after_event, world_after_events}
use Rattle.cluster_sim.proofs.laws.justifications_can_be_broken.Goals as goal

same_some : {A : Type 0} (x y : A) → Some x ≡ Some y → x ≡ y
same_some x y e = cc

-- the one user, and a CHECK for it
abbrev silver : Credential
silver = user_named (codes "silver")

abbrev check : List ℕ → List ℕ → Request
check nonce code = record { nonce = nonce; user = codes "silver"; submission = Check code; password = None }

-- a ground is entitled by the request that the line gives
entitled : (moment : ℕ) (line : List ℕ) (next : ℕ) (drift : ℤ) (results : List Result) (lo hi : ℕ) (request : Request)
    → IsGround config moment line 0 next drift results lo hi → request_at line ≡ Some request
    → IsEntitled silver config.limits moment request.submission request.password next drift results lo hi
entitled moment line next drift results lo hi request h r =
    let read = request_of_line line h.request h.grammar in
    let same : h.request ≡ request = same_some h.request request (sym read ∙ r) in
    let user : h.credential ≡ silver = same_some h.credential silver (sym h.is_token) in
    let by_request = subst (λ (request : Request). IsEntitled h.credential config.limits moment request.submission request.password next drift results lo hi) same h.entitled in
    subst (λ (credential : Credential). IsEntitled credential config.limits moment request.submission request.password next drift results lo hi) user by_request

other_code : codes "755224" ≡ codes "287082" → ⊥
other_code e = let first : 55 ≡ 50 = ap (λ (code : List ℕ). slice_index code 0) e in omega (arith, first)

no_token : (c : Credential) → None ≡ Some c → ⊥
no_token c e = cc

pub returns-clause-node : goal.returns-clause-node
returns-clause-node c h = let node : 1 ≡ 2 = h.0 in omega (arith, node)

pub returns-clause-token : goal.returns-clause-token
returns-clause-token c h = no_token h.1.credential h.1.is_token

pub returns-clause-factor : goal.returns-clause-factor
unfolding code_at first_words schedule rounds compress hash_after digest_bytes sha1 world_after_events world_after_event world_after_act world_after_turn world_with_made world_after_restart made_by_event made_while_running made_by_datagram made_by_ruling made_by_proposal propose propose_alone propose_among on_ask accept count_grant on_grant raise count_deny on_deny on_floor on_message tick
returns-clause-factor c h =
    let e = entitled 100 (codes "CHECK 1 silver 755224 -") 0 _ [] 1 1 (check (codes "1") (codes "755224")) h.1 refl in
    other_code (sym e.fit.fits.1)

pub returns-clause-used_up : goal.returns-clause-used_up
unfolding code_at first_words schedule rounds compress hash_after digest_bytes sha1 world_after_events world_after_event world_after_act world_after_turn world_with_made world_after_restart made_by_event made_while_running made_by_datagram made_by_ruling made_by_proposal propose propose_alone propose_among on_ask accept count_grant on_grant raise count_deny on_deny on_floor on_message tick
returns-clause-used_up c h =
    let e = entitled 100 (codes "CHECK 2 silver 755224 -") _ _ _ 0 0 (check (codes "2") (codes "755224")) h.1 refl in
    let free : 1 ≤ 0 = e.fit.first.free in
    omega (arith, free)

pub returns-clause-closed : goal.returns-clause-closed
unfolding code_at first_words schedule rounds compress hash_after digest_bytes sha1 world_after_events world_after_event world_after_act world_after_turn world_with_made world_after_restart made_by_event made_while_running made_by_datagram made_by_ruling made_by_proposal propose propose_alone propose_among on_ask accept count_grant on_grant raise count_deny on_deny on_floor on_message tick
returns-clause-closed c h =
    let e = entitled 114 (codes "CHECK 4 silver 359152 -") _ _ _ 2 2 (check (codes "4") (codes "359152")) h.1 refl in
    let is_open : (2 ≡ 0) ⊎ (115 ≤ 114) = e.is_open in
    elim is_open [ inl x ↦ omega (arith, x) | inr x ↦ omega (arith, x) ]

-- the clock is three steps slow then, and the factor is the current step's
pub returns-clause-drifted : goal.returns-clause-drifted
unfolding code_at first_words schedule rounds compress hash_after digest_bytes sha1 world_after_events world_after_event world_after_act world_after_turn world_with_made world_after_restart made_by_event made_while_running made_by_datagram made_by_ruling made_by_proposal propose propose_alone propose_among on_ask accept count_grant on_grant raise count_deny on_deny on_floor on_message tick
returns-clause-drifted c h =
    let clock : h.1.credential ≡ record silver { kind = Time30 } = same_some h.1.credential _ (sym h.1.is_token) in
    let next = floor_before (clock_config 10) clock_alone clock_lines 1 0 3 in
    let drift = drift_before (clock_config 10) clock_alone clock_lines 1 0 3 in
    let window = subst (λ (credential : Credential). InWindowOf credential (clock_config 10).limits next drift 270 h.1.request.submission 9) clock h.1.entitled.fit.first in
    let e = window.near in omega (arith, ints)

-- the line names a user who isn't in the book
abbrev gold : Request
gold = record { nonce = codes "1"; user = codes "gold"; submission = Check (codes "755224"); password = None }

pub returns-clause-user : goal.returns-clause-user
returns-clause-user c h =
    let line = codes "CHECK 1 gold 755224 -" in
    let read = request_of_line line h.1.request h.1.grammar in
    let same : h.1.request ≡ gold = same_some h.1.request gold (sym read ∙ refl) in
    let one : silver ≡ h.1.credential = same_some silver h.1.credential h.1.is_token in
    let names : codes "silver" ≡ codes "gold" = ap (λ (c : Credential). c.name) one ∙ h.1.user ∙ ap (λ (r : Request). r.user) same in
    let first : 115 ≡ 103 = ap (λ (name : List ℕ). slice_index name 0) names in
    omega (arith, first)

pub returns-clause-kept_stop_elsewhere : goal.returns-clause-kept_stop_elsewhere
returns-clause-kept_stop_elsewhere c h = let node : 1 ≡ 2 = h.0 in omega (arith, node)

pub returns-clause-one_of_a_list : goal.returns-clause-one_of_a_list
returns-clause-one_of_a_list c h = let node : 1 ≡ 2 = (h 0 (acceptance 0 2 2 0 0) refl).0 in omega (arith, node)
