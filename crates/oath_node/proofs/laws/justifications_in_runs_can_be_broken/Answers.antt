-- What the line says and what stood before it are computed, and differ.
use Rattle.std.proofs.Common.{◌≡◌, ℕ, ◌≤◌, List, [], ◌∷◌, Some, None, ◌⊎◌, inl, inr, refl, arith, ap, sym, ◌∙◌, subst}
use Rattle.std.specs.Fmt.{digits}
use Rattle.std.specs.Prelude.{codes, slice_get, slice_index}
use Rattle.std.proofs.lemmas.Int.{ints}
use Rattle.admit_core.specs.Entitled.{IsEntitled}
use Rattle.admit_core.specs.Fit.{InWindowOf, code_at}
use Rattle.otp_core.specs.Submission.{Check}
use Rattle.hmac_core.specs.Unfolded.sha1_steps
use Rattle.token_file.specs.Credential.{Credential}
use Rattle.token_file.specs.declared.token.Kind.TheVariants.{Time30}
use Rattle.token_file.specs.declared.token.Password.TheVariants.{Equal, NoneAllowed}
use Rattle.oath_node.specs.Examples.{IsJustifiedInRun, drifting, line_at, lines_of_a_clock, lines_of_a_run, narrowest_limits, one_clock, three_tokens, token_of}
use Rattle.oath_node.specs.ReferenceServer.{Line, server_after}
use Rattle.oath_node.specs.Report.{LinePass, drift_before, floor_before, report_from, results_before}
use Rattle.client_lines.specs.Request.{Request, request_at}
use Rattle.client_lines.proofs.RequestLemmas.{request_of_line}
use Rattle.oath_node.proofs.laws.justifications_in_runs_can_be_broken.Goals as goal

same_some : {A : Type 0} (x y : A) → Some x ≡ Some y → x ≡ y
same_some x y e = cc

-- the request and the credential are those that the line and the place give
request_is : (pass : LinePass) (line : Line) (request : Request) (j : IsJustifiedInRun pass)
    → slice_get lines_of_a_run pass.began ≡ Some line → request_at line.text ≡ Some request → j.request ≡ request
request_is pass line request j l r =
    let same : j.line ≡ line = same_some j.line line (sym j.began ∙ l) in
    let read : request_at line.text ≡ Some j.request =
    subst (λ (line : Line). request_at line.text ≡ Some j.request) same (request_of_line j.line.text j.request j.grammar) in
    same_some j.request request (sym read ∙ r)

credential_is : (pass : LinePass) (credential : Credential) (j : IsJustifiedInRun pass)
    → slice_get three_tokens pass.token ≡ Some credential → j.credential ≡ credential
credential_is pass credential j t = same_some j.credential credential (sym j.token ∙ t)

-- so the pass is entitled for these
entitled : (pass : LinePass) (line : Line) (request : Request) (credential : Credential) (j : IsJustifiedInRun pass)
    → slice_get lines_of_a_run pass.began ≡ Some line → request_at line.text ≡ Some request → slice_get three_tokens pass.token ≡ Some credential
    → IsEntitled credential narrowest_limits line.moment request.submission request.password
    (floor_before three_tokens narrowest_limits (0 ∷ 0 ∷ 0 ∷ []) lines_of_a_run pass.token pass.began)
    (drift_before three_tokens narrowest_limits (0 ∷ 0 ∷ 0 ∷ []) lines_of_a_run pass.token pass.began)
    (results_before three_tokens narrowest_limits (0 ∷ 0 ∷ 0 ∷ []) lines_of_a_run pass.token pass.began) pass.lo pass.hi
entitled pass line request credential j l r t =
    let next = floor_before three_tokens narrowest_limits (0 ∷ 0 ∷ 0 ∷ []) lines_of_a_run pass.token pass.began in
    let drift = drift_before three_tokens narrowest_limits (0 ∷ 0 ∷ 0 ∷ []) lines_of_a_run pass.token pass.began in
    let results = results_before three_tokens narrowest_limits (0 ∷ 0 ∷ 0 ∷ []) lines_of_a_run pass.token pass.began in
    let by_line = subst (λ (line : Line). IsEntitled j.credential narrowest_limits line.moment j.request.submission j.request.password next drift results pass.lo pass.hi)
    (same_some j.line line (sym j.began ∙ l)) j.entitled in
    let by_request = subst (λ (request : Request). IsEntitled j.credential narrowest_limits line.moment request.submission request.password next drift results pass.lo pass.hi)
    (request_is pass line request j l r) by_line in
    subst (λ (credential : Credential). IsEntitled credential narrowest_limits line.moment request.submission request.password next drift results pass.lo pass.hi)
    (credential_is pass credential j t) by_request

-- the token silver, and a CHECK for it
abbrev silver : Credential
silver = token_of (codes "silver") NoneAllowed

abbrev check : List ℕ → List ℕ → Request
check nonce code = record { nonce = nonce; user = codes "silver"; submission = Check code; password = None }

other_code : codes "755224" ≡ codes "287082" → ⊥
other_code e = let first : 55 ≡ 50 = ap (λ (code : List ℕ). slice_index code 0) e in omega (arith, first)

pub returns-clause-token : goal.returns-clause-token
returns-clause-token c h =
    let pass : LinePass = record { began = 2; token = 1; lo = 1; hi = 1 } in
    let request = request_is pass (line_at 105 (codes "CHECK c silver 287082 -")) (check (codes "c") (codes "287082")) h refl refl in
    let user : h.credential.name ≡ codes "silver" = subst (λ (request : Request). h.credential.name ≡ request.user) request h.user in
    let gold = credential_is pass (token_of (codes "gold") (Equal (record { items = codes "pw" }))) h refl in
    let name : codes "gold" ≡ codes "silver" = subst (λ (credential : Credential). credential.name ≡ codes "silver") gold user in
    absurd cc

pub returns-clause-factor : goal.returns-clause-factor
unfolding code_at sha1_steps.first_words sha1_steps.schedule sha1_steps.rounds sha1_steps.compress sha1_steps.hash_after sha1_steps.digest_bytes sha1_steps.sha1
returns-clause-factor c h =
    let pass : LinePass = record { began = 2; token = 0; lo = 0; hi = 0 } in
    let e = entitled pass (line_at 105 (codes "CHECK c silver 287082 -")) (check (codes "c") (codes "287082")) silver h refl refl refl in
    other_code e.fit.fits.1

pub returns-clause-closed : goal.returns-clause-closed
unfolding code_at sha1_steps.first_words sha1_steps.schedule sha1_steps.rounds sha1_steps.compress sha1_steps.hash_after sha1_steps.digest_bytes sha1_steps.sha1 server_after
returns-clause-closed c h =
    let pass : LinePass = record { began = 1; token = 0; lo = 0; hi = 0 } in
    let e = entitled pass (line_at 104 (codes "CHECK b silver 755224 -")) (check (codes "b") (codes "755224")) silver h refl refl refl in
    let is_open : (1 ≡ 0) ⊎ (105 ≤ 104) = e.is_open in
    elim is_open [ inl x ↦ omega (arith, x) | inr x ↦ omega (arith, x) ]

pub returns-clause-used_up : goal.returns-clause-used_up
unfolding code_at sha1_steps.first_words sha1_steps.schedule sha1_steps.rounds sha1_steps.compress sha1_steps.hash_after sha1_steps.digest_bytes sha1_steps.sha1 server_after
returns-clause-used_up c h =
    let pass : LinePass = record { began = 3; token = 0; lo = 1; hi = 1 } in
    let e = entitled pass (line_at 106 (codes "CHECK d silver 287082 -")) (check (codes "d") (codes "287082")) silver h refl refl refl in
    let free : 2 ≤ 1 = e.fit.first.free in
    omega (arith, free)

-- the request and the credential of the clock's last line
pub returns-clause-drifted : goal.returns-clause-drifted
unfolding code_at sha1_steps.first_words sha1_steps.schedule sha1_steps.rounds sha1_steps.compress sha1_steps.hash_after sha1_steps.digest_bytes sha1_steps.sha1 server_after report_from digits
returns-clause-drifted c h =
    let last : h.line ≡ line_at 270 (codes "CHECK 4 silver 520489 -") = same_some h.line _ (sym h.began ∙ refl) in
    let clock : h.credential ≡ record silver { kind = Time30 } = same_some h.credential _ (sym h.token ∙ refl) in
    let drift = drift_before one_clock (drifting 10) (2 ∷ []) lines_of_a_clock 0 3 in
    let by_line = subst (λ (line : Line). InWindowOf h.credential (drifting 10) (floor_before one_clock (drifting 10) (2 ∷ []) lines_of_a_clock 0 3) drift line.moment h.request.submission 9) last h.entitled.fit.first in
    let window = subst (λ (credential : Credential). InWindowOf credential (drifting 10) (floor_before one_clock (drifting 10) (2 ∷ []) lines_of_a_clock 0 3) drift 270 h.request.submission 9) clock by_line in
    let e = window.near in omega (arith, ints)
