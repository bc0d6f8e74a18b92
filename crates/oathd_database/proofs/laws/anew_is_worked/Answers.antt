-- Each part is computed, or holds of the one node and of both tokens.
use Rattle.std.proofs.Common.{◌≡◌, ℕ, zero, suc, ◌<◌, ◌≤◌, false, [], ◌∷◌, Some, refl, sym, ap, subst, ◌∙◌, arith}
use Rattle.std.specs.Prelude.{IfSome, codes, slice_get, slice_index}
use Rattle.std.proofs.lemmas.Bool.{true≢false}
use Rattle.std.proofs.lemmas.Option.{none-some}
use Rattle.token_file.specs.Examples.{event_token}
use Rattle.vote_core.specs.Cases.{alone, own_floors}
use Rattle.vote_core.specs.Safety.{KeepsStore}
use Rattle.vote_core.specs.Schedule.{Replaced, after_act, after_event, after_proposal, after_restart, cluster_after, first_opening, run, with_proposal_begun}
use Rattle.vote_core.specs.Voting.{propose, propose_alone, tick}
use Rattle.floors_file.specs.Gathered.{is_of_files}
use Rattle.oathd_database.specs.Anew.{IsReadLast}
use Rattle.oathd_database.specs.Examples.{told_alone}
use Rattle.oathd_database.specs.Reach.{AreFound}
use Rattle.oathd_database.proofs.laws.anew_is_worked.Goals as goal

found_one : AreFound (event_token (codes "a") ∷ [])
found_one zero = refl
found_one (suc token) = tt

kept_one : KeepsStore alone 1 4 5
kept_one event boot floor low high is =
    let last : event ≡ 4 = omega (arith, low, high) in
    let at : slice_get alone 4 ≡ Some (Replaced 1 boot floor) = ap (slice_get alone) (sym last) ∙ is in
    cc

read_one : (place : ℕ) → IfSome (slice_get (told_alone 14 ∷ []) place) (IsReadLast 1 1 (first_opening own_floors) alone 4 (event_token (codes "a") ∷ []))
unfolding run after_event after_act after_proposal with_proposal_begun cluster_after after_restart propose propose_alone tick
read_one zero = record {
  first = omega arith;
  within = omega arith;
  floors = record { event = 5; later = omega arith; kept = kept_one; each = refl; told = refl };
  boot = omega arith;
}
read_one (suc place) = tt

floors_one : (token : ℕ) → token < 2 → slice_index (3 ∷ 14 ∷ []) token ≤ 14
floors_one zero h = omega arith
floors_one (suc zero) h = omega arith
floors_one (suc (suc token)) h = absurd (omega (arith, h))

pub returns : goal.returns
unfolding run after_event after_act after_proposal with_proposal_begun cluster_after after_restart propose propose_alone tick
returns c = record {
  may = λ place letter at. absurd (none-some letter at);
  last = 4;
  is_last = refl;
  found = found_one;
  read = read_one;
  asked = record { since = 0; boot = 3 };
  taken = refl;
  whole = refl;
  unread = λ node first last is.
      (let one : node ≡ 1 = omega (arith, first, last) in
      absurd (true≢false (subst (λ m. is_of_files m (told_alone 14 ∷ []) ≡ false) one is)));
  boots = λ node first last. omega arith;
  own = λ node. 3 ∷ 0 ∷ [];
  each = λ node. refl;
  floors = λ node token first last within. floors_one token within;
  old = λ place. tt;
}
