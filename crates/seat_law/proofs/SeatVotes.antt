-- The votes of acceptances over seats.
use Rattle.std.proofs.Common.{◌≡◌, ℕ, zero, suc, List, [], ◌∷◌, take, refl, sym, ap, ◌∙◌, subst}
use mathlib.Core.Path.{fun_ext}
use Rattle.vote_core.specs.Books.{blank_opening}
use Rattle.vote_core.specs.Roster.{Happening, Roster, after_happening, event_of, opened, serve}
use Rattle.vote_core.specs.RosterExamples.{none_enrolled}
use Rattle.vote_core.specs.Rows.{row}
use Rattle.vote_core.specs.Safety.{MayOpen}
use Rattle.vote_core.specs.Schedule.{Cluster, Envelope, Event, Opening, acceptances, run}
use Rattle.vote_core.proofs.Rosters.{events_of, run_is}
use Rattle.seat_law.specs.Seats.{Course, Sites, blank_sites, go, happenings_at}
use Rattle.seat_law.specs.Votes.{HaveVotes, row_before, row_in}
use Rattle.seat_law.proofs.Relation.{row_same}
use Rattle.seat_law.proofs.Safe.{seats_accepted, seats_take, start_sims}
use Rattle.seat_law.proofs.Votes.{votes_hold}

take_is : (k : ℕ) (xs : List Happening) (e : ℕ) (r : Roster) → take k (events_of e xs r) ≡ events_of e (take k xs) r
take_is zero [] e r = refl
take_is zero (x ∷ xs) e r = refl
take_is (suc k) [] e r = refl
take_is (suc k) (x ∷ xs) e r = ap (λ l. event_of r x ∷ l) (take_is k xs (suc e) (after_happening e x r))

module _ (n tokens : ℕ) (boot : ℕ → ℕ) (old : List Envelope) (xs : List Course) (may : MayOpen n tokens (blank_opening boot old)) where
  abbrev opening : Opening
  opening = blank_opening boot old

  abbrev blank : Sites
  blank = blank_sites n tokens boot old

  abbrev hs : List Happening
  hs = happenings_at 0 xs blank

  abbrev first : Roster
  first = opened n tokens opening none_enrolled

  abbrev es : List Event
  es = events_of 0 hs first

  -- the cluster before an event
  before : (k : ℕ) → run 0 (take k es) first.cluster ≡ (serve 0 (happenings_at 0 (take k xs) blank) first).cluster
  before k =
      ap (λ l. run 0 l first.cluster) (take_is k hs 0 first) ∙ sym (run_is (take k hs) 0 first)
      ∙ ap (λ l. (serve 0 l first).cluster) (seats_take k xs 0 blank)

  rows : row_before n tokens opening es ≡ row_in blank xs
  rows = fun_ext (λ i. fun_ext (λ t. fun_ext (λ k.
      ap (λ (w : Cluster). row (w.nodes i).content t) (before k)
      ∙ row_same (go 0 (take k xs) blank) (serve 0 (happenings_at 0 (take k xs) blank) first) i t (start_sims n tokens boot old xs may (take k xs)))))

  accepted : acceptances n tokens opening es ≡ (go 0 xs blank).seen.own.accepted
  accepted = ap (λ (w : Cluster). w.accepted) (sym (run_is hs 0 first)) ∙ sym (seats_accepted n tokens boot old xs may)

  pub seats_have_votes : HaveVotes n (row_in blank xs) (go 0 xs blank).seen.own.accepted
  seats_have_votes =
      subst (λ f. HaveVotes n f (go 0 xs blank).seen.own.accepted) rows
      (subst (HaveVotes n (row_before n tokens opening es)) accepted (votes_hold n tokens opening es may))
