-- The event of the last start of a proposal, sought from the newest start back.
use Rattle.std.proofs.Common.{◌≡◌, ℕ, suc, ◌-◌, ◌<◌, ◌≤◌, cond, List, [], ◌∷◌, ◌++◌, length, take, get_or, true, false, refl, sym, ap, ◌∙◌, arith}
use Rattle.std.proofs.Math.Seq.{take-suc, take-length}
use Rattle.std.proofs.lemmas.Bool.{cond-true, cond-false}
use Rattle.floor_store.specs.Records.{ProposalRecord}
use Rattle.vote_core.specs.Voting.{same_proposal}
use Rattle.cluster_sim.specs.Journal.{StartRecord, start_event, start_event_from}

pub one_more : (began : ℕ) (starts : List StartRecord) (s : StartRecord) (p : ProposalRecord) → start_event_from began (starts ++ s ∷ []) p ≡ cond (same_proposal p s.proposal) s.event (start_event_from began starts p)
one_more began [] s p = refl
one_more began (x ∷ starts) s p = one_more (cond (same_proposal p x.proposal) x.event began) starts s p

-- the starts up to number `k`
up_to : (starts : List StartRecord) (k : ℕ) (d : StartRecord) (p : ProposalRecord) → k < length starts
    → start_event (take (suc k) starts) p ≡ cond (same_proposal p (get_or starts k d).proposal) (get_or starts k d).event (start_event (take k starts) p)
up_to starts k d p h = ap (λ l. start_event l p) (take-suc starts k d h) ∙ one_more 0 (take k starts) (get_or starts k d) p

-- the starts before a place lead to the same
abbrev pub LeadsOn : List StartRecord → ProposalRecord → ℕ → Type 0
LeadsOn starts p k = start_event (take k starts) p ≡ start_event starts p

pub all_lead : (starts : List StartRecord) (p : ProposalRecord) → LeadsOn starts p (length starts)
all_lead starts p = ap (λ l. start_event l p) (take-length starts)

back : (place : ℕ) → 0 < place → suc (place - 1) ≡ place
back place h = omega (arith, h)

pub found_start : (starts : List StartRecord) (p : ProposalRecord) (place : ℕ) (d : StartRecord) → 0 < place → place ≤ length starts → LeadsOn starts p place
    → same_proposal p (get_or starts (place - 1) d).proposal ≡ true → (get_or starts (place - 1) d).event ≡ start_event starts p
found_start starts p place d some within leads same =
    sym (sym leads ∙ ap (λ k. start_event (take k starts) p) (sym (back place some)) ∙ up_to starts (place - 1) d p (omega (arith, some, within)) ∙ cond-true _ _ _ same)

pub other_start : (starts : List StartRecord) (p : ProposalRecord) (place : ℕ) (d : StartRecord) → 0 < place → place ≤ length starts → LeadsOn starts p place
    → same_proposal p (get_or starts (place - 1) d).proposal ≡ false → LeadsOn starts p (place - 1)
other_start starts p place d some within leads other =
    sym (sym leads ∙ ap (λ k. start_event (take k starts) p) (sym (back place some)) ∙ up_to starts (place - 1) d p (omega (arith, some, within)) ∙ cond-false _ _ _ other)

pub no_start : (starts : List StartRecord) (p : ProposalRecord) (place : ℕ) → place ≤ 0 → LeadsOn starts p place → 0 ≡ start_event starts p
no_start starts p place none leads = ap (λ k. start_event (take k starts) p) (zero_is place none) ∙ leads
  where
    zero_is : (place : ℕ) → place ≤ 0 → 0 ≡ place
    zero_is place h = omega (arith, h)
