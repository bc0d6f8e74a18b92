-- The OK of each acceptance is among the answers that steps made, unless its process ended inside the step.
use Rattle.std.proofs.Common.{◌≡◌, ℕ, zero, suc, true, false, List, [], ◌∷◌, ◌++◌, map, Option, Some, None, refl, sym, ap, subst}
use Rattle.std.specs.List.{slice_get}
use Rattle.std.proofs.lemmas.Option.{none-some, same_Some}
use Rattle.floor_store.specs.Records.{PassRecord, ProposalRecord}
use Rattle.otp_core.specs.Acceptance.{Acceptance}
use Rattle.vote_core.specs.Schedule.{Begun, began_in}
use Rattle.vote_core.proofs.Basics.{Each, each_weaker}
use Rattle.oath_node.specs.Machine.{Reply}
use Rattle.cluster_sim.specs.Answered.{IsAnsweredIn}
use Rattle.cluster_sim.specs.World.{Act, Answer, WorldEvent, Happens, Cut, Restart, Lost, Anew, acceptance_in, told_reply}
use Rattle.cluster_sim.proofs.Owners.{get_more}
use Rattle.cluster_sim.proofs.Tells.{Replied, named}

-- each acceptance of the notes has its OK among the answers
abbrev pub AreOwed : List WorldEvent → List Answer → List Acceptance → Type 0
AreOwed events told passes = Each (λ (p : Acceptance). IsAnsweredIn events told p (slice_get events p.ended)) passes

owed_later : (events : List WorldEvent) (told more : List Answer) (p : Acceptance) (o : Option WorldEvent) → IsAnsweredIn events told p o → IsAnsweredIn events (told ++ more) p o
owed_later events told more p None h = h
owed_later events told more p (Some (Happens a)) h = record {
  place = h.place;
  answer = h.answer;
  is_told = get_more told more h.place h.answer h.is_told;
  event = h.event;
  node = h.node;
  line = h.line;
  nonce = h.nonce;
  asked = h.asked;
  bytes = h.bytes;
}
owed_later events told more p (Some (Cut true a)) h = h
owed_later events told more p (Some (Cut false a)) h = h
owed_later events told more p (Some (Restart i)) h = h
owed_later events told more p (Some (Lost i)) h = h
owed_later events told more p (Some (Anew i boot floors)) h = h

-- with further answers
pub all_owed_later : (events : List WorldEvent) (told more : List Answer) (passes : List Acceptance) → AreOwed events told passes → AreOwed events (told ++ more) passes
all_owed_later events told more passes h =
    each_weaker (λ (p : Acceptance). IsAnsweredIn events told p (slice_get events p.ended)) (λ (p : Acceptance). IsAnsweredIn events (told ++ more) p (slice_get events p.ended))
    (λ p f. owed_later events told more p (slice_get events p.ended) f) passes h

get_far : {A : Type 0} (xs ys : List A) (k : ℕ) (y : A) → slice_get ys k ≡ Some y → (m : ℕ) × (slice_get (xs ++ ys) m ≡ Some y)
get_far [] ys k y h = (k, h)
get_far (x ∷ xs) ys k y h = let r = get_far xs ys k y h in (suc r.0, r.1)

get_map : {A B : Type 0} (f : A → B) (xs : List A) (k : ℕ) (x : A) → slice_get xs k ≡ Some x → slice_get (map f xs) k ≡ Some (f x)
get_map f [] k x h = absurd (none-some x h)
get_map f (y ∷ xs) zero x h = ap (λ z. Some (f z)) (same_Some y x h)
get_map f (y ∷ xs) (suc k) x h = get_map f xs k x h

-- the acceptance of a step that its process finished
pub new_owed : (events : List WorldEvent) (e i : ℕ) (begun : ProposalRecord → Option Begun) (told : List Answer) (replies : List Reply) (a : Act) → slice_get events e ≡ Some (Happens a)
    → (pass : Option PassRecord) → Replied events i begun pass replies → AreOwed events (told ++ map (told_reply e i) replies) (acceptance_in begun e i pass)
new_owed events e i begun told replies a at None r = tt
new_owed events e i begun told replies a at (Some p) r =
    let there = get_far told (map (told_reply e i) replies) r.place (told_reply e i r.reply) (get_map (told_reply e i) replies r.place r.reply r.is_reply) in
    let one : Acceptance = record { began = began_in (begun (named i p.boot p.seq)); ended = e; node = i; token = p.token; lo = p.lo; hi = p.hi } in (
      subst (λ o. IsAnsweredIn events (told ++ map (told_reply e i) replies) one o) (sym at)
          (record {
            place = there.0;
            answer = told_reply e i r.reply;
            is_told = there.1;
            event = refl;
            node = refl;
            line = r.line;
            nonce = r.nonce;
            asked = r.asked;
            bytes = r.bytes;
          }),
      tt,
    )

-- a stop inside the step owes no answer
pub stop_owes : (events : List WorldEvent) (e i : ℕ) (begun : ProposalRecord → Option Begun) (told : List Answer) (a : Act) → slice_get events e ≡ Some (Cut true a) → (pass : Option PassRecord)
    → AreOwed events told (acceptance_in begun e i pass)
stop_owes events e i begun told a at None = tt
stop_owes events e i begun told a at (Some p) =
    (subst (λ o. IsAnsweredIn events told (record { began = began_in (begun (named i p.boot p.seq)); ended = e; node = i; token = p.token; lo = p.lo; hi = p.hi }) o) (sym at) tt, tt)
