-- Steps over a store's own numbers are, under their names, steps over the canonical ones.
use Rattle.std.proofs.Common.{◌≡◌, ℕ, ℤ, suc, ◌+◌, ◌-◌, ◌<◌, ◌≤◌, ◌⊎◌, inl, inr, ⊎_elim, Bool, true, false, not, cond, ◌&&◌, List, [], ◌∷◌, ◌++◌, length, map, Option, Some, None, refl, sym, ap, ◌∙◌, subst, arith, eqb, leb, ltb}
use Rattle.std.specs.Prelude.{option_map}
use Rattle.std.specs.List.{filter, flat_map, slice_get}
use Rattle.std.specs.Option.{option_or}
use Rattle.std.proofs.lemmas.Bool.{cond-true, cond-false, eqb-true, eqb-false, eq-eqb, ltb-true, ltb-false, cases_Bool, cases_lt}
use Rattle.std.proofs.lemmas.Option.{none-some, same_Some}
use Rattle.floor_store.specs.Content.{Content, accepted_row, opening_row, with_row}
use Rattle.floor_store.specs.Records.{ProposalRecord, PassRecord, RowRecord, span_of}
use Rattle.otp_core.specs.Acceptance.{majority_of, size}
use Rattle.vote_core.specs.NodeSet.{PlaceRecord, others, with_node}
use Rattle.vote_core.specs.Numbers.{named_message, named_send, named_ballot, named_pass, named_made, IsNamed, IsNamedVoter, IsNamedStep, named_turn, with_new_row, HasNewRow}
use Rattle.vote_core.specs.Roster.{token_of}
use Rattle.vote_core.specs.Rows.{row, no_row, granted_row, row_with_next}
use Rattle.vote_core.specs.Voting.{Ballot, VoterState, Voted, quiet_step, reply_step, to_each, find, remove, replace, with_pending, pass_of, opening_ballot, propose_alone, propose_among, propose, is_grant, on_ask, has_answered, granted_one, of_this_boot, with_granting, accept, count_grant, on_grant, raise, denied_one, with_denying, count_deny, on_deny, on_floor, on_message, older_ballot, older_ballots, is_young, young_ballots, timeouts, asks_again, floor_sends, turn_after, tells, tell, tick, tick_telling}
use Rattle.vote_core.specs.declared.message.Message.{Message}
use Rattle.vote_core.specs.declared.message.Message.TheVariants.{Ask, Grant, Deny, Floor}
use Rattle.vote_core.specs.declared.step.Decision.TheVariants.{Accepted, Timeout}
use Rattle.vote_core.proofs.Basics.{Each, each_append, each_filter, each_get, each_map, each_weaker, get_before, get_last, length_open, put_size, row_here}
use Rattle.vote_core.proofs.Fixed.{tick_is}
use Rattle.vote_core.proofs.Frames.{only_put}
use Rattle.vote_core.proofs.Lists.{each_remove, each_replace, find_each, of_boot}

-- both of a choice by the same test
pub by_test : {A B : Type 0} (R : A → B → Type 0) (b : Bool) (x y : A) (x' y' : B) → (b ≡ true → R x x') → (b ≡ false → R y y') → R (cond b x y) (cond b x' y')
by_test R true x y x' y' h k = h refl
by_test R false x y x' y' h k = k refl

pub same_or_not : (a b : ℕ) → (a ≡ b) ⊎ (a ≡ b → ⊥)
same_or_not a b = ⊎_elim (λ (q : eqb a b ≡ true). inl (eqb-true a b q)) (λ (q : eqb a b ≡ false). inr (eqb-false a b q)) (cases_Bool (eqb a b))

pub not_eqb : (a b : ℕ) → (a ≡ b → ⊥) → eqb a b ≡ false
not_eqb a b ne = ⊎_elim (λ (q : eqb a b ≡ true). absurd (ne (eqb-true a b q))) (λ (q : eqb a b ≡ false). q) (cases_Bool (eqb a b))

pub is_below : (a b : ℕ) → a < b → ltb a b ≡ true
is_below a b lt = ⊎_elim (λ (q : ltb a b ≡ true). q) (λ (q : ltb a b ≡ false). absurd (omega (arith, lt, ltb-false a b q))) (cases_Bool (ltb a b))

is_not_below : (a b : ℕ) → b ≤ a → ltb a b ≡ false
is_not_below a b le = ⊎_elim (λ (q : ltb a b ≡ true). absurd (omega (arith, le, ltb-true a b q))) (λ (q : ltb a b ≡ false). q) (cases_Bool (ltb a b))

pub each_from : {A : Type 0} (P : A → Type 0) (xs : List A) → ((i : ℕ) (x : A) → slice_get xs i ≡ Some x → P x) → Each P xs
each_from P [] h = tt
each_from P (x ∷ xs) h = (h 0 x refl, each_from P xs (λ i. h (suc i)))

-- ---- lists

map_append : {A B : Type 0} (f : A → B) (xs ys : List A) → map f (xs ++ ys) ≡ map f xs ++ map f ys
map_append f [] ys = refl
map_append f (x ∷ xs) ys = ap (λ l. f x ∷ l) (map_append f xs ys)

to_each_named : (name : ℕ → ℕ) (m : Message) (nodes : List ℕ) → to_each (named_message name m) nodes ≡ map (named_send name) (to_each m nodes)
to_each_named name m [] = refl
to_each_named name m (i ∷ nodes) = ap (λ l. (i, named_message name m) ∷ l) (to_each_named name m nodes)

flat_named : {A A' B B' : Type 0} (f : A → List B) (f' : A' → List B') (g : A → A') (h : B → B') (xs : List A) → Each (λ x. f' (g x) ≡ map h (f x)) xs → flat_map f' (map g xs) ≡ map h (flat_map f xs)
flat_named f f' g h [] k = refl
flat_named f f' g h (x ∷ xs) k =
    ap (λ l. l ++ flat_map f' (map g xs)) k.0 ∙ ap (λ l. map h (f x) ++ l) (flat_named f f' g h xs k.1) ∙ sym (map_append h (f x) (flat_map f xs))

find_named : (name : ℕ → ℕ) (s : ℕ) (qs : List Ballot) → find s (map (named_ballot name) qs) ≡ option_map (named_ballot name) (find s qs)
find_named name s [] = refl
find_named name s (q ∷ qs) =
    by_test (λ (a b : Option Ballot). b ≡ option_map (named_ballot name) a) (eqb q.seq s) (Some q) (find s qs) (Some (named_ballot name q)) (find s (map (named_ballot name) qs))
    (λ _. refl) (λ _. find_named name s qs)

replace_named : (name : ℕ → ℕ) (new : Ballot) (qs : List Ballot) → replace (named_ballot name new) (map (named_ballot name) qs) ≡ map (named_ballot name) (replace new qs)
replace_named name new [] = refl
replace_named name new (q ∷ qs) =
    ap (λ x. x ∷ replace (named_ballot name new) (map (named_ballot name) qs))
    (by_test (λ (a b : Ballot). b ≡ named_ballot name a) (eqb q.seq new.seq) new q (named_ballot name new) (named_ballot name q) (λ _. refl) (λ _. refl))
    ∙ ap (λ l. named_ballot name (cond (eqb q.seq new.seq) new q) ∷ l) (replace_named name new qs)

filter_named : (name : ℕ → ℕ) (test : Ballot → Bool) (qs : List Ballot) → ((q : Ballot) → test (named_ballot name q) ≡ test q) → filter test (map (named_ballot name) qs) ≡ map (named_ballot name) (filter test qs)
filter_named name test [] h = refl
filter_named name test (q ∷ qs) h =
    let rest = filter test (map (named_ballot name) qs) in
    ap (λ b. cond b (named_ballot name q ∷ rest) rest) (h q)
    ∙ by_test (λ (a b : List Ballot). b ≡ map (named_ballot name) a) (test q) (q ∷ filter test qs) (filter test qs) (named_ballot name q ∷ rest) rest
    (λ _. ap (λ l. named_ballot name q ∷ l) (filter_named name test qs h)) (λ _. filter_named name test qs h)

remove_named : (name : ℕ → ℕ) (s : ℕ) (qs : List Ballot) → remove s (map (named_ballot name) qs) ≡ map (named_ballot name) (remove s qs)
remove_named name s qs = filter_named name (λ q. not (eqb q.seq s)) qs (λ _. refl)

older_named : (name : ℕ → ℕ) (qs : List Ballot) → older_ballots (map (named_ballot name) qs) ≡ map (named_ballot name) (older_ballots qs)
older_named name [] = refl
older_named name (q ∷ qs) = ap (λ l. named_ballot name (older_ballot q) ∷ l) (older_named name qs)

young_named : (name : ℕ → ℕ) (qs : List Ballot) → young_ballots (map (named_ballot name) qs) ≡ map (named_ballot name) (young_ballots qs)
young_named name qs = ap (filter is_young) (older_named name qs) ∙ filter_named name is_young (older_ballots qs) (λ _. refl)

given_up : (name : ℕ → ℕ) (qs : List Ballot) → map (λ (q : Ballot). (q.seq, Timeout)) (map (named_ballot name) qs) ≡ map (named_made name) (map (λ (q : Ballot). (q.seq, Timeout)) qs)
given_up name [] = refl
given_up name (q ∷ qs) = ap (λ l. (q.seq, Timeout) ∷ l) (given_up name qs)

timeouts_named : (name : ℕ → ℕ) (qs : List Ballot) → timeouts (map (named_ballot name) qs) ≡ map (named_made name) (timeouts qs)
timeouts_named name qs =
    let old = λ (q : Ballot). not (is_young q) in
    ap (λ l. map (λ (q : Ballot). (q.seq, Timeout)) (filter old l)) (older_named name qs)
    ∙ ap (map (λ (q : Ballot). (q.seq, Timeout))) (filter_named name old (older_ballots qs) (λ _. refl))
    ∙ given_up name (filter old (older_ballots qs))

-- ---- contents

put_last : (name : ℕ → ℕ) (p l : Option PassRecord) → option_or (option_map (named_pass name) p) (option_map (named_pass name) l) ≡ option_map (named_pass name) (option_or p l)
put_last name None l = refl
put_last name (Some p) l = refl

put_known : (m : ℕ) (p l : Option PassRecord) → ((z : PassRecord) → p ≡ Some z → z.token < m) → ((z : PassRecord) → l ≡ Some z → z.token < m) → (z : PassRecord) → option_or p l ≡ Some z → z.token < m
put_known m None l h k z e = k z e
put_known m (Some x) l h k z e = h z e

none_known : (m : ℕ) (z : PassRecord) → None ≡ Some z → z.token < m
none_known m z e = absurd (none-some z e)

one_known : (m : ℕ) (x : PassRecord) → x.token < m → (z : PassRecord) → Some x ≡ Some z → z.token < m
one_known m x h z e = subst (λ (w : PassRecord). w.token < m) (same_Some x z e) h

pub named_put : (name : ℕ → ℕ) (c d : Content) (k : ℕ) (x : RowRecord) (p p' : Option PassRecord) → IsNamed name c d → k < length c.rows → p' ≡ option_map (named_pass name) p
    → ((z : PassRecord) → p ≡ Some z → z.token < length c.rows) → IsNamed name (with_row c k x p) (with_row d (name k) x p')
named_put name c d k x p p' h within same known_one =
    let many = put_size c k x p in
    let all = put_size d (name k) x p' in
    record {
      one = λ i j a b e. h.one i j (omega (arith, a, many)) (omega (arith, b, many)) e;
      there = λ i a. let t = h.there i (omega (arith, a, many)) in omega (arith, t, all);
      rows = λ i a.
          ⊎_elim
          (λ (e : i ≡ k).
          subst (λ m. row (with_row d (name k) x p') (name m) ≡ row (with_row c k x p) m) (sym e)
          (row_here d (name k) x p' (h.there k within) ∙ sym (row_here c k x p within)))
          (λ (ne : i ≡ k → ⊥).
          only_put d (name k) x p' (name i) (λ e. ne (h.one i k (omega (arith, a, many)) within e))
          ∙ h.rows i (omega (arith, a, many)) ∙ sym (only_put c k x p i ne))
          (same_or_not i k);
      boot = h.boot;
      last = ap (λ o. option_or o d.last) same ∙ ap (option_or (option_map (named_pass name) p)) h.last ∙ put_last name p c.last;
      last_known = λ z e. let low = put_known (length c.rows) p c.last known_one h.last_known z e in omega (arith, low, many);
    }

-- floors raised, given the row
abbrev raise_as : RowRecord → ℕ → ℕ → Content → Content
raise_as x t next c = cond (ltb x.next next) (with_row c t (row_with_next next x) None) c

raise_is : (x : RowRecord) (t next : ℕ) (c : Content) → row c t ≡ x → raise t next c ≡ raise_as x t next c
unfolding raise
raise_is x t next c e = ap (λ y. raise_as y t next c) e

raise_size : (t next : ℕ) (c : Content) → length (raise t next c).rows ≡ length c.rows
raise_size t next c =
    subst (λ (y : Content). length y.rows ≡ length c.rows) (sym (raise_is (row c t) t next c refl))
    (by_test (λ (a : Content) (b : Content). length a.rows ≡ length c.rows) (ltb (row c t).next next) _ c c c (λ _. put_size c t (row_with_next next (row c t)) None) (λ _. refl))

named_raise : (name : ℕ → ℕ) (c d : Content) (k next : ℕ) → IsNamed name c d → k < length c.rows → IsNamed name (raise k next c) (raise (name k) next d)
named_raise name c d k next h within =
    subst (IsNamed name (raise k next c)) (sym (raise_is (row c k) (name k) next d (h.rows k within)))
    (subst (λ y. IsNamed name y (raise_as (row c k) (name k) next d)) (sym (raise_is (row c k) k next c refl))
    (by_test (IsNamed name) (ltb (row c k).next next) _ c _ d (λ _. named_put name c d k (row_with_next next (row c k)) None None h within refl (none_known (length c.rows))) (λ _. h)))

-- ---- steps

-- a store and its voter, under names
record Both (name : ℕ → ℕ) (T : ℕ) (c d : Content) (v v' : VoterState) : Type 0 where
  size : length c.rows ≡ T
  content : IsNamed name c d
  voter : IsNamedVoter name T v v'

known : {name : ℕ → ℕ} {T : ℕ} {v v' : VoterState} → IsNamedVoter name T v v' → Each (λ (q : Ballot). q.token < T) v.pending
known {name} {T} {v} {v'} h = each_from (λ (q : Ballot). q.token < T) v.pending h.known

voter_with : {name : ℕ → ℕ} {T : ℕ} {v v' : VoterState} (qs qs' : List Ballot) → IsNamedVoter name T v v' → Each (λ (q : Ballot). q.token < T) qs → qs' ≡ map (named_ballot name) qs → IsNamedVoter name T (with_pending qs v) (with_pending qs' v')
voter_with {name} {T} {v} {v'} qs qs' h all same = record { known = λ i q at. each_get (λ (x : Ballot). x.token < T) qs i q all at; pending = same; seq = h.seq }

replaced : {name : ℕ → ℕ} {T : ℕ} {v v' : VoterState} (q : Ballot) → IsNamedVoter name T v v' → q.token < T → IsNamedVoter name T (with_pending (replace q v.pending) v) (with_pending (replace (named_ballot name q) v'.pending) v')
replaced {name} {T} {v} {v'} q h within =
    voter_with (replace q v.pending) (replace (named_ballot name q) v'.pending) h (each_replace (λ (x : Ballot). x.token < T) q v.pending within (known h))
    (ap (replace (named_ballot name q)) h.pending ∙ replace_named name q v.pending)

removed : {name : ℕ → ℕ} {T : ℕ} {v v' : VoterState} (s : ℕ) → IsNamedVoter name T v v' → IsNamedVoter name T (with_pending (remove s v.pending) v) (with_pending (remove s v'.pending) v')
removed {name} {T} {v} {v'} s h =
    voter_with (remove s v.pending) (remove s v'.pending) h (each_remove (λ (x : Ballot). x.token < T) s v.pending (known h))
    (ap (remove s) h.pending ∙ remove_named name s v.pending)

quiet_named : {name : ℕ → ℕ} {T : ℕ} {c d : Content} {v v' : VoterState} → Both name T c d v v' → IsNamedStep name T (quiet_step c v) (quiet_step d v')
quiet_named h = record { size = h.size; content = h.content; voter = h.voter; sends = refl; begun = refl; decisions = refl }

reply_named : {name : ℕ → ℕ} {T : ℕ} {c d : Content} {v v' : VoterState} (from : ℕ) (m : Message) → Both name T c d v v' → IsNamedStep name T (reply_step from m c v) (reply_step from (named_message name m) d v')
reply_named from m h = record { size = h.size; content = h.content; voter = h.voter; sends = refl; begun = refl; decisions = refl }

put_both : {name : ℕ → ℕ} {T : ℕ} {c d : Content} {v v' : VoterState} (k : ℕ) (x : RowRecord) → Both name T c d v v' → k < length c.rows → Both name T (with_row c k x None) (with_row d (name k) x None) v v'
put_both {name} {T} {c} {d} k x h within = record { size = put_size c k x None ∙ h.size; content = named_put name c d k x None None h.content within refl (none_known (length c.rows)); voter = h.voter }

raise_both : {name : ℕ → ℕ} {T : ℕ} {c d : Content} {v v' : VoterState} (k next : ℕ) → Both name T c d v v' → k < length c.rows → Both name T (raise k next c) (raise (name k) next d) v v'
raise_both {name} {T} {c} {d} k next h within = record { size = raise_size k next c ∙ h.size; content = named_raise name c d k next h.content within; voter = h.voter }

with_voter : {name : ℕ → ℕ} {T : ℕ} {c d : Content} {v v' : VoterState} (w w' : VoterState) → Both name T c d v v' → IsNamedVoter name T w w' → Both name T c d w w'
with_voter w w' h k = record { size = h.size; content = h.content; voter = k }

-- ---- on Ask

abbrev ask_as : RowRecord → ℕ → ProposalRecord → ℕ → ℕ → ℕ → Content → VoterState → Voted
ask_as x from p t lo hi c v =
    cond (is_grant p lo hi x.grant) (reply_step from (Grant p t (span_of lo hi)) c v)
    (cond (leb x.next lo) (reply_step from (Grant p t (span_of lo hi)) (with_row c t (granted_row p lo hi x) None) v) (reply_step from (Deny p t x.next) c v))

ask_is : (x : RowRecord) (from : ℕ) (p : ProposalRecord) (t lo hi : ℕ) (c : Content) (v : VoterState) → row c t ≡ x → on_ask from p t lo hi c v ≡ ask_as x from p t lo hi c v
unfolding on_ask
ask_is x from p t lo hi c v e = ap (λ y. ask_as y from p t lo hi c v) e

ask_named : (name : ℕ → ℕ) (T from : ℕ) (p : ProposalRecord) (t lo hi : ℕ) (c d : Content) (v v' : VoterState) → Both name T c d v v' → t < length c.rows
    → IsNamedStep name T (on_ask from p t lo hi c v) (on_ask from p (name t) lo hi d v')
ask_named name T from p t lo hi c d v v' h within =
    let x = row c t in
    subst (IsNamedStep name T (on_ask from p t lo hi c v)) (sym (ask_is x from p (name t) lo hi d v' (h.content.rows t within)))
    (subst (λ s. IsNamedStep name T s (ask_as x from p (name t) lo hi d v')) (sym (ask_is x from p t lo hi c v refl))
    (by_test (IsNamedStep name T) (is_grant p lo hi x.grant) _ _ _ _
    (λ _. reply_named from (Grant p t (span_of lo hi)) h)
    (λ _. by_test (IsNamedStep name T) (leb x.next lo) _ _ _ _
    (λ _. reply_named from (Grant p t (span_of lo hi)) (put_both t (granted_row p lo hi x) h within))
    (λ _. reply_named from (Deny p t x.next) h))))

-- ---- the ballot that an answer counts for

same_test : {name : ℕ → ℕ} {c d : Content} → IsNamed name c d → (a b : ℕ) → a < length c.rows → b < length c.rows → eqb (name a) (name b) ≡ eqb a b
same_test {name} h a b x y =
    ⊎_elim (λ (q : eqb a b ≡ true). eq-eqb (name a) (name b) (ap name (eqb-true a b q)) ∙ sym q)
    (λ (q : eqb a b ≡ false). not_eqb (name a) (name b) (λ e. eqb-false a b q (h.one a b x y e)) ∙ sym q) (cases_Bool (eqb a b))

boot_named : (name : ℕ → ℕ) (T : ℕ) (p : ProposalRecord) (c d : Content) (v v' : VoterState) → Both name T c d v v' → of_this_boot d p v' ≡ option_map (named_ballot name) (of_this_boot c p v)
boot_named name T p c d v v' h =
    ap (λ b. cond (eqb p.boot b) (find p.seq v'.pending) None) h.content.boot
    ∙ ap (λ l. cond (eqb p.boot c.boot) (find p.seq l) None) h.voter.pending
    ∙ by_test (λ (a b : Option Ballot). b ≡ option_map (named_ballot name) a) (eqb p.boot c.boot) (find p.seq v.pending) None (find p.seq (map (named_ballot name) v.pending)) None
    (λ _. find_named name p.seq v.pending) (λ _. refl)

boot_known : (name : ℕ → ℕ) (T : ℕ) (p : ProposalRecord) (c d : Content) (v v' : VoterState) → Both name T c d v v' → (q : Ballot) → of_this_boot c p v ≡ Some q → q.token < T
boot_known name T p c d v v' h q is = find_each (λ (x : Ballot). x.token < T) p.seq v.pending q (known h.voter) (of_boot c p v q is).1

granted_named : (name : ℕ → ℕ) (c d : Content) (from t lo hi : ℕ) (o : Option Ballot) → IsNamed name c d → t < length c.rows → ((q : Ballot) → o ≡ Some q → q.token < length c.rows)
    → granted_one from (name t) lo hi (option_map (named_ballot name) o) ≡ option_map (named_ballot name) (granted_one from t lo hi o)
granted_named name c d from t lo hi None h within all = refl
granted_named name c d from t lo hi (Some q) h within all =
    let rest = eqb q.lo lo && (eqb q.hi hi && not (has_answered q from)) in
    ap (λ b. cond (b && rest) (Some (named_ballot name q)) None) (same_test h q.token t (all q refl) within)
    ∙ by_test (λ (a b : Option Ballot). b ≡ option_map (named_ballot name) a) (eqb q.token t && rest) (Some q) None (Some (named_ballot name q)) None (λ _. refl) (λ _. refl)

denied_named : (name : ℕ → ℕ) (c d : Content) (from t : ℕ) (o : Option Ballot) → IsNamed name c d → t < length c.rows → ((q : Ballot) → o ≡ Some q → q.token < length c.rows)
    → denied_one from (name t) (option_map (named_ballot name) o) ≡ option_map (named_ballot name) (denied_one from t o)
denied_named name c d from t None h within all = refl
denied_named name c d from t (Some q) h within all =
    let rest = not (has_answered q from) in
    ap (λ b. cond (b && rest) (Some (named_ballot name q)) None) (same_test h q.token t (all q refl) within)
    ∙ by_test (λ (a b : Option Ballot). b ≡ option_map (named_ballot name) a) (eqb q.token t && rest) (Some q) None (Some (named_ballot name q)) None (λ _. refl) (λ _. refl)

granted_some : (from t lo hi : ℕ) (o : Option Ballot) (q : Ballot) → granted_one from t lo hi o ≡ Some q → o ≡ Some q
granted_some from t lo hi None q h = absurd (none-some q h)
granted_some from t lo hi (Some x) q h =
    by_test (λ (a : Option Ballot) (b : Unit {0}). a ≡ Some q → Some x ≡ Some q) (eqb x.token t && (eqb x.lo lo && (eqb x.hi hi && not (has_answered x from)))) (Some x) None tt tt (λ _ e. e) (λ _ e. absurd (none-some q e)) h

denied_some : (from t : ℕ) (o : Option Ballot) (q : Ballot) → denied_one from t o ≡ Some q → o ≡ Some q
denied_some from t None q h = absurd (none-some q h)
denied_some from t (Some x) q h =
    by_test (λ (a : Option Ballot) (b : Unit {0}). a ≡ Some q → Some x ≡ Some q) (eqb x.token t && not (has_answered x from)) (Some x) None tt tt (λ _ e. e) (λ _ e. absurd (none-some q e)) h

-- ---- on Grant

abbrev accept_as : RowRecord → ℕ → Ballot → Content → VoterState → Voted
accept_as x b q c v = record {
  content = with_row c q.token (accepted_row q.drift x) (Some (pass_of q.token q.lo q.hi b q.seq));
  voter = with_pending (remove q.seq v.pending) v;
  sends = [];
  begun = None;
  decisions = (q.seq, Accepted (pass_of q.token q.lo q.hi b q.seq)) ∷ [];
}

accept_is : (x : RowRecord) (b : ℕ) (q : Ballot) (c : Content) (v : VoterState) → row c q.token ≡ x → c.boot ≡ b → accept q c v ≡ accept_as x b q c v
unfolding accept
accept_is x b q c v e f = ap (λ y. accept_as y c.boot q c v) e ∙ ap (λ m. accept_as x m q c v) f

accept_named : (name : ℕ → ℕ) (T : ℕ) (q : Ballot) (c d : Content) (v v' : VoterState) → Both name T c d v v' → q.token < length c.rows → IsNamedStep name T (accept q c v) (accept (named_ballot name q) d v')
accept_named name T q c d v v' h within =
    let x = row c q.token in
    let pass = pass_of q.token q.lo q.hi c.boot q.seq in
    subst (IsNamedStep name T (accept q c v)) (sym (accept_is x c.boot (named_ballot name q) d v' (h.content.rows q.token within) h.content.boot))
    (subst (λ s. IsNamedStep name T s (accept_as x c.boot (named_ballot name q) d v')) (sym (accept_is x c.boot q c v refl refl))
    (record {
      size = put_size c q.token (accepted_row q.drift x) (Some pass) ∙ h.size;
      content = named_put name c d q.token (accepted_row q.drift x) (Some pass) (Some (named_pass name pass)) h.content within refl (one_known (length c.rows) pass within);
      voter = removed q.seq h.voter;
      sends = refl;
      begun = refl;
      decisions = refl;
    }))

count_grant_named : (name : ℕ → ℕ) (T : ℕ) (place : PlaceRecord) (from : ℕ) (c d : Content) (v v' : VoterState) (o : Option Ballot) → Both name T c d v v' → ((q : Ballot) → o ≡ Some q → q.token < T)
    → IsNamedStep name T (count_grant place from c v o) (count_grant place from d v' (option_map (named_ballot name) o))
unfolding count_grant
count_grant_named name T place from c d v v' None h all = quiet_named h
count_grant_named name T place from c d v v' (Some q) h all =
    let q' = with_granting from q in
    let known_one = all q refl in
    let many = h.size in
    by_test (IsNamedStep name T) (leb (majority_of place.n) (size place.n (with_node from q.granting))) _ _ _ _
    (λ _. accept_named name T q' c d v v' h (omega (arith, known_one, many)))
    (λ _. quiet_named (with_voter _ _ h (replaced q' h.voter known_one)))

grant_named : (name : ℕ → ℕ) (T : ℕ) (place : PlaceRecord) (from : ℕ) (p : ProposalRecord) (t lo hi : ℕ) (c d : Content) (v v' : VoterState) → Both name T c d v v' → t < length c.rows
    → IsNamedStep name T (on_grant place from p t lo hi c v) (on_grant place from p (name t) lo hi d v')
unfolding on_grant
grant_named name T place from p t lo hi c d v v' h within =
    let many = h.size in
    let found = of_this_boot c p v in
    let all : (q : Ballot) → found ≡ Some q → q.token < T = boot_known name T p c d v v' h in
    subst (λ o. IsNamedStep name T (count_grant place from c v (granted_one from t lo hi found)) (count_grant place from d v' o))
    (sym (ap (granted_one from (name t) lo hi) (boot_named name T p c d v v' h)
    ∙ granted_named name c d from t lo hi found h.content within (λ q e. let low = all q e in omega (arith, low, many))))
    (count_grant_named name T place from c d v v' (granted_one from t lo hi found) h (λ q e. all q (granted_some from t lo hi found q e)))

-- ---- on Deny and on Floor

count_deny_named : (name : ℕ → ℕ) (T : ℕ) (place : PlaceRecord) (from : ℕ) (c d : Content) (v v' : VoterState) (o : Option Ballot) → Both name T c d v v' → ((q : Ballot) → o ≡ Some q → q.token < T)
    → IsNamedStep name T (count_deny place from c v o) (count_deny place from d v' (option_map (named_ballot name) o))
unfolding count_deny
count_deny_named name T place from c d v v' None h all = quiet_named h
count_deny_named name T place from c d v v' (Some q) h all =
    by_test (IsNamedStep name T) (ltb (place.n - size place.n (with_node from q.denying)) (majority_of place.n)) _ _ _ _
    (λ _. record { size = h.size; content = h.content; voter = removed q.seq h.voter; sends = refl; begun = refl; decisions = refl })
    (λ _. quiet_named (with_voter _ _ h (replaced (with_denying from q) h.voter (all q refl))))

deny_named : (name : ℕ → ℕ) (T : ℕ) (place : PlaceRecord) (from : ℕ) (p : ProposalRecord) (t next : ℕ) (c d : Content) (v v' : VoterState) → Both name T c d v v' → t < length c.rows
    → IsNamedStep name T (on_deny place from p t next c v) (on_deny place from p (name t) next d v')
unfolding on_deny
deny_named name T place from p t next c d v v' h within =
    let many = h.size in
    let found = of_this_boot c p v in
    let all : (q : Ballot) → found ≡ Some q → q.token < T = boot_known name T p c d v v' h in
    subst (λ o. IsNamedStep name T (count_deny place from (raise t next c) v (denied_one from t found)) (count_deny place from (raise (name t) next d) v' o))
    (sym (ap (denied_one from (name t)) (boot_named name T p c d v v' h)
    ∙ denied_named name c d from t found h.content within (λ q e. let low = all q e in omega (arith, low, many))))
    (count_deny_named name T place from (raise t next c) (raise (name t) next d) v v' (denied_one from t found) (raise_both t next h within) (λ q e. all q (denied_some from t found q e)))

message_named : (name : ℕ → ℕ) (T : ℕ) (place : PlaceRecord) (from : ℕ) (m : Message) (c d : Content) (v v' : VoterState) → Both name T c d v v' → token_of m < length c.rows
    → IsNamedStep name T (on_message place from m c v) (on_message place from (named_message name m) d v')
unfolding on_message on_floor
message_named name T place from (Ask p t span) c d v v' h within = ask_named name T from p t span.lo span.hi c d v v' h within
message_named name T place from (Grant p t span) c d v v' h within = grant_named name T place from p t span.lo span.hi c d v v' h within
message_named name T place from (Deny p t next) c d v v' h within = deny_named name T place from p t next c d v v' h within
message_named name T place from (Floor t next) c d v v' h within = quiet_named (raise_both t next h within)

pub heard_named : (name : ℕ → ℕ) (place : PlaceRecord) (c d : Content) (v v' : VoterState) → IsNamed name c d → IsNamedVoter name (length c.rows) v v' → (from : ℕ) (m : Message) → token_of m < length c.rows
    → IsNamedStep name (length c.rows) (on_message place from m c v) (on_message place from (named_message name m) d v')
heard_named name place c d v v' h k from m within = message_named name (length c.rows) place from m c d v v' (record { size = refl; content = h; voter = k }) within

-- ---- propose

abbrev alone_as : RowRecord → ProposalRecord → ℕ → ℕ → ℕ → ℤ → Content → VoterState → Voted
alone_as x p t lo hi drift c v = record {
  content = with_row c t (accepted_row drift (granted_row p lo hi x)) (Some (pass_of t lo hi p.boot p.seq));
  voter = record v { seq = p.seq + 1 };
  sends = [];
  begun = Some p;
  decisions = (p.seq, Accepted (pass_of t lo hi p.boot p.seq)) ∷ [];
}

abbrev among_as : PlaceRecord → RowRecord → ProposalRecord → ℕ → ℕ → ℕ → ℤ → Content → VoterState → Voted
among_as place x p t lo hi drift c v = record {
  content = with_row c t (granted_row p lo hi x) None;
  voter = record v { pending = v.pending ++ opening_ballot place p.seq t lo hi drift ∷ []; seq = p.seq + 1 };
  sends = to_each (Ask p t (span_of lo hi)) (others place);
  begun = Some p;
  decisions = [];
}

abbrev propose_as : PlaceRecord → RowRecord → ℕ → ℕ → ℕ → ℕ → ℕ → ℤ → Content → VoterState → Voted
propose_as place x boot seq t lo hi drift c v =
    cond (eqb place.n 1) (alone_as x (record { node = place.me; boot = boot; seq = seq }) t lo hi drift c v) (among_as place x (record { node = place.me; boot = boot; seq = seq }) t lo hi drift c v)

propose_is : (place : PlaceRecord) (x : RowRecord) (boot seq t lo hi : ℕ) (drift : ℤ) (c : Content) (v : VoterState) → row c t ≡ x → c.boot ≡ boot → v.seq ≡ seq
    → propose place t lo hi drift c v ≡ propose_as place x boot seq t lo hi drift c v
unfolding propose propose_alone propose_among
propose_is place x boot seq t lo hi drift c v e f g =
    ap (λ y. propose_as place y c.boot v.seq t lo hi drift c v) e ∙ ap (λ m. propose_as place x m v.seq t lo hi drift c v) f ∙ ap (λ m. propose_as place x boot m t lo hi drift c v) g

pub proposed_named : (name : ℕ → ℕ) (place : PlaceRecord) (c d : Content) (v v' : VoterState) → IsNamed name c d → IsNamedVoter name (length c.rows) v v' → (t lo hi : ℕ) (drift : ℤ) → t < length c.rows
    → IsNamedStep name (length c.rows) (propose place t lo hi drift c v) (propose place (name t) lo hi drift d v')
proposed_named name place c d v v' h k t lo hi drift within =
    let x = row c t in
    let p : ProposalRecord = record { node = place.me; boot = c.boot; seq = v.seq } in
    let pass = pass_of t lo hi c.boot v.seq in
    let T = length c.rows in
    subst (IsNamedStep name T (propose place t lo hi drift c v)) (sym (propose_is place x c.boot v.seq (name t) lo hi drift d v' (h.rows t within) h.boot k.seq))
    (subst (λ s. IsNamedStep name T s (propose_as place x c.boot v.seq (name t) lo hi drift d v')) (sym (propose_is place x c.boot v.seq t lo hi drift c v refl refl refl))
    (by_test (IsNamedStep name T) (eqb place.n 1) (alone_as x p t lo hi drift c v) (among_as place x p t lo hi drift c v) (alone_as x p (name t) lo hi drift d v') (among_as place x p (name t) lo hi drift d v')
    (λ _. record {
      size = put_size c t (accepted_row drift (granted_row p lo hi x)) (Some pass);
      content = named_put name c d t (accepted_row drift (granted_row p lo hi x)) (Some pass) (Some (named_pass name pass)) h within refl (one_known T pass within);
      voter = record { known = k.known; pending = k.pending; seq = refl };
      sends = refl;
      begun = refl;
      decisions = refl;
    })
    (λ _. record {
      size = put_size c t (granted_row p lo hi x) None;
      content = named_put name c d t (granted_row p lo hi x) None None h within refl (none_known T);
      voter = record {
        known = λ i q at. each_get (λ (y : Ballot). y.token < T) (v.pending ++ opening_ballot place v.seq t lo hi drift ∷ []) i q (each_append (λ (y : Ballot). y.token < T) v.pending _ (known k) (within, tt)) at;
        pending = ap (λ l. l ++ opening_ballot place v.seq (name t) lo hi drift ∷ []) k.pending ∙ sym (map_append (named_ballot name) v.pending (opening_ballot place v.seq t lo hi drift ∷ []));
        seq = refl;
      };
      sends = to_each_named name (Ask p t (span_of lo hi)) (others place);
      begun = refl;
      decisions = refl;
    })))

-- ---- tick

floors_named : (name : ℕ → ℕ) (place : PlaceRecord) (c d : Content) (t : ℕ) → IsNamed name c d → t < length c.rows → floor_sends place d (name t) ≡ map (named_send name) (floor_sends place c t)
floors_named name place c d t h within =
    cond-true (ltb (name t) (length d.rows)) (to_each (Floor (name t) (row d (name t)).next) (others place)) [] (is_below (name t) (length d.rows) (h.there t within))
    ∙ ap (λ (x : RowRecord). to_each (Floor (name t) x.next) (others place)) (h.rows t within)
    ∙ to_each_named name (Floor t (row c t).next) (others place)
    ∙ ap (map (named_send name)) (sym (cond-true (ltb t (length c.rows)) (to_each (Floor t (row c t).next) (others place)) [] (is_below t (length c.rows) within)))

telling_named : (name : ℕ → ℕ) (place : PlaceRecord) (told : List ℕ) (c d : Content) (v v' : VoterState) → IsNamed name c d → IsNamedVoter name (length c.rows) v v' → Each (λ t. t < length c.rows) told
    → IsNamedStep name (length c.rows) (tick_telling place told c v) (tick_telling place (map name told) d v')
unfolding tick_telling
telling_named name place told c d v v' h k all =
    let T = length c.rows in
    let young = young_ballots v.pending in
    let pending : young_ballots v'.pending ≡ map (named_ballot name) young = ap young_ballots k.pending ∙ young_named name v.pending in
    let still : Each (λ (q : Ballot). q.token < T) young = each_filter (λ (q : Ballot). q.token < T) is_young (older_ballots v.pending) (each_map (λ (q : Ballot). q.token < T) older_ballot v.pending (known k)) in
    record {
      size = refl;
      content = h;
      voter = record { known = λ i q at. each_get (λ (x : Ballot). x.token < T) young i q still at; pending = pending; seq = k.seq };
      sends = ap (λ b. flat_map (asks_again place b) (young_ballots v'.pending) ++ tells place d (map name told)) h.boot
          ∙ ap (λ l. flat_map (asks_again place c.boot) l ++ tells place d (map name told)) pending
          ∙ ap (λ l. l ++ tells place d (map name told))
          (flat_named (asks_again place c.boot) (asks_again place c.boot) (named_ballot name) (named_send name) young
          (each_weaker (λ (q : Ballot). q.token < T) (λ (q : Ballot). asks_again place c.boot (named_ballot name q) ≡ map (named_send name) (asks_again place c.boot q))
          (λ q _. to_each_named name (Ask (record { node = place.me; boot = c.boot; seq = q.seq }) q.token (span_of q.lo q.hi)) (filter (λ node. not (has_answered q node)) (others place))) young still))
          ∙ ap (λ l. map (named_send name) (flat_map (asks_again place c.boot) young) ++ l)
          (flat_named (floor_sends place c) (floor_sends place d) name (named_send name) told
          (each_weaker (λ t. t < T) (λ t. floor_sends place d (name t) ≡ map (named_send name) (floor_sends place c t)) (λ t. floors_named name place c d t h) told all))
          ∙ sym (map_append (named_send name) (flat_map (asks_again place c.boot) young) (tells place c told));
      begun = refl;
      decisions = ap timeouts k.pending ∙ timeouts_named name v.pending;
    }

pub told_named : (name : ℕ → ℕ) (place : PlaceRecord) (told : List ℕ) (c d : Content) (v v' : VoterState) → IsNamed name c d → IsNamedVoter name (length c.rows) v v' → ((i t : ℕ) → slice_get told i ≡ Some t → t < length c.rows)
    → IsNamedStep name (length c.rows) (tell place told c v) (tell place (map name told) d v')
unfolding tell
told_named name place told c d v v' h k all =
    let T = length c.rows in
    record {
      size = refl;
      content = h;
      voter = k;
      sends = flat_named (floor_sends place c) (floor_sends place d) name (named_send name) told
          (each_weaker (λ t. t < T) (λ t. floor_sends place d (name t) ≡ map (named_send name) (floor_sends place c t)) (λ t. floors_named name place c d t h) told (each_from (λ t. t < T) told all));
      begun = refl;
      decisions = refl;
    }

-- a tick whose turn has no token tells none
tick_none : (place : PlaceRecord) (c : Content) (v : VoterState) → length c.rows ≤ v.turn → tick_telling place (v.turn ∷ []) c v ≡ tick_telling place [] c v
unfolding tick_telling
tick_none place c v le =
    ap (λ sends. record {
      content = c;
      voter = record v { pending = young_ballots v.pending; turn = turn_after c v.turn };
      sends = flat_map (asks_again place c.boot) (young_ballots v.pending) ++ (sends ++ []);
      begun = None;
      decisions = timeouts v.pending;
    }) (cond-false (ltb v.turn (length c.rows)) (to_each (Floor v.turn (row c v.turn).next) (others place)) [] (is_not_below v.turn (length c.rows) le))

pub ticked_named : (name : ℕ → ℕ) (place : PlaceRecord) (c d : Content) (v v' : VoterState) → IsNamed name c d → IsNamedVoter name (length c.rows) v v'
    → IsNamedStep name (length c.rows) (tick place c v) (tick_telling place (named_turn name c v) d v')
ticked_named name place c d v v' h k =
    let T = length c.rows in
    ⊎_elim
    (λ (lt : v.turn < T).
    subst (λ told. IsNamedStep name T (tick place c v) (tick_telling place told d v')) (sym (cond-true (ltb v.turn T) (name v.turn ∷ []) [] (is_below v.turn T lt)))
    (subst (λ s. IsNamedStep name T s (tick_telling place (name v.turn ∷ []) d v')) (sym (tick_is place c v))
    (telling_named name place (v.turn ∷ []) c d v v' h k (lt, tt))))
    (λ (ge : T ≤ v.turn).
    subst (λ told. IsNamedStep name T (tick place c v) (tick_telling place told d v')) (sym (cond-false (ltb v.turn T) (name v.turn ∷ []) [] (is_not_below v.turn T ge)))
    (subst (λ s. IsNamedStep name T s (tick_telling place [] d v')) (sym (tick_is place c v ∙ tick_none place c v ge))
    (telling_named name place [] c d v v' h k tt)))
    (cases_lt v.turn T)

-- ---- one row more

pub enrolled_named : (name : ℕ → ℕ) (floor : ℕ) (c d new : Content) → IsNamed name c d → HasNewRow name floor c d new → IsNamed name (with_new_row floor c) new
enrolled_named name floor c d new h n =
    let T = length c.rows in
    let many = length_open c.rows (opening_row floor) in
    record {
      one = λ i j a b e.
          ⊎_elim
          (λ (x : i < T). ⊎_elim (λ (y : j < T). h.one i j x y e) (λ (y : j ≡ T). absurd (n.apart i x (e ∙ ap name y))) (last T j (omega (arith, b, many))))
          (λ (x : i ≡ T). ⊎_elim (λ (y : j < T). absurd (n.apart j y (sym e ∙ ap name x))) (λ (y : j ≡ T). x ∙ sym y) (last T j (omega (arith, b, many))))
          (last T i (omega (arith, a, many)));
      there = λ k a.
          ⊎_elim (λ (x : k < T). let t = h.there k x in let s = n.size in omega (arith, t, s)) (λ (x : k ≡ T). subst (λ m. name m < length new.rows) (sym x) n.there) (last T k (omega (arith, a, many)));
      rows = λ k a.
          ⊎_elim (λ (x : k < T). n.rest k x ∙ h.rows k x ∙ sym (get_before c.rows (opening_row floor ∷ []) k no_row x))
          (λ (x : k ≡ T). ap (λ m. row new (name m)) x ∙ n.row_is ∙ sym (get_last c.rows (opening_row floor) no_row k x))
          (last T k (omega (arith, a, many)));
      boot = n.boot ∙ h.boot;
      last = n.last ∙ h.last;
      last_known = λ z e. let low = h.last_known z e in omega (arith, low, many);
    }
  where
    last : (m k : ℕ) → k < suc m → (k < m) ⊎ (k ≡ m)
    last m k l = grind arith
