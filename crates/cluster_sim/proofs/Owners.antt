-- Lists of owners and kept answers.
use Rattle.std.proofs.Common.{◌≡◌, ℕ, zero, suc, ◌-◌, List, [], ◌∷◌, ◌++◌, Bool, true, false, cond, ◌||◌, length, drop, Option, Some, None, refl, sym, ap, ◌∙◌, subst, eqb}
use Rattle.std.specs.List.{filter, slice_get}
use Rattle.std.specs.Option.{option_or}
use Rattle.std.specs.Str.{bytes_eq}
use Rattle.std.proofs.lemmas.Bool.{cond_both, cond-true, eqb-true, eq-eqb, and_parts}
use Rattle.std.proofs.lemmas.Option.{same_Some, none-some}
use Rattle.std.proofs.lemmas.Slice.Eq.{bytes_eq-Decides}
use Rattle.vote_core.specs.Voting.{Ballot}
use Rattle.vote_core.proofs.Basics.{Each, each_append, each_weaker}
use Rattle.answer_ring.specs.Answers.{KeptAnswer, kept_with, kept_answer, is_answer_to}
use Rattle.oath_node.specs.Machine.{kept_with_all}
use Rattle.oath_node.specs.Machine.{Owner, owner_with, is_pending}

-- ---- lists

pub get_more : {A : Type 0} (xs ys : List A) (k : ℕ) (x : A) → slice_get xs k ≡ Some x → slice_get (xs ++ ys) k ≡ Some x
get_more [] ys k x h = absurd (none-some x h)
get_more (y ∷ xs) ys zero x h = h
get_more (y ∷ xs) ys (suc k) x h = get_more xs ys k x h

pub get_new : {A : Type 0} (xs : List A) (y : A) (ys : List A) → slice_get (xs ++ y ∷ ys) (length xs) ≡ Some y
get_new [] y ys = refl
get_new (x ∷ xs) y ys = get_new xs y ys

each_drop : {A : Type 0} (P : A → Type 0) (k : ℕ) (xs : List A) → Each P xs → Each P (drop k xs)
each_drop P zero xs h = h
each_drop P (suc k) [] h = h
each_drop P (suc k) (x ∷ xs) h = each_drop P k xs h.1

pub each_kept : (P : KeptAnswer → Type 0) (kept : List KeptAnswer) (a : KeptAnswer) → Each P kept → P a → Each P (kept_with kept a)
each_kept P kept a h new = each_drop P (length (kept ++ a ∷ []) - 1024) (kept ++ a ∷ []) (each_append P kept (a ∷ []) h (new, tt))

pub each_kept_all : (P : KeptAnswer → Type 0) (kept more : List KeptAnswer) → Each P kept → Each P more → Each P (kept_with_all kept more)
each_kept_all P kept [] h new = h
each_kept_all P kept (a ∷ more) h new = each_kept_all P (kept_with kept a) more (each_kept P kept a h new.0) new.1

-- what holds of each kept answer holds of the one that is found
same_text : (Q : ℕ → List ℕ → List ℕ → Type 0) (a : KeptAnswer) (client : ℕ) (line text : List ℕ) → Q a.client a.line a.text
    → (b : Bool) → is_answer_to client line a ≡ b → (if_so : Option (List ℕ)) → if_so ≡ cond b (Some a.text) None → if_so ≡ Some text → Q client line text
same_text Q a client line text h true is o here e =
    let parts = and_parts (eqb a.client client) (bytes_eq a.line line) is in
    let one : a.text ≡ text = same_Some a.text text (sym here ∙ e) in
    subst (λ m. Q client line m) one
    (subst (λ m. Q client m a.text) ((bytes_eq-Decides a.line line).0 parts.1) (subst (λ m. Q m a.line a.text) (eqb-true a.client client parts.0) h))
same_text Q a client line text h false is o here e = absurd (none-some text (sym here ∙ e))

found_newest : (Q : ℕ → List ℕ → List ℕ → Type 0) (a : KeptAnswer) (client : ℕ) (line text : List ℕ) → Q a.client a.line a.text
    → (newer : Option (List ℕ)) → (newer ≡ Some text → Q client line text)
    → option_or newer (cond (is_answer_to client line a) (Some a.text) None) ≡ Some text → Q client line text
found_newest Q a client line text h (Some t) from e = from e
found_newest Q a client line text h None from e =
    same_text Q a client line text h (is_answer_to client line a) refl (cond (is_answer_to client line a) (Some a.text) None) refl e

pub found_kept : (Q : ℕ → List ℕ → List ℕ → Type 0) (kept : List KeptAnswer) (client : ℕ) (line text : List ℕ)
    → Each (λ (a : KeptAnswer). Q a.client a.line a.text) kept → kept_answer kept client line ≡ Some text → Q client line text
found_kept Q [] client line text h e = absurd (none-some text e)
found_kept Q (a ∷ newer) client line text h e =
    found_newest Q a client line text h.0 (kept_answer newer client line) (λ f. found_kept Q newer client line text h.1 f) e

-- ---- owners

abbrev pub IsOwned : Option Owner → Type 0
IsOwned None = ⊥
IsOwned (Some o) = Unit {0}

-- a pending number has its owner
abbrev pub HasOwner : List Owner → ℕ → Type 0
HasOwner owners seq = IsOwned (owner_with seq owners)

owner_filtered : (f : ℕ → Bool) (owners : List Owner) (s : ℕ) → f s ≡ true → owner_with s (filter (λ (o : Owner). f o.seq) owners) ≡ owner_with s owners
owner_filtered f [] s h = refl
owner_filtered f (o ∷ owners) s h =
    let rest = owner_filtered f owners s h in
    let kept = filter (λ (x : Owner). f x.seq) owners in
    cond_both (f o.seq) (o ∷ kept) kept (λ l. owner_with s l ≡ cond (eqb o.seq s) (Some o) (owner_with s owners))
    (λ _. ap (λ x. cond (eqb o.seq s) (Some o) x) rest)
    (λ out. rest ∙ cond_both (eqb o.seq s) (Some o) (owner_with s owners) (λ x. owner_with s owners ≡ x)
    (λ q. absurd (differ (f o.seq) out (ap f (eqb-true o.seq s q) ∙ h))) (λ _. refl))
  where
    differ : (b : Bool) → b ≡ false → b ≡ true → ⊥
    differ true p q = cc
    differ false p q = cc

or_right : (b : Bool) → (b || true) ≡ true
or_right true = refl
or_right false = refl

-- each of a part is pending in the whole
part_pending : (all part : List Ballot) → ((s : ℕ) → is_pending part s ≡ true → is_pending all s ≡ true) → Each (λ (q : Ballot). is_pending all q.seq ≡ true) part
part_pending all [] h = tt
part_pending all (q ∷ part) h = (
  h q.seq (ap (λ b. b || is_pending part q.seq) (eq-eqb q.seq q.seq refl)),
  part_pending all part (λ s e. h s (ap (λ b. eqb q.seq s || b) e ∙ or_right (eqb q.seq s))),
)

each_pair : {A : Type 0} (P Q : A → Type 0) (xs : List A) → Each P xs → Each Q xs → Each (λ x. P x × Q x) xs
each_pair P Q [] h k = tt
each_pair P Q (x ∷ xs) h k = ((h.0, k.0), each_pair P Q xs h.1 k.1)

-- the owners of what is pending are enough
pub still_owned : (owners : List Owner) (pending : List Ballot) → Each (λ (q : Ballot). HasOwner owners q.seq) pending
    → Each (λ (q : Ballot). HasOwner (filter (λ (o : Owner). is_pending pending o.seq) owners) q.seq) pending
still_owned owners pending h =
    each_weaker (λ (q : Ballot). HasOwner owners q.seq × (is_pending pending q.seq ≡ true)) (λ (q : Ballot). HasOwner (filter (λ (o : Owner). is_pending pending o.seq) owners) q.seq)
    (λ q w. subst IsOwned (sym (owner_filtered (λ s. is_pending pending s) owners q.seq w.1)) w.0) pending
    (each_pair (λ (q : Ballot). HasOwner owners q.seq) (λ (q : Ballot). is_pending pending q.seq ≡ true) pending h (part_pending pending pending (λ s e. e)))

-- one owner more at the end
pub owner_more : (owners : List Owner) (o : Owner) (s : ℕ) → HasOwner owners s → HasOwner (owners ++ o ∷ []) s
owner_more [] o s h = absurd h
owner_more (x ∷ owners) o s h = go (eqb x.seq s) (λ k. owner_more owners o s k) h
  where
    go : (b : Bool) → (HasOwner owners s → HasOwner (owners ++ o ∷ []) s) → IsOwned (cond b (Some x) (owner_with s owners)) → IsOwned (cond b (Some x) (owner_with s (owners ++ o ∷ [])))
    go true more k = tt
    go false more k = more k

pub owner_new : (owners : List Owner) (o : Owner) → HasOwner (owners ++ o ∷ []) o.seq
owner_new [] o = subst IsOwned (sym (cond-true (eqb o.seq o.seq) (Some o) None (eq-eqb o.seq o.seq refl))) tt
owner_new (x ∷ owners) o = go (eqb x.seq o.seq) (owner_new owners o)
  where
    go : (b : Bool) → HasOwner (owners ++ o ∷ []) o.seq → IsOwned (cond b (Some x) (owner_with o.seq (owners ++ o ∷ [])))
    go true k = tt
    go false k = k

-- the owner that is found is one of them, with that number
pub record IsFoundOwner (P : Owner → Type 0) (seq : ℕ) (o : Owner) : Type 0 where
  pub has : P o
  pub number : o.seq ≡ seq

abbrev FoundOwner : (Owner → Type 0) → ℕ → Option Owner → Type 0
FoundOwner P seq None = Unit {0}
FoundOwner P seq (Some o) = IsFoundOwner P seq o

found_owner : (P : Owner → Type 0) (owners : List Owner) (seq : ℕ) → Each P owners → FoundOwner P seq (owner_with seq owners)
found_owner P [] seq h = tt
found_owner P (o ∷ owners) seq h =
    cond_both (eqb o.seq seq) (Some o) (owner_with seq owners) (λ x. FoundOwner P seq x)
    (λ q. record { has = h.0; number = eqb-true o.seq seq q }) (λ _. found_owner P owners seq h.1)

pub owner_found : (P : Owner → Type 0) (owners : List Owner) (seq : ℕ) (o : Owner) → Each P owners → owner_with seq owners ≡ Some o → IsFoundOwner P seq o
owner_found P owners seq o h e = subst (λ x. FoundOwner P seq x) e (found_owner P owners seq h)
