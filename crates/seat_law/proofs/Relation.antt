-- The sites are, under the names of the tokens, a roster. Each step over seats is the step over canonical names.
use Rattle.std.proofs.Common.{◌≡◌, ℕ, zero, suc, ◌+◌, ◌<◌, ◌⊎◌, inl, inr, ⊎_elim, Bool, true, false, not, cond, ◌&&◌, [], ◌∷◌, ◌++◌, length, map, Option, Some, None, refl, sym, ap, ◌∙◌, subst, arith, eqb}
use Rattle.std.specs.Prelude.{option_map}
use Rattle.std.specs.Option.{option_or}
use Rattle.std.proofs.lemmas.Bool.{cond_both, eqb-true, eqb-false, false≢true}
use Rattle.std.proofs.lemmas.Option.{none-some, same_Some}
use Rattle.floor_store.specs.Content.{Content, opening_row, with_next_boot}
use Rattle.floor_store.specs.Records.{PassRecord, ProposalRecord, RowRecord}
use Rattle.vote_core.specs.Books.{named_step, number_at, number_of, rows_of}
use Rattle.vote_core.specs.Numbers.{IsNamed, IsNamedStep, IsNamedVoter, named_pass}
use Rattle.vote_core.specs.Roster.{Roster}
use Rattle.vote_core.specs.Rows.{row}
use Rattle.vote_core.specs.Schedule.{Begun, Cluster, Member, accepted_in, began_in, cluster_after, envelope_from, has_store, is_member, is_running, place_of, stopped_member, with_member}
use Rattle.vote_core.specs.Voting.{Voted, fresh_voter, pass_in}
use Rattle.vote_core.proofs.Names.{by_test}
use Rattle.seat_law.specs.Below.{Site, site_of}
use Rattle.seat_law.specs.Seats.{Sites, free_of, row_at, stored_row, with_own}
use Rattle.seat_law.specs.Votes.{kept_row}
use Rattle.seat_law.proofs.Last.{IsBlind, relast, relasted}

-- ---- numbers and names

last : (m k : ℕ) → k < suc m → (k < m) ⊎ (k ≡ m)
last m k l = grind arith

pub number_there : (c : ℕ) (name : ℕ → ℕ) (t k : ℕ) → number_of c name t ≡ Some k → (k < c) × (name k ≡ t)
number_there zero name t k h = absurd (none-some k h)
number_there (suc c) name t k h =
    cond_both (eqb (name c) t) (Some c) (number_of c name t) (λ o. o ≡ Some k → (k < suc c) × (name k ≡ t))
    (λ q e. let is = same_Some c k e in (omega (arith, is), ap name (sym is) ∙ eqb-true (name c) t q))
    (λ _ e. let there = number_there c name t k e in (omega (arith, there.0), there.1)) h

pub number_lacks : (c : ℕ) (name : ℕ → ℕ) (t : ℕ) → number_of c name t ≡ None → (k : ℕ) → k < c → name k ≡ t → ⊥
number_lacks zero name t h k lt is = absurd (omega (arith, lt))
number_lacks (suc c) name t h k lt is =
    cond_both (eqb (name c) t) (Some c) (number_of c name t) (λ o. o ≡ None → ⊥)
    (λ _ e. none-some c (sym e))
    (λ q e. ⊎_elim (λ (l : k < c). number_lacks c name t e k l is) (λ (same : k ≡ c). eqb-false (name c) t q (ap name (sym same) ∙ is)) (last c k lt)) h

pub option_cases : {A : Type 0} (o : Option A) → (o ≡ None) ⊎ ((x : A) × (o ≡ Some x))
option_cases None = inl refl
option_cases (Some x) = inr (x, refl)

-- ---- a node under names

abbrev pub seats_of : Site → ℕ
seats_of x = length x.member.content.rows

-- the last pass that the process sees, under its name
abbrev pub named_last : Site → Option PassRecord
named_last x = option_map (named_pass x.name) x.member.content.last

-- the canonical content as the process has its last pass
abbrev pub seen_of : Site → Content → Content
seen_of x c = relast (named_last x) c

pub record NodeSim (T : ℕ) (x : Site) (canon : Member) (on : ℕ → Bool) : Type 0 where
  pub content : IsNamed x.name x.member.content (seen_of x canon.content)
  pub voter : IsNamedVoter x.name (seats_of x) x.member.voter canon.voter
  pub running : canon.running ≡ x.member.running
  pub last : canon.content.last ≡ option_or (named_last x) x.last
  pub on_is : (t : ℕ) → on t ≡ x.enrolled t
  pub seated : (k : ℕ) → k < seats_of x → x.enrolled (x.name k) ≡ true
  pub within : (t : ℕ) → x.enrolled t ≡ true → t < T
  pub away : (t : ℕ) → x.enrolled t ≡ true → number_of (seats_of x) x.name t ≡ None → row canon.content t ≡ x.aside t
  pub free : (t : ℕ) → x.enrolled t ≡ false → row canon.content t ≡ opening_row 0

pub record Sim (s : Sites) (r : Roster) : Type 0 where
  pub members : r.cluster.n ≡ s.seen.own.n
  pub lost : r.cluster.lost ≡ s.seen.own.lost
  pub least : (t : ℕ) → r.cluster.least t ≡ s.seen.own.least t
  pub sent : r.cluster.sent ≡ s.seen.own.sent
  pub begun : r.cluster.begun ≡ s.seen.own.begun
  pub accepted : r.cluster.accepted ≡ s.seen.own.accepted
  pub nodes : (i : ℕ) → NodeSim s.seen.tokens (site_of s i) (r.cluster.nodes i) (r.enrolled i)

pub store_same : {s : Sites} {r : Roster} (i : ℕ) → Sim s r → has_store r.cluster i ≡ has_store s.seen.own i
store_same {s} {r} i k = ap (λ (l : ℕ → Bool). not (l i) && is_member r.cluster.n i) k.lost ∙ ap (λ m. not (s.seen.own.lost i) && is_member m i) k.members

pub running_same : {s : Sites} {r : Roster} (i : ℕ) → Sim s r → is_running r.cluster i ≡ is_running s.seen.own i
running_same {s} {r} i k = ap (λ x. x && (r.cluster.nodes i).running) (store_same i k) ∙ ap (λ x. has_store s.seen.own i && x) (k.nodes i).running

pub place_same : {s : Sites} {r : Roster} (i : ℕ) → Sim s r → place_of r.cluster i ≡ place_of s.seen.own i
place_same {s} {r} i k = ap (λ m. record { me = i; n = m }) k.members

-- the token of a seat is enrolled
pub is_on : {s : Sites} {r : Roster} (i seat : ℕ) → Sim s r → seat < rows_of s.seen i → r.enrolled i (s.seen.name i seat) ≡ true
is_on {s} {r} i seat k within = (k.nodes i).on_is (s.seen.name i seat) ∙ (k.nodes i).seated seat within

-- the canonical row of a token is the store's
pub stored_is : {T : ℕ} {canon : Member} {on : ℕ → Bool} (s : Sites) (i t : ℕ) → NodeSim T (site_of s i) canon on → s.enrolled i t ≡ true → row canon.content t ≡ stored_row s i t
stored_is {T} {canon} {on} s i t h mine =
    ⊎_elim
    (λ (none : number_at s.seen i t ≡ None). h.away t mine none ∙ sym (ap (row_at s i t) none))
    (λ (some : (m : ℕ) × (number_at s.seen i t ≡ Some m)).
    let there = number_there (rows_of s.seen i) (s.seen.name i) t some.0 some.1 in
    ap (row canon.content) (sym there.1) ∙ h.content.rows some.0 there.0 ∙ sym (ap (row_at s i t) some.1))
    (option_cases (number_at s.seen i t))

pub free_same : (s : Sites) (r : Roster) (i t : ℕ) → Sim s r → (row (r.cluster.nodes i).content t).next ≡ free_of s i t
free_same s r i t k =
    let x = (row (r.cluster.nodes i).content t).next in
    cond_both (s.enrolled i t) (stored_row s i t).next 0 (λ m. x ≡ m)
    (λ q. ap (λ (y : RowRecord). y.next) (stored_is s i t (k.nodes i) q))
    (λ q. ap (λ (y : RowRecord). y.next) ((k.nodes i).free t q))

-- the canonical row of any token is the one that the store keeps
pub row_same : (s : Sites) (r : Roster) (i t : ℕ) → Sim s r → row (r.cluster.nodes i).content t ≡ kept_row s i t
row_same s r i t k =
    cond_both (s.enrolled i t) (stored_row s i t) (opening_row 0) (λ m. row (r.cluster.nodes i).content t ≡ m)
    (λ q. stored_is s i t (k.nodes i) q) (λ q. (k.nodes i).free t q)

-- ---- choices

pub two_sim : (s : Sites) (r : Roster) (m m' : Bool) (A B A' B' : Cluster) → m' ≡ m → (m ≡ true → Sim (with_own A s) (record r { cluster = A' })) → (m ≡ false → Sim (with_own B s) (record r { cluster = B' }))
    → Sim (with_own (cond m A B) s) (record r { cluster = cond m' A' B' })
two_sim s r true true A B A' B' e h l = h refl
two_sim s r false false A B A' B' e h l = l refl
two_sim s r true false A B A' B' e h l = absurd (false≢true e)
two_sim s r false true A B A' B' e h l = absurd (false≢true (sym e))

-- the same node with another member
abbrev pub with_process : Site → Member → Site
with_process x member = record x { member = member }

-- the nodes when the member of one changed
pub swapped : (s : Sites) (r : Roster) (i : ℕ) (x x' : Member) → Sim s r → NodeSim s.seen.tokens (with_process (site_of s i) x) x' (r.enrolled i)
    → (j : ℕ) → NodeSim s.seen.tokens (with_process (site_of s j) (cond (eqb j i) x (s.seen.own.nodes j))) (cond (eqb j i) x' (r.cluster.nodes j)) (r.enrolled j)
swapped s r i x x' k h j =
    by_test (λ (y y' : Member). NodeSim s.seen.tokens (with_process (site_of s j) y) y' (r.enrolled j)) (eqb j i) x (s.seen.own.nodes j) x' (r.cluster.nodes j)
    (λ q. subst (λ m. NodeSim s.seen.tokens (with_process (site_of s m) x) x' (r.enrolled m)) (sym (eqb-true j i q)) h) (λ _. k.nodes j)

pub member_sim : (s : Sites) (r : Roster) (i : ℕ) (x x' : Member) → Sim s r → NodeSim s.seen.tokens (with_process (site_of s i) x) x' (r.enrolled i)
    → Sim (with_own (with_member i x s.seen.own) s) (record r { cluster = with_member i x' r.cluster })
member_sim s r i x x' k h = record {
  members = k.members;
  lost = k.lost;
  least = k.least;
  sent = k.sent;
  begun = k.begun;
  accepted = k.accepted;
  nodes = swapped s r i x x' k h;
}

pub fresh_named : (name : ℕ → ℕ) (T : ℕ) → IsNamedVoter name T fresh_voter fresh_voter
fresh_named name T = record { known = λ i q at. absurd (none-some q at); pending = refl; seq = refl }

pub next_named : {name : ℕ → ℕ} {c d : Content} → IsNamed name c d → IsNamed name (with_next_boot c) (with_next_boot d)
next_named h = record { one = h.one; there = h.there; rows = h.rows; boot = ap (λ m. m + 1) h.boot; last = h.last; last_known = h.last_known }

pub stopped_node : {T : ℕ} {x : Site} {canon : Member} {on : ℕ → Bool} → NodeSim T x canon on → NodeSim T (with_process x (stopped_member x.member)) (stopped_member canon) on
stopped_node h = record {
  content = h.content;
  voter = h.voter;
  running = refl;
  last = h.last;
  on_is = h.on_is;
  seated = h.seated;
  within = h.within;
  away = h.away;
  free = h.free;
}

-- ---- a step

or_assoc : (p l m : Option PassRecord) → option_or p (option_or l m) ≡ option_or (option_or p l) m
or_assoc None l m = refl
or_assoc (Some x) l m = refl

relast_named : {name : ℕ → ℕ} {c d : Content} → IsNamed name c d → IsNamed name c (relast (option_map (named_pass name) c.last) d)
relast_named h = record { one = h.one; there = h.there; rows = h.rows; boot = h.boot; last = refl; last_known = h.last_known }

-- the token of a row of the store has no seat
abbrev pub Unseated : Site → ℕ → Type 0
Unseated x t = number_of (seats_of x) x.name t ≡ None

off_is_unseated : {T : ℕ} {x : Site} {canon : Member} {on : ℕ → Bool} (t : ℕ) → NodeSim T x canon on → x.enrolled t ≡ false → Unseated x t
off_is_unseated {T} {x} t h off =
    ⊎_elim (λ (none : number_of (seats_of x) x.name t ≡ None). none)
    (λ (some : (m : ℕ) × (number_of (seats_of x) x.name t ≡ Some m)).
    let there = number_there (seats_of x) x.name t some.0 some.1 in
    absurd (false≢true (sym off ∙ ap x.enrolled (sym there.1) ∙ h.seated some.0 there.0)))
    (option_cases (number_of (seats_of x) x.name t))

abbrev pub after_step : Voted → Member
after_step s = record { content = s.content; voter = s.voter; running = true }

step_node : {T : ℕ} {x : Site} {canon : Member} {on : ℕ → Bool} (s : Voted) (f : Content → Voted) → NodeSim T x canon on → IsBlind f
    → IsNamedStep x.name (seats_of x) s (f (seen_of x canon.content))
    → ((t : ℕ) → Unseated x t → row (f canon.content).content t ≡ row canon.content t)
    → NodeSim T (with_process x (after_step s)) (after_step (f canon.content)) on
step_node {T} {x} {canon} {on} s f k blind h frame =
    let C = canon.content in
    let c0 = seen_of x C in
    let one : f C ≡ relasted C.last (f c0) = blind c0 C.last in
    let other : f c0 ≡ relasted (named_last x) (f c0) = blind c0 (named_last x) in
    let P = pass_in (f c0).decisions in
    let now = option_map (named_pass x.name) s.content.last in
    record {
      content = subst (λ (w : Voted). IsNamed x.name s.content (relast now w.content)) (sym one) (relast_named h.content);
      voter = subst (λ (w : Voted). IsNamedVoter x.name (length s.content.rows) s.voter w.voter) (sym one) (subst (λ m. IsNamedVoter x.name m s.voter (f c0).voter) (sym h.size) h.voter);
      running = refl;
      last = ap (λ (w : Voted). w.content.last) one ∙ ap (option_or P) k.last ∙ or_assoc P (named_last x) x.last
          ∙ ap (λ o. option_or o x.last) (sym (ap (λ (w : Voted). w.content.last) other) ∙ h.content.last);
      on_is = k.on_is;
      seated = λ m lt. k.seated m (subst (λ z. m < z) h.size lt);
      within = k.within;
      away = λ t mine none.
          let unseated = subst (λ m. number_of m x.name t ≡ None) h.size none in
          frame t unseated ∙ k.away t mine unseated;
      free = λ t off. frame t (off_is_unseated t k off) ∙ k.free t off;
    }

accepted_same : (w x : Cluster) (e i : ℕ) (o : Option PassRecord) → w.begun ≡ x.begun → accepted_in w e i o ≡ accepted_in x e i o
accepted_same w x e i None h = refl
accepted_same w x e i (Some p) h =
    ap (λ (B : ProposalRecord → Option Begun). record {
      began = began_in (B (record { node = i; boot = p.boot; seq = p.seq }));
      ended = e;
      node = i;
      token = p.token;
      lo = p.lo;
      hi = p.hi;
    } ∷ []) h

pub step_sim : (s : Sites) (r : Roster) (e i : ℕ) (step : Voted) (f : Content → Voted) → Sim s r → IsBlind f
    → IsNamedStep (s.seen.name i) (rows_of s.seen i) step (f (seen_of (site_of s i) (r.cluster.nodes i).content))
    → ((t : ℕ) → Unseated (site_of s i) t → row (f (r.cluster.nodes i).content).content t ≡ row (r.cluster.nodes i).content t)
    → Sim (with_own (cluster_after e i (named_step (s.seen.name i) step) s.seen.own) s) (record r { cluster = cluster_after e i (f (r.cluster.nodes i).content) r.cluster })
unfolding cluster_after
step_sim s r e i step f k blind h frame =
    let C = (r.cluster.nodes i).content in
    let c0 = seen_of (site_of s i) C in
    let one : f C ≡ relasted C.last (f c0) = blind c0 C.last in
    let sends = ap (λ (w : Voted). w.sends) one ∙ h.sends in
    let decisions = ap (λ (w : Voted). w.decisions) one ∙ h.decisions in
    record {
      members = k.members;
      lost = k.lost;
      least = k.least;
      sent = ap (λ l. l ++ map (envelope_from i) (f C).sends) k.sent ∙ ap (λ l. s.seen.own.sent ++ map (envelope_from i) l) sends;
      begun = k.begun;
      accepted = ap (λ l. l ++ accepted_in r.cluster e i (pass_in (f C).decisions)) k.accepted
          ∙ ap (λ l. s.seen.own.accepted ++ l) (accepted_same r.cluster s.seen.own e i (pass_in (f C).decisions) k.begun ∙ ap (λ ds. accepted_in s.seen.own e i (pass_in ds)) decisions);
      nodes = swapped s r i (after_step step) (after_step (f C)) k (step_node step f (k.nodes i) blind h frame);
    }
