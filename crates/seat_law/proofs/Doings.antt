-- Each action over seats is its action of the roster.
use Rattle.std.proofs.Common.{◌≡◌, ℕ, ℤ, zero, suc, ◌+◌, ◌^◌, ◌<◌, ◌≤◌, ⊎_elim, Bool, true, false, not, cond, ◌&&◌, ◌||◌, List, [], ◌∷◌, length, map, Option, Some, None, refl, sym, ap, ◌∙◌, subst, arith, eqb, leb, ltb}
use Rattle.std.specs.List.{filter, slice_get}
use Rattle.std.proofs.lemmas.Bool.{cond_both, cond-true, cond-false, eqb-true, eq-eqb, ltb-true, leb-false, and_parts, and_from, not-true, cases_Bool, false≢true}
use Rattle.std.proofs.lemmas.Option.{none-some}
use Rattle.otp_core.specs.Gate.{GateRecord}
use Rattle.floor_store.specs.Content.{Content, opening_row, with_row}
use Rattle.floor_store.specs.Records.{RowRecord}
use Rattle.vote_core.specs.Books.{Doing, Begins, Gets, Turns, Speaks, Shuts, Adds, Waits, after_beginning, after_getting, after_number, doer_of, is_number, known_numbers, number_at, numbered_message, rows_of}
use Rattle.vote_core.specs.Numbers.{IsNamed, IsNamedStep, IsNamedVoter, named_ballot, named_message, named_turn}
use Rattle.vote_core.specs.Roster.{Roster, Deed, Enrols, Hears, Proposes, Rests, Throttles, act_of, act_of_hearing, enrolled_by, is_new, token_of, with_tokens}
use Rattle.vote_core.specs.Rows.{row, row_with_gate}
use Rattle.vote_core.specs.Schedule.{Act, Begin, Begun, Cluster, Deliver, Envelope, Idle, Member, Raise, Tell, Throttle, TickTelling, after_act, after_delivery, after_proposal, cluster_after, content_with_gate, has_store, is_running, may_begin, node_of, place_of, raised_member, receiver_of, stopped_member, with_begun, with_member, with_proposal_begun}
use Rattle.vote_core.specs.Voting.{Voted, VoterState, on_message, propose, quiet_step, raise, raise_all, tell, tick, tick_telling}
use Rattle.vote_core.specs.declared.message.Message.{Message}
use Rattle.vote_core.specs.declared.message.Message.TheVariants.{Ask, Deny, Floor, Grant}
use Rattle.vote_core.proofs.Basics.{each_get, each_passes, put_size}
use Rattle.vote_core.proofs.Envelopes.{Posts}
use Rattle.vote_core.proofs.Frames.{only_message, only_propose, only_put, raise_none, raise_row, raised_row}
use Rattle.vote_core.proofs.Names.{heard_named, is_below, named_put, not_eqb, proposed_named, same_or_not, ticked_named, told_named}
use Rattle.vote_core.proofs.Rows.{raise_all_boot, raise_all_size}
use Rattle.vote_core.proofs.Unknown.{bound_raised}
use Rattle.seat_law.specs.Below.{Site, site_of}
use Rattle.seat_law.specs.Seats.{Sites, after_doing, deed_at, deed_of_hearing, may_add, with_opening, with_own, with_rows}
use Rattle.seat_law.proofs.Last.{blind_gate, blind_message, blind_propose, blind_tell, blind_tick}
use Rattle.seat_law.proofs.Relation.{NodeSim, Sim, Unseated, is_on, member_sim, number_lacks, number_there, place_same, running_same, seen_of, step_sim, stopped_node, store_same, two_sim}

-- ---- a proposal

begun_sim : (s : Sites) (r : Roster) (e i t lo hi : ℕ) → Sim s r → Sim (with_own (with_proposal_begun e i t lo hi s.seen.own) s) (record r { cluster = with_proposal_begun e i t lo hi r.cluster })
unfolding with_proposal_begun
begun_sim s r e i t lo hi k =
    let d : Begun = record { token = t; lo = lo; hi = hi; event = e } in
    let h = k.nodes i in
    let x = s.seen.own.nodes i in
    record {
      members = k.members;
      lost = k.lost;
      least = k.least;
      sent = k.sent;
      accepted = k.accepted;
      nodes = k.nodes;
      begun = ap (λ m. with_begun (record { node = i; boot = m; seq = (r.cluster.nodes i).voter.seq }) d r.cluster.begun) h.content.boot
          ∙ ap (λ m. with_begun (record { node = i; boot = x.content.boot; seq = m }) d r.cluster.begun) h.voter.seq
          ∙ ap (λ B. with_begun (record { node = i; boot = x.content.boot; seq = x.voter.seq }) d B) k.begun;
    }

and_same : (a a' b b' : Bool) → a' ≡ a → b' ≡ b → (a' && b') ≡ (a && b)
and_same a a' b b' h k = ap (λ x. x && b') h ∙ ap (λ x. a && x) k

length_map : {A B : Type 0} (f : A → B) (xs : List A) → length (map f xs) ≡ length xs
length_map f [] = refl
length_map f (x ∷ xs) = ap suc (length_map f xs)

may_same : (s : Sites) (r : Roster) (i seat lo hi : ℕ) → Sim s r → seat < rows_of s.seen i → may_begin r.cluster i (s.seen.name i seat) lo hi ≡ may_begin s.seen.own i seat lo hi
may_same s r i seat lo hi k within =
    let h = k.nodes i in
    let name = s.seen.name i in
    let c = (s.seen.own.nodes i).content in
    let d = (r.cluster.nodes i).content in
    let span = (eqb hi lo) || (eqb hi (lo + 1)) in
    and_same (is_running s.seen.own i) (is_running r.cluster i) _ _ (running_same i k)
    (and_same (ltb seat (length c.rows)) (ltb (name seat) (length d.rows)) _ _
    (is_below (name seat) (length d.rows) (h.content.there seat within) ∙ sym (is_below seat (length c.rows) within))
    (and_same (leb (row c seat).next lo) (leb (row d (name seat)).next lo) _ _ (ap (λ (x : RowRecord). leb x.next lo) (h.content.rows seat within))
    (ap (λ m. span && ltb m 32) (ap length h.voter.pending ∙ length_map (named_ballot name) (s.seen.own.nodes i).voter.pending))))

begins_sim : (s : Sites) (r : Roster) (e i seat lo hi : ℕ) (drift : ℤ) → Sim s r → seat < rows_of s.seen i
    → Sim (with_own (after_beginning e i seat lo hi drift s.seen) s) (record r { cluster = after_proposal e i (s.seen.name i seat) lo hi drift r.cluster })
unfolding after_proposal with_proposal_begun
begins_sim s r e i seat lo hi drift k within =
    let name = s.seen.name i in
    let t = name seat in
    let x = s.seen.own.nodes i in
    let y = r.cluster.nodes i in
    let h = k.nodes i in
    let step = propose (place_of s.seen.own i) seat lo hi drift x.content x.voter in
    let f : Content → Voted = λ c. propose (place_of r.cluster i) t lo hi drift c y.voter in
    let c0 = seen_of (site_of s i) y.content in
    two_sim s r (ltb x.voter.seq (2 ^ 62)) (ltb y.voter.seq (2 ^ 62)) _ _ _ _ (ap (λ m. ltb m (2 ^ 62)) h.voter.seq)
    (λ _. step_sim (with_own (with_proposal_begun e i t lo hi s.seen.own) s) (record r { cluster = with_proposal_begun e i t lo hi r.cluster }) e i step f
    (begun_sim s r e i t lo hi k)
    (blind_propose (place_of r.cluster i) t lo hi drift y.voter)
    (subst (λ p. IsNamedStep name (length x.content.rows) step (propose p t lo hi drift c0 y.voter)) (sym (place_same i k))
    (proposed_named name (place_of s.seen.own i) x.content c0 x.voter y.voter h.content h.voter seat lo hi drift within))
    (λ u none. only_propose (place_of r.cluster i) t lo hi drift y.content y.voter u
    (λ e. number_lacks (rows_of s.seen i) name u none seat within (sym e))))
    (λ _. member_sim s r i (stopped_member x) (stopped_member y) k (stopped_node h))

begin_sim : (s : Sites) (r : Roster) (e i seat lo hi : ℕ) (drift : ℤ) → Sim s r
    → Sim (after_doing e (Begins i seat lo hi drift) s)
    (record { cluster = after_act e (act_of r (deed_at s (Begins i seat lo hi drift))) r.cluster; enrolled = enrolled_by r (deed_at s (Begins i seat lo hi drift)) })
unfolding after_act
begin_sim s r e i seat lo hi drift k =
    let name = s.seen.name i in
    let T = rows_of s.seen i in
    let now = after_doing e (Begins i seat lo hi drift) s in
    cond_both (ltb seat T) (Proposes i (name seat) lo hi drift) (Rests i)
    (λ (d : Deed). Sim now (record { cluster = after_act e (act_of r d) r.cluster; enrolled = enrolled_by r d }))
    (λ q.
    let within = ltb-true seat T q in
    subst (λ (a : Act). Sim now (record r { cluster = after_act e a r.cluster }))
    (sym (cond-true (r.enrolled i (name seat)) (Begin i (name seat) lo hi drift) (Idle i) (is_on i seat k within)))
    (two_sim s r (may_begin s.seen.own i seat lo hi) (may_begin r.cluster i (name seat) lo hi) _ _ _ _ (may_same s r i seat lo hi k within)
    (λ _. begins_sim s r e i seat lo hi drift k within) (λ _. k)))
    (λ q.
    let off : may_begin s.seen.own i seat lo hi ≡ false = middle (is_running s.seen.own i) (ltb seat T) _ q in
    subst (λ (w : Cluster). Sim (with_own w s) r) (sym (cond-false (may_begin s.seen.own i seat lo hi) (after_beginning e i seat lo hi drift s.seen) s.seen.own off)) k)
  where
    middle : (a m x : Bool) → m ≡ false → (a && (m && x)) ≡ false
    middle true m x h = ap (λ y. y && x) h
    middle false m x h = refl

-- ---- a message

named_back : (name : ℕ → ℕ) (number : ℕ) (m : Message) → name number ≡ token_of m → named_message name (numbered_message number m) ≡ m
named_back name number (Ask p t span) h = ap (λ x. Ask p x span) h
named_back name number (Grant p t span) h = ap (λ x. Grant p x span) h
named_back name number (Deny p t next) h = ap (λ x. Deny p x next) h
named_back name number (Floor t next) h = ap (λ x. Floor x next) h

number_in : (number : ℕ) (m : Message) → token_of (numbered_message number m) ≡ number
number_in number (Ask p t span) = refl
number_in number (Grant p t span) = refl
number_in number (Deny p t next) = refl
number_in number (Floor t next) = refl

-- the roster after the deed
abbrev After : ℕ → Roster → Deed → Roster
After e r d = record { cluster = after_act e (act_of r d) r.cluster; enrolled = enrolled_by r d }

heard_sim : (s : Sites) (r : Roster) (e m : ℕ) (l : Envelope) (p : Option ℕ) → Sim s r → slice_get r.cluster.sent m ≡ Some l → number_at s.seen l.receiver (token_of l.message) ≡ p
    → Sim (with_own (after_number e l p s.seen) s) (After e r (cond (is_number p) (Hears m) (Rests l.receiver)))
unfolding after_act after_delivery
heard_sim s r e m l None k at is = k
heard_sim s r e m l (Some number) k at is =
    let i = l.receiver in
    let name = s.seen.name i in
    let x = s.seen.own.nodes i in
    let y = r.cluster.nodes i in
    let h = k.nodes i in
    let there = number_there (rows_of s.seen i) name (token_of l.message) number is in
    let mine = numbered_message number l.message in
    let on : r.enrolled i (token_of l.message) ≡ true = ap (r.enrolled i) (sym there.1) ∙ is_on i number k there.0 in
    let step = on_message (place_of s.seen.own i) l.sender mine x.content x.voter in
    let f : Content → Voted = λ c. on_message (place_of r.cluster i) l.sender l.message c y.voter in
    let c0 = seen_of (site_of s i) y.content in
    let now = with_own (after_number e l (Some number) s.seen) s in
    let within : token_of mine < rows_of s.seen i = let same = number_in number l.message in omega (arith, there.0, same) in
    subst (λ o. Sim now (record r { cluster = after_act e (act_of_hearing r m o) r.cluster })) (sym at)
    (subst (λ (a : Act). Sim now (record r { cluster = after_act e a r.cluster })) (sym (cond-true (r.enrolled i (token_of l.message)) (Deliver m) (Idle i) on))
    (subst (λ o. Sim now (record r { cluster = after_delivery e o r.cluster })) (sym at)
    (two_sim s r (is_running s.seen.own i) (is_running r.cluster i) _ _ _ _ (running_same i k)
    (λ _. step_sim s r e i step f k
    (blind_message (place_of r.cluster i) l.sender l.message y.voter)
    (subst (λ z. IsNamedStep name (rows_of s.seen i) step (on_message z l.sender l.message c0 y.voter)) (sym (place_same i k))
    (subst (λ z. IsNamedStep name (rows_of s.seen i) step (on_message (place_of s.seen.own i) l.sender z c0 y.voter)) (named_back name number l.message there.1)
    (heard_named name (place_of s.seen.own i) x.content c0 x.voter y.voter h.content h.voter l.sender mine within)))
    (λ u none. only_message (place_of r.cluster i) l.sender l.message y.content y.voter u
    (λ z. number_lacks (rows_of s.seen i) name u none number there.0 (there.1 ∙ sym z))))
    (λ _. k))))

get_sim : (s : Sites) (r : Roster) (e m : ℕ) (o : Option Envelope) → Sim s r → slice_get r.cluster.sent m ≡ o
    → Sim (with_own (after_getting e o s.seen) s) (After e r (deed_of_hearing s m o))
unfolding after_act after_delivery
get_sim s r e m None k at =
    subst (λ o. Sim s (record r { cluster = after_act e (act_of_hearing r m o) r.cluster })) (sym at)
    (subst (λ o. Sim s (record r { cluster = after_delivery e o r.cluster })) (sym at) k)
get_sim s r e m (Some l) k at = heard_sim s r e m l (number_at s.seen l.receiver (token_of l.message)) k at refl

gets_sim : (s : Sites) (r : Roster) (e m : ℕ) → Sim s r → Sim (after_doing e (Gets m) s) (After e r (deed_at s (Gets m)))
gets_sim s r e m k = get_sim s r e m (slice_get s.seen.own.sent m) k (ap (λ l. slice_get l m) k.sent)

-- ---- a tick, floors told, and a gate

turn_on : (s : Sites) (r : Roster) (i : ℕ) → Sim s r
    → filter (r.enrolled i) (named_turn (s.seen.name i) (s.seen.own.nodes i).content (s.seen.own.nodes i).voter) ≡ named_turn (s.seen.name i) (s.seen.own.nodes i).content (s.seen.own.nodes i).voter
turn_on s r i k =
    let turn = (s.seen.own.nodes i).voter.turn in
    let name = s.seen.name i in
    cond_both (ltb turn (rows_of s.seen i)) (name turn ∷ []) [] (λ l. filter (r.enrolled i) l ≡ l)
    (λ q. cond-true (r.enrolled i (name turn)) (name turn ∷ []) [] (is_on i turn k (ltb-true turn (rows_of s.seen i) q))) (λ _. refl)

turns_sim : (s : Sites) (r : Roster) (e i : ℕ) → Sim s r → Sim (after_doing e (Turns i) s) (After e r (deed_at s (Turns i)))
unfolding after_act tick_telling
turns_sim s r e i k =
    let name = s.seen.name i in
    let x = s.seen.own.nodes i in
    let y = r.cluster.nodes i in
    let h = k.nodes i in
    let told = named_turn name x.content x.voter in
    let step = tick (place_of s.seen.own i) x.content x.voter in
    let f : Content → Voted = λ c. tick_telling (place_of r.cluster i) told c y.voter in
    let c0 = seen_of (site_of s i) y.content in
    subst (λ ts. Sim (after_doing e (Turns i) s) (record r { cluster = after_act e (TickTelling i ts) r.cluster })) (sym (turn_on s r i k))
    (two_sim s r (is_running s.seen.own i) (is_running r.cluster i) _ _ _ _ (running_same i k)
    (λ _. step_sim s r e i step f k (blind_tick (place_of r.cluster i) told y.voter)
    (subst (λ p. IsNamedStep name (rows_of s.seen i) step (tick_telling p told c0 y.voter)) (sym (place_same i k))
    (ticked_named name (place_of s.seen.own i) x.content c0 x.voter y.voter h.content h.voter))
    (λ t none. refl))
    (λ _. k))

known_on : (s : Sites) (r : Roster) (i : ℕ) → Sim s r → (ns : List ℕ) → filter (r.enrolled i) (map (s.seen.name i) (known_numbers s.seen i ns)) ≡ map (s.seen.name i) (known_numbers s.seen i ns)
known_on s r i k [] = refl
known_on s r i k (n ∷ ns) =
    let name = s.seen.name i in
    let rest = known_numbers s.seen i ns in
    cond_both (ltb n (rows_of s.seen i)) (n ∷ rest) rest (λ l. filter (r.enrolled i) (map name l) ≡ map name l)
    (λ q. cond-true (r.enrolled i (name n)) (name n ∷ filter (r.enrolled i) (map name rest)) (filter (r.enrolled i) (map name rest)) (is_on i n k (ltb-true n (rows_of s.seen i) q))
    ∙ ap (λ l. name n ∷ l) (known_on s r i k ns))
    (λ _. known_on s r i k ns)

known_within : (s : Sites) (i : ℕ) (ns : List ℕ) (j t : ℕ) → slice_get (known_numbers s.seen i ns) j ≡ Some t → t < rows_of s.seen i
known_within s i ns j t at =
    ltb-true t (rows_of s.seen i) (each_get (λ n. ltb n (rows_of s.seen i) ≡ true) (known_numbers s.seen i ns) j t (each_passes (λ n. ltb n (rows_of s.seen i)) ns) at)

speaks_sim : (s : Sites) (r : Roster) (e i : ℕ) (ns : List ℕ) → Sim s r → Sim (after_doing e (Speaks i ns) s) (After e r (deed_at s (Speaks i ns)))
unfolding after_act tell
speaks_sim s r e i ns k =
    let name = s.seen.name i in
    let x = s.seen.own.nodes i in
    let y = r.cluster.nodes i in
    let h = k.nodes i in
    let known_ones = known_numbers s.seen i ns in
    let told = map name known_ones in
    let step = tell (place_of s.seen.own i) known_ones x.content x.voter in
    let f : Content → Voted = λ c. tell (place_of r.cluster i) told c y.voter in
    let c0 = seen_of (site_of s i) y.content in
    subst (λ ts. Sim (after_doing e (Speaks i ns) s) (record r { cluster = after_act e (Tell i ts) r.cluster })) (sym (known_on s r i k ns))
    (two_sim s r (is_running s.seen.own i) (is_running r.cluster i) _ _ _ _ (running_same i k)
    (λ _. step_sim s r e i step f k (blind_tell (place_of r.cluster i) told y.voter)
    (subst (λ p. IsNamedStep name (rows_of s.seen i) step (tell p told c0 y.voter)) (sym (place_same i k))
    (told_named name (place_of s.seen.own i) known_ones x.content c0 x.voter y.voter h.content h.voter (known_within s i ns)))
    (λ t none. refl))
    (λ _. k))

gate_named : {name : ℕ → ℕ} {c d : Content} {v v' : VoterState} (number : ℕ) (gate : GateRecord) → IsNamed name c d → IsNamedVoter name (length c.rows) v v' → number < length c.rows
    → IsNamedStep name (length c.rows) (quiet_step (content_with_gate number gate c) v) (quiet_step (content_with_gate (name number) gate d) v')
gate_named {name} {c} {d} {v} {v'} number gate h k within =
    subst (λ (x : RowRecord). IsNamedStep name (length c.rows) (quiet_step (content_with_gate number gate c) v) (quiet_step (with_row d (name number) (row_with_gate gate x) None) v')) (sym (h.rows number within))
    (record { size = put_size c number (row_with_gate gate (row c number)) None; content = named_put name c d number (row_with_gate gate (row c number)) None None h within refl (λ z e. absurd (none-some z e)); voter = k; sends = refl; begun = refl; decisions = refl })

gate_row : (c : Content) (t : ℕ) (gate : GateRecord) (u : ℕ) → (u ≡ t → ⊥) → row (content_with_gate t gate c) u ≡ row c u
gate_row c t gate u ne = only_put c t (row_with_gate gate (row c t)) None u ne

shuts_sim : (s : Sites) (r : Roster) (e i seat : ℕ) (gate : GateRecord) → Sim s r → Sim (after_doing e (Shuts i seat gate) s) (After e r (deed_at s (Shuts i seat gate)))
unfolding after_act
shuts_sim s r e i seat gate k =
    let name = s.seen.name i in
    let T = rows_of s.seen i in
    let x = s.seen.own.nodes i in
    let y = r.cluster.nodes i in
    let h = k.nodes i in
    let now = after_doing e (Shuts i seat gate) s in
    let step = quiet_step (content_with_gate seat gate x.content) x.voter in
    let f : Content → Voted = λ c. quiet_step (content_with_gate (name seat) gate c) y.voter in
    let after = cluster_after e i step s.seen.own in
    cond_both (ltb seat T) (Throttles i (name seat) gate) (Rests i)
    (λ (d : Deed). Sim now (After e r d))
    (λ q.
    let within = ltb-true seat T q in
    let on = is_on i seat k within in
    subst (λ (a : Act). Sim now (record r { cluster = after_act e a r.cluster })) (sym (cond-true (r.enrolled i (name seat)) (Throttle i (name seat) gate) (Idle i) on))
    (two_sim s r (is_running s.seen.own i && ltb seat T) (is_running r.cluster i) _ _ _ _ (running_same i k ∙ sym (ap (λ z. is_running s.seen.own i && z) q ∙ and_true (is_running s.seen.own i)))
    (λ _. step_sim s r e i step f k (blind_gate (name seat) gate y.voter) (gate_named seat gate h.content h.voter within)
    (λ u none. gate_row y.content (name seat) gate u (λ z. number_lacks T name u none seat within (sym z))))
    (λ _. k)))
    (λ q. subst (λ (w : Cluster). Sim (with_own w s) r) (sym (cond-false (is_running s.seen.own i && ltb seat T) after s.seen.own (and_false (is_running s.seen.own i) (ltb seat T) q))) k)
  where
    and_true : (a : Bool) → (a && true) ≡ a
    and_true true = refl
    and_true false = refl

    and_false : (a m : Bool) → m ≡ false → (a && m) ≡ false
    and_false true m h = h
    and_false false m h = refl

-- ---- a row more

raise_all_last : (n : ℕ) (floor : ℕ → ℕ) (c : Content) → (raise_all n floor c).last ≡ c.last
unfolding raise
raise_all_last zero floor c = refl
raise_all_last (suc n) floor c =
    let d = raise_all n floor c in
    cond_both (ltb (row d n).next (floor n)) _ d (λ (x : Content). x.last ≡ d.last) (λ _. refl) (λ _. refl) ∙ raise_all_last n floor c

pub le_true : (a b : ℕ) → a ≤ b → leb a b ≡ true
le_true a b le = ⊎_elim (λ (q : leb a b ≡ true). q) (λ (q : leb a b ≡ false). absurd (omega (arith, le, leb-false a b q))) (cases_Bool (leb a b))

or_true : (a b : Bool) → b ≡ true → (a || b) ≡ true
or_true true b h = refl
or_true false b h = h

or_none : (a b : Bool) → b ≡ false → (a || b) ≡ a
or_none true b h = refl
or_none false b h = h

module _ (s : Sites) (r : Roster) (i t floor : ℕ) (k : Sim s r) (posts : Posts s.seen.tokens r.cluster) (within : t < s.seen.tokens) (unknown : s.enrolled i t ≡ false) where
  abbrev x : Site
  x = site_of s i

  abbrev y : Member
  y = r.cluster.nodes i

  abbrev given : ℕ → Bool
  given other = eqb other t

  abbrev floors : ℕ → ℕ
  floors other = floor

  abbrev f : ℕ → ℕ
  f u = cond (is_new r i given floors u) (floors u) 0

  -- the tokens of the roster, and those of the store
  abbrev g : ℕ → Bool
  g u = r.enrolled i u || is_new r i given floors u

  abbrev mine : ℕ → Bool
  mine u = s.enrolled i u || eqb u t

  abbrev d1 : Content
  d1 = raise_all (length y.content.rows) f y.content

  off : r.enrolled i t ≡ false
  off = (k.nodes i).on_is t ∙ unknown

  row_t : row y.content t ≡ opening_row 0
  row_t = (k.nodes i).free t unknown

  new_t : is_new r i given floors t ≡ true
  new_t =
      and_from (eqb t t) (not (r.enrolled i t) && leb (row y.content t).next floor) (eq-eqb t t refl)
      (and_from (not (r.enrolled i t)) (leb (row y.content t).next floor) (ap not off) (ap (λ (z : RowRecord). leb z.next floor) row_t ∙ le_true 0 floor (omega arith)))

  old_u : (u : ℕ) → (u ≡ t → ⊥) → is_new r i given floors u ≡ false
  old_u u ne = ap (λ z. z && (not (r.enrolled i u) && leb (row y.content u).next floor)) (not_eqb u t ne)

  other_row : (u : ℕ) → (u ≡ t → ⊥) → row d1 u ≡ row y.content u
  other_row u ne = raise_none (length y.content.rows) u f y.content (cond-false (is_new r i given floors u) (floors u) 0 (old_u u ne))

  own_row : row d1 t ≡ opening_row floor
  own_row =
      let many = (posts.nodes i).rows in
      raise_row (length y.content.rows) t f y.content (omega (arith, within, many)) (omega arith)
      ∙ ap (λ m. raised_row m (row y.content t)) (cond-true (is_new r i given floors t) (floors t) 0 new_t)
      ∙ ap (raised_row floor) row_t ∙ bound_raised (opening_row 0) floor refl (omega arith)

  -- no seat has the token
  not_t : (m : ℕ) → m < rows_of s.seen i → s.seen.name i m ≡ t → ⊥
  not_t m lt e = false≢true (sym unknown ∙ ap (s.enrolled i) (sym e) ∙ (k.nodes i).seated m lt)

  mine_t : mine t ≡ true
  mine_t = or_true (s.enrolled i t) (eqb t t) (eq-eqb t t refl)

  mine_u : (u : ℕ) → (u ≡ t → ⊥) → mine u ≡ s.enrolled i u
  mine_u u ne = or_none (s.enrolled i u) (eqb u t) (not_eqb u t ne)

  by_token : (P : ℕ → Type 0) → P t → ((u : ℕ) → (u ≡ t → ⊥) → P u) → (u : ℕ) → P u
  by_token P one other u = ⊎_elim (λ (e : u ≡ t). subst P (sym e) one) (λ (ne : u ≡ t → ⊥). other u ne) (same_or_not u t)

  more_node : NodeSim s.seen.tokens (record x { enrolled = mine; aside = with_opening t floor x.aside }) (raised_member f y) g
  more_node =
      let h = k.nodes i in
      let len = length y.content.rows in
      record {
        content = record {
          one = h.content.one;
          there = λ m a. let low = h.content.there m a in let size = raise_all_size len f y.content in omega (arith, low, size);
          rows = λ m a. other_row (s.seen.name i m) (not_t m a) ∙ h.content.rows m a;
          boot = raise_all_boot len f y.content ∙ h.content.boot;
          last = refl;
          last_known = h.content.last_known;
        };
        voter = h.voter;
        running = h.running;
        last = raise_all_last len f y.content ∙ h.last;
        on_is = by_token (λ u. g u ≡ mine u) (or_true (r.enrolled i t) (is_new r i given floors t) new_t ∙ sym mine_t)
            (λ u ne. or_none (r.enrolled i u) (is_new r i given floors u) (old_u u ne) ∙ h.on_is u ∙ sym (mine_u u ne));
        seated = λ m a. mine_u (s.seen.name i m) (not_t m a) ∙ h.seated m a;
        within = by_token (λ u. mine u ≡ true → u < s.seen.tokens) (λ _. within) (λ u ne is. h.within u (sym (mine_u u ne) ∙ is));
        away = by_token (λ u. mine u ≡ true → Unseated x u → row d1 u ≡ with_opening t floor x.aside u)
            (λ _ _. own_row ∙ sym (cond-true (eqb t t) (opening_row floor) (x.aside t) (eq-eqb t t refl)))
            (λ u ne is none. other_row u ne ∙ h.away u (sym (mine_u u ne) ∙ is) none ∙ sym (cond-false (eqb u t) (opening_row floor) (x.aside u) (not_eqb u t ne)));
        free = by_token (λ u. mine u ≡ false → row d1 u ≡ opening_row 0) (λ no. absurd (false≢true (sym no ∙ mine_t)))
            (λ u ne no. other_row u ne ∙ h.free u (sym (mine_u u ne) ∙ no));
      }

  added_sim : (e : ℕ) → has_store s.seen.own i ≡ true
      → Sim (record s { enrolled = with_tokens i mine s.enrolled; aside = with_rows i (with_opening t floor (s.aside i)) s.aside })
      (record { cluster = after_act e (Raise i f) r.cluster; enrolled = enrolled_by r (Enrols i given floors) })
  unfolding after_act
  added_sim e has =
      subst (λ m. Sim (record s { enrolled = with_tokens i mine s.enrolled; aside = with_rows i (with_opening t floor (s.aside i)) s.aside })
      (record { cluster = cond m (with_member i (raised_member f y) r.cluster) r.cluster; enrolled = cond m (with_tokens i g r.enrolled) r.enrolled }))
      (sym (store_same i k ∙ has))
      (record {
        members = k.members;
        lost = k.lost;
        least = k.least;
        sent = k.sent;
        begun = k.begun;
        accepted = k.accepted;
        nodes = λ j.
            by_store (λ (a : ℕ → Bool) (b : ℕ → RowRecord). NodeSim s.seen.tokens (record (site_of s j) { enrolled = a; aside = b })) (eqb j i)
            mine (s.enrolled j) (with_opening t floor (s.aside i)) (s.aside j) (raised_member f y) (r.cluster.nodes j) g (r.enrolled j)
            (λ q. subst (λ m. NodeSim s.seen.tokens (record (site_of s m) { enrolled = mine; aside = with_opening t floor (s.aside i) }) (raised_member f y) g) (sym (eqb-true j i q)) more_node)
            (λ _. k.nodes j);
      })
    where
      by_store : (R : (ℕ → Bool) → (ℕ → RowRecord) → Member → (ℕ → Bool) → Type 0) (m : Bool) (a a' : ℕ → Bool) (b b' : ℕ → RowRecord) (p p' : Member) (on on' : ℕ → Bool)
          → (m ≡ true → R a b p on) → (m ≡ false → R a' b' p' on') → R (cond m a a') (cond m b b') (cond m p p') (cond m on on')
      by_store R true a a' b b' p p' on on' one other = one refl
      by_store R false a a' b b' p p' on on' one other = other refl

adds_by : (s : Sites) (r : Roster) (e i t floor : ℕ) (m : Bool) → may_add s i t ≡ m → Sim s r → Posts s.seen.tokens r.cluster
    → Sim (cond m (record s { enrolled = with_tokens i (λ other. s.enrolled i other || eqb other t) s.enrolled; aside = with_rows i (with_opening t floor (s.aside i)) s.aside }) s)
    (After e r (cond m (Enrols i (λ other. eqb other t) (λ other. floor)) (Rests i)))
unfolding after_act
adds_by s r e i t floor true may k posts =
    let one = and_parts (has_store s.seen.own i) (ltb t s.seen.tokens && not (s.enrolled i t)) may in
    let two = and_parts (ltb t s.seen.tokens) (not (s.enrolled i t)) one.1 in
    added_sim s r i t floor k posts (ltb-true t s.seen.tokens two.0) (not-true (s.enrolled i t) two.1) e one.0
adds_by s r e i t floor false may k posts = k

-- ---- each action

pub doing_sim : (e : ℕ) (s : Sites) (r : Roster) (d : Doing) → Posts s.seen.tokens r.cluster → Sim s r
    → Sim (after_doing e d s) (record { cluster = after_act e (act_of r (deed_at s d)) r.cluster; enrolled = enrolled_by r (deed_at s d) })
unfolding after_act
doing_sim e s r (Begins i seat lo hi drift) posts k = begin_sim s r e i seat lo hi drift k
doing_sim e s r (Gets m) posts k = gets_sim s r e m k
doing_sim e s r (Turns i) posts k = turns_sim s r e i k
doing_sim e s r (Speaks i ns) posts k = speaks_sim s r e i ns k
doing_sim e s r (Shuts i seat gate) posts k = shuts_sim s r e i seat gate k
doing_sim e s r (Adds i t floor) posts k = adds_by s r e i t floor (may_add s i t) refl k posts
doing_sim e s r (Waits i) posts k = k

hearing_node : (s : Sites) (r : Roster) (m : ℕ) (o : Option Envelope) → slice_get r.cluster.sent m ≡ o → node_of (act_of r (deed_of_hearing s m o)) r.cluster ≡ receiver_of o
hearing_node s r m None at = subst (λ o. node_of (act_of_hearing r m o) r.cluster ≡ None) (sym at) (ap receiver_of at)
hearing_node s r m (Some l) at =
    cond_both (is_number (number_at s.seen l.receiver (token_of l.message))) (Hears m) (Rests l.receiver) (λ (d : Deed). node_of (act_of r d) r.cluster ≡ Some l.receiver)
    (λ _. subst (λ o. node_of (act_of_hearing r m o) r.cluster ≡ Some l.receiver) (sym at)
    (cond_both (r.enrolled l.receiver (token_of l.message)) (Deliver m) (Idle l.receiver) (λ a. node_of a r.cluster ≡ Some l.receiver) (λ _. ap receiver_of at) (λ _. refl)))
    (λ _. refl)

pub doer_same : (s : Sites) (r : Roster) (d : Doing) → Sim s r → node_of (act_of r (deed_at s d)) r.cluster ≡ doer_of d s.seen
doer_same s r (Begins i seat lo hi drift) k =
    let t = s.seen.name i seat in
    cond_both (ltb seat (rows_of s.seen i)) (Proposes i t lo hi drift) (Rests i) (λ z. node_of (act_of r z) r.cluster ≡ Some i)
    (λ _. cond_both (r.enrolled i t) (Begin i t lo hi drift) (Idle i) (λ a. node_of a r.cluster ≡ Some i) (λ _. refl) (λ _. refl)) (λ _. refl)
doer_same s r (Gets m) k = hearing_node s r m (slice_get s.seen.own.sent m) (ap (λ l. slice_get l m) k.sent)
doer_same s r (Turns i) k = refl
doer_same s r (Speaks i ns) k = refl
doer_same s r (Shuts i seat gate) k =
    let t = s.seen.name i seat in
    cond_both (ltb seat (rows_of s.seen i)) (Throttles i t gate) (Rests i) (λ z. node_of (act_of r z) r.cluster ≡ Some i)
    (λ _. cond_both (r.enrolled i t) (Throttle i t gate) (Idle i) (λ a. node_of a r.cluster ≡ Some i) (λ _. refl) (λ _. refl)) (λ _. refl)
doer_same s r (Adds i t floor) k = cond_both (may_add s i t) (Enrols i (λ other. eqb other t) (λ other. floor)) (Rests i) (λ z. node_of (act_of r z) r.cluster ≡ Some i) (λ _. refl) (λ _. refl)
doer_same s r (Waits i) k = refl
