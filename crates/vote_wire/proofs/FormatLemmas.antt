-- The reader of bodies as a function, and their format: what is read is in the format, and what is in the format is
-- read.
use Rattle.std.proofs.Common.{◌≡◌, ℕ, ◌+◌, ◌^◌, ◌≤◌, Bool, true, false, cond, eqb, ltb, leb, List, length, Option, Some, None, refl, sym, subst, arith, inl, inr}
use Rattle.std.specs.Prelude.{◌⊎◌, ◌&&◌, nat_lt, nat_le, not}
use Rattle.std.proofs.lemmas.Bool.{eqb-true, eqb-false, leb-true, ltb-true, le-leb, lt-ltb, le-ltb, eq-eqb, ne_eqb, not-true, not_from_false, and_parts, and_from}
use Rattle.otp_core.specs.Range.{IsFactor, IsNext}
use Rattle.floor_store.specs.Records.{ProposalRecord, span_of, SpanRecord}
use Rattle.floor_store.specs.Range.{IsProposal}
use Rattle.vote_core.specs.declared.message.Message.{Message}
use Rattle.vote_core.specs.declared.message.Message.TheVariants.{Ask, Grant, Deny, Floor}
use Rattle.vote_wire.specs.Bytes.{byte_at, word_at, number_at}
use Rattle.vote_wire.specs.Body.{◌>>=◌, only_if, has_head, has_ends, proposal_at, factor_at, next_at, vote_at, denial_at, floor_at, message_at, body_at, HasEnds, IsVoteOn, IsDenialOf, HasHead, HasProposal, HasFactors, IsBodyOf}

-- the value of a step that gave one
bind_some : {A B : Type 0} (r : Option A) (f : A → Option B) (y : B) → (r >>= f) ≡ Some y → (x : A) × (r ≡ Some x) × (f x ≡ Some y)
bind_some (Some x) f y e = (x, refl, e)
bind_some None f y e = absurd cc

abbrev present : {A : Type 0} → A → Option A
present x = Some x

some_is : {A : Type 0} (x y : A) → present x ≡ present y → x ≡ y
some_is x y e = cc

-- a test that was passed
only_if_some : {A : Type 0} (b : Bool) (x y : A) → only_if b x ≡ Some y → (b ≡ true) × (x ≡ y)
only_if_some true x y e = (refl, cc)
only_if_some false x y e = absurd cc

-- a refusal that did not come
passed : {A : Type 0} (b : Bool) (r : Option A) (y : A) → cond b None r ≡ Some y → (b ≡ false) × (r ≡ Some y)
passed false r y e = (refl, e)
passed true r y e = absurd cc

not_refused : {A : Type 0} (b : Bool) (r : Option A) (y : A) → cond (not b) None r ≡ Some y → (b ≡ true) × (r ≡ Some y)
not_refused true r y e = (refl, e)
not_refused false r y e = absurd cc

-- which branch gave the value
chosen : {A : Type 0} (b : Bool) (x y z : Option A) → cond b x y ≡ z → ((b ≡ true) × (x ≡ z)) ⊎ ((b ≡ false) × (y ≡ z))
chosen true x y z e = inl (refl, e)
chosen false x y z e = inr (refl, e)

-- ---- the parts: what is read has its places and its range

record Marked (bytes : List ℕ) : Type 0 where
  mark_0 : byte_at bytes 0 ≡ 0x4f
  mark_1 : byte_at bytes 1 ≡ 0x56
  version : byte_at bytes 2 ≡ 2

marked : (bytes : List ℕ) → has_head bytes ≡ true → Marked bytes
marked bytes e =
    let a = and_parts (eqb (byte_at bytes 0) 0x4f) (eqb (byte_at bytes 1) 0x56 && eqb (byte_at bytes 2) 2) e in
    let b = and_parts (eqb (byte_at bytes 1) 0x56) (eqb (byte_at bytes 2) 2) a.1 in
    record { mark_0 = eqb-true _ _ a.0; mark_1 = eqb-true _ _ b.0; version = eqb-true _ _ b.1 }

ends_of : (from to token : ℕ) → has_ends from to token ≡ true → HasEnds from to token
ends_of from to token e =
    let a = and_parts (leb 1 from) (leb from 9 && (leb 1 to && (leb to 9 && (not (eqb from to) && ltb token 10000)))) e in
    let b = and_parts (leb from 9) (leb 1 to && (leb to 9 && (not (eqb from to) && ltb token 10000))) a.1 in
    let c = and_parts (leb 1 to) (leb to 9 && (not (eqb from to) && ltb token 10000)) b.1 in
    let d = and_parts (leb to 9) (not (eqb from to) && ltb token 10000) c.1 in
    let f = and_parts (not (eqb from to)) (ltb token 10000) d.1 in
    record {
      from_first = leb-true _ _ a.0;
      from_last = leb-true _ _ b.0;
      to_first = leb-true _ _ c.0;
      to_last = leb-true _ _ d.0;
      apart = eqb-false _ _ (not-true _ f.0);
      token_below = ltb-true _ _ f.1;
    }

ends_pass : (from to token : ℕ) → HasEnds from to token → has_ends from to token ≡ true
ends_pass from to token h =
    and_from _ _ (le-leb 1 from h.from_first) (and_from _ _ (le-leb from 9 h.from_last) (and_from _ _ (le-leb 1 to h.to_first) (and_from _ _ (le-leb to 9 h.to_last)
    (and_from _ _ (not_from_false _ (ne_eqb from to h.apart)) (lt-ltb token 10000 h.token_below)))))

-- the test of a proposal's range
abbrev in_range : ℕ → ℕ → ℕ → Bool
in_range node boot seq = nat_le 1 node && (nat_le node 9 && (nat_lt boot (2 ^ 62) && nat_lt seq (2 ^ 62)))

abbrev proposal : ℕ → ℕ → ℕ → ProposalRecord
proposal node boot seq = record { node = node; boot = boot; seq = seq }

in_range_of : (node boot seq : ℕ) → in_range node boot seq ≡ true → IsProposal (proposal node boot seq)
in_range_of node boot seq e =
    let a = and_parts (leb 1 node) (leb node 9 && (ltb boot (2 ^ 62) && ltb seq (2 ^ 62))) e in
    let b = and_parts (leb node 9) (ltb boot (2 ^ 62) && ltb seq (2 ^ 62)) a.1 in
    let c = and_parts (ltb boot (2 ^ 62)) (ltb seq (2 ^ 62)) b.1 in
    record { first = leb-true _ _ a.0; last = leb-true _ _ b.0; boot = ltb-true _ _ c.0; seq = ltb-true _ _ c.1 }

in_range_pass : (node boot seq : ℕ) → IsProposal (proposal node boot seq) → in_range node boot seq ≡ true
in_range_pass node boot seq h =
    and_from _ _ (le-leb 1 node h.first) (and_from _ _ (le-leb node 9 h.last) (and_from _ _ (lt-ltb boot (2 ^ 62) h.boot) (lt-ltb seq (2 ^ 62) h.seq)))

proposal_takes : (bytes : List ℕ) (p : ProposalRecord) → proposal_at bytes ≡ Some p → IsProposal p × HasProposal bytes p
unfolding proposal_at
proposal_takes bytes p e =
    let node = byte_at bytes 10 in
    let boot = number_at bytes 11 in
    let seq = number_at bytes 19 in
    let g = only_if_some (in_range node boot seq) (proposal node boot seq) p e in
    subst (λ (q : ProposalRecord). IsProposal q × HasProposal bytes q) g.1 (in_range_of node boot seq g.0, record { node_at = refl; boot_at = refl; seq_at = refl })

proposal_again : (bytes : List ℕ) (p : ProposalRecord) → IsProposal p → HasProposal bytes p → proposal_at bytes ≡ Some p
unfolding proposal_at
proposal_again bytes p h at =
    rw (at.node_at, at.boot_at, at.seq_at) (rw (in_range_pass p.node p.boot p.seq h) refl)

factor_takes : (bytes : List ℕ) (place n : ℕ) → factor_at bytes place ≡ Some n → (number_at bytes place ≡ n) × IsFactor n
unfolding factor_at
factor_takes bytes place n e =
    let g = only_if_some (ltb (number_at bytes place) (2 ^ 62)) (number_at bytes place) n e in
    (g.1, subst IsFactor g.1 (ltb-true _ _ g.0))

factor_again : (bytes : List ℕ) (place n : ℕ) → IsFactor n → number_at bytes place ≡ n → factor_at bytes place ≡ Some n
unfolding factor_at
factor_again bytes place n h at = subst (λ (k : ℕ). only_if (ltb k (2 ^ 62)) k ≡ Some n) (sym at) (rw (lt-ltb n (2 ^ 62) h) refl)

next_takes : (bytes : List ℕ) (place n : ℕ) → next_at bytes place ≡ Some n → (number_at bytes place ≡ n) × IsNext n
unfolding next_at
next_takes bytes place n e =
    let g = only_if_some (leb (number_at bytes place) (2 ^ 62)) (number_at bytes place) n e in
    (g.1, subst IsNext g.1 (leb-true _ _ g.0))

next_again : (bytes : List ℕ) (place n : ℕ) → IsNext n → number_at bytes place ≡ n → next_at bytes place ≡ Some n
unfolding next_at
next_again bytes place n h at = subst (λ (k : ℕ). only_if (leb k (2 ^ 62)) k ≡ Some n) (sym at) (rw (le-leb n (2 ^ 62) h) refl)

-- ---- what follows the head, by its kind

record IsVote (bytes : List ℕ) (node : ℕ) (v : ProposalRecord × SpanRecord) : Type 0 where
  bytes_of : length bytes ≡ 43
  vote : IsVoteOn node v.0 v.1
  proposal_of : HasProposal bytes v.0
  factors_of : HasFactors bytes v.1

vote_takes : (bytes : List ℕ) (node : ℕ) (v : ProposalRecord × SpanRecord) → vote_at bytes node ≡ Some v → IsVote bytes node v
unfolding vote_at
vote_takes bytes node v e =
    let after_hi = λ (p : ProposalRecord) (lo hi : ℕ). only_if (eqb p.node node && (leb lo hi && leb hi (lo + 1))) (p, span_of lo hi) in
    let after_lo = λ (p : ProposalRecord) (lo : ℕ). factor_at bytes 35 >>= λ hi. after_hi p lo hi in
    let a = not_refused (eqb (length bytes) 43) (proposal_at bytes >>= λ p. factor_at bytes 27 >>= λ lo. after_lo p lo) v e in
    let b = bind_some (proposal_at bytes) (λ p. factor_at bytes 27 >>= λ lo. after_lo p lo) v a.1 in
    let c = bind_some (factor_at bytes 27) (λ lo. after_lo b.0 lo) v b.2 in
    let d = bind_some (factor_at bytes 35) (λ hi. after_hi b.0 c.0 hi) v c.2 in
    let g = only_if_some (eqb b.0.node node && (leb c.0 d.0 && leb d.0 (c.0 + 1))) (b.0, span_of c.0 d.0) v d.2 in
    let t = and_parts (eqb b.0.node node) (leb c.0 d.0 && leb d.0 (c.0 + 1)) g.0 in
    let s = and_parts (leb c.0 d.0) (leb d.0 (c.0 + 1)) t.1 in
    let p = proposal_takes bytes b.0 b.1 in
    let lo = factor_takes bytes 27 c.0 c.1 in
    let hi = factor_takes bytes 35 d.0 d.1 in
    subst (λ (w : ProposalRecord × SpanRecord). IsVote bytes node w) g.1 (record {
      bytes_of = eqb-true _ _ a.0;
      vote = record { in_range = p.0; of_node = eqb-true _ _ t.0; lo_below = lo.1; hi_below = hi.1; spanned = record { ordered = leb-true _ _ s.0; short = leb-true _ _ s.1 } };
      proposal_of = p.1;
      factors_of = record { lo_at = lo.0; hi_at = hi.0 };
    })

vote_again : (bytes : List ℕ) (node : ℕ) (p : ProposalRecord) (lo hi : ℕ) → length bytes ≡ 43 → IsVoteOn node p (span_of lo hi) → HasProposal bytes p → HasFactors bytes (span_of lo hi) → vote_at bytes node ≡ Some (p, span_of lo hi)
unfolding vote_at
vote_again bytes node p lo hi len v at f =
    let test : (eqb p.node node && (leb lo hi && leb hi (lo + 1))) ≡ true = and_from _ _ (eq-eqb p.node node v.of_node) (and_from _ _ (le-leb lo hi v.spanned.ordered) (le-leb hi (lo + 1) v.spanned.short)) in
    rw (len, proposal_again bytes p v.in_range at, factor_again bytes 27 lo v.lo_below f.lo_at, factor_again bytes 35 hi v.hi_below f.hi_at) (rw test refl)

record IsDenial (bytes : List ℕ) (node : ℕ) (v : ProposalRecord × ℕ) : Type 0 where
  bytes_of : length bytes ≡ 35
  denial : IsDenialOf node v.0 v.1
  proposal_of : HasProposal bytes v.0
  next_of : number_at bytes 27 ≡ v.1

denial_takes : (bytes : List ℕ) (node : ℕ) (v : ProposalRecord × ℕ) → denial_at bytes node ≡ Some v → IsDenial bytes node v
unfolding denial_at
denial_takes bytes node v e =
    let after_next = λ (p : ProposalRecord) (next : ℕ). only_if (eqb p.node node) (p, next) in
    let a = not_refused (eqb (length bytes) 35) (proposal_at bytes >>= λ p. next_at bytes 27 >>= λ next. after_next p next) v e in
    let b = bind_some (proposal_at bytes) (λ p. next_at bytes 27 >>= λ next. after_next p next) v a.1 in
    let c = bind_some (next_at bytes 27) (λ next. after_next b.0 next) v b.2 in
    let g = only_if_some (eqb b.0.node node) (b.0, c.0) v c.2 in
    let p = proposal_takes bytes b.0 b.1 in
    let next = next_takes bytes 27 c.0 c.1 in
    subst (λ (w : ProposalRecord × ℕ). IsDenial bytes node w) g.1 (record {
      bytes_of = eqb-true _ _ a.0;
      denial = record { in_range = p.0; of_node = eqb-true _ _ g.0; next_below = next.1 };
      proposal_of = p.1;
      next_of = next.0;
    })

denial_again : (bytes : List ℕ) (node : ℕ) (p : ProposalRecord) (next : ℕ) → length bytes ≡ 35 → IsDenialOf node p next → HasProposal bytes p → number_at bytes 27 ≡ next → denial_at bytes node ≡ Some (p, next)
unfolding denial_at
denial_again bytes node p next len v at f =
    rw (len, proposal_again bytes p v.in_range at, next_again bytes 27 next v.next_below f, eq-eqb p.node node v.of_node) refl

floor_takes : (bytes : List ℕ) (next : ℕ) → floor_at bytes ≡ Some next → (length bytes ≡ 18) × (number_at bytes 10 ≡ next) × IsNext next
unfolding floor_at
floor_takes bytes next e =
    let a = not_refused (eqb (length bytes) 18) (next_at bytes 10) next e in
    let b = next_takes bytes 10 next a.1 in
    (eqb-true _ _ a.0, b.0, b.1)

floor_again : (bytes : List ℕ) (next : ℕ) → length bytes ≡ 18 → IsNext next → number_at bytes 10 ≡ next → floor_at bytes ≡ Some next
unfolding floor_at
floor_again bytes next len h at = rw (len, next_again bytes 10 next h at) refl

-- ---- the message

-- the head of a datagram of a kind, whose fields are those that the bytes have
head_is : (bytes : List ℕ) (len kind : ℕ) → Marked bytes → length bytes ≡ len → byte_at bytes 3 ≡ kind → HasHead bytes len kind (byte_at bytes 4) (byte_at bytes 5) (word_at bytes 6)
head_is bytes len kind m l k = record { number_of_bytes = l; mark_0_at = m.mark_0; mark_1_at = m.mark_1; version_at = m.version; kind_at = k; from_at = refl; to_at = refl; token_at = refl }

message_takes : (bytes : List ℕ) (m : Message) → Marked bytes → HasEnds (byte_at bytes 4) (byte_at bytes 5) (word_at bytes 6)
    → message_at bytes (byte_at bytes 4) (byte_at bytes 5) (word_at bytes 6) ≡ Some m → IsBodyOf bytes (byte_at bytes 4) (byte_at bytes 5) m
unfolding message_at
message_takes bytes m mark ends e =
    let from = byte_at bytes 4 in
    let to = byte_at bytes 5 in
    let token = word_at bytes 6 in
    let kind = byte_at bytes 3 in
    let ask = λ (v : ProposalRecord × SpanRecord). present (Ask v.0 token v.1) in
    let grant = λ (v : ProposalRecord × SpanRecord). present (Grant v.0 token v.1) in
    let deny = λ (v : ProposalRecord × ℕ). present (Deny v.0 token v.1) in
    let floor = λ (next : ℕ). present (Floor token next) in
    let r4 = cond (eqb kind 4) (floor_at bytes >>= floor) None in
    let r3 = cond (eqb kind 3) (denial_at bytes to >>= deny) r4 in
    let r2 = cond (eqb kind 2) (vote_at bytes to >>= grant) r3 in
    elim (chosen (eqb kind 1) (vote_at bytes from >>= ask) r2 (Some m) e) [
      | inl w ↦
          let b = bind_some (vote_at bytes from) ask m w.1 in
          let v = vote_takes bytes from b.0 b.1 in
          subst (λ (x : Message). IsBodyOf bytes from to x) (some_is _ m b.2) ((ends, v.vote), (head_is bytes 43 1 mark v.bytes_of (eqb-true _ _ w.0), v.proposal_of, v.factors_of))
      | inr w ↦ elim (chosen (eqb kind 2) (vote_at bytes to >>= grant) r3 (Some m) w.1) [
        | inl w ↦
            let b = bind_some (vote_at bytes to) grant m w.1 in
            let v = vote_takes bytes to b.0 b.1 in
            subst (λ (x : Message). IsBodyOf bytes from to x) (some_is _ m b.2) ((ends, v.vote), (head_is bytes 43 2 mark v.bytes_of (eqb-true _ _ w.0), v.proposal_of, v.factors_of))
        | inr w ↦ elim (chosen (eqb kind 3) (denial_at bytes to >>= deny) r4 (Some m) w.1) [
          | inl w ↦
              let b = bind_some (denial_at bytes to) deny m w.1 in
              let v = denial_takes bytes to b.0 b.1 in
              subst (λ (x : Message). IsBodyOf bytes from to x) (some_is _ m b.2) ((ends, v.denial), (head_is bytes 35 3 mark v.bytes_of (eqb-true _ _ w.0), v.proposal_of, v.next_of))
          | inr w ↦ elim (chosen (eqb kind 4) (floor_at bytes >>= floor) None (Some m) w.1) [
            | inl w ↦
                let b = bind_some (floor_at bytes) floor m w.1 in
                let v = floor_takes bytes b.0 b.1 in
                subst (λ (x : Message). IsBodyOf bytes from to x) (some_is _ m b.2) ((ends, v.2), (head_is bytes 18 4 mark v.0 (eqb-true _ _ w.0), v.1))
            | inr w ↦ absurd cc
          ]
        ]
      ]
    ]

-- what is read is in the format
pub body_takes : (bytes : List ℕ) (x : ℕ × ℕ × Message) → body_at bytes ≡ Some x → IsBodyOf bytes x.0 x.1 x.2
unfolding body_at
body_takes bytes x e =
    let from = byte_at bytes 4 in
    let to = byte_at bytes 5 in
    let token = word_at bytes 6 in
    let told = λ (m : Message). present (from, to, m) in
    let r2 = cond (not (has_ends from to token)) None (message_at bytes from to token >>= told) in
    let a = passed (ltb (length bytes) 18) (cond (not (has_head bytes)) None r2) x e in
    let b = not_refused (has_head bytes) r2 x a.1 in
    let c = not_refused (has_ends from to token) (message_at bytes from to token >>= told) x b.1 in
    let d = bind_some (message_at bytes from to token) told x c.1 in
    subst (λ (y : ℕ × ℕ × Message). IsBodyOf bytes y.0 y.1 y.2) (some_is _ x d.2) (message_takes bytes d.0 (marked bytes b.0) (ends_of from to token c.0) d.1)

-- a datagram of a kind is read by what follows its head
head_again : (bytes : List ℕ) (len kind from to token : ℕ) (m : Message) → 18 ≤ len → HasHead bytes len kind from to token → HasEnds from to token
    → message_at bytes from to token ≡ Some m → body_at bytes ≡ Some (from, to, m)
unfolding body_at
head_again bytes len kind from to token m le h ends read =
    let long : ltb (length bytes) 18 ≡ false = le-ltb (length bytes) 18 (omega (arith, h.number_of_bytes)) in
    let head : has_head bytes ≡ true = and_from _ _ (eq-eqb _ _ h.mark_0_at) (and_from _ _ (eq-eqb _ _ h.mark_1_at) (eq-eqb _ _ h.version_at)) in
    rw (long, head, h.from_at, h.to_at, h.token_at, ends_pass from to token ends, read) refl

message_again : (bytes : List ℕ) (from to : ℕ) (m : Message) → IsBodyOf bytes from to m → body_at bytes ≡ Some (from, to, m)
unfolding message_at
message_again bytes from to (Ask p token span) h =
    head_again bytes 43 1 from to token (Ask p token span) (omega arith) h.1.0 h.0.0 (rw (h.1.0.kind_at, vote_again bytes from p span.lo span.hi h.1.0.number_of_bytes h.0.1 h.1.1 h.1.2) refl)
message_again bytes from to (Grant p token span) h =
    head_again bytes 43 2 from to token (Grant p token span) (omega arith) h.1.0 h.0.0 (rw (h.1.0.kind_at, vote_again bytes to p span.lo span.hi h.1.0.number_of_bytes h.0.1 h.1.1 h.1.2) refl)
message_again bytes from to (Deny p token next) h =
    head_again bytes 35 3 from to token (Deny p token next) (omega arith) h.1.0 h.0.0 (rw (h.1.0.kind_at, denial_again bytes to p next h.1.0.number_of_bytes h.0.1 h.1.1 h.1.2) refl)
message_again bytes from to (Floor token next) h =
    head_again bytes 18 4 from to token (Floor token next) (omega arith) h.1.0 h.0.0 (rw (h.1.0.kind_at, floor_again bytes next h.1.0.number_of_bytes h.0.1 h.1.1) refl)

-- what is in the format is read
pub body_again : (bytes : List ℕ) (from to : ℕ) (m : Message) → IsBodyOf bytes from to m → body_at bytes ≡ Some (from, to, m)
body_again bytes from to m h = message_again bytes from to m h
