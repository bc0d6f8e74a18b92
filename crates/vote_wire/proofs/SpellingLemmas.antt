-- The format of a body, and its one spelling.
use Rattle.std.proofs.Common.{◌≡◌, ℕ, suc, ◌+◌, ◌≤◌, List, [], ◌∷◌, ◌++◌, length, take, drop, refl, sym, ap, ◌∙◌, arith, inl, inr}
use Rattle.std.specs.Int.{w32, w64, to_be_bytes, from_be_bytes}
use Rattle.std.proofs.lemmas.Bool.{cases_lt}
use Rattle.std.proofs.Math.Seq.{drop-cons}
use Rattle.std.proofs.lemmas.List.{get_or-drop, get_or-take, get_or_past, length-take, length-drop, drop-drop, nil_from_length}
use Rattle.std.proofs.lemmas.Nat.{be_bytes_4, be_bytes_8, from_be_bytes-to_be_bytes_4, from_be_bytes-to_be_bytes_8}
use Rattle.vote_core.specs.declared.message.Message.{Message}
use Rattle.vote_core.specs.declared.message.Message.TheVariants.{Ask, Grant, Deny, Floor}
use Rattle.vote_wire.specs.Bytes.{AreBytes, byte_at, word_at, number_at}
use Rattle.floor_store.specs.Records.{ProposalRecord, span_of}
use Rattle.vote_wire.specs.Body.{HasSpelling, HasHead, HasProposal, HasFactors, SaysMessage, head_bytes, proposal_bytes, body_bytes}

-- what is spelled says the message
pub says_again : (from to : ℕ) (m : Message) → HasSpelling from to m → SaysMessage (body_bytes from to m) from to m
says_again from to (Ask p token span) h = (
  record { number_of_bytes = refl; mark_0_at = refl; mark_1_at = refl; version_at = refl; kind_at = refl; from_at = refl; to_at = refl; token_at = from_be_bytes-to_be_bytes_4 token (omega (arith, h.0.token_below)) },
  record { node_at = refl; boot_at = from_be_bytes-to_be_bytes_8 p.boot (omega (arith, h.1.in_range.boot)); seq_at = from_be_bytes-to_be_bytes_8 p.seq (omega (arith, h.1.in_range.seq)) },
  record { lo_at = from_be_bytes-to_be_bytes_8 span.lo (omega (arith, h.1.lo_below)); hi_at = from_be_bytes-to_be_bytes_8 span.hi (omega (arith, h.1.hi_below)) },
)
says_again from to (Grant p token span) h = (
  record { number_of_bytes = refl; mark_0_at = refl; mark_1_at = refl; version_at = refl; kind_at = refl; from_at = refl; to_at = refl; token_at = from_be_bytes-to_be_bytes_4 token (omega (arith, h.0.token_below)) },
  record { node_at = refl; boot_at = from_be_bytes-to_be_bytes_8 p.boot (omega (arith, h.1.in_range.boot)); seq_at = from_be_bytes-to_be_bytes_8 p.seq (omega (arith, h.1.in_range.seq)) },
  record { lo_at = from_be_bytes-to_be_bytes_8 span.lo (omega (arith, h.1.lo_below)); hi_at = from_be_bytes-to_be_bytes_8 span.hi (omega (arith, h.1.hi_below)) },
)
says_again from to (Deny p token next) h = (
  record { number_of_bytes = refl; mark_0_at = refl; mark_1_at = refl; version_at = refl; kind_at = refl; from_at = refl; to_at = refl; token_at = from_be_bytes-to_be_bytes_4 token (omega (arith, h.0.token_below)) },
  record { node_at = refl; boot_at = from_be_bytes-to_be_bytes_8 p.boot (omega (arith, h.1.in_range.boot)); seq_at = from_be_bytes-to_be_bytes_8 p.seq (omega (arith, h.1.in_range.seq)) },
  from_be_bytes-to_be_bytes_8 next (omega (arith, h.1.next_below)),
)
says_again from to (Floor token next) h = (
  record { number_of_bytes = refl; mark_0_at = refl; mark_1_at = refl; version_at = refl; kind_at = refl; from_at = refl; to_at = refl; token_at = from_be_bytes-to_be_bytes_4 token (omega (arith, h.0.token_below)) },
  from_be_bytes-to_be_bytes_8 next (omega (arith, h.1)),
)

-- ---- what says the message is spelled so

IsBytes-drop : (n : ℕ) (bytes : List ℕ) → AreBytes bytes → AreBytes (drop n bytes)
IsBytes-drop n bytes h i = rw get_or-drop (h (n + i))

pub IsBytes-take : (n : ℕ) (bytes : List ℕ) → AreBytes bytes → AreBytes (take n bytes)
IsBytes-take n bytes h i =
    elim (cases_lt i n) [
      | inl lt ↦ rw (get_or-take n bytes i 0 lt) (h i)
      | inr le ↦ rw (get_or_past (take n bytes) i 0 (omega (arith, length-take n bytes))) (omega arith)
    ]

pub four : (l : List ℕ) → AreBytes l → 4 ≤ length l → l ≡ to_be_bytes w32 (from_be_bytes w32 l) ++ drop 4 l
four (a ∷ b ∷ c ∷ d ∷ rest) fits le = ap (λ (x : List ℕ). x ++ rest) (sym (be_bytes_4 (a ∷ b ∷ c ∷ d ∷ []) _ refl (IsBytes-take 4 (a ∷ b ∷ c ∷ d ∷ rest) fits) refl))
four [] fits le = absurd (omega arith)
four (a ∷ []) fits le = absurd (omega arith)
four (a ∷ b ∷ []) fits le = absurd (omega arith)
four (a ∷ b ∷ c ∷ []) fits le = absurd (omega arith)

eight : (l : List ℕ) → AreBytes l → 8 ≤ length l → l ≡ to_be_bytes w64 (from_be_bytes w64 l) ++ drop 8 l
eight (a ∷ b ∷ c ∷ d ∷ e ∷ f ∷ g ∷ h ∷ rest) fits le =
    ap (λ (x : List ℕ). x ++ rest) (sym (be_bytes_8 (a ∷ b ∷ c ∷ d ∷ e ∷ f ∷ g ∷ h ∷ []) _ refl (IsBytes-take 8 (a ∷ b ∷ c ∷ d ∷ e ∷ f ∷ g ∷ h ∷ rest) fits) refl))
eight [] fits le = absurd (omega arith)
eight (a ∷ []) fits le = absurd (omega arith)
eight (a ∷ b ∷ []) fits le = absurd (omega arith)
eight (a ∷ b ∷ c ∷ []) fits le = absurd (omega arith)
eight (a ∷ b ∷ c ∷ d ∷ []) fits le = absurd (omega arith)
eight (a ∷ b ∷ c ∷ d ∷ e ∷ []) fits le = absurd (omega arith)
eight (a ∷ b ∷ c ∷ d ∷ e ∷ f ∷ []) fits le = absurd (omega arith)
eight (a ∷ b ∷ c ∷ d ∷ e ∷ f ∷ g ∷ []) fits le = absurd (omega arith)

-- the rest of the bytes from the place of a number on
number_there : (bytes : List ℕ) (place next n : ℕ) → AreBytes bytes → next ≡ place + 8 → next ≤ length bytes → number_at bytes place ≡ n → drop place bytes ≡ to_be_bytes w64 n ++ drop next bytes
number_there bytes place next n fits sum le at =
    let long : 8 ≤ length (drop place bytes) = omega (arith, length-drop place bytes) in
    let rest : drop 8 (drop place bytes) ≡ drop next bytes = drop-drop 8 place bytes ∙ ap (λ (k : ℕ). drop k bytes) (omega arith) in
    eight (drop place bytes) (IsBytes-drop place bytes fits) long ∙ rw (at, rest) refl

word_there : (bytes : List ℕ) (place next n : ℕ) → AreBytes bytes → next ≡ place + 4 → next ≤ length bytes → word_at bytes place ≡ n → drop place bytes ≡ to_be_bytes w32 n ++ drop next bytes
word_there bytes place next n fits sum le at =
    let long : 4 ≤ length (drop place bytes) = omega (arith, length-drop place bytes) in
    let rest : drop 4 (drop place bytes) ≡ drop next bytes = drop-drop 4 place bytes ∙ ap (λ (k : ℕ). drop k bytes) (omega arith) in
    four (drop place bytes) (IsBytes-drop place bytes fits) long ∙ rw (at, rest) refl

byte_there : (bytes : List ℕ) (place next n : ℕ) → next ≡ suc place → next ≤ length bytes → byte_at bytes place ≡ n → drop place bytes ≡ n ∷ drop next bytes
byte_there bytes place next n sum le at = drop-cons bytes place 0 (omega arith) ∙ rw (at, ← sum) refl

-- the bytes begin with the head
head_there : (bytes : List ℕ) (len kind from to token : ℕ) → AreBytes bytes → 10 ≤ len → HasHead bytes len kind from to token → bytes ≡ head_bytes kind from to token ++ drop 10 bytes
head_there bytes len kind from to token fits le h =
    let l : 10 ≤ length bytes = omega (arith, h.number_of_bytes) in
    byte_there bytes 0 1 0x4f refl (omega arith) h.mark_0_at
    ∙ ap (λ (r : List ℕ). 0x4f ∷ r) (byte_there bytes 1 2 0x56 refl (omega arith) h.mark_1_at
    ∙ ap (λ (r : List ℕ). 0x56 ∷ r) (byte_there bytes 2 3 2 refl (omega arith) h.version_at
    ∙ ap (λ (r : List ℕ). 2 ∷ r) (byte_there bytes 3 4 kind refl (omega arith) h.kind_at
    ∙ ap (λ (r : List ℕ). kind ∷ r) (byte_there bytes 4 5 from refl (omega arith) h.from_at
    ∙ ap (λ (r : List ℕ). from ∷ r) (byte_there bytes 5 6 to refl (omega arith) h.to_at
    ∙ ap (λ (r : List ℕ). to ∷ r) (word_there bytes 6 10 token fits refl (omega arith) h.token_at))))))

-- the bytes after the head begin with the proposal
proposal_there : (bytes : List ℕ) (p : ProposalRecord) → AreBytes bytes → 27 ≤ length bytes → HasProposal bytes p → drop 10 bytes ≡ proposal_bytes p ++ drop 27 bytes
proposal_there bytes p fits le h =
    byte_there bytes 10 11 p.node refl (omega arith) h.node_at
    ∙ ap (λ (r : List ℕ). p.node ∷ r) (number_there bytes 11 19 p.boot fits refl (omega arith) h.boot_at
    ∙ ap (λ (r : List ℕ). to_be_bytes w64 p.boot ++ r) (number_there bytes 19 27 p.seq fits refl (omega arith) h.seq_at))

nothing_after : (bytes : List ℕ) (len : ℕ) → length bytes ≡ len → drop len bytes ≡ []
nothing_after bytes len e = nil_from_length (drop len bytes) (omega (arith, length-drop len bytes))

vote_there : (bytes : List ℕ) (kind from to token : ℕ) (p : ProposalRecord) (lo hi : ℕ) → AreBytes bytes → HasHead bytes 43 kind from to token → HasProposal bytes p → HasFactors bytes (span_of lo hi)
    → bytes ≡ head_bytes kind from to token ++ proposal_bytes p ++ to_be_bytes w64 lo ++ to_be_bytes w64 hi
vote_there bytes kind from to token p lo hi fits head at f =
    let l = head.number_of_bytes in
    let last : drop 35 bytes ≡ to_be_bytes w64 hi = number_there bytes 35 43 hi fits refl (omega arith) f.hi_at ∙ ap (λ (r : List ℕ). to_be_bytes w64 hi ++ r) (nothing_after bytes 43 l) in
    head_there bytes 43 kind from to token fits (omega arith) head
    ∙ ap (λ (r : List ℕ). head_bytes kind from to token ++ r) (proposal_there bytes p fits (omega arith) at
    ∙ ap (λ (r : List ℕ). proposal_bytes p ++ r) (number_there bytes 27 35 lo fits refl (omega arith) f.lo_at
    ∙ ap (λ (r : List ℕ). to_be_bytes w64 lo ++ r) last))

pub spelled : (bytes : List ℕ) (from to : ℕ) (m : Message) → AreBytes bytes → SaysMessage bytes from to m → bytes ≡ body_bytes from to m
spelled bytes from to (Ask p token span) fits s = vote_there bytes 1 from to token p span.lo span.hi fits s.0 s.1 s.2
spelled bytes from to (Grant p token span) fits s = vote_there bytes 2 from to token p span.lo span.hi fits s.0 s.1 s.2
spelled bytes from to (Deny p token next) fits s =
    let l = s.0.number_of_bytes in
    let last : drop 27 bytes ≡ to_be_bytes w64 next = number_there bytes 27 35 next fits refl (omega arith) s.2 ∙ ap (λ (r : List ℕ). to_be_bytes w64 next ++ r) (nothing_after bytes 35 l) in
    head_there bytes 35 3 from to token fits (omega arith) s.0
    ∙ ap (λ (r : List ℕ). head_bytes 3 from to token ++ r) (proposal_there bytes p fits (omega arith) s.1
    ∙ ap (λ (r : List ℕ). proposal_bytes p ++ r) last)
spelled bytes from to (Floor token next) fits s =
    let l = s.0.number_of_bytes in
    let last : drop 10 bytes ≡ to_be_bytes w64 next = number_there bytes 10 18 next fits refl (omega arith) s.1 ∙ ap (λ (r : List ℕ). to_be_bytes w64 next ++ r) (nothing_after bytes 18 l) in
    head_there bytes 18 4 from to token fits (omega arith) s.0 ∙ ap (λ (r : List ℕ). head_bytes 4 from to token ++ r) last
