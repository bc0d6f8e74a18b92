-- A datagram of one token in both versions.
use Rattle.std.proofs.Common.{◌≡◌, ℕ, ◌+◌, ◌-◌, ◌%◌, ◌^◌, ◌<◌, ◌≤◌, Bool, true, false, cond, ltb, List, ◌∷◌, ◌++◌, length, take, drop, Option, Some, None, refl, sym, ap, subst, ◌∙◌, arith, length-append, inl, inr}
use Rattle.std.specs.Prelude.{◌&&◌, not, replicate, slice_get}
use Rattle.std.specs.Int.{w64, to_be_bytes}
use Rattle.std.proofs.lemmas.Bool.{and_parts, cases_lt, eq-eqb, le-leb, le-ltb, lt-ltb, ne_eqb, not_from_false}
use Rattle.std.proofs.lemmas.List.{drop_at, take-append-le, take_all}
use Rattle.std.proofs.lemmas.Nat.{from_be_bytes-to_be_bytes_4, from_be_bytes-to_be_bytes_8}
use Rattle.floor_store.specs.Records.{ProposalRecord, SpanRecord}
use Rattle.vote_core.specs.declared.message.Message.{Message}
use Rattle.vote_core.specs.declared.message.Message.TheVariants.{Ask as AskOf, Grant as GrantOf, Deny as DenyOf, Floor as FloorOf}
use Rattle.vote_wire.specs.Body.{HasEnds, HasSpelling, IsVoteOn, body_bytes, vote_bytes}
use Rattle.vote_wire.specs.Bytes.{byte_at, number_at, word_at}
use Rattle.vote_wire.specs.Datagram as old
use Rattle.vote_wire.specs.Key.{bare, tag_of}
use Rattle.vote_wire.proofs.TagLemmas.{length-tag_of}
use Rattle.named_wire.specs.Head.{IsHead}
use Rattle.named_wire.specs.declared.head.Head.{Head}
use Rattle.named_wire.specs.declared.head.Kind.{Kind}
use Rattle.named_wire.specs.declared.head.Kind.TheVariants.{Ask, Grant, Deny, Floor}
use Rattle.named_wire.proofs.TagLemmas.{again}
use Rattle.token_names.specs.Names.{AreDistinct}
use Rattle.named_port.specs.Names.{number_of}
use Rattle.named_port.specs.Wire.{fields_of, is_named, is_of_one_token, is_span, kind_of_message, last_factor, named_at, named_bytes, named_head, named_of, numbered_at, numbered_bytes, numbered_front, numbered_of, numbered_read, packed_of, packed_vote, packed_vote_bytes, short_fields, token_of, unpacked, unpacked_vote, with_fields, with_last, with_name, with_number}
use Rattle.named_port.proofs.NamesLemmas.{number_of_place}

abbrev present : {A : Type 0} → A → Option A
present x = Some x

some_is : {A : Type 0} (x y : A) → present x ≡ present y → x ≡ y
some_is x y e = cc

-- ---- the bytes before a tag

pub front_of-tagged : (front tag : List ℕ) → length tag ≡ 16 → old.body_of (front ++ tag) ≡ front
front_of-tagged front tag len =
    let most : length (front ++ tag) - 16 ≡ length front = omega (arith, length-append front tag, len) in
    rw most (take-append-le (length front) front tag (omega arith) ∙ take_all (length front) front (omega arith))

both : (a b : Bool) → a ≡ true → b ≡ true → (a && b) ≡ true
both true true h k = refl
both false b h k = absurd cc
both true false h k = absurd cc

-- ---- the packed fields of a vote

same_factor : (first : ℕ) → last_factor first (first % 256) ≡ Some first
same_factor first = rw (eq-eqb (first % 256) (first % 256) refl) refl

next_factor : (first : ℕ) → first + 1 < 2 ^ 64 → last_factor first ((first + 1) % 256) ≡ Some (first + 1)
next_factor first below =
    let other : (first + 1) % 256 ≡ first % 256 → ⊥ = λ e. omega (arith, e) in
    rw (ne_eqb ((first + 1) % 256) (first % 256) other, eq-eqb ((first + 1) % 256) ((first + 1) % 256) refl, lt-ltb (first + 1) (2 ^ 64) below) refl

-- the last factor of a span is read from its low byte
pub last_again : (first last : ℕ) → first ≤ last → last ≤ first + 1 → last < 2 ^ 64 → last_factor first (last % 256) ≡ Some last
last_again first last low high below =
    elim (cases_lt first last) [
      | inl more ↦
          let e : first + 1 ≡ last = omega arith in
          subst (λ (n : ℕ). last_factor first (n % 256) ≡ Some n) e (next_factor first (omega (arith, e, below)))
      | inr most ↦
          let e : first ≡ last = omega arith in
          subst (λ (n : ℕ). last_factor first (n % 256) ≡ Some n) e (same_factor first)
    ]

span_true : (a b first last : ℕ) → a ≡ first → b ≡ last → first ≤ last → last ≤ first + 1 → is_span a b ≡ true
span_true a b first last is_first is_last low high = both _ _ (le-leb a b (omega arith)) (le-leb b (a + 1) (omega arith))

pub span_packed : (node : ℕ) (p : ProposalRecord) (s : SpanRecord) → p.node ≡ node → s.lo ≤ s.hi → s.hi ≤ s.lo + 1 → s.hi < 2 ^ 64 → packed_vote node (vote_bytes p s) ≡ Some (packed_vote_bytes p s)
span_packed node p s of_node low high below =
    let first : number_at (vote_bytes p s) 17 ≡ s.lo = from_be_bytes-to_be_bytes_8 s.lo (omega (arith, low, below)) in
    let last : number_at (vote_bytes p s) 25 ≡ s.hi = from_be_bytes-to_be_bytes_8 s.hi below in
    let spanned = span_true (number_at (vote_bytes p s) 17) (number_at (vote_bytes p s) 25) s.lo s.hi first last low high in
    ap (λ (b : Bool). cond b (Some (packed_vote_bytes p s)) None) (both _ _ (eq-eqb p.node node of_node) spanned)

vote_packed : (node : ℕ) (p : ProposalRecord) (s : SpanRecord) → IsVoteOn node p s → packed_vote node (vote_bytes p s) ≡ Some (packed_vote_bytes p s)
vote_packed node p s h = span_packed node p s h.of_node h.spanned.ordered h.spanned.short (omega (arith, h.hi_below))

pub span_unpacked : (node : ℕ) (p : ProposalRecord) (s : SpanRecord) → p.node ≡ node → s.lo ≤ s.hi → s.hi ≤ s.lo + 1 → s.hi < 2 ^ 64 → unpacked_vote node (packed_vote_bytes p s) ≡ Some (vote_bytes p s)
span_unpacked node p s of_node low high below =
    let front = take 24 (packed_vote_bytes p s) in
    let first : number_at (packed_vote_bytes p s) 16 ≡ s.lo = from_be_bytes-to_be_bytes_8 s.lo (omega (arith, low, below)) in
    ap (λ (n : ℕ). with_last node front (last_factor n (s.hi % 256))) first
    ∙ ap (with_last node front) (last_again s.lo s.hi low high below)
    ∙ ap (λ (n : ℕ). Some (n ∷ front ++ to_be_bytes w64 s.hi)) (sym of_node)

vote_unpacked : (node : ℕ) (p : ProposalRecord) (s : SpanRecord) → IsVoteOn node p s → unpacked_vote node (packed_vote_bytes p s) ≡ Some (vote_bytes p s)
vote_unpacked node p s h = span_unpacked node p s h.of_node h.spanned.ordered h.spanned.short (omega (arith, h.hi_below))

-- ---- from numbers to names

named_front : (key : List ℕ) (names : List (List ℕ)) (boot from to : ℕ) (name : List ℕ) (message : Message) → HasSpelling from to message → token_of message < 10000
    → slice_get names (token_of message) ≡ Some name → named_of key names boot (body_bytes from to message) ≡ Some (named_bytes key boot from to name message)
unfolding named_of
named_front key names boot from to name (AskOf proposal token span) h below at =
    let front = body_bytes from to (AskOf proposal token span) in
    let word : word_at front 6 ≡ token = from_be_bytes-to_be_bytes_4 token (omega (arith, below)) in
    ap (λ (n : ℕ). with_name key boot front (Some Ask) (slice_get names n)) word ∙ ap (with_name key boot front (Some Ask)) at
    ∙ ap (with_fields key (named_head front boot Ask) name) (vote_packed from proposal span h.1)
named_front key names boot from to name (GrantOf proposal token span) h below at =
    let front = body_bytes from to (GrantOf proposal token span) in
    let word : word_at front 6 ≡ token = from_be_bytes-to_be_bytes_4 token (omega (arith, below)) in
    ap (λ (n : ℕ). with_name key boot front (Some Grant) (slice_get names n)) word ∙ ap (with_name key boot front (Some Grant)) at
    ∙ ap (with_fields key (named_head front boot Grant) name) (vote_packed to proposal span h.1)
named_front key names boot from to name (DenyOf proposal token next) h below at =
    let front = body_bytes from to (DenyOf proposal token next) in
    let word : word_at front 6 ≡ token = from_be_bytes-to_be_bytes_4 token (omega (arith, below)) in
    ap (λ (n : ℕ). with_name key boot front (Some Deny) (slice_get names n)) word ∙ ap (with_name key boot front (Some Deny)) at
named_front key names boot from to name (FloorOf token next) h below at =
    let front = body_bytes from to (FloorOf token next) in
    let word : word_at front 6 ≡ token = from_be_bytes-to_be_bytes_4 token (omega (arith, below)) in
    ap (λ (n : ℕ). with_name key boot front (Some Floor) (slice_get names n)) word ∙ ap (with_name key boot front (Some Floor)) at

-- the bytes before a tag that the message has
pub token_below : (from to : ℕ) (message : Message) → HasSpelling from to message → token_of message < 10000
token_below from to (AskOf proposal token span) h = h.0.token_below
token_below from to (GrantOf proposal token span) h = h.0.token_below
token_below from to (DenyOf proposal token next) h = h.0.token_below
token_below from to (FloorOf token next) h = h.0.token_below

pub named_law : (key : List ℕ) (names : List (List ℕ)) (boot from to : ℕ) (name : List ℕ) (message : Message) → HasSpelling from to message → slice_get names (token_of message) ≡ Some name
    → named_at key names boot (old.datagram_bytes bare from to message) ≡ Some (named_bytes key boot from to name message)
unfolding old.datagram_bytes
named_law key names boot from to name message h at =
    let front = body_bytes from to message in
    let tag = tag_of bare front in
    let long : ltb (length (front ++ tag)) 16 ≡ false = le-ltb _ _ (omega (arith, length-append front tag, length-tag_of bare front)) in
    ap (λ (t : Bool). cond t None (named_of key names boot (old.body_of (front ++ tag)))) long
    ∙ ap (named_of key names boot) (front_of-tagged front tag (length-tag_of bare front))
    ∙ named_front key names boot from to name message h (token_below from to message h) at

-- ---- from names to numbers

pub numbered_with : (names : List (List ℕ)) (head : Head) (name fields whole : List ℕ) (number : Option ℕ) → is_of_one_token head.kind ≡ true → length name ≡ 16 → 8 ≤ length fields
    → unpacked head.kind head.from head.to fields ≡ Some whole → number_of names name ≡ number → numbered_of names head (name ++ fields) ≡ numbered_bytes head whole number
unfolding numbered_of
numbered_with names head name fields whole number one len least is at =
    let all : length (name ++ fields) ≡ 16 + length fields = omega (arith, length-append name fields, len) in
    let short : ltb (length (name ++ fields)) 24 ≡ false = le-ltb _ _ (omega (arith, all, least)) in
    let front : take 16 (name ++ fields) ≡ name = take-append-le 16 name fields (omega (arith, len)) ∙ take_all 16 name (omega (arith, len)) in
    let rest : drop 16 (name ++ fields) ≡ fields = drop_at name fields 16 len in
    rw (one, short, front, rest, is, at) refl

-- what a message's packed fields are unpacked to
pub message_unpacked : (from to : ℕ) (message : Message) → HasSpelling from to message → unpacked (kind_of_message message) from to (packed_of message) ≡ Some (fields_of message)
message_unpacked from to (AskOf proposal token span) h = vote_unpacked from proposal span h.1
message_unpacked from to (GrantOf proposal token span) h = vote_unpacked to proposal span h.1
message_unpacked from to (DenyOf proposal token next) h = refl
message_unpacked from to (FloorOf token next) h = refl

pub one_kind : (message : Message) → is_of_one_token (kind_of_message message) ≡ true
one_kind (AskOf proposal token span) = refl
one_kind (GrantOf proposal token span) = refl
one_kind (DenyOf proposal token next) = refl
one_kind (FloorOf token next) = refl

pub packed_fits : (message : Message) → (8 ≤ length (packed_of message)) × (length (packed_of message) ≤ 25)
packed_fits (AskOf proposal token span) = (omega arith, omega arith)
packed_fits (GrantOf proposal token span) = (omega arith, omega arith)
packed_fits (DenyOf proposal token next) = (omega arith, omega arith)
packed_fits (FloorOf token next) = (omega arith, omega arith)

written_so : (boot from to : ℕ) (message : Message)
    → numbered_bytes (record { kind = kind_of_message message; from = from; to = to; boot = boot }) (fields_of message) (Some (token_of message)) ≡ Some (old.datagram_bytes bare from to message)
unfolding old.datagram_bytes
written_so boot from to (AskOf proposal token span) = refl
written_so boot from to (GrantOf proposal token span) = refl
written_so boot from to (DenyOf proposal token next) = refl
written_so boot from to (FloorOf token next) = refl

pub numbered_law : (names : List (List ℕ)) (boot from to : ℕ) (name : List ℕ) (message : Message) → HasSpelling from to message → length name ≡ 16 → AreDistinct names
    → slice_get names (token_of message) ≡ Some name
    → numbered_of names (record { kind = kind_of_message message; from = from; to = to; boot = boot }) (name ++ packed_of message) ≡ Some (old.datagram_bytes bare from to message)
numbered_law names boot from to name message h len distinct at =
    let head : Head = record { kind = kind_of_message message; from = from; to = to; boot = boot } in
    numbered_with names head name (packed_of message) (fields_of message) (Some (token_of message)) (one_kind message) len (packed_fits message).0
    (message_unpacked from to message h) (number_of_place names (token_of message) name distinct at)
    ∙ written_so boot from to message

-- what a numbered datagram was made of
pub record IsNumberedOf (names : List (List ℕ)) (head : Head) (body out : List ℕ) : Type 0 where
  pub one_token : is_of_one_token head.kind ≡ true
  pub fields : List ℕ
  pub fields_are : unpacked head.kind head.from head.to (drop 16 body) ≡ Some fields
  pub number : ℕ
  pub number_is : number_of names (take 16 body) ≡ Some number
  pub bytes_are : numbered_bytes head fields (Some number) ≡ Some out

pub numbered_parts : (names : List (List ℕ)) (head : Head) (body out : List ℕ) → numbered_of names head body ≡ Some out → IsNumberedOf names head body out
unfolding numbered_of
numbered_parts names head body out e = go (is_named head body) refl (unpacked head.kind head.from head.to (drop 16 body)) refl (number_of names (take 16 body)) refl e
  where
    go : (named : Bool) → is_named head body ≡ named → (fields : Option (List ℕ)) → unpacked head.kind head.from head.to (drop 16 body) ≡ fields
        → (number : Option ℕ) → number_of names (take 16 body) ≡ number → cond named (with_number head fields number) None ≡ Some out → IsNumberedOf names head body out
    go false named fields are number is e = absurd cc
    go true named None are number is e = absurd cc
    go true named (Some fields) are None is e = absurd cc
    go true named (Some fields) are (Some number) is e = record {
      one_token = (and_parts (is_of_one_token head.kind) (not (ltb (length body) 24)) named).0;
      fields = fields;
      fields_are = are;
      number = number;
      number_is = is;
      bytes_are = e;
    }

-- ---- a named datagram that is read again

ends_are : (from to : ℕ) (message : Message) → HasSpelling from to message → HasEnds from to (token_of message)
ends_are from to (AskOf proposal token span) h = h.0
ends_are from to (GrantOf proposal token span) h = h.0
ends_are from to (DenyOf proposal token next) h = h.0
ends_are from to (FloorOf token next) h = h.0

is_head : (kind : Kind) (from to boot token : ℕ) → HasEnds from to token → boot < 2 ^ 64 → IsHead (record { kind = kind; from = from; to = to; boot = boot })
is_head kind from to boot token h below = record {
  ends = both _ _ (le-leb 1 from h.from_first) (both _ _ (le-leb from 9 h.from_last) (both _ _ (le-leb 1 to h.to_first)
      (both _ _ (le-leb to 9 h.to_last) (not_from_false _ (ne_eqb from to h.apart)))));
  boot_below = below;
}

pub numbered_at_law : (key : List ℕ) (names : List (List ℕ)) (boot from to : ℕ) (name : List ℕ) (message : Message) → HasSpelling from to message → boot < 2 ^ 64 → length name ≡ 16 → AreDistinct names
    → slice_get names (token_of message) ≡ Some name → numbered_at key names (named_bytes key boot from to name message) ≡ Some (old.datagram_bytes bare from to message)
numbered_at_law key names boot from to name message h below len distinct at =
    let head : Head = record { kind = kind_of_message message; from = from; to = to; boot = boot } in
    let body = name ++ packed_of message in
    let fits : length body ≤ 481 = omega (arith, length-append name (packed_of message), len, (packed_fits message).1) in
    ap (numbered_read names) (again key body head (is_head (kind_of_message message) from to boot (token_of message) (ends_are from to message h) below) fits)
    ∙ numbered_law names boot from to name message h len distinct at

-- ---- a numbered datagram that is written

pub vote_written : (head : Head) (node number last : ℕ) (fields out : List ℕ) → length fields ≡ 25 → last_factor (number_at fields 16) (byte_at fields 24) ≡ Some last
    → out ≡ numbered_front head number (node ∷ take 24 fields ++ to_be_bytes w64 last) ++ replicate 16 0 → Some out ≡ with_number head (unpacked_vote node fields) (Some number)
unfolding tag_of
vote_written head node number last fields out len is out_is =
    ap (λ (l : List ℕ). Some l) out_is
    ∙ sym (ap (λ (b : Bool). with_number head (cond b (with_last node (take 24 fields) (last_factor (number_at fields 16) (byte_at fields 24))) None) (Some number)) (eq-eqb (length fields) 25 len)
    ∙ ap (λ (o : Option ℕ). with_number head (with_last node (take 24 fields) o) (Some number)) is)

pub short_written : (head : Head) (number : ℕ) (fields out : List ℕ) → length fields ≤ 25 → out ≡ numbered_front head number fields ++ replicate 16 0
    → Some out ≡ with_number head (short_fields fields) (Some number)
unfolding tag_of
short_written head number fields out short out_is =
    ap (λ (l : List ℕ). Some l) out_is
    ∙ sym (ap (λ (b : Bool). with_number head (cond b None (Some fields)) (Some number)) (le-ltb 25 (length fields) short))
