-- What a node reads in a numbered datagram is what the named one says.
use Rattle.std.proofs.Common.{◌≡◌, ℕ, suc, zero, ◌+◌, ◌-◌, ◌/◌, ◌%◌, ◌^◌, ◌<◌, ◌≤◌, Bool, true, false, cond, eqb, ltb, List, [], ◌∷◌, ◌++◌, length, take, drop, Option, Some, None, refl, sym, ap, subst, ◌∙◌, arith}
use Rattle.std.specs.Prelude.{◌&&◌, slice_get}
use Rattle.std.specs.Int.{w32, w64, to_be_bytes}
use Rattle.std.proofs.Math.Seq.{drop-cons}
use Rattle.std.proofs.lemmas.Bool.{eqb-true, ltb-true}
use Rattle.std.proofs.lemmas.List.{drop_all, drop_at, get_or-drop, length-take, take-append-drop, take-append-le, take_all}
use Rattle.std.proofs.lemmas.Nat.{from_be_bytes-to_be_bytes_4, mod_below}
use Rattle.std.proofs.lemmas.Option.{slice_get_within}
use Rattle.floor_store.specs.Records.{ProposalRecord, SpanRecord}
use Rattle.vote_core.specs.declared.message.Message.{Message}
use Rattle.vote_core.specs.declared.message.Message.TheVariants.{Ask as AskOf, Grant as GrantOf, Deny as DenyOf, Floor as FloorOf}
use Rattle.vote_wire.specs.Body.{SaysMessage, body_bytes, head_bytes, vote_bytes}
use Rattle.vote_wire.specs.Bytes.{AreBytes, byte_at, number_at, word_at}
use Rattle.vote_wire.specs.Datagram as old
use Rattle.vote_wire.specs.Key.{bare, tag_of}
use Rattle.vote_wire.proofs.TagLemmas.{length-tag_of, datagram_takes}
use Rattle.vote_wire.proofs.SpellingLemmas.{spelled}
use Rattle.named_wire.specs.Datagram.{datagram_at, datagram_bytes, front_of}
use Rattle.named_wire.specs.Head.{kind_byte, kind_of}
use Rattle.named_wire.specs.declared.head.Head.{Head}
use Rattle.named_wire.specs.declared.head.Kind.{Kind}
use Rattle.named_wire.specs.declared.head.Kind.TheVariants.{Ask, Grant, Deny, Floor, Floors}
use Rattle.named_wire.proofs.HeadLemmas.{AreBytes-take, kind_again, head_takes}
use Rattle.named_wire.proofs.TagLemmas.{spelled_so, takes}
use Rattle.named_port.specs.Runs.{IsNamedOf}
use Rattle.named_port.specs.Wire.{fields_of, kind_of_message, last_factor, named_bytes, numbered_front, numbered_of, packed_of, packed_vote_bytes, short_fields, token_of, unpacked, unpacked_vote, with_last}
use Rattle.named_port.proofs.NamesLemmas.{name_of_number}
use Rattle.named_port.proofs.WireLemmas.{front_of-tagged, numbered_parts, token_below}

abbrev present : {A : Type 0} → A → Option A
present x = Some x

some_is : {A : Type 0} (x y : A) → present x ≡ present y → x ≡ y
some_is x y e = cc

-- ---- bytes

cons_fits : (x : ℕ) (xs : List ℕ) → x < 256 → AreBytes xs → AreBytes (x ∷ xs)
cons_fits x xs low fits zero = low
cons_fits x xs low fits (suc i) = fits i

append_fits : (xs ys : List ℕ) → AreBytes xs → AreBytes ys → AreBytes (xs ++ ys)
append_fits [] ys h k = k
append_fits (x ∷ xs) ys h k = cons_fits x (xs ++ ys) (h 0) (append_fits xs ys (λ i. h (suc i)) k)

none_fits : AreBytes []
none_fits i = omega arith

four_fits : (a b c d : ℕ) → AreBytes (a % 256 ∷ b % 256 ∷ c % 256 ∷ d % 256 ∷ [])
four_fits a b c d =
    cons_fits (a % 256) (b % 256 ∷ c % 256 ∷ d % 256 ∷ []) (mod_below a 256 (omega arith))
    (cons_fits (b % 256) (c % 256 ∷ d % 256 ∷ []) (mod_below b 256 (omega arith))
    (cons_fits (c % 256) (d % 256 ∷ []) (mod_below c 256 (omega arith)) (cons_fits (d % 256) [] (mod_below d 256 (omega arith)) none_fits)))

word_fits : (n : ℕ) → AreBytes (to_be_bytes w32 n)
word_fits n = four_fits (n / 256 ^ 3) (n / 256 ^ 2) (n / 256 ^ 1) n

number_fits : (n : ℕ) → AreBytes (to_be_bytes w64 n)
number_fits n =
    append_fits (n / 256 ^ 7 % 256 ∷ n / 256 ^ 6 % 256 ∷ n / 256 ^ 5 % 256 ∷ n / 256 ^ 4 % 256 ∷ []) (n / 256 ^ 3 % 256 ∷ n / 256 ^ 2 % 256 ∷ n / 256 ^ 1 % 256 ∷ n % 256 ∷ [])
    (four_fits (n / 256 ^ 7) (n / 256 ^ 6) (n / 256 ^ 5) (n / 256 ^ 4)) (four_fits (n / 256 ^ 3) (n / 256 ^ 2) (n / 256 ^ 1) n)

pub drop_fits : (n : ℕ) (bytes : List ℕ) → AreBytes bytes → AreBytes (drop n bytes)
drop_fits n bytes h i = rw get_or-drop (h (n + i))

kind_fits : (kind : Kind) → kind_byte kind < 256
kind_fits Ask = omega arith
kind_fits Grant = omega arith
kind_fits Deny = omega arith
kind_fits Floor = omega arith
kind_fits Floors = omega arith

pub front_fits : (head : Head) (number : ℕ) (fields : List ℕ) → head.from < 256 → head.to < 256 → AreBytes fields → AreBytes (numbered_front head number fields)
front_fits head number fields from to fits =
    let rest : List ℕ = to_be_bytes w32 number ++ fields in
    cons_fits 0x4f (0x56 ∷ 2 ∷ kind_byte head.kind ∷ head.from ∷ head.to ∷ rest) (omega arith)
    (cons_fits 0x56 (2 ∷ kind_byte head.kind ∷ head.from ∷ head.to ∷ rest) (omega arith)
    (cons_fits 2 (kind_byte head.kind ∷ head.from ∷ head.to ∷ rest) (omega arith)
    (cons_fits (kind_byte head.kind) (head.from ∷ head.to ∷ rest) (kind_fits head.kind)
    (cons_fits head.from (head.to ∷ rest) from (cons_fits head.to rest to (append_fits (to_be_bytes w32 number) fields (word_fits number) fits))))))

-- ---- unpacked fields

-- a last factor, by the first one and the low byte
pub record IsLast (first low last : ℕ) : Type 0 where
  pub low_is : low ≡ last % 256
  pub ordered : first ≤ last
  pub short : last ≤ first + 1
  pub below : first < 2 ^ 64 → last < 2 ^ 64

last_is : (first low last : ℕ) → last_factor first low ≡ Some last → IsLast first low last
last_is first low last e = go (eqb low (first % 256)) refl (eqb low ((first + 1) % 256)) refl (ltb (first + 1) (2 ^ 64)) refl e
  where
    go : (same : Bool) → eqb low (first % 256) ≡ same → (next : Bool) → eqb low ((first + 1) % 256) ≡ next → (below : Bool) → ltb (first + 1) (2 ^ 64) ≡ below
        → cond same (Some first) (cond (next && below) (Some (first + 1)) None) ≡ Some last → IsLast first low last
    go true is next at below lt e =
        subst (IsLast first low) (some_is first last e) (record {
          low_is = eqb-true low (first % 256) is;
          ordered = omega arith;
          short = omega arith;
          below = λ fits. fits;
        })
    go false is true at true lt e =
        subst (IsLast first low) (some_is (first + 1) last e) (record {
          low_is = eqb-true low ((first + 1) % 256) at;
          ordered = omega arith;
          short = omega arith;
          below = λ fits. ltb-true (first + 1) (2 ^ 64) lt;
        })
    go false is true at false lt e = absurd cc
    go false is false at below lt e = absurd cc

-- the parts of the fields of a vote that packed ones are unpacked to
pub record IsUnpacked (node : ℕ) (packed whole : List ℕ) : Type 0 where
  pub len : length packed ≡ 25
  pub last : ℕ
  pub span : IsLast (number_at packed 16) (byte_at packed 24) last
  pub whole_is : node ∷ take 24 packed ++ to_be_bytes w64 last ≡ whole

pub vote_parts : (node : ℕ) (packed whole : List ℕ) → unpacked_vote node packed ≡ Some whole → IsUnpacked node packed whole
vote_parts node packed whole e = go (eqb (length packed) 25) refl (last_factor (number_at packed 16) (byte_at packed 24)) refl e
  where
    go : (fits : Bool) → eqb (length packed) 25 ≡ fits → (last : Option ℕ) → last_factor (number_at packed 16) (byte_at packed 24) ≡ last
        → cond fits (with_last node (take 24 packed) last) None ≡ Some whole → IsUnpacked node packed whole
    go false fits last is e = absurd cc
    go true fits None is e = absurd cc
    go true fits (Some last) is e = record {
      len = eqb-true (length packed) 25 fits;
      last = last;
      span = last_is (number_at packed 16) (byte_at packed 24) last is;
      whole_is = some_is _ _ e;
    }

pub short_parts : (packed whole : List ℕ) → short_fields packed ≡ Some whole → packed ≡ whole
short_parts packed whole e = go (ltb 25 (length packed)) e
  where
    go : (long : Bool) → cond long None (Some packed) ≡ Some whole → packed ≡ whole
    go true e = absurd cc
    go false e = some_is packed whole e

pub vote_fits : (node : ℕ) (packed whole : List ℕ) → node < 256 → AreBytes packed → unpacked_vote node packed ≡ Some whole → AreBytes whole
vote_fits node packed whole low fits e =
    let u = vote_parts node packed whole e in
    subst AreBytes u.whole_is (cons_fits node (take 24 packed ++ to_be_bytes w64 u.last) low
    (append_fits (take 24 packed) (to_be_bytes w64 u.last) (AreBytes-take 24 packed fits) (number_fits u.last)))

-- what bytes are unpacked to are bytes
unpacked_fits : (kind : Kind) (from to : ℕ) (packed whole : List ℕ) → from < 256 → to < 256 → AreBytes packed → unpacked kind from to packed ≡ Some whole → AreBytes whole
unpacked_fits Ask from to packed whole low high fits e = vote_fits from packed whole low fits e
unpacked_fits Grant from to packed whole low high fits e = vote_fits to packed whole high fits e
unpacked_fits Deny from to packed whole low high fits e = subst AreBytes (short_parts packed whole e) fits
unpacked_fits Floor from to packed whole low high fits e = subst AreBytes (short_parts packed whole e) fits
unpacked_fits Floors from to packed whole low high fits e = absurd cc

pub vote_repacked : (node : ℕ) (packed : List ℕ) (p : ProposalRecord) (s : SpanRecord) → unpacked_vote node packed ≡ Some (vote_bytes p s) → packed ≡ packed_vote_bytes p s
vote_repacked node packed p s e =
    let whole = vote_bytes p s in
    let u = vote_parts node packed whole e in
    let len : length (take 24 packed) ≡ 24 = omega (arith, length-take 24 packed, u.len) in
    let front : take 24 packed ≡ take 24 (drop 1 whole) =
    sym (take-append-le 24 (take 24 packed) (to_be_bytes w64 u.last) (omega (arith, len)) ∙ take_all 24 (take 24 packed) (omega (arith, len)))
    ∙ ap (λ (l : List ℕ). take 24 (drop 1 l)) u.whole_is in
    let back : to_be_bytes w64 u.last ≡ to_be_bytes w64 s.hi = sym (drop_at (take 24 packed) (to_be_bytes w64 u.last) 24 len) ∙ ap (λ (l : List ℕ). drop 25 l) u.whole_is in
    let low : byte_at packed 24 ≡ s.hi % 256 = u.span.low_is ∙ ap (λ (l : List ℕ). byte_at l 7) back in
    let end : drop 24 packed ≡ byte_at packed 24 ∷ [] =
    drop-cons packed 24 0 (omega (arith, u.len)) ∙ ap (λ (l : List ℕ). byte_at packed 24 ∷ l) (drop_all 25 packed (omega (arith, u.len))) in
    sym (take-append-drop 24 packed)
    ∙ ap (λ (l : List ℕ). l ++ drop 24 packed) front
    ∙ ap (λ (l : List ℕ). take 24 (drop 1 whole) ++ l) (end ∙ ap (λ (n : ℕ). n ∷ []) low)

-- fields that are unpacked to those of a message are its packed ones
repacked : (from to : ℕ) (packed : List ℕ) (message : Message) → unpacked (kind_of_message message) from to packed ≡ Some (fields_of message) → packed ≡ packed_of message
repacked from to packed (AskOf proposal token span) e = vote_repacked from packed proposal span e
repacked from to packed (GrantOf proposal token span) e = vote_repacked to packed proposal span e
repacked from to packed (DenyOf proposal token next) e = short_parts packed _ e
repacked from to packed (FloorOf token next) e = short_parts packed _ e

-- ---- the parts of a message's bytes

body_is : (from to : ℕ) (message : Message) → body_bytes from to message ≡ head_bytes (kind_byte (kind_of_message message)) from to (token_of message) ++ fields_of message
body_is from to (AskOf proposal token span) = refl
body_is from to (GrantOf proposal token span) = refl
body_is from to (DenyOf proposal token next) = refl
body_is from to (FloorOf token next) = refl

record IsSame (head : Head) (number : ℕ) (fields : List ℕ) (from to : ℕ) (message : Message) : Type 0 where
  kind : head.kind ≡ kind_of_message message
  from_is : head.from ≡ from
  to_is : head.to ≡ to
  number_is : number ≡ token_of message
  fields_are : fields ≡ fields_of message

same_parts : (head : Head) (number : ℕ) (fields : List ℕ) (from to : ℕ) (message : Message) → number < 2 ^ 32 → token_of message < 2 ^ 32
    → numbered_front head number fields ≡ head_bytes (kind_byte (kind_of_message message)) from to (token_of message) ++ fields_of message
    → IsSame head number fields from to message
same_parts head number fields from to message low below e = record {
  kind = some_is _ _ (sym (kind_again head.kind) ∙ ap (λ (l : List ℕ). kind_of (byte_at l 3)) e ∙ kind_again (kind_of_message message));
  from_is = ap (λ (l : List ℕ). byte_at l 4) e;
  to_is = ap (λ (l : List ℕ). byte_at l 5) e;
  number_is = sym (from_be_bytes-to_be_bytes_4 number low) ∙ ap (λ (l : List ℕ). word_at l 6) e ∙ from_be_bytes-to_be_bytes_4 (token_of message) below;
  fields_are = ap (λ (l : List ℕ). drop 10 l) e;
}

-- ---- what a node reads

abbrev head_with : Kind → ℕ → ℕ → ℕ → Head
head_with kind from to boot = record { kind = kind; from = from; to = to; boot = boot }

respelled : (key : List ℕ) (head : Head) (bytes body whole : List ℕ) (from to : ℕ) (message : Message) → IsSame head (token_of message) whole from to message
    → unpacked head.kind head.from head.to (drop 16 body) ≡ Some whole → bytes ≡ datagram_bytes key head body → bytes ≡ named_bytes key head.boot from to (take 16 body) message
respelled key head bytes body whole from to message s is e =
    let unpacks : unpacked (kind_of_message message) head.from head.to (drop 16 body) ≡ Some (fields_of message) =
    ap (λ (k : Kind). unpacked k head.from head.to (drop 16 body)) (sym s.kind) ∙ is ∙ ap present s.fields_are in
    e
    ∙ ap (λ (k : Kind). datagram_bytes key (head_with k head.from head.to head.boot) body) s.kind
    ∙ ap (λ (n : ℕ). datagram_bytes key (head_with (kind_of_message message) n head.to head.boot) body) s.from_is
    ∙ ap (λ (n : ℕ). datagram_bytes key (head_with (kind_of_message message) from n head.boot) body) s.to_is
    ∙ ap (λ (b : List ℕ). datagram_bytes key (head_with (kind_of_message message) from to head.boot) b)
    (sym (take-append-drop 16 body) ∙ ap (λ (f : List ℕ). take 16 body ++ f) (repacked head.from head.to (drop 16 body) message unpacks))

pub named_of_message : (key : List ℕ) (names : List (List ℕ)) (head : Head) (bytes body out : List ℕ) (from to : ℕ) (message : Message) → length names ≤ 10000 → AreBytes bytes
    → datagram_at key bytes ≡ Some (head, body) → numbered_of names head body ≡ Some out → old.datagram_at bare out ≡ Some (from, to, message)
    → IsNamedOf key names head bytes from to message
named_of_message key names head bytes body out from to message few fits read numbered e =
    let o = takes key bytes head body read in
    let front_fit = AreBytes-take (length bytes - 16) bytes fits in
    let h = head_takes (front_of bytes) head o.head_is in
    let from_fits : head.from < 256 = subst (λ (n : ℕ). n < 256) h.from (front_fit 4) in
    let to_fits : head.to < 256 = subst (λ (n : ℕ). n < 256) h.to (front_fit 5) in
    let body_fits : AreBytes body = subst AreBytes o.body_is (drop_fits 14 (front_of bytes) front_fit) in
    let p = numbered_parts names head body out numbered in
    let whole_fits : AreBytes p.fields = unpacked_fits head.kind head.from head.to (drop 16 body) p.fields from_fits to_fits (drop_fits 16 body body_fits) p.fields_are in
    let front = numbered_front head p.number p.fields in
    let out_is : front ++ tag_of bare front ≡ out = some_is _ _ p.bytes_are in
    let d = datagram_takes bare out (from, to, message) e in
    let front_is : old.body_of out ≡ front = ap old.body_of (sym out_is) ∙ front_of-tagged front (tag_of bare front) (length-tag_of bare front) in
    let says : SaysMessage front from to message = subst (λ (b : List ℕ). SaysMessage b from to message) front_is d.1.1 in
    let spelling = spelled front from to message (front_fits head p.number p.fields from_fits to_fits whole_fits) says in
    let name_is = name_of_number names p.number (take 16 body) p.number_is in
    let within = slice_get_within names p.number (take 16 body) name_is in
    let below = token_below from to message d.1.0 in
    let s = same_parts head p.number p.fields from to message (omega (arith, within, few)) (omega (arith, below)) (spelling ∙ body_is from to message) in
    record {
      name = take 16 body;
      name_is = subst (λ (n : ℕ). slice_get names n ≡ Some (take 16 body)) s.number_is name_is;
      bytes_are = respelled key head bytes body p.fields from to message (subst (λ (n : ℕ). IsSame head n p.fields from to message) s.number_is s) p.fields_are (spelled_so key bytes body head fits read);
      from_is = sym s.from_is;
      to_is = sym s.to_is;
    }
