-- Addresses with commas between them.
use Rattle.std.proofs.Common.{◌≡◌, ℕ, suc, ◌+◌, ◌≤◌, List, [], ◌∷◌, ◌++◌, length, refl, sym, ap, subst, ◌∙◌, arith, lit<}
use Rattle.std.specs.Fmt.{digits}
use Rattle.std.specs.Prelude.{◌==◌, codes, Option, Some, None, Result, Ok, Err, IfOk, IfSome, IfNone}
use Rattle.std.specs.Net.Grammar.{IsSocketV4Text}
use Rattle.std.specs.declared.net.socket_addr.SocketAddrV4.{SocketAddrV4}
use Rattle.std.proofs.NetLemmas.Theorems.{IsSocketV4Text_unique}
use Rattle.std.proofs.lemmas.List.{length-append}
use Rattle.std.proofs.lemmas.List.Splits.{length-slice_split}
use Rattle.udp_port.specs.Examples.{at_local}
use Rattle.oathd_words.specs.Broken.{local_text}
use Rattle.oathd_words.specs.Members.{SayAddresses, parts_of}

-- The first parts of a text are these addresses, and the rest of it has the other parts.
pub record SaysFront (text rest : List ℕ) (addresses : List SocketAddrV4) : Type 0 where
  pub parts : List (List ℕ)
  pub said : SayAddresses parts addresses
  pub split : parts_of text ≡ parts ++ parts_of rest

pub front_start : (text : List ℕ) → SaysFront text text []
front_start text = record { parts = []; said = tt; split = refl }

says_more : (parts : List (List ℕ)) (addresses : List SocketAddrV4) (part : List ℕ) (address : SocketAddrV4)
    → SayAddresses parts addresses → IsSocketV4Text part address → SayAddresses (parts ++ part ∷ []) (addresses ++ address ∷ [])
says_more [] [] part address h is = (is, tt)
says_more [] (a ∷ more) part address h is = absurd h
says_more (p ∷ ps) [] part address h is = absurd h
says_more (p ∷ ps) (a ∷ more) part address h is = (h.0, says_more ps more part address h.1 is)

append_part : (parts rest : List (List ℕ)) (part : List ℕ) → parts ++ part ∷ rest ≡ (parts ++ part ∷ []) ++ rest
append_part [] rest part = refl
append_part (p ∷ ps) rest part = ap (λ l. p ∷ l) (append_part ps rest part)

-- one part more
pub front_next : (text rest first behind : List ℕ) (addresses more : List SocketAddrV4) (address : SocketAddrV4) → SaysFront text rest addresses
    → parts_of rest ≡ first ∷ parts_of behind → IsSocketV4Text first address → more ≡ addresses ++ address ∷ [] → SaysFront text behind more
front_next text rest first behind addresses more address h cut is grown =
    subst (λ l. SaysFront text behind l) (sym grown) record {
      parts = h.parts ++ first ∷ [];
      said = says_more h.parts addresses first address h.said is;
      split = h.split ∙ (ap (λ l. h.parts ++ l) cut ∙ append_part h.parts (parts_of behind) first);
    }

-- the last part
pub front_last : (text rest : List ℕ) (addresses more : List SocketAddrV4) (address : SocketAddrV4) → SaysFront text rest addresses
    → parts_of rest ≡ rest ∷ [] → IsSocketV4Text rest address → more ≡ addresses ++ address ∷ [] → SayAddresses (parts_of text) more
front_last text rest addresses more address h cut is grown =
    subst (λ parts. SayAddresses parts more) (sym (h.split ∙ ap (λ l. h.parts ++ l) cut))
    (subst (λ l. SayAddresses (h.parts ++ rest ∷ []) l) (sym grown) (says_more h.parts addresses rest address h.said is))

says_part : (front : List (List ℕ)) (part : List ℕ) (behind : List (List ℕ)) (members : List SocketAddrV4)
    → SayAddresses (front ++ part ∷ behind) members → (address : SocketAddrV4) × IsSocketV4Text part address
says_part [] part behind [] h = absurd h
says_part [] part behind (m ∷ ms) h = (m, h.0)
says_part (p ∷ ps) part behind [] h = absurd h
says_part (p ∷ ps) part behind (m ∷ ms) h = says_part ps part behind ms h.1

-- a part that is no address
pub front_refused : (text rest first : List ℕ) (behind : List (List ℕ)) (addresses : List SocketAddrV4) → SaysFront text rest addresses
    → parts_of rest ≡ first ∷ behind → ((address : SocketAddrV4) → IsSocketV4Text first address → ⊥)
    → (members : List SocketAddrV4) → SayAddresses (parts_of text) members → ⊥
front_refused text rest first behind addresses h cut none members says =
    let found = says_part h.parts first behind members
    (subst (λ parts. SayAddresses parts members) (h.split ∙ ap (λ l. h.parts ++ l) cut) says) in
    none found.0 found.1

says_length : (parts : List (List ℕ)) (members : List SocketAddrV4) → SayAddresses parts members → length parts ≡ length members
says_length [] [] h = refl
says_length [] (m ∷ ms) h = absurd h
says_length (p ∷ ps) [] h = absurd h
says_length (p ∷ ps) (m ∷ ms) h = ap suc (says_length ps ms h.1)

-- nine parts, and more
pub front_full : (text rest : List ℕ) (addresses : List SocketAddrV4) → SaysFront text rest addresses → length addresses ≡ 9
    → (members : List SocketAddrV4) → SayAddresses (parts_of text) members → length members ≤ 9 → ⊥
front_full text rest addresses h nine members says few =
    let all : length (parts_of text) ≡ length members = says_length _ members says in
    let front : length h.parts ≡ length addresses = says_length h.parts addresses h.said in
    let sum : length (parts_of text) ≡ length h.parts + length (parts_of rest) =
    ap (length {A = List ℕ}) h.split ∙ length-append h.parts (parts_of rest) in
    let more = length-slice_split (λ byte. byte == 44) rest in
    omega (arith, all, front, sum, more, nine, few)

-- a text says one list of addresses at most
pub says_unique : (parts : List (List ℕ)) (a b : List SocketAddrV4) → SayAddresses parts a → SayAddresses parts b → a ≡ b
says_unique [] [] [] h k = refl
says_unique [] [] (y ∷ ys) h k = absurd k
says_unique [] (x ∷ xs) b h k = absurd h
says_unique (p ∷ ps) [] b h k = absurd h
says_unique (p ∷ ps) (x ∷ xs) [] h k = absurd k
says_unique (p ∷ ps) (x ∷ xs) (y ∷ ys) h k =
    subst (λ z. x ∷ xs ≡ z ∷ ys) (IsSocketV4Text_unique p x y h.0 k.0) (ap (λ l. x ∷ l) (says_unique ps xs ys h.1 k.1))

-- what is so of an answer is so of it in other words
pub some_then : {A E : Type 0} (result : Result (Option A) E) (P Q : A → Type 0) → ((x : A) → P x → Q x)
    → IfOk result (λ read. IfSome read P) → IfOk result (λ read. IfSome read Q)
some_then (Err e) P Q then h = tt
some_then (Ok None) P Q then h = tt
some_then (Ok (Some x)) P Q then h = then x h

pub none_so : {A E : Type 0} (result : Result (Option A) E) (P Q : Type 0) → (P → Q)
    → IfOk result (λ read. IfNone read P) → IfOk result (λ read. IfNone read Q)
none_so (Err e) P Q then h = tt
none_so (Ok None) P Q then h = then h
none_so (Ok (Some x)) P Q then h = tt

pub one_longer : (addresses more : List SocketAddrV4) (address : SocketAddrV4) → more ≡ addresses ++ address ∷ [] → length more ≡ length addresses + 1
one_longer addresses more address grown = ap (length {A = SocketAddrV4}) grown ∙ length-append addresses (address ∷ [])

pub some_at : {A : Type 0} (answer : Option A) (x : A) (P : A → Type 0) → answer ≡ Some x → IfSome answer P → P x
some_at answer x P is h = subst (λ o. IfSome o P) is h

pub none_at : {A : Type 0} (answer : Option A) (P : Type 0) → answer ≡ None → IfNone answer P → P
none_at answer P is h = subst (λ o. IfNone o P) is h

-- an address of this machine is spelled out
pub five : IsSocketV4Text (local_text 5) (at_local 5)
unfolding digits
five = (
  codes "127.0.0.1",
  codes ":5",
  refl,
  record { a = 127; b = 0; c = 0; d = 1; fit = (lit< tt, lit< tt, lit< tt, lit< tt); value = refl; spelled = refl },
  (codes "5", refl, ((lit< tt, (lit< tt, tt)), refl), lit< tt),
)
