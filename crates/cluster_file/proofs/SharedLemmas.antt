-- Equal shared texts say the same.
use Rattle.std.proofs.Common.{◌≡◌, ℕ, ◌+◌, ◌<◌, ◌≤◌, ◌^◌, ◌%◌, Bool, true, List, [], ◌∷◌, ◌++◌, length, refl, sym, ap, ◌∙◌, arith, append_assoc, ne_eqb, true≢false}
use Rattle.std.specs.Prelude.{not, ◌&&◌, nat_le, codes, slice_index, IfSome, Option, None, Some}
use Rattle.std.specs.Fmt.{decimal}
use Rattle.std.specs.List.{list_all, flat_map, AllByRecursion}
use Rattle.std.proofs.lemmas.Bool.{and_parts}
use Rattle.std.proofs.lemmas.Fmt.{decimal_by_steps, decimal_injective}
use Rattle.std.specs.Net.Text.{ipv4_text}
use Rattle.std.proofs.lemmas.List.Folds.{list_all-append}
use Rattle.otp_core.specs.Limits.{Limits, AreLimits}
use Rattle.token_file.specs.Credential.{Credential}
use Rattle.field_text.specs.Word.{is_visible, is_word}
use Rattle.token_file.specs.Fields.{fields_of, is_line_end, lines_of}
use Rattle.token_file.specs.Row.{row_of}
use Rattle.token_file.specs.Writing.{IsCredential, row_line}
use Rattle.token_file.proofs.WritingLemmas.{inner_joined, row_is_line, row_is_read}
use Rattle.token_names.specs.Names.{IsSalt}
use Rattle.cluster_file.specs.Address.{Address, IsAddress, address_text}
use Rattle.cluster_file.specs.Shared.{IsShared, Shared, book_text, member_line, members_text, names_text, settings_text, shared_text, untaken_row, version_of, word_line}
use Rattle.cluster_file.proofs.AddressLemmas.{address_same}

-- no byte is an LF
abbrev pub has_no_end : List ℕ → Bool
has_no_end text = list_all (λ byte. not (is_line_end byte)) text

-- a text splits in one way into a line and its rest
pub cut_same : (a b r s : List ℕ) → has_no_end a ≡ true → has_no_end b ≡ true → a ++ 10 ∷ r ≡ b ++ 10 ∷ s → (a ≡ b) × (r ≡ s)
cut_same [] [] r s h k e = (refl, cc)
cut_same [] (y ∷ b) r s h k e =
    let at : 10 ≡ y = cc in
    absurd (true≢false (sym (and_parts (not (is_line_end y)) (has_no_end b) k).0 ∙ ap (λ byte. not (is_line_end byte)) (sym at)))
cut_same (x ∷ a) [] r s h k e =
    let at : x ≡ 10 = cc in
    absurd (true≢false (sym (and_parts (not (is_line_end x)) (has_no_end a) h).0 ∙ ap (λ byte. not (is_line_end byte)) at))
cut_same (x ∷ a) (y ∷ b) r s h k e =
    let at : x ≡ y = cc in
    let rest = cut_same a b r s (and_parts (not (is_line_end x)) (has_no_end a) h).1 (and_parts (not (is_line_end y)) (has_no_end b) k).1 cc in
    (cc, rest.1)

-- the rest after a common prefix
pub behind_same : (front a b : List ℕ) → front ++ a ≡ front ++ b → a ≡ b
behind_same [] a b e = e
behind_same (x ∷ front) a b e = behind_same front a b cc

-- ---- lines without an LF inside

both : (x y : Bool) → x ≡ true → y ≡ true → (x && y) ≡ true
both x y h k = rw (h, k) refl

no_end_append : (a b : List ℕ) → has_no_end a ≡ true → has_no_end b ≡ true → has_no_end (a ++ b) ≡ true
no_end_append a b h k = list_all-append (λ byte. not (is_line_end byte)) a b ∙ both (has_no_end a) (has_no_end b) h k

le_from_test : (a b : ℕ) → nat_le a b ≡ true → a ≤ b
le_from_test a b h = grind arith

-- a word has no LF
no_end_word : (word : List ℕ) → is_word word ≡ true → has_no_end word ≡ true
no_end_word word h =
    let outer = and_parts (nat_le 1 (length word) && nat_le (length word) 64) (list_all is_visible word) h in
    let inner = and_parts (nat_le 1 (length word)) (nat_le (length word) 64) outer.0 in
    inner_joined (word ∷ []) (record { some = le_from_test 1 (length word) inner.0; visible = outer.1 }, tt)

-- a text splits in one way into a line of a word and a text, and its rest
word_same : (word a b r s : List ℕ) → has_no_end a ≡ true → has_no_end b ≡ true → word_line word a ++ r ≡ word_line word b ++ s → (a ≡ b) × (r ≡ s)
unfolding word_line
word_same word a b r s h k e =
    let shape : (t u : List ℕ) → (word ++ 32 ∷ t ++ 10 ∷ []) ++ u ≡ word ++ 32 ∷ (t ++ 10 ∷ u) = λ t u. simp append_assoc in
    let same : word ++ 32 ∷ (a ++ 10 ∷ r) ≡ word ++ 32 ∷ (b ++ 10 ∷ s) = sym (shape a r) ∙ e ∙ shape b s in
    let rest : 32 ∷ (a ++ 10 ∷ r) ≡ 32 ∷ (b ++ 10 ∷ s) = behind_same word (32 ∷ (a ++ 10 ∷ r)) (32 ∷ (b ++ 10 ∷ s)) same in
    cut_same a b r s h k cc

-- ---- numbers

digit_no_end : (n : ℕ) → n < 10 → has_no_end ((48 + n) ∷ []) ≡ true
digit_no_end n low = rw (ne_eqb (48 + n) 10 (omega arith)) refl

-- the digits of a number have no LF
no_end_decimal : (n : ℕ) → n < 2 ^ 64 → has_no_end (decimal n) ≡ true
no_end_decimal n fits =
    decimal_by_steps (λ n text. has_no_end text ≡ true) digit_no_end
    (λ n text low h. no_end_append text ((48 + n % 10) ∷ []) h (digit_no_end (n % 10) (omega arith))) n fits

number_same : (word : List ℕ) (a b : ℕ) (r s : List ℕ) → a < 2 ^ 64 → b < 2 ^ 64 → word_line word (decimal a) ++ r ≡ word_line word (decimal b) ++ s
    → (a ≡ b) × (r ≡ s)
number_same word a b r s h k e =
    let same = word_same word (decimal a) (decimal b) r s (no_end_decimal a h) (no_end_decimal b k) e in
    (decimal_injective a b h k same.0, same.1)

-- ---- members

no_end_address : (address : Address) → IsAddress address → has_no_end (address_text address) ≡ true
unfolding address_text
no_end_address address fits =
    let octet : (k : ℕ) → has_no_end (decimal (slice_index address.octets k)) ≡ true =
    λ k. no_end_decimal (slice_index address.octets k) (let small : slice_index address.octets k < 2 ^ 8 = fits.octets k in omega arith) in
    let d = λ (k : ℕ). decimal (slice_index address.octets k) in
    let one = no_end_append (d 0) (codes ".") (octet 0) refl in
    let two = no_end_append (d 0 ++ codes ".") (d 1) one (octet 1) in
    let three = no_end_append (d 0 ++ codes "." ++ d 1) (codes ".") two refl in
    let four = no_end_append (d 0 ++ codes "." ++ d 1 ++ codes ".") (d 2) three (octet 2) in
    let five = no_end_append (d 0 ++ codes "." ++ d 1 ++ codes "." ++ d 2) (codes ".") four refl in
    let ip = no_end_append (d 0 ++ codes "." ++ d 1 ++ codes "." ++ d 2 ++ codes ".") (d 3) five (octet 3) in
    let colon = no_end_append (ipv4_text address.octets) (codes ":") ip refl in
    no_end_append (ipv4_text address.octets ++ codes ":") (decimal address.port) colon
    (no_end_decimal address.port (let small : address.port < 2 ^ 16 = fits.port in omega arith))

-- the line of a member, split before the address
member_parts : (number : ℕ) (member : Address) (rest tail : List ℕ)
    → (member_line number member ++ rest) ++ tail ≡ (codes "member " ++ decimal number ++ 32 ∷ []) ++ (address_text member ++ 10 ∷ (rest ++ tail))
unfolding member_line
member_parts number member rest tail = simp append_assoc

first_of_member : (number : ℕ) (member : Address) (rest : List ℕ) → slice_index (member_line number member ++ rest) 0 ≡ 109
unfolding member_line
first_of_member number member rest = refl

members_same : (number : ℕ) (xs ys : List Address) (r s : List ℕ) → AllByRecursion IsAddress xs → AllByRecursion IsAddress ys
    → slice_index r 0 ≡ 108 → slice_index s 0 ≡ 108 → members_text number xs ++ r ≡ members_text number ys ++ s → (xs ≡ ys) × (r ≡ s)
members_same number [] [] r s h k p q e = (refl, e)
members_same number [] (b ∷ ys) r s h k p q e =
    let clash = sym p ∙ ap (λ t. slice_index t 0) e ∙ ap (λ t. slice_index t 0) (append_assoc (member_line number b) (members_text (number + 1) ys) s)
    ∙ first_of_member number b (members_text (number + 1) ys ++ s) in
    absurd (omega (arith, clash))
members_same number (a ∷ xs) [] r s h k p q e =
    let clash = sym q ∙ ap (λ t. slice_index t 0) (sym e) ∙ ap (λ t. slice_index t 0) (append_assoc (member_line number a) (members_text (number + 1) xs) r)
    ∙ first_of_member number a (members_text (number + 1) xs ++ r) in
    absurd (omega (arith, clash))
members_same number (a ∷ xs) (b ∷ ys) r s h k p q e =
    let left = members_text (number + 1) xs in
    let right = members_text (number + 1) ys in
    let whole = sym (member_parts number a left r) ∙ e ∙ member_parts number b right s in
    let behind = behind_same (codes "member " ++ decimal number ++ 32 ∷ []) (address_text a ++ 10 ∷ (left ++ r)) (address_text b ++ 10 ∷ (right ++ s)) whole in
    let line = cut_same (address_text a) (address_text b) (left ++ r) (right ++ s) (no_end_address a h.0) (no_end_address b k.0) behind in
    let first = address_same a b h.0 k.0 line.0 in
    let others = members_same (number + 1) xs ys r s h.1 k.1 p q line.1 in
    (cc, others.1)

-- ---- settings

settings_same : (a b : Limits) (r s : List ℕ) → AreLimits a → AreLimits b → settings_text a ++ r ≡ settings_text b ++ s → (a ≡ b) × (r ≡ s)
unfolding settings_text
settings_same a b r s h k e =
    let shape : (w x y z t : List ℕ) → (w ++ x ++ y ++ z) ++ t ≡ w ++ (x ++ (y ++ (z ++ t))) = λ w x y z t. simp append_assoc in
    let line : List ℕ → ℕ → List ℕ = λ word n. word_line word (decimal n) in
    let whole = sym (shape (line (codes "look-ahead") a.look_ahead) (line (codes "skew") a.skew) (line (codes "range") a.range) (line (codes "drift") a.drift) r)
    ∙ e ∙ shape (line (codes "look-ahead") b.look_ahead) (line (codes "skew") b.skew) (line (codes "range") b.range) (line (codes "drift") b.drift) s in
    let one = number_same (codes "look-ahead") a.look_ahead b.look_ahead _ _ (omega arith) (omega arith) whole in
    let two = number_same (codes "skew") a.skew b.skew _ _ (omega arith) (omega arith) one.1 in
    let three = number_same (codes "range") a.range b.range _ _ (omega arith) (omega arith) two.1 in
    let four = number_same (codes "drift") a.drift b.drift _ _ (omega arith) (omega arith) three.1 in
    ((λ i. record { look_ahead = one.0 i; skew = two.0 i; range = three.0 i; drift = four.0 i }), four.1)

-- ---- rows

rows_same : (xs ys : List Credential) → AllByRecursion IsCredential xs → AllByRecursion IsCredential ys
    → lines_of (flat_map untaken_row xs) ≡ lines_of (flat_map untaken_row ys) → xs ≡ ys
rows_same [] [] h k e = refl
rows_same [] (b ∷ ys) h k e =
    let lines = e ∙ row_is_line b 0 (flat_map untaken_row ys) k.0 (omega arith) in
    let first : [] ≡ row_line b 0 = cc in
    let clash = ap (λ l. row_of (fields_of l)) first ∙ row_is_read b 0 k.0 (omega arith) in
    absurd cc
rows_same (a ∷ xs) [] h k e =
    let lines = sym e ∙ row_is_line a 0 (flat_map untaken_row xs) h.0 (omega arith) in
    let first : [] ≡ row_line a 0 = cc in
    let clash = ap (λ l. row_of (fields_of l)) first ∙ row_is_read a 0 h.0 (omega arith) in
    absurd cc
rows_same (a ∷ xs) (b ∷ ys) h k e =
    let lines = sym (row_is_line a 0 (flat_map untaken_row xs) h.0 (omega arith)) ∙ e ∙ row_is_line b 0 (flat_map untaken_row ys) k.0 (omega arith) in
    let line : row_line a 0 ≡ row_line b 0 = cc in
    let others : lines_of (flat_map untaken_row xs) ≡ lines_of (flat_map untaken_row ys) = cc in
    let rows = sym (row_is_read a 0 h.0 (omega arith)) ∙ ap (λ l. row_of (fields_of l)) line ∙ row_is_read b 0 k.0 (omega arith) in
    let first : a ≡ b = cc in
    let rest = rows_same xs ys h.1 k.1 others in
    cc

pub books_same : (xs ys : List Credential) → AllByRecursion IsCredential xs → AllByRecursion IsCredential ys → book_text xs ≡ book_text ys → xs ≡ ys
unfolding book_text
books_same xs ys h k e = rows_same xs ys h k (ap lines_of e)

-- ---- the whole text

first_of_settings : (settings : Limits) (rest : List ℕ) → slice_index (settings_text settings ++ rest) 0 ≡ 108
unfolding settings_text word_line
first_of_settings settings rest = refl

-- ---- the version and the names

-- a salt has no LF
no_end_salt : (salt : List ℕ) → IsSalt salt → has_no_end salt ≡ true
no_end_salt salt h = no_end_word salt h.1

no_end_version : (names : Option (List ℕ)) → has_no_end (version_of names) ≡ true
no_end_version None = refl
no_end_version (Some names) = refl

-- a text splits in one way into a version, names and its rest
heads_same : (a b : Option (List ℕ)) (r s : List ℕ) → IfSome a IsSalt → IfSome b IsSalt
    → word_line (codes "wakdulg") (version_of a) ++ (names_text a ++ r) ≡ word_line (codes "wakdulg") (version_of b) ++ (names_text b ++ s)
    → (a ≡ b) × (r ≡ s)
heads_same a b r s h k e =
    let versions = word_same (codes "wakdulg") (version_of a) (version_of b) (names_text a ++ r) (names_text b ++ s) (no_end_version a) (no_end_version b) e in
    by a b h k versions.0 versions.1
  where
    by : (a b : Option (List ℕ)) → IfSome a IsSalt → IfSome b IsSalt → version_of a ≡ version_of b → names_text a ++ r ≡ names_text b ++ s
        → (a ≡ b) × (r ≡ s)
    by None None h k same e = (refl, e)
    by None (Some y) h k same e = let versions : 49 ≡ 50 = ap (λ text. slice_index text 0) same in absurd (omega (arith, versions))
    by (Some x) None h k same e = let versions : 50 ≡ 49 = ap (λ text. slice_index text 0) same in absurd (omega (arith, versions))
    by (Some x) (Some y) h k same e =
        let parts = word_same (codes "names") x y r s (no_end_salt x h) (no_end_salt y k) e in
        (ap (λ (salt : List ℕ). Some salt) parts.0, parts.1)

pub shared_same : (a b : Shared) → IsShared a → IsShared b → shared_text a ≡ shared_text b → a ≡ b
shared_same a b h k e =
    let rest = λ (x : Shared). members_text 1 x.members ++ (settings_text x.settings ++ book_text x.book) in
    let shape : (v n l m t z : List ℕ) → v ++ n ++ l ++ m ++ t ++ z ≡ v ++ (n ++ (l ++ (m ++ (t ++ z)))) = λ v n l m t z. simp append_assoc in
    let line = λ (x : Shared). word_line (codes "wakdulg") (version_of x.names) in
    let life = λ (x : Shared). word_line (codes "life") x.life in
    let whole = sym (shape (line a) (names_text a.names) (life a) (members_text 1 a.members) (settings_text a.settings) (book_text a.book))
    ∙ e ∙ shape (line b) (names_text b.names) (life b) (members_text 1 b.members) (settings_text b.settings) (book_text b.book) in
    let names = heads_same a.names b.names (life a ++ rest a) (life b ++ rest b) h.names k.names whole in
    let lives = word_same (codes "life") a.life b.life (rest a) (rest b) (no_end_word a.life h.life) (no_end_word b.life k.life) names.1 in
    let members = members_same 1 a.members b.members (settings_text a.settings ++ book_text a.book) (settings_text b.settings ++ book_text b.book) h.members k.members
    (first_of_settings a.settings (book_text a.book)) (first_of_settings b.settings (book_text b.book)) lives.1 in
    let settings = settings_same a.settings b.settings (book_text a.book) (book_text b.book) h.settings k.settings members.1 in
    let books = books_same a.book b.book h.book k.book settings.1 in
    λ i. record { names = names.0 i; life = lives.0 i; members = members.0 i; settings = settings.0 i; book = books i }
