-- What every clients file gives.
use Rattle.std.proofs.Common.{◌≡◌, ℕ, ◌+◌, ◌<◌, ◌≤◌, Bool, true, false, List, [], ◌∷◌, ◌++◌, length, Option, Some, None, Result, Ok, Err, refl, sym, ap, ◌∙◌, subst, arith, length-append, true≢false, get_or, ◌==◌, ◌&&◌}
use Rattle.std.specs.Prelude.{nat_le, take, unwrap_or, IfSome, All, if◌then◌else◌}
use Rattle.std.specs.List.{AllPairs, list_any}
use Rattle.std.specs.Str.{bytes_eq}
use Rattle.std.specs.Net.Grammar.{IsDotted}
use Rattle.std.specs.Net.Reader.{Read, read_ipv4, whole_value}
use Rattle.std.proofs.lemmas.Bool.{eq-eqb}
use Rattle.std.proofs.lemmas.List.Elements.{All-push}
use Rattle.std.proofs.lemmas.List.Folds.{list_any_at}
use Rattle.std.proofs.lemmas.List.Quantifiers.{all_pairs_push}
use Rattle.std.proofs.lemmas.Slice.Eq.{bytes_eq-Decides}
use Rattle.std.proofs.NetLemmas.Ipv4.{read_ipv4_sound}
use Rattle.field_text.specs.Number.{number_of}
use Rattle.token_file.specs.Fields.{fields_of, lines_of}
use Rattle.sealed_wire.specs.declared.right.Right.{Right}
use Rattle.sealed_wire.specs.declared.right.Right.TheVariants as right
use Rattle.clients_file.specs.declared.clients.ClientEntry.{ClientEntry}
use Rattle.clients_file.specs.declared.clients.OperatorEntry.{OperatorEntry}
use Rattle.clients_file.specs.declared.fault.LineFault.{LineFault}
use Rattle.clients_file.specs.declared.fault.LineFault.TheVariants.{BadAddress, BadNumber, Twice, SameKey, NotLoopback, TooMany, NoClient, TooLong}
use Rattle.clients_file.specs.declared.word.Word.{Word}
use Rattle.clients_file.specs.declared.word.Word.TheVariants.{Client, Operator, Reader, Plain, Ahead, Failures}
use Rattle.clients_file.specs.Address.{is_loopback, loopback_of, number_of_octets, octets_of}
use Rattle.clients_file.specs.Clients.{AreClients, AreTwo, AreTwoOperators, IsLoopback, IsNoOperator, entry_of}
use Rattle.clients_file.specs.ClientsFile.{ClientsRecord, after_lines, at_line, clients_of, finished, outcome_of}
use Rattle.clients_file.specs.Fields.{◌>>=◌, key_of, number_within, one_field, two_fields, word_of}
use Rattle.clients_file.specs.Said.{Said, after_fields, after_named, after_operator, after_word, ahead_of, block_of, client_of, failures_of, has_block, has_number, has_operator, if_room, is_remark, new_key, new_number, nothing_said, operator_with, operators_have, plain_of, unless_given}
use Rattle.clients_file.proofs.AddressLemmas.{left_over}

-- ---- steps that may fail

record Steps {A B E : Type 0} (first : Result A E) (next : A → Result B E) (end : B) : Type 0 where
  middle : A
  before : first ≡ Ok middle
  after : next middle ≡ Ok end

steps : {A B E : Type 0} (first : Result A E) (next : A → Result B E) (end : B) → (first >>= next) ≡ Ok end → Steps first next end
steps (Ok x) next end e = record { middle = x; before = refl; after = e }
steps (Err fault) next end e = absurd cc

le_from_test : (a b : ℕ) → nat_le a b ≡ true → a ≤ b
le_from_test a b h = grind arith

lt_from_test : (a b : ℕ) → nat_le a b ≡ false → b < a
lt_from_test a b h = grind arith

-- ---- a client

-- where no item passes, none passes at a place
none_at : {A : Type 0} (p : A → Bool) (xs : List A) (k : ℕ) (d : A) → k < length xs → list_any p xs ≡ false → p (get_or xs k d) ≡ false
none_at p xs k d within none = by (p (get_or xs k d)) refl
  where
    by : (passes : Bool) → p (get_or xs k d) ≡ passes → p (get_or xs k d) ≡ false
    by true is = absurd (true≢false (sym (list_any_at p xs k d within is) ∙ none))
    by false is = is

same_ok : {A E : Type 0} (a b : A) → ◌≡◌ {A = Result A E} (Ok a) (Ok b) → a ≡ b
same_ok a b e = cc

-- the number of a line is new
record IsNewNumber (clients : List ClientEntry) (operators : List OperatorEntry) (number : ℕ) : Type 0 where
  to_clients : has_number number clients ≡ false
  to_operators : has_operator number operators ≡ false

-- the key of a line is new
record IsNewKey (clients : List ClientEntry) (operators : List OperatorEntry) (key : List ℕ) : Type 0 where
  to_clients : has_block (block_of key) clients ≡ false
  to_operators : operators_have (block_of key) operators ≡ false

number_fits : (clients : List ClientEntry) (operators : List OperatorEntry) (text : List ℕ) (end : ℕ) → new_number clients operators text ≡ Ok end
    → IsNewNumber clients operators end
number_fits clients operators text end e =
    let s = steps (number_within 0 65535 (number_of text))
    (λ number. if has_number number clients then Err Twice else (if has_operator number operators then Err Twice else Ok number)) end e in
    by s.middle (has_number s.middle clients) (has_operator s.middle operators) refl refl s.after
  where
    by : (number : ℕ) (known used : Bool) → has_number number clients ≡ known → has_operator number operators ≡ used
        → (if known then Err Twice else (if used then Err Twice else Ok number)) ≡ Ok end → IsNewNumber clients operators end
    by number true used is has e = absurd cc
    by number false true is has e = absurd cc
    by number false false is has e = subst (IsNewNumber clients operators) (same_ok number end e) (record { to_clients = is; to_operators = has })

key_fits : (clients : List ClientEntry) (operators : List OperatorEntry) (text end : List ℕ) → new_key clients operators text ≡ Ok end
    → IsNewKey clients operators end
key_fits clients operators text end e =
    let s = steps (key_of text)
    (λ key. if has_block (block_of key) clients then Err SameKey else (if operators_have (block_of key) operators then Err SameKey else Ok key)) end e in
    by s.middle (has_block (block_of s.middle) clients) (operators_have (block_of s.middle) operators) refl refl s.after
  where
    by : (key : List ℕ) (known used : Bool) → has_block (block_of key) clients ≡ known → operators_have (block_of key) operators ≡ used
        → (if known then Err SameKey else (if used then Err SameKey else Ok key)) ≡ Ok end → IsNewKey clients operators end
    by key true used is has e = absurd cc
    by key false true is has e = absurd cc
    by key false false is has e = subst (IsNewKey clients operators) (same_ok key end e) (record { to_clients = is; to_operators = has })

record IsNext (clients : List ClientEntry) (operators : List OperatorEntry) (client : ClientEntry) : Type 0 where
  room : length clients + length operators < 64
  number : IsNewNumber clients operators client.number
  key : IsNewKey clients operators client.key

-- each client before a line is another one
client_before : (clients : List ClientEntry) (operators : List OperatorEntry) (client : ClientEntry) → IsNext clients operators client
    → (k : ℕ) (d : ClientEntry) → k < length clients → AreTwo (get_or clients k d) client
client_before clients operators client next k d within =
    let other = get_or clients k d in
    record {
      numbers = λ same. true≢false (sym (eq-eqb other.number client.number same)
          ∙ none_at (λ c. c.number == client.number) clients k d within next.number.to_clients);
      keys = λ same. true≢false (sym ((bytes_eq-Decides (block_of other.key) (block_of client.key)).1 same)
          ∙ none_at (λ c. bytes_eq (block_of c.key) (block_of client.key)) clients k d within next.key.to_clients);
    }

-- each operator before a line is another one
operator_before : (clients : List ClientEntry) (operators : List OperatorEntry) (client : ClientEntry) → IsNext clients operators client
    → (k : ℕ) (d : OperatorEntry) → k < length operators → AreTwo (entry_of (get_or operators k d)) client
operator_before clients operators client next k d within =
    let other = get_or operators k d in
    record {
      numbers = λ same. true≢false (sym (eq-eqb other.number client.number same)
          ∙ none_at (λ o. o.number == client.number) operators k d within next.number.to_operators);
      keys = λ same. true≢false (sym ((bytes_eq-Decides (block_of other.key) (block_of client.key)).1 same)
          ∙ none_at (λ o. bytes_eq (block_of o.key) (block_of client.key)) operators k d within next.key.to_operators);
    }

other_way : (client other : ClientEntry) → AreTwo client other → AreTwo other client
other_way client other two = record { numbers = λ same. two.numbers (sym same); keys = λ same. two.keys (sym same) }

has_room : {A : Type 0} (most len : ℕ) (value end : A) → if_room most len value ≡ Ok end → (len < most) × (value ≡ end)
has_room most len value end e = by (nat_le most len) refl e
  where
    by : (full : Bool) → nat_le most len ≡ full → (if full then Err TooMany else Ok value) ≡ Ok end → (len < most) × (value ≡ end)
    by true is e = absurd cc
    by false is e = (lt_from_test most len is, same_ok value end e)

client_fits : (clients : List ClientEntry) (operators : List OperatorEntry) (fields : List (List ℕ)) (end : ClientEntry)
    → client_of clients operators fields ≡ Ok end → IsNext clients operators end
client_fits clients operators fields end e =
    let len = length clients + length operators in
    let texts = steps (two_fields fields) (λ texts. new_number clients operators texts.0 >>= λ number. new_key clients operators texts.1 >>= λ key. if_room 64 len (record { number = number; key = key })) end e in
    let number = steps (new_number clients operators texts.middle.0) (λ number. new_key clients operators texts.middle.1 >>= λ key. if_room 64 len (record { number = number; key = key })) end texts.after in
    let key = steps (new_key clients operators texts.middle.1) (λ key. if_room 64 len (record { number = number.middle; key = key })) end number.after in
    let made : ClientEntry = record { number = number.middle; key = key.middle } in
    let room = has_room 64 len made end key.after in
    subst (IsNext clients operators) room.1 (record {
      room = room.0;
      number = number_fits clients operators texts.middle.0 number.middle number.before;
      key = key_fits clients operators texts.middle.1 key.middle key.before;
    })

-- ---- a plain address

loopback_number : (a b c d : ℕ) → (b < 256) × (c < 256) × (d < 256) → a ≡ 127 → IsLoopback (number_of_octets (a ∷ b ∷ c ∷ d ∷ []))
loopback_number a b c d fit is = omega (arith, fit.0, fit.1, fit.2, is)

first_is : (octets : List ℕ) (end : ℕ) → loopback_of (Some octets) ≡ Ok end → (is_loopback octets ≡ true) × (number_of_octets octets ≡ end)
first_is octets end e = by (is_loopback octets) refl e
  where
    by : (test : Bool) → is_loopback octets ≡ test → (if test then Ok (number_of_octets octets) else Err NotLoopback) ≡ Ok end
        → (is_loopback octets ≡ true) × (number_of_octets octets ≡ end)
    by true is e = (is, same_ok (number_of_octets octets) end e)
    by false is e = absurd cc

equal_from_test : (a b : ℕ) → (a == b) ≡ true → a ≡ b
equal_from_test a b h = grind arith

dotted_loopback : (text octets : List ℕ) (end : ℕ) → IsDotted text octets → loopback_of (Some octets) ≡ Ok end → IsLoopback end
dotted_loopback text octets end h e =
    let found = first_is (h.a ∷ h.b ∷ h.c ∷ h.d ∷ []) end (ap (λ o. loopback_of (Some o)) (sym h.value) ∙ e) in
    subst IsLoopback found.1 (loopback_number h.a h.b h.c h.d (h.fit.1, h.fit.2, h.fit.3) (equal_from_test h.a 127 found.0))

address_fits : (text : List ℕ) (end : ℕ) → loopback_of (octets_of text) ≡ Ok end → IsLoopback end
address_fits text end e = by (read_ipv4 text) refl e
  where
    by : (read : Read (List ℕ)) → read_ipv4 text ≡ read → loopback_of (whole_value read) ≡ Ok end → IsLoopback end
    by None is e = absurd cc
    by (Some (octets, [])) is e =
        let found = read_ipv4_sound text octets [] is in
        dotted_loopback found.0 octets end found.2 e
    by (Some (octets, x ∷ rest)) is e =
        let none : Err BadAddress ≡ Ok end = ap loopback_of (left_over octets x rest) ∙ e in absurd cc

plain_fits : (plain : List ℕ) (fields : List (List ℕ)) (end : ℕ) → plain_of plain fields ≡ Ok end → (length plain < 16) × IsLoopback end
plain_fits plain fields end e =
    let text = steps (one_field fields) (λ text. loopback_of (octets_of text) >>= λ address. if_room 16 (length plain) address) end e in
    let address = steps (loopback_of (octets_of text.middle)) (λ address. if_room 16 (length plain) address) end text.after in
    let room = has_room 16 (length plain) address.middle end address.after in
    (room.0, subst IsLoopback room.1 (address_fits text.middle address.middle address.before))

-- ---- seconds

within_fits : (least most : ℕ) (read : Option ℕ) (end : ℕ) → number_within least most read ≡ Ok end → (least ≤ end) × (end ≤ most)
within_fits least most None end e = absurd cc
within_fits least most (Some number) end e = by (nat_le least number) (nat_le number most) refl refl e
  where
    by : (above below : Bool) → nat_le least number ≡ above → nat_le number most ≡ below
        → (if above && below then Ok number else Err BadNumber) ≡ Ok end → (least ≤ end) × (end ≤ most)
    by true true low high e =
        let same = same_ok number end e in
        (omega (arith, le_from_test least number low, same), omega (arith, le_from_test number most high, same))
    by true false low high e = absurd cc
    by false below low high e = absurd cc

given_fits : {A : Type 0} (before : Option A) (value end : A) → unless_given before value ≡ Ok end → value ≡ end
given_fits None value end e = same_ok value end e
given_fits (Some x) value end e = absurd cc

ahead_fits : (before : Option ℕ) (fields : List (List ℕ)) (end : ℕ) → ahead_of before fields ≡ Ok end → (1 ≤ end) × (end ≤ 60)
ahead_fits before fields end e =
    let text = steps (one_field fields) (λ text. number_within 1 60 (number_of text) >>= λ seconds. unless_given before seconds) end e in
    let seconds = steps (number_within 1 60 (number_of text.middle)) (λ seconds. unless_given before seconds) end text.after in
    let same = given_fits before seconds.middle end seconds.after in
    let fits = within_fits 1 60 (number_of text.middle) seconds.middle seconds.before in
    (omega (arith, fits.0, same), omega (arith, fits.1, same))

failures_fit : (before : Option ℕ) (fields : List (List ℕ)) (end : ℕ) → failures_of before fields ≡ Ok end → (1 ≤ end) × (end ≤ 65535)
failures_fit before fields end e =
    let text = steps (one_field fields) (λ text. number_within 1 65535 (number_of text) >>= λ failures. unless_given before failures) end e in
    let failures = steps (number_within 1 65535 (number_of text.middle)) (λ failures. unless_given before failures) end text.after in
    let same = given_fits before failures.middle end failures.after in
    let fits = within_fits 1 65535 (number_of text.middle) failures.middle failures.before in
    (omega (arith, fits.0, same), omega (arith, fits.1, same))

-- ---- lines

-- what lines can give
record CanBeSaid (said : Said) : Type 0 where
  few : length said.clients + length said.operators ≤ 64
  apart : AllPairs AreTwo said.clients
  operators_apart : AllPairs AreTwoOperators said.operators
  between : All (IsNoOperator said.operators) said.clients
  few_plain : length said.plain ≤ 16
  plain : All IsLoopback said.plain
  ahead : IfSome said.ahead (λ seconds. (1 ≤ seconds) × (seconds ≤ 60))
  failures : IfSome said.failures (λ failures. (1 ≤ failures) × (failures ≤ 65535))

operator_keeps : (said : Said) (right : Right) (fields : List (List ℕ)) (end : Said) → CanBeSaid said → after_operator said right fields ≡ Ok end → CanBeSaid end
operator_keeps said right fields end can e =
    let s = steps (client_of said.clients said.operators fields) (λ entry. Ok (record said { operators = said.operators ++ operator_with right entry ∷ [] })) end e in
    let next = client_fits said.clients said.operators fields s.middle s.before in
    let new : OperatorEntry = operator_with right s.middle in
    let same : record said { operators = said.operators ++ new ∷ [] } ≡ end = same_ok _ end s.after in
    subst CanBeSaid same (record {
      few = let room = next.room in omega (arith, length-append said.operators (new ∷ []));
      apart = can.apart;
      operators_apart = all_pairs_push AreTwoOperators said.operators new can.operators_apart (operator_before said.clients said.operators s.middle next);
      between = λ k d within. All-push (λ operator. AreTwo (get_or said.clients k d) (entry_of operator)) said.operators new (can.between k d within)
          (client_before said.clients said.operators s.middle next k d within);
      few_plain = can.few_plain;
      plain = can.plain;
      ahead = can.ahead;
      failures = can.failures;
    })

word_keeps : (said : Said) (word : Word) (fields : List (List ℕ)) (end : Said) → CanBeSaid said → after_word said word fields ≡ Ok end → CanBeSaid end
word_keeps said Client fields end can e =
    let s = steps (client_of said.clients said.operators fields) (λ client. Ok (record said { clients = said.clients ++ client ∷ [] })) end e in
    let next = client_fits said.clients said.operators fields s.middle s.before in
    let same : record said { clients = said.clients ++ s.middle ∷ [] } ≡ end = same_ok _ end s.after in
    subst CanBeSaid same (record {
      few = let room = next.room in omega (arith, length-append said.clients (s.middle ∷ []));
      apart = all_pairs_push AreTwo said.clients s.middle can.apart (client_before said.clients said.operators s.middle next);
      operators_apart = can.operators_apart;
      between = All-push (IsNoOperator said.operators) said.clients s.middle can.between
          (λ k d within. other_way (entry_of (get_or said.operators k d)) s.middle (operator_before said.clients said.operators s.middle next k d within));
      few_plain = can.few_plain;
      plain = can.plain;
      ahead = can.ahead;
      failures = can.failures;
    })
word_keeps said Operator fields end can e = operator_keeps said right.Operator fields end can e
word_keeps said Reader fields end can e = operator_keeps said right.Reader fields end can e
word_keeps said Plain fields end can e =
    let s = steps (plain_of said.plain fields) (λ address. Ok (record said { plain = said.plain ++ address ∷ [] })) end e in
    let next = plain_fits said.plain fields s.middle s.before in
    let same : record said { plain = said.plain ++ s.middle ∷ [] } ≡ end = same_ok _ end s.after in
    subst CanBeSaid same (record {
      few = can.few;
      apart = can.apart;
      operators_apart = can.operators_apart;
      between = can.between;
      few_plain = let room = next.0 in omega (arith, length-append said.plain (s.middle ∷ []));
      plain = All-push IsLoopback said.plain s.middle can.plain next.1;
      ahead = can.ahead;
      failures = can.failures;
    })
word_keeps said Ahead fields end can e =
    let s = steps (ahead_of said.ahead fields) (λ seconds. Ok (record said { ahead = Some seconds })) end e in
    let same : record said { ahead = Some s.middle } ≡ end = same_ok _ end s.after in
    subst CanBeSaid same (record {
      few = can.few;
      apart = can.apart;
      operators_apart = can.operators_apart;
      between = can.between;
      few_plain = can.few_plain;
      plain = can.plain;
      ahead = ahead_fits said.ahead fields s.middle s.before;
      failures = can.failures;
    })
word_keeps said Failures fields end can e =
    let s = steps (failures_of said.failures fields) (λ failures. Ok (record said { failures = Some failures })) end e in
    let same : record said { failures = Some s.middle } ≡ end = same_ok _ end s.after in
    subst CanBeSaid same (record {
      few = can.few;
      apart = can.apart;
      operators_apart = can.operators_apart;
      between = can.between;
      few_plain = can.few_plain;
      plain = can.plain;
      ahead = can.ahead;
      failures = failures_fit said.failures fields s.middle s.before;
    })

named_keeps : (said : Said) (word : Option Word) (fields : List (List ℕ)) (end : Said) → CanBeSaid said → after_named said word fields ≡ Ok end → CanBeSaid end
named_keeps said None fields end can e = absurd cc
named_keeps said (Some word) fields end can e = word_keeps said word fields end can e

fields_keep : (said : Said) (fields : List (List ℕ)) (end : Said) → CanBeSaid said → after_fields said fields ≡ Ok end → CanBeSaid end
fields_keep said [] end can e = subst CanBeSaid (same_ok said end e) can
fields_keep said (word ∷ fields) end can e = by (is_remark word) e
  where
    by : (test : Bool) → (if test then Ok said else after_named said (word_of word) fields) ≡ Ok end → CanBeSaid end
    by true e = subst CanBeSaid (same_ok said end e) can
    by false e = named_keeps said (word_of word) fields end can e

at_ok : {A : Type 0} (number : ℕ) (read : Result A LineFault) (end : A) → at_line number read ≡ Ok end → read ≡ Ok end
at_ok number (Ok x) end e = cc
at_ok number (Err fault) end e = absurd cc

lines_keep : (number : ℕ) (said : Said) (lines : List (List ℕ)) (end : Said) → CanBeSaid said → after_lines number said lines ≡ Ok end → CanBeSaid end
lines_keep number said [] end can e = subst CanBeSaid (same_ok said end e) can
lines_keep number said (line ∷ lines) end can e =
    let s = steps (at_line number (after_fields said (fields_of line))) (λ new. after_lines (number + 1) new lines) end e in
    lines_keep (number + 1) s.middle lines end
    (fields_keep said (fields_of line) s.middle can (at_ok number (after_fields said (fields_of line)) s.middle s.before)) s.after

nothing_keeps : CanBeSaid nothing_said
nothing_keeps = record {
  few = omega arith;
  apart = λ i j d before within. absurd (omega (arith, within));
  operators_apart = λ i j d before within. absurd (omega (arith, within));
  between = λ k d within. absurd (omega (arith, within));
  few_plain = omega arith;
  plain = λ k d within. absurd (omega (arith, within));
  ahead = tt;
  failures = tt;
}

-- ---- the whole file

within_default : (given : Option ℕ) → IfSome given (λ n. (1 ≤ n) × (n ≤ 60)) → (1 ≤ unwrap_or given 2) × (unwrap_or given 2 ≤ 60)
within_default None h = (omega arith, omega arith)
within_default (Some n) h = h

one_of_two : (a b : ℕ) → ((a == 0) && (b == 0)) ≡ false → 1 ≤ a + b
one_of_two a b e = grind arith

finished_fits : (said : Said) (end : ClientsRecord) → CanBeSaid said → finished said ≡ Ok end → AreClients end
finished_fits said end can e = by (length said.clients == 0 && length said.plain == 0) refl e
  where
    made : ClientsRecord
    made = record { clients = said.clients; operators = said.operators; plain = said.plain; ahead = unwrap_or said.ahead 2; failures = said.failures }

    by : (none : Bool) → (length said.clients == 0 && length said.plain == 0) ≡ none → (if none then Err NoClient else Ok made) ≡ Ok end
        → AreClients end
    by true is e = absurd cc
    by false is e =
        let ahead = within_default said.ahead can.ahead in
        subst AreClients (same_ok made end e) (record {
          some = one_of_two (length said.clients) (length said.plain) is;
          few = can.few;
          apart = can.apart;
          operators_apart = can.operators_apart;
          between = can.between;
          few_plain = can.few_plain;
          plain = can.plain;
          least_ahead = ahead.0;
          most_ahead = ahead.1;
          failures = can.failures;
        })

outcome_fits : (limit : ℕ) (text : List ℕ) (end : ClientsRecord) → outcome_of limit text ≡ Ok end → AreClients end
outcome_fits limit text end e = by (nat_le (length text) limit) e
  where
    by : (short : Bool)
        → (if short then (after_lines 1 nothing_said (lines_of text) >>= λ said. at_line (length (lines_of text)) (finished said))
        else Err (length (lines_of (take limit text)), TooLong)) ≡ Ok end → AreClients end
    by true e =
        let s = steps (after_lines 1 nothing_said (lines_of text)) (λ said. at_line (length (lines_of text)) (finished said)) end e in
        let can = lines_keep 1 nothing_said (lines_of text) s.middle nothing_keeps s.before in
        finished_fits s.middle end can (at_ok (length (lines_of text)) (finished s.middle) end s.after)
    by false e = absurd cc

pub files_fit : (text : List ℕ) (clients : ClientsRecord) → clients_of text ≡ Ok clients → AreClients clients
files_fit text clients e = outcome_fits 65536 text clients e
