-- What every cluster is that a file says.
use Rattle.std.proofs.Common.{◌≡◌, ℕ, zero, suc, ◌+◌, ◌<◌, ◌≤◌, Bool, true, false, List, [], ◌∷◌, ◌++◌, length, Option, Some, None, Result, Ok, Err, refl, sym, ap, ◌∙◌, subst, arith, length-append, ne_eqb}
use Rattle.std.specs.Prelude.{not, nat_eq, nat_le, option_map, take, slice_index, unwrap_or, IfOk, IfSome, if◌then◌else◌}
use Rattle.std.specs.List.{AllByRecursion}
use Rattle.std.proofs.lemmas.List.{length-map}
use Rattle.std.proofs.lemmas.Option.{none-some}
use Rattle.std.specs.Borrow.{Bor}
use Rattle.std.specs.Option.{option_copied}
use Rattle.std.proofs.lemmas.Bool.{and_parts}
use Rattle.std.specs.Net.Grammar.{IsDotted}
use Rattle.std.specs.Net.Reader.{Read, read_socket_v4, whole_value}
use Rattle.std.proofs.NetLemmas.Sockets.{read_socket_v4_sound}
use Rattle.field_text.specs.Number.{number_of}
use Rattle.otp_core.specs.Limits.{AreLimits}
use Rattle.token_file.specs.Credential.{Credential}
use Rattle.field_text.specs.Word.{is_word}
use Rattle.token_file.specs.Fields.{fields_of, lines_of}
use Rattle.token_file.specs.Writing.{IsCredential}
use Rattle.token_names.specs.Names.{IsSalt}
use Rattle.cluster_file.specs.declared.cluster.Cluster.{Cluster}
use Rattle.cluster_file.specs.declared.fault.LineFault.{LineFault}
use Rattle.cluster_file.specs.declared.fault.LineFault.TheVariants.{BadNumber, BadLife, BadNames, MemberNumber, TooManyMembers, TwiceAddress, NoMember, NoNames, TooLong}
use Rattle.cluster_file.specs.declared.word.Word.{Word}
use Rattle.cluster_file.specs.declared.word.Word.TheVariants.{Member, LookAhead, Skew, Range, Drift, KeyFile, Key, Life, Names, NewTokens}
use Rattle.cluster_file.specs.Address.{Address, IsAddress, address_of, address_value, address_with, is_among}
use Rattle.cluster_file.specs.ClusterFile.{ClusterRecord, after_lines, at_line, cluster_of, cluster_value, cluster_with_key, cluster_with_life, cluster_with_names, finished, lacks_names, outcome_of, settings_of}
use Rattle.cluster_file.specs.Fields.{◌>>=◌, is_salt, life_of, number_up_to, one_field, salt_of, setting_of, two_fields, unless_given, word_of}
use Rattle.cluster_file.specs.Said.{Given, InFile, KeyPlace, Said, after_fields, after_named, after_word, bytes_of, fresh_in, is_number, is_remark, life_in, member_of, names_in, new_member, next_member, nothing_said, path_of}
use Rattle.cluster_file.specs.Shared.{IsShared, shared_book, shared_of}
use Rattle.cluster_file.proofs.AddressLemmas.{left_over, socket_of}

-- ---- steps that may fail

record Steps {A B E : Type 0} (first : Result A E) (next : A → Result B E) (end : B) : Type 0 where
  middle : A
  before : first ≡ Ok middle
  after : next middle ≡ Ok end

steps : {A B E : Type 0} (first : Result A E) (next : A → Result B E) (end : B) → (first >>= next) ≡ Ok end → Steps first next end
steps (Ok x) next end e = record { middle = x; before = refl; after = e }
steps (Err fault) next end e = absurd cc

le_from_test : (a b : ℕ) → nat_le a b ≡ true → a ≤ b
le_from_test a b h = grind arith

lt_from_test : (a b : ℕ) → nat_le a b ≡ false → b < a
lt_from_test a b h = grind arith

-- ---- numbers, incarnations and addresses

new_said : {A B : Type 0} (before : Option A) (said : Result B LineFault) (end : B) → unless_given before said ≡ Ok end → said ≡ Ok end
new_said None said end e = e
new_said (Some x) said end e = absurd cc

up_to : (most : ℕ) (read : Option ℕ) (end : ℕ) → number_up_to most read ≡ Ok end → end ≤ most
up_to most None end e = absurd cc
up_to most (Some number) end e = by (nat_le number most) refl e
  where
    by : (test : Bool) → nat_le number most ≡ test → (if test then Ok number else Err BadNumber) ≡ Ok end → end ≤ most
    by true is e = let same : number ≡ end = cc in omega (arith, le_from_test number most is)
    by false is e = absurd cc

setting_fits : (most : ℕ) (before : Option ℕ) (fields : List (List ℕ)) (end : ℕ) → setting_of most before fields ≡ Ok end → end ≤ most
setting_fits most before fields end e =
    let s = steps (one_field fields) (λ text. unless_given before (number_up_to most (number_of text))) end e in
    up_to most (number_of s.middle) end (new_said before (number_up_to most (number_of s.middle)) end s.after)

word_life : (text end : List ℕ) → life_of text ≡ Ok end → is_word end ≡ true
word_life text end e = by (is_word text) refl e
  where
    by : (test : Bool) → is_word text ≡ test → (if test then Ok text else Err BadLife) ≡ Ok end → is_word end ≡ true
    by true is e = let same : text ≡ end = cc in ap is_word (sym same) ∙ is
    by false is e = absurd cc

life_fits : (before : Option (List ℕ)) (fields : List (List ℕ)) (end : List ℕ) → life_in before fields ≡ Ok end → is_word end ≡ true
life_fits before fields end e =
    let s = steps (one_field fields) (λ text. unless_given before (life_of text)) end e in
    word_life s.middle end (new_said before (life_of s.middle) end s.after)

salt_word : (text end : List ℕ) → salt_of text ≡ Ok end → IsSalt end
salt_word text end e = by (is_salt text) refl e
  where
    by : (test : Bool) → is_salt text ≡ test → (if test then Ok text else Err BadNames) ≡ Ok end → IsSalt end
    by true is e =
        let same : text ≡ end = cc in
        let parts = and_parts (nat_le 12 (length text)) (is_word text) is in
        subst IsSalt same (le_from_test 12 (length text) parts.0, parts.1)
    by false is e = absurd cc

names_fit : (before : Option (List ℕ)) (fields : List (List ℕ)) (end : List ℕ) → names_in before fields ≡ Ok end → IsSalt end
names_fit before fields end e =
    let s = steps (one_field fields) (λ text. unless_given before (salt_of text)) end e in
    salt_word s.middle end (new_said before (salt_of s.middle) end s.after)

each_octet : (a b c d : ℕ) → (a < 256) × (b < 256) × (c < 256) × (d < 256) → (k : ℕ) → slice_index (a ∷ b ∷ c ∷ d ∷ []) k < 256
each_octet a b c d fit zero = fit.0
each_octet a b c d fit (suc zero) = fit.1
each_octet a b c d fit (suc (suc zero)) = fit.2
each_octet a b c d fit (suc (suc (suc zero))) = fit.3
each_octet a b c d fit (suc (suc (suc (suc k)))) = omega arith

dotted_fits : (text octets : List ℕ) → IsDotted text octets → (length octets ≡ 4) × ((k : ℕ) → slice_index octets k < 256)
dotted_fits text octets h = (
  ap length h.value,
  λ k. subst (λ l. slice_index l k < 256) (sym h.value) (each_octet h.a h.b h.c h.d h.fit k),
)

address_fits : (text : List ℕ) (end : Address) → address_of text ≡ Some end → IsAddress end
unfolding read_socket_v4
address_fits text end e = by (read_socket_v4 text) refl e
  where
    by : (read : Read (List ℕ × ℕ)) → read_socket_v4 text ≡ read → option_map address_with (whole_value read) ≡ Some end → IsAddress end
    by None is e = absurd (none-some _ e)
    by (Some (parts, [])) is e =
        let found = read_socket_v4_sound text [] (socket_of (address_with parts)) is in
        let says = found.2 in
        let octets = dotted_fits says.0 parts.0 says.3 in
        let same : address_with parts ≡ end = cc in
        subst IsAddress same (record { four = octets.0; octets = octets.1; port = says.4.3 })
    by (Some (parts, x ∷ rest)) is e = absurd (none-some _ (left_over parts x rest ∙ e))

-- ---- members

record IsNewMember (members : List Address) (member : Address) : Type 0 where
  few : length members < 9
  fits : IsAddress member

new_fits : (members : List Address) (read : Option Address) (end : Address) → new_member members read ≡ Ok end → read ≡ Some end
new_fits members None end e = absurd cc
new_fits members (Some address) end e = by (is_among address members) e
  where
    by : (test : Bool) → (if test then Err TwiceAddress else Ok address) ≡ Ok end → Some address ≡ Some end
    by true e = absurd cc
    by false e = cc

next_fits : (members : List Address) (number address : List ℕ) (end : Address) → next_member members number address ≡ Ok end → IsNewMember members end
next_fits members number address end e = by (nat_le 9 (length members)) (not (is_number (number_of number) (length members + 1))) refl e
  where
    by : (full other : Bool) → nat_le 9 (length members) ≡ full
        → (if full then Err TooManyMembers else if other then Err MemberNumber else new_member members (address_of address)) ≡ Ok end
        → IsNewMember members end
    by true other is e = absurd cc
    by false true is e = absurd cc
    by false false is e =
        record { few = lt_from_test 9 (length members) is; fits = address_fits address end (new_fits members (address_of address) end e) }

member_fits : (members : List Address) (fields : List (List ℕ)) (end : Address) → member_of members fields ≡ Ok end → IsNewMember members end
member_fits members fields end e =
    let s = steps (two_fields fields) (λ texts. next_member members texts.0 texts.1) end e in
    next_fits members s.middle.0 s.middle.1 end s.after

-- ---- lines

-- what lines can say
pub record CanBeSaid (said : Said) : Type 0 where
  pub few : length said.members ≤ 9
  pub members : AllByRecursion IsAddress said.members
  pub look_ahead : IfSome said.look_ahead (λ n. n ≤ 100)
  pub skew : IfSome said.skew (λ n. n ≤ 10)
  pub range : IfSome said.range (λ n. n ≤ 1000)
  pub drift : IfSome said.drift (λ n. n ≤ 10)
  pub life : IfSome said.life (λ life. is_word life ≡ true)
  pub names : IfSome said.names IsSalt

all_more : (members : List Address) (member : Address) → AllByRecursion IsAddress members → IsAddress member → AllByRecursion IsAddress (members ++ member ∷ [])
all_more [] member h fits = (fits, tt)
all_more (x ∷ members) member h fits = (h.0, all_more members member h.1 fits)

word_keeps : (said : Said) (word : Word) (fields : List (List ℕ)) (end : Said) → CanBeSaid said → after_word said word fields ≡ Ok end → CanBeSaid end
word_keeps said Member fields end can e =
    let s = steps (member_of said.members fields) (λ member. Ok (record said { members = said.members ++ member ∷ [] })) end e in
    let new = member_fits said.members fields s.middle s.before in
    let same : record said { members = said.members ++ s.middle ∷ [] } ≡ end = let k = s.after in cc in
    subst CanBeSaid same (record {
      few = let few = new.few in omega (arith, length-append said.members (s.middle ∷ []));
      members = all_more said.members s.middle can.members new.fits;
      look_ahead = can.look_ahead;
      skew = can.skew;
      range = can.range;
      drift = can.drift;
      life = can.life;
      names = can.names;
    })
word_keeps said LookAhead fields end can e =
    let s = steps (setting_of 100 said.look_ahead fields) (λ number. Ok (record said { look_ahead = Some number })) end e in
    let same : record said { look_ahead = Some s.middle } ≡ end = let k = s.after in cc in
    subst CanBeSaid same (record {
      few = can.few;
      members = can.members;
      look_ahead = setting_fits 100 said.look_ahead fields s.middle s.before;
      skew = can.skew;
      range = can.range;
      drift = can.drift;
      life = can.life;
      names = can.names;
    })
word_keeps said Skew fields end can e =
    let s = steps (setting_of 10 said.skew fields) (λ number. Ok (record said { skew = Some number })) end e in
    let same : record said { skew = Some s.middle } ≡ end = let k = s.after in cc in
    subst CanBeSaid same (record {
      few = can.few;
      members = can.members;
      look_ahead = can.look_ahead;
      skew = setting_fits 10 said.skew fields s.middle s.before;
      range = can.range;
      drift = can.drift;
      life = can.life;
      names = can.names;
    })
word_keeps said Range fields end can e =
    let s = steps (setting_of 1000 said.range fields) (λ number. Ok (record said { range = Some number })) end e in
    let same : record said { range = Some s.middle } ≡ end = let k = s.after in cc in
    subst CanBeSaid same (record {
      few = can.few;
      members = can.members;
      look_ahead = can.look_ahead;
      skew = can.skew;
      range = setting_fits 1000 said.range fields s.middle s.before;
      drift = can.drift;
      life = can.life;
      names = can.names;
    })
word_keeps said Drift fields end can e =
    let s = steps (setting_of 10 said.drift fields) (λ number. Ok (record said { drift = Some number })) end e in
    let same : record said { drift = Some s.middle } ≡ end = let k = s.after in cc in
    subst CanBeSaid same (record {
      few = can.few;
      members = can.members;
      look_ahead = can.look_ahead;
      skew = can.skew;
      range = can.range;
      drift = setting_fits 10 said.drift fields s.middle s.before;
      life = can.life;
      names = can.names;
    })
word_keeps said KeyFile fields end can e =
    let s = steps (path_of said.key fields) (λ path. Ok (record said { key = Some (InFile path) })) end e in
    let same : record said { key = Some (InFile s.middle) } ≡ end = let k = s.after in cc in
    subst CanBeSaid same (record {
      few = can.few;
      members = can.members;
      look_ahead = can.look_ahead;
      skew = can.skew;
      range = can.range;
      drift = can.drift;
      life = can.life;
      names = can.names;
    })
word_keeps said Key fields end can e =
    let s = steps (bytes_of said.key fields) (λ key. Ok (record said { key = Some (Given key) })) end e in
    let same : record said { key = Some (Given s.middle) } ≡ end = let k = s.after in cc in
    subst CanBeSaid same (record {
      few = can.few;
      members = can.members;
      look_ahead = can.look_ahead;
      skew = can.skew;
      range = can.range;
      drift = can.drift;
      life = can.life;
      names = can.names;
    })
word_keeps said Life fields end can e =
    let s = steps (life_in said.life fields) (λ life. Ok (record said { life = Some life })) end e in
    let same : record said { life = Some s.middle } ≡ end = let k = s.after in cc in
    subst CanBeSaid same (record {
      few = can.few;
      members = can.members;
      look_ahead = can.look_ahead;
      skew = can.skew;
      range = can.range;
      drift = can.drift;
      life = life_fits said.life fields s.middle s.before;
      names = can.names;
    })
word_keeps said Names fields end can e =
    let s = steps (names_in said.names fields) (λ salt. Ok (record said { names = Some salt })) end e in
    let same : record said { names = Some s.middle } ≡ end = let k = s.after in cc in
    subst CanBeSaid same (record {
      few = can.few;
      members = can.members;
      look_ahead = can.look_ahead;
      skew = can.skew;
      range = can.range;
      drift = can.drift;
      life = can.life;
      names = names_fit said.names fields s.middle s.before;
    })
word_keeps said NewTokens fields end can e =
    let s = steps (fresh_in said.fresh fields) (λ given. Ok (record said { fresh = true })) end e in
    let same : record said { fresh = true } ≡ end = let k = s.after in cc in
    subst CanBeSaid same (record {
      few = can.few;
      members = can.members;
      look_ahead = can.look_ahead;
      skew = can.skew;
      range = can.range;
      drift = can.drift;
      life = can.life;
      names = can.names;
    })

named_keeps : (said : Said) (word : Option Word) (fields : List (List ℕ)) (end : Said) → CanBeSaid said → after_named said word fields ≡ Ok end → CanBeSaid end
named_keeps said None fields end can e = absurd cc
named_keeps said (Some word) fields end can e = word_keeps said word fields end can e

same_said : (said end : Said) → CanBeSaid said → ◌≡◌ {A = Result Said LineFault} (Ok said) (Ok end) → CanBeSaid end
same_said said end can e = let same : said ≡ end = cc in subst CanBeSaid same can

fields_keep : (said : Said) (fields : List (List ℕ)) (end : Said) → CanBeSaid said → after_fields said fields ≡ Ok end → CanBeSaid end
fields_keep said [] end can e = same_said said end can e
fields_keep said (word ∷ fields) end can e = by (is_remark word) e
  where
    by : (test : Bool) → (if test then Ok said else after_named said (word_of word) fields) ≡ Ok end → CanBeSaid end
    by true e = same_said said end can e
    by false e = named_keeps said (word_of word) fields end can e

at_ok : {A : Type 0} (number : ℕ) (read : Result A LineFault) (end : A) → at_line number read ≡ Ok end → read ≡ Ok end
at_ok number (Ok x) end e = cc
at_ok number (Err fault) end e = absurd cc

lines_keep : (number : ℕ) (said : Said) (lines : List (List ℕ)) (end : Said) → CanBeSaid said → after_lines number said lines ≡ Ok end → CanBeSaid end
lines_keep number said [] end can e = let same : said ≡ end = cc in subst CanBeSaid same can
lines_keep number said (line ∷ lines) end can e =
    let s = steps (at_line number (after_fields said (fields_of line))) (λ new. after_lines (number + 1) new lines) end e in
    lines_keep (number + 1) s.middle lines end
    (fields_keep said (fields_of line) s.middle can (at_ok number (after_fields said (fields_of line)) s.middle s.before)) s.after

-- ---- the whole file

up_to_default : (given : Option ℕ) (most default : ℕ) → IfSome given (λ n. n ≤ most) → default ≤ most → unwrap_or given default ≤ most
up_to_default None most default h k = k
up_to_default (Some n) most default h k = h

settings_fit : (said : Said) → CanBeSaid said → AreLimits (settings_of said)
settings_fit said can = (
  up_to_default said.look_ahead 100 10 can.look_ahead (omega arith),
  up_to_default said.skew 10 1 can.skew (omega arith),
  up_to_default said.range 1000 100 can.range (omega arith),
  up_to_default said.drift 10 0 can.drift (omega arith),
)

-- what every cluster has that a file says
record HasParts (cluster : ClusterRecord) : Type 0 where
  first : 1 ≤ length cluster.members
  few : length cluster.members ≤ 9
  life : is_word cluster.life ≡ true
  names : IfSome cluster.names IsSalt
  members : AllByRecursion IsAddress cluster.members
  settings : AreLimits cluster.settings

with_names_fits : (said : Said) (key : KeyPlace) (life : List ℕ) (end : ClusterRecord) → CanBeSaid said → 1 ≤ length said.members
    → is_word life ≡ true → cluster_with_names said key life ≡ Ok end → HasParts end
with_names_fits said key life end can first h e = by (lacks_names said.fresh said.names) e
  where
    made : ClusterRecord
    made = record {
      members = said.members;
      settings = settings_of said;
      key = key;
      life = life;
      names = said.names;
      fresh = said.fresh;
    }

    by : (test : Bool) → (if test then Err NoNames else Ok made) ≡ Ok end → HasParts end
    by true e = absurd cc
    by false e =
        let same : made ≡ end = cc in
        subst HasParts same (record {
          first = first;
          few = can.few;
          life = h;
          names = can.names;
          members = can.members;
          settings = settings_fit said can;
        })

with_life_fits : (said : Said) (key : KeyPlace) (life : Option (List ℕ)) (end : ClusterRecord) → CanBeSaid said → 1 ≤ length said.members
    → IfSome life (λ life. is_word life ≡ true) → cluster_with_life said key life ≡ Ok end → HasParts end
with_life_fits said key None end can first h e = absurd cc
with_life_fits said key (Some life) end can first h e = with_names_fits said key life end can first h e

with_key_fits : (said : Said) (key : Option KeyPlace) (end : ClusterRecord) → CanBeSaid said → 1 ≤ length said.members
    → cluster_with_key said key ≡ Ok end → HasParts end
with_key_fits said None end can first e = absurd cc
with_key_fits said (Some key) end can first e = with_life_fits said key said.life end can first can.life e

finished_fits : (said : Said) (end : ClusterRecord) → CanBeSaid said → finished said ≡ Ok end → HasParts end
finished_fits said end can e = by said.members refl e
  where
    by : (members : List Address) → said.members ≡ members
        → (if nat_eq (length members) 0 then Err NoMember else cluster_with_key said said.key) ≡ Ok end → HasParts end
    by [] same e = absurd cc
    by (x ∷ members) same e =
        let count : length said.members ≡ length (x ∷ members) = ap (length {A = Address}) same in
        with_key_fits said said.key end can (omega (arith, count)) (sym (rw (ne_eqb (length (x ∷ members)) 0 (omega arith)) refl) ∙ e)

outcome_fits : (limit : ℕ) (text : List ℕ) (end : ClusterRecord) → outcome_of limit text ≡ Ok end → HasParts end
outcome_fits limit text end e = by (nat_le (length text) limit) e
  where
    by : (short : Bool)
        → (if short then (after_lines 1 nothing_said (lines_of text) >>= λ said. at_line (length (lines_of text)) (finished said))
        else Err (length (lines_of (take limit text)), TooLong)) ≡ Ok end → HasParts end
    by true e =
        let s = steps (after_lines 1 nothing_said (lines_of text)) (λ said. at_line (length (lines_of text)) (finished said)) end e in
        let can = lines_keep 1 nothing_said (lines_of text) s.middle
        (record { few = omega arith; members = tt; look_ahead = tt; skew = tt; range = tt; drift = tt; life = tt; names = tt }) s.before in
        finished_fits s.middle end can (at_ok (length (lines_of text)) (finished s.middle) end s.after)
    by false e = absurd cc

-- every token of a shared book is one of the book
shared_are : (names : Option (List ℕ)) (book : List Credential) → AllByRecursion IsCredential book
    → AllByRecursion IsCredential (shared_book names book)
shared_are None book are = are
shared_are (Some names) book are = tt

pub cluster_shared : (text : List ℕ) (cluster : ClusterRecord) (book : List Credential) → cluster_of text ≡ Ok cluster
    → AllByRecursion IsCredential book → IsShared (shared_of cluster book)
cluster_shared text cluster book e are =
    let parts = outcome_fits 65536 text cluster e in
    record {
      names = parts.names;
      life = parts.life;
      members = parts.members;
      settings = parts.settings;
      book = shared_are cluster.names book are;
    }

-- a cluster has one to nine members
pub cluster_members : (text : List ℕ) (cluster : ClusterRecord) → cluster_of text ≡ Ok cluster
    → (1 ≤ length cluster.members) × (length cluster.members ≤ 9)
cluster_members text cluster e =
    let parts = outcome_fits 65536 text cluster e in
    (parts.first, parts.few)

-- a cluster that was read has one to nine members
pub members_read : {E : Type 0} (text : List ℕ) (read : Result Cluster E) → IfOk read (λ cluster. cluster_of text ≡ Ok (cluster_value cluster))
    → IfOk read (λ cluster. (1 ≤ length cluster.members.items) × (length cluster.members.items ≤ 9))
members_read text (Err fault) h = tt
members_read text (Ok cluster) h =
    let counts = cluster_members text (cluster_value cluster) h in
    let same = length-map cluster.members.items address_value in
    (omega (arith, counts.0, same), omega (arith, counts.1, same))

salted : (names : Option (Bor (List ℕ))) → IfSome (option_copied names) IsSalt → IfSome names (λ salt. IsSalt salt.now)
salted None h = tt
salted (Some salt) h = h

-- the names of a cluster that was read are a salt
pub names_read : {E : Type 0} (text : List ℕ) (read : Result Cluster E) → IfOk read (λ cluster. cluster_of text ≡ Ok (cluster_value cluster))
    → IfOk read (λ cluster. IfSome cluster.names (λ salt. IsSalt salt.now))
names_read text (Err fault) h = tt
names_read text (Ok cluster) h = salted cluster.names (outcome_fits 65536 text (cluster_value cluster) h).names
