-- Worked cases: lines of a cluster file, and their values.
use Rattle.std.specs.Prelude.{ℕ, true, false, List, [], ◌∷◌, ◌++◌, map, replicate, codes, None, Some, Result}
use Rattle.std.specs.List.{flat_map}
use Rattle.token_file.specs.Credential.{Credential}
use Rattle.token_file.specs.Examples.{event_token, time_token}
use Rattle.token_file.specs.Fields.{fields_of}
use Rattle.token_file.specs.declared.token.Kind.TheVariants.{Time60}
use Rattle.cluster_file.specs.declared.fault.LineFault.{LineFault}
use Rattle.cluster_file.specs.declared.fault.LineFault.TheVariants.{UnknownWord, MissingField, SurplusField, TooManyMembers, MemberNumber, BadAddress, TwiceAddress, Twice, BadNumber, BadKey, BadLife, NoMember, NoKey, NoLife, TooLong, Memory, BadNames, BadNewTokens, NoNames}
use Rattle.cluster_file.specs.Address.{Address}
use Rattle.cluster_file.specs.ClusterFile.{ClusterRecord}
use Rattle.cluster_file.specs.Said.{Given, InFile, Said, after_fields, nothing_said}
use Rattle.cluster_file.specs.Shared.{Shared}

-- the address 192.0.2.N:7101
abbrev pub address_at : ℕ → Address
address_at last = record { octets = 192 ∷ 0 ∷ 2 ∷ last ∷ []; port = 7101 }

-- the values of some members' lines alone
abbrev pub with_members : List ℕ → Said
with_members lasts = record nothing_said { members = map address_at lasts }

-- values for everything except members
abbrev pub all_given : Said
all_given =
    record {
      members = [];
      look_ahead = Some 1;
      skew = Some 1;
      range = Some 1;
      drift = Some 1;
      key = Some (InFile (codes "k"));
      life = Some (codes "l");
      names = Some (codes "twelve-bytes");
      fresh = true;
    }

-- the values after a line
abbrev pub after_text : Said → List ℕ → Result Said LineFault
after_text said line = after_fields said (fields_of line)

-- the values after each of some lines alone
abbrev pub after_each : Said → List (List ℕ) → List (Result Said LineFault)
after_each said lines = map (after_text said) lines

-- a text of lines, each with an LF
abbrev pub text_of : List (List ℕ) → List ℕ
text_of lines = flat_map (λ line. line ++ 10 ∷ []) lines

-- `count` digits `0`
abbrev pub zeros : ℕ → List ℕ
zeros count = replicate count 0x30

-- `len` bytes `u`
abbrev pub word_of : ℕ → List ℕ
word_of len = replicate len 117

-- a whole file of one member
abbrev pub small_file : List (List ℕ)
small_file = codes "member 1 192.0.2.1:7101" ∷ codes "key-file /etc/k" ∷ codes "life a" ∷ []

-- the cluster of the small file
abbrev pub small_cluster : ClusterRecord
small_cluster =
    record {
      members = address_at 1 ∷ [];
      settings = record { look_ahead = 10; skew = 1; range = 100; drift = 0 };
      key = InFile (codes "/etc/k");
      life = codes "a";
      names = None;
      fresh = false;
    }

-- a salt of 15 bytes
abbrev pub salt : List ℕ
salt = codes "names-of-site-1"

-- the small file with names, and with `new-tokens` before them
abbrev pub named_file : List (List ℕ)
named_file = codes "new-tokens fresh" ∷ (codes "names " ++ salt) ∷ small_file

-- the small file with `new-tokens` alone
abbrev pub nameless_file : List (List ℕ)
nameless_file = codes "new-tokens fresh" ∷ small_file

-- a whole file of three members
abbrev pub three_file : List (List ℕ)
three_file =
    codes "# three" ∷ codes "member 1 192.0.2.1:7101" ∷ codes "member 2 192.0.2.2:7101" ∷ []
    ++ codes "  member  3 192.0.2.3:7101 " ∷ codes "look-ahead 20" ∷ codes "skew 2" ∷ codes "range 30" ∷ []
    ++ codes "drift 3" ∷ [] ∷ (codes "key " ++ zeros 32) ∷ codes "life 2026-11a" ∷ []

-- the cluster of the file of three members
abbrev pub three_cluster : ClusterRecord
three_cluster =
    record {
      members = address_at 1 ∷ address_at 2 ∷ address_at 3 ∷ [];
      settings = record { look_ahead = 20; skew = 2; range = 30; drift = 3 };
      key = Given (replicate 16 0);
      life = codes "2026-11a";
      names = None;
      fresh = false;
    }

-- the bytes 0 to 31
abbrev pub key_of_32 : List ℕ
key_of_32 =
    0 ∷ 1 ∷ 2 ∷ 3 ∷ 4 ∷ 5 ∷ 6 ∷ 7 ∷ 8 ∷ 9 ∷ 10 ∷ 11 ∷ 12 ∷ 13 ∷ 14 ∷ 15 ∷ 16 ∷ 17 ∷ 18 ∷ 19 ∷ 20 ∷ 21 ∷ 22 ∷ 23 ∷ 24
    ∷ 25 ∷ 26 ∷ 27 ∷ 28 ∷ 29 ∷ 30 ∷ 31 ∷ []

-- two tokens
abbrev pub two_tokens : List Credential
two_tokens = event_token (codes "a") ∷ time_token Time60 ∷ []

-- the same tokens in the other order
abbrev pub two_turned : List Credential
two_turned = time_token Time60 ∷ event_token (codes "a") ∷ []

-- three members with two tokens
abbrev pub three_shared : Shared
three_shared =
    record {
      names = None;
      life = codes "2026-11a";
      members = address_at 1 ∷ address_at 2 ∷ address_at 3 ∷ [];
      settings = record { look_ahead = 10; skew = 2; range = 100; drift = 0 };
      book = two_tokens;
    }

-- three members with names
abbrev pub three_named : ClusterRecord
three_named =
    record {
      members = address_at 1 ∷ address_at 2 ∷ address_at 3 ∷ [];
      settings = record { look_ahead = 10; skew = 2; range = 100; drift = 0 };
      key = Given key_of_32;
      life = codes "2026-11a";
      names = Some salt;
      fresh = false;
    }

-- the shared values of a life alone, without members and tokens
abbrev pub least_shared : Shared
least_shared =
    record {
      names = None;
      life = codes "a";
      members = [];
      settings = record { look_ahead = 0; skew = 0; range = 0; drift = 0 };
      book = [];
    }

-- the shared key of the three members under the key of 32 bytes, by Python's module hmac
abbrev pub three_key : List ℕ
three_key =
    0x1d ∷ 0x8c ∷ 0xb5 ∷ 0xfb ∷ 0x6b ∷ 0xc0 ∷ 0x8c ∷ 0xfb ∷ 0x27 ∷ 0x90 ∷ 0xe7 ∷ 0x00 ∷ 0x21 ∷ 0x36 ∷ 0x4e ∷ 0xda ∷ 0x86
    ∷ 0x4c ∷ 0x87 ∷ 0xa9 ∷ 0xb4 ∷ 0x2c ∷ 0x63 ∷ 0xf9 ∷ 0xaf ∷ 0x8e ∷ 0x3a ∷ 0x07 ∷ 0x2f ∷ 0xff ∷ 0x5b ∷ 0x06 ∷ []

-- the shared key of the three members with names under the key of 32 bytes, by Python's module hmac
abbrev pub named_key : List ℕ
named_key =
    0x93 ∷ 0xe4 ∷ 0xe4 ∷ 0x6b ∷ 0xea ∷ 0x99 ∷ 0x21 ∷ 0xc1 ∷ 0xd7 ∷ 0x63 ∷ 0xda ∷ 0x75 ∷ 0x3d ∷ 0x13 ∷ 0xd8 ∷ 0xe5 ∷ 0x58
    ∷ 0xba ∷ 0xc0 ∷ 0x07 ∷ 0x23 ∷ 0x5a ∷ 0xc8 ∷ 0x5d ∷ 0xc1 ∷ 0x5e ∷ 0xa0 ∷ 0x75 ∷ 0x42 ∷ 0xe5 ∷ 0x40 ∷ 0xc3 ∷ []

-- each fault
abbrev pub faults : List LineFault
faults =
    UnknownWord ∷ MissingField ∷ SurplusField ∷ TooManyMembers ∷ MemberNumber ∷ BadAddress ∷ TwiceAddress ∷ Twice
    ∷ BadNumber ∷ BadKey ∷ BadLife ∷ NoMember ∷ NoKey ∷ NoLife ∷ BadNames ∷ BadNewTokens ∷ NoNames ∷ TooLong ∷ Memory
    ∷ []
