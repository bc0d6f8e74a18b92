-- The alphabet of base32 (RFC 4648, table 3), and a secret whose text has each character of it once.
use Rattle.std.specs.Prelude.{ℕ, List, [], ◌∷◌, codes}

-- the characters of the values 0 to 25
abbrev pub capitals : List ℕ
capitals = codes "ABCDEFGHIJKLMNOPQRSTUVWXYZ"

-- the characters of the values 0 to 25 in lower case
abbrev pub small_letters : List ℕ
small_letters = codes "abcdefghijklmnopqrstuvwxyz"

-- the characters of the values 26 to 31
abbrev pub low_digits : List ℕ
low_digits = codes "234567"

-- the bytes of the values 0 to 31 in order, five bits each
abbrev pub every_symbol : List ℕ
every_symbol =
    0x00 ∷ 0x44 ∷ 0x32 ∷ 0x14 ∷ 0xc7 ∷ 0x42 ∷ 0x54 ∷ 0xb6 ∷ 0x35 ∷ 0xcf
    ∷ 0x84 ∷ 0x65 ∷ 0x3a ∷ 0x56 ∷ 0xd7 ∷ 0xc6 ∷ 0x75 ∷ 0xbe ∷ 0x77 ∷ 0xdf ∷ []
