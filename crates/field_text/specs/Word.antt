-- Words: texts of visible bytes, as users' names and passwords are.
use Rattle.std.specs.Prelude.{ℕ, ◌==◌, ◌&&◌, ◌||◌, not, nat_le, Bool, List, length}
use Rattle.std.specs.List.{list_all}

-- whether a byte divides fields or ends a line: TAB, LF, CR or a space
abbrev pub is_blank : ℕ → Bool
is_blank byte = byte == 9 || byte == 10 || byte == 13 || byte == 32

-- whether a byte is no blank
abbrev pub is_visible : ℕ → Bool
is_visible byte = not (is_blank byte)

-- whether a text can be a name or a password: 1 to 64 bytes without a blank
abbrev pub is_word : List ℕ → Bool
is_word bytes = nat_le 1 (length bytes) && nat_le (length bytes) 64 && list_all is_visible bytes
