-- Inputs of the worked cases.
use Rattle.std.specs.Prelude.{ℕ, List, codes}

-- two lines of a users file, and three lines after it, one of which is `%%` too
abbrev pub text_of_two_parts : List ℕ
text_of_two_parts = codes "a\nb\n%%\nc\n%%\nd"
