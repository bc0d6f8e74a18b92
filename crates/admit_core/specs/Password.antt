-- The check of a line's password against its token's column.
use Rattle.std.specs.Prelude.{ℕ, ◌≡◌, List, Option, Some, None}
use Rattle.token_file.specs.declared.token.Password.{Password}
use Rattle.token_file.specs.declared.token.Password.TheVariants.{NoneAllowed, NotChecked, Equal}

-- the password of a line, or None, fits the password column of its token
abbrev pub PasswordFits : Password → Option (List ℕ) → Type 0
PasswordFits NoneAllowed given = given ≡ None
PasswordFits NotChecked given = Unit {0}
PasswordFits (Equal password) given = given ≡ Some password.items
