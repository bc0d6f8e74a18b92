-- The unlocking of a token.
use Rattle.std.specs.Prelude.{◌≡◌, ℕ, List, Option, Some, None, slice_get}
use Rattle.otp_core.specs.Limits.{Limits}
use Rattle.token_file.specs.Credential.{place_of}
use Rattle.otp_core.specs.Gate.{clear_gate}
use Rattle.floor_store.specs.Records.{RowRecord}
use Rattle.floor_store.specs.Content.{Content, with_row}
use Rattle.oathd_database.specs.Commands.{HasImport}

-- a row with a clear gate: no failures, and its token is open
abbrev pub unlocked_row : RowRecord → RowRecord
unlocked_row row = record row { gate = clear_gate }

-- the content with the row of a token unlocked, if there is a row
abbrev pub with_unlocked : Content → ℕ → Option RowRecord → Content
with_unlocked content token None = content
with_unlocked content token (Some row) = with_row content token (unlocked_row row) None

-- the content with a token unlocked
abbrev pub unlocked_content : Content → ℕ → Content
unlocked_content content token = with_unlocked content token (slice_get content.rows token)

-- The users file is imported and has a token called `user`.
pub record HasUser (limits : Limits) (longest : ℕ) (user text : List ℕ) : Type 0 where
  pub import : HasImport limits 0 longest text
  pub token : ℕ
  pub of_user : place_of user import.book ≡ Some token

-- The users file is imported and has no token called `user`.
pub record LacksUser (limits : Limits) (longest : ℕ) (user text : List ℕ) : Type 0 where
  pub import : HasImport limits 0 longest text
  pub of_nobody : place_of user import.book ≡ None
