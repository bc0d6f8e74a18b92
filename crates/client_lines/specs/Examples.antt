-- Worked cases: lines of clients.
use Rattle.std.specs.Prelude.{ℕ, List, ◌++◌, replicate, Option, Some, codes}
use Rattle.otp_core.specs.Submission.{Check}
use Rattle.client_lines.specs.Request.{Request}

-- a CHECK with nonce 1, the user silver and the first code of the key
abbrev pub check_with : Option (List ℕ) → Option Request
check_with password = Some (record {
  nonce = codes "1";
  user = codes "silver";
  submission = Check (codes "755224");
  password = password;
})

-- `count` letters
abbrev pub letters : ℕ → List ℕ
letters count = replicate count 97

-- the text of a CHECK with a nonce, user, code and password
abbrev pub check_text : List ℕ → List ℕ → List ℕ → List ℕ → List ℕ
check_text nonce user code password =
    codes "CHECK " ++ nonce ++ codes " " ++ user ++ codes " " ++ code ++ codes " " ++ password

-- the request of a CHECK with a nonce, user, code and password
abbrev pub check_request : List ℕ → List ℕ → List ℕ → List ℕ → Option Request
check_request nonce user code password =
    Some (record { nonce = nonce; user = user; submission = Check code; password = Some password })
