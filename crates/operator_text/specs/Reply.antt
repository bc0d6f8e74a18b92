-- The replies to requests that no page answers.
use Rattle.std.specs.Prelude.{ℕ, List, Option, Some, None, codes, if◌then◌else◌}
use Rattle.std.specs.Str.{bytes_eq}
use Rattle.operator_text.specs.declared.reply.Reply.{Reply}
use Rattle.operator_text.specs.declared.reply.Reply.TheVariants.{NoRequest, NoRight, NoReport, NoUser, Busy, Unlocked, Draining}

-- the text of a reply, with its LF
abbrev pub reply_text : Reply → List ℕ
reply_text NoRequest = codes "NO REQUEST\n"
reply_text NoRight = codes "NO RIGHT\n"
reply_text NoReport = codes "NO REPORT\n"
reply_text NoUser = codes "NO USER\n"
reply_text Busy = codes "NO BUSY\n"
reply_text Unlocked = codes "unlocked\n"
reply_text Draining = codes "draining\n"

-- the reply of a text
abbrev pub reply_at : List ℕ → Option Reply
reply_at text =
    if bytes_eq text (codes "NO REQUEST\n") then Some NoRequest
    else if bytes_eq text (codes "NO RIGHT\n") then Some NoRight
    else if bytes_eq text (codes "NO REPORT\n") then Some NoReport
    else if bytes_eq text (codes "NO USER\n") then Some NoUser
    else if bytes_eq text (codes "NO BUSY\n") then Some Busy
    else if bytes_eq text (codes "unlocked\n") then Some Unlocked
    else if bytes_eq text (codes "draining\n") then Some Draining
    else None
