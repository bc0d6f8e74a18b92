-- What becomes of a line has its grounds.
use Rattle.std.proofs.Common.{◌≡◌, ℕ, ◌^◌, ◌≤◌, Bool, false, cond, List, length, Option, Some, None, refl, ap, ◌∙◌, arith, ℤ}
use Rattle.std.specs.Prelude.{◌==◌, ◌↔◌, nat_lt, option_map, slice_get}
use Rattle.std.proofs.lemmas.Bool.{cond_both, ltb-true, ltb-false}
use Rattle.std.proofs.lemmas.Option.{slice_get_within}
use Rattle.otp_core.specs.Limits.{Limits}
use Rattle.otp_core.specs.Range.{IsMoment}
use Rattle.token_file.specs.Credential.{Credential, place_of}
use Rattle.token_file.specs.declared.token.Kind.{Kind}
use Rattle.token_file.specs.declared.token.Kind.TheVariants.{Event, Time30, Time60}
use Rattle.admit_core.specs.Fit.{Fits, IsLeastFit, least_fit, reach_of}
use Rattle.otp_core.specs.Submission.{Submission, Check, Resync}
use Rattle.admit_core.specs.Password.{PasswordFits}
use Rattle.admit_core.specs.Window.{InWindow}
use Rattle.floor_store.specs.Range.{IsSpan}
use Rattle.floor_store.specs.Records.{span_of}
use Rattle.oath_node.specs.Column.{column_fits}
use Rattle.oath_node.specs.Grounds.{HasGrounds, IsSameStanding}
use Rattle.client_lines.specs.Request.{Request, IsLine, request_at}
use Rattle.oath_node.specs.Rules.{Standing, fit_ruling, fitting_span, remaining_ruling, open_ruling, token_ruling, place_ruling, user_ruling, room_ruling, request_ruling, ruling_unless_known, ruling_of, ruling}
use Rattle.oath_node.specs.declared.ruling.Ruling.{Ruling}
use Rattle.oath_node.specs.declared.ruling.Ruling.TheVariants.{Waiting, Denied, Wrong}
use Rattle.client_lines.specs.declared.answer.Reason.TheVariants.{Busy, Clock, Exhausted, Password, Throttled}
use Rattle.oath_node.proofs.BookLemmas.{place_named}
use Rattle.oath_node.proofs.ColumnLemmas.{decides_column}
use Rattle.client_lines.proofs.RequestLemmas.{line_of_request}

-- what is found is the least fit: a law of admit_core
abbrev pub FitLaw : Type 0
FitLaw = (c : Credential) (limits : Limits) (next : ℕ) (drift : ℤ) (moment : ℕ) (s : Submission) (lo hi : ℕ)
    → (least_fit c limits next drift moment s ≡ Some (lo, hi)) ↔ IsLeastFit c limits next drift moment s lo hi

-- a request in the grammar, at a moment in range, for the user of a token that is open, with room for one more
record IsAdmissible (book : List Credential) (s : Standing) (moment : ℕ) (line : List ℕ) (r : Request) (token : ℕ) (c : Credential) : Type 0 where
  room : s.is_full ≡ false
  in_range : IsMoment moment
  grammar : IsLine line r
  is_token : slice_get book token ≡ Some c
  user : c.name ≡ r.user
  is_open : s.wait token ≤ 0

free_of : (kind : Kind) (reach : ℕ) (limits : Limits) (next : ℕ) (drift : ℤ) (moment m : ℕ) → InWindow kind reach limits next drift moment m → next ≤ m
free_of Event reach limits next drift moment m h = h.free
free_of Time30 reach limits next drift moment m h = h.free
free_of Time60 reach limits next drift moment m h = h.free

span_of_fit : (c : Credential) (s : Submission) (lo hi : ℕ) → Fits c s lo hi → IsSpan lo hi
span_of_fit c (Check code) lo hi h = record { ordered = omega (arith, h.0); short = omega (arith, h.0) }
span_of_fit c (Resync first second) lo hi h = record { ordered = omega (arith, h.0); short = omega (arith, h.0) }

fit_grounds : FitLaw → (book : List Credential) (limits : Limits) (s : Standing) (moment : ℕ) (line : List ℕ) (r : Request) (token : ℕ) (c : Credential)
    → IsAdmissible book s moment line r token c → PasswordFits c.password r.password
    → (fit : Option (ℕ × ℕ)) → least_fit c limits (s.next token) (s.drift token) moment r.submission ≡ fit → HasGrounds book limits s moment line (fit_ruling c.kind limits moment r token (option_map (λ f. span_of f.0 f.1) fit))
fit_grounds law book limits s moment line r token c h password None e =
    record { within = slice_get_within book token c h.is_token; in_range = h.in_range; is_open = h.is_open }
fit_grounds law book limits s moment line r token c h password (Some (lo, hi)) e =
    let fit = (law c limits (s.next token) (s.drift token) moment r.submission lo hi).0 e in
    record {
      room = h.room;
      within = slice_get_within book token c h.is_token;
      request = r;
      grammar = h.grammar;
      nonce_is = refl;
      credential = c;
      is_token = h.is_token;
      user = h.user;
      in_range = h.in_range;
      is_open = h.is_open;
      password = password;
      fit = fit;
      kept = refl;
      free = free_of c.kind (reach_of limits r.submission) limits (s.next token) (s.drift token) moment lo fit.first;
      span = span_of_fit c r.submission lo hi fit.fits;
    }

remaining_grounds : FitLaw → (book : List Credential) (limits : Limits) (s : Standing) (moment : ℕ) (line : List ℕ) (r : Request) (token : ℕ) (c : Credential)
    → IsAdmissible book s moment line r token c → PasswordFits c.password r.password
    → HasGrounds book limits s moment line (remaining_ruling limits (s.next token) (s.drift token) moment r token c)
remaining_grounds law book limits s moment line r token c h password =
    cond_both (s.next token == 2 ^ 62) (Denied r.nonce Exhausted) (fit_ruling c.kind limits moment r token (fitting_span c limits (s.next token) (s.drift token) moment r.submission))
    (λ v. HasGrounds book limits s moment line v)
    (λ _. tt)
    (λ _. fit_grounds law book limits s moment line r token c h password _ refl)

open_grounds : FitLaw → (book : List Credential) (limits : Limits) (s : Standing) (moment : ℕ) (line : List ℕ) (r : Request) (token : ℕ) (c : Credential)
    → IsAdmissible book s moment line r token c → HasGrounds book limits s moment line (open_ruling limits (s.next token) (s.drift token) moment r token c)
open_grounds law book limits s moment line r token c h =
    cond_both (column_fits c.password r.password) (remaining_ruling limits (s.next token) (s.drift token) moment r token c) (Wrong r.nonce Password token)
    (λ v. HasGrounds book limits s moment line v)
    (λ fits. remaining_grounds law book limits s moment line r token c h ((decides_column c.password r.password).0 fits))
    (λ _. record { within = slice_get_within book token c h.is_token; in_range = h.in_range; is_open = h.is_open })

place_grounds : FitLaw → (book : List Credential) (limits : Limits) (s : Standing) (moment : ℕ) (line : List ℕ) (r : Request) (token : ℕ)
    → s.is_full ≡ false → IsMoment moment → IsLine line r → place_of r.user book ≡ Some token
    → (found : Option Credential) → slice_get book token ≡ found → HasGrounds book limits s moment line (place_ruling limits s moment r token found)
place_grounds law book limits s moment line r token room in_range grammar place None e = tt
place_grounds law book limits s moment line r token room in_range grammar place (Some c) e =
    cond_both (nat_lt 0 (s.wait token)) (Denied r.nonce (Throttled (s.wait token))) (open_ruling limits (s.next token) (s.drift token) moment r token c)
    (λ v. HasGrounds book limits s moment line v)
    (λ _. tt)
    (λ now. open_grounds law book limits s moment line r token c (record {
      room = room;
      in_range = in_range;
      grammar = grammar;
      is_token = e;
      user = place_named r.user book token c place e;
      is_open = ltb-false 0 (s.wait token) now;
    }))

user_grounds : FitLaw → (book : List Credential) (limits : Limits) (s : Standing) (moment : ℕ) (line : List ℕ) (r : Request)
    → s.is_full ≡ false → IsMoment moment → IsLine line r
    → (place : Option ℕ) → place_of r.user book ≡ place → HasGrounds book limits s moment line (user_ruling book limits s moment r place)
user_grounds law book limits s moment line r room in_range grammar None e = tt
user_grounds law book limits s moment line r room in_range grammar (Some token) e =
    place_grounds law book limits s moment line r token room in_range grammar e _ refl

request_grounds : FitLaw → (book : List Credential) (limits : Limits) (s : Standing) (moment : ℕ) (line : List ℕ) (r : Request) → IsLine line r
    → HasGrounds book limits s moment line (request_ruling book limits s moment r)
request_grounds law book limits s moment line r grammar =
    let later = user_ruling book limits s moment r (place_of r.user book) in
    cond_both (nat_lt moment (2 ^ 40)) (room_ruling book limits s moment r) (Denied r.nonce Clock)
    (λ v. HasGrounds book limits s moment line v)
    (λ below. cond_both s.is_full (Denied r.nonce Busy) later
    (λ v. HasGrounds book limits s moment line v)
    (λ _. tt)
    (λ room. user_grounds law book limits s moment line r room (ltb-true moment (2 ^ 40) below) grammar _ refl))
    (λ _. tt)

ruling_unless_known_grounds : FitLaw → (book : List Credential) (limits : Limits) (s : Standing) (moment : ℕ) (line : List ℕ) (r : Request) → IsLine line r
    → (kept : Option (List ℕ)) → s.kept ≡ kept → HasGrounds book limits s moment line (ruling_unless_known kept s.is_waiting (request_ruling book limits s moment r))
ruling_unless_known_grounds law book limits s moment line r grammar (Some text) e = e
ruling_unless_known_grounds law book limits s moment line r grammar None e =
    cond_both s.is_waiting Waiting (request_ruling book limits s moment r) (λ v. HasGrounds book limits s moment line v)
    (λ waits. waits)
    (λ _. request_grounds law book limits s moment line r grammar)

ruling_of_grounds : FitLaw → (book : List Credential) (limits : Limits) (s : Standing) (moment : ℕ) (line : List ℕ)
    → (r : Option Request) → request_at line ≡ r → HasGrounds book limits s moment line (ruling_of book limits s moment r)
ruling_of_grounds law book limits s moment line None e = tt
ruling_of_grounds law book limits s moment line (Some r) e = ruling_unless_known_grounds law book limits s moment line r (line_of_request line r e) s.kept refl

pub ruling_grounds : FitLaw → (book : List Credential) (limits : Limits) (s : Standing) (moment : ℕ) (line : List ℕ)
    → HasGrounds book limits s moment line (ruling book limits s moment line)
ruling_grounds law book limits s moment line = ruling_of_grounds law book limits s moment line (request_at line) refl

-- ---- the same standing

same_place_ruling : (limits : Limits) (book : List Credential) (a b : Standing) (moment : ℕ) (r : Request) (token : ℕ) → IsSameStanding (length book) a b
    → (found : Option Credential) → slice_get book token ≡ found → place_ruling limits a moment r token found ≡ place_ruling limits b moment r token found
same_place_ruling limits book a b moment r token h None e = refl
same_place_ruling limits book a b moment r token h (Some c) e =
    let within = slice_get_within book token c e in
    ap (λ (n : ℕ). token_ruling limits n (a.drift token) (a.wait token) moment r token c) (h.next token within)
    ∙ ap (λ (d : ℤ). token_ruling limits (b.next token) d (a.wait token) moment r token c) (h.drift token within)
    ∙ ap (λ (n : ℕ). token_ruling limits (b.next token) (b.drift token) n moment r token c) (h.wait token within)

same_user_ruling : (book : List Credential) (limits : Limits) (a b : Standing) (moment : ℕ) (r : Request) (place : Option ℕ) → IsSameStanding (length book) a b
    → user_ruling book limits a moment r place ≡ user_ruling book limits b moment r place
same_user_ruling book limits a b moment r None h = refl
same_user_ruling book limits a b moment r (Some token) h = same_place_ruling limits book a b moment r token h (slice_get book token) refl

same_request_ruling : (book : List Credential) (limits : Limits) (a b : Standing) (moment : ℕ) (r : Request) → IsSameStanding (length book) a b
    → request_ruling book limits a moment r ≡ request_ruling book limits b moment r
same_request_ruling book limits a b moment r h =
    ap (λ (v : Ruling). cond (nat_lt moment (2 ^ 40)) v (Denied r.nonce Clock))
    (ap (λ (v : Ruling). cond a.is_full (Denied r.nonce Busy) v) (same_user_ruling book limits a b moment r (place_of r.user book) h)
    ∙ ap (λ (f : Bool). cond f (Denied r.nonce Busy) (user_ruling book limits b moment r (place_of r.user book))) h.full)

same_ruling_of : (book : List Credential) (limits : Limits) (a b : Standing) (moment : ℕ) (r : Option Request) → IsSameStanding (length book) a b
    → ruling_of book limits a moment r ≡ ruling_of book limits b moment r
same_ruling_of book limits a b moment None h = refl
same_ruling_of book limits a b moment (Some r) h =
    ap (λ (k : Option (List ℕ)). ruling_unless_known k a.is_waiting (request_ruling book limits a moment r)) h.kept
    ∙ ap (λ (w : Bool). ruling_unless_known b.kept w (request_ruling book limits a moment r)) h.waiting
    ∙ ap (λ (v : Ruling). ruling_unless_known b.kept b.is_waiting v) (same_request_ruling book limits a b moment r h)

pub ruling_same : (book : List Credential) (limits : Limits) (a b : Standing) (moment : ℕ) (line : List ℕ) → IsSameStanding (length book) a b
    → ruling book limits a moment line ≡ ruling book limits b moment line
ruling_same book limits a b moment line h = same_ruling_of book limits a b moment (request_at line) h
