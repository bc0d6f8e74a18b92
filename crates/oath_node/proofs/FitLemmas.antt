-- What the rules propose is free.
use Rattle.std.proofs.Common.{◌≡◌, ℕ, ◌^◌, ◌≤◌, ◌<◌, false, Option, Some, None, refl, List, ℤ}
use Rattle.std.specs.Prelude.{◌==◌, nat_lt, option_map, slice_get}
use Rattle.std.proofs.lemmas.Bool.{cond_both, lt-ltb, le-ltb, ne_eqb}
use Rattle.otp_core.specs.Limits.{Limits}
use Rattle.token_file.specs.Credential.{Credential, place_of}
use Rattle.token_file.specs.declared.token.Kind.{Kind}
use Rattle.token_file.specs.declared.token.Kind.TheVariants.{Event, Time30, Time60}
use Rattle.admit_core.specs.Fit.{least_fit, reach_of}
use Rattle.admit_core.specs.Password.{PasswordFits}
use Rattle.admit_core.specs.Window.{InWindow}
use Rattle.floor_store.specs.Records.{SpanRecord, span_of}
use Rattle.oath_node.specs.Column.{column_fits}
use Rattle.oath_node.specs.Recording.{IfKept, IfProposes}
use Rattle.oath_node.specs.Rules.{Standing, fit_ruling, fitting_span, remaining_ruling, open_ruling, token_ruling, request_ruling}
use Rattle.oath_node.specs.declared.ruling.Ruling.{Ruling}
use Rattle.oath_node.specs.declared.ruling.Ruling.TheVariants.{Outside, Again, Waiting, Denied, Wrong, Fitting}
use Rattle.oath_node.proofs.ColumnLemmas.{decides_column}
use Rattle.oath_node.proofs.GroundLemmas.{FitLaw}
use Rattle.client_lines.specs.Request.{Request}
use Rattle.client_lines.specs.declared.answer.Reason.TheVariants.{Exhausted, Password, Throttled}

-- a proposed span is of the token, and free from a factor on
abbrev pub Suits : ℕ → ℕ → Ruling → Type 0
Suits token next v = IfProposes v (λ t span. (t ≡ token) × (next ≤ span.lo))

free_of_window : (kind : Kind) (reach : ℕ) (limits : Limits) (next : ℕ) (drift : ℤ) (moment m : ℕ) → InWindow kind reach limits next drift moment m → next ≤ m
free_of_window Event reach limits next drift moment m h = h.free
free_of_window Time30 reach limits next drift moment m h = h.free
free_of_window Time60 reach limits next drift moment m h = h.free

fit_suits : FitLaw → (limits : Limits) (next : ℕ) (drift : ℤ) (moment : ℕ) (r : Request) (token : ℕ) (c : Credential)
    → (fit : Option (ℕ × ℕ)) → least_fit c limits next drift moment r.submission ≡ fit → Suits token next (fit_ruling c.kind limits moment r token (option_map (λ f. span_of f.0 f.1) fit))
fit_suits law limits next drift moment r token c None e = tt
fit_suits law limits next drift moment r token c (Some (lo, hi)) e =
    let least = (law c limits next drift moment r.submission lo hi).0 e in
    (refl, free_of_window c.kind (reach_of limits r.submission) limits next drift moment lo least.first)

remaining_suits : FitLaw → (limits : Limits) (next : ℕ) (drift : ℤ) (moment : ℕ) (r : Request) (token : ℕ) (c : Credential) → Suits token next (remaining_ruling limits next drift moment r token c)
remaining_suits law limits next drift moment r token c =
    cond_both (next == 2 ^ 62) (Denied r.nonce Exhausted) (fit_ruling c.kind limits moment r token (fitting_span c limits next drift moment r.submission)) (Suits token next)
    (λ _. tt) (λ _. fit_suits law limits next drift moment r token c _ refl)

open_suits : FitLaw → (limits : Limits) (next : ℕ) (drift : ℤ) (moment : ℕ) (r : Request) (token : ℕ) (c : Credential) → Suits token next (open_ruling limits next drift moment r token c)
open_suits law limits next drift moment r token c =
    cond_both (column_fits c.password r.password) (remaining_ruling limits next drift moment r token c) (Wrong r.nonce Password token) (Suits token next)
    (λ _. remaining_suits law limits next drift moment r token c) (λ _. tt)

pub token_suits : FitLaw → (limits : Limits) (next : ℕ) (drift : ℤ) (wait moment : ℕ) (r : Request) (token : ℕ) (c : Credential) → Suits token next (token_ruling limits next drift wait moment r token c)
token_suits law limits next drift wait moment r token c =
    cond_both (nat_lt 0 wait) (Denied r.nonce (Throttled wait)) (open_ruling limits next drift moment r token c) (Suits token next)
    (λ _. tt) (λ _. open_suits law limits next drift moment r token c)

-- a request of a user at a moment in range, if the node has room
pub request_token : (book : List Credential) (limits : Limits) (s : Standing) (moment : ℕ) (r : Request) (token : ℕ) (c : Credential)
    → moment < 2 ^ 40 → s.is_full ≡ false → place_of r.user book ≡ Some token → slice_get book token ≡ Some c
    → request_ruling book limits s moment r ≡ token_ruling limits (s.next token) (s.drift token) (s.wait token) moment r token c
request_token book limits s moment r token c below room place here =
    rw (lt-ltb moment (2 ^ 40) below, room, place, here) refl

pub token_open : (limits : Limits) (next : ℕ) (drift : ℤ) (wait moment : ℕ) (r : Request) (token : ℕ) (c : Credential)
    → wait ≤ 0 → token_ruling limits next drift wait moment r token c ≡ open_ruling limits next drift moment r token c
token_open limits next drift wait moment r token c none = rw (le-ltb 0 wait none) refl

-- a password that fits, and a factor that is left
pub open_fit : (limits : Limits) (next : ℕ) (drift : ℤ) (moment : ℕ) (r : Request) (token : ℕ) (c : Credential)
    → PasswordFits c.password r.password → (next ≡ 2 ^ 62 → ⊥)
    → open_ruling limits next drift moment r token c ≡ fit_ruling c.kind limits moment r token (fitting_span c limits next drift moment r.submission)
open_fit limits next drift moment r token c given left = rw ((decides_column c.password r.password).1 given, ne_eqb next (2 ^ 62) left) refl

-- what holds anyway
pub if_kept : (v : Ruling) (P : Type 0) → P → IfKept v P
if_kept Outside P h = tt
if_kept (Again text) P h = tt
if_kept Waiting P h = tt
if_kept (Denied nonce reason) P h = h
if_kept (Wrong nonce reason t) P h = h
if_kept (Fitting nonce t span drift) P h = h

-- what holds of a proposal, if the ruling is one, holds for less
pub proposes_less : (v : Ruling) (P Q : ℕ → SpanRecord → Type 0) → ((t : ℕ) (span : SpanRecord) → P t span → Q t span) → IfProposes v P → IfProposes v Q
proposes_less Outside P Q f h = tt
proposes_less (Again text) P Q f h = tt
proposes_less Waiting P Q f h = tt
proposes_less (Denied nonce reason) P Q f h = tt
proposes_less (Wrong nonce reason t) P Q f h = tt
proposes_less (Fitting nonce t span drift) P Q f h = f t span h
