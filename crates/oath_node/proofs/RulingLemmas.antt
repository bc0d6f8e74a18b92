-- On what grounds the rules propose factors or count a failure, and what that makes of a server.
use Rattle.std.proofs.Common.{◌≡◌, ℕ, zero, suc, ◌+◌, ◌*◌, ◌<◌, ◌≤◌, ⊎_elim, inr, List, [], ◌∷◌, length, get_or, set, Some, refl, sym, subst, arith, ℤ}
use Rattle.std.specs.Prelude.{slice_get}
use Rattle.std.proofs.lemmas.Bool.{cases_eq}
use Rattle.std.proofs.lemmas.List.{length-set, get_or-set_same, get_or-set_other}
use Rattle.std.proofs.lemmas.Option.{slice_get_within}
use Rattle.otp_core.specs.Limits.{Limits}
use Rattle.token_file.specs.Credential.{Credential}
use Rattle.token_file.specs.declared.token.Kind.{Kind}
use Rattle.token_file.specs.declared.token.Kind.TheVariants.{Event, Time30, Time60}
use Rattle.admit_core.specs.Drift.{kept_drift}
use Rattle.admit_core.specs.Entitled.{IsEntitled}
use Rattle.admit_core.specs.Fit.{Fits, reach_of}
use Rattle.otp_core.specs.Submission.{Submission, Check, Resync}
use Rattle.admit_core.specs.Throttle.{Result, Failed, Accepted, AreGated, IsOpenAfter, counted_failures, last_failure, wait_after}
use Rattle.admit_core.specs.Window.{InWindow}
use Rattle.floor_store.specs.Records.{span_of}
use Rattle.oath_node.specs.Grounds.{HasGrounds as HasRulingGrounds}
use Rattle.oath_node.specs.ReferenceServer.{Server, Line, drift_of, drifts_after, floor_of, floors_after, results_of, ruling_of_line, service_by, standing_of}
use Rattle.client_lines.specs.Request.{Request, IsLine}
use Rattle.oath_node.specs.declared.ruling.Ruling.{Ruling}
use Rattle.oath_node.specs.declared.ruling.Ruling.TheVariants.{Outside, Again, Waiting, Denied, Wrong, Fitting}
use Rattle.oath_node.proofs.GroundLemmas.{FitLaw, ruling_grounds}

-- what a line meets whose factors are proposed
pub record Grounds (book : List Credential) (limits : Limits) (s : Server) (l : Line) (token lo hi : ℕ) (drift : ℤ) : Type 0 where
  pub request : Request
  pub grammar : IsLine l.text request
  pub credential : Credential
  pub token_is : slice_get book token ≡ Some credential
  pub user : credential.name ≡ request.user
  pub entitled : IsEntitled credential limits l.moment request.submission request.password (floor_of s token) (drift_of s token) (results_of s token) lo hi
  pub kept : drift ≡ kept_drift credential.kind limits l.moment hi

-- a ruling that proposes factors has its grounds, and one that counts a failure comes while the token is open
abbrev pub HasGrounds : List Credential → Limits → Server → Line → Ruling → Type 0
HasGrounds book limits s l Outside = Unit {0}
HasGrounds book limits s l (Again text) = Unit {0}
HasGrounds book limits s l Waiting = Unit {0}
HasGrounds book limits s l (Denied nonce reason) = Unit {0}
HasGrounds book limits s l (Wrong nonce reason token) = IsOpenAfter (results_of s token) l.moment
HasGrounds book limits s l (Fitting nonce token span drift) = Grounds book limits s l token span.lo span.hi drift

-- a token for which nobody has to wait is open
no_wait : (results : List Result) (moment : ℕ) → wait_after results moment ≤ 0 → IsOpenAfter results moment
no_wait results moment none =
    let over : last_failure results + 5 * counted_failures results ≤ moment = omega (arith, none) in
    inr over

-- the grounds of a ruling, by the results of a server
of_ruling : (book : List Credential) (limits : Limits) (s : Server) (l : Line) (r : Ruling)
    → HasRulingGrounds book limits (standing_of s l) l.moment l.text r → HasGrounds book limits s l r
of_ruling book limits s l Outside g = tt
of_ruling book limits s l (Again text) g = tt
of_ruling book limits s l Waiting g = tt
of_ruling book limits s l (Denied nonce reason) g = tt
of_ruling book limits s l (Wrong nonce reason token) g = no_wait (results_of s token) l.moment g.is_open
of_ruling book limits s l (Fitting nonce token span drift) g = record {
  request = g.request;
  grammar = g.grammar;
  credential = g.credential;
  token_is = g.is_token;
  user = g.user;
  entitled = record {
    in_range = g.in_range;
    password = g.password;
    is_open = no_wait (results_of s token) l.moment g.is_open;
    fit = g.fit;
  };
  kept = g.kept;
}

pub line_grounds : FitLaw → (book : List Credential) (limits : Limits) (s : Server) (l : Line)
    → HasGrounds book limits s l (ruling_of_line book limits s l)
line_grounds law book limits s l =
    of_ruling book limits s l (ruling_of_line book limits s l) (ruling_grounds law book limits (standing_of s l) l.moment l.text)

-- ---- the floors after a ruling

pub length-floors_after : (floors : List ℕ) (v : Ruling) → length (floors_after floors v) ≡ length floors
length-floors_after floors Outside = refl
length-floors_after floors (Again text) = refl
length-floors_after floors Waiting = refl
length-floors_after floors (Denied nonce reason) = refl
length-floors_after floors (Wrong nonce reason token) = refl
length-floors_after floors (Fitting nonce token span drift) = length-set floors token (span.hi + 1)

pub length-drifts_after : (drifts : List ℤ) (v : Ruling) → length (drifts_after drifts v) ≡ length drifts
length-drifts_after drifts Outside = refl
length-drifts_after drifts (Again text) = refl
length-drifts_after drifts Waiting = refl
length-drifts_after drifts (Denied nonce reason) = refl
length-drifts_after drifts (Wrong nonce reason token) = refl
length-drifts_after drifts (Fitting nonce token span drift) = length-set drifts token drift

-- the window is free
free_of_window : (kind : Kind) (reach : ℕ) (limits : Limits) (next : ℕ) (drift : ℤ) (moment m : ℕ) → InWindow kind reach limits next drift moment m → next ≤ m
free_of_window Event reach limits next drift moment m h = h.free
free_of_window Time30 reach limits next drift moment m h = h.free
free_of_window Time60 reach limits next drift moment m h = h.free

ordered_of_fit : (c : Credential) (s : Submission) (lo hi : ℕ) → Fits c s lo hi → lo ≤ hi
ordered_of_fit c (Check code) lo hi h = omega (arith, h.0)
ordered_of_fit c (Resync first second) lo hi h = omega (arith, h.0)

pub free : (book : List Credential) (limits : Limits) (s : Server) (l : Line) (token lo hi : ℕ) (drift : ℤ) → Grounds book limits s l token lo hi drift
    → floor_of s token ≤ lo
free book limits s l token lo hi drift g =
    free_of_window g.credential.kind (reach_of limits g.request.submission) limits (floor_of s token) (drift_of s token) l.moment lo g.entitled.fit.first

pub ordered : (book : List Credential) (limits : Limits) (s : Server) (l : Line) (token lo hi : ℕ) (drift : ℤ) → Grounds book limits s l token lo hi drift
    → lo ≤ hi
ordered book limits s l token lo hi drift g = ordered_of_fit g.credential g.request.submission lo hi g.entitled.fit.fits

-- what is proposed is used up
pub floor_of-proposed : (book : List Credential) (limits : Limits) (s : Server) (l : Line) (nonce : List ℕ) (token lo hi : ℕ) (drift : ℤ)
    → length s.floors ≡ length book → Grounds book limits s l token lo hi drift
    → floor_of (service_by s l (Fitting nonce token (span_of lo hi) drift)).server token ≡ hi + 1
floor_of-proposed book limits s l nonce token lo hi drift sized g =
    let within : token < length book = slice_get_within book token g.credential g.token_is in
    get_or-set_same s.floors token (hi + 1) 0 (omega arith)

-- no floor falls
pub floor_rises : (book : List Credential) (limits : Limits) (s : Server) (l : Line) (v : Ruling)
    → length s.floors ≡ length book → HasGrounds book limits s l v
    → (token : ℕ) → floor_of s token ≤ floor_of (service_by s l v).server token
floor_rises book limits s l Outside sized g token = omega arith
floor_rises book limits s l (Again text) sized g token = omega arith
floor_rises book limits s l Waiting sized g token = omega arith
floor_rises book limits s l (Denied nonce reason) sized g token = omega arith
floor_rises book limits s l (Wrong nonce reason t) sized g token = omega arith
floor_rises book limits s l (Fitting nonce t span drift) sized g token =
    let after = (service_by s l (Fitting nonce t span drift)).server in
    let used = floor_of-proposed book limits s l nonce t span.lo span.hi drift sized g in
    let low = free book limits s l t span.lo span.hi drift g in
    let up = ordered book limits s l t span.lo span.hi drift g in
    let same : token ≡ t → floor_of s token ≤ floor_of after token = λ e.
    subst (λ (n : ℕ). floor_of s n ≤ floor_of after n) (sym e) (omega (arith, used, low, up)) in
    let other : (token ≡ t → ⊥) → floor_of s token ≤ floor_of after token = λ ne.
    omega (arith, get_or-set_other s.floors t token (span.hi + 1) 0 ne) in
    ⊎_elim same other (cases_eq token t)

-- ---- the results after a ruling

-- what holds of a new element and of each old one holds of each
either : {X : Type 0} (P : X → Type 0) (xs : List X) (i j : ℕ) (v d : X) → P v → P (get_or xs j d) → P (get_or (set xs i v) j d)
either P [] i j v d new old = old
either P (x ∷ xs) zero zero v d new old = new
either P (x ∷ xs) zero (suc j) v d new old = old
either P (x ∷ xs) (suc i) zero v d new old = old
either P (x ∷ xs) (suc i) (suc j) v d new old = either P xs i j v d new old

-- each failure of a token came while it was open
abbrev pub KeepsGates : Server → Type 0
KeepsGates s = (token : ℕ) → AreGated (results_of s token)

pub gates_kept : (book : List Credential) (limits : Limits) (s : Server) (l : Line) (v : Ruling)
    → HasGrounds book limits s l v → KeepsGates s → KeepsGates (service_by s l v).server
gates_kept book limits s l Outside g h token = h token
gates_kept book limits s l (Again text) g h token = h token
gates_kept book limits s l Waiting g h token = h token
gates_kept book limits s l (Denied nonce reason) g h token = h token
gates_kept book limits s l (Wrong nonce reason t) g h token =
    either AreGated s.front.results t token (Failed l.moment ∷ results_of s t) [] (g, h t) (h token)
gates_kept book limits s l (Fitting nonce t span drift) g h token =
    either AreGated s.front.results t token (Accepted ∷ results_of s t) [] (h t) (h token)
