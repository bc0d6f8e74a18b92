-- A replacement cluster continues where the former one ended, if its files were written after the last acceptance.
use Rattle.std.proofs.Common.{◌≡◌, ℕ, zero, suc, ◌+◌, ◌/◌, ◌<◌, ◌≤◌, ◌⊎◌, ⊎_elim, Bool, true, false, not, cond, ◌||◌, List, [], ◌∷◌, length, take, get_or, Option, Some, None, refl, sym, ap, subst, ◌∙◌, arith, eqb, leb, ltb}
use Rattle.std.specs.Prelude.{slice_get, slice_index, option_map}
use Rattle.std.specs.Option.{option_or}
use Rattle.std.proofs.lemmas.Bool.{cases_Bool, ne_eqb, leb-true, leb-false, ltb-true, eq-eqb, and_parts, not-false}
use Rattle.std.proofs.lemmas.Option.{none-some, same_Some, slice_get_within}
use Rattle.std.proofs.lemmas.List.{take_all}
use Rattle.otp_core.specs.Acceptance.{Acceptance, majority_of, size}
use Rattle.token_file.specs.Credential.{Credential, place_of}
use Rattle.vote_core.specs.Rows.{no_row}
use Rattle.vote_core.specs.Safety.{IsDeliverable, IsOfEarlierBoot, MayOpen}
use Rattle.vote_core.specs.Schedule.{Envelope, Event, Opening, acceptances, cluster_before, floor_before, run, start}
use Rattle.vote_core.specs.declared.message.Message.{Message}
use Rattle.vote_core.specs.declared.message.Message.TheVariants.{Ask, Grant, Deny, Floor}
use Rattle.vote_core.proofs.Envelopes.{envelopes_hold}
use Rattle.vote_core.proofs.Floors.{over_all}
use Rattle.vote_core.proofs.Passes.{above_holds, rise_holds, told_holds}
use Rattle.vote_core.proofs.Runs.{all_kept, all_members}
use Rattle.floors_file.specs.Floors.{FloorsRecord}
use Rattle.floors_file.specs.Gathered.{anew_fault, files_fault, floor_in, gathered_floors, greatest_of, head_fault, is_enough, is_of_files, members_of, rows_fault}
use Rattle.floors_file.specs.declared.floors.Head.{Head}
use Rattle.floors_file.specs.declared.gathered.Asked.{Asked}
use Rattle.floors_file.specs.declared.gathered.FileFault.TheVariants.{SameNode, Members, Older, Boot}
use Rattle.floors_file.specs.declared.gathered.FilesFault.TheVariants.{File, TooManyLost}
use Rattle.oathd_database.specs.Anew.{AreAbove, AreMadeAnew, IsLeftOver, IsReadLast, IsSameUser, boot_at_last}
use Rattle.oathd_database.proofs.BootLemmas.{IsOfBoot, sent_dated}
use Rattle.oathd_database.proofs.ReachLemmas.{file_of, gathered_at, greatest_least, greatest_within, or_none, some_at, told_floor}

-- ---- files without a fault

map_none : {A B : Type 0} (f : A → B) (o : Option A) → option_map f o ≡ None → o ≡ None
map_none f None h = refl
map_none f (Some x) h = absurd (none-some (f x) (sym h))

cond_none : {A : Type 0} (b : Bool) (x : A) (rest : Option A) → cond b (Some x) rest ≡ None → (b ≡ false) × (rest ≡ None)
cond_none true x rest h = absurd (none-some x (sym h))
cond_none false x rest h = (refl, h)

cond_is : {A : Type 0} (b : Bool) (x : A) → cond b None (Some x) ≡ None → b ≡ true
cond_is true x h = refl
cond_is false x h = absurd (none-some x (sym h))

-- the file is of no node of a later one, and at a boot below the asked one
head_fine : (asked : Asked) (members : ℕ) (later : List FloorsRecord) (head : Head) → head_fault asked [] members later head ≡ None
    → (is_of_files head.node later ≡ false) × (head.boot < asked.boot)
head_fine asked members later head none =
    let boot = cond (leb asked.boot head.boot) (Some Boot) None in
    let older = cond (ltb head.moment asked.since) (Some Older) boot in
    let other = cond (not (eqb head.members members)) (Some Members) older in
    let a = cond_none (is_of_files head.node later) SameNode other none in
    let b = cond_none (not (eqb head.members members)) Members older a.1 in
    let c = cond_none (ltb head.moment asked.since) Older boot b.1 in
    let d = cond_none (leb asked.boot head.boot) Boot None c.1 in
    (a.0, leb-false asked.boot head.boot d.0)

-- the same of each of some files
abbrev AreFine : Asked → List FloorsRecord → Type 0
AreFine asked [] = Unit {0}
AreFine asked (file ∷ files) = (is_of_files file.head.node files ≡ false) × (file.head.boot < asked.boot) × AreFine asked files

files_fine : (asked : Asked) (is_same : Bool) (book : List Credential) (all : List FloorsRecord) (place : ℕ) (files : List FloorsRecord)
    → files_fault asked [] is_same book all place files ≡ None → AreFine asked files
files_fine asked is_same book all place [] none = tt
files_fine asked is_same book all place (file ∷ files) none =
    let head = head_fault asked [] (members_of all) files file.head in
    let rows = rows_fault is_same book all file.rows in
    let both = or_none (option_map (File (place + 1)) (option_or head rows)) (files_fault asked [] is_same book all (place + 1) files) none in
    let own = or_none head rows (map_none (File (place + 1)) (option_or head rows) both.0) in
    let fine = head_fine asked (members_of all) files file.head own.0 in
    (fine.0, fine.1, files_fine asked is_same book all (place + 1) files both.1)

fine_at : (asked : Asked) (files : List FloorsRecord) (place : ℕ) (file : FloorsRecord) → AreFine asked files → slice_get files place ≡ Some file → file.head.boot < asked.boot
fine_at asked [] place file fine is = absurd (none-some file is)
fine_at asked (first ∷ files) zero file fine is = subst (λ (f : FloorsRecord). f.head.boot < asked.boot) (same_Some first file is) fine.1
fine_at asked (first ∷ files) (suc place) file fine is = fine_at asked files place file fine.2 is

anew_fine : (asked : Asked) (book : List Credential) (files : List FloorsRecord) → anew_fault asked book files ≡ None
    → AreFine asked files × (is_enough (members_of files) (length files) ≡ true)
anew_fine asked book files none =
    let faults = files_fault asked [] false book files 0 files in
    let both = or_none faults (cond (is_enough (members_of files) (length files)) None (Some TooManyLost)) none in
    (files_fine asked false book files 0 files both.0, cond_is (is_enough (members_of files) (length files)) TooManyLost both.1)

-- ---- there is one node of files for each file

past_size : (n x : ℕ) (s : ℕ → Bool) → n < x → size n (λ i. eqb x i || s i) ≡ size n s
past_size zero x s past = refl
past_size (suc n) x s past =
    let one : ◌≡◌ {A = ℕ} (cond (eqb x (suc n) || s (suc n)) 1 0) (cond (s (suc n)) 1 0) =
    ap (λ b. cond (b || s (suc n)) 1 0) (ne_eqb x (suc n) (λ same. omega (arith, same, past))) in
    omega (arith, one, past_size n x s (omega (arith, past)))

more_size : (n x : ℕ) (s : ℕ → Bool) → 1 ≤ x → x ≤ n → s x ≡ false → size n (λ i. eqb x i || s i) ≡ suc (size n s)
more_size zero x s first within none = absurd (omega (arith, first, within))
more_size (suc n) x s first within none = ⊎_elim last (below (λ le. more_size n x s first le none)) (cases x n within)
  where
    cases : (a b : ℕ) → a ≤ suc b → (a ≡ suc b) ⊎ (a ≤ b)
    cases a b l = grind arith

    last : x ≡ suc n → size (suc n) (λ i. eqb x i || s i) ≡ suc (size (suc n) s)
    last same =
        let now : ◌≡◌ {A = ℕ} (cond (eqb x (suc n) || s (suc n)) 1 0) 1 = ap (λ b. cond (b || s (suc n)) 1 0) (eq-eqb x (suc n) same) in
        let was : ◌≡◌ {A = ℕ} (cond (s (suc n)) 1 0) 0 = ap (λ b. cond b 1 0) (ap s (sym same) ∙ none) in
        omega (arith, now, was, past_size n x s (omega (arith, same)))

    below : (x ≤ n → size n (λ i. eqb x i || s i) ≡ suc (size n s)) → x ≤ n → size (suc n) (λ i. eqb x i || s i) ≡ suc (size (suc n) s)
    below rest le =
        let one : ◌≡◌ {A = ℕ} (cond (eqb x (suc n) || s (suc n)) 1 0) (cond (s (suc n)) 1 0) =
        ap (λ b. cond (b || s (suc n)) 1 0) (ne_eqb x (suc n) (λ same. omega (arith, same, le))) in
        omega (arith, one, rest le)

nobody_size : (n : ℕ) → size n (λ i. false) ≡ 0
nobody_size zero = refl
nobody_size (suc n) = omega (arith, nobody_size n)

-- each file is of a member
abbrev AreMembers : ℕ → List FloorsRecord → Type 0
AreMembers n files = (place : ℕ) (file : FloorsRecord) → slice_get files place ≡ Some file → (1 ≤ file.head.node) × (file.head.node ≤ n)

files_size : (n : ℕ) (asked : Asked) (files : List FloorsRecord) → AreFine asked files → AreMembers n files → size n (λ i. is_of_files i files) ≡ length files
files_size n asked [] fine members = nobody_size n
files_size n asked (file ∷ files) fine members =
    let first = members 0 file refl in
    more_size n file.head.node (λ i. is_of_files i files) first.0 first.1 fine.0
    ∙ ap suc (files_size n asked files fine.2 (λ place f at. members (suc place) f at))

first_file : (files : List FloorsRecord) → 1 ≤ length files → (file : FloorsRecord) × (slice_get files 0 ≡ Some file)
first_file [] some = absurd (omega (arith, some))
first_file (file ∷ files) some = (file, refl)

-- ---- the former incarnation

module _ (n tokens : ℕ) (opening : Opening) (events : List Event) (former book : List Credential) (files : List FloorsRecord) (members : ℕ)
    (next : Opening) (made : AreMadeAnew n tokens opening events former book files members next) where
  fine : AreFine made.asked files × (is_enough (members_of files) (length files) ≡ true)
  fine = anew_fine made.asked book files made.taken

  read_at : (place : ℕ) (file : FloorsRecord) → slice_get files place ≡ Some file → IsReadLast n tokens opening events made.last former file
  read_at place file at = some_at (slice_get files place) file (λ f. IsReadLast n tokens opening events made.last former f) at (made.read place)

  are_members : AreMembers n files
  are_members place file at = let told = read_at place file at in (told.first, told.within)

  -- each majority has one that has a file
  many : n < size n (λ i. is_of_files i files) + majority_of n
  many =
      let both = and_parts (ltb (members_of files) (length files + (members_of files / 2 + 1))) (leb 1 (length files)) fine.1 in
      let enough : members_of files < length files + majority_of (members_of files) =
      ltb-true (members_of files) (length files + (members_of files / 2 + 1)) both.0 in
      let there : n < length files + majority_of n = subst (λ m. m < length files + majority_of m) made.whole enough in
      omega (arith, there, files_size n made.asked files fine.0 are_members)

  some_file : (file : FloorsRecord) × (slice_get files 0 ≡ Some file)
  some_file =
      let both = and_parts (ltb (members_of files) (length files + (members_of files / 2 + 1))) (leb 1 (length files)) fine.1 in
      first_file files (leb-true 1 (length files) both.1)

  -- what is gathered for a user is no less than what a file's node had when it was read
  gathered_above : (old new : ℕ) → IsSameUser former book old new → (own : List ℕ) → length own ≡ length book → (place : ℕ) (file : FloorsRecord)
      → (at : slice_get files place ≡ Some file)
      → floor_before n tokens opening events file.head.node old (read_at place file at).floors.event ≤ slice_index (gathered_floors files book own) new
  gathered_above old new user own each place file at =
      let told = (read_at place file at).floors in
      let rows = ((cluster_before n tokens opening events told.event).nodes file.head.node).content.rows in
      let name = user.before.name in
      let own_place = some_at (slice_get former old) user.before (λ (c : Credential). place_of c.name former ≡ Some old) user.before_is (made.found old) in
      let within = slice_get_within former old user.before user.before_is in
      let has : floor_in name file.rows ≡ Some (get_or rows old no_row).next =
      ap (floor_in name) told.told ∙ told_floor 0 old old name former rows own_place (omega arith) (omega (arith, within, told.each)) in
      let most = greatest_least name files place (get_or rows old no_row).next file at has in
      let gathered = gathered_at files book own new most.0 user.after user.after_is each (ap (λ u. greatest_of u files) user.same ∙ most.1) in
      omega (arith, gathered, most.2)

  -- so it is above all that was accepted of the user
  gathered_beyond : (i : ℕ) (a : Acceptance) → slice_get (acceptances n tokens opening events) i ≡ Some a → (new : ℕ) → IsSameUser former book a.token new
      → (own : List ℕ) → length own ≡ length book → a.hi < slice_index (gathered_floors files book own) new
  gathered_beyond i a is new user own each =
      let front = take (made.last + 1) events in
      let gathered = slice_index (gathered_floors files book own) new in
      let told = told_holds n tokens opening front made.may (λ node. is_of_files node files) many i a (ap (λ l. slice_get l i) made.is_last ∙ is) in
      let within = greatest_within n gathered (λ node. not (is_of_files node files)) (λ node. floor_before n tokens opening front node a.token (length front)) of_file in
      omega (arith, told, within)
    where
      of_file : (node : ℕ) → 1 ≤ node → node ≤ n → not (is_of_files node files) ≡ false
          → floor_before n tokens opening (take (made.last + 1) events) node a.token (length (take (made.last + 1) events)) ≤ slice_index (gathered_floors files book own) new
      of_file node first last there =
          let file = file_of node files (not-false (is_of_files node files) there) in
          let front = take (made.last + 1) events in
          let read = (read_at file.0 file.1 file.2).floors in
          let same : floor_before n tokens opening front file.1.head.node a.token (length front) ≡ floor_before n tokens opening events file.1.head.node a.token (made.last + 1) =
          ap (λ (xs : List Event). (get_or ((run 0 xs (start n tokens opening)).nodes file.1.head.node).content.rows a.token no_row).next) (take_all (length front) front (omega arith)) in
          let rose = rise_holds n tokens opening events made.may file.1.head.node a.token (made.last + 1) read.event (omega (arith, read.later))
          (λ event boot floor low high. read.kept event boot floor (omega (arith, low)) high) in
          let above = gathered_above a.token new user own each file.0 file.1 file.2 in
          subst (λ m. floor_before n tokens opening front m a.token (length front) ≤ slice_index (gathered_floors files book own) new) file.3 (omega (arith, same, rose, above))

  -- ---- the opening

  -- a boot that a former member had is below each new boot
  boot_below : (node boot : ℕ) → 1 ≤ node → node ≤ n → node ≤ members → boot ≤ boot_at_last n tokens opening events node → boot < next.boot node
  boot_below node boot first within among had = ⊎_elim there gone (cases_Bool (is_of_files node files))
    where
      there : is_of_files node files ≡ true → boot < next.boot node
      there is =
          let file = file_of node files is in
          let told = read_at file.0 file.1 file.2 in
          let low = fine_at made.asked files file.0 file.1 fine.0 file.2 in
          let last = subst (λ m. boot_at_last n tokens opening events m ≤ file.1.head.boot) file.3 told.boot in
          omega (arith, had, last, low, made.boots node first among)

      gone : is_of_files node files ≡ false → boot < next.boot node
      gone is = omega (arith, had, made.unread node first within is, made.boots node first among)

  is_earlier : (l : Envelope) → IsDeliverable n tokens l → IsDeliverable members (length book) l → IsOfBoot (boot_at_last n tokens opening events) l.message → IsOfEarlierBoot next.boot l.message
  is_earlier l = of l.message
    where
      of : (m : Message) → IsDeliverable n tokens (record l { message = m }) → IsDeliverable members (length book) (record l { message = m })
          → IsOfBoot (boot_at_last n tokens opening events) m → IsOfEarlierBoot next.boot m
      of (Ask p t span) was now had =
          boot_below p.node p.boot (subst (λ m. 1 ≤ m) (sym was.fits.2) was.other.first) (subst (λ m. m ≤ n) (sym was.fits.2) was.other.last) (subst (λ m. m ≤ members) (sym now.fits.2) now.other.last) had
      of (Grant p t span) was now had =
          boot_below p.node p.boot (subst (λ m. 1 ≤ m) (sym was.fits.2) was.first) (subst (λ m. m ≤ n) (sym was.fits.2) was.last) (subst (λ m. m ≤ members) (sym now.fits.2) now.last) had
      of (Deny p t next) was now had =
          boot_below p.node p.boot (subst (λ m. 1 ≤ m) (sym was.fits.1) was.first) (subst (λ m. m ≤ n) (sym was.fits.1) was.last) (subst (λ m. m ≤ members) (sym now.fits.1) now.last) had
      of (Floor t next) was now had = tt

  pub may_open : MayOpen members (length book) next
  may_open place l at =
      let left = some_at (slice_get next.old place) l (λ e. IsLeftOver n tokens opening events members (length book) e) at (made.old place) in (
        left.fits,
        is_earlier l (envelopes_hold n tokens opening events made.may left.number l left.sent) left.fits
            (sent_dated n tokens opening events made.may left.number l left.sent),
      )

  -- ---- the new incarnation

  pub above : (later : List Event) → AreAbove former book (acceptances n tokens opening events) (acceptances members (length book) next later)
  above later i j a b was now user =
      let within = slice_get_within book b.token user.after user.after_is in
      let from : a.hi + 1 ≤ b.lo =
      above_holds members (length book) next later may_open b.token (a.hi + 1) within
      (λ node first last.
      let beyond = gathered_beyond i a was b.token user (made.own node) (made.each node) in
      omega (arith, beyond, made.floors node b.token first last within)) j b now refl in
      omega (arith, from)

  -- what no former member opened below, no new one does
  pub no_lower : (old new least : ℕ) → IsSameUser former book old new → ((node : ℕ) → 1 ≤ node → node ≤ n → least ≤ opening.floor node old)
      → (node : ℕ) → 1 ≤ node → node ≤ members → least ≤ next.floor node new
  no_lower old new least user from node first last =
      let file = some_file in
      let told = read_at 0 file.0 file.1 in
      let w = cluster_before n tokens opening events told.floors.event in
      let kept = (all_kept n tokens opening (take told.floors.event events) made.may).nodes file.0.head.node in
      let within = slice_get_within former old user.before user.before_is in
      let over = over_all n tokens opening (take told.floors.event events) made.may old least (omega (arith, within, told.floors.each, kept.rows)) from in
      let count = all_members n tokens opening (take told.floors.event events) in
      let low = over.rows file.0.head.node told.first (omega (arith, told.within, count)) in
      let above = gathered_above old new user (made.own node) (made.each node) 0 file.0 file.1 in
      omega (arith, low, above, made.floors node new first last (slice_get_within book new user.after user.after_is))
