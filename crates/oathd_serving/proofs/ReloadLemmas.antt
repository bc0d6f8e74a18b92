-- The boots of a node that takes its users file again.
use Rattle.std.proofs.Common.{◌≡◌, ◌<◌, ◌∙◌, length, inl, inr, ℕ, Bool, List, [], ◌∷◌, ◌++◌, Option, Some, None, refl, ap, sym, subst, arith}
use Rattle.std.specs.Borrow.{Bor}
use Rattle.std.specs.Global.{Vec}
use Rattle.std.specs.Prelude.{◌⊎◌, Result, Ok, Err, IfErr, IfOk, IsErrAnd, min}
use Rattle.sqlite.specs.Store.{Ghosts}
use Rattle.sqlite.specs.Held as sql
use Rattle.otp_core.specs.Limits.{Limits}
use Rattle.otp_core.specs.Range.{IsMoment}
use Rattle.token_file.specs.Credential.{Credential}
use Rattle.token_file.specs.UsersFile.{Import}
use Rattle.token_file.specs.declared.fault.LineFault.{LineFault}
use Rattle.roster_sql.specs.declared.entry.Entry.{Entry}
use Rattle.named_store.specs.Entries.{entries_of}
use Rattle.named_store.specs.Seating.{AreDistinct}
use Rattle.oath_node.specs.declared.turns.Served.{Served}
use Rattle.node_serving.specs.Serving.{IsAgain}
use Rattle.node_serving.specs.declared.serving.Serving.{Serving}
use Rattle.oathd_database.specs.Users.{IsImported}
use Rattle.oathd_roster.specs.Enrolled.{IsServedText}
use Rattle.store_serving.specs.Served.{EndsServingNamed, HasServedNamed}
use Rattle.oathd_roster.specs.Users.{IsUnnamed}
use Rattle.oathd_roster.specs.declared.cluster.NamedCluster.{NamedCluster}
use Rattle.oathd_roster.specs.declared.fault.RosterFault.{RosterFault}
use Rattle.store_serving.proofs.AnswerLemmas.{last_answer}
use Rattle.oathd_words.specs.declared.store_words.ClientWords.{ClientWords}
use Rattle.oathd_words.specs.declared.store_words.ClusterWords.{ClusterWords}
use Rattle.oathd_words.specs.declared.store_words.ClusterWords.TheVariants.{Named}
use Rattle.oathd_site.specs.Names.{IsNamedOf}
use Rattle.oathd_serving.specs.Ends.{NamedEndsSo}
use Rattle.oathd_site.specs.Fault.{fault_of}
use Rattle.oathd_serving.specs.Reload.{AreBoots, AreServedBoots, IsBoot, IsNextOf, IsNextText, IsOfBoot, IsRefused, IsReloaded, IsTaken, answers_of, named_reason_of}
use Rattle.oathd_serving.specs.Serve.{IsAskedFor, IsMemberOf, IsRunOf}
use Rattle.oathd_site.specs.declared.fault.Fault.{Fault as Program}
use Rattle.oathd_serving.specs.declared.refusal.Refusal.{Refusal}
use Rattle.oathd_serving.specs.declared.refusal.Refusal.TheVariants.{NoTokens}
use Rattle.oathd_serving.specs.declared.reload.Boot.{Boot}
use Rattle.oathd_serving.specs.declared.watch.Found.{Found}
use Rattle.oathd_serving.specs.declared.watch.Found.TheVariants.{Text, Unread}
use Rattle.oathd_serving.proofs.EndsLemmas.{ended_named}

-- ---- One boot

module _ {S : Type 0} (g : Ghosts S) (finds : sql.Held S → Type 0) (named : NamedCluster) (moment : ℕ) (kept since now : ℕ) (serving : Serving)
    (counts : Served) (users : List ℕ) (h : HasServedNamed g finds named moment serving (answers_of kept since now) (Ok counts) users) where
  -- the next boot has fewer turns
  pub fewer_turns : (turns left : ℕ) → serving.turns ≡ turns → left ≡ min kept turns → (turns ≡ 0) ⊎ (left < turns)
  fewer_turns turns left same is =
      elim (last_answer g finds named moment serving (answers_of kept since now) counts users h) [
        | inl none ↦ inl (sym same ∙ none)
        | inr last ↦ let less = last.1 in let told = last.3.0 in inr (omega (arith, less, told, same, is))
      ]

  -- the boot
  pub boot_served : (asked : Serving) (boot next : Boot) (text : List ℕ) → IsMoment moment → IsAgain asked serving → serving.turns ≡ boot.turns
      → text ≡ boot.text.items → IsServedText g named serving.settings finds moment serving.place.me text users
      → next.turns ≡ min kept boot.turns → IsNextText asked.settings named.salt boot.text.items next.text.items
      → IsBoot g finds (λ other. other ≡ asked) (λ other. other ≡ named) boot next
  boot_served asked boot next text at again same text_is of is taken = record {
    kept = kept;
    since = since;
    now = now;
    served = record {
      serving = serving;
      asked = (asked, refl, again, same);
      named = named;
      of_cluster = refl;
      moment = moment;
      is_moment = at;
      users = users;
      counts = counts;
      served = h;
    };
    of_text = subst (λ (t : List ℕ). IsServedText g named serving.settings finds moment serving.place.me t users) text_is of;
    left_are = is;
    next_text = subst (λ (limits : Limits). IsNextText limits named.salt boot.text.items next.text.items) (sym again.of_settings) taken;
  }

module _ {S : Type 0} (g : Ghosts S) (finds : sql.Held S → Type 0) (IsAsked : Serving → Type 0) (IsCluster : NamedCluster → Type 0) where
  -- the parameters and the cluster of a boot were asked for
  boot_as_asked : (asked : Serving) (named : NamedCluster) (boot next : Boot) → IsAsked asked → IsCluster named
      → IsBoot g finds (λ other. other ≡ asked) (λ other. other ≡ named) boot next → IsBoot g finds IsAsked IsCluster boot next
  boot_as_asked asked named boot next is of h =
      let served = h.served in
      let again = served.asked in
      record {
        kept = h.kept;
        since = h.since;
        now = h.now;
        served = record {
          serving = served.serving;
          asked = (again.0, subst IsAsked (sym again.1) is, again.2, again.3);
          named = served.named;
          of_cluster = subst IsCluster (sym served.of_cluster) of;
          moment = served.moment;
          is_moment = served.is_moment;
          users = served.users;
          counts = served.counts;
          served = served.served;
        };
        of_text = h.of_text;
        left_are = h.left_are;
        next_text = h.next_text;
      }

  -- a node that was asked for has a first boot
  pub first_boot : (IsLater : Boot → Boot → Type 0) (asked : Serving) (named : NamedCluster) (turns : ℕ) (result : Result Unit Program)
      → IsAsked asked → IsCluster named → asked.turns ≡ turns
      → IfOk result (λ _. AreServedBoots (IsBoot g finds (λ other. other ≡ asked) (λ other. other ≡ named)) IsLater asked.turns)
      → IfOk result (λ _. (first : Boot) × (next : Boot) × (first.turns ≡ turns) × IsBoot g finds IsAsked IsCluster first next)
  first_boot IsLater asked named turns (Ok done) is of same h =
      (h.first, h.next, h.of_turns ∙ same, boot_as_asked asked named h.first h.next is of h.is_first)
  first_boot IsLater asked named turns (Err fault) is of same h = tt

-- the words name the cluster file
pub named_reloaded : {S : Type 0} (g : Ghosts S) (finds : sql.Held S → Type 0) (cluster : ClusterWords) (node : ℕ) (path : Bor (List ℕ)) (turns : ℕ)
    (is_logged : Bool) (clients : ClientWords) (text : List ℕ) (result : Result Unit Program) → cluster ≡ Named node path
    → IfOk result (λ _. (first : Boot) × (next : Boot) × (first.turns ≡ turns)
    × IsBoot g finds (λ serving. IsMemberOf node text serving × IsRunOf turns is_logged clients serving) (IsNamedOf text) first next)
    → IfOk result (λ _. IsReloaded g finds (IsAskedFor cluster turns is_logged clients text) cluster turns text)
named_reloaded g finds cluster node path turns is_logged clients text result is h =
    subst (λ (words : ClusterWords). IfOk result (λ _. IsReloaded g finds (IsAskedFor words turns is_logged clients text) words turns text)) (sym is) h

-- ---- One after another

-- fewer turns are left if there was one
pub fewer_left : (turns left : ℕ) → 0 < turns → (turns ≡ 0) ⊎ (left < turns) → left < turns
fewer_left turns left some (inl none) = omega (arith, some, none)
fewer_left turns left some (inr less) = less

-- one boot more
pub boots_more : {A : Type 0} (IsLater : A → A → Type 0) (first last next : A) (boots : List A) → AreBoots IsLater first last boots → IsLater last next
    → AreBoots IsLater first next (boots ++ next ∷ [])
boots_more {A} IsLater first last next [] same boot = (subst (λ (one : A). IsLater one next) (sym same) boot, refl)
boots_more IsLater first last next (left ∷ boots) h boot = (h.0, boots_more IsLater left last next boots h.1 boot)

-- ---- The text of the next boot

-- what is next after what was found
pub next_of : (limits : Limits) (salt text : List ℕ) (found : Option Found) (next : List ℕ) → IsNextOf limits salt text found next
    → IsNextText limits salt text next
next_of limits salt text None next h = inl h
next_of limits salt text (Some (Unread refusal)) next h = inl h
next_of limits salt text (Some (Text other)) next (inl taken) = inr (subst (λ (t : List ℕ). IsTaken limits salt t) (sym taken.1) taken.0)
next_of limits salt text (Some (Text other)) next (inr stays) = inl stays.2

-- a refused text changes nothing
pub refused_stays : (limits : Limits) (salt text slice : List ℕ) (found : Option Found) (other : Vec ℕ) (refusal : Refusal) → found ≡ Some (Text other)
    → slice ≡ other.items → IsRefused limits salt slice refusal → IsNextOf limits salt text found text
refused_stays limits salt text slice found other refusal is same h =
    subst (λ (f : Option Found). IsNextOf limits salt text f text) (sym is)
    (inr (refusal, subst (λ (t : List ℕ). IsRefused limits salt t refusal) same h, refl))

-- ---- A text that is read

-- the outcome of an import
abbrev book_in : Result Import (ℕ × LineFault) → List Credential
book_in (Ok import) = import.book
book_in (Err fault) = []

-- a text without bytes is not taken
pub nothing_taken : (limits : Limits) (salt : List ℕ) → IsTaken limits salt [] → ⊥
nothing_taken limits salt taken =
    let none : [] ≡ taken.import.book = ap book_in taken.import.imported in
    let some = taken.some in omega (arith, some, ap (λ (book : List Credential). length book) none)

-- a book without a token
no_book : (book : List Credential) → length book ≡ 0 → book ≡ []
no_book [] h = refl
no_book (token ∷ book) h = let no : ⊥ = omega (arith, h) in absurd no

module _ (limits : Limits) (salt text : List ℕ) where
  -- a text without a token is refused
  pub refused_empty : (book : List Credential) (floors : List ℕ) → IsImported limits 0 16777216 book floors text → length book ≡ 0
      → IsRefused limits salt text NoTokens
  refused_empty book floors h none = inl (record { book = book; floors = floors; imported = h }, no_book book none, refl)

  -- a text with a fault is refused
  pub refused_by : (fault : RosterFault) (refusal : Refusal) → IsUnnamed salt limits 0 16777216 fault text → refusal ≡ named_reason_of fault
      → IsRefused limits salt text refusal
  refused_by fault refusal h is = inr (fault, h, is)

  -- any other is taken
  pub taken_text : (book : List Credential) (floors : List ℕ) (entries : List Entry) → IsImported limits 0 16777216 book floors text → 0 < length book
      → AreDistinct entries → entries ≡ entries_of salt book → IsTaken limits salt text
  taken_text book floors entries h some distinct are = record {
    import = record { book = book; floors = floors; imported = h };
    some = some;
    distinct = subst AreDistinct are distinct;
  }

-- ---- A fault of a boot

module _ {S : Type 0} (g : Ghosts S) (finds : sql.Held S → Type 0) (named : NamedCluster) (moment : ℕ) (asked serving : Serving) (turns : ℕ) where
  -- a boot ends with a fault of its node
  pub boot_failed : (fault : RosterFault) (users : List ℕ) (result : Result Boot Program) → IsErrAnd result (λ y. y ≡ fault_of fault)
      → IsMoment moment → IsAgain asked serving → serving.turns ≡ turns → EndsServingNamed g finds named moment serving fault users
      → IfErr result (λ fault. NamedEndsSo g finds (IsOfBoot (λ other. other ≡ asked) turns) (λ other. other ≡ named) (Err fault))
  boot_failed fault users (Ok boot) is at again same h = tt
  boot_failed fault users (Err other) is at again same h =
      subst (λ (f : Program). NamedEndsSo g finds (IsOfBoot (λ (other : Serving). other ≡ asked) turns) (λ (other : NamedCluster). other ≡ named) (Err f)) (sym is)
      (ended_named g finds (IsOfBoot (λ (other : Serving). other ≡ asked) turns) (λ (other : NamedCluster). other ≡ named)
      serving (asked, refl, again, same) named refl moment at fault users h)
