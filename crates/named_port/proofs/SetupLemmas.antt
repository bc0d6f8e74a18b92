-- A port by names keeps what it translates by.
use Rattle.std.proofs.Common.{◌≡◌, ◌∙◌, ℕ, List, ◌∷◌, Option, Some, None, refl, sym, ap}
use Rattle.datagram_port.specs.Port.{PortEvent}
use Rattle.datagram_port.specs.Setup.{Naming, Setup}
use Rattle.named_port.specs.Setup.{named_setup, naming_of}
use Rattle.named_port.specs.Translator.{TranslatorRecord, after_event}
use Rattle.named_port.proofs.RunLemmas.{keeps_event}

abbrev naming : List ℕ → List ℕ → List (List ℕ) → ℕ → ℕ → Naming
naming key known names me boot = record { key = key; names = known ∷ names; me = me; boot = boot }

-- no event changes what a translator translates by
pub same_naming : (t : TranslatorRecord) (event : PortEvent) → naming_of (after_event t event) ≡ naming_of t
same_naming t event =
    let k = keeps_event t event in
    let u = after_event t event in
    ap (λ (x : List ℕ). naming x u.known u.names u.me u.boot) k.key
    ∙ ap (λ (x : List ℕ). naming t.key x u.names u.me u.boot) k.known
    ∙ ap (λ (x : List (List ℕ)). naming t.key t.known x u.me u.boot) k.names
    ∙ ap (λ (x : ℕ). naming t.key t.known t.names x u.boot) k.me
    ∙ ap (λ (x : ℕ). naming t.key t.known t.names t.me x) k.boot

abbrev setup_with : Naming → Option Setup → Option Setup
setup_with one None = None
setup_with one (Some setup) = Some (record setup { namings = one ∷ setup.namings })

is_with : (t : TranslatorRecord) (below : Option Setup) → named_setup t below ≡ setup_with (naming_of t) below
is_with t None = refl
is_with t (Some setup) = refl

-- the setup stays where the naming and the setup of the port below do
pub setup_stays : (t u : TranslatorRecord) (old new : Option Setup) → naming_of u ≡ naming_of t → new ≡ old
    → named_setup u new ≡ named_setup t old
setup_stays t u old new same stays =
    is_with u new ∙ ap (λ (one : Naming). setup_with one new) same ∙ ap (setup_with (naming_of t)) stays ∙ sym (is_with t old)

-- a receive of the port below keeps the setup
pub setup_after : (t u : TranslatorRecord) (event : PortEvent) (old new : Option Setup) → u ≡ after_event t event → new ≡ old
    → named_setup u new ≡ named_setup t old
setup_after t u event old new is stays = setup_stays t u old new (ap naming_of is ∙ same_naming t event) stays
