-- The setup of a port by names.
use Rattle.std.specs.Prelude.{◌∷◌, Option}
use Rattle.std.specs.Option.{option_map}
use Rattle.datagram_port.specs.Setup.{Naming, Setup, under_names}
use Rattle.named_port.specs.Translator.{TranslatorRecord}

-- what a translator translates by: the boots that it knew at its start stand before the names
abbrev pub naming_of : TranslatorRecord → Naming
naming_of translator =
    record {
      key = translator.key;
      names = translator.known ∷ translator.names;
      me = translator.me;
      boot = translator.boot;
    }

-- the setup of a port with the translator over a port with the given setup
abbrev pub named_setup : TranslatorRecord → Option Setup → Option Setup
named_setup translator below = option_map (under_names (naming_of translator)) below
