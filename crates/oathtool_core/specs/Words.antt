-- The range of the words' window.
use Rattle.std.specs.Prelude.{◌≤◌}
use Rattle.oathtool_core.specs.declared.words.Words.{Words}

-- the window is at most 1,000
abbrev pub HasWindow : Words → Type 0
HasWindow words = words.window ≤ 1000
