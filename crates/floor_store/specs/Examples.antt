-- A written-out content of two tokens, and the ends of the ranges of its values.
use Rattle.std.specs.Prelude.{ℕ, pos, negsuc, List, [], ◌∷◌, Option, Some, None}
use Rattle.floor_store.specs.Content.{Content}
use Rattle.floor_store.specs.Records.{PassRecord, ProposalRecord, RowRecord, span_of}

-- a row whose factors up to 5 a node's proposal has used up
abbrev pub granted_row : RowRecord
granted_row = record {
  next = 6;
  grant = Some (record { node = 2; boot = 7; seq = 3 }, span_of 5 5);
  gate = record { fails = 2; until = 130 };
  drift = negsuc 2;
}

-- a row whose factors 0 and 1 are used up
abbrev pub later_row : RowRecord
later_row = record {
  next = 2;
  grant = Some (record { node = 1; boot = 4; seq = 9 }, span_of 0 1);
  gate = record { fails = 1; until = 65 };
  drift = pos 10;
}

-- a row with the floor `next`, without a grant, with a clear gate
abbrev pub free_row : ℕ → RowRecord
free_row next = record { next = next; grant = None; gate = record { fails = 0; until = 0 }; drift = pos 0 }

-- the last acceptance at the node
abbrev pub old_pass : PassRecord
old_pass = record { token = 0; lo = 5; hi = 5; boot = 4; seq = 8 }

-- a later acceptance
abbrev pub new_pass : PassRecord
new_pass = record { token = 1; lo = 0; hi = 1; boot = 4; seq = 9 }

-- two rows at boot 4
abbrev pub two_rows : RowRecord → RowRecord → Option PassRecord → Content
two_rows first second last = record { rows = first ∷ second ∷ []; boot = 4; last = last }

-- a proposal by its node, boot and number
abbrev pub proposal : ℕ → ℕ → ℕ → ProposalRecord
proposal node boot seq = record { node = node; boot = boot; seq = seq }

-- a pass of a token with the factors lo to hi, by its boot and number
abbrev pub pass : ℕ → ℕ → ℕ → ℕ → ℕ → PassRecord
pass token lo hi boot seq = record { token = token; lo = lo; hi = hi; boot = boot; seq = seq }

-- a content of the rows at a boot, without a pass
abbrev pub content_at : ℕ → List RowRecord → Content
content_at boot rows = record { rows = rows; boot = boot; last = None }
