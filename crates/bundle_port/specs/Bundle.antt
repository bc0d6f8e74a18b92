-- The format of a bundle: datagrams that are joined into one.
use Rattle.std.specs.Prelude.{ℕ, zero, suc, ◌==◌, ◌&&◌, Bool, nat_le, if◌then◌else◌, List, [], ◌∷◌, ◌++◌, length, take, drop, slice_index, Option, Some, None, is_some, unwrap_or}

-- ---- written

-- the mark of a bundle, and the version of the format
abbrev pub bundle_head : List ℕ
bundle_head = 0x4f ∷ 0x42 ∷ 1 ∷ []

-- whether a datagram can be a part of a bundle: it has 32 to 255 bytes
abbrev pub is_part : List ℕ → Bool
is_part bytes = nat_le 32 (length bytes) && nat_le (length bytes) 255

-- the bytes of parts: of each its length and its bytes
abbrev pub parts_bytes : List (List ℕ) → List ℕ
parts_bytes [] = []
parts_bytes (part ∷ parts) = (length part ∷ part) ++ parts_bytes parts

-- the bundle of parts
abbrev pub bundle_bytes : List (List ℕ) → List ℕ
bundle_bytes parts = bundle_head ++ parts_bytes parts

-- ---- read

-- a part and those after it, if they can be read
abbrev pub part_with : List ℕ → Option (List (List ℕ)) → Option (List (List ℕ))
part_with part None = None
part_with part (Some parts) = Some (part ∷ parts)

-- The parts of some bytes, the first of which still belong to an earlier part. `missing` is the number of these.
-- None: a part is cut, or has fewer than 32 bytes.
abbrev pub parts_from : List ℕ → ℕ → Option (List (List ℕ))
parts_from [] zero = Some []
parts_from [] (suc missing) = None
parts_from (len ∷ bytes) zero = if nat_le 32 len then part_with (take len bytes) (parts_from bytes len) else None
parts_from (byte ∷ bytes) (suc missing) = parts_from bytes missing

-- whether some bytes begin with the mark and the version
abbrev pub has_head : List ℕ → Bool
has_head bytes = (slice_index bytes 0 == 0x4f) && (slice_index bytes 1 == 0x42) && (slice_index bytes 2 == 1)

-- whether some bytes can be a bundle, by their length and how they begin
abbrev pub begins_bundle : List ℕ → Bool
begins_bundle bytes = nat_le 4 (length bytes) && nat_le (length bytes) 512 && has_head bytes

-- the parts of a bundle. None: the datagram is no bundle.
abbrev pub parts_at : List ℕ → Option (List (List ℕ))
parts_at bytes = if begins_bundle bytes then parts_from (drop 3 bytes) 0 else None

-- whether a datagram is a bundle
abbrev pub is_bundle : List ℕ → Bool
is_bundle bytes = is_some (parts_at bytes)

-- the parts of a bundle, or a plain datagram as its only part
abbrev pub parts_or_itself : List ℕ → List (List ℕ)
parts_or_itself bytes = unwrap_or (parts_at bytes) (bytes ∷ [])

-- the parts of some bytes after the first ones. There is none if they cannot be read.
abbrev pub parts_behind : ℕ → List ℕ → List (List ℕ)
parts_behind start bytes = unwrap_or (parts_from (drop start bytes) 0) []
