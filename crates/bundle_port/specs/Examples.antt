-- A bundle of two parts, bundlers that hold parts, and a calm one.
use Rattle.std.specs.Prelude.{ℕ, ◌-◌, List, [], ◌∷◌, ◌++◌, replicate, slice_set}
use Rattle.datagram_port.specs.Port.{PortEvent, Received}
use Rattle.datagram_port.specs.declared.port.Sender.TheVariants.{Peer}
use Rattle.bundle_port.specs.Bundler.{BundlerRecord, LaneRecord, new_bundler}

-- a datagram of 33 bytes
abbrev pub first : List ℕ
first = 1 ∷ replicate 32 2

-- a datagram of 32 bytes
abbrev pub second : List ℕ
second = replicate 32 3

-- both datagrams
abbrev pub both : List (List ℕ)
both = first ∷ second ∷ []

-- the bundle of both
abbrev pub bundle_of_both : List ℕ
bundle_of_both = 0x4f ∷ 0x42 ∷ 1 ∷ 33 ∷ first ++ 32 ∷ second

-- a datagram of a number of bytes
abbrev pub of_len : ℕ → List ℕ
of_len len = replicate len 7

-- a lane: the parts that wait, the number of datagrams offered since the last wait, and that of calm waits
abbrev pub lane_of : List (List ℕ) → ℕ → ℕ → LaneRecord
lane_of parts offered calm = record { parts = parts; offered = offered; calm = calm }

-- a bundler with another lane of one member
abbrev pub with_lane : BundlerRecord → ℕ → LaneRecord → BundlerRecord
with_lane bundler member lane = record bundler { lanes = slice_set bundler.lanes (member - 1) lane }

-- a new bundler in which parts wait for one member, to which two datagrams or more were offered
abbrev pub waiting_with : ℕ → List (List ℕ) → BundlerRecord
waiting_with member parts = with_lane new_bundler member (lane_of parts 2 0)

-- a bundler after a number of calm waits
abbrev pub calm_for : ℕ → BundlerRecord
calm_for waits = record new_bundler { lanes = replicate 9 (lane_of [] 0 waits) }

-- a bundler in which parts of a bundle of member 1 are left
abbrev pub left_with : List (List ℕ) → BundlerRecord
left_with parts = record new_bundler { left = record { from = 1; parts = parts } }

-- a datagram comes from member 1
abbrev pub from_1 : List ℕ → PortEvent
from_1 bytes = Received (Peer 1) bytes
