-- A node has one request that waits at most.
use Rattle.std.specs.Prelude.{◌==◌, List, map}
use Rattle.std.specs.List.{IsDistinct}
use Rattle.proposals.specs.declared.arrived.Arrived.{Arrived}

-- the nodes whose requests wait are distinct
abbrev pub HasOneEach : List Arrived → Type 0
HasOneEach arrived = IsDistinct ◌==◌ (map (λ (a : Arrived). a.from) arrived)
