-- The disk rule of each run of the world.
use Rattle.std.specs.Prelude.{ℕ, ◌≤◌, ◌<◌, ◌^◌, List, length}
use Rattle.cl_base.specs.Limits.{most_devices}
use Rattle.cl_base.specs.declared.header.Header.{Header}
use Rattle.history.specs.DiskRule.{DiskRule}
use Rattle.run_history.specs.Runs.{IsRun, moments_of}
use Rattle.run_history.specs.WorldLines.{AreDisks}
use Rattle.run_history.specs.Happenings.{Happening}

-- Where a device takes a write of a node, the node is a member of a membership that started and holds the device, and
-- each greater membership that started before and holds it has the node among its members.
abbrev pub DiskRuleOfEachRun : Type 0
DiskRuleOfEachRun = (h : Header) (cells : ℕ) (hs : List Happening)
    → length h.devices ≤ most_devices → h.cluster < 2 ^ 32 → AreDisks h → IsRun h cells hs
    → DiskRule h (moments_of h cells hs)
