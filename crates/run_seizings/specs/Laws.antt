-- Of each run of the world: what the devices that a start holds rest on.
use Rattle.std.specs.Prelude.{ℕ, ◌<◌, ◌≤◌, ◌^◌, List, length}
use Rattle.cl_base.specs.Limits.{most_devices}
use Rattle.cl_base.specs.declared.header.Header.{Header}
use Rattle.history.specs.Contact.{Held}
use Rattle.history.specs.Contents.{KnownHeld}
use Rattle.history.specs.Moment.{Moment}
use Rattle.world_model.specs.First.{first_cluster}
use Rattle.run_history.specs.Happenings.{Happening, MayAllHappen, all_happened}
use Rattle.run_history.specs.Scenes.{first_scene}

-- P holds of what was said and told in each run from the first scene of a header on
abbrev pub OfEachRun : (Header → List Moment → Type 0) → Type 0
OfEachRun P = (h : Header) (cells : ℕ) (hs : List Happening)
    → length h.devices ≤ most_devices → h.cluster < 2 ^ 32
    → MayAllHappen (first_cluster h) (first_scene h cells) hs
    → P h (all_happened (first_cluster h) (first_scene h cells) hs).moments

-- each device that a start holds was seized for it by a member
abbrev pub HeldOfEachRun : Type 0
HeldOfEachRun = OfEachRun Held

-- its coordinator seized the device itself, or was told since its attempt began that another member did
abbrev pub KnownHeldOfEachRun : Type 0
KnownHeldOfEachRun = OfEachRun KnownHeld
