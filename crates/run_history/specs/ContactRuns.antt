-- What is proved of each run of the world, as things that happen: the messages that stand behind its lines.
use Rattle.std.specs.Prelude.{ℕ, ◌<◌, ◌≤◌, ◌^◌, List, length}
use Rattle.cl_base.specs.Limits.{most_devices}
use Rattle.cl_base.specs.declared.header.Header.{Header}
use Rattle.history.specs.Contact.{AttemptsDiffer, Installed, Prepared, Ready, ToldMembers}
use Rattle.history.specs.Moment.{Moment}
use Rattle.world_model.specs.First.{first_cluster}
use Rattle.run_history.specs.Happenings.{Happening, MayAllHappen, all_happened}
use Rattle.run_history.specs.Scenes.{first_scene}

-- P holds of what was said and told in each run from the first scene of a header on
abbrev pub OfEachRun : (List Moment → Type 0) → Type 0
OfEachRun P = (h : Header) (cells : ℕ) (hs : List Happening) → length h.devices ≤ most_devices → h.cluster < 2 ^ 32
    → MayAllHappen (first_cluster h) (first_scene h cells) hs
    → P (all_happened (first_cluster h) (first_scene h cells) hs).moments

-- no number is tried twice
abbrev pub OnceOfEachRun : Type 0
OnceOfEachRun = OfEachRun AttemptsDiffer

-- a node other than the coordinator installs in the event in which an Install comes to it
abbrev pub InstalledOfEachRun : Type 0
InstalledOfEachRun = OfEachRun Installed

-- a membership starts once each other member was sent an Install, and has answered with its Ready
abbrev pub ReadyOfEachRun : Type 0
ReadyOfEachRun = OfEachRun Ready

-- an update is acknowledged once each other member has prepared, which it was asked to after the update was proposed
abbrev pub PreparedOfEachRun : Type 0
PreparedOfEachRun = OfEachRun Prepared

-- a node other than the coordinator is a member once a Start came to it, which was sent after the `start` line
abbrev pub ToldOfEachRun : Type 0
ToldOfEachRun = OfEachRun ToldMembers
