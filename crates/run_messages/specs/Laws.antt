-- What is proved of each run of the world, as things that happen: how its messages are spelled, and who is a member.
use Rattle.std.specs.Prelude.{ℕ, ◌<◌, ◌≡◌, ◌≤◌, ◌^◌, List, Option, None, Some, length}
use Rattle.cl_base.specs.Limits.{most_devices}
use Rattle.cl_base.specs.declared.header.Header.{Header}
use Rattle.history.specs.Contents.{Heartbeats, Spelled}
use Rattle.history.specs.Member.{member_of}
use Rattle.history.specs.Moment.{Moment}
use Rattle.node_model.specs.declared.node.Node.{Node}
use Rattle.node_model.specs.declared.node.Node.TheVariants.{Down, Up}
use Rattle.node_model.specs.declared.seat.Seat.{Seat}
use Rattle.node_model.specs.declared.seat.Seat.TheVariants.{Forming, Member}
use Rattle.world_model.specs.First.{first_cluster}
use Rattle.run_history.specs.ContactRuns.{OfEachRun}
use Rattle.run_history.specs.Happenings.{Happening, MayAllHappen, all_happened}
use Rattle.run_history.specs.Scenes.{Scene, first_scene}

-- the bytes of each `sent` line spell a message of its sender, with the name that the line shows
abbrev pub SpelledOfEachRun : Type 0
SpelledOfEachRun = OfEachRun Spelled

-- the membership of a node in this seat
abbrev pub membership_in : Seat → Option ℕ
membership_in (Forming s) = None
membership_in (Member s) = Some s.session

-- a node that is down is of none
abbrev pub membership_at : Node → Option ℕ
membership_at Down = None
membership_at (Up x) = membership_in x.seat

-- a node is a member as its lines say, and of what they say
abbrev pub IsSeated : List Moment → ℕ → Node → Type 0
IsSeated moments n node = member_of n moments ≡ membership_at node

abbrev pub AreSeated : Scene → Type 0
AreSeated s = (n : ℕ) → IsSeated s.moments n (s.nodes.node n)

abbrev pub MembershipsOfEachRun : Type 0
MembershipsOfEachRun = (h : Header) (cells : ℕ) (hs : List Happening) → length h.devices ≤ most_devices → h.cluster < 2 ^ 32
    → MayAllHappen (first_cluster h) (first_scene h cells) hs → AreSeated (all_happened (first_cluster h) (first_scene h cells) hs)

-- a Heartbeat says whether its sender is a member
abbrev pub HeartbeatsOfEachRun : Type 0
HeartbeatsOfEachRun = OfEachRun Heartbeats
