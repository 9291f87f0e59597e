-- What each run of the world tells of nodes that are up, and of members.
use Rattle.std.specs.Prelude.{ℕ, ◌≡◌, ◌≤◌, true, false, List, Some, length}
use Rattle.std.specs.List.{AllByRecursion}
use Rattle.cl_base.specs.Limits.{most_devices}
use Rattle.cl_base.specs.declared.header.Header.{Header}
use Rattle.wire.specs.declared.message.Body.{Body}
use Rattle.wire.specs.declared.message.Body.TheVariants as body
use Rattle.history.specs.Member.{is_up, last_member}
use Rattle.history.specs.Moment.{Moment}
use Rattle.history.specs.Starts.{is_started}
use Rattle.node_model.specs.declared.node.Node.{Node}
use Rattle.node_model.specs.declared.node.Node.TheVariants.{Down, Up}
use Rattle.node_model.specs.declared.seat.Seat.{Seat}
use Rattle.node_model.specs.declared.seat.Seat.TheVariants.{Forming, Member}
use Rattle.refinement.specs.Runs.{Letter}
use Rattle.world_model.specs.First.{first_cluster}
use Rattle.run_history.specs.Happenings.{Happening, MayAllHappen, all_happened}
use Rattle.run_history.specs.Scenes.{Scene, first_scene}

-- The last `member` line of a member names its session, and the membership of that number has its `start` line.
abbrev pub SeatLines : ℕ → Seat → List Moment → Type 0
SeatLines n (Forming s) moments = Unit {0}
SeatLines n (Member s) moments = (last_member n moments ≡ Some s.session) × (is_started s.session moments ≡ true)

-- A node is up where the lines say so.
abbrev pub NodeLines : ℕ → Node → List Moment → Type 0
NodeLines n Down moments = is_up n moments ≡ false
NodeLines n (Up x) moments = (is_up n moments ≡ true) × SeatLines n x.seat moments

-- A Start is sent of a membership that has its `start` line.
abbrev pub BodyLines : List Moment → Body → Type 0
BodyLines moments (body.Start e) = is_started e moments ≡ true
BodyLines moments _ = Unit {0}

abbrev pub LetterLines : List Moment → Letter → Type 0
LetterLines moments l = BodyLines moments l.body

-- all nodes, and all that was ever sent
pub record HasMemberLines (s : Scene) : Type 0 where
  pub nodes : (n : ℕ) → NodeLines n (s.nodes.node n) s.moments
  pub sent : AllByRecursion (LetterLines s.moments) s.nodes.sent

abbrev pub MembersOfEachRun : Type 0
MembersOfEachRun = (h : Header) (cells : ℕ) (hs : List Happening) → length h.devices ≤ most_devices → MayAllHappen (first_cluster h) (first_scene h cells) hs
    → HasMemberLines (all_happened (first_cluster h) (first_scene h cells) hs)
