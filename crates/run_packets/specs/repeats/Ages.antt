-- What is proposed, and how many ticks ago its Prepares were sent last: of a president, and against the lines.
use Rattle.std.specs.Prelude.{ℕ, ◌≡◌, ◌≤◌, ◌⊎◌, Bool, true, false, List, [], ◌∷◌, length, Option, None, Some, is_some}
use Rattle.std.specs.List.{list_any}
use Rattle.ccr_commit.specs.Entries.{EntryList, texts_of}
use Rattle.cl_base.specs.Limits.{most_nodes}
use Rattle.cl_base.specs.Sets.{has}
use Rattle.history.specs.Messages.{pending_place, ticks_since}
use Rattle.history.specs.Contact.{is_proposal}
use Rattle.history.specs.Moment.{Moment}
use Rattle.history.specs.Order.{before_last}
use Rattle.history.specs.Names as name
use Rattle.history.specs.Starts.{is_started}
use Rattle.node_model.specs.declared.cluster.Cluster.{Cluster}
use Rattle.node_model.specs.declared.node.Node.{Node}
use Rattle.node_model.specs.declared.node.Node.TheVariants.{Down, Up}
use Rattle.node_model.specs.declared.node.UpNode.{UpNode}
use Rattle.node_model.specs.declared.output.Output.{Output}
use Rattle.node_model.specs.declared.presidency.Presidency.{Presidency}
use Rattle.node_model.specs.declared.seat.Seat.{Seat}
use Rattle.node_model.specs.declared.seat.Seat.TheVariants.{Forming, Member}
use Rattle.proposals.specs.declared.arrived.Proposed.{Proposed}
use Rattle.refinement.specs.Courses.{Course}
use Rattle.refinement.specs.Courses.Course.{Acts, Falls, Keeps, Stops}
use Rattle.refinement.specs.Doings.{Act, Doing, Site, acted, changed, effect}
use Rattle.refinement.specs.Doings.Act.{Makes, Minds, Spreads, Ticks, Writes}
use Rattle.refinement.specs.Doings.Doing.{Does, Saves}
use Rattle.refinement.specs.Guards.{OfUp}
use Rattle.wire.specs.declared.message.Body.{Body}
use Rattle.wire.specs.declared.message.Body.TheVariants as body
use Rattle.run_packets.specs.prepares.Actors.{Follows, FollowsIn, NoProposal}
use Rattle.run_packets.specs.prepares.Proposals.{IsBehind, IsShort}

-- ---- courses

abbrev pub NoPrepare : Body → Type 0
NoPrepare (body.Prepare e v text) = ⊥
NoPrepare _ = Unit {0}

-- what is proposed still is as old as it was
abbrev pub AgeKept : Option Presidency → Option Presidency → Type 0
AgeKept (Some p) (Some q) = is_some q.proposals.proposed ≡ true → q.proposals.age ≡ p.proposals.age
AgeKept _ _ = Unit {0}

-- the Prepares of what is proposed are sent in this event
abbrev pub IsFresh : Option Presidency → Type 0
IsFresh None = ⊥
IsFresh (Some p) = p.proposals.age ≡ 0

-- Prepares are sent at a tick at which they go again, or for what has just been proposed
abbrev pub SpreadSo : Bool → Option Presidency → Body → Type 0
SpreadSo again o (body.Prepare e v text) = (again ≡ true) ⊎ IsFresh o
SpreadSo again o _ = Unit {0}

abbrev pub ActAges : Bool → UpNode → Act → Type 0
ActAges again x Ticks = ⊥
ActAges again x (Minds q p) = AgeKept x.presidency p
ActAges again x (Writes to b) = NoPrepare b
ActAges again x (Spreads receivers b) = SpreadSo again x.presidency b
ActAges again x (Makes change) = NoProposal change
ActAges again x _ = Unit {0}

-- so a course goes, but for the tick itself
abbrev pub GoesAged : Cluster → ℕ → Bool → UpNode → Course → Type 0
GoesAged c n again x Stops = Unit {0}
GoesAged c n again x (Acts a rest) = ActAges again x a × GoesAged c n again (acted c n x a) rest
GoesAged c n again x (Keeps change rest) = Follows n x change rest × GoesAged c n again (changed c n x change) rest
GoesAged c n again x (Falls why) = Unit {0}

abbrev pub DoingAges : ℕ → Bool → Site → Doing → List Doing → Type 0
DoingAges n again x (Does a) ds = OfUp (λ y. ActAges again y a) x.node
DoingAges n again x (Saves change) ds = OfUp (λ y. FollowsIn n y change ds) x.node
DoingAges n again x _ ds = Unit {0}

-- .. and small steps one after another
abbrev pub AllAge : Cluster → ℕ → Bool → Site → List Doing → Type 0
AllAge c n again x [] = Unit {0}
AllAge c n again x (d ∷ ds) = DoingAges n again x d ds × AllAge c n again (effect c n x d) ds

-- what a president has proposed is no tick old
abbrev pub OfficeZero : Option Presidency → Type 0
OfficeZero None = Unit {0}
OfficeZero (Some p) = is_some p.proposals.proposed ≡ true → p.proposals.age ≡ 0

-- ---- against the lines

-- Node n sent m the Prepare of e for place v so many ticks ago; or none ago, and it is among what the node gives still.
abbrev pub IsAged : List Moment → List Output → ℕ → ℕ → ℕ → ℕ → List ℕ → ℕ → Type 0
IsAged ms rest n m e v text age = (ticks_since n m (name.Prepare v) ms ≡ Some age) ⊎ ((age ≡ 0) × IsBehind n m (body.Prepare e v text) rest)

-- what the president n of e has proposed is what the lines have as proposed, and is as old for each member that is missing
pub record IsPending (ms : List Moment) (rest : List Output) (n e : ℕ) (pending : Option (List ℕ)) (p : Proposed) (age : ℕ) : Type 0 where
  pub place : pending_place e ms ≡ Some p.place
  pub once : list_any (is_proposal e p.place) (before_last (is_proposal e p.place) ms) ≡ false
  pub text : List ℕ
  pub pends : pending ≡ Some text
  pub short : IsShort n (body.Prepare e p.place text)
  pub aged : (m : ℕ) → m ≤ most_nodes → has p.missing m ≡ true → IsAged ms rest n m e p.place text age

abbrev pub ProposalIn : List Moment → List Output → ℕ → ℕ → Option (List ℕ) → Option Proposed → ℕ → Type 0
ProposalIn ms rest n e pending None age = pending_place e ms ≡ None
ProposalIn ms rest n e pending (Some p) age = IsPending ms rest n e pending p age

-- no update has a place beyond this one
abbrev pub Below : List Moment → ℕ → ℕ → Type 0
Below ms e k = (v : ℕ) → list_any (is_proposal e v) ms ≡ true → v ≤ k

abbrev pub OfficeIn : List Moment → List Output → ℕ → ℕ → EntryList → Option Presidency → Type 0
OfficeIn ms rest n e entries None = Unit {0}
OfficeIn ms rest n e entries (Some p) =
    (is_started e ms ≡ true) × ProposalIn ms rest n e entries.pending p.proposals.proposed p.proposals.age × Below ms e (length (texts_of entries))

abbrev pub SeatIn : List Moment → List Output → ℕ → Option Presidency → Seat → Type 0
SeatIn ms rest n o (Forming s) = Unit {0}
SeatIn ms rest n o (Member s) = OfficeIn ms rest n s.session s.saved.entries o

abbrev pub NodeIn : List Moment → List Output → ℕ → Node → Type 0
NodeIn ms rest n Down = Unit {0}
NodeIn ms rest n (Up x) = SeatIn ms rest n x.presidency x.seat

-- an update is proposed in a membership that has its start line
abbrev pub Opened : List Moment → Type 0
Opened ms = (e v : ℕ) → list_any (is_proposal e v) ms ≡ true → is_started e ms ≡ true
