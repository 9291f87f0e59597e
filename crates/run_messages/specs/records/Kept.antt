-- What is kept of the records of all nodes: what the trace tells of them is so.
use Rattle.std.specs.Prelude.{ℕ, ◌≡◌, ◌≢◌, ◌<◌, ◌==◌, ◌&&◌, ◌⊎◌, ◌++◌, Bool, true, All, List, Option, None, Some, is_some, option_map, IfSome}
use Rattle.std.specs.List.{AllByRecursion, list_any}
use Rattle.std.specs.Option.{option_to_list}
use Rattle.cmm_attempt.specs.Attempts.{AttemptState, install_in}
use Rattle.cmm_attempt.specs.declared.phase.Phase.TheVariants.{Installing}
use Rattle.cmm_member.specs.Records.{NodeRecord}
use Rattle.history.specs.Contents.{InstallsTheBase, NewestBase, NewestInstalled, Records}
use Rattle.history.specs.Letters.{Letter, arrived, letter_of, says}
use Rattle.history.specs.Member.{installed_of}
use Rattle.history.specs.Moment.{Moment}
use Rattle.history.specs.Records.{NodeRecord as Shown, own_record, promises, record_in, record_of}
use Rattle.history.specs.Names.{named}
use Rattle.history.specs.Setting.{coordinator}
use Rattle.interconnect.specs.Links.{Links, Packet}
use Rattle.membership_machine.specs.State.{Memberships}
use Rattle.node_model.specs.Seats as seats
use Rattle.node_model.specs.declared.node.Node.{Node}
use Rattle.node_model.specs.declared.node.Node.TheVariants.{Down, Up}
use Rattle.node_model.specs.declared.node.UpNode.{UpNode}
use Rattle.node_model.specs.declared.seat.Seat.{Seat}
use Rattle.node_model.specs.declared.seat.Seat.TheVariants.{Forming, Member}
use Rattle.refinement.specs.Doings.{Site, site}
use Rattle.refinement.specs.Runs.{Nodes}
use Rattle.refinement.specs.Ties.{Delivered}
use Rattle.wire.specs.declared.message.Body.{Body}
use Rattle.wire.specs.declared.message.Body.TheVariants as body
use Rattle.wire.specs.declared.message.Install.{Install}
use Rattle.world_model.specs.Sends.{name_of}
use Rattle.node_model.specs.declared.cluster.Cluster.{Cluster}
use Rattle.run_history.specs.Scenes.{Scene}
use Rattle.run_history.specs.Stages.{Stage, site_of}
use Rattle.run_messages.specs.records.Shown.{InstalledIn, IsOf, RecordIn, shown}
use Rattle.run_messages.specs.records.Sound.{AllSound}

-- a letter of k that shows a record
abbrev pub shows_from : ℕ → Letter → Bool
shows_from k l = (l.from == k) && is_some (record_in (says l.bytes))

-- a Promise of e from k was delivered since the attempt began, and shows a record
abbrev pub has_told : ℕ → ℕ → List Moment → Bool
has_told e k moments = list_any (shows_from k) (promises e moments)

abbrev pub HeardFrom : List Moment → ℕ → ℕ → ℕ → Type 0
HeardFrom moments n e k = (k ≡ n) ⊎ (has_told e k moments ≡ true)

-- what an Install brings
abbrev pub brought_by : Install → Shown
brought_by i = record {
  installed = i.epoch;
  texts = i.committed ++ option_to_list i.pending;
  pending = is_some i.pending;
}

-- The attempt's own record at its beginning is what the node showed itself; each Promise that it has came; and while it
-- installs, its Install tells the node's record.
pub record AttemptKept (M : Memberships) (moments : List Moment) (n : ℕ) (r : NodeRecord) (a : AttemptState) : Type 0 where
  pub own : coordinator a.plan.epoch ≡ n
  pub first : IfSome (own_record a.plan.epoch moments) (λ o. IsOf o ((M.node n).showed a.plan.epoch))
  pub answered : (M.node n).answered a.plan.epoch ≡ true
  pub heard : All (λ p. HeardFrom moments n a.plan.epoch p.shown.summary.node) a.promises
  pub epoch : a.phase ≡ Installing → installed_of n moments ≡ Some a.plan.epoch
  pub installs : a.phase ≡ Installing → shown r ≡ brought_by (install_in a)

abbrev pub AttemptIn : Memberships → List Moment → ℕ → NodeRecord → Option AttemptState → Type 0
AttemptIn M moments n r None = Unit {0}
AttemptIn M moments n r (Some a) = AttemptKept M moments n r a

-- what another node's attempt has installed here is told
abbrev pub SeatKept : List Moment → ℕ → Seat → Type 0
SeatKept moments n (Forming s) =
    0 < s.session → s.session ≡ s.saved.installed → coordinator s.session ≢ n → is_some (record_of n moments) ≡ true
SeatKept moments n (Member s) = Unit {0}

pub record UpKept (M : Memberships) (moments : List Moment) (n : ℕ) (x : UpNode) : Type 0 where
  pub attempt : AttemptIn M moments n (seats.record_of x) x.attempt
  pub seat : SeatKept moments n x.seat

abbrev pub NodeKept : Memberships → List Moment → ℕ → Node → Type 0
NodeKept M moments n Down = Unit {0}
NodeKept M moments n (Up x) = UpKept M moments n x

pub record SiteKept (M : Memberships) (moments : List Moment) (n : ℕ) (x : Site) : Type 0 where
  pub record_so : RecordIn moments n x.disk
  pub installed : InstalledIn moments n x.disk
  pub up : NodeKept M moments n x.node

-- what is proved of all moments so far
pub record Judged (moments : List Moment) : Type 0 where
  pub records : Records moments
  pub newest : NewestInstalled moments
  pub base : InstallsTheBase moments
  pub newest_base : NewestBase moments

-- a packet in flight has the bytes of its letter
abbrev pub BytesOf : List Moment → ℕ → Packet → Type 0
BytesOf moments next x =
    (option_map (λ (l : Letter). l.bytes) (letter_of x.number moments) ≡ Some x.bytes) × (x.number < next)

abbrev pub AreBytes : List Moment → Links → Type 0
AreBytes moments links = AllByRecursion (BytesOf moments links.next) links.packets

-- a Promise to the coordinator of its attempt is among those that it has
abbrev pub IsHad : List Moment → ℕ → ℕ → Body → Type 0
IsHad moments n from (body.Promise e installed members valid flagged committed pending) =
    coordinator e ≡ n → has_told e from moments ≡ true
IsHad moments n from b = Unit {0}

-- The message that node n takes came in the letter that has arrived; where it takes none, none has arrived.
pub record Came (moments : List Moment) (n from : ℕ) (b : Body) : Type 0 where
  pub letter : Letter
  pub here : arrived moments ≡ Some letter
  pub read : says letter.bytes ≡ Some b
  pub called : letter.name ≡ named (name_of b)
  pub sender : letter.from ≡ from
  pub receiver : letter.to ≡ n
  pub had : IsHad moments n from b

abbrev pub HandKept : List Moment → ℕ → Delivered → Type 0
HandKept moments n None = arrived moments ≡ None
HandKept moments n (Some d) = Came moments n d.0 d.1.body

-- In the step of node n, which is as x has it now, and for which this was delivered.
pub record Goes (n : ℕ) (told : Delivered) (v : Nodes) (M : Memberships) (x : Site) (s : Scene) : Type 0 where
  pub sound : AllSound M s.moments
  pub judged : Judged s.moments
  pub bytes : AreBytes s.moments s.links
  pub here : SiteKept M s.moments n x
  pub there : (k : ℕ) → k ≢ n → SiteKept M s.moments k (site (v.node k) (v.disk k).kept)
  pub hand : HandKept s.moments n told

-- A scene of a run, with what is known of records.
pub record KnownScene (c : Cluster) (s : Scene) : Type 0 where
  pub stage : Stage c s
  pub sound : AllSound stage.machine s.moments
  pub judged : Judged s.moments
  pub bytes : AreBytes s.moments s.links
  pub at : (n : ℕ) → SiteKept stage.machine s.moments n (site_of s.nodes n)
