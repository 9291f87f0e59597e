-- What each node has read of its seizings, what is in flight, and what a node has in hand, against the lines.
use Rattle.std.specs.Prelude.{ℕ, ◌≡◌, ◌<◌, ◌≤◌, true, false, List, None, Some}
use Rattle.std.specs.List.{AllByRecursion}
use Rattle.cl_base.specs.declared.header.Header.{Header}
use Rattle.interconnect.specs.Links.{Links, Packet}
use Rattle.wire.specs.Reads.{whole_of}
use Rattle.wire.specs.declared.message.Body.{Body}
use Rattle.wire.specs.declared.message.Message.{Message}
use Rattle.history.specs.Letters.{Letter, arrived, letter_of}
use Rattle.history.specs.Member as member
use Rattle.history.specs.Moment.{Moment}
use Rattle.history.specs.Names.{named}
use Rattle.history.specs.Order.{Always}
use Rattle.history.specs.Seizing.{Begun, progress_of}
use Rattle.node_model.specs.Seats.{session_of}
use Rattle.node_model.specs.declared.node.Node.{Node}
use Rattle.node_model.specs.declared.node.Node.TheVariants.{Down, Up}
use Rattle.node_model.specs.declared.node.UpNode.{UpNode}
use Rattle.refinement.specs.Doings.{Site}
use Rattle.refinement.specs.Ties.{Delivered}
use Rattle.world_model.specs.Sends.{name_of}
use Rattle.run_history.specs.Scenes.{Scene}
use Rattle.run_history.specs.Stages.{site_of}
use Rattle.run_seizings.specs.Seized.{IsInstalled, TasksSo, has_installed}
use Rattle.run_devices.specs.readings.Laws.{BringsWhatWasRead, SaysWhatWasRead}
use Rattle.run_devices.specs.readings.Readings.{AttemptIn, SentSo, StandsSo, TasksRead}

pub record UpSo (h : Header) (moments : List Moment) (n : ℕ) (x : UpNode) : Type 0 where
  pub session : 0 < session_of x → member.session_of n moments ≡ Some (session_of x)
  pub outside : session_of x ≡ 0 → member.session_of n moments ≡ None
  pub tasks : has_installed n (session_of x) moments ≡ false → TasksSo h moments n (session_of x) x.tasks
  pub read : 0 < session_of x → has_installed n (session_of x) moments ≡ false → TasksRead h moments n (session_of x) x.tasks
  pub attempt : AttemptIn h moments n (session_of x) x.attempt

abbrev pub UpIn : Header → List Moment → ℕ → Node → Type 0
UpIn h moments n Down = Unit {0}
UpIn h moments n (Up x) = UpSo h moments n x

pub record SiteSo (h : Header) (moments : List Moment) (n : ℕ) (x : Site) : Type 0 where
  pub low : (e : ℕ) → has_installed n e moments ≡ true → e ≤ x.disk.promised
  pub first : (e : ℕ) → has_installed n e moments ≡ true → IsInstalled moments e
  pub unseen : (e d : ℕ) → x.disk.promised < e → progress_of h n e d moments ≡ Begun
  pub up : UpIn h moments n x.node

-- The packet is the letter of its number, and holds its bytes; what it says was so when it was sent, or is
-- so since.
pub record Posted (h : Header) (moments : List Moment) (next : ℕ) (x : Packet) : Type 0 where
  pub below : x.number < next
  pub letter : Letter
  pub sent_so : letter_of x.number moments ≡ Some letter
  pub sender : letter.from ≡ x.from
  pub receiver : letter.to ≡ x.to
  pub bytes : letter.bytes ≡ x.bytes
  pub says : (m : Message) → whole_of x.bytes ≡ Some m
      → (letter.name ≡ named (name_of m.body))
      × SentSo letter.before x.from m.body × StandsSo h moments x.from m.body

abbrev pub Carried : Header → List Moment → Links → Type 0
Carried h moments links = AllByRecursion (Posted h moments links.next) links.packets

-- The message that node n takes has just come.
pub record Brought (h : Header) (moments : List Moment) (n from : ℕ) (b : Body) : Type 0 where
  pub letter : Letter
  pub here : arrived moments ≡ Some letter
  pub sender : letter.from ≡ from
  pub receiver : letter.to ≡ n
  pub called : letter.name ≡ named (name_of b)
  pub sent_so : SentSo letter.before from b
  pub stands : StandsSo h moments from b

abbrev pub InHand : Header → List Moment → ℕ → Delivered → Type 0
InHand h moments n None = arrived moments ≡ None
InHand h moments n (Some d) = Brought h moments n d.0 d.1.body

-- of a whole scene
pub record IsReading (h : Header) (s : Scene) : Type 0 where
  pub sites : (n : ℕ) → SiteSo h s.moments n (site_of s.nodes n)
  pub carried : Carried h s.moments s.links
  pub says : Always (SaysWhatWasRead h) s.moments
  pub brings : Always (BringsWhatWasRead h) s.moments
