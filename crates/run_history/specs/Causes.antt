-- Each packet in flight is a letter, and each letter has its cause before it.
use Rattle.std.specs.Prelude.{ℕ, ◌≡◌, ◌≢◌, ◌<◌, Bool, true, List, None, Some}
use Rattle.std.specs.List.{AllByRecursion, list_any}
use Rattle.interconnect.specs.Links.{Links, Packet}
use Rattle.wire.specs.Reads.{whole_of}
use Rattle.wire.specs.declared.message.Body.{Body}
use Rattle.wire.specs.declared.message.Body.TheVariants as body
use Rattle.wire.specs.declared.message.Message.{Message}
use Rattle.history.specs.Contact.{came, is_proposal}
use Rattle.history.specs.Letters.{Letter, arrived, letter_of, reached}
use Rattle.history.specs.Member.{attempt_of}
use Rattle.history.specs.Moment.{Moment}
use Rattle.history.specs.Names as name
use Rattle.history.specs.Names.{named}
use Rattle.history.specs.Setting.{coordinator}
use Rattle.history.specs.Starts.{is_started}
use Rattle.refinement.specs.Ties.{Delivered}
use Rattle.world_model.specs.Sends.{name_of}

-- An Install, a Start and a Prepare are sent by their coordinator in its last attempt, a Start behind the `start` line and a Prepare behind the
-- `propose` line; a Ready and a Prepared by a node to which the Install, or the Prepare, came, unless it coordinates.
abbrev pub Caused : List Moment → ℕ → Body → Type 0
Caused moments from (body.Install i) = (coordinator i.epoch ≡ from) × (attempt_of from moments ≡ Some i.epoch)
Caused moments from (body.Ready p joined report) = from ≢ coordinator p → came p name.Install from moments ≡ true
Caused moments from (body.Start p) = (coordinator p ≡ from) × (attempt_of from moments ≡ Some p) × (is_started p moments ≡ true)
Caused moments from (body.Prepare p v text) = (coordinator p ≡ from) × (attempt_of from moments ≡ Some p) × (list_any (is_proposal p v) moments ≡ true)
Caused moments from (body.Prepared p v) = from ≢ coordinator p → came p (name.Prepare v) from moments ≡ true
Caused moments from b = Unit {0}

-- what stands since it was sent
abbrev pub Lasting : List Moment → Body → Type 0
Lasting moments (body.Start p) = is_started p moments ≡ true
Lasting moments b = Unit {0}

-- The packet is the letter of its number. What it says, as it can be read, has the letter's name and its cause.
pub record Posted (moments : List Moment) (next : ℕ) (x : Packet) : Type 0 where
  pub below : x.number < next
  pub letter : Letter
  pub sent_so : letter_of x.number moments ≡ Some letter
  pub sender : letter.from ≡ x.from
  pub receiver : letter.to ≡ x.to
  pub says : (m : Message) → whole_of x.bytes ≡ Some m → (letter.name ≡ named (name_of m.body)) × Caused letter.before x.from m.body × Lasting moments m.body

-- all packets in flight
abbrev pub Flying : List Moment → Links → Type 0
Flying moments links = AllByRecursion (Posted moments links.next) links.packets

-- The message that node n takes has just come in a letter.
pub record Brought (moments : List Moment) (n from : ℕ) (b : Body) : Type 0 where
  pub letter : Letter
  pub here : arrived moments ≡ Some letter
  pub reached_so : (test : Letter → Bool) → test letter ≡ true → reached test moments ≡ true
  pub sender : letter.from ≡ from
  pub receiver : letter.to ≡ n
  pub called : letter.name ≡ named (name_of b)
  pub caused : Caused letter.before from b
  pub lasting : Lasting moments b

abbrev pub Hand : List Moment → ℕ → Delivered → Type 0
Hand moments n None = Unit {0}
Hand moments n (Some d) = Brought moments n d.0 d.1.body
