-- The entries that what is due leaves: what a node sends is among them, where a packet number is left.
use Rattle.std.specs.Prelude.{ℕ, ◌≡◌, ◌⊎◌, true, List, [], ◌∷◌, None, Some}
use Rattle.cl_base.specs.declared.method.Outcome as method
use Rattle.history.specs.Messages.{onto, sends_or_falls}
use Rattle.cl_base.specs.declared.packet.DropCause.TheVariants as drop
use Rattle.history.specs.Moment.{Moment, Part, Said, Told}
use Rattle.refinement.specs.Runs.{IsAmong}
use Rattle.status_report.specs.declared.entry.Entry.TheVariants as entry
use Rattle.history.specs.Names.{named}
use Rattle.history.specs.Order.{OfEvents}
use Rattle.history.specs.Trace.{delivered, dropped}
use Rattle.interconnect.specs.Links.{Packet}
use Rattle.node_model.specs.declared.cluster.Cluster.{Cluster}
use Rattle.node_model.specs.declared.input.Input.{Input}
use Rattle.node_model.specs.declared.input.Input.TheVariants as input
use Rattle.node_model.specs.declared.output.Output.{Output}
use Rattle.run_history.specs.Happenings.{Happening, given_by, happened}
use Rattle.run_history.specs.Happenings.Happening.{Speaks}
use Rattle.run_history.specs.Scenes.{Scene, adding}
use Rattle.run_history.specs.Shapes.{Want, brings}
use Rattle.run_history.specs.Shapes as want
use Rattle.run_lines.specs.Entries.{IsReady}
use Rattle.schedule_text.specs.declared.event.Event.{Event}
use Rattle.schedule_text.specs.declared.line.Line.TheVariants as line
use Rattle.wire.specs.Reads.{whole_of}
use Rattle.wire.specs.declared.message.Body.{Body}
use Rattle.wire.specs.declared.message.Message.{Message}
use Rattle.world_model.specs.Sends.{name_of}
use Rattle.run_packets.specs.prepares.Events.{IsLeftAfter}
use Rattle.run_packets.specs.prepares.Proposals.{IsBehind, IsShort}

-- each message among these outputs that has a packet's size is sent in the entries, or its node goes down there
abbrev pub AreSent : ℕ → List Moment → ℕ → List Output → List Moment → Type 0
AreSent cells before n os entries = (m : ℕ) (b : Body) → IsBehind n m b os → IsShort n b → IsLeftAfter cells (onto before entries) → sends_or_falls n m (named (name_of b)) entries ≡ true

-- no packet is delivered first
abbrev pub StartsElse : List Moment → Type 0
StartsElse (delivered p a b ∷ later) = ⊥
StartsElse _ = Unit {0}

-- what comes to a node, at some second and with some outcome of a method
pub record Comes (cells : ℕ) (c : Cluster) (s : Scene) (n : ℕ) (i : Input) (entries : List Moment) : Type 0 where
  pub now : ℕ
  pub ends : method.Outcome
  pub are_sent : AreSent cells s.moments n (given_by c n now ends i s.nodes) entries
  pub else_first : StartsElse entries

-- .. behind an entry
pub record ComesBehind (cells : ℕ) (c : Cluster) (s : Scene) (n : ℕ) (i : Input) (first : Moment) (entries : List Moment) : Type 0 where
  pub now : ℕ
  pub ends : method.Outcome
  pub rest : List Moment
  pub is : entries ≡ first ∷ rest
  pub are_sent : AreSent cells (first ∷ s.moments) n (given_by c n now ends i s.nodes) rest

-- .. a message
pub record Arrives (cells : ℕ) (c : Cluster) (s : Scene) (number : ℕ) (x : Packet) (entries : List Moment) : Type 0 where
  pub message : Message
  pub reads : whole_of x.bytes ≡ Some message
  pub among : IsAmong x.from message.body s.nodes.sent
  pub comes : ComesBehind cells c s x.to (input.Packet x.from message) (delivered number x.from x.to) entries

abbrev pub Strays : ℕ → Packet → List Moment → Type 0
Strays number x entries = (whole_of x.bytes ≡ None) × (entries ≡ delivered number x.from x.to ∷ [])

-- Of what the world tells by itself, of what comes to a node alone, and of a packet; of the rest, that it is no delivery.
abbrev pub Leaves : ℕ → Cluster → Scene → List Want → List Moment → Type 0
Leaves cells c s [] entries = entries ≡ []
Leaves cells c s (want.Note e ∷ []) entries = entries ≡ Told (entry.Schedule e) ∷ []
Leaves cells c s (want.Miss number x ∷ []) entries = entries ≡ dropped number drop.Down ∷ []
Leaves cells c s (want.Take n i ∷ []) entries = Comes cells c s n i entries
Leaves cells c s (want.Deliver number x ∷ []) entries = Arrives cells c s number x entries ⊎ Strays number x entries
Leaves cells c s wants entries = StartsElse entries

-- what a law says of an event: of what was before it, of its line or part, and of its entries
abbrev pub EventLaw : Type 1
EventLaw = List Moment → Moment → List Moment → Type 0

-- the law holds of each event, once what is due has come
pub record Awaits (P : EventLaw) (cells : ℕ) (c : Cluster) (s : Scene) (wants : List Want) : Type 0 where
  pub ready : IsReady s wants
  pub events : (later : List Moment) → Leaves cells c s wants later → OfEvents P later s.moments

-- the law holds of a line, and of a part of a round, once what it brings has come, where this is known of the scene before it
pub record Opening (P : EventLaw) (cells : ℕ) (c : Cluster) (F : Scene → Type 0) : Type 0 where
  pub line_so : (s : Scene) (e : Event) (later : List Moment) → F s → Leaves cells c (happened c s (Speaks e)) (brings c (happened c s (Speaks e)) e) later → P s.moments (Said (line.Event e)) later
  pub part_so : (s : Scene) (e : Event) (later : List Moment) → F s → Leaves cells c (adding (Part e) s) (brings c (adding (Part e) s) e) later → P s.moments (Part e) later

-- F is known of each scene of a run
abbrev pub AlongRun : (Scene → Type 0) → Cluster → Scene → List Happening → Type 0
AlongRun F c s [] = F s
AlongRun F c s (h ∷ hs) = F s × AlongRun F c (happened c s h) hs
