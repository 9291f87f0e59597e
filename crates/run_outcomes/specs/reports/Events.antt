-- How an event goes: what is due comes, one thing or two, and what it leaves, from the scene before it to the scene after it.
use Rattle.std.specs.Prelude.{ℕ, ◌≡◌, ◌++◌, false, List, [], ◌∷◌}
use Rattle.history.specs.Messages.{onto}
use Rattle.history.specs.Moment.{Moment, Part, Said, Told}
use Rattle.history.specs.Order.{OfEvents}
use Rattle.history.specs.Trace.{delivered}
use Rattle.node_model.specs.declared.cluster.Cluster.{Cluster}
use Rattle.node_model.specs.declared.input.Input.TheVariants as input
use Rattle.run_devices.proofs.queues.Added.{IsAlone}
use Rattle.run_history.specs.Happenings.{Happening, MayHappen, commanded, given_by, happened}
use Rattle.run_history.specs.Happenings.Happening.{Arrives, Commands, Notes, Speaks, Strays, Takes}
use Rattle.run_history.specs.Scenes.{Scene, adding}
use Rattle.run_history.specs.Shapes.{IsThis, Want, brings, still}
use Rattle.run_packets.specs.repeats.Events.{AreSent, EventLaw, StartsElse}
use Rattle.run_packets.specs.views.Laws.{TellsHere}
use Rattle.schedule_text.specs.declared.event.Event.{Event}
use Rattle.schedule_text.specs.declared.line.Line.TheVariants as line
use Rattle.status_report.specs.declared.entry.Entry.TheVariants as entry

-- the entries that begin with this one; what a node sends is among those behind it
pub record Behind (cells : ℕ) (c : Cluster) (s : Scene) (x : Happening) (first : Moment) (later : List Moment) (sends : List Moment → Type 0) : Type 0 where
  pub rest : List Moment
  pub is : later ≡ first ∷ rest
  pub are_sent : sends rest

-- the entries of one thing that happens
abbrev pub LeftBy : ℕ → Cluster → Scene → Happening → List Moment → Type 0
LeftBy cells c s (Arrives number x m now ends) later =
    Behind cells c s (Arrives number x m now ends) (delivered number x.from x.to) later
    (λ rest. AreSent cells (delivered number x.from x.to ∷ s.moments) x.to (given_by c x.to now ends (input.Packet x.from m) s.nodes) rest)
LeftBy cells c s (Strays number x) later = later ≡ delivered number x.from x.to ∷ []
LeftBy cells c s (Notes e) later = later ≡ Told (entry.Schedule e) ∷ []
LeftBy cells c s (Takes n now ends i) later = StartsElse later × AreSent cells s.moments n (given_by c n now ends i s.nodes) later
LeftBy cells c s (Commands n d k now ends) later =
    StartsElse later × AreSent cells s.moments n (given_by c n now ends (input.Answered (commanded s n d k).answer) (commanded s n d k).scene.nodes) later
LeftBy cells c s _ later = StartsElse later

-- what is due has come
pub record One (cells : ℕ) (c : Cluster) (s : Scene) (w : Want) (later : List Moment) (t : Scene) : Type 0 where
  pub happening : Happening
  pub this : IsThis w happening
  pub may : MayHappen c s happening
  pub native : TellsHere c s (λ before. false) happening
  pub left : LeftBy cells c s happening later
  pub moments : onto s.moments later ≡ t.moments
  pub at : happened c s happening ≡ t

-- .. or nothing was due
abbrev pub Ends : ℕ → Cluster → Scene → List Want → List Moment → Scene → Type 0
Ends cells c s [] later t = (later ≡ []) × (t ≡ s)
Ends cells c s (w ∷ wants) later t = One cells c s w later t

-- what is due has come, and then what is due still behind it
pub record Two (cells : ℕ) (c : Cluster) (s : Scene) (w v : Want) (later : List Moment) (t : Scene) : Type 0 where
  pub happening : Happening
  pub this : IsThis w happening
  pub may : MayHappen c s happening
  pub native : TellsHere c s (λ before. false) happening
  pub some : List Moment
  pub rest : List Moment
  pub is : later ≡ some ++ rest
  pub left : LeftBy cells c s happening some
  pub moments : onto s.moments some ≡ (happened c s happening).moments
  pub behind : Ends cells c (happened c s happening) (still (happened c s happening) (v ∷ [])) rest t

abbrev pub Leaves : ℕ → Cluster → Scene → List Want → List Moment → Scene → Type 0
Leaves cells c s (w ∷ v ∷ wants) later t = Two cells c s w v later t
Leaves cells c s wants later t = Ends cells c s wants later t

-- the law holds of each event, once what is due has come, where F holds of the scene then
pub record Awaits (P : EventLaw) (cells : ℕ) (c : Cluster) (F : Scene → Type 0) (s : Scene) (wants : List Want) : Type 0 where
  pub alone : IsAlone wants
  pub events : (later : List Moment) (t : Scene) → F t → Leaves cells c s wants later t → OfEvents P later s.moments

-- the law holds of a line, and of a part of a round, once what it brings has come, where F holds of the scene before and of the one then
pub record Opening (P : EventLaw) (cells : ℕ) (c : Cluster) (F : Scene → Type 0) : Type 0 where
  pub line_so : (s : Scene) (e : Event) (later : List Moment) (t : Scene) → F s → F t → Leaves cells c (happened c s (Speaks e)) (brings c (happened c s (Speaks e)) e) later t → P s.moments (Said (line.Event e)) later
  pub part_so : (s : Scene) (e : Event) (later : List Moment) (t : Scene) → F s → F t → Leaves cells c (adding (Part e) s) (brings c (adding (Part e) s) e) later t → P s.moments (Part e) later
