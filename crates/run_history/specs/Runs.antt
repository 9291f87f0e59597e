-- What is proved of each run of the world, as things that happen: its `base` lines, the places of its updates, and its repository.
use Rattle.std.specs.Prelude.{ℕ, ◌≡◌, ◌≤◌, List, length, None}
use Rattle.cl_base.specs.Limits.{most_devices}
use Rattle.cl_base.specs.declared.header.Header.{Header}
use Rattle.history.specs.Deeds.{deeds}
use Rattle.history.specs.History.{Repository}
use Rattle.history.specs.Moment.{Moment}
use Rattle.history.specs.Placed.{Placed}
use Rattle.history.specs.Starts.{StartLines, base_due}
use Rattle.membership_machine.specs.Events.{Run}
use Rattle.membership_machine.specs.Starts.{DevicesMeet}
use Rattle.membership_machine.specs.State.{Memberships, first_memberships}
use Rattle.refinement.specs.Ties.{setting_of}
use Rattle.world_model.specs.First.{first_cluster}
use Rattle.run_history.specs.Happenings.{Happening, MayAllHappen, all_happened}
use Rattle.run_history.specs.Scenes.{first_scene}
use Rattle.run_history.specs.Cuts.{Cuts, all_events}

-- these things happen, one after another, from the first scene of a header on
abbrev pub IsRun : Header → ℕ → List Happening → Type 0
IsRun h cells hs = MayAllHappen (first_cluster h) (first_scene h cells) hs

-- what was said and told by then
abbrev pub moments_of : Header → ℕ → List Happening → List Moment
moments_of h cells hs = (all_happened (first_cluster h) (first_scene h cells) hs).moments

-- how the steps in it are cut
abbrev pub CutsOf : Header → ℕ → List Happening → Type 0
CutsOf h cells hs = Cuts (first_cluster h) (first_scene h cells) hs

-- each step can be cut
abbrev pub RunsAreCut : Type 0
RunsAreCut = (h : Header) (cells : ℕ) (hs : List Happening) → CutsOf h cells hs

-- The machine of memberships comes to this state by the events of the run.
abbrev pub ComesTo : (h : Header) (cells : ℕ) (hs : List Happening) → CutsOf h cells hs → Memberships → Type 0
ComesTo h cells hs cuts M =
    Run (setting_of (first_cluster h)) first_memberships (all_events (first_cluster h) (first_scene h cells) hs cuts) M

-- there is such a state
pub record Comes (h : Header) (cells : ℕ) (hs : List Happening) (cuts : CutsOf h cells hs) : Type 0 where
  pub machine : Memberships
  pub run : ComesTo h cells hs cuts machine

abbrev pub EventsOfEachRun : Type 0
EventsOfEachRun = (h : Header) (cells : ℕ) (hs : List Happening) (cuts : CutsOf h cells hs) → length h.devices ≤ most_devices
    → IsRun h cells hs → Comes h cells hs cuts

-- the `base` lines of each start stand right behind it
abbrev pub StartLinesOfEachRun : Type 0
StartLinesOfEachRun = (h : Header) (cells : ℕ) (hs : List Happening) → length h.devices ≤ most_devices
    → IsRun h cells hs → StartLines (moments_of h cells hs)

-- .. and at the end of a run none is to come
abbrev pub NoBaseIsDue : Type 0
NoBaseIsDue = (h : Header) (cells : ℕ) (hs : List Happening) → length h.devices ≤ most_devices
    → IsRun h cells hs → base_due (moments_of h cells hs) ≡ None

-- each update has its place
abbrev pub PlacedInEachRun : Type 0
PlacedInEachRun = (h : Header) (cells : ℕ) (hs : List Happening) → length h.devices ≤ most_devices
    → IsRun h cells hs → Placed (deeds (moments_of h cells hs))

-- Where in the state that it comes to any two attempts that held a device with votes meet, what was acknowledged is kept, from membership to
-- membership.
abbrev pub RepositoryOfEachRun : Type 0
RepositoryOfEachRun = (h : Header) (cells : ℕ) (hs : List Happening) (cuts : CutsOf h cells hs) (M : Memberships)
    → length h.devices ≤ most_devices → IsRun h cells hs → ComesTo h cells hs cuts M
    → DevicesMeet (setting_of (first_cluster h)) M → Repository (moments_of h cells hs)
