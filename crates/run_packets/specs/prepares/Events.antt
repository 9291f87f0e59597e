-- The events of a run: what is due of each is one node's, and what it leaves.
use Rattle.std.specs.Prelude.{ℕ, ◌≡◌, ◌^◌, nat_lt, true, List, [], ◌∷◌, None}
use Rattle.std.specs.List.{AllByRecursion}
use Rattle.history.specs.Links.{links_after}
use Rattle.history.specs.Messages.{EachProposal, actor_of, are_of_one, is_of, onto}
use Rattle.history.specs.Moment.{Moment}
use Rattle.history.specs.Order.{OfEvents}
use Rattle.history.specs.Starts.{is_started}
use Rattle.run_history.specs.Happenings.{IsNode}
use Rattle.run_history.specs.Scenes.{Scene}
use Rattle.run_history.specs.Shapes.{Want}
use Rattle.run_history.specs.Shapes as want
use Rattle.run_lines.specs.Entries.{IsEntry, IsOfEvent}
use Rattle.status_report.specs.declared.entry.Entry.TheVariants as entry
use Rattle.run_packets.specs.prepares.Proposals.{AreAnnounced, Covers}

-- an entry of an event that is node n's, or nobody's
abbrev pub EntryOf : ℕ → Moment → Type 0
EntryOf n m = IsEntry m × (is_of n (actor_of m) ≡ true)

abbrev pub EntriesOf : ℕ → List Moment → Type 0
EntriesOf n entries = AllByRecursion (EntryOf n) entries

-- a packet number is left
abbrev pub IsLeft : ℕ → Type 0
IsLeft next = nat_lt next (2 ^ 63) ≡ true

abbrev pub IsLeftAfter : ℕ → List Moment → Type 0
IsLeftAfter cells moments = IsLeft (links_after cells moments).next

-- With such entries the moments become those of the scene; where a number is left there, the proposals among them have their Prepares.
pub record AddsOf (before : List Moment) (n : ℕ) (moments : List Moment) (t : Scene) : Type 0 where
  pub entries : List Moment
  pub own : EntriesOf n entries
  pub is : onto moments entries ≡ t.moments
  pub announced : IsLeft t.links.next → AreAnnounced before entries

-- what is due is node n's, or the world's own
abbrev pub IsDueOf : ℕ → Want → Type 0
IsDueOf n (want.Note e) = IsOfEvent (entry.Schedule e)
IsDueOf n (want.Take m i) = m ≡ n
IsDueOf n (want.Deliver number x) = x.to ≡ n
IsDueOf n (want.Miss number x) = Unit {0}
IsDueOf n (want.Lose number x) = Unit {0}
IsDueOf n (want.Repeat number x) = Unit {0}
IsDueOf n (want.Command m) = m ≡ n
IsDueOf n (want.Write m d value) = m ≡ n
IsDueOf n (want.Refuse m d value why) = m ≡ n

abbrev pub AreDueOf : ℕ → List Want → Type 0
AreDueOf n wants = AllByRecursion (IsDueOf n) wants

-- what is due is one node's
pub record Alike (wants : List Want) : Type 0 where
  pub node : ℕ
  pub are : AreDueOf node wants

-- what is due still leaves these behind the moments
pub record Left (cells : ℕ) (before : List Moment) (n : ℕ) (moments later : List Moment) : Type 0 where
  pub own : EntriesOf n later
  pub announced : IsLeftAfter cells (onto moments later) → AreAnnounced before later

abbrev pub Leaves : ℕ → List Moment → ℕ → List Want → List Moment → List Moment → Type 0
Leaves cells before n [] moments later = later ≡ []
Leaves cells before n (w ∷ wants) moments later = Left cells before n moments later

-- the entries of an event are one node's, and its proposals have their Prepares
pub record IsOwed (cells : ℕ) (before : List Moment) (x : Moment) (entries : List Moment) : Type 0 where
  pub one : are_of_one None entries ≡ true
  pub prepares : IsLeftAfter cells (onto (x ∷ before) entries) → EachProposal before entries entries

-- Each event is so, once what is due has come; of the event under way, before which these moments stood, the node's record has the members of its start
-- line where it presides.
pub record Awaits (cells : ℕ) (s : Scene) (wants : List Want) : Type 0 where
  pub before : List Moment
  pub grown : (e : ℕ) → is_started e before ≡ true → is_started e s.moments ≡ true
  pub alike : Alike wants
  pub covers : IsNode alike.node → Covers before alike.node (s.nodes.node alike.node)
  pub events : (later : List Moment) → Leaves cells before alike.node wants s.moments later → OfEvents (IsOwed cells) later s.moments
