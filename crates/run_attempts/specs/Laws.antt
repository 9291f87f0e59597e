-- What is proved of each run of the world, as things that happen: when Heartbeats are sent and to whom, and when an attempt begins and with whom.
use Rattle.std.specs.Prelude.{ℕ, ◌+◌, ◌≡◌, ◌==◌, ◌&&◌, ◌||◌, not, Bool, false, true, if◌then◌else◌, List, [], ◌∷◌, Option, None, Some, option_map, slice_get, IfSome}
use Rattle.std.specs.List.{list_all, list_any}
use Rattle.cl_base.specs.Limits.{most_nodes}
use Rattle.cl_base.specs.Sets.{has}
use Rattle.history.specs.Attempts.{IsBeat, before_tick, configured_for, has_reason, is_recent, sees}
use Rattle.history.specs.Letters.{is_letter, letter_of, passes}
use Rattle.history.specs.Member.{member_of, members_of}
use Rattle.history.specs.Moment.{Moment}
use Rattle.history.specs.Names as name
use Rattle.history.specs.Names.{Name, named}
use Rattle.history.specs.Order.{Always, under_way}
use Rattle.history.specs.Seizing.{is_attempt}
use Rattle.history.specs.Setting.{Setting, all_to, coordinator, nodes_of}
use Rattle.history.specs.Trace.{attempt, delivered, sent, ticked, up}
use Rattle.history_setting.specs.Laws.{OfEachRunIn}
use Rattle.run_history.specs.ContactRuns.{OfEachRun}
use Rattle.schedule_text.specs.declared.event.Event.TheVariants.{Tick}
use Rattle.wire.specs.Reads.{whole_of}
use Rattle.wire.specs.declared.message.Body.{Body}
use Rattle.wire.specs.declared.message.Body.TheVariants as body
use Rattle.wire.specs.declared.message.Message.{Message}

-- ---- Heartbeats

-- a Heartbeat is sent in a tick of its sender, to another node
abbrev pub IsInTick : List Moment → ℕ → ℕ → Name → Type 0
IsInTick before n m name.Heartbeat = (under_way before ≡ Some (Tick n)) × ((m == n) ≡ false)
IsInTick before n m _ = Unit {0}

abbrev pub BeatsInTick : List Moment → Moment → Type 0
BeatsInTick before (sent p n m called bytes) = IsInTick before n m (named called)
BeatsInTick before _ = Unit {0}

abbrev pub BeatsInTicksOfEachRun : Type 0
BeatsInTicksOfEachRun = OfEachRun (Always BeatsInTick)

-- .. and only to a node to which it is due
abbrev pub BeatIsDue : Setting → List Moment → Moment → Type 0
BeatIsDue S before (sent p n m called bytes) = IsBeat S before n m (named called)
BeatIsDue S before _ = Unit {0}

abbrev pub BeatsAreDueInEachRun : Type 0
BeatsAreDueInEachRun = OfEachRunIn (λ S moments. Always (BeatIsDue S) moments)

-- ---- attempts begin

-- An attempt begins in a tick of its coordinator, which is the least of its members. The members are those that it saw as the tick began: what is
-- committed in the same tick, before the attempt begins, changes them no more.

-- how many ticks of c ago a Heartbeat of m was last delivered to it, since it went up
abbrev pub beat_age_of : ℕ → ℕ → List Moment → Option ℕ
beat_age_of c m [] = None
beat_age_of c m (up n ∷ before) = if n == c then None else beat_age_of c m before
beat_age_of c m (delivered p a b ∷ before) = if passes (is_letter name.Heartbeat m c) (letter_of p before) then Some 0 else beat_age_of c m before
beat_age_of c m (ticked n ∷ before) = if n == c then option_map (λ k. k + 1) (beat_age_of c m before) else beat_age_of c m before
beat_age_of c m (_ ∷ before) = beat_age_of c m before

-- the nodes whose Heartbeats c heard so lately, where it is configured itself those alone that are so
abbrev pub hears : (ℕ → Bool) → ℕ → List Moment → ℕ → Bool
hears configured c before m = is_recent (beat_age_of c m before) && (configured m || not (configured c))

-- Each member is seen: it is the coordinator itself, or a packet of it came at most three ticks ago. And each node that it hears is a member.
pub record SeesMembers (before : List Moment) (c members : ℕ) (configured : ℕ → Bool) : Type 0 where
  pub seen : list_all (sees configured c before) (nodes_of members) ≡ true
  pub heard : list_all (λ m. not (hears configured c before m) || has members m) (all_to most_nodes) ≡ true

pub record BeginsSo (S : Setting) (before : List Moment) (e members : ℕ) : Type 0 where
  pub in_a_tick : under_way before ≡ Some (Tick (coordinator e))
  pub least : slice_get (nodes_of members) 0 ≡ Some (coordinator e)
  -- where the trace tells the record of its coordinator
  pub sees : IfSome (configured_for S (coordinator e) (before_tick (coordinator e) before)) (SeesMembers before (coordinator e) members)
  -- as the tick began it was no member, or of other members, or one of these was heard to be elsewhere
  pub reason :
      has_reason (coordinator e) members (before_tick (coordinator e) before) (member_of (coordinator e) (before_tick (coordinator e) before)) ≡ true

abbrev pub Begins : Setting → List Moment → Moment → Type 0
Begins S before (attempt e members) = BeginsSo S before e members
Begins S before _ = Unit {0}

abbrev pub AttemptsBeginInEachRun : Type 0
AttemptsBeginInEachRun = OfEachRunIn (λ S moments. Always (Begins S) moments)

-- ---- an Install brings the members of its attempt

-- the attempt e has its line, with these members
abbrev pub IsTried : List Moment → ℕ → ℕ → Type 0
IsTried moments e members = (list_any (is_attempt e) moments ≡ true) × (members_of e moments ≡ members)

abbrev pub InstallSo : List Moment → Body → Type 0
InstallSo moments (body.Install i) = IsTried moments i.epoch i.members
InstallSo moments b = Unit {0}

-- an Install that is sent brings the members of its attempt
abbrev pub BringsMembers : List Moment → Moment → Type 0
BringsMembers before (sent p a b called bytes) = (m : Message) → whole_of bytes ≡ Some m → InstallSo before m.body
BringsMembers before _ = Unit {0}

abbrev pub InstallsBringMembersInEachRun : Type 0
InstallsBringMembersInEachRun = OfEachRun (Always BringsMembers)
