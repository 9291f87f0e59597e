-- What is proved of each run of the world, as things that happen: how far the attempt of a coordinator is, as the lines tell it.
use Rattle.std.specs.Prelude.{ℕ, ◌≡◌, ◌<◌, ◌≤◌, ◌^◌, ◌==◌, ◌&&◌, not, Bool, true, false, List, length, take, None, Some, IfSome, unwrap_or}
use Rattle.std.specs.List.{list_any}
use Rattle.cl_base.specs.Limits.{most_devices}
use Rattle.cl_base.specs.declared.header.Header.{Header}
use Rattle.cmm_attempt.specs.Attempts.{AttemptState, is_over}
use Rattle.cmm_attempt.specs.Counts.{is_quorum}
use Rattle.cmm_attempt.specs.Promises.{has_promised}
use Rattle.cmm_attempt.specs.declared.counting.BothVotes.{BothVotes}
use Rattle.cmm_attempt.specs.declared.phase.Phase.{Phase}
use Rattle.cmm_attempt.specs.declared.phase.Phase.TheVariants.{Collecting, Installing, SeizingOthers, SeizingVotes}
use Rattle.history.specs.Contact.{others}
use Rattle.history.specs.Member.{members_of}
use Rattle.history.specs.Moment.{Moment}
use Rattle.history.specs.Queue as told
use Rattle.history.specs.Records.{NodeRecord, committed_of}
use Rattle.history.specs.Seizing.{acts_for}
use Rattle.history.specs.Setting.{Setting, coordinator}
use Rattle.history.specs.UnderWay.{is_under_way}
use Rattle.history_setting.specs.Settings.{setting_of}
use Rattle.refinement.specs.Guards.{OfUp}
use Rattle.run_history.specs.Happenings.{Happening, MayAllHappen, all_happened}
use Rattle.run_history.specs.Scenes.{Scene, first_scene}
use Rattle.run_history.specs.Shapes.{Due, ShapedFrom, nothing}
use Rattle.run_history.specs.WorldLines.{AreDisks}
use Rattle.run_packets.specs.views.Laws.{NoneForeign}
use Rattle.world_model.specs.Devices.{due_at}
use Rattle.world_model.specs.First.{first_cluster}

-- ---- the attempts that nodes have

-- node n is up, and has this attempt
abbrev pub HasAttempt : Scene → ℕ → AttemptState → Type 0
HasAttempt s n a = OfUp (λ x. x.attempt ≡ Some a) (s.nodes.node n)

-- P holds of each attempt that a node has at a point of a run, and of the lines up to there. No packet is foreign to its receiver.
abbrev pub OfEachAttempt : (AttemptState → List Moment → Type 0) → Type 0
OfEachAttempt P = (h : Header) (cells : ℕ) (hs : List Happening) → length h.devices ≤ most_devices → h.cluster < 2 ^ 32
    → MayAllHappen (first_cluster h) (first_scene h cells) hs → NoneForeign (first_cluster h) (first_scene h cells) hs
    → (n : ℕ) (a : AttemptState) → HasAttempt (all_happened (first_cluster h) (first_scene h cells) hs) n a
    → P a (all_happened (first_cluster h) (first_scene h cells) hs).moments

-- ---- none is over

-- the attempt that a node has at a point of a run is not over: where it ends, or starts its membership, the node has none any more
abbrev pub NoneIsOver : Type 0
NoneIsOver = (h : Header) (cells : ℕ) (hs : List Happening) → length h.devices ≤ most_devices → h.cluster < 2 ^ 32
    → MayAllHappen (first_cluster h) (first_scene h cells) hs
    → (n : ℕ) (a : AttemptState) → HasAttempt (all_happened (first_cluster h) (first_scene h cells) hs) n a → is_over a.phase ≡ false

-- ---- Promises

-- each member has promised: the newest record is chosen, devices are seized, or it installs
abbrev pub has_gathered : Phase → Bool
has_gathered Collecting = false
has_gathered _ = true

-- m is a member of the attempt, and not its coordinator
abbrev pub is_other : AttemptState → List Moment → ℕ → Bool
is_other a moments m = list_any (λ k. k == m) (others a.plan.epoch (members_of a.plan.epoch moments))

-- An attempt has taken the Promise of another member exactly where one was delivered since it began; and it waits for Promises exactly where one is missing.
pub record PromisesTold (a : AttemptState) (moments : List Moment) : Type 0 where
  pub taken : (m : ℕ) → is_other a moments m ≡ true → told.has_promised a.plan.epoch moments m ≡ has_promised a.promises m
  pub phase : told.all_promised a.plan.epoch moments ≡ has_gathered a.phase

abbrev pub PromisesAreTold : Type 0
PromisesAreTold = OfEachAttempt PromisesTold

-- ---- while it collects

-- No command at a device is due at a coordinator whose attempt still collects: it has no task of its own yet, and no other.
abbrev pub CollectorsHaveNothingDue : Type 0
CollectorsHaveNothingDue = (h : Header) (cells : ℕ) (hs : List Happening) (last : Due) → length h.devices ≤ most_devices → h.cluster < 2 ^ 32 → AreDisks h
    → MayAllHappen (first_cluster h) (first_scene h cells) hs → ShapedFrom (first_cluster h) (first_scene h cells) nothing hs last
    → (n : ℕ) (a : AttemptState) → HasAttempt (all_happened (first_cluster h) (first_scene h cells) hs) n a → a.phase ≡ Collecting
    → due_at (Some ((all_happened (first_cluster h) (first_scene h cells) hs).nodes.node n)) ≡ None

-- ---- while it seizes

-- it seizes devices: those that have votes, or the others
abbrev pub is_seizing : Phase → Bool
is_seizing SeizingVotes = true
is_seizing SeizingOthers = true
is_seizing _ = false

-- its coordinator has installed it
abbrev pub is_installing : Phase → Bool
is_installing Installing = true
is_installing _ = false

-- A coordinator acts for its attempt until it has installed it. And the attempt seizes devices exactly where `history` has its own seizings (`with_own`):
-- the coordinator acts for it, it is under way, and each other member has promised.
pub record SeizesTold (a : AttemptState) (moments : List Moment) : Type 0 where
  pub acts : acts_for (coordinator a.plan.epoch) a.plan.epoch moments ≡ not (is_installing a.phase)
  pub seizes : (acts_for (coordinator a.plan.epoch) a.plan.epoch moments && is_under_way a.plan.epoch moments && told.all_promised a.plan.epoch moments) ≡ is_seizing a.phase

abbrev pub SeizingsAreTold : Type 0
SeizingsAreTold = OfEachAttempt SeizesTold

-- ---- votes

-- The votes that an attempt was given are those of the record: of its committed updates, and of all of them, which are the same where none is pending. So it takes
-- those devices for quorum devices that have votes by that record.
pub record CountsFor (S : Setting) (both : BothVotes) (r : NodeRecord) : Type 0 where
  pub committed : S.votes (take (committed_of r) r.texts) ≡ both.committed
  pub all : S.votes r.texts ≡ unwrap_or both.pending both.committed
  pub devices : (d : ℕ) → told.is_voting S r d ≡ is_quorum both d

-- while it seizes devices it has the votes of the newest record in hand, where the trace tells that
pub record NewestCounts (S : Setting) (a : AttemptState) (moments : List Moment) : Type 0 where
  pub both : BothVotes
  pub given : a.votes ≡ Some both
  pub newest : IfSome (told.newest_in_hand a.plan.epoch moments) (CountsFor S both)

abbrev pub VotesAreTold : Type 0
VotesAreTold = (h : Header) (cells : ℕ) (hs : List Happening) → length h.devices ≤ most_devices → h.cluster < 2 ^ 32
    → MayAllHappen (first_cluster h) (first_scene h cells) hs
    → (n : ℕ) (a : AttemptState) → HasAttempt (all_happened (first_cluster h) (first_scene h cells) hs) n a → is_seizing a.phase ≡ true
    → NewestCounts (setting_of h) a (all_happened (first_cluster h) (first_scene h cells) hs).moments
