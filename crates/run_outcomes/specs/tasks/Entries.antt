-- What the entries of an attempt are while it seizes: which devices they are of, whom they ask, and how far they are.
use Rattle.std.specs.Prelude.{ℕ, ◌≡◌, ◌<◌, ◌≤◌, ◌==◌, ◌&&◌, not, Bool, true, false, List, [], ◌∷◌, ◌++◌, filter, map, Option, None, Some}
use Rattle.std.specs.List.{AllByRecursion, find, list_any}
use Rattle.cl_base.specs.Sets.{has}
use Rattle.cl_base.specs.declared.seizing.SeizeEnd.TheVariants.{NotRegistered}
use Rattle.seize.specs.declared.kind.SeizeKind.TheVariants.{Plain, Vote}
use Rattle.cmm_attempt.specs.Attempts.{AttemptState}
use Rattle.cmm_attempt.specs.Counts.{is_quorum}
use Rattle.cmm_attempt.specs.Plans.{is_reachable}
use Rattle.cmm_attempt.specs.Seizings.{all_settled, is_seized, may_follow, may_seize}
use Rattle.cmm_attempt.specs.declared.attached.AttachedDevice.{AttachedDevice}
use Rattle.cmm_attempt.specs.declared.counting.BothVotes.{BothVotes}
use Rattle.cmm_attempt.specs.declared.phase.Phase.{Phase}
use Rattle.cmm_attempt.specs.declared.phase.Phase.TheVariants.{SeizingOthers, SeizingVotes}
use Rattle.cmm_attempt.specs.declared.plan.Plan.{Plan}
use Rattle.cmm_attempt.specs.declared.promised.Promised.{Promised}
use Rattle.cmm_attempt.specs.declared.seizing.Seizing.{Seizing}
use Rattle.attempt_laws.specs.Asking.{AreApart, numbers_of}

-- The coordinator is the least member, and the devices are apart.
pub record LedBy (plan : Plan) : Type 0 where
  pub others : List ℕ
  pub nodes : plan.nodes ≡ plan.coordinator ∷ others
  pub above : AllByRecursion (λ m. plan.coordinator < m) others
  pub range : AllByRecursion (λ m. (1 ≤ m) × (m ≤ 32)) plan.nodes
  pub apart : AreApart (numbers_of plan.attached)

-- ---- one entry

-- A quorum device: whom it asked may seize it, the coordinator first where it may, and it has ended as not registered only where nobody follows.
pub record VoteSo (plan : Plan) (promises : List Promised) (e : Seizing) : Type 0 where
  pub kind : e.kind ≡ Vote
  pub own : has e.asked plan.coordinator ≡ may_seize promises e.attached plan.coordinator
  pub asks : (m : ℕ) → e.seizer ≡ Some m → (list_any (λ k. k == m) plan.nodes ≡ true) × (may_seize promises e.attached m ≡ true) × (has e.asked m ≡ true)
  pub nobody : e.seizer ≡ None → (find (may_seize promises e.attached) plan.nodes ≡ None) × (e.result ≡ Some (NotRegistered []))
  pub last : (keys : List ℕ) → e.result ≡ Some (NotRegistered keys) → find (may_follow plan.cluster promises e keys) plan.nodes ≡ None

-- another device: the coordinator is asked where it has a path to it
pub record PlainSo (plan : Plan) (e : Seizing) : Type 0 where
  pub kind : e.kind ≡ Plain
  pub own : has e.asked plan.coordinator ≡ has e.attached.nodes plan.coordinator

-- ---- all of them

abbrev pub quorum_in : Option BothVotes → ℕ → Bool
quorum_in None d = false
quorum_in (Some both) d = is_quorum both d

-- it has votes, and a member reaches it
abbrev pub has_votes : Plan → Option BothVotes → AttachedDevice → Bool
has_votes plan given a = quorum_in given a.device && is_reachable plan a

-- it is not among these, and a member reaches it
abbrev pub is_left : Plan → List Seizing → AttachedDevice → Bool
is_left plan votes a = not (is_seized votes a.device) && is_reachable plan a

abbrev pub devices_in : List Seizing → List AttachedDevice
devices_in es = map (λ (e : Seizing). e.attached) es

-- the entries of the quorum devices, in order
pub record AreVotes (plan : Plan) (promises : List Promised) (given : Option BothVotes) (es : List Seizing) : Type 0 where
  pub devices : devices_in es ≡ filter (has_votes plan given) plan.attached
  pub each : AllByRecursion (VoteSo plan promises) es

-- behind them those of the others, once the first are settled
pub record AreBoth (plan : Plan) (promises : List Promised) (given : Option BothVotes) (es : List Seizing) : Type 0 where
  pub votes : List Seizing
  pub others : List Seizing
  pub parts : es ≡ votes ++ others
  pub first : AreVotes plan promises given votes
  pub settled : all_settled votes ≡ true
  pub devices : devices_in others ≡ filter (is_left plan votes) plan.attached
  pub each : AllByRecursion (PlainSo plan) others

abbrev pub EntriesIn : Plan → List Promised → Option BothVotes → List Seizing → Phase → Type 0
EntriesIn plan promises given es SeizingVotes = AreVotes plan promises given es
EntriesIn plan promises given es SeizingOthers = AreBoth plan promises given es
EntriesIn plan promises given es _ = Unit {0}

-- where it waits for answers on quorum devices, one is missing
abbrev pub LacksOne : List Seizing → Phase → Type 0
LacksOne es SeizingVotes = all_settled es ≡ false
LacksOne es _ = Unit {0}

abbrev pub EntriesSo : AttemptState → Type 0
EntriesSo s = LedBy s.plan → EntriesIn s.plan s.promises s.votes s.devices s.phase × LacksOne s.devices s.phase
