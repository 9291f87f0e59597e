-- What the lines show of the devices that an attempt seizes, as the attempt has it.
use Rattle.std.specs.Prelude.{ℕ, ◌≡◌, ◌≤◌, ◌==◌, ◌⊎◌, Bool, true, false, if◌then◌else◌, List, length, None, Some}
use Rattle.std.specs.List.{AllByRecursion, list_any}
use Rattle.cl_base.specs.Keys.{key_of}
use Rattle.cl_base.specs.Sets.{has}
use Rattle.cl_base.specs.declared.seizing.SeizeEnd.TheVariants.{NotRegistered}
use Rattle.cmm_attempt.specs.Counts.{is_quorum}
use Rattle.cmm_attempt.specs.Promises.{holds_valid}
use Rattle.cmm_attempt.specs.Seizings.{may_seize}
use Rattle.cmm_attempt.specs.declared.attached.AttachedDevice.{AttachedDevice}
use Rattle.cmm_attempt.specs.declared.counting.BothVotes.{BothVotes}
use Rattle.cmm_attempt.specs.declared.plan.Plan.{Plan}
use Rattle.cmm_attempt.specs.declared.promised.Promised.{Promised}
use Rattle.cmm_attempt.specs.declared.seizing.Seizing.{Seizing}
use Rattle.attempt_laws.specs.Asking.{numbers_of}
use Rattle.history.specs.Letters.{sends}
use Rattle.history.specs.Member.{members_of}
use Rattle.history.specs.Moment.{Moment}
use Rattle.history.specs.Names as name
use Rattle.history.specs.Order.{since}
use Rattle.history.specs.Queue as told
use Rattle.history.specs.Records.{NodeRecord}
use Rattle.history.specs.Seizing.{is_attempt}
use Rattle.history.specs.Setting.{Setting, all_to, coordinator, nodes_of, paths_of}
use Rattle.history.specs.Validated.{is_valid, validity}
use Rattle.seize.specs.declared.kind.SeizeKind.TheVariants.{Plain, Vote}
use Rattle.run_outcomes.specs.tasks.Entries.{LedBy}
use Rattle.run_outcomes.specs.tasks.Laws.{shows_valid}

-- its paths are those of the header, and its number is one of a device
abbrev pub PathsSo : Setting → AttachedDevice → Type 0
PathsSo S a = (a.nodes ≡ paths_of S.header a.device) × (1 ≤ a.device) × (a.device ≤ 32)

-- The members, the paths to devices, the votes by the newest record, and which of those with votes are valid to whom.
pub record Shows (S : Setting) (plan : Plan) (promises : List Promised) (both : BothVotes) (r : NodeRecord) (moments : List Moment) : Type 0 where
  pub led : LedBy plan
  pub devices : numbers_of plan.attached ≡ all_to (length S.header.devices)
  pub paths : AllByRecursion (PathsSo S) plan.attached
  pub own : coordinator plan.epoch ≡ plan.coordinator
  pub members : nodes_of (members_of plan.epoch moments) ≡ plan.nodes
  pub cluster : plan.cluster ≡ S.header.cluster
  pub voting : (d : ℕ) → told.is_voting S r d ≡ is_quorum both d
  pub shown : (d m : ℕ) → 1 ≤ d → d ≤ 32 → list_any (λ k. k == m) led.others ≡ true → shows_valid plan.epoch moments d m ≡ holds_valid promises d m
  pub valid : AllByRecursion (λ (a : AttachedDevice). is_quorum both a.device ≡ true → has a.nodes plan.coordinator ≡ true
      → is_valid (validity S.header plan.coordinator a.device moments) ≡ holds_valid promises a.device plan.coordinator) plan.attached

-- ---- how far a quorum device is, where these tasks are the coordinator's own

abbrev pub was_asked : ℕ → ℕ → ℕ → List Moment → Bool
was_asked e d m moments = list_any (sends (coordinator e) m (name.SeizeQuorum d)) (since (is_attempt e) moments)

-- nobody may seize it
pub record ByNobody (plan : Plan) (e : Seizing) (tasks : List told.Task) (moments : List Moment) : Type 0 where
  pub none : e.seizer ≡ None
  pub last : told.asked_last plan.epoch e.attached.device moments ≡ None
  pub no_task : told.has_task e.attached.device tasks ≡ false

-- another member is to be asked first
pub record ToAsk (plan : Plan) (promises : List Promised) (l : LedBy plan) (e : Seizing) (tasks : List told.Task) (moments : List Moment) : Type 0 where
  pub seizer : ℕ
  pub other : list_any (λ k. k == seizer) l.others ≡ true
  pub may : may_seize promises e.attached seizer ≡ true
  pub waits : e.result ≡ None
  pub last : told.asked_last plan.epoch e.attached.device moments ≡ None
  pub no_task : told.has_task e.attached.device tasks ≡ false

-- whom the lines show as asked, where it has ended as not registered
abbrev pub AskedAs : (plan : Plan) → LedBy plan → Seizing → List Moment → Type 0
AskedAs plan l e moments = (keys : List ℕ) → e.result ≡ Some (NotRegistered keys) → (m : ℕ) → list_any (λ k. k == m) l.others ≡ true
    → was_asked plan.epoch e.attached.device m moments ≡ has e.asked m

-- another member was asked last
pub record ByOther (plan : Plan) (l : LedBy plan) (e : Seizing) (moments : List Moment) : Type 0 where
  pub seizer : ℕ
  pub last : told.asked_last plan.epoch e.attached.device moments ≡ Some seizer
  pub answer : told.seized_by plan.epoch e.attached.device seizer moments ≡ e.result
  pub asked : AskedAs plan l e moments

-- the coordinator itself
pub record ByOwn (plan : Plan) (l : LedBy plan) (e : Seizing) (tasks : List told.Task) (moments : List Moment) : Type 0 where
  pub last : told.asked_last plan.epoch e.attached.device moments ≡ None
  pub has_task : told.has_task e.attached.device tasks ≡ true
  pub answer : told.result_of e.attached.device tasks ≡ e.result
  pub asked : AskedAs plan l e moments

-- by these keys another member is asked next
abbrev pub LastIs : Plan → Seizing → List told.Task → List Moment → List ℕ → Type 0
LastIs plan e tasks moments keys =
    ((m : ℕ) × (told.asked_last plan.epoch e.attached.device moments ≡ Some m) × (told.seized_by plan.epoch e.attached.device m moments ≡ Some (NotRegistered keys)))
    ⊎ ((told.asked_last plan.epoch e.attached.device moments ≡ None) × (told.has_task e.attached.device tasks ≡ true)
    × (told.result_of e.attached.device tasks ≡ Some (NotRegistered keys)))

pub record ToAskNext (plan : Plan) (promises : List Promised) (l : LedBy plan) (e : Seizing) (tasks : List told.Task) (moments : List Moment) : Type 0 where
  pub next : ℕ
  pub keys : List ℕ
  pub other : list_any (λ k. k == next) l.others ≡ true
  pub may : may_seize promises e.attached next ≡ true
  pub shown : list_any (λ key. key == key_of plan.cluster next) keys ≡ true
  pub unasked : was_asked plan.epoch e.attached.device next moments ≡ false
  pub waits : e.result ≡ None
  pub last : LastIs plan e tasks moments keys

abbrev pub IsShown : (plan : Plan) → List Promised → LedBy plan → List told.Task → List Moment → Seizing → Type 0
IsShown plan promises l tasks moments e =
    ByNobody plan e tasks moments ⊎ (ToAsk plan promises l e tasks moments ⊎ (ByOther plan l e moments ⊎ (ByOwn plan l e tasks moments ⊎ ToAskNext plan promises l e tasks moments)))

-- ---- what is begun

-- the seizing of d by n for e, for its votes where it has any by this record
abbrev pub begun_at : Setting → ℕ → ℕ → NodeRecord → List Moment → ℕ → told.Task
begun_at S n e r moments d = record { device = d; work = told.seizing_for S n e (if told.is_voting S r d then Vote else Plain) moments }
