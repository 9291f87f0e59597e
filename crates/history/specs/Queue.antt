-- The device queue of a node: its tasks at shared devices, as what was delivered to it, its installs and its device lines tell. A task is
-- the seizing of a device for an attempt or the joining of one; its steps are those of the crate `seize`. Lists of tasks are in order, and
-- tasks that are over stay in them until the node promises another number or installs: a repeated request begins none anew.
use Rattle.std.specs.Prelude.{ℕ, ◌==◌, ◌&&◌, ◌||◌, not, nat_lt, Bool, true, false, if◌then◌else◌, List, [], ◌∷◌, ◌++◌, map, length, take, find, Option, Some, None, is_some, Ok, Err}
use Rattle.std.specs.List.{list_any, list_all, filter}
use Rattle.std.specs.Option.{option_and_then}
use Rattle.cl_base.specs.Sets.{has}
use Rattle.cl_base.specs.Seizings.{SeizeResult}
use Rattle.cl_base.specs.declared.seizing.SeizeEnd.TheVariants.{NotRegistered}
use Rattle.pgr_device.specs.declared.command.PrCommand.{PrCommand}
use Rattle.pgr_device.specs.declared.command.PrCommand.TheVariants as command
use Rattle.quorum_votes.specs.Votes.{device_at, state_of}
use Rattle.quorum_votes.specs.declared.state.DevState.{DevState}
use Rattle.quorum_votes.specs.declared.state.DevState.TheVariants.{Enabled}
use Rattle.seize.specs.Answers.{Answer}
use Rattle.seize.specs.Seizing as seizing
use Rattle.seize.specs.Seizing.{SeizeState}
use Rattle.seize.specs.Joining as joining
use Rattle.seize.specs.Joining.{JoinState}
use Rattle.seize.specs.declared.kind.SeizeKind.{SeizeKind}
use Rattle.seize.specs.declared.kind.SeizeKind.TheVariants.{Vote, Plain}
use Rattle.wire.specs.declared.message.Body.{Body}
use Rattle.wire.specs.declared.message.Body.TheVariants as body
use Rattle.status_report.specs.declared.device_entry.DeviceAnswer.{DeviceAnswer}
use Rattle.status_report.specs.declared.device_entry.DeviceAnswer.TheVariants.{Given, Failed}
use Rattle.history.specs.Moment.{Moment}
use Rattle.history.specs.Names as name
use Rattle.history.specs.Names.{Name, named}
use Rattle.history.specs.Trace.{up, down, saved, installed, member, attempt, ended_votes, ended_excluded, ended_foreign, sent, delivered, device}
use Rattle.history.specs.Order.{since}
use Rattle.history.specs.Setting.{Setting, coordinator, nodes_of, all_to, key_of, paths_of}
use Rattle.history.specs.Letters.{Letter, letter_of, arriving, is_letter, sends, says}
use Rattle.history.specs.Member.{member_of, members_of, attempt_of, number_of, session_of, in_collect}
use Rattle.history.specs.Seizing.{Seizing, is_attempt, is_number, or_else, acts_for, seizing_of}
use Rattle.history.specs.Validated.{Validity, Valid, Lapsed, Open, validity, is_valid}
use Rattle.history.specs.Contact.{others}
use Rattle.history.specs.Records.{NodeRecord, committed_of, is_newest, promises, own_record, records_in_hand}
use Rattle.history.specs.UnderWay.{is_under_way}

-- ---- tasks

pub data Work : Type 0 where
  Seizes : (state : SeizeState) → Work
  Joins : (state : JoinState) → Work

pub record Task : Type 0 where
  pub device : ℕ
  pub work : Work

abbrev pub is_over : Work → Bool
is_over (Seizes s) = is_some (seizing.result_of s)
is_over (Joins s) = is_some (joining.result_of s)

abbrev pub command_of : Work → Option PrCommand
command_of (Seizes s) = seizing.command_of s
command_of (Joins s) = joining.command_of s

abbrev pub work_after : Work → Answer → Work
work_after (Seizes s) a = Seizes (seizing.taken s a)
work_after (Joins s) a = Joins (joining.taken s a)

abbrev pub answer_told : DeviceAnswer → Answer
answer_told (Given a) = Ok a
answer_told Failed = Err (record {})

-- the first task that is not over moves on
abbrev pub moved : Answer → List Task → List Task
moved a [] = []
moved a (t ∷ later) = if is_over t.work then t ∷ moved a later else (record t { work = work_after t.work a }) ∷ later

abbrev pub has_task : ℕ → List Task → Bool
has_task d tasks = list_any (λ t. t.device == d) tasks

-- one for a device
abbrev pub with_task : ℕ → Work → List Task → List Task
with_task d work tasks = if has_task d tasks then tasks else tasks ++ (record { device = d; work = work }) ∷ []

-- ---- a request to seize, to a node in the session of the attempt that has not installed it

abbrev pub seizing_for : Setting → ℕ → ℕ → SeizeKind → List Moment → Work
seizing_for S n e kind before = Seizes (seizing.begun kind e (members_of e before) n S.header.cluster true)

abbrev pub sought : Setting → ℕ → ℕ → Name → List Moment → List Task → List Task
sought S n e (name.SeizeQuorum d) before tasks = with_task d (seizing_for S n e Vote before) tasks
sought S n e (name.SeizeData d) before tasks = with_task d (seizing_for S n e Plain before) tasks
sought S n e _ before tasks = tasks

abbrev pub requested_in : Setting → ℕ → Option ℕ → Letter → List Moment → List Task → List Task
requested_in S n None l before tasks = tasks
requested_in S n (Some e) l before tasks = if acts_for n e before then sought S n e l.name before tasks else tasks

abbrev pub requested : Setting → ℕ → Option Letter → List Moment → List Task → List Task
requested S n None before tasks = tasks
requested S n (Some l) before tasks = requested_in S n (number_of l) l before tasks

-- ---- joinings: at an install, of each attached device that the attempt holds, that another seized, and where the own key was not seen, or
-- is not validated

-- the devices that a Promise shows as valid
abbrev pub valid_in : Option Body → ℕ
valid_in (Some (body.Promise epoch newest members valid flagged committed pending)) = valid
valid_in _ = 0

abbrev pub valid_sent : Name → List ℕ → Option ℕ
valid_sent name.Promise bytes = Some (valid_in (says bytes))
valid_sent _ bytes = None

abbrev pub or_shown : Option ℕ → ℕ → ℕ
or_shown None shown = shown
or_shown (Some found) shown = found

-- as the last Promise of n shows them
abbrev pub shown_valid : ℕ → List Moment → ℕ
shown_valid n [] = 0
shown_valid n (sent p m b called bytes ∷ before) = if m == n then or_shown (valid_sent (named called) bytes) (shown_valid n before) else shown_valid n before
shown_valid n (_ ∷ before) = shown_valid n before

-- where a stop left open what is valid, its Promise shows it
abbrev pub holds_valid : ℕ → ℕ → Validity → List Moment → Bool
holds_valid n d Valid before = true
holds_valid n d Lapsed before = false
holds_valid n d Open before = has (shown_valid n before) d

abbrev pub must_join : Setting → ℕ → ℕ → Option Seizing → List Moment → Bool
must_join S n d None before = false
must_join S n d (Some s) before =
    not (s.seizer == n) && not (list_any (λ key. key == key_of S.header n) s.keys && holds_valid n d (validity S.header n d before) before)

abbrev pub joinings : Setting → ℕ → ℕ → List Moment → List Task
joinings S n e before =
    map (λ d. record { device = d; work = Joins (joining.begun e n S.header.cluster) })
    (filter (λ d. has (paths_of S.header d) n && must_join S n d (seizing_of S.header e d before) before) (all_to (length S.header.devices)))

-- ---- the coordinator's own: the seizing of quorum devices once its Promises are in hand, that of the others once these are over

abbrev pub is_enabled : DevState → Bool
is_enabled Enabled = true
is_enabled _ = false

-- d has votes by the committed updates of the record, or with the pending one
abbrev pub is_voting : Setting → NodeRecord → ℕ → Bool
is_voting S r d =
    is_enabled (state_of (device_at (S.votes (take (committed_of r) r.texts)) d)) || is_enabled (state_of (device_at (S.votes r.texts) d))

abbrev pub has_promised : ℕ → List Moment → ℕ → Bool
has_promised e before m = list_any (λ (l : Letter). l.from == m) (promises e before)

-- every other member sent its Promise
abbrev pub all_promised : ℕ → List Moment → Bool
all_promised e before = list_all (has_promised e before) (others e (members_of e before))

-- m, another member, has a path to d, and its Promise shows it as valid
abbrev pub may_seize : Setting → ℕ → ℕ → List Moment → ℕ → Bool
may_seize S e d before m =
    has (paths_of S.header d) m && list_any (λ (l : Letter). (l.from == m) && has (valid_in (says l.bytes)) d) (promises e before)

-- .. and was not asked yet, and its key was read
abbrev pub comes_next : Setting → ℕ → ℕ → List ℕ → List Moment → ℕ → Bool
comes_next S e d keys before m =
    may_seize S e d before m && not (list_any (sends (coordinator e) m (name.SeizeQuorum d)) (since (is_attempt e) before))
    && list_any (λ key. key == key_of S.header m) keys

-- the result ends the seizing of d, unless another member is asked next
abbrev pub ends : Setting → ℕ → ℕ → Option SeizeResult → List Moment → Bool
ends S e d None before = false
ends S e d (Some (NotRegistered keys)) before = not (list_any (comes_next S e d keys before) (others e (members_of e before)))
ends S e d (Some result) before = true

abbrev pub result_in : Work → Option SeizeResult
result_in (Seizes s) = seizing.result_of s
result_in (Joins s) = None

abbrev pub result_of : ℕ → List Task → Option SeizeResult
result_of d tasks = option_and_then (λ (t : Task). result_in t.work) (find (λ (t : Task). t.device == d) tasks)

abbrev pub is_ask : ℕ → Name → Bool
is_ask d (name.SeizeQuorum k) = k == d
is_ask d _ = false

-- the member that the coordinator of e asked last to seize d
abbrev pub asked_last : ℕ → ℕ → List Moment → Option ℕ
asked_last e d [] = None
asked_last e d (attempt f members ∷ before) = if f == e then None else asked_last e d before
asked_last e d (sent p c m called bytes ∷ before) = if (c == coordinator e) && is_ask d (named called) then Some m else asked_last e d before
asked_last e d (_ ∷ before) = asked_last e d before

abbrev pub seized_in : ℕ → Option Body → Option SeizeResult
seized_in e (Some (body.Seized epoch d result)) = if epoch == e then Some result else None
seized_in e _ = None

abbrev pub told_by : ℕ → ℕ → ℕ → Option Letter → Option SeizeResult → Option SeizeResult
told_by e d m None earlier = earlier
told_by e d m (Some l) earlier = if is_letter (name.Seized d) m (coordinator e) l then or_else (seized_in e (says l.bytes)) earlier else earlier

-- what the last Seized of m for d and e told
abbrev pub seized_by : ℕ → ℕ → ℕ → List Moment → Option SeizeResult
seized_by e d m [] = None
seized_by e d m (x ∷ before) = if is_attempt e x then None else told_by e d m (arriving before x) (seized_by e d m before)

-- the seizing of d is over, be it the own one or another member's
abbrev pub is_settled : Setting → ℕ → ℕ → List Task → Option ℕ → List Moment → Bool
is_settled S e d tasks (Some m) before = ends S e d (seized_by e d m before) before
is_settled S e d tasks None before =
    if has_task d tasks then ends S e d (result_of d tasks) before else not (list_any (may_seize S e d before) (others e (members_of e before)))

abbrev pub has_path : Setting → ℕ → ℕ → Bool
has_path S members d = list_any (has (paths_of S.header d)) (nodes_of members)

-- so are those of all devices that have votes and to which a member has a path
abbrev pub quorum_is_over : Setting → ℕ → NodeRecord → List Task → List Moment → Bool
quorum_is_over S e r tasks before =
    list_all (λ d. not (is_voting S r d && has_path S (members_of e before) d) || is_settled S e d tasks (asked_last e d before) before) (all_to (length S.header.devices))

abbrev pub with_seizings : Setting → ℕ → ℕ → SeizeKind → List Moment → List ℕ → List Task → List Task
with_seizings S n e kind before [] tasks = tasks
with_seizings S n e kind before (d ∷ later) tasks = with_seizings S n e kind before later (with_task d (seizing_for S n e kind before) tasks)

abbrev pub own_quorum : Setting → ℕ → ℕ → NodeRecord → List Moment → List Task → List Task
own_quorum S n e r before tasks =
    with_seizings S n e Vote before
    (filter (λ d. is_voting S r d && has (paths_of S.header d) n && is_valid (validity S.header n d before)) (all_to (length S.header.devices))) tasks

abbrev pub own_data : Setting → ℕ → ℕ → NodeRecord → List Moment → List Task → List Task
own_data S n e r before tasks =
    if quorum_is_over S e r tasks before
    then with_seizings S n e Plain before (filter (λ d. not (is_voting S r d) && has (paths_of S.header d) n) (all_to (length S.header.devices))) tasks
    else tasks

abbrev pub own_tasks : Setting → ℕ → ℕ → Option NodeRecord → List Moment → List Task → List Task
own_tasks S n e None before tasks = tasks
own_tasks S n e (Some r) before tasks = own_data S n e r before (own_quorum S n e r before tasks)

-- the newest of the records in hand, where the trace tells the own one
abbrev pub newest_in_hand : ℕ → List Moment → Option NodeRecord
newest_in_hand e before = option_and_then (λ (records : List NodeRecord). find (is_newest records) records) (records_in_hand e before)

abbrev pub with_own : Setting → ℕ → Option ℕ → List Moment → List Task → List Task
with_own S n None moments tasks = tasks
with_own S n (Some e) moments tasks =
    if acts_for n e moments && is_under_way e moments && all_promised e moments then own_tasks S n e (newest_in_hand e moments) moments tasks else tasks

-- ---- the tasks of n

abbrev pub is_write : PrCommand → Bool
is_write (command.Write value) = true
is_write _ = false

-- Tasks come by a request or an install, move on by device lines, and are dropped where n goes up or down, or promises another number. An
-- attempt that ends for its votes, or for a member, has no task left; one that ends otherwise leaves its tasks queued.
abbrev pub tasks_of : Setting → ℕ → List Moment → List Task
tasks_of S n [] = []
tasks_of S n (up m ∷ before) = if m == n then [] else tasks_of S n before
tasks_of S n (down m why ∷ before) = if m == n then [] else tasks_of S n before
tasks_of S n (saved m ∷ before) = if (m == n) && in_collect n before then [] else tasks_of S n before
tasks_of S n (attempt e members ∷ before) =
    if coordinator e == n then with_own S n (Some e) (attempt e members ∷ before) [] else tasks_of S n before
tasks_of S n (ended_votes e have need lacking ∷ before) = if coordinator e == n then [] else tasks_of S n before
tasks_of S n (ended_excluded e m ∷ before) = if coordinator e == n then [] else tasks_of S n before
tasks_of S n (ended_foreign e m ∷ before) = if coordinator e == n then [] else tasks_of S n before
tasks_of S n (installed m e ∷ before) = if m == n then joinings S n e before else tasks_of S n before
tasks_of S n (delivered p a m ∷ before) =
    if m == n
    then with_own S n (attempt_of n before) (delivered p a m ∷ before) (requested S n (letter_of p before) before (tasks_of S n before))
    else tasks_of S n before
tasks_of S n (device m d done reply ∷ before) =
    if (m == n) && not (is_write done)
    then with_own S n (attempt_of n before) (device m d done reply ∷ before) (moved (answer_told reply) (tasks_of S n before))
    else tasks_of S n before
tasks_of S n (_ ∷ before) = tasks_of S n before

-- ---- the queue

-- the tasks that are not over
abbrev pub unfinished : List Task → List Task
unfinished tasks = filter (λ (t : Task). not (is_over t.work)) tasks

-- A member has none: it was ready before, so its tasks were over.
abbrev pub queued_of : Setting → ℕ → List Moment → List Task
queued_of S n moments = if is_some (member_of n moments) then [] else unfinished (tasks_of S n moments)

-- the devices of these, the first task first
abbrev pub queue_of : Setting → ℕ → List Moment → List ℕ
queue_of S n moments = map (λ (t : Task). t.device) (queued_of S n moments)

abbrev pub has_work : Setting → ℕ → List Moment → Bool
has_work S n moments = nat_lt 0 (length (queue_of S n moments))

abbrev pub is_queued : Setting → ℕ → ℕ → List Moment → Bool
is_queued S n d moments = list_any (λ x. x == d) (queue_of S n moments)

abbrev pub due_with : ℕ → Option PrCommand → List (ℕ × PrCommand)
due_with d None = []
due_with d (Some next) = (d, next) ∷ []

-- the command that is due on a device: the next one of the first task
abbrev pub due_of : List Task → List (ℕ × PrCommand)
due_of [] = []
due_of (t ∷ later) = due_with t.device (command_of t.work)

-- ---- where the queue is open

abbrev pub is_open : Validity → Bool
is_open Valid = false
is_open Lapsed = false
is_open Open = true

-- Where a node that stopped in a save coordinates an attempt, the trace does not tell its record until it has installed, or which devices are valid
-- in it. Which tasks of its own the attempt or its install brings is then not said: they are what its device lines show.
abbrev pub is_untold : Setting → ℕ → Option ℕ → List Moment → Bool
is_untold S n None moments = false
is_untold S n (Some e) moments =
    is_number e (session_of n moments) && is_under_way e moments
    && ((acts_for n e moments && not (is_some (own_record e moments)))
    || list_any (λ d. has (paths_of S.header d) n && is_open (validity S.header n d moments)) (all_to (length S.header.devices)))

-- with this moment the tasks of n are dropped, or are others; what an install brought is over where the node is a member
abbrev pub clears : ℕ → List Moment → Moment → Bool
clears n before (up m) = m == n
clears n before (down m why) = m == n
clears n before (saved m) = (m == n) && in_collect n before
clears n before (attempt e members) = coordinator e == n
clears n before (ended_votes e have need lacking) = coordinator e == n
clears n before (ended_excluded e m) = coordinator e == n
clears n before (ended_foreign e m) = coordinator e == n
clears n before (installed m e) = m == n
clears n before (member m e) = m == n
clears n before _ = false

-- from then on, until they are dropped
abbrev pub queue_is_open : Setting → ℕ → List Moment → Bool
queue_is_open S n [] = false
queue_is_open S n (x ∷ before) = is_untold S n (attempt_of n (x ∷ before)) (x ∷ before) || (queue_is_open S n before && not (clears n before x))
