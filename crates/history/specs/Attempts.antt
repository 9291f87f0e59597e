-- Answers, of attempts: why an attempt begins, and each way in which it ends without a membership.
use Rattle.std.specs.Prelude.{◌≡◌, ◌<◌, ℕ, ◌+◌, ◌-◌, ◌==◌, ◌&&◌, ◌||◌, not, nat_lt, nat_le, Bool, true, false, if◌then◌else◌, List, [], ◌∷◌, length, take, Option, Some, None, is_some, option_map, slice_get, IfSome}
use Rattle.std.specs.List.{list_any, list_all, filter, find, count_by, AllByRecursion}
use Rattle.std.specs.Option.{option_and_then}
use Rattle.cl_base.specs.Sets.{has, set_with}
use Rattle.cl_base.specs.declared.header.Header.{Header}
use Rattle.cl_base.specs.declared.header.Version.{Version}
use Rattle.cl_base.specs.declared.header.Version.TheVariants.{One, Two}
use Rattle.cl_base.specs.declared.seizing.Lack.{Lack}
use Rattle.cl_base.specs.declared.seizing.Obstacle.{Obstacle}
use Rattle.cl_base.specs.declared.seizing.Obstacle.TheVariants.{NoPath, Seizing}
use Rattle.cl_base.specs.declared.seizing.SeizeEnd.{SeizeEnd}
use Rattle.cl_base.specs.declared.seizing.SeizeEnd.TheVariants.{Held, NotRegistered, Greater, Expelled, Contended, Fault}
use Rattle.pgr_device.specs.declared.command.PrCommand.TheVariants as command
use Rattle.pgr_device.specs.declared.command.PrAnswer.TheVariants as answer
use Rattle.quorum_votes.specs.Tables.{VoteTable}
use Rattle.quorum_votes.specs.Votes.{device_at, state_of, held_of, needed_of, is_configured}
use Rattle.schedule_text.specs.declared.event.Event.{Event}
use Rattle.schedule_text.specs.declared.event.Event.TheVariants.{Tick}
use Rattle.wire.specs.declared.message.Body.{Body}
use Rattle.wire.specs.declared.message.Body.TheVariants as body
use Rattle.status_report.specs.declared.device_entry.DeviceAnswer.TheVariants.{Given, Failed}
use Rattle.history.specs.Moment.{Moment, event_of}
use Rattle.history.specs.Names as name
use Rattle.history.specs.Names.{Name, named}
use Rattle.history.specs.Trace.{up, down, ticked, saved, delivered, device, installed, attempt, start, ended_votes, ended_superseded, ended_silent, ended_excluded, ended_foreign, stopped, disk_failed, sent}
use Rattle.history.specs.Order.{Always, EachEvent, since, before_last, under_way, somewhere}
use Rattle.history.specs.Setting.{Setting, coordinator, nodes_of, all_to, key_of, paths_of}
use Rattle.history.specs.Setting as setting
use Rattle.history.specs.Letters.{Letter, letter_of, passes, reached_since, sends, is_letter, says}
use Rattle.history.specs.Member.{member_of, members_of, attempt_of, number_of, in_collect, promised_to, last_installed}
use Rattle.history.specs.Starts.{Start, EachStart}
use Rattle.history.specs.Seizing.{is_attempt, is_start, is_boot, is_number, is_members_key}
use Rattle.history.specs.Validated.{validity, is_valid}
use Rattle.history.specs.Contact.{others}
use Rattle.history.specs.Records.{NodeRecord, committed_of, is_newest, promises, record_of, records_in_hand}
use Rattle.history.specs.UnderWay.{is_under_way}
use Rattle.history.specs.Queue.{is_enabled, all_promised, has_promised, queue_of, has_work, is_queued, queue_is_open, seized_by}

-- ---- an attempt begins only in a tick of its coordinator, which is the least of what it sees

-- how many ticks of c ago a packet of m was last delivered to it, since it went up
abbrev pub age_of : ℕ → ℕ → List Moment → Option ℕ
age_of c m [] = None
age_of c m (up n ∷ before) = if n == c then None else age_of c m before
age_of c m (delivered p a b ∷ before) = if (a == m) && (b == c) then Some 0 else age_of c m before
age_of c m (ticked n ∷ before) = if n == c then option_map (λ k. k + 1) (age_of c m before) else age_of c m before
age_of c m (_ ∷ before) = age_of c m before

abbrev pub is_recent : Option ℕ → Bool
is_recent None = false
is_recent (Some k) = nat_le k 3

-- The nodes that are configured in the committed updates of c. Under the first version these are all nodes, whatever the updates.
abbrev pub configured_in : Setting → Version → Option NodeRecord → Option (ℕ → Bool)
configured_in S One r = Some (setting.is_configured S.header)
configured_in S Two r = option_map (λ known. is_configured (S.votes (take (committed_of known) known.texts))) r

abbrev pub configured_for : Setting → ℕ → List Moment → Option (ℕ → Bool)
configured_for S c before = configured_in S S.header.version (record_of c before)

-- the nodes that c sees: itself, and those that it heard at most three ticks ago, where it is configured itself those alone that are so
abbrev pub sees : (ℕ → Bool) → ℕ → List Moment → ℕ → Bool
sees configured c before m = (m == c) || (is_recent (age_of c m before) && (configured m || not (configured c)))

abbrev pub view_of : ℕ → (ℕ → Bool) → ℕ → List Moment → List ℕ
view_of nodes configured c before = filter (sees configured c before) (all_to nodes)

-- the last Heartbeat of m that was delivered to c since it went up
abbrev pub last_heartbeat : ℕ → ℕ → List Moment → Option Body
last_heartbeat c m [] = None
last_heartbeat c m (up n ∷ before) = if n == c then None else last_heartbeat c m before
last_heartbeat c m (delivered p a b ∷ before) =
    if passes (is_letter name.Heartbeat m c) (letter_of p before) then option_and_then (λ (l : Letter). says l.bytes) (letter_of p before) else last_heartbeat c m before
last_heartbeat c m (_ ∷ before) = last_heartbeat c m before

-- a Heartbeat with another session than e, or a greater promise
abbrev pub breaks : ℕ → Option Body → Bool
breaks e (Some (body.Heartbeat promised session is_member)) = not (session == e) || nat_lt e promised
breaks e _ = false

-- c has a reason: it is no member, its members are not these, or a member of its own was heard to be elsewhere
abbrev pub has_reason : ℕ → ℕ → List Moment → Option ℕ → Bool
has_reason c members before None = true
has_reason c members before (Some e) =
    not (members_of e before == members) || list_any (λ m. not (m == c) && breaks e (last_heartbeat c m before)) (nodes_of (members_of e before))

-- P holds, with the members that c sees; a node that is not configured begins no attempt alone
pub record IsSeen (S : Setting) (before : List Moment) (c members : ℕ) (configured : ℕ → Bool) : Type 0 where
  pub view : nodes_of members ≡ view_of S.header.nodes configured c before
  pub not_alone : (configured c || nat_lt 1 (length (nodes_of members))) ≡ true

-- A node takes its view as its tick begins, by what it has committed then, and has a reason then or none. It may commit updates in the same tick,
-- before its attempt begins: they change neither.

abbrev pub is_tick_of : ℕ → Moment → Bool
is_tick_of c (ticked n) = n == c
is_tick_of c _ = false

-- what stood before the last tick of c
abbrev pub before_tick : ℕ → List Moment → List Moment
before_tick c before = before_last (is_tick_of c) before

pub record IsWanted (S : Setting) (before : List Moment) (e members : ℕ) : Type 0 where
  pub in_a_tick : under_way before ≡ Some (Tick (coordinator e))
  -- where the trace tells the record that its coordinator had as the tick began
  pub seen : IfSome (configured_for S (coordinator e) (before_tick (coordinator e) before)) (IsSeen S before (coordinator e) members)
  pub least : slice_get (nodes_of members) 0 ≡ Some (coordinator e)
  pub reason :
      has_reason (coordinator e) members (before_tick (coordinator e) before) (member_of (coordinator e) (before_tick (coordinator e) before)) ≡ true

-- ---- results of seizing a device, in the attempt e, and what shows each

-- some member m of e and a moment since the attempt at which m was answered by d
abbrev pub some_member : ℕ → List Moment → (ℕ → List Moment → Moment → Bool) → Bool
some_member e before test = list_any (λ m. somewhere (test m) (since (is_attempt e) before)) (nodes_of (members_of e before))

abbrev pub shows_word : ℕ → ℕ → ℕ → List Moment → Moment → Bool
shows_word d w m before (device n x command.Word (Given (answer.Word v))) = (n == m) && (x == d) && (v == w)
shows_word d w m before (device n x (command.Swap expect new) (Given (answer.Miscompare v))) = (n == m) && (x == d) && (v == w)
shows_word d w m before _ = false

abbrev pub lacks_key : Header → ℕ → List ℕ → Bool
lacks_key h n keys = not (list_any (λ key. key == key_of h n) keys)

abbrev pub reserves : ℕ → ℕ → Moment → Bool
reserves n d (device m x (command.Reserve kind key) reply) = (m == n) && (x == d)
reserves n d _ = false

-- a conflict to `swap`, or a reading after `reserve` that lacks the key of m
abbrev pub shows_expelled : Header → ℕ → ℕ → List Moment → Moment → Bool
shows_expelled h d m before (device n x (command.Swap expect new) (Given answer.Conflict)) = (n == m) && (x == d)
shows_expelled h d m before (device n x command.Keys (Given (answer.Keys keys))) = (n == m) && (x == d) && lacks_key h m keys && list_any (reserves m d) before
shows_expelled h d m before _ = false

abbrev pub reads_keys : ℕ → ℕ → Moment → Bool
reads_keys n d (device m x command.Keys reply) = (m == n) && (x == d)
reads_keys n d _ = false

-- the 64th reading since `reserve`, whose first key of no member is this
abbrev pub shows_contended : Header → ℕ → ℕ → ℕ → ℕ → List Moment → Moment → Bool
shows_contended h members d key m before (device n x command.Keys (Given (answer.Keys keys))) =
    (n == m) && (x == d) && is_number key (find (λ k. not (is_members_key h members k)) keys)
    && (count_by (reads_keys m d) (since (reserves m d) before) == 63)
shows_contended h members d key m before _ = false

abbrev pub shows_fault : ℕ → ℕ → List Moment → Moment → Bool
shows_fault d m before (device n x what Failed) = (n == m) && (x == d)
shows_fault d m before _ = false

-- a reading of a member that lacks the key of m
abbrev pub reads_without : Header → ℕ → ℕ → ℕ → List Moment → Moment → Bool
reads_without h d m reader before (device n x command.Keys (Given (answer.Keys keys))) = (n == reader) && (x == d) && lacks_key h m keys
reads_without h d m reader before _ = false

-- whether m promised e while it did not hold d valid
abbrev pub promised_invalid : Header → ℕ → ℕ → ℕ → List Moment → Bool
promised_invalid h e d m [] = false
promised_invalid h e d m (saved n ∷ before) =
    ((n == m) && in_collect n before && is_number e (promised_to before) && not (is_valid (validity h m d before))) || promised_invalid h e d m before
promised_invalid h e d m (_ ∷ before) = promised_invalid h e d m before

-- m may not seize d for e: it did not hold it valid where it promised e, or began e, or a reading in this attempt lacks its key
abbrev pub is_unregistered : Header → ℕ → ℕ → List Moment → ℕ → Bool
is_unregistered h e d before m =
    (if m == coordinator e then not (is_valid (validity h m d (before_last (is_attempt e) before))) else promised_invalid h e d m before)
    || some_member e before (reads_without h d m)

-- the attached members
abbrev pub attached_members : Header → ℕ → ℕ → List ℕ
attached_members h d members = filter (λ m. has (paths_of h d) m) (nodes_of members)

abbrev pub is_ended_so : Header → ℕ → ℕ → List Moment → SeizeEnd Unit → Bool
is_ended_so h e d before (Held keys) = false
is_ended_so h e d before (NotRegistered keys) = list_all (is_unregistered h e d before) (attached_members h d (members_of e before))
is_ended_so h e d before (Greater w) = nat_lt e w && some_member e before (shows_word d w)
is_ended_so h e d before Expelled = some_member e before (shows_expelled h d)
is_ended_so h e d before (Contended key) = some_member e before (shows_contended h (members_of e before) d key)
is_ended_so h e d before Fault = some_member e before (shows_fault d)

abbrev pub is_shown : Header → ℕ → ℕ → List Moment → Obstacle → Bool
is_shown h e d before NoPath = length (attached_members h d (members_of e before)) == 0
is_shown h e d before (Seizing end) = is_ended_so h e d before end

-- a device for which no member has a path is named so, and no other
abbrev pub is_no_path : Obstacle → Bool
is_no_path NoPath = true
is_no_path (Seizing end) = false

pub record IsLack (h : Header) (before : List Moment) (e : ℕ) (x : Lack) : Type 0 where
  pub shown : is_shown h e x.device before x.obstacle ≡ true
  pub path : is_no_path x.obstacle ≡ (length (attached_members h x.device (members_of e before)) == 0)

-- ---- `ended e votes`

abbrev pub is_listed : ℕ → List Lack → Bool
is_listed d lacking = list_any (λ x. x.device == d) lacking

-- the enabled devices without a listed result, up to k, as a set
abbrev pub counted_devices : ℕ → VoteTable → List Lack → List ℕ
counted_devices k v lacking = filter (λ d. is_enabled (state_of (device_at v d)) && not (is_listed d lacking)) (all_to k)

abbrev pub set_of : List ℕ → ℕ
set_of [] = 0
set_of (d ∷ others) = set_with (set_of others) d

-- what is counted under these votes; an enabled device to which no member is attached is listed
abbrev pub counts : Header → VoteTable → ℕ → ℕ → ℕ → List Lack → Bool
counts h v members have need lacking =
    (held_of v members (set_of (counted_devices 16 v lacking)) == have) && (needed_of v == need)
    && list_all (λ d. nat_lt 0 (length (attached_members h d members))) (counted_devices 16 v lacking)

-- whether the votes may be enough, were each device that has no listed result held
abbrev pub may_be_enough : Header → VoteTable → ℕ → List Lack → Bool
may_be_enough h v members lacking =
    nat_le (needed_of v) (held_of v members (set_of (filter (λ d. nat_lt 0 (length (attached_members h d members))) (counted_devices 16 v lacking))))

-- the counts are those under the votes of its committed texts, or, where these may be enough, with the pending one
abbrev pub counts_for : Setting → NodeRecord → ℕ → ℕ → ℕ → List Lack → Bool
counts_for S r members have need lacking =
    counts S.header (S.votes (take (committed_of r) r.texts)) members have need lacking
    || (may_be_enough S.header (S.votes (take (committed_of r) r.texts)) members lacking && counts S.header (S.votes r.texts) members have need lacking)

-- .. of the newest of these records
abbrev pub is_counted : Setting → ℕ → ℕ → ℕ → List Lack → List NodeRecord → Bool
is_counted S members have need lacking records = list_any (λ r. counts_for S r members have need lacking) (filter (is_newest records) records)

pub record IsShort (S : Setting) (before : List Moment) (e have need : ℕ) (lacking : List Lack) : Type 0 where
  pub too_few : have < need
  pub promised : all_promised e before ≡ true
  -- the newest record is its own at the attempt, or one of those that were promised, where its own is known
  pub counted : IfSome (records_in_hand e before) (λ records. is_counted S (members_of e before) have need lacking records ≡ true)
  pub results : AllByRecursion (IsLack S.header before e) lacking

-- ---- `ended e foreign m`: of the members that are configured neither under the newest committed updates nor with the pending one m is least

abbrev pub is_foreign_to : Setting → NodeRecord → ℕ → Bool
is_foreign_to S r m = not (is_configured (S.votes (take (committed_of r) r.texts)) m) && not (is_configured (S.votes r.texts) m)

abbrev pub is_foreign : Setting → ℕ → ℕ → List NodeRecord → Bool
is_foreign S members m records = list_any (λ r. is_number m (find (is_foreign_to S r) (nodes_of members))) (filter (is_newest records) records)

pub record IsForeign (S : Setting) (before : List Moment) (e m : ℕ) : Type 0 where
  pub promised : all_promised e before ≡ true
  pub foreign : IfSome (records_in_hand e before) (λ records. is_foreign S (members_of e before) m records ≡ true)

-- ---- `ended e superseded q`

abbrev pub is_nack : ℕ → ℕ → Option Body → Bool
is_nack e q (Some (body.Nack epoch promised)) = (epoch == e) && (promised == q)
is_nack e q _ = false

abbrev pub is_collect_of : ℕ → ℕ → Letter → Bool
is_collect_of c q l = is_letter name.Collect l.from c l && is_number q (number_of l)

abbrev pub is_nack_of : ℕ → ℕ → ℕ → Letter → Bool
is_nack_of c e q l = is_letter name.Nack l.from c l && is_nack e q (says l.bytes)

abbrev pub stops_of : ℕ → Moment → Bool
stops_of n (stopped m) = m == n
stops_of n (disk_failed m) = m == n
stops_of n _ = false

-- e itself may stand against the attempt where a node went up since, and so has promised e in an earlier life
abbrev pub is_own_nack : ℕ → ℕ → List Moment → Letter → Bool
is_own_nack c e before l = is_nack_of c e e l && list_any (is_boot l.from) (since (is_attempt e) before)

abbrev pub stands_against : ℕ → ℕ → List Moment → Bool
stands_against e q before =
    (nat_lt e q && (list_any (is_attempt q) before || list_any (stops_of (coordinator q)) before)
    && reached_since (is_attempt e) (λ l. is_collect_of (coordinator e) q l || is_nack_of (coordinator e) e q l) before)
    || ((q == e) && reached_since (is_attempt e) (is_own_nack (coordinator e) e before) before)

-- ---- `ended e silent m`

-- what the coordinator of an attempt asks of its members, for each device
abbrev pub seize_questions : List ℕ → List Name
seize_questions [] = []
seize_questions (d ∷ others) = name.SeizeQuorum d ∷ name.SeizeData d ∷ seize_questions others

abbrev pub questions : ℕ → List Name
questions devices = name.Collect ∷ name.Install ∷ seize_questions (all_to devices)

-- a Ready for e
abbrev pub readies : ℕ → Option Body → Bool
readies e (Some (body.Ready epoch joined report)) = epoch == e
readies e _ = false

-- .. of m, to its coordinator
abbrev pub is_ready_of : ℕ → ℕ → Letter → Bool
is_ready_of e m l = is_letter name.Ready m (coordinator e) l && readies e (says l.bytes)

-- a Ready of m for e was delivered since e began
abbrev pub has_readied : ℕ → List Moment → ℕ → Bool
has_readied e moments m = reached_since (is_attempt e) (is_ready_of e m) moments

-- The answer of m for the attempt e has come since e began. Answers for another number count not: one that was asked for in an earlier attempt may come late, and
-- even be sent late, by a node that stopped before it promised e.
abbrev pub is_answered : ℕ → List Moment → ℕ → Name → Bool
is_answered e moments m name.Collect = has_promised e moments m
is_answered e moments m name.Install = has_readied e moments m
is_answered e moments m (name.SeizeQuorum d) = is_some (seized_by e d m moments)
is_answered e moments m (name.SeizeData d) = is_some (seized_by e d m moments)
is_answered e moments m _ = true

-- it was asked of m in the attempt e, and has not been answered
abbrev pub is_unanswered : ℕ → List Moment → ℕ → Name → Bool
is_unanswered e moments m q = list_any (sends (coordinator e) m q) (since (is_attempt e) moments) && not (is_answered e moments m q)

-- the answer of m is missing; the coordinator's own part is its device commands
abbrev pub is_missing : Setting → ℕ → List Moment → ℕ → Bool
is_missing S e before m =
    if m == coordinator e
    then has_work S m before
    else list_any (is_unanswered e before m) (questions (length S.header.devices))

-- the least member whose answer is missing
abbrev pub first_missing : Setting → ℕ → List Moment → Option ℕ
first_missing S e before = find (is_missing S e before) (nodes_of (members_of e before))

abbrev pub is_question : Name → Bool
is_question name.Collect = true
is_question name.Install = true
is_question (name.SeizeQuorum d) = true
is_question (name.SeizeData d) = true
is_question _ = false

-- something is asked of b for the first time in the attempt, or the coordinator gets a task of its own
abbrev pub asks_first : ℕ → List Moment → Moment → Bool
asks_first c before (sent p a b called bytes) = (a == c) && is_question (named called) && not (list_any (sends c b (named called)) before)
asks_first c before _ = false

-- it gets a task, where its tasks are told
abbrev pub gets_task : Setting → ℕ → List Moment → Moment → Bool
gets_task S c before x = not (queue_is_open S c (x ∷ before)) && list_any (λ d. not (is_queued S c d before)) (queue_of S c (x ∷ before))

-- The phase tick: how many ticks of the coordinator came since a phase of the attempt e began, or a message of it was sent first. A phase
-- begins with messages, or with tasks of the coordinator's own.
abbrev pub phase_tick : Setting → ℕ → List Moment → ℕ
phase_tick S e [] = 0
phase_tick S e (attempt f members ∷ before) = if f == e then 0 else phase_tick S e before
phase_tick S e (ticked n ∷ before) = if n == coordinator e then phase_tick S e before + 1 else phase_tick S e before
phase_tick S e (sent p a b called bytes ∷ before) =
    if asks_first (coordinator e) (since (is_attempt e) before) (sent p a b called bytes) then 0 else phase_tick S e before
phase_tick S e (delivered p a b ∷ before) = if gets_task S (coordinator e) before (delivered p a b) then 0 else phase_tick S e before
phase_tick S e (device n d done reply ∷ before) = if gets_task S (coordinator e) before (device n d done reply) then 0 else phase_tick S e before
phase_tick S e (installed n f ∷ before) = if (n == coordinator e) && (f == e) then 0 else phase_tick S e before
phase_tick S e (_ ∷ before) = phase_tick S e before

-- where its own tasks are not told, the coordinator may be named, or the least of the others whose answer is missing
abbrev pub may_be_silent : Setting → ℕ → ℕ → List Moment → Bool
may_be_silent S e m before = (m == coordinator e) || is_number m (find (is_missing S e before) (others e (members_of e before)))

abbrev pub is_silent : Setting → ℕ → ℕ → List Moment → Bool
is_silent S e m before =
    nat_le 8 (phase_tick S e before)
    && (if queue_is_open S (coordinator e) before then may_be_silent S e m before else is_number m (first_missing S e before))

-- ---- an attempt does end at the eighth tick, where an answer is missing then

-- the next tick of the attempt e, which is under way, is the eighth of a phase, or a later one, and an answer is missing
abbrev pub is_overtime : Setting → ℕ → List Moment → Bool
is_overtime S e before = is_under_way e before && not (queue_is_open S (coordinator e) before) && nat_le 7 (phase_tick S e before) && is_some (first_missing S e before)

abbrev pub ends_silent_or_falls : ℕ → Moment → Bool
ends_silent_or_falls e (ended_silent f m) = f == e
ends_silent_or_falls e (down n why) = n == coordinator e
ends_silent_or_falls e _ = false

-- where that is so, the attempt ends silent in this tick, or c goes down in it
abbrev pub TickEnds : Setting → List Moment → Option Event → List Moment → Type 0
TickEnds S before (Some (Tick c)) entries =
    IfSome (attempt_of c before) (λ e. is_overtime S e before ≡ true → list_any (ends_silent_or_falls e) entries ≡ true)
TickEnds S before _ entries = Unit {0}

abbrev pub EndsInTime : Setting → List Moment → Moment → List Moment → Type 0
EndsInTime S before x entries = TickEnds S before (event_of x) entries

abbrev pub AttemptsEnd : Setting → List Moment → Type 0
AttemptsEnd S moments = EachEvent (EndsInTime S) moments

-- ---- `ended e excluded m` (that m has flags, see the part on resource groups)

-- an earlier attempt below e that m has not installed, without m and with another member of e
abbrev pub leaves_out : ℕ → ℕ → ℕ → ℕ → Moment → Bool
leaves_out e members m newest (attempt f others_of) =
    nat_lt f e && nat_lt newest f && not (has others_of m) && list_any (λ k. has others_of k) (nodes_of members)
leaves_out e members m newest _ = false

abbrev pub is_left_out : ℕ → ℕ → List Moment → List Moment → Bool
is_left_out e m here before = list_any (leaves_out e (members_of e before) m (last_installed m here)) before

-- at the place where m sent a Promise of e that was delivered; for the coordinator, here
abbrev pub is_excluded : ℕ → ℕ → List Moment → Bool
is_excluded e m before =
    if m == coordinator e then is_left_out e m before before
    else list_any (λ (l : Letter). (l.from == m) && is_left_out e m l.before before) (promises e before)

-- ---- a device attached to a member that a start does not hold

-- a word above e, whatever it is
abbrev pub shows_greater : ℕ → ℕ → ℕ → List Moment → Moment → Bool
shows_greater e d m before (device n x command.Word (Given (answer.Word v))) = (n == m) && (x == d) && nat_lt e v
shows_greater e d m before (device n x (command.Swap expect new) (Given (answer.Miscompare v))) = (n == m) && (x == d) && nat_lt e v
shows_greater e d m before _ = false

-- 64 readings since `reserve`, the last with a key of no member
abbrev pub shows_contention : Header → ℕ → ℕ → ℕ → List Moment → Moment → Bool
shows_contention h members d m before (device n x command.Keys (Given (answer.Keys keys))) =
    (n == m) && (x == d) && not (list_all (is_members_key h members) keys) && (count_by (reads_keys m d) (since (reserves m d) before) == 63)
shows_contention h members d m before _ = false

-- d has votes by the base of e, committed or with the last update of it pending; which of these, the trace need not tell
abbrev pub is_enabled_for : Setting → ℕ → List (List ℕ) → Bool
is_enabled_for S d updates =
    is_enabled (state_of (device_at (S.votes updates) d)) || is_enabled (state_of (device_at (S.votes (take (length updates - 1) updates)) d))

abbrev pub is_not_held : Setting → ℕ → ℕ → List (List ℕ) → List Moment → Bool
is_not_held S e d updates before =
    some_member e before (shows_greater e d) || is_ended_so S.header e d before Expelled
    || some_member e before (shows_contention S.header (members_of e before) d) || is_ended_so S.header e d before Fault
    || (is_enabled_for S d updates && is_ended_so S.header e d before (NotRegistered tt))

-- each device is held, or no member is attached to it, or something shows why it is not held
abbrev pub is_accounted : Setting → List Moment → Start → List (List ℕ) → ℕ → Bool
is_accounted S moments s updates d =
    has s.held d || (length (attached_members S.header d s.members) == 0) || is_not_held S s.epoch d updates (before_last (is_start s.epoch) moments)

abbrev pub IsAccounted : Setting → List Moment → Start → List (List ℕ) → Type 0
IsAccounted S moments s updates = list_all (is_accounted S moments s updates) (all_to (length S.header.devices)) ≡ true

abbrev pub AllAccounted : Setting → List Moment → Type 0
AllAccounted S moments = EachStart (IsAccounted S) moments

-- ---- Heartbeats: a node sends them in its ticks, to each other node that is configured in its own committed updates; one that is not
-- configured there itself sends them to each node that it heard since it went up

abbrev pub gets_heartbeat : (ℕ → Bool) → ℕ → List Moment → ℕ → Bool
gets_heartbeat configured n before m = not (m == n) && (if configured n then configured m else is_some (age_of n m before))

abbrev pub IsBeat : Setting → List Moment → ℕ → ℕ → Name → Type 0
IsBeat S before n m name.Heartbeat =
    (under_way before ≡ Some (Tick n)) × IfSome (configured_for S n before) (λ configured. gets_heartbeat configured n before m ≡ true)
IsBeat S before n m _ = Unit {0}

-- ---- together

abbrev pub HasCause : Setting → List Moment → Moment → Type 0
HasCause S before (attempt e members) = IsWanted S before e members
HasCause S before (ended_votes e have need lacking) = (is_under_way e before ≡ true) × IsShort S before e have need lacking
HasCause S before (ended_superseded e q) = (is_under_way e before ≡ true) × (stands_against e q before ≡ true)
HasCause S before (ended_silent e m) =
    (is_under_way e before ≡ true) × (under_way before ≡ Some (Tick (coordinator e))) × (is_silent S e m before ≡ true)
HasCause S before (ended_foreign e m) = (is_under_way e before ≡ true) × IsForeign S before e m
HasCause S before (ended_excluded e m) = (is_under_way e before ≡ true) × (is_excluded e m before ≡ true)
HasCause S before (start e members held count) = is_under_way e before ≡ true
HasCause S before (sent p n m called bytes) = IsBeat S before n m (named called)
HasCause S before _ = Unit {0}

abbrev pub Attempts : Setting → List Moment → Type 0
Attempts S moments = Always (HasCause S) moments
