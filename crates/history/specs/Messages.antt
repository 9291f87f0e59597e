-- Answers, of messages: those that are owed stand in the event that calls for them, unless the node that owes them goes down in it; and
-- all doings of nodes in one event are of one node.
use Rattle.std.specs.Prelude.{◌≡◌, ℕ, ◌+◌, ◌==◌, ◌&&◌, ◌||◌, not, Bool, true, false, if◌then◌else◌, List, [], ◌∷◌, length, Option, Some, None, is_some, IfSome}
use Rattle.std.specs.List.{list_any, list_all, AllByRecursion}
use Rattle.schedule_text.specs.declared.event.Event.{Event}
use Rattle.schedule_text.specs.declared.event.Event.TheVariants as event
use Rattle.status_report.specs.declared.entry.Entry.TheVariants as entry
use Rattle.status_report.specs.declared.call_entry.CallEntry.TheVariants as call
use Rattle.history.specs.Moment.{Moment, event_of}
use Rattle.history.specs.Moment.{Told}
use Rattle.history.specs.Names as name
use Rattle.history.specs.Names.{Name, named}
use Rattle.history.specs.Trace.{up, down, stopped, ticked, saved, installed, member, sent, delivered, device, accepted, refused, attempt, ended_votes, ended_superseded, ended_silent, ended_excluded, ended_foreign, start, base, adopt, propose, ack, asked, answered}
use Rattle.history.specs.Order.{EachEvent, since}
use Rattle.history.specs.Setting.{Setting, coordinator}
use Rattle.history.specs.Letters.{Letter, letter_of, sends, is_exchanged, reached_since, is_letter}
use Rattle.history.specs.Member.{member_of, members_of, session_of, number_of}
use Rattle.history.specs.Starts.{start_of, members_in}
use Rattle.history.specs.Seizing.{is_boot, is_start, is_number, or_else}
use Rattle.history.specs.Requests.{number_asked}
use Rattle.history.specs.Contact.{others, is_proposal}
use Rattle.history.specs.Queue.{queue_of, is_queued, has_work}
use Rattle.history.specs.Commands.{is_monitors, waits}

-- ---- entries

-- these entries, the oldest first, put on
abbrev pub onto : List Moment → List Moment → List Moment
onto before [] = before
onto before (x ∷ later) = onto (x ∷ before) later

abbrev pub is_down_of : ℕ → Moment → Bool
is_down_of n (down m why) = m == n
is_down_of n _ = false

-- n sends the message to m in these entries, or goes down
abbrev pub sends_or_falls : ℕ → ℕ → Name → List Moment → Bool
sends_or_falls n m called entries = list_any (λ x. sends n m called x || is_down_of n x) entries

-- ---- replies

-- two epochs are there, and are the same
abbrev pub are_same : Option ℕ → Option ℕ → Bool
are_same None f = false
are_same (Some e) f = is_number e f

-- the letter was sent by a member of the membership of which n is one
abbrev pub is_fellow : ℕ → Letter → List Moment → Bool
is_fellow n l before = are_same (member_of n before) (member_of l.from l.before)

-- n is in the session of the attempt in which the letter was sent, and no member yet
abbrev pub is_in_session : ℕ → Letter → List Moment → Bool
is_in_session n l before = are_same (session_of n before) (number_of l) && not (is_some (member_of n before))

-- what a letter that is delivered to n calls for, in these entries, with these moments before the event and these after it
abbrev pub replies : Setting → ℕ → Letter → Name → List Moment → List Moment → List Moment → Bool
replies S n l (name.Order k) before entries after = not (is_fellow n l before) || sends_or_falls n l.from (name.Done k) entries
replies S n l (name.Prepare v) before entries after = not (is_fellow n l before) || sends_or_falls n l.from (name.Prepared v) entries
replies S n l name.Collect before entries after = sends_or_falls n l.from name.Promise entries || sends_or_falls n l.from name.Nack entries
replies S n l (name.SeizeQuorum d) before entries after =
    not (is_in_session n l before) || is_queued S n d after || sends_or_falls n l.from (name.Seized d) entries
replies S n l (name.SeizeData d) before entries after =
    not (is_in_session n l before) || is_queued S n d after || sends_or_falls n l.from (name.Seized d) entries
replies S n l name.Install before entries after = not (is_in_session n l before) || has_work S n after || sends_or_falls n l.from name.Ready entries
replies S n l _ before entries after = true

abbrev pub replies_to : Setting → ℕ → Option Letter → List Moment → List Moment → List Moment → Bool
replies_to S n None before entries after = true
replies_to S n (Some l) before entries after = replies S n l l.name before entries after

abbrev pub RepliesTo : Setting → List Moment → Moment → List Moment → Type 0
RepliesTo S before x (delivered p a n ∷ later) =
    replies_to S n (letter_of p before) before (delivered p a n ∷ later) (onto (x ∷ before) (delivered p a n ∷ later)) ≡ true
RepliesTo S before x _ = Unit {0}

-- ---- what is owed after the last device command of a task

abbrev pub is_seize_of : ℕ → ℕ → List Moment → Letter → Bool
is_seize_of n d before l =
    (is_letter (name.SeizeQuorum d) l.from n l || is_letter (name.SeizeData d) l.from n l) && is_in_session n l before

abbrev pub is_install_of : ℕ → List Moment → Letter → Bool
is_install_of n before l = is_letter name.Install l.from n l && is_in_session n l before

-- a task of n on d ended in these entries
abbrev pub ended_task : Setting → List Moment → List Moment → ℕ → List ℕ → Option ℕ
ended_task S before after n [] = None
ended_task S before after n (d ∷ others) = if is_queued S n d after then None else Some d

-- the coordinator of a session
abbrev pub owner_of : Option ℕ → ℕ
owner_of None = 0
owner_of (Some e) = coordinator e

-- once the task is over, its Seized is sent; after an Install Ready is, when no task is left
abbrev pub ReportsTask : Setting → List Moment → ℕ → List Moment → List Moment → Option ℕ → Type 0
ReportsTask S before n entries after None = Unit {0}
ReportsTask S before n entries after (Some d) =
    ((not (reached_since (is_boot n) (is_seize_of n d before) before) || reached_since (is_boot n) (is_install_of n before) before
    || sends_or_falls n (owner_of (session_of n before)) (name.Seized d) entries) ≡ true)
    × ((not (reached_since (is_boot n) (is_install_of n before) before) || has_work S n after
    || sends_or_falls n (owner_of (session_of n before)) name.Ready entries) ≡ true)

abbrev pub ReportsDisk : Setting → List Moment → Moment → Option Event → List Moment → Type 0
ReportsDisk S before x (Some (event.Disk n)) entries =
    ReportsTask S before n entries (onto (x ∷ before) entries) (ended_task S before (onto (x ∷ before) entries) n (queue_of S n before))
ReportsDisk S before x _ entries = Unit {0}

-- ---- Prepares and Requests

abbrev pub EachProposal : List Moment → List Moment → List Moment → Type 0
EachProposal before entries [] = Unit {0}
EachProposal before entries (propose e v words ∷ later) =
    AllByRecursion (λ m. sends_or_falls (coordinator e) m (name.Prepare v) entries ≡ true) (others e (members_in (start_of e before)))
    × EachProposal before entries later
EachProposal before entries (x ∷ later) = EachProposal before entries later

-- ---- Installs: a coordinator that installs sends them at once, and where there is no other member the membership starts at once, or the
-- node stops in the save of that start

abbrev pub is_stop_of : ℕ → Moment → Bool
is_stop_of n (stopped m) = m == n
is_stop_of n _ = false

abbrev pub passes_on : ℕ → ℕ → List ℕ → List Moment → Bool
passes_on n e members_but_n entries =
    if length members_but_n == 0
    then list_any (λ x. is_start e x || is_stop_of n x) entries
    else list_all (λ m. list_any (sends n m name.Install) entries) members_but_n

abbrev pub EachInstall : List Moment → List Moment → List Moment → Type 0
EachInstall before entries [] = Unit {0}
EachInstall before entries (installed n e ∷ later) =
    ((not (n == coordinator e) || passes_on n e (others e (members_of e before)) entries) ≡ true) × EachInstall before entries later
EachInstall before entries (x ∷ later) = EachInstall before entries later

-- ---- what goes again

abbrev pub one_more : Option ℕ → Option ℕ
one_more None = None
one_more (Some k) = Some (k + 1)

-- how many ticks of n came since it last sent the message to m; None, where it sent none
abbrev pub ticks_since : ℕ → ℕ → Name → List Moment → Option ℕ
ticks_since n m called [] = None
ticks_since n m called (sent p a b found bytes ∷ before) = if sends n m called (sent p a b found bytes) then Some 0 else ticks_since n m called before
ticks_since n m called (ticked k ∷ before) = if k == n then one_more (ticks_since n m called before) else ticks_since n m called before
ticks_since n m called (_ ∷ before) = ticks_since n m called before

-- the update that a president has proposed and not acknowledged, by its place
abbrev pub pending_place : ℕ → List Moment → Option ℕ
pending_place e [] = None
pending_place e (propose f v words ∷ before) = if f == e then Some v else pending_place e before
pending_place e (ack f v words ∷ before) = if f == e then None else pending_place e before
pending_place e (_ ∷ before) = pending_place e before

abbrev pub is_fourth : Option ℕ → Bool
is_fourth None = false
is_fourth (Some k) = k == 3

-- a Prepare that lacks its Prepared goes again at each fourth tick of a president that is still a member
abbrev pub prepares_again : ℕ → ℕ → Option ℕ → List Moment → List Moment → ℕ → Bool
prepares_again c e None before entries m = true
prepares_again c e (Some v) before entries m =
    not (is_fourth (ticks_since c m (name.Prepare v) before))
    || is_exchanged (name.Prepare v) (name.Prepared v) c m (since (is_proposal e v) before)
    || sends_or_falls c m (name.Prepare v) entries

abbrev pub Again : ℕ → Option ℕ → List Moment → List Moment → Type 0
Again c None before entries = Unit {0}
Again c (Some e) before entries =
    list_all (prepares_again c e (pending_place e before) before entries) (others e (if coordinator e == c then members_in (start_of e before) else 0)) ≡ true

abbrev pub PreparesAgain : List Moment → Option Event → List Moment → Type 0
PreparesAgain before (Some (event.Tick n)) entries = Again n (member_of n before) before entries
PreparesAgain before _ entries = Unit {0}

abbrev pub older : Option ℕ → Bool → ℕ → Option ℕ
older (Some q) waiting r = Some q
older None true r = Some r
older None false r = None

-- the oldest command of n since it went up that is not answered
abbrev pub oldest_waiting : ℕ → List Moment → List Moment → Option ℕ
oldest_waiting n whole [] = None
oldest_waiting n whole (up m ∷ before) = if m == n then None else oldest_waiting n whole before
oldest_waiting n whole (asked m q ∷ before) = older (oldest_waiting n whole before) ((m == n) && waits n q whole) q
oldest_waiting n whole (_ ∷ before) = oldest_waiting n whole before

-- A command of a member other than the president goes to it in the event in which it becomes the oldest that waits. (Where a monitor
-- asked since the node went up, that is left to the part on resource groups.)
abbrev pub requests : ℕ → Option ℕ → Option ℕ → Option ℕ → List Moment → Bool
requests n (Some e) (Some q) old entries =
    (coordinator e == n) || is_number q old || sends_or_falls n (coordinator e) (name.Request q) entries
requests n _ _ old entries = true

abbrev pub RequestsOf : List Moment → List Moment → List Moment → ℕ → Type 0
RequestsOf before entries after n =
    (list_any (is_monitors n) (since (is_boot n) after)
    || requests n (member_of n after) (oldest_waiting n after after) (oldest_waiting n before before) entries) ≡ true

-- the oldest changes only where a command is asked or answered
abbrev pub EachRequest : List Moment → List Moment → List Moment → List Moment → Type 0
EachRequest before entries after [] = Unit {0}
EachRequest before entries after (asked n q ∷ later) = RequestsOf before entries after n × EachRequest before entries after later
EachRequest before entries after (answered n q reply ∷ later) = RequestsOf before entries after n × EachRequest before entries after later
EachRequest before entries after (x ∷ later) = EachRequest before entries after later

-- ---- a Request that lacks its Answer goes again

abbrev pub is_membership_of : ℕ → Moment → Bool
is_membership_of n (member m e) = m == n
is_membership_of n _ = false

-- the number of the last Request that n sent
abbrev pub last_request : ℕ → List Moment → Option ℕ
last_request n [] = None
last_request n (sent p m b called bytes ∷ before) = if m == n then or_else (number_asked (named called)) (last_request n before) else last_request n before
last_request n (_ ∷ before) = last_request n before

-- among the moments since n became a member under the president c: the Request went out three ticks ago, so this is the fourth, and its
-- Answer did not come
abbrev pub asks_again : ℕ → ℕ → Option ℕ → List Moment → List Moment → Bool
asks_again n c None moments entries = true
asks_again n c (Some q) moments entries =
    not (is_fourth (ticks_since n c (name.Request q) moments)) || is_exchanged (name.Request q) (name.Answer q) n c moments
    || sends_or_falls n c (name.Request q) entries

abbrev pub RequestsAgain : List Moment → Option Event → List Moment → Type 0
RequestsAgain before (Some (event.Tick n)) entries =
    IfSome (member_of n before) (λ e. asks_again n (coordinator e) (last_request n (since (is_membership_of n) before)) (since (is_membership_of n) before) entries ≡ true)
RequestsAgain before _ entries = Unit {0}

-- ---- one node

-- the node whose doing an entry is
abbrev pub actor_of : Moment → Option ℕ
actor_of (up n) = Some n
actor_of (down n why) = Some n
actor_of (ticked n) = Some n
actor_of (saved n) = Some n
actor_of (installed n e) = Some n
actor_of (member n e) = Some n
actor_of (sent p a b called bytes) = Some a
actor_of (delivered p a b) = Some b
actor_of (device n d command reply) = Some n
actor_of (accepted e n d value) = Some n
actor_of (refused n d value why) = Some n
actor_of (attempt e members) = Some (coordinator e)
actor_of (ended_votes e have need lacking) = Some (coordinator e)
actor_of (ended_superseded e q) = Some (coordinator e)
actor_of (ended_silent e m) = Some (coordinator e)
actor_of (ended_excluded e m) = Some (coordinator e)
actor_of (ended_foreign e m) = Some (coordinator e)
actor_of (start e members held count) = Some (coordinator e)
actor_of (base e v words) = Some (coordinator e)
actor_of (adopt e n resource flags) = Some (coordinator e)
actor_of (propose e v words) = Some (coordinator e)
actor_of (ack e v words) = Some (coordinator e)
actor_of (Told (entry.Call (call.Called e n method resource))) = Some n
actor_of (Told (entry.Call (call.Done e n method resource outcome))) = Some n
actor_of (Told (entry.Call (call.Probed n resource result))) = Some n
actor_of (asked n q) = Some n
actor_of (answered n q reply) = Some n
actor_of _ = None

abbrev pub is_of : ℕ → Option ℕ → Bool
is_of n None = true
is_of n (Some m) = m == n

-- all entries are one node's, or nobody's
abbrev pub are_of_one : Option ℕ → List Moment → Bool
are_of_one None [] = true
are_of_one None (x ∷ later) = are_of_one (actor_of x) later
are_of_one (Some n) later = list_all (λ x. is_of n (actor_of x)) later

-- ---- together

pub record Owes (S : Setting) (before : List Moment) (x : Moment) (entries : List Moment) : Type 0 where
  pub replies : RepliesTo S before x entries
  pub reports : ReportsDisk S before x (event_of x) entries
  pub prepares : EachProposal before entries entries
  pub installs : EachInstall before entries entries
  pub prepares_again : PreparesAgain before (event_of x) entries
  pub requests : EachRequest before entries (onto (x ∷ before) entries) entries
  pub requests_again : RequestsAgain before (event_of x) entries
  pub one_node : are_of_one None entries ≡ true

abbrev pub Messages : Setting → List Moment → Type 0
Messages S moments = EachEvent (Owes S) moments
