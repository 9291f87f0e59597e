-- Refusals: what the president answers to a request, over the configuration in force, what it knows, the members and the held devices, as it
-- takes the request up; and `queue-full`, where requests of monitors count too.
use Rattle.std.specs.Prelude.{◌≡◌, ℕ, ◌==◌, ◌&&◌, ◌||◌, not, Bool, true, false, if◌then◌else◌, List, ◌++◌, Option, Some, None, Result, Ok, Err, codes, slice_get}
use Rattle.std.specs.List.{list_any}
use Rattle.admin_commands.specs.Answers.{answer_to}
use Rattle.admin_commands.specs.declared.accepted.Accepted.{Accepted}
use Rattle.admin_commands.specs.declared.error.CheckError.{CheckError}
use Rattle.admin_commands.specs.declared.error.CheckError.TheVariants as because
use Rattle.ccr_tables.specs.declared.command.AdminCommand.{AdminCommand}
use Rattle.ccr_tables.specs.declared.command.AdminCommand.TheVariants.{Change, Act}
use Rattle.cl_base.specs.declared.command.Ask.TheVariants.{Restart, Move}
use Rattle.schedule_text.specs.declared.event.Event.TheVariants as event
use Rattle.schedule_text.specs.declared.line.Line.TheVariants as line
use Rattle.status_report.specs.declared.command_entry.Answer.TheVariants as answer
use Rattle.history.specs.Moment.{Moment, Said}
use Rattle.history.specs.Names as name
use Rattle.history.specs.Names.{Name, named}
use Rattle.history.specs.Trace.{sent, propose, ack, answered}
use Rattle.history.specs.Order.{Always, EachEvent, so_far}
use Rattle.history.specs.Setting.{coordinator}
use Rattle.history.specs.Letters.{says, text_in}
use Rattle.history.specs.Member.{member_of}
use Rattle.history.specs.Starts.{start_of, members_in}
use Rattle.history.specs.Deeds.{deeds, in_force}
use Rattle.history.specs.Contents.{answer_text}
use Rattle.history.specs.Requests.{same_words, are_words}
use Rattle.group_history.specs.Setting.{Groups, config_of}
use Rattle.group_history.specs.Desk.{Request, desk_of, has_room, is_request}
use Rattle.group_history.specs.KnownMap.{known_of}
use Rattle.group_history.specs.Queries.{held_in}
use Rattle.group_history.specs.Sending.{all_free}

-- what is checked of a request that is taken up after these moments
abbrev pub checked : Groups → ℕ → AdminCommand → List Moment → Result Accepted CheckError
checked S e command before =
    answer_to (config_of S e before) (known_of S e before) (members_in (start_of e before)) (held_in (start_of e before)) (S.length (in_force e (deeds before))) command

-- ---- an update is proposed where it is accepted: it is that of the first request that has come, and no Order lacks its Done

abbrev pub accepts_command : Result Accepted CheckError → Bool
accepts_command (Ok a) = true
accepts_command (Err e) = false

abbrev pub accepts : Groups → ℕ → List Moment → Option AdminCommand → Bool
accepts S e before None = false
accepts S e before (Some command) = accepts_command (checked S e command before)

-- the request of these words is the first of those that have come
abbrev pub are_first : List ℕ → Option Request → Bool
are_first words None = false
are_first words (Some r) = same_words r.words words

pub record IsTakenUp (S : Groups) (e : ℕ) (words : List ℕ) (before : List Moment) : Type 0 where
  pub accepted : accepts S e before (S.command words) ≡ true
  pub first : are_first words (slice_get (desk_of S (coordinator e) before).come 0) ≡ true
  pub free : all_free e before ≡ true

abbrev pub IsProposal : Groups → List Moment → Moment → Type 0
IsProposal S before (propose e v words) = IsTakenUp S e words before
IsProposal S before _ = Unit {0}

abbrev pub Proposals : Groups → List Moment → Type 0
Proposals S moments = Always (IsProposal S) moments

-- ---- each answer of the president

abbrev pub ok_text : List ℕ
ok_text = codes "ok"

abbrev pub text_of : Groups → Result Accepted CheckError → Option (List ℕ)
text_of S (Ok a) = Some ok_text
text_of S (Err (because.Refused refusal)) = Some (codes "refused " ++ S.cluster.refusal_text refusal)
text_of S (Err because.NoMemory) = None

abbrev pub is_ack_of : ℕ → List ℕ → Moment → Bool
is_ack_of e words (ack f v found) = (f == e) && same_words found words
is_ack_of e words _ = false

-- An update has its answer where it is acknowledged in this event, or where it is refused; one that is accepted has none before that.
abbrev pub unless_accepted : Groups → Result Accepted CheckError → Option (List ℕ)
unless_accepted S (Ok a) = None
unless_accepted S (Err e) = text_of S (Err e)

abbrev pub text_due : Groups → ℕ → List Moment → List ℕ → Option AdminCommand → Option (List ℕ)
text_due S e before words (Some (Change u)) =
    if list_any (is_ack_of e words) (so_far before) then Some ok_text else unless_accepted S (checked S e (Change u) before)
text_due S e before words (Some command) = text_of S (checked S e command before)
text_due S e before words None = None

-- what a monitor asks of a resource that is gone may be answered `ok` too
abbrev pub is_monitors : Option AdminCommand → Bool
is_monitors (Some (Act (Restart r))) = true
is_monitors (Some (Act (Move r))) = true
is_monitors _ = false

abbrev pub fits : Groups → ℕ → List Moment → List ℕ → Request → Bool
fits S e before text r =
    are_words text (text_due S e before r.words (S.command r.words)) || (is_monitors (S.command r.words) && same_words text ok_text)

-- it is the answer to the first request that has come
abbrev pub answers_first : Groups → ℕ → List Moment → ℕ → ℕ → List ℕ → Option Request → Bool
answers_first S e before m q text None = false
answers_first S e before m q text (Some r) = is_request m q r && fits S e before text r

-- a repeated answer is none of a request that waits
abbrev pub is_due : Groups → ℕ → ℕ → List Moment → ℕ → Option (List ℕ) → Bool
is_due S e m before q None = true
is_due S e m before q (Some text) =
    not (list_any (is_request m q) (desk_of S (coordinator e) before).come)
    || answers_first S e before m q text (slice_get (desk_of S (coordinator e) before).come 0)

abbrev pub is_due_by : Groups → Option ℕ → ℕ → ℕ → List Moment → ℕ → Option (List ℕ) → Bool
is_due_by S None c m before q text = true
is_due_by S (Some e) c m before q text = not (coordinator e == c) || is_due S e m before q text

abbrev pub IsAnswerOf : Groups → List Moment → ℕ → ℕ → List ℕ → Name → Type 0
IsAnswerOf S before c m bytes (name.Answer q) = is_due_by S (member_of c before) c m before q (text_in (says bytes)) ≡ true
IsAnswerOf S before c m bytes _ = Unit {0}

abbrev pub IsAnswerDue : Groups → List Moment → Moment → Type 0
IsAnswerDue S before (answered n q reply) = is_due_by S (member_of n before) n n before q (answer_text S.cluster reply) ≡ true
IsAnswerDue S before (sent p c m called bytes) = IsAnswerOf S before c m bytes (named called)
IsAnswerDue S before _ = Unit {0}

abbrev pub AnswersAreDue : Groups → List Moment → Type 0
AnswersAreDue S moments = Always (IsAnswerDue S) moments

-- ---- `queue-full`: exactly where 64 requests of the node wait

abbrev pub is_full_answer : Moment → Bool
is_full_answer (answered n q answer.QueueFull) = true
is_full_answer _ = false

abbrev pub is_full_for : Groups → ℕ → List Moment → Option (List ℕ) → Option ℕ → Bool
is_full_for S n before (Some words) (Some e) = not (S.cluster.is_query words && not (coordinator e == n)) && not (has_room n (desk_of S n before))
is_full_for S n before _ _ = false

abbrev pub IsFull : Groups → List Moment → Moment → List Moment → Type 0
IsFull S before (Said (line.Event (event.Command n words))) entries =
    list_any is_full_answer entries ≡ is_full_for S n before (S.cluster.canonical words) (member_of n before)
IsFull S before _ entries = Unit {0}

abbrev pub FullQueues : Groups → List Moment → Type 0
FullQueues S moments = EachEvent (IsFull S) moments
