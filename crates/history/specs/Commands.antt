-- Answers, of commands: what a node answers by itself, and when an answer is `unknown`. What the president answers over the
-- configuration belongs to the part on resource groups.
use Rattle.std.specs.Prelude.{◌≡◌, ◌⊎◌, ◌≤◌, ℕ, ◌+◌, ◌==◌, ◌&&◌, not, nat_le, Bool, true, false, if◌then◌else◌, List, [], ◌∷◌, Option, Some, None, slice_get, MatchOption}
use Rattle.std.specs.List.{list_any, count_by}
use Rattle.schedule_text.specs.declared.event.Event.TheVariants as event
use Rattle.schedule_text.specs.declared.line.Line.TheVariants as line
use Rattle.status_report.specs.declared.entry.Entry.TheVariants as entry
use Rattle.status_report.specs.declared.call_entry.CallEntry.TheVariants as call
use Rattle.status_report.specs.declared.call_entry.ProbeResult.TheVariants as result
use Rattle.status_report.specs.declared.command_entry.Answer.{Answer}
use Rattle.status_report.specs.declared.command_entry.Answer.TheVariants as answer
use Rattle.history.specs.Moment.{Moment, Said, Told}
use Rattle.history.specs.Trace.{asked, answered, up}
use Rattle.history.specs.Order.{Always, EachEvent, since, so_far}
use Rattle.history.specs.Setting.{Setting, coordinator}
use Rattle.history.specs.Member.{is_up, member_of}
use Rattle.history.specs.Seizing.{is_boot}
use Rattle.history.specs.Requests.{is_asking, before_asking}

-- ---- numbers of requests

-- the number of the last command of n since it went up
abbrev pub last_number : ℕ → List Moment → ℕ
last_number n [] = 0
last_number n (up m ∷ before) = if m == n then 0 else last_number n before
last_number n (asked m q ∷ before) = if m == n then q else last_number n before
last_number n (_ ∷ before) = last_number n before

-- whether a monitor of n asked, which takes a number too and writes no `asked` line
abbrev pub is_monitors : ℕ → Moment → Bool
is_monitors n (Told (entry.Call (call.Probed m resource result.Restart))) = m == n
is_monitors n (Told (entry.Call (call.Probed m resource result.Move))) = m == n
is_monitors n _ = false

abbrev pub is_asked_by : ℕ → Moment → Bool
is_asked_by n (asked m q) = m == n
is_asked_by n _ = false

abbrev pub is_answered_to : ℕ → ℕ → Moment → Bool
is_answered_to n q (answered m r reply) = (m == n) && (r == q)
is_answered_to n q _ = false

-- the next number, or a greater one where a monitor asked since the last command
abbrev pub IsNumbered : ℕ → ℕ → List Moment → Type 0
IsNumbered n q before =
    (last_number n before + 1 ≤ q)
    × ((q ≡ last_number n before + 1) ⊎ (list_any (is_monitors n) (since (is_asked_by n) (since (is_boot n) before)) ≡ true))

-- whether the command waits: it was asked since the node went up, and is not answered
abbrev pub waits : ℕ → ℕ → List Moment → Bool
waits n q before = list_any (is_asking n q) (since (is_boot n) before) && not (list_any (is_answered_to n q) (since (is_asking n q) before))

-- how many commands of n wait
abbrev pub is_waiting_one : ℕ → List Moment → Moment → Bool
is_waiting_one n later (asked m q) = (m == n) && not (list_any (is_answered_to n q) later)
is_waiting_one n later _ = false

abbrev pub count_waiting : ℕ → List Moment → ℕ
count_waiting n before = count_by (is_waiting_one n (since (is_boot n) before)) (since (is_boot n) before)

abbrev pub count_monitors : ℕ → List Moment → ℕ
count_monitors n before = count_by (is_monitors n) (since (is_boot n) before)

-- ---- what a node answers by itself

pub data Own : Type 0 where
  -- the words are no command's
  BadWords : Own
  -- the node is no member
  Stranger : Own
  -- it is a query, and this node is the president
  Elsewhere : (president : ℕ) → Own
  -- 64 requests wait
  Full : Own
  -- that may be, for requests of monitors may wait too
  MayBeFull : Own
  -- the node takes the command
  Taken : Own

abbrev pub full : ℕ → ℕ → Own
full commands monitors = if nat_le 64 commands then Full else (if nat_le 64 (commands + monitors) then MayBeFull else Taken)

-- the first that fits
abbrev pub own_case : Setting → List Moment → ℕ → Option (List ℕ) → Option ℕ → Own
own_case S before n None membership = BadWords
own_case S before n (Some words) None = Stranger
own_case S before n (Some words) (Some e) =
    if S.is_query words && not (coordinator e == n) then Elsewhere (coordinator e) else full (count_waiting n before) (count_monitors n before)

abbrev pub is_word_error : Answer → Bool
is_word_error answer.UnknownCommand = true
is_word_error answer.MissingOperand = true
is_word_error answer.BadValue = true
is_word_error _ = false

abbrev pub is_own_answer : Answer → Bool
is_own_answer answer.UnknownCommand = true
is_own_answer answer.MissingOperand = true
is_own_answer answer.BadValue = true
is_own_answer answer.NotMember = true
is_own_answer (answer.Ask c) = true
is_own_answer answer.QueueFull = true
is_own_answer _ = false

abbrev pub has_own_answer : Moment → Bool
has_own_answer (answered n q reply) = is_own_answer reply
has_own_answer _ = false

-- of the errors in words the first that fits
abbrev pub FitsOwn : Setting → List ℕ → Own → ℕ → ℕ → List Moment → Type 0
FitsOwn S words BadWords n q entries = (is_word_error (S.word_error words) ≡ true) × (entries ≡ asked n q ∷ answered n q (S.word_error words) ∷ [])
FitsOwn S words Stranger n q entries = entries ≡ asked n q ∷ answered n q answer.NotMember ∷ []
FitsOwn S words (Elsewhere c) n q entries = entries ≡ asked n q ∷ answered n q (answer.Ask c) ∷ []
FitsOwn S words Full n q entries = entries ≡ asked n q ∷ answered n q answer.QueueFull ∷ []
FitsOwn S words MayBeFull n q entries = (entries ≡ asked n q ∷ answered n q answer.QueueFull ∷ []) ⊎ (list_any has_own_answer entries ≡ false)
FitsOwn S words Taken n q entries = list_any has_own_answer entries ≡ false

-- a query at the president is answered in its event
abbrev pub is_own_query : Setting → ℕ → Option (List ℕ) → Option ℕ → Own → Bool
is_own_query S n (Some words) (Some e) Taken = S.is_query words && (coordinator e == n)
is_own_query S n _ _ _ = false

abbrev pub AnswersQuery : Bool → ℕ → ℕ → List Moment → Type 0
AnswersQuery true n q entries = list_any (is_answered_to n q) entries ≡ true
AnswersQuery false n q entries = Unit {0}

abbrev pub number_in : Option Moment → Option ℕ
number_in (Some (asked n q)) = Some q
number_in _ = None

-- the command of this number, which n deals with in this way
pub record TakesCommand (S : Setting) (before : List Moment) (n : ℕ) (words : List ℕ) (entries : List Moment) (own : Own) (number : ℕ) : Type 0 where
  pub numbered : IsNumbered n number before
  pub own_answer : FitsOwn S words own n number entries
  pub query : AnswersQuery (is_own_query S n (S.canonical words) (member_of n before) own) n number entries

abbrev pub IfUp : Bool → Type 0 → Type 0
IfUp true P = P
IfUp false P = Unit {0}

abbrev pub CommandIsTaken : Setting → List Moment → Moment → List Moment → Type 0
CommandIsTaken S before (Said (line.Event (event.Command n words))) entries =
    IfUp (is_up n before) (MatchOption (number_in (slice_get entries 0)) ⊥ (TakesCommand S before n words entries (own_case S before n (S.canonical words) (member_of n before))))
CommandIsTaken S before _ entries = Unit {0}

-- ---- at each answer

abbrev pub differs : Option ℕ → Option ℕ → Bool
differs (Some e) (Some f) = not (e == f)
differs _ _ = true

abbrev pub IsAnswer : List Moment → Moment → Type 0
IsAnswer before (answered n q answer.Unknown) =
    (waits n q before ≡ true) × (differs (member_of n (before_asking n q before)) (member_of n before) ≡ true)
-- an answer of the node itself stands in the event of its `asked` line
IsAnswer before (answered n q reply) =
    (waits n q before ≡ true) × ((is_own_answer reply ≡ false) ⊎ (list_any (is_asking n q) (so_far before) ≡ true))
IsAnswer before _ = Unit {0}

abbrev pub AnswersOnce : List Moment → Type 0
AnswersOnce moments = Always IsAnswer moments

abbrev pub CommandsAreTaken : Setting → List Moment → Type 0
CommandsAreTaken S moments = EachEvent (CommandIsTaken S) moments
