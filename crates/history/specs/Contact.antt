-- Contact: nothing that takes part of another node comes about without the messages that tell of it. Each line is judged where it stands,
-- by what was before it.
use Rattle.std.specs.Prelude.{◌≡◌, ◌||◌, not, ◌==◌, ℕ, ◌&&◌, Bool, true, false, List, is_some, IfSome}
use Rattle.std.specs.List.{list_any, filter, AllByRecursion}
use Rattle.cl_base.specs.declared.header.Header.{Header}
use Rattle.quorum_votes.specs.Quorum.{IsMajority}
use Rattle.history.specs.Moment.{Moment}
use Rattle.history.specs.Names as name
use Rattle.history.specs.Names.{Name, named}
use Rattle.history.specs.Trace.{attempt, start, installed, member, sent, propose, ack}
use Rattle.history.specs.Order.{Always}
use Rattle.history.specs.Setting.{Setting, coordinator, nodes_of, devices_of}
use Rattle.history.specs.Letters.{Letter, arrived, passes, is_letter, reached}
use Rattle.history.specs.Member.{members_of, attempt_of, number_of}
use Rattle.history.specs.Starts.{Start, EachStart, start_of, is_started, members_in}
use Rattle.history.specs.Seizing.{is_attempt, is_number, seizing_of}

-- the members but the coordinator of e
abbrev pub others : ℕ → ℕ → List ℕ
others e members = filter (λ m. not (m == coordinator e)) (nodes_of members)

-- a message that the coordinator of e sent to n, with e as its last attempt
abbrev pub is_message_of : ℕ → Name → ℕ → Letter → Bool
is_message_of e called n l = is_letter called (coordinator e) n l && is_number e (number_of l)

-- such a message has come to n
abbrev pub came : ℕ → Name → ℕ → List Moment → Bool
came e called n before = reached (is_message_of e called n) before

-- m sent this to the coordinator of e after that had come to it, and it has come
abbrev pub has_answered : ℕ → Name → Name → ℕ → List Moment → Bool
has_answered e question reply m before = reached (λ l. is_letter reply m (coordinator e) l && came e question m l.before) before

-- ---- Attempt: no number is tried twice

abbrev pub IsNew : List Moment → Moment → Type 0
IsNew before (attempt e members) = list_any (is_attempt e) before ≡ false
IsNew before _ = Unit {0}

abbrev pub AttemptsDiffer : List Moment → Type 0
AttemptsDiffer moments = Always IsNew moments

-- ---- Start: each other member was sent an Install, and its Ready was sent after that came

abbrev pub IsReady : List Moment → Moment → Type 0
IsReady before (start e members held count) =
    (list_any (is_attempt e) before ≡ true) × (members_of e before ≡ members)
    × AllByRecursion (λ m. has_answered e name.Install name.Ready m before ≡ true) (others e members)
IsReady before _ = Unit {0}

abbrev pub Ready : List Moment → Type 0
Ready moments = Always IsReady moments

-- ---- Install: a node other than the coordinator installs e in the event in which an Install of e comes to it

abbrev pub IsInstalled : List Moment → Moment → Type 0
IsInstalled before (installed n e) = ((n == coordinator e) || passes (is_message_of e name.Install n) (arrived before)) ≡ true
IsInstalled before _ = Unit {0}

abbrev pub Installed : List Moment → Type 0
Installed moments = Always IsInstalled moments

-- ---- Held: each device that a start holds was seized for it

abbrev pub IsHeld : Header → List Moment → Moment → Type 0
IsHeld h before (start e members held count) = AllByRecursion (λ d. is_some (seizing_of h e d before) ≡ true) (devices_of held)
IsHeld h before _ = Unit {0}

abbrev pub Held : Header → List Moment → Type 0
Held h moments = Always (IsHeld h) moments

-- ---- Votes: the members and the devices held have a majority, by the configuration of the base

abbrev pub IsVoted : Setting → List Moment → Start → List (List ℕ) → Type 0
IsVoted S moments s updates = IsMajority (S.votes updates) s.members s.held

abbrev pub HasVotes : Setting → List Moment → Type 0
HasVotes S moments = EachStart (IsVoted S) moments

-- ---- Ack: each other member prepared before an update is acknowledged, and was asked to after it was proposed

abbrev pub is_proposal : ℕ → ℕ → Moment → Bool
is_proposal e v (propose f w words) = (f == e) && (w == v)
is_proposal e v _ = false

abbrev pub IsProposed : List Moment → ℕ → Name → Type 0
IsProposed before c (name.Prepare v) = IfSome (attempt_of c before) (λ e. list_any (is_proposal e v) before ≡ true)
IsProposed before c _ = Unit {0}

abbrev pub IsPrepared : List Moment → Moment → Type 0
IsPrepared before (ack e v words) =
    (list_any (is_proposal e v) before ≡ true)
    × AllByRecursion (λ m. has_answered e (name.Prepare v) (name.Prepared v) m before ≡ true) (others e (members_in (start_of e before)))
IsPrepared before (sent p c m called bytes) = IsProposed before c (named called)
IsPrepared before _ = Unit {0}

abbrev pub Prepared : List Moment → Type 0
Prepared moments = Always IsPrepared moments

-- ---- Member: a node other than the coordinator was sent a Start, which was sent after the `start` line

abbrev pub IsOfStart : List Moment → ℕ → Name → Type 0
IsOfStart before c name.Start = IfSome (attempt_of c before) (λ e. is_started e before ≡ true)
IsOfStart before c _ = Unit {0}

abbrev pub IsTold : List Moment → Moment → Type 0
IsTold before (member n e) = (is_started e before ≡ true) × (((n == coordinator e) || came e name.Start n before) ≡ true)
IsTold before (sent p c m called bytes) = IsOfStart before c (named called)
IsTold before _ = Unit {0}

abbrev pub ToldMembers : List Moment → Type 0
ToldMembers moments = Always IsTold moments
