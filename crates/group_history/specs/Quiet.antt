-- Quiet status: where nothing is under way, no further call is allowed, and a status shows nothing as pending.
use Rattle.std.specs.Prelude.{◌≡◌, ℕ, ◌+◌, ◌==◌, ◌&&◌, ◌||◌, nat_le, Bool, true, false, if◌then◌else◌, List, [], ◌∷◌, Option, Some, is_none, is_some, length, slice_get}
use Rattle.std.specs.List.{list_all}
use Rattle.std.specs.Option.{option_and_then}
use Rattle.ccr_tables.specs.declared.command.AdminCommand.{AdminCommand}
use Rattle.ccr_tables.specs.declared.command.AdminCommand.TheVariants.{Status}
use Rattle.cl_base.specs.declared.command.Query.TheVariants.{GroupStatus}
use Rattle.cl_base.specs.declared.method.Method.{Method}
use Rattle.rgm_president.specs.Decisions.{call_on}
use Rattle.rgm_president.specs.Sequence.{sequence}
use Rattle.schedule_text.specs.declared.event.Event.TheVariants as event
use Rattle.schedule_text.specs.declared.line.Line.TheVariants as line
use Rattle.history.specs.Moment.{Moment, Said}
use Rattle.history.specs.Names as name
use Rattle.history.specs.Names.{Name, named}
use Rattle.history.specs.Trace.{member, sent, propose, ack, asked, answered, clock_stands}
use Rattle.history.specs.Order.{EachEvent}
use Rattle.history.specs.Setting.{coordinator, nodes_of}
use Rattle.history.specs.Member.{member_of}
use Rattle.history.specs.Starts.{start_of, members_in}
use Rattle.history.specs.Messages.{pending_place}
use Rattle.group_history.specs.Setting.{Groups, config_of, second_of}
use Rattle.group_history.specs.Doings.{done, probed, is_tick_of}
use Rattle.group_history.specs.Orders.{learned}
use Rattle.group_history.specs.Sending.{all_free}
use Rattle.group_history.specs.Desk.{desk_of, has_room}
use Rattle.group_history.specs.KnownMap.{known_of}
use Rattle.group_history.specs.Queries.{Asking, Shows, group_lines, config_asked, view_asked}

-- An order to the president itself is told by no line. It is given at a decision, and called at the next tick. So there is none where the president has
-- ticked since anything was decided anew, and no call is allowed on it now; and none after a second such tick, in which it would have called.

abbrev pub is_answer : Name → Bool
is_answer (name.Answer q) = true
is_answer _ = false

abbrev pub is_change : ℕ → List Moment → Moment → Bool
is_change e before (member n f) = f == e
is_change e before (done f n method r outcome) = f == e
is_change e before (propose f v words) = f == e
is_change e before (ack f v words) = f == e
is_change e before (answered n q reply) = n == coordinator e
is_change e before (sent p n m message bytes) = (n == coordinator e) && is_answer (named message)
is_change e before (probed n r result) = n == coordinator e
is_change e before (clock_stands s) = true
is_change e before x = is_some (learned e before x)

-- how many ticks of the president came since
abbrev pub ticks_since_change : ℕ → List Moment → ℕ
ticks_since_change e [] = 0
ticks_since_change e (x ∷ before) =
    if is_change e before x then 0 else if is_tick_of (coordinator e) x then ticks_since_change e before + 1 else ticks_since_change e before

-- the first call that is allowed on the node, where no order is outstanding
abbrev pub call_for : Groups → ℕ → List Moment → ℕ → Option (List ℕ × Method)
call_for S e before n = call_on (config_of S e before) (sequence (config_of S e before).groups) (known_of S e before) n

abbrev pub has_none_after : ℕ → Bool → Bool
has_none_after ticks is_settled = nat_le 2 ticks || (nat_le 1 ticks && is_settled)

abbrev pub has_no_own : Groups → ℕ → List Moment → Bool
has_no_own S e before = has_none_after (ticks_since_change e before) (is_none (call_for S e before (coordinator e)))

-- ---- a quiet place: no Order lacks its Done, no order to the president waits, no update is pending, no request waits, and the president has decided since
-- the clock stands where it stands

abbrev pub has_decided : Groups → ℕ → List Moment → Bool
has_decided S e before = (known_of S e before).now == second_of before

abbrev pub is_quiet : Groups → ℕ → List Moment → Bool
is_quiet S e before =
    all_free e before && has_no_own S e before && is_none (pending_place e before)
    && (length (desk_of S (coordinator e) before).come == 0) && has_decided S e before

-- no call is allowed on any member
abbrev pub is_idle : Groups → ℕ → List Moment → Bool
is_idle S e before = list_all (λ n. is_none (call_for S e before n)) (nodes_of (members_in (start_of e before)))

-- nothing of a group moves
abbrev pub still : List ℕ → ℕ → Bool
still group n = false

pub record IsAtRest (a : Asking) (entries : List Moment) : Type 0 where
  pub idle : is_idle a.groups a.epoch a.before ≡ true
  pub shown : Shows a (group_lines (config_asked a) (view_asked a) still) entries

abbrev pub IfQuiet : Bool → Asking → List Moment → Type 0
IfQuiet false a entries = Unit {0}
IfQuiet true a entries = IsAtRest a entries

abbrev pub is_group_status : Option AdminCommand → Bool
is_group_status (Some (Status GroupStatus)) = true
is_group_status _ = false

abbrev pub RestsAsked : Groups → List Moment → ℕ → List ℕ → List Moment → Option ℕ → Option Moment → Type 0
RestsAsked S before n words entries (Some e) (Some (asked m q)) =
    IfQuiet
    (is_group_status (option_and_then S.command (S.cluster.canonical words)) && (coordinator e == n) && has_room n (desk_of S n before)
    && is_quiet S e before)
    (record { groups = S; epoch = e; before = before; node = n; number = q })
    entries
RestsAsked S before n words entries _ _ = Unit {0}

abbrev pub IsQuietStatus : Groups → List Moment → Moment → List Moment → Type 0
IsQuietStatus S before (Said (line.Event (event.Command n words))) entries =
    RestsAsked S before n words entries (member_of n before) (slice_get entries 0)
IsQuietStatus S before _ entries = Unit {0}

abbrev pub QuietStatus : Groups → List Moment → Type 0
QuietStatus S moments = EachEvent (IsQuietStatus S) moments
