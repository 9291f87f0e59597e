-- What the lines show of calls and probes that have a part in reasons: start failures and moves as they are charged to groups, with their seconds,
-- calls that could not stop a resource, and evacuations.
use Rattle.std.specs.Prelude.{ℕ, ◌==◌, ◌&&◌, ◌||◌, not, nat_le, Bool, true, false, if◌then◌else◌, List, [], ◌∷◌, ◌++◌, Option, Some, None}
use Rattle.std.specs.List.{list_any}
use Rattle.std.specs.Str.{bytes_eq}
use Rattle.cl_base.specs.declared.command.Ask.TheVariants.{Remaster, Evacuate}
use Rattle.cl_base.specs.declared.method.Method.{Method}
use Rattle.cl_base.specs.declared.method.Method.TheVariants.{PrenetStart, Start, MonitorStart, MonitorCheck, MonitorStop, Stop, PostnetStop, Validate, Init, Fini, Boot, Update}
use Rattle.ccr_tables.specs.declared.command.AdminCommand.{AdminCommand}
use Rattle.ccr_tables.specs.declared.command.AdminCommand.TheVariants.{Change, Act}
use Rattle.ccr_tables.specs.declared.update.GroupChange.TheVariants.{Online}
use Rattle.ccr_tables.specs.declared.update.ResourceChange.TheVariants.{Disable}
use Rattle.ccr_tables.specs.declared.update.Update.TheVariants.{ChangeGroup, SwitchGroup, ChangeResource}
use Rattle.rgm_member.specs.Outcomes.{is_start_failure, is_success, starts}
use Rattle.rgm_member.specs.Settings.{charged}
use Rattle.status_report.specs.declared.call_entry.ProbeResult.TheVariants as result
use Rattle.wire.specs.declared.message.Order.{Order}
use Rattle.history.specs.Moment.{Moment}
use Rattle.history.specs.Trace.{ack}
use Rattle.history.specs.Setting.{coordinator}
use Rattle.history.specs.Letters.{arriving, passes}
use Rattle.history.specs.Seizing.{or_else}
use Rattle.history.specs.Requests.{same_words}
use Rattle.group_history.specs.Setting.{Groups, second_of, config_of, config_at}
use Rattle.group_history.specs.Doings.{done, probed}
use Rattle.group_history.specs.Orders.{is_done_letter, order_for}
use Rattle.group_history.specs.Desk.{desk_of, words_for}
use Rattle.group_history.specs.Boots.{gathered}

abbrev pub is_charged : List ℕ → Option (List ℕ) → Bool
is_charged group None = false
is_charged group (Some g) = bytes_eq g group

-- ---- the second of a call: the one at which the president of e handled its Done, where it did; else its own

-- the second at which the Done of order k of n came first
abbrev pub done_at : ℕ → ℕ → ℕ → List Moment → Option ℕ
done_at e n k [] = None
done_at e n k (x ∷ before) =
    or_else (done_at e n k before) (if passes (is_done_letter e n k) (arriving before x) then Some (second_of before) else None)

abbrev pub or_own : Option ℕ → ℕ → ℕ
or_own None own = own
or_own (Some second) own = second

abbrev pub told_at : ℕ → ℕ → Option Order → List Moment → Option ℕ
told_at e n None whole = None
told_at e n (Some o) whole = done_at e n o.number whole

-- a call of n in f that ended after these moments, in a trace that is known so far
abbrev pub second_of_call : ℕ → ℕ → ℕ → List Moment → List Moment → ℕ
second_of_call e f n whole before = or_own (if f == e then told_at e n (order_for f n before) whole else None) (second_of before)

-- ---- start failures on a node, charged to the group: to its own group, or to the one that this one declares `+++` to

abbrev pub failure_at : Groups → ℕ → ℕ → List ℕ → List Moment → List Moment → Moment → List ℕ
failure_at S e n group whole before (done f m method r outcome) =
    if (m == n) && is_start_failure (config_of S f before) r method outcome && is_charged group (charged (config_of S f before) r)
    then second_of_call e f n whole before ∷ []
    else []
failure_at S e n group whole before _ = []

-- their seconds since the boot of n, the newest first
abbrev pub start_failures : Groups → ℕ → ℕ → List ℕ → List Moment → List ℕ
start_failures S e n group whole = gathered n e (failure_at S e n group whole) whole

-- ---- moves: at the second at which the president handled the request, where it did; else at the probe's own

-- the seconds at which requests of n with these words were handled
abbrev pub handled_at : Groups → ℕ → ℕ → List ℕ → List Moment → List ℕ
handled_at S c n words [] = []
handled_at S c n words (x ∷ before) =
    (if list_any (λ r. (r.node == n) && same_words words r.words) (desk_of S c (x ∷ before)).handled then second_of before ∷ [] else [])
    ++ handled_at S c n words before

abbrev pub handled_for : Groups → ℕ → ℕ → Option (List ℕ) → List Moment → List ℕ
handled_for S c n None whole = []
handled_for S c n (Some words) whole = handled_at S c n words whole

abbrev pub move_at : Groups → ℕ → ℕ → List ℕ → List Moment → List Moment → Moment → List ℕ
move_at S e n group whole before (probed m r result.Move) =
    if (m == n) && is_charged group (charged (config_at S n before) r)
    then second_of before ∷ handled_for S (coordinator e) n (words_for result.Move r) whole
    else []
move_at S e n group whole before _ = []

abbrev pub moves : Groups → ℕ → ℕ → List ℕ → List Moment → List ℕ
moves S e n group whole = gathered n e (move_at S e n group whole) whole

-- ---- calls that could not stop a resource

abbrev pub stops : Method → Bool
stops PrenetStart = false
stops Start = false
stops MonitorStart = false
stops MonitorCheck = false
stops MonitorStop = true
stops Stop = true
stops PostnetStop = true
stops Validate = false
stops Init = false
stops Fini = false
stops Boot = false
stops Update = false

abbrev pub stop_failure_at : ℕ → List ℕ → List Moment → Moment → List (List ℕ)
stop_failure_at n r before (done f m method s outcome) = if (m == n) && bytes_eq s r && stops method && not (is_success outcome) then s ∷ [] else []
stop_failure_at n r before _ = []

-- a method that stops r did not succeed on n since its boot
abbrev pub could_not_stop : ℕ → ℕ → List ℕ → List Moment → Bool
could_not_stop e n r whole = list_any (λ s. bytes_eq s r) (gathered n e (stop_failure_at n r) whole)

-- ---- faulted

abbrev pub is_start : Method → Bool
is_start Start = true
is_start _ = false

abbrev pub disables : List ℕ → Option AdminCommand → Bool
disables r (Some (Change (ChangeResource s Disable))) = bytes_eq s r
disables r _ = false

-- what the moment says of a start of r on n: that it did not succeed, or that one succeeded since, under a membership up to e, or that r was disabled in e
abbrev pub start_at : Groups → ℕ → ℕ → List ℕ → List Moment → Moment → List Bool
start_at S e n r before (done f m method s outcome) =
    if not ((m == n) && bytes_eq s r && starts method) then []
    else if not (is_success outcome) then true ∷ []
    else if is_start method && nat_le f e then false ∷ []
    else []
start_at S e n r before (ack f v words) = if (f == e) && disables r (S.command words) then false ∷ [] else []
start_at S e n r before _ = []

abbrev pub is_first_true : List Bool → Bool
is_first_true [] = false
is_first_true (b ∷ bs) = b

-- the last of these since the boot of n is a start that did not succeed
abbrev pub failed_last : Groups → ℕ → ℕ → List ℕ → List Moment → Bool
failed_last S e n r whole = is_first_true (gathered n e (start_at S e n r) whole)

-- ---- evacuations

abbrev pub evacuates : ℕ → Option AdminCommand → Bool
evacuates n (Some (Act (Evacuate m))) = m == n
evacuates n _ = false

abbrev pub remasters : List ℕ → Option AdminCommand → Bool
remasters group (Some (Act (Remaster g))) = bytes_eq g group
remasters group _ = false

abbrev pub brings_back : List ℕ → Option AdminCommand → Bool
brings_back group (Some (Change (ChangeGroup g Online))) = bytes_eq g group
brings_back group (Some (Change (SwitchGroup g nodes))) = bytes_eq g group
brings_back group _ = false

abbrev pub is_back : Groups → ℕ → List ℕ → Moment → Bool
is_back S e group (ack f v words) = (f == e) && brings_back group (S.command words)
is_back S e group _ = false

-- a request to evacuate n was handled in e, and since then the group was neither put online or switched, nor its nodes chosen anew
abbrev pub is_evacuated : Groups → ℕ → ℕ → List ℕ → List Moment → Bool
is_evacuated S e n group [] = false
is_evacuated S e n group (x ∷ before) =
    if is_back S e group x || list_any (λ r. remasters group (S.command r.words)) (desk_of S (coordinator e) (x ∷ before)).handled then false
    else list_any (λ r. evacuates n (S.command r.words)) (desk_of S (coordinator e) (x ∷ before)).handled || is_evacuated S e n group before
