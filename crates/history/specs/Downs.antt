-- Answers, of nodes that go down: each cause has its evidence. A node stops exactly where an armed stop falls in one of its saves or in
-- its mounting: each takes four calls of its local disk. It saves only where the rules let it (Saves). (A method that stops a resource under HARD: see the part on resource groups.)
use Rattle.std.specs.Prelude.{◌≡◌, ℕ, ◌-◌, ◌==◌, ◌&&◌, ◌||◌, nat_le, Bool, true, false, if◌then◌else◌, List, [], ◌∷◌, Option, Some, None}
use Rattle.std.specs.List.{list_any}
use Rattle.cl_base.specs.declared.panic.Panic.TheVariants as panic
use Rattle.schedule_text.specs.declared.event.Event.TheVariants as event
use Rattle.wire.specs.declared.message.Body.{Body}
use Rattle.wire.specs.declared.message.Body.TheVariants as body
use Rattle.history.specs.Names as name
use Rattle.status_report.specs.declared.node_entry.DownCause.TheVariants as cause
use Rattle.status_report.specs.declared.device_entry.WriteRefusal.TheVariants.{Fenced}
use Rattle.history.specs.Moment.{Moment}
use Rattle.history.specs.Trace.{up, down, saved, stopped, crashat, refused, attempt, ended_excluded}
use Rattle.history.specs.Order.{Always, so_far, under_way}
use Rattle.history.specs.Setting.{Setting, coordinator}
use Rattle.history.specs.Letters.{Letter, is_letter, passes, arrived, says}
use Rattle.history.specs.Member.{members_of, last_installed}
use Rattle.history.specs.Attempts.{leaves_out}
use Rattle.history.specs.Saves.{may_save}

-- ---- stops

abbrev pub after_four : Option ℕ → Option ℕ
after_four None = None
after_four (Some k) = if nat_le k 4 then Some k else Some (k - 4)

-- how many calls of the local disk of n are left to the stop that is armed, that one included
abbrev pub calls_left : ℕ → List Moment → Option ℕ
calls_left n [] = None
calls_left n (crashat m calls choice ∷ before) = if m == n then Some calls else calls_left n before
calls_left n (up m ∷ before) = if m == n then after_four (calls_left n before) else calls_left n before
calls_left n (saved m ∷ before) = if m == n then after_four (calls_left n before) else calls_left n before
calls_left n (stopped m ∷ before) = if m == n then None else calls_left n before
calls_left n (_ ∷ before) = calls_left n before

abbrev pub are_four : Option ℕ → Bool
are_four None = false
are_four (Some k) = nat_le k 4

-- whether the stop falls in the next save or mounting of n
abbrev pub stops_next : ℕ → List Moment → Bool
stops_next n before = are_four (calls_left n before)

-- a boot that stops says `up` first
abbrev pub stops_here : ℕ → List Moment → Bool
stops_here n (up m ∷ before) = stops_next n before
stops_here n before = stops_next n before

-- the node that is to stop next, for the stop falls in its mounting
abbrev pub stop_due : List Moment → Option ℕ
stop_due (up n ∷ before) = if stops_next n before then Some n else None
stop_due _ = None

abbrev pub stop_in : Moment → ℕ → Bool
stop_in (stopped m) n = m == n
stop_in _ n = false

abbrev pub StopsWhereDue : Option ℕ → Moment → Type 0
StopsWhereDue None x = Unit {0}
StopsWhereDue (Some n) x = stop_in x n ≡ true

-- ---- panics

abbrev pub is_fenced_write : ℕ → ℕ → Moment → Bool
is_fenced_write n d (refused m x value Fenced) = (m == n) && (x == d)
is_fenced_write n d _ = false

abbrev pub is_exclusion : ℕ → ℕ → Moment → Bool
is_exclusion e n (ended_excluded f m) = (f == e) && (m == n)
is_exclusion e n _ = false

abbrev pub is_the_one : ℕ → Moment → Bool
is_the_one f (attempt g members) = g == f
is_the_one f _ = false

-- an `ended e excluded n` line among these, and the attempt f, with a number above the newest that n installed, is one that leaves n out
abbrev pub is_excluded_by : ℕ → ℕ → ℕ → List Moment → List Moment → Bool
is_excluded_by f e n event before =
    list_any (is_exclusion e n) event && list_any (λ x. is_the_one f x && leaves_out e (members_of e before) n (last_installed n before) x) before

abbrev pub is_notice : ℕ → ℕ → Letter → Option Body → Bool
is_notice n f l (Some (body.Excluded epoch newest)) = (newest == f) && is_excluded_by f epoch n (so_far l.before) l.before
is_notice n f l _ = false

abbrev pub is_own_exclusion : ℕ → ℕ → List Moment → Moment → Bool
is_own_exclusion n f before (ended_excluded e m) = (m == n) && (coordinator e == n) && is_excluded_by f e n (so_far before) before
is_own_exclusion n f before _ = false

-- its own attempt excluded it, with f as the newest epoch that left it out; or an Excluded said so that was sent when one did
abbrev pub is_told_excluded : ℕ → ℕ → List Moment → Bool
is_told_excluded n f before =
    list_any (is_own_exclusion n f before) (so_far before) || passes (λ l. is_letter name.Excluded l.from n l && is_notice n f l (says l.bytes)) (arrived before)

abbrev pub HasDownCause : Setting → List Moment → Moment → Type 0
HasDownCause S before (down n cause.Crash) = under_way before ≡ Some (event.Crash n)
HasDownCause S before (stopped n) = (stops_here n before ≡ true) × (may_save S n before ≡ true)
HasDownCause S before (down n (cause.Panic (panic.Fenced d))) = list_any (is_fenced_write n d) (so_far before) ≡ true
HasDownCause S before (down n (cause.Panic (panic.Excluded f))) = is_told_excluded n f before ≡ true
-- no line of a schedule makes a local disk fail but by a stop
HasDownCause S before (down n (cause.Panic panic.Disk)) = ⊥
HasDownCause S before (down n (cause.Panic (panic.Stop resource))) = Unit {0}
HasDownCause S before (saved n) = stops_next n before ≡ false
HasDownCause S before _ = Unit {0}

abbrev pub GoesDown : Setting → List Moment → Moment → Type 0
GoesDown S before x = HasDownCause S before x × StopsWhereDue (stop_due before) x

abbrev pub Downs : Setting → List Moment → Type 0
Downs S moments = Always (GoesDown S) moments
