-- The laws of lines, of writes and of clients, with what is said of the rest: each line is answered.
use Rattle.std.specs.Prelude.{ℕ, ◌≡◌, ◌||◌, Bool, true, false, List, [], ◌∷◌, Option, None, Some}
use Rattle.std.specs.List.{AllByRecursion, list_any}
use Rattle.std.proofs.Common.{refl, sym, ap, subst, ◌∙◌, inl, inr}
use Rattle.history.specs.Lines.{DoesNext, HasAnswer, IsAnsweredBy, is_stopped, skip_unless_up}
use Rattle.history.specs.Links.{links_after}
use Rattle.history.specs.Member.{is_up}
use Rattle.history.specs.Moment.{Moment, Said, Part, lines_of}
use Rattle.history.specs.Order.{Always, OfEvents}
use Rattle.history.specs.Queue.{due_of, queue_is_open, queued_of}
use Rattle.history.specs.Setting.{Setting}
use Rattle.history.specs.Trace.{disk_failed, rounds_done, stopped}
use Rattle.pgr_device.specs.declared.command.PrCommand.{PrCommand}
use Rattle.run_commands.specs.taken.Laws.{ClientIsAnswered}
use Rattle.run_devices.specs.queues.Laws.{is_lost}
use Rattle.run_lines.specs.Laws.{IsAnswered, NumberIsLeft}
use Rattle.run_lines.specs.writes.Laws.{IsWritten}
use Rattle.run_packets.specs.fits.Laws.{NoDiskFails}
use Rattle.schedule_text.specs.declared.event.Event.{Event}
use Rattle.schedule_text.specs.declared.event.Event.TheVariants as event
use Rattle.schedule_text.specs.declared.line.Line.{Line}
use Rattle.schedule_text.specs.declared.line.Line.TheVariants as line
use Rattle.status_report.specs.declared.schedule_entry.SkipCause.{SkipCause}
use Rattle.run_outcomes.specs.lines.Done.{DoesNextOrFails, IsDiskLine, IsRest}
use Rattle.run_outcomes.specs.lines.Laws.{IsFitting}
use Rattle.run_outcomes.proofs.asks.Lines.{left_before}
use Rattle.run_outcomes.proofs.rounds_told.Numbers.{line_next}

-- ---- no disk fails but by a stop

-- of one entry, whatever was before it
abbrev IsKept : Moment → Type 0
IsKept x = NoDiskFails [] x

kept_so : (before : List Moment) (x : Moment) → NoDiskFails before x → IsKept x
kept_so before (disk_failed m) h = h
kept_so before _ h = tt

lost_one : (n : ℕ) (x : Moment) → IsKept x → is_lost n x ≡ is_stopped n x
lost_one n (stopped m) h = refl
lost_one n (disk_failed m) h = absurd h
lost_one n _ h = refl

lost_stopped : (n : ℕ) (entries : List Moment) → AllByRecursion IsKept entries → list_any (is_lost n) entries ≡ list_any (is_stopped n) entries
lost_stopped n [] all = refl
lost_stopped n (x ∷ entries) all = ap (λ b. b || list_any (is_lost n) entries) (lost_one n x all.0) ∙ ap (λ b. is_stopped n x || b) (lost_stopped n entries all.1)

does_next : (untold : Bool) (n : ℕ) (due : List (ℕ × PrCommand)) (entries : List Moment) → AllByRecursion IsKept entries → DoesNextOrFails untold n due entries → DoesNext untold n due entries
does_next true n due entries all (inl one) = inl one
does_next true n due entries all (inr (inl falls)) = inr (inl (falls.0, sym (lost_stopped n entries all) ∙ falls.1))
does_next true n due entries all (inr (inr none)) = inr (inr none)
does_next false n due entries all (inl is) = inl is
does_next false n due entries all (inr falls) = inr (falls.0, sym (lost_stopped n entries all) ∙ falls.1)

disk_answered : (S : Setting) (before : List Moment) (n : ℕ) (entries : List Moment) (o : Option SkipCause) → AllByRecursion IsKept entries → IsDiskLine S before n entries o
    → IsAnsweredBy S before (event.Disk n) entries o
disk_answered S before n entries (Some why) all is = is
disk_answered S before n entries None all is = does_next (queue_is_open S n before) n (due_of (queued_of S n before)) entries all is

-- ---- one event

-- what the laws say of it
record Known (S : Setting) (before : List Moment) (x : Moment) (entries : List Moment) : Type 0 where
  answered : IsAnswered S before x entries
  written : IsWritten S before x entries
  client : ClientIsAnswered S before x entries
  rest : IsRest S before x entries
  left : NumberIsLeft S before
  kept : AllByRecursion IsKept entries

said_answered : (S : Setting) (before : List Moment) (e : Event) (entries : List Moment) → IsFitting S.header (line.Event e) → Known S before (Said (line.Event e)) entries
    → HasAnswer S before (Said (line.Event e)) entries
said_answered S before (event.Repeat p) entries fits k = k.answered k.left
said_answered S before (event.Again a b) entries fits k = k.answered k.left
said_answered S before (event.Client n address client port) entries fits k = k.client
said_answered S before (event.Write n d value) entries fits k =
    by_here (is_up n before) refl
  where
    by_here : (b : Bool) → is_up n before ≡ b → IsAnsweredBy S before (event.Write n d value) entries (skip_unless_up (is_up n before))
    by_here true on = subst (λ b. IsAnsweredBy S before (event.Write n d value) entries (skip_unless_up b)) (sym on) (k.written fits on)
    by_here false off = k.answered (k.rest off)
said_answered S before (event.Disk n) entries fits k = by_here (is_up n before) refl
  where
    by_here : (b : Bool) → is_up n before ≡ b → HasAnswer S before (Said (line.Event (event.Disk n))) entries
    by_here true on = disk_answered S before n entries _ k.kept (k.rest on)
    by_here false off = k.answered off
said_answered S before _ entries fits k = k.answered tt

line_answered : (S : Setting) (before : List Moment) (l : Line) (entries : List Moment) → IsFitting S.header l → Known S before (Said l) entries → HasAnswer S before (Said l) entries
line_answered S before line.Blank entries fits k = k.answered
line_answered S before line.End entries fits k = k.answered
line_answered S before (line.Event e) entries fits k = said_answered S before e entries fits k
line_answered S before _ entries fits k = absurd k.answered

part_answered : (S : Setting) (before : List Moment) (e : Event) (entries : List Moment) → Known S before (Part e) entries → HasAnswer S before (Part e) entries
part_answered S before (event.Deliver p) entries k = k.answered tt
part_answered S before (event.Tick n) entries k = k.answered tt
part_answered S before (event.Disk n) entries k = (k.rest.0, disk_answered S before n entries None k.kept k.rest.1)
part_answered S before _ entries k = absurd k.rest

-- ---- each event

left_then : (S : Setting) (x : Moment) (before : List Moment) → NumberIsLeft S (x ∷ before) → NumberIsLeft S before
left_then S x before left = left_before (links_after S.cells before).next (links_after S.cells (x ∷ before)).next (line_next S.cells x before) left

pub all_answered : (S : Setting) (later moments : List Moment) → OfEvents (IsAnswered S) later moments → OfEvents (IsWritten S) later moments → OfEvents (ClientIsAnswered S) later moments
    → OfEvents (IsRest S) later moments → NumberIsLeft S moments → Always NoDiskFails moments → AllByRecursion (IsFitting S.header) (lines_of moments) → AllByRecursion IsKept later
    → OfEvents (HasAnswer S) later moments
all_answered S later [] a w c r left disks fits kept = a
all_answered S later (Said l ∷ before) a w c r left disks fits kept =
    let more : NumberIsLeft S before = left_then S (Said l) before left in (
      line_answered S before l later fits.0 (record { answered = a.0; written = w.0; client = c.0; rest = r.0; left = more; kept = kept }),
      all_answered S [] before a.1 w.1 c.1 r.1 more disks.1 fits.1 tt,
    )
all_answered S later (Part e ∷ before) a w c r left disks fits kept =
    let more : NumberIsLeft S before = left_then S (Part e) before left in (
      part_answered S before e later (record { answered = a.0; written = w.0; client = c.0; rest = r.0; left = more; kept = kept }),
      all_answered S [] before a.1 w.1 c.1 r.1 more disks.1 fits tt,
    )
all_answered S later (rounds_done ∷ before) a w c r left disks fits kept =
    (a.0, all_answered S [] before a.1 w.1 c.1 r.1 (left_then S rounds_done before left) disks.1 fits tt)
all_answered S later (x ∷ before) a w c r left disks fits kept =
    all_answered S (x ∷ later) before a w c r (left_then S x before left) disks.1 fits (kept_so before x disks.0, kept)
