-- What is proved of each run of the world, as things that happen: the entries of its lines.
use Rattle.std.specs.Prelude.{ℕ, ◌<◌, ◌≤◌, ◌≡◌, ◌^◌, nat_lt, true, false, List, [], length, None, is_some}
use Rattle.cl_base.specs.Limits.{most_devices}
use Rattle.cl_base.specs.declared.header.Header.{Header}
use Rattle.schedule_text.specs.declared.event.Event.{Event}
use Rattle.schedule_text.specs.declared.event.Event.TheVariants as event
use Rattle.schedule_text.specs.declared.line.Line.TheVariants as line
use Rattle.history.specs.Lines.{HasEntries, IsAnsweredBy, skip_due, skip_president}
use Rattle.history.specs.Links.{links_after}
use Rattle.history.specs.Member.{is_up, member_of}
use Rattle.history.specs.Moment.{Moment, Said, Part}
use Rattle.history.specs.Order.{EachEvent}
use Rattle.history.specs.Setting.{Setting}
use Rattle.world_model.specs.First.{first_cluster}
use Rattle.run_history.specs.Happenings.{Happening, MayAllHappen, all_happened}
use Rattle.run_history.specs.Scenes.{first_scene}
use Rattle.run_history.specs.Shapes.{IsShaped}

-- a packet number is left: the links take none from 2^63 on
abbrev pub NumberIsLeft : Setting → List Moment → Type 0
NumberIsLeft S before = nat_lt (links_after S.cells before).next (2 ^ 63) ≡ true

-- Where the law speaks of an event; of the others it says nothing. Where no number is left for a copy the world tells nothing, and no trace keeps to
-- the definition. It speaks of a write of a node that is no member, of a command at a device of a node that is down, and of a client's request to a
-- node that is no president of a membership, which is skipped.
abbrev pub IsSpokenOf : Setting → List Moment → Event → Type 0
IsSpokenOf S before (event.Repeat p) = NumberIsLeft S before
IsSpokenOf S before (event.Again a b) = NumberIsLeft S before
IsSpokenOf S before (event.Write n d value) = member_of n before ≡ None
IsSpokenOf S before (event.Disk n) = is_up n before ≡ false
IsSpokenOf S before (event.Client n address client port) = is_some (skip_president n (is_up n before) (member_of n before)) ≡ true
IsSpokenOf S before _ = Unit {0}

-- there a line, and a part of a round, has its entries, as `history` has it
abbrev pub IsAnswered : Setting → List Moment → Moment → List Moment → Type 0
IsAnswered S before (Said line.Blank) entries = entries ≡ []
IsAnswered S before (Said line.End) entries = entries ≡ []
IsAnswered S before (Said (line.Event what)) entries = IsSpokenOf S before what → IsAnsweredBy S before what entries (skip_due S before what)
IsAnswered S before (Part what) entries = IsSpokenOf S before what → (skip_due S before what ≡ None) × HasEntries S before what entries
IsAnswered S before _ entries = ⊥

abbrev pub LinesOfEachRun : Type 0
LinesOfEachRun = (h : Header) (cells : ℕ) (hs : List Happening) (S : Setting) → length h.devices ≤ most_devices → h.cluster < 2 ^ 32 → S.cells ≡ cells
    → MayAllHappen (first_cluster h) (first_scene h cells) hs → IsShaped (first_cluster h) (first_scene h cells) hs
    → EachEvent (IsAnswered S) (all_happened (first_cluster h) (first_scene h cells) hs).moments
