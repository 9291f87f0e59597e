-- Before and after.
use Rattle.std.specs.Prelude.{◌≡◌, List, [], ◌∷◌, Bool, true, false, ◌||◌, if◌then◌else◌, Option, None}
use Rattle.schedule_text.specs.declared.event.Event.{Event}
use Rattle.history.specs.Moment.{Moment, Said, Part, Told, event_of}
use Rattle.history.specs.Trace.{rounds_done}

-- P holds at each moment, of what was before it and of the moment.
abbrev pub Always : (List Moment → Moment → Type 0) → List Moment → Type 0
Always P [] = Unit {0}
Always P (x ∷ before) = P before x × Always P before

-- P, unless the test passes
abbrev pub Unless : Bool → Type 0 → Type 0
Unless true P = Unit {0}
Unless false P = P

-- whether test passes at some moment, of what was before it and of the moment
abbrev pub somewhere : (List Moment → Moment → Bool) → List Moment → Bool
somewhere test [] = false
somewhere test (x ∷ before) = test before x || somewhere test before

-- what came after the last moment that passes the test; everything, where none does
abbrev pub since : (Moment → Bool) → List Moment → List Moment
since test [] = []
since test (x ∷ before) = if test x then [] else x ∷ since test before

-- what came before that moment; nothing, where none passes
abbrev pub before_last : (Moment → Bool) → List Moment → List Moment
before_last test [] = []
before_last test (x ∷ before) = if test x then before else before_last test before

-- ---- events

-- what the event does that is under way
abbrev pub under_way : List Moment → Option Event
under_way [] = None
under_way (Told entry ∷ before) = under_way before
under_way (x ∷ before) = event_of x

-- the entries of the event that is under way, newest first
abbrev pub so_far : List Moment → List Moment
so_far [] = []
so_far (Said line ∷ before) = []
so_far (Part event ∷ before) = []
so_far (x ∷ before) = x ∷ so_far before

-- P holds of each event: of what was before it, of its line or part, and of its entries, oldest first. The entry `rounds done` is no
-- event's: it closes the round.
abbrev pub OfEvents : (List Moment → Moment → List Moment → Type 0) → List Moment → List Moment → Type 0
OfEvents P later [] = later ≡ []
OfEvents P later (Said line ∷ before) = P before (Said line) later × OfEvents P [] before
OfEvents P later (Part event ∷ before) = P before (Part event) later × OfEvents P [] before
OfEvents P later (rounds_done ∷ before) = (later ≡ []) × OfEvents P [] before
OfEvents P later (x ∷ before) = OfEvents P (x ∷ later) before

abbrev pub EachEvent : (List Moment → Moment → List Moment → Type 0) → List Moment → Type 0
EachEvent P moments = OfEvents P [] moments

-- P of the newest moment alone, and of the newest event alone: with them a sample shows what a definition says of one moment.
abbrev pub OfNewest : (List Moment → Moment → Type 0) → List Moment → Type 0
OfNewest P [] = Unit {0}
OfNewest P (x ∷ before) = P before x

abbrev pub OfNewestIn : (List Moment → Moment → List Moment → Type 0) → List Moment → List Moment → Type 0
OfNewestIn P later [] = Unit {0}
OfNewestIn P later (Said line ∷ before) = P before (Said line) later
OfNewestIn P later (Part event ∷ before) = P before (Part event) later
OfNewestIn P later (x ∷ before) = OfNewestIn P (x ∷ later) before

abbrev pub OfNewestEvent : (List Moment → Moment → List Moment → Type 0) → List Moment → Type 0
OfNewestEvent P moments = OfNewestIn P [] moments
