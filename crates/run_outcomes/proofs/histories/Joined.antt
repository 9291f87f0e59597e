-- What always holds, and what holds of each event, taken together.
use Rattle.std.specs.Prelude.{ℕ, ◌≡◌, ◌≤◌, ◌^◌, nat_lt, true, List, [], ◌∷◌}
use Rattle.std.proofs.Common.{arith}
use Rattle.history.specs.Links.{links_after}
use Rattle.history.specs.Messages.{onto}
use Rattle.history.specs.Moment.{Moment, Part, Said}
use Rattle.history.specs.Order.{Always, OfEvents}
use Rattle.history.specs.Setting.{Setting}
use Rattle.history.specs.Trace.{rounds_done}
use Rattle.run_lines.specs.Laws.{NumberIsLeft}
use Rattle.run_outcomes.proofs.rounds_told.Numbers.{line_next}

abbrev pub MomentLaw : Type 1
MomentLaw = List Moment → Moment → Type 0

abbrev pub EventLaw : Type 1
EventLaw = List Moment → Moment → List Moment → Type 0

-- ---- of moments

pub always_by : (P Q : MomentLaw) (ms : List Moment) → ((before : List Moment) (x : Moment) → P before x → Q before x) → Always P ms → Always Q ms
always_by P Q [] f h = tt
always_by P Q (x ∷ ms) f h = (f ms x h.0, always_by P Q ms f h.1)

pub always_both : (P Q : MomentLaw) (ms : List Moment) → Always P ms → Always Q ms → Always (λ before x. P before x × Q before x) ms
always_both P Q [] h k = tt
always_both P Q (x ∷ ms) h k = ((h.0, k.0), always_both P Q ms h.1 k.1)

-- ---- of events

pub events_by : (P Q : EventLaw) (later ms : List Moment) → ((before : List Moment) (x : Moment) (entries : List Moment) → P before x entries → Q before x entries) → OfEvents P later ms → OfEvents Q later ms
events_by P Q later [] f h = h
events_by P Q later (Said line ∷ ms) f h = (f ms (Said line) later h.0, events_by P Q [] ms f h.1)
events_by P Q later (Part event ∷ ms) f h = (f ms (Part event) later h.0, events_by P Q [] ms f h.1)
events_by P Q later (rounds_done ∷ ms) f h = (h.0, events_by P Q [] ms f h.1)
events_by P Q later (x ∷ ms) f h = events_by P Q (x ∷ later) ms f h

pub events_both : (P Q : EventLaw) (later ms : List Moment) → OfEvents P later ms → OfEvents Q later ms → OfEvents (λ before x entries. P before x entries × Q before x entries) later ms
events_both P Q later [] h k = h
events_both P Q later (Said line ∷ ms) h k = ((h.0, k.0), events_both P Q [] ms h.1 k.1)
events_both P Q later (Part event ∷ ms) h k = ((h.0, k.0), events_both P Q [] ms h.1 k.1)
events_both P Q later (rounds_done ∷ ms) h k = (h.0, events_both P Q [] ms h.1 k.1)
events_both P Q later (x ∷ ms) h k = events_both P Q (x ∷ later) ms h k

-- ---- while a packet number is left

less_left : (a b : ℕ) → a ≤ b → nat_lt b (2 ^ 63) ≡ true → nat_lt a (2 ^ 63) ≡ true
less_left a b le h = grind arith

left_before : (S : Setting) (x : Moment) (ms : List Moment) → NumberIsLeft S (x ∷ ms) → NumberIsLeft S ms
left_before S x ms h = less_left (links_after S.cells ms).next (links_after S.cells (x ∷ ms)).next (line_next S.cells x ms) h

left_onto : (S : Setting) (ms later : List Moment) → NumberIsLeft S (onto ms later) → NumberIsLeft S ms
left_onto S ms [] h = h
left_onto S ms (x ∷ later) h = left_before S x ms (left_onto S (x ∷ ms) later h)

-- what holds of each event behind which one is left holds of each
pub while_left : (S : Setting) (P : EventLaw) (later ms : List Moment) → NumberIsLeft S (onto ms later) → OfEvents (λ before x entries. NumberIsLeft S (onto (x ∷ before) entries) → P before x entries) later ms
    → OfEvents P later ms
while_left S P later [] left h = h
while_left S P later (Said line ∷ ms) left h = (h.0 left, while_left S P [] ms (left_before S (Said line) ms (left_onto S (Said line ∷ ms) later left)) h.1)
while_left S P later (Part event ∷ ms) left h = (h.0 left, while_left S P [] ms (left_before S (Part event) ms (left_onto S (Part event ∷ ms) later left)) h.1)
while_left S P later (rounds_done ∷ ms) left h = (h.0, while_left S P [] ms (left_before S rounds_done ms (left_onto S (rounds_done ∷ ms) later left)) h.1)
while_left S P later (x ∷ ms) left h = while_left S P (x ∷ later) ms left h
