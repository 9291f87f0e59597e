-- Moments that entries add, and the event that they belong to.
use Rattle.std.specs.Prelude.{ℕ, ◌≡◌, ◌++◌, List, [], ◌∷◌, Option, None, Some}
use Rattle.std.specs.List.{AllByRecursion}
use Rattle.std.proofs.Common.{refl, ap, subst, ◌∙◌}
use Rattle.cl_base.specs.declared.packet.DropCause.{DropCause}
use Rattle.cmm_attempt.proofs.Basics.{if_either}
use Rattle.interconnect.specs.Links as net
use Rattle.interconnect.specs.Links.{sending}
use Rattle.status_report.specs.declared.entry.Entry.{Entry}
use Rattle.status_report.specs.declared.entry.Entry.TheVariants as entry
use Rattle.status_report.specs.declared.packet_entry.PacketEntry.TheVariants as packet
use Rattle.status_report.specs.declared.schedule_entry.ScheduleEntry.TheVariants as schedule
use Rattle.wire.specs.Spelling.{spelling}
use Rattle.wire.specs.declared.message.Message.{Message}
use Rattle.history.specs.Moment.{Moment, Said, Part, Told}
use Rattle.history.specs.Order.{OfEvents}
use Rattle.node_model.specs.declared.output.Output.{Output}
use Rattle.node_model.specs.declared.output.Output.TheVariants.{Tells, Sends}
use Rattle.world_model.specs.Sends.{is_sent, name_of}
use Rattle.run_history.specs.Scenes.{Scene, dropped_so, passing, posting, sent_as, telling, with_links}
use Rattle.run_lines.specs.Entries.{GivesEntry, IsEntry, IsOfEvent}

-- these moments, oldest first, put on what was before
abbrev pub onto : List Moment → List Moment → List Moment
onto [] before = before
onto (x ∷ xs) before = onto xs (x ∷ before)

onto_both : (xs ys before : List Moment) → onto (xs ++ ys) before ≡ onto ys (onto xs before)
onto_both [] ys before = refl
onto_both (x ∷ xs) ys before = onto_both xs ys (x ∷ before)

all_both : (xs ys : List Moment) → AllByRecursion IsEntry xs → AllByRecursion IsEntry ys → AllByRecursion IsEntry (xs ++ ys)
all_both [] ys h k = k
all_both (x ∷ xs) ys h k = (h.0, all_both xs ys h.1 k)

-- the moments after are those before with these entries
pub record Adds (before after : List Moment) : Type 0 where
  pub entries : List Moment
  pub are : AllByRecursion IsEntry entries
  pub is : onto entries before ≡ after

pub adds_none : (ms : List Moment) → Adds ms ms
adds_none ms = record { entries = []; are = tt; is = refl }

abbrev pub adds_one : (e : Entry) (ms : List Moment) → IsOfEvent e → Adds ms (Told e ∷ ms)
adds_one e ms is = record { entries = Told e ∷ []; are = (is, tt); is = refl }

pub adds_then : (a b d : List Moment) → Adds a b → Adds b d → Adds a d
adds_then a b d h k = record {
  entries = h.entries ++ k.entries;
  are = all_both h.entries k.entries h.are k.are;
  is = onto_both h.entries k.entries a ∙ (ap (λ ms. onto k.entries ms) h.is ∙ k.is);
}

-- with this entry first
abbrev pub adds_first : (e : Entry) (before after : List Moment) → IsOfEvent e → Adds (Told e ∷ before) after → Adds before after
adds_first e before after is h = record { entries = Told e ∷ h.entries; are = (is, h.are); is = h.is }

-- ---- packets, and what a node gives

pub adds_drop : (o : Option (ℕ × DropCause)) (s : Scene) → Adds s.moments (dropped_so o s).moments
adds_drop None s = adds_none s.moments
adds_drop (Some x) s = adds_one (entry.Packet (packet.Dropped x.0 x.1)) s.moments tt

adds_posted : (from to : ℕ) (m : Message) (s : Scene) → Adds s.moments (posting from to m s).moments
adds_posted from to m s =
    let o : net.Outcome = sending s.links from to (spelling m) in
    let e : Entry = entry.Packet (packet.Sent s.links.next from to (name_of m.body) (spelling m)) in
    let t : Scene = telling e (with_links s o.after) in
    if_either (λ (z : Scene). Adds s.moments z.moments) (is_sent s.links m) (sent_as from to m o s) s
    (adds_then s.moments t.moments (dropped_so o.sent.dropped t).moments (adds_one e s.moments tt) (adds_drop o.sent.dropped t)) (adds_none s.moments)

pub adds_passing : (n : ℕ) (os : List Output) (s : Scene) → AllByRecursion GivesEntry os → Adds s.moments (passing n os s).moments
adds_passing n [] s are = adds_none s.moments
adds_passing n (Tells e ∷ os) s are = adds_first e s.moments (passing n os (telling e s)).moments are.0 (adds_passing n os (telling e s) are.1)
adds_passing n (Sends to b ∷ os) s are =
    let m : Message = record { sender = n; body = b } in
    adds_then s.moments (posting n to m s).moments (passing n os (posting n to m s)).moments (adds_posted n to m s) (adds_passing n os (posting n to m s) are.1)

-- ---- entries are of the event before them

abbrev AtEvents : Type 1
AtEvents = List Moment → Moment → List Moment → Type 0

one_entry : (P : AtEvents) (e : Entry) (later before : List Moment) → IsOfEvent e → OfEvents P (Told e ∷ later) before → OfEvents P later (Told e ∷ before)
one_entry P (entry.Schedule schedule.RoundsDone) later before is h = absurd is
one_entry P _ later before is h = h

pub entries_of_event : (P : List Moment → Moment → List Moment → Type 0) (xs later before : List Moment) → AllByRecursion IsEntry xs → OfEvents P (xs ++ later) before → OfEvents P later (onto xs before)
entries_of_event P [] later before are h = h
entries_of_event P (Told e ∷ xs) later before are h = entries_of_event P xs later (Told e ∷ before) are.1 (one_entry P e (xs ++ later) before are.0 h)
entries_of_event P (Said l ∷ xs) later before are h = absurd are.0
entries_of_event P (Part e ∷ xs) later before are h = absurd are.0

pub added_of_event : (P : List Moment → Moment → List Moment → Type 0) (before after later : List Moment) (a : Adds before after) → OfEvents P (a.entries ++ later) before → OfEvents P later after
added_of_event P before after later a h = subst (λ ms. OfEvents P later ms) a.is (entries_of_event P a.entries later before a.are h)
