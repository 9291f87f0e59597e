-- Entries that a thing that happens adds, and the event that they belong to.
use Rattle.std.specs.Prelude.{ℕ, ◌≡◌, ◌++◌, ◌&&◌, ◌||◌, Bool, true, false, List, [], ◌∷◌, Option, None, Some}
use Rattle.std.specs.List.{AllByRecursion, list_all, list_any}
use Rattle.std.proofs.Common.{refl, sym, subst}
use Rattle.cl_base.specs.Limits.{most_nodes}
use Rattle.cl_base.specs.declared.packet.DropCause.{DropCause}
use Rattle.cmm_attempt.proofs.Basics.{false_true, same_number as equal}
use Rattle.history.specs.Messages.{EachProposal, actor_of, are_of_one, is_of, onto, sends_or_falls}
use Rattle.history.specs.Moment.{Moment, Part, Said, Told}
use Rattle.history.specs.Names as name
use Rattle.history.specs.Order.{OfEvents}
use Rattle.history.specs.Setting.{coordinator}
use Rattle.history.specs.Starts.{members_in, start_of}
use Rattle.node_model.specs.declared.output.Output.{Output}
use Rattle.run_history.proofs.Heard.{in_others}
use Rattle.run_history.specs.Scenes.{Scene, dropped_so, passing}
use Rattle.run_lines.specs.Entries.{GivesEntry, IsOfEvent}
use Rattle.status_report.specs.declared.entry.Entry.{Entry}
use Rattle.status_report.specs.declared.entry.Entry.TheVariants as entry
use Rattle.status_report.specs.declared.packet_entry.PacketEntry.TheVariants as packet
use Rattle.status_report.specs.declared.schedule_entry.ScheduleEntry.TheVariants as schedule
use Rattle.status_report.specs.declared.update_entry.UpdateEntry.TheVariants as update
use Rattle.run_packets.proofs.prepares.Passing.{Passed, passed}
use Rattle.run_packets.specs.prepares.Actors.{IsOf}
use Rattle.run_packets.specs.prepares.Events.{AddsOf, EntriesOf}
use Rattle.run_packets.specs.prepares.Proposals.{AreAnnounced, AreSo, IsAnnounced}

-- ---- added entries

-- an entry that is no proposal is followed by nothing of its own
no_prepares : (before : List Moment) (n : ℕ) (e : Entry) (later : List Moment) → IsOf n e → IsAnnounced before (Told e) later
no_prepares before n (entry.Update (update.Proposed f v text)) later is = absurd is
no_prepares before n _ later is = tt

is_actors : (n : ℕ) (e : Entry) → IsOf n e → is_of n (actor_of (Told e)) ≡ true
is_actors n (entry.Update (update.Proposed f v text)) is = absurd is
is_actors n _ is = is

pub adds_one : (before : List Moment) (n : ℕ) (e : Entry) (ms : List Moment) (t : Scene) → IsOfEvent e → IsOf n e → t.moments ≡ Told e ∷ ms → AddsOf before n ms t
adds_one before n e ms t event is same = record { entries = Told e ∷ []; own = ((event, is_actors n e is), tt); is = sym same; announced = λ left. (no_prepares before n e [] is, tt) }

-- with this entry first
pub adds_first : (before : List Moment) (n : ℕ) (e : Entry) (ms : List Moment) (t : Scene) → IsOfEvent e → IsOf n e → AddsOf before n (Told e ∷ ms) t → AddsOf before n ms t
adds_first before n e ms t event is h = record {
  entries = Told e ∷ h.entries;
  own = ((event, is_actors n e is), h.own);
  is = h.is;
  announced = λ left. (no_prepares before n e h.entries is, h.announced left);
}

pub adds_drop : (before : List Moment) (n : ℕ) (o : Option (ℕ × DropCause)) (s : Scene) → AddsOf before n s.moments (dropped_so o s)
adds_drop before n None s = record { entries = []; own = tt; is = refl; announced = λ left. tt }
adds_drop before n (Some x) s = adds_one before n (entry.Packet (packet.Dropped x.0 x.1)) s.moments _ tt refl refl

pub adds_passing : (before : List Moment) (n : ℕ) (os : List Output) (s : Scene) → AllByRecursion GivesEntry os → AreSo before n os → AddsOf before n s.moments (passing n os s)
adds_passing before n os s events so =
    let p : Passed before n os s (passing n os s) = passed before n os s events so in
    record { entries = p.entries; own = p.own; is = p.is; announced = p.announced }

-- ---- entries are of the event before them

abbrev AtEvents : Type 1
AtEvents = List Moment → Moment → List Moment → Type 0

one_entry : (P : AtEvents) (e : Entry) (later before : List Moment) → IsOfEvent e → OfEvents P (Told e ∷ later) before → OfEvents P later (Told e ∷ before)
one_entry P (entry.Schedule schedule.RoundsDone) later before is h = absurd is
one_entry P _ later before is h = h

pub entries_of_event : (P : List Moment → Moment → List Moment → Type 0) (n : ℕ) (xs later before : List Moment) → EntriesOf n xs → OfEvents P (xs ++ later) before → OfEvents P later (onto before xs)
entries_of_event P n [] later before are h = h
entries_of_event P n (Told e ∷ xs) later before are h = entries_of_event P n xs later (Told e ∷ before) are.1 (one_entry P e (xs ++ later) before are.0.0 h)
entries_of_event P n (Said l ∷ xs) later before are h = absurd are.0.0
entries_of_event P n (Part e ∷ xs) later before are h = absurd are.0.0

-- what is so of each event by one definition is so by another
pub events_so : (P Q : List Moment → Moment → List Moment → Type 0) → ((before : List Moment) (x : Moment) (entries : List Moment) → P before x entries → Q before x entries)
    → (later ms : List Moment) → OfEvents P later ms → OfEvents Q later ms
events_so P Q f later [] h = h
events_so P Q f later (Said l ∷ ms) h = (f ms (Said l) later h.0, events_so P Q f [] ms h.1)
events_so P Q f later (Part e ∷ ms) h = (f ms (Part e) later h.0, events_so P Q f [] ms h.1)
events_so P Q f later (Told (entry.Schedule schedule.RoundsDone) ∷ ms) h = (h.0, events_so P Q f [] ms h.1)
events_so P Q f later (Told e ∷ ms) h = events_so P Q f (Told e ∷ later) ms h

-- ---- all of one node

both_true : (a b : Bool) → a ≡ true → b ≡ true → (a && b) ≡ true
both_true true b h k = k
both_true false b h k = absurd (false_true h)

all_same : (n : ℕ) (ms : List Moment) → EntriesOf n ms → list_all (λ x. is_of n (actor_of x)) ms ≡ true
all_same n [] h = refl
all_same n (x ∷ ms) h = both_true (is_of n (actor_of x)) (list_all (λ x. is_of n (actor_of x)) ms) h.0.1 (all_same n ms h.1)

pub of_one : (n : ℕ) (ms : List Moment) → EntriesOf n ms → are_of_one None ms ≡ true
of_one n [] h = refl
of_one n (x ∷ ms) h = by_actor (actor_of x) h.0.1 (of_one n ms h.1)
  where
    by_actor : (o : Option ℕ) → is_of n o ≡ true → are_of_one None ms ≡ true → are_of_one o ms ≡ true
    by_actor None is rest = rest
    by_actor (Some m) is rest = subst (λ k. are_of_one (Some k) ms ≡ true) (sym (equal m n is)) (all_same n ms h.1)

-- ---- each proposal

any_later : (test : Moment → Bool) (x : Moment) (later all : List Moment) → ((f : Moment → Bool) → list_any f (x ∷ later) ≡ true → list_any f all ≡ true) → list_any test later ≡ true → list_any test all ≡ true
any_later test x later all up h = up test (or_later (test x) (list_any test later) h)
  where
    or_later : (a b : Bool) → b ≡ true → (a || b) ≡ true
    or_later true b h = refl
    or_later false b h = h

proposals_in : (before all later : List Moment) → ((f : Moment → Bool) → list_any f later ≡ true → list_any f all ≡ true) → AreAnnounced before later → EachProposal before all later
proposals_in before all [] up h = tt
proposals_in before all (Told (entry.Update (update.Proposed e v words)) ∷ later) up h = (
  in_others (λ m. sends_or_falls (coordinator e) m (name.Prepare v) all ≡ true) e (members_in (start_of e before)) most_nodes
      (λ m low member other. any_later _ (Told (entry.Update (update.Proposed e v words))) later all up (h.0 m (low, member, other))),
  proposals_in before all later (λ f k. any_later f (Told (entry.Update (update.Proposed e v words))) later all up k) h.1,
)
proposals_in before all (x ∷ later) up h = proposals_in before all later (λ f k. any_later f x later all up k) h.1

pub each_proposal : (before entries : List Moment) → AreAnnounced before entries → EachProposal before entries entries
each_proposal before entries h = proposals_in before entries entries (λ f k. k) h
