-- Each run that is not too long: a coordinator that installs goes on at once.
use Rattle.std.specs.Prelude.{ℕ, ◌≡◌, ◌≤◌, ◌<◌, ◌==◌, ◌||◌, ◌^◌, not, nat_lt, Bool, true, false, List, [], ◌∷◌, length, if◌then◌else◌}
use Rattle.std.specs.List.{AllByRecursion, list_all, list_any}
use Rattle.std.proofs.Common.{refl, subst}
use Rattle.cl_base.specs.declared.header.Header.{Header}
use Rattle.cmm_attempt.proofs.Basics.{false_true}
use Rattle.history.specs.Contact.{others}
use Rattle.history.specs.Letters.{sends}
use Rattle.history.specs.Links.{links_after}
use Rattle.history.specs.Member.{members_of}
use Rattle.history.specs.Messages as messages
use Rattle.history.specs.Messages.{EachInstall, is_stop_of, passes_on}
use Rattle.history.specs.Moment.{Moment, Part, Said, Told}
use Rattle.history.specs.Names as name
use Rattle.history.specs.Order.{Always, OfEvents}
use Rattle.history.specs.Seizing.{is_start}
use Rattle.history.specs.Setting.{Setting, coordinator}
use Rattle.history.specs.Trace.{disk_failed, installed}
use Rattle.run_history.specs.Happenings.{Happening, all_happened}
use Rattle.run_history.specs.Scenes.{first_scene}
use Rattle.run_packets.proofs.fits.Runs.{no_disk_fails_in_each_run}
use Rattle.run_packets.specs.fits.Laws.{NoDiskFails}
use Rattle.status_report.specs.declared.entry.Entry.TheVariants as entry
use Rattle.status_report.specs.declared.schedule_entry.ScheduleEntry.TheVariants as schedule
use Rattle.world_model.specs.First.{first_cluster}
use Rattle.run_packets.specs.installs.Laws.{EachGoesOut, EachInstallOfEachRun, GoesOnAtOnce, goes_to}
use Rattle.run_packets.specs.installs.Passing.{starts_or_fails}
use Rattle.run_packets.proofs.installs.Runs.{EachBegins, GoesIn, goes_in_each_run}

-- no local disk fails there
abbrev IsSound : Moment → Type 0
IsSound (disk_failed n) = ⊥
IsSound _ = Unit {0}

sound_of : (before : List Moment) (x : Moment) → NoDiskFails before x → IsSound x
sound_of before (disk_failed n) h = h
sound_of before _ h = tt

-- what is so of each event in which no disk fails by one definition is so by another
events_sound : (P Q : List Moment → Moment → List Moment → Type 0) → ((before : List Moment) (x : Moment) (entries : List Moment) → AllByRecursion IsSound entries → P before x entries → Q before x entries)
    → (later ms : List Moment) → AllByRecursion IsSound later → Always NoDiskFails ms → OfEvents P later ms → OfEvents Q later ms
events_sound P Q f later [] sound all h = h
events_sound P Q f later (Said l ∷ ms) sound all h = (f ms (Said l) later sound h.0, events_sound P Q f [] ms tt all.1 h.1)
events_sound P Q f later (Part e ∷ ms) sound all h = (f ms (Part e) later sound h.0, events_sound P Q f [] ms tt all.1 h.1)
events_sound P Q f later (Told (entry.Schedule schedule.RoundsDone) ∷ ms) sound all h = (h.0, events_sound P Q f [] ms tt all.1 h.1)
events_sound P Q f later (Told e ∷ ms) sound all h = events_sound P Q f (Told e ∷ later) ms (sound_of ms (Told e) all.0, sound) all.1 h

-- ---- it starts or stops

starts_so : (n e : ℕ) (x : Moment) → IsSound x → starts_or_fails n e x ≡ true → (is_start e x || is_stop_of n x) ≡ true
starts_so n e (disk_failed m) sound h = absurd sound
starts_so n e _ sound h = h

any_starts : (n e : ℕ) (xs : List Moment) → AllByRecursion IsSound xs → list_any (starts_or_fails n e) xs ≡ true → list_any (λ x. is_start e x || is_stop_of n x) xs ≡ true
any_starts n e [] sound h = h
any_starts n e (x ∷ xs) sound h = by_test (starts_or_fails n e x) (list_any (starts_or_fails n e) xs) (is_start e x || is_stop_of n x) (list_any (λ y. is_start e y || is_stop_of n y) xs) (starts_so n e x sound.0) (any_starts n e xs sound.1) h
  where
    by_test : (a b c d : Bool) → (a ≡ true → c ≡ true) → (b ≡ true → d ≡ true) → (a || b) ≡ true → (c || d) ≡ true
    by_test a b true d f g h = refl
    by_test true b false d f g h = absurd (false_true (f refl))
    by_test false b false d f g h = g h

on_both : (own none : Bool) (starts goes : Bool) (begins : Bool) → (begins ≡ true → starts ≡ true) → (not own || goes) ≡ true → (not own || not none || begins) ≡ true → (not own || (if none then starts else goes)) ≡ true
on_both false none starts goes begins f h k = refl
on_both true false starts goes begins f h k = h
on_both true true starts goes begins f h k = f k

goes_on : (before whole later : List Moment) → AllByRecursion IsSound whole → EachGoesOut before whole later → EachBegins before whole later → EachInstall before whole later
goes_on before whole [] sound h k = tt
goes_on before whole (installed n e ∷ later) sound h k =
    let ns : List ℕ = others e (members_of e before) in (
      on_both (n == coordinator e) (length ns == 0) (list_any (λ x. is_start e x || is_stop_of n x) whole) (goes_to n ns whole) (list_any (starts_or_fails n e) whole) (any_starts n e whole sound) h.0 k.0,
      goes_on before whole later sound h.1 k.1,
    )
goes_on before whole (x ∷ later) sound h k = goes_on before whole later sound h k

-- ---- each run

at_once : (S : Setting) (cells : ℕ) → S.cells ≡ cells → (before : List Moment) (x : Moment) (entries : List Moment) → AllByRecursion IsSound entries → GoesIn cells before x entries → GoesOnAtOnce S before x entries
at_once S cells same before x entries sound h left =
    let both : EachGoesOut before entries entries × EachBegins before entries entries = h (subst (λ k. nat_lt (links_after k (messages.onto (x ∷ before) entries)).next (2 ^ 63) ≡ true) same left) in
    goes_on before entries entries sound both.0 both.1

pub each_install_of_each_run : EachInstallOfEachRun
each_install_of_each_run h cells hs S nodes few small same may shaped boots short =
    events_sound (GoesIn cells) (GoesOnAtOnce S) (at_once S cells same) [] (all_happened (first_cluster h) (first_scene h cells) hs).moments tt
    (no_disk_fails_in_each_run h cells hs nodes few small may boots short) (goes_in_each_run h cells hs nodes few small may shaped boots)
