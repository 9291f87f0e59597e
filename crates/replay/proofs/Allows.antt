-- The schedule that lines are is allowed: its header, and each of its events.
use Rattle.std.proofs.Common.{◌≡◌, ℕ, zero, suc, List, [], ◌∷◌, take, IfSome, Option, Some, None, Result, Ok, Err, refl}
use Rattle.std.specs.List.{AllByRecursion}
use Rattle.cl_base.specs.declared.header.Header.{Header}
use Rattle.schedule_text.specs.declared.event.Event.{Event}
use Rattle.schedule_text.specs.declared.event.Event.TheVariants as event
use Rattle.schedule_text.specs.declared.header.Head.{Head}
use Rattle.schedule_text.specs.declared.header.Head.TheVariants.{Pr, Cluster}
use Rattle.schedule_text.specs.declared.header.HeaderState.{HeaderState}
use Rattle.schedule_text.specs.declared.kind.Kind.{Kind}
use Rattle.schedule_text.specs.declared.line.ClusterLine.{ClusterLine}
use Rattle.schedule_text.specs.declared.line.ClusterLine.TheVariants as cluster
use Rattle.schedule_text.specs.declared.line.SoFar.{SoFar}
use Rattle.schedule_text.specs.Allowed.{IsAllowedEvent, IsHeader}
use Rattle.schedule_text.specs.Headers.{HeaderStep, More, Over, Bad, head_of, header_step}
use Rattle.schedule_text.specs.Lines.{cluster_line_of, so_far_after_event}
use Rattle.grammar_laws.specs.Reads.{HasFewBytes, HasSeconds, LacksServers}
use Rattle.grammar_laws.proofs.Events.{events_are_allowed, seconds_fit}
use Rattle.grammar_laws.proofs.Heads.{IsFineHead, IsFineState, head_fine, state_kept}
use Rattle.refinement.specs.Worlds.{IsNamed}
use Rattle.run_history.specs.Telling.{IsInHeader}
use Rattle.run_outcomes.specs.Traces.{IsPlain}
use Rattle.interpreter.specs.Sessions.{first_so_far}
use Rattle.replay.specs.Replays.{OfCluster, OfDevice, Schedule, behind, events_of, schedule_of, stepped, with_event}
use Rattle.replay.specs.Histories.{AreAllowed}

-- ---- the events

with_allowed : (h : Header) (s : SoFar) (bytes : List ℕ) (r : Result ClusterLine Kind) (rest : SoFar → List Event) → cluster_line_of h s bytes ≡ r
    → ((next : SoFar) → AreAllowed h next (rest next)) → AreAllowed h s (with_event r s rest)
with_allowed h s bytes (Ok cluster.Blank) rest is later = later s
with_allowed h s bytes (Ok cluster.End) rest is later = tt
with_allowed h s bytes (Ok (cluster.Event e)) rest is later = (events_are_allowed h s bytes e is, seconds_fit h s bytes e is, later (so_far_after_event s e))
with_allowed h s bytes (Err kind) rest is later = tt

events_allowed : (h : Header) (s : SoFar) (lines : List (List ℕ)) → AreAllowed h s (events_of h s lines)
events_allowed h s [] = tt
events_allowed h s (line ∷ lines) = with_allowed h s line (cluster_line_of h s line) (λ next. events_of h next lines) refl (λ next. events_allowed h next lines)

pub first_allowed : (h : Header) (s : SoFar) (count : ℕ) (events : List Event) → AreAllowed h s events → AreAllowed h s (take count events)
first_allowed h s zero [] are = tt
first_allowed h s zero (e ∷ events) are = tt
first_allowed h s (suc count) [] are = tt
first_allowed h s (suc count) (e ∷ events) are = (are.0, are.1, first_allowed h (so_far_after_event s e) count events are.2)

-- ---- the schedule

abbrev pub IsAllowedSchedule : Option Schedule → Type 0
IsAllowedSchedule None = Unit {0}
IsAllowedSchedule (Some (OfDevice senders steps)) = Unit {0}
IsAllowedSchedule (Some (OfCluster h events)) = IsHeader h × LacksServers h × AreAllowed h first_so_far events

behind_allowed : (found : Option Head) (lines : List (List ℕ)) → IfSome found IsFineHead → IsAllowedSchedule (behind found lines)
behind_allowed None lines is = tt
behind_allowed (Some (Pr senders)) lines is = tt
behind_allowed (Some (Cluster h)) lines is = (is.0, is.1, events_allowed h first_so_far lines)

stepped_allowed : (state : HeaderState) (line : List ℕ) (step : HeaderStep) (more : HeaderState → Option Schedule) (over : Option Schedule) → header_step state line ≡ step → IsFineState state
    → ((next : HeaderState) → IsFineState next → IsAllowedSchedule (more next)) → IsAllowedSchedule over → IsAllowedSchedule (stepped step more over)
stepped_allowed state line (More next) more over is allowed later here = later next (state_kept state next line allowed is)
stepped_allowed state line Over more over is allowed later here = here
stepped_allowed state line (Bad kind) more over is allowed later here = tt

pub schedule_allowed : (state : HeaderState) (lines : List (List ℕ)) → IsFineState state → IsAllowedSchedule (schedule_of state lines)
schedule_allowed state [] allowed = behind_allowed (head_of state) [] (head_fine state allowed)
schedule_allowed state (line ∷ lines) allowed =
    stepped_allowed state line (header_step state line) (λ next. schedule_of next lines) (behind (head_of state) (line ∷ lines)) refl allowed (λ next are. schedule_allowed next lines are)
    (behind_allowed (head_of state) (line ∷ lines) (head_fine state allowed))

-- ---- what the world supposes of events

named : (h : Header) (s : SoFar) (e : Event) → IsAllowedEvent h s e → HasSeconds e → IsNamed e
named h s (event.Boot n) is fits = is.0
named h s (event.Crash n) is fits = is.0
named h s (event.CrashAt n calls choice) is fits = is.0.0
named h s (event.Tick n) is fits = is.0
named h s (event.Deliver number) is fits = tt
named h s (event.Lose number) is fits = tt
named h s (event.Repeat number) is fits = tt
named h s (event.Next from to) is fits = tt
named h s (event.Drop from to) is fits = tt
named h s (event.Again from to) is fits = tt
named h s (event.Disk n) is fits = is.0
named h s (event.Fault n d done) is fits = tt
named h s (event.Write n d value) is fits = is.0.0
named h s (event.Command n words) is fits = is.0.0
named h s (event.Outcome n r m outcome) is fits = tt
named h s (event.Probe n r good) is fits = is.0.0
named h s (event.Clock second) is fits = fits
named h s (event.Rounds count nodes) is fits = tt
named h s (event.Client n address client port) is fits = is.1.0

in_header : (h : Header) (s : SoFar) (e : Event) → IsAllowedEvent h s e → IsInHeader h e
in_header h s (event.Boot n) is = is.2
in_header h s (event.Crash n) is = tt
in_header h s (event.CrashAt n calls choice) is = tt
in_header h s (event.Tick n) is = tt
in_header h s (event.Deliver number) is = tt
in_header h s (event.Lose number) is = tt
in_header h s (event.Repeat number) is = tt
in_header h s (event.Next from to) is = tt
in_header h s (event.Drop from to) is = tt
in_header h s (event.Again from to) is = tt
in_header h s (event.Disk n) is = tt
in_header h s (event.Fault n d done) is = (is.0.0, is.0.2, is.1.0, is.1.2)
in_header h s (event.Write n d value) is = tt
in_header h s (event.Command n words) is = tt
in_header h s (event.Outcome n r m outcome) is = tt
in_header h s (event.Probe n r good) is = tt
in_header h s (event.Clock second) is = tt
in_header h s (event.Rounds count nodes) is = tt
in_header h s (event.Client n address client port) is = tt

pub all_named : (h : Header) (s : SoFar) (events : List Event) → AreAllowed h s events → AllByRecursion IsNamed events
all_named h s [] are = tt
all_named h s (e ∷ events) are = (named h s e are.0 are.1, all_named h (so_far_after_event s e) events are.2)

pub all_in_header : (h : Header) (s : SoFar) (events : List Event) → AreAllowed h s events → AllByRecursion (IsInHeader h) events
all_in_header h s [] are = tt
all_in_header h s (e ∷ events) are = (in_header h s e are.0, all_in_header h (so_far_after_event s e) events are.2)

-- ---- what is proved of runs is so of plain lines

plain : (h : Header) (s : SoFar) (e : Event) → IsAllowedEvent h s e → HasFewBytes 4096 e → IsPlain h e
plain h s (event.Boot n) is few = is.2
plain h s (event.Fault n d done) is few = (is.0.0, is.0.2, is.1.0, is.1.2)
plain h s (event.Write n d value) is few = is.1.0
plain h s (event.Command n words) is few = few
plain h s (event.Rounds count nodes) is few = is.0
plain h s _ is few = tt

pub all_plain : (h : Header) (s : SoFar) (events : List Event) → AreAllowed h s events → AllByRecursion (HasFewBytes 4096) events → AllByRecursion (IsPlain h) events
all_plain h s [] are few = tt
all_plain h s (e ∷ events) are few = (plain h s e are.0 few.0, all_plain h (so_far_after_event s e) events are.2 few.1)
