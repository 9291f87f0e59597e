-- Probes: a report of a monitor is skipped exactly where the resource has no monitor in the own map; else it comes to what the rule over the
-- restarts there says. And a monitor's request has the words of what was asked.
use Rattle.std.specs.Prelude.{◌≡◌, ℕ, Bool, true, false, List, [], ◌∷◌, Option, Some, IfSome}
use Rattle.std.specs.List.{find}
use Rattle.restart_policy.specs.declared.policy.ProbeAction.{ProbeAction}
use Rattle.restart_policy.specs.declared.policy.ProbeAction.TheVariants as action
use Rattle.rgm_member.specs.Probes as probes
use Rattle.rgm_member.specs.State.{WorkerState}
use Rattle.rgm_member.specs.declared.probed.Probed.{Probed}
use Rattle.rgm_member.specs.declared.probed.Probed.TheVariants.{NoMonitor, Good, Failed}
use Rattle.schedule_text.specs.declared.event.Event.TheVariants as event
use Rattle.schedule_text.specs.declared.line.Line.TheVariants as line
use Rattle.status_report.specs.declared.call_entry.ProbeResult.{ProbeResult}
use Rattle.status_report.specs.declared.call_entry.ProbeResult.TheVariants as result
use Rattle.status_report.specs.declared.schedule_entry.SkipCause.TheVariants as skip
use Rattle.history.specs.Moment.{Moment, Said}
use Rattle.history.specs.Names as name
use Rattle.history.specs.Names.{Name, named}
use Rattle.history.specs.Trace.{sent, skipped}
use Rattle.history.specs.Order.{Always, EachEvent}
use Rattle.history.specs.Letters.{says, text_in}
use Rattle.history.specs.Member.{is_up}
use Rattle.group_history.specs.Setting.{Groups, second_of, config_at}
use Rattle.group_history.specs.Doings.{probed}
use Rattle.group_history.specs.OwnMap.{own_of}
use Rattle.group_history.specs.Desk.{Request, desk_of, is_request}

-- what the node keeps, as a member's own part sees it
abbrev pub worker_of : Groups → ℕ → List Moment → WorkerState
worker_of S n before = record {
  me = n;
  epoch = 0;
  outcomes = [];
  resources = (own_of S n before).marks;
  groups = (own_of S n before).past;
  restarts = (own_of S n before).restarts;
}

-- what the report of a monitor of r comes to
abbrev pub probe_of : Groups → ℕ → List ℕ → Bool → List Moment → Probed
probe_of S n r good before = probes.probed (worker_of S n before) (config_at S n before) r good (second_of before)

abbrev pub result_of : ProbeAction → ProbeResult
result_of action.Restart = result.Restart
result_of action.Move = result.Move
result_of action.Logged = result.Logged

abbrev pub entry_for : ℕ → List ℕ → Probed → Moment
entry_for n r NoMonitor = skipped skip.NoMonitor
entry_for n r Good = probed n r result.Ok
entry_for n r (Failed action) = probed n r (result_of action)

-- that is the first entry, and a skipped line has no other
abbrev pub BeginsWith : Probed → Moment → List Moment → Type 0
BeginsWith NoMonitor first entries = entries ≡ first ∷ []
BeginsWith came first [] = ⊥
BeginsWith came first (x ∷ later) = x ≡ first

abbrev pub IfRunning : Bool → Type 0 → Type 0
IfRunning true P = P
IfRunning false P = Unit {0}

abbrev pub IsProbed : Groups → List Moment → Moment → List Moment → Type 0
IsProbed S before (Said (line.Event (event.Probe n r good))) entries =
    IfRunning (is_up n before) (BeginsWith (probe_of S n r good before) (entry_for n r (probe_of S n r good before)) entries)
IsProbed S before _ entries = Unit {0}

abbrev pub ProbesAnswered : Groups → List Moment → Type 0
ProbesAnswered S moments = EachEvent (IsProbed S) moments

-- ---- the Request of a monitor

abbrev pub request_of : Groups → ℕ → ℕ → List Moment → Option Request
request_of S n q before = find (is_request n q) (desk_of S n before).own

abbrev pub ShowsWords : Groups → List Moment → ℕ → List ℕ → Name → Type 0
ShowsWords S before n bytes (name.Request q) = IfSome (request_of S n q before) (λ r. text_in (says bytes) ≡ Some r.words)
ShowsWords S before n bytes _ = Unit {0}

abbrev pub IsRequest : Groups → List Moment → Moment → Type 0
IsRequest S before (sent p n b called bytes) = ShowsWords S before n bytes (named called)
IsRequest S before _ = Unit {0}

abbrev pub RequestsTell : Groups → List Moment → Type 0
RequestsTell S moments = Always (IsRequest S) moments
