-- What the flags and failures of resources mean for nodes: a node panics exactly where a method that stops failed under HARD; a Promise tells whether its
-- sender has a flag; and an attempt that ends `excluded` left out a node with one.
use Rattle.std.specs.Prelude.{◌≡◌, ℕ, ◌==◌, ◌&&◌, ◌||◌, not, Bool, true, false, if◌then◌else◌, List, ◌∷◌, Option, Some, None}
use Rattle.std.specs.List.{list_any}
use Rattle.cl_base.specs.declared.history.FailoverMode.{FailoverMode}
use Rattle.cl_base.specs.declared.history.FailoverMode.TheVariants as mode
use Rattle.rgm_member.specs.Outcomes.{is_success}
use Rattle.rgm_member.specs.Settings.{mode_of}
use Rattle.wire.specs.declared.message.Body.{Body}
use Rattle.wire.specs.declared.message.Body.TheVariants as body
use Rattle.history.specs.Moment.{Moment}
use Rattle.history.specs.Names as name
use Rattle.history.specs.Names.{Name, named}
use Rattle.history.specs.Trace.{sent, ended_excluded}
use Rattle.history.specs.Order.{Always}
use Rattle.history.specs.Setting.{coordinator}
use Rattle.history.specs.Letters.{Letter, says}
use Rattle.history.specs.Records.{promises}
use Rattle.group_history.specs.Setting.{Groups, config_of}
use Rattle.group_history.specs.Doings.{done, stop_panic}
use Rattle.group_history.specs.OwnMap.{own_of}
use Rattle.group_history.specs.Evidence.{stops}

-- ---- panics

abbrev pub is_hard : FailoverMode → Bool
is_hard mode.Hard = true
is_hard mode.None = false
is_hard mode.Soft = false
is_hard mode.RestartOnly = false
is_hard mode.LogOnly = false

-- a node, and the resource that it could not stop
pub record Panicking : Type 0 where
  pub node : ℕ
  pub resource : List ℕ

abbrev pub panicking : ℕ → List ℕ → Option Panicking
panicking n r = Some (record { node = n; resource = r })

-- the panic that is due right after these moments
abbrev pub panic_due : Groups → List Moment → Option Panicking
panic_due S (done e n method r outcome ∷ before) =
    if stops method && not (is_success outcome) && is_hard (mode_of (config_of S e before) r) then panicking n r else None
panic_due S _ = None

abbrev pub panic_of : Moment → Option Panicking
panic_of (stop_panic n r) = panicking n r
panic_of _ = None

abbrev pub Panics : Groups → List Moment → Type 0
Panics S moments = Always (λ before x. panic_of x ≡ panic_due S before) moments

-- ---- flags

abbrev pub has_flags : Groups → ℕ → List Moment → Bool
has_flags S n before = list_any (λ e. e.1.pre || e.1.run || e.1.mon) (own_of S n before).marks

abbrev pub flagged_in : Option Body → Option Bool
flagged_in (Some (body.Promise epoch newest members valid flagged committed pending)) = Some flagged
flagged_in _ = None

abbrev pub ShowsFlags : Groups → List Moment → ℕ → List ℕ → Name → Type 0
ShowsFlags S before n bytes name.Promise = flagged_in (says bytes) ≡ Some (has_flags S n before)
ShowsFlags S before n bytes _ = Unit {0}

abbrev pub IsFlagged : Groups → List Moment → Moment → Type 0
IsFlagged S before (sent p n b called bytes) = ShowsFlags S before n bytes (named called)
IsFlagged S before _ = Unit {0}

abbrev pub PromisesTell : Groups → List Moment → Type 0
PromisesTell S moments = Always (IsFlagged S) moments

-- ---- an attempt that ends `excluded m`

abbrev pub promised_flags : Groups → ℕ → Letter → Bool
promised_flags S m l = (l.from == m) && has_flags S m l.before

-- m had a flag where it sent its Promise; the coordinator itself has one now
abbrev pub has_kept_flags : Groups → ℕ → ℕ → List Moment → Bool
has_kept_flags S e m before = if m == coordinator e then has_flags S m before else list_any (promised_flags S m) (promises e before)

abbrev pub IsExclusion : Groups → List Moment → Moment → Type 0
IsExclusion S before (ended_excluded e m) = has_kept_flags S e m before ≡ true
IsExclusion S before _ = Unit {0}

abbrev pub Exclusions : Groups → List Moment → Type 0
Exclusions S moments = Always (IsExclusion S) moments
