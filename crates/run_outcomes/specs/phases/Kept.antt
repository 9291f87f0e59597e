-- What each thing that happens keeps of the attempts of nodes.
use Rattle.std.specs.Prelude.{ℕ, ◌≡◌, ◌==◌, ◌<◌, ◌≤◌, ◌^◌, true, false, List, length, Option, None, Some}
use Rattle.std.specs.List.{list_any}
use Rattle.cl_base.specs.Limits.{most_devices}
use Rattle.cl_base.specs.declared.header.Header.{Header}
use Rattle.cmm_attempt.specs.Attempts.{AttemptState, is_over}
use Rattle.cmm_attempt.specs.Calls.{Call, Take}
use Rattle.cmm_attempt.specs.Promises.{has_promised}
use Rattle.cmm_attempt.specs.declared.phase.Phase.TheVariants.{Collecting}
use Rattle.history.specs.Moment.{Moment}
use Rattle.history.specs.Queue as told
use Rattle.node_model.specs.declared.node.Node.TheVariants.{Up}
use Rattle.node_model.specs.declared.node.UpNode.{UpNode}
use Rattle.run_history.specs.Happenings.{Happening, MayAllHappen, all_happened}
use Rattle.run_history.specs.Scenes.{Scene, first_scene}
use Rattle.run_packets.specs.views.Laws.{NoneForeign}
use Rattle.world_model.specs.First.{first_cluster}
use Rattle.run_outcomes.specs.phases.Laws.{HasAttempt}

-- I holds of the attempt, where there is one
abbrev pub In : (AttemptState → Type 0) → Option AttemptState → Type 0
In I None = Unit {0}
In I (Some a) = I a

abbrev pub IsMember : AttemptState → ℕ → Type 0
IsMember a m = list_any (λ k. k == m) a.plan.nodes ≡ true

-- while the attempt collects it has the Promise of each member of which this holds
abbrev pub Gathers : (ℕ → Type 0) → AttemptState → Type 0
Gathers Due a = a.phase ≡ Collecting → (m : ℕ) → IsMember a m → Due m → has_promised a.promises m ≡ true

-- .. of each whose Promise came
abbrev pub Takes : List Moment → AttemptState → Type 0
Takes moments a = Gathers (λ m. told.has_promised a.plan.epoch moments m ≡ true) a

-- another call than to take a message
abbrev pub IsOwnCall : Call → Type 0
IsOwnCall (Take from m) = ⊥
IsOwnCall _ = Unit {0}

-- it is of this number
abbrev pub GathersIn : ℕ → (ℕ → Type 0) → AttemptState → Type 0
GathersIn e Due a = (a.plan.epoch ≡ e) × Gathers Due a

abbrev pub AllTake : Scene → Type 0
AllTake s = (n : ℕ) (x : UpNode) (a : AttemptState) → s.nodes.node n ≡ Up x → x.attempt ≡ Some a → Takes s.moments a

-- P holds of each attempt that a node has at a point of a run, where it is not over
abbrev pub OfEachLive : (AttemptState → List Moment → Type 0) → Type 0
OfEachLive P = (h : Header) (cells : ℕ) (hs : List Happening) → length h.devices ≤ most_devices → h.cluster < 2 ^ 32
    → MayAllHappen (first_cluster h) (first_scene h cells) hs → NoneForeign (first_cluster h) (first_scene h cells) hs
    → (n : ℕ) (a : AttemptState) → HasAttempt (all_happened (first_cluster h) (first_scene h cells) hs) n a → is_over a.phase ≡ false
    → P a (all_happened (first_cluster h) (first_scene h cells) hs).moments
