-- When a decision of a president would change nothing, and under which updates this is known.
use Rattle.std.specs.Prelude.{◌≡◌, ℕ, Bool, true, false, List, [], Option, None, Some}
use Rattle.std.specs.List.{list_any}
use Rattle.ccr_tables.specs.State.{ConfigState}
use Rattle.config_cache.specs.InForce.{config_under}
use Rattle.config_cache.specs.Lists.{UpdateList}
use Rattle.rg_view.specs.declared.states.ResourceAt.{ResourceAt}
use Rattle.rgm_president.specs.Decisions.{decision}
use Rattle.rgm_president.specs.State.{PresidentState}

-- the same at another second
abbrev pub at_second : ℕ → PresidentState → PresidentState
at_second now p = record p { view = record p.view { now = now } }

-- A decision under this configuration changes nothing but the second, and gives no order, whenever it comes and whether it is held up or not.
abbrev pub IsSteady : ConfigState → PresidentState → Type 0
IsSteady c p = (now : ℕ) (held_up : Bool) → decision c now held_up p ≡ record { president = at_second now p; orders = [] }

-- So it is under the configuration in force of these updates, where any are kept.
abbrev pub IsSteadyUnder : Option UpdateList → PresidentState → Type 0
IsSteadyUnder None p = ⊥
IsSteadyUnder (Some b) p = IsSteady (config_under b.header b.texts) p

-- where the president takes itself for steady, it is
abbrev pub StandsBy : Bool → Option UpdateList → PresidentState → Type 0
StandsBy false basis p = Unit {0}
StandsBy true basis p = IsSteadyUnder basis p

-- whether a resource is faulted on a node
abbrev pub is_any_faulted : List ResourceAt → Bool
is_any_faulted states = list_any (λ s. s.faulted) states

-- whether a state, where there is one, is faulted
abbrev pub is_faulted_in : Option ResourceAt → Bool
is_faulted_in None = false
is_faulted_in (Some s) = s.faulted
