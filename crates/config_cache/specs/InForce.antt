-- The configuration in force under a list of updates.
use Rattle.std.specs.Prelude.{ℕ, Bool, List, [], ◌∷◌, ◌++◌, unwrap_or}
use Rattle.std.specs.Option.{is_some}
use Rattle.cl_base.specs.declared.header.Header.{Header}
use Rattle.ccr_tables.specs.State.{ConfigState, first_config}
use Rattle.update_log.specs.Logs.{config_after}

-- the configuration that the updates make of the header's; a list that is bad, which no node keeps, leaves the header's
abbrev pub config_under : Header → List (List ℕ) → ConfigState
config_under h texts = unwrap_or (config_after h texts) (first_config h)

-- whether one more update may come behind these
abbrev pub may_follow : Header → List (List ℕ) → List ℕ → Bool
may_follow h texts text = is_some (config_after h (texts ++ text ∷ []))
