-- The votes after a list of updates are those that the nodes count.
use Rattle.std.proofs.Common.{◌≡◌, Option, Some, None, refl}
use Rattle.std.specs.Option.{option_and_then, unwrap_or}
use Rattle.ccr_tables.specs.State.{ConfigState, first_config}
use Rattle.cl_base.specs.declared.header.Header.{Header}
use Rattle.node_model.specs.Attempts.{votes_by}
use Rattle.update_log.specs.Logs.{config_after, votes_after, votes_beside}
use Rattle.world_model.specs.First.{first_cluster}
use Rattle.run_history.proofs.VoteRuns.{votes_of_each_run}
use Rattle.history_setting.specs.Laws.{SettingCountsVotes, SettingVotesOfEachRun}
use Rattle.history_setting.specs.Settings.{setting_of}

-- a list that is bad leaves the header's votes
counts : (h : Header) (found : Option ConfigState) → (unwrap_or found (first_config h)).votes ≡ (votes_by (first_cluster h) (option_and_then (λ s. votes_beside s None) found)).committed
counts h None = refl
counts h (Some s) = refl

pub setting_counts_votes : SettingCountsVotes
unfolding votes_after
setting_counts_votes h updates = counts h (config_after h updates)

pub setting_votes_of_each_run : SettingVotesOfEachRun
setting_votes_of_each_run h cells hs few low may = votes_of_each_run h cells hs (setting_of h) (setting_counts_votes h) few may
