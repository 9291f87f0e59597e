use Rattle.device_queue.proofs.Kept.{kept_joins, kept_results}
use Rattle.device_queue.proofs.laws.kept_results_stay.Goals as goal

pub returns-clause-seizing : goal.returns-clause-seizing
returns-clause-seizing c = kept_results

pub returns-clause-joining : goal.returns-clause-joining
returns-clause-joining c = kept_joins
