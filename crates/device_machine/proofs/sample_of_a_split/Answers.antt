use Rattle.std.proofs.Common.{inr, refl, ◌++◌}
use Rattle.device_machine.specs.Sharing.{first_sharing}
use Rattle.device_machine.specs.Sample.{pair, forming, formed, faulting, faulted, splitting, split, returning, returned, reforming, reformed}
use Rattle.device_machine.proofs.Samples.{run_on, refused}
use Rattle.device_machine.proofs.SplitRun.{forming_run, faulting_run, splitting_run, returning_run, reforming_run}
use Rattle.device_machine.proofs.sample_of_a_split.Goals as goal

pub returns-clause-run : goal.returns-clause-run
returns-clause-run c = run_on (first_sharing (pair 1 2)) returned reformed (forming ++ faulting ++ splitting ++ returning) reforming (run_on (first_sharing (pair 1 2)) split returned (forming ++ faulting ++ splitting) returning (run_on (first_sharing (pair 1 2)) faulted split (forming ++ faulting) splitting (run_on (first_sharing (pair 1 2)) formed faulted forming faulting forming_run faulting_run) splitting_run) returning_run) reforming_run

pub returns-clause-both : goal.returns-clause-both
returns-clause-both c = ((refl, inr refl), (refl, inr refl))

pub returns-clause-held : goal.returns-clause-held
returns-clause-held c = ((refl, refl), (refl, inr refl))

pub returns-clause-fenced : goal.returns-clause-fenced
returns-clause-fenced c = (refl, refused split.device 2 refl refl)

pub returns-clause-rejected : goal.returns-clause-rejected
returns-clause-rejected c = refl

pub returns-clause-again : goal.returns-clause-again
returns-clause-again c = ((refl, refl), (refl, inr refl), refl)
