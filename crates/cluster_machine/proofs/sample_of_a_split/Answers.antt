use Rattle.std.proofs.Common.{◌++◌}
use Rattle.cluster_machine.specs.Cluster.{first_cluster}
use Rattle.cluster_machine.specs.Sample.{attached, sample_setting, seizing, seized, forming, formed, updating, updated, fencing, fenced, splitting, split}
use Rattle.cluster_machine.proofs.SampleRun.{run_on, seizing_run, forming_run, updating_run, fencing_run, splitting_run, split_started, split_base, still_member, write_refused, content}
use Rattle.cluster_machine.proofs.sample_of_a_split.Goals as goal

pub returns-clause-run : goal.returns-clause-run
returns-clause-run c =
    run_on sample_setting (first_cluster attached) fenced split (seizing ++ forming ++ updating ++ fencing) splitting
    (run_on sample_setting (first_cluster attached) updated fenced (seizing ++ forming ++ updating) fencing
    (run_on sample_setting (first_cluster attached) formed updated (seizing ++ forming) updating
    (run_on sample_setting (first_cluster attached) seized formed seizing forming seizing_run forming_run) updating_run) fencing_run) splitting_run

pub returns-clause-started : goal.returns-clause-started
returns-clause-started c = split_started

pub returns-clause-base : goal.returns-clause-base
returns-clause-base c = split_base

pub returns-clause-believes : goal.returns-clause-believes
returns-clause-believes c = still_member

pub returns-clause-refused : goal.returns-clause-refused
returns-clause-refused c = write_refused

pub returns-clause-written : goal.returns-clause-written
returns-clause-written c = content
