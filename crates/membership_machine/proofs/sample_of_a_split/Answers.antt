use Rattle.std.proofs.Common.{◌++◌}
use Rattle.membership_machine.specs.State.{first_memberships}
use Rattle.membership_machine.specs.Sample.{sample_setting, forming, formed, changing, changed, reforming, reformed, updating, updated, splitting, split}
use Rattle.membership_machine.proofs.SampleRun.{run_on, forming_run, changing_run, reforming_run, updating_run, splitting_run, formed_members, split_started, split_base}
use Rattle.membership_machine.proofs.sample_of_a_split.Goals as goal

pub returns-clause-run : goal.returns-clause-run
returns-clause-run c =
    run_on sample_setting first_memberships updated split (forming ++ changing ++ reforming ++ updating) splitting
    (run_on sample_setting first_memberships reformed updated (forming ++ changing ++ reforming) updating
    (run_on sample_setting first_memberships changed reformed (forming ++ changing) reforming
    (run_on sample_setting first_memberships formed changed forming changing forming_run changing_run) reforming_run) updating_run) splitting_run

pub returns-clause-formed : goal.returns-clause-formed
returns-clause-formed c = formed_members

pub returns-clause-started : goal.returns-clause-started
returns-clause-started c = split_started

pub returns-clause-base : goal.returns-clause-base
returns-clause-base c = split_base
