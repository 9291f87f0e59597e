use Rattle.std.proofs.Common.{inr, refl, ◌++◌}
use Rattle.device_machine.specs.Sharing.{first_sharing}
use Rattle.device_machine.specs.Sample.{no_node, sharing, shared, leaving_out, left_out, registering_late, late, seizing_again, cleaned}
use Rattle.device_machine.proofs.Samples.{run_on, refused}
use Rattle.device_machine.proofs.LateRun.{sharing_run, leaving_out_run, registering_late_run, seizing_again_run}
use Rattle.device_machine.proofs.sample_of_a_late_registration.Goals as goal

pub returns-clause-run : goal.returns-clause-run
returns-clause-run c = run_on (first_sharing no_node) late cleaned (sharing ++ leaving_out ++ registering_late) seizing_again (run_on (first_sharing no_node) left_out late (sharing ++ leaving_out) registering_late (run_on (first_sharing no_node) shared left_out sharing leaving_out sharing_run leaving_out_run) registering_late_run) seizing_again_run

pub returns-clause-registered : goal.returns-clause-registered
returns-clause-registered c = (refl, inr refl)

pub returns-clause-unclaimed : goal.returns-clause-unclaimed
returns-clause-unclaimed c = (refl, refl)

pub returns-clause-preempted : goal.returns-clause-preempted
returns-clause-preempted c = (refl, refused cleaned.device 3 refl refl)

pub returns-clause-written : goal.returns-clause-written
returns-clause-written c = ((refl, refl), (refl, inr refl), refl)
