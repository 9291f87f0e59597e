-- In each run `ok` to an update stands behind its acknowledgement.
use Rattle.history.specs.Moment.{Moment}
use Rattle.history_setting.specs.Settings.{setting_of}
use Rattle.std.specs.Prelude.{List}
use Rattle.world_model.specs.First.{first_cluster}
use Rattle.run_history.specs.Happenings.{all_happened}
use Rattle.run_history.specs.Scenes.{first_scene}
use Rattle.run_commands.proofs.carried.Laws.{replies_of_each_run}
use Rattle.run_commands.proofs.acknowledged.Laws.{reads}
use Rattle.run_commands.specs.acknowledged.Laws.{AnsweredOfEachRun}
use Rattle.run_commands.proofs.acknowledged.Each.{answered_in_each}
use Rattle.run_commands.proofs.acknowledged.OwnLaws.{PresidentsAnswer, answers_in_each}
use Rattle.run_commands.proofs.acknowledged.OwnReads.{reads_own}
use Rattle.run_commands.proofs.acknowledged.Pendings.{acks_pending_in_each}

pub answered_of_each_run : AnsweredOfEachRun
answered_of_each_run h cells hs few small may lines once =
    let ms : List Moment = (all_happened (first_cluster h) (first_scene h cells) hs).moments in
    let p : PresidentsAnswer (setting_of h) (first_cluster h) ms =
    answers_in_each (setting_of h) h cells hs (reads h) (reads_own h) (record { few = few; small = small }) may lines (acks_pending_in_each h cells hs few small may) in
    answered_in_each h cells hs few small may lines once (record { members = replies_of_each_run h cells hs few small may lines; settled = p.settled; own = p.own; apart = p.others })
