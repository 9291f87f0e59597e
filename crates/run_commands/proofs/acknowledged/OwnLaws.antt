-- What a president tells its own commands is settled, and nobody sends an Answer to itself, in each run.
use Rattle.std.specs.Prelude.{ℕ, List}
use Rattle.cl_base.specs.declared.header.Header.{Header}
use Rattle.history.specs.Moment.{Moment}
use Rattle.history.specs.Order.{Always}
use Rattle.history.specs.Setting.{Setting}
use Rattle.node_model.specs.declared.cluster.Cluster.{Cluster}
use Rattle.world_model.specs.First.{first_cluster}
use Rattle.run_history.specs.Happenings.{Happening, MayAllHappen, all_happened}
use Rattle.run_history.specs.Scenes.{first_scene}
use Rattle.run_messages.proofs.Reaching.{IsSmall}
use Rattle.run_commands.proofs.carried.Runs.{FewLines}
use Rattle.run_commands.proofs.acknowledged.Commands.{Reads}
use Rattle.run_commands.proofs.acknowledged.Carrying.{Carries}
use Rattle.run_commands.proofs.acknowledged.Own.{ActOwn, ChangeOwn, HasNext, ReadsOwn}
use Rattle.run_commands.proofs.acknowledged.Remote.{IsUntouched, RemoteUp}
use Rattle.run_commands.specs.acknowledged.Requested.{IsToAnother}
use Rattle.run_commands.proofs.acknowledged.Settled.{AcksArePending, AnswersAreSettled, OwnAreSettled}
use Rattle.run_commands.proofs.acknowledged.AnsweringCourses.{course_goes}
use Rattle.run_commands.proofs.acknowledged.AnsweringLaws.{remote_carries}
use Rattle.run_commands.proofs.acknowledged.OwnCarries.{WithTold, WithUp, own_carries}
use Rattle.run_commands.proofs.acknowledged.OwnCourses.{own_each}
use Rattle.run_commands.proofs.acknowledged.OwnLines.{to_others}
use Rattle.run_commands.proofs.acknowledged.RemoteFirsts.{remote_firsts}
use Rattle.run_commands.proofs.acknowledged.AnsweringRuns.{carried_in_each}

-- what is answered to others and to itself, carried together
both_carry : (S : Setting) (c : Cluster) → Reads c S → ReadsOwn c S → Carries S c (WithUp S (RemoteUp S c)) (IsUntouched S) (WithTold S (AnswersAreSettled S c)) HasNext ActOwn ChangeOwn
both_carry S c reads own =
    own_carries S c (RemoteUp S c) (IsUntouched S) (AnswersAreSettled S c) _ _ _ own reads.updates (remote_carries S c) (λ i n v x a k. tt) (λ i n v x change k. tt)
    (λ n promised d x next ms place pending h. remote_firsts S c n promised d x next ms place pending h)

-- what is proved of answers at their president
pub record PresidentsAnswer (S : Setting) (c : Cluster) (ms : List Moment) : Type 0 where
  pub settled : AnswersAreSettled S c ms
  pub own : OwnAreSettled S ms
  pub others : Always IsToAnother ms

pub answers_in_each : (S : Setting) (h : Header) (cells : ℕ) (hs : List Happening) → Reads (first_cluster h) S → ReadsOwn (first_cluster h) S → IsSmall h
    → MayAllHappen (first_cluster h) (first_scene h cells) hs → FewLines (all_happened (first_cluster h) (first_scene h cells) hs).moments
    → AcksArePending (all_happened (first_cluster h) (first_scene h cells) hs).moments → PresidentsAnswer S (first_cluster h) (all_happened (first_cluster h) (first_scene h cells) hs).moments
answers_in_each S h cells hs reads own size may few acks =
    let r : WithTold S (AnswersAreSettled S (first_cluster h)) (all_happened (first_cluster h) (first_scene h cells) hs).moments =
    carried_in_each S h cells (WithUp S (RemoteUp S (first_cluster h))) (IsUntouched S) (WithTold S (AnswersAreSettled S (first_cluster h))) HasNext ActOwn ChangeOwn (both_carry S (first_cluster h) reads own)
    (own_each (first_cluster h)) (course_goes (first_cluster h)) reads size hs may few acks in
    record { settled = r.0; own = r.1.settled; others = to_others (all_happened (first_cluster h) (first_scene h cells) hs).moments r.1.letters }
