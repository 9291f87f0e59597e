-- In each run `ok` to an update stands behind its acknowledgement, where the laws of presidents and of members hold.
use Rattle.std.specs.Prelude.{ℕ, ◌<◌, ◌≤◌, ◌^◌, List, length}
use Rattle.cl_base.specs.Limits.{most_devices}
use Rattle.cl_base.specs.declared.header.Header.{Header}
use Rattle.history.specs.Commands.{AnswersOnce}
use Rattle.history.specs.Moment.{lines_of}
use Rattle.history.specs.Order.{Always}
use Rattle.history.specs.Requests.{AnsweredAfterAck}
use Rattle.history_setting.specs.Settings.{setting_of}
use Rattle.world_model.specs.First.{first_cluster}
use Rattle.run_history.specs.Happenings.{Happening, MayAllHappen, all_happened}
use Rattle.run_history.specs.Scenes.{Scene, first_scene}
use Rattle.run_messages.proofs.Spelling.{spelled_of_each_run}
use Rattle.run_commands.proofs.carried.Laws.{updates_of_each_run}
use Rattle.run_commands.proofs.acknowledged.Laws.{asked_once_in_each_run}
use Rattle.run_commands.specs.acknowledged.Requested.{IsToAnother}
use Rattle.run_commands.proofs.acknowledged.Settled.{AnswersAreMembers, AnswersAreSettled, OwnAreSettled}
use Rattle.run_commands.proofs.acknowledged.Final.{answered_after}
use Rattle.run_commands.proofs.acknowledged.Following.{followed_in_each}
use Rattle.run_commands.proofs.acknowledged.Readings.{updates_are_read}

-- what a run is to tell of members and presidents
pub record TellsSo (h : Header) (s : Scene) : Type 0 where
  pub members : AnswersAreMembers s.moments
  pub settled : AnswersAreSettled (setting_of h) (first_cluster h) s.moments
  pub own : OwnAreSettled (setting_of h) s.moments
  pub apart : Always IsToAnother s.moments

pub answered_in_each : (h : Header) (cells : ℕ) (hs : List Happening) → length h.devices ≤ most_devices → h.cluster < 2 ^ 32 → MayAllHappen (first_cluster h) (first_scene h cells) hs
    → (let s : Scene = all_happened (first_cluster h) (first_scene h cells) hs in length (lines_of s.moments) < 2 ^ 63 → AnswersOnce s.moments → TellsSo h s → AnsweredAfterAck (setting_of h) s.moments)
answered_in_each h cells hs few small may lines once t =
    answered_after (setting_of h) (first_cluster h) _ (updates_are_read h) (record {
      once = asked_once_in_each_run h cells hs few small may lines;
      followed = followed_in_each h cells hs may;
      spelled = spelled_of_each_run h cells hs few small may;
      carried = updates_of_each_run h cells hs few small may lines;
      waits = once;
      members = t.members;
      settled = t.settled;
      own = t.own;
      apart = t.apart;
    })
