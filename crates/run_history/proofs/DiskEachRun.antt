-- Each write that a device takes in a run is a member's own, so each run obeys the disk rule.
use Rattle.std.specs.Prelude.{ℕ, ◌≤◌, ◌<◌, ◌^◌, List, length}
use Rattle.cl_base.specs.declared.header.Header.{Header}
use Rattle.run_history.proofs.DeedRuns.{runs_are_cut}
use Rattle.run_history.specs.Runs.{CutsOf, IsRun}
use Rattle.run_history.proofs.DevicesRun.{devices_of_each_run}
use Rattle.run_history.proofs.Obeys.{disk_rule_by_writes}
use Rattle.run_history.specs.WorldLines.{AreDisks}
use Rattle.run_history.proofs.MemberScenes.{members_of_each_run}
use Rattle.run_history.proofs.StartRuns.{starts_of_each_run}
use Rattle.world_model.specs.First.{first_cluster}
use Rattle.run_history.specs.Happenings.{Happening, all_happened}
use Rattle.run_history.specs.Scenes.{first_scene}
use Rattle.run_history.proofs.WholeEachRun.{runs_are_whole}
use Rattle.run_history.specs.Wholes.{IsRunOfWhole}
use Rattle.run_history.proofs.Safety.{Known, write_own}
use Rattle.run_history.specs.DiskRules.{DiskRuleOfEachRun}

-- What is known of the scene that a run comes to.
known_of : (h : Header) (cells : ℕ) (hs : List Happening) → length h.devices ≤ 16 → h.cluster < 2 ^ 32 → AreDisks h → IsRun h cells hs
    → Known h (all_happened (first_cluster h) (first_scene h cells) hs)
known_of h cells hs few small disks may =
    let cuts : CutsOf h cells hs = runs_are_cut h cells hs in
    let w : IsRunOfWhole h cells hs cuts = runs_are_whole h cells hs cuts few small may in
    record {
      devices = devices_of_each_run h cells hs few disks may;
      members = members_of_each_run h cells hs few may;
      whole = w.scene;
      started = starts_of_each_run h cells hs cuts w.scene.machine.memberships few may w.memberships;
    }

pub disk_rule_of_each_run : DiskRuleOfEachRun
disk_rule_of_each_run h cells hs few small disks may =
    disk_rule_by_writes h cells hs
    (λ gs so n d value now ends may_write taken. write_own h (all_happened (first_cluster h) (first_scene h cells) gs) (known_of h cells gs few small disks so) n d value now ends few may_write taken) may
