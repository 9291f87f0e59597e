-- A command is carried out at a device, in the world and in the scene.
use Rattle.std.specs.Prelude.{ℕ, ◌-◌, ◌≡◌, ◌≢◌, ◌⊎◌, Bool, true, false, List, Option, None, Some, Ok, slice_get, slice_set}
use Rattle.std.proofs.Common.{refl, subst, inl, inr}
use Rattle.std.proofs.lemmas.List.{length-set}
use Rattle.cl_base.specs.Sets.{has}
use Rattle.cmm_attempt.proofs.Basics.{if_either}
use Rattle.machine_base.proofs.Puts.{same_or_not}
use Rattle.pgr_device.specs.Device.{Device}
use Rattle.pgr_device.specs.Spc as spc
use Rattle.pgr_device.specs.declared.command.PrAnswer.TheVariants as answer
use Rattle.pgr_device.specs.declared.command.PrCommand.{PrCommand}
use Rattle.pgr_device.specs.declared.command.PrCommand.TheVariants as command
use Rattle.history.specs.Moment.{Moment}
use Rattle.node_model.specs.declared.cluster.Cluster.{Cluster}
use Rattle.node_model.specs.declared.node.Node.{Node}
use Rattle.refinement.specs.node_widths.Widths.{AnswerFits}
use Rattle.world_model.specs.Devices as world
use Rattle.world_model.specs.Devices.{Executed, executed, fault_at, with_fault}
use Rattle.world_model.specs.Worlds.{WorldState}
use Rattle.refinement.specs.Runs.{Nodes}
use Rattle.refinement.specs.Worlds.{DeviceFits, Keeps}
use Rattle.refinement.proofs.Worlds.{set_other, set_same}
use Rattle.run_history.specs.Happenings as scene
use Rattle.run_history.proofs.Alike.{Alike, AreFit, alike_devices}
use Rattle.run_history.proofs.Views.{view}

-- what the world's command makes of the scene, and its answer
abbrev pub viewed : Nodes → List Moment → world.Commanded → scene.Commanded
viewed v moments o = record { scene = view v o.world moments; answer = o.answer }

commanded_at : (w : WorldState) (v : Nodes) (moments : List Moment) (n d : ℕ) (o : Option Device) (k : PrCommand)
    → viewed v moments (world.commanded_at w n d o k) ≡ scene.commanded_at (view v w moments) n d o k
commanded_at w v moments n d None k = refl
commanded_at w v moments n d (Some device) k = refl

pub commanded_so : (w : WorldState) (v : Nodes) (moments : List Moment) (n d : ℕ) (k : PrCommand)
    → viewed v moments (world.commanded w n d k) ≡ scene.commanded (view v w moments) n d k
commanded_so w v moments n d k = commanded_at w v moments n d (slice_get w.devices (d - 1)) k

-- one device is replaced by one that keeps to 64 bits
set_fit : (ds : List Device) (k : ℕ) (old new : Device) → slice_get ds k ≡ Some old → DeviceFits new → AreFit ds → AreFit (slice_set ds k new)
set_fit ds k old new was fit all d device e = go (same_or_not d k)
  where
    go : (d ≡ k) ⊎ (d ≢ k) → DeviceFits device
    go (inl same) = subst DeviceFits (set_same ds k old new device was (subst (λ j. slice_get (slice_set ds k new) j ≡ Some device) same e)) fit
    go (inr ne) = all d device (set_other ds k d new device ne e)

-- what a command leaves, and its answer, whatever fault is armed
record Left (o : Executed) : Type 0 where
  device : DeviceFits o.device
  answer : AnswerFits o.answer

left_by_fault : (device : Device) (n : ℕ) (k : PrCommand) (fault : Option Bool) → DeviceFits device → Keeps device n k → Left (executed device n k fault)
left_by_fault device n k None fit h = record { device = h.0; answer = h.1 }
left_by_fault device n k (Some true) fit h = record { device = h.0; answer = tt }
left_by_fault device n k (Some false) fit h = record { device = fit; answer = tt }

abbrev Good : spc.Outcome → Type 0
Good o = DeviceFits o.after × AnswerFits (Ok o.answer)

pub write_keeps : (n value : ℕ) (device : Device) → DeviceFits device → Keeps device n (command.Write value)
write_keeps n value device f =
    if_either Good (has device.paths n) (spc.writing device n (spc.good (record device { value = value }))) (spc.answers device answer.NoPath)
    (if_either Good (spc.may_write device.registrations n device.reservation) (spc.good (record device { value = value })) (spc.conflict device) (record { word = f.word; few = f.few; keys = f.keys; apart = f.apart }, tt) (f, tt))
    (f, tt)

-- the world after a command
pub record After (c : Cluster) (v : Nodes) (nodes : List Node) (o : world.Commanded) : Type 0 where
  pub alike : Alike c v o.world
  pub bounded : AnswerFits o.answer
  pub same : o.world.nodes ≡ nodes

after_at : (c : Cluster) (w : WorldState) (v : Nodes) (n d : ℕ) (o : Option Device) (k : PrCommand) → slice_get w.devices (d - 1) ≡ o
    → ((device : Device) → DeviceFits device → Keeps device n k) → Alike c v w → After c v w.nodes (world.commanded_at w n d o k)
after_at c w v n d None k is keeps h = record { alike = h; bounded = tt; same = refl }
after_at c w v n d (Some device) k is keeps h =
    let fit : DeviceFits device = h.shows.device (d - 1) device is in
    let left : Left (executed device n k (fault_at w n d)) = left_by_fault device n k (fault_at w n d) fit (keeps device fit) in
    record {
      alike = alike_devices c v w (slice_set w.devices (d - 1) (executed device n k (fault_at w n d)).device) (with_fault w n d None).faults
          (set_fit w.devices (d - 1) device (executed device n k (fault_at w n d)).device is left.device h.shows.device)
          (length-set w.devices (d - 1) (executed device n k (fault_at w n d)).device) h;
      bounded = left.answer;
      same = refl;
    }

pub after_command : (c : Cluster) (w : WorldState) (v : Nodes) (n d : ℕ) (k : PrCommand) → ((device : Device) → DeviceFits device → Keeps device n k) → Alike c v w
    → After c v w.nodes (world.commanded w n d k)
after_command c w v n d k keeps h = after_at c w v n d (slice_get w.devices (d - 1)) k refl keeps h
