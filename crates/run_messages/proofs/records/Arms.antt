-- A line of the schedule arms a fault or a stop, and a device does a command: what is known of records stays.
use Rattle.cmm_attempt.proofs.Basics.{same_some}
use Rattle.cmm_member.specs.Records.{NodeRecord}
use Rattle.history.specs.Letters.{arrived}
use Rattle.machine_base.proofs.Puts.{put_here, put_there, same_or_not}
use Rattle.machine_base.specs.Put.{put}
use Rattle.node_model.specs.declared.cluster.Cluster.{Cluster}
use Rattle.node_model.specs.declared.node.Node.{Node}
use Rattle.refinement.specs.node_widths.Widths.{NodeFits, AnswerFits}
use Rattle.pgr_device.specs.Device.{Device}
use Rattle.pgr_device.specs.declared.command.PrCommand.{PrCommand}
use Rattle.record_disk.specs.Disks.{DiskState, armed}
use Rattle.refinement.proofs.DeviceWidths.{command_keeps}
use Rattle.refinement.proofs.Worlds.{set_other, set_same}
use Rattle.refinement.specs.Runs.{Nodes}
use Rattle.refinement.specs.Runs.Move.{Arms}
use Rattle.refinement.specs.Whole.{Stands}
use Rattle.refinement.specs.Worlds.{DeviceFits, Keeps as Keeps_at}
use Rattle.run_history.proofs.ContactWidths.{fits_move, node_due}
use Rattle.run_history.specs.Happenings.{Commanded, armed_by, commanded, commanded_at}
use Rattle.run_history.specs.Noted.{Notes}
use Rattle.run_history.specs.Scenes.{Scene, fault_in}
use Rattle.run_history.specs.Stages.{Sized, Stage}
use Rattle.run_messages.specs.records.Kept.{KnownScene, SiteKept}
use Rattle.schedule_text.specs.declared.event.Event.{Event}
use Rattle.std.proofs.Common.{refl, sym, subst, inl, inr}
use Rattle.std.specs.Prelude.{ℕ, ◌-◌, ◌≡◌, ◌≢◌, ◌≤◌, ◌⊎◌, Bool, true, false, List, Option, None, Some, slice_get, slice_set}
use Rattle.world_model.specs.Devices.{Executed, due_at, executed}
use Rattle.world_model.specs.Lines.{left_by}
use Rattle.schedule_text.specs.declared.event.Event.TheVariants as event

-- ---- a line of the schedule

pub armed_known : (c : Cluster) (e : Event) (s : Scene) → Sized c → KnownScene c s → KnownScene c (armed_by c e s)
armed_known c (event.CrashAt n calls choice) s sized a =
    let b : Stage c s = a.stage in
    let disk : DiskState = armed (s.nodes.disk n) calls (left_by choice) in
    record {
      stage = record {
        machine = b.machine;
        holds = b.holds;
        stands = arm_all (λ k node kept. Stands c b.machine k node kept) s.nodes n disk refl b.stands;
        sent = b.sent;
        fits = fits_move c sized.fits s.nodes (Arms n calls (left_by choice)) tt tt b.fits;
        devices = b.devices;
        laws = b.laws;
        tried = b.tried;
        started = b.started;
        notes = arm_all (λ k node kept. Notes s.moments k (record { node = node; disk = kept })) s.nodes n disk refl b.notes;
        flying = b.flying;
      };
      sound = a.sound;
      judged = a.judged;
      bytes = a.bytes;
      at = arm_all (λ k node kept. SiteKept b.machine s.moments k (record { node = node; disk = kept })) s.nodes n disk refl a.at;
    }
  where
    arm_all : (P : ℕ → Node → NodeRecord → Type 0) (v : Nodes) (k : ℕ) (d : DiskState) → d.kept ≡ (v.disk k).kept → ((j : ℕ) → P j (v.node j) (v.disk j).kept)
        → (j : ℕ) → P j (v.node j) (put v.disk k d j).kept
    arm_all P v k d same all j = go (same_or_not j k)
      where
        go : (j ≡ k) ⊎ (j ≢ k) → P j (v.node j) (put v.disk k d j).kept
        go (inl e) =
            subst (λ i. P i (v.node i) (put v.disk k d i).kept) (sym e)
            (subst (λ (z : DiskState). P k (v.node k) z.kept) (sym (put_here v.disk k d)) (subst (λ r. P k (v.node k) r) (sym same) (all k)))
        go (inr ne) = subst (λ (z : DiskState). P j (v.node j) z.kept) (sym (put_there v.disk k d j ne)) (all j)
armed_known c (event.Fault n d done) s sized a = record {
  stage = record {
    machine = a.stage.machine;
    holds = a.stage.holds;
    stands = a.stage.stands;
    sent = a.stage.sent;
    fits = a.stage.fits;
    devices = a.stage.devices;
    laws = a.stage.laws;
    tried = a.stage.tried;
    started = a.stage.started;
    notes = a.stage.notes;
    flying = a.stage.flying;
  };
  sound = a.sound;
  judged = a.judged;
  bytes = a.bytes;
  at = a.at;
}
armed_known c (event.Boot n) s sized b = b
armed_known c (event.Crash n) s sized b = b
armed_known c (event.Tick n) s sized b = b
armed_known c (event.Deliver number) s sized b = b
armed_known c (event.Lose number) s sized b = b
armed_known c (event.Repeat number) s sized b = b
armed_known c (event.Next from to) s sized b = b
armed_known c (event.Drop from to) s sized b = b
armed_known c (event.Again from to) s sized b = b
armed_known c (event.Disk n) s sized b = b
armed_known c (event.Write n d value) s sized b = b
armed_known c (event.Command n words) s sized b = b
armed_known c (event.Outcome n resource method outcome) s sized b = b
armed_known c (event.Probe n resource good) s sized b = b
armed_known c (event.Clock second) s sized b = b
armed_known c (event.Rounds count nodes) s sized b = b
armed_known c (event.Client n address client port) s sized b = b

-- ---- a command at a device

-- the scene after it, and the answer's widths
pub record After (c : Cluster) (s : Scene) (o : Commanded) : Type 0 where
  pub known : KnownScene c o.scene
  pub answer : AnswerFits o.answer
  pub apart : arrived o.scene.moments ≡ arrived s.moments

abbrev AreFit : List Device → Type 0
AreFit ds = (d : ℕ) (device : Device) → slice_get ds d ≡ Some device → DeviceFits device

set_fit : (ds : List Device) (k : ℕ) (old new : Device) → slice_get ds k ≡ Some old → DeviceFits new → AreFit ds → AreFit (slice_set ds k new)
set_fit ds k old new was fit all d device e = go (same_or_not d k)
  where
    go : (d ≡ k) ⊎ (d ≢ k) → DeviceFits device
    go (inl same) = subst DeviceFits (set_same ds k old new device was (subst (λ j. slice_get (slice_set ds k new) j ≡ Some device) same e)) fit
    go (inr ne) = all d device (set_other ds k d new device ne e)

record Left (o : Executed) : Type 0 where
  device : DeviceFits o.device
  answer : AnswerFits o.answer

left_by_fault : (x : Device) (n : ℕ) (k : PrCommand) (fault : Option Bool) → DeviceFits x → Keeps_at x n k → Left (executed x n k fault)
left_by_fault x n k None fit h = record { device = h.0; answer = h.1 }
left_by_fault x n k (Some true) fit h = record { device = h.0; answer = tt }
left_by_fault x n k (Some false) fit h = record { device = fit; answer = tt }

after_at : (c : Cluster) (s : Scene) (n d : ℕ) (k : PrCommand) (o : Option Device) → slice_get s.devices (d - 1) ≡ o → ((x : Device) → DeviceFits x → Keeps_at x n k) → KnownScene c s → After c s (commanded_at s n d o k)
after_at c s n d k None is keeps a = record { known = a; answer = tt; apart = refl }
after_at c s n d k (Some x) is keeps a =
    let b : Stage c s = a.stage in
    let fit : DeviceFits x = b.devices (d - 1) x is in
    let left : Left (executed x n k (fault_in s n d)) = left_by_fault x n k (fault_in s n d) fit (keeps x fit) in
    record {
      known = record {
        stage = record {
          machine = b.machine;
          holds = b.holds;
          stands = b.stands;
          sent = b.sent;
          fits = b.fits;
          devices = set_fit s.devices (d - 1) x (executed x n k (fault_in s n d)).device is left.device b.devices;
          laws = b.laws;
          tried = b.tried;
          started = b.started;
          notes = b.notes;
          flying = b.flying;
        };
        sound = a.sound;
        judged = a.judged;
        bytes = a.bytes;
        at = a.at;
      };
      answer = left.answer;
      apart = refl;
    }

pub after_command : (c : Cluster) (s : Scene) (n d : ℕ) (k : PrCommand) → ((x : Device) → DeviceFits x → Keeps_at x n k) → KnownScene c s → After c s (commanded s n d k)
after_command c s n d k keeps b = after_at c s n d k (slice_get s.devices (d - 1)) refl keeps b

pub due_keeps : (c : Cluster) (s : Scene) (n d : ℕ) (k : PrCommand) → Sized c → 1 ≤ n → n ≤ 32 → due_at (Some (s.nodes.node n)) ≡ Some (d, k) → Stage c s → (x : Device) → DeviceFits x → Keeps_at x n k
due_keeps c s n d k sized low high due b x fit =
    command_keeps x n k low high (node_due c n d k (Some (s.nodes.node n)) sized.small high (λ node is. subst (λ z. NodeFits c n z) (same_some (s.nodes.node n) node is) (b.fits.nodes n)) due) fit
