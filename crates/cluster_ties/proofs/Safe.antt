-- What the laws of the machine say of nodes and devices that are tied to it.
use Rattle.std.proofs.Common.{refl, ◌∙◌}
use Rattle.cluster_machine.proofs.Safety.{acknowledged_kept, devices_meet, first_empty, follows, joined_session, write_is_safe}
use Rattle.cluster_machine.proofs.Whole.{InOrder}
use Rattle.device_ties.proofs.Others.{good_write_taken}
use Rattle.cluster_ties.specs.Laws.{ReachedIsSafe, WritesAreSafe}
use Rattle.cluster_ties.proofs.First.{in_order}

pub reached_is_safe : ReachedIsSafe
reached_is_safe S W reached =
    let i : InOrder S W = in_order S W reached in
    record {
      devices_meet = devices_meet S W i;
      lineage = follows S W i;
      first_empty = first_empty S W i;
      kept = acknowledged_kept S W i;
      none_above = joined_session S W i;
    }

pub writes_are_safe : WritesAreSafe
writes_are_safe S c W n d value x devices reached tied at member joined good =
    write_is_safe S W (in_order S W reached) d n value (refl, ((at.marks d).joined ∙ joined, good_write_taken c.id n (devices d) (W.device d).device value (tied d) good), member)
