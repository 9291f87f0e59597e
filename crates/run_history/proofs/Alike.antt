-- All nodes of a run, and a world that shows them: what changes of the world keep.
use Rattle.std.specs.Prelude.{ℕ, zero, suc, ◌-◌, ◌^◌, ◌≡◌, ◌≤◌, ◌<◌, ◌++◌, nat_lt, Bool, true, false, List, [], ◌∷◌, Option, None, Some, length, slice_get, slice_set}
use Rattle.std.proofs.Common.{refl, sym, ap, subst, ◌∙◌, inl, inr, arith}
use Rattle.std.specs.List.{AllByRecursion}
use Rattle.std.proofs.lemmas.List.{length-set}
use Rattle.std.proofs.lemmas.Option.{slice_get_past}
use Rattle.agents.specs.Calls.{AgentState}
use Rattle.cl_base.specs.declared.method.Outcome as method
use Rattle.cmm_attempt.proofs.Basics.{none_some}
use Rattle.interconnect.specs.Links.{Links}
use Rattle.local_disk.specs.declared.memory.Choice.{Choice}
use Rattle.machine_base.specs.Put.{put}
use Rattle.machine_base.proofs.Puts.{put_there}
use Rattle.pgr_device.specs.Device.{Device}
use Rattle.record_disk.specs.Disks as disks
use Rattle.record_disk.specs.Disks.{DiskState}
use Rattle.wire.specs.declared.message.Body.{Body}
use Rattle.node_model.specs.declared.cluster.Cluster.{Cluster}
use Rattle.node_model.specs.declared.input.Input.{Input}
use Rattle.node_model.specs.declared.node.Node.{Node}
use Rattle.node_model.specs.declared.node.Node.TheVariants.{Down}
use Rattle.node_model.specs.declared.output.Output.{Output}
use Rattle.node_model.specs.declared.output.Output.TheVariants.{Tells, Sends}
use Rattle.node_model.specs.Steps.{Outcome, stepped}
use Rattle.world_model.specs.declared.scripted.Scripted.{Scripted}
use Rattle.world_model.specs.Worlds.{WorldState}
use Rattle.refinement.specs.Runs.{InTime, IsAmong, Letter, MayMove, Move, Moves, Nodes, first_nodes, letters_of, moved}
use Rattle.refinement.specs.Runs.Move.{Arms, Takes}
use Rattle.refinement.specs.Steps.{disk_rules}
use Rattle.interconnect.specs.Links.{Packet}
use Rattle.refinement.specs.Worlds.{DeviceFits, PacketSent, Played, Shows}
use Rattle.refinement.proofs.Worlds.{all_append, links_show, put_shows, run_more}

-- The world is that of a run, each node has its disk, and a node that is not in the world is down; it has the nodes and the devices of the header.
pub record Alike (c : Cluster) (v : Nodes) (w : WorldState) : Type 0 where
  pub moves : List Move
  pub run : Moves c (first_nodes c) moves v
  pub in_time : AllByRecursion InTime moves
  pub shows : Shows c w v
  pub paired : length w.disks ≡ length w.nodes
  pub absent : (k : ℕ) → 1 ≤ k → slice_get w.nodes (k - 1) ≡ None → v.node k ≡ Down
  pub count : length w.devices ≡ length c.header.devices
  pub placed : length w.nodes ≡ c.header.nodes

pub played : (c : Cluster) (v : Nodes) (w : WorldState) → Alike c v w → Played c w
played c v w h = record { moves = h.moves; nodes = v; run = h.run; in_time = h.in_time; shows = h.shows }

pub alike_links : (c : Cluster) (v : Nodes) (w : WorldState) (l : Links) → AllByRecursion (PacketSent v.sent) l.packets → Alike c v w → Alike c v (record w { links = l })
alike_links c v w l sent h =
    record { moves = h.moves; run = h.run; in_time = h.in_time; shows = links_show c w v l h.shows sent; paired = h.paired; absent = h.absent; count = h.count; placed = h.placed }

abbrev pub with_calls : WorldState → List Scripted → List AgentState → WorldState
with_calls w script agents = record w { script = script; agents = agents }

-- outcomes that are queued, and agents, are no part of a run of nodes
pub alike_calls : (c : Cluster) (v : Nodes) (w : WorldState) (script : List Scripted) (agents : List AgentState) → Alike c v w → Alike c v (with_calls w script agents)
alike_calls c v w script agents h = record {
  moves = h.moves;
  run = h.run;
  in_time = h.in_time;
  shows = record { cluster = h.shows.cluster; few = h.shows.few; node = h.shows.node; disk = h.shows.disk; device = h.shows.device; packets = h.shows.packets; clock = h.shows.clock };
  paired = h.paired;
  absent = h.absent;
  count = h.count;
  placed = h.placed;
}

pub alike_clock : (c : Cluster) (v : Nodes) (w : WorldState) (second : ℕ) → second < 2 ^ 64 → Alike c v w → Alike c v (record w { clock = second })
alike_clock c v w second time h = record {
  moves = h.moves;
  run = h.run;
  in_time = h.in_time;
  shows = record { cluster = h.shows.cluster; few = h.shows.few; node = h.shows.node; disk = h.shows.disk; device = h.shows.device; packets = h.shows.packets; clock = time };
  paired = h.paired;
  absent = h.absent;
  count = h.count;
  placed = h.placed;
}

abbrev pub AreFit : List Device → Type 0
AreFit ds = (d : ℕ) (device : Device) → slice_get ds d ≡ Some device → DeviceFits device

pub alike_devices : (c : Cluster) (v : Nodes) (w : WorldState) (ds : List Device) (faults : List (Option Bool)) → AreFit ds → length ds ≡ length w.devices → Alike c v w
    → Alike c v (record w { devices = ds; faults = faults })
alike_devices c v w ds faults fit same h = record {
  moves = h.moves;
  run = h.run;
  in_time = h.in_time;
  shows = record { cluster = h.shows.cluster; few = h.shows.few; node = h.shows.node; disk = h.shows.disk; device = fit; packets = h.shows.packets; clock = h.shows.clock };
  paired = h.paired;
  absent = h.absent;
  count = same ∙ h.count;
  placed = h.placed;
}

-- Places of a list.

pub in_range : {X : Type 0} (xs : List X) (i : ℕ) → i < length xs → slice_get xs i ≡ None → ⊥
in_range [] i l e = absurd (omega (arith, l))
in_range (x ∷ xs) zero l e = none_some x (sym e)
in_range (x ∷ xs) (suc i) l e = in_range xs i (omega (arith, l)) e

within : (i n : ℕ) → nat_lt i n ≡ true → i < n
within i n h = grind arith

beyond : (i n : ℕ) → nat_lt i n ≡ false → n ≤ i
beyond i n h = grind arith

-- what is not there after a change of one place was not there before
none_before : {X : Type 0} (xs : List X) (k j : ℕ) (y : X) → slice_get (slice_set xs k y) j ≡ None → slice_get xs j ≡ None
none_before {X} xs k j y e = by_length (nat_lt j (length xs)) refl
  where
    by_length : (b : Bool) → nat_lt j (length xs) ≡ b → slice_get xs j ≡ None
    by_length true h = absurd (in_range (slice_set xs k y) j (subst (λ n. j < n) (sym (length-set xs k y)) (within j (length xs) h)) e)
    by_length false h = slice_get_past xs j (beyond j (length xs) h)

pub absent_still : (f : ℕ → Node) (xs : List Node) (n : ℕ) (old y : Node) → slice_get xs (n - 1) ≡ Some old → ((k : ℕ) → 1 ≤ k → slice_get xs (k - 1) ≡ None → f k ≡ Down)
    → (k : ℕ) → 1 ≤ k → slice_get (slice_set xs (n - 1) y) (k - 1) ≡ None → put f n y k ≡ Down
absent_still f xs n old y was all k low e =
    let before : slice_get xs (k - 1) ≡ None = none_before xs (n - 1) (k - 1) y e in
    put_there f n y k (λ same. none_some old (sym before ∙ ap (λ j. slice_get xs (j - 1)) same ∙ was)) ∙ all k low before

-- What a node sends stands among all that was sent.

abbrev pub Among : ℕ → List Output → List Letter → Type 0
Among n [] sent = Unit {0}
Among n (Tells e ∷ os) sent = Among n os sent
Among n (Sends to b ∷ os) sent = IsAmong n b sent × Among n os sent

among_more : (n : ℕ) (os : List Output) (l : Letter) (sent : List Letter) → Among n os sent → Among n os (l ∷ sent)
among_more n [] l sent h = tt
among_more n (Tells e ∷ os) l sent h = among_more n os l sent h
among_more n (Sends to b ∷ os) l sent h = (inr h.0, among_more n os l sent h.1)

pub among_own : (n : ℕ) (os : List Output) (old : List Letter) → Among n os (letters_of n os ++ old)
among_own n [] old = tt
among_own n (Tells e ∷ os) old = among_own n os old
among_own n (Sends to b ∷ os) old = (inl (refl, refl), among_more n os (record { from = n; body = b }) (letters_of n os ++ old) (among_own n os old))

among_older : (from : ℕ) (b : Body) (n : ℕ) (os : List Output) (old : List Letter) → IsAmong from b old → IsAmong from b (letters_of n os ++ old)
among_older from b n [] old h = h
among_older from b n (Tells e ∷ os) old h = among_older from b n os old h
among_older from b n (Sends to o ∷ os) old h = inr (among_older from b n os old h)

packets_older : (n : ℕ) (os : List Output) (old : List Letter) (xs : List Packet) → AllByRecursion (PacketSent old) xs → AllByRecursion (PacketSent (letters_of n os ++ old)) xs
packets_older n os old [] h = tt
packets_older n os old (x ∷ xs) h = ((h.0.0, λ m e. among_older x.from m.body n os old (h.0.1 m e)), packets_older n os old xs h.1)

-- A node takes something; its place in the world, and that of its disk, change.

abbrev pub with_step : WorldState → ℕ → Outcome DiskState → WorldState
with_step w n o = record w { nodes = slice_set w.nodes (n - 1) o.after; disks = slice_set w.disks (n - 1) o.disk }

pub alike_step : (c : Cluster) (v : Nodes) (w : WorldState) (n : ℕ) (ends : method.Outcome) (i : Input) (node : Node) (disk : DiskState) → MayMove v (Takes n w.clock ends i)
    → slice_get w.nodes (n - 1) ≡ Some node → slice_get w.disks (n - 1) ≡ Some disk → Alike c v w
    → Alike c (moved c v (Takes n w.clock ends i)) (with_step w n (stepped disk_rules c n w.clock ends (v.node n) (v.disk n) i))
alike_step c v w n ends i node disk may at_node at_disk h =
    let m : Move = Takes n w.clock ends i in
    let o : Outcome DiskState = stepped disk_rules c n w.clock ends (v.node n) (v.disk n) i in
    record {
      moves = h.moves ++ m ∷ [];
      run = run_more c (first_nodes c) h.moves v m h.run may;
      in_time = all_append InTime h.moves m h.in_time h.shows.clock;
      shows = record {
        cluster = h.shows.cluster;
        few = subst (λ k. k ≤ 32) (sym (length-set w.nodes (n - 1) o.after)) h.shows.few;
        node = put_shows v.node w.nodes n node o.after may.0 at_node h.shows.node;
        disk = put_shows v.disk w.disks n disk o.disk may.0 at_disk h.shows.disk;
        device = h.shows.device;
        packets = packets_older n o.given v.sent w.links.packets h.shows.packets;
        clock = h.shows.clock;
      };
      paired = length-set w.disks (n - 1) o.disk ∙ h.paired ∙ sym (length-set w.nodes (n - 1) o.after);
      absent = absent_still v.node w.nodes n node o.after at_node h.absent;
      count = h.count;
      placed = length-set w.nodes (n - 1) o.after ∙ h.placed;
    }

-- A stop is armed.

abbrev pub with_arms : Cluster → Nodes → ℕ → ℕ → Choice → Nodes
with_arms c v n calls choice = moved c v (Arms n calls choice)

pub alike_stop : (c : Cluster) (v : Nodes) (w : WorldState) (n calls : ℕ) (choice : Choice) (disk : DiskState) → 1 ≤ n → slice_get w.disks (n - 1) ≡ Some disk → Alike c v w
    → Alike c (with_arms c v n calls choice) (record w { disks = slice_set w.disks (n - 1) (disks.armed disk calls choice) })
alike_stop c v w n calls choice disk low is h = record {
  moves = h.moves ++ Arms n calls choice ∷ [];
  run = run_more c (first_nodes c) h.moves v (Arms n calls choice) h.run tt;
  in_time = all_append InTime h.moves (Arms n calls choice) h.in_time tt;
  shows = record {
    cluster = h.shows.cluster;
    few = h.shows.few;
    node = h.shows.node;
    disk = subst (λ d. (k : ℕ) (z : DiskState) → 1 ≤ k → slice_get (slice_set w.disks (n - 1) (disks.armed disk calls choice)) (k - 1) ≡ Some z → put v.disk n (disks.armed d calls choice) k ≡ z)
        (sym (h.shows.disk n disk low is)) (put_shows v.disk w.disks n disk (disks.armed disk calls choice) low is h.shows.disk);
    device = h.shows.device;
    packets = h.shows.packets;
    clock = h.shows.clock;
  };
  paired = length-set w.disks (n - 1) (disks.armed disk calls choice) ∙ h.paired;
  absent = h.absent;
  count = h.count;
  placed = h.placed;
}

-- where the world has no such disk it stays as it is
pub alike_no_stop : (c : Cluster) (v : Nodes) (w : WorldState) (n calls : ℕ) (choice : Choice) → slice_get w.disks (n - 1) ≡ None → Alike c v w → Alike c (with_arms c v n calls choice) w
alike_no_stop c v w n calls choice is h = record {
  moves = h.moves ++ Arms n calls choice ∷ [];
  run = run_more c (first_nodes c) h.moves v (Arms n calls choice) h.run tt;
  in_time = all_append InTime h.moves (Arms n calls choice) h.in_time tt;
  shows = record {
    cluster = h.shows.cluster;
    few = h.shows.few;
    node = h.shows.node;
    disk = λ k z low e. put_there v.disk n (disks.armed (v.disk n) calls choice) k (λ same. none_some z (sym is ∙ ap (λ j. slice_get w.disks (j - 1)) (sym same) ∙ e)) ∙ h.shows.disk k z low e;
    device = h.shows.device;
    packets = h.shows.packets;
    clock = h.shows.clock;
  };
  paired = h.paired;
  absent = h.absent;
  count = h.count;
  placed = h.placed;
}
