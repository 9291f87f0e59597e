-- The devices that nodes name are those of the header.
use Rattle.std.specs.Prelude.{ℕ, suc, ◌+◌, ◌≡◌, ◌≤◌, ◌⊎◌, ◌≢◌, ◌&&◌, nat_le, Bool, true, false, List, [], ◌∷◌, Option, None, Some, Ok, Err, is_ok, length, IfSome, if◌then◌else◌}
use Rattle.std.proofs.Common.{refl, sym, ap, subst, ◌∙◌, inl, inr, arith}
use Rattle.std.specs.List.{AllByRecursion}
use Rattle.std.specs.Option.{option_and_then, option_map}
use Rattle.cl_base.specs.Sets.{has}
use Rattle.cl_base.proofs.FirstNumbers.{has_first}
use Rattle.cl_base.specs.declared.header.Header.{Header}
use Rattle.cl_base.specs.declared.header.HeaderDevice.{HeaderDevice}
use Rattle.cl_base.specs.declared.method.Outcome as method
use Rattle.cmm_attempt.proofs.Basics.{and_cases, false_true, none_some, same_some}
use Rattle.device_queue.specs.declared.task.Task.{Task}
use Rattle.device_queue.specs.Queue.{first_of, next_of}
use Rattle.device_queue.specs.Tasks.{is_queued}
use Rattle.machine_base.specs.Put.{put}
use Rattle.machine_base.proofs.Puts.{put_here, put_there, same_or_not}
use Rattle.pgr_device.specs.declared.command.PrCommand.{PrCommand}
use Rattle.status_report.specs.declared.device_entry.WriteRefusal.TheVariants.{NoPath, NotHeld}
use Rattle.run_history.proofs.Kept.{path_named}
use Rattle.run_history.proofs.Lists.{found}
use Rattle.run_history.proofs.LineSteps.{devices_are_known}
use Rattle.run_history.specs.Names.{AreListed, AttachedOf, IsListed, NodeNames, TaskOf, UpNames}
use Rattle.node_model.specs.Clusters.{has_path}
use Rattle.node_model.specs.declared.cluster.Cluster.{Cluster}
use Rattle.node_model.specs.declared.input.Input.{Input}
use Rattle.node_model.specs.declared.node.Node.{Node}
use Rattle.node_model.specs.declared.node.UpNode.{UpNode}
use Rattle.node_model.specs.declared.seat.Seat.{Seat}
use Rattle.node_model.specs.declared.seat.Seat.TheVariants.{Forming, Member}
use Rattle.node_model.specs.Devices.{may_write_as}
use Rattle.node_model.specs.Steps.{stepped}
use Rattle.refinement.specs.Runs.{Nodes, moved}
use Rattle.refinement.specs.Runs.Move.{Takes}
use Rattle.refinement.specs.Steps.{disk_rules}
use Rattle.world_model.specs.Devices.{due_of}
use Rattle.world_model.specs.First.{attached_from, first_cluster}
use Rattle.run_history.specs.WorldLines.{IsDevice}

-- The numbers of the header.

in_both : (d k : ℕ) → (nat_le 1 d && nat_le d k) ≡ true → (1 ≤ d) × (d ≤ k)
in_both d k h =
    let two : (nat_le 1 d ≡ true) × (nat_le d k ≡ true) = and_cases (nat_le 1 d) (nat_le d k) h in
    (le 1 d two.0, le d k two.1)
  where
    le : (a b : ℕ) → nat_le a b ≡ true → a ≤ b
    le a b e = grind arith

both_in : (d k : ℕ) → 1 ≤ d → d ≤ k → (nat_le 1 d && nat_le d k) ≡ true
both_in d k low most = grind arith

room : (k : ℕ) → k ≤ 16 → k ≤ 32
room k h = omega (arith, h)

pub listed_is : (h : Header) (d : ℕ) → length h.devices ≤ 16 → IsListed (first_cluster h) d → IsDevice h d
listed_is h d few is = in_both d (length h.devices) (sym (has_first (length h.devices) d (room (length h.devices) few)) ∙ is)

attached_listed : (c : Cluster) (k number : ℕ) (ds : List HeaderDevice) → ((d : ℕ) → 1 ≤ d → d ≤ k → IsListed c d) → 1 ≤ number → number + length ds ≤ k + 1
    → AllByRecursion (AttachedOf (IsListed c)) (attached_from number ds)
attached_listed c k number [] f low most = tt
attached_listed c k number (d ∷ ds) f low most = (f number low (within number (length ds) k most), attached_listed c k (number + 1) ds f (more number) (next number (length ds) k most))
  where
    within : (n l m : ℕ) → n + suc l ≤ m + 1 → n ≤ m
    within n l m e = omega (arith, e)

    more : (n : ℕ) → 1 ≤ n + 1
    more n = omega arith

    next : (n l m : ℕ) → n + suc l ≤ m + 1 → (n + 1) + l ≤ m + 1
    next n l m e = omega (arith, e)

same_room : (k : ℕ) → 1 + k ≤ k + 1
same_room k = omega arith

one_low : 1 ≤ 1
one_low = omega arith

pub first_listed : (h : Header) → length h.devices ≤ 16 → AreListed (first_cluster h)
first_listed h few =
    let k : ℕ = length h.devices in
    attached_listed (first_cluster h) k 1 h.devices (λ d low most. has_first k d (room k few) ∙ both_in d k low most) one_low (same_room k)

-- What a node does at devices.

abbrev due_by : Option Task → Option PrCommand → Option (ℕ × PrCommand)
due_by o next = option_and_then (λ e. option_and_then (λ z. Some (e, z)) next) (option_map (λ (t : Task). t.device) o)

pub due_named : (D : ℕ → Type 0) (x : UpNode) (d : ℕ) (k : PrCommand) → UpNames D x → due_of x ≡ Some (d, k) → D d
due_named D x d k names is = by_first (first_of x.tasks) (next_of x.tasks) (found (TaskOf D) is_queued x.tasks names.0) is
  where
    by_command : (t : Task) (o : Option PrCommand) → D t.device → due_by (Some t) o ≡ Some (d, k) → D d
    by_command t None h some = absurd (none_some (d, k) some)
    by_command t (Some z) h some = subst D (ap (λ (p : ℕ × PrCommand). p.0) (same_some (t.device, z) (d, k) some)) h

    by_first : (o : Option Task) (next : Option PrCommand) → IfSome o (TaskOf D) → due_by o next ≡ Some (d, k) → D d
    by_first None next h some = absurd (none_some (d, k) some)
    by_first (Some t) next h some = by_command t next h some

pub write_path : (c : Cluster) (n d : ℕ) (seat : Seat) → is_ok (may_write_as c n d seat) ≡ true → has_path c.attached n d ≡ true
write_path c n d (Forming s) h = absurd (false_true h)
write_path c n d (Member s) h = by_test (has_path c.attached n d) h
  where
    by_test : (b : Bool) → is_ok (if b then (if has s.joined d then Ok s.session else Err NotHeld) else Err NoPath) ≡ true → b ≡ true
    by_test true e = refl
    by_test false e = absurd (false_true e)

pub write_named : (c : Cluster) (n d : ℕ) (seat : Seat) → AreListed c → is_ok (may_write_as c n d seat) ≡ true → IsListed c d
write_named c n d seat listed h = path_named (IsListed c) c.attached n d listed (write_path c n d seat h)

-- All nodes.

abbrev pub AllName : Cluster → Nodes → Type 0
AllName c v = (k : ℕ) → NodeNames (IsListed c) (v.node k)

put_named : (D : ℕ → Type 0) (f : ℕ → Node) (n : ℕ) (x : Node) → NodeNames D x → ((k : ℕ) → NodeNames D (f k)) → (k : ℕ) → NodeNames D (put f n x k)
put_named D f n x here there k = go (same_or_not k n)
  where
    go : (k ≡ n) ⊎ (k ≢ n) → NodeNames D (put f n x k)
    go (inl e) = subst (λ j. NodeNames D (put f n x j)) (sym e) (subst (NodeNames D) (sym (put_here f n x)) here)
    go (inr ne) = subst (NodeNames D) (sym (put_there f n x k ne)) (there k)

pub moved_name : (c : Cluster) (v : Nodes) (n now : ℕ) (ends : method.Outcome) (i : Input) → AreListed c → AllName c v → AllName c (moved c v (Takes n now ends i))
moved_name c v n now ends i listed h =
    put_named (IsListed c) v.node n (stepped disk_rules c n now ends (v.node n) (v.disk n) i).after (devices_are_known c n now ends (v.node n) (v.disk n) i listed (h n)) h
