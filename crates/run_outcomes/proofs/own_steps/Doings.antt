-- Each thing that a coordinator does beside messages, at a scene of which the run tells what is known of it.
use Rattle.std.specs.Prelude.{ℕ, ◌-◌, ◌≡◌, ◌⊎◌, true, false, slice_get, Option, None, Some}
use Rattle.std.proofs.Common.{refl, sym, ap, subst, ◌∙◌, inl, inr}
use Rattle.cl_base.specs.declared.header.Header.{Header}
use Rattle.cl_base.specs.declared.method.Outcome as method
use Rattle.cmm_attempt.proofs.Basics.{none_some}
use Rattle.cmm_attempt.specs.Attempts.{AttemptState}
use Rattle.cmm_attempt.specs.Calls.{Call, IsReached}
use Rattle.cmm_attempt.specs.declared.counting.BothVotes.{BothVotes}
use Rattle.cmm_member.specs.Records.{NodeRecord}
use Rattle.device_queue.specs.Queue.{due_device, next_of}
use Rattle.history.specs.Member.{in_collect}
use Rattle.history.specs.Queue as told
use Rattle.history.specs.Setting.{Setting, coordinator}
use Rattle.history_setting.specs.Settings.{setting_of}
use Rattle.machine_base.proofs.Puts.{put_here}
use Rattle.node_model.specs.Clusters.{first_valid_of}
use Rattle.node_model.specs.Steps.{Outcome, at_second, booted_with, stepped}
use Rattle.node_model.specs.declared.cluster.Cluster.{Cluster}
use Rattle.node_model.specs.declared.input.Input.{Input}
use Rattle.node_model.specs.declared.input.Input.TheVariants.{Answered, Boot, Client, CommandDue, Commanded, Crash, Packet, Reported, Tick, Wrote}
use Rattle.node_model.specs.declared.node.Node.{Node}
use Rattle.node_model.specs.declared.node.Node.TheVariants.{Down, Up}
use Rattle.node_model.specs.declared.node.UpNode.{UpNode}
use Rattle.pgr_device.specs.declared.command.PrCommand.{PrCommand}
use Rattle.pgr_device.specs.declared.command.PrCommand.TheVariants as command
use Rattle.record_disk.specs.Disks.{DiskState, mounting}
use Rattle.record_disk.specs.declared.error.Loss.{Loss}
use Rattle.record_disk.specs.declared.error.Loss.TheVariants.{Fault, Stopped}
use Rattle.refinement.specs.Runs.{moved}
use Rattle.refinement.specs.Runs.Move.{Takes as Takes_in}
use Rattle.refinement.specs.Steps.{disk_rules}
use Rattle.run_devices.proofs.queues.Acts.{due_writes}
use Rattle.run_devices.specs.queues.Laws.{Same}
use Rattle.run_history.proofs.Idle.{passing_nodes}
use Rattle.run_history.specs.Happenings.{IsApart, IsPlain, MayHappen, answering, commanded, given_by, taking, wrote}
use Rattle.run_history.specs.Happenings.Happening.{Commands, Takes, Writes}
use Rattle.run_history.specs.Scenes.{Scene}
use Rattle.run_messages.proofs.Collecting.{nothing_collects}
use Rattle.world_model.specs.Devices.{due_at}
use Rattle.world_model.specs.First.{first_cluster}
use Rattle.run_outcomes.specs.phases.Kept.{In}
use Rattle.run_outcomes.specs.phases.Laws.{is_seizing}
use Rattle.run_outcomes.specs.saves.Kept.{IsAt}
use Rattle.run_outcomes.specs.tasks.Lasting.{lasts_open}
use Rattle.run_outcomes.specs.tasks.Left.{IsClosed}
use Rattle.run_outcomes.specs.tasks.Onward.{AreStill}
use Rattle.run_outcomes.specs.tasks.Own.{Leads, Owned}
use Rattle.run_outcomes.proofs.onward.Here.{besides_same, taken_here}
use Rattle.run_outcomes.proofs.onward.Inputs.{IsBesides}
use Rattle.run_outcomes.proofs.onward.Leads.{StepSo}
use Rattle.run_outcomes.proofs.onward.Ticks.{AfterTick, BegunSo, TickOf, Ticked, tick_out}
use Rattle.run_outcomes.proofs.own_steps.Beginning.{begun_here}
use Rattle.run_outcomes.proofs.own_steps.Commanding.{answer_led}
use Rattle.run_outcomes.proofs.own_steps.Past.{IsResting}
use Rattle.run_outcomes.proofs.own_steps.Steps.{Follows, LeadsThere}
use Rattle.run_outcomes.proofs.own_steps.Ticking.{ticked_same}
use Rattle.run_outcomes.proofs.phases.Leading.{Has}
use Rattle.run_outcomes.proofs.reports.Disks.{commanded_nodes}
use Rattle.run_outcomes.proofs.results.Dues.{two_of}
use Rattle.run_outcomes.proofs.shown.HeardRuns.{commanded_moments}
use Rattle.run_outcomes.proofs.told_tasks.Led.{LedOn}
use Rattle.run_outcomes.proofs.told_tasks.Queues.{SeizersHave}

-- what is known of node n at the scene, and of its attempt at the next
pub record Known (h : Header) (s t : Scene) (n : ℕ) : Type 0 where
  pub leads : IsAt (Leads n) (s.nodes.node n)
  pub owned : IsAt (Owned n) (s.nodes.node n)
  pub rests : IsAt (Has IsResting) (s.nodes.node n)
  pub have : SeizersHave h s
  pub so : (w : UpNode) (a b : AttemptState) (both : BothVotes) (k : Call) → s.nodes.node n ≡ Up w → w.attempt ≡ Some a → IsClosed h s n → Follows a k b → is_seizing b.phase ≡ true → b.votes ≡ Some both
      → StepSo (setting_of h) (first_cluster h) n w k b both s.moments
  pub reached : (y : UpNode) (b : AttemptState) → t.nodes.node n ≡ Up y → y.attempt ≡ Some b → IsReached b × (coordinator b.plan.epoch ≡ n)

-- ---- a node that is down

booted_none : (me valid : ℕ) (r : NodeRecord) (after : DiskState) (lost : Option Loss) → IsAt (λ z. z.attempt ≡ None) (booted_with me valid r (record { after = after; lost = lost })).after
booted_none me valid r after None = refl
booted_none me valid r after (Some Stopped) = tt
booted_none me valid r after (Some Fault) = tt

down_none : (c : Cluster) (n now : ℕ) (ends : method.Outcome) (disk : DiskState) (i : Input) → IsAt (λ z. z.attempt ≡ None) (stepped disk_rules c n now ends Down disk i).after
down_none c n now ends disk Boot = booted_none n (first_valid_of c n) disk.kept (mounting disk).after (mounting disk).lost
down_none c n now ends disk _ = tt

-- it has no attempt after it
down_never : (c : Cluster) (n now : ℕ) (ends : method.Outcome) (i : Input) (s : Scene) (y : UpNode) (b : AttemptState) → s.nodes.node n ≡ Down → (taking c n now ends i s).nodes.node n ≡ Up y
    → y.attempt ≡ Some b → ⊥
down_never c n now ends i s y b was up at = none_some b (sym none ∙ at)
  where
    o : Outcome DiskState
    o = stepped disk_rules c n now ends (s.nodes.node n) (s.nodes.disk n) i

    node : o.after ≡ Up y
    node = sym (put_here s.nodes.node n o.after) ∙ (sym (ap (λ v. v.node n) (passing_nodes n (given_by c n now ends i s.nodes) (record s { nodes = moved c s.nodes (Takes_in n now ends i) }))) ∙ up)

    none : y.attempt ≡ None
    none =
        subst (IsAt (λ z. z.attempt ≡ None)) node
        (subst (λ (v : Node). IsAt (λ z. z.attempt ≡ None) (stepped disk_rules c n now ends v (s.nodes.disk n) i).after) (sym was) (down_none c n now ends (s.nodes.disk n) i))

-- ---- what comes to a node that is up

-- neither a message, nor an answer, nor a tick
beside_up : (h : Header) (s t : Scene) (n now : ℕ) (ends : method.Outcome) (i : Input) (x y : UpNode) (b : AttemptState) (both : BothVotes) → IsBesides i → IsApart s → SeizersHave h s → t.nodes ≡ s.nodes
    → t.moments ≡ s.moments → s.nodes.node n ≡ Up x → (taking (first_cluster h) n now ends i t).nodes.node n ≡ Up y → y.attempt ≡ Some b → is_seizing b.phase ≡ true → b.votes ≡ Some both
    → lasts_open (setting_of h) n (taking (first_cluster h) n now ends i t).moments ≡ false → Same y.tasks (told.tasks_of (setting_of h) n (taking (first_cluster h) n now ends i t).moments)
beside_up h s t n now ends i x y b both is apart have nodes moments was up at seizing given closed =
    besides_same S (first_cluster h) n now ends i t x y b is (ap (in_collect n) moments ∙ nothing_collects n s.moments apart) (ap (λ v. v.node n) nodes ∙ was) up at seizing closed
    (λ has before.
    subst (λ ms. Same x.tasks (told.tasks_of S n ms)) (sym moments) (have n x b both was has seizing given (subst (λ ms. lasts_open S n ms ≡ false) moments before)))
  where
    S : Setting
    S = setting_of h

tick_up : (h : Header) (s : Scene) (n now : ℕ) (ends : method.Outcome) (x : UpNode) → IsApart s → Known h s (taking (first_cluster h) n now ends Tick s) n → s.nodes.node n ≡ Up x
    → LeadsThere h s (Takes n now ends Tick) (taking (first_cluster h) n now ends Tick s) n
tick_up h s n now ends x apart k was y b both up at seizing given closed =
    by_way (subst (In (TickOf c n z y.tasks (given_by c n now ends Tick s.nodes))) at (taken_here c n now ends Tick s (AfterTick c n z) x y was up (λ so. tick_out c n ends z rests)) seizing)
  where
    c : Cluster
    c = first_cluster h

    S : Setting
    S = setting_of h

    z : UpNode
    z = at_second now x

    rests : Has IsResting x
    rests = subst (IsAt (Has IsResting)) was k.rests

    by_way : (AreStill n (given_by c n now ends Tick s.nodes) × Ticked c n z b y.tasks) ⊎ BegunSo c n b y.tasks (given_by c n now ends Tick s.nodes)
        → Same y.tasks (told.tasks_of S n (taking c n now ends Tick s).moments) ⊎ LedOn S n y b both (taking c n now ends Tick s).moments
    by_way (inl r) =
        inl (ticked_same S c n now ends s x b both y.tasks (nothing_collects n s.moments apart) r.0 r.1 given closed (λ a has is votes before. k.have n x a both was has is votes before))
    by_way (inr r) = let p : IsReached b × (coordinator b.plan.epoch ≡ n) = k.reached y b up at in inr (begun_here S c n now ends Tick s y b both apart seizing given p.0 p.1 refl r)

plain_or : (i : Input) → IsPlain i → (i ≡ Tick) ⊎ IsBesides i
plain_or Tick plain = inl refl
plain_or Boot plain = inr tt
plain_or Crash plain = inr tt
plain_or CommandDue plain = inr tt
plain_or (Commanded words) plain = inr tt
plain_or (Reported r good) plain = inr tt
plain_or (Client name client port) plain = inr tt
plain_or (Packet from m) plain = absurd plain
plain_or (Answered a) plain = absurd plain
plain_or (Wrote d value a) plain = absurd plain

pub takes_lead : (h : Header) (s : Scene) (n now : ℕ) (ends : method.Outcome) (i : Input) → IsPlain i → IsApart s → Known h s (taking (first_cluster h) n now ends i s) n
    → LeadsThere h s (Takes n now ends i) (taking (first_cluster h) n now ends i s) n
takes_lead h s n now ends i plain apart k y b both up at seizing given closed = by_node (s.nodes.node n) refl
  where
    c : Cluster
    c = first_cluster h

    by_input : (x : UpNode) → s.nodes.node n ≡ Up x → (i ≡ Tick) ⊎ IsBesides i
        → Same y.tasks (told.tasks_of (setting_of h) n (taking c n now ends i s).moments) ⊎ LedOn (setting_of h) n y b both (taking c n now ends i s).moments
    by_input x was (inl is) =
        subst (λ j. Known h s (taking c n now ends j s) n → LeadsThere h s (Takes n now ends j) (taking c n now ends j s) n) (sym is) (λ g. tick_up h s n now ends x apart g was) k y b both up at seizing given closed
    by_input x was (inr is) = inl (beside_up h s s n now ends i x y b both is apart k.have refl refl was up at seizing given closed)

    by_node : (v : Node) → s.nodes.node n ≡ v → Same y.tasks (told.tasks_of (setting_of h) n (taking c n now ends i s).moments) ⊎ LedOn (setting_of h) n y b both (taking c n now ends i s).moments
    by_node Down was = absurd (down_never c n now ends i s y b was up at)
    by_node (Up x) was = by_input x was (plain_or i plain)

-- ---- at devices

pub writes_lead : (h : Header) (s : Scene) (n d value now : ℕ) (ends : method.Outcome) → MayHappen (first_cluster h) s (Writes n d value now ends)
    → Known h s (wrote (first_cluster h) n d value now ends (commanded s n d (command.Write value))) n
    → LeadsThere h s (Writes n d value now ends) (wrote (first_cluster h) n d value now ends (commanded s n d (command.Write value))) n
writes_lead h s n d value now ends may k y b both up at seizing given closed = by_node (s.nodes.node n) refl
  where
    q : PrCommand
    q = command.Write value

    o : Scene
    o = (commanded s n d q).scene

    i : Input
    i = Wrote d value (commanded s n d q).answer

    nodes : o.nodes ≡ s.nodes
    nodes = commanded_nodes s n d (slice_get s.devices (d - 1)) q

    by_node : (v : Node) → s.nodes.node n ≡ v
        → Same y.tasks (told.tasks_of (setting_of h) n (taking (first_cluster h) n now ends i o).moments) ⊎ LedOn (setting_of h) n y b both (taking (first_cluster h) n now ends i o).moments
    by_node Down was = absurd (down_never (first_cluster h) n now ends i o y b (ap (λ v. v.node n) nodes ∙ was) up at)
    by_node (Up x) was = inl (beside_up h s o n now ends i x y b both tt may.3 k.have nodes (commanded_moments s n d (slice_get s.devices (d - 1)) q) was up at seizing given closed)

pub commands_lead : (h : Header) (s : Scene) (n d : ℕ) (q : PrCommand) (now : ℕ) (ends : method.Outcome) → MayHappen (first_cluster h) s (Commands n d q now ends)
    → Known h s (answering (first_cluster h) n now ends (commanded s n d q)) n → LeadsThere h s (Commands n d q now ends) (answering (first_cluster h) n now ends (commanded s n d q)) n
commands_lead h s n d q now ends may k y b both up at seizing given closed = by_node (s.nodes.node n) refl may.2
  where
    c : Cluster
    c = first_cluster h

    S : Setting
    S = setting_of h

    t : Scene
    t = answering c n now ends (commanded s n d q)

    nodes : (commanded s n d q).scene.nodes ≡ s.nodes
    nodes = commanded_nodes s n d (slice_get s.devices (d - 1)) q

    by_node : (v : Node) → s.nodes.node n ≡ v → due_at (Some v) ≡ Some (d, q) → Same y.tasks (told.tasks_of S n t.moments) ⊎ LedOn S n y b both t.moments
    by_node Down was due = absurd (none_some (d, q) due)
    by_node (Up x) was due =
        let two : (due_device x.tasks ≡ Some d) × (next_of x.tasks ≡ Some q) = two_of (due_device x.tasks) (next_of x.tasks) d q due in
        inr (answer_led S c n d now ends q (commanded s n d q).answer s.moments (commanded s n d q).scene x y b both (commanded_moments s n d (slice_get s.devices (d - 1)) q) (nothing_collects n s.moments may.4)
        (due_writes x.tasks q two.1) two.0 two.1 (subst (IsAt (Leads n)) was k.leads) (subst (IsAt (Owned n)) was k.owned) (subst (IsAt (Has IsResting)) was k.rests) (ap (λ v. v.node n) nodes ∙ was) up at seizing closed
        (λ a j has before follows. k.so x a b both j was has before follows seizing given))
