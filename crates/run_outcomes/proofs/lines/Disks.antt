-- A command at a device has its entries where the lines tell the queue of its node, and where they leave it open.
use Rattle.std.specs.Prelude.{ℕ, ◌≡◌, ◌||◌, Bool, true, false, List, length, Option, None, Some, is_some}
use Rattle.std.proofs.Common.{refl, sym, ap, subst, ◌∙◌, inl, inr}
use Rattle.cmm_attempt.proofs.Basics.{false_true}
use Rattle.history.specs.Lines.{skip_disk, skip_due}
use Rattle.history.specs.Member.{is_up, member_of}
use Rattle.history.specs.Moment.{Moment, Part, Said}
use Rattle.history.specs.Queue.{due_of, has_work, queue_is_open, queued_of}
use Rattle.history.specs.Setting.{Setting}
use Rattle.node_model.specs.declared.cluster.Cluster.{Cluster}
use Rattle.node_model.specs.declared.node.Node.{Node}
use Rattle.node_model.specs.declared.node.Node.TheVariants.{Down, Up}
use Rattle.pgr_device.specs.declared.command.PrCommand.{PrCommand}
use Rattle.run_devices.proofs.queues.Opens.{Opening, due_for}
use Rattle.run_devices.proofs.queues.Queues.{due_same, listed, work_same}
use Rattle.run_devices.proofs.queues.Wanted.{Leaves}
use Rattle.run_devices.specs.queues.Laws.{DoesDue}
use Rattle.run_history.specs.Happenings.{armed_by}
use Rattle.run_history.specs.Members.{NodeLines}
use Rattle.run_history.specs.Scenes.{Scene, adding}
use Rattle.run_history.specs.Shapes.{brings, commanding, if_up}
use Rattle.run_lines.specs.Entries.{MayBegin}
use Rattle.run_messages.specs.Laws.{IsSeated}
use Rattle.schedule_text.specs.declared.event.Event.{Event}
use Rattle.schedule_text.specs.declared.event.Event.TheVariants as event
use Rattle.schedule_text.specs.declared.line.Line.TheVariants as line
use Rattle.world_model.specs.Devices.{due_at}
use Rattle.run_outcomes.specs.lines.Done.{IsDiskLine, IsDiskLineBy, IsRest}
use Rattle.run_outcomes.specs.tasks.Laws.{NodeQueue}

-- ---- of a node that is up

-- where its queue is told: whether there is work, and what is due
abbrev IsTold : Bool → List (ℕ × PrCommand) → Option (ℕ × PrCommand) → Type 0
IsTold work due o = (work ≡ is_some o) × (due ≡ listed o)

one_or_none : (n : ℕ) (due : List (ℕ × PrCommand)) (o : Option (ℕ × PrCommand)) (later : List Moment) → Leaves (listed o) (commanding n o) later → IsDiskLineBy true n due later None
one_or_none n due None later leaves = inr (inr leaves)
one_or_none n due (Some found) later (inl is) = inl (ap length is)
one_or_none n due (Some found) later (inr falls) = inr (inl falls)

does_untold : (n : ℕ) (work : Bool) (due : List (ℕ × PrCommand)) (o : Option (ℕ × PrCommand)) (later : List Moment) → Leaves (listed o) (commanding n o) later
    → IsDiskLineBy true n due later (skip_disk true (work || true))
does_untold n true due o later leaves = one_or_none n due o later leaves
does_untold n false due o later leaves = one_or_none n due o later leaves

does_told : (n : ℕ) (work : Bool) (due : List (ℕ × PrCommand)) (o : Option (ℕ × PrCommand)) (later : List Moment) → IsTold work due o → Leaves (listed o) (commanding n o) later
    → IsDiskLineBy false n due later (skip_disk true (work || false))
does_told n true due None later is leaves = absurd (false_true (sym is.0))
does_told n true due (Some found) later is leaves = subst (λ z. DoesDue n z later) (sym is.1) leaves
does_told n false due None later is leaves = leaves
does_told n false due (Some found) later is leaves = absurd (false_true is.0)

does_so : (n : ℕ) (untold work : Bool) (due : List (ℕ × PrCommand)) (o : Option (ℕ × PrCommand)) (later : List Moment) → (untold ≡ false → IsTold work due o)
    → Leaves (listed o) (commanding n o) later → IsDiskLineBy untold n due later (skip_disk true (work || untold))
does_so n true work due o later is leaves = does_untold n work due o later leaves
does_so n false work due o later is leaves = does_told n work due o later (is refl) leaves

-- a command that is due is not skipped
none_skipped : (untold work : Bool) (due : List (ℕ × PrCommand)) (o : Option (ℕ × PrCommand)) → (untold ≡ false → IsTold work due o) → is_some o ≡ true → skip_disk true (work || untold) ≡ None
none_skipped untold true due o is some = refl
none_skipped true false due o is some = refl
none_skipped false false due o is some = absurd (false_true ((is refl).0 ∙ some))

-- ---- as the lines tell it

-- what the lines say of a node: whether it is up, of what it is a member, and its queue where that is told
pub record NodeTold (S : Setting) (ms : List Moment) (n : ℕ) (node : Node) : Type 0 where
  pub lines : NodeLines n node ms
  pub seated : IsSeated ms n node
  pub queue : queue_is_open S n ms ≡ false → NodeQueue node (queued_of S n ms)

told_so : (S : Setting) (ms : List Moment) (n : ℕ) (node : Node) → is_up n ms ≡ true → NodeTold S ms n node → queue_is_open S n ms ≡ false
    → IsTold (has_work S n ms) (due_of (queued_of S n ms)) (due_at (Some node))
told_so S ms n Down on told shut = absurd (false_true (sym told.lines ∙ on))
told_so S ms n (Up x) on told shut = (work_same x.tasks (queued_of S n ms) (told.queue shut), due_same x.tasks (queued_of S n ms) (told.queue shut))

up_leaves : (n : ℕ) (ms : List Moment) (node : Node) (later : List Moment) → is_up n ms ≡ true → NodeLines n node ms
    → Leaves (listed (due_at (Some node))) (if_up node (λ x. commanding n (due_at (Some node)))) later → Leaves (listed (due_at (Some node))) (commanding n (due_at (Some node))) later
up_leaves n ms Down later on lines leaves = absurd (false_true (sym lines ∙ on))
up_leaves n ms (Up x) later on lines leaves = leaves

disk_so : (S : Setting) (ms : List Moment) (n : ℕ) (node : Node) (later : List Moment) → is_up n ms ≡ true → NodeTold S ms n node
    → Leaves (listed (due_at (Some node))) (if_up node (λ x. commanding n (due_at (Some node)))) later → IsDiskLine S ms n later (skip_due S ms (event.Disk n))
disk_so S ms n node later on told leaves =
    subst (λ b. IsDiskLine S ms n later (skip_disk b (has_work S n ms || queue_is_open S n ms))) (sym on)
    (does_so n (queue_is_open S n ms) (has_work S n ms) (due_of (queued_of S n ms)) (due_at (Some node)) later (told_so S ms n node on told) (up_leaves n ms node later on told.lines leaves))

disk_due : (S : Setting) (ms : List Moment) (n : ℕ) (node : Node) → is_up n ms ≡ true → NodeTold S ms n node → is_some (due_at (Some node)) ≡ true → skip_due S ms (event.Disk n) ≡ None
disk_due S ms n node on told some =
    ap (λ b. skip_disk b (has_work S n ms || queue_is_open S n ms)) on
    ∙ none_skipped (queue_is_open S n ms) (has_work S n ms) (due_of (queued_of S n ms)) (due_at (Some node)) (told_so S ms n node on told) some

-- what is due is due at a node that is up
due_up : (n : ℕ) (ms : List Moment) (node : Node) → NodeLines n node ms → is_some (due_at (Some node)) ≡ true → is_up n ms ≡ true
due_up n ms Down lines some = absurd (false_true some)
due_up n ms (Up x) lines some = lines.0

down_alone : (n : ℕ) (ms : List Moment) (node : Node) → NodeLines n node ms → IsSeated ms n node → is_up n ms ≡ false → member_of n ms ≡ None
down_alone n ms Down lines seated off = seated
down_alone n ms (Up x) lines seated off = absurd (false_true (sym off ∙ lines.0))

-- ---- each line and part

abbrev pub SceneTold : Setting → Scene → Type 0
SceneTold S s = (n : ℕ) → NodeTold S s.moments n (s.nodes.node n)

line_rest : (S : Setting) (c : Cluster) (s : Scene) (e : Event) (later : List Moment) → SceneTold S s
    → (let u : Scene = armed_by c e (adding (Said (line.Event e)) s) in Leaves (due_for u e) (brings c u e) later) → IsRest S s.moments (Said (line.Event e)) later
line_rest S c s (event.Disk n) later told leaves = λ on. disk_so S s.moments n (s.nodes.node n) later on (told n) leaves
line_rest S c s (event.Write n d value) later told leaves = λ off. down_alone n s.moments (s.nodes.node n) (told n).lines (told n).seated off
line_rest S c s _ later told leaves = tt

part_rest : (S : Setting) (c : Cluster) (s : Scene) (e : Event) (later : List Moment) → SceneTold S s → MayBegin s e
    → (let t : Scene = adding (Part e) s in Leaves (due_for t e) (brings c t e) later) → IsRest S s.moments (Part e) later
part_rest S c s (event.Disk n) later told may leaves =
    let on : is_up n s.moments ≡ true = due_up n s.moments (s.nodes.node n) (told n).lines may in
    let none : skip_due S s.moments (event.Disk n) ≡ None = disk_due S s.moments n (s.nodes.node n) on (told n) may in (
      none,
      subst (λ o. IsDiskLine S s.moments n later o) none (disk_so S s.moments n (s.nodes.node n) later on (told n) leaves),
    )
part_rest S c s (event.Deliver p) later told may leaves = tt
part_rest S c s (event.Tick n) later told may leaves = tt
part_rest S c s _ later told may leaves = absurd may

pub rest_opens : (S : Setting) (c : Cluster) (s : Scene) → SceneTold S s → Opening (IsRest S) c s
rest_opens S c s told = record { line_so = λ e later leaves. line_rest S c s e later told leaves; part_so = λ e later may leaves. part_rest S c s e later told may leaves }
