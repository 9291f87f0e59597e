-- In each run an attempt has waited for at most as many ticks as the lines count.
use Rattle.std.specs.Prelude.{ℕ, ◌+◌, ◌-◌, ◌++◌, ◌==◌, ◌||◌, ◌≡◌, ◌≢◌, ◌≤◌, ◌⊎◌, Bool, true, false, List, [], ◌∷◌, Option, None, Some, slice_get, if◌then◌else◌}
use Rattle.std.specs.List.{AllByRecursion}
use Rattle.std.proofs.Common.{arith, refl, sym, ap, subst, ◌∙◌, inl, inr}
use Rattle.cl_base.specs.declared.header.Header.{Header}
use Rattle.cl_base.specs.declared.method.Outcome as method
use Rattle.cl_base.specs.declared.packet.DropCause.{DropCause}
use Rattle.cmm_attempt.proofs.Basics.{false_true}
use Rattle.cmm_attempt.specs.Attempts.{AttemptState}
use Rattle.history.specs.Attempts.{phase_tick}
use Rattle.history.specs.Moment.{Moment, Said, Told}
use Rattle.history.specs.Order.{Always}
use Rattle.history.specs.Setting.{coordinator}
use Rattle.history.specs.Trace.{delivered, ticked}
use Rattle.history_setting.specs.Settings.{setting_of}
use Rattle.interconnect.specs.Links as net
use Rattle.interconnect.specs.Links.{sending}
use Rattle.machine_base.proofs.Puts.{put_here, put_there, same_or_not}
use Rattle.node_model.specs.Steps.{stepped}
use Rattle.node_model.specs.declared.cluster.Cluster.{Cluster}
use Rattle.node_model.specs.declared.input.Input.{Input}
use Rattle.node_model.specs.declared.input.Input.TheVariants as input
use Rattle.node_model.specs.declared.node.Node.{Node}
use Rattle.node_model.specs.declared.node.Node.TheVariants.{Down, Up}
use Rattle.node_model.specs.declared.node.UpNode.{UpNode}
use Rattle.node_model.specs.declared.output.Output.{Output}
use Rattle.node_model.specs.declared.output.Output.TheVariants.{Sends, Tells}
use Rattle.pgr_device.specs.Device.{Device}
use Rattle.pgr_device.specs.declared.command.PrCommand.{PrCommand}
use Rattle.pgr_device.specs.declared.command.PrCommand.TheVariants as command
use Rattle.refinement.specs.Runs.{Nodes, moved}
use Rattle.refinement.specs.Runs.Move.{Takes as Takes_in}
use Rattle.refinement.specs.Steps.{disk_rules}
use Rattle.run_history.proofs.Idle.{passing_nodes}
use Rattle.run_history.specs.Happenings.{Happening, IsUp, all_happened, armed_by, commanded, commanded_at, given_by, happened, removed, taking}
use Rattle.run_history.specs.Happenings.Happening.{Arrives, Begins, Commands, Loses, Misses, Notes, Refuses, Repeats, Speaks, Strays, Takes, Writes}
use Rattle.run_history.specs.Scenes.{Scene, adding, dropped_so, first_scene, passing, telling, with_links}
use Rattle.run_history.specs.Shapes.{nothing}
use Rattle.run_lines.proofs.Adds.{Adds, adds_passing, onto}
use Rattle.run_lines.proofs.Outputs.{TellsFirst, gives_entries, tick_first}
use Rattle.run_lines.specs.Entries.{GivesEntry}
use Rattle.run_packets.specs.native.Laws.{BootsInHeader}
use Rattle.schedule_text.specs.declared.event.Event.{Event}
use Rattle.schedule_text.specs.declared.event.Event.TheVariants as event
use Rattle.schedule_text.specs.declared.line.Line.TheVariants as line
use Rattle.status_report.specs.declared.entry.Entry.TheVariants as entry
use Rattle.status_report.specs.declared.node_entry.NodeEntry.TheVariants as note
use Rattle.status_report.specs.declared.packet_entry.PacketEntry.TheVariants as packet
use Rattle.world_model.specs.First.{first_cluster}
use Rattle.run_outcomes.specs.phases.Kept.{In}
use Rattle.run_outcomes.specs.phases.Laws.{HasAttempt}
use Rattle.run_outcomes.specs.saves.Kept.{IsAt}
use Rattle.run_outcomes.specs.silence.Still.{Goes, Still}
use Rattle.run_outcomes.specs.silence.Ticks.{AskedAreMembers, InstalledOnce, IsFirstInstall, TicksTold, tasks_in}
use Rattle.run_outcomes.specs.tasks.AsksGiven.{IsLeft}
use Rattle.run_outcomes.proofs.asks.Lines.{left_before}
use Rattle.run_outcomes.proofs.others.Ends.{all_before}
use Rattle.run_outcomes.proofs.own_steps.Steps.{OfEachStep}
use Rattle.run_outcomes.proofs.own_steps.Walk.{of_each_left}
use Rattle.run_outcomes.proofs.phases.Leading.{Has}
use Rattle.run_outcomes.proofs.phases.Promised.{HasIt, has_it}
use Rattle.run_outcomes.proofs.rounds_told.Numbers.{happened_next}
use Rattle.run_outcomes.proofs.silence.StillCourses.{down_goes, step_goes, ticks_by}
use Rattle.run_outcomes.proofs.silence.StillTurns.{still_self}
use Rattle.run_outcomes.proofs.silence.TickLines.{more_ticks}
use Rattle.run_outcomes.proofs.silence.TickSteps.{Both, Even, Knows, TasksBegin, even_so, knows_so, number_same, up_has}
use Rattle.run_outcomes.proofs.told_tasks.Prefixes.{ShapedBefore, happened_last, may_before, native_before, shaped_before}

-- ---- arithmetic

zero_le : (a b : ℕ) → a ≡ 0 → a ≤ b
zero_le a b h = omega (arith, h)

then_le : (a b p q : ℕ) → b ≤ a + 0 → a ≤ p → p ≤ q → b ≤ q
then_le a b p q h k l = omega (arith, h, k, l)

later_le : (a b p q : ℕ) → b ≤ a + 1 → a ≤ p → p + 1 ≤ q → b ≤ q
later_le a b p q h k l = omega (arith, h, k, l)

one_le : (a b : ℕ) → b ≤ a + 0 → b ≤ a + 1
one_le a b h = omega (arith, h)

or_none : (a b : Bool) → (a || b) ≡ false → (a ≡ false) × (b ≡ false)
or_none true b h = absurd (false_true (sym h))
or_none false b h = (refl, h)

-- ---- an attempt that goes on

abbrev Counts : Header → ℕ → List Moment → ℕ
Counts h e ms = phase_tick (setting_of h) e ms

goes_on : (h : Header) (s t : Scene) (n : ℕ) (x y : UpNode) (a b : AttemptState) (xs : List Moment) → onto xs s.moments ≡ t.moments → Always IsFirstInstall t.moments → Both h s t n x y a b → tasks_in (setting_of h) (coordinator a.plan.epoch) xs s.moments ≡ false
    → b.ticks ≤ a.ticks + 0 → a.ticks ≤ Counts h a.plan.epoch s.moments → b.ticks ≤ Counts h b.plan.epoch t.moments
goes_on h s t n x y a b xs is once k tasks bound le =
    let even : Even a.plan.epoch xs s.moments = even_so h s t n x y a b xs is once k in
    subst (λ e. b.ticks ≤ Counts h e t.moments) (sym (number_same h s t n x y a b k))
    (subst (λ ms. b.ticks ≤ Counts h a.plan.epoch ms) is (then_le a.ticks b.ticks (Counts h a.plan.epoch s.moments) (Counts h a.plan.epoch (onto xs s.moments)) bound le (more_ticks (setting_of h) a.plan.epoch xs s.moments even.begun even.installs even.asks tasks)))

-- .. one tick later
ticks_on : (h : Header) (s t : Scene) (n : ℕ) (x y : UpNode) (a b : AttemptState) (xs : List Moment) → (n == coordinator a.plan.epoch) ≡ true → onto (ticked n ∷ xs) s.moments ≡ t.moments → Always IsFirstInstall t.moments → Both h s t n x y a b
    → tasks_in (setting_of h) (coordinator a.plan.epoch) (ticked n ∷ xs) s.moments ≡ false → b.ticks ≤ a.ticks + 1 → a.ticks ≤ Counts h a.plan.epoch s.moments → b.ticks ≤ Counts h b.plan.epoch t.moments
ticks_on h s t n x y a b xs own is once k tasks bound le =
    let even : Even a.plan.epoch (ticked n ∷ xs) s.moments = even_so h s t n x y a b (ticked n ∷ xs) is once k in
    subst (λ e. b.ticks ≤ Counts h e t.moments) (sym (number_same h s t n x y a b k))
    (subst (λ ms. b.ticks ≤ Counts h a.plan.epoch ms) is
    (later_le a.ticks b.ticks (Counts h a.plan.epoch s.moments) (Counts h a.plan.epoch (onto xs (ticked n ∷ s.moments))) bound le
    (subst (λ z. z ≤ Counts h a.plan.epoch (onto xs (ticked n ∷ s.moments))) (ap (λ w. if w then Counts h a.plan.epoch s.moments + 1 else Counts h a.plan.epoch s.moments) own)
    (more_ticks (setting_of h) a.plan.epoch xs (ticked n ∷ s.moments) even.begun even.installs even.asks tasks))))

-- ---- a node takes something

-- what is known of a step
record Step (h : Header) (s t : Scene) : Type 0 where
  before : Knows h s
  after : Knows h t
  once : Always IsFirstInstall t.moments
  tasks : (newer : List Moment) → onto newer s.moments ≡ t.moments → (n : ℕ) (a : AttemptState) → HasAttempt t n a → tasks_in (setting_of h) n newer s.moments ≡ true → a.ticks ≡ 0
  kept : (n : ℕ) (x : UpNode) (a : AttemptState) → s.nodes.node n ≡ Up x → x.attempt ≡ Some a → a.ticks ≤ Counts h a.plan.epoch s.moments

self_one : (a : AttemptState) → Still 1 a a
self_one a = let k : Still 0 a a = still_self a in record { phase = k.phase; plan = k.plan; asked = k.asked; awaited = k.awaited; ticks = one_le a.ticks a.ticks k.ticks }

still_one : (a b : AttemptState) → Still 0 a b → Still 1 a b
still_one a b k = record { phase = k.phase; plan = k.plan; asked = k.asked; awaited = k.awaited; ticks = one_le a.ticks b.ticks k.ticks }

-- the lines of the step, and whether they begin with a tick of the node
pub record Lines (s t : Scene) (n later : ℕ) : Type 0 where
  pub xs : List Moment
  pub is : onto xs s.moments ≡ t.moments
  pub first : (later ≡ 0) ⊎ ((later ≡ 1) × (IsUp (s.nodes.node n) → (rest : List Moment) × (xs ≡ ticked n ∷ rest)))

by_tasks : (b k : ℕ) (t : Bool) → (t ≡ true → b ≡ 0) → (t ≡ false → b ≤ k) → b ≤ k
by_tasks b k true f g = zero_le b k (f refl)
by_tasks b k false f g = g refl

own_so : (h : Header) (s t : Scene) (n : ℕ) (x : UpNode) (a : AttemptState) → Step h s t → s.nodes.node n ≡ Up x → x.attempt ≡ Some a → coordinator a.plan.epoch ≡ n
own_so h s t n x a k up has = (k.before.seen.attempts k.before.left n x a up has).so.own

itself : (a b : ℕ) → a ≡ b → (a == b) ≡ true
itself a b h = grind arith

went_on : (h : Header) (s t : Scene) (n later : ℕ) (x y : UpNode) (a b : AttemptState) → Step h s t → Lines s t n later → s.nodes.node n ≡ Up x → x.attempt ≡ Some a → t.nodes.node n ≡ Up y → y.attempt ≡ Some b → Still later a b
    → b.ticks ≤ Counts h b.plan.epoch t.moments
went_on h s t n later x y a b k l up has up_after has_after still =
    by_tasks b.ticks (Counts h b.plan.epoch t.moments) (tasks_in (setting_of h) n l.xs s.moments) (λ told. k.tasks l.xs l.is n b (up_has t n y b up_after has_after) told) (λ none. by_first l.first none)
  where
    own : coordinator a.plan.epoch ≡ n
    own = own_so h s t n x a k up has

    by_first : (later ≡ 0) ⊎ ((later ≡ 1) × (IsUp (s.nodes.node n) → (rest : List Moment) × (l.xs ≡ ticked n ∷ rest))) → tasks_in (setting_of h) n l.xs s.moments ≡ false → b.ticks ≤ Counts h b.plan.epoch t.moments
    by_first (inl zero_later) none =
        let z : Still 0 a b = subst (λ j. Still j a b) zero_later still in
        goes_on h s t n x y a b l.xs l.is k.once (record { before = k.before; after = k.after; up = up; has = has; up_after = up_after; has_after = has_after; still = still_one a b z })
        (subst (λ j. tasks_in (setting_of h) j l.xs s.moments ≡ false) (sym own) none) z.ticks (k.kept n x a up has)
    by_first (inr one_later) none =
        let z : Still 1 a b = subst (λ j. Still j a b) one_later.0 still in
        let r : (rest : List Moment) × (l.xs ≡ ticked n ∷ rest) = one_later.1 (subst IsUp (sym up) tt) in
        ticks_on h s t n x y a b r.0 (itself n (coordinator a.plan.epoch) (sym own)) (subst (λ xs. onto xs s.moments ≡ t.moments) r.1 l.is) k.once (record { before = k.before; after = k.after; up = up; has = has; up_after = up_after; has_after = has_after; still = z })
        (subst (λ j. tasks_in (setting_of h) j (ticked n ∷ r.0) s.moments ≡ false) (sym own) (subst (λ xs. tasks_in (setting_of h) n xs s.moments ≡ false) r.1 none)) z.ticks (k.kept n x a up has)

same_up : (node : Node) (x y : UpNode) → node ≡ Up x → node ≡ Up y → x ≡ y
same_up node x y h k = ap (up_of x) (sym h ∙ k)
  where
    up_of : UpNode → Node → UpNode
    up_of z Down = z
    up_of z (Up w) = w

at_up : (P : UpNode → Type 0) (node : Node) (y : UpNode) → node ≡ Up y → IsAt P node → P y
at_up P node y is h = subst (IsAt P) is h

-- the lines of another node
quiet_lines : (s t : Scene) (n m later : ℕ) → Lines s t m later → Lines s t n 0
quiet_lines s t n m later l = record { xs = l.xs; is = l.is; first = inl refl }

taken : (h : Header) (s t : Scene) (m now : ℕ) (ends : method.Outcome) (i : Input) → Step h s t → Lines s t m (ticks_by i)
    → t.nodes.node m ≡ (stepped disk_rules (first_cluster h) m now ends (s.nodes.node m) (s.nodes.disk m) i).after → ((j : ℕ) → j ≢ m → t.nodes.node j ≡ s.nodes.node j)
    → (n : ℕ) (y : UpNode) (b : AttemptState) → t.nodes.node n ≡ Up y → y.attempt ≡ Some b → b.ticks ≤ Counts h b.plan.epoch t.moments
taken h s t m now ends i k l here there n y b up has = by_node (same_or_not n m)
  where
    c : Cluster
    c = first_cluster h

    by_attempt : (x : UpNode) (o : Option AttemptState) → s.nodes.node m ≡ Up x → x.attempt ≡ o → t.nodes.node m ≡ Up y → Goes (ticks_by i) o b → b.ticks ≤ Counts h b.plan.epoch t.moments
    by_attempt x o before at after (inl none) = zero_le b.ticks (Counts h b.plan.epoch t.moments) none
    by_attempt x None before at after (inr still) = absurd still
    by_attempt x (Some a) before at after (inr still) = went_on h s t m (ticks_by i) x y a b k l before at after has still

    by_before : (node : Node) → s.nodes.node m ≡ node → t.nodes.node m ≡ Up y → b.ticks ≤ Counts h b.plan.epoch t.moments
    by_before Down is after =
        absurd (subst (In (λ (z : AttemptState). ⊥)) has (at_up (Has (λ z. ⊥)) (stepped disk_rules c m now ends (s.nodes.node m) (s.nodes.disk m) i).after y (sym here ∙ after)
        (subst (λ z. IsAt (Has (λ w. ⊥)) (stepped disk_rules c m now ends z (s.nodes.disk m) i).after) (sym is) (down_goes c m now ends (s.nodes.disk m) i))))
    by_before (Up x) is after =
        by_attempt x x.attempt is refl after
        (subst (In (Goes (ticks_by i) x.attempt)) has (at_up (Has (Goes (ticks_by i) x.attempt)) (stepped disk_rules c m now ends (s.nodes.node m) (s.nodes.disk m) i).after y (sym here ∙ after)
        (subst (λ z. IsAt (Has (Goes (ticks_by i) x.attempt)) (stepped disk_rules c m now ends z (s.nodes.disk m) i).after) (sym is) (step_goes c m now ends x (s.nodes.disk m) i))))

    by_node : (n ≡ m) ⊎ (n ≢ m) → b.ticks ≤ Counts h b.plan.epoch t.moments
    by_node (inl same) = by_before (s.nodes.node m) refl (subst (λ j. t.nodes.node j ≡ Up y) same up)
    by_node (inr ne) = went_on h s t n 0 y y b b k (quiet_lines s t n m (ticks_by i) l) (sym (there n ne) ∙ up) has up has (still_self b)

-- ---- its lines

no_tick : (i : Input) → (ticks_by i ≡ 0) ⊎ (i ≡ input.Tick)
no_tick input.Tick = inr refl
no_tick input.Boot = inl refl
no_tick input.Crash = inl refl
no_tick (input.Packet from m) = inl refl
no_tick input.CommandDue = inl refl
no_tick (input.Answered a) = inl refl
no_tick (input.Wrote d value a) = inl refl
no_tick (input.Commanded words) = inl refl
no_tick (input.Reported r good) = inl refl
no_tick (input.Client name client port) = inl refl

-- what a node tells first is its tick
record Begun (n : ℕ) (u t : Scene) : Type 0 where
  rest : List Moment
  is : onto (ticked n ∷ rest) u.moments ≡ t.moments

begun_by : (n : ℕ) (os : List Output) (u : Scene) → AllByRecursion GivesEntry os → TellsFirst (λ e. e ≡ entry.Node n note.Ticked) os → Begun n u (passing n os u)
begun_by n [] u are first = absurd first
begun_by n (Sends to b ∷ os) u are first = absurd first
begun_by n (Tells e ∷ os) u are first =
    let a : Adds (telling e u).moments (passing n os (telling e u)).moments = adds_passing n os (telling e u) are.1 in
    record { rest = a.entries; is = ap (λ z. onto (Told z ∷ a.entries) u.moments) (sym first) ∙ a.is }

tick_lines : (c : Cluster) (s : Scene) (n now : ℕ) (ends : method.Outcome) → Lines s (taking c n now ends input.Tick s) n 1
tick_lines c s n now ends = by_node (s.nodes.node n) refl
  where
    t : Scene
    t = taking c n now ends input.Tick s

    os : List Output
    os = given_by c n now ends input.Tick s.nodes

    u : Scene
    u = record s { nodes = moved c s.nodes (Takes_in n now ends input.Tick) }

    are : AllByRecursion GivesEntry os
    are = gives_entries c n now ends (s.nodes.node n) (s.nodes.disk n) input.Tick

    by_node : (node : Node) → s.nodes.node n ≡ node → Lines s t n 1
    by_node Down is = let a : Adds s.moments t.moments = adds_passing n os u are in record { xs = a.entries; is = a.is; first = inr (refl, λ up. absurd (subst IsUp is up)) }
    by_node (Up x) is =
        let b : Begun n u t = begun_by n os u are (tick_first c n now ends (s.nodes.node n) (s.nodes.disk n) (subst IsUp (sym is) tt)) in
        record { xs = ticked n ∷ b.rest; is = b.is; first = inr (refl, λ up. (b.rest, refl)) }

pub taking_lines : (c : Cluster) (s : Scene) (n now : ℕ) (ends : method.Outcome) (i : Input) → Lines s (taking c n now ends i s) n (ticks_by i)
taking_lines c s n now ends i = by_input (no_tick i)
  where
    by_input : (ticks_by i ≡ 0) ⊎ (i ≡ input.Tick) → Lines s (taking c n now ends i s) n (ticks_by i)
    by_input (inr is) = subst (λ j. Lines s (taking c n now ends j s) n (ticks_by j)) (sym is) (tick_lines c s n now ends)
    by_input (inl none) =
        let a : Adds s.moments (taking c n now ends i s).moments = adds_passing n (given_by c n now ends i s.nodes) (record s { nodes = moved c s.nodes (Takes_in n now ends i) }) (gives_entries c n now ends (s.nodes.node n) (s.nodes.disk n) i) in
        record { xs = a.entries; is = a.is; first = inl none }

taking_here : (c : Cluster) (n now : ℕ) (ends : method.Outcome) (i : Input) (s : Scene) → (taking c n now ends i s).nodes.node n ≡ (stepped disk_rules c n now ends (s.nodes.node n) (s.nodes.disk n) i).after
taking_here c n now ends i s =
    ap (λ (w : Nodes). w.node n) (passing_nodes n (given_by c n now ends i s.nodes) (record s { nodes = moved c s.nodes (Takes_in n now ends i) }))
    ∙ put_here s.nodes.node n (stepped disk_rules c n now ends (s.nodes.node n) (s.nodes.disk n) i).after

taking_there : (c : Cluster) (n now : ℕ) (ends : method.Outcome) (i : Input) (s : Scene) (k : ℕ) → k ≢ n → (taking c n now ends i s).nodes.node k ≡ s.nodes.node k
taking_there c n now ends i s k ne =
    ap (λ (w : Nodes). w.node k) (passing_nodes n (given_by c n now ends i s.nodes) (record s { nodes = moved c s.nodes (Takes_in n now ends i) }))
    ∙ put_there s.nodes.node n (stepped disk_rules c n now ends (s.nodes.node n) (s.nodes.disk n) i).after k ne

-- ---- each thing that happens

abbrev Kept_at : Header → Scene → Type 0
Kept_at h t = (n : ℕ) (y : UpNode) (b : AttemptState) → t.nodes.node n ≡ Up y → y.attempt ≡ Some b → b.ticks ≤ Counts h b.plan.epoch t.moments

armed_kept : (h : Header) (e : Event) (s : Scene) → Kept_at h s → Kept_at h (armed_by (first_cluster h) e (adding (Said (line.Event e)) s))
armed_kept h (event.Fault n d done) s k = k
armed_kept h (event.CrashAt n calls choice) s k = k
armed_kept h _ s k = k

dropped_kept : (h : Header) (o : Option (ℕ × DropCause)) (s : Scene) → Kept_at h s → Kept_at h (dropped_so o s)
dropped_kept h None s k = k
dropped_kept h (Some x) s k = k

-- at a device
done_kept : (h : Header) (s : Scene) (n d now : ℕ) (ends : method.Outcome) (o : Option Device) (q : PrCommand) (i : Input) → ticks_by i ≡ 0 → Step h s (taking (first_cluster h) n now ends i (commanded_at s n d o q).scene) → Kept_at h (taking (first_cluster h) n now ends i (commanded_at s n d o q).scene)
done_kept h s n d now ends None q i none k = taken h s (taking (first_cluster h) n now ends i s) n now ends i k (taking_lines (first_cluster h) s n now ends i) (taking_here (first_cluster h) n now ends i s) (taking_there (first_cluster h) n now ends i s)
done_kept h s n d now ends (Some x) q i none k =
    let c : Cluster = first_cluster h in
    let u : Scene = (commanded_at s n d (Some x) q).scene in
    let l : Lines u (taking c n now ends i u) n (ticks_by i) = taking_lines c u n now ends i in
    taken h s (taking c n now ends i u) n now ends i k (record { xs = l.xs; is = l.is; first = inl none }) (taking_here c n now ends i u) (taking_there c n now ends i u)

happening_kept : (h : Header) (s : Scene) (x : Happening) → Step h s (happened (first_cluster h) s x) → Kept_at h (happened (first_cluster h) s x)
happening_kept h s (Speaks e) k = armed_kept h e s k.kept
happening_kept h s (Begins e) k = k.kept
happening_kept h s (Notes e) k = k.kept
happening_kept h s (Takes n now ends i) k = taken h s (taking (first_cluster h) n now ends i s) n now ends i k (taking_lines (first_cluster h) s n now ends i) (taking_here (first_cluster h) n now ends i s) (taking_there (first_cluster h) n now ends i s)
happening_kept h s (Arrives number p m now ends) k =
    let c : Cluster = first_cluster h in
    let i : Input = input.Packet p.from m in
    let u : Scene = telling (entry.Packet (packet.Delivered number p.from p.to)) (removed s number) in
    let l : Lines u (taking c p.to now ends i u) p.to 0 = taking_lines c u p.to now ends i in
    taken h s (taking c p.to now ends i u) p.to now ends i k (record { xs = delivered number p.from p.to ∷ l.xs; is = l.is; first = inl refl }) (taking_here c p.to now ends i u) (taking_there c p.to now ends i u)
happening_kept h s (Strays number p) k = λ n y b up has. went_on h s (happened (first_cluster h) s (Strays number p)) n 0 y y b b k (record { xs = delivered number p.from p.to ∷ []; is = refl; first = inl refl }) up has up has (still_self b)
happening_kept h s (Misses number p) k = k.kept
happening_kept h s (Loses number p) k = k.kept
happening_kept h s (Repeats number p) k =
    let o : net.Outcome = sending s.links p.from p.to p.bytes in
    dropped_kept h o.sent.dropped (telling (entry.Packet (packet.Repeated number s.links.next)) (with_links s o.after)) k.kept
happening_kept h s (Commands n d q now ends) k = done_kept h s n d now ends (slice_get s.devices (d - 1)) q (input.Answered (commanded s n d q).answer) refl k
happening_kept h s (Writes n d value now ends) k = done_kept h s n d now ends (slice_get s.devices (d - 1)) (command.Write value) (input.Wrote d value (commanded s n d (command.Write value)).answer) refl k
happening_kept h s (Refuses n d value cause) k = k.kept

-- ---- runs

step_kept : AskedAreMembers → InstalledOnce → TasksBegin → OfEachStep (λ h s x t. Kept_at h s → Kept_at h t)
step_kept members once tasks h cells hs x last nodes few small disks may shaped native boots left kept =
    let c : Cluster = first_cluster h in
    let s : Scene = all_happened c (first_scene h cells) hs in
    let t : Scene = all_happened c (first_scene h cells) (hs ++ x ∷ []) in
    let is : t ≡ happened c s x = happened_last c (first_scene h cells) hs x in
    let before : ShapedBefore c (first_scene h cells) nothing hs = shaped_before c (first_scene h cells) nothing last hs (x ∷ []) shaped in
    let there : IsLeft (happened c s x).links.next = subst (λ (z : Scene). IsLeft z.links.next) is left in
    let at_s : Knows h s = knows_so members h cells hs before.last nodes few small disks (may_before c (first_scene h cells) hs (x ∷ []) may) before.shaped (native_before c (first_scene h cells) hs (x ∷ []) native)
    (all_before (BootsInHeader h) hs (x ∷ []) boots) (left_before s.links.next (happened c s x).links.next (happened_next c s x) there) in
    let at_t : Knows h t = knows_so members h cells (hs ++ x ∷ []) last nodes few small disks may shaped native boots left in
    let step : Step h s t = record {
      before = at_s;
      after = at_t;
      once = once h cells (hs ++ x ∷ []) few small may;
      tasks = λ newer same n a at told. tasks h cells hs x last nodes few small disks may shaped native boots left newer same n a at told;
      kept = kept;
    } in
    subst (Kept_at h) (sym is) (happening_kept h s x (subst (Step h s) is step))

none_up : (x : UpNode) → Down ≡ Up x → ⊥
none_up x is = subst (IsAt (λ y. ⊥)) is tt

first_kept : (h : Header) (cells : ℕ) → Kept_at h (first_scene h cells)
unfolding first_scene
first_kept h cells n x a up has = absurd (none_up x up)

pub ticks_are_told : AskedAreMembers → InstalledOnce → TasksBegin → TicksTold
ticks_are_told members once tasks h cells hs last nodes few small disks may shaped native boots left n a at = so
  where
    s : Scene
    s = all_happened (first_cluster h) (first_scene h cells) hs

    it : HasIt (s.nodes.node n) a
    it = has_it (s.nodes.node n) a at

    all : Kept_at h s
    all = of_each_left (λ k z. Kept_at k z) first_kept (step_kept members once tasks) h cells hs last nodes few small disks may shaped native boots left

    so : a.ticks ≤ phase_tick (setting_of h) a.plan.epoch s.moments
    so = all n it.x a it.up it.has
