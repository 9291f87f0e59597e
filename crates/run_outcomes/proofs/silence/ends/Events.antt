-- In each run an attempt ends in time, where it has waited for as many ticks at least as the lines count.
use Rattle.std.specs.Prelude.{ℕ, ◌&&◌, ◌^◌, ◌<◌, ◌≡◌, ◌≤◌, nat_le, not, Bool, true, false, IfSome, find, length, List, [], ◌∷◌, Option, None, Some, is_some}
use Rattle.std.specs.List.{AllByRecursion, list_any}
use Rattle.std.proofs.Common.{arith, refl, sym, ap, subst, ◌∙◌}
use Rattle.cl_base.specs.Limits.{most_devices, most_nodes}
use Rattle.cl_base.specs.declared.header.Header.{Header}
use Rattle.cl_base.specs.declared.method.Outcome as method
use Rattle.cmm_attempt.proofs.Basics.{and_cases, false_true, same_number}
use Rattle.cmm_attempt.specs.Attempts.{AttemptState, is_missing, is_over}
use Rattle.history.specs.Attempts.{EndsInTime, TickEnds, ends_silent_or_falls, first_missing, is_overtime, phase_tick}
use Rattle.history.specs.Member.{attempt_of}
use Rattle.history.specs.Messages.{onto}
use Rattle.history.specs.Moment.{Moment, Part, Said}
use Rattle.history.specs.Queue.{queue_is_open}
use Rattle.history.specs.Seizing.{is_number}
use Rattle.history.specs.Setting.{coordinator}
use Rattle.history.specs.UnderWay.{is_under_way}
use Rattle.history_setting.specs.Settings.{setting_of}
use Rattle.node_model.specs.declared.cluster.Cluster.{Cluster}
use Rattle.node_model.specs.declared.input.Input.TheVariants as input
use Rattle.node_model.specs.declared.node.Node.{Node}
use Rattle.node_model.specs.declared.node.Node.TheVariants.{Down, Up}
use Rattle.node_model.specs.declared.node.UpNode.{UpNode}
use Rattle.node_model.specs.declared.output.Output.{Output}
use Rattle.node_model.specs.Steps.{stepped}
use Rattle.refinement.specs.Guards.{OfUp}
use Rattle.refinement.specs.Runs.{moved}
use Rattle.refinement.specs.Runs.Move.{Takes as Takes_in}
use Rattle.refinement.specs.Steps.{disk_rules}
use Rattle.run_attempts.specs.endings.Laws.{epoch_at}
use Rattle.run_history.specs.Happenings.{Happening, MayAllHappen, all_happened, given_by, happened, taking}
use Rattle.run_history.specs.Happenings.Happening.{Speaks, Takes}
use Rattle.run_history.specs.Scenes.{Scene, adding, first_scene}
use Rattle.run_history.specs.Shapes.{Due, IsShaped, IsThis, ShapedFrom, brings, due_after, if_up, nothing, taking_this}
use Rattle.run_history.specs.Shapes as want
use Rattle.run_history.specs.WorldLines.{AreDisks}
use Rattle.run_lines.proofs.Outputs.{gives_entries}
use Rattle.run_packets.specs.repeats.Events.{AlongRun, EventLaw}
use Rattle.run_packets.specs.native.Laws.{BootsInHeader}
use Rattle.run_packets.specs.views.Laws.{NoneForeign}
use Rattle.schedule_text.specs.declared.event.Event.{Event}
use Rattle.schedule_text.specs.declared.event.Event.TheVariants as event
use Rattle.schedule_text.specs.declared.line.Line.TheVariants as line
use Rattle.world_model.specs.First.{first_cluster}
use Rattle.run_outcomes.specs.phases.Laws.{HasAttempt}
use Rattle.run_outcomes.specs.reports.Events.{Leaves, Opening}
use Rattle.run_outcomes.specs.silence.Ends.{AttemptsEndInTime, TicksAreMost, shows_end}
use Rattle.run_outcomes.specs.silence.Laws.{FirstIsTold}
use Rattle.run_outcomes.specs.tasks.AsksGiven.{IsLeft}
use Rattle.run_outcomes.proofs.outward.Collects.{own_attempt}
use Rattle.run_outcomes.proofs.phases.LiveRuns.{none_is_over}
use Rattle.run_outcomes.proofs.phases.Runs.{Knows, knows_at, none_at}
use Rattle.run_outcomes.proofs.points.Before.{Before, first_before, one_more}
use Rattle.run_outcomes.proofs.reports.Events.{each_event}
use Rattle.run_outcomes.proofs.rounds_told.Numbers.{left_here, run_left}
use Rattle.run_outcomes.proofs.silence.ends.Courses.{tick_shows}
use Rattle.run_outcomes.proofs.silence.ends.Entries.{shown_told}

-- ---- what is known of each scene

-- of an attempt whose coordinator's queue is told
record Waits (h : Header) (ms : List Moment) (a : AttemptState) : Type 0 where
  most : phase_tick (setting_of h) a.plan.epoch ms ≤ a.ticks
  first : first_missing (setting_of h) a.plan.epoch ms ≡ find (is_missing a) a.plan.nodes

record Facts (h : Header) (s : Scene) : Type 0 where
  knows : Knows (first_cluster h) s
  live : (n : ℕ) (a : AttemptState) → HasAttempt s n a → is_over a.phase ≡ false
  waits : (n : ℕ) (a : AttemptState) → HasAttempt s n a → queue_is_open (setting_of h) n s.moments ≡ false → Waits h s.moments a

facts_at : TicksAreMost → FirstIsTold → (h : Header) (cells : ℕ) (d : Due) (xs : List Happening) → h.nodes ≤ most_nodes → length h.devices ≤ most_devices → h.cluster < 2 ^ 32 → AreDisks h
    → MayAllHappen (first_cluster h) (first_scene h cells) xs → ShapedFrom (first_cluster h) (first_scene h cells) nothing xs d → NoneForeign (first_cluster h) (first_scene h cells) xs
    → AllByRecursion (BootsInHeader h) xs → IsLeft (all_happened (first_cluster h) (first_scene h cells) xs).links.next → Facts h (all_happened (first_cluster h) (first_scene h cells) xs)
facts_at most first h cells d xs nodes few small disks may shaped native boots left = record {
  knows = knows_at h cells (all_happened (first_cluster h) (first_scene h cells) xs) (record { few = few; small = small }) (record { happenings = xs; may = may; is = refl });
  live = λ n a at. none_is_over h cells xs few small may n a at;
  waits = λ n a at shut. record {
    most = most h cells xs d nodes few small disks may shaped native boots left n a at shut;
    first = first h cells xs d nodes few small disks may shaped native boots left n a at shut;
  };
}

facts_before : TicksAreMost → FirstIsTold → (h : Header) (cells : ℕ) (s : Scene) (d : Due) → h.nodes ≤ most_nodes → length h.devices ≤ most_devices → h.cluster < 2 ^ 32 → AreDisks h
    → Before (first_cluster h) (first_scene h cells) d s → IsLeft s.links.next → Facts h s
facts_before most first h cells s d nodes few small disks r left =
    subst (Facts h) r.is
    (facts_at most first h cells d r.happenings nodes few small disks r.may r.shaped r.native r.boots (subst (λ (z : Scene). IsLeft z.links.next) (sym r.is) left))

along : TicksAreMost → FirstIsTold → (h : Header) (cells : ℕ) (hs : List Happening) (s : Scene) (d last : Due) → h.nodes ≤ most_nodes → length h.devices ≤ most_devices → h.cluster < 2 ^ 32 → AreDisks h
    → Before (first_cluster h) (first_scene h cells) d s → MayAllHappen (first_cluster h) s hs → ShapedFrom (first_cluster h) s d hs last → NoneForeign (first_cluster h) s hs
    → AllByRecursion (BootsInHeader h) hs → IsLeft (all_happened (first_cluster h) s hs).links.next → AlongRun (Facts h) (first_cluster h) s hs
along most first h cells [] s d last nodes few small disks r may shaped native boots left = facts_before most first h cells s d nodes few small disks r left
along most first h cells (g ∷ hs) s d last nodes few small disks r may shaped native boots left =
    let c : Cluster = first_cluster h in (
      facts_before most first h cells s d nodes few small disks r (left_here c s (g ∷ hs) left),
      along most first h cells hs (happened c s g) (due_after c (happened c s g) d g) last nodes few small disks (one_more c (first_scene h cells) d s g r may.0 shaped.0 native.0 boots.0) may.1 shaped.1 native.1 boots.1 left,
    )

-- ---- a tick

unless : (b : Bool) → not b ≡ true → b ≡ false
unless true h = absurd (false_true h)
unless false h = refl

at_least : (a b : ℕ) → nat_le 7 a ≡ true → a ≤ b → 7 ≤ b
at_least a b h k = seven_then (seven a h) k
  where
    seven : (n : ℕ) → nat_le 7 n ≡ true → 7 ≤ n
    seven n is = grind arith

    seven_then : 7 ≤ a → a ≤ b → 7 ≤ b
    seven_then p q = omega (arith, p, q)

-- what makes it overtime
record Over (h : Header) (e : ℕ) (ms : List Moment) : Type 0 where
  under : is_under_way e ms ≡ true
  shut : queue_is_open (setting_of h) (coordinator e) ms ≡ false
  late : nat_le 7 (phase_tick (setting_of h) e ms) ≡ true
  missing : is_some (first_missing (setting_of h) e ms) ≡ true

over_so : (h : Header) (e : ℕ) (ms : List Moment) → is_overtime (setting_of h) e ms ≡ true → Over h e ms
over_so h e ms is =
    let under : Bool = is_under_way e ms in
    let shut : Bool = not (queue_is_open (setting_of h) (coordinator e) ms) in
    let late : Bool = nat_le 7 (phase_tick (setting_of h) e ms) in
    let some : Bool = is_some (first_missing (setting_of h) e ms) in
    let one : ((under && shut && late) ≡ true) × (some ≡ true) = and_cases (under && shut && late) some is in
    let two : ((under && shut) ≡ true) × (late ≡ true) = and_cases (under && shut) late one.0 in
    let three : (under ≡ true) × (shut ≡ true) = and_cases under shut two.0 in
    record { under = three.0; shut = unless (queue_is_open (setting_of h) (coordinator e) ms) three.1; late = two.1; missing = one.1 }

module _ (h : Header) (cells : ℕ) where
  -- the node is up, with this attempt
  tick_of : (s u : Scene) (n now : ℕ) (ends : method.Outcome) (x : UpNode) (a : AttemptState) (later : List Moment) → Facts h s → u.nodes ≡ s.nodes → s.nodes.node n ≡ Up x → x.attempt ≡ Some a → coordinator a.plan.epoch ≡ n → Over h a.plan.epoch s.moments
      → onto u.moments later ≡ (taking (first_cluster h) n now ends input.Tick u).moments → list_any (ends_silent_or_falls a.plan.epoch) later ≡ true
  tick_of s u n now ends x a later f nodes up has own over total =
      shown_told a.plan.epoch n os (record u { nodes = moved c u.nodes (Takes_in n now ends input.Tick) }) later (gives_entries c n now ends (u.nodes.node n) (u.nodes.disk n) input.Tick) total
      (by_first (find (is_missing a) a.plan.nodes) refl)
    where
      c : Cluster
      c = first_cluster h

      os : List Output
      os = given_by c n now ends input.Tick u.nodes

      at : HasAttempt s n a
      at = subst (OfUp (λ (y : UpNode). y.attempt ≡ Some a)) (sym up) has

      w : Waits h s.moments a
      w = f.waits n a at (subst (λ k. queue_is_open (setting_of h) k s.moments ≡ false) own over.shut)

      by_first : (o : Option ℕ) → find (is_missing a) a.plan.nodes ≡ o → list_any (shows_end a.plan.epoch) os ≡ true
      by_first None none = absurd (false_true (ap is_some (sym none ∙ sym w.first) ∙ over.missing))
      by_first (Some m) first =
          subst (λ (node : Node). list_any (shows_end a.plan.epoch) (stepped disk_rules c n now ends node (u.nodes.disk n) input.Tick).given ≡ true) (sym (ap (λ v. v.node n) nodes ∙ up))
          (tick_shows c n m now ends x a (u.nodes.disk n) (sym own) has (none_at c s n x a f.knows up has) (f.live n a at) (at_least (phase_tick (setting_of h) a.plan.epoch s.moments) a.ticks over.late w.most) first)

  tick_so : (s u t : Scene) (n : ℕ) (later : List Moment) → Facts h s → u.nodes ≡ s.nodes → Leaves cells (first_cluster h) u (if_up (u.nodes.node n) (λ x. taking_this n input.Tick)) later t → TickEnds (setting_of h) s.moments (Some (event.Tick n)) later
  tick_so s u t n later f nodes leaves = by_attempt (attempt_of n s.moments) refl
    where
      c : Cluster
      c = first_cluster h

      taken : (x : UpNode) (a : AttemptState) → s.nodes.node n ≡ Up x → x.attempt ≡ Some a → coordinator a.plan.epoch ≡ n → Over h a.plan.epoch s.moments → (g : Happening) → IsThis (want.Take n input.Tick) g → onto u.moments later ≡ (happened c u g).moments
          → list_any (ends_silent_or_falls a.plan.epoch) later ≡ true
      taken x a up has own over (Takes m now ends i) this total =
          tick_of s u n now ends x a later f nodes up has own over (total ∙ (ap (λ k. (taking c k now ends i u).moments) this.0 ∙ ap (λ j. (taking c n now ends j u).moments) this.1))
      taken x a up has own over _ this total = absurd this

      by_state : (e : ℕ) (x : UpNode) (o : Option AttemptState) → s.nodes.node n ≡ Up x → x.attempt ≡ o → coordinator e ≡ n → Over h e s.moments → is_number e (epoch_at (Up (record x { attempt = o }))) ≡ true
          → Leaves cells c u (taking_this n input.Tick) later t → list_any (ends_silent_or_falls e) later ≡ true
      by_state e x None up has own over is k = absurd (false_true is)
      by_state e x (Some a) up has own over is k =
          let same : a.plan.epoch ≡ e = same_number a.plan.epoch e is in
          subst (λ j. list_any (ends_silent_or_falls j) later ≡ true) same
          (taken x a up has (ap coordinator same ∙ own) (subst (λ j. Over h j s.moments) (sym same) over) k.happening k.this (k.moments ∙ ap (λ (z : Scene). z.moments) (sym k.at)))

      by_node : (e : ℕ) (v : Node) → s.nodes.node n ≡ v → coordinator e ≡ n → Over h e s.moments → is_number e (epoch_at v) ≡ true → Leaves cells c u (if_up v (λ x. taking_this n input.Tick)) later t → list_any (ends_silent_or_falls e) later ≡ true
      by_node e Down up own over is k = absurd (false_true is)
      by_node e (Up x) up own over is k = by_state e x x.attempt up refl own over is k

      by_attempt : (o : Option ℕ) → attempt_of n s.moments ≡ o → IfSome o (λ e. is_overtime (setting_of h) e s.moments ≡ true → list_any (ends_silent_or_falls e) later ≡ true)
      by_attempt None is = tt
      by_attempt (Some e) is = λ overtime.
          let over : Over h e s.moments = over_so h e s.moments overtime in
          let own : coordinator e ≡ n = own_attempt n e s.moments is in
          by_node e (s.nodes.node n) refl own over (subst (λ k. is_number e (epoch_at (s.nodes.node k)) ≡ true) own (sym (f.knows.theirs e) ∙ over.under))
          (subst (λ v. Leaves cells c u (if_up (v.node n) (λ x. taking_this n input.Tick)) later t) nodes leaves)

  -- ---- each event

  abbrev In_time : EventLaw
  In_time = EndsInTime (setting_of h)

  line_so : (s : Scene) (e : Event) (later : List Moment) (t : Scene) → Facts h s → Facts h t → Leaves cells (first_cluster h) (happened (first_cluster h) s (Speaks e)) (brings (first_cluster h) (happened (first_cluster h) s (Speaks e)) e) later t
      → In_time s.moments (Said (line.Event e)) later
  line_so s (event.Tick n) later t f g leaves = tick_so s (happened (first_cluster h) s (Speaks (event.Tick n))) t n later f refl leaves
  line_so s e later t f g leaves = tt

  part_so : (s : Scene) (e : Event) (later : List Moment) (t : Scene) → Facts h s → Facts h t → Leaves cells (first_cluster h) (adding (Part e) s) (brings (first_cluster h) (adding (Part e) s) e) later t → In_time s.moments (Part e) later
  part_so s (event.Tick n) later t f g leaves = tick_so s (adding (Part (event.Tick n)) s) t n later f refl leaves
  part_so s e later t f g leaves = tt

  opens : Opening In_time cells (first_cluster h) (Facts h)
  opens = record { line_so = line_so; part_so = part_so }

pub attempts_end_from : TicksAreMost → FirstIsTold → AttemptsEndInTime
attempts_end_from most first h cells hs nodes few small disks same may shaped native boots asks short =
    each_event (EndsInTime (setting_of h)) h cells hs (record { few = few; small = small }) (Facts h) (opens h cells)
    (along most first h cells hs (first_scene h cells) nothing nothing nodes few small disks (first_before (first_cluster h) (first_scene h cells)) may shaped native boots (run_left h cells hs few small same may shaped short))
    may shaped native
