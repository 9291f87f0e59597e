-- Each run: what is owed after the last device command of a task.
use Rattle.std.specs.Prelude.{ℕ, ◌<◌, ◌≤◌, ◌^◌, ◌≡◌, ◌≢◌, ◌⊎◌, ◌==◌, ◌||◌, not, Bool, true, false, if◌then◌else◌, List, [], ◌∷◌, Option, None, Some, filter}
use Rattle.std.specs.List.{AllByRecursion, list_any}
use Rattle.std.proofs.Common.{refl, ap, sym, subst, ◌∙◌, inl, inr}
use Rattle.cl_base.specs.declared.header.Header.{Header}
use Rattle.cl_base.specs.declared.seizing.SeizeEnd.TheVariants as seized
use Rattle.cmm_attempt.proofs.Basics.{false_true}
use Rattle.device_queue.specs.Queue.{after_answer}
use Rattle.device_queue.specs.Tasks.{answered, is_joining, is_queued}
use Rattle.device_queue.specs.declared.task.Task.{Task}
use Rattle.history.specs.Letters.{reached_since}
use Rattle.history.specs.Links.{links_after}
use Rattle.history.specs.Member as member
use Rattle.history.specs.Messages.{ReportsDisk, ReportsTask, ended_task, is_install_of, is_seize_of, onto, owner_of, sends_or_falls}
use Rattle.history.specs.Moment.{Moment, Part, Said, Told, event_of}
use Rattle.history.specs.Names as name
use Rattle.history.specs.Names.{Name}
use Rattle.history.specs.Queue as told
use Rattle.history.specs.Seizing.{is_boot}
use Rattle.history.specs.Setting.{coordinator}
use Rattle.history_setting.specs.Settings.{setting_of}
use Rattle.interconnect.specs.Links.{Links}
use Rattle.node_model.specs.Members.{ready_of}
use Rattle.node_model.specs.Seats.{installed_of, session_of}
use Rattle.node_model.specs.Steps.{at_second}
use Rattle.node_model.specs.declared.input.Input.TheVariants as input
use Rattle.node_model.specs.declared.node.Node.{Node}
use Rattle.node_model.specs.declared.node.Node.TheVariants.{Down, Up}
use Rattle.node_model.specs.declared.node.UpNode.{UpNode}
use Rattle.pgr_device.specs.declared.command.PrCommand.{PrCommand}
use Rattle.refinement.specs.Guards.{OfUp}
use Rattle.run_devices.specs.queues.Laws.{Same}
use Rattle.run_history.specs.Happenings.{Happening, given_by, happened}
use Rattle.run_history.specs.Happenings.Happening.{Notes, Speaks}
use Rattle.run_history.specs.Scenes.{Scene, adding}
use Rattle.run_history.specs.Shapes.{IsThis, Want, brings, commanding, if_up, still}
use Rattle.run_history.specs.Shapes as want
use Rattle.run_lines.specs.Laws.{NumberIsLeft}
use Rattle.run_outcomes.specs.tasks.Laws.{QueuesAreTold}
use Rattle.run_packets.proofs.prepares.Numbers.{left_before, lines_next}
use Rattle.run_packets.specs.prepares.Events.{IsLeft, IsLeftAfter}
use Rattle.run_packets.specs.repeats.Events.{EventLaw}
use Rattle.run_packets.specs.admitted.Known.{WorkFew}
use Rattle.schedule_text.specs.declared.event.Event.{Event}
use Rattle.schedule_text.specs.declared.event.Event.TheVariants as event
use Rattle.schedule_text.specs.declared.line.Line.TheVariants as line
use Rattle.status_report.specs.declared.entry.Entry.TheVariants as entry
use Rattle.status_report.specs.declared.schedule_entry.ScheduleEntry.{ScheduleEntry}
use Rattle.status_report.specs.declared.schedule_entry.ScheduleEntry.TheVariants.{Skipped}
use Rattle.status_report.specs.declared.schedule_entry.SkipCause.TheVariants as skip
use Rattle.wire.specs.declared.message.Body.TheVariants as body
use Rattle.world_model.specs.Devices.{due_at}
use Rattle.world_model.specs.First.{first_cluster}
use Rattle.run_outcomes.specs.reports.Events.{Ends, Leaves, LeftBy, Opening, Two}
use Rattle.run_outcomes.specs.reports.Facts.{Facts, InstallFacts, InstallsAt}
use Rattle.run_outcomes.specs.reports.Laws.{InstallsHaveCome, ReadiesAreShort, ReportsOfEachRun, RequestsAreOfAttempts}
use Rattle.run_outcomes.proofs.reports.Arriving.{no_report, none_short}
use Rattle.run_outcomes.proofs.reports.Asked.{Joins, taking_ends}
use Rattle.run_outcomes.proofs.reports.Asking.{IsAsked, install_asked, seize_asked}
use Rattle.run_outcomes.proofs.reports.Commanding.{joined_ends, seized_ends}
use Rattle.run_outcomes.proofs.reports.Disks.{Within, onto_both, within_of}
use Rattle.run_outcomes.proofs.reports.Ending.{End}
use Rattle.run_outcomes.proofs.reports.Events.{each_event}
use Rattle.run_outcomes.proofs.reports.Points.{installs_along}
use Rattle.run_outcomes.proofs.reports.Replies.{ended_sent, queue_then, seized_short}
use Rattle.run_outcomes.proofs.reports.Tasks.{FirstAt, IsJoined, IsSeized, answered_at, answered_few, at_same, first_told, is_at, itself, joining_first, joining_goes, joins_work, plain_first, seized_few, seizing_goes}
use Rattle.run_outcomes.proofs.reports.Walking.{Answering, two_sends}

-- ---- the task is over

module _ (h : Header) (cells : ℕ) (t : Scene) (n d e : ℕ) (task : Task) (ms : List Moment) (g : Facts h cells t) (left : IsLeft t.links.next) (total : ms ≡ t.moments) (ended : told.is_queued (setting_of h) n d ms ≡ false)
    (some : 0 < e) (other : (coordinator e == n) ≡ false) (device : task.device ≡ d) where
  same_then : (z : UpNode) → t.nodes.node n ≡ Up z → session_of z ≡ e → Same (filter is_queued z.tasks) (told.queued_of (setting_of h) n t.moments)
  same_then z at in_e = queue_then h cells t n e z g left at some in_e other

  over : (z : UpNode) → t.nodes.node n ≡ Up z → session_of z ≡ e → is_at d z.tasks ≡ true → ⊥
  over z at in_e is = false_true (sym ended ∙ (ap (told.is_queued (setting_of h) n d) total ∙ (at_same d z.tasks (told.queued_of (setting_of h) n t.moments) (same_then z at in_e) ∙ is)))

  goes_on : (called : Name) (rest : List Moment) (a : Answering h t n e task called rest) → is_queued (answered a.answer task) ≡ true → ⊥
  goes_on called rest a queued =
      over a.after a.there (a.took.session ∙ a.in_e)
      (subst (λ ts. is_at d ts ≡ true) (sym a.took.tasks)
      (subst (λ j. is_at j (after_answer a.before.tasks a.answer) ≡ true) device (answered_at a.before.tasks task a.answer a.due.first queued)))

  -- its seizing
  pub seizing_reports : is_joining task.work ≡ false → (rest : List Moment) → Answering h t n e task (name.Seized d) rest → sends_or_falls n (coordinator e) (name.Seized d) rest ≡ true
  seizing_reports kind rest a = by_goes (seizing_goes task a.answer kind)
    where
      by_sent : (v : Node) → t.nodes.node n ≡ v → v ≡ Up a.after → (sends_or_falls n (coordinator e) (name.Seized d) rest ≡ true) ⊎ OfUp (λ z. ⊥) v → sends_or_falls n (coordinator e) (name.Seized d) rest ≡ true
      by_sent v at here (inl is) = is
      by_sent v at here (inr so) = absurd (subst (OfUp (λ z. ⊥)) here so)

      by_goes : (is_queued (answered a.answer task) ≡ true) ⊎ IsSeized task a.answer → sends_or_falls n (coordinator e) (name.Seized d) rest ≡ true
      by_goes (inl queued) = absurd (goes_on (name.Seized d) rest a queued)
      by_goes (inr r) =
          by_sent (t.nodes.node n) refl a.there
          (ended_sent (first_cluster h) n (coordinator e) (λ z. body.Seized e task.device r.result) (λ z. ⊥) (name.Seized d) (given_by (first_cluster h) n a.now a.ends (input.Answered a.answer) a.scene.nodes) rest (t.nodes.node n) a.are
          (body.Seized e task.device seized.Fault) (seized_short n e task.device seized.Fault tt) (ap (λ j. name.Seized j) device)
          (λ z up. seized_short n e task.device r.result
          (seized_few (answered a.answer task) r.result r.is (answered_few a.before.tasks task a.answer a.due.first (subst (λ ts. AllByRecursion (λ (u : Task). WorkFew u.work) ts) a.took.tasks (g.at.few n a.after a.there)))))
          (λ z. ap (λ j. name.Seized j) device)
          (subst (End (first_cluster h) n (coordinator e) (λ z. body.Seized e task.device r.result) (λ z. ⊥) (given_by (first_cluster h) n a.now a.ends (input.Answered a.answer) a.scene.nodes)) a.is
          (taking_ends (first_cluster h) n (coordinator e) (λ z. body.Seized e task.device r.result) (λ z. ⊥) a.scene a.now a.ends (input.Answered a.answer) a.before a.at
          (seized_ends (first_cluster h) n (coordinator e) (at_second a.now a.before) a.answer task r.result e a.due a.led a.in_e r.progress))))

  -- its joining, the last one
  pub joining_reports : told.has_work (setting_of h) n ms ≡ false → is_joining task.work ≡ true → (rest : List Moment) → Answering h t n e task name.Ready rest → sends_or_falls n (coordinator e) name.Ready rest ≡ true
  joining_reports idle kind rest a = by_goes (joining_goes task a.answer kind)
    where
      by_sent : (v : Node) → t.nodes.node n ≡ v → (sends_or_falls n (coordinator e) name.Ready rest ≡ true) ⊎ OfUp (Joins e) v → sends_or_falls n (coordinator e) name.Ready rest ≡ true
      by_sent v at (inl is) = is
      by_sent Down at (inr so) = absurd so
      by_sent (Up z) at (inr so) =
          absurd (false_true (sym idle ∙ (ap (told.has_work (setting_of h) n) total ∙ joins_work z.tasks (told.queued_of (setting_of h) n t.moments) (same_then z at so.1) so.0)))

      by_goes : (is_queued (answered a.answer task) ≡ true) ⊎ IsJoined task a.answer → sends_or_falls n (coordinator e) name.Ready rest ≡ true
      by_goes (inl queued) = absurd (goes_on name.Ready rest a queued)
      by_goes (inr r) =
          by_sent (t.nodes.node n) refl
          (ended_sent (first_cluster h) n (coordinator e) (ready_of (first_cluster h)) (Joins e) name.Ready (given_by (first_cluster h) n a.now a.ends (input.Answered a.answer) a.scene.nodes) rest (t.nodes.node n) a.are
          (body.Ready 0 0 no_report) (none_short n) refl (λ z up. g.at.ready n z up) (λ z. refl)
          (subst (End (first_cluster h) n (coordinator e) (ready_of (first_cluster h)) (Joins e) (given_by (first_cluster h) n a.now a.ends (input.Answered a.answer) a.scene.nodes)) a.is
          (taking_ends (first_cluster h) n (coordinator e) (ready_of (first_cluster h)) (Joins e) a.scene a.now a.ends (input.Answered a.answer) a.before a.at
          (joined_ends (first_cluster h) n (coordinator e) (at_second a.now a.before) a.answer task r.result e a.due a.led a.in_e r.progress))))

-- ---- the event

-- the scene then has these entries
two_total : (h : Header) (cells : ℕ) (u t : Scene) (w v : Want) (later : List Moment) → Two cells (first_cluster h) u w v later t → onto u.moments later ≡ t.moments
two_total h cells u t w v later two = ap (onto u.moments) two.is ∙ (onto_both u.moments two.some two.rest ∙ (ap (λ ms. onto ms two.rest) two.moments ∙ ends_total (still (happened (first_cluster h) u two.happening) (v ∷ [])) two.behind))
  where
    ends_total : (ws : List Want) → Ends cells (first_cluster h) (happened (first_cluster h) u two.happening) ws two.rest t → onto (happened (first_cluster h) u two.happening).moments two.rest ≡ t.moments
    ends_total [] e = ap (onto (happened (first_cluster h) u two.happening).moments) e.0 ∙ ap (λ (z : Scene). z.moments) (sym e.1)
    ends_total (q ∷ qs) e = e.moments

head_at : (a b : Bool) → a ≡ true → (a || b) ≡ true
head_at true b is = refl
head_at false b is = absurd (false_true is)

owed : (a b c : Bool) → (a ≡ true → b ≡ false → c ≡ true) → (not a || b || c) ≡ true
owed true true c so = refl
owed true false c so = so refl refl
owed false b c so = refl

module _ (h : Header) (cells : ℕ) (s u t : Scene) (x : Moment) (n : ℕ) (w : UpNode) (later : List Moment) (d : ℕ) (others : List ℕ) (f : Facts h cells s) (installs : InstallsAt h s) (g : Facts h cells t) (nodes : u.nodes ≡ s.nodes) (moments : u.moments ≡ x ∷ s.moments)
    (up : s.nodes.node n ≡ Up w) (left : IsLeftAfter cells (onto u.moments later)) (first : told.queue_of (setting_of h) n s.moments ≡ d ∷ others) (ended : told.is_queued (setting_of h) n d (onto u.moments later) ≡ false)
    (two : Two cells (first_cluster h) u (want.Take n input.CommandDue) (want.Command n) later t) where
  total : onto u.moments later ≡ t.moments
  total = two_total h cells u t (want.Take n input.CommandDue) (want.Command n) later two

  left_then : IsLeft t.links.next
  left_then = subst (λ (z : Links). IsLeft z.next) (sym g.linked) (subst (λ ms. IsLeft (links_after cells ms).next) total left)

  left_here : IsLeft s.links.next
  left_here =
      subst (λ (z : Links). IsLeft z.next) (sym f.linked)
      (left_before (links_after cells s.moments).next (links_after cells (onto u.moments later)).next (2 ^ 63)
      (subst (λ ms. (links_after cells s.moments).next ≤ (links_after cells (onto ms later)).next) (sym moments) (lines_next cells s.moments (x ∷ later))) left)

  same_here : (e : ℕ) → Within h s n w e → Same (filter is_queued w.tasks) (told.queued_of (setting_of h) n s.moments)
  same_here e k = queue_then h cells s n e w f left_here up k.some k.in_e k.led.1

  task_of : (e : ℕ) → Within h s n w e → FirstAt w.tasks d
  task_of e k = first_told w.tasks (told.queued_of (setting_of h) n s.moments) d others (same_here e k) first

  queued_here : (e : ℕ) → Within h s n w e → is_at d w.tasks ≡ true
  queued_here e k = sym (at_same d w.tasks (told.queued_of (setting_of h) n s.moments) (same_here e k)) ∙ (ap (λ qs. list_any (λ q. q == d) qs) first ∙ head_at (d == d) (list_any (λ q. q == d) others) (itself d))

  seize_claim : reached_since (is_boot n) (is_seize_of n d s.moments) s.moments ≡ true → reached_since (is_boot n) (is_install_of n s.moments) s.moments ≡ false
      → sends_or_falls n (owner_of (member.session_of n s.moments)) (name.Seized d) later ≡ true
  seize_claim came none =
      let a : IsAsked n s.moments = seize_asked n d s.moments f.known.spelled f.at.asks came in
      let e : ℕ = a.epoch in
      let k : Within h s n w e = within_of h cells s n w f up a in
      let q : FirstAt w.tasks d = task_of e k in
      let fresh : installed_of w ≢ session_of w = λ same. false_true (sym none ∙ (installs n w up k.seat (subst (λ j. 0 < j) (sym k.in_e) k.some) k.apart).1 same) in
      let kind : is_joining q.task.work ≡ false = plain_first w.tasks q.task (f.at.plain n w up fresh) q.first in
      subst (λ j. sends_or_falls n j (name.Seized d) later ≡ true) (sym k.owner)
      (two_sends h cells s u t x n w later d e (name.Seized d) (body.Seized e d seized.Fault) g nodes moments up k left q (queued_here e k) ended (seized_short n e d seized.Fault tt) refl total
      (λ rest answering. seizing_reports h cells t n d e q.task (onto u.moments later) g left_then total ended k.some k.led.1 q.device kind rest answering) two)

  install_claim : reached_since (is_boot n) (is_install_of n s.moments) s.moments ≡ true → told.has_work (setting_of h) n (onto u.moments later) ≡ false
      → sends_or_falls n (owner_of (member.session_of n s.moments)) name.Ready later ≡ true
  install_claim came idle =
      let a : IsAsked n s.moments = install_asked n s.moments f.known.spelled f.at.asks came in
      let e : ℕ = a.epoch in
      let k : Within h s n w e = within_of h cells s n w f up a in
      let q : FirstAt w.tasks d = task_of e k in
      let done : installed_of w ≡ session_of w = (installs n w up k.seat (subst (λ j. 0 < j) (sym k.in_e) k.some) k.apart).0 came in
      let kind : is_joining q.task.work ≡ true = joining_first w.tasks q.task (f.at.joins n w up done) q.first in
      subst (λ j. sends_or_falls n j name.Ready later ≡ true) (sym k.owner)
      (two_sends h cells s u t x n w later d e name.Ready (body.Ready 0 0 no_report) g nodes moments up k left q (queued_here e k) ended (none_short n) refl total
      (λ rest answering. joining_reports h cells t n d e q.task (onto u.moments later) g left_then total ended k.some k.led.1 q.device idle kind rest answering) two)

  pub task_reports : ReportsTask (setting_of h) s.moments n later (onto u.moments later) (Some d)
  task_reports = (
    owed (reached_since (is_boot n) (is_seize_of n d s.moments) s.moments) (reached_since (is_boot n) (is_install_of n s.moments) s.moments) _ seize_claim,
    owed (reached_since (is_boot n) (is_install_of n s.moments) s.moments) (told.has_work (setting_of h) n (onto u.moments later)) _ install_claim,
  )

-- ---- of each event

module _ (h : Header) (cells : ℕ) (same : (setting_of h).cells ≡ cells) where
  abbrev pub Reported : EventLaw
  Reported before x entries = NumberIsLeft (setting_of h) (onto (x ∷ before) entries) → ReportsDisk (setting_of h) before x (event_of x) entries

  -- a command that is not due ends no task
  none_ended : (before after : List Moment) (n : ℕ) (entries : List Moment) → told.queue_of (setting_of h) n after ≡ told.queue_of (setting_of h) n before
      → ReportsTask (setting_of h) before n entries after (ended_task (setting_of h) before after n (told.queue_of (setting_of h) n before))
  none_ended before after n entries is = by_queue (told.queue_of (setting_of h) n before) is
    where
      by_test : (d : ℕ) (b : Bool) → b ≡ true → ReportsTask (setting_of h) before n entries after (if b then None else Some d)
      by_test d true at = tt
      by_test d false at = absurd (false_true at)

      by_queue : (q : List ℕ) → told.queue_of (setting_of h) n after ≡ q → ReportsTask (setting_of h) before n entries after (ended_task (setting_of h) before after n q)
      by_queue [] at = tt
      by_queue (d ∷ others) at =
          by_test d (told.is_queued (setting_of h) n d after) (ap (λ qs. list_any (λ k. k == d) qs) at ∙ head_at (d == d) (list_any (λ k. k == d) others) (itself d))

  note_so : (s u t : Scene) (x : Moment) (n : ℕ) (e : ScheduleEntry) (later : List Moment) → u.moments ≡ x ∷ s.moments → ((z : ScheduleEntry) → told.queue_of (setting_of h) n (Told (entry.Schedule z) ∷ x ∷ s.moments) ≡ told.queue_of (setting_of h) n s.moments)
      → Leaves cells (first_cluster h) u (want.Note e ∷ []) later t
      → ReportsTask (setting_of h) s.moments n later (onto (x ∷ s.moments) later) (ended_task (setting_of h) s.moments (onto (x ∷ s.moments) later) n (told.queue_of (setting_of h) n s.moments))
  note_so s u t x n e later moments quiet one = by_this one.happening one.this one.left
    where
      by_this : (q : Happening) → IsThis (want.Note e) q → LeftBy cells (first_cluster h) u q later
          → ReportsTask (setting_of h) s.moments n later (onto (x ∷ s.moments) later) (ended_task (setting_of h) s.moments (onto (x ∷ s.moments) later) n (told.queue_of (setting_of h) n s.moments))
      by_this (Notes z) this left =
          subst (λ xs. ReportsTask (setting_of h) s.moments n xs (onto (x ∷ s.moments) xs) (ended_task (setting_of h) s.moments (onto (x ∷ s.moments) xs) n (told.queue_of (setting_of h) n s.moments))) (sym left)
          (none_ended s.moments (Told (entry.Schedule z) ∷ x ∷ s.moments) n (Told (entry.Schedule z) ∷ []) (quiet z))
      by_this _ this left = absurd this

  command_so : (s u t : Scene) (x : Moment) (n : ℕ) (w : UpNode) (later : List Moment) → Facts h cells s → InstallsAt h s → Facts h cells t → u.nodes ≡ s.nodes → u.moments ≡ x ∷ s.moments → s.nodes.node n ≡ Up w → IsLeftAfter cells (onto (x ∷ s.moments) later)
      → Two cells (first_cluster h) u (want.Take n input.CommandDue) (want.Command n) later t
      → ReportsTask (setting_of h) s.moments n later (onto (x ∷ s.moments) later) (ended_task (setting_of h) s.moments (onto (x ∷ s.moments) later) n (told.queue_of (setting_of h) n s.moments))
  command_so s u t x n w later f installs g nodes moments up left two =
      subst (λ ms. ReportsTask (setting_of h) s.moments n later (onto ms later) (ended_task (setting_of h) s.moments (onto ms later) n (told.queue_of (setting_of h) n s.moments))) moments
      (by_queue (told.queue_of (setting_of h) n s.moments) refl)
    where
      by_test : (d : ℕ) (others : List ℕ) (b : Bool) → told.queue_of (setting_of h) n s.moments ≡ d ∷ others → told.is_queued (setting_of h) n d (onto u.moments later) ≡ b
          → ReportsTask (setting_of h) s.moments n later (onto u.moments later) (if b then None else Some d)
      by_test d others true at is = tt
      by_test d others false at is =
          task_reports h cells s u t x n w later d others f installs g nodes moments up (subst (λ ms. IsLeftAfter cells (onto ms later)) (sym moments) left) at is two

      by_queue : (q : List ℕ) → told.queue_of (setting_of h) n s.moments ≡ q → ReportsTask (setting_of h) s.moments n later (onto u.moments later) (ended_task (setting_of h) s.moments (onto u.moments later) n q)
      by_queue [] at = tt
      by_queue (d ∷ others) at = by_test d others (told.is_queued (setting_of h) n d (onto u.moments later)) at refl

  disk_so : (s u t : Scene) (x : Moment) (n : ℕ) (later : List Moment) → Facts h cells s → InstallsAt h s → Facts h cells t → u.nodes ≡ s.nodes → u.moments ≡ x ∷ s.moments
      → ((z : ScheduleEntry) → told.queue_of (setting_of h) n (Told (entry.Schedule z) ∷ x ∷ s.moments) ≡ told.queue_of (setting_of h) n s.moments)
      → Leaves cells (first_cluster h) u (if_up (s.nodes.node n) (λ y. commanding n (due_at (Some (s.nodes.node n))))) later t → NumberIsLeft (setting_of h) (onto (x ∷ s.moments) later)
      → ReportsTask (setting_of h) s.moments n later (onto (x ∷ s.moments) later) (ended_task (setting_of h) s.moments (onto (x ∷ s.moments) later) n (told.queue_of (setting_of h) n s.moments))
  disk_so s u t x n later f installs g nodes moments quiet leaves left = by_node (s.nodes.node n) refl leaves
    where
      by_due : (w : UpNode) → s.nodes.node n ≡ Up w → (o : Option (ℕ × PrCommand)) → Leaves cells (first_cluster h) u (commanding n o) later t
          → ReportsTask (setting_of h) s.moments n later (onto (x ∷ s.moments) later) (ended_task (setting_of h) s.moments (onto (x ∷ s.moments) later) n (told.queue_of (setting_of h) n s.moments))
      by_due w up None k = note_so s u t x n (Skipped skip.NoWork) later moments quiet k
      by_due w up (Some due) k = command_so s u t x n w later f installs g nodes moments up (subst (λ j. IsLeft (links_after j (onto (x ∷ s.moments) later)).next) same left) k

      by_node : (v : Node) → s.nodes.node n ≡ v → Leaves cells (first_cluster h) u (if_up v (λ y. commanding n (due_at (Some (s.nodes.node n))))) later t
          → ReportsTask (setting_of h) s.moments n later (onto (x ∷ s.moments) later) (ended_task (setting_of h) s.moments (onto (x ∷ s.moments) later) n (told.queue_of (setting_of h) n s.moments))
      by_node Down at k = note_so s u t x n (Skipped skip.Down) later moments quiet k
      by_node (Up w) at k = by_due w at (due_at (Some (s.nodes.node n))) k

  line_reported : (s : Scene) (e : Event) (later : List Moment) (t : Scene) → InstallFacts h cells s → InstallFacts h cells t → Leaves cells (first_cluster h) (happened (first_cluster h) s (Speaks e)) (brings (first_cluster h) (happened (first_cluster h) s (Speaks e)) e) later t
      → Reported s.moments (Said (line.Event e)) later
  line_reported s (event.Disk n) later t f g leaves = λ left. disk_so s (happened (first_cluster h) s (Speaks (event.Disk n))) t (Said (line.Event (event.Disk n))) n later f.0 f.1 g.0 refl refl (λ z. refl) leaves left
  line_reported s e later t f g leaves = λ left. tt

  part_reported : (s : Scene) (e : Event) (later : List Moment) (t : Scene) → InstallFacts h cells s → InstallFacts h cells t → Leaves cells (first_cluster h) (adding (Part e) s) (brings (first_cluster h) (adding (Part e) s) e) later t → Reported s.moments (Part e) later
  part_reported s (event.Disk n) later t f g leaves = λ left. disk_so s (adding (Part (event.Disk n)) s) t (Part (event.Disk n)) n later f.0 f.1 g.0 refl refl (λ z. refl) leaves left
  part_reported s e later t f g leaves = λ left. tt

  reports_open : Opening Reported cells (first_cluster h) (InstallFacts h cells)
  reports_open = record { line_so = line_reported; part_so = part_reported }

pub reports_owed : QueuesAreTold → RequestsAreOfAttempts → ReadiesAreShort → InstallsHaveCome → ReportsOfEachRun
reports_owed queues asks ready came h cells hs nodes few small disks same may shaped native boots =
    each_event (Reported h cells same) h cells hs (record { few = few; small = small }) (InstallFacts h cells) (reports_open h cells same) (installs_along queues asks ready came h cells hs nodes few small disks may shaped native boots) may shaped native
