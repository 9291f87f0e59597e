-- What a node does in memory, or sends.
use Rattle.std.specs.Prelude.{Err, List, None, Ok, Option, Some, [], nat_le, true, ℕ, ◌<◌, ◌∷◌, ◌≡◌, ◌≢◌, ◌≤◌}
use Rattle.std.proofs.Common.{ap, arith, refl, subst, sym, ◌∙◌}
use Rattle.attempt_laws.proofs.Sends.{sends_are_own}
use Rattle.attempt_laws.proofs.Stays.{plan_stays}
use Rattle.attempt_laws.proofs.Walk.{if_with}
use Rattle.cl_base.specs.Sets.{has}
use Rattle.cl_base.specs.declared.header.Header.{Header}
use Rattle.cmm_attempt.specs.Attempts.{AttemptState}
use Rattle.cmm_attempt.specs.Calls.{turn}
use Rattle.cmm_attempt.specs.declared.phase.Phase.TheVariants.{Installing}
use Rattle.cmm_member.specs.Records.{NodeRecord}
use Rattle.device_queue.specs.Queue.{after_answer, after_seize}
use Rattle.history.specs.Moment.{Moment, Told}
use Rattle.membership_machine.specs.State.{Memberships}
use Rattle.node_model.specs.Attempts.{seizing_here}
use Rattle.node_model.specs.Devices.{answer_told}
use Rattle.node_model.specs.Seats.{record_of, session_of}
use Rattle.node_model.specs.declared.cluster.Cluster.{Cluster}
use Rattle.node_model.specs.declared.node.Node.TheVariants.{Up}
use Rattle.node_model.specs.declared.node.UpNode.{UpNode}
use Rattle.node_model.specs.declared.output.Output.{Output}
use Rattle.pgr_device.specs.declared.command.PrCommand.{PrCommand}
use Rattle.pgr_device.specs.declared.command.PrCommand.TheVariants as command
use Rattle.refinement.proofs.Attempts.{may_be_called}
use Rattle.refinement.specs.Doings.{Act, acted, said, site}
use Rattle.refinement.specs.Doings.Act.{Accepts, Dates, Ends, Gives, Goes_on, Hears, Makes, Minds, Notes, Queues, Spreads, Stores, Takes, Ticks, Waits, Works, Writes}
use Rattle.refinement.specs.Guards.{MayAct, Says}
use Rattle.refinement.specs.Runs.{Nodes}
use Rattle.refinement.specs.Ties.{Delivered}
use Rattle.refinement.specs.Worlds.{AllFit}
use Rattle.run_history.proofs.Changes.{At, at_attempt}
use Rattle.run_history.proofs.Held.{installing_before}
use Rattle.run_history.specs.Guards.{Hand, hand_by, request_as}
use Rattle.run_history.specs.Marks.{ActSo}
use Rattle.run_history.specs.Scenes.{Scene, passing}
use Rattle.seize.specs.Answers.{Answer}
use Rattle.seize.specs.Seizing.{SeizeState}
use Rattle.seize.specs.Seizing as seizing
use Rattle.seize.specs.declared.kind.SeizeKind.{SeizeKind}
use Rattle.seize.specs.declared.kind.SeizeKind.TheVariants.{Plain, Vote}
use Rattle.status_report.specs.declared.device_entry.DeviceEntry.TheVariants as device_entry
use Rattle.status_report.specs.declared.entry.Entry.{Entry}
use Rattle.status_report.specs.declared.entry.Entry.TheVariants as entry
use Rattle.run_seizings.proofs.Acts.{ActMay, IsDue}
use Rattle.run_seizings.proofs.Changes.{session_low}
use Rattle.run_seizings.proofs.Stages.{told_of}
use Rattle.run_seizings.proofs.Stays.{is_installed_stays}
use Rattle.run_seizings.proofs.Stills.{IsAside}
use Rattle.run_seizings.proofs.Tasks.{acts_so, seize_tasks, tasks_taken}
use Rattle.run_seizings.specs.Seized.{Base, IsFirst, IsOf, TasksSo, has_installed}
use Rattle.run_devices.proofs.readings.Calls.{attempt_of, call_keeps, call_reads, spread_so, turned_so, write_so}
use Rattle.run_devices.proofs.readings.Goes.{CanPass, Goes, HandSo, goes_at, line_goes, outputs_go}
use Rattle.run_devices.proofs.readings.Mild.{ended_mild, minor_can, spread_can, tick_can, write_can}
use Rattle.run_devices.proofs.readings.Stays.{all_read_stay}
use Rattle.run_devices.proofs.readings.Tasks.{seize_read, tasks_read}
use Rattle.run_devices.specs.readings.Readings.{AttemptIn, AttemptSo, StandsSo, TasksRead}
use Rattle.run_devices.specs.readings.Sites.{InHand, SiteSo, UpSo}
use Rattle.run_devices.proofs.readings.Unseen.{line_unseen}

-- ---- a node that goes on in memory

-- with the same session, tasks and attempt
pub up_same : (h : Header) (ms : List Moment) (n : ℕ) (x y : UpNode) → session_of y ≡ session_of x → y.tasks ≡ x.tasks → y.attempt ≡ x.attempt → UpSo h ms n x
    → UpSo h ms n y
up_same h ms n x y session tasks tries k = record {
  session = λ some. k.session (subst (λ q. 0 < q) session some) ∙ ap Some (sym session);
  outside = λ is. k.outside (sym session ∙ is);
  tasks = λ none. subst (λ ts. TasksSo h ms n (session_of y) ts) (sym tasks)
      (subst (λ q. TasksSo h ms n q x.tasks) (sym session) (k.tasks (ap (λ q. has_installed n q ms) (sym session) ∙ none)));
  read = λ some none. subst (λ ts. TasksRead h ms n (session_of y) ts) (sym tasks)
      (subst (λ q. TasksRead h ms n q x.tasks) (sym session) (k.read (subst (λ q. 0 < q) session some) (ap (λ q. has_installed n q ms) (sym session) ∙ none)));
  attempt = subst (λ o. AttemptIn h ms n (session_of y) o) (sym tries) (subst (λ q. AttemptIn h ms n q x.attempt) (sym session) k.attempt);
}

pub site_with : (h : Header) (ms : List Moment) (n : ℕ) (x y : UpNode) (disk new : NodeRecord) → disk.promised ≤ new.promised → UpSo h ms n y
    → SiteSo h ms n (site (Up x) disk) → SiteSo h ms n (site (Up y) new)
site_with h ms n x y disk new rises up k = record {
  low = λ e is. at_most e disk.promised new.promised (k.low e is) rises;
  first = k.first;
  unseen = λ e d low. k.unseen e d (below disk.promised new.promised e rises low);
  up = up;
}
  where
    below : (a b e : ℕ) → a ≤ b → b < e → a < e
    below a b e l m = omega (arith, l, m)

    at_most : (a b d : ℕ) → a ≤ b → b ≤ d → a ≤ d
    at_most a b d l m = omega (arith, l, m)

-- ---- each act

told_same : (a : Answer) → answer_told a ≡ told_of a
told_same (Ok a) = refl
told_same (Err e) = refl

first_kind : (kind : SeizeKind) → IsFirst (seizing.first_step kind)
first_kind Vote = tt
first_kind Plain = tt

-- another task
queued_up : (h : Header) (ms : List Moment) (n d : ℕ) (x : UpNode) (s : SeizeState) → Base h ms n (session_of x) s → IsFirst s.step → UpSo h ms n x
    → UpSo h ms n (record x { tasks = after_seize x.tasks d s })
queued_up h ms n d x s base first k = record {
  session = k.session;
  outside = k.outside;
  tasks = λ none. seize_tasks h ms n (session_of x) d x.tasks s base first
      (k.tasks none);
  read = λ some none. seize_read h ms n (session_of x) d x.tasks s first (k.read some none);
  attempt = k.attempt;
}

queues_up : (h : Header) (c : Cluster) (ms : List Moment) (n d : ℕ) (x : UpNode) (kind : SeizeKind) (a : AttemptState) → c.id ≡ h.cluster → x.attempt ≡ Some a
    → UpSo h ms n x → UpSo h ms n (seizing_here c n x d kind (Some a))
queues_up h c ms n d x kind a id is k =
    let so : AttemptSo h ms n (session_of x) a = attempt_of h ms n (session_of x) x.attempt a is k.attempt in
    if_with (λ y. UpSo h ms n y) (has a.plan.members n) (has a.plan.members n)
    (record x { tasks = after_seize x.tasks d (seizing.begun kind a.plan.epoch a.plan.members n c.id (has (record_of x).valid d)) }) x refl
    (λ member. queued_up h ms n d x (seizing.begun kind a.plan.epoch a.plan.members n c.id (has (record_of x).valid d))
    (record {
      me = refl;
      cluster = id;
      epoch = so.epoch;
      some = subst (λ q. 0 < q) so.epoch so.some;
      of = subst
          (λ q. IsOf ms q a.plan.members) so.epoch so.of;
      member = member;
    }) (first_kind kind) k)
    (λ none. k)

asked_stands : (h : Header) (ms : List Moment) (from e members d : ℕ) (kind : SeizeKind) → StandsSo h ms from (request_as kind e members d) → IsOf ms e members
asked_stands h ms from e members d Vote k = k
asked_stands h ms from e members d Plain k = k

asked_of : (h : Header) (ms : List Moment) (n e members d : ℕ) (kind : SeizeKind) (told : Delivered) → Says (λ b. b ≡ request_as kind e members d) told
    → InHand h ms n told → IsOf ms e members
asked_of h ms n e members d kind None says hand = absurd says
asked_of h ms n e members d kind (Some x) says hand = asked_stands h ms x.0 e members d kind (subst (λ b. StandsSo h ms x.0 b) says hand.stands)

accepts_up : (h : Header) (c : Cluster) (ms : List Moment) (n e members d : ℕ) (x : UpNode) (kind : SeizeKind) (told : Delivered) → c.id ≡ h.cluster → e ≡ session_of x
    → Says (λ b. b ≡ request_as kind e members d) told → has members n ≡ true → 0 < e → InHand h ms n told → UpSo h ms n x
    → UpSo h ms n (acted c n x (Accepts kind e members d))
accepts_up h c ms n e members d x kind told id at says member some hand k =
    queued_up h ms n d x (seizing.begun kind e members n c.id (has (record_of x).valid d))
    (record {
      me = refl;
      cluster = id;
      epoch = at;
      some = subst (λ q. 0 < q) at some;
      of = subst (λ q. IsOf ms q members) at
          (asked_of h ms n e members d kind told says hand);
      member = member;
    }) (first_kind kind) k

-- the line of a command leaves all but how far the tasks are
pub taken_up : (h : Header) (ms : List Moment) (n at : ℕ) (x : UpNode) (k : PrCommand) (a : Answer) → IsDue h x at k a → UpSo h ms n x
    → UpSo h (Told (entry.Device (device_entry.Command n at k (answer_told a))) ∷ ms) n (record x { tasks = after_answer x.tasks a })
taken_up h ms n at x k a due up =
    let z : Moment = Told (entry.Device (device_entry.Command n at k (answer_told a))) in
    record {
      session = λ some. up.session some;
      outside = up.outside;
      tasks = λ none.
          subst (λ t. TasksSo h (Told (entry.Device (device_entry.Command n at k t)) ∷ ms) n (session_of x) (after_answer x.tasks a)) (sym (told_same a))
          (tasks_taken h ms n (session_of x) at k a x.tasks due.0 due.1 (λ some. acts_so n (session_of x) ms (up.session some) none) due.2 (up.tasks none));
      read = λ some none.
          subst (λ t. TasksRead h (Told (entry.Device (device_entry.Command n at k t)) ∷ ms) n (session_of x) (after_answer x.tasks a)) (sym (told_same a))
          (tasks_read h ms n (session_of x) at k a x.tasks due.0 due.1 (acts_so n (session_of x) ms (up.session some) none) (up.tasks none) (up.read some none));
      attempt = tries x.attempt up.attempt;
    }
  where
    tries : (o : Option AttemptState) → AttemptIn h ms n (session_of x) o → AttemptIn h
        (Told (entry.Device (device_entry.Command n at k (answer_told a))) ∷ ms) n (session_of x) o
    tries None so = tt
    tries (Some b) so = record {
      of = so.of;
      some = so.some;
      last = so.last;
      own = so.own;
      epoch = so.epoch;
      before = so.before;
      installs = so.installs;
      read = all_read_stay h ms (Told (entry.Device (device_entry.Command n at k (answer_told a)))) b.plan.epoch b.devices so.read;
      apart = so.apart;
      attached = so.attached;
    }

-- a command of n leaves the others
pub own_command : (k n : ℕ) (c : PrCommand) → k ≢ n → IsAside k n c
own_command k n (command.Reserve kind key) ne = λ same. ne (sym same)
own_command k n command.Keys ne = λ same. ne (sym same)
own_command k n command.Word ne = λ same. ne (sym same)
own_command k n (command.Register key new) ne = tt
own_command k n (command.Ignore new) ne = tt
own_command k n (command.Release kind key) ne = tt
own_command k n (command.Clear key) ne = tt
own_command k n (command.Preempt kind key victim) ne = tt
own_command k n command.Holder ne = tt
own_command k n command.Read ne = tt
own_command k n (command.Write value) ne = tt
own_command k n (command.Swap expect new) ne = tt

-- all but a change
abbrev pub NoChange : Act → Type 0
NoChange (Makes change) = ⊥
NoChange _ = Unit {0}

no_less : (a : ℕ) → a ≤ a
no_less a = omega arith

pub act_goes : (h : Header) (c : Cluster) (M : Memberships) (n : ℕ) (told : Delivered) (v w : Nodes) (disk : NodeRecord) (x : UpNode) (g : Hand) (a : Act)
    (s : Scene) → c.id ≡ h.cluster → nat_le n 32 ≡ true → At c M n told disk x
    → MayAct c n told x a → ActSo a → ActMay h n told g x a → NoChange a → AllFit n (said c n x a) → Goes h n told v w (site (Up x) disk) g s
    → Goes h n told v w (site (Up (acted c n x a)) disk) (hand_by g a) (passing n (said c n x a) s)
act_goes h c M n told v w disk x g a s id low at may so guard none fits k = by_act a may so guard none fits
  where
    given_so : (y : UpNode) (f : Hand) (os : List Output) → AllFit n os → CanPass h s.moments n os
        → ((ms : List Moment) → InHand h ms n told → UpSo h ms n x → UpSo h ms n y) → ((ms : List Moment) → UpSo h ms n x → HandSo ms g → HandSo ms f)
        → Goes h n told v w (site (Up y) disk) f (passing n os s)
    given_so y f os fit can up hand =
        let t : Goes h n told v w (site (Up x) disk) g (passing n os s) = outputs_go h n told v w (site (Up x) disk) g os s fit can k in
        goes_at h n told v w (site (Up x) disk) (site (Up y) disk) g f (passing n os s)
        (site_with h (passing n os s).moments n x y disk disk (no_less disk.promised) (up (passing n os s).moments t.hand t.here.up) t.here)
        (hand (passing n os s).moments t.here.up t.turn) t

    same : (y : UpNode) (os : List Output) → AllFit n os → CanPass h s.moments n os → session_of y ≡ session_of x → y.tasks ≡ x.tasks → y.attempt ≡ x.attempt
        → Goes h n told v w (site (Up y) disk) g (passing n os s)
    same y os fit can session tasks tries = given_so y g os fit can (λ ms hand up. up_same h ms n x y session tasks tries up) (λ ms up turn. turn)

    by_act : (b : Act) → MayAct c n told x b → ActSo b → ActMay h n told g x b → NoChange b → AllFit n (said c n x b)
        → Goes h n told v w (site (Up (acted c n x b)) disk) (hand_by g b) (passing n (said c n x b) s)
    by_act (Hears from b) m o l e f = same (acted c n x (Hears from b)) [] f tt refl refl refl
    by_act Ticks m o l e f = same (acted c n x Ticks) (said c n x Ticks) f (tt, tick_can h c s.moments n x) refl refl refl
    by_act Waits m o l e f = same (acted c n x Waits) [] f tt refl refl refl
    by_act (Goes_on b q) m o l e f =
        given_so (acted c n x (Goes_on b q)) (Some (turn b q)) [] f tt
        (λ ms hand up. record {
          session = up.session;
          outside = up.outside;
          tasks = up.tasks;
          read = up.read;
          attempt =
              let old : AttemptSo h ms n (session_of x) b = attempt_of h ms n (session_of x) x.attempt b m.0 up.attempt in
              turned_so h ms n (session_of x) b (turn b q).after
              (λ is. old.installs (at_attempt c M n told disk x b (b.phase ≡ Installing) at m.0
              (λ z shows co. installing_before b q co.reached (may_be_called c told b q m.1) m.2 is)))
              (call_keeps c told b q m.1)
              (call_reads h c ms n told x b q (at_attempt c M n told disk x b (b.plan.coordinator ≡ n) at m.0 (λ z shows co. co.coordinator)) m.1 l hand up old) old;
        })
        (λ ms up turned.
        let old : AttemptSo h ms n (session_of x) b = attempt_of h ms n (session_of x) x.attempt b m.0 up.attempt in
        let plan : (turn b q).after.plan ≡ b.plan = plan_stays b q (may_be_called c told b q m.1) in
        (subst (λ z. IsOf ms z.epoch z.members) (sym plan) old.of, sends_are_own b q (may_be_called c told b q m.1)))
    by_act (Ends b end) m o l e f =
        given_so (acted c n x (Ends b end)) g (said c n x (Ends b end)) f (ended_mild b.plan.epoch end, tt)
        (λ ms hand up. record { session = up.session; outside = up.outside; tasks = up.tasks; read = up.read; attempt = tt }) (λ ms up turned. turned)
    by_act (Queues b d kind) m o l e f = given_so (acted c n x (Queues b d kind)) g [] f tt (λ ms hand up. queues_up h c ms n d x kind b id m up) (λ ms up turned. turned)
    by_act (Accepts kind p members d) m o l e f =
        given_so (acted c n x (Accepts kind p members d)) g [] f tt (λ ms hand up. accepts_up h c ms n p members d x kind told id m l.0 l.1 l.2 hand up)
        (λ ms up turned. turned)
    by_act (Takes on command b) m o l e f =
        let z : Entry = entry.Device (device_entry.Command n on command (answer_told b)) in
        line_goes h n told v w (site (Up x) disk) (site (Up (acted c n x (Takes on command b))) disk) g s z tt (λ j ne. own_command j n command ne) tt
        (record {
          low = k.here.low;
          first = λ q is. is_installed_stays s.moments (Told z) q (k.here.first q is);
          unseen = λ e d above. line_unseen h s.moments n on e d disk.promised x command (answer_told b) k.here.up (session_low c M n told disk x at) above (k.here.unseen e d above);
          up = up_same h (Told z ∷ s.moments) n
              (record x { tasks = after_answer x.tasks b }) (acted c n x (Takes on command b)) refl refl refl
              (taken_up h s.moments n on x command b l k.here.up);
        }) k
    by_act (Stores d value b) m o l e f = same x (said c n x (Stores d value b)) f (tt, write_can h s.moments n x d value b) refl refl refl
    by_act (Writes to b) m o l e f = same x (said c n x (Writes to b)) f (write_so h s.moments n told g x to b low k.here.first k.here.up k.turn m l, tt) refl refl refl
    by_act (Gives os) m o l e f = same x os f (minor_can h s.moments n os o m) refl refl refl
    by_act (Spreads receivers b) m o l e f = same x (said c n x (Spreads receivers b)) f
        (spread_can h s.moments n receivers b (spread_so h s.moments n x b k.here.up m l)) refl refl refl
    by_act (Minds q p) m o l e f = same (acted c n x (Minds q p)) [] f tt refl refl refl
    by_act (Notes from place p) m o l e f = same (acted c n x (Notes from place p)) [] f tt refl refl refl
    by_act (Dates second) m o l e f = same (acted c n x (Dates second)) [] f tt refl refl refl
    by_act (Works worker) m o l e f = same (acted c n x (Works worker)) [] f tt refl refl refl
    by_act (Makes change) m o l e f = absurd e
