-- What a node does in memory, or sends.
use Rattle.std.specs.Prelude.{ℕ, ◌≡◌, ◌≢◌, ◌&&◌, ◌==◌, not, true, false, List, [], ◌∷◌, ◌<◌, Option, None, Some, Ok, Err, option_map}
use Rattle.std.proofs.Common.{refl, sym, ap, subst, ◌∙◌}
use Rattle.cl_base.specs.Sets.{has}
use Rattle.cmm_attempt.proofs.Basics.{if_either, none_some, same_some}
use Rattle.cmm_attempt.specs.Attempts.{AttemptState}
use Rattle.cmm_member.specs.Records.{NodeRecord}
use Rattle.device_queue.specs.Queue.{after_answer, after_seize, first_of, next_of}
use Rattle.device_queue.specs.Tasks.{command_in}
use Rattle.device_queue.specs.declared.task.Task.{Task}
use Rattle.device_queue.specs.declared.task.Work.{Work}
use Rattle.device_queue.specs.declared.task.Work.TheVariants.{Seizing, Joining}
use Rattle.std.specs.Option.{option_and_then}
use Rattle.pgr_device.specs.declared.command.PrCommand.{PrCommand}
use Rattle.pgr_device.specs.declared.command.PrCommand.TheVariants as command
use Rattle.seize.specs.Answers.{Answer}
use Rattle.seize.specs.Seizing as seizing
use Rattle.seize.specs.Joining as joining
use Rattle.seize.specs.declared.kind.SeizeKind.{SeizeKind}
use Rattle.seize.specs.declared.kind.SeizeKind.TheVariants.{Plain, Vote}
use Rattle.seize.specs.declared.step.JoinStep.{JoinStep}
use Rattle.seize.specs.declared.step.JoinStep.TheVariants as join
use Rattle.seize.specs.declared.step.SeizeStep.{SeizeStep}
use Rattle.seize.specs.declared.step.SeizeStep.TheVariants as step
use Rattle.status_report.specs.declared.device_entry.DeviceEntry.TheVariants as device_entry
use Rattle.status_report.specs.declared.entry.Entry.{Entry}
use Rattle.status_report.specs.declared.entry.Entry.TheVariants as entry
use Rattle.wire.specs.declared.message.Body.{Body}
use Rattle.wire.specs.declared.message.Body.TheVariants as body
use Rattle.history.specs.Moment.{Moment, Told}
use Rattle.history.specs.Queue as told
use Rattle.history.specs.Queue.{is_write, moved}
use Rattle.run_devices.specs.queues.Views.{View}
use Rattle.node_model.specs.Devices.{answer_told}
use Rattle.node_model.specs.Seats.{installed_of, record_of, session_of}
use Rattle.node_model.specs.declared.cluster.Cluster.{Cluster}
use Rattle.node_model.specs.declared.node.Node.TheVariants.{Up}
use Rattle.node_model.specs.declared.node.UpNode.{UpNode}
use Rattle.node_model.specs.declared.output.Output.{Output}
use Rattle.refinement.specs.Doings.{Act, acted, answered_so, said, site}
use Rattle.refinement.specs.Doings.Act.{Accepts, Dates, Ends, Gives, Goes_on, Hears, Makes, Minds, Notes, Queues, Spreads, Stores, Takes, Ticks, Waits, Works, Writes}
use Rattle.refinement.specs.Guards.{MayAct, Says}
use Rattle.refinement.specs.Runs.{Nodes}
use Rattle.refinement.specs.Ties.{Delivered}
use Rattle.run_history.specs.Guards.{Hand, request_as}
use Rattle.run_history.specs.Marks.{ActSo}
use Rattle.run_history.specs.Scenes.{Scene, passing}
use Rattle.run_seizings.proofs.Acts.{ActMay}
use Rattle.run_seizings.proofs.Goes as seizings
use Rattle.run_seizings.proofs.Progress.{if_so, same_is}
use Rattle.run_seizings.specs.Seized.{has_installed}
use Rattle.run_devices.specs.queues.Kept.{NoJoins, Pending, Tells, UpSo, joins_in}
use Rattle.run_devices.specs.queues.Laws.{Same}
use Rattle.run_devices.specs.queues.Told.{leads}
use Rattle.run_devices.specs.queues.Views.{told_after, told_tasks}
use Rattle.run_devices.proofs.queues.Goes.{AreMild, Goes, goes_at, line_goes, outputs_go, posting_goes}
use Rattle.run_devices.proofs.queues.Mild.{ended_mild, minors_mild, spread_mild, tick_mild, write_mild}
use Rattle.run_devices.proofs.queues.Options.{Kept, Mapped, kept, mapped}
use Rattle.run_devices.proofs.queues.Stills.{StillCommand}
use Rattle.run_devices.proofs.queues.Tasks.{joins_taken, none_taken, same_taken}
use Rattle.run_devices.proofs.queues.Ups.{leads_so, open_here, before_in, queued_up, up_same}
use Rattle.run_devices.specs.validity.Kept.{DoingAgrees, JoinsFirst}
use Rattle.refinement.specs.Doings.Doing.{Does}

-- ---- what is delivered

-- a request to seize
abbrev pub AsksBody : Body → Type 0
AsksBody (body.SeizeQuorum e members d) = Unit {0}
AsksBody (body.SeizeData e members d) = Unit {0}
AsksBody _ = ⊥

abbrev pub AsksIn : Delivered → Type 0
AsksIn None = ⊥
AsksIn (Some d) = AsksBody d.1.body

request_asks : (kind : SeizeKind) (e members d : ℕ) → AsksBody (request_as kind e members d)
request_asks Vote e members d = tt
request_asks Plain e members d = tt

pub says_asks : (kind : SeizeKind) (e members d : ℕ) (told : Delivered) → Says (λ b. b ≡ request_as kind e members d) told → AsksIn told
says_asks kind e members d None k = k
says_asks kind e members d (Some x) k = subst AsksBody (sym k) (request_asks kind e members d)

-- ---- the line of a command

seize_writes : (s : seizing.SeizeState) (p : SeizeStep) (k : PrCommand) → seizing.command_at s p ≡ Some k → is_write k ≡ false
seize_writes s step.Check k is = ap is_write (sym (same_some command.Keys k is))
seize_writes s step.Register k is = ap is_write (sym (same_some _ k is))
seize_writes s step.ReadWord k is = ap is_write (sym (same_some command.Word k is))
seize_writes s (step.Swap expected) k is = ap is_write (sym (same_some _ k is))
seize_writes s step.Reserve k is = ap is_write (sym (same_some _ k is))
seize_writes s (step.ReadKeys reading) k is = ap is_write (sym (same_some command.Keys k is))
seize_writes s (step.Preempt victim reading) k is = ap is_write (sym (same_some _ k is))
seize_writes s (step.Confirm keys) k is = ap is_write (sym (same_some command.Word k is))
seize_writes s (step.Ended r) k is = absurd (none_some k is)

join_writes : (s : joining.JoinState) (p : JoinStep) (k : PrCommand) → joining.command_at s p ≡ Some k → is_write k ≡ false
join_writes s join.Register k is = ap is_write (sym (same_some _ k is))
join_writes s join.ReadWord k is = ap is_write (sym (same_some command.Word k is))
join_writes s (join.Ended r) k is = absurd (none_some k is)

work_writes : (w : Work) (k : PrCommand) → command_in w ≡ Some k → is_write k ≡ false
work_writes (Seizing s) k is = seize_writes s s.step k is
work_writes (Joining j) k is = join_writes j j.step k is

-- no command of a task is a write
pub due_writes : (ts : List Task) (k : PrCommand) → next_of ts ≡ Some k → is_write k ≡ false
due_writes ts k is = by_task (first_of ts) is
  where
    by_task : (o : Option Task) → option_and_then (λ (t : Task). command_in t.work) o ≡ Some k → is_write k ≡ false
    by_task None e = absurd (none_some k e)
    by_task (Some t) e = work_writes t.work k e

-- a command of n leaves the others
pub own_command : (j n : ℕ) (k : PrCommand) → j ≢ n → StillCommand j n k
own_command j n (command.Write value) ne = tt
own_command j n _ ne = λ is. ne (sym is)

answer_again : (a : Answer) → told.answer_told (answer_told a) ≡ a
answer_again (Ok a) = refl
answer_again (Err e) = refl

abbrev pub line_of : ℕ → ℕ → PrCommand → Answer → Moment
line_of n at k a = Told (entry.Device (device_entry.Command n at k (answer_told a)))

-- what it told, and makes of it
pub line_told : (S : View) (ms : List Moment) (n at : ℕ) (k : PrCommand) (a : Answer) (tasks : List told.Task) → is_write k ≡ false
    → told_tasks S n (line_of n at k a ∷ ms) ≡ Some tasks → Mapped (moved a) (told_tasks S n ms) tasks
line_told S ms n at k a tasks off is =
    let z : Kept (leads n (line_of n at k a ∷ ms)) (told_after S n (line_of n at k a) ms (told_tasks S n ms)) tasks =
    kept (leads n (line_of n at k a ∷ ms)) (told_after S n (line_of n at k a) ms (told_tasks S n ms)) tasks is in
    let test : ((n == n) && not (is_write k)) ≡ true = ap (λ b. b && not (is_write k)) (same_is n) ∙ ap not off in
    subst (λ b. Mapped (moved b) (told_tasks S n ms) tasks) (answer_again a)
    (mapped (moved (told.answer_told (answer_told a))) (told_tasks S n ms) tasks
    (sym (if_so ((n == n) && not (is_write k)) (option_map (moved (told.answer_told (answer_told a))) (told_tasks S n ms)) (told_tasks S n ms) test) ∙ z.told))

tells_taken : (o p : Option (List told.Task)) (x y : UpNode) (a : Answer) → JoinsFirst x → session_of y ≡ session_of x → installed_of y ≡ installed_of x → y.tasks ≡ after_answer x.tasks a
    → ((tasks : List told.Task) → p ≡ Some tasks → Mapped (moved a) o tasks) → Tells o None x → Tells p None y
tells_taken o None x y a first session installed tasks f k = tt
tells_taken o (Some us) x y a first session installed tasks f k =
    let m : Mapped (moved a) o us = f us refl in
    let l : Tells (Some m.inside) None x = subst (λ z. Tells z None x) m.found k in (
      λ is.
          let same : installed_of x ≡ session_of x = sym installed ∙ (is ∙ session) in
          subst (λ ts. Same (joins_in ts) us) (sym tasks)
          (subst (λ z. Same z us) (sym (joins_taken x.tasks a (first same)))
          (subst (λ z. Same (after_answer (joins_in x.tasks) a) z) m.gives (same_taken (joins_in x.tasks) m.inside a (l.0 same)))),
      λ ne.
          subst (λ ts. Same ts us) (sym tasks)
          (subst (λ z. Same (after_answer x.tasks a) z) m.gives (same_taken x.tasks m.inside a (l.1 (λ is. ne (installed ∙ (is ∙ sym session)))))),
    )

-- the line of a command, whose answer the node takes
pub taken_up : (S : View) (ms : List Moment) (n at : ℕ) (x y : UpNode) (k : PrCommand) (a : Answer) → next_of x.tasks ≡ Some k → JoinsFirst x → session_of y ≡ session_of x
    → installed_of y ≡ installed_of x → y.tasks ≡ after_answer x.tasks a → UpSo S ms n None x → UpSo S (line_of n at k a ∷ ms) n None y
taken_up S ms n at x y k a due first session installed tasks up = record {
  none = λ is. up.none (sym session ∙ is);
  fresh = λ some ne. ap (λ q. has_installed n q ms) session ∙ up.fresh (subst (λ q. 0 < q) session some) (λ is. ne (installed ∙ (is ∙ sym session)));
  done = λ some is. ap (λ q. has_installed n q ms) session ∙ up.done (subst (λ q. 0 < q) session some) (sym installed ∙ (is ∙ session));
  plain = λ ne. subst NoJoins (sym tasks) (none_taken x.tasks a (up.plain (λ is. ne (installed ∙ (is ∙ sym session)))));
  tells = tells_taken (told_tasks S n ms) (told_tasks S n (line_of n at k a ∷ ms)) x y a first session installed tasks
      (λ ts is. line_told S ms n at k a ts (due_writes x.tasks k due) is) up.tells;
}

-- ---- each act

abbrev pub IsSimple : Act → Type 0
IsSimple (Makes change) = ⊥
IsSimple _ = Unit {0}

-- it goes on with the same session, installed epoch and tasks
pub mild_at : (S : View) (n : ℕ) (told : Delivered) (v w : Nodes) (p : Pending) (x y : UpNode) (os : List Output) (s : Scene) → AreMild os → session_of y ≡ session_of x
    → installed_of y ≡ installed_of x → y.tasks ≡ x.tasks → Goes S n told v w p (Up x) s → Goes S n told v w p (Up y) (passing n os s)
mild_at S n told v w p x y os s are session installed tasks k =
    let t : Goes S n told v w p (Up x) (passing n os s) = outputs_go S n told v w p (Up x) os s are k in
    goes_at S n told v w p p (Up x) (Up y) (passing n os s) (up_same S (passing n os s).moments n p x y session installed tasks t.here) t

pub act_goes : (S : View) (c : Cluster) (n : ℕ) (told : Delivered) (v w : Nodes) (disk : NodeRecord) (x : UpNode) (g : Hand) (a : Act) (s : Scene) → (AsksIn told → ⊥)
    → MayAct c n told x a → ActSo a → ActMay S.setting.header n told g x a → IsSimple a → DoingAgrees S.setting.header n (site (Up x) disk) s.moments (Does a) → seizings.Goes S.setting.header n told v w (site (Up x) disk) g s → Goes S n told v w None (Up x) s
    → Goes S n told v w None (Up (acted c n x a)) (passing n (said c n x a) s)
act_goes S c n told v w disk x g a s calm may so guard simple agrees z k = by_act a may so guard simple agrees
  where
    mild_to : (y : UpNode) (os : List Output) → AreMild os → session_of y ≡ session_of x → installed_of y ≡ installed_of x → y.tasks ≡ x.tasks
        → Goes S n told v w None (Up y) (passing n os s)
    mild_to y os are session installed tasks = mild_at S n told v w None x y os s are session installed tasks k

    queues : (b : AttemptState) (d : ℕ) (kind : SeizeKind) → x.attempt ≡ Some b → ActMay S.setting.header n told g x (Queues b d kind)
        → Goes S n told v w None (Up (acted c n x (Queues b d kind))) s
    queues b d kind is e =
        let q : seizing.SeizeState = seizing.begun kind b.plan.epoch b.plan.members n c.id (has (record_of x).valid d) in
        if_either (λ (y : UpNode). Goes S n told v w None (Up y) s) (has b.plan.members n) (record x { tasks = after_seize x.tasks d q }) x
        (goes_at S n told v w None None (Up x) (Up (record x { tasks = after_seize x.tasks d q })) s
        (queued_up S s.moments n d x q (open_here S n s.moments (leads_so S.setting.header n s.moments x b is (before_in b d kind g e) z.here.up)) k.here) k) k

    by_act : (b : Act) → MayAct c n told x b → ActSo b → ActMay S.setting.header n told g x b → IsSimple b → DoingAgrees S.setting.header n (site (Up x) disk) s.moments (Does b)
        → Goes S n told v w None (Up (acted c n x b)) (passing n (said c n x b) s)
    by_act (Hears from b) m o e f i = mild_to (acted c n x (Hears from b)) [] tt refl refl refl
    by_act Ticks m o e f i = mild_to (acted c n x Ticks) (said c n x Ticks) (tt, tick_mild c x) refl refl refl
    by_act Waits m o e f i = mild_to (acted c n x Waits) [] tt refl refl refl
    by_act (Goes_on b q) m o e f i = mild_to (acted c n x (Goes_on b q)) [] tt refl refl refl
    by_act (Ends b end) m o e f i = mild_to (acted c n x (Ends b end)) (said c n x (Ends b end)) (ended_mild b.plan.epoch end, tt) refl refl refl
    by_act (Queues b d kind) m o e f i = queues b d kind m e
    by_act (Accepts kind p members d) m o e f i = absurd (calm (says_asks kind p members d told e.0))
    by_act (Takes at q b) m o e f i =
        let y : UpNode = answered_so x b in
        let l : Entry = entry.Device (device_entry.Command n at q (answer_told b)) in
        line_goes S n told v w None None (Up x) (Up y) s l refl (λ j ne. own_command j n q ne) (taken_up S s.moments n at x y q b e.1 i refl refl refl k.here) k
    by_act (Stores d value b) m o e f i = mild_to x (said c n x (Stores d value b)) (tt, write_mild n x d value b) refl refl refl
    by_act (Writes to b) m o e f i = posting_goes S n told v w None (Up x) s to (record { sender = n; body = b }) k
    by_act (Gives os) m o e f i = mild_to x os (minors_mild os o) refl refl refl
    by_act (Spreads receivers b) m o e f i = mild_to x (said c n x (Spreads receivers b)) (spread_mild receivers b) refl refl refl
    by_act (Minds q p) m o e f i = mild_to (acted c n x (Minds q p)) [] tt refl refl refl
    by_act (Notes from place p) m o e f i = mild_to (acted c n x (Notes from place p)) [] tt refl refl refl
    by_act (Dates second) m o e f i = mild_to (acted c n x (Dates second)) [] tt refl refl refl
    by_act (Works worker) m o e f i = mild_to (acted c n x (Works worker)) [] tt refl refl refl
    by_act (Makes change) m o e f i = absurd f
