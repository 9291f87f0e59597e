-- A promise, an attempt and an install, with their lines.
use Rattle.std.specs.Prelude.{ℕ, ◌≡◌, ◌<◌, ◌≤◌, ◌⊎◌, ◌==◌, ◌&&◌, ◌++◌, Bool, true, false, List, [], ◌∷◌, length, Option, None, Some}
use Rattle.std.specs.List.{AllByRecursion}
use Rattle.std.proofs.Common.{refl, sym, ap, subst, ◌∙◌, inl, arith}
use Rattle.attempt_laws.proofs.Goes.{chosen_reached, goes_by_call}
use Rattle.attempt_laws.proofs.Stays.{plan_stays}
use Rattle.cl_base.specs.Limits.{most_devices}
use Rattle.cl_base.specs.Sets.{has}
use Rattle.cl_base.specs.declared.header.Header.{Header}
use Rattle.cmm_attempt.proofs.Basics.{if_either}
use Rattle.cmm_attempt.specs.Attempts.{AttemptState, install_in}
use Rattle.cmm_attempt.specs.Calls.{Call, turn}
use Rattle.cmm_attempt.specs.declared.plan.Plan.{Plan}
use Rattle.cmm_member.specs.Nodes.{NodeState, installed_with}
use Rattle.cmm_member.specs.Records.{NodeRecord}
use Rattle.device_queue.specs.Queue.{after_join, join_of, put_unless}
use Rattle.device_queue.specs.declared.task.Task.{Task}
use Rattle.device_queue.specs.declared.task.Work.{Work}
use Rattle.device_queue.specs.declared.task.Work.TheVariants.{Seizing as Seizes, Joining as Joins}
use Rattle.membership_machine.specs.State.{Memberships}
use Rattle.seize.specs.Joining as joining
use Rattle.seize.specs.declared.step.JoinStep.{JoinStep}
use Rattle.seize.specs.declared.step.JoinStep.TheVariants as join
use Rattle.status_report.specs.declared.attempt_entry.AttemptEntry.TheVariants as attempt_entry
use Rattle.status_report.specs.declared.entry.Entry.{Entry}
use Rattle.status_report.specs.declared.entry.Entry.TheVariants as entry
use Rattle.status_report.specs.declared.node_entry.NodeEntry.TheVariants as note
use Rattle.wire.specs.declared.message.Body.{Body}
use Rattle.wire.specs.declared.message.Body.TheVariants as body
use Rattle.wire.specs.declared.message.Install.{Install}
use Rattle.wire.specs.declared.lists.Reading.{Reading}
use Rattle.history.specs.Member.{in_collect, last_installed}
use Rattle.history.specs.Moment.{Moment}
use Rattle.history.specs.Setting.{coordinator}
use Rattle.history.specs.Trace.{installed}
use Rattle.history.specs.Validated.{moved_on, validity}
use Rattle.node_model.specs.Attempts.{is_to_join, joining_from, joining_with}
use Rattle.node_model.specs.Entries.{unknown_lines}
use Rattle.node_model.specs.Members.{rested_by}
use Rattle.node_model.specs.Seats.{installed_of, promised_of, promising, record_of, session_of, state_of}
use Rattle.node_model.specs.declared.cluster.Cluster.{Cluster}
use Rattle.node_model.specs.declared.node.Node.TheVariants.{Up}
use Rattle.node_model.specs.declared.node.UpNode.{UpNode}
use Rattle.refinement.proofs.Attempts.{install_epoch, may_be_called}
use Rattle.refinement.proofs.Changes.{Sees, sees}
use Rattle.refinement.specs.Doings.{changed, last_lines, site, superseded_lines}
use Rattle.refinement.specs.Doings.Change.{Counts, Installs, Leads, Promises}
use Rattle.refinement.specs.Guards.{Asks, MayChange, Says}
use Rattle.refinement.specs.Runs.{Nodes}
use Rattle.refinement.specs.Ties.{Delivered}
use Rattle.refinement.specs.Worlds.{AllFit}
use Rattle.run_history.proofs.Changes.{At, at_attempt, session_after}
use Rattle.run_history.proofs.Lists.{both}
use Rattle.run_history.proofs.Walk.{passing_append}
use Rattle.run_history.specs.Scenes.{Scene, passing, telling}
use Rattle.run_history.specs.WorldLines.{IsDevice}
use Rattle.run_seizings.proofs.Changes.{NoCollect, mid}
use Rattle.run_seizings.proofs.Progress.{if_so, or_left, same_is}
use Rattle.run_seizings.proofs.Promising.{After, and_both, same_so}
use Rattle.run_devices.specs.installs.Shown.{InstallSo}
use Rattle.run_devices.specs.validity.Kept.{JoinSo, MovedSo, NoExcuse, TaskSo, UpSo, WorkSo}
use Rattle.run_devices.specs.validity.Laws.{Agrees}
use Rattle.run_devices.proofs.validity.Acts.{strict}
use Rattle.run_devices.proofs.validity.Goes.{Goes, HasCollect, IsCollect, line_goes, mild_append, outputs_go}
use Rattle.run_devices.proofs.validity.Installs.{install_told}
use Rattle.run_devices.proofs.validity.Mild.{superseded_mild, unknown_mild}
use Rattle.run_devices.proofs.validity.Plainly.{mid_goes}

-- ---- a promise

asks_is : (p : ℕ) (b : Body) → Asks p b → IsCollect b
asks_is p (body.Collect e members) k = tt
asks_is p _ k = absurd k

says_collect : (p : ℕ) (told : Delivered) → Says (Asks p) told → HasCollect told
says_collect p None k = absurd k
says_collect p (Some d) k = asks_is p d.1.body k

-- a greater number is promised: it has moved on
moved_up : (ms : List Moment) (n q e : ℕ) → e < q → moved_on n ms ≡ true → MovedSo ms n q e
moved_up ms n q e low moved = record { stands = λ is. absurd (below e q low is); moved = λ ne. moved }
  where
    below : (a b : ℕ) → a < b → a ≡ b → ⊥
    below a b lt is = grind arith

rested_up : (ms : List Moment) (n p : ℕ) (x : UpNode) (o : Option AttemptState) → installed_of x < p → moved_on n ms ≡ true → UpSo ms n (rested_by (promising x p) o)
rested_up ms n p x None low moved = record { moved = λ some. moved_up ms n p (installed_of x) low moved; tasks = tt }
rested_up ms n p x (Some a) low moved = record { moved = λ some. moved_up ms n p (installed_of x) low moved; tasks = tt }

rested_record : (p : ℕ) (x : UpNode) (o : Option AttemptState) → (record_of (rested_by (promising x p) o)).valid ≡ (record_of x).valid
rested_record p x None = refl
rested_record p x (Some a) = refl

least : (a b d : ℕ) → a ≤ b → b < d → a < d
least a b d l m = omega (arith, l, m)

pub promises_go : (h : Header) (c : Cluster) (n : ℕ) (told : Delivered) (v w : Nodes) (disk : NodeRecord) (x : UpNode) (p : ℕ) (s : Scene) → disk ≡ record_of x
    → installed_of x ≤ promised_of x → MayChange c n told x (Promises p) → AllFit n (last_lines c n x (Promises p)) → Goes h n told v w NoExcuse (site (Up x) disk) s
    → Goes h n told v w NoExcuse (After c n x (Promises p)) (passing n (mid true n ++ last_lines c n x (Promises p)) s)
promises_go h c n told v w disk x p s same order may fit k =
    let t : Scene = telling (entry.Node n note.Saved) s in
    let moved : moved_on n t.moments ≡ true =
    or_left ((n == n) && in_collect n s.moments) (moved_on n s.moments)
    (and_both (n == n) (in_collect n s.moments) (same_is n) (k.hand.collects (says_collect p told may.0))) in
    outputs_go h n told v w NoExcuse (After c n x (Promises p)) (last_lines c n x (Promises p)) t fit
    (mild_append (superseded_lines p x.attempt) (unknown_lines n x.requests.waiting) (superseded_mild p x.attempt) (unknown_mild n x.requests.waiting))
    (line_goes h n told v w NoExcuse NoExcuse (site (Up x) disk) (After c n x (Promises p)) s (entry.Node n note.Saved) tt (λ j ne is. ne (sym is)) (record {
      valid = λ d is.
          subst (λ z. Agrees (validity h n d s.moments) (has z d) ⊎ ⊥) (ap (λ (r : NodeRecord). r.valid) same ∙ sym (rested_record p x x.attempt)) (k.here.valid d is);
      up = rested_up t.moments n p x x.attempt (least (installed_of x) (promised_of x) p order may.1) moved;
    }) k)

-- ---- an attempt begins

pub leads_go : (h : Header) (c : Cluster) (n : ℕ) (told : Delivered) (v w : Nodes) (disk : NodeRecord) (x : UpNode) (p members : ℕ) (b : Bool) (s : Scene) → disk ≡ record_of x
    → installed_of x ≤ promised_of x → MayChange c n told x (Leads p members) → (b ≡ true → NoCollect told) → AllFit n (last_lines c n x (Leads p members))
    → Goes h n told v w NoExcuse (site (Up x) disk) s
    → Goes h n told v w NoExcuse (After c n x (Leads p members)) (passing n (mid b n ++ last_lines c n x (Leads p members)) s)
leads_go h c n told v w disk x p members b s same order may calm fit k =
    let t : Scene = passing n (mid b n) s in
    let l : Goes h n told v w NoExcuse (site (Up x) disk) t = mid_goes h n told v w x disk s b calm k in
    let own : coordinator p ≡ n = may.1 in
    let z : Entry = entry.Attempt (attempt_entry.Begun p members) in
    let u : Scene = telling z t in
    subst (λ r. Goes h n told v w NoExcuse (After c n x (Leads p members)) r) (sym (passing_append n (mid b n) (last_lines c n x (Leads p members)) s))
    (outputs_go h n told v w NoExcuse (After c n x (Leads p members)) (unknown_lines n x.requests.waiting) u fit (unknown_mild n x.requests.waiting)
    (line_goes h n told v w NoExcuse NoExcuse (site (Up x) disk) (After c n x (Leads p members)) t z tt (λ j ne is. ne (sym is ∙ own)) (record {
      valid = λ d is. subst (λ r. Agrees (validity h n d t.moments) (has r d) ⊎ ⊥) (ap (λ (r : NodeRecord). r.valid) same) (l.here.valid d is);
      up = record {
        moved = λ some.
            moved_up u.moments n p (installed_of x) (least (installed_of x) (promised_of x) p order may.0)
            (or_left (coordinator p == n) (moved_on n t.moments) (same_so (coordinator p) n own));
        tasks = tt;
      };
    }) l))

-- ---- an install

-- a joining that has not registered asks nothing
joined_tasks : (c : Cluster) (ms : List Moment) (n q e f joined : ℕ) (ts : List Task) (rs : List Reading) → AllByRecursion (TaskSo ms n q e) ts
    → AllByRecursion (TaskSo ms n q e) (joining_from c n f joined ts rs)
joined_tasks c ms n q e f joined ts [] k = k
joined_tasks c ms n q e f joined ts (r ∷ rs) k =
    joined_tasks c ms n q e f joined (joining_with c n f joined ts r) rs
    (if_either (AllByRecursion (TaskSo ms n q e)) (is_to_join c n joined r) (after_join ts r.device (joining.begun f n c.id)) ts (by_old (join_of ts r.device)) k)
  where
    by_old : (o : Option Task) → AllByRecursion (TaskSo ms n q e) (put_unless o (record { device = r.device; work = Joins (joining.begun f n c.id) }) ts)
    by_old None = both (TaskSo ms n q e) ts (record { device = r.device; work = Joins (joining.begun f n c.id) } ∷ []) k (tt, tt)
    by_old (Some t) = k

-- before its session is installed no joining has registered
none_join : (ms after : List Moment) (n q e r f d : ℕ) (s : JoinStep) → (q ≡ e → ⊥) → JoinSo ms n q e d s → JoinSo after n r f d s
none_join ms after n q e r f d join.Register ban k = tt
none_join ms after n q e r f d join.ReadWord ban k = absurd (ban k.0)
none_join ms after n q e r f d (join.Ended result) ban k = tt

none_work : (ms after : List Moment) (n q e r f d : ℕ) (w : Work) → (q ≡ e → ⊥) → WorkSo ms n q e d w → WorkSo after n r f d w
none_work ms after n q e r f d (Seizes s) ban k = tt
none_work ms after n q e r f d (Joins j) ban k = none_join ms after n q e r f d j.step ban k

none_tasks : (ms after : List Moment) (n q e r f : ℕ) (ts : List Task) → (q ≡ e → ⊥) → AllByRecursion (TaskSo ms n q e) ts → AllByRecursion (TaskSo after n r f) ts
none_tasks ms after n q e r f [] ban k = tt
none_tasks ms after n q e r f (t ∷ ts) ban k = (none_work ms after n q e r f t.device t.work ban k.0, none_tasks ms after n q e r f ts ban k.1)

installed_so : (h : Header) (n e : ℕ) (told : Delivered) (v w : Nodes) (x y : UpNode) (disk new : NodeRecord) (s : Scene) → e ≡ session_of y → e ≡ installed_of y
    → ((d : ℕ) → IsDevice h d → Agrees (validity h n d s.moments) (has disk.valid d) → Agrees (validity h n d (installed n e ∷ s.moments)) (has new.valid d))
    → (UpSo s.moments n x → AllByRecursion (TaskSo (installed n e ∷ s.moments) n (session_of y) (installed_of y)) y.tasks) → Goes h n told v w NoExcuse (site (Up x) disk) s
    → Goes h n told v w NoExcuse (site (Up y) new) (telling (entry.Node n (note.Installed e)) s)
installed_so h n e told v w x y disk new s session here valid tasks k =
    line_goes h n told v w NoExcuse NoExcuse (site (Up x) disk) (site (Up y) new) s (entry.Node n (note.Installed e)) tt (λ j ne is. ne (sym is)) (record {
      valid = λ d is. inl (valid d is (strict (Agrees (validity h n d s.moments) (has disk.valid d)) (k.here.valid d is)));
      up = record {
        moved = λ some. record {
          stands = λ is. (if_so (n == n) false (moved_on n s.moments) (same_is n), if_so (n == n) e (last_installed n s.moments) (same_is n) ∙ session);
          moved = λ ne. absurd (ne (sym here ∙ session));
        };
        tasks = tasks k.here.up;
      };
    }) k

pub counts_go : (h : Header) (c : Cluster) (M : Memberships) (n : ℕ) (told : Delivered) (v w : Nodes) (disk : NodeRecord) (x : UpNode) (a : AttemptState) (q : Call) (r : NodeState)
    (i : Install) (b : Bool) (s : Scene) → length h.devices ≤ most_devices → At c M n told disk x → disk ≡ record_of x → MayChange c n told x (Counts a q r i) → n ≤ 32 → InstallSo h (passing n (mid b n) s).moments n r i
    → (b ≡ true → NoCollect told) → Goes h n told v w NoExcuse (site (Up x) disk) s
    → Goes h n told v w NoExcuse (After c n x (Counts a q r i)) (passing n (mid b n ++ last_lines c n x (Counts a q r i)) s)
counts_go h c M n told v w disk x a q r i b s many at same may low brings calm k =
    let t : Scene = passing n (mid b n) s in
    let l : Goes h n told v w NoExcuse (site (Up x) disk) t = mid_goes h n told v w x disk s b calm k in
    let y : UpNode = changed c n x (Counts a q r i) in
    let gives : i ≡ install_in (turn a q).after =
    at_attempt c M n told disk x a (i ≡ install_in (turn a q).after) at may.0
    (λ z shows co. ((goes_by_call a q (may_be_called c told a q may.2) (chosen_reached a co.reached)).install i may.3).1) in
    let plan : (turn a q).after.plan ≡ a.plan = plan_stays a q (may_be_called c told a q may.2) in
    let epoch : i.epoch ≡ a.plan.epoch = ap (λ (z : Install). z.epoch) gives ∙ (install_epoch (turn a q).after ∙ ap (λ (z : Plan). z.epoch) plan) in
    let sight : Sees M n disk (state_of x.seat) = sees c M n disk x.attempt x.seat at.tied.0 in
    let own : a.plan.epoch ≡ session_of x = at_attempt c M n told disk x a (a.plan.epoch ≡ session_of x) at may.0 (λ z shows co. co.epoch ∙ (sym shows ∙ sight.session)) in
    let after : session_of y ≡ session_of x = session_after c n told x (Counts a q r i) may tt (λ p e. cc) in
    subst (λ z. Goes h n told v w NoExcuse (After c n x (Counts a q r i)) z) (sym (passing_append n (mid b n) (last_lines c n x (Counts a q r i)) s))
    (installed_so h n i.epoch told v w x y disk (record_of y) t (epoch ∙ (own ∙ sym after)) refl
    (λ d is old. install_told h t.moments n d disk.valid r i many is low
    (ap (λ z. (state_of z).saved.valid) (sym may.1) ∙ sym (ap (λ (z : NodeRecord). z.valid) same)) brings old)
    (λ up. joined_tasks c (installed n i.epoch ∷ t.moments) n (session_of y) (installed_of y) i.epoch (installed_with r i).joined [] i.readings tt) l)

pub joins_go : (h : Header) (c : Cluster) (n : ℕ) (told : Delivered) (v w : Nodes) (disk : NodeRecord) (x : UpNode) (r : NodeState) (i : Install) (b : Bool) (s : Scene)
    → length h.devices ≤ most_devices → disk ≡ record_of x → MayChange c n told x (Installs r i) → n ≤ 32 → InstallSo h (passing n (mid b n) s).moments n r i → (b ≡ true → NoCollect told) → Goes h n told v w NoExcuse (site (Up x) disk) s
    → Goes h n told v w NoExcuse (After c n x (Installs r i)) (passing n (mid b n ++ last_lines c n x (Installs r i)) s)
joins_go h c n told v w disk x r i b s many same may low brings calm k =
    let t : Scene = passing n (mid b n) s in
    let l : Goes h n told v w NoExcuse (site (Up x) disk) t = mid_goes h n told v w x disk s b calm k in
    let y : UpNode = changed c n x (Installs r i) in
    let seat : state_of x.seat ≡ r = ap state_of may.0 in
    let at : i.epoch ≡ session_of x = sym may.3 ∙ ap (λ (z : NodeState). z.session) (sym seat) in
    let after : session_of y ≡ session_of x = session_after c n told x (Installs r i) may tt (λ p e. cc) in
    let other : session_of x ≡ installed_of x → ⊥ = λ is. may.4 (ap (λ (z : NodeState). z.saved.installed) (sym seat) ∙ (sym is ∙ sym at)) in
    subst (λ z. Goes h n told v w NoExcuse (After c n x (Installs r i)) z) (sym (passing_append n (mid b n) (last_lines c n x (Installs r i)) s))
    (installed_so h n i.epoch told v w x y disk (record_of y) t (at ∙ sym after) refl
    (λ d is old. install_told h t.moments n d disk.valid r i many is low
    (ap (λ (z : NodeState). z.saved.valid) (sym seat) ∙ sym (ap (λ (z : NodeRecord). z.valid) same)) brings old)
    (λ up.
    joined_tasks c (installed n i.epoch ∷ t.moments) n (session_of y) (installed_of y) i.epoch (installed_with r i).joined x.tasks i.readings
    (none_tasks t.moments (installed n i.epoch ∷ t.moments) n (session_of x) (installed_of x) (session_of y) (installed_of y) x.tasks other up.tasks)) l)
