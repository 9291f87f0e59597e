-- What a node saves: a promise, an attempt of its own, an install.
use Rattle.std.specs.Prelude.{ℕ, ◌≡◌, ◌<◌, ◌≤◌, ◌==◌, ◌&&◌, ◌++◌, Bool, true, false, List, [], ◌∷◌, length, Option, None, Some, is_some, if◌then◌else◌}
use Rattle.std.specs.List.{list_any}
use Rattle.std.proofs.Common.{refl, sym, ap, subst, ◌∙◌, arith}
use Rattle.cl_base.specs.Sets.{has}
use Rattle.cl_base.specs.declared.header.Header.{Header}
use Rattle.attempt_laws.proofs.Goes.{chosen_reached, goes_by_call}
use Rattle.attempt_laws.proofs.Stays.{plan_stays}
use Rattle.cmm_attempt.proofs.Basics.{same_some}
use Rattle.cmm_attempt.specs.Attempts.{AttemptState, install_in}
use Rattle.cmm_attempt.specs.Calls.{Call, turn}
use Rattle.cmm_attempt.specs.declared.plan.Plan.{Plan}
use Rattle.cmm_member.specs.Nodes.{NodeState, installed_with}
use Rattle.cmm_member.specs.Records.{NodeRecord}
use Rattle.device_queue.specs.declared.task.Task.{Task}
use Rattle.membership_machine.specs.State.{Memberships}
use Rattle.status_report.specs.declared.attempt_entry.AttemptEntry.TheVariants as tried
use Rattle.status_report.specs.declared.entry.Entry.{Entry}
use Rattle.status_report.specs.declared.entry.Entry.TheVariants as entry
use Rattle.status_report.specs.declared.node_entry.NodeEntry.TheVariants as note
use Rattle.wire.specs.declared.lists.Reading.{Reading}
use Rattle.wire.specs.declared.message.Body.{Body}
use Rattle.wire.specs.declared.message.Body.TheVariants as body
use Rattle.wire.specs.declared.message.Install.{Install}
use Rattle.history.specs.Member as member
use Rattle.history.specs.Member.{in_collect}
use Rattle.history.specs.Moment.{Moment}
use Rattle.history.specs.Queue as told
use Rattle.history.specs.Queue.{is_open, joinings, shown_valid}
use Rattle.history.specs.Seizing.{seizing_of}
use Rattle.run_devices.specs.queues.Views.{View}
use Rattle.history.specs.Setting.{all_to, coordinator, key_of, paths_of}
use Rattle.history.specs.Trace.{attempt, installed, saved}
use Rattle.history.specs.Validated.{Lapsed, Open, Valid, at_install, validity}
use Rattle.node_model.specs.Attempts.{joining_from}
use Rattle.node_model.specs.Entries.{unknown_lines}
use Rattle.node_model.specs.Members.{rested_by}
use Rattle.node_model.specs.Seats.{installed_of, promised_of, promising, record_of, session_of, state_of}
use Rattle.node_model.specs.declared.cluster.Cluster.{Cluster}
use Rattle.node_model.specs.declared.node.Node.TheVariants.{Up}
use Rattle.node_model.specs.declared.node.UpNode.{UpNode}
use Rattle.refinement.proofs.Attempts.{install_epoch, may_be_called}
use Rattle.refinement.proofs.Changes.{Sees, sees}
use Rattle.refinement.specs.Doings.{changed, last_lines, superseded_lines}
use Rattle.refinement.specs.Doings.Change.{Counts, Installs, Leads, Promises}
use Rattle.refinement.specs.Guards.{Asks, MayChange, Says}
use Rattle.refinement.specs.Runs.{Nodes}
use Rattle.refinement.specs.Ties.{Delivered}
use Rattle.run_history.proofs.Changes.{At, at_attempt, session_after}
use Rattle.run_history.proofs.Walk.{passing_append}
use Rattle.run_history.specs.Scenes.{Scene, passing, telling}
use Rattle.run_history.specs.WorldLines.{IsDevice}
use Rattle.run_seizings.proofs.Changes.{NoCollect, mid}
use Rattle.run_seizings.proofs.Progress.{if_not, if_so, no_truth, or_left, same_is}
use Rattle.run_seizings.proofs.Promising.{and_both, same_so}
use Rattle.run_seizings.specs.Seized.{ReadSo, has_installed}
use Rattle.run_devices.specs.installs.Shown.{InstallSo, ReadInOrder}
use Rattle.run_devices.specs.readings.Laws.{told_in}
use Rattle.run_devices.specs.validity.Kept.{RecordAgrees}
use Rattle.run_devices.specs.validity.Laws.{Agrees}
use Rattle.run_devices.proofs.validity.Doings.{Fixed}
use Rattle.run_devices.proofs.validity.Goes.{HasCollect, IsCollect}
use Rattle.run_devices.proofs.validity.Installs.{Brings, mid_brings}
use Rattle.run_devices.specs.queues.Kept.{NoJoins, Pending, Tells, UpSo, joins_in}
use Rattle.run_devices.specs.queues.Laws.{Same}
use Rattle.run_devices.specs.queues.Told.{is_unsure, leads}
use Rattle.run_devices.specs.queues.Views.{ShownAs, joined, leaves_open, stays_open, told_after, told_tasks}
use Rattle.run_devices.proofs.queues.Joinings.{Paths, ReadAgrees, any_to, read_agrees}
use Rattle.run_devices.proofs.queues.Joined.{joinings_same}
use Rattle.run_devices.proofs.queues.Goes.{Goes, line_goes, mild_append, outputs_go}
use Rattle.run_devices.proofs.queues.Mild.{superseded_mild, unknown_mild}
use Rattle.run_devices.proofs.queues.Options.{Failed, Kept, failed, kept}
use Rattle.run_devices.proofs.queues.Stills.{Still, node_stays}

-- ---- it is saved

and_not : (a b : Bool) → b ≡ false → (a && b) ≡ false
and_not true b h = h
and_not false b h = refl

saved_still : (S : View) (ms : List Moment) (n : ℕ) → in_collect n ms ≡ false → Still S ms n (saved n)
saved_still S ms n calm = record {
  told = λ ts is. sym (if_not ((n == n) && in_collect n ms) (Some []) (told_tasks S n ms) (and_not (n == n) (in_collect n ms) calm)) ∙ is;
  installs = λ e. refl;
  session = λ k. if_not ((n == n) && in_collect n ms) (member.promised_to ms) (member.session_of n ms) (and_not (n == n) (in_collect n ms) calm) ∙ k;
}

pub mid_goes : (S : View) (n : ℕ) (told : Delivered) (v w : Nodes) (x : UpNode) (s : Scene) (b : Bool) → (b ≡ true → NoCollect told) → Goes S n told v w None (Up x) s
    → Goes S n told v w None (Up x) (passing n (mid b n) s)
mid_goes S n told v w x s false calm k = k
mid_goes S n told v w x s true calm k =
    line_goes S n told v w None None (Up x) (Up x) s (entry.Node n note.Saved) refl (λ j ne is. ne (sym is))
    (node_stays S s.moments (saved n) n None (Up x) (saved_still S s.moments n (k.hand.calm (calm refl))) k.here) k

-- ---- a new session

pub tells_by : (o : Option (List told.Task)) (p : Pending) (x : UpNode) → ((ts : List told.Task) → o ≡ Some ts → Tells (Some ts) p x) → Tells o p x
tells_by None p x f = tt
tells_by (Some ts) p x f = f ts refl

not_below : (a b : ℕ) → a < b → a ≡ b → ⊥
not_below a b low is = grind arith

positive : (a b : ℕ) → a < b → b ≡ 0 → ⊥
positive a b low is = omega (arith, low, is)

-- its tasks are dropped
entered_up : (S : View) (ms : List Moment) (n : ℕ) (y : UpNode) → installed_of y < session_of y → has_installed n (session_of y) ms ≡ false → y.tasks ≡ []
    → ((ts : List told.Task) → told_tasks S n ms ≡ Some ts → ts ≡ []) → UpSo S ms n None y
entered_up S ms n y low fresh none told = record {
  none = λ is. absurd (positive (installed_of y) (session_of y) low is);
  fresh = λ some ne. fresh;
  done = λ some is. absurd (not_below (installed_of y) (session_of y) low is);
  plain = λ ne. subst NoJoins (sym none) tt;
  tells = tells_by (told_tasks S n ms) None y
      (λ ts is. (λ same. absurd (not_below (installed_of y) (session_of y) low same), λ ne. subst (λ us. Same y.tasks us) (sym (told ts is)) (subst (λ z. Same z []) (sym none) tt)));
}

pub told_dropped : (S : View) (n : ℕ) (x : Moment) (ms : List Moment) (ts : List told.Task) → told_after S n x ms (told_tasks S n ms) ≡ Some [] → told_tasks S n (x ∷ ms) ≡ Some ts → ts ≡ []
told_dropped S n x ms ts drops is =
    let k : Kept (leads n (x ∷ ms)) (told_after S n x ms (told_tasks S n ms)) ts = kept (leads n (x ∷ ms)) (told_after S n x ms (told_tasks S n ms)) ts is in
    sym (same_some [] ts (sym drops ∙ k.told))

-- ---- a promise

asks_is : (p : ℕ) (b : Body) → Asks p b → IsCollect b
asks_is p (body.Collect e members) k = tt
asks_is p _ k = absurd k

says_collect : (p : ℕ) (told : Delivered) → Says (Asks p) told → HasCollect told
says_collect p None k = absurd k
says_collect p (Some d) k = asks_is p d.1.body k

least : (a b d : ℕ) → a ≤ b → b < d → a < d
least a b d l m = omega (arith, l, m)

too_high : (p q : ℕ) → p ≤ q → q < p → ⊥
too_high p q l m = omega (arith, l, m)

-- a number that is promised only now was not installed
pub unseen : (n p : ℕ) (ms : List Moment) (low : ℕ) → low < p → (has_installed n p ms ≡ true → p ≤ low) → has_installed n p ms ≡ false
unseen n p ms low less k = by_test (has_installed n p ms) k
  where
    by_test : (b : Bool) → (b ≡ true → p ≤ low) → b ≡ false
    by_test true f = absurd (too_high p low (f refl) less)
    by_test false f = refl

rested_up : (S : View) (ms : List Moment) (n p : ℕ) (x : UpNode) (o : Option AttemptState) → installed_of x < p → has_installed n p ms ≡ false
    → ((ts : List told.Task) → told_tasks S n ms ≡ Some ts → ts ≡ []) → UpSo S ms n None (rested_by (promising x p) o)
rested_up S ms n p x None low fresh told = entered_up S ms n (promising x p) low fresh refl told
rested_up S ms n p x (Some a) low fresh told = entered_up S ms n (rested_by (promising x p) (Some a)) low fresh refl told

pub promises_go : (S : View) (c : Cluster) (n : ℕ) (told : Delivered) (v w : Nodes) (x : UpNode) (p : ℕ) (s : Scene) → installed_of x ≤ promised_of x
    → (has_installed n p s.moments ≡ true → p ≤ promised_of x) → MayChange c n told x (Promises p) → Goes S n told v w None (Up x) s
    → Goes S n told v w None (Up (changed c n x (Promises p))) (passing n (mid true n ++ last_lines c n x (Promises p)) s)
promises_go S c n told v w x p s order low may k =
    let t : Scene = telling (entry.Node n note.Saved) s in
    let y : UpNode = changed c n x (Promises p) in
    let drops : told_after S n (saved n) s.moments (told_tasks S n s.moments) ≡ Some [] =
    if_so ((n == n) && in_collect n s.moments) (Some []) (told_tasks S n s.moments)
    (and_both (n == n) (in_collect n s.moments) (same_is n) (k.hand.collects (says_collect p told may.0))) in
    outputs_go S n told v w None (Up y) (last_lines c n x (Promises p)) t
    (mild_append (superseded_lines p x.attempt) (unknown_lines n x.requests.waiting) (superseded_mild p x.attempt) (unknown_mild n x.requests.waiting))
    (line_goes S n told v w None None (Up x) (Up y) s (entry.Node n note.Saved) refl (λ j ne is. ne (sym is))
    (rested_up S t.moments n p x x.attempt (least (installed_of x) (promised_of x) p order may.1) (unseen n p s.moments (promised_of x) may.1 low)
    (λ ts is. told_dropped S n (saved n) s.moments ts drops is)) k)

-- ---- an attempt begins

mid_installs : (n p : ℕ) (b : Bool) (s : Scene) → has_installed n p (passing n (mid b n) s).moments ≡ has_installed n p s.moments
mid_installs n p true s = refl
mid_installs n p false s = refl

pub leads_go : (S : View) (c : Cluster) (n : ℕ) (told : Delivered) (v w : Nodes) (x : UpNode) (p members : ℕ) (b : Bool) (s : Scene) → installed_of x ≤ promised_of x
    → (has_installed n p s.moments ≡ true → p ≤ promised_of x) → MayChange c n told x (Leads p members) → (b ≡ true → NoCollect told) → Goes S n told v w None (Up x) s
    → Goes S n told v w None (Up (changed c n x (Leads p members))) (passing n (mid b n ++ last_lines c n x (Leads p members)) s)
leads_go S c n told v w x p members b s order low may calm k =
    let t : Scene = passing n (mid b n) s in
    let l : Goes S n told v w None (Up x) t = mid_goes S n told v w x s b calm k in
    let y : UpNode = changed c n x (Leads p members) in
    let own : coordinator p ≡ n = may.1 in
    let z : Entry = entry.Attempt (tried.Begun p members) in
    let u : Scene = telling z t in
    let drops : told_after S n (attempt p members) t.moments (told_tasks S n t.moments) ≡ Some [] =
    if_so (coordinator p == n) (Some []) (told_tasks S n t.moments) (same_so (coordinator p) n own) in
    subst (λ r. Goes S n told v w None (Up y) r) (sym (passing_append n (mid b n) (last_lines c n x (Leads p members)) s))
    (outputs_go S n told v w None (Up y) (unknown_lines n x.requests.waiting) u (unknown_mild n x.requests.waiting)
    (line_goes S n told v w None None (Up x) (Up y) t z refl (λ j ne is. ne (sym is ∙ own))
    (entered_up S u.moments n y (least (installed_of x) (promised_of x) p order may.0)
    (mid_installs n p b s ∙ unseen n p s.moments (promised_of x) may.0 low) refl (λ ts is. told_dropped S n (attempt p members) t.moments ts drops is)) l))

-- ---- an install

-- what holds of the run
pub record Placed (S : View) (c : Cluster) (n : ℕ) : Type 0 where
  pub fixed : Fixed S.setting.header c n
  pub paths : Paths S.setting c n

told_joined : (S : View) (n e : ℕ) (ms : List Moment) (ts : List told.Task) → told_tasks S n (installed n e ∷ ms) ≡ Some ts
    → Failed (list_any (leaves_open S n e ms) (all_to (length S.setting.header.devices))) (Some (joinings S.setting n e ms)) ts
told_joined S n e ms ts is =
    let k : Kept (leads n (installed n e ∷ ms)) (told_after S n (installed n e) ms (told_tasks S n ms)) ts =
    kept (leads n (installed n e ∷ ms)) (told_after S n (installed n e) ms (told_tasks S n ms)) ts is in
    failed (list_any (leaves_open S n e ms) (all_to (length S.setting.header.devices))) (Some (joinings S.setting n e ms)) ts
    (sym (if_so (n == n) (joined S n e ms) (told_tasks S n ms) (same_is n)) ∙ k.told)

any_off : (b : Bool) → (b ≡ true → ⊥) → b ≡ false
any_off true ban = absurd (ban refl)
any_off false ban = refl

all_three : (a b c : Bool) → a ≡ true → b ≡ true → c ≡ true → (a && b && c) ≡ true
all_three true true c f g k = k
all_three true false c f g k = absurd (no_truth g)
all_three false b c f g k = absurd (no_truth f)

-- it is known of each device that is not left open
known_of : (S : View) (n e held : ℕ) (ms : List Moment) → list_any (leaves_open S n e ms) (all_to (length S.setting.header.devices)) ≡ false
    → (S.alone ≡ false → (coordinator e == n) ≡ false → ShownAs S.setting n e held ms) → ShownAs S.setting n e held ms
known_of S n e held ms sure shown d ask = by_view S.alone refl
  where
    h : Header
    h = S.setting.header

    off : leaves_open S n e ms d ≡ false
    off =
        any_off (leaves_open S n e ms d)
        (λ on. no_truth (sym sure ∙ any_to (leaves_open S n e ms) (length h.devices) d ask.device.0 ask.device.1 on))

    unsure : is_unsure S.setting n e ms d ≡ true
    unsure =
        all_three (has (paths_of h d) n) (is_some (seizing_of h e d ms)) (is_open (validity h n d ms)) ask.path (ap is_some ask.seized) (ap is_open ask.stays)

    still : validity h n d (installed n e ∷ ms) ≡ Open
    still =
        if_so (n == n) (at_install h n (seizing_of h e d ms) (validity h n d ms)) (validity h n d ms) (same_is n)
        ∙ (ap (λ o. at_install h n o (validity h n d ms)) ask.seized
        ∙ (if_not (ask.found.seizer == n) Valid (if list_any (λ key. key == key_of h n) ask.found.keys then validity h n d ms else Lapsed) ask.other
        ∙ (if_so (list_any (λ key. key == key_of h n) ask.found.keys) (validity h n d ms) Lapsed ask.seen ∙ ask.stays)))

    stays : (coordinator e == n) ≡ true → stays_open S n e ms d ≡ true
    stays own =
        and_both (coordinator e == n) (has (paths_of h d) n && is_open (validity h n d (installed n e ∷ ms))) own
        (and_both (has (paths_of h d) n) (is_open (validity h n d (installed n e ∷ ms))) ask.path (ap is_open still))

    by_coordinator : (b : Bool) → (coordinator e == n) ≡ b → S.alone ≡ false → has (shown_valid n ms) d ≡ has held d
    by_coordinator false other besides = shown besides other d ask
    by_coordinator true own besides =
        absurd (no_truth (sym off ∙ (if_not S.alone (is_unsure S.setting n e ms d) (stays_open S n e ms d) besides ∙ stays own)))

    by_view : (b : Bool) → S.alone ≡ b → has (shown_valid n ms) d ≡ has held d
    by_view true lines = absurd (no_truth (sym off ∙ (if_so S.alone (is_unsure S.setting n e ms d) (stays_open S n e ms d) lines ∙ unsure)))
    by_view false besides = by_coordinator (coordinator e == n) refl besides

installed_so : (S : View) (c : Cluster) (n e held joined_set : ℕ) (told : Delivered) (v w : Nodes) (x y : UpNode) (ts : List Task) (rs : List Reading) (s : Scene) → Placed S c n
    → e ≡ session_of y → e ≡ installed_of y → session_of y ≡ session_of x → ReadSo S.setting.header s.moments e rs → ReadAgrees S.setting n e held joined_set s.moments rs
    → ((d : ℕ) → IsDevice S.setting.header d → Agrees (validity S.setting.header n d s.moments) (has held d))
    → (S.alone ≡ false → (coordinator e == n) ≡ false → ShownAs S.setting n e held s.moments) → ReadInOrder rs → ((d : ℕ) → told_in rs d ≡ seizing_of S.setting.header e d s.moments) → y.tasks ≡ joining_from c n e joined_set ts rs → NoJoins ts → Goes S n told v w None (Up x) s → Goes S n told v w None (Up y) (telling (entry.Node n (note.Installed e)) s)
installed_so S c n e held joined_set told v w x y ts rs s placed session here same reads agrees holds shown order seizings tasks plain k =
    line_goes S n told v w None None (Up x) (Up y) s (entry.Node n (note.Installed e)) refl (λ j ne is. ne (sym is)) (record {
      none = λ is. k.here.none (sym same ∙ is);
      fresh = λ some ne. absurd (ne (sym here ∙ session));
      done = λ some is.
          or_left ((n == n) && (e == session_of y)) (has_installed n (session_of y) s.moments)
          (and_both (n == n) (e == session_of y) (same_is n) (same_so e (session_of y) session));
      plain = λ ne. absurd (ne (sym here ∙ session));
      tells = tells_by (told_tasks S n (installed n e ∷ s.moments)) None y (λ us is.
          let f : Failed (list_any (leaves_open S n e s.moments) (all_to (length S.setting.header.devices))) (Some (joinings S.setting n e s.moments)) us = told_joined S n e s.moments us is in (
            (λ at.
                subst (λ z. Same (joins_in z) us) (sym tasks)
                (subst (λ z. Same (joins_in (joining_from c n e joined_set ts rs)) z) (same_some (joinings S.setting n e s.moments) us f.told)
                (joinings_same S.setting c n e held joined_set s.moments ts rs placed.paths placed.fixed.id reads agrees order
                (record { agrees = holds; known = known_of S n e held s.moments f.so shown }) seizings plain))),
            (λ ne. absurd (ne (sym here ∙ session))),
          ));
    }) k

pub counts_go : (S : View) (c : Cluster) (M : Memberships) (n : ℕ) (told : Delivered) (v w : Nodes) (disk : NodeRecord) (x : UpNode) (a : AttemptState) (q : Call) (r : NodeState)
    (i : Install) (b : Bool) (s : Scene) → Placed S c n → At c M n told disk x → disk ≡ record_of x → MayChange c n told x (Counts a q r i) → Brings S.setting.header s.moments i
    → InstallSo S.setting.header (passing n (mid b n) s).moments n r i → RecordAgrees S.setting.header n (passing n (mid b n) s).moments disk → coordinator a.plan.epoch ≡ n → (b ≡ true → NoCollect told) → Goes S n told v w None (Up x) s
    → Goes S n told v w None (Up (changed c n x (Counts a q r i))) (passing n (mid b n ++ last_lines c n x (Counts a q r i)) s)
counts_go S c M n told v w disk x a q r i b s placed at kept may brings so agrees leads calm k =
    let t : Scene = passing n (mid b n) s in
    let l : Goes S n told v w None (Up x) t = mid_goes S n told v w x s b calm k in
    let y : UpNode = changed c n x (Counts a q r i) in
    let gives : i ≡ install_in (turn a q).after =
    at_attempt c M n told disk x a (i ≡ install_in (turn a q).after) at may.0
    (λ z shows co. ((goes_by_call a q (may_be_called c told a q may.2) (chosen_reached a co.reached)).install i may.3).1) in
    let plan : (turn a q).after.plan ≡ a.plan = plan_stays a q (may_be_called c told a q may.2) in
    let epoch : i.epoch ≡ a.plan.epoch = ap (λ (z : Install). z.epoch) gives ∙ (install_epoch (turn a q).after ∙ ap (λ (z : Plan). z.epoch) plan) in
    let sight : Sees M n disk (state_of x.seat) = sees c M n disk x.attempt x.seat at.tied.0 in
    let own : a.plan.epoch ≡ session_of x = at_attempt c M n told disk x a (a.plan.epoch ≡ session_of x) at may.0 (λ z shows co. co.epoch ∙ (sym shows ∙ sight.session)) in
    let after : session_of y ≡ session_of x = session_after c n told x (Counts a q r i) may tt (λ p e. cc) in
    subst (λ z. Goes S n told v w None (Up y) z) (sym (passing_append n (mid b n) (last_lines c n x (Counts a q r i)) s))
    (installed_so S c n i.epoch r.saved.valid (installed_with r i).joined told v w x y [] i.readings t placed (epoch ∙ (own ∙ sym after)) refl after
    (mid_brings S.setting.header n i b s brings).reads
    (read_agrees S.setting n t.moments r i placed.fixed.many placed.fixed.few so)
    (λ d is. subst (λ z. Agrees (validity S.setting.header n d t.moments) (has z d)) (ap (λ (z : NodeRecord). z.valid) kept ∙ ap (λ z. (state_of z).saved.valid) may.1) (agrees d is))
    (λ besides other. absurd (no_truth (sym other ∙ same_so (coordinator i.epoch) n (ap coordinator epoch ∙ leads)))) so.order so.told refl tt l)

pub joins_go : (S : View) (c : Cluster) (n : ℕ) (told : Delivered) (v w : Nodes) (disk : NodeRecord) (x : UpNode) (r : NodeState) (i : Install) (b : Bool) (s : Scene) → Placed S c n
    → disk ≡ record_of x → MayChange c n told x (Installs r i) → Brings S.setting.header s.moments i → InstallSo S.setting.header (passing n (mid b n) s).moments n r i
    → RecordAgrees S.setting.header n (passing n (mid b n) s).moments disk
    → (S.alone ≡ false → (coordinator i.epoch == n) ≡ false → ShownAs S.setting n i.epoch r.saved.valid (passing n (mid b n) s).moments) → (b ≡ true → NoCollect told)
    → Goes S n told v w None (Up x) s
    → Goes S n told v w None (Up (changed c n x (Installs r i))) (passing n (mid b n ++ last_lines c n x (Installs r i)) s)
joins_go S c n told v w disk x r i b s placed kept may brings so agrees shown calm k =
    let t : Scene = passing n (mid b n) s in
    let l : Goes S n told v w None (Up x) t = mid_goes S n told v w x s b calm k in
    let y : UpNode = changed c n x (Installs r i) in
    let seat : state_of x.seat ≡ r = ap state_of may.0 in
    let at : i.epoch ≡ session_of x = sym may.3 ∙ ap (λ (z : NodeState). z.session) (sym seat) in
    let after : session_of y ≡ session_of x = session_after c n told x (Installs r i) may tt (λ p e. cc) in
    let other : installed_of x ≡ session_of x → ⊥ = λ is. may.4 (ap (λ (z : NodeState). z.saved.installed) (sym seat) ∙ (is ∙ sym at)) in
    subst (λ z. Goes S n told v w None (Up y) z) (sym (passing_append n (mid b n) (last_lines c n x (Installs r i)) s))
    (installed_so S c n i.epoch r.saved.valid (installed_with r i).joined told v w x y x.tasks i.readings t placed (at ∙ sym after) refl after
    (mid_brings S.setting.header n i b s brings).reads
    (read_agrees S.setting n t.moments r i placed.fixed.many placed.fixed.few so)
    (λ d is. subst (λ z. Agrees (validity S.setting.header n d t.moments) (has z d)) (ap (λ (z : NodeRecord). z.valid) kept ∙ ap (λ (z : NodeState). z.saved.valid) seat) (agrees d is))
    shown so.order so.told refl (l.here.plain other) l)
