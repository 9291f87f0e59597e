-- Each change, with its lines.
use Rattle.std.specs.Prelude.{Bool, List, None, Option, Some, [], false, length, true, ℕ, ◌&&◌, ◌++◌, ◌+◌, ◌<◌, ◌==◌, ◌∷◌, ◌≡◌, ◌≤◌, ◌⊎◌}
use Rattle.std.specs.List.{AllByRecursion, list_any}
use Rattle.std.proofs.Common.{ap, inl, inr, refl, subst, sym, ◌∙◌}
use Rattle.attempt_laws.proofs.Goes.{chosen_reached, goes_by_call}
use Rattle.attempt_laws.proofs.Stays.{plan_stays}
use Rattle.attempt_laws.specs.Asking.{numbers_of}
use Rattle.attempt_laws.specs.Staying.{IsBefore}
use Rattle.ccr_commit.specs.Entries.{all_committed, texts_of}
use Rattle.cl_base.specs.declared.header.Header.{Header}
use Rattle.cmm_attempt.specs.Attempts.{AttemptState, install_in}
use Rattle.cmm_attempt.specs.Calls.{Call, turn}
use Rattle.cmm_attempt.specs.Seizings.{held_set}
use Rattle.cmm_attempt.specs.declared.phase.Phase.TheVariants.{Installing}
use Rattle.cmm_attempt.specs.declared.plan.Plan.{Plan}
use Rattle.cmm_member.specs.Nodes.{NodeState}
use Rattle.cmm_member.specs.Records.{NodeRecord}
use Rattle.device_queue.specs.Queue.{after_answer}
use Rattle.history.specs.Member as member
use Rattle.history.specs.Moment.{Moment, Told}
use Rattle.history.specs.Seizing.{is_attempt}
use Rattle.history.specs.Setting.{coordinator}
use Rattle.history.specs.Trace.{installed}
use Rattle.membership_machine.specs.State.{Memberships}
use Rattle.node_model.specs.Attempts.{base_lines, starting_as}
use Rattle.node_model.specs.Devices.{answer_told}
use Rattle.node_model.specs.Seats.{record_of, session_of, state_of}
use Rattle.node_model.specs.declared.cluster.Cluster.{Cluster}
use Rattle.node_model.specs.declared.node.Node.TheVariants.{Up}
use Rattle.node_model.specs.declared.node.UpNode.{UpNode}
use Rattle.node_model.specs.declared.output.Output.{Output}
use Rattle.refinement.proofs.Attempts.{install_epoch, may_be_called}
use Rattle.refinement.specs.Doings.{Change, adopted_by, answered_so, changed, first_lines, last_lines, of_node, site}
use Rattle.refinement.specs.Doings.Change.{Acks, Admits, Commits, Counts, Distrusts, Installs, Leads, Prepares, Promises, Proposes, Sits, Starts}
use Rattle.refinement.specs.Guards.{MayChange, Says}
use Rattle.refinement.specs.Runs.{Nodes}
use Rattle.refinement.specs.Ties.{Delivered}
use Rattle.refinement.specs.Worlds.{AllFit}
use Rattle.run_history.proofs.Changes.{at_attempt, session_after}
use Rattle.run_history.proofs.Ups.{same_state}
use Rattle.run_history.proofs.Walk.{passing_append}
use Rattle.run_history.specs.Guards.{Hand}
use Rattle.run_history.specs.Scenes.{Scene, passing, telling}
use Rattle.status_report.specs.declared.device_entry.DeviceEntry.TheVariants as device_entry
use Rattle.status_report.specs.declared.entry.Entry.{Entry}
use Rattle.status_report.specs.declared.entry.Entry.TheVariants as entry
use Rattle.status_report.specs.declared.node_entry.NodeEntry.TheVariants as note
use Rattle.status_report.specs.declared.start_entry.StartEntry.TheVariants as start_entry
use Rattle.status_report.specs.declared.update_entry.UpdateEntry.TheVariants as update_entry
use Rattle.wire.specs.declared.message.Body.TheVariants as body
use Rattle.wire.specs.declared.message.Install.{Install}
use Rattle.run_seizings.proofs.Changes.{IsPromise, NoCollect, mid, session_low}
use Rattle.run_seizings.proofs.Progress.{no_truth, or_left, or_right, same_is}
use Rattle.run_seizings.proofs.Promising.{ChangeMay}
use Rattle.run_seizings.proofs.Stays.{is_installed_stays}
use Rattle.run_seizings.proofs.Turns.{Keeps}
use Rattle.run_seizings.specs.Seized.{IsInstalled, has_installed}
use Rattle.run_devices.proofs.readings.Acts.{own_command, taken_up, up_same}
use Rattle.run_devices.proofs.readings.Unseen.{line_unseen}
use Rattle.run_devices.proofs.readings.Calls.{Was, attempt_of, call_keeps, call_reads}
use Rattle.run_devices.proofs.readings.Changes.{adopted_can, bases_can, finished, fit_parts, installs_go, mid_goes, simple}
use Rattle.run_devices.proofs.readings.Goes.{CanPass, Goes, can_append, line_goes, mild_goes}
use Rattle.run_devices.proofs.readings.Promising.{After, Rises, Step, and_both, leads_go, promises_go, same_so}
use Rattle.run_devices.proofs.readings.Results.{Rests}
use Rattle.run_devices.proofs.readings.Stays.{all_read_stay}
use Rattle.run_devices.specs.readings.Laws.{HeldAsRead}
use Rattle.run_devices.specs.readings.Readings.{AreInOrder, AttemptIn, AttemptSo, StandsSo}
use Rattle.run_devices.specs.readings.Sites.{InHand}

-- ---- installs

counts_go : (h : Header) (c : Cluster) (M : Memberships) (n : ℕ) (told : Delivered) (v w : Nodes) (disk : NodeRecord) (x : UpNode) (a : AttemptState) (q : Call)
    (r : NodeState) (i : Install) (g : Hand) (b : Bool) (s : Scene)
    → Step h c M n told disk x → MayChange c n told x (Counts a q r i) → Rises c n disk x (Counts a q r i) → ChangeMay h x (Counts a q r i)
    → (b ≡ true → NoCollect told) → Goes h n told v w (site (Up x) disk) g s
    → Goes h n told v w (After c n x (Counts a q r i)) g (passing n (mid b n ++ last_lines c n x (Counts a q r i)) s)
counts_go h c M n told v w disk x a q r i g b s step may rises guard calm k =
    let t : Scene = passing n (mid b n) s in
    let l : Goes h n told v w (site (Up x) disk) g t = mid_goes h n told v w (site (Up x) disk) g s b calm k in
    let old : AttemptSo h t.moments n (session_of x) a = attempt_of h t.moments n (session_of x) x.attempt a may.0 l.here.up.attempt in
    let gives : ((turn a q).after.phase ≡ Installing) × (i ≡ install_in (turn a q).after) =
    at_attempt c M n told disk x a (((turn a q).after.phase ≡ Installing) × (i ≡ install_in (turn a q).after)) step.at may.0
    (λ z shows co. (goes_by_call a q (may_be_called c told a q may.2) (chosen_reached a co.reached)).install i may.3) in
    let plan : (turn a q).after.plan ≡ a.plan = plan_stays a q (may_be_called c told a q may.2) in
    let epoch : i.epoch ≡ a.plan.epoch = ap (λ (z : Install). z.epoch) gives.1 ∙ (install_epoch (turn a q).after ∙ ap (λ (z : Plan). z.epoch) plan) in
    let at : i.epoch ≡ session_of x = epoch ∙ old.epoch in
    let some : 0 < session_of x = subst (λ e. 0 < e) old.epoch old.some in
    subst (λ z. Goes h n told v w (After c n x (Counts a q r i)) g z) (sym (passing_append n (mid b n) (last_lines c n x (Counts a q r i)) s))
    (installs_go h n i.epoch told v w x (changed c n x (Counts a q r i)) disk (record_of (changed c n x (Counts a q r i))) g t rises
    (subst (λ e. e ≤ disk.promised) (sym at) (session_low c M n told disk x step.at some)) (session_after c n told x (Counts a q r i) may tt (λ p e. cc)) at
    (λ up hand.
    let at_first : AttemptSo h t.moments n (session_of x) a = attempt_of h t.moments n (session_of x) x.attempt a may.0 up.attempt in
    subst (λ e. IsInstalled (installed n i.epoch ∷ t.moments) e) (sym epoch)
    (at_first.some, at_first.of.0, own_line t.moments a.plan.epoch i.epoch at_first.own epoch))
    (λ up hand.
    let before : AttemptSo h t.moments n (session_of x) a = attempt_of h t.moments n (session_of x) x.attempt a may.0 up.attempt in
    let keeps : Keeps (λ d. Unit {0}) a (turn a q).after = call_keeps c told a q may.2 in
    subst (λ z. AttemptSo h (installed n i.epoch ∷ t.moments) n z (turn a q).after) (sym (session_after c n told x (Counts a q r i) may tt (λ p e. cc)))
    (moved t.moments (turn a q).after before keeps
    (call_reads h c t.moments n told x a q (at_attempt c M n told disk x a (a.plan.coordinator ≡ n) step.at may.0 (λ z shows co. co.coordinator)) may.2 guard hand up before)
    gives.0 epoch)) l)
  where
    own_line : (ms : List Moment) (e f : ℕ) → coordinator e ≡ n → f ≡ e → has_installed (coordinator e) e (installed n f ∷ ms) ≡ true
    own_line ms e f own same = or_left ((n == coordinator e) && (f == e)) (has_installed (coordinator e) e ms)
        (and_both (n == coordinator e) (f == e) (same_so n (coordinator e) (sym own)) (same_so f e same))

    moved : (ms : List Moment) (z : AttemptState) → AttemptSo h ms n (session_of x) a → Keeps (λ d. Unit {0}) a z → Rests (Was h ms a.plan.epoch) z
        → z.phase ≡ Installing → i.epoch ≡ a.plan.epoch
        → AttemptSo h (installed n i.epoch ∷ ms) n (session_of x) z
    moved ms z before keeps rests phase at =
        let epoch : z.plan.epoch ≡ a.plan.epoch = ap (λ (y : Plan). y.epoch) keeps.0 in
        record {
          of = (
            ap (λ e. list_any (is_attempt e) ms) epoch ∙ before.of.0,
            ap (λ e. member.members_of e ms) epoch
                ∙ (before.of.1 ∙ ap (λ (y : Plan). y.members) (sym keeps.0)),
          );
          some = subst (λ e. 0 < e) (sym epoch) before.some;
          last = before.last ∙ ap Some (sym epoch);
          own = ap coordinator epoch ∙ before.own;
          epoch = epoch ∙ before.epoch;
          before = λ is. absurd (subst IsBefore phase is);
          installs = λ is. or_left ((n == n) && (i.epoch == z.plan.epoch)) (has_installed n z.plan.epoch ms)
              (and_both (n == n) (i.epoch == z.plan.epoch) (same_is n) (same_so i.epoch z.plan.epoch (at ∙ sym epoch)));
          read = all_read_stay h ms (installed n i.epoch) z.plan.epoch z.devices
              (subst (λ e. AllByRecursion (HeldAsRead h ms e) z.devices) (sym epoch) rests.0);
          apart = rests.1;
          attached = subst (λ (y : Plan). AreInOrder (numbers_of y.attached)) (sym keeps.0) before.attached;
        }

install_told : (h : Header) (ms : List Moment) (n : ℕ) (told : Delivered) (i : Install) → Says (λ b. b ≡ body.Install i) told → InHand h ms n told
    → IsInstalled ms i.epoch
install_told h ms n None i says hand = absurd says
install_told h ms n (Some d) i says hand = (subst (λ b. StandsSo h ms d.0 b) says hand.stands).0

other_installs : (h : Header) (ms : List Moment) (n e q z : ℕ) (o : Option AttemptState) → IsInstalled ms e → e ≡ q → z ≡ q → AttemptIn h ms n q o
    → AttemptIn h (installed n e ∷ ms) n z o
other_installs h ms n e q z None is at same so = tt
other_installs h ms n e q z (Some a) is at same so =
    let epoch : a.plan.epoch ≡ e = so.epoch ∙ sym at in
    let done : has_installed n a.plan.epoch ms ≡ true = subst (λ j. has_installed j a.plan.epoch ms ≡ true) so.own
    (subst (λ f. has_installed (coordinator f) f ms ≡ true) (sym epoch) is.2) in
    record {
      of = so.of;
      some = so.some;
      last = so.last;
      own = so.own;
      epoch = so.epoch ∙ sym same;
      before = λ is_before. absurd (no_truth (sym (so.before is_before) ∙ done));
      installs = λ phase. or_right ((n == n) && (e == a.plan.epoch)) (has_installed n a.plan.epoch ms) done;
      read = all_read_stay h ms (installed n e) a.plan.epoch a.devices so.read;
      apart = so.apart;
      attached = so.attached;
    }

joins_go : (h : Header) (c : Cluster) (M : Memberships) (n : ℕ) (told : Delivered) (v w : Nodes) (disk : NodeRecord) (x : UpNode) (r : NodeState) (i : Install)
    (g : Hand) (b : Bool) (s : Scene) → Step h c M n told disk x
    → MayChange c n told x (Installs r i) → Rises c n disk x (Installs r i) → (b ≡ true → NoCollect told) → Goes h n told v w (site (Up x) disk) g s
    → Goes h n told v w (After c n x (Installs r i)) g (passing n (mid b n ++ last_lines c n x (Installs r i)) s)
joins_go h c M n told v w disk x r i g b s step may rises calm k =
    let t : Scene = passing n (mid b n) s in
    let l : Goes h n told v w (site (Up x) disk) g t = mid_goes h n told v w (site (Up x) disk) g s b calm k in
    let at : i.epoch ≡ session_of x = sym may.3 ∙ ap (λ z. (state_of z).session) (sym may.0) in
    subst (λ z. Goes h n told v w (After c n x (Installs r i)) g z) (sym (passing_append n (mid b n) (last_lines c n x (Installs r i)) s))
    (installs_go h n i.epoch told v w x (changed c n x (Installs r i)) disk (record_of (changed c n x (Installs r i))) g t rises
    (subst (λ e. e ≤ disk.promised) (sym at) (session_low c M n told disk x step.at (subst (λ e. 0 < e) at may.2)))
    (session_after c n told x (Installs r i) may tt (λ p e. cc)) at
    (λ up hand. is_installed_stays t.moments (installed n i.epoch) i.epoch (install_told h t.moments n told i may.1 hand))
    (λ up hand. other_installs h t.moments n i.epoch (session_of x) (session_of (changed c n x (Installs r i))) x.attempt
    (install_told h t.moments n told i may.1 hand) at (session_after c n told x (Installs r i) may tt (λ p e. cc)) up.attempt) l)

-- ---- a start

starts_go : (h : Header) (c : Cluster) (M : Memberships) (n : ℕ) (told : Delivered) (v w : Nodes) (disk : NodeRecord) (x : UpNode) (a : AttemptState) (q : Call)
    (r : NodeState) (g : Hand) (b : Bool) (s : Scene) → Step h c M n told disk x
    → MayChange c n told x (Starts a q r) → Rises c n disk x (Starts a q r) → (b ≡ true → NoCollect told) → AllFit n (last_lines c n x (Starts a q r))
    → Goes h n told v w (site (Up x) disk) g s
    → Goes h n told v w (After c n x (Starts a q r)) g (passing n (mid b n ++ last_lines c n x (Starts a q r)) s)
starts_go h c M n told v w disk x a q r g b s step may rises calm fit k =
    let y : AttemptState = (turn a q).after in
    let t : Scene = passing n (mid b n) s in
    let l : Goes h n told v w (site (Up x) disk) g t = mid_goes h n told v w (site (Up x) disk) g s b calm k in
    let count : ℕ = length (all_committed r.saved.entries).committed in
    let u : Scene = telling (entry.Start (start_entry.Started y.plan.epoch y.plan.members (held_set y.devices) count)) t in
    let bases : List Output = base_lines y.plan.epoch 0 (all_committed r.saved.entries).committed in
    let rest : List Output = bases ++ (adopted_by c y (starting_as c n x y r) ++ of_node n (note.Member y.plan.epoch) ∷ []) in
    subst (λ m. Goes h n told v w (After c n x (Starts a q r)) g m) (sym (passing_append n (mid b n) (last_lines c n x (Starts a q r)) s))
    (finished h c n told v w x (changed c n x (Starts a q r)) disk (record_of (changed c n x (Starts a q r))) g rest u rises fit
    (can_append h u.moments n bases (adopted_by c y (starting_as c n x y r) ++ of_node n (note.Member y.plan.epoch) ∷ [])
    (bases_can h u.moments n y.plan.epoch 0 (all_committed r.saved.entries).committed)
    (can_append h u.moments n (adopted_by c y (starting_as c n x y r)) (of_node n (note.Member y.plan.epoch) ∷ [])
    (adopted_can h u.moments n c y (starting_as c n x y r)) (tt, tt)))
    (λ ms hand up. up_same h ms n (record x { attempt = None }) (changed c n x (Starts a q r)) (session_after c n told x (Starts a q r) may tt (λ p e. cc)) refl refl
    (record { session = up.session; outside = up.outside; tasks = up.tasks; read = up.read; attempt = tt }))
    (mild_goes h n told v w (site (Up x) disk) g t (entry.Start (start_entry.Started y.plan.epoch y.plan.members (held_set y.devices) count)) tt l))

-- ---- each change

pub change_goes : (h : Header) (c : Cluster) (M : Memberships) (n : ℕ) (told : Delivered) (v w : Nodes) (disk : NodeRecord) (x : UpNode) (ch : Change)
    (g : Hand) (b : Bool) (s : Scene) → Step h c M n told disk x
    → MayChange c n told x ch → Rises c n disk x ch → ChangeMay h x ch → (b ≡ true → (IsPromise ch) ⊎ NoCollect told) → (IsPromise ch → b ≡ true)
    → ((p members : ℕ) → ch ≡ Leads p members → list_any (is_attempt p) (passing n (mid b n) s).moments ≡ false)
    → AllFit n (first_lines n ch ++ (mid b n ++ last_lines c n x ch))
    → Goes h n told v w (site (Up x) disk) g s → Goes h n told v w (After c n x ch) g (passing n (first_lines n ch ++ (mid b n ++ last_lines c n x ch)) s)
change_goes h c M n told v w disk x ch g b s step may rises guard calm saves new fit k = by_change ch may rises guard calm saves new fit
  where
    last_fit : (os : List Output) → AllFit n (mid b n ++ os) → AllFit n os
    last_fit os all = (fit_parts n (mid b n) os all).1

    none : (ch : Change) → (IsPromise ch → ⊥) → (b ≡ true → (IsPromise ch) ⊎ NoCollect told) → b ≡ true → NoCollect told
    none ch other f is = by_cases (f is)
      where
        by_cases : (IsPromise ch) ⊎ NoCollect told → NoCollect told
        by_cases (inl promise) = absurd (other promise)
        by_cases (inr calm) = calm

    plainly : (ch : Change) (os : List Output) → Rises c n disk x ch → (b ≡ true → NoCollect told) → AllFit n os
        → ((before : List Moment) → CanPass h before n os) → session_of (changed c n x ch) ≡ session_of x
        → (changed c n x ch).tasks ≡ x.tasks → (changed c n x ch).attempt ≡ x.attempt → Goes h n told v w (After c n x ch) g (passing n (mid b n ++ os) s)
    plainly ch os up calm all can session tasks tries =
        simple h c n told v w x (changed c n x ch) disk (record_of (changed c n x ch)) g b os s up calm all can session tasks (inl tries) k

    by_change : (ch : Change) → MayChange c n told x ch → Rises c n disk x ch → ChangeMay h x ch → (b ≡ true → (IsPromise ch) ⊎ NoCollect told)
        → (IsPromise ch → b ≡ true)
        → ((p members : ℕ) → ch ≡ Leads p members → list_any (is_attempt p) (passing n (mid b n) s).moments ≡ false)
        → AllFit n (first_lines n ch ++ (mid b n ++ last_lines c n x ch))
        → Goes h n told v w (After c n x ch) g (passing n (first_lines n ch ++ (mid b n ++ last_lines c n x ch)) s)
    by_change (Promises p) m r e q i f all =
        subst (λ z. Goes h n told v w (After c n x (Promises p)) g (passing n (mid z n ++ last_lines c n x (Promises p)) s)) (sym (i tt))
        (promises_go h c M n told v w disk x p g s step m r (last_fit (last_lines c n x (Promises p)) all) k)
    by_change (Leads p members) m r e q i f all =
        leads_go h c M n told v w disk x p members g b s step m r (none (Leads p members) (λ z. z) q) (last_fit (last_lines c n x (Leads p members)) all)
        (f p members refl) k
    by_change (Counts a j y z) m r e q i f all = counts_go h c M n told v w disk x a j y z g b s step m r e (none (Counts a j y z) (λ z. z) q) k
    by_change (Installs y z) m r e q i f all = joins_go h c M n told v w disk x y z g b s step m r (none (Installs y z) (λ z. z) q) k
    by_change (Starts a j y) m r e q i f all =
        starts_go h c M n told v w disk x a j y g b s step m r (none (Starts a j y) (λ z. z) q) (last_fit (last_lines c n x (Starts a j y)) all) k
    by_change (Sits y p) m r e q i f all =
        plainly (Sits y p) (last_lines c n x (Sits y p)) r (none (Sits y p) (λ z. z) q) (last_fit (last_lines c n x (Sits y p)) all) (λ before. (tt, tt))
        (session_after c n told x (Sits y p) m tt (λ p e. cc)) refl refl
    by_change (Distrusts d) m r e q i f all =
        plainly (Distrusts d) [] r (none (Distrusts d) (λ z. z) q) tt (λ before. tt) (session_after c n told x (Distrusts d) m tt (λ p e. cc)) refl refl
    by_change (Admits on command a d) m r e q i f all =
        let z : Entry = entry.Device (device_entry.Command n on command (answer_told a)) in
        let y : UpNode = answered_so x a in
        let l : Goes h n told v w (site (Up y) disk) g (telling z s) =
        line_goes h n told v w (site (Up x) disk) (site (Up y) disk) g s z tt (λ j ne. own_command j n command ne) tt
        (record {
          low = k.here.low;
          first = λ q is. is_installed_stays s.moments (Told z) q (k.here.first q is);
          unseen = λ e d above. line_unseen h s.moments n on e d disk.promised x command (answer_told a) k.here.up (session_low c M n told disk x step.at) above
              (k.here.unseen e d above);
          up = up_same h (Told z ∷ s.moments) n
              (record x { tasks = after_answer x.tasks a }) y refl refl refl (taken_up h s.moments n on x command a e k.here.up);
        }) k in
        simple h c n told v w y (changed c n x (Admits on command a d)) disk (record_of (changed c n x (Admits on command a d))) g b [] (telling z s) r
        (none (Admits on command a d) (λ z. z) q) tt (λ before. tt)
        (ap (λ (z : NodeState). z.session) (same_state x.seat _)) refl (inl refl) l
    by_change (Proposes y p text) m r e q i f all =
        let z : Entry = entry.Update (update_entry.Proposed y.session (length (texts_of y.saved.entries) + 1) text) in
        simple h c n told v w x (changed c n x (Proposes y p text)) disk (record_of (changed c n x (Proposes y p text))) g b [] (telling z s) r
        (none (Proposes y p text) (λ z. z) q) tt (λ before. tt)
        (session_after c n told x (Proposes y p text) m tt (λ p e. cc)) refl (inl refl) (mild_goes h n told v w (site (Up x) disk) g s z tt k)
    by_change (Acks y p w' left text) m r e q i f all =
        plainly (Acks y p w' left text) (last_lines c n x (Acks y p w' left text)) r (none (Acks y p w' left text) (λ z. z) q)
        (last_fit (last_lines c n x (Acks y p w' left text)) all) (λ before. (tt, tt))
        (session_after c n told x (Acks y p w' left text) m tt (λ p e. cc)) refl refl
    by_change (Prepares y text) m r e q i f all =
        plainly (Prepares y text) [] r (none (Prepares y text) (λ z. z) q) tt (λ before. tt) (session_after c n told x (Prepares y text) m tt (λ p e. cc)) refl refl
    by_change (Commits y) m r e q i f all =
        plainly (Commits y) [] r (none (Commits y) (λ z. z) q) tt (λ before. tt) (session_after c n told x (Commits y) m tt (λ p e. cc)) refl refl
