-- Each small step of a node: what it has installed is no older than the lines say, its Promises tell that, and who is excluded was left out.
use Rattle.std.specs.Prelude.{ℕ, ◌<◌, ◌≡◌, ◌≢◌, ◌≤◌, ◌==◌, ◌++◌, Bool, true, false, List, [], ◌∷◌, if◌then◌else◌}
use Rattle.std.proofs.Common.{refl, sym, subst, ◌∙◌, arith}
use Rattle.cmm_attempt.proofs.Basics.{false_true}
use Rattle.cmm_attempt.specs.Attempts.{AttemptState}
use Rattle.cmm_attempt.specs.declared.step.AttemptEnd.{AttemptEnd}
use Rattle.cmm_attempt.specs.declared.step.AttemptEnd.TheVariants as end
use Rattle.cmm_member.specs.Records.{NodeRecord}
use Rattle.history.specs.Contact.{AttemptsDiffer}
use Rattle.history.specs.Member.{last_installed}
use Rattle.history.specs.Moment.{Moment, Told}
use Rattle.history.specs.Trace.{installed, saved}
use Rattle.membership_machine.specs.Growth.{Grows as MachineGrows}
use Rattle.membership_machine.specs.Invariant.{Holds}
use Rattle.membership_machine.specs.State.{Memberships}
use Rattle.node_model.specs.Attempts.{ended_entry}
use Rattle.node_model.specs.Seats.{record_of}
use Rattle.node_model.specs.declared.cluster.Cluster.{Cluster}
use Rattle.node_model.specs.declared.node.Node.{Node}
use Rattle.node_model.specs.declared.node.Node.TheVariants.{Down, Up}
use Rattle.node_model.specs.declared.node.UpNode.{UpNode}
use Rattle.node_model.specs.declared.output.Output.{Output}
use Rattle.refinement.specs.Doings.{Act, Change, Doing, Site, acted, changed, effect, first_lines, gives, gone_line, of_node, said, saved_lines, site}
use Rattle.refinement.specs.Doings.Act.{Accepts, Dates, Ends, Gives, Goes_on, Hears, Makes, Minds, Notes as Notes_prepared, Queues, Spreads, Stores, Takes, Ticks, Waits, Works, Writes}
use Rattle.refinement.specs.Doings.Change.{Acks, Admits, Commits, Counts, Distrusts, Installs, Leads, Prepares, Promises, Proposes, Sits, Starts}
use Rattle.refinement.specs.Doings.Doing.{Comes_up, Does, Forgets, Goes_down, Loses, Saves}
use Rattle.refinement.specs.Guards.{May, MayAct, MayChange, MayWrite}
use Rattle.refinement.specs.Runs.{Nodes}
use Rattle.refinement.specs.Ties.{Delivered, SiteTied, setting_of}
use Rattle.run_attempts.proofs.Configured.{disk_own}
use Rattle.run_attempts.proofs.Tried.{Grows, passing_grows}
use Rattle.run_outcomes.specs.counts.Ends.{ActFits, DoingFits, Last}
use Rattle.run_outcomes.proofs.counts.Ended.{tied_of}
use Rattle.run_history.specs.Marks.{ActSo, DoingSo}
use Rattle.run_history.specs.Noted.{Notes}
use Rattle.run_history.specs.Scenes.{Scene, passing, posting}
use Rattle.run_messages.specs.Outputs.{AreGood}
use Rattle.run_messages.specs.records.Answers.{ActTold, DoingTold}
use Rattle.run_messages.specs.records.Kept.{Goes}
use Rattle.status_report.specs.declared.entry.Entry.TheVariants as entry
use Rattle.status_report.specs.declared.node_entry.NodeEntry.TheVariants as note
use Rattle.wire.specs.declared.message.Body.{Body}
use Rattle.wire.specs.declared.message.Body.TheVariants as body
use Rattle.wire.specs.declared.message.Message.{Message}
use Rattle.run_outcomes.specs.exclusions.Sites.{AllJudged, AttemptIn, BodySo, HandSo, IsTold, Judged, LastTied, NodeIn, SiteSo}
use Rattle.run_outcomes.proofs.exclusions.Changes.{act_attempt, change_attempt, change_told}
use Rattle.run_outcomes.proofs.exclusions.Excluded.{excluded_so, tied_installed}
use Rattle.run_outcomes.proofs.exclusions.Plain.{ArePlain, IsBare, IsMild, gone_plain, said_plain, saved_plain}
use Rattle.run_outcomes.proofs.exclusions.Rising.{below_counted, below_installed}
use Rattle.run_outcomes.proofs.exclusions.Told.{attempt_grows, node_grows, passing_judged, passing_last, posting_judged, posting_last, told_grows}

-- what is so where node n comes to this site, and the lines to these
pub record Went (n : ℕ) (x : Site) (before after : List Moment) : Type 0 where
  pub judged : AllJudged after
  pub site_so : SiteSo after n x
  pub others : (k : ℕ) → k ≢ n → last_installed k after ≡ last_installed k before

-- what is known of the node before the step
pub record Stands (c : Cluster) (M : Memberships) (n : ℕ) (told : Delivered) (v : Nodes) (x : Site) (last : Last) (s : Scene) : Type 0 where
  pub holds : Holds (setting_of c) M
  pub tied : SiteTied c M n x
  pub latest : LastTied M last
  pub differ : AttemptsDiffer s.moments
  pub notes : Notes s.moments n x
  pub goes : Goes n told v M x s
  pub hand : HandSo s.moments told
  pub judged : AllJudged s.moments
  pub here : SiteSo s.moments n x

most : (a b k : ℕ) → a ≤ b → b ≤ k → a ≤ k
most a b k h i = omega (arith, h, i)

-- what the disk has installed only grows
disk_grows : (c : Cluster) (M N : Memberships) (n : ℕ) (x y : Site) → MachineGrows M N → SiteTied c M n x → SiteTied c N n y → x.disk.installed ≤ y.disk.installed
disk_grows c M N n x y g h k =
    subst (λ a. a ≤ y.disk.installed) (sym (tied_installed c M n x.disk x.node h)) (subst (λ b. (M.node n).saved.installed ≤ b) (sym (tied_installed c N n y.disk y.node k)) (g.node n).installed)

-- ---- where nothing is installed, and nobody is excluded

plain_went : (c : Cluster) (M N : Memberships) (n : ℕ) (told : Delivered) (v : Nodes) (x y : Site) (last : Last) (os : List Output) (s : Scene) → Stands c M n told v x last s → MachineGrows M N → SiteTied c N n y → AreGood n os → ArePlain os
    → AttemptsDiffer (passing n os s).moments → IsTold s.moments n y.disk.installed y.disk.members → NodeIn s.moments y.node → Went n y s.moments (passing n os s).moments
plain_went c M N n told v x y last os s h g tied good plain differ disk node =
    let grown : Grows s.moments (passing n os s).moments = (passing_grows n os s differ).1 in
    record {
      judged = passing_judged n os s good plain h.judged;
      site_so = record {
        last = subst (λ k. k ≤ y.disk.installed) (sym (passing_last n n os s plain)) (most (last_installed n s.moments) x.disk.installed y.disk.installed h.here.last (disk_grows c M N n x y g h.tied tied));
        disk = told_grows s.moments (passing n os s).moments n y.disk.installed y.disk.members grown disk;
        node = node_grows s.moments (passing n os s).moments y.node grown node;
      };
      others = λ k ne. passing_last k n os s plain;
    }

-- ---- a Promise is sent

promise_so : (ms : List Moment) (n : ℕ) (x : UpNode) (b : Body) → last_installed n ms ≤ (record_of x).installed → IsTold ms n (record_of x).installed (record_of x).members → MayWrite x b → BodySo ms n b
promise_so ms n x (body.Promise p newest members valid flagged committed pending) last disk may = subst (BodySo ms n) (sym may.2) (last, disk)
promise_so ms n x _ last disk may = tt

writes_went : (c : Cluster) (M N : Memberships) (n : ℕ) (told : Delivered) (v : Nodes) (x : UpNode) (disk : NodeRecord) (last : Last) (to : ℕ) (b : Body) (s : Scene) → Stands c M n told v (site (Up x) disk) last s
    → AreGood n (said c n x (Writes to b)) → AttemptsDiffer (passing n (said c n x (Writes to b)) s).moments → MayWrite x b → Went n (site (Up x) disk) s.moments (passing n (said c n x (Writes to b)) s).moments
writes_went c M N n told v x disk last to b s h good differ may =
    let m : Message = record { sender = n; body = b } in
    let t : Scene = posting n to m s in
    let grown : Grows s.moments t.moments = (passing_grows n (said c n x (Writes to b)) s differ).1 in
    let own : disk ≡ record_of x = disk_own c M n disk x h.tied in
    record {
      judged =
          posting_judged n to b s good.0
          (promise_so s.moments n x b (subst (λ (r : NodeRecord). last_installed n s.moments ≤ r.installed) own h.here.last) (subst (λ (r : NodeRecord). IsTold s.moments n r.installed r.members) own h.here.disk) may) h.judged;
      site_so = record {
        last = subst (λ k. k ≤ disk.installed) (sym (posting_last n n to m s)) h.here.last;
        disk = told_grows s.moments t.moments n disk.installed disk.members grown h.here.disk;
        node = attempt_grows s.moments t.moments x.attempt grown h.here.node;
      };
      others = λ k ne. posting_last k n to m s;
    }

-- ---- an attempt ends

ended_judged : (c : Cluster) (M : Memberships) (n : ℕ) (told : Delivered) (v : Nodes) (x : UpNode) (disk : NodeRecord) (a : AttemptState) (why : AttemptEnd) (last : Last) (s : Scene) → Stands c M n told v (site (Up x) disk) last s → ActFits last x (Ends a why)
    → Judged s.moments (Told (entry.Attempt (ended_entry a.plan.epoch why)))
ended_judged c M n told v x disk a (end.Excluded m) last s h fits = record { says = tt; excluded = excluded_so c M n told v x disk a m last s h.holds h.tied fits.0 h.latest fits.1 h.differ h.notes h.goes h.judged h.here; rises = tt }
ended_judged c M n told v x disk a (end.Votes have need lacking) last s h fits = record { says = tt; excluded = tt; rises = tt }
ended_judged c M n told v x disk a (end.Superseded q) last s h fits = record { says = tt; excluded = tt; rises = tt }
ended_judged c M n told v x disk a (end.Silent m) last s h fits = record { says = tt; excluded = tt; rises = tt }
ended_judged c M n told v x disk a (end.Foreign m) last s h fits = record { says = tt; excluded = tt; rises = tt }

ended_last : (k e : ℕ) (why : AttemptEnd) (ms : List Moment) → last_installed k (Told (entry.Attempt (ended_entry e why)) ∷ ms) ≡ last_installed k ms
ended_last k e (end.Excluded m) ms = refl
ended_last k e (end.Votes have need lacking) ms = refl
ended_last k e (end.Superseded q) ms = refl
ended_last k e (end.Silent m) ms = refl
ended_last k e (end.Foreign m) ms = refl

ends_went : (c : Cluster) (M : Memberships) (n : ℕ) (told : Delivered) (v : Nodes) (x : UpNode) (disk : NodeRecord) (a : AttemptState) (why : AttemptEnd) (last : Last) (s : Scene) → Stands c M n told v (site (Up x) disk) last s → ActFits last x (Ends a why)
    → AttemptsDiffer (passing n (said c n x (Ends a why)) s).moments → Went n (site (Up (acted c n x (Ends a why))) disk) s.moments (passing n (said c n x (Ends a why)) s).moments
ends_went c M n told v x disk a why last s h fits differ =
    let ms : List Moment = Told (entry.Attempt (ended_entry a.plan.epoch why)) ∷ s.moments in
    let grown : Grows s.moments ms = (passing_grows n (said c n x (Ends a why)) s differ).1 in
    record {
      judged = (ended_judged c M n told v x disk a why last s h fits, h.judged);
      site_so = record {
        last = subst (λ k. k ≤ disk.installed) (sym (ended_last n a.plan.epoch why s.moments)) h.here.last;
        disk = told_grows s.moments ms n disk.installed disk.members grown h.here.disk;
        node = tt;
      };
      others = λ k ne. ended_last k a.plan.epoch why s.moments;
    }

-- ---- acts

mild_went : (c : Cluster) (M N : Memberships) (n : ℕ) (told : Delivered) (v : Nodes) (x : UpNode) (disk : NodeRecord) (a : Act) (last : Last) (s : Scene) → Stands c M n told v (site (Up x) disk) last s → MachineGrows M N → SiteTied c N n (site (Up (acted c n x a)) disk)
    → AreGood n (said c n x a) → AttemptsDiffer (passing n (said c n x a) s).moments → MayAct c n told x a → IsMild a → ActSo a → ActTold told x a → Went n (site (Up (acted c n x a)) disk) s.moments (passing n (said c n x a) s).moments
mild_went c M N n told v x disk a last s h g tied good differ may mild so tells =
    let own : disk ≡ record_of x = disk_own c M n disk x h.tied in
    plain_went c M N n told v (site (Up x) disk) (site (Up (acted c n x a)) disk) last (said c n x a) s h g tied good (said_plain c n told x a mild so tells may) differ h.here.disk
    (act_attempt c n told s.moments x a may h.hand (subst (λ (r : NodeRecord). IsTold s.moments n r.installed r.members) own h.here.disk) h.here.node)

act_went : (c : Cluster) (M N : Memberships) (n : ℕ) (told : Delivered) (v : Nodes) (x : UpNode) (disk : NodeRecord) (a : Act) (last : Last) (s : Scene) → Stands c M n told v (site (Up x) disk) last s → MachineGrows M N → SiteTied c N n (site (Up (acted c n x a)) disk)
    → AreGood n (said c n x a) → AttemptsDiffer (passing n (said c n x a) s).moments → MayAct c n told x a → ActFits last x a → ActSo a → ActTold told x a → Went n (site (Up (acted c n x a)) disk) s.moments (passing n (said c n x a) s).moments
act_went c M N n told v x disk (Ends a why) last s h g tied good differ may fits so tells = ends_went c M n told v x disk a why last s h fits differ
act_went c M N n told v x disk (Writes to b) last s h g tied good differ may fits so tells = writes_went c M N n told v x disk last to b s h good differ may
act_went c M N n told v x disk (Hears from b) last s h g tied good differ may fits so tells = mild_went c M N n told v x disk (Hears from b) last s h g tied good differ may tt so tells
act_went c M N n told v x disk Ticks last s h g tied good differ may fits so tells = mild_went c M N n told v x disk Ticks last s h g tied good differ may tt so tells
act_went c M N n told v x disk Waits last s h g tied good differ may fits so tells = mild_went c M N n told v x disk Waits last s h g tied good differ may tt so tells
act_went c M N n told v x disk (Goes_on a k) last s h g tied good differ may fits so tells = mild_went c M N n told v x disk (Goes_on a k) last s h g tied good differ may tt so tells
act_went c M N n told v x disk (Queues a d kind) last s h g tied good differ may fits so tells = mild_went c M N n told v x disk (Queues a d kind) last s h g tied good differ may tt so tells
act_went c M N n told v x disk (Accepts kind e members d) last s h g tied good differ may fits so tells = mild_went c M N n told v x disk (Accepts kind e members d) last s h g tied good differ may tt so tells
act_went c M N n told v x disk (Takes at command a) last s h g tied good differ may fits so tells = mild_went c M N n told v x disk (Takes at command a) last s h g tied good differ may tt so tells
act_went c M N n told v x disk (Stores d value a) last s h g tied good differ may fits so tells = mild_went c M N n told v x disk (Stores d value a) last s h g tied good differ may tt so tells
act_went c M N n told v x disk (Makes change) last s h g tied good differ may fits so tells = mild_went c M N n told v x disk (Makes change) last s h g tied good differ may tt so tells
act_went c M N n told v x disk (Gives os) last s h g tied good differ may fits so tells = mild_went c M N n told v x disk (Gives os) last s h g tied good differ may tt so tells
act_went c M N n told v x disk (Spreads receivers b) last s h g tied good differ may fits so tells = mild_went c M N n told v x disk (Spreads receivers b) last s h g tied good differ may tt so tells
act_went c M N n told v x disk (Minds q p) last s h g tied good differ may fits so tells = mild_went c M N n told v x disk (Minds q p) last s h g tied good differ may tt so tells
act_went c M N n told v x disk (Notes_prepared from place p) last s h g tied good differ may fits so tells = mild_went c M N n told v x disk (Notes_prepared from place p) last s h g tied good differ may tt so tells
act_went c M N n told v x disk (Dates now) last s h g tied good differ may fits so tells = mild_went c M N n told v x disk (Dates now) last s h g tied good differ may tt so tells
act_went c M N n told v x disk (Works w) last s h g tied good differ may fits so tells = mild_went c M N n told v x disk (Works w) last s h g tied good differ may tt so tells

-- ---- changes that are saved

-- the record that a change makes
record_told : (c : Cluster) (M : Memberships) (n : ℕ) (told : Delivered) (v : Nodes) (x : UpNode) (disk : NodeRecord) (change : Change) (last : Last) (s : Scene) → Stands c M n told v (site (Up x) disk) last s → MayChange c n told x change
    → IsTold s.moments n (record_of (changed c n x change)).installed (record_of (changed c n x change)).members
record_told c M n told v x disk change last s h may =
    let own : disk ≡ record_of x = disk_own c M n disk x h.tied in
    change_told c M n told s.moments x change h.holds (λ a is. tied_of c M n disk x a h.tied is) h.notes.up.attempt may h.hand (subst (λ (r : NodeRecord). IsTold s.moments n r.installed r.members) own h.here.disk)

attempt_told : (c : Cluster) (M : Memberships) (n : ℕ) (told : Delivered) (v : Nodes) (x : UpNode) (disk : NodeRecord) (change : Change) (last : Last) (s : Scene) → Stands c M n told v (site (Up x) disk) last s → MayChange c n told x change
    → AttemptIn s.moments (changed c n x change).attempt
attempt_told c M n told v x disk change last s h may =
    let own : disk ≡ record_of x = disk_own c M n disk x h.tied in
    change_attempt c n told s.moments x change may h.hand (subst (λ (r : NodeRecord). IsTold s.moments n r.installed r.members) own h.here.disk) h.here.node

bare_went : (c : Cluster) (M N : Memberships) (n : ℕ) (told : Delivered) (v : Nodes) (x : UpNode) (disk : NodeRecord) (change : Change) (last : Last) (s : Scene) → IsBare change → Stands c M n told v (site (Up x) disk) last s → MachineGrows M N
    → (let y : Site = effect c n (site (Up x) disk) (Saves change) in let os : List Output = first_lines n change ++ saved_lines c n x change in
    SiteTied c N n y → AreGood n os → AttemptsDiffer (passing n os s).moments → MayChange c n told x change → Went n y s.moments (passing n os s).moments)
bare_went c M N n told v x disk change last s bare h g tied good differ may =
    plain_went c M N n told v (site (Up x) disk) (effect c n (site (Up x) disk) (Saves change)) last (first_lines n change ++ saved_lines c n x change) s h g tied good (saved_plain c n x change bare) differ
    (record_told c M n told v x disk change last s h may) (attempt_told c M n told v x disk change last s h may)

-- it installs e
same_last : (n e : ℕ) (ms : List Moment) → last_installed n (installed n e ∷ saved n ∷ ms) ≡ e
same_last n e ms = by_test (n == n) (itself n)
  where
    itself : (k : ℕ) → (k == k) ≡ true
    itself k = grind arith

    by_test : (t : Bool) → t ≡ true → (if t then e else last_installed n ms) ≡ e
    by_test true h = refl
    by_test false h = absurd (false_true h)

other_last : (k n e : ℕ) (ms : List Moment) → k ≢ n → last_installed k (installed n e ∷ saved n ∷ ms) ≡ last_installed k ms
other_last k n e ms ne = by_test (n == k) (apart k n ne)
  where
    apart : (k n : ℕ) → k ≢ n → (n == k) ≡ false
    apart k n ne = grind arith

    by_test : (t : Bool) → t ≡ false → (if t then e else last_installed k ms) ≡ last_installed k ms
    by_test true h = absurd (false_true (sym h))
    by_test false h = refl

at_most : (a b : ℕ) → a ≡ b → a ≤ b
at_most a b h = omega (arith, h)

rising : (a b k : ℕ) → a ≤ b → b < k → a < k
rising a b k h i = omega (arith, h, i)

installs_went : (n e : ℕ) (y : Site) (s : Scene) → y.disk.installed ≡ e → last_installed n s.moments < e → AllJudged s.moments → AttemptsDiffer (installed n e ∷ saved n ∷ s.moments) → IsTold s.moments n y.disk.installed y.disk.members → NodeIn s.moments y.node
    → Went n y s.moments (installed n e ∷ saved n ∷ s.moments)
installs_went n e y s is rises h differ disk node =
    let ms : List Moment = installed n e ∷ saved n ∷ s.moments in
    let grown : Grows s.moments ms = (passing_grows n (of_node n note.Saved ∷ of_node n (note.Installed e) ∷ []) s differ).1 in
    record {
      judged = (record { says = tt; excluded = tt; rises = rises }, (record { says = tt; excluded = tt; rises = tt }, h));
      site_so = record {
        last = at_most (last_installed n ms) y.disk.installed (same_last n e s.moments ∙ sym is);
        disk = told_grows s.moments ms n y.disk.installed y.disk.members grown disk;
        node = node_grows s.moments ms y.node grown node;
      };
      others = λ k ne. other_last k n e s.moments ne;
    }

saves_went : (c : Cluster) (M N : Memberships) (n : ℕ) (told : Delivered) (v : Nodes) (x : UpNode) (disk : NodeRecord) (change : Change) (last : Last) (s : Scene) → Stands c M n told v (site (Up x) disk) last s → MachineGrows M N
    → (let y : Site = effect c n (site (Up x) disk) (Saves change) in let os : List Output = first_lines n change ++ saved_lines c n x change in
    SiteTied c N n y → AreGood n os → AttemptsDiffer (passing n os s).moments → MayChange c n told x change → Went n y s.moments (passing n os s).moments)
saves_went c M N n told v x disk (Counts a k st i) last s h g tied good differ may =
    installs_went n i.epoch (effect c n (site (Up x) disk) (Saves (Counts a k st i))) s refl (rising (last_installed n s.moments) disk.installed i.epoch h.here.last (below_counted c M n told x disk a k st i h.holds h.tied may)) h.judged differ (record_told c M n told v x disk (Counts a k st i) last s h may) (attempt_told c M n told v x disk (Counts a k st i) last s h may)
saves_went c M N n told v x disk (Installs st i) last s h g tied good differ may =
    installs_went n i.epoch (effect c n (site (Up x) disk) (Saves (Installs st i))) s refl (rising (last_installed n s.moments) disk.installed i.epoch h.here.last (below_installed c M n told x disk st i h.holds h.tied may)) h.judged differ (record_told c M n told v x disk (Installs st i) last s h may) (attempt_told c M n told v x disk (Installs st i) last s h may)
saves_went c M N n told v x disk (Promises p) last s h g tied good differ may = bare_went c M N n told v x disk (Promises p) last s tt h g tied good differ may
saves_went c M N n told v x disk (Leads p members) last s h g tied good differ may = bare_went c M N n told v x disk (Leads p members) last s tt h g tied good differ may
saves_went c M N n told v x disk (Starts a k st) last s h g tied good differ may = bare_went c M N n told v x disk (Starts a k st) last s tt h g tied good differ may
saves_went c M N n told v x disk (Sits st e) last s h g tied good differ may = bare_went c M N n told v x disk (Sits st e) last s tt h g tied good differ may
saves_went c M N n told v x disk (Distrusts d) last s h g tied good differ may = bare_went c M N n told v x disk (Distrusts d) last s tt h g tied good differ may
saves_went c M N n told v x disk (Admits at command a d) last s h g tied good differ may = bare_went c M N n told v x disk (Admits at command a d) last s tt h g tied good differ may
saves_went c M N n told v x disk (Proposes st p text) last s h g tied good differ may = bare_went c M N n told v x disk (Proposes st p text) last s tt h g tied good differ may
saves_went c M N n told v x disk (Acks st p q behind text) last s h g tied good differ may = bare_went c M N n told v x disk (Acks st p q behind text) last s tt h g tied good differ may
saves_went c M N n told v x disk (Prepares st text) last s h g tied good differ may = bare_went c M N n told v x disk (Prepares st text) last s tt h g tied good differ may
saves_went c M N n told v x disk (Commits st) last s h g tied good differ may = bare_went c M N n told v x disk (Commits st) last s tt h g tied good differ may

-- ---- each small step

pub doing_went : (c : Cluster) (M N : Memberships) (n : ℕ) (told : Delivered) (v : Nodes) (node : Node) (disk : NodeRecord) (d : Doing) (last : Last) (s : Scene) → Stands c M n told v (site node disk) last s → MachineGrows M N
    → (let x : Site = site node disk in let os : List Output = gives c n x d in
    SiteTied c N n (effect c n x d) → AreGood n os → AttemptsDiffer (passing n os s).moments → May c n told x d → DoingFits last x d → DoingSo d → DoingTold told x d → Went n (effect c n x d) s.moments (passing n os s).moments)
doing_went c M N n told v Down disk Comes_up last s h g tied good differ may fits so tells =
    plain_went c M N n told v (site Down disk) (effect c n (site Down disk) Comes_up) last (of_node n note.Up ∷ []) s h g tied good (tt, tt) differ h.here.disk tt
doing_went c M N n told v (Up x) disk Comes_up last s h g tied good differ may fits so tells = absurd may
doing_went c M N n told v node disk (Goes_down why) last s h g tied good differ may fits so tells = plain_went c M N n told v (site node disk) (site Down disk) last (gone_line n why) s h g tied good (tt, tt) differ h.here.disk tt
doing_went c M N n told v Down disk (Does a) last s h g tied good differ may fits so tells = absurd may
doing_went c M N n told v (Up x) disk (Does a) last s h g tied good differ may fits so tells = act_went c M N n told v x disk a last s h g tied good differ may fits so tells
doing_went c M N n told v Down disk (Saves change) last s h g tied good differ may fits so tells = absurd may
doing_went c M N n told v (Up x) disk (Saves change) last s h g tied good differ may fits so tells = saves_went c M N n told v x disk change last s h g tied good differ may
doing_went c M N n told v Down disk (Loses change why) last s h g tied good differ may fits so tells = absurd may
doing_went c M N n told v (Up x) disk (Loses change why) last s h g tied good differ may fits so tells =
    plain_went c M N n told v (site (Up x) disk) (effect c n (site (Up x) disk) (Loses change why)) last (first_lines n change ++ gone_line n why) s h g tied good (gone_plain n change why) differ (record_told c M n told v x disk change last s h may) tt
doing_went c M N n told v node disk (Forgets change why) last s h g tied good differ may fits so tells =
    plain_went c M N n told v (site node disk) (site Down disk) last (first_lines n change ++ gone_line n why) s h g tied good (gone_plain n change why) differ h.here.disk tt
