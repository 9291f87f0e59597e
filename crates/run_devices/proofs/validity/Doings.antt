-- The small steps of a node, one after another.
use Rattle.std.specs.Prelude.{ℕ, ◌≡◌, ◌≤◌, nat_le, All, true, false, List, [], ◌∷◌, length}
use Rattle.std.proofs.Common.{refl, sym, ap, subst, ◌∙◌, inl, inr}
use Rattle.cl_base.specs.Limits.{most_devices}
use Rattle.cl_base.specs.Sets.{has, set_with}
use Rattle.cl_base.specs.declared.header.Header.{Header}
use Rattle.cmm_attempt.specs.Calls.{IsDevice}
use Rattle.cmm_member.specs.Nodes.{NodeState, with_joined}
use Rattle.cmm_member.specs.Records.{NodeRecord}
use Rattle.device_queue.specs.Queue.{progress_after}
use Rattle.device_queue.specs.declared.progress.Progress.TheVariants.{Joined}
use Rattle.membership_machine.specs.Invariant.{Holds}
use Rattle.membership_machine.specs.State.{Memberships}
use Rattle.pgr_device.specs.declared.command.PrCommand.{PrCommand}
use Rattle.seize.specs.Answers.{Answer}
use Rattle.seize.specs.declared.kind.JoinResult.TheVariants as end
use Rattle.status_report.specs.declared.device_entry.DeviceEntry.TheVariants as device_entry
use Rattle.status_report.specs.declared.entry.Entry.{Entry}
use Rattle.status_report.specs.declared.entry.Entry.TheVariants as entry
use Rattle.history.specs.Contact.{AttemptsDiffer}
use Rattle.node_model.specs.Devices.{answer_told}
use Rattle.node_model.specs.Seats.{installed_of, promised_of, record_of, state_of}
use Rattle.node_model.specs.declared.cluster.Cluster.{Cluster}
use Rattle.node_model.specs.declared.node.Node.{Node}
use Rattle.node_model.specs.declared.node.Node.TheVariants.{Down, Up}
use Rattle.node_model.specs.declared.node.UpNode.{UpNode}
use Rattle.node_model.specs.declared.output.Output.{Output}
use Rattle.refinement.proofs.Acts.{does_one}
use Rattle.refinement.proofs.Changes.{sees}
use Rattle.refinement.proofs.Facts.{facts_of, joins_one}
use Rattle.refinement.proofs.Ties.{known_stays}
use Rattle.refinement.specs.Doings.{Act, Change, Doing, Site, acted, after_all, answered_so, changed, effect, given_all, gives, said, site}
use Rattle.refinement.specs.Doings.Act.{Makes, Takes}
use Rattle.refinement.specs.Doings.Change.{Acks, Admits, Commits, Counts, Distrusts, Installs, Leads, Prepares, Promises, Proposes, Sits, Starts}
use Rattle.refinement.specs.Doings.Doing.{Comes_up, Does, Forgets, Goes_down, Loses, Saves}
use Rattle.refinement.specs.Events.{of_doing}
use Rattle.refinement.specs.Facts.{JoinsIn}
use Rattle.refinement.specs.Guards.{May, MayAct, MayChange}
use Rattle.refinement.specs.Runs.{Nodes}
use Rattle.refinement.specs.Ties.{Delivered, GoesOn, Known, SiteTied, setting_of}
use Rattle.refinement.specs.Worlds.{AllFit}
use Rattle.run_history.proofs.Changes.{At}
use Rattle.run_history.proofs.Ups.{same_state}
use Rattle.run_history.proofs.Walk.{passing_append}
use Rattle.run_history.specs.Guards.{Hand, MadeAt, hand_after}
use Rattle.run_history.specs.Marks.{ActSo, DoingSo}
use Rattle.run_history.specs.Scenes.{Scene, passing, telling}
use Rattle.run_seizings.proofs.Acts.{ActMay}
use Rattle.run_seizings.proofs.Asked.{DoingMay, SavesSo}
use Rattle.run_seizings.proofs.Doings.{differ_before, doing_goes, rises_so}
use Rattle.run_seizings.proofs.Goes as seizings
use Rattle.run_seizings.proofs.Promising.{ChangeMay}
use Rattle.run_seizings.specs.Sites.{InHand}
use Rattle.run_seizings.proofs.Changes.{IsPromise, NoCollect, fit_parts}
use Rattle.history.specs.Moment.{Moment}
use Rattle.history.specs.Validated.{validity}
use Rattle.run_devices.specs.installs.Shown.{AllInstall, DoingInstalls}
use Rattle.run_devices.specs.validity.Kept.{AllAgree, DoingAgrees, NoExcuse, RecordAgrees, SiteSo, readying}
use Rattle.run_devices.specs.validity.Laws.{Agrees}
use Rattle.run_devices.proofs.validity.Acts.{act_goes, strict}
use Rattle.run_devices.proofs.validity.Answers.{NotJoined, admitted_valid, taken_valid}
use Rattle.run_devices.proofs.validity.Tasks.{IsFirst, line_of, taken_up}
use Rattle.run_devices.proofs.validity.Changes.{counts_go, joins_go, leads_go, promises_go}
use Rattle.run_devices.proofs.validity.Collected.{promise_agrees}
use Rattle.run_devices.proofs.validity.Plainly.{IsPlain, mid_goes, plain_goes}
use Rattle.run_devices.proofs.validity.Courses.{AllTrust, DoingTrusts, TrustsAct, TrustsChange}
use Rattle.run_devices.proofs.validity.Goes.{Goes, line_goes}
use Rattle.run_devices.proofs.validity.Downs.{DoingLost, Small, gone_goes, lost_goes, own_command, small_rest, up_goes}

-- ---- each small step, but the readying and the answer to a command

made_plain : (ch : Change) → MadeAt ch → IsPlain ch
made_plain (Starts a q y) made = tt
made_plain (Sits y e) made = tt
made_plain (Promises p) made = absurd made
made_plain (Leads p members) made = absurd made
made_plain (Counts a q y i) made = absurd made
made_plain (Installs y i) made = absurd made
made_plain (Distrusts d) made = absurd made
made_plain (Admits on command a d) made = absurd made
made_plain (Proposes y p text) made = absurd made
made_plain (Acks y p q left text) made = absurd made
made_plain (Prepares y text) made = absurd made
made_plain (Commits y) made = absurd made

no_truth : false ≡ true → ⊥
no_truth e = cc

does_goes : (h : Header) (c : Cluster) (n : ℕ) (told : Delivered) (v w : Nodes) (disk : NodeRecord) (x : UpNode) (g : Hand) (a : Act) (s : Scene) → disk ≡ record_of x
    → MayAct c n told x a → ActSo a → ActMay h n told g x a → TrustsAct a → AllFit n (said c n x a) → Goes h n told v w NoExcuse (site (Up x) disk) s
    → Goes h n told v w NoExcuse (site (Up (acted c n x a)) disk) (passing n (said c n x a) s)
does_goes h c n told v w disk x g (Makes ch) s same may so guard trusts fit k =
    plain_goes h c n told v w disk disk x ch false s same (same ∙ sym may.1) may.0 (made_plain ch guard) (λ e. absurd (no_truth e)) fit k
does_goes h c n told v w disk x g (Takes at q a) s same may so guard trusts fit k = absurd trusts
does_goes h c n told v w disk x g a s same may so guard trusts fit k = act_goes h c n told v w disk x g a s same may so guard tt fit k

-- what holds of the run
pub record Fixed (h : Header) (c : Cluster) (n : ℕ) : Type 0 where
  pub id : c.id ≡ h.cluster
  pub low : nat_le n 32 ≡ true
  pub few : n ≤ 32
  pub many : length h.devices ≤ most_devices

saves_goes : (h : Header) (c : Cluster) (M : Memberships) (n : ℕ) (told : Delivered) (v w : Nodes) (disk : NodeRecord) (x : UpNode) (g : Hand) (ch : Change) (s : Scene) → Fixed h c n
    → At c M n told disk x → disk ≡ record_of x → installed_of x ≤ promised_of x → MayChange c n told x ch → ChangeMay h x ch → SavesSo told ch → TrustsChange ch
    → AllFit n (gives c n (site (Up x) disk) (Saves ch)) → DoingInstalls h n s.moments (Saves ch) → Goes h n told v w NoExcuse (site (Up x) disk) s → Goes h n told v w NoExcuse (effect c n (site (Up x) disk) (Saves ch)) (passing n (gives c n (site (Up x) disk) (Saves ch)) s)
saves_goes h c M n told v w disk x g ch s fixed at same order may guard saves trusts fit z k = by_change ch may guard saves trusts fit z
  where
    calm : (ch : Change) → (IsPromise ch → ⊥) → SavesSo told ch → true ≡ true → NoCollect told
    calm ch other (inl promise) is = absurd (other promise)
    calm ch other (inr none) is = none

    plainly : (ch : Change) → IsPlain ch → (IsPromise ch → ⊥) → MayChange c n told x ch → SavesSo told ch → AllFit n (gives c n (site (Up x) disk) (Saves ch))
        → Goes h n told v w NoExcuse (effect c n (site (Up x) disk) (Saves ch)) (passing n (gives c n (site (Up x) disk) (Saves ch)) s)
    plainly ch is other m q f = plain_goes h c n told v w disk (record_of (changed c n x ch)) x ch true s same refl m is (calm ch other q) f k

    by_change : (ch : Change) → MayChange c n told x ch → ChangeMay h x ch → SavesSo told ch → TrustsChange ch → AllFit n (gives c n (site (Up x) disk) (Saves ch)) → DoingInstalls h n s.moments (Saves ch)
        → Goes h n told v w NoExcuse (effect c n (site (Up x) disk) (Saves ch)) (passing n (gives c n (site (Up x) disk) (Saves ch)) s)
    by_change (Promises p) m e q t f z = promises_go h c n told v w disk x p s same order m f k
    by_change (Leads p members) m e q t f z = leads_go h c n told v w disk x p members true s same order m (calm (Leads p members) (λ z. z) q) f k
    by_change (Counts a j y i) m e q t f z = counts_go h c M n told v w disk x a j y i true s fixed.many at same m fixed.few z (calm (Counts a j y i) (λ z. z) q) k
    by_change (Installs y i) m e q t f z = joins_go h c n told v w disk x y i true s fixed.many same m fixed.few z (calm (Installs y i) (λ z. z) q) k
    by_change (Starts a j y) m e q t f z = plainly (Starts a j y) tt (λ z. z) m q f
    by_change (Sits y p) m e q t f z = plainly (Sits y p) tt (λ z. z) m q f
    by_change (Proposes y p text) m e q t f z = plainly (Proposes y p text) tt (λ z. z) m q f
    by_change (Acks y p j left text) m e q t f z = plainly (Acks y p j left text) tt (λ z. z) m q f
    by_change (Prepares y text) m e q t f z = plainly (Prepares y text) tt (λ z. z) m q f
    by_change (Commits y) m e q t f z = plainly (Commits y) tt (λ z. z) m q f
    by_change (Distrusts d) m e q t f z = absurd t
    by_change (Admits on command a d) m e q t f z = absurd t

-- what is known of the machine
pub record Ready (c : Cluster) (M : Memberships) (n : ℕ) (told : Delivered) (x : Site) : Type 0 where
  pub fits : All IsDevice c.attached
  pub holds : Holds (setting_of c) M
  pub known : Known M told
  pub tied : SiteTied c M n x
  pub joins : JoinsIn x.node

abbrev Done : Header → Cluster → ℕ → Delivered → Nodes → Nodes → Site → Doing → Scene → Type 0
Done h c n told v w x d s = Goes h n told v w NoExcuse (effect c n x d) (passing n (gives c n x d) s)

up_done : (h : Header) (c : Cluster) (M : Memberships) (n : ℕ) (told : Delivered) (v w : Nodes) (disk : NodeRecord) (x : UpNode) (g : Hand) (d : Doing) (s : Scene) → Fixed h c n
    → Ready c M n told (site (Up x) disk) → May c n told (site (Up x) disk) d → DoingSo d → DoingMay h n told g (site (Up x) disk) d → DoingTrusts d → DoingLost d
    → AllFit n (gives c n (site (Up x) disk) d) → DoingInstalls h n s.moments d → Goes h n told v w NoExcuse (site (Up x) disk) s
    → Done h c n told v w (site (Up x) disk) d s
up_done h c M n told v w disk x g Comes_up s fixed r may so guard trusts loses fit z k = absurd may
up_done h c M n told v w disk x g (Goes_down why) s fixed r may so guard trusts loses fit z k = gone_goes h n told v w disk x why s k
up_done h c M n told v w disk x g (Does a) s fixed r may so guard trusts loses fit z k =
    does_goes h c n told v w disk x g a s (sees c M n disk x.attempt x.seat r.tied.0).disk_so may so guard trusts fit k
up_done h c M n told v w disk x g (Saves ch) s fixed r may so guard trusts loses fit z k =
    saves_goes h c M n told v w disk x g ch s fixed (record { holds = r.holds; known = r.known; tied = r.tied }) (sees c M n disk x.attempt x.seat r.tied.0).disk_so
    (facts_of c M n disk x r.holds r.tied r.joins).order may guard.0 guard.1 trusts fit z k
up_done h c M n told v w disk x g (Loses ch why) s fixed r may so guard trusts loses fit z k =
    lost_goes h n told v w NoExcuse (site (Up x) disk) (record_of (changed c n x ch)) ch why s loses k
up_done h c M n told v w disk x g (Forgets ch why) s fixed r may so guard trusts loses fit z k = lost_goes h n told v w NoExcuse (site (Up x) disk) disk ch why s loses k

down_done : (h : Header) (c : Cluster) (n : ℕ) (told : Delivered) (v w : Nodes) (disk : NodeRecord) (d : Doing) (s : Scene) → May c n told (site Down disk) d
    → Goes h n told v w NoExcuse (site Down disk) s → Done h c n told v w (site Down disk) d s
down_done h c n told v w disk Comes_up s may k = up_goes h c n told v w disk s k
down_done h c n told v w disk (Goes_down why) s may k = absurd may
down_done h c n told v w disk (Does a) s may k = absurd may
down_done h c n told v w disk (Saves ch) s may k = absurd may
down_done h c n told v w disk (Loses ch why) s may k = absurd may
down_done h c n told v w disk (Forgets ch why) s may k = absurd may

doing_done : (h : Header) (c : Cluster) (M : Memberships) (n : ℕ) (told : Delivered) (v w : Nodes) (x : Site) (g : Hand) (d : Doing) (s : Scene) → Fixed h c n
    → Ready c M n told x → May c n told x d → DoingSo d → DoingMay h n told g x d → DoingTrusts d → DoingLost d → AllFit n (gives c n x d) → DoingInstalls h n s.moments d
    → Goes h n told v w NoExcuse x s → Done h c n told v w x d s
doing_done h c M n told v w x g d s fixed r may so guard trusts loses fit z k = by_node x.node r may guard fit k
  where
    by_node : (node : Node) → Ready c M n told (site node x.disk) → May c n told (site node x.disk) d → DoingMay h n told g (site node x.disk) d
        → AllFit n (gives c n (site node x.disk) d) → Goes h n told v w NoExcuse (site node x.disk) s
        → Done h c n told v w (site node x.disk) d s
    by_node Down b m e f l = down_done h c n told v w x.disk d s m l
    by_node (Up y) b m e f l = up_done h c M n told v w x.disk y g d s fixed b m so e trusts loses f z l

-- ---- one after another

pub record Next (c : Cluster) (n : ℕ) (told : Delivered) (p : ℕ) (y : Site) : Type 0 where
  pub machine : Memberships
  pub ready : Ready c machine n told y
  pub rises : p ≤ y.disk.promised

pub next_of : (c : Cluster) (M : Memberships) (n : ℕ) (told : Delivered) (x : Site) (d : Doing) → Ready c M n told x → May c n told x d → Next c n told x.disk.promised (effect c n x d)
next_of c M n told x d r may =
    let o : GoesOn c M n (effect c n x d) (gives c n x d) (of_doing n d) = does_one c M n told x d r.fits r.holds r.known r.tied may in
    record {
      machine = o.machine;
      ready = record {
        fits = r.fits;
        holds = o.holds;
        known = known_stays c M o.machine told r.holds o.grows r.known;
        tied = o.tied;
        joins = joins_one c M n told x.node x.disk d r.holds r.tied r.joins may;
      };
      rises = rises_so c M o.machine n x (effect c n x d) r.tied o.tied o.grows;
    }

-- its seizings go on beside
pub also_next : (h : Header) (c : Cluster) (M : Memberships) (n : ℕ) (told : Delivered) (v w : Nodes) (x : Site) (g : Hand) (d : Doing) (ds : List Doing) (s : Scene) → Fixed h c n
    → Ready c M n told x → Small h c n told g x (d ∷ ds) → AttemptsDiffer (passing n (given_all c n x (d ∷ ds)) s).moments → seizings.Goes h n told v w x g s
    → seizings.Goes h n told v w (effect c n x d) (hand_after g d) (passing n (gives c n x d) s)
also_next h c M n told v w x g d ds s fixed r small differ z =
    let first : List Output = gives c n x d in
    let rest : List Output = given_all c n (effect c n x d) ds in
    let later : AttemptsDiffer (passing n rest (passing n first s)).moments = subst (λ (t : Scene). AttemptsDiffer t.moments) (passing_append n first rest s) differ in
    doing_goes h c M n told v w x g d s fixed.id fixed.low r.holds r.known r.tied small.may.0 small.so.0 small.guard.0 (next_of c M n told x d r small.may.0).rises
    (fit_parts n first rest small.fit).0 (differ_before n rest (passing n first s) later) z

-- .. and before its other steps attempts differ
pub differ_next : (c : Cluster) (n : ℕ) (x : Site) (d : Doing) (ds : List Doing) (s : Scene) → AttemptsDiffer (passing n (given_all c n x (d ∷ ds)) s).moments
    → AttemptsDiffer (passing n (given_all c n (effect c n x d) ds) (passing n (gives c n x d) s)).moments
differ_next c n x d ds s differ = subst (λ (t : Scene). AttemptsDiffer t.moments) (passing_append n (gives c n x d) (given_all c n (effect c n x d) ds) s) differ

-- what is ahead: attempts differ, and what is installed tells the seizings
pub record Ahead (h : Header) (c : Cluster) (n : ℕ) (x : Site) (ds : List Doing) (s : Scene) : Type 0 where
  pub differ : AttemptsDiffer (passing n (given_all c n x ds) s).moments
  pub installs : AllInstall h c n x ds s

pub ahead_next : (h : Header) (c : Cluster) (n : ℕ) (x : Site) (d : Doing) (ds : List Doing) (s : Scene) → Ahead h c n x (d ∷ ds) s → Ahead h c n (effect c n x d) ds (passing n (gives c n x d) s)
ahead_next h c n x d ds s k = record { differ = differ_next c n x d ds s k.differ; installs = k.installs.1 }

-- what it installs, it does with the record that the lines tell
record_agrees : (h : Header) (n : ℕ) (ms : List Moment) (x : Site) → SiteSo h ms n NoExcuse x → RecordAgrees h n ms x.disk
record_agrees h n ms x k = λ d is. strict (Agrees (validity h n d ms) (has x.disk.valid d)) (k.valid d is)

doing_agrees : (h : Header) (c : Cluster) (n : ℕ) (told : Delivered) (x : Site) (ms : List Moment) (d : Doing) → May c n told x d → InHand h ms n told → DoingTrusts d → DoingInstalls h n ms d
    → RecordAgrees h n ms x.disk → DoingAgrees h n x ms d
doing_agrees h c n told x ms (Saves (Promises p)) may hand trusts tells k = promise_agrees h c n told x ms p may hand k
doing_agrees h c n told x ms (Saves (Leads p members)) may hand trusts tells k = k
doing_agrees h c n told x ms (Saves (Counts a q r i)) may hand trusts tells k = (tells, k)
doing_agrees h c n told x ms (Saves (Installs r i)) may hand trusts tells k = (tells, k)
doing_agrees h c n told x ms (Does (Takes at command a)) may hand trusts tells k = absurd trusts
doing_agrees h c n told x ms (Saves (Admits at command a d)) may hand trusts tells k = absurd trusts
doing_agrees h c n told x ms _ may hand trusts tells k = tt

pub all_go : (h : Header) (c : Cluster) (M : Memberships) (n : ℕ) (told : Delivered) (v w : Nodes) (x : Site) (g : Hand) (ds : List Doing) (s : Scene) → Fixed h c n → Ready c M n told x
    → Small h c n told g x ds → AllTrust ds → Ahead h c n x ds s → seizings.Goes h n told v w x g s → Goes h n told v w NoExcuse x s
    → Goes h n told v w NoExcuse (after_all c n x ds) (passing n (given_all c n x ds) s) × AllAgree h c n x ds s
all_go h c M n told v w x g [] s fixed r small trusts differ z k = (k, tt)
all_go h c M n told v w x g (d ∷ ds) s fixed r small trusts differ z k =
    let first : List Output = gives c n x d in
    let rest : List Output = given_all c n (effect c n x d) ds in
    let parts : AllFit n first × AllFit n rest = fit_parts n first rest small.fit in
    let next : Next c n told x.disk.promised (effect c n x d) = next_of c M n told x d r small.may.0 in
    let one : Goes h n told v w NoExcuse (effect c n x d) (passing n first s) =
    doing_done h c M n told v w x g d s fixed r small.may.0 small.so.0 small.guard.0 trusts.0 small.lost.0 parts.0 differ.installs.0 k in
    let later : Goes h n told v w NoExcuse (after_all c n (effect c n x d) ds) (passing n rest (passing n first s)) × AllAgree h c n (effect c n x d) ds (passing n first s) =
    all_go h c next.machine n told v w (effect c n x d) (hand_after g d) ds (passing n first s) fixed next.ready (small_rest h c n told g x d ds small) trusts.1
    (ahead_next h c n x d ds s differ) (also_next h c M n told v w x g d ds s fixed r small differ.differ z) one in (
      subst (λ t. Goes h n told v w NoExcuse (after_all c n (effect c n x d) ds) t) (sym (passing_append n first rest s)) later.0,
      (doing_agrees h c n told x s.moments d small.may.0 z.hand trusts.0 differ.installs.0 (record_agrees h n s.moments x k.here), later.1),
    )

-- the rest goes on behind the first
pub rest_go : (h : Header) (c : Cluster) (M : Memberships) (n : ℕ) (told : Delivered) (v w : Nodes) (x : Site) (g : Hand) (d : Doing) (ds : List Doing) (s : Scene) → Fixed h c n
    → Ready c M n told x → Small h c n told g x (d ∷ ds) → AllTrust ds → Ahead h c n x (d ∷ ds) s → seizings.Goes h n told v w x g s → DoingAgrees h n x s.moments d
    → Goes h n told v w NoExcuse (effect c n x d) (passing n (gives c n x d) s)
    → Goes h n told v w NoExcuse (after_all c n x (d ∷ ds)) (passing n (given_all c n x (d ∷ ds)) s) × AllAgree h c n x (d ∷ ds) s
rest_go h c M n told v w x g d ds s fixed r small trusts differ z agrees k =
    let next : Next c n told x.disk.promised (effect c n x d) = next_of c M n told x d r small.may.0 in
    let later : Goes h n told v w NoExcuse (after_all c n (effect c n x d) ds) (passing n (given_all c n (effect c n x d) ds) (passing n (gives c n x d) s))
    × AllAgree h c n (effect c n x d) ds (passing n (gives c n x d) s) =
    all_go h c next.machine n told v w (effect c n x d) (hand_after g d) ds (passing n (gives c n x d) s) fixed next.ready (small_rest h c n told g x d ds small) trusts
    (ahead_next h c n x d ds s differ) (also_next h c M n told v w x g d ds s fixed r small differ.differ z) k in
    (subst (λ t. Goes h n told v w NoExcuse (after_all c n (effect c n x d) ds) t) (sym (passing_append n (gives c n x d) (given_all c n (effect c n x d) ds) s)) later.0, (agrees, later.1))

-- ---- the answer to a command

pub takes_goes : (h : Header) (c : Cluster) (n : ℕ) (told : Delivered) (v w : Nodes) (disk : NodeRecord) (x : UpNode) (at : ℕ) (k : PrCommand) (a : Answer) (s : Scene)
    → disk ≡ record_of x → IsFirst x at k → NotJoined (progress_after x.tasks a) → Goes h n told v w (readying (site (Up x) disk)) (site (Up x) disk) s
    → Goes h n told v w NoExcuse (site (Up (answered_so x a)) disk) (passing n (said c n x (Takes at k a)) s)
takes_goes h c n told v w disk x at k a s same f ban l =
    let z : Entry = entry.Device (device_entry.Command n at k (answer_told a)) in
    line_goes h n told v w (readying (site (Up x) disk)) NoExcuse (site (Up x) disk) (site (Up (answered_so x a)) disk) s z tt (λ j ne. own_command j n k ne) (record {
      valid = λ d is. inl (taken_valid h s.moments n at d x disk k a same f ban l.here.up (l.here.valid d is));
      up = taken_up s.moments n at x (answered_so x a) k a f refl refl refl l.here.up;
    }) l

pub admits_goes : (h : Header) (c : Cluster) (n : ℕ) (told : Delivered) (v w : Nodes) (disk : NodeRecord) (x : UpNode) (at : ℕ) (k : PrCommand) (a : Answer) (d : ℕ) (s : Scene)
    → disk ≡ record_of x → NoCollect told → IsFirst x at k → progress_after x.tasks a ≡ Joined d end.Joined → Goes h n told v w (readying (site (Up x) disk)) (site (Up x) disk) s
    → Goes h n told v w NoExcuse (effect c n (site (Up x) disk) (Saves (Admits at k a d))) (passing n (gives c n (site (Up x) disk) (Saves (Admits at k a d))) s)
admits_goes h c n told v w disk x at k a d s same calm f joined l =
    let z : Entry = entry.Device (device_entry.Command n at k (answer_told a)) in
    let y : UpNode = changed c n x (Admits at k a d) in
    let t : NodeState = with_joined (state_of (answered_so x a).seat) d in
    let state : state_of y.seat ≡ t = same_state (answered_so x a).seat t in
    let new : NodeRecord = record_of y in
    let valid : set_with disk.valid d ≡ new.valid = ap (λ (r : NodeRecord). set_with r.valid d) same ∙ sym (ap (λ (u : NodeState). u.saved.valid) state) in
    mid_goes h n told v w y new (telling z s) true (λ is. calm)
    (line_goes h n told v w (readying (site (Up x) disk)) NoExcuse (site (Up x) disk) (site (Up y) new) s z tt (λ j ne. own_command j n k ne) (record {
      valid = λ e is.
          inl (subst (λ r. Agrees (validity h n e (line_of n at k a ∷ s.moments)) (has r e)) valid
          (admitted_valid h s.moments n at e d x disk k a same f joined l.here.up (l.here.valid e is)));
      up = taken_up s.moments n at x y k a f (ap (λ (u : NodeState). u.session) state) (ap (λ (u : NodeState). u.saved.installed) state) refl l.here.up;
    }) l)
