-- The small steps of a node, one after another.
use Rattle.std.specs.Prelude.{ℕ, ◌≡◌, ◌≤◌, true, false, List, [], ◌∷◌, None}
use Rattle.std.proofs.Common.{sym, subst, inl, inr}
use Rattle.cmm_member.specs.Records.{NodeRecord}
use Rattle.membership_machine.specs.State.{Memberships}
use Rattle.history.specs.Contact.{AttemptsDiffer}
use Rattle.run_devices.specs.queues.Views.{View}
use Rattle.node_model.specs.Seats.{installed_of, promised_of, record_of, session_of}
use Rattle.node_model.specs.declared.cluster.Cluster.{Cluster}
use Rattle.node_model.specs.declared.node.Node.{Node}
use Rattle.node_model.specs.declared.node.Node.TheVariants.{Down, Up}
use Rattle.node_model.specs.declared.node.UpNode.{UpNode}
use Rattle.node_model.specs.declared.output.Output.{Output}
use Rattle.refinement.proofs.Changes.{sees}
use Rattle.refinement.proofs.Facts.{facts_of}
use Rattle.refinement.specs.Doings.{Act, Change, Doing, Site, acted, after_all, changed, effect, given_all, gives, said, site}
use Rattle.refinement.specs.Doings.Act.{Makes}
use Rattle.refinement.specs.Doings.Change.{Acks, Admits, Commits, Counts, Distrusts, Installs, Leads, Prepares, Promises, Proposes, Sits, Starts}
use Rattle.refinement.specs.Doings.Doing.{Comes_up, Does, Forgets, Goes_down, Loses, Saves}
use Rattle.refinement.specs.Guards.{May, MayAct, MayChange}
use Rattle.refinement.specs.Runs.{Nodes}
use Rattle.refinement.specs.Ties.{Delivered}
use Rattle.run_history.proofs.Changes.{At}
use Rattle.run_history.proofs.Walk.{passing_append}
use Rattle.run_history.specs.Guards.{Hand, MadeAt, hand_after}
use Rattle.run_history.specs.Marks.{ActSo, DoingSo}
use Rattle.run_history.specs.Scenes.{Scene, passing}
use Rattle.run_seizings.proofs.Acts.{ActMay}
use Rattle.run_seizings.proofs.Asked.{DoingMay, SavesSo}
use Rattle.run_seizings.proofs.Calls.{attempt_of}
use Rattle.run_seizings.proofs.Changes.{IsPromise, NoCollect}
use Rattle.run_seizings.proofs.Goes as seizings
use Rattle.run_seizings.proofs.Promising.{ChangeMay}
use Rattle.run_seizings.specs.Seized.{has_installed}
use Rattle.run_devices.proofs.validity.Doings.{Next, Ready, also_next, differ_next, next_of}
use Rattle.run_devices.proofs.validity.Downs.{Small, small_rest}
use Rattle.run_devices.specs.validity.Kept.{AllAgree, DoingAgrees}
use Rattle.run_devices.proofs.validity.Installs.{counts_bring, install_brings}
use Rattle.run_devices.proofs.queues.Acts.{AsksIn, act_goes}
use Rattle.run_devices.proofs.queues.Changes.{Placed, counts_go, joins_go, leads_go, promises_go}
use Rattle.run_devices.proofs.queues.Downs.{gone_goes, lost_goes, up_goes}
use Rattle.run_devices.proofs.queues.Goes.{Goes}
use Rattle.run_devices.specs.queues.Kept.{AllShow, DoingShows}
use Rattle.run_devices.proofs.queues.Plainly.{IsPlain, admits_goes, plain_goes}

made_plain : (ch : Change) → MadeAt ch → IsPlain ch
made_plain (Starts a q y) made = tt
made_plain (Sits y e) made = tt
made_plain (Promises p) made = absurd made
made_plain (Leads p members) made = absurd made
made_plain (Counts a q y i) made = absurd made
made_plain (Installs y i) made = absurd made
made_plain (Distrusts d) made = absurd made
made_plain (Admits on command a d) made = absurd made
made_plain (Proposes y p text) made = absurd made
made_plain (Acks y p q left text) made = absurd made
made_plain (Prepares y text) made = absurd made
made_plain (Commits y) made = absurd made

no_truth : false ≡ true → ⊥
no_truth e = cc

does_goes : (S : View) (c : Cluster) (n : ℕ) (told : Delivered) (v w : Nodes) (disk : NodeRecord) (x : UpNode) (g : Hand) (a : Act) (s : Scene) → (AsksIn told → ⊥)
    → MayAct c n told x a → ActSo a → ActMay S.setting.header n told g x a → DoingAgrees S.setting.header n (site (Up x) disk) s.moments (Does a)
    → seizings.Goes S.setting.header n told v w (site (Up x) disk) g s → Goes S n told v w None (Up x) s
    → Goes S n told v w None (Up (acted c n x a)) (passing n (said c n x a) s)
does_goes S c n told v w disk x g (Makes ch) s calm may so guard agrees z k = plain_goes S c n told v w x ch false s may.0 (made_plain ch guard) (λ e. absurd (no_truth e)) k
does_goes S c n told v w disk x g a s calm may so guard agrees z k = act_goes S c n told v w disk x g a s calm may so guard tt agrees z k

saves_goes : (S : View) (c : Cluster) (M : Memberships) (n : ℕ) (told : Delivered) (v w : Nodes) (disk : NodeRecord) (x : UpNode) (g : Hand) (ch : Change) (s : Scene) → Placed S c n
    → At c M n told disk x → disk ≡ record_of x → installed_of x ≤ promised_of x → MayChange c n told x ch → ChangeMay S.setting.header x ch → SavesSo told ch
    → DoingAgrees S.setting.header n (site (Up x) disk) s.moments (Saves ch) → DoingShows S n told s.moments (Saves ch) → seizings.Goes S.setting.header n told v w (site (Up x) disk) g s → Goes S n told v w None (Up x) s
    → Goes S n told v w None (Up (changed c n x ch)) (passing n (gives c n (site (Up x) disk) (Saves ch)) s)
saves_goes S c M n told v w disk x g ch s placed at same order may guard saves agrees shows z k = by_change ch may guard saves agrees shows
  where
    calm : (ch : Change) → (IsPromise ch → ⊥) → SavesSo told ch → true ≡ true → NoCollect told
    calm ch other (inl promise) is = absurd (other promise)
    calm ch other (inr none) is = none

    low : (p : ℕ) → has_installed n p s.moments ≡ true → p ≤ promised_of x
    low p is = subst (λ (r : NodeRecord). p ≤ r.promised) same (z.here.low p is)

    plainly : (ch : Change) → IsPlain ch → (IsPromise ch → ⊥) → MayChange c n told x ch → SavesSo told ch
        → Goes S n told v w None (Up (changed c n x ch)) (passing n (gives c n (site (Up x) disk) (Saves ch)) s)
    plainly ch is other m q = plain_goes S c n told v w x ch true s m is (calm ch other q) k

    by_change : (ch : Change) → MayChange c n told x ch → ChangeMay S.setting.header x ch → SavesSo told ch → DoingAgrees S.setting.header n (site (Up x) disk) s.moments (Saves ch)
        → DoingShows S n told s.moments (Saves ch) → Goes S n told v w None (Up (changed c n x ch)) (passing n (gives c n (site (Up x) disk) (Saves ch)) s)
    by_change (Promises p) m e q f l = promises_go S c n told v w x p s order (low p) m k
    by_change (Leads p members) m e q f l = leads_go S c n told v w x p members true s order (low p) m (calm (Leads p members) (λ z. z) q) k
    by_change (Counts a j y i) m e q f l =
        counts_go S c M n told v w disk x a j y i true s placed at same m (counts_bring S.setting.header c M n told v w disk x g a j y i s placed.fixed.low at m e z) f.0 f.1
        (attempt_of S.setting.header s.moments n (session_of x) x.attempt a m.0 z.here.up.attempt).own (calm (Counts a j y i) (λ z. z) q) k
    by_change (Installs y i) m e q f l =
        joins_go S c n told v w disk x y i true s placed same m (install_brings S.setting.header s.moments n told i m.1 z.hand) f.0 f.1
        (λ besides other. l besides m.1 other) (calm (Installs y i) (λ z. z) q) k
    by_change (Admits on command a d) m e q f l = admits_goes S c n told v w x on command a d true s (calm (Admits on command a d) (λ z. z) q) e.1 f k
    by_change (Starts a j y) m e q f l = plainly (Starts a j y) tt (λ z. z) m q
    by_change (Sits y p) m e q f l = plainly (Sits y p) tt (λ z. z) m q
    by_change (Proposes y p text) m e q f l = plainly (Proposes y p text) tt (λ z. z) m q
    by_change (Acks y p j left text) m e q f l = plainly (Acks y p j left text) tt (λ z. z) m q
    by_change (Prepares y text) m e q f l = plainly (Prepares y text) tt (λ z. z) m q
    by_change (Commits y) m e q f l = plainly (Commits y) tt (λ z. z) m q
    by_change (Distrusts d) m e q f l = plainly (Distrusts d) tt (λ z. z) m q

abbrev Done : View → Cluster → ℕ → Delivered → Nodes → Nodes → Site → Doing → Scene → Type 0
Done S c n told v w x d s = Goes S n told v w None (effect c n x d).node (passing n (gives c n x d) s)

up_done : (S : View) (c : Cluster) (M : Memberships) (n : ℕ) (told : Delivered) (v w : Nodes) (disk : NodeRecord) (x : UpNode) (g : Hand) (d : Doing) (s : Scene) → Placed S c n
    → (AsksIn told → ⊥) → Ready c M n told (site (Up x) disk) → May c n told (site (Up x) disk) d → DoingSo d → DoingMay S.setting.header n told g (site (Up x) disk) d
    → DoingAgrees S.setting.header n (site (Up x) disk) s.moments d → DoingShows S n told s.moments d → seizings.Goes S.setting.header n told v w (site (Up x) disk) g s → Goes S n told v w None (Up x) s → Done S c n told v w (site (Up x) disk) d s
up_done S c M n told v w disk x g Comes_up s placed calm r may so guard agrees shows z k = absurd may
up_done S c M n told v w disk x g (Goes_down why) s placed calm r may so guard agrees shows z k = gone_goes S n told v w None (Up x) why s k
up_done S c M n told v w disk x g (Does a) s placed calm r may so guard agrees shows z k = does_goes S c n told v w disk x g a s calm may so guard agrees z k
up_done S c M n told v w disk x g (Saves ch) s placed calm r may so guard agrees shows z k =
    saves_goes S c M n told v w disk x g ch s placed (record { holds = r.holds; known = r.known; tied = r.tied }) (sees c M n disk x.attempt x.seat r.tied.0).disk_so
    (facts_of c M n disk x r.holds r.tied r.joins).order may guard.0 guard.1 agrees shows z k
up_done S c M n told v w disk x g (Loses ch why) s placed calm r may so guard agrees shows z k = lost_goes S n told v w None (Up x) ch why s k
up_done S c M n told v w disk x g (Forgets ch why) s placed calm r may so guard agrees shows z k = lost_goes S n told v w None (Up x) ch why s k

down_done : (S : View) (c : Cluster) (n : ℕ) (told : Delivered) (v w : Nodes) (disk : NodeRecord) (d : Doing) (s : Scene) → May c n told (site Down disk) d
    → Goes S n told v w None Down s → Done S c n told v w (site Down disk) d s
down_done S c n told v w disk Comes_up s may k = up_goes S c n told v w disk s k
down_done S c n told v w disk (Goes_down why) s may k = absurd may
down_done S c n told v w disk (Does a) s may k = absurd may
down_done S c n told v w disk (Saves ch) s may k = absurd may
down_done S c n told v w disk (Loses ch why) s may k = absurd may
down_done S c n told v w disk (Forgets ch why) s may k = absurd may

doing_done : (S : View) (c : Cluster) (M : Memberships) (n : ℕ) (told : Delivered) (v w : Nodes) (x : Site) (g : Hand) (d : Doing) (s : Scene) → Placed S c n
    → (AsksIn told → ⊥) → Ready c M n told x → May c n told x d → DoingSo d → DoingMay S.setting.header n told g x d → DoingAgrees S.setting.header n x s.moments d
    → DoingShows S n told s.moments d → seizings.Goes S.setting.header n told v w x g s → Goes S n told v w None x.node s → Done S c n told v w x d s
doing_done S c M n told v w x g d s placed calm r may so guard agrees shows z k = by_node x.node r may guard agrees z k
  where
    by_node : (node : Node) → Ready c M n told (site node x.disk) → May c n told (site node x.disk) d → DoingMay S.setting.header n told g (site node x.disk) d
        → DoingAgrees S.setting.header n (site node x.disk) s.moments d → seizings.Goes S.setting.header n told v w (site node x.disk) g s → Goes S n told v w None node s → Done S c n told v w (site node x.disk) d s
    by_node Down b m e f also l = down_done S c n told v w x.disk d s m l
    by_node (Up y) b m e f also l = up_done S c M n told v w x.disk y g d s placed calm b m so e f shows also l

-- ---- one after another

pub all_go : (S : View) (c : Cluster) (M : Memberships) (n : ℕ) (told : Delivered) (v w : Nodes) (x : Site) (g : Hand) (ds : List Doing) (s : Scene) → Placed S c n
    → (AsksIn told → ⊥) → Ready c M n told x → Small S.setting.header c n told g x ds → AttemptsDiffer (passing n (given_all c n x ds) s).moments → AllAgree S.setting.header c n x ds s → AllShow S c n told x ds s
    → seizings.Goes S.setting.header n told v w x g s → Goes S n told v w None x.node s → Goes S n told v w None (after_all c n x ds).node (passing n (given_all c n x ds) s)
all_go S c M n told v w x g [] s placed calm r small differ agrees shows z k = k
all_go S c M n told v w x g (d ∷ ds) s placed calm r small differ agrees shows z k =
    let first : List Output = gives c n x d in
    let rest : List Output = given_all c n (effect c n x d) ds in
    let next : Next c n told x.disk.promised (effect c n x d) = next_of c M n told x d r small.may.0 in
    let one : Goes S n told v w None (effect c n x d).node (passing n first s) = doing_done S c M n told v w x g d s placed calm r small.may.0 small.so.0 small.guard.0 agrees.0 shows.0 z k in
    subst (λ t. Goes S n told v w None (after_all c n (effect c n x d) ds).node t) (sym (passing_append n first rest s))
    (all_go S c next.machine n told v w (effect c n x d) (hand_after g d) ds (passing n first s) placed calm next.ready (small_rest S.setting.header c n told g x d ds small)
    (differ_next c n x d ds s differ) agrees.1 shows.1 (also_next S.setting.header c M n told v w x g d ds s placed.fixed r small differ z) one)
