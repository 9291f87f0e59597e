-- How far a node is with joining devices stays so in each small step.
use Rattle.std.specs.Prelude.{ℕ, ◌≡◌, ◌<◌, ◌∷◌, true, false, List, [], Some}
use Rattle.std.proofs.Common.{refl, sym, ap, subst, ◌∙◌, arith}
use Rattle.attempt_laws.proofs.Goes.{chosen_reached, goes_by_call}
use Rattle.attempt_laws.proofs.Stays.{plan_stays}
use Rattle.ccr_commit.specs.Entries.{all_committed, with_next}
use Rattle.cl_base.specs.Sets.{has, set_without}
use Rattle.cmm_attempt.proofs.Basics.{if_either}
use Rattle.cmm_attempt.specs.Attempts.{AttemptState, install_in}
use Rattle.cmm_attempt.specs.Calls.{Call, May as MayTake, installs_in, turn}
use Rattle.cmm_attempt.specs.declared.plan.Plan.{Plan}
use Rattle.cmm_member.specs.Nodes.{NodeState, with_entries, with_joined, with_valid}
use Rattle.cmm_member.specs.Records.{NodeRecord}
use Rattle.device_queue.specs.Queue.{after_seize, join_of}
use Rattle.membership_machine.specs.Growth.{Grows}
use Rattle.membership_machine.specs.State.{Memberships}
use Rattle.seize.specs.Seizing as seizing
use Rattle.history.specs.Moment.{Moment, Told}
use Rattle.node_model.specs.Seats.{installed_of, promised_of, record_of, session_of, state_of}
use Rattle.node_model.specs.declared.cluster.Cluster.{Cluster}
use Rattle.node_model.specs.declared.node.Node.{Node}
use Rattle.node_model.specs.declared.node.Node.TheVariants.{Down, Up}
use Rattle.node_model.specs.declared.node.UpNode.{UpNode}
use Rattle.node_model.specs.declared.output.Output.{Output}
use Rattle.refinement.proofs.Attempts.{install_epoch, may_be_called}
use Rattle.refinement.proofs.Texts.{state_with}
use Rattle.refinement.specs.Doings.{Act, Change, Doing, acted, changed, effect, gives, going, site}
use Rattle.refinement.specs.Doings.Act.{Accepts, Dates, Ends, Gives, Goes_on, Hears, Makes, Minds, Notes, Queues, Spreads, Stores, Takes, Ticks, Waits, Works, Writes}
use Rattle.refinement.specs.Doings.Change.{Acks, Admits, Commits, Counts, Distrusts, Installs, Leads, Prepares, Promises, Proposes, Sits, Starts}
use Rattle.refinement.specs.Doings.Doing.{Comes_up, Does, Forgets, Goes_down, Loses, Saves}
use Rattle.refinement.specs.Facts.{AttemptFacts, Facts}
use Rattle.refinement.specs.Guards.{May, MayAct, MayCall, MayChange}
use Rattle.refinement.specs.Ties.{Delivered}
use Rattle.run_history.specs.Marks.{DoingSo}
use Rattle.run_history.specs.Scenes.{Scene, passing}
use Rattle.status_report.specs.declared.entry.Entry.TheVariants as entry
use Rattle.status_report.specs.declared.node_entry.NodeEntry.TheVariants as note
use Rattle.wire.specs.declared.message.Install.{Install}
use Rattle.run_lines.specs.writes.Covers.{InstallCovers}
use Rattle.run_lines.specs.writes.Joins.{AllLone, DeviceSo, Installed, NodeJoins, TaskSo, UpJoins, is_spoiled}
use Rattle.run_lines.specs.writes.Sites.{ActTakes, ChangeTakes, DoingTakes, FactsAt}
use Rattle.run_lines.proofs.writes.Done.{own_facts}
use Rattle.run_lines.proofs.writes.Installing.{install_joins, no_joins, not_yet, promised_joins}
use Rattle.run_lines.proofs.writes.Lines.{AllQuiet, doing_quiet, passing_quiet, unspoiled}
use Rattle.run_lines.proofs.writes.Taking.{admitted_so, line_of, take_joins, took_so}
use Rattle.run_lines.proofs.writes.Tasks.{join_seize, lone_none, lone_seize}

-- ---- what changes nothing of it

pub record Same (x y : UpNode) : Type 0 where
  pub session : session_of y ≡ session_of x
  pub installed : installed_of y ≡ installed_of x
  pub joined : (state_of y.seat).joined ≡ (state_of x.seat).joined
  pub tasks : (d : ℕ) → join_of y.tasks d ≡ join_of x.tasks d
  pub lone : AllLone x.tasks → AllLone y.tasks

-- the lines after say of it what those before say
abbrev pub SaySame : ℕ → List Moment → List Moment → Type 0
SaySame n ms ns = (d e : ℕ) → is_spoiled n d e ns ≡ is_spoiled n d e ms

device_same : (c : Cluster) (M N : Memberships) (ms ns : List Moment) (n : ℕ) (x y : UpNode) → Same x y → ((d : ℕ) → (N.epoch (session_of x)).holds d ≡ (M.epoch (session_of x)).holds d) → SaySame n ms ns → (d : ℕ)
    → DeviceSo c M ms n x d → DeviceSo c N ns n y d
device_same c M N ms ns n x y s holds say d h =
    let e : ℕ = session_of x in
    subst (λ q. TaskSo q (has (state_of y.seat).joined d) (is_spoiled n d q ns) ((N.epoch q).holds d) (join_of y.tasks d)) (sym s.session)
    (subst (λ j. TaskSo e (has j d) (is_spoiled n d e ns) ((N.epoch e).holds d) (join_of y.tasks d)) (sym s.joined)
    (subst (λ b. TaskSo e (has (state_of x.seat).joined d) b ((N.epoch e).holds d) (join_of y.tasks d)) (sym (say d e))
    (subst (λ b. TaskSo e (has (state_of x.seat).joined d) (is_spoiled n d e ms) b (join_of y.tasks d)) (sym (holds d))
    (subst (λ o. TaskSo e (has (state_of x.seat).joined d) (is_spoiled n d e ms) ((M.epoch e).holds d) o) (sym (s.tasks d)) h))))

pub joins_same : (c : Cluster) (M N : Memberships) (ms ns : List Moment) (n : ℕ) (x y : UpNode) → Same x y → Grows M N → SaySame n ms ns → UpJoins c M ms n x → UpJoins c N ns n y
joins_same c M N ms ns n x y s g say h = record {
  lone = s.lone h.lone;
  joins = λ some is.
      let old : Installed c M ms n x = h.joins (subst (λ q. 0 < q) s.session some) (sym s.installed ∙ (is ∙ s.session)) in
      record {
        counted = subst (λ q. (N.epoch q).counted ≡ true) (sym s.session) ((g.epoch (session_of x)).counted old.counted);
        devices = λ d path. device_same c M N ms ns n x y s (λ e. (g.epoch (session_of x)).holds old.counted e) say d (old.devices d path);
      };
}

pub node_same : (c : Cluster) (M N : Memberships) (ms ns : List Moment) (k : ℕ) (z : Node) → Grows M N → SaySame k ms ns → NodeJoins c M ms k z → NodeJoins c N ns k z
node_same c M N ms ns k Down g say h = tt
node_same c M N ms ns k (Up x) g say h = joins_same c M N ms ns k x x (record { session = refl; installed = refl; joined = refl; tasks = λ d. refl; lone = λ l. l }) g say h

-- in the same state, entries and valid devices apart
by_state : (x y : UpNode) (s : NodeState) → state_of y.seat ≡ s → s.session ≡ session_of x → s.saved.installed ≡ installed_of x → s.joined ≡ (state_of x.seat).joined → y.tasks ≡ x.tasks → Same x y
by_state x y s is session installed joined tasks = record {
  session = ap (λ (z : NodeState). z.session) is ∙ session;
  installed = ap (λ (z : NodeState). z.saved.installed) is ∙ installed;
  joined = ap (λ (z : NodeState). z.joined) is ∙ joined;
  tasks = λ d. ap (λ ts. join_of ts d) tasks;
  lone = λ l. subst AllLone (sym tasks) l;
}

-- ---- each change

-- an install that is saved covers what its attempt holds
abbrev pub ChangeCovers : Memberships → Change → Type 0
ChangeCovers N (Counts a k s i) = InstallCovers N i
ChangeCovers N (Installs s i) = InstallCovers N i
ChangeCovers N change = Unit {0}

abbrev pub DoingCovers : Memberships → Doing → Type 0
DoingCovers N (Does (Makes change)) = ChangeCovers N change
DoingCovers N (Saves change) = ChangeCovers N change
DoingCovers N d = Unit {0}

-- of its lines
abbrev pub ChangeSays : ℕ → List Moment → List Moment → Change → Type 0
ChangeSays n ms ns (Admits at k a d) = (e f : ℕ) → is_spoiled n e f ns ≡ is_spoiled n e f (Told (line_of n at k a) ∷ ms)
ChangeSays n ms ns (Counts a k s i) = (d : ℕ) → is_spoiled n d i.epoch ns ≡ false
ChangeSays n ms ns (Installs s i) = (d : ℕ) → is_spoiled n d i.epoch ns ≡ false
ChangeSays n ms ns change = SaySame n ms ns

counts_epoch : (c : Cluster) (told : Delivered) (a : AttemptState) (k : Call) (s : NodeState) (i : Install) → AttemptFacts s a → MayCall c told a k → installs_in (turn a k).steps ≡ Some i → s.session ≡ i.epoch
counts_epoch c told a k s i f may installs =
    let take : MayTake a k = may_be_called c told a k may in
    let here : i ≡ install_in (turn a k).after = ((goes_by_call a k take (chosen_reached a f.reached)).install i installs).1 in
    sym f.epoch ∙ sym (ap (λ (z : Install). z.epoch) here ∙ (install_epoch (turn a k).after ∙ ap (λ (p : Plan). p.epoch) (plan_stays a k take)))

change_joins : (c : Cluster) (M N : Memberships) (ms ns : List Moment) (n : ℕ) (told : Delivered) (x : UpNode) (ch : Change) → Facts x → Grows M N → MayChange c n told x ch → ChangeTakes c n x ch
    → ChangeCovers N ch → ChangeSays n ms ns ch → UpJoins c M ms n x → UpJoins c N ns n (changed c n x ch)
change_joins c M N ms ns n told x (Promises p) f g may take covers say h = promised_joins c N ns n p x x.attempt f.order may.1
change_joins c M N ms ns n told x (Leads p members) f g may take covers say h =
    record { lone = lone_none; joins = λ some is. absurd (not_yet (installed_of x) (promised_of x) p f.order may.0 is) }
change_joins c M N ms ns n told x (Counts a k s i) f g may take covers say h =
    install_joins c N ns n (going x a k) s [] i (counts_epoch c told a k s i (own_facts x a s f may.0 may.1) may.2 may.3) refl lone_none covers say
change_joins c M N ms ns n told x (Installs s i) f g may take covers say h =
    install_joins c N ns n x s x.tasks i may.3
    (no_joins x f (λ is. may.4 (ap (λ z. (state_of z).saved.installed) (sym may.0) ∙ (is ∙ (ap (λ z. (state_of z).session) may.0 ∙ may.3))))) h.lone covers say
change_joins c M N ms ns n told x (Starts a k s) f g may take covers say h =
    joins_same c M N ms ns n x (changed c n x (Starts a k s))
    (by_state x (changed c n x (Starts a k s)) (with_entries s (all_committed s.saved.entries)) refl (ap (λ z. (state_of z).session) (sym may.1)) (ap (λ z. (state_of z).saved.installed) (sym may.1))
    (ap (λ z. (state_of z).joined) (sym may.1)) refl) g say h
change_joins c M N ms ns n told x (Sits s e) f g may take covers say h =
    joins_same c M N ms ns n x (changed c n x (Sits s e))
    (by_state x (changed c n x (Sits s e)) (with_entries s (all_committed s.saved.entries)) refl (ap (λ z. (state_of z).session) (sym may.0)) (ap (λ z. (state_of z).saved.installed) (sym may.0))
    (ap (λ z. (state_of z).joined) (sym may.0)) refl) g say h
change_joins c M N ms ns n told x (Distrusts d) f g may take covers say h =
    let s : NodeState = with_valid (state_of x.seat) (set_without (record_of x).valid d) in
    joins_same c M N ms ns n x (changed c n x (Distrusts d)) (by_state x (changed c n x (Distrusts d)) s (state_with x.seat s) refl refl refl refl) g say h
change_joins c M N ms ns n told x (Admits at k a d) f g may take covers say h =
    let s : NodeState = with_joined (state_of x.seat) d in
    let y : UpNode = changed c n x (Admits at k a d) in
    take_joins c M N ms ns n x y at k a take.0
    (admitted_so c n x at k a d take.0 y (ap (λ (z : NodeState). z.session) (state_with x.seat s)) (ap (λ (z : NodeState). z.saved.installed) (state_with x.seat s)) refl
    (ap (λ (z : NodeState). z.joined) (state_with x.seat s)) take.1) g say h
change_joins c M N ms ns n told x (Proposes s p text) f g may take covers say h =
    let t : NodeState = with_entries (state_of x.seat) (with_next (record_of x).entries text) in
    joins_same c M N ms ns n x (changed c n x (Proposes s p text)) (by_state x (changed c n x (Proposes s p text)) t (state_with x.seat t) refl refl refl refl) g say h
change_joins c M N ms ns n told x (Acks s p q left text) f g may take covers say h =
    let t : NodeState = with_entries (state_of x.seat) (all_committed (record_of x).entries) in
    joins_same c M N ms ns n x (changed c n x (Acks s p q left text)) (by_state x (changed c n x (Acks s p q left text)) t (state_with x.seat t) refl refl refl refl) g say h
change_joins c M N ms ns n told x (Prepares s text) f g may take covers say h =
    let y : UpNode = changed c n x (Prepares s text) in
    joins_same c M N ms ns n x y
    (by_state x y (state_of y.seat) refl (ap (λ z. (state_of z).session) (sym may.0)) (ap (λ z. (state_of z).saved.installed) (sym may.0)) (ap (λ z. (state_of z).joined) (sym may.0)) refl) g say h
change_joins c M N ms ns n told x (Commits s) f g may take covers say h =
    let y : UpNode = changed c n x (Commits s) in
    joins_same c M N ms ns n x y
    (by_state x y (state_of y.seat) refl (ap (λ z. (state_of z).session) (sym may.0)) (ap (λ z. (state_of z).saved.installed) (sym may.0)) (ap (λ z. (state_of z).joined) (sym may.0)) refl) g say h

-- ---- each act

abbrev pub ActSays : ℕ → List Moment → List Moment → Act → Type 0
ActSays n ms ns (Takes at k a) = (e f : ℕ) → is_spoiled n e f ns ≡ is_spoiled n e f (Told (line_of n at k a) ∷ ms)
ActSays n ms ns (Makes change) = ChangeSays n ms ns change
ActSays n ms ns a = SaySame n ms ns

seizes_same : (x : UpNode) (d : ℕ) (s : seizing.SeizeState) → Same x (record x { tasks = after_seize x.tasks d s })
seizes_same x d s = record { session = refl; installed = refl; joined = refl; tasks = λ e. join_seize x.tasks d s e; lone = λ l. lone_seize x.tasks d s l }

by_refl : (x y : UpNode) → session_of y ≡ session_of x → installed_of y ≡ installed_of x → (state_of y.seat).joined ≡ (state_of x.seat).joined → y.tasks ≡ x.tasks → Same x y
by_refl x y session installed joined tasks = by_state x y (state_of y.seat) refl session installed joined tasks

act_joins : (c : Cluster) (M N : Memberships) (ms ns : List Moment) (n : ℕ) (told : Delivered) (x : UpNode) (a : Act) → Facts x → Grows M N → MayAct c n told x a → ActTakes c n x a
    → DoingCovers N (Does a) → ActSays n ms ns a → UpJoins c M ms n x → UpJoins c N ns n (acted c n x a)
act_joins c M N ms ns n told x (Takes at k a) f g may take covers say h =
    take_joins c M N ms ns n x (acted c n x (Takes at k a)) at k a take.0 (took_so c n x at k a take.0 (acted c n x (Takes at k a)) refl refl refl refl take.1) g say h
act_joins c M N ms ns n told x (Queues a d kind) f g may take covers say h =
    let s : seizing.SeizeState = seizing.begun kind a.plan.epoch a.plan.members n c.id (has (record_of x).valid d) in
    joins_same c M N ms ns n x (acted c n x (Queues a d kind))
    (if_either (Same x) (has a.plan.members n) (record x { tasks = after_seize x.tasks d s }) x (seizes_same x d s) (by_refl x x refl refl refl refl)) g say h
act_joins c M N ms ns n told x (Accepts kind e members d) f g may take covers say h =
    joins_same c M N ms ns n x (acted c n x (Accepts kind e members d)) (seizes_same x d (seizing.begun kind e members n c.id (has (record_of x).valid d))) g say h
act_joins c M N ms ns n told x (Makes change) f g may take covers say h = change_joins c M N ms ns n told x change f g may.0 take covers say h
act_joins c M N ms ns n told x (Hears from b) f g may take covers say h = joins_same c M N ms ns n x (acted c n x (Hears from b)) (by_refl x (acted c n x (Hears from b)) refl refl refl refl) g say h
act_joins c M N ms ns n told x Ticks f g may take covers say h = joins_same c M N ms ns n x (acted c n x Ticks) (by_refl x (acted c n x Ticks) refl refl refl refl) g say h
act_joins c M N ms ns n told x Waits f g may take covers say h = joins_same c M N ms ns n x (acted c n x Waits) (by_refl x (acted c n x Waits) refl refl refl refl) g say h
act_joins c M N ms ns n told x (Goes_on a k) f g may take covers say h = joins_same c M N ms ns n x (acted c n x (Goes_on a k)) (by_refl x (acted c n x (Goes_on a k)) refl refl refl refl) g say h
act_joins c M N ms ns n told x (Ends a e) f g may take covers say h = joins_same c M N ms ns n x (acted c n x (Ends a e)) (by_refl x (acted c n x (Ends a e)) refl refl refl refl) g say h
act_joins c M N ms ns n told x (Stores d value a) f g may take covers say h = joins_same c M N ms ns n x (acted c n x (Stores d value a)) (by_refl x (acted c n x (Stores d value a)) refl refl refl refl) g say h
act_joins c M N ms ns n told x (Writes to b) f g may take covers say h = joins_same c M N ms ns n x (acted c n x (Writes to b)) (by_refl x (acted c n x (Writes to b)) refl refl refl refl) g say h
act_joins c M N ms ns n told x (Gives os) f g may take covers say h = joins_same c M N ms ns n x (acted c n x (Gives os)) (by_refl x (acted c n x (Gives os)) refl refl refl refl) g say h
act_joins c M N ms ns n told x (Spreads receivers b) f g may take covers say h = joins_same c M N ms ns n x (acted c n x (Spreads receivers b)) (by_refl x (acted c n x (Spreads receivers b)) refl refl refl refl) g say h
act_joins c M N ms ns n told x (Minds q p) f g may take covers say h = joins_same c M N ms ns n x (acted c n x (Minds q p)) (by_refl x (acted c n x (Minds q p)) refl refl refl refl) g say h
act_joins c M N ms ns n told x (Notes from place p) f g may take covers say h = joins_same c M N ms ns n x (acted c n x (Notes from place p)) (by_refl x (acted c n x (Notes from place p)) refl refl refl refl) g say h
act_joins c M N ms ns n told x (Dates now) f g may take covers say h = joins_same c M N ms ns n x (acted c n x (Dates now)) (by_refl x (acted c n x (Dates now)) refl refl refl refl) g say h
act_joins c M N ms ns n told x (Works w) f g may take covers say h = joins_same c M N ms ns n x (acted c n x (Works w)) (by_refl x (acted c n x (Works w)) refl refl refl refl) g say h

-- ---- each small step

passing_says : (n : ℕ) (os : List Output) (s : Scene) → AllQuiet n os → SaySame n s.moments (passing n os s).moments
passing_says n os s quiet d e = passing_quiet n n os s quiet d e

saved_says : (c : Cluster) (n : ℕ) (told : Delivered) (x : UpNode) (disk : NodeRecord) (ch : Change) (s : Scene) → MayChange c n told x ch → DoingSo (Saves ch)
    → ChangeSays n s.moments (passing n (gives c n (site (Up x) disk) (Saves ch)) s).moments ch
saved_says c n told x disk (Admits at k a d) s may so = λ e f. refl
saved_says c n told x disk (Counts a k y i) s may so = λ d. unspoiled n d i.epoch (Told (entry.Node n note.Saved) ∷ s.moments)
saved_says c n told x disk (Installs y i) s may so = λ d. unspoiled n d i.epoch (Told (entry.Node n note.Saved) ∷ s.moments)
saved_says c n told x disk (Promises p) s may so = passing_says n (gives c n (site (Up x) disk) (Saves (Promises p))) s (doing_quiet n c n told (site (Up x) disk) (Saves (Promises p)) may so tt)
saved_says c n told x disk (Leads p members) s may so = passing_says n (gives c n (site (Up x) disk) (Saves (Leads p members))) s (doing_quiet n c n told (site (Up x) disk) (Saves (Leads p members)) may so tt)
saved_says c n told x disk (Starts a k y) s may so = passing_says n (gives c n (site (Up x) disk) (Saves (Starts a k y))) s (doing_quiet n c n told (site (Up x) disk) (Saves (Starts a k y)) may so tt)
saved_says c n told x disk (Sits y e) s may so = passing_says n (gives c n (site (Up x) disk) (Saves (Sits y e))) s (doing_quiet n c n told (site (Up x) disk) (Saves (Sits y e)) may so tt)
saved_says c n told x disk (Distrusts d) s may so = passing_says n (gives c n (site (Up x) disk) (Saves (Distrusts d))) s (doing_quiet n c n told (site (Up x) disk) (Saves (Distrusts d)) may so tt)
saved_says c n told x disk (Proposes y p text) s may so = passing_says n (gives c n (site (Up x) disk) (Saves (Proposes y p text))) s (doing_quiet n c n told (site (Up x) disk) (Saves (Proposes y p text)) may so tt)
saved_says c n told x disk (Acks y p q left text) s may so = passing_says n (gives c n (site (Up x) disk) (Saves (Acks y p q left text))) s (doing_quiet n c n told (site (Up x) disk) (Saves (Acks y p q left text)) may so tt)
saved_says c n told x disk (Prepares y text) s may so = passing_says n (gives c n (site (Up x) disk) (Saves (Prepares y text))) s (doing_quiet n c n told (site (Up x) disk) (Saves (Prepares y text)) may so tt)
saved_says c n told x disk (Commits y) s may so = passing_says n (gives c n (site (Up x) disk) (Saves (Commits y))) s (doing_quiet n c n told (site (Up x) disk) (Saves (Commits y)) may so tt)

made_says : (c : Cluster) (n : ℕ) (told : Delivered) (x : UpNode) (disk : NodeRecord) (ch : Change) (s : Scene) → MayAct c n told x (Makes ch) → DoingSo (Does (Makes ch))
    → ChangeSays n s.moments (passing n (gives c n (site (Up x) disk) (Does (Makes ch))) s).moments ch
made_says c n told x disk (Admits at k a d) s may so = λ e f. refl
made_says c n told x disk (Counts a k y i) s may so = λ d. unspoiled n d i.epoch s.moments
made_says c n told x disk (Installs y i) s may so = λ d. unspoiled n d i.epoch s.moments
made_says c n told x disk (Promises p) s may so = passing_says n (gives c n (site (Up x) disk) (Does (Makes (Promises p)))) s (doing_quiet n c n told (site (Up x) disk) (Does (Makes (Promises p))) may so tt)
made_says c n told x disk (Leads p members) s may so = passing_says n (gives c n (site (Up x) disk) (Does (Makes (Leads p members)))) s (doing_quiet n c n told (site (Up x) disk) (Does (Makes (Leads p members))) may so tt)
made_says c n told x disk (Starts a k y) s may so = passing_says n (gives c n (site (Up x) disk) (Does (Makes (Starts a k y)))) s (doing_quiet n c n told (site (Up x) disk) (Does (Makes (Starts a k y))) may so tt)
made_says c n told x disk (Sits y e) s may so = passing_says n (gives c n (site (Up x) disk) (Does (Makes (Sits y e)))) s (doing_quiet n c n told (site (Up x) disk) (Does (Makes (Sits y e))) may so tt)
made_says c n told x disk (Distrusts d) s may so = passing_says n (gives c n (site (Up x) disk) (Does (Makes (Distrusts d)))) s (doing_quiet n c n told (site (Up x) disk) (Does (Makes (Distrusts d))) may so tt)
made_says c n told x disk (Proposes y p text) s may so = passing_says n (gives c n (site (Up x) disk) (Does (Makes (Proposes y p text)))) s (doing_quiet n c n told (site (Up x) disk) (Does (Makes (Proposes y p text))) may so tt)
made_says c n told x disk (Acks y p q left text) s may so = passing_says n (gives c n (site (Up x) disk) (Does (Makes (Acks y p q left text)))) s (doing_quiet n c n told (site (Up x) disk) (Does (Makes (Acks y p q left text))) may so tt)
made_says c n told x disk (Prepares y text) s may so = passing_says n (gives c n (site (Up x) disk) (Does (Makes (Prepares y text)))) s (doing_quiet n c n told (site (Up x) disk) (Does (Makes (Prepares y text))) may so tt)
made_says c n told x disk (Commits y) s may so = passing_says n (gives c n (site (Up x) disk) (Does (Makes (Commits y)))) s (doing_quiet n c n told (site (Up x) disk) (Does (Makes (Commits y))) may so tt)

act_says : (c : Cluster) (n : ℕ) (told : Delivered) (x : UpNode) (disk : NodeRecord) (a : Act) (s : Scene) → MayAct c n told x a → DoingSo (Does a)
    → ActSays n s.moments (passing n (gives c n (site (Up x) disk) (Does a)) s).moments a
act_says c n told x disk (Takes at k a) s may so = λ e f. refl
act_says c n told x disk (Makes ch) s may so = made_says c n told x disk ch s may so
act_says c n told x disk (Hears from b) s may so = passing_says n (gives c n (site (Up x) disk) (Does (Hears from b))) s (doing_quiet n c n told (site (Up x) disk) (Does (Hears from b)) may so tt)
act_says c n told x disk Ticks s may so = passing_says n (gives c n (site (Up x) disk) (Does Ticks)) s (doing_quiet n c n told (site (Up x) disk) (Does Ticks) may so tt)
act_says c n told x disk Waits s may so = passing_says n (gives c n (site (Up x) disk) (Does Waits)) s (doing_quiet n c n told (site (Up x) disk) (Does Waits) may so tt)
act_says c n told x disk (Goes_on a k) s may so = passing_says n (gives c n (site (Up x) disk) (Does (Goes_on a k))) s (doing_quiet n c n told (site (Up x) disk) (Does (Goes_on a k)) may so tt)
act_says c n told x disk (Ends a e) s may so = passing_says n (gives c n (site (Up x) disk) (Does (Ends a e))) s (doing_quiet n c n told (site (Up x) disk) (Does (Ends a e)) may so tt)
act_says c n told x disk (Queues a d kind) s may so = passing_says n (gives c n (site (Up x) disk) (Does (Queues a d kind))) s (doing_quiet n c n told (site (Up x) disk) (Does (Queues a d kind)) may so tt)
act_says c n told x disk (Accepts kind e members d) s may so = passing_says n (gives c n (site (Up x) disk) (Does (Accepts kind e members d))) s (doing_quiet n c n told (site (Up x) disk) (Does (Accepts kind e members d)) may so tt)
act_says c n told x disk (Stores d value a) s may so = passing_says n (gives c n (site (Up x) disk) (Does (Stores d value a))) s (doing_quiet n c n told (site (Up x) disk) (Does (Stores d value a)) may so tt)
act_says c n told x disk (Writes to b) s may so = passing_says n (gives c n (site (Up x) disk) (Does (Writes to b))) s (doing_quiet n c n told (site (Up x) disk) (Does (Writes to b)) may so tt)
act_says c n told x disk (Gives os) s may so = passing_says n (gives c n (site (Up x) disk) (Does (Gives os))) s (doing_quiet n c n told (site (Up x) disk) (Does (Gives os)) may so tt)
act_says c n told x disk (Spreads receivers b) s may so = passing_says n (gives c n (site (Up x) disk) (Does (Spreads receivers b))) s (doing_quiet n c n told (site (Up x) disk) (Does (Spreads receivers b)) may so tt)
act_says c n told x disk (Minds q p) s may so = passing_says n (gives c n (site (Up x) disk) (Does (Minds q p))) s (doing_quiet n c n told (site (Up x) disk) (Does (Minds q p)) may so tt)
act_says c n told x disk (Notes from place p) s may so = passing_says n (gives c n (site (Up x) disk) (Does (Notes from place p))) s (doing_quiet n c n told (site (Up x) disk) (Does (Notes from place p)) may so tt)
act_says c n told x disk (Dates now) s may so = passing_says n (gives c n (site (Up x) disk) (Does (Dates now))) s (doing_quiet n c n told (site (Up x) disk) (Does (Dates now)) may so tt)
act_says c n told x disk (Works w) s may so = passing_says n (gives c n (site (Up x) disk) (Does (Works w))) s (doing_quiet n c n told (site (Up x) disk) (Does (Works w)) may so tt)

pub doing_joins : (c : Cluster) (M N : Memberships) (n : ℕ) (told : Delivered) (node : Node) (disk : NodeRecord) (d : Doing) (s : Scene) → FactsAt n node disk → Grows M N → May c n told (site node disk) d
    → DoingSo d → DoingTakes c n (site node disk) d → DoingCovers N d → NodeJoins c M s.moments n node
    → NodeJoins c N (passing n (gives c n (site node disk) d) s).moments n (effect c n (site node disk) d).node
doing_joins c M N n told Down disk Comes_up s f g may so take covers h = record { lone = lone_none; joins = λ some is. absurd (none_below some) }
  where
    none_below : 0 < 0 → ⊥
    none_below e = omega (arith, e)
doing_joins c M N n told (Up x) disk Comes_up s f g may so take covers h = absurd may
doing_joins c M N n told node disk (Goes_down why) s f g may so take covers h = tt
doing_joins c M N n told Down disk (Does a) s f g may so take covers h = absurd may
doing_joins c M N n told (Up x) disk (Does a) s f g may so take covers h =
    act_joins c M N s.moments (passing n (gives c n (site (Up x) disk) (Does a)) s).moments n told x a f.0 g may take covers (act_says c n told x disk a s may so) h
doing_joins c M N n told Down disk (Saves ch) s f g may so take covers h = absurd may
doing_joins c M N n told (Up x) disk (Saves ch) s f g may so take covers h =
    change_joins c M N s.moments (passing n (gives c n (site (Up x) disk) (Saves ch)) s).moments n told x ch f.0 g may take covers (saved_says c n told x disk ch s may so) h
doing_joins c M N n told node disk (Loses ch why) s f g may so take covers h = tt
doing_joins c M N n told node disk (Forgets ch why) s f g may so take covers h = tt
