-- Every event keeps the invariant.
use Rattle.std.proofs.Common.{ℕ, ◌+◌, ◌<◌, ◌≤◌, ◌≡◌, ◌≢◌, ◌⊎◌, inl, inr, refl, sym, ap, ◌∙◌, subst, Bool, true, false, List, [], ◌∷◌, length, arith, take_all}
use Rattle.machine_base.specs.Epochs.{coordinator}
use Rattle.machine_base.proofs.Puts.{true_or_false}
use Rattle.membership_machine.specs.Records.{Saved, IsBehind}
use Rattle.membership_machine.specs.Votes.{Setting}
use Rattle.membership_machine.specs.State.{Node, Epoch, Memberships, first_memberships, first_node, no_epoch}
use Rattle.membership_machine.specs.Steps.{promising, installing, joining, crashing, beginning, counting, starting}
use Rattle.membership_machine.specs.Events.{Event, Begin, Promise, Count, Install, Start, Join, Propose, Propose_lost, Prepare, Acknowledge, Commit, Crash, Allowed, after, Run}
use Rattle.membership_machine.specs.Invariant.{Fits, Commits, NodeOk, EpochOk, Holds}
use Rattle.membership_machine.proofs.Growth.{Goes, kept_at_node, kept_at_both, grows_over, grows_same}
use Rattle.membership_machine.proofs.NodeSteps
use Rattle.membership_machine.proofs.MemberSteps
use Rattle.membership_machine.proofs.EpochSteps
use Rattle.membership_machine.proofs.Leaders
use Rattle.membership_machine.proofs.Updates.{propose_keeps, propose_lost_keeps, prepare_keeps, acknowledge_keeps, commit_keeps}

-- a mark that implies one that does not stand does not stand
pub unmarked : (a b : Bool) → (a ≡ true → b ≡ true) → b ≡ false → a ≡ false
unmarked a b f h = go (true_or_false a)
  where
    go : (a ≡ true) ⊎ (a ≡ false) → a ≡ false
    go (inl t) = let u : b ≡ true = f t in absurd (cc)
    go (inr t) = t

-- a mark that would be absurd does not stand
pub not_marked : (a : Bool) → (a ≡ true → ⊥) → a ≡ false
not_marked a f = go (true_or_false a)
  where
    go : (a ≡ true) ⊎ (a ≡ false) → a ≡ false
    go (inl t) = absurd (f t)
    go (inr t) = t

begin_keeps : (S : Setting) (w : Memberships) (q : ℕ) (members : ℕ → Bool) → Holds S w → Allowed S w (Begin q members) → Goes S w (after w (Begin q members))
begin_keeps S w q members i a =
    kept_at_both S w c (promising n q true) q (beginning e members) i refl positive (NodeSteps.promise_grows w.epoch c n q true (i.node c) a.0) (EpochSteps.begin_grows e members untried unstarted)
    (λ E is o. NodeSteps.promise_node E c n q true o a.0 (λ h. refl) (λ h. ap (λ (x : Epoch). x.tried) is))
    (λ E is. Leaders.leads_unstarted E c (promising n q true) refl (ap (λ (x : Epoch). x.started) is ∙ unstarted))
    (λ N at g k. EpochSteps.begin_epoch S N q e members k uncounted unstarted positive (rw at (omega arith)) a.1)
  where
    c : ℕ
    c = coordinator q

    n : Node
    n = w.node c

    e : Epoch
    e = w.epoch q

    positive : 0 < q
    positive = omega (arith, a.0)

    above : e.tried ≡ true → ⊥
    above h = omega (arith, (i.epoch q).tried_promised h, a.0)

    untried : e.tried ≡ false
    untried = not_marked e.tried above

    uncounted : e.counted ≡ false
    uncounted = unmarked e.counted e.tried (i.epoch q).counted_tried untried

    unstarted : e.started ≡ false
    unstarted = unmarked e.started e.counted (i.epoch q).started_counted uncounted

promise_keeps : (S : Setting) (w : Memberships) (m q : ℕ) → Holds S w → Allowed S w (Promise m q) → Goes S w (after w (Promise m q))
promise_keeps S w m q i a =
    kept_at_node S w m (promising (w.node m) q false) i (NodeSteps.promise_grows w.epoch m (w.node m) q false (i.node m) a.1)
    (NodeSteps.promise_node w.epoch m (w.node m) q false (i.node m) a.1 (λ h. absurd (cc)) (λ h. absurd (cc)))
    (Leaders.follows_other w.epoch m (promising (w.node m) q false) other)
  where
    other : coordinator q ≢ m
    other c = let p : q ≤ (w.node m).promised = subst (λ k. q ≤ (w.node k).promised) c ((i.epoch q).tried_promised a.0) in omega (arith, a.1)

count_fits : (e : Epoch) (q n : ℕ) (devices : ℕ → Bool) (r : Saved) → Fits (record { installed = q; entries = r.entries; committed = r.committed }) (counting e n devices r)
count_fits e q n devices r = record { counted = λ h. refl; entries = sym (take_all (length r.entries) r.entries (omega arith)); within = omega arith; base = omega arith }

count_commits : (e : Epoch) (q n : ℕ) (devices : ℕ → Bool) (r : Saved) → e.started ≡ false → r.committed ≤ length r.entries → length r.entries ≤ r.committed + 1
    → Commits (record { installed = q; entries = r.entries; committed = r.committed }) (counting e n devices r)
count_commits e q n devices r s low one = record { within = low; one_pending = one; acked = λ h. absurd (cc); settled = λ h. omega arith }

count_keeps : (S : Setting) (w : Memberships) (q n : ℕ) (devices : ℕ → Bool) → Holds S w → Allowed S w (Count q n devices) → Goes S w (after w (Count q n devices))
count_keeps S w q n devices i a =
    kept_at_both S w c (installing o q r.entries r.committed) q (counting e n devices r) i refl (omega (arith, below)) (NodeSteps.install_grows w.epoch c o q r.entries r.committed (i.node c) below) (EpochSteps.count_grows S w.node q e n devices r (i.epoch q) uncounted unstarted)
    (λ E is k. NodeSteps.install_node E c o q r.entries r.committed k a.0 below (ap (λ (x : Epoch). x.counted) is)
    (subst (λ (x : Epoch). x.members c ≡ true) (sym is) ((i.epoch q).tried_member tried)) (ap (λ (x : Epoch). length x.base) is)
    (subst (λ (x : Epoch). Fits (record { installed = q; entries = r.entries; committed = r.committed }) x) (sym is) (count_fits e q n devices r))
    (subst (λ (x : Epoch). Commits (record { installed = q; entries = r.entries; committed = r.committed }) x) (sym is) (count_commits e q n devices r unstarted commits.within commits.one_pending)))
    (λ E is. Leaders.leads_unstarted E c (installing o q r.entries r.committed) alone (ap (λ f. (E f).started) a.0 ∙ ap (λ (x : Epoch). x.started) is ∙ unstarted))
    (λ N at g k. EpochSteps.count_epoch S N q e n devices r k tried unstarted (subst (λ (x : Node). q ≤ x.saved.installed) (sym at) (omega arith))
    (λ m h. (g m).answered q (a.2.all_answered m h)) a.2.of_member ((g n).showed q answered)
    (λ m h. subst (λ (x : Saved). IsBehind x r) (sym ((g m).showed q (a.2.all_answered m h))) (a.2.none_newer m h)) a.3 commits.within commits.one_pending)
  where
    c : ℕ
    c = coordinator q

    o : Node
    o = w.node c

    e : Epoch
    e = w.epoch q

    r : Saved
    r = (w.node n).showed q

    promised : q ≡ o.promised
    promised = sym a.0 ∙ (i.node c).seeking_session a.1

    below : o.saved.installed < q
    below = omega (arith, promised, (i.node c).seeking_installs a.1)

    tried : e.tried ≡ true
    tried = subst (λ f. (w.epoch f).tried ≡ true) (sym promised) ((i.node c).seeking_tried a.1)

    uncounted : e.counted ≡ false
    uncounted = not_marked e.counted (λ h. omega (arith, (i.epoch q).counted_installed h, below))

    unstarted : e.started ≡ false
    unstarted = unmarked e.started e.counted (i.epoch q).started_counted uncounted

    alone : o.member ≡ false
    alone = not_marked o.member (λ h. omega (arith, (i.node c).member_installed h, a.0, below))

    answered : (w.node n).answered q ≡ true
    answered = a.2.all_answered n a.2.of_member

    commits : Commits r (w.epoch r.installed)
    commits = (i.node n).showed_commits q answered

install_keeps : (S : Setting) (w : Memberships) (m q : ℕ) → Holds S w → Allowed S w (Install m q) → Goes S w (after w (Install m q))
install_keeps S w m q i a =
    kept_at_node S w m (installing (w.node m) q e.base e.settled) i (NodeSteps.install_grows w.epoch m (w.node m) q e.base e.settled (i.node m) a.3)
    (NodeSteps.install_node w.epoch m (w.node m) q e.base e.settled (i.node m) a.2 a.3 a.0 a.1 refl
    (record { counted = λ h. a.0; entries = k.base_log; within = k.base_within; base = omega arith })
    (record { within = k.settled_base; one_pending = k.one_pending; acked = λ h. omega (arith, k.settled_base, k.base_acked h); settled = λ h. omega arith }))
    (Leaders.follows_other w.epoch m (installing (w.node m) q e.base e.settled) (λ d. other (ap coordinator (sym a.2) ∙ d)))
  where
    e : Epoch
    e = w.epoch q

    k : EpochOk S w.node q e
    k = i.epoch q

    other : coordinator q ≢ m
    other d = let p : q ≤ (w.node m).saved.installed = subst (λ j. q ≤ (w.node j).saved.installed) d (k.counted_installed a.0) in omega (arith, a.3)

start_keeps : (S : Setting) (w : Memberships) (q : ℕ) → Holds S w → Allowed S w (Start q) → Goes S w (after w (Start q))
start_keeps S w q i a =
    kept_at_both S w c (joining n) q (starting e) i refl positive (MemberSteps.join_grows n) (EpochSteps.start_grows S w.node q e k unstarted)
    (λ E is o. MemberSteps.join_node E c n o (omega (arith, a.1, positive)) (a.1 ∙ sym at_q) (ap (λ f. (E f).started) a.1 ∙ ap (λ (x : Epoch). x.started) is) (acked E is o))
    (λ E is. Leaders.leads_member E c (joining n) refl (entries ∙ sym (ap length (k.unstarted_log unstarted)) ∙ sym (ap (λ (x : Epoch). length x.log) (ap E a.1 ∙ is))) (entries ∙ sym (ap (λ (x : Epoch). x.acked) (ap E a.1 ∙ is))))
    (λ N at g o. EpochSteps.start_epoch S N q e o a.0 unstarted (λ m h. (g m).ready q (a.3 m h)) (λ m h. omega (arith, (g m).reached q (a.3 m h), (i.node m).ready_base q (a.3 m h))))
  where
    c : ℕ
    c = coordinator q

    n : Node
    n = w.node c

    e : Epoch
    e = w.epoch q

    k : EpochOk S w.node q e
    k = i.epoch q

    positive : 0 < q
    positive = k.tried_positive (k.counted_tried a.0)

    at_q : n.saved.installed ≡ q
    at_q = omega (arith, k.counted_installed a.0, (i.node c).installed, (i.node c).session, a.1, positive)

    was_started : e.started ≡ true → ⊥
    was_started h = let m : n.member ≡ true = (i.leads c).sits (omega (arith, a.1, positive)) (ap coordinator a.1) (subst (λ f. (w.epoch f).started ≡ true) (sym a.1) h) in let f : n.member ≡ false = a.2 in cc

    unstarted : e.started ≡ false
    unstarted = not_marked e.started was_started

    entries : length n.saved.entries ≡ length e.base
    entries = (i.node c).installed_alone (omega (arith, a.1, positive)) (a.1 ∙ sym at_q) a.2 ∙ ap (λ f. length (w.epoch f).base) at_q

    acked : (E : ℕ → Epoch) → E q ≡ starting e → NodeOk E c n → length n.saved.entries ≤ (E n.saved.installed).acked
    acked E is o = let s : (E n.saved.installed).acked ≡ length e.base = ap (λ (x : Epoch). x.acked) (ap E at_q ∙ is) in omega (arith, s, entries)

join_keeps : (S : Setting) (w : Memberships) (m q : ℕ) → Holds S w → Allowed S w (Join m q) → Goes S w (after w (Join m q))
join_keeps S w m q i a =
    kept_at_node S w m (joining n) i (MemberSteps.join_grows n)
    (MemberSteps.join_node w.epoch m n (i.node m) (omega (arith, a.1, positive)) (a.1 ∙ sym a.2) started acked)
    (Leaders.follows_other w.epoch m (joining n) other)
  where
    n : Node
    n = w.node m

    k : EpochOk S w.node q (w.epoch q)
    k = i.epoch q

    positive : 0 < q
    positive = k.tried_positive (k.counted_tried (k.started_counted a.0))

    started : (w.epoch n.session).started ≡ true
    started = subst (λ f. (w.epoch f).started ≡ true) (sym a.1) a.0

    acked : length n.saved.entries ≤ (w.epoch n.saved.installed).acked
    acked = let l : length n.saved.entries ≡ length (w.epoch n.saved.installed).base = (i.node m).installed_alone (omega (arith, a.1, positive)) (a.1 ∙ sym a.2) a.3 in
        let b : length (w.epoch n.saved.installed).base ≤ (w.epoch n.saved.installed).acked = subst (λ f. length (w.epoch f).base ≤ (w.epoch f).acked) (sym a.2) (k.base_acked a.0) in omega arith

    other : coordinator n.session ≢ m
    other d = let s : n.member ≡ true = (i.leads m).sits (omega (arith, a.1, positive)) d started in let f : n.member ≡ false = a.3 in cc

crash_keeps : (S : Setting) (w : Memberships) (m : ℕ) → Holds S w → Goes S w (after w (Crash m))
crash_keeps S w m i = kept_at_node S w m (crashing (w.node m)) i (MemberSteps.crash_grows (w.node m)) (MemberSteps.crash_node w.epoch m (w.node m) (i.node m)) (Leaders.leads_down w.epoch m (crashing (w.node m)) refl refl)

pub event_keeps : (S : Setting) (w : Memberships) (e : Event) → Holds S w → Allowed S w e → Goes S w (after w e)
event_keeps S w (Begin q members) i a = begin_keeps S w q members i a
event_keeps S w (Promise m q) i a = promise_keeps S w m q i a
event_keeps S w (Count q n devices) i a = count_keeps S w q n devices i a
event_keeps S w (Install m q) i a = install_keeps S w m q i a
event_keeps S w (Start q) i a = start_keeps S w q i a
event_keeps S w (Join m q) i a = join_keeps S w m q i a
event_keeps S w (Propose q u) i a = propose_keeps S w q u i a
event_keeps S w (Propose_lost q u) i a = propose_lost_keeps S w q u i a
event_keeps S w (Prepare m q u) i a = prepare_keeps S w m q u i a
event_keeps S w (Acknowledge q) i a = acknowledge_keeps S w q i a
event_keeps S w (Commit m q) i a = commit_keeps S w m q i a
event_keeps S w (Crash m) i a = crash_keeps S w m i

-- so every run does, and all that grows grows over it
pub run_goes : (S : Setting) (w : Memberships) (es : List Event) (v : Memberships) → Holds S w → Run S w es v → Goes S w v
run_goes S w [] v i r = subst (λ x. Goes S w x) (sym r) (record { holds = i; grows = grows_same S w i })
run_goes S w (e ∷ es) v i r = on (event_keeps S w e i r.0) (λ h. run_goes S (after w e) es v h r.1)
  where
    on : Goes S w (after w e) → (Holds S (after w e) → Goes S (after w e) v) → Goes S w v
    on g f = record { holds = (f g.holds).holds; grows = grows_over w (after w e) v g.grows (f g.holds).grows }

-- and it stands at first
pub first_holds : (S : Setting) → Holds S first_memberships
first_holds S = record { node = first_node_ok; leads = λ m. Leaders.leads_down (λ _. no_epoch) m first_node refl refl; epoch = first_epoch_ok S }
  where
    first_fits : Fits first_node.saved no_epoch
    first_fits = record { counted = λ h. absurd (omega arith); entries = refl; within = omega arith; base = omega arith }

    first_commits : Commits first_node.saved no_epoch
    first_commits = record { within = omega arith; one_pending = omega arith; acked = λ h. omega arith; settled = λ h. omega arith }

    first_node_ok : (m : ℕ) → NodeOk (λ _. no_epoch) m first_node
    first_node_ok m = record {
      session = λ h. refl;
      installed = omega arith;
      member_sits = λ h. absurd (cc);
      member_installed = λ h. refl;
      member_started = λ h. absurd (cc);
      seeking_session = λ h. refl;
      seeking_own = λ h. absurd (cc);
      seeking_tried = λ h. absurd (cc);
      seeking_installs = λ h. absurd (cc);
      fits = first_fits;
      commits = first_commits;
      ready_last = λ h. absurd (omega arith);
      reached_last = refl;
      ready_installed = λ f h. absurd (cc);
      ready_counted = λ f h. absurd (cc);
      ready_member = λ f h. absurd (cc);
      ready_base = λ f h. absurd (cc);
      installed_alone = λ p s h. refl;
      answered_promised = λ q h. absurd (cc);
      answered_session = λ p. absurd (omega arith);
      showed_again = λ p l. refl;
      showed_installed = λ q h. absurd (cc);
      showed_fits = λ q h. first_fits;
      showed_commits = λ q h. first_commits;
      showed_ready = λ q h p. absurd (cc);
      showed_greatest = λ q f h. absurd (cc);
      showed_all = λ q h. absurd (cc);
    }

    first_epoch_ok : (S : Setting) (q : ℕ) → EpochOk S (λ _. first_node) q no_epoch
    first_epoch_ok S q = record {
      tried_positive = λ h. absurd (cc);
      tried_promised = λ h. absurd (cc);
      tried_member = λ h. absurd (cc);
      counted_tried = λ h. h;
      counted_installed = λ h. absurd (cc);
      started_counted = λ h. h;
      counted_answered = λ h m i. absurd (cc);
      newest_member = λ h. absurd (cc);
      newest_base = λ h. refl;
      newest_settled = λ h. refl;
      newest_behind = λ h. absurd (cc);
      majority_settled = λ h. absurd (cc);
      majority_base = λ h. absurd (cc);
      started_ready = λ h. absurd (cc);
      started_reached = λ h. absurd (cc);
      one_proposed = λ h. omega arith;
      base_acked = λ h. omega arith;
      acked_log = omega arith;
      settled_base = omega arith;
      one_pending = omega arith;
      base_log = refl;
      base_within = omega arith;
      unstarted_log = λ h. refl;
      unstarted_acked = λ h. refl;
      uncounted_base = λ h. refl;
    }

pub holds_of : (S : Setting) (es : List Event) (w : Memberships) → Run S first_memberships es w → Holds S w
holds_of S es w r = (run_goes S first_memberships es w (first_holds S) r).holds
