-- Both machines go on in agreement.
use Rattle.std.proofs.Common.{ℕ, ◌≡◌, refl, sym, ◌∙◌, ap, subst, Bool, true, false, List, [], ◌∷◌, arith}
use Rattle.machine_base.specs.Put.{put}
use Rattle.machine_base.specs.Epochs.{coordinator}
use Rattle.machine_base.proofs.Puts.{put_cases, put_here, put_there}
use Rattle.membership_machine.specs.Records.{Update, Saved}
use Rattle.membership_machine.specs.Votes.{Setting}
use Rattle.membership_machine.specs.State.{Node, Epoch, Memberships}
use Rattle.membership_machine.specs.Steps as step
use Rattle.membership_machine.specs.Events as membership
use Rattle.membership_machine.specs.Invariant as inside
use Rattle.device_machine.specs.Initiator as initiator
use Rattle.device_machine.specs.Initiator.{Initiator}
use Rattle.device_machine.specs.Attempt as attempt
use Rattle.device_machine.specs.Attempt.{Attempt}
use Rattle.device_machine.specs.Sharing as sharing
use Rattle.device_machine.specs.Sharing.{Sharing}
use Rattle.cluster_machine.specs.Cluster.{Joining, Apart, Seizer, Known, New, install_at, count_at, part, all_after, VotesUnder, is_command}
use Rattle.cluster_machine.specs.Agreement.{SameNode, SameAttempt, Agrees}
use Rattle.cluster_machine.proofs.Commands.{Unmoved, Unchanged, Still, command_still}

-- node m steps in both machines, or in one of them
nodes_both : (N : ℕ → Node) (V : ℕ → Initiator) (m : ℕ) (n : Node) (v : Initiator) → ((k : ℕ) → SameNode (N k) (V k)) → SameNode n v → (k : ℕ) → SameNode (put N m n k) (put V m v k)
nodes_both N V m n v old new k = put_cases (λ j x. SameNode x (put V m v j)) N m n (subst (λ x. SameNode n x) (sym (put_here V m v)) new)
    (λ j ne. subst (λ x. SameNode (N j) x) (sym (put_there V m v j ne)) (old j)) k

nodes_one : (N : ℕ → Node) (V : ℕ → Initiator) (m : ℕ) (n : Node) → ((k : ℕ) → SameNode (N k) (V k)) → SameNode n (V m) → (k : ℕ) → SameNode (put N m n k) (V k)
nodes_one N V m n old new = put_cases (λ j x. SameNode x (V j)) N m n new (λ j ne. old j)

-- and so for attempts
attempts_both : (S : Setting) (d : ℕ) (E : ℕ → Epoch) (A : ℕ → Attempt) (q : ℕ) (e : Epoch) (a : Attempt) → ((k : ℕ) → SameAttempt S d (E k) (A k)) → SameAttempt S d e a → (k : ℕ) → SameAttempt S d (put E q e k) (put A q a k)
attempts_both S d E A q e a old new k = put_cases (λ j x. SameAttempt S d x (put A q a j)) E q e (subst (λ x. SameAttempt S d e x) (sym (put_here A q a)) new)
    (λ j ne. subst (λ x. SameAttempt S d (E j) x) (sym (put_there A q a j ne)) (old j)) k

attempts_one : (S : Setting) (d : ℕ) (E : ℕ → Epoch) (A : ℕ → Attempt) (q : ℕ) (e : Epoch) → ((k : ℕ) → SameAttempt S d (E k) (A k)) → SameAttempt S d e (A q) → (k : ℕ) → SameAttempt S d (put E q e k) (A k)
attempts_one S d E A q e old new = put_cases (λ j x. SameAttempt S d x (A j)) E q e new (λ j ne. old j)

-- what a node becomes in both

promise_same : (n : Node) (v : Initiator) (q : ℕ) (b : Bool) → SameNode n v → SameNode (step.promising n q b) (initiator.promising v q)
promise_same n v q b s = record {
  promised = refl;
  session = refl;
  installed = s.installed;
  showed = λ k. put_cases (λ j x. x ≡ (put n.showed q n.saved j).installed) v.past.showed q v.installed (s.installed ∙ ap (λ (r : Saved). r.installed) (sym (put_here n.showed q n.saved)))
      (λ j ne. s.showed j ∙ ap (λ (r : Saved). r.installed) (sym (put_there n.showed q n.saved j ne))) k;
}

crash_same : (n : Node) (v : Initiator) → SameNode n v → SameNode (step.crashing n) (initiator.crashing v)
crash_same n v s = record { promised = s.promised; session = refl; installed = s.installed; showed = s.showed }

-- an install at a device
abbrev installed_by : Joining → Initiator → Initiator
installed_by Apart v = initiator.installing v
installed_by Seizer v = initiator.admitted (initiator.installing v)
installed_by Known v = initiator.admitted (initiator.installing v)
installed_by New v = initiator.joining v

install_is : (j : Joining) (s : Sharing) (n : ℕ) → all_after s (install_at j n ∷ []) ≡ sharing.at_node s n (installed_by j (s.node n))
install_is Apart s n = refl
install_is Seizer s n = refl
install_is Known s n = refl
install_is New s n = refl

count_is : (b : Bool) (s : Sharing) (q : ℕ) → sharing.after s (count_at b q) ≡ sharing.at_attempt s q (attempt.counting (s.attempt q) b)
count_is true s q = refl
count_is false s q = refl

install_same : (j : Joining) (n : Node) (v : Initiator) (q : ℕ) (entries : List Update) (k : ℕ) → SameNode n v → n.session ≡ q → SameNode (step.installing n q entries k) (installed_by j v)
install_same Apart n v q entries k s e = record { promised = s.promised; session = s.session; installed = s.session ∙ e; showed = s.showed }
install_same Seizer n v q entries k s e = record { promised = s.promised; session = s.session; installed = s.session ∙ e; showed = s.showed }
install_same Known n v q entries k s e = record { promised = s.promised; session = s.session; installed = s.session ∙ e; showed = s.showed }
install_same New n v q entries k s e = record { promised = s.promised; session = s.session; installed = s.session ∙ e; showed = s.showed }

-- what an attempt becomes

begin_same : (S : Setting) (d : ℕ) (e : Epoch) (a : Attempt) (members : ℕ → Bool) → (e.tried ≡ true → ⊥) → SameAttempt S d e a → SameAttempt S d (step.beginning e members) a
begin_same S d e a members un s = record { tried = λ c. refl; members = λ c m. absurd (un (s.tried c)); counted = s.counted; holds = s.holds; quorum = s.quorum }

count_same : (S : Setting) (d q n : ℕ) (e : Epoch) (a : Attempt) (devices : ℕ → Bool) (r : Saved) → (devices d ≡ true → VotesUnder S r d → a.quorum ≡ true) → SameAttempt S d e a
    → SameAttempt S d (step.counting e n devices r) (attempt.counting a (devices d))
count_same S d q n e a devices r h s = record { tried = s.tried; members = s.members; counted = refl; holds = λ c. refl; quorum = λ c. h }

start_same : (S : Setting) (d : ℕ) (e : Epoch) (a : Attempt) → SameAttempt S d e a → SameAttempt S d (step.starting e) a
start_same S d e a s = record { tried = s.tried; members = s.members; counted = s.counted; holds = s.holds; quorum = s.quorum }

propose_same : (S : Setting) (d : ℕ) (e : Epoch) (a : Attempt) (u : Update) → SameAttempt S d e a → SameAttempt S d (step.proposing e u) a
propose_same S d e a u s = record { tried = s.tried; members = s.members; counted = s.counted; holds = s.holds; quorum = s.quorum }

acknowledge_same : (S : Setting) (d : ℕ) (e : Epoch) (a : Attempt) → SameAttempt S d e a → SameAttempt S d (step.acknowledging e) a
acknowledge_same S d e a s = record { tried = s.tried; members = s.members; counted = s.counted; holds = s.holds; quorum = s.quorum }

collect_same : (S : Setting) (d : ℕ) (e : Epoch) (a : Attempt) → e.tried ≡ true → SameAttempt S d e a → SameAttempt S d e (attempt.collecting a e.members)
collect_same S d e a t s = record { tried = λ c. t; members = λ c m. refl; counted = s.counted; holds = s.holds; quorum = s.quorum }

-- a step of memberships in which node m keeps promise, session, installed epoch and what it showed
quiet_same : (n n' : Node) (v : Initiator) → n'.promised ≡ n.promised → n'.session ≡ n.session → n'.saved.installed ≡ n.saved.installed → ((q : ℕ) → n'.showed q ≡ n.showed q) → SameNode n v → SameNode n' v
quiet_same n n' v p e i h s = record { promised = s.promised ∙ sym p; session = s.session ∙ sym e; installed = s.installed ∙ sym i; showed = λ q. s.showed q ∙ ap (λ (r : Saved). r.installed) (sym (h q)) }

-- at one device, a step of memberships with the device's part

pub step_agrees : (S : Setting) (d : ℕ) (w : Memberships) (s : Sharing) (e : membership.Event) (joining : ℕ → Joining) → inside.Holds S w → membership.Allowed S w e
    → ((q n : ℕ) (devices : ℕ → Bool) → e ≡ membership.Count q n devices → devices d ≡ true → VotesUnder S ((w.node n).showed q) d → (s.attempt q).quorum ≡ true)
    → Agrees S d w s → Agrees S d (membership.after w e) (all_after s (part e joining d))
step_agrees S d w s (membership.Begin q members) joining i a c g = record {
  node = nodes_both w.node s.node (coordinator q) _ _ g.node (promise_same (w.node (coordinator q)) (s.node (coordinator q)) q true (g.node (coordinator q)));
  attempt = attempts_one S d w.epoch s.attempt q _ g.attempt (begin_same S d (w.epoch q) (s.attempt q) members (λ t. omega (arith, (i.epoch q).tried_promised t, a.0)) (g.attempt q));
}
step_agrees S d w s (membership.Promise m q) joining i a c g = record {
  node = nodes_both w.node s.node m _ _ g.node (promise_same (w.node m) (s.node m) q false (g.node m));
  attempt = g.attempt;
}
step_agrees S d w s (membership.Count q n devices) joining i a c g =
    subst (λ t. Agrees S d (membership.after w (membership.Count q n devices)) t) (sym (install_is (joining d) (sharing.after s (count_at (devices d) q)) (coordinator q)))
    (subst (λ t. Agrees S d (membership.after w (membership.Count q n devices)) (sharing.at_node t (coordinator q) (installed_by (joining d) (t.node (coordinator q))))) (sym (count_is (devices d) s q))
    (record {
      node = nodes_both w.node s.node (coordinator q) _ _ g.node (install_same (joining d) (w.node (coordinator q)) (s.node (coordinator q)) q _ _ (g.node (coordinator q)) a.0);
      attempt = attempts_both S d w.epoch s.attempt q _ _ g.attempt (count_same S d q n (w.epoch q) (s.attempt q) devices ((w.node n).showed q) (c q n devices refl) (g.attempt q));
    }))
step_agrees S d w s (membership.Install m q) joining i a c g =
    subst (λ t. Agrees S d (membership.after w (membership.Install m q)) t) (sym (install_is (joining d) s m))
    (record { node = nodes_both w.node s.node m _ _ g.node (install_same (joining d) (w.node m) (s.node m) q _ _ (g.node m) a.2); attempt = g.attempt })
step_agrees S d w s (membership.Start q) joining i a c g = record {
  node = nodes_one w.node s.node (coordinator q) _ g.node (quiet_same (w.node (coordinator q)) _ (s.node (coordinator q)) refl refl refl (λ k. refl) (g.node (coordinator q)));
  attempt = attempts_one S d w.epoch s.attempt q _ g.attempt (start_same S d (w.epoch q) (s.attempt q) (g.attempt q));
}
step_agrees S d w s (membership.Join m q) joining i a c g = record {
  node = nodes_one w.node s.node m _ g.node (quiet_same (w.node m) _ (s.node m) refl refl refl (λ k. refl) (g.node m));
  attempt = g.attempt;
}
step_agrees S d w s (membership.Propose q u) joining i a c g = record {
  node = nodes_one w.node s.node (coordinator q) _ g.node (quiet_same (w.node (coordinator q)) _ (s.node (coordinator q)) refl refl refl (λ k. refl) (g.node (coordinator q)));
  attempt = attempts_one S d w.epoch s.attempt q _ g.attempt (propose_same S d (w.epoch q) (s.attempt q) u (g.attempt q));
}
step_agrees S d w s (membership.Propose_lost q u) joining i a c g = record {
  node = nodes_both w.node s.node (coordinator q) _ _ g.node (crash_same (w.node (coordinator q)) (s.node (coordinator q)) (g.node (coordinator q)));
  attempt = attempts_one S d w.epoch s.attempt q _ g.attempt (propose_same S d (w.epoch q) (s.attempt q) u (g.attempt q));
}
step_agrees S d w s (membership.Prepare m q u) joining i a c g = record {
  node = nodes_one w.node s.node m _ g.node (quiet_same (w.node m) _ (s.node m) refl refl refl (λ k. refl) (g.node m));
  attempt = g.attempt;
}
step_agrees S d w s (membership.Acknowledge q) joining i a c g = record {
  node = nodes_one w.node s.node (coordinator q) _ g.node (quiet_same (w.node (coordinator q)) _ (s.node (coordinator q)) refl refl refl (λ k. refl) (g.node (coordinator q)));
  attempt = attempts_one S d w.epoch s.attempt q _ g.attempt (acknowledge_same S d (w.epoch q) (s.attempt q) (g.attempt q));
}
step_agrees S d w s (membership.Commit m q) joining i a c g = record {
  node = nodes_one w.node s.node m _ g.node (quiet_same (w.node m) _ (s.node m) refl refl refl (λ k. refl) (g.node m));
  attempt = g.attempt;
}
step_agrees S d w s (membership.Crash m) joining i a c g = record {
  node = nodes_both w.node s.node m _ _ g.node (crash_same (w.node m) (s.node m) (g.node m));
  attempt = g.attempt;
}

pub collected_agrees : (S : Setting) (d : ℕ) (w : Memberships) (s : Sharing) (q : ℕ) → (w.epoch q).tried ≡ true → Agrees S d w s → Agrees S d w (sharing.after s (sharing.Collected q (w.epoch q).members))
collected_agrees S d w s q t g = record {
  node = g.node;
  attempt = put_cases (λ j x. SameAttempt S d (w.epoch j) x) s.attempt q _ (collect_same S d (w.epoch q) (s.attempt q) t (g.attempt q)) (λ j ne. g.attempt j);
}

still_node : (n : Node) (v v' : Initiator) → Unmoved v v' → SameNode n v → SameNode n v'
still_node n v v' u s = record { promised = u.promised ∙ s.promised; session = u.session ∙ s.session; installed = u.installed ∙ s.installed; showed = λ q. u.showed q ∙ s.showed q }

still_attempt : (S : Setting) (d : ℕ) (e : Epoch) (a a' : Attempt) → Unchanged a a' → SameAttempt S d e a → SameAttempt S d e a'
still_attempt S d e a a' u s = record {
  tried = λ c. s.tried (sym u.collected ∙ c);
  members = λ c m. u.members m ∙ s.members (sym u.collected ∙ c) m;
  counted = u.counted ∙ s.counted;
  holds = λ c. u.holds ∙ s.holds c;
  quorum = λ c h v. u.quorum (s.counted ∙ c) ∙ s.quorum c h v;
}

pub command_agrees : (S : Setting) (d : ℕ) (w : Memberships) (s : Sharing) (e : sharing.Event) → is_command e ≡ true → sharing.Allowed s e → Agrees S d w s → Agrees S d w (sharing.after s e)
command_agrees S d w s e c a g = go (command_still s e c a)
  where
    go : Still s (sharing.after s e) → Agrees S d w (sharing.after s e)
    go t = record { node = λ n. still_node (w.node n) (s.node n) ((sharing.after s e).node n) (t.node n) (g.node n); attempt = λ q. still_attempt S d (w.epoch q) (s.attempt q) ((sharing.after s e).attempt q) (t.attempt q) (g.attempt q) }
