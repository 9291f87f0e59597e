-- What a promise and an install make of a node keeps what is known of it. One lemma for each step, one line for each clause.
use Rattle.std.proofs.Common.{ℕ, ◌<◌, ◌≤◌, ◌≡◌, ◌≢◌, ◌⊎◌, inl, inr, refl, sym, subst, Bool, true, List, length, arith}
use Rattle.machine_base.specs.Put.{put}
use Rattle.machine_base.specs.Epochs.{coordinator}
use Rattle.machine_base.proofs.Puts.{put_here, put_there, put_true, put_true_stays}
use Rattle.membership_machine.specs.Records.{Update, Saved}
use Rattle.membership_machine.specs.State.{Node, Epoch}
use Rattle.membership_machine.specs.Steps.{promising, installing}
use Rattle.membership_machine.specs.Invariant.{Fits, Commits, NodeOk}
use Rattle.membership_machine.specs.Growth.{NodeGrows}

-- an epoch that a promising node answered is the new one, with the record as it is, or one answered before
answered_either : (n : Node) (q k : ℕ) → put n.answered q true k ≡ true → ((k ≡ q) × (put n.showed q n.saved k ≡ n.saved)) ⊎ ((n.answered k ≡ true) × (put n.showed q n.saved k ≡ n.showed k))
answered_either n q k h = go (put_true n.answered q k h)
  where
    go : (k ≡ q) ⊎ ((k ≢ q) × (n.answered k ≡ true)) → ((k ≡ q) × (put n.showed q n.saved k ≡ n.saved)) ⊎ ((n.answered k ≡ true) × (put n.showed q n.saved k ≡ n.showed k))
    go (inl e) = inl (e, subst (λ j. put n.showed q n.saved j ≡ n.saved) (sym e) (put_here n.showed q n.saved))
    go (inr c) = inr (c.1, put_there n.showed q n.saved k c.0)

-- so what holds of the record now, and held of each that was shown, holds of each that is shown now
showed_either : (P : ℕ → Saved → Type 0) (n : Node) (q : ℕ) → P q n.saved → ((k : ℕ) → n.answered k ≡ true → P k (n.showed k)) → (k : ℕ) → put n.answered q true k ≡ true → P k (put n.showed q n.saved k)
showed_either P n q here old k h = go (answered_either n q k h)
  where
    go : ((k ≡ q) × (put n.showed q n.saved k ≡ n.saved)) ⊎ ((n.answered k ≡ true) × (put n.showed q n.saved k ≡ n.showed k)) → P k (put n.showed q n.saved k)
    go (inl c) = subst (λ r. P k r) (sym c.1) (subst (λ j. P j n.saved) (sym c.0) here)
    go (inr c) = subst (λ r. P k r) (sym c.1) (old k c.0)

pub promise_node : (E : ℕ → Epoch) (m : ℕ) (n : Node) (q : ℕ) (b : Bool) → NodeOk E m n → n.promised < q → (b ≡ true → coordinator q ≡ m) → (b ≡ true → (E q).tried ≡ true) → NodeOk E m (promising n q b)
promise_node E m n q b o lt own tried = record {
  session = λ h. refl;
  installed = omega (arith, o.installed);
  member_sits = λ h. absurd (cc);
  member_installed = λ h. absurd (cc);
  member_started = λ h. absurd (cc);
  seeking_session = λ h. refl;
  seeking_own = own;
  seeking_tried = tried;
  seeking_installs = λ h. omega (arith, o.installed);
  fits = o.fits;
  commits = o.commits;
  ready_last = o.ready_last;
  reached_last = o.reached_last;
  ready_installed = o.ready_installed;
  ready_counted = o.ready_counted;
  ready_member = o.ready_member;
  ready_base = o.ready_base;
  installed_alone = λ p s h. absurd (omega (arith, o.installed));
  answered_promised = showed_either (λ k r. k ≤ q) n q (omega arith) (λ k h. omega (arith, o.answered_promised k h));
  answered_session = λ p. put_here n.answered q true;
  showed_again = λ p l. put_here n.showed q n.saved;
  showed_installed = showed_either (λ k r. r.installed < k) n q (omega (arith, o.installed)) o.showed_installed;
  showed_fits = showed_either (λ k r. Fits r (E r.installed)) n q o.fits o.showed_fits;
  showed_commits = showed_either (λ k r. Commits r (E r.installed)) n q o.commits o.showed_commits;
  showed_ready = showed_either (λ k r. 0 < r.installed → n.ready r.installed ≡ true) n q o.ready_last o.showed_ready;
  showed_greatest = λ k f h. showed_either (λ k r. n.ready f ≡ true → f < k → f ≤ r.installed) n q (λ i l. o.ready_installed f i) (λ k a i l. o.showed_greatest k f a i l) k h;
  showed_all = showed_either (λ k r. 0 < r.installed → n.reached r.installed ≤ length r.entries) n q (λ p. omega (arith, o.reached_last)) o.showed_all;
}

pub promise_grows : (E : ℕ → Epoch) (m : ℕ) (n : Node) (q : ℕ) (b : Bool) → NodeOk E m n → n.promised < q → NodeGrows n (promising n q b)
promise_grows E m n q b o lt = record {
  promised = omega arith;
  installed = omega arith;
  answered = λ k h. put_true_stays n.answered q k h;
  showed = λ k h. put_there n.showed q n.saved k (not_new k h);
  ready = λ f h. h;
  reached = λ f h. omega arith;
}
  where
    not_new : (k : ℕ) → n.answered k ≡ true → k ≢ q
    not_new k h e = omega (arith, o.answered_promised k h)

pub install_node : (E : ℕ → Epoch) (m : ℕ) (n : Node) (q : ℕ) (entries : List Update) (k : ℕ) → NodeOk E m n → n.session ≡ q → n.saved.installed < q
    → (E q).counted ≡ true → (E q).members m ≡ true → length (E q).base ≡ length entries
    → Fits (record { installed = q; entries = entries; committed = k }) (E q) → Commits (record { installed = q; entries = entries; committed = k }) (E q) → NodeOk E m (installing n q entries k)
install_node E m n q entries k o s lt counted member base fits commits = record {
  session = o.session;
  installed = omega (arith, o.session);
  member_sits = o.member_sits;
  member_installed = λ h. s;
  member_started = o.member_started;
  seeking_session = λ h. absurd (cc);
  seeking_own = λ h. absurd (cc);
  seeking_tried = λ h. absurd (cc);
  seeking_installs = λ h. absurd (cc);
  fits = fits;
  commits = commits;
  ready_last = λ h. put_here n.ready q true;
  reached_last = put_here n.reached q (length entries);
  ready_installed = λ f h. ready_either (λ f. f ≤ q) (omega arith) (λ f i. omega (arith, o.ready_installed f i)) f h;
  ready_counted = λ f h. ready_either (λ f. (E f).counted ≡ true) counted o.ready_counted f h;
  ready_member = λ f h. ready_either (λ f. (E f).members m ≡ true) member o.ready_member f h;
  ready_base = λ f h. ready_either (λ f. length (E f).base ≤ put n.reached q (length entries) f) (rw (put_here n.reached q (length entries)) (omega arith))
      (λ f i. rw (put_there n.reached q (length entries) f (old f i)) (o.ready_base f i)) f h;
  installed_alone = λ p e h. sym base;
  answered_promised = o.answered_promised;
  answered_session = o.answered_session;
  showed_again = λ p l. absurd (omega arith);
  showed_installed = o.showed_installed;
  showed_fits = o.showed_fits;
  showed_commits = o.showed_commits;
  showed_ready = λ k a p. put_true_stays n.ready q (n.showed k).installed (o.showed_ready k a p);
  showed_greatest = λ k f a h l. ready_either (λ f. f < k → f ≤ (n.showed k).installed) (λ l. absurd (omega (arith, o.answered_promised k a, o.session))) (λ f i l. o.showed_greatest k f a i l) f h l;
  showed_all = λ k a p. rw (put_there n.reached q (length entries) (n.showed k).installed (old (n.showed k).installed (o.showed_ready k a p))) (o.showed_all k a p);
}
  where
    old : (f : ℕ) → n.ready f ≡ true → f ≢ q
    old f h e = omega (arith, o.ready_installed f h)

    ready_either : (P : ℕ → Type 0) → P q → ((f : ℕ) → n.ready f ≡ true → P f) → (f : ℕ) → put n.ready q true f ≡ true → P f
    ready_either P here there f h = go (put_true n.ready q f h)
      where
        go : (f ≡ q) ⊎ ((f ≢ q) × (n.ready f ≡ true)) → P f
        go (inl e) = subst P (sym e) here
        go (inr c) = there f c.1

pub install_grows : (E : ℕ → Epoch) (m : ℕ) (n : Node) (q : ℕ) (entries : List Update) (k : ℕ) → NodeOk E m n → n.saved.installed < q → NodeGrows n (installing n q entries k)
install_grows E m n q entries k o lt = record {
  promised = omega arith;
  installed = omega arith;
  answered = λ k h. h;
  showed = λ k h. refl;
  ready = λ f h. put_true_stays n.ready q f h;
  reached = λ f h. rw (put_there n.reached q (length entries) f (not_new f h)) (omega arith);
}
  where
    not_new : (f : ℕ) → n.ready f ≡ true → f ≢ q
    not_new f h e = omega (arith, o.ready_installed f h)
