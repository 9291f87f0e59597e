-- How nodes and epochs grow, and that what is known of the one stays while the other grows.
use Rattle.std.proofs.Common.{ℕ, ◌<◌, ◌≤◌, ◌≡◌, ◌≢◌, ◌⊎◌, inl, inr, refl, sym, ap, ◌∙◌, subst, true, false, length, take, arith, take_all, take-take, eq-zero-or-pos}
use Rattle.machine_base.specs.Put.{put}
use Rattle.machine_base.specs.Epochs.{coordinator}
use Rattle.machine_base.proofs.Puts.{put_cases, put_here, put_there, true_or_false}
use Rattle.membership_machine.specs.Records.{Saved}
use Rattle.membership_machine.specs.Votes.{Setting}
use Rattle.membership_machine.specs.State.{Node, Epoch, Memberships}
use Rattle.membership_machine.specs.Events.{at_node, at_both}
use Rattle.membership_machine.specs.Invariant.{Fits, Commits, NodeOk, Leads, EpochOk, Holds}
use Rattle.membership_machine.specs.Growth.{NodeGrows, EpochGrows, Grows}

-- an event led from w to v: v is in order, and w grew to it
pub record Goes (S : Setting) (w v : Memberships) : Type 0 where
  pub holds : Holds S v
  pub grows : Grows w v

pub node_same : (n : Node) → NodeGrows n n
node_same n = record { promised = omega arith; installed = omega arith; answered = λ q h. h; showed = λ q h. refl; ready = λ f h. h; reached = λ f h. omega arith }

pub epoch_same : (S : Setting) (N : ℕ → Node) (q : ℕ) (e : Epoch) → EpochOk S N q e → EpochGrows e e
epoch_same S N q e k = record {
  tried = λ h. h;
  members = λ h m. refl;
  counted = λ h. h;
  holds = λ h d. refl;
  base = λ h. refl;
  settled = λ h. refl;
  started = λ h. h;
  acked = omega arith;
  log = sym (take_all (length e.log) e.log (omega arith));
  log_length = omega arith;
  covered = λ h. let a : length e.base ≤ e.acked = k.base_acked h in let b : e.settled ≤ length e.base = k.settled_base in omega arith;
}

fits_stays : (r : Saved) (e e' : Epoch) → (e.counted ≡ true) ⊎ (e' ≡ e) → EpochGrows e e' → Fits r e → Fits r e'
fits_stays r e e' (inr s) g f = subst (λ (x : Epoch). Fits r x) (sym s) f
fits_stays r e e' (inl c) g f = record {
  counted = λ h. g.counted c;
  entries = f.entries ∙ ap (take (length r.entries)) g.log ∙ take-take (length r.entries) (length e.log) e'.log f.within;
  within = omega (arith, f.within, g.log_length);
  base = rw (g.base c) f.base;
}

commits_stays : (r : Saved) (e e' : Epoch) → (e.counted ≡ true) ⊎ (e' ≡ e) → EpochGrows e e' → Commits r e → Commits r e'
commits_stays r e e' (inr s) g k = subst (λ (x : Epoch). Commits r x) (sym s) k
commits_stays r e e' (inl c) g k = record {
  within = k.within;
  one_pending = k.one_pending;
  acked = λ h. acked_by h (true_or_false e.started);
  settled = λ h. rw (g.settled c) (k.settled (unstarted h (true_or_false e.started)));
}
  where
    acked_by : e'.started ≡ true → (e.started ≡ true) ⊎ (e.started ≡ false) → r.committed ≤ e'.acked
    acked_by h (inl s) = omega (arith, k.acked s, g.acked)
    acked_by h (inr s) = omega (arith, k.settled s, g.settled c, g.covered h)

    unstarted : e'.started ≡ false → (e.started ≡ true) ⊎ (e.started ≡ false) → e.started ≡ false
    unstarted h (inl s) = let t : e'.started ≡ true = g.started s in absurd (cc)
    unstarted h (inr s) = s

counted_or_first : (E E' : ℕ → Epoch) (f : ℕ) → E' 0 ≡ E 0 → (0 < f → (E f).counted ≡ true) → ((E f).counted ≡ true) ⊎ (E' f ≡ E f)
counted_or_first E E' f z h = go (eq-zero-or-pos f)
  where
    go : (f ≡ 0) ⊎ (0 < f) → ((E f).counted ≡ true) ⊎ (E' f ≡ E f)
    go (inl e) = inr (subst (λ g. E' g ≡ E g) (sym e) z)
    go (inr p) = inl (h p)

-- what is known of a node stays while epochs grow
pub node_stays : (E E' : ℕ → Epoch) (m : ℕ) (n : Node) → ((q : ℕ) → EpochGrows (E q) (E' q)) → E' 0 ≡ E 0 → ((q : ℕ) → (E q).counted ≡ true → (E q).tried ≡ true) → NodeOk E m n → NodeOk E' m n
node_stays E E' m n g z t o = record {
  session = o.session;
  installed = o.installed;
  member_sits = o.member_sits;
  member_installed = o.member_installed;
  member_started = λ h. (g n.session).started (o.member_started h);
  seeking_session = o.seeking_session;
  seeking_own = o.seeking_own;
  seeking_tried = λ h. (g n.promised).tried (o.seeking_tried h);
  seeking_installs = o.seeking_installs;
  fits = fits_stays n.saved (E n.saved.installed) (E' n.saved.installed) (counted_or_first E E' n.saved.installed z o.fits.counted) (g n.saved.installed) o.fits;
  commits = commits_stays n.saved (E n.saved.installed) (E' n.saved.installed) (counted_or_first E E' n.saved.installed z o.fits.counted) (g n.saved.installed) o.commits;
  ready_last = o.ready_last;
  reached_last = o.reached_last;
  ready_installed = o.ready_installed;
  ready_counted = λ f h. (g f).counted (o.ready_counted f h);
  ready_member = λ f h. (g f).members (t f (o.ready_counted f h)) m ∙ o.ready_member f h;
  ready_base = λ f h. rw ((g f).base (o.ready_counted f h)) (o.ready_base f h);
  installed_alone = λ h k l. rw ((g n.saved.installed).base (o.fits.counted (omega arith))) (o.installed_alone h k l);
  answered_promised = o.answered_promised;
  answered_session = o.answered_session;
  showed_again = o.showed_again;
  showed_installed = o.showed_installed;
  showed_fits = λ q h. fits_stays (n.showed q) (E (n.showed q).installed) (E' (n.showed q).installed) (counted_or_first E E' (n.showed q).installed z (o.showed_fits q h).counted) (g (n.showed q).installed) (o.showed_fits q h);
  showed_commits = λ q h. commits_stays (n.showed q) (E (n.showed q).installed) (E' (n.showed q).installed) (counted_or_first E E' (n.showed q).installed z (o.showed_fits q h).counted) (g (n.showed q).installed) (o.showed_commits q h);
  showed_ready = o.showed_ready;
  showed_greatest = o.showed_greatest;
  showed_all = o.showed_all;
}

-- what is known of an epoch stays while nodes grow
pub epoch_stays : (S : Setting) (N N' : ℕ → Node) (q : ℕ) (e : Epoch) → ((m : ℕ) → NodeGrows (N m) (N' m)) → EpochOk S N q e → EpochOk S N' q e
epoch_stays S N N' q e g k = record {
  tried_positive = k.tried_positive;
  tried_promised = λ h. omega (arith, k.tried_promised h, (g (coordinator q)).promised);
  tried_member = k.tried_member;
  counted_tried = k.counted_tried;
  counted_installed = λ h. omega (arith, k.counted_installed h, (g (coordinator q)).installed);
  started_counted = k.started_counted;
  counted_answered = λ h m i. (g m).answered q (k.counted_answered h m i);
  newest_member = k.newest_member;
  newest_base = λ h. k.newest_base h ∙ ap (λ (x : Saved). x.entries) (sym (newest_same h));
  newest_settled = λ h. k.newest_settled h ∙ ap (λ (x : Saved). x.committed) (sym (newest_same h));
  newest_behind = λ h m i. rw (newest_same h, (g m).showed q (k.counted_answered h m i)) (k.newest_behind h m i);
  majority_settled = k.majority_settled;
  majority_base = k.majority_base;
  started_ready = λ h m i. (g m).ready q (k.started_ready h m i);
  started_reached = λ h m i. omega (arith, k.started_reached h m i, (g m).reached q (k.started_ready h m i));
  one_proposed = k.one_proposed;
  base_acked = k.base_acked;
  acked_log = k.acked_log;
  settled_base = k.settled_base;
  one_pending = k.one_pending;
  base_log = k.base_log;
  base_within = k.base_within;
  unstarted_log = k.unstarted_log;
  unstarted_acked = k.unstarted_acked;
  uncounted_base = k.uncounted_base;
}
  where
    newest_same : e.counted ≡ true → (N' e.newest).showed q ≡ (N e.newest).showed q
    newest_same h = (g e.newest).showed q (k.counted_answered h e.newest (k.newest_member h))

-- a coordinator that is not m's stays as it was where an epoch of m changes
leads_stays : (E : ℕ → Epoch) (q : ℕ) (e : Epoch) (k : ℕ) (n : Node) → coordinator q ≢ k → Leads E k n → Leads (put E q e) k n
leads_stays E q e k n ne l = record {
  sits = λ p c s. l.sits p c (subst (λ (x : Epoch). x.started ≡ true) (there c) s);
  log = λ p c. rw (there c) (l.log p c);
  acked = λ p c. rw (there c) (l.acked p c);
}
  where
    other : coordinator n.session ≡ k → n.session ≢ q
    other c s = ne (ap coordinator (sym s) ∙ c)

    there : coordinator n.session ≡ k → put E q e n.session ≡ E n.session
    there c = put_there E q e n.session (other c)

nodes_grow : (N : ℕ → Node) (m : ℕ) (n : Node) → NodeGrows (N m) n → (k : ℕ) → NodeGrows (N k) (put N m n k)
nodes_grow N m n g = put_cases (λ k x. NodeGrows (N k) x) N m n g (λ k ne. node_same (N k))

epochs_grow : (S : Setting) (w : Memberships) → Holds S w → (q : ℕ) (e : Epoch) → EpochGrows (w.epoch q) e → (k : ℕ) → EpochGrows (w.epoch k) (put w.epoch q e k)
epochs_grow S w i q e g = put_cases (λ k x. EpochGrows (w.epoch k) x) w.epoch q e g (λ k ne. epoch_same S w.node k (w.epoch k) (i.epoch k))

-- one node steps
pub kept_at_node : (S : Setting) (w : Memberships) (m : ℕ) (n : Node) → Holds S w → NodeGrows (w.node m) n → NodeOk w.epoch m n → Leads w.epoch m n → Goes S w (at_node w m n)
kept_at_node S w m n i g o l = record {
  holds = record {
    node = put_cases (λ k x. NodeOk w.epoch k x) w.node m n o (λ k ne. i.node k);
    leads = put_cases (λ k x. Leads w.epoch k x) w.node m n l (λ k ne. i.leads k);
    epoch = λ q. epoch_stays S w.node (put w.node m n) q (w.epoch q) (nodes_grow w.node m n g) (i.epoch q);
  };
  grows = record { node = nodes_grow w.node m n g; epoch = λ q. epoch_same S w.node q (w.epoch q) (i.epoch q) };
}

-- one node steps, and with it an epoch that it coordinates
pub kept_at_both : (S : Setting) (w : Memberships) (m : ℕ) (n : Node) (q : ℕ) (e : Epoch) → Holds S w → coordinator q ≡ m → 0 < q → NodeGrows (w.node m) n → EpochGrows (w.epoch q) e
    → ((E : ℕ → Epoch) → E q ≡ e → NodeOk E m (w.node m) → NodeOk E m n)
    → ((E : ℕ → Epoch) → E q ≡ e → Leads E m n)
    → ((N : ℕ → Node) → N m ≡ n → ((k : ℕ) → NodeGrows (w.node k) (N k)) → EpochOk S N q (w.epoch q) → EpochOk S N q e)
    → Goes S w (at_both w m n q e)
kept_at_both S w m n q e i c p gn ge on ol oe = record {
  holds = record {
    node = put_cases (λ k x. NodeOk E' k x) w.node m n (on E' (put_here w.epoch q e) (still m)) (λ k ne. still k);
    leads = put_cases (λ k x. Leads E' k x) w.node m n (ol E' (put_here w.epoch q e)) (λ k ne. leads_stays w.epoch q e k (w.node k) (other k ne) (i.leads k));
    epoch = put_cases (λ k x. EpochOk S N' k x) w.epoch q e (oe N' (put_here w.node m n) grown (epoch_stays S w.node N' q (w.epoch q) grown (i.epoch q))) (λ k ne. epoch_stays S w.node N' k (w.epoch k) grown (i.epoch k));
  };
  grows = record { node = grown; epoch = epochs_grow S w i q e ge };
}
  where
    E' : ℕ → Epoch
    E' = put w.epoch q e

    N' : ℕ → Node
    N' = put w.node m n

    grown : (k : ℕ) → NodeGrows (w.node k) (N' k)
    grown = nodes_grow w.node m n gn

    other : (k : ℕ) → k ≢ m → coordinator q ≢ k
    other k ne d = ne (sym d ∙ c)

    not_first : 0 ≢ q
    not_first z = omega arith

    still : (k : ℕ) → NodeOk E' k (w.node k)
    still k = node_stays w.epoch E' k (w.node k) (epochs_grow S w i q e ge) (put_there w.epoch q e 0 not_first) (λ f h. (i.epoch f).counted_tried h) (i.node k)

-- growth goes on
node_over : (n n' n'' : Node) → NodeGrows n n' → NodeGrows n' n'' → NodeGrows n n''
node_over n n' n'' g h = record {
  promised = omega (arith, g.promised, h.promised);
  installed = omega (arith, g.installed, h.installed);
  answered = λ q a. h.answered q (g.answered q a);
  showed = λ q a. h.showed q (g.answered q a) ∙ g.showed q a;
  ready = λ f r. h.ready f (g.ready f r);
  reached = λ f r. omega (arith, g.reached f r, h.reached f (g.ready f r));
}

epoch_over : (e e' e'' : Epoch) → EpochGrows e e' → EpochGrows e' e'' → EpochGrows e e''
epoch_over e e' e'' g h = record {
  tried = λ t. h.tried (g.tried t);
  members = λ t m. h.members (g.tried t) m ∙ g.members t m;
  counted = λ t. h.counted (g.counted t);
  holds = λ t d. h.holds (g.counted t) d ∙ g.holds t d;
  base = λ t. h.base (g.counted t) ∙ g.base t;
  settled = λ t. h.settled (g.counted t) ∙ g.settled t;
  started = λ t. h.started (g.started t);
  acked = omega (arith, g.acked, h.acked);
  log = g.log ∙ ap (take (length e.log)) h.log ∙ take-take (length e.log) (length e'.log) e''.log g.log_length;
  log_length = omega (arith, g.log_length, h.log_length);
  covered = h.covered;
}

pub grows_over : (u v w : Memberships) → Grows u v → Grows v w → Grows u w
grows_over u v w g h = record { node = λ m. node_over (u.node m) (v.node m) (w.node m) (g.node m) (h.node m); epoch = λ q. epoch_over (u.epoch q) (v.epoch q) (w.epoch q) (g.epoch q) (h.epoch q) }

pub grows_same : (S : Setting) (w : Memberships) → Holds S w → Grows w w
grows_same S w i = record { node = λ m. node_same (w.node m); epoch = λ q. epoch_same S w.node q (w.epoch q) (i.epoch q) }
