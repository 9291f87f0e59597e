-- What joining, saving, committing and a crash make of a node keeps what is known of it. One lemma for each step, one line for each clause.
use Rattle.std.proofs.Common.{ℕ, suc, ◌<◌, ◌≤◌, ◌≡◌, ◌≢◌, refl, sym, ◌∙◌, subst, true, false, [], ◌∷◌, ◌++◌, length, take, arith, length-append}
use Rattle.machine_base.proofs.Puts.{put_cases, put_here, put_there}
use Rattle.membership_machine.specs.Records.{Update}
use Rattle.membership_machine.specs.State.{Node, Epoch}
use Rattle.membership_machine.specs.Steps.{joining, appending, committing, crashing}
use Rattle.membership_machine.specs.Invariant.{NodeOk}
use Rattle.membership_machine.specs.Growth.{NodeGrows}

pub join_node : (E : ℕ → Epoch) (m : ℕ) (n : Node) → NodeOk E m n → 0 < n.session → n.session ≡ n.saved.installed → (E n.session).started ≡ true
    → length n.saved.entries ≤ (E n.saved.installed).acked → NodeOk E m (joining n)
join_node E m n o p s st a = record {
  session = o.session;
  installed = o.installed;
  member_sits = λ h. p;
  member_installed = λ h. s;
  member_started = λ h. st;
  seeking_session = o.seeking_session;
  seeking_own = o.seeking_own;
  seeking_tried = o.seeking_tried;
  seeking_installs = o.seeking_installs;
  fits = record { counted = o.fits.counted; entries = o.fits.entries; within = o.fits.within; base = o.fits.base };
  commits = record { within = omega arith; one_pending = omega arith; acked = λ h. a; settled = λ h. absurd (not_unstarted h) };
  ready_last = o.ready_last;
  reached_last = o.reached_last;
  ready_installed = o.ready_installed;
  ready_counted = o.ready_counted;
  ready_member = o.ready_member;
  ready_base = o.ready_base;
  installed_alone = λ q e h. absurd (cc);
  answered_promised = o.answered_promised;
  answered_session = o.answered_session;
  showed_again = λ q l. absurd (omega arith);
  showed_installed = o.showed_installed;
  showed_fits = o.showed_fits;
  showed_commits = o.showed_commits;
  showed_ready = o.showed_ready;
  showed_greatest = o.showed_greatest;
  showed_all = o.showed_all;
}
  where
    not_unstarted : (E n.saved.installed).started ≡ false → ⊥
    not_unstarted h = let t : (E n.saved.installed).started ≡ true = subst (λ f. (E f).started ≡ true) s st in cc

pub append_node : (E : ℕ → Epoch) (m : ℕ) (n : Node) (q : ℕ) (u : Update) → NodeOk E m n → n.member ≡ true → n.session ≡ q
    → length n.saved.entries ≤ (E q).acked → n.saved.entries ++ u ∷ [] ≡ take (suc (length n.saved.entries)) (E q).log → suc (length n.saved.entries) ≤ length (E q).log
    → NodeOk E m (appending n q u)
append_node E m n q u o mem s a next within = record {
  session = o.session;
  installed = o.installed;
  member_sits = o.member_sits;
  member_installed = o.member_installed;
  member_started = o.member_started;
  seeking_session = o.seeking_session;
  seeking_own = o.seeking_own;
  seeking_tried = o.seeking_tried;
  seeking_installs = o.seeking_installs;
  fits = record {
    counted = o.fits.counted;
    entries = rw more (subst (λ f. n.saved.entries ++ u ∷ [] ≡ take (suc (length n.saved.entries)) (E f).log) here next);
    within = rw more (subst (λ f. suc (length n.saved.entries) ≤ length (E f).log) here within);
    base = omega (arith, more, o.fits.base);
  };
  commits = record { within = omega (arith, more); one_pending = omega (arith, more); acked = λ h. subst (λ f. length n.saved.entries ≤ (E f).acked) here a; settled = λ h. absurd (not_unstarted h) };
  ready_last = o.ready_last;
  reached_last = rw (← here, more) (put_here n.reached q (suc (length n.saved.entries)));
  ready_installed = o.ready_installed;
  ready_counted = o.ready_counted;
  ready_member = o.ready_member;
  ready_base = λ f h. put_cases (λ f x. n.ready f ≡ true → length (E f).base ≤ x) n.reached q (suc (length n.saved.entries)) at_q (λ f ne i. o.ready_base f i) f h;
  installed_alone = λ p e h. absurd (cc);
  answered_promised = o.answered_promised;
  answered_session = o.answered_session;
  showed_again = λ p l. absurd (omega (arith, o.member_installed mem));
  showed_installed = o.showed_installed;
  showed_fits = o.showed_fits;
  showed_commits = o.showed_commits;
  showed_ready = o.showed_ready;
  showed_greatest = o.showed_greatest;
  showed_all = λ k b p. rw (put_there n.reached q (suc (length n.saved.entries)) (n.showed k).installed (below k b)) (o.showed_all k b p);
}
  where
    here : q ≡ n.saved.installed
    here = sym s ∙ o.member_installed mem

    more : length (n.saved.entries ++ u ∷ []) ≡ suc (length n.saved.entries)
    more = omega (arith, length-append {A = Update})

    not_unstarted : (E n.saved.installed).started ≡ false → ⊥
    not_unstarted h = let t : (E n.saved.installed).started ≡ true = subst (λ f. (E f).started ≡ true) (o.member_installed mem) (o.member_started mem) in cc

    at_q : n.ready q ≡ true → length (E q).base ≤ suc (length n.saved.entries)
    at_q h = let b : length (E q).base ≤ length n.saved.entries = subst (λ f. length (E f).base ≤ length n.saved.entries) (sym here) o.fits.base in omega arith

    below : (k : ℕ) → n.answered k ≡ true → (n.showed k).installed ≢ q
    below k b e = omega (arith, o.showed_installed k b, o.answered_promised k b, o.session (o.member_sits mem))

pub append_grows : (E : ℕ → Epoch) (m : ℕ) (n : Node) (q : ℕ) (u : Update) → NodeOk E m n → n.member ≡ true → n.session ≡ q → NodeGrows n (appending n q u)
append_grows E m n q u o mem s = record {
  promised = omega arith;
  installed = omega arith;
  answered = λ k h. h;
  showed = λ k h. refl;
  ready = λ f h. h;
  reached = put_cases (λ f x. n.ready f ≡ true → n.reached f ≤ x) n.reached q (suc (length n.saved.entries)) (λ h. at_q) (λ f ne h. omega arith);
}
  where
    at_q : n.reached q ≤ suc (length n.saved.entries)
    at_q = let e : n.reached q ≡ length n.saved.entries = subst (λ f. n.reached f ≡ length n.saved.entries) (sym (o.member_installed mem) ∙ s) o.reached_last in omega arith

pub commit_node : (E : ℕ → Epoch) (m : ℕ) (n : Node) → NodeOk E m n → n.member ≡ true → length n.saved.entries ≤ (E n.saved.installed).acked → NodeOk E m (committing n)
commit_node E m n o mem a = record {
  session = o.session;
  installed = o.installed;
  member_sits = o.member_sits;
  member_installed = o.member_installed;
  member_started = o.member_started;
  seeking_session = o.seeking_session;
  seeking_own = o.seeking_own;
  seeking_tried = o.seeking_tried;
  seeking_installs = o.seeking_installs;
  fits = record { counted = o.fits.counted; entries = o.fits.entries; within = o.fits.within; base = o.fits.base };
  commits = record { within = omega arith; one_pending = omega arith; acked = λ h. a; settled = λ h. absurd (not_unstarted h) };
  ready_last = o.ready_last;
  reached_last = o.reached_last;
  ready_installed = o.ready_installed;
  ready_counted = o.ready_counted;
  ready_member = o.ready_member;
  ready_base = o.ready_base;
  installed_alone = o.installed_alone;
  answered_promised = o.answered_promised;
  answered_session = o.answered_session;
  showed_again = λ p l. absurd (omega (arith, o.member_installed mem));
  showed_installed = o.showed_installed;
  showed_fits = o.showed_fits;
  showed_commits = o.showed_commits;
  showed_ready = o.showed_ready;
  showed_greatest = o.showed_greatest;
  showed_all = o.showed_all;
}
  where
    not_unstarted : (E n.saved.installed).started ≡ false → ⊥
    not_unstarted h = let t : (E n.saved.installed).started ≡ true = subst (λ f. (E f).started ≡ true) (o.member_installed mem) (o.member_started mem) in cc

pub crash_node : (E : ℕ → Epoch) (m : ℕ) (n : Node) → NodeOk E m n → NodeOk E m (crashing n)
crash_node E m n o = record {
  session = λ h. absurd (omega arith);
  installed = o.installed;
  member_sits = λ h. absurd (cc);
  member_installed = λ h. absurd (cc);
  member_started = λ h. absurd (cc);
  seeking_session = λ h. absurd (cc);
  seeking_own = λ h. absurd (cc);
  seeking_tried = λ h. absurd (cc);
  seeking_installs = λ h. absurd (cc);
  fits = o.fits;
  commits = o.commits;
  ready_last = o.ready_last;
  reached_last = o.reached_last;
  ready_installed = o.ready_installed;
  ready_counted = o.ready_counted;
  ready_member = o.ready_member;
  ready_base = o.ready_base;
  installed_alone = λ p e h. absurd (omega arith);
  answered_promised = o.answered_promised;
  answered_session = λ p. absurd (omega arith);
  showed_again = λ p l. absurd (omega arith);
  showed_installed = o.showed_installed;
  showed_fits = o.showed_fits;
  showed_commits = o.showed_commits;
  showed_ready = o.showed_ready;
  showed_greatest = o.showed_greatest;
  showed_all = o.showed_all;
}

-- joining, committing and a crash change nothing that grows
pub join_grows : (n : Node) → NodeGrows n (joining n)
join_grows n = record { promised = omega arith; installed = omega arith; answered = λ k h. h; showed = λ k h. refl; ready = λ f h. h; reached = λ f h. omega arith }

pub commit_grows : (n : Node) → NodeGrows n (committing n)
commit_grows n = record { promised = omega arith; installed = omega arith; answered = λ k h. h; showed = λ k h. refl; ready = λ f h. h; reached = λ f h. omega arith }

pub crash_grows : (n : Node) → NodeGrows n (crashing n)
crash_grows n = record { promised = omega arith; installed = omega arith; answered = λ k h. h; showed = λ k h. refl; ready = λ f h. h; reached = λ f h. omega arith }
