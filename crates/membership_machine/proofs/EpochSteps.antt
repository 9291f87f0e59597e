-- What each step makes of an epoch keeps what is known of it, and the epoch grows by it.
use Rattle.std.proofs.Common.{ℕ, suc, ◌+◌, ◌<◌, ◌≤◌, ◌≡◌, refl, sym, ap, ◌∙◌, subst, Bool, true, false, List, [], ◌∷◌, ◌++◌, length, take, arith, length-append, take_all}
use Rattle.std.proofs.lemmas.List.{take-append-le}
use Rattle.machine_base.specs.Epochs.{coordinator}
use Rattle.membership_machine.specs.Records.{Update, Saved, IsBehind}
use Rattle.membership_machine.specs.Votes.{Setting}
use Rattle.membership_machine.specs.State.{Node, Epoch}
use Rattle.membership_machine.specs.Steps.{beginning, counting, starting, proposing, acknowledging}
use Rattle.membership_machine.specs.Events.{IsCounted}
use Rattle.membership_machine.specs.Invariant.{EpochOk}
use Rattle.membership_machine.specs.Growth.{EpochGrows}

-- Begin

pub begin_epoch : (S : Setting) (N : ℕ → Node) (q : ℕ) (e : Epoch) (members : ℕ → Bool) → EpochOk S N q e → e.counted ≡ false → e.started ≡ false → 0 < q
    → q ≤ (N (coordinator q)).promised → members (coordinator q) ≡ true → EpochOk S N q (beginning e members)
begin_epoch S N q e members k c s p pr own = record {
  tried_positive = λ h. p;
  tried_promised = λ h. pr;
  tried_member = λ h. own;
  counted_tried = λ h. refl;
  counted_installed = k.counted_installed;
  started_counted = k.started_counted;
  counted_answered = λ h. absurd (cc);
  newest_member = λ h. absurd (cc);
  newest_base = k.newest_base;
  newest_settled = k.newest_settled;
  newest_behind = λ h. absurd (cc);
  majority_settled = λ h. absurd (cc);
  majority_base = λ h. absurd (cc);
  started_ready = λ h. absurd (cc);
  started_reached = λ h. absurd (cc);
  one_proposed = k.one_proposed;
  base_acked = k.base_acked;
  acked_log = k.acked_log;
  settled_base = k.settled_base;
  one_pending = k.one_pending;
  base_log = k.base_log;
  base_within = k.base_within;
  unstarted_log = k.unstarted_log;
  unstarted_acked = k.unstarted_acked;
  uncounted_base = k.uncounted_base;
}

pub begin_grows : (e : Epoch) (members : ℕ → Bool) → e.tried ≡ false → e.started ≡ false → EpochGrows e (beginning e members)
begin_grows e members t s = record {
  tried = λ h. refl;
  members = λ h. absurd (cc);
  counted = λ h. h;
  holds = λ h d. refl;
  base = λ h. refl;
  settled = λ h. refl;
  started = λ h. h;
  acked = omega arith;
  log = sym (take_all (length e.log) e.log (omega arith));
  log_length = omega arith;
  covered = λ h. absurd (cc);
}

-- Count

pub count_epoch : (S : Setting) (N : ℕ → Node) (q : ℕ) (e : Epoch) (n : ℕ) (devices : ℕ → Bool) (r : Saved) → EpochOk S N q e → e.tried ≡ true → e.started ≡ false
    → q ≤ (N (coordinator q)).saved.installed → ((m : ℕ) → e.members m ≡ true → (N m).answered q ≡ true) → e.members n ≡ true → (N n).showed q ≡ r
    → ((m : ℕ) → e.members m ≡ true → IsBehind ((N m).showed q) r) → IsCounted S r e.members devices → r.committed ≤ length r.entries → length r.entries ≤ r.committed + 1
    → EpochOk S N q (counting e n devices r)
count_epoch S N q e n devices r k t s i all mem is behind counted low one = record {
  tried_positive = k.tried_positive;
  tried_promised = k.tried_promised;
  tried_member = k.tried_member;
  counted_tried = λ h. t;
  counted_installed = λ h. i;
  started_counted = λ h. refl;
  counted_answered = λ h. all;
  newest_member = λ h. mem;
  newest_base = λ h. ap (λ (x : Saved). x.entries) (sym is);
  newest_settled = λ h. ap (λ (x : Saved). x.committed) (sym is);
  newest_behind = λ h m d. subst (λ (x : Saved). IsBehind ((N m).showed q) x) (sym is) (behind m d);
  majority_settled = λ h. counted.under_committed;
  majority_base = λ h. counted.under_pending;
  started_ready = λ h. absurd (cc);
  started_reached = λ h. absurd (cc);
  one_proposed = λ h. absurd (cc);
  base_acked = λ h. absurd (cc);
  acked_log = omega (arith, k.unstarted_acked s);
  settled_base = low;
  one_pending = one;
  base_log = sym (take_all (length r.entries) r.entries (omega arith));
  base_within = omega arith;
  unstarted_log = λ h. refl;
  unstarted_acked = k.unstarted_acked;
  uncounted_base = λ h. absurd (cc);
}

pub count_grows : (S : Setting) (N : ℕ → Node) (q : ℕ) (e : Epoch) (n : ℕ) (devices : ℕ → Bool) (r : Saved) → EpochOk S N q e → e.counted ≡ false → e.started ≡ false → EpochGrows e (counting e n devices r)
count_grows S N q e n devices r k c s = record {
  tried = λ h. h;
  members = λ h m. refl;
  counted = λ h. refl;
  holds = λ h. absurd (cc);
  base = λ h. absurd (cc);
  settled = λ h. absurd (cc);
  started = λ h. h;
  acked = omega arith;
  log = subst (λ (xs : List Update). xs ≡ take (length xs) r.entries) (sym empty) refl;
  log_length = rw empty (omega arith);
  covered = λ h. absurd (cc);
}
  where
    empty : e.log ≡ []
    empty = k.unstarted_log s ∙ k.uncounted_base c

-- Start

pub start_epoch : (S : Setting) (N : ℕ → Node) (q : ℕ) (e : Epoch) → EpochOk S N q e → e.counted ≡ true → e.started ≡ false
    → ((m : ℕ) → e.members m ≡ true → (N m).ready q ≡ true) → ((m : ℕ) → e.members m ≡ true → length e.base ≤ (N m).reached q) → EpochOk S N q (starting e)
start_epoch S N q e k c s ready reached = record {
  tried_positive = k.tried_positive;
  tried_promised = k.tried_promised;
  tried_member = k.tried_member;
  counted_tried = k.counted_tried;
  counted_installed = k.counted_installed;
  started_counted = λ h. c;
  counted_answered = k.counted_answered;
  newest_member = k.newest_member;
  newest_base = k.newest_base;
  newest_settled = k.newest_settled;
  newest_behind = k.newest_behind;
  majority_settled = k.majority_settled;
  majority_base = k.majority_base;
  started_ready = λ h. ready;
  started_reached = λ h. reached;
  one_proposed = λ h. let l : length e.log ≡ length e.base = ap length (k.unstarted_log s) in omega arith;
  base_acked = λ h. omega arith;
  acked_log = k.base_within;
  settled_base = k.settled_base;
  one_pending = k.one_pending;
  base_log = k.base_log;
  base_within = k.base_within;
  unstarted_log = λ h. absurd (cc);
  unstarted_acked = λ h. absurd (cc);
  uncounted_base = k.uncounted_base;
}

pub start_grows : (S : Setting) (N : ℕ → Node) (q : ℕ) (e : Epoch) → EpochOk S N q e → e.started ≡ false → EpochGrows e (starting e)
start_grows S N q e k s = record {
  tried = λ h. h;
  members = λ h m. refl;
  counted = λ h. h;
  holds = λ h d. refl;
  base = λ h. refl;
  settled = λ h. refl;
  started = λ h. refl;
  acked = omega (arith, k.unstarted_acked s);
  log = sym (take_all (length e.log) e.log (omega arith));
  log_length = omega arith;
  covered = λ h. k.settled_base;
}

-- Propose

pub propose_epoch : (S : Setting) (N : ℕ → Node) (q : ℕ) (e : Epoch) (u : Update) → EpochOk S N q e → e.started ≡ true → length e.log ≤ e.acked → EpochOk S N q (proposing e u)
propose_epoch S N q e u k s l = record {
  tried_positive = k.tried_positive;
  tried_promised = k.tried_promised;
  tried_member = k.tried_member;
  counted_tried = k.counted_tried;
  counted_installed = k.counted_installed;
  started_counted = k.started_counted;
  counted_answered = k.counted_answered;
  newest_member = k.newest_member;
  newest_base = k.newest_base;
  newest_settled = k.newest_settled;
  newest_behind = k.newest_behind;
  majority_settled = k.majority_settled;
  majority_base = k.majority_base;
  started_ready = k.started_ready;
  started_reached = k.started_reached;
  one_proposed = λ h. omega (arith, more);
  base_acked = k.base_acked;
  acked_log = omega (arith, more, k.acked_log);
  settled_base = k.settled_base;
  one_pending = k.one_pending;
  base_log = k.base_log ∙ sym (take-append-le (length e.base) e.log (u ∷ []) k.base_within);
  base_within = omega (arith, more, k.base_within);
  unstarted_log = λ h. absurd (cc);
  unstarted_acked = k.unstarted_acked;
  uncounted_base = k.uncounted_base;
}
  where
    more : length (e.log ++ u ∷ []) ≡ suc (length e.log)
    more = omega (arith, length-append {A = Update})

pub propose_grows : (S : Setting) (N : ℕ → Node) (q : ℕ) (e : Epoch) (u : Update) → EpochOk S N q e → EpochGrows e (proposing e u)
propose_grows S N q e u k = record {
  tried = λ h. h;
  members = λ h m. refl;
  counted = λ h. h;
  holds = λ h d. refl;
  base = λ h. refl;
  settled = λ h. refl;
  started = λ h. h;
  acked = omega arith;
  log = sym (take_all (length e.log) e.log (omega arith)) ∙ sym (take-append-le (length e.log) e.log (u ∷ []) (omega arith));
  log_length = omega (arith, length-append {A = Update});
  covered = λ h. omega (arith, k.base_acked h, k.settled_base);
}

-- Acknowledge

pub acknowledge_epoch : (S : Setting) (N : ℕ → Node) (q : ℕ) (e : Epoch) → EpochOk S N q e → e.started ≡ true
    → ((m : ℕ) → e.members m ≡ true → length e.log ≤ (N m).reached q) → EpochOk S N q (acknowledging e)
acknowledge_epoch S N q e k s all = record {
  tried_positive = k.tried_positive;
  tried_promised = k.tried_promised;
  tried_member = k.tried_member;
  counted_tried = k.counted_tried;
  counted_installed = k.counted_installed;
  started_counted = k.started_counted;
  counted_answered = k.counted_answered;
  newest_member = k.newest_member;
  newest_base = k.newest_base;
  newest_settled = k.newest_settled;
  newest_behind = k.newest_behind;
  majority_settled = k.majority_settled;
  majority_base = k.majority_base;
  started_ready = k.started_ready;
  started_reached = λ h. all;
  one_proposed = λ h. omega arith;
  base_acked = λ h. k.base_within;
  acked_log = omega arith;
  settled_base = k.settled_base;
  one_pending = k.one_pending;
  base_log = k.base_log;
  base_within = k.base_within;
  unstarted_log = k.unstarted_log;
  unstarted_acked = λ h. absurd (cc);
  uncounted_base = k.uncounted_base;
}

pub acknowledge_grows : (S : Setting) (N : ℕ → Node) (q : ℕ) (e : Epoch) → EpochOk S N q e → EpochGrows e (acknowledging e)
acknowledge_grows S N q e k = record {
  tried = λ h. h;
  members = λ h m. refl;
  counted = λ h. h;
  holds = λ h d. refl;
  base = λ h. refl;
  settled = λ h. refl;
  started = λ h. h;
  acked = k.acked_log;
  log = sym (take_all (length e.log) e.log (omega arith));
  log_length = omega arith;
  covered = λ h. omega (arith, k.base_within, k.settled_base);
}
