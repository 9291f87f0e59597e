-- Proposals and acknowledgements keep the invariant.
use Rattle.std.proofs.Common.{ℕ, suc, ◌<◌, ◌≤◌, ◌≡◌, refl, sym, ap, ◌∙◌, subst, true, List, [], ◌∷◌, ◌++◌, length, take, arith, length-append, take_all}
use Rattle.machine_base.specs.Epochs.{coordinator}
use Rattle.membership_machine.specs.Records.{Update}
use Rattle.membership_machine.specs.Votes.{Setting}
use Rattle.membership_machine.specs.State.{Node, Epoch, Memberships}
use Rattle.membership_machine.specs.Steps.{appending, committing, crashing, proposing, acknowledging}
use Rattle.membership_machine.specs.Events.{Propose, Propose_lost, Prepare, Acknowledge, Commit, Allowed, after, Sits}
use Rattle.membership_machine.specs.Invariant.{EpochOk, Holds}
use Rattle.membership_machine.proofs.Prefixes.{next_part, next_within}
use Rattle.membership_machine.proofs.Growth.{Goes, kept_at_node, kept_at_both}
use Rattle.membership_machine.proofs.MemberSteps
use Rattle.membership_machine.proofs.EpochSteps
use Rattle.membership_machine.proofs.Leaders

-- the president has all of the log, and where nothing is pending all of it is acknowledged
record President (w : Memberships) (q : ℕ) : Type 0 where
  positive : 0 < q
  installed : (w.node (coordinator q)).saved.installed ≡ q
  started : (w.epoch q).started ≡ true
  log : length (w.node (coordinator q)).saved.entries ≡ length (w.epoch q).log
  acked : (w.node (coordinator q)).saved.committed ≡ (w.epoch q).acked
  entries : (w.node (coordinator q)).saved.entries ≡ (w.epoch q).log

president : (S : Setting) (w : Memberships) (q : ℕ) → Holds S w → Sits (w.node (coordinator q)) q → President w q
president S w q i a = record {
  positive = omega (arith, a.1, (i.node c).member_sits a.0);
  installed = installed;
  started = subst (λ f. (w.epoch f).started ≡ true) a.1 ((i.node c).member_started a.0);
  log = log;
  acked = (i.leads c).acked a.0 (ap coordinator a.1) ∙ ap (λ f. (w.epoch f).acked) a.1;
  entries = (i.node c).fits.entries ∙ ap (λ f. take (length (w.node c).saved.entries) (w.epoch f).log) installed ∙ take_all (length (w.node c).saved.entries) (w.epoch q).log (omega (arith, log));
}
  where
    c : ℕ
    c = coordinator q

    installed : (w.node c).saved.installed ≡ q
    installed = sym ((i.node c).member_installed a.0) ∙ a.1

    log : length (w.node c).saved.entries ≡ length (w.epoch q).log
    log = (i.leads c).log a.0 (ap coordinator a.1) ∙ ap (λ f. length (w.epoch f).log) a.1

pub propose_keeps : (S : Setting) (w : Memberships) (q : ℕ) (u : Update) → Holds S w → Allowed S w (Propose q u) → Goes S w (after w (Propose q u))
propose_keeps S w q u i a =
    kept_at_both S w c (appending n q u) q (proposing e u) i refl p.positive (MemberSteps.append_grows w.epoch c n q u (i.node c) a.0.0 a.0.1) (EpochSteps.propose_grows S w.node q e u (i.epoch q))
    (λ E is o. MemberSteps.append_node E c n q u o a.0.0 a.0.1 (subst (λ (x : Epoch). length n.saved.entries ≤ x.acked) (sym is) (omega (arith, all)))
    (subst (λ (x : Epoch). n.saved.entries ++ u ∷ [] ≡ take (suc (length n.saved.entries)) x.log) (sym is) next)
    (subst (λ (x : Epoch). suc (length n.saved.entries) ≤ length x.log) (sym is) (omega (arith, more))))
    (λ E is. Leaders.leads_member E c (appending n q u) a.0.0 (ap (λ (xs : List Update). length (xs ++ u ∷ [])) p.entries ∙ sym (ap (λ (x : Epoch). length x.log) (ap E a.0.1 ∙ is))) (all ∙ sym (ap (λ (x : Epoch). x.acked) (ap E a.0.1 ∙ is))))
    (λ N at g k. EpochSteps.propose_epoch S N q e u k p.started (omega (arith, p.log, all)))
  where
    c : ℕ
    c = coordinator q

    n : Node
    n = w.node c

    e : Epoch
    e = w.epoch q

    p : President w q
    p = president S w q i a.0

    all : length n.saved.entries ≡ e.acked
    all = sym a.1 ∙ p.acked

    more : length (e.log ++ u ∷ []) ≡ suc (length n.saved.entries)
    more = omega (arith, length-append {A = Update}, p.log)

    next : n.saved.entries ++ u ∷ [] ≡ take (suc (length n.saved.entries)) (e.log ++ u ∷ [])
    next = ap (λ (xs : List Update). xs ++ u ∷ []) p.entries ∙ sym (take_all (suc (length n.saved.entries)) (e.log ++ u ∷ []) (omega (arith, more)))

pub propose_lost_keeps : (S : Setting) (w : Memberships) (q : ℕ) (u : Update) → Holds S w → Allowed S w (Propose_lost q u) → Goes S w (after w (Propose_lost q u))
propose_lost_keeps S w q u i a =
    kept_at_both S w c (crashing n) q (proposing e u) i refl p.positive (MemberSteps.crash_grows n) (EpochSteps.propose_grows S w.node q e u (i.epoch q))
    (λ E is o. MemberSteps.crash_node E c n o)
    (λ E is. Leaders.leads_down E c (crashing n) refl refl)
    (λ N at g k. EpochSteps.propose_epoch S N q e u k p.started (omega (arith, p.log, p.acked, a.1)))
  where
    c : ℕ
    c = coordinator q

    n : Node
    n = w.node c

    e : Epoch
    e = w.epoch q

    p : President w q
    p = president S w q i a.0

pub prepare_keeps : (S : Setting) (w : Memberships) (m q : ℕ) (u : Update) → Holds S w → Allowed S w (Prepare m q u) → Goes S w (after w (Prepare m q u))
prepare_keeps S w m q u i a =
    kept_at_node S w m (appending n q u) i (MemberSteps.append_grows w.epoch m n q u (i.node m) a.0.0 a.0.1)
    (MemberSteps.append_node w.epoch m n q u (i.node m) a.0.0 a.0.1 (omega (arith, within, k.one_proposed started)) next within)
    (Leaders.follows_other w.epoch m (appending n q u) (λ d. a.1 (sym d ∙ ap coordinator a.0.1)))
  where
    n : Node
    n = w.node m

    k : EpochOk S w.node q (w.epoch q)
    k = i.epoch q

    started : (w.epoch q).started ≡ true
    started = subst (λ f. (w.epoch f).started ≡ true) a.0.1 ((i.node m).member_started a.0.0)

    within : suc (length n.saved.entries) ≤ length (w.epoch q).log
    within = next_within (length n.saved.entries) (w.epoch q).log u a.2

    entries : n.saved.entries ≡ take (length n.saved.entries) (w.epoch q).log
    entries = (i.node m).fits.entries ∙ ap (λ f. take (length n.saved.entries) (w.epoch f).log) (sym ((i.node m).member_installed a.0.0) ∙ a.0.1)

    next : n.saved.entries ++ u ∷ [] ≡ take (suc (length n.saved.entries)) (w.epoch q).log
    next = ap (λ (xs : List Update). xs ++ u ∷ []) entries ∙ next_part (length n.saved.entries) (w.epoch q).log u a.2

pub acknowledge_keeps : (S : Setting) (w : Memberships) (q : ℕ) → Holds S w → Allowed S w (Acknowledge q) → Goes S w (after w (Acknowledge q))
acknowledge_keeps S w q i a =
    kept_at_both S w c (committing n) q (acknowledging e) i refl p.positive (MemberSteps.commit_grows n) (EpochSteps.acknowledge_grows S w.node q e (i.epoch q))
    (λ E is o. MemberSteps.commit_node E c n o a.0.0 (let s : (E n.saved.installed).acked ≡ length e.log = ap (λ (x : Epoch). x.acked) (ap E p.installed ∙ is) in omega (arith, s, p.log)))
    (λ E is. Leaders.leads_member E c (committing n) a.0.0 (p.log ∙ sym (ap (λ (x : Epoch). length x.log) (ap E a.0.1 ∙ is))) (p.log ∙ sym (ap (λ (x : Epoch). x.acked) (ap E a.0.1 ∙ is))))
    (λ N at g k. EpochSteps.acknowledge_epoch S N q e k p.started (λ m h. omega (arith, a.1 m h, (g m).reached q ((i.epoch q).started_ready p.started m h))))
  where
    c : ℕ
    c = coordinator q

    n : Node
    n = w.node c

    e : Epoch
    e = w.epoch q

    p : President w q
    p = president S w q i a.0

pub commit_keeps : (S : Setting) (w : Memberships) (m q : ℕ) → Holds S w → Allowed S w (Commit m q) → Goes S w (after w (Commit m q))
commit_keeps S w m q i a =
    kept_at_node S w m (committing n) i (MemberSteps.commit_grows n) (MemberSteps.commit_node w.epoch m n (i.node m) a.0.0 (subst (λ f. length n.saved.entries ≤ (w.epoch f).acked) (sym a.0.1 ∙ (i.node m).member_installed a.0.0) a.2))
    (Leaders.follows_other w.epoch m (committing n) (λ d. a.1 (sym d ∙ ap coordinator a.0.1)))
  where
    n : Node
    n = w.node m
