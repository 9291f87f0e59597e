-- A seizing of a device ends not registered only where the device was to be seized for its votes; so a device without votes is seized by the node alone that was asked.
use Rattle.std.specs.Prelude.{ℕ, ◌≡◌, ◌≢◌, ◌<◌, ◌≤◌, ◌⊎◌, true, false, List, [], ◌∷◌}
use Rattle.std.proofs.Common.{refl, sym, ap, subst, ◌∙◌, inl, inr, arith}
use Rattle.cluster_machine.proofs.Machines.{device_runs}
use Rattle.cluster_machine.proofs.Whole.{InOrder}
use Rattle.cluster_machine.specs.Cluster as whole
use Rattle.cluster_machine.specs.Cluster.{Cluster as Whole}
use Rattle.cluster_machine.specs.Machines.{run_at}
use Rattle.cluster_ties.proofs.First.{in_order}
use Rattle.cluster_ties.specs.Moves.{IsReached, first_whole}
use Rattle.cmm_attempt.proofs.Basics.{false_true}
use Rattle.device_machine.proofs.Grown.{run_grows}
use Rattle.device_machine.proofs.Invariant.{Inv}
use Rattle.device_machine.proofs.Kept.{kept, step_grows}
use Rattle.device_machine.specs.Growth.{Grows}
use Rattle.device_machine.specs.Initiator.{Initiator, admitted, aiming, crashing, ending, expecting, holding, installing, joining, marking, marking_lost, promising, rejecting, seizing, to_phase, unvalidated}
use Rattle.device_machine.specs.Phase.{Phase, rank}
use Rattle.device_machine.specs.Sharing as event
use Rattle.device_machine.specs.Sharing.{Allowed, Event, Run, Sharing, after}
use Rattle.machine_base.proofs.Puts.{put_here, put_there, same_or_not}
use Rattle.machine_base.specs.Put.{put}
use Rattle.membership_machine.specs.Votes.{Setting}
use Rattle.run_devices.specs.valid.Engaged.{Engaged}
use Rattle.run_devices.proofs.valid.Machine.{last}

-- n was asked to seize the device for q, for its votes, or as one without
pub record ForVotes (s : Sharing) (n q : ℕ) : Type 0 where
  pub asked : (s.attempt q).asked n ≡ true
  pub quorum : (s.attempt q).quorum ≡ true

pub record Plainly (s : Sharing) (n q : ℕ) : Type 0 where
  pub asked : (s.attempt q).asked n ≡ true
  pub plain : (s.attempt q).quorum ≡ false

-- ---- one event

put_past : (N : ℕ → Initiator) (m n q : ℕ) (v : Initiator) (Q : Type 0) → (n ≡ m → v.past.unregistered q ≡ true → Q) → ((N n).past.unregistered q ≡ true → Q) → (put N m v n).past.unregistered q ≡ true → Q
put_past N m n q v Q here there is = by_node (same_or_not n m)
  where
    by_node : (n ≡ m) ⊎ (n ≢ m) → Q
    by_node (inl same) = here same (sym (ap (λ (u : Initiator). u.past.unregistered q) (subst (λ j. put N m v j ≡ v) (sym same) (put_here N m v))) ∙ is)
    by_node (inr ne) = there (sym (ap (λ (u : Initiator). u.past.unregistered q) (put_there N m v n ne)) ∙ is)

event_past : (s : Sharing) (x : Event) (n q : ℕ) → Inv s → Allowed s x → ((after s x).node n).past.unregistered q ≡ true → ((s.node n).past.unregistered q ≡ true) ⊎ ForVotes s n q
event_past s x n q i allowed is = by_event x allowed is
  where
    R : Type 0
    R = ((s.node n).past.unregistered q ≡ true) ⊎ ForVotes s n q

    on : (m : ℕ) (v : Initiator) → v.past.unregistered ≡ (s.node m).past.unregistered → (put s.node m v n).past.unregistered q ≡ true → R
    on m v past =
        put_past s.node m n q v R (λ same h. inl (subst (λ j. (s.node j).past.unregistered q ≡ true) (sym same) (sym (ap (λ (f : ℕ → _). f q) past) ∙ h))) (λ h. inl h)

    one : (m : ℕ) → (s.node m).phase ≡ Phase.Asked → 0 < rank (s.node m).phase
    one m at = subst (λ p. 0 < rank p) (sym at) (omega arith)

    few : (m : ℕ) → (s.node m).phase ≡ Phase.Asked → rank (s.node m).phase ≤ 9
    few m at = subst (λ p. rank p ≤ 9) (sym at) (omega arith)

    rejected : (m : ℕ) → (s.node m).phase ≡ Phase.Asked → (s.node m).quorum ≡ true → n ≡ m → (rejecting (s.node m)).past.unregistered q ≡ true → R
    rejected m at quorum same h = by_session (same_or_not q (s.node m).session)
      where
        by_session : (q ≡ (s.node m).session) ⊎ (q ≢ (s.node m).session) → R
        by_session (inl here) =
            inr (record {
              asked = subst (λ j. (s.attempt q).asked j ≡ true) (sym same) (subst (λ e. (s.attempt e).asked m ≡ true) (sym here) ((i.node m).asked (one m at) (few m at)));
              quorum = subst (λ e. (s.attempt e).quorum ≡ true) (sym here) ((i.node m).kind (one m at) (few m at) ∙ quorum);
            })
        by_session (inr ne) =
            inl (subst (λ j. (s.node j).past.unregistered q ≡ true) (sym same) (sym (put_there (s.node m).past.unregistered (s.node m).session true q ne) ∙ h))

    by_event : (x : Event) → Allowed s x → ((after s x).node n).past.unregistered q ≡ true → R
    by_event (event.Promise m p) a = on m (promising (s.node m) p) refl
    by_event (event.Crash m) a = on m (crashing (s.node m)) refl
    by_event (event.Collected p members) a = λ h. inl h
    by_event (event.Ask p m quorum) a = λ h. inl h
    by_event (event.Seize m) a = on m (seizing (s.node m) (s.attempt (s.node m).session).quorum) refl
    by_event (event.Check m) a = on m (to_phase (s.node m) Phase.Keyed) refl
    by_event (event.Reject m) a = put_past s.node m n q (rejecting (s.node m)) R (rejected m a.0 a.1) (λ h. inl h)
    by_event (event.Distrust m) a = on m (unvalidated (s.node m)) refl
    by_event (event.Register m) a = on m (to_phase (s.node m) Phase.Keyed) refl
    by_event (event.Register_lost m) a = on m (ending (s.node m)) refl
    by_event (event.Word_less m) a = on m (expecting (s.node m) s.device.word) refl
    by_event (event.Word_same m) a = on m (to_phase (s.node m) Phase.Marked) refl
    by_event (event.Swap m) a = on m (marking (s.node m)) refl
    by_event (event.Swap_lost m) a = on m (marking_lost (s.node m)) refl
    by_event (event.Reserve m) a = on m (to_phase (s.node m) Phase.Reserved) refl
    by_event (event.Reserve_lost m) a = on m (ending (s.node m)) refl
    by_event (event.Look m j) a = on m (aiming (s.node m) j) refl
    by_event (event.Preempt m) a = on m (to_phase (s.node m) Phase.Reserved) refl
    by_event (event.Preempt_lost m) a = on m (ending (s.node m)) refl
    by_event (event.Clear m) a = on m (to_phase (s.node m) Phase.Cleared) refl
    by_event (event.Confirm m) a = on m (holding (s.node m)) refl
    by_event (event.Fail m) a = on m (ending (s.node m)) refl
    by_event (event.Count_with p) a = λ h. inl h
    by_event (event.Count_without p) a = λ h. inl h
    by_event (event.Install_apart m) a = on m (installing (s.node m)) refl
    by_event (event.Install_seizer m) a = on m (admitted (installing (s.node m))) refl
    by_event (event.Install_known m) a = on m (admitted (installing (s.node m))) refl
    by_event (event.Install_new m) a = on m (joining (s.node m)) refl
    by_event (event.Enter m) a = on m (to_phase (s.node m) Phase.Entered) refl
    by_event (event.Enter_lost m) a = on m (to_phase (s.node m) Phase.Over) refl
    by_event (event.Admit m) a = on m (admitted (s.node m)) refl
    by_event (event.Late m) a = on m (to_phase (s.node m) Phase.Over) refl
    by_event (event.Write m value) a = λ h. inl h

-- ---- a run

-- whoever was not registered was asked for votes
abbrev Rejects : Sharing → Type 0
Rejects s = (n q : ℕ) → (s.node n).past.unregistered q ≡ true → ForVotes s n q

votes_stay : (s t : Sharing) (n q : ℕ) → Grows s t → ForVotes s n q → ForVotes t n q
votes_stay s t n q g k = record { asked = (g.attempt q).asked n k.asked; quorum = (g.attempt q).quorum n k.asked ∙ k.quorum }

rejects_after : (s : Sharing) (x : Event) → Inv s → Allowed s x → Rejects s → Rejects (after s x)
rejects_after s x i a k n q is = by_past (event_past s x n q i a is)
  where
    by_past : ((s.node n).past.unregistered q ≡ true) ⊎ ForVotes s n q → ForVotes (after s x) n q
    by_past (inl h) = votes_stay s (after s x) n q (step_grows s x i a) (k n q h)
    by_past (inr h) = votes_stay s (after s x) n q (step_grows s x i a) h

run_rejects : (s t : Sharing) (xs : List Event) → Inv s → Run s xs t → Rejects s → Rejects t
run_rejects s t [] i r k = subst Rejects (sym r) k
run_rejects s t (x ∷ xs) i r k = run_rejects (after s x) t xs (kept s x i r.0) r.1 (rejects_after s x i r.0 k)

reached_rejects : (S : Setting) (W : Whole) (d : ℕ) → IsReached S W → Rejects (W.device d)
reached_rejects S W d r =
    let V : Whole = first_whole r.registered r.valid in
    run_rejects (V.device d) (W.device d) (run_at V r.events d) ((in_order S V (record { registered = r.registered; valid = r.valid; events = []; run = refl })).device d)
    (device_runs S V r.events W d r.run) (λ n q is. absurd (false_true is))

-- ---- so the node that was asked is the one that is engaged

pub plainly_stays : (S : Setting) (W V : Whole) (xs : List whole.Event) (n e d : ℕ) → InOrder S W → whole.Run S W xs V → Plainly (W.device d) n e → Plainly (V.device d) n e
plainly_stays S W V xs n e d order r k =
    let grows : Grows (W.device d) (V.device d) = run_grows (W.device d) (V.device d) (run_at W xs d) (order.device d) (device_runs S W xs V d r) in
    record { asked = (grows.attempt e).asked n k.asked; plain = (grows.attempt e).quorum n k.asked ∙ k.plain }

pub plainly_alone : (S : Setting) (W : Whole) (d n m e : ℕ) → IsReached S W → Plainly (W.device d) n e → Engaged (W.device d) m e → m ≡ n
plainly_alone S W d n m e r k engaged = by_last ((((in_order S W r).device d).attempt e).asked_last n k.asked)
  where
    by_last : (n ≡ ((W.device d).attempt e).seizer) ⊎ (((W.device d).node n).past.unregistered e ≡ true) → m ≡ n
    by_last (inl is) = last (W.device d) m e ((in_order S W r).device d) engaged ∙ sym is
    by_last (inr is) = absurd (false_true (sym k.plain ∙ (reached_rejects S W d r n e is).quorum))
