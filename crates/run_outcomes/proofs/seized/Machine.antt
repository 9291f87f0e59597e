-- Whose seizing of a device has ended was asked for it, in each state of the machine.
use Rattle.std.specs.Prelude.{ℕ, ◌≡◌, ◌≢◌, ◌<◌, ◌≤◌, ◌⊎◌, true, List, [], ◌∷◌}
use Rattle.std.proofs.Common.{refl, sym, ap, subst, ◌∙◌, inl, inr, arith}
use Rattle.cluster_machine.proofs.Machines.{device_runs}
use Rattle.cluster_machine.proofs.Whole.{InOrder}
use Rattle.cluster_machine.specs.Cluster.{Cluster as Whole}
use Rattle.cluster_machine.specs.Machines.{run_at}
use Rattle.cluster_ties.proofs.First.{in_order}
use Rattle.cluster_ties.specs.Moves.{IsReached, first_whole}
use Rattle.cmm_attempt.proofs.Basics.{false_true}
use Rattle.device_machine.proofs.Invariant.{Inv}
use Rattle.device_machine.proofs.Kept.{kept, step_grows}
use Rattle.device_machine.specs.Attempt.{Attempt}
use Rattle.device_machine.specs.Initiator.{Initiator, admitted, aiming, crashing, ending, expecting, holding, installing, joining, marking, marking_lost, promising, rejecting, seizing, to_phase, unvalidated}
use Rattle.device_machine.specs.Phase.{Phase, rank}
use Rattle.device_machine.specs.Sharing as event
use Rattle.device_machine.specs.Sharing.{Allowed, Event, Run, Sharing, after}
use Rattle.machine_base.proofs.Puts.{put_here, put_there, same_or_not}
use Rattle.machine_base.specs.Put.{put}
use Rattle.membership_machine.specs.Votes.{Setting}

-- of a node, by these attempts
abbrev NodeAsked : (ℕ → Attempt) → ℕ → Initiator → Type 0
NodeAsked A n v = (q : ℕ) → v.past.ended q ≡ true → (A q).asked n ≡ true

abbrev pub AllAsked : Sharing → Type 0
AllAsked s = (n : ℕ) → NodeAsked s.attempt n (s.node n)

-- ---- one event

put_asked : (A : ℕ → Attempt) (N : ℕ → Initiator) (m n : ℕ) (v : Initiator) → (NodeAsked A m (N m) → NodeAsked A m v) → ((k : ℕ) → NodeAsked A k (N k)) → NodeAsked A n (put N m v n)
put_asked A N m n v f all = by_node (same_or_not n m)
  where
    by_node : (n ≡ m) ⊎ (n ≢ m) → NodeAsked A n (put N m v n)
    by_node (inl same) =
        subst (λ j. NodeAsked A j (put N m v j)) (sym same) (subst (λ u. NodeAsked A m u) (sym (put_here N m v)) (f (all m)))
    by_node (inr ne) = subst (λ u. NodeAsked A n u) (sym (put_there N m v n ne)) (all n)

-- its seizing ends in this session
ended_asked : (A : ℕ → Attempt) (n : ℕ) (v u : Initiator) → u.past.ended ≡ put v.past.ended v.session true → (A v.session).asked n ≡ true → NodeAsked A n v → NodeAsked A n u
ended_asked A n v u is asked k q ended = by_number (same_or_not q v.session)
  where
    by_number : (q ≡ v.session) ⊎ (q ≢ v.session) → (A q).asked n ≡ true
    by_number (inl same) = subst (λ z. (A z).asked n ≡ true) (sym same) asked
    by_number (inr ne) = k q (sym (put_there v.past.ended v.session true q ne) ∙ (sym (ap (λ (f : ℕ → _). f q) is) ∙ ended))

-- a seizing that goes on was asked for
going_asked : (s : Sharing) (n : ℕ) (p : Phase) → Inv s → (s.node n).phase ≡ p → 0 < rank p → rank p ≤ 9 → (s.attempt (s.node n).session).asked n ≡ true
going_asked s n p i is low high =
    (i.node n).asked (subst (λ z. 0 < rank z) (sym is) low) (subst (λ z. rank z ≤ 9) (sym is) high)

event_asked : (s : Sharing) (x : Event) → Inv s → Allowed s x → AllAsked s → AllAsked (after s x)
event_asked s x i allowed k n q ended = ((step_grows s x i allowed).attempt q).asked n (by_event x allowed q ended)
  where
    -- nothing has ended more
    on : (m : ℕ) (v : Initiator) → v.past.ended ≡ (s.node m).past.ended → NodeAsked s.attempt n (put s.node m v n)
    on m v same = put_asked s.attempt s.node m n v (λ u z is. u z (sym (ap (λ (f : ℕ → _). f z) same) ∙ is)) k

    ends : (m : ℕ) (v : Initiator) (p : Phase) → (s.node m).phase ≡ p → 0 < rank p → rank p ≤ 9 → v.past.ended ≡ put (s.node m).past.ended (s.node m).session true
        → NodeAsked s.attempt n (put s.node m v n)
    ends m v p at low high is =
        put_asked s.attempt s.node m n v (λ u. ended_asked s.attempt m (s.node m) v is (going_asked s m p i at low high) u) k

    fails : (m : ℕ) → 1 ≤ rank (s.node m).phase → rank (s.node m).phase ≤ 8 → NodeAsked s.attempt n (put s.node m (ending (s.node m)) n)
    fails m low high = ends m (ending (s.node m)) (s.node m).phase refl (begun (rank (s.node m).phase) low) (later (rank (s.node m).phase) high) refl
      where
        begun : (r : ℕ) → 1 ≤ r → 0 < r
        begun r l = omega (arith, l)

        later : (r : ℕ) → r ≤ 8 → r ≤ 9
        later r l = omega (arith, l)

    by_event : (x : Event) → Allowed s x → NodeAsked s.attempt n ((after s x).node n)
    by_event (event.Promise m p) a = on m (promising (s.node m) p) refl
    by_event (event.Crash m) a = on m (crashing (s.node m)) refl
    by_event (event.Collected p members) a = k n
    by_event (event.Ask p m quorum) a = k n
    by_event (event.Seize m) a = on m (seizing (s.node m) (s.attempt (s.node m).session).quorum) refl
    by_event (event.Check m) a = on m (to_phase (s.node m) Phase.Keyed) refl
    by_event (event.Reject m) a = ends m (rejecting (s.node m)) Phase.Asked a.0 (omega arith) (omega arith) refl
    by_event (event.Distrust m) a = on m (unvalidated (s.node m)) refl
    by_event (event.Register m) a = on m (to_phase (s.node m) Phase.Keyed) refl
    by_event (event.Register_lost m) a = ends m (ending (s.node m)) Phase.Untrusted a (omega arith) (omega arith) refl
    by_event (event.Word_less m) a = on m (expecting (s.node m) s.device.word) refl
    by_event (event.Word_same m) a = on m (to_phase (s.node m) Phase.Marked) refl
    by_event (event.Swap m) a = on m (marking (s.node m)) refl
    by_event (event.Swap_lost m) a = ends m (marking_lost (s.node m)) Phase.Swapping a.0 (omega arith) (omega arith) refl
    by_event (event.Reserve m) a = on m (to_phase (s.node m) Phase.Reserved) refl
    by_event (event.Reserve_lost m) a = ends m (ending (s.node m)) Phase.Marked a (omega arith) (omega arith) refl
    by_event (event.Look m j) a = on m (aiming (s.node m) j) refl
    by_event (event.Preempt m) a = on m (to_phase (s.node m) Phase.Reserved) refl
    by_event (event.Preempt_lost m) a = ends m (ending (s.node m)) Phase.Preempting a (omega arith) (omega arith) refl
    by_event (event.Clear m) a = on m (to_phase (s.node m) Phase.Cleared) refl
    by_event (event.Confirm m) a = ends m (holding (s.node m)) Phase.Cleared a.0 (omega arith) (omega arith) refl
    by_event (event.Fail m) a = fails m a.0 a.1
    by_event (event.Count_with p) a = k n
    by_event (event.Count_without p) a = k n
    by_event (event.Install_apart m) a = on m (installing (s.node m)) refl
    by_event (event.Install_seizer m) a = on m (admitted (installing (s.node m))) refl
    by_event (event.Install_known m) a = on m (admitted (installing (s.node m))) refl
    by_event (event.Install_new m) a = on m (joining (s.node m)) refl
    by_event (event.Enter m) a = on m (to_phase (s.node m) Phase.Entered) refl
    by_event (event.Enter_lost m) a = on m (to_phase (s.node m) Phase.Over) refl
    by_event (event.Admit m) a = on m (admitted (s.node m)) refl
    by_event (event.Late m) a = on m (to_phase (s.node m) Phase.Over) refl
    by_event (event.Write m value) a = k n

-- ---- a run

run_asked : (s t : Sharing) (xs : List Event) → Inv s → Run s xs t → AllAsked s → AllAsked t
run_asked s t [] i r k = subst AllAsked (sym r) k
run_asked s t (x ∷ xs) i r k = run_asked (after s x) t xs (kept s x i r.0) r.1 (event_asked s x i r.0 k)

pub ended_was_asked : (S : Setting) (W : Whole) (d : ℕ) → IsReached S W → AllAsked (W.device d)
ended_was_asked S W d r =
    let first : Whole = first_whole r.registered r.valid in
    let order : InOrder S first = in_order S first (record { registered = r.registered; valid = r.valid; events = []; run = refl }) in
    run_asked (first.device d) (W.device d) (run_at first r.events d) (order.device d) (device_runs S first r.events W d r.run) (λ n q ended. absurd (false_true ended))
