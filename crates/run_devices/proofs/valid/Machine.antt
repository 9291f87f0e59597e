-- A node that is engaged stays so, whatever comes at the device.
use Rattle.std.specs.Prelude.{ℕ, ◌≡◌, ◌≢◌, ◌<◌, ◌≤◌, ◌⊎◌, true, false, List, [], ◌∷◌}
use Rattle.std.proofs.Common.{refl, sym, ap, subst, ◌∙◌, inl, inr, arith}
use Rattle.cluster_machine.proofs.Machines.{device_runs}
use Rattle.cluster_machine.proofs.Whole.{InOrder}
use Rattle.cluster_machine.specs.Cluster as whole
use Rattle.cluster_machine.specs.Cluster.{Cluster as Whole}
use Rattle.cluster_machine.specs.Machines.{run_at}
use Rattle.device_machine.proofs.Grown.{run_grows}
use Rattle.device_machine.proofs.Invariant.{Inv}
use Rattle.device_machine.proofs.Steps.{not_true}
use Rattle.device_machine.specs.Growth.{Grows}
use Rattle.device_machine.specs.Initiator.{Initiator, admitted, aiming, crashing, ending, expecting, holding, installing, joining, marking, marking_lost, promising, rejecting, seizing, to_phase, unvalidated}
use Rattle.device_machine.specs.Phase.{Phase, rank}
use Rattle.device_machine.specs.Sharing as event
use Rattle.device_machine.specs.Sharing.{Allowed, Event, Run, Sharing, after}
use Rattle.machine_base.proofs.Puts.{put_here, put_there, same_or_not}
use Rattle.machine_base.specs.Put.{put}
use Rattle.membership_machine.specs.Votes.{Setting}
use Rattle.run_devices.specs.valid.Engaged.{Engaged, EngagedIn}

-- ---- one event

put_engaged : (N : ℕ → Initiator) (m n e : ℕ) (v : Initiator) → (EngagedIn e (N m) → EngagedIn e v) → EngagedIn e (N n) → EngagedIn e (put N m v n)
put_engaged N m n e v f k = go (same_or_not n m)
  where
    go : (n ≡ m) ⊎ (n ≢ m) → EngagedIn e (put N m v n)
    go (inl same) =
        subst (λ j. EngagedIn e (put N m v j)) (sym same) (subst (λ u. EngagedIn e u) (sym (put_here N m v)) (f (subst (λ j. EngagedIn e (N j)) same k)))
    go (inr ne) = subst (λ u. EngagedIn e u) (sym (put_there N m v n ne)) k

event_engaged : (s : Sharing) (x : Event) (n e : ℕ) → 0 < e → Allowed s x → EngagedIn e (s.node n) → EngagedIn e ((after s x).node n)
event_engaged s x n e some allowed k = by_event x allowed
  where
    -- further on in its session
    on : (m : ℕ) (v : Initiator) → v.promised ≡ (s.node m).promised → v.past.unregistered ≡ (s.node m).past.unregistered → 2 ≤ rank v.phase
        → EngagedIn e (put s.node m v n)
    on m v promised past high =
        put_engaged s.node m n e v
        (λ u. record { low = subst (λ p. e ≤ p) (sym promised) u.low; registered = ap (λ (f : ℕ → _). f e) past ∙ u.registered; begun = λ is. high }) k

    above : (a b : ℕ) → a ≤ b → b < a → ⊥
    above a b l m = omega (arith, l, m)

    under : (a b c : ℕ) → a ≤ b → b < c → a ≤ c
    under a b c l m = omega (arith, l, m)

    none : 0 ≡ e → ⊥
    none is = above e 0 (omega (arith, is)) some

    promised : (m q : ℕ) → (s.node m).promised < q → EngagedIn e (put s.node m (promising (s.node m) q) n)
    promised m q low =
        put_engaged s.node m n e (promising (s.node m) q)
        (λ u. record {
          low = under e (s.node m).promised q u.low low;
          registered = u.registered;
          begun = λ is. absurd (above e (s.node m).promised u.low (subst (λ z. (s.node m).promised < z) is low));
        }) k

    idle : 2 ≤ rank Phase.Idle → ⊥
    idle l = omega (arith, l)

    asked : 2 ≤ rank Phase.Asked → ⊥
    asked l = omega (arith, l)

    begins : (m : ℕ) → (s.node m).phase ≡ Phase.Idle → EngagedIn e (put s.node m (seizing (s.node m) (s.attempt (s.node m).session).quorum) n)
    begins m is =
        put_engaged s.node m n e (seizing (s.node m) (s.attempt (s.node m).session).quorum)
        (λ u. record { low = u.low; registered = u.registered; begun = λ at. absurd (idle (subst (λ p. 2 ≤ rank p) is (u.begun at))) }) k

    rejects : (m : ℕ) → (s.node m).phase ≡ Phase.Asked → EngagedIn e (put s.node m (rejecting (s.node m)) n)
    rejects m is =
        put_engaged s.node m n e (rejecting (s.node m))
        (λ u. record {
          low = u.low;
          registered = put_there (s.node m).past.unregistered (s.node m).session true e (λ at. asked (subst (λ p. 2 ≤ rank p) is (u.begun (sym at)))) ∙ u.registered;
          begun = λ at. omega arith;
        }) k

    by_event : (x : Event) → Allowed s x → EngagedIn e ((after s x).node n)
    by_event (event.Promise m q) a = promised m q a
    by_event (event.Crash m) a =
        put_engaged s.node m n e (crashing (s.node m)) (λ u. record { low = u.low; registered = u.registered; begun = λ is. absurd (none is) }) k
    by_event (event.Collected q members) a = k
    by_event (event.Ask q m quorum) a = k
    by_event (event.Seize m) a = begins m a.3
    by_event (event.Check m) a = on m (to_phase (s.node m) Phase.Keyed) refl refl (omega arith)
    by_event (event.Reject m) a = rejects m a.0
    by_event (event.Distrust m) a = on m (unvalidated (s.node m)) refl refl (omega arith)
    by_event (event.Register m) a = on m (to_phase (s.node m) Phase.Keyed) refl refl (omega arith)
    by_event (event.Register_lost m) a = on m (ending (s.node m)) refl refl (omega arith)
    by_event (event.Word_less m) a = on m (expecting (s.node m) s.device.word) refl refl (omega arith)
    by_event (event.Word_same m) a = on m (to_phase (s.node m) Phase.Marked) refl refl (omega arith)
    by_event (event.Swap m) a = on m (marking (s.node m)) refl refl (omega arith)
    by_event (event.Swap_lost m) a = on m (marking_lost (s.node m)) refl refl (omega arith)
    by_event (event.Reserve m) a = on m (to_phase (s.node m) Phase.Reserved) refl refl (omega arith)
    by_event (event.Reserve_lost m) a = on m (ending (s.node m)) refl refl (omega arith)
    by_event (event.Look m j) a = on m (aiming (s.node m) j) refl refl (omega arith)
    by_event (event.Preempt m) a = on m (to_phase (s.node m) Phase.Reserved) refl refl (omega arith)
    by_event (event.Preempt_lost m) a = on m (ending (s.node m)) refl refl (omega arith)
    by_event (event.Clear m) a = on m (to_phase (s.node m) Phase.Cleared) refl refl (omega arith)
    by_event (event.Confirm m) a = on m (holding (s.node m)) refl refl (omega arith)
    by_event (event.Fail m) a = on m (ending (s.node m)) refl refl (omega arith)
    by_event (event.Count_with q) a = k
    by_event (event.Count_without q) a = k
    by_event (event.Install_apart m) a = on m (installing (s.node m)) refl refl (omega arith)
    by_event (event.Install_seizer m) a = on m (admitted (installing (s.node m))) refl refl (omega arith)
    by_event (event.Install_known m) a = on m (admitted (installing (s.node m))) refl refl (omega arith)
    by_event (event.Install_new m) a = on m (joining (s.node m)) refl refl (omega arith)
    by_event (event.Enter m) a = on m (to_phase (s.node m) Phase.Entered) refl refl (omega arith)
    by_event (event.Enter_lost m) a = on m (to_phase (s.node m) Phase.Over) refl refl (omega arith)
    by_event (event.Admit m) a = on m (admitted (s.node m)) refl refl (omega arith)
    by_event (event.Late m) a = on m (to_phase (s.node m) Phase.Over) refl refl (omega arith)
    by_event (event.Write m value) a = k

-- ---- a run

run_engaged : (s t : Sharing) (xs : List Event) (n e : ℕ) → 0 < e → Run s xs t → EngagedIn e (s.node n) → EngagedIn e (t.node n)
run_engaged s t [] n e some r k = subst (λ (z : Sharing). EngagedIn e (z.node n)) (sym r) k
run_engaged s t (x ∷ xs) n e some r k = run_engaged (after s x) t xs n e some r.1 (event_engaged s x n e some r.0 k)

pub engaged_stays : (S : Setting) (W V : Whole) (xs : List whole.Event) (n e d : ℕ) → InOrder S W → whole.Run S W xs V → Engaged (W.device d) n e → Engaged (V.device d) n e
engaged_stays S W V xs n e d order r k =
    let goes : Run (W.device d) (run_at W xs d) (V.device d) = device_runs S W xs V d r in
    let grows : Grows (W.device d) (V.device d) = run_grows (W.device d) (V.device d) (run_at W xs d) (order.device d) goes in
    record {
      some = k.some;
      asked = (grows.attempt e).asked n k.asked;
      node = run_engaged (W.device d) (V.device d) (run_at W xs d) n e k.some goes k.node;
    }

-- ---- who is engaged

pub clash : true ≡ false → ⊥
clash is = cc

-- a seizing that has tried to reserve, and has not ended
pub engaged_at : (s : Sharing) (n e : ℕ) → Inv s → (s.node n).session ≡ e → 0 < e → 6 ≤ rank (s.node n).phase → rank (s.node n).phase ≤ 8 → Engaged s n e
engaged_at s n e i at some low high = record {
  some = some;
  asked = subst (λ q. (s.attempt q).asked n ≡ true) at ((i.node n).asked (begun (rank (s.node n).phase) low) (later (rank (s.node n).phase) high));
  node = record {
    low = subst (λ q. q ≤ (s.node n).promised) at (itself (s.node n).session (s.node n).promised ((i.node n).session here));
    registered = subst (λ q. (s.node n).past.unregistered q ≡ false) at
        (not_true ((s.node n).past.unregistered (s.node n).session)
        (λ is. clash (sym ((i.past n).unregistered_ended (s.node n).session is) ∙ (i.node n).running here high)));
    begun = λ is. second (rank (s.node n).phase) low;
  };
}
  where
    here : 0 < (s.node n).session
    here = subst (λ q. 0 < q) (sym at) some

    begun : (r : ℕ) → 6 ≤ r → 0 < r
    begun r l = omega (arith, l)

    later : (r : ℕ) → r ≤ 8 → r ≤ 9
    later r l = omega (arith, l)

    second : (r : ℕ) → 6 ≤ r → 2 ≤ r
    second r l = omega (arith, l)

    itself : (a b : ℕ) → a ≡ b → a ≤ b
    itself a b is = omega (arith, is)

-- is the one that was asked last
pub last : (s : Sharing) (n e : ℕ) → Inv s → Engaged s n e → n ≡ (s.attempt e).seizer
last s n e i k = by_cases ((i.attempt e).asked_last n k.asked)
  where
    by_cases : (n ≡ (s.attempt e).seizer) ⊎ ((s.node n).past.unregistered e ≡ true) → n ≡ (s.attempt e).seizer
    by_cases (inl is) = is
    by_cases (inr un) = absurd (clash (sym un ∙ k.node.registered))

pub one_engaged : (s : Sharing) (m k e : ℕ) → Inv s → Engaged s m e → Engaged s k e → m ≡ k
one_engaged s m k e i a b = last s m e i a ∙ sym (last s k e i b)
