-- Every event keeps both machines in order and in agreement, and takes back nothing that was told.
use Rattle.std.proofs.Common.{ℕ, ◌≡◌, refl, sym, subst, Bool, true, List, [], ◌∷◌}
use Rattle.machine_base.proofs.Puts.{put_cases}
use Rattle.membership_machine.specs.Votes.{Setting}
use Rattle.membership_machine.specs.Events as membership
use Rattle.membership_machine.specs.Growth.{Grows}
use Rattle.membership_machine.specs.Invariant as inside
use Rattle.membership_machine.proofs.Preserved as preserved
use Rattle.membership_machine.proofs.Growth as growth
use Rattle.device_machine.specs.Sharing as sharing
use Rattle.device_machine.specs.Sharing.{Sharing, first_sharing}
use Rattle.device_machine.specs.Laws.{Later}
use Rattle.device_machine.proofs.Invariant as seizing
use Rattle.device_machine.proofs.Kept as keeping
use Rattle.device_machine.proofs.Later as later
use Rattle.cluster_machine.specs.Cluster.{Cluster, first_cluster, Event, Membership, Collected, Command, Joining, part, MayCome, all_after, VotesUnder, CountsQuorum, Allowed, after, Run}
use Rattle.cluster_machine.specs.Agreement.{Agrees}
use Rattle.cluster_machine.proofs.Agreements.{step_agrees, collected_agrees, command_agrees}

pub record InOrder (S : Setting) (w : Cluster) : Type 0 where
  pub memberships : inside.Holds S w.memberships
  pub device : (d : ℕ) → seizing.Inv (w.device d)
  pub agrees : (d : ℕ) → Agrees S d w.memberships (w.device d)

-- from w to v
pub record Goes (S : Setting) (w v : Cluster) : Type 0 where
  pub in_order : InOrder S v
  pub memberships : Grows w.memberships v.memberships
  pub device : (d : ℕ) → Later (w.device d) (v.device d)

-- events that may come one after the other are a run
pub may_run : (s : Sharing) (es : List sharing.Event) → MayCome s es → sharing.Run s es (all_after s es)
may_run s [] m = refl
may_run s (e ∷ es) m = (m.0, may_run (sharing.after s e) es m.1)

-- a device that is reached by a run of its own machine
goes_device : (s : Sharing) (es : List sharing.Event) → seizing.Inv s → MayCome s es → seizing.Inv (all_after s es) × Later s (all_after s es)
goes_device s es i m = (keeping.runs s (all_after s es) es i (may_run s es m), later.run_later s (all_after s es) es i (may_run s es m))

quorum_of : (S : Setting) (w : Cluster) (e : membership.Event) (d : ℕ) → CountsQuorum S w e
    → (q n : ℕ) (devices : ℕ → Bool) → e ≡ membership.Count q n devices → devices d ≡ true → VotesUnder S ((w.memberships.node n).showed q) d → ((w.device d).attempt q).quorum ≡ true
quorum_of S w e d c q n devices is = at (subst (λ x. CountsQuorum S w x) is c)
  where
    at : CountsQuorum S w (membership.Count q n devices) → devices d ≡ true → VotesUnder S ((w.memberships.node n).showed q) d → ((w.device d).attempt q).quorum ≡ true
    at h = h d

membership_goes : (S : Setting) (w : Cluster) (e : membership.Event) (joining : ℕ → Joining) → InOrder S w → Allowed S w (Membership e joining) → Goes S w (after w (Membership e joining))
membership_goes S w e joining i a = on (preserved.event_keeps S w.memberships e i.memberships a.0)
  where
    on : growth.Goes S w.memberships (membership.after w.memberships e) → Goes S w (after w (Membership e joining))
    on g = record {
      in_order = record {
        memberships = g.holds;
        device = λ d. (goes_device (w.device d) (part e joining d) (i.device d) (a.1 d)).0;
        agrees = λ d. step_agrees S d w.memberships (w.device d) e joining i.memberships a.0 (quorum_of S w e d a.2) (i.agrees d);
      };
      memberships = g.grows;
      device = λ d. (goes_device (w.device d) (part e joining d) (i.device d) (a.1 d)).1;
    }

collected_goes : (S : Setting) (w : Cluster) (q : ℕ) → InOrder S w → Allowed S w (Collected q) → Goes S w (after w (Collected q))
collected_goes S w q i a = record {
  in_order = record {
    memberships = i.memberships;
    device = λ d. (goes_device (w.device d) (sharing.Collected q (w.memberships.epoch q).members ∷ []) (i.device d) (a.2 d, tt)).0;
    agrees = λ d. collected_agrees S d w.memberships (w.device d) q a.0 (i.agrees d);
  };
  memberships = growth.grows_same S w.memberships i.memberships;
  device = λ d. (goes_device (w.device d) (sharing.Collected q (w.memberships.epoch q).members ∷ []) (i.device d) (a.2 d, tt)).1;
}

command_goes : (S : Setting) (w : Cluster) (d : ℕ) (e : sharing.Event) → InOrder S w → Allowed S w (Command d e) → Goes S w (after w (Command d e))
command_goes S w d e i a = record {
  in_order = record {
    memberships = i.memberships;
    device = put_cases (λ k s. seizing.Inv s) w.device d (sharing.after (w.device d) e) (goes_device (w.device d) (e ∷ []) (i.device d) (a.1, tt)).0 (λ k ne. i.device k);
    agrees = put_cases (λ k s. Agrees S k w.memberships s) w.device d (sharing.after (w.device d) e) (command_agrees S d w.memberships (w.device d) e a.0 a.1 (i.agrees d)) (λ k ne. i.agrees k);
  };
  memberships = growth.grows_same S w.memberships i.memberships;
  device = put_cases (λ k s. Later (w.device k) s) w.device d (sharing.after (w.device d) e) (goes_device (w.device d) (e ∷ []) (i.device d) (a.1, tt)).1 (λ k ne. later.later_same (w.device k));
}

pub event_goes : (S : Setting) (w : Cluster) (e : Event) → InOrder S w → Allowed S w e → Goes S w (after w e)
event_goes S w (Membership e joining) i a = membership_goes S w e joining i a
event_goes S w (Collected q) i a = collected_goes S w q i a
event_goes S w (Command d e) i a = command_goes S w d e i a

pub run_goes : (S : Setting) (w : Cluster) (es : List Event) (v : Cluster) → InOrder S w → Run S w es v → Goes S w v
run_goes S w [] v i r = subst (λ x. Goes S w x) (sym r) (record { in_order = i; memberships = growth.grows_same S w.memberships i.memberships; device = λ d. later.later_same (w.device d) })
run_goes S w (e ∷ es) v i r = on (event_goes S w e i r.0) (λ h. run_goes S (after w e) es v h r.1)
  where
    on : Goes S w (after w e) → (InOrder S (after w e) → Goes S (after w e) v) → Goes S w v
    on g f = record {
      in_order = (f g.in_order).in_order;
      memberships = growth.grows_over w.memberships (after w e).memberships v.memberships g.memberships (f g.in_order).memberships;
      device = λ d. later.later_trans (w.device d) ((after w e).device d) (v.device d) (g.device d) ((f g.in_order).device d);
    }

pub first_in_order : (S : Setting) (registered : ℕ → ℕ → Bool) → InOrder S (first_cluster registered)
first_in_order S registered = record {
  memberships = preserved.first_holds S;
  device = λ d. keeping.first_ok (registered d);
  agrees = λ d. record {
    node = λ n. record { promised = refl; session = refl; installed = refl; showed = λ q. refl };
    attempt = λ q. record { tried = λ c. c; members = λ c m. refl; counted = refl; holds = λ c. refl; quorum = λ c. absurd (cc) };
  };
}

pub in_order : (S : Setting) (registered : ℕ → ℕ → Bool) (es : List Event) (w : Cluster) → Run S (first_cluster registered) es w → InOrder S w
in_order S registered es w r = (run_goes S (first_cluster registered) es w (first_in_order S registered) r).in_order
