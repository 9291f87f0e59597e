-- Each machine of the whole goes through a run of its own.
use Rattle.std.proofs.Common.{ℕ, ◌<◌, ◌≡◌, ◌≢◌, ◌⊎◌, inl, inr, refl, sym, ◌∙◌, subst, true, false, List, [], ◌∷◌, ◌++◌, arith}
use Rattle.std.specs.Prelude.{nat_eq, if◌then◌else◌}
use Rattle.machine_base.specs.Put.{put}
use Rattle.machine_base.proofs.Puts.{same_or_not}
use Rattle.membership_machine.specs.Votes.{Setting}
use Rattle.membership_machine.specs.State.{Memberships}
use Rattle.membership_machine.specs.Events as membership
use Rattle.device_machine.specs.Sharing as sharing
use Rattle.device_machine.specs.Sharing.{Sharing}
use Rattle.device_machine.specs.Laws.{HasJoined}
use Rattle.device_machine.proofs.Laws as laws
use Rattle.cluster_machine.specs.Cluster.{Cluster, Event, Membership, Collected, Command, part, Allowed, after, Run}
use Rattle.cluster_machine.specs.Machines.{at_device, run_at, in_memberships, run_of_memberships, JoinedAsMember}
use Rattle.cluster_machine.proofs.Whole.{InOrder, may_run}

-- two runs, one after the other
run_on : (s t u : Sharing) (es fs : List sharing.Event) → sharing.Run s es t → sharing.Run t fs u → sharing.Run s (es ++ fs) u
run_on s t u [] fs r x = subst (λ z. sharing.Run z fs u) r x
run_on s t u (e ∷ es) fs r x = (r.0, run_on (sharing.after s e) t u es fs r.1 x)

memberships_on : (S : Setting) (s t u : Memberships) (es fs : List membership.Event) → membership.Run S s es t → membership.Run S t fs u → membership.Run S s (es ++ fs) u
memberships_on S s t u [] fs r x = subst (λ z. membership.Run S z fs u) r x
memberships_on S s t u (e ∷ es) fs r x = (r.0, memberships_on S (membership.after s e) t u es fs r.1 x)

-- a command is done at its device, and at no other
command_at : (f : ℕ → Sharing) (k : ℕ) (e : sharing.Event) (d : ℕ) → sharing.Allowed (f k) e → sharing.Run (f d) (if nat_eq d k then e ∷ [] else []) (put f k (sharing.after (f k) e) d)
command_at f k e d a = go (same_or_not d k)
  where
    itself : nat_eq k k ≡ true
    itself = grind arith

    other : d ≢ k → nat_eq d k ≡ false
    other ne = grind arith

    go : (d ≡ k) ⊎ (d ≢ k) → sharing.Run (f d) (if nat_eq d k then e ∷ [] else []) (put f k (sharing.after (f k) e) d)
    go (inl same) = subst (λ j. sharing.Run (f j) (if nat_eq j k then e ∷ [] else []) (put f k (sharing.after (f k) e) j)) (sym same) (rw itself (a, refl))
    go (inr ne) = rw (other ne) refl

event_at : (S : Setting) (w : Cluster) (e : Event) (d : ℕ) → Allowed S w e → sharing.Run (w.device d) (at_device w e d) ((after w e).device d)
event_at S w (Membership e joining) d a = may_run (w.device d) (part e joining d) (a.1 d)
event_at S w (Collected q) d a = (a.2 d, refl)
event_at S w (Command k e) d a = command_at w.device k e d a.1

pub device_runs : (S : Setting) (w : Cluster) (es : List Event) (v : Cluster) (d : ℕ) → Run S w es v → sharing.Run (w.device d) (run_at w es d) (v.device d)
device_runs S w [] v d r = subst (λ x. x.device d ≡ w.device d) (sym r) refl
device_runs S w (e ∷ es) v d r = run_on (w.device d) ((after w e).device d) (v.device d) (at_device w e d) (run_at (after w e) es d) (event_at S w e d r.0) (device_runs S (after w e) es v d r.1)

event_of : (S : Setting) (w : Cluster) (e : Event) → Allowed S w e → membership.Run S w.memberships (in_memberships e) (after w e).memberships
event_of S w (Membership e joining) a = (a.0, refl)
event_of S w (Collected q) a = refl
event_of S w (Command k e) a = refl

pub memberships_run : (S : Setting) (w : Cluster) (es : List Event) (v : Cluster) → Run S w es v → membership.Run S w.memberships (run_of_memberships es) v.memberships
memberships_run S w [] v r = subst (λ x. x.memberships ≡ w.memberships) (sym r) refl
memberships_run S w (e ∷ es) v r =
    memberships_on S w.memberships (after w e).memberships v.memberships (in_memberships e) (run_of_memberships es) (event_of S w e r.0) (memberships_run S (after w e) es v r.1)

-- who joined a device, in the words of both machines
pub joined_member : (S : Setting) (w : Cluster) (d n : ℕ) → InOrder S w → ((w.device d).node n).joined ≡ true → JoinedAsMember w d n
joined_member S w d n i j = record {
  at_device = here;
  in_session = subst (λ q. 0 < q) same here.in_session;
  promised = sym same ∙ here.promised ∙ ((i.agrees d).node n).promised;
  installed = sym ((i.agrees d).node n).installed ∙ here.installed ∙ same;
  member = subst (λ q. (w.memberships.epoch q).members n ≡ true) same (sym (((i.agrees d).attempt session).members collected n) ∙ here.member);
  counted = subst (λ q. (w.memberships.epoch q).counted ≡ true) same counted;
  holds = subst (λ q. (w.memberships.epoch q).holds d ≡ true) same (sym (((i.agrees d).attempt session).holds counted) ∙ here.holds.1);
}
  where
    session : ℕ
    session = ((w.device d).node n).session

    same : session ≡ (w.memberships.node n).session
    same = ((i.agrees d).node n).session

    here : HasJoined (w.device d) n
    here = laws.joined (w.device d) (i.device d) n j

    collected : ((w.device d).attempt session).collected ≡ true
    collected = ((i.device d).attempt session).collected_counted here.holds.0

    counted : (w.memberships.epoch session).counted ≡ true
    counted = sym (((i.agrees d).attempt session).counted) ∙ here.holds.0
