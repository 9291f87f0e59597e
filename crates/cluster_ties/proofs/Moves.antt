-- Moves of one node, one after another, and what they leave.
use Rattle.std.specs.Prelude.{ℕ, ◌≡◌, ◌≢◌, ◌⊎◌, ◌++◌, List, [], ◌∷◌, Some}
use Rattle.std.proofs.Common.{refl, sym, ap, subst, ◌∙◌, inl, inr}
use Rattle.attempt_laws.specs.Asking.{DeviceHas, IsOthers}
use Rattle.attempt_laws.proofs.Left.{others_leave}
use Rattle.cluster_machine.specs.Cluster.{Cluster as Whole, MayCome, all_after}
use Rattle.cluster_machine.proofs.SampleRun.{run_on}
use Rattle.cmm_attempt.specs.Attempts.{AttemptState}
use Rattle.device_machine.specs.Sharing as sharing
use Rattle.device_machine.specs.Sharing.{Sharing}
use Rattle.device_ties.specs.Moves.{AreBy, IsBy, Moved, WholeMoved}
use Rattle.device_ties.proofs.Wholes.{moves_of_the_whole}
use Rattle.machine_base.proofs.Puts.{same_or_not}
use Rattle.membership_machine.specs.Votes.{Setting}
use Rattle.pgr_device.specs.Device as pgr
use Rattle.cluster_ties.specs.Ties.{AttemptAt}
use Rattle.cluster_ties.specs.Moves.{Moves}

pub nowhere : (S : Setting) (W : Whole) (n : ℕ) → Moves S W n W
nowhere S W n = record { events = []; run = refl; others = λ k ne. refl; others_at = λ d k ne. refl; attempts = λ a ne h. h }

pub and_on : (S : Setting) (W V U : Whole) (n : ℕ) → Moves S W n V → Moves S V n U → Moves S W n U
and_on S W V U n m l = record {
  events = m.events ++ l.events;
  run = run_on S W V U m.events l.events m.run l.run;
  others = λ k ne. l.others k ne ∙ m.others k ne;
  others_at = λ d k ne. l.others_at d k ne ∙ m.others_at d k ne;
  attempts = λ a ne h. l.attempts a ne (m.attempts a ne h);
}

-- A step of a task asks nobody and counts nothing.
by_is_others : (n q : ℕ) (e : sharing.Event) → IsBy n e → IsOthers q e
by_is_others n q (sharing.Collected p members) h = absurd h
by_is_others n q (sharing.Ask p m quorum) h = absurd h
by_is_others n q (sharing.Count_with p) h = absurd h
by_is_others n q (sharing.Count_without p) h = absurd h
by_is_others n q _ h = tt

pub tasks_leave : (n : ℕ) (s : Sharing) (events : List sharing.Event) (a : AttemptState) (d : ℕ) → AreBy n events → MayCome s events → DeviceHas s a d → DeviceHas (all_after s events) a d
tasks_leave n s [] a d own may h = h
tasks_leave n s (e ∷ events) a d own may h =
    tasks_leave n (sharing.after s e) events a d own.1 may.1 (others_leave s e a d h may.0 (by_is_others n a.plan.epoch e own.0))

-- Steps of a task at one device are moves of the whole.
pub record AtOne (S : Setting) (W : Whole) (n d : ℕ) (t : Sharing) : Type 0 where
  pub machine : Whole
  pub moves : Moves S W n machine
  pub memberships : machine.memberships ≡ W.memberships
  pub here : machine.device d ≡ t
  pub there : (k : ℕ) → k ≢ d → machine.device k ≡ W.device k
  pub all_attempts : (a : AttemptState) → AttemptAt W (Some a) → AttemptAt machine (Some a)

pub at_one : (S : Setting) (W : Whole) (n cluster d : ℕ) (p : pgr.Device) (Then : Sharing → Type 0) → (m : Moved cluster n (W.device d) p Then) → AtOne S W n d (all_after (W.device d) m.events)
at_one S W n cluster d p Then m =
    let w : WholeMoved S W d (all_after (W.device d) m.events) = moves_of_the_whole S W d n m.events m.own m.allowed in
    record {
      machine = w.machine;
      moves = record {
        events = w.events;
        run = w.run;
        others = λ k ne. ap (λ z. z.node k) w.memberships;
        others_at = λ e k ne. by_device w e (λ z. z.node k ≡ (W.device e).node k) (λ is. subst (λ j. (all_after (W.device d) m.events).node k ≡ (W.device j).node k) (sym is) (m.others k ne)) refl;
        attempts = λ a ne h e. by_device w e (λ z. DeviceHas z a e) (λ is. subst (λ j. DeviceHas (all_after (W.device d) m.events) a j) (sym is) (tasks_leave n (W.device d) m.events a d m.own m.allowed (h d))) (h e);
      };
      memberships = w.memberships;
      here = w.device;
      there = w.others;
      all_attempts = λ a h e. by_device w e (λ z. DeviceHas z a e) (λ is. subst (λ j. DeviceHas (all_after (W.device d) m.events) a j) (sym is) (tasks_leave n (W.device d) m.events a d m.own m.allowed (h d))) (h e);
    }
  where
    by_device : (w : WholeMoved S W d (all_after (W.device d) m.events)) (e : ℕ) (P : Sharing → Type 0) → (e ≡ d → P (all_after (W.device d) m.events)) → P (W.device e) → P (w.machine.device e)
    by_device w e P here there = go (same_or_not e d)
      where
        go : (e ≡ d) ⊎ (e ≢ d) → P (w.machine.device e)
        go (inl is) = subst (λ j. P (w.machine.device j)) (sym is) (subst P (sym w.device) (here is))
        go (inr ne) = subst P (sym (w.others e ne)) there
