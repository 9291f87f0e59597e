-- A coordinator that its attempt newly asks to seize a device has by the lines a task for it behind the first line of the step, and had none before.
use Rattle.std.specs.Prelude.{ℕ, ◌≡◌, ◌⊎◌, Bool, true, false, List, [], ◌∷◌, Option, None, Some, is_some, map}
use Rattle.std.specs.List.{filter}
use Rattle.std.proofs.Common.{refl, sym, ap, ◌∙◌, inl, inr}
use Rattle.attempt_laws.specs.Asking.{AreApart, entry_numbers, entry_of}
use Rattle.cl_base.specs.Sets.{has}
use Rattle.cl_base.specs.declared.header.Header.{Header}
use Rattle.cmm_attempt.proofs.Basics.{false_true, same_some}
use Rattle.cmm_attempt.specs.Attempts.{AttemptState}
use Rattle.cmm_attempt.specs.declared.seizing.Seizing.{Seizing}
use Rattle.device_queue.specs.declared.task.Task.{Task}
use Rattle.history.specs.Attempts.{gets_task}
use Rattle.history.specs.Member.{member_of}
use Rattle.history.specs.Moment.{Moment}
use Rattle.history.specs.Queue as told
use Rattle.history.specs.Setting.{Setting}
use Rattle.history_setting.specs.Settings.{setting_of}
use Rattle.node_model.specs.declared.node.Node.{Node}
use Rattle.node_model.specs.declared.node.Node.TheVariants.{Down, Up}
use Rattle.node_model.specs.declared.node.UpNode.{UpNode}
use Rattle.run_history.specs.Scenes.{Scene}
use Rattle.run_outcomes.specs.phases.Laws.{is_seizing}
use Rattle.run_outcomes.specs.silence.Anew.{has_asked_at}
use Rattle.run_outcomes.specs.tasks.Lasting.{lasts_open}
use Rattle.run_outcomes.proofs.members.Queues.{closed_so}
use Rattle.run_outcomes.proofs.onward.Passing.{Passed}
use Rattle.run_outcomes.proofs.silence.ends.OwnMarks.{own_gets, shut_so}
use Rattle.run_outcomes.proofs.silence.tasks.Asked.{Found, found, listed}
use Rattle.run_outcomes.proofs.silence.tasks.Fresh.{among, devices_of}
use Rattle.run_outcomes.proofs.silence.tasks.Marks.{Mark}
use Rattle.run_outcomes.proofs.silence.tasks.Own.{Facts}
use Rattle.run_outcomes.proofs.told_tasks.Added.{task_among}
use Rattle.run_outcomes.proofs.told_tasks.Begun.{same_devices}
use Rattle.run_outcomes.proofs.told_tasks.Closed.{closed_all, closed_before}
use Rattle.run_outcomes.proofs.told_tasks.Quiet.{same_tasks}

-- ---- the devices that an attempt has asked for

abbrev pub asked_devices : ℕ → List Seizing → List ℕ
asked_devices c es = map (λ (e : Seizing). e.attached.device) (filter (λ (e : Seizing). has e.asked c) es)

pub asked_in_list : (n d : ℕ) (es : List Seizing) → has_asked_at n (entry_of es d) ≡ true → among d (asked_devices n es) ≡ true
asked_in_list n d es h = listed (λ (e : Seizing). has e.asked n) d es (by_entry (entry_of es d) h)
  where
    by_entry : (o : Option Seizing) → has_asked_at n o ≡ true → Found (λ (e : Seizing). has e.asked n) d o
    by_entry None k = absurd (false_true k)
    by_entry (Some e) k = record { entry = e; is = refl; passes = k }

pub listed_asked : (n d : ℕ) (es : List Seizing) → AreApart (entry_numbers es) → among d (asked_devices n es) ≡ true → has_asked_at n (entry_of es d) ≡ true
listed_asked n d es apart h =
    let f : Found (λ (e : Seizing). has e.asked n) d (entry_of es d) = found (λ (e : Seizing). has e.asked n) d es apart h in
    ap (has_asked_at n) f.is ∙ f.passes

-- ---- what is known of a step

-- the attempt asks its coordinator newly for the device
pub record NewOwn (h : Header) (s t : Scene) (n : ℕ) (x y : UpNode) (a b : AttemptState) (d : ℕ) : Type 0 where
  pub was : s.nodes.node n ≡ Up x
  pub had : x.attempt ≡ Some a
  pub up : t.nodes.node n ≡ Up y
  pub has : y.attempt ≡ Some b
  pub number : b.plan.epoch ≡ a.plan.epoch
  pub shut : told.queue_is_open (setting_of h) n t.moments ≡ false
  pub seizing : is_seizing b.phase ≡ true
  pub now : has_asked_at n (entry_of b.devices d) ≡ true
  pub before : has_asked_at n (entry_of a.devices d) ≡ false
  pub f : Facts h s n x a
  pub g : Facts h t n y b
  pub own : a.plan.coordinator ≡ n
  pub own_after : b.plan.coordinator ≡ n
  pub none : is_some (member_of n s.moments) ≡ false
  pub none_after : is_some (member_of n t.moments) ≡ false
  pub early : (is_seizing a.phase ≡ true) ⊎ (told.tasks_of (setting_of h) n s.moments ≡ [])

refuted : (b : Bool) → (b ≡ true → ⊥) → b ≡ false
refuted true f = absurd (f refl)
refuted false f = refl

module _ (h : Header) (s t : Scene) (n : ℕ) (x y : UpNode) (a b : AttemptState) (d : ℕ) (k : NewOwn h s t n x y a b d) where
  abbrev S : Setting
  S = setting_of h

  -- ---- the node does nothing, or what leaves its tasks

  same_up : (node : Node) (v w : UpNode) → node ≡ Up v → node ≡ Up w → v ≡ w
  same_up node v w i j = ap (up_of v) (sym i ∙ j)
    where
      up_of : UpNode → Node → UpNode
      up_of z Down = z
      up_of z (Up u) = u

  pub same_attempt : x.attempt ≡ Some b → ⊥
  same_attempt is = false_true (sym k.before ∙ (ap (λ (z : AttemptState). has_asked_at n (entry_of z.devices d)) (same_some a b (sym k.had ∙ is)) ∙ k.now))

  pub same_node : t.nodes.node n ≡ s.nodes.node n → ⊥
  same_node is = same_attempt (ap (λ (z : UpNode). z.attempt) (same_up (s.nodes.node n) x y k.was (sym is ∙ k.up)) ∙ k.has)

  asked_now : among d (map (λ (z : Task). z.device) y.tasks) ≡ true
  asked_now = ap (among d) (k.g.own.devices k.seizing) ∙ (ap (λ j. among d (asked_devices j b.devices)) k.own_after ∙ asked_in_list n d b.devices k.now)

  not_asked : is_seizing a.phase ≡ true → among d (map (λ (z : Task). z.device) x.tasks) ≡ true → ⊥
  not_asked seized is =
      false_true (sym k.before ∙ listed_asked n d a.devices k.f.apart (ap (λ j. among d (asked_devices j a.devices)) (sym k.own) ∙ (ap (among d) (sym (k.f.own.devices seized)) ∙ is)))

  pub same_list : is_seizing a.phase ≡ true → y.tasks ≡ x.tasks → ⊥
  same_list seized is = not_asked seized (ap (λ ts. among d (map (λ (z : Task). z.device) ts)) (sym is) ∙ asked_now)

  -- ---- a first line, and others that leave its tasks

  pub new_gets : (mark : Moment) → Mark S n a.plan.epoch s.moments mark → Passed n (mark ∷ s.moments) t.moments → gets_task S n s.moments mark ≡ true
  new_gets mark m passed = own_gets S n a.plan.epoch d s.moments mark m (shut_so S n (mark ∷ s.moments) closed_mark) k.none lacks has_there
    where
      closed_there : lasts_open S n t.moments ≡ false
      closed_there = closed_so S n t.moments k.none_after k.shut

      closed_mark : lasts_open S n (mark ∷ s.moments) ≡ false
      closed_mark = closed_all S n (mark ∷ s.moments) passed.newer passed.quiet (ap (lasts_open S n) (sym passed.parts) ∙ closed_there)

      closed_here : lasts_open S n s.moments ≡ false
      closed_here = closed_before S n s.moments mark m.calm closed_mark

      has_there : told.has_task d (told.tasks_of S n (mark ∷ s.moments)) ≡ true
      has_there =
          task_among d (told.tasks_of S n (mark ∷ s.moments))
          ∙ (ap (among d)
          (sym (same_devices y.tasks (told.tasks_of S n t.moments) (k.g.same k.seizing closed_there)
          ∙ ap devices_of (ap (told.tasks_of S n) passed.parts ∙ same_tasks S n (mark ∷ s.moments) passed.newer passed.quiet)))
          ∙ asked_now)

      lacks_in : (is_seizing a.phase ≡ true) ⊎ (told.tasks_of S n s.moments ≡ []) → told.has_task d (told.tasks_of S n s.moments) ≡ true → ⊥
      lacks_in (inl seized) is = not_asked seized (ap (among d) (same_devices x.tasks (told.tasks_of S n s.moments) (k.f.same seized closed_here)) ∙ (sym (task_among d (told.tasks_of S n s.moments)) ∙ is))
      lacks_in (inr none) is = false_true (ap (told.has_task d) (sym none) ∙ is)

      lacks : told.has_task d (told.tasks_of S n s.moments) ≡ false
      lacks = refuted (told.has_task d (told.tasks_of S n s.moments)) (λ is. lacks_in k.early is)
