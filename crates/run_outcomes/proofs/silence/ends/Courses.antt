-- An attempt that has waited for seven ticks, and for which an answer is missing, ends in the next one, or its node goes down.
use Rattle.std.specs.Prelude.{ℕ, ◌+◌, ◌==◌, ◌≡◌, ◌⊎◌, ◌≤◌, ◌||◌, ◌++◌, nat_le, Bool, true, false, find, List, [], ◌∷◌, Option, None, Some, if◌then◌else◌}
use Rattle.std.specs.List.{list_any}
use Rattle.std.proofs.Common.{arith, refl, sym, ap, subst, ◌∙◌, inl, inr}
use Rattle.cl_base.specs.declared.method.Outcome as method
use Rattle.cmm_attempt.proofs.Basics.{false_true}
use Rattle.cmm_attempt.specs.Attempts.{AttemptState, Turn, again_in, is_missing, is_over, later, silenced, ticked, ticking, waits, with_steps}
use Rattle.cmm_attempt.specs.Calls.{Call, Tick as Call_tick, With_votes, turn}
use Rattle.cmm_attempt.specs.declared.phase.Phase.TheVariants.{Over}
use Rattle.cmm_attempt.specs.declared.step.AttemptEnd.TheVariants.{Silent}
use Rattle.cmm_attempt.specs.declared.step.Step.TheVariants.{Ended}
use Rattle.cmm_member.specs.Records.{NodeRecord}
use Rattle.history.specs.Setting.{coordinator}
use Rattle.node_model.specs.Attempts.{is_choosing, votes_in}
use Rattle.node_model.specs.Plans.{Plan, cause_of}
use Rattle.node_model.specs.Plans.Plan.{Falls as Plan_falls, Says, Saves, Stays}
use Rattle.node_model.specs.Seats.{record_of}
use Rattle.node_model.specs.Steps.{Outcome, at_second, carried, stepped, unless_lost}
use Rattle.node_model.specs.Ticks as ticks
use Rattle.node_model.specs.declared.cluster.Cluster.{Cluster}
use Rattle.node_model.specs.declared.input.Input.TheVariants.{Tick}
use Rattle.node_model.specs.declared.node.Node.TheVariants.{Up}
use Rattle.node_model.specs.declared.node.UpNode.{UpNode}
use Rattle.node_model.specs.declared.output.Output.{Output}
use Rattle.record_disk.specs.Disks.{DiskState, saving}
use Rattle.record_disk.specs.declared.error.Loss.{Loss}
use Rattle.refinement.proofs.Cuts.{step_of_node_is_its_course}
use Rattle.refinement.specs.Courses.{Course, joined, plan_from, saying}
use Rattle.refinement.specs.Courses.Course.{Acts, Falls, Keeps, Stops}
use Rattle.refinement.specs.Cuts as cuts
use Rattle.refinement.specs.Cuts.{course_at, if_installed, if_started, steps_course}
use Rattle.refinement.specs.Doings.{acted, changed, first_lines, going, gone_line, said, saved_lines}
use Rattle.refinement.specs.Doings.Act.{Goes_on}
use Rattle.refinement.specs.Steps.{disk_rules}
use Rattle.run_downs.proofs.Courses.{by_test, says_all}
use Rattle.status_report.specs.declared.node_entry.DownCause.{DownCause}
use Rattle.run_outcomes.specs.saves.Courses.{LeadsTo}
use Rattle.run_outcomes.specs.silence.Ends.{EndsAlong, shows_end}
use Rattle.run_outcomes.proofs.phases.Steps.{Same, governing_same, later_none}

-- ---- the tick

eight_of : (n : ℕ) → 7 ≤ n → nat_le 8 (later n) ≡ true
eight_of n h = by_test_of (nat_le 8 n) refl
  where
    by_test_of : (b : Bool) → nat_le 8 n ≡ b → nat_le 8 (if b then 8 else n + 1) ≡ true
    by_test_of true is = refl
    by_test_of false is = more n h
      where
        more : (k : ℕ) → 7 ≤ k → nat_le 8 (k + 1) ≡ true
        more k le = grind arith

-- it ends so
record Ends_so (e m : ℕ) (u : Turn) : Type 0 where
  steps : u.steps ≡ Ended (Silent m) ∷ []
  phase : u.after.phase ≡ Over
  number : u.after.plan.epoch ≡ e

tick_ends : (a : AttemptState) (m : ℕ) → is_over a.phase ≡ false → 7 ≤ a.ticks → find (is_missing a) a.plan.nodes ≡ Some m → Ends_so a.plan.epoch m (turn a Call_tick)
unfolding ticking
tick_ends a m live waited missing =
    let z : AttemptState = record a { ticks = later a.ticks } in
    by_test (Ends_so a.plan.epoch m) (is_over a.phase) (waits a) (ticked z) (λ over. absurd (false_true (sym live ∙ over)))
    (λ going_on. by_test (Ends_so a.plan.epoch m) (nat_le 8 z.ticks) (silenced z (find (is_missing z) z.plan.nodes)) (if z.ticks == 4 then with_steps z (again_in z z.phase) else waits z)
    (λ late. subst (λ o. Ends_so a.plan.epoch m (silenced z o)) (sym missing) (record { steps = refl; phase = refl; number = refl }))
    (λ early. absurd (false_true (sym early ∙ eight_of a.ticks waited))))

-- ---- along a course

ends_first : (c : Cluster) (me e : ℕ) (x : UpNode) (k : Course) (next : UpNode → Course) → EndsAlong c me e x k → EndsAlong c me e x (joined c me x k next)
ends_first c me e x Stops next h = absurd h
ends_first c me e x (Acts a rest) next (inl told) = inl told
ends_first c me e x (Acts a rest) next (inr h) = inr (ends_first c me e (acted c me x a) rest next h)
ends_first c me e x (Keeps change rest) next h = ends_first c me e (changed c me x change) rest next h
ends_first c me e x (Falls why) next h = tt

ends_behind : (c : Cluster) (me e : ℕ) (P : UpNode → Type 0) (x : UpNode) (k : Course) (next : UpNode → Course) → LeadsTo c me P x k → ((y : UpNode) → P y → EndsAlong c me e y (next y)) → EndsAlong c me e x (joined c me x k next)
ends_behind c me e P x Stops next h f = f x h
ends_behind c me e P x (Acts a rest) next h f = inr (ends_behind c me e P (acted c me x a) rest next h f)
ends_behind c me e P x (Keeps change rest) next h f = ends_behind c me e P (changed c me x change) rest next h f
ends_behind c me e P x (Falls why) next h f = tt

or_first : (a b : Bool) → a ≡ true → (a || b) ≡ true
or_first true b h = refl
or_first false b h = absurd (false_true h)

itself : (a b : ℕ) → a ≡ b → (a == b) ≡ true
itself a b h = grind arith

-- an attempt that ends so by a call
called_ends : (c : Cluster) (me e m : ℕ) (x : UpNode) (a : AttemptState) (k : Call) → Ends_so e m (turn a k) → EndsAlong c me e x (cuts.called c me x a k)
called_ends c me e m x a k so =
    ends_first c me e x (cuts.turned_all c me x a k) (if_installed c me (turn a k).steps)
    (ends_first c me e x (cuts.turned c me x a k) (if_started c me (turn a k).steps)
    (subst (λ ss. EndsAlong c me e x (cuts.turned_by c me x a k ss)) (sym so.steps)
    (inr (ends_first c me e (going x a k) (cuts.step_course me (going x a k) (Ended (Silent m))) (λ y. steps_course c me y [])
    (inl (or_first ((turn a k).after.plan.epoch == e) false (itself (turn a k).after.plan.epoch e so.number)))))))

going_ends : (c : Cluster) (me e m : ℕ) (x : UpNode) (a : AttemptState) (k : Call) → Ends_so e m (turn a k) → EndsAlong c me e x (cuts.going_course c me x a k)
going_ends c me e m x a k so =
    by_test (EndsAlong c me e x) (is_choosing (turn a k).after.phase) (Acts (Goes_on a k) (cuts.called c me (going x a k) (turn a k).after (With_votes (votes_in c (turn a k).after)))) (cuts.called c me x a k)
    (λ choosing. absurd (false_true (ap is_choosing (sym so.phase) ∙ choosing))) (λ other. called_ends c me e m x a k so)

tick_along : (c : Cluster) (me m : ℕ) (outcome : method.Outcome) (x : UpNode) (a : AttemptState) → x.attempt ≡ Some a → x.presidency ≡ None → is_over a.phase ≡ false → 7 ≤ a.ticks → find (is_missing a) a.plan.nodes ≡ Some m
    → EndsAlong c me a.plan.epoch x (cuts.tick_course c me outcome x)
tick_along c me m outcome x a has none live waited missing =
    let y : UpNode = ticks.later c x in
    inr (ends_behind c me a.plan.epoch (Same (Some a)) y (cuts.governing_course c me outcome x y) (λ z. cuts.ticked_course c me z z.attempt)
    (governing_same c me outcome x y (Some a) none (record { attempt = has; none = later_none c x none }))
    (λ z same. subst (λ o. EndsAlong c me a.plan.epoch z (cuts.ticked_course c me z o)) (sym same.attempt) (going_ends c me a.plan.epoch m z a Call_tick (tick_ends a m live waited missing))))

-- ---- what is given

either : (f : Output → Bool) (os more : List Output) → list_any f os ≡ true → list_any f (os ++ more) ≡ true
either f [] more h = absurd (false_true h)
either f (o ∷ os) more h = by_value (f o) (λ k. either f os more k) h
  where
    by_value : (b : Bool) → (list_any f os ≡ true → list_any f (os ++ more) ≡ true) → (b || list_any f os) ≡ true → (b || list_any f (os ++ more)) ≡ true
    by_value true rest k = refl
    by_value false rest k = rest k

behind : (f : Output → Bool) (os more : List Output) → list_any f more ≡ true → list_any f (os ++ more) ≡ true
behind f [] more h = h
behind f (o ∷ os) more h = or_second (f o) (list_any f (os ++ more)) (behind f os more h)
  where
    or_second : (a b : Bool) → b ≡ true → (a || b) ≡ true
    or_second true b k = refl
    or_second false b k = k

abbrev Shown : ℕ → Outcome DiskState → Type 0
Shown e o = list_any (shows_end e) o.given ≡ true

lost_keeps : (e me : ℕ) (before : List Output) (disk : DiskState) (lost : Option Loss) (next : Outcome DiskState) → list_any (shows_end e) before ≡ true → Shown e next → Shown e (unless_lost me before disk lost next)
lost_keeps e me before disk None next h k = k
lost_keeps e me before disk (Some loss) next h k = either (shows_end e) before (gone_line me (cause_of loss)) h

-- what was given stays so
given_keeps : (e me : ℕ) (p : Plan) (before : List Output) (disk : DiskState) → list_any (shows_end e) before ≡ true → Shown e (carried saving me p before disk)
given_keeps e me (Stays x) before disk h = h
given_keeps e me (Plan_falls why) before disk h = either (shows_end e) before (gone_line me why) h
given_keeps e me (Says os rest) before disk h = given_keeps e me rest (before ++ os) disk (either (shows_end e) before os h)
given_keeps e me (Saves r rest) before disk h =
    lost_keeps e me before (saving disk r).after (saving disk r).lost (carried saving me rest before (saving disk r).after) h (given_keeps e me rest before (saving disk r).after h)

falls_shown : (e me : ℕ) (before : List Output) (why : DownCause) → me ≡ coordinator e → list_any (shows_end e) (before ++ gone_line me why) ≡ true
falls_shown e me before why own = behind (shows_end e) before (gone_line me why) (or_first (me == coordinator e) false (itself me (coordinator e) own))

carried_shows : (c : Cluster) (me e : ℕ) (x : UpNode) (k : Course) (before : List Output) (disk : DiskState) → me ≡ coordinator e → EndsAlong c me e x k → Shown e (carried saving me (plan_from c me x k) before disk)
carried_shows c me e x Stops before disk own h = absurd h
carried_shows c me e x (Acts a rest) before disk own h =
    subst (Shown e) (says_all me (said c me x a) (plan_from c me (acted c me x a) rest) before disk) (by_place (λ more. carried_shows c me e (acted c me x a) rest (before ++ said c me x a) disk own more) h)
  where
    by_place : (EndsAlong c me e (acted c me x a) rest → Shown e (carried saving me (plan_from c me (acted c me x a) rest) (before ++ said c me x a) disk)) → (list_any (shows_end e) (said c me x a) ≡ true) ⊎ EndsAlong c me e (acted c me x a) rest
        → Shown e (carried saving me (plan_from c me (acted c me x a) rest) (before ++ said c me x a) disk)
    by_place rest_so (inl told) = given_keeps e me (plan_from c me (acted c me x a) rest) (before ++ said c me x a) disk (behind (shows_end e) before (said c me x a) told)
    by_place rest_so (inr more) = rest_so more
carried_shows c me e x (Keeps ch rest) before disk own h =
    subst (Shown e) (says_all me (first_lines me ch) (Saves r (saying last p)) before disk) (by_loss (saving disk r).lost (carried_shows c me e y rest (told ++ last) after own h))
  where
    y : UpNode
    y = changed c me x ch

    r : NodeRecord
    r = record_of y

    last : List Output
    last = saved_lines c me x ch

    p : Plan
    p = plan_from c me y rest

    told : List Output
    told = before ++ first_lines me ch

    after : DiskState
    after = (saving disk r).after

    by_loss : (lost : Option Loss) → Shown e (carried saving me p (told ++ last) after) → Shown e (unless_lost me told after lost (carried saving me (saying last p) told after))
    by_loss None done = subst (Shown e) (says_all me last p told after) done
    by_loss (Some loss) done = falls_shown e me told (cause_of loss) own
carried_shows c me e x (Falls why) before disk own h = falls_shown e me before why own

-- ---- the step

pub tick_shows : (c : Cluster) (me m now : ℕ) (outcome : method.Outcome) (x : UpNode) (a : AttemptState) (disk : DiskState) → me ≡ coordinator a.plan.epoch → x.attempt ≡ Some a → x.presidency ≡ None → is_over a.phase ≡ false → 7 ≤ a.ticks
    → find (is_missing a) a.plan.nodes ≡ Some m → list_any (shows_end a.plan.epoch) (stepped disk_rules c me now outcome (Up x) disk Tick).given ≡ true
tick_shows c me m now outcome x a disk own has none live waited missing =
    subst (Shown a.plan.epoch) (sym ((step_of_node_is_its_course saving c me now outcome x Tick).is [] disk))
    (carried_shows c me a.plan.epoch x (course_at c me now outcome x Tick) [] disk own (inr (tick_along c me m outcome (at_second now x) a has none live waited missing)))
