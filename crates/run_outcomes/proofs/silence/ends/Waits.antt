-- What a step makes of the attempt of its node: its ticks go on, or it has asked anew, or installs.
use Rattle.std.specs.Prelude.{ℕ, ◌+◌, ◌==◌, ◌≡◌, ◌≤◌, ◌⊎◌, nat_le, Bool, true, false, find, List, [], ◌∷◌, Option, None, Some, if◌then◌else◌}
use Rattle.std.proofs.Common.{arith, refl, sym, subst, ◌∙◌, inl, inr}
use Rattle.cl_base.specs.declared.method.Outcome as method
use Rattle.cmm_attempt.proofs.Basics.{if_either}
use Rattle.cmm_attempt.specs.Attempts.{AttemptState, Turn, again_in, beginning, is_missing, is_over, later, silenced, ticked, ticking, waits, with_steps}
use Rattle.cmm_attempt.specs.Calls.{Call, IsReached, May, Own_ready, Own_seized, Run, Take, Tick as Call_tick, With_votes, turn}
use Rattle.cmm_attempt.specs.declared.counting.BothVotes.{BothVotes}
use Rattle.cmm_attempt.specs.declared.phase.Phase.TheVariants.{Choosing, Over}
use Rattle.node_model.specs.Steps.{Outcome, at_second, stepped}
use Rattle.node_model.specs.Ticks as clock
use Rattle.node_model.specs.declared.cluster.Cluster.{Cluster}
use Rattle.node_model.specs.declared.input.Input.TheVariants.{Tick}
use Rattle.node_model.specs.declared.node.Node.TheVariants.{Up}
use Rattle.node_model.specs.declared.node.UpNode.{UpNode}
use Rattle.record_disk.specs.Disks.{DiskState, saving}
use Rattle.refinement.proofs.Cuts.{step_of_node_is_its_course}
use Rattle.refinement.specs.Cuts as cuts
use Rattle.refinement.specs.Cuts.{course_at}
use Rattle.refinement.specs.Steps.{disk_rules}
use Rattle.run_outcomes.specs.saves.Courses.{LeadsTo}
use Rattle.run_outcomes.specs.saves.Kept.{IsAt}
use Rattle.run_outcomes.specs.silence.Still.{StillOf}
use Rattle.run_outcomes.proofs.phases.Leading.{Has, IsKept, going_has}
use Rattle.run_outcomes.proofs.phases.Steps.{Same, carried_leads, governing_same, later_none}
use Rattle.run_outcomes.proofs.saves.Rests.{leads_joined}
use Rattle.run_outcomes.proofs.silence.StillCourses.{first_new}
use Rattle.run_outcomes.proofs.silence.StillTurns.{call_goes, still_self}
use Rattle.run_outcomes.proofs.silence.ends.Calls.{IsStill, still_call}
use Rattle.run_outcomes.proofs.silence.ends.Kept.{Led}
use Rattle.run_outcomes.proofs.silence.ends.Moves.{IsApart, Lasts, lasts_moves}

-- ---- never more than eight ticks

zero_eight : (k : ℕ) → k ≡ 0 → k ≤ 8
zero_eight k h = omega (arith, h)

none_more : (a b : ℕ) → b ≤ a + 0 → a ≤ 8 → b ≤ 8
none_more a b h k = omega (arith, h, k)

later_eight : (k : ℕ) → later k ≤ 8
later_eight k = by_late (nat_le 8 k) refl
  where
    more : (k : ℕ) → nat_le 8 k ≡ false → k + 1 ≤ 8
    more k h = grind arith

    by_late : (b : Bool) → nat_le 8 k ≡ b → (if b then 8 else k + 1) ≤ 8
    by_late true is = grind arith
    by_late false is = more k is

silenced_eight : (s : AttemptState) (m : Option ℕ) → s.ticks ≤ 8 → (silenced s m).after.ticks ≤ 8
silenced_eight s None h = h
silenced_eight s (Some m) h = h

tick_eight : (s : AttemptState) → s.ticks ≤ 8 → (turn s Call_tick).after.ticks ≤ 8
unfolding ticking
tick_eight s h =
    let z : AttemptState = record s { ticks = later s.ticks } in
    if_either (λ (u : Turn). u.after.ticks ≤ 8) (is_over s.phase) (waits s) (ticked z) h
    (if_either (λ (u : Turn). u.after.ticks ≤ 8) (nat_le 8 z.ticks) (silenced z (find (is_missing z) z.plan.nodes)) (if z.ticks == 4 then with_steps z (again_in z z.phase) else waits z) (silenced_eight z (find (is_missing z) z.plan.nodes) (later_eight s.ticks))
    (if_either (λ (u : Turn). u.after.ticks ≤ 8) (z.ticks == 4) (with_steps z (again_in z z.phase)) (waits z) (later_eight s.ticks) (later_eight s.ticks)))

other_eight : (s : AttemptState) (k : Call) → (k ≡ Call_tick → ⊥) → s.ticks ≤ 8 → (turn s k).after.ticks ≤ 8
other_eight s k other h = by_side (call_goes 0 (Some s) s k other (inr (still_self s)))
  where
    by_side : ((turn s k).after.ticks ≡ 0) ⊎ StillOf 0 (Some s) (turn s k).after → (turn s k).after.ticks ≤ 8
    by_side (inl zero) = zero_eight (turn s k).after.ticks zero
    by_side (inr still) = none_more s.ticks (turn s k).after.ticks still.ticks h

call_eight : (s : AttemptState) (k : Call) → s.ticks ≤ 8 → (turn s k).after.ticks ≤ 8
call_eight s Call_tick h = tick_eight s h
call_eight s (Take from m) h = other_eight s (Take from m) (λ e. cc) h
call_eight s (With_votes both) h = other_eight s (With_votes both) (λ e. cc) h
call_eight s (Own_seized d r) h = other_eight s (Own_seized d r) (λ e. cc) h
call_eight s Own_ready h = other_eight s Own_ready (λ e. cc) h

run_eight : (s t : AttemptState) (ks : List Call) → Run s ks t → s.ticks ≤ 8 → t.ticks ≤ 8
run_eight s t [] run h = subst (λ (z : AttemptState). z.ticks ≤ 8) (sym run) h
run_eight s t (k ∷ ks) run h = run_eight (turn s k).after t ks run.1 (call_eight s k h)

pub reached_eight : (s : AttemptState) → IsReached s → s.ticks ≤ 8
reached_eight s r = run_eight (beginning r.p r.members r.own r.attached r.cluster).after s r.calls r.run (zero_eight _ (first_new r.p r.members r.own r.attached r.cluster))

-- ---- a tick

-- it counts, or ends the attempt
pub tick_led : (a : AttemptState) → is_over a.phase ≡ false → a.ticks + 1 ≤ 8 → IsApart a → Led (a.ticks + 1) a (turn a Call_tick).after
unfolding ticking
tick_led a live few apart =
    let z : AttemptState = record a { ticks = later a.ticks } in
    let k : Lasts (a.ticks + 1) a z = record { ticks = counted a.ticks few; phase = refl; asked = λ d m. refl; apart = apart } in
    let l : Led (a.ticks + 1) a z = record { plan = refl; moves = lasts_moves (a.ticks + 1) a z k } in
    subst (λ b. Led (a.ticks + 1) a (if b then waits a else ticked z).after) (sym live)
    (if_either (λ (u : Turn). Led (a.ticks + 1) a u.after) (nat_le 8 z.ticks) (silenced z (find (is_missing z) z.plan.nodes)) (if z.ticks == 4 then with_steps z (again_in z z.phase) else waits z) (by_missing z (find (is_missing z) z.plan.nodes) l)
    (if_either (λ (u : Turn). Led (a.ticks + 1) a u.after) (z.ticks == 4) (with_steps z (again_in z z.phase)) (waits z) l l))
  where
    counted : (k : ℕ) → k + 1 ≤ 8 → k + 1 ≤ later k
    counted k h = by_late (nat_le 8 k) refl
      where
        same : (k : ℕ) → k + 1 ≤ k + 1
        same k = omega arith

        by_late : (b : Bool) → nat_le 8 k ≡ b → k + 1 ≤ (if b then 8 else k + 1)
        by_late true is = h
        by_late false is = same k

    by_missing : (z : AttemptState) (m : Option ℕ) → Led (a.ticks + 1) a z → Led (a.ticks + 1) a (silenced z m).after
    by_missing z None l = l
    by_missing z (Some m) l = record { plan = l.plan; moves = inr (inr (inl refl)) }

tick_course_has : (I : AttemptState → Type 0) (c : Cluster) (me : ℕ) (ends : method.Outcome) (x : UpNode) (a : AttemptState) → IsKept I → x.attempt ≡ Some a → x.presidency ≡ None → I (turn a Call_tick).after → LeadsTo c me (Has I) x (cuts.tick_course c me ends x)
tick_course_has I c me ends x a keeps has none h =
    let y : UpNode = clock.later c x in
    leads_joined c me (Same (Some a)) (Has I) y (cuts.governing_course c me ends x y) (λ z. cuts.ticked_course c me z z.attempt) (governing_same c me ends x y (Some a) none (record { attempt = has; none = later_none c x none }))
    (λ z same. subst (λ o. LeadsTo c me (Has I) z (cuts.ticked_course c me z o)) (sym same.attempt) (going_has I c me z a Call_tick keeps h))

pub tick_step : (I : AttemptState → Type 0) (c : Cluster) (n now : ℕ) (ends : method.Outcome) (x : UpNode) (a : AttemptState) (disk : DiskState) → IsKept I → x.attempt ≡ Some a → x.presidency ≡ None → I (turn a Call_tick).after
    → IsAt (Has I) (stepped disk_rules c n now ends (Up x) disk Tick).after
tick_step I c n now ends x a disk keeps has none h =
    subst (λ (o : Outcome DiskState). IsAt (Has I) o.after) (sym ((step_of_node_is_its_course saving c n now ends x Tick).is [] disk))
    (carried_leads c n (Has I) x (course_at c n now ends x Tick) [] disk (tick_course_has I c n ends (at_second now x) a keeps has none h))

-- one that is over stays so
pub over_kept : IsKept (λ s. s.phase ≡ Over)
over_kept s k may at = by_rest (still_call s k no_votes (subst IsStill (sym at) tt))
  where
    apart : Over ≡ Choosing → ⊥
    apart e = cc

    no_votes : (both : BothVotes) → k ≡ With_votes both → ⊥
    no_votes both is = apart (sym at ∙ subst (May s) is may)

    by_rest : ((turn s k).after.phase ≡ s.phase) ⊎ ((turn s k).after.phase ≡ Over) → (turn s k).after.phase ≡ Over
    by_rest (inl is) = is ∙ at
    by_rest (inr over) = over
