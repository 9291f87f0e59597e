-- An attempt that has begun in a tick ends not in it for want of an answer.
use Rattle.std.specs.Prelude.{ℕ, ◌+◌, ◌≡◌, ◌≤◌, nat_le, Bool, true, false, List, [], ◌∷◌, Option, None, Some}
use Rattle.std.proofs.Common.{arith, refl, sym, ap, subst, ◌∙◌, inl, inr}
use Rattle.cl_base.specs.Sets.{has}
use Rattle.cmm_attempt.proofs.Basics.{false_true, if_either}
use Rattle.cmm_attempt.specs.Attempts.{AttemptState}
use Rattle.cmm_attempt.specs.Calls.{Call, Own_ready, Own_seized, Take, Tick as Call_tick, With_votes, turn}
use Rattle.cmm_attempt.specs.declared.step.AttemptEnd.{AttemptEnd}
use Rattle.cmm_attempt.specs.declared.step.AttemptEnd.TheVariants as end
use Rattle.cmm_member.specs.Records.{NodeRecord}
use Rattle.node_model.specs.Members.{rested_by}
use Rattle.node_model.specs.Seats.{promising}
use Rattle.node_model.specs.declared.cluster.Cluster.{Cluster}
use Rattle.node_model.specs.declared.node.Node.{Node}
use Rattle.node_model.specs.declared.node.Node.TheVariants.{Down, Up}
use Rattle.node_model.specs.declared.node.UpNode.{UpNode}
use Rattle.refinement.specs.Doings.{Act, Change, Doing, Site, acted, changed, effect}
use Rattle.refinement.specs.Doings.Act.{Ends, Goes_on, Hears, Makes, Queues, Ticks}
use Rattle.refinement.specs.Doings.Change.{Counts, Leads, Promises, Starts}
use Rattle.refinement.specs.Doings.Doing.{Comes_up, Does, Forgets, Goes_down, Loses, Saves}
use Rattle.refinement.specs.Guards.{May, MayAct, MayAll, MayChange}
use Rattle.refinement.specs.Ties.{Delivered}
use Rattle.run_attempts.specs.Steps.{ActSo, AllSo, DoingSo, Wish}
use Rattle.run_attempts.specs.endings.Once.{ActOnce, AllOnce, CallOnce, ChangeOnce, DoingOnce, left_after, left_by, left_by_call, left_by_change}
use Rattle.run_attempts.specs.endings.Steps.{AllFit, DoingFits, EndSo}
use Rattle.run_outcomes.specs.silence.Still.{Goes}
use Rattle.run_outcomes.proofs.silence.Mute.{AllElse, DoingElse, EndsElse}
use Rattle.run_outcomes.proofs.silence.StillCourses.{first_new}
use Rattle.run_outcomes.proofs.silence.StillTurns.{call_goes}

-- no tick is left for the attempt, and it has taken none
abbrev Fresh : Bool → Option AttemptState → Type 0
Fresh left None = Unit {0}
Fresh left (Some a) = (left ≡ false) × (a.ticks ≡ 0)

abbrev pub FreshAt : Bool → Node → Type 0
FreshAt left Down = Unit {0}
FreshAt left (Up x) = Fresh left x.attempt

-- ---- calls

fresh_of : (left : Bool) (o : Option AttemptState) (a : AttemptState) → o ≡ Some a → Fresh left o → (left ≡ false) × (a.ticks ≡ 0)
fresh_of left o a is h = subst (Fresh left) is h

still_none : (a b : ℕ) → b ≤ a + 0 → a ≡ 0 → b ≡ 0
still_none a b h k = omega (arith, h, k)

by_goes : (a b : AttemptState) → Goes 0 (Some a) b → a.ticks ≡ 0 → b.ticks ≡ 0
by_goes a b (inl none) h = none
by_goes a b (inr still) h = still_none a.ticks b.ticks still.ticks h

call_fresh : (a : AttemptState) (k : Call) → (k ≡ Call_tick → ⊥) → a.ticks ≡ 0 → (turn a k).after.ticks ≡ 0
call_fresh a k other h = by_goes a (turn a k).after (call_goes 0 (Some a) a k other (inl h)) h

not_left : (left : Bool) → left ≡ false → left ≡ true → ⊥
not_left left h k = false_true (sym h ∙ k)

-- ---- changes

rested_fresh : (left : Bool) (x : UpNode) (p : ℕ) (o : Option AttemptState) → Fresh left (rested_by (promising x p) o).attempt
rested_fresh left x p None = tt
rested_fresh left x p (Some a) = tt

counted_fresh : (left : Bool) (o : Option AttemptState) (a : AttemptState) (k : Call) → o ≡ Some a → CallOnce left k → Fresh left o → (left_by_call left k ≡ false) × ((turn a k).after.ticks ≡ 0)
counted_fresh left o a Call_tick is once h = absurd (not_left left (fresh_of left o a is h).0 once)
counted_fresh left o a (Take from m) is once h = let two : (left ≡ false) × (a.ticks ≡ 0) = fresh_of left o a is h in (two.0, call_fresh a (Take from m) (λ z. cc) two.1)
counted_fresh left o a (With_votes both) is once h = let two : (left ≡ false) × (a.ticks ≡ 0) = fresh_of left o a is h in (two.0, call_fresh a (With_votes both) (λ z. cc) two.1)
counted_fresh left o a (Own_seized d r) is once h = let two : (left ≡ false) × (a.ticks ≡ 0) = fresh_of left o a is h in (two.0, call_fresh a (Own_seized d r) (λ z. cc) two.1)
counted_fresh left o a Own_ready is once h = let two : (left ≡ false) × (a.ticks ≡ 0) = fresh_of left o a is h in (two.0, call_fresh a Own_ready (λ z. cc) two.1)

change_fresh : (c : Cluster) (me : ℕ) (told : Delivered) (left : Bool) (x : UpNode) (change : Change) → MayChange c me told x change → ChangeOnce left change → Fresh left x.attempt → Fresh (left_by_change left change) (changed c me x change).attempt
change_fresh c me told left x (Promises p) may once h = rested_fresh left x p x.attempt
change_fresh c me told left x (Leads p members) may once h = (refl, first_new p members _ c.attached c.id)
change_fresh c me told left x (Counts a k s i) may once h = counted_fresh left x.attempt a k may.0 once h
change_fresh c me told left x (Starts a k s) may once h = tt
change_fresh c me told left x _ may once h = h

act_fresh : (P : Wish) (c : Cluster) (me : ℕ) (told : Delivered) (left : Bool) (x : UpNode) (a : Act) → MayAct c me told x a → ActOnce left a → ActSo P x a → Fresh left x.attempt → Fresh (left_by left a) (acted c me x a).attempt
act_fresh P c me told left x (Goes_on a k) may once so h = counted_fresh left x.attempt a k may.0 once h
act_fresh P c me told left x (Makes change) may once so h = change_fresh c me told left x change may.0 once h
act_fresh P c me told left x Ticks may once so h = absurd so
act_fresh P c me told left x (Hears from b) may once so h = absurd so
act_fresh P c me told left x (Ends a e) may once so h = tt
act_fresh P c me told left x (Queues a d kind) may once so h =
    if_either (λ (y : UpNode). Fresh left y.attempt) (has a.plan.members me) _ x h h
act_fresh P c me told left x _ may once so h = h

-- ---- doings

eight_none : (k : ℕ) → k ≡ 0 → nat_le 8 k ≡ true → ⊥
eight_none k h is = false_true (ap (nat_le 8) (sym h) ∙ is)

end_else : (told : Delivered) (left : Bool) (o : Option AttemptState) (a : AttemptState) (e : AttemptEnd) → o ≡ Some a → EndSo told true a e → Fresh left o → EndsElse e
end_else told left o a (end.Silent m) is so h = eight_none a.ticks (fresh_of left o a is h).1 so.2
end_else told left o a (end.Votes have need lacking) is so h = tt
end_else told left o a (end.Superseded q) is so h = tt
end_else told left o a (end.Foreign m) is so h = tt
end_else told left o a (end.Excluded m) is so h = tt

doing_else : (told : Delivered) (left : Bool) (node : Node) (disk : NodeRecord) (d : Doing) → DoingFits told true (record { node = node; disk = disk }) d → FreshAt left node → DoingElse d
doing_else told left (Up x) disk (Does (Ends a e)) fits h = end_else told left x.attempt a e fits.0 fits.1 h
doing_else told left Down disk (Does a) fits h = absurd fits
doing_else told left (Up x) disk (Does _) fits h = tt
doing_else told left node disk _ fits h = tt

doing_fresh : (P : Wish) (c : Cluster) (me : ℕ) (told : Delivered) (left : Bool) (node : Node) (disk : NodeRecord) (d : Doing) → (let x : Site = record { node = node; disk = disk } in May c me told x d → DoingOnce left d → DoingSo P node d → FreshAt left node → FreshAt (left_after left d) (effect c me x d).node)
doing_fresh P c me told left Down disk Comes_up may once so h = tt
doing_fresh P c me told left (Up x) disk Comes_up may once so h = absurd may
doing_fresh P c me told left node disk (Goes_down why) may once so h = tt
doing_fresh P c me told left Down disk (Does a) may once so h = absurd may
doing_fresh P c me told left (Up x) disk (Does a) may once so h = act_fresh P c me told left x a may once so h
doing_fresh P c me told left Down disk (Saves change) may once so h = absurd may
doing_fresh P c me told left (Up x) disk (Saves change) may once so h = change_fresh c me told left x change may once h
doing_fresh P c me told left node disk (Loses change why) may once so h = tt
doing_fresh P c me told left node disk (Forgets change why) may once so h = tt

pub fresh_else : (P : Wish) (c : Cluster) (me : ℕ) (told : Delivered) (left : Bool) (x : Site) (ds : List Doing) → MayAll c me told x ds → AllOnce left ds → AllFit c me told true x ds → AllSo P c me x ds → FreshAt left x.node → AllElse ds
fresh_else P c me told left x [] may once fits so h = tt
fresh_else P c me told left x (d ∷ ds) may once fits so h = (
  doing_else told left x.node x.disk d fits.0 h,
  fresh_else P c me told (left_after left d) (effect c me x d) ds may.1 once.1 fits.1 so.1 (doing_fresh P c me told left x.node x.disk d may.0 once.0 so.0 h),
)
