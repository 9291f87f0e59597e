-- Courses that leave the attempt, or end it, and ask nobody to seize.
use Rattle.std.specs.Prelude.{ℕ, ◌==◌, ◌&&◌, ◌||◌, ◌≡◌, ◌⊎◌, ◌++◌, true, false, Bool, List, [], ◌∷◌, Option, None, Some, is_none}
use Rattle.std.proofs.Common.{refl, sym, ap, subst, ◌∙◌, inl, inr}
use Rattle.attempt_laws.specs.Asking.{entry_of}
use Rattle.cmm_attempt.specs.Seizings.{is_asked}
use Rattle.cmm_attempt.specs.declared.seizing.Seizing.{Seizing}
use Rattle.cmm_attempt.specs.Attempts.{AttemptState}
use Rattle.cmm_attempt.specs.declared.step.Step.{Step}
use Rattle.cmm_attempt.specs.declared.step.Step.TheVariants as step
use Rattle.history.specs.Letters.{name_of}
use Rattle.history.specs.Names as name
use Rattle.history.specs.Names.{Name, same_name}
use Rattle.node_model.specs.declared.cluster.Cluster.{Cluster}
use Rattle.node_model.specs.declared.node.UpNode.{UpNode}
use Rattle.node_model.specs.declared.output.Output.{Output}
use Rattle.node_model.specs.declared.output.Output.TheVariants.{Sends, Tells}
use Rattle.refinement.specs.Courses.{Course}
use Rattle.refinement.specs.Courses.Course.{Acts, Falls, Keeps, Stops}
use Rattle.refinement.specs.Doings.{Act, Change, acted, changed, first_lines, said, saved_lines}
use Rattle.status_report.specs.declared.attempt_entry.AttemptEntry.TheVariants as attempt_entry
use Rattle.status_report.specs.declared.entry.Entry.{Entry}
use Rattle.status_report.specs.declared.entry.Entry.TheVariants as entry
use Rattle.wire.specs.declared.message.Body.{Body}
use Rattle.wire.specs.declared.message.Body.TheVariants as body
use Rattle.run_outcomes.specs.phases.Kept.{In}
use Rattle.run_outcomes.specs.saves.Courses.{Leaves, LeavesAct, LeavesChange}
use Rattle.run_outcomes.specs.silence.Asked.{Alike, HasAnswered, IsTold, Query, asks, asked_by_body, asked_by_output, asked_by_outputs, asked_by_steps, is_sent}
use Rattle.run_outcomes.specs.Mute.{AskNone, AsksNone, GivesPlainly, GoesTo, IsNoAsk, Mute, MuteAct, PlainAct}
use Rattle.run_outcomes.specs.silence.AskedCourses.{AttemptTold, HasTold, StepsTold, Tally, then_given}
use Rattle.run_outcomes.proofs.Mute.{Never, said_none, saved_none}
use Rattle.run_outcomes.proofs.phases.Leading.{act_has, change_has}

-- ---- alike

or_second : (a b : Bool) → b ≡ true → (a || b) ≡ true
or_second true b h = refl
or_second false b h = h

no_one : (a b : Bool) → ((a && false) || b) ≡ b
no_one true b = refl
no_one false b = refl

pub alike_itself : (called : Name) (asked : Bool) → Alike called asked asked
alike_itself name.Collect asked = λ h. h
alike_itself (name.SeizeData d) asked = refl
alike_itself (name.Seized d) asked = λ h. h
alike_itself name.Ready asked = λ h. h
alike_itself _ asked = tt

pub alike_then : (called : Name) (a b c : Bool) → Alike called a b → Alike called b c → Alike called a c
alike_then name.Collect a b c h k = λ x. k (h x)
alike_then (name.SeizeData d) a b c h k = k ∙ h
alike_then (name.Seized d) a b c h k = λ x. k (h x)
alike_then name.Ready a b c h k = λ x. k (h x)
alike_then _ a b c h k = tt

alike_or : (called : Name) (t before after : Bool) → Alike called before after → Alike called (t || before) (t || after)
alike_or name.Collect true before after h = λ x. refl
alike_or name.Collect false before after h = h
alike_or (name.SeizeData d) t before after h = ap (λ b. t || b) h
alike_or (name.Seized d) true before after h = λ x. refl
alike_or (name.Seized d) false before after h = h
alike_or name.Ready true before after h = λ x. refl
alike_or name.Ready false before after h = h
alike_or _ t before after h = tt

pub alike_steps : (q : Query) (steps : List Step) (before after : Bool) → Alike q.called before after → Alike q.called (asked_by_steps q steps before) (asked_by_steps q steps after)
alike_steps q [] before after h = h
alike_steps q (step.Send to m ∷ steps) before after h = alike_steps q steps (asked_by_body q to m.body before) (asked_by_body q to m.body after) (alike_or q.called (asks q to (name_of m.body)) before after h)
alike_steps q (step.SeizeHere d kind ∷ steps) before after h = alike_steps q steps before after h
alike_steps q (step.NeedVotes n ∷ steps) before after h = alike_steps q steps before after h
alike_steps q (step.InstallHere i ∷ steps) before after h = alike_steps q steps before after h
alike_steps q (step.StartHere ∷ steps) before after h = alike_steps q steps before after h
alike_steps q (step.Ended e ∷ steps) before after h = alike_steps q steps before after h

more_answered : (c m : ℕ) (before after : Bool) (o : Option Seizing) → (before ≡ true → after ≡ true) → HasAnswered c m before o → HasAnswered c m after o
more_answered c m before after None h k = tt
more_answered c m before after (Some e) h k = λ asked other. by_side (k asked other)
  where
    by_side : (before ≡ true) ⊎ ((is_asked e.seizer m ≡ true) × (is_none e.result ≡ true)) → (after ≡ true) ⊎ ((is_asked e.seizer m ≡ true) × (is_none e.result ≡ true))
    by_side (inl came) = inl (h came)
    by_side (inr awaited) = inr awaited

pub alike_told : (a : AttemptState) (m : ℕ) (called : Name) (before after : Bool) → Alike called before after → IsTold a m called before → IsTold a m called after
alike_told a m name.Collect before after h k = λ other. h (k other)
alike_told a m (name.SeizeData d) before after h k = record { sound = k.sound; told = h ∙ k.told; awaited = k.awaited; votes = k.votes }
alike_told a m (name.Seized d) before after h k = record { sound = k.sound; told = more_answered a.plan.coordinator m before after (entry_of a.devices d) h k.told; settled = k.settled }
alike_told a m name.Ready before after h k = λ ready. h (k ready)
alike_told a m _ before after h k = tt

-- ---- outputs that ask nobody to seize

data_other : (t : Bool) (d : ℕ) (b : Body) (asked : Bool) → IsNoAsk b → ((t && same_name (name_of b) (name.SeizeData d)) || asked) ≡ asked
data_other t d (body.SeizeData e members x) asked h = absurd h
data_other t d _ asked h = no_one t asked

no_ask_by : (t : Bool) (called : Name) (b : Body) (asked : Bool) → IsNoAsk b → Alike called asked ((t && same_name (name_of b) called) || asked)
no_ask_by t name.Collect b asked h = or_second (t && same_name (name_of b) name.Collect) asked
no_ask_by t (name.SeizeData d) b asked h = data_other t d b asked h
no_ask_by t (name.Seized d) b asked h = or_second (t && same_name (name_of b) (name.Seized d)) asked
no_ask_by t name.Ready b asked h = or_second (t && same_name (name_of b) name.Ready) asked
no_ask_by t _ b asked h = tt

pub no_ask : (q : Query) (to : ℕ) (b : Body) (asked : Bool) → IsNoAsk b → Alike q.called asked (asked_by_body q to b asked)
no_ask q to b asked h = no_ask_by (is_sent q.called && (to == q.to)) q.called b asked h

same_line : (e : ℕ) (q : Query) (x : Entry) (asked : Bool) → AsksNone (Tells x) → asked_by_output e q (Tells x) asked ≡ asked
same_line e q (entry.Attempt (attempt_entry.Begun f members)) asked h = absurd h
same_line e q _ asked h = refl

pub same_asked : (e : ℕ) (q : Query) (os : List Output) (asked : Bool) → AskNone os → Alike q.called asked (asked_by_outputs e q os asked)
same_asked e q [] asked h = alike_itself q.called asked
same_asked e q (Tells x ∷ os) asked h = subst (λ b. Alike q.called asked (asked_by_outputs e q os b)) (sym (same_line e q x asked h.0)) (same_asked e q os asked h.1)
same_asked e q (Sends to b ∷ os) asked h =
    alike_then q.called asked (asked_by_body q to b asked) (asked_by_outputs e q os (asked_by_body q to b asked)) (no_ask q to b asked h.0) (same_asked e q os (asked_by_body q to b asked) h.1)

-- ---- the attempt

abbrev pub Grows : Tally → Tally → Type 0
Grows g f = (e : ℕ) (q : Query) → Alike q.called (g e q) (f e q)

pub told_same : (g f : Tally) (steps : List Step) (a : AttemptState) → Grows g f → StepsTold g steps a → StepsTold f steps a
told_same g f steps a same h =
    λ q. alike_told a q.to q.called (asked_by_steps q steps (g a.plan.epoch q)) (asked_by_steps q steps (f a.plan.epoch q)) (alike_steps q steps (g a.plan.epoch q) (f a.plan.epoch q) (same a.plan.epoch q)) (h q)

pub in_same : (g f : Tally) (steps : List Step) (o : Option AttemptState) → Grows g f → In (StepsTold g steps) o → In (StepsTold f steps) o
in_same g f steps None same h = tt
in_same g f steps (Some a) same h = told_same g f steps a same h

pub act_told : (c : Cluster) (me : ℕ) (x : UpNode) (g : Tally) (a : Act) → LeavesAct a → MuteAct a → PlainAct a → HasTold x g → HasTold (acted c me x a) (then_given g (said c me x a))
act_told c me x g a leaves mute plain h =
    in_same g (then_given g (said c me x a)) [] (acted c me x a).attempt (λ e q. same_asked e q (said c me x a) (g e q) (said_none c me x a leaves mute plain)) (act_has (AttemptTold g) c me x a leaves h)

pub change_told : (c : Cluster) (me : ℕ) (x : UpNode) (g : Tally) (change : Change) → LeavesChange change → HasTold x g → HasTold (changed c me x change) (then_given g (first_lines me change ++ saved_lines c me x change))
change_told c me x g change leaves h =
    let os : List Output = first_lines me change ++ saved_lines c me x change in
    in_same g (then_given g os) [] (changed c me x change).attempt (λ e q. same_asked e q os (g e q) (saved_none c me x change leaves)) (change_has (AttemptTold g) c me x change leaves h)

pub silent_goes : (c : Cluster) (me : ℕ) (x : UpNode) (g : Tally) (k : Course) → Leaves k → Mute k → GivesPlainly k → HasTold x g → GoesTo then_given c me HasTold x g k
silent_goes c me x g Stops leaves mute plain h = h
silent_goes c me x g (Acts a rest) leaves mute plain h = silent_goes c me (acted c me x a) (then_given g (said c me x a)) rest leaves.1 mute.1 plain.1 (act_told c me x g a leaves.0 mute.0 plain.0 h)
silent_goes c me x g (Keeps change rest) leaves mute plain h =
    silent_goes c me (changed c me x change) (then_given g (first_lines me change ++ saved_lines c me x change)) rest leaves.1 mute plain (change_told c me x g change leaves.0 h)
silent_goes c me x g (Falls why) leaves mute plain h = tt

none_told : (g : Tally) (o : Option AttemptState) → In Never o → In (AttemptTold g) o
none_told g None h = tt
none_told g (Some a) h = absurd h

pub none_goes : (c : Cluster) (me : ℕ) (x : UpNode) (g : Tally) (k : Course) → Leaves k → In Never x.attempt → GoesTo then_given c me HasTold x g k
none_goes c me x g Stops leaves h = none_told g x.attempt h
none_goes c me x g (Acts a rest) leaves h = none_goes c me (acted c me x a) (then_given g (said c me x a)) rest leaves.1 (act_has Never c me x a leaves.0 h)
none_goes c me x g (Keeps change rest) leaves h = none_goes c me (changed c me x change) (then_given g (first_lines me change ++ saved_lines c me x change)) rest leaves.1 (change_has Never c me x change leaves.0 h)
none_goes c me x g (Falls why) leaves h = tt
