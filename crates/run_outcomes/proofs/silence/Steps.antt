-- After each step of a node its attempt has sent what its state has, with what the node gave.
use Rattle.std.specs.Prelude.{All, ℕ, ◌≡◌, ◌≤◌, ◌++◌, Bool, List, [], ◌∷◌, Option, None, Some}
use Rattle.std.proofs.Common.{refl, sym, ap, subst, ◌∙◌}
use Rattle.attempt_laws.specs.Asking.{AreApart, numbers_of}
use Rattle.cl_base.specs.declared.method.Outcome as method
use Rattle.cmm_attempt.specs.Calls.{IsDevice}
use Rattle.cmm_member.specs.Records.{NodeRecord}
use Rattle.node_model.specs.Clusters.{first_valid_of}
use Rattle.node_model.specs.Plans.{Plan}
use Rattle.node_model.specs.Plans.Plan.{Saves}
use Rattle.node_model.specs.Seats.{record_of}
use Rattle.node_model.specs.Steps.{Outcome, booted_with, carried, stepped, unless_lost}
use Rattle.node_model.specs.declared.cluster.Cluster.{Cluster}
use Rattle.node_model.specs.declared.input.Input.{Input}
use Rattle.node_model.specs.declared.input.Input.TheVariants.{Boot}
use Rattle.node_model.specs.declared.node.Node.{Node}
use Rattle.node_model.specs.declared.node.Node.TheVariants.{Down, Up}
use Rattle.node_model.specs.declared.node.UpNode.{UpNode}
use Rattle.node_model.specs.declared.output.Output.{Output}
use Rattle.record_disk.specs.Disks.{DiskState, mounting, saving}
use Rattle.record_disk.specs.declared.error.Loss.{Loss}
use Rattle.record_disk.specs.declared.error.Loss.TheVariants.{Fault, Stopped}
use Rattle.refinement.proofs.Cuts.{step_of_node_is_its_course}
use Rattle.refinement.proofs.Facts.{facts_of}
use Rattle.refinement.proofs.Handlers.{delivered_by, step_may_go}
use Rattle.refinement.specs.Courses.{Course, plan_from, saying}
use Rattle.refinement.specs.Courses.Course.{Acts, Falls, Keeps, Stops}
use Rattle.refinement.specs.Cuts.{course_at}
use Rattle.refinement.specs.Doings.{acted, changed, first_lines, said, saved_lines}
use Rattle.refinement.specs.Facts.{JoinsIn}
use Rattle.refinement.specs.Guards.{MayGo}
use Rattle.refinement.specs.Steps.{disk_rules}
use Rattle.refinement.specs.Ties.{NodeTied}
use Rattle.run_downs.proofs.Courses.{says_all}
use Rattle.run_history.proofs.Courses.{doings_so}
use Rattle.run_history.specs.Scenes.{Scene}
use Rattle.run_messages.specs.records.Kept.{KnownScene}
use Rattle.run_outcomes.specs.saves.Kept.{IsAt}
use Rattle.run_outcomes.specs.Mute.{GoesTo}
use Rattle.run_outcomes.specs.silence.AskedCourses.{HasBoth, HasLate, HasTold, Tally, then_given}
use Rattle.run_outcomes.specs.silence.Asked.{Alike, InputTold, Query, asked_by_output, asked_by_outputs}
use Rattle.history.specs.Names.{Name}
use Rattle.run_outcomes.proofs.silence.Inputs.{course_told}
use Rattle.run_outcomes.proofs.silence.Installs.{course_late, goes_both, late_same}
use Rattle.run_outcomes.proofs.Mute.{gives_plainly}
use Rattle.run_outcomes.proofs.silence.Quiet.{alike_itself, in_same}

-- ---- a course

alike_same : (called : Name) (a b : Bool) → a ≡ b → Alike called a b
alike_same called a b is = subst (Alike called a) is (alike_itself called a)

append_asked : (e : ℕ) (d : Query) (os more : List Output) (asked : Bool) → asked_by_outputs e d (os ++ more) asked ≡ asked_by_outputs e d more (asked_by_outputs e d os asked)
append_asked e d [] more asked = refl
append_asked e d (o ∷ os) more asked = append_asked e d os more (asked_by_output e d o asked)

-- the node is so after it, with what it gave
abbrev pub EndsTold : Tally → Outcome DiskState → Type 0
EndsTold g o = IsAt (λ y. HasBoth y (then_given g o.given)) o.after

-- these were given so far
abbrev Given : Tally → Tally → List Output → Type 0
Given g f before = (e : ℕ) (d : Query) → f e d ≡ asked_by_outputs e d before (g e d)

more_given : (g f : Tally) (before os : List Output) → Given g f before → Given g (then_given f os) (before ++ os)
more_given g f before os h e d = ap (asked_by_outputs e d os) (h e d) ∙ sym (append_asked e d before os (g e d))

carried_told : (c : Cluster) (me : ℕ) (x : UpNode) (g f : Tally) (k : Course) (before : List Output) (disk : DiskState) → Given g f before → GoesTo then_given c me HasBoth x f k → EndsTold g (carried saving me (plan_from c me x k) before disk)
carried_told c me x g f Stops before disk given h = (
  in_same f (then_given g before) [] x.attempt (λ e d. alike_same d.called (f e d) (then_given g before e d) (given e d)) h.0,
  late_same f (then_given g before) x.attempt (λ e d. sym (given e d)) h.1,
)
carried_told c me x g f (Acts a rest) before disk given h =
    subst (EndsTold g) (says_all me (said c me x a) (plan_from c me (acted c me x a) rest) before disk)
    (carried_told c me (acted c me x a) g (then_given f (said c me x a)) rest (before ++ said c me x a) disk (more_given g f before (said c me x a) given) h)
carried_told c me x g f (Keeps ch rest) before disk given h =
    subst (EndsTold g) (says_all me (first_lines me ch) (Saves r (saying last p)) before disk)
    (by_loss (saving disk r).lost (carried_told c me y g (then_given f (first_lines me ch ++ last)) rest (told ++ last) after all h))
  where
    y : UpNode
    y = changed c me x ch

    r : NodeRecord
    r = record_of y

    last : List Output
    last = saved_lines c me x ch

    p : Plan
    p = plan_from c me y rest

    told : List Output
    told = before ++ first_lines me ch

    after : DiskState
    after = (saving disk r).after

    all : Given g (then_given f (first_lines me ch ++ last)) (told ++ last)
    all e d = append_asked e d (first_lines me ch) last (f e d) ∙ more_given g (then_given f (first_lines me ch)) told last (more_given g f before (first_lines me ch) given) e d

    by_loss : (lost : Option Loss) → EndsTold g (carried saving me p (told ++ last) after) → EndsTold g (unless_lost me told after lost (carried saving me (saying last p) told after))
    by_loss None done = subst (EndsTold g) (says_all me last p told after) done
    by_loss (Some Stopped) done = tt
    by_loss (Some Fault) done = tt
carried_told c me x g f (Falls why) before disk given h = tt

-- ---- a step

booted_told : (g : Tally) (me valid : ℕ) (r : NodeRecord) (after : DiskState) (lost : Option Loss) → EndsTold g (booted_with me valid r (record { after = after; lost = lost }))
booted_told g me valid r after None = (tt, tt)
booted_told g me valid r after (Some Stopped) = tt
booted_told g me valid r after (Some Fault) = tt

up_told : (c : Cluster) (s : Scene) (n now : ℕ) (ends : method.Outcome) (x : UpNode) (i : Input) (g : Tally) → n ≤ 32 → All IsDevice c.attached → AreApart (numbers_of c.attached) → (k : KnownScene c s) → s.nodes.node n ≡ Up x → InputTold g x.attempt i → HasBoth x g
    → EndsTold g (stepped disk_rules c n now ends (Up x) (s.nodes.disk n) i)
up_told c s n now ends x i g high fits apart k up hand h =
    subst (EndsTold g) (sym ((step_of_node_is_its_course saving c n now ends x i).is [] (s.nodes.disk n)))
    (carried_told c n x g g (course_at c n now ends x i) [] (s.nodes.disk n) (λ e d. refl)
    (goes_both c n HasTold HasLate x g k0 (course_told c n apart now ends x g i hand (gives_plainly c n (delivered_by i) x k0 may (λ replies. doings_so c n now ends replies i (Up x))) h.0)
    (course_late c n (delivered_by i) x g k0 may h.1)))
  where
    k0 : Course
    k0 = course_at c n now ends x i

    may : MayGo c n (delivered_by i) x k0
    may = step_may_go c n now ends x i high fits (facts_of c k.stage.machine n (s.nodes.disk n).kept x k.stage.holds (subst (λ z. NodeTied c k.stage.machine n (s.nodes.disk n).kept z) up (k.stage.stands n).tied) (subst JoinsIn up (k.stage.stands n).joins))

pub step_told : (c : Cluster) (s : Scene) (n now : ℕ) (ends : method.Outcome) (i : Input) (g : Tally) → n ≤ 32 → All IsDevice c.attached → AreApart (numbers_of c.attached) → KnownScene c s → IsAt (λ x. InputTold g x.attempt i) (s.nodes.node n) → IsAt (λ x. HasBoth x g) (s.nodes.node n)
    → EndsTold g (stepped disk_rules c n now ends (s.nodes.node n) (s.nodes.disk n) i)
step_told c s n now ends i g high fits apart k hand h = by_node (s.nodes.node n) refl hand h
  where
    by_input : (i : Input) → EndsTold g (stepped disk_rules c n now ends Down (s.nodes.disk n) i)
    by_input Boot = booted_told g n (first_valid_of c n) (s.nodes.disk n).kept (mounting (s.nodes.disk n)).after (mounting (s.nodes.disk n)).lost
    by_input _ = tt

    by_node : (node : Node) → s.nodes.node n ≡ node → IsAt (λ x. InputTold g x.attempt i) node → IsAt (λ x. HasBoth x g) node → EndsTold g (stepped disk_rules c n now ends node (s.nodes.disk n) i)
    by_node Down is come there = by_input i
    by_node (Up x) is come there = up_told c s n now ends x i g high fits apart k is come there
