-- What holds along a course holds of the step of the node, and of what it gives.
use Rattle.std.specs.Prelude.{ℕ, ◌≡◌, ◌++◌, List, [], ◌∷◌, Option, None, Some}
use Rattle.std.proofs.Common.{refl, sym, subst, append_assoc}
use Rattle.cl_base.specs.declared.method.Outcome as method
use Rattle.cmm_member.specs.Records.{NodeRecord}
use Rattle.node_model.specs.Plans.{Plan}
use Rattle.node_model.specs.Plans.Plan.{Saves}
use Rattle.node_model.specs.Seats.{record_of}
use Rattle.node_model.specs.Steps.{Outcome, carried, stepped, unless_lost}
use Rattle.node_model.specs.declared.cluster.Cluster.{Cluster}
use Rattle.node_model.specs.declared.input.Input.{Input}
use Rattle.node_model.specs.declared.node.Node.TheVariants.{Up}
use Rattle.node_model.specs.declared.node.UpNode.{UpNode}
use Rattle.node_model.specs.declared.output.Output.{Output}
use Rattle.record_disk.specs.Disks.{DiskState, saving}
use Rattle.record_disk.specs.declared.error.Loss.{Loss}
use Rattle.record_disk.specs.declared.error.Loss.TheVariants.{Fault, Stopped}
use Rattle.refinement.proofs.Cuts.{step_of_node_is_its_course}
use Rattle.refinement.specs.Courses.{Course, Reply, joined, plan_from, saying, under}
use Rattle.refinement.specs.Courses.Course.{Acts, Falls, Keeps, Stops}
use Rattle.refinement.specs.Courses.Reply.{Done}
use Rattle.refinement.specs.Cuts.{course_at}
use Rattle.refinement.specs.Doings.{acted, changed, first_lines, said, saved_lines}
use Rattle.refinement.specs.Steps.{disk_rules}
use Rattle.run_downs.proofs.Courses.{says_all}
use Rattle.run_history.proofs.Courses.{doings_so}
use Rattle.run_history.specs.Marks.{AllSo}
use Rattle.run_outcomes.specs.saves.Courses.{LeadsTo}
use Rattle.run_outcomes.specs.saves.Kept.{IsAt}
use Rattle.run_outcomes.specs.tasks.Onward.{GoesOut}

-- ---- courses

pub out_joined : (c : Cluster) (me : ℕ) (P Q : UpNode → List Output → Type 0) (x : UpNode) (os : List Output) (k : Course) (next : UpNode → Course) → GoesOut c me P x os k
    → ((y : UpNode) (more : List Output) → P y more → GoesOut c me Q y more (next y)) → GoesOut c me Q x os (joined c me x k next)
out_joined c me P Q x os Stops next h f = f x os h
out_joined c me P Q x os (Acts a rest) next h f = λ so. out_joined c me P Q (acted c me x a) (os ++ said c me x a) rest next (h so) f
out_joined c me P Q x os (Keeps change rest) next h f = out_joined c me P Q (changed c me x change) (os ++ (first_lines me change ++ saved_lines c me x change)) rest next h f
out_joined c me P Q x os (Falls why) next h f = tt

-- whatever it gives
pub out_leads : (c : Cluster) (me : ℕ) (P : UpNode → Type 0) (Q : UpNode → List Output → Type 0) (x : UpNode) (os : List Output) (k : Course) → ((y : UpNode) (more : List Output) → P y → Q y more)
    → LeadsTo c me P x k → GoesOut c me Q x os k
out_leads c me P Q x os Stops f h = f x os h
out_leads c me P Q x os (Acts a rest) f h = λ so. out_leads c me P Q (acted c me x a) (os ++ said c me x a) rest f h
out_leads c me P Q x os (Keeps change rest) f h = out_leads c me P Q (changed c me x change) (os ++ (first_lines me change ++ saved_lines c me x change)) rest f h
out_leads c me P Q x os (Falls why) f h = tt

pub out_by : (c : Cluster) (me : ℕ) (P Q : UpNode → List Output → Type 0) (x : UpNode) (os : List Output) (k : Course) → ((y : UpNode) (more : List Output) → P y more → Q y more) → GoesOut c me P x os k
    → GoesOut c me Q x os k
out_by c me P Q x os Stops f h = f x os h
out_by c me P Q x os (Acts a rest) f h = λ so. out_by c me P Q (acted c me x a) (os ++ said c me x a) rest f (h so)
out_by c me P Q x os (Keeps change rest) f h = out_by c me P Q (changed c me x change) (os ++ (first_lines me change ++ saved_lines c me x change)) rest f h
out_by c me P Q x os (Falls why) f h = tt

-- what was given before is left out
abbrev pub Behind : List Output → (UpNode → List Output → Type 0) → UpNode → List Output → Type 0
Behind before J y all = (os : List Output) × (all ≡ before ++ os) × J y os

pub out_behind : (c : Cluster) (me : ℕ) (J : UpNode → List Output → Type 0) (x : UpNode) (before os : List Output) (k : Course) → GoesOut c me J x os k → GoesOut c me (Behind before J) x (before ++ os) k
out_behind c me J x before os Stops h = (os, refl, h)
out_behind c me J x before os (Acts a rest) h = λ so.
    subst (λ all. GoesOut c me (Behind before J) (acted c me x a) all rest) (sym (append_assoc before os (said c me x a)))
    (out_behind c me J (acted c me x a) before (os ++ said c me x a) rest (h so))
out_behind c me J x before os (Keeps change rest) h =
    let more : List Output = first_lines me change ++ saved_lines c me x change in
    subst (λ all. GoesOut c me (Behind before J) (changed c me x change) all rest) (sym (append_assoc before os more)) (out_behind c me J (changed c me x change) before (os ++ more) rest h)
out_behind c me J x before os (Falls why) h = tt

-- ---- a step

abbrev pub EndsOut : (UpNode → List Output → Type 0) → Outcome DiskState → Type 0
EndsOut J o = IsAt (λ y. J y o.given) o.after

carried_out : (c : Cluster) (me : ℕ) (J : UpNode → List Output → Type 0) (x : UpNode) (k : Course) (before : List Output) (disk : DiskState) → ((replies : List Reply) → AllSo (under replies k)) → GoesOut c me J x before k
    → EndsOut J (carried saving me (plan_from c me x k) before disk)
carried_out c me J x Stops before disk so h = h
carried_out c me J x (Acts a rest) before disk so h =
    subst (EndsOut J) (says_all me (said c me x a) (plan_from c me (acted c me x a) rest) before disk)
    (carried_out c me J (acted c me x a) rest (before ++ said c me x a) disk (λ replies. (so replies).1) (h (so []).0))
carried_out c me J x (Keeps ch rest) before disk so h =
    subst (EndsOut J) (says_all me (first_lines me ch) (Saves r (saying last p)) before disk)
    (by_loss (saving disk r).lost
    (carried_out c me J y rest (told ++ last) after (λ replies. (so (Done ∷ replies)).1) (subst (λ all. GoesOut c me J y all rest) (sym (append_assoc before (first_lines me ch) last)) h)))
  where
    y : UpNode
    y = changed c me x ch

    r : NodeRecord
    r = record_of y

    last : List Output
    last = saved_lines c me x ch

    p : Plan
    p = plan_from c me y rest

    told : List Output
    told = before ++ first_lines me ch

    after : DiskState
    after = (saving disk r).after

    by_loss : (lost : Option Loss) → EndsOut J (carried saving me p (told ++ last) after) → EndsOut J (unless_lost me told after lost (carried saving me (saying last p) told after))
    by_loss None done = subst (EndsOut J) (says_all me last p told after) done
    by_loss (Some Stopped) done = tt
    by_loss (Some Fault) done = tt
carried_out c me J x (Falls why) before disk so h = tt

pub step_out : (c : Cluster) (n now : ℕ) (ends : method.Outcome) (J : UpNode → List Output → Type 0) (x : UpNode) (i : Input) (disk : DiskState) → GoesOut c n J x [] (course_at c n now ends x i)
    → EndsOut J (stepped disk_rules c n now ends (Up x) disk i)
step_out c n now ends J x i disk h =
    subst (EndsOut J) (sym ((step_of_node_is_its_course saving c n now ends x i).is [] disk))
    (carried_out c n J x (course_at c n now ends x i) [] disk (λ replies. doings_so c n now ends replies i (Up x)) h)
