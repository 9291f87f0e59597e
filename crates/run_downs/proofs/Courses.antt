-- What the course of a node tells of its stop, on its disk: it saves where the stop does not fall, and stops where it does.
use Rattle.std.specs.Prelude.{ℕ, ◌-◌, ◌≡◌, ◌++◌, ◌&&◌, nat_le, Bool, true, false, List, [], Option, None, Some, if◌then◌else◌}
use Rattle.std.proofs.Common.{refl, sym, ap, subst, ◌∙◌}
use Rattle.std.proofs.lemmas.List.{append_assoc, append-nil}
use Rattle.cl_base.specs.declared.panic.Panic.TheVariants as panic
use Rattle.cmm_member.specs.Records.{NodeRecord}
use Rattle.history.specs.Downs.{after_four, are_four}
use Rattle.local_disk.specs.declared.memory.Stop.{Stop}
use Rattle.pgr_device.specs.declared.command.PrCommand.{PrCommand}
use Rattle.record_disk.specs.Disks as disks
use Rattle.record_disk.specs.Disks.{DiskState, crashed, fits, in_four, next_save, saved, saving, stands_after, stops_in_four}
use Rattle.record_disk.specs.Savings.{Saving}
use Rattle.record_disk.specs.declared.error.Loss.{Loss}
use Rattle.record_disk.specs.declared.error.Loss.TheVariants.{Fault, Stopped}
use Rattle.record_store.specs.Images.{other_slot}
use Rattle.seize.specs.Answers.{Answer}
use Rattle.status_report.specs.declared.entry.Entry.TheVariants as entry
use Rattle.status_report.specs.declared.node_entry.DownCause.{DownCause}
use Rattle.status_report.specs.declared.node_entry.DownCause.TheVariants as cause
use Rattle.status_report.specs.declared.node_entry.NodeEntry.TheVariants as note
use Rattle.node_model.specs.declared.cluster.Cluster.{Cluster}
use Rattle.node_model.specs.declared.node.UpNode.{UpNode}
use Rattle.node_model.specs.declared.output.Output.{Output}
use Rattle.node_model.specs.declared.output.Output.TheVariants.{Tells}
use Rattle.node_model.specs.Plans.{Plan}
use Rattle.node_model.specs.Plans.Plan.{Saves}
use Rattle.node_model.specs.Seats.{record_of}
use Rattle.node_model.specs.Steps.{Outcome, carried, gone, unless_lost}
use Rattle.refinement.specs.Courses.{Course, plan_from, saying}
use Rattle.refinement.specs.Courses.Course.{Acts, Falls, Keeps, Stops}
use Rattle.refinement.specs.Doings.{Act, Change, acted, changed, first_lines, gone_line, last_lines, said, saved_lines}
use Rattle.refinement.specs.Doings.Act.{Gives, Takes}
use Rattle.refinement.specs.Doings.Change.{Admits}
use Rattle.refinement.proofs.Plans.{said_singly}
use Rattle.run_history.proofs.Handlers.{IsAnswer}
use Rattle.run_history.proofs.Idle.{if_false}
use Rattle.run_history.proofs.Ordinary.{ActsSo, IsOrdinary, IsOwnFall}
use Rattle.run_downs.proofs.Lines.{steady_leaves, steady_then}
use Rattle.run_downs.proofs.Outputs.{GivesAsides, first_steady, last_steady, said_steady}
use Rattle.run_downs.specs.Calls.{AreFine, IsFine, calls_in, left_by, left_by_all}

-- ---- courses in which a node falls by its own step alone, and saves where it may

abbrev pub GoesFine : Bool → Course → Type 0
GoesFine may Stops = Unit {0}
GoesFine may (Acts a rest) = GivesAsides a × GoesFine may rest
GoesFine may (Keeps change rest) = (may ≡ true) × GoesFine may rest
GoesFine may (Falls why) = IsOwnFall why

-- it saves nothing
abbrev pub KeepsNone : Course → Type 0
KeepsNone Stops = Unit {0}
KeepsNone (Acts a rest) = KeepsNone rest
KeepsNone (Keeps change rest) = ⊥
KeepsNone (Falls why) = Unit {0}

acts_aside : (D : ℕ → Type 0) (a : Act) → ActsSo D a → GivesAsides a
acts_aside D (Gives os) h = h
acts_aside D _ h = tt

pub ordinary_fine : (D : ℕ → Type 0) (k : Course) → IsOrdinary D k → GoesFine true k
ordinary_fine D Stops h = tt
ordinary_fine D (Acts a rest) h = (acts_aside D a h.0, ordinary_fine D rest h.1)
ordinary_fine D (Keeps change rest) h = (refl, ordinary_fine D rest h.1)
ordinary_fine D (Falls why) h = h

pub unsaved_fine : (D : ℕ → Type 0) (k : Course) → IsOrdinary D k → KeepsNone k → GoesFine false k
unsaved_fine D Stops h none = tt
unsaved_fine D (Acts a rest) h none = (acts_aside D a h.0, unsaved_fine D rest h.1 none)
unsaved_fine D (Keeps change rest) h none = absurd none
unsaved_fine D (Falls why) h none = h

pub answer_fine : (D : ℕ → Type 0) (d : ℕ) (k : PrCommand) (a : Answer) (course : Course) → IsAnswer D d k a course → GoesFine true course
answer_fine D d k a (Acts (Takes at command b) rest) h = (tt, ordinary_fine D rest h.3)
answer_fine D d k a (Keeps (Admits at command b e) rest) h = (refl, ordinary_fine D rest h.3)
answer_fine D d k a _ h = absurd h

-- ---- a save

pub by_test : {X : Type 0} (P : X → Type 0) (b : Bool) (x y : X) → (b ≡ true → P x) → (b ≡ false → P y) → P (if b then x else y)
by_test P true x y f g = f refl
by_test P false x y f g = g refl

pub four_is : (stop : Option Stop) → are_four (calls_in stop) ≡ stops_in_four stop
four_is None = refl
four_is (Some stop) = refl

pub four_left : (stop : Option Stop) → stops_in_four stop ≡ false → calls_in (disks.after_four stop) ≡ after_four (calls_in stop)
four_left None far = refl
four_left (Some stop) far =
    ap calls_in (if_false (nat_le stop.calls 4) None (Some (record { calls = stop.calls - 4; choice = stop.choice })) far) ∙ sym (if_false (nat_le stop.calls 4) (Some stop.calls) (Some (stop.calls - 4)) far)

-- what a save that came to this makes of the stop
abbrev SaveTells : Option Stop → Option Stop → Option Loss → Type 0
SaveTells stop after None = (stops_in_four stop ≡ false) × (after ≡ disks.after_four stop)
SaveTells stop after (Some Stopped) = (stops_in_four stop ≡ true) × (after ≡ None)
SaveTells stop after (Some Fault) = after ≡ stop

abbrev AfterSave : DiskState → Saving DiskState → Type 0
AfterSave d s = SaveTells d.stop s.after.stop s.lost

save_tells : (d : DiskState) (r : NodeRecord) → AfterSave d (saving d r)
save_tells d r =
    let left : DiskState = if stands_after d.stop (other_slot d.slot) then saved d r else d in
    by_test (AfterSave d) (d.mounted && fits (next_save d.saves) r) (in_four d.stop (saved d r) left) (record { after = d; lost = Some Fault })
    (λ can. by_test (AfterSave d) (stops_in_four d.stop) (record { after = crashed left; lost = Some Stopped }) (record { after = saved d r; lost = None }) (λ near. (near, refl)) (λ far. (far, refl)))
    (λ not. refl)

-- ---- a course

-- the outcome gives these outputs more, which go as the stop is armed
pub record Walked (n : ℕ) (may : Bool) (stop : Option Stop) (before : List Output) (o : Outcome DiskState) : Type 0 where
  pub outputs : List Output
  pub given : before ++ outputs ≡ o.given
  pub fine : AreFine n may (calls_in stop) outputs
  pub left : left_by_all (calls_in stop) outputs ≡ calls_in o.disk.stop

pub says_all : (me : ℕ) (os : List Output) (p : Plan) (given : List Output) (disk : DiskState) → carried saving me p (given ++ os) disk ≡ carried saving me (saying os p) given disk
says_all me os p given disk = (said_singly saving me os p).is given disk

acted_walks : (c : Cluster) (me : ℕ) (may : Bool) (x : UpNode) (stop : Option Stop) (before : List Output) (a : Act) (o : Outcome DiskState) → GivesAsides a
    → Walked me may stop (before ++ said c me x a) o → Walked me may stop before o
acted_walks c me may x stop before a o asides h =
    let os : List Output = said c me x a in
    record {
      outputs = os ++ h.outputs;
      given = sym (append_assoc before os h.outputs) ∙ h.given;
      fine = steady_then me may (calls_in stop) os h.outputs (said_steady c me x a asides) h.fine;
      left = steady_leaves (calls_in stop) os h.outputs (said_steady c me x a asides) ∙ h.left;
    }

saved_walks : (c : Cluster) (me : ℕ) (may : Bool) (x : UpNode) (stop after : Option Stop) (before : List Output) (ch : Change) (o : Outcome DiskState) → may ≡ true → stops_in_four stop ≡ false → after ≡ disks.after_four stop
    → Walked me may after ((before ++ first_lines me ch) ++ saved_lines c me x ch) o → Walked me may stop before o
saved_walks c me may x stop after before ch o own far next h =
    let first : List Output = first_lines me ch in
    let last : List Output = last_lines c me x ch in
    let all : List Output = saved_lines c me x ch in
    let k : Option ℕ = calls_in stop in
    let e : calls_in after ≡ after_four k = ap calls_in next ∙ four_left stop far in
    record {
      outputs = first ++ (all ++ h.outputs);
      given = sym (append_assoc before first (all ++ h.outputs)) ∙ (sym (append_assoc (before ++ first) all h.outputs) ∙ h.given);
      fine =
          steady_then me may k first (all ++ h.outputs) (first_steady me ch)
          ((refl, four_is stop ∙ far, own), subst (λ j. AreFine me may j (last ++ h.outputs)) e (steady_then me may (calls_in after) last h.outputs (last_steady c me x ch) h.fine));
      left =
          steady_leaves k first (all ++ h.outputs) (first_steady me ch)
          ∙ (ap (λ j. left_by_all j (last ++ h.outputs)) (sym e) ∙ (steady_leaves (calls_in after) last h.outputs (last_steady c me x ch) ∙ h.left));
    }

stopped_walks : (me : ℕ) (may : Bool) (before : List Output) (ch : Change) (stop : Option Stop) (after : DiskState) → may ≡ true → stops_in_four stop ≡ true → after.stop ≡ None
    → Walked me may stop before (gone me cause.Stopped (before ++ first_lines me ch) after)
stopped_walks me may before ch stop after own near none =
    let first : List Output = first_lines me ch in
    let last : List Output = gone_line me cause.Stopped in
    record {
      outputs = first ++ last;
      given = sym (append_assoc before first last);
      fine = steady_then me may (calls_in stop) first last (first_steady me ch) ((refl, four_is stop ∙ near, own), tt);
      left = steady_leaves (calls_in stop) first last (first_steady me ch) ∙ sym (ap calls_in none);
    }

failed_walks : (me : ℕ) (may : Bool) (before : List Output) (ch : Change) (stop : Option Stop) (after : DiskState) → after.stop ≡ stop
    → Walked me may stop before (gone me (cause.Panic panic.Disk) (before ++ first_lines me ch) after)
failed_walks me may before ch stop after same =
    let first : List Output = first_lines me ch in
    let last : List Output = gone_line me (cause.Panic panic.Disk) in
    record {
      outputs = first ++ last;
      given = sym (append_assoc before first last);
      fine = steady_then me may (calls_in stop) first last (first_steady me ch) (tt, tt);
      left = steady_leaves (calls_in stop) first last (first_steady me ch) ∙ sym (ap calls_in same);
    }

fall_fine : (n : ℕ) (may : Bool) (k : Option ℕ) (why : DownCause) → IsOwnFall why → IsFine n may k (Tells (entry.Node n (note.Down why)))
fall_fine n may k (cause.Panic (panic.Excluded f)) h = tt
fall_fine n may k (cause.Panic (panic.Stop r)) h = tt
fall_fine n may k _ h = absurd h

fall_left : (n : ℕ) (k : Option ℕ) (why : DownCause) → IsOwnFall why → left_by k (Tells (entry.Node n (note.Down why))) ≡ k
fall_left n k (cause.Panic (panic.Excluded f)) h = refl
fall_left n k (cause.Panic (panic.Stop r)) h = refl
fall_left n k _ h = absurd h

pub walked : (c : Cluster) (me : ℕ) (may : Bool) (x : UpNode) (k : Course) (before : List Output) (disk : DiskState) → GoesFine may k → Walked me may disk.stop before (carried saving me (plan_from c me x k) before disk)
walked c me may x Stops before disk h = record { outputs = []; given = append-nil before; fine = tt; left = refl }
walked c me may x (Acts a rest) before disk h =
    subst (Walked me may disk.stop before) (says_all me (said c me x a) (plan_from c me (acted c me x a) rest) before disk)
    (acted_walks c me may x disk.stop before a (carried saving me (plan_from c me (acted c me x a) rest) (before ++ said c me x a) disk) h.0
    (walked c me may (acted c me x a) rest (before ++ said c me x a) disk h.1))
walked c me may x (Keeps ch rest) before disk h =
    subst (Walked me may disk.stop before) (says_all me (first_lines me ch) (Saves r (saying last p)) before disk)
    (by_loss (saving disk r).lost (save_tells disk r) (walked c me may y rest (told ++ last) after h.1))
  where
    y : UpNode
    y = changed c me x ch

    r : NodeRecord
    r = record_of y

    last : List Output
    last = saved_lines c me x ch

    p : Plan
    p = plan_from c me y rest

    told : List Output
    told = before ++ first_lines me ch

    after : DiskState
    after = (saving disk r).after

    by_loss : (lost : Option Loss) → SaveTells disk.stop after.stop lost → Walked me may after.stop (told ++ last) (carried saving me p (told ++ last) after)
        → Walked me may disk.stop before (unless_lost me told after lost (carried saving me (saying last p) told after))
    by_loss None t go =
        subst (Walked me may disk.stop before) (says_all me last p told after) (saved_walks c me may x disk.stop after.stop before ch (carried saving me p (told ++ last) after) h.0 t.0 t.1 go)
    by_loss (Some Stopped) t go = stopped_walks me may before ch disk.stop after h.0 t.0 t.1
    by_loss (Some Fault) t go = failed_walks me may before ch disk.stop after t
walked c me may x (Falls why) before disk h = record {
  outputs = gone_line me why;
  given = refl;
  fine = (fall_fine me may (calls_in disk.stop) why h, tt);
  left = fall_left me (calls_in disk.stop) why h;
}
