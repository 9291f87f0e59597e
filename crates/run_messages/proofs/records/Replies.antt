-- Each step of a node is its small steps, for replies of its disk that tell of losses by their causes.
use Rattle.std.specs.Prelude.{ℕ, ◌≡◌, ◌⊎◌, ◌++◌, List, [], ◌∷◌, Option, None, Some}
use Rattle.std.proofs.Common.{refl, sym, ap, subst, ◌∙◌, inl, inr}
use Rattle.std.proofs.lemmas.List.{append_assoc, append-nil}
use Rattle.cl_base.specs.declared.method.Outcome as method
use Rattle.cmm_member.specs.Records.{NodeRecord}
use Rattle.record_disk.specs.Savings.{Saving}
use Rattle.record_disk.specs.declared.error.Loss.{Loss}
use Rattle.status_report.specs.declared.node_entry.DownCause.{DownCause}
use Rattle.status_report.specs.declared.node_entry.NodeEntry.TheVariants as note
use Rattle.node_model.specs.Clusters.{first_valid_of}
use Rattle.node_model.specs.declared.cluster.Cluster.{Cluster}
use Rattle.node_model.specs.declared.input.Input.{Input}
use Rattle.node_model.specs.declared.input.Input.TheVariants.{Boot, Crash, Tick, Packet, CommandDue, Answered, Wrote, Commanded, Reported, Client}
use Rattle.node_model.specs.declared.node.Node.{Node}
use Rattle.node_model.specs.declared.node.Node.TheVariants.{Down, Up}
use Rattle.node_model.specs.declared.node.UpNode.{UpNode}
use Rattle.node_model.specs.declared.output.Output.{Output}
use Rattle.node_model.specs.Plans.{Plan, cause_of}
use Rattle.node_model.specs.Plans.Plan.{Saves}
use Rattle.node_model.specs.Seats.{record_of, up_with}
use Rattle.node_model.specs.Steps.{DiskRules, Outcome, at_second, carried, gone, plan_of, stepped, unless_lost}
use Rattle.refinement.specs.Doings.{Act, Change, acted, changed, first_lines, given_all, gone_line, of_node, said, saved_lines, site}
use Rattle.refinement.specs.Courses.{Course, Reply, plan_from, saying, under}
use Rattle.refinement.specs.Courses.Course.{Acts, Falls as Course_falls, Keeps, Stops}
use Rattle.refinement.specs.Courses.Reply.{Done, Lost_new, Lost_old}
use Rattle.refinement.specs.Cuts.{course_at, doings}
use Rattle.record_disk.specs.declared.error.Loss.TheVariants.{Fault, Stopped}
use Rattle.run_messages.specs.records.Losses.{AreLosses, IsLoss}
use Rattle.refinement.specs.Steps.{ComesTo, IsDisk}
use Rattle.refinement.proofs.Cuts.{step_of_node_is_its_course}
use Rattle.refinement.proofs.Plans.{said_singly}

cause_loss : (loss : Loss) → IsLoss (cause_of loss)
cause_loss Stopped = tt
cause_loss Fault = tt

-- as IsCut of `refinement`
pub record CutSo {K : Type 0} (rules : DiskRules K) (c : Cluster) (me now : ℕ) (ends : method.Outcome) (node : Node) (disk : K) (i : Input) (before : List Output) (o : Outcome K) : Type 0 where
  pub replies : List Reply
  pub losses : AreLosses replies
  pub comes : ComesTo rules c me (site node (rules.kept disk)) before (doings c me now ends replies i node) o

record Replied {K : Type 0} (rules : DiskRules K) (c : Cluster) (me : ℕ) (x : UpNode) (kept : NodeRecord) (before : List Output) (k : Course) (o : Outcome K) : Type 0 where
  replies : List Reply
  losses : AreLosses replies
  comes : ComesTo rules c me (site (Up x) kept) before (under replies k) o

says_all : {K : Type 0} → (saving : K → NodeRecord → Saving K) (me : ℕ) (os : List Output) (p : Plan) (given : List Output) (disk : K)
    → carried saving me p (given ++ os) disk ≡ carried saving me (saying os p) given disk
says_all saving me os p given disk = (said_singly saving me os p).is given disk

acted_so : {K : Type 0} → (rules : DiskRules K) (c : Cluster) (me : ℕ) (x : UpNode) (kept : NodeRecord) (before : List Output) (a : Act) (rest : Course) (o : Outcome K)
    → Replied rules c me (acted c me x a) kept (before ++ said c me x a) rest o → Replied rules c me x kept before (Acts a rest) o
acted_so rules c me x kept before a rest o h = record {
  replies = h.replies;
  losses = h.losses;
  comes = record {
    left = h.comes.left;
    given = sym (append_assoc before (said c me x a) (given_all c me (site (Up (acted c me x a)) kept) (under h.replies rest))) ∙ h.comes.given;
  };
}

saved_so : {K : Type 0} → (rules : DiskRules K) (c : Cluster) (me : ℕ) (x : UpNode) (kept : NodeRecord) (before : List Output) (ch : Change) (rest : Course) (o : Outcome K)
    → Replied rules c me (changed c me x ch) (record_of (changed c me x ch)) ((before ++ first_lines me ch) ++ saved_lines c me x ch) rest o → Replied rules c me x kept before (Keeps ch rest) o
saved_so rules c me x kept before ch rest o h =
    let first : List Output = first_lines me ch in
    let last : List Output = saved_lines c me x ch in
    let y : UpNode = changed c me x ch in
    let more : List Output = given_all c me (site (Up y) (record_of y)) (under h.replies rest) in
    record {
      replies = Done ∷ h.replies;
      losses = h.losses;
      comes = record {
        left = h.comes.left;
        given =
            sym (append_assoc before (first ++ last) more) ∙ (ap (λ (os : List Output). os ++ more) (sym (append_assoc before first last)) ∙ h.comes.given);
      };
    }

lost_so : {K : Type 0} → (rules : DiskRules K) (c : Cluster) (me : ℕ) (x : UpNode) (kept : NodeRecord) (before : List Output) (ch : Change) (rest : Course) (why : DownCause) (left : K)
    → IsLoss why → (rules.kept left ≡ record_of (changed c me x ch)) ⊎ (rules.kept left ≡ kept)
    → Replied rules c me x kept before (Keeps ch rest) (gone me why (before ++ first_lines me ch) left)
lost_so rules c me x kept before ch rest why left loss (inl h) = record {
  replies = Lost_new why ∷ [];
  losses = (loss, tt);
  comes = record {
    left = ap (λ r. site Down r) (sym h);
    given =
        ap (λ (os : List Output). before ++ os) (append-nil (first_lines me ch ++ gone_line me why)) ∙ sym (append_assoc before (first_lines me ch) (gone_line me why));
  };
}
lost_so rules c me x kept before ch rest why left loss (inr h) = record {
  replies = Lost_old why ∷ [];
  losses = (loss, tt);
  comes = record {
    left = ap (λ r. site Down r) (sym h);
    given =
        ap (λ (os : List Output). before ++ os) (append-nil (first_lines me ch ++ gone_line me why)) ∙ sym (append_assoc before (first_lines me ch) (gone_line me why));
  };
}

-- a course on a disk
replied : {K : Type 0} → (rules : DiskRules K) → IsDisk rules → (c : Cluster) (me : ℕ) (x : UpNode) (k : Course) (before : List Output) (disk : K)
    → Replied rules c me x (rules.kept disk) before k (carried rules.saving me (plan_from c me x k) before disk)
replied rules good c me x Stops before disk = record { replies = []; losses = tt; comes = record { left = refl; given = append-nil before } }
replied rules good c me x (Acts a rest) before disk =
    subst (λ o. Replied rules c me x (rules.kept disk) before (Acts a rest) o)
    (says_all rules.saving me (said c me x a) (plan_from c me (acted c me x a) rest) before disk)
    (acted_so rules c me x (rules.kept disk) before a rest (carried rules.saving me (plan_from c me (acted c me x a) rest) (before ++ said c me x a) disk)
    (replied rules good c me (acted c me x a) rest (before ++ said c me x a) disk))
replied {K} rules good c me x (Keeps ch rest) before disk =
    subst (λ o. Replied rules c me x (rules.kept disk) before (Keeps ch rest) o)
    (says_all rules.saving me (first_lines me ch) (Saves r (saying last p)) before disk)
    (by_loss (rules.saving disk r).lost refl (λ told_so left. replied rules good c me (changed c me x ch) rest told_so left))
  where
    y : UpNode
    y = changed c me x ch

    r : NodeRecord
    r = record_of y

    last : List Output
    last = saved_lines c me x ch

    p : Plan
    p = plan_from c me y rest

    told : List Output
    told = before ++ first_lines me ch

    after : K
    after = (rules.saving disk r).after

    Rest : Type 0
    Rest = (told_so : List Output) (left : K) → Replied rules c me y (rules.kept left) told_so rest (carried rules.saving me p told_so left)

    by_loss : (lost : Option Loss) → (rules.saving disk r).lost ≡ lost → Rest
        → Replied rules c me x (rules.kept disk) before (Keeps ch rest) (unless_lost me told after lost (carried rules.saving me (saying last p) told after))
    by_loss None e go =
        subst (λ o. Replied rules c me x (rules.kept disk) before (Keeps ch rest) o) (says_all rules.saving me last p told after)
        (saved_so rules c me x (rules.kept disk) before ch rest (carried rules.saving me p (told ++ last) after)
        (subst (λ z. Replied rules c me y z (told ++ last) rest (carried rules.saving me p (told ++ last) after)) (good.saved disk r e)
        (go (told ++ last) after)))
    by_loss (Some loss) e go = lost_so rules c me x (rules.kept disk) before ch rest (cause_of loss) after (cause_loss loss) (good.lost disk r loss e)
replied rules good c me x (Course_falls why) before disk = record { replies = []; losses = tt; comes = record { left = refl; given = refl } }

-- a step of a node that is up
up_is_cut : {K : Type 0} → (rules : DiskRules K) → IsDisk rules → (c : Cluster) (me now : ℕ) (ends : method.Outcome) (x : UpNode) (disk : K) (i : Input) (before : List Output)
    → CutSo rules c me now ends (Up x) disk i before (carried rules.saving me (plan_of c me ends (at_second now x) i) before disk)
up_is_cut rules good c me now ends x disk i before =
    let k : Course = course_at c me now ends x i in
    let p : Plan = plan_of c me ends (at_second now x) i in
    let h : Replied rules c me x (rules.kept disk) before k (carried rules.saving me (plan_from c me x k) before disk) = replied rules good c me x k before disk in
    let e : carried rules.saving me p before disk ≡ carried rules.saving me (plan_from c me x k) before disk =
    (step_of_node_is_its_course rules.saving c me now ends x i).is before disk in
    subst (λ o. CutSo rules c me now ends (Up x) disk i before o) (sym e) (record { replies = h.replies; losses = h.losses; comes = h.comes })

stays_down : {K : Type 0} → (rules : DiskRules K) (c : Cluster) (me : ℕ) (disk : K) → ComesTo rules c me (site Down (rules.kept disk)) [] [] (record { after = Down; given = []; disk = disk })
stays_down rules c me disk = record { left = refl; given = refl }

boot_is_cut : {K : Type 0} → (rules : DiskRules K) → IsDisk rules → (c : Cluster) (me now : ℕ) (ends : method.Outcome) (disk : K)
    → CutSo rules c me now ends Down disk Boot [] (stepped rules c me now ends Down disk Boot)
boot_is_cut {K} rules good c me now ends disk = by_loss (rules.mounting disk).lost
  where
    up : UpNode
    up = up_with me (first_valid_of c me) (rules.kept disk)

    after : K
    after = (rules.mounting disk).after

    by_loss : (lost : Option Loss)
        → CutSo rules c me now ends Down disk Boot []
        (unless_lost me (of_node me note.Up ∷ []) after lost (record { after = Up up; given = of_node me note.Up ∷ []; disk = after }))
    by_loss None = record { replies = Done ∷ []; losses = tt; comes = record { left = ap (λ r. site (Up up) r) (sym (good.mounted disk)); given = refl } }
    by_loss (Some loss) = record { replies = Lost_old (cause_of loss) ∷ []; losses = (cause_loss loss, tt); comes = record { left = ap (λ r. site Down r) (sym (good.mounted disk)); given = refl } }

-- Each step of each node.
pub steps_are_cut_so : {K : Type 0} → (rules : DiskRules K) → IsDisk rules → (c : Cluster) (me now : ℕ) (ends : method.Outcome) (node : Node) (disk : K) (i : Input)
    → CutSo rules c me now ends node disk i [] (stepped rules c me now ends node disk i)
steps_are_cut_so rules good c me now ends (Up x) disk i = up_is_cut rules good c me now ends x disk i []
steps_are_cut_so rules good c me now ends Down disk Boot = boot_is_cut rules good c me now ends disk
steps_are_cut_so rules good c me now ends Down disk Crash = record { replies = []; losses = tt; comes = stays_down rules c me disk }
steps_are_cut_so rules good c me now ends Down disk Tick = record { replies = []; losses = tt; comes = stays_down rules c me disk }
steps_are_cut_so rules good c me now ends Down disk (Packet from m) = record { replies = []; losses = tt; comes = stays_down rules c me disk }
steps_are_cut_so rules good c me now ends Down disk CommandDue = record { replies = []; losses = tt; comes = stays_down rules c me disk }
steps_are_cut_so rules good c me now ends Down disk (Answered a) = record { replies = []; losses = tt; comes = stays_down rules c me disk }
steps_are_cut_so rules good c me now ends Down disk (Commanded words) = record { replies = []; losses = tt; comes = stays_down rules c me disk }
steps_are_cut_so rules good c me now ends Down disk (Wrote d value a) = record { replies = []; losses = tt; comes = stays_down rules c me disk }
steps_are_cut_so rules good c me now ends Down disk (Reported r good_one) = record { replies = []; losses = tt; comes = stays_down rules c me disk }
steps_are_cut_so rules good c me now ends Down disk (Client name client port) = record { replies = []; losses = tt; comes = stays_down rules c me disk }
