-- A step of a node, from nodes to nodes.
use Rattle.std.specs.Prelude.{All, ℕ, ◌≡◌, ◌≢◌, ◌<◌, ◌≤◌, ◌^◌, ◌⊎◌, ◌++◌, List, [], ◌∷◌, Option, None, Some}
use Rattle.std.proofs.Common.{arith, refl, sym, ap, subst, ◌∙◌, inl, inr}
use Rattle.cl_base.specs.Seizings.{SeizeResult}
use Rattle.cl_base.specs.declared.method.Outcome as method
use Rattle.cmm_attempt.specs.Calls.{IsDevice}
use Rattle.cmm_member.specs.Records.{NodeRecord}
use Rattle.device_queue.specs.Queue.{due_device, next_of, progress_after}
use Rattle.device_queue.specs.declared.progress.Progress.{Progress}
use Rattle.device_queue.specs.declared.progress.Progress.TheVariants.{GoesOn, Joined, Seized}
use Rattle.membership_machine.specs.Invariant.{Holds}
use Rattle.membership_machine.specs.State.{Memberships, Node as MachineNode}
use Rattle.node_model.specs.Devices.{joining_so}
use Rattle.node_model.specs.Seats.{coordinator_of, record_of, state_of}
use Rattle.node_model.specs.Steps.{Outcome, at_second, stepped}
use Rattle.node_model.specs.declared.cluster.Cluster.{Cluster}
use Rattle.node_model.specs.declared.input.Input.{Input}
use Rattle.node_model.specs.declared.input.Input.TheVariants as input
use Rattle.node_model.specs.declared.node.Node.{Node}
use Rattle.node_model.specs.declared.node.Node.TheVariants.{Down, Up}
use Rattle.node_model.specs.declared.node.UpNode.{UpNode}
use Rattle.node_model.specs.declared.output.Output.{Output}
use Rattle.node_model.specs.declared.output.Output.TheVariants.{Sends, Tells}
use Rattle.pgr_device.specs.declared.command.PrCommand.{PrCommand}
use Rattle.record_disk.specs.Disks.{DiskState}
use Rattle.refinement.proofs.Acts.{does_one}
use Rattle.refinement.proofs.Changes.{Sees, sees}
use Rattle.refinement.proofs.Disks.{disks_keep_rules}
use Rattle.refinement.proofs.EveryRun.{is_true}
use Rattle.refinement.proofs.Facts.{known_by, step_may}
use Rattle.refinement.proofs.Handlers.{delivered_by}
use Rattle.refinement.proofs.Replies.{steps_are_cut}
use Rattle.refinement.proofs.Ties.{known_stays}
use Rattle.refinement.specs.Courses.{Course, Reply, under}
use Rattle.refinement.specs.Courses.Reply.{Done as Reply_done, Lost_new, Lost_old}
use Rattle.refinement.specs.Cuts.{answered_course, doings, joined_course, progress_course, seized_course}
use Rattle.refinement.specs.Doings.{Doing, Site, after_all, answered_so, effect, given_all, gives, site}
use Rattle.refinement.specs.Events.{of_doing}
use Rattle.refinement.specs.Guards.{MayAll}
use Rattle.refinement.specs.Runs.{IsAmong, Letter, Nodes, WasSent, letters_of, moved}
use Rattle.refinement.specs.Runs.Move.{Takes as Takes_in}
use Rattle.refinement.specs.Steps.{IsCut, disk_rules}
use Rattle.refinement.specs.Ties.{Delivered, GoesOn as StepGoes, Known, NodeTied, SiteTied, setting_of}
use Rattle.run_history.proofs.AtSteps.{IsNoAnswer, joined_course_to, seized_here_to}
use Rattle.run_history.proofs.Steps.{put_all}
use Rattle.run_history.proofs.WholeScenes.{node_at}
use Rattle.run_history.proofs.WholeSteps.{at_under}
use Rattle.run_history.specs.Guards.{AtAll}
use Rattle.run_history.specs.Stages.{Sized, site_of}
use Rattle.run_seizings.proofs.Steps.{Ground}
use Rattle.refinement.specs.node_widths.Widths.{NodeFits}
use Rattle.seize.specs.Answers.{Answer}
use Rattle.seize.specs.declared.kind.JoinResult.TheVariants as join
use Rattle.wire.specs.Spelling.{IsNode}
use Rattle.wire.specs.declared.message.Body.{Body}
use Rattle.wire.specs.declared.message.Body.TheVariants as body
use Rattle.run_outcomes.proofs.results.Freed.{inst, tied_installed}
use Rattle.run_outcomes.specs.tasks.Said.{AllSaid, SiteSaid, Tale, installed_in, tale_of}
use Rattle.run_outcomes.proofs.said.Doings.{doing_said}
use Rattle.run_outcomes.proofs.said.Tales.{Or, first_gives, gives_so, said_grows}
use Rattle.run_outcomes.proofs.said.Silent.{AllTell, all_tell}

-- ---- small steps, one after another

at_most : (a b d : ℕ) → a ≤ b → b ≤ d → a ≤ d
at_most a b d i j = omega (arith, i, j)

same_most : (a b : ℕ) → a ≡ b → a ≤ b
same_most a b is = omega (arith, is)

-- they are done, from a state of the machine to another
record Comes (c : Cluster) (M : Memberships) (n : ℕ) (L : Tale) (x : Site) (ds : List Doing) : Type 0 where
  machine : Memberships
  promised : (M.node n).promised ≤ (machine.node n).promised
  grows : (k : ℕ) → inst M k ≤ inst machine k
  tied : SiteTied c machine n (after_all c n x ds)
  others : (k : ℕ) → k ≢ n → inst machine k ≡ inst M k
  said : SiteSaid (Or L n (given_all c n x ds)) (machine.node n).promised (inst machine) (after_all c n x ds).node

none_gives : (L : Tale) (n e d : ℕ) (r : SeizeResult) → Or L n [] e d r → L e d r
none_gives L n e d r (inl old) = old
none_gives L n e d r (inr none) = absurd none

more_gives : (L : Tale) (n : ℕ) (first rest : List Output) (e d : ℕ) (r : SeizeResult) → Or L n (first ++ rest) e d r → Or (Or L n first) n rest e d r
more_gives L n first rest e d r (inl old) = inl (inl old)
more_gives L n first rest e d r (inr new) = by_case (first_gives n first rest e d r new)
  where
    by_case : gives_so n first e d r ⊎ gives_so n rest e d r → Or (Or L n first) n rest e d r
    by_case (inl one) = inl (inr one)
    by_case (inr two) = inr two

all_said : (c : Cluster) (M : Memberships) (n : ℕ) (told : Delivered) (L : Tale) (x : Site) (ds : List Doing) → All IsDevice c.attached → Holds (setting_of c) M → Known M told → SiteTied c M n x
    → MayAll c n told x ds → AllTell told c n x ds → SiteSaid L (M.node n).promised (inst M) x.node → Comes c M n L x ds
all_said c M n told L x [] fits holds known tied may tells so = record {
  machine = M;
  promised = omega arith;
  grows = λ k. same_most (inst M k) (inst M k) refl;
  tied = tied;
  others = λ k ne. refl;
  said = said_grows L (Or L n []) (M.node n).promised (M.node n).promised (inst M) (inst M) x.node (λ e d r k. none_gives L n e d r k) (omega arith) (λ k. same_most (inst M k) (inst M k) refl) so;
}
all_said c M n told L x (d ∷ ds) fits holds known tied may tells so =
    let first : List Output = gives c n x d in
    let rest : List Output = given_all c n (effect c n x d) ds in
    let o : StepGoes c M n (effect c n x d) first (of_doing n d) = does_one c M n told x d fits holds known tied may.0 in
    let N : Memberships = o.machine in
    let grows : (k : ℕ) → inst M k ≤ inst N k = λ k. (o.grows.node k).installed in
    let promised : (M.node n).promised ≤ (N.node n).promised = (o.grows.node n).promised in
    let one : SiteSaid (Or L n first) (M.node n).promised (inst M) (effect c n x d).node = doing_said L c M n told x.node x.disk d holds known tied may.0 tells.0 so in
    let two : SiteSaid (Or L n first) (N.node n).promised (inst N) (effect c n x d).node =
    said_grows (Or L n first) (Or L n first) (M.node n).promised (N.node n).promised (inst M) (inst N) (effect c n x d).node (λ e j r k. k) promised grows one in
    let all : Comes c N n (Or L n first) (effect c n x d) ds =
    all_said c N n told (Or L n first) (effect c n x d) ds fits o.holds (known_stays c M N told holds o.grows known) o.tied may.1 tells.1 two in
    record {
      machine = all.machine;
      promised = at_most (M.node n).promised (N.node n).promised (all.machine.node n).promised promised all.promised;
      grows = λ k. at_most (inst M k) (inst N k) (inst all.machine k) (grows k) (all.grows k);
      tied = all.tied;
      others = λ k ne. all.others k ne ∙ ap (λ (y : MachineNode). y.saved.installed) (o.others k ne);
      said = said_grows (Or (Or L n first) n rest) (Or L n (first ++ rest)) (all.machine.node n).promised (all.machine.node n).promised (inst all.machine) (inst all.machine)
          (after_all c n (effect c n x d) ds).node (λ e j r k. more_gives L n first rest e j r k) (omega arith) (λ k. same_most (inst all.machine k) (inst all.machine k) refl) all.said;
    }

-- ---- what is told as an answer of a device comes

rest_tells : (c : Cluster) (n : ℕ) (z : UpNode) (disk : NodeRecord) (replies : List Reply) (rest : Course) → MayAll c n None (site (Up z) disk) (under replies rest)
    → AtAll c n None None (site (Up z) disk) (under replies rest) → AllTell None c n (site (Up z) disk) (under replies rest)
rest_tells c n z disk replies rest may at = all_tell None c n None (site (Up z) disk) (under replies rest) may at

progress_tells : (c : Cluster) (n d : ℕ) (k : PrCommand) (a : Answer) (y : UpNode) (disk : NodeRecord) (replies : List Reply) (p : Progress) → progress_after y.tasks a ≡ p
    → MayAll c n None (site (Up y) disk) (under replies (progress_course c n y d k a p)) → AllTell None c n (site (Up y) disk) (under replies (progress_course c n y d k a p))
progress_tells c n d k a y disk replies GoesOn is may = ((tt, tt), tt)
progress_tells c n d k a y disk replies (Seized e r) is may =
    let z : UpNode = answered_so y a in
    let rest : Course = seized_course c n z e r (coordinator_of z) in
    ((tt, tt), rest_tells c n z disk replies rest may.1 (at_under c n None None z disk replies rest (seized_here_to c n None y a e r is)))
progress_tells c n d k a y disk replies (Joined e (join.Late w)) is may =
    let z : UpNode = answered_so y a in
    let rest : Course = joined_course c n z (coordinator_of z) in
    ((tt, tt), rest_tells c n z disk replies rest may.1 (at_under c n None None z disk replies rest (joined_course_to c n None z (coordinator_of z))))
progress_tells c n d k a y disk replies (Joined e join.Fault) is may =
    let z : UpNode = answered_so y a in
    let rest : Course = joined_course c n z (coordinator_of z) in
    ((tt, tt), rest_tells c n z disk replies rest may.1 (at_under c n None None z disk replies rest (joined_course_to c n None z (coordinator_of z))))
progress_tells c n d k a y disk [] (Joined e join.Joined) is may = (tt, tt)
progress_tells c n d k a y disk (Lost_new why ∷ replies) (Joined e join.Joined) is may = (tt, tt)
progress_tells c n d k a y disk (Lost_old why ∷ replies) (Joined e join.Joined) is may = (tt, tt)
progress_tells c n d k a y disk (Reply_done ∷ replies) (Joined e join.Joined) is may =
    let x : UpNode = joining_so (answered_so y a) e in
    let rest : Course = joined_course c n x (coordinator_of x) in
    (tt, rest_tells c n x (record_of x) replies rest may.1 (at_under c n None None x (record_of x) replies rest (joined_course_to c n None x (coordinator_of x))))

pub answer_tells : (c : Cluster) (n now : ℕ) (ends : method.Outcome) (a : Answer) (node : Node) (disk : NodeRecord) (replies : List Reply)
    → MayAll c n None (site node disk) (doings c n now ends replies (input.Answered a) node) → AllTell None c n (site node disk) (doings c n now ends replies (input.Answered a) node)
answer_tells c n now ends a Down disk replies may = tt
answer_tells c n now ends a (Up x) disk replies may = (tt, by_due (due_device y.tasks) (next_of y.tasks) may.1)
  where
    y : UpNode
    y = at_second now x

    by_due : (o : Option ℕ) (q : Option PrCommand) → MayAll c n None (site (Up y) disk) (under replies (answered_course c n y a o q))
        → AllTell None c n (site (Up y) disk) (under replies (answered_course c n y a o q))
    by_due None q m = tt
    by_due (Some d) None m = tt
    by_due (Some d) (Some k) m = progress_tells c n d k a y disk replies (progress_after y.tasks a) refl m

-- ---- a step

-- what its small steps tell, whatever the disk replies
abbrev pub StepTells : Cluster → ℕ → ℕ → method.Outcome → Input → Nodes → Type 0
StepTells c n now ends i v = (replies : List Reply) → MayAll c n (delivered_by i) (site_of v n) (doings c n now ends replies i (v.node n))
    → AllTell (delivered_by i) c n (site_of v n) (doings c n now ends replies i (v.node n))

pub plain_tells : (c : Cluster) (n now : ℕ) (ends : method.Outcome) (i : Input) (v : Nodes) → IsNoAnswer i → now < 2 ^ 64 → NodeFits c n (v.node n) → StepTells c n now ends i v
plain_tells c n now ends i v is time fit replies may =
    all_tell (delivered_by i) c n None (site_of v n) (doings c n now ends replies i (v.node n)) may (node_at c n now ends (v.node n) (v.disk n).kept replies i is time fit)

tied_promised : (c : Cluster) (M : Memberships) (n : ℕ) (node : Node) (disk : NodeRecord) → NodeTied c M n disk node → (M.node n).promised ≡ disk.promised
tied_promised c M n Down disk tied = tied.0.promised
tied_promised c M n (Up x) disk tied =
    let sight : Sees M n disk (state_of x.seat) = sees c M n disk x.attempt x.seat tied.0 in
    sight.promised ∙ ap (λ (r : NodeRecord). r.promised) (sym sight.disk_so)

-- of the letters of another node
among_other : (n k : ℕ) (os : List Output) (b : Body) (ls : List Letter) → k ≢ n → IsAmong k b (letters_of n os ++ ls) → IsAmong k b ls
among_other n k [] b ls ne is = is
among_other n k (Tells e ∷ os) b ls ne is = among_other n k os b ls ne is
among_other n k (Sends to c ∷ os) b ls ne (inl here) = absurd (ne (sym here.0))
among_other n k (Sends to c ∷ os) b ls ne (inr later) = among_other n k os b ls ne later

among_own : (n : ℕ) (os : List Output) (b : Body) (ls : List Letter) → IsAmong n b (letters_of n os ++ ls) → IsAmong n b ls ⊎ IsAmong n b (letters_of n os)
among_own n [] b ls is = inl is
among_own n (Tells e ∷ os) b ls is = among_own n os b ls is
among_own n (Sends to c ∷ os) b ls (inl here) = inr (inl here)
among_own n (Sends to c ∷ os) b ls (inr later) = by_case (among_own n os b ls later)
  where
    by_case : IsAmong n b ls ⊎ IsAmong n b (letters_of n os) → IsAmong n b ls ⊎ IsAmong n b (letters_of n (Sends to c ∷ os))
    by_case (inl old) = inl old
    by_case (inr new) = inr (inr new)

pub step_said : (c : Cluster) (n now : ℕ) (ends : method.Outcome) (i : Input) (v : Nodes) → Sized c → (b : Ground c v) → IsNode n → WasSent v i → StepTells c n now ends i v → AllSaid v
    → AllSaid (moved c v (Takes_in n now ends i))
step_said c n now ends i v sized b is was tells so =
    let M : Memberships = b.machine in
    let w : Nodes = moved c v (Takes_in n now ends i) in
    let o : Outcome DiskState = stepped disk_rules c n now ends (v.node n) (v.disk n) i in
    let cut : IsCut disk_rules c n now ends (v.node n) (v.disk n) i [] o = steps_are_cut disk_rules disks_keep_rules c n now ends (v.node n) (v.disk n) i in
    let told : Delivered = delivered_by i in
    let x : Site = site_of v n in
    let small : List Doing = doings c n now ends cut.replies i (v.node n) in
    let may : MayAll c n told x small =
    step_may c M n now ends (v.node n) (v.disk n).kept i cut.replies is.1 sized.fits.devices.attached b.holds (b.stands n).tied (b.stands n).joins in
    let L : Tale = tale_of n v.sent in
    let at : (j : ℕ) → inst M j ≡ installed_in v j = λ j. tied_installed c M j (v.node j) (v.disk j).kept (b.stands j).tied in
    let first : SiteSaid L (M.node n).promised (inst M) (v.node n) =
    said_grows L L (v.disk n).kept.promised (M.node n).promised (installed_in v) (inst M) (v.node n) (λ e d r k. k)
    (same_most (v.disk n).kept.promised (M.node n).promised (sym (tied_promised c M n (v.node n) (v.disk n).kept (b.stands n).tied))) (λ j. same_most (installed_in v j) (inst M j) (sym (at j))) (so n) in
    let z : Comes c M n L x small = all_said c M n told L x small sized.fits.devices.attached b.holds (known_by M i (is_true M v i was b.sent)) (b.stands n).tied may (tells cut.replies may) first in
    let N : Memberships = z.machine in
    let tied : SiteTied c N n (site o.after o.disk.kept) = subst (λ (y : Site). SiteTied c N n y) cut.comes.left z.tied in
    let said : SiteSaid (Or L n o.given) (N.node n).promised (inst N) o.after =
    subst (λ os. SiteSaid (Or L n os) (N.node n).promised (inst N) o.after) cut.comes.given
    (subst (λ (y : Site). SiteSaid (Or L n (given_all c n x small)) (N.node n).promised (inst N) y.node) cut.comes.left z.said) in
    let most : (j : ℕ) → inst N j ≤ installed_in w j = λ j. put_all (λ k node disk. inst N k ≤ disk.installed) v n o.after o.disk
    (same_most (inst N n) o.disk.kept.installed (tied_installed c N n o.after o.disk.kept tied)) (λ k ne. same_most (inst N k) (installed_in v k) (z.others k ne ∙ at k)) j in
    let rises : (j : ℕ) → installed_in v j ≤ installed_in w j = λ j. at_most (installed_in v j) (inst M j) (installed_in w j) (same_most (installed_in v j) (inst M j) (sym (at j)))
    (at_most (inst M j) (inst N j) (installed_in w j) (z.grows j) (most j)) in
    put_all (λ k node disk. SiteSaid (tale_of k w.sent) disk.promised (installed_in w) node) v n o.after o.disk
    (said_grows (Or L n o.given) (tale_of n w.sent) (N.node n).promised o.disk.kept.promised (inst N) (installed_in w) o.after
    (λ e d r k. among_own n o.given (body.Seized e d r) v.sent k)
    (same_most (N.node n).promised o.disk.kept.promised (tied_promised c N n o.after o.disk.kept tied)) most said)
    (λ k ne. said_grows (tale_of k v.sent) (tale_of k w.sent) (v.disk k).kept.promised (v.disk k).kept.promised (installed_in v) (installed_in w) (v.node k)
    (λ e d r j. among_other n k o.given (body.Seized e d r) v.sent ne j) (omega arith) rises (so k))
