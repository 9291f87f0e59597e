-- A step of a node, from scene to scene.
use Rattle.std.specs.Prelude.{ℕ, ◌≡◌, ◌≢◌, ◌<◌, ◌^◌, ◌⊎◌, List, [], None}
use Rattle.std.proofs.Common.{refl, sym, subst, inl, inr}
use Rattle.cl_base.specs.declared.method.Outcome as method
use Rattle.machine_base.proofs.Puts.{same_or_not}
use Rattle.record_disk.specs.Disks.{DiskState}
use Rattle.history.specs.Contact.{AttemptsDiffer}
use Rattle.run_devices.specs.queues.Views.{View}
use Rattle.node_model.specs.Steps.{Outcome, stepped}
use Rattle.node_model.specs.declared.cluster.Cluster.{Cluster}
use Rattle.node_model.specs.declared.input.Input.{Input}
use Rattle.refinement.proofs.Disks.{disks_keep_rules}
use Rattle.refinement.proofs.Facts.{step_may}
use Rattle.refinement.proofs.Handlers.{delivered_by}
use Rattle.refinement.specs.Courses.{Reply}
use Rattle.refinement.specs.Cuts.{doings}
use Rattle.refinement.specs.Doings.{Doing, Site, after_all, given_all}
use Rattle.refinement.specs.Runs.{AnswersFit, Nodes, WasSent, moved}
use Rattle.refinement.specs.Runs.Move.{Takes as Takes_in}
use Rattle.refinement.specs.Steps.{disk_rules}
use Rattle.refinement.specs.Ties.{Delivered}
use Rattle.refinement.specs.Worlds.{AllFit}
use Rattle.run_history.proofs.ContactWidths.{StepFits, all_spelled, move_fits}
use Rattle.run_history.proofs.Courses.{doings_so}
use Rattle.run_history.proofs.Steps.{put_all}
use Rattle.run_history.specs.Happenings.{IsNode, taking}
use Rattle.run_history.specs.Scenes.{Scene, passing}
use Rattle.run_history.specs.Stages.{Sized, site_of}
use Rattle.run_messages.proofs.records.Apart.{doings_apart}
use Rattle.run_messages.proofs.records.Replies.{CutSo, steps_are_cut_so}
use Rattle.run_seizings.specs.Sites.{InHand, IsSeizing}
use Rattle.run_seizings.proofs.Asked.{AllMay}
use Rattle.run_seizings.proofs.Goes as seizings
use Rattle.run_seizings.proofs.Steps.{Ground}
use Rattle.run_devices.proofs.validity.Downs.{Small, all_lost}
use Rattle.run_devices.proofs.validity.Goes.{HandSo}
use Rattle.run_devices.specs.validity.Kept.{AllAgree}
use Rattle.run_devices.proofs.validity.Steps.{StepAgrees, ready_of}
use Rattle.run_devices.specs.queues.Kept.{AllShow, NodeSo, Pending}
use Rattle.run_devices.proofs.queues.Acts.{AsksIn}
use Rattle.run_devices.proofs.queues.Changes.{Placed}
use Rattle.run_devices.proofs.queues.Doings.{all_go}
use Rattle.run_devices.proofs.queues.Goes.{Goes}

-- ---- all nodes, with what one is to begin yet

pub record Around (S : View) (s : Scene) (n : ℕ) (p : Pending) : Type 0 where
  pub here : NodeSo S s.moments n p (s.nodes.node n)
  pub there : (k : ℕ) → k ≢ n → NodeSo S s.moments k None (s.nodes.node k)

abbrev pub Strict : View → Scene → Type 0
Strict S s = (n : ℕ) → NodeSo S s.moments n None (s.nodes.node n)

pub around : (S : View) (s : Scene) (n : ℕ) → Strict S s → Around S s n None
around S s n k = record { here = k n; there = λ j ne. k j }

all_around : (S : View) (s : Scene) (n : ℕ) → Around S s n None → Strict S s
all_around S s n k j = go (same_or_not j n)
  where
    go : (j ≡ n) ⊎ (j ≢ n) → NodeSo S s.moments j None (s.nodes.node j)
    go (inl is) = subst (λ i. NodeSo S s.moments i None (s.nodes.node i)) (sym is) k.here
    go (inr ne) = k.there j ne

-- ---- a step

-- what goes beside: its seizings, and that attempts differ
pub record Beside (S : View) (c : Cluster) (n now : ℕ) (ends : method.Outcome) (i : Input) (s : Scene) : Type 0 where
  pub placed : Placed S c n
  pub seizing : IsSeizing S.setting.header s
  pub hand : InHand S.setting.header s.moments n (delivered_by i)
  pub differ : AttemptsDiffer (taking c n now ends i s).moments
  pub agrees : StepAgrees S.setting.header c n now ends i s
  pub shows : (replies : List Reply) (w : Nodes)
      → AllShow S c n (delivered_by i) (site_of s.nodes n) (doings c n now ends replies i (s.nodes.node n)) (record s { nodes = w })

-- the walk through the small steps of it
abbrev pub Walk : View → Cluster → ℕ → ℕ → method.Outcome → Input → Nodes → Pending → Type 0
Walk S c n now ends i v p = (replies : List Reply) (w : Nodes) (t : Scene)
    → Small S.setting.header c n (delivered_by i) None (site_of v n) (doings c n now ends replies i (v.node n))
    → AttemptsDiffer (passing n (given_all c n (site_of v n) (doings c n now ends replies i (v.node n))) t).moments
    → AllAgree S.setting.header c n (site_of v n) (doings c n now ends replies i (v.node n)) t
    → AllShow S c n (delivered_by i) (site_of v n) (doings c n now ends replies i (v.node n)) t
    → seizings.Goes S.setting.header n (delivered_by i) v w (site_of v n) None t → Goes S n (delivered_by i) v w p (v.node n) t
    → Goes S n (delivered_by i) v w None (after_all c n (site_of v n) (doings c n now ends replies i (v.node n))).node
    (passing n (given_all c n (site_of v n) (doings c n now ends replies i (v.node n))) t)

pub step_around : (S : View) (c : Cluster) (n now : ℕ) (ends : method.Outcome) (i : Input) (s : Scene) (p : Pending) → Sized c → Ground c s.nodes → IsNode n → now < 2 ^ 64
    → WasSent s.nodes i → AnswersFit i → HandSo s.moments n (delivered_by i)
    → ((replies : List Reply) → AllMay S.setting.header c n (delivered_by i) None (site_of s.nodes n) (doings c n now ends replies i (s.nodes.node n)))
    → Beside S c n now ends i s → Walk S c n now ends i s.nodes p → Around S s n p → Strict S (taking c n now ends i s)
step_around S c n now ends i s p sized b is time was answer hand guard beside walk k =
    let v : Nodes = s.nodes in
    let w : Nodes = moved c v (Takes_in n now ends i) in
    let o : Outcome DiskState = stepped disk_rules c n now ends (v.node n) (v.disk n) i in
    let cut : CutSo disk_rules c n now ends (v.node n) (v.disk n) i [] o = steps_are_cut_so disk_rules disks_keep_rules c n now ends (v.node n) (v.disk n) i in
    let told : Delivered = delivered_by i in
    let x : Site = site_of v n in
    let small : List Doing = doings c n now ends cut.replies i (v.node n) in
    let widths : StepFits c n o = move_fits c sized.fits v n now ends i (is.0, is.1, was, answer) time b.fits in
    let t : Scene = record s { nodes = w } in
    let first : Goes S n told v w p x.node t = record { here = k.here; there = k.there; hand = hand; nodes = refl } in
    let gone : Goes S n told v w None (after_all c n x small).node (passing n (given_all c n x small) t) =
    walk cut.replies w t (record {
      may = step_may c b.machine n now ends (v.node n) (v.disk n).kept i cut.replies is.1 sized.fits.devices.attached b.holds (b.stands n).tied (b.stands n).joins;
      so = doings_so c n now ends cut.replies i (v.node n);
      guard = guard cut.replies;
      lost = all_lost told small (doings_apart c n now ends cut.replies i (v.node n) cut.losses);
      fit = subst (λ os. AllFit n os) (sym cut.comes.given) (all_spelled n o.given is widths.given);
    })
    (subst (λ os. AttemptsDiffer (passing n os t).moments) (sym cut.comes.given) beside.differ)
    beside.agrees (beside.shows cut.replies w)
    (record {
      here = beside.seizing.sites n;
      there = λ j ne. beside.seizing.sites j;
      carried = beside.seizing.carried;
      hand = beside.hand;
      turn = tt;
      nodes = refl;
      held = beside.seizing.held;
      known = beside.seizing.known;
    }) first in
    let after : Goes S n told v w None o.after (passing n o.given t) =
    subst (λ os. Goes S n told v w None o.after (passing n os t)) cut.comes.given
    (subst (λ (z : Site). Goes S n told v w None z.node (passing n (given_all c n x small) t)) cut.comes.left gone) in
    let r : Scene = passing n o.given t in
    subst (λ (z : Nodes). (j : ℕ) → NodeSo S r.moments j None (z.node j)) (sym after.nodes)
    (put_all (λ j node kept. NodeSo S r.moments j None node) v n o.after o.disk after.here after.there)

-- of what is no request to seize
pub plain_step : (S : View) (c : Cluster) (n now : ℕ) (ends : method.Outcome) (i : Input) (s : Scene) → Sized c → Ground c s.nodes → IsNode n → now < 2 ^ 64 → WasSent s.nodes i
    → AnswersFit i → HandSo s.moments n (delivered_by i) → (AsksIn (delivered_by i) → ⊥)
    → ((replies : List Reply) → AllMay S.setting.header c n (delivered_by i) None (site_of s.nodes n) (doings c n now ends replies i (s.nodes.node n)))
    → Beside S c n now ends i s → Strict S s → Strict S (taking c n now ends i s)
plain_step S c n now ends i s sized b is time was answer hand calm guard beside k =
    step_around S c n now ends i s None sized b is time was answer hand guard beside
    (λ replies w t small differ agrees shows z l.
    all_go S c b.machine n (delivered_by i) s.nodes w (site_of s.nodes n) None (doings c n now ends replies i (s.nodes.node n)) t beside.placed calm (ready_of c s.nodes n i sized b was)
    small differ agrees shows z l) (around S s n k)
