-- A step of a node, from scene to scene.
use Rattle.std.specs.Prelude.{ℕ, ◌≡◌, ◌≢◌, ◌<◌, ◌^◌, ◌⊎◌, Bool, true, false, List, [], ◌∷◌, Option, None, Some, if◌then◌else◌}
use Rattle.std.proofs.Common.{refl, sym, ap, subst, ◌∙◌, inl, inr}
use Rattle.cl_base.specs.Sets.{has, set_without}
use Rattle.cl_base.specs.declared.header.Header.{Header}
use Rattle.cl_base.specs.declared.method.Outcome as method
use Rattle.cluster_ties.proofs.Marks.{less_here, less_there}
use Rattle.cmm_member.specs.Nodes.{NodeState, with_valid}
use Rattle.cmm_member.specs.Records.{NodeRecord}
use Rattle.device_queue.specs.Queue.{begins_plainly}
use Rattle.machine_base.proofs.Puts.{same_or_not}
use Rattle.record_disk.specs.Disks.{DiskState}
use Rattle.status_report.specs.declared.entry.Entry.TheVariants as entry
use Rattle.status_report.specs.declared.node_entry.DownCause.TheVariants as cause
use Rattle.status_report.specs.declared.node_entry.NodeEntry.TheVariants as note
use Rattle.wire.specs.Spelling.{IsDevices}
use Rattle.wire.specs.Spelling.{IsDevice as IsNumber}
use Rattle.history.specs.Contact.{AttemptsDiffer}
use Rattle.history.specs.Moment.{Moment}
use Rattle.history.specs.Order.{Always}
use Rattle.node_model.specs.Seats.{record_of, state_of}
use Rattle.node_model.specs.Steps.{Outcome, at_second, stepped}
use Rattle.node_model.specs.declared.cluster.Cluster.{Cluster}
use Rattle.node_model.specs.declared.input.Input.{Input}
use Rattle.node_model.specs.declared.input.Input.TheVariants as input
use Rattle.node_model.specs.declared.node.Node.{Node}
use Rattle.node_model.specs.declared.node.Node.TheVariants.{Down, Up}
use Rattle.node_model.specs.declared.node.UpNode.{UpNode}
use Rattle.refinement.proofs.Changes.{sees}
use Rattle.refinement.proofs.Disks.{disks_keep_rules}
use Rattle.refinement.proofs.EveryRun.{is_true}
use Rattle.refinement.proofs.Facts.{known_by, step_may}
use Rattle.refinement.proofs.Handlers.{delivered_by}
use Rattle.refinement.specs.Courses.{Reply, under}
use Rattle.refinement.specs.Courses.Course.{Keeps, Stops}
use Rattle.refinement.specs.Courses.Reply.{Done, Lost_new, Lost_old}
use Rattle.refinement.specs.Cuts.{distrusting_course, doings}
use Rattle.refinement.specs.Doings.{Doing, Site, after_all, changed, effect, given_all, gives, site}
use Rattle.refinement.specs.Doings.Act.{Dates}
use Rattle.refinement.specs.Doings.Change.{Distrusts}
use Rattle.refinement.specs.Doings.Doing.{Does, Forgets, Loses, Saves}
use Rattle.refinement.specs.Runs.{AnswersFit, Nodes, WasSent, moved}
use Rattle.refinement.specs.Runs.Move.{Takes as Takes_in}
use Rattle.refinement.specs.Steps.{disk_rules}
use Rattle.refinement.specs.Ties.{Delivered}
use Rattle.refinement.specs.Worlds.{AllFit}
use Rattle.run_history.proofs.ContactWidths.{StepFits, all_spelled, move_fits}
use Rattle.run_history.proofs.Courses.{doings_so}
use Rattle.run_history.proofs.Steps.{put_all}
use Rattle.run_history.proofs.Ups.{same_state}
use Rattle.run_history.specs.Guards.{Hand}
use Rattle.run_history.specs.Happenings.{IsNode, taking}
use Rattle.run_history.specs.Scenes.{Scene, passing, telling}
use Rattle.run_history.specs.Stages.{Sized, site_of}
use Rattle.run_messages.proofs.records.Apart.{doings_apart}
use Rattle.run_messages.proofs.records.Replies.{CutSo, steps_are_cut_so}
use Rattle.run_seizings.specs.Sites.{InHand, IsSeizing}
use Rattle.run_seizings.proofs.Asked.{AllMay}
use Rattle.run_seizings.proofs.Goes as seizings
use Rattle.run_seizings.proofs.Steps.{Ground}
use Rattle.history.specs.Validated.{validity}
use Rattle.run_devices.proofs.installs.Stepping.{StepInstalls}
use Rattle.run_devices.specs.validity.Kept.{AllAgree, Excuse, NoExcuse, SiteSo, readying}
use Rattle.run_devices.specs.validity.Laws.{Agrees, ShowsValidity}
use Rattle.run_devices.proofs.validity.Acts.{mild_at, strict, up_same}
use Rattle.run_devices.proofs.validity.Plainly.{saved_still}
use Rattle.run_devices.proofs.validity.Courses.{IsTrusting, doings_trust}
use Rattle.run_devices.proofs.validity.Doings.{Ahead, Fixed, Ready, all_go}
use Rattle.run_devices.proofs.validity.Downs.{Small, all_lost, lost_goes, small_rest}
use Rattle.run_devices.proofs.validity.Goes.{Goes, HandSo, goes_at, line_goes}
use Rattle.run_devices.proofs.validity.Stills.{site_stays}

-- ---- all nodes, with an excuse for one

pub record Around (h : Header) (s : Scene) (n : ℕ) (e : Excuse) : Type 0 where
  pub here : SiteSo h s.moments n e (site_of s.nodes n)
  pub there : (k : ℕ) → k ≢ n → SiteSo h s.moments k NoExcuse (site_of s.nodes k)
  pub shown : Always (ShowsValidity h) s.moments

-- .. and without any
pub record Strict (h : Header) (s : Scene) : Type 0 where
  pub sites : (n : ℕ) → SiteSo h s.moments n NoExcuse (site_of s.nodes n)
  pub shown : Always (ShowsValidity h) s.moments

pub excused : (h : Header) (ms : List Moment) (n : ℕ) (e : Excuse) (x : Site) → SiteSo h ms n NoExcuse x → SiteSo h ms n e x
excused h ms n e x k = record { valid = λ d is. inl (strict (Agrees (validity h n d ms) (has x.disk.valid d)) (k.valid d is)); up = k.up }

pub around : (h : Header) (s : Scene) (n : ℕ) (e : Excuse) → Strict h s → Around h s n e
around h s n e k = record { here = excused h s.moments n e (site_of s.nodes n) (k.sites n); there = λ j ne. k.sites j; shown = k.shown }

pub all_around : (h : Header) (s : Scene) (n : ℕ) → Around h s n NoExcuse → Strict h s
all_around h s n k = record { sites = λ j. go j (same_or_not j n); shown = k.shown }
  where
    go : (j : ℕ) → (j ≡ n) ⊎ (j ≢ n) → SiteSo h s.moments j NoExcuse (site_of s.nodes j)
    go j (inl is) = subst (λ i. SiteSo h s.moments i NoExcuse (site_of s.nodes i)) (sym is) k.here
    go j (inr ne) = k.there j ne

-- ---- a step

pub ready_of : (c : Cluster) (v : Nodes) (n : ℕ) (i : Input) → Sized c → (b : Ground c v) → WasSent v i → Ready c b.machine n (delivered_by i) (site_of v n)
ready_of c v n i sized b was = record {
  fits = sized.fits.devices.attached;
  holds = b.holds;
  known = known_by b.machine i (is_true b.machine v i was b.sent);
  tied = (b.stands n).tied;
  joins = (b.stands n).joins;
}

-- what goes beside: its seizings, that attempts differ, and that what is installed tells the seizings
pub record Beside (h : Header) (c : Cluster) (n now : ℕ) (ends : method.Outcome) (i : Input) (s : Scene) : Type 0 where
  pub fixed : Fixed h c n
  pub seizing : IsSeizing h s
  pub hand : InHand h s.moments n (delivered_by i)
  pub differ : AttemptsDiffer (taking c n now ends i s).moments
  pub installs : StepInstalls h c n now ends i s

-- what it installs in its small steps, it does with the record that the lines tell
abbrev pub StepAgrees : Header → Cluster → ℕ → ℕ → method.Outcome → Input → Scene → Type 0
StepAgrees h c n now ends i s =
    AllAgree h c n (site_of s.nodes n)
    (doings c n now ends (steps_are_cut_so disk_rules disks_keep_rules c n now ends (s.nodes.node n) (s.nodes.disk n) i).replies i (s.nodes.node n))
    (record s { nodes = moved c s.nodes (Takes_in n now ends i) })

-- the walk through the small steps of it
abbrev Walk : Header → Cluster → ℕ → ℕ → method.Outcome → Input → Nodes → Excuse → (Site → Excuse) → Type 0
Walk h c n now ends i v e f = (replies : List Reply) (w : Nodes) (t : Scene)
    → Small h c n (delivered_by i) None (site_of v n) (doings c n now ends replies i (v.node n))
    → Ahead h c n (site_of v n) (doings c n now ends replies i (v.node n)) t
    → seizings.Goes h n (delivered_by i) v w (site_of v n) None t → Goes h n (delivered_by i) v w e (site_of v n) t
    → Goes h n (delivered_by i) v w (f (after_all c n (site_of v n) (doings c n now ends replies i (v.node n)))) (after_all c n (site_of v n) (doings c n now ends replies i (v.node n)))
    (passing n (given_all c n (site_of v n) (doings c n now ends replies i (v.node n))) t) × AllAgree h c n (site_of v n) (doings c n now ends replies i (v.node n)) t

pub step_around : (h : Header) (c : Cluster) (n now : ℕ) (ends : method.Outcome) (i : Input) (s : Scene) (e : Excuse) (f : Site → Excuse) → Sized c → Ground c s.nodes → IsNode n
    → now < 2 ^ 64 → WasSent s.nodes i → AnswersFit i → HandSo s.moments n (delivered_by i)
    → ((replies : List Reply) → AllMay h c n (delivered_by i) None (site_of s.nodes n) (doings c n now ends replies i (s.nodes.node n)))
    → Beside h c n now ends i s → Walk h c n now ends i s.nodes e f → Around h s n e
    → Around h (taking c n now ends i s) n (f (site_of (taking c n now ends i s).nodes n)) × StepAgrees h c n now ends i s
step_around h c n now ends i s e f sized b is time was answer hand guard beside walk k =
    let v : Nodes = s.nodes in
    let w : Nodes = moved c v (Takes_in n now ends i) in
    let o : Outcome DiskState = stepped disk_rules c n now ends (v.node n) (v.disk n) i in
    let cut : CutSo disk_rules c n now ends (v.node n) (v.disk n) i [] o = steps_are_cut_so disk_rules disks_keep_rules c n now ends (v.node n) (v.disk n) i in
    let told : Delivered = delivered_by i in
    let x : Site = site_of v n in
    let small : List Doing = doings c n now ends cut.replies i (v.node n) in
    let widths : StepFits c n o = move_fits c sized.fits v n now ends i (is.0, is.1, was, answer) time b.fits in
    let t : Scene = record s { nodes = w } in
    let first : Goes h n told v w e x t = record { here = k.here; there = k.there; hand = hand; nodes = refl; shown = k.shown } in
    let gone : Goes h n told v w (f (after_all c n x small)) (after_all c n x small) (passing n (given_all c n x small) t) × AllAgree h c n x small t =
    walk cut.replies w t (record {
      may = step_may c b.machine n now ends (v.node n) (v.disk n).kept i cut.replies is.1 sized.fits.devices.attached b.holds (b.stands n).tied (b.stands n).joins;
      so = doings_so c n now ends cut.replies i (v.node n);
      guard = guard cut.replies;
      lost = all_lost told small (doings_apart c n now ends cut.replies i (v.node n) cut.losses);
      fit = subst (λ os. AllFit n os) (sym cut.comes.given) (all_spelled n o.given is widths.given);
    })
    (record {
      differ = subst (λ os. AttemptsDiffer (passing n os t).moments) (sym cut.comes.given) beside.differ;
      installs = beside.installs cut.replies cut.comes.given;
    })
    (record {
      here = beside.seizing.sites n;
      there = λ j ne. beside.seizing.sites j;
      carried = beside.seizing.carried;
      hand = beside.hand;
      turn = tt;
      nodes = refl;
      held = beside.seizing.held;
      known = beside.seizing.known;
    }) first in
    let after : Goes h n told v w (f (site o.after o.disk.kept)) (site o.after o.disk.kept) (passing n o.given t) =
    subst (λ os. Goes h n told v w (f (site o.after o.disk.kept)) (site o.after o.disk.kept) (passing n os t)) cut.comes.given
    (subst (λ z. Goes h n told v w (f z) z (passing n (given_all c n x small) t)) cut.comes.left gone.0) in
    let r : Scene = passing n o.given t in (
      record {
        here = subst (λ (z : Nodes). SiteSo h r.moments n (f (site_of z n)) (site_of z n)) (sym after.nodes)
            (put_all (λ j node kept. j ≡ n → SiteSo h r.moments j (f (site node kept)) (site node kept)) v n o.after o.disk (λ same. after.here) (λ j ne same. absurd (ne same)) n refl);
        there = λ k ne.
            subst (λ (z : Nodes). SiteSo h r.moments k NoExcuse (site_of z k)) (sym after.nodes)
            (put_all (λ j node kept. j ≢ n → SiteSo h r.moments j NoExcuse (site node kept)) v n o.after o.disk (λ other. absurd (other refl)) (λ j other rest. after.there j other) k ne);
        shown = after.shown;
      },
      gone.1,
    )

-- but for a readying, and the answer to a command
pub trusting_step : (h : Header) (c : Cluster) (n now : ℕ) (ends : method.Outcome) (i : Input) (s : Scene) → Sized c → Ground c s.nodes → IsNode n → now < 2 ^ 64 → WasSent s.nodes i
    → AnswersFit i → HandSo s.moments n (delivered_by i) → IsTrusting i
    → ((replies : List Reply) → AllMay h c n (delivered_by i) None (site_of s.nodes n) (doings c n now ends replies i (s.nodes.node n)))
    → Beside h c n now ends i s → Strict h s → Strict h (taking c n now ends i s) × StepAgrees h c n now ends i s
trusting_step h c n now ends i s sized b is time was answer hand trusts guard beside k =
    let gone : Around h (taking c n now ends i s) n NoExcuse × StepAgrees h c n now ends i s =
    step_around h c n now ends i s NoExcuse (λ x. NoExcuse) sized b is time was answer hand guard beside
    (λ replies w t small differ z l.
    all_go h c b.machine n (delivered_by i) s.nodes w (site_of s.nodes n) None (doings c n now ends replies i (s.nodes.node n)) t beside.fixed (ready_of c s.nodes n i sized b was) small
    (doings_trust c n now ends replies i (s.nodes.node n) trusts) differ z l) (around h s n NoExcuse k) in
    (all_around h (taking c n now ends i s) n gone.0, gone.1)

-- ---- a node readies itself for its command

excuse_goes : (h : Header) (n : ℕ) (told : Delivered) (v w : Nodes) (e : Excuse) (x : Site) (s : Scene) → Goes h n told v w NoExcuse x s → Goes h n told v w e x s
excuse_goes h n told v w e x s k = goes_at h n told v w NoExcuse e x x s (excused h s.moments n e x k.here) k

-- it has saved that the device is not valid
distrusts_goes : (h : Header) (c : Cluster) (n : ℕ) (v w : Nodes) (disk : NodeRecord) (x : UpNode) (d : ℕ) (s : Scene) → disk ≡ record_of x → IsDevices disk.valid → IsNumber d
    → begins_plainly x.tasks ≡ Some d → Goes h n None v w NoExcuse (site (Up x) disk) s
    → Goes h n None v w (readying (effect c n (site (Up x) disk) (Saves (Distrusts d)))) (effect c n (site (Up x) disk) (Saves (Distrusts d)))
    (passing n (gives c n (site (Up x) disk) (Saves (Distrusts d))) s)
distrusts_goes h c n v w disk x d s same few number begins k =
    let y : UpNode = changed c n x (Distrusts d) in
    let new : NodeRecord = record_of y in
    let t : NodeState = with_valid (state_of x.seat) (set_without (record_of x).valid d) in
    let state : state_of y.seat ≡ t = same_state x.seat t in
    let valid : set_without disk.valid d ≡ new.valid = ap (λ (r : NodeRecord). set_without r.valid d) same ∙ sym (ap (λ (u : NodeState). u.saved.valid) state) in
    line_goes h n None v w NoExcuse (readying (site (Up y) new)) (site (Up x) disk) (site (Up y) new) s (entry.Node n note.Saved) tt (λ j ne is. ne (sym is)) (record {
      valid = λ e is.
          subst (λ r. Agrees (validity h n e s.moments) (has r e) ⊎ ((begins_plainly x.tasks ≡ Some e) × (has r e ≡ false))) valid
          (by_device e (same_or_not e d) (strict (Agrees (validity h n e s.moments) (has disk.valid e)) (k.here.valid e is)));
      up = up_same (telling (entry.Node n note.Saved) s).moments n x y (ap (λ (u : NodeState). u.session) state) (ap (λ (u : NodeState). u.saved.installed) state) refl
          (site_stays h s.moments _ n NoExcuse (site (Up x) disk) (saved_still h s.moments n (k.hand.calm tt)) k.here).up;
    }) k
  where
    by_device : (e : ℕ) → (e ≡ d) ⊎ (e ≢ d) → Agrees (validity h n e s.moments) (has disk.valid e)
        → Agrees (validity h n e s.moments) (has (set_without disk.valid d) e) ⊎ ((begins_plainly x.tasks ≡ Some e) × (has (set_without disk.valid d) e ≡ false))
    by_device e (inl is) old = inr (begins ∙ ap Some (sym is), ap (λ z. has (set_without disk.valid d) z) is ∙ less_here disk.valid d few number)
    by_device e (inr ne) old = inl (subst (λ b. Agrees (validity h n e s.moments) b) (sym (less_there disk.valid d e few number ne)) old)

readies_walk : (h : Header) (c : Cluster) (n : ℕ) (v w : Nodes) (disk : NodeRecord) (x : UpNode) (g : Hand) (replies : List Reply) (o : Option ℕ) (s : Scene) → disk ≡ record_of x
    → IsDevices disk.valid → begins_plainly x.tasks ≡ o → Small h c n None g (site (Up x) disk) (under replies (distrusting_course x o))
    → Goes h n None v w NoExcuse (site (Up x) disk) s
    → Goes h n None v w (readying (after_all c n (site (Up x) disk) (under replies (distrusting_course x o)))) (after_all c n (site (Up x) disk) (under replies (distrusting_course x o)))
    (passing n (given_all c n (site (Up x) disk) (under replies (distrusting_course x o))) s) × AllAgree h c n (site (Up x) disk) (under replies (distrusting_course x o)) s
readies_walk h c n v w disk x g replies None s same few begins small k = (excuse_goes h n None v w (readying (site (Up x) disk)) (site (Up x) disk) s k, tt)
readies_walk h c n v w disk x g replies (Some d) s same few begins small k = by_valid (has (record_of x).valid d) small
  where
    Walked : List Doing → Type 0
    Walked ds = Goes h n None v w (readying (after_all c n (site (Up x) disk) ds)) (after_all c n (site (Up x) disk) ds) (passing n (given_all c n (site (Up x) disk) ds) s) × AllAgree h c n (site (Up x) disk) ds s

    lost : (new : NodeRecord) (ch : Doing) → Goes h n None v w NoExcuse (site Down new) (passing n (given_all c n (site (Up x) disk) (ch ∷ [])) s)
        → Goes h n None v w (readying (site Down new)) (site Down new) (passing n (given_all c n (site (Up x) disk) (ch ∷ [])) s)
    lost new ch l = excuse_goes h n None v w (readying (site Down new)) (site Down new) (passing n (given_all c n (site (Up x) disk) (ch ∷ [])) s) l

    by_reply : (rs : List Reply) → Small h c n None g (site (Up x) disk) (under rs (Keeps (Distrusts d) Stops)) → Walked (under rs (Keeps (Distrusts d) Stops))
    by_reply [] z = (lost disk (Forgets (Distrusts d) cause.Stopped) (lost_goes h n None v w NoExcuse (site (Up x) disk) disk (Distrusts d) cause.Stopped s z.lost.0 k), (tt, tt))
    by_reply (Done ∷ rs) z = (distrusts_goes h c n v w disk x d s same few z.guard.0.0.0 begins k, (tt, tt))
    by_reply (Lost_new why ∷ rs) z = (
      lost (record_of (changed c n x (Distrusts d))) (Loses (Distrusts d) why)
          (lost_goes h n None v w NoExcuse (site (Up x) disk) (record_of (changed c n x (Distrusts d))) (Distrusts d) why s z.lost.0 k),
      (tt, tt),
    )
    by_reply (Lost_old why ∷ rs) z = (lost disk (Forgets (Distrusts d) why) (lost_goes h n None v w NoExcuse (site (Up x) disk) disk (Distrusts d) why s z.lost.0 k), (tt, tt))

    by_valid : (b : Bool) → Small h c n None g (site (Up x) disk) (under replies (if b then Keeps (Distrusts d) Stops else Stops)) → Walked (under replies (if b then Keeps (Distrusts d) Stops else Stops))
    by_valid true z = by_reply replies z
    by_valid false z = (excuse_goes h n None v w (readying (site (Up x) disk)) (site (Up x) disk) s k, tt)

pub readying_step : (h : Header) (c : Cluster) (n now : ℕ) (ends : method.Outcome) (s : Scene) → Sized c → Ground c s.nodes → IsNode n → now < 2 ^ 64
    → IsDevices (s.nodes.disk n).kept.valid → HandSo s.moments n None
    → ((replies : List Reply) → AllMay h c n None None (site_of s.nodes n) (doings c n now ends replies input.CommandDue (s.nodes.node n)))
    → Beside h c n now ends input.CommandDue s → Strict h s → Around h (taking c n now ends input.CommandDue s) n (readying (site_of (taking c n now ends input.CommandDue s).nodes n)) × StepAgrees h c n now ends input.CommandDue s
readying_step h c n now ends s sized b is time few hand guard beside k =
    step_around h c n now ends input.CommandDue s NoExcuse readying sized b is time tt tt hand guard beside
    (λ replies w t small differ z l. by_node (s.nodes.node n) replies w t (ready_of c s.nodes n input.CommandDue sized b tt) small l) (around h s n NoExcuse k)
  where
    disk : NodeRecord
    disk = (s.nodes.disk n).kept

    by_node : (node : Node) (replies : List Reply) (w : Nodes) (t : Scene) → Ready c b.machine n None (site node disk)
        → Small h c n None None (site node disk) (doings c n now ends replies input.CommandDue node) → Goes h n None s.nodes w NoExcuse (site node disk) t
        → Goes h n None s.nodes w (readying (after_all c n (site node disk) (doings c n now ends replies input.CommandDue node)))
        (after_all c n (site node disk) (doings c n now ends replies input.CommandDue node))
        (passing n (given_all c n (site node disk) (doings c n now ends replies input.CommandDue node)) t) × AllAgree h c n (site node disk) (doings c n now ends replies input.CommandDue node) t
    by_node Down replies w t r small l = (excuse_goes h n None s.nodes w (readying (site Down disk)) (site Down disk) t l, tt)
    by_node (Up x) replies w t r small l =
        let y : UpNode = at_second now x in
        let gone : Goes h n None s.nodes w (readying (after_all c n (site (Up y) disk) (under replies (distrusting_course y (begins_plainly y.tasks)))))
        (after_all c n (site (Up y) disk) (under replies (distrusting_course y (begins_plainly y.tasks))))
        (passing n (given_all c n (site (Up y) disk) (under replies (distrusting_course y (begins_plainly y.tasks)))) t)
        × AllAgree h c n (site (Up y) disk) (under replies (distrusting_course y (begins_plainly y.tasks))) t =
        readies_walk h c n s.nodes w disk y None replies (begins_plainly y.tasks) t (sees c b.machine n disk x.attempt x.seat r.tied.0).disk_so few refl
        (small_rest h c n None None (site (Up x) disk) (Does (Dates now)) (under replies (distrusting_course y (begins_plainly y.tasks))) small)
        (mild_at h n None s.nodes w NoExcuse disk x y [] t tt tt refl refl refl l) in
        (gone.0, (tt, gone.1))
