-- A step of a node keeps the answers that attempts have, where no Seized comes.
use Rattle.std.specs.Prelude.{ℕ, ◌≡◌, ◌≢◌, ◌<◌, ◌≤◌, ◌⊎◌, ◌++◌, true, false, List, [], ◌∷◌, Option, None, Some}
use Rattle.std.specs.List.{list_any}
use Rattle.std.proofs.Common.{arith, refl, sym, ap, subst, ◌∙◌, inl, inr}
use Rattle.cl_base.specs.declared.method.Outcome as method
use Rattle.cmm_attempt.proofs.Basics.{false_true}
use Rattle.cmm_attempt.specs.Attempts.{AttemptState}
use Rattle.cmm_member.specs.Records.{NodeRecord}
use Rattle.history.specs.Contact.{AttemptsDiffer}
use Rattle.history.specs.Moment.{Moment}
use Rattle.history.specs.Seizing.{is_attempt}
use Rattle.history.specs.Setting.{coordinator}
use Rattle.history.specs.UnderWay.{is_under_way}
use Rattle.machine_base.proofs.Puts.{put_here, put_there, same_or_not}
use Rattle.machine_base.specs.Put.{put}
use Rattle.membership_machine.specs.State.{Memberships}
use Rattle.node_model.specs.Seats.{promised_of}
use Rattle.node_model.specs.Steps.{Outcome, stepped}
use Rattle.node_model.specs.declared.cluster.Cluster.{Cluster}
use Rattle.node_model.specs.declared.input.Input.{Input}
use Rattle.node_model.specs.declared.node.Node.{Node}
use Rattle.node_model.specs.declared.node.Node.TheVariants.{Down, Up}
use Rattle.node_model.specs.declared.node.UpNode.{UpNode}
use Rattle.node_model.specs.declared.output.Output.{Output}
use Rattle.record_disk.specs.Disks.{DiskState}
use Rattle.refinement.proofs.Changes.{sees}
use Rattle.refinement.proofs.Disks.{disks_keep_rules}
use Rattle.refinement.proofs.Facts.{step_may}
use Rattle.refinement.proofs.Handlers.{delivered_by}
use Rattle.refinement.proofs.Replies.{steps_are_cut}
use Rattle.refinement.specs.Cuts.{doings}
use Rattle.refinement.specs.Doings.{Doing, Site, after_all}
use Rattle.refinement.specs.Guards.{MayAll}
use Rattle.refinement.specs.Runs.{IsAmong, Letter, Nodes, letters_of, moved}
use Rattle.refinement.specs.Runs.Move.{Takes as Takes_in}
use Rattle.refinement.specs.Steps.{IsCut, disk_rules}
use Rattle.refinement.specs.Ties.{NodeTied}
use Rattle.wire.specs.declared.message.Body.{Body}
use Rattle.wire.specs.declared.message.Body.TheVariants as body
use Rattle.run_downs.proofs.Packets.{no_packets}
use Rattle.run_history.proofs.Idle.{passing_nodes}
use Rattle.run_history.specs.Happenings.{given_by, taking}
use Rattle.run_history.specs.Scenes.{Scene}
use Rattle.run_history.specs.Stages.{Stage, site_of}
use Rattle.run_outcomes.specs.phases.Kept.{In}
use Rattle.run_outcomes.specs.saves.Kept.{IsAt}
use Rattle.run_outcomes.specs.tasks.Answers.{Answered, Heard, IsFree}
use Rattle.run_outcomes.proofs.phases.Runs.{ways_at}
use Rattle.run_outcomes.proofs.phases.Taken.{HasIn, Ways, has_of, way_of}
use Rattle.run_outcomes.proofs.seized.Lines.{Follows, IsSame, heard_by, passing_follows}
use Rattle.run_outcomes.proofs.seized.Quiet.{IsOld, IsQuiet, Stays, UpStays, all_stay, nothing}
use Rattle.run_outcomes.proofs.seized.Taken.{answered_same}
use Rattle.run_outcomes.proofs.seized.Scenes.{AllAnswered, AllSent, Kept, OfAttempt, Scened, same_most}

-- ---- a step

abbrev pub attempt_at : Node → Option AttemptState
attempt_at Down = None
attempt_at (Up x) = x.attempt

-- the node had it before
record HasOld (node : Node) (e : ℕ) : Type 0 where
  x : UpNode
  a : AttemptState
  up : node ≡ Up x
  has : x.attempt ≡ Some a
  number : a.plan.epoch ≡ e

has_old : (node : Node) (e : ℕ) → IsOld (attempt_at node) e → HasOld node e
has_old Down e is = absurd is
has_old (Up x) e is = by_attempt x.attempt refl is
  where
    by_attempt : (o : Option AttemptState) → x.attempt ≡ o → IsOld o e → HasOld (Up x) e
    by_attempt None at is = absurd is
    by_attempt (Some a) at is = record { x = x; a = a; up = refl; has = at; number = is }

abbrev pub heard_in : List Moment → ℕ → Heard
heard_in ms e = heard_by e ms

-- what is known as this comes to node n
pub record Comes_to (c : Cluster) (n : ℕ) (i : Input) (v : Nodes) (ms : List Moment) : Type 0 where
  pub ways : Ways v ms
  pub attempts : (k : ℕ) (x : UpNode) (a : AttemptState) → v.node k ≡ Up x → x.attempt ≡ Some a → OfAttempt ms v k x a
  pub there : (k : ℕ) (x : UpNode) (a : AttemptState) → k ≢ n → v.node k ≡ Up x → x.attempt ≡ Some a → Answered (heard_by a.plan.epoch ms) a.plan.epoch a
  pub here : (now : ℕ) (ends : method.Outcome) (y : UpNode) (b : AttemptState) → (stepped disk_rules c n now ends (v.node n) (v.disk n) i).after ≡ Up y → y.attempt ≡ Some b
      → Stays (attempt_at (v.node n)) (heard_in ms) (v.disk n).kept.promised b
  pub sent : AllSent v ms

too_low : (a b : ℕ) → a < b → b ≤ a → ⊥
too_low a b l m = omega (arith, l, m)

stepped_kept : (c : Cluster) (n now : ℕ) (ends : method.Outcome) (i : Input) (v : Nodes) (ms after : List Moment) → Comes_to c n i v ms → Ways (moved c v (Takes_in n now ends i)) after → AttemptsDiffer after → Follows ms after
    → AllAnswered (moved c v (Takes_in n now ends i)) after
stepped_kept c n now ends i v ms after k u differ f j y b up has = by_side (f.way differ e (way_of (moved c v (Takes_in n now ends i)) after j y b u up has))
  where
    o : Outcome DiskState
    o = stepped disk_rules c n now ends (v.node n) (v.disk n) i

    e : ℕ
    e = b.plan.epoch

    stays : j ≡ n → Stays (attempt_at (v.node n)) (heard_in ms) (v.disk n).kept.promised b
    stays is = k.here now ends y b (sym (put_here v.node n o.after) ∙ subst (λ z. put v.node n o.after z ≡ Up y) is up) has

    was : j ≢ n → v.node j ≡ Up y
    was ne = sym (put_there v.node n o.after j ne) ∙ up

    free_here : IsFree (heard_by e after) → list_any (is_attempt e) ms ≡ false → Stays (attempt_at (v.node n)) (heard_in ms) (v.disk n).kept.promised b → Answered (heard_by e after) e b
    free_here free none (inl old) =
        let g : HasOld (v.node n) e = has_old (v.node n) e old.0 in
        absurd (false_true (sym none ∙ subst (λ q. list_any (is_attempt q) ms ≡ true) g.number (k.attempts n g.x g.a g.up g.has).attempted))
    free_here free none (inr new) = answered_same nothing (heard_by e after) e b free new.1

    same_here : is_under_way e ms ≡ true → coordinator e ≡ n → IsSame (heard_by e after) (heard_by e ms) → Stays (attempt_at (v.node n)) (heard_in ms) (v.disk n).kept.promised b → Answered (heard_by e after) e b
    same_here way own same (inl old) = answered_same (heard_by e ms) (heard_by e after) e b same old.1
    same_here way own same (inr new) =
        let g : HasIn (v.node n) e = has_of v ms n e k.ways own way in
        absurd (too_low (v.disk n).kept.promised e new.0 (subst (λ q. q ≤ (v.disk n).kept.promised) g.number (k.attempts n g.x g.a g.up g.has).promised))

    by_free : IsFree (heard_by e after) → list_any (is_attempt e) ms ≡ false → (j ≡ n) ⊎ (j ≢ n) → Answered (heard_by e after) e b
    by_free free none (inl is) = free_here free none (stays is)
    by_free free none (inr ne) = absurd (false_true (sym none ∙ (k.attempts j y b (was ne) has).attempted))

    by_same : is_under_way e ms ≡ true → IsSame (heard_by e after) (heard_by e ms) → (j ≡ n) ⊎ (j ≢ n) → Answered (heard_by e after) e b
    by_same way same (inl is) = same_here way (u.own j y b up has ∙ is) same (stays is)
    by_same way same (inr ne) = answered_same (heard_by e ms) (heard_by e after) e b same (k.there j y b ne (was ne) has)

    by_side : (IsFree (heard_by e after) × (list_any (is_attempt e) ms ≡ false)) ⊎ ((is_under_way e ms ≡ true) × IsSame (heard_by e after) (heard_by e ms)) → Answered (heard_by e after) e b
    by_side (inl free) = by_free free.0 free.1 (same_or_not j n)
    by_side (inr more) = by_same more.0 more.1 (same_or_not j n)

among_more : (m : ℕ) (b : Body) (more ls : List Letter) → IsAmong m b ls → IsAmong m b (more ++ ls)
among_more m b [] ls is = is
among_more m b (l ∷ more) ls is = inr (among_more m b more ls is)

pub taking_kept : (c : Cluster) (n now : ℕ) (ends : method.Outcome) (i : Input) (t : Scene) → Comes_to c n i t.nodes t.moments → Ways (taking c n now ends i t).nodes (taking c n now ends i t).moments
    → AttemptsDiffer (taking c n now ends i t).moments → Kept (taking c n now ends i t).nodes (taking c n now ends i t).moments
taking_kept c n now ends i t k u differ =
    let os : List Output = given_by c n now ends i t.nodes in
    let z : Scene = taking c n now ends i t in
    let f : Follows t.moments z.moments = passing_follows n os (record t { nodes = moved c t.nodes (Takes_in n now ends i) }) (no_packets c n now ends (t.nodes.node n) (t.nodes.disk n) i) in
    let same : z.nodes ≡ moved c t.nodes (Takes_in n now ends i) = passing_nodes n os (record t { nodes = moved c t.nodes (Takes_in n now ends i) }) in
    subst (λ v. Kept v z.moments) (sym same) (record {
      answered = stepped_kept c n now ends i t.nodes t.moments z.moments k (subst (λ v. Ways v z.moments) same u) differ f;
      sent = λ e d m r is. among_more m (body.Seized e d r) (letters_of n os) t.nodes.sent (k.sent e d m r (f.heard e d m r is));
    })

-- ---- where no Seized comes

first_stays : (ms : List Moment) (low : ℕ) (node : Node) → ((x : UpNode) → node ≡ Up x → low ≤ promised_of x) → ((x : UpNode) (a : AttemptState) → node ≡ Up x → x.attempt ≡ Some a → Answered (heard_by a.plan.epoch ms) a.plan.epoch a)
    → IsAt (UpStays (attempt_at node) (heard_in ms) low) node
first_stays ms low Down f g = tt
first_stays ms low (Up x) f g = record { promised = f x refl; attempt = by_attempt x.attempt refl }
  where
    by_attempt : (o : Option AttemptState) → x.attempt ≡ o → In (Stays o (heard_in ms) low) o
    by_attempt None is = tt
    by_attempt (Some a) is = inl (refl, g x a refl is)

pub at_up : (P : UpNode → Type 0) (node : Node) (y : UpNode) → node ≡ Up y → IsAt P node → P y
at_up P node y is h = subst (IsAt P) is h

pub quiet_here : (c : Cluster) (n now : ℕ) (ends : method.Outcome) (i : Input) (s : Scene) (ms : List Moment) (y : UpNode) (b : AttemptState) → Scened c s → n ≤ 32 → IsQuiet (delivered_by i)
    → ((x : UpNode) (a : AttemptState) → s.nodes.node n ≡ Up x → x.attempt ≡ Some a → Answered (heard_by a.plan.epoch ms) a.plan.epoch a)
    → (stepped disk_rules c n now ends (s.nodes.node n) (s.nodes.disk n) i).after ≡ Up y → y.attempt ≡ Some b
    → Stays (attempt_at (s.nodes.node n)) (heard_in ms) (s.nodes.disk n).kept.promised b
quiet_here c n now ends i s ms y b z high quiet g up has =
    let v : Nodes = s.nodes in
    let st : Stage c s = z.knows.known.stage in
    let M : Memberships = st.machine in
    let low : ℕ = (v.disk n).kept.promised in
    let o : Outcome DiskState = stepped disk_rules c n now ends (v.node n) (v.disk n) i in
    let cut : IsCut disk_rules c n now ends (v.node n) (v.disk n) i [] o = steps_are_cut disk_rules disks_keep_rules c n now ends (v.node n) (v.disk n) i in
    let ds : List Doing = doings c n now ends cut.replies i (v.node n) in
    let may : MayAll c n (delivered_by i) (site_of v n) ds =
    step_may c M n now ends (v.node n) (v.disk n).kept i cut.replies high z.whole.cluster.fits.devices.attached st.holds (st.stands n).tied (st.stands n).joins in
    let promised : (x : UpNode) → v.node n ≡ Up x → low ≤ promised_of x = λ x is.
    same_most low (promised_of x) (ap (λ (r : NodeRecord). r.promised) (sees c M n (v.disk n).kept x.attempt x.seat (subst (NodeTied c M n (v.disk n).kept) is (st.stands n).tied).0).disk_so) in
    let all : IsAt (UpStays (attempt_at (v.node n)) (heard_in ms) low) (after_all c n (site_of v n) ds).node =
    (all_stay c n (delivered_by i) (attempt_at (v.node n)) (heard_in ms) low (site_of v n) ds z.whole.cluster.apart quiet may (same_most low low refl, first_stays ms low (v.node n) promised g)).1 in
    let at : UpStays (attempt_at (v.node n)) (heard_in ms) low y =
    at_up (UpStays (attempt_at (v.node n)) (heard_in ms) low) o.after y up (subst (λ (x : Site). IsAt (UpStays (attempt_at (v.node n)) (heard_in ms) low) x.node) cut.comes.left all) in
    subst (In (Stays (attempt_at (v.node n)) (heard_in ms) low)) has at.attempt

-- it brings no packet
pub plainly : (c : Cluster) (s : Scene) (n : ℕ) (i : Input) → Scened c s → n ≤ 32 → IsQuiet (delivered_by i) → Kept s.nodes s.moments → Comes_to c n i s.nodes s.moments
plainly c s n i z high quiet k = record {
  ways = ways_at c s z.knows;
  attempts = z.attempts;
  there = λ j x a ne is has. k.answered j x a is has;
  here = λ now ends y b up has. quiet_here c n now ends i s s.moments y b z high quiet (λ x a is has. k.answered n x a is has) up has;
  sent = k.sent;
}
