-- In each scene of a run what each president has proposed is as old as its Prepares are, where a packet number is left.
use Rattle.std.specs.Prelude.{ℕ, ◌≡◌, ◌≢◌, ◌≤◌, ◌⊎◌, ◌^◌, All, Bool, true, false, List, [], Option, None, Some, is_some}
use Rattle.std.specs.List.{list_any}
use Rattle.history.specs.Contact.{is_proposal}
use Rattle.history.specs.Order.{before_last}
use Rattle.std.proofs.Common.{ap, sym, subst, ◌∙◌, inl, inr}
use Rattle.cl_base.proofs.SetLemmas.{none_of_zero}
use Rattle.cl_base.specs.declared.method.Outcome as method
use Rattle.cmm_attempt.proofs.Basics.{false_true}
use Rattle.cmm_attempt.specs.Calls.{IsDevice}
use Rattle.cmm_member.specs.Records.{NodeRecord}
use Rattle.history.specs.Messages.{pending_place}
use Rattle.history.specs.Moment.{Moment}
use Rattle.history.specs.Setting.{coordinator}
use Rattle.history.specs.Starts.{is_started}
use Rattle.machine_base.proofs.Puts.{put_here, put_there, same_or_not}
use Rattle.machine_base.specs.Put.{put}
use Rattle.membership_machine.specs.Invariant.{Holds}
use Rattle.membership_machine.specs.State.{Memberships}
use Rattle.node_model.specs.Seats.{session_of, state_of}
use Rattle.node_model.specs.Steps.{Outcome, at_second, stepped}
use Rattle.node_model.specs.Ticks.{later, ticked_output}
use Rattle.node_model.specs.declared.cluster.Cluster.{Cluster}
use Rattle.node_model.specs.declared.input.Input.{Input}
use Rattle.node_model.specs.declared.input.Input.TheVariants as input
use Rattle.node_model.specs.declared.node.Node.{Node}
use Rattle.node_model.specs.declared.node.Node.TheVariants.{Down, Up}
use Rattle.node_model.specs.declared.node.UpNode.{UpNode}
use Rattle.node_model.specs.declared.output.Output.{Output}
use Rattle.node_model.specs.declared.presidency.Presidency.{Presidency}
use Rattle.node_model.specs.declared.seat.Seat.{Seat}
use Rattle.node_model.specs.declared.seat.Seat.TheVariants.{Forming, Member}
use Rattle.proposals.specs.declared.arrived.Proposed.{Proposed}
use Rattle.record_disk.specs.Disks.{DiskState}
use Rattle.refinement.proofs.Acts.{does_one}
use Rattle.refinement.proofs.Disks.{disks_keep_rules}
use Rattle.refinement.proofs.Facts.{step_may}
use Rattle.refinement.proofs.Handlers.{delivered_by}
use Rattle.refinement.proofs.Replies.{steps_are_cut}
use Rattle.refinement.specs.Courses.{Reply, under}
use Rattle.refinement.specs.Cuts.{doings}
use Rattle.refinement.specs.Doings.{Doing, Site, after_all, given_all, site}
use Rattle.refinement.specs.Doings.Act.{Dates, Ticks as Tick_act}
use Rattle.refinement.specs.Doings.Doing.{Does}
use Rattle.refinement.specs.Events.{of_doing}
use Rattle.refinement.specs.Guards.{MayAll}
use Rattle.refinement.specs.Runs.{Nodes, moved}
use Rattle.refinement.specs.Runs.Move.{Takes as Takes_in}
use Rattle.refinement.specs.Steps.{IsCut, disk_rules}
use Rattle.refinement.specs.Whole.{Stands}
use Rattle.refinement.specs.Ties.{GoesOn, Known, NodeTied, setting_of}
use Rattle.run_history.proofs.Courses.{doings_so}
use Rattle.run_history.proofs.Idle.{passing_append, passing_nodes, passing_started}
use Rattle.run_history.specs.Happenings.{given_by, taking}
use Rattle.run_history.specs.Marks.{AllSo as AllMinor}
use Rattle.run_history.specs.Scenes.{Scene, passing, telling}
use Rattle.run_lines.specs.Entries.{NodePresides, PresidesAt}
use Rattle.run_messages.specs.Outputs.{AreGood}
use Rattle.run_packets.proofs.prepares.Courses.{doings_own}
use Rattle.run_packets.proofs.prepares.Doings.{all_so}
use Rattle.run_packets.proofs.prepares.Numbers.{left_before, passing_next}
use Rattle.run_packets.specs.prepares.Events.{IsLeft}
use Rattle.run_packets.specs.prepares.Proposals.{AreSo, Covers, CoversIn, IsBehind}
use Rattle.status_report.specs.declared.entry.Entry.TheVariants as entry
use Rattle.status_report.specs.declared.node_entry.NodeEntry.TheVariants as note
use Rattle.wire.specs.declared.message.Body.TheVariants as body
use Rattle.run_packets.specs.repeats.Ages.{NodeIn, Opened, ProposalIn, SeatIn}
use Rattle.run_packets.proofs.repeats.Courses.{NoTickAt, again_of, tick_rest, tick_so}
use Rattle.run_packets.proofs.repeats.Under.{doings_age, under_age}
use Rattle.run_packets.proofs.repeats.Doings.{Settled, all_kept}
use Rattle.run_packets.proofs.repeats.Leading.{leads_given}
use Rattle.run_packets.proofs.repeats.Elsewhere.{last_elsewhere, passing_elsewhere, places_elsewhere, proposals_elsewhere}
use Rattle.run_packets.proofs.repeats.Lines.{quiet_plain, since_prepare}
use Rattle.run_packets.proofs.repeats.Quiet.{ticked_quiet}
use Rattle.run_packets.proofs.repeats.Ticking.{IsSeat, later_zero, tick_in, tick_leads, with_tick}
use Rattle.run_packets.proofs.repeats.Walk.{OpenedIn, plain_opened}

-- ---- what is so of other nodes

-- the same is proposed in the memberships of node j
pub record OwnSame (j : ℕ) (ms after : List Moment) : Type 0 where
  pub place : (f : ℕ) → coordinator f ≡ j → pending_place f after ≡ pending_place f ms
  pub any : (f w : ℕ) → coordinator f ≡ j → list_any (is_proposal f w) after ≡ list_any (is_proposal f w) ms
  pub last : (f w : ℕ) → coordinator f ≡ j → before_last (is_proposal f w) after ≡ before_last (is_proposal f w) ms

aged_moved : (j : ℕ) (ms after : List Moment) (e : ℕ) (pending : Option (List ℕ)) (o : Option Proposed) (age : ℕ) → ((m v : ℕ) → since_prepare j m v after ≡ since_prepare j m v ms) → pending_place e after ≡ pending_place e ms
    → ((w : ℕ) → before_last (is_proposal e w) after ≡ before_last (is_proposal e w) ms) → ProposalIn ms [] j e pending o age → ProposalIn after [] j e pending o age
aged_moved j ms after e pending None age ticks place last h = place ∙ h
aged_moved j ms after e pending (Some q) age ticks place last h = record {
  place = place ∙ h.place;
  once = ap (list_any (is_proposal e q.place)) (last q.place) ∙ h.once;
  text = h.text;
  pends = h.pends;
  short = h.short;
  aged = λ m low missing. by_age m (h.aged m low missing);
}
  where
    by_age : (m : ℕ) → (since_prepare j m q.place ms ≡ Some age) ⊎ ((age ≡ 0) × IsBehind j m (body.Prepare e q.place h.text) []) → (since_prepare j m q.place after ≡ Some age) ⊎ ((age ≡ 0) × IsBehind j m (body.Prepare e q.place h.text) [])
    by_age m (inl is) = inl (ticks m q.place ∙ is)
    by_age m (inr none) = absurd none.1

seat_moved : (j : ℕ) (ms after : List Moment) (o : Option Presidency) (seat : Seat) → ((m v : ℕ) → since_prepare j m v after ≡ since_prepare j m v ms)
    → OwnSame j ms after → ((f : ℕ) → is_started f ms ≡ true → is_started f after ≡ true) → PresidesAt j o seat → SeatIn ms [] j o seat → SeatIn after [] j o seat
seat_moved j ms after o (Forming t) ticks places grows own h = tt
seat_moved j ms after None (Member t) ticks places grows own h = tt
seat_moved j ms after (Some p) (Member t) ticks places grows own h = (
  grows t.session h.0,
  aged_moved j ms after t.session t.saved.entries.pending p.proposals.proposed p.proposals.age ticks (places.place t.session own) (λ w. places.last t.session w own) h.1,
  λ v is. h.2 v (sym (places.any t.session v own) ∙ is),
)

pub node_moved : (j : ℕ) (ms after : List Moment) (z : Node) → ((m v : ℕ) → since_prepare j m v after ≡ since_prepare j m v ms)
    → OwnSame j ms after → ((f : ℕ) → is_started f ms ≡ true → is_started f after ≡ true) → NodePresides j z → NodeIn ms [] j z → NodeIn after [] j z
node_moved j ms after Down ticks places grows own h = tt
node_moved j ms after (Up x) ticks places grows own h = seat_moved j ms after x.presidency x.seat ticks places grows own h

-- ---- a step

any_rest : (ms : List Moment) (rest : List Output) (n : ℕ) (o : Option Presidency) (seat : Seat) → SeatIn ms [] n o seat → SeatIn ms rest n o seat
any_rest ms rest n o (Forming t) h = tt
any_rest ms rest n None (Member t) h = tt
any_rest ms rest n (Some p) (Member t) h = (h.0, by_proposed p.proposals.proposed h.1, h.2)
  where
    by_proposed : (q : Option Proposed) → ProposalIn ms [] n t.session t.saved.entries.pending q p.proposals.age → ProposalIn ms rest n t.session t.saved.entries.pending q p.proposals.age
    by_proposed None k = k
    by_proposed (Some q) k = record {
      place = k.place;
      once = k.once;
      text = k.text;
      pends = k.pends;
      short = k.short;
      aged = λ m low missing. by_age m (k.aged m low missing);
    }
      where
        by_age : (m : ℕ) → (since_prepare n m q.place ms ≡ Some p.proposals.age) ⊎ ((p.proposals.age ≡ 0) × IsBehind n m (body.Prepare t.session q.place k.text) [])
            → (since_prepare n m q.place ms ≡ Some p.proposals.age) ⊎ ((p.proposals.age ≡ 0) × IsBehind n m (body.Prepare t.session q.place k.text) rest)
        by_age m (inl is) = inl is
        by_age m (inr none) = absurd none.1

any_rest_in : (ms : List Moment) (rest : List Output) (n : ℕ) (z : Node) → NodeIn ms [] n z → NodeIn ms rest n z
any_rest_in ms rest n Down h = tt
any_rest_in ms rest n (Up x) h = any_rest ms rest n x.presidency x.seat h

-- a tick of a node that is up
tick_settled : (c : Cluster) (M : Memberships) (n now : ℕ) (ends : method.Outcome) (replies : List Reply) (x : UpNode) (kept : NodeRecord) (s : Scene) → All IsDevice c.attached → Holds (setting_of c) M → NodeTied c M n kept (Up x)
    → (let ds : List Doing = doings c n now ends replies input.Tick (Up x) in
    MayAll c n None (site (Up x) kept) ds → AllMinor ds → IsLeft (passing n (given_all c n (site (Up x) kept) ds) s).links.next → SeatIn s.moments [] n x.presidency x.seat → OpenedIn M s.moments
    → Settled n (after_all c n (site (Up x) kept) ds).node (passing n (given_all c n (site (Up x) kept) ds) s))
tick_settled c M n now ends replies x kept s fits holds tied may minor left h opened =
    let y : UpNode = at_second now x in
    let z : UpNode = later c y in
    let ds : List Doing = under replies (tick_rest c n ends y) in
    let more : List Output = ticked_output c y z in
    let rest : List Output = given_all c n (site (Up z) kept) ds in
    let u : Scene = passing n (with_tick n more) s in
    let g : GoesOn c M n (site (Up y) kept) [] (of_doing n (Does (Dates now))) = does_one c M n None (site (Up x) kept) (Does (Dates now)) fits holds tt tied may.0 in
    let f : GoesOn c g.machine n (site (Up z) kept) (with_tick n more) (of_doing n (Does Tick_act)) = does_one c g.machine n None (site (Up y) kept) (Does Tick_act) fits g.holds tt g.tied may.1.0 in
    let again : Bool = again_of y.presidency in
    let here : SeatIn u.moments rest n z.presidency z.seat =
    tick_in n more rest s y.presidency y.seat (ticked_quiet c y z)
    (λ p q text m e pending office seat due proposed pends low missing.
    subst (λ k. IsBehind n m (body.Prepare k q.place text) rest) (seat_session y.seat e pending seat)
    (leads_given c n m (body.Prepare (session_of y) q.place text) replies kept z (tick_rest c n ends y)
    (tick_leads c n m ends y p q text office due proposed (seat_pending y.seat e pending seat ∙ pends) low missing))) h in
    let last : IsLeft (passing n rest u).links.next = subst (λ (t : Scene). IsLeft t.links.next) (passing_append n (with_tick n more) rest s) left in
    subst (λ (t : Scene). Settled n (after_all c n (site (Up z) kept) ds).node t) (sym (passing_append n (with_tick n more) rest s))
    (all_kept c n None again ds f.machine (site (Up z) kept) u fits f.holds tt f.tied may.1.1 (under_age c n again replies kept z (tick_rest c n ends y) (tick_so c n again ends y (λ now_due. now_due))) minor.1.1
    (λ due. later_zero y.presidency due) last
    (record { here = here; opened = plain_opened g.machine f.machine n more (telling (entry.Node n note.Ticked) s) f.grows (quiet_plain more (ticked_quiet c y z)) (plain_opened M g.machine n [] s g.grows tt opened) }))
  where
    seat_session : (seat : Seat) (e : ℕ) (pending : Option (List ℕ)) → IsSeat seat e pending → (state_of seat).session ≡ e
    seat_session (Forming t) e pending is = absurd is
    seat_session (Member t) e pending is = is.0

    seat_pending : (seat : Seat) (e : ℕ) (pending : Option (List ℕ)) → IsSeat seat e pending → (state_of seat).saved.entries.pending ≡ pending
    seat_pending (Forming t) e pending is = absurd is
    seat_pending (Member t) e pending is = is.1

-- what is told is of each node's own doing
covers_none : (n : ℕ) (b : Bool) (seat : Seat) → CoversIn [] n b seat
covers_none n b (Forming t) = tt
covers_none n false (Member t) = tt
covers_none n true (Member t) = λ m other. absurd (false_true (sym (none_of_zero m) ∙ other.1))

node_covers_none : (n : ℕ) (z : Node) → Covers [] n z
node_covers_none n Down = tt
node_covers_none n (Up x) = covers_none n (is_some x.presidency) x.seat

pub given_own : (c : Cluster) (M : Memberships) (n now : ℕ) (ends : method.Outcome) (i : Input) (replies : List Reply) (node : Node) (kept : NodeRecord) → All IsDevice c.attached → Holds (setting_of c) M → Known M (delivered_by i)
    → NodeTied c M n kept node → MayAll c n (delivered_by i) (site node kept) (doings c n now ends replies i node) → AreSo [] n (given_all c n (site node kept) (doings c n now ends replies i node))
given_own c M n now ends i replies node kept fits holds known tied may =
    (all_so c M [] n (delivered_by i) (site node kept) (doings c n now ends replies i node) fits holds known (λ e is. absurd (false_true is)) tied may (doings_own c n now ends replies i kept node) (node_covers_none n node)).so

all_settled : (c : Cluster) (M : Memberships) (n now : ℕ) (ends : method.Outcome) (i : Input) (replies : List Reply) (node : Node) (kept : NodeRecord) (s : Scene) → All IsDevice c.attached → Holds (setting_of c) M
    → Known M (delivered_by i) → NodeTied c M n kept node
    → (let ds : List Doing = doings c n now ends replies i node in
    MayAll c n (delivered_by i) (site node kept) ds → NoTickAt i node → IsLeft (passing n (given_all c n (site node kept) ds) s).links.next → NodeIn s.moments [] n node → OpenedIn M s.moments
    → Settled n (after_all c n (site node kept) ds).node (passing n (given_all c n (site node kept) ds) s))
all_settled c M n now ends i replies node kept s fits holds known tied may still left h opened =
    let ds : List Doing = doings c n now ends replies i node in
    all_kept c n (delivered_by i) false ds M (site node kept) s fits holds known tied may (doings_age c n now false ends replies i kept node still) (doings_so c n now ends replies i node) (λ now_due. absurd (false_true now_due)) left
    (record { here = any_rest_in s.moments (given_all c n (site node kept) ds) n node h; opened = opened })

step_settled : (c : Cluster) (M : Memberships) (n now : ℕ) (ends : method.Outcome) (i : Input) (replies : List Reply) (node : Node) (kept : NodeRecord) (s : Scene) → All IsDevice c.attached → Holds (setting_of c) M
    → Known M (delivered_by i) → NodeTied c M n kept node
    → (let ds : List Doing = doings c n now ends replies i node in
    MayAll c n (delivered_by i) (site node kept) ds → IsLeft (passing n (given_all c n (site node kept) ds) s).links.next → NodeIn s.moments [] n node → OpenedIn M s.moments
    → Settled n (after_all c n (site node kept) ds).node (passing n (given_all c n (site node kept) ds) s))
step_settled c M n now ends input.Tick replies (Up x) kept s fits holds known tied may left h opened =
    tick_settled c M n now ends replies x kept s fits holds tied may (doings_so c n now ends replies input.Tick (Up x)) left h opened
step_settled c M n now ends i replies Down kept s fits holds known tied may left h opened = all_settled c M n now ends i replies Down kept s fits holds known tied may tt left h opened
step_settled c M n now ends i replies (Up x) kept s fits holds known tied may left h opened = all_settled c M n now ends i replies (Up x) kept s fits holds known tied may tt left h opened

-- ---- scenes

-- each node's proposal is as old as its Prepares are, and each update was proposed behind a start line
pub record HeldIn (ms : List Moment) (f : ℕ → Node) : Type 0 where
  pub opened : Opened ms
  pub nodes : (n : ℕ) → NodeIn ms [] n (f n)

abbrev pub Held : Scene → Type 0
Held s = HeldIn s.moments s.nodes.node

-- .. where a packet number is left
abbrev pub HeldIf : Scene → Type 0
HeldIf s = IsLeft s.links.next → Held s

pub put_all : (P : ℕ → Node → Type 0) (f : ℕ → Node) (n : ℕ) (x : Node) → P n x → ((k : ℕ) → k ≢ n → P k (f k)) → (k : ℕ) → P k (put f n x k)
put_all P f n x here others k = go (same_or_not k n)
  where
    go : (k ≡ n) ⊎ (k ≢ n) → P k (put f n x k)
    go (inl e) = subst (λ j. P j (put f n x j)) (sym e) (subst (P n) (sym (put_here f n x)) here)
    go (inr ne) = subst (P k) (sym (put_there f n x k ne)) (others k ne)

-- what is known of a scene before a step
pub record Ready (c : Cluster) (s : Scene) : Type 0 where
  pub fits : All IsDevice c.attached
  pub machine : Memberships
  pub holds : Holds (setting_of c) machine
  pub stands : (n : ℕ) → Stands c machine n (s.nodes.node n) (s.nodes.disk n).kept
  pub started : (e : ℕ) → is_started e s.moments ≡ true → (machine.epoch e).started ≡ true
  pub presides : (n : ℕ) → NodePresides n (s.nodes.node n)

pub taking_held : (c : Cluster) (s : Scene) (n now : ℕ) (ends : method.Outcome) (i : Input) → n ≤ 32 → (r : Ready c s) → Known r.machine (delivered_by i) → AreGood n (given_by c n now ends i s.nodes) → HeldIf s → HeldIf (taking c n now ends i s)
taking_held c s n now ends i low r known good h left =
    let o : Outcome DiskState = stepped disk_rules c n now ends (s.nodes.node n) (s.nodes.disk n) i in
    let cut : IsCut disk_rules c n now ends (s.nodes.node n) (s.nodes.disk n) i [] o = steps_are_cut disk_rules disks_keep_rules c n now ends (s.nodes.node n) (s.nodes.disk n) i in
    let kept : NodeRecord = (s.nodes.disk n).kept in
    let x : Site = site (s.nodes.node n) kept in
    let ds : List Doing = doings c n now ends cut.replies i (s.nodes.node n) in
    let u : Scene = record s { nodes = moved c s.nodes (Takes_in n now ends i) } in
    let may : MayAll c n (delivered_by i) x ds = step_may c r.machine n now ends (s.nodes.node n) kept i cut.replies low r.fits r.holds (r.stands n).tied (r.stands n).joins in
    let was : Held s = h (left_before s.links.next (passing n o.given u).links.next (2 ^ 63) (passing_next n o.given u) left) in
    let all : Settled n (after_all c n x ds).node (passing n (given_all c n x ds) u) =
    step_settled c r.machine n now ends i cut.replies (s.nodes.node n) kept u r.fits r.holds known (r.stands n).tied may (subst (λ os. IsLeft (passing n os u).links.next) (sym cut.comes.given) left) (was.nodes n)
    (λ e v is. (was.opened e v is, r.started e (was.opened e v is))) in
    let own : AreSo [] n o.given = subst (AreSo [] n) cut.comes.given (given_own c r.machine n now ends i cut.replies (s.nodes.node n) kept r.fits r.holds known (r.stands n).tied may) in
    let settled : Settled n o.after (passing n o.given u) =
    subst (λ os. Settled n o.after (passing n os u)) cut.comes.given (subst (λ (z : Site). Settled n z.node (passing n (given_all c n x ds) u)) cut.comes.left all) in
    record {
      opened = settled.opened;
      nodes = subst (λ (w : Nodes). (k : ℕ) → NodeIn (passing n o.given u).moments [] k (w.node k)) (sym (passing_nodes n o.given u))
          (put_all (λ k z. NodeIn (passing n o.given u).moments [] k z) s.nodes.node n o.after settled.here
          (λ k ne. node_moved k s.moments (passing n o.given u).moments (s.nodes.node k) (λ m v. passing_elsewhere k m v n o.given u ne good own) (record { place = λ f its. places_elsewhere k f n o.given u ne its own; any = λ f w its. proposals_elsewhere k f w n o.given u ne its own; last = λ f w its. last_elsewhere k f w n o.given u ne its own })
          (λ f is. passing_started f n o.given u is) (r.presides k) (was.nodes k)));
    }
