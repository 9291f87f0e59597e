-- Where an answer comes to an attempt, each save falls while that attempt is under way.
use Rattle.std.specs.Prelude.{ℕ, ◌≡◌, ◌≤◌, ◌++◌, All, true, List, [], ◌∷◌, Option}
use Rattle.std.specs.List.{AllByRecursion}
use Rattle.std.proofs.Common.{sym, ap, subst, ◌∙◌}
use Rattle.cl_base.specs.declared.method.Outcome as method
use Rattle.cmm_attempt.specs.Calls.{IsDevice}
use Rattle.cmm_member.specs.Records.{NodeRecord}
use Rattle.history.specs.Letters.{Letter, arrived}
use Rattle.history.specs.Member.{attempt_of}
use Rattle.history.specs.Moment.{Moment, Told}
use Rattle.history.specs.Order.{under_way}
use Rattle.history.specs.Saves.{attempts, may_save}
use Rattle.history.specs.Setting.{Setting}
use Rattle.membership_machine.specs.Invariant.{Holds}
use Rattle.membership_machine.specs.State.{Memberships}
use Rattle.node_model.specs.Steps.{Outcome, stepped}
use Rattle.node_model.specs.declared.cluster.Cluster.{Cluster}
use Rattle.node_model.specs.declared.input.Input.{Input}
use Rattle.node_model.specs.declared.input.Input.TheVariants as input
use Rattle.node_model.specs.declared.node.Node.{Node}
use Rattle.node_model.specs.declared.node.Node.TheVariants.{Down, Up}
use Rattle.node_model.specs.declared.node.UpNode.{UpNode}
use Rattle.node_model.specs.declared.output.Output.{Output}
use Rattle.node_model.specs.declared.output.Output.TheVariants.{Sends, Tells}
use Rattle.record_disk.specs.Disks.{DiskState}
use Rattle.refinement.proofs.Disks.{disks_keep_rules}
use Rattle.refinement.proofs.Facts.{step_may}
use Rattle.refinement.proofs.Handlers.{delivered_by}
use Rattle.refinement.proofs.Replies.{steps_are_cut}
use Rattle.refinement.specs.Cuts.{course_at, doings}
use Rattle.refinement.specs.Doings.{Act, Change, Doing, Site, acted, changed, effect, first_lines, given_all, gives, last_lines, said, saved_in, site}
use Rattle.refinement.specs.Doings.Act.{Dates, Ends, Gives, Goes_on, Hears, Makes, Minds, Queues, Writes}
use Rattle.refinement.specs.Doings.Change.{Counts, Starts}
use Rattle.refinement.specs.Doings.Doing.{Comes_up, Does, Forgets, Goes_down, Loses, Saves}
use Rattle.refinement.specs.Guards.{May, MayAct, MayAll, MayChange}
use Rattle.refinement.specs.Steps.{IsCut, disk_rules}
use Rattle.refinement.specs.Ties.{Delivered, setting_of}
use Rattle.refinement.specs.Whole.{Stands}
use Rattle.schedule_text.specs.declared.event.Event.{Event}
use Rattle.status_report.specs.declared.entry.Entry.{Entry}
use Rattle.status_report.specs.declared.entry.Entry.TheVariants as entry
use Rattle.status_report.specs.declared.node_entry.DownCause.{DownCause}
use Rattle.status_report.specs.declared.node_entry.DownCause.TheVariants as cause
use Rattle.status_report.specs.declared.node_entry.NodeEntry.TheVariants as note
use Rattle.wire.specs.declared.message.Message.{Message}
use Rattle.run_history.proofs.Idle.{passing_append}
use Rattle.run_history.proofs.LineSteps.{doings_small}
use Rattle.run_history.proofs.Lists.{both, second}
use Rattle.run_history.proofs.Ordinary.{GivesAside, IsAside}
use Rattle.run_history.proofs.Small.{AllSmall, IsSmall, IsSmallAct}
use Rattle.run_history.proofs.UnderWay.{passing_under}
use Rattle.run_history.specs.Scenes.{Scene, passing}
use Rattle.run_downs.proofs.Outputs.{first_steady, last_steady}
use Rattle.run_downs.proofs.Packets.{IsNoPacket, no_packets}
use Rattle.run_downs.proofs.Proposed.{IsNoStopCause}
use Rattle.run_downs.proofs.Rules.{IsNoStop, NoStops}
use Rattle.run_downs.specs.Calls.{AllSteady, IsSteady}
use Rattle.run_attempts.proofs.endings.Stands.{IsMere, act_stands, change_stands}
use Rattle.run_attempts.specs.endings.Laws.{epoch_of}
use Rattle.run_outcomes.specs.saves.Kept.{AllHere, AllLeave, IsOnWay, LeavesWay, LeavesWayOut, OnWay}
use Rattle.run_outcomes.specs.saves.Courses.{IsTried}
use Rattle.run_outcomes.proofs.saves.Here.{none_here, passing_came}
use Rattle.run_outcomes.proofs.saves.Trying.{AllTried, Answers, IsLast, TriesAct, message_tries, under_tried}
use Rattle.run_outcomes.proofs.saves.Ways.{on_attempts, still_on}

-- ---- outputs

one_steady : (o : Output) → IsSteady o → IsNoStop o
one_steady (Tells (entry.Node m (note.Down why))) h = absurd h
one_steady _ h = tt

pub steady_no_stop : (os : List Output) → AllSteady os → NoStops os
steady_no_stop [] h = tt
steady_no_stop (o ∷ os) h = (one_steady o h.0, steady_no_stop os h.1)

one_leaves : (o : Output) → LeavesWayOut o → IsNoStop o
one_leaves (Tells (entry.Node m (note.Down why))) h = absurd h
one_leaves _ h = tt

pub leaves_no_stop : (os : List Output) → AllLeave os → NoStops os
leaves_no_stop [] h = tt
leaves_no_stop (o ∷ os) h = (one_leaves o h.0, leaves_no_stop os h.1)

aside_leaves : (e : Entry) → IsAside e → LeavesWay e
aside_leaves (entry.Attempt e) h = absurd h
aside_leaves (entry.Start e) h = absurd h
aside_leaves (entry.Node n e) h = absurd h
aside_leaves _ h = tt

pub given_leaves : (os : List Output) → AllByRecursion GivesAside os → AllLeave os
given_leaves [] h = tt
given_leaves (Tells e ∷ os) h = (aside_leaves e h.0, given_leaves os h.1)
given_leaves (Sends to b ∷ os) h = (tt, given_leaves os h.1)

-- ---- what is so of the node after a small step, and of the lines

abbrev So : Setting → ℕ → Node → List Moment → Type 0
So S n node ms = AllHere S ms × IsOnWay n ms node

-- an act that neither ends the attempt nor changes the record
plain_one : (S : Setting) (c : Cluster) (n : ℕ) (told : Delivered) (x : UpNode) (a : Act) (s : Scene) → IsMere a → AllLeave (said c n x a) → MayAct c n told x a → IsOnWay n s.moments (Up x) → AllHere S s.moments
    → So S n (Up (acted c n x a)) (passing n (said c n x a) s).moments
plain_one S c n told x a s mere leaves may on so = (
  none_here S n (said c n x a) s (leaves_no_stop (said c n x a) leaves) so,
  subst (OnWay n (passing n (said c n x a) s).moments) (sym (act_stands c n told x a mere may).attempt) (still_on n n (said c n x a) s (epoch_of x.attempt) leaves on),
)

pub made_lines : (c : Cluster) (n : ℕ) (x : UpNode) (change : Change) → NoStops (first_lines n change ++ last_lines c n x change)
made_lines c n x change =
    both IsNoStop (first_lines n change) (last_lines c n x change) (steady_no_stop (first_lines n change) (first_steady n change)) (steady_no_stop (last_lines c n x change) (last_steady c n x change))

made_one : (S : Setting) (c : Cluster) (n : ℕ) (told : Delivered) (x : UpNode) (change : Change) (s : Scene) → IsTried change → MayChange c n told x change → IsOnWay n s.moments (Up x) → AllHere S s.moments
    → So S n (Up (changed c n x change)) (passing n (first_lines n change ++ last_lines c n x change) s).moments
made_one S c n told x (Counts a k st i) s tried may on so =
    let change : Change = Counts a k st i in
    let os : List Output = first_lines n change ++ last_lines c n x change in (
      none_here S n os s (made_lines c n x change) so,
      subst (OnWay n (passing n os s).moments) (sym (change_stands c n told x change tt may).attempt) (still_on n n os s (epoch_of x.attempt) (tt, tt) on),
    )
made_one S c n told x (Starts a k st) s tried may on so =
    let change : Change = Starts a k st in (none_here S n (first_lines n change ++ last_lines c n x change) s (made_lines c n x change) so, tt)
made_one S c n told x _ s tried may on so = absurd tried

act_one : (S : Setting) (c : Cluster) (n : ℕ) (told : Delivered) (x : UpNode) (a : Act) (s : Scene) → TriesAct IsTried a → MayAct c n told x a → IsSmallAct a → IsOnWay n s.moments (Up x) → AllHere S s.moments
    → So S n (Up (acted c n x a)) (passing n (said c n x a) s).moments
act_one S c n told x (Ends a e) s tries may small on so = ((tt, so), tt)
act_one S c n told x (Makes change) s tries may small on so = made_one S c n told x change s tries may.0 on so
act_one S c n told x (Dates now) s tries may small on so = plain_one S c n told x (Dates now) s tt tt may on so
act_one S c n told x (Hears from b) s tries may small on so = plain_one S c n told x (Hears from b) s tt tt may on so
act_one S c n told x (Goes_on a k) s tries may small on so = plain_one S c n told x (Goes_on a k) s tt tt may on so
act_one S c n told x (Queues a d kind) s tries may small on so = plain_one S c n told x (Queues a d kind) s tt tt may on so
act_one S c n told x (Writes to b) s tries may small on so = plain_one S c n told x (Writes to b) s tt (tt, tt) may on so
act_one S c n told x (Gives os) s tries may small on so = plain_one S c n told x (Gives os) s tt (given_leaves os small) may on so
act_one S c n told x (Minds q p) s tries may small on so = plain_one S c n told x (Minds q p) s tt tt may on so
act_one S c n told x _ s tries may small on so = absurd tries

saved_one : (S : Setting) (c : Cluster) (n : ℕ) (told : Delivered) (x : UpNode) (change : Change) (s : Scene) → IsTried change → MayChange c n told x change → IsOnWay n s.moments (Up x) → AllHere S s.moments
    → So S n (Up (changed c n x change)) (passing n (saved_in c n change (Up x)) s).moments
saved_one S c n told x (Counts a k st i) s tried may on so =
    let change : Change = Counts a k st i in
    let os : List Output = saved_in c n change (Up x) in (
      none_here S n os s (tt, (tt, tt)) so,
      subst (OnWay n (passing n os s).moments) (sym (change_stands c n told x change tt may).attempt) (still_on n n os s (epoch_of x.attempt) (tt, (tt, tt)) on),
    )
saved_one S c n told x (Starts a k st) s tried may on so =
    let change : Change = Starts a k st in (none_here S n (saved_in c n change (Up x)) s (tt, steady_no_stop (last_lines c n x change) (last_steady c n x change)) so, tt)
saved_one S c n told x _ s tried may on so = absurd tried

-- ---- a save that is lost

-- the attempt of the node is under way
pub tried_attempts : (c : Cluster) (n : ℕ) (told : Delivered) (x : UpNode) (change : Change) (ms : List Moment) → IsTried change → MayChange c n told x change → IsOnWay n ms (Up x) → attempts n (attempt_of n ms) ms ≡ true
tried_attempts c n told x (Counts a k st i) ms tried may on = on_attempts n a.plan.epoch ms (subst (OnWay n ms) (ap epoch_of may.0) on)
tried_attempts c n told x (Starts a k st) ms tried may on = on_attempts n a.plan.epoch ms (subst (OnWay n ms) (ap epoch_of may.0) on)
tried_attempts c n told x _ ms tried may on = absurd tried

gone_line : (S : Setting) (n : ℕ) (why : DownCause) (ms : List Moment) → may_save S n ms ≡ true → AllHere S ms → AllHere S (Told (entry.Node n (note.Down why)) ∷ ms)
gone_line S n cause.Stopped ms may so = ((λ left. may), so)
gone_line S n _ ms may so = (tt, so)

other_gone : (S : Setting) (n : ℕ) (why : DownCause) (ms : List Moment) → IsNoStopCause why → AllHere S ms → AllHere S (Told (entry.Node n (note.Down why)) ∷ ms)
other_gone S n cause.Stopped ms other so = absurd other
other_gone S n _ ms other so = (tt, so)

lost_one : (S : Setting) (n : ℕ) (change : Change) (why : DownCause) (s : Scene) → IsTried change → may_save S n s.moments ≡ true → AllHere S s.moments
    → AllHere S (passing n (first_lines n change ++ Tells (entry.Node n (note.Down why)) ∷ []) s).moments
lost_one S n (Counts a k st i) why s tried may so = gone_line S n why s.moments may so
lost_one S n (Starts a k st) why s tried may so = gone_line S n why s.moments may so
lost_one S n _ why s tried may so = absurd tried

-- ---- one small step after another

-- while an attempt of node n is under way the rules let it save in this event, at this letter
abbrev pub IsRule : Setting → ℕ → Option Event → Option Letter → Type 0
IsRule S n e a = (ms : List Moment) → under_way ms ≡ e → arrived ms ≡ a → attempts n (attempt_of n ms) ms ≡ true → may_save S n ms ≡ true

doing_one : (S : Setting) (c : Cluster) (n : ℕ) (told : Delivered) (node : Node) (disk : NodeRecord) (d : Doing) (ds : List Doing) (s : Scene) → May c n told (site node disk) d → IsSmall d → AllTried (d ∷ ds)
    → IsOnWay n s.moments node → (attempts n (attempt_of n s.moments) s.moments ≡ true → may_save S n s.moments ≡ true) → AllHere S s.moments
    → So S n (effect c n (site node disk) d).node (passing n (gives c n (site node disk) d) s).moments
doing_one S c n told Down disk (Does a) ds s may small tried on rule so = absurd may
doing_one S c n told (Up x) disk (Does a) ds s may small tried on rule so = act_one S c n told x a s tried.0 may small on so
doing_one S c n told Down disk (Saves change) ds s may small tried on rule so = absurd may
doing_one S c n told (Up x) disk (Saves change) ds s may small tried on rule so = saved_one S c n told x change s tried.0 may on so
doing_one S c n told Down disk (Loses change why) ds s may small tried on rule so = absurd may
doing_one S c n told (Up x) disk (Loses change why) ds s may small tried on rule so =
    (lost_one S n change why s tried.0 (rule (tried_attempts c n told x change s.moments tried.0 may on)) so, tt)
doing_one S c n told Down disk (Forgets change why) ds s may small tried on rule so = absurd may
doing_one S c n told (Up x) disk (Forgets change why) ds s may small tried on rule so =
    (lost_one S n change why s tried.0 (rule (tried_attempts c n told x change s.moments tried.0 may on)) so, tt)
doing_one S c n told node disk (Goes_down why) ds s may small tried on rule so = (other_gone S n why s.moments tried.0 so, tt)
doing_one S c n told node disk Comes_up ds s may small tried on rule so = absurd tried

pub last_tried : (ds : List Doing) → IsLast ds → AllTried ds
last_tried [] h = tt
last_tried (d ∷ ds) h = absurd h

pub then_tried : (d : Doing) (ds : List Doing) → AllTried (d ∷ ds) → AllTried ds
then_tried (Does a) ds h = h.1
then_tried (Saves change) ds h = h.1
then_tried (Loses change why) ds h = last_tried ds h.1
then_tried (Forgets change why) ds h = last_tried ds h.1
then_tried (Goes_down why) ds h = last_tried ds h.1
then_tried Comes_up ds h = absurd h

before_more : (os more : List Output) → AllByRecursion IsNoPacket (os ++ more) → AllByRecursion IsNoPacket os
before_more [] more h = tt
before_more (o ∷ os) more h = (h.0, before_more os more h.1)

all_here : (S : Setting) (c : Cluster) (n : ℕ) (told : Delivered) (x : Site) (ds : List Doing) (s : Scene) (e : Option Event) (a : Option Letter) → MayAll c n told x ds → AllSmall ds → AllTried ds
    → AllByRecursion IsNoPacket (given_all c n x ds) → IsOnWay n s.moments x.node → IsRule S n e a → under_way s.moments ≡ e → arrived s.moments ≡ a → AllHere S s.moments
    → AllHere S (passing n (given_all c n x ds) s).moments
all_here S c n told x [] s e a may small tried packets on rule is came so = so
all_here S c n told x (d ∷ ds) s e a may small tried packets on rule is came so =
    let os : List Output = gives c n x d in
    let y : Site = effect c n x d in
    let more : List Output = given_all c n y ds in
    let t : Scene = passing n os s in
    let first : So S n y.node t.moments = doing_one S c n told x.node x.disk d ds s may.0 small.0 tried on (rule s.moments is came) so in
    subst (λ (z : Scene). AllHere S z.moments) (sym (passing_append n os more s))
    (all_here S c n told y ds t e a may.1 small.1 (then_tried d ds tried) (second IsNoPacket os more packets) first.1 rule (passing_under n os s ∙ is)
    (passing_came n os s (before_more os more packets) ∙ came) first.0)

-- ---- the step

pub answer_here : (S : Setting) (c : Cluster) (M : Memberships) (n now : ℕ) (ends : method.Outcome) (from : ℕ) (m : Message) (x : UpNode) (disk : DiskState) (s : Scene) (e : Option Event) (a : Option Letter) → n ≤ 32 → All IsDevice c.attached
    → Holds (setting_of c) M → Stands c M n (Up x) disk.kept → Answers m.body → IsOnWay n s.moments (Up x) → IsRule S n e a → under_way s.moments ≡ e → arrived s.moments ≡ a → AllHere S s.moments
    → AllHere S (passing n (stepped disk_rules c n now ends (Up x) disk (input.Packet from m)).given s).moments
answer_here S c M n now ends from m x disk s e a low fits holds stands answers on rule is came so =
    let i : Input = input.Packet from m in
    let o : Outcome DiskState = stepped disk_rules c n now ends (Up x) disk i in
    let cut : IsCut disk_rules c n now ends (Up x) disk i [] o = steps_are_cut disk_rules disks_keep_rules c n now ends (Up x) disk i in
    let packets : AllByRecursion IsNoPacket o.given = no_packets c n now ends (Up x) disk i in
    subst (λ os. AllHere S (passing n os s).moments) cut.comes.given
    (all_here S c n (delivered_by i) (site (Up x) disk.kept) (doings c n now ends cut.replies i (Up x)) s e a (step_may c M n now ends (Up x) disk.kept i cut.replies low fits holds stands.tied stands.joins)
    (doings_small c n now ends cut.replies i (Up x) disk.kept) (under_tried cut.replies (course_at c n now ends x i) (message_tries c n now ends x from m answers))
    (subst (AllByRecursion IsNoPacket) (sym cut.comes.given) packets) on rule is came so)
