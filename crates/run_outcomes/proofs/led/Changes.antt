-- Each change of a record: the line of a node's own install comes while it leads.
use Rattle.std.specs.Prelude.{ℕ, ◌≡◌, ◌≤◌, ◌==◌, ◌++◌, if◌then◌else◌, Bool, true, false, List, ◌∷◌, Option, None, Some}
use Rattle.std.proofs.Common.{sym, ap, subst, ◌∙◌, inl, inr}
use Rattle.attempt_laws.proofs.Goes.{chosen_reached, goes_by_call}
use Rattle.attempt_laws.proofs.Stays.{plan_begins, plan_stays}
use Rattle.cl_base.specs.declared.header.Header.{Header}
use Rattle.cmm_attempt.proofs.Basics.{false_true, none_some}
use Rattle.cmm_attempt.specs.Attempts.{AttemptState, install_in}
use Rattle.cmm_attempt.specs.Calls.{Call, turn}
use Rattle.cmm_attempt.specs.declared.phase.Phase.TheVariants.{Installing}
use Rattle.cmm_attempt.specs.declared.plan.Plan.{Plan}
use Rattle.cmm_member.specs.Nodes.{NodeState}
use Rattle.cmm_member.specs.Records.{NodeRecord}
use Rattle.history.specs.Member as member
use Rattle.history.specs.Member.{in_collect, promised_to}
use Rattle.history.specs.Moment.{Moment}
use Rattle.history.specs.Seizing.{is_number}
use Rattle.history.specs.Setting.{coordinator}
use Rattle.history.specs.Trace.{saved}
use Rattle.history.specs.UnderWay.{is_under_way}
use Rattle.membership_machine.specs.State.{Memberships}
use Rattle.node_model.specs.Attempts.{own_promise}
use Rattle.node_model.specs.Members.{rested_by}
use Rattle.node_model.specs.Seats.{promising, session_of, state_of}
use Rattle.node_model.specs.declared.cluster.Cluster.{Cluster}
use Rattle.node_model.specs.declared.node.Node.{Node}
use Rattle.node_model.specs.declared.node.Node.TheVariants.{Up}
use Rattle.node_model.specs.declared.node.UpNode.{UpNode}
use Rattle.node_model.specs.declared.output.Output.{Output}
use Rattle.node_model.specs.declared.seat.Seat.{Seat}
use Rattle.refinement.proofs.Attempts.{install_epoch, may_be_called}
use Rattle.refinement.specs.Doings.{Change, changed, first_lines, last_lines}
use Rattle.refinement.specs.Doings.Change.{Acks, Admits, Commits, Counts, Distrusts, Installs, Leads, Prepares, Promises, Proposes, Sits, Starts}
use Rattle.refinement.specs.Guards.{MayChange}
use Rattle.refinement.specs.Ties.{Delivered}
use Rattle.run_attempts.proofs.endings.Stands.{change_stands}
use Rattle.run_attempts.specs.endings.Laws.{epoch_of}
use Rattle.run_history.proofs.Changes.{At, at_attempt}
use Rattle.run_history.proofs.Lists.{both}
use Rattle.run_history.specs.Guards.{MadeAt}
use Rattle.run_history.specs.Scenes.{Scene, passing, telling}
use Rattle.run_messages.proofs.records.Joins.{install_other}
use Rattle.run_seizings.specs.Seized.{AttemptSo}
use Rattle.run_seizings.specs.Sites.{InHand, UpSo}
use Rattle.run_seizings.proofs.Asked.{SavesSo}
use Rattle.run_seizings.proofs.Calls.{attempt_of as attempt_so}
use Rattle.run_seizings.proofs.Changes.{NoCollect, in_no_collect, mid}
use Rattle.run_seizings.proofs.Promising.{same_so}
use Rattle.status_report.specs.declared.attempt_entry.AttemptEntry.TheVariants as attempt_entry
use Rattle.status_report.specs.declared.entry.Entry.TheVariants as entry
use Rattle.status_report.specs.declared.node_entry.NodeEntry.TheVariants as note
use Rattle.wire.specs.declared.message.Install.{Install}
use Rattle.run_outcomes.specs.counts.Ends.{Last, last_by_change}
use Rattle.run_outcomes.specs.saves.Kept.{IsOnWay, OnWay}
use Rattle.run_outcomes.proofs.counts.Given.{call_ends_so}
use Rattle.run_outcomes.proofs.led.Calls.{LastFresh, own_session}
use Rattle.run_outcomes.proofs.led.Lines.{AllLed, AllStill, IsMild, IsStill, begun_on, passing_led, still_leaves, still_mild}
use Rattle.run_outcomes.proofs.led.Outputs.{IsCalm, first_still, last_mild, last_still, unknown_still}
use Rattle.run_outcomes.proofs.saves.Ways.{still_on}
use Rattle.run_outcomes.proofs.told_tasks.Quiet.{off_second}

-- all lines so far are led, the attempt of the node is under way, and what its last call ends is not installed
pub record Led (n : ℕ) (node : Node) (last : Last) (ms : List Moment) : Type 0 where
  pub lines : AllLed ms
  pub way : IsOnWay n ms node
  pub fresh : LastFresh n ms last

-- ---- a change that neither promises, nor installs, nor starts

calm_fresh : (n : ℕ) (ms : List Moment) (last : Last) (change : Change) → IsCalm change → LastFresh n ms (last_by_change last change)
calm_fresh n ms last (Counts a k r i) calm = absurd calm
calm_fresh n ms last (Starts a k r) calm = absurd calm
calm_fresh n ms last _ calm = tt

calm_epoch : (c : Cluster) (n : ℕ) (told : Delivered) (x : UpNode) (change : Change) → IsCalm change → MayChange c n told x change → epoch_of (changed c n x change).attempt ≡ epoch_of x.attempt
calm_epoch c n told x (Promises p) calm may = absurd calm
calm_epoch c n told x (Leads p members) calm may = absurd calm
calm_epoch c n told x (Counts a k r i) calm may = absurd calm
calm_epoch c n told x (Installs r i) calm may = absurd calm
calm_epoch c n told x (Starts a k r) calm may = absurd calm
calm_epoch c n told x (Sits r e) calm may = (change_stands c n told x (Sits r e) tt may).attempt
calm_epoch c n told x (Distrusts d) calm may = (change_stands c n told x (Distrusts d) tt may).attempt
calm_epoch c n told x (Admits at command a d) calm may = (change_stands c n told x (Admits at command a d) tt may).attempt
calm_epoch c n told x (Proposes r p text) calm may = (change_stands c n told x (Proposes r p text) tt may).attempt
calm_epoch c n told x (Acks r p q left text) calm may = (change_stands c n told x (Acks r p q left text) tt may).attempt
calm_epoch c n told x (Prepares r text) calm may = (change_stands c n told x (Prepares r text) tt may).attempt
calm_epoch c n told x (Commits r) calm may = (change_stands c n told x (Commits r) tt may).attempt

-- its lines, with or without that it was saved
abbrev pub lines_of : Cluster → ℕ → UpNode → Change → Bool → List Output
lines_of c n x change b = first_lines n change ++ (mid b n ++ last_lines c n x change)

mid_still : (n : ℕ) (b : Bool) → AllStill (mid b n)
mid_still n true = (tt, tt)
mid_still n false = tt

calm_led : (c : Cluster) (n : ℕ) (told : Delivered) (x : UpNode) (change : Change) (b : Bool) (last : Last) (s : Scene) → IsCalm change → MayChange c n told x change → Led n (Up x) last s.moments
    → Led n (Up (changed c n x change)) (last_by_change last change) (passing n (lines_of c n x change b) s).moments
calm_led c n told x change b last s calm may k =
    let os : List Output = lines_of c n x change b in
    let still : AllStill os =
    both IsStill (first_lines n change) (mid b n ++ last_lines c n x change) (first_still n change) (both IsStill (mid b n) (last_lines c n x change) (mid_still n b) (last_still c n x change calm)) in
    record {
      lines = passing_led n os s (still_mild os still) k.lines;
      way = subst (OnWay n (passing n os s).moments) (sym (calm_epoch c n told x change calm may)) (still_on n n os s (epoch_of x.attempt) (still_leaves os still) k.way);
      fresh = calm_fresh n (passing n os s).moments last change calm;
    }

-- ---- a start, and a promise

starts_led : (c : Cluster) (n : ℕ) (told : Delivered) (x : UpNode) (a : AttemptState) (q : Call) (r : NodeState) (b : Bool) (last : Last) (s : Scene) → MayChange c n told x (Starts a q r) → Led n (Up x) last s.moments
    → Led n (Up (changed c n x (Starts a q r))) (last_by_change last (Starts a q r)) (passing n (lines_of c n x (Starts a q r) b) s).moments
starts_led c n told x a q r b last s may k = record {
  lines = passing_led n (lines_of c n x (Starts a q r) b) s
      (both IsMild (mid b n) (last_lines c n x (Starts a q r)) (still_mild (mid b n) (mid_still n b)) (last_mild c n x (Starts a q r) tt)) k.lines;
  way = tt;
  fresh = λ why is own. absurd (false_true (sym (call_ends_so a q why is).starts ∙ may.3));
}

rested_way : (n p : ℕ) (x : UpNode) (ms : List Moment) (o : Option AttemptState) → IsOnWay n ms (Up (rested_by (promising x p) o))
rested_way n p x ms None = tt
rested_way n p x ms (Some a) = tt

promises_led : (c : Cluster) (n p : ℕ) (x : UpNode) (last : Last) (s : Scene) → Led n (Up x) last s.moments
    → Led n (Up (changed c n x (Promises p))) None (passing n (lines_of c n x (Promises p) true) s).moments
promises_led c n p x last s k = record {
  lines = passing_led n (lines_of c n x (Promises p) true) s (tt, last_mild c n x (Promises p) tt) k.lines;
  way = rested_way n p x (passing n (lines_of c n x (Promises p) true) s).moments x.attempt;
  fresh = tt;
}

-- its own attempt begins
leads_led : (c : Cluster) (n : ℕ) (told : Delivered) (p members : ℕ) (x : UpNode) (last : Last) (s : Scene) → MayChange c n told x (Leads p members) → Led n (Up x) last s.moments
    → Led n (Up (changed c n x (Leads p members))) None (passing n (lines_of c n x (Leads p members) true) s).moments
leads_led c n told p members x last s may k =
    let t : Scene = telling (entry.Attempt (attempt_entry.Begun p members)) (telling (entry.Node n note.Saved) s) in
    let y : UpNode = record (promising x p) { greatest = p } in
    let own : coordinator p ≡ n = may.1 in
    record {
      lines = passing_led n (lines_of c n x (Leads p members) true) s (tt, last_mild c n x (Leads p members) tt) k.lines;
      way = subst (OnWay n (passing n (lines_of c n x (Leads p members) true) s).moments) (ap Some (sym (plan_begins p members (own_promise n y p) c.attached c.id).of_epoch))
          (still_on n n _ t (Some p) (still_leaves _ (unknown_still n x.requests.waiting)) (own, begun_on p members (telling (entry.Node n note.Saved) s).moments));
      fresh = tt;
    }

-- ---- an install

-- in the event of no Collect a save leaves the session
saved_session : (h : Header) (ms : List Moment) (n : ℕ) (told : Delivered) → NoCollect told → InHand h ms n told → member.session_of n (saved n ∷ ms) ≡ member.session_of n ms
saved_session h ms n told calm hand =
    ap (λ b. if b then promised_to ms else member.session_of n ms) (off_second (n == n) (in_collect n ms) (in_no_collect h ms n told calm hand))

no_collect : (told : Delivered) (a : AttemptState) (q : Call) (r : NodeState) (i : Install) → SavesSo told (Counts a q r i) → NoCollect told
no_collect told a q r i (inl is) = absurd is
no_collect told a q r i (inr calm) = calm

counts_led : (h : Header) (c : Cluster) (M : Memberships) (n : ℕ) (told : Delivered) (disk : NodeRecord) (x : UpNode) (a : AttemptState) (q : Call) (r : NodeState) (i : Install) (last : Last) (s : Scene)
    → At c M n told disk x → MayChange c n told x (Counts a q r i) → NoCollect told → InHand h s.moments n told → UpSo h s.moments n x → Led n (Up x) last s.moments
    → Led n (Up (changed c n x (Counts a q r i))) (Some (a, q)) (passing n (lines_of c n x (Counts a q r i) true) s).moments
counts_led h c M n told disk x a q r i last s at may calm hand up k =
    let ms : List Moment = s.moments in
    let so : AttemptSo h ms n (session_of x) a = attempt_so h ms n (session_of x) x.attempt a may.0 up.attempt in
    let gives_it : ((turn a q).after.phase ≡ Installing) × (i ≡ install_in (turn a q).after) =
    at_attempt c M n told disk x a (((turn a q).after.phase ≡ Installing) × (i ≡ install_in (turn a q).after)) at may.0
    (λ z shows co. (goes_by_call a q (may_be_called c told a q may.2) (chosen_reached a co.reached)).install i may.3) in
    let epoch : i.epoch ≡ a.plan.epoch =
    ap (λ (z : Install). z.epoch) gives_it.1 ∙ (install_epoch (turn a q).after ∙ ap (λ (z : Plan). z.epoch) (plan_stays a q (may_be_called c told a q may.2))) in
    let on : OnWay n ms (Some a.plan.epoch) = subst (λ o. OnWay n ms (epoch_of o)) may.0 k.way in
    let session : is_number i.epoch (member.session_of n (saved n ∷ ms)) ≡ true =
    ap (is_number i.epoch) (saved_session h ms n told calm hand ∙ own_session h ms n x a up so) ∙ same_so a.plan.epoch i.epoch (sym epoch) in
    let under : is_under_way i.epoch (saved n ∷ ms) ≡ true = ap (λ e. is_under_way e ms) epoch ∙ on.1 in
    record {
      lines = ((tt, (session, λ own. under)), ((tt, tt), k.lines));
      way = subst (OnWay n (passing n (lines_of c n x (Counts a q r i) true) s).moments) (sym (change_stands c n told x (Counts a q r i) tt may).attempt)
          (still_on n n (lines_of c n x (Counts a q r i) true) s (epoch_of x.attempt) (tt, (tt, tt)) k.way);
      fresh = λ why is own. absurd (none_some i (sym (call_ends_so a q why is).installs ∙ may.3));
    }

installs_calm : (told : Delivered) (r : NodeState) (i : Install) → SavesSo told (Installs r i) → NoCollect told
installs_calm told r i (inl is) = absurd is
installs_calm told r i (inr calm) = calm

installs_led : (h : Header) (c : Cluster) (M : Memberships) (n : ℕ) (told : Delivered) (disk : NodeRecord) (x : UpNode) (r : NodeState) (i : Install) (last : Last) (s : Scene) → At c M n told disk x → MayChange c n told x (Installs r i)
    → NoCollect told → InHand h s.moments n told → UpSo h s.moments n x → Led n (Up x) last s.moments
    → Led n (Up (changed c n x (Installs r i))) None (passing n (lines_of c n x (Installs r i) true) s).moments
installs_led h c M n told disk x r i last s at may calm hand up k =
    let ms : List Moment = s.moments in
    let epoch : session_of x ≡ i.epoch = ap (λ (seat : Seat). (state_of seat).session) may.0 ∙ may.3 in
    let session : is_number i.epoch (member.session_of n (saved n ∷ ms)) ≡ true =
    ap (is_number i.epoch) (saved_session h ms n told calm hand ∙ up.session (subst (λ q. 1 ≤ q) (sym epoch) may.2)) ∙ same_so (session_of x) i.epoch epoch in
    record {
      lines = ((tt, (session, λ own. absurd (install_other c M n told disk x r i at may own))), ((tt, tt), k.lines));
      way = subst (OnWay n (passing n (lines_of c n x (Installs r i) true) s).moments) (sym (change_stands c n told x (Installs r i) tt may).attempt)
          (still_on n n (lines_of c n x (Installs r i) true) s (epoch_of x.attempt) (tt, (tt, tt)) k.way);
      fresh = tt;
    }

-- ---- saved, or made in memory alone

pub saves_led : (h : Header) (c : Cluster) (M : Memberships) (n : ℕ) (told : Delivered) (disk : NodeRecord) (x : UpNode) (change : Change) (last : Last) (s : Scene) → At c M n told disk x → MayChange c n told x change
    → SavesSo told change → InHand h s.moments n told → UpSo h s.moments n x → Led n (Up x) last s.moments
    → Led n (Up (changed c n x change)) (last_by_change last change) (passing n (lines_of c n x change true) s).moments
saves_led h c M n told disk x (Promises p) last s at may guard hand seizing k = promises_led c n p x last s k
saves_led h c M n told disk x (Leads p members) last s at may guard hand seizing k = leads_led c n told p members x last s may k
saves_led h c M n told disk x (Counts a q r i) last s at may guard hand seizing k = counts_led h c M n told disk x a q r i last s at may (no_collect told a q r i guard) hand seizing k
saves_led h c M n told disk x (Installs r i) last s at may guard hand seizing k = installs_led h c M n told disk x r i last s at may (installs_calm told r i guard) hand seizing k
saves_led h c M n told disk x (Starts a q r) last s at may guard hand seizing k = starts_led c n told x a q r true last s may k
saves_led h c M n told disk x (Sits r e) last s at may guard hand seizing k = calm_led c n told x (Sits r e) true last s tt may k
saves_led h c M n told disk x (Distrusts d) last s at may guard hand seizing k = calm_led c n told x (Distrusts d) true last s tt may k
saves_led h c M n told disk x (Admits on command a d) last s at may guard hand seizing k = calm_led c n told x (Admits on command a d) true last s tt may k
saves_led h c M n told disk x (Proposes r p text) last s at may guard hand seizing k = calm_led c n told x (Proposes r p text) true last s tt may k
saves_led h c M n told disk x (Acks r p q left text) last s at may guard hand seizing k = calm_led c n told x (Acks r p q left text) true last s tt may k
saves_led h c M n told disk x (Prepares r text) last s at may guard hand seizing k = calm_led c n told x (Prepares r text) true last s tt may k
saves_led h c M n told disk x (Commits r) last s at may guard hand seizing k = calm_led c n told x (Commits r) true last s tt may k

pub makes_led : (c : Cluster) (n : ℕ) (told : Delivered) (x : UpNode) (change : Change) (last : Last) (s : Scene) → MadeAt change → MayChange c n told x change → Led n (Up x) last s.moments
    → Led n (Up (changed c n x change)) (last_by_change last change) (passing n (lines_of c n x change false) s).moments
makes_led c n told x (Starts a q r) last s made may k = starts_led c n told x a q r false last s may k
makes_led c n told x (Sits r e) last s made may k = calm_led c n told x (Sits r e) false last s tt may k
makes_led c n told x _ last s made may k = absurd made
