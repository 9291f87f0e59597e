-- The tie gives the facts that a node's steps suppose, and small steps keep those of its tasks.
use Rattle.std.specs.Prelude.{ℕ, ◌≡◌, ◌<◌, ◌≤◌, true, false, List, [], ◌∷◌, All, Option, None, Some}
use Rattle.std.proofs.Common.{sym, ap, subst, ◌∙◌}
use Rattle.ccr_commit.specs.Entries.{all_committed, with_next}
use Rattle.cl_base.specs.Sets.{has, set_without}
use Rattle.cl_base.specs.declared.method.Outcome as method
use Rattle.cmm_attempt.specs.Attempts.{AttemptState}
use Rattle.cmm_attempt.specs.Calls.{IsDevice, May as MayTake, turn}
use Rattle.cmm_attempt.proofs.Basics.{false_true, if_either, none_some}
use Rattle.cmm_member.specs.Nodes.{with_entries, with_joined, with_valid}
use Rattle.cmm_member.specs.Records.{NodeRecord}
use Rattle.membership_machine.specs.Invariant.{Holds}
use Rattle.membership_machine.specs.State.{Memberships}
use Rattle.attempt_laws.proofs.Goes.{chosen_reached, goes_by_call}
use Rattle.attempt_laws.proofs.Stays.{plan_stays}
use Rattle.node_model.specs.declared.cluster.Cluster.{Cluster}
use Rattle.node_model.specs.declared.input.Input.{Input}
use Rattle.node_model.specs.declared.input.Input.TheVariants.{Boot, Crash, Tick, Packet, CommandDue, Answered, Wrote, Commanded, Reported, Client}
use Rattle.node_model.specs.declared.node.Node.{Node}
use Rattle.node_model.specs.declared.node.Node.TheVariants.{Down, Up}
use Rattle.node_model.specs.declared.node.UpNode.{UpNode}
use Rattle.node_model.specs.declared.presidency.Presidency.{Presidency}
use Rattle.node_model.specs.declared.seat.Seat.{Seat}
use Rattle.node_model.specs.declared.seat.Seat.TheVariants.{Forming, Member}
use Rattle.node_model.specs.Members.{rested_by}
use Rattle.node_model.specs.Seats.{installed_of, promising, record_of, state_of}
use Rattle.node_model.specs.Steps.{DiskRules, Outcome, stepped}
use Rattle.proposals.specs.declared.arrived.Proposed.{Proposed}
use Rattle.refinement.specs.Doings.{Act, Change, Doing, Site, acted, after_all, changed, effect, given_all, gives, site}
use Rattle.refinement.specs.Doings.Act.{Accepts, Dates, Ends, Gives, Goes_on, Hears, Makes, Minds, Notes, Queues, Spreads, Stores, Takes, Ticks, Waits, Works, Writes}
use Rattle.refinement.specs.Doings.Change.{Acks, Admits, Commits, Counts, Distrusts, Installs, Leads, Prepares, Promises, Proposes, Sits, Starts}
use Rattle.refinement.specs.Doings.Doing.{Comes_up, Does, Forgets, Goes_down, Loses, Saves}
use Rattle.refinement.specs.Courses.{Reply}
use Rattle.refinement.specs.Courses.Reply.{Done, Lost_new, Lost_old}
use Rattle.refinement.specs.Cuts.{boot_doings, course_at, doings}
use Rattle.refinement.specs.Events.{of_doing, of_doings}
use Rattle.refinement.specs.Facts.{AttemptFacts, Facts, JoinsFit, JoinsIn, OfMember, OfPresident, OfProposed, OfSeat}
use Rattle.refinement.specs.Guards.{May, MayAct, MayAll, MayChange}
use Rattle.refinement.specs.Steps.{IsCut, IsDisk}
use Rattle.refinement.specs.Ties.{AllTold, Coordinates, CountedIn, Delivered, GoesOn, Known, NodeTied, PresidentTied, ProposedTied, SeatTied, SiteTied, setting_of}
use Rattle.refinement.specs.Whole.{IsTrue, StepsGo}
use Rattle.refinement.proofs.Acts.{does_one}
use Rattle.refinement.proofs.Attempts.{install_epoch, may_be_called}
use Rattle.refinement.proofs.Changes.{Sees, sees}
use Rattle.refinement.proofs.Handlers.{delivered_by, joins_answered, joins_seize, step_may_go}
use Rattle.refinement.proofs.Texts.{state_with}
use Rattle.refinement.proofs.Installs.{seeks_before}
use Rattle.refinement.proofs.Replies.{steps_are_cut}
use Rattle.refinement.proofs.Runs.{does_all, may_under}
use Rattle.refinement.proofs.Ties.{known_stays}

attempt_facts : (c : Cluster) (M : Memberships) (n : ℕ) (disk : NodeRecord) (o : Option AttemptState) (seat : Seat) → Holds (setting_of c) M → SeatTied c M n disk o seat → OfSeat o seat
attempt_facts c M n disk None seat i h = tt
attempt_facts c M n disk (Some a) (Member s) i h = absurd (none_some a (sym h.2))
attempt_facts c M n disk (Some a) (Forming s) i h =
    let co : Coordinates c M n s a = h.2 in
    record {
      epoch = co.epoch;
      some = (i.epoch a.plan.epoch).tried_positive co.has.tried;
      reached = co.reached;
      before = λ b.
          let seeks : (M.node n).seeking ≡ true = seeks_before (M.node n).seeking a.phase b co.seeks in
          subst (λ q. s.saved.installed < q) (sym ((i.node n).seeking_session seeks) ∙ (h.0.session ∙ sym co.epoch))
          (subst (λ q. q < (M.node n).promised) (ap (λ r. r.installed) h.0.saved) ((i.node n).seeking_installs seeks));
      installed = λ is. (subst (CountedIn M s a) is co.counted).0;
    }

member_facts : (c : Cluster) (M : Memberships) (n : ℕ) (disk : NodeRecord) (o : Option AttemptState) (seat : Seat) → Holds (setting_of c) M → SeatTied c M n disk o seat → OfMember seat
member_facts c M n disk o (Forming s) i h = tt
member_facts c M n disk o (Member s) i h = (
  subst (λ q. 0 < q) h.0.session ((i.node n).member_sits h.0.member),
  sym h.0.session ∙ ((i.node n).member_installed h.0.member ∙ ap (λ r. r.installed) h.0.saved),
)

president_facts : (M : Memberships) (n : ℕ) (o : Option Presidency) (seat : Seat) → PresidentTied M n o seat → OfPresident o seat
president_facts M n None seat h = tt
president_facts M n (Some p) (Forming s) h = absurd h
president_facts M n (Some p) (Member s) h = by_proposed p.proposals.proposed h.proposed
  where
    by_proposed : (o : Option Proposed) → ProposedTied M n s o → OfProposed s o
    by_proposed None e = e
    by_proposed (Some q) e = e.0

pub facts_of : (c : Cluster) (M : Memberships) (n : ℕ) (disk : NodeRecord) (x : UpNode) → Holds (setting_of c) M → NodeTied c M n disk (Up x) → JoinsFit x → Facts x
facts_of c M n disk x i h joins =
    let e : Sees M n disk (state_of x.seat) = sees c M n disk x.attempt x.seat h.0 in
    record {
      attempt = attempt_facts c M n disk x.attempt x.seat i h.0;
      member = member_facts c M n disk x.attempt x.seat i h.0;
      order = subst (λ q. installed_of x ≤ q) e.promised (subst (λ q. q ≤ (M.node n).promised) (ap (λ r. r.installed) e.saved) (i.node n).installed);
      joins = joins;
      president = president_facts M n x.presidency x.seat h.1;
    }

-- The tasks.

none_to_join : (P : Type 0) → false ≡ true → P
none_to_join P h = absurd (false_true h)

rested_joins : (x : UpNode) (p : ℕ) (o : Option AttemptState) → JoinsFit (rested_by (promising x p) o)
rested_joins x p None h = absurd (false_true h)
rested_joins x p (Some a) h = absurd (false_true h)

joins_change : (c : Cluster) (n : ℕ) (told : Delivered) (x : UpNode) (ch : Change) → Facts x → MayChange c n told x ch → JoinsFit (changed c n x ch)
joins_change c n told x (Promises p) f may = rested_joins x p x.attempt
joins_change c n told x (Leads p members) f may = λ h. absurd (false_true h)
joins_change c n told x (Counts a k s i) f may =
    let g : AttemptFacts s a = subst (λ z. OfSeat (Some a) z) may.1 (subst (λ o. OfSeat o x.seat) may.0 f.attempt) in
    let take : MayTake a k = may_be_called c told a k may.2 in
    let number : i.epoch ≡ a.plan.epoch =
    ap (λ z. z.epoch) ((goes_by_call a k take (chosen_reached a g.reached)).install i may.3).1 ∙ (install_epoch (turn a k).after ∙ ap (λ p. p.epoch) (plan_stays a k take)) in
    λ h. (subst (λ q. 0 < q) g.epoch g.some, sym g.epoch ∙ sym number)
joins_change c n told x (Installs s i) f may = λ h. (subst (λ q. 0 < q) (sym may.3) may.2, may.3)
joins_change c n told x (Starts a k s) f may = λ h. subst (λ z. (0 < (state_of z).session) × ((state_of z).session ≡ (state_of z).saved.installed)) may.1 (f.joins h)
joins_change c n told x (Sits s e) f may = λ h. subst (λ z. (0 < (state_of z).session) × ((state_of z).session ≡ (state_of z).saved.installed)) may.0 (f.joins h)
joins_change c n told x (Distrusts d) f may =
    λ h. subst (λ z. (0 < z.session) × (z.session ≡ z.saved.installed)) (sym (state_with x.seat (with_valid (state_of x.seat) (set_without (record_of x).valid d)))) (f.joins h)
joins_change c n told x (Admits at command a d) f may =
    λ h. subst (λ z. (0 < z.session) × (z.session ≡ z.saved.installed)) (sym (state_with x.seat (with_joined (state_of x.seat) d))) (f.joins (sym (joins_answered x.tasks a) ∙ h))
joins_change c n told x (Proposes s p text) f may =
    λ h. subst (λ z. (0 < z.session) × (z.session ≡ z.saved.installed)) (sym (state_with x.seat (with_entries (state_of x.seat) (with_next (record_of x).entries text)))) (f.joins h)
joins_change c n told x (Acks s p q left text) f may =
    λ h. subst (λ z. (0 < z.session) × (z.session ≡ z.saved.installed)) (sym (state_with x.seat (with_entries (state_of x.seat) (all_committed (record_of x).entries)))) (f.joins h)
joins_change c n told x (Prepares s text) f may = λ h. subst (λ z. (0 < (state_of z).session) × ((state_of z).session ≡ (state_of z).saved.installed)) may.0 (f.joins h)
joins_change c n told x (Commits s) f may = λ h. subst (λ z. (0 < (state_of z).session) × ((state_of z).session ≡ (state_of z).saved.installed)) may.0 (f.joins h)

joins_act : (c : Cluster) (n : ℕ) (told : Delivered) (x : UpNode) (a : Act) → Facts x → MayAct c n told x a → JoinsFit (acted c n x a)
joins_act c n told x (Hears from b) f may = f.joins
joins_act c n told x Ticks f may = f.joins
joins_act c n told x Waits f may = f.joins
joins_act c n told x (Goes_on a k) f may = f.joins
joins_act c n told x (Ends a e) f may = f.joins
joins_act c n told x (Queues a d kind) f may = if_either JoinsFit (has a.plan.members n) _ x (λ h. f.joins (sym (joins_seize x.tasks d _) ∙ h)) f.joins
joins_act c n told x (Accepts kind e members d) f may = λ h. f.joins (sym (joins_seize x.tasks d _) ∙ h)
joins_act c n told x (Takes at command a) f may = λ h. f.joins (sym (joins_answered x.tasks a) ∙ h)
joins_act c n told x (Stores d value a) f may = f.joins
joins_act c n told x (Writes to b) f may = f.joins
joins_act c n told x (Gives os) f may = f.joins
joins_act c n told x (Spreads receivers b) f may = f.joins
joins_act c n told x (Minds q p) f may = f.joins
joins_act c n told x (Notes from place p) f may = f.joins
joins_act c n told x (Dates now) f may = f.joins
joins_act c n told x (Works w) f may = f.joins
joins_act c n told x (Makes ch) f may = joins_change c n told x ch f may.0

pub joins_one : (c : Cluster) (M : Memberships) (n : ℕ) (told : Delivered) (node : Node) (disk : NodeRecord) (d : Doing) → Holds (setting_of c) M → NodeTied c M n disk node → JoinsIn node
    → May c n told (site node disk) d → JoinsIn (effect c n (site node disk) d).node
joins_one c M n told Down disk Comes_up i tied joins may = λ h. absurd (false_true h)
joins_one c M n told Down disk (Goes_down why) i tied joins may = tt
joins_one c M n told Down disk (Does a) i tied joins may = tt
joins_one c M n told Down disk (Saves ch) i tied joins may = tt
joins_one c M n told Down disk (Loses ch why) i tied joins may = tt
joins_one c M n told Down disk (Forgets ch why) i tied joins may = tt
joins_one c M n told (Up x) disk Comes_up i tied joins may = absurd may
joins_one c M n told (Up x) disk (Goes_down why) i tied joins may = tt
joins_one c M n told (Up x) disk (Does a) i tied joins may = joins_act c n told x a (facts_of c M n disk x i tied joins) may
joins_one c M n told (Up x) disk (Saves ch) i tied joins may = joins_change c n told x ch (facts_of c M n disk x i tied joins) may
joins_one c M n told (Up x) disk (Loses ch why) i tied joins may = tt
joins_one c M n told (Up x) disk (Forgets ch why) i tied joins may = tt

joins_all : (c : Cluster) (M : Memberships) (n : ℕ) (told : Delivered) (x : Site) (ds : List Doing) → All IsDevice c.attached → Holds (setting_of c) M → Known M told
    → SiteTied c M n x → JoinsIn x.node → MayAll c n told x ds → JoinsIn (after_all c n x ds).node
joins_all c M n told x [] fits i known tied joins may = joins
joins_all c M n told x (d ∷ ds) fits i known tied joins may =
    let g : GoesOn c M n (effect c n x d) (gives c n x d) (of_doing n d) = does_one c M n told x d fits i known tied may.0 in
    joins_all c g.machine n told (effect c n x d) ds fits g.holds (known_stays c M g.machine told i g.grows known) g.tied (joins_one c M n told x.node x.disk d i tied joins may.0) may.1

-- A step.

boot_may : (c : Cluster) (n : ℕ) (disk : NodeRecord) (replies : List Reply) → MayAll c n None (site Down disk) (boot_doings replies)
boot_may c n disk [] = (tt, (tt, tt))
boot_may c n disk (Done ∷ replies) = (tt, tt)
boot_may c n disk (Lost_new why ∷ replies) = (tt, (tt, tt))
boot_may c n disk (Lost_old why ∷ replies) = (tt, (tt, tt))

pub step_may : (c : Cluster) (M : Memberships) (n now : ℕ) (ends : method.Outcome) (node : Node) (disk : NodeRecord) (i : Input) (replies : List Reply) → n ≤ 32 → All IsDevice c.attached → Holds (setting_of c) M
    → NodeTied c M n disk node → JoinsIn node → MayAll c n (delivered_by i) (site node disk) (doings c n now ends replies i node)
step_may c M n now ends (Up x) disk i replies low fits holds tied joins =
    may_under c n (delivered_by i) x disk replies (course_at c n now ends x i) (step_may_go c n now ends x i low fits (facts_of c M n disk x holds tied joins))
step_may c M n now ends Down disk Boot replies low fits holds tied joins = boot_may c n disk replies
step_may c M n now ends Down disk Crash replies low fits holds tied joins = tt
step_may c M n now ends Down disk Tick replies low fits holds tied joins = tt
step_may c M n now ends Down disk (Packet from m) replies low fits holds tied joins = tt
step_may c M n now ends Down disk CommandDue replies low fits holds tied joins = tt
step_may c M n now ends Down disk (Answered a) replies low fits holds tied joins = tt
step_may c M n now ends Down disk (Wrote d value a) replies low fits holds tied joins = tt
step_may c M n now ends Down disk (Commanded words) replies low fits holds tied joins = tt
step_may c M n now ends Down disk (Reported r good) replies low fits holds tied joins = tt
step_may c M n now ends Down disk (Client name client port) replies low fits holds tied joins = tt

pub known_by : (M : Memberships) (i : Input) → IsTrue M i → Known M (delivered_by i)
known_by M (Packet from m) h = h
known_by M Boot h = tt
known_by M Crash h = tt
known_by M Tick h = tt
known_by M CommandDue h = tt
known_by M (Answered a) h = tt
known_by M (Wrote d value a) h = tt
known_by M (Commanded words) h = tt
known_by M (Reported r good) h = tt
known_by M (Client name client port) h = tt

pub steps_go : {K : Type 0} → (rules : DiskRules K) → IsDisk rules → StepsGo rules
steps_go {K} rules good c M n now ends node disk i low fits holds is_true stands =
    let cut : IsCut rules c n now ends node disk i [] (stepped rules c n now ends node disk i) = steps_are_cut rules good c n now ends node disk i in
    let o : Outcome K = stepped rules c n now ends node disk i in
    let told : Delivered = delivered_by i in
    let known : Known M told = known_by M i is_true in
    let x : Site = site node (rules.kept disk) in
    let ds : List Doing = doings c n now ends cut.replies i node in
    let may : MayAll c n told x ds = step_may c M n now ends node (rules.kept disk) i cut.replies low fits holds stands.tied stands.joins in
    let g : GoesOn c M n (after_all c n x ds) (given_all c n x ds) (of_doings n ds) = does_all c M n told x ds fits holds known stands.tied may in
    record {
      events = of_doings n ds;
      machine = g.machine;
      run = g.run;
      holds = g.holds;
      grows = g.grows;
      stands = record {
        tied = subst (λ z. SiteTied c g.machine n z) cut.comes.left g.tied;
        joins = subst (λ z. JoinsIn z.node) cut.comes.left (joins_all c M n told x ds fits holds known stands.tied stands.joins may);
      };
      others = g.others;
      said = subst (λ os. AllTold g.machine n os) cut.comes.given g.said;
    }
