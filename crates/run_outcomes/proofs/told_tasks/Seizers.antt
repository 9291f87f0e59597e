-- A coordinator whose attempt seizes devices has the tasks that `history` has, where it had them before what happened last.
use Rattle.std.specs.Prelude.{ℕ, ◌≡◌, ◌≢◌, ◌⊎◌, ◌<◌, ◌≤◌, ◌^◌, ◌&&◌, ◌++◌, Bool, true, false, if◌then◌else◌, List, [], ◌∷◌, filter, length, map, Option, Some}
use Rattle.std.specs.List.{AllByRecursion, list_any}
use Rattle.std.proofs.Common.{refl, sym, ap, subst, ◌∙◌, inl, inr}
use Rattle.cl_base.specs.Limits.{most_devices}
use Rattle.cl_base.specs.Sets.{has}
use Rattle.cl_base.specs.declared.header.Header.{Header}
use Rattle.cmm_attempt.proofs.Basics.{false_true, same_some}
use Rattle.cmm_attempt.specs.Attempts.{AttemptState}
use Rattle.cmm_attempt.specs.Calls.{With_votes, turn}
use Rattle.cmm_attempt.specs.declared.counting.BothVotes.{BothVotes}
use Rattle.cmm_attempt.specs.declared.phase.Phase.{Phase}
use Rattle.cmm_attempt.specs.declared.phase.Phase.TheVariants.{Choosing, Collecting, Installing, Over, SeizingOthers, SeizingVotes}
use Rattle.cmm_attempt.specs.declared.plan.Plan.{Plan}
use Rattle.cmm_attempt.specs.declared.promised.Promised.{Promised}
use Rattle.cmm_attempt.specs.declared.seizing.Seizing.{Seizing}
use Rattle.attempt_laws.specs.Asking.{AreApart, entry_of, numbers_of}
use Rattle.attempt_laws.specs.Staying.{IsBefore}
use Rattle.device_queue.specs.declared.task.Task.{Task}
use Rattle.history.specs.Letters.{sends}
use Rattle.history.specs.Moment.{Moment}
use Rattle.history.specs.Names as name
use Rattle.history.specs.Order.{since}
use Rattle.history.specs.Queue as told
use Rattle.history.specs.Records.{NodeRecord}
use Rattle.history.specs.Seizing.{acts_for, is_attempt}
use Rattle.history.specs.Setting.{Setting, coordinator}
use Rattle.history.specs.UnderWay.{is_under_way}
use Rattle.history_setting.specs.Settings.{setting_of}
use Rattle.node_model.specs.declared.node.Node.TheVariants.{Up}
use Rattle.node_model.specs.declared.node.UpNode.{UpNode}
use Rattle.run_devices.specs.queues.Laws.{Same}
use Rattle.run_history.specs.Happenings.{Happening, MayAllHappen, all_happened}
use Rattle.run_history.specs.Scenes.{Scene, first_scene}
use Rattle.run_history.specs.Shapes.{Due, ShapedFrom, nothing}
use Rattle.run_history.specs.WorldLines.{AreDisks}
use Rattle.run_packets.specs.views.Laws.{NoneForeign}
use Rattle.world_model.specs.First.{first_cluster}
use Rattle.run_outcomes.specs.phases.Laws.{HasAttempt, is_seizing}
use Rattle.run_outcomes.specs.tasks.Entries.{AreVotes, EntriesIn, EntriesSo, LacksOne, LedBy, has_votes}
use Rattle.run_outcomes.specs.tasks.Laws.{OwnSo, OwnTasksAreAsked, SeizedsAreTold, ShowsAreTold, own_result}
use Rattle.run_outcomes.specs.tasks.OwnTasks.{Shows}
use Rattle.run_outcomes.specs.tasks.Showing.{OwnIsShown}
use Rattle.run_outcomes.proofs.told_tasks.Begun.{AreBegun, both_same, devices, votes_same}
use Rattle.run_outcomes.proofs.told_tasks.Walked.{reached_entries}
use Rattle.run_outcomes.proofs.told_tasks.Fresh.{begins_all}
use Rattle.run_outcomes.proofs.told_tasks.Heard.{Quorum, entries_found, of_both, of_votes}
use Rattle.run_outcomes.proofs.told_tasks.Answered.{turned_all}
use Rattle.run_outcomes.proofs.told_tasks.Lists.{apart_filter}
use Rattle.run_outcomes.proofs.told_tasks.Moves.{Moved, call_moves}
use Rattle.run_outcomes.proofs.told_tasks.Points.{Shown_at, shown_at}
use Rattle.run_outcomes.proofs.told_tasks.Quiet.{same_seized, same_tasks}
use Rattle.run_outcomes.proofs.told_tasks.Turned.{IsTurned}
use Rattle.run_outcomes.proofs.told_tasks.Led.{ByCall, ByVotes, LedOn, all_begun}
use Rattle.run_outcomes.specs.tasks.Lasting.{lasts_open}

-- ---- each entry is as far as the lines show it

quorum_of : (b : AttemptState) → LedBy b.plan → EntriesSo b → is_seizing b.phase ≡ true → Quorum b.plan b.promises b.votes b.devices
quorum_of b l so seizing = by_phase b.phase refl (so l).0 seizing
  where
    by_phase : (p : Phase) → b.phase ≡ p → EntriesIn b.plan b.promises b.votes b.devices p → is_seizing p ≡ true → Quorum b.plan b.promises b.votes b.devices
    by_phase SeizingVotes at h is = of_votes b.plan b.promises b.votes b.devices h
    by_phase SeizingOthers at h is = of_both b.plan b.promises b.votes b.devices h
    by_phase Collecting at h is = absurd (false_true is)
    by_phase Choosing at h is = absurd (false_true is)
    by_phase Installing at h is = absurd (false_true is)
    by_phase Over at h is = absurd (false_true is)

as_votes : (plan other : Plan) (ps qs : List Promised) (g k : Option BothVotes) (vs : List Seizing) → plan ≡ other → ps ≡ qs → g ≡ k → AreVotes plan ps g vs → AreVotes other qs k vs
as_votes plan other ps qs g k vs p q r h = subst (λ z. AreVotes other qs z vs) r (subst (λ z. AreVotes other z g vs) q (subst (λ z. AreVotes z ps g vs) p h))

abbrev as_quorum : (plan other : Plan) (ps qs : List Promised) (g k : Option BothVotes) (es : List Seizing) → plan ≡ other → ps ≡ qs → g ≡ k → Quorum plan ps g es → Quorum other qs k es
as_quorum plan other ps qs g k es p q r h = record { votes = h.votes; behind = h.behind; parts = h.parts; first = as_votes plan other ps qs g k h.votes p q r h.first; alone = h.alone }

-- its answer, and how the coordinator's own seizing ended
abbrev pub Now : Plan → List Moment → Seizing → Type 0
Now plan ms e = (m : ℕ) → e.seizer ≡ Some m → m ≢ plan.coordinator → told.seized_by plan.epoch e.attached.device m ms ≡ e.result

abbrev pub Own : Plan → List Task → Seizing → Type 0
Own plan tasks e = e.seizer ≡ Some plan.coordinator → own_result e.attached.device tasks ≡ e.result

-- on plans and Promises that are the same
turned_as : (plan other : Plan) (ps qs : List Promised) (tasks : List Task) (ms : List Moment) (vs : List Seizing) (l : LedBy plan) → plan ≡ other → ps ≡ qs
    → ((m : LedBy other) → AllByRecursion (IsTurned other qs m tasks ms) vs) → AllByRecursion (IsTurned plan ps l tasks ms) vs
turned_as plan other ps qs tasks ms vs l p q f =
    subst (λ z. AllByRecursion (IsTurned plan z l tasks ms) vs) (sym q) (subst (λ (z : Plan). (m : LedBy z) → AllByRecursion (IsTurned z qs m tasks ms) vs) (sym p) f l)

pub turned_by_call : (b : AttemptState) (tasks : List Task) (ms : List Moment) (l : LedBy b.plan) → coordinator b.plan.epoch ≡ b.plan.coordinator → (k : ByCall b tasks ms) (p : Quorum b.plan b.promises b.votes b.devices) → is_seizing b.phase ≡ true
    → AllByRecursion (Now b.plan ms) p.votes → AllByRecursion (Own b.plan tasks) p.votes → AllByRecursion (IsTurned b.plan b.promises l tasks ms) p.votes
turned_by_call b tasks ms l lead k p seizing now own =
    turned_as b.plan a.plan b.promises a.promises tasks ms p.votes l k.plan k.promises
    (λ m.
    turned_all a k.call b.devices tasks ms m moved (quorum_of a m k.entries k.seized)
    (as_quorum b.plan a.plan b.promises a.promises b.votes a.votes b.devices k.plan k.promises k.votes p)
    (record {
      last = k.asks.last;
      asked = λ d j.
          ap (λ i. list_any (sends i j (name.SeizeQuorum d)) (since (is_attempt a.plan.epoch) ms)) (subst (λ (z : Plan). coordinator z.epoch ≡ z.coordinator) k.plan lead) ∙ k.asks.asked d j;
      now = subst (λ (z : Plan). AllByRecursion (Now z ms) p.votes) k.plan now;
      own = subst (λ (z : Plan). AllByRecursion (Own z tasks) p.votes) k.plan own;
      told_other = k.told_other;
      told_own = k.told_own;
    }))
  where
    a : AttemptState
    a = k.before

    moved : Moved a k.call b.devices
    moved =
        subst (λ (z : AttemptState). Moved a k.call z.devices) (sym k.is)
        (call_moves a k.call k.none_given k.seized (subst (λ (z : AttemptState). is_seizing z.phase ≡ true) k.is seizing))

turned_by_votes : (b : AttemptState) (both : BothVotes) (tasks : List Task) (ms : List Moment) (l : LedBy b.plan) (k : ByVotes b both ms) (p : Quorum b.plan b.promises b.votes b.devices)
    → is_seizing b.phase ≡ true → b.votes ≡ Some both → AllByRecursion (Own b.plan tasks) p.votes → AllByRecursion (IsTurned b.plan b.promises l tasks ms) p.votes
turned_by_votes b both tasks ms l k p seizing given own =
    turned_as b.plan a.plan b.promises a.promises tasks ms p.votes l k.plan k.promises
    (λ m.
    begins_all a both tasks ms m (subst (λ (z : AttemptState). is_seizing z.phase ≡ true) k.is seizing)
    (as_devices (turn a (With_votes both)).after (ap (λ (z : AttemptState). z.devices) k.is) (as_quorum b.plan a.plan b.promises a.promises b.votes (Some both) b.devices k.plan k.promises given p))
    k.none (subst (λ (z : Plan). AllByRecursion (Own z tasks) p.votes) k.plan own))
  where
    a : AttemptState
    a = k.before

    as_devices : (z : AttemptState) → b.devices ≡ z.devices → Quorum a.plan a.promises (Some both) b.devices → Quorum a.plan a.promises (Some both) z.devices
    as_devices z is q = record { votes = q.votes; behind = q.behind; parts = sym is ∙ q.parts; first = q.first; alone = q.alone }

-- ---- the tasks

if_on : {X : Type 0} (t : Bool) (x y : X) → t ≡ true → (if t then x else y) ≡ x
if_on t x y is = ap (λ z. if z then x else y) is

-- Where what happened last is so, the coordinator has the tasks of `history` after it.
pub led_on_same : OwnTasksAreAsked → ShowsAreTold → SeizedsAreTold → OwnIsShown → (h : Header) (cells : ℕ) (hs : List Happening) (last : Due) → length h.devices ≤ most_devices → h.cluster < 2 ^ 32
    → AreDisks h → MayAllHappen (first_cluster h) (first_scene h cells) hs → ShapedFrom (first_cluster h) (first_scene h cells) nothing hs last
    → NoneForeign (first_cluster h) (first_scene h cells) hs → (n : ℕ) (y : UpNode) (b : AttemptState) (both : BothVotes)
    → (all_happened (first_cluster h) (first_scene h cells) hs).nodes.node n ≡ Up y → y.attempt ≡ Some b → HasAttempt (all_happened (first_cluster h) (first_scene h cells) hs) n b
    → is_seizing b.phase ≡ true → lasts_open (setting_of h) n (all_happened (first_cluster h) (first_scene h cells) hs).moments ≡ false
    → LedOn (setting_of h) n y b both (all_happened (first_cluster h) (first_scene h cells) hs).moments
    → Same y.tasks (told.tasks_of (setting_of h) n (all_happened (first_cluster h) (first_scene h cells) hs).moments)
led_on_same own shown answers mine h cells hs last few small disks may shaped native n y b both up held at seizing closed k =
    subst (λ (ts : List Task). Same ts (told.tasks_of S n s.moments)) (sym k.tasks)
    (subst (λ ms. Same (k.old ++ k.new) (told.tasks_of S n ms)) (sym k.parts)
    (subst (Same (k.old ++ k.new)) (sym (same_tasks S n k.marked k.newer k.quiet ∙ (k.told_so ∙ with_so))) all))
  where
    S : Setting
    S = setting_of h

    s : Scene
    s = all_happened (first_cluster h) (first_scene h cells) hs

    e : ℕ
    e = b.plan.epoch

    c : ℕ
    c = b.plan.coordinator

    z : Shown_at S n b k.marked
    z = shown_at own shown mine h cells hs last few small disks may shaped native n b at seizing k.marked k.newer k.parts k.quiet closed

    r : NodeRecord
    r = z.newest

    shows : Shows S b.plan b.promises both r k.marked
    shows = subst (λ q. Shows S b.plan b.promises q r k.marked) (same_some z.both both (sym z.given ∙ k.given)) z.shows

    so : OwnSo y b
    so = own h cells hs last few small disks may shaped native n y b up held

    with_so : told.with_own S n (Some e) k.marked k.had ≡ told.own_tasks S c e (Some r) k.marked k.had
    with_so =
        if_on (acts_for n e k.marked && is_under_way e k.marked && told.all_promised e k.marked) (told.own_tasks S n e (told.newest_in_hand e k.marked) k.marked k.had) k.had z.goes
        ∙ (ap (λ o. told.own_tasks S n e o k.marked k.had) z.found ∙ ap (λ j. told.own_tasks S j e (Some r) k.marked k.had) (sym z.coordinates))

    begun : AreBegun S c e r k.marked k.new
    begun = subst (λ j. AreBegun S j e r k.marked k.new) (sym z.coordinates) (all_begun S n b both r k.marked k.new shows.voting z.members k.asked)

    entries : EntriesSo b
    entries = reached_entries b z.reached

    own_now : devices (k.old ++ k.new) ≡ map (λ (x : Seizing). x.attached.device) (filter (λ (x : Seizing). has x.asked c) b.devices)
    own_now = ap devices (sym k.tasks) ∙ so.devices seizing

    before : (p : Phase) → is_seizing p ≡ true → IsBefore p
    before SeizingVotes is = tt
    before SeizingOthers is = tt
    before Collecting is = absurd (false_true is)
    before Choosing is = absurd (false_true is)
    before Installing is = absurd (false_true is)
    before Over is = absurd (false_true is)

    turned : (p : Quorum b.plan b.promises b.votes b.devices) → AllByRecursion (IsTurned b.plan b.promises shows.led (k.old ++ k.new) k.marked) p.votes
    turned p = subst (λ (ts : List Task). AllByRecursion (IsTurned b.plan b.promises shows.led ts k.marked) p.votes) k.tasks (by_way k.comes)
      where
        found : AllByRecursion (λ (x : Seizing). entry_of b.devices x.attached.device ≡ Some x) p.votes
        found =
            subst (λ es. AllByRecursion (λ (x : Seizing). entry_of es x.attached.device ≡ Some x) p.votes) (sym p.parts)
            (entries_found p.votes p.behind (subst (λ xs. AreApart (numbers_of xs)) (sym p.first.devices) (apart_filter (has_votes b.plan b.votes) b.plan.attached shows.led.apart)))

        now : (vs : List Seizing) → AllByRecursion (λ (x : Seizing). entry_of b.devices x.attached.device ≡ Some x) vs → AllByRecursion (Now b.plan k.marked) vs
        now [] f = tt
        now (x ∷ vs) f = (
          (λ m asked other.
              sym (same_seized n e x.attached.device m k.marked k.newer z.own k.quiet)
              ∙ (ap (told.seized_by e x.attached.device m) (sym k.parts)
              ∙ answers h cells hs last few small disks may shaped native n b at (before b.phase seizing) x.attached.device m x f.0 asked other)),
          now vs f.1,
        )

        mine_now : (vs : List Seizing) → AllByRecursion (λ (x : Seizing). entry_of b.devices x.attached.device ≡ Some x) vs → AllByRecursion (Own b.plan y.tasks) vs
        mine_now [] f = tt
        mine_now (x ∷ vs) f = ((λ asked. so.last seizing x.attached.device x f.0 asked), mine_now vs f.1)

        by_way : ByCall b y.tasks k.marked ⊎ ByVotes b both k.marked → AllByRecursion (IsTurned b.plan b.promises shows.led y.tasks k.marked) p.votes
        by_way (inl w) = turned_by_call b y.tasks k.marked shows.led shows.own w p seizing (now p.votes found) (mine_now p.votes found)
        by_way (inr w) = turned_by_votes b both y.tasks k.marked shows.led w p seizing k.given (mine_now p.votes found)

    by_phase : (p : Phase) → is_seizing p ≡ true → EntriesIn b.plan b.promises b.votes b.devices p → LacksOne b.devices p
        → Same (k.old ++ k.new) (told.own_tasks S c e (Some r) k.marked k.had)
    by_phase SeizingVotes is h1 lacks_it =
        votes_same S b.plan b.promises both r k.marked shows b.devices k.old k.new k.had (subst (λ g. AreVotes b.plan b.promises g b.devices) k.given h1) lacks_it k.same begun own_now
        (turned (of_votes b.plan b.promises b.votes b.devices h1))
    by_phase SeizingOthers is h1 lacks_it =
        both_same S b.plan b.promises both r k.marked shows b.devices k.old k.new k.had
        (record {
          votes = h1.votes;
          others = h1.others;
          parts = h1.parts;
          first = subst (λ g. AreVotes b.plan b.promises g h1.votes) k.given h1.first;
          settled = h1.settled;
          devices = h1.devices;
          each = h1.each;
        }) k.same begun own_now (turned (of_both b.plan b.promises b.votes b.devices h1))
    by_phase Collecting is h1 lacks_it = absurd (false_true is)
    by_phase Choosing is h1 lacks_it = absurd (false_true is)
    by_phase Installing is h1 lacks_it = absurd (false_true is)
    by_phase Over is h1 lacks_it = absurd (false_true is)

    all : Same (k.old ++ k.new) (told.own_tasks S c e (Some r) k.marked k.had)
    all = by_phase b.phase seizing (entries shows.led).0 (entries shows.led).1
