-- All that a node tells in a step is of its own doing, and its proposals have their Prepares behind them.
use Rattle.std.specs.Prelude.{ℕ, ◌+◌, ◌≡◌, ◌++◌, true, All, List, [], ◌∷◌, length, Option, None, Some, IfSome, is_some}
use Rattle.std.proofs.Common.{refl, ap, sym, subst, ◌∙◌, inl, inr}
use Rattle.attempt_laws.proofs.Stays.{plan_stays}
use Rattle.ccr_commit.specs.Entries.{all_committed, texts_of}
use Rattle.cl_base.specs.Sets.{has, set_without}
use Rattle.cmm_attempt.proofs.Basics.{none_some}
use Rattle.cmm_attempt.specs.Attempts.{AttemptState}
use Rattle.cmm_attempt.specs.Calls.{IsDevice, turn}
use Rattle.cmm_member.specs.Nodes.{NodeState}
use Rattle.cmm_member.specs.Records.{NodeRecord}
use Rattle.history.specs.Moment.{Moment}
use Rattle.history.specs.Setting.{coordinator}
use Rattle.membership_machine.specs.Growth.{Grows}
use Rattle.membership_machine.specs.Invariant.{Holds}
use Rattle.membership_machine.specs.State.{Memberships}
use Rattle.node_model.specs.Attempts.{starting_as}
use Rattle.node_model.specs.Configurations.{in_force}
use Rattle.node_model.specs.Entries.{unknown_lines}
use Rattle.node_model.specs.Presidents.{sent_to}
use Rattle.node_model.specs.Seats.{record_of, state_of}
use Rattle.node_model.specs.Ticks.{later}
use Rattle.node_model.specs.declared.cluster.Cluster.{Cluster}
use Rattle.node_model.specs.declared.node.Node.{Node}
use Rattle.node_model.specs.declared.node.Node.TheVariants.{Down, Up}
use Rattle.node_model.specs.declared.node.UpNode.{UpNode}
use Rattle.node_model.specs.declared.output.Output.{Output}
use Rattle.node_model.specs.declared.output.Output.TheVariants.{Sends, Tells}
use Rattle.node_model.specs.declared.presidency.Presidency.{Presidency}
use Rattle.node_model.specs.declared.seat.Seat.{Seat}
use Rattle.node_model.specs.declared.seat.Seat.TheVariants.{Forming, Member}
use Rattle.refinement.proofs.Acts.{does_one}
use Rattle.refinement.proofs.Attempts.{may_be_called}
use Rattle.refinement.proofs.Ties.{known_stays}
use Rattle.refinement.specs.Doings.{Act, Change, Doing, Site, adopted_by, after_all, changed, effect, first_lines, given_all, gives, gone_line, last_lines, said, saved_lines, site, start_lines, superseded_lines}
use Rattle.refinement.specs.Doings.Act.{Accepts, Dates, Ends, Gives, Goes_on, Hears, Makes, Minds, Notes, Queues, Spreads, Stores, Takes, Ticks, Waits, Works, Writes}
use Rattle.refinement.specs.Doings.Change.{Acks, Admits, Commits, Counts, Distrusts, Installs, Leads, Prepares, Promises, Proposes, Sits, Starts}
use Rattle.refinement.specs.Doings.Doing.{Comes_up, Does, Forgets, Goes_down, Loses, Saves}
use Rattle.refinement.specs.Events.{of_doing}
use Rattle.refinement.specs.Guards.{May, MayAct, MayAll, MayChange}
use Rattle.refinement.specs.Ties.{Delivered, GoesOn, Known, NodeTied, PresidentTied, SeatTied, SiteTied, setting_of}
use Rattle.run_history.proofs.Heard.{own_number, own_of}
use Rattle.status_report.specs.declared.entry.Entry.{Entry}
use Rattle.status_report.specs.declared.entry.Entry.TheVariants as entry
use Rattle.status_report.specs.declared.node_entry.DownCause.{DownCause}
use Rattle.status_report.specs.declared.update_entry.UpdateEntry.TheVariants as update
use Rattle.wire.specs.declared.message.Body.TheVariants as body
use Rattle.run_packets.proofs.prepares.Lines.{adopted_are, bases_are, both_are, ended_is, own_epoch, same_number, spread_are, superseded_are, ticked_are, unknown_are, write_are}
use Rattle.run_packets.proofs.prepares.Offices.{CoversUp, doing_covers}
use Rattle.run_packets.proofs.prepares.Sending.{behind_more, prepare_short, spread_behind}
use Rattle.run_packets.specs.prepares.Actors.{ActIs, AllDoOwn, AreOf, DoingIs, FollowsIn, IsOf, NoProposal}
use Rattle.run_packets.specs.prepares.Proposals.{AreSo, AreStarted, Covers, CoversIn, IsBehind, IsOther, IsSo}

-- ---- what the tie says: the node coordinates its attempt, and as president its membership

seat_own : (c : Cluster) (M : Memberships) (n : ℕ) (disk : NodeRecord) (o : Option AttemptState) (seat : Seat) (a : AttemptState) → o ≡ Some a → SeatTied c M n disk o seat → coordinator a.plan.epoch ≡ n
seat_own c M n disk None seat a is tied = absurd (none_some a is)
seat_own c M n disk (Some b) (Forming s) a is tied = subst (λ (z : Option AttemptState). IfSome z (λ t. coordinator t.plan.epoch ≡ n)) is (own_of c M n s b tied.2)
seat_own c M n disk (Some b) (Member s) a is tied = absurd (none_some b (sym tied.2))

attempt_own : (c : Cluster) (M : Memberships) (n : ℕ) (disk : NodeRecord) (x : UpNode) (a : AttemptState) → x.attempt ≡ Some a → NodeTied c M n disk (Up x) → coordinator a.plan.epoch ≡ n
attempt_own c M n disk x a is tied = seat_own c M n disk x.attempt x.seat a is tied.0

office_own : (M : Memberships) (n : ℕ) (p : Presidency) (s : NodeState) (o : Option Presidency) (seat : Seat) → o ≡ Some p → seat ≡ Member s → PresidentTied M n o seat → coordinator s.session ≡ n
office_own M n p s o seat has sits tied =
    let here : PresidentTied M n (Some p) (Member s) = subst (λ z. PresidentTied M n (Some p) z) sits (subst (λ z. PresidentTied M n z seat) has tied) in
    own_number s.session n here.own

president_own : (c : Cluster) (M : Memberships) (n : ℕ) (disk : NodeRecord) (x : UpNode) (p : Presidency) (s : NodeState) → x.presidency ≡ Some p → x.seat ≡ Member s → NodeTied c M n disk (Up x) → coordinator s.session ≡ n
president_own c M n disk x p s has sits tied = office_own M n p s x.presidency x.seat has sits tied.1

-- ---- changes

superseded_of : (c : Cluster) (M : Memberships) (n p : ℕ) (disk : NodeRecord) (o : Option AttemptState) (seat : Seat) → SeatTied c M n disk o seat → AreOf n (superseded_lines p o)
superseded_of c M n p disk None seat tied = tt
superseded_of c M n p disk (Some a) seat tied = superseded_are n p a (seat_own c M n disk (Some a) seat a refl tied)

first_are : (n : ℕ) (change : Change) → NoProposal change → AreOf n (first_lines n change)
first_are n (Admits at command a d) none = (same_number n, tt)
first_are n (Proposes s p text) none = absurd none
first_are n _ none = tt

last_are : (c : Cluster) (M : Memberships) (n : ℕ) (told : Delivered) (x : UpNode) (disk : NodeRecord) (change : Change) → NodeTied c M n disk (Up x) → MayChange c n told x change
    → AreOf n (last_lines c n x change)
last_are c M n told x disk (Promises p) tied may =
    both_are n (superseded_lines p x.attempt) (unknown_lines n x.requests.waiting) (superseded_of c M n p disk x.attempt x.seat tied.0) (unknown_are n x.requests.waiting)
last_are c M n told x disk (Leads p members) tied may = (own_epoch p n may.1, unknown_are n x.requests.waiting)
last_are c M n told x disk (Counts a k s i) tied may = (same_number n, tt)
last_are c M n told x disk (Installs s i) tied may = (same_number n, tt)
last_are c M n told x disk (Starts a k s) tied may =
    let t : AttemptState = (turn a k).after in
    let y : UpNode = starting_as c n x t s in
    let own : coordinator t.plan.epoch ≡ n =
    ap (λ p. coordinator p.epoch) (plan_stays a k (may_be_called c told a k may.2)) ∙ attempt_own c M n disk x a may.0 tied in
    both_are n (start_lines t s) _ (own_epoch t.plan.epoch n own, bases_are n t.plan.epoch 0 (all_committed s.saved.entries).committed own)
    (both_are n (adopted_by c t y) _ (adopted_are n t.plan.epoch (in_force c y) y.presidency own) (same_number n, tt))
last_are c M n told x disk (Sits s e) tied may = (same_number n, tt)
last_are c M n told x disk (Distrusts d) tied may = tt
last_are c M n told x disk (Admits at command a d) tied may = tt
last_are c M n told x disk (Proposes s p text) tied may = tt
last_are c M n told x disk (Acks s p q left text) tied may = (own_epoch s.session n (president_own c M n disk x p s may.0 may.1 tied), tt)
last_are c M n told x disk (Prepares s text) tied may = tt
last_are c M n told x disk (Commits s) tied may = tt

-- ---- acts

act_are : (c : Cluster) (M : Memberships) (n : ℕ) (told : Delivered) (x : UpNode) (disk : NodeRecord) (a : Act) → NodeTied c M n disk (Up x) → MayAct c n told x a → ActIs n x a → AreOf n (said c n x a)
act_are c M n told x disk (Hears from b) tied may is = tt
act_are c M n told x disk Ticks tied may is = (same_number n, ticked_are n c x (later c x))
act_are c M n told x disk Waits tied may is = tt
act_are c M n told x disk (Goes_on a k) tied may is = tt
act_are c M n told x disk (Ends a e) tied may is = (ended_is n a.plan.epoch e (attempt_own c M n disk x a is tied), tt)
act_are c M n told x disk (Queues a d kind) tied may is = tt
act_are c M n told x disk (Accepts kind e members d) tied may is = tt
act_are c M n told x disk (Takes at command a) tied may is = (same_number n, tt)
act_are c M n told x disk (Stores d value a) tied may is = (same_number n, write_are n x d value a)
act_are c M n told x disk (Writes to b) tied may is = tt
act_are c M n told x disk (Makes change) tied may is =
    both_are n (first_lines n change) (last_lines c n x change) (first_are n change is) (last_are c M n told x disk change tied may.0)
act_are c M n told x disk (Gives os) tied may is = is
act_are c M n told x disk (Spreads receivers b) tied may is = spread_are n receivers b
act_are c M n told x disk (Minds q p) tied may is = tt
act_are c M n told x disk (Notes from place p) tied may is = tt
act_are c M n told x disk (Dates now) tied may is = tt
act_are c M n told x disk (Works w) tied may is = tt

-- ---- what is its own is so

is_so : (before : List Moment) (n : ℕ) (e : Entry) (os : List Output) → IsOf n e → IsSo before n (Tells e) os
is_so before n (entry.Update (update.Proposed e v text)) os h = absurd h
is_so before n _ os h = h

are_so : (before : List Moment) (n : ℕ) (os : List Output) → AreOf n os → AreSo before n os
are_so before n [] h = tt
are_so before n (Tells e ∷ os) h = (is_so before n e os h.0, are_so before n os h.1)
are_so before n (Sends to b ∷ os) h = (tt, are_so before n os h)

so_more : (before : List Moment) (n : ℕ) (o : Output) (os more : List Output) → IsSo before n o os → IsSo before n o (os ++ more)
so_more before n (Tells (entry.Update (update.Proposed e v text))) os more h = (h.0, h.1, λ m other. behind_more n m (body.Prepare e v text) os more (h.2 m other))
so_more before n _ os more h = h

both_so : (before : List Moment) (n : ℕ) (os more : List Output) → AreSo before n os → AreSo before n more → AreSo before n (os ++ more)
both_so before n [] more h k = k
both_so before n (o ∷ os) more h k = (so_more before n o os more h.0, both_so before n os more h.1 k)

-- ---- a proposal that is saved

-- the Prepares come next
prepares_behind : (c : Cluster) (before : List Moment) (n : ℕ) (x y : UpNode) (disk : NodeRecord) (s : NodeState) (p : Presidency) (text : List ℕ) (ds : List Doing) → x.seat ≡ Member s
    → CoversIn before n true x.seat → FollowsIn n x (Proposes s p text) ds
    → (m : ℕ) → IsOther before s.session m → IsBehind n m (body.Prepare s.session (length (texts_of s.saved.entries) + 1) text) (given_all c n (site (Up y) disk) ds)
prepares_behind c before n x y disk s p text (Does (Spreads receivers b) ∷ ds) sits covers follows m other =
    let r : NodeState = state_of x.seat in
    let same : r ≡ s = ap state_of sits in
    let member : has (set_without s.saved.members n) m ≡ true = subst (λ z. CoversIn before n true z) sits covers m other in
    let set : receivers ≡ set_without s.saved.members n = follows.0 ∙ ap (λ (z : NodeState). set_without z.saved.members n) same in
    let message : b ≡ body.Prepare s.session (length (texts_of s.saved.entries) + 1) text =
    follows.1 ∙ ap (λ (z : NodeState). body.Prepare z.session (length (texts_of z.saved.entries) + 1) text) same in
    behind_more n m (body.Prepare s.session (length (texts_of s.saved.entries) + 1) text) (sent_to receivers b) (given_all c n (site (Up y) disk) ds)
    (subst (λ z. IsBehind n m (body.Prepare s.session (length (texts_of s.saved.entries) + 1) text) (sent_to receivers z)) (sym message)
    (spread_behind n m receivers (body.Prepare s.session (length (texts_of s.saved.entries) + 1) text) other.0 (ap (λ z. has z m) set ∙ member)))
prepares_behind c before n x y disk s p text _ sits covers follows m other = absurd follows

saved_so : (c : Cluster) (M : Memberships) (before : List Moment) (n : ℕ) (told : Delivered) (x y : UpNode) (disk kept : NodeRecord) (change : Change) (ds : List Doing) → NodeTied c M n disk (Up x)
    → MayChange c n told x change → CoversUp before n x → FollowsIn n x change ds → AreSo before n (given_all c n (site (Up y) kept) ds)
    → AreSo before n ((first_lines n change ++ saved_lines c n x change) ++ given_all c n (site (Up y) kept) ds)
saved_so c M before n told x y disk kept (Proposes s p text) ds tied may covers follows rest =
    let held : CoversIn before n true x.seat = subst (λ (z : Option Presidency). CoversIn before n (is_some z) x.seat) may.0 covers in (
      (
        president_own c M n disk x p s may.0 may.1 tied,
        prepare_short c x p n s.session (length (texts_of s.saved.entries) + 1) text may.3,
        λ m other. inr (prepares_behind c before n x y kept s p text ds may.1 held follows m other),
      ),
      (same_number n, rest),
    )
saved_so c M before n told x y disk kept change ds tied may covers follows rest =
    both_so before n (first_lines n change ++ saved_lines c n x change) (given_all c n (site (Up y) kept) ds)
    (are_so before n (first_lines n change ++ saved_lines c n x change)
    (both_are n (first_lines n change) (saved_lines c n x change) (first_are n change tt) (same_number n, last_are c M n told x disk change tied may)))
    rest

-- where the save is lost the node goes down
lost_so : (c : Cluster) (M : Memberships) (before : List Moment) (n : ℕ) (told : Delivered) (x : UpNode) (disk : NodeRecord) (change : Change) (why : DownCause) → NodeTied c M n disk (Up x)
    → MayChange c n told x change → AreSo before n (first_lines n change ++ gone_line n why)
lost_so c M before n told x disk (Proposes s p text) why tied may = (
  (president_own c M n disk x p s may.0 may.1 tied, prepare_short c x p n s.session (length (texts_of s.saved.entries) + 1) text may.3, λ m other. inl refl),
  (same_number n, tt),
)
lost_so c M before n told x disk change why tied may =
    are_so before n (first_lines n change ++ gone_line n why) (both_are n (first_lines n change) (gone_line n why) (first_are n change tt) (same_number n, tt))

-- ---- small steps

doing_so : (c : Cluster) (M : Memberships) (before : List Moment) (n : ℕ) (told : Delivered) (node : Node) (disk : NodeRecord) (d : Doing) (ds : List Doing) → NodeTied c M n disk node
    → May c n told (site node disk) d → DoingIs n (site node disk) d ds → Covers before n node → AreSo before n (given_all c n (effect c n (site node disk) d) ds)
    → AreSo before n (gives c n (site node disk) d ++ given_all c n (effect c n (site node disk) d) ds)
doing_so c M before n told node disk Comes_up ds tied may is covers rest = (same_number n, rest)
doing_so c M before n told node disk (Goes_down why) ds tied may is covers rest = (same_number n, rest)
doing_so c M before n told Down disk (Does a) ds tied may is covers rest = absurd may
doing_so c M before n told (Up x) disk (Does a) ds tied may is covers rest =
    both_so before n (said c n x a) (given_all c n (effect c n (site (Up x) disk) (Does a)) ds) (are_so before n (said c n x a) (act_are c M n told x disk a tied may is)) rest
doing_so c M before n told Down disk (Saves change) ds tied may is covers rest = absurd may
doing_so c M before n told (Up x) disk (Saves change) ds tied may is covers rest =
    saved_so c M before n told x (changed c n x change) disk (record_of (changed c n x change)) change ds tied may covers is rest
doing_so c M before n told Down disk (Loses change why) ds tied may is covers rest = absurd may
doing_so c M before n told (Up x) disk (Loses change why) ds tied may is covers rest =
    both_so before n (first_lines n change ++ gone_line n why) (given_all c n (effect c n (site (Up x) disk) (Loses change why)) ds) (lost_so c M before n told x disk change why tied may) rest
doing_so c M before n told Down disk (Forgets change why) ds tied may is covers rest = absurd may
doing_so c M before n told (Up x) disk (Forgets change why) ds tied may is covers rest =
    both_so before n (first_lines n change ++ gone_line n why) (given_all c n (effect c n (site (Up x) disk) (Forgets change why)) ds) (lost_so c M before n told x disk change why tied may) rest

-- what a step gives is so, and a president is one with its members
pub record AllSo (before : List Moment) (n : ℕ) (os : List Output) (after : Node) : Type 0 where
  pub so : AreSo before n os
  pub covers : Covers before n after

started_grows : (before : List Moment) (M N : Memberships) → Grows M N → AreStarted before M → AreStarted before N
started_grows before M N g h = λ e is. (g.epoch e).started (h e is)

pub all_so : (c : Cluster) (M : Memberships) (before : List Moment) (n : ℕ) (told : Delivered) (x : Site) (ds : List Doing) → All IsDevice c.attached → Holds (setting_of c) M → Known M told
    → AreStarted before M → SiteTied c M n x → MayAll c n told x ds → AllDoOwn c n x ds → Covers before n x.node → AllSo before n (given_all c n x ds) (after_all c n x ds).node
all_so c M before n told x [] fits holds known started tied may own covers = record { so = tt; covers = covers }
all_so c M before n told x (d ∷ ds) fits holds known started tied may own covers =
    let g : GoesOn c M n (effect c n x d) (gives c n x d) (of_doing n d) = does_one c M n told x d fits holds known tied may.0 in
    let rest : AllSo before n (given_all c n (effect c n x d) ds) (after_all c n (effect c n x d) ds).node =
    all_so c g.machine before n told (effect c n x d) ds fits g.holds (known_stays c M g.machine told holds g.grows known) (started_grows before M g.machine g.grows started) g.tied may.1 own.1
    (doing_covers before n c M told x.node x.disk d holds started tied may.0 covers) in
    record { so = doing_so c M before n told x.node x.disk d ds tied may.0 own.0 covers rest.so; covers = rest.covers }
