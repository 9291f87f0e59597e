-- What is done in memory, and sent, keeps the tie, and what is sent is true.
use Rattle.std.specs.Prelude.{ℕ, ◌-◌, ◌≡◌, ◌<◌, ◌≤◌, ◌⊎◌, ◌++◌, ◌+◌, true, false, List, [], ◌∷◌, flat_map, length, map, slice_get, take, Option, None, Some, IsSome, Ok, Err}
use Rattle.std.proofs.Common.{refl, sym, ap, subst, ◌∙◌, inl, inr, arith}
use Rattle.ccr_commit.specs.Entries.{texts_of}
use Rattle.cl_base.specs.Limits.{most_nodes}
use Rattle.cl_base.specs.Numbers.{numbers_to}
use Rattle.cl_base.specs.Sets.{has}
use Rattle.pgr_device.specs.declared.command.PrAnswer.TheVariants as given
use Rattle.rg_view.specs.States as states
use Rattle.seize.specs.Answers.{Answer}
use Rattle.wire.specs.declared.message.Body.{Body}
use Rattle.wire.specs.declared.message.Body.TheVariants as body
use Rattle.cmm_attempt.specs.declared.phase.Phase.TheVariants.{Installing}
use Rattle.cmm_attempt.specs.Attempts.{AttemptState, install_in}
use Rattle.cmm_attempt.specs.Calls.{Call, installs_in, turn}
use Rattle.cmm_attempt.proofs.Basics.{false_true, if_either, none_some}
use Rattle.cmm_member.specs.Machine.{saved_of}
use Rattle.cmm_member.specs.Nodes.{NodeState, with_joined, with_valid}
use Rattle.cmm_member.specs.Records.{NodeRecord}
use Rattle.cl_base.specs.Sets.{set_without}
use Rattle.membership_machine.specs.Events.{Crash, Event, Run, after}
use Rattle.membership_machine.specs.Invariant.{Holds}
use Rattle.membership_machine.specs.State.{Memberships}
use Rattle.membership_machine.specs.Votes.{Setting}
use Rattle.membership_machine.proofs.Growth.{grows_over}
use Rattle.attempt_laws.specs.Machine.{is_member, record_in}
use Rattle.node_model.specs.Configurations.{configured_at}
use Rattle.node_model.specs.declared.cluster.Cluster.{Cluster}
use Rattle.node_model.specs.declared.node.Node.{Node}
use Rattle.node_model.specs.declared.node.Node.TheVariants.{Down, Up}
use Rattle.node_model.specs.declared.node.UpNode.{UpNode}
use Rattle.node_model.specs.declared.output.Output.{Output}
use Rattle.node_model.specs.declared.output.Output.TheVariants.{Sends, Tells}
use Rattle.node_model.specs.declared.presidency.Presidency.{Presidency}
use Rattle.node_model.specs.declared.seat.Seat.{Seat}
use Rattle.node_model.specs.declared.seat.Seat.TheVariants.{Forming, Member}
use Rattle.node_model.specs.Attempts.{adopted_line, adopted_lines, adopted_of, adopted_on, base_lines, is_adopted, seizing_here, starting_as}
use Rattle.node_model.specs.Configurations.{in_force}
use Rattle.node_model.specs.Entries.{unknown_line, unknown_lines}
use Rattle.node_model.specs.Presidents.{last_place, sent_to}
use Rattle.node_model.specs.Updates.{later_presidency, request_again, request_again_by, request_again_to}
use Rattle.request_queue.specs.Queue.{goes_again, oldest}
use Rattle.request_queue.specs.declared.request.Request.{Request}
use Rattle.node_model.specs.Seats as seats
use Rattle.node_model.specs.Seats.{coordinator_of, installed_of, record_of, session_of, state_of, with_state}
use Rattle.node_model.specs.Ticks.{heartbeat_of, heartbeats_to, later, ticked_output}
use Rattle.heartbeats.specs.Views.{receivers_of}
use Rattle.cmm_attempt.specs.Calls.{IsDevice}
use Rattle.std.specs.Prelude.{All}
use Rattle.refinement.specs.Doings.{Act, Change, Doing, Site, acted, adopted_by, changed, effect, first_lines, gives, going, gone_line, last_lines, minded, said, saved_lines, site, start_lines, superseded_lines, write_lines}
use Rattle.refinement.specs.Doings.Act.{Accepts, Dates, Ends, Gives, Goes_on, Hears, Makes, Minds, Notes, Queues, Spreads, Stores, Takes, Ticks, Waits, Works, Writes}
use Rattle.refinement.specs.Doings.Change.{Acks, Admits, Commits, Counts, Distrusts, Installs, Leads, Prepares, Promises, Proposes, Sits, Starts}
use Rattle.refinement.specs.Doings.Doing.{Comes_up, Does, Forgets, Goes_down, Loses, Saves}
use Rattle.refinement.specs.Events.{of_act, of_change, of_doing, of_forgotten}
use Rattle.refinement.specs.Guards.{May, MayAct, MayCall, MayChange, MayWrite, OfAttempt, SameProposed, TellNothing, TellsNothing}
use Rattle.refinement.specs.Ties.{AllTold, Coordinates, CountedIn, Delivered, GoesOn, InstallTold, Known, MessageTold, NodeTied, PresidentTied, Presides, ProposedTied, SeatTied, SiteTied, setting_of}
use Rattle.refinement.proofs.Attempts.{Shown, goes_on_so}
use Rattle.refinement.proofs.Changes.{ChangeGoes, Sees, goes_down, leads, promises, sees, shown}
use Rattle.refinement.proofs.Installs.{counts, installs, retied, sits, starts}
use Rattle.refinement.proofs.Presidents.{MemberTied, acked_length, acknowledges, commits, member_tied, notes, prepares, proposal_lost, proposes}
use Rattle.refinement.proofs.Texts.{one_longer, slice_last, slice_part, texts_some}
use Rattle.refinement.proofs.Ties.{no_attempt, no_event, told_append}

-- Lines tell nothing of the machine.

told_base : (M : Memberships) (n e before : ℕ) (texts : List (List ℕ)) → AllTold M n (base_lines e before texts)
told_base M n e before [] = tt
told_base M n e before (text ∷ texts) = (tt, told_base M n e (before + 1) texts)

told_superseded : (M : Memberships) (n p : ℕ) (o : Option AttemptState) → AllTold M n (superseded_lines p o)
told_superseded M n p None = tt
told_superseded M n p (Some a) = (tt, tt)

first_told : (M : Memberships) (n : ℕ) (ch : Change) → AllTold M n (first_lines n ch)
first_told M n (Admits at command a d) = (tt, tt)
first_told M n (Proposes s p text) = (tt, tt)
first_told M n (Acks s p q left text) = tt
first_told M n (Prepares s text) = tt
first_told M n (Commits s) = tt
first_told M n (Promises p) = tt
first_told M n (Leads p members) = tt
first_told M n (Counts a k s i) = tt
first_told M n (Installs s i) = tt
first_told M n (Starts a k s) = tt
first_told M n (Sits s e) = tt
first_told M n (Distrusts d) = tt

told_unknown : (M : Memberships) (n : ℕ) (rs : List Request) → AllTold M n (unknown_lines n rs)
told_unknown M n [] = tt
told_unknown M n (r ∷ rs) = told_append M n (unknown_line n r) (unknown_lines n rs) (one_unknown r) (told_unknown M n rs)
  where
    one_unknown : (q : Request) → AllTold M n (unknown_line n q)
    one_unknown q = if_either (λ os. AllTold M n os) q.told _ [] (tt, tt) tt

-- nothing but lines
abbrev AllTell : List Output → Type 0
AllTell [] = Unit {0}
AllTell (Tells e ∷ os) = AllTell os
AllTell (Sends to b ∷ os) = ⊥

told_lines : (M : Memberships) (n : ℕ) (os : List Output) → AllTell os → AllTold M n os
told_lines M n [] h = tt
told_lines M n (Tells e ∷ os) h = (tt, told_lines M n os h)
told_lines M n (Sends to b ∷ os) h = absurd h

tell_append : (os more : List Output) → AllTell os → AllTell more → AllTell (os ++ more)
tell_append [] more h k = k
tell_append (Tells e ∷ os) more h k = tell_append os more h k
tell_append (Sends to b ∷ os) more h k = absurd h

tell_each : {X : Type 0} → (f : X → List Output) (xs : List X) → ((x : X) → AllTell (f x)) → AllTell (flat_map f xs)
tell_each f [] h = tt
tell_each f (x ∷ xs) h = tell_append (f x) (flat_map f xs) (h x) (tell_each f xs h)

adopted_lines_tell : (c : Cluster) (a : AttemptState) (y : UpNode) → AllTell (adopted_by c a y)
unfolding adopted_lines
adopted_lines_tell c a y = by_presidency y.presidency
  where
    by_presidency : (o : Option Presidency) → AllTell (adopted_of a.plan.epoch (in_force c y) o)
    by_presidency None = tt
    by_presidency (Some p) =
        tell_each (adopted_on a.plan.epoch p.groups.view (in_force c y).groups.resources) (numbers_to p.groups.view.members most_nodes)
        (λ m. tell_each (λ r. adopted_line a.plan.epoch m r.0 (states.state_of p.groups.view.resources r.0 m)) (in_force c y).groups.resources
        (λ r. if_either AllTell (is_adopted (states.state_of p.groups.view.resources r.0 m)) _ [] tt tt))

last_told : (c : Cluster) (M : Memberships) (n : ℕ) (x : UpNode) (ch : Change) → AllTold M n (last_lines c n x ch)
last_told c M n x (Promises p) = told_append M n (superseded_lines p x.attempt) (unknown_lines n x.requests.waiting) (told_superseded M n p x.attempt) (told_unknown M n x.requests.waiting)
last_told c M n x (Leads p members) = (tt, told_unknown M n x.requests.waiting)
last_told c M n x (Counts a k s i) = (tt, tt)
last_told c M n x (Installs s i) = (tt, tt)
last_told c M n x (Starts a k s) =
    let t : AttemptState = (turn a k).after in
    let adopted : List Output = adopted_by c t (starting_as c n x t s) in
    told_append M n (start_lines t s) (adopted ++ _) (tt, told_base M n _ 0 _) (told_append M n adopted _ (told_lines M n adopted (adopted_lines_tell c t (starting_as c n x t s))) (tt, tt))
last_told c M n x (Sits s e) = (tt, tt)
last_told c M n x (Distrusts d) = tt
last_told c M n x (Admits at command a d) = tt
last_told c M n x (Proposes s p text) = tt
last_told c M n x (Acks s p q left text) = (tt, tt)
last_told c M n x (Prepares s text) = tt
last_told c M n x (Commits s) = tt

saved_told : (c : Cluster) (M : Memberships) (n : ℕ) (x : UpNode) (ch : Change) → AllTold M n (first_lines n ch ++ saved_lines c n x ch)
saved_told c M n x ch = told_append M n (first_lines n ch) (saved_lines c n x ch) (first_told M n ch) (tt, last_told c M n x ch)

lost_told : (M : Memberships) (n : ℕ) (ch : Change) (more : List Output) → AllTold M n more → AllTold M n (first_lines n ch ++ more)
lost_told M n ch more h = told_append M n (first_lines n ch) more (first_told M n ch) h

told_beats : (M : Memberships) (n : ℕ) (x : UpNode) (ns : List ℕ) → AllTold M n (map (λ k. Sends k (heartbeat_of x)) ns)
told_beats M n x [] = tt
told_beats M n x (k ∷ ns) = (tt, told_beats M n x ns)

told_heartbeats : (M : Memberships) (n : ℕ) (x : UpNode) (receivers : ℕ) → AllTold M n (heartbeats_to x receivers)
unfolding heartbeats_to
told_heartbeats M n x receivers = told_beats M n x (numbers_to receivers most_nodes)

told_write : (M : Memberships) (n : ℕ) (x : UpNode) (d value : ℕ) (a : Answer) → AllTold M n (write_lines n x d value a)
told_write M n x d value (Ok given.Good) = (tt, tt)
told_write M n x d value (Ok given.Conflict) = (tt, tt)
told_write M n x d value (Ok given.InvalidRelease) = (tt, tt)
told_write M n x d value (Ok given.NoPath) = (tt, tt)
told_write M n x d value (Ok (given.Keys keys)) = (tt, tt)
told_write M n x d value (Ok (given.Holder holder)) = (tt, tt)
told_write M n x d value (Ok (given.Word w)) = (tt, tt)
told_write M n x d value (Ok (given.Value v)) = (tt, tt)
told_write M n x d value (Ok (given.Miscompare w)) = (tt, tt)
told_write M n x d value (Err e) = (tt, tt)

-- the same small step, which gives this besides
with_lines : (c : Cluster) (M : Memberships) (n : ℕ) (y : Site) (os : List Output) (events : List Event) → GoesOn c M n y [] events → ((N : Memberships) → AllTold N n os) → GoesOn c M n y os events
with_lines c M n y os events h told = record {
  machine = h.machine;
  run = h.run;
  holds = h.holds;
  grows = h.grows;
  tied = h.tied;
  others = h.others;
  said = told h.machine;
}

pub run_append : (S : Setting) (M N L : Memberships) (events more : List Event) → Run S M events N → Run S N more L → Run S M (events ++ more) L
run_append S M N L [] more h k = subst (λ x. Run S x more L) h k
run_append S M N L (e ∷ events) more h k = (h.0, run_append S (after M e) N L events more h.1 k)

-- a small step, and then the node goes down
and_down : (c : Cluster) (M : Memberships) (n : ℕ) (y : Site) (events : List Event) → GoesOn c M n y [] events → GoesOn c M n (site Down y.disk) [] (events ++ Crash n ∷ [])
and_down c M n y events h =
    let k : GoesOn c h.machine n (site Down y.disk) [] (Crash n ∷ []) = goes_down c h.machine n y h.holds h.tied in
    record {
      machine = k.machine;
      run = run_append (setting_of c) M h.machine k.machine events (Crash n ∷ []) h.run k.run;
      holds = k.holds;
      grows = grows_over M h.machine k.machine h.grows k.grows;
      tied = k.tied;
      others = λ j ne. k.others j ne ∙ h.others j ne;
      said = tt;
    }

-- Each change.
pub change_goes : (c : Cluster) (M : Memberships) (n : ℕ) (told : Delivered) (x : UpNode) (disk : NodeRecord) (ch : Change) → All IsDevice c.attached → Holds (setting_of c) M → Known M told
    → NodeTied c M n disk (Up x) → MayChange c n told x ch → ChangeGoes c M n (changed c n x ch) (of_change n ch)
change_goes c M n told x disk (Promises p) fits i known tied may = promises c M n told x disk p i known tied may
change_goes c M n told x disk (Leads p members) fits i known tied may = leads c M n told x disk p members fits i tied may
change_goes c M n told x disk (Counts a k s j) fits i known tied may = counts c M n told x disk a k s j i known tied may
change_goes c M n told x disk (Installs s j) fits i known tied may = installs c M n told x disk s j i known tied may
change_goes c M n told x disk (Starts a k s) fits i known tied may = starts c M n told x disk a k s i known tied may
change_goes c M n told x disk (Sits s e) fits i known tied may = sits c M n told x disk s e i known tied may
change_goes c M n told x disk (Distrusts d) fits i known tied may =
    let s : NodeState = with_valid (state_of x.seat) (set_without (record_of x).valid d) in
    let e : Sees M n disk (state_of x.seat) = sees c M n disk x.attempt x.seat tied.0 in
    no_event c M n (site (Up (changed c n x (Distrusts d))) (record_of (changed c n x (Distrusts d)))) [] i
    (retied c M n disk x.attempt x.presidency x.seat s refl refl refl refl refl e.disk_so tied) tt
change_goes c M n told x disk (Admits at command a d) fits i known tied may =
    let s : NodeState = with_joined (state_of x.seat) d in
    let e : Sees M n disk (state_of x.seat) = sees c M n disk x.attempt x.seat tied.0 in
    no_event c M n (site (Up (changed c n x (Admits at command a d))) (record_of (changed c n x (Admits at command a d)))) [] i
    (retied c M n disk x.attempt x.presidency x.seat s refl refl refl refl refl e.disk_so tied) tt
change_goes c M n told x disk (Proposes s p text) fits i known tied may = proposes c M n told x disk s p text i tied may
change_goes c M n told x disk (Acks s p q left text) fits i known tied may = acknowledges c M n told x disk s p q left text i tied may
change_goes c M n told x disk (Prepares s text) fits i known tied may = prepares c M n told x disk s text i known tied may
change_goes c M n told x disk (Commits s) fits i known tied may = commits c M n told x disk s i known tied may

-- What is sent is true.

of_attempt : (c : Cluster) (M : Memberships) (n : ℕ) (disk : NodeRecord) (o : Option AttemptState) (seat : Seat) (P : AttemptState → Type 0) (Q : Type 0) → SeatTied c M n disk o seat → OfAttempt P o
    → ((s : NodeState) (a : AttemptState) → Coordinates c M n s a → P a → Q) → Q
of_attempt c M n disk None seat P Q tied h f = absurd h
of_attempt c M n disk (Some a) (Forming s) P Q tied h f = f s a tied.2 h
of_attempt c M n disk (Some a) (Member s) P Q tied h f = absurd (none_some a (sym tied.2))

less_or_same : (x y : ℕ) → x ≤ y → (x < y) ⊎ (x ≡ y)
less_or_same x y h = grind arith

-- a Promise of the session
promise_told : (c : Cluster) (M : Memberships) (n : ℕ) (disk : NodeRecord) (x : UpNode) (p : ℕ) (r : NodeRecord) → Holds (setting_of c) M → Sees M n disk (state_of x.seat) → 0 < p → p ≡ session_of x
    → ((M.node n).answered p ≡ true) × (((M.node n).showed p ≡ saved_of (record_of x)) ⊎ ((M.epoch p).counted ≡ true))
promise_told c M n disk x p r i e low session = (
  subst (λ q. (M.node n).answered q ≡ true) at ((i.node n).answered_session some),
  by_cases (less_or_same (M.node n).saved.installed (M.node n).session (subst (λ q. (M.node n).saved.installed ≤ q) (sym ((i.node n).session some)) (i.node n).installed)),
)
  where
    at : (M.node n).session ≡ p
    at = e.session ∙ sym session

    some : 0 < (M.node n).session
    some = subst (λ q. 0 < q) (sym at) low

    by_cases : ((M.node n).saved.installed < (M.node n).session) ⊎ ((M.node n).saved.installed ≡ (M.node n).session)
        → ((M.node n).showed p ≡ saved_of (record_of x)) ⊎ ((M.epoch p).counted ≡ true)
    by_cases (inl below) = inl (subst (λ q. (M.node n).showed q ≡ (M.node n).saved) at ((i.node n).showed_again some below) ∙ e.saved)
    by_cases (inr same) = inr (subst (λ q. (M.epoch q).counted ≡ true) (same ∙ at) ((i.node n).fits.counted (subst (λ q. 0 < q) (sym same) some)))

start_told : (c : Cluster) (M : Memberships) (n : ℕ) (disk : NodeRecord) (o : Option AttemptState) (seat : Seat) (p : ℕ) → Holds (setting_of c) M → SeatTied c M n disk o seat
    → seats.is_member seat ≡ true → p ≡ (state_of seat).session → (M.epoch p).started ≡ true
start_told c M n disk o (Forming s) p i tied member session = absurd (false_is_true member)
  where
    false_is_true : false ≡ true → ⊥
    false_is_true h = cc
start_told c M n disk o (Member s) p i tied member session =
    subst (λ q. (M.epoch q).started ≡ true) (tied.0.session ∙ sym session) ((i.node n).member_started tied.0.member)

-- a president is a member
pub of_president : (c : Cluster) (M : Memberships) (n : ℕ) (disk : NodeRecord) (x : UpNode) (Q : Type 0) → NodeTied c M n disk (Up x) → IsSome x.presidency
    → ((s : NodeState) (p : Presidency) → x.seat ≡ Member s → MemberTied c M n x s → Presides M n s p → Q) → Q
of_president c M n disk x Q tied some f = by_presidency x.presidency x.seat refl refl tied.1
  where
    by_presidency : (o : Option Presidency) (seat : Seat) → x.presidency ≡ o → x.seat ≡ seat → PresidentTied M n o seat → Q
    by_presidency None seat is at h = absurd (false_true (subst (λ z. IsSome z) is some))
    by_presidency (Some p) (Forming s) is at h = absurd h
    by_presidency (Some p) (Member s) is at h = f s p at (member_tied c M n x disk s tied at) h

-- what is pending at a member stands in the log at the last place
prepare_told : (c : Cluster) (M : Memberships) (n : ℕ) (x : UpNode) (s : NodeState) (e place : ℕ) (text : List ℕ) → Holds (setting_of c) M → x.seat ≡ Member s → MemberTied c M n x s
    → e ≡ session_of x → place ≡ last_place x → (record_of x).entries.pending ≡ Some text → slice_get (M.epoch e).log (place - 1) ≡ Some text
prepare_told c M n x s e place text i at m session last pending =
    let own : s.saved.entries.pending ≡ Some text = ap (λ z. (state_of z).saved.entries.pending) (sym at) ∙ pending in
    let here : e ≡ s.session = session ∙ ap (λ z. (state_of z).session) at in
    let entries : (M.node n).saved.entries ≡ texts_of s.saved.entries = ap (λ r. r.entries) m.shows.saved in
    let q : (M.node n).saved.installed ≡ e = sym ((i.node n).member_installed m.shows.member) ∙ (m.shows.session ∙ sym here) in
    let part : texts_of s.saved.entries ≡ take (length (texts_of s.saved.entries)) (M.epoch e).log =
    subst (λ (es : List (List ℕ)). es ≡ take (length es) (M.epoch e).log) entries (subst (λ z. (M.node n).saved.entries ≡ take (length (M.node n).saved.entries) (M.epoch z).log) q (i.node n).fits.entries) in
    let count : place - 1 ≡ length s.saved.entries.committed =
    less_one place (length s.saved.entries.committed) (last ∙ (ap (λ z. length (texts_of (state_of z).saved.entries)) at ∙ (ap length (texts_some s.saved.entries text own) ∙ one_longer s.saved.entries.committed text))) in
    slice_part (texts_of s.saved.entries) (M.epoch e).log (place - 1) text part
    (subst (λ k. slice_get (texts_of s.saved.entries) k ≡ Some text) (sym count)
    (subst (λ (es : List (List ℕ)). slice_get es (length s.saved.entries.committed) ≡ Some text) (sym (texts_some s.saved.entries text own)) (slice_last s.saved.entries.committed text)))
  where
    less_one : (a b : ℕ) → a ≡ b + 1 → a - 1 ≡ b
    less_one a b h = omega (arith, h)

commit_told : (c : Cluster) (M : Memberships) (n : ℕ) (x : UpNode) (s : NodeState) (p : Presidency) (e place : ℕ) → Holds (setting_of c) M → x.seat ≡ Member s → MemberTied c M n x s → Presides M n s p
    → e ≡ session_of x → place ≤ length (record_of x).entries.committed → place ≤ (M.epoch e).acked
commit_told c M n x s p e place i at m presides session most =
    let here : s.session ≡ e = ap (λ z. (state_of z).session) (sym at) ∙ sym session in
    subst (λ q. place ≤ (M.epoch q).acked) here
    (subst (λ v. place ≤ v) (ap (λ z. length (state_of z).saved.entries.committed) at ∙ acked_length c M n s i m.shows presides.own) most)

pub write_told : (c : Cluster) (M : Memberships) (n : ℕ) (disk : NodeRecord) (x : UpNode) (b : Body) → Holds (setting_of c) M → NodeTied c M n disk (Up x) → MayWrite x b → MessageTold M n b
write_told c M n disk x (body.Collect p members) i tied may =
    of_attempt c M n disk x.attempt x.seat (λ a. (p ≡ a.plan.epoch) × (members ≡ a.plan.members)) (MessageTold M n (body.Collect p members)) tied.0 may
    (λ s a co so. (
      subst (λ q. (M.epoch q).tried ≡ true) (sym so.0) co.has.tried,
      λ m. ap (λ q. (M.epoch q).members m) so.0 ∙ (co.has.members m ∙ ap (λ z. is_member z m) (sym so.1)),
    ))
write_told c M n disk x (body.Promise p installed members valid flagged committed pending) i tied may =
    let e : Sees M n disk (state_of x.seat) = sees c M n disk x.attempt x.seat tied.0 in
    let so : ((M.node n).answered p ≡ true) × (((M.node n).showed p ≡ saved_of (record_of x)) ⊎ ((M.epoch p).counted ≡ true)) = promise_told c M n disk x p disk i e may.0 may.1 in
    (so.0, subst (λ r. ((M.node n).showed p ≡ r) ⊎ ((M.epoch p).counted ≡ true)) (sym (ap record_in may.2)) so.1)
write_told c M n disk x (body.Install j) i tied may =
    of_attempt c M n disk x.attempt x.seat (λ a. (a.phase ≡ Installing) × (j ≡ install_in a)) (InstallTold M j) tied.0 may
    (λ s a co so. subst (λ z. InstallTold M z) (sym so.1) (subst (CountedIn M s a) so.0 co.counted).1)
write_told c M n disk x (body.Ready p joined report) i tied may =
    let e : Shown M n (state_of x.seat) = shown c M n disk x.attempt x.seat tied.0 in
    let at : (M.node n).saved.installed ≡ p = e.installed ∙ sym may.2 in
    subst (λ q. (M.node n).ready q ≡ true) at ((i.node n).ready_last (subst (λ q. 0 < q) (sym at) may.0))
write_told c M n disk x (body.Start p) i tied may = start_told c M n disk x.attempt x.seat p i tied.0 may.0 may.1
write_told c M n disk x (body.Heartbeat promised session member) i tied may = tt
write_told c M n disk x (body.Nack e promised) i tied may = tt
write_told c M n disk x (body.SeizeQuorum e members d) i tied may = tt
write_told c M n disk x (body.SeizeData e members d) i tied may = tt
write_told c M n disk x (body.Seized e d outcome) i tied may = tt
write_told c M n disk x (body.Prepare e place text) i tied may =
    of_president c M n disk x (MessageTold M n (body.Prepare e place text)) tied may.0 (λ s p at m presides. prepare_told c M n x s e place text i at m may.1 may.2 may.3)
write_told c M n disk x (body.Prepared e place) i tied may =
    let shows : Shown M n (state_of x.seat) = shown c M n disk x.attempt x.seat tied.0 in
    let see : Sees M n disk (state_of x.seat) = sees c M n disk x.attempt x.seat tied.0 in
    let at : (M.node n).saved.installed ≡ e = shows.installed ∙ sym may.2 in (
      subst (λ q. (M.node n).ready q ≡ true) at ((i.node n).ready_last (subst (λ q. 0 < q) (sym at) may.0)),
      subst (λ v. place ≤ v) (sym (ap (λ q. (M.node n).reached q) (sym at) ∙ ((i.node n).reached_last ∙ ap (λ r. length r.entries) see.saved))) may.3,
    )
write_told c M n disk x (body.Commit e place) i tied may =
    of_president c M n disk x (MessageTold M n (body.Commit e place)) tied may.0 (λ s p at m presides. commit_told c M n x s p e place i at m presides may.1 may.2)
write_told c M n disk x (body.Order o) i tied may = tt
write_told c M n disk x (body.Done e number outcome) i tied may = tt
write_told c M n disk x (body.Request e number text) i tied may = tt
write_told c M n disk x (body.Answer e number text) i tied may = tt
write_told c M n disk x (body.Excluded e newest) i tied may = tt

-- The attempt takes a call.

called_tied : (c : Cluster) (M : Memberships) (n : ℕ) (told : Delivered) (disk : NodeRecord) (seat : Seat) (a : AttemptState) (k : Call) → Holds (setting_of c) M → Known M told
    → SeatTied c M n disk (Some a) seat → MayCall c told a k → installs_in (turn a k).steps ≡ None → SeatTied c M n disk (Some (turn a k).after) seat
called_tied c M n told disk (Forming s) a k i known tied call none =
    (tied.0, tied.1, goes_on_so c M n s told a k i known (shown c M n disk (Some a) (Forming s) tied) tied.2 call none)
called_tied c M n told disk (Member s) a k i known tied call none = absurd (none_some a (sym tied.2))

-- Messages to many.

told_each : (M : Memberships) (n : ℕ) (b : Body) (ns : List ℕ) → MessageTold M n b → AllTold M n (map (λ k. Sends k b) ns)
told_each M n b [] h = tt
told_each M n b (k ∷ ns) h = (h, told_each M n b ns h)

told_sent : (M : Memberships) (n receivers : ℕ) (b : Body) → MessageTold M n b → AllTold M n (sent_to receivers b)
unfolding sent_to
told_sent M n receivers b h = told_each M n b (numbers_to receivers most_nodes) h

told_one : (M : Memberships) (n to : ℕ) (b : Body) → TellsNothing (Sends to b) → MessageTold M n b
told_one M n to (body.Request p number text) h = tt
told_one M n to (body.Answer p number text) h = tt
told_one M n to (body.Promise e installed members valid flagged committed pending) h = absurd h
told_one M n to (body.Heartbeat promised session member) h = absurd h
told_one M n to (body.Collect e members) h = absurd h
told_one M n to (body.Nack e promised) h = absurd h
told_one M n to (body.SeizeQuorum e members d) h = absurd h
told_one M n to (body.SeizeData e members d) h = absurd h
told_one M n to (body.Seized e d outcome) h = absurd h
told_one M n to (body.Install j) h = absurd h
told_one M n to (body.Ready e joined report) h = absurd h
told_one M n to (body.Start e) h = absurd h
told_one M n to (body.Prepare e place text) h = absurd h
told_one M n to (body.Prepared e place) h = absurd h
told_one M n to (body.Commit e place) h = absurd h
told_one M n to (body.Order o) h = tt
told_one M n to (body.Done e number outcome) h = absurd h
told_one M n to (body.Excluded e newest) h = absurd h

told_nothing : (M : Memberships) (n : ℕ) (os : List Output) → TellNothing os → AllTold M n os
told_nothing M n [] h = tt
told_nothing M n (Tells e ∷ os) h = (tt, told_nothing M n os h.1)
told_nothing M n (Sends to b ∷ os) h = (told_one M n to b h.0, told_nothing M n os h.1)

-- A tick: what goes again.

told_request : (M : Memberships) (n : ℕ) (x : UpNode) (r : Option Request) (o : Option ℕ) → AllTold M n (request_again_to x r o)
told_request M n x (Some r) (Some president) = (tt, tt)
told_request M n x None o = tt
told_request M n x (Some r) None = tt

told_request_by : (M : Memberships) (n : ℕ) (x : UpNode) (o : Option Presidency) → AllTold M n (request_again_by x o)
told_request_by M n x None = if_either (λ os. AllTold M n os) (goes_again x.requests) (request_again_to x (oldest x.requests) (coordinator_of x)) [] (told_request M n x (oldest x.requests) (coordinator_of x)) tt
told_request_by M n x (Some p) = tt

told_tick : (c : Cluster) (M : Memberships) (n : ℕ) (x : UpNode) → AllTold M n (ticked_output c x (later c x))
told_tick c M n x =
    let beats : List Output = heartbeats_to (later c x) (receivers_of (later c x).beats (configured_at c (later c x))) in
    told_append M n beats (request_again x) (told_heartbeats M n (later c x) (receivers_of (later c x).beats (configured_at c (later c x)))) (told_request_by M n x x.presidency)

-- A president with something else in hand.

later_president : (M : Memberships) (n : ℕ) (o : Option Presidency) (seat : Seat) → PresidentTied M n o seat → PresidentTied M n (later_presidency o) seat
later_president M n None seat h = tt
later_president M n (Some p) (Forming s) h = absurd h
later_president M n (Some p) (Member s) h = record { own = h.own; members = h.members; proposed = h.proposed }

minded_president : (M : Memberships) (n : ℕ) (o p : Option Presidency) (seat : Seat) → SameProposed o p → PresidentTied M n o seat → PresidentTied M n p seat
minded_president M n None None seat same h = tt
minded_president M n None (Some p) seat same h = absurd same
minded_president M n (Some q) None seat same h = tt
minded_president M n (Some q) (Some p) (Forming s) same h = absurd h
minded_president M n (Some q) (Some p) (Member s) same h =
    record { own = h.own; members = h.members; proposed = subst (λ z. ProposedTied M n s z) (sym same) h.proposed }

-- Each act.
pub act_goes : (c : Cluster) (M : Memberships) (n : ℕ) (told : Delivered) (x : UpNode) (disk : NodeRecord) (a : Act) → All IsDevice c.attached → Holds (setting_of c) M → Known M told
    → NodeTied c M n disk (Up x) → MayAct c n told x a → GoesOn c M n (site (Up (acted c n x a)) disk) (said c n x a) (of_act n a)
act_goes c M n told x disk (Hears from b) fits i known tied may = no_event c M n _ [] i tied tt
act_goes c M n told x disk Ticks fits i known tied may =
    no_event c M n (site (Up (later c x)) disk) _ i (tied.0, later_president M n x.presidency x.seat tied.1, tied.2) (tt, told_tick c M n x)
act_goes c M n told x disk Waits fits i known tied may = no_event c M n _ [] i tied tt
act_goes c M n told x disk (Goes_on a k) fits i known tied may =
    no_event c M n (site (Up (going x a k)) disk) [] i
    (called_tied c M n told disk x.seat a k i known (subst (λ o. SeatTied c M n disk o x.seat) may.0 tied.0) may.1 may.2, tied.1, tied.2) tt
act_goes c M n told x disk (Ends a e) fits i known tied may = no_event c M n _ _ i (no_attempt c M n disk x.attempt x.seat tied.0, tied.1, tied.2) (tt, tt)
act_goes c M n told x disk (Queues a d kind) fits i known tied may =
    no_event c M n (site (Up (seizing_here c n x d kind (Some a))) disk) [] i (if_either (λ y. NodeTied c M n disk (Up y)) (has a.plan.members n) _ x tied tied) tt
act_goes c M n told x disk (Accepts kind e members d) fits i known tied may = no_event c M n _ [] i tied tt
act_goes c M n told x disk (Takes at command a) fits i known tied may = no_event c M n _ _ i tied (tt, tt)
act_goes c M n told x disk (Stores d value a) fits i known tied may = no_event c M n _ _ i tied (tt, told_write M n x d value a)
act_goes c M n told x disk (Writes to b) fits i known tied may = no_event c M n _ _ i tied (write_told c M n disk x b i tied may, tt)
act_goes c M n told x disk (Gives os) fits i known tied may = no_event c M n _ _ i tied (told_nothing M n os may)
act_goes c M n told x disk (Spreads receivers b) fits i known tied may = no_event c M n _ _ i tied (told_sent M n receivers b (write_told c M n disk x b i tied may))
act_goes c M n told x disk (Minds q p) fits i known tied may =
    no_event c M n (site (Up (minded x q p)) disk) [] i (tied.0, minded_president M n x.presidency p x.seat may tied.1, tied.2) tt
act_goes c M n told x disk (Notes from place p) fits i known tied may =
    no_event c M n (site (Up (acted c n x (Notes from place p))) disk) [] i (notes c M n told x disk from place p i known tied may.0 may.1) tt
act_goes c M n told x disk (Dates now) fits i known tied may = no_event c M n _ [] i tied tt
act_goes c M n told x disk (Works w) fits i known tied may = no_event c M n _ [] i tied tt
act_goes c M n told x disk (Makes ch) fits i known tied may =
    let e : Sees M n disk (state_of x.seat) = sees c M n disk x.attempt x.seat tied.0 in
    with_lines c M n (site (Up (changed c n x ch)) disk) (first_lines n ch ++ last_lines c n x ch) (of_change n ch)
    (subst (λ r. GoesOn c M n (site (Up (changed c n x ch)) r) [] (of_change n ch)) (may.1 ∙ sym e.disk_so) (change_goes c M n told x disk ch fits i known tied may.0))
    (λ N. told_append N n (first_lines n ch) (last_lines c n x ch) (first_told N n ch) (last_told c N n x ch))

-- Each small step.

-- where the save has left the old record
forgets : (c : Cluster) (M : Memberships) (n : ℕ) (told : Delivered) (x : UpNode) (disk : NodeRecord) (ch : Change) → Holds (setting_of c) M
    → NodeTied c M n disk (Up x) → MayChange c n told x ch → GoesOn c M n (site Down disk) [] (of_forgotten n ch)
forgets c M n told x disk (Proposes s p text) i tied may = proposal_lost c M n told x disk s p text i tied may
forgets c M n told x disk (Promises p) i tied may = goes_down c M n (site (Up x) disk) i tied
forgets c M n told x disk (Leads p members) i tied may = goes_down c M n (site (Up x) disk) i tied
forgets c M n told x disk (Counts a k s j) i tied may = goes_down c M n (site (Up x) disk) i tied
forgets c M n told x disk (Installs s j) i tied may = goes_down c M n (site (Up x) disk) i tied
forgets c M n told x disk (Starts a k s) i tied may = goes_down c M n (site (Up x) disk) i tied
forgets c M n told x disk (Sits s e) i tied may = goes_down c M n (site (Up x) disk) i tied
forgets c M n told x disk (Distrusts d) i tied may = goes_down c M n (site (Up x) disk) i tied
forgets c M n told x disk (Admits at command a d) i tied may = goes_down c M n (site (Up x) disk) i tied
forgets c M n told x disk (Acks s p q left text) i tied may = goes_down c M n (site (Up x) disk) i tied
forgets c M n told x disk (Prepares s text) i tied may = goes_down c M n (site (Up x) disk) i tied
forgets c M n told x disk (Commits s) i tied may = goes_down c M n (site (Up x) disk) i tied

does_up : (c : Cluster) (M : Memberships) (n : ℕ) (told : Delivered) (x : UpNode) (disk : NodeRecord) (d : Doing) → All IsDevice c.attached → Holds (setting_of c) M → Known M told
    → NodeTied c M n disk (Up x) → May c n told (site (Up x) disk) d → GoesOn c M n (effect c n (site (Up x) disk) d) (gives c n (site (Up x) disk) d) (of_doing n d)
does_up c M n told x disk Comes_up fits i known tied may = absurd may
does_up c M n told x disk (Goes_down why) fits i known tied may =
    with_lines c M n (site Down disk) (gone_line n why) (Crash n ∷ []) (goes_down c M n (site (Up x) disk) i tied) (λ N. (tt, tt))
does_up c M n told x disk (Does a) fits i known tied may = act_goes c M n told x disk a fits i known tied may
does_up c M n told x disk (Saves ch) fits i known tied may =
    with_lines c M n _ (first_lines n ch ++ saved_lines c n x ch) (of_change n ch) (change_goes c M n told x disk ch fits i known tied may) (λ N. saved_told c N n x ch)
does_up c M n told x disk (Loses ch why) fits i known tied may =
    with_lines c M n _ (first_lines n ch ++ gone_line n why) (of_change n ch ++ Crash n ∷ [])
    (and_down c M n (site (Up (changed c n x ch)) (record_of (changed c n x ch))) (of_change n ch) (change_goes c M n told x disk ch fits i known tied may))
    (λ N. lost_told N n ch (gone_line n why) (tt, tt))
does_up c M n told x disk (Forgets ch why) fits i known tied may =
    with_lines c M n (site Down disk) (first_lines n ch ++ gone_line n why) (of_forgotten n ch) (forgets c M n told x disk ch i tied may)
    (λ N. lost_told N n ch (gone_line n why) (tt, tt))

does_down : (c : Cluster) (M : Memberships) (n : ℕ) (told : Delivered) (disk : NodeRecord) (d : Doing) → Holds (setting_of c) M
    → NodeTied c M n disk Down → May c n told (site Down disk) d → GoesOn c M n (effect c n (site Down disk) d) (gives c n (site Down disk) d) (of_doing n d)
does_down c M n told disk Comes_up i tied may = no_event c M n _ _ i ((tied.0, refl, tt), tt, tied.1) (tt, tt)
does_down c M n told disk (Goes_down why) i tied may = absurd may
does_down c M n told disk (Does a) i tied may = absurd may
does_down c M n told disk (Saves ch) i tied may = absurd may
does_down c M n told disk (Loses ch why) i tied may = absurd may
does_down c M n told disk (Forgets ch why) i tied may = absurd may

-- Under its guard each small step is these events of the machine, and keeps the tie.
pub does_one : (c : Cluster) (M : Memberships) (n : ℕ) (told : Delivered) (x : Site) (d : Doing) → All IsDevice c.attached → Holds (setting_of c) M → Known M told
    → SiteTied c M n x → May c n told x d → GoesOn c M n (effect c n x d) (gives c n x d) (of_doing n d)
does_one c M n told x d fits i known tied may = by_node x.node tied may
  where
    by_node : (node : Node) → NodeTied c M n x.disk node → May c n told (site node x.disk) d
        → GoesOn c M n (effect c n (site node x.disk) d) (gives c n (site node x.disk) d) (of_doing n d)
    by_node Down tied may = does_down c M n told x.disk d i tied may
    by_node (Up y) tied may = does_up c M n told y x.disk d fits i known tied may
