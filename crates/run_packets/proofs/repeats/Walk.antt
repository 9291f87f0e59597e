-- All that a node does in a step leaves what it has proposed as old as its Prepares are.
use Rattle.std.specs.Prelude.{ℕ, ◌+◌, ◌≡◌, ◌≤◌, ◌<◌, ◌⊎◌, ◌++◌, ◌==◌, ◌&&◌, ◌||◌, Bool, true, false, List, [], ◌∷◌, length, Option, None, Some, if◌then◌else◌}
use Rattle.std.proofs.Common.{refl, ap, sym, subst, ◌∙◌, inl, inr, arith}
use Rattle.attempt_laws.proofs.Stays.{plan_stays}
use Rattle.ccr_commit.specs.Entries.{all_committed, texts_of}
use Rattle.cmm_attempt.specs.Seizings.{held_set}
use Rattle.node_model.specs.Attempts.{base_lines}
use Rattle.cl_base.specs.Limits.{most_nodes}
use Rattle.cl_base.specs.Sets.{has, set_without}
use Rattle.std.specs.List.{list_any}
use Rattle.history.specs.Contact.{is_proposal}
use Rattle.history.specs.Order.{before_last}
use Rattle.run_history.proofs.Places.{is_same}
use Rattle.cmm_attempt.proofs.Basics.{and_cases, or_cases, false_true, none_some, same_number, same_some}
use Rattle.cmm_attempt.specs.Attempts.{AttemptState}
use Rattle.cmm_attempt.specs.Calls.{Call, turn}
use Rattle.cmm_member.specs.Nodes.{NodeState}
use Rattle.cmm_member.specs.Records.{NodeRecord}
use Rattle.history.specs.Messages.{pending_place}
use Rattle.history.specs.Moment.{Moment}
use Rattle.history.specs.Starts.{is_started}
use Rattle.history.specs.Trace.{ack, propose}
use Rattle.machine_base.specs.Epochs as machine
use Rattle.membership_machine.specs.Growth.{Grows}
use Rattle.membership_machine.specs.Invariant.{Holds}
use Rattle.membership_machine.specs.State.{Memberships}
use Rattle.node_model.specs.Presidents.{sent_to}
use Rattle.node_model.specs.Seats.{record_of, state_of}
use Rattle.node_model.specs.declared.cluster.Cluster.{Cluster}
use Rattle.node_model.specs.declared.node.Node.{Node}
use Rattle.node_model.specs.declared.node.Node.TheVariants.{Down, Up}
use Rattle.node_model.specs.declared.node.UpNode.{UpNode}
use Rattle.node_model.specs.declared.output.Output.{Output}
use Rattle.node_model.specs.declared.output.Output.TheVariants.{Tells}
use Rattle.node_model.specs.declared.presidency.Presidency.{Presidency}
use Rattle.node_model.specs.declared.seat.Seat.{Seat}
use Rattle.node_model.specs.declared.seat.Seat.TheVariants.{Forming, Member}
use Rattle.refinement.proofs.Attempts.{may_be_called}
use Rattle.refinement.specs.Doings.{Change, Doing, changed, first_lines, given_all, saved_lines, site, start_lines}
use Rattle.refinement.specs.Doings.Act.{Spreads}
use Rattle.refinement.specs.Doings.Change.{Acks, Proposes, Starts}
use Rattle.refinement.specs.Doings.Doing.{Does}
use Rattle.refinement.specs.Guards.{MayChange}
use Rattle.refinement.specs.Ties.{Coordinates, Delivered, NodeTied, SeatTied, setting_of}
use Rattle.request_queue.specs.Queue.{Queue}
use Rattle.run_history.proofs.Idle.{if_true, passing_started}
use Rattle.run_history.specs.Scenes.{Scene, passing, telling}
use Rattle.run_packets.proofs.prepares.Lines.{same_number as is_itself}
use Rattle.run_packets.proofs.prepares.Sending.{prepare_short, spread_behind}
use Rattle.run_packets.specs.prepares.Actors.{FollowsIn}
use Rattle.run_packets.specs.prepares.Proposals.{IsBehind}
use Rattle.status_report.specs.declared.entry.Entry.TheVariants as entry
use Rattle.status_report.specs.declared.start_entry.StartEntry.TheVariants as start
use Rattle.wire.specs.declared.message.Body.TheVariants as body
use Rattle.run_packets.specs.repeats.Ages.{Below, NodeIn, OfficeZero, SeatIn}
use Rattle.run_packets.proofs.repeats.Leading.{behind_first}
use Rattle.run_packets.proofs.repeats.Lines.{ArePlain, AreQuiet, passing_place, passing_proposals, quiet_plain}
use Rattle.run_packets.proofs.repeats.Steps.{IsOrdinary, acks_in, change_in, proposes_in, seat_quiet}

-- ---- what is so of each epoch in which an update is pending

abbrev pub OpenedBy : (ℕ → Type 0) → List Moment → Type 0
OpenedBy T ms = (e v : ℕ) → list_any (is_proposal e v) ms ≡ true → T e

-- it has its start line, and started in the machine
abbrev pub Begun : Memberships → List Moment → ℕ → Type 0
Begun M ms e = (is_started e ms ≡ true) × ((M.epoch e).started ≡ true)

abbrev pub OpenedIn : Memberships → List Moment → Type 0
OpenedIn M ms = OpenedBy (Begun M ms) ms

pub by_more : (T U : ℕ → Type 0) (ms : List Moment) → ((e : ℕ) → T e → U e) → OpenedBy T ms → OpenedBy U ms
by_more T U ms more h = λ e v is. more e (h e v is)

by_plain : (T : ℕ → Type 0) (n : ℕ) (first : List Output) (s : Scene) → ArePlain first → OpenedBy T s.moments → OpenedBy T (passing n first s).moments
by_plain T n first s plain h = λ e v is. h e v (sym (passing_proposals e v n first s plain) ∙ is)

by_ack : (T : ℕ → Type 0) (f w : ℕ) (text : List ℕ) (ms : List Moment) → OpenedBy T ms → OpenedBy T (ack f w text ∷ ms)
by_ack T f w text ms h = h

pub by_propose : (T : ℕ → Type 0) (f w : ℕ) (text : List ℕ) (ms : List Moment) → T f → OpenedBy T ms → OpenedBy T (propose f w text ∷ ms)
by_propose T f w text ms begun h = λ e v is. by_case e v (or_cases ((f == e) && (w == v)) (list_any (is_proposal e v) ms) is)
  where
    by_case : (e v : ℕ) → (((f == e) && (w == v)) ≡ true) ⊎ (list_any (is_proposal e v) ms ≡ true) → T e
    by_case e v (inl here) = subst T (same_number f e (and_cases (f == e) (w == v) here).0) begun
    by_case e v (inr there) = h e v there

-- ---- what is kept by small steps

pub record Kept (M : Memberships) (n : ℕ) (rest : List Output) (node : Node) (s : Scene) : Type 0 where
  pub here : NodeIn s.moments rest n node
  pub opened : OpenedIn M s.moments

abbrev pub ZeroIn : Node → Type 0
ZeroIn Down = Unit {0}
ZeroIn (Up x) = OfficeZero x.presidency

pub begun_grows : (M N : Memberships) (n : ℕ) (first : List Output) (s : Scene) → Grows M N → (e : ℕ) → Begun M s.moments e → Begun N (passing n first s).moments e
begun_grows M N n first s g e h = (passing_started e n first s h.0, (g.epoch e).started h.1)

pub plain_opened : (M N : Memberships) (n : ℕ) (first : List Output) (s : Scene) → Grows M N → ArePlain first → OpenedIn M s.moments → OpenedIn N (passing n first s).moments
plain_opened M N n first s g plain h =
    by_more (Begun M s.moments) (Begun N (passing n first s).moments) (passing n first s).moments (begun_grows M N n first s g) (by_plain (Begun M s.moments) n first s plain h)

-- a president's session has its start line, and started
pub office_begun : (ms : List Moment) (rest : List Output) (n : ℕ) (o : Option Presidency) (seat : Seat) (p : Presidency) (s : NodeState) → o ≡ Some p → seat ≡ Member s → SeatIn ms rest n o seat
    → is_started s.session ms ≡ true
office_begun ms rest n o seat p s has sits h = (subst (λ z. SeatIn ms rest n (Some p) z) sits (subst (λ z. SeatIn ms rest n z seat) has h)).0

-- .. and its updates have the places of its texts
office_below : (ms : List Moment) (rest : List Output) (n : ℕ) (o : Option Presidency) (seat : Seat) (p : Presidency) (s : NodeState) → o ≡ Some p → seat ≡ Member s → SeatIn ms rest n o seat
    → Below ms s.session (length (texts_of s.saved.entries))
office_below ms rest n o seat p s has sits h = (subst (λ z. SeatIn ms rest n (Some p) z) sits (subst (λ z. SeatIn ms rest n z seat) has h)).2

pub member_started : (c : Cluster) (M : Memberships) (n : ℕ) (disk : NodeRecord) (x : UpNode) (s : NodeState) → Holds (setting_of c) M → x.seat ≡ Member s → NodeTied c M n disk (Up x) → (M.epoch s.session).started ≡ true
member_started c M n disk x s holds sits tied =
    let here : SeatTied c M n disk x.attempt (Member s) = subst (λ z. SeatTied c M n disk x.attempt z) sits tied.0 in
    subst (λ q. (M.epoch q).started ≡ true) here.0.session ((holds.node n).member_started here.0.member)

-- an attempt that starts has not started yet
not_started : (c : Cluster) (M : Memberships) (n : ℕ) (disk : NodeRecord) (o : Option AttemptState) (seat : Seat) (a : AttemptState) (s : NodeState) → Holds (setting_of c) M → o ≡ Some a → seat ≡ Forming s
    → SeatTied c M n disk o seat → (a.plan.epoch ≡ s.session) × ((M.epoch s.session).started ≡ true → ⊥)
not_started c M n disk o seat a s holds has sits tied =
    let here : SeatTied c M n disk (Some a) (Forming s) = subst (λ z. SeatTied c M n disk (Some a) z) sits (subst (λ z. SeatTied c M n disk z seat) has tied) in
    let co : Coordinates c M n s a = here.2 in
    let session : (M.node n).session ≡ s.session = here.0.session in
    let own : machine.coordinator s.session ≡ n = ap machine.coordinator (sym co.epoch) ∙ (sym co.has.coordinator ∙ co.coordinator) in (
      co.epoch,
      λ started.
          let some : 0 < s.session = (holds.epoch s.session).tried_positive ((holds.epoch s.session).counted_tried ((holds.epoch s.session).started_counted started)) in
          false_true (sym here.0.member ∙ (holds.leads n).sits (subst (λ q. 0 < q) (sym session) some) (ap machine.coordinator session ∙ own) (subst (λ q. (M.epoch q).started ≡ true) (sym session) started)),
    )

pending_any : (e v : ℕ) (ms : List Moment) → pending_place e ms ≡ Some v → list_any (is_proposal e v) ms ≡ true
pending_any e v [] is = absurd (none_some v is)
pending_any e v (propose f w text ∷ ms) is = by_test (f == e) refl is (λ h. pending_any e v ms h)
  where
    by_test : (b : Bool) → (f == e) ≡ b → (if b then Some w else pending_place e ms) ≡ Some v → (pending_place e ms ≡ Some v → list_any (is_proposal e v) ms ≡ true)
        → (((f == e) && (w == v)) || list_any (is_proposal e v) ms) ≡ true
    by_test true same here rest = or_left ((f == e) && (w == v)) (list_any (is_proposal e v) ms) (both_true (f == e) (w == v) same (is_same w v (same_some w v here)))
      where
        or_left : (a b : Bool) → a ≡ true → (a || b) ≡ true
        or_left a b h = cc

        both_true : (a b : Bool) → a ≡ true → b ≡ true → (a && b) ≡ true
        both_true a b h k = cc
    by_test false same here rest = or_right ((f == e) && (w == v)) (list_any (is_proposal e v) ms) (rest here)
      where
        or_right : (a b : Bool) → b ≡ true → (a || b) ≡ true
        or_right true b h = refl
        or_right false b h = h
pending_any e v (ack f w text ∷ ms) is = by_test (f == e) is (λ h. pending_any e v ms h)
  where
    by_test : (b : Bool) → (if b then None else pending_place e ms) ≡ Some v → (pending_place e ms ≡ Some v → list_any (is_proposal e v) ms ≡ true) → list_any (is_proposal e v) ms ≡ true
    by_test true here rest = absurd (none_some v here)
    by_test false here rest = rest here
pending_any e v (x ∷ ms) is = pending_any e v ms is

none_pending : (e : ℕ) (ms : List Moment) (T : ℕ → Type 0) → OpenedBy T ms → (T e → ⊥) → pending_place e ms ≡ None
none_pending e ms T h never = by_place (pending_place e ms) refl
  where
    by_place : (o : Option ℕ) → pending_place e ms ≡ o → pending_place e ms ≡ None
    by_place None is = is
    by_place (Some v) is = absurd (never (h e v (pending_any e v ms is)))

start_told : (n e members held count : ℕ) (os : List Output) (s : Scene) → is_started e (passing n (Tells (entry.Start (start.Started e members held count)) ∷ os) s).moments ≡ true
start_told n e members held count os s =
    passing_started e n os (telling (entry.Start (start.Started e members held count)) s) (or_first (e == e) (is_started e s.moments) (is_itself e))
  where
    or_first : (a b : Bool) → a ≡ true → (a || b) ≡ true
    or_first a b h = cc

pub lines_told : (n : ℕ) (a : AttemptState) (t : NodeState) (more : List Output) (s : Scene) → is_started a.plan.epoch (passing n (start_lines a t ++ more) s).moments ≡ true
lines_told n a t more s =
    start_told n a.plan.epoch a.plan.members (held_set a.devices) (length (all_committed t.saved.entries).committed) (base_lines a.plan.epoch 0 (all_committed t.saved.entries).committed ++ more) s

beyond : (k : ℕ) → k + 1 ≤ k → ⊥
beyond k h = omega (arith, h)

never_any : (b : Bool) → (b ≡ true → ⊥) → b ≡ false
never_any true h = absurd (h refl)
never_any false h = refl

both_same : (e v : ℕ) → ((e == e) && (v == v)) ≡ true
both_same e v = both_true (e == e) (v == v) (is_itself e) (is_itself v)
  where
    both_true : (a b : Bool) → a ≡ true → b ≡ true → (a && b) ≡ true
    both_true a b h k = cc

new_below : (k e v : ℕ) (ms : List Moment) → Below ms e k → (((e == e) && ((k + 1) == v)) ≡ true) ⊎ (list_any (is_proposal e v) ms ≡ true) → v ≤ k + 1
new_below k e v ms below (inl here) = equal_le (k + 1) v (same_number (k + 1) v (and_cases (e == e) ((k + 1) == v) here).1)
  where
    equal_le : (a b : ℕ) → a ≡ b → b ≤ a
    equal_le a b is = omega (arith, is)
new_below k e v ms below (inr there) = more v k (below v there)
  where
    more : (a b : ℕ) → a ≤ b → a ≤ b + 1
    more a b h = omega (arith, h)

-- ---- changes

module _ (c : Cluster) (n : ℕ) (told : Delivered) where
  -- an ordinary one, with these lines
  pub ordinary_kept : (M N : Memberships) (x : UpNode) (disk : NodeRecord) (change : Change) (first rest : List Output) (s : Scene) → IsOrdinary change → AreQuiet first → Grows M N → NodeTied c M n disk (Up x)
      → NodeTied c N n (record_of (changed c n x change)) (Up (changed c n x change)) → MayChange c n told x change → Kept M n (first ++ rest) (Up x) s → Kept N n rest (Up (changed c n x change)) (passing n first s)
  ordinary_kept M N x disk change first rest s is quiet g tied later may h = record {
    here = change_in c n (passing n first s).moments rest M N told x disk change is tied later may (seat_quiet n first rest s x.presidency x.seat quiet h.here);
    opened = plain_opened M N n first s g (quiet_plain first quiet) h.opened;
  }

  pub starts_kept : (M N : Memberships) (x : UpNode) (disk : NodeRecord) (a : AttemptState) (k : Call) (t : NodeState) (first rest : List Output) (s : Scene) → Holds (setting_of c) M → AreQuiet first → Grows M N
      → NodeTied c M n disk (Up x) → MayChange c n told x (Starts a k t) → is_started (turn a k).after.plan.epoch (passing n first s).moments ≡ true → Kept M n (first ++ rest) (Up x) s
      → Kept N n rest (Up (changed c n x (Starts a k t))) (passing n first s)
  starts_kept M N x disk a k t first rest s holds quiet g tied may line h =
      let never : (a.plan.epoch ≡ t.session) × ((M.epoch t.session).started ≡ true → ⊥) = not_started c M n disk x.attempt x.seat a t holds may.0 may.1 tied.0 in
      let epoch : (turn a k).after.plan.epoch ≡ t.session = ap (λ p. p.epoch) (plan_stays a k (may_be_called c told a k may.2)) ∙ never.0 in
      record {
        here = (
          subst (λ e. is_started e (passing n first s).moments ≡ true) epoch line,
          passing_place t.session n first s (quiet_plain first quiet) ∙ none_pending t.session s.moments (Begun M s.moments) h.opened (λ begun. never.1 begun.1),
          λ v is. absurd (never.1 (h.opened t.session v (sym (passing_proposals t.session v n first s (quiet_plain first quiet)) ∙ is)).1),
        );
        opened = plain_opened M N n first s g (quiet_plain first quiet) h.opened;
      }

  -- with the acknowledgement told last
  pub acks_kept : (M N : Memberships) (x : UpNode) (disk : NodeRecord) (t : NodeState) (p : Presidency) (q : Queue) (left : Presidency) (text : List ℕ) (first old rest : List Output) (s : Scene) → AreQuiet first → Grows M N
      → MayChange c n told x (Acks t p q left text) → Kept M n old (Up x) s
      → (let u : List Moment = ack t.session (length (texts_of t.saved.entries)) text ∷ (passing n first s).moments in
      NodeIn u rest n (Up (changed c n x (Acks t p q left text))) × OpenedIn N u)
  acks_kept M N x disk t p q left text first old rest s quiet g may h =
      let ms : List Moment = (passing n first s).moments in
      let begun : is_started t.session s.moments ≡ true = office_begun s.moments old n x.presidency x.seat p t may.0 may.1 h.here in (
        acks_in c n (ack t.session (length (texts_of t.saved.entries)) text ∷ ms) rest told x t p q left text may (passing_started t.session n first s begun)
            (if_true (t.session == t.session) None (pending_place t.session ms) (is_itself t.session))
            (λ v is. office_below s.moments old n x.presidency x.seat p t may.0 may.1 h.here v (sym (passing_proposals t.session v n first s (quiet_plain first quiet)) ∙ is)),
        by_ack (Begun N ms) t.session (length (texts_of t.saved.entries)) text ms (plain_opened M N n first s g (quiet_plain first quiet) h.opened),
      )

  -- the Prepares come next
  prepares_next : (x y : UpNode) (kept : NodeRecord) (t : NodeState) (p : Presidency) (text : List ℕ) (ds : List Doing) → x.seat ≡ Member t → FollowsIn n x (Proposes t p text) ds → (m : ℕ) → m ≤ most_nodes
      → has (set_without t.saved.members n) m ≡ true → IsBehind n m (body.Prepare t.session (length (texts_of t.saved.entries) + 1) text) (given_all c n (site (Up y) kept) ds)
  prepares_next x y kept t p text (Does (Spreads receivers b) ∷ ds) sits follows m low missing =
      let r : NodeState = state_of x.seat in
      let same : r ≡ t = ap state_of sits in
      let set : receivers ≡ set_without t.saved.members n = follows.0 ∙ ap (λ (z : NodeState). set_without z.saved.members n) same in
      let message : b ≡ body.Prepare t.session (length (texts_of t.saved.entries) + 1) text =
      follows.1 ∙ ap (λ (z : NodeState). body.Prepare z.session (length (texts_of z.saved.entries) + 1) text) same in
      behind_first n m (body.Prepare t.session (length (texts_of t.saved.entries) + 1) text) (sent_to receivers b) (given_all c n (site (Up y) kept) ds)
      (subst (λ z. IsBehind n m (body.Prepare t.session (length (texts_of t.saved.entries) + 1) text) (sent_to receivers z)) (sym message)
      (spread_behind n m receivers (body.Prepare t.session (length (texts_of t.saved.entries) + 1) text) low (ap (λ z. has z m) set ∙ missing)))
  prepares_next x y kept t p text _ sits follows m low missing = absurd follows

  pub proposes_kept : (M N : Memberships) (x : UpNode) (disk kept : NodeRecord) (t : NodeState) (p : Presidency) (text : List ℕ) (ds : List Doing) (rest : List Output) (s : Scene) → Holds (setting_of c) M → Grows M N
      → NodeTied c M n disk (Up x) → MayChange c n told x (Proposes t p text) → FollowsIn n x (Proposes t p text) ds → Kept M n rest (Up x) s
      → (let y : UpNode = changed c n x (Proposes t p text) in
      Kept N n (given_all c n (site (Up y) kept) ds) (Up y) (passing n (first_lines n (Proposes t p text) ++ saved_lines c n x (Proposes t p text)) s))
  proposes_kept M N x disk kept t p text ds rest s holds g tied may follows h =
      let y : UpNode = changed c n x (Proposes t p text) in
      let place : ℕ = length (texts_of t.saved.entries) + 1 in
      let begun : is_started t.session s.moments ≡ true = office_begun s.moments rest n x.presidency x.seat p t may.0 may.1 h.here in
      let first : List Output = first_lines n (Proposes t p text) ++ saved_lines c n x (Proposes t p text) in
      let below : Below s.moments t.session (length (texts_of t.saved.entries)) = office_below s.moments rest n x.presidency x.seat p t may.0 may.1 h.here in
      let by_any : (v : ℕ) → (((t.session == t.session) && (place == v)) ≡ true) ⊎ (list_any (is_proposal t.session v) s.moments ≡ true) → v ≤ place = λ v either. new_below (length (texts_of t.saved.entries)) t.session v s.moments below either in
      record {
        here = proposes_in c n (passing n first s).moments (given_all c n (site (Up y) kept) ds) told x t p text may begun
            (if_true (t.session == t.session) (Some place) (pending_place t.session s.moments) (is_itself t.session)) (prepare_short c x p n t.session place text may.3)
            (prepares_next x y kept t p text ds may.1 follows)
            (ap (list_any (is_proposal t.session place)) (if_true ((t.session == t.session) && (place == place)) s.moments (before_last (is_proposal t.session place) s.moments) (both_same t.session place))
            ∙ never_any (list_any (is_proposal t.session place) s.moments) (λ is. beyond (length (texts_of t.saved.entries)) (below place is)))
            (λ v is. by_any v (or_cases ((t.session == t.session) && (place == v)) (list_any (is_proposal t.session v) s.moments) is));
        opened = by_propose (Begun N (passing n first s).moments) t.session place text s.moments (begun, (g.epoch t.session).started (member_started c M n disk x t holds may.1 tied))
            (by_more (Begun M s.moments) (Begun N s.moments) s.moments (begun_grows M N n [] s g) h.opened);
      }
