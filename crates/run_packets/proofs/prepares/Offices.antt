-- What a step leaves of who is a president: its record keeps the members of its start line.
use Rattle.std.specs.Prelude.{ℕ, ◌≡◌, ◌==◌, ◌||◌, ◌<◌, if◌then◌else◌, Bool, true, false, List, [], ◌∷◌, Option, None, Some, is_some}
use Rattle.std.proofs.Common.{refl, ap, sym, subst, ◌∙◌}
use Rattle.std.specs.List.{find, list_any}
use Rattle.cl_base.proofs.SetLemmas.{none_of_zero}
use Rattle.cl_base.specs.Sets.{has, set_without}
use Rattle.cmm_attempt.proofs.Basics.{false_true, if_either}
use Rattle.cmm_attempt.specs.Attempts.{AttemptState}
use Rattle.cmm_member.specs.Nodes.{NodeState, started as started_state, with_entries, with_joined, with_valid}
use Rattle.cmm_member.specs.Records.{NodeRecord}
use Rattle.ccr_commit.specs.Entries.{all_committed, left_by, with_next}
use Rattle.ccr_commit.specs.declared.entries.Prepared.TheVariants.{Taken}
use Rattle.machine_base.specs.Epochs as machine
use Rattle.device_queue.specs.Queue.{after_seize}
use Rattle.history.specs.Moment.{Moment}
use Rattle.history.specs.Starts.{Start, members_in, starts}
use Rattle.membership_machine.specs.Invariant.{Holds}
use Rattle.membership_machine.specs.State.{Memberships}
use Rattle.node_model.specs.Members.{rested_by}
use Rattle.node_model.specs.Seats.{promising, record_of, state_of, with_state}
use Rattle.node_model.specs.Updates.{later_presidency}
use Rattle.node_model.specs.declared.cluster.Cluster.{Cluster}
use Rattle.node_model.specs.declared.node.Node.{Node}
use Rattle.node_model.specs.declared.node.Node.TheVariants.{Down, Up}
use Rattle.node_model.specs.declared.node.UpNode.{UpNode}
use Rattle.node_model.specs.declared.presidency.Presidency.{Presidency}
use Rattle.node_model.specs.declared.seat.Seat.{Seat}
use Rattle.node_model.specs.declared.seat.Seat.TheVariants.{Forming, Member}
use Rattle.refinement.specs.Doings.{Act, Change, Doing, acted, changed, effect, site}
use Rattle.refinement.specs.Doings.Act.{Accepts, Dates, Ends, Gives, Goes_on, Hears, Makes, Minds, Notes, Queues, Spreads, Stores, Takes, Ticks, Waits, Works, Writes}
use Rattle.refinement.specs.Doings.Change.{Acks, Admits, Commits, Counts, Distrusts, Installs, Leads, Prepares, Promises, Proposes, Sits, Starts}
use Rattle.refinement.specs.Doings.Doing.{Comes_up, Does, Forgets, Goes_down, Loses, Saves}
use Rattle.refinement.specs.Guards.{May, MayAct, MayChange, SameProposed}
use Rattle.refinement.specs.Ties.{Coordinates, Delivered, NodeTied, PresidentTied, SeatTied, setting_of}
use Rattle.seize.specs.Seizing as seizing
use Rattle.run_packets.specs.prepares.Proposals.{AreStarted, Covers, CoversIn, IsOther}

-- what has no start line has no other members
any_started : (e m : ℕ) (ss : List Start) → has (members_in (find (λ s. s.epoch == e) ss)) m ≡ true → list_any (λ s. s.epoch == e) ss ≡ true
any_started e m [] h = absurd (false_true (sym (none_of_zero m) ∙ h))
any_started e m (s ∷ ss) h = by_test (s.epoch == e) h (λ k. any_started e m ss k)
  where
    by_test : (b : Bool) → has (members_in (if b then Some s else find (λ z. z.epoch == e) ss)) m ≡ true → (has (members_in (find (λ z. z.epoch == e) ss)) m ≡ true → list_any (λ z. z.epoch == e) ss ≡ true)
        → (b || list_any (λ z. z.epoch == e) ss) ≡ true
    by_test true is rest = refl
    by_test false is rest = rest is

pub unstarted_none : (before : List Moment) (M : Memberships) (e : ℕ) → AreStarted before M → ((M.epoch e).started ≡ true → ⊥) → (m : ℕ) → IsOther before e m → ⊥
unstarted_none before M e started never m other = never (started e (any_started e m (starts before) other.1))

-- of a node that is up
abbrev pub CoversUp : List Moment → ℕ → UpNode → Type 0
CoversUp before n x = CoversIn before n (is_some x.presidency) x.seat

-- ---- seats

module _ (before : List Moment) (n : ℕ) where
  with_state_covers : (b : Bool) (seat : Seat) (t : NodeState) → t.session ≡ (state_of seat).session → t.saved.members ≡ (state_of seat).saved.members → CoversIn before n b seat
      → CoversIn before n b (with_state seat t)
  with_state_covers b (Forming s) t session members h = tt
  with_state_covers false (Member s) t session members h = tt
  with_state_covers true (Member s) t session members h =
      λ m other. subst (λ set. has (set_without set n) m ≡ true) (sym members) (h m (subst (λ e. IsOther before e m) session other))

  rested_covers : (x : UpNode) (p : ℕ) (o : Option AttemptState) → CoversUp before n (rested_by (promising x p) o)
  rested_covers x p None = tt
  rested_covers x p (Some a) = tt

  later_covers : (o : Option Presidency) (seat : Seat) → CoversIn before n (is_some o) seat → CoversIn before n (is_some (later_presidency o)) seat
  later_covers None seat h = h
  later_covers (Some p) seat h = h

  minds_covers : (o q : Option Presidency) (seat : Seat) → SameProposed o q → CoversIn before n (is_some o) seat → CoversIn before n (is_some q) seat
  minds_covers None None seat same h = h
  minds_covers (Some p) (Some q) seat same h = h
  minds_covers None (Some q) seat same h = absurd same
  minds_covers (Some p) None seat same h = absurd same

  presides_covers : (o : Option Presidency) (p : Presidency) (seat : Seat) → o ≡ Some p → CoversIn before n (is_some o) seat → CoversIn before n true seat
  presides_covers o p seat is h = subst (λ (z : Option Presidency). CoversIn before n (is_some z) seat) is h

  -- a node that is no member presides over nothing
  sits_covers : (M : Memberships) (o : Option Presidency) (seat : Seat) (s t : NodeState) → seat ≡ Forming s → PresidentTied M n o seat → CoversIn before n (is_some o) (Member t)
  sits_covers M None seat s t is tied = tt
  sits_covers M (Some p) seat s t is tied = absurd (subst (λ z. PresidentTied M n (Some p) z) is tied)

  -- ---- changes

  -- an attempt that starts has no start line yet
  starts_new : (c : Cluster) (M : Memberships) (disk : NodeRecord) (o : Option AttemptState) (seat : Seat) (a : AttemptState) (s : NodeState) → Holds (setting_of c) M → o ≡ Some a → seat ≡ Forming s
      → SeatTied c M n disk o seat → (M.epoch s.session).started ≡ true → ⊥
  starts_new c M disk o seat a s holds has sits tied started =
      let here : SeatTied c M n disk (Some a) (Forming s) = subst (λ z. SeatTied c M n disk (Some a) z) sits (subst (λ z. SeatTied c M n disk z seat) has tied) in
      let co : Coordinates c M n s a = here.2 in
      let session : (M.node n).session ≡ s.session = here.0.session in
      let own : machine.coordinator s.session ≡ n = ap machine.coordinator (sym co.epoch) ∙ (sym co.has.coordinator ∙ co.coordinator) in
      let some : 0 < s.session = (holds.epoch s.session).tried_positive ((holds.epoch s.session).counted_tried ((holds.epoch s.session).started_counted started)) in
      false_true (sym here.0.member ∙ (holds.leads n).sits (subst (λ q. 0 < q) (sym session) some) (ap machine.coordinator session ∙ own) (subst (λ q. (M.epoch q).started ≡ true) (sym session) started))

  change_covers : (c : Cluster) (M : Memberships) (told : Delivered) (x : UpNode) (disk : NodeRecord) (change : Change) → Holds (setting_of c) M → AreStarted before M → NodeTied c M n disk (Up x)
      → MayChange c n told x change → CoversUp before n x → CoversUp before n (changed c n x change)
  change_covers c M told x disk (Promises p) holds started tied may h = rested_covers x p x.attempt
  change_covers c M told x disk (Leads p members) holds started tied may h = tt
  change_covers c M told x disk (Counts a k s i) holds started tied may h = tt
  change_covers c M told x disk (Installs s i) holds started tied may h = tt
  change_covers c M told x disk (Starts a k s) holds started tied may h =
      λ m other. absurd (unstarted_none before M s.session started (starts_new c M disk x.attempt x.seat a s holds may.0 may.1 tied.0) m other)
  change_covers c M told x disk (Sits s e) holds started tied may h = sits_covers M x.presidency x.seat s (started_state s) may.0 tied.1
  change_covers c M told x disk (Distrusts d) holds started tied may h =
      with_state_covers (is_some x.presidency) x.seat (with_valid (state_of x.seat) (set_without (record_of x).valid d)) refl refl h
  change_covers c M told x disk (Admits at command a d) holds started tied may h = with_state_covers (is_some x.presidency) x.seat (with_joined (state_of x.seat) d) refl refl h
  change_covers c M told x disk (Proposes s p text) holds started tied may h =
      with_state_covers true x.seat (with_entries (state_of x.seat) (with_next (record_of x).entries text)) refl refl (presides_covers x.presidency p x.seat may.0 h)
  change_covers c M told x disk (Acks s p q left text) holds started tied may h =
      with_state_covers true x.seat (with_entries (state_of x.seat) (all_committed (record_of x).entries)) refl refl (presides_covers x.presidency p x.seat may.0 h)
  change_covers c M told x disk (Prepares s text) holds started tied may h =
      with_state_covers (is_some x.presidency) (Member s) (with_entries s (left_by Taken s.saved.entries text)) refl refl (subst (λ z. CoversIn before n (is_some x.presidency) z) may.0 h)
  change_covers c M told x disk (Commits s) holds started tied may h =
      with_state_covers (is_some x.presidency) (Member s) (with_entries s (all_committed s.saved.entries)) refl refl (subst (λ z. CoversIn before n (is_some x.presidency) z) may.0 h)

  -- ---- acts

  act_covers : (c : Cluster) (M : Memberships) (told : Delivered) (x : UpNode) (disk : NodeRecord) (a : Act) → Holds (setting_of c) M → AreStarted before M → NodeTied c M n disk (Up x)
      → MayAct c n told x a → CoversUp before n x → CoversUp before n (acted c n x a)
  act_covers c M told x disk (Hears from b) holds started tied may h = h
  act_covers c M told x disk Ticks holds started tied may h = later_covers x.presidency x.seat h
  act_covers c M told x disk Waits holds started tied may h = h
  act_covers c M told x disk (Goes_on a k) holds started tied may h = h
  act_covers c M told x disk (Ends a e) holds started tied may h = h
  act_covers c M told x disk (Queues a d kind) holds started tied may h =
      if_either (λ (y : UpNode). CoversUp before n y) (has a.plan.members n)
      (record x { tasks = after_seize x.tasks d (seizing.begun kind a.plan.epoch a.plan.members n c.id (has (record_of x).valid d)) }) x h h
  act_covers c M told x disk (Accepts kind e members d) holds started tied may h = h
  act_covers c M told x disk (Takes at command a) holds started tied may h = h
  act_covers c M told x disk (Stores d value a) holds started tied may h = h
  act_covers c M told x disk (Writes to b) holds started tied may h = h
  act_covers c M told x disk (Makes change) holds started tied may h = change_covers c M told x disk change holds started tied may.0 h
  act_covers c M told x disk (Gives os) holds started tied may h = h
  act_covers c M told x disk (Spreads receivers b) holds started tied may h = h
  act_covers c M told x disk (Minds q p) holds started tied may h = minds_covers x.presidency p x.seat may h
  act_covers c M told x disk (Notes from place p) holds started tied may h = presides_covers x.presidency p x.seat may.0 h
  act_covers c M told x disk (Dates now) holds started tied may h = h
  act_covers c M told x disk (Works w) holds started tied may h = h

  pub doing_covers : (c : Cluster) (M : Memberships) (told : Delivered) (node : Node) (disk : NodeRecord) (d : Doing) → Holds (setting_of c) M → AreStarted before M → NodeTied c M n disk node
      → May c n told (site node disk) d → Covers before n node → Covers before n (effect c n (site node disk) d).node
  doing_covers c M told Down disk Comes_up holds started tied may h = tt
  doing_covers c M told (Up x) disk Comes_up holds started tied may h = h
  doing_covers c M told node disk (Goes_down why) holds started tied may h = tt
  doing_covers c M told Down disk (Does a) holds started tied may h = tt
  doing_covers c M told (Up x) disk (Does a) holds started tied may h = act_covers c M told x disk a holds started tied may h
  doing_covers c M told Down disk (Saves change) holds started tied may h = tt
  doing_covers c M told (Up x) disk (Saves change) holds started tied may h = change_covers c M told x disk change holds started tied may h
  doing_covers c M told node disk (Loses change why) holds started tied may h = tt
  doing_covers c M told node disk (Forgets change why) holds started tied may h = tt
