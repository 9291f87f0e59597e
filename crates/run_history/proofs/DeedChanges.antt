-- The book through each small step of a node.
use Rattle.std.specs.Prelude.{ℕ, ◌+◌, ◌≡◌, ◌++◌, List, [], ◌∷◌, length, slice_get, Some}
use Rattle.std.proofs.Common.{refl, sym, ap, subst, ◌∙◌}
use Rattle.ccr_commit.specs.Entries.{texts_of}
use Rattle.cmm_attempt.specs.Attempts.{AttemptState}
use Rattle.cmm_attempt.specs.Calls.{Call, turn}
use Rattle.cmm_member.specs.Nodes.{NodeState}
use Rattle.cmm_member.specs.Records.{NodeRecord}
use Rattle.attempt_laws.proofs.Stays.{plan_stays}
use Rattle.history.specs.Deeds.{Acked, Deed}
use Rattle.machine_base.specs.Epochs.{coordinator}
use Rattle.membership_machine.specs.Events.{Acknowledge, Allowed, Crash, Event, Promise, Propose, Propose_lost, Run, Start, after}
use Rattle.membership_machine.specs.Invariant.{Holds}
use Rattle.membership_machine.specs.State.{Memberships}
use Rattle.membership_machine.specs.Votes.{Setting}
use Rattle.membership_machine.proofs.Preserved.{event_keeps}
use Rattle.node_model.specs.declared.cluster.Cluster.{Cluster}
use Rattle.node_model.specs.declared.node.Node.{Node}
use Rattle.node_model.specs.declared.node.Node.TheVariants.{Down, Up}
use Rattle.node_model.specs.declared.node.UpNode.{UpNode}
use Rattle.node_model.specs.declared.presidency.Presidency.{Presidency}
use Rattle.node_model.specs.declared.seat.Seat.TheVariants.{Forming, Member}
use Rattle.refinement.specs.Doings.{Act, Change, Doing, site}
use Rattle.refinement.specs.Doings.Act.{Accepts, Dates, Ends, Gives, Goes_on, Hears, Makes, Minds, Notes, Queues, Spreads, Stores, Takes, Ticks, Waits, Works, Writes}
use Rattle.refinement.specs.Doings.Change.{Acks, Admits, Commits, Counts, Distrusts, Installs, Leads, Prepares, Promises, Proposes, Sits, Starts}
use Rattle.refinement.specs.Doings.Doing.{Comes_up, Does, Forgets, Goes_down, Loses, Saves}
use Rattle.refinement.specs.Events.{of_act, of_change, of_doing, of_forgotten}
use Rattle.refinement.specs.Guards.{May, MayChange}
use Rattle.refinement.specs.Ties.{Coordinates, Delivered, NodeTied, SeatTied, setting_of}
use Rattle.refinement.proofs.Attempts.{may_be_called}
use Rattle.refinement.proofs.Presidents.{MemberTied, member_tied, presides_of}
use Rattle.refinement.proofs.Texts.{one_longer, slice_last, texts_some}
use Rattle.run_history.specs.Book.{AtMostOne, Booked}
use Rattle.run_history.specs.Marks.{DoingSo, IsPending, deed_in, deed_of, deed_of_act, first_deed, start_of}
use Rattle.run_history.proofs.Book.{booked_ack, booked_ack_lost, booked_calm, booked_propose, booked_propose_lost, booked_start, booked_start_lost}
use Rattle.run_history.proofs.Calm.{IsCalm}

-- ---- events without a line

abbrev AreCalm : List Event → Type 0
AreCalm [] = Unit {0}
AreCalm (e ∷ es) = IsCalm e × AreCalm es

booked_run : (S : Setting) (M N : Memberships) (es : List Event) (ds : List Deed) → Holds S M → AreCalm es → Run S M es N → Booked M ds → Booked N ds
booked_run S M N [] ds i are r h = subst (λ x. Booked x ds) (sym r) h
booked_run S M N (e ∷ es) ds i are r h =
    booked_run S (after M e) N es ds ((event_keeps S M e i r.0).holds) are.1 r.1 (booked_calm S M e ds i r.0 are.0 h)

-- one event with a deed
with_one : (S : Setting) (M N : Memberships) (e : Event) (ds : List Deed) → Run S M (e ∷ []) N → (Allowed S M e → Booked (after M e) ds) → Booked N ds
with_one S M N e ds r f = subst (λ x. Booked x ds) (sym r.1) (f r.0)

-- ---- what the node shows of the machine

record StartShown (M : Memberships) (p : ℕ) (n : ℕ) (s : NodeState) : Type 0 where
  pub at : coordinator p ≡ n
  pub texts : texts_of s.saved.entries ≡ (M.node (coordinator p)).saved.entries

start_shown : (c : Cluster) (M : Memberships) (n : ℕ) (told : Delivered) (x : UpNode) (disk : NodeRecord) (a : AttemptState) (k : Call) (s : NodeState)
    → NodeTied c M n disk (Up x) → MayChange c n told x (Starts a k s) → StartShown M (turn a k).after.plan.epoch n s
start_shown c M n told x disk a k s tied may =
    let seat : SeatTied c M n disk (Some a) (Forming s) =
    subst (λ o. SeatTied c M n disk o (Forming s)) may.0 (subst (λ z. SeatTied c M n disk x.attempt z) may.1 tied.0) in
    let co : Coordinates c M n s a = seat.2 in
    let number : (turn a k).after.plan.epoch ≡ a.plan.epoch = ap (λ p. p.epoch) (plan_stays a k (may_be_called c told a k may.2)) in
    let at : coordinator (turn a k).after.plan.epoch ≡ n = ap coordinator number ∙ (sym co.has.coordinator ∙ co.coordinator) in
    record { at = at; texts = sym (ap (λ j. (M.node j).saved.entries) at ∙ ap (λ r. r.entries) seat.0.saved) }

record PresidentShown (M : Memberships) (n : ℕ) (s : NodeState) : Type 0 where
  pub at : coordinator s.session ≡ n
  pub entries : (M.node (coordinator s.session)).saved.entries ≡ texts_of s.saved.entries
  pub committed : (M.node (coordinator s.session)).saved.committed ≡ length s.saved.entries.committed

president_shown : (c : Cluster) (M : Memberships) (n : ℕ) (x : UpNode) (disk : NodeRecord) (s : NodeState) (p : Presidency) → NodeTied c M n disk (Up x)
    → x.presidency ≡ Some p → x.seat ≡ Member s → PresidentShown M n s
president_shown c M n x disk s p tied presides seat =
    let m : MemberTied c M n x s = member_tied c M n x disk s tied seat in
    let own : coordinator s.session ≡ n = (presides_of M n x.presidency s p presides m.president).own in
    record {
      at = own;
      entries = ap (λ j. (M.node j).saved.entries) own ∙ ap (λ r. r.entries) m.shows.saved;
      committed = ap (λ j. (M.node j).saved.committed) own ∙ ap (λ r. r.committed) m.shows.saved;
    }

-- ---- changes with a deed

starts_book : (c : Cluster) (M N : Memberships) (n : ℕ) (told : Delivered) (x : UpNode) (disk : NodeRecord) (a : AttemptState) (k : Call) (s : NodeState) (ds : List Deed)
    → Holds (setting_of c) M → NodeTied c M n disk (Up x) → MayChange c n told x (Starts a k s) → Run (setting_of c) M (of_change n (Starts a k s)) N → Booked M ds
    → Booked N (start_of (turn a k).after s ∷ ds)
starts_book c M N n told x disk a k s ds i tied may r h =
    let so : StartShown M (turn a k).after.plan.epoch n s = start_shown c M n told x disk a k s tied may in
    with_one (setting_of c) M N (Start (turn a k).after.plan.epoch) _ r (λ allowed. booked_start (setting_of c) M _ (texts_of s.saved.entries) ds i allowed so.texts h)

starts_lost : (c : Cluster) (M N : Memberships) (n : ℕ) (told : Delivered) (x : UpNode) (disk : NodeRecord) (a : AttemptState) (k : Call) (s : NodeState) (ds : List Deed)
    → Holds (setting_of c) M → NodeTied c M n disk (Up x) → MayChange c n told x (Starts a k s) → Run (setting_of c) M (of_change n (Starts a k s) ++ Crash n ∷ []) N → Booked M ds
    → Booked N ds
starts_lost c M N n told x disk a k s ds i tied may r h =
    let p : ℕ = (turn a k).after.plan.epoch in
    let so : StartShown M p n s = start_shown c M n told x disk a k s tied may in
    subst (λ z. Booked z ds) (sym r.1.1) (subst (λ j. Booked (after (after M (Start p)) (Crash j)) ds) so.at (booked_start_lost (setting_of c) M p ds i r.0 h))

proposes_book : (c : Cluster) (M N : Memberships) (n : ℕ) (told : Delivered) (x : UpNode) (disk : NodeRecord) (s : NodeState) (p : Presidency) (text : List ℕ) (ds : List Deed)
    → Holds (setting_of c) M → NodeTied c M n disk (Up x) → MayChange c n told x (Proposes s p text) → Run (setting_of c) M (Propose s.session text ∷ []) N → Booked M ds
    → Booked N (deed_in (Proposes s p text) ++ ds)
proposes_book c M N n told x disk s p text ds i tied may r h =
    let so : PresidentShown M n s = president_shown c M n x disk s p tied may.0 may.1 in
    with_one (setting_of c) M N (Propose s.session text) (deed_in (Proposes s p text) ++ ds) r
    (λ allowed. booked_propose (setting_of c) M (record { epoch = s.session; place = length (texts_of s.saved.entries) + 1; words = text }) ds i allowed (ap (λ xs. length xs + 1) (sym so.entries)) h)

proposal_lost : (c : Cluster) (M N : Memberships) (n : ℕ) (told : Delivered) (x : UpNode) (disk : NodeRecord) (s : NodeState) (p : Presidency) (text : List ℕ) (ds : List Deed)
    → Holds (setting_of c) M → NodeTied c M n disk (Up x) → MayChange c n told x (Proposes s p text) → Run (setting_of c) M (Propose_lost s.session text ∷ []) N → Booked M ds
    → Booked N (deed_in (Proposes s p text) ++ ds)
proposal_lost c M N n told x disk s p text ds i tied may r h =
    let so : PresidentShown M n s = president_shown c M n x disk s p tied may.0 may.1 in
    with_one (setting_of c) M N (Propose_lost s.session text) (deed_in (Proposes s p text) ++ ds) r
    (λ allowed. booked_propose_lost (setting_of c) M (record { epoch = s.session; place = length (texts_of s.saved.entries) + 1; words = text }) ds i allowed (ap (λ xs. length xs + 1) (sym so.entries)) h)

acks_book : (c : Cluster) (M N : Memberships) (n : ℕ) (told : Delivered) (x : UpNode) (disk : NodeRecord) (s : NodeState) (p : Presidency) (text : List ℕ) (ds : List Deed)
    → Holds (setting_of c) M → NodeTied c M n disk (Up x) → x.presidency ≡ Some p → x.seat ≡ Member s → s.saved.entries.pending ≡ Some text → Run (setting_of c) M (Acknowledge s.session ∷ []) N
    → Booked M ds → Booked N (Acked (record { epoch = s.session; place = length (texts_of s.saved.entries); words = text }) ∷ ds)
acks_book c M N n told x disk s p text ds i tied presides seat pending r h =
    let so : PresidentShown M n s = president_shown c M n x disk s p tied presides seat in
    let texts : texts_of s.saved.entries ≡ s.saved.entries.committed ++ text ∷ [] = texts_some s.saved.entries text pending in
    let entries : (M.node (coordinator s.session)).saved.entries ≡ s.saved.entries.committed ++ text ∷ [] = so.entries ∙ texts in
    let one : (M.node (coordinator s.session)).saved.committed + 1 ≡ length (M.node (coordinator s.session)).saved.entries =
    ap (λ k. k + 1) so.committed ∙ (sym (one_longer s.saved.entries.committed text) ∙ sym (ap length entries)) in
    let words : slice_get (M.node (coordinator s.session)).saved.entries (M.node (coordinator s.session)).saved.committed ≡ Some text =
    ap (λ k. slice_get (M.node (coordinator s.session)).saved.entries k) so.committed ∙ (ap (λ xs. slice_get xs (length s.saved.entries.committed)) entries ∙ slice_last s.saved.entries.committed text) in
    with_one (setting_of c) M N (Acknowledge s.session) _ r
    (λ allowed. booked_ack (setting_of c) M (record { epoch = s.session; place = length (texts_of s.saved.entries); words = text }) ds i allowed one words (sym (ap length so.entries)) h)

acks_lost : (c : Cluster) (M N : Memberships) (n : ℕ) (x : UpNode) (disk : NodeRecord) (s : NodeState) (p : Presidency) (ds : List Deed)
    → Holds (setting_of c) M → NodeTied c M n disk (Up x) → x.presidency ≡ Some p → x.seat ≡ Member s → Run (setting_of c) M (Acknowledge s.session ∷ Crash n ∷ []) N → Booked M ds → Booked N ds
acks_lost c M N n x disk s p ds i tied presides seat r h =
    let so : PresidentShown M n s = president_shown c M n x disk s p tied presides seat in
    subst (λ z. Booked z ds) (sym r.1.1) (subst (λ j. Booked (after (after M (Acknowledge s.session)) (Crash j)) ds) so.at (booked_ack_lost (setting_of c) M s.session ds i r.0 h))

-- ---- each change

change_book : (c : Cluster) (M N : Memberships) (n : ℕ) (told : Delivered) (x : UpNode) (disk : NodeRecord) (ch : Change) (ds : List Deed) → Holds (setting_of c) M → NodeTied c M n disk (Up x)
    → MayChange c n told x ch → IsPending ch → Run (setting_of c) M (of_change n ch) N → Booked M ds → Booked N (deed_in ch ++ ds)
change_book c M N n told x disk (Promises p) ds i tied may so r h = booked_run (setting_of c) M N (of_change n (Promises p)) ds i (tt, tt) r h
change_book c M N n told x disk (Leads p members) ds i tied may so r h = booked_run (setting_of c) M N (of_change n (Leads p members)) ds i (tt, tt) r h
change_book c M N n told x disk (Counts a k s j) ds i tied may so r h = booked_run (setting_of c) M N (of_change n (Counts a k s j)) ds i (tt, tt) r h
change_book c M N n told x disk (Installs s j) ds i tied may so r h = booked_run (setting_of c) M N (of_change n (Installs s j)) ds i (tt, tt) r h
change_book c M N n told x disk (Starts a k s) ds i tied may so r h = starts_book c M N n told x disk a k s ds i tied may r h
change_book c M N n told x disk (Sits s e) ds i tied may so r h = booked_run (setting_of c) M N (of_change n (Sits s e)) ds i (tt, tt) r h
change_book c M N n told x disk (Distrusts d) ds i tied may so r h = booked_run (setting_of c) M N [] ds i tt r h
change_book c M N n told x disk (Admits at command a d) ds i tied may so r h = booked_run (setting_of c) M N [] ds i tt r h
change_book c M N n told x disk (Proposes s p text) ds i tied may so r h = proposes_book c M N n told x disk s p text ds i tied may r h
change_book c M N n told x disk (Acks s p q left text) ds i tied may so r h = acks_book c M N n told x disk s p text ds i tied may.0 may.1 so r h
change_book c M N n told x disk (Prepares s text) ds i tied may so r h = booked_run (setting_of c) M N (of_change n (Prepares s text)) ds i (tt, tt) r h
change_book c M N n told x disk (Commits s) ds i tied may so r h = booked_run (setting_of c) M N (of_change n (Commits s)) ds i (tt, tt) r h

-- its save is lost, and has left the new record
lost_book : (c : Cluster) (M N : Memberships) (n : ℕ) (told : Delivered) (x : UpNode) (disk : NodeRecord) (ch : Change) (ds : List Deed) → Holds (setting_of c) M → NodeTied c M n disk (Up x)
    → MayChange c n told x ch → IsPending ch → Run (setting_of c) M (of_change n ch ++ Crash n ∷ []) N → Booked M ds → Booked N (first_deed ch ++ ds)
lost_book c M N n told x disk (Promises p) ds i tied may so r h = booked_run (setting_of c) M N (Promise n p ∷ Crash n ∷ []) ds i (tt, (tt, tt)) r h
lost_book c M N n told x disk (Leads p members) ds i tied may so r h = booked_run (setting_of c) M N (of_change n (Leads p members) ++ Crash n ∷ []) ds i (tt, (tt, tt)) r h
lost_book c M N n told x disk (Counts a k s j) ds i tied may so r h = booked_run (setting_of c) M N (of_change n (Counts a k s j) ++ Crash n ∷ []) ds i (tt, (tt, tt)) r h
lost_book c M N n told x disk (Installs s j) ds i tied may so r h = booked_run (setting_of c) M N (of_change n (Installs s j) ++ Crash n ∷ []) ds i (tt, (tt, tt)) r h
lost_book c M N n told x disk (Starts a k s) ds i tied may so r h = starts_lost c M N n told x disk a k s ds i tied may r h
lost_book c M N n told x disk (Sits s e) ds i tied may so r h = booked_run (setting_of c) M N (of_change n (Sits s e) ++ Crash n ∷ []) ds i (tt, (tt, tt)) r h
lost_book c M N n told x disk (Distrusts d) ds i tied may so r h = booked_run (setting_of c) M N (Crash n ∷ []) ds i (tt, tt) r h
lost_book c M N n told x disk (Admits at command a d) ds i tied may so r h = booked_run (setting_of c) M N (Crash n ∷ []) ds i (tt, tt) r h
lost_book c M N n told x disk (Proposes s p text) ds i tied may so r h =
    let e : Event = Propose s.session text in
    let at : Memberships = after M e in
    let first : Booked at (deed_in (Proposes s p text) ++ ds) = proposes_book c M at n told x disk s p text ds i tied may (r.0, refl) h in
    booked_run (setting_of c) at N (Crash n ∷ []) (deed_in (Proposes s p text) ++ ds) ((event_keeps (setting_of c) M e i r.0).holds) (tt, tt) r.1 first
lost_book c M N n told x disk (Acks s p q left text) ds i tied may so r h = acks_lost c M N n x disk s p ds i tied may.0 may.1 r h
lost_book c M N n told x disk (Prepares s text) ds i tied may so r h = booked_run (setting_of c) M N (of_change n (Prepares s text) ++ Crash n ∷ []) ds i (tt, (tt, tt)) r h
lost_book c M N n told x disk (Commits s) ds i tied may so r h = booked_run (setting_of c) M N (of_change n (Commits s) ++ Crash n ∷ []) ds i (tt, (tt, tt)) r h

-- .. and has left the old one
forgotten_book : (c : Cluster) (M N : Memberships) (n : ℕ) (told : Delivered) (x : UpNode) (disk : NodeRecord) (ch : Change) (ds : List Deed) → Holds (setting_of c) M → NodeTied c M n disk (Up x)
    → MayChange c n told x ch → Run (setting_of c) M (of_forgotten n ch) N → Booked M ds → Booked N (first_deed ch ++ ds)
forgotten_book c M N n told x disk (Promises p) ds i tied may r h = booked_run (setting_of c) M N (Crash n ∷ []) ds i (tt, tt) r h
forgotten_book c M N n told x disk (Leads p members) ds i tied may r h = booked_run (setting_of c) M N (Crash n ∷ []) ds i (tt, tt) r h
forgotten_book c M N n told x disk (Counts a k s j) ds i tied may r h = booked_run (setting_of c) M N (Crash n ∷ []) ds i (tt, tt) r h
forgotten_book c M N n told x disk (Installs s j) ds i tied may r h = booked_run (setting_of c) M N (Crash n ∷ []) ds i (tt, tt) r h
forgotten_book c M N n told x disk (Starts a k s) ds i tied may r h = booked_run (setting_of c) M N (Crash n ∷ []) ds i (tt, tt) r h
forgotten_book c M N n told x disk (Sits s e) ds i tied may r h = booked_run (setting_of c) M N (Crash n ∷ []) ds i (tt, tt) r h
forgotten_book c M N n told x disk (Distrusts d) ds i tied may r h = booked_run (setting_of c) M N (Crash n ∷ []) ds i (tt, tt) r h
forgotten_book c M N n told x disk (Admits at command a d) ds i tied may r h = booked_run (setting_of c) M N (Crash n ∷ []) ds i (tt, tt) r h
forgotten_book c M N n told x disk (Proposes s p text) ds i tied may r h = proposal_lost c M N n told x disk s p text ds i tied may r h
forgotten_book c M N n told x disk (Acks s p q left text) ds i tied may r h = booked_run (setting_of c) M N (Crash n ∷ []) ds i (tt, tt) r h
forgotten_book c M N n told x disk (Prepares s text) ds i tied may r h = booked_run (setting_of c) M N (Crash n ∷ []) ds i (tt, tt) r h
forgotten_book c M N n told x disk (Commits s) ds i tied may r h = booked_run (setting_of c) M N (Crash n ∷ []) ds i (tt, tt) r h

-- ---- each small step

stays_so : (S : Setting) (M N : Memberships) (ds : List Deed) → Run S M [] N → Booked M ds → Booked N ds
stays_so S M N ds r h = subst (λ x. Booked x ds) (sym r) h

act_book : (c : Cluster) (M N : Memberships) (n : ℕ) (told : Delivered) (x : UpNode) (disk : NodeRecord) (a : Act) (ds : List Deed) → Holds (setting_of c) M → NodeTied c M n disk (Up x)
    → May c n told (site (Up x) disk) (Does a) → DoingSo (Does a) → Run (setting_of c) M (of_act n a) N → Booked M ds → Booked N (deed_of_act a ++ ds)
act_book c M N n told x disk (Makes ch) ds i tied may so r h = change_book c M N n told x disk ch ds i tied may.0 so r h
act_book c M N n told x disk (Hears from b) ds i tied may so r h = stays_so (setting_of c) M N ds r h
act_book c M N n told x disk Ticks ds i tied may so r h = stays_so (setting_of c) M N ds r h
act_book c M N n told x disk Waits ds i tied may so r h = stays_so (setting_of c) M N ds r h
act_book c M N n told x disk (Goes_on a k) ds i tied may so r h = stays_so (setting_of c) M N ds r h
act_book c M N n told x disk (Ends a e) ds i tied may so r h = stays_so (setting_of c) M N ds r h
act_book c M N n told x disk (Queues a d kind) ds i tied may so r h = stays_so (setting_of c) M N ds r h
act_book c M N n told x disk (Accepts kind e members d) ds i tied may so r h = stays_so (setting_of c) M N ds r h
act_book c M N n told x disk (Takes at command a) ds i tied may so r h = stays_so (setting_of c) M N ds r h
act_book c M N n told x disk (Stores d value a) ds i tied may so r h = stays_so (setting_of c) M N ds r h
act_book c M N n told x disk (Writes to b) ds i tied may so r h = stays_so (setting_of c) M N ds r h
act_book c M N n told x disk (Gives os) ds i tied may so r h = stays_so (setting_of c) M N ds r h
act_book c M N n told x disk (Spreads receivers b) ds i tied may so r h = stays_so (setting_of c) M N ds r h
act_book c M N n told x disk (Minds q p) ds i tied may so r h = stays_so (setting_of c) M N ds r h
act_book c M N n told x disk (Notes from place p) ds i tied may so r h = stays_so (setting_of c) M N ds r h
act_book c M N n told x disk (Dates now) ds i tied may so r h = stays_so (setting_of c) M N ds r h
act_book c M N n told x disk (Works w) ds i tied may so r h = stays_so (setting_of c) M N ds r h

pub doing_book : (c : Cluster) (M N : Memberships) (n : ℕ) (told : Delivered) (node : Node) (disk : NodeRecord) (d : Doing) (ds : List Deed) → Holds (setting_of c) M → NodeTied c M n disk node
    → May c n told (site node disk) d → DoingSo d → Run (setting_of c) M (of_doing n d) N → Booked M ds → Booked N (deed_of d ++ ds)
doing_book c M N n told node disk Comes_up ds i tied may so r h = stays_so (setting_of c) M N ds r h
doing_book c M N n told node disk (Goes_down why) ds i tied may so r h = booked_run (setting_of c) M N (Crash n ∷ []) ds i (tt, tt) r h
doing_book c M N n told (Up x) disk (Does a) ds i tied may so r h = act_book c M N n told x disk a ds i tied may so r h
doing_book c M N n told (Up x) disk (Saves ch) ds i tied may so r h = change_book c M N n told x disk ch ds i tied may so r h
doing_book c M N n told (Up x) disk (Loses ch why) ds i tied may so r h = lost_book c M N n told x disk ch ds i tied may so r h
doing_book c M N n told (Up x) disk (Forgets ch why) ds i tied may so r h = forgotten_book c M N n told x disk ch ds i tied may r h
doing_book c M N n told Down disk (Does a) ds i tied may so r h = absurd may
doing_book c M N n told Down disk (Saves ch) ds i tied may so r h = absurd may
doing_book c M N n told Down disk (Loses ch why) ds i tied may so r h = absurd may
doing_book c M N n told Down disk (Forgets ch why) ds i tied may so r h = absurd may

-- each has one deed at most
one_in : (ch : Change) → AtMostOne (deed_in ch)
one_in (Promises p) = tt
one_in (Leads p members) = tt
one_in (Counts a k s i) = tt
one_in (Installs s i) = tt
one_in (Starts a k s) = tt
one_in (Sits s e) = tt
one_in (Distrusts d) = tt
one_in (Admits at command a d) = tt
one_in (Proposes s p text) = tt
one_in (Acks s p q left text) = tt
one_in (Prepares s text) = tt
one_in (Commits s) = tt

one_first : (ch : Change) → AtMostOne (first_deed ch)
one_first (Promises p) = tt
one_first (Leads p members) = tt
one_first (Counts a k s i) = tt
one_first (Installs s i) = tt
one_first (Starts a k s) = tt
one_first (Sits s e) = tt
one_first (Distrusts d) = tt
one_first (Admits at command a d) = tt
one_first (Proposes s p text) = tt
one_first (Acks s p q left text) = tt
one_first (Prepares s text) = tt
one_first (Commits s) = tt

one_act : (a : Act) → AtMostOne (deed_of_act a)
one_act (Makes ch) = one_in ch
one_act (Hears from b) = tt
one_act Ticks = tt
one_act Waits = tt
one_act (Goes_on a k) = tt
one_act (Ends a e) = tt
one_act (Queues a d kind) = tt
one_act (Accepts kind e members d) = tt
one_act (Takes at command a) = tt
one_act (Stores d value a) = tt
one_act (Writes to b) = tt
one_act (Gives os) = tt
one_act (Spreads receivers b) = tt
one_act (Minds q p) = tt
one_act (Notes from place p) = tt
one_act (Dates now) = tt
one_act (Works w) = tt

pub one_deed : (d : Doing) → AtMostOne (deed_of d)
one_deed Comes_up = tt
one_deed (Goes_down why) = tt
one_deed (Does a) = one_act a
one_deed (Saves ch) = one_in ch
one_deed (Loses ch why) = one_first ch
one_deed (Forgets ch why) = one_first ch
