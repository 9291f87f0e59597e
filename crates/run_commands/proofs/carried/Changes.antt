-- Each change of a node leaves its requests as its lines tell, and what is pending was proposed.
use Rattle.std.specs.Prelude.{ℕ, suc, ◌+◌, ◌-◌, ◌≡◌, ◌≤◌, true, false, List, [], length, Option, None, Some, IfSome, is_some, slice_get}
use Rattle.std.specs.Option.{option_and_then}
use Rattle.std.proofs.Common.{refl, sym, ap, subst, ◌∙◌, arith}
use Rattle.ccr_commit.specs.Entries.{EntryList, all_committed, texts_of, with_next}
use Rattle.cl_base.specs.Sets.{set_without}
use Rattle.cmm_attempt.specs.Attempts.{AttemptState}
use Rattle.cmm_attempt.proofs.Basics.{none_some}
use Rattle.cmm_member.specs.Nodes.{NodeState, with_entries, with_joined, with_valid}
use Rattle.cmm_member.specs.Records.{NodeRecord}
use Rattle.machine_base.specs.Epochs.{coordinator as machine_coordinator}
use Rattle.membership_machine.specs.Invariant.{Holds}
use Rattle.membership_machine.specs.State.{Memberships}
use Rattle.membership_machine.proofs.Prefixes.{next_within}
use Rattle.request_queue.specs.Queue as queue
use Rattle.wire.specs.declared.message.Body.TheVariants as body
use Rattle.history.specs.Contents.{proposed_at}
use Rattle.history.specs.Moment.{Moment}
use Rattle.history.specs.Setting.{Setting, coordinator}
use Rattle.node_model.specs.Members.{rested_by}
use Rattle.node_model.specs.Presidents.{last_place}
use Rattle.node_model.specs.Seats.{promising, record_of, session_of, state_of, with_state}
use Rattle.node_model.specs.declared.cluster.Cluster.{Cluster}
use Rattle.node_model.specs.declared.node.Node.TheVariants.{Up}
use Rattle.node_model.specs.declared.node.UpNode.{UpNode}
use Rattle.node_model.specs.declared.seat.Seat.{Seat}
use Rattle.node_model.specs.declared.seat.Seat.TheVariants.{Forming, Member}
use Rattle.refinement.specs.Doings.{Change, changed}
use Rattle.refinement.specs.Doings.Change.{Acks, Admits, Commits, Counts, Distrusts, Installs, Leads, Prepares, Promises, Proposes, Sits, Starts}
use Rattle.refinement.specs.Guards.{MayChange}
use Rattle.refinement.specs.Ties.{Delivered, Known, NodeTied, setting_of}
use Rattle.refinement.proofs.Changes.{said_known}
use Rattle.refinement.proofs.Presidents.{MemberTied, log_length, member_tied}
use Rattle.refinement.proofs.Texts.{one_longer}
use Rattle.run_messages.specs.Laws.{membership_in}
use Rattle.run_messages.proofs.Seats.{seat_with}
use Rattle.run_commands.specs.carried.Guards.{ChangeAsk, Command, hand_change, told_number}
use Rattle.run_commands.specs.carried.Steps.{HandSo, PendingSo}
use Rattle.run_commands.proofs.carried.Acts.{hand_each, now_each}
use Rattle.run_commands.proofs.carried.Causes.{PresidentAt}
use Rattle.run_commands.proofs.carried.Lines.{SameAsked}
use Rattle.run_commands.proofs.carried.Queues.{NowSo, Queued, queue_goes, queued_none, queued_same, taken_member}

-- what is so of the node after it, of these moments
pub record Changed (S : Setting) (n : ℕ) (o : Option Command) (h : Option ℕ) (last : ℕ) (y : UpNode) (ms : List Moment) : Type 0 where
  pub queued : Queued S n ms (membership_in y.seat) y.requests
  pub now : IfSome o (NowSo S n ms y.requests.asked)
  pub hand : HandSo n ms y h
  pub pending : PendingSo ms y
  pub last_so : y.requests.asked ≡ last

-- ---- a seat with another state

pub state_with : (seat : Seat) (t : NodeState) → state_of (with_state seat t) ≡ t
state_with (Forming s) t = refl
state_with (Member s) t = refl

-- where nothing is pending
none_pending : (ms : List Moment) (y : UpNode) → (record_of y).entries.pending ≡ None → PendingSo ms y
none_pending ms y none text so is = absurd (none_some text (sym none ∙ is))

no_president : (ms : List Moment) (y : UpNode) → (is_some y.presidency ≡ true → ⊥) → PendingSo ms y
no_president ms y no_one text so is = absurd (no_one so)

-- the same updates, in the same session
same_pending : (ms : List Moment) (x y : UpNode) → (is_some y.presidency ≡ true → is_some x.presidency ≡ true) → (record_of y).entries ≡ (record_of x).entries → session_of y ≡ session_of x
    → PendingSo ms x → PendingSo ms y
same_pending ms x y president entries session h text so is =
    subst (λ (es : EntryList). proposed_at (Some (session_of y)) (length (texts_of es)) ms ≡ Some text) (sym entries)
    (subst (λ e. proposed_at (Some e) (last_place x) ms ≡ Some text) (sym session) (h text (president so) (ap (λ (es : EntryList). es.pending) (sym entries) ∙ is)))

rested_none : (x : UpNode) (p : ℕ) (a : Option AttemptState) → is_some (rested_by (promising x p) a).presidency ≡ true → ⊥
rested_none x p None so = cc
rested_none x p (Some a) so = cc

rested_empty : (x : UpNode) (p : ℕ) (a : Option AttemptState) → (rested_by (promising x p) a).requests.waiting ≡ []
rested_empty x p None = refl
rested_empty x p (Some a) = refl

rested_asked : (x : UpNode) (p : ℕ) (a : Option AttemptState) → (rested_by (promising x p) a).requests.asked ≡ x.requests.asked
rested_asked x p None = refl
rested_asked x p (Some a) = refl

-- ---- a president is not asked to prepare

beyond : (count log : ℕ) → suc count ≤ log → count ≡ log → ⊥
beyond count log h e = grind arith

next_text : (log : List (List ℕ)) (count : ℕ) (text : List ℕ) → slice_get log (count + 1 - 1) ≡ Some text → slice_get log count ≡ Some text
next_text log count text h = subst (λ k. slice_get log k ≡ Some text) (same count) h
  where
    same : (k : ℕ) → k + 1 - 1 ≡ k
    same k = omega arith

not_asked : (c : Cluster) (M : Memberships) (n : ℕ) (told : Delivered) (x : UpNode) (disk : NodeRecord) (s : NodeState) (text : List ℕ) → Holds (setting_of c) M → Known M told → NodeTied c M n disk (Up x)
    → MayChange c n told x (Prepares s text) → machine_coordinator s.session ≡ n → ⊥
not_asked c M n told x disk s text holds known tied may own =
    let m : MemberTied c M n x s = member_tied c M n x disk s tied may.0 in
    let count : ℕ = length (texts_of s.saved.entries) in
    said_known M told (body.Prepare s.session (count + 1) text) ⊥ may.1 known
    (λ from so.
    beyond count (length (M.epoch s.session).log) (next_within count (M.epoch s.session).log text (next_text (M.epoch s.session).log count text so)) (log_length c M n s holds m.shows own))

president_not_asked : (c : Cluster) (M : Memberships) (n : ℕ) (told : Delivered) (x : UpNode) (disk : NodeRecord) (s : NodeState) (text : List ℕ) → Holds (setting_of c) M → Known M told → NodeTied c M n disk (Up x)
    → MayChange c n told x (Prepares s text) → PresidentAt x n → ⊥
unfolding machine_coordinator
president_not_asked c M n told x disk s text holds known tied may p =
    not_asked c M n told x disk s text holds known tied may (ap coordinator (same_epoch s.session p.epoch (sym (ap membership_in may.0) ∙ p.member)) ∙ p.own)
  where
    same_epoch : (a b : ℕ) → Some a ≡ Some b → a ≡ b
    same_epoch a b e = cc

-- ---- each change

same_moments : (S : Setting) (n : ℕ) (ms : List Moment) → SameAsked S n ms ms
same_moments S n ms = record { asking = λ q. refl; asked = λ q. refl; command = λ q. refl }

-- an update that is proposed has its line; what is pending before any other change was proposed
abbrev pub LineSo : List Moment → UpNode → Change → Type 0
LineSo ms x (Proposes s p text) = proposed_at (Some s.session) (length (texts_of s.saved.entries) + 1) ms ≡ Some text
LineSo ms x _ = PendingSo ms x

-- what is known of the node as it was, of these moments
pub record Was (S : Setting) (n : ℕ) (o : Option Command) (h : Option ℕ) (x : UpNode) (ms : List Moment) : Type 0 where
  pub queued : Queued S n ms (membership_in x.seat) x.requests
  pub now : IfSome o (NowSo S n ms x.requests.asked)
  pub hand : HandSo n ms x h

moved_now : (S : Setting) (n : ℕ) (ms : List Moment) (o : Option Command) (last more : ℕ) → more ≡ last → IfSome o (NowSo S n ms last) → IfSome o (NowSo S n ms more)
moved_now S n ms o last more same h = now_each S n ms ms last more o (same_moments S n ms) same h

-- the queue, the command and the hand stay, in the same membership
steady : (S : Setting) (n : ℕ) (o : Option Command) (h : Option ℕ) (x y : UpNode) (ms : List Moment) → y.requests ≡ x.requests → membership_in y.seat ≡ membership_in x.seat → Was S n o h x ms → PendingSo ms y
    → Changed S n o h x.requests.asked y ms
steady S n o h x y ms requests seat w pend = record {
  queued = queued_same S n ms (membership_in x.seat) (membership_in y.seat) x.requests y.requests (ap (λ q. q.waiting) requests) (ap (λ q. q.asked) requests) seat w.queued;
  now = moved_now S n ms o x.requests.asked y.requests.asked (ap (λ q. q.asked) requests) w.now;
  hand = hand_each S n ms ms x y h (same_moments S n ms) seat w.hand;
  pending = pend;
  last_so = ap (λ q. q.asked) requests;
}

-- nothing waits, and the hand is empty
emptied : (S : Setting) (n : ℕ) (o : Option Command) (h : Option ℕ) (x y : UpNode) (ms : List Moment) → y.requests.waiting ≡ [] → y.requests.asked ≡ x.requests.asked → Was S n o h x ms → PendingSo ms y
    → Changed S n o None x.requests.asked y ms
emptied S n o h x y ms waiting asked w pend = record {
  queued = queued_none S n ms (membership_in x.seat) (membership_in y.seat) x.requests y.requests waiting asked w.queued;
  now = moved_now S n ms o x.requests.asked y.requests.asked asked w.now;
  hand = tt;
  pending = pend;
  last_so = asked;
}

forming_none : (n : ℕ) (x : UpNode) (s : NodeState) → x.seat ≡ Forming s → PresidentAt x n → ⊥
forming_none n x s at p = absurd (none_some p.epoch (sym (ap membership_in at) ∙ p.member))

some_same : (a b : List ℕ) → Some a ≡ Some b → a ≡ b
some_same a b e = cc

proposed_pending : (ms : List Moment) (x y : UpNode) (s : NodeState) (text : List ℕ) → x.seat ≡ Member s → session_of y ≡ session_of x → (record_of y).entries ≡ with_next (record_of x).entries text
    → proposed_at (Some s.session) (length (texts_of s.saved.entries) + 1) ms ≡ Some text → PendingSo ms y
proposed_pending ms x y s text at session entries line other so is =
    let place : last_place y ≡ length (texts_of s.saved.entries) + 1 =
    ap (λ (es : EntryList). length (texts_of es)) entries ∙ (one_longer (texts_of (record_of x).entries) text ∙ ap (λ (z : Seat). length (texts_of (state_of z).saved.entries) + 1) at) in
    let same : session_of y ≡ s.session = session ∙ ap (λ (z : Seat). (state_of z).session) at in
    subst (λ e. proposed_at (Some e) (last_place y) ms ≡ Some other) (sym same)
    (subst (λ k. proposed_at (Some s.session) k ms ≡ Some other) (sym place) (line ∙ (sym (ap (λ (es : EntryList). es.pending) entries) ∙ is)))

pub changed_so : (S : Setting) (c : Cluster) (M : Memberships) (n : ℕ) (told : Delivered) (o : Option Command) (h : Option ℕ) (x : UpNode) (disk : NodeRecord) (change : Change) (ms : List Moment)
    → Holds (setting_of c) M → Known M told → NodeTied c M n disk (Up x) → MayChange c n told x change → ChangeAsk o x change → (is_some x.presidency ≡ true → PresidentAt x n)
    → Was S n o h x ms → LineSo ms x change → Changed S n o (hand_change x h change) x.requests.asked (changed c n x change) ms
changed_so S c M n told o h x disk (Promises p) ms holds known tied may ask president w line =
    emptied S n o h x (changed c n x (Promises p)) ms (rested_empty x p x.attempt) (rested_asked x p x.attempt) w (no_president ms (changed c n x (Promises p)) (rested_none x p x.attempt))
changed_so S c M n told o h x disk (Leads p members) ms holds known tied may ask president w line =
    emptied S n o h x (changed c n x (Leads p members)) ms refl refl w (no_president ms (changed c n x (Leads p members)) (λ so. no_one so))
  where
    no_one : false ≡ true → ⊥
    no_one e = cc
changed_so S c M n told o h x disk (Counts a k s i) ms holds known tied may ask president w line =
    steady S n o h x (changed c n x (Counts a k s i)) ms refl (sym (ap membership_in may.1)) w (no_president ms (changed c n x (Counts a k s i)) (λ so. forming_none n x s may.1 (president so)))
changed_so S c M n told o h x disk (Installs s i) ms holds known tied may ask president w line =
    steady S n o h x (changed c n x (Installs s i)) ms refl (sym (ap membership_in may.0)) w (no_president ms (changed c n x (Installs s i)) (λ so. forming_none n x s may.0 (president so)))
changed_so S c M n told o h x disk (Starts a k s) ms holds known tied may ask president w line =
    emptied S n o h x (changed c n x (Starts a k s)) ms (w.queued.none (ap membership_in may.1)) refl w (none_pending ms (changed c n x (Starts a k s)) refl)
changed_so S c M n told o h x disk (Sits s e) ms holds known tied may ask president w line =
    emptied S n o h x (changed c n x (Sits s e)) ms (w.queued.none (ap membership_in may.0)) refl w (none_pending ms (changed c n x (Sits s e)) refl)
changed_so S c M n told o h x disk (Distrusts d) ms holds known tied may ask president w line =
    let t : NodeState = with_valid (state_of x.seat) (set_without (record_of x).valid d) in
    steady S n o h x (changed c n x (Distrusts d)) ms refl (seat_with x.seat t refl) w
    (same_pending ms x (changed c n x (Distrusts d)) (λ so. so) (ap (λ (z : NodeState). z.saved.entries) (state_with x.seat t)) (ap (λ (z : NodeState). z.session) (state_with x.seat t)) line)
changed_so S c M n told o h x disk (Admits at command a d) ms holds known tied may ask president w line =
    let t : NodeState = with_joined (state_of x.seat) d in
    steady S n o h x (changed c n x (Admits at command a d)) ms refl (seat_with x.seat t refl) w
    (same_pending ms x (changed c n x (Admits at command a d)) (λ so. so) (ap (λ (z : NodeState). z.saved.entries) (state_with x.seat t)) (ap (λ (z : NodeState). z.session) (state_with x.seat t)) line)
changed_so S c M n told o h x disk (Proposes s p text) ms holds known tied may ask president w line =
    let t : NodeState = with_entries (state_of x.seat) (with_next (record_of x).entries text) in
    steady S n o h x (changed c n x (Proposes s p text)) ms refl (seat_with x.seat t refl) w
    (proposed_pending ms x (changed c n x (Proposes s p text)) s text may.1 (ap (λ (z : NodeState). z.session) (state_with x.seat t)) (ap (λ (z : NodeState). z.saved.entries) (state_with x.seat t)) line)
changed_so S c M n told o h x disk (Acks s p q left text) ms holds known tied may ask president w line =
    let t : NodeState = with_entries (state_of x.seat) (all_committed (record_of x).entries) in
    let y : UpNode = changed c n x (Acks s p q left text) in
    record {
      queued = queue_goes S n ms (membership_in x.seat) (membership_in y.seat) o x q refl (seat_with x.seat t refl) w.now ask w.queued;
      now = moved_now S n ms o x.requests.asked q.asked ask.asked w.now;
      hand = taken_hand S n ms x y (option_and_then told_number (queue.oldest x.requests)) refl (seat_with x.seat t refl) w.queued;
      pending = none_pending ms y (ap (λ (z : NodeState). z.saved.entries.pending) (state_with x.seat t));
      last_so = ask.asked;
    }
  where
    taken_hand : (S : Setting) (n : ℕ) (ms : List Moment) (x y : UpNode) (k : Option ℕ) → option_and_then told_number (queue.oldest x.requests) ≡ k → membership_in y.seat ≡ membership_in x.seat
        → Queued S n ms (membership_in x.seat) x.requests → HandSo n ms y k
    taken_hand S n ms x y None is seat h = tt
    taken_hand S n ms x y (Some k) is seat h = taken_member S n ms (membership_in x.seat) x.requests k h is ∙ sym seat
changed_so S c M n told o h x disk (Prepares s text) ms holds known tied may ask president w line =
    steady S n o h x (changed c n x (Prepares s text)) ms refl (sym (ap membership_in may.0)) w
    (no_president ms (changed c n x (Prepares s text)) (λ so. president_not_asked c M n told x disk s text holds known tied may (president so)))
changed_so S c M n told o h x disk (Commits s) ms holds known tied may ask president w line =
    steady S n o h x (changed c n x (Commits s)) ms refl (sym (ap membership_in may.0)) w (none_pending ms (changed c n x (Commits s)) refl)
