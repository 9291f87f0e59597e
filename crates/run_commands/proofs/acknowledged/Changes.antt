-- Each change of a node keeps what is known of its requests.
use Rattle.std.specs.Prelude.{ℕ, ◌+◌, ◌≡◌, ◌≢◌, ◌≤◌, ◌<◌, ◌==◌, ◌&&◌, Bool, true, false, cond, List, [], ◌∷◌, length, replicate, Option, None, Some, is_some}
use Rattle.std.specs.List.{AllByRecursion}
use Rattle.std.proofs.Common.{refl, sym, ap, subst, ◌∙◌, arith}
use Rattle.std.proofs.lemmas.List.{length-replicate}
use Rattle.ccr_commit.specs.Entries.{all_committed, texts_of, with_next}
use Rattle.cl_base.specs.Sets.{set_without}
use Rattle.cmm_attempt.specs.Attempts.{AttemptState}
use Rattle.cmm_attempt.proofs.Basics.{none_some, same_some}
use Rattle.cmm_member.specs.Nodes.{NodeState, with_entries, with_joined, with_valid}
use Rattle.proposals.specs.State.{nothing_yet}
use Rattle.proposals.specs.declared.arrived.Arrived.{Arrived}
use Rattle.proposals.specs.declared.arrived.Kept.{Kept}
use Rattle.history.specs.Moment.{Moment}
use Rattle.history.specs.Requests.{requests_of, same_words}
use Rattle.history.specs.Setting.{Setting, coordinator}
use Rattle.history.specs.Trace.{propose}
use Rattle.node_model.specs.Members.{rested_by}
use Rattle.node_model.specs.Presidents.{next_place, others_of}
use Rattle.node_model.specs.Seats.{promised_of, promising, record_of, session_of, state_of, with_state}
use Rattle.node_model.specs.declared.cluster.Cluster.{Cluster}
use Rattle.node_model.specs.declared.input.Input.{Input}
use Rattle.node_model.specs.declared.node.UpNode.{UpNode}
use Rattle.node_model.specs.declared.presidency.Presidency.{Presidency}
use Rattle.node_model.specs.declared.seat.Seat.{Seat}
use Rattle.node_model.specs.declared.seat.Seat.TheVariants.{Forming, Member}
use Rattle.refinement.specs.Doings.{Change, changed}
use Rattle.refinement.specs.Doings.Change.{Acks, Admits, Commits, Counts, Distrusts, Installs, Leads, Prepares, Promises, Proposes, Sits, Starts}
use Rattle.refinement.specs.Guards.{MayChange}
use Rattle.refinement.specs.Ties.{Delivered}
use Rattle.run_messages.specs.Laws.{membership_in}
use Rattle.run_messages.proofs.Seats.{seat_with}
use Rattle.run_commands.specs.carried.Guards.{ChangeAsk, Command}
use Rattle.run_commands.proofs.carried.Causes.{PresidentAt}
use Rattle.run_commands.proofs.carried.Changes.{state_with}
use Rattle.run_commands.proofs.carried.Plain.{IsSilent}
use Rattle.run_commands.specs.acknowledged.Askings.{asked_as, held, proposals, requested_as}
use Rattle.run_commands.specs.acknowledged.Guards.{CauseOf, ChangeHand}
use Rattle.run_commands.specs.acknowledged.Steps.{Hand, HandIn, IsQuiet, Unused, UpSo, past_with}
use Rattle.run_commands.proofs.acknowledged.Acts.{queue_quiet}
use Rattle.run_commands.proofs.acknowledged.Moves.{Cause, Takes, hand_goes, hand_proposes}

-- what the machine tells of a node: its session is not above its promise, a member's is one, and a node without a membership presides in none
pub record Bound (promised : ℕ) (x : UpNode) : Type 0 where
  pub promise : promised ≡ promised_of x
  pub session : session_of x ≤ promised_of x
  pub alone : membership_in x.seat ≡ None → x.presidency ≡ None

pub below_next : (e p q : ℕ) → p < q → q < e → p < e
below_next e p q h k = omega (arith, h, k)

pub seat_forming : (x : UpNode) (s : NodeState) → x.seat ≡ Forming s → membership_in x.seat ≡ None
seat_forming x s at = ap membership_in at

pub seat_state : (x : UpNode) (seat : Seat) → x.seat ≡ seat → session_of x ≡ (state_of seat).session
seat_state x seat at = ap (λ (z : Seat). (state_of z).session) at

pub seat_promise : (x : UpNode) (seat : Seat) → x.seat ≡ seat → promised_of x ≡ (state_of seat).saved.promised
seat_promise x seat at = ap (λ (z : Seat). (state_of z).saved.promised) at

below : (a p e : ℕ) → a ≤ p → p < e → a ≢ e
below a p e h k = grind (arith, h, k)

-- a membership above the promise is not its own
pub within_bound : (promised : ℕ) (x : UpNode) → Bound promised x → (e : ℕ) → promised < e → membership_in x.seat ≡ Some e → ⊥
within_bound promised x bound e above is = below (session_of x) (promised_of x) e bound.session (subst (λ k. k < e) bound.promise above) (by x.seat refl is)
  where
    by : (seat : Seat) → x.seat ≡ seat → membership_in seat ≡ Some e → session_of x ≡ e
    by (Forming s) at so = absurd (none_some e so)
    by (Member s) at so = ap (λ (z : Seat). (state_of z).session) at ∙ same_some s.session e so

-- ---- the promise rises

le_is : (a b : ℕ) → b ≡ a → a ≤ b
le_is a b h = omega (arith, h)

le_less : (a b : ℕ) → a < b → a ≤ b
le_less a b h = omega (arith, h)

pub rested_promise : (x : UpNode) (p : ℕ) (o : Option AttemptState) → promised_of (rested_by (promising x p) o) ≡ p
rested_promise x p None = refl
rested_promise x p (Some a) = refl

pub with_promise : (x : UpNode) (t : NodeState) → t.saved.promised ≡ promised_of x → (state_of (with_state x.seat t)).saved.promised ≡ promised_of x
with_promise x t h = ap (λ (z : NodeState). z.saved.promised) (state_with x.seat t) ∙ h

pub promise_rises : (c : Cluster) (n : ℕ) (told : Delivered) (x : UpNode) (change : Change) → MayChange c n told x change → promised_of x ≤ promised_of (changed c n x change)
promise_rises c n told x (Promises p) may = subst (λ k. promised_of x ≤ k) (sym (rested_promise x p x.attempt)) (le_less (promised_of x) p may.1)
promise_rises c n told x (Leads p members) may = le_less (promised_of x) p may.0
promise_rises c n told x (Counts a k s i) may = le_is (promised_of x) s.saved.promised (sym (seat_promise x (Forming s) may.1))
promise_rises c n told x (Installs s i) may = le_is (promised_of x) s.saved.promised (sym (seat_promise x (Forming s) may.0))
promise_rises c n told x (Starts a k s) may = le_is (promised_of x) s.saved.promised (sym (seat_promise x (Forming s) may.1))
promise_rises c n told x (Sits s e) may = le_is (promised_of x) s.saved.promised (sym (seat_promise x (Forming s) may.0))
promise_rises c n told x (Distrusts d) may = le_is (promised_of x) (promised_of (changed c n x (Distrusts d))) (with_promise x (with_valid (state_of x.seat) (set_without (record_of x).valid d)) refl)
promise_rises c n told x (Admits at command a d) may = le_is (promised_of x) (promised_of (changed c n x (Admits at command a d))) (with_promise x (with_joined (state_of x.seat) d) refl)
promise_rises c n told x (Proposes s p text) may =
    le_is (promised_of x) (promised_of (changed c n x (Proposes s p text))) (with_promise x (with_entries (state_of x.seat) (with_next (record_of x).entries text)) refl)
promise_rises c n told x (Acks s p q left text) may =
    le_is (promised_of x) (promised_of (changed c n x (Acks s p q left text))) (with_promise x (with_entries (state_of x.seat) (all_committed (record_of x).entries)) refl)
promise_rises c n told x (Prepares s text) may = le_is (promised_of x) s.saved.promised (sym (seat_promise x (Member s) may.0))
promise_rises c n told x (Commits s) may = le_is (promised_of x) s.saved.promised (sym (seat_promise x (Member s) may.0))

-- ---- the node after it

-- in the same membership and session, with the same promise
steady : (S : Setting) (c : Cluster) (n : ℕ) (ms : List Moment) (promised : ℕ) (x y : UpNode) → promised ≡ promised_of x → membership_in y.seat ≡ membership_in x.seat → session_of y ≡ session_of x
    → promised_of y ≡ promised_of x → y.requests.asked ≡ x.requests.asked → AllByRecursion (IsQuiet c) y.requests.waiting → HandIn S c ms (session_of x) y.presidency → UpSo S c n ms promised x
    → UpSo S c n ms (promised_of y) y
steady S c n ms promised x y at seat session promise asked quiet hand h = record {
  within = λ e above. h.within e (subst (λ k. k < e) (promise ∙ sym at) above);
  forming = λ none some. subst (λ e. Unused n e ms) (sym session) (h.forming (sym seat ∙ none) (subst (λ e. 0 < e) session some));
  member = λ e q is above. h.member e q (sym seat ∙ is) (subst (λ j. j < q) asked above);
  requested = λ e q is above. h.requested e q (sym seat ∙ is) (subst (λ j. j < q) asked above);
  quiet = quiet;
  hand = subst (λ e. HandIn S c ms e y.presidency) (sym session) hand;
}

-- a number is promised
promises : (S : Setting) (c : Cluster) (n : ℕ) (ms : List Moment) (promised p : ℕ) (x y : UpNode) → promised < p → membership_in y.seat ≡ None → session_of y ≡ p → promised_of y ≡ p → y.requests.waiting ≡ []
    → y.presidency ≡ None → UpSo S c n ms promised x → UpSo S c n ms (promised_of y) y
promises S c n ms promised p x y above seat session promise waiting none h = record {
  within = λ e more. h.within e (below_next e promised p above (subst (λ k. k < e) promise more));
  forming = λ empty some. subst (λ e. Unused n e ms) (sym session) (h.within p above);
  member = λ e q is more. absurd (none_some e (sym seat ∙ is));
  requested = λ e q is more. absurd (none_some e (sym seat ∙ is));
  quiet = subst (AllByRecursion (IsQuiet c)) (sym waiting) tt;
  hand = subst (λ o. HandIn S c ms (session_of y) o) (sym none) tt;
}

rested_up : (S : Setting) (c : Cluster) (n : ℕ) (ms : List Moment) (promised p : ℕ) (x : UpNode) (o : Option AttemptState) → promised < p → UpSo S c n ms promised x
    → UpSo S c n ms (promised_of (rested_by (promising x p) o)) (rested_by (promising x p) o)
rested_up S c n ms promised p x None above h = promises S c n ms promised p x (rested_by (promising x p) None) above refl refl refl refl refl h
rested_up S c n ms promised p x (Some a) above h = promises S c n ms promised p x (rested_by (promising x p) (Some a)) above refl refl refl refl refl h

-- it is a member, of a membership that was not used
enters : (S : Setting) (c : Cluster) (n : ℕ) (ms : List Moment) (promised : ℕ) (x y : UpNode) (s : NodeState) → promised ≡ promised_of x → x.seat ≡ Forming s → membership_in y.seat ≡ Some s.session → session_of y ≡ s.session
    → promised_of y ≡ promised_of x → y.requests.waiting ≡ x.requests.waiting → 0 < session_of y → (Unused n s.session ms → HandIn S c ms s.session y.presidency) → UpSo S c n ms promised x → UpSo S c n ms (promised_of y) y
enters S c n ms promised x y s at forms seat session promise waiting some hand h =
    let here : session_of x ≡ s.session = seat_state x (Forming s) forms in
    let unused : Unused n s.session ms = subst (λ e. Unused n e ms) here (h.forming (seat_forming x s forms) (subst (λ e. 0 < e) (session ∙ sym here) some)) in
    record {
      within = λ e above. h.within e (subst (λ k. k < e) (promise ∙ sym at) above);
      forming = λ none more. absurd (none_some s.session (sym none ∙ seat));
      member = λ e q is above. subst (λ f. asked_as n q f ms ≡ false) (same_some s.session e (sym seat ∙ is)) (unused.asked q);
      requested = λ e q is above. subst (λ f. requested_as n q f ms ≡ false) (same_some s.session e (sym seat ∙ is)) (unused.requested q);
      quiet = subst (AllByRecursion (IsQuiet c)) (sym waiting) h.quiet;
      hand = subst (λ e. HandIn S c ms e y.presidency) (sym session) (hand unused);
    }

none_first : (b k : ℕ) → k ≡ 0 → k ≤ b
none_first b k h = omega (arith, h)

first_hand : (S : Setting) (c : Cluster) (n e : ℕ) (ms : List Moment) → coordinator e ≡ n → Unused n e ms → Hand S c ms e nothing_yet
first_hand S c n e ms own unused = record {
  sound = record { later = tt; apart = tt; slots = slots };
  backed = tt;
  counts = λ w. none_first (held (past_with nothing_yet w) (requests_of S e ms)) (proposals e w ms) (unused.proposed own w);
}
  where
    none : Option Kept
    none = None

    slots : length (replicate 32 none) ≡ 32
    slots = length-replicate 32 none

pub up_changes : (S : Setting) (c : Cluster) (n : ℕ) (told : Delivered) (i : Input) (v : Option ℕ) (o : Option Command) (promised : ℕ) (x : UpNode) (change : Change) (ms : List Moment) → IsSilent change → MayChange c n told x change
    → ChangeAsk o x change → ChangeHand c i n v x change → ((a : Arrived) → is_some x.presidency ≡ true → CauseOf i n v x a → Cause S c (session_of x) ms a) → Bound promised x
    → (let y : UpNode = changed c n x change in (is_some y.presidency ≡ true → PresidentAt y n) → ((e : ℕ) → membership_in y.seat ≡ Some e → 0 < session_of y) → UpSo S c n ms promised x → UpSo S c n ms (promised_of y) y)
up_changes S c n told i v o promised x (Promises p) ms silent may ask hand cause bound president some held_so = rested_up S c n ms promised p x x.attempt (subst (λ k. k < p) (sym bound.promise) may.1) held_so
up_changes S c n told i v o promised x (Leads p members) ms silent may ask hand cause bound president some held_so =
    promises S c n ms promised p x (changed c n x (Leads p members)) (subst (λ k. k < p) (sym bound.promise) may.0) refl refl refl refl refl held_so
up_changes S c n told i v o promised x (Counts a k s j) ms silent may ask hand cause bound president some held_so =
    steady S c n ms promised x (changed c n x (Counts a k s j)) bound.promise (sym (seat_forming x s may.1)) (sym (seat_state x (Forming s) may.1)) (sym (seat_promise x (Forming s) may.1)) refl held_so.quiet held_so.hand held_so
up_changes S c n told i v o promised x (Installs s j) ms silent may ask hand cause bound president some held_so =
    steady S c n ms promised x (changed c n x (Installs s j)) bound.promise (sym (seat_forming x s may.0)) (sym (seat_state x (Forming s) may.0)) (sym (seat_promise x (Forming s) may.0)) refl held_so.quiet held_so.hand held_so
up_changes S c n told i v o promised x (Starts a k s) ms silent may ask hand cause bound president some held_so =
    let y : UpNode = changed c n x (Starts a k s) in
    let p : PresidentAt y n = president refl in
    enters S c n ms promised x y s bound.promise may.1 refl refl (sym (seat_promise x (Forming s) may.1)) refl (some s.session refl)
    (λ unused. first_hand S c n s.session ms (ap coordinator p.session ∙ p.own) unused) held_so
up_changes S c n told i v o promised x (Sits s e) ms silent may ask hand cause bound president some held_so =
    enters S c n ms promised x (changed c n x (Sits s e)) s bound.promise may.0 refl refl (sym (seat_promise x (Forming s) may.0)) refl (some s.session refl)
    (λ unused. subst (λ z. HandIn S c ms s.session z) (sym (bound.alone (seat_forming x s may.0))) tt) held_so
up_changes S c n told i v o promised x (Distrusts d) ms silent may ask hand cause bound president some held_so =
    let t : NodeState = with_valid (state_of x.seat) (set_without (record_of x).valid d) in
    steady S c n ms promised x (changed c n x (Distrusts d)) bound.promise (seat_with x.seat t refl) (ap (λ (z : NodeState). z.session) (state_with x.seat t)) (with_promise x t refl) refl held_so.quiet held_so.hand held_so
up_changes S c n told i v o promised x (Admits at command a d) ms silent may ask hand cause bound president some held_so =
    let t : NodeState = with_joined (state_of x.seat) d in
    steady S c n ms promised x (changed c n x (Admits at command a d)) bound.promise (seat_with x.seat t refl) (ap (λ (z : NodeState). z.session) (state_with x.seat t)) (with_promise x t refl) refl held_so.quiet held_so.hand held_so
up_changes S c n told i v o promised x (Proposes s p text) ms silent may ask hand cause bound president some held_so = absurd silent
up_changes S c n told i v o promised x (Acks s p q left text) ms silent may ask hand cause bound president some held_so =
    let t : NodeState = with_entries (state_of x.seat) (all_committed (record_of x).entries) in
    steady S c n ms promised x (changed c n x (Acks s p q left text)) bound.promise (seat_with x.seat t refl) (ap (λ (z : NodeState). z.session) (state_with x.seat t)) (with_promise x t refl) ask.asked
    (queue_quiet c o x q ask held_so.quiet)
    (hand_goes S c (session_of x) ms (CauseOf i n v x) p.proposals left.proposals (λ a. cause a (ap is_some may.0)) hand (subst (λ z. HandIn S c ms (session_of x) z) may.0 held_so.hand)) held_so
up_changes S c n told i v o promised x (Prepares s text) ms silent may ask hand cause bound president some held_so =
    steady S c n ms promised x (changed c n x (Prepares s text)) bound.promise (sym (ap membership_in may.0)) (sym (seat_state x (Member s) may.0)) (sym (seat_promise x (Member s) may.0)) refl held_so.quiet held_so.hand held_so
up_changes S c n told i v o promised x (Commits s) ms silent may ask hand cause bound president some held_so =
    steady S c n ms promised x (changed c n x (Commits s)) bound.promise (sym (ap membership_in may.0)) (sym (seat_state x (Member s) may.0)) (sym (seat_promise x (Member s) may.0)) refl held_so.quiet held_so.hand held_so

-- ---- an update is proposed

-- what was told once the line of a proposal stands
abbrev pub begun : List Moment → Change → List Moment
begun ms (Proposes s p text) = propose s.session (length (texts_of s.saved.entries) + 1) text ∷ ms
begun ms _ = ms

other_session : (a p e : ℕ) → a ≤ p → p < e → (a == e) ≡ false
other_session a p e h k = grind (arith, h, k)

no_and : (x y : Bool) → x ≡ false → (x && y) ≡ false
no_and true y k = cc
no_and false y k = refl

no_more : (b : Bool) (k : ℕ) → b ≡ false → cond b 1 0 + k ≡ k
no_more true k h = cc
no_more false k h = omega arith

-- memberships above the promise are not those of the session
pub within_begun : (c : Cluster) (n : ℕ) (told : Delivered) (promised : ℕ) (x : UpNode) (change : Change) (ms : List Moment) → MayChange c n told x change → Bound promised x → ((e : ℕ) → promised < e → Unused n e ms)
    → (e : ℕ) → promised < e → Unused n e (begun ms change)
within_begun c n told promised x (Proposes s p text) ms may bound within e above =
    let low : s.session ≤ promised_of x = subst (λ k. k ≤ promised_of x) (seat_state x (Member s) may.1) bound.session in
    let u : Unused n e ms = within e above in
    record {
      asked = u.asked;
      requested = u.requested;
      proposed = λ own w. no_more ((s.session == e) && same_words text w) (proposals e w ms)
          (no_and (s.session == e) (same_words text w) (other_session s.session (promised_of x) e low (subst (λ k. k < e) bound.promise above))) ∙ u.proposed own w;
    }
within_begun c n told promised x _ ms may bound within e above = within e above

pub takes_first : (c : Cluster) (n : ℕ) (told : Delivered) (i : Input) (v : Option ℕ) (x : UpNode) (s : NodeState) (p : Presidency) (text : List ℕ) → MayChange c n told x (Proposes s p text)
    → ChangeHand c i n v x (Proposes s p text) → Takes c p.proposals text
takes_first c n told i v x s p text may hand = record { request = hand.request; first = hand.first; update = hand.update; read = hand.read; words = hand.words; none = may.2 }

pub up_proposes : (S : Setting) (c : Cluster) (n : ℕ) (told : Delivered) (i : Input) (v : Option ℕ) (promised : ℕ) (x : UpNode) (s : NodeState) (p : Presidency) (text : List ℕ) (ms : List Moment)
    → MayChange c n told x (Proposes s p text) → ChangeHand c i n v x (Proposes s p text) → Bound promised x → UpSo S c n ms promised x
    → (let y : UpNode = changed c n x (Proposes s p text) in UpSo S c n (begun ms (Proposes s p text)) (promised_of y) y)
up_proposes S c n told i v promised x s p text ms may hand bound held_so =
    let change : Change = Proposes s p text in
    let y : UpNode = changed c n x change in
    let t : NodeState = with_entries (state_of x.seat) (with_next (record_of x).entries text) in
    let here : session_of x ≡ s.session = seat_state x (Member s) may.1 in
    let session : session_of y ≡ session_of x = ap (λ (z : NodeState). z.session) (state_with x.seat t) in
    let seat : membership_in y.seat ≡ membership_in x.seat = seat_with x.seat t refl in
    let old : Hand S c ms s.session p.proposals = subst (λ e. Hand S c ms e p.proposals) here (subst (λ z. HandIn S c ms (session_of x) z) may.0 held_so.hand) in
    record {
      within = λ e above. within_begun c n told promised x change ms may bound held_so.within e (subst (λ k. k < e) (with_promise x t refl ∙ sym bound.promise) above);
      forming = λ none some. absurd (none_some s.session (sym none ∙ (seat ∙ ap membership_in may.1)));
      member = λ e q is above. held_so.member e q (sym seat ∙ is) above;
      requested = λ e q is above. held_so.requested e q (sym seat ∙ is) above;
      quiet = held_so.quiet;
      hand = subst (λ e. HandIn S c (begun ms change) e y.presidency) (sym (session ∙ here))
          (hand_proposes S c s.session (length (texts_of s.saved.entries) + 1) (next_place x) (others_of n x) text ms p.proposals (takes_first c n told i v x s p text may hand) old);
    }
