-- A change of a node leaves it seated: its lines say of which membership it is a member, or that it is none.
use Rattle.std.specs.Prelude.{ℕ, ◌<◌, ◌≡◌, ◌≢◌, ◌==◌, ◌++◌, true, List, [], ◌∷◌, Option, None, Some}
use Rattle.std.proofs.Common.{refl, ap, sym, subst, ◌∙◌, arith}
use Rattle.std.proofs.lemmas.List.{append_assoc}
use Rattle.std.specs.List.{AllByRecursion}
use Rattle.ccr_commit.specs.Entries.{all_committed, with_next}
use Rattle.cl_base.specs.Sets.{set_without}
use Rattle.cmm_attempt.specs.Attempts.{AttemptState}
use Rattle.cmm_attempt.specs.Calls.{turn}
use Rattle.cmm_member.specs.Nodes.{NodeState, with_entries, with_joined, with_valid}
use Rattle.history.specs.Member.{member_of}
use Rattle.history.specs.Setting.{coordinator}
use Rattle.node_model.specs.Attempts.{starting_as}
use Rattle.node_model.specs.Configurations.{in_force}
use Rattle.node_model.specs.declared.cluster.Cluster.{Cluster}
use Rattle.node_model.specs.declared.node.UpNode.{UpNode}
use Rattle.node_model.specs.declared.output.Output.{Output}
use Rattle.node_model.specs.declared.output.Output.TheVariants.{Tells}
use Rattle.node_model.specs.declared.seat.Seat.{Seat}
use Rattle.node_model.specs.declared.seat.Seat.TheVariants.{Forming, Member}
use Rattle.node_model.specs.Entries.{unknown_lines}
use Rattle.node_model.specs.Members.{rested_by}
use Rattle.node_model.specs.Seats.{promised_of, promising, record_of, state_of}
use Rattle.refinement.specs.Doings.{Change, adopted_by, changed, last_lines, of_node, start_lines, superseded_lines}
use Rattle.refinement.specs.Doings.Change.{Acks, Admits, Commits, Counts, Distrusts, Installs, Leads, Prepares, Promises, Proposes, Sits, Starts}
use Rattle.refinement.specs.Guards.{MayChange}
use Rattle.refinement.specs.Ties.{Delivered}
use Rattle.run_history.proofs.Idle.{if_true, passing_append}
use Rattle.run_history.proofs.Lists.{both}
use Rattle.run_history.proofs.Small.{IsSmallChange}
use Rattle.run_history.specs.Scenes.{Scene, passing}
use Rattle.status_report.specs.declared.attempt_entry.AttemptEntry.TheVariants as attempt
use Rattle.status_report.specs.declared.entry.Entry.TheVariants as entry
use Rattle.status_report.specs.declared.node_entry.NodeEntry.TheVariants as note
use Rattle.run_messages.specs.Laws.{membership_in}
use Rattle.run_messages.specs.Outputs.{AreEven, AreStill, IsEvenOutput, IsStillOutput}
use Rattle.run_messages.proofs.Beats.{NoBeatOutput, evens_others}
use Rattle.run_messages.proofs.Lines.{evens_still, passing_still}
use Rattle.run_messages.proofs.Seats.{adopted_even, base_even, seat_with, superseded_even, unknown_even}

same_number : (n : ℕ) → (n == n) ≡ true
same_number n = grind arith

-- ---- lines of which the last, or one of them, says something of node n alone

-- what is so before the lines of a change: first they say nothing of members, or the record was saved
pub record Opens (n : ℕ) (v : Option ℕ) (os : List Output) (s : Scene) : Type 0 where
  pub own : member_of n (passing n os s).moments ≡ v
  pub others : (k : ℕ) → k ≢ n → AreStill k os
  pub none : AllByRecursion NoBeatOutput os

-- .. and after them: it has this membership
goes_on : (n : ℕ) (v w : Option ℕ) (os more : List Output) (s : Scene) → Opens n v os s → (member_of n (passing n os s).moments ≡ v → member_of n (passing n more (passing n os s)).moments ≡ w)
    → ((k : ℕ) → k ≢ n → AreStill k more) → AllByRecursion NoBeatOutput more → Opens n w (os ++ more) s
goes_on n v w os more s h own others none = record {
  own = subst (λ (t : Scene). member_of n t.moments ≡ w) (sym (passing_append n os more s)) (own h.own);
  others = λ k ne. both (IsStillOutput k) os more (h.others k ne) (others k ne);
  none = both NoBeatOutput os more h.none none;
}

evens_go : (n : ℕ) (v : Option ℕ) (os more : List Output) (s : Scene) → Opens n v os s → AreEven more → Opens n v (os ++ more) s
evens_go n v os more s h even =
    goes_on n v v os more s h (λ is. passing_still n n more (passing n os s) (evens_still n more even) ∙ is) (λ k ne. evens_still k more even) (evens_others more even)

-- the node is a member from here on
member_goes : (n e : ℕ) (v : Option ℕ) (os : List Output) (s : Scene) → Opens n v os s → Opens n (Some e) (os ++ of_node n (note.Member e) ∷ []) s
member_goes n e v os s h =
    goes_on n v (Some e) os (of_node n (note.Member e) ∷ []) s h (λ is. if_true (n == n) (Some e) (member_of n (passing n os s).moments) (same_number n)) (λ k ne. (λ is. ne (sym is), tt)) (tt, tt)

-- an attempt of the node's begins
attempt_goes : (n p members : ℕ) (v : Option ℕ) (os : List Output) (s : Scene) → coordinator p ≡ n → Opens n v os s → Opens n None (os ++ Tells (entry.Attempt (attempt.Begun p members)) ∷ []) s
attempt_goes n p members v os s own h =
    goes_on n v None os (Tells (entry.Attempt (attempt.Begun p members)) ∷ []) s h
    (λ is. if_true (coordinator p == n) None (member_of n (passing n os s).moments) (ap (λ k. k == n) own ∙ same_number n)) (λ k ne. (λ is. ne (sym is ∙ own), tt)) (tt, tt)

after_one : (n : ℕ) (v : Option ℕ) (os more : List Output) (o : Output) (s : Scene) → Opens n v ((os ++ o ∷ []) ++ more) s → Opens n v (os ++ o ∷ more) s
after_one n v os more o s h = subst (λ z. Opens n v z s) (append_assoc os (o ∷ []) more) h

-- ---- changes

-- A change may follow lines that leave this membership: it leaves the seat's, or its own lines tell.
abbrev pub Follows : Cluster → ℕ → UpNode → Option ℕ → Change → Type 0
Follows c n x v (Leads p members) = Unit {0}
Follows c n x v (Starts a k s) = Unit {0}
Follows c n x v (Sits s e) = Unit {0}
Follows c n x v change = v ≡ membership_in (changed c n x change).seat

starts_go : (c : Cluster) (n : ℕ) (x : UpNode) (a : AttemptState) (s : NodeState) (v : Option ℕ) (os : List Output) (z : Scene) → s.session ≡ a.plan.epoch → Opens n v os z
    → Opens n (membership_in (starting_as c n x a s).seat) (os ++ (start_lines a s ++ (adopted_by c a (starting_as c n x a s) ++ of_node n (note.Member a.plan.epoch) ∷ []))) z
starts_go c n x a s v os z session h =
    let y : UpNode = starting_as c n x a s in
    let e : ℕ = a.plan.epoch in
    let flags : List Output = adopted_by c a y in
    let last : List Output = of_node n (note.Member e) ∷ [] in
    let lines : List Output = start_lines a s ++ flags in
    let even : AreEven lines =
    both IsEvenOutput (start_lines a s) flags (tt, base_even e 0 (all_committed s.saved.entries).committed) (adopted_even e (in_force c y) y.presidency) in
    let done : Opens n (Some e) ((os ++ lines) ++ last) z = member_goes n e v (os ++ lines) z (evens_go n v os lines z h even) in
    let same : (os ++ lines) ++ last ≡ os ++ (start_lines a s ++ (flags ++ last)) =
    append_assoc os lines last ∙ ap (λ more. os ++ more) (append_assoc (start_lines a s) flags last) in
    subst (λ w. Opens n w (os ++ (start_lines a s ++ (flags ++ last))) z) (ap (λ q. Some q) (sym session)) (subst (λ more. Opens n (Some e) more z) same done)

evens_then : (c : Cluster) (n : ℕ) (x : UpNode) (change : Change) (v : Option ℕ) (os : List Output) (s : Scene) → AreEven (last_lines c n x change) → v ≡ membership_in (changed c n x change).seat → Opens n v os s
    → Opens n (membership_in (changed c n x change).seat) (os ++ last_lines c n x change) s
evens_then c n x change v os s even is h =
    subst (λ w. Opens n w (os ++ last_lines c n x change) s) is (evens_go n v os (last_lines c n x change) s h even)

pub change_opens : (c : Cluster) (n : ℕ) (told : Delivered) (x : UpNode) (change : Change) (v : Option ℕ) (os : List Output) (s : Scene) → MayChange c n told x change → IsSmallChange change → Follows c n x v change
    → Opens n v os s → Opens n (membership_in (changed c n x change).seat) (os ++ last_lines c n x change) s
change_opens c n told x (Promises p) v os s may small follows h =
    evens_then c n x (Promises p) v os s (both IsEvenOutput (superseded_lines p x.attempt) (unknown_lines n x.requests.waiting) (superseded_even p x.attempt) (unknown_even n x.requests.waiting)) follows h
change_opens c n told x (Leads p members) v os s may small follows h =
    let line : Output = Tells (entry.Attempt (attempt.Begun p members)) in
    let lines : List Output = unknown_lines n x.requests.waiting in
    after_one n None os lines line s (evens_go n None (os ++ line ∷ []) lines s (attempt_goes n p members v os s may.1 h) (unknown_even n x.requests.waiting))
change_opens c n told x (Counts a k t i) v os s may small follows h = evens_then c n x (Counts a k t i) v os s (tt, tt) follows h
change_opens c n told x (Installs t i) v os s may small follows h = evens_then c n x (Installs t i) v os s (tt, tt) follows h
change_opens c n told x (Starts a k t) v os s may small follows h = starts_go c n x (turn a k).after t v os s small h
change_opens c n told x (Sits t e) v os s may small follows h =
    subst (λ w. Opens n w (os ++ of_node n (note.Member e) ∷ []) s) (ap (λ q. Some q) (sym small)) (member_goes n e v os s h)
change_opens c n told x (Distrusts d) v os s may small follows h = evens_then c n x (Distrusts d) v os s tt follows h
change_opens c n told x (Admits at command a d) v os s may small follows h = evens_then c n x (Admits at command a d) v os s tt follows h
change_opens c n told x (Proposes t p text) v os s may small follows h = evens_then c n x (Proposes t p text) v os s tt follows h
change_opens c n told x (Acks t p q left text) v os s may small follows h = evens_then c n x (Acks t p q left text) v os s (tt, tt) follows h
change_opens c n told x (Prepares t text) v os s may small follows h = evens_then c n x (Prepares t text) v os s tt follows h
change_opens c n told x (Commits t) v os s may small follows h = evens_then c n x (Commits t) v os s tt follows h

-- ---- which changes leave the seat

-- all but a promise, an attempt's beginning, and becoming a member
abbrev pub IsSteady : Change → Type 0
IsSteady (Promises p) = ⊥
IsSteady _ = Unit {0}

pub steady_follows : (c : Cluster) (n : ℕ) (told : Delivered) (x : UpNode) (change : Change) (v : Option ℕ) → MayChange c n told x change → IsSteady change → v ≡ membership_in x.seat → Follows c n x v change
steady_follows c n told x (Promises p) v may steady is = absurd steady
steady_follows c n told x (Leads p members) v may steady is = tt
steady_follows c n told x (Counts a k s i) v may steady is = is ∙ ap membership_in may.1
steady_follows c n told x (Installs s i) v may steady is = is ∙ ap membership_in may.0
steady_follows c n told x (Starts a k s) v may steady is = tt
steady_follows c n told x (Sits s e) v may steady is = tt
steady_follows c n told x (Distrusts d) v may steady is = is ∙ sym (seat_with x.seat (with_valid (state_of x.seat) (set_without (record_of x).valid d)) refl)
steady_follows c n told x (Admits at command a d) v may steady is = is ∙ sym (seat_with x.seat (with_joined (state_of x.seat) d) refl)
steady_follows c n told x (Proposes s p text) v may steady is = is ∙ sym (seat_with x.seat (with_entries (state_of x.seat) (with_next (record_of x).entries text)) refl)
steady_follows c n told x (Acks s p q left text) v may steady is = is ∙ sym (seat_with x.seat (with_entries (state_of x.seat) (all_committed (record_of x).entries)) refl)
steady_follows c n told x (Prepares s text) v may steady is = is ∙ ap membership_in may.0
steady_follows c n told x (Commits s) v may steady is = is ∙ ap membership_in may.0

-- a promise changes the record, and is made in the event of a Collect
promised_is : (x : UpNode) (p : ℕ) (o : Option AttemptState) → promised_of (rested_by (promising x p) o) ≡ p
promised_is x p None = promised_in x.seat
  where
    promised_in : (seat : Seat) → promised_of (promising (record x { seat = seat }) p) ≡ p
    promised_in (Forming s) = refl
    promised_in (Member s) = refl
promised_is x p (Some a) = refl

not_less : (a b : ℕ) → a < b → b ≡ a → ⊥
not_less a b less same = omega (arith, less, same)

-- nothing is saved where nothing changes, so that it is no promise
pub made_steady : (c : Cluster) (n : ℕ) (told : Delivered) (x : UpNode) (change : Change) → MayChange c n told x change → record_of (changed c n x change) ≡ record_of x → IsSteady change
made_steady c n told x (Promises p) may same = absurd (not_less (promised_of x) p may.1 (sym (promised_is x p x.attempt) ∙ ap (λ r. r.promised) same))
made_steady c n told x (Leads p members) may same = tt
made_steady c n told x (Counts a k s i) may same = tt
made_steady c n told x (Installs s i) may same = tt
made_steady c n told x (Starts a k s) may same = tt
made_steady c n told x (Sits s e) may same = tt
made_steady c n told x (Distrusts d) may same = tt
made_steady c n told x (Admits at command a d) may same = tt
made_steady c n told x (Proposes s p text) may same = tt
made_steady c n told x (Acks s p q left text) may same = tt
made_steady c n told x (Prepares s text) may same = tt
made_steady c n told x (Commits s) may same = tt
