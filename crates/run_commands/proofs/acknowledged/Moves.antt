-- A president's hand goes on, and an update is proposed.
use Rattle.std.specs.Prelude.{ℕ, ◌+◌, ◌≡◌, ◌≤◌, ◌<◌, ◌==◌, ◌&&◌, Bool, true, false, cond, List, [], ◌∷◌, Option, None, Some, Ok}
use Rattle.std.specs.List.{count_by}
use Rattle.std.proofs.Common.{refl, sym, ap, subst, ◌∙◌, arith}
use Rattle.admin_words.specs.Commands.{request_of}
use Rattle.admin_words.specs.declared.request.Request.TheVariants as wish
use Rattle.ccr_tables.specs.declared.update.Update.{Update}
use Rattle.proposals.specs.Proposing.{proposing}
use Rattle.proposals.specs.State.{State, first_in}
use Rattle.proposals.specs.declared.arrived.Arrived.{Arrived}
use Rattle.update_words.specs.Words.{words_of}
use Rattle.history.specs.Moment.{Moment}
use Rattle.history.specs.Requests.{IsAskedFor, Request, is_proposal_with, requests_of, same_words}
use Rattle.history.specs.Setting.{Setting}
use Rattle.history.specs.Trace.{propose}
use Rattle.node_model.specs.declared.cluster.Cluster.{Cluster}
use Rattle.node_model.specs.Seats.{version_of}
use Rattle.run_commands.specs.acknowledged.Askings.{held, is_it, passes_test, proposals}
use Rattle.run_commands.specs.acknowledged.Hands.{HandGoes, is_past}
use Rattle.run_commands.specs.acknowledged.Steps.{Backed, FrameOf, Hand, past_with}
use Rattle.run_commands.proofs.acknowledged.Askings.{is_equal, is_same, true_two, two_true}
use Rattle.run_commands.proofs.acknowledged.Frames.{backed_stays, count_proposals}
use Rattle.run_commands.proofs.acknowledged.Hands.{InRange, first_of, first_taken, first_waits, goes_all, goes_past, goes_sound, proposing_past, proposing_sound}
use Rattle.run_commands.proofs.acknowledged.Requests.{words_equal}
use Rattle.run_commands.proofs.acknowledged.Tally.{le_then, tally_both, tally_counts, tally_wider}

-- what comes is backed, and from a node
pub record Cause (S : Setting) (c : Cluster) (e : ℕ) (ms : List Moment) (a : Arrived) : Type 0 where
  pub backed : Backed S c e ms a.from a.number a.text
  pub range : InRange a

pub cause_stays : {v : Option ℕ} {last : ℕ} (S : Setting) (c : Cluster) (k e : ℕ) (before after : List Moment) (a : Arrived) → FrameOf S k v last before after → Cause S c e before a → Cause S c e after a
cause_stays S c k e before after a f h = record { backed = backed_stays S c k e before after a.from a.number a.text f h.backed; range = h.range }

pub hand_goes : (S : Setting) (c : Cluster) (e : ℕ) (ms : List Moment) (C : Arrived → Type 0) (s t : State) → ((a : Arrived) → C a → Cause S c e ms a) → HandGoes C s t → Hand S c ms e s → Hand S c ms e t
hand_goes S c e ms C s t cause goes h = record {
  sound = goes_sound C s t (λ a k. (cause a k).range) goes h.sound;
  backed = goes_all C (λ a. Backed S c e ms a.from a.number a.text) s t (λ a k. (cause a k).backed) goes h.backed;
  counts = λ w. le_then (proposals e w ms) _ _ (h.counts w)
      (tally_wider (passes_test (past_with s w)) (passes_test (past_with t w)) (requests_of S e ms)
      (λ (r : Request) is. let two : _ = two_true (is_past s r.node r.number) (same_words r.words w) is in
      true_two (is_past t r.node r.number) (same_words r.words w) (goes_past C s t r.node r.number goes h.sound two.0) two.1));
}

-- ---- an update is proposed

pub record Takes (c : Cluster) (s : State) (text : List ℕ) : Type 0 where
  pub request : Arrived
  pub first : first_in s.arrived ≡ Some request
  pub update : Update
  pub read : request_of (version_of c) request.text ≡ Ok (wish.Change update)
  pub words : text ≡ words_of update
  pub none : s.proposed ≡ None

count_up : (a d b : ℕ) → a + d ≤ b → 1 ≤ d → (p : ℕ) → p ≤ a → cond true 1 0 + p ≤ b
count_up a d b h k p j = omega (arith, h, k, j)

count_on : (a b p : ℕ) → p ≤ a → a ≤ b → cond false 1 0 + p ≤ b
count_on a b p h k = omega (arith, h, k)

proposed_counts : (S : Setting) (c : Cluster) (e place missing : ℕ) (text : List ℕ) (ms : List Moment) (s : State) (w : List ℕ) → Takes c s text → Hand S c ms e s → (b : Bool) → ((e == e) && same_words text w) ≡ b
    → cond b 1 0 + proposals e w ms ≤ held (past_with (proposing s place missing) w) (requests_of S e ms)
proposed_counts S c e place missing text ms s w takes h false is =
    count_on (held (past_with s w) (requests_of S e ms)) _ (proposals e w ms) (h.counts w)
    (tally_wider (passes_test (past_with s w)) (passes_test (past_with (proposing s place missing) w)) (requests_of S e ms)
    (λ (r : Request) so. let two : _ = two_true (is_past s r.node r.number) (same_words r.words w) so in
    true_two (is_past (proposing s place missing) r.node r.number) (same_words r.words w) (proposing_past s place missing r.node r.number two.0) two.1))
proposed_counts S c e place missing text ms s w takes h true is =
    let a : Arrived = takes.request in
    let t : State = proposing s place missing in
    let same : words_of takes.update ≡ w = sym takes.words ∙ words_equal text w (two_true (e == e) (same_words text w) is).1 in
    let one : 1 ≤ held (is_it a.from a.number w) (requests_of S e ms) =
    subst (λ z. 1 ≤ held (is_it a.from a.number z) (requests_of S e ms)) same
    (first_of (λ z. Backed S c e ms z.from z.number z.text) s a h.backed takes.first takes.update takes.read) in
    count_up (held (past_with s w) (requests_of S e ms)) (held (is_it a.from a.number w) (requests_of S e ms)) _
    (tally_both (passes_test (past_with s w)) (passes_test (is_it a.from a.number w)) (passes_test (past_with t w)) (requests_of S e ms)
    (λ (r : Request) so. let two : _ = two_true (is_past s r.node r.number) (same_words r.words w) so in
    true_two (is_past t r.node r.number) (same_words r.words w) (proposing_past s place missing r.node r.number two.0) two.1)
    (λ (r : Request) so. let two : _ = two_true ((r.node == a.from) && (r.number == a.number)) (same_words r.words w) so in
    let at : _ = two_true (r.node == a.from) (r.number == a.number) two.0 in
    true_two (is_past t r.node r.number) (same_words r.words w)
    (ap (λ j. is_past t j r.number) (is_equal r.node a.from at.0) ∙ (ap (λ j. is_past t a.from j) (is_equal r.number a.number at.1) ∙ first_taken s place missing a takes.first)) two.1)
    (λ (r : Request) so. let two : _ = two_true ((r.node == a.from) && (r.number == a.number)) (same_words r.words w) so in
    let at : _ = two_true (r.node == a.from) (r.number == a.number) two.0 in
    no_and (is_past s r.node r.number) (same_words r.words w)
    (ap (λ j. is_past s j r.number) (is_equal r.node a.from at.0) ∙ (ap (λ j. is_past s a.from j) (is_equal r.number a.number at.1) ∙ first_waits s a h.sound takes.none takes.first))))
    one (proposals e w ms) (h.counts w)
  where
    no_and : (x y : Bool) → x ≡ false → (x && y) ≡ false
    no_and true y k = cc
    no_and false y k = refl

pub hand_proposes : (S : Setting) (c : Cluster) (e v place missing : ℕ) (text : List ℕ) (ms : List Moment) (s : State) → Takes c s text → Hand S c ms e s → Hand S c (propose e v text ∷ ms) e (proposing s place missing)
hand_proposes S c e v place missing text ms s takes h = record {
  sound = proposing_sound s place missing h.sound;
  backed = h.backed;
  counts = λ w. proposed_counts S c e place missing text ms s w takes h ((e == e) && same_words text w) refl;
}

-- the law at its line
words_same : (w : List ℕ) → same_words w w ≡ true
words_same [] = refl
words_same (x ∷ xs) = true_two (x == x) (same_words xs xs) (is_same x) (words_same xs)

one_less : (p q a b : ℕ) → cond true 1 0 + p ≤ a → a ≤ b → q ≡ p → q < b
one_less p q a b h k is = omega (arith, h, k, is)

pub asked_for : (S : Setting) (c : Cluster) (e v : ℕ) (text : List ℕ) (ms : List Moment) (s : State) → Takes c s text → Hand S c ms e s → IsAskedFor S ms (propose e v text)
asked_for S c e v text ms s takes h =
    let rs : List Request = requests_of S e ms in
    let t : State = proposing s 0 0 in
    one_less (proposals e text ms) (count_by (is_proposal_with e text) ms) (held (past_with t text) rs) (count_by (λ r. same_words r.words text) rs)
    (proposed_counts S c e 0 0 text ms s text takes h true (true_two (e == e) (same_words text text) (is_same e) (words_same text)))
    (subst (λ k. held (past_with t text) rs ≤ k) (sym (tally_counts (λ (r : Request). same_words r.words text) rs))
    (tally_wider (passes_test (past_with t text)) (λ (r : Request). same_words r.words text) rs (λ (r : Request) so. (two_true (is_past t r.node r.number) (same_words r.words text) so).1)))
    (count_proposals e text ms)
