-- All that a node does in a step keeps its queue in order, and sends the oldest request where that is another.
use Rattle.std.specs.Prelude.{ℕ, ◌+◌, ◌-◌, ◌≡◌, ◌≤◌, ◌⊎◌, ◌^◌, ◌++◌, ◌%◌, ◌==◌, true, min, List, [], ◌∷◌, Option, None, Some, is_some}
use Rattle.std.specs.List.{AllByRecursion}
use Rattle.std.proofs.Common.{refl, ap, sym, subst, ◌∙◌, inl, inr, arith}
use Rattle.cl_base.specs.Sets.{set_without}
use Rattle.cmm_attempt.proofs.Basics.{if_either}
use Rattle.cmm_attempt.specs.Attempts.{AttemptState}
use Rattle.node_model.specs.Members.{promised_so, rested_by}
use Rattle.node_model.specs.Seats.{coordinator_of, node_numbered, promising, record_of, session_of, state_of, with_state}
use Rattle.node_model.specs.declared.cluster.Cluster.{Cluster}
use Rattle.node_model.specs.declared.input.Input.{Input}
use Rattle.node_model.specs.declared.node.UpNode.{UpNode}
use Rattle.node_model.specs.declared.seat.Seat.{Seat}
use Rattle.node_model.specs.declared.seat.Seat.TheVariants.{Forming, Member}
use Rattle.cmm_member.specs.Nodes.{NodeState, with_joined, with_valid}
use Rattle.refinement.specs.Doings.{Change, changed}
use Rattle.refinement.specs.Doings.{Change as change}
use Rattle.refinement.specs.Guards.{MayChange}
use Rattle.refinement.specs.Ties.{Delivered}
use Rattle.request_queue.specs.Queue.{Queue, left_of, oldest_in}
use Rattle.request_queue.specs.declared.request.Request.{Request}
use Rattle.run_packets.specs.waiting.Asking.{ChangeAsks, Joins, MayMove, Move, Pops, QueueGoes, Stays, waiting_by}
use Rattle.run_packets.specs.waiting.Waiting.{AreAbove, AreLow, AreRising, IsFit, IsPaid, IsQueue, Sendings, WordsFit}

-- ---- the queue stays in order

le_then : (a b d : ℕ) → a ≤ b → b ≤ d → a ≤ d
le_then a b d h k = omega (arith, h, k)

same_le : (a b : ℕ) → a ≡ b → a ≤ b
same_le a b h = omega (arith, h)

next_more : (a m : ℕ) → a ≤ m → a ≤ min (a + 1) m
next_more a m h = omega (arith, h)

next_word : (a m : ℕ) → min (a + 1) m ≤ m
next_word a m = omega arith

low_then : (a b : ℕ) (rs : List Request) → a ≤ b → AreLow a rs → AreLow b rs
low_then a b [] h low = tt
low_then a b (r ∷ rs) h low = (le_then r.number a b low.0 h, low_then a b rs h low.1)

above_and : (k : ℕ) (rs : List Request) (r : Request) → k ≤ r.number → AreAbove k rs → AreAbove k (rs ++ r ∷ [])
above_and k [] r h above = (h, tt)
above_and k (first ∷ rs) r h above = (above.0, above_and k rs r h above.1)

rising_and : (rs : List Request) (r : Request) → AreLow r.number rs → AreRising rs → AreRising (rs ++ r ∷ [])
rising_and [] r low rising = (tt, tt)
rising_and (first ∷ rs) r low rising = (above_and first.number rs r low.0 rising.0, rising_and rs r low.1 rising.1)

low_and : (k : ℕ) (rs : List Request) (r : Request) → r.number ≤ k → AreLow k rs → AreLow k (rs ++ r ∷ [])
low_and k [] r h low = (h, tt)
low_and k (first ∷ rs) r h low = (low.0, low_and k rs r h low.1)

fit_and : (rs : List Request) (r : Request) → IsFit r → AllByRecursion IsFit rs → AllByRecursion IsFit (rs ++ r ∷ [])
fit_and [] r h fit = (h, tt)
fit_and (first ∷ rs) r h fit = (fit.0, fit_and rs r h fit.1)

-- the oldest may leave
popped : (top : ℕ) (q : Queue) (rs : List Request) (number : ℕ) → IsQueue top rs → q.waiting ≡ rs → IsQueue top (left_of q rs number).waiting
popped top q [] number h same = subst (IsQueue top) (sym same) h
popped top q (r ∷ rs) number h same =
    if_either (λ (z : Queue). IsQueue top z.waiting) (r.number == number) (record q { waiting = rs; age = 0 }) q
    (record { rising = h.rising.1; low = h.low.1; word = h.word; fit = h.fit.1 }) (subst (IsQueue top) (sym same) h)

moved : (c : Cluster) (came : Input) (before after : Queue) (m : Move) → WordsFit c came → before.asked ≤ after.asked → after.asked ≤ 2 ^ 64 - 1 → MayMove c came m after → IsQueue before.asked before.waiting
    → IsQueue after.asked (waiting_by m before)
moved c came before after Stays words more word may h = record { rising = h.rising; low = low_then before.asked after.asked before.waiting more h.low; word = word; fit = h.fit }
moved c came before after (Pops number) words more word may h =
    popped after.asked before before.waiting number (record { rising = h.rising; low = low_then before.asked after.asked before.waiting more h.low; word = word; fit = h.fit }) refl
moved c came before after (Joins r) words more word may h =
    let low : AreLow after.asked before.waiting = low_then before.asked after.asked before.waiting more h.low in
    record {
      rising = rising_and before.waiting r (subst (λ k. AreLow k before.waiting) (sym may.0) low) h.rising;
      low = low_and after.asked before.waiting r (same_le r.number after.asked may.0) low;
      word = word;
      fit = fit_and before.waiting r (λ told. words r (may.1 told)) h.fit;
    }

pub queue_goes : (c : Cluster) (came : Input) (before after : Queue) → WordsFit c came → QueueGoes c came before after → IsQueue before.asked before.waiting → IsQueue after.asked after.waiting
queue_goes c came before after words g h = subst (IsQueue after.asked) (sym g.waiting) (by_asked g.asked)
  where
    by_asked : (after.asked ≡ before.asked) ⊎ (after.asked ≡ min (before.asked + 1) (2 ^ 64 - 1)) → IsQueue after.asked (waiting_by g.move before)
    by_asked (inl same) = moved c came before after g.move words (same_le before.asked after.asked (sym same)) (subst (λ k. k ≤ 2 ^ 64 - 1) (sym same) h.word) g.may h
    by_asked (inr next) =
        moved c came before after g.move words (subst (λ k. before.asked ≤ k) (sym next) (next_more before.asked (2 ^ 64 - 1) h.word))
        (subst (λ k. k ≤ 2 ^ 64 - 1) (sym next) (next_word before.asked (2 ^ 64 - 1))) g.may h

emptied : (top : ℕ) (rs ws : List Request) → ws ≡ [] → IsQueue top rs → IsQueue top ws
emptied top rs ws none h = subst (IsQueue top) (sym none) (record { rising = tt; low = tt; word = h.word; fit = tt })

-- ---- most leaves the queue, the office and the president as they are

pub record Steady (x y : UpNode) : Type 0 where
  pub asked : y.requests.asked ≡ x.requests.asked
  pub waiting : y.requests.waiting ≡ x.requests.waiting
  pub office : is_some x.presidency ≡ true → is_some y.presidency ≡ true
  pub session : session_of y ≡ session_of x

steady_queue : (x y : UpNode) → Steady x y → IsQueue x.requests.asked x.requests.waiting → IsQueue y.requests.asked y.requests.waiting
steady_queue x y s h = subst (λ k. IsQueue k y.requests.waiting) (sym s.asked) (subst (IsQueue x.requests.asked) (sym s.waiting) h)

steady_leader : (x y : UpNode) → Steady x y → coordinator_of y ≡ coordinator_of x
steady_leader x y s = ap (λ k. node_numbered (k % 64)) s.session

steady_paid : (first : Option Request) (G : Sendings) (x y : UpNode) → Steady x y → IsPaid first G x → IsPaid first G y
steady_paid first G x y s (inl office) = inl (s.office office)
steady_paid first G x y s (inr (inl same)) = inr (inl (ap oldest_in s.waiting ∙ same))
steady_paid first G x y s (inr (inr (inl none))) = inr (inr (inl (ap oldest_in s.waiting ∙ none)))
steady_paid first G x y s (inr (inr (inr (inl none)))) = inr (inr (inr (inl (steady_leader x y s ∙ none))))
steady_paid first G x y s (inr (inr (inr (inr sent)))) =
    inr (inr (inr (inr (record { to = sent.to; leads = steady_leader x y s ∙ sent.leads; request = sent.request; first = ap oldest_in s.waiting ∙ sent.first; epoch = sent.epoch; given = sent.given }))))

-- a node that is up, with its queue in order
pub record IsGood (first : Option Request) (G : Sendings) (x : UpNode) : Type 0 where
  pub queue : IsQueue x.requests.asked x.requests.waiting
  pub paid : IsPaid first G x

pub steady_good : (first : Option Request) (G : Sendings) (x y : UpNode) → Steady x y → IsGood first G x → IsGood first G y
steady_good first G x y s h = record { queue = steady_queue x y s h.queue; paid = steady_paid first G x y s h.paid }

-- ---- changes

rested_waiting : (x : UpNode) (p : ℕ) (a : Option AttemptState) → (rested_by (promising x p) a).requests.waiting ≡ []
rested_waiting x p None = refl
rested_waiting x p (Some a) = refl

rested_asked : (x : UpNode) (p : ℕ) (a : Option AttemptState) → (rested_by (promising x p) a).requests.asked ≡ x.requests.asked
rested_asked x p None = refl
rested_asked x p (Some a) = refl

with_session : (seat : Seat) (t : NodeState) → t.session ≡ (state_of seat).session → (state_of (with_state seat t)).session ≡ (state_of seat).session
with_session (Forming s) t same = same
with_session (Member s) t same = same

module _ (n : ℕ) (c : Cluster) (came : Input) (told : Delivered) (words : WordsFit c came) (first : Option Request) (G : Sendings) where
  abbrev Good : UpNode → Type 0
  Good x = IsGood first G x

  ended_good : (x y : UpNode) → y.requests.waiting ≡ [] → y.requests.asked ≡ x.requests.asked → Good x → Good y
  ended_good x y none asked h =
      record { queue = subst (λ k. IsQueue k y.requests.waiting) (sym asked) (emptied x.requests.asked x.requests.waiting y.requests.waiting none h.queue); paid = inr (inr (inl (ap oldest_in none))) }

  same_session : (x : UpNode) (seat : Seat) (k : ℕ) → x.seat ≡ seat → (state_of seat).session ≡ k → k ≡ session_of x
  same_session x seat k is session = sym (ap (λ z. (state_of z).session) is ∙ session)

  pub change_good : (x : UpNode) (ch : Change) → MayChange c n told x ch → ChangeAsks c came x ch → Good x → Good (changed c n x ch)
  change_good x (change.Promises p) may asks h = ended_good x (promised_so x p) (rested_waiting x p x.attempt) (rested_asked x p x.attempt) h
  change_good x (change.Leads p members) may asks h = ended_good x (changed c n x (change.Leads p members)) refl refl h
  change_good x (change.Counts a k s i) may asks h =
      steady_good first G x (changed c n x (change.Counts a k s i)) (record { asked = refl; waiting = refl; office = λ z. z; session = same_session x _ s.session may.1 refl }) h
  change_good x (change.Installs s i) may asks h =
      steady_good first G x (changed c n x (change.Installs s i)) (record { asked = refl; waiting = refl; office = λ z. z; session = same_session x _ s.session may.0 refl }) h
  change_good x (change.Starts a k s) may asks h = record { queue = h.queue; paid = inl refl }
  change_good x (change.Sits s e) may asks h =
      steady_good first G x (changed c n x (change.Sits s e)) (record { asked = refl; waiting = refl; office = λ z. z; session = same_session x _ s.session may.0 refl }) h
  change_good x (change.Distrusts d) may asks h =
      steady_good first G x (changed c n x (change.Distrusts d))
      (record { asked = refl; waiting = refl; office = λ z. z; session = with_session x.seat (with_valid (state_of x.seat) (set_without (record_of x).valid d)) refl }) h
  change_good x (change.Admits at command a d) may asks h =
      steady_good first G x (changed c n x (change.Admits at command a d))
      (record { asked = refl; waiting = refl; office = λ z. z; session = with_session x.seat (with_joined (state_of x.seat) d) refl }) h
  change_good x (change.Proposes s p text) may asks h = record { queue = h.queue; paid = inl refl }
  change_good x (change.Acks s p q left text) may asks h = record { queue = queue_goes c came x.requests q words asks h.queue; paid = inl refl }
  change_good x (change.Prepares s text) may asks h =
      steady_good first G x (changed c n x (change.Prepares s text)) (record { asked = refl; waiting = refl; office = λ z. z; session = same_session x _ s.session may.0 refl }) h
  change_good x (change.Commits s) may asks h =
      steady_good first G x (changed c n x (change.Commits s)) (record { asked = refl; waiting = refl; office = λ z. z; session = same_session x _ s.session may.0 refl }) h
