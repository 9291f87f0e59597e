-- The requests of a node, and what a president has in hand, stay bounded.
use Rattle.std.specs.Prelude.{ℕ, ◌+◌, ◌≡◌, ◌≤◌, ◌==◌, nat_le, false, List, [], ◌∷◌, ◌++◌, Option, None, Some, IfSome, length}
use Rattle.std.proofs.Common.{arith}
use Rattle.std.specs.List.{AllByRecursion}
use Rattle.std.proofs.lemmas.List.{length-append}
use Rattle.cmm_attempt.proofs.Basics.{if_either}
use Rattle.proposals.specs.Arrivals.{answer_first, arrival_of, with_arrival}
use Rattle.proposals.specs.OneEach.{HasOneEach}
use Rattle.proposals.specs.State.{State, first_in}
use Rattle.proposals.specs.declared.arrived.Arrival.{Arrival}
use Rattle.proposals.specs.declared.arrived.Arrival.TheVariants.{New, Waits, Answered, Past}
use Rattle.proposals.specs.declared.arrived.Arrived.{Arrived}
use Rattle.proposals.proofs.OneEach.{answered_keeps, arrival_keeps}
use Rattle.request_queue.specs.Queue.{Queue, answered, is_full, left_of, with_request}
use Rattle.request_queue.specs.declared.request.Request.{Request}
use Rattle.wire.specs.Spelling.{IsNode}
use Rattle.node_model.specs.Presidents.{own_arrival, with_own}
use Rattle.refinement.specs.node_bounds.Bounded.{IsOfNode}

-- A node's requests.

left_few : (q : Queue) (rs : List Request) (number : ℕ) → length q.waiting ≤ 64 → length rs ≤ 64 → length (left_of q rs number).waiting ≤ 64
left_few q [] number h k = h
left_few q (r ∷ rs) number h k = if_either (λ (o : Queue). length o.waiting ≤ 64) (r.number == number) (record q { waiting = rs; age = 0 }) q (omega (arith, k)) h

pub answered_few : (q : Queue) (number : ℕ) → length q.waiting ≤ 64 → length (answered q number).waiting ≤ 64
answered_few q number h = left_few q q.waiting number h h

-- one more waits where there is room
pub with_request_few : (q : Queue) (r : Request) → is_full q ≡ false → length (with_request q r).waiting ≤ 64
with_request_few q r room = more (length q.waiting) (length (q.waiting ++ r ∷ [])) (length-append q.waiting (r ∷ [])) (below (length q.waiting) room)
  where
    below : (k : ℕ) → nat_le 64 k ≡ false → k ≤ 63
    below k h = grind (arith, h)

    more : (k j : ℕ) → j ≡ k + 1 → k ≤ 63 → j ≤ 64
    more k j e h = omega (arith, e, h)

-- What a president has in hand.

abbrev pub Orderly : State → Type 0
Orderly s = AllByRecursion IsOfNode s.arrived × HasOneEach s.arrived

all_and_one : (arrived : List Arrived) (a : Arrived) → AllByRecursion IsOfNode arrived → IsOfNode a → AllByRecursion IsOfNode (arrived ++ a ∷ [])
all_and_one [] a h is = (is, tt)
all_and_one (b ∷ arrived) a h is = (h.0, all_and_one arrived a h.1 is)

arrives_as : (s : State) (a : Arrived) (k : Arrival) → IsOfNode a → AllByRecursion IsOfNode s.arrived → AllByRecursion IsOfNode (with_arrival s a k).arrived
arrives_as s a New is h = all_and_one s.arrived a h is
arrives_as s a Waits is h = h
arrives_as s a Answered is h = h
arrives_as s a Past is h = h

pub arrived_orderly : (s : State) (a : Arrived) → IsOfNode a → Orderly s → Orderly (with_arrival s a (arrival_of s a.from a.number))
arrived_orderly s a is h = (arrives_as s a (arrival_of s a.from a.number) is h.0, arrival_keeps s a h.1)

pub own_orderly : (n : ℕ) (s : State) (o : Option Request) → IsNode n → Orderly s → Orderly (with_own n s o)
own_orderly n s None is h = h
own_orderly n s (Some r) is h = arrived_orderly s (own_arrival n r) is h

answers_as : (s : State) (arrived : List Arrived) (text : List ℕ) → AllByRecursion IsOfNode s.arrived → AllByRecursion IsOfNode arrived → AllByRecursion IsOfNode (answer_first s arrived text).arrived
answers_as s [] text h k = h
answers_as s (a ∷ rest) text h k = k.1

pub answered_orderly : (s : State) (text : List ℕ) → Orderly s → Orderly (answer_first s s.arrived text)
answered_orderly s text h = (answers_as s s.arrived text h.0 h.0, answered_keeps s text h.1)

pub first_of_node : (arrived : List Arrived) → AllByRecursion IsOfNode arrived → IfSome (first_in arrived) IsOfNode
first_of_node [] h = tt
first_of_node (a ∷ rest) h = h.0
