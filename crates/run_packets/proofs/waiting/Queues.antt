-- How the queue of a node's requests changes, and when the oldest of them is sent.
use Rattle.std.specs.Prelude.{ℕ, ◌≡◌, ◌⊎◌, ◌++◌, ◌==◌, Bool, true, false, if◌then◌else◌, List, [], ◌∷◌, Option, None, Some, is_some}
use Rattle.std.proofs.Common.{refl, ap, sym, ◌∙◌, inl, inr}
use Rattle.cl_base.specs.declared.command.Ask.{Ask}
use Rattle.cmm_attempt.proofs.Basics.{false_true, if_either, none_some}
use Rattle.node_model.specs.Groups.{monitor_asked}
use Rattle.node_model.specs.Requests.{is_idle}
use Rattle.node_model.specs.Seats.{coordinator_of}
use Rattle.node_model.specs.declared.cluster.Cluster.{Cluster}
use Rattle.node_model.specs.declared.input.Input.{Input}
use Rattle.node_model.specs.declared.node.UpNode.{UpNode}
use Rattle.node_model.specs.declared.presidency.Presidency.{Presidency}
use Rattle.proposals.specs.declared.arrived.Arrived.{Arrived}
use Rattle.refinement.specs.Cuts as cuts
use Rattle.refinement.specs.Cuts.{queue_by}
use Rattle.refinement.specs.Doings.{minded}
use Rattle.request_queue.specs.Queue.{Queue, age_with, answered, found, left_of, oldest, oldest_in, with_number, with_request}
use Rattle.request_queue.specs.declared.request.Request.{Request}
use Rattle.run_packets.specs.waiting.Asking.{HasWords, Joins, NeedsNone, Pops, QueueGoes, SendsOldest, Stays}

module _ (c : Cluster) (came : Input) where
  pub stays_goes : (q : Queue) → QueueGoes c came q q
  stays_goes q = record { move = Stays; waiting = refl; asked = inl refl; may = tt }

  pub numbered_goes : (q : Queue) → QueueGoes c came q (with_number q)
  numbered_goes q = record { move = Stays; waiting = refl; asked = inr refl; may = tt }

  answered_asked : (q : Queue) (rs : List Request) (number : ℕ) → (left_of q rs number).asked ≡ q.asked
  answered_asked q [] number = refl
  answered_asked q (r ∷ rs) number = if_either (λ (z : Queue). z.asked ≡ q.asked) (r.number == number) (record q { waiting = rs; age = 0 }) q refl refl

  -- the next one is sent in the same event
  pub answered_age : (q : Queue) (rs : List Request) (number : ℕ) (r : Request) → found rs number ≡ Some r → (left_of q rs number).age ≡ 0
  answered_age q [] number r is = absurd (none_some r is)
  answered_age q (first ∷ rs) number r is = by_test (first.number == number) is
    where
      by_test : (b : Bool) → (if b then Some first else None) ≡ Some r → (if b then record q { waiting = rs; age = 0 } else q).age ≡ 0
      by_test true h = refl
      by_test false h = absurd (none_some r h)

  pub answered_goes : (q : Queue) (number : ℕ) → QueueGoes c came q (answered q number)
  answered_goes q number = record { move = Pops number; waiting = refl; asked = inl (answered_asked q q.waiting number); may = tt }

  pub by_answer : (me : ℕ) (x : UpNode) (a : Arrived) → QueueGoes c came x.requests (queue_by me x a)
  by_answer me x a = if_either (QueueGoes c came x.requests) (a.from == me) (answered x.requests a.number) x.requests (answered_goes x.requests a.number) (stays_goes x.requests)

  pub joined_goes : (q : Queue) (r : Request) → r.number ≡ q.asked → (r.told ≡ true → HasWords c came r) → QueueGoes c came q (with_request q r)
  joined_goes q r number words = record { move = Joins r; waiting = refl; asked = inl refl; may = (number, words) }

  pub monitor_goes : (x : UpNode) (ask : Ask) → QueueGoes c came x.requests (monitor_asked x ask).requests
  monitor_goes x ask = record { move = Joins _; waiting = refl; asked = inr refl; may = (refl, λ told. absurd (false_true told)) }

-- ---- the oldest is sent

module _ (c : Cluster) (me : ℕ) where
  -- where the node asks, it presides, or none waits, or there is no president, or it sends the oldest
  abbrev Idle : UpNode → Type 0
  Idle y = (is_some y.presidency ≡ true) ⊎ (oldest y.requests ≡ None) ⊎ (coordinator_of y ≡ None)

  asks_need : (y : UpNode) → y.requests.age ≡ 0 → Idle y ⊎ SendsOldest y (cuts.asking_course c me y)
  asks_need y fresh = by_oldest (oldest y.requests) refl
    where
      by_leader : (r : Request) → oldest y.requests ≡ Some r → (l : Option ℕ) → coordinator_of y ≡ l → Idle y ⊎ SendsOldest y (cuts.request_to_course y r l)
      by_leader r first None leads = inl (inr (inr leads))
      by_leader r first (Some to) leads = inr (r, first, leads, refl, fresh)

      by_office : (r : Request) → oldest y.requests ≡ Some r → (p : Option Presidency) → y.presidency ≡ p → Idle y ⊎ SendsOldest y (cuts.asking_of_course c me y r p)
      by_office r first (Some p) office = inl (inl (ap is_some office))
      by_office r first None office = by_leader r first (coordinator_of y) refl

      by_oldest : (o : Option Request) → oldest y.requests ≡ o → Idle y ⊎ SendsOldest y (cuts.asking_for_course c me y o)
      by_oldest None first = inl (inr (inl first))
      by_oldest (Some r) first = by_office r first y.presidency refl

  idle_needs : (x : UpNode) (q : Queue) → Idle (minded x q x.presidency) → NeedsNone x q x.presidency
  idle_needs x q (inl office) = inl office
  idle_needs x q (inr (inl none)) = inr (inr (inl none))
  idle_needs x q (inr (inr none)) = inr (inr (inr none))

  pub asking_needs : (x : UpNode) (q : Queue) → q.age ≡ 0 → NeedsNone x q x.presidency ⊎ SendsOldest (minded x q x.presidency) (cuts.asking_course c me (minded x q x.presidency))
  asking_needs x q fresh = by_need (asks_need (minded x q x.presidency) fresh)
    where
      by_need : Idle (minded x q x.presidency) ⊎ SendsOldest (minded x q x.presidency) (cuts.asking_course c me (minded x q x.presidency))
          → NeedsNone x q x.presidency ⊎ SendsOldest (minded x q x.presidency) (cuts.asking_course c me (minded x q x.presidency))
      by_need (inl idle) = inl (idle_needs x q idle)
      by_need (inr sends) = inr sends

  -- one that joins others leaves the oldest
  pub joining_needs : (x : UpNode) (q : Queue) (r : Request) → q.waiting ≡ x.requests.waiting ++ r ∷ [] → q.age ≡ age_with x.requests.waiting x.requests.age
      → NeedsNone x q x.presidency ⊎ SendsOldest (minded x q x.presidency) (cuts.asking_if_course (is_idle x.requests.waiting) c me (minded x q x.presidency))
  joining_needs x q r joins ages = by_waiting x.requests.waiting refl
    where
      by_waiting : (rs : List Request) → x.requests.waiting ≡ rs
          → NeedsNone x q x.presidency ⊎ SendsOldest (minded x q x.presidency) (cuts.asking_if_course (is_idle rs) c me (minded x q x.presidency))
      by_waiting [] is = asking_needs x q (ages ∙ ap (λ ws. age_with ws x.requests.age) is)
      by_waiting (first ∷ rs) is =
          inl (inr (inl (ap oldest_in (joins ∙ ap (λ ws. ws ++ r ∷ []) is) ∙ sym (ap oldest_in is), ages ∙ ap (λ ws. age_with ws x.requests.age) is)))
