-- How the oldest request of a node changes: one that joins others leaves it, and its Answer takes it away.
use Rattle.std.specs.Prelude.{ℕ, ◌≡◌, ◌++◌, ◌==◌, Bool, true, false, if◌then◌else◌, List, [], ◌∷◌, Option, None, Some}
use Rattle.std.proofs.Common.{refl, ap, sym, subst, ◌∙◌, inl, inr}
use Rattle.cmm_attempt.proofs.Basics.{none_some, same_number}
use Rattle.node_model.specs.Requests.{is_idle}
use Rattle.node_model.specs.Seats.{session_of}
use Rattle.node_model.specs.declared.node.UpNode.{UpNode}
use Rattle.request_queue.specs.Queue.{Queue, age_with, answered, found, oldest_in}
use Rattle.request_queue.specs.declared.request.Request.{Request}
use Rattle.run_packets.specs.again.Asking.{Heard, IsDone, QueueSo}

-- one that waits alone is no tick old
pub idle_age : (rs : List Request) (age : ℕ) → is_idle rs ≡ true → age_with rs age ≡ 0
idle_age [] age h = refl
idle_age (r ∷ rs) age h = cc

module _ (heard : Option Heard) (x : UpNode) where
  pub joins_so : (q : Queue) (r : Request) → q.waiting ≡ x.requests.waiting ++ r ∷ [] → q.age ≡ age_with x.requests.waiting x.requests.age → QueueSo heard x q
  joins_so q r joins ages = by_waiting x.requests.waiting refl
    where
      by_waiting : (rs : List Request) → x.requests.waiting ≡ rs → QueueSo heard x q
      by_waiting [] is = inr (inr (subst (λ ws. IsDone heard x (oldest_in ws)) (sym is) tt))
      by_waiting (first ∷ rs) is = inr (inl (ap oldest_in (joins ∙ ap (λ ws. ws ++ r ∷ []) is) ∙ sym (ap oldest_in is), ages ∙ ap (λ ws. age_with ws x.requests.age) is))

  done_by : (rs : List Request) (number : ℕ) (r : Request) → found rs number ≡ Some r → heard ≡ Some (record { epoch = session_of x; number = number }) → IsDone heard x (oldest_in rs)
  done_by [] number r is came = absurd (none_some r is)
  done_by (first ∷ rs) number r is came = by_test (first.number == number) refl is
    where
      by_test : (b : Bool) → (first.number == number) ≡ b → (if b then Some first else None) ≡ Some r → IsDone heard x (Some first)
      by_test true same h = subst (λ k. heard ≡ Some (record { epoch = session_of x; number = k })) (sym (same_number first.number number same)) came
      by_test false same h = absurd (none_some r h)

  pub answered_so : (number : ℕ) (r : Request) → found x.requests.waiting number ≡ Some r → heard ≡ Some (record { epoch = session_of x; number = number }) → QueueSo heard x (answered x.requests number)
  answered_so number r is came = inr (inr (done_by x.requests.waiting number r is came))
