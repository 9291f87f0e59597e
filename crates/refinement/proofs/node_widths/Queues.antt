-- The requests of a node, and what a president has in hand, have their widths after each change.
use Rattle.std.specs.Prelude.{ℕ, ◌+◌, ◌-◌, ◌^◌, ◌≤◌, ◌<◌, ◌⊎◌, ◌==◌, min, All, List, [], ◌∷◌, Option, None, Some, IfSome, length, slice_index_or}
use Rattle.std.proofs.Common.{sym, subst, inl, inr, arith}
use Rattle.std.specs.List.{AllByRecursion}
use Rattle.std.proofs.lemmas.Bool.{cases_lt}
use Rattle.std.proofs.lemmas.List.{get_or_past}
use Rattle.std.proofs.lemmas.List.Elements.{All-replicate, All-set}
use Rattle.cl_base.specs.Sets.{set_without}
use Rattle.cmm_attempt.proofs.Basics.{if_either}
use Rattle.proposals.specs.Arrivals.{answer_first, with_arrival}
use Rattle.proposals.specs.Proposing.{less, prepared_by, proposing}
use Rattle.proposals.specs.State.{State, first_in, kept_at, nothing_yet}
use Rattle.proposals.specs.declared.arrived.Arrival.{Arrival}
use Rattle.proposals.specs.declared.arrived.Arrival.TheVariants.{New, Waits, Answered, Past}
use Rattle.proposals.specs.declared.arrived.Arrived.{Arrived}
use Rattle.proposals.specs.declared.arrived.Kept.{Kept}
use Rattle.proposals.specs.declared.arrived.Proposed.{Proposed}
use Rattle.request_queue.specs.Queue.{Queue, answered, left_of, oldest_in, with_number, with_request}
use Rattle.request_queue.specs.declared.request.Request.{Request}
use Rattle.wire.specs.Spelling.{IsNode, IsNodes, IsWord}
use Rattle.node_model.specs.Presidents.{own_arrival, with_own}
use Rattle.refinement.specs.node_widths.Widths.{ArrivedFits, KeptFits, ProposalsFit, ProposedFits, QueueFits, RequestFits}
use Rattle.refinement.proofs.node_widths.Sets.{nodes_without}
use Rattle.refinement.proofs.node_widths.Tasks.{all_and_one}

-- A node's requests.

capped : (k : ℕ) → min (k + 1) (2 ^ 64 - 1) < 2 ^ 64
capped k = omega arith

pub numbered_fits : (q : Queue) → QueueFits q → QueueFits (with_number q)
numbered_fits q h = (capped q.asked, h.1)

pub with_request_fits : (q : Queue) (r : Request) → RequestFits r → QueueFits q → QueueFits (with_request q r)
with_request_fits q r f h = (h.0, all_and_one RequestFits q.waiting r h.1 f)

pub oldest_fits : (rs : List Request) → AllByRecursion RequestFits rs → IfSome (oldest_in rs) RequestFits
oldest_fits [] h = tt
oldest_fits (r ∷ rs) h = h.0

left_fits : (q : Queue) (rs : List Request) (number : ℕ) → QueueFits q → AllByRecursion RequestFits rs → QueueFits (left_of q rs number)
left_fits q [] number h k = h
left_fits q (r ∷ rs) number h k = if_either QueueFits (r.number == number) (record q { waiting = rs; age = 0 }) q (h.0, k.1) h

pub answered_queue_fits : (q : Queue) (number : ℕ) → QueueFits q → QueueFits (answered q number)
answered_queue_fits q number h = left_fits q q.waiting number h h.1

-- What a president has in hand.

pub nothing_fits : ProposalsFit nothing_yet
nothing_fits = (tt, tt, All-replicate KeptFits 32 None tt)

pub first_fits : (arrived : List Arrived) → AllByRecursion ArrivedFits arrived → IfSome (first_in arrived) ArrivedFits
first_fits [] h = tt
first_fits (a ∷ rest) h = h.0

pub with_arrival_fits : (s : State) (a : Arrived) (k : Arrival) → ArrivedFits a → ProposalsFit s → ProposalsFit (with_arrival s a k)
with_arrival_fits s a New f h = (all_and_one ArrivedFits s.arrived a h.0 f, h.1, h.2)
with_arrival_fits s a Waits f h = h
with_arrival_fits s a Answered f h = h
with_arrival_fits s a Past f h = h

pub with_own_fits : (n : ℕ) (s : State) (o : Option Request) → IsNode n → IfSome o RequestFits → ProposalsFit s → ProposalsFit (with_own n s o)
with_own_fits n s None is f h = h
with_own_fits n s (Some r) is f h = with_arrival_fits s (own_arrival n r) _ (is, f.0) h

answer_fits : (s : State) (arrived : List Arrived) (text : List ℕ) → AllByRecursion ArrivedFits arrived → ProposalsFit s → ProposalsFit (answer_first s arrived text)
answer_fits s [] text f h = h
answer_fits s (a ∷ rest) text f h = (f.1, tt, All-set KeptFits s.answers (a.from - 1) (Some (record { number = a.number; text = text })) f.0.1 h.2)

pub answered_fits : (s : State) (text : List ℕ) → ProposalsFit s → ProposalsFit (answer_first s s.arrived text)
answered_fits s text h = answer_fits s s.arrived text h.0 h

-- the last answer to a node
pub kept_fits : (answers : List (Option Kept)) (n : ℕ) → All KeptFits answers → KeptFits (kept_at answers n)
kept_fits answers n h = at (cases_lt (n - 1) (length answers))
  where
    at : (n - 1 < length answers) ⊎ (length answers ≤ n - 1) → KeptFits (slice_index_or answers (n - 1) None)
    at (inl low) = h (n - 1) None low
    at (inr past) = subst KeptFits (sym (get_or_past answers (n - 1) None past)) tt

pub proposing_fits : (s : State) (place missing : ℕ) → IsWord place → IsNodes missing → ProposalsFit s → ProposalsFit (proposing s place missing)
proposing_fits s place missing small set h = (h.0, (small, set), h.2)

less_fits : (o : Option Proposed) (n place : ℕ) → IfSome o ProposedFits → IfSome (less o n place) ProposedFits
less_fits None n place h = tt
less_fits (Some p) n place h =
    if_either (λ o. IfSome o ProposedFits) (p.place == place) (Some (record p { missing = set_without p.missing n })) (Some p) (h.0, nodes_without p.missing n h.1) h

pub prepared_fits : (s : State) (n place : ℕ) → ProposalsFit s → ProposalsFit (prepared_by s n place)
prepared_fits s n place h = (h.0, less_fits s.proposed n place h.1, h.2)
