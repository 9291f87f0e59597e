-- What a node keeps is read after each change of its requests, and of what it has in hand as president.
use Rattle.std.specs.Prelude.{ℕ, ◌-◌, ◌≡◌, ◌<◌, ◌≤◌, ◌⊎◌, ◌==◌, All, false, List, [], ◌∷◌, length, Option, None, Some, slice_index_or, Result, Ok, Err}
use Rattle.std.specs.List.{AllByRecursion}
use Rattle.std.proofs.Common.{sym, subst, inl, inr}
use Rattle.std.proofs.lemmas.Bool.{cases_lt}
use Rattle.std.proofs.lemmas.List.{get_or_past}
use Rattle.std.proofs.lemmas.List.Elements.{All-replicate, All-set}
use Rattle.admin_words.specs.declared.error.WordError.{WordError}
use Rattle.ccr_tables.specs.State.{ConfigState}
use Rattle.ccr_tables.specs.declared.command.AdminCommand.{AdminCommand}
use Rattle.ccr_tables.specs.declared.command.AdminCommand.TheVariants as wish
use Rattle.cl_base.specs.declared.header.Version.{Version}
use Rattle.cmm_attempt.proofs.Basics.{if_either, none_some, same_some}
use Rattle.proposals.specs.Arrivals as arrivals
use Rattle.proposals.specs.Arrivals.{answer_first, arrival_of, with_arrival}
use Rattle.proposals.specs.State.{State, first_in, kept_at, nothing_yet}
use Rattle.proposals.specs.declared.arrived.Arrival.{Arrival}
use Rattle.proposals.specs.declared.arrived.Arrival.TheVariants.{New, Waits, Answered, Past}
use Rattle.proposals.specs.declared.arrived.Arrived.{Arrived}
use Rattle.proposals.specs.declared.arrived.Kept.{Kept}
use Rattle.request_queue.specs.Queue as queue
use Rattle.request_queue.specs.Queue.{Queue, oldest, oldest_in}
use Rattle.request_queue.specs.declared.request.Request.{Request}
use Rattle.status_report.specs.CommandLines.{reply_text}
use Rattle.status_report.specs.declared.command_entry.Answer.{Answer}
use Rattle.node_model.specs.Presidents.{own_arrival, taken_up, with_own}
use Rattle.node_model.specs.declared.node.UpNode.{UpNode}
use Rattle.node_model.specs.declared.presidency.Presidency.{Presidency}
use Rattle.refinement.specs.Cuts.{in_hand, left_by_answer, queue_by}
use Rattle.run_history.proofs.Lists.{all_and}
use Rattle.run_commands.specs.carried.Guards.{is_silent}
use Rattle.run_commands.specs.Reads.{ArrivedRead, IsPresidents, IsRead, KeptSo, OfficeReads, Reads, ReadsIn, RequestRead}
use Rattle.run_commands.proofs.Texts.{answer_loud}

abbrev pub AreRead : Version → List Request → Type 0
AreRead v rs = AllByRecursion (RequestRead v) rs

-- what has come to the president, and what it keeps
abbrev pub StateReads : Version → State → Type 0
StateReads v s = AllByRecursion (ArrivedRead v) s.arrived × All KeptSo s.answers

pub office_at : (v : Version) (o : Option Presidency) (p : Presidency) → o ≡ Some p → OfficeReads v o → StateReads v p.proposals
office_at v o p is h = subst (OfficeReads v) is h

-- the same requests, and the same in hand
pub same_reads : (v : Version) (x : UpNode) (waiting : List Request) (p q : Presidency) → x.presidency ≡ Some p → waiting ≡ x.requests.waiting → q.proposals.arrived ≡ p.proposals.arrived
    → q.proposals.answers ≡ p.proposals.answers → ReadsIn v x → Reads v waiting (Some q)
same_reads v x waiting p q is same arrived answers r =
    let h : StateReads v p.proposals = office_at v x.presidency p is r.office_read in
    record {
      waiting_read = subst (AreRead v) (sym same) r.waiting_read;
      office_read = (subst (λ xs. AllByRecursion (ArrivedRead v) xs) (sym arrived) h.0, subst (λ xs. All KeptSo xs) (sym answers) h.1);
    }

-- at the start of a membership
pub nothing_reads : (v : Version) → StateReads v nothing_yet
nothing_reads v = (tt, All-replicate KeptSo 32 None tt)

-- ---- the queue

pub first_read : (v : Version) (rs : List Request) (r : Request) → oldest_in rs ≡ Some r → AreRead v rs → IsRead v r.text
first_read v [] r is h = absurd (none_some r is)
first_read v (x ∷ rs) r is h = subst (RequestRead v) (same_some x r is) h.0

pub answered_read : (v : Version) (q : Queue) (k : ℕ) → AreRead v q.waiting → AreRead v (queue.answered q k).waiting
answered_read v q k h = by_list q.waiting h
  where
    by_list : (rs : List Request) → AreRead v rs → AreRead v (queue.left_of q rs k).waiting
    by_list [] all = h
    by_list (r ∷ rs) all = if_either (λ (z : Queue). AreRead v z.waiting) (r.number == k) (record q { waiting = rs; age = 0 }) q all.1 h

queue_read : (v : Version) (me : ℕ) (x : UpNode) (a : Arrived) → AreRead v x.requests.waiting → AreRead v (queue_by me x a).waiting
queue_read v me x a h = if_either (λ (z : Queue). AreRead v z.waiting) (a.from == me) (queue.answered x.requests a.number) x.requests (answered_read v x.requests a.number h) h

-- ---- what has come

arrival_read : (v : Version) (s : State) (a : Arrived) (how : Arrival) → IsRead v a.text → StateReads v s → StateReads v (with_arrival s a how)
arrival_read v s a New is h = (all_and (ArrivedRead v) s.arrived a h.0 is, h.1)
arrival_read v s a Waits is h = h
arrival_read v s a Answered is h = h
arrival_read v s a Past is h = h

pub arrived_reads : (v : Version) (x : UpNode) (p : Presidency) (a : Arrived) → x.presidency ≡ Some p → (ReadsIn v x → IsRead v a.text) → ReadsIn v x
    → Reads v x.requests.waiting (Some (record p { proposals = with_arrival p.proposals a New }))
arrived_reads v x p a is read r = record { waiting_read = r.waiting_read; office_read = arrival_read v p.proposals a New (read r) (office_at v x.presidency p is r.office_read) }

own_read : (v : Version) (me : ℕ) (s : State) (rs : List Request) → AreRead v rs → StateReads v s → StateReads v (with_own me s (oldest_in rs))
own_read v me s [] h k = k
own_read v me s (r ∷ rs) h k = arrival_read v s (own_arrival me r) (arrival_of s me r.number) h.0 k

answer_read : (v : Version) (s : State) (xs : List Arrived) (text : List ℕ) → IsPresidents text → AllByRecursion (ArrivedRead v) xs → StateReads v s → StateReads v (answer_first s xs text)
answer_read v s [] text is f h = h
answer_read v s (a ∷ rest) text is f h = (f.1, All-set KeptSo s.answers (a.from - 1) (Some (record { number = a.number; text = text })) is h.1)

hand_read : (v : Version) (me : ℕ) (x : UpNode) (s : State) (a : Arrived) → AreRead v x.requests.waiting → StateReads v s → StateReads v (in_hand me x s a)
hand_read v me x s a h k =
    if_either (StateReads v) (a.from == me) (with_own me s (oldest (queue.answered x.requests a.number))) s
    (own_read v me s (queue.answered x.requests a.number).waiting (answered_read v x.requests a.number h) k) k

-- the first is answered so by the president
pub answered_reads : (v : Version) (me : ℕ) (x : UpNode) (p : Presidency) (a : Arrived) (told : Answer) → is_silent told ≡ false → StateReads v p.proposals → AreRead v x.requests.waiting
    → Reads v (queue_by me x a).waiting (Some (left_by_answer me x p a told))
answered_reads v me x p a told loud h waiting = record {
  waiting_read = queue_read v me x a waiting;
  office_read = hand_read v me x (arrivals.answered p.proposals (reply_text told)) a waiting (answer_read v p.proposals p.proposals.arrived (reply_text told) (answer_loud told loud) h.0 h);
}

-- the president takes up an update
pub taken_up_reads : (v : Version) (s : ConfigState) (p : Presidency) (r : Result AdminCommand WordError) → StateReads v p.proposals → StateReads v (taken_up s p r).proposals
taken_up_reads v s p (Ok (wish.Change u)) h = h
taken_up_reads v s p (Ok (wish.Act a)) h = h
taken_up_reads v s p (Ok (wish.Status q)) h = h
taken_up_reads v s p (Ok (wish.Rows name)) h = h
taken_up_reads v s p (Err e) h = h

-- the first of what has come
pub first_arrived : (v : Version) (xs : List Arrived) (a : Arrived) → first_in xs ≡ Some a → AllByRecursion (ArrivedRead v) xs → IsRead v a.text
first_arrived v [] a is h = absurd (none_some a is)
first_arrived v (x ∷ xs) a is h = subst (ArrivedRead v) (same_some x a is) h.0

-- the last answer to a node
pub kept_loud : (answers : List (Option Kept)) (n : ℕ) (k : Kept) → kept_at answers n ≡ Some k → All KeptSo answers → IsPresidents k.text
kept_loud answers n k is h = subst KeptSo is (at (cases_lt (n - 1) (length answers)))
  where
    at : (n - 1 < length answers) ⊎ (length answers ≤ n - 1) → KeptSo (slice_index_or answers (n - 1) None)
    at (inl low) = h (n - 1) None low
    at (inr past) = subst KeptSo (sym (get_or_past answers (n - 1) None past)) tt
