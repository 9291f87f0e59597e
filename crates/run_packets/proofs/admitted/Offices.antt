-- The answers that a president gives and keeps can be read, and lines send none.
use Rattle.std.specs.Prelude.{ℕ, ◌-◌, ◌≡◌, ◌<◌, ◌≤◌, ◌⊎◌, ◌==◌, All, List, [], ◌∷◌, length, Option, None, Some, Result, Ok, Err, is_some, slice_index_or}
use Rattle.std.proofs.Common.{sym, ap, subst, inl, inr}
use Rattle.std.proofs.lemmas.Bool.{cases_lt}
use Rattle.std.proofs.lemmas.List.{get_or_past}
use Rattle.std.proofs.lemmas.List.Elements.{All-replicate, All-set}
use Rattle.admin_words.specs.declared.error.WordError.{WordError}
use Rattle.admin_words.specs.declared.error.WordError.TheVariants as word
use Rattle.answer_words.proofs.Replies.{answer_read}
use Rattle.answer_words.specs.Laws.{IsAnswer}
use Rattle.ccr_tables.specs.State.{ConfigState}
use Rattle.ccr_tables.specs.declared.command.AdminCommand.{AdminCommand}
use Rattle.ccr_tables.specs.declared.command.AdminCommand.TheVariants as wish
use Rattle.cl_base.specs.declared.method.Method.{Method}
use Rattle.cl_base.specs.declared.method.Outcome.{Outcome}
use Rattle.cmm_attempt.proofs.Basics.{if_either}
use Rattle.node_model.specs.Addresses.{forgot_lines, served_lines}
use Rattle.node_model.specs.Deciding.{order_sent, orders_sent}
use Rattle.node_model.specs.Groups.{call_told, order_again, order_again_to, order_at, order_told, orders_again_by, orders_again_of}
use Rattle.node_model.specs.Presidents.{answer_given, own_arrival, own_line, taken_up, told_lines, with_own, word_answer}
use Rattle.node_model.specs.Seats.{session_of}
use Rattle.node_model.specs.Updates.{later_presidency}
use Rattle.node_model.specs.declared.node.UpNode.{UpNode}
use Rattle.node_model.specs.declared.output.Output.TheVariants.{Sends, Tells}
use Rattle.node_model.specs.declared.presidency.Presidency.{Presidency}
use Rattle.order_laws.specs.Laws.{ToldCyclesHaveNames}
use Rattle.proposals.specs.Arrivals as arrivals
use Rattle.proposals.specs.Arrivals.{answer_first, arrival_of, with_arrival}
use Rattle.proposals.specs.State.{State, kept_at, nothing_yet}
use Rattle.proposals.specs.declared.arrived.Arrival.{Arrival}
use Rattle.proposals.specs.declared.arrived.Arrival.TheVariants.{New, Waits, Answered, Past}
use Rattle.proposals.specs.declared.arrived.Arrived.{Arrived}
use Rattle.proposals.specs.declared.arrived.Kept.{Kept}
use Rattle.refinement.specs.Cuts.{in_hand, left_by_answer}
use Rattle.request_queue.specs.Queue as queue
use Rattle.request_queue.specs.Queue.{found, oldest, oldest_in}
use Rattle.request_queue.specs.declared.request.Request.{Request}
use Rattle.rgm_member.specs.declared.carried.Carried.{Carried}
use Rattle.rgm_member.specs.declared.carried.Carried.TheVariants as carried
use Rattle.run_history.proofs.Lists.{both, mapped, of_each}
use Rattle.shared_address.specs.Choosing as serving
use Rattle.shared_address.specs.declared.choice.Client.{Client as ServedClient}
use Rattle.status_report.specs.CommandLines.{reply_text}
use Rattle.status_report.specs.declared.command_entry.Answer.{Answer}
use Rattle.status_report.specs.declared.entry.Entry.TheVariants as entry
use Rattle.status_report.specs.declared.status_entry.StatusEntry.{StatusEntry}
use Rattle.wire.specs.declared.message.Body.TheVariants as body
use Rattle.wire.specs.declared.message.Order.{Order}
use Rattle.run_packets.specs.admitted.Guards.{AllGood, OutputGood}
use Rattle.run_packets.specs.admitted.Known.{AnswersGood, KeptGood}
use Rattle.run_packets.specs.admitted.Refusals.{IsReadable}

-- ---- answers

-- the answer has a text that is read as it, since a cycle that is told has a name
abbrev pub AnswerGood : Answer → Type 0
AnswerGood told = ToldCyclesHaveNames → IsAnswer told

readable : (told : Answer) → AnswerGood told → IsReadable (reply_text told)
readable told good law = ap is_some (answer_read told (good law))

pub word_good : (e : WordError) → AnswerGood (word_answer e)
word_good word.UnknownCommand law = tt
word_good word.MissingOperand law = tt
word_good word.BadValue law = tt
word_good word.NoMemory law = tt

-- ---- what a president keeps

pub same_office : (x : UpNode) (p : Presidency) → x.presidency ≡ Some p → AnswersGood x.presidency → AnswersGood (Some p)
same_office x p at h = subst AnswersGood at h

pub later_good : (o : Option Presidency) → AnswersGood o → AnswersGood (later_presidency o)
later_good None h = tt
later_good (Some p) h = h

pub nothing_good : All KeptGood nothing_yet.answers
nothing_good = All-replicate KeptGood 32 None tt

abbrev StateGood : State → Type 0
StateGood s = All KeptGood s.answers

pub arrival_good : (s : State) (a : Arrived) (how : Arrival) → All KeptGood s.answers → All KeptGood (with_arrival s a how).answers
arrival_good s a New h = h
arrival_good s a Waits h = h
arrival_good s a Answered h = h
arrival_good s a Past h = h

own_good : (me : ℕ) (s : State) (rs : List Request) → StateGood s → StateGood (with_own me s (oldest_in rs))
own_good me s [] h = h
own_good me s (r ∷ rs) h = arrival_good s (own_arrival me r) (arrival_of s me r.number) h

first_good : (s : State) (xs : List Arrived) (text : List ℕ) → IsReadable text → StateGood s → StateGood (answer_first s xs text)
first_good s [] text is h = h
first_good s (a ∷ rest) text is h = All-set KeptGood s.answers (a.from - 1) (Some (record { number = a.number; text = text })) is h

hand_good : (me : ℕ) (x : UpNode) (s : State) (a : Arrived) → StateGood s → StateGood (in_hand me x s a)
hand_good me x s a h = if_either StateGood (a.from == me) (with_own me s (oldest (queue.answered x.requests a.number))) s (own_good me s (queue.answered x.requests a.number).waiting h) h

-- the first is answered so by the president
pub answered_good : (me : ℕ) (x : UpNode) (p : Presidency) (a : Arrived) (told : Answer) → AnswerGood told → AnswersGood (Some p) → AnswersGood (Some (left_by_answer me x p a told))
answered_good me x p a told good h =
    hand_good me x (arrivals.answered p.proposals (reply_text told)) a (first_good p.proposals p.proposals.arrived (reply_text told) (readable told good) h)

-- the president takes up an update
pub taken_up_good : (s : ConfigState) (p : Presidency) (r : Result AdminCommand WordError) → AnswersGood (Some p) → AnswersGood (Some (taken_up s p r))
taken_up_good s p (Ok (wish.Change u)) h = h
taken_up_good s p (Ok (wish.Act a)) h = h
taken_up_good s p (Ok (wish.Status q)) h = h
taken_up_good s p (Ok (wish.Rows name)) h = h
taken_up_good s p (Err e) h = h

-- the last answer to a node
pub kept_good : (answers : List (Option Kept)) (n : ℕ) → All KeptGood answers → KeptGood (kept_at answers n)
kept_good answers n h = at (cases_lt (n - 1) (length answers))
  where
    at : (n - 1 < length answers) ⊎ (length answers ≤ n - 1) → KeptGood (slice_index_or answers (n - 1) None)
    at (inl low) = h (n - 1) None low
    at (inr past) = subst KeptGood (sym (get_or_past answers (n - 1) None past)) tt

-- ---- what it gives

own_line_good : (me : ℕ) (told : Answer) (r : Option Request) → AllGood (own_line me told r)
own_line_good me told None = tt
own_line_good me told (Some r) = if_either AllGood r.told _ [] (tt, tt) tt

pub own_told_good : (me : ℕ) (told : Answer) (r : Request) → AllGood (own_line me told (Some r))
own_told_good me told r = own_line_good me told (Some r)

pub given_good : (me : ℕ) (x : UpNode) (a : Arrived) (told : Answer) → AnswerGood told → AllGood (answer_given me x a told)
given_good me x a told good =
    if_either AllGood (a.from == me) (own_line me told (found x.requests.waiting a.number)) (Sends a.from (body.Answer (session_of x) a.number (reply_text told)) ∷ [])
    (own_line_good me told (found x.requests.waiting a.number)) (readable told good, tt)

-- ---- what is no answer

pub lines_good : (lines : List StatusEntry) → AllGood (told_lines lines)
lines_good lines = mapped OutputGood (λ l. Tells (entry.Status l)) lines (λ l. tt)

pub orders_good : (me : ℕ) (orders : List (ℕ × Order)) → AllGood (orders_sent me orders)
unfolding orders_sent
orders_good me orders = of_each OutputGood (order_sent me) orders (λ e. if_either AllGood (e.0 == me) [] _ tt (tt, tt))

call_good : (me : ℕ) (order : Order) (outcome : Outcome) (m : Option Method) → AllGood (call_told me order outcome m)
call_good me order outcome None = tt
call_good me order outcome (Some m) = (tt, (tt, tt))

pub order_good : (me : ℕ) (order : Order) (how : Carried) → AllGood (order_told me order how)
order_good me order (carried.Called outcome) = call_good me order outcome order.method
order_good me order carried.Cleared = tt
order_good me order (carried.Kept outcome) = tt
order_good me order carried.Old = tt

again_to : (n : ℕ) (order : Option Order) → AllGood (order_again_to n order)
again_to n None = tt
again_to n (Some order) = (tt, tt)

pub again_good : (before after : Option Presidency) → AllGood (orders_again_by before after)
unfolding orders_again_of
again_good None after = tt
again_good (Some before) None = tt
again_good (Some before) (Some after) =
    of_each OutputGood (order_again _ after.groups) _ (λ n. if_either AllGood _ (order_again_to n (order_at n after.groups)) [] (again_to n (order_at n after.groups)) tt)

forgot_good : (name : List ℕ) (k : Option ServedClient) → AllGood (forgot_lines name k)
forgot_good name None = tt
forgot_good name (Some k) = (tt, tt)

pub served_good : (name : List ℕ) (client port : ℕ) (k : serving.Outcome) → AllGood (served_lines name client port k)
served_good name client port k = both OutputGood (forgot_lines name k.forgot) _ (forgot_good name k.forgot) (tt, tt)
