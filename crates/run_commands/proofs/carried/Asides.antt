-- What is told and sent in a step, as far as requests are concerned.
use Rattle.std.specs.Prelude.{ℕ, ◌≡◌, ◌==◌, Bool, true, false, All, List, [], ◌∷◌, Option, None, Some, is_some, if◌then◌else◌}
use Rattle.std.proofs.Common.{refl, ap, subst, ◌∙◌, inl, inr}
use Rattle.std.proofs.lemmas.List.Elements.{All-head, All-tail}
use Rattle.std.specs.List.{AllByRecursion}
use Rattle.std.specs.Option.{option_and_then}
use Rattle.admin_words.specs.declared.error.WordError.{WordError}
use Rattle.admin_words.specs.declared.error.WordError.TheVariants as word
use Rattle.attempt_laws.specs.Sending.{IsOwn, IsOwnStep}
use Rattle.attempt_laws.proofs.Sends.{first_sends_are_own, sends_are_own}
use Rattle.ccr_commit.specs.Entries.{EntryList}
use Rattle.ccr_tables.specs.declared.command.AdminCommand.{AdminCommand}
use Rattle.ccr_tables.specs.declared.command.AdminCommand.TheVariants as wish
use Rattle.cl_base.specs.declared.method.Method.{Method}
use Rattle.cl_base.specs.declared.method.Outcome.{Outcome}
use Rattle.cmm_attempt.proofs.Basics.{if_either, none_some, same_number, same_some}
use Rattle.attempt_laws.proofs.Walk.{if_with}
use Rattle.cmm_attempt.specs.Attempts.{AttemptState, beginning}
use Rattle.cmm_attempt.specs.Calls.{Call, May, turn}
use Rattle.cmm_attempt.specs.declared.attached.AttachedDevice.{AttachedDevice}
use Rattle.cmm_attempt.specs.declared.phase.Phase.{Phase}
use Rattle.cmm_attempt.specs.declared.phase.Phase.TheVariants.{Choosing, Collecting, Installing, Over, SeizingOthers, SeizingVotes}
use Rattle.cmm_attempt.specs.declared.step.Step.{Step}
use Rattle.cmm_attempt.specs.declared.step.Step.TheVariants as step
use Rattle.cmm_member.specs.Nodes.{with_entries}
use Rattle.proposals.specs.declared.arrived.Arrived.{Arrived}
use Rattle.request_queue.specs.Queue as queue
use Rattle.request_queue.specs.Queue.{Queue, found, oldest}
use Rattle.request_queue.specs.declared.request.Request.{Request}
use Rattle.rgm_member.specs.declared.carried.Carried.{Carried}
use Rattle.rgm_member.specs.declared.carried.Carried.TheVariants as carried
use Rattle.shared_address.specs.Choosing as serving
use Rattle.shared_address.specs.declared.choice.Client.{Client}
use Rattle.status_report.specs.declared.command_entry.Answer.{Answer}
use Rattle.status_report.specs.declared.command_entry.Answer.TheVariants as answer
use Rattle.status_report.specs.declared.entry.Entry.TheVariants as entry
use Rattle.status_report.specs.declared.status_entry.StatusEntry.{StatusEntry}
use Rattle.update_words.specs.Words.{ask_words_of, words_of}
use Rattle.wire.specs.declared.message.Body.{Body}
use Rattle.wire.specs.declared.message.Body.TheVariants as body
use Rattle.wire.specs.declared.message.Message.{Message}
use Rattle.wire.specs.declared.message.Order.{Order}
use Rattle.node_model.specs.Addresses.{forgot_lines, served_lines}
use Rattle.node_model.specs.Attempts.{is_choosing}
use Rattle.node_model.specs.Deciding.{order_sent, orders_sent}
use Rattle.node_model.specs.Groups.{call_told, order_again, order_again_to, order_at, order_told, orders_again_by, orders_again_of}
use Rattle.node_model.specs.Presidents.{answer_given, own_line, told_lines, word_answer}
use Rattle.node_model.specs.Seats.{session_of, state_of, with_state}
use Rattle.node_model.specs.declared.input.Input.{Input}
use Rattle.node_model.specs.declared.node.UpNode.{UpNode}
use Rattle.node_model.specs.declared.output.Output.{Output}
use Rattle.node_model.specs.declared.output.Output.TheVariants.{Tells}
use Rattle.node_model.specs.declared.presidency.Presidency.{Presidency}
use Rattle.node_model.specs.declared.seat.Seat.{Seat}
use Rattle.node_model.specs.declared.seat.Seat.TheVariants.{Forming, Member}
use Rattle.refinement.specs.Cuts.{queue_by}
use Rattle.run_history.proofs.Lists.{both, mapped, of_each}
use Rattle.run_commands.specs.carried.Guards.{BodyAsk, Cause, Command, OutputAsk, QueueGoes, is_silent, told_number}
use Rattle.run_commands.specs.carried.Guards.Move.{Answers, Same}

abbrev pub AllAsk : ℕ → Input → Option Command → Option ℕ → UpNode → List Output → Type 0
AllAsk me i o h x os = AllByRecursion (OutputAsk me i o h x) os

-- what is no message of requests
abbrev pub IsOtherBody : Body → Type 0
IsOtherBody (body.Request e q text) = ⊥
IsOtherBody (body.Answer e q text) = ⊥
IsOtherBody _ = Unit {0}

pub other_ask : (x : UpNode) (b : Body) → IsOtherBody b → BodyAsk x b
other_ask x (body.Request e q text) is = absurd is
other_ask x (body.Answer e q text) is = absurd is
other_ask x _ is = tt

-- ---- an attempt sends none

abbrev pub IsOther : Step → Type 0
IsOther (step.Send to m) = IsOtherBody m.body
IsOther _ = Unit {0}

own_other : (t : AttemptState) (b : Body) → IsOwn t b → IsOtherBody b
own_other t (body.Request e q text) h = absurd h
own_other t (body.Answer e q text) h = absurd h
own_other t _ h = tt

step_other : (t : AttemptState) (s : Step) → IsOwnStep t s → IsOther s
step_other t (step.Send to m) h = own_other t m.body h.1
step_other t _ h = tt

all_other : (t : AttemptState) (steps : List Step) → All (IsOwnStep t) steps → AllByRecursion IsOther steps
all_other t [] h = tt
all_other t (s ∷ steps) h = (step_other t s (All-head (IsOwnStep t) s steps h), all_other t steps (All-tail (IsOwnStep t) s steps h))

pub turn_other : (a : AttemptState) (k : Call) → May a k → AllByRecursion IsOther (turn a k).steps
turn_other a k may = all_other (turn a k).after (turn a k).steps (sends_are_own a k may)

pub first_other : (p members : ℕ) (own : Message) (attached : List AttachedDevice) (cluster : ℕ) → AllByRecursion IsOther (beginning p members own attached cluster).steps
first_other p members own attached cluster = all_other (beginning p members own attached cluster).after (beginning p members own attached cluster).steps (first_sends_are_own p members own attached cluster)

pub choosing_is : (phase : Phase) → is_choosing phase ≡ true → phase ≡ Choosing
choosing_is Choosing h = refl
choosing_is Collecting h = cc
choosing_is SeizingVotes h = cc
choosing_is SeizingOthers h = cc
choosing_is Installing h = cc
choosing_is Over h = cc

-- ---- lines of other things

pub lines_ask : (me : ℕ) (i : Input) (o : Option Command) (h : Option ℕ) (x : UpNode) (lines : List StatusEntry) → AllAsk me i o h x (told_lines lines)
lines_ask me i o h x lines = mapped (OutputAsk me i o h x) (λ l. Tells (entry.Status l)) lines (λ l. tt)

pub orders_ask : (me : ℕ) (i : Input) (o : Option Command) (h : Option ℕ) (x : UpNode) (orders : List (ℕ × Order)) → AllAsk me i o h x (orders_sent me orders)
unfolding orders_sent
orders_ask me i o h x orders = of_each (OutputAsk me i o h x) (order_sent me) orders (λ e. if_either (AllAsk me i o h x) (e.0 == me) [] _ tt (tt, tt))

call_ask : (me : ℕ) (i : Input) (o : Option Command) (h : Option ℕ) (x : UpNode) (order : Order) (outcome : Outcome) (m : Option Method) → AllAsk me i o h x (call_told me order outcome m)
call_ask me i o h x order outcome None = tt
call_ask me i o h x order outcome (Some m) = (tt, (tt, tt))

pub order_ask : (me : ℕ) (i : Input) (o : Option Command) (h : Option ℕ) (x : UpNode) (order : Order) (how : Carried) → AllAsk me i o h x (order_told me order how)
order_ask me i o h x order (carried.Called outcome) = call_ask me i o h x order outcome order.method
order_ask me i o h x order carried.Cleared = tt
order_ask me i o h x order (carried.Kept outcome) = tt
order_ask me i o h x order carried.Old = tt

again_to : (me : ℕ) (i : Input) (o : Option Command) (h : Option ℕ) (x : UpNode) (n : ℕ) (order : Option Order) → AllAsk me i o h x (order_again_to n order)
again_to me i o h x n None = tt
again_to me i o h x n (Some order) = (tt, tt)

pub again_ask : (me : ℕ) (i : Input) (o : Option Command) (h : Option ℕ) (x : UpNode) (before after : Option Presidency) → AllAsk me i o h x (orders_again_by before after)
unfolding orders_again_of
again_ask me i o h x None after = tt
again_ask me i o h x (Some before) None = tt
again_ask me i o h x (Some before) (Some after) =
    of_each (OutputAsk me i o h x) (order_again _ after.groups) _
    (λ n. if_either (AllAsk me i o h x) _ (order_again_to n (order_at n after.groups)) [] (again_to me i o h x n (order_at n after.groups)) tt)

forgot_ask : (me : ℕ) (i : Input) (o : Option Command) (h : Option ℕ) (x : UpNode) (name : List ℕ) (k : Option Client) → AllAsk me i o h x (forgot_lines name k)
forgot_ask me i o h x name None = tt
forgot_ask me i o h x name (Some k) = (tt, tt)

pub served_ask : (me : ℕ) (i : Input) (o : Option Command) (h : Option ℕ) (x : UpNode) (name : List ℕ) (client port : ℕ) (k : serving.Outcome) → AllAsk me i o h x (served_lines name client port k)
served_ask me i o h x name client port k = both (OutputAsk me i o h x) (forgot_lines name k.forgot) _ (forgot_ask me i o h x name k.forgot) (tt, tt)

-- ---- answers

-- the first, where it has this number
pub found_number : (rs : List Request) (k : ℕ) (r : Request) → found rs k ≡ Some r → r.number ≡ k
found_number [] k r e = absurd (none_some r e)
found_number (y ∷ ys) k r e = by_test (y.number == k) refl e
  where
    by_test : (b : Bool) → (y.number == k) ≡ b → (if b then Some y else None) ≡ Some r → r.number ≡ k
    by_test true is at = subst (λ (z : Request). z.number ≡ k) (same_some y r at) (same_number y.number k is)
    by_test false is at = absurd (none_some r at)

pub found_first : (rs : List Request) (k : ℕ) (r : Request) → found rs k ≡ Some r → queue.oldest_in rs ≡ Some r
found_first [] k r e = absurd (none_some r e)
found_first (y ∷ ys) k r e = by_test (y.number == k) e
  where
    by_test : (b : Bool) → (if b then Some y else None) ≡ Some r → Some y ≡ Some r
    by_test true at = at
    by_test false at = absurd (none_some r at)

-- the line of a request, where its answer has a cause
pub line_ask : (me : ℕ) (i : Input) (o : Option Command) (h : Option ℕ) (x : UpNode) (told : Answer) (r : Request) → (r.told ≡ true → Cause i o h x r.number told)
    → AllAsk me i o h x (own_line me told (Some r))
line_ask me i o h x told r why = if_with (AllAsk me i o h x) r.told r.told _ [] refl (λ is. ((refl, why is), tt)) (λ is. tt)

own_ask : (me : ℕ) (i : Input) (o : Option Command) (h : Option ℕ) (x : UpNode) (told : Answer) (k : ℕ) (f : Option Request) → found x.requests.waiting k ≡ f → is_some x.presidency ≡ true
    → AllAsk me i o h x (own_line me told f)
own_ask me i o h x told k None is pr = tt
own_ask me i o h x told k (Some r) is pr =
    line_ask me i o h x told r (λ so. inr (inl (pr, inl (record { asked = k; request = r; is = is; told = so; number = refl }))))

pub given_ask : (me : ℕ) (i : Input) (o : Option Command) (h : Option ℕ) (x : UpNode) (a : Arrived) (told : Answer) → is_some x.presidency ≡ true → AllAsk me i o h x (answer_given me x a told)
given_ask me i o h x a told pr =
    if_either (AllAsk me i o h x) (a.from == me) (own_line me told (found x.requests.waiting a.number)) _
    (own_ask me i o h x told a.number (found x.requests.waiting a.number) refl pr) ((pr, refl), tt)

-- the line of what an acknowledgement has taken out of the queue
taken_ask : (me : ℕ) (i : Input) (o : Option Command) (x y : UpNode) (told : Answer) (k : ℕ) (f : Option Request) → found x.requests.waiting k ≡ f → is_some y.presidency ≡ true
    → AllAsk me i o (option_and_then told_number (oldest x.requests)) y (own_line me told f)
taken_ask me i o x y told k None is pr = tt
taken_ask me i o x y told k (Some r) is pr =
    line_ask me i o (option_and_then told_number (oldest x.requests)) y told r
    (λ so. inr (inl (pr, inr (inr (ap (λ z. option_and_then told_number z) (found_first x.requests.waiting k r is) ∙ number_told r so)))))
  where
    number_told : (q : Request) → q.told ≡ true → told_number q ≡ Some q.number
    number_told q so = ap (λ b. if b then Some q.number else None) so

pub acked_ask : (me : ℕ) (i : Input) (o : Option Command) (x y : UpNode) (a : Arrived) → is_some y.presidency ≡ true → session_of x ≡ session_of y
    → AllAsk me i o (option_and_then told_number (oldest x.requests)) y (answer_given me x a answer.Ok)
acked_ask me i o x y a pr same =
    if_either (AllAsk me i o (option_and_then told_number (oldest x.requests)) y) (a.from == me) (own_line me answer.Ok (found x.requests.waiting a.number)) _
    (taken_ask me i o x y answer.Ok a.number (found x.requests.waiting a.number) refl pr) ((pr, same), tt)

pub same_session : (seat : Seat) (entries : EntryList) → (state_of seat).session ≡ (state_of (with_state seat (with_entries (state_of seat) entries))).session
same_session (Forming s) entries = refl
same_session (Member s) entries = refl

pub word_silent : (e : WordError) → is_silent (word_answer e) ≡ true
word_silent word.UnknownCommand = refl
word_silent word.MissingOperand = refl
word_silent word.BadValue = refl
word_silent word.NoMemory = refl

-- ---- the queue

pub same_queue : (o : Option Command) (x : UpNode) (q : Queue) → q.waiting ≡ x.requests.waiting → q.asked ≡ x.requests.asked → QueueGoes o x q
same_queue o x q waiting asked = record { move = Same; waiting = waiting; asked = asked; may = tt }

answered_asked : (q : Queue) (k : ℕ) → (queue.answered q k).asked ≡ q.asked
answered_asked q k = by_list q.waiting
  where
    by_list : (rs : List Request) → (queue.left_of q rs k).asked ≡ q.asked
    by_list [] = refl
    by_list (r ∷ rs) = if_either (λ (z : Queue). z.asked ≡ q.asked) (r.number == k) _ q refl refl

pub answered_queue : (o : Option Command) (x : UpNode) (k : ℕ) → QueueGoes o x (queue.answered x.requests k)
answered_queue o x k = record { move = Answers k; waiting = refl; asked = answered_asked x.requests k; may = tt }

pub queue_ask : (me : ℕ) (o : Option Command) (x : UpNode) (a : Arrived) → QueueGoes o x (queue_by me x a)
queue_ask me o x a = if_either (QueueGoes o x) (a.from == me) (queue.answered x.requests a.number) x.requests (answered_queue o x a.number) (same_queue o x x.requests refl refl)

-- ---- the words of a command that is a request

abbrev pub text_of : AdminCommand → Option (List ℕ)
text_of (wish.Change u) = Some (words_of u)
text_of (wish.Act a) = Some (ask_words_of a)
text_of (wish.Status q) = None
text_of (wish.Rows table) = None
