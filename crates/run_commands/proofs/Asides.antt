-- What is told and sent in a step, as far as answers are concerned.
use Rattle.std.specs.Prelude.{ℕ, ◌≡◌, ◌==◌, Bool, true, false, List, [], ◌∷◌, Option, None, Some, if◌then◌else◌}
use Rattle.std.proofs.Common.{refl, inl, inr}
use Rattle.cl_base.specs.declared.method.Method.{Method}
use Rattle.cl_base.specs.declared.method.Outcome.{Outcome}
use Rattle.cmm_attempt.proofs.Basics.{if_either}
use Rattle.proposals.specs.declared.arrived.Arrived.{Arrived}
use Rattle.request_queue.specs.Queue as queue
use Rattle.request_queue.specs.Queue.{Queue, found}
use Rattle.request_queue.specs.declared.request.Request.{Request}
use Rattle.rgm_member.specs.declared.carried.Carried.{Carried}
use Rattle.rgm_member.specs.declared.carried.Carried.TheVariants as carried
use Rattle.shared_address.specs.Choosing as serving
use Rattle.shared_address.specs.declared.choice.Client.{Client}
use Rattle.status_report.specs.declared.command_entry.Answer.{Answer}
use Rattle.status_report.specs.declared.entry.Entry.TheVariants as entry
use Rattle.status_report.specs.declared.status_entry.StatusEntry.{StatusEntry}
use Rattle.wire.specs.declared.message.Body.TheVariants as body
use Rattle.wire.specs.declared.message.Order.{Order}
use Rattle.status_report.specs.CommandLines.{reply_text}
use Rattle.node_model.specs.Addresses.{forgot_lines, served_lines}
use Rattle.node_model.specs.Deciding.{order_sent, orders_sent}
use Rattle.node_model.specs.Entries.{answered_line}
use Rattle.node_model.specs.Groups.{call_told, order_again, order_again_to, order_at, order_told, orders_again_by, orders_again_of}
use Rattle.node_model.specs.Presidents.{answer_given, own_line, told_lines}
use Rattle.node_model.specs.Seats.{session_of}
use Rattle.node_model.specs.declared.node.UpNode.{UpNode}
use Rattle.node_model.specs.declared.output.Output.{Output}
use Rattle.node_model.specs.declared.output.Output.TheVariants.{Sends, Tells}
use Rattle.node_model.specs.declared.presidency.Presidency.{Presidency}
use Rattle.refinement.specs.Cuts.{queue_by}
use Rattle.run_history.proofs.Lists.{both, mapped, of_each}
use Rattle.run_commands.specs.Guards.{AreQuiet, GivesSo, Hand, IsQuietOutput, MayMove, Move, waiting_by}
use Rattle.run_commands.specs.Guards.Hand.{Free, Held, Spent}
use Rattle.run_commands.specs.Guards.Move.{Drops, Pops, Stays, Takes}

-- ---- lines of other things

pub lines_quiet : (lines : List StatusEntry) → AreQuiet (told_lines lines)
lines_quiet lines = mapped IsQuietOutput (λ l. Tells (entry.Status l)) lines (λ l. tt)

pub orders_quiet : (me : ℕ) (orders : List (ℕ × Order)) → AreQuiet (orders_sent me orders)
unfolding orders_sent
orders_quiet me orders = of_each IsQuietOutput (order_sent me) orders (λ e. if_either AreQuiet (e.0 == me) [] _ tt (tt, tt))

call_quiet : (me : ℕ) (order : Order) (outcome : Outcome) (m : Option Method) → AreQuiet (call_told me order outcome m)
call_quiet me order outcome None = tt
call_quiet me order outcome (Some m) = (tt, (tt, tt))

pub order_quiet : (me : ℕ) (order : Order) (how : Carried) → AreQuiet (order_told me order how)
order_quiet me order (carried.Called outcome) = call_quiet me order outcome order.method
order_quiet me order carried.Cleared = tt
order_quiet me order (carried.Kept outcome) = tt
order_quiet me order carried.Old = tt

again_to : (n : ℕ) (order : Option Order) → AreQuiet (order_again_to n order)
again_to n None = tt
again_to n (Some order) = (tt, tt)

pub again_quiet : (before after : Option Presidency) → AreQuiet (orders_again_by before after)
unfolding orders_again_of
again_quiet None after = tt
again_quiet (Some before) None = tt
again_quiet (Some before) (Some after) =
    of_each IsQuietOutput (order_again _ after.groups) _ (λ n. if_either AreQuiet _ (order_again_to n (order_at n after.groups)) [] (again_to n (order_at n after.groups)) tt)

forgot_quiet : (name : List ℕ) (k : Option Client) → AreQuiet (forgot_lines name k)
forgot_quiet name None = tt
forgot_quiet name (Some k) = (tt, tt)

pub served_quiet : (name : List ℕ) (client port : ℕ) (k : serving.Outcome) → AreQuiet (served_lines name client port k)
served_quiet name client port k = both IsQuietOutput (forgot_lines name k.forgot) _ (forgot_quiet name k.forgot) (tt, tt)

pub quiet_gives : (me : ℕ) (h : Hand) (waiting : List Request) (os : List Output) → AreQuiet os → GivesSo me h waiting os h
quiet_gives me h waiting os quiet = inl (quiet, refl)

-- ---- an answer, and then the queue moves

-- the first is answered by these outputs, and the queue is this then
pub record Turns (me : ℕ) (waiting : List Request) (os : List Output) (asked : ℕ) (q : Queue) : Type 0 where
  pub after : Hand
  pub gives : GivesSo me Free waiting os after
  pub move : Move
  pub waiting_so : q.waiting ≡ waiting_by move waiting
  pub asked_so : q.asked ≡ asked
  pub may : MayMove move after waiting Free

turns_quiet : (me : ℕ) (waiting : List Request) (os : List Output) (asked : ℕ) (q : Queue) → AreQuiet os → q.waiting ≡ waiting → q.asked ≡ asked → Turns me waiting os asked q
turns_quiet me waiting os asked q quiet same asked_too = record { after = Free; gives = inl (quiet, refl); move = Stays; waiting_so = same; asked_so = asked_too; may = (tt, refl) }

pub own_turns : (me : ℕ) (q : Queue) (told : Answer) (k : ℕ) → Turns me q.waiting (own_line me told (found q.waiting k)) q.asked (queue.answered q k)
own_turns me q told k = by_list q.waiting refl
  where
    by_list : (rs : List Request) → q.waiting ≡ rs → Turns me rs (own_line me told (found rs k)) q.asked (queue.left_of q rs k)
    by_list [] same = turns_quiet me [] [] q.asked q tt same refl
    by_list (r ∷ rs) same = by_test (r.number == k)
      where
        by_told : (t : Bool) → r.told ≡ t → Turns me (r ∷ rs) (if t then Tells (answered_line me r.number told) ∷ [] else []) q.asked (record q { waiting = rs; age = 0 })
        by_told true is = record {
          after = Spent r.number;
          gives = inr (record { number = r.number; reply = told; is = refl; may = (record { request = r; is = refl; told = is; number = refl }, refl) });
          move = Pops;
          waiting_so = refl;
          asked_so = refl;
          may = (tt, refl);
        }
        by_told false is = record { after = Free; gives = inl (tt, refl); move = Drops; waiting_so = refl; asked_so = refl; may = (refl, is, refl) }

        by_test : (b : Bool) → Turns me (r ∷ rs) (own_line me told (if b then Some r else None)) q.asked (if b then record q { waiting = rs; age = 0 } else q)
        by_test true = by_told r.told refl
        by_test false = turns_quiet me (r ∷ rs) [] q.asked q tt same refl

pub given_turns : (me : ℕ) (x : UpNode) (a : Arrived) (told : Answer) → Turns me x.requests.waiting (answer_given me x a told) x.requests.asked (queue_by me x a)
given_turns me x a told = by_from (a.from == me)
  where
    by_from : (b : Bool)
        → Turns me x.requests.waiting (if b then own_line me told (found x.requests.waiting a.number) else Sends a.from (body.Answer (session_of x) a.number (reply_text told)) ∷ []) x.requests.asked
        (if b then queue.answered x.requests a.number else x.requests)
    by_from true = own_turns me x.requests told a.number
    by_from false = turns_quiet me x.requests.waiting _ x.requests.asked x.requests (tt, tt) refl refl

-- ---- the queue moves, and then the answer

-- the queue is this, and then these outputs answer what was first
pub record Frees (me : ℕ) (waiting : List Request) (asked : ℕ) (q : Queue) (os : List Output) : Type 0 where
  pub after : Hand
  pub move : Move
  pub waiting_so : q.waiting ≡ waiting_by move waiting
  pub asked_so : q.asked ≡ asked
  pub may : MayMove move Free waiting after
  pub gives : (left : List Request) → GivesSo me after left os Free

frees_quiet : (me : ℕ) (waiting : List Request) (asked : ℕ) (q : Queue) (os : List Output) → AreQuiet os → q.waiting ≡ waiting → q.asked ≡ asked → Frees me waiting asked q os
frees_quiet me waiting asked q os quiet same asked_too =
    record { after = Free; move = Stays; waiting_so = same; asked_so = asked_too; may = (tt, refl); gives = λ left. inl (quiet, refl) }

own_frees : (me : ℕ) (q : Queue) (told : Answer) (k : ℕ) → Frees me q.waiting q.asked (queue.answered q k) (own_line me told (found q.waiting k))
own_frees me q told k = by_list q.waiting refl
  where
    by_list : (rs : List Request) → q.waiting ≡ rs → Frees me rs q.asked (queue.left_of q rs k) (own_line me told (found rs k))
    by_list [] same = frees_quiet me [] q.asked q [] tt same refl
    by_list (r ∷ rs) same = by_test (r.number == k)
      where
        by_told : (t : Bool) → r.told ≡ t → Frees me (r ∷ rs) q.asked (record q { waiting = rs; age = 0 }) (if t then Tells (answered_line me r.number told) ∷ [] else [])
        by_told true is = record {
          after = Held r.number;
          move = Takes r;
          waiting_so = refl;
          asked_so = refl;
          may = (refl, refl, is, refl);
          gives = λ left. inr (record { number = r.number; reply = told; is = refl; may = (refl, refl) });
        }
        by_told false is = record { after = Free; move = Drops; waiting_so = refl; asked_so = refl; may = (refl, is, refl); gives = λ left. inl (tt, refl) }

        by_test : (b : Bool) → Frees me (r ∷ rs) q.asked (if b then record q { waiting = rs; age = 0 } else q) (own_line me told (if b then Some r else None))
        by_test true = by_told r.told refl
        by_test false = frees_quiet me (r ∷ rs) q.asked q [] tt same refl

pub given_frees : (me : ℕ) (x : UpNode) (a : Arrived) (told : Answer) → Frees me x.requests.waiting x.requests.asked (queue_by me x a) (answer_given me x a told)
given_frees me x a told = by_from (a.from == me)
  where
    by_from : (b : Bool)
        → Frees me x.requests.waiting x.requests.asked (if b then queue.answered x.requests a.number else x.requests)
        (if b then own_line me told (found x.requests.waiting a.number) else Sends a.from (body.Answer (session_of x) a.number (reply_text told)) ∷ [])
    by_from true = own_frees me x.requests told a.number
    by_from false = frees_quiet me x.requests.waiting x.requests.asked x.requests _ (tt, tt) refl refl
