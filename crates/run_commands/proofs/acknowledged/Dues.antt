-- Where nothing is due: a course in two parts, what is given that is no answer, what a president has in hand that stays, and what it answers.
use Rattle.std.specs.Prelude.{ℕ, ◌≡◌, ◌⊎◌, ◌==◌, nat_lt, Bool, true, false, List, [], ◌∷◌, Option, None, Some, if◌then◌else◌}
use Rattle.std.proofs.Common.{refl, sym, ap, subst, ◌∙◌, inl, inr, arith}
use Rattle.answer_words.specs.Answers.{answer_in}
use Rattle.cl_base.specs.declared.method.Method.{Method}
use Rattle.cl_base.specs.declared.method.Outcome.{Outcome}
use Rattle.cmm_attempt.proofs.Basics.{if_either, none_some, same_number, same_some}
use Rattle.proposals.specs.Arrivals.{after_kept, answered, waits_or_is_new}
use Rattle.proposals.specs.State.{State, first_in}
use Rattle.proposals.specs.declared.arrived.Arrival.TheVariants.{Answered as Answered_last, Past}
use Rattle.proposals.specs.declared.arrived.Arrived.{Arrived}
use Rattle.proposals.specs.declared.arrived.Kept.{Kept}
use Rattle.request_queue.specs.Queue as queue
use Rattle.request_queue.specs.Queue.{found, oldest}
use Rattle.request_queue.specs.declared.request.Request.{Request}
use Rattle.rgm_member.specs.declared.carried.Carried.{Carried}
use Rattle.rgm_member.specs.declared.carried.Carried.TheVariants as carried
use Rattle.shared_address.specs.Choosing as serving
use Rattle.shared_address.specs.declared.choice.Client.{Client}
use Rattle.status_report.specs.CommandLines.{reply_text}
use Rattle.status_report.specs.declared.command_entry.Answer.{Answer}
use Rattle.status_report.specs.declared.command_entry.Answer.TheVariants as answer
use Rattle.status_report.specs.declared.entry.Entry.TheVariants as entry
use Rattle.status_report.specs.declared.status_entry.StatusEntry.{StatusEntry}
use Rattle.wire.specs.declared.message.Body.{Body}
use Rattle.wire.specs.declared.message.Body.TheVariants as body
use Rattle.wire.specs.declared.message.Message.{Message}
use Rattle.wire.specs.declared.message.Order.{Order}
use Rattle.node_model.specs.Addresses.{forgot_lines, served_lines}
use Rattle.node_model.specs.Deciding.{order_sent, orders_sent}
use Rattle.node_model.specs.Entries.{answered_line}
use Rattle.node_model.specs.Groups.{call_told, order_again, order_again_to, order_at, order_told, orders_again_by, orders_again_of}
use Rattle.node_model.specs.Presidents.{answer_given, own_line, told_lines, with_own}
use Rattle.node_model.specs.Seats.{is_in, session_of}
use Rattle.node_model.specs.declared.cluster.Cluster.{Cluster}
use Rattle.node_model.specs.declared.input.Input.{Input}
use Rattle.node_model.specs.declared.input.Input.TheVariants.{Packet}
use Rattle.node_model.specs.declared.node.UpNode.{UpNode}
use Rattle.node_model.specs.declared.output.Output.TheVariants.{Sends, Tells}
use Rattle.node_model.specs.declared.presidency.Presidency.{Presidency}
use Rattle.refinement.specs.Courses.{Course, joined}
use Rattle.refinement.specs.Courses.Course.{Acts, Falls, Keeps, Stops}
use Rattle.refinement.specs.Cuts.{left_by_answer}
use Rattle.refinement.specs.Doings.{acted, changed}
use Rattle.run_history.proofs.Lists.{both, mapped, of_each}
use Rattle.run_commands.proofs.carried.Asides.{IsOtherBody, found_number}
use Rattle.run_commands.specs.acknowledged.Guards.{CauseOf}
use Rattle.run_commands.specs.acknowledged.Hands.{Stays_or_comes}
use Rattle.run_commands.proofs.acknowledged.Asides.{answered_in, oldest_is, with_own_goes}
use Rattle.run_commands.specs.acknowledged.AnsweringGuards.{Answers, AreStill, Due, GivesSo, GoesSo, IsStill, OfBoth, OwedOutput}
use Rattle.run_commands.specs.acknowledged.AnsweringGuards.Due.{Even}

-- ---- a course, and what follows where the node is up after it

pub then_from : (c : Cluster) (i : Input) (me : ℕ) (v : Option ℕ) (d : Due) (x : UpNode) (k : Course) (next : UpNode → Course) → GoesSo c i me v d x k → ((y : UpNode) → GoesSo c i me v Even y (next y))
    → GoesSo c i me v d x (joined c me x k next)
then_from c i me v d x Stops next p q = subst (λ g. GoesSo c i me v g x (next x)) (sym p) (q x)
then_from c i me v d x (Acts a rest) next p q = (p.0, p.1, then_from c i me v p.0 (acted c me x a) rest next p.2 q)
then_from c i me v d x (Keeps change rest) next p q = (p.0, p.1, then_from c i me v p.0 (changed c me x change) rest next p.2 q)
then_from c i me v d x (Falls why) next p q = tt

-- ---- what is given that is no answer

pub other_still : (to : ℕ) (b : Body) → IsOtherBody b → IsStill (Sends to b)
other_still to (body.Request e q text) is = absurd is
other_still to (body.Answer e q text) is = absurd is
other_still to _ is = tt

pub lines_still : (lines : List StatusEntry) → AreStill (told_lines lines)
lines_still lines = mapped IsStill (λ l. Tells (entry.Status l)) lines (λ l. tt)

pub orders_still : (me : ℕ) (orders : List (ℕ × Order)) → AreStill (orders_sent me orders)
unfolding orders_sent
orders_still me orders = of_each IsStill (order_sent me) orders (λ e. if_either AreStill (e.0 == me) [] _ tt (tt, tt))

call_still : (me : ℕ) (order : Order) (outcome : Outcome) (m : Option Method) → AreStill (call_told me order outcome m)
call_still me order outcome None = tt
call_still me order outcome (Some m) = (tt, (tt, tt))

pub order_still : (me : ℕ) (order : Order) (how : Carried) → AreStill (order_told me order how)
order_still me order (carried.Called outcome) = call_still me order outcome order.method
order_still me order carried.Cleared = tt
order_still me order (carried.Kept outcome) = tt
order_still me order carried.Old = tt

again_to : (n : ℕ) (order : Option Order) → AreStill (order_again_to n order)
again_to n None = tt
again_to n (Some order) = (tt, tt)

pub again_still : (before after : Option Presidency) → AreStill (orders_again_by before after)
unfolding orders_again_of
again_still None after = tt
again_still (Some before) None = tt
again_still (Some before) (Some after) =
    of_each IsStill (order_again _ after.groups) _ (λ n. if_either AreStill _ (order_again_to n (order_at n after.groups)) [] (again_to n (order_at n after.groups)) tt)

forgot_still : (name : List ℕ) (k : Option Client) → AreStill (forgot_lines name k)
forgot_still name None = tt
forgot_still name (Some k) = (tt, tt)

pub served_still : (name : List ℕ) (client port : ℕ) (k : serving.Outcome) → AreStill (served_lines name client port k)
served_still name client port k = both IsStill (forgot_lines name k.forgot) _ (forgot_still name k.forgot) (tt, tt)

-- a line with another answer
pub ok_or_still : (n q : ℕ) (told : Answer) → (told ≡ answer.Ok) ⊎ IsStill (Tells (answered_line n q told))
ok_or_still n q answer.Ok = inl refl
ok_or_still n q answer.Unknown = inr tt
ok_or_still n q answer.UnknownCommand = inr tt
ok_or_still n q answer.MissingOperand = inr tt
ok_or_still n q answer.BadValue = inr tt
ok_or_still n q answer.NotMember = inr tt
ok_or_still n q (answer.Ask node) = inr tt
ok_or_still n q answer.QueueFull = inr tt
ok_or_still n q (answer.Refused r) = inr tt

-- ---- what a president has in hand

pub stays_so : (C : Arrived → Type 0) (s : State) → Stays_or_comes C s s
stays_so C s = inl (refl, refl, refl)

pub same_office : (C : Arrived → Type 0) (o : Option Presidency) → OfBoth (Stays_or_comes C) o o
same_office C None = tt
same_office C (Some p) = stays_so C p.proposals

pub at_office : (P : State → State → Type 0) (o : Option Presidency) (p q : Presidency) → o ≡ Some p → P p.proposals q.proposals → OfBoth P o (Some q)
at_office P o p q is h = subst (λ (z : Option Presidency). OfBoth P z (Some q)) (sym is) h

-- the first is answered
pub first_answered : (i : Input) (me : ℕ) (v : Option ℕ) (x : UpNode) (p q : Presidency) (a : Arrived) (told : Answer) → first_in p.proposals.arrived ≡ Some a → q.proposals ≡ p.proposals
    → Answers (CauseOf i me v x) a told p.proposals (left_by_answer me x q a told).proposals
first_answered i me v x p q a told first same =
    let s : State = answered q.proposals (reply_text told) in
    subst (λ (z : State). Answers (CauseOf i me v x) a told z (left_by_answer me x q a told).proposals) same
    (record {
      first = ap (λ (z : State). first_in z.arrived) same ∙ first;
      then = if_either (Stays_or_comes (CauseOf i me v x) s) (a.from == me) (with_own me s (oldest (queue.answered x.requests a.number))) s
          (with_own_goes (CauseOf i me v x) me s (oldest (queue.answered x.requests a.number))
          (λ r is. inr (record { request = r; waits = answered_in x.requests a.number r (oldest_is (queue.answered x.requests a.number) r is); is = refl })))
          (stays_so (CauseOf i me v x) s);
    })

-- ---- answers

own_owed : (me k : ℕ) (rs : List Request) (o : Option Request) → found rs k ≡ o
    → (own_line me answer.Ok o ≡ []) ⊎ (own_line me answer.Ok o ≡ Tells (answered_line me k answer.Ok) ∷ [])
own_owed me k rs None is = inl refl
own_owed me k rs (Some r) is = by r.told
  where
    by : (b : Bool) → ((if b then Tells (answered_line me r.number answer.Ok) ∷ [] else []) ≡ []) ⊎ ((if b then Tells (answered_line me r.number answer.Ok) ∷ [] else []) ≡ Tells (answered_line me k answer.Ok) ∷ [])
    by true = inr (ap (λ j. Tells (answered_line me j answer.Ok) ∷ []) (found_number rs k r is))
    by false = inl refl

not_from : (a n : ℕ) → (a == n) ≡ false → a ≡ n → ⊥
not_from a n h e = grind arith

-- what is given for the first request, of the node as it was in the same session, is what is owed
pub given_owed : (me : ℕ) (x y : UpNode) (a : Arrived) → session_of x ≡ session_of y → OwedOutput me y a (answer_given me x a answer.Ok)
given_owed me x y a same = by (a.from == me) refl
  where
    by : (b : Bool) → (a.from == me) ≡ b
        → OwedOutput me y a (if b then own_line me answer.Ok (found x.requests.waiting a.number) else Sends a.from (body.Answer (session_of x) a.number (reply_text answer.Ok)) ∷ [])
    by true is = inr (same_number a.from me is, own_owed me a.number x.requests.waiting (found x.requests.waiting a.number) refl)
    by false is = inl (not_from a.from me is, ap (λ e. Sends a.from (body.Answer e a.number (reply_text answer.Ok)) ∷ []) same)

-- what its president's Answer says is told
pub reply_given : (c : Cluster) (i : Input) (me : ℕ) (x : UpNode) (from : ℕ) (m : Message) (e number : ℕ) (text : List ℕ) (told : Answer) (r : Request) → i ≡ Packet from m → m.body ≡ body.Answer e number text
    → answer_in text ≡ Some told → is_in x e ≡ true → found x.requests.waiting number ≡ Some r → GivesSo c i me x Even (own_line me told (Some r)) Even
reply_given c i me x from m e number text told r at says reads here is = by r.told
  where
    line : (told ≡ answer.Ok) ⊎ IsStill (Tells (answered_line me r.number told)) → GivesSo c i me x Even (Tells (answered_line me r.number told) ∷ []) Even
    line (inr still) = inl ((still, tt), refl)
    line (inl ok) = inr (inr (
      inr (record {
        from = from;
        message = m;
        input = at;
        epoch = e;
        number = number;
        text = text;
        says_so = says;
        reads = reads ∙ ap (λ z. Some z) ok;
        here = here;
        is = ap (λ z. Tells (answered_line me r.number z) ∷ []) ok ∙ ap (λ j. Tells (answered_line me j answer.Ok) ∷ []) (found_number x.requests.waiting number r is);
      }),
      refl,
    ))

    by : (b : Bool) → GivesSo c i me x Even (if b then Tells (answered_line me r.number told) ∷ [] else []) Even
    by true = line (ok_or_still me r.number told)
    by false = inl (tt, refl)

-- the last answer of a node goes again to a request of the same number
pub kept_number : (o : Option Kept) (k : Kept) (q : ℕ) (waits : Bool) → o ≡ Some k → after_kept o q waits ≡ Answered_last → q ≡ k.number
kept_number None k q waits is how = absurd (none_some k is)
kept_number (Some j) k q waits is how = by_less (nat_lt q j.number) how ∙ ap (λ (z : Kept). z.number) (same_some j k is)
  where
    by_waits : (b : Bool) → waits_or_is_new b ≡ Answered_last → q ≡ j.number
    by_waits true e = cc
    by_waits false e = cc

    by_same : (b : Bool) → (q == j.number) ≡ b → (if b then Answered_last else waits_or_is_new waits) ≡ Answered_last → q ≡ j.number
    by_same true same e = same_number q j.number same
    by_same false same e = by_waits waits e

    by_less : (b : Bool) → (if b then Past else (if q == j.number then Answered_last else waits_or_is_new waits)) ≡ Answered_last → q ≡ j.number
    by_less true e = cc
    by_less false e = by_same (q == j.number) refl e
