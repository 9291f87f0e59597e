-- A member has sent its oldest request, unless it was the oldest before the event.
use Rattle.std.specs.Prelude.{ℕ, ◌+◌, ◌≡◌, ◌≤◌, ◌⊎◌, ◌%◌, ◌==◌, ◌||◌, nat_le, Bool, true, false, List, [], ◌∷◌, length, Option, None, Some, is_some}
use Rattle.std.specs.List.{list_any}
use Rattle.std.proofs.Common.{refl, ap, sym, subst, ◌∙◌, inl, inr, arith}
use Rattle.cmm_attempt.proofs.Basics.{false_true, none_some}
use Rattle.history.specs.Commands.{is_monitors}
use Rattle.history.specs.Messages.{oldest_waiting, requests, sends_or_falls}
use Rattle.history.specs.Moment.{Moment}
use Rattle.history.specs.Names as name
use Rattle.history.specs.Order.{since}
use Rattle.history.specs.Seizing.{is_boot, is_number}
use Rattle.history.specs.Setting.{coordinator}
use Rattle.node_model.specs.Seats.{is_member, node_numbered, state_of}
use Rattle.node_model.specs.declared.node.Node.{Node}
use Rattle.node_model.specs.declared.node.Node.TheVariants.{Down, Up}
use Rattle.node_model.specs.declared.node.UpNode.{UpNode}
use Rattle.node_model.specs.declared.presidency.Presidency.{Presidency}
use Rattle.node_model.specs.declared.seat.Seat.{Seat}
use Rattle.node_model.specs.declared.seat.Seat.TheVariants.{Member}
use Rattle.cmm_member.specs.Nodes.{NodeState}
use Rattle.request_queue.specs.Queue.{oldest, oldest_in}
use Rattle.request_queue.specs.declared.request.Request.{Request}
use Rattle.run_commands.proofs.Fitting.{numbered_is}
use Rattle.run_commands.proofs.Owed.{Owed}
use Rattle.run_commands.proofs.Runs.{NodeFits}
use Rattle.run_commands.specs.Answers.{AnswersWait}
use Rattle.run_commands.specs.Guards.{Free, IsLed}
use Rattle.run_history.specs.Scenes.{Scene}
use Rattle.run_lines.specs.Entries.{PresidesAt}
use Rattle.wire.proofs.Lengths.{spellings}
use Rattle.wire.specs.Spelling.{spelling}
use Rattle.wire.specs.declared.message.Body.TheVariants as body
use Rattle.wire.specs.declared.message.Message.{Message}
use Rattle.run_packets.specs.waiting.Sendings.{IsLeft, IsShort}
use Rattle.run_packets.specs.waiting.Waiting.{IsFit, IsPaid, IsQueue, IsSent, NodeQueues}
use Rattle.run_packets.proofs.waiting.Oldest.{none_waits, oldest_is, told_by}
use Rattle.run_packets.proofs.waiting.Serving.{SentBy}
use Rattle.run_packets.proofs.waiting.Steps.{first_at}
use Rattle.std.specs.List.{AllByRecursion}

-- ---- a Request has a packet's size

at_most : (a b : ℕ) → a ≤ b → nat_le a b ≡ true
at_most a b h = grind arith

few_short : (size words : ℕ) → size ≡ 2 + (16 + (4 + words)) → words ≤ 65536 → nat_le size 131072 ≡ true
few_short size words is few = at_most size 131072 (omega (arith, is, few))

request_short : (n e q : ℕ) (text : List ℕ) → length text ≤ 65536 → IsShort n (body.Request e q text)
request_short n e q text few =
    let m : Message = record { sender = n; body = body.Request e q text } in few_short (length (spelling m)) (length text) (spellings m) few

-- ---- one node, in the end of an event

pub or_first : (a b : Bool) → a ≡ true → (a || b) ≡ true
or_first true b h = refl
or_first false b h = absurd (false_true h)

pub or_later : (a b : Bool) → b ≡ true → (a || b) ≡ true
or_later true b h = refl
or_later false b h = h

itself : (n : ℕ) → (n == n) ≡ true
itself n = grind arith

same_true : (a b : ℕ) → a ≡ b → (a == b) ≡ true
same_true a b h = grind arith

first_fits : (rs : List Request) (r : Request) → oldest_in rs ≡ Some r → AllByRecursion IsFit rs → AllByRecursion (λ (z : Request). z.told ≡ true) rs → (r.told ≡ true) × (length r.text ≤ 65536)
first_fits [] r is fit told = absurd (none_some r is)
first_fits (x ∷ rs) r is fit told = subst (λ (z : Request). (z.told ≡ true) × (length z.text ≤ 65536)) (same_one x r is) (told.0, fit.0 told.0)
  where
    same_one : (a b : Request) → Some a ≡ Some b → a ≡ b
    same_one a b e = cc

module _ (n : ℕ) (before after entries : List Moment) where
  -- a member, whose oldest request is this one
  member_sends : (e : ℕ) (old : Option ℕ) (q : ℕ) → (is_number q old ≡ true) ⊎ (sends_or_falls n (coordinator e) (name.Request q) entries ≡ true) → requests n (Some e) (Some q) old entries ≡ true
  member_sends e old q (inl same) =
      or_first ((coordinator e == n) || is_number q old) (sends_or_falls n (coordinator e) (name.Request q) entries) (or_later (coordinator e == n) (is_number q old) same)
  member_sends e old q (inr sent) = or_later ((coordinator e == n) || is_number q old) (sends_or_falls n (coordinator e) (name.Request q) entries) sent

  none_owed : (e old : Option ℕ) → requests n e None old entries ≡ true
  none_owed None old = refl
  none_owed (Some e) old = refl

  pub no_member : (q old : Option ℕ) → requests n None q old entries ≡ true
  no_member q old = refl

  presides_itself : (e : ℕ) (q old : Option ℕ) → coordinator e ≡ n → requests n (Some e) q old entries ≡ true
  presides_itself e None old own = refl
  presides_itself e (Some q) old own =
      or_first ((coordinator e == n) || is_number q old) (sends_or_falls n (coordinator e) (name.Request q) entries) (or_first (coordinator e == n) (is_number q old) (same_true (coordinator e) n own))

  -- the oldest before the event was this one
  old_is : (z : Node) (r : Request) → first_at z ≡ Some r → r.told ≡ true → AnswersWait before → NodeFits n before z → NodeQueues z → oldest_waiting n before before ≡ Some r.number
  old_is Down r first told law owed queue = absurd (none_some r first)
  old_is (Up x) r first told law owed queue = oldest_is n x.requests.asked x.requests.waiting before r law owed.0 queue first told

  office_own : (o : Option Presidency) (s : NodeState) → is_some o ≡ true → PresidesAt n o (Member s) → coordinator s.session ≡ n
  office_own None s some own = absurd (false_true some)
  office_own (Some p) s some own = own

  -- where it is a member
  module _ (y : UpNode) (s : NodeState) (z : Node) (t : Scene) where
    pub member_so : y.seat ≡ Member s → IsPaid (first_at z) (SentBy n entries t) y → IsLeft t.links.next → PresidesAt n y.presidency y.seat → IsLed y → AnswersWait before → AnswersWait after
        → NodeFits n before z → NodeQueues z → Owed n after Free y.requests.asked y.requests.waiting → IsQueue y.requests.asked y.requests.waiting
        → list_any (is_monitors n) (since (is_boot n) after) ≡ false → requests n (Some s.session) (oldest_waiting n after after) (oldest_waiting n before before) entries ≡ true
    member_so sits paid left office led law_before law_after fits_before queue_before owed queue quiet = by_oldest (oldest y.requests) refl
      where
        told : AllByRecursion (λ (r : Request). r.told ≡ true) y.requests.waiting
        told = told_by n y.requests.asked y.requests.waiting after owed quiet

        by_none : oldest y.requests ≡ None → requests n (Some s.session) (oldest_waiting n after after) (oldest_waiting n before before) entries ≡ true
        by_none none =
            subst (λ o. requests n (Some s.session) o (oldest_waiting n before before) entries ≡ true) (sym (none_waits n y.requests.asked y.requests.waiting after law_after owed none))
            (none_owed (Some s.session) (oldest_waiting n before before))

        sent_so : (r : Request) → oldest y.requests ≡ Some r → (sent : IsSent (SentBy n entries t) y) → sends_or_falls n (coordinator s.session) (name.Request r.number) entries ≡ true
        sent_so r first sent =
            let same : sent.request ≡ r = same_one sent.request r (sym sent.first ∙ first) in
            let fine : (sent.request.told ≡ true) × (length sent.request.text ≤ 65536) = first_fits y.requests.waiting sent.request sent.first queue.fit told in
            let leads : sent.to ≡ coordinator s.session = numbered_is _ sent.to (sym (ap (λ (w : Seat). node_of w) sits) ∙ sent.leads) in
            subst (λ k. sends_or_falls n k (name.Request r.number) entries ≡ true) leads
            (subst (λ (w : Request). sends_or_falls n sent.to (name.Request w.number) entries ≡ true) same (sent.given (request_short n sent.epoch sent.request.number sent.request.text fine.1) left))
          where
            same_one : (a b : Request) → Some a ≡ Some b → a ≡ b
            same_one a b e = cc

            node_of : Seat → Option ℕ
            node_of w = node_numbered ((state_of w).session % 64)

        by_paid : (r : Request) → oldest y.requests ≡ Some r → IsPaid (first_at z) (SentBy n entries t) y → requests n (Some s.session) (Some r.number) (oldest_waiting n before before) entries ≡ true
        by_paid r first (inl some) = presides_itself s.session (Some r.number) (oldest_waiting n before before) (office_own y.presidency s some (subst (λ w. PresidesAt n y.presidency w) sits office))
        by_paid r first (inr (inl same)) =
            member_sends s.session (oldest_waiting n before before) r.number
            (inl (subst (λ o. is_number r.number o ≡ true) (sym (old_is z r (sym same ∙ first) (first_fits y.requests.waiting r first queue.fit told).0 law_before fits_before queue_before)) (itself r.number)))
        by_paid r first (inr (inr (inl none))) = absurd (none_some r (sym none ∙ first))
        by_paid r first (inr (inr (inr (inl none)))) = absurd (false_true (sym (ap is_some none) ∙ led (subst (λ w. is_member w ≡ true) (sym sits) refl)))
        by_paid r first (inr (inr (inr (inr sent)))) = member_sends s.session (oldest_waiting n before before) r.number (inr (sent_so r first sent))

        by_oldest : (o : Option Request) → oldest y.requests ≡ o → requests n (Some s.session) (oldest_waiting n after after) (oldest_waiting n before before) entries ≡ true
        by_oldest None none = by_none none
        by_oldest (Some r) first =
            subst (λ o. requests n (Some s.session) o (oldest_waiting n before before) entries ≡ true)
            (sym (oldest_is n y.requests.asked y.requests.waiting after r law_after owed queue first (first_fits y.requests.waiting r first queue.fit told).0)) (by_paid r first paid)
