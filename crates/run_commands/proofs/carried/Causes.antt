-- An answer that is told for a cause is the president's, and a member tells it.
use Rattle.std.specs.Prelude.{ℕ, ◌≡◌, ◌==◌, ◌&&◌, nat_le, Bool, true, false, List, [], ◌∷◌, Option, None, Some, IfSome, is_some}
use Rattle.std.proofs.Common.{refl, sym, ap, subst, ◌∙◌, inl, inr}
use Rattle.answer_words.specs.Answers.{answer_in}
use Rattle.cmm_attempt.proofs.Basics.{and_cases, same_number, same_some}
use Rattle.machine_base.specs.Epochs.{coordinator as machine_coordinator}
use Rattle.membership_machine.specs.State.{Memberships}
use Rattle.status_report.specs.declared.command_entry.Answer.{Answer}
use Rattle.status_report.specs.declared.command_entry.Answer.TheVariants as answer
use Rattle.status_report.specs.declared.command_entry.CommandEntry.TheVariants as command
use Rattle.status_report.specs.declared.entry.Entry.TheVariants as entry
use Rattle.wire.specs.declared.message.Body.{Body}
use Rattle.wire.specs.declared.message.Body.TheVariants as body
use Rattle.wire.specs.declared.message.Message.{Message}
use Rattle.history.specs.Contents.{IsPresidents, answer_text}
use Rattle.history.specs.Letters.{Letter, arrived, is_letter, passes, says, text_in}
use Rattle.history.specs.Member.{member_of}
use Rattle.history.specs.Moment.{Moment, Told}
use Rattle.history.specs.Names as name
use Rattle.history.specs.Names.{named, same_name}
use Rattle.history.specs.Order.{Unless}
use Rattle.history.specs.Requests.{are_words, before_asking, same_words}
use Rattle.history.specs.Setting.{Setting, coordinator}
use Rattle.history.specs.Trace.{answered}
use Rattle.node_model.specs.Seats.{is_in, is_member, session_of}
use Rattle.node_model.specs.declared.input.Input.{Input}
use Rattle.node_model.specs.declared.input.Input.TheVariants.{Packet}
use Rattle.node_model.specs.declared.node.UpNode.{UpNode}
use Rattle.node_model.specs.declared.presidency.Presidency.{Presidency}
use Rattle.node_model.specs.declared.seat.Seat.{Seat}
use Rattle.node_model.specs.declared.seat.Seat.TheVariants.{Forming, Member}
use Rattle.refinement.specs.Ties.{PresidentTied}
use Rattle.world_model.specs.Sends.{name_of}
use Rattle.run_history.proofs.Heard.{and_both, is_same}
use Rattle.run_messages.specs.Laws.{membership_in}
use Rattle.run_commands.specs.carried.Guards.{Cause, Command, IsNow}
use Rattle.run_commands.specs.carried.Replies.{IsMembers}
use Rattle.run_commands.specs.carried.Steps.{CarriesSo}
use Rattle.run_commands.proofs.carried.Carried.{mute_line}
use Rattle.run_commands.proofs.carried.Queues.{NowSo, Queued, found_member}

-- the words of an answer are those that it is read from
abbrev pub ReadsAnswers : Setting → Type 0
ReadsAnswers S = (text : List ℕ) (reply : Answer) (t : List ℕ) → answer_in text ≡ Some reply → answer_text S reply ≡ Some t → t ≡ text

-- an Answer is sent by the coordinator of its membership
abbrev pub AnswerOwn : ℕ → Body → Type 0
AnswerOwn from (body.Answer e q text) = from ≡ coordinator e
AnswerOwn from _ = Unit {0}

-- the message that the node takes came in a letter
pub record ArrivedSo (ms : List Moment) (n from : ℕ) (m : Message) : Type 0 where
  pub letter : Letter
  pub here : arrived ms ≡ Some letter
  pub to : letter.to ≡ n
  pub called : letter.name ≡ named (name_of m.body)
  pub says_so : says letter.bytes ≡ Some m.body
  pub own : AnswerOwn letter.from m.body

abbrev pub CameSo : Input → ℕ → List Moment → Type 0
CameSo (Packet from m) n ms = ArrivedSo ms n from m
CameSo _ n ms = Unit {0}

came_letter : (before after : List Moment) (n from : ℕ) (m : Message) → arrived after ≡ arrived before → ArrivedSo before n from m → ArrivedSo after n from m
came_letter before after n from m same h = record { letter = h.letter; here = same ∙ h.here; to = h.to; called = h.called; says_so = h.says_so; own = h.own }

pub came_stays : (i : Input) (n : ℕ) (before after : List Moment) → arrived after ≡ arrived before → CameSo i n before → CameSo i n after
came_stays (Packet from m) n before after same h = came_letter before after n from m same h
came_stays _ n before after same h = tt

-- ---- a president

pub record PresidentAt (x : UpNode) (n : ℕ) : Type 0 where
  pub epoch : ℕ
  pub member : membership_in x.seat ≡ Some epoch
  pub own : coordinator epoch ≡ n
  pub session : session_of x ≡ epoch

pub president_at : (M : Memberships) (n : ℕ) (x : UpNode) → PresidentTied M n x.presidency x.seat → is_some x.presidency ≡ true → PresidentAt x n
unfolding machine_coordinator
president_at M n x tied so = by_presidency x.presidency x.seat refl tied so
  where
    by_presidency : (p : Option Presidency) (seat : Seat) → x.seat ≡ seat → PresidentTied M n p seat → is_some p ≡ true → PresidentAt x n
    by_presidency None seat at h some = cc
    by_presidency (Some p) (Forming s) at h some = absurd h
    by_presidency (Some p) (Member s) at h some = record {
      epoch = s.session;
      member = ap membership_in at;
      own = h.own;
      session = ap (λ (z : Seat). session_of (record x { seat = z })) at;
    }

unless_so : (b : Bool) (P : Type 0) → P → Unless b P
unless_so true P h = tt
unless_so false P h = h

unless_true : (b : Bool) (P : Type 0) → b ≡ true → Unless b P
unless_true true P h = tt
unless_true false P h = cc

-- in a membership that the node coordinates every answer is its own
own_members : (ms : List Moment) (n q e : ℕ) (reply : Answer) → member_of n ms ≡ Some e → member_of n (before_asking n q ms) ≡ Some e → coordinator e ≡ n → IsMembers ms (answered n q reply)
own_members ms n q e answer.Ok here at own = record { epoch = e; member = here; asked_so = at; told = inl own }
own_members ms n q e _ here at own = tt

own_line : (S : Setting) (ms : List Moment) (n q e : ℕ) (reply : Answer) → member_of n ms ≡ Some e → member_of n (before_asking n q ms) ≡ Some e → coordinator e ≡ n
    → CarriesSo S ms (Told (entry.Command (command.Answered n q reply)))
own_line S ms n q e reply here at own = (by_text (answer_text S reply), own_members ms n q e reply here at own)
  where
    by_text : (o : Option (List ℕ)) → IfSome o (λ t. IsPresidents (member_of n (before_asking n q ms)) n q t ms)
    by_text None = tt
    by_text (Some t) =
        subst (λ (m : Option ℕ). IsPresidents m n q t ms) (sym at) (unless_true (coordinator e == n) _ (ap (λ k. k == n) own ∙ is_same n))

-- ---- the president's answer

words_same : (t : List ℕ) → same_words t t ≡ true
words_same [] = refl
words_same (x ∷ xs) = and_both (x == x) (same_words xs xs) (is_same x) (words_same xs)

letter_so : (l : Letter) (q e n ep : ℕ) (t text : List ℕ) → l.name ≡ name.Answer q → l.from ≡ e → l.to ≡ n → says l.bytes ≡ Some (body.Answer ep q text) → t ≡ text
    → (is_letter (name.Answer q) e n l && are_words t (text_in (says l.bytes))) ≡ true
letter_so l q e n ep t text called from to said same =
    and_both (is_letter (name.Answer q) e n l) (are_words t (text_in (says l.bytes)))
    (and_both (same_name l.name (name.Answer q) && (l.from == e)) (l.to == n)
    (and_both (same_name l.name (name.Answer q)) (l.from == e) (ap (λ z. same_name z (name.Answer q)) called ∙ is_same q) (ap (λ k. k == e) from ∙ is_same e))
    (ap (λ k. k == n) to ∙ is_same n))
    (ap (λ z. are_words t (text_in z)) said ∙ (ap (λ z. same_words t z) (sym same) ∙ words_same t))

session_in : (x : UpNode) (e : ℕ) → (is_member x.seat && is_in x e) ≡ true → membership_in x.seat ≡ Some e
session_in x e h =
    let two : (is_member x.seat ≡ true) × (is_in x e ≡ true) = and_cases _ _ h in
    by_seat x.seat refl two.0 ∙ ap (λ k. Some k) (same_number (session_of x) e (and_cases (nat_le 1 e) (session_of x == e) two.1).1)
  where
    by_seat : (seat : Seat) → x.seat ≡ seat → is_member seat ≡ true → membership_in seat ≡ Some (session_of x)
    by_seat (Forming s) at so = cc
    by_seat (Member s) at so = ap (λ k. Some k) (sym (ap (λ (z : Seat). session_of (record x { seat = z })) at))

repeated_members : (ms : List Moment) (n q e : ℕ) (reply : Answer) (l : Letter) (text : List ℕ) → member_of n ms ≡ Some e → member_of n (before_asking n q ms) ≡ Some e → arrived ms ≡ Some l → l.to ≡ n
    → l.from ≡ coordinator e → says l.bytes ≡ Some (body.Answer e q text) → answer_in text ≡ Some reply → IsMembers ms (answered n q reply)
repeated_members ms n q e answer.Ok l text here at came to from said reads =
    record { epoch = e; member = here; asked_so = at; told = inr (record { letter = l; came = came; to = to; from = from; text = text; says_so = said; ok = reads }) }
repeated_members ms n q e _ l text here at came to from said reads = tt

repeated_so : (S : Setting) (ms : List Moment) (n q : ℕ) (reply : Answer) (from : ℕ) (m : Message) (e : ℕ) (text : List ℕ) → ReadsAnswers S → m.body ≡ body.Answer e q text → answer_in text ≡ Some reply
    → member_of n ms ≡ Some e → member_of n (before_asking n q ms) ≡ Some e → ArrivedSo ms n from m → CarriesSo S ms (Told (entry.Command (command.Answered n q reply)))
repeated_so S ms n q reply from m e text exact is reads here at came =
    (by_text (answer_text S reply) refl, repeated_members ms n q e reply came.letter text here at came.here came.to (own m.body is came.own) (came.says_so ∙ ap (λ z. Some z) is) reads)
  where
    own : (z : Body) → z ≡ body.Answer e q text → AnswerOwn came.letter.from z → came.letter.from ≡ coordinator e
    own z same h = subst (λ y. AnswerOwn came.letter.from y) same h

    by_text : (o : Option (List ℕ)) → answer_text S reply ≡ o → IfSome o (λ t. IsPresidents (member_of n (before_asking n q ms)) n q t ms)
    by_text None so = tt
    by_text (Some t) so =
        subst (λ (k : Option ℕ). IsPresidents k n q t ms) (sym at)
        (unless_so (coordinator e == n) _
        (ap (λ (o : Option Letter). passes (λ l. is_letter (name.Answer q) (coordinator e) n l && are_words t (text_in (says l.bytes))) o) came.here
        ∙ letter_so came.letter q (coordinator e) n e t text (came.called ∙ ap (λ z. named (name_of z)) is) (own m.body is came.own) came.to
        (came.says_so ∙ ap (λ z. Some z) is) (exact text reply t reads so)))

same_packet : (from other : ℕ) (m k : Message) → Packet from m ≡ Packet other k → m ≡ k
same_packet from other m k e = cc

-- ---- each cause

pub cause_fine : (S : Setting) (ms : List Moment) (n q : ℕ) (i : Input) (o : Option Command) (h : Option ℕ) (x : UpNode) (reply : Answer) → ReadsAnswers S
    → (is_some x.presidency ≡ true → PresidentAt x n) → member_of n ms ≡ membership_in x.seat → Queued S n ms (membership_in x.seat) x.requests → IfSome o (NowSo S n ms x.requests.asked)
    → IfSome h (λ k. member_of n (before_asking n k ms) ≡ membership_in x.seat) → CameSo i n ms → Cause i o h x q reply
    → CarriesSo S ms (Told (entry.Command (command.Answered n q reply)))
cause_fine S ms n q i o h x reply exact president seated queued now hand came (inl silent) = mute_line S ms n q reply silent
cause_fine S ms n q i o h x reply exact president seated queued now hand came (inr (inl (pr, inl found))) =
    let p : PresidentAt x n = president pr in
    own_line S ms n q p.epoch reply (seated ∙ p.member) (found_member S n ms (membership_in x.seat) x q queued found ∙ p.member) p.own
cause_fine S ms n q i None h x reply exact president seated queued now hand came (inr (inl (pr, inr (inl here)))) = absurd (none_now here)
  where
    none_now : IsNow None x q → ⊥
    none_now z = by z.command z.is
      where
        by : (k : Command) → None ≡ Some k → ⊥
        by k e = cc
cause_fine S ms n q i (Some k) h x reply exact president seated queued now hand came (inr (inl (pr, inr (inl here)))) =
    let p : PresidentAt x n = president pr in
    let same : k ≡ here.command = same_some k here.command here.is in
    let number : k.number ≡ q = ap (λ (z : Command). z.number) same ∙ here.number in
    own_line S ms n q p.epoch reply (seated ∙ p.member)
    (subst (λ j. member_of n (before_asking n j ms) ≡ membership_in x.seat) number (now.member ∙ (ap (λ (z : Command). z.session) same ∙ here.session)) ∙ p.member) p.own
cause_fine S ms n q i o None x reply exact president seated queued now hand came (inr (inl (pr, inr (inr at)))) = cc
cause_fine S ms n q i o (Some k) x reply exact president seated queued now hand came (inr (inl (pr, inr (inr at)))) =
    let p : PresidentAt x n = president pr in
    own_line S ms n q p.epoch reply (seated ∙ p.member) (subst (λ j. member_of n (before_asking n j ms) ≡ membership_in x.seat) (same_some k q at) hand ∙ p.member) p.own
cause_fine S ms n q i o h x reply exact president seated queued now hand came (inr (inr r)) =
    repeated_so S ms n q reply r.from r.message r.epoch r.text exact r.says r.reads (seated ∙ session_in x r.epoch r.here)
    (found_member S n ms (membership_in x.seat) x q queued r.waits ∙ session_in x r.epoch r.here) (subst (λ z. CameSo z n ms) r.input came)
