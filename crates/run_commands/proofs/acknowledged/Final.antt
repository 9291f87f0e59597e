-- `ok` to an update stands behind its acknowledgement, from what is known of each line.
use Rattle.std.specs.Prelude.{ℕ, ◌≡◌, ◌≢◌, ◌⊎◌, ◌==◌, Bool, true, false, List, [], ◌∷◌, Option, None, Some, is_some}
use Rattle.std.proofs.Common.{refl, sym, ap, subst, ◌∙◌, arith, inl, inr}
use Rattle.status_report.specs.declared.command_entry.Answer.TheVariants as answer
use Rattle.status_report.specs.declared.command_entry.CommandEntry.TheVariants as command
use Rattle.status_report.specs.declared.entry.Entry.TheVariants as entry
use Rattle.history.specs.Commands.{AnswersOnce}
use Rattle.history.specs.Contents.{CarriedUpdates, Spelled}
use Rattle.history.specs.Member.{member_of}
use Rattle.history.specs.Moment.{Moment, Told}
use Rattle.history.specs.Order.{Always}
use Rattle.history.specs.Requests.{AnsweredAfterAck, IsAnswered, before_asking, command_before, is_acked}
use Rattle.history.specs.Setting.{Setting, coordinator}
use Rattle.history.specs.Trace.{answered}
use Rattle.node_model.specs.declared.cluster.Cluster.{Cluster}
use Rattle.run_commands.specs.acknowledged.Askings.{AskedOnce, IsFirst}
use Rattle.run_commands.proofs.acknowledged.Askings.{is_equal, split_if}
use Rattle.run_commands.proofs.acknowledged.Granting.{granted, granted_stays, own_grants}
use Rattle.run_commands.specs.acknowledged.Followed.{AreFollowed}
use Rattle.run_commands.specs.acknowledged.Requested.{HasRequested, IsAskedFirst, IsPlain, IsToAnother}
use Rattle.run_commands.proofs.acknowledged.Settled.{AnswersAreMembers, AnswersAreSettled, IsOfMember, IsRepeated, IsSettled, OwnAreSettled}
use Rattle.run_commands.proofs.acknowledged.AnsweringWaiting.{Back, Open, back_always, back_asking, back_command, back_earlier, back_worded, open_of}
use Rattle.run_commands.proofs.acknowledged.Presidents.{none_before, own_open}
use Rattle.run_commands.proofs.acknowledged.Readings.{IsUpdate, UpdatesAreRead}
use Rattle.run_commands.proofs.acknowledged.Requesting.{asked_first, since_asking}
use Rattle.run_commands.proofs.acknowledged.Settling.{arrived_settled}

-- what is known of the lines
pub record Known (S : Setting) (c : Cluster) (ms : List Moment) : Type 0 where
  pub once : AskedOnce ms
  pub followed : AreFollowed S ms
  pub spelled : Spelled ms
  pub carried : CarriedUpdates S ms
  pub waits : AnswersOnce ms
  pub members : AnswersAreMembers ms
  pub settled : AnswersAreSettled S c ms
  pub own : OwnAreSettled S ms
  pub apart : Always IsToAnother ms

known_before : (S : Setting) (c : Cluster) (x : Moment) (ms : List Moment) → Known S c (x ∷ ms) → Known S c ms
known_before S c x ms k = record {
  once = k.once.1;
  followed = k.followed.1;
  spelled = k.spelled.1;
  carried = k.carried.1;
  waits = k.waits.1;
  members = k.members.1;
  settled = k.settled.1;
  own = k.own.1;
  apart = k.apart.1;
}

-- ---- one answer

-- a command that is answered `ok`: behind which moments it was asked, as a member of e, with which words
record Answering (S : Setting) (n q e : ℕ) (words : List ℕ) (before : List Moment) : Type 0 where
  first : List Moment
  back : Back n q first before
  seated : member_of n first ≡ Some e
  asks : command_before S first ≡ Some words

-- the Answer of the president came
repeated_grants : (S : Setting) (c : Cluster) (n q e : ℕ) (words : List ℕ) (ms : List Moment) → UpdatesAreRead c S → Known S c ms → Answering S n q e words ms → S.is_update words ≡ true → coordinator e ≢ n
    → IsRepeated n q e ms → granted S e n q ms ≡ true
repeated_grants S c n q e words ms reads k a update other r = by (arrived_settled S c e n q r.letter ms k.settled r.came (record { to = r.to; other = λ is. other (sym r.from ∙ is); text = r.text; says_so = r.says_so; ok = r.ok }))
  where
    none_first : (text : List ℕ) → HasRequested n q e text a.first → ⊥
    none_first text sent = back_always IsAskedFirst n q a.first ms (asked_first ms k.once) a.back e text a.seated sent

    plain_no : (text : List ℕ) → HasRequested n q e text ms → IsPlain c text → ⊥
    plain_no text h plain =
        let same : text ≡ words =
        since_asking S n q e a.first text words h.letter ms a.back k.carried k.spelled (λ sent. none_first text (record { letter = h.letter; sent_so = sent; from = h.from; says_so = h.says_so })) h.from h.says_so a.asks h.sent_so in
        let is : IsUpdate c words = reads words update in
        subst (IsPlain c) same plain is.update is.read

    by : IsSettled S c e n q ms → granted S e n q ms ≡ true
    by (inl g) = g
    by (inr h) = absurd (plain_no h.0 h.1 h.2)

-- the president answers its own command
own_granted : (S : Setting) (c : Cluster) (n q e : ℕ) (words : List ℕ) (ms : List Moment) → Known S c (answered n q answer.Ok ∷ ms) → Answering S n q e words ms → S.is_update words ≡ true → member_of n ms ≡ Some e
    → coordinator e ≡ n → granted S e n q (answered n q answer.Ok ∷ ms) ≡ true
own_granted S c n q e words ms k a update seated own =
    own_grants S n q e words answer.Ok ms (sym own) (k.own.0 e words seated own (back_command S n q a.first ms a.back ∙ a.asks) update)
    (own_open S n q e words a.first ms own a.seated a.asks
    (none_before S n q e a.first (back_earlier IsFirst n q a.first ms k.once.1 a.back) (back_always IsFirst n q a.first ms k.once.1 a.back e a.seated).0) k.apart.1 a.back)

differ : (a b : ℕ) → (a == b) ≡ false → a ≢ b
differ a b h = grind arith

update_granted : (S : Setting) (c : Cluster) (n q e : ℕ) (words : List ℕ) (ms : List Moment) → UpdatesAreRead c S → Known S c (answered n q answer.Ok ∷ ms) → Answering S n q e words ms → S.is_update words ≡ true
    → member_of n ms ≡ Some e → (coordinator e ≡ n) ⊎ IsRepeated n q e ms → granted S e n q (answered n q answer.Ok ∷ ms) ≡ true
update_granted S c n q e words ms reads k a update seated (inl own) = own_granted S c n q e words ms k a update seated own
update_granted S c n q e words ms reads k a update seated (inr r) = by_test (coordinator e == n) refl
  where
    by_test : (b : Bool) → (coordinator e == n) ≡ b → granted S e n q (answered n q answer.Ok ∷ ms) ≡ true
    by_test true is = own_granted S c n q e words ms k a update seated (is_equal (coordinator e) n is)
    by_test false is =
        granted_stays S n q e (answered n q answer.Ok) ms (repeated_grants S c n q e words ms reads (known_before S c (answered n q answer.Ok) ms k) a update (differ (coordinator e) n is) r)

no_some : {X : Type 0} (o : Option X) → o ≡ None → is_some o ≡ true → ⊥
no_some None is h = cc
no_some (Some x) is h = cc

acked_here : (S : Setting) (c : Cluster) (n q : ℕ) (ms : List Moment) → UpdatesAreRead c S → Known S c (answered n q answer.Ok ∷ ms) → IsOfMember n q ms → Open n q ms
    → is_acked S n q (command_before S (before_asking n q ms)) (member_of n (before_asking n q ms)) (answered n q answer.Ok ∷ ms) ≡ true
acked_here S c n q ms reads k m w =
    let there : before_asking n q ms ≡ w.first = back_asking n q w.first ms w.back in
    let seated : member_of n w.first ≡ Some m.epoch = ap (λ l. member_of n l) (sym there) ∙ m.asked_so in
    let worded : is_some (command_before S w.first) ≡ true = back_worded S n q w.first (answered n q answer.Ok) ms k.followed.0 (λ e. e.2 refl) k.followed.1 w.back in
    subst (λ l. is_acked S n q (command_before S l) (member_of n l) (answered n q answer.Ok ∷ ms) ≡ true) (sym there)
    (subst (λ o. is_acked S n q (command_before S w.first) o (answered n q answer.Ok ∷ ms) ≡ true) (sym seated) (by (command_before S w.first) refl seated worded))
  where
    by : (o : Option (List ℕ)) → command_before S w.first ≡ o → member_of n w.first ≡ Some m.epoch → is_some (command_before S w.first) ≡ true
        → is_acked S n q o (Some m.epoch) (answered n q answer.Ok ∷ ms) ≡ true
    by None is seated worded = absurd (no_some (command_before S w.first) is worded)
    by (Some words) is seated worded =
        split_if (λ b. b ≡ true) (S.is_update words) (granted S m.epoch n q (answered n q answer.Ok ∷ ms)) true
        (λ update. update_granted S c n q m.epoch words ms reads k (record { first = w.first; back = w.back; seated = seated; asks = is }) update m.member m.told) (λ other. refl)

-- ---- each

line_answered : (S : Setting) (c : Cluster) (x : Moment) (ms : List Moment) → UpdatesAreRead c S → Known S c (x ∷ ms) → IsAnswered S ms x
line_answered S c (Told (entry.Command (command.Answered n q answer.Ok))) ms reads k = acked_here S c n q ms reads k k.members.0 (open_of n q ms k.waits.0.0)
line_answered S c _ ms reads k = tt

pub answered_after : (S : Setting) (c : Cluster) (ms : List Moment) → UpdatesAreRead c S → Known S c ms → AnsweredAfterAck S ms
answered_after S c [] reads k = tt
answered_after S c (x ∷ ms) reads k = (line_answered S c x ms reads k, answered_after S c ms reads (known_before S c x ms k))
