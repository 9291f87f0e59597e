-- Lines in which a president answers no other node leave what it knows of their requests.
use Rattle.std.specs.Prelude.{ℕ, ◌≡◌, ◌≢◌, ◌≤◌, ◌==◌, nat_le, Bool, true, false, if◌then◌else◌, List, [], ◌∷◌, length, Option, Some, option_map}
use Rattle.std.specs.List.{AllByRecursion}
use Rattle.std.proofs.Common.{refl, sym, ap, subst, ◌∙◌, arith, inl, inr}
use Rattle.proposals.specs.declared.arrived.Kept.{Kept}
use Rattle.status_report.specs.declared.command_entry.CommandEntry.TheVariants as command
use Rattle.status_report.specs.declared.entry.Entry.{Entry}
use Rattle.status_report.specs.declared.entry.Entry.TheVariants as entry
use Rattle.status_report.specs.declared.packet_entry.PacketEntry.TheVariants as packet
use Rattle.wire.proofs.Messages.{whole_again}
use Rattle.wire.specs.Spelling.{spelling}
use Rattle.wire.specs.declared.message.Body.{Body}
use Rattle.wire.specs.declared.message.Body.TheVariants as body
use Rattle.wire.specs.declared.message.Message.{Message}
use Rattle.history.specs.Letters.{Letter, arrived, letter_of, says}
use Rattle.history.specs.Moment.{Moment, Part, Said, Told}
use Rattle.history.specs.Names as name
use Rattle.history.specs.Names.{named}
use Rattle.history.specs.Requests.{is_answer, requests_of}
use Rattle.history.specs.Setting.{Setting, coordinator}
use Rattle.node_model.specs.declared.cluster.Cluster.{Cluster}
use Rattle.node_model.specs.declared.output.Output.{Output}
use Rattle.node_model.specs.declared.output.Output.TheVariants.{Sends, Tells}
use Rattle.refinement.proofs.node_widths.Lengths.{sent_messages_fit}
use Rattle.refinement.specs.Widths.{LetterFits}
use Rattle.world_model.specs.Sends.{name_of}
use Rattle.run_history.specs.Scenes.{Scene, passing}
use Rattle.run_messages.specs.Outputs.{AreGood, NoPacket}
use Rattle.run_commands.proofs.carried.Lines.{AreApart, IsApart}
use Rattle.run_commands.proofs.acknowledged.Granting.{granted_stays}
use Rattle.run_commands.proofs.acknowledged.Carrying.{IsOutside}
use Rattle.run_commands.specs.acknowledged.AnsweringGuards.{Due, IsNoAnswer}
use Rattle.run_commands.proofs.acknowledged.Remote.{IsOpenTo, WaitAll}
use Rattle.run_commands.specs.acknowledged.Requested.{HasRequested, WasSent}
use Rattle.run_commands.proofs.acknowledged.Settled.{AnswersAreSettled, IsSettled}
use Rattle.run_commands.proofs.acknowledged.Fresh.{NotTo, line_none, line_waits}
use Rattle.run_commands.proofs.acknowledged.Passing.{IsShort, StaysWith, dropped_line, passing_stays, sent_line}

-- ---- a message that is no Answer

pub answers_not : (b : Body) → IsNoAnswer b → is_answer (named (name_of b)) ≡ false
answers_not (body.Heartbeat promised session is_member) h = refl
answers_not (body.Collect epoch members) h = refl
answers_not (body.Promise epoch newest members valid flagged committed pending) h = refl
answers_not (body.Nack epoch promised) h = refl
answers_not (body.SeizeQuorum epoch members d) h = refl
answers_not (body.SeizeData epoch members d) h = refl
answers_not (body.Seized epoch d outcome) h = refl
answers_not (body.Install install) h = refl
answers_not (body.Ready epoch joined report) h = refl
answers_not (body.Start epoch) h = refl
answers_not (body.Prepare epoch place text) h = refl
answers_not (body.Prepared epoch place) h = refl
answers_not (body.Commit epoch place) h = refl
answers_not (body.Order order) h = refl
answers_not (body.Done epoch number outcome) h = refl
answers_not (body.Request epoch number text) h = refl
answers_not (body.Answer epoch number text) h = absurd h
answers_not (body.Excluded epoch newest) h = refl

true_false : true ≡ false → ⊥
true_false e = cc

pub named_not : (b : Body) (q : ℕ) → IsNoAnswer b → named (name_of b) ≡ name.Answer q → ⊥
named_not b q h is = true_false (sym (ap is_answer is) ∙ answers_not b h)

-- what it says is read again
size : (k : ℕ) → nat_le k 131072 ≡ true → k ≤ 131072
size k e = grind arith

pub says_it : (n : ℕ) (b : Body) → LetterFits (record { from = n; body = b }) → IsShort n b → says (spelling (record { sender = n; body = b })) ≡ Some b
says_it n b fits short =
    let m : Message = record { sender = n; body = b } in
    ap (λ (o : Option Message). option_map (λ (z : Message). z.body) o) (whole_again m (sent_messages_fit m fits.0 fits.1 (size (length (spelling m)) short)))

-- ---- letters

pub sent_more : (l : Letter) (x : Moment) (ms : List Moment) → WasSent l ms → WasSent l (x ∷ ms)
sent_more l (Told (entry.Packet (packet.Sent p n b called bytes))) ms h = inr h
sent_more l _ ms h = h

pub requested_more : (n q e : ℕ) (text : List ℕ) (x : Moment) (ms : List Moment) → HasRequested n q e text ms → HasRequested n q e text (x ∷ ms)
requested_more n q e text x ms h = record { letter = h.letter; sent_so = sent_more h.letter x ms h.sent_so; from = h.from; says_so = h.says_so }

pub settled_more : (S : Setting) (c : Cluster) (e n q : ℕ) (x : Moment) (ms : List Moment) → IsSettled S c e n q ms → IsSettled S c e n q (x ∷ ms)
settled_more S c e n q x ms (inl h) = inl (granted_stays S n q e x ms h)
settled_more S c e n q x ms (inr h) = inr (h.0, requested_more n q e h.0 x ms h.1, h.2)

-- ---- what such lines leave

-- an Answer of node k
abbrev pub NotFrom : ℕ → Moment → Type 0
NotFrom k (Told (entry.Packet (packet.Sent p c m called bytes))) = c ≡ k → (q : ℕ) → named called ≡ name.Answer q → ⊥
NotFrom k _ = Unit {0}

pub record Quiet (S : Setting) (c : Cluster) (k : ℕ) (before after : List Moment) : Type 0 where
  pub requested : (n q e : ℕ) (text : List ℕ) → HasRequested n q e text before → HasRequested n q e text after
  pub settled : (e n q : ℕ) → IsSettled S c e n q before → IsSettled S c e n q after
  pub waits : (d : Due) (answers : List (Option Kept)) (e : ℕ) → coordinator e ≡ k → WaitAll (IsOpenTo k d answers) (requests_of S e before) → WaitAll (IsOpenTo k d answers) (requests_of S e after)

pub quiet_same : (S : Setting) (c : Cluster) (k : ℕ) (ms : List Moment) → Quiet S c k ms ms
quiet_same S c k ms = record { requested = λ n q e text h. h; settled = λ e n q h. h; waits = λ d answers e own h. h }

not_to : (k e : ℕ) (d : Due) (answers : List (Option Kept)) (x : Moment) → coordinator e ≡ k → NotFrom k x → NotTo (IsOpenTo k d answers) e x
not_to k e d answers (Told (entry.Command (command.Answered m p reply))) own never = λ at f. f.other (at ∙ own)
not_to k e d answers (Told (entry.Packet (packet.Sent j m to called bytes))) own never = λ at p is f. never (at ∙ own) p is
not_to k e d answers _ own never = tt

pub quiet_more : (S : Setting) (c : Cluster) (k : ℕ) (before : List Moment) (x : Moment) (ms : List Moment) → NotFrom k x → Quiet S c k before ms → Quiet S c k before (x ∷ ms)
quiet_more S c k before x ms never h = record {
  requested = λ n q e text is. requested_more n q e text x ms (h.requested n q e text is);
  settled = λ e n q is. settled_more S c e n q x ms (h.settled e n q is);
  waits = λ d answers e own is. line_waits S (IsOpenTo k d answers) e x ms (not_to k e d answers x own never) (h.waits d answers e own is);
}

told_not : (k : ℕ) (e : Entry) → NoPacket e → NotFrom k (Told e)
told_not k (entry.Packet e) h = absurd h
told_not k _ h = tt

-- lines of node n, of which none is an Answer of node k
abbrev pub IsQuietOutput : ℕ → ℕ → Output → Type 0
IsQuietOutput k n (Tells e) = NoPacket e
IsQuietOutput k n (Sends to b) = n ≡ k → IsNoAnswer b

quiet_stays : (S : Setting) (c : Cluster) (k n : ℕ) (before : List Moment) → StaysWith (IsQuietOutput k n) n (Quiet S c k before)
quiet_stays S c k n before = record {
  tells = λ e ms good h. quiet_more S c k before (Told e) ms (told_not k e good) h;
  sends = λ p to b ms good short h. quiet_more S c k before (sent_line p n to b) ms (λ at q is. named_not b q (good at) is) h;
  drops = λ p why ms h. quiet_more S c k before (dropped_line p why) ms tt h;
}

abbrev pub NoAnswerOutput : Output → Type 0
NoAnswerOutput (Tells e) = Unit {0}
NoAnswerOutput (Sends to b) = IsNoAnswer b

abbrev pub NoAnswers : List Output → Type 0
NoAnswers os = AllByRecursion NoAnswerOutput os

-- its own, with no Answer
own_quiet : (k n : ℕ) (os : List Output) → AreGood n os → NoAnswers os → AllByRecursion (IsQuietOutput k n) os
own_quiet k n [] good never = tt
own_quiet k n (Tells e ∷ os) good never = (good.0, own_quiet k n os good.1 never.1)
own_quiet k n (Sends to b ∷ os) good never = (λ at. never.0, own_quiet k n os good.1 never.1)

-- those of another node
others_quiet : (k n : ℕ) (os : List Output) → k ≢ n → AreGood n os → AllByRecursion (IsQuietOutput k n) os
others_quiet k n [] ne good = tt
others_quiet k n (Tells e ∷ os) ne good = (good.0, others_quiet k n os ne good.1)
others_quiet k n (Sends to b ∷ os) ne good = (λ at. absurd (ne (sym at)), others_quiet k n os ne good.1)

pub passing_quiet : (S : Setting) (c : Cluster) (k n : ℕ) (os : List Output) (s : Scene) → AreGood n os → NoAnswers os → Quiet S c k s.moments (passing n os s).moments
passing_quiet S c k n os s good never = passing_stays (IsQuietOutput k n) n (Quiet S c k s.moments) os s (quiet_stays S c k n s.moments) (own_quiet k n os good never) (quiet_same S c k s.moments)

pub other_quiet : (S : Setting) (c : Cluster) (k n : ℕ) (os : List Output) (s : Scene) → k ≢ n → AreGood n os → Quiet S c k s.moments (passing n os s).moments
other_quiet S c k n os s ne good = passing_stays (IsQuietOutput k n) n (Quiet S c k s.moments) os s (quiet_stays S c k n s.moments) (others_quiet k n os ne good) (quiet_same S c k s.moments)

outside_not : (k : ℕ) (x : Moment) → IsOutside x → NotFrom k x
outside_not k (Told (entry.Packet (packet.Sent p n b called bytes))) out = absurd out
outside_not k _ out = tt

pub outside_quiet : (S : Setting) (c : Cluster) (k : ℕ) (x : Moment) (ms : List Moment) → IsOutside x → Quiet S c k ms (x ∷ ms)
outside_quiet S c k x ms out = quiet_more S c k ms x ms (outside_not k x out) (quiet_same S c k ms)

-- ---- none has come

abbrev pub IsApartLine : ℕ → Output → Type 0
IsApartLine k (Tells e) = IsApart k e
IsApartLine k (Sends to b) = Unit {0}

apart_none : (S : Setting) (k e : ℕ) (x : Entry) (ms : List Moment) → coordinator e ≡ k → IsApart k x → requests_of S e ms ≡ [] → requests_of S e (Told x ∷ ms) ≡ []
apart_none S k e (entry.Command (command.Asked m q)) ms own ne h = line_none S e (Told (entry.Command (command.Asked m q))) ms (λ at member. ne (at ∙ own)) h
apart_none S k e (entry.Command (command.Answered m q reply)) ms own ne h = line_none S e (Told (entry.Command (command.Answered m q reply))) ms tt h
apart_none S k e (entry.Packet x) ms own ne h = absurd ne
apart_none S k e _ ms own ne h = h

pub passing_none : (S : Setting) (k n e : ℕ) (os : List Output) (s : Scene) → coordinator e ≡ k → AreApart k os → requests_of S e s.moments ≡ [] → requests_of S e (passing n os s).moments ≡ []
passing_none S k n e os s own apart h =
    passing_stays (IsApartLine k) n (λ ms. requests_of S e ms ≡ []) os s (record {
      tells = λ x ms ne is. apart_none S k e x ms own ne is;
      sends = λ p to b ms ne short is. line_none S e (sent_line p n to b) ms tt is;
      drops = λ p why ms is. is;
    }) (lines_apart os apart) h
  where
    lines_apart : (zs : List Output) → AreApart k zs → AllByRecursion (IsApartLine k) zs
    lines_apart [] a = tt
    lines_apart (Tells x ∷ zs) a = (a.0, lines_apart zs a.1)
    lines_apart (Sends to b ∷ zs) a = (tt, lines_apart zs a.1)

-- ---- the law

abbrev pub IsPlainSend : ℕ → Output → Type 0
IsPlainSend n (Tells e) = NoPacket e
IsPlainSend n (Sends to b) = IsNoAnswer b × LetterFits (record { from = n; body = b })

plain_sends : (n : ℕ) (os : List Output) → AreGood n os → NoAnswers os → AllByRecursion (IsPlainSend n) os
plain_sends n [] good never = tt
plain_sends n (Tells e ∷ os) good never = (good.0, plain_sends n os good.1 never.1)
plain_sends n (Sends to b ∷ os) good never = ((never.0, good.0), plain_sends n os good.1 never.1)

told_settled : (S : Setting) (c : Cluster) (e : Entry) (ms : List Moment) → NoPacket e → AnswersAreSettled S c ms → AnswersAreSettled S c (Told e ∷ ms)
told_settled S c (entry.Packet e) ms good h = absurd good
told_settled S c _ ms good h = (tt, h)

some_is : (x y : Body) → Some x ≡ Some y → x ≡ y
some_is x y e = cc

no_answer_is : (b : Body) (e q : ℕ) (text : List ℕ) → IsNoAnswer b → b ≡ body.Answer e q text → ⊥
no_answer_is b e q text h is = subst IsNoAnswer is h

pub passing_settled : (S : Setting) (c : Cluster) (n : ℕ) (os : List Output) (s : Scene) → AreGood n os → NoAnswers os → AnswersAreSettled S c s.moments → AnswersAreSettled S c (passing n os s).moments
passing_settled S c n os s good never h =
    passing_stays (IsPlainSend n) n (AnswersAreSettled S c) os s (record {
      tells = λ e ms fine k. told_settled S c e ms fine k;
      sends = λ p to b ms fine short k. (λ e q text ne said ok. absurd (no_answer_is b e q text fine.0 (some_is b (body.Answer e q text) (sym (says_it n b fine.1 short) ∙ said))), k);
      drops = λ p why ms k. (tt, k);
    }) (plain_sends n os good never) h

pub outside_settled : (S : Setting) (c : Cluster) (x : Moment) (ms : List Moment) → IsOutside x → AnswersAreSettled S c ms → AnswersAreSettled S c (x ∷ ms)
outside_settled S c (Told (entry.Packet (packet.Sent p n b called bytes))) ms out h = absurd out
outside_settled S c _ ms out h = (tt, h)

-- ---- the letter that has come was sent

letter_sent : (l : Letter) (p : ℕ) (ms : List Moment) → letter_of p ms ≡ Some l → WasSent l ms
letter_sent l p [] e = cc
letter_sent l p (Told (entry.Packet (packet.Sent q a b called bytes)) ∷ ms) e = by (λ is. letter_sent l p ms is) (q == p) e
  where
    found : Letter
    found = record { from = a; to = b; name = named called; bytes = bytes; before = ms }

    same_letter : (x y : Letter) → Some x ≡ Some y → y ≡ x
    same_letter x y z = cc

    by : (letter_of p ms ≡ Some l → WasSent l ms) → (t : Bool) → (if t then Some found else letter_of p ms) ≡ Some l → WasSent l (Told (entry.Packet (packet.Sent q a b called bytes)) ∷ ms)
    by rest true is = inl (same_letter found l is)
    by rest false is = inr (rest is)
letter_sent l p (Told (entry.Packet (packet.Repeated q copy)) ∷ ms) e = letter_sent l (if copy == p then q else p) ms e
letter_sent l p (_ ∷ ms) e = letter_sent l p ms e

pub arrived_sent : (l : Letter) (ms : List Moment) → arrived ms ≡ Some l → WasSent l ms
arrived_sent l [] e = cc
arrived_sent l (Said line ∷ ms) e = cc
arrived_sent l (Part event ∷ ms) e = cc
arrived_sent l (Told (entry.Packet (packet.Delivered p a b)) ∷ ms) e = letter_sent l p ms e
arrived_sent l (x ∷ ms) e = sent_more l x ms (arrived_sent l ms e)
