-- What is told and sent keeps it that messages carry the words that they are to carry.
use Rattle.std.specs.Prelude.{ℕ, ◌≡◌, ◌⊎◌, ◌≤◌, ◌==◌, ◌&&◌, nat_le, true, List, [], ◌∷◌, length, Option, None, Some, IfSome, option_map}
use Rattle.std.specs.List.{AllByRecursion}
use Rattle.std.proofs.Common.{refl, sym, ap, subst, ◌∙◌, inl, inr, arith}
use Rattle.attempt_laws.proofs.Walk.{if_with}
use Rattle.cl_base.specs.declared.packet.DropCause.{DropCause}
use Rattle.cmm_attempt.proofs.Basics.{and_cases}
use Rattle.interconnect.specs.Links as links
use Rattle.interconnect.specs.Links.{sending}
use Rattle.status_report.specs.declared.command_entry.Answer.{Answer}
use Rattle.status_report.specs.declared.command_entry.Answer.TheVariants as answer
use Rattle.status_report.specs.declared.command_entry.CommandEntry.TheVariants as command
use Rattle.status_report.specs.declared.entry.Entry.{Entry}
use Rattle.status_report.specs.declared.entry.Entry.TheVariants as entry
use Rattle.status_report.specs.declared.packet_entry.PacketEntry.TheVariants as packet
use Rattle.wire.proofs.Messages.{whole_again}
use Rattle.wire.specs.Spelling.{Fits, spelling}
use Rattle.wire.specs.declared.message.Body.{Body}
use Rattle.wire.specs.declared.message.Body.TheVariants as body
use Rattle.wire.specs.declared.message.Message.{Message}
use Rattle.history.specs.Contents.{CarriedUpdates, CarriesUpdate, IsPresidents, ShowsText, answer_text, proposed_at}
use Rattle.history.specs.Letters.{Letter, arrived, is_letter, passes, says, text_in}
use Rattle.history.specs.Names as name
use Rattle.history.specs.Order.{Unless}
use Rattle.history.specs.Member.{member_of}
use Rattle.history.specs.Moment.{Moment, Told}
use Rattle.history.specs.Names.{named}
use Rattle.history.specs.Requests.{are_words, before_asking, command_of}
use Rattle.history.specs.Setting.{Setting, coordinator}
use Rattle.history.specs.Trace.{answered}
use Rattle.node_model.specs.declared.output.Output.{Output}
use Rattle.node_model.specs.declared.output.Output.TheVariants.{Sends, Tells}
use Rattle.refinement.proofs.node_widths.Lengths.{sent_messages_fit}
use Rattle.refinement.specs.Widths.{LetterFits}
use Rattle.world_model.specs.Sends.{is_sent, name_of}
use Rattle.run_history.specs.Scenes.{Scene, dropped_so, passing, posting, sent_as, telling, with_links}
use Rattle.run_messages.specs.Outputs.{AreGood, AreStill}
use Rattle.run_messages.proofs.Lines.{passing_arrived, passing_still}
use Rattle.run_commands.specs.carried.Guards.{is_silent}
use Rattle.run_commands.specs.carried.Replies.{AnswersAreMembers, IsMembers, IsRepeated}
use Rattle.run_commands.specs.carried.Steps.{CarriedSo, CarriesSo}
use Rattle.run_commands.proofs.carried.Lines.{AreApart, SameAsk, passing_ask}

-- the update of a Prepare is proposed in the membership of its sender; the words of a Request are those of its command
pub record IsProposed (ms : List Moment) (n v : ℕ) (text : List ℕ) : Type 0 where
  pub epoch : ℕ
  pub member : member_of n ms ≡ Some epoch
  pub own : coordinator epoch ≡ n
  pub words : proposed_at (Some epoch) v ms ≡ Some text

abbrev pub SaysWords : Setting → List Moment → ℕ → Body → Type 0
SaysWords S ms n (body.Prepare e v text) = IsProposed ms n v text
SaysWords S ms n (body.Request e q text) = IfSome (command_of S n q ms) (λ words. text ≡ words)
SaysWords S ms n _ = Unit {0}

abbrev pub LineFine : Setting → List Moment → ℕ → Entry → Type 0
LineFine S ms n (entry.Command (command.Answered m q reply)) = (m ≡ n) × CarriesSo S ms (Told (entry.Command (command.Answered n q reply)))
LineFine S ms n (entry.Packet e) = ⊥
LineFine S ms n _ = Unit {0}

abbrev pub OutFine : Setting → List Moment → ℕ → Output → Type 0
OutFine S ms n (Tells e) = LineFine S ms n e
OutFine S ms n (Sends to b) = SaysWords S ms n b

abbrev pub AllFine : Setting → List Moment → ℕ → List Output → Type 0
AllFine S ms n os = AllByRecursion (OutFine S ms n) os

-- ---- they stay so

-- what a node asked, its membership and the event under way are the same
pub record SameView (S : Setting) (n : ℕ) (before after : List Moment) : Type 0 where
  pub ask : SameAsk S n before after
  pub member : member_of n after ≡ member_of n before
  pub here : arrived after ≡ arrived before

words_stay : (S : Setting) (before after : List Moment) (n : ℕ) (b : Body) → SameView S n before after → SaysWords S before n b → SaysWords S after n b
words_stay S before after n (body.Prepare e v text) f h = record {
  epoch = h.epoch;
  member = f.member ∙ h.member;
  own = h.own;
  words = f.ask.proposed h.epoch v h.own ∙ h.words;
}
words_stay S before after n (body.Request e q text) f h = subst (λ (o : Option (List ℕ)). IfSome o (λ words. text ≡ words)) (sym (f.ask.asks.command q)) h
words_stay S before after n _ f h = tt

-- the answer that came in the event
abbrev Came : ℕ → ℕ → ℕ → List ℕ → Option Letter → Type 0
Came e n q text o = Unless (coordinator e == n) (passes (λ l. is_letter (name.Answer q) (coordinator e) n l && are_words text (text_in (says l.bytes))) o ≡ true)

presidents_stay : (before after : List Moment) (n q : ℕ) (text : List ℕ) (o : Option ℕ) → arrived after ≡ arrived before → IsPresidents o n q text before → IsPresidents o n q text after
presidents_stay before after n q text None here h = tt
presidents_stay before after n q text (Some e) here h = subst (Came e n q text) (sym here) h

answer_stays : (S : Setting) (before after : List Moment) (n q : ℕ) (text : Option (List ℕ)) → SameView S n before after
    → IfSome text (λ t. IsPresidents (member_of n (before_asking n q before)) n q t before) → IfSome text (λ t. IsPresidents (member_of n (before_asking n q after)) n q t after)
answer_stays S before after n q None f h = tt
answer_stays S before after n q (Some t) f h =
    subst (λ (ms : List Moment). IsPresidents (member_of n ms) n q t after) (sym (f.ask.asks.asking q)) (presidents_stay before after n q t (member_of n (before_asking n q before)) f.here h)

repeated_stays : (n q e : ℕ) (before after : List Moment) → arrived after ≡ arrived before → IsRepeated n q e before → IsRepeated n q e after
repeated_stays n q e before after here h = record { letter = h.letter; came = here ∙ h.came; to = h.to; from = h.from; text = h.text; says_so = h.says_so; ok = h.ok }

told_stays : (n q e : ℕ) (before after : List Moment) → arrived after ≡ arrived before → (coordinator e ≡ n) ⊎ IsRepeated n q e before → (coordinator e ≡ n) ⊎ IsRepeated n q e after
told_stays n q e before after here (inl own) = inl own
told_stays n q e before after here (inr h) = inr (repeated_stays n q e before after here h)

members_stay : (S : Setting) (before after : List Moment) (n q : ℕ) (reply : Answer) → SameView S n before after → IsMembers before (answered n q reply) → IsMembers after (answered n q reply)
members_stay S before after n q answer.Ok f h = record {
  epoch = h.epoch;
  member = f.member ∙ h.member;
  asked_so = ap (λ ms. member_of n ms) (f.ask.asks.asking q) ∙ h.asked_so;
  told = told_stays n q h.epoch before after f.here h.told;
}
members_stay S before after n q _ f h = tt

line_stays : (S : Setting) (before after : List Moment) (n : ℕ) (e : Entry) → SameView S n before after → LineFine S before n e → LineFine S after n e
line_stays S before after n (entry.Command (command.Answered m q reply)) f h = (h.0, (answer_stays S before after n q (answer_text S reply) f h.1.0, members_stay S before after n q reply f h.1.1))
line_stays S before after n (entry.Command (command.Asked m q)) f h = tt
line_stays S before after n (entry.Packet e) f h = absurd h
line_stays S before after n _ f h = tt

pub fine_stays : (S : Setting) (before after : List Moment) (n : ℕ) (o : Output) → SameView S n before after → OutFine S before n o → OutFine S after n o
fine_stays S before after n (Tells e) f h = line_stays S before after n e f h
fine_stays S before after n (Sends to b) f h = words_stay S before after n b f h

all_stay : (S : Setting) (before after : List Moment) (n : ℕ) (os : List Output) → SameView S n before after → AllFine S before n os → AllFine S after n os
all_stay S before after n [] f h = tt
all_stay S before after n (o ∷ os) f h = (fine_stays S before after n o f h.0, all_stay S before after n os f h.1)

-- ---- one message, one line

shows_words : (S : Setting) (ms : List Moment) (n : ℕ) (b : Body) → Fits (record { sender = n; body = b }) → SaysWords S ms n b
    → ShowsText S ms n (spelling (record { sender = n; body = b })) (named (name_of b))
shows_words S ms n (body.Prepare e v text) fits h =
    ap (λ (o : Option Message). text_in (option_map (λ (m : Message). m.body) o)) (whole_again (record { sender = n; body = body.Prepare e v text }) fits)
    ∙ (sym h.words ∙ ap (λ o. proposed_at o v ms) (sym h.member))
shows_words S ms n (body.Request e q text) fits h =
    subst (λ (o : Option Message). IfSome (command_of S n q ms) (λ words. text_in (option_map (λ (m : Message). m.body) o) ≡ Some words))
    (sym (whole_again (record { sender = n; body = body.Request e q text }) fits)) (its_words (command_of S n q ms) h)
  where
    its_words : (o : Option (List ℕ)) → IfSome o (λ words. text ≡ words) → IfSome o (λ words. Some text ≡ Some words)
    its_words None k = tt
    its_words (Some words) k = ap (λ t. Some t) k
shows_words S ms n (body.Heartbeat promised session one) fits h = tt
shows_words S ms n (body.Collect epoch members) fits h = tt
shows_words S ms n (body.Promise epoch newest members valid flagged committed pending) fits h = tt
shows_words S ms n (body.Nack epoch promised) fits h = tt
shows_words S ms n (body.SeizeQuorum epoch members d) fits h = tt
shows_words S ms n (body.SeizeData epoch members d) fits h = tt
shows_words S ms n (body.Seized epoch d outcome) fits h = tt
shows_words S ms n (body.Install install) fits h = tt
shows_words S ms n (body.Ready epoch joined report) fits h = tt
shows_words S ms n (body.Start epoch) fits h = tt
shows_words S ms n (body.Prepared epoch place) fits h = tt
shows_words S ms n (body.Commit epoch place) fits h = tt
shows_words S ms n (body.Order order) fits h = tt
shows_words S ms n (body.Done epoch number outcome) fits h = tt
shows_words S ms n (body.Answer epoch number text) fits h = tt
shows_words S ms n (body.Excluded epoch newest) fits h = tt

size : (k : ℕ) → nat_le k 131072 ≡ true → k ≤ 131072
size k e = grind arith

dropped_carried : (S : Setting) (o : Option (ℕ × DropCause)) (s : Scene) → CarriedSo S s.moments → CarriedSo S (dropped_so o s).moments
dropped_carried S None s h = h
dropped_carried S (Some drop) s h = (tt, h)

posting_carried : (S : Setting) (n to : ℕ) (b : Body) (s : Scene) → LetterFits (record { from = n; body = b }) → SaysWords S s.moments n b → CarriedSo S s.moments
    → CarriedSo S (posting n to (record { sender = n; body = b }) s).moments
posting_carried S n to b s fits so h =
    let m : Message = record { sender = n; body = b } in
    let o : links.Outcome = sending s.links n to (spelling m) in
    if_with (λ (t : Scene). CarriedSo S t.moments) (is_sent s.links m) (is_sent s.links m) (sent_as n to m o s) s refl
    (λ e. dropped_carried S o.sent.dropped (telling (entry.Packet (packet.Sent s.links.next n to (name_of m.body) (spelling m))) (with_links s o.after))
    (shows_words S s.moments n b (sent_messages_fit m fits.0 fits.1 (size (length (spelling m)) (and_cases _ _ e).0)) so, h))
    (λ e. h)

told_carried : (S : Setting) (n : ℕ) (e : Entry) (ms : List Moment) → LineFine S ms n e → CarriedSo S ms → CarriedSo S (Told e ∷ ms)
told_carried S n (entry.Command (command.Answered m q reply)) ms h all =
    (subst (λ k. CarriesSo S ms (Told (entry.Command (command.Answered k q reply)))) (sym h.0) h.1, all)
told_carried S n (entry.Command (command.Asked m q)) ms h all = (tt, all)
told_carried S n (entry.Packet e) ms h all = absurd h
told_carried S n _ ms h all = (tt, all)

one_view : (S : Setting) (n : ℕ) (o : Output) (s : Scene) → AreGood n (o ∷ []) → AreStill n (o ∷ []) → AreApart n (o ∷ []) → SameView S n s.moments (passing n (o ∷ []) s).moments
one_view S n o s good still apart = record { ask = passing_ask S n n (o ∷ []) s apart; member = passing_still n n (o ∷ []) s still; here = passing_arrived n (o ∷ []) s good }

-- while nothing changes of what the node asked, its membership and the event, all that is fine at first
pub passing_carried : (S : Setting) (n : ℕ) (os : List Output) (s : Scene) → AreGood n os → AreStill n os → AreApart n os → AllFine S s.moments n os → CarriedSo S s.moments
    → CarriedSo S (passing n os s).moments
passing_carried S n [] s good still apart fine h = h
passing_carried S n (Tells e ∷ os) s good still apart fine h =
    let f : SameView S n s.moments (telling e s).moments = one_view S n (Tells e) s (good.0, tt) (still.0, tt) (apart.0, tt) in
    passing_carried S n os (telling e s) good.1 still.1 apart.1 (all_stay S s.moments (telling e s).moments n os f fine.1) (told_carried S n e s.moments fine.0 h)
passing_carried S n (Sends to b ∷ os) s good still apart fine h =
    let t : Scene = posting n to (record { sender = n; body = b }) s in
    let f : SameView S n s.moments t.moments = one_view S n (Sends to b) s (good.0, tt) (still.0, tt) (apart.0, tt) in
    passing_carried S n os t good.1 still.1 apart.1 (all_stay S s.moments t.moments n os f fine.1) (posting_carried S n to b s good.0 fine.0 h)

-- ---- lines that say no more than that it is not known what comes of a command

abbrev pub IsMute : Output → Type 0
IsMute (Tells (entry.Command (command.Answered m q reply))) = is_silent reply ≡ true
IsMute (Tells (entry.Packet e)) = ⊥
IsMute (Tells e) = Unit {0}
IsMute (Sends to b) = ⊥

silent_text : (S : Setting) (reply : Answer) → is_silent reply ≡ true → answer_text S reply ≡ None
silent_text S answer.Ok h = cc
silent_text S (answer.Refused refusal) h = cc
silent_text S _ h = refl

silent_members : (ms : List Moment) (n q : ℕ) (reply : Answer) → is_silent reply ≡ true → IsMembers ms (answered n q reply)
silent_members ms n q answer.Ok h = cc
silent_members ms n q _ h = tt

pub mute_line : (S : Setting) (ms : List Moment) (n q : ℕ) (reply : Answer) → is_silent reply ≡ true → CarriesSo S ms (Told (entry.Command (command.Answered n q reply)))
mute_line S ms n q reply h =
    (subst (λ (o : Option (List ℕ)). IfSome o (λ t. IsPresidents (member_of n (before_asking n q ms)) n q t ms)) (sym (silent_text S reply h)) tt, silent_members ms n q reply h)

mute_told : (S : Setting) (e : Entry) (ms : List Moment) → IsMute (Tells e) → CarriedSo S ms → CarriedSo S (Told e ∷ ms)
mute_told S (entry.Command (command.Answered m q reply)) ms h all = (mute_line S ms m q reply h, all)
mute_told S (entry.Command (command.Asked m q)) ms h all = (tt, all)
mute_told S (entry.Packet e) ms h all = absurd h
mute_told S _ ms h all = (tt, all)

pub passing_mute : (S : Setting) (n : ℕ) (os : List Output) (s : Scene) → AllByRecursion IsMute os → CarriedSo S s.moments → CarriedSo S (passing n os s).moments
passing_mute S n [] s h all = all
passing_mute S n (Tells e ∷ os) s h all = passing_mute S n os (telling e s) h.1 (mute_told S e s.moments h.0 all)
passing_mute S n (Sends to b ∷ os) s h all = absurd h.0

-- ---- what is carried, and who answers

updates_line : (S : Setting) (ms : List Moment) (x : Moment) → CarriesSo S ms x → CarriesUpdate S ms x
updates_line S ms (answered n q reply) h = h.0
updates_line S ms x h = h

replies_line : (S : Setting) (ms : List Moment) (x : Moment) → CarriesSo S ms x → IsMembers ms x
replies_line S ms (answered n q reply) h = h.1
replies_line S ms x h = tt

pub updates_in : (S : Setting) (ms : List Moment) → CarriedSo S ms → CarriedUpdates S ms
updates_in S [] h = tt
updates_in S (x ∷ ms) h = (updates_line S ms x h.0, updates_in S ms h.1)

pub replies_in : (S : Setting) (ms : List Moment) → CarriedSo S ms → AnswersAreMembers ms
replies_in S [] h = tt
replies_in S (x ∷ ms) h = (replies_line S ms x h.0, replies_in S ms h.1)
