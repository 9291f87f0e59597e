-- What a node gives keeps it that its Requests were asked for.
use Rattle.std.specs.Prelude.{ℕ, ◌≡◌, ◌≤◌, ◌<◌, ◌==◌, ◌&&◌, nat_le, Bool, true, false, if◌then◌else◌, List, [], ◌∷◌, length, Option, None, Some, Ok, option_map}
use Rattle.std.specs.List.{AllByRecursion}
use Rattle.std.proofs.Common.{refl, sym, ap, subst, ◌∙◌, arith}
use Rattle.admin_words.specs.Commands.{request_of}
use Rattle.admin_words.specs.declared.request.Request.TheVariants as wish
use Rattle.attempt_laws.proofs.Walk.{if_with}
use Rattle.ccr_tables.specs.declared.update.Update.{Update}
use Rattle.cl_base.specs.declared.packet.DropCause.{DropCause}
use Rattle.cmm_attempt.proofs.Basics.{and_cases, same_some}
use Rattle.interconnect.specs.Links as links
use Rattle.interconnect.specs.Links.{sending}
use Rattle.status_report.specs.declared.command_entry.CommandEntry.TheVariants as command
use Rattle.status_report.specs.declared.entry.Entry.{Entry}
use Rattle.status_report.specs.declared.entry.Entry.TheVariants as entry
use Rattle.status_report.specs.declared.node_entry.NodeEntry.TheVariants as note
use Rattle.status_report.specs.declared.packet_entry.PacketEntry.TheVariants as packet
use Rattle.status_report.specs.declared.update_entry.UpdateEntry.TheVariants as update
use Rattle.update_words.specs.Words.{words_of}
use Rattle.wire.proofs.Messages.{whole_again}
use Rattle.wire.specs.Spelling.{Fits, spelling}
use Rattle.wire.specs.declared.message.Body.{Body}
use Rattle.wire.specs.declared.message.Body.TheVariants as body
use Rattle.wire.specs.declared.message.Message.{Message}
use Rattle.history.specs.Letters.{says}
use Rattle.history.specs.Member.{member_of}
use Rattle.history.specs.Moment.{Moment, Told}
use Rattle.history.specs.Names.{named}
use Rattle.history.specs.Requests.{asked_in, before_asking, command_of}
use Rattle.history.specs.Seizing.{is_number}
use Rattle.history.specs.Setting.{Setting}
use Rattle.node_model.specs.declared.cluster.Cluster.{Cluster}
use Rattle.node_model.specs.declared.output.Output.{Output}
use Rattle.node_model.specs.declared.output.Output.TheVariants.{Sends, Tells}
use Rattle.node_model.specs.Seats.{version_of}
use Rattle.refinement.proofs.node_widths.Lengths.{sent_messages_fit}
use Rattle.refinement.specs.Widths.{LetterFits}
use Rattle.world_model.specs.Sends.{is_sent, name_of}
use Rattle.run_history.specs.Scenes.{Scene, dropped_so, passing, posting, sent_as, telling, with_links}
use Rattle.run_messages.specs.Outputs.{AreGood}
use Rattle.run_commands.proofs.carried.Lines.{SameAsked, passing_ask}
use Rattle.run_commands.proofs.carried.Plain.{ArePlain, IsPlain, plains_apart}
use Rattle.run_commands.specs.acknowledged.Askings.{is_request}
use Rattle.run_commands.specs.acknowledged.Steps.{FrameOf, LetterSo, ToldSo}
use Rattle.run_commands.proofs.acknowledged.Askings.{is_equal}
use Rattle.run_commands.proofs.acknowledged.Frames.{OutMay, passing_may}

-- a Request of an update is of a command of its node; each is of its membership v, with a number up to the last
abbrev pub SaysRequest : Setting → Cluster → ℕ → Option ℕ → ℕ → List Moment → Body → Type 0
SaysRequest S c n v last ms (body.Request e q text) =
    ((u : Update) → request_of (version_of c) text ≡ Ok (wish.Change u) → asked_in S e n q ms ≡ Some (words_of u)) × (v ≡ Some e) × (q ≤ last)
SaysRequest S c n v last ms _ = Unit {0}

abbrev pub OutSays : Setting → Cluster → ℕ → Option ℕ → ℕ → List Moment → Output → Type 0
OutSays S c n v last ms (Tells e) = Unit {0}
OutSays S c n v last ms (Sends to b) = SaysRequest S c n v last ms b

abbrev pub AllSay : Setting → Cluster → ℕ → Option ℕ → ℕ → List Moment → List Output → Type 0
AllSay S c n v last ms os = AllByRecursion (OutSays S c n v last ms) os

-- while what the node asked is the same
asked_same : (S : Setting) (n e q : ℕ) (before after : List Moment) → SameAsked S n before after → asked_in S e n q after ≡ asked_in S e n q before
asked_same S n e q before after f =
    ap (λ ms. if is_number e (member_of n ms) then command_of S n q after else None) (f.asking q)
    ∙ ap (λ o. if is_number e (member_of n (before_asking n q before)) then o else None) (f.command q)

says_stays : (S : Setting) (c : Cluster) (n : ℕ) (v : Option ℕ) (last : ℕ) (before after : List Moment) (b : Body) → SameAsked S n before after → SaysRequest S c n v last before b → SaysRequest S c n v last after b
says_stays S c n v last before after (body.Request e q text) f h = (λ u is. asked_same S n e q before after f ∙ h.0 u is, h.1, h.2)
says_stays S c n v last before after _ f h = tt

out_stays : (S : Setting) (c : Cluster) (n : ℕ) (v : Option ℕ) (last : ℕ) (before after : List Moment) (o : Output) → SameAsked S n before after → OutSays S c n v last before o → OutSays S c n v last after o
out_stays S c n v last before after (Tells e) f h = tt
out_stays S c n v last before after (Sends to b) f h = says_stays S c n v last before after b f h

all_stay : (S : Setting) (c : Cluster) (n : ℕ) (v : Option ℕ) (last : ℕ) (before after : List Moment) (os : List Output) → SameAsked S n before after → AllSay S c n v last before os
    → AllSay S c n v last after os
all_stay S c n v last before after [] f h = tt
all_stay S c n v last before after (o ∷ os) f h = (out_stays S c n v last before after o f h.0, all_stay S c n v last before after os f h.1)

-- ---- one message, one line

letter_so : (S : Setting) (c : Cluster) (n : ℕ) (v : Option ℕ) (last to : ℕ) (b : Body) (ms : List Moment) → Fits (record { sender = n; body = b }) → SaysRequest S c n v last ms b
    → LetterSo S c (record { from = n; to = to; name = named (name_of b); bytes = spelling (record { sender = n; body = b }); before = ms })
letter_so S c n v last to b ms fits so e q text u is read =
    by b so (same_some b (body.Request e q text) (sym (ap (λ (o : Option Message). option_map (λ (m : Message). m.body) o) (whole_again (record { sender = n; body = b }) fits)) ∙ is))
  where
    by : (z : Body) → SaysRequest S c n v last ms z → z ≡ body.Request e q text → asked_in S e n q ms ≡ Some (words_of u)
    by z h same = (subst (λ y. SaysRequest S c n v last ms y) same h).0 u read

size : (k : ℕ) → nat_le k 131072 ≡ true → k ≤ 131072
size k e = grind arith

dropped_told : (S : Setting) (c : Cluster) (o : Option (ℕ × DropCause)) (s : Scene) → ToldSo S c s.moments → ToldSo S c (dropped_so o s).moments
dropped_told S c None s h = h
dropped_told S c (Some drop) s h = record { once = (tt, h.once); letters = (tt, h.letters); asked = (tt, h.asked) }

posting_told : (S : Setting) (c : Cluster) (n : ℕ) (v : Option ℕ) (last to : ℕ) (b : Body) (s : Scene) → LetterFits (record { from = n; body = b }) → SaysRequest S c n v last s.moments b → ToldSo S c s.moments
    → ToldSo S c (posting n to (record { sender = n; body = b }) s).moments
posting_told S c n v last to b s fits so h =
    let m : Message = record { sender = n; body = b } in
    let o : links.Outcome = sending s.links n to (spelling m) in
    if_with (λ (t : Scene). ToldSo S c t.moments) (is_sent s.links m) (is_sent s.links m) (sent_as n to m o s) s refl
    (λ e. dropped_told S c o.sent.dropped (telling (entry.Packet (packet.Sent s.links.next n to (name_of m.body) (spelling m))) (with_links s o.after)) (record {
      once = (tt, h.once);
      letters = (letter_so S c n v last to b s.moments (sent_messages_fit m fits.0 fits.1 (size (length (spelling m)) (and_cases _ _ e).0)) so, h.letters);
      asked = (tt, h.asked);
    }))
    (λ e. h)

pub told_plain : (S : Setting) (c : Cluster) (e : Entry) (ms : List Moment) → IsPlain e → ToldSo S c ms → ToldSo S c (Told e ∷ ms)
told_plain S c (entry.Node m note.Up) ms h k = absurd h
told_plain S c (entry.Command (command.Asked m q)) ms h k = absurd h
told_plain S c (entry.Command (command.Answered m q reply)) ms h k = record { once = (tt, k.once); letters = (tt, k.letters); asked = (tt, k.asked) }
told_plain S c (entry.Update (update.Proposed e v words)) ms h k = absurd h
told_plain S c (entry.Update (update.Acknowledged e v words)) ms h k = record { once = (tt, k.once); letters = (tt, k.letters); asked = (tt, k.asked) }
told_plain S c (entry.Packet e) ms h k = absurd h
told_plain S c _ ms h k = record { once = (tt, k.once); letters = (tt, k.letters); asked = (tt, k.asked) }

-- all that a node gives, where it asks nothing and proposes nothing
pub passing_told : (S : Setting) (c : Cluster) (n : ℕ) (v : Option ℕ) (last : ℕ) (os : List Output) (s : Scene) → AreGood n os → ArePlain os → AllSay S c n v last s.moments os → ToldSo S c s.moments → ToldSo S c (passing n os s).moments
passing_told S c n v last [] s good plain say h = h
passing_told S c n v last (Tells e ∷ os) s good plain say h =
    passing_told S c n v last os (telling e s) good.1 plain.1
    (all_stay S c n v last s.moments (telling e s).moments os (passing_ask S n n (Tells e ∷ []) s (plains_apart n (Tells e ∷ []) (plain.0, tt))).asks say.1) (told_plain S c e s.moments plain.0 h)
passing_told S c n v last (Sends to b ∷ os) s good plain say h =
    passing_told S c n v last os (posting n to (record { sender = n; body = b }) s) good.1 plain.1
    (all_stay S c n v last s.moments (posting n to (record { sender = n; body = b }) s).moments os (passing_ask S n n (Sends to b ∷ []) s (tt, tt)).asks say.1) (posting_told S c n v last to b s good.0 say.0 h)

-- ---- .. and no Request but of its membership, with numbers up to the last

other_number : (r q last : ℕ) → last < q → r ≤ last → (r == q) ≡ false
other_number r q last h low = grind (arith, h, low)

request_free : (v : Option ℕ) (last q e f r : ℕ) → (v ≡ Some e → last < q) → v ≡ Some f → r ≤ last → ((f == e) && (r == q)) ≡ false
request_free v last q e f r free is low = by_test (f == e) refl
  where
    by_test : (t : Bool) → (f == e) ≡ t → (t && (r == q)) ≡ false
    by_test false at = refl
    by_test true at = other_number r q last (free (is ∙ ap (λ k. Some k) (is_equal f e at))) low

body_free : (S : Setting) (c : Cluster) (n : ℕ) (v : Option ℕ) (last : ℕ) (ms : List Moment) (b : Body) (q e : ℕ) → SaysRequest S c n v last ms b → (v ≡ Some e → last < q) → is_request q e (Some b) ≡ false
body_free S c n v last ms (body.Request f r text) q e h free = request_free v last q e f r free h.1 h.2
body_free S c n v last ms _ q e h free = refl

no_right : (a b : Bool) → b ≡ false → (a && b) ≡ false
no_right true b h = h
no_right false b h = refl

says_may : (S : Setting) (c : Cluster) (n : ℕ) (v : Option ℕ) (last to : ℕ) (ms : List Moment) (b : Body) → LetterFits (record { from = n; body = b }) → SaysRequest S c n v last ms b → OutMay n v last n (Sends to b)
says_may S c n v last to ms b fits h low q e free =
    let m : Message = record { sender = n; body = b } in
    let says_so : says (spelling m) ≡ Some b = ap (λ (o : Option Message). option_map (λ (z : Message). z.body) o) (whole_again m (sent_messages_fit m fits.0 fits.1 low)) in
    no_right (n == n) (is_request q e (says (spelling m))) (ap (λ o. is_request q e o) says_so ∙ body_free S c n v last ms b q e h free)

all_may : (S : Setting) (c : Cluster) (n : ℕ) (v : Option ℕ) (last : ℕ) (ms : List Moment) (os : List Output) → AreGood n os → AllSay S c n v last ms os → AllByRecursion (OutMay n v last n) os
all_may S c n v last ms [] good say = tt
all_may S c n v last ms (Tells e ∷ os) good say = (tt, all_may S c n v last ms os good.1 say.1)
all_may S c n v last ms (Sends to b ∷ os) good say = (says_may S c n v last to ms b good.0 say.0, all_may S c n v last ms os good.1 say.1)

pub passing_own : (S : Setting) (c : Cluster) (n : ℕ) (v : Option ℕ) (last : ℕ) (os : List Output) (s : Scene) → AreGood n os → ArePlain os → AllSay S c n v last s.moments os
    → FrameOf S n v last s.moments (passing n os s).moments
passing_own S c n v last os s good plain say = passing_may S n n os s (plains_apart n os plain) (all_may S c n v last s.moments os good say)
