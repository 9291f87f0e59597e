-- What is told stays, while a node gives lines and messages.
use Rattle.std.specs.Prelude.{ℕ, ◌≡◌, ◌≤◌, nat_le, true, List, [], ◌∷◌, length, Option, None, Some}
use Rattle.std.specs.List.{AllByRecursion}
use Rattle.std.proofs.Common.{refl, sym, subst, ◌∙◌, arith}
use Rattle.attempt_laws.proofs.Walk.{if_with}
use Rattle.cl_base.specs.declared.packet.DropCause.{DropCause}
use Rattle.cmm_attempt.proofs.Basics.{and_cases, if_either, same_some}
use Rattle.cmm_attempt.specs.Attempts.{AttemptState}
use Rattle.cmm_attempt.specs.declared.promised.Promised.{Promised}
use Rattle.history.specs.Member.{last_installed}
use Rattle.history.specs.Moment.{Moment, Told}
use Rattle.interconnect.specs.Links as links
use Rattle.interconnect.specs.Links.{sending}
use Rattle.node_model.specs.declared.node.Node.{Node}
use Rattle.node_model.specs.declared.node.Node.TheVariants.{Down, Up}
use Rattle.node_model.specs.declared.output.Output.{Output}
use Rattle.node_model.specs.declared.output.Output.TheVariants.{Sends, Tells}
use Rattle.refinement.proofs.node_widths.Lengths.{sent_messages_fit}
use Rattle.refinement.specs.Doings.{Site}
use Rattle.refinement.specs.Ties.{Delivered}
use Rattle.refinement.specs.Widths.{LetterFits}
use Rattle.run_attempts.proofs.Tried.{Grows}
use Rattle.run_history.specs.Scenes.{Scene, dropped_so, passing, posting, sent_as, telling, with_links}
use Rattle.run_messages.specs.Outputs.{AreGood, NoPacket}
use Rattle.status_report.specs.declared.attempt_entry.AttemptEntry.TheVariants as attempt
use Rattle.status_report.specs.declared.entry.Entry.{Entry}
use Rattle.status_report.specs.declared.entry.Entry.TheVariants as entry
use Rattle.status_report.specs.declared.node_entry.NodeEntry.TheVariants as note
use Rattle.status_report.specs.declared.packet_entry.PacketEntry.TheVariants as packet
use Rattle.wire.proofs.Messages.{whole_again}
use Rattle.wire.specs.Reads.{whole_of}
use Rattle.wire.specs.Spelling.{Fits, spelling}
use Rattle.wire.specs.declared.message.Body.{Body}
use Rattle.wire.specs.declared.message.Body.TheVariants as body
use Rattle.wire.specs.declared.message.Message.{Message}
use Rattle.world_model.specs.Sends.{is_sent, name_of}
use Rattle.run_outcomes.specs.exclusions.Sites.{AllJudged, AttemptIn, BodySo, BodyTold, HandSo, IsTold, Judged, NodeIn, PromiseSo, SiteSo}
use Rattle.run_outcomes.proofs.exclusions.Plain.{ArePlain, IsPlainLine, NoPromise}

-- ---- what is told grows

pub told_grows : (before after : List Moment) (n f members : ℕ) → Grows before after → IsTold before n f members → IsTold after n f members
told_grows before after n f members g h = λ some. (g.tried f members (h some).0, (h some).1)

promises_grow : (before after : List Moment) (ps : List Promised) → Grows before after → AllByRecursion (PromiseSo before) ps → AllByRecursion (PromiseSo after) ps
promises_grow before after [] g h = tt
promises_grow before after (p ∷ ps) g h = (told_grows before after p.shown.summary.node p.shown.summary.installed p.shown.summary.members g h.0, promises_grow before after ps g h.1)

pub attempt_grows : (before after : List Moment) (o : Option AttemptState) → Grows before after → AttemptIn before o → AttemptIn after o
attempt_grows before after None g h = tt
attempt_grows before after (Some a) g h = promises_grow before after a.promises g h

pub node_grows : (before after : List Moment) (node : Node) → Grows before after → NodeIn before node → NodeIn after node
node_grows before after Down g h = tt
node_grows before after (Up x) g h = attempt_grows before after x.attempt g h

pub site_grows : (before after : List Moment) (n : ℕ) (x : Site) → Grows before after → last_installed n after ≡ last_installed n before → SiteSo before n x → SiteSo after n x
site_grows before after n x g last h = record {
  last = subst (λ k. k ≤ x.disk.installed) (sym last) h.last;
  disk = told_grows before after n x.disk.installed x.disk.members g h.disk;
  node = node_grows before after x.node g h.node;
}

pub body_grows : (before after : List Moment) (from : ℕ) (b : Body) → Grows before after → BodyTold before from b → BodyTold after from b
body_grows before after from (body.Promise e newest members valid flagged committed pending) g h = told_grows before after from newest members g h
body_grows before after from (body.Install i) g h = g.tried i.epoch i.members h
body_grows before after from _ g h = tt

pub hand_grows : (before after : List Moment) (told : Delivered) → Grows before after → HandSo before told → HandSo after told
hand_grows before after None g h = tt
hand_grows before after (Some d) g h = body_grows before after d.0 d.1.body g h

-- ---- what was installed last

pub last_line : (k : ℕ) (e : Entry) (ms : List Moment) → IsPlainLine e → last_installed k (Told e ∷ ms) ≡ last_installed k ms
last_line k (entry.Node m (note.Installed f)) ms plain = absurd plain
last_line k _ ms plain = refl

dropped_last : (k : ℕ) (o : Option (ℕ × DropCause)) (s : Scene) → last_installed k (dropped_so o s).moments ≡ last_installed k s.moments
dropped_last k None s = refl
dropped_last k (Some drop) s = refl

pub posting_last : (k from to : ℕ) (m : Message) (s : Scene) → last_installed k (posting from to m s).moments ≡ last_installed k s.moments
posting_last k from to m s =
    let o : links.Outcome = sending s.links from to (spelling m) in
    if_either (λ (t : Scene). last_installed k t.moments ≡ last_installed k s.moments) (is_sent s.links m) (sent_as from to m o s) s
    (dropped_last k o.sent.dropped (telling (entry.Packet (packet.Sent s.links.next from to (name_of m.body) (spelling m))) (with_links s o.after))) refl

pub passing_last : (k n : ℕ) (os : List Output) (s : Scene) → ArePlain os → last_installed k (passing n os s).moments ≡ last_installed k s.moments
passing_last k n [] s plain = refl
passing_last k n (Tells e ∷ os) s plain = passing_last k n os (telling e s) plain.1 ∙ last_line k e s.moments plain.0
passing_last k n (Sends to b ∷ os) s plain =
    let m : Message = record { sender = n; body = b } in
    passing_last k n os (posting n to m s) plain.1 ∙ posting_last k n to m s

-- ---- each moment

size : (k : ℕ) → nat_le k 131072 ≡ true → k ≤ 131072
size k e = grind arith

read_so : (ms : List Moment) (n : ℕ) (b : Body) → Fits (record { sender = n; body = b }) → BodySo ms n b → (m : Message) → whole_of (spelling (record { sender = n; body = b })) ≡ Some m → BodySo ms n m.body
read_so ms n b fits so m is = subst (λ (z : Message). BodySo ms n z.body) (same_some _ m (sym (whole_again (record { sender = n; body = b }) fits) ∙ is)) so

pub dropped_judged : (o : Option (ℕ × DropCause)) (s : Scene) → AllJudged s.moments → AllJudged (dropped_so o s).moments
dropped_judged None s h = h
dropped_judged (Some drop) s h = (record { says = tt; excluded = tt; rises = tt }, h)

pub posting_judged : (n to : ℕ) (b : Body) (s : Scene) → LetterFits (record { from = n; body = b }) → BodySo s.moments n b → AllJudged s.moments → AllJudged (posting n to (record { sender = n; body = b }) s).moments
posting_judged n to b s fits so h =
    let m : Message = record { sender = n; body = b } in
    let o : links.Outcome = sending s.links n to (spelling m) in
    if_with (λ (t : Scene). AllJudged t.moments) (is_sent s.links m) (is_sent s.links m) (sent_as n to m o s) s refl
    (λ e. dropped_judged o.sent.dropped (telling (entry.Packet (packet.Sent s.links.next n to (name_of m.body) (spelling m))) (with_links s o.after))
    (record { says = read_so s.moments n b (sent_messages_fit m fits.0 fits.1 (size (length (spelling m)) (and_cases _ _ e).0)) so; excluded = tt; rises = tt }, h))
    (λ e. h)

line_judged : (e : Entry) (ms : List Moment) → NoPacket e → IsPlainLine e → Judged ms (Told e)
line_judged (entry.Packet e) ms good plain = absurd good
line_judged (entry.Attempt (attempt.Excluded e m)) ms good plain = absurd plain
line_judged (entry.Node m (note.Installed f)) ms good plain = absurd plain
line_judged _ ms good plain = record { says = tt; excluded = tt; rises = tt }

no_promise : (ms : List Moment) (n : ℕ) (b : Body) → NoPromise b → BodySo ms n b
no_promise ms n (body.Promise e newest members valid flagged committed pending) h = absurd h
no_promise ms n _ h = tt

pub passing_judged : (n : ℕ) (os : List Output) (s : Scene) → AreGood n os → ArePlain os → AllJudged s.moments → AllJudged (passing n os s).moments
passing_judged n [] s good plain h = h
passing_judged n (Tells e ∷ os) s good plain h = passing_judged n os (telling e s) good.1 plain.1 (line_judged e s.moments good.0 plain.0, h)
passing_judged n (Sends to b ∷ os) s good plain h =
    passing_judged n os (posting n to (record { sender = n; body = b }) s) good.1 plain.1 (posting_judged n to b s good.0 (no_promise s.moments n b plain.0) h)
