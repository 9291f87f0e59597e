-- What a node gives: its orders and its Prepares are sent by a member, in its membership.
use Rattle.std.specs.Prelude.{ℕ, ◌≡◌, ◌≤◌, nat_le, true, List, [], ◌∷◌, length, Option, None, Some}
use Rattle.std.proofs.Common.{refl, sym, subst, ◌∙◌, arith}
use Rattle.std.specs.List.{AllByRecursion}
use Rattle.attempt_laws.proofs.Walk.{if_with}
use Rattle.cl_base.specs.declared.packet.DropCause.{DropCause}
use Rattle.cmm_attempt.proofs.Basics.{and_cases, same_some}
use Rattle.history.specs.Member.{member_of}
use Rattle.history.specs.Moment.{Moment, Told}
use Rattle.interconnect.specs.Links as links
use Rattle.interconnect.specs.Links.{sending}
use Rattle.node_model.specs.declared.output.Output.TheVariants.{Sends, Tells}
use Rattle.node_model.specs.declared.output.Output.{Output}
use Rattle.refinement.proofs.node_widths.Lengths.{sent_messages_fit}
use Rattle.refinement.specs.Guards.{TellNothing, TellsNothing}
use Rattle.refinement.specs.Widths.{LetterFits}
use Rattle.run_history.specs.Scenes.{Scene, dropped_so, passing, posting, sent_as, telling, with_links}
use Rattle.run_messages.proofs.Lines.{passing_still, told_still}
use Rattle.run_messages.specs.Outputs.{AreGood, AreStill, NoPacket}
use Rattle.run_packets.specs.replies.Orders.{AllSaySo, BodySo, IsAside, NoOrders, OrdersOf, SaysSo}
use Rattle.status_report.specs.declared.entry.Entry.TheVariants as entry
use Rattle.status_report.specs.declared.entry.Entry.{Entry}
use Rattle.status_report.specs.declared.packet_entry.PacketEntry.TheVariants as packet
use Rattle.wire.proofs.Messages.{whole_again}
use Rattle.wire.specs.Reads.{whole_of}
use Rattle.wire.specs.Spelling.{Fits, spelling}
use Rattle.wire.specs.declared.message.Body.TheVariants as body
use Rattle.wire.specs.declared.message.Body.{Body}
use Rattle.wire.specs.declared.message.Message.{Message}
use Rattle.world_model.specs.Sends.{is_sent, name_of}

-- it sends this message
abbrev pub IsSendOf : Body → Output → Type 0
IsSendOf b (Tells e) = ⊥
IsSendOf b (Sends to other) = other ≡ b

size : (k : ℕ) → nat_le k 131072 ≡ true → k ≤ 131072
size k e = grind arith

read_so : (ms : List Moment) (n : ℕ) (b : Body) → Fits (record { sender = n; body = b }) → BodySo ms n b → (m : Message) → whole_of (spelling (record { sender = n; body = b })) ≡ Some m → BodySo ms n m.body
read_so ms n b fits so m is = subst (λ (z : Message). BodySo ms n z.body) (same_some _ m (sym (whole_again (record { sender = n; body = b }) fits) ∙ is)) so

pub dropped_says : (o : Option (ℕ × DropCause)) (s : Scene) → AllSaySo s.moments → AllSaySo (dropped_so o s).moments
dropped_says None s h = h
dropped_says (Some drop) s h = (tt, h)

posting_says : (n to : ℕ) (b : Body) (s : Scene) → LetterFits (record { from = n; body = b }) → BodySo s.moments n b → AllSaySo s.moments → AllSaySo (posting n to (record { sender = n; body = b }) s).moments
posting_says n to b s fits so h =
    let m : Message = record { sender = n; body = b } in
    let o : links.Outcome = sending s.links n to (spelling m) in
    if_with (λ (t : Scene). AllSaySo t.moments) (is_sent s.links m) (is_sent s.links m) (sent_as n to m o s) s refl
    (λ e. dropped_says o.sent.dropped (telling (entry.Packet (packet.Sent s.links.next n to (name_of m.body) (spelling m))) (with_links s o.after))
    (read_so s.moments n b (sent_messages_fit m fits.0 fits.1 (size (length (spelling m)) (and_cases _ _ e).0)) so, h))
    (λ e. h)

line_says : (e : Entry) (ms : List Moment) → NoPacket e → SaysSo ms (Told e)
line_says (entry.Packet e) ms good = absurd good
line_says _ ms good = tt

none_so : (ms : List Moment) (n : ℕ) (b : Body) → IsAside b → BodySo ms n b
none_so ms n (body.Order o) h = absurd h
none_so ms n (body.Prepare e v text) h = absurd h
none_so ms n _ h = tt

-- no order
pub plain_says : (n : ℕ) (os : List Output) (s : Scene) → AreGood n os → NoOrders os → AllSaySo s.moments → AllSaySo (passing n os s).moments
plain_says n [] s good none h = h
plain_says n (Tells e ∷ os) s good none h = plain_says n os (telling e s) good.1 none.1 (line_says e s.moments good.0, h)
plain_says n (Sends to b ∷ os) s good none h =
    plain_says n os (posting n to (record { sender = n; body = b }) s) good.1 none.1 (posting_says n to b s good.0 (none_so s.moments n b none.0) h)

order_so : (ms : List Moment) (n e to : ℕ) (b : Body) (os : List Output) → member_of n ms ≡ Some e → TellsNothing (Sends to b) → OrdersOf e (Sends to b ∷ os) → BodySo ms n b × OrdersOf e os
order_so ms n e to (body.Order o) os is none h = (subst (λ k. member_of n ms ≡ Some k) (sym h.0) is, h.1)
order_so ms n e to (body.Prepare f v text) os is none h = absurd none
order_so ms n e to b os is none h = (tt, h)

-- orders of its membership
pub orders_say : (n e : ℕ) (os : List Output) (s : Scene) → AreGood n os → AreStill n os → TellNothing os → OrdersOf e os → member_of n s.moments ≡ Some e → AllSaySo s.moments → AllSaySo (passing n os s).moments
orders_say n e [] s good still none of is h = h
orders_say n e (Tells x ∷ os) s good still none of is h = orders_say n e os (telling x s) good.1 still.1 none.1 of (told_still n x s.moments still.0 ∙ is) (line_says x s.moments good.0, h)
orders_say n e (Sends to b ∷ os) s good still none of is h =
    let here : BodySo s.moments n b × OrdersOf e os = order_so s.moments n e to b os is none.0 of in
    orders_say n e os (posting n to (record { sender = n; body = b }) s) good.1 still.1 none.1 here.1 (passing_still n n (Sends to b ∷ []) s (tt, tt) ∙ is) (posting_says n to b s good.0 here.0 h)

-- one message, to each of some nodes
pub spreads_say : (n : ℕ) (b : Body) (os : List Output) (s : Scene) (k : Option ℕ) → AllByRecursion (IsSendOf b) os → AreGood n os → ((ms : List Moment) → member_of n ms ≡ k → BodySo ms n b) → member_of n s.moments ≡ k → AllSaySo s.moments
    → AllSaySo (passing n os s).moments
spreads_say n b [] s k all good so is h = h
spreads_say n b (Tells x ∷ os) s k all good so is h = absurd all.0
spreads_say n b (Sends to other ∷ os) s k all good so is h =
    spreads_say n b os (posting n to (record { sender = n; body = other }) s) k all.1 good.1 so (passing_still n n (Sends to other ∷ []) s (tt, tt) ∙ is)
    (posting_says n to other s good.0 (subst (BodySo s.moments n) (sym all.0) (so s.moments is)) h)
