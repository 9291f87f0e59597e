-- What lines leave of the Promises that an attempt has in hand, and of whether it is under way.
use Rattle.std.specs.Prelude.{ℕ, ◌≡◌, ◌==◌, ◌&&◌, ◌||◌, ◌⊎◌, ◌++◌, Bool, true, false, not, List, [], ◌∷◌, Option, None, Some, if◌then◌else◌}
use Rattle.std.specs.List.{AllByRecursion, list_any}
use Rattle.std.proofs.Common.{refl, sym, ap, subst, ◌∙◌, inl, inr}
use Rattle.cl_base.specs.declared.packet.DropCause.{DropCause}
use Rattle.cmm_attempt.proofs.Basics.{and_cases, false_true, if_either}
use Rattle.history.specs.Letters.{arriving}
use Rattle.history.specs.Member.{attempt_of}
use Rattle.history.specs.Moment.{Moment, Told}
use Rattle.history.specs.Order.{since}
use Rattle.history.specs.Records.{promise_among, promises}
use Rattle.history.specs.Seizing.{is_attempt, is_number}
use Rattle.history.specs.Setting.{coordinator}
use Rattle.history.specs.Trace.{attempt}
use Rattle.history.specs.UnderWay.{is_over, is_under_way}
use Rattle.interconnect.specs.Links as net
use Rattle.interconnect.specs.Links.{sending}
use Rattle.node_model.specs.declared.output.Output.{Output}
use Rattle.node_model.specs.declared.output.Output.TheVariants.{Sends, Tells}
use Rattle.status_report.specs.declared.entry.Entry.{Entry}
use Rattle.status_report.specs.declared.entry.Entry.TheVariants as entry
use Rattle.status_report.specs.declared.packet_entry.PacketEntry.TheVariants as packet
use Rattle.wire.specs.declared.message.Message.{Message}
use Rattle.wire.specs.Spelling.{spelling}
use Rattle.world_model.specs.Sends.{is_sent, name_of}
use Rattle.run_history.specs.Scenes.{Scene, dropped_so, passing, posting, sent_as, telling, with_links}
use Rattle.run_downs.proofs.Packets.{IsNoPacket}
use Rattle.run_history.proofs.Links.{NotPacket}

-- An attempt that is under way after more lines began in them, or was under way before, with the same Promises.
abbrev pub Follows : List Moment → List Moment → Type 0
Follows before after = (e : ℕ) → is_under_way e after ≡ true → (promises e after ≡ []) ⊎ ((is_under_way e before ≡ true) × (promises e after ≡ promises e before))

pub follows_self : (ms : List Moment) → Follows ms ms
follows_self ms e way = inr (way, refl)

pub follows_then : (first second third : List Moment) → Follows first second → Follows second third → Follows first third
follows_then first second third f g e way = by_last (g e way)
  where
    by_first : promises e third ≡ promises e second → (promises e second ≡ []) ⊎ ((is_under_way e first ≡ true) × (promises e second ≡ promises e first)) → (promises e third ≡ []) ⊎ ((is_under_way e first ≡ true) × (promises e third ≡ promises e first))
    by_first same (inl none) = inl (same ∙ none)
    by_first same (inr more) = inr (more.0, same ∙ more.1)

    by_last : (promises e third ≡ []) ⊎ ((is_under_way e second ≡ true) × (promises e third ≡ promises e second)) → (promises e third ≡ []) ⊎ ((is_under_way e first ≡ true) × (promises e third ≡ promises e first))
    by_last (inl none) = inl none
    by_last (inr more) = by_first more.1 (f e more.0)

number_before : (e c : ℕ) (x : Moment) (ms : List Moment) → is_attempt e x ≡ false → is_number e (attempt_of c (x ∷ ms)) ≡ true → is_number e (attempt_of c ms) ≡ true
number_before e c (attempt f members) ms none is = by_test (coordinator f == c) is
  where
    by_test : (t : Bool) → is_number e (if t then Some f else attempt_of c ms) ≡ true → is_number e (attempt_of c ms) ≡ true
    by_test true at = absurd (false_true (sym none ∙ at))
    by_test false at = at
number_before e c _ ms none is = is

not_either : (a b : Bool) → not (a || b) ≡ true → not b ≡ true
not_either true b h = absurd (false_true h)
not_either false b h = h

over_before : (e : ℕ) (x : Moment) (ms : List Moment) → is_attempt e x ≡ false → not (list_any (is_over e) (since (is_attempt e) (x ∷ ms))) ≡ true → not (list_any (is_over e) (since (is_attempt e) ms)) ≡ true
over_before e x ms none is =
    not_either (is_over e x) (list_any (is_over e) (since (is_attempt e) ms)) (subst (λ t. not (list_any (is_over e) (if t then [] else x ∷ since (is_attempt e) ms)) ≡ true) none is)

pub way_before : (e : ℕ) (x : Moment) (ms : List Moment) → is_attempt e x ≡ false → is_under_way e (x ∷ ms) ≡ true → is_under_way e ms ≡ true
way_before e x ms none is =
    let parts : (is_number e (attempt_of (coordinator e) (x ∷ ms)) ≡ true) × (not (list_any (is_over e) (since (is_attempt e) (x ∷ ms))) ≡ true) = and_cases _ _ is in
    both (is_number e (attempt_of (coordinator e) ms)) _ (number_before e (coordinator e) x ms none parts.0) (over_before e x ms none parts.1)
  where
    both : (a b : Bool) → a ≡ true → b ≡ true → (a && b) ≡ true
    both true b h k = k
    both false b h k = absurd (false_true h)

pub follows_one : (x : Moment) (ms : List Moment) → arriving ms x ≡ None → Follows ms (x ∷ ms)
follows_one x ms came e way = by_test (is_attempt e x) refl
  where
    by_test : (t : Bool) → is_attempt e x ≡ t → (promises e (x ∷ ms) ≡ []) ⊎ ((is_under_way e ms ≡ true) × (promises e (x ∷ ms) ≡ promises e ms))
    by_test true is = inl (ap (λ t. if t then [] else promise_among e (arriving ms x) ++ promises e ms) is)
    by_test false is = inr (way_before e x ms is way, ap (λ t. if t then [] else promise_among e (arriving ms x) ++ promises e ms) is ∙ ap (λ o. promise_among e o ++ promises e ms) came)

-- ---- what a node gives

told_nothing : (e : Entry) (ms : List Moment) → NotPacket e → arriving ms (Told e) ≡ None
told_nothing (entry.Packet e) ms other = absurd other
told_nothing _ ms other = refl

dropped_follows : (o : Option (ℕ × DropCause)) (ms : List Moment) (s : Scene) → Follows ms s.moments → Follows ms (dropped_so o s).moments
dropped_follows None ms s h = h
dropped_follows (Some drop) ms s h = follows_then ms s.moments (dropped_so (Some drop) s).moments h (follows_one (Told (entry.Packet (packet.Dropped drop.0 drop.1))) s.moments refl)

posted_follows : (n to : ℕ) (m : Message) (s : Scene) → Follows s.moments (posting n to m s).moments
posted_follows n to m s =
    let o : net.Outcome = sending s.links n to (spelling m) in
    let t : Scene = telling (entry.Packet (packet.Sent s.links.next n to (name_of m.body) (spelling m))) (with_links s o.after) in
    if_either (λ (z : Scene). Follows s.moments z.moments) (is_sent s.links m) (sent_as n to m o s) s
    (dropped_follows o.sent.dropped s.moments t (follows_one (Told (entry.Packet (packet.Sent s.links.next n to (name_of m.body) (spelling m)))) s.moments refl)) (follows_self s.moments)

pub passing_follows : (n : ℕ) (os : List Output) (s : Scene) → AllByRecursion IsNoPacket os → Follows s.moments (passing n os s).moments
passing_follows n [] s h = follows_self s.moments
passing_follows n (Tells e ∷ os) s h =
    follows_then s.moments (Told e ∷ s.moments) (passing n (Tells e ∷ os) s).moments (follows_one (Told e) s.moments (told_nothing e s.moments h.0)) (passing_follows n os (telling e s) h.1)
passing_follows n (Sends to b ∷ os) s h =
    let t : Scene = posting n to (record { sender = n; body = b }) s in
    follows_then s.moments t.moments (passing n (Sends to b ∷ os) s).moments (posted_follows n to (record { sender = n; body = b }) s) (passing_follows n os t h.1)

pub copied_follows : (number : ℕ) (o : net.Outcome) (s : Scene) → Follows s.moments (dropped_so o.sent.dropped (telling (entry.Packet (packet.Repeated number s.links.next)) (with_links s o.after))).moments
copied_follows number o s =
    dropped_follows o.sent.dropped s.moments (telling (entry.Packet (packet.Repeated number s.links.next)) (with_links s o.after)) (follows_one (Told (entry.Packet (packet.Repeated number s.links.next))) s.moments refl)
