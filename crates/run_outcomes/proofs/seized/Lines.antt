-- What lines leave of the Seizeds that came to the coordinator of an attempt since it began.
use Rattle.std.specs.Prelude.{ℕ, ◌≡◌, ◌||◌, ◌⊎◌, Bool, true, false, List, [], ◌∷◌, Option, None, Some, if◌then◌else◌}
use Rattle.std.specs.List.{AllByRecursion, list_any}
use Rattle.std.proofs.Common.{refl, sym, ap, subst, ◌∙◌, inl, inr}
use Rattle.cl_base.specs.Seizings.{SeizeResult}
use Rattle.cl_base.specs.declared.packet.DropCause.{DropCause}
use Rattle.cmm_attempt.proofs.Basics.{false_true, if_either, none_some, same_number}
use Rattle.history.specs.Contact.{AttemptsDiffer, IsNew}
use Rattle.history.specs.Letters.{arriving}
use Rattle.history.specs.Moment.{Moment, Told}
use Rattle.history.specs.Queue as told
use Rattle.history.specs.Seizing.{is_attempt}
use Rattle.history.specs.Trace.{attempt}
use Rattle.history.specs.UnderWay.{is_under_way}
use Rattle.interconnect.specs.Links as net
use Rattle.interconnect.specs.Links.{sending}
use Rattle.node_model.specs.declared.output.Output.{Output}
use Rattle.node_model.specs.declared.output.Output.TheVariants.{Sends, Tells}
use Rattle.status_report.specs.declared.entry.Entry.{Entry}
use Rattle.status_report.specs.declared.entry.Entry.TheVariants as entry
use Rattle.status_report.specs.declared.packet_entry.PacketEntry.TheVariants as packet
use Rattle.wire.specs.Spelling.{spelling}
use Rattle.wire.specs.declared.message.Message.{Message}
use Rattle.world_model.specs.Sends.{is_sent, name_of}
use Rattle.run_downs.proofs.Packets.{IsNoPacket}
use Rattle.run_history.proofs.Links.{NotPacket}
use Rattle.run_history.specs.Scenes.{Scene, dropped_so, passing, posting, sent_as, telling, with_links}
use Rattle.run_outcomes.specs.tasks.Answers.{Heard, IsFree}
use Rattle.run_outcomes.proofs.phases.Lines.{way_before}

-- what came for e, by these lines
abbrev pub heard_by : ℕ → List Moment → Heard
heard_by e ms d m = told.seized_by e d m ms

abbrev pub IsSame : Heard → Heard → Type 0
IsSame T U = (d m : ℕ) → T d m ≡ U d m

-- An attempt that is under way after more lines began in them, or was under way before, and no more Seizeds came. What came last was there before.
pub record Follows (before after : List Moment) : Type 0 where
  pub way : AttemptsDiffer after → (e : ℕ) → is_under_way e after ≡ true
      → (IsFree (heard_by e after) × (list_any (is_attempt e) before ≡ false)) ⊎ ((is_under_way e before ≡ true) × IsSame (heard_by e after) (heard_by e before))
  pub differ : AttemptsDiffer after → AttemptsDiffer before
  pub old : (e : ℕ) → list_any (is_attempt e) before ≡ true → list_any (is_attempt e) after ≡ true
  pub heard : (e d m : ℕ) (r : SeizeResult) → told.seized_by e d m after ≡ Some r → told.seized_by e d m before ≡ Some r

pub follows_self : (ms : List Moment) → Follows ms ms
follows_self ms = record { way = λ differ e way. inr (way, (λ d m. refl)); differ = λ k. k; old = λ e is. is; heard = λ e d m r is. is }

not_true : (b : Bool) → (b ≡ true → ⊥) → b ≡ false
not_true true f = absurd (f refl)
not_true false f = refl

abbrev Free : List Moment → List Moment → ℕ → Type 0
Free before after e = IsFree (heard_by e after) × (list_any (is_attempt e) before ≡ false)

pub follows_then : (first second third : List Moment) → Follows first second → Follows second third → Follows first third
follows_then first second third f g = record {
  way = λ differ e way. by_last e (f.way (g.differ differ) e) (g.way differ e way);
  differ = λ differ. f.differ (g.differ differ);
  old = λ e is. g.old e (f.old e is);
  heard = λ e d m r is. f.heard e d m r (g.heard e d m r is);
}
  where
    by_first : (e : ℕ) → IsSame (heard_by e third) (heard_by e second) → Free first second e ⊎ ((is_under_way e first ≡ true) × IsSame (heard_by e second) (heard_by e first))
        → Free first third e ⊎ ((is_under_way e first ≡ true) × IsSame (heard_by e third) (heard_by e first))
    by_first e same (inl free) = inl ((λ d m. same d m ∙ free.0 d m), free.1)
    by_first e same (inr more) = inr (more.0, (λ d m. same d m ∙ more.1 d m))

    by_last : (e : ℕ) → (is_under_way e second ≡ true → Free first second e ⊎ ((is_under_way e first ≡ true) × IsSame (heard_by e second) (heard_by e first)))
        → Free second third e ⊎ ((is_under_way e second ≡ true) × IsSame (heard_by e third) (heard_by e second))
        → Free first third e ⊎ ((is_under_way e first ≡ true) × IsSame (heard_by e third) (heard_by e first))
    by_last e h (inl free) = inl (free.0, not_true (list_any (is_attempt e) first) (λ is. false_true (sym free.1 ∙ f.old e is)))
    by_last e h (inr more) = by_first e more.1 (h more.0)

or_more : (a b : Bool) → b ≡ true → (a || b) ≡ true
or_more true b h = refl
or_more false b h = h

-- the line of an attempt is the first of its number
attempt_new : (e : ℕ) (x : Moment) (ms : List Moment) → is_attempt e x ≡ true → IsNew ms x → list_any (is_attempt e) ms ≡ false
attempt_new e (attempt f members) ms is new = subst (λ q. list_any (is_attempt q) ms ≡ false) (same_number f e is) new
attempt_new e _ ms is new = absurd (false_true is)

pub follows_one : (x : Moment) (ms : List Moment) → arriving ms x ≡ None → Follows ms (x ∷ ms)
follows_one x ms came = record { way = λ differ e way. by_test e (is_attempt e x) refl differ way; differ = λ k. k.1; old = λ e is. or_more (is_attempt e x) (list_any (is_attempt e) ms) is; heard = λ e d m r is. earlier e d m r (is_attempt e x) refl is }
  where
    same : (e d m : ℕ) → is_attempt e x ≡ false → told.seized_by e d m (x ∷ ms) ≡ told.seized_by e d m ms
    same e d m other =
        ap (λ t. if t then None else told.told_by e d m (arriving ms x) (told.seized_by e d m ms)) other ∙ ap (λ o. told.told_by e d m o (told.seized_by e d m ms)) came

    by_test : (e : ℕ) (t : Bool) → is_attempt e x ≡ t → AttemptsDiffer (x ∷ ms) → is_under_way e (x ∷ ms) ≡ true
        → (IsFree (heard_by e (x ∷ ms)) × (list_any (is_attempt e) ms ≡ false)) ⊎ ((is_under_way e ms ≡ true) × IsSame (heard_by e (x ∷ ms)) (heard_by e ms))
    by_test e true is differ way =
        inl ((λ d m. ap (λ t. if t then None else told.told_by e d m (arriving ms x) (told.seized_by e d m ms)) is), attempt_new e x ms is differ.0)
    by_test e false is differ way = inr (way_before e x ms is way, (λ d m. same e d m is))

    earlier : (e d m : ℕ) (r : SeizeResult) (t : Bool) → is_attempt e x ≡ t → told.seized_by e d m (x ∷ ms) ≡ Some r → told.seized_by e d m ms ≡ Some r
    earlier e d m r true at is = absurd (none_some r (sym (ap (λ t. if t then None else told.told_by e d m (arriving ms x) (told.seized_by e d m ms)) at) ∙ is))
    earlier e d m r false at is = sym (same e d m at) ∙ is

-- ---- what a node gives

told_nothing : (e : Entry) (ms : List Moment) → NotPacket e → arriving ms (Told e) ≡ None
told_nothing (entry.Packet e) ms other = absurd other
told_nothing _ ms other = refl

pub dropped_follows : (o : Option (ℕ × DropCause)) (ms : List Moment) (s : Scene) → Follows ms s.moments → Follows ms (dropped_so o s).moments
dropped_follows None ms s h = h
dropped_follows (Some drop) ms s h = follows_then ms s.moments (dropped_so (Some drop) s).moments h (follows_one (Told (entry.Packet (packet.Dropped drop.0 drop.1))) s.moments refl)

posted_follows : (n to : ℕ) (m : Message) (s : Scene) → Follows s.moments (posting n to m s).moments
posted_follows n to m s =
    let o : net.Outcome = sending s.links n to (spelling m) in
    let t : Scene = telling (entry.Packet (packet.Sent s.links.next n to (name_of m.body) (spelling m))) (with_links s o.after) in
    if_either (λ (z : Scene). Follows s.moments z.moments) (is_sent s.links m) (sent_as n to m o s) s
    (dropped_follows o.sent.dropped s.moments t (follows_one (Told (entry.Packet (packet.Sent s.links.next n to (name_of m.body) (spelling m)))) s.moments refl)) (follows_self s.moments)

pub passing_follows : (n : ℕ) (os : List Output) (s : Scene) → AllByRecursion IsNoPacket os → Follows s.moments (passing n os s).moments
passing_follows n [] s h = follows_self s.moments
passing_follows n (Tells e ∷ os) s h =
    follows_then s.moments (Told e ∷ s.moments) (passing n (Tells e ∷ os) s).moments (follows_one (Told e) s.moments (told_nothing e s.moments h.0)) (passing_follows n os (telling e s) h.1)
passing_follows n (Sends to b ∷ os) s h =
    let t : Scene = posting n to (record { sender = n; body = b }) s in
    follows_then s.moments t.moments (passing n (Sends to b ∷ os) s).moments (posted_follows n to (record { sender = n; body = b }) s) (passing_follows n os t h.1)

pub copied_follows : (number : ℕ) (o : net.Outcome) (s : Scene) → Follows s.moments (dropped_so o.sent.dropped (telling (entry.Packet (packet.Repeated number s.links.next)) (with_links s o.after))).moments
copied_follows number o s =
    dropped_follows o.sent.dropped s.moments (telling (entry.Packet (packet.Repeated number s.links.next)) (with_links s o.after)) (follows_one (Told (entry.Packet (packet.Repeated number s.links.next))) s.moments refl)
