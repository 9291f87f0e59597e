-- What lines leave of the Readies that came for an attempt, and of whether it is under way.
use Rattle.std.specs.Prelude.{ℕ, ◌≡◌, ◌==◌, ◌&&◌, ◌||◌, ◌⊎◌, Bool, true, false, List, [], ◌∷◌, Option, None, Some, if◌then◌else◌}
use Rattle.std.specs.List.{AllByRecursion}
use Rattle.std.proofs.Common.{refl, sym, ap, ◌∙◌, inl, inr}
use Rattle.cl_base.specs.declared.packet.DropCause.{DropCause}
use Rattle.cmm_attempt.proofs.Basics.{and_cases, false_true, if_either, same_number}
use Rattle.history.specs.Attempts.{has_readied, is_ready_of, readies}
use Rattle.history.specs.Letters.{Letter, arriving, is_letter, letter_of, passes, says}
use Rattle.history.specs.Moment.{Moment, Told}
use Rattle.history.specs.Names as name
use Rattle.history.specs.Names.{same_name}
use Rattle.history.specs.Seizing.{is_attempt}
use Rattle.history.specs.Setting.{coordinator}
use Rattle.history.specs.Trace.{delivered}
use Rattle.history.specs.UnderWay.{is_under_way}
use Rattle.interconnect.specs.Links as net
use Rattle.interconnect.specs.Links.{sending}
use Rattle.node_model.specs.declared.output.Output.{Output}
use Rattle.node_model.specs.declared.output.Output.TheVariants.{Sends, Tells}
use Rattle.run_downs.proofs.Packets.{IsNoPacket}
use Rattle.run_history.proofs.Links.{NotPacket}
use Rattle.run_history.specs.Scenes.{Scene, dropped_so, passing, posting, sent_as, telling, with_links}
use Rattle.status_report.specs.declared.entry.Entry.{Entry}
use Rattle.status_report.specs.declared.entry.Entry.TheVariants as entry
use Rattle.status_report.specs.declared.packet_entry.PacketEntry.TheVariants as packet
use Rattle.wire.specs.Spelling.{spelling}
use Rattle.wire.specs.declared.message.Body.{Body}
use Rattle.wire.specs.declared.message.Message.{Message}
use Rattle.world_model.specs.Sends.{is_sent, name_of}
use Rattle.run_outcomes.proofs.phases.Lines.{way_before}

-- nothing came for it, or it was under way before, and the same came
abbrev pub Came_so : ℕ → List Moment → List Moment → Type 0
Came_so e before after = ((m : ℕ) → has_readied e after m ≡ false) ⊎ ((is_under_way e before ≡ true) × ((m : ℕ) → has_readied e after m ≡ has_readied e before m))

abbrev pub Follows : List Moment → List Moment → Type 0
Follows before after = (e : ℕ) → is_under_way e after ≡ true → Came_so e before after

follows_self : (ms : List Moment) → Follows ms ms
follows_self ms e way = inr (way, λ m. refl)

follows_then : (first second third : List Moment) → Follows first second → Follows second third → Follows first third
follows_then first second third f g e way = by_last (g e way)
  where
    by_first : ((m : ℕ) → has_readied e third m ≡ has_readied e second m) → Came_so e first second → Came_so e first third
    by_first same (inl none) = inl (λ m. same m ∙ none m)
    by_first same (inr more) = inr (more.0, λ m. same m ∙ more.1 m)

    by_last : Came_so e second third → Came_so e first third
    by_last (inl none) = inl none
    by_last (inr more) = by_first more.1 (f e more.0)

pub follows_one : (x : Moment) (ms : List Moment) → arriving ms x ≡ None → Follows ms (x ∷ ms)
follows_one x ms came e way = by_test (is_attempt e x) refl
  where
    by_test : (t : Bool) → is_attempt e x ≡ t → Came_so e ms (x ∷ ms)
    by_test true is = inl (λ m. ap (λ t. if t then false else (passes (is_ready_of e m) (arriving ms x) || has_readied e ms m)) is)
    by_test false is = inr (
      way_before e x ms is way,
      λ m. ap (λ t. if t then false else (passes (is_ready_of e m) (arriving ms x) || has_readied e ms m)) is ∙ ap (λ o. passes (is_ready_of e m) o || has_readied e ms m) came,
    )

-- ---- what a node gives

told_nothing : (e : Entry) (ms : List Moment) → NotPacket e → arriving ms (Told e) ≡ None
told_nothing (entry.Packet e) ms other = absurd other
told_nothing _ ms other = refl

dropped_follows : (o : Option (ℕ × DropCause)) (ms : List Moment) (s : Scene) → Follows ms s.moments → Follows ms (dropped_so o s).moments
dropped_follows None ms s h = h
dropped_follows (Some drop) ms s h = follows_then ms s.moments (dropped_so (Some drop) s).moments h (follows_one (Told (entry.Packet (packet.Dropped drop.0 drop.1))) s.moments refl)

posted_follows : (n to : ℕ) (m : Message) (s : Scene) → Follows s.moments (posting n to m s).moments
posted_follows n to m s =
    let o : net.Outcome = sending s.links n to (spelling m) in
    let t : Scene = telling (entry.Packet (packet.Sent s.links.next n to (name_of m.body) (spelling m))) (with_links s o.after) in
    if_either (λ (z : Scene). Follows s.moments z.moments) (is_sent s.links m) (sent_as n to m o s) s
    (dropped_follows o.sent.dropped s.moments t (follows_one (Told (entry.Packet (packet.Sent s.links.next n to (name_of m.body) (spelling m)))) s.moments refl)) (follows_self s.moments)

pub passing_follows : (n : ℕ) (os : List Output) (s : Scene) → AllByRecursion IsNoPacket os → Follows s.moments (passing n os s).moments
passing_follows n [] s h = follows_self s.moments
passing_follows n (Tells e ∷ os) s h =
    follows_then s.moments (Told e ∷ s.moments) (passing n (Tells e ∷ os) s).moments (follows_one (Told e) s.moments (told_nothing e s.moments h.0)) (passing_follows n os (telling e s) h.1)
passing_follows n (Sends to b ∷ os) s h =
    let t : Scene = posting n to (record { sender = n; body = b }) s in
    follows_then s.moments t.moments (passing n (Sends to b ∷ os) s).moments (posted_follows n to (record { sender = n; body = b }) s) (passing_follows n os t h.1)

pub copied_follows : (number : ℕ) (o : net.Outcome) (s : Scene) → Follows s.moments (dropped_so o.sent.dropped (telling (entry.Packet (packet.Repeated number s.links.next)) (with_links s o.after))).moments
copied_follows number o s =
    dropped_follows o.sent.dropped s.moments (telling (entry.Packet (packet.Repeated number s.links.next)) (with_links s o.after)) (follows_one (Told (entry.Packet (packet.Repeated number s.links.next))) s.moments refl)

-- ---- a packet comes

-- of whom it is a Ready, to whom it went, and for which attempt
pub record IsReadyOf (e m : ℕ) (l : Letter) : Type 0 where
  pub from : l.from ≡ m
  pub to : l.to ≡ coordinator e
  pub number : readies e (says l.bytes) ≡ true

ready_of_so : (e m : ℕ) (l : Letter) → is_ready_of e m l ≡ true → IsReadyOf e m l
ready_of_so e m l is =
    let both : (is_letter name.Ready m (coordinator e) l ≡ true) × (readies e (says l.bytes) ≡ true) = and_cases (is_letter name.Ready m (coordinator e) l) (readies e (says l.bytes)) is in
    let ends : ((same_name l.name name.Ready && (l.from == m)) ≡ true) × ((l.to == coordinator e) ≡ true) = split (same_name l.name name.Ready) (l.from == m) (l.to == coordinator e) both.0 in
    record { from = same_number l.from m (and_cases (same_name l.name name.Ready) (l.from == m) ends.0).1; to = same_number l.to (coordinator e) ends.1; number = both.1 }
  where
    split : (x y z : Bool) → (x && y && z) ≡ true → ((x && y) ≡ true) × (z ≡ true)
    split true true z k = (refl, k)
    split true false z k = absurd (false_true k)
    split false y z k = absurd (false_true k)

-- one that is no Ready for it, or went elsewhere, leaves what came
pub elsewhere : (e number from n : ℕ) (ms : List Moment) (l : Letter) (b : Body) → letter_of number ms ≡ Some l → says l.bytes ≡ Some b → l.to ≡ n → (coordinator e ≡ n → readies e (Some b) ≡ true → ⊥)
    → (m : ℕ) → has_readied e (delivered number from n ∷ ms) m ≡ has_readied e ms m
elsewhere e number from n ms l b at read to none m = ap (λ o. passes (is_ready_of e m) o || has_readied e ms m) at ∙ ap (λ t. t || has_readied e ms m) (by_value (is_ready_of e m l) refl)
  where
    by_value : (t : Bool) → is_ready_of e m l ≡ t → t ≡ false
    by_value true is = let of : IsReadyOf e m l = ready_of_so e m l is in absurd (none (sym of.to ∙ to) (sym (ap (readies e) read) ∙ of.number))
    by_value false is = refl

-- whose Ready has come after it
pub comes_from : (e number from n : ℕ) (ms : List Moment) (l : Letter) → letter_of number ms ≡ Some l → l.from ≡ from → (m : ℕ) → has_readied e (delivered number from n ∷ ms) m ≡ true → (has_readied e ms m ≡ true) ⊎ (m ≡ from)
comes_from e number from n ms l at sender m h = by_value (is_ready_of e m l) refl (sym (ap (λ o. passes (is_ready_of e m) o || has_readied e ms m) at) ∙ h)
  where
    by_value : (t : Bool) → is_ready_of e m l ≡ t → (t || has_readied e ms m) ≡ true → (has_readied e ms m ≡ true) ⊎ (m ≡ from)
    by_value true is k = inr (sym (ready_of_so e m l is).from ∙ sender)
    by_value false is k = inl k
