-- What lines leave of what a node asked, and of what was proposed.
use Rattle.std.specs.Prelude.{ℕ, ◌≡◌, ◌≢◌, ◌==◌, ◌&&◌, ◌||◌, Bool, true, false, List, [], ◌∷◌, Option, None, Some, if◌then◌else◌}
use Rattle.std.specs.List.{AllByRecursion, list_any}
use Rattle.std.proofs.Common.{refl, ap, ◌∙◌, arith}
use Rattle.cl_base.specs.declared.packet.DropCause.{DropCause}
use Rattle.cmm_attempt.proofs.Basics.{if_either}
use Rattle.interconnect.specs.Links as links
use Rattle.interconnect.specs.Links.{sending}
use Rattle.status_report.specs.declared.command_entry.CommandEntry.TheVariants as command
use Rattle.status_report.specs.declared.entry.Entry.{Entry}
use Rattle.status_report.specs.declared.entry.Entry.TheVariants as entry
use Rattle.status_report.specs.declared.node_entry.NodeEntry.TheVariants as note
use Rattle.status_report.specs.declared.packet_entry.PacketEntry.TheVariants as packet
use Rattle.status_report.specs.declared.update_entry.UpdateEntry.TheVariants as update
use Rattle.wire.specs.Spelling.{spelling}
use Rattle.wire.specs.declared.message.Message.{Message}
use Rattle.history.specs.Contents.{proposed_at}
use Rattle.history.specs.Moment.{Moment, Told}
use Rattle.history.specs.Order.{before_last, since}
use Rattle.history.specs.Requests.{before_asking, command_before, command_of, is_asking}
use Rattle.history.specs.Seizing.{is_boot}
use Rattle.history.specs.Setting.{Setting, coordinator}
use Rattle.node_model.specs.declared.output.Output.{Output}
use Rattle.node_model.specs.declared.output.Output.TheVariants.{Sends, Tells}
use Rattle.world_model.specs.Sends.{is_sent, name_of}
use Rattle.run_history.specs.Scenes.{Scene, dropped_so, passing, posting, sent_as, telling, with_links}
use Rattle.run_history.proofs.Idle.{if_false}

-- whether node k asked a command by this number since it went up
abbrev pub has_asked : ℕ → ℕ → List Moment → Bool
has_asked k q ms = list_any (is_asking k q) (since (is_boot k) ms)

-- what node k asked is the same
pub record SameAsked (S : Setting) (k : ℕ) (before after : List Moment) : Type 0 where
  pub asking : (q : ℕ) → before_asking k q after ≡ before_asking k q before
  pub asked : (q : ℕ) → has_asked k q after ≡ has_asked k q before
  pub command : (q : ℕ) → command_of S k q after ≡ command_of S k q before

-- .. and what was proposed in memberships that it coordinates
pub record SameAsk (S : Setting) (k : ℕ) (before after : List Moment) : Type 0 where
  pub asks : SameAsked S k before after
  pub proposed : (e v : ℕ) → coordinator e ≡ k → proposed_at (Some e) v after ≡ proposed_at (Some e) v before

-- the line says nothing of that
abbrev pub IsApart : ℕ → Entry → Type 0
IsApart k (entry.Node m note.Up) = m ≢ k
IsApart k (entry.Command (command.Asked m q)) = m ≢ k
IsApart k (entry.Update (update.Proposed e v words)) = coordinator e ≢ k
IsApart k (entry.Packet e) = ⊥
IsApart k _ = Unit {0}

is_other : (a b : ℕ) → a ≢ b → (a == b) ≡ false
is_other a b ne = grind arith

and_false : (a b : Bool) → a ≡ false → (a && b) ≡ false
and_false true b h = absurd (cc)
and_false false b h = refl

or_false : (a b : Bool) → a ≡ false → (a || b) ≡ b
or_false true b h = absurd (cc)
or_false false b h = refl

pub same_ask : (S : Setting) (k : ℕ) (ms : List Moment) → SameAsk S k ms ms
same_ask S k ms = record { asks = record { asking = λ q. refl; asked = λ q. refl; command = λ q. refl }; proposed = λ e v is. refl }

pub then_ask : (S : Setting) (k : ℕ) (a b c : List Moment) → SameAsk S k a b → SameAsk S k b c → SameAsk S k a c
then_ask S k a b c f g = record {
  asks = record { asking = λ q. g.asks.asking q ∙ f.asks.asking q; asked = λ q. g.asks.asked q ∙ f.asks.asked q; command = λ q. g.asks.command q ∙ f.asks.command q };
  proposed = λ e v is. g.proposed e v is ∙ f.proposed e v is;
}

since_other : (k m : ℕ) (e : Moment) (ms : List Moment) → (m == k) ≡ false → (if m == k then [] else e ∷ since (is_boot k) ms) ≡ e ∷ since (is_boot k) ms
since_other k m e ms ne = if_false (m == k) [] (e ∷ since (is_boot k) ms) ne

other_epoch : (f e k : ℕ) → coordinator e ≡ k → coordinator f ≢ k → f ≢ e
other_epoch f e k is ne same = ne (ap coordinator same ∙ is)

pub told_apart : (S : Setting) (k : ℕ) (e : Entry) (ms : List Moment) → IsApart k e → SameAsk S k ms (Told e ∷ ms)
told_apart S k (entry.Node m note.Up) ms ne =
    let same : (if m == k then [] else Told (entry.Node m note.Up) ∷ since (is_boot k) ms) ≡ Told (entry.Node m note.Up) ∷ since (is_boot k) ms =
    since_other k m (Told (entry.Node m note.Up)) ms (is_other m k ne) in
    record {
      asks = record { asking = λ q. refl; asked = λ q. ap (λ xs. list_any (is_asking k q) xs) same; command = λ q. ap (λ xs. command_before S (before_last (is_asking k q) xs)) same };
      proposed = λ e v is. refl;
    }
told_apart S k (entry.Node m note.Ticked) ms ne = record { asks = record { asking = λ q. refl; asked = λ q. refl; command = λ q. refl }; proposed = λ e v is. refl }
told_apart S k (entry.Node m note.Saved) ms ne = record { asks = record { asking = λ q. refl; asked = λ q. refl; command = λ q. refl }; proposed = λ e v is. refl }
told_apart S k (entry.Node m (note.Down why)) ms ne = record { asks = record { asking = λ q. refl; asked = λ q. refl; command = λ q. refl }; proposed = λ e v is. refl }
told_apart S k (entry.Node m (note.Member e)) ms ne = record { asks = record { asking = λ q. refl; asked = λ q. refl; command = λ q. refl }; proposed = λ e v is. refl }
told_apart S k (entry.Node m (note.Installed e)) ms ne = record { asks = record { asking = λ q. refl; asked = λ q. refl; command = λ q. refl }; proposed = λ e v is. refl }
told_apart S k (entry.Command (command.Asked m q)) ms ne =
    let other : (r : ℕ) → ((m == k) && (q == r)) ≡ false = λ r. and_false (m == k) (q == r) (is_other m k ne) in
    record {
      asks = record { asking = λ r. if_false ((m == k) && (q == r)) ms (before_asking k r ms) (other r); asked = λ r. or_false ((m == k) && (q == r)) (has_asked k r ms) (other r); command = λ r. ap (λ xs. command_before S xs) (if_false ((m == k) && (q == r)) (since (is_boot k) ms) (before_last (is_asking k r) (since (is_boot k) ms)) (other r)) };
      proposed = λ e v is. refl;
    }
told_apart S k (entry.Command (command.Answered m q reply)) ms ne = record { asks = record { asking = λ r. refl; asked = λ r. refl; command = λ r. refl }; proposed = λ e v is. refl }
told_apart S k (entry.Update (update.Proposed f w words)) ms ne = record {
  asks = record { asking = λ q. refl; asked = λ q. refl; command = λ q. refl };
  proposed = λ e v is. if_false ((f == e) && (w == v)) (Some words) (proposed_at (Some e) v ms) (and_false (f == e) (w == v) (is_other f e (other_epoch f e k is ne)));
}
told_apart S k (entry.Update (update.Acknowledged f w words)) ms ne = record { asks = record { asking = λ q. refl; asked = λ q. refl; command = λ q. refl }; proposed = λ e v is. refl }
told_apart S k (entry.Packet e) ms ne = absurd ne
told_apart S k _ ms ne = record { asks = record { asking = λ q. refl; asked = λ q. refl; command = λ q. refl }; proposed = λ e v is. refl }

dropped_ask : (S : Setting) (k : ℕ) (o : Option (ℕ × DropCause)) (s : Scene) → SameAsk S k s.moments (dropped_so o s).moments
dropped_ask S k None s = same_ask S k s.moments
dropped_ask S k (Some drop) s = record { asks = record { asking = λ q. refl; asked = λ q. refl; command = λ q. refl }; proposed = λ e v is. refl }

pub posting_ask : (S : Setting) (k from to : ℕ) (m : Message) (s : Scene) → SameAsk S k s.moments (posting from to m s).moments
posting_ask S k from to m s =
    let o : links.Outcome = sending s.links from to (spelling m) in
    let t : Scene = telling (entry.Packet (packet.Sent s.links.next from to (name_of m.body) (spelling m))) (with_links s o.after) in
    if_either (λ (z : Scene). SameAsk S k s.moments z.moments) (is_sent s.links m) (sent_as from to m o s) s
    (then_ask S k s.moments t.moments (dropped_so o.sent.dropped t).moments (record { asks = record { asking = λ q. refl; asked = λ q. refl; command = λ q. refl }; proposed = λ e v is. refl })
    (dropped_ask S k o.sent.dropped t)) (same_ask S k s.moments)

abbrev pub IsApartOutput : ℕ → Output → Type 0
IsApartOutput k (Tells e) = IsApart k e
IsApartOutput k (Sends to b) = Unit {0}

abbrev pub AreApart : ℕ → List Output → Type 0
AreApart k os = AllByRecursion (IsApartOutput k) os

pub passing_ask : (S : Setting) (k n : ℕ) (os : List Output) (s : Scene) → AreApart k os → SameAsk S k s.moments (passing n os s).moments
passing_ask S k n [] s h = same_ask S k s.moments
passing_ask S k n (Tells e ∷ os) s h =
    then_ask S k s.moments (telling e s).moments (passing n os (telling e s)).moments (told_apart S k e s.moments h.0) (passing_ask S k n os (telling e s) h.1)
passing_ask S k n (Sends to b ∷ os) s h =
    let t : Scene = posting n to (record { sender = n; body = b }) s in
    then_ask S k s.moments t.moments (passing n os t).moments (posting_ask S k n to (record { sender = n; body = b }) s) (passing_ask S k n os t h.1)
