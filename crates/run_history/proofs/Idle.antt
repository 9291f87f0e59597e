-- Lines that say nothing of whether a node is up, or a member; and what stays while they are told.
use Rattle.std.specs.Prelude.{ℕ, ◌≡◌, ◌≢◌, ◌==◌, ◌||◌, ◌++◌, Bool, true, false, List, [], ◌∷◌, Option, None, Some, if◌then◌else◌}
use Rattle.std.proofs.Common.{refl, ◌∙◌, arith}
use Rattle.std.specs.List.{AllByRecursion}
use Rattle.cl_base.specs.declared.packet.DropCause.{DropCause}
use Rattle.cmm_attempt.proofs.Basics.{if_either}
use Rattle.interconnect.specs.Links as net
use Rattle.interconnect.specs.Links.{sending}
use Rattle.status_report.specs.declared.entry.Entry.{Entry}
use Rattle.status_report.specs.declared.entry.Entry.TheVariants as entry
use Rattle.status_report.specs.declared.node_entry.NodeEntry.TheVariants as note
use Rattle.status_report.specs.declared.packet_entry.PacketEntry.TheVariants as packet
use Rattle.status_report.specs.declared.start_entry.StartEntry.TheVariants as start
use Rattle.wire.specs.declared.message.Message.{Message}
use Rattle.wire.specs.Spelling.{spelling}
use Rattle.history.specs.Member.{is_up, last_member}
use Rattle.history.specs.Moment.{Moment, Told}
use Rattle.history.specs.Starts.{is_started}
use Rattle.node_model.specs.declared.output.Output.{Output}
use Rattle.node_model.specs.declared.output.Output.TheVariants.{Tells, Sends}
use Rattle.world_model.specs.Sends.{is_sent, name_of}
use Rattle.run_history.specs.Scenes.{Scene, dropped_so, passing, posting, sent_as, telling, with_links}

pub if_true : {X : Type 0} (b : Bool) (x y : X) → b ≡ true → (if b then x else y) ≡ x
if_true true x y e = refl
if_true false x y e = cc

pub if_false : {X : Type 0} (b : Bool) (x y : X) → b ≡ false → (if b then x else y) ≡ y
if_false true x y e = cc
if_false false x y e = refl

is_other : (a b : ℕ) → a ≢ b → (a == b) ≡ false
is_other a b ne = grind arith

or_second : (b c : Bool) → c ≡ true → (b || c) ≡ true
or_second true c h = refl
or_second false c h = h

-- What was started stays so, whatever is told.
pub started_told : (q : ℕ) (e : Entry) (ms : List Moment) → is_started q ms ≡ true → is_started q (Told e ∷ ms) ≡ true
started_told q (entry.Start (start.Started e members held count)) ms h = or_second (e == q) (is_started q ms) h
started_told q (entry.Start (start.Base e v words)) ms h = h
started_told q (entry.Start (start.Adopted e n resource flags)) ms h = h
started_told q _ ms h = h

-- the same of node k, and what was started
pub record SameFor (k : ℕ) (before after : List Moment) : Type 0 where
  pub up : is_up k after ≡ is_up k before
  pub member : last_member k after ≡ last_member k before
  pub started : (q : ℕ) → is_started q before ≡ true → is_started q after ≡ true

-- the line says of no node, or of another than k, that it is up, down or a member
abbrev pub IdleFor : ℕ → Entry → Type 0
IdleFor k (entry.Node m note.Up) = m ≢ k
IdleFor k (entry.Node m (note.Down why)) = m ≢ k
IdleFor k (entry.Node m (note.Member e)) = m ≢ k
IdleFor k _ = Unit {0}

pub told_same : (k : ℕ) (e : Entry) (ms : List Moment) → IdleFor k e → SameFor k ms (Told e ∷ ms)
told_same k (entry.Node m note.Up) ms ne = record {
  up = if_false (m == k) true (is_up k ms) (is_other m k ne);
  member = if_false (m == k) None (last_member k ms) (is_other m k ne);
  started = λ q h. h;
}
told_same k (entry.Node m (note.Down why)) ms ne = record { up = if_false (m == k) false (is_up k ms) (is_other m k ne); member = refl; started = λ q h. h }
told_same k (entry.Node m (note.Member e)) ms ne = record { up = refl; member = if_false (m == k) (Some e) (last_member k ms) (is_other m k ne); started = λ q h. h }
told_same k (entry.Node m note.Ticked) ms ne = record { up = refl; member = refl; started = λ q h. h }
told_same k (entry.Node m note.Saved) ms ne = record { up = refl; member = refl; started = λ q h. h }
told_same k (entry.Node m (note.Installed e)) ms ne = record { up = refl; member = refl; started = λ q h. h }
told_same k (entry.Start e) ms ne = record { up = refl; member = refl; started = λ q h. started_told q (entry.Start e) ms h }
told_same k _ ms ne = record { up = refl; member = refl; started = λ q h. h }

pub same_now : (k : ℕ) (ms : List Moment) → SameFor k ms ms
same_now k ms = record { up = refl; member = refl; started = λ q h. h }

pub same_then : (k : ℕ) (a b c : List Moment) → SameFor k a b → SameFor k b c → SameFor k a c
same_then k a b c f g = record { up = g.up ∙ f.up; member = g.member ∙ f.member; started = λ q h. g.started q (f.started q h) }

-- Packets.

dropped_same : (k : ℕ) (o : Option (ℕ × DropCause)) (s : Scene) → SameFor k s.moments (dropped_so o s).moments
dropped_same k None s = same_now k s.moments
dropped_same k (Some x) s = told_same k (entry.Packet (packet.Dropped x.0 x.1)) s.moments tt

pub posted_same : (k from to : ℕ) (m : Message) (s : Scene) → SameFor k s.moments (posting from to m s).moments
posted_same k from to m s =
    let o : net.Outcome = sending s.links from to (spelling m) in
    let e : Entry = entry.Packet (packet.Sent s.links.next from to (name_of m.body) (spelling m)) in
    let t : Scene = telling e (with_links s o.after) in
    if_either (λ (z : Scene). SameFor k s.moments z.moments) (is_sent s.links m) (sent_as from to m o s) s
    (same_then k s.moments t.moments (dropped_so o.sent.dropped t).moments (told_same k e s.moments tt) (dropped_same k o.sent.dropped t)) (same_now k s.moments)

-- Outputs.

abbrev pub IdleOut : ℕ → Output → Type 0
IdleOut k (Tells e) = IdleFor k e
IdleOut k (Sends to b) = Unit {0}

pub passing_same : (k n : ℕ) (os : List Output) (s : Scene) → AllByRecursion (IdleOut k) os → SameFor k s.moments (passing n os s).moments
passing_same k n [] s h = same_now k s.moments
passing_same k n (Tells e ∷ os) s h =
    same_then k s.moments (telling e s).moments (passing n os (telling e s)).moments (told_same k e s.moments h.0) (passing_same k n os (telling e s) h.1)
passing_same k n (Sends to b ∷ os) s h =
    let t : Scene = posting n to (record { sender = n; body = b }) s in
    same_then k s.moments t.moments (passing n os t).moments (posted_same k n to (record { sender = n; body = b }) s) (passing_same k n os t h.1)

pub passing_started : (q n : ℕ) (os : List Output) (s : Scene) → is_started q s.moments ≡ true → is_started q (passing n os s).moments ≡ true
passing_started q n [] s h = h
passing_started q n (Tells e ∷ os) s h = passing_started q n os (telling e s) (started_told q e s.moments h)
passing_started q n (Sends to b ∷ os) s h =
    passing_started q n os (posting n to (record { sender = n; body = b }) s) ((posted_same 0 n to (record { sender = n; body = b }) s).started q h)

pub passing_append : (n : ℕ) (os more : List Output) (s : Scene) → passing n (os ++ more) s ≡ passing n more (passing n os s)
passing_append n [] more s = refl
passing_append n (Tells e ∷ os) more s = passing_append n os more (telling e s)
passing_append n (Sends to b ∷ os) more s = passing_append n os more (posting n to (record { sender = n; body = b }) s)

-- nodes stay as they are
dropped_nodes : (o : Option (ℕ × DropCause)) (s : Scene) → (dropped_so o s).nodes ≡ s.nodes
dropped_nodes None s = refl
dropped_nodes (Some x) s = refl

posted_nodes : (from to : ℕ) (m : Message) (s : Scene) → (posting from to m s).nodes ≡ s.nodes
posted_nodes from to m s =
    let o : net.Outcome = sending s.links from to (spelling m) in
    if_either (λ (t : Scene). t.nodes ≡ s.nodes) (is_sent s.links m) (sent_as from to m o s) s
    (dropped_nodes o.sent.dropped (telling (entry.Packet (packet.Sent s.links.next from to (name_of m.body) (spelling m))) (with_links s o.after))) refl

pub passing_nodes : (n : ℕ) (os : List Output) (s : Scene) → (passing n os s).nodes ≡ s.nodes
passing_nodes n [] s = refl
passing_nodes n (Tells e ∷ os) s = passing_nodes n os (telling e s)
passing_nodes n (Sends to b ∷ os) s =
    passing_nodes n os (posting n to (record { sender = n; body = b }) s) ∙ posted_nodes n to (record { sender = n; body = b }) s
