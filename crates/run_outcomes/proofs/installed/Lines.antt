-- Which lines tell that an Install has come to a node.
use Rattle.std.specs.Prelude.{ℕ, ◌==◌, ◌&&◌, ◌||◌, ◌≡◌, ◌≢◌, Bool, true, false, List, [], ◌∷◌, Option, None, Some, if◌then◌else◌}
use Rattle.std.proofs.Common.{arith, refl, ap, ◌∙◌}
use Rattle.std.specs.List.{AllByRecursion}
use Rattle.cl_base.specs.declared.packet.DropCause.{DropCause}
use Rattle.cmm_attempt.proofs.Basics.{if_either, same_number}
use Rattle.history.specs.Letters.{Letter, is_letter, letter_of, passes}
use Rattle.history.specs.Moment.{Moment, Told}
use Rattle.history.specs.Names.{named, same_name}
use Rattle.history.specs.Names as name
use Rattle.history.specs.Trace.{delivered}
use Rattle.interconnect.specs.Links.{sending}
use Rattle.interconnect.specs.Links as links
use Rattle.node_model.specs.declared.output.Output.{Output}
use Rattle.node_model.specs.declared.output.Output.TheVariants.{Sends, Tells}
use Rattle.run_history.specs.Scenes.{Scene, dropped_so, passing, posting, sent_as, telling, with_links}
use Rattle.run_messages.specs.Outputs.{AreGood, NoPacket}
use Rattle.status_report.specs.declared.entry.Entry.{Entry}
use Rattle.status_report.specs.declared.entry.Entry.TheVariants as entry
use Rattle.status_report.specs.declared.node_entry.NodeEntry.{NodeEntry}
use Rattle.status_report.specs.declared.node_entry.NodeEntry.TheVariants as note
use Rattle.status_report.specs.declared.packet_entry.PacketEntry.TheVariants as packet
use Rattle.wire.specs.Spelling.{spelling}
use Rattle.wire.specs.declared.message.Body.{Body}
use Rattle.wire.specs.declared.message.Body.TheVariants as body
use Rattle.wire.specs.declared.message.Message.{Message}
use Rattle.world_model.specs.Sends.{is_sent, name_of}
use Rattle.run_outcomes.specs.reports.Installs.{has_come, is_of}

-- ---- lines of a step

-- it does not tell that node k went up
abbrev pub NoBoot : ℕ → Output → Type 0
NoBoot k (Tells (entry.Node m note.Up)) = m ≢ k
NoBoot k _ = Unit {0}

abbrev pub NoBoots : ℕ → List Output → Type 0
NoBoots k os = AllByRecursion (NoBoot k) os

unlike : (m k : ℕ) → m ≢ k → (m == k) ≡ false
unlike m k ne = by_test (m == k) refl
  where
    by_test : (b : Bool) → (m == k) ≡ b → b ≡ false
    by_test true is = absurd (ne (same_number m k is))
    by_test false is = refl

other_up : (b : Bool) (c : Bool) → b ≡ false → (if b then false else (false || c)) ≡ c
other_up true c is = absurd (no is)
  where
    no : true ≡ false → ⊥
    no h = cc
other_up false c is = refl

node_come : (k e m : ℕ) (x : NodeEntry) (ms : List Moment) → NoBoot k (Tells (entry.Node m x)) → has_come k e (Told (entry.Node m x) ∷ ms) ≡ has_come k e ms
node_come k e m note.Up ms ne = other_up (m == k) (has_come k e ms) (unlike m k ne)
node_come k e m _ ms ne = refl

told_come : (k e : ℕ) (x : Entry) (ms : List Moment) → NoPacket x → NoBoot k (Tells x) → has_come k e (Told x ∷ ms) ≡ has_come k e ms
told_come k e (entry.Packet x) ms good ne = absurd good
told_come k e (entry.Node m x) ms good ne = node_come k e m x ms ne
told_come k e _ ms good ne = refl

dropped_come : (k e : ℕ) (o : Option (ℕ × DropCause)) (s : Scene) → has_come k e (dropped_so o s).moments ≡ has_come k e s.moments
dropped_come k e None s = refl
dropped_come k e (Some drop) s = refl

posting_come : (k e n to : ℕ) (m : Message) (s : Scene) → has_come k e (posting n to m s).moments ≡ has_come k e s.moments
posting_come k e n to m s =
    let o : links.Outcome = sending s.links n to (spelling m) in
    if_either (λ (t : Scene). has_come k e t.moments ≡ has_come k e s.moments) (is_sent s.links m) (sent_as n to m o s) s
    (dropped_come k e o.sent.dropped (telling (entry.Packet (packet.Sent s.links.next n to (name_of m.body) (spelling m))) (with_links s o.after))) refl

pub passing_come : (k e n : ℕ) (os : List Output) (s : Scene) → AreGood n os → NoBoots k os → has_come k e (passing n os s).moments ≡ has_come k e s.moments
passing_come k e n [] s good none = refl
passing_come k e n (Tells x ∷ os) s good none = passing_come k e n os (telling x s) good.1 none.1 ∙ told_come k e x s.moments good.0 none.0
passing_come k e n (Sends to b ∷ os) s good none =
    let m : Message = record { sender = n; body = b } in
    passing_come k e n os (posting n to m s) good.1 none.1 ∙ posting_come k e n to m s

-- the node went up
pub booted_come : (n e : ℕ) (ms : List Moment) → has_come n e (Told (entry.Node n note.Up) ∷ ms) ≡ false
booted_come n e ms = here (n == n) (itself n)
  where
    itself : (k : ℕ) → (k == k) ≡ true
    itself k = grind arith

    here : (b : Bool) → b ≡ true → (if b then false else (false || has_come n e ms)) ≡ false
    here true is = refl
    here false is = absurd (no is)
      where
        no : false ≡ true → ⊥
        no h = cc

-- ---- a packet that comes

passes_off : (test : Letter → Bool) (o : Option Letter) → ((l : Letter) → o ≡ Some l → test l ≡ false) → passes test o ≡ false
passes_off test None off = refl
passes_off test (Some l) off = off l refl

or_off : (a b : Bool) → a ≡ false → (a || b) ≡ b
or_off a b is = cc

and_off : (a b : Bool) → a ≡ false → (a && b) ≡ false
and_off a b is = cc

later_off : (a b : Bool) → b ≡ false → (a && b) ≡ false
later_off true b is = is
later_off false b is = refl

-- it is no Install to this node
pub none_come : (k e p a m : ℕ) (ms : List Moment) → ((l : Letter) → letter_of p ms ≡ Some l → is_of k e l ≡ false) → has_come k e (delivered p a m ∷ ms) ≡ has_come k e ms
none_come k e p a m ms off = or_off (passes (is_of k e) (letter_of p ms)) (has_come k e ms) (passes_off (is_of k e) (letter_of p ms) off)

-- it goes to another node
pub other_of : (k e : ℕ) (l : Letter) → l.to ≢ k → is_of k e l ≡ false
other_of k e l ne = and_off (is_letter name.Install l.from k l) _ (later_off (same_name l.name name.Install && (l.from == l.from)) (l.to == k) (unlike l.to k ne))

abbrev pub NotInstall : Body → Type 0
NotInstall (body.Install i) = ⊥
NotInstall _ = Unit {0}

body_off : (b : Body) → NotInstall b → same_name (named (name_of b)) name.Install ≡ false
body_off (body.Install i) h = absurd h
body_off _ h = refl

pub else_of : (k e : ℕ) (l : Letter) (b : Body) → l.name ≡ named (name_of b) → NotInstall b → is_of k e l ≡ false
else_of k e l b called not =
    and_off (is_letter name.Install l.from k l) _
    (and_off (same_name l.name name.Install && (l.from == l.from)) (l.to == k) (and_off (same_name l.name name.Install) (l.from == l.from) (ap (λ q. same_name q name.Install) called ∙ body_off b not)))
