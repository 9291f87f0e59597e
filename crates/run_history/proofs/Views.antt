-- A scene and a play that show the same: what is told, sent and passed on keeps them so.
use Rattle.std.specs.Prelude.{ℕ, ◌≡◌, ◌≤◌, ◌++◌, nat_le, Bool, true, false, List, [], ◌∷◌, Option, None, Some, length, if◌then◌else◌}
use Rattle.std.proofs.Common.{refl, sym, ap, subst, ◌∙◌, append_assoc, arith}
use Rattle.std.specs.List.{AllByRecursion}
use Rattle.cl_base.specs.declared.packet.DropCause.{DropCause}
use Rattle.cmm_attempt.proofs.Basics.{and_cases, same_some}
use Rattle.interconnect.specs.Links as links
use Rattle.interconnect.specs.Links.{Links, sending}
use Rattle.schedule_text.specs.declared.event.Event.{Event}
use Rattle.schedule_text.specs.declared.line.Line.{Line}
use Rattle.schedule_text.specs.declared.line.Line.TheVariants as line
use Rattle.status_report.specs.declared.entry.Entry.{Entry}
use Rattle.status_report.specs.declared.entry.Entry.TheVariants as entry
use Rattle.status_report.specs.declared.packet_entry.PacketEntry.TheVariants as packet
use Rattle.status_report.specs.Lines.{printed}
use Rattle.wire.specs.declared.message.Body.{Body}
use Rattle.wire.specs.declared.message.Message.{Message}
use Rattle.wire.specs.Reads.{whole_of}
use Rattle.wire.specs.Spelling.{Fits, spelling}
use Rattle.wire.proofs.Messages.{whole_again}
use Rattle.history.specs.Moment.{Moment, Said, Part, Told, lines_of}
use Rattle.node_model.specs.declared.cluster.Cluster.{Cluster}
use Rattle.node_model.specs.declared.output.Output.{Output}
use Rattle.node_model.specs.declared.output.Output.TheVariants.{Tells, Sends}
use Rattle.world_model.specs.Sends as sends
use Rattle.world_model.specs.Sends.{is_sent, name_of}
use Rattle.world_model.specs.Worlds as world
use Rattle.world_model.specs.Worlds.{Play, WorldState}
use Rattle.refinement.specs.Runs.{IsAmong, Nodes}
use Rattle.refinement.specs.Worlds.{AllFit, PacketSent, SpelledIfShort}
use Rattle.refinement.proofs.Worlds.{sending_sent}
use Rattle.run_history.specs.Scenes as scene
use Rattle.run_history.specs.Scenes.{Scene, adding, text_of}
use Rattle.run_history.proofs.Alike.{Alike, Among, alike_links}

-- the scene of a world with these nodes, of which this was said and told
abbrev pub view : Nodes → WorldState → List Moment → Scene
view v w moments = record { nodes = v; devices = w.devices; faults = w.faults; links = w.links; moments = moments }

-- the scene is that of the play: exactly these lines were said, and what was told since this text is what was printed
pub record Follows (c : Cluster) (text : List ℕ) (said : List Line) (v : Nodes) (s : Scene) (p : Play) : Type 0 where
  pub moments : List Moment
  pub is : view v p.world moments ≡ s
  pub alike : Alike c v p.world
  pub spoken : lines_of moments ≡ said
  pub written : p.text ≡ text ++ text_of moments

pub here : (c : Cluster) (text : List ℕ) (said : List Line) (v : Nodes) (s : Scene) (p : Play) (f : Follows c text said v s p) → Follows c text said v (view v p.world f.moments) p
here c text said v s p f = record { moments = f.moments; is = refl; alike = f.alike; spoken = f.spoken; written = f.written }

-- An entry is told; a part begins; a line is said.

abbrev pub told_so : (c : Cluster) (text : List ℕ) (said : List Line) (v : Nodes) (s : Scene) (p : Play) (e : Entry) → Follows c text said v s p
    → Follows c text said v (scene.telling e s) (world.telling e p)
told_so c text said v s p e f = record {
  moments = Told e ∷ f.moments;
  is = ap (λ z. scene.telling e z) f.is;
  alike = f.alike;
  spoken = f.spoken;
  written = ap (λ t. t ++ printed e) f.written ∙ append_assoc text (text_of f.moments) (printed e);
}

abbrev pub part_so : (c : Cluster) (text : List ℕ) (said : List Line) (v : Nodes) (s : Scene) (p : Play) (e : Event) → Follows c text said v s p → Follows c text said v (adding (Part e) s) p
part_so c text said v s p e f = record { moments = Part e ∷ f.moments; is = ap (λ z. adding (Part e) z) f.is; alike = f.alike; spoken = f.spoken; written = f.written }

abbrev pub said_so : (c : Cluster) (text : List ℕ) (said : List Line) (v : Nodes) (s : Scene) (p : Play) (e : Event) → Follows c text said v s p
    → Follows c text (line.Event e ∷ said) v (adding (Said (line.Event e)) s) p
said_so c text said v s p e f = record {
  moments = Said (line.Event e) ∷ f.moments;
  is = ap (λ z. adding (Said (line.Event e)) z) f.is;
  alike = f.alike;
  spoken = ap (λ (ls : List Line). line.Event e ∷ ls) f.spoken;
  written = f.written;
}

-- The links change; a message is sent.

pub linked_so : (c : Cluster) (text : List ℕ) (said : List Line) (v : Nodes) (s : Scene) (p : Play) (l : Links) → AllByRecursion (PacketSent v.sent) l.packets → Follows c text said v s p
    → Follows c text said v (scene.with_links s l) (sends.with_links p l)
linked_so c text said v s p l sent f =
    record { moments = f.moments; is = ap (λ z. scene.with_links z l) f.is; alike = alike_links c v p.world l sent f.alike; spoken = f.spoken; written = f.written }

pub dropped_so : (c : Cluster) (text : List ℕ) (said : List Line) (v : Nodes) (s : Scene) (p : Play) (o : Option (ℕ × DropCause)) → Follows c text said v s p
    → Follows c text said v (scene.dropped_so o s) (sends.dropped_so o p)
dropped_so c text said v s p None f = f
dropped_so c text said v s p (Some drop) f = told_so c text said v s p (entry.Packet (packet.Dropped drop.0 drop.1)) f

-- the same test on both sides
same_test : {A B : Type 0} (R : A → B → Type 0) (b : Bool) (x y : A) (z w : B) → (b ≡ true → R x z) → (b ≡ false → R y w) → R (if b then x else y) (if b then z else w)
same_test R true x y z w f g = f refl
same_test R false x y z w f g = g refl

size : (k : ℕ) → nat_le k 131072 ≡ true → k ≤ 131072
size k e = grind arith

posted_so : (c : Cluster) (text : List ℕ) (said : List Line) (v : Nodes) (s : Scene) (p : Play) (n to : ℕ) (b : Body) → (1 ≤ to) × SpelledIfShort (record { sender = n; body = b })
    → IsAmong n b v.sent → Follows c text said v s p
    → Follows c text said v (scene.posting n to (record { sender = n; body = b }) s) (sends.posting n to (record { sender = n; body = b }) p)
posted_so c text said v s p n to b fits among f =
    subst (λ z. Follows c text said v (scene.posting n to m z) (sends.posting n to m p)) f.is
    (same_test (λ (z : Scene) (q : Play). Follows c text said v z q) (is_sent p.world.links m) (scene.sent_as n to m o seen) seen (sends.sent_as n to m o p) p
    (λ e. dropped_so c text said v (scene.telling sent_line (scene.with_links seen o.after)) (world.telling sent_line (sends.with_links p o.after)) o.sent.dropped
    (told_so c text said v (scene.with_links seen o.after) (sends.with_links p o.after) sent_line
    (linked_so c text said v seen p o.after (sent (fits.1 (size (length (spelling m)) (and_cases _ _ e).0))) (here c text said v s p f))))
    (λ e. here c text said v s p f))
  where
    m : Message
    m = record { sender = n; body = b }

    seen : Scene
    seen = view v p.world f.moments

    o : links.Outcome
    o = sending p.world.links n to (spelling m)

    sent_line : Entry
    sent_line = entry.Packet (packet.Sent p.world.links.next n to (name_of b) (spelling m))

    read : Fits m → (other : Message) → whole_of (spelling m) ≡ Some other → IsAmong n other.body v.sent
    read spelled other e = subst (λ (z : Message). IsAmong n z.body v.sent) (same_some m other (sym (whole_again m spelled) ∙ e)) among

    sent : Fits m → AllByRecursion (PacketSent v.sent) o.after.packets
    sent spelled = sending_sent v.sent p.world.links n to (spelling m) f.alike.shows.packets (fits.0, read spelled)

-- what a node gives is passed on
pub passed_so : (c : Cluster) (text : List ℕ) (said : List Line) (v : Nodes) (n : ℕ) (os : List Output) (s : Scene) (p : Play) → AllFit n os → Among n os v.sent → Follows c text said v s p
    → Follows c text said v (scene.passing n os s) (sends.passing n os p)
passed_so c text said v n [] s p fits among f = f
passed_so c text said v n (Tells e ∷ os) s p fits among f = passed_so c text said v n os (scene.telling e s) (world.telling e p) fits among (told_so c text said v s p e f)
passed_so c text said v n (Sends to b ∷ os) s p fits among f =
    passed_so c text said v n os (scene.posting n to (record { sender = n; body = b }) s) (sends.posting n to (record { sender = n; body = b }) p) fits.2 among.1
    (posted_so c text said v s p n to b (fits.0, fits.1) among.0 f)
