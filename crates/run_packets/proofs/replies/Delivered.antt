-- A law of what a packet calls for that is delivered: of each event, from what comes to nodes.
use Rattle.std.specs.Prelude.{ℕ, ◌≡◌, ◌==◌, ◌||◌, ◌^◌, nat_lt, Bool, true, false, List, [], ◌∷◌, Option, None, Some, if◌then◌else◌}
use Rattle.std.proofs.Common.{refl, ap, sym, subst, ◌∙◌, inl, inr}
use Rattle.std.specs.Option.{option_map}
use Rattle.cl_base.specs.declared.header.Header.{Header}
use Rattle.cl_base.specs.declared.method.Outcome.{Outcome}
use Rattle.cl_base.specs.declared.packet.DropCause.TheVariants as drop
use Rattle.cl_base.specs.declared.packet.MessageName.{MessageName}
use Rattle.cmm_attempt.proofs.Basics.{none_some, same_some}
use Rattle.history.specs.Contents.{IsSpelled, Spelled}
use Rattle.history.specs.Letters.{Letter, letter_of}
use Rattle.history.specs.Links.{links_after}
use Rattle.history.specs.Messages.{onto}
use Rattle.history.specs.Moment.{Moment, Part, Said, Told}
use Rattle.history.specs.Names.{named}
use Rattle.history.specs.Order.{Always}
use Rattle.history.specs.Setting.{Setting}
use Rattle.history.specs.Trace.{delivered, dropped, repeated, sent}
use Rattle.interconnect.specs.Links.{Packet, oldest_on, packet_of}
use Rattle.node_model.specs.declared.cluster.Cluster.{Cluster}
use Rattle.node_model.specs.declared.input.Input.TheVariants as input
use Rattle.node_model.specs.declared.node.Node.TheVariants.{Down, Up}
use Rattle.node_model.specs.declared.node.Node.{Node}
use Rattle.node_model.specs.declared.node.UpNode.{UpNode}
use Rattle.refinement.specs.Runs.{IsAmong}
use Rattle.run_history.proofs.ContactFlying.{number_found}
use Rattle.run_history.proofs.Lists.{found, when_some}
use Rattle.run_history.proofs.Reached.{Reached}
use Rattle.run_history.specs.Happenings.Happening.{Speaks}
use Rattle.run_history.specs.Happenings.{given_by, happened}
use Rattle.run_history.specs.Scenes.{Scene, adding, first_scene}
use Rattle.run_history.specs.Shapes.{brings, coming_to, delivering, of_oldest, of_packet}
use Rattle.run_history.specs.Stages.{Stage}
use Rattle.run_lines.specs.Laws.{NumberIsLeft}
use Rattle.run_messages.proofs.Reaching.{IsSmall, stage_of}
use Rattle.run_messages.proofs.Spelling.{spelled_of_each_run}
use Rattle.run_messages.specs.Laws.{AreSeated}
use Rattle.run_packets.proofs.replies.Holding.{Kept, kept_in_each, seated_of}
use Rattle.run_packets.proofs.replies.Others.{brings_else}
use Rattle.run_packets.specs.prepares.Events.{IsLeftAfter}
use Rattle.run_packets.specs.repeats.Events.{AreSent, Arrives, Leaves, Strays, EventLaw, Opening, StartsElse}
use Rattle.run_messages.proofs.records.Runs.{run_known}
use Rattle.run_messages.specs.records.Kept.{AreBytes, BytesOf}
use Rattle.schedule_text.specs.declared.event.Event.TheVariants as event
use Rattle.schedule_text.specs.declared.event.Event.{Event}
use Rattle.schedule_text.specs.declared.line.Line.TheVariants as line
use Rattle.status_report.specs.declared.entry.Entry.TheVariants as entry
use Rattle.status_report.specs.declared.schedule_entry.ScheduleEntry.{ScheduleEntry}
use Rattle.wire.proofs.Messages.{whole_again}
use Rattle.wire.specs.Reads.{whole_of}
use Rattle.wire.specs.declared.message.Message.{Message}
use Rattle.world_model.specs.First.{first_cluster}

-- ---- letters

-- what a law of each moment says of the line of a letter
pub record OfLine (Q : List Moment → Moment → Type 0) (l : Letter) : Type 0 where
  pub number : ℕ
  pub called : MessageName
  pub line_so : Q l.before (sent number l.from l.to called l.bytes)

pub line_of : (Q : List Moment → Moment → Type 0) (p : ℕ) (ms : List Moment) (l : Letter) → Always Q ms → letter_of p ms ≡ Some l → OfLine Q l
line_of Q p [] l law is = absurd (none_some l is)
line_of Q p (sent q a b called bytes ∷ ms) l law is = by_test (q == p) is (λ h. line_of Q p ms l law.1 h)
  where
    here : Letter
    here = record { from = a; to = b; name = named called; bytes = bytes; before = ms }

    by_test : (t : Bool) → (if t then Some here else letter_of p ms) ≡ Some l → (letter_of p ms ≡ Some l → OfLine Q l) → OfLine Q l
    by_test true at rest = subst (OfLine Q) (same_some here l at) (record { number = q; called = called; line_so = law.0 })
    by_test false at rest = rest at
line_of Q p (repeated q copy ∷ ms) l law is = line_of Q (if copy == p then q else p) ms l law.1 is
line_of Q p (x ∷ ms) l law is = line_of Q p ms l law.1 is

-- ---- what is known of a scene

pub record Known (c : Cluster) (s : Scene) : Type 0 where
  pub stage : Stage c s
  pub kept : Kept s
  pub seated : AreSeated s
  pub spelled : Spelled s.moments
  pub bytes : AreBytes s.moments s.links

-- the bytes of a packet are those of its letter
pub letter_bytes : (s : Scene) (number : ℕ) (y : Packet) (l : Letter) → AreBytes s.moments s.links → packet_of s.links.packets number ≡ Some y → letter_of number s.moments ≡ Some l → l.bytes ≡ y.bytes
letter_bytes s number y l all at is =
    let b : BytesOf s.moments s.links.next y = when_some (BytesOf s.moments s.links.next) (packet_of s.links.packets number) y (found (BytesOf s.moments s.links.next) (λ (p : Packet). p.number == number) s.links.packets all) at in
    same_some l.bytes y.bytes (ap (λ (o : Option Letter). option_map (λ (z : Letter). z.bytes) o) (sym is) ∙ (ap (λ k. option_map (λ (z : Letter). z.bytes) (letter_of k s.moments)) (sym (number_found s.links number y at)) ∙ b.0))

pub or_first : (a b : Bool) → a ≡ true → (a || b) ≡ true
or_first a b h = cc

pub or_later : (a b : Bool) → b ≡ true → (a || b) ≡ true
or_later true b h = refl
or_later false b h = h

-- ---- a law of what comes

-- The law asks nothing where no packet is delivered first, and nothing of a packet without a letter; where what comes to a node is delivered to it, it
-- holds, with F known of the scene before the event.
pub record OfWhatComes (P : EventLaw) (cells : ℕ) (c : Cluster) (F : Scene → Type 0) : Type 0 where
  pub known : (s : Scene) → F s → Known c s
  pub none : (before : List Moment) (x : Moment) (later : List Moment) → StartsElse later → P before x later
  pub strays : (before : List Moment) (x : Moment) (number a b : ℕ) → ((l : Letter) → letter_of number before ≡ Some l → ⊥) → P before x (delivered number a b ∷ [])
  pub comes : (s : Scene) (x : Moment) (number : ℕ) (y : Packet) (w : UpNode) (rest : List Moment) (m : Message) (now : ℕ) (ends : Outcome) → F s → packet_of s.links.packets number ≡ Some y → s.nodes.node y.to ≡ Up w
      → whole_of y.bytes ≡ Some m → IsAmong y.from m.body s.nodes.sent → AreSent cells (delivered number y.from y.to ∷ x ∷ s.moments) y.to (given_by c y.to now ends (input.Packet y.from m) s.nodes) rest
      → IsLeftAfter cells (onto (x ∷ s.moments) (delivered number y.from y.to ∷ rest)) → P s.moments x (delivered number y.from y.to ∷ rest)

-- the law, where a packet number is left
abbrev pub WhereLeft : EventLaw → ℕ → EventLaw
WhereLeft P cells before x entries = IsLeftAfter cells (onto (x ∷ before) entries) → P before x entries

module _ (P : EventLaw) (cells : ℕ) (c : Cluster) (F : Scene → Type 0) (o : OfWhatComes P cells c F) where
  none_so : (before : List Moment) (x : Moment) (later : List Moment) → later ≡ [] → P before x later
  none_so before x later is = subst (P before x) (sym is) (o.none before x [] tt)

  else_so : (before : List Moment) (x : Moment) (later : List Moment) (number : ℕ) → later ≡ dropped number drop.Down ∷ [] → P before x later
  else_so before x later number is = subst (P before x) (sym is) (o.none before x (dropped number drop.Down ∷ []) tt)

  note_so : (before : List Moment) (x : Moment) (later : List Moment) (e : ScheduleEntry) → later ≡ Told (entry.Schedule e) ∷ [] → P before x later
  note_so before x later e is = subst (P before x) (sym is) (o.none before x (Told (entry.Schedule e) ∷ []) tt)

  deliver_so : (s : Scene) (x : Moment) (number : ℕ) (later : List Moment) → F s → Leaves cells c (adding x s) (delivering (adding x s) number) later → IsLeftAfter cells (onto (x ∷ s.moments) later) → P s.moments x later
  deliver_so s x number later f leaves left = by_packet (packet_of s.links.packets number) refl leaves
    where
      known : Known c s
      known = o.known s f

      arrives : (y : Packet) (w : UpNode) → packet_of s.links.packets number ≡ Some y → s.nodes.node y.to ≡ Up w → Arrives cells c (adding x s) number y later → P s.moments x later
      arrives y w at at_node a =
          subst (P s.moments x) (sym a.comes.is)
          (o.comes s x number y w a.comes.rest a.message a.comes.now a.comes.ends f at at_node a.reads a.among a.comes.are_sent (subst (λ z. IsLeftAfter cells (onto (x ∷ s.moments) z)) a.comes.is left))

      strays : (y : Packet) → packet_of s.links.packets number ≡ Some y → Strays number y later → P s.moments x later
      strays y at stray =
          subst (P s.moments x) (sym stray.1)
          (o.strays s.moments x number y.from y.to
          (λ l letter.
          let line : OfLine IsSpelled l = line_of IsSpelled number s.moments l known.spelled letter in
          none_some line.line_so.message
          (sym (ap whole_of (letter_bytes s number y l known.bytes at letter) ∙ stray.0) ∙ (ap whole_of (sym line.line_so.spelled) ∙ whole_again line.line_so.message line.line_so.fits))))

      by_node : (y : Packet) → packet_of s.links.packets number ≡ Some y → (z : Node) → s.nodes.node y.to ≡ z → Leaves cells c (adding x s) (coming_to z number y) later → P s.moments x later
      by_node y at Down at_node leaves = else_so s.moments x later number leaves
      by_node y at (Up w) at_node (inl a) = arrives y w at at_node a
      by_node y at (Up w) at_node (inr stray) = strays y at stray

      by_packet : (z : Option Packet) → packet_of s.links.packets number ≡ z → Leaves cells c (adding x s) (of_packet z (λ y. coming_to (s.nodes.node y.to) number y)) later → P s.moments x later
      by_packet None at leaves = note_so s.moments x later _ leaves
      by_packet (Some y) at leaves = by_node y at (s.nodes.node y.to) refl leaves

  -- .. the oldest of a link
  next_so : (s : Scene) (x : Moment) (a b : ℕ) (later : List Moment) → F s → Leaves cells c (adding x s) (of_oldest (oldest_on s.links.packets a b) (λ number. delivering (adding x s) number)) later
      → IsLeftAfter cells (onto (x ∷ s.moments) later) → P s.moments x later
  next_so s x a b later f leaves left = by_oldest (oldest_on s.links.packets a b) leaves
    where
      by_oldest : (z : Option ℕ) → Leaves cells c (adding x s) (of_oldest z (λ number. delivering (adding x s) number)) later → P s.moments x later
      by_oldest None leaves = note_so s.moments x later _ leaves
      by_oldest (Some number) leaves = deliver_so s x number later f leaves left

  line_comes : (s : Scene) (e : Event) (later : List Moment) → F s → Leaves cells c (happened c s (Speaks e)) (brings c (happened c s (Speaks e)) e) later → WhereLeft P cells s.moments (Said (line.Event e)) later
  line_comes s (event.Deliver number) later f leaves left = deliver_so s (Said (line.Event (event.Deliver number))) number later f leaves left
  line_comes s (event.Next a b) later f leaves left = next_so s (Said (line.Event (event.Next a b))) a b later f leaves left
  line_comes s e later f leaves left = o.none s.moments (Said (line.Event e)) later (brings_else cells c (happened c s (Speaks e)) later e tt leaves)

  part_comes : (s : Scene) (e : Event) (later : List Moment) → F s → Leaves cells c (adding (Part e) s) (brings c (adding (Part e) s) e) later → WhereLeft P cells s.moments (Part e) later
  part_comes s (event.Deliver number) later f leaves left = deliver_so s (Part (event.Deliver number)) number later f leaves left
  part_comes s (event.Next a b) later f leaves left = next_so s (Part (event.Next a b)) a b later f leaves left
  part_comes s e later f leaves left = o.none s.moments (Part e) later (brings_else cells c (adding (Part e) s) later e tt leaves)

  -- so it opens each event
  pub opens : Opening (WhereLeft P cells) cells c F
  opens = record { line_so = line_comes; part_so = part_comes }

-- by the lines
pub where_left : (P : EventLaw) (S : Setting) (cells : ℕ) → S.cells ≡ cells → (before : List Moment) (x : Moment) (entries : List Moment) → WhereLeft P cells before x entries → NumberIsLeft S (onto (x ∷ before) entries) → P before x entries
where_left P S cells same before x entries h left = h (subst (λ k. nat_lt (links_after k (onto (x ∷ before) entries)).next (2 ^ 63) ≡ true) same left)

-- ---- runs

pub known_of : (h : Header) (cells : ℕ) → IsSmall h → (s : Scene) → Reached (first_cluster h) (first_scene h cells) s → Known (first_cluster h) s
known_of h cells size s r = record {
  stage = stage_of h cells s size r;
  kept = subst Kept r.is (kept_in_each h cells r.happenings size r.may);
  seated = seated_of h cells s size r;
  spelled = subst (λ (z : Scene). Spelled z.moments) r.is (spelled_of_each_run h cells r.happenings size.few size.small r.may);
  bytes = subst (λ (z : Scene). AreBytes z.moments z.links) r.is (run_known h cells r.happenings size.few size.small r.may).bytes;
}
