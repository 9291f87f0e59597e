-- Each run: each request to seize and each Install that comes in the session is answered in its event, or is work then.
use Rattle.std.specs.Prelude.{ℕ, ◌^◌, ◌≡◌, false, nat_lt, true, List, [], ◌∷◌, Option, None, Some}
use Rattle.std.proofs.Common.{refl, ap, sym, subst, ◌∙◌}
use Rattle.cl_base.specs.declared.header.Header.{Header}
use Rattle.cmm_attempt.proofs.Basics.{none_some}
use Rattle.history.specs.Contents.{IsSpelled}
use Rattle.history.specs.Links.{links_after}
use Rattle.history.specs.Messages.{onto}
use Rattle.history.specs.Moment.{Moment, Part, Said}
use Rattle.history.specs.Trace.{delivered}
use Rattle.history_setting.specs.Settings.{setting_of}
use Rattle.interconnect.specs.Links.{Packet, oldest_on, packet_of}
use Rattle.node_model.specs.declared.node.Node.{Node}
use Rattle.node_model.specs.declared.node.Node.TheVariants.{Down, Up}
use Rattle.node_model.specs.declared.node.UpNode.{UpNode}
use Rattle.run_history.specs.Happenings.{Happening, MayHappen, happened}
use Rattle.run_history.specs.Happenings.Happening.{Arrives, Speaks, Strays}
use Rattle.run_history.specs.Scenes.{Scene, adding}
use Rattle.run_history.specs.Shapes.{IsThis, Want, brings, coming_to, delivering, of_oldest, of_packet, skipping}
use Rattle.run_history.specs.Shapes as want
use Rattle.run_lines.specs.Laws.{NumberIsLeft}
use Rattle.run_outcomes.specs.tasks.Laws.{QueuesAreTold}
use Rattle.run_packets.proofs.replies.Delivered.{OfLine, letter_bytes, line_of}
use Rattle.run_packets.specs.prepares.Events.{IsLeftAfter}
use Rattle.run_packets.specs.repeats.Events.{EventLaw, StartsElse}
use Rattle.node_model.specs.Members.{is_foreign}
use Rattle.run_packets.specs.views.Laws.{TellsHere, is_foreign_to}
use Rattle.schedule_text.specs.declared.event.Event.{Event}
use Rattle.schedule_text.specs.declared.event.Event.TheVariants as event
use Rattle.schedule_text.specs.declared.line.Line.TheVariants as line
use Rattle.status_report.specs.declared.schedule_entry.SkipCause.TheVariants as skip
use Rattle.wire.proofs.Messages.{whole_again}
use Rattle.wire.specs.Reads.{whole_of}
use Rattle.world_model.specs.First.{first_cluster}
use Rattle.run_outcomes.specs.reports.Events.{Leaves, LeftBy, Opening}
use Rattle.run_outcomes.specs.reports.Facts.{Facts}
use Rattle.run_outcomes.specs.reports.Laws.{ReadiesAreShort, RequestsAreOfAttempts, TaskReplies, TasksAreAnsweredInEachRun}
use Rattle.run_outcomes.proofs.reports.Arriving.{arrives_so}
use Rattle.run_outcomes.proofs.reports.Elses.{brings_else, leaves_else}
use Rattle.run_outcomes.proofs.reports.Events.{each_event}
use Rattle.run_outcomes.proofs.reports.Points.{facts_along}

module _ (h : Header) (cells : ℕ) (same : (setting_of h).cells ≡ cells) where
  -- the law, where a packet number is left
  abbrev pub Replied : EventLaw
  Replied before x entries = NumberIsLeft (setting_of h) (onto (x ∷ before) entries) → TaskReplies (setting_of h) before x entries

  else_so : (before : List Moment) (x : Moment) (later : List Moment) → StartsElse later → Replied before x later
  else_so before x [] is left = tt
  else_so before x (delivered p a b ∷ later) is left = absurd is
  else_so before x (y ∷ later) is left = tt

  -- a packet without a message has no letter
  strays_so : (s : Scene) (x : Moment) (number : ℕ) (y : Packet) → Facts h cells s → packet_of s.links.packets number ≡ Some y → whole_of y.bytes ≡ None → Replied s.moments x (delivered number y.from y.to ∷ [])
  strays_so s x number y f at none left l letter asks =
      let spelt : OfLine IsSpelled l = line_of IsSpelled number s.moments l f.known.spelled letter in
      absurd
      (none_some spelt.line_so.message
      (sym (ap whole_of (letter_bytes s number y l f.known.bytes at letter) ∙ none) ∙ (ap whole_of (sym spelt.line_so.spelled) ∙ whole_again spelt.line_so.message spelt.line_so.fits)))

  deliver_so : (s : Scene) (x : Moment) (number : ℕ) (y : Packet) (w : UpNode) (later : List Moment) (t : Scene) (g : Happening) → Facts h cells s → Facts h cells t → s.nodes.node y.to ≡ Up w → IsThis (want.Deliver number y) g
      → MayHappen (first_cluster h) (adding x s) g → TellsHere (first_cluster h) (adding x s) (λ before. false) g → LeftBy cells (first_cluster h) (adding x s) g later → onto (x ∷ s.moments) later ≡ t.moments → happened (first_cluster h) (adding x s) g ≡ t
      → Replied s.moments x later
  deliver_so s x number y w later t (Arrives k z m now ends) f g is_up is may native left moments then count =
      subst (λ xs. TaskReplies (setting_of h) s.moments x xs) (sym left.is)
      (arrives_so h cells s t x left.rest k z w m now ends (record {
        before = f;
        after = g;
        at = may.0;
        up = here;
        reads = may.1;
        native = sym (native_at (s.nodes.node z.to) here native);
        is = then;
        are = left.are_sent;
        moments = ap (onto (x ∷ s.moments)) (sym left.is) ∙ moments;
        left = subst (λ xs. IsLeftAfter cells (onto (x ∷ s.moments) xs)) left.is (subst (λ j. nat_lt (links_after j (onto (x ∷ s.moments) later)).next (2 ^ 63) ≡ true) same count);
      }))
    where
      here : s.nodes.node z.to ≡ Up w
      here = ap (λ (q : Packet). s.nodes.node q.to) is.1 ∙ is_up

      native_at : (node : Node) → node ≡ Up w → false ≡ is_foreign_to (first_cluster h) z.to node m.body → false ≡ is_foreign (first_cluster h) z.to w m.body
      native_at node at here = subst (λ q. false ≡ is_foreign_to (first_cluster h) z.to q m.body) at here
  deliver_so s x number y w later t (Strays k z) f g is_up is may native left moments then count =
      subst (λ xs. NumberIsLeft (setting_of h) (onto (x ∷ s.moments) xs) → TaskReplies (setting_of h) s.moments x xs) (sym left) (strays_so s x k z f may.0 may.1) count
  deliver_so s x number y w later t _ f g is_up is may native left moments then count = absurd is

  coming_so : (s : Scene) (x : Moment) (number : ℕ) (later : List Moment) (t : Scene) → Facts h cells s → Facts h cells t → Leaves cells (first_cluster h) (adding x s) (delivering (adding x s) number) later t → Replied s.moments x later
  coming_so s x number later t f g leaves = by_packet (packet_of s.links.packets number) leaves
    where
      by_node : (y : Packet) (z : Node) → s.nodes.node y.to ≡ z → Leaves cells (first_cluster h) (adding x s) (coming_to z number y) later t → Replied s.moments x later
      by_node y Down at k = else_so s.moments x later (leaves_else cells (first_cluster h) (adding x s) (want.Miss number y ∷ []) later t (tt, tt) k)
      by_node y (Up w) at k = deliver_so s x number y w later t k.happening f g at k.this k.may k.native k.left k.moments k.at

      by_packet : (o : Option Packet) → Leaves cells (first_cluster h) (adding x s) (of_packet o (λ y. coming_to (s.nodes.node y.to) number y)) later t → Replied s.moments x later
      by_packet None k = else_so s.moments x later (leaves_else cells (first_cluster h) (adding x s) (skipping skip.NoPacket) later t (tt, tt) k)
      by_packet (Some y) k = by_node y (s.nodes.node y.to) refl k

  next_so : (s : Scene) (x : Moment) (from to : ℕ) (later : List Moment) (t : Scene) → Facts h cells s → Facts h cells t
      → Leaves cells (first_cluster h) (adding x s) (of_oldest (oldest_on s.links.packets from to) (λ number. delivering (adding x s) number)) later t → Replied s.moments x later
  next_so s x from to later t f g leaves = by_oldest (oldest_on s.links.packets from to) leaves
    where
      by_oldest : (o : Option ℕ) → Leaves cells (first_cluster h) (adding x s) (of_oldest o (λ number. delivering (adding x s) number)) later t → Replied s.moments x later
      by_oldest None k = else_so s.moments x later (leaves_else cells (first_cluster h) (adding x s) (skipping skip.NoPacket) later t (tt, tt) k)
      by_oldest (Some number) k = coming_so s x number later t f g k

  line_replied : (s : Scene) (e : Event) (later : List Moment) (t : Scene) → Facts h cells s → Facts h cells t → Leaves cells (first_cluster h) (happened (first_cluster h) s (Speaks e)) (brings (first_cluster h) (happened (first_cluster h) s (Speaks e)) e) later t
      → Replied s.moments (Said (line.Event e)) later
  line_replied s (event.Deliver number) later t f g leaves = coming_so s (Said (line.Event (event.Deliver number))) number later t f g leaves
  line_replied s (event.Next from to) later t f g leaves = next_so s (Said (line.Event (event.Next from to))) from to later t f g leaves
  line_replied s e later t f g leaves =
      let u : Scene = happened (first_cluster h) s (Speaks e) in
      else_so s.moments (Said (line.Event e)) later (leaves_else cells (first_cluster h) u (brings (first_cluster h) u e) later t (brings_else (first_cluster h) u e tt) leaves)

  part_replied : (s : Scene) (e : Event) (later : List Moment) (t : Scene) → Facts h cells s → Facts h cells t → Leaves cells (first_cluster h) (adding (Part e) s) (brings (first_cluster h) (adding (Part e) s) e) later t → Replied s.moments (Part e) later
  part_replied s (event.Deliver number) later t f g leaves = coming_so s (Part (event.Deliver number)) number later t f g leaves
  part_replied s (event.Next from to) later t f g leaves = next_so s (Part (event.Next from to)) from to later t f g leaves
  part_replied s e later t f g leaves =
      let u : Scene = adding (Part e) s in
      else_so s.moments (Part e) later (leaves_else cells (first_cluster h) u (brings (first_cluster h) u e) later t (brings_else (first_cluster h) u e tt) leaves)

  replies_open : Opening Replied cells (first_cluster h) (Facts h cells)
  replies_open = record { line_so = line_replied; part_so = part_replied }

pub tasks_answered : QueuesAreTold → RequestsAreOfAttempts → ReadiesAreShort → TasksAreAnsweredInEachRun
tasks_answered queues asks ready h cells hs nodes few small disks same may shaped native boots =
    each_event (Replied h cells same) h cells hs (record { few = few; small = small }) (Facts h cells) (replies_open h cells same) (facts_along queues asks ready h cells hs nodes few small disks may shaped native boots) may shaped native
