-- Each run: a command that becomes the oldest that waits has its Request in that event.
use Rattle.std.specs.Prelude.{ℕ, ◌≡◌, ◌^◌, nat_lt, Bool, true, false, List, [], ◌∷◌, Option, None, Some}
use Rattle.std.specs.List.{list_any}
use Rattle.std.proofs.Common.{refl, sym, subst, ◌∙◌}
use Rattle.cl_base.specs.declared.header.Header.{Header}
use Rattle.history.specs.Commands.{is_monitors}
use Rattle.history.specs.Links.{links_after}
use Rattle.history.specs.Member.{member_of}
use Rattle.history.specs.Messages as messages
use Rattle.history.specs.Messages.{EachRequest, RequestsOf, oldest_waiting, requests, sends_or_falls}
use Rattle.history.specs.Moment.{Moment, Said}
use Rattle.history.specs.Order.{since}
use Rattle.history.specs.Seizing.{is_boot}
use Rattle.history.specs.Setting.{Setting}
use Rattle.history.specs.Trace.{answered, asked}
use Rattle.history_setting.specs.Settings.{setting_of}
use Rattle.interconnect.specs.Links as net
use Rattle.interconnect.specs.Links.{Links, sending}
use Rattle.node_model.specs.declared.node.Node.{Node}
use Rattle.node_model.specs.declared.node.Node.TheVariants.{Down, Up}
use Rattle.node_model.specs.declared.seat.Seat.{Seat}
use Rattle.node_model.specs.declared.seat.Seat.TheVariants.{Forming, Member}
use Rattle.run_commands.proofs.Coordinators.{AreLed, NodeLed, led_at}
use Rattle.run_commands.proofs.Runs.{FewLines, NodeFits, WaitsIn, few_before, waits_in_each}
use Rattle.run_history.proofs.LinksRun.{links_of_each_run}
use Rattle.run_history.proofs.MemberRuns.{first_fit}
use Rattle.run_history.proofs.Reached.{Reached}
use Rattle.run_history.specs.Happenings.{Happening, MayAllHappen, MayHappen, all_happened, commanded, happened, removed}
use Rattle.run_history.specs.Happenings.Happening.{Arrives, Begins, Commands, Loses, Misses, Notes, Refuses, Repeats, Speaks, Strays, Takes, Writes}
use Rattle.cl_base.specs.declared.packet.DropCause.{DropCause}
use Rattle.node_model.specs.declared.input.Input.TheVariants as input
use Rattle.pgr_device.specs.declared.command.PrCommand.TheVariants as command
use Rattle.schedule_text.specs.declared.line.Line.TheVariants as line
use Rattle.status_report.specs.declared.entry.Entry.TheVariants as entry
use Rattle.status_report.specs.declared.packet_entry.PacketEntry.TheVariants as packet
use Rattle.run_history.specs.Scenes.{Scene, adding, dropped_so, first_scene, telling, with_links}
use Rattle.run_history.specs.Stages.{Stage}
use Rattle.run_lines.proofs.Adds.{Adds, onto}
use Rattle.run_lines.proofs.Steps.{done_adds, taken_adds}
use Rattle.run_lines.proofs.Runs.{armed_moments, stage_presides}
use Rattle.run_lines.specs.Entries.{NodePresides}
use Rattle.run_messages.proofs.Reaching.{IsSmall, holds_of_each, stage_of}
use Rattle.run_messages.proofs.Runs.{memberships_of_each_run}
use Rattle.run_messages.specs.Laws.{IsSeated, membership_in}
use Rattle.world_model.specs.First.{first_cluster}
use Rattle.run_packets.specs.waiting.Events.{Way}
use Rattle.run_packets.specs.waiting.Laws.{CanonicalWordsAreShort, CommandsAreShort, HasRequests, RequestsOfEachRun}
use Rattle.run_packets.specs.waiting.Waiting.{CommandsFit}
use Rattle.run_packets.proofs.waiting.Lengths.{canonical_fits}
use Rattle.history.specs.Trace.{gives}
use Rattle.run_packets.specs.waiting.Sendings.{IsLeft, IsLeftAfter}
use Rattle.run_packets.specs.waiting.Waiting.{NodePaid, NodeQueues}
use Rattle.run_packets.proofs.waiting.Events.{each_of_run, events_so}
use Rattle.run_packets.proofs.waiting.Served.{QueuesIn, happening_queues}
use Rattle.run_packets.proofs.waiting.Serving.{SentBy, Serving, line_serving, part_serving, step_serving}
use Rattle.run_packets.proofs.waiting.Steps.{first_at}
use Rattle.run_packets.proofs.waiting.Owing.{member_so, no_member, or_first, or_later}

-- ---- what is known of each scene

record Known (h : Header) (cells : ℕ) (s : Scene) : Type 0 where
  stage : Stage (first_cluster h) s
  queues : QueuesIn s
  waits : WaitsIn s
  seated : (n : ℕ) → IsSeated s.moments n (s.nodes.node n)
  presides : (n : ℕ) → NodePresides n (s.nodes.node n)
  led : AreLed s
  fit : CommandsFit (setting_of h) s.moments
  linked : s.links ≡ links_after cells s.moments

-- ---- the law

-- .. by the links that the lines leave
abbrev RequestsIn : ℕ → List Moment → Moment → List Moment → Type 0
RequestsIn cells before x entries = IsLeftAfter cells (messages.onto (x ∷ before) entries) → EachRequest before entries (messages.onto (x ∷ before) entries) entries

node_so : (h : Header) (cells : ℕ) (n : ℕ) (b t : Scene) (entries : List Moment) → Known h cells b → Known h cells t → Serving b entries t → IsLeft t.links.next → RequestsOf b.moments entries t.moments n
node_so h cells n b t entries before after serving left = by_monitors (list_any (is_monitors n) (since (is_boot n) t.moments)) refl
  where
    by_node : (z : Node) → t.nodes.node n ≡ z → list_any (is_monitors n) (since (is_boot n) t.moments) ≡ false
        → requests n (member_of n t.moments) (oldest_waiting n t.moments t.moments) (oldest_waiting n b.moments b.moments) entries ≡ true
    by_node Down at quiet =
        subst (λ o. requests n o (oldest_waiting n t.moments t.moments) (oldest_waiting n b.moments b.moments) entries ≡ true) (sym (subst (λ z. IsSeated t.moments n z) at (after.seated n)))
        (no_member n b.moments t.moments entries (oldest_waiting n t.moments t.moments) (oldest_waiting n b.moments b.moments))
    by_node (Up y) at quiet =
        subst (λ o. requests n o (oldest_waiting n t.moments t.moments) (oldest_waiting n b.moments b.moments) entries ≡ true) (sym (subst (λ z. IsSeated t.moments n z) at (after.seated n))) (by_seat y.seat refl)
      where
        fits : NodeFits n t.moments (Up y)
        fits = subst (NodeFits n t.moments) at (after.waits.nodes n)

        by_seat : (w : Seat) → y.seat ≡ w → requests n (membership_in w) (oldest_waiting n t.moments t.moments) (oldest_waiting n b.moments b.moments) entries ≡ true
        by_seat (Forming s) sits = no_member n b.moments t.moments entries (oldest_waiting n t.moments t.moments) (oldest_waiting n b.moments b.moments)
        by_seat (Member s) sits =
            member_so n b.moments t.moments entries y s (b.nodes.node n) t sits (subst (NodePaid (first_at (b.nodes.node n)) (SentBy n entries t)) at (serving n)) left
            (subst (NodePresides n) at (after.presides n)) (subst NodeLed at (after.led n)) before.waits.said after.waits.said (before.waits.nodes n) (before.queues n) fits.0 (subst NodeQueues at (after.queues n)) quiet

    by_monitors : (m : Bool) → list_any (is_monitors n) (since (is_boot n) t.moments) ≡ m → RequestsOf b.moments entries t.moments n
    by_monitors true is = or_first (list_any (is_monitors n) (since (is_boot n) t.moments)) _ is
    by_monitors false is = or_later (list_any (is_monitors n) (since (is_boot n) t.moments)) _ (by_node (t.nodes.node n) refl is)

each_request : (before entries after : List Moment) → ((n : ℕ) → RequestsOf before entries after n) → (later : List Moment) → EachRequest before entries after later
each_request before entries after f [] = tt
each_request before entries after f (asked n q ∷ later) = (f n, each_request before entries after f later)
each_request before entries after f (answered n q reply ∷ later) = (f n, each_request before entries after f later)
each_request before entries after f (x ∷ later) = each_request before entries after f later

same_onto : (xs ms : List Moment) → onto xs ms ≡ messages.onto ms xs
same_onto [] ms = refl
same_onto (x ∷ xs) ms = same_onto xs (x ∷ ms)

ends : (h : Header) (cells : ℕ) (b t : Scene) (x : Moment) (entries : List Moment) → Known h cells b → Known h cells t → onto entries (x ∷ b.moments) ≡ t.moments → Serving b entries t → RequestsIn cells b.moments x entries
ends h cells b t x entries before after is serving left =
    let same : messages.onto (x ∷ b.moments) entries ≡ t.moments = sym (same_onto entries (x ∷ b.moments)) ∙ is in
    let some : IsLeft t.links.next = subst (λ (l : Links). IsLeft l.next) (sym after.linked) (subst (IsLeftAfter cells) same left) in
    subst (λ ms. EachRequest b.moments entries ms entries) (sym same) (each_request b.moments entries t.moments (λ n. node_so h cells n b t entries before after serving some) entries)

-- ---- the run

-- the premise
record Fits (h : Header) (ms : List Moment) : Type 0 where
  few : FewLines ms
  fit : CommandsFit (setting_of h) ms

tail_fits : (h : Header) (xs ms : List Moment) → CommandsFit (setting_of h) (onto xs ms) → CommandsFit (setting_of h) ms
tail_fits h [] ms all = all
tail_fits h (x ∷ xs) ms all = (tail_fits h xs (x ∷ ms) all).1

added_fits : (h : Header) {before after : List Moment} (a : Adds before after) → CommandsFit (setting_of h) after → CommandsFit (setting_of h) before
added_fits h a all = tail_fits h a.entries _ (subst (CommandsFit (setting_of h)) (sym a.is) all)

dropped_fits : (h : Header) (o : Option (ℕ × DropCause)) (s : Scene) → CommandsFit (setting_of h) (dropped_so o s).moments → CommandsFit (setting_of h) s.moments
dropped_fits h None s all = all
dropped_fits h (Some x) s all = all.1

fit_before : (h : Header) (s : Scene) (g : Happening) → CommandsFit (setting_of h) (happened (first_cluster h) s g).moments → CommandsFit (setting_of h) s.moments
fit_before h s (Speaks e) all = (subst (CommandsFit (setting_of h)) (armed_moments (first_cluster h) (adding (Said (line.Event e)) s) e) all).1
fit_before h s (Begins e) all = all.1
fit_before h s (Notes e) all = all.1
fit_before h s (Takes n now ends_so i) all = added_fits h (taken_adds (first_cluster h) n now ends_so i s) all
fit_before h s (Arrives number x m now ends_so) all =
    (added_fits h (taken_adds (first_cluster h) x.to now ends_so (input.Packet x.from m) (telling (entry.Packet (packet.Delivered number x.from x.to)) (removed s number))) all).1
fit_before h s (Strays number x) all = all.1
fit_before h s (Misses number x) all = all.1
fit_before h s (Loses number x) all = all.1
fit_before h s (Repeats number x) all =
    let o : net.Outcome = sending s.links x.from x.to x.bytes in
    (dropped_fits h o.sent.dropped (telling (entry.Packet (packet.Repeated number s.links.next)) (with_links s o.after)) all).1
fit_before h s (Commands n d k now ends_so) all = added_fits h (done_adds (first_cluster h) s n d now ends_so k (input.Answered (commanded s n d k).answer)) all
fit_before h s (Writes n d value now ends_so) all =
    added_fits h (done_adds (first_cluster h) s n d now ends_so (command.Write value) (input.Wrote d value (commanded s n d (command.Write value)).answer)) all
fit_before h s (Refuses n d value cause) all = all.1

fits_before : (h : Header) (s : Scene) (g : Happening) → MayHappen (first_cluster h) s g → Fits h (happened (first_cluster h) s g).moments → Fits h s.moments
fits_before h s g may all = record { few = few_before (first_cluster h) s g all.few; fit = fit_before h s g all.fit }

first_queues : (h : Header) (cells : ℕ) → QueuesIn (first_scene h cells)
unfolding first_scene
first_queues h cells = λ k. tt

queues_in_each : (h : Header) (cells : ℕ) (hs : List Happening) → IsSmall h → MayAllHappen (first_cluster h) (first_scene h cells) hs
    → CommandsFit (setting_of h) (all_happened (first_cluster h) (first_scene h cells) hs).moments → QueuesIn (all_happened (first_cluster h) (first_scene h cells) hs)
queues_in_each h cells hs size may fit =
    holds_of_each h cells (λ s. CommandsFit (setting_of h) s.moments → QueuesIn s)
    (λ s g now at more keeps all.
    let before : CommandsFit (setting_of h) s.moments = fit_before h s g all in happening_queues h s g (first_fit h size.few) now (stage_of h cells s size at) before (keeps before))
    (λ first. first_queues h cells) hs may fit

known_of : (h : Header) (cells : ℕ) → IsSmall h → (s : Scene) → Reached (first_cluster h) (first_scene h cells) s → Fits h s.moments → Known h cells s
known_of h cells size s r fits = subst (λ (t : Scene). Fits h t.moments → Known h cells t) r.is known fits
  where
    known : Fits h (all_happened (first_cluster h) (first_scene h cells) r.happenings).moments → Known h cells (all_happened (first_cluster h) (first_scene h cells) r.happenings)
    known all =
        let t : Scene = all_happened (first_cluster h) (first_scene h cells) r.happenings in
        let at : Reached (first_cluster h) (first_scene h cells) t = record { happenings = r.happenings; may = r.may; is = refl } in
        let b : Stage (first_cluster h) t = stage_of h cells t size at in
        record {
          stage = b;
          queues = queues_in_each h cells r.happenings size r.may all.fit;
          waits = waits_in_each h cells r.happenings size r.may all.few;
          seated = memberships_of_each_run h cells r.happenings size.few size.small r.may;
          presides = stage_presides (first_cluster h) t b;
          led = led_at h cells t size at;
          fit = all.fit;
          linked = (links_of_each_run h cells r.happenings r.may).links;
        }

way : (h : Header) (cells : ℕ) → IsSmall h → Way (first_cluster h) (Known h cells) Serving (RequestsIn cells)
way h cells size = record {
  line_so = λ s e k. line_serving (first_cluster h) s e;
  part_so = λ s e k. part_serving s e;
  step_so = λ b s entries g within may k next so. step_serving h b s entries g within may (first_fit h size.few) k.stage k.fit k.queues so;
  ends_so = λ b s first entries before after is so. ends h cells b s first entries before after is so;
}

pub canonical_words_are_short : CanonicalWordsAreShort
canonical_words_are_short h words few = canonical_fits h.version words few

commands_fit : (h : Header) (ms : List Moment) → CommandsAreShort ms → CommandsFit (setting_of h) ms
commands_fit h [] short = tt
commands_fit h (gives n words ∷ ms) short = (canonical_words_are_short h words short.0, commands_fit h ms short.1)
commands_fit h (x ∷ ms) short = (tt, commands_fit h ms short.1)

requests_so : (S : Setting) (cells : ℕ) → S.cells ≡ cells → (before : List Moment) (x : Moment) (entries : List Moment) → RequestsIn cells before x entries → HasRequests S before x entries
requests_so S cells same before x entries h left = h (subst (λ k. nat_lt (links_after k (messages.onto (x ∷ before) entries)).next (2 ^ 63) ≡ true) same left)

pub requests_of_each_run : RequestsOfEachRun
requests_of_each_run h cells hs S few small same may shaped lines short =
    events_so (RequestsIn cells) (HasRequests S) (requests_so S cells same) [] (all_happened (first_cluster h) (first_scene h cells) hs).moments
    (each_of_run h cells (Fits h) (Known h cells) Serving (RequestsIn cells) (way h cells (record { few = few; small = small })) (fits_before h) (known_of h cells (record { few = few; small = small })) hs may shaped
    (record { few = lines; fit = commands_fit h (all_happened (first_cluster h) (first_scene h cells) hs).moments short }))
