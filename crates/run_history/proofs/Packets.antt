-- Packets are delivered, lost and repeated.
use Rattle.std.specs.Prelude.{ℕ, ◌-◌, ◌^◌, ◌≡◌, ◌==◌, nat_lt, true, List, [], ◌∷◌, Option, None, Some, slice_get, if◌then◌else◌}
use Rattle.std.proofs.Common.{refl, sym, ap, subst, ◌∙◌, inl, inr}
use Rattle.std.proofs.lemmas.Bool.{cond_both}
use Rattle.cl_base.specs.declared.packet.DropCause.TheVariants as drop
use Rattle.cmm_attempt.proofs.Basics.{none_some}
use Rattle.interconnect.specs.Links as links
use Rattle.interconnect.specs.Links.{Packet, packet_of, removing, sending}
use Rattle.schedule_text.specs.declared.line.Line.{Line}
use Rattle.status_report.specs.declared.entry.Entry.{Entry}
use Rattle.status_report.specs.declared.entry.Entry.TheVariants as entry
use Rattle.status_report.specs.declared.packet_entry.PacketEntry.TheVariants as packet
use Rattle.status_report.specs.declared.schedule_entry.ScheduleEntry.TheVariants.{Skipped}
use Rattle.status_report.specs.declared.schedule_entry.SkipCause.TheVariants.{NoPacket}
use Rattle.wire.specs.declared.message.Message.{Message}
use Rattle.wire.specs.Reads.{whole_of}
use Rattle.history.specs.Order.{under_way}
use Rattle.node_model.specs.declared.cluster.Cluster.{Cluster}
use Rattle.node_model.specs.declared.input.Input.TheVariants as input
use Rattle.node_model.specs.declared.node.Node.{Node}
use Rattle.node_model.specs.declared.node.Node.TheVariants.{Down, Up}
use Rattle.node_model.specs.declared.node.UpNode.{UpNode}
use Rattle.world_model.specs.Packets.{copying, delivering, delivering_as, losing, losing_as, repeating_as, repeating_one, taking, with_oldest}
use Rattle.world_model.specs.Sends.{giving, with_links}
use Rattle.world_model.specs.Worlds as world
use Rattle.world_model.specs.Worlds.{Play, is_up}
use Rattle.refinement.specs.Guards.{IsDown}
use Rattle.refinement.specs.Worlds.{GivesFit, PacketSent}
use Rattle.refinement.proofs.Worlds.{all_found, removing_sent, sending_sent}
use Rattle.run_history.specs.Bringing.{IsDelivery, IsLoss, IsRepeat}
use Rattle.run_history.specs.Happenings.{happened, removed}
use Rattle.run_history.specs.Happenings.Happening.{Arrives, Loses, Misses, Repeats, Strays}
use Rattle.run_history.specs.Scenes as scene
use Rattle.run_history.specs.Scenes.{Scene}
use Rattle.run_history.proofs.Gives.{Gave, gave_so}
use Rattle.run_history.specs.Rounds.{Progress}
use Rattle.run_history.specs.Shapes.{Due, Want, coming_to, delivering as delivering_wants, due, losing as losing_wants, of_oldest, of_packet, repeating as repeating_wants, skipping}
use Rattle.run_history.specs.Shapes.Want.{Deliver, Lose, Miss, Repeat}
use Rattle.run_history.proofs.Places.{if_false, if_true}
use Rattle.run_history.proofs.Reached.{reached_as}
use Rattle.run_history.proofs.Stands.{Stands, as_due, down_there, followed, is_up_in, node_number, noted, seen, stands_so, up_there}
use Rattle.run_history.proofs.Views.{Follows, dropped_so, linked_so, told_so}

-- a packet in flight is from a node that sent it
one_of : (c : Cluster) (first : Scene) (text : List ℕ) (said : List Line) (d : Due) (p : Play) (number : ℕ) (x : Packet) (h : Stands c first text said d p)
    → packet_of p.world.links.packets number ≡ Some x
    → PacketSent h.nodes.sent x
one_of c first text said d p number x h is = all_found (PacketSent h.nodes.sent) (λ (y : Packet). y.number == number) p.world.links.packets x h.alike.shows.packets is

abbrev without : Play → ℕ → Play
without p number = with_links p (removing p.world.links number)

-- the packet is taken out of the links
taken_out : (c : Cluster) (first : Scene) (text : List ℕ) (said : List Line) (d : Due) (p : Play) (number : ℕ) (h : Stands c first text said d p)
    → Follows c text said h.nodes (removed (seen c first text said d p h) number) (without p number)
taken_out c first text said d p number h =
    linked_so c text said h.nodes (seen c first text said d p h) p (removing p.world.links number) (removing_sent h.nodes.sent p.world.links number h.alike.shows.packets) (followed c first text said d p h)

-- .. and this is told of it
told_out : (c : Cluster) (first : Scene) (text : List ℕ) (said : List Line) (d : Due) (p : Play) (number : ℕ) (e : Entry) (h : Stands c first text said d p)
    → Follows c text said h.nodes (scene.telling e (removed (seen c first text said d p h) number)) (world.telling e (without p number))
told_out c first text said d p number e h =
    told_so c text said h.nodes (removed (seen c first text said d p h) number) (without p number) e (taken_out c first text said d p number h)

abbrev delivered_line : ℕ → Packet → Entry
delivered_line number x = entry.Packet (packet.Delivered number x.from x.to)

-- it comes to a node that is up
taken_so : (c : Cluster) → GivesFit c
    → (first : Scene) (text : List ℕ) (said : List Line) (rounds : Option Progress) (p : Play) (number : ℕ) (x : Packet) (y : UpNode) (o : Option Message)
    (h : Stands c first text said (due (Deliver number x ∷ []) rounds) p)
    → packet_of p.world.links.packets number ≡ Some x → slice_get p.world.nodes (x.to - 1) ≡ Some (Up y) → whole_of x.bytes ≡ o
    → IsDelivery p.world.links.packets number (under_way h.moments)
    → Stands c first text said (due [] rounds) (taking x.from x.to o (world.telling (delivered_line number x) (without p number)))
taken_so c gives first text said rounds p number x y None h is at whole brought =
    let d : Due = due (Deliver number x ∷ []) rounds in
    let s : Scene = seen c first text said d p h in
    let one : PacketSent h.nodes.sent x = one_of c first text said d p number x h is in
    stands_so c first text said (due [] rounds) (world.telling (delivered_line number x) (without p number)) h.nodes (happened c s (Strays number x))
    (reached_as c first d (due [] rounds) s (Strays number x) h.reached (is, whole, is_up_in c h.nodes p.world x.to y one.0 at h.alike, brought) (refl, refl) refl)
    (told_out c first text said d p number (delivered_line number x) h)
taken_so c gives first text said rounds p number x y (Some m) h is at whole brought =
    go (subst (λ z. Gave c text said h.nodes z x.to q.world.clock q.world.nodes (input.Packet x.from m) (giving x.to (input.Packet x.from m) q)) f.is
    (gave_so c gives text said h.nodes f.moments q x.to (input.Packet x.from m) f.spoken f.written one.0 (one.1 m whole) tt f.alike))
  where
    d : Due
    d = due (Deliver number x ∷ []) rounds

    s : Scene
    s = seen c first text said d p h

    q : Play
    q = world.telling (delivered_line number x) (without p number)

    one : PacketSent h.nodes.sent x
    one = one_of c first text said d p number x h is

    f : Follows c text said h.nodes (scene.telling (delivered_line number x) (removed s number)) q
    f = told_out c first text said d p number (delivered_line number x) h

    go : Gave c text said h.nodes (scene.telling (delivered_line number x) (removed s number)) x.to q.world.clock q.world.nodes (input.Packet x.from m) (giving x.to (input.Packet x.from m) q)
        → Stands c first text said (due [] rounds) (giving x.to (input.Packet x.from m) q)
    go (inl none) = absurd (none_some (Up y) (sym none.nobody ∙ at))
    go (inr k) =
        stands_so c first text said (due [] rounds) (giving x.to (input.Packet x.from m) q) _ (happened c s (Arrives number x m p.world.clock k.ends))
        (reached_as c first d (due [] rounds) s (Arrives number x m p.world.clock k.ends) h.reached
        (is, whole, is_up_in c h.nodes p.world x.to y one.0 at h.alike, node_number c h.nodes p.world x.to (Up y) one.0 at h.alike, one.1 m whole, h.alike.shows.clock, brought) (refl, refl) refl) k.follows

comes_up : (z : Node) (y : UpNode) (number : ℕ) (x : Packet) → z ≡ Up y → coming_to z number x ≡ Deliver number x ∷ []
comes_up z y number x is = ap (λ w. coming_to w number x) is

misses_it : (z : Node) (number : ℕ) (x : Packet) → IsDown z → coming_to z number x ≡ Miss number x ∷ []
misses_it Down number x down = refl
misses_it (Up y) number x down = absurd down

missed_so : (c : Cluster) (first : Scene) (text : List ℕ) (said : List Line) (rounds : Option Progress) (p : Play) (number : ℕ) (x : Packet) (h : Stands c first text said (due (Miss number x ∷ []) rounds) p)
    → packet_of p.world.links.packets number ≡ Some x → IsDown (h.nodes.node x.to) → IsDelivery p.world.links.packets number (under_way h.moments)
    → Stands c first text said (due [] rounds) (world.telling (entry.Packet (packet.Dropped number drop.Down)) (without p number))
missed_so c first text said rounds p number x h is down brought =
    let d : Due = due (Miss number x ∷ []) rounds in
    let s : Scene = seen c first text said d p h in
    let missed : Entry = entry.Packet (packet.Dropped number drop.Down) in
    stands_so c first text said (due [] rounds) (world.telling missed (without p number)) h.nodes (happened c s (Misses number x))
    (reached_as c first d (due [] rounds) s (Misses number x) h.reached (is, down, brought) (refl, refl) refl) (told_out c first text said d p number missed h)

delivered_as : (c : Cluster) → GivesFit c → (first : Scene) (text : List ℕ) (said : List Line) (wants : List Want) (rounds : Option Progress) (p : Play) (number : ℕ) (o : Option Packet)
    → packet_of p.world.links.packets number ≡ o → (h : Stands c first text said (due wants rounds) p) → wants ≡ of_packet o (λ x. coming_to (h.nodes.node x.to) number x)
    → IsDelivery p.world.links.packets number (under_way h.moments) → Stands c first text said (due [] rounds) (delivering_as number o p)
delivered_as c gives first text said wants rounds p number None is h shape brought =
    noted c first text said rounds p (Skipped NoPacket) (as_due c first text said rounds p wants (skipping NoPacket) shape h)
delivered_as c gives first text said wants rounds p number (Some x) is h shape brought =
    let d : Due = due wants rounds in
    let one : PacketSent h.nodes.sent x = one_of c first text said d p number x h is in
    let q : Play = without p number in
    cond_both (is_up p.world x.to) (taking x.from x.to (whole_of x.bytes) (world.telling (delivered_line number x) q)) (world.telling (entry.Packet (packet.Dropped number drop.Down)) q)
    (Stands c first text said (due [] rounds))
    (λ up. up_there (slice_get p.world.nodes (x.to - 1)) (Stands c first text said (due [] rounds) (taking x.from x.to (whole_of x.bytes) (world.telling (delivered_line number x) q))) up
    (λ y at. taken_so c gives first text said rounds p number x y (whole_of x.bytes)
    (as_due c first text said rounds p wants (Deliver number x ∷ []) (shape ∙ comes_up (h.nodes.node x.to) y number x (h.alike.shows.node x.to (Up y) one.0 at)) h) is at refl brought))
    (λ down. let gone : IsDown (h.nodes.node x.to) = down_there c h.nodes p.world x.to (slice_get p.world.nodes (x.to - 1)) one.0 refl down h.alike in
    missed_so c first text said rounds p number x (as_due c first text said rounds p wants (Miss number x ∷ []) (shape ∙ misses_it (h.nodes.node x.to) number x gone) h) is gone brought)

pub delivered_so : (c : Cluster) → GivesFit c → (first : Scene) (text : List ℕ) (said : List Line) (wants : List Want) (rounds : Option Progress) (p : Play) (number : ℕ)
    → (h : Stands c first text said (due wants rounds) p) → wants ≡ delivering_wants (seen c first text said (due wants rounds) p h) number
    → IsDelivery p.world.links.packets number (under_way h.moments) → Stands c first text said (due [] rounds) (delivering number p)
delivered_so c gives first text said wants rounds p number h shape brought =
    delivered_as c gives first text said wants rounds p number (packet_of p.world.links.packets number) refl h shape brought

lost_as : (c : Cluster) (first : Scene) (text : List ℕ) (said : List Line) (wants : List Want) (rounds : Option Progress) (p : Play) (number : ℕ) (o : Option Packet) → packet_of p.world.links.packets number ≡ o
    → (h : Stands c first text said (due wants rounds) p) → wants ≡ of_packet o (λ x. Lose number x ∷ []) → IsLoss p.world.links.packets number (under_way h.moments)
    → Stands c first text said (due [] rounds) (losing_as number o p)
lost_as c first text said wants rounds p number None is h shape brought =
    noted c first text said rounds p (Skipped NoPacket) (as_due c first text said rounds p wants (skipping NoPacket) shape h)
lost_as c first text said wants rounds p number (Some x) is h shape brought =
    let d : Due = due (Lose number x ∷ []) rounds in
    let k : Stands c first text said d p = as_due c first text said rounds p wants (Lose number x ∷ []) shape h in
    let s : Scene = seen c first text said d p k in
    let lost : Entry = entry.Packet (packet.Lost number) in
    stands_so c first text said (due [] rounds) (world.telling lost (without p number)) h.nodes (happened c s (Loses number x))
    (reached_as c first d (due [] rounds) s (Loses number x) k.reached (is, brought) (refl, refl) refl) (told_out c first text said d p number lost k)

pub lost_so : (c : Cluster) (first : Scene) (text : List ℕ) (said : List Line) (wants : List Want) (rounds : Option Progress) (p : Play) (number : ℕ) → (h : Stands c first text said (due wants rounds) p)
    → wants ≡ losing_wants (seen c first text said (due wants rounds) p h) number → IsLoss p.world.links.packets number (under_way h.moments)
    → Stands c first text said (due [] rounds) (losing number p)
lost_so c first text said wants rounds p number h shape brought = lost_as c first text said wants rounds p number (packet_of p.world.links.packets number) refl h shape brought

-- a copy is made
copied_so : (c : Cluster) (first : Scene) (text : List ℕ) (said : List Line) (rounds : Option Progress) (p : Play) (number : ℕ) (x : Packet) → packet_of p.world.links.packets number ≡ Some x
    → nat_lt p.world.links.next (2 ^ 63) ≡ true → (h : Stands c first text said (due (Repeat number x ∷ []) rounds) p) → IsRepeat p.world.links.packets number (under_way h.moments)
    → Stands c first text said (due [] rounds) (copying number (sending p.world.links x.from x.to x.bytes) p)
copied_so c first text said rounds p number x is few h brought =
    let d : Due = due (Repeat number x ∷ []) rounds in
    let s : Scene = seen c first text said d p h in
    let one : PacketSent h.nodes.sent x = one_of c first text said d p number x h is in
    let o : links.Outcome = sending p.world.links x.from x.to x.bytes in
    let copied : Entry = entry.Packet (packet.Repeated number p.world.links.next) in
    stands_so c first text said (due [] rounds) (copying number o p) h.nodes (happened c s (Repeats number x))
    (reached_as c first d (due [] rounds) s (Repeats number x) h.reached (is, few, brought) (refl, refl) refl)
    (dropped_so c text said h.nodes (scene.telling copied (scene.with_links s o.after)) (world.telling copied (with_links p o.after)) o.sent.dropped
    (told_so c text said h.nodes (scene.with_links s o.after) (with_links p o.after) copied
    (linked_so c text said h.nodes s p o.after (sending_sent h.nodes.sent p.world.links x.from x.to x.bytes h.alike.shows.packets one) (followed c first text said d p h))))

repeated_as : (c : Cluster) (first : Scene) (text : List ℕ) (said : List Line) (wants : List Want) (rounds : Option Progress) (p : Play) (number : ℕ) (o : Option Packet)
    → packet_of p.world.links.packets number ≡ o → (h : Stands c first text said (due wants rounds) p)
    → wants ≡ of_packet o (λ x. if nat_lt p.world.links.next (2 ^ 63) then Repeat number x ∷ [] else []) → IsRepeat p.world.links.packets number (under_way h.moments)
    → Stands c first text said (due [] rounds) (repeating_as number o p)
repeated_as c first text said wants rounds p number None is h shape brought =
    noted c first text said rounds p (Skipped NoPacket) (as_due c first text said rounds p wants (skipping NoPacket) shape h)
repeated_as c first text said wants rounds p number (Some x) is h shape brought =
    cond_both (nat_lt p.world.links.next (2 ^ 63)) (copying number (sending p.world.links x.from x.to x.bytes) p) p (Stands c first text said (due [] rounds))
    (λ e. copied_so c first text said rounds p number x is e
    (as_due c first text said rounds p wants (Repeat number x ∷ []) (shape ∙ if_true (nat_lt p.world.links.next (2 ^ 63)) (Repeat number x ∷ []) [] e) h) brought)
    (λ e. as_due c first text said rounds p wants [] (shape ∙ if_false (nat_lt p.world.links.next (2 ^ 63)) (Repeat number x ∷ []) [] e) h)

pub repeated_so : (c : Cluster) (first : Scene) (text : List ℕ) (said : List Line) (wants : List Want) (rounds : Option Progress) (p : Play) (number : ℕ)
    → (h : Stands c first text said (due wants rounds) p) → wants ≡ repeating_wants (seen c first text said (due wants rounds) p h) number
    → IsRepeat p.world.links.packets number (under_way h.moments) → Stands c first text said (due [] rounds) (repeating_one number p)
repeated_so c first text said wants rounds p number h shape brought =
    repeated_as c first text said wants rounds p number (packet_of p.world.links.packets number) refl h shape brought

-- the oldest packet of a link, where it has one
pub oldest_so : (c : Cluster) (first : Scene) (text : List ℕ) (said : List Line) (wants : List Want) (rounds : Option Progress) (act : ℕ → Play → Play) (brought : ℕ → List Want) (p : Play) (o : Option ℕ)
    → wants ≡ of_oldest o brought → ((number : ℕ) → o ≡ Some number → wants ≡ brought number → Stands c first text said (due [] rounds) (act number p))
    → Stands c first text said (due wants rounds) p → Stands c first text said (due [] rounds) (with_oldest act o p)
oldest_so c first text said wants rounds act brought p None shape all h =
    noted c first text said rounds p (Skipped NoPacket) (as_due c first text said rounds p wants (skipping NoPacket) shape h)
oldest_so c first text said wants rounds act brought p (Some number) shape all h = all number refl shape
