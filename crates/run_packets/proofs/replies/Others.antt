-- In an event that delivers no packet no entry of a delivery stands first.
use Rattle.std.specs.Prelude.{ℕ, ◌^◌, nat_lt, Bool, true, false, List, [], ◌∷◌, Option, None, Some, Result, Ok, Err, if◌then◌else◌}
use Rattle.std.proofs.Common.{sym, subst}
use Rattle.history.specs.Moment.{Moment}
use Rattle.history.specs.Setting.{Setting}
use Rattle.history.specs.Trace.{delivered}
use Rattle.interconnect.specs.Links.{Packet, oldest_on, packet_of}
use Rattle.node_model.specs.Addresses.{refusal_at}
use Rattle.node_model.specs.Devices.{may_write_as}
use Rattle.node_model.specs.declared.cluster.Cluster.{Cluster}
use Rattle.node_model.specs.declared.input.Input.{Input}
use Rattle.node_model.specs.declared.input.Input.TheVariants as input
use Rattle.node_model.specs.declared.node.Node.{Node}
use Rattle.node_model.specs.declared.node.Node.TheVariants.{Down, Up}
use Rattle.node_model.specs.declared.node.UpNode.{UpNode}
use Rattle.pgr_device.specs.declared.command.PrCommand.{PrCommand}
use Rattle.run_history.specs.Scenes.{Scene}
use Rattle.run_history.specs.Shapes.{Want, asking, booting, brings, commanding, if_up, losing, of_oldest, of_packet, probing, repeating, taking_this, writing}
use Rattle.run_history.specs.Shapes as want
use Rattle.run_packets.specs.repeats.Events.{Leaves, StartsElse}
use Rattle.schedule_text.specs.declared.event.Event.{Event}
use Rattle.schedule_text.specs.declared.event.Event.TheVariants as event
use Rattle.status_report.specs.declared.device_entry.WriteRefusal.{WriteRefusal}
use Rattle.status_report.specs.declared.schedule_entry.ScheduleEntry.{ScheduleEntry}
use Rattle.status_report.specs.declared.schedule_entry.SkipCause.{SkipCause}
use Rattle.world_model.specs.Devices.{due_at}
use Rattle.world_model.specs.Lines.{monitors}
use Rattle.run_packets.specs.replies.Laws.{CollectReplies, OrderReplies, PrepareReplies}

-- where no delivery stands first nothing is owed
pub else_replies : (S : Setting) (before : List Moment) (x : Moment) (entries : List Moment) → StartsElse entries → OrderReplies S before x entries
else_replies S before x [] h = tt
else_replies S before x (delivered p a n ∷ later) h = absurd h
else_replies S before x (y ∷ later) h = tt

pub else_no_collect : (S : Setting) (before : List Moment) (x : Moment) (entries : List Moment) → StartsElse entries → CollectReplies S before x entries
else_no_collect S before x [] h = tt
else_no_collect S before x (delivered p a n ∷ later) h = absurd h
else_no_collect S before x (y ∷ later) h = tt

pub else_no_prepare : (S : Setting) (before : List Moment) (x : Moment) (entries : List Moment) → StartsElse entries → PrepareReplies S before x entries
else_no_prepare S before x [] h = tt
else_no_prepare S before x (delivered p a n ∷ later) h = absurd h
else_no_prepare S before x (y ∷ later) h = tt

-- the event delivers a packet, if one is there
abbrev pub IsNoDelivery : Event → Type 0
IsNoDelivery (event.Deliver number) = ⊥
IsNoDelivery (event.Next a b) = ⊥
IsNoDelivery _ = Unit {0}

module _ (cells : ℕ) (c : Cluster) (u : Scene) (later : List Moment) where
  Else : List Want → Type 0
  Else wants = Leaves cells c u wants later → StartsElse later

  note_else : (e : ScheduleEntry) → Else (want.Note e ∷ [])
  unfolding Else
  note_else e is = subst StartsElse (sym is) tt

  none_else : Else []
  unfolding Else
  none_else is = subst StartsElse (sym is) tt

  take_else : (n : ℕ) (i : Input) → Else (taking_this n i)
  unfolding Else
  take_else n i comes = comes.else_first

  boot_else : (n : ℕ) (z : Node) → Else (booting n z)
  boot_else n Down = take_else n input.Boot
  boot_else n (Up x) = note_else _

  up_else : (z : Node) (f : UpNode → List Want) → ((x : UpNode) → Else (f x)) → Else (if_up z f)
  up_else Down f all = note_else _
  up_else (Up x) f all = all x

  command_else : (n : ℕ) (o : Option (ℕ × PrCommand)) → Else (commanding n o)
  unfolding Else
  command_else n None = note_else _
  command_else n (Some due) = λ h. h

  write_else : (n d value : ℕ) (r : Result ℕ WriteRefusal) → Else (writing n d value r)
  unfolding Else
  write_else n d value (Ok e) = λ h. h
  write_else n d value (Err why) = λ h. h

  probe_else : (n : ℕ) (resource : List ℕ) (good b : Bool) → Else (probing n resource good b)
  probe_else n resource good true = take_else n (input.Reported resource good)
  probe_else n resource good false = note_else _

  client_else : (n : ℕ) (i : Input) (o : Option SkipCause) → Else (asking n i o)
  client_else n i None = take_else n i
  client_else n i (Some why) = note_else _

  packet_else : (o : Option Packet) (f : Packet → List Want) → ((x : Packet) → Else (f x)) → Else (of_packet o f)
  packet_else None f all = note_else _
  packet_else (Some x) f all = all x

  link_else : (o : Option ℕ) (f : ℕ → List Want) → ((k : ℕ) → Else (f k)) → Else (of_oldest o f)
  link_else None f all = note_else _
  link_else (Some k) f all = all k

  copy_else : (b : Bool) (number : ℕ) (x : Packet) → Else (if b then want.Repeat number x ∷ [] else [])
  unfolding Else
  copy_else true number x = λ h. h
  copy_else false number x = none_else

  lose_else : (number : ℕ) → Else (losing u number)
  unfolding Else
  lose_else number = packet_else (packet_of u.links.packets number) (λ x. want.Lose number x ∷ []) (λ x h. h)

  repeat_else : (number : ℕ) → Else (repeating u number)
  repeat_else number = packet_else (packet_of u.links.packets number) (λ x. if nat_lt u.links.next (2 ^ 63) then want.Repeat number x ∷ [] else []) (λ x. copy_else (nat_lt u.links.next (2 ^ 63)) number x)

  pub brings_else : (e : Event) → IsNoDelivery e → Leaves cells c u (brings c u e) later → StartsElse later
  unfolding Else
  brings_else (event.Boot n) no_packet = boot_else n (u.nodes.node n)
  brings_else (event.Crash n) no_packet = up_else (u.nodes.node n) (λ x. taking_this n input.Crash) (λ x. take_else n input.Crash)
  brings_else (event.CrashAt n calls choice) no_packet = note_else _
  brings_else (event.Tick n) no_packet = up_else (u.nodes.node n) (λ x. taking_this n input.Tick) (λ x. take_else n input.Tick)
  brings_else (event.Disk n) no_packet = up_else (u.nodes.node n) (λ x. commanding n (due_at (Some (u.nodes.node n)))) (λ x. command_else n (due_at (Some (u.nodes.node n))))
  brings_else (event.Fault n d done) no_packet = note_else _
  brings_else (event.Write n d value) no_packet = up_else (u.nodes.node n) (λ x. writing n d value (may_write_as c n d x.seat)) (λ x. write_else n d value (may_write_as c n d x.seat))
  brings_else (event.Command n words) no_packet = up_else (u.nodes.node n) (λ x. taking_this n (input.Commanded words)) (λ x. take_else n (input.Commanded words))
  brings_else (event.Outcome n resource method outcome) no_packet = note_else _
  brings_else (event.Probe n resource good) no_packet =
      up_else (u.nodes.node n) (λ x. probing n resource good (monitors resource (Some (u.nodes.node n)))) (λ x. probe_else n resource good (monitors resource (Some (u.nodes.node n))))
  brings_else (event.Client n address client port) no_packet =
      up_else (u.nodes.node n) (λ x. asking n (input.Client address client port) (refusal_at c address (u.nodes.node n)))
      (λ x. client_else n (input.Client address client port) (refusal_at c address (u.nodes.node n)))
  brings_else (event.Clock second) no_packet = note_else _
  brings_else (event.Deliver number) no_packet = absurd no_packet
  brings_else (event.Lose number) no_packet = lose_else number
  brings_else (event.Repeat number) no_packet = repeat_else number
  brings_else (event.Next a b) no_packet = absurd no_packet
  brings_else (event.Drop a b) no_packet = link_else (oldest_on u.links.packets a b) (λ k. losing u k) (λ k. lose_else k)
  brings_else (event.Again a b) no_packet = link_else (oldest_on u.links.packets a b) (λ k. repeating u k) (λ k. repeat_else k)
  brings_else (event.Rounds count nodes) no_packet = none_else
