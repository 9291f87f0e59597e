-- What the answer to a command tells of the word of the device.
use Rattle.std.specs.Prelude.{ℕ, ◌-◌, ◌≡◌, ◌==◌, ◌&&◌, Bool, true, false, Option, None, Some, Ok, slice_get, slice_set, if◌then◌else◌, unwrap_or}
use Rattle.std.proofs.Common.{refl, sym, ap, subst}
use Rattle.std.proofs.lemmas.Bool.{cond_both}
use Rattle.cl_base.specs.Sets.{has}
use Rattle.pgr_device.specs.Device.{Device}
use Rattle.pgr_device.specs.Registered.{has_key, registered_key}
use Rattle.pgr_device.specs.Spc as spc
use Rattle.pgr_device.specs.Spc.{Outcome, is_holders, may_read, may_write, shows_key}
use Rattle.pgr_device.specs.Access.{same_kind}
use Rattle.pgr_device.specs.declared.command.PrAnswer.TheVariants as answer
use Rattle.pgr_device.specs.declared.command.PrCommand.{PrCommand}
use Rattle.pgr_device.specs.declared.command.PrCommand.TheVariants as command
use Rattle.pgr_device.specs.declared.kind.PrKind.{PrKind}
use Rattle.pgr_device.specs.declared.registration.Reservation.{Reservation}
use Rattle.run_history.proofs.Places.{set_here}
use Rattle.run_history.specs.Happenings.{commanded, commanded_at}
use Rattle.run_history.specs.Scenes.{Scene, fault_in}
use Rattle.world_model.specs.Devices.{executed}
use Rattle.run_lines.specs.few.Counts.{TellsWord, word_at, word_of}

-- ---- a device

abbrev Tells : Device → Outcome → Type 0
Tells d o = TellsWord d.word o.after.word (Ok o.answer)

either : (d : Device) (b : Bool) (one other : Outcome) → Tells d one → Tells d other → Tells d (if b then one else other)
either d b one other h k = cond_both b one other (Tells d) (λ e. h) (λ e. k)

reserves : (d : Device) (node : ℕ) (kind : PrKind) (o : Option Reservation) → Tells d (spc.reserving d node kind o)
reserves d node kind None = tt
reserves d node kind (Some held) = either d ((held.holder == node) && same_kind held.kind kind) (spc.good d) (spc.conflict d) tt tt

releases : (d : Device) (node : ℕ) (kind : PrKind) (o : Option Reservation) → Tells d (spc.releasing d node kind o)
releases d node kind None = tt
releases d node kind (Some held) =
    either d (held.holder == node) (if same_kind held.kind kind then spc.good (record d { reservation = None }) else spc.answers d answer.InvalidRelease) (spc.good d)
    (either d (same_kind held.kind kind) (spc.good (record d { reservation = None })) (spc.answers d answer.InvalidRelease) tt tt) tt

swaps : (d : Device) (expect new : ℕ) → Tells d (spc.swapping d expect new)
swaps d expect new = either d (d.word == expect) (spc.good (record d { word = new })) (spc.answers d (answer.Miscompare d.word)) tt (refl, refl)

only : (d : Device) (node shown : ℕ) (o : Outcome) → Tells d o → Tells d (spc.registered_only d node shown o)
only d node shown o h = either d (shows_key (registered_key d.registrations node) shown) o (spc.conflict d) h tt

reads : (d : Device) (node : ℕ) (o : Outcome) → Tells d o → Tells d (spc.reading d node o)
reads d node o h = either d (may_read d.registrations node d.reservation) o (spc.conflict d) h tt

writes : (d : Device) (node : ℕ) (o : Outcome) → Tells d o → Tells d (spc.writing d node o)
writes d node o h = either d (may_write d.registrations node d.reservation) o (spc.conflict d) h tt

preempts : (d : Device) (node : ℕ) (kind : PrKind) (victim : ℕ) → Tells d (spc.preempting d node kind victim)
preempts d node kind victim = either d (has_key d.registrations victim) (spc.good (spc.preempted d node kind victim)) (spc.conflict d) tt tt

registers : (d : Device) (node key new : ℕ) (held : Option ℕ) → Tells d (spc.registering d node key new held)
registers d node key new held = either d (key == unwrap_or held 0) (spc.good (spc.with_key d node new held)) (spc.conflict d) tt tt

carries : (d : Device) (node : ℕ) (k : PrCommand) → Tells d (spc.carried_out d node k)
carries d node (command.Register key new) = registers d node key new (registered_key d.registrations node)
carries d node (command.Ignore new) = tt
carries d node (command.Reserve kind key) = only d node key (spc.reserving d node kind d.reservation) (reserves d node kind d.reservation)
carries d node (command.Release kind key) = only d node key (spc.releasing d node kind d.reservation) (releases d node kind d.reservation)
carries d node (command.Clear key) = only d node key (spc.good (spc.cleared d)) tt
carries d node (command.Preempt kind key victim) = only d node key (spc.preempting d node kind victim) (preempts d node kind victim)
carries d node command.Keys = tt
carries d node command.Holder = tt
carries d node command.Read = reads d node (spc.answers d (answer.Value d.value)) tt
carries d node (command.Write value) = writes d node (spc.good (record d { value = value })) tt
carries d node command.Word = reads d node (spc.answers d (answer.Word d.word)) refl
carries d node (command.Swap expect new) = writes d node (spc.swapping d expect new) (swaps d expect new)

executed_tells : (d : Device) (n : ℕ) (k : PrCommand) (f : Option Bool) → TellsWord d.word (executed d n k f).device.word (executed d n k f).answer
executed_tells d n k None = either d (has d.paths n) (spc.carried_out d n k) (spc.answers d answer.NoPath) (carries d n k) tt
executed_tells d n k (Some true) = tt
executed_tells d n k (Some false) = tt

-- ---- a scene

commanded_tells : (s : Scene) (n d : ℕ) (k : PrCommand) (o : Option Device) → slice_get s.devices (d - 1) ≡ o
    → TellsWord (word_at s.devices d) (word_at (commanded_at s n d o k).scene.devices d) (commanded_at s n d o k).answer
commanded_tells s n d k None is = tt
commanded_tells s n d k (Some device) is =
    let new : Device = (executed device n k (fault_in s n d)).device in
    let after : word_at (slice_set s.devices (d - 1) new) d ≡ new.word = ap word_of (set_here s.devices (d - 1) device new is) in
    subst (λ w. TellsWord w (word_at (slice_set s.devices (d - 1) new) d) (executed device n k (fault_in s n d)).answer) (sym (ap word_of is))
    (subst (λ w. TellsWord device.word w (executed device n k (fault_in s n d)).answer) (sym after) (executed_tells device n k (fault_in s n d)))

pub command_tells : (s : Scene) (n d : ℕ) (k : PrCommand) → TellsWord (word_at s.devices d) (word_at (commanded s n d k).scene.devices d) (commanded s n d k).answer
command_tells s n d k = commanded_tells s n d k (slice_get s.devices (d - 1)) refl

-- it leaves the nodes
pub command_nodes : (s : Scene) (n d : ℕ) (k : PrCommand) → (commanded s n d k).scene.nodes ≡ s.nodes
command_nodes s n d k = by_device (slice_get s.devices (d - 1))
  where
    by_device : (o : Option Device) → (commanded_at s n d o k).scene.nodes ≡ s.nodes
    by_device None = refl
    by_device (Some x) = refl
