-- What is due comes, one thing after another.
use Rattle.std.specs.Prelude.{ℕ, ◌^◌, ◌≡◌, ◌⊎◌, nat_lt, Bool, true, false, List, [], ◌∷◌, Option, None, Some, Result, Ok, Err, is_some, if◌then◌else◌}
use Rattle.std.specs.Option.{option_and_then, option_map}
use Rattle.std.proofs.Common.{refl, sym, ap, subst, ◌∙◌, inl, inr}
use Rattle.attempt_laws.proofs.Walk.{if_with}
use Rattle.cl_base.specs.Sets.{has}
use Rattle.cl_base.specs.declared.header.Header.{Header}
use Rattle.cl_base.specs.declared.packet.DropCause.TheVariants as drop
use Rattle.cmm_attempt.proofs.Basics.{none_some}
use Rattle.device_queue.specs.Queue.{first_of}
use Rattle.device_queue.specs.Tasks.{command_in, registers_first}
use Rattle.device_queue.specs.declared.task.Task.{Task}
use Rattle.device_queue.specs.declared.task.Work.{Work}
use Rattle.device_queue.specs.declared.task.Work.TheVariants.{Seizing as Seizes, Joining as Joins}
use Rattle.interconnect.specs.Links.{Packet, oldest_on, packet_of, removing}
use Rattle.pgr_device.specs.declared.command.PrCommand.{PrCommand}
use Rattle.schedule_text.specs.declared.event.Event.{Event}
use Rattle.schedule_text.specs.declared.event.Event.TheVariants as event
use Rattle.schedule_text.specs.declared.line.Line.TheVariants as line
use Rattle.seize.specs.Seizing as seizing
use Rattle.seize.specs.declared.step.SeizeStep.{SeizeStep}
use Rattle.seize.specs.declared.step.SeizeStep.TheVariants as step
use Rattle.status_report.specs.declared.device_entry.DeviceEntry.TheVariants as device
use Rattle.status_report.specs.declared.device_entry.WriteRefusal.{WriteRefusal}
use Rattle.status_report.specs.declared.entry.Entry.{Entry}
use Rattle.status_report.specs.declared.entry.Entry.TheVariants as entry
use Rattle.status_report.specs.declared.packet_entry.PacketEntry.TheVariants as packet
use Rattle.status_report.specs.declared.schedule_entry.SkipCause.{SkipCause}
use Rattle.history.specs.Moment.{Said}
use Rattle.node_model.specs.Addresses.{refusal_at}
use Rattle.node_model.specs.Devices.{may_write_as}
use Rattle.node_model.specs.declared.cluster.Cluster.{Cluster}
use Rattle.node_model.specs.declared.input.Input.{Input}
use Rattle.node_model.specs.declared.input.Input.TheVariants as input
use Rattle.node_model.specs.declared.node.Node.{Node}
use Rattle.node_model.specs.declared.node.Node.TheVariants.{Down, Up}
use Rattle.node_model.specs.declared.node.UpNode.{UpNode}
use Rattle.world_model.specs.Devices.{due_at}
use Rattle.world_model.specs.First.{first_cluster}
use Rattle.world_model.specs.Lines.{monitors}
use Rattle.run_history.specs.Happenings.{Happening, IsPlain, MayHappen, happened}
use Rattle.run_history.specs.Happenings.Happening.{Arrives, Begins, Commands, Loses, Misses, Notes, Refuses, Repeats, Speaks, Strays, Takes, Writes}
use Rattle.run_history.specs.Scenes.{Scene, adding}
use Rattle.run_history.specs.Rounds.{Progress}
use Rattle.run_history.specs.Shapes.{Comes, Due, IsDue, IsThis, Opens, Want, asking, booting, brings, coming_to, commanding, due_after, if_up, left, of_oldest, of_packet, opened, probing, still, taking_this, writing}
use Rattle.run_history.specs.Shapes as want
use Rattle.run_history.specs.Stages.{site_of}
use Rattle.history.specs.Validated.{validity}
use Rattle.run_devices.specs.validity.Kept.{Begins as Begins_at, readying}
use Rattle.run_devices.specs.validity.Laws.{Agrees}
use Rattle.run_devices.proofs.validity.Courses.{IsTrusting}
use Rattle.run_devices.proofs.validity.Moments.{Differs, Known, armed_strict, arrives_strict, commands_strict, delivered_strict, part_strict, readies_around, repeated_strict, said_strict, takes_strict, told_strict, writes_strict}
use Rattle.run_devices.proofs.validity.Steps.{Around, Strict, all_around, around}
use Rattle.run_devices.proofs.validity.Stills as stills

-- ---- what is due

-- one thing alone, or a readying with its command
abbrev WantsSo : List Want → Type 0
WantsSo [] = Unit {0}
WantsSo (want.Take n input.CommandDue ∷ wants) = wants ≡ want.Command n ∷ []
WantsSo (w ∷ wants) = wants ≡ []

-- the node whose command is due has readied itself for it
abbrev pub KeptBy : Header → Scene → List Want → Type 0
KeptBy h s (want.Command n ∷ wants) = Around h s n (readying (site_of s.nodes n))
KeptBy h s _ = Strict h s

pub record Kept (h : Header) (s : Scene) (wants : List Want) : Type 0 where
  pub wants_so : WantsSo wants
  pub so : KeptBy h s wants

strictly : (h : Header) (s : Scene) (wants : List Want) → Strict h s → KeptBy h s wants
strictly h s (want.Command n ∷ wants) k = around h s n (readying (site_of s.nodes n)) k
strictly h s [] k = k
strictly h s (want.Note e ∷ wants) k = k
strictly h s (want.Take n i ∷ wants) k = k
strictly h s (want.Deliver number x ∷ wants) k = k
strictly h s (want.Miss number x ∷ wants) k = k
strictly h s (want.Lose number x ∷ wants) k = k
strictly h s (want.Repeat number x ∷ wants) k = k
strictly h s (want.Write n d value ∷ wants) k = k
strictly h s (want.Refuse n d value why ∷ wants) k = k

-- what was due came, and nothing is due behind it
settled : (h : Header) (s : Scene) (wants : List Want) → wants ≡ [] → Strict h s → Kept h s (still s wants)
settled h s wants none k = subst (λ ws. Kept h s (still s ws)) (sym none) (record { wants_so = tt; so = k })

-- ---- what an event brings

up_wants : (node : Node) (f : UpNode → List Want) → ((x : UpNode) → WantsSo (f x)) → WantsSo (if_up node f)
up_wants Down f all = refl
up_wants (Up x) f all = all x

boot_wants : (n : ℕ) (node : Node) → WantsSo (booting n node)
boot_wants n Down = refl
boot_wants n (Up x) = refl

command_wants : (n : ℕ) (o : Option (ℕ × PrCommand)) → WantsSo (commanding n o)
command_wants n None = refl
command_wants n (Some due) = refl

write_wants : (n d value : ℕ) (r : Result ℕ WriteRefusal) → WantsSo (writing n d value r)
write_wants n d value (Ok e) = refl
write_wants n d value (Err why) = refl

probe_wants : (n : ℕ) (resource : List ℕ) (good b : Bool) → WantsSo (probing n resource good b)
probe_wants n resource good true = refl
probe_wants n resource good false = refl

client_wants : (n : ℕ) (address : List ℕ) (client port : ℕ) (o : Option SkipCause) → WantsSo (asking n (input.Client address client port) o)
client_wants n address client port None = refl
client_wants n address client port (Some why) = refl

packet_wants : (o : Option Packet) (f : Packet → List Want) → ((x : Packet) → WantsSo (f x)) → WantsSo (of_packet o f)
packet_wants None f all = refl
packet_wants (Some x) f all = all x

link_wants : (o : Option ℕ) (f : ℕ → List Want) → ((k : ℕ) → WantsSo (f k)) → WantsSo (of_oldest o f)
link_wants None f all = refl
link_wants (Some k) f all = all k

coming_wants : (node : Node) (number : ℕ) (x : Packet) → WantsSo (coming_to node number x)
coming_wants Down number x = refl
coming_wants (Up y) number x = refl

copy_wants : (b : Bool) (number : ℕ) (x : Packet) → WantsSo (if b then want.Repeat number x ∷ [] else [])
copy_wants true number x = refl
copy_wants false number x = tt

brings_so : (c : Cluster) (s : Scene) (e : Event) → WantsSo (brings c s e)
brings_so c s (event.Boot n) = boot_wants n (s.nodes.node n)
brings_so c s (event.Crash n) = up_wants (s.nodes.node n) (λ x. taking_this n input.Crash) (λ x. refl)
brings_so c s (event.CrashAt n calls choice) = refl
brings_so c s (event.Tick n) = up_wants (s.nodes.node n) (λ x. taking_this n input.Tick) (λ x. refl)
brings_so c s (event.Disk n) = up_wants (s.nodes.node n) (λ x. commanding n (due_at (Some (s.nodes.node n)))) (λ x. command_wants n (due_at (Some (s.nodes.node n))))
brings_so c s (event.Fault n d done) = refl
brings_so c s (event.Write n d value) =
    up_wants (s.nodes.node n) (λ x. writing n d value (may_write_as c n d x.seat)) (λ x. write_wants n d value (may_write_as c n d x.seat))
brings_so c s (event.Command n words) = up_wants (s.nodes.node n) (λ x. taking_this n (input.Commanded words)) (λ x. refl)
brings_so c s (event.Outcome n resource method outcome) = refl
brings_so c s (event.Probe n resource good) =
    up_wants (s.nodes.node n) (λ x. probing n resource good (monitors resource (Some (s.nodes.node n)))) (λ x. probe_wants n resource good (monitors resource (Some (s.nodes.node n))))
brings_so c s (event.Client n address client port) =
    up_wants (s.nodes.node n) (λ x. asking n (input.Client address client port) (refusal_at c address (s.nodes.node n)))
    (λ x. client_wants n address client port (refusal_at c address (s.nodes.node n)))
brings_so c s (event.Clock second) = refl
brings_so c s (event.Deliver number) =
    packet_wants (packet_of s.links.packets number) (λ x. coming_to (s.nodes.node x.to) number x) (λ x. coming_wants (s.nodes.node x.to) number x)
brings_so c s (event.Lose number) = packet_wants (packet_of s.links.packets number) (λ x. want.Lose number x ∷ []) (λ x. refl)
brings_so c s (event.Repeat number) =
    packet_wants (packet_of s.links.packets number) (λ x. if nat_lt s.links.next (2 ^ 63) then want.Repeat number x ∷ [] else []) (λ x. copy_wants (nat_lt s.links.next (2 ^ 63)) number x)
brings_so c s (event.Next a b) =
    link_wants (oldest_on s.links.packets a b) (λ k. of_packet (packet_of s.links.packets k) (λ x. coming_to (s.nodes.node x.to) k x))
    (λ k. packet_wants (packet_of s.links.packets k) (λ x. coming_to (s.nodes.node x.to) k x) (λ x. coming_wants (s.nodes.node x.to) k x))
brings_so c s (event.Drop a b) =
    link_wants (oldest_on s.links.packets a b) (λ k. of_packet (packet_of s.links.packets k) (λ x. want.Lose k x ∷ []))
    (λ k. packet_wants (packet_of s.links.packets k) (λ x. want.Lose k x ∷ []) (λ x. refl))
brings_so c s (event.Again a b) =
    link_wants (oldest_on s.links.packets a b) (λ k. of_packet (packet_of s.links.packets k) (λ x. if nat_lt s.links.next (2 ^ 63) then want.Repeat k x ∷ [] else []))
    (λ k. packet_wants (packet_of s.links.packets k) (λ x. if nat_lt s.links.next (2 ^ 63) then want.Repeat k x ∷ [] else []) (λ x. copy_wants (nat_lt s.links.next (2 ^ 63)) k x))
brings_so c s (event.Rounds count nodes) = tt

-- ---- a node that has readied itself has its command due

registers_due : (d : ℕ) (t : Task) (w : Work) → (if registers_first w then Some t.device else None) ≡ Some d → is_some (command_in w) ≡ true
registers_due d t (Seizes s) is = by_step s.step is
  where
    by_step : (p : SeizeStep) → (if registers_first (Seizes (record s { step = p })) then Some t.device else None) ≡ Some d → is_some (seizing.command_at s p) ≡ true
    by_step step.Register e = refl
    by_step step.Check e = refl
    by_step step.ReadWord e = refl
    by_step (step.Swap expected) e = refl
    by_step step.Reserve e = refl
    by_step (step.ReadKeys reading) e = refl
    by_step (step.Preempt victim reading) e = refl
    by_step (step.Confirm keys) e = refl
    by_step (step.Ended r) e = absurd (none_some d e)
registers_due d t (Joins j) is = absurd (none_some d is)

begins_due : (d : ℕ) (node : Node) → Begins_at d node → is_some (due_at (Some node)) ≡ true
begins_due d Down begins = absurd begins
begins_due d (Up x) begins = by_task (first_of x.tasks) begins
  where
    some_due : (at : ℕ) (q : Option PrCommand) → is_some q ≡ true
        → is_some (option_and_then {U = ℕ × PrCommand} (λ e. option_and_then {U = ℕ × PrCommand} (λ (j : PrCommand). Some (e, j)) q) (Some at)) ≡ true
    some_due at None is = is
    some_due at (Some j) is = refl

    by_task : (o : Option Task) → option_and_then (λ (t : Task). if registers_first t.work then Some t.device else None) o ≡ Some d
        → is_some (option_and_then {U = ℕ × PrCommand} (λ e. option_and_then {U = ℕ × PrCommand} (λ (j : PrCommand). Some (e, j)) (option_and_then (λ (t : Task). command_in t.work) o)) (option_map (λ (t : Task). t.device) o)) ≡ true
    by_task None is = absurd (none_some d is)
    by_task (Some t) is = some_due t.device (command_in t.work) (registers_due d t t.work is)

no_truth : false ≡ true → ⊥
no_truth e = cc

-- where no command is due it has not readied itself
readied_kept : (h : Header) (s : Scene) (n : ℕ) → Around h s n (readying (site_of s.nodes n)) → Kept h s (still s (want.Command n ∷ []))
readied_kept h s n k =
    if_with (Kept h s) (is_some (due_at (Some (s.nodes.node n)))) (is_some (due_at (Some (s.nodes.node n)))) (want.Command n ∷ []) [] refl (λ is. record { wants_so = refl; so = k })
    (λ none. record { wants_so = tt; so = all_around h s n (record { here = record { valid = λ d is. by_excuse d none (k.here.valid d is); up = k.here.up }; there = k.there; shown = k.shown }) })
  where
    by_excuse : (d : ℕ) → is_some (due_at (Some (s.nodes.node n))) ≡ false → Agrees (validity h n d s.moments) (has (s.nodes.disk n).kept.valid d) ⊎ readying (site_of s.nodes n) d
        → Agrees (validity h n d s.moments) (has (s.nodes.disk n).kept.valid d) ⊎ ⊥
    by_excuse d none (inl told) = inl told
    by_excuse d none (inr e) = absurd (no_truth (sym none ∙ begins_due d (s.nodes.node n) e.0))

-- ---- each thing that happens when it is due

pub trusting_or : (i : Input) → IsPlain i → (i ≡ input.CommandDue) ⊎ IsTrusting i
trusting_or input.CommandDue plain = inl refl
trusting_or input.Boot plain = inr tt
trusting_or input.Crash plain = inr tt
trusting_or input.Tick plain = inr tt
trusting_or (input.Commanded words) plain = inr tt
trusting_or (input.Reported resource good) plain = inr tt
trusting_or (input.Client address client port) plain = inr tt
trusting_or (input.Packet from m) plain = absurd plain
trusting_or (input.Answered a) plain = absurd plain
trusting_or (input.Wrote d value a) plain = absurd plain

alone : (n : ℕ) (i : Input) (wants : List Want) → IsTrusting i → WantsSo (want.Take n i ∷ wants) → wants ≡ []
alone n input.CommandDue wants trusts k = absurd trusts
alone n (input.Answered a) wants trusts k = absurd trusts
alone n input.Boot wants trusts k = k
alone n input.Crash wants trusts k = k
alone n input.Tick wants trusts k = k
alone n (input.Commanded words) wants trusts k = k
alone n (input.Reported resource good) wants trusts k = k
alone n (input.Client address client port) wants trusts k = k
alone n (input.Packet from m) wants trusts k = k
alone n (input.Wrote d value a) wants trusts k = k

due_so : (h : Header) (s : Scene) (w : Want) (wants : List Want) (x : Happening) → IsThis w x → MayHappen (first_cluster h) s x → Known h s → Differs h s x
    → Kept h s (w ∷ wants) → Kept h (happened (first_cluster h) s x) (still (happened (first_cluster h) s x) wants)
due_so h s (want.Note e) wants (Notes f) is may b differ k =
    settled h (happened (first_cluster h) s (Notes f)) wants k.wants_so (told_strict h s s.links (entry.Schedule f) (λ n. stills.still h s.moments n (entry.Schedule f) tt) tt k.so)
due_so h s (want.Take n i) wants (Takes m now ends j) is may b differ k = by_input (trusting_or j may.1)
  where
    t : Scene
    t = happened (first_cluster h) s (Takes m now ends j)

    by_input : (j ≡ input.CommandDue) ⊎ IsTrusting j → Kept h t (still t wants)
    by_input (inr trusts) = settled h t wants (alone n i wants (subst IsTrusting is.1 trusts) k.wants_so) (takes_strict h s m now ends j may b differ trusts k.so).0
    by_input (inl due) =
        let one : wants ≡ want.Command m ∷ [] = subst (λ z. WantsSo (want.Take n z ∷ wants)) (sym is.1 ∙ due) k.wants_so ∙ ap (λ z. want.Command z ∷ []) (sym is.0) in
        subst (λ ws. Kept h t (still t ws)) (sym one)
        (subst (λ z. Kept h (happened (first_cluster h) s (Takes m now ends z)) (still (happened (first_cluster h) s (Takes m now ends z)) (want.Command m ∷ []))) (sym due)
        (readied_kept h (happened (first_cluster h) s (Takes m now ends input.CommandDue)) m
        (readies_around h s m now ends (subst (λ z. MayHappen (first_cluster h) s (Takes m now ends z)) due may) b (subst (λ z. Differs h s (Takes m now ends z)) due differ) k.so).0))
due_so h s (want.Deliver number x) wants (Arrives j y m now ends) is may b differ k =
    settled h (happened (first_cluster h) s (Arrives j y m now ends)) wants k.wants_so (arrives_strict h s j y m now ends may b differ k.so).0
due_so h s (want.Deliver number x) wants (Strays j y) is may b differ k =
    settled h (happened (first_cluster h) s (Strays j y)) wants k.wants_so (delivered_strict h s j y.from y.to k.so)
due_so h s (want.Miss number x) wants (Misses j y) is may b differ k =
    let e : Entry = entry.Packet (packet.Dropped j drop.Down) in
    settled h (happened (first_cluster h) s (Misses j y)) wants k.wants_so (told_strict h s (removing s.links j) e (λ n. stills.still h s.moments n e tt) tt k.so)
due_so h s (want.Lose number x) wants (Loses j y) is may b differ k =
    let e : Entry = entry.Packet (packet.Lost j) in
    settled h (happened (first_cluster h) s (Loses j y)) wants k.wants_so (told_strict h s (removing s.links j) e (λ n. stills.still h s.moments n e tt) tt k.so)
due_so h s (want.Repeat number x) wants (Repeats j y) is may b differ k =
    settled h (happened (first_cluster h) s (Repeats j y)) wants k.wants_so (repeated_strict h s j y k.so)
due_so h s (want.Command n) wants (Commands m d q now ends) is may b differ k =
    settled h (happened (first_cluster h) s (Commands m d q now ends)) wants k.wants_so
    (commands_strict h s m d q now ends may b differ (subst (λ z. Around h s z (readying (site_of s.nodes z))) (sym is) k.so)).0
due_so h s (want.Write n d value) wants (Writes m e v now ends) is may b differ k =
    settled h (happened (first_cluster h) s (Writes m e v now ends)) wants k.wants_so (writes_strict h s m e v now ends may b differ k.so).0
due_so h s (want.Refuse n d value why) wants (Refuses m e v w) is may b differ k =
    let z : Entry = entry.Device (device.Refused m e v w) in
    settled h (happened (first_cluster h) s (Refuses m e v w)) wants k.wants_so (told_strict h s s.links z (λ n. stills.still h s.moments n z tt) tt k.so)
due_so h s _ wants _ is may b differ k = absurd is

opens_so : (h : Header) (s : Scene) (rounds : Option Progress) (x : Happening) → Opens s rounds x → Kept h s []
    → Kept h (happened (first_cluster h) s x) (opened (first_cluster h) (happened (first_cluster h) s x) rounds x).wants
opens_so h s None (Speaks e) opens k =
    let t : Scene = happened (first_cluster h) s (Speaks e) in
    record {
      wants_so = brings_so (first_cluster h) t e;
      so = strictly h t (brings (first_cluster h) t e) (armed_strict h (first_cluster h) e (adding (Said (line.Event e)) s) (said_strict h s e k.so));
    }
opens_so h s (Some p) (Begins e) opens k =
    let t : Scene = happened (first_cluster h) s (Begins e) in
    record { wants_so = brings_so (first_cluster h) t e; so = strictly h t (brings (first_cluster h) t e) (part_strict h s e k.so) }
opens_so h s (Some p) (Notes e) opens k =
    record { wants_so = tt; so = told_strict h s s.links (entry.Schedule e) (λ n. stills.still h s.moments n (entry.Schedule e) tt) tt k.so }
opens_so h s _ _ opens k = absurd opens

pub step_so : (h : Header) (s : Scene) (d : Due) (x : Happening) → IsDue s d x → MayHappen (first_cluster h) s x → Known h s → Differs h s x → Kept h s d.wants
    → Kept h (happened (first_cluster h) s x) (due_after (first_cluster h) (happened (first_cluster h) s x) d x).wants
step_so h s d x due may b differ k = by_wants d.wants due k
  where
    t : Scene
    t = happened (first_cluster h) s x

    by_wants : (wants : List Want) → Comes s wants d.rounds x → Kept h s wants → Kept h t (left (first_cluster h) t wants d.rounds x).wants
    by_wants [] comes l = opens_so h s d.rounds x comes l
    by_wants (w ∷ wants) comes l = due_so h s w wants x comes may b differ l
