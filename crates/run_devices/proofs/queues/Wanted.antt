-- What is due of commands at devices comes, one thing after another.
use Rattle.std.specs.Prelude.{ℕ, ◌-◌, ◌≡◌, ◌⊎◌, ◌++◌, true, List, [], ◌∷◌, Option, None, Some, is_some, slice_get, if◌then◌else◌}
use Rattle.std.specs.List.{list_any}
use Rattle.std.proofs.Common.{refl, sym, ap, subst, ◌∙◌, append-nil, inl, inr}
use Rattle.cl_base.specs.declared.header.Header.{Header}
use Rattle.cl_base.specs.declared.method.Outcome as method
use Rattle.cmm_attempt.proofs.Basics.{same_some}
use Rattle.pgr_device.specs.Device.{Device}
use Rattle.pgr_device.specs.declared.command.PrCommand.{PrCommand}
use Rattle.status_report.specs.declared.entry.Entry.TheVariants as entry
use Rattle.history.specs.Lines.{commands_in}
use Rattle.history.specs.Moment.{Moment, Told}
use Rattle.history.specs.Order.{OfEvents}
use Rattle.node_model.specs.declared.cluster.Cluster.{Cluster}
use Rattle.node_model.specs.declared.input.Input.{Input}
use Rattle.node_model.specs.declared.input.Input.TheVariants as input
use Rattle.world_model.specs.Devices.{due_at}
use Rattle.world_model.specs.First.{first_cluster}
use Rattle.run_history.proofs.DevicesRun.{due_tells}
use Rattle.run_history.specs.Happenings.{Happening, MayHappen, answering, commanded_at, given_by, happened}
use Rattle.run_history.specs.Happenings.Happening.{Commands as Commands_at, Notes, Takes}
use Rattle.run_history.specs.Scenes.{Scene}
use Rattle.run_history.specs.Shapes.{IsThis, Want, still}
use Rattle.run_history.specs.Shapes as want
use Rattle.run_lines.proofs.Adds.{Adds, added_of_event, adds_one}
use Rattle.run_devices.proofs.queues.Added.{IsAlone, due_in_event, happening_adds}
use Rattle.refinement.specs.Runs.{moved}
use Rattle.refinement.specs.Runs.Move.{Takes as Takes_in}
use Rattle.run_devices.specs.queues.Laws.{DoesDue, is_lost}
use Rattle.run_devices.proofs.queues.Readied.{Commands, Readied, commands_both, first_adds, readies_so}

-- ---- what is due

-- the entries of what is due: this command, or the node goes down; of what else is due nothing is said
abbrev pub Leaves : List (ℕ × PrCommand) → List Want → List Moment → Type 0
Leaves due [] entries = entries ≡ []
Leaves due (want.Note e ∷ wants) entries = entries ≡ Told (entry.Schedule e) ∷ []
Leaves due (want.Take n input.CommandDue ∷ wants) entries = DoesDue n due entries
Leaves due (want.Command n ∷ wants) entries = commands_in n entries ≡ due
Leaves due (w ∷ wants) entries = Unit {0}

-- the node has this command due
pub record HasDue (s : Scene) (n : ℕ) (due : List (ℕ × PrCommand)) : Type 0 where
  pub found : ℕ × PrCommand
  pub at : due_at (Some (s.nodes.node n)) ≡ Some found
  pub is : due ≡ found ∷ []

abbrev pub IsReady : Scene → List (ℕ × PrCommand) → List Want → Type 0
IsReady s due (want.Take n input.CommandDue ∷ wants) = HasDue s n due
IsReady s due (want.Command n ∷ wants) = HasDue s n due
IsReady s due _ = Unit {0}

-- what a law says of an event: of what was before it, of its line or part, and of its entries
abbrev pub EventLaw : Type 1
EventLaw = List Moment → Moment → List Moment → Type 0

-- the law holds of each event, once what is due has come
pub record Awaits (P : EventLaw) (s : Scene) (wants : List Want) : Type 0 where
  pub due : List (ℕ × PrCommand)
  pub alone : IsAlone wants
  pub ready : IsReady s due wants
  pub events : (later : List Moment) → Leaves due wants later → OfEvents P later s.moments

-- ---- what is due comes

ended : (P : EventLaw) (s t : Scene) (a : Adds s.moments t.moments) → OfEvents P a.entries s.moments → (later : List Moment) → later ≡ [] → OfEvents P later t.moments
ended P s t a k later none =
    subst (λ xs. OfEvents P xs t.moments) (sym none)
    (added_of_event P s.moments t.moments [] a (subst (λ ys. OfEvents P ys s.moments) (sym (append-nil a.entries)) k))

settles : (P : EventLaw) (s t : Scene) (w : Want) (wants : List Want) (k : Awaits P s (w ∷ wants)) → wants ≡ [] → (a : Adds s.moments t.moments) → Leaves k.due (w ∷ wants) a.entries
    → Awaits P t (still t wants)
settles P s t w wants k none a leaves =
    subst (λ ws. Awaits P t (still t ws)) (sym none) (record { due = []; alone = tt; ready = tt; events = ended P s t a (k.events a.entries leaves) })

-- a node has readied itself, and its command is due still, or it is down
readied_awaits : (P : EventLaw) (s t : Scene) (n : ℕ) (due : List (ℕ × PrCommand)) → HasDue s n due
    → Readied n s.moments t.moments (due_at (Some (s.nodes.node n))) (due_at (Some (t.nodes.node n)))
    → ((later : List Moment) → DoesDue n due later → OfEvents P later s.moments) → Awaits P t (still t (want.Command n ∷ []))
readied_awaits P s t n due ready r events = by_goes r.goes
  where
    a : Adds s.moments t.moments
    a = r.commands.adds

    goes_on : due_at (Some (t.nodes.node n)) ≡ due_at (Some (s.nodes.node n)) → Awaits P t (want.Command n ∷ [])
    goes_on same = record {
      due = due;
      alone = refl;
      ready = record { found = ready.found; at = same ∙ ready.at; is = ready.is };
      events = λ later leaves.
          added_of_event P s.moments t.moments later a
          (events (a.entries ++ later) (inl (commands_both n a.entries later ∙ (ap (λ zs. zs ++ commands_in n later) r.commands.are ∙ leaves))));
    }

    falls : list_any (is_lost n) a.entries ≡ true → Awaits P t []
    falls lost = record { due = []; alone = tt; ready = tt; events = ended P s t a (events a.entries (inr (r.commands.are, lost))) }

    by_goes : (due_at (Some (t.nodes.node n)) ≡ due_at (Some (s.nodes.node n))) ⊎ ((due_at (Some (t.nodes.node n)) ≡ None) × (list_any (is_lost n) a.entries ≡ true))
        → Awaits P t (still t (want.Command n ∷ []))
    by_goes (inl same) = subst (λ b. Awaits P t (if b then want.Command n ∷ [] else [])) (sym (ap is_some (same ∙ ready.at))) (goes_on same)
    by_goes (inr down) = subst (λ b. Awaits P t (if b then want.Command n ∷ [] else [])) (sym (ap is_some down.0)) (falls down.1)

-- the command is carried out
command_adds : (h : Header) (s : Scene) (n d : ℕ) (q : PrCommand) (now : ℕ) (ends : method.Outcome) → due_at (Some (s.nodes.node n)) ≡ Some (d, q)
    → Commands n ((d, q) ∷ []) s.moments (happened (first_cluster h) s (Commands_at n d q now ends)).moments
command_adds h s n d q now ends due = by_device (slice_get s.devices (d - 1))
  where
    c : Cluster
    c = first_cluster h

    by_device : (o : Option Device) → Commands n ((d, q) ∷ []) s.moments (answering c n now ends (commanded_at s n d o q)).moments
    by_device None =
        let i : Input = input.Answered (commanded_at s n d None q).answer in
        first_adds n d q (commanded_at s n d None q).answer (given_by c n now ends i s.nodes) (record s { nodes = moved c s.nodes (Takes_in n now ends i) })
        (due_tells h s n d q now ends (s.nodes.node n) refl due (commanded_at s n d None q))
    by_device (Some x) =
        let i : Input = input.Answered (commanded_at s n d (Some x) q).answer in
        first_adds n d q (commanded_at s n d (Some x) q).answer (given_by c n now ends i s.nodes)
        (record (commanded_at s n d (Some x) q).scene { nodes = moved c s.nodes (Takes_in n now ends i) })
        (due_tells h s n d q now ends (s.nodes.node n) refl due (commanded_at s n d (Some x) q))

pub due_comes : (P : EventLaw) (h : Header) (s : Scene) (w : Want) (wants : List Want) (x : Happening) → MayHappen (first_cluster h) s x → IsThis w x → Awaits P s (w ∷ wants)
    → Awaits P (happened (first_cluster h) s x) (still (happened (first_cluster h) s x) wants)
due_comes P h s (want.Take n input.CommandDue) wants (Takes m now ends j) may is k =
    let c : Cluster = first_cluster h in
    let t : Scene = happened c s (Takes n now ends input.CommandDue) in
    let one : Awaits P t (still t wants) =
    subst (λ ws. Awaits P t (still t ws)) (sym k.alone) (readied_awaits P s t n k.due k.ready (readies_so c n now ends s k.ready.found k.ready.at) k.events) in
    subst (λ z. Awaits P (happened c s (Takes z now ends j)) (still (happened c s (Takes z now ends j)) wants)) (sym is.0)
    (subst (λ i. Awaits P (happened c s (Takes n now ends i)) (still (happened c s (Takes n now ends i)) wants)) (sym is.1) one)
due_comes P h s (want.Take n input.CommandDue) wants _ may is k = absurd is
due_comes P h s (want.Command n) wants (Commands_at m d q now ends) may is k =
    let t : Scene = happened (first_cluster h) s (Commands_at m d q now ends) in
    let a : Commands m ((d, q) ∷ []) s.moments t.moments = command_adds h s m d q now ends may.2 in
    settles P s t (want.Command n) wants k k.alone a.adds
    (ap (λ z. commands_in z a.adds.entries) (sym is) ∙ (a.are ∙ (ap (λ z. z ∷ []) (same_some (d, q) k.ready.found (sym may.2 ∙ (ap (λ z. due_at (Some (s.nodes.node z))) is ∙ k.ready.at))) ∙ sym k.ready.is)))
due_comes P h s (want.Command n) wants _ may is k = absurd is
due_comes P h s (want.Note e) wants (Notes f) may is k =
    settles P s (happened (first_cluster h) s (Notes f)) (want.Note e) wants k k.alone.1
    (adds_one (entry.Schedule f) s.moments (due_in_event (want.Note e) wants (Notes f) is k.alone)) (ap (λ z. Told (entry.Schedule z) ∷ []) is)
due_comes P h s (want.Note e) wants _ may is k = absurd is
due_comes P h s w wants x may is k =
    let c : Cluster = first_cluster h in
    settles P s (happened c s x) w wants k k.alone (happening_adds c s x (due_in_event w wants x is k.alone)) tt
