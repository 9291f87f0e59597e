-- Each line of a schedule in the world is things that happen.
use Rattle.std.specs.Prelude.{ℕ, ◌≡◌, ◌≤◌, ◌++◌, Bool, true, false, List, [], ◌∷◌, Option, None, Some, if◌then◌else◌}
use Rattle.std.proofs.Common.{refl, sym, ap, ◌∙◌}
use Rattle.std.proofs.lemmas.Bool.{cond_both}
use Rattle.std.specs.List.{AllByRecursion}
use Rattle.interconnect.specs.Links.{oldest_on}
use Rattle.schedule_text.specs.declared.event.Event.{Event}
use Rattle.schedule_text.specs.declared.event.Event.TheVariants as event
use Rattle.schedule_text.specs.declared.line.Line.{Line}
use Rattle.schedule_text.specs.declared.line.Line.TheVariants as line
use Rattle.status_report.specs.declared.schedule_entry.ScheduleEntry.TheVariants.{Clock, Queued, Skipped}
use Rattle.status_report.specs.declared.schedule_entry.SkipCause.{SkipCause}
use Rattle.status_report.specs.declared.schedule_entry.SkipCause.TheVariants as skip
use Rattle.history.specs.Letters.{arrived}
use Rattle.history.specs.Order.{under_way}
use Rattle.node_model.specs.Addresses.{refusal_at}
use Rattle.node_model.specs.declared.cluster.Cluster.{Cluster}
use Rattle.node_model.specs.declared.input.Input.{Input}
use Rattle.node_model.specs.declared.input.Input.TheVariants as input
use Rattle.world_model.specs.Devices as world
use Rattle.node_model.specs.declared.node.Node.{Node}
use Rattle.node_model.specs.declared.node.Node.TheVariants.{Down, Up}
use Rattle.node_model.specs.declared.node.UpNode.{UpNode}
use Rattle.refinement.specs.Guards.{IsDown}
use Rattle.world_model.specs.declared.scripted.Scripted.{Scripted}
use Rattle.world_model.specs.Lines.{asking, asking_at, booting, giving_up, line_on, monitors, probing, probing_up, refusal_in}
use Rattle.world_model.specs.Packets.{delivering, losing, repeating_one}
use Rattle.world_model.specs.Sends.{giving}
use Rattle.world_model.specs.Worlds.{Play, is_up, node_at, skipping, with_world}
use Rattle.refinement.specs.Runs.{AnswersFit, Nodes, WasSent}
use Rattle.refinement.specs.Worlds.{DevicesFit, GivesFit, IsNamed, lines_on}
use Rattle.run_history.specs.Bringing.{IsBrought}
use Rattle.run_history.specs.Happenings.{IsPlain, IsSaid}
use Rattle.run_history.specs.Telling.{IsInHeader, lines_upon}
use Rattle.run_history.specs.Rounds.{Progress, starting}
use Rattle.run_history.specs.Scenes.{Scene}
use Rattle.run_history.specs.Shapes.{Want, asking as asking_wants, booting as booting_wants, brings, delivering as delivering_wants, due, if_up, losing as losing_wants, nothing, probing as probing_wants, repeating as repeating_wants, skipping as skipping_wants, taking_this}
use Rattle.run_history.proofs.WorldCommands.{disk_so, fault_so, skipped_down, stop_so, written_at}
use Rattle.run_history.proofs.Packets.{delivered_so, lost_so, oldest_so, repeated_so}
use Rattle.run_history.proofs.Rounds.{all_rounds}
use Rattle.run_history.proofs.Stands.{IsThere, Stands, as_due, clocked, down_there, given_so, noted, placed_there, queued, seen, spoke, up_is_there, up_there}

abbrev Run : Cluster → Scene → List ℕ → List Line → List Want → Option Progress → Play → Type 0
Run c first text said wants rounds p = Stands c first text said (due wants rounds) p

-- What comes to a node that is up alone.

up_so : (c : Cluster) → GivesFit c → (first : Scene) (text : List ℕ) (said : List Line) (wants : List Want) (p : Play) (n : ℕ) (i : Input) → 1 ≤ n → IsPlain i → ((v : Nodes) → WasSent v i)
    → AnswersFit i → (h : Run c first text said wants None p) → wants ≡ if_up (h.nodes.node n) (λ x. taking_this n i) → arrived h.moments ≡ None → IsSaid h.moments n i
    → IsBrought (under_way h.moments) n i → Run c first text said [] None (giving_up n i p)
up_so c gives first text said wants p n i low plain sent bounded h shape apart lined brought =
    cond_both (is_up p.world n) (giving n i p) (skipping skip.Down p) (Run c first text said [] None)
    (λ up. up_there (node_at p.world n) (Run c first text said [] None (giving n i p)) up
    (λ x at. given_so c gives first text said None p n i low (up_is_there p.world n x at) plain sent bounded
    (as_due c first text said None p wants (taking_this n i) (shape ∙ ap (λ z. if_up z takes) (h.alike.shows.node n (Up x) low at)) h) apart lined brought))
    (λ down. noted c first text said None p (Skipped skip.Down)
    (as_due c first text said None p wants (skipping_wants skip.Down)
    (shape ∙ skipped_down (h.nodes.node n) takes (down_there c h.nodes p.world n (node_at p.world n) low refl down h.alike)) h))
  where
    takes : UpNode → List Want
    takes x = taking_this n i

-- A boot.

boots_down : (n : ℕ) (z : Node) → IsDown z → booting_wants n z ≡ taking_this n input.Boot
boots_down n Down down = refl
boots_down n (Up x) down = absurd down

boot_so : (c : Cluster) → GivesFit c → (first : Scene) (text : List ℕ) (said : List Line) (wants : List Want) (p : Play) (n : ℕ) → 1 ≤ n → n ≤ c.header.nodes → (h : Run c first text said wants None p)
    → wants ≡ booting_wants n (h.nodes.node n) → arrived h.moments ≡ None → IsBrought (under_way h.moments) n input.Boot → Run c first text said [] None (booting n p)
boot_so c gives first text said wants p n low known h shape apart brought =
    cond_both (is_up p.world n) (skipping skip.Up p) (giving n input.Boot p) (Run c first text said [] None)
    (λ up. up_there (node_at p.world n) (Run c first text said [] None (skipping skip.Up p)) up
    (λ x at. noted c first text said None p (Skipped skip.Up)
    (as_due c first text said None p wants (skipping_wants skip.Up) (shape ∙ ap (λ z. booting_wants n z) (h.alike.shows.node n (Up x) low at)) h)))
    (λ down. given_so c gives first text said None p n input.Boot low (placed_there c h.nodes p.world n low known h.alike) tt (λ v. tt) tt
    (as_due c first text said None p wants (taking_this n input.Boot)
    (shape ∙ boots_down n (h.nodes.node n) (down_there c h.nodes p.world n (node_at p.world n) low refl down h.alike)) h) apart tt brought)

-- A probe; a client's request.

probed_at : (c : Cluster) → GivesFit c → (first : Scene) (text : List ℕ) (said : List Line) (wants : List Want) (p : Play) (n : ℕ) (resource : List ℕ) (good b : Bool) → 1 ≤ n → IsThere p.world n
    → (h : Run c first text said wants None p) → wants ≡ probing_wants n resource good b → arrived h.moments ≡ None → IsSaid h.moments n (input.Reported resource good)
    → under_way h.moments ≡ Some (event.Probe n resource good)
    → Run c first text said [] None (if b then giving n (input.Reported resource good) p else skipping skip.NoMonitor p)
probed_at c gives first text said wants p n resource good true low there h shape apart lined brought =
    given_so c gives first text said None p n (input.Reported resource good) low there tt (λ v. tt) tt
    (as_due c first text said None p wants (taking_this n (input.Reported resource good)) shape h) apart lined brought
probed_at c gives first text said wants p n resource good false low there h shape apart lined brought =
    noted c first text said None p (Skipped skip.NoMonitor) (as_due c first text said None p wants (skipping_wants skip.NoMonitor) shape h)

probe_so : (c : Cluster) → GivesFit c → (first : Scene) (text : List ℕ) (said : List Line) (wants : List Want) (p : Play) (n : ℕ) (resource : List ℕ) (good : Bool) → 1 ≤ n
    → (h : Run c first text said wants None p) → wants ≡ if_up (h.nodes.node n) (λ x. probing_wants n resource good (monitors resource (Some (h.nodes.node n))))
    → arrived h.moments ≡ None → IsSaid h.moments n (input.Reported resource good) → under_way h.moments ≡ Some (event.Probe n resource good)
    → Run c first text said [] None (probing n resource good p)
probe_so c gives first text said wants p n resource good low h shape apart lined brought =
    cond_both (is_up p.world n) (probing_up n resource good p) (skipping skip.Down p) (Run c first text said [] None)
    (λ up. up_there (node_at p.world n) (Run c first text said [] None (probing_up n resource good p)) up
    (λ x at. probed_at c gives first text said wants p n resource good (monitors resource (node_at p.world n)) low (up_is_there p.world n x at) h
    (shape ∙ (ap (λ z. if_up z probes) (h.alike.shows.node n (Up x) low at)
    ∙ ap (λ b. probing_wants n resource good b) (ap (λ z. monitors resource (Some z)) (h.alike.shows.node n (Up x) low at) ∙ ap (λ o. monitors resource o) (sym at)))) apart lined brought))
    (λ down. noted c first text said None p (Skipped skip.Down)
    (as_due c first text said None p wants (skipping_wants skip.Down)
    (shape ∙ skipped_down (h.nodes.node n) probes (down_there c h.nodes p.world n (node_at p.world n) low refl down h.alike)) h))
  where
    probes : UpNode → List Want
    probes x = probing_wants n resource good (monitors resource (Some (h.nodes.node n)))

asked_at : (c : Cluster) → GivesFit c → (first : Scene) (text : List ℕ) (said : List Line) (wants : List Want) (p : Play) (n : ℕ) (address : List ℕ) (client port : ℕ) (o : Option SkipCause) → 1 ≤ n
    → IsThere p.world n → (h : Run c first text said wants None p) → wants ≡ asking_wants n (input.Client address client port) o → arrived h.moments ≡ None
    → under_way h.moments ≡ Some (event.Client n address client port) → Run c first text said [] None (asking_at n (input.Client address client port) o p)
asked_at c gives first text said wants p n address client port None low there h shape apart brought =
    given_so c gives first text said None p n (input.Client address client port) low there tt (λ v. tt) tt
    (as_due c first text said None p wants (taking_this n (input.Client address client port)) shape h) apart tt brought
asked_at c gives first text said wants p n address client port (Some why) low there h shape apart brought =
    noted c first text said None p (Skipped why) (as_due c first text said None p wants (skipping_wants why) shape h)

client_so : (c : Cluster) → GivesFit c → (first : Scene) (text : List ℕ) (said : List Line) (wants : List Want) (p : Play) (n : ℕ) (address : List ℕ) (client port : ℕ) → 1 ≤ n
    → (h : Run c first text said wants None p) → wants ≡ if_up (h.nodes.node n) (λ x. asking_wants n (input.Client address client port) (refusal_at c address (h.nodes.node n)))
    → arrived h.moments ≡ None → under_way h.moments ≡ Some (event.Client n address client port) → Run c first text said [] None (asking n address client port p)
client_so c gives first text said wants p n address client port low h shape apart brought =
    cond_both (is_up p.world n) (asking_at n (input.Client address client port) (refusal_in p.world address (node_at p.world n)) p) (skipping skip.Down p) (Run c first text said [] None)
    (λ up. up_there (node_at p.world n) (Run c first text said [] None (asking_at n (input.Client address client port) (refusal_in p.world address (node_at p.world n)) p)) up
    (λ x at. asked_at c gives first text said wants p n address client port (refusal_in p.world address (node_at p.world n)) low (up_is_there p.world n x at) h
    (shape ∙ (ap (λ z. if_up z asks) (h.alike.shows.node n (Up x) low at)
    ∙ ap (λ o. asking_wants n (input.Client address client port) o)
    (ap (λ z. refusal_at c address z) (h.alike.shows.node n (Up x) low at)
    ∙ (ap (λ z. refusal_at z address (Up x)) (sym h.alike.shows.cluster) ∙ ap (λ o. refusal_in p.world address o) (sym at))))) apart brought))
    (λ down. noted c first text said None p (Skipped skip.Down)
    (as_due c first text said None p wants (skipping_wants skip.Down)
    (shape ∙ skipped_down (h.nodes.node n) asks (down_there c h.nodes p.world n (node_at p.world n) low refl down h.alike)) h))
  where
    asks : UpNode → List Want
    asks x = asking_wants n (input.Client address client port) (refusal_at c address (h.nodes.node n))

-- A line.

abbrev With : Cluster → Scene → List ℕ → List Line → Event → Play → Type 0
With c first text said e p = Run c first text (line.Event e ∷ said) [] None (line_on e p)

-- what was said, with this line
abbrev more : List Line → Event → List Line
more said e = line.Event e ∷ said

abbrev Rests : Cluster → Scene → List ℕ → List Line → Play → Type 0
Rests c first text said p = Stands c first text said nothing p

-- what the line brings now
abbrev wanted : (c : Cluster) (first : Scene) (text : List ℕ) (said : List Line) (p : Play) (e : Event) → Rests c first text said p → List Want
wanted c first text said p e h = brings c (seen c first text said nothing p h) e

line_so : (c : Cluster) → GivesFit c → DevicesFit c → (first : Scene) (text : List ℕ) (said : List Line) (p : Play) (e : Event) → IsNamed e → IsInHeader c.header e → Rests c first text said p
    → With c first text said e p
line_so c gives fit first text said p (event.Boot n) low known h =
    let e : Event = event.Boot n in
    let wants : List Want = wanted c first text said p e h in
    boot_so c gives first text (more said e) wants p n low known (spoke c first text said p e wants None (λ s. tt) (λ s. refl) h refl refl) refl refl refl
line_so c gives fit first text said p (event.Crash n) low known h =
    let e : Event = event.Crash n in
    let wants : List Want = wanted c first text said p e h in
    up_so c gives first text (more said e) wants p n input.Crash low tt (λ v. tt) tt (spoke c first text said p e wants None (λ s. tt) (λ s. refl) h refl refl) refl refl tt refl
line_so c gives fit first text said p (event.CrashAt n calls choice) low known h = stop_so c first text said p n calls choice low h
line_so c gives fit first text said p (event.Tick n) low known h =
    let e : Event = event.Tick n in
    let wants : List Want = wanted c first text said p e h in
    up_so c gives first text (more said e) wants p n input.Tick low tt (λ v. tt) tt (spoke c first text said p e wants None (λ s. tt) (λ s. refl) h refl refl) refl refl tt refl
line_so c gives fit first text said p (event.Disk n) low known h =
    let e : Event = event.Disk n in
    let wants : List Want = wanted c first text said p e h in
    disk_so c gives fit first text (more said e) wants None p n low (spoke c first text said p e wants None (λ s. tt) (λ s. refl) h refl refl) refl refl refl
line_so c gives fit first text said p (event.Fault n d done) low known h = fault_so c first text said p n d done known h
line_so c gives fit first text said p (event.Write n d value) low known h =
    let e : Event = event.Write n d value in
    let wants : List Want = wanted c first text said p e h in
    written_at c gives first text (more said e) wants None p n d value (node_at p.world n) low refl (spoke c first text said p e wants None (λ s. tt) (λ s. refl) h refl refl) refl refl refl
line_so c gives fit first text said p (event.Clock second) low known h =
    let e : Event = event.Clock second in
    let wants : List Want = wanted c first text said p e h in
    noted c first text (more said e) None (with_world p (record p.world { clock = second })) (Clock second)
    (clocked c first text (more said e) (due wants None) p second low (spoke c first text said p e wants None (λ s. tt) (λ s. refl) h refl refl))
line_so c gives fit first text said p (event.Rounds count nodes) low known h =
    let e : Event = event.Rounds count nodes in
    all_rounds c gives fit first text (more said e) p nodes count (spoke c first text said p e [] (Some (starting p.world.links count nodes)) (λ s. tt) (λ s. refl) h refl refl)
line_so c gives fit first text said p (event.Deliver number) low known h =
    let e : Event = event.Deliver number in
    let wants : List Want = wanted c first text said p e h in
    delivered_so c gives first text (more said e) wants None p number (spoke c first text said p e wants None (λ s. tt) (λ s. refl) h refl refl) refl refl
line_so c gives fit first text said p (event.Lose number) low known h =
    let e : Event = event.Lose number in
    let wants : List Want = wanted c first text said p e h in
    lost_so c first text (more said e) wants None p number (spoke c first text said p e wants None (λ s. tt) (λ s. refl) h refl refl) refl refl
line_so c gives fit first text said p (event.Repeat number) low known h =
    let e : Event = event.Repeat number in
    let wants : List Want = wanted c first text said p e h in
    repeated_so c first text (more said e) wants None p number (spoke c first text said p e wants None (λ s. tt) (λ s. refl) h refl refl) refl refl
line_so c gives fit first text said p (event.Next from to) low known h =
    let e : Event = event.Next from to in
    let s : Scene = seen c first text said nothing p h in
    let wants : List Want = wanted c first text said p e h in
    let k : Run c first text (more said e) wants None p = spoke c first text said p e wants None (λ s. tt) (λ s. refl) h refl refl in
    oldest_so c first text (more said e) wants None delivering (λ number. delivering_wants s number) p (oldest_on p.world.links.packets from to) refl
    (λ number is shape. delivered_so c gives first text (more said e) wants None p number k shape is) k
line_so c gives fit first text said p (event.Drop from to) low known h =
    let e : Event = event.Drop from to in
    let s : Scene = seen c first text said nothing p h in
    let wants : List Want = wanted c first text said p e h in
    let k : Run c first text (more said e) wants None p = spoke c first text said p e wants None (λ s. tt) (λ s. refl) h refl refl in
    oldest_so c first text (more said e) wants None losing (λ number. losing_wants s number) p (oldest_on p.world.links.packets from to) refl
    (λ number is shape. lost_so c first text (more said e) wants None p number k shape is) k
line_so c gives fit first text said p (event.Again from to) low known h =
    let e : Event = event.Again from to in
    let s : Scene = seen c first text said nothing p h in
    let wants : List Want = wanted c first text said p e h in
    let k : Run c first text (more said e) wants None p = spoke c first text said p e wants None (λ s. tt) (λ s. refl) h refl refl in
    oldest_so c first text (more said e) wants None repeating_one (λ number. repeating_wants s number) p (oldest_on p.world.links.packets from to) refl
    (λ number is shape. repeated_so c first text (more said e) wants None p number k shape is) k
line_so c gives fit first text said p (event.Command n words) low known h =
    let e : Event = event.Command n words in
    let wants : List Want = wanted c first text said p e h in
    up_so c gives first text (more said e) wants p n (input.Commanded words) low tt (λ v. tt) tt (spoke c first text said p e wants None (λ s. tt) (λ s. refl) h refl refl) refl refl refl refl
line_so c gives fit first text said p (event.Outcome n resource method outcome) low known h =
    let e : Event = event.Outcome n resource method outcome in
    let wants : List Want = wanted c first text said p e h in
    let script : List Scripted = p.world.script ++ record { node = n; resource = resource; method = method; outcome = outcome } ∷ [] in
    noted c first text (more said e) None (with_world p (record p.world { script = script })) Queued
    (queued c first text (more said e) (due wants None) p script p.world.agents (spoke c first text said p e wants None (λ s. tt) (λ s. refl) h refl refl))
line_so c gives fit first text said p (event.Probe n resource good) low known h =
    let e : Event = event.Probe n resource good in
    let wants : List Want = wanted c first text said p e h in
    probe_so c gives first text (more said e) wants p n resource good low (spoke c first text said p e wants None (λ s. tt) (λ s. refl) h refl refl) refl refl refl refl
line_so c gives fit first text said p (event.Client n address client port) low known h =
    let e : Event = event.Client n address client port in
    let wants : List Want = wanted c first text said p e h in
    client_so c gives first text (more said e) wants p n address client port low (spoke c first text said p e wants None (λ s. tt) (λ s. refl) h refl refl) refl refl refl

pub lines_so : (c : Cluster) → GivesFit c → DevicesFit c → (first : Scene) (text : List ℕ) (events : List Event) (said : List Line) (p : Play) → AllByRecursion IsNamed events
    → AllByRecursion (IsInHeader c.header) events → Rests c first text said p → Rests c first text (lines_upon said events) (lines_on events p)
lines_so c gives fit first text [] said p named known h = h
lines_so c gives fit first text (e ∷ events) said p named known h =
    lines_so c gives fit first text events (line.Event e ∷ said) (line_on e p) named.1 known.1 (line_so c gives fit first text said p e named.0 known.0 h)
