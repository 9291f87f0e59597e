-- Each run: lines and parts of rounds, each write with its entries.
use Rattle.std.specs.Prelude.{ℕ, ◌^◌, ◌≡◌, ◌≤◌, ◌<◌, ◌++◌, List, [], ◌∷◌, Option, None, Some, length, is_some}
use Rattle.std.proofs.Common.{refl, sym, ap, subst, ◌∙◌, append-nil}
use Rattle.cl_base.specs.Limits.{most_devices}
use Rattle.cl_base.specs.declared.header.Header.{Header}
use Rattle.cmm_attempt.proofs.Basics.{if_either}
use Rattle.schedule_text.specs.declared.event.Event.{Event}
use Rattle.schedule_text.specs.declared.event.Event.TheVariants as event
use Rattle.schedule_text.specs.declared.line.Line.TheVariants as line
use Rattle.status_report.specs.declared.schedule_entry.ScheduleEntry.TheVariants as schedule
use Rattle.history.specs.Lines.{asked_device}
use Rattle.history.specs.Moment.{Moment, Part, Said}
use Rattle.history.specs.Order.{EachEvent, OfEvents}
use Rattle.history.specs.Setting.{Setting}
use Rattle.history.specs.Trace.{refused}
use Rattle.node_model.specs.declared.cluster.Cluster.{Cluster}
use Rattle.node_model.specs.declared.input.Input.TheVariants as input
use Rattle.world_model.specs.Devices.{due_at}
use Rattle.world_model.specs.First.{first_cluster}
use Rattle.run_history.proofs.DevicesRun.{devices_of_each_run}
use Rattle.run_history.proofs.MemberScenes.{members_of_each_run}
use Rattle.run_history.proofs.Reached.{Reached, reached_more}
use Rattle.run_history.specs.Happenings.{Happening, MayAllHappen, MayHappen, all_happened, armed_by, happened}
use Rattle.run_history.specs.Happenings.Happening.{Begins, Notes, Refuses, Speaks, Writes}
use Rattle.run_history.specs.Scenes.{Scene, adding, first_scene}
use Rattle.run_history.specs.Rounds.{Progress}
use Rattle.run_history.specs.Shapes.{Due, IsDue, IsShaped, IsThis, Opens, ShapedFrom, Want, brings, due_after, nothing, opened, still}
use Rattle.run_history.specs.Shapes as want
use Rattle.run_history.specs.WorldLines.{AreDisks}
use Rattle.run_messages.proofs.Runs.{memberships_of_each_run}
use Rattle.run_lines.proofs.Adds.{Adds, added_of_event}
use Rattle.run_lines.proofs.Begins.{next_may}
use Rattle.run_lines.specs.Entries.{MayBegin}
use Rattle.run_lines.specs.writes.Laws.{IsWritten, WriteSo, WritesOfEachRun}
use Rattle.run_lines.specs.writes.Written.{Awaits, IsAlone, Leaves, Ties}
use Rattle.run_lines.proofs.writes.Happens.{brings_alone, due_in_event, happening_adds}
use Rattle.run_lines.proofs.writes.Held.{held_of_each_run}
use Rattle.run_lines.proofs.writes.Written.{Adding, line_written, write_adds}

-- ---- what is due comes

settles : (S : Setting) (s t : Scene) (w : Want) (wants : List Want) → wants ≡ [] → (a : Adds s.moments t.moments) → Leaves S s.moments (w ∷ []) a.entries → Awaits S s (w ∷ wants) → Awaits S t (still t wants)
settles S s t w wants none a leaves k = subst (λ ws. Awaits S t (still t ws)) (sym none) (record {
  alone = tt;
  events = λ later e.
      subst (λ xs. OfEvents (IsWritten S) xs t.moments) (sym e)
      (added_of_event (IsWritten S) s.moments t.moments [] a
      (subst (λ ys. OfEvents (IsWritten S) ys s.moments) (sym (append-nil a.entries)) (k.events a.entries (subst (λ ws. Leaves S s.moments (w ∷ ws) a.entries) (sym none) leaves))));
})

-- a node readied itself, and its command may be due still
readies : (S : Setting) (s t : Scene) (n m : ℕ) (wants : List Want) → wants ≡ want.Command m ∷ [] → Adds s.moments t.moments → Awaits S s (want.Take n input.CommandDue ∷ wants) → Awaits S t (still t wants)
readies S s t n m wants one a k = subst (λ ws. Awaits S t (still t ws)) (sym one) (record {
  alone = if_either IsAlone (is_some (due_at (Some (t.nodes.node m)))) (want.Command m ∷ []) [] refl tt;
  events = λ later leaves. added_of_event (IsWritten S) s.moments t.moments later a (k.events (a.entries ++ later) tt);
})

due_comes : (S : Setting) (s : Scene) (w : Want) (wants : List Want) (h : Happening) → length S.header.devices ≤ 16 → Ties S s → MayHappen (first_cluster S.header) s h → IsThis w h → Awaits S s (w ∷ wants)
    → Awaits S (happened (first_cluster S.header) s h) (still (happened (first_cluster S.header) s h) wants)
due_comes S s (want.Write n d value) wants (Writes m e v now ends) few ties may is k =
    let c : Cluster = first_cluster S.header in
    let t : Scene = happened c s (Writes m e v now ends) in
    let a : Adding s.moments t.moments (asked_device S s.moments m e v None) = write_adds S s m e v now ends few ties may in
    settles S s t (want.Write n d value) wants k.alone a.adds
    (a.are ∙ (ap (λ z. asked_device S s.moments z e v None) is.0 ∙ (ap (λ z. asked_device S s.moments n z v None) is.1 ∙ ap (λ z. asked_device S s.moments n d z None) is.2))) k
due_comes S s (want.Write n d value) wants _ few ties may is k = absurd is
due_comes S s (want.Refuse n d value why) wants (Refuses m e v w) few ties may is k =
    let c : Cluster = first_cluster S.header in
    let a : Adds s.moments (happened c s (Refuses m e v w)).moments = record { entries = refused m e v w ∷ []; are = (tt, tt); is = refl } in
    settles S s (happened c s (Refuses m e v w)) (want.Refuse n d value why) wants k.alone a
    (ap (λ z. refused z e v w ∷ []) is.0 ∙ (ap (λ z. refused n z v w ∷ []) is.1 ∙ (ap (λ z. refused n d z w ∷ []) is.2 ∙ ap (λ z. refused n d value z ∷ []) is.3))) k
due_comes S s (want.Refuse n d value why) wants _ few ties may is k = absurd is
due_comes S s (want.Take n input.CommandDue) wants h few ties may is k =
    let c : Cluster = first_cluster S.header in
    readies S s (happened c s h) n n wants k.alone (happening_adds c s h (due_in_event (want.Take n input.CommandDue) wants h is k.alone)) k
due_comes S s (want.Note e) wants h few ties may is k =
    let c : Cluster = first_cluster S.header in
    settles S s (happened c s h) (want.Note e) wants k.alone.1 (happening_adds c s h (due_in_event (want.Note e) wants h is k.alone)) tt k
due_comes S s w wants h few ties may is k =
    let c : Cluster = first_cluster S.header in
    settles S s (happened c s h) w wants k.alone (happening_adds c s h (due_in_event w wants h is k.alone)) tt k

-- ---- a line, or a part of a round, opens an event

armed_moments : (c : Cluster) (s : Scene) (e : Event) → (armed_by c e s).moments ≡ s.moments
armed_moments c s (event.CrashAt n calls choice) = refl
armed_moments c s (event.Fault n d done) = refl
armed_moments c s _ = refl

-- the line of a write
line_so : (S : Setting) (s : Scene) (e : Event) (later : List Moment) → AreDisks S.header → Ties S s
    → (let t : Scene = adding (Said (line.Event e)) s in Leaves S t.moments (brings (first_cluster S.header) (armed_by (first_cluster S.header) e t) e) later → WriteSo S s.moments e later)
line_so S s (event.Write n d value) later disks ties leaves = λ low up. line_written S s n d value later disks ties low up leaves
line_so S s _ later disks ties leaves = tt

line_opens : (S : Setting) (s : Scene) (e : Event) → AreDisks S.header → Ties S s → Awaits S s []
    → (let c : Cluster = first_cluster S.header in Awaits S (happened c s (Speaks e)) (brings c (happened c s (Speaks e)) e))
line_opens S s e disks ties k =
    let c : Cluster = first_cluster S.header in
    let t : Scene = adding (Said (line.Event e)) s in
    let u : Scene = armed_by c e t in
    record {
      alone = brings_alone c u e;
      events = λ later leaves.
          subst (λ ms. OfEvents (IsWritten S) later ms) (sym (armed_moments c t e))
          (line_so S s e later disks ties (subst (λ ms. Leaves S ms (brings c u e) later) (armed_moments c t e) leaves), k.events [] refl);
    }

-- no part is a write
part_so : (S : Setting) (s : Scene) (e : Event) (later : List Moment) → MayBegin s e → WriteSo S s.moments e later
part_so S s (event.Write n d value) later may = absurd may
part_so S s _ later may = tt

part_opens : (S : Setting) (s : Scene) (e : Event) → MayBegin s e → Awaits S s []
    → (let c : Cluster = first_cluster S.header in Awaits S (adding (Part e) s) (brings c (adding (Part e) s) e))
part_opens S s e may k =
    let c : Cluster = first_cluster S.header in
    record { alone = brings_alone c (adding (Part e) s) e; events = λ later leaves. (part_so S s e later may, k.events [] refl) }

-- `rounds done` is no event's
rounds_end : (S : Setting) (s : Scene) → Awaits S s [] → Awaits S (happened (first_cluster S.header) s (Notes schedule.RoundsDone)) []
rounds_end S s k = record { alone = tt; events = λ later none. (none, k.events [] refl) }

opens_so : (S : Setting) (s : Scene) (progress : Option Progress) (h : Happening) → AreDisks S.header → Ties S s → Opens s progress h → Awaits S s []
    → (let c : Cluster = first_cluster S.header in Awaits S (happened c s h) (opened c (happened c s h) progress h).wants)
opens_so S s None (Speaks e) disks ties opens k = line_opens S s e disks ties k
opens_so S s (Some p) (Begins e) disks ties opens k = part_opens S s e (next_may s p e opens) k
opens_so S s (Some p) (Notes e) disks ties opens k = subst (λ z. Awaits S (happened (first_cluster S.header) s (Notes z)) []) (sym opens.0) (rounds_end S s k)
opens_so S s _ _ disks ties opens k = absurd opens

step_so : (S : Setting) (s : Scene) (wants : List Want) (progress : Option Progress) (h : Happening) → length S.header.devices ≤ 16 → AreDisks S.header → Ties S s → MayHappen (first_cluster S.header) s h
    → IsDue s (record { wants = wants; rounds = progress }) h → Awaits S s wants
    → (let c : Cluster = first_cluster S.header in Awaits S (happened c s h) (due_after c (happened c s h) (record { wants = wants; rounds = progress }) h).wants)
step_so S s [] progress h few disks ties may comes k = opens_so S s progress h disks ties comes k
step_so S s (w ∷ wants) progress h few disks ties may comes k = due_comes S s w wants h few ties may comes k

-- ---- the run

abbrev AllTied : Setting → ℕ → Type 0
AllTied S cells = (s : Scene) → Reached (first_cluster S.header) (first_scene S.header cells) s → Ties S s

all_tied : (S : Setting) (cells : ℕ) → length S.header.devices ≤ most_devices → S.header.cluster < 2 ^ 32 → AreDisks S.header → AllTied S cells
all_tied S cells few small disks s r =
    subst (λ z. Ties S z) r.is (record {
      nodes = (members_of_each_run S.header cells r.happenings few r.may).nodes;
      seats = memberships_of_each_run S.header cells r.happenings few small r.may;
      held = held_of_each_run S.header cells r.happenings few small disks r.may;
      devices = devices_of_each_run S.header cells r.happenings few disks r.may;
    })

run_so : (S : Setting) (cells : ℕ) → length S.header.devices ≤ 16 → AreDisks S.header → AllTied S cells → (hs : List Happening) (s : Scene) (d last : Due)
    → Reached (first_cluster S.header) (first_scene S.header cells) s → MayAllHappen (first_cluster S.header) s hs → ShapedFrom (first_cluster S.header) s d hs last → Awaits S s d.wants
    → Awaits S (all_happened (first_cluster S.header) s hs) last.wants
run_so S cells few disks tied [] s d last r may shaped k = subst (λ (z : Due). Awaits S s z.wants) shaped k
run_so S cells few disks tied (g ∷ hs) s d last r may shaped k =
    let c : Cluster = first_cluster S.header in
    run_so S cells few disks tied hs (happened c s g) (due_after c (happened c s g) d g) last (reached_more c (first_scene S.header cells) s g r may.0) may.1 shaped.1
    (step_so S s d.wants d.rounds g few disks (tied s r) may.0 shaped.0 k)

first_awaits : (S : Setting) (cells : ℕ) → Awaits S (first_scene S.header cells) []
unfolding first_scene
first_awaits S cells = record { alone = tt; events = λ later none. none }

-- of the header of the setting
writes_so : (S : Setting) (cells : ℕ) (hs : List Happening) → length S.header.devices ≤ most_devices → S.header.cluster < 2 ^ 32 → AreDisks S.header
    → MayAllHappen (first_cluster S.header) (first_scene S.header cells) hs → IsShaped (first_cluster S.header) (first_scene S.header cells) hs
    → EachEvent (IsWritten S) (all_happened (first_cluster S.header) (first_scene S.header cells) hs).moments
writes_so S cells hs few small disks may shaped =
    (run_so S cells few disks (all_tied S cells few small disks) hs (first_scene S.header cells) nothing nothing (record { happenings = []; may = tt; is = refl }) may shaped
    (first_awaits S cells)).events [] refl

abbrev WrittenIn : Setting → ℕ → List Happening → Header → Type 0
WrittenIn S cells hs h = length h.devices ≤ most_devices → h.cluster < 2 ^ 32 → AreDisks h → MayAllHappen (first_cluster h) (first_scene h cells) hs
    → IsShaped (first_cluster h) (first_scene h cells) hs → EachEvent (IsWritten S) (all_happened (first_cluster h) (first_scene h cells) hs).moments

pub writes_of_each_run : WritesOfEachRun
writes_of_each_run h cells hs S few small same disks may shaped = subst (WrittenIn S cells hs) same (writes_so S cells hs) few small disks may shaped
