-- The parts of rounds keep their order from the first thing that happens to the last.
use Rattle.std.specs.Prelude.{ℕ, zero, suc, ◌≡◌, ◌≤◌, List, [], ◌∷◌, Option, None, Some, is_some, option_map}
use Rattle.std.specs.List.{AllByRecursion}
use Rattle.std.specs.Option.{option_and_then}
use Rattle.std.proofs.Common.{refl, sym, ap, subst, ◌∙◌, arith}
use Rattle.cmm_attempt.proofs.Basics.{none_some, same_some}
use Rattle.interconnect.specs.Links.{Links}
use Rattle.schedule_text.specs.declared.event.Event.{Event}
use Rattle.schedule_text.specs.declared.event.Event.TheVariants as event
use Rattle.schedule_text.specs.declared.line.Line.TheVariants as line
use Rattle.status_report.specs.declared.entry.Entry.{Entry}
use Rattle.status_report.specs.declared.entry.Entry.TheVariants as entry
use Rattle.status_report.specs.declared.schedule_entry.ScheduleEntry.{ScheduleEntry}
use Rattle.status_report.specs.declared.schedule_entry.ScheduleEntry.TheVariants as schedule
use Rattle.history.specs.Links.{links_after}
use Rattle.history.specs.Moment.{Moment, Part, Said, Told}
use Rattle.history.specs.Round.{Next, Progress}
use Rattle.history.specs.Setting.{Setting}
use Rattle.node_model.specs.declared.cluster.Cluster.{Cluster}
use Rattle.refinement.specs.Runs.{Nodes}
use Rattle.run_history.specs.Happenings.{Happening, MayAllHappen, all_happened, armed_by, happened}
use Rattle.run_history.specs.Happenings.Happening.{Begins, Notes, Speaks}
use Rattle.run_history.specs.Rounds as world
use Rattle.run_history.specs.Rounds.{begun_by, next_part, starting}
use Rattle.run_history.specs.Scenes.{Scene, adding}
use Rattle.run_history.specs.Shapes.{Due, IsDue, Opens, ShapedFrom, Want, behind, due_after, opened}
use Rattle.run_history.proofs.Reached.{Reached, reached_more}
use Rattle.run_lines.specs.Entries.{IsEntry, IsOfEvent}
use Rattle.run_lines.proofs.Adds.{Adds, onto}
use Rattle.run_lines.proofs.Begins.{next_may}
use Rattle.run_lines.proofs.Runs.{armed_moments}
use Rattle.run_lines.specs.rounds.Following.{SameLeft, SameRounds, TellsPart, next_of}
use Rattle.run_lines.specs.rounds.Laws.{AllAskSome, AtEachPart, AtPart}
use Rattle.run_lines.specs.rounds.Parts as parts
use Rattle.run_lines.specs.rounds.Parts.{KeepsParts, PartsInOrder, Works, progress_of}
use Rattle.run_lines.proofs.rounds.Adds.{AreOwn, brought_own, still_own, want_adds}
use Rattle.run_lines.proofs.rounds.Links.{round_same, told_same}
use Rattle.run_lines.proofs.rounds.Next.{SameNext, UpsTold, next_same}
use Rattle.run_lines.proofs.rounds.Tells.{OnlyDue, event_in}

-- the parts were in order, and what is left of rounds in the world is left by the lines
pub record Kept (S : Setting) (works : Works) (ms : List Moment) (r : Option world.Progress) : Type 0 where
  pub parts : PartsInOrder S works ms
  pub rounds : SameRounds (links_after S.cells ms) ms r (progress_of S works ms)

-- what the lines say of the scene
pub record Facts (S : Setting) (s : Scene) : Type 0 where
  pub linked : s.links ≡ links_after S.cells s.moments
  pub ups : UpsTold s.nodes s.moments

-- it is told which nodes have work, whatever is left of rounds
abbrev pub TellsAt : Setting → Works → Scene → Type 0
TellsAt S works s =
    (p : world.Progress) (q : Progress) → SameLeft (links_after S.cells s.moments) s.moments p q → OnlyDue s.nodes (event_in (next_of s.nodes (links_after S.cells s.moments) p))
    → TellsPart (λ n. works (event_in (next_of s.nodes (links_after S.cells s.moments) p)) n s.moments) s.nodes (links_after S.cells s.moments) p

-- ---- entries

entry_parts : (S : Setting) (works : Works) (e : Entry) (ms : List Moment) → IsOfEvent e → KeepsParts S works ms (Told e)
entry_parts S works (entry.Schedule schedule.RoundsDone) ms of = absurd of
entry_parts S works _ ms of = tt

entry_progress : (S : Setting) (works : Works) (e : Entry) (ms : List Moment) → IsOfEvent e → progress_of S works (Told e ∷ ms) ≡ progress_of S works ms
entry_progress S works (entry.Schedule schedule.RoundsDone) ms of = absurd of
entry_progress S works _ ms of = refl

entries_kept : (S : Setting) (works : Works) (r : Option world.Progress) (xs ms : List Moment) → AllByRecursion IsEntry xs → Kept S works ms r → Kept S works (onto xs ms) r
entries_kept S works r [] ms are k = k
entries_kept S works r (Told e ∷ xs) ms are k = entries_kept S works r xs (Told e ∷ ms) are.1 (record {
  parts = (entry_parts S works e ms are.0, k.parts);
  rounds =
      subst (λ o. SameRounds (links_after S.cells (Told e ∷ ms)) (Told e ∷ ms) r o) (sym (entry_progress S works e ms are.0)) (told_same S.cells e ms r (progress_of S works ms) k.rounds);
})
entries_kept S works r (Said l ∷ xs) ms are k = absurd are.0
entries_kept S works r (Part e ∷ xs) ms are k = absurd are.0

adds_kept : (S : Setting) (works : Works) (r : Option world.Progress) (before after : List Moment) → Adds before after → Kept S works before r → Kept S works after r
adds_kept S works r before after a k = subst (λ ms. Kept S works ms r) a.is (entries_kept S works r a.entries before a.are k)

-- ---- a line

none_told : (l : Links) (ms : List Moment) (o : Option Progress) → SameRounds l ms None o → o ≡ None
none_told l ms None h = refl
none_told l ms (Some q) h = absurd h

starts_kept : (S : Setting) (works : Works) (s : Scene) (count nodes : ℕ) → s.links ≡ links_after S.cells s.moments → 1 ≤ count → PartsInOrder S works (Said (line.Event (event.Rounds count nodes)) ∷ s.moments)
    → Kept S works (Said (line.Event (event.Rounds count nodes)) ∷ s.moments) (Some (starting s.links count nodes))
starts_kept S works s zero nodes linked some so = absurd (none some)
  where
    none : 1 ≤ 0 → ⊥
    none h = omega (arith, h)
starts_kept S works s (suc k) nodes linked some so =
    subst (λ l. Kept S works (Said (line.Event (event.Rounds (suc k) nodes)) ∷ s.moments) (Some (starting l (suc k) nodes))) (sym linked) (record {
      parts = so;
      rounds = record { left = refl; nodes = refl; stage = (round_same S (suc k) nodes s.moments).stage };
    })

line_kept : (c : Cluster) (S : Setting) (works : Works) (s : Scene) (e : Event) → s.links ≡ links_after S.cells s.moments → AllAskSome (Said (line.Event e) ∷ s.moments) → Kept S works s.moments None
    → Kept S works (Said (line.Event e) ∷ s.moments) (begun_by (happened c s (Speaks e)) e)
line_kept c S works s (event.Rounds count nodes) linked asks k =
    starts_kept S works s count nodes linked asks.0 (none_told (links_after S.cells s.moments) s.moments (progress_of S works s.moments) k.rounds, k.parts)
line_kept c S works s _ linked asks k = record { parts = (none_told (links_after S.cells s.moments) s.moments (progress_of S works s.moments) k.rounds, k.parts); rounds = tt }

-- ---- a part

-- what the part that comes leaves
comes_so : (l : Links) (ms : List Moment) (o : Option (Event × world.Progress)) (r : Option Next) (e : Event) → SameNext l ms o r → event_in o ≡ Some e
    → (option_map (λ (n : Next). n.event) r ≡ Some e) × SameRounds l (Part e ∷ ms) (option_map (λ (next : Event × world.Progress). next.1) o) (option_map (λ (n : Next). n.after) r)
comes_so l ms None r e h is = absurd (none_some e is)
comes_so l ms (Some z) None e h is = absurd h
comes_so l ms (Some z) (Some n) e h is =
    (ap (λ x. Some x) h.0 ∙ is, subst (λ x. SameLeft l (Part x ∷ ms) z.1 n.after) (same_some z.0 e is) h.1)

only_due : (S : Setting) (s : Scene) (p : world.Progress) → s.links ≡ links_after S.cells s.moments → OnlyDue s.nodes (event_in (next_of s.nodes (links_after S.cells s.moments) p))
only_due S s p linked n is = next_may s p (event.Disk n) (ap (λ l. event_in (next_of s.nodes l p)) linked ∙ is)

-- P of what is left by the lines
with_told : (l : Links) (ms : List Moment) (p : world.Progress) (o : Option Progress) (P : Type 0) → SameRounds l ms (Some p) o → ((q : Progress) → o ≡ Some q → SameLeft l ms p q → P) → P
with_told l ms p None P h f = absurd h
with_told l ms p (Some q) P h f = f q refl h

part_kept : (S : Setting) (works : Works) (s : Scene) (p : world.Progress) (e : Event) → Facts S s → TellsAt S works s → option_map (λ (next : Event × world.Progress). next.0) (next_part s p) ≡ Some e
    → Kept S works s.moments (Some p) → Kept S works (Part e ∷ s.moments) (behind s (Some p))
part_kept S works s p e facts tells comes k =
    with_told l ms p (progress_of S works ms) (Kept S works (Part e ∷ ms) (behind s (Some p))) k.rounds (λ q is same.
    let here : event_in (next_of v l p) ≡ Some e = ap (λ j. event_in (next_of v j p)) (sym facts.linked) ∙ comes in
    let next : SameNext l ms (next_of v l p) (parts.next_part S works (Some e) ms q) =
    next_same S works (Some e) v ms p q facts.ups same (subst (λ o. TellsPart (λ n. works o n ms) v l p) here (tells p q same (only_due S s p facts.linked))) in
    let so : (option_map (λ (n : Next). n.event) (parts.next_part S works (Some e) ms q) ≡ Some e)
    × SameRounds l (Part e ∷ ms) (option_map (λ (z : Event × world.Progress). z.1) (next_of v l p)) (option_map (λ (n : Next). n.after) (parts.next_part S works (Some e) ms q)) =
    comes_so l ms (next_of v l p) (parts.next_part S works (Some e) ms q) e next here in
    record {
      parts = (ap (λ o. option_and_then (λ x. option_map (λ (n : Next). n.event) (parts.next_part S works (Some e) ms x)) o) is ∙ so.0, k.parts);
      rounds =
          subst (λ o. SameRounds l (Part e ∷ ms) (behind s (Some p)) (option_and_then (λ x. option_map (λ (n : Next). n.after) (parts.next_part S works (Some e) ms x)) o)) (sym is)
          (subst (λ j. SameRounds l (Part e ∷ ms) (option_map (λ (z : Event × world.Progress). z.1) (next_of v j p)) (option_map (λ (n : Next). n.after) (parts.next_part S works (Some e) ms q)))
          (sym facts.linked) so.1);
    })
  where
    ms : List Moment
    ms = s.moments

    l : Links
    l = links_after S.cells s.moments

    v : Nodes
    v = s.nodes

-- ---- the end of rounds

none_next : (l : Links) (ms : List Moment) (o : Option (Event × world.Progress)) (r : Option Next) → SameNext l ms o r → o ≡ None → r ≡ None
none_next l ms None None h is = refl
none_next l ms (Some z) r h is = absurd (none_some z (sym is))
none_next l ms _ _ h is = absurd h

done_kept : (S : Setting) (works : Works) (s : Scene) (p : world.Progress) → Facts S s → TellsAt S works s → next_part s p ≡ None → Kept S works s.moments (Some p)
    → Kept S works (Told (entry.Schedule schedule.RoundsDone) ∷ s.moments) None
done_kept S works s p facts tells none k =
    with_told l ms p (progress_of S works ms) (Kept S works (Told (entry.Schedule schedule.RoundsDone) ∷ ms) None) k.rounds (λ q is same.
    let here : next_of v l p ≡ None = ap (λ j. next_of v j p) (sym facts.linked) ∙ none in
    let next : SameNext l ms (next_of v l p) (parts.next_part S works None ms q) =
    next_same S works None v ms p q facts.ups same (subst (λ o. TellsPart (λ n. works o n ms) v l p) (ap (λ o. event_in o) here) (tells p q same (only_due S s p facts.linked))) in
    record {
      parts = (
        (
          ap (λ o. is_some o) is,
          ap (λ o. option_and_then (λ x. option_map (λ (n : Next). n.event) (parts.next_part S works None ms x)) o) is
              ∙ ap (λ o. option_map (λ (n : Next). n.event) o) (none_next l ms (next_of v l p) (parts.next_part S works None ms q) next here),
        ),
        k.parts,
      );
      rounds = tt;
    })
  where
    ms : List Moment
    ms = s.moments

    l : Links
    l = links_after S.cells s.moments

    v : Nodes
    v = s.nodes

notes_kept : (Q : Scene → Type 0) (S : Setting) (works : Works) (s : Scene) (p : world.Progress) (e : ScheduleEntry) → e ≡ schedule.RoundsDone → Facts S s → (Q s → TellsAt S works s) → AtPart Q s (Notes e)
    → next_part s p ≡ None → Kept S works s.moments (Some p) → Kept S works (Told (entry.Schedule e) ∷ s.moments) None
notes_kept Q S works s p e is facts tells so none k =
    subst (λ z. AtPart Q s (Notes z) → Kept S works (Told (entry.Schedule z) ∷ s.moments) None) (sym is) (λ q. done_kept S works s p facts (tells q) none k) so

-- ---- one thing more

pub own_after : (c : Cluster) (s t : Scene) (wants : List Want) (rounds : Option world.Progress) (h : Happening) → AreOwn wants → AreOwn (due_after c t (record { wants = wants; rounds = rounds }) h).wants
own_after c s t (w ∷ wants) rounds h own = still_own t wants own.1
own_after c s t [] rounds (Speaks e) own = brought_own c t e
own_after c s t [] rounds (Begins e) own = brought_own c t e
own_after c s t [] rounds _ own = tt

opens_kept : (Q : Scene → Type 0) (c : Cluster) (S : Setting) (works : Works) (s : Scene) (rounds : Option world.Progress) (h : Happening) → Facts S s → (Q s → TellsAt S works s) → AtPart Q s h
    → AllAskSome (happened c s h).moments → Opens s rounds h → Kept S works s.moments rounds → Kept S works (happened c s h).moments (opened c (happened c s h) rounds h).rounds
opens_kept Q c S works s None (Speaks e) facts tells so asks opens k =
    let same : (armed_by c e (adding (Said (line.Event e)) s)).moments ≡ Said (line.Event e) ∷ s.moments = armed_moments c (adding (Said (line.Event e)) s) e in
    subst (λ ms. Kept S works ms (begun_by (happened c s (Speaks e)) e)) (sym same) (line_kept c S works s e facts.linked (subst (λ ms. AllAskSome ms) same asks) k)
opens_kept Q c S works s (Some p) (Begins e) facts tells so asks opens k = part_kept S works s p e facts (tells so) opens k
opens_kept Q c S works s (Some p) (Notes e) facts tells so asks opens k = notes_kept Q S works s p e opens.0 facts tells so opens.1 k
opens_kept Q c S works s _ _ facts tells so asks opens k = absurd opens

step_kept : (Q : Scene → Type 0) (c : Cluster) (S : Setting) (works : Works) (s : Scene) (wants : List Want) (rounds : Option world.Progress) (h : Happening) → Facts S s → (Q s → TellsAt S works s)
    → AtPart Q s h → AllAskSome (happened c s h).moments → IsDue s (record { wants = wants; rounds = rounds }) h → AreOwn wants → Kept S works s.moments rounds
    → Kept S works (happened c s h).moments (due_after c (happened c s h) (record { wants = wants; rounds = rounds }) h).rounds
step_kept Q c S works s [] rounds h facts tells so asks comes own k = opens_kept Q c S works s rounds h facts tells so asks comes k
step_kept Q c S works s (w ∷ wants) rounds h facts tells so asks comes own k = adds_kept S works rounds s.moments (happened c s h).moments (want_adds c s w h comes own.0) k

-- ---- what holds of all moments holds of those before

abbrev pub IsClosed : (List Moment → Type 0) → Type 0
IsClosed M = (m : Moment) (ms : List Moment) → M (m ∷ ms) → M ms

onto_back : (M : List Moment → Type 0) → IsClosed M → (xs ms : List Moment) → M (onto xs ms) → M ms
onto_back M closed [] ms h = h
onto_back M closed (x ∷ xs) ms h = closed x ms (onto_back M closed xs (x ∷ ms) h)

opens_back : (M : List Moment → Type 0) → IsClosed M → (c : Cluster) (s : Scene) (rounds : Option world.Progress) (h : Happening) → Opens s rounds h → M (happened c s h).moments → M s.moments
opens_back M closed c s None (Speaks e) opens m = closed (Said (line.Event e)) s.moments (subst M (armed_moments c (adding (Said (line.Event e)) s) e) m)
opens_back M closed c s (Some p) (Begins e) opens m = closed (Part e) s.moments m
opens_back M closed c s (Some p) (Notes e) opens m = closed (Told (entry.Schedule e)) s.moments m
opens_back M closed c s _ _ opens m = absurd opens

step_back : (M : List Moment → Type 0) → IsClosed M → (c : Cluster) (s : Scene) (wants : List Want) (rounds : Option world.Progress) (h : Happening)
    → IsDue s (record { wants = wants; rounds = rounds }) h → AreOwn wants → M (happened c s h).moments → M s.moments
step_back M closed c s [] rounds h comes own m = opens_back M closed c s rounds h comes m
step_back M closed c s (w ∷ wants) rounds h comes own m =
    let a : Adds s.moments (happened c s h).moments = want_adds c s w h comes own.0 in onto_back M closed a.entries s.moments (subst M (sym a.is) m)

run_back : (M : List Moment → Type 0) → IsClosed M → (c : Cluster) (hs : List Happening) (s : Scene) (d last : Due) → ShapedFrom c s d hs last → AreOwn d.wants → M (all_happened c s hs).moments
    → M s.moments
run_back M closed c [] s d last shaped own m = m
run_back M closed c (h ∷ hs) s d last shaped own m =
    step_back M closed c s d.wants d.rounds h shaped.0 own
    (run_back M closed c hs (happened c s h) (due_after c (happened c s h) d h) last shaped.1 (own_after c s (happened c s h) d.wants d.rounds h own) m)

-- ---- the run

pub run_kept : (Q : Scene → Type 0) (M : List Moment → Type 0) → IsClosed M → ((ms : List Moment) → M ms → AllAskSome ms) → (c : Cluster) (first : Scene) (S : Setting) (works : Works)
    → ((s : Scene) → Reached c first s → Facts S s) → ((s : Scene) → Reached c first s → M s.moments → Q s → TellsAt S works s)
    → (hs : List Happening) (s : Scene) (d last : Due) → Reached c first s → MayAllHappen c s hs → ShapedFrom c s d hs last → M (all_happened c s hs).moments → AtEachPart Q c s hs
    → AreOwn d.wants → Kept S works s.moments d.rounds → Kept S works (all_happened c s hs).moments last.rounds
run_kept Q M closed asks c first S works facts tells [] s d last r may shaped m so own k = subst (λ (z : Due). Kept S works s.moments z.rounds) shaped k
run_kept Q M closed asks c first S works facts tells (h ∷ hs) s d last r may shaped m so own k =
    let t : Scene = happened c s h in
    let next : Due = due_after c t d h in
    let after : AreOwn next.wants = own_after c s t d.wants d.rounds h own in
    let later : M t.moments = run_back M closed c hs t next last shaped.1 after m in
    let here : M s.moments = step_back M closed c s d.wants d.rounds h shaped.0 own later in
    run_kept Q M closed asks c first S works facts tells hs t next last (reached_more c first s h r may.0) may.1 shaped.1 m so.1 after
    (step_kept Q c S works s d.wants d.rounds h (facts s r) (λ q. tells s r here q) so.0 (asks t.moments later) shaped.0 own k)
