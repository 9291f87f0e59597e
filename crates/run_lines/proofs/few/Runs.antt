-- From the first thing that happens to the last no node does as many commands in a row as the world lets it do at most.
use Rattle.std.specs.Prelude.{ℕ, ◌+◌, ◌≡◌, ◌≤◌, ◌<◌, Bool, true, false, List, [], ◌∷◌, Option, None, Some, is_some, if◌then◌else◌}
use Rattle.std.proofs.Common.{refl, sym, subst, ◌∙◌, inl, inr, arith}
use Rattle.cl_base.specs.declared.header.Header.{Header}
use Rattle.cl_base.specs.declared.method.Outcome as method
use Rattle.history.specs.Order.{Always}
use Rattle.history.specs.Moment.{Moment}
use Rattle.node_model.specs.declared.cluster.Cluster.{Cluster}
use Rattle.node_model.specs.declared.input.Input.TheVariants as input
use Rattle.world_model.specs.Devices.{due_at}
use Rattle.world_model.specs.First.{first_cluster}
use Rattle.run_history.proofs.Reached.{Reached, reached_more}
use Rattle.run_history.proofs.Runs.{run_stage}
use Rattle.run_history.specs.Happenings.{Happening, MayAllHappen, MayHappen, all_happened, happened, taking}
use Rattle.run_history.specs.Happenings.Happening.{Begins, Commands, Notes, Speaks, Takes}
use Rattle.run_history.specs.Rounds.{Progress, most_commands}
use Rattle.run_history.specs.Scenes.{Scene, first_scene}
use Rattle.run_history.specs.Shapes.{Due, IsDue, IsThis, Opens, ShapedFrom, Want, brings, commanding, due_after, if_up, nothing, opened, still}
use Rattle.run_history.specs.Shapes as want
use Rattle.run_history.specs.Stages.{Sized, Stage}
use Rattle.run_messages.proofs.records.Sizes.{header_sized}
use Rattle.run_lines.proofs.Adds.{Adds}
use Rattle.run_lines.proofs.Begins.{next_may}
use Rattle.run_lines.specs.rounds.Laws.{FewCommands, in_a_row}
use Rattle.run_lines.proofs.rounds.Adds.{AreOwn, want_adds}
use Rattle.run_lines.proofs.rounds.Walk.{own_after}
use Rattle.run_lines.specs.few.Counts.{AllCounted, Counted, left_by, most_left}
use Rattle.run_lines.specs.few.Laws.{FewCommandsInEachRun, IsBounded, RowsOfEachRun, most_in_a_row}
use Rattle.run_lines.proofs.few.Scenes.{NodesAlone, Readied, command_left, happening_alone, ready_left}
use Rattle.run_lines.proofs.few.Opens.{few_here, few_same, line_all, part_all, row_same}

-- ---- what is due comes

abbrev This : List Want → Happening → Type 0
This [] h = ⊥
This (w ∷ wants) h = IsThis w h

abbrev behind : Scene → List Want → List Want
behind s [] = []
behind s (w ∷ wants) = still s wants

moved : (r q a b m : ℕ) → r ≡ q → a ≤ b → q + b ≤ m → r + a ≤ m
moved r q a b m same less h = omega (arith, same, less, h)

one_less : (r q a b m : ℕ) → r ≡ q → a + 1 ≤ b → q + b ≤ m + 1 → r + a ≤ m
one_less r q a b m same less h = omega (arith, same, less, h)

ready_counted : (c : Cluster) (s : Scene) (n now : ℕ) (ends : method.Outcome) → Stage c s → NodesAlone s → in_a_row n (taking c n now ends input.CommandDue s).moments ≡ in_a_row n s.moments
    → is_some (due_at (Some (s.nodes.node n))) ≡ true → in_a_row n s.moments + left_by s n ≤ most_left + 1
    → Counted (taking c n now ends input.CommandDue s) n (still (taking c n now ends input.CommandDue s) (want.Command n ∷ []))
ready_counted c s n now ends b alone same due most = by_due (is_some (due_at (Some (t.nodes.node n)))) refl
  where
    t : Scene
    t = taking c n now ends input.CommandDue s

    r : Readied s t n
    r = ready_left c s n now ends b alone due

    by_due : (d : Bool) → is_some (due_at (Some (t.nodes.node n))) ≡ d → Counted t n (if d then want.Command n ∷ [] else [])
    by_due true is = inr (inr (inr (refl, moved (in_a_row n t.moments) (in_a_row n s.moments) (left_by t n) (left_by s n) (most_left + 1) same (r.due is) most)))
    by_due false is = inr (inl (refl, one_less (in_a_row n t.moments) (in_a_row n s.moments) (left_by t n) (left_by s n) most_left same (r.none is) most))

readies_on : (c : Cluster) (s : Scene) (n : ℕ) (h : Happening) → Stage c s → NodesAlone s → MayHappen c s h → in_a_row n (happened c s h).moments ≡ in_a_row n s.moments
    → is_some (due_at (Some (s.nodes.node n))) ≡ true → in_a_row n s.moments + left_by s n ≤ most_left + 1 → IsThis (want.Take n input.CommandDue) h
    → Counted (happened c s h) n (still (happened c s h) (want.Command n ∷ []))
readies_on c s n (Takes m now ends j) b alone may same due most is =
    subst (λ k. in_a_row n (happened c s (Takes k now ends j)).moments ≡ in_a_row n s.moments → Counted (happened c s (Takes k now ends j)) n (still (happened c s (Takes k now ends j)) (want.Command n ∷ []))) (sym is.0)
    (subst (λ i. in_a_row n (taking c n now ends i s).moments ≡ in_a_row n s.moments → Counted (taking c n now ends i s) n (still (taking c n now ends i s) (want.Command n ∷ []))) (sym is.1)
    (λ e. ready_counted c s n now ends b alone e due most)) same
readies_on c s n _ b alone may same due most is = absurd is

does_on : (c : Cluster) (s : Scene) (n : ℕ) (h : Happening) → Sized c → Stage c s → NodesAlone s → MayHappen c s h → in_a_row n (happened c s h).moments ≡ in_a_row n s.moments
    → in_a_row n s.moments + left_by s n ≤ most_left + 1 → IsThis (want.Command n) h → Counted (happened c s h) n []
does_on c s n (Commands m d k now ends) sized b alone may same most is =
    subst (λ j. MayHappen c s (Commands j d k now ends) → in_a_row n (happened c s (Commands j d k now ends)).moments ≡ in_a_row n s.moments → Counted (happened c s (Commands j d k now ends)) n []) (sym is)
    (λ p e. inr (inl (
      refl,
      one_less (in_a_row n (happened c s (Commands n d k now ends)).moments) (in_a_row n s.moments) (left_by (happened c s (Commands n d k now ends)) n) (left_by s n) most_left e
          (command_left c s n d k now ends sized b alone p) most,
    ))) may same
does_on c s n _ sized b alone may same most is = absurd is

pub due_counted : (c : Cluster) (s : Scene) (n : ℕ) (wants : List Want) (h : Happening) → Sized c → Stage c s → NodesAlone s → MayHappen c s h
    → in_a_row n (happened c s h).moments ≡ in_a_row n s.moments → Counted s n wants → This wants h → Counted (happened c s h) n (behind (happened c s h) wants)
due_counted c s n wants h sized b alone may same (inl none) is = inl (same ∙ none)
due_counted c s n wants h sized b alone may same (inr (inl rests)) is = absurd (subst (λ ws. This ws h) rests.0 is)
due_counted c s n wants h sized b alone may same (inr (inr (inl r))) is =
    subst (λ ws. This ws h → Counted (happened c s h) n (behind (happened c s h) ws)) (sym r.0) (λ this. readies_on c s n h b alone may same r.1 r.2 this) is
due_counted c s n wants h sized b alone may same (inr (inr (inr r))) is =
    subst (λ ws. This ws h → Counted (happened c s h) n (behind (happened c s h) ws)) (sym r.0) (λ this. does_on c s n h sized b alone may same r.1 this) is

-- ---- one thing more

opens_all : (c : Cluster) (s : Scene) (rounds : Option Progress) (h : Happening) → Opens s rounds h → AllCounted s [] → AllCounted (happened c s h) (opened c (happened c s h) rounds h).wants
opens_all c s None (Speaks e) opens k = line_all c s e k
opens_all c s (Some p) (Begins e) opens k = part_all c s e (next_may s p e opens) k
opens_all c s (Some p) (Notes e) opens k = record { alone = k.alone; counted = k.counted; few = ((λ n. few_here s.moments n k.few), k.few) }
opens_all c s _ _ opens k = absurd opens

step_all : (c : Cluster) (s : Scene) (wants : List Want) (rounds : Option Progress) (h : Happening) → Sized c → Stage c s → MayHappen c s h → IsDue s (record { wants = wants; rounds = rounds }) h → AreOwn wants
    → AllCounted s wants → AllCounted (happened c s h) (due_after c (happened c s h) (record { wants = wants; rounds = rounds }) h).wants
step_all c s [] rounds h sized b may comes own k = opens_all c s rounds h comes k
step_all c s (w ∷ wants) rounds h sized b may comes own k =
    let a : Adds s.moments (happened c s h).moments = want_adds c s w h comes own.0 in
    record {
      alone = happening_alone c s h k.alone;
      counted = λ n. due_counted c s n (w ∷ wants) h sized b k.alone may (row_same n s.moments (happened c s h).moments a) (k.counted n) comes;
      few = few_same s.moments (happened c s h).moments a k.few;
    }

-- ---- the run

run_all : (h : Header) (cells : ℕ) → Sized (first_cluster h) → ((s : Scene) → Reached (first_cluster h) (first_scene h cells) s → Stage (first_cluster h) s) → (hs : List Happening) (s : Scene) (d last : Due)
    → Reached (first_cluster h) (first_scene h cells) s → MayAllHappen (first_cluster h) s hs → ShapedFrom (first_cluster h) s d hs last → AreOwn d.wants → AllCounted s d.wants
    → AllCounted (all_happened (first_cluster h) s hs) last.wants
run_all h cells sized stage [] s d last r may shaped own k = subst (λ (z : Due). AllCounted s z.wants) shaped k
run_all h cells sized stage (g ∷ hs) s d last r may shaped own k =
    let c : Cluster = first_cluster h in
    run_all h cells sized stage hs (happened c s g) (due_after c (happened c s g) d g) last (reached_more c (first_scene h cells) s g r may.0) may.1 shaped.1
    (own_after c s (happened c s g) d.wants d.rounds g own) (step_all c s d.wants d.rounds g sized (stage s r) may.0 shaped.0 own k)

first_all : (h : Header) (cells : ℕ) → AllCounted (first_scene h cells) []
unfolding first_scene
first_all h cells = record { alone = λ n. tt; counted = λ n. inl refl; few = tt }

pub rows_of_each_run : RowsOfEachRun
rows_of_each_run h cells hs last devices small may shaped =
    (run_all h cells (header_sized h devices small) (λ s r. subst (Stage (first_cluster h)) r.is (run_stage h cells r.happenings devices small r.may)) hs (first_scene h cells) nothing last
    (record { happenings = []; may = tt; is = refl }) may shaped tt (first_all h cells)).few

-- it is less than the world lets a node do
few_of : (ms : List Moment) → Always IsBounded ms → FewCommands ms
unfolding most_commands
few_of [] h = tt
few_of (m ∷ ms) h = ((λ n. less (in_a_row n (m ∷ ms)) (h.0 n)), few_of ms h.1)
  where
    less : (k : ℕ) → k ≤ most_in_a_row → k < 4096
    less k h = omega (arith, h)

pub few_commands_in_each_run : FewCommandsInEachRun
few_commands_in_each_run h cells hs last devices small may shaped =
    few_of (all_happened (first_cluster h) (first_scene h cells) hs).moments (rows_of_each_run h cells hs last devices small may shaped)
