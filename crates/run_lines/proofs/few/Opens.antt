-- A line, or a part of a round, opens an event: what is left then.
use Rattle.std.specs.Prelude.{ℕ, suc, ◌+◌, ◌≡◌, ◌≢◌, ◌≤◌, ◌⊎◌, ◌==◌, Bool, true, false, List, [], ◌∷◌, Option, None, Some, is_some, if◌then◌else◌}
use Rattle.std.specs.List.{AllByRecursion}
use Rattle.std.proofs.Common.{refl, sym, ap, subst, ◌∙◌, inl, inr, arith}
use Rattle.std.proofs.lemmas.Bool.{cond_both}
use Rattle.cmm_attempt.proofs.Basics.{false_true}
use Rattle.machine_base.proofs.Puts.{same_or_not}
use Rattle.history.specs.Order.{Always}
use Rattle.history.specs.Moment.{Moment, Part, Said, Told}
use Rattle.node_model.specs.declared.cluster.Cluster.{Cluster}
use Rattle.node_model.specs.declared.input.Input.TheVariants as input
use Rattle.node_model.specs.declared.node.Node.{Node}
use Rattle.node_model.specs.declared.node.Node.TheVariants.{Down, Up}
use Rattle.pgr_device.specs.declared.command.PrCommand.{PrCommand}
use Rattle.schedule_text.specs.declared.event.Event.{Event}
use Rattle.schedule_text.specs.declared.event.Event.TheVariants as event
use Rattle.schedule_text.specs.declared.line.Line.TheVariants as line
use Rattle.world_model.specs.Devices.{due_at}
use Rattle.run_history.specs.Happenings.{happened}
use Rattle.run_history.specs.Happenings.Happening.{Speaks}
use Rattle.run_history.specs.Scenes.{Scene, adding}
use Rattle.run_history.specs.Shapes.{Due, IsDue, IsThis, Opens, ShapedFrom, Want, brings, commanding, due_after, if_up, nothing, opened, still}
use Rattle.run_history.specs.Shapes as want
use Rattle.run_lines.specs.Entries.{IsEntry, MayBegin}
use Rattle.run_lines.proofs.Adds.{Adds, onto}
use Rattle.run_lines.proofs.Runs.{armed_moments}
use Rattle.run_lines.specs.rounds.Laws.{in_a_row}
use Rattle.run_lines.specs.few.Counts.{AllCounted, Counted, left_by, most_left, node_left, word_at}
use Rattle.run_lines.specs.few.Laws.{IsBounded, most_in_a_row}
use Rattle.run_lines.proofs.few.Most.{left_most}
use Rattle.run_lines.proofs.few.Scenes.{happening_alone}

-- ---- how much is left at most

pub node_most : (word : ℕ → ℕ) (node : Node) → node_left word node ≤ most_left
node_most word Down = omega arith
node_most word (Up x) = left_most word _ x.tasks

pub scene_most : (s : Scene) (n : ℕ) → left_by s n ≤ most_left
scene_most s n = node_most (word_at s.devices) (s.nodes.node n)

-- ---- entries

rowed : (n : ℕ) (xs ms : List Moment) → AllByRecursion IsEntry xs → in_a_row n (onto xs ms) ≡ in_a_row n ms
rowed n [] ms are = refl
rowed n (Told e ∷ xs) ms are = rowed n xs (Told e ∷ ms) are.1
rowed n (Said l ∷ xs) ms are = absurd are.0
rowed n (Part e ∷ xs) ms are = absurd are.0

-- no moment yet, or the last one
pub few_here : (ms : List Moment) (n : ℕ) → Always IsBounded ms → in_a_row n ms ≤ most_in_a_row
few_here [] n few = omega arith
few_here (m ∷ ms) n few = few.0 n

few_onto : (xs ms : List Moment) → AllByRecursion IsEntry xs → Always IsBounded ms → Always IsBounded (onto xs ms)
few_onto [] ms are few = few
few_onto (Told e ∷ xs) ms are few = few_onto xs (Told e ∷ ms) are.1 ((λ n. few_here ms n few), few)
few_onto (Said l ∷ xs) ms are few = absurd are.0
few_onto (Part e ∷ xs) ms are few = absurd are.0

pub row_same : (n : ℕ) (before after : List Moment) → Adds before after → in_a_row n after ≡ in_a_row n before
row_same n before after a = ap (in_a_row n) (sym a.is) ∙ rowed n a.entries before a.are

pub few_same : (before after : List Moment) → Adds before after → Always IsBounded before → Always IsBounded after
few_same before after a few = subst (Always IsBounded) a.is (few_onto a.entries before a.are few)

-- ---- a line, or a part of a round, opens an event

sum_most : (r k q : ℕ) → r ≡ q → k ≤ most_left → q ≡ 0 → r + k ≤ most_left
sum_most r k q same high none = omega (arith, same, high, none)

-- a part is a command of this node
abbrev is_command_of : ℕ → Event → Bool
is_command_of n (event.Disk m) = m == n
is_command_of n _ = false

part_row : (n : ℕ) (e : Event) (ms : List Moment) → in_a_row n (Part e ∷ ms) ≡ (if is_command_of n e then suc (in_a_row n ms) else 0)
part_row n (event.Disk m) ms = refl
part_row n _ ms = refl

part_few : (s : Scene) (e : Event) → AllCounted s [] → Always IsBounded (Part e ∷ s.moments)
part_few s e k = ((λ n. row n (k.counted n)), k.few)
  where
    most : (n : ℕ) → Counted s n [] → suc (in_a_row n s.moments) ≤ most_left + 1
    most n (inl none) = none_yet (in_a_row n s.moments) none
      where
        none_yet : (q : ℕ) → q ≡ 0 → suc q ≤ most_left + 1
        none_yet q h = omega (arith, h)
    most n (inr (inl rests)) = within (in_a_row n s.moments) (left_by s n) rests.1
      where
        within : (q k : ℕ) → q + k ≤ most_left → suc q ≤ most_left + 1
        within q k h = omega (arith, h)
    most n (inr (inr (inl r))) = within (in_a_row n s.moments) (left_by s n) (clash r.0)
      where
        within : (q k : ℕ) → ⊥ → suc q ≤ most_left + 1
        within q k h = absurd h

        clash : [] ≡ want.Take n input.CommandDue ∷ want.Command n ∷ [] → ⊥
        clash e = cc
    most n (inr (inr (inr r))) = absurd (clash r.0)
      where
        clash : [] ≡ want.Command n ∷ [] → ⊥
        clash e = cc

    row : (n : ℕ) → Counted s n [] → in_a_row n (Part e ∷ s.moments) ≤ most_in_a_row
    row n h =
        subst (λ q. q ≤ most_in_a_row) (sym (part_row n e s.moments))
        (cond_both (is_command_of n e) (suc (in_a_row n s.moments)) 0 (λ q. q ≤ most_in_a_row) (λ _. most n h) (λ _. omega arith))

-- its command is due
brought : (c : Cluster) (s : Scene) (n : ℕ) (node : Node) → s.nodes.node n ≡ node → is_some (due_at (Some (s.nodes.node n))) ≡ true
    → if_up (s.nodes.node n) (λ x. commanding n (due_at (Some (s.nodes.node n)))) ≡ want.Take n input.CommandDue ∷ want.Command n ∷ []
brought c s n Down is due = absurd (false_true (sym (ap (λ z. is_some (due_at (Some z))) is) ∙ due))
brought c s n (Up x) is due = ap (λ z. if_up z (λ y. commanding n (due_at (Some (s.nodes.node n))))) is ∙ by_due (due_at (Some (s.nodes.node n))) due
  where
    by_due : (o : Option (ℕ × PrCommand)) → is_some o ≡ true → commanding n o ≡ want.Take n input.CommandDue ∷ want.Command n ∷ []
    by_due None h = absurd (false_true h)
    by_due (Some d) h = refl

disk_counted : (c : Cluster) (s : Scene) (m n : ℕ) → MayBegin s (event.Disk m) → Counted s n [] → Counted (adding (Part (event.Disk m)) s) n (brings c (adding (Part (event.Disk m)) s) (event.Disk m))
disk_counted c s m n may k = by_number (same_or_not m n)
  where
    t : Scene
    t = adding (Part (event.Disk m)) s

    not_same : (a b : ℕ) → a ≢ b → (a == b) ≡ false
    not_same a b other = grind (arith, other)

    is_same : (a : ℕ) → (a == a) ≡ true
    is_same a = grind arith

    next_most : (q r k : ℕ) → q ≡ suc r → r + k ≤ most_left → q + k ≤ most_left + 1
    next_most q r k is h = omega (arith, is, h)

    most : Counted s n [] → in_a_row n s.moments + left_by s n ≤ most_left
    most (inl none) = sum_most (in_a_row n s.moments) (left_by s n) (in_a_row n s.moments) refl (scene_most s n) none
    most (inr (inl rests)) = rests.1
    most (inr (inr (inl r))) = absurd (clash r.0)
      where
        clash : [] ≡ want.Take n input.CommandDue ∷ want.Command n ∷ [] → ⊥
        clash e = cc
    most (inr (inr (inr r))) = absurd (clash r.0)
      where
        clash : [] ≡ want.Command n ∷ [] → ⊥
        clash e = cc

    row : (b : Bool) → (m == n) ≡ b → in_a_row n t.moments ≡ (if b then suc (in_a_row n s.moments) else 0)
    row b is = ap (λ z. if z then suc (in_a_row n s.moments) else 0) is

    by_number : (m ≡ n) ⊎ (m ≢ n) → Counted t n (brings c t (event.Disk m))
    by_number (inr other) = inl (row false (not_same m n other))
    by_number (inl is) =
        let due : is_some (due_at (Some (s.nodes.node n))) ≡ true = subst (λ j. is_some (due_at (Some (s.nodes.node j))) ≡ true) is may in
        inr (inr (inl (
          ap (λ j. if_up (s.nodes.node j) (λ x. commanding j (due_at (Some (s.nodes.node j))))) is ∙ brought c s n (s.nodes.node n) refl due,
          due,
          next_most (in_a_row n t.moments) (in_a_row n s.moments) (left_by s n) (row true (ap (λ j. j == n) is ∙ is_same n)) (most k),
        )))

part_counted : (c : Cluster) (s : Scene) (e : Event) (n : ℕ) → MayBegin s e → Counted s n [] → Counted (adding (Part e) s) n (brings c (adding (Part e) s) e)
part_counted c s (event.Disk m) n may k = disk_counted c s m n may k
part_counted c s _ n may k = inl refl

pub line_all : (c : Cluster) (s : Scene) (e : Event) → AllCounted s [] → AllCounted (happened c s (Speaks e)) (brings c (happened c s (Speaks e)) e)
line_all c s e k =
    let t : Scene = adding (Said (line.Event e)) s in
    record {
      alone = happening_alone c s (Speaks e) k.alone;
      counted = λ n. inl (ap (in_a_row n) (armed_moments c t e));
      few = subst (Always IsBounded) (sym (armed_moments c t e)) ((λ n. omega arith), k.few);
    }

pub part_all : (c : Cluster) (s : Scene) (e : Event) → MayBegin s e → AllCounted s [] → AllCounted (adding (Part e) s) (brings c (adding (Part e) s) e)
part_all c s e may k = record { alone = k.alone; counted = λ n. part_counted c s e n may (k.counted n); few = part_few s e k }
