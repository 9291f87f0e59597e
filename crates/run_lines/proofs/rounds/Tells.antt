-- It is told which nodes have work: by the part that comes alone, and by the lines, where these tell the queues.
use Rattle.std.specs.Prelude.{ℕ, suc, ◌-◌, ◌==◌, ◌≡◌, ◌≢◌, ◌⊎◌, ◌&&◌, nat_lt, Bool, true, false, List, [], ◌∷◌, Option, None, Some, is_some, option_map, if◌then◌else◌}
use Rattle.std.specs.Option.{option_or}
use Rattle.std.proofs.Common.{refl, sym, ap, subst, ◌∙◌, inl, inr, arith}
use Rattle.std.proofs.lemmas.Bool.{cond_both}
use Rattle.cmm_attempt.proofs.Basics.{false_true, same_number}
use Rattle.interconnect.specs.Links.{Links}
use Rattle.schedule_text.specs.declared.event.Event.{Event}
use Rattle.schedule_text.specs.declared.event.Event.TheVariants as event
use Rattle.history.specs.Moment.{Moment}
use Rattle.history.specs.Queue.{has_work, queue_is_open}
use Rattle.history.specs.Round.{is_disk_of, works}
use Rattle.history.specs.Setting.{Setting}
use Rattle.node_model.specs.declared.node.Node.{Node}
use Rattle.node_model.specs.declared.node.Node.TheVariants.{Down, Up}
use Rattle.refinement.specs.Runs.{Nodes}
use Rattle.world_model.specs.Devices.{due_at}
use Rattle.world_model.specs.Worlds.{is_up_node}
use Rattle.run_history.specs.Rounds as world
use Rattle.run_history.specs.Rounds.{at, has_turn, listed, most_commands, next_at, next_delivery, next_from, next_tick, next_work, numbers_below, round_of}
use Rattle.run_lines.specs.rounds.Following.{AllPassed, AreOf, IsIn, Lacks, TellsPart, TellsStage, TellsWork, next_of}
use Rattle.run_lines.proofs.rounds.Numbers.{listed_are, others_are}

-- ---- what comes

-- the part of this stage, or what comes behind it
abbrev part_or : Option (Event × world.Stage) → Option Event → Option Event
part_or o behind = option_or (option_map (λ (next : Event × world.Stage). next.0) o) behind

-- the part that comes of rounds
abbrev pub event_in : Option (Event × world.Progress) → Option Event
event_in o = option_map (λ (next : Event × world.Progress). next.0) o

-- a command is due at n
abbrev is_due : Nodes → ℕ → Bool
is_due v n = is_some (due_at (Some (v.node n)))

-- a node whose command comes has one due
abbrev pub OnlyDue : Nodes → Option Event → Type 0
OnlyDue v coming = (n : ℕ) → coming ≡ Some (event.Disk n) → is_some (due_at (Some (v.node n))) ≡ true

one_or : (p : world.Progress) (o : Option (Event × world.Stage)) (r : Option (Event × world.Progress))
    → event_in (option_or (option_map (λ (next : Event × world.Stage). (next.0, at p next.1)) o) r) ≡ part_or o (event_in r)
one_or p None r = refl
one_or p (Some z) r = refl

-- ---- whatever tells it

-- packets that are none are passed over
passed_over : (v : Nodes) (l : Links) (nodes : ℕ) (ks : List ℕ) → AllPassed l nodes ks → next_delivery v l nodes ks ≡ next_work v nodes most_commands (listed nodes)
passed_over v l nodes [] h = refl
passed_over v l nodes (k ∷ ks) h =
    ap (λ b. if b then Some (event.Deliver k, world.Delivering ks) else next_delivery v l nodes ks) h.0 ∙ passed_over v l nodes ks h.1

-- it is told of one after another
work_told : (W : ℕ → Bool) (v : Nodes) (nodes : ℕ) (coming behind : Option Event) (Fits : ℕ → List ℕ → Type 0)
    → ((k n : ℕ) (ns : List ℕ) → Fits k (n ∷ ns) → Fits most_commands ns)
    → ((k n : ℕ) (ns : List ℕ) → Fits k (n ∷ ns) → coming ≡ part_or (next_work v nodes k (n ∷ ns)) behind → has_turn v k n ≡ W n)
    → (k : ℕ) (ns : List ℕ) → Fits k ns → coming ≡ part_or (next_work v nodes k ns) behind → TellsWork W v k ns
work_told W v nodes coming behind Fits others one k [] fits is = tt
work_told W v nodes coming behind Fits others one k (n ∷ ns) fits is = (
  one k n ns fits is,
  λ none. work_told W v nodes coming behind Fits others one most_commands ns (others k n ns fits)
      (is ∙ ap (λ b. part_or (if b then Some (event.Disk n, world.Working (k - 1) (n ∷ ns)) else next_work v nodes most_commands ns) behind) none),
)

-- what the nodes that are to work keep to
abbrev pub StageFits : (ℕ → List ℕ → Type 0) → world.Stage → Type 0
StageFits Fits (world.Delivering ks) = Unit {0}
StageFits Fits (world.Working k ns) = Fits k ns
StageFits Fits (world.Ticking ns) = Unit {0}

stage_told : (W : ℕ → Bool) (v : Nodes) (l : Links) (nodes : ℕ) (coming behind : Option Event) (Fits : ℕ → List ℕ → Type 0)
    → ((k n : ℕ) (ns : List ℕ) → Fits k (n ∷ ns) → Fits most_commands ns) → Fits most_commands (listed nodes)
    → ((k n : ℕ) (ns : List ℕ) → Fits k (n ∷ ns) → coming ≡ part_or (next_work v nodes k (n ∷ ns)) behind → has_turn v k n ≡ W n)
    → (stage : world.Stage) → StageFits Fits stage → coming ≡ part_or (next_at v l nodes stage) behind → TellsStage W v l nodes stage
stage_told W v l nodes coming behind Fits others all one (world.Delivering ks) fits is =
    λ passed. work_told W v nodes coming behind Fits others one most_commands (listed nodes) all (is ∙ ap (λ o. part_or o behind) (passed_over v l nodes ks passed))
stage_told W v l nodes coming behind Fits others all one (world.Working k ns) fits is = work_told W v nodes coming behind Fits others one k ns fits is
stage_told W v l nodes coming behind Fits others all one (world.Ticking ns) fits is = tt

-- one after another, whatever comes behind
abbrev pub TellsOne : (ℕ → Bool) → Nodes → ℕ → Option Event → (ℕ → List ℕ → Type 0) → Type 0
TellsOne W v nodes coming Fits =
    (behind : Option Event) (k n : ℕ) (ns : List ℕ) → Fits k (n ∷ ns) → coming ≡ part_or (next_work v nodes k (n ∷ ns)) behind → has_turn v k n ≡ W n

-- in this round, and in the next
pub part_told : (W : ℕ → Bool) (v : Nodes) (l : Links) (p : world.Progress) (Fits : ℕ → List ℕ → Type 0) → ((k n : ℕ) (ns : List ℕ) → Fits k (n ∷ ns) → Fits most_commands ns)
    → Fits most_commands (listed p.nodes) → StageFits Fits p.stage → TellsOne W v p.nodes (event_in (next_of v l p)) Fits → TellsPart W v l p
part_told W v l p Fits others all fits one = record {
  here =
      let behind : Option Event = event_in (next_from v l (p.left - 1) p.nodes) in
      stage_told W v l p.nodes coming behind Fits others all (one behind) p.stage fits (one_or p (next_at v l p.nodes p.stage) (next_from v l (p.left - 1) p.nodes));
  later = λ k is none.
      let behind : Option Event = event_in (next_from v l k p.nodes) in
      let q : world.Progress = round_of l (suc k) p.nodes in
      stage_told W v l p.nodes coming behind Fits others all (one behind) (world.Delivering (numbers_below l.next)) tt
      (ap (λ o. event_in (option_or (option_map (λ (next : Event × world.Stage). (next.0, at p next.1)) o) (next_from v l (p.left - 1) p.nodes))) none
      ∙ (ap (λ j. event_in (next_from v l j p.nodes)) is ∙ one_or q (next_at v l p.nodes (world.Delivering (numbers_below l.next))) (next_from v l k p.nodes)));
}
  where
    coming : Option Event
    coming = event_in (next_of v l p)

-- ---- commands

is_self : (n : ℕ) → (n == n) ≡ true
is_self n = grind arith

is_other : (m n : ℕ) → m ≢ n → (m == n) ≡ false
is_other m n ne = grind arith

-- no command of n comes
not_disk : (n : ℕ) (o : Option Event) → (o ≡ Some (event.Disk n) → ⊥) → is_disk_of n o ≡ false
not_disk n None f = refl
not_disk n (Some (event.Disk m)) f = by_number (m == n) refl
  where
    by_number : (b : Bool) → (m == n) ≡ b → b ≡ false
    by_number true e = absurd (f (ap (λ k. Some (event.Disk k)) (same_number m n e)))
    by_number false e = refl
not_disk n (Some e) f = refl

due_is_up : (z : Node) → is_some (due_at (Some z)) ≡ true → is_up_node (Some z) ≡ true
due_is_up Down e = absurd (false_true e)
due_is_up (Up x) e = refl

-- where n has no command due, none comes
none_comes : (v : Nodes) (n : ℕ) (coming : Option Event) → OnlyDue v coming → is_due v n ≡ false → is_disk_of n coming ≡ false
none_comes v n coming only none = not_disk n coming (λ is. false_true (sym none ∙ only n is))

-- where it has a turn, its command comes
turn_comes : (v : Nodes) (nodes k n : ℕ) (ns : List ℕ) (coming behind : Option Event) → coming ≡ part_or (next_work v nodes k (n ∷ ns)) behind → has_turn v k n ≡ true → is_disk_of n coming ≡ true
turn_comes v nodes k n ns coming behind is turn =
    ap (λ o. is_disk_of n o) (is ∙ ap (λ b. part_or (if b then Some (event.Disk n, world.Working (k - 1) (n ∷ ns)) else next_work v nodes most_commands ns) behind) turn) ∙ is_self n

-- ---- the part that comes shows it

-- something comes, and it is no command of n
abbrev IsElse : ℕ → Option (Event × world.Stage) → Type 0
IsElse n None = ⊥
IsElse n (Some z) = is_disk_of n (Some z.0) ≡ false

tick_else : (v : Nodes) (n : ℕ) (ns : List ℕ) → is_up_node (Some (v.node n)) ≡ true → IsIn n ns → IsElse n (next_tick v ns)
tick_else v n [] up among = absurd among
tick_else v n (m ∷ ms) up among =
    cond_both (is_up_node (Some (v.node m))) (Some (event.Tick m, world.Ticking ms)) (next_tick v ms) (λ o. IsElse n o) (λ here. refl) (λ down. behind among down (λ h. tick_else v n ms up h))
  where
    behind : (m ≡ n) ⊎ IsIn n ms → is_up_node (Some (v.node m)) ≡ false → (IsIn n ms → IsElse n (next_tick v ms)) → IsElse n (next_tick v ms)
    behind (inl e) down rest = absurd (false_true (sym (subst (λ k. is_up_node (Some (v.node k)) ≡ false) e down) ∙ up))
    behind (inr h) down rest = rest h

work_else : (v : Nodes) (nodes n k : ℕ) (ns : List ℕ) → is_up_node (Some (v.node n)) ≡ true → IsIn n (listed nodes) → Lacks n ns → IsElse n (next_work v nodes k ns)
work_else v nodes n k [] up among lacks = tick_else v n (listed nodes) up among
work_else v nodes n k (m ∷ ms) up among lacks =
    cond_both (has_turn v k m) (Some (event.Disk m, world.Working (k - 1) (m ∷ ms))) (next_work v nodes most_commands ms) (λ o. IsElse n o)
    (λ turn. is_other m n lacks.0) (λ none. work_else v nodes n most_commands ms up among lacks.1)

else_comes : (n : ℕ) (o : Option (Event × world.Stage)) (behind : Option Event) → IsElse n o → is_disk_of n (part_or o behind) ≡ false
else_comes n None behind h = absurd h
else_comes n (Some z) behind h = h

shown_one : (v : Nodes) (nodes : ℕ) (coming : Option Event) → OnlyDue v coming → TellsOne (λ n. is_disk_of n coming) v nodes coming (λ k ns. AreOf nodes ns)
shown_one v nodes coming only behind k n ns are is = by_turn (has_turn v k n) refl
  where
    by_due : (b : Bool) → is_due v n ≡ b → has_turn v k n ≡ false → is_disk_of n coming ≡ false
    by_due false e none = none_comes v n coming only e
    by_due true e none =
        ap (λ o. is_disk_of n o) (is ∙ ap (λ b. part_or (if b then Some (event.Disk n, world.Working (k - 1) (n ∷ ns)) else next_work v nodes most_commands ns) behind) none)
        ∙ else_comes n (next_work v nodes most_commands ns) behind (work_else v nodes n most_commands ns (due_is_up (v.node n) e) are.among.0 are.differ.0)

    by_turn : (b : Bool) → has_turn v k n ≡ b → b ≡ is_disk_of n coming
    by_turn true e = sym (turn_comes v nodes k n ns coming behind is e)
    by_turn false e = sym (by_due (is_due v n) refl e)

pub shown_tells : (v : Nodes) (l : Links) (p : world.Progress) → StageFits (λ k ns. AreOf p.nodes ns) p.stage → OnlyDue v (event_in (next_of v l p))
    → TellsPart (λ n. is_disk_of n (event_in (next_of v l p))) v l p
shown_tells v l p fits only =
    part_told (λ n. is_disk_of n (event_in (next_of v l p))) v l p (λ k ns. AreOf p.nodes ns) (λ k n ns are. others_are p.nodes n ns are) (listed_are p.nodes) fits
    (shown_one v p.nodes (event_in (next_of v l p)) only)

-- ---- the lines tell it

-- the first of the nodes may do one command more
abbrev pub MayDo : ℕ → List ℕ → Type 0
MayDo k [] = Unit {0}
MayDo k (n ∷ ns) = nat_lt 0 k ≡ true

most_may : (ns : List ℕ) → MayDo most_commands ns
unfolding most_commands
most_may [] = tt
most_may (n ∷ ns) = refl

queued_one : (S : Setting) (ms : List Moment) (v : Nodes) (nodes : ℕ) (coming : Option Event) → OnlyDue v coming
    → ((n : ℕ) → queue_is_open S n ms ≡ false → has_work S n ms ≡ is_some (due_at (Some (v.node n))))
    → TellsOne (λ n. works S coming n ms) v nodes coming MayDo
queued_one S ms v nodes coming only told behind k n ns may is = turn_is_due ∙ by_queue (queue_is_open S n ms) refl
  where
    turn_is_due : has_turn v k n ≡ is_due v n
    turn_is_due = ap (λ b. b && is_due v n) may

    by_due : (b : Bool) → is_due v n ≡ b → b ≡ is_disk_of n coming
    by_due true e = sym (turn_comes v nodes k n ns coming behind is (turn_is_due ∙ e))
    by_due false e = sym (none_comes v n coming only e)

    by_queue : (b : Bool) → queue_is_open S n ms ≡ b → is_due v n ≡ (if b then is_disk_of n coming else has_work S n ms)
    by_queue true e = by_due (is_due v n) refl
    by_queue false e = sym (told n e)

pub queued_tells : (S : Setting) (ms : List Moment) (v : Nodes) (l : Links) (p : world.Progress) → StageFits MayDo p.stage → OnlyDue v (event_in (next_of v l p))
    → ((n : ℕ) → queue_is_open S n ms ≡ false → has_work S n ms ≡ is_some (due_at (Some (v.node n))))
    → TellsPart (λ n. works S (event_in (next_of v l p)) n ms) v l p
queued_tells S ms v l p fits only told =
    part_told (λ n. works S (event_in (next_of v l p)) n ms) v l p MayDo (λ k n ns may. most_may ns) (most_may (listed p.nodes)) fits
    (queued_one S ms v p.nodes (event_in (next_of v l p)) only told)
