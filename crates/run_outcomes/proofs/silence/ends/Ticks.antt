-- In each step the ticks of an attempt that its node had before go on, or it has asked anew, or installs.
use Rattle.std.specs.Prelude.{ℕ, ◌+◌, ◌≡◌, ◌≤◌, ◌⊎◌, nat_le, Bool, true, false, None, Some}
use Rattle.std.proofs.Common.{arith, refl, sym, ap, subst, ◌∙◌, inl, inr}
use Rattle.cl_base.specs.declared.method.Outcome as method
use Rattle.cmm_attempt.proofs.Basics.{false_true}
use Rattle.cmm_attempt.specs.Attempts.{AttemptState, is_over}
use Rattle.cmm_attempt.specs.Calls.{Take, Tick as Call_tick, turn}
use Rattle.cmm_attempt.specs.declared.phase.Phase.TheVariants.{Choosing, Collecting, Over}
use Rattle.node_model.specs.Attempts.{is_choosing}
use Rattle.node_model.specs.Members.{is_foreign}
use Rattle.node_model.specs.Steps.{stepped}
use Rattle.node_model.specs.declared.cluster.Cluster.{Cluster}
use Rattle.node_model.specs.declared.input.Input.{Input}
use Rattle.node_model.specs.declared.input.Input.TheVariants as input
use Rattle.node_model.specs.declared.node.Node.{Node}
use Rattle.node_model.specs.declared.node.Node.TheVariants.{Up}
use Rattle.node_model.specs.declared.node.UpNode.{UpNode}
use Rattle.record_disk.specs.Disks.{DiskState}
use Rattle.refinement.specs.Steps.{disk_rules}
use Rattle.wire.specs.declared.message.Body.{Body}
use Rattle.wire.specs.declared.message.Body.TheVariants as body
use Rattle.wire.specs.declared.message.Message.{Message}
use Rattle.run_outcomes.specs.phases.Kept.{In}
use Rattle.run_outcomes.specs.saves.Kept.{IsAt}
use Rattle.run_outcomes.specs.silence.Anew.{Fresh}
use Rattle.run_outcomes.proofs.phases.Leading.{Has}
use Rattle.run_outcomes.proofs.phases.Steps.{Comes, ComesBody, step_has}
use Rattle.run_outcomes.proofs.silence.ends.Following.{AskedNone}
use Rattle.run_outcomes.proofs.silence.ends.Kept.{Led, led_kept}
use Rattle.run_outcomes.proofs.silence.ends.Moves.{IsApart, IsPlan, Moves, lasts_moves}
use Rattle.run_outcomes.proofs.silence.ends.Waits.{over_kept, tick_led, tick_step}

-- what is known of the attempt before the step
pub record Standing (a : AttemptState) : Type 0 where
  pub plan : IsPlan a.plan
  pub apart : IsApart a
  pub live : is_over a.phase ≡ false
  pub rests : is_choosing a.phase ≡ false
  pub none : a.phase ≡ Collecting → AskedNone a
  pub few : a.ticks ≤ 8
  pub late : 7 ≤ a.ticks → (turn a Call_tick).after.phase ≡ Over

same_le : (k : ℕ) → k ≤ k
same_le k = omega arith

no_choice : (a : AttemptState) → Standing a → a.phase ≡ Choosing → ⊥
no_choice a k is = false_true (sym k.rests ∙ ap is_choosing is)

self_led : (a : AttemptState) → Standing a → Led a.ticks a a
self_led a k = record { plan = refl; moves = lasts_moves a.ticks a a (record { ticks = same_le a.ticks; phase = refl; asked = λ d m. refl; apart = k.apart }) }

-- what it comes to, where it is neither over nor chooses
pub led_so : (f : ℕ) (a b : AttemptState) → is_over b.phase ≡ false → is_choosing b.phase ≡ false → Led f a b → (f ≤ b.ticks) ⊎ Fresh a b
led_so f a b live rests l = by_move l.moves
  where
    by_move : Moves f a b → (f ≤ b.ticks) ⊎ Fresh a b
    by_move (inl (chooses, collects)) = absurd (false_true (sym rests ∙ ap is_choosing chooses))
    by_move (inr (inl k)) = inl k.ticks
    by_move (inr (inr (inl over))) = absurd (false_true (sym live ∙ ap is_over over))
    by_move (inr (inr (inr w))) = inr (record { early = w.early; way = w.way })

comes_led : (c : Cluster) (n : ℕ) (x : UpNode) (a : AttemptState) (from : ℕ) (m : Message) (b : Body) → Standing a → ComesBody (Led a.ticks a) a from m b
comes_led c n x a from m (body.Promise e installed members valid flagged committed pending) k = led_kept a.ticks a k.few k.plan (no_choice a k) k.none a (Take from m) tt (self_led a k)
comes_led c n x a from m _ k = self_led a k

-- a packet that is foreign to the node is not taken
abbrev pub IsNative : Cluster → ℕ → UpNode → Input → Type 0
IsNative c n x (input.Packet from m) = is_foreign c n x m.body ≡ false
IsNative c n x i = Unit {0}

comes_so : (c : Cluster) (n : ℕ) (x : UpNode) (a : AttemptState) (i : Input) → IsNative c n x i → Standing a → Comes (Led a.ticks a) c n x a i
comes_so c n x a (input.Packet from m) native k = (comes_led c n x a from m m.body k, native)
comes_so c n x a _ native k = self_led a k

-- ---- a step of its node

abbrev Outcome_so : ℕ → AttemptState → AttemptState → Type 0
Outcome_so f a b = (f ≤ b.ticks) ⊎ Fresh a b

at_up : (P : UpNode → Type 0) (node : Node) (y : UpNode) → node ≡ Up y → IsAt P node → P y
at_up P node y is h = subst (IsAt P) is h

pub other_step : (c : Cluster) (n now : ℕ) (ends : method.Outcome) (x y : UpNode) (a b : AttemptState) (disk : DiskState) (i : Input) → x.attempt ≡ Some a → x.presidency ≡ None → IsNative c n x i → Standing a
    → (stepped disk_rules c n now ends (Up x) disk i).after ≡ Up y → y.attempt ≡ Some b → is_over b.phase ≡ false → is_choosing b.phase ≡ false → Outcome_so a.ticks a b
other_step c n now ends x y a b disk i has none native k there at live rests =
    led_so a.ticks a b live rests
    (subst (In (Led a.ticks a)) at (at_up (Has (Led a.ticks a)) (stepped disk_rules c n now ends (Up x) disk i).after y there
    (step_has (Led a.ticks a) c n now ends x a disk i (led_kept a.ticks a k.few k.plan (no_choice a k) k.none) has none (comes_so c n x a i native k))))

pub tick_of_node : (c : Cluster) (n now : ℕ) (ends : method.Outcome) (x y : UpNode) (a b : AttemptState) (disk : DiskState) → x.attempt ≡ Some a → x.presidency ≡ None → Standing a
    → (stepped disk_rules c n now ends (Up x) disk input.Tick).after ≡ Up y → y.attempt ≡ Some b → is_over b.phase ≡ false → is_choosing b.phase ≡ false → Outcome_so (a.ticks + 1) a b
tick_of_node c n now ends x y a b disk has none k there at live rests = by_late (nat_le 7 a.ticks) refl
  where
    seven : nat_le 7 a.ticks ≡ true → 7 ≤ a.ticks
    seven is = grind arith

    fewer : nat_le 7 a.ticks ≡ false → a.ticks + 1 ≤ 8
    fewer is = grind arith

    by_late : (l : Bool) → nat_le 7 a.ticks ≡ l → Outcome_so (a.ticks + 1) a b
    by_late true is =
        absurd (false_true (sym live ∙ ap is_over
        (subst (In (λ (s : AttemptState). s.phase ≡ Over)) at (at_up (Has (λ s. s.phase ≡ Over)) (stepped disk_rules c n now ends (Up x) disk input.Tick).after y there
        (tick_step (λ s. s.phase ≡ Over) c n now ends x a disk over_kept has none (k.late (seven is)))))))
    by_late false is =
        led_so (a.ticks + 1) a b live rests
        (subst (In (Led (a.ticks + 1) a)) at (at_up (Has (Led (a.ticks + 1) a)) (stepped disk_rules c n now ends (Up x) disk input.Tick).after y there
        (tick_step (Led (a.ticks + 1) a) c n now ends x a disk (led_kept (a.ticks + 1) a (fewer is) k.plan (no_choice a k) k.none) has none (tick_led a k.live (fewer is) k.apart))))
