-- Once a node has readied itself for the command that is due, its record calls no key validated that a plain seizing is about to register.
use Rattle.std.specs.Prelude.{ℕ, zero, suc, ◌-◌, ◌*◌, ◌%◌, ◌^◌, ◌≡◌, ◌≤◌, ◌<◌, ◌==◌, min, nat_lt, Bool, true, false, List, [], Option, None, Some, bit_and}
use Rattle.std.specs.Int.{bit_at}
use Rattle.std.proofs.Common.{refl, sym, ap, subst, ◌∙◌, arith, w32, pow_mono}
use Rattle.std.proofs.lemmas.Nat.Bits.{bit_at-zero, bit_at_and, bit_at_clear_same}
use Rattle.std.proofs.lemmas.Bool.{cond_both}
use Rattle.cl_base.specs.Sets.{has, set_without}
use Rattle.cl_base.specs.declared.method.Outcome as method
use Rattle.cl_base.proofs.SetLemmas.{and_bit_value, has_at, has_not_zero}
use Rattle.cmm_attempt.proofs.Basics.{none_some, same_some}
use Rattle.cmm_member.specs.Nodes.{with_valid}
use Rattle.cmm_member.specs.Records.{NodeRecord}
use Rattle.device_queue.specs.Queue.{begins_plainly}
use Rattle.record_disk.specs.Disks.{DiskState, saving}
use Rattle.record_disk.specs.declared.error.Loss.{Loss}
use Rattle.node_model.specs.declared.cluster.Cluster.{Cluster}
use Rattle.node_model.specs.declared.input.Input.TheVariants as input
use Rattle.node_model.specs.declared.node.Node.{Node}
use Rattle.node_model.specs.declared.node.Node.TheVariants.{Down, Up}
use Rattle.node_model.specs.declared.node.UpNode.{UpNode}
use Rattle.node_model.specs.declared.output.Output.{Output}
use Rattle.node_model.specs.Devices.{distrusting, distrusting_at}
use Rattle.node_model.specs.Entries.{keeping}
use Rattle.node_model.specs.Plans.{Plan}
use Rattle.node_model.specs.Plans.Plan.{Stays}
use Rattle.node_model.specs.Seats.{record_of, state_of}
use Rattle.node_model.specs.Steps.{Outcome, at_second, carried, stepped, unless_lost}
use Rattle.refinement.specs.Steps.{disk_rules}
use Rattle.refinement.proofs.Texts.{state_with}
use Rattle.run_history.specs.Happenings.{IsReadied}

-- A number that is taken out of a set is not in it.

low_or_high : (k : ℕ) → nat_lt k 32 ≡ true → k < 32
low_or_high k h = grind arith

high_or_low : (k : ℕ) → nat_lt k 32 ≡ false → 32 ≤ k
high_or_low k h = grind arith

next_low : (k : ℕ) → k < 32 → suc k ≤ 32
next_low k h = omega (arith, h)

some_next : (k : ℕ) → 1 ≤ suc k
some_next k = omega arith

none_left : (p : ℕ) → 2 ^ 32 ≤ p → 2 ^ 32 - 1 - p ≡ 0
none_left p h = omega (arith, h)

less_or_none : (a : ℕ) → min a 0 ≡ 0
less_or_none a = grind arith

bit_less_low : (s k : ℕ) → k < 32 → bit_at (set_without s (suc k)) k ≡ 0
bit_less_low s k low =
    let same : suc k - 1 ≡ k = omega arith in
    ap (λ z. bit_at z k) (sym (and_bit_value s (suc k) (next_low k low))) ∙ ap (λ j. bit_at (bit_and s (4294967295 - 1 * 2 ^ j % 4294967296)) k) same ∙ bit_at_clear_same w32 s k low

bit_less_high : (s k : ℕ) → 32 ≤ k → bit_at (set_without s (suc k)) k ≡ 0
unfolding set_without
bit_less_high s k high =
    let same : suc k - 1 ≡ k = omega arith in
    let large : 2 ^ 32 ≤ 2 ^ (suc k - 1) = subst (λ j. 2 ^ 32 ≤ 2 ^ j) (sym same) (pow_mono {i = 32} {j = k} high) in
    bit_at_and s (2 ^ 32 - 1 - 2 ^ (suc k - 1)) k ∙ ap (λ m. min (bit_at s k) (bit_at m k)) (none_left (2 ^ (suc k - 1)) large) ∙ ap (λ m. min (bit_at s k) m) (bit_at-zero k) ∙ less_or_none (bit_at s k)

bit_less : (s k : ℕ) (b : Bool) → nat_lt k 32 ≡ b → bit_at (set_without s (suc k)) k ≡ 0
bit_less s k true h = bit_less_low s k (low_or_high k h)
bit_less s k false h = bit_less_high s k (high_or_low k h)

less_here : (s d : ℕ) → has (set_without s d) d ≡ false
less_here s zero = has_not_zero (set_without s 0)
less_here s (suc k) =
    let same : suc k - 1 ≡ k = omega arith in
    has_at (set_without s (suc k)) (suc k) (some_next k) ∙ ap (λ j. bit_at (set_without s (suc k)) j == 1) same ∙ ap (λ z. z == 1) (bit_less s k (nat_lt k 32) refl)

-- The node after it.

abbrev pub Ready : Node → Type 0
Ready Down = Unit {0}
Ready (Up x) = IsReadied x

stays_so : (x : UpNode) (o : Option ℕ) → begins_plainly x.tasks ≡ o → o ≡ None → IsReadied x
stays_so x o is none d e = absurd (none_some d (sym (is ∙ none) ∙ e))

lacks_so : (x : UpNode) (at : ℕ) → begins_plainly x.tasks ≡ Some at → has (record_of x).valid at ≡ false → IsReadied x
lacks_so x at is lacks d e = subst (λ k. has (record_of x).valid k ≡ false) (same_some at d (sym is ∙ e)) lacks

distrusts_so : (x : UpNode) (at : ℕ) → begins_plainly x.tasks ≡ Some at → IsReadied (distrusting x at)
distrusts_so x at is =
    lacks_so (distrusting x at) at is
    (ap (λ s. has s.saved.valid at) (state_with x.seat (with_valid (state_of x.seat) (set_without (record_of x).valid at))) ∙ less_here (record_of x).valid at)

unless_ready : (n : ℕ) (given : List Output) (disk : DiskState) (o : Option Loss) (next : Outcome DiskState) → Ready next.after → Ready (unless_lost n given disk o next).after
unless_ready n given disk None next h = h
unless_ready n given disk (Some loss) next h = tt

abbrev Done : ℕ → DiskState → Plan → Type 0
Done n disk plan = Ready (carried saving n plan [] disk).after

readied_by : (n : ℕ) (x : UpNode) (disk : DiskState) (o : Option ℕ) → begins_plainly x.tasks ≡ o → Done n disk (distrusting_at n x o)
readied_by n x disk None is = stays_so x None is refl
readied_by n x disk (Some at) is =
    cond_both (has (record_of x).valid at) (keeping n (distrusting x at) (Stays (distrusting x at))) (Stays x) (Done n disk)
    (λ e. unless_ready n [] (saving disk new).after (saving disk new).lost _ (distrusts_so x at is)) (λ e. lacks_so x at is e)
  where
    new : NodeRecord
    new = record_of (distrusting x at)

pub readied : (c : Cluster) (n now : ℕ) (ends : method.Outcome) (node : Node) (disk : DiskState) → Ready (stepped disk_rules c n now ends node disk input.CommandDue).after
readied c n now ends Down disk = tt
readied c n now ends (Up x) disk = readied_by n (at_second now x) disk (begins_plainly x.tasks) refl
