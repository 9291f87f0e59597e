-- What messages that are so bring to a node.
use Rattle.std.specs.Prelude.{ℕ, zero, suc, ◌-◌, ◌==◌, ◌||◌, ◌&&◌, ◌≡◌, ◌≤◌, ◌<◌, ◌^◌, bit_or, max, nat_lt, not, length, Bool, true, false, List, [], ◌∷◌}
use Rattle.std.specs.Int.{bit_at}
use Rattle.std.specs.List.{list_all}
use Rattle.std.proofs.Common.{refl, sym, ap, subst, ◌∙◌, arith}
use Rattle.std.proofs.lemmas.Bool.Decides.{nat_tests}
use Rattle.std.proofs.lemmas.Nat.Bits.{bit_at-lt, bit_at_or}
use Rattle.cl_base.proofs.SetLemmas.{has_at, has_not_zero}
use Rattle.cl_base.specs.Seizings.{SeizeResult}
use Rattle.cl_base.specs.Sets.{has}
use Rattle.cl_base.specs.declared.seizing.SeizeEnd.TheVariants as end
use Rattle.cmm_attempt.proofs.Basics.{false_true, same_number}
use Rattle.node_model.specs.Clusters.{is_within}
use Rattle.node_model.specs.Members.{are_devices, has_many_keys, is_bad_log, is_known_reading, is_strange}
use Rattle.node_model.specs.declared.cluster.Cluster.{Cluster}
use Rattle.node_model.specs.declared.node.Node.{Node}
use Rattle.node_model.specs.declared.node.Node.TheVariants.{Down, Up}
use Rattle.refinement.specs.node_widths.Widths.{BodyFits}
use Rattle.run_packets.proofs.native.Sets.{within}
use Rattle.run_packets.specs.native.Laws.{BringsNoBadLog, NamesNoStranger}
use Rattle.wire.specs.declared.lists.Reading.{Reading}
use Rattle.wire.specs.declared.message.Body.{Body}
use Rattle.wire.specs.declared.message.Body.TheVariants as body
use Rattle.run_packets.specs.admitted.Known.{BodyKnown, BodyTo, InDevices, ReadingsKnown, ResultFew}
use Rattle.order_laws.specs.Laws.{ToldCyclesHaveNames}
use Rattle.run_packets.specs.admitted.Laws.{is_answer, IsNativeAs, is_install, is_promise, is_ready, is_seized}

-- what is so of each packet that comes
pub record IsSound (c : Cluster) (n : ℕ) (b : Body) : Type 0 where
  pub fits : BodyFits b
  pub known : BodyKnown c b
  pub goes : BodyTo n b
  pub small : c.devices < 2 ^ 32

abbrev pub Comes : Cluster → ℕ → Node → Body → Type 0
Comes c n node b = IsSound c n b

-- ---- tests

none_of : (a b : Bool) → a ≡ true → b ≡ false → (not a || b) ≡ false
none_of true b h k = k
none_of false b h k = absurd (false_true h)

three : (a b d : Bool) → a ≡ false → b ≡ true → d ≡ false → (a || not b || d) ≡ false
three true b d h k l = absurd (false_true (sym h))
three false true d h k l = l
three false false d h k l = absurd (false_true k)

four : (a b d e : Bool) → a ≡ true → b ≡ false → d ≡ false → e ≡ true → (not a || b || d || not e) ≡ false
four true false false true h k l m = refl
four false b d e h k l m = absurd (false_true h)
four true true d e h k l m = absurd (false_true (sym k))
four true false true e h k l m = absurd (false_true (sym l))
four true false false false h k l m = absurd (false_true m)

not_many : (keys : List ℕ) → length keys ≤ 32 → nat_lt 32 (length keys) ≡ false
not_many keys h = by_size (length keys) h
  where
    by_size : (k : ℕ) → k ≤ 32 → nat_lt 32 k ≡ false
    by_size k h = grind (arith, nat_tests)

few_keys : (r : SeizeResult) → ResultFew r → has_many_keys r ≡ false
few_keys (end.Held keys) h = not_many keys h
few_keys (end.NotRegistered keys) h = not_many keys h
few_keys _ h = refl

devices_within : (c : Cluster) (set : ℕ) → set < 2 ^ 32 → c.devices < 2 ^ 32 → InDevices c set → are_devices c set ≡ true
devices_within c set small few are = within set c.devices small few are

wide : (set : ℕ) → set < 2 ^ 16 → set < 2 ^ 32
wide set h = omega (arith, h)

-- ---- members are nodes

two_bits : (x y : ℕ) → x < 2 → y < 2 → (max x y == 1) ≡ ((x == 1) || (y == 1))
two_bits x y low small = grind (arith, nat_tests)

or_has : (a b m : ℕ) → has (bit_or a b) m ≡ (has a m || has b m)
or_has a b zero = rw (has_not_zero (bit_or a b), has_not_zero a, has_not_zero b) refl
or_has a b (suc m) =
    let bits : bit_at (bit_or a b) (suc m - 1) ≡ max (bit_at a (suc m - 1)) (bit_at b (suc m - 1)) = bit_at_or a b (suc m - 1) in
    rw (has_at (bit_or a b) (suc m) (omega arith), bits, has_at a (suc m) (omega arith), has_at b (suc m) (omega arith))
    (two_bits (bit_at a (suc m - 1)) (bit_at b (suc m - 1)) (bit_at-lt a (suc m - 1)) (bit_at-lt b (suc m - 1)))

first_of : (a b : Bool) → a ≡ true → (a || b) ≡ true
first_of true b h = refl
first_of false b h = absurd (false_true h)

is_not : (b : Bool) → not b ≡ false → b ≡ true
is_not true h = refl
is_not false h = absurd (false_true (sym h))

-- a number of a set is one of each set that the first is within
member_in : (set all m : ℕ) → is_within set all ≡ true → has set m ≡ true → has all m ≡ true
member_in set all m inside is =
    subst (λ z. has z m ≡ true) (same_number (bit_or set all) all inside) (or_has set all m ∙ first_of (has set m) (has all m) is)

both_true : (a b : Bool) → a ≡ true → b ≡ true → (a && b) ≡ true
both_true true b h k = k
both_true false b h k = absurd (false_true h)

readings_in : (c : Cluster) (members : ℕ) (readings : List Reading) → is_strange c members ≡ false → ReadingsKnown c members readings → list_all (is_known_reading c) readings ≡ true
readings_in c members [] inside are = refl
readings_in c members (r ∷ readings) inside are =
    both_true (is_known_reading c r) (list_all (is_known_reading c) readings)
    (both_true (has c.devices r.device) (has c.nodes r.seizer) are.0.0 (member_in members c.nodes r.seizer (is_not (is_within members c.nodes) inside) are.0.1))
    (readings_in c members readings inside are.1)

-- ---- each kind

pub seized_native : (c : Cluster) (n : ℕ) (node : Node) (b : Body) → IsSound c n b → IsNativeAs is_seized c n node b
seized_native c n Down b s is = refl
seized_native c n (Up x) (body.Seized e d r) s is = none_of (has c.devices d) (has_many_keys r) s.known.0 (few_keys r s.known.1)
seized_native c n (Up x) _ s is = absurd (false_true is)

pub ready_native : (c : Cluster) (n : ℕ) (node : Node) (b : Body) → IsSound c n b → IsNativeAs is_ready c n node b
ready_native c n Down b s is = refl
ready_native c n (Up x) (body.Ready e joined report) s is = ap not (devices_within c joined (wide joined s.fits.1) s.small s.known)
ready_native c n (Up x) _ s is = absurd (false_true is)

pub promise_native : (c : Cluster) (n : ℕ) (node : Node) (b : Body) → IsSound c n b → NamesNoStranger c n node b → BringsNoBadLog c n node b → IsNativeAs is_promise c n node b
promise_native c n Down b s names brings is = refl
promise_native c n (Up x) (body.Promise e installed members valid flagged committed pending) s names brings is =
    three (is_strange c members) (are_devices c valid) (is_bad_log c committed pending) names (devices_within c valid (wide valid s.fits.3) s.small s.known) brings
promise_native c n (Up x) _ s names brings is = absurd (false_true is)

pub install_native : (c : Cluster) (n : ℕ) (node : Node) (b : Body) → IsSound c n b → NamesNoStranger c n node b → BringsNoBadLog c n node b → IsNativeAs is_install c n node b
install_native c n Down b s names brings is = refl
install_native c n (Up x) (body.Install i) s names brings is =
    four (has i.members n) (is_strange c i.members) (is_bad_log c i.committed i.pending) (list_all (is_known_reading c) i.readings) s.goes names brings
    (readings_in c i.members i.readings names s.known)
install_native c n (Up x) _ s names brings is = absurd (false_true is)

-- a cycle that is told has a name
pub answer_native : ToldCyclesHaveNames → (c : Cluster) (n : ℕ) (node : Node) (b : Body) → IsSound c n b → IsNativeAs is_answer c n node b
answer_native law c n Down b s is = refl
answer_native law c n (Up x) (body.Answer e number text) s is = ap not (s.known law)
answer_native law c n (Up x) _ s is = absurd (false_true is)
