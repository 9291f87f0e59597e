-- Valid devices are of the cluster: at first, and after what is installed.
use Rattle.std.specs.Prelude.{ℕ, zero, suc, ◌-◌, ◌≡◌, ◌<◌, ◌≤◌, ◌==◌, ◌⊎◌, min, bit_and, true, if◌then◌else◌, List, [], ◌∷◌, fold, Option, None, Some, IfSome}
use Rattle.std.specs.Int.{bit_at}
use Rattle.std.specs.List.{AllByRecursion, cons_option, filter_map, find, list_all}
use Rattle.std.proofs.Common.{refl, sym, ap, subst, ◌∙◌, inl, inr, arith}
use Rattle.std.proofs.lemmas.Bool.Decides.{nat_tests}
use Rattle.std.proofs.lemmas.Nat.Bits.{bit_at-lt, bit_at_and}
use Rattle.cl_base.proofs.SetLemmas.{has_at, has_not_zero, has_with, none_of_zero, or_bit_value}
use Rattle.cl_base.specs.Seizings.{SeizeResult}
use Rattle.cl_base.specs.Sets.{has, set_with, set_without}
use Rattle.cl_base.specs.declared.seizing.SeizeEnd.TheVariants.{Contended, Expelled, Fault, Greater, Held, NotRegistered}
use Rattle.cmm_attempt.proofs.Basics.{and_cases, false_true, if_either, or_cases, same_number}
use Rattle.cmm_attempt.specs.Attempts.{AttemptState, install_in}
use Rattle.cmm_attempt.specs.Installs.{install_by}
use Rattle.cmm_attempt.specs.Promises.{is_from}
use Rattle.cmm_attempt.specs.Seizings.{reading_by, reading_in, reading_of}
use Rattle.cmm_attempt.specs.declared.attached.AttachedDevice.{AttachedDevice}
use Rattle.cmm_attempt.specs.declared.plan.Plan.{Plan}
use Rattle.cmm_attempt.specs.declared.promised.Promised.{Promised}
use Rattle.cmm_attempt.specs.declared.seizing.Seizing.{Seizing}
use Rattle.cmm_member.specs.Nodes.{Devices, joining_all, joining_one, joins}
use Rattle.node_model.specs.Clusters.{first_valid_of, is_first_valid}
use Rattle.node_model.specs.Members.{is_known_reading}
use Rattle.node_model.specs.declared.cluster.Cluster.{Cluster}
use Rattle.run_history.proofs.Lists.{found}
use Rattle.run_history.specs.Names.{AreListed, AttachedOf, AttemptNames, IsListed, SeizingOf}
use Rattle.wire.specs.declared.lists.Reading.{Reading}

-- the cluster's devices have the numbers that a set may have
abbrev pub Numbered : Cluster → Type 0
Numbered c = (d : ℕ) → IsListed c d → (1 ≤ d) × (d ≤ 32)

abbrev pub AllListed : Cluster → ℕ → Type 0
AllListed c set = (d : ℕ) → has set d ≡ true → IsListed c d

-- ---- one more, and one less

with_listed : (c : Cluster) (set d : ℕ) → Numbered c → IsListed c d → AllListed c set → AllListed c (set_with set d)
with_listed c set d num is h e there =
    by_cases (or_cases (e == d) (has set e) (sym (ap (λ s. has s e) (sym (or_bit_value set d (num d is).1)) ∙ has_with set d (num d is).0 (num d is).1 e) ∙ there))
  where
    by_cases : ((e == d) ≡ true) ⊎ (has set e ≡ true) → IsListed c e
    by_cases (inl same) = subst (IsListed c) (sym (same_number e d same)) is
    by_cases (inr old) = h e old

pub joined_listed : (c : Cluster) (set d : ℕ) → Numbered c → IsListed c d → AllListed c set → AllListed c (set_with set d)
joined_listed c set d num is h = with_listed c set d num is h

less_bit : (x y : ℕ) → x ≤ 1 → (min x y == 1) ≡ true → (x == 1) ≡ true
less_bit x y l h = grind (arith, nat_tests)

at_most_one : (x : ℕ) → x < 2 → x ≤ 1
at_most_one x h = omega (arith, h)

and_has : (a b m : ℕ) → has (bit_and a b) m ≡ true → has a m ≡ true
and_has a b zero h = absurd (false_true (sym (has_not_zero (bit_and a b)) ∙ h))
and_has a b (suc m) h =
    let low : 1 ≤ suc m = omega arith in
    has_at a (suc m) low
    ∙ less_bit (bit_at a (suc m - 1)) (bit_at b (suc m - 1)) (at_most_one (bit_at a (suc m - 1)) (bit_at-lt a (suc m - 1)))
    (ap (λ k. k == 1) (sym (bit_at_and a b (suc m - 1))) ∙ (sym (has_at (bit_and a b) (suc m) low) ∙ h))

pub without_listed : (c : Cluster) (set d : ℕ) → AllListed c set → AllListed c (set_without set d)
unfolding set_without
without_listed c set d h e there = h e (and_has set _ e there)

-- ---- an install

all_listed : (c : Cluster) (me : ℕ) (D : Devices) (rs : List Reading) → Numbered c → AllByRecursion (λ (r : Reading). IsListed c r.device) rs → AllListed c D.valid → AllListed c (joining_all me D rs).valid
all_listed c me D [] num are h = h
all_listed c me D (r ∷ rs) num are h =
    all_listed c me (joining_one me D r) rs num are.1
    (if_either (λ (E : Devices). AllListed c E.valid) (joins me D.valid r) (record { valid = set_with D.valid r.device; joined = set_with D.joined r.device })
    (record { valid = set_without D.valid r.device; joined = set_without D.joined r.device }) (with_listed c D.valid r.device num are.0 h) (without_listed c D.valid r.device h))

pub install_listed : (c : Cluster) (me valid : ℕ) (rs : List Reading) → Numbered c → AllByRecursion (λ (r : Reading). IsListed c r.device) rs → AllListed c valid
    → AllListed c (joining_all me (record { valid = valid; joined = 0 }) rs).valid
install_listed c me valid rs num are h = all_listed c me (record { valid = valid; joined = 0 }) rs num are h

-- what another brings
pub known_listed : (c : Cluster) (rs : List Reading) → list_all (is_known_reading c) rs ≡ true → AllByRecursion (λ (r : Reading). IsListed c r.device) rs
known_listed c [] h = tt
known_listed c (r ∷ rs) h =
    let two : (is_known_reading c r ≡ true) × (list_all (is_known_reading c) rs ≡ true) = and_cases (is_known_reading c r) (list_all (is_known_reading c) rs) h in
    ((and_cases (has c.devices r.device) (has c.nodes r.seizer) two.0).0, known_listed c rs two.1)

-- what its own attempt brings
by_listed : (D : ℕ → Type 0) (d : ℕ) (seizer : Option ℕ) (result : Option SeizeResult) → D d → IfSome (reading_by d seizer result) (λ (r : Reading). D r.device)
by_listed D d (Some n) (Some (Held keys)) h = h
by_listed D d (Some n) (Some (NotRegistered keys)) h = tt
by_listed D d (Some n) (Some (Greater word)) h = tt
by_listed D d (Some n) (Some Expelled) h = tt
by_listed D d (Some n) (Some (Contended word)) h = tt
by_listed D d (Some n) (Some Fault) h = tt
by_listed D d (Some n) None h = tt
by_listed D d None result h = tt

in_listed : (D : ℕ → Type 0) (o : Option Seizing) → IfSome o (SeizingOf D) → IfSome (reading_in o) (λ (r : Reading). D r.device)
in_listed D None h = tt
in_listed D (Some e) h = by_listed D e.attached.device e.seizer e.result h

each_listed : (D : ℕ → Type 0) (devices : List Seizing) (attached : List AttachedDevice) → AllByRecursion (SeizingOf D) devices → AllByRecursion (λ (r : Reading). D r.device) (filter_map (reading_of devices) attached)
each_listed D devices [] h = tt
each_listed D devices (a ∷ attached) h =
    more (reading_of devices a) (filter_map (reading_of devices) attached) (in_listed D (find (λ e. e.attached.device == a.device) devices) (found (SeizingOf D) (λ e. e.attached.device == a.device) devices h))
    (each_listed D devices attached h)
  where
    more : (o : Option Reading) (rest : List Reading) → IfSome o (λ (r : Reading). D r.device) → AllByRecursion (λ (r : Reading). D r.device) rest → AllByRecursion (λ (r : Reading). D r.device) (cons_option o rest)
    more None rest h k = k
    more (Some r) rest h k = (h, k)

by_readings : (plan : Plan) (readings : List Reading) (o : Option Promised) → (install_by plan readings o).readings ≡ readings
by_readings plan readings None = refl
by_readings plan readings (Some p) = refl

pub own_listed : (D : ℕ → Type 0) (a : AttemptState) → AttemptNames D a → AllByRecursion (λ (r : Reading). D r.device) (install_in a).readings
own_listed D a h =
    subst (λ rs. AllByRecursion (λ (r : Reading). D r.device) rs) (sym (by_readings a.plan (filter_map (reading_of a.devices) a.plan.attached) (find (is_from a.newest) a.promises)))
    (each_listed D a.devices a.plan.attached h.1)

-- ---- before the first record

first_from : (c : Cluster) (n set : ℕ) (attached : List AttachedDevice) → Numbered c → AllByRecursion (AttachedOf (IsListed c)) attached → AllListed c set
    → AllListed c (fold (λ s a. if is_first_valid c n a then set_with s a.device else s) set attached)
first_from c n set [] num are h = h
first_from c n set (a ∷ attached) num are h =
    first_from c n (if is_first_valid c n a then set_with set a.device else set) attached num are.1
    (if_either (AllListed c) (is_first_valid c n a) (set_with set a.device) set (with_listed c set a.device num are.0 h) h)

pub first_valid_listed : (c : Cluster) (n : ℕ) → Numbered c → AreListed c → AllListed c (first_valid_of c n)
first_valid_listed c n num are = first_from c n 0 c.attached num are (λ d is. absurd (false_true (sym (none_of_zero d) ∙ is)))
