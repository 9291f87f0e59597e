-- The nodes that are registered at first: one node after another, and what holds of them.
use Rattle.std.proofs.Common.{◌≡◌, ◌≢◌, ℕ, suc, zero, ◌+◌, ◌*◌, ◌^◌, ◌<◌, ◌≤◌, ◌&&◌, Bool, true, false, cond, List, [], ◌∷◌, ◌++◌, map, filter, refl, sym, ap, ◌∙◌, subst, arith, add-one}
use Rattle.std.proofs.lemmas.Bool.{ne_eqb, cond_both, cond-true, cond-false, and_parts}
use Rattle.std.proofs.lemmas.List.{map-append, append-nil}
use Rattle.std.proofs.lemmas.List.Elements.{filter-append}
use Rattle.cl_base.specs.Numbers.{numbers_to}
use Rattle.cl_base.specs.Sets.{has}
use Rattle.pgr_device.specs.declared.registration.Registration.{Registration}
use Rattle.pgr_device.specs.Device.{own_key, first_keys, with_keys}
use Rattle.pgr_device.specs.Kept.{IsApart, IsDevice}
use Rattle.pgr_device.specs.Registered.{is_registered}
use Rattle.pgr_device.proofs.Keeps.{unregistered_push, apart_push}

kept : (paths : ℕ) (numbers : List ℕ) (n : ℕ) (b : Bool) → has paths n ≡ b → filter (has paths) (numbers ++ n ∷ []) ≡ filter (has paths) numbers ++ cond b (n ∷ []) []
kept paths numbers n b e = filter-append (has paths) numbers (n ∷ []) ∙ ap (λ (c : Bool). filter (has paths) numbers ++ cond c (n ∷ []) []) e

more_by : (paths nodes cluster k : ℕ) (a b : Bool) → has nodes (suc k) ≡ a → has paths (suc k) ≡ b
    → first_keys paths nodes cluster (suc k) ≡ cond (a && b) (first_keys paths nodes cluster k ++ own_key cluster (suc k) ∷ []) (first_keys paths nodes cluster k)
more_by paths nodes cluster k true true a b =
    ap (λ (ns : List ℕ). map (own_key cluster) (filter (has paths) ns)) (cond-true (has nodes (suc k)) (numbers_to nodes k ++ suc k ∷ []) (numbers_to nodes k) a)
    ∙ ap (map (own_key cluster)) (kept paths (numbers_to nodes k) (suc k) true b)
    ∙ map-append (own_key cluster) (filter (has paths) (numbers_to nodes k)) (suc k ∷ [])
more_by paths nodes cluster k true false a b =
    ap (λ (ns : List ℕ). map (own_key cluster) (filter (has paths) ns)) (cond-true (has nodes (suc k)) (numbers_to nodes k ++ suc k ∷ []) (numbers_to nodes k) a)
    ∙ ap (map (own_key cluster)) (kept paths (numbers_to nodes k) (suc k) false b)
    ∙ map-append (own_key cluster) (filter (has paths) (numbers_to nodes k)) [] ∙ append-nil (first_keys paths nodes cluster k)
more_by paths nodes cluster k false b a _ =
    ap (λ (ns : List ℕ). map (own_key cluster) (filter (has paths) ns)) (cond-false (has nodes (suc k)) (numbers_to nodes k ++ suc k ∷ []) (numbers_to nodes k) a)

next : (paths nodes cluster k : ℕ) → first_keys paths nodes cluster (suc k)
    ≡ cond (has nodes (suc k) && has paths (suc k)) (first_keys paths nodes cluster k ++ own_key cluster (suc k) ∷ []) (first_keys paths nodes cluster k)
next paths nodes cluster k = more_by paths nodes cluster k (has nodes (suc k)) (has paths (suc k)) refl refl

pub first_keys_none : (paths nodes cluster : ℕ) → first_keys paths nodes cluster 0 ≡ []
first_keys_none paths nodes cluster = refl

pub first_keys_more : (paths nodes cluster k : ℕ) → first_keys paths nodes cluster (k + 1)
    ≡ cond (has nodes (k + 1) && has paths (k + 1)) (first_keys paths nodes cluster k ++ own_key cluster (k + 1) ∷ []) (first_keys paths nodes cluster k)
first_keys_more paths nodes cluster k = rw add-one (next paths nodes cluster k)

-- no node above k is among the first k
none_above : (paths nodes cluster k n : ℕ) → k < n → is_registered (first_keys paths nodes cluster k) n ≡ false
none_above paths nodes cluster zero n lt = refl
none_above paths nodes cluster (suc k) n lt =
    let before = first_keys paths nodes cluster k in
    let later : is_registered before n ≡ false = none_above paths nodes cluster k n (omega (arith, lt)) in
    subst (λ (rs : List Registration). is_registered rs n ≡ false) (sym (next paths nodes cluster k))
    (cond_both (has nodes (suc k) && has paths (suc k)) (before ++ own_key cluster (suc k) ∷ []) before (λ (rs : List Registration). is_registered rs n ≡ false)
    (λ _. unregistered_push before (own_key cluster (suc k)) n later (ne_eqb (suc k) n (λ e. omega (arith, lt, e)))) (λ _. later))

some_key : (a k : ℕ) → a + suc k ≢ 0
some_key a k = λ e. omega (arith, e)

apart : (paths nodes cluster k : ℕ) → k ≤ 32 → IsApart paths (first_keys paths nodes cluster k)
apart paths nodes cluster zero le = tt
apart paths nodes cluster (suc k) le =
    let before = first_keys paths nodes cluster k in
    let later : IsApart paths before = apart paths nodes cluster k (omega (arith, le)) in
    subst (IsApart paths) (sym (next paths nodes cluster k))
    (cond_both (has nodes (suc k) && has paths (suc k)) (before ++ own_key cluster (suc k) ∷ []) before (IsApart paths)
    (λ both. apart_push paths before (own_key cluster (suc k)) (omega arith) le (and_parts (has nodes (suc k)) (has paths (suc k)) both).1 (some_key (cluster * 2 ^ 32) k)
    (none_above paths nodes cluster k (suc k) (omega arith)) later)
    (λ _. later))

pub with_keys_is : (paths nodes cluster : ℕ) → IsDevice (with_keys paths nodes cluster)
with_keys_is paths nodes cluster = record { apart = apart paths nodes cluster 32 (omega arith); held = tt }
