-- Counting members, and looking up what a list has.
use Rattle.std.proofs.Common.{◌≡◌, ℕ, zero, suc, ◌+◌, ◌^◌, ◌<◌, ◌≤◌, ◌==◌, ◌≢◌, ◌⊎◌, inl, inr, Bool, true, false, cond, not, ◌&&◌, ◌||◌, Some, List, [], ◌∷◌, ◌++◌, length, refl, sym, subst, ◌∙◌, append_assoc, arith}
use Rattle.std.specs.List.{AllByRecursion, IsDistinct, filter, list_all, list_any}
use Rattle.std.specs.Map.{keys_of}
use Rattle.std.specs.Str.{bytes_eq}
use Rattle.std.specs.Cmp.Lexicographic.{same_text}
use Rattle.std.proofs.lemmas.Bool.{and_from, and_parts, cases_lt, eqb-true, eq-eqb, false_from_ne_true, ne_eqb, not-true, not_from_false, or_cases, or_left, or_parts, or_right}
use Rattle.std.proofs.lemmas.Bool.Decides.{eqb_tells}
use Rattle.std.proofs.lemmas.List.Folds.{list_any-append}
use Rattle.cl_base.specs.Limits.{most_nodes}
use Rattle.cl_base.specs.Numbers.{numbers_to}
use Rattle.cl_base.specs.Sets.{has}
use Rattle.cl_base.proofs.NameLemmas.{text_flips, texts_pass}
use Rattle.cl_base.proofs.SetLemmas.{has_not_above, has_not_zero}
use Rattle.rg_props.specs.Lookups.{named}
use Rattle.rg_props.specs.Settings.{has_name}
use Rattle.sequencer_laws.proofs.Lists.{are_members, count_among}

module _ {X : Type 0} (P : X → Type 0) (p q : X → Bool) (E : Type 0) (more : (x : X) → P x → p x ≡ true → (q x ≡ true) ⊎ E) where
  -- some pass the one: some pass the other, but for the exception
  pub any_or : (xs : List X) → AllByRecursion P xs → list_any p xs ≡ true → (list_any q xs ≡ true) ⊎ E
  any_or [] all h = inl h
  any_or (x ∷ xs) all h = by (any_or xs all.1) (or_cases (p x) (list_any p xs) h)
    where
      kept : (q x ≡ true) ⊎ E → (list_any q (x ∷ xs) ≡ true) ⊎ E
      kept (inl is) = inl (or_left (q x) (list_any q xs) is)
      kept (inr e) = inr e

      later : (list_any q xs ≡ true) ⊎ E → (list_any q (x ∷ xs) ≡ true) ⊎ E
      later (inl is) = inl (or_right (q x) (list_any q xs) is)
      later (inr e) = inr e

      by : (list_any p xs ≡ true → (list_any q xs ≡ true) ⊎ E) → (p x ≡ true) ⊎ (list_any p xs ≡ true) → (list_any q (x ∷ xs) ≡ true) ⊎ E
      by on (inl first) = kept (more x all.0 first)
      by on (inr rest) = later (on rest)

  -- all pass the one: all pass the other, but for the exception
  pub all_or : (xs : List X) → AllByRecursion P xs → list_all p xs ≡ true → (list_all q xs ≡ true) ⊎ E
  all_or [] all h = inl refl
  all_or (x ∷ xs) all h =
      let parts : _ = and_parts (p x) (list_all p xs) h in
      by (more x all.0 parts.0) (all_or xs all.1 parts.1)
    where
      by : (q x ≡ true) ⊎ E → (list_all q xs ≡ true) ⊎ E → (list_all q (x ∷ xs) ≡ true) ⊎ E
      by (inl first) (inl rest) = inl (and_from (q x) (list_all q xs) first rest)
      by (inl first) (inr e) = inr e
      by (inr e) rest = inr e

-- all of which P holds pass the other too
pub all_among : {X : Type 0} (P : X → Type 0) (p q : X → Bool) (more : (x : X) → P x → p x ≡ true → q x ≡ true) (xs : List X) → AllByRecursion P xs → list_all p xs ≡ true → list_all q xs ≡ true
all_among P p q more [] all h = refl
all_among P p q more (x ∷ xs) all h =
    let parts : _ = and_parts (p x) (list_all p xs) h in
    and_from (q x) (list_all q xs) (more x all.0 parts.0) (all_among P p q more xs all.1 parts.1)

-- none passes the one, so none passes the other, of those of which P holds
pub none_among : {X : Type 0} (P : X → Type 0) (p q : X → Bool) (more : (x : X) → P x → q x ≡ false → p x ≡ true → ⊥) (xs : List X) → AllByRecursion P xs → list_any q xs ≡ false
    → list_any p xs ≡ false
none_among P p q more [] all h = refl
none_among P p q more (x ∷ xs) all h =
    let parts : _ = or_parts (q x) (list_any q xs) h in
    let first : p x ≡ false = false_from_ne_true (p x) (more x all.0 parts.0) in
    rw first (none_among P p q more xs all.1 parts.1)

-- Names in a list.

named_itself : (before xs : List (List ℕ)) → AllByRecursion (λ x. has_name x (before ++ xs) ≡ true) xs
named_itself before [] = tt
named_itself before (x ∷ xs) = (
  list_any-append (λ y. bytes_eq y x) before (x ∷ xs) ∙ or_right (list_any (λ y. bytes_eq y x) before) (list_any (λ y. bytes_eq y x) (x ∷ xs)) (or_left (bytes_eq x x) (list_any (λ y. bytes_eq y x) xs) (texts_pass x x refl)),
  subst (λ ys. AllByRecursion (λ y. has_name y ys ≡ true) xs) (append_assoc before (x ∷ []) xs) (named_itself (before ++ x ∷ []) xs),
)

pub each_named : (xs : List (List ℕ)) → AllByRecursion (λ x. has_name x xs ≡ true) xs
each_named xs = named_itself [] xs

-- what all names pass, one of them passes
pub passes_named : (p : List ℕ → Bool) (xs : List (List ℕ)) (x : List ℕ) → has_name x xs ≡ true → list_all p xs ≡ true → p x ≡ true
passes_named p [] x among h = absurd (cc)
passes_named p (y ∷ ys) x among h =
    let parts : _ = and_parts (p y) (list_all p ys) h in
    by (λ later. passes_named p ys x later parts.1) parts.0 (or_cases (bytes_eq y x) (has_name x ys) among)
  where
    by : (has_name x ys ≡ true → p x ≡ true) → p y ≡ true → (bytes_eq y x ≡ true) ⊎ (has_name x ys ≡ true) → p x ≡ true
    by on here (inl is) = subst (λ z. p z ≡ true) (same_text y x (sym is)) here
    by on here (inr later) = on later

-- Things by their names.

module _ {X : Type 0} (p : List ℕ × X → Bool) (name : List ℕ) (x : X) where
  pub some_named : (es : List (List ℕ × X)) → named es name ≡ Some x → p (name, x) ≡ true → list_any p es ≡ true
  some_named [] found h = absurd (cc)
  some_named (e ∷ es) found h = by (λ later. some_named es later h) (bytes_eq name e.0) refl found
    where
      by : (named es name ≡ Some x → list_any p es ≡ true) → (b : Bool) → b ≡ bytes_eq name e.0 → cond b (Some e.1) (named es name) ≡ Some x → list_any p (e ∷ es) ≡ true
      by on true is found =
          let same : name ≡ e.0 = same_text name e.0 is in
          let value : e.1 ≡ x = cc in
          let there : p (e.0, e.1) ≡ true = subst (λ k. p (k, e.1) ≡ true) same (subst (λ y. p (name, y) ≡ true) (sym value) h) in
          or_left (p e) (list_any p es) there
      by on false is found = or_right (p e) (list_any p es) (on found)

  pub none_named : (es : List (List ℕ × X)) → named es name ≡ Some x → list_any p es ≡ false → p (name, x) ≡ false
  none_named es found h = false_from_ne_true (p (name, x)) (λ is. let bad : true ≡ false = sym (some_named es found is) ∙ h in absurd cc)

-- where no two have one name, each is the one that its name finds
module _ {X : Type 0} where
  kept_behind : (first : List ℕ × X) (es rest : List (List ℕ × X)) → AllByRecursion (λ k. bytes_eq first.0 k ≡ false) (keys_of rest) → AllByRecursion (λ e. named es e.0 ≡ Some e.1) rest
      → AllByRecursion (λ e. named (first ∷ es) e.0 ≡ Some e.1) rest
  kept_behind first es [] apart all = tt
  kept_behind first es (e ∷ rest) apart all =
      let other : bytes_eq e.0 first.0 ≡ false = text_flips e.0 first.0 ∙ apart.0 in
      (rw other all.0, kept_behind first es rest apart.1 all.1)

  pub each_found : (es : List (List ℕ × X)) → IsDistinct bytes_eq (keys_of es) → AllByRecursion (λ e. named es e.0 ≡ Some e.1) es
  unfolding IsDistinct
  each_found [] apart = tt
  each_found (e ∷ es) apart =
      let itself : bytes_eq e.0 e.0 ≡ true = texts_pass e.0 e.0 refl in
      (rw itself refl, kept_behind e es es apart.0 (each_found es apart.1))

-- Members.

pub above_zero : (set n : ℕ) → has set n ≡ true → 1 ≤ n
above_zero set zero there = absurd (let bad : true ≡ false = sym there ∙ has_not_zero set in cc)
above_zero set (suc n) there = omega arith

pub within_most : (set k : ℕ) → set < 2 ^ 32 → has set k ≡ true → k ≤ most_nodes
within_most set k small there = by (cases_lt most_nodes k)
  where
    by : (most_nodes < k) ⊎ (k ≤ most_nodes) → k ≤ most_nodes
    by (inl lt) = absurd (let bad : true ≡ false = sym there ∙ has_not_above set 32 k small lt in cc)
    by (inr le) = le

pub any_member : (set k n : ℕ) (p : ℕ → Bool) → n ≤ k → has set n ≡ true → p n ≡ true → list_any p (numbers_to set k) ≡ true
any_member set zero n p le there h =
    let none : n ≡ 0 = omega arith in
    absurd (let bad : true ≡ false = sym (subst (λ m. has set m ≡ true) none there) ∙ has_not_zero set in cc)
any_member set (suc k) n p le there h = by (λ small. any_member set k n p small there h) (has set (suc k)) refl (eqb_tells n (suc k))
  where
    at_last : n ≡ suc k → (b : Bool) → b ≡ has set (suc k) → list_any p (cond b (numbers_to set k ++ suc k ∷ []) (numbers_to set k)) ≡ true
    at_last is true e =
        list_any-append p (numbers_to set k) (suc k ∷ []) ∙ or_right (list_any p (numbers_to set k)) (list_any p (suc k ∷ [])) (or_left (p (suc k)) false (subst (λ m. p m ≡ true) is h))
    at_last is false e = absurd (let bad : true ≡ false = sym (subst (λ m. has set m ≡ true) is there) ∙ sym e in cc)

    before : list_any p (numbers_to set k) ≡ true → (b : Bool) → list_any p (cond b (numbers_to set k ++ suc k ∷ []) (numbers_to set k)) ≡ true
    before among true = list_any-append p (numbers_to set k) (suc k ∷ []) ∙ or_left (list_any p (numbers_to set k)) (list_any p (suc k ∷ [])) among
    before among false = among

    by : (n ≤ k → list_any p (numbers_to set k) ≡ true) → (b : Bool) → b ≡ has set (suc k) → ((n == suc k) ≡ true) × (n ≡ suc k) ⊎ ((n == suc k) ≡ false) × (n ≢ suc k)
        → list_any p (cond b (numbers_to set k ++ suc k ∷ []) (numbers_to set k)) ≡ true
    by on b e (inl (_, is)) = at_last is b e
    by on b e (inr (_, other)) = before (on (omega (arith, other))) b

-- How many pass.

pushed : {X : Type 0} (p : X → Bool) (xs : List X) (y : X) → length (filter p (xs ++ y ∷ [])) ≡ length (filter p xs) + cond (p y) 1 0
pushed p [] y = by (p y)
  where
    by : (b : Bool) → length (cond b (y ∷ []) []) ≡ 0 + cond b 1 0
    by true = refl
    by false = refl
pushed p (x ∷ xs) y = by (p x) (pushed p xs y)
  where
    by : (b : Bool) → length (filter p (xs ++ y ∷ [])) ≡ length (filter p xs) + cond (p y) 1 0
        → length (cond b (x ∷ filter p (xs ++ y ∷ [])) (filter p (xs ++ y ∷ []))) ≡ length (cond b (x ∷ filter p xs) (filter p xs)) + cond (p y) 1 0
    by true e = omega arith
    by false e = e

pushed_in : {X : Type 0} (p : X → Bool) (xs : List X) (y : X) → p y ≡ true → length (filter p (xs ++ y ∷ [])) ≡ length (filter p xs) + 1
pushed_in p xs y h = pushed p xs y ∙ rw h refl

pushed_out : {X : Type 0} (p : X → Bool) (xs : List X) (y : X) → p y ≡ false → length (filter p (xs ++ y ∷ [])) ≡ length (filter p xs) + 0
pushed_out p xs y h = pushed p xs y ∙ rw h refl

none_above : (a set k : ℕ) → k < a → length (filter (λ m. m == a) (numbers_to set k)) ≡ 0
none_above a set zero lt = refl
none_above a set (suc k) lt = by (has set (suc k)) (none_above a set k (omega arith))
  where
    other : (suc k == a) ≡ false
    other = ne_eqb (suc k) a (λ e. omega arith)

    by : (b : Bool) → length (filter (λ m. m == a) (numbers_to set k)) ≡ 0 → length (filter (λ m. m == a) (cond b (numbers_to set k ++ suc k ∷ []) (numbers_to set k))) ≡ 0
    by true none = omega (arith, none, pushed_out (λ m. m == a) (numbers_to set k) (suc k) other)
    by false none = none

-- one number stands once at most among the members
lone : (a set k : ℕ) → length (filter (λ m. m == a) (numbers_to set k)) ≤ 1
lone a set zero = omega arith
lone a set (suc k) = by (has set (suc k)) (eqb_tells (suc k) a) (lone a set k)
  where
    by : (b : Bool) → ((suc k == a) ≡ true) × (suc k ≡ a) ⊎ ((suc k == a) ≡ false) × (suc k ≢ a) → length (filter (λ m. m == a) (numbers_to set k)) ≤ 1
        → length (filter (λ m. m == a) (cond b (numbers_to set k ++ suc k ∷ []) (numbers_to set k))) ≤ 1
    by false tells le = le
    by true (inl (test, is)) le = omega (arith, pushed_in (λ m. m == a) (numbers_to set k) (suc k) test, none_above a set k (omega arith))
    by true (inr (test, other)) le = omega (arith, pushed_out (λ m. m == a) (numbers_to set k) (suc k) test)

module _ (p : ℕ → Bool) (a : ℕ) where
  abbrev but : ℕ → Bool
  but m = p m && not (m == a)

  without_one : (xs : List ℕ) → length (filter p xs) ≤ length (filter but xs) + length (filter (λ m. m == a) xs)
  without_one [] = omega arith
  without_one (x ∷ xs) = by (p x) (x == a) (without_one xs)
    where
      by : (b c : Bool) → length (filter p xs) ≤ length (filter but xs) + length (filter (λ m. m == a) xs)
          → length (cond b (x ∷ filter p xs) (filter p xs)) ≤ length (cond (b && not c) (x ∷ filter but xs) (filter but xs)) + length (cond c (x ∷ filter (λ m. m == a) xs) (filter (λ m. m == a) xs))
      by true true le = omega arith
      by true false le = omega arith
      by false true le = omega arith
      by false false le = le

  fewer_but : (xs : List ℕ) → length (filter but xs) ≤ length (filter p xs)
  fewer_but [] = omega arith
  fewer_but (x ∷ xs) = by (p x) (x == a) (fewer_but xs)
    where
      by : (b c : Bool) → length (filter but xs) ≤ length (filter p xs) → length (cond (b && not c) (x ∷ filter but xs) (filter but xs)) ≤ length (cond b (x ∷ filter p xs) (filter p xs))
      by true true le = omega arith
      by true false le = omega arith
      by false true le = le
      by false false le = le

  with_one : (xs : List ℕ) → list_any (λ m. m == a) xs ≡ true → p a ≡ true → length (filter but xs) + 1 ≤ length (filter p xs)
  with_one [] h passes = absurd (cc)
  with_one (x ∷ xs) h passes = by (λ later. with_one xs later passes) (p x) refl (x == a) refl (fewer_but xs) h
    where
      by : (list_any (λ m. m == a) xs ≡ true → length (filter but xs) + 1 ≤ length (filter p xs)) → (b : Bool) → b ≡ p x → (c : Bool) → c ≡ (x == a) → length (filter but xs) ≤ length (filter p xs) → (c || list_any (λ m. m == a) xs) ≡ true
          → length (cond (b && not c) (x ∷ filter but xs) (filter but xs)) + 1 ≤ length (cond b (x ∷ filter p xs) (filter p xs))
      by on true is true at le h = omega arith
      by on false is true at le h = absurd (let bad : false ≡ true = is ∙ (subst (λ m. p m ≡ true) (sym (eqb-true x a (sym at))) passes) in cc)
      by on true is false at le h = omega (arith, on h)
      by on false is false at le h = on h

-- Of the members no more pass the one test than the other, where what passes the one passes the other but for a, and b passes the other alone.
pub no_more : (set k : ℕ) (p q : ℕ → Bool) (a b : ℕ) → ((m : ℕ) → has set m ≡ true → (m == a) ≡ false → p m ≡ true → q m ≡ true) → b ≤ k → has set b ≡ true → p b ≡ false → q b ≡ true
    → length (filter p (numbers_to set k)) ≤ length (filter q (numbers_to set k))
no_more set k p q a b more le there out passes =
    let among : list_any (λ m. m == b) (numbers_to set k) ≡ true = any_member set k b (λ m. m == b) le there (eq-eqb b b refl) in
    let middle : length (filter (but p a) (numbers_to set k)) ≤ length (filter (but q b) (numbers_to set k)) =
    count_among (λ m. has set m ≡ true) (but p a) (but q b) one (numbers_to set k) (are_members set k) in
    omega (arith, without_one p a (numbers_to set k), lone a set k, middle, with_one q b (numbers_to set k) among passes)
  where
    one : (m : ℕ) → has set m ≡ true → but p a m ≡ true → but q b m ≡ true
    one m member both =
        let parts : _ = and_parts (p m) (not (m == a)) both in
        let other : (m == b) ≡ false = false_from_ne_true (m == b) (λ e. let bad : true ≡ false = sym (subst (λ k. p k ≡ true) (eqb-true m b e) parts.0) ∙ out in absurd cc) in
        and_from (q m) (not (m == b)) (more m member (not-true (m == a) parts.1) parts.0) (not_from_false (m == b) other)
