-- Among records there is one that is the newest.
use Rattle.std.specs.Prelude.{ℕ, ◌≡◌, ◌==◌, ◌&&◌, ◌||◌, not, nat_lt, Bool, true, false, List, [], ◌∷◌, find, length, Option, Some, None, is_some}
use Rattle.std.specs.List.{list_any}
use Rattle.std.proofs.Common.{refl, sym, ap, ◌∙◌, arith}
use Rattle.cmm_attempt.proofs.Basics.{false_true}
use Rattle.history.specs.Records.{NodeRecord, committed_of, exceeds, is_newest}
use Rattle.run_outcomes.proofs.told_tasks.Lists.{find_any}

record Best (records : List NodeRecord) : Type 0 where
  best : NodeRecord
  among : (test : NodeRecord → Bool) → test best ≡ true → list_any test records ≡ true
  top : list_any (λ other. exceeds other best) records ≡ false

or_first : (a b : Bool) → a ≡ true → (a || b) ≡ true
or_first true b k = refl
or_first false b k = absurd (false_true k)

or_second : (a b : Bool) → b ≡ true → (a || b) ≡ true
or_second true b k = refl
or_second false b k = k

or_off : (a b : Bool) → a ≡ false → b ≡ false → (a || b) ≡ false
or_off true b h k = h
or_off false b h k = k

neither : (a b : Bool) → (a || b) ≡ false → (a ≡ false) × (b ≡ false)
neither true b k = absurd (false_true (sym k))
neither false b k = (refl, k)

not_itself : (a : NodeRecord) → exceeds a a ≡ false
not_itself a = grind_it a.installed (length a.texts) (committed_of a)
  where
    grind_it : (i l c : ℕ) → ((nat_lt i i || ((i == i) && nat_lt l l)) || (not (nat_lt i i || ((i == i) && nat_lt l l)) && nat_lt c c)) ≡ false
    grind_it i l c = grind arith

-- by installed epoch and updates
abbrev newer : ℕ → ℕ → ℕ → ℕ → Bool
newer ai al bi bl = nat_lt bi ai || ((ai == bi) && nat_lt bl al)

below_newer : (ai al bi bl ci cl : ℕ) → newer ai al bi bl ≡ true → newer ci cl bi bl ≡ false → newer ci cl ai al ≡ false
below_newer ai al bi bl ci cl h k = grind arith

newer_below : (ai al bi bl ci cl : ℕ) → newer ai al bi bl ≡ true → newer ci cl bi bl ≡ false → newer ai al ci cl ≡ true
newer_below ai al bi bl ci cl h k = grind arith

level_before : (ai al bi bl ci cl : ℕ) → newer ai al bi bl ≡ false → newer bi bl ai al ≡ false → newer ci cl ai al ≡ newer ci cl bi bl
level_before ai al bi bl ci cl h k = two (same_epoch ai al bi bl h k) (same_length ai al bi bl h k)
  where
    same_epoch : (p q r s : ℕ) → newer p q r s ≡ false → newer r s p q ≡ false → p ≡ r
    same_epoch p q r s x y = grind arith

    same_length : (p q r s : ℕ) → newer p q r s ≡ false → newer r s p q ≡ false → q ≡ s
    same_length p q r s x y = grind arith

    two : ai ≡ bi → al ≡ bl → newer ci cl ai al ≡ newer ci cl bi bl
    two x y = ap (λ z. newer ci cl z al) x ∙ ap (λ z. newer ci cl bi z) y

level_after : (ai al bi bl ci cl : ℕ) → newer ai al bi bl ≡ false → newer bi bl ai al ≡ false → newer ai al ci cl ≡ newer bi bl ci cl
level_after ai al bi bl ci cl h k = two (same_epoch ai al bi bl h k) (same_length ai al bi bl h k)
  where
    same_epoch : (p q r s : ℕ) → newer p q r s ≡ false → newer r s p q ≡ false → p ≡ r
    same_epoch p q r s x y = grind arith

    same_length : (p q r s : ℕ) → newer p q r s ≡ false → newer r s p q ≡ false → q ≡ s
    same_length p q r s x y = grind arith

    two : ai ≡ bi → al ≡ bl → newer ai al ci cl ≡ newer bi bl ci cl
    two x y = ap (λ z. newer z al ci cl) x ∙ ap (λ z. newer bi z ci cl) y

not_over : (p q r : ℕ) → nat_lt q p ≡ true → nat_lt q r ≡ false → nat_lt p r ≡ false
not_over p q r h k = grind arith

not_more : (a b c : NodeRecord) → exceeds a b ≡ true → exceeds c b ≡ false → exceeds c a ≡ false
not_more a b c h k = by_newer (newer ai al bi bl) (newer bi bl ai al) refl refl h
  where
    ai : ℕ
    ai = a.installed

    al : ℕ
    al = length a.texts

    bi : ℕ
    bi = b.installed

    bl : ℕ
    bl = length b.texts

    ci : ℕ
    ci = c.installed

    cl : ℕ
    cl = length c.texts

    two : (newer ci cl bi bl ≡ false) × ((not (newer bi bl ci cl) && nat_lt (committed_of b) (committed_of c)) ≡ false)
    two = neither (newer ci cl bi bl) (not (newer bi bl ci cl) && nat_lt (committed_of b) (committed_of c)) k

    level : newer ai al bi bl ≡ false → newer bi bl ai al ≡ false → nat_lt (committed_of b) (committed_of a) ≡ true → exceeds c a ≡ false
    level one other more =
        or_off (newer ci cl ai al) (not (newer ai al ci cl) && nat_lt (committed_of a) (committed_of c)) (level_before ai al bi bl ci cl one other ∙ two.0)
        (ap (λ z. not z && nat_lt (committed_of a) (committed_of c)) (level_after ai al bi bl ci cl one other) ∙ by_after (newer bi bl ci cl) two.1)
      where
        by_after : (t : Bool) → (not t && nat_lt (committed_of b) (committed_of c)) ≡ false → (not t && nat_lt (committed_of a) (committed_of c)) ≡ false
        by_after true z = refl
        by_after false z = not_over (committed_of a) (committed_of b) (committed_of c) more z

    by_newer : (s t : Bool) → newer ai al bi bl ≡ s → newer bi bl ai al ≡ t → (s || (not t && nat_lt (committed_of b) (committed_of a))) ≡ true → exceeds c a ≡ false
    by_newer true t is other z =
        or_off (newer ci cl ai al) (not (newer ai al ci cl) && nat_lt (committed_of a) (committed_of c)) (below_newer ai al bi bl ci cl is two.0)
        (ap (λ w. not w && nat_lt (committed_of a) (committed_of c)) (newer_below ai al bi bl ci cl is two.0))
    by_newer false true is other z = absurd (false_true z)
    by_newer false false is other z = level is other z

none_more : (a b : NodeRecord) (rs : List NodeRecord) → exceeds a b ≡ true → list_any (λ other. exceeds other b) rs ≡ false → list_any (λ other. exceeds other a) rs ≡ false
none_more a b [] h k = refl
none_more a b (r ∷ rs) h k =
    let two : (exceeds r b ≡ false) × (list_any (λ other. exceeds other b) rs ≡ false) = neither (exceeds r b) (list_any (λ other. exceeds other b) rs) k in
    or_off (exceeds r a) (list_any (λ other. exceeds other a) rs) (not_more a b r h two.0) (none_more a b rs h two.1)

best_of : (r : NodeRecord) (rs : List NodeRecord) → Best (r ∷ rs)
best_of r [] = record { best = r; among = λ test k. or_first (test r) false k; top = or_off (exceeds r r) false (not_itself r) refl }
best_of r (s ∷ rs) = by_best (best_of s rs)
  where
    by_best : Best (s ∷ rs) → Best (r ∷ s ∷ rs)
    by_best b = by_test (exceeds r b.best) refl
      where
        by_test : (t : Bool) → exceeds r b.best ≡ t → Best (r ∷ s ∷ rs)
        by_test true is = record {
          best = r;
          among = λ test k. or_first (test r) (list_any test (s ∷ rs)) k;
          top = or_off (exceeds r r) (list_any (λ other. exceeds other r) (s ∷ rs)) (not_itself r) (none_more r b.best (s ∷ rs) is b.top);
        }
        by_test false is = record {
          best = b.best;
          among = λ test k. or_second (test r) (list_any test (s ∷ rs)) (b.among test k);
          top = or_off (exceeds r b.best) (list_any (λ other. exceeds other b.best) (s ∷ rs)) is b.top;
        }

pub record Newest (records : List NodeRecord) : Type 0 where
  pub record_found : NodeRecord
  pub found : find (is_newest records) records ≡ Some record_found

pub newest_found : (r : NodeRecord) (rs : List NodeRecord) → Newest (r ∷ rs)
newest_found r rs = by_find (find (is_newest (r ∷ rs)) (r ∷ rs)) refl (find_any (is_newest (r ∷ rs)) (r ∷ rs) ∙ b.among (is_newest (r ∷ rs)) (ap not b.top))
  where
    b : Best (r ∷ rs)
    b = best_of r rs

    by_find : (o : Option NodeRecord) → find (is_newest (r ∷ rs)) (r ∷ rs) ≡ o → is_some o ≡ true → Newest (r ∷ rs)
    by_find None at k = absurd (false_true k)
    by_find (Some z) at k = record { record_found = z; found = at }
