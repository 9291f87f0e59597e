-- The newest of the summaries so far.
use Rattle.std.proofs.Common.{◌≡◌, ℕ, ◌+◌, ◌<◌, ◌≤◌, ◌⊎◌, inl, inr, List, [], ◌∷◌, length, take, get_or, refl, subst, ◌∙◌, arith, rules}
use Rattle.std.proofs.lemmas.Option.{get_or_from_slice_get, slice_get_read}
use Rattle.std.specs.Prelude.{All, slice_get, Some, IfSome}
use Rattle.std.proofs.lemmas.List.{take_all}
use Rattle.std.proofs.lemmas.List.Elements.{All-more, All-weaker}
use Rattle.ccr_commit.specs.declared.summary.Summary.{Summary}
use Rattle.ccr_commit.specs.Newest.{IsNewer, IsAsNew}

abbrev pub IsNotBehind : Summary → Summary → Type 0
IsNotBehind a b = IsNewer a b ⊎ IsAsNew a b

-- of the first n summaries none is newer than the one at the index, which is newer than each before it
pub record Leads (summaries : List Summary) (index n : ℕ) : Type 0 where
  pub best : Summary
  pub there : slice_get summaries index ≡ Some best
  pub below : index < length summaries
  pub others : All (IsNotBehind best) (take n summaries)
  pub before : All (IsNewer best) (take index summaries)

pub newer_than_not_behind : (a b c : Summary) → IsNewer a b → IsNotBehind b c → IsNewer a c
newer_than_not_behind a b c h k = grind arith

pub not_behind : (a b : Summary) → (IsNewer b a → ⊥) → IsNotBehind a b
not_behind a b h = grind arith

pub begins : (summaries : List Summary) → 0 < length summaries → Leads summaries 0 0
begins [] h = absurd (omega arith)
begins (s ∷ summaries) h = record { best = s; there = refl; below = h; others = search rules; before = search rules }

all_newer : (a b : Summary) (others : List Summary) → IsNewer a b → All (IsNotBehind b) others → All (IsNewer a) others
all_newer a b others h k = All-weaker (IsNotBehind b) (IsNewer a) (λ c bc. newer_than_not_behind a b c h bc) others k

-- the next summary is newer than the best so far
pub better : (summaries : List Summary) (index n : ℕ) (a b : Summary) (l : Leads summaries index n) → n < length summaries → a ≡ get_or summaries n a → b ≡ get_or summaries index b → IsNewer a b → Leads summaries n (n + 1)
better summaries index n a b l low here best newer =
    let same : b ≡ l.best = best ∙ get_or_from_slice_get summaries index l.best b l.there in
    let all : All (IsNewer a) (take n summaries) = all_newer a l.best (take n summaries) (subst (λ x. IsNewer a x) same newer) l.others in
    let itself : IsNotBehind a (get_or summaries n a) = subst (λ x. IsNotBehind a x) here (inr (refl, refl, refl, refl)) in
    record {
      best = a;
      there = slice_get_read summaries _ n a refl low here;
      below = low;
      others = All-more (IsNotBehind a) summaries n a low (All-weaker (IsNewer a) (IsNotBehind a) (λ c h. inl h) _ all) itself;
      before = all;
    }

-- the next summary is not newer than the best so far
pub keeps : (summaries : List Summary) (index n : ℕ) (a b : Summary) (l : Leads summaries index n) → n < length summaries → a ≡ get_or summaries n a → b ≡ get_or summaries index b → (IsNewer a b → ⊥) → Leads summaries index (n + 1)
keeps summaries index n a b l low here best older =
    let same : b ≡ l.best = best ∙ get_or_from_slice_get summaries index l.best b l.there in
    let last : IsNotBehind l.best (get_or summaries n a) = subst (λ x. IsNotBehind l.best x) here (not_behind l.best a (subst (λ x. IsNewer a x → ⊥) same older)) in
    record {
      best = l.best;
      there = l.there;
      below = l.below;
      others = All-more (IsNotBehind l.best) summaries n a low l.others last;
      before = l.before;
    }

pub ends : (summaries : List Summary) (index n : ℕ) (l : Leads summaries index n) → length summaries ≤ n → IfSome (slice_get summaries index) (λ best. All (IsNotBehind best) summaries)
ends summaries index n l whole =
    let others : All (IsNotBehind l.best) summaries = subst (All (IsNotBehind l.best)) (take_all n summaries whole) l.others in
    rw l.there others
