-- The loops that pick a goal's nodes by their scores.
use Rattle.std.proofs.Common.{◌≡◌, ◌≢◌, ◌⊎◌, inl, inr, ℕ, zero, suc, ◌+◌, ◌-◌, ◌<◌, ◌≤◌, ◌&&◌, Bool, true, false, cond, Option, None, Some, is_some, List, [], ◌∷◌, ◌++◌, length, take, get_or, set, filter, fold, refl, sym, ap, subst, ◌∙◌, add-one, arith}
use Rattle.std.specs.List.{All, slice_index_or, slice_set}
use Rattle.std.proofs.lemmas.List.{get_or-set_same, get_or-set_other, take_all}
use Rattle.std.proofs.lemmas.List.Elements.{filter_more, All-more, All-same}
use Rattle.std.proofs.lemmas.List.Sums.{fold-append}
use Rattle.std.proofs.lemmas.Bool.Decides.{eqb_tells}
use Rattle.cl_base.specs.Sets.{has, set_with, count_to}
use Rattle.placement.specs.declared.placing.Candidate.{Candidate}
use Rattle.placement.specs.declared.score.Score.{Score}
use Rattle.placement.specs.Goals.{added, best_of, better_of, considered, joined_by, kept, placed, set_of, with_best}
use Rattle.placement.specs.Scores.{score_at}

pub fold_filter_more : {A B : Type 0} (f : B → A → B) (a : B) (p : A → Bool) (xs : List A) (i : ℕ) (d : A) → i < length xs
    → fold f a (filter p (take (i + 1) xs)) ≡ cond (p (get_or xs i d)) (f (fold f a (filter p (take i xs))) (get_or xs i d)) (fold f a (filter p (take i xs)))
fold_filter_more {A} {B} f a p xs i d lt =
    ap (λ (l : List A). fold f a l) (filter_more p xs i d lt) ∙ fold-append f a (filter p (take i xs)) (cond (p x) (x ∷ []) []) ∙ by (p x)
  where
    x : A
    x = get_or xs i d

    by : (b : Bool) → fold f (fold f a (filter p (take i xs))) (cond b (x ∷ []) []) ≡ cond b (f (fold f a (filter p (take i xs))) x) (fold f a (filter p (take i xs)))
    by true = refl
    by false = refl

-- once nothing is left, nothing more is added
module _ (score : ℕ → Option Score) (nodelist : List ℕ) (start : ℕ) where
  pub added_more : (k : ℕ) → added score nodelist start (k + 1) ≡ with_best score nodelist (added score nodelist start k)
  added_more k = rw (add-one k) refl

  stays : (i k : ℕ) → best_of score nodelist (added score nodelist start i) ≡ None → added score nodelist start (i + k) ≡ added score nodelist start i
  stays i zero none = ap (added score nodelist start) (omega arith)
  stays i (suc k) none =
      let next : i + suc k ≡ suc (i + k) = omega (arith, add-one (i + k)) in
      let before : added score nodelist start (i + k) ≡ added score nodelist start i = stays i k none in
      ap (added score nodelist start) next ∙ ap (with_best score nodelist) before ∙ ap (joined_by (added score nodelist start i)) none

  pub added_over : (i k nodes : ℕ) → i ≤ k → nodes ≡ added score nodelist start i → best_of score nodelist nodes ≡ None → nodes ≡ added score nodelist start k
  added_over i k nodes le is none =
      let all : k ≡ i + (k - i) = omega arith in
      is ∙ sym (stays i (k - i) (ap (best_of score nodelist) (sym is) ∙ none)) ∙ ap (added score nodelist start) (sym all)

  pub added_next : (i nodes : ℕ) (best : Candidate) → nodes ≡ added score nodelist start i → best_of score nodelist nodes ≡ Some best
      → joined_by nodes (Some best) ≡ added score nodelist start (i + 1)
  added_next i nodes best is some =
      ap (joined_by nodes) (sym some) ∙ ap (with_best score nodelist) is ∙ sym (added_more i)

-- Scores that are the same at each listed node pick the same nodes.
AgreeOn : (score other : ℕ → Option Score) → List ℕ → Type 0
AgreeOn score other [] = Unit {0}
AgreeOn score other (n ∷ ns) = (score n ≡ other n) × AgreeOn score other ns

module _ (score other : ℕ → Option Score) where
  agree : (nodes : List ℕ) → All (λ n. score n ≡ other n) nodes → AgreeOn score other nodes
  unfolding AgreeOn
  agree [] same = tt
  agree (n ∷ ns) same = (same 0 n (omega arith), agree ns (λ k d lt. same (suc k) d (omega arith)))

  same_kept : (previous : ℕ) (nodes : List ℕ) (a : ℕ) → AgreeOn score other nodes
      → fold set_with a (filter (λ n. has previous n && is_some (score n)) nodes) ≡ fold set_with a (filter (λ n. has previous n && is_some (other n)) nodes)
  unfolding AgreeOn
  same_kept previous [] a same = refl
  same_kept previous (n ∷ ns) a same =
      ap (λ (o : Option Score). fold set_with a (cond (has previous n && is_some o) (n ∷ filter (λ m. has previous m && is_some (score m)) ns) (filter (λ m. has previous m && is_some (score m)) ns))) same.0
      ∙ by (has previous n && is_some (other n)) (same_kept previous ns (set_with a n) same.1) (same_kept previous ns a same.1)
    where
      with : List ℕ
      with = filter (λ m. has previous m && is_some (score m)) ns

      also : List ℕ
      also = filter (λ m. has previous m && is_some (other m)) ns

      by : (b : Bool) → fold set_with (set_with a n) with ≡ fold set_with (set_with a n) also → fold set_with a with ≡ fold set_with a also
          → fold set_with a (cond b (n ∷ with) with) ≡ fold set_with a (cond b (n ∷ also) also)
      by true on off = on
      by false on off = off

  same_best : (set : ℕ) (nodes : List ℕ) (best : Option Candidate) → AgreeOn score other nodes → fold (considered score set) best nodes ≡ fold (considered other set) best nodes
  unfolding AgreeOn
  same_best set [] best same = refl
  same_best set (n ∷ ns) best same =
      same_best set ns (considered score set best n) same.1
      ∙ ap (λ (o : Option Score). fold (considered other set) (cond (has set n) best (better_of best n o)) ns) same.0

  same_added : (nodes : List ℕ) (set k : ℕ) → AgreeOn score other nodes → added score nodes set k ≡ added other nodes set k
  unfolding best_of
  same_added nodes set zero same = refl
  same_added nodes set (suc k) same =
      ap (with_best score nodes) (same_added nodes set k same) ∙ ap (joined_by (added other nodes set k)) (same_best (added other nodes set k) nodes None same)

  pub same_placed : (nodes : List ℕ) (desired previous : ℕ) → All (λ n. score n ≡ other n) nodes → placed score nodes desired previous ≡ placed other nodes desired previous
  unfolding placed kept
  same_placed nodes desired previous same =
      let a : AgreeOn score other nodes = agree nodes same in
      let k : kept score nodes previous ≡ kept other nodes previous = same_kept previous nodes 0 a in
      same_added nodes (kept score nodes previous) (desired - count_to (kept score nodes previous) 32) a
      ∙ ap (λ (s : ℕ). added other nodes s (desired - count_to s 32)) k

-- one more score is written at its node's place
module _ (f : ℕ → Option Score) (scores : List (Option Score)) (n : ℕ) (low_n : 1 ≤ n) (high : n ≤ length scores) where
  pub written_here : score_at (set scores (n - 1) (f n)) n ≡ f n
  written_here = get_or-set_same scores (n - 1) (f n) None (omega arith)

  written : (m : ℕ) → 1 ≤ m → score_at scores m ≡ f m → score_at (set scores (n - 1) (f n)) m ≡ f m
  written m low is = by (eqb_tells m n)
    where
      by : {b : Bool} → (b ≡ true) × (m ≡ n) ⊎ (b ≡ false) × (m ≢ n) → score_at (set scores (n - 1) (f n)) m ≡ f m
      by (inl (_, e)) = subst (λ (k : ℕ). score_at (set scores (n - 1) (f n)) k ≡ f k) (sym e) written_here
      by (inr (_, other)) = get_or-set_other scores (n - 1) (m - 1) (f n) None (λ h. other (omega arith)) ∙ is

pub low_more : (nodes : List ℕ) (i n : ℕ) → i < length nodes → n ≡ get_or nodes i n → 1 ≤ n → All (λ m. 1 ≤ m) (take i nodes) → All (λ m. 1 ≤ m) (take (i + 1) nodes)
low_more nodes i n lt is low all = All-more (λ m. 1 ≤ m) nodes i n lt all (omega arith)

pub scores_more : (f : ℕ → Option Score) (scores : List (Option Score)) (nodes : List ℕ) (i n number : ℕ) (v : Option Score) → i < length nodes → n ≡ get_or nodes i n → number ≡ n → v ≡ f n
    → 1 ≤ n → n ≤ length scores → All (λ m. 1 ≤ m) (take i nodes) → All (λ m. score_at scores m ≡ f m) (take i nodes)
    → All (λ m. score_at (set scores (number - 1) v) m ≡ f m) (take (i + 1) nodes)
scores_more f scores nodes i n number v lt is same value low high lows all =
    let before : All (λ m. score_at (set scores (n - 1) (f n)) m ≡ f m) (take i nodes) = λ k d within. written f scores n low high (get_or (take i nodes) k d) (lows k d within) (all k d within) in
    let here : score_at (set scores (n - 1) (f n)) (get_or nodes i n) ≡ f (get_or nodes i n) = subst (λ (m : ℕ). score_at (set scores (n - 1) (f n)) m ≡ f m) is (written_here f scores n low high) in
    subst (λ (k : ℕ). All (λ m. score_at (set scores (k - 1) v) m ≡ f m) (take (i + 1) nodes)) (sym same)
    (subst (λ (o : Option Score). All (λ m. score_at (set scores (n - 1) o) m ≡ f m) (take (i + 1) nodes)) (sym value)
    (All-more (λ m. score_at (set scores (n - 1) (f n)) m ≡ f m) nodes i n lt before here))

pub scores_done : (f : ℕ → Option Score) (scores : List (Option Score)) (nodes : List ℕ) (i : ℕ) → length nodes ≤ i → All (λ m. score_at scores m ≡ f m) (take i nodes)
    → All (λ m. score_at scores m ≡ f m) nodes
scores_done f scores nodes i le all = All-same (λ m. score_at scores m ≡ f m) nodes (take i nodes) (sym (take_all i nodes le)) all
