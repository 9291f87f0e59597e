-- The newest of the Promises: what ccr_commit finds among their summaries is what the fold over them leaves.
use Rattle.std.proofs.Common.{◌≡◌, ℕ, ◌+◌, ◌<◌, ◌⊎◌, List, [], ◌∷◌, ◌++◌, length, take, drop, get_or, map, refl, sym, ap, subst, ◌∙◌, arith, add-one, drop-cons}
use Rattle.std.specs.Prelude.{All, slice_get, Some, IfSome, true, false, cond, fold, option_map}
use Rattle.std.proofs.lemmas.Option.{slice_get-map, slice_get-get_or}
use Rattle.std.proofs.lemmas.List.{take-map, take-append-drop}
use Rattle.std.proofs.lemmas.List.Elements.{All-nil, All-cons, All-head, All-tail, All-drop}
use Rattle.ccr_commit.specs.declared.summary.Summary.{Summary}
use Rattle.ccr_commit.specs.Newest.{IsNewer, IsAsNew}
use Rattle.cmm_attempt.specs.declared.promised.Shown.{Shown}
use Rattle.cmm_attempt.specs.declared.promised.Promised.{Promised}
use Rattle.cmm_attempt.specs.Promises.{is_newer, newer_of, newest_shown}

abbrev pub IsNotBehind : Summary → Summary → Type 0
IsNotBehind a b = IsNewer a b ⊎ IsAsNew a b

pub newer_true : (a b : Summary) → IsNewer a b → is_newer a b ≡ true
newer_true a b h = grind arith

pub newer_false : (a b : Summary) → IsNotBehind b a → is_newer a b ≡ false
newer_false a b h = grind arith

abbrev pub summary_of : Promised → Summary
summary_of p = p.shown.summary

all_unmap : (P : Summary → Type 0) (ps : List Promised) → All P (map summary_of ps) → All (λ p. P (summary_of p)) ps
all_unmap P [] h = All-nil (λ p. P (summary_of p))
all_unmap P (p ∷ ps) h =
    All-cons (λ x. P (summary_of x)) p ps (All-head P (summary_of p) (map summary_of ps) h) (all_unmap P ps (All-tail P (summary_of p) (map summary_of ps) h))

older_stays : (best : Shown) (p : Promised) → IsNotBehind best.summary p.shown.summary → newer_of best p ≡ best
older_stays best p h = rw (newer_false p.shown.summary best.summary h) refl

newer_wins : (best : Shown) (p : Promised) → IsNewer p.shown.summary best.summary → newer_of best p ≡ p.shown
newer_wins best p h = rw (newer_true p.shown.summary best.summary h) refl

stays : (best : Shown) (ps : List Promised) → All (λ p. IsNotBehind best.summary (summary_of p)) ps → fold newer_of best ps ≡ best
stays best [] h = refl
stays best (p ∷ ps) h =
    let e : newer_of best p ≡ best = older_stays best p (All-head (λ x. IsNotBehind best.summary (summary_of x)) p ps h) in
    ap (λ b. fold newer_of b ps) e ∙ stays best ps (All-tail (λ x. IsNotBehind best.summary (summary_of x)) p ps h)

newer_than_both : (q best : Shown) (p : Promised) → IsNewer q.summary best.summary → IsNewer q.summary p.shown.summary → IsNewer q.summary (newer_of best p).summary
newer_than_both q best p h k =
    elim (is_newer p.shown.summary best.summary) as (λ v. IsNewer q.summary (cond v p.shown best).summary) [ true ↦ k | false ↦ h ]

finds : (best : Shown) (before after : List Promised) (q : Promised) → IsNewer (summary_of q) best.summary
    → All (λ p. IsNewer (summary_of q) (summary_of p)) before → All (λ p. IsNotBehind (summary_of q) (summary_of p)) after
    → fold newer_of best (before ++ q ∷ after) ≡ q.shown
finds best [] after q n b a = ap (λ x. fold newer_of x after) (newer_wins best q n) ∙ stays q.shown after a
finds best (p ∷ before) after q n b a =
    finds (newer_of best p) before after q
    (newer_than_both q.shown best p n (All-head (λ x. IsNewer (summary_of q) (summary_of x)) p before b))
    (All-tail (λ x. IsNewer (summary_of q) (summary_of x)) p before b) a

newest_there : (before after : List Promised) (q : Promised)
    → All (λ p. IsNewer (summary_of q) (summary_of p)) before → All (λ p. IsNotBehind (summary_of q) (summary_of p)) after
    → newest_shown (before ++ q ∷ after) ≡ Some q.shown
newest_there [] after q b a = ap (λ s. Some s) (stays q.shown after a)
newest_there (p ∷ before) after q b a =
    ap (λ s. Some s) (finds p.shown before after q (All-head (λ x. IsNewer (summary_of q) (summary_of x)) p before b) (All-tail (λ x. IsNewer (summary_of q) (summary_of x)) p before b) a)

split : (ps : List Promised) (i : ℕ) (d : Promised) → i < length ps → ps ≡ take i ps ++ get_or ps i d ∷ drop (i + 1) ps
split [] i d lt = absurd (omega arith)
split ps i d lt = sym (take-append-drop i ps) ∙ (rw (add-one, drop-cons ps i d) refl)

abbrev pub FindsNewest : List Summary → ℕ → Type 0
FindsNewest summaries i = IfSome (slice_get summaries i) (λ best. All (λ other. IsNewer best other ⊎ IsAsNew best other) summaries)

abbrev pub FindsFirst : List Summary → ℕ → Type 0
FindsFirst summaries i = IfSome (slice_get summaries i) (λ best. All (λ other. IsNewer best other) (take i summaries))

pub newest_is : (ps : List Promised) (i : ℕ) → i < length ps → FindsNewest (map summary_of ps) i → FindsFirst (map summary_of ps) i
    → option_map (λ p. p.shown) (slice_get ps i) ≡ newest_shown ps
newest_is [] i lt n f = absurd (omega arith)
newest_is (p0 ∷ rest) i lt n f =
    let ps : List Promised = p0 ∷ rest in
    let q : Promised = get_or ps i p0 in
    let there : slice_get ps i ≡ Some q = slice_get-get_or ps i p0 lt in
    let mapped : slice_get (map summary_of ps) i ≡ Some (summary_of q) = slice_get-map summary_of ps i ∙ ap (λ o. option_map summary_of o) there in
    let all : All (λ other. IsNewer (summary_of q) other ⊎ IsAsNew (summary_of q) other) (map summary_of ps) =
    subst (λ o. IfSome o (λ best. All (λ other. IsNewer best other ⊎ IsAsNew best other) (map summary_of ps))) mapped n in
    let front : All (λ other. IsNewer (summary_of q) other) (take i (map summary_of ps)) =
    subst (λ o. IfSome o (λ best. All (λ other. IsNewer best other) (take i (map summary_of ps)))) mapped f in
    let front' : All (λ other. IsNewer (summary_of q) other) (map summary_of (take i ps)) =
    subst (λ xs. All (λ other. IsNewer (summary_of q) other) xs) (take-map summary_of i ps) front in
    let after : All (λ p. IsNotBehind (summary_of q) (summary_of p)) (drop (i + 1) ps) =
    All-drop (λ p. IsNotBehind (summary_of q) (summary_of p)) (i + 1) ps (all_unmap (IsNotBehind (summary_of q)) ps all) in
    let found : newest_shown (take i ps ++ q ∷ drop (i + 1) ps) ≡ Some q.shown =
    newest_there (take i ps) (drop (i + 1) ps) q (all_unmap (IsNewer (summary_of q)) (take i ps) front') after in
    ap (λ o. option_map (λ p. p.shown) o) there ∙ sym found ∙ ap newest_shown (sym (split ps i p0 lt))
