-- The newest of the records that the members showed is the base of the attempt.
use Rattle.std.specs.Prelude.{ℕ, ◌+◌, ◌-◌, ◌≡◌, ◌<◌, ◌≤◌, ◌==◌, ◌&&◌, ◌||◌, ◌⊎◌, nat_lt, not, Bool, true, false, if◌then◌else◌, List, [], ◌∷◌, None, Some, find, length, take}
use Rattle.std.specs.List.{AllByRecursion, list_any}
use Rattle.std.proofs.Common.{refl, sym, ap, subst, ◌∙◌, arith, inl, inr}
use Rattle.history.specs.Contents.{HasNewestPending, HasNewestTexts}
use Rattle.history.specs.Records.{NodeRecord as Shown, committed_of, exceeds, is_newer, is_newest}
use Rattle.membership_machine.specs.Invariant.{Fits, Holds}
use Rattle.membership_machine.specs.Records.{IsBehind, Saved}
use Rattle.membership_machine.specs.State.{Memberships}
use Rattle.membership_machine.specs.Votes.{Setting}
use Rattle.run_messages.specs.records.Shown.{IsOf, ShownBy, flag}

no_truth : false ≡ true → ⊥
no_truth h = cc

-- ---- two records

-- of one epoch and as many updates
record AreAlike (a b : Saved) : Type 0 where
  installed : a.installed ≡ b.installed
  count : length a.entries ≡ length b.entries
  committed : a.committed ≤ b.committed

by_behind : (best r : Shown) (sb s : Saved) → IsOf best sb → IsOf r s → IsBehind s sb → is_newer best r ≡ false → AreAlike s sb
by_behind best r sb s b h (inl less) none = absurd (apart best.installed r.installed (length r.texts) (length best.texts) none (subst (λ z. z < best.installed) (sym h.installed) (subst (λ z. s.installed < z) (sym b.installed) less)))
  where
    apart : (bi ri rl bl : ℕ) → (nat_lt ri bi || ((bi == ri) && nat_lt rl bl)) ≡ false → ri < bi → ⊥
    apart bi ri rl bl none l = grind arith
by_behind best r sb s b h (inr (same, inl less)) none =
    absurd (apart best.installed r.installed (length r.texts) (length best.texts) none (b.installed ∙ (sym same ∙ sym h.installed))
    (subst (λ z. z < length best.texts) (ap length (sym h.texts)) (subst (λ z. length s.entries < z) (ap length (sym b.texts)) less)))
  where
    apart : (bi ri rl bl : ℕ) → (nat_lt ri bi || ((bi == ri) && nat_lt rl bl)) ≡ false → bi ≡ ri → rl < bl → ⊥
    apart bi ri rl bl none e l = grind arith
by_behind best r sb s b h (inr (same, inr rest)) none = record { installed = same; count = rest.0; committed = rest.1 }

newer_less : (best r : Shown) → exceeds best r ≡ false → is_newer best r ≡ false
newer_less best r h = first (is_newer best r) _ h
  where
    first : (a b : Bool) → (a || b) ≡ false → a ≡ false
    first true b e = e
    first false b e = refl

pending_same : (best r : Shown) (sb s : Saved) → IsOf best sb → IsOf r s → AreAlike s sb → exceeds best r ≡ false → r.pending ≡ best.pending
pending_same best r sb s b h like none =
    by_flags best.pending r.pending refl refl
  where
    lb : length best.texts ≡ length sb.entries
    lb = ap length b.texts

    lr : length r.texts ≡ length s.entries
    lr = ap length h.texts

    not_above : (bi ri bl rl bc rc : ℕ) → (((nat_lt ri bi || ((bi == ri) && nat_lt rl bl)) || (not (nat_lt bi ri || ((ri == bi) && nat_lt bl rl)) && nat_lt rc bc)) ≡ false) → bi ≡ ri → bl ≡ rl → bc ≤ rc
    not_above bi ri bl rl bc rc e same count = grind arith

    least : committed_of best ≤ committed_of r
    least = not_above best.installed r.installed (length best.texts) (length r.texts) (committed_of best) (committed_of r) none
        (b.installed ∙ (sym like.installed ∙ sym h.installed)) (lb ∙ (sym like.count ∙ sym lr))

    count : length best.texts ≡ length r.texts
    count = lb ∙ (sym like.count ∙ sym lr)

    by_flags : (p q : Bool) → best.pending ≡ p → r.pending ≡ q → r.pending ≡ best.pending
    by_flags true true e f = f ∙ sym e
    by_flags false false e f = f ∙ sym e
    by_flags true false e f =
        absurd (first (length s.entries) (length sb.entries) s.committed sb.committed like.count like.committed
        (subst (λ z. length s.entries ≡ s.committed + flag z) f h.pending) (subst (λ z. length sb.entries ≡ sb.committed + flag z) e b.pending))
      where
        first : (k l c d : ℕ) → k ≡ l → c ≤ d → k ≡ c + 0 → l ≡ d + 1 → ⊥
        first k l c d same low a z = grind arith
    by_flags false true e f =
        absurd (second (length best.texts) (length r.texts) count
        (subst (λ z. (length best.texts - flag z) ≤ committed_of r) e least') (subst (λ z. length s.entries ≡ s.committed + flag z) f h.pending) (lr))
      where
        least' : (length best.texts - flag best.pending) ≤ committed_of r
        least' = least

        second : (k l : ℕ) → k ≡ l → (k - 0) ≤ committed_of r → length s.entries ≡ s.committed + 1 → l ≡ length s.entries → ⊥
        second k l same low some at = third k l (length s.entries) s.committed same (subst (λ z. (k - 0) ≤ (length r.texts - flag z)) f low) some at (lr)
          where
            third : (k l n c : ℕ) → k ≡ l → (k - 0) ≤ (length r.texts - 1) → n ≡ c + 1 → l ≡ n → length r.texts ≡ n → ⊥
            third k l n c same low some at here = grind arith

-- ---- lists

pub not_any : (test other : Shown → Bool) (rs : List Shown) → ((x : Shown) → other x ≡ true → test x ≡ true) → list_any test rs ≡ false → list_any other rs ≡ false
not_any test other [] f h = refl
not_any test other (x ∷ xs) f h = by_other (other x) refl (parts (test x) (list_any test xs) h) (λ rest. not_any test other xs f rest)
  where
    parts : (a b : Bool) → (a || b) ≡ false → (a ≡ false) × (b ≡ false)
    parts true b e = absurd (no_truth (sym e))
    parts false b e = (refl, e)

    by_other : (o : Bool) → other x ≡ o → (test x ≡ false) × (list_any test xs ≡ false) → (list_any test xs ≡ false → list_any other xs ≡ false) → (o || list_any other xs) ≡ false
    by_other true e k next = absurd (no_truth (sym k.0 ∙ f x e))
    by_other false e k next = next k.1

-- ---- the records that the members of an attempt showed

alike_entries : (M : Memberships) (a b : Saved) → Fits a (M.epoch a.installed) → Fits b (M.epoch b.installed) → AreAlike a b → a.entries ≡ b.entries
alike_entries M a b f g like =
    f.entries ∙ (ap (λ k. take k (M.epoch a.installed).log) like.count ∙ (ap (λ e. take (length b.entries) (M.epoch e).log) like.installed ∙ sym g.entries))

-- what the newest node showed, which is among these
abbrev best_of : Memberships → ℕ → Saved
best_of M q = (M.node (M.epoch q).newest).showed q

pub record HasBest (M : Memberships) (q : ℕ) (records : List Shown) : Type 0 where
  pub best : Shown
  pub is : IsOf best ((M.node (M.epoch q).newest).showed q)
  pub among : (test : Shown → Bool) → list_any test records ≡ false → test best ≡ false

module _ (S : Setting) (M : Memberships) (q : ℕ) (holds : Holds S M) (counted : (M.epoch q).counted ≡ true) where
  newest_answered : (M.node (M.epoch q).newest).answered q ≡ true
  newest_answered = (holds.epoch q).counted_answered counted (M.epoch q).newest ((holds.epoch q).newest_member counted)

  best_fits : Fits (best_of M q) (M.epoch (best_of M q).installed)
  best_fits = (holds.node (M.epoch q).newest).showed_fits q newest_answered

  like_best : (r best : Shown) (h : ShownBy M q r) → IsOf best (best_of M q) → is_newer best r ≡ false → AreAlike ((M.node h.node).showed q) (best_of M q)
  like_best r best h is none = by_behind best r (best_of M q) ((M.node h.node).showed q) is h.is ((holds.epoch q).newest_behind counted h.node h.member) none

  texts_like : (r best : Shown) → ShownBy M q r → IsOf best (best_of M q) → is_newer best r ≡ false → (M.epoch q).base ≡ r.texts
  texts_like r best h is none =
      (holds.epoch q).newest_base counted
      ∙ (sym (alike_entries M ((M.node h.node).showed q) (best_of M q) ((holds.node h.node).showed_fits q h.answered) best_fits (like_best r best h is none)) ∙ sym h.is.texts)

  pub newest_texts : (records : List Shown) (r : Shown) → HasBest M q records → ShownBy M q r → list_any (λ other. is_newer other r) records ≡ false → (M.epoch q).base ≡ r.texts
  newest_texts records r b h none = texts_like r b.best h b.is (b.among (λ other. is_newer other r) none)

  pub newest_pending : (records : List Shown) (r : Shown) (b : HasBest M q records) → ShownBy M q r → is_newest records r ≡ true → r.pending ≡ b.best.pending
  newest_pending records r b h newest =
      let none : exceeds b.best r ≡ false = b.among (λ other. exceeds other r) (not_so _ newest) in
      pending_same b.best r (best_of M q) ((M.node h.node).showed q) b.is h.is (like_best r b.best h b.is (newer_less b.best r none)) none
    where
      not_so : (b : Bool) → not b ≡ true → b ≡ false
      not_so true e = absurd (no_truth e)
      not_so false e = refl

  -- each of these is a member's, or has the base
  abbrev Among : Shown → Type 0
  Among r = ShownBy M q r ⊎ ((M.epoch q).base ≡ r.texts)

  pub have_newest_texts : (records : List Shown) → HasBest M q records → AllByRecursion Among records → HasNewestTexts (M.epoch q).base records
  have_newest_texts records b all = go records all
    where
      one : (r : Shown) → Among r → list_any (λ other. is_newer other r) records ≡ false → (M.epoch q).base ≡ r.texts
      one r (inl h) none = newest_texts records r b h none
      one r (inr is) none = is

      go : (rs : List Shown) → AllByRecursion Among rs → AllByRecursion (λ r. list_any (λ other. is_newer other r) records ≡ false → (M.epoch q).base ≡ r.texts) rs
      go [] h = tt
      go (r ∷ rs) h = (one r h.0, go rs h.1)

  pub have_newest_pending : (records : List Shown) (b : HasBest M q records) → AllByRecursion (ShownBy M q) records → HasNewestPending b.best.pending records
  have_newest_pending records b all = go records all
    where
      go : (rs : List Shown) → AllByRecursion (ShownBy M q) rs → AllByRecursion (λ r. is_newest records r ≡ true → r.pending ≡ b.best.pending) rs
      go [] h = tt
      go (r ∷ rs) h = (λ newest. newest_pending records r b h.0 newest, go rs h.1)

  -- with as many updates committed as the attempt has settled
  pub best_settled : (records : List Shown) (b : HasBest M q records) → length (M.epoch q).base ≡ (M.epoch q).settled + flag b.best.pending
  best_settled records b =
      ap length ((holds.epoch q).newest_base counted) ∙ (b.is.pending ∙ ap (λ k. k + flag b.best.pending) (sym ((holds.epoch q).newest_settled counted)))

  -- the one that is found
  pub record IsFound (records : List Shown) (b : HasBest M q records) (r : Shown) : Type 0 where
    pub texts : (M.epoch q).base ≡ r.texts
    pub pending : r.pending ≡ b.best.pending

  pub found_newest : (records : List Shown) (b : HasBest M q records) (r : Shown) → AllByRecursion (ShownBy M q) records → find (is_newest records) records ≡ Some r → IsFound records b r
  found_newest records b r all is = go records all is
    where
      or_true : (a b : Bool) → a ≡ true → (a || b) ≡ true
      or_true true b e = refl
      or_true false b e = absurd (no_truth e)

      none_newer : (x : Shown) → is_newest records x ≡ true → list_any (λ other. is_newer other x) records ≡ false
      none_newer x e = not_any (λ other. exceeds other x) (λ other. is_newer other x) records (λ o so. or_true (is_newer o x) _ so) (not_so _ e)
        where
          not_so : (b : Bool) → not b ≡ true → b ≡ false
          not_so true d = absurd (no_truth d)
          not_so false d = refl

      go : (rs : List Shown) → AllByRecursion (ShownBy M q) rs → find (is_newest records) rs ≡ Some r → IsFound records b r
      go [] h e = absurd (none_is e)
        where
          none_is : None ≡ Some r → ⊥
          none_is d = cc
      go (x ∷ xs) h e = by_test (is_newest records x) refl e (go xs h.1)
        where
          some_same : (a c : Shown) → Some a ≡ Some c → a ≡ c
          some_same a c d = cc

          by_test : (t : Bool) → is_newest records x ≡ t → (if t then Some x else find (is_newest records) xs) ≡ Some r → (find (is_newest records) xs ≡ Some r → IsFound records b r) → IsFound records b r
          by_test true is d next =
              subst (λ z. IsFound records b z) (some_same x r d)
              (record { texts = newest_texts records x b h.0 (none_newer x is); pending = newest_pending records x b h.0 is })
          by_test false is d next = next d
