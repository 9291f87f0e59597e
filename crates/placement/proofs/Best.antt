-- A goal that is filled up with the best nodes is the best.
use Rattle.std.proofs.Common.{◌≡◌, ◌⊎◌, inl, inr, ℕ, zero, suc, ◌+◌, ◌-◌, ◌≤◌, ◌<◌, ◌==◌, Bool, true, false, not, ◌&&◌, ◌||◌, Option, None, Some, is_some, List, refl, sym, ap, subst, ◌∙◌, add-one, arith}
use Rattle.cl_base.specs.Sets.{has, set_with, count_to}
use Rattle.placement.specs.declared.placing.Candidate.{Candidate}
use Rattle.placement.specs.declared.score.Score.{Score}
use Rattle.placement.specs.Best.{IsBest, IsCandidate, is_listed, precedes, stands_before}
use Rattle.placement.specs.Goals.{added, best_of, filled, joined_by, kept, placed, with_best}
use Rattle.placement.specs.Scores.{is_better}
use Rattle.placement.proofs.Leads.{Leads, LeadsBy, best_leads}
use Rattle.placement.proofs.Members.{IsNode, count_joined, has_added, has_before, has_set, has_still}

module _ (score : ℕ → Option Score) (nodelist : List ℕ) (nodes : (n : ℕ) (s : Score) → score n ≡ Some s → IsNode n) where
  -- What is true once so many were added: they are eligible, none left comes before one of them, and they are so many or all.
  record Added (start k now : ℕ) : Type 0 where
    pub old : (m : ℕ) → has start m ≡ true → has now m ≡ true
    pub own : (m : ℕ) → has now m ≡ true → (has start m ≡ true) ⊎ ((s : Score) × IsCandidate score nodelist (record { node = m; score = s }))
    pub best : (left new : Candidate) → IsCandidate score nodelist left → has now left.node ≡ false → IsCandidate score nodelist new → has now new.node ≡ true
        → has start new.node ≡ false → precedes nodelist left new ≡ false
    pub most : count_to now 32 ≤ count_to start 32 + k
    pub enough : (count_to now 32 ≡ count_to start 32 + k) ⊎ ((c : Candidate) → IsCandidate score nodelist c → has now c.node ≡ true)

  nothing : (start : ℕ) → Added start 0 start
  nothing start = record {
    old = λ m h. h;
    own = λ m h. inl h;
    best = λ left new is out of in_now in_start. absurd (cc);
    most = omega arith;
    enough = inl (omega arith);
  }

  -- nothing is left
  all : (start k now : ℕ) → LeadsBy score now nodelist None → Added start k now → Added start (k + 1) now
  unfolding LeadsBy
  all start k now none h = record {
    old = h.old;
    own = h.own;
    best = h.best;
    most = omega (arith, h.most);
    enough = inr (λ c is. there c is (has now c.node) refl);
  }
    where
      there : (c : Candidate) → IsCandidate score nodelist c → (b : Bool) → b ≡ has now c.node → has now c.node ≡ true
      there c is true e = sym e
      there c is false e = absurd (none c.node c.score is.listed (sym e) is.scored)

  not_before : (left best : Candidate) → is_better left.score best.score ≡ false → (is_better best.score left.score ≡ false → stands_before nodelist left.node best.node ≡ false)
      → precedes nodelist left best ≡ false
  not_before left best worse later = by (is_better left.score best.score) (is_better best.score left.score) refl worse later
    where
      by : (p q : Bool) → q ≡ is_better best.score left.score → p ≡ false → (is_better best.score left.score ≡ false → stands_before nodelist left.node best.node ≡ false)
          → (p || (not q && stands_before nodelist left.node best.node)) ≡ false
      by true q e worse later = absurd (cc)
      by false true e worse later = refl
      by false false e worse later = later (sym e)

  -- one more
  more : (start k now : ℕ) (best : Candidate) → Leads score now nodelist best → Added start k now → Added start (k + 1) (set_with now best.node)
  more start k now best lead h = record {
    old = λ m was. has_still now best.node m node (h.old m was);
    own = λ m is. own m (has_before now best.node m node is);
    best = λ left new is out of in_now in_start. pair left new is (before left out) of in_start (has_before now best.node new.node node in_now);
    most = omega (arith, h.most, count);
    enough = enough h.enough;
  }
    where
      node : IsNode best.node
      node = nodes best.node best.score lead.scored

      count : count_to (set_with now best.node) 32 ≡ count_to now 32 + 1
      count = count_joined now best.node node lead.outside

      own : (m : ℕ) → (m ≡ best.node) ⊎ (has now m ≡ true) → (has start m ≡ true) ⊎ ((s : Score) × IsCandidate score nodelist (record { node = m; score = s }))
      own m (inl e) = inr (best.score, record { listed = ap (is_listed nodelist) e ∙ lead.listed; scored = ap score e ∙ lead.scored })
      own m (inr was) = h.own m was

      before : (left : Candidate) → has (set_with now best.node) left.node ≡ false → has now left.node ≡ false
      before left out = by (has now left.node) refl
        where
          by : (b : Bool) → b ≡ has now left.node → has now left.node ≡ false
          by false e = sym e
          by true e = let still : has (set_with now best.node) left.node ≡ true = has_still now best.node left.node node (sym e) in absurd (cc)

      pair : (left new : Candidate) → IsCandidate score nodelist left → has now left.node ≡ false → IsCandidate score nodelist new → has start new.node ≡ false
          → (new.node ≡ best.node) ⊎ (has now new.node ≡ true) → precedes nodelist left new ≡ false
      pair left new is out of in_start (inr was) = h.best left new is out of was in_start
      pair left new is out of in_start (inl e) =
          let some : Some new.score ≡ Some best.score = sym of.scored ∙ ap score e ∙ lead.scored in
          let same : new.score ≡ best.score = cc in
          (λ i. precedes nodelist left (record { node = e i; score = same i }))
          ∙ not_before left best (lead.none_better left.node left.score is.listed out is.scored) (lead.first left.node left.score out is.scored)

      enough : (count_to now 32 ≡ count_to start 32 + k) ⊎ ((c : Candidate) → IsCandidate score nodelist c → has now c.node ≡ true)
          → (count_to (set_with now best.node) 32 ≡ count_to start 32 + (k + 1)) ⊎ ((c : Candidate) → IsCandidate score nodelist c → has (set_with now best.node) c.node ≡ true)
      enough (inl so_many) = inl (omega (arith, count, so_many))
      enough (inr every) = let there : has now best.node ≡ true = every best (record { listed = lead.listed; scored = lead.scored }) in absurd (let out : has now best.node ≡ false = lead.outside in cc)

  steps : (start k : ℕ) → Added start k (added score nodelist start k)
  unfolding LeadsBy
  steps start zero = nothing start
  steps start (suc k) = subst (λ (j : ℕ). Added start j (with_best score nodelist now)) (add-one k) (by (best_of score nodelist now) (best_leads score now nodelist) (steps start k))
    where
      now : ℕ
      now = added score nodelist start k

      by : (o : Option Candidate) → LeadsBy score now nodelist o → Added start k now → Added start (k + 1) (joined_by now o)
      by None lead before = all start k now lead before
      by (Some best) lead before = more start k now best lead before

  of_previous : (previous n : ℕ) → (has previous n && is_some (score n)) ≡ true → IsNode n
  of_previous previous n h = by (has previous n) (score n) refl h
    where
      by : (b : Bool) (o : Option Score) → o ≡ score n → (b && is_some o) ≡ true → IsNode n
      by true (Some s) e h = nodes n s (sym e)
      by true None e h = absurd (cc)
      by false o e h = absurd (cc)

  has_kept : (previous m : ℕ) → has (kept score nodelist previous) m ≡ (is_listed nodelist m && (has previous m && is_some (score m)))
  unfolding kept
  has_kept previous m = has_set (λ n. has previous n && is_some (score n)) nodelist m (of_previous previous)

  -- what a node that was kept is
  kept_is : (previous m : ℕ) → has (kept score nodelist previous) m ≡ true → (has previous m ≡ true) × ((s : Score) × IsCandidate score nodelist (record { node = m; score = s }))
  kept_is previous m h = by (is_listed nodelist m) refl (has previous m) refl (score m) refl (sym (has_kept previous m) ∙ h)
    where
      by : (a : Bool) → a ≡ is_listed nodelist m → (b : Bool) → b ≡ has previous m → (o : Option Score) → o ≡ score m → (a && (b && is_some o)) ≡ true
          → (has previous m ≡ true) × ((s : Score) × IsCandidate score nodelist (record { node = m; score = s }))
      by true is true was (Some s) scored h = (sym was, (s, record { listed = sym is; scored = sym scored }))
      by true is true was None scored h = absurd (cc)
      by true is false was o scored h = absurd (cc)
      by false is b was o scored h = absurd (cc)

  pub placed_is_best : (desired previous : ℕ) → IsBest score nodelist desired previous (placed score nodelist desired previous)
  unfolding placed
  placed_is_best desired previous = record {
    kept = λ c is was. done.old c.node (has_kept previous c.node ∙ rw (is.listed, was, is.scored) refl);
    own = λ n there. own n (done.own n there);
    few = few (desired - count_to first 32) refl;
    enough = λ c is out. enough c is out done.enough;
    best = λ left new is out of there was. done.best left new is out of there (no_longer new.node was);
  }
    where
      first : ℕ
      first = kept score nodelist previous

      done : Added first (desired - count_to first 32) (added score nodelist first (desired - count_to first 32))
      done = steps first (desired - count_to first 32)

      own : (n : ℕ) → (has first n ≡ true) ⊎ ((s : Score) × IsCandidate score nodelist (record { node = n; score = s })) → (s : Score) × IsCandidate score nodelist (record { node = n; score = s })
      own n (inl was) = (kept_is previous n was).1
      own n (inr is) = is

      no_longer : (n : ℕ) → has previous n ≡ false → has first n ≡ false
      no_longer n was = by (has first n) refl
        where
          by : (b : Bool) → b ≡ has first n → has first n ≡ false
          by false e = sym e
          by true e = let old : has previous n ≡ true = (kept_is previous n (sym e)).0 in absurd (cc)

      few : (k : ℕ) → k ≡ desired - count_to first 32 → (n : ℕ) → has (added score nodelist first k) n ≡ true → has previous n ≡ false → count_to (added score nodelist first k) 32 ≤ desired
      few zero e n there was = let out : has first n ≡ false = no_longer n was in absurd (cc)
      few (suc k) e n there was = omega (arith, (steps first (suc k)).most)

      enough : (c : Candidate) → IsCandidate score nodelist c → has (added score nodelist first (desired - count_to first 32)) c.node ≡ false
          → (count_to (added score nodelist first (desired - count_to first 32)) 32 ≡ count_to first 32 + (desired - count_to first 32))
          ⊎ ((c : Candidate) → IsCandidate score nodelist c → has (added score nodelist first (desired - count_to first 32)) c.node ≡ true)
          → desired ≤ count_to (added score nodelist first (desired - count_to first 32)) 32
      enough c is out (inl so_many) = omega (arith, so_many)
      enough c is out (inr every) = let there = every c is in absurd (cc)
