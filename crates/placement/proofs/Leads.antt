-- The best of the nodes outside a set comes before each other one.
use Rattle.std.proofs.Common.{◌≡◌, ◌≢◌, ◌⊎◌, inl, inr, ℕ, ◌==◌, Bool, true, false, cond, not, ◌&&◌, ◌||◌, Option, None, Some, List, [], ◌∷◌, ◌++◌, fold, refl, sym, ap, subst, ◌∙◌, append_assoc, arith}
use Rattle.std.proofs.lemmas.Bool.Decides.{eqb_tells, nat_tests}
use Rattle.std.proofs.lemmas.List.Folds.{list_any-append}
use Rattle.std.proofs.lemmas.List.{append-nil}
use Rattle.cl_base.specs.Sets.{has}
use Rattle.placement.specs.declared.placing.Candidate.{Candidate}
use Rattle.placement.specs.declared.score.Score.{Score}
use Rattle.placement.specs.Best.{is_listed, stands_before}
use Rattle.placement.specs.Goals.{best_of, better_of, considered}
use Rattle.placement.specs.Scores.{is_better}
use Rattle.placement.proofs.Members.{number_itself, same_number}
use Rattle.placement.proofs.Orders.{not_itself, not_better, better_then}

or_none : (p : Bool) → (p || false) ≡ p
or_none true = refl
or_none false = refl

listed_push : (done : List ℕ) (n m : ℕ) → is_listed (done ++ n ∷ []) m ≡ (is_listed done m || (m == n))
unfolding is_listed
listed_push done n m = list_any-append (λ k. m == k) done (n ∷ []) ∙ ap (λ (b : Bool). is_listed done m || b) (or_none (m == n))

pub listed_last : (done : List ℕ) (n : ℕ) → is_listed (done ++ n ∷ []) n ≡ true
listed_last done n = listed_push done n n ∙ rw (number_itself n) (by (is_listed done n))
  where
    by : (b : Bool) → (b || true) ≡ true
    by true = refl
    by false = refl

listed_still : (done : List ℕ) (n m : ℕ) → is_listed done m ≡ true → is_listed (done ++ n ∷ []) m ≡ true
listed_still done n m h = listed_push done n m ∙ rw h refl

-- what is listed then was listed, or is the last
which : (done : List ℕ) (n m : ℕ) → is_listed (done ++ n ∷ []) m ≡ true → (is_listed done m ≡ true) ⊎ (m ≡ n)
which done n m h = by (is_listed done m) refl (eqb_tells m n)
  where
    by : (b : Bool) → b ≡ is_listed done m → ((m == n) ≡ true) × (m ≡ n) ⊎ ((m == n) ≡ false) × (m ≢ n) → (is_listed done m ≡ true) ⊎ (m ≡ n)
    by true e told = inl (sym e)
    by false e (inl (_, same)) = inr same
    by false e (inr (off, _)) =
        let now : is_listed (done ++ n ∷ []) m ≡ false = listed_push done n m ∙ rw (sym e, off) refl in
        absurd (cc)

-- a node that is met keeps what stands before it
before_still : (done xs : List ℕ) (m b : ℕ) → is_listed done b ≡ true → stands_before (done ++ xs) m b ≡ stands_before done m b
unfolding is_listed stands_before
before_still [] xs m b h = absurd (cc)
before_still (x ∷ done) xs m b h = by (b == x) refl (before_still done xs m b)
  where
    by : (t : Bool) → t ≡ (b == x) → (is_listed done b ≡ true → stands_before (done ++ xs) m b ≡ stands_before done m b)
        → cond t false (cond (m == x) true (stands_before (done ++ xs) m b)) ≡ cond t false (cond (m == x) true (stands_before done m b))
    by true e rest = refl
    by false e rest = ap (cond (m == x) true) (rest (ap (λ (t : Bool). t || is_listed done b) e ∙ h))

before_unlisted : (done : List ℕ) (m b : ℕ) → is_listed done m ≡ false → stands_before done m b ≡ false
unfolding is_listed stands_before
before_unlisted [] m b h = refl
before_unlisted (x ∷ done) m b h = by (m == x) refl (b == x) (before_unlisted done m b)
  where
    by : (t : Bool) → t ≡ (m == x) → (u : Bool) → (is_listed done m ≡ false → stands_before done m b ≡ false) → cond u false (cond t true (stands_before done m b)) ≡ false
    by true e u rest = absurd (let bad : true ≡ false = ap (λ (t : Bool). t || is_listed done m) e ∙ h in cc)
    by false e true rest = refl
    by false e false rest = rest (ap (λ (t : Bool). t || is_listed done m) e ∙ h)

before_itself : (done : List ℕ) (m : ℕ) → stands_before done m m ≡ false
unfolding stands_before
before_itself [] m = refl
before_itself (x ∷ done) m = by (m == x) (before_itself done m)
  where
    by : (t : Bool) → stands_before done m m ≡ false → cond t false (cond t true (stands_before done m m)) ≡ false
    by true rest = refl
    by false rest = rest

module _ (score : ℕ → Option Score) (set : ℕ) where
  -- of the nodes met so far none comes before the best
  pub record Leads (done : List ℕ) (best : Candidate) : Type 0 where
    pub listed : is_listed done best.node ≡ true
    pub outside : has set best.node ≡ false
    pub scored : score best.node ≡ Some best.score
    pub none_better : (m : ℕ) (s : Score) → is_listed done m ≡ true → has set m ≡ false → score m ≡ Some s → is_better s best.score ≡ false
    pub first : (m : ℕ) (s : Score) → has set m ≡ false → score m ≡ Some s → is_better best.score s ≡ false → stands_before done m best.node ≡ false

  unfoldable pub LeadsBy : List ℕ → Option Candidate → Type 0
  LeadsBy done None = (m : ℕ) (s : Score) → is_listed done m ≡ true → has set m ≡ false → score m ≡ Some s → ⊥
  LeadsBy done (Some best) = Leads done best

  one_score : (m n : ℕ) (s r : Score) → m ≡ n → score m ≡ Some s → score n ≡ Some r → s ≡ r
  one_score m n s r e left right = let same : Some s ≡ Some r = sym left ∙ ap score e ∙ right in cc

  -- a node that is not asked changes nothing
  skip : (done : List ℕ) (best : Option Candidate) (n : ℕ) → ((s : Score) → has set n ≡ false → score n ≡ Some s → ⊥) → LeadsBy done best → LeadsBy (done ++ n ∷ []) best
  unfolding LeadsBy
  skip done None n never h = λ m s listed out is. by m s out is (which done n m listed)
    where
      by : (m : ℕ) (s : Score) → has set m ≡ false → score m ≡ Some s → (is_listed done m ≡ true) ⊎ (m ≡ n) → ⊥
      by m s out is (inl old) = h m s old out is
      by m s out is (inr e) = never s (ap (has set) (sym e) ∙ out) (ap score (sym e) ∙ is)
  skip done (Some best) n never h = record {
    listed = listed_still done n best.node h.listed;
    outside = h.outside;
    scored = h.scored;
    none_better = λ m s listed out is. by m s out is (which done n m listed);
    first = λ m s out is better. before_still done (n ∷ []) m best.node h.listed ∙ h.first m s out is better;
  }
    where
      by : (m : ℕ) (s : Score) → has set m ≡ false → score m ≡ Some s → (is_listed done m ≡ true) ⊎ (m ≡ n) → is_better s best.score ≡ false
      by m s out is (inl old) = h.none_better m s old out is
      by m s out is (inr e) = absurd (never s (ap (has set) (sym e) ∙ out) (ap score (sym e) ∙ is))

  -- the first that is asked
  start : (done : List ℕ) (n : ℕ) (r : Score) → has set n ≡ false → score n ≡ Some r → LeadsBy done None → Leads (done ++ n ∷ []) (record { node = n; score = r })
  unfolding LeadsBy
  start done n r out_n is_n h = record {
    listed = listed_last done n;
    outside = out_n;
    scored = is_n;
    none_better = λ m s listed out is. by m s out is (which done n m listed);
    first = λ m s out is better. first m s out is (is_listed (done ++ n ∷ []) m) refl;
  }
    where
      by : (m : ℕ) (s : Score) → has set m ≡ false → score m ≡ Some s → (is_listed done m ≡ true) ⊎ (m ≡ n) → is_better s r ≡ false
      by m s out is (inl old) = absurd (h m s old out is)
      by m s out is (inr e) = ap (λ (a : Score). is_better a r) (one_score m n s r e is is_n) ∙ not_itself r

      first : (m : ℕ) (s : Score) → has set m ≡ false → score m ≡ Some s → (b : Bool) → b ≡ is_listed (done ++ n ∷ []) m → stands_before (done ++ n ∷ []) m n ≡ false
      first m s out is false e = before_unlisted (done ++ n ∷ []) m n (sym e)
      first m s out is true e = last (which done n m (sym e))
        where
          last : (is_listed done m ≡ true) ⊎ (m ≡ n) → stands_before (done ++ n ∷ []) m n ≡ false
          last (inl old) = absurd (h m s old out is)
          last (inr same) = ap (λ (k : ℕ). stands_before (done ++ n ∷ []) k n) same ∙ before_itself (done ++ n ∷ []) n

  -- a better one
  change : (done : List ℕ) (best : Candidate) (n : ℕ) (r : Score) → has set n ≡ false → score n ≡ Some r → is_better r best.score ≡ true → Leads done best
      → Leads (done ++ n ∷ []) (record { node = n; score = r })
  change done best n r out_n is_n better_n h = record {
    listed = listed_last done n;
    outside = out_n;
    scored = is_n;
    none_better = λ m s listed out is. by m s out is (which done n m listed);
    first = λ m s out is worse. first m s out is worse (is_listed (done ++ n ∷ []) m) refl;
  }
    where
      by : (m : ℕ) (s : Score) → has set m ≡ false → score m ≡ Some s → (is_listed done m ≡ true) ⊎ (m ≡ n) → is_better s r ≡ false
      by m s out is (inl old) = not_better r best.score s better_n (h.none_better m s old out is)
      by m s out is (inr e) = ap (λ (a : Score). is_better a r) (one_score m n s r e is is_n) ∙ not_itself r

      first : (m : ℕ) (s : Score) → has set m ≡ false → score m ≡ Some s → is_better r s ≡ false → (b : Bool) → b ≡ is_listed (done ++ n ∷ []) m
          → stands_before (done ++ n ∷ []) m n ≡ false
      first m s out is worse false e = before_unlisted (done ++ n ∷ []) m n (sym e)
      first m s out is worse true e = last (which done n m (sym e))
        where
          last : (is_listed done m ≡ true) ⊎ (m ≡ n) → stands_before (done ++ n ∷ []) m n ≡ false
          last (inl old) = let better : is_better r s ≡ true = better_then r best.score s better_n (h.none_better m s old out is) in absurd (cc)
          last (inr same) = ap (λ (k : ℕ). stands_before (done ++ n ∷ []) k n) same ∙ before_itself (done ++ n ∷ []) n

  -- one that is not better
  stay : (done : List ℕ) (best : Candidate) (n : ℕ) (r : Score) → score n ≡ Some r → is_better r best.score ≡ false → Leads done best → Leads (done ++ n ∷ []) best
  stay done best n r is_n worse h = record {
    listed = listed_still done n best.node h.listed;
    outside = h.outside;
    scored = h.scored;
    none_better = λ m s listed out is. by m s out is (which done n m listed);
    first = λ m s out is better. before_still done (n ∷ []) m best.node h.listed ∙ h.first m s out is better;
  }
    where
      by : (m : ℕ) (s : Score) → has set m ≡ false → score m ≡ Some s → (is_listed done m ≡ true) ⊎ (m ≡ n) → is_better s best.score ≡ false
      by m s out is (inl old) = h.none_better m s old out is
      by m s out is (inr e) = ap (λ (a : Score). is_better a best.score) (one_score m n s r e is is_n) ∙ worse

  turn : (done : List ℕ) (best : Option Candidate) (n : ℕ) → LeadsBy done best → LeadsBy (done ++ n ∷ []) (considered score set best n)
  unfolding LeadsBy
  turn done best n h = by (has set n) refl (score n) refl best h
    where
      by : (b : Bool) → b ≡ has set n → (o : Option Score) → o ≡ score n → (best : Option Candidate) → LeadsBy done best → LeadsBy (done ++ n ∷ []) (cond b best (better_of best n o))
      by true e o told best h = skip done best n (λ s out is. let bad : true ≡ false = e ∙ out in cc) h
      by false e None told best h = skip done best n (λ s out is. let bad : None ≡ Some s = told ∙ is in cc) h
      by false e (Some r) told None h = start done n r (sym e) (sym told) h
      by false e (Some r) told (Some best) h = better (is_better r best.score) refl
        where
          better : (t : Bool) → t ≡ is_better r best.score → LeadsBy (done ++ n ∷ []) (cond t (Some (record { node = n; score = r })) (Some best))
          better true is = change done best n r (sym e) (sym told) (sym is) h
          better false is = stay done best n r (sym told) (sym is) h

  turns : (done rest : List ℕ) (best : Option Candidate) → LeadsBy done best → LeadsBy (done ++ rest) (fold (considered score set) best rest)
  turns done [] best h = subst (λ (l : List ℕ). LeadsBy l best) (sym (append-nil done)) h
  turns done (n ∷ ns) best h = subst (λ (l : List ℕ). LeadsBy l (fold (considered score set) (considered score set best n) ns)) (append_assoc done (n ∷ []) ns)
      (turns (done ++ n ∷ []) ns (considered score set best n) (turn done best n h))

  pub best_leads : (nodelist : List ℕ) → LeadsBy nodelist (best_of score nodelist set)
  unfolding LeadsBy best_of is_listed
  best_leads nodelist = turns [] nodelist None (λ m s listed out is. absurd (cc))
