-- Places that are brought up to date are those that the rule gives.
use Rattle.std.proofs.Common.{◌≡◌, ℕ, Bool, true, false, cond, not, ◌&&◌, ◌||◌, List, [], ◌∷◌, ◌++◌, Option, None, Some, fold, refl, sym, ap, subst, ◌∙◌}
use Rattle.std.proofs.lemmas.Bool.{and_parts, not-true, or_parts}
use Rattle.std.proofs.lemmas.List.Folds.{list_any-append}
use Rattle.std.specs.Cmp.Lexicographic.{same_text}
use Rattle.std.specs.Str.{bytes_eq}
use Rattle.cl_base.proofs.NameLemmas.{texts_pass}
use Rattle.rg_props.specs.declared.group.Resource.{Resource}
use Rattle.rg_props.specs.Lookups.{named}
use Rattle.rg_props.specs.Settings.{has_name}
use Rattle.rg_props.specs.Table.{GroupTable}
use Rattle.rg_view.specs.declared.name_at.NameAt.{NameAt}
use Rattle.rg_view.specs.declared.orders.Outstanding.{Outstanding}
use Rattle.rg_view.specs.declared.view.GroupView.{GroupView}
use Rattle.rg_view.specs.Marks.{is_marked}
use Rattle.sequencer.specs.declared.direction.Direction.{Direction}
use Rattle.sequencer.specs.Leaving.{counts_online, going_of, must_go, with_places, with_resource}
use Rattle.sequencer.specs.Renewals.{Course, Turning, anew_of, renewed, turning, with_anew, with_resource_anew, with_turned}
use Rattle.sequencer.specs.Resting.{is_in_order, is_resting, rests_on}
use Rattle.sequencer.proofs.Staying.{places_stay}
use Rattle.sequencer.proofs.Turned.{is_in, places_here, places_other, turning_here, turning_other, unturned}

-- one name more
pub has_more : (y x : List ℕ) (names : List (List ℕ)) → has_name y (names ++ x ∷ []) ≡ (has_name y names || (bytes_eq x y || false))
has_more y x names = list_any-append (λ n. bytes_eq n y) names (x ∷ [])

-- what is done for a resource changes no place of another, so none of a name that is not in the list
module _ (d : Direction) (t : GroupTable) (v : GroupView) (members : List ℕ) where
  resource_other : (g : List NameAt) (x : List ℕ) (y : List ℕ) (m : ℕ) → bytes_eq x y ≡ false → is_marked (with_resource d t v members g x) y m ≡ is_marked g y m
  resource_other g x y m out = by (named t.resources x)
    where
      by : (found : Option Resource) → is_marked (with_places d t v members g x found) y m ≡ is_marked g y m
      by None = refl
      by (Some r) = places_other d t v members x r g members y m out

  kept_behind : (rest : List (List ℕ)) (g : List NameAt) (y : List ℕ) (m : ℕ) → has_name y rest ≡ false → is_marked (fold (with_resource d t v members) g rest) y m ≡ is_marked g y m
  kept_behind [] g y m out = refl
  kept_behind (x ∷ rest) g y m out =
      let parts : _ = or_parts (bytes_eq x y) (has_name y rest) out in
      kept_behind rest (with_resource d t v members g x) y m parts.1 ∙ resource_other g x y m parts.0

-- Two views that differ in outstanding orders alone, by which only this resource counts differently.
module _ (d : Direction) (t : GroupTable) (v : GroupView) (orders : List (Option Outstanding)) (members : List ℕ) (ordered : List ℕ)
    (counts : (y : List ℕ) (m : ℕ) → bytes_eq ordered y ≡ false → counts_online d v y m ≡ counts_online d (record v { outstanding = orders }) y m) where
  abbrev w : GroupView
  w = record v { outstanding = orders }

  -- How far it has come: what is still to come, the places that the rule gave and gives so far, and those that are brought up to date so far.
  record Stage (rest : List (List ℕ)) (p q : List NameAt) (s : Course) : Type 0 where
    done : (y : List ℕ) (m : ℕ) → has_name y rest ≡ false → is_marked s.going y m ≡ is_marked q y m
    ahead : (y : List ℕ) (m : ℕ) → has_name y rest ≡ true → is_marked s.going y m ≡ is_marked (fold (with_resource d t v members) p rest) y m
    fresh_before : (y : List ℕ) (m : ℕ) → has_name y rest ≡ true → is_marked p y m ≡ false
    fresh_now : (y : List ℕ) (m : ℕ) → has_name y rest ≡ true → is_marked q y m ≡ false
    same : (y : List ℕ) (m : ℕ) → has_name y s.changed ≡ false → is_marked p y m ≡ is_marked q y m
    counted : (y : List ℕ) → has_name y s.changed ≡ false → bytes_eq ordered y ≡ false

  -- what a step does for its resource, and for the others
  record Step (x : List ℕ) (p q p1 q1 : List NameAt) (s s1 : Course) : Type 0 where
    before : (y : List ℕ) (m : ℕ) → bytes_eq x y ≡ false → is_marked p1 y m ≡ is_marked p y m
    now : (y : List ℕ) (m : ℕ) → bytes_eq x y ≡ false → is_marked q1 y m ≡ is_marked q y m
    kept : (y : List ℕ) (m : ℕ) → bytes_eq x y ≡ false → is_marked s1.going y m ≡ is_marked s.going y m
    here : (m : ℕ) → is_marked s1.going x m ≡ is_marked q1 x m
    unchanged : has_name x s1.changed ≡ false → (m : ℕ) → is_marked p1 x m ≡ is_marked q1 x m
    more : (y : List ℕ) → has_name y s1.changed ≡ false → has_name y s.changed ≡ false

  module _ (x : List ℕ) (rest : List (List ℕ)) (p q : List NameAt) (s : Course) (once : has_name x rest ≡ false) (stage : Stage (x ∷ rest) p q s) where
    own : has_name x (x ∷ rest) ≡ true
    own = ap (λ b. b || has_name x rest) (texts_pass x x refl)

    behind : (y : List ℕ) → has_name y rest ≡ true → has_name y (x ∷ rest) ≡ true
    behind y in_rest = by (bytes_eq x y)
      where
        by : (b : Bool) → (b || has_name y rest) ≡ true
        by true = refl
        by false = in_rest

    another : (y : List ℕ) → has_name y rest ≡ true → bytes_eq x y ≡ false
    another y in_rest = by (bytes_eq x y) refl
      where
        by : (b : Bool) → b ≡ bytes_eq x y → b ≡ false
        by true is = absurd (let same : has_name x rest ≡ has_name y rest = ap (λ z. has_name z rest) (same_text x y is) in
            let bad : false ≡ true = sym once ∙ same ∙ in_rest in cc)
        by false is = refl

    next : (s1 : Course) → Step x p q (with_resource d t v members p x) (with_resource d t w members q x) s s1
        → Stage rest (with_resource d t v members p x) (with_resource d t w members q x) s1
    next s1 step = record {
      done = λ y m out. done_by y m out (bytes_eq x y) refl;
      ahead = λ y m in_rest. step.kept y m (another y in_rest) ∙ stage.ahead y m (behind y in_rest);
      fresh_before = λ y m in_rest. step.before y m (another y in_rest) ∙ stage.fresh_before y m (behind y in_rest);
      fresh_now = λ y m in_rest. step.now y m (another y in_rest) ∙ stage.fresh_now y m (behind y in_rest);
      same = λ y m out. same_by y m out (bytes_eq x y) refl;
      counted = λ y out. stage.counted y (step.more y out);
    }
      where
        done_by : (y : List ℕ) (m : ℕ) → has_name y rest ≡ false → (b : Bool) → b ≡ bytes_eq x y → is_marked s1.going y m ≡ is_marked (with_resource d t w members q x) y m
        done_by y m out true is = let e : x ≡ y = same_text x y is in
            ap (λ z. is_marked s1.going z m) (sym e) ∙ step.here m ∙ ap (λ z. is_marked (with_resource d t w members q x) z m) e
        done_by y m out false is = step.kept y m (sym is) ∙ stage.done y m (ap (λ b. b || has_name y rest) (sym is) ∙ out) ∙ sym (step.now y m (sym is))

        same_by : (y : List ℕ) (m : ℕ) → has_name y s1.changed ≡ false → (b : Bool) → b ≡ bytes_eq x y
            → is_marked (with_resource d t v members p x) y m ≡ is_marked (with_resource d t w members q x) y m
        same_by y m out true is = let e : x ≡ y = same_text x y is in
            ap (λ z. is_marked (with_resource d t v members p x) z m) (sym e) ∙ step.unchanged (ap (λ z. has_name z s1.changed) e ∙ out) m
            ∙ ap (λ z. is_marked (with_resource d t w members q x) z m) e
        same_by y m out false is = step.before y m (sym is) ∙ stage.same y m (step.more y out) ∙ sym (step.now y m (sym is))

    -- its places so far are those that the rule gave
    old : (m : ℕ) → is_marked s.going x m ≡ is_marked (with_resource d t v members p x) x m
    old m = stage.ahead x m own ∙ kept_behind d t v members rest (with_resource d t v members p x) x m once

    -- a name without a resource
    step_none : named t.resources x ≡ None → Step x p q (with_resource d t v members p x) (with_resource d t w members q x) s (with_anew d t w members s x)
    step_none none = record {
      before = λ y m out. ap (λ g. is_marked g y m) p_same;
      now = λ y m out. ap (λ g. is_marked g y m) q_same;
      kept = λ y m out. ap (λ (c : Course). is_marked c.going y m) s_same;
      here = λ m. ap (λ (c : Course). is_marked c.going x m) s_same ∙ old m ∙ both m;
      unchanged = λ out m. both m;
      more = λ y out. ap (λ (c : Course). has_name y c.changed) (sym s_same) ∙ out;
    }
      where
        p_same : with_resource d t v members p x ≡ p
        p_same = ap (with_places d t v members p x) none

        q_same : with_resource d t w members q x ≡ q
        q_same = ap (with_places d t w members q x) none

        s_same : with_anew d t w members s x ≡ s
        s_same = ap (anew_of d t w members s x) none

        both : (m : ℕ) → is_marked (with_resource d t v members p x) x m ≡ is_marked (with_resource d t w members q x) x m
        both m = ap (λ g. is_marked g x m) p_same ∙ stage.fresh_before x m own ∙ sym (stage.fresh_now x m own) ∙ ap (λ g. is_marked g x m) (sym q_same)

    module _ (r : Resource) (found : named t.resources x ≡ Some r) (apart : rests_on t (x ∷ rest) r ≡ false) where
      abbrev gave : ℕ → Bool
      gave m = must_go d t v members p x r m

      abbrev gives : ℕ → Bool
      gives m = must_go d t w members q x r m

      p_is : with_resource d t v members p x ≡ with_places d t v members p x (Some r)
      p_is = ap (with_places d t v members p x) found

      q_is : with_resource d t w members q x ≡ with_places d t w members q x (Some r)
      q_is = ap (with_places d t w members q x) found

      before_here : (m : ℕ) → is_marked (with_resource d t v members p x) x m ≡ (is_in members m && gave m)
      before_here m =
          ap (λ g. is_marked g x m) p_is ∙ places_here d t v members x r (x ∷ rest) p own apart p members (λ y k out. refl) m
          ∙ ap (λ b. b || (is_in members m && gave m)) (stage.fresh_before x m own)

      now_here : (m : ℕ) → is_marked (with_resource d t w members q x) x m ≡ (is_in members m && gives m)
      now_here m =
          ap (λ g. is_marked g x m) q_is ∙ places_here d t w members x r (x ∷ rest) q own apart q members (λ y k out. refl) m
          ∙ ap (λ b. b || (is_in members m && gives m)) (stage.fresh_now x m own)

      p_other : (y : List ℕ) (m : ℕ) → bytes_eq x y ≡ false → is_marked (with_resource d t v members p x) y m ≡ is_marked p y m
      p_other y m out = resource_other d t v members p x y m out

      q_other : (y : List ℕ) (m : ℕ) → bytes_eq x y ≡ false → is_marked (with_resource d t w members q x) y m ≡ is_marked q y m
      q_other y m out = resource_other d t w members q x y m out

      -- it rests on nothing of which something changed: its places stay
      step_kept : rests_on t s.changed r ≡ false → Step x p q (with_resource d t v members p x) (with_resource d t w members q x) s s
      step_kept free = record {
        before = p_other;
        now = q_other;
        kept = λ y m out. refl;
        here = λ m. old m ∙ both m;
        unchanged = λ out m. both m;
        more = λ y out. out;
      }
        where
          both : (m : ℕ) → is_marked (with_resource d t v members p x) x m ≡ is_marked (with_resource d t w members q x) x m
          both m =
              before_here m
              ∙ ap (λ b. is_in members m && b) (places_stay d t v orders members s.changed p q (λ y k out. counts y k (stage.counted y out)) stage.same x r m free)
              ∙ sym (now_here m)

      abbrev turns : Turning
      turns = turning d t w members x r s.going

      turned_here : (m : ℕ) → is_marked turns.going x m ≡ is_marked (with_resource d t w members q x) x m
      turned_here m =
          turning_here d t w members x r (x ∷ rest) q own apart (record { going = s.going; turned = false }) members stage.done m
          ∙ by (is_in members m) refl ∙ sym (now_here m)
        where
          by : (b : Bool) → b ≡ is_in members m → cond b (gives m) (is_marked s.going x m) ≡ (b && gives m)
          by true is = refl
          by false is = old m ∙ before_here m ∙ ap (λ b. b && gave m) (sym is)

      turned_other : (y : List ℕ) (m : ℕ) → bytes_eq x y ≡ false → is_marked turns.going y m ≡ is_marked s.going y m
      turned_other y m out = turning_other d t w members x r (record { going = s.going; turned = false }) members y m out

      grown : (turned : Bool) (y : List ℕ) → has_name y (cond turned (s.changed ++ x ∷ []) s.changed) ≡ false → has_name y s.changed ≡ false
      grown true y out = (or_parts (has_name y s.changed) (bytes_eq x y || false) (sym (has_more y x s.changed) ∙ out)).0
      grown false y out = out

      step_turned : Step x p q (with_resource d t v members p x) (with_resource d t w members q x) s (with_turned s.changed x turns)
      step_turned = record {
        before = p_other;
        now = q_other;
        kept = turned_other;
        here = turned_here;
        unchanged = λ out m. by turns.turned refl out m;
        more = λ y out. grown turns.turned y out;
      }
        where
          by : (turned : Bool) → turned ≡ turns.turned → has_name x (cond turned (s.changed ++ x ∷ []) s.changed) ≡ false → (m : ℕ)
              → is_marked (with_resource d t v members p x) x m ≡ is_marked (with_resource d t w members q x) x m
          by true is out m =
              let parts : _ = or_parts (has_name x s.changed) (bytes_eq x x || false) (sym (has_more x x s.changed) ∙ out) in
              let test : bytes_eq x x ≡ false = (or_parts (bytes_eq x x) false parts.1).0 in
              absurd (let bad : true ≡ false = sym (texts_pass x x refl) ∙ test in cc)
          by false is out m =
              let all : turns ≡ record { going = s.going; turned = false } = unturned d t w members x r (record { going = s.going; turned = false }) members (sym is) in
              sym (old m) ∙ ap (λ (u : Turning). is_marked u.going x m) (sym all) ∙ turned_here m

      step_some : Step x p q (with_resource d t v members p x) (with_resource d t w members q x) s (with_anew d t w members s x)
      step_some = subst (λ (c : Course). Step x p q (with_resource d t v members p x) (with_resource d t w members q x) s c) (sym anew) (by (rests_on t s.changed r) refl)
        where
          anew : with_anew d t w members s x ≡ with_resource_anew d t w members s x r
          anew = ap (anew_of d t w members s x) found

          by : (b : Bool) → b ≡ rests_on t s.changed r
              → Step x p q (with_resource d t v members p x) (with_resource d t w members q x) s (cond b (with_turned s.changed x turns) s)
          by true is = step_turned
          by false is = step_kept (sym is)

    taken : is_resting t (x ∷ rest) (named t.resources x) ≡ false → Step x p q (with_resource d t v members p x) (with_resource d t w members q x) s (with_anew d t w members s x)
    taken apart = by (named t.resources x) refl
      where
        by : (found : Option Resource) → found ≡ named t.resources x → Step x p q (with_resource d t v members p x) (with_resource d t w members q x) s (with_anew d t w members s x)
        by None is = step_none (sym is)
        by (Some r) is = step_some r (sym is) (ap (is_resting t (x ∷ rest)) is ∙ apart)

  brought : (rest : List (List ℕ)) (p q : List NameAt) (s : Course) → is_in_order t rest ≡ true → Stage rest p q s → (y : List ℕ) (m : ℕ)
      → is_marked (fold (with_anew d t w members) s rest).going y m ≡ is_marked (fold (with_resource d t w members) q rest) y m
  brought [] p q s in_order stage y m = stage.done y m refl
  brought (x ∷ rest) p q s in_order stage y m =
      let parts : _ = and_parts (not (has_name x rest) && not (is_resting t (x ∷ rest) (named t.resources x))) (is_in_order t rest) in_order in
      let both : _ = and_parts (not (has_name x rest)) (not (is_resting t (x ∷ rest) (named t.resources x))) parts.0 in
      let once : has_name x rest ≡ false = not-true (has_name x rest) both.0 in
      let apart : is_resting t (x ∷ rest) (named t.resources x) ≡ false = not-true (is_resting t (x ∷ rest) (named t.resources x)) both.1 in
      brought rest (with_resource d t v members p x) (with_resource d t w members q x) (with_anew d t w members s x) parts.1
      (next x rest p q s once stage (with_anew d t w members s x) (taken x rest p q s once stage apart)) y m

  -- Places that the rule gave are brought to those that it gives now.
  pub renewed_going : (order : List (List ℕ)) (going : List NameAt) → is_in_order t order ≡ true
      → ((y : List ℕ) (m : ℕ) → is_marked going y m ≡ is_marked (going_of d t v members order) y m)
      → (y : List ℕ) (m : ℕ) → is_marked (renewed d t w members order ordered going) y m ≡ is_marked (going_of d t w members order) y m
  unfolding going_of
  renewed_going order going in_order before y m = brought order [] [] (record { going = going; changed = ordered ∷ [] }) in_order (record {
    done = λ z k out. before z k ∙ kept_behind d t v members order [] z k out;
    ahead = λ z k is. before z k;
    fresh_before = λ z k is. refl;
    fresh_now = λ z k is. refl;
    same = λ z k out. refl;
    counted = λ z out. (or_parts (bytes_eq ordered z) false out).0;
  }) y m
