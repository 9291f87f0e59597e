-- What counts on a node while a group is decided, counts there after the decision.
use Rattle.std.proofs.Common.{◌≡◌, ℕ, ◌+◌, Bool, true, false, cond, ◌&&◌, ◌||◌, ◌⊎◌, inl, inr, List, [], ◌∷◌, ◌++◌, fold, length, take, drop, refl, sym, ap, subst, ◌∙◌, add-one, append-nil, arith}
use Rattle.std.proofs.lemmas.List.Sums.{fold-append}
use Rattle.std.proofs.Math.Seq.{drop-append-add, take-append_seam}
use Rattle.std.specs.Cmp.Lexicographic.{same_text}
use Rattle.std.specs.List.{AllByRecursion, after_first, before_first, flat_map, position_or_len}
use Rattle.std.specs.Map.{keys_of}
use Rattle.std.specs.Option.{option_map}
use Rattle.std.specs.Str.{bytes_eq}
use Rattle.cl_base.proofs.NameLemmas.{text_flips, texts_pass}
use Rattle.cl_base.specs.Sets.{has}
use Rattle.load_limits.specs.declared.limits.Factor.{Factor}
use Rattle.load_limits.specs.declared.limits.Limit.{Limit}
use Rattle.load_limits.specs.Loads.{first_over_of}
use Rattle.placement.specs.Decisions.{with_fixed, with_goal, with_other}
use Rattle.placement.specs.Goals.{goal_by_rule}
use Rattle.placement.specs.Loads.{brought, brought_fixed, counted, factors_of, is_entry_of, is_fixed, is_suspended, passed_limit}
use Rattle.placement.specs.Resources.{is_stop_failed}
use Rattle.rg_props.specs.declared.group.Group.{Group}
use Rattle.rg_props.specs.Lookups.{named}
use Rattle.rg_props.specs.Table.{GroupTable}
use Rattle.rg_view.specs.declared.view.GroupView.{GroupView}
use Rattle.rg_view.specs.Goals.{goal_of, goals_with}
use Rattle.rgm_president.specs.Goals.{listed, with_previous}
use Rattle.president_laws.specs.Laws.{Lacks}
use Rattle.decision_laws.proofs.Grounds.{SharesGround}

-- Goals that are set.

abbrev Goals : Type 0
Goals = List (List ℕ × ℕ)

pub pass : (b rest : Goals) (x : List ℕ) (set : ℕ) → Lacks (keys_of b) x → goals_with (b ++ rest) x set ≡ b ++ goals_with rest x set
pass [] rest x set h = refl
pass (e ∷ b) rest x set h = rw (text_flips x e.0 ∙ h.0) (ap (λ (l : Goals). e ∷ l) (pass b rest x set h.1))

-- either the name is lacking, or what is set replaces what is there
set_before : (b rest : Goals) (x : List ℕ) (set : ℕ) → Lacks (keys_of b) x ⊎ ((c : Goals) × (keys_of c ≡ keys_of b) × (goals_with (b ++ rest) x set ≡ c ++ rest))
set_before [] rest x set = inl tt
set_before (e ∷ b) rest x set = by (bytes_eq x e.0) refl (set_before b rest x set)
  where
    by : (found : Bool) → bytes_eq x e.0 ≡ found → Lacks (keys_of b) x ⊎ ((c : Goals) × (keys_of c ≡ keys_of b) × (goals_with (b ++ rest) x set ≡ c ++ rest))
        → Lacks (keys_of (e ∷ b)) x ⊎ ((c : Goals) × (keys_of c ≡ keys_of (e ∷ b)) × (goals_with ((e ∷ b) ++ rest) x set ≡ c ++ rest))
    by true is later = inr ((x, set) ∷ b, ap (λ (y : List ℕ). y ∷ keys_of b) (same_text x e.0 (sym is)), rw is refl)
    by false is (inl none) = inl (text_flips e.0 x ∙ is, none)
    by false is (inr (c, keys, set_c)) = inr (e ∷ c, ap (λ (l : List (List ℕ)). e.0 ∷ l) keys, rw is (ap (λ (l : Goals). e ∷ l) set_c))

-- Goals with the group's own, where those before it are of none of these names.
pub record IsSplit (late : List (List ℕ)) (name : List ℕ) (goals : Goals) : Type 0 where
  pub before : Goals
  pub own : ℕ
  pub behind : Goals
  pub whole : goals ≡ before ++ (name, own) ∷ behind
  pub lacking : AllByRecursion (Lacks (keys_of before)) late

set_own : (name : List ℕ) (own : ℕ) (behind : Goals) (x : List ℕ) (set : ℕ) → (s : ℕ) × (d : Goals) × (goals_with ((name, own) ∷ behind) x set ≡ (name, s) ∷ d)
set_own name own behind x set = by (bytes_eq x name) refl
  where
    by : (b : Bool) → bytes_eq x name ≡ b → (s : ℕ) × (d : Goals) × (goals_with ((name, own) ∷ behind) x set ≡ (name, s) ∷ d)
    by true is = (set, behind, rw is (ap (λ (y : List ℕ). (y, set) ∷ behind) (same_text x name (sym is))))
    by false is = (own, goals_with behind x set, rw is refl)

split_set : (late : List (List ℕ)) (name : List ℕ) (goals : Goals) (x : List ℕ) (set : ℕ) → IsSplit late name goals → IsSplit late name (goals_with goals x set)
split_set late name goals x set h = by (set_before h.before ((name, h.own) ∷ h.behind) x set)
  where
    here : goals_with goals x set ≡ goals_with (h.before ++ (name, h.own) ∷ h.behind) x set
    here = ap (λ (l : Goals). goals_with l x set) h.whole

    by : Lacks (keys_of h.before) x ⊎ ((c : Goals) × (keys_of c ≡ keys_of h.before) × (goals_with (h.before ++ (name, h.own) ∷ h.behind) x set ≡ c ++ (name, h.own) ∷ h.behind))
        → IsSplit late name (goals_with goals x set)
    by (inl none) =
        let after : _ = set_own name h.own h.behind x set in
        record {
          before = h.before;
          own = after.0;
          behind = after.1;
          whole = here ∙ pass h.before ((name, h.own) ∷ h.behind) x set none ∙ ap (λ (l : Goals). h.before ++ l) after.2;
          lacking = h.lacking;
        }
    by (inr (c, keys, set_c)) = record {
      before = c;
      own = h.own;
      behind = h.behind;
      whole = here ∙ set_c;
      lacking = subst (λ (l : List (List ℕ)). AllByRecursion (Lacks l) late) (sym keys) h.lacking;
    }

-- The previous goals, listed in order.

module _ (previous : Goals) where
  lacks_set : (goals : Goals) (x y : List ℕ) (set : ℕ) → Lacks (keys_of goals) y → bytes_eq x y ≡ false → Lacks (keys_of (goals_with goals x set)) y
  lacks_set [] x y set h other = (other, tt)
  lacks_set (e ∷ es) x y set h other = by (bytes_eq x e.0) (lacks_set es x y set h.1 other)
    where
      by : (b : Bool) → Lacks (keys_of (goals_with es x set)) y → Lacks (keys_of (cond b ((x, set) ∷ es) (e ∷ goals_with es x set))) y
      by true rest = (other, h.1)
      by false rest = (h.0, rest)

  lacks_listed : (names : List (List ℕ)) (goals : Goals) (y : List ℕ) → Lacks names y → Lacks (keys_of goals) y → Lacks (keys_of (fold (with_previous previous) goals names)) y
  lacks_listed [] goals y apart h = h
  lacks_listed (x ∷ xs) goals y apart h = lacks_listed xs (with_previous previous goals x) y apart.1 (lacks_set goals x y (goal_of previous x) h apart.0)

  all_listed : (late names : List (List ℕ)) → AllByRecursion (Lacks names) late → AllByRecursion (Lacks (keys_of (fold (with_previous previous) [] names))) late
  all_listed [] names h = tt
  all_listed (y ∷ ys) names h = (lacks_listed names [] y h.0 tt, all_listed ys names h.1)

  split_listed : (late : List (List ℕ)) (name : List ℕ) (names : List (List ℕ)) (goals : Goals) → IsSplit late name goals → IsSplit late name (fold (with_previous previous) goals names)
  split_listed late name [] goals h = h
  split_listed late name (x ∷ xs) goals h = split_listed late name xs (with_previous previous goals x) (split_set late name goals x (goal_of previous x) h)

  pub listed_split : (before : List (List ℕ)) (name : List ℕ) (behind : List (List ℕ)) → AllByRecursion (Lacks before) (name ∷ behind)
      → IsSplit (name ∷ behind) name (listed previous (before ++ name ∷ behind))
  listed_split before name behind h =
      subst (IsSplit (name ∷ behind) name) (sym (fold-append (with_previous previous) [] before (name ∷ behind)))
      (split_listed (name ∷ behind) name behind (with_previous previous first name) begun)
    where
      first : Goals
      first = fold (with_previous previous) [] before

      lacking : AllByRecursion (Lacks (keys_of first)) (name ∷ behind)
      lacking = all_listed (name ∷ behind) before h

      begun : IsSplit (name ∷ behind) name (with_previous previous first name)
      begun = record {
        before = first;
        own = goal_of previous name;
        behind = [];
        whole = ap (λ (l : Goals). goals_with l name (goal_of previous name)) (sym (append-nil first)) ∙ pass first [] name (goal_of previous name) lacking.0;
        lacking = lacking;
      }

module _ (t : GroupTable) (limits : List Limit) (v : GroupView) (late : List (List ℕ)) (name : List ℕ) where
  pub split_fixed : (names : List (List ℕ)) (goals : Goals) → IsSplit late name goals → IsSplit late name (fold (with_fixed t limits v) goals names)
  split_fixed [] goals h = h
  split_fixed (x ∷ xs) goals h = split_fixed xs (with_fixed t limits v goals x) (by (is_fixed t v x))
    where
      by : (b : Bool) → IsSplit late name (cond b (with_goal t limits v goals x) goals)
      by true = split_set late name goals x (goal_by_rule t limits (record v { goals = goals }) x (goal_of goals x)) h
      by false = h

  pub split_other : (names : List (List ℕ)) (goals : Goals) → IsSplit late name goals → IsSplit late name (fold (with_other t limits v) goals names)
  split_other [] goals h = h
  split_other (x ∷ xs) goals h = split_other xs (with_other t limits v goals x) (by (is_fixed t v x))
    where
      by : (b : Bool) → IsSplit late name (cond b goals (with_goal t limits v goals x))
      by true = h
      by false = split_set late name goals x (goal_by_rule t limits (record v { goals = goals }) x (goal_of goals x)) h

-- From the group's turn on, what stands before it and what fixed groups behind it bring stays.
module _ (t : GroupTable) (limits : List Limit) (v : GroupView) (name : List ℕ) (n : ℕ) (before : Goals) where
  abbrev fixed_bring : Goals → List Factor
  fixed_bring d = flat_map (brought_fixed t v n) d

  record IsLater (behind : Goals) (goals : Goals) : Type 0 where
    own : ℕ
    rest : Goals
    whole : goals ≡ before ++ (name, own) ∷ rest
    same : fixed_bring rest ≡ fixed_bring behind

  brings_none : (x : List ℕ) (set : ℕ) → is_fixed t v x ≡ false → brought_fixed t v n (x, set) ≡ []
  brings_none x set free = rw free (by (has set n))
    where
      by : (b : Bool) → cond (b && false) (factors_of (named t.groups x)) [] ≡ []
      by true = refl
      by false = refl

  set_brings : (x : List ℕ) (set : ℕ) (d : Goals) → is_fixed t v x ≡ false → fixed_bring (goals_with d x set) ≡ fixed_bring d
  set_brings x set [] free = ap (λ (l : List Factor). l ++ []) (brings_none x set free)
  set_brings x set (e ∷ d) free = by (bytes_eq x e.0) refl (set_brings x set d free)
    where
      by : (b : Bool) → bytes_eq x e.0 ≡ b → fixed_bring (goals_with d x set) ≡ fixed_bring d → fixed_bring (cond b ((x, set) ∷ d) (e ∷ goals_with d x set)) ≡ fixed_bring (e ∷ d)
      by true is rest =
          let none : brought_fixed t v n e ≡ [] = brings_none e.0 e.1 (subst (λ (y : List ℕ). is_fixed t v y ≡ false) (same_text x e.0 (sym is)) free) in
          ap (λ (l : List Factor). l ++ fixed_bring d) (brings_none x set free ∙ sym none)
      by false is rest = ap (λ (l : List Factor). brought_fixed t v n e ++ l) rest

  one_set : (behind goals : Goals) (x : List ℕ) (set : ℕ) → Lacks (keys_of before) x → is_fixed t v x ≡ false → IsLater behind goals → IsLater behind (goals_with goals x set)
  one_set behind goals x set none free h = by (bytes_eq x name) refl
    where
      here : goals_with goals x set ≡ before ++ goals_with ((name, h.own) ∷ h.rest) x set
      here = ap (λ (l : Goals). goals_with l x set) h.whole ∙ pass before ((name, h.own) ∷ h.rest) x set none

      by : (b : Bool) → bytes_eq x name ≡ b → IsLater behind (goals_with goals x set)
      by true is = record {
        own = set;
        rest = h.rest;
        whole = here ∙ rw is (ap (λ (y : List ℕ). before ++ (y, set) ∷ h.rest) (same_text x name (sym is)));
        same = h.same;
      }
      by false is = record { own = h.own; rest = goals_with h.rest x set; whole = here ∙ rw is refl; same = set_brings x set h.rest free ∙ h.same }

  later : (names : List (List ℕ)) (behind goals : Goals) → AllByRecursion (Lacks (keys_of before)) names → IsLater behind goals → IsLater behind (fold (with_other t limits v) goals names)
  later [] behind goals all h = h
  later (x ∷ xs) behind goals all h = later xs behind (with_other t limits v goals x) all.1 (by (is_fixed t v x) refl)
    where
      by : (b : Bool) → is_fixed t v x ≡ b → IsLater behind (cond b goals (with_goal t limits v goals x))
      by true is = h
      by false is = one_set behind goals x (goal_by_rule t limits (record v { goals = goals }) x (goal_of goals x)) all.0 is h

-- what counts, where the group's own goal stands behind these
module _ (t : GroupTable) (v : GroupView) (name : List ℕ) (n : ℕ) where
  place : (before : Goals) (own : ℕ) (rest : Goals) → Lacks (keys_of before) name → position_or_len (is_entry_of name) (before ++ (name, own) ∷ rest) ≡ length before
  place [] own rest h = rw (texts_pass name name refl) refl
  place (e ∷ before) own rest h = rw h.0 (ap (λ (k : ℕ). 1 + k) (place before own rest h.1) ∙ omega (arith, add-one (length before)))

  counts : (before : Goals) (own : ℕ) (rest : Goals) → Lacks (keys_of before) name → v.goals ≡ before ++ (name, own) ∷ rest
      → counted t v name n ≡ flat_map (brought t n) before ++ flat_map (brought_fixed t v n) rest
  unfolding counted
  counts before own rest none is =
      let at : position_or_len (is_entry_of name) (before ++ (name, own) ∷ rest) ≡ length before = place before own rest none in
      ap (λ (l : Goals). flat_map (brought t n) (before_first (is_entry_of name) l) ++ flat_map (brought_fixed t v n) (after_first (is_entry_of name) l)) is
      ∙ (λ i. flat_map (brought t n) (take (at i) (before ++ (name, own) ∷ rest)) ++ flat_map (brought_fixed t v n) (drop (at i + 1) (before ++ (name, own) ∷ rest)))
      ∙ (λ i. flat_map (brought t n) (take-append_seam before ((name, own) ∷ rest) i) ++ flat_map (brought_fixed t v n) (drop-append-add before ((name, own) ∷ rest) 1 i))

module _ (t : GroupTable) (v w : GroupView) (n : ℕ) (ground : SharesGround t v w) where
  pub same_fixed : (x : List ℕ) → is_fixed t w x ≡ is_fixed t v x
  unfolding is_fixed
  same_fixed x = ap (λ (b : Bool). is_suspended (named t.groups x) || b) (ground.failed x)

  same_bring : (d : Goals) → flat_map (brought_fixed t w n) d ≡ flat_map (brought_fixed t v n) d
  same_bring [] = refl
  same_bring (e ∷ d) = λ i. cond (has e.1 n && same_fixed e.0 i) (factors_of (named t.groups e.0)) [] ++ same_bring d i

-- The turn of the group, and the decided goals.
module _ (t : GroupTable) (limits : List Limit) (v w : GroupView) (name : List ℕ) (g : Group) (n : ℕ) (goals : Goals) (behind : List (List ℕ)) (split : IsSplit (name ∷ behind) name goals)
    (ground : SharesGround t v w) (decided : w.goals ≡ fold (with_other t limits v) goals (name ∷ behind)) where
  abbrev turn : GroupView
  turn = record v { goals = goals }

  fixed_at_turn : (x : List ℕ) → is_fixed t turn x ≡ is_fixed t v x
  unfolding is_fixed is_stop_failed
  fixed_at_turn x = refl

  bring_at_turn : (d : Goals) → flat_map (brought_fixed t turn n) d ≡ flat_map (brought_fixed t v n) d
  bring_at_turn [] = refl
  bring_at_turn (e ∷ d) = λ i. cond (has e.1 n && fixed_at_turn e.0 i) (factors_of (named t.groups e.0)) [] ++ bring_at_turn d i

  after : IsLater t limits v name n split.before split.behind (fold (with_other t limits v) goals (name ∷ behind))
  after = later t limits v name n split.before (name ∷ behind) split.behind goals split.lacking (record { own = split.own; rest = split.behind; whole = split.whole; same = refl })

  same_counted : counted t w name n ≡ counted t turn name n
  same_counted =
      counts t w name n split.before after.own after.rest split.lacking.0 (decided ∙ after.whole)
      ∙ ap (λ (l : List Factor). flat_map (brought t n) split.before ++ l) (same_bring t v w n ground after.rest ∙ after.same ∙ sym (bring_at_turn split.behind))
      ∙ sym (counts t turn name n split.before split.own split.behind split.lacking.0 split.whole)

  pub same_load : passed_limit t limits w name g n ≡ passed_limit t limits turn name g n
  unfolding passed_limit
  same_load = ap (λ (l : List Factor). option_map (λ x. x.name) (first_over_of limits n l g.factors)) same_counted
