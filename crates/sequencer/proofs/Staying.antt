-- What must go down changes only where something changes of what it rests on.
use Rattle.std.proofs.Common.{◌≡◌, ℕ, Bool, true, false, not, ◌&&◌, ◌||◌, List, [], ◌∷◌, Option, None, Some, refl}
use Rattle.std.proofs.lemmas.Bool.{or_parts}
use Rattle.std.specs.List.{list_any}
use Rattle.std.specs.Str.{bytes_eq}
use Rattle.rg_props.specs.declared.affinity.Affine.{Affine}
use Rattle.rg_props.specs.declared.group.Group.{Group}
use Rattle.rg_props.specs.declared.group.Resource.{Resource}
use Rattle.rg_props.specs.Affinities.{is_close}
use Rattle.rg_props.specs.Lookups.{named}
use Rattle.rg_props.specs.Settings.{has_name}
use Rattle.rg_props.specs.Table.{GroupTable}
use Rattle.rg_view.specs.declared.name_at.NameAt.{NameAt}
use Rattle.rg_view.specs.declared.orders.Outstanding.{Outstanding}
use Rattle.rg_view.specs.declared.view.GroupView.{GroupView}
use Rattle.rg_view.specs.Marks.{is_marked}
use Rattle.rg_view.specs.States.{state_of}
use Rattle.sequencer.specs.declared.direction.Direction.{Direction}
use Rattle.sequencer.specs.Leaving.{counts_online, draws, follows, goes_in, has_going, has_lost, has_reason, has_shaken, is_drawn, is_lost, is_outside, is_shaken, must_go, stays}
use Rattle.sequencer.specs.Resting.{follows_one, has_one, is_one_in, leads_there, rests_on, targets_one}
use Rattle.sequencer.specs.Scopes.{any_in_scope}
use Rattle.sequencer.specs.Standing.{has_flag}

-- where none passes one test, and two others are the same of all that do not pass it, some passes the one of these or the other
pub any_kept : {X : Type 0} (q f g : X → Bool) (xs : List X) → ((x : X) → q x ≡ false → f x ≡ g x) → list_any q xs ≡ false → list_any f xs ≡ list_any g xs
any_kept q f g [] same none = refl
any_kept q f g (x ∷ xs) same none =
    let parts : _ = or_parts (q x) (list_any q xs) none in
    λ i. same x parts.0 i || any_kept q f g xs same parts.1 i

-- Two views that differ in outstanding orders alone, and two lists of places, which agree on all but these names.
module _ (d : Direction) (t : GroupTable) (v : GroupView) (orders : List (Option Outstanding)) (members : List ℕ) (names : List (List ℕ)) (a b : List NameAt)
    (counts : (y : List ℕ) (m : ℕ) → has_name y names ≡ false → counts_online d v y m ≡ counts_online d (record v { outstanding = orders }) y m)
    (marks : (y : List ℕ) (m : ℕ) → has_name y names ≡ false → is_marked a y m ≡ is_marked b y m) where
  abbrev w : GroupView
  w = record v { outstanding = orders }

  stays_same : (y : List ℕ) (m : ℕ) → has_name y names ≡ false → stays d v a y m ≡ stays d w b y m
  stays_same y m out i = counts y m out i && not (marks y m out i)

  lost_same : (group : List ℕ) (n : ℕ) (y : List ℕ) → has_name y names ≡ false → is_lost d t v members a group n y ≡ is_lost d t w members b group n y
  lost_same group n y out i = not (any_in_scope t members group n y (λ m. stays_same y m out i))

  shaken_same : (group : List ℕ) (n : ℕ) (y : List ℕ) → has_name y names ≡ false → is_shaken t members a group n y ≡ is_shaken t members b group n y
  shaken_same group n y out i = any_in_scope t members group n y (λ m. marks y m out i)

  goes_same : (group : List ℕ) (n : ℕ) (e : List ℕ × Resource) → is_one_in names group e ≡ false → goes_in a group n e ≡ goes_in b group n e
  goes_same group n e out = by (bytes_eq e.1.group group) out
    where
      by : (there : Bool) → (there && has_name e.0 names) ≡ false → (there && is_marked a e.0 n) ≡ (there && is_marked b e.0 n)
      by true out = marks e.0 n out
      by false out = refl

  going_same : (group : List ℕ) (n : ℕ) → has_one t names group ≡ false → has_going t a group n ≡ has_going t b group n
  unfolding has_one has_going
  going_same group n out = any_kept (is_one_in names group) (goes_in a group n) (goes_in b group n) t.resources (goes_same group n) out

  drawn_same : (n : ℕ) (x : Affine) → leads_there t names x ≡ false → is_drawn t a n x ≡ is_drawn t b n x
  drawn_same n x out = by (is_close x.affinity) out
    where
      by : (close : Bool) → (close && has_one t names x.group) ≡ false → (close && has_going t a x.group n) ≡ (close && has_going t b x.group n)
      by true out = going_same x.group n out
      by false out = refl

  draws_same : (n : ℕ) (g : Option Group) → follows_one t names g ≡ false → draws t a n g ≡ draws t b n g
  draws_same n None out = refl
  draws_same n (Some g) out = any_kept (leads_there t names) (is_drawn t a n) (is_drawn t b n) g.affinities (drawn_same n) out

  pub reason_same : (name : List ℕ) (r : Resource) (n : ℕ) → rests_on t names r ≡ false → has_reason d t v members a name r n ≡ has_reason d t w members b name r n
  unfolding has_reason has_lost has_shaken follows rests_on
  reason_same name r n out =
      let last : _ = or_parts (targets_one names r.strong || targets_one names r.offline_restart) (follows_one t names (named t.groups r.group)) out in
      let both : _ = or_parts (targets_one names r.strong) (targets_one names r.offline_restart) last.0 in
      let strong : _ = any_kept (λ y. has_name y names) (is_lost d t v members a r.group n) (is_lost d t w members b r.group n) r.strong (lost_same r.group n) both.0 in
      let restart : _ = any_kept (λ y. has_name y names) (is_lost d t v members a r.group n) (is_lost d t w members b r.group n) r.offline_restart (lost_same r.group n) both.1 in
      let shaken : _ = any_kept (λ y. has_name y names) (is_shaken t members a r.group n) (is_shaken t members b r.group n) r.offline_restart (shaken_same r.group n) both.1 in
      let drawn : _ = draws_same n (named t.groups r.group) last.1 in
      λ i. is_outside v r n || not r.enabled || is_marked v.restarting name n || (strong i || restart i) || shaken i || drawn i

  -- the places of what rests on none of these names stay as they are
  pub places_stay : (name : List ℕ) (r : Resource) (n : ℕ) → rests_on t names r ≡ false → must_go d t v members a name r n ≡ must_go d t w members b name r n
  places_stay name r n out i = has_flag (state_of v.resources name n) && reason_same name r n out i
