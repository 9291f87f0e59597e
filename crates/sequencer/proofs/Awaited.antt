-- Calls ask of an outlook no more than what one that shows the same has: of the places that may come up those of weak targets alone.
use Rattle.std.proofs.Common.{◌≡◌, ℕ, Bool, true, false, cond, not, ◌&&◌, ◌||◌, List, [], ◌∷◌, ◌++◌, Option, None, Some, fold, refl, sym, ap, ◌∙◌}
use Rattle.std.proofs.Math.Bool.{and-false}
use Rattle.std.proofs.lemmas.Bool.{and_from, and_parts, or_left, or_right}
use Rattle.std.proofs.lemmas.List.Folds.{list_any-append}
use Rattle.std.specs.List.{flat_map, list_all, list_any}
use Rattle.std.specs.Map.{lookup}
use Rattle.std.specs.Str.{bytes_eq}
use Rattle.cl_base.proofs.NameLemmas.{texts_pass}
use Rattle.cl_base.specs.declared.method.Method.{Method}
use Rattle.cl_base.specs.declared.method.Method.TheVariants.{PrenetStart, Start, MonitorStart, MonitorCheck, MonitorStop, Stop, PostnetStop, Validate, Init, Fini, Boot, Update}
use Rattle.cl_base.specs.Sets.{has}
use Rattle.load_limits.specs.declared.limits.Limit.{Limit}
use Rattle.placement.specs.Resources.{is_stop_failed}
use Rattle.rg_props.specs.declared.group.Group.{Group}
use Rattle.rg_props.specs.declared.group.Resource.{Resource}
use Rattle.rg_props.specs.Affinities.{is_close}
use Rattle.rg_props.specs.Lookups.{named}
use Rattle.rg_props.specs.Settings.{has_name}
use Rattle.rg_props.specs.Table.{GroupTable}
use Rattle.rg_props.specs.Values.{or_else}
use Rattle.rg_view.specs.declared.states.ResourceAt.{ResourceAt}
use Rattle.rg_view.specs.declared.view.GroupView.{GroupView}
use Rattle.rg_view.specs.States.{state_of}
use Rattle.rt_types.specs.Fields.{TypeFields}
use Rattle.rt_types.specs.Types.{type_of}
use Rattle.sequencer.specs.declared.direction.Direction.TheVariants.{Up}
use Rattle.sequencer.specs.Allowed.{has_up_call, is_allowed, is_callable, is_callable_in, may_call, offers}
use Rattle.sequencer.specs.Fields.{OutlookFields}
use Rattle.sequencer.specs.Leaving.{has_reason}
use Rattle.sequencer.specs.Next.{call_of, down_call, next_call_of, up_call}
use Rattle.sequencer.specs.Resting.{follows_one, has_one, is_one_in, leads_there, rests_on}
use Rattle.sequencer.specs.Scopes.{any_in_scope}
use Rattle.sequencer.specs.Shown.{Shows, awaited}
use Rattle.sequencer.specs.Standing.{is_ordered}
use Rattle.sequencer.specs.Starting.{are_suited, has_groups, has_room, is_avoided, is_coming, is_supported, may_begin, may_begin_in, waits}
use Rattle.sequencer.specs.Stopping.{has_follower, is_awaited, is_held}
use Rattle.sequencer.proofs.Staying.{reason_same}

-- On no name at all nothing rests.

none_passes : {X : Type 0} (p : X → Bool) (xs : List X) → ((x : X) → p x ≡ false) → list_any p xs ≡ false
none_passes p [] none = refl
none_passes p (x ∷ xs) none = λ i. none x i || none_passes p xs none i

module _ (t : GroupTable) where
  none_led : (g : Option Group) → follows_one t [] g ≡ false
  unfolding has_one
  none_led None = refl
  none_led (Some g) =
      none_passes (leads_there t []) g.affinities
      (λ a. ap (λ b. is_close a.affinity && b) (none_passes (is_one_in [] a.group) t.resources (λ e. and-false (bytes_eq e.1.group a.group))) ∙ and-false (is_close a.affinity))

  rests_on_none : (r : Resource) → rests_on t [] r ≡ false
  unfolding rests_on
  rests_on_none r i =
      none_passes (λ y. has_name y []) r.strong (λ y. refl) i || none_passes (λ y. has_name y []) r.offline_restart (λ y. refl) i || none_led (named t.groups r.group) i

-- The weak targets of a resource are among those of all.

all_same : {X : Type 0} (q f g : X → Bool) (xs : List X) → ((x : X) → q x ≡ true → f x ≡ g x) → list_all q xs ≡ true → list_any f xs ≡ list_any g xs
all_same q f g [] same all = refl
all_same q f g (x ∷ xs) same all =
    let parts : _ = and_parts (q x) (list_all q xs) all in
    λ i. same x parts.0 i || all_same q f g xs same parts.1 i

all_within : (names xs : List (List ℕ)) → ((y : List ℕ) → has_name y xs ≡ true → has_name y names ≡ true) → list_all (λ y. has_name y names) xs ≡ true
all_within names [] within = refl
all_within names (x ∷ xs) within =
    and_from (has_name x names) (list_all (λ y. has_name y names) xs)
    (within x (or_left (bytes_eq x x) (has_name x xs) (texts_pass x x refl)))
    (all_within names xs (λ y is. within y (or_right (bytes_eq x y) (has_name y xs) is)))

in_either : (y : List ℕ) (xs ys : List (List ℕ)) → has_name y (xs ++ ys) ≡ (has_name y xs || has_name y ys)
in_either y xs ys = list_any-append (λ n. bytes_eq n y) xs ys

abbrev weak_of : List ℕ × Resource → List (List ℕ)
weak_of e = e.1.weak

targets_among : (name : List ℕ) (r : Resource) (es : List (List ℕ × Resource)) (y : List ℕ) → lookup (bytes_eq name) es ≡ Some r → has_name y r.weak ≡ true
    → has_name y (flat_map weak_of es) ≡ true
targets_among name r [] y found is = absurd (let bad : None ≡ Some r = found in cc)
targets_among name r (e ∷ es) y found is = in_either y e.1.weak (flat_map weak_of es) ∙ by (bytes_eq name e.0) (λ rest. targets_among name r es y rest is) found
  where
    by : (b : Bool) → (lookup (bytes_eq name) es ≡ Some r → has_name y (flat_map weak_of es) ≡ true) → cond b (Some e.1) (lookup (bytes_eq name) es) ≡ Some r → (has_name y e.1.weak || has_name y (flat_map weak_of es)) ≡ true
    by true behind same = or_left (has_name y e.1.weak) (has_name y (flat_map weak_of es)) (let one : e.1 ≡ r = cc in ap (λ (x : Resource). has_name y x.weak) one ∙ is)
    by false behind rest = or_right (has_name y e.1.weak) (has_name y (flat_map weak_of es)) (behind rest)

all_awaited : (t : GroupTable) (name : List ℕ) (r : Resource) → named t.resources name ≡ Some r → list_all (λ y. has_name y (awaited t)) r.weak ≡ true
all_awaited t name r found = all_within (awaited t) r.weak (λ y is. targets_among name r t.resources y found is)

module _ (t : GroupTable) (limits : List Limit) (v : GroupView) (o f : OutlookFields) (shows : Shows t o f) where
  reason_shown : (name : List ℕ) (r : Resource) (n : ℕ) → has_reason Up t v o.members o.for_up name r n ≡ has_reason Up t v f.members f.for_up name r n
  reason_shown name r n =
      ap (λ ms. has_reason Up t v ms o.for_up name r n) shows.members
      ∙ reason_same Up t v v.outstanding f.members [] o.for_up f.for_up (λ y m out. refl) (λ y m out. shows.for_up y m) name r n (rests_on_none t r)

  coming_shown : (group : List ℕ) (n : ℕ) (target : List ℕ) → has_name target (awaited t) ≡ true → is_coming t v o group n target ≡ is_coming t v f group n target
  coming_shown group n target is i = any_in_scope t (shows.members i) group n target (λ m. is_ordered v target m || shows.rising target m is i)

  -- Of a resource's targets weak ones alone are asked whether they may come up.
  weak_targets_suffice : (r : Resource) (n : ℕ) → list_all (λ y. has_name y (awaited t)) r.weak ≡ true → waits t v o r n ≡ waits t v f r n
  unfolding waits
  weak_targets_suffice r n all = all_same (λ y. has_name y (awaited t)) (is_coming t v o r.group n) (is_coming t v f r.group n) r.weak (coming_shown r.group n) all

  module _ (name : List ℕ) (r : Resource) (n : ℕ) (s : ResourceAt) (all : list_all (λ y. has_name y (awaited t)) r.weak ≡ true) where
    begin_in_shown : (g : Option Group) → may_begin_in t limits v o name r n s g ≡ may_begin_in t limits v f name r n s g
    begin_in_shown None = refl
    begin_in_shown (Some g) = λ i.
        (r.enabled && not s.faulted && not (reason_shown name r n i)) && has_room t limits v (shows.members i) r.group g n && is_supported t v (shows.members i) r n
        && has_groups t v (shows.members i) g && are_suited t v g n && not (is_avoided t v r.group n) && not (weak_targets_suffice r n all i)

    begin_shown : may_begin t limits v o name r n s ≡ may_begin t limits v f name r n s
    unfolding may_begin
    begin_shown = begin_in_shown (named t.groups r.group)

    call_shown : (net : Bool) (m : Method) → may_call t limits v o name r n s net m ≡ may_call t limits v f name r n s net m
    call_shown net MonitorStop = λ i. s.mon && (shows.for_down name n i || not r.monitored)
    call_shown net Stop = λ i.
        s.run && not s.mon && shows.for_down name n i
        && not (is_held t v (shows.members i) name n) && not (has_follower t v r.group n) && not (is_awaited t v (shows.members i) r.group n)
    call_shown net PostnetStop = λ i. s.pre && not s.run && not s.mon && shows.for_down name n i
    call_shown net PrenetStart = λ i. not s.pre && not s.run && begin_shown i
    call_shown net Start = λ i. not s.run && (s.pre || not net) && begin_shown i
    call_shown net MonitorStart = λ i. s.run && not s.mon && r.monitored && not s.monitor_failed && not (reason_shown name r n i)
    call_shown net MonitorCheck = refl
    call_shown net Validate = refl
    call_shown net Init = refl
    call_shown net Fini = refl
    call_shown net Boot = refl
    call_shown net Update = refl

module _ (t : GroupTable) (types : List (List ℕ × TypeFields)) (limits : List Limit) (v : GroupView) (o f : OutlookFields) (shows : Shows t o f) where
  callable_shown : (n : ℕ) (name : List ℕ) (r : Resource) (m : Method) → named t.resources name ≡ Some r → is_callable t types limits v o n name r m ≡ is_callable t types limits v f n name r m
  unfolding is_callable
  callable_shown n name r m found i =
      has v.members n && offers (type_of types r.resource_type) m && not (is_stop_failed t v r.group)
      && call_shown t limits v o f shows name r n (state_of v.resources name n) (all_awaited t name r found) (offers (type_of types r.resource_type) PrenetStart) m i

  pub allowed_shown : (n : ℕ) (name : List ℕ) (m : Method) → is_allowed t types limits v o n name m ≡ is_allowed t types limits v f n name m
  unfolding is_allowed
  allowed_shown n name m = by (named t.resources name) refl
    where
      by : (found : Option Resource) → found ≡ named t.resources name → is_callable_in t types limits v o n name m found ≡ is_callable_in t types limits v f n name m found
      by None is = refl
      by (Some r) is = callable_shown n name r m (sym is)

  pub up_call_shown : (n : ℕ) (name : List ℕ) → has_up_call t types limits v o n name ≡ has_up_call t types limits v f n name
  up_call_shown n name i = allowed_shown n name PrenetStart i || allowed_shown n name Start i || allowed_shown n name MonitorStart i

  -- The first call is the same.
  pub next_shown : (order : List (List ℕ)) (n : ℕ) → next_call_of t types limits v o order n ≡ next_call_of t types limits v f order n
  unfolding next_call_of
  next_shown order n i = or_else (fold (λ found name. or_else (down name i) found) None order) (fold (λ found name. or_else found (up name i)) None order)
    where
      call : (name : List ℕ) (m : Method) → call_of t types limits v o n name m ≡ call_of t types limits v f n name m
      call name m = ap (λ (b : Bool). if_so name m b) (allowed_shown n name m)
        where
          if_so : List ℕ → Method → Bool → Option (List ℕ × Method)
          if_so name m b = cond b (Some (name, m)) None

      down : (name : List ℕ) → down_call t types limits v o n name ≡ down_call t types limits v f n name
      down name i = or_else (call name MonitorStop i) (or_else (call name Stop i) (call name PostnetStop i))

      up : (name : List ℕ) → up_call t types limits v o n name ≡ up_call t types limits v f n name
      up name i = or_else (call name PrenetStart i) (or_else (call name Start i) (call name MonitorStart i))
