-- The call that comes first is an allowed one.
use Rattle.std.proofs.Common.{◌≡◌, ℕ, Bool, true, false, cond, List, [], ◌∷◌, Option, None, Some, fold, refl}
use Rattle.cl_base.specs.declared.method.Method.{Method}
use Rattle.cl_base.specs.declared.method.Method.TheVariants.{PrenetStart, Start, MonitorStart, MonitorStop, Stop, PostnetStop}
use Rattle.load_limits.specs.declared.limits.Limit.{Limit}
use Rattle.rg_props.specs.Table.{GroupTable}
use Rattle.rg_props.specs.Values.{or_else}
use Rattle.rg_view.specs.declared.view.GroupView.{GroupView}
use Rattle.rt_types.specs.Fields.{TypeFields}
use Rattle.sequencer.specs.Allowed.{is_allowed}
use Rattle.sequencer.specs.Fields.{OutlookFields}
use Rattle.sequencer.specs.Next.{call_of, down_call, next_call_of, up_call, with_down, with_up}

module _ (t : GroupTable) (types : List (List ℕ × TypeFields)) (limits : List Limit) (v : GroupView) (o : OutlookFields) (n : ℕ) where
  -- what was found is allowed
  abbrev pub IsFound : Option (List ℕ × Method) → Type 0
  IsFound None = Unit {0}
  IsFound (Some call) = is_allowed t types limits v o n call.0 call.1 ≡ true

  one : (name : List ℕ) (m : Method) → IsFound (call_of t types limits v o n name m)
  one name m = by (is_allowed t types limits v o n name m) refl
    where
      by : (b : Bool) → is_allowed t types limits v o n name m ≡ b → IsFound (cond b (Some (name, m)) None)
      by true p = p
      by false p = tt

  either : (a b : Option (List ℕ × Method)) → IsFound a → IsFound b → IsFound (or_else a b)
  either None b p q = q
  either (Some a) b p q = p

  down : (name : List ℕ) → IsFound (down_call t types limits v o n name)
  down name = either _ _ (one name MonitorStop) (either _ _ (one name Stop) (one name PostnetStop))

  up : (name : List ℕ) → IsFound (up_call t types limits v o n name)
  up name = either _ _ (one name PrenetStart) (either _ _ (one name Start) (one name MonitorStart))

  downs : (order : List (List ℕ)) (found : Option (List ℕ × Method)) → IsFound found → IsFound (fold (with_down t types limits v o n) found order)
  downs [] found p = p
  downs (r ∷ rs) found p = downs rs (with_down t types limits v o n found r) (either (down_call t types limits v o n r) found (down r) p)

  ups : (order : List (List ℕ)) (found : Option (List ℕ × Method)) → IsFound found → IsFound (fold (with_up t types limits v o n) found order)
  ups [] found p = p
  ups (r ∷ rs) found p = ups rs (with_up t types limits v o n found r) (either found (up_call t types limits v o n r) p (up r))

  pub first_is_allowed : (order : List (List ℕ)) → IsFound (next_call_of t types limits v o order n)
  unfolding next_call_of
  first_is_allowed order = either _ _ (downs order None tt) (ups order None tt)
