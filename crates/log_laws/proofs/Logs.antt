-- Each update of a list that is not bad was not refused and made no cycle, so what is kept by such ones is so of the whole.
use Rattle.std.proofs.Common.{◌≡◌, ℕ, Bool, true, false, cond, not, ◌&&◌, List, [], ◌∷◌, Option, Some, None, Result, Ok, Err, refl, sym, ap, subst, ◌∙◌, option_map, option_and_then}
use Rattle.std.proofs.lemmas.Bool.{and_parts}
use Rattle.std.specs.List.{IsDistinct}
use Rattle.std.specs.Option.{is_some}
use Rattle.std.specs.Str.{bytes_eq}
use Rattle.cl_base.specs.declared.header.Header.{Header}
use Rattle.cl_base.specs.declared.refusal.Refusal.{Refusal}
use Rattle.cl_base.specs.declared.refusal.Refusal.TheVariants.{Cycle}
use Rattle.rg_deps.specs.Laws.{ChosenIsOrder, CycleIsClosed, CycleIsThere}
use Rattle.rg_deps.specs.Orderings.{first_cycle}
use Rattle.ccr_tables.specs.declared.command.AdminCommand.{AdminCommand}
use Rattle.ccr_tables.specs.declared.command.AdminCommand.TheVariants.{Change, Act, Status, Rows}
use Rattle.ccr_tables.specs.declared.update.Update.{Update}
use Rattle.ccr_tables.specs.Changes.{applied, changed, unless_refused, updated}
use Rattle.ccr_tables.specs.Refusals.{refusal_of}
use Rattle.ccr_tables.specs.State.{ConfigState, first_config}
use Rattle.update_words.specs.Words.{words_of}
use Rattle.admin_words.specs.declared.error.WordError.{WordError}
use Rattle.admin_words.specs.Commands.{command_of}
use Rattle.admin_commands.specs.Orders.{cycle, cycle_of, makes_order}
use Rattle.command_laws.specs.Laws.{AcceptedUpdatesHold}
use Rattle.order_laws.specs.Laws.{GraphsHaveThingsAsTargets}
use Rattle.update_log.specs.Logs.{config_after, may_come, with_command, with_text, with_texts, with_update}
use Rattle.log_laws.specs.Laws.{AcceptedUpdatesLeaveNoCycle, LogsHaveNoCycle, LogsNameWhatIsThere, NamesAreThere}
use Rattle.log_laws.proofs.Alls.{each}
use Rattle.log_laws.proofs.Downward.{none_where_names_fall}
use Rattle.log_laws.proofs.Keeping.{names_are_kept}
use Rattle.log_laws.proofs.Ordering.{names_fall_on}
use Rattle.log_laws.proofs.Ranked.{Kept, names_fall}

-- an update that may come is not refused, and makes no cycle
record MayCome (s : ConfigState) (u : Update) : Type 0 where
  applied : refusal_of s u ≡ None
  order : makes_order s u ≡ true → first_cycle (changed s u).groups ≡ None

no_cycle : (s : ConfigState) (u : Update) → cycle s u ≡ None → makes_order s u ≡ true → first_cycle (changed s u).groups ≡ None
unfolding cycle_of
no_cycle s u none orders = by (first_cycle (changed s u).groups) (sym (ap (λ (b : Bool). cond b (cycle_of (changed s u).groups) None) orders) ∙ none)
  where
    by : (found : Option (List (List ℕ))) → option_map (λ names. Cycle names) found ≡ None → found ≡ None
    by None h = refl
    by (Some names) h = cc h

none_told : {X : Type 0} (o : Option X) → not (is_some o) ≡ true → o ≡ None
none_told None h = refl
none_told (Some x) h = cc h

comes : (s : ConfigState) (text : List ℕ) (u : Update) → may_come s text u ≡ true → MayCome s u
comes s text u may =
    let both = and_parts (bytes_eq (words_of u) text && not (is_some (cycle s u))) (not (is_some (refusal_of s u))) may in
    let first = and_parts (bytes_eq (words_of u) text) (not (is_some (cycle s u))) both.0 in
    record { applied = none_told (refusal_of s u) both.1; order = no_cycle s u (none_told (cycle s u) first.1) }

module _ (Q : ConfigState → Type 0) (step : (s : ConfigState) (u : Update) → MayCome s u → Q s → Q (updated s u)) where
  -- what is kept by each update is so after all of them
  on_update : (s next : ConfigState) (text : List ℕ) (u : Update) → with_update s text u ≡ Some next → Q s → Q next
  on_update s next text u is own = by (may_come s text u) refl is
    where
      by : (b : Bool) → may_come s text u ≡ b → cond b (Some (applied s u)) None ≡ Some next → Q next
      by false may is = cc is
      by true may is =
          let m = comes s text u may in
          let same : applied s u ≡ next = cc is in
          subst Q (ap (unless_refused s u) (sym m.applied) ∙ same) (step s u m own)

  on_command : (s next : ConfigState) (text : List ℕ) (r : Result AdminCommand WordError) → with_command s text r ≡ Some next → Q s → Q next
  on_command s next text (Ok (Change u)) is own = on_update s next text u is own
  on_command s next text (Ok (Act a)) is own = cc is
  on_command s next text (Ok (Status q)) is own = cc is
  on_command s next text (Ok (Rows name)) is own = cc is
  on_command s next text (Err e) is own = cc is

  on_texts : (texts : List (List ℕ)) (s last : ConfigState) → with_texts s texts ≡ Some last → Q s → Q last
  on_texts [] s last is own = let same : s ≡ last = cc is in subst Q same own
  on_texts (text ∷ texts) s last is own = by (with_text s text) refl is (on_texts texts)
    where
      by : (o : Option ConfigState) → with_text s text ≡ o → option_and_then (λ next. with_texts next texts) o ≡ Some last
          → ((next last : ConfigState) → with_texts next texts ≡ Some last → Q next → Q last) → Q last
      by None found is ih = cc is
      by (Some next) found is ih = ih next last is (on_command s next text (command_of s.groups.version text) found own)

-- the count of a table changes no name
counted : (s : ConfigState) (u : Update) → NamesAreThere (changed s u) → NamesAreThere (updated s u)
counted s u n = record { groups = n.groups; resources = n.resources; addresses = n.addresses; types_once = n.types_once; groups_once = n.groups_once; resources_once = n.resources_once; addresses_once = n.addresses_once }

first_names : (h : Header) → NamesAreThere (first_config h)
unfolding IsDistinct
first_names h = record { groups = tt; resources = tt; addresses = tt; types_once = tt; groups_once = tt; resources_once = tt; addresses_once = tt }

pub logs_name_what_is_there : LogsNameWhatIsThere
unfolding config_after
logs_name_what_is_there h texts s is = on_texts NamesAreThere (λ t u m n. counted t u (names_are_kept t u n m.applied)) texts (first_config h) s is (first_names h)

kept_of : (s : ConfigState) → NamesAreThere s → Kept s.groups
kept_of s n = record {
  groups = n.groups;
  of_group = each _ _ (λ _ names. names.0) s.groups.resources n.resources;
  groups_once = n.groups_once;
  resources_once = n.resources_once;
  needed = each _ _ (λ _ names. names.2) s.groups.resources n.resources;
}

-- each name is there, and nothing comes after itself
record Sound (s : ConfigState) : Type 0 where
  names : NamesAreThere s
  order : first_cycle s.groups ≡ None

module _ (is_order : ChosenIsOrder) (are_there : CycleIsThere) (are_closed : CycleIsClosed) (targets : GraphsHaveThingsAsTargets) where
  still_none : (s : ConfigState) (u : Update) → Sound s → MayCome s u → first_cycle (changed s u).groups ≡ None
  still_none s u h m = by (makes_order s u) refl
    where
      by : (b : Bool) → makes_order s u ≡ b → first_cycle (changed s u).groups ≡ None
      by true orders = m.order orders
      by false orders =
          none_where_names_fall (changed s u).groups (names_are_kept s u h.names m.applied).resources_once
          (names_fall_on s u h.names m.applied orders (names_fall s.groups (kept_of s h.names) is_order h.order))
          (targets (changed s u).groups) are_there are_closed

  sound : (h : Header) (texts : List (List ℕ)) (s : ConfigState) → config_after h texts ≡ Some s → Sound s
  unfolding config_after
  sound h texts s is =
      on_texts Sound (λ t u m k. record { names = counted t u (names_are_kept t u k.names m.applied); order = still_none t u k m }) texts (first_config h) s is
      (record { names = first_names h; order = refl })

  pub logs_have_no_cycle : LogsHaveNoCycle
  logs_have_no_cycle h texts s is = (sound h texts s is).order

  pub accepted_leave_none : AcceptedUpdatesHold → AcceptedUpdatesLeaveNoCycle
  accepted_leave_none hold h texts s is v members held length u answer =
      let a = hold s v members held length u answer in
      ap (λ (r : Option Refusal). first_cycle (unless_refused s u r).groups) a.applied
      ∙ still_none s u (sound h texts s is) (record { applied = a.applied; order = a.order })
