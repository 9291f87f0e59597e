-- Where no refusal is told, none fits.
use Rattle.std.proofs.Common.{◌≡◌, ℕ, ◌≤◌, nat_lt, Bool, true, false, cond, List, Option, Some, None, Result, Ok, Err, refl, sym, ap, ◌∙◌, arith}
use Rattle.std.proofs.lemmas.Bool.{ltb-false}
use Rattle.std.specs.Option.{option_map}
use Rattle.cl_base.specs.declared.refusal.Refusal.{Refusal}
use Rattle.cl_base.specs.declared.refusal.Refusal.TheVariants.{Cycle}
use Rattle.cl_base.specs.declared.refusal.Thing.{Thing}
use Rattle.quorum_votes.specs.Tables.{VoteTable}
use Rattle.quorum_votes.specs.Votes.{held_of, needed_of}
use Rattle.rg_deps.specs.Orderings.{first_cycle}
use Rattle.rg_props.specs.Values.{or_else}
use Rattle.rg_view.specs.declared.view.GroupView.{GroupView}
use Rattle.ccr_tables.specs.declared.command.AdminCommand.TheVariants.{Change}
use Rattle.ccr_tables.specs.declared.update.Update.{Update}
use Rattle.ccr_tables.specs.declared.update.Update.TheVariants.{RegisterType, UnregisterType, CreateGroup, DeleteGroup, SetGroup, ChangeGroup, SwitchGroup, CreateResource, DeleteResource, SetResource, ChangeResource, Device, NodeVote, AddNode, RemoveNode, CreateLimit, DeleteLimit, CreateAddress, DeleteAddress, SetWeights}
use Rattle.ccr_tables.specs.Changes.{changed}
use Rattle.ccr_tables.specs.Refusals.{exists_in, first_fit, is_bad_property_in, is_bad_setting_in, is_same_in, refusal_of, unknown_in, user_in}
use Rattle.ccr_tables.specs.State.{ConfigState}
use Rattle.admin_commands.specs.declared.accepted.Accepted.{Accepted}
use Rattle.admin_commands.specs.declared.accepted.Accepted.TheVariants as accepted
use Rattle.admin_commands.specs.declared.error.CheckError.{CheckError}
use Rattle.admin_commands.specs.Answers.{answer_to, late_refusal, refusal_in, unless_refused}
use Rattle.admin_commands.specs.Cases.{before, is_below, number_of, where_so}
use Rattle.admin_commands.specs.Managing.{managed, not_listed, too_many, unmanaged}
use Rattle.admin_commands.specs.Orders.{cycle, cycle_of, makes_order, single}
use Rattle.admin_commands.specs.Records.{length_with, most_bytes, record_full}
use Rattle.admin_commands.specs.Standing.{is_up, still_up, up_of, wants_down}
use Rattle.admin_commands.specs.Votes.{device_not_held, lacking, lose_quorum, node_has_vote, node_is_member}
use Rattle.command_laws.specs.Laws.{changes_votes, AcceptedUpdatesHold, Holds}

first_none : {X : Type 0} (a b : Option X) → or_else a b ≡ None → a ≡ None
first_none None b h = refl
first_none (Some x) b h = cc h

second_none : {X : Type 0} (a b : Option X) → or_else a b ≡ None → b ≡ None
second_none None b h = h
second_none (Some x) b h = cc h

none_behind : (n : ℕ) (told behind : Option Refusal) → before n told behind ≡ None → behind ≡ None
none_behind n None behind h = h
none_behind n (Some r) behind h = by (nat_lt (number_of r) n) h
  where
    by : (b : Bool) → cond b (Some r) behind ≡ None → behind ≡ None
    by true h = cc h
    by false h = h

none_below : (n : ℕ) (told behind : Option Refusal) → before n told behind ≡ None → is_below told n ≡ false
none_below n None behind h = refl
none_below n (Some r) behind h = by (nat_lt (number_of r) n) h
  where
    by : (b : Bool) → cond b (Some r) behind ≡ None → b ≡ false
    by true h = cc h
    by false h = refl

-- what the configuration alone tells has a number below 17
told_early : (thing : Option Thing) (exists : Bool) (user : Option (List ℕ)) (same property setting : Bool)
    → is_below (first_fit thing exists user same property setting) 17 ≡ false → first_fit thing exists user same property setting ≡ None
told_early (Some thing) exists user same property setting h = cc h
told_early None true user same property setting h = cc h
told_early None false (Some name) same property setting h = cc h
told_early None false None true property setting h = cc h
told_early None false None false true setting h = cc h
told_early None false None false false true h = cc h
told_early None false None false false false h = refl

not_so : (b : Bool) (r : Refusal) → where_so b r ≡ None → b ≡ false
not_so true r h = cc h
not_so false r h = refl

not_told : (b : Bool) (r : Refusal) → cond b (Some r) None ≡ None → b ≡ false
not_told true r h = cc h
not_told false r h = refl

not_refused : (told : Option Refusal) (a : Accepted) → unless_refused told a ≡ Ok a → told ≡ None
not_refused None a h = refl
not_refused (Some r) a h = cc h

module _ (s : ConfigState) (u : Update) where
  no_cycle : cycle s u ≡ None → makes_order s u ≡ true → first_cycle (changed s u).groups ≡ None
  unfolding cycle_of
  no_cycle none orders = by (first_cycle (changed s u).groups) (sym (ap (λ (b : Bool). cond b told None) orders) ∙ none)
    where
      told : Option Refusal
      told = cycle_of (changed s u).groups

      by : (found : Option (List (List ℕ))) → option_map (λ names. Cycle names) found ≡ None → found ≡ None
      by None h = refl
      by (Some names) h = cc h

  room : (length : ℕ) → record_full s length u ≡ None → length_with s length u ≤ most_bytes
  room length none = ltb-false most_bytes (length_with s length u) (not_told (nat_lt most_bytes (length_with s length u)) _ none)

  is_down : (v : GroupView) (members : ℕ) → still_up s v members u ≡ None → (group : List ℕ) → wants_down s u ≡ Some group → is_up s.groups v.resources members group ≡ false
  is_down v members none group is = sym (ap (λ (g : Option (List ℕ)). up_of s.groups v members g) is) ∙ not_so (up_of s.groups v members (wants_down s u)) _ none

enough : (v : VoteTable) (members held : ℕ) → lacking v members held ≡ None → needed_of v ≤ held_of v members held
enough v members held none = ltb-false (held_of v members held) (needed_of v) (not_told (nat_lt (held_of v members held) (needed_of v)) _ none)

majority : (s : ConfigState) (members held : ℕ) (u : Update) → lose_quorum s members held u ≡ None → changes_votes u ≡ true → needed_of (changed s u).votes ≤ held_of (changed s u).votes members held
majority s members held (Device d change) none is = enough (changed s (Device d change)).votes members held none
majority s members held (NodeVote n vote) none is = enough (changed s (NodeVote n vote)).votes members held none
majority s members held (RegisterType name agent methods single failover) none is = cc is
majority s members held (UnregisterType name) none is = cc is
majority s members held (CreateGroup name nodes) none is = cc is
majority s members held (DeleteGroup name) none is = cc is
majority s members held (SetGroup name property value) none is = cc is
majority s members held (ChangeGroup name change) none is = cc is
majority s members held (SwitchGroup name nodes) none is = cc is
majority s members held (CreateResource name of_group of_type) none is = cc is
majority s members held (DeleteResource name) none is = cc is
majority s members held (SetResource name property value) none is = cc is
majority s members held (ChangeResource name change) none is = cc is
majority s members held (AddNode n) none is = cc is
majority s members held (RemoveNode n) none is = cc is
majority s members held (CreateLimit n limit soft hard) none is = cc is
majority s members held (DeleteLimit n limit) none is = cc is
majority s members held (CreateAddress name of_group policy) none is = cc is
majority s members held (DeleteAddress name) none is = cc is
majority s members held (SetWeights name weights) none is = cc is

module _ (s : ConfigState) (v : GroupView) (members held length : ℕ) (u : Update) where
  abbrev told : Option Refusal
  told = refusal_of s u

  abbrev late : Option Refusal
  late = late_refusal s v members held length u

  -- what comes behind the numbers 12 and 9
  abbrev from_13 : Option Refusal
  from_13 = or_else (not_listed s u) (or_else (too_many s u) (before 17 told late))

  abbrev from_10 : Option Refusal
  from_10 = or_else (managed s u) (or_else (unmanaged s u) (before 13 told from_13))

  at_17 : refusal_in s v members held length u ≡ None → before 17 told late ≡ None
  at_17 none =
      let behind : from_10 ≡ None = none_behind 10 told from_10 none in
      let at_13 : before 13 told from_13 ≡ None = second_none (unmanaged s u) (before 13 told from_13) (second_none (managed s u) (or_else (unmanaged s u) (before 13 told from_13)) behind) in
      second_none (too_many s u) (before 17 told late) (second_none (not_listed s u) (or_else (too_many s u) (before 17 told late)) (none_behind 13 told from_13 at_13))

  -- the numbers from 24 on, from 23, from 22 ..
  abbrev from_24 : Option Refusal
  from_24 = or_else (record_full s length u) (node_has_vote s u)

  abbrev from_23 : Option Refusal
  from_23 = or_else (lose_quorum s members held u) from_24

  abbrev from_22 : Option Refusal
  from_22 = or_else (device_not_held held u) from_23

  abbrev from_21 : Option Refusal
  from_21 = or_else (node_is_member members u) from_22

  abbrev from_19 : Option Refusal
  from_19 = or_else (single s u) from_21

  abbrev from_18 : Option Refusal
  from_18 = or_else (cycle s u) from_19

  holds : refusal_in s v members held length u ≡ None → Holds s v members held length u
  holds none =
      let all : late ≡ None = none_behind 17 told late (at_17 none) in
      let cycles : from_18 ≡ None = second_none (still_up s v members u) from_18 all in
      let singles : from_19 ≡ None = second_none (cycle s u) from_19 cycles in
      let nodes : from_21 ≡ None = second_none (single s u) from_21 singles in
      let devices : from_22 ≡ None = second_none (node_is_member members u) from_22 nodes in
      let votes : from_23 ≡ None = second_none (device_not_held held u) from_23 devices in
      let records : from_24 ≡ None = second_none (lose_quorum s members held u) from_24 votes in
      record {
        applied = told_early (unknown_in s u) (exists_in s u) (user_in s u) (is_same_in s u) (is_bad_property_in s u) (is_bad_setting_in s u) (none_below 17 told late (at_17 none));
        down = is_down s u v members (first_none (still_up s v members u) from_18 all);
        order = no_cycle s u (first_none (cycle s u) from_19 cycles);
        votes = majority s members held u (first_none (lose_quorum s members held u) from_24 votes);
        room = room s u length (first_none (record_full s length u) (node_has_vote s u) records);
      }

pub accepting : AcceptedUpdatesHold
accepting s v members held length u is = holds s v members held length u (not_refused (refusal_in s v members held length u) (accepted.Change u) is)
