-- The operands of each refusal are names and numbers.
use Rattle.std.specs.Prelude.{ℕ, ◌-◌, ◌≡◌, nat_lt, length, Option, None, Some, IfSome, if◌then◌else◌}
use Rattle.std.proofs.Common.{refl, sym, subst}
use Rattle.admin_commands.specs.Answers.{first_refusal, late_refusal, refusal_in, unless_refused}
use Rattle.admin_commands.specs.Asks.{refusal_of_ask}
use Rattle.admin_commands.specs.Cases.{number_of, unknown, where_so}
use Rattle.admin_commands.specs.Managing.{is_unmanaged}
use Rattle.admin_commands.specs.Standing.{no_mark}
use Rattle.admin_commands.specs.declared.accepted.Accepted.{Accepted}
use Rattle.answer_words.specs.Laws.{IsRefusal, IsThing}
use Rattle.ccr_tables.specs.Refusals.{missing, refusal_of, unless}
use Rattle.ccr_tables.specs.State.{ConfigState}
use Rattle.ccr_tables.specs.declared.command.AdminCommand.TheVariants as wish
use Rattle.ccr_tables.specs.declared.update.Update.{Update}
use Rattle.cl_base.specs.declared.command.Ask.{Ask}
use Rattle.cl_base.specs.declared.command.Ask.TheVariants.{Clear, Evacuate, Move, Remaster, Restart}
use Rattle.cl_base.specs.declared.header.Header.{Header}
use Rattle.cl_base.specs.declared.header.Version.{Version}
use Rattle.cl_base.specs.declared.refusal.Refusal.{Refusal}
use Rattle.cl_base.specs.declared.refusal.Refusal.TheVariants as refusal
use Rattle.cl_base.specs.declared.refusal.Thing.{Thing}
use Rattle.cl_base.specs.declared.refusal.Thing.TheVariants.{Named, Numbered}
use Rattle.cmm_attempt.proofs.Basics.{if_either}
use Rattle.node_model.specs.Presidents.{checked, length_of}
use Rattle.node_model.specs.Seats.{record_of, version_of}
use Rattle.node_model.specs.Configurations.{in_force}
use Rattle.node_model.specs.declared.cluster.Cluster.{Cluster}
use Rattle.node_model.specs.declared.node.UpNode.{UpNode}
use Rattle.node_model.specs.declared.presidency.Presidency.{Presidency}
use Rattle.order_laws.specs.Laws.{ToldCyclesHaveNames}
use Rattle.quorum_votes.specs.Votes.{is_configured}
use Rattle.rg_props.specs.Lookups.{named}
use Rattle.rg_props.specs.Values as values
use Rattle.rg_view.specs.declared.view.GroupView.{GroupView}
use Rattle.word_laws.proofs.Reading.{node_small}
use Rattle.word_laws.specs.Spelled.{IsSpelled}
use Rattle.run_packets.specs.admitted.Refusals.{AskGood, ResultGood}
use Rattle.run_packets.proofs.admitted.Made.{Made, in_force_made, of_map, of_missing, of_unless, of_where, or_values, sound_of}
use Rattle.run_packets.proofs.admitted.Found.{ToldGood, told_good}
use Rattle.run_packets.proofs.admitted.Cycles.{cycle_good}
use Rattle.run_packets.proofs.admitted.Votes.{full_good, held_good, listed_good, managed_good, many_good, member_good, quorum_good, single_good, unmanaged_good, vote_good}

-- ---- the first of them

late_good : ToldCyclesHaveNames → (h : Header) (v : Version) (s : ConfigState) (view : GroupView) (members held length : ℕ) (u : Update) → Made h s → IsSpelled v u → refusal_of s u ≡ None
    → IfSome (late_refusal s view members held length u) IsRefusal
late_good law h v s view members held length u k p none =
    or_values IsRefusal _ _ (of_where _ refusal.StillUp tt)
    (or_values IsRefusal _ _ (cycle_good law h v s u k p none)
    (or_values IsRefusal _ _ (single_good s u)
    (or_values IsRefusal _ _ (member_good members u)
    (or_values IsRefusal _ _ (held_good held u) (or_values IsRefusal _ _ (quorum_good s members held u) (or_values IsRefusal _ _ (full_good s length u) (vote_good s u)))))))

first_good : ToldCyclesHaveNames → (h : Header) (v : Version) (s : ConfigState) (view : GroupView) (members held length : ℕ) (u : Update) → Made h s → IsSpelled v u → (told : Option Refusal) → refusal_of s u ≡ told
    → ToldGood told → IfSome (first_refusal told s view members held length u) IsRefusal
first_good law h v s view members held length u k p None is good =
    or_values IsRefusal _ _ (managed_good s u)
    (or_values IsRefusal _ _ (unmanaged_good s u)
    (or_values IsRefusal _ _ (listed_good v s u p) (or_values IsRefusal _ _ (many_good s u) (late_good law h v s view members held length u k p is))))
first_good law h v s view members held length u k p (Some r) is good =
    if_either (λ o. IfSome o IsRefusal) (nat_lt (number_of r) 10) (Some r) _ good.0
    (or_values IsRefusal _ _ (managed_good s u)
    (or_values IsRefusal _ _ (unmanaged_good s u)
    (if_either (λ o. IfSome o IsRefusal) (nat_lt (number_of r) 13) (Some r) _ good.0
    (or_values IsRefusal _ _ (listed_good v s u p)
    (or_values IsRefusal _ _ (many_good s u)
    (subst (λ b. IfSome (if b then Some r else late_refusal s view members held length u) IsRefusal) (sym good.1) good.0))))))

unless_good : (o : Option Refusal) (a : Accepted) → (ToldCyclesHaveNames → IfSome o IsRefusal) → ResultGood (unless_refused o a)
unless_good None a h = tt
unless_good (Some r) a h = h

-- ---- what is asked without an update

ask_unknown : (o : Option Thing) → IfSome o IsThing → IfSome (unknown o) IsRefusal
ask_unknown o h = of_map IsThing IsRefusal (λ t. refusal.Unknown t) o (λ t k. k) h

ask_good : (v : Version) (s : ConfigState) (view : GroupView) (a : Ask) → AskGood v a → IfSome (refusal_of_ask s view a) IsRefusal
ask_good v s view (Restart r) h = ask_unknown _ (of_missing _ (Named r) h)
ask_good v s view (Move r) h = ask_unknown _ (of_missing _ (Named r) h)
ask_good v s view (Remaster g) h =
    or_values IsRefusal (unknown (missing (named s.groups.groups g) (Named g))) (where_so (is_unmanaged (named s.groups.groups g)) refusal.Unmanaged)
    (ask_unknown (missing (named s.groups.groups g) (Named g)) (of_missing (named s.groups.groups g) (Named g) h)) (of_where (is_unmanaged (named s.groups.groups g)) refusal.Unmanaged tt)
ask_good v s view (Evacuate n) h = ask_unknown _ (of_unless _ (Numbered n) (node_small v n h))
ask_good v s view (Clear r n) h =
    let resource : Option Thing = missing (named s.groups.resources r) (Named r) in
    let node : Option Thing = unless (is_configured s.votes n) (Numbered n) in
    or_values IsRefusal (unknown resource) (values.or_else (unknown node) (no_mark view r n)) (ask_unknown resource (of_missing (named s.groups.resources r) (Named r) h.0))
    (or_values IsRefusal (unknown node) (no_mark view r n) (ask_unknown node (of_unless (is_configured s.votes n) (Numbered n) (node_small v n h.1))) (of_where _ refusal.NoMark tt))

-- ---- what a president finds

pub update_checked : (c : Cluster) (x : UpNode) (p : Presidency) (u : Update) → IsSpelled (version_of c) u → ResultGood (checked c x p (wish.Change u))
update_checked c x p u h =
    unless_good (refusal_in (in_force c x) p.groups.view (record_of x).members p.held (length_of c x) u) _
    (λ law. first_good law c.header (version_of c) (in_force c x) p.groups.view (record_of x).members p.held (length_of c x) u (in_force_made c x) h (refusal_of (in_force c x) u) refl
    (told_good (version_of c) (in_force c x) u (sound_of c.header (in_force c x) (in_force_made c x)) h))

pub ask_checked : (c : Cluster) (x : UpNode) (p : Presidency) (a : Ask) → AskGood (version_of c) a → ResultGood (checked c x p (wish.Act a))
ask_checked c x p a h = unless_good (refusal_of_ask (in_force c x) p.groups.view a) _ (λ law. ask_good (version_of c) (in_force c x) p.groups.view a h)
