-- The sample of the second version meets the definitions.
use Rattle.std.proofs.Common.{arith}
use Rattle.group_samples.proofs.Allowed as call
use Rattle.address_targets.specs.Targets.{targets_of}
use Rattle.cl_base.specs.Sets.{has, set_with}
use Rattle.placement.specs.Decisions.{decided}
use Rattle.placement.specs.Eligibility.{group_reason, node_reason, target_reason, reason_of, online_targets, score_of, eligibility_of}
use Rattle.placement.specs.Goals.{kept, best_of, placed, goal_by_rule}
use Rattle.placement.specs.Loads.{is_fixed, counted, passed_limit, soft_passed}
use Rattle.placement.specs.Resources.{has_enabled, has_down, is_stop_failed}
use Rattle.placement.specs.Targets.{forbidding, without_goal, lacking}
use Rattle.sequencer.specs.Allowed.{is_callable, is_allowed}
use Rattle.sequencer.specs.Leaving.{has_lost, has_shaken, has_going, follows, has_reason, going_of}
use Rattle.sequencer.specs.Loads.{others_load, is_too_much}
use Rattle.sequencer.specs.Next.{next_call_of}
use Rattle.sequencer.specs.Outlooks.{outlook_of}
use Rattle.sequencer.specs.Scopes.{is_tied}
use Rattle.sequencer.specs.Standing.{is_ordered, is_online, is_up, is_group_up, has_missing, is_group_online}
use Rattle.sequencer.specs.Starting.{has_room, is_supported, has_groups, are_suited, is_avoided, waits, may_begin}
use Rattle.sequencer.specs.Stopping.{is_held, has_follower, is_awaited}
use Rattle.sequencer_laws.specs.Situations.{has_up, has_online}
use Rattle.rgm_president.specs.Goals.{with_listed, with_decided, with_ended, with_goals}
use Rattle.rgm_president.specs.Sequence.{groups_in_order, members_in_order}
use Rattle.load_limits.specs.Loads.{load}
use Rattle.rg_props.specs.Words.{name_in}
use Rattle.group_history.specs.GroupHistory.{GroupsHold, GroupAnswers, GroupsWhole}
use Rattle.group_samples.specs.SampleServing as sample
use Rattle.group_samples.specs.SampleServing.{sticking}

pub holds : GroupsHold sticking sample.cleared
unfolding has set_with decided group_reason node_reason target_reason reason_of online_targets score_of eligibility_of kept best_of placed goal_by_rule is_fixed counted passed_limit soft_passed has_enabled has_down is_stop_failed forbidding without_goal lacking is_callable is_allowed has_lost has_shaken has_going follows has_reason going_of others_load is_too_much next_call_of outlook_of is_tied is_ordered is_online is_up is_group_up has_missing is_group_online has_room is_supported has_groups are_suited is_avoided waits may_begin is_held has_follower is_awaited has_up has_online with_listed with_decided with_ended with_goals groups_in_order members_in_order load name_in
holds = record {
  reported = search;
  adopted = search;
  flagged = search;
  allowed = search (call.serving_started, call.serving_stopped, arith);
  called = search;
  ended = search;
  once = search;
  told = search;
  given = search;
  asked = search;
  adoption = search arith;
}

pub answers : GroupAnswers sticking sample.cleared
unfolding targets_of has set_with decided group_reason node_reason target_reason reason_of online_targets score_of eligibility_of kept best_of placed goal_by_rule is_fixed counted passed_limit soft_passed has_enabled has_down is_stop_failed forbidding without_goal lacking is_callable is_allowed has_lost has_shaken has_going follows has_reason going_of others_load is_too_much next_call_of outlook_of is_tied is_ordered is_online is_up is_group_up has_missing is_group_online has_room is_supported has_groups are_suited is_avoided waits may_begin is_held has_follower is_awaited has_up has_online with_listed with_decided with_ended with_goals groups_in_order members_in_order load name_in
answers = record {
  outcomes = search;
  panics = search;
  exclusions = search;
  probes = search;
  proposals = search;
  answers = search;
  full = search;
  queries = search;
  quiet = search;
  again = search;
  waiting = search;
  addresses = search;
}

pub whole : GroupsWhole sticking sample.cleared
unfolding has set_with decided group_reason node_reason target_reason reason_of online_targets score_of eligibility_of kept best_of placed goal_by_rule is_fixed counted passed_limit soft_passed has_enabled has_down is_stop_failed forbidding without_goal lacking is_callable is_allowed has_lost has_shaken has_going follows has_reason going_of others_load is_too_much next_call_of outlook_of is_tied is_ordered is_online is_up is_group_up has_missing is_group_online has_room is_supported has_groups are_suited is_avoided waits may_begin is_held has_follower is_awaited has_up has_online with_listed with_decided with_ended with_goals groups_in_order members_in_order load name_in
whole = record {
  adopts = search;
  calls = search;
  panics = search;
}
