-- What the laws of clients refuse: the request that breaks one is shown to it.
use Rattle.std.proofs.Common.{◌≡◌, ℕ, refl, All, List, [], ◌∷◌, Option, Some, None}
use Rattle.std.proofs.lemmas.List.Elements.{All-cons, All-nil}
use Rattle.address_targets.specs.Targets.{targets_of}
use Rattle.cl_base.specs.Sets.{has, set_with}
use Rattle.placement.specs.Decisions.{decided}
use Rattle.placement.specs.Eligibility.{group_reason, node_reason, target_reason, reason_of, online_targets, score_of, eligibility_of}
use Rattle.placement.specs.Goals.{kept, best_of, placed, goal_by_rule}
use Rattle.placement.specs.Loads.{is_fixed, counted, passed_limit, soft_passed}
use Rattle.placement.specs.Resources.{has_enabled, has_down, is_stop_failed}
use Rattle.placement.specs.Targets.{forbidding, without_goal, lacking}
use Rattle.rgm_president.specs.Goals.{with_listed, with_decided, with_ended, with_goals}
use Rattle.rgm_president.specs.Sequence.{groups_in_order, members_in_order}
use Rattle.load_limits.specs.Loads.{load}
use Rattle.wire.specs.Reads.{number_at, byte_at, truth_at, node_at, device_at, text_at, devices_at, items_at, list_at, at_most_one_at, method_at, outcome_at, kind_at, marks_at, failures_at, reading_at, resource_at, group_at, report_at, seized_result_at, heartbeat_at, collect_at, promise_at, nack_at, install_at, ready_at, start_at, prepare_at, prepared_at, order_at, done_at, request_at, answer_at, body_at, message_at, whole_of}
use Rattle.rg_props.specs.Words.{name_in}
use Rattle.cl_base.specs.declared.command.Policy.{Policy}
use Rattle.cl_base.specs.declared.command.Policy.TheVariants.{Weighted, StickyPort, Sticky}
use Rattle.shared_address.specs.declared.choice.Target.{Target}
use Rattle.group_history.specs.Addresses.{Answered}
use Rattle.group_history.specs.Served.{ClientsStick, PortsStick, WeightsExact}
use Rattle.group_samples.specs.SampleServing as sample
use Rattle.group_samples.specs.SampleServing.{by_client, sticking}
use Rattle.group_samples.specs.SampleTurns as turn
use Rattle.group_samples.specs.SampleTurns.{weighing}
use Rattle.group_samples.specs.SampleStatus as told
use Rattle.group_samples.specs.SampleStatus.{serving, x}

abbrev targets : List Target
targets = (record { node = 1; weight = 1 }) ∷ []

abbrev answer : Policy → ℕ → Option ℕ → Answered
answer policy port n = record { request = record { policy = policy; address = 10; port = port; targets = (record { node = 1; weight = 1 }) ∷ [] }; node = n; forgot = None }

-- the turn was node 1's
pub turn_of_nobody : WeightsExact serving 65 x told.served_by_nobody → ⊥
unfolding targets_of has set_with decided group_reason node_reason target_reason reason_of online_targets score_of eligibility_of kept best_of placed goal_by_rule is_fixed counted passed_limit soft_passed has_enabled has_down is_stop_failed forbidding without_goal lacking with_listed with_decided with_ended with_goals groups_in_order members_in_order load
turn_of_nobody h =
    let count : 0 ≡ 1 = h (answer Weighted 80 None ∷ []) [] targets refl (All-cons (λ (a : Answered). a.request.targets ≡ targets) (answer Weighted 80 None) [] refl (All-nil (λ (a : Answered). a.request.targets ≡ targets))) refl 1 in
    cc count

pub turn_of_another : WeightsExact serving 65 x sample.served_elsewhere_at_once → ⊥
unfolding targets_of has set_with decided group_reason node_reason target_reason reason_of online_targets score_of eligibility_of kept best_of placed goal_by_rule is_fixed counted passed_limit soft_passed has_enabled has_down is_stop_failed forbidding without_goal lacking with_listed with_decided with_ended with_goals groups_in_order members_in_order load
turn_of_another h =
    let count : 0 ≡ 1 = h (answer Weighted 80 (Some 2) ∷ []) [] targets refl (All-cons (λ (a : Answered). a.request.targets ≡ targets) (answer Weighted 80 (Some 2)) [] refl (All-nil (λ (a : Answered). a.request.targets ≡ targets))) refl 1 in
    cc count

pub elsewhere : PortsStick sticking 65 x sample.served_elsewhere → ⊥
unfolding targets_of has set_with decided group_reason node_reason target_reason reason_of online_targets score_of eligibility_of kept best_of placed goal_by_rule is_fixed counted passed_limit soft_passed has_enabled has_down is_stop_failed forbidding without_goal lacking with_listed with_decided with_ended with_goals groups_in_order members_in_order load
elsewhere h =
    let same : Some 2 ≡ Some 1 = h [] [] [] (answer StickyPort 80 (Some 1)) (answer StickyPort 80 (Some 2)) 1 refl refl refl refl refl (record { answered = refl; target = (refl, tt); kept = tt }) in
    cc same

pub nobody : PortsStick sticking 65 x sample.served_nobody → ⊥
unfolding targets_of has set_with decided group_reason node_reason target_reason reason_of online_targets score_of eligibility_of kept best_of placed goal_by_rule is_fixed counted passed_limit soft_passed has_enabled has_down is_stop_failed forbidding without_goal lacking with_listed with_decided with_ended with_goals groups_in_order members_in_order load
nobody h =
    let same : None ≡ Some 1 = h [] [] [] (answer StickyPort 80 (Some 1)) (answer StickyPort 80 None) 1 refl refl refl refl refl (record { answered = refl; target = (refl, tt); kept = tt }) in
    cc same

pub elsewhere_by_client : ClientsStick by_client 65 x sample.served_elsewhere_by_client → ⊥
unfolding targets_of has set_with decided group_reason node_reason target_reason reason_of online_targets score_of eligibility_of kept best_of placed goal_by_rule is_fixed counted passed_limit soft_passed has_enabled has_down is_stop_failed forbidding without_goal lacking with_listed with_decided with_ended with_goals groups_in_order members_in_order load
elsewhere_by_client h =
    let same : Some 2 ≡ Some 1 = h [] [] [] (answer Sticky 80 (Some 1)) (answer Sticky 81 (Some 2)) 1 refl refl refl refl (record { answered = refl; target = (refl, tt); kept = tt }) in
    cc same

pub nobody_by_client : ClientsStick by_client 65 x sample.served_nobody_by_client → ⊥
unfolding targets_of has set_with decided group_reason node_reason target_reason reason_of online_targets score_of eligibility_of kept best_of placed goal_by_rule is_fixed counted passed_limit soft_passed has_enabled has_down is_stop_failed forbidding without_goal lacking with_listed with_decided with_ended with_goals groups_in_order members_in_order load
nobody_by_client h =
    let same : None ≡ Some 1 = h [] [] [] (answer Sticky 80 (Some 1)) (answer Sticky 81 None) 1 refl refl refl refl (record { answered = refl; target = (refl, tt); kept = tt }) in
    cc same

-- ---- two nodes

abbrev two : List Target
two = (record { node = 1; weight = 2 }) ∷ (record { node = 2; weight = 1 }) ∷ []

abbrev by_node : ℕ → Answered
by_node n = record { request = record { policy = Weighted; address = 10; port = 80; targets = two }; node = Some n; forgot = None }

all_show : (m n p : ℕ) → All (λ (a : Answered). a.request.targets ≡ two) (by_node m ∷ by_node n ∷ by_node p ∷ [])
all_show m n p =
    All-cons (λ (a : Answered). a.request.targets ≡ two) (by_node m) (by_node n ∷ by_node p ∷ []) refl
    (All-cons (λ (a : Answered). a.request.targets ≡ two) (by_node n) (by_node p ∷ []) refl
    (All-cons (λ (a : Answered). a.request.targets ≡ two) (by_node p) [] refl (All-nil (λ (a : Answered). a.request.targets ≡ two))))

pub first_has_all : WeightsExact weighing 65 x turn.always_the_first → ⊥
unfolding targets_of has set_with decided group_reason node_reason target_reason reason_of online_targets score_of eligibility_of kept best_of placed goal_by_rule is_fixed counted passed_limit soft_passed has_enabled has_down is_stop_failed forbidding without_goal lacking with_listed with_decided with_ended with_goals groups_in_order members_in_order load name_in number_at byte_at truth_at node_at device_at text_at devices_at items_at list_at at_most_one_at method_at outcome_at kind_at marks_at failures_at reading_at resource_at group_at report_at seized_result_at heartbeat_at collect_at promise_at nack_at install_at ready_at start_at prepare_at prepared_at order_at done_at request_at answer_at body_at message_at whole_of
first_has_all h =
    let count : 0 ≡ 1 = h (by_node 1 ∷ by_node 1 ∷ by_node 1 ∷ []) [] two refl (all_show 1 1 1) refl 2 in
    cc count

pub second_has_two : WeightsExact weighing 65 x turn.as_if_weighted_otherwise → ⊥
unfolding targets_of has set_with decided group_reason node_reason target_reason reason_of online_targets score_of eligibility_of kept best_of placed goal_by_rule is_fixed counted passed_limit soft_passed has_enabled has_down is_stop_failed forbidding without_goal lacking with_listed with_decided with_ended with_goals groups_in_order members_in_order load name_in number_at byte_at truth_at node_at device_at text_at devices_at items_at list_at at_most_one_at method_at outcome_at kind_at marks_at failures_at reading_at resource_at group_at report_at seized_result_at heartbeat_at collect_at promise_at nack_at install_at ready_at start_at prepare_at prepared_at order_at done_at request_at answer_at body_at message_at whole_of
second_has_two h =
    let count : 1 ≡ 2 = h (by_node 2 ∷ by_node 2 ∷ by_node 1 ∷ []) [] two refl (all_show 2 2 1) refl 1 in
    cc count
