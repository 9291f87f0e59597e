-- Each configuration in force is made of updates with given operands, and is sound.
use Rattle.std.specs.Prelude.{ℕ, ◌+◌, ◌-◌, ◌≡◌, ◌≤◌, ◌++◌, Bool, true, false, List, [], ◌∷◌, fold, Option, None, Some, IfSome, Ok, Err, option_map}
use Rattle.std.specs.List.{AllByRecursion}
use Rattle.std.specs.Option.{option_and_then, unwrap_or}
use Rattle.std.proofs.Common.{refl, sym, ap, subst, ◌∙◌, arith}
use Rattle.admin_commands.specs.Cases.{where_so}
use Rattle.admin_commands.specs.Orders.{single}
use Rattle.admin_words.specs.Commands.{command_of}
use Rattle.admin_words.specs.Answers.{Spelled}
use Rattle.answer_words.specs.Laws.{IsRefusal, IsThing}
use Rattle.ccr_tables.specs.Changes.{applied, config_of}
use Rattle.ccr_tables.specs.Refusals.{missing, unless}
use Rattle.ccr_tables.specs.State.{ConfigState, first_config}
use Rattle.ccr_tables.specs.declared.command.AdminCommand.TheVariants as wish
use Rattle.ccr_tables.specs.declared.update.Update.{Update}
use Rattle.ccr_tables.specs.declared.update.Update.TheVariants.{RegisterType, CreateGroup, CreateResource, AddNode, RemoveNode, CreateLimit, CreateAddress, SetWeights}
use Rattle.cl_base.specs.declared.header.Header.{Header}
use Rattle.cl_base.specs.declared.header.Version.{Version}
use Rattle.cl_base.specs.declared.header.Version.TheVariants.{One, Two}
use Rattle.cl_base.specs.declared.refusal.Refusal.{Refusal}
use Rattle.cl_base.specs.declared.refusal.Thing.{Thing}
use Rattle.cmm_attempt.proofs.Basics.{if_either}
use Rattle.node_model.specs.Seats.{record_of}
use Rattle.node_model.specs.Configurations.{in_force}
use Rattle.node_model.specs.declared.cluster.Cluster.{Cluster}
use Rattle.node_model.specs.declared.node.UpNode.{UpNode}
use Rattle.rg_props.specs.Values as values
use Rattle.row_laws.proofs.Keys.{each_append, each_weaker}
use Rattle.row_laws.proofs.Sound.{IsSound, all_sound}
use Rattle.row_laws.specs.Given.{IsGiven}
use Rattle.update_log.specs.Logs.{config_after, may_come, with_command, with_text, with_texts}
use Rattle.word_laws.proofs.Updates.{update_spelled}
use Rattle.word_laws.specs.Spelled.{IsNodeOf, IsSpelled}

-- ---- options

pub of_map : {X Y : Type 0} (P : X → Type 0) (Q : Y → Type 0) (f : X → Y) (o : Option X) → ((x : X) → P x → Q (f x)) → IfSome o P → IfSome (option_map f o) Q
of_map P Q f None g h = tt
of_map P Q f (Some x) g h = g x h

pub or_values : {X : Type 0} (P : X → Type 0) (a b : Option X) → IfSome a P → IfSome b P → IfSome (values.or_else a b) P
or_values P None b h k = k
or_values P (Some x) b h k = h

pub of_missing : {X : Type 0} (o : Option X) (t : Thing) → IsThing t → IfSome (missing o t) IsThing
of_missing None t h = h
of_missing (Some x) t h = tt

pub of_unless : (b : Bool) (t : Thing) → IsThing t → IfSome (unless b t) IsThing
of_unless true t h = tt
of_unless false t h = h

pub of_where : (b : Bool) (r : Refusal) → IsRefusal r → IfSome (where_so b r) IsRefusal
of_where true r h = h
of_where false r h = tt

-- ---- configurations

pub record Made (h : Header) (s : ConfigState) : Type 0 where
  pub updates : List Update
  pub given : AllByRecursion IsGiven updates
  pub is : s ≡ config_of h updates

fold_more : {X Y : Type 0} (f : Y → X → Y) (a : Y) (xs : List X) (x : X) → fold f a (xs ++ x ∷ []) ≡ f (fold f a xs) x
fold_more f a [] x = refl
fold_more f a (y ∷ ys) x = fold_more f (f a y) ys x

pub made_more : (h : Header) (s : ConfigState) (u : Update) → IsGiven u → Made h s → Made h (applied s u)
made_more h s u given k = record {
  updates = k.updates ++ u ∷ [];
  given = each_append IsGiven k.updates (u ∷ []) k.given (given, tt);
  is = ap (λ z. applied z u) k.is ∙ sym (fold_more applied (first_config h) k.updates u);
}

pub few_nodes : (v : Version) (n : ℕ) → IsNodeOf v n → (1 ≤ n) × (n ≤ 32)
few_nodes One n h = (h.low, omega (arith, h.high))
few_nodes Two n h = (h.low, h.high)

pub given_of : (v : Version) (u : Update) → IsSpelled v u → IsGiven u
given_of v (RegisterType name agent methods single failover) s = (s.0.0, s.0.1.0)
given_of v (CreateGroup name nodes) s = (s.0.0, (s.1.few, each_weaker (IsNodeOf v) (λ n. (1 ≤ n) × (n ≤ 32)) (few_nodes v) nodes s.1.each))
given_of v (CreateResource name of_group of_type) s = (s.0, s.1.0, s.1.1.0)
given_of v (AddNode n) s = few_nodes v n s.0
given_of v (RemoveNode n) s = few_nodes v n s.0
given_of v (CreateLimit n limit soft hard) s = (few_nodes v n s.2, s.0.0, omega (arith, s.1.soft), omega (arith, s.1.hard))
given_of v (CreateAddress name of_group policy) s = (s.0.0, s.0.1.0)
given_of v (SetWeights name weights) s = (s.1.few, each_weaker _ _ (λ w k. (few_nodes v w.node k.node, omega (arith, k.weight))) weights s.1.each)
given_of v _ s = tt

made_command : (h : Header) (s : ConfigState) (v : Version) (text : List ℕ) (r : Spelled) → command_of v text ≡ r → Made h s → IfSome (with_command s text r) (Made h)
made_command h s v text (Ok (wish.Change u)) is k =
    if_either (λ o. IfSome o (Made h)) (may_come s text u) (Some (applied s u)) None (made_more h s u (given_of v u (update_spelled v text u is)) k) tt
made_command h s v text (Ok (wish.Act a)) is k = tt
made_command h s v text (Ok (wish.Status q)) is k = tt
made_command h s v text (Ok (wish.Rows name)) is k = tt
made_command h s v text (Err e) is k = tt

made_then : (h : Header) (go : ConfigState → Option ConfigState) (o : Option ConfigState) → IfSome o (Made h) → ((s : ConfigState) → Made h s → IfSome (go s) (Made h)) → IfSome (option_and_then go o) (Made h)
made_then h go None k f = tt
made_then h go (Some s) k f = f s k

made_texts : (h : Header) (texts : List (List ℕ)) (s : ConfigState) → Made h s → IfSome (with_texts s texts) (Made h)
made_texts h [] s k = k
made_texts h (text ∷ texts) s k =
    made_then h (λ next. with_texts next texts) (with_text s text) (made_command h s s.groups.version text (command_of s.groups.version text) refl k) (λ next m. made_texts h texts next m)

first_made : (h : Header) → Made h (first_config h)
first_made h = record { updates = []; given = tt; is = refl }

made_under : (h : Header) (o : Option ConfigState) → IfSome o (Made h) → Made h (unwrap_or o (first_config h))
made_under h None k = first_made h
made_under h (Some s) k = k

pub in_force_made : (c : Cluster) (x : UpNode) → Made c.header (in_force c x)
unfolding config_after
in_force_made c x = made_under c.header (config_after c.header (record_of x).entries.committed) (made_texts c.header (record_of x).entries.committed (first_config c.header) (first_made c.header))

pub sound_of : (h : Header) (s : ConfigState) → Made h s → IsSound s
sound_of h s k = subst IsSound (sym k.is) (all_sound h k.updates k.given)
