-- A query is told, and answered.
use Rattle.std.proofs.Common.{◌≡◌, ℕ, List, [], ◌++◌, Option, None, Some, Result, Ok, Err, refl, subst, sym, ◌∙◌}
use Rattle.std.specs.Prelude.{IsErrAnd}
use Rattle.std.proofs.lemmas.List.{append-nil}
use Rattle.admin_commands.specs.declared.accepted.Accepted.{Accepted}
use Rattle.admin_commands.specs.declared.accepted.Accepted.TheVariants as accepted
use Rattle.admin_commands.specs.declared.error.CheckError.{CheckError}
use Rattle.admin_commands.specs.declared.error.CheckError.TheVariants as because
use Rattle.ccr_tables.specs.State.{ConfigState}
use Rattle.ccr_tables.specs.declared.command.AdminCommand.{AdminCommand}
use Rattle.cl_base.specs.declared.command.Query.{Query}
use Rattle.cl_base.specs.declared.command.Query.TheVariants as query
use Rattle.status_report.specs.declared.command_entry.Answer.{Answer}
use Rattle.status_report.specs.declared.command_entry.Answer.TheVariants as answer
use Rattle.node_model.specs.declared.cluster.Cluster.{Cluster}
use Rattle.node_model.specs.declared.node.UpNode.{UpNode}
use Rattle.node_model.specs.declared.output.Output.{Output}
use Rattle.node_model.specs.declared.presidency.Presidency.{Presidency}
use Rattle.node_model.specs.declared.stop.Stop.{Stop}
use Rattle.node_model.specs.declared.stop.Stop.TheVariants.{NoMemory}
use Rattle.node_model.specs.Configurations.{in_force}
use Rattle.node_model.specs.Entries.{replying}
use Rattle.node_model.specs.Plans.{Plan, Gives}
use Rattle.node_model.specs.Plans.Plan.{Stays, Falls, Says, Saves}
use Rattle.node_model.specs.Presidents.{checked, query_lines, query_told, told_lines}
use Rattle.node_model.specs.Seats.{record_of}
use Rattle.node_queries.specs.Queries.{answer_by, answer_for, lines_by, lines_for, lines_under, query_by, replying_if}

lines_alike : (x : UpNode) (p : Presidency) (s : ConfigState) (q : Query) → lines_under s (record_of x).members p q ≡ query_lines x p s q
lines_alike x p s query.GroupStatus = refl
lines_alike x p s query.ResourceStatus = refl
lines_alike x p s query.QuorumStatus = refl
lines_alike x p s (query.Rows t) = refl

-- nothing was told before
bare : (plan : Plan) (given mid after : List Output) (result : Result UpNode Stop) → mid ≡ given ++ [] → Gives plan mid result after → Gives plan given result after
bare plan given mid after result is h = subst (λ g. Gives plan g result after) (is ∙ append-nil given) h

told_as : (me number : ℕ) (x : UpNode) (p : Presidency) (s : ConfigState) (answered : Result Accepted CheckError) (given mid after : List Output) (result : Result UpNode Stop)
    → mid ≡ given ++ told_lines (lines_for s (record_of x).members p answered) → Gives (replying_if me number x (answer_for answered)) mid result after
    → Gives (query_told me x p number s answered) given result after
told_as me number x p s (Ok (accepted.Query q)) given mid after result is h =
    subst (λ lines. Gives (Says (told_lines lines) (replying me number answer.Ok x)) given result after) (lines_alike x p s q)
    (subst (λ g. Gives (replying me number answer.Ok x) g result after) is h)
told_as me number x p s (Ok (accepted.Change u)) given mid after result is h = bare (Stays x) given mid after result is h
told_as me number x p s (Ok (accepted.Act ask)) given mid after result is h = bare (Stays x) given mid after result is h
told_as me number x p s (Err (because.Refused r)) given mid after result is h = bare (replying me number (answer.Refused r) x) given mid after result is h
told_as me number x p s (Err because.NoMemory) given mid after result is h = bare (Stays x) given mid after result is h

told_by : (c : Cluster) (me number : ℕ) (x : UpNode) (command : AdminCommand) (found : Option Presidency) (given mid after : List Output) (result : Result UpNode Stop)
    → mid ≡ given ++ told_lines (lines_by c x command found) → Gives (replying_if me number x (answer_by c x command found)) mid result after
    → Gives (query_by c me x number command found) given result after
told_by c me number x command None given mid after result is h = bare (Stays x) given mid after result is h
told_by c me number x command (Some p) given mid after result is h = told_as me number x p (in_force c x) (checked c x p command) given mid after result is h

-- what is told first, and then answered
pub gives_answer : (c : Cluster) (me number : ℕ) (x y : UpNode) (command : AdminCommand) (told : Option Answer) (answer : Answer) (given mid after : List Output) (result : Result UpNode Stop)
    → y ≡ x → told ≡ answer_by c x command x.presidency → told ≡ Some answer → mid ≡ given ++ told_lines (lines_by c x command x.presidency)
    → Gives (replying me number answer y) mid result after → Gives (query_by c me x number command x.presidency) given result after
gives_answer c me number x y command told answer given mid after result same is some lines h =
    told_by c me number x command x.presidency given mid after result lines
    (subst (λ a. Gives (replying_if me number x a) mid result after) (sym some ∙ is) (subst (λ z. Gives (replying me number answer z) mid result after) same h))

-- what is no query is not answered
pub gives_none : (c : Cluster) (me number : ℕ) (x y : UpNode) (command : AdminCommand) (told : Option Answer) (given mid : List Output)
    → y ≡ x → told ≡ answer_by c x command x.presidency → told ≡ None → mid ≡ given ++ told_lines (lines_by c x command x.presidency)
    → Gives (query_by c me x number command x.presidency) given (Ok y) mid
gives_none c me number x y command told given mid same is none lines =
    told_by c me number x command x.presidency given mid mid (Ok y) lines
    (subst (λ a. Gives (replying_if me number x a) mid (Ok y) mid) (sym none ∙ is) (same, refl))

none_given : (plan : Plan) (given after : List Output) → Gives plan given (Err NoMemory) after
none_given (Stays x) given after = tt
none_given (Falls why) given after = tt
none_given (Says os rest) given after = none_given rest (given ++ os) after
none_given (Saves r rest) given after = tt

-- where memory runs out, nothing is asked of the plan
pub gives_no_memory : (plan : Plan) (given after : List Output) (result : Result UpNode Stop) → IsErrAnd result (λ stop. stop ≡ NoMemory) → Gives plan given result after
gives_no_memory plan given after (Ok x) h = absurd h
gives_no_memory plan given after (Err stop) h = subst (λ s. Gives plan given (Err s) after) (sym h) (none_given plan given after)

-- .. nor where telling it runs out
pub told_no_memory : (plan : Plan) (given after : List Output) (result : Result UpNode Stop) (stop : Stop) → stop ≡ NoMemory → IsErrAnd result (λ s. s ≡ stop) → Gives plan given result after
told_no_memory plan given after (Ok x) stop none h = absurd h
told_no_memory plan given after (Err s) stop none h = subst (λ e. Gives plan given (Err e) after) (sym (h ∙ none)) (none_given plan given after)
