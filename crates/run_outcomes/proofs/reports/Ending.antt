-- What a node surely comes to in a course: it goes down, or this holds of it at the end, or it has sent this message then.
use Rattle.std.specs.Prelude.{ℕ, ◌⊎◌, ◌++◌, List, [], ◌∷◌}
use Rattle.std.proofs.Common.{refl, inl, inr}
use Rattle.cmm_member.specs.Records.{NodeRecord}
use Rattle.node_model.specs.declared.cluster.Cluster.{Cluster}
use Rattle.node_model.specs.declared.node.Node.{Node}
use Rattle.node_model.specs.declared.node.Node.TheVariants.{Down, Up}
use Rattle.node_model.specs.declared.node.UpNode.{UpNode}
use Rattle.node_model.specs.declared.output.Output.{Output}
use Rattle.refinement.specs.Courses.{Course, Reply, under}
use Rattle.refinement.specs.Courses.Course.{Acts, Falls, Keeps, Stops}
use Rattle.refinement.specs.Courses.Reply.{Done, Lost_new, Lost_old}
use Rattle.refinement.specs.Doings.{Act, Site, acted, after_all, changed, effect, first_lines, given_all, gone_line, said, saved_lines, site}
use Rattle.refinement.specs.Doings.Doing.{Saves}
use Rattle.run_packets.proofs.repeats.Leading.{behind_first, behind_later}
use Rattle.run_packets.specs.prepares.Proposals.{IsBehind}
use Rattle.status_report.specs.declared.node_entry.DownCause.{DownCause}
use Rattle.status_report.specs.declared.node_entry.DownCause.TheVariants as down
use Rattle.wire.specs.declared.message.Body.{Body}

module _ (c : Cluster) (n to : ℕ) (f : UpNode → Body) (Q : UpNode → Type 0) where
  -- where it is up at the end
  abbrev pub EndsSo : UpNode → Course → Type 0
  EndsSo x Stops = Q x
  EndsSo x (Acts a Stops) = Q (acted c n x a) ⊎ IsBehind n to (f (acted c n x a)) (said c n x a)
  EndsSo x (Acts a rest) = EndsSo (acted c n x a) rest
  EndsSo x (Keeps change rest) = EndsSo (changed c n x change) rest
  EndsSo x (Falls why) = Unit {0}

  -- the node then, with what it gave
  abbrev pub End : List Output → Node → Type 0
  End os Down = (b : Body) → IsBehind n to b os
  End os (Up x) = Q x ⊎ IsBehind n to (f x) os

  end_later : (os more : List Output) (node : Node) → End more node → End (os ++ more) node
  end_later os more Down h = λ b. behind_later n to b os more (h b)
  end_later os more (Up x) (inl so) = inl so
  end_later os more (Up x) (inr sent) = inr (behind_later n to (f x) os more sent)

  gone : (why : DownCause) (first : List Output) → End ((first ++ gone_line n why) ++ []) Down
  gone why first = λ b. behind_first n to b (first ++ gone_line n why) [] (behind_later n to b first (gone_line n why) (inl refl))

  last_given : (kept : NodeRecord) (x : UpNode) (a : Act) → Q (acted c n x a) ⊎ IsBehind n to (f (acted c n x a)) (said c n x a) → End (said c n x a ++ []) (Up (acted c n x a))
  last_given kept x a (inl so) = inl so
  last_given kept x a (inr sent) = inr (behind_first n to (f (acted c n x a)) (said c n x a) [] sent)

  acts_given : (replies : List Reply) (kept : NodeRecord) (x : UpNode) (a : Act) (k : Course)
      → (let y : Site = site (Up (acted c n x a)) kept in End (given_all c n y (under replies k)) (after_all c n y (under replies k)).node)
      → (let y : Site = site (Up (acted c n x a)) kept in End (said c n x a ++ given_all c n y (under replies k)) (after_all c n y (under replies k)).node)
  acts_given replies kept x a k h =
      let y : Site = site (Up (acted c n x a)) kept in end_later (said c n x a) (given_all c n y (under replies k)) (after_all c n y (under replies k)).node h

  pub ends_given : (replies : List Reply) (kept : NodeRecord) (x : UpNode) (k : Course) → EndsSo x k → End (given_all c n (site (Up x) kept) (under replies k)) (after_all c n (site (Up x) kept) (under replies k)).node
  ends_given replies kept x Stops h = inl h
  ends_given replies kept x (Acts a Stops) h = last_given kept x a h
  ends_given replies kept x (Acts a (Acts b rest)) h = acts_given replies kept x a (Acts b rest) (ends_given replies kept (acted c n x a) (Acts b rest) h)
  ends_given replies kept x (Acts a (Keeps change rest)) h = acts_given replies kept x a (Keeps change rest) (ends_given replies kept (acted c n x a) (Keeps change rest) h)
  ends_given replies kept x (Acts a (Falls why)) h = acts_given replies kept x a (Falls why) (ends_given replies kept (acted c n x a) (Falls why) h)
  ends_given [] kept x (Keeps change rest) h = gone down.Stopped (first_lines n change)
  ends_given (Done ∷ replies) kept x (Keeps change rest) h =
      let y : Site = effect c n (site (Up x) kept) (Saves change) in
      end_later (first_lines n change ++ saved_lines c n x change) (given_all c n y (under replies rest)) (after_all c n y (under replies rest)).node
      (ends_given replies y.disk (changed c n x change) rest h)
  ends_given (Lost_new why ∷ replies) kept x (Keeps change rest) h = gone why (first_lines n change)
  ends_given (Lost_old why ∷ replies) kept x (Keeps change rest) h = gone why (first_lines n change)
  ends_given replies kept x (Falls why) h = λ b. inl refl

-- ---- where it is up at the end this holds

module _ (c : Cluster) (n : ℕ) (Q : UpNode → Type 0) where
  abbrev pub LandsSo : UpNode → Course → Type 0
  LandsSo x Stops = Q x
  LandsSo x (Acts a rest) = LandsSo (acted c n x a) rest
  LandsSo x (Keeps change rest) = LandsSo (changed c n x change) rest
  LandsSo x (Falls why) = Unit {0}

  -- .. and where it is down it has gone down
  abbrev pub Landed : List Output → Node → Type 0
  Landed os Down = (to : ℕ) (b : Body) → IsBehind n to b os
  Landed os (Up x) = Q x

  land_later : (os more : List Output) (node : Node) → Landed more node → Landed (os ++ more) node
  land_later os more Down h = λ to b. behind_later n to b os more (h to b)
  land_later os more (Up x) h = h

  lost : (why : DownCause) (first : List Output) → Landed ((first ++ gone_line n why) ++ []) Down
  lost why first = λ to b. behind_first n to b (first ++ gone_line n why) [] (behind_later n to b first (gone_line n why) (inl refl))

  pub lands_given : (replies : List Reply) (kept : NodeRecord) (x : UpNode) (k : Course) → LandsSo x k → Landed (given_all c n (site (Up x) kept) (under replies k)) (after_all c n (site (Up x) kept) (under replies k)).node
  lands_given replies kept x Stops h = h
  lands_given replies kept x (Acts a rest) h =
      let y : Site = site (Up (acted c n x a)) kept in
      land_later (said c n x a) (given_all c n y (under replies rest)) (after_all c n y (under replies rest)).node (lands_given replies kept (acted c n x a) rest h)
  lands_given [] kept x (Keeps change rest) h = lost down.Stopped (first_lines n change)
  lands_given (Done ∷ replies) kept x (Keeps change rest) h =
      let y : Site = effect c n (site (Up x) kept) (Saves change) in
      land_later (first_lines n change ++ saved_lines c n x change) (given_all c n y (under replies rest)) (after_all c n y (under replies rest)).node
      (lands_given replies y.disk (changed c n x change) rest h)
  lands_given (Lost_new why ∷ replies) kept x (Keeps change rest) h = lost why (first_lines n change)
  lands_given (Lost_old why ∷ replies) kept x (Keeps change rest) h = lost why (first_lines n change)
  lands_given replies kept x (Falls why) h = λ to b. inl refl
