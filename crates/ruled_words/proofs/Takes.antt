-- A pass takes its next node.
use Rattle.std.proofs.Common.{arith, ◌≡◌, ◌⊎◌, ℕ, suc, ◌+◌, ◌*◌, ◌<◌, Bool, true, false, if◌then◌else◌, List, [], ◌∷◌, ◌++◌, refl, sym, ap, ◌∙◌, subst, inl, inr, Option, Some, None, is_some, All}
use Rattle.std.specs.Prelude.{◌==◌}
use Rattle.std.proofs.lemmas.List.Elements.{All-from_recursion}
use Rattle.std.proofs.lemmas.Option.{same_Some}
use Rattle.areanode.specs.Depths.{sizes_of_depth}
use Rattle.core_steps.specs.declared.sizes.TheConstants.{NODE_HOLDERS}
use Rattle.atomic_table.specs.Seated.{TableId}
use Rattle.entity_recs.specs.declared.effect.Effect.{Effect}
use Rattle.entity_recs.specs.Commands.{Command}
use Rattle.core_steps.specs.Nodes.{Fixed, is_leaf, leaf_nodes, nodes_of, write_nodes}
use Rattle.core_steps.specs.Points.{Point, Idle, Owning, Taking, Checking, Entering, Entered, Loading, Leaving, Sensing}
use Rattle.core_steps.specs.Points.{Resolving, Claiming, Storing, Releasing, Returning, Yielding, Stage, AtClaiming}
use Rattle.core_steps.specs.Points.{stage_of, is_whole, is_writing, is_without_effect}
use Rattle.core_steps.specs.Reads.{record_read, region_in}
use Rattle.core_steps.specs.Held.{leaf_word, held_word}
use Rattle.core_steps.specs.Steps.{taking, point_after_take, first_yield}
use Rattle.core_steps.specs.Machine.{Next, beginning, TakeNode, ClaimNode, resolving, quitting, committing, giving, index_of}
use Rattle.core_steps.specs.Stands.{IsAt, IsClaimingAfter}
use Rattle.core_steps.proofs.TreeNodes.{leaf_below}
use Rattle.core_steps.proofs.Runs.{all_from_has}
use Rattle.core_steps.specs.Calls.{node_taken}
use Rattle.core_seats.specs.Going.{word_left}
use Rattle.core_seats.specs.Ready.{is_resolving}
use Rattle.ruled_words.specs.Passes.{PassView, first_effect, effect_in_hand, next_of_pass, node_taken_next, IsPassOf}
use Rattle.core_seats.specs.Nexts.{next_resolved, next_point, the_next}

-- what is known of a pass whose next step takes a node: the step, and whether the node is taken to write
pub record Takes (F : Fixed) (p : PassView) (node : ℕ) (next : Next) : Type 0 where
  pub takes : (next ≡ TakeNode node) ⊎ ((e : Effect) × (next ≡ ClaimNode e node))
  pub stage : Stage
  pub whole : is_whole (stage_of p.view.point) ≡ true
  pub writes : is_some (effect_in_hand p) ≡ is_writing stage
  pub left : (found : ℕ) → word_left F p.number p.view next found ≡ (if found == 0 then held_word F p.number stage p.view.wanted node else found)

pub none_taken : {R : Type 0} (node : ℕ) → None ≡ Some node → R
none_taken node e = cc

pub quit_taken : {R : Type 0} (o : Option ℕ) (node : ℕ) → node_taken (quitting o) ≡ Some node → R
quit_taken None node e = cc
quit_taken (Some n) node e = cc

give_taken : {R : Type 0} (o : Option ℕ) (node : ℕ) → node_taken_next (giving o) ≡ Some node → R
give_taken None node e = cc
give_taken (Some n) node e = cc

commit_taken : {R : Type 0} (o : Option Effect) (nodes : List ℕ) (node : ℕ) → node_taken_next (committing o nodes) ≡ Some node → R
commit_taken None nodes node e = cc
commit_taken (Some f) nodes node e = cc

begin_taken : {R : Type 0} (given : Option Command) (node : ℕ) → node_taken_next (beginning given) ≡ Some node → R
begin_taken None node e = cc
begin_taken (Some c) node e = cc

none_in_hand : (kept seen : Option Effect) → kept ≡ None → seen ≡ None → is_some (first_effect kept seen) ≡ false
none_in_hand kept seen e f = cc

kept_in_hand : (kept seen : Option Effect) (e : Effect) → kept ≡ Some e → is_some (first_effect kept seen) ≡ true
kept_in_hand None seen e is = cc
kept_in_hand (Some f) seen e is = refl

seen_in_hand : (kept seen : Option Effect) (e : Effect) → kept ≡ None → seen ≡ Some e → is_some (first_effect kept seen) ≡ true
seen_in_hand kept seen e none is = cc

module _ (F : Fixed) (passes : ℕ) (table : TableId) (p : PassView) (node : ℕ) (own : IsPassOf F passes table p) where
  taken_at : (point : Point) → p.view.point ≡ point → (leaf : ℕ) → leaf ≡ node → is_whole (stage_of point) ≡ true → is_some (effect_in_hand p) ≡ is_writing (stage_of (point_after_take node point))
      → Takes F p node (TakeNode leaf)
  taken_at point at leaf same whole writes =
      subst (λ (n : ℕ). Takes F p node (TakeNode n)) (sym same) (record {
        takes = inl refl;
        stage = stage_of (point_after_take node p.view.point);
        whole = ap (λ (q : Point). is_whole (stage_of q)) at ∙ whole;
        writes = writes ∙ ap (λ (q : Point). is_writing (stage_of (point_after_take node q))) (sym at);
        left = λ found. refl;
      })

  claimed_at : (point : Point) → p.view.point ≡ point → is_whole (stage_of point) ≡ true → (e : Effect) → p.effect ≡ Some e → (nodes : List ℕ) → node_taken (resolving e nodes) ≡ Some node
      → Takes F p node (resolving e nodes)
  claimed_at point at whole e is [] taken = none_taken node taken
  claimed_at point at whole e is (n ∷ nodes) taken =
      subst (λ (k : ℕ). Takes F p node (ClaimNode e k)) (sym (same_Some n node taken)) (record {
        takes = inr (e, refl);
        stage = AtClaiming;
        whole = ap (λ (q : Point). is_whole (stage_of q)) at ∙ whole;
        writes = kept_in_hand p.effect p.view.effect e is;
        left = λ found. refl;
      })

  resolved_at : (point : Point) → p.view.point ≡ point → is_whole (stage_of point) ≡ true → (o : Option Effect) → p.effect ≡ o → node_taken_next (next_resolved F p.view o) ≡ Some node
      → Takes F p node (the_next (next_resolved F p.view o))
  resolved_at point at whole None is taken = none_taken node taken
  resolved_at point at whole (Some e) is taken = claimed_at point at whole e is (write_nodes F (record_read p.view.cmd.slot p.view.again) e) taken

  not_writing : (point : Point) → p.view.point ≡ point → is_resolving point ≡ false → is_without_effect (stage_of point) ≡ true → is_some (effect_in_hand p) ≡ false
  not_writing point at not without =
      none_in_hand p.effect p.view.effect (own.only_resolving (ap is_resolving at ∙ not)) (own.sound_sight.sound.unread.no_effect (ap (λ (q : Point). is_without_effect (stage_of q)) at ∙ without))

  taking_whole : (got rest : List ℕ) → is_writing (stage_of (taking got rest)) ≡ false
  taking_whole got [] = refl
  taking_whole got (leaf ∷ rest) = refl

  -- where write nodes are taken the effect is in view
  claim_effect : (got rest : List ℕ) → p.view.point ≡ Claiming got rest → is_some (effect_in_hand p) ≡ true
  claim_effect got rest at =
      let view = p.view in
      let is : IsClaimingAfter F (region_in F view.cmd view.own) view.cmd.slot (record_read view.cmd.slot view.again) view.lists view.others view.states view.effect got rest =
      subst (IsAt F view.cmd view.own view.wanted view.again view.lists view.others view.states view.effect) at own.sound_sight.sound.at in
      seen_in_hand p.effect view.effect is.claim.e (own.only_resolving (ap is_resolving at)) is.claim.is

  -- which point takes the node
  takes_at : (point : Point) → p.view.point ≡ point → node_taken_next (next_point F p.view p.given p.effect point) ≡ Some node → Takes F p node (the_next (next_point F p.view p.given p.effect point))
  takes_at Idle at taken = begin_taken p.given node taken
  takes_at Owning at taken = none_taken node taken
  takes_at (Taking got []) at taken = none_taken node taken
  takes_at (Taking got (leaf ∷ rest)) at taken =
      taken_at (Taking got (leaf ∷ rest)) at leaf (same_Some leaf node taken) refl (not_writing (Taking got (leaf ∷ rest)) at refl refl ∙ sym (taking_whole (got ++ node ∷ []) rest))
  takes_at Checking at taken = none_taken node taken
  takes_at (Entering n plan) at taken =
      taken_at (Entering n plan) at n (same_Some n node taken) refl (not_writing (Entering n plan) at refl refl)
  takes_at (Entered n plan) at taken = none_taken node taken
  takes_at (Loading n part [] plan) at taken = none_taken node taken
  takes_at (Loading n part (slot ∷ players) plan) at taken = none_taken node taken
  takes_at (Leaving n plan) at taken = none_taken node taken
  takes_at (Sensing []) at taken = none_taken node taken
  takes_at (Sensing (id ∷ ids)) at taken = none_taken node taken
  takes_at Resolving at taken = resolved_at Resolving at refl p.effect refl taken
  takes_at (Claiming got []) at taken = commit_taken p.view.effect got node taken
  takes_at (Claiming got (n ∷ rest)) at taken =
      taken_at (Claiming got (n ∷ rest)) at n (same_Some n node taken) refl (claim_effect got (n ∷ rest) at)
  takes_at (Storing nodes []) at taken = none_taken node taken
  takes_at (Storing nodes (store ∷ stores)) at taken = none_taken node taken
  takes_at (Releasing nodes) at taken = give_taken _ node taken
  takes_at (Returning leaves) at taken = give_taken _ node taken
  takes_at (Yielding nodes leaves) at taken = give_taken _ node taken

  pub takes_next : node_taken_next (next_of_pass F p) ≡ Some node → Takes F p node (the_next (next_of_pass F p))
  takes_next taken = by_quits p.quits taken
    where
      by_quits : (quits : Bool) → node_taken_next (if quits then Some (quitting (first_yield F p.view)) else next_point F p.view p.given p.effect p.view.point) ≡ Some node
          → Takes F p node (the_next (if quits then Some (quitting (first_yield F p.view)) else next_point F p.view p.given p.effect p.view.point))
      by_quits true e = quit_taken (first_yield F p.view) node e
      by_quits false e = takes_at p.view.point refl e

-- the leaves that are wanted are nodes of the tree
pub wanted_below : (F : Fixed) (passes : ℕ) (table : TableId) (p : PassView) (node : ℕ) (next : Next) → IsPassOf F passes table p → Takes F p node next → All (λ n. n < nodes_of F) p.view.wanted
wanted_below F passes table p node next own t =
    let sound = own.sound_sight.sound in
    let wanted = sound.whole t.whole in
    let sizes = sizes_of_depth F.tree.depth sound.depth in
    let some = sizes.some in
    let double = sizes.double in
    subst (All (λ n. n < nodes_of F)) (sym wanted)
    (All-from_recursion (λ n. n < nodes_of F) (leaf_nodes F (region_in F p.view.cmd p.view.own))
    (all_from_has (λ n. n < nodes_of F) (leaf_nodes F (region_in F p.view.cmd p.view.own))
    (λ v there. let below = leaf_below F (region_in F p.view.cmd p.view.own) v there in omega (arith, below, some, double))))

-- the word with which the node is taken, of what the pass holds
pub word_of_holder : (F : Fixed) (p : PassView) (node : ℕ) (next : Next) → (t : Takes F p node next)
    → held_word F p.number t.stage p.view.wanted node ≡ suc (p.number + NODE_HOLDERS * (if is_leaf F node then leaf_word F p.view.wanted else (if is_some (effect_in_hand p) then 1 else 0)))
word_of_holder F p node next t =
    ap (λ (b : Bool). suc (p.number + NODE_HOLDERS * (if is_leaf F node then leaf_word F p.view.wanted else (if b then 1 else 0)))) (sym t.writes)

-- the same word, as the rules compute it
pub held_is : (F G : Fixed) (p q : PassView) (number node result : ℕ) (wanted : List ℕ) (writing : Bool) → G ≡ F → q ≡ p → number ≡ p.number → wanted ≡ q.view.wanted → writing ≡ is_some (effect_in_hand q)
    → result ≡ suc (number + NODE_HOLDERS * (if is_leaf G node then leaf_word G wanted else (if writing then 1 else 0)))
    → suc (p.number + NODE_HOLDERS * (if is_leaf F node then leaf_word F p.view.wanted else (if is_some (effect_in_hand p) then 1 else 0))) ≡ result
held_is F G p q number node result wanted writing same is numbered wants writes computed =
    sym (computed
    ∙ ap (λ (n : ℕ). suc (n + NODE_HOLDERS * (if is_leaf G node then leaf_word G wanted else (if writing then 1 else 0)))) (numbered ∙ sym (ap (λ (r : PassView). r.number) is))
    ∙ ap (λ (xs : List ℕ). suc (q.number + NODE_HOLDERS * (if is_leaf G node then leaf_word G xs else (if writing then 1 else 0)))) wants
    ∙ ap (λ (b : Bool). suc (q.number + NODE_HOLDERS * (if is_leaf G node then leaf_word G q.view.wanted else (if b then 1 else 0)))) writes
    ∙ ap (λ (H : Fixed). suc (q.number + NODE_HOLDERS * (if is_leaf H node then leaf_word H q.view.wanted else (if is_some (effect_in_hand q) then 1 else 0)))) same
    ∙ ap (λ (r : PassView). suc (r.number + NODE_HOLDERS * (if is_leaf F node then leaf_word F r.view.wanted else (if is_some (effect_in_hand r) then 1 else 0)))) is)

pub taken_there : (o : Option Next) (node : ℕ) → node_taken_next o ≡ Some node → is_some o ≡ true
taken_there None node e = none_taken node e
taken_there (Some next) node e = refl

pub taken_index : (F : Fixed) (p : PassView) (node : ℕ) (next : Next) → Takes F p node next → index_of p.view next ≡ 1 + node
taken_index F p node next t = elim t.takes [
  | inl is ↦ ap (index_of p.view) is
  | inr is ↦ ap (index_of p.view) is.1
]

pub taken_next : (o : Option Next) (node : ℕ) → node_taken_next o ≡ Some node → node_taken (the_next o) ≡ Some node
taken_next None node e = none_taken node e
taken_next (Some next) node e = e
