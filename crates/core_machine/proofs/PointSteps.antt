-- From what comes next at a point to the view after it.
use Rattle.std.proofs.Common.{◌≡◌, ℕ, ◌<◌, ◌==◌, true, false, List, [], ◌∷◌, ◌++◌, length, refl, sym, ap, ◌∙◌, subst, Option, Some, None, is_some, if◌then◌else◌, arith}
use Rattle.std.proofs.lemmas.Bool.{eq-eqb, eqb-true, cond-true, false≢true}
use Rattle.std.proofs.lemmas.List.{length-append}
use Rattle.entity_recs.specs.declared.effect.Effect.{Effect}
use Rattle.entity_recs.specs.Commands.{Command}
use Rattle.entity_recs.specs.Actions.{HasPlayer}
use Rattle.core_steps.specs.declared.step.StepKind.TheVariants.{Commit}
use Rattle.core_steps.specs.Nodes.{Fixed, leaf_nodes, write_nodes}
use Rattle.core_steps.specs.Points.{Store, Point, Owning, Taking, Entering, Loading, Sensing, Resolving, Claiming}
use Rattle.core_steps.specs.Points.{Storing}
use Rattle.core_steps.specs.Reads.{View, record_read, region_in}
use Rattle.core_steps.specs.Steps.{view_after_own, view_after_take, view_after_refusal, view_after_commit, view_after_state, view_after_give, player_loaded, storing, next_take}
use Rattle.core_steps.specs.Machine.{Next, TakeNode, CommitMove, ReadPlayer, ReadState, StoreWord, next_at, committing, giving, resolving, kind_of}
use Rattle.core_seats.specs.Going.{view_found}
use Rattle.core_seats.specs.Nexts.{next_point, next_resolved, the_next}
use Rattle.core_seats.specs.Sound.{IsSound}

-- the view after the step that comes next at a point is the view after what comes next
pub gone : (F : Fixed) (view new : View) (given : Option Command) (effect : Option Effect) (point : Point) (next : Next) (found : ℕ) → view.point ≡ point
    → next_point F view given effect point ≡ Some next → new ≡ view_found F view next found → new ≡ view_found F view (the_next (next_point F view given effect view.point)) found
gone F view new given effect point next found at comes is =
    is ∙ ap (λ (o : Option Next). view_found F view (the_next o) found) (sym (ap (next_point F view given effect) at ∙ comes))

-- the sixth word of the own record makes it one that the action takes
pub sixth_word : (F : Fixed) (view : View) (given : Option Command) (effect : Option Effect) (found : ℕ) → view.point ≡ Owning → length view.own ≡ 5
    → IsSound F (view_found F view (the_next (next_point F view given effect view.point)) found) → HasPlayer F.takes (record_read view.cmd.slot (view.own ++ found ∷ [])) view.cmd
sixth_word F view given effect found at five after =
    let six : length (view.own ++ found ∷ []) ≡ 6 = length-append view.own (found ∷ []) ∙ omega (arith, five) in
    let own : View = record view { own = view.own ++ found ∷ [] } in
    let leaves = leaf_nodes F (region_in F own.cmd own.own) in
    let is : view_after_own F found view ≡ record own { wanted = leaves; point = Taking [] leaves } =
    cond-true (length own.own == 6) (record own { wanted = leaves; point = Taking [] leaves }) own (eq-eqb (length own.own) 6 six) in
    let sound : IsSound F (view_after_own F found view) = subst (λ (p : Point). IsSound F (view_found F view (the_next (next_point F view given effect p)) found)) at after in
    (subst (IsSound F) is sound).region refl refl

-- where leaves are left, one is taken
pub took_leaf : (F : Fixed) (view new : View) (given : Option Command) (effect : Option Effect) (got rest : List ℕ) (found : ℕ) → view.point ≡ Taking got rest → 0 < length rest
    → ((node : ℕ) → next_take view.point ≡ Some node → new ≡ (if found == 0 then view_after_take node view else view_after_refusal node found view))
    → new ≡ view_found F view (the_next (next_point F view given effect view.point)) found
took_leaf F view new given effect got [] found at some is = absurd (omega arith)
took_leaf F view new given effect got (leaf ∷ rest) found at some is =
    gone F view new given effect (Taking got (leaf ∷ rest)) (TakeNode leaf) found at refl (is leaf (ap next_take at))

-- the inner node is taken
pub took_inner : (F : Fixed) (view new : View) (given : Option Command) (effect : Option Effect) (node : ℕ) (plan : List ℕ) (found : ℕ) → view.point ≡ Entering node plan
    → ((n : ℕ) → next_take view.point ≡ Some n → new ≡ (if found == 0 then view_after_take n view else view_after_refusal n found view))
    → new ≡ view_found F view (the_next (next_point F view given effect view.point)) found
took_inner F view new given effect node plan found at is = gone F view new given effect (Entering node plan) (TakeNode node) found at refl (is node (ap next_take at))

-- where write nodes are left, one is taken
pub took_node : (F : Fixed) (view new : View) (given : Option Command) (effect : Option Effect) (got rest : List ℕ) (found : ℕ) → view.point ≡ Claiming got rest → 0 < length rest
    → ((node : ℕ) → next_take view.point ≡ Some node → new ≡ (if found == 0 then view_after_take node view else view_after_refusal node found view))
    → new ≡ view_found F view (the_next (next_point F view given effect view.point)) found
took_node F view new given effect got [] found at some is = absurd (omega arith)
took_node F view new given effect got (node ∷ rest) found at some is =
    gone F view new given effect (Claiming got (node ∷ rest)) (TakeNode node) found at refl (is node (ap next_take at))

-- where no write node is left, the effect in view is committed
pub committed : (F : Fixed) (view new : View) (given : Option Command) (effect : Option Effect) (e : Effect) (got rest : List ℕ) (found : ℕ) → view.point ≡ Claiming got rest → rest ≡ []
    → view.effect ≡ Some e → new ≡ view_after_commit F found e got view → new ≡ view_found F view (the_next (next_point F view given effect view.point)) found
committed F view new given effect e got rest found at none in_view is =
    gone F view new given effect (Claiming got rest) (CommitMove e got) found at
    (ap (λ (ns : List ℕ). next_at F view given (Claiming got ns)) none ∙ ap (λ (o : Option Effect). committing o got) in_view) is

-- where no write node is left, a commit comes next
pub commit_comes : (F : Fixed) (view : View) (given : Option Command) (effect : Option Effect) (e : Effect) (got rest : List ℕ) → view.point ≡ Claiming got rest → rest ≡ []
    → view.effect ≡ Some e → kind_of (the_next (next_point F view given effect view.point)) ≡ Commit
commit_comes F view given effect e got rest at none in_view =
    ap (λ (o : Option Next). kind_of (the_next o))
    (ap (next_point F view given effect) at ∙ ap (λ (ns : List ℕ). next_at F view given (Claiming got ns)) none ∙ ap (λ (o : Option Effect). committing o got) in_view)

-- under the node a word of the first player is loaded
pub read_player : (F : Fixed) (view new : View) (given : Option Command) (effect : Option Effect) (node : ℕ) (part players plan : List ℕ) (found : ℕ) → view.point ≡ Loading node part players plan
    → 0 < length players
    → ((slot : ℕ) (rest : List ℕ) → view.point ≡ Loading node part (slot ∷ rest) plan → new ≡ player_loaded F node (part ++ found ∷ []) slot rest plan view)
    → new ≡ view_found F view (the_next (next_point F view given effect view.point)) found
read_player F view new given effect node part [] plan found at some is = absurd (omega arith)
read_player F view new given effect node part (slot ∷ rest) plan found at some is =
    gone F view new given effect (Loading node part (slot ∷ rest) plan) (ReadPlayer node part slot rest plan) found at refl (is slot rest at)

-- the state of the first thing is loaded
pub read_state : (F : Fixed) (view new : View) (given : Option Command) (effect : Option Effect) (ids : List ℕ) (found : ℕ) → view.point ≡ Sensing ids → 0 < length ids
    → ((id : ℕ) (rest : List ℕ) → view.point ≡ Sensing (id ∷ rest) → new ≡ view_after_state id found rest view)
    → new ≡ view_found F view (the_next (next_point F view given effect view.point)) found
read_state F view new given effect [] found at some is = absurd (omega arith)
read_state F view new given effect (id ∷ rest) found at some is =
    gone F view new given effect (Sensing (id ∷ rest)) (ReadState id rest) found at refl (is id rest at)

-- the first store is made
pub stored : (F : Fixed) (view new : View) (given : Option Command) (effect : Option Effect) (nodes : List ℕ) (stores : List Store) (found : ℕ) → view.point ≡ Storing nodes stores
    → 0 < length stores
    → ((store : Store) (rest : List Store) → view.point ≡ Storing nodes (store ∷ rest) → new ≡ record view { point = storing nodes rest })
    → new ≡ view_found F view (the_next (next_point F view given effect view.point)) found
stored F view new given effect nodes [] found at some is = absurd (omega arith)
stored F view new given effect nodes (store ∷ rest) found at some is =
    gone F view new given effect (Storing nodes (store ∷ rest)) (StoreWord nodes store rest) found at refl (is store rest at)

-- a node is given back where one is
gives : (F : Fixed) (view new : View) (comes : Option ℕ) (found : ℕ) → is_some (giving comes) ≡ true → new ≡ view_after_give F view view.point
    → new ≡ view_found F view (the_next (giving comes)) found
gives F view new None found some is = absurd (false≢true some)
gives F view new (Some node) found some is = is

pub gave : (F : Fixed) (view new : View) (given : Option Command) (effect : Option Effect) (point : Point) (node : Option ℕ) (found : ℕ) → view.point ≡ point
    → next_point F view given effect point ≡ giving node → is_some (next_point F view given effect view.point) ≡ true → new ≡ view_after_give F view view.point
    → new ≡ view_found F view (the_next (next_point F view given effect view.point)) found
gave F view new given effect point node found at comes some is =
    let same : next_point F view given effect view.point ≡ giving node = ap (next_point F view given effect) at ∙ comes in
    subst (λ (o : Option Next). new ≡ view_found F view (the_next o) found) (sym same)
    (gives F view new node found (subst (λ (o : Option Next). is_some o ≡ true) same some) is)

-- where the effect that is kept enters the view
pub resolved : (F : Fixed) (view new : View) (given : Option Command) (effect : Option Effect) (found : ℕ) → view.point ≡ Resolving
    → is_some (next_point F view given effect view.point) ≡ true
    → ((e : Effect) → effect ≡ Some e → new ≡ view_found F view (resolving e (write_nodes F (record_read view.cmd.slot view.again) e)) found)
    → new ≡ view_found F view (the_next (next_point F view given effect view.point)) found
resolved F view new given None found at some is = absurd (false≢true (subst (λ (p : Point). is_some (next_point F view given None p) ≡ true) at some))
resolved F view new given (Some e) found at some is =
    gone F view new given (Some e) Resolving (resolving e (write_nodes F (record_read view.cmd.slot view.again) e)) found at refl (is e refl)

-- where the effect that is kept has no write node, a commit comes next
pub resolved_commit : (F : Fixed) (view : View) (given : Option Command) (effect : Option Effect) (e : Effect) → view.point ≡ Resolving → effect ≡ Some e
    → write_nodes F (record_read view.cmd.slot view.again) e ≡ [] → kind_of (the_next (next_point F view given effect view.point)) ≡ Commit
resolved_commit F view given effect e at kept none =
    ap (λ (o : Option Next). kind_of (the_next o)) (ap (next_point F view given effect) at ∙ ap (next_resolved F view) kept)
    ∙ ap (λ (ns : List ℕ). kind_of (resolving e ns)) none

pub none_left : {A : Type 0} (xs : List A) → (length xs == 0) ≡ true → xs ≡ []
none_left [] none = refl
none_left (x ∷ xs) none = let zeroth = eqb-true (length (x ∷ xs)) 0 none in absurd (omega (arith, zeroth))

pub some_left : {A : Type 0} (xs : List A) → (length xs == 0) ≡ false → 0 < length xs
some_left [] some = absurd (false≢true (sym some))
some_left (x ∷ xs) some = omega arith
