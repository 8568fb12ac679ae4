-- A step of a seat that is served leaves the seat fewer steps, and a refused take leaves it no more.
use Rattle.std.proofs.Common.{◌≡◌, ℕ, ◌+◌, ◌<◌, ◌≤◌, ◌⊎◌, Bool, true, false, List, [], ◌∷◌, ◌++◌, length, refl, sym, ap, ◌∙◌, subst, inl, inr, Option, Some, None, is_some, arith}
use Rattle.std.specs.Prelude.{◌==◌, if◌then◌else◌}
use Rattle.std.proofs.lemmas.Bool.{cases_Bool, false≢true, true≢false, cond-true, cond-false}
use Rattle.std.proofs.lemmas.List.{length-map, length-append}
use Rattle.areanode.specs.Trees.{IsTreeDepth}
use Rattle.entity_recs.specs.declared.effect.Effect.{Effect}
use Rattle.entity_recs.specs.declared.effect.NewState.{NewState}
use Rattle.entity_recs.specs.Commands.{Command}
use Rattle.entity_recs.specs.Worlds.{World}
use Rattle.entity_recs.specs.Histories.{Item}
use Rattle.core_steps.specs.Cells.{put}
use Rattle.core_steps.specs.Nodes.{Fixed, leaf_nodes, plan_of, write_nodes}
use Rattle.core_steps.specs.Points.{Point, Idle, Owning, Taking, Checking, Entering, Entered, Loading, Leaving, Sensing}
use Rattle.core_steps.specs.Points.{Resolving, Claiming, Storing, Releasing, Returning, Yielding, stage_of}
use Rattle.core_steps.specs.Points.{is_without_effect}
use Rattle.core_steps.specs.Reads.{View, without_player, region_in, record_read, effect_loaded}
use Rattle.core_steps.specs.Held.{inner_held, leaves_held}
use Rattle.core_steps.specs.Steps.{rest_of, first, first_of_two, first_yield, is_taking, returning, released, yielding, yielded, visiting, loading, view_after_give}
use Rattle.core_steps.specs.Stands.{IsLawful, IsStart}
use Rattle.core_steps.specs.Machine.{Machine, Next, Begin, LoadOwn, LoadAgain, TakeNode, ClaimNode, ReadList, ReadPlayer, ReadState, CommitMove, StoreWord, GiveNode, YieldNode, YieldCount, next_at, next_of, quitting, resolving, beginning, committing, giving, word_of_next, machine_after, MachineStands}
use Rattle.core_steps.proofs.Giving.{seat_at}
use Rattle.core_steps.proofs.Puts.{put_same}
use Rattle.core_seats.specs.Going.{view_found}
use Rattle.core_seats.specs.Nexts.{next_point, next_with, the_next}
use Rattle.core_seats.specs.Ready.{is_resolving}
use Rattle.core_progress.specs.StepsLeft.{steps_left, left_at, is_served, IsCounting}
use Rattle.core_progress.proofs.StepsLeft.{served_steps_leave_fewer}
use Rattle.core_progress.proofs.SoundCounts.{sound_views_count}
use Rattle.core_seats.proofs.Sounding.{sound_here}
use Rattle.core_seats.proofs.Changing.{view_here}
use Rattle.core_progress.specs.Progress.{longest_effect, effect_or_longest, view_steps, given_steps, steps_of_command, seat_steps}
use Rattle.core_progress.proofs.Effects.{few_states}

-- ---- giving up

left_yielding : (F : Fixed) (e : Option Effect) (view : View) (nodes leaves : List ℕ) → steps_left F e (yielding view nodes leaves) ≤ length nodes + length leaves
left_yielding F e view [] [] = omega arith
left_yielding F e view [] (leaf ∷ leaves) = omega arith
left_yielding F e view (node ∷ nodes) leaves = omega arith

left_yielded : (F : Fixed) (e : Option Effect) (view : View) (nodes leaves : List ℕ) → steps_left F e (yielded view nodes leaves) ≤ length nodes + length leaves
left_yielded F e view [] [] = omega arith
left_yielded F e view [] (leaf ∷ leaves) = let left = left_yielding F e view [] leaves in omega (arith, left)
left_yielded F e view (node ∷ nodes) leaves = let left = left_yielding F e view nodes leaves in omega (arith, left)

-- with the first step of giving up at most what is held is left
left_quitting : (F : Fixed) (view : View) (found : ℕ) (o : Option ℕ)
    → view_steps F (view_found F view (quitting o) found) ≤ length (inner_held F view.point) + length (leaves_held view.point view.wanted)
left_quitting F view found None = omega arith
left_quitting F view found (Some node) =
    let inner = inner_held F view.point in
    let leaves = leaves_held view.point view.wanted in
    left_yielded F (effect_or_longest F (yielded view inner leaves).effect) view inner leaves

-- ---- the effect in view

-- what comes next is the same whatever effect is kept, but where it enters the view
same_next : (F : Fixed) (view : View) (effect : Option Effect) (point : Point) → is_resolving point ≡ false → next_point F view None effect point ≡ next_at F view None point
same_next F view effect Idle e = refl
same_next F view effect Owning e = refl
same_next F view effect (Taking got rest) e = refl
same_next F view effect Checking e = refl
same_next F view effect (Entering node plan) e = refl
same_next F view effect (Entered node plan) e = refl
same_next F view effect (Loading node part players plan) e = refl
same_next F view effect (Leaving node plan) e = refl
same_next F view effect (Sensing ids) e = refl
same_next F view effect Resolving e = absurd (true≢false e)
same_next F view effect (Claiming got rest) e = refl
same_next F view effect (Storing nodes stores) e = refl
same_next F view effect (Releasing nodes) e = refl
same_next F view effect (Returning leaves) e = refl
same_next F view effect (Yielding nodes leaves) e = refl

-- the view has the effect of the other, or its command is done
abbrev SameOrDone : View → View → Type 0
SameOrDone new old = (new.effect ≡ old.effect) ⊎ (new.point ≡ Idle)

same_of_two : (b : Bool) (one two : View) (effect : Option Effect) → one.effect ≡ effect → two.effect ≡ effect → (if b then one else two).effect ≡ effect
same_of_two true one two effect a c = a
same_of_two false one two effect a c = c

same_returning : (view : View) (leaves : List ℕ) → SameOrDone (returning view leaves) view
same_returning view [] = inr refl
same_returning view (leaf ∷ leaves) = inl refl

same_released : (view : View) (nodes : List ℕ) → SameOrDone (released view nodes) view
same_released view [] = same_returning view (rest_of view.wanted)
same_released view (node ∷ nodes) = inl refl

same_yielding : (view : View) (nodes leaves : List ℕ) → SameOrDone (yielding view nodes leaves) view
same_yielding view [] [] = inr refl
same_yielding view [] (leaf ∷ leaves) = inl refl
same_yielding view (node ∷ nodes) leaves = inl refl

same_yielded : (view : View) (nodes leaves : List ℕ) → SameOrDone (yielded view nodes leaves) view
same_yielded view [] leaves = same_yielding view [] (rest_of leaves)
same_yielded view (node ∷ nodes) leaves = same_yielding view nodes leaves

module _ (F : Fixed) (view : View) (found : ℕ) where
  same_taken : (node : ℕ) → SameOrDone (view_found F view (TakeNode node) found) view
  same_taken node = inl (same_of_two (found == 0) _ _ view.effect refl refl)

  same_given : (o : Option ℕ) (point : Point) → view.point ≡ point → is_some (giving o) ≡ true → SameOrDone (view_after_give F view point) view → SameOrDone (view_found F view (the_next (giving o)) found) view
  same_given None point e comes same = absurd (false≢true comes)
  same_given (Some node) point e comes same = subst (λ (p : Point). SameOrDone (view_after_give F view p) view) (sym e) same

  same_committed : (o : Option Effect) (nodes : List ℕ) → view.effect ≡ o → is_some (committing o nodes) ≡ true → SameOrDone (view_found F view (the_next (committing o nodes)) found) view
  same_committed None nodes e comes = absurd (false≢true comes)
  same_committed (Some now) nodes e comes = inl (sym e)

  -- a step that isn't the one with which the effect enters the view leaves it, or ends the command
  same_effect : (point : Point) → view.point ≡ point → is_resolving point ≡ false → is_some (next_at F view None point) ≡ true → SameOrDone (view_found F view (the_next (next_at F view None point)) found) view
  same_effect Idle e not' comes = absurd (false≢true comes)
  same_effect Owning e not' comes =
      let more = record view { own = view.own ++ found ∷ [] } in
      inl (same_of_two (length more.own == 6) (record more { wanted = leaf_nodes F (region_in F more.cmd more.own); point = Taking [] (leaf_nodes F (region_in F more.cmd more.own)) }) more view.effect refl refl)
  same_effect (Taking got []) e not' comes = absurd (false≢true comes)
  same_effect (Taking got (leaf ∷ rest)) e not' comes = same_taken leaf
  same_effect Checking e not' comes =
      let more = record view { again = view.again ++ found ∷ [] } in
      inl (same_of_two (length more.again == 6) (record more { point = visiting F more (plan_of F (region_in F more.cmd more.own)) }) more view.effect refl refl)
  same_effect (Entering node plan) e not' comes = same_taken node
  same_effect (Entered node plan) e not' comes = inl refl
  same_effect (Loading node part [] plan) e not' comes = absurd (false≢true comes)
  same_effect (Loading node part (slot ∷ players) plan) e not' comes =
      let words = part ++ found ∷ [] in
      inl (same_of_two (length words == 6) (record view { others = record { slot = slot; words = words } ∷ without_player slot view.others; point = loading F view node players plan })
      (record view { point = Loading node words (slot ∷ players) plan }) view.effect refl refl)
  same_effect (Leaving node plan) e not' comes = same_given (Some node) (Leaving node plan) e comes (inl refl)
  same_effect (Sensing []) e not' comes = absurd (false≢true comes)
  same_effect (Sensing (id ∷ ids)) e not' comes = inl refl
  same_effect Resolving e not' comes = absurd (true≢false not')
  same_effect (Claiming got []) e not' comes = same_committed view.effect got refl comes
  same_effect (Claiming got (node ∷ rest)) e not' comes = same_taken node
  same_effect (Storing nodes []) e not' comes = absurd (false≢true comes)
  same_effect (Storing nodes (store ∷ stores)) e not' comes = inl refl
  same_effect (Releasing nodes) e not' comes = same_given (first_of_two nodes view.wanted) (Releasing nodes) e comes (same_released view nodes)
  same_effect (Returning leaves) e not' comes = same_given (first leaves) (Returning leaves) e comes (same_returning view (rest_of leaves))
  same_effect (Yielding nodes leaves) e not' comes = same_given (first_of_two nodes leaves) (Yielding nodes leaves) e comes (same_yielded view nodes leaves)

  -- the effect enters the view where the first write node is taken, or with the commit where there is none
  effect_enters : (e : Effect) (nodes : List ℕ) → is_served (resolving e nodes) found ≡ true → (view_found F view (resolving e nodes) found).effect ≡ Some e
  effect_enters e [] served = refl
  effect_enters e (node ∷ nodes) served = let free : (found == 0) ≡ true = served in rw free refl

  -- a refused take leaves as many steps
  pub refused_keeps : (next : Next) → is_served next found ≡ false → view_steps F (view_found F view next found) ≡ view_steps F view
  refused_keeps (Begin c) e = absurd (true≢false e)
  refused_keeps LoadOwn e = absurd (true≢false e)
  refused_keeps LoadAgain e = absurd (true≢false e)
  refused_keeps (TakeNode node) e = rw e refl
  refused_keeps (ClaimNode f node) e = rw e refl
  refused_keeps (ReadList node plan) e = absurd (true≢false e)
  refused_keeps (ReadPlayer node part slot players plan) e = absurd (true≢false e)
  refused_keeps (ReadState id ids) e = absurd (true≢false e)
  refused_keeps (CommitMove f nodes) e = absurd (true≢false e)
  refused_keeps (StoreWord nodes store stores) e = absurd (true≢false e)
  refused_keeps (GiveNode node) e = absurd (true≢false e)
  refused_keeps (YieldNode node) e = absurd (true≢false e)
  refused_keeps YieldCount e = absurd (true≢false e)

-- ---- a seat of a machine that stands

one_next : (o : Option Next) (a b : Next) → o ≡ Some a → o ≡ Some b → a ≡ b
one_next o a b e f = let same : Some a ≡ Some b = sym e ∙ f in cc

module _ (F : Fixed) (m : Machine) (history : List Item) (now : World) (i : ℕ) (next : Next) (is : MachineStands F m history now) (comes : next_of F m i ≡ Some next) where
  abbrev view : View
  view = m.core.view i

  abbrev found : ℕ
  found = word_of_next m.core.words view next

  abbrev after : View
  after = view_found F view next found

  -- no command is left to be begun, so what the seat has left is what its view has
  pub seat_after : seat_steps F (machine_after F m i next) i ≡ view_steps F after
  seat_after =
      let none : given_steps F (put i None m.given i) ≡ 0 = ap (given_steps F) (put_same i None m.given) in
      let same = ap (view_steps F) (view_here F m.core i next) in
      omega (arith, none, same)

  no_effect : is_without_effect (stage_of view.point) ≡ true → view.effect ≡ None
  no_effect = (is.core.seats i).unread.no_effect

  longest_length : length (longest_effect F).states ≡ length F.start.ids
  longest_length = length-map F.start.ids (λ (id : ℕ). let s : NewState = record { id = id; state = 0 } in s)

  -- ---- a command is begun

  begun_less : (c : Command) → m.given i ≡ Some c → next_at F view (m.given i) view.point ≡ Some next → view_steps F after < steps_of_command F
  begun_less c given at =
      let idle = (is.pending i c given).idle in
      let none = no_effect (ap (λ (p : Point). is_without_effect (stage_of p)) idle) in
      let begins : Begin c ≡ next = one_next (next_at F view (m.given i) view.point) (Begin c) next
      (ap (next_at F view (m.given i)) idle ∙ ap beginning given) at in
      subst (λ (n : Next). view_steps F (view_found F view n (word_of_next m.core.words view n)) < steps_of_command F) begins
      (subst (λ (o : Option Effect). left_at F (effect_or_longest F o) 1 (length view.again) (length view.wanted) Owning < steps_of_command F) (sym none) (omega arith))

  -- ---- a command is given up

  held_less : (point : Point) (e : Option Effect) → view.point ≡ point → is_taking point ≡ true
      → length (inner_held F point) + length (leaves_held point view.wanted) < left_at F e (length view.own) (length view.again) (length view.wanted) point
  held_less Idle e at taking = absurd (false≢true taking)
  held_less Owning e at taking = absurd (false≢true taking)
  held_less (Taking got rest) e at taking =
      let here = seat_at F m.core history now i (Taking got rest) is.core at in
      let all = ap length here.at.all in
      let both = length-append got rest in
      omega (arith, all, both)
  held_less Checking e at taking = absurd (false≢true taking)
  held_less (Entering node plan) e at taking = omega arith
  held_less (Entered node plan) e at taking = absurd (false≢true taking)
  held_less (Loading node part players plan) e at taking = absurd (false≢true taking)
  held_less (Leaving node plan) e at taking = absurd (false≢true taking)
  held_less (Sensing ids) e at taking = absurd (false≢true taking)
  held_less Resolving e at taking = omega arith
  held_less (Claiming got rest) e at taking = omega arith
  held_less (Storing nodes stores) e at taking = absurd (false≢true taking)
  held_less (Releasing nodes) e at taking = absurd (false≢true taking)
  held_less (Returning leaves) e at taking = absurd (false≢true taking)
  held_less (Yielding nodes leaves) e at taking = absurd (false≢true taking)

  quitting_less : m.quits i ≡ true → view_steps F after < view_steps F view
  quitting_less quits =
      let yields = first_yield F view in
      let same : quitting yields ≡ next = one_next (next_of F m i) (quitting yields) next
      (cond-true (m.quits i) (Some (quitting yields)) (next_at F view (m.given i) view.point) quits) comes in
      let left = subst (λ (n : Next). view_steps F (view_found F view n found) ≤ length (inner_held F view.point) + length (leaves_held view.point view.wanted)) same
      (left_quitting F view found yields) in
      let held = held_less view.point (effect_or_longest F view.effect) refl (is.quits i quits) in
      omega (arith, left, held)

  -- ---- a command is pursued

  module _ (lawful : IsLawful F) (start : IsStart F) (depth : IsTreeDepth F.tree.depth) (served : is_served next found ≡ true) where
    counting : (effect : Option Effect) → ((e : Effect) → view.effect ≡ Some e → effect ≡ Some e) → IsCounting F effect view
    counting effect kept = sound_views_count F effect view (sound_here F m history now i lawful start is depth) kept

    fewer : (effect : Option Effect) → ((e : Effect) → view.effect ≡ Some e → effect ≡ Some e) → next_with F view None false effect ≡ Some next → steps_left F effect after < steps_left F effect view
    fewer effect kept comes_with =
        let same : the_next (next_with F view None false effect) ≡ next = ap the_next comes_with in
        subst (λ (n : Next). steps_left F effect (view_found F view n found) < steps_left F effect view) same
        (served_steps_leave_fewer F effect view found (counting effect kept) (ap is_some comes_with) (subst (λ (n : Next). is_served n found ≡ true) (sym same) served))

    resolved_less : view.point ≡ Resolving → next_at F view None view.point ≡ Some next → view_steps F after < view_steps F view
    resolved_less at at_point =
        let e = effect_loaded F view in
        let nodes = write_nodes F (record_read view.cmd.slot view.again) e in
        let none = no_effect (ap (λ (p : Point). is_without_effect (stage_of p)) at) in
        let here : Some (resolving e nodes) ≡ Some next = ap (next_at F view None) (sym at) ∙ at_point in
        let same : resolving e nodes ≡ next = one_next (Some next) (resolving e nodes) next (sym here) refl in
        let less = fewer (Some e) (λ f there. absurd (no_some f (sym none ∙ there))) (ap (next_point F view None (Some e)) at ∙ here) in
        let enters = subst (λ (n : Next). is_served n found ≡ true → (view_found F view n found).effect ≡ Some e) same (effect_enters F view found e nodes) served in
        let left = subst (λ (o : Option Effect). steps_left F (effect_or_longest F o) after < steps_left F (Some e) view) (sym enters) less in
        let few = few_states F m.core history now i lawful start at is.core in
        let long = longest_length in
        let old : steps_left F (Some e) view ≡ 1 + (13 + length e.states + length view.wanted) = ap (left_at F (Some e) (length view.own) (length view.again) (length view.wanted)) at in
        let most : view_steps F view ≡ 1 + (13 + length (longest_effect F).states + length view.wanted) =
        ap (λ (o : Option Effect). steps_left F (effect_or_longest F o) view) none ∙ ap (left_at F (Some (longest_effect F)) (length view.own) (length view.again) (length view.wanted)) at in
        omega (arith, left, few, long, old, most)
      where
        no_some : (f : Effect) → None ≡ Some f → ⊥
        no_some f e = cc

    other_less : is_resolving view.point ≡ false → next_at F view None view.point ≡ Some next → view_steps F after < view_steps F view
    other_less not' at_point =
        let e = effect_or_longest F view.effect in
        let less = fewer e (λ f there. ap (effect_or_longest F) there) (same_next F view e view.point not' ∙ at_point) in
        let same = subst (λ (n : Next). SameOrDone (view_found F view n found) view) (ap the_next at_point) (same_effect F view found view.point refl not' (ap is_some at_point)) in
        elim same [
          | inl kept ↦ subst (λ (o : Option Effect). steps_left F (effect_or_longest F o) after < steps_left F e view) (sym kept) less
          | inr done ↦
              let none = ap (left_at F (effect_or_longest F after.effect) (length after.own) (length after.again) (length after.wanted)) done in
              omega (arith, less, none)
        ]

    resolving_at : (point : Point) → is_resolving point ≡ true → point ≡ Resolving
    resolving_at Idle e = absurd (false≢true e)
    resolving_at Owning e = absurd (false≢true e)
    resolving_at (Taking got rest) e = absurd (false≢true e)
    resolving_at Checking e = absurd (false≢true e)
    resolving_at (Entering node plan) e = absurd (false≢true e)
    resolving_at (Entered node plan) e = absurd (false≢true e)
    resolving_at (Loading node part players plan) e = absurd (false≢true e)
    resolving_at (Leaving node plan) e = absurd (false≢true e)
    resolving_at (Sensing ids) e = absurd (false≢true e)
    resolving_at Resolving e = refl
    resolving_at (Claiming got rest) e = absurd (false≢true e)
    resolving_at (Storing nodes stores) e = absurd (false≢true e)
    resolving_at (Releasing nodes) e = absurd (false≢true e)
    resolving_at (Returning leaves) e = absurd (false≢true e)
    resolving_at (Yielding nodes leaves) e = absurd (false≢true e)

    pursued_less : next_at F view None view.point ≡ Some next → view_steps F after < view_steps F view
    pursued_less at_point = elim (cases_Bool (is_resolving view.point)) [
      | inl due ↦ resolved_less (resolving_at view.point due) at_point
      | inr not' ↦ other_less not' at_point
    ]

    going_less : (given : Option Command) → m.given i ≡ given → next_at F view (m.given i) view.point ≡ Some next → view_steps F after < given_steps F given + view_steps F view
    going_less None e at_point =
        let less = pursued_less (ap (λ (o : Option Command). next_at F view o view.point) (sym e) ∙ at_point) in
        omega (arith, less)
    going_less (Some c) e at_point = let less = begun_less c e at_point in omega (arith, less)

    -- a served step leaves the seat fewer steps
    pub lowers : seat_steps F (machine_after F m i next) i < seat_steps F m i
    lowers = elim (cases_Bool (m.quits i)) [
      | inl quits ↦ let less = quitting_less quits in let same = seat_after in omega (arith, less, same)
      | inr goes ↦
          let less = going_less (m.given i) refl (sym (cond-false (m.quits i) (Some (quitting (first_yield F view))) (next_at F view (m.given i) view.point) goes) ∙ comes) in
          let same = seat_after in
          omega (arith, less, same)
    ]

  -- a refused take leaves it no more
  pub keeps : is_served next found ≡ false → seat_steps F (machine_after F m i next) i ≤ seat_steps F m i
  keeps refused =
      let same = seat_after in
      let kept = refused_keeps F view found next refused in
      omega (arith, same, kept)
