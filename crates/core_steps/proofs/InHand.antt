-- No step brings a command into a seat's hand.
use Rattle.std.proofs.Common.{◌≡◌, ℕ, Bool, true, false, List, [], ◌∷◌, ◌++◌, length, refl, sym, ap, ◌∙◌, subst, inl, inr, Option, Some, None}
use Rattle.std.specs.Prelude.{◌==◌, if◌then◌else◌}
use Rattle.std.proofs.lemmas.Bool.{cases_Bool, false≢true, true≢false, eqb-true, cond-true, cond-false}
use Rattle.entity_recs.specs.declared.effect.Effect.{Effect}
use Rattle.entity_recs.specs.Commands.{Command}
use Rattle.entity_recs.specs.Worlds.{World}
use Rattle.entity_recs.specs.Histories.{Item}
use Rattle.core_steps.specs.Cells.{put, word_in, cell_of}
use Rattle.core_steps.specs.Nodes.{Fixed, write_nodes, leaf_nodes, plan_of}
use Rattle.core_steps.specs.Points.{Point, Idle, Owning, Taking, Checking, Entering, Entered, Loading, Leaving, Sensing}
use Rattle.core_steps.specs.Points.{Resolving, Claiming, Storing, Releasing, Returning, Yielding, stage_of, is_busy}
use Rattle.core_steps.specs.Reads.{View, record_read, effect_loaded, region_in, without_command, without_player}
use Rattle.core_steps.specs.Held.{inner_held, leaves_held}
use Rattle.core_steps.specs.Steps.{Core, rest_of, first_yield, next_give, is_taking, returning, released, yielding, yielded, visiting, loading, storing, owned, checked, player_loaded, take_node, claim_node, refuse_node, view_after_begin, view_after_take, view_after_claim, view_after_refusal, view_after_list, view_after_state, view_after_commit, view_after_give}
use Rattle.core_steps.specs.Machine.{Machine, Next, Begin, LoadOwn, LoadAgain, TakeNode, ClaimNode, ReadList, ReadPlayer, ReadState, CommitMove, StoreWord, GiveNode, YieldNode, YieldCount, giving, quitting, beginning, resolving, committing, next_at, next_of, core_after, machine_after, MachineStands}
use Rattle.core_steps.specs.MachineLaws.{hand_of, in_hand, StepsBringNoCommand}
use Rattle.core_steps.proofs.Puts.{put_same, put_other}
use Rattle.core_steps.proofs.OneView.{steps_change_one_view}

-- the command in view after what comes next
abbrev command_next : View → Next → Command
command_next view (Begin c) = c
command_next view LoadOwn = view.cmd
command_next view LoadAgain = view.cmd
command_next view (TakeNode node) = view.cmd
command_next view (ClaimNode e node) = view.cmd
command_next view (ReadList node plan) = view.cmd
command_next view (ReadPlayer node part slot players plan) = view.cmd
command_next view (ReadState id ids) = view.cmd
command_next view (CommitMove e nodes) = view.cmd
command_next view (StoreWord nodes store stores) = view.cmd
command_next view (GiveNode node) = view.cmd
command_next view (YieldNode node) = view.cmd
command_next view YieldCount = view.cmd

-- where the view has a command in hand, it is this one
record IsCommandOf (c : Command) (view : View) : Type 0 where
  cmd : is_busy (stage_of view.point) ≡ true → view.cmd ≡ c

has_same : (c : Command) (view : View) → view.cmd ≡ c → IsCommandOf c view
has_same c view e = record { cmd = λ busy. e }

has_none : (c : Command) (view : View) → is_busy (stage_of view.point) ≡ false → IsCommandOf c view
has_none c view idle = record { cmd = λ busy. absurd (false≢true (sym idle ∙ busy)) }

of_returning : (view : View) (leaves : List ℕ) → IsCommandOf view.cmd (returning view leaves)
of_returning view [] = has_none view.cmd (returning view []) refl
of_returning view (leaf ∷ leaves) = has_same view.cmd (returning view (leaf ∷ leaves)) refl

of_released : (view : View) (nodes : List ℕ) → IsCommandOf view.cmd (released view nodes)
of_released view [] = of_returning view (rest_of view.wanted)
of_released view (node ∷ nodes) = has_same view.cmd (released view (node ∷ nodes)) refl

of_yielding : (view : View) (nodes leaves : List ℕ) → IsCommandOf view.cmd (yielding view nodes leaves)
of_yielding view [] [] = has_none view.cmd (yielding view [] []) refl
of_yielding view [] (leaf ∷ leaves) = has_same view.cmd (yielding view [] (leaf ∷ leaves)) refl
of_yielding view (node ∷ nodes) leaves = has_same view.cmd (yielding view (node ∷ nodes) leaves) refl

of_yielded : (view : View) (nodes leaves : List ℕ) → IsCommandOf view.cmd (yielded view nodes leaves)
of_yielded view [] leaves = of_yielding view [] (rest_of leaves)
of_yielded view (node ∷ nodes) leaves = of_yielding view nodes leaves

of_given : (F : Fixed) (view : View) (point : Point) → IsCommandOf view.cmd (view_after_give F view point)
of_given F view Idle = has_same view.cmd view refl
of_given F view Owning = has_same view.cmd view refl
of_given F view (Taking got rest) = has_same view.cmd view refl
of_given F view Checking = has_same view.cmd view refl
of_given F view (Entering node plan) = has_same view.cmd view refl
of_given F view (Entered node plan) = has_same view.cmd view refl
of_given F view (Loading node part players plan) = has_same view.cmd view refl
of_given F view (Leaving node plan) = has_same view.cmd (view_after_give F view (Leaving node plan)) refl
of_given F view (Sensing ids) = has_same view.cmd view refl
of_given F view Resolving = has_same view.cmd view refl
of_given F view (Claiming got rest) = has_same view.cmd view refl
of_given F view (Storing nodes stores) = has_same view.cmd view refl
of_given F view (Releasing nodes) = of_released view nodes
of_given F view (Returning leaves) = of_returning view (rest_of leaves)
of_given F view (Yielding nodes leaves) = of_yielded view nodes leaves

of_two : (b : Bool) (c : Command) (one two : View) → IsCommandOf c one → IsCommandOf c two → IsCommandOf c (if b then one else two)
of_two true c one two a d = a
of_two false c one two a d = d

of_cores : (b : Bool) (c : Command) (one two : Core) (i : ℕ) → IsCommandOf c (one.view i) → IsCommandOf c (two.view i) → IsCommandOf c ((if b then one else two).view i)
of_cores true c one two i a d = a
of_cores false c one two i a d = d

-- after a step the seat has the command that the step names, where it has one
after_step : (F : Fixed) (core : Core) (i : ℕ) (next : Next) → IsCommandOf (command_next (core.view i) next) ((core_after F core i next).view i)
after_step F core i next = by_kind next
  where
    here : (c : Command) (new : View) → IsCommandOf c new → IsCommandOf c (put i new core.view i)
    here c new is = subst (IsCommandOf c) (sym (put_same i new core.view)) is

    by_kind : (next : Next) → IsCommandOf (command_next (core.view i) next) ((core_after F core i next).view i)
    by_kind (Begin c) = let new = view_after_begin c (word_in core.words (cell_of c.slot 0)) (core.view i) in here c new (has_same c new refl)
    by_kind LoadOwn =
        let more = record (core.view i) { own = (core.view i).own ++ word_in core.words (cell_of (core.view i).cmd.slot (length (core.view i).own)) ∷ [] } in
        let leaves = leaf_nodes F (region_in F more.cmd more.own) in
        let whole = record more { wanted = leaves; point = Taking [] leaves } in
        here (core.view i).cmd (owned F more) (of_two (length more.own == 6) (core.view i).cmd whole more (has_same (core.view i).cmd whole refl) (has_same (core.view i).cmd more refl))
    by_kind LoadAgain =
        let more = record (core.view i) { again = (core.view i).again ++ word_in core.words (cell_of (core.view i).cmd.slot (length (core.view i).again)) ∷ [] } in
        let whole = record more { point = visiting F more (plan_of F (region_in F more.cmd more.own)) } in
        here (core.view i).cmd (checked F more) (of_two (length more.again == 6) (core.view i).cmd whole more (has_same (core.view i).cmd whole refl) (has_same (core.view i).cmd more refl))
    by_kind (TakeNode node) =
        let taken = view_after_take node (core.view i) in
        let refused = view_after_refusal node (core.words.node node) (core.view i) in
        of_cores (core.words.node node == 0) (core.view i).cmd (take_node F core i node) (refuse_node core i node) i
        (here (core.view i).cmd taken (has_same (core.view i).cmd taken refl)) (here (core.view i).cmd refused (has_same (core.view i).cmd refused refl))
    by_kind (ClaimNode e node) =
        let taken = view_after_claim F e node (core.view i) in
        let refused = view_after_refusal node (core.words.node node) (core.view i) in
        of_cores (core.words.node node == 0) (core.view i).cmd (claim_node F core i e node) (refuse_node core i node) i
        (here (core.view i).cmd taken (has_same (core.view i).cmd taken refl)) (here (core.view i).cmd refused (has_same (core.view i).cmd refused refl))
    by_kind (ReadList node plan) = let new = view_after_list F node plan (core.words.links node) (core.view i) in here (core.view i).cmd new (has_same (core.view i).cmd new refl)
    by_kind (ReadPlayer node part slot players plan) =
        let words = part ++ word_in core.words (cell_of slot (length part)) ∷ [] in
        let whole = record (core.view i) { others = record { slot = slot; words = words } ∷ without_player slot (core.view i).others; point = loading F (core.view i) node players plan } in
        let more = record (core.view i) { point = Loading node words (slot ∷ players) plan } in
        here (core.view i).cmd (player_loaded F node words slot players plan (core.view i))
        (of_two (length words == 6) (core.view i).cmd whole more (has_same (core.view i).cmd whole refl) (has_same (core.view i).cmd more refl))
    by_kind (ReadState id ids) = let new = view_after_state id (core.words.state id) ids (core.view i) in here (core.view i).cmd new (has_same (core.view i).cmd new refl)
    by_kind (CommitMove e nodes) = let new = view_after_commit F core.words.commits e nodes (core.view i) in here (core.view i).cmd new (has_same (core.view i).cmd new refl)
    by_kind (StoreWord nodes store stores) = let new = record (core.view i) { point = storing nodes stores } in here (core.view i).cmd new (has_same (core.view i).cmd new refl)
    by_kind (GiveNode node) = here (core.view i).cmd (view_after_give F (core.view i) (core.view i).point) (of_given F (core.view i) (core.view i).point)
    by_kind (YieldNode node) =
        let inner = inner_held F (core.view i).point in
        let leaves = leaves_held (core.view i).point (core.view i).wanted in
        here (core.view i).cmd (yielded (core.view i) inner leaves) (of_yielded (core.view i) inner leaves)
    by_kind YieldCount = let new = record (without_command (core.view i)) { seen = core.words.commits } in here (core.view i).cmd new (has_none (core.view i).cmd new refl)

-- ---- whose command it is

module _ (view : View) (P : Command → Type 0) where
  command_is : (a next : Next) → Some a ≡ Some next → P (command_next view a) → P (command_next view next)
  command_is a next e p = subst (λ (o : Option Next). holds_of o) e p
    where
      holds_of : Option Next → Type 0
      holds_of None = Unit {0}
      holds_of (Some n) = P (command_next view n)

  none_comes : {R : Type 0} (next : Next) → None ≡ Some next → R
  none_comes next e = cc

  giving_is : (given : Option ℕ) (next : Next) → giving given ≡ Some next → P view.cmd → P (command_next view next)
  giving_is None next e p = none_comes next e
  giving_is (Some node) next e p = command_is (GiveNode node) next e p

  committing_is : (effect : Option Effect) (nodes : List ℕ) (next : Next) → committing effect nodes ≡ Some next → P view.cmd → P (command_next view next)
  committing_is None nodes next e p = none_comes next e
  committing_is (Some f) nodes next e p = command_is (CommitMove f nodes) next e p

  resolving_is : (f : Effect) (nodes : List ℕ) → P view.cmd → P (command_next view (resolving f nodes))
  resolving_is f [] p = p
  resolving_is f (node ∷ nodes) p = p

  quitting_is : (o : Option ℕ) → P view.cmd → P (command_next view (quitting o))
  quitting_is None p = p
  quitting_is (Some node) p = p

  beginning_is : (given : Option Command) (next : Next) → beginning given ≡ Some next → ((c : Command) → given ≡ Some c → P c) → P (command_next view next)
  beginning_is None next e p = none_comes next e
  beginning_is (Some c) next e p = command_is (Begin c) next e (p c refl)

  next_is : (F : Fixed) (given : Option Command) (point : Point) (next : Next) → next_at F view given point ≡ Some next
      → ((c : Command) → given ≡ Some c → P c) → (is_busy (stage_of point) ≡ true → P view.cmd) → P (command_next view next)
  next_is F given Idle next e new old = beginning_is given next e new
  next_is F given Owning next e new old = command_is LoadOwn next e (old refl)
  next_is F given (Taking got []) next e new old = none_comes next e
  next_is F given (Taking got (leaf ∷ rest)) next e new old = command_is (TakeNode leaf) next e (old refl)
  next_is F given Checking next e new old = command_is LoadAgain next e (old refl)
  next_is F given (Entering node plan) next e new old = command_is (TakeNode node) next e (old refl)
  next_is F given (Entered node plan) next e new old = command_is (ReadList node plan) next e (old refl)
  next_is F given (Loading node part [] plan) next e new old = none_comes next e
  next_is F given (Loading node part (slot ∷ players) plan) next e new old = command_is (ReadPlayer node part slot players plan) next e (old refl)
  next_is F given (Leaving node plan) next e new old = command_is (GiveNode node) next e (old refl)
  next_is F given (Sensing []) next e new old = none_comes next e
  next_is F given (Sensing (id ∷ ids)) next e new old = command_is (ReadState id ids) next e (old refl)
  next_is F given Resolving next e new old =
      let effect = effect_loaded F view in
      let nodes = write_nodes F (record_read view.cmd.slot view.again) effect in
      command_is (resolving effect nodes) next e (resolving_is effect nodes (old refl))
  next_is F given (Claiming got []) next e new old = committing_is view.effect got next e (old refl)
  next_is F given (Claiming got (node ∷ rest)) next e new old = command_is (TakeNode node) next e (old refl)
  next_is F given (Storing nodes []) next e new old = none_comes next e
  next_is F given (Storing nodes (store ∷ stores)) next e new old = command_is (StoreWord nodes store stores) next e (old refl)
  next_is F given (Releasing nodes) next e new old = giving_is (next_give (Releasing nodes) view.wanted) next e (old refl)
  next_is F given (Returning leaves) next e new old = giving_is (next_give (Returning leaves) view.wanted) next e (old refl)
  next_is F given (Yielding nodes leaves) next e new old = giving_is (next_give (Yielding nodes leaves) view.wanted) next e (old refl)

  taking_busy : (point : Point) → is_taking point ≡ true → is_busy (stage_of point) ≡ true
  taking_busy Idle e = e
  taking_busy Owning e = refl
  taking_busy (Taking got rest) e = refl
  taking_busy Checking e = refl
  taking_busy (Entering node plan) e = refl
  taking_busy (Entered node plan) e = refl
  taking_busy (Loading node part players plan) e = refl
  taking_busy (Leaving node plan) e = refl
  taking_busy (Sensing ids) e = refl
  taking_busy Resolving e = refl
  taking_busy (Claiming got rest) e = refl
  taking_busy (Storing nodes stores) e = refl
  taking_busy (Releasing nodes) e = refl
  taking_busy (Returning leaves) e = refl
  taking_busy (Yielding nodes leaves) e = refl

  -- the command that a step names is the one that was given, or the one in view
  asked_is : (F : Fixed) (given : Option Command) (quits : Bool) (next : Next) → (if quits then Some (quitting (first_yield F view)) else next_at F view given view.point) ≡ Some next
      → (quits ≡ true → is_taking view.point ≡ true) → ((c : Command) → given ≡ Some c → P c) → (is_busy (stage_of view.point) ≡ true → P view.cmd) → P (command_next view next)
  asked_is F given true next e at new old = command_is (quitting (first_yield F view)) next e (quitting_is (first_yield F view) (old (taking_busy view.point (at refl))))
  asked_is F given false next e at new old = next_is F given view.point next e new old

-- ---- the command in hand

pub hand_given : (given : Option Command) (view : View) (c : Command) → given ≡ Some c → hand_of given view ≡ Some c
hand_given None view c e = cc
hand_given (Some d) view c e = e

hand_in_view : (given : Option Command) (view : View) → given ≡ None → is_busy (stage_of view.point) ≡ true → hand_of given view ≡ Some view.cmd
hand_in_view None view e busy = cond-true (is_busy (stage_of view.point)) (Some view.cmd) None busy
hand_in_view (Some d) view e busy = cc

-- what is known of a view with a command in hand, where none is left to be begun
record IsHeld (view : View) (c : Command) : Type 0 where
  busy : is_busy (stage_of view.point) ≡ true
  cmd : view.cmd ≡ c

held_in : (view : View) (c : Command) → hand_of None view ≡ Some c → IsHeld view c
held_in view c e = elim (cases_Bool (is_busy (stage_of view.point))) [
  | inl busy ↦ let same = sym (cond-true (is_busy (stage_of view.point)) (Some view.cmd) None busy) ∙ e in record { busy = busy; cmd = cc }
  | inr idle ↦ let none = sym (cond-false (is_busy (stage_of view.point)) (Some view.cmd) None idle) ∙ e in cc
]

none_given : (given : Option Command) → ((c : Command) → given ≡ Some c → ⊥) → given ≡ None
none_given None none = refl
none_given (Some c) none = absurd (none c refl)

module _ (F : Fixed) (m : Machine) (history : List Item) (now : World) (i : ℕ) (next : Next) (is : MachineStands F m history now) (comes : next_of F m i ≡ Some next) where
  -- of a seat with a command in view none is left to be begun
  none_left : is_busy (stage_of (m.core.view i).point) ≡ true → m.given i ≡ None
  none_left busy = none_given (m.given i) (λ c e. true≢false (sym busy ∙ ap (λ (p : Point). is_busy (stage_of p)) (is.pending i c e).idle))

  own_hand : (c : Command) → hand_of None ((core_after F m.core i next).view i) ≡ Some c → in_hand m i ≡ Some c
  own_hand c e =
      let new = (core_after F m.core i next).view i in
      let held = held_in new c e in
      let same : command_next (m.core.view i) next ≡ c = sym ((after_step F m.core i next).cmd held.busy) ∙ held.cmd in
      subst (λ (d : Command). in_hand m i ≡ Some d) same
      (asked_is (m.core.view i) (λ (d : Command). in_hand m i ≡ Some d) F (m.given i) (m.quits i) next comes (is.quits i)
      (λ d given. hand_given (m.given i) (m.core.view i) d given) (λ busy. hand_in_view (m.given i) (m.core.view i) (none_left busy) busy))

  each_hand : (j : ℕ) (c : Command) → in_hand (machine_after F m i next) j ≡ Some c → in_hand m j ≡ Some c
  each_hand j c e = elim (cases_Bool (j == i)) [
    | inl same ↦
        let at : j ≡ i = eqb-true j i same in
        subst (λ (k : ℕ). in_hand m k ≡ Some c) (sym at)
        (own_hand c (ap (λ (given : Option Command). hand_of given ((core_after F m.core i next).view i)) (sym (put_same i None m.given)) ∙ subst (λ (k : ℕ). in_hand (machine_after F m i next) k ≡ Some c) at e))
    | inr other ↦
        ap (λ (given : Option Command). hand_of given (m.core.view j)) (sym (put_other i j None m.given other))
        ∙ ap (λ (v : View). hand_of (put i None m.given j) v) (sym ((steps_change_one_view F m i).step next j other)) ∙ e
  ]

pub steps_bring_no_command : StepsBringNoCommand
steps_bring_no_command F m history now i next comes is j c e = each_hand F m history now i next is comes j c e
