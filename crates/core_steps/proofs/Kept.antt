-- A log holds the commands that its seat was given and didn't give up, but the one that it still pursues.
use Rattle.std.proofs.Common.{◌≡◌, ℕ, Bool, true, false, List, [], ◌∷◌, ◌++◌, length, refl, sym, ap, ◌∙◌, subst, inl, inr, Option, Some, None, append_assoc, append-nil}
use Rattle.std.specs.Prelude.{◌==◌, ◌&&◌, not, if◌then◌else◌}
use Rattle.std.proofs.lemmas.Bool.{cases_Bool, false≢true, eqb-true, eq-eqb, and_from, cond-true, cond-false}
use Rattle.std.proofs.lemmas.List.{map-append}
use Rattle.entity_recs.specs.declared.effect.Effect.{Effect}
use Rattle.entity_recs.specs.Commands.{Command}
use Rattle.entity_recs.specs.Worlds.{World}
use Rattle.entity_recs.specs.Histories.{Item, commands_of}
use Rattle.core_steps.specs.Cells.{put, word_in, cell_of}
use Rattle.core_steps.specs.Nodes.{Fixed, write_nodes, leaf_nodes, plan_of}
use Rattle.core_steps.specs.Points.{Store, Point, Idle, Owning, Taking, Checking, Entering, Entered, Loading, Leaving}
use Rattle.core_steps.specs.Points.{Sensing, Resolving, Claiming, Storing, Releasing, Returning, Yielding, AtReading}
use Rattle.core_steps.specs.Points.{stage_of}
use Rattle.core_steps.specs.Reads.{View, without_command, record_read, effect_loaded, region_in, players_in}
use Rattle.core_steps.specs.Reads.{without_player}
use Rattle.core_steps.specs.Held.{inner_held, leaves_held}
use Rattle.core_steps.specs.Steps.{Core, rest_of, first_yield, next_give, is_taking, returning, released, yielding, yielded, visiting, loading, sensing, taking, storing, owned, checked, player_loaded, take_node, claim_node, refuse_node, view_after_take, view_after_claim, view_after_refusal, view_after_list, view_after_state, view_after_commit, view_after_give}
use Rattle.core_steps.specs.Stands.{IsStart, IsLawful}
use Rattle.core_steps.specs.Machine.{Machine, Next, Begin, LoadOwn, LoadAgain, TakeNode, ClaimNode, ReadList, ReadPlayer, ReadState, CommitMove, StoreWord, GiveNode, YieldNode, YieldCount, next_at, next_of, quitting, resolving, committing, giving, core_after, machine_after, items_after, MachineStands}
use Rattle.core_steps.specs.Calls.{Call, Give, Go, GiveUp, gone_on, after_call, after_calls, MayBeCalled, MayAllBeCalled, StandsSomehow, start_machine, is_pursued, pursued_of, pursued, without_last, kept_after, kept_by, MayBeGiven, with_given, with_quitting}
use Rattle.core_steps.specs.MachineLaws.{LogHoldsTheCommandsKept}
use Rattle.core_steps.proofs.Puts.{put_same, put_other, eqb_sym}
use Rattle.core_steps.proofs.Points.{sensing_between, visiting_between}
use Rattle.core_steps.proofs.Listing.{loading_listed}
use Rattle.core_steps.proofs.Reached.{machine_start_stands, stands_called, idle_at_start, log_at_start}
use Rattle.core_steps.proofs.Logs.{logs_grow_by_commits}

-- the command that a view pursues
abbrev pursued_view : View → List Command
pursued_view view = if is_pursued (stage_of view.point) then view.cmd ∷ [] else []

pursues : (view : View) → is_pursued (stage_of view.point) ≡ true → pursued_view view ≡ view.cmd ∷ []
pursues view e = cond-true (is_pursued (stage_of view.point)) (view.cmd ∷ []) [] e

pursues_none : (view : View) → is_pursued (stage_of view.point) ≡ false → pursued_view view ≡ []
pursues_none view e = cond-false (is_pursued (stage_of view.point)) (view.cmd ∷ []) [] e

-- a view that is one of two pursues what both pursue
pursued_of_two : (b : Bool) (one two : View) (commands : List Command) → pursued_view one ≡ commands → pursued_view two ≡ commands → pursued_view (if b then one else two) ≡ commands
pursued_of_two true one two commands a c = a
pursued_of_two false one two commands a c = c

pursued_of_cores : (b : Bool) (one two : Core) (i : ℕ) (commands : List Command) → pursued_view (one.view i) ≡ commands → pursued_view (two.view i) ≡ commands
    → pursued_view ((if b then one else two).view i) ≡ commands
pursued_of_cores true one two i commands a c = a
pursued_of_cores false one two i commands a c = c

none_returning : (view : View) (leaves : List ℕ) → pursued_view (returning view leaves) ≡ []
none_returning view [] = refl
none_returning view (leaf ∷ leaves) = refl

none_released : (view : View) (nodes : List ℕ) → pursued_view (released view nodes) ≡ []
none_released view [] = none_returning view (rest_of view.wanted)
none_released view (node ∷ nodes) = refl

none_yielding : (view : View) (nodes leaves : List ℕ) → pursued_view (yielding view nodes leaves) ≡ []
none_yielding view [] [] = refl
none_yielding view [] (leaf ∷ leaves) = refl
none_yielding view (node ∷ nodes) leaves = refl

none_yielded : (view : View) (nodes leaves : List ℕ) → pursued_view (yielded view nodes leaves) ≡ []
none_yielded view [] leaves = none_yielding view [] (rest_of leaves)
none_yielded view (node ∷ nodes) leaves = none_yielding view nodes leaves

none_storing : (nodes : List ℕ) (stores : List Store) → is_pursued (stage_of (storing nodes stores)) ≡ false
none_storing nodes [] = refl
none_storing nodes (store ∷ stores) = refl

taking_pursued : (got rest : List ℕ) → is_pursued (stage_of (taking got rest)) ≡ true
taking_pursued got [] = refl
taking_pursued got (leaf ∷ rest) = refl

module _ (F : Fixed) (m : Machine) (history : List Item) (now : World) (i : ℕ) (is : MachineStands F m history now) where
  abbrev view : View
  view = m.core.view i

  -- what is pursued and what is committed with this next step are what was pursued
  abbrev Pursues : Next → Type 0
  Pursues next = commands_of (items_after m.core i next) ++ pursued_view ((core_after F m.core i next).view i) ≡ pursued m i

  -- the seat goes on with its command
  module _ (none : m.given i ≡ None) (goes : m.quits i ≡ false) where
    pursued_is : pursued m i ≡ pursued_view view
    pursued_is = ap (λ (o : Option Command). pursued_of o (m.quits i) view) none ∙ ap (λ (b : Bool). pursued_of None b view) goes

    -- a new view that pursues what the old one does
    same : (new : View) → pursued_view new ≡ pursued_view view → pursued_view (put i new m.core.view i) ≡ pursued m i
    same new e = ap pursued_view (put_same i new m.core.view) ∙ e ∙ sym pursued_is

    -- both pursue the command
    both : (point : Point) (new : View) → view.point ≡ point → is_pursued (stage_of point) ≡ true → new.cmd ≡ view.cmd → is_pursued (stage_of new.point) ≡ true → pursued_view new ≡ pursued_view view
    both point new e here cmd there =
        pursues new there ∙ ap (λ (c : Command). c ∷ []) cmd ∙ sym (pursues view (ap (λ (p : Point). is_pursued (stage_of p)) e ∙ here))

    -- neither pursues a command
    neither : (point : Point) (new : View) → view.point ≡ point → is_pursued (stage_of point) ≡ false → pursued_view new ≡ [] → pursued_view new ≡ pursued_view view
    neither point new e here there = there ∙ sym (pursues_none view (ap (λ (p : Point). is_pursued (stage_of p)) e ∙ here))

    reading : (point : Point) → stage_of point ≡ AtReading → is_pursued (stage_of point) ≡ true
    reading point e = ap is_pursued e

    on_own : view.point ≡ Owning → Pursues LoadOwn
    on_own e =
        let more = record view { own = view.own ++ word_in m.core.words (cell_of view.cmd.slot (length view.own)) ∷ [] } in
        let leaves = leaf_nodes F (region_in F more.cmd more.own) in
        let full = record more { wanted = leaves; point = Taking [] leaves } in
        same (owned F more) (pursued_of_two (length more.own == 6) full more (pursued_view view) (both Owning full e refl refl refl)
        (both Owning more e refl refl (ap (λ (p : Point). is_pursued (stage_of p)) e)))

    on_again : view.point ≡ Checking → Pursues LoadAgain
    on_again e =
        let more = record view { again = view.again ++ word_in m.core.words (cell_of view.cmd.slot (length view.again)) ∷ [] } in
        let plan = plan_of F (region_in F more.cmd more.own) in
        let full = record more { point = visiting F more plan } in
        same (checked F more) (pursued_of_two (length more.again == 6) full more (pursued_view view)
        (both Checking full e refl refl (reading (visiting F more plan) (visiting_between F more plan).stage))
        (both Checking more e refl refl (ap (λ (p : Point). is_pursued (stage_of p)) e)))

    on_refused : (node : ℕ) → pursued_view (put i (view_after_refusal node (m.core.words.node node) view) m.core.view i) ≡ pursued m i
    on_refused node = same (view_after_refusal node (m.core.words.node node) view) refl

    on_take : (node : ℕ) (point : Point) → view.point ≡ point → is_pursued (stage_of point) ≡ true → is_pursued (stage_of (view_after_take node view).point) ≡ true → Pursues (TakeNode node)
    on_take node point e here there =
        pursued_of_cores (m.core.words.node node == 0) (take_node F m.core i node) (refuse_node m.core i node) i (pursued m i)
        (same (view_after_take node view) (both point (view_after_take node view) e here refl there)) (on_refused node)

    on_resolving : (nodes : List ℕ) → view.point ≡ Resolving → Pursues (resolving (effect_loaded F view) nodes)
    on_resolving [] e =
        let effect = effect_loaded F view in
        ap (λ (v : View). view.cmd ∷ pursued_view v) (put_same i (view_after_commit F m.core.words.commits effect [] view) m.core.view)
        ∙ sym (pursues view (ap (λ (p : Point). is_pursued (stage_of p)) e)) ∙ sym pursued_is
    on_resolving (node ∷ nodes) e =
        let effect = effect_loaded F view in
        pursued_of_cores (m.core.words.node node == 0) (claim_node F m.core i effect node) (refuse_node m.core i node) i (pursued m i)
        (same (view_after_claim F effect node view) (both Resolving (view_after_claim F effect node view) e refl refl refl)) (on_refused node)

    on_commit : (nodes : List ℕ) (effect : Effect) → view.point ≡ Claiming nodes [] → Pursues (CommitMove effect nodes)
    on_commit nodes effect e =
        ap (λ (v : View). view.cmd ∷ pursued_view v) (put_same i (view_after_commit F m.core.words.commits effect nodes view) m.core.view)
        ∙ sym (pursues view (ap (λ (p : Point). is_pursued (stage_of p)) e)) ∙ sym pursued_is

    on_list : (node : ℕ) (plan : List ℕ) → view.point ≡ Entered node plan → Pursues (ReadList node plan)
    on_list node plan e =
        let word = m.core.words.links node in
        let new = view_after_list F node plan word view in
        same new (both (Entered node plan) new e refl refl (reading new.point (loading_listed F view node (players_in word view.cmd.slot) plan).stage))

    on_player : (node : ℕ) (part : List ℕ) (slot : ℕ) (players plan : List ℕ) → view.point ≡ Loading node part (slot ∷ players) plan → Pursues (ReadPlayer node part slot players plan)
    on_player node part slot players plan e =
        let words = part ++ word_in m.core.words (cell_of slot (length part)) ∷ [] in
        let full = record view { others = record { slot = slot; words = words } ∷ without_player slot view.others; point = loading F view node players plan } in
        let more = record view { point = Loading node words (slot ∷ players) plan } in
        let old = Loading node part (slot ∷ players) plan in
        same (player_loaded F node words slot players plan view) (pursued_of_two (length words == 6) full more (pursued_view view)
        (both old full e refl refl (reading full.point (loading_listed F view node players plan).stage)) (both old more e refl refl refl))

    on_state : (id : ℕ) (ids : List ℕ) → view.point ≡ Sensing (id ∷ ids) → Pursues (ReadState id ids)
    on_state id ids e =
        let new = view_after_state id (m.core.words.state id) ids view in
        same new (both (Sensing (id ∷ ids)) new e refl refl (reading (sensing ids) (sensing_between F ids).stage))

    on_store : (nodes : List ℕ) (store : Store) (stores : List Store) → view.point ≡ Storing nodes (store ∷ stores) → Pursues (StoreWord nodes store stores)
    on_store nodes store stores e =
        let new = record view { point = storing nodes stores } in
        same new (neither (Storing nodes (store ∷ stores)) new e refl (pursues_none new (none_storing nodes stores)))

    on_give : (node : ℕ) (point : Point) → view.point ≡ point → pursued_view (view_after_give F view point) ≡ pursued_view view → Pursues (GiveNode node)
    on_give node point e gives =
        same (view_after_give F view view.point) (subst (λ (p : Point). pursued_view (view_after_give F view p) ≡ pursued_view view) (sym e) gives)

    as_next : (a next : Next) → Some a ≡ Some next → Pursues a → Pursues next
    as_next a next e is_a = let equal : a ≡ next = cc in subst Pursues equal is_a

    no_next : (next : Next) → None ≡ Some next → Pursues next
    no_next next e = cc

    on_committing : (effect : Option Effect) (nodes : List ℕ) (next : Next) → view.point ≡ Claiming nodes [] → committing effect nodes ≡ Some next → Pursues next
    on_committing None nodes next e comes = no_next next comes
    on_committing (Some effect) nodes next e comes = as_next (CommitMove effect nodes) next comes (on_commit nodes effect e)

    on_giving : (given : Option ℕ) (point : Point) (next : Next) → view.point ≡ point → pursued_view (view_after_give F view point) ≡ pursued_view view → giving given ≡ Some next → Pursues next
    on_giving None point next e gives comes = no_next next comes
    on_giving (Some node) point next e gives comes = as_next (GiveNode node) next comes (on_give node point e gives)

    on_point : (point : Point) (next : Next) → view.point ≡ point → next_at F view None point ≡ Some next → Pursues next
    on_point Idle next e comes = no_next next comes
    on_point Owning next e comes = as_next LoadOwn next comes (on_own e)
    on_point (Taking got []) next e comes = no_next next comes
    on_point (Taking got (leaf ∷ rest)) next e comes = as_next (TakeNode leaf) next comes (on_take leaf (Taking got (leaf ∷ rest)) e refl
        (subst (λ (p : Point). is_pursued (stage_of (view_after_take leaf (record view { point = p })).point) ≡ true) (sym e) (taking_pursued (got ++ leaf ∷ []) rest)))
    on_point Checking next e comes = as_next LoadAgain next comes (on_again e)
    on_point (Entering node plan) next e comes = as_next (TakeNode node) next comes (on_take node (Entering node plan) e refl
        (subst (λ (p : Point). is_pursued (stage_of (view_after_take node (record view { point = p })).point) ≡ true) (sym e) refl))
    on_point (Entered node plan) next e comes = as_next (ReadList node plan) next comes (on_list node plan e)
    on_point (Loading node part [] plan) next e comes = no_next next comes
    on_point (Loading node part (slot ∷ players) plan) next e comes = as_next (ReadPlayer node part slot players plan) next comes (on_player node part slot players plan e)
    on_point (Leaving node plan) next e comes =
        let new = record view { point = visiting F view plan } in
        as_next (GiveNode node) next comes (on_give node (Leaving node plan) e (both (Leaving node plan) new e refl refl (reading (visiting F view plan) (visiting_between F view plan).stage)))
    on_point (Sensing []) next e comes = no_next next comes
    on_point (Sensing (id ∷ ids)) next e comes = as_next (ReadState id ids) next comes (on_state id ids e)
    on_point Resolving next e comes =
        let writes = write_nodes F (record_read view.cmd.slot view.again) (effect_loaded F view) in
        as_next (resolving (effect_loaded F view) writes) next comes (on_resolving writes e)
    on_point (Claiming got []) next e comes = on_committing view.effect got next e comes
    on_point (Claiming got (node ∷ rest)) next e comes = as_next (TakeNode node) next comes (on_take node (Claiming got (node ∷ rest)) e refl
        (subst (λ (p : Point). is_pursued (stage_of (view_after_take node (record view { point = p })).point) ≡ true) (sym e) refl))
    on_point (Storing nodes []) next e comes = no_next next comes
    on_point (Storing nodes (store ∷ stores)) next e comes = as_next (StoreWord nodes store stores) next comes (on_store nodes store stores e)
    on_point (Releasing nodes) next e comes =
        on_giving (next_give (Releasing nodes) view.wanted) (Releasing nodes) next e (neither (Releasing nodes) (released view nodes) e refl (none_released view nodes)) comes
    on_point (Returning leaves) next e comes =
        on_giving (next_give (Returning leaves) view.wanted) (Returning leaves) next e (neither (Returning leaves) (returning view (rest_of leaves)) e refl (none_returning view (rest_of leaves))) comes
    on_point (Yielding nodes leaves) next e comes =
        on_giving (next_give (Yielding nodes leaves) view.wanted) (Yielding nodes leaves) next e (neither (Yielding nodes leaves) (yielded view nodes leaves) e refl (none_yielded view nodes leaves)) comes

-- ---- one step

-- what is pursued and what is committed with this next step are what was pursued
abbrev PursuesAt : Fixed → Machine → ℕ → Next → Type 0
PursuesAt F m i next = commands_of (items_after m.core i next) ++ pursued_view ((core_after F m.core i next).view i) ≡ pursued m i

-- where a node is to be taken next, the command is pursued
taking_is_pursued : (point : Point) → is_taking point ≡ true → is_pursued (stage_of point) ≡ true
taking_is_pursued Idle takes = absurd (false≢true takes)
taking_is_pursued Owning takes = absurd (false≢true takes)
taking_is_pursued (Taking got rest) takes = refl
taking_is_pursued Checking takes = absurd (false≢true takes)
taking_is_pursued (Entering node plan) takes = refl
taking_is_pursued (Entered node plan) takes = absurd (false≢true takes)
taking_is_pursued (Loading node part players plan) takes = absurd (false≢true takes)
taking_is_pursued (Leaving node plan) takes = absurd (false≢true takes)
taking_is_pursued (Sensing ids) takes = absurd (false≢true takes)
taking_is_pursued Resolving takes = refl
taking_is_pursued (Claiming got rest) takes = refl
taking_is_pursued (Storing nodes stores) takes = absurd (false≢true takes)
taking_is_pursued (Releasing nodes) takes = absurd (false≢true takes)
taking_is_pursued (Returning leaves) takes = absurd (false≢true takes)
taking_is_pursued (Yielding nodes leaves) takes = absurd (false≢true takes)

no_given : (given : Option Command) → ((c : Command) → given ≡ Some c → ⊥) → given ≡ None
no_given None none = refl
no_given (Some c) none = absurd (none c refl)

-- a seat at a take has no command that isn't begun
none_at_take : (F : Fixed) (m : Machine) (history : List Item) (now : World) (i : ℕ) → MachineStands F m history now → is_taking (m.core.view i).point ≡ true → m.given i ≡ None
none_at_take F m history now i is takes = no_given (m.given i) (λ c given.
    false≢true (ap is_taking (sym (is.pending i c given).idle) ∙ takes))

quit_pursues : (F : Fixed) (m : Machine) (history : List Item) (now : World) (i : ℕ) (yields : Option ℕ) → MachineStands F m history now → m.quits i ≡ true
    → PursuesAt F m i (quitting yields)
quit_pursues F m history now i yields is quits =
    let view = m.core.view i in
    let none = none_at_take F m history now i is (is.quits i quits) in
    let old : pursued m i ≡ [] = ap (λ (o : Option Command). pursued_of o (m.quits i) view) none ∙ ap (λ (b : Bool). pursued_of None b view) quits in
    by_first yields old
  where
    by_first : (yields : Option ℕ) → pursued m i ≡ [] → PursuesAt F m i (quitting yields)
    by_first None old =
        ap pursued_view (put_same i (record (without_command (m.core.view i)) { seen = m.core.words.commits }) m.core.view) ∙ sym old
    by_first (Some node) old =
        let view = m.core.view i in
        let new = yielded view (inner_held F view.point) (leaves_held view.point view.wanted) in
        ap pursued_view (put_same i new m.core.view) ∙ none_yielded view (inner_held F view.point) (leaves_held view.point view.wanted) ∙ sym old

go_pursues : (F : Fixed) (m : Machine) (history : List Item) (now : World) (i : ℕ) (given : Option Command) (next : Next) → MachineStands F m history now → m.given i ≡ given → m.quits i ≡ false
    → next_at F (m.core.view i) given (m.core.view i).point ≡ Some next → PursuesAt F m i next
go_pursues F m history now i None next is given goes comes = on_point F m history now i is given goes (m.core.view i).point next refl comes
go_pursues F m history now i (Some c) next is given goes comes =
    let view = m.core.view i in
    let idle = (is.pending i c given).idle in
    let begun : Some (Begin c) ≡ Some next = ap (next_at F view (Some c)) (sym idle) ∙ comes in
    let equal : Begin c ≡ next = cc in
    let new = record view { cmd = c; own = word_in m.core.words (cell_of c.slot 0) ∷ []; point = Owning } in
    subst (PursuesAt F m i) equal (ap pursued_view (put_same i new m.core.view) ∙ sym (ap (λ (o : Option Command). pursued_of o (m.quits i) view) given))

-- what a step commits and still pursues is what was pursued
step_pursues : (F : Fixed) (m : Machine) (history : List Item) (now : World) (i : ℕ) (next : Next) → MachineStands F m history now → next_of F m i ≡ Some next → PursuesAt F m i next
step_pursues F m history now i next is comes =
    let view = m.core.view i in
    elim (cases_Bool (m.quits i)) [
      | inl quits ↦
          let same : Some (quitting (first_yield F view)) ≡ Some next =
          sym (cond-true (m.quits i) (Some (quitting (first_yield F view))) (next_at F view (m.given i) view.point) quits) ∙ comes in
          let equal : quitting (first_yield F view) ≡ next = cc in
          subst (PursuesAt F m i) equal (quit_pursues F m history now i (first_yield F view) is quits)
      | inr goes ↦ go_pursues F m history now i (m.given i) next is refl goes
          (sym (cond-false (m.quits i) (Some (quitting (first_yield F view))) (next_at F view (m.given i) view.point) goes) ∙ comes)
    ]

-- ---- one call

-- another seat's view is the same after a step
view_of_cores : (b : Bool) (one two : Core) (i : ℕ) (seen : View) → one.view i ≡ seen → two.view i ≡ seen → (if b then one else two).view i ≡ seen
view_of_cores true one two i seen a c = a
view_of_cores false one two i seen a c = c

pub other_view : (F : Fixed) (core : Core) (j i : ℕ) (next : Next) → (i == j) ≡ false → (core_after F core j next).view i ≡ core.view i
other_view F core j i (Begin c) other = put_other j i _ core.view other
other_view F core j i LoadOwn other = put_other j i _ core.view other
other_view F core j i LoadAgain other = put_other j i _ core.view other
other_view F core j i (TakeNode node) other =
    view_of_cores (core.words.node node == 0) (take_node F core j node) (refuse_node core j node) i (core.view i) (put_other j i _ core.view other) (put_other j i _ core.view other)
other_view F core j i (ClaimNode e node) other =
    view_of_cores (core.words.node node == 0) (claim_node F core j e node) (refuse_node core j node) i (core.view i) (put_other j i _ core.view other) (put_other j i _ core.view other)
other_view F core j i (ReadList node plan) other = put_other j i _ core.view other
other_view F core j i (ReadPlayer node part slot players plan) other = put_other j i _ core.view other
other_view F core j i (ReadState id ids) other = put_other j i _ core.view other
other_view F core j i (CommitMove e nodes) other = put_other j i _ core.view other
other_view F core j i (StoreWord nodes store stores) other = put_other j i _ core.view other
other_view F core j i (GiveNode node) other = put_other j i _ core.view other
other_view F core j i (YieldNode node) other = put_other j i _ core.view other
other_view F core j i YieldCount other = put_other j i _ core.view other

-- the commands that are logged and the one that is pursued
abbrev held_by : Machine → ℕ → List Command
held_by m i = commands_of (m.core.view i).log ++ pursued m i

go_on_keeps : (F : Fixed) (m : Machine) (history : List Item) (now : World) (i j : ℕ) (next : Next) → MachineStands F m history now → next_of F m j ≡ Some next
    → held_by (machine_after F m j next) i ≡ held_by m i
go_on_keeps F m history now i j next is comes =
    let log = logs_grow_by_commits F m j i next in
    let items = items_after m.core j next in
    elim (cases_Bool (i == j)) [
      | inl same ↦
          let at : i ≡ j = eqb-true i j same in
          let here : held_by (machine_after F m j next) j ≡ held_by m j =
          let log_j = logs_grow_by_commits F m j j next in
          let grown : ((machine_after F m j next).core.view j).log ≡ (m.core.view j).log ++ items = log_j ∙ cond-true (j == j) ((m.core.view j).log ++ items) (m.core.view j).log (eq-eqb j j refl) in
          let new : pursued (machine_after F m j next) j ≡ pursued_view ((core_after F m.core j next).view j) =
          ap (λ (o : Option Command). pursued_of o (put j false m.quits j) ((core_after F m.core j next).view j)) (put_same j None m.given)
          ∙ ap (λ (b : Bool). pursued_of None b ((core_after F m.core j next).view j)) (put_same j false m.quits) in
          ap (λ (l : List Item). commands_of l ++ pursued (machine_after F m j next) j) grown
          ∙ ap (λ (cs : List Command). cs ++ pursued (machine_after F m j next) j) (map-append (λ (item : Item). item.command) (m.core.view j).log items)
          ∙ ap (λ (cs : List Command). (commands_of (m.core.view j).log ++ commands_of items) ++ cs) new
          ∙ append_assoc (commands_of (m.core.view j).log) (commands_of items) (pursued_view ((core_after F m.core j next).view j))
          ∙ ap (λ (cs : List Command). commands_of (m.core.view j).log ++ cs) (step_pursues F m history now j next is comes) in
          subst (λ (n : ℕ). held_by (machine_after F m j next) n ≡ held_by m n) (sym at) here
      | inr other ↦
          let kept : ((machine_after F m j next).core.view i).log ≡ (m.core.view i).log = log ∙ cond-false (i == j) ((m.core.view j).log ++ items) (m.core.view i).log other in
          let view = other_view F m.core j i next other in
          let still : pursued (machine_after F m j next) i ≡ pursued m i =
          ap (λ (o : Option Command). pursued_of o (put j false m.quits i) ((core_after F m.core j next).view i)) (put_other j i None m.given other)
          ∙ ap (λ (b : Bool). pursued_of (m.given i) b ((core_after F m.core j next).view i)) (put_other j i false m.quits other)
          ∙ ap (pursued_of (m.given i) (m.quits i)) view in
          ap (λ (l : List Item). commands_of l ++ pursued (machine_after F m j next) i) kept ∙ ap (λ (cs : List Command). commands_of (m.core.view i).log ++ cs) still
    ]

without_last_is : (commands : List Command) (c : Command) → without_last (commands ++ c ∷ []) ≡ commands
without_last_is [] c = refl
without_last_is (d ∷ []) c = refl
without_last_is (d ∷ e ∷ commands) c = ap (λ (cs : List Command). d ∷ cs) (without_last_is (e ∷ commands) c)

-- where a command may be given nothing is pursued
none_pursued : (F : Fixed) (m : Machine) (history : List Item) (now : World) (i : ℕ) → MachineStands F m history now → m.given i ≡ None → (m.core.view i).point ≡ Idle → pursued m i ≡ []
none_pursued F m history now i is given idle =
    let view = m.core.view i in
    ap (λ (o : Option Command). pursued_of o (m.quits i) view) given ∙ elim (cases_Bool (m.quits i)) [
      | inl quits ↦ ap (λ (b : Bool). pursued_of None b view) quits
      | inr goes ↦ ap (λ (b : Bool). pursued_of None b view) goes ∙ pursues_none view (ap (λ (p : Point). is_pursued (stage_of p)) idle)
    ]

give_keeps : (F : Fixed) (m : Machine) (history : List Item) (now : World) (i j : ℕ) (c : Command) (kept : List Command) → MachineStands F m history now → MayBeGiven F m j c → held_by m i ≡ kept
    → held_by (with_given m j c) i ≡ kept_after m i (Give j c) kept
give_keeps F m history now i j c kept is may same = elim (cases_Bool (j == i)) [
  | inl here ↦
      let at : j ≡ i = eqb-true j i here in
      let before = none_pursued F m history now j is may.none may.pending.idle in
      let new : pursued (with_given m j c) j ≡ c ∷ [] = ap (λ (o : Option Command). pursued_of o (m.quits j) (m.core.view j)) (put_same j (Some c) m.given) in
      let now_held : held_by (with_given m j c) j ≡ held_by m j ++ c ∷ [] =
      ap (λ (cs : List Command). commands_of (m.core.view j).log ++ cs) new
      ∙ ap (λ (cs : List Command). cs ++ c ∷ []) (sym (append-nil (commands_of (m.core.view j).log)))
      ∙ ap (λ (cs : List Command). (commands_of (m.core.view j).log ++ cs) ++ c ∷ []) (sym before) in
      subst (λ (n : ℕ). held_by (with_given m j c) n ≡ held_by m n ++ c ∷ []) at now_held ∙ ap (λ (cs : List Command). cs ++ c ∷ []) same
      ∙ sym (cond-true (j == i) (kept ++ c ∷ []) kept here)
  | inr other ↦
      ap (λ (o : Option Command). commands_of (m.core.view i).log ++ pursued_of o (m.quits i) (m.core.view i)) (put_other j i (Some c) m.given (eqb_sym j i other)) ∙ same
      ∙ sym (cond-false (j == i) (kept ++ c ∷ []) kept other)
]

quit_keeps : (F : Fixed) (m : Machine) (history : List Item) (now : World) (i j : ℕ) (kept : List Command) → MachineStands F m history now → is_taking (m.core.view j).point ≡ true → held_by m i ≡ kept
    → held_by (with_quitting m j) i ≡ kept_after m i (GiveUp j) kept
quit_keeps F m history now i j kept is takes same = elim (cases_Bool (j == i)) [
  | inl here ↦
      let at : j ≡ i = eqb-true j i here in
      let view = m.core.view j in
      let none = none_at_take F m history now j is takes in
      let new : pursued (with_quitting m j) j ≡ [] =
      ap (λ (o : Option Command). pursued_of o (put j true m.quits j) view) none ∙ ap (λ (b : Bool). pursued_of None b view) (put_same j true m.quits) in
      let dropped : held_by (with_quitting m j) j ≡ commands_of view.log = ap (λ (cs : List Command). commands_of view.log ++ cs) new ∙ append-nil (commands_of view.log) in
      let right : held_by m j ≡ kept = subst (λ (n : ℕ). held_by m n ≡ kept) (sym at) same in
      let both : (j == i) ≡ true = here in
      subst (λ (n : ℕ). held_by (with_quitting m j) n ≡ kept_after m n (GiveUp j) kept) at (dropped ∙ elim (cases_Bool (m.quits j)) [
        | inl quits ↦
            let old : pursued m j ≡ [] = ap (λ (o : Option Command). pursued_of o (m.quits j) view) none ∙ ap (λ (b : Bool). pursued_of None b view) quits in
            sym (append-nil (commands_of view.log)) ∙ ap (λ (cs : List Command). commands_of view.log ++ cs) (sym old) ∙ right
            ∙ sym (cond-false ((j == j) && not (m.quits j)) (without_last kept) kept (ap (λ (b : Bool). (j == j) && not b) quits ∙ and_right (j == j)))
        | inr goes ↦
            let old : pursued m j ≡ view.cmd ∷ [] =
            ap (λ (o : Option Command). pursued_of o (m.quits j) view) none ∙ ap (λ (b : Bool). pursued_of None b view) goes ∙ pursues view (taking_is_pursued view.point takes) in
            let whole : commands_of view.log ++ view.cmd ∷ [] ≡ kept = ap (λ (cs : List Command). commands_of view.log ++ cs) (sym old) ∙ right in
            sym (without_last_is (commands_of view.log) view.cmd) ∙ ap without_last whole
            ∙ sym (cond-true ((j == j) && not (m.quits j)) (without_last kept) kept (and_from (j == j) (not (m.quits j)) (eq-eqb j j refl) (ap not goes)))
      ])
  | inr other ↦
      ap (λ (b : Bool). commands_of (m.core.view i).log ++ pursued_of (m.given i) b (m.core.view i)) (put_other j i true m.quits (eqb_sym j i other)) ∙ same
      ∙ sym (cond-false ((j == i) && not (m.quits i)) (without_last kept) kept (ap (λ (b : Bool). b && not (m.quits i)) other))
]
  where
    and_right : (b : Bool) → (b && not true) ≡ false
    and_right true = refl
    and_right false = refl

step_keeps : (F : Fixed) (m : Machine) (history : List Item) (now : World) (i j : ℕ) (next : Option Next) (kept : List Command) → MachineStands F m history now → next_of F m j ≡ next → held_by m i ≡ kept
    → held_by (gone_on F m j next) i ≡ kept
step_keeps F m history now i j None kept is comes same = same
step_keeps F m history now i j (Some next) kept is comes same = go_on_keeps F m history now i j next is comes ∙ same

call_keeps : (F : Fixed) (m : Machine) (history : List Item) (now : World) (i : ℕ) (call : Call) (kept : List Command) → MachineStands F m history now → MayBeCalled F m call → held_by m i ≡ kept
    → held_by (after_call F m call) i ≡ kept_after m i call kept
call_keeps F m history now i (Give j c) kept is may same = give_keeps F m history now i j c kept is may same
call_keeps F m history now i (Go j) kept is may same = step_keeps F m history now i j (next_of F m j) kept is refl same
call_keeps F m history now i (GiveUp j) kept is may same = quit_keeps F m history now i j kept is may same

-- ---- all calls

calls_keep : (F : Fixed) (m : Machine) (i : ℕ) (calls : List Call) (kept : List Command) → IsLawful F → IsStart F → StandsSomehow F m → MayAllBeCalled F m calls → held_by m i ≡ kept
    → held_by (after_calls F m calls) i ≡ kept_by F m i calls kept
calls_keep F m i [] kept lawful start is may same = same
calls_keep F m i (call ∷ calls) kept lawful start is may same =
    calls_keep F (after_call F m call) i calls (kept_after m i call kept) lawful start (stands_called F m call lawful start may.0 is) may.1
    (call_keeps F m is.history is.now i call kept is.stands may.0 same)

pub log_holds_the_commands_kept : LogHoldsTheCommandsKept
log_holds_the_commands_kept F room rooms calls i lawful start may =
    let m = start_machine F room rooms in
    let stands = machine_start_stands F room rooms in
    let idle : (m.core.view i).point ≡ Idle = idle_at_start F room rooms i in
    let log : (m.core.view i).log ≡ [] = log_at_start F room rooms i in
    calls_keep F m i calls [] lawful start (record { history = []; now = F.start; stands = stands }) may
    (ap (λ (l : List Item). commands_of l ++ pursued m i) log ∙ none_pursued F m [] F.start i stands refl idle)
