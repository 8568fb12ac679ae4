-- Each next step of a seat keeps what the machine holds, kind by kind.
use Rattle.std.proofs.Common.{◌≡◌, ℕ, ◌<◌, ◌≤◌, true, false, not, List, [], ◌∷◌, ◌++◌, length, refl, sym, ap, ◌∙◌, subst, inl, inr, Option, Some, None, arith, append-nil}
use Rattle.std.specs.Prelude.{◌==◌, filter}
use Rattle.std.proofs.lemmas.Bool.{cases_Bool, false≢true, eqb-true, eq-eqb, or_cases, or_left, cond-true, cond-false}
use Rattle.entity_recs.specs.declared.effect.Effect.{Effect}
use Rattle.entity_recs.specs.Commands.{Command}
use Rattle.entity_recs.specs.Worlds.{World}
use Rattle.entity_recs.specs.Histories.{Item, run}
use Rattle.core_steps.specs.Cells.{put, word_in, cell_of}
use Rattle.core_steps.specs.Nodes.{has, Fixed, write_nodes, leaf_nodes, plan_of, home}
use Rattle.core_steps.specs.Points.{Store, Point, Idle, Owning, Taking, Checking, Entering, Entered, Loading, Leaving}
use Rattle.core_steps.specs.Points.{Sensing, Resolving, Claiming, Storing, Releasing, Returning, Yielding, stage_of}
use Rattle.core_steps.specs.Points.{is_busy, is_whole, stores_of}
use Rattle.core_steps.specs.Reads.{View, without_command, record_read, effect_loaded, region_in, players_in}
use Rattle.core_steps.specs.Reads.{without_player}
use Rattle.core_steps.specs.Held.{inner_held, leaves_held}
use Rattle.core_steps.specs.Steps.{Core, item_at, commit, store_next, storing, yielded, view_after_refusal, view_after_take, view_after_claim, view_after_list, view_after_state, view_after_commit, first, first_yield, is_taking, next_take, next_give, point_after_take, view_after_give, view_after_own, view_after_again, player_loaded, take_node, refuse_node, claim_node, give_node, yield_node, visiting, loading, taking, rest_of, sensing}
use Rattle.core_steps.specs.Stands.{IsStart, IsLawful, SeatStands, Stands, AreDistinct}
use Rattle.core_steps.specs.Machine.{Machine, Next, Begin, LoadOwn, LoadAgain, TakeNode, ClaimNode, ReadList, ReadPlayer, ReadState, CommitMove, StoreWord, GiveNode, YieldNode, YieldCount, next_at, quitting, resolving, beginning, committing, giving, core_after, machine_after, items_after, SomeIsLeft, Fits, lists_ahead, states_ahead, slots_of, MachineStands}
use Rattle.core_steps.specs.MachineLaws.{NextStepStands}
use Rattle.core_steps.proofs.Giving.{seat_at}
use Rattle.core_steps.proofs.Lists.{has_front, has_filter, distinct_filter}
use Rattle.core_steps.proofs.Puts.{put_same, eqb_sym}
use Rattle.core_steps.proofs.Owned.{begun_move_stands, loaded_own_stands}
use Rattle.core_steps.proofs.Again.{loaded_again_stands}
use Rattle.core_steps.proofs.Listing.{loaded_list_stands}
use Rattle.core_steps.proofs.Players.{loaded_player_stands}
use Rattle.core_steps.proofs.Sensing.{loaded_state_stands}
use Rattle.core_steps.proofs.Takes.{taken_node_stands, refused_node_stands}
use Rattle.core_steps.proofs.Claiming.{claimed_node_stands}
use Rattle.core_steps.proofs.Commits.{committed_held_stands, committed_free_stands}
use Rattle.core_steps.proofs.Storing.{stored_next_stands}
use Rattle.core_steps.proofs.GiveBacks.{given_node_stands, yielded_node_stands, yielded_nothing_stands, taking_point}
use Rattle.core_steps.proofs.Machines.{fits_less, fits_none, fits_last, lists_sensing, states_sensing, lists_visiting, states_visiting, lists_loading, states_loading, GoesOn, goes_to, goes_idle, goes_returned, goes_released, goes_yielded, IsAmong, left_sensing, left_visiting, left_loading, left_taking, left_storing, machine_on, busy_on}
use Rattle.core_steps.proofs.Planned.{plan_length, slots_without, gone}

-- where a node is to be taken next, the leaves held are among those wanted
held_among : (F : Fixed) (core : Core) (history : List Item) (now : World) (i : ℕ) (point : Point) → Stands F core history now → (core.view i).point ≡ point → is_taking point ≡ true
    → IsAmong (leaves_held point (core.view i).wanted) (core.view i).wanted
held_among F core history now i Idle is e takes = absurd (false≢true takes)
held_among F core history now i Owning is e takes = absurd (false≢true takes)
held_among F core history now i (Taking got rest) is e takes = λ v there.
    let at = (seat_at F core history now i (Taking got rest) is e).at in
    subst (λ (ns : List ℕ). has ns v ≡ true) at.all (has_front got rest v there)
held_among F core history now i Checking is e takes = absurd (false≢true takes)
held_among F core history now i (Entering n plan) is e takes = λ v there. there
held_among F core history now i (Entered n plan) is e takes = absurd (false≢true takes)
held_among F core history now i (Loading n part players plan) is e takes = absurd (false≢true takes)
held_among F core history now i (Leaving n plan) is e takes = absurd (false≢true takes)
held_among F core history now i (Sensing ids) is e takes = absurd (false≢true takes)
held_among F core history now i Resolving is e takes = λ v there. there
held_among F core history now i (Claiming got rest) is e takes = λ v there. there
held_among F core history now i (Storing nodes stores) is e takes = absurd (false≢true takes)
held_among F core history now i (Releasing nodes) is e takes = absurd (false≢true takes)
held_among F core history now i (Returning leaves) is e takes = absurd (false≢true takes)
held_among F core history now i (Yielding nodes leaves) is e takes = absurd (false≢true takes)

module _ (F : Fixed) (m : Machine) (history : List Item) (now : World) (i : ℕ) (lawful : IsLawful F) (start : IsStart F) (is : MachineStands F m history now) where
  abbrev view : View
  view = m.core.view i

  -- the machine after the step stands, with its item in the history
  abbrev StandsAfter : Next → Type 0
  StandsAfter next = MachineStands F (machine_after F m i next) (history ++ items_after m.core i next) (run F.effect_of now (items_after m.core i next))

  -- a history that stays
  stays : (next : Machine) → MachineStands F next history now → MachineStands F next (history ++ []) now
  stays next stands = subst (λ (h : List Item). MachineStands F next h now) (sym (append-nil history)) stands

  busy_at : (point : Point) → view.point ≡ point → is_busy (stage_of point) ≡ true → is_busy (stage_of view.point) ≡ true
  busy_at point e busy = ap (λ (p : Point). is_busy (stage_of p)) e ∙ busy

  some_at : (point : Point) → view.point ≡ point → is_whole (stage_of point) ≡ true → 0 < length view.wanted
  some_at point e whole = (is.next i).some_wanted (ap (λ (p : Point). is_whole (stage_of p)) e ∙ whole)

  -- what was read fits at another point with no more ahead
  fits_at : (point new : Point) → view.point ≡ point → lists_ahead F new ≤ lists_ahead F point → states_ahead F new ≤ states_ahead F point → Fits F new view.lists view.others view.states
  fits_at point new e fewer less = fits_less F point new view.lists view.others view.states (subst (λ (p : Point). Fits F p view.lists view.others view.states) e (is.fits i)) fewer less

  on_begin : (c : Command) → m.given i ≡ Some c → StandsAfter (Begin c)
  on_begin c given =
      let pending = is.pending i c given in
      stays (machine_after F m i (Begin c)) (machine_on F m history history now now i m.core.words (record view { cmd = c; own = word_in m.core.words (cell_of c.slot 0) ∷ []; point = Owning }) is
      (λ j d other left _. is.given_apart j i d c other left given) (record { some_wanted = λ whole. absurd (false≢true whole); left = tt }) (fits_at Idle Owning pending.idle (omega arith) (omega arith))
      (begun_move_stands F m.core history now i c (record { lives = pending.lives; idle = pending.idle }) pending.command pending.room
      (λ j other busy. is.busy_apart i j c (eqb_sym j i other) given busy) is.core))

  on_own : view.point ≡ Owning → StandsAfter LoadOwn
  on_own e =
      let own = view.own ++ word_in m.core.words (cell_of view.cmd.slot (length view.own)) ∷ [] in
      let leaves = leaf_nodes F (region_in F view.cmd own) in
      let more = record view { own = own } in
      let full = record view { own = own; wanted = leaves; point = Taking [] leaves } in
      let new = view_after_own F (word_in m.core.words (cell_of view.cmd.slot (length view.own))) view in
      let stands = loaded_own_stands F m.core history now i lawful start e is.core in
      let seat : SeatStands F m.core.words history now i new = subst (SeatStands F m.core.words history now i) (put_same i new m.core.view) (stands.seats i) in
      stays (machine_after F m i LoadOwn) (busy_on F m history history now now i m.core.words new is (busy_at Owning e refl) (elim (cases_Bool (length own == 6)) [
        | inl six ↦
            let same = cond-true (length own == 6) full more six in
            let stood : SeatStands F m.core.words history now i full = subst (SeatStands F m.core.words history now i) same seat in
            subst (GoesOn F view) (sym same) (record { cmd = λ _. refl; next = record { some_wanted = λ _. stood.at.left; left = tt }; fits = fits_at Owning (Taking [] leaves) e (omega arith) (omega arith) })
        | inr fewer ↦ subst (GoesOn F view) (sym (cond-false (length own == 6) full more fewer)) (record {
          cmd = λ _. refl;
          next = record { some_wanted = λ whole. absurd (false≢true (sym (ap (λ (p : Point). is_whole (stage_of p)) e) ∙ whole)); left = subst (λ (p : Point). SomeIsLeft p view.wanted) (sym e) tt };
          fits = is.fits i;
        })
      ]) stands)

  again_fits : view.point ≡ Checking → (more : View) → Fits F (visiting F more (plan_of F (region_in F view.cmd view.own))) view.lists view.others view.states
  again_fits e more =
      let plan = plan_of F (region_in F view.cmd view.own) in
      let fewer = lists_visiting F more plan in
      let most = plan_length F (region_in F view.cmd view.own) in
      fits_at Checking (visiting F more plan) e (omega (arith, fewer, most)) (states_visiting F more plan)

  on_again : view.point ≡ Checking → StandsAfter LoadAgain
  on_again e =
      let again = view.again ++ word_in m.core.words (cell_of view.cmd.slot (length view.again)) ∷ [] in
      let more = record view { again = again } in
      let point = visiting F more (plan_of F (region_in F view.cmd view.own)) in
      let some = some_at Checking e refl in
      stays (machine_after F m i LoadAgain) (busy_on F m history history now now i m.core.words (view_after_again F (word_in m.core.words (cell_of view.cmd.slot (length view.again))) view) is
      (busy_at Checking e refl) (elim (cases_Bool (length again == 6)) [
        | inl six ↦ subst (GoesOn F view) (sym (cond-true (length again == 6) (record more { point = point }) more six)) (record {
          cmd = λ _. refl;
          next = record { some_wanted = λ _. some; left = left_visiting F more (plan_of F (region_in F view.cmd view.own)) view.wanted };
          fits = again_fits e more;
        })
        | inr fewer ↦ subst (GoesOn F view) (sym (cond-false (length again == 6) (record more { point = point }) more fewer)) (record {
          cmd = λ _. refl;
          next = record { some_wanted = λ _. some; left = subst (λ (p : Point). SomeIsLeft p view.wanted) (sym e) tt };
          fits = is.fits i;
        })
      ]) (loaded_again_stands F m.core history now i lawful start e is.core))

  -- a take, which is refused where the node is held
  on_refused : (next : Next) (node : ℕ) → is_taking view.point ≡ true → (m.core.words.node node == 0) ≡ false → core_after F m.core i next ≡ refuse_node m.core i node
      → MachineStands F (record { core = core_after F m.core i next; given = put i None m.given; quits = put i false m.quits }) history now
  on_refused next node takes held same =
      let point = taking_point view.point takes in
      subst (λ (core : Core). MachineStands F (record { core = core; given = put i None m.given; quits = put i false m.quits }) history now) (sym same)
      (busy_on F m history history now now i m.core.words (view_after_refusal node (m.core.words.node node) view) is point.busy (record { cmd = λ _. refl; next = is.next i; fits = is.fits i })
      (refused_node_stands F m.core history now i node takes held is.core))

  on_take : (node : ℕ) (point : Point) → view.point ≡ point → is_taking point ≡ true → next_take point ≡ Some node → is_whole (stage_of point) ≡ true → SomeIsLeft (point_after_take node point) view.wanted
      → Fits F (point_after_take node point) view.lists view.others view.states → StandsAfter (TakeNode node)
  on_take node point e takes next whole left fits =
      let takes_here : is_taking view.point ≡ true = ap is_taking e ∙ takes in
      stays (machine_after F m i (TakeNode node)) (elim (cases_Bool (m.core.words.node node == 0)) [
        | inl free ↦
            let same = cond-true (m.core.words.node node == 0) (take_node F m.core i node) (refuse_node m.core i node) free in
            subst (λ (core : Core). MachineStands F (record { core = core; given = put i None m.given; quits = put i false m.quits }) history now) (sym same)
            (busy_on F m history history now now i (take_node F m.core i node).words (view_after_take node view) is (taking_point view.point takes_here).busy
            (record {
              cmd = λ _. refl;
              next = record { some_wanted = λ _. some_at point e whole; left = subst (λ (p : Point). SomeIsLeft (point_after_take node p) view.wanted) (sym e) left };
              fits = subst (λ (p : Point). Fits F (point_after_take node p) view.lists view.others view.states) (sym e) fits;
            })
            (taken_node_stands F m.core history now i node (ap next_take e ∙ next) (eqb-true (m.core.words.node node) 0 free) is.core))
        | inr held ↦ on_refused (TakeNode node) node takes_here held (cond-false (m.core.words.node node == 0) (take_node F m.core i node) (refuse_node m.core i node) held)
      ])

  fits_taking : (got : List ℕ) (leaf : ℕ) (rest : List ℕ) → view.point ≡ Taking got (leaf ∷ rest) → Fits F (taking (got ++ leaf ∷ []) rest) view.lists view.others view.states
  fits_taking got leaf [] e = fits_at (Taking got (leaf ∷ [])) Checking e (omega arith) (omega arith)
  fits_taking got leaf (next ∷ rest) e = fits_at (Taking got (leaf ∷ next ∷ rest)) (Taking (got ++ leaf ∷ []) (next ∷ rest)) e (omega arith) (omega arith)

  on_claim : (node : ℕ) (nodes : List ℕ) → view.point ≡ Resolving → write_nodes F (record_read view.cmd.slot view.again) (effect_loaded F view) ≡ node ∷ nodes
      → StandsAfter (ClaimNode (effect_loaded F view) node)
  on_claim node nodes e writes =
      let effect = effect_loaded F view in
      stays (machine_after F m i (ClaimNode effect node)) (elim (cases_Bool (m.core.words.node node == 0)) [
        | inl free ↦
            let same = cond-true (m.core.words.node node == 0) (claim_node F m.core i effect node) (refuse_node m.core i node) free in
            subst (λ (core : Core). MachineStands F (record { core = core; given = put i None m.given; quits = put i false m.quits }) history now) (sym same)
            (busy_on F m history history now now i (claim_node F m.core i effect node).words (view_after_claim F effect node view) is (busy_at Resolving e refl)
            (record {
              cmd = λ _. refl;
              next = record { some_wanted = λ _. some_at Resolving e refl; left = tt };
              fits = fits_at Resolving (Claiming (node ∷ []) (rest_of (write_nodes F (record_read view.cmd.slot view.again) effect))) e (omega arith) (omega arith);
            })
            (claimed_node_stands F m.core history now i effect node lawful start e refl (ap first writes) (eqb-true (m.core.words.node node) 0 free) is.core))
        | inr held ↦ on_refused (ClaimNode effect node) node (ap is_taking e) held (cond-false (m.core.words.node node == 0) (claim_node F m.core i effect node) (refuse_node m.core i node) held)
      ])

  list_fits : (node : ℕ) (plan : List ℕ) → view.point ≡ Entered node plan
      → Fits F (loading F view node (players_in (m.core.words.links node) view.cmd.slot) plan) (record { node = node; word = m.core.words.links node } ∷ view.lists) view.others view.states
  list_fits node plan e =
      let old : Fits F (Entered node plan) view.lists view.others view.states = subst (λ (p : Point). Fits F p view.lists view.others view.states) e (is.fits i) in
      let players = players_in (m.core.words.links node) view.cmd.slot in
      let fewer = lists_loading F view node players plan in
      let less = states_loading F view node players plan in
      record { few_lists = omega (arith, old.few_lists, fewer); once = old.once; below = old.below; few_states = omega (arith, old.few_states, less) }

  on_list : (node : ℕ) (plan : List ℕ) → view.point ≡ Entered node plan → StandsAfter (ReadList node plan)
  on_list node plan e =
      let word = m.core.words.links node in
      let read = record view { lists = record { node = node; word = word } ∷ view.lists } in
      stays (machine_after F m i (ReadList node plan)) (busy_on F m history history now now i m.core.words (view_after_list F node plan word view) is (busy_at (Entered node plan) e refl)
      (record {
        cmd = λ _. refl;
        next = record { some_wanted = λ _. some_at (Entered node plan) e refl; left = left_loading F view node (players_in word view.cmd.slot) plan view.wanted };
        fits = list_fits node plan e;
      })
      (loaded_list_stands F m.core history now i node plan lawful start e is.core))

  player_fits : (node : ℕ) (part : List ℕ) (slot : ℕ) (players plan words : List ℕ) → view.point ≡ Loading node part (slot ∷ players) plan
      → Fits F (loading F view node players plan) view.lists (record { slot = slot; words = words } ∷ without_player slot view.others) view.states
  player_fits node part slot players plan words e =
      let old = fits_at (Loading node part (slot ∷ players) plan) (Loading node part (slot ∷ players) plan) e (omega arith) (omega arith) in
      let at = (seat_at F m.core history now i (Loading node part (slot ∷ players) plan) is.core e).at in
      let load = at.load.each slot (or_left _ _ (eq-eqb slot slot refl)) in
      let fewer = lists_loading F view node players plan in
      let less = states_loading F view node players plan in
      let only : slots_of (without_player slot view.others) ≡ filter (λ v. not (v == slot)) (slots_of view.others) = slots_without slot view.others in
      record {
        few_lists = omega (arith, old.few_lists, fewer);
        once = (ap (λ (ns : List ℕ). has ns slot) only ∙ gone slot (slots_of view.others), subst AreDistinct (sym only) (distinct_filter (λ v. not (v == slot)) (slots_of view.others) old.once));
        below = λ p there. elim (or_cases (slot == p) (has (slots_of (without_player slot view.others)) p) there) [
          | inl same ↦ subst (λ (n : ℕ). n < 64) (eqb-true slot p same) load.player
          | inr rest ↦ old.below p (has_filter (λ v. not (v == slot)) (slots_of view.others) p (ap (λ (ns : List ℕ). has ns p) (sym only) ∙ rest)).listed
        ];
        few_states = omega (arith, old.few_states, less);
      }

  on_player : (node : ℕ) (part : List ℕ) (slot : ℕ) (players plan : List ℕ) → view.point ≡ Loading node part (slot ∷ players) plan → StandsAfter (ReadPlayer node part slot players plan)
  on_player node part slot players plan e =
      let some = some_at (Loading node part (slot ∷ players) plan) e refl in
      let words = part ++ word_in m.core.words (cell_of slot (length part)) ∷ [] in
      let full = record view { others = record { slot = slot; words = words } ∷ without_player slot view.others; point = loading F view node players plan } in
      let more = record view { point = Loading node words (slot ∷ players) plan } in
      stays (machine_after F m i (ReadPlayer node part slot players plan)) (busy_on F m history history now now i m.core.words (player_loaded F node words slot players plan view) is
      (busy_at (Loading node part (slot ∷ players) plan) e refl) (elim (cases_Bool (length words == 6)) [
        | inl six ↦ subst (GoesOn F view) (sym (cond-true (length words == 6) full more six)) (record {
          cmd = λ _. refl;
          next = record { some_wanted = λ _. some; left = left_loading F view node players plan view.wanted };
          fits = player_fits node part slot players plan words e;
        })
        | inr fewer ↦ subst (GoesOn F view) (sym (cond-false (length words == 6) full more fewer)) (record {
          cmd = λ _. refl;
          next = record { some_wanted = λ _. some; left = tt };
          fits = fits_at (Loading node part (slot ∷ players) plan) (Loading node words (slot ∷ players) plan) e (omega arith) (omega arith);
        })
      ]) (loaded_player_stands F m.core history now i node slot part players plan lawful start e is.core))

  state_fits : (id : ℕ) (ids : List ℕ) → view.point ≡ Sensing (id ∷ ids)
      → Fits F (sensing ids) view.lists view.others (record { id = id; state = m.core.words.state id } ∷ view.states)
  state_fits id ids e =
      let old : Fits F (Sensing (id ∷ ids)) view.lists view.others view.states = subst (λ (p : Point). Fits F p view.lists view.others view.states) e (is.fits i) in
      let fewer = lists_sensing F ids in
      let less = states_sensing F ids in
      record { few_lists = omega (arith, old.few_lists, fewer); once = old.once; below = old.below; few_states = omega (arith, old.few_states, less) }

  on_state : (id : ℕ) (ids : List ℕ) → view.point ≡ Sensing (id ∷ ids) → StandsAfter (ReadState id ids)
  on_state id ids e =
      stays (machine_after F m i (ReadState id ids)) (busy_on F m history history now now i m.core.words (view_after_state id (m.core.words.state id) ids view) is (busy_at (Sensing (id ∷ ids)) e refl)
      (record { cmd = λ _. refl; next = record { some_wanted = λ _. some_at (Sensing (id ∷ ids)) e refl; left = left_sensing ids view.wanted }; fits = state_fits id ids e })
      (loaded_state_stands F m.core history now i id ids lawful start e is.core))

  goes_committed : (e : Effect) (nodes : List ℕ) → 0 < length view.wanted → GoesOn F view (view_after_commit F m.core.words.commits e nodes view)
  goes_committed e nodes some = record {
    cmd = λ _. refl;
    next = record { some_wanted = λ _. some; left = tt };
    fits = fits_last F view (Storing nodes (stores_of F view.cmd.slot (home F (record_read view.cmd.slot view.again)) e)) (is.fits i) (omega arith) (omega arith);
  }

  on_commit_held : (nodes : List ℕ) (effect : Effect) → view.point ≡ Claiming nodes [] → view.effect ≡ Some effect → StandsAfter (CommitMove effect nodes)
  on_commit_held nodes effect e seen =
      let item = item_at m.core.words.commits view effect in
      busy_on F m history (history ++ item ∷ []) now (run F.effect_of now (item ∷ [])) i (commit F m.core i effect nodes).words (view_after_commit F m.core.words.commits effect nodes view) is
      (busy_at (Claiming nodes []) e refl) (goes_committed effect nodes (some_at (Claiming nodes []) e refl))
      (committed_held_stands F m.core history now i nodes effect lawful start e seen is.core)

  on_commit_free : view.point ≡ Resolving → write_nodes F (record_read view.cmd.slot view.again) (effect_loaded F view) ≡ [] → StandsAfter (CommitMove (effect_loaded F view) [])
  on_commit_free e none =
      let effect = effect_loaded F view in
      let item = item_at m.core.words.commits view effect in
      busy_on F m history (history ++ item ∷ []) now (run F.effect_of now (item ∷ [])) i (commit F m.core i effect []).words (view_after_commit F m.core.words.commits effect [] view) is
      (busy_at Resolving e refl) (goes_committed effect [] (some_at Resolving e refl)) (committed_free_stands F m.core history now i effect lawful start e refl none is.core)

  on_resolving : (nodes : List ℕ) → view.point ≡ Resolving → write_nodes F (record_read view.cmd.slot view.again) (effect_loaded F view) ≡ nodes → StandsAfter (resolving (effect_loaded F view) nodes)
  on_resolving [] e writes = on_commit_free e writes
  on_resolving (node ∷ nodes) e writes = on_claim node nodes e writes

  store_fits : (nodes : List ℕ) (stores : List Store) → Fits F (storing nodes stores) view.lists view.others view.states
  store_fits nodes [] = fits_last F view (Releasing nodes) (is.fits i) (omega arith) (omega arith)
  store_fits nodes (store ∷ stores) = fits_last F view (Storing nodes (store ∷ stores)) (is.fits i) (omega arith) (omega arith)

  on_store : (nodes : List ℕ) (store : Store) (stores : List Store) → view.point ≡ Storing nodes (store ∷ stores) → StandsAfter (StoreWord nodes store stores)
  on_store nodes store stores e =
      stays (machine_after F m i (StoreWord nodes store stores)) (busy_on F m history history now now i (store_next m.core i nodes store stores).words (record view { point = storing nodes stores }) is
      (busy_at (Storing nodes (store ∷ stores)) e refl) (goes_to F view (storing nodes stores) (some_at (Storing nodes (store ∷ stores)) e refl) (left_storing nodes stores view.wanted) (store_fits nodes stores))
      (stored_next_stands F m.core history now i nodes store stores lawful start e is.core))

  on_give : (node : ℕ) (point : Point) → view.point ≡ point → is_busy (stage_of point) ≡ true → next_give point view.wanted ≡ Some node → GoesOn F view (view_after_give F view point) → StandsAfter (GiveNode node)
  on_give node point e busy next goes =
      stays (machine_after F m i (GiveNode node)) (busy_on F m history history now now i (give_node F m.core i node).words (view_after_give F view view.point) is (busy_at point e busy)
      (subst (λ (p : Point). GoesOn F view (view_after_give F view p)) (sym e) goes)
      (given_node_stands F m.core history now i node (ap (λ (p : Point). next_give p view.wanted) e ∙ next) is.core))

  on_yield : (first : Option ℕ) → is_taking view.point ≡ true → first_yield F view ≡ first → StandsAfter (quitting first)
  on_yield None takes none =
      let point = taking_point view.point takes in
      stays (machine_after F m i YieldCount) (busy_on F m history history now now i m.core.words (record (without_command view) { seen = m.core.words.commits }) is point.busy
      (goes_idle F view (record (without_command view) { seen = m.core.words.commits }) refl (fits_none F)) (yielded_nothing_stands F m.core history now i takes none is.core))
  on_yield (Some node) takes some =
      let point = taking_point view.point takes in
      let wanted = (is.next i).some_wanted point.whole in
      stays (machine_after F m i (YieldNode node)) (busy_on F m history history now now i (yield_node F m.core i node).words
      (yielded view (inner_held F view.point) (leaves_held view.point view.wanted)) is point.busy
      (goes_yielded F view (inner_held F view.point) (leaves_held view.point view.wanted) wanted (held_among F m.core history now i view.point is.core refl takes) (is.fits i)) (yielded_node_stands F m.core history now i node takes some is.core))

  -- ---- what comes next

  as_next : (a next : Next) → Some a ≡ Some next → StandsAfter a → StandsAfter next
  as_next a next same stands = let equal : a ≡ next = cc in subst StandsAfter equal stands

  no_next : (next : Next) → None ≡ Some next → StandsAfter next
  no_next next none = cc

  on_beginning : (given : Option Command) (next : Next) → m.given i ≡ given → beginning given ≡ Some next → StandsAfter next
  on_beginning None next e comes = no_next next comes
  on_beginning (Some c) next e comes = as_next (Begin c) next comes (on_begin c e)

  on_committing : (effect : Option Effect) (nodes : List ℕ) (next : Next) → view.point ≡ Claiming nodes [] → view.effect ≡ effect → committing effect nodes ≡ Some next → StandsAfter next
  on_committing None nodes next e seen comes = no_next next comes
  on_committing (Some effect) nodes next e seen comes = as_next (CommitMove effect nodes) next comes (on_commit_held nodes effect e seen)

  on_giving : (given : Option ℕ) (point : Point) (next : Next) → view.point ≡ point → is_busy (stage_of point) ≡ true → next_give point view.wanted ≡ given
      → GoesOn F view (view_after_give F view point) → giving given ≡ Some next → StandsAfter next
  on_giving None point next e busy gives goes comes = no_next next comes
  on_giving (Some node) point next e busy gives goes comes = as_next (GiveNode node) next comes (on_give node point e busy gives goes)

  on_point : (point : Point) (next : Next) → view.point ≡ point → next_at F view (m.given i) point ≡ Some next → StandsAfter next
  on_point Idle next e comes = on_beginning (m.given i) next refl comes
  on_point Owning next e comes = as_next LoadOwn next comes (on_own e)
  on_point (Taking got []) next e comes = no_next next comes
  on_point (Taking got (leaf ∷ rest)) next e comes = as_next (TakeNode leaf) next comes (on_take leaf (Taking got (leaf ∷ rest)) e refl refl refl (left_taking (got ++ leaf ∷ []) rest view.wanted)
      (fits_taking got leaf rest e))
  on_point Checking next e comes = as_next LoadAgain next comes (on_again e)
  on_point (Entering node plan) next e comes = as_next (TakeNode node) next comes (on_take node (Entering node plan) e refl refl refl tt (fits_at (Entering node plan) (Entered node plan) e (omega arith) (omega arith)))
  on_point (Entered node plan) next e comes = as_next (ReadList node plan) next comes (on_list node plan e)
  on_point (Loading node part [] plan) next e comes = no_next next comes
  on_point (Loading node part (slot ∷ players) plan) next e comes = as_next (ReadPlayer node part slot players plan) next comes (on_player node part slot players plan e)
  on_point (Leaving node plan) next e comes =
      as_next (GiveNode node) next comes (on_give node (Leaving node plan) e refl refl (goes_to F view (visiting F view plan) (some_at (Leaving node plan) e refl) (left_visiting F view plan view.wanted)
      (fits_at (Leaving node plan) (visiting F view plan) e (lists_visiting F view plan) (states_visiting F view plan))))
  on_point (Sensing []) next e comes = no_next next comes
  on_point (Sensing (id ∷ ids)) next e comes = as_next (ReadState id ids) next comes (on_state id ids e)
  on_point Resolving next e comes =
      let effect = effect_loaded F view in
      let writes = write_nodes F (record_read view.cmd.slot view.again) effect in
      as_next (resolving effect writes) next comes (on_resolving writes e refl)
  on_point (Claiming got []) next e comes = on_committing view.effect got next e refl comes
  on_point (Claiming got (node ∷ rest)) next e comes = as_next (TakeNode node) next comes (on_take node (Claiming got (node ∷ rest)) e refl refl refl tt
      (fits_at (Claiming got (node ∷ rest)) (Claiming (got ++ node ∷ []) rest) e (omega arith) (omega arith)))
  on_point (Storing nodes []) next e comes = no_next next comes
  on_point (Storing nodes (store ∷ stores)) next e comes = as_next (StoreWord nodes store stores) next comes (on_store nodes store stores e)
  on_point (Releasing nodes) next e comes =
      on_giving (next_give (Releasing nodes) view.wanted) (Releasing nodes) next e refl refl (goes_released F view nodes (some_at (Releasing nodes) e refl) (is.fits i)) comes
  on_point (Returning leaves) next e comes =
      on_giving (next_give (Returning leaves) view.wanted) (Returning leaves) next e refl refl (goes_returned F view leaves (some_at (Returning leaves) e refl) (subst (λ (p : Point). SomeIsLeft p view.wanted) e (is.next i).left).among (is.fits i)) comes
  on_point (Yielding nodes leaves) next e comes =
      on_giving (next_give (Yielding nodes leaves) view.wanted) (Yielding nodes leaves) next e refl refl (goes_yielded F view nodes leaves (some_at (Yielding nodes leaves) e refl) (subst (λ (p : Point). SomeIsLeft p view.wanted) e (is.next i).left).among (is.fits i)) comes

pub next_step_stands : NextStepStands
next_step_stands F m history now i next lawful start comes is =
    let view = m.core.view i in
    elim (cases_Bool (m.quits i)) [
      | inl quits ↦
          let same = sym (cond-true (m.quits i) (Some (quitting (first_yield F view))) (next_at F view (m.given i) view.point) quits) ∙ comes in
          as_next F m history now i lawful start is (quitting (first_yield F view)) next same (on_yield F m history now i lawful start is (first_yield F view) (is.quits i quits) refl)
      | inr goes ↦
          on_point F m history now i lawful start is view.point next refl
          (sym (cond-false (m.quits i) (Some (quitting (first_yield F view))) (next_at F view (m.given i) view.point) goes) ∙ comes)
    ]
