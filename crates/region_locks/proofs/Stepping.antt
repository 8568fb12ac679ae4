-- What is known of a pass by its next step: which node it takes or gives back, and which words it loads or stores.
use Rattle.std.proofs.Common.{◌≡◌, ℕ, ◌+◌, ◌*◌, ◌<◌, Bool, true, false, if◌then◌else◌, List, [], ◌∷◌, length, refl, sym, ap, ◌∙◌, subst, inl, inr, Option, Some, None, is_some, arith}
use Rattle.std.specs.Prelude.{◌&&◌, ◌||◌, not, nat_lt}
use Rattle.std.specs.Option.{option_map}
use Rattle.std.proofs.lemmas.Bool.{cases_Bool, false≢true, or_parts, ltb-true}
use Rattle.atomic_table.specs.Seated.{TableId}
use Rattle.entity_recs.specs.declared.effect.Effect.{Effect}
use Rattle.entity_recs.specs.Commands.{Command}
use Rattle.core_steps.specs.declared.sizes.TheConstants.{FIRST_LIST_WORD, FIRST_RECORD_WORD}
use Rattle.core_steps.specs.declared.step.Step.{Step}
use Rattle.core_steps.specs.declared.step.StepKind.TheVariants as kinds
use Rattle.core_steps.specs.Cells.{Body, State, cell_of, cell_index}
use Rattle.core_steps.specs.Nodes.{Fixed}
use Rattle.core_steps.specs.Points.{Store, Clear, Put, Link, Point, Resolving, stage_of, is_busy, stores_owed}
use Rattle.core_steps.specs.Reads.{View}
use Rattle.core_steps.specs.Steps.{first_yield, is_taking}
use Rattle.core_steps.specs.Machine.{Next, Begin, LoadOwn, LoadAgain, TakeNode, ClaimNode, ReadList, ReadPlayer, ReadState, CommitMove, StoreWord, GiveNode, YieldNode, YieldCount, quitting, kind_of, index_of, step_of}
use Rattle.core_steps.specs.Calls.{node_taken}
use Rattle.core_steps.proofs.Points.{idle_point, none_in_hand}
use Rattle.core_seats.specs.Nexts.{next_point}
use Rattle.core_seats.specs.Ready.{is_resolving}
use Rattle.ruled_words.specs.Passes.{PassView, next_of_pass, node_taken_next, node_given, node_given_next, list_read, list_read_next, IsPassOf}
use Rattle.ruled_words.specs.Loads.{player_word, slot_of_first, slot_begun, record_loaded_next}
use Rattle.ruled_words.proofs.Owns.{resolving_is}
use Rattle.shared_moves.specs.Closing.{HasNoCommand}
use Rattle.shared_moves.specs.InHand.{MayBegin}
use Rattle.region_locks.specs.NextCalls.{is_commit, is_commit_next, clears_first, store_made, store_made_next, is_clear, is_put, is_set, is_unlink_next, is_store_next, is_link_next}
use Rattle.region_locks.specs.Quitting.{next_step, has_next_step, has_command_in_hand}
use Rattle.region_locks.proofs.Storing.{makes_next}

-- ---- what comes next, by its kind and the index of its word

take_kind : (next : Next) → kind_of next ≡ kinds.Take → (view : View) (node : ℕ) → index_of view next ≡ 1 + node → node_taken next ≡ Some node
take_kind (Begin c) e view node at = cc
take_kind LoadOwn e view node at = cc
take_kind LoadAgain e view node at = cc
take_kind (TakeNode n) e view node at = let same : n ≡ node = omega (arith, at) in ap Some same
take_kind (ClaimNode f n) e view node at = let same : n ≡ node = omega (arith, at) in ap Some same
take_kind (ReadList n plan) e view node at = cc
take_kind (ReadPlayer n part slot players plan) e view node at = cc
take_kind (ReadState id ids) e view node at = cc
take_kind (CommitMove f held) e view node at = cc
take_kind (StoreWord held (Clear n) stores) e view node at = cc
take_kind (StoreWord held (Put cell x) stores) e view node at = cc
take_kind (StoreWord held (Link n) stores) e view node at = cc
take_kind (GiveNode n) e view node at = cc
take_kind (YieldNode n) e view node at = cc
take_kind YieldCount e view node at = cc

give_kind : (next : Next) → kind_of next ≡ kinds.GiveBack → (view : View) (node : ℕ) → index_of view next ≡ 1 + node → node_given next ≡ Some node
give_kind (Begin c) e view node at = cc
give_kind LoadOwn e view node at = cc
give_kind LoadAgain e view node at = cc
give_kind (TakeNode n) e view node at = cc
give_kind (ClaimNode f n) e view node at = cc
give_kind (ReadList n plan) e view node at = cc
give_kind (ReadPlayer n part slot players plan) e view node at = cc
give_kind (ReadState id ids) e view node at = cc
give_kind (CommitMove f held) e view node at = cc
give_kind (StoreWord held (Clear n) stores) e view node at = cc
give_kind (StoreWord held (Put cell x) stores) e view node at = cc
give_kind (StoreWord held (Link n) stores) e view node at = cc
give_kind (GiveNode n) e view node at = let same : n ≡ node = omega (arith, at) in ap Some same
give_kind (YieldNode n) e view node at = let same : n ≡ node = omega (arith, at) in ap Some same
give_kind YieldCount e view node at = cc

list_kind : (next : Next) → kind_of next ≡ kinds.LoadList → (view : View) (node : ℕ) → index_of view next ≡ FIRST_LIST_WORD + node → list_read next ≡ Some node
list_kind (Begin c) e view node at = cc
list_kind LoadOwn e view node at = cc
list_kind LoadAgain e view node at = cc
list_kind (TakeNode n) e view node at = cc
list_kind (ClaimNode f n) e view node at = cc
list_kind (ReadList n plan) e view node at = let same : n ≡ node = omega (arith, at) in ap Some same
list_kind (ReadPlayer n part slot players plan) e view node at = cc
list_kind (ReadState id ids) e view node at = cc
list_kind (CommitMove f held) e view node at = cc
list_kind (StoreWord held (Clear n) stores) e view node at = cc
list_kind (StoreWord held (Put cell x) stores) e view node at = cc
list_kind (StoreWord held (Link n) stores) e view node at = cc
list_kind (GiveNode n) e view node at = cc
list_kind (YieldNode n) e view node at = cc
list_kind YieldCount e view node at = cc

commit_kind : (next : Next) → kind_of next ≡ kinds.Commit → is_commit next ≡ true
commit_kind (Begin c) e = cc
commit_kind LoadOwn e = cc
commit_kind LoadAgain e = cc
commit_kind (TakeNode n) e = cc
commit_kind (ClaimNode f n) e = cc
commit_kind (ReadList n plan) e = cc
commit_kind (ReadPlayer n part slot players plan) e = cc
commit_kind (ReadState id ids) e = cc
commit_kind (CommitMove f held) e = refl
commit_kind (StoreWord held (Clear n) stores) e = cc
commit_kind (StoreWord held (Put cell x) stores) e = cc
commit_kind (StoreWord held (Link n) stores) e = cc
commit_kind (GiveNode n) e = cc
commit_kind (YieldNode n) e = cc
commit_kind YieldCount e = cc

store_kind : (next : Next) → kind_of next ≡ kinds.Store → is_put (store_made next) ≡ true
store_kind (Begin c) e = cc
store_kind LoadOwn e = cc
store_kind LoadAgain e = cc
store_kind (TakeNode n) e = cc
store_kind (ClaimNode f n) e = cc
store_kind (ReadList n plan) e = cc
store_kind (ReadPlayer n part slot players plan) e = cc
store_kind (ReadState id ids) e = cc
store_kind (CommitMove f held) e = cc
store_kind (StoreWord held (Clear n) stores) e = cc
store_kind (StoreWord held (Put cell x) stores) e = refl
store_kind (StoreWord held (Link n) stores) e = cc
store_kind (GiveNode n) e = cc
store_kind (YieldNode n) e = cc
store_kind YieldCount e = cc

-- a store of the own bit: it sets the bit or clears it
record IsBitStore (o : Option Store) : Type 0 where
  pub store : Store
  pub made : o ≡ Some store
  pub set : is_clear (Some store) ≡ false → is_set o ≡ true
  pub cleared : is_clear (Some store) ≡ true → is_clear o ≡ true

bit_kind : (next : Next) → kind_of next ≡ kinds.Bit → IsBitStore (store_made next)
bit_kind (Begin c) e = cc
bit_kind LoadOwn e = cc
bit_kind LoadAgain e = cc
bit_kind (TakeNode n) e = cc
bit_kind (ClaimNode f n) e = cc
bit_kind (ReadList n plan) e = cc
bit_kind (ReadPlayer n part slot players plan) e = cc
bit_kind (ReadState id ids) e = cc
bit_kind (CommitMove f held) e = cc
bit_kind (StoreWord held (Clear n) stores) e = record { store = Clear n; made = refl; set = λ other. cc; cleared = λ other. refl }
bit_kind (StoreWord held (Put cell x) stores) e = cc
bit_kind (StoreWord held (Link n) stores) e = record { store = Link n; made = refl; set = λ other. refl; cleared = λ other. cc }
bit_kind (GiveNode n) e = cc
bit_kind (YieldNode n) e = cc
bit_kind YieldCount e = cc

-- a word of a player's record at this place is the first one of the player in this slot
first_word : (player slot : ℕ) (before : List ℕ) → slot < 64 → cell_index (cell_of player (length before)) ≡ FIRST_RECORD_WORD + 5 * slot → slot_of_first player before ≡ Some slot
first_word player slot before low at =
    elim (cases_Bool (nat_lt (length before) 5)) [
      | inl small ↦ by_words before (ltb-true _ _ small) (subst (λ (b : Bool). cell_index (if b then Body player (length before) else State player) ≡ FIRST_RECORD_WORD + 5 * slot) small at)
      | inr last ↦ absurd (let state = subst (λ (b : Bool). cell_index (if b then Body player (length before) else State player) ≡ FIRST_RECORD_WORD + 5 * slot) last at in omega (arith, low, state))
    ]
  where
    by_words : (words : List ℕ) → length words < 5 → FIRST_RECORD_WORD + 5 * player + length words ≡ FIRST_RECORD_WORD + 5 * slot → slot_of_first player words ≡ Some slot
    by_words [] small same = let is : player ≡ slot = omega (arith, same) in ap Some is
    by_words (word ∷ words) small same = absurd (omega (arith, small, same))

load_kind : (next : Next) → kind_of next ≡ kinds.Load → (view : View) (slot : ℕ) → slot < 64 → index_of view next ≡ FIRST_RECORD_WORD + 5 * slot → slot_begun (player_word view next) ≡ Some slot
load_kind (Begin c) e view slot low at = first_word c.slot slot [] low at
load_kind LoadOwn e view slot low at = first_word view.cmd.slot slot view.own low at
load_kind LoadAgain e view slot low at = first_word view.cmd.slot slot view.again low at
load_kind (TakeNode n) e view slot low at = cc
load_kind (ClaimNode f n) e view slot low at = cc
load_kind (ReadList n plan) e view slot low at = cc
load_kind (ReadPlayer n part player players plan) e view slot low at = first_word player slot part low at
load_kind (ReadState id ids) e view slot low at = absurd (omega (arith, low, at))
load_kind (CommitMove f held) e view slot low at = cc
load_kind (StoreWord held (Clear n) stores) e view slot low at = cc
load_kind (StoreWord held (Put cell x) stores) e view slot low at = cc
load_kind (StoreWord held (Link n) stores) e view slot low at = cc
load_kind (GiveNode n) e view slot low at = cc
load_kind (YieldNode n) e view slot low at = cc
load_kind YieldCount e view slot low at = cc

-- ---- a step that is known by its kind and its word

-- the step is that of what comes next
record IsStepOf (F : Fixed) (p : PassView) (step : Step) : Type 0 where
  pub next : Next
  pub comes : next_of_pass F p ≡ Some next
  pub is : step ≡ step_of p.number p.view next

step_is : (F : Fixed) (p : PassView) (step : Step) → next_step F p ≡ Some step → IsStepOf F p step
step_is F p step e = by_next (next_of_pass F p) refl e
  where
    by_next : (o : Option Next) → next_of_pass F p ≡ o → option_map (step_of p.number p.view) o ≡ Some step → IsStepOf F p step
    by_next None comes e = cc
    by_next (Some next) comes e = record { next = next; comes = comes; is = cc }

module _ (F : Fixed) (p : PassView) (step : Step) (comes : next_step F p ≡ Some step) where
  -- the kind and the word of what comes next
  kind_is : step.kind ≡ kind_of (step_is F p step comes).next
  kind_is = ap (λ (s : Step). s.kind) (step_is F p step comes).is

  word_is : step.word ≡ index_of p.view (step_is F p step comes).next
  word_is = ap (λ (s : Step). s.word) (step_is F p step comes).is

  pub takes_node : (node : ℕ) → step.kind ≡ kinds.Take → step.word ≡ 1 + node → node_taken_next (next_of_pass F p) ≡ Some node
  takes_node node kind word =
      subst (λ (o : Option Next). node_taken_next o ≡ Some node) (sym (step_is F p step comes).comes) (take_kind _ (sym kind_is ∙ kind) p.view node (sym word_is ∙ word))

  pub gives_node : (node : ℕ) → step.kind ≡ kinds.GiveBack → step.word ≡ 1 + node → node_given_next (next_of_pass F p) ≡ Some node
  gives_node node kind word =
      subst (λ (o : Option Next). node_given_next o ≡ Some node) (sym (step_is F p step comes).comes) (give_kind _ (sym kind_is ∙ kind) p.view node (sym word_is ∙ word))

  pub lists_node : (node : ℕ) → step.kind ≡ kinds.LoadList → step.word ≡ FIRST_LIST_WORD + node → list_read_next (next_of_pass F p) ≡ Some node
  lists_node node kind word =
      subst (λ (o : Option Next). list_read_next o ≡ Some node) (sym (step_is F p step comes).comes) (list_kind _ (sym kind_is ∙ kind) p.view node (sym word_is ∙ word))

  pub loads_record : (slot : ℕ) → step.kind ≡ kinds.Load → slot < 64 → step.word ≡ FIRST_RECORD_WORD + 5 * slot → record_loaded_next p.view (next_of_pass F p) ≡ Some slot
  loads_record slot kind low word =
      subst (λ (o : Option Next). record_loaded_next p.view o ≡ Some slot) (sym (step_is F p step comes).comes) (load_kind _ (sym kind_is ∙ kind) p.view slot low (sym word_is ∙ word))

  pub commits : step.kind ≡ kinds.Commit → is_commit_next (next_of_pass F p) ≡ true
  commits kind = subst (λ (o : Option Next). is_commit_next o ≡ true) (sym (step_is F p step comes).comes) (commit_kind _ (sym kind_is ∙ kind))

  pub stores : step.kind ≡ kinds.Store → is_store_next (next_of_pass F p) ≡ true
  stores kind = subst (λ (o : Option Next). is_store_next o ≡ true) (sym (step_is F p step comes).comes) (store_kind _ (sym kind_is ∙ kind))

  bit_stored : step.kind ≡ kinds.Bit → IsBitStore (store_made_next (next_of_pass F p))
  bit_stored kind = subst (λ (o : Option Next). IsBitStore (store_made_next o)) (sym (step_is F p step comes).comes) (bit_kind _ (sym kind_is ∙ kind))

  -- it clears the bit where the first of the stores that are owed does
  clears_is : (kind : step.kind ≡ kinds.Bit) → is_clear (Some (bit_stored kind).store) ≡ clears_first (stores_owed p.view.point)
  clears_is kind =
      let bit = bit_stored kind in
      let owed = (makes_next F p bit.store bit.made).owed in
      first_clears bit.store _ ∙ sym (ap clears_first owed)
    where
      first_clears : (store : Store) (rest : List Store) → is_clear (Some store) ≡ clears_first (store ∷ rest)
      first_clears (Clear node) rest = refl
      first_clears (Put cell x) rest = refl
      first_clears (Link node) rest = refl

  pub unlinks : step.kind ≡ kinds.Bit → clears_first (stores_owed p.view.point) ≡ true → is_unlink_next (next_of_pass F p) ≡ true
  unlinks kind clears = (bit_stored kind).cleared (clears_is kind ∙ clears)

  pub links : step.kind ≡ kinds.Bit → clears_first (stores_owed p.view.point) ≡ false → is_link_next (next_of_pass F p) ≡ true
  links kind clears = (bit_stored kind).set (clears_is kind ∙ clears)

-- ---- a pass without a next step

-- a pass without a command in hand rests
pub without_command : (p : PassView) → has_command_in_hand p ≡ false → HasNoCommand p
without_command p rests =
    let parts = or_parts (is_some p.given) (is_busy (stage_of p.view.point)) rests in record {
      given = none_in_hand p.given parts.0;
      idle = idle_point p.view.point parts.1;
    }

-- one with a command in hand has read all, and its effect isn't known yet
pub resolves_next : (p : PassView) → has_command_in_hand p ≡ true → has_next_step p ≡ false → (p.view.point ≡ Resolving) × (p.effect ≡ None)
resolves_next p hand none = by_parts (is_some p.given) (is_busy (stage_of p.view.point)) (is_resolving p.view.point) p.quits p.effect refl hand none
  where
    by_parts : (given busy resolving quits : Bool) (effect : Option Effect) → is_resolving p.view.point ≡ resolving → given || busy ≡ true
        → given || (busy && not (resolving && not quits && not (is_some effect))) ≡ false → (p.view.point ≡ Resolving) × (effect ≡ None)
    by_parts true busy resolving quits effect at hand none = absurd (false≢true (sym none))
    by_parts false true true false None at hand none = (resolving_is p.view.point at, refl)
    by_parts false true true false (Some e) at hand none = absurd (false≢true (sym none))
    by_parts false true true true effect at hand none = absurd (false≢true (sym none))
    by_parts false true false quits effect at hand none = absurd (false≢true (sym none))
    by_parts false false resolving quits effect at hand none = absurd (false≢true hand)

-- a pass that was given a command loads the own record next
pub loads_own : (F : Fixed) (passes : ℕ) (table : TableId) (p q : PassView) (c : Command) → IsPassOf F passes table p → MayBegin p → q ≡ record p { given = Some c }
    → record_loaded_next q.view (next_of_pass F q) ≡ Some c.slot
loads_own F passes table p q c own free is =
    subst (λ (r : PassView). record_loaded_next r.view (next_of_pass F r) ≡ Some c.slot) (sym is) (by_quits p.quits (λ quits. subst (λ (point : Point). is_taking point ≡ true) free.idle (own.may_quit quits)))
  where
    by_quits : (quits : Bool) → (quits ≡ true → false ≡ true)
        → record_loaded_next p.view (if quits then Some (quitting (first_yield F p.view)) else next_point F p.view (Some c) p.effect p.view.point) ≡ Some c.slot
    by_quits true never = absurd (false≢true (never refl))
    by_quits false never = subst (λ (point : Point). record_loaded_next p.view (next_point F p.view (Some c) p.effect point) ≡ Some c.slot) (sym free.idle) refl
