-- A core after a step.
use Rattle.std.proofs.Common.{◌≡◌, ℕ, ◌+◌, ◌^◌, ◌<◌, ◌⊎◌, Bool, true, false, if◌then◌else◌, List, ◌++◌, length, set, get_or, refl, sym, ap, ◌∙◌, subst, inl, inr, Some, arith}
use Rattle.std.specs.Prelude.{◌==◌, ◌↔◌, IsTrue}
use Rattle.std.specs.Option.{option_map}
use Rattle.std.proofs.lemmas.List.{set-get_or}
use Rattle.std.proofs.lemmas.Bool.{false≢true, true≢false}
use Rattle.entity_recs.specs.Worlds.{World}
use Rattle.entity_recs.specs.Histories.{Item}
use Rattle.core_steps.specs.declared.step.Step.{Step}
use Rattle.core_steps.specs.declared.step.StepKind.TheVariants.{Take, Commit}
use Rattle.areanode.specs.Trees.{IsTreeDepth}
use Rattle.core_steps.specs.declared.sizes.TheConstants.{TABLE_NODES}
use Rattle.core_steps.specs.Cells as cells
use Rattle.core_steps.specs.Nodes.{Fixed}
use Rattle.core_steps.specs.Points.{Store, Clear, Put, Link}
use Rattle.core_steps.specs.Reads.{View}
use Rattle.core_steps.specs.Steps.{refuse_node, is_taking}
use Rattle.core_steps.specs.Stands.{IsLawful, IsStart, start_words}
use Rattle.core_steps.specs.Machine.{Machine, Next, Begin, LoadOwn, LoadAgain, TakeNode, ClaimNode, ReadList, ReadPlayer, ReadState, CommitMove, StoreWord, GiveNode, YieldNode, YieldCount, kind_of_store, next_of, next_step_of, step_of, kind_of, index_of, word_of_next, machine_after, items_after, MachineStands}
use Rattle.core_steps.specs.Calls.{StandsSomehow}
use Rattle.core_steps.proofs.NextSteps.{next_step_stands}
use Rattle.core_steps.proofs.TableWords.{NextIsIn, next_is_in, steps_have_their_word}
use Rattle.core_steps.proofs.TreeNodes.{each_tree_fits}
use Rattle.core_steps.proofs.Logs.{logs_grow_by_commits}
use Rattle.core_machine.specs.declared.words.Words.{Words}
use Rattle.core_machine.specs.declared.seat.Seat.{Seat}
use Rattle.core_machine.specs.Tables.{words_in}
use Rattle.core_seats.specs.Shown.{RulesView}
use Rattle.core_seats.specs.Sound.{IsSound}
use Rattle.core_machine.specs.Cores.{SeatView, CoreView, HasRooms, IsCore, IsFree, IsRefused, seat_of, machine_of}
use Rattle.core_machine.specs.WordsLeft.{IsNodeWord}
use Rattle.core_machine.specs.Stepping.{seat_next, is_done, IsOnWord, MayStep, IsStepped, IsOther, IsMade}
use Rattle.core_seats.proofs.Changing.{view_here}
use Rattle.core_seats.proofs.Sounding.{sound_here}
use Rattle.core_machine.proofs.SeatRooms.{rooms_after, count_is_small}
use Rattle.core_machine.proofs.StepsMade.{one_comes}
use Rattle.core_machine.proofs.WordsAfter.{words_after}
use Rattle.core_machine.proofs.Waits.{waiting_fails, free_is_done, waiting_refused, may_give_up}
use Rattle.core_machine.proofs.Cores.{core_view, ready_here, stepped_machine, seat_numbered}

-- ---- before the step

store_commits : {R : Type 0} (store : Store) → kind_of_store store ≡ Commit → R
store_commits (Clear node) e = cc
store_commits (Put cell x) e = cc
store_commits (Link node) e = cc

commit_word : (words : cells.Words) (view : View) (next : Next) → kind_of next ≡ Commit → word_of_next words view next ≡ words.commits
commit_word words view (Begin c) e = cc
commit_word words view LoadOwn e = cc
commit_word words view LoadAgain e = cc
commit_word words view (TakeNode n) e = cc
commit_word words view (ClaimNode f n) e = cc
commit_word words view (ReadList n plan) e = cc
commit_word words view (ReadPlayer n part slot players plan) e = cc
commit_word words view (ReadState id ids) e = cc
commit_word words view (CommitMove f held) e = refl
commit_word words view (StoreWord held store stores) e = store_commits store e
commit_word words view (GiveNode n) e = cc
commit_word words view (YieldNode n) e = cc
commit_word words view YieldCount e = cc

store_takes : {R : Type 0} (store : Store) → kind_of_store store ≡ Take → R
store_takes (Clear node) e = cc
store_takes (Put cell x) e = cc
store_takes (Link node) e = cc

node_word : (node : ℕ) → node < TABLE_NODES → IsNodeWord (1 + node)
node_word node below = record { first = omega arith; last = omega (arith, below) }

-- a take is of a node's word
take_word : (view : View) (next : Next) → NextIsIn view next → kind_of next ≡ Take → IsNodeWord (index_of view next)
take_word view (Begin c) is e = cc
take_word view LoadOwn is e = cc
take_word view LoadAgain is e = cc
take_word view (TakeNode n) is e = node_word n is
take_word view (ClaimNode f n) is e = node_word n is
take_word view (ReadList n plan) is e = cc
take_word view (ReadPlayer n part slot players plan) is e = cc
take_word view (ReadState id ids) is e = cc
take_word view (CommitMove f held) is e = cc
take_word view (StoreWord held store stores) is e = store_takes store e
take_word view (GiveNode n) is e = cc
take_word view (YieldNode n) is e = cc
take_word view YieldCount is e = cc

module _ (F : Fixed) (m : Machine) (history : List Item) (now : World) (n : ℕ) (lawful : IsLawful F) (start : IsStart F) (depth : IsTreeDepth F.tree.depth) (is : MachineStands F m history now) (rooms : HasRooms m.core.view) where
  on_word : (next : Next) → next_of F m n ≡ Some next → IsOnWord F m.core.words (m.core.view n) next
  on_word next comes =
      let fits = each_tree_fits F depth in
      let word = steps_have_their_word F m history now n next lawful start fits comes is in
      let inside = next_is_in F m history now n next lawful start fits comes is in
      let after = sound_here F (machine_after F m n next) _ _ n lawful start (next_step_stands F m history now n next lawful start comes is) depth in
      record {
        in_table = word.in_table;
        node = take_word (m.core.view n) next inside;
        found = word.before;
        after = subst (IsSound F) (view_here F m.core n next) after;
        count = λ commits. subst (λ (w : ℕ). w + 1 < 2 ^ 64) (sym (commit_word m.core.words (m.core.view n) next commits)) (count_is_small F m.core history now is.core rooms);
      }

  pub may_step : MayStep F m.core.words (record { view = m.core.view n; given = m.given n; quits = m.quits n })
  may_step = record { ready = ready_here F m history now n lawful start depth is; on_word = on_word }

-- the seat of a core may make its next step
pub seat_may_step : {A : Type 0} (F : Fixed) (rules : RulesView A) (words : Words) (seats : List Seat) (i n : ℕ) (s : Seat) → i ≡ n → i < length seats → s ≡ get_or seats i s
    → IsCore F (core_view rules words seats) → MayStep F (words_in words (start_words F)) (seat_of s)
seat_may_step F rules words seats i n s number below here core =
    let m = machine_of F (core_view rules words seats) in
    subst (MayStep F (words_in words (start_words F))) (seat_numbered seats i n s number below here)
    (may_step F m core.stands.history core.stands.now n core.lawful core.ruled.start core.ruled.depth core.stands.stands core.rooms)

-- ---- after it

-- a core after a step that isn't its seat's next one is the same
pub core_kept : {A : Type 0} (F : Fixed) (rules : RulesView A) (words after : Words) (seats : List Seat) (i : ℕ) (s : Step) (old new : Seat) (answer : Bool) → old ≡ get_or seats i old
    → IsOther F s words after old new answer → core_view rules after (set seats i new) ≡ core_view rules words seats
core_kept F rules words after seats i s old new answer here other =
    let seats_same : set seats i new ≡ seats = ap (set seats i) (other.seat ∙ here) ∙ set-get_or seats i old in
    rw (other.words, seats_same) refl

-- what a core's step is, where it is the seat's next one
pub record IsCoreStep {A : Type 0} (F : Fixed) (old new : CoreView A) (s : Step) (answer : Bool) : Type 0 where
  pub next : Next
  pub comes : next_of F (machine_of F old) s.seat ≡ Some next
  pub same : step_of s.seat ((machine_of F old).core.view s.seat) next ≡ s
  pub after : machine_of F new ≡ machine_after F (machine_of F old) s.seat next
  pub done : answer ≡ is_done (kind_of next) (word_of_next (machine_of F old).core.words ((machine_of F old).core.view s.seat) next)

module _ {A : Type 0} (F : Fixed) (rules : RulesView A) (words after : Words) (seats : List Seat) (i : ℕ) (s : Step) (old new : Seat) (answer : Bool) (below : i < length seats) (here : old ≡ get_or seats i old) (core : IsCore F (core_view rules words seats)) where
  abbrev m : Machine
  m = machine_of F (core_view rules words seats)

  stepped_at : (n : ℕ) → i ≡ n → (next : Next) → next_of F m n ≡ Some next → IsStepped F n m.core.words (words_in after (start_words F)) (m.core.view n) (seat_of new) next answer
      → machine_of F (core_view rules after (set seats i new)) ≡ machine_after F m n next
  stepped_at n number = subst (λ (k : ℕ). (next : Next) → next_of F m k ≡ Some next → IsStepped F k m.core.words (words_in after (start_words F)) (m.core.view k) (seat_of new) next answer
      → machine_of F (core_view rules after (set seats i new)) ≡ machine_after F m k next) number
      (λ next comes stepped.
      let inside = next_is_in F m core.stands.history core.stands.now i next core.lawful core.ruled.start (each_tree_fits F core.ruled.depth) comes core.stands.stands in
      stepped_machine F rules words after seats i new next below (stepped.words ∙ sym (words_after F m.core i next inside)) stepped.view stepped.given stepped.quits)

  pub core_step : i ≡ s.seat → IsMade F s (words_in words (start_words F)) (words_in after (start_words F)) (seat_of old) (seat_of new) answer
      → IsCoreStep F (core_view rules words seats) (core_view rules after (set seats i new)) s answer
  core_step number made =
      let seat = sym (seat_numbered seats i s.seat old number below here) in
      let comes : next_of F m s.seat ≡ Some made.next = subst (λ (x : SeatView). seat_next F x ≡ Some made.next) seat made.comes in
      let stepped = subst (λ (x : SeatView). IsStepped F s.seat m.core.words (words_in after (start_words F)) x.view (seat_of new) made.next answer) seat made.stepped in
      record {
        next = made.next;
        comes = comes;
        same = subst (λ (x : SeatView). step_of s.seat x.view made.next ≡ s) seat made.same;
        after = stepped_at s.seat number made.next comes stepped;
        done = stepped.done;
      }

-- a core after a step keeps what it should
pub core_stepped : {A : Type 0} (F : Fixed) (old new : CoreView A) (s : Step) (answer : Bool) → IsCore F old → IsCoreStep F old new s answer → IsCore F new
core_stepped F old new s answer core step =
    let m = machine_of F old in
    record {
      lawful = core.lawful;
      ruled = core.ruled;
      stands = subst (StandsSomehow F) (sym step.after) (record {
        history = _;
        now = _;
        stands = next_step_stands F m core.stands.history core.stands.now s.seat step.next core.lawful core.ruled.start step.comes core.stands.stands;
      });
      rooms = subst (λ (k : Machine). HasRooms k.core.view) (sym step.after) (rooms_after F m.core s.seat step.next core.rooms);
    }

-- ---- what is said of it

-- the step is the seat's next one
pub step_is_next : {A : Type 0} (F : Fixed) (old new : CoreView A) (s : Step) (answer : Bool) → IsCoreStep F old new s answer → next_step_of F (machine_of F old) s.seat ≡ Some s
step_is_next F old new s answer step =
    let m = machine_of F old in
    ap (option_map (step_of s.seat (m.core.view s.seat))) step.comes ∙ ap Some step.same

-- it is done where it doesn't wait
pub step_done : {A : Type 0} (F : Fixed) (old new : CoreView A) (s : Step) (answer : Bool) → IsCore F old → IsCoreStep F old new s answer → IsTrue answer ↔ IsFree F (machine_of F old) s
step_done F old new s answer core step =
    let m = machine_of F old in
    let is = core.stands.stands in (
      λ done. record {
        next = step_is_next F old new s answer step;
        free = λ waits. true≢false (sym done ∙ step.done ∙ waiting_fails F m core.stands.history core.stands.now s.seat step.next is step.comes waits);
      },
      λ free. step.done ∙ free_is_done F m core.stands.history core.stands.now s.seat step.next is step.comes free.free,
    )

-- the machine after it
pub step_after : {A : Type 0} (F : Fixed) (old new : CoreView A) (s : Step) (answer : Bool) → IsCoreStep F old new s answer → (next : Next) → next_of F (machine_of F old) s.seat ≡ Some next
    → machine_of F new ≡ machine_after F (machine_of F old) s.seat next
step_after F old new s answer step next comes =
    step.after ∙ ap (machine_after F (machine_of F old) s.seat) (one_comes (next_of F (machine_of F old) s.seat) step.next next step.comes comes)

-- where it is refused the seat's record of it alone changes
pub step_refused : {A : Type 0} (F : Fixed) (old new : CoreView A) (s : Step) (answer : Bool) → IsCore F old → IsCoreStep F old new s answer → (node : ℕ) → IsRefused F (machine_of F old) s node
    → machine_of F new ≡ record (machine_of F old) { core = refuse_node (machine_of F old).core s.seat node }
step_refused F old new s answer core step node refused =
    step_after F old new s answer step refused.next refused.comes
    ∙ waiting_refused F (machine_of F old) core.stands.history core.stands.now s.seat refused.next core.stands.stands refused.comes node refused.taken refused.waits

-- the logs after it
pub step_logs : {A : Type 0} (F : Fixed) (old new : CoreView A) (s : Step) (answer : Bool) → IsCoreStep F old new s answer → (next : Next) (seat : ℕ) → next_of F (machine_of F old) s.seat ≡ Some next
    → ((machine_of F new).core.view seat).log ≡ (if seat == s.seat then ((machine_of F old).core.view s.seat).log ++ items_after (machine_of F old).core s.seat next
    else ((machine_of F old).core.view seat).log)
step_logs F old new s answer step next seat comes =
    ap (λ (k : Machine). (k.core.view seat).log) (step_after F old new s answer step next comes) ∙ logs_grow_by_commits F (machine_of F old) s.seat seat next

-- where it isn't done its seat may give up
pub step_may_give_up : {A : Type 0} (F : Fixed) (old new : CoreView A) (s : Step) (answer : Bool) → IsCore F old → IsCoreStep F old new s answer → answer ≡ false
    → is_taking ((machine_of F new).core.view s.seat).point ≡ true
step_may_give_up F old new s answer core step refused =
    ap (λ (k : Machine). is_taking (k.core.view s.seat).point) step.after
    ∙ may_give_up F (machine_of F old) core.stands.history core.stands.now s.seat step.next core.stands.stands step.comes (sym step.done ∙ refused)

-- ---- either way

-- the step isn't its seat's next one: nothing changes
pub record IsCoreSame {A : Type 0} (F : Fixed) (old new : CoreView A) (s : Step) (answer : Bool) : Type 0 where
  pub other : next_step_of F (machine_of F old) s.seat ≡ Some s → ⊥
  pub same : new ≡ old
  pub done : answer ≡ false

-- how a step comes out
abbrev pub Outcome : {A : Type 0} → Fixed → CoreView A → CoreView A → Step → Bool → Type 0
Outcome F old new s answer = IsCoreSame F old new s answer ⊎ IsCoreStep F old new s answer

pub outcome : {A : Type 0} (F : Fixed) (rules : RulesView A) (words after : Words) (seats : List Seat) (i : ℕ) (s : Step) (old new : Seat) (answer : Bool) → i ≡ s.seat → i < length seats → old ≡ get_or seats i old
    → IsCore F (core_view rules words seats)
    → IsOther F s words after old new answer ⊎ IsMade F s (words_in words (start_words F)) (words_in after (start_words F)) (seat_of old) (seat_of new) answer
    → Outcome F (core_view rules words seats) (core_view rules after (set seats i new)) s answer
outcome F rules words after seats i s old new answer number below here core made = elim made [
  | inl other ↦ inl (record {
    other = λ next. other.other
        (subst (λ (x : SeatView). option_map (step_of s.seat x.view) (seat_next F x) ≡ Some s) (seat_numbered seats i s.seat old number below here) next);
    same = core_kept F rules words after seats i s old new answer here other;
    done = other.done;
  })
  | inr made ↦ inr (core_step F rules words after seats i s old new answer below here core number made)
]

pub outcome_core : {A : Type 0} (F : Fixed) (old new : CoreView A) (s : Step) (answer : Bool) → IsCore F old → Outcome F old new s answer → IsCore F new
outcome_core F old new s answer core made = elim made [
  | inl other ↦ subst (IsCore F) (sym other.same) core
  | inr step ↦ core_stepped F old new s answer core step
]

pub outcome_done : {A : Type 0} (F : Fixed) (old new : CoreView A) (s : Step) (answer : Bool) → IsCore F old → Outcome F old new s answer → IsTrue answer ↔ IsFree F (machine_of F old) s
outcome_done F old new s answer core made = elim made [
  | inl other ↦ (λ done. absurd (false≢true (sym other.done ∙ done)), λ free. absurd (other.other free.next))
  | inr step ↦ step_done F old new s answer core step
]

pub outcome_other : {A : Type 0} (F : Fixed) (old new : CoreView A) (s : Step) (answer : Bool) → Outcome F old new s answer → (next_step_of F (machine_of F old) s.seat ≡ Some s → ⊥) → new ≡ old
outcome_other F old new s answer made none = elim made [
  | inl other ↦ other.same
  | inr step ↦ absurd (none (step_is_next F old new s answer step))
]

pub outcome_machine : {A : Type 0} (F : Fixed) (old new : CoreView A) (s : Step) (answer : Bool) → Outcome F old new s answer → (next : Next) → next_of F (machine_of F old) s.seat ≡ Some next
    → next_step_of F (machine_of F old) s.seat ≡ Some s → machine_of F new ≡ machine_after F (machine_of F old) s.seat next
outcome_machine F old new s answer made next comes same = elim made [
  | inl other ↦ absurd (other.other same)
  | inr step ↦ step_after F old new s answer step next comes
]

pub outcome_refused : {A : Type 0} (F : Fixed) (old new : CoreView A) (s : Step) (answer : Bool) → IsCore F old → Outcome F old new s answer → (node : ℕ) → IsRefused F (machine_of F old) s node
    → machine_of F new ≡ record (machine_of F old) { core = refuse_node (machine_of F old).core s.seat node }
outcome_refused F old new s answer core made node refused = elim made [
  | inl other ↦ absurd (other.other refused.step)
  | inr step ↦ step_refused F old new s answer core step node refused
]

pub outcome_logs : {A : Type 0} (F : Fixed) (old new : CoreView A) (s : Step) (answer : Bool) → Outcome F old new s answer → (next : Next) (seat : ℕ) → next_of F (machine_of F old) s.seat ≡ Some next
    → next_step_of F (machine_of F old) s.seat ≡ Some s
    → ((machine_of F new).core.view seat).log ≡ (if seat == s.seat then ((machine_of F old).core.view s.seat).log ++ items_after (machine_of F old).core s.seat next
    else ((machine_of F old).core.view seat).log)
outcome_logs F old new s answer made next seat comes same = elim made [
  | inl other ↦ absurd (other.other same)
  | inr step ↦ step_logs F old new s answer step next seat comes
]

pub outcome_may_give_up : {A : Type 0} (F : Fixed) (old new : CoreView A) (s : Step) (answer : Bool) → IsCore F old → Outcome F old new s answer → next_step_of F (machine_of F old) s.seat ≡ Some s → answer ≡ false
    → is_taking ((machine_of F new).core.view s.seat).point ≡ true
outcome_may_give_up F old new s answer core made same refused = elim made [
  | inl other ↦ absurd (other.other same)
  | inr step ↦ step_may_give_up F old new s answer core step refused
]
