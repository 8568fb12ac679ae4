-- Which passes have a next step, and the pass that is to give up.
use Rattle.std.proofs.Common.{◌≤◌, ◌≡◌, ◌≢◌, ℕ, ◌+◌, ◌<◌, Bool, true, false, if◌then◌else◌, List, [], ◌∷◌, length, refl, sym, ap, ◌∙◌, subst, inl, inr, Option, Some, None, is_some, arith}
use Rattle.std.specs.Prelude.{◌==◌, not, ◌&&◌, ◌||◌}
use Rattle.std.specs.Option.{option_map}
use Rattle.std.proofs.lemmas.Bool.{cases_Bool, false≢true, true≢false, ne_eqb, cond-false}
use Rattle.atomic_table.specs.Seated.{TableId}
use Rattle.entity_recs.specs.declared.effect.Effect.{Effect}
use Rattle.entity_recs.specs.Commands.{Command}
use Rattle.core_steps.specs.declared.step.Step.{Step}
use Rattle.core_steps.specs.Nodes.{Fixed}
use Rattle.core_steps.specs.Points.{Point, Idle, Owning, Taking, Checking, Entering, Entered, Loading, Leaving, Sensing}
use Rattle.core_steps.specs.Points.{Resolving, Claiming, Storing, Releasing, Returning, Yielding, stage_of, is_busy}
use Rattle.core_steps.specs.Points.{is_whole, is_open}
use Rattle.core_steps.specs.Reads.{View}
use Rattle.core_steps.specs.Steps.{first, first_of_two, first_yield, next_give, is_taking, view_after_take, view_after_claim, view_after_refusal}
use Rattle.core_steps.specs.Stands.{IsAt}
use Rattle.core_steps.specs.Machine.{Next, Begin, LoadOwn, LoadAgain, TakeNode, ClaimNode, ReadList, ReadPlayer, ReadState, CommitMove, StoreWord, GiveNode, YieldNode, YieldCount, giving, quitting, beginning, committing, index_of, step_of, SomeIsLeft}
use Rattle.core_steps.specs.Calls.{node_taken}
use Rattle.core_seats.specs.Going.{view_found, word_left}
use Rattle.core_seats.specs.Nexts.{next_point, the_next}
use Rattle.core_seats.specs.Ready.{is_resolving, IsReady}
use Rattle.core_seats.specs.Sound.{IsSound}
use Rattle.ruled_words.specs.Passes.{PassView, next_of_pass, pass_after, node_taken_next, IsPassOf}
use Rattle.ruled_words.proofs.Takes.{quit_taken, none_taken}
use Rattle.shared_moves.specs.InHand.{MayBegin}
use Rattle.region_locks.specs.Quitting.{has_next_step, next_step, HasQuit}

-- ---- which passes have a next step

some_first : (nodes : List ℕ) → 0 < length nodes → is_some (giving (first nodes)) ≡ true
some_first [] some = absurd (omega (arith, some))
some_first (n ∷ nodes) some = refl

some_of_two : (nodes leaves : List ℕ) → (nodes ≡ [] → 0 < length leaves) → is_some (giving (first_of_two nodes leaves)) ≡ true
some_of_two [] leaves some = some_first leaves (some refl)
some_of_two (n ∷ nodes) leaves some = refl

some_committing : (effect : Option Effect) (e : Effect) (nodes : List ℕ) → effect ≡ Some e → is_some (committing effect nodes) ≡ true
some_committing None e nodes is = cc
some_committing (Some f) e nodes is = refl

module _ (F : Fixed) (view : View) (effect : Option Effect) (sound : IsSound F view) where
  abbrev AtPoint : Point → Type 0
  AtPoint point = IsAt F view.cmd view.own view.wanted view.again view.lists view.others view.states view.effect point

  -- a seat that isn't to give up and has no command that isn't begun
  next_there : (given : Option Command) (point : Point) → given ≡ None → AtPoint point → SomeIsLeft point view.wanted → (is_whole (stage_of point) ≡ true → 0 < length view.wanted)
      → is_some (next_point F view given effect point) ≡ (is_busy (stage_of point) && not (is_resolving point && not false && not (is_some effect)))
  next_there None Idle none at left some = refl
  next_there (Some c) Idle none at left some = cc
  next_there given Owning none at left some = refl
  next_there given (Taking got []) none at left some = let more = at.left in absurd (omega (arith, more))
  next_there given (Taking got (leaf ∷ rest)) none at left some = refl
  next_there given Checking none at left some = refl
  next_there given (Entering node plan) none at left some = refl
  next_there given (Entered node plan) none at left some = refl
  next_there given (Loading node part [] plan) none at left some = let more = at.load.left in absurd (omega (arith, more))
  next_there given (Loading node part (slot ∷ players) plan) none at left some = refl
  next_there given (Leaving node plan) none at left some = refl
  next_there given (Sensing []) none at left some = absurd (omega (arith, left))
  next_there given (Sensing (id ∷ ids)) none at left some = refl
  next_there given Resolving none at left some = resolved effect
    where
      resolved : (o : Option Effect) → is_some (next_point F view given o Resolving) ≡ (true && not (true && true && not (is_some o)))
      resolved None = refl
      resolved (Some e) = refl
  next_there given (Claiming got []) none at left some = some_committing view.effect at.claim.e got at.claim.is
  next_there given (Claiming got (node ∷ rest)) none at left some = refl
  next_there given (Storing nodes []) none at left some = let more = at.left in absurd (omega (arith, more))
  next_there given (Storing nodes (store ∷ stores)) none at left some = refl
  next_there given (Releasing nodes) none at left some = some_of_two nodes view.wanted (λ e. some refl)
  next_there given (Returning leaves) none at left some = let more = left.some in some_first leaves (omega (arith, more))
  next_there given (Yielding nodes leaves) none at left some =
      some_of_two nodes leaves (λ e. leaves_left nodes leaves e left.some)
    where
      leaves_left : (nodes leaves : List ℕ) → nodes ≡ [] → 0 < length nodes + length leaves → 0 < length leaves
      leaves_left [] leaves e more = omega (arith, more)
      leaves_left (n ∷ nodes) leaves e more = cc

  -- a seat that is to give up has a step
  quits_there : (point : Point) → is_taking point ≡ true → true ≡ (is_busy (stage_of point) && not (is_resolving point && not true && not (is_some effect)))
  quits_there Idle at = absurd (false≢true at)
  quits_there Owning at = absurd (false≢true at)
  quits_there (Taking got rest) at = refl
  quits_there Checking at = absurd (false≢true at)
  quits_there (Entering node plan) at = refl
  quits_there (Entered node plan) at = absurd (false≢true at)
  quits_there (Loading node part players plan) at = absurd (false≢true at)
  quits_there (Leaving node plan) at = absurd (false≢true at)
  quits_there (Sensing ids) at = absurd (false≢true at)
  quits_there Resolving at = refl
  quits_there (Claiming got rest) at = refl
  quits_there (Storing nodes stores) at = absurd (false≢true at)
  quits_there (Releasing nodes) at = absurd (false≢true at)
  quits_there (Returning leaves) at = absurd (false≢true at)
  quits_there (Yielding nodes leaves) at = absurd (false≢true at)

  -- where no command is given that isn't begun
  without_given : (given : Option Command) (quits : Bool) → given ≡ None → (quits ≡ true → is_taking view.point ≡ true)
      → is_some (if quits then Some (quitting (first_yield F view)) else next_point F view given effect view.point)
      ≡ (is_busy (stage_of view.point) && not (is_resolving view.point && not quits && not (is_some effect)))
  without_given given true none taking = quits_there view.point (taking refl)
  without_given given false none taking = next_there given view.point none sound.at sound.next.left sound.next.some_wanted

  -- a command that is given and isn't begun is begun next
  with_given : (c : Command) (quits : Bool) (point : Point) → view.point ≡ point → point ≡ Idle → (quits ≡ true → is_taking point ≡ true)
      → is_some (if quits then Some (quitting (first_yield F view)) else next_point F view (Some c) effect point) ≡ true
  with_given c true point at idle taking = refl
  with_given c false point at idle taking = subst (λ (q : Point). is_some (next_point F view (Some c) effect q) ≡ true) (sym idle) refl

-- a pass has a next step where it has a command in hand and it isn't the effect that comes next
pub has_next : (F : Fixed) (passes : ℕ) (table : TableId) (p : PassView) → IsPassOf F passes table p → is_some (next_of_pass F p) ≡ has_next_step p
has_next F passes table p own = by_given p.given refl
  where
    by_given : (given : Option Command) → p.given ≡ given
        → is_some (if p.quits then Some (quitting (first_yield F p.view)) else next_point F p.view p.given p.effect p.view.point)
        ≡ (is_some p.given || (is_busy (stage_of p.view.point) && not (is_resolving p.view.point && not p.quits && not (is_some p.effect))))
    by_given None e = without_given F p.view p.effect own.sound_sight.sound p.given p.quits e own.may_quit ∙ sym (none_given p.given _ e)
      where
        none_given : (o : Option Command) (b : Bool) → o ≡ None → (is_some o || b) ≡ b
        none_given o b e = rw e refl
    by_given (Some c) e =
        subst (λ (o : Option Command). is_some (if p.quits then Some (quitting (first_yield F p.view)) else next_point F p.view o p.effect p.view.point)
        ≡ (is_some o || (is_busy (stage_of p.view.point) && not (is_resolving p.view.point && not p.quits && not (is_some p.effect))))) (sym e)
        (with_given F p.view p.effect own.sound_sight.sound c p.quits p.view.point refl (own.pending c e).idle own.may_quit)

-- and then that step is one by its kind and its word
pub some_step : (F : Fixed) (passes : ℕ) (table : TableId) (p : PassView) → IsPassOf F passes table p → is_some (next_step F p) ≡ has_next_step p
some_step F passes table p own = mapped (next_of_pass F p) ∙ has_next F passes table p own
  where
    mapped : (o : Option Next) → is_some (option_map (step_of p.number p.view) o) ≡ is_some o
    mapped None = refl
    mapped (Some next) = refl

-- ---- a take that was refused

given_taken : {R : Type 0} (o : Option ℕ) (node : ℕ) → node_taken_next (giving o) ≡ Some node → R
given_taken None node e = cc
given_taken (Some n) node e = cc

begun_taken : {R : Type 0} (given : Option Command) (node : ℕ) → node_taken_next (beginning given) ≡ Some node → R
begun_taken None node e = cc
begun_taken (Some c) node e = cc

-- a take is a step at a take
at_take : (F : Fixed) (view : View) (given : Option Command) (effect : Option Effect) (point : Point) (node : ℕ) → node_taken_next (next_point F view given effect point) ≡ Some node → is_taking point ≡ true
at_take F view given effect Idle node taken = begun_taken given node taken
at_take F view given effect Owning node taken = none_taken node taken
at_take F view given effect (Taking got rest) node taken = refl
at_take F view given effect Checking node taken = none_taken node taken
at_take F view given effect (Entering n plan) node taken = refl
at_take F view given effect (Entered n plan) node taken = none_taken node taken
at_take F view given effect (Loading n part [] plan) node taken = none_taken node taken
at_take F view given effect (Loading n part (slot ∷ players) plan) node taken = none_taken node taken
at_take F view given effect (Leaving n plan) node taken = none_taken node taken
at_take F view given effect (Sensing []) node taken = none_taken node taken
at_take F view given effect (Sensing (id ∷ ids)) node taken = none_taken node taken
at_take F view given effect Resolving node taken = refl
at_take F view given effect (Claiming got rest) node taken = refl
at_take F view given effect (Storing nodes []) node taken = none_taken node taken
at_take F view given effect (Storing nodes (store ∷ stores)) node taken = none_taken node taken
at_take F view given effect (Releasing nodes) node taken = given_taken (next_give (Releasing nodes) view.wanted) node taken
at_take F view given effect (Returning leaves) node taken = given_taken (next_give (Returning leaves) view.wanted) node taken
at_take F view given effect (Yielding nodes leaves) node taken = given_taken (next_give (Yielding nodes leaves) view.wanted) node taken

refused : (found node : ℕ) (view taken : View) → found ≢ 0 → (if found == 0 then taken else view_after_refusal node found view).point ≡ view.point
refused found node view taken held = ap (λ (v : View). v.point) (cond-false (found == 0) taken (view_after_refusal node found view) (ne_eqb found 0 held))

-- and where it is refused the point stays
stays_at_take : (F : Fixed) (view : View) (next : Next) (node found : ℕ) → node_taken next ≡ Some node → found ≢ 0 → (view_found F view next found).point ≡ view.point
stays_at_take F view (Begin c) node found taken held = none_taken node taken
stays_at_take F view LoadOwn node found taken held = none_taken node taken
stays_at_take F view LoadAgain node found taken held = none_taken node taken
stays_at_take F view (TakeNode n) node found taken held = refused found n view (view_after_take n view) held
stays_at_take F view (ClaimNode e n) node found taken held = refused found n view (view_after_claim F e n view) held
stays_at_take F view (ReadList n plan) node found taken held = none_taken node taken
stays_at_take F view (ReadPlayer n part slot players plan) node found taken held = none_taken node taken
stays_at_take F view (ReadState id ids) node found taken held = none_taken node taken
stays_at_take F view (CommitMove e nodes) node found taken held = none_taken node taken
stays_at_take F view (StoreWord nodes store stores) node found taken held = none_taken node taken
stays_at_take F view (GiveNode n) node found taken held = none_taken node taken
stays_at_take F view (YieldNode n) node found taken held = none_taken node taken
stays_at_take F view YieldCount node found taken held = none_taken node taken

-- so the pass may give up after it
pub may_quit_after : (F : Fixed) (p new : PassView) (node found : ℕ) → node_taken_next (next_of_pass F p) ≡ Some node → new ≡ pass_after F (the_next (next_of_pass F p)) found p → found ≢ 0
    → is_taking new.view.point ≡ true
may_quit_after F p new node found taken is held =
    let stays = stays_at_take F p.view (the_next (next_of_pass F p)) node found (the_taken (next_of_pass F p) taken) held in
    ap (λ (q : PassView). is_taking q.view.point) is ∙ ap is_taking stays ∙ by_quits p.quits taken
  where
    the_taken : (o : Option Next) → node_taken_next o ≡ Some node → node_taken (the_next o) ≡ Some node
    the_taken None e = none_taken node e
    the_taken (Some next) e = e

    by_quits : (quits : Bool) → node_taken_next (if quits then Some (quitting (first_yield F p.view)) else next_point F p.view p.given p.effect p.view.point) ≡ Some node → is_taking p.view.point ≡ true
    by_quits true e = quit_taken (first_yield F p.view) node e
    by_quits false e = at_take F p.view p.given p.effect p.view.point node e

-- ---- the pass that is to give up

-- a pass at a take may be asked to give up
pub quits_own : (F : Fixed) (passes : ℕ) (table : TableId) (p q : PassView) → p ≡ q → IsPassOf F passes table q → is_taking q.view.point ≡ true → IsPassOf F passes table (record p { quits = true })
quits_own F passes table p q same own at =
    subst (λ (r : PassView). IsPassOf F passes table (record r { quits = true })) (sym same) (record {
      at_table = own.at_table;
      at_setting = own.at_setting;
      lives = own.lives;
      sound_sight = own.sound_sight;
      pending = own.pending;
      serves = own.serves;
      may_quit = λ quits. at;
      has_effect = own.has_effect;
      only_resolving = own.only_resolving;
      refusal = own.refusal;
      counted = own.counted;
    })

not_some : (some nothing : Bool) → nothing ≡ not some → nothing ≡ true → some ≡ false
not_some true nothing e holds = absurd (false≢true (sym e ∙ holds))
not_some false nothing e holds = refl

loads_count : (o : Option ℕ) → is_some o ≡ false → quitting o ≡ YieldCount
loads_count None e = refl
loads_count (Some n) e = absurd (true≢false e)

-- where it holds nothing, the count is loaded next
count_next : (F : Fixed) (p q : PassView) (nothing : Bool) → p ≡ q → nothing ≡ not (is_some (first_yield F q.view)) → nothing ≡ true → quitting (first_yield F p.view) ≡ YieldCount
count_next F p q nothing same e holds =
    loads_count (first_yield F p.view) (ap (λ (r : PassView). is_some (first_yield F r.view)) same ∙ not_some (is_some (first_yield F q.view)) nothing e holds)

pub count_index : (F : Fixed) (p q : PassView) (nothing : Bool) → p ≡ q → nothing ≡ not (is_some (first_yield F q.view)) → nothing ≡ true → 0 ≡ index_of p.view (quitting (first_yield F p.view))
count_index F p q nothing same e holds = sym (ap (λ (next : Next). index_of p.view next) (count_next F p q nothing same e holds))

pub count_left : (F : Fixed) (p q : PassView) (nothing : Bool) (found : ℕ) → p ≡ q → nothing ≡ not (is_some (first_yield F q.view)) → nothing ≡ true
    → word_left F p.number p.view (quitting (first_yield F p.view)) found ≡ found
count_left F p q nothing found same e holds = ap (λ (next : Next). word_left F p.number p.view next found) (count_next F p q nothing same e holds)

-- and the command is then no longer in hand
pub quit_at_once : (F : Fixed) (p q new : PassView) (nothing : Bool) (found : ℕ) → p ≡ q → nothing ≡ not (is_some (first_yield F q.view)) → nothing ≡ true
    → new ≡ pass_after F (quitting (first_yield F p.view)) found p → (quitting (first_yield F p.view) ≡ YieldCount → p.view.seen ≤ found) → HasQuit F q new
quit_at_once F p q new nothing found same e holds is low = record {
  holding = λ some. absurd (false≢true (sym (not_some (is_some (first_yield F q.view)) nothing e holds) ∙ some));
  found = found;
  none_held = λ none. is ∙ ap (λ (next : Next). pass_after F next found p) (count_next F p q nothing same e holds) ∙ ap (pass_after F YieldCount found) same;
  seen = λ none. subst (λ (r : PassView). r.view.seen ≤ found) same (low (count_next F p q nothing same e holds));
}

taking_open : (point : Point) → is_taking point ≡ true → is_open (stage_of point) ≡ true
taking_open Idle at = absurd (false≢true at)
taking_open Owning at = refl
taking_open (Taking got rest) at = refl
taking_open Checking at = refl
taking_open (Entering node plan) at = refl
taking_open (Entered node plan) at = refl
taking_open (Loading node part players plan) at = refl
taking_open (Leaving node plan) at = refl
taking_open (Sensing ids) at = refl
taking_open Resolving at = refl
taking_open (Claiming got rest) at = refl
taking_open (Storing nodes stores) at = absurd (false≢true at)
taking_open (Releasing nodes) at = absurd (false≢true at)
taking_open (Returning leaves) at = absurd (false≢true at)
taking_open (Yielding nodes leaves) at = absurd (false≢true at)

-- and another may be begun
pub may_begin : (F : Fixed) (passes : ℕ) (table : TableId) (old new : PassView) → IsPassOf F passes table old → is_taking old.view.point ≡ true → HasQuit F old new
    → is_some (first_yield F old.view) ≡ false → MayBegin new
may_begin F passes table old new own at quit none =
    subst MayBegin (sym (quit.none_held none)) (record {
      none = refl;
      idle = refl;
      room = own.sound_sight.sound.room (taking_open old.view.point at);
    })

-- a pass that has quit and has no next step may begin another command
pub free_of_steps : (F : Fixed) (passes : ℕ) (table : TableId) (old new : PassView) (step : Option Step) → IsPassOf F passes table old → is_taking old.view.point ≡ true → HasQuit F old new
    → is_some step ≡ has_next_step new → step ≡ None → MayBegin new
free_of_steps F passes table old new step own at quit is none = elim (cases_Bool (is_some (first_yield F old.view))) [
  | inl some ↦
      let there : has_next_step new ≡ true =
      ap has_next_step (quit.holding some) ∙ ap (λ (b : Bool). is_some old.given || b) (sym (quits_there F old.view old.effect own.sound_sight.sound old.view.point at)) ∙ always (is_some old.given) in
      absurd (false≢true (ap (λ (o : Option Step). is_some o) (sym none) ∙ is ∙ there))
  | inr nothing ↦ may_begin F passes table old new own at quit nothing
]
  where
    always : (b : Bool) → (b || true) ≡ true
    always true = refl
    always false = refl

-- ---- what the seat in plain values knows of its pass

-- the pass may make its next step
pub pass_is_ready : (F G : Fixed) (passes : ℕ) (table : TableId) (p q : PassView) → F ≡ G → p ≡ q → IsPassOf G passes table q → IsReady F p.view p.given p.quits p.effect
pass_is_ready F G passes table p q fixed same own =
    subst (λ (H : Fixed). IsReady H p.view p.given p.quits p.effect) (sym fixed)
    (subst (λ (r : PassView). IsReady G r.view r.given r.quits r.effect) (sym same) (record {
      sound = own.sound_sight.sound;
      pending = own.pending;
      taking = own.may_quit;
      due = λ e at some. own.has_effect (ap is_resolving at) e some;
    }))

-- the step that is found is the pass's
pub step_found : (F G : Fixed) (p q : PassView) (number : ℕ) (found : Option Step) → F ≡ G → p ≡ q → number ≡ q.number → found ≡ next_step F (record p { number = number }) → found ≡ next_step G q
step_found F G p q number found fixed same numbered is =
    is ∙ ap (λ (n : ℕ). next_step F (record p { number = n })) (numbered ∙ sym (ap (λ (r : PassView). r.number) same))
    ∙ ap (λ (H : Fixed). next_step H p) fixed ∙ ap (next_step G) same

-- and there is one where the pass has one
pub some_found : (F G : Fixed) (passes : ℕ) (table : TableId) (p q : PassView) (number : ℕ) (found : Option Step) → F ≡ G → p ≡ q → number ≡ q.number → found ≡ next_step F (record p { number = number }) → IsPassOf G passes table q
    → is_some found ≡ has_next_step q
some_found F G passes table p q number found fixed same numbered is own = ap (λ (o : Option Step). is_some o) (step_found F G p q number found fixed same numbered is) ∙ some_step G passes table q own
