-- A pass gives back its next node, or loads its next list word or state.
use Rattle.std.proofs.Common.{◌≡◌, ℕ, ◌+◌, Bool, true, false, if◌then◌else◌, List, [], ◌∷◌, refl, ap, Option, Some, None, is_some}
use Rattle.std.proofs.lemmas.Option.{same_Some}
use Rattle.core_steps.specs.declared.sizes.TheConstants.{FIRST_LIST_WORD, FIRST_STATE_WORD}
use Rattle.atomic_table.specs.Seated.{TableId}
use Rattle.entity_recs.specs.declared.effect.Effect.{Effect}
use Rattle.entity_recs.specs.Commands.{Command}
use Rattle.core_steps.specs.Nodes.{Fixed, write_nodes}
use Rattle.core_steps.specs.Points.{Point, Idle, Owning, Taking, Checking, Entering, Entered, Loading, Leaving, Sensing}
use Rattle.core_steps.specs.Points.{Resolving, Claiming, Storing, Releasing, Returning, Yielding}
use Rattle.core_steps.specs.Reads.{View, record_read}
use Rattle.core_steps.specs.Steps.{first_yield, next_give}
use Rattle.core_steps.specs.Machine.{Next, beginning, resolving, quitting, committing, giving, index_of}
use Rattle.core_seats.specs.Going.{view_found, word_left}
use Rattle.ruled_words.specs.Passes.{PassView, next_of_pass, node_given, node_given_next, list_read, list_read_next, state_read, state_read_next, IsPassOf}
use Rattle.core_seats.specs.Nexts.{next_resolved, next_point, the_next}

-- what is known of a pass whose next step gives back a node
pub record Gives (F : Fixed) (p : PassView) (node : ℕ) (next : Next) : Type 0 where
  pub index : index_of p.view next ≡ 1 + node
  pub left : (found : ℕ) → word_left F p.number p.view next found ≡ 0
  pub blind : (found : ℕ) → view_found F p.view next found ≡ view_found F p.view next 0

-- what is known of a pass whose next step loads the list word of a node
pub record ReadsList (F : Fixed) (p : PassView) (node : ℕ) (next : Next) : Type 0 where
  pub index : index_of p.view next ≡ FIRST_LIST_WORD + node
  pub left : (found : ℕ) → word_left F p.number p.view next found ≡ found

-- what is known of a pass whose next step loads the state of a thing
pub record ReadsState (F : Fixed) (p : PassView) (id : ℕ) (next : Next) : Type 0 where
  pub index : index_of p.view next ≡ FIRST_STATE_WORD + id
  pub left : (found : ℕ) → word_left F p.number p.view next found ≡ found

none_is : {R : Type 0} (n : ℕ) → None ≡ Some n → R
none_is n e = cc

given_begin : {R : Type 0} (n : ℕ) (given : Option Command) → node_given_next (beginning given) ≡ Some n → R
given_begin n None e = cc
given_begin n (Some c) e = cc

given_commit : {R : Type 0} (n : ℕ) (o : Option Effect) (nodes : List ℕ) → node_given_next (committing o nodes) ≡ Some n → R
given_commit n None nodes e = cc
given_commit n (Some f) nodes e = cc

given_resolve : {R : Type 0} (n : ℕ) (f : Effect) (nodes : List ℕ) → node_given (resolving f nodes) ≡ Some n → R
given_resolve n f [] e = cc
given_resolve n f (node ∷ nodes) e = cc

given_resolved : {R : Type 0} (n : ℕ) (F : Fixed) (view : View) (o : Option Effect) → node_given_next (next_resolved F view o) ≡ Some n → R
given_resolved n F view None e = none_is n e
given_resolved n F view (Some f) e = given_resolve n f (write_nodes F (record_read view.cmd.slot view.again) f) e

list_begin : {R : Type 0} (n : ℕ) (given : Option Command) → list_read_next (beginning given) ≡ Some n → R
list_begin n None e = cc
list_begin n (Some c) e = cc

list_commit : {R : Type 0} (n : ℕ) (o : Option Effect) (nodes : List ℕ) → list_read_next (committing o nodes) ≡ Some n → R
list_commit n None nodes e = cc
list_commit n (Some f) nodes e = cc

list_resolve : {R : Type 0} (n : ℕ) (f : Effect) (nodes : List ℕ) → list_read (resolving f nodes) ≡ Some n → R
list_resolve n f [] e = cc
list_resolve n f (node ∷ nodes) e = cc

list_resolved : {R : Type 0} (n : ℕ) (F : Fixed) (view : View) (o : Option Effect) → list_read_next (next_resolved F view o) ≡ Some n → R
list_resolved n F view None e = none_is n e
list_resolved n F view (Some f) e = list_resolve n f (write_nodes F (record_read view.cmd.slot view.again) f) e

list_give : {R : Type 0} (n : ℕ) (o : Option ℕ) → list_read_next (giving o) ≡ Some n → R
list_give n None e = cc
list_give n (Some node) e = cc

list_quit : {R : Type 0} (n : ℕ) (o : Option ℕ) → list_read (quitting o) ≡ Some n → R
list_quit n None e = cc
list_quit n (Some node) e = cc

state_begin : {R : Type 0} (n : ℕ) (given : Option Command) → state_read_next (beginning given) ≡ Some n → R
state_begin n None e = cc
state_begin n (Some c) e = cc

state_commit : {R : Type 0} (n : ℕ) (o : Option Effect) (nodes : List ℕ) → state_read_next (committing o nodes) ≡ Some n → R
state_commit n None nodes e = cc
state_commit n (Some f) nodes e = cc

state_resolve : {R : Type 0} (n : ℕ) (f : Effect) (nodes : List ℕ) → state_read (resolving f nodes) ≡ Some n → R
state_resolve n f [] e = cc
state_resolve n f (node ∷ nodes) e = cc

state_resolved : {R : Type 0} (n : ℕ) (F : Fixed) (view : View) (o : Option Effect) → state_read_next (next_resolved F view o) ≡ Some n → R
state_resolved n F view None e = none_is n e
state_resolved n F view (Some f) e = state_resolve n f (write_nodes F (record_read view.cmd.slot view.again) f) e

state_give : {R : Type 0} (n : ℕ) (o : Option ℕ) → state_read_next (giving o) ≡ Some n → R
state_give n None e = cc
state_give n (Some node) e = cc

state_quit : {R : Type 0} (n : ℕ) (o : Option ℕ) → state_read (quitting o) ≡ Some n → R
state_quit n None e = cc
state_quit n (Some node) e = cc

module _ (F : Fixed) (passes : ℕ) (table : TableId) (p : PassView) (n : ℕ) (own : IsPassOf F passes table p) where
  -- ---- a node is given back

  gives_one : (o : Option ℕ) → node_given_next (giving o) ≡ Some n → Gives F p n (the_next (giving o))
  gives_one None e = none_is n e
  gives_one (Some m) e = record { index = ap (λ (k : ℕ). 1 + k) (same_Some m n e); left = λ found. refl; blind = λ found. refl }

  gives_at : (point : Point) → p.view.point ≡ point → node_given_next (next_point F p.view p.given p.effect point) ≡ Some n → Gives F p n (the_next (next_point F p.view p.given p.effect point))
  gives_at Idle at e = given_begin n p.given e
  gives_at Owning at e = none_is n e
  gives_at (Taking got []) at e = none_is n e
  gives_at (Taking got (leaf ∷ rest)) at e = none_is n e
  gives_at Checking at e = none_is n e
  gives_at (Entering node plan) at e = none_is n e
  gives_at (Entered node plan) at e = none_is n e
  gives_at (Loading node part [] plan) at e = none_is n e
  gives_at (Loading node part (slot ∷ players) plan) at e = none_is n e
  gives_at (Leaving node plan) at e = gives_one (Some node) e
  gives_at (Sensing []) at e = none_is n e
  gives_at (Sensing (id ∷ ids)) at e = none_is n e
  gives_at Resolving at e = given_resolved n F p.view p.effect e
  gives_at (Claiming got []) at e = given_commit n p.view.effect got e
  gives_at (Claiming got (node ∷ rest)) at e = none_is n e
  gives_at (Storing nodes []) at e = none_is n e
  gives_at (Storing nodes (store ∷ stores)) at e = none_is n e
  gives_at (Releasing nodes) at e = gives_one (next_give (Releasing nodes) p.view.wanted) e
  gives_at (Returning leaves) at e = gives_one (next_give (Returning leaves) p.view.wanted) e
  gives_at (Yielding nodes leaves) at e = gives_one (next_give (Yielding nodes leaves) p.view.wanted) e

  yields : (o : Option ℕ) → node_given (quitting o) ≡ Some n → Gives F p n (quitting o)
  yields None e = none_is n e
  yields (Some m) e = record { index = ap (λ (k : ℕ). 1 + k) (same_Some m n e); left = λ found. refl; blind = λ found. refl }

  pub gives_next : node_given_next (next_of_pass F p) ≡ Some n → Gives F p n (the_next (next_of_pass F p))
  gives_next given = by_quits p.quits given
    where
      by_quits : (quits : Bool) → node_given_next (if quits then Some (quitting (first_yield F p.view)) else next_point F p.view p.given p.effect p.view.point) ≡ Some n
          → Gives F p n (the_next (if quits then Some (quitting (first_yield F p.view)) else next_point F p.view p.given p.effect p.view.point))
      by_quits true e = yields (first_yield F p.view) e
      by_quits false e = gives_at p.view.point refl e

  -- ---- a list word is loaded

  lists_at : (point : Point) → p.view.point ≡ point → list_read_next (next_point F p.view p.given p.effect point) ≡ Some n → ReadsList F p n (the_next (next_point F p.view p.given p.effect point))
  lists_at Idle at e = list_begin n p.given e
  lists_at Owning at e = none_is n e
  lists_at (Taking got []) at e = none_is n e
  lists_at (Taking got (leaf ∷ rest)) at e = none_is n e
  lists_at Checking at e = none_is n e
  lists_at (Entering node plan) at e = none_is n e
  lists_at (Entered node plan) at e = record {
    index = ap (λ (k : ℕ). FIRST_LIST_WORD + k) (same_Some node n e);
    left = λ found. refl;
  }
  lists_at (Loading node part [] plan) at e = none_is n e
  lists_at (Loading node part (slot ∷ players) plan) at e = none_is n e
  lists_at (Leaving node plan) at e = none_is n e
  lists_at (Sensing []) at e = none_is n e
  lists_at (Sensing (id ∷ ids)) at e = none_is n e
  lists_at Resolving at e = list_resolved n F p.view p.effect e
  lists_at (Claiming got []) at e = list_commit n p.view.effect got e
  lists_at (Claiming got (node ∷ rest)) at e = none_is n e
  lists_at (Storing nodes []) at e = none_is n e
  lists_at (Storing nodes (store ∷ stores)) at e = none_is n e
  lists_at (Releasing nodes) at e = list_give n (next_give (Releasing nodes) p.view.wanted) e
  lists_at (Returning leaves) at e = list_give n (next_give (Returning leaves) p.view.wanted) e
  lists_at (Yielding nodes leaves) at e = list_give n (next_give (Yielding nodes leaves) p.view.wanted) e

  pub lists_next : list_read_next (next_of_pass F p) ≡ Some n → ReadsList F p n (the_next (next_of_pass F p))
  lists_next read = by_quits p.quits read
    where
      by_quits : (quits : Bool) → list_read_next (if quits then Some (quitting (first_yield F p.view)) else next_point F p.view p.given p.effect p.view.point) ≡ Some n
          → ReadsList F p n (the_next (if quits then Some (quitting (first_yield F p.view)) else next_point F p.view p.given p.effect p.view.point))
      by_quits true e = list_quit n (first_yield F p.view) e
      by_quits false e = lists_at p.view.point refl e

  -- ---- a state is loaded

  states_at : (point : Point) → p.view.point ≡ point → state_read_next (next_point F p.view p.given p.effect point) ≡ Some n → ReadsState F p n (the_next (next_point F p.view p.given p.effect point))
  states_at Idle at e = state_begin n p.given e
  states_at Owning at e = none_is n e
  states_at (Taking got []) at e = none_is n e
  states_at (Taking got (leaf ∷ rest)) at e = none_is n e
  states_at Checking at e = none_is n e
  states_at (Entering node plan) at e = none_is n e
  states_at (Entered node plan) at e = none_is n e
  states_at (Loading node part [] plan) at e = none_is n e
  states_at (Loading node part (slot ∷ players) plan) at e = none_is n e
  states_at (Leaving node plan) at e = none_is n e
  states_at (Sensing []) at e = none_is n e
  states_at (Sensing (id ∷ ids)) at e = record {
    index = ap (λ (k : ℕ). FIRST_STATE_WORD + k) (same_Some id n e);
    left = λ found. refl;
  }
  states_at Resolving at e = state_resolved n F p.view p.effect e
  states_at (Claiming got []) at e = state_commit n p.view.effect got e
  states_at (Claiming got (node ∷ rest)) at e = none_is n e
  states_at (Storing nodes []) at e = none_is n e
  states_at (Storing nodes (store ∷ stores)) at e = none_is n e
  states_at (Releasing nodes) at e = state_give n (next_give (Releasing nodes) p.view.wanted) e
  states_at (Returning leaves) at e = state_give n (next_give (Returning leaves) p.view.wanted) e
  states_at (Yielding nodes leaves) at e = state_give n (next_give (Yielding nodes leaves) p.view.wanted) e

  pub states_next : state_read_next (next_of_pass F p) ≡ Some n → ReadsState F p n (the_next (next_of_pass F p))
  states_next read = by_quits p.quits read
    where
      by_quits : (quits : Bool) → state_read_next (if quits then Some (quitting (first_yield F p.view)) else next_point F p.view p.given p.effect p.view.point) ≡ Some n
          → ReadsState F p n (the_next (if quits then Some (quitting (first_yield F p.view)) else next_point F p.view p.given p.effect p.view.point))
      by_quits true e = state_quit n (first_yield F p.view) e
      by_quits false e = states_at p.view.point refl e

-- a step that is of some kind is there
pub given_there : (o : Option Next) (n : ℕ) → node_given_next o ≡ Some n → is_some o ≡ true
given_there None n e = none_is n e
given_there (Some next) n e = refl

pub list_there : (o : Option Next) (n : ℕ) → list_read_next o ≡ Some n → is_some o ≡ true
list_there None n e = none_is n e
list_there (Some next) n e = refl

pub state_there : (o : Option Next) (n : ℕ) → state_read_next o ≡ Some n → is_some o ≡ true
state_there None n e = none_is n e
state_there (Some next) n e = refl
