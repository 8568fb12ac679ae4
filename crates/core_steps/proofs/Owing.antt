-- Which words a seat owes, and what it wrote.
use Rattle.std.proofs.Common.{◌≡◌, ℕ, suc, Bool, true, List, [], ◌∷◌, ◌++◌, map, refl, sym, ap, subst, inl, inr, Option, Some}
use Rattle.std.specs.Prelude.{◌==◌, ◌||◌, is_some}
use Rattle.std.proofs.lemmas.Bool.{cases_Bool, false≢true, eqb-true, eq-eqb, and_parts, or_left, or_right, cond-true}
use Rattle.entity_recs.specs.declared.effect.NewState.{NewState}
use Rattle.entity_recs.specs.declared.effect.Effect.{Effect}
use Rattle.entity_recs.specs.Commands.{Command}
use Rattle.core_steps.specs.Cells.{Cell, Body, State, is_cell}
use Rattle.core_steps.specs.Encoding.{words_of}
use Rattle.core_steps.specs.Nodes.{Fixed, home}
use Rattle.core_steps.specs.Points.{Store, Clear, Put, Link, Point, Idle, Owning, Taking, Checking, Entering, Entered}
use Rattle.core_steps.specs.Points.{Loading, Leaving, Sensing, Resolving, Claiming, Storing, Releasing, Returning}
use Rattle.core_steps.specs.Points.{Yielding, stage_of, is_settled, is_storing, body_stores, stores_of, stores_owed}
use Rattle.core_steps.specs.Reads.{ListRead, PlayerRead, record_read, state_at}
use Rattle.core_steps.specs.Stands.{IsAt, owed_at}

-- a cell that an effect of this player writes: one of its five words, its state, or a listed state
abbrev pub is_written : ℕ → List NewState → Cell → Bool
is_written slot states (Body p k) = p == slot
is_written slot states (State id) = (id == slot) || is_some (state_at states id)

-- each store into a cell is into one that is written
abbrev pub OnlyWritten : ℕ → List NewState → List Store → Type 0
OnlyWritten slot states [] = Unit {0}
OnlyWritten slot states (Clear node ∷ stores) = OnlyWritten slot states stores
OnlyWritten slot states (Put cell x ∷ stores) = (is_written slot states cell ≡ true) × OnlyWritten slot states stores
OnlyWritten slot states (Link node ∷ stores) = OnlyWritten slot states stores

written_append : (slot : ℕ) (states : List NewState) (xs ys : List Store) → OnlyWritten slot states xs → OnlyWritten slot states ys → OnlyWritten slot states (xs ++ ys)
written_append slot states [] ys a b = b
written_append slot states (Clear node ∷ xs) ys a b = written_append slot states xs ys a b
written_append slot states (Put cell x ∷ xs) ys a b = (a.0, written_append slot states xs ys a.1 b)
written_append slot states (Link node ∷ xs) ys a b = written_append slot states xs ys a b

written_end : (slot : ℕ) (states : List NewState) (xs ys : List Store) → OnlyWritten slot states (xs ++ ys) → OnlyWritten slot states ys
written_end slot states [] ys a = a
written_end slot states (Clear node ∷ xs) ys a = written_end slot states xs ys a
written_end slot states (Put cell x ∷ xs) ys a = written_end slot states xs ys a.1
written_end slot states (Link node ∷ xs) ys a = written_end slot states xs ys a

body_written : (slot : ℕ) (states : List NewState) (k : ℕ) (words : List ℕ) → OnlyWritten slot states (body_stores slot k words)
body_written slot states k [] = tt
body_written slot states k (word ∷ words) = (eq-eqb slot slot refl, body_written slot states (suc k) words)

listed_written : (slot : ℕ) (all states : List NewState) → ((s : NewState) → is_some (state_at states s.id) ≡ true → is_some (state_at all s.id) ≡ true)
    → OnlyWritten slot all (map (λ (s : NewState). Put (State s.id) s.state) states)
listed_written slot all [] more = tt
listed_written slot all (s ∷ states) more = (
  or_right (s.id == slot) _ (more s (ap is_some (cond-true (s.id == s.id) (Some s.state) (state_at states s.id) (eq-eqb s.id s.id refl)))),
  listed_written slot all states (λ t there. more t (found s t states there)),
)
  where
    found : (s t : NewState) (states : List NewState) → is_some (state_at states t.id) ≡ true → is_some (state_at (s ∷ states) t.id) ≡ true
    found s t states there =
        elim (cases_Bool (s.id == t.id)) [ inl e ↦ rw e refl | inr e ↦ rw e there ]

pub stores_written : (F : Fixed) (slot old : ℕ) (e : Effect) → OnlyWritten slot e.states (stores_of F slot old e)
stores_written F slot old e =
    written_append slot e.states (body_stores slot 0 (words_of e.me)) (Put (State slot) e.me.state ∷ (map (λ (s : NewState). Put (State s.id) s.state) e.states ++ (Link (home F e.me) ∷ [])))
    (body_written slot e.states 0 (words_of e.me)) (
      or_left _ _ (eq-eqb slot slot refl),
      written_append slot e.states (map (λ (s : NewState). Put (State s.id) s.state) e.states) (Link (home F e.me) ∷ []) (listed_written slot e.states e.states (λ s there. there)) tt,
    )

is_cell_same : (a b : Cell) → is_cell a b ≡ true → a ≡ b
is_cell_same (Body p k) (Body q l) e = let parts = and_parts (p == q) (k == l) e in let first = eqb-true p q parts.0 in let second = eqb-true k l parts.1 in cc
is_cell_same (Body p k) (State id) e = absurd (false≢true e)
is_cell_same (State id) (Body p k) e = absurd (false≢true e)
is_cell_same (State id) (State id') e = let same = eqb-true id id' e in cc

pub owed_written : (slot : ℕ) (states : List NewState) (stores : List Store) (cell : Cell) (x : ℕ) → OnlyWritten slot states stores → owed_at stores cell ≡ Some x → is_written slot states cell ≡ true
owed_written slot states [] cell x only owed = cc
owed_written slot states (Clear node ∷ stores) cell x only owed = owed_written slot states stores cell x only owed
owed_written slot states (Put c y ∷ stores) cell x only owed =
    elim (cases_Bool (is_cell c cell)) [
      | inl e ↦ subst (λ (d : Cell). is_written slot states d ≡ true) (is_cell_same c cell e) only.0
      | inr e ↦ owed_written slot states stores cell x only.1 (rw e at owed)
    ]
owed_written slot states (Link node ∷ stores) cell x only owed = owed_written slot states stores cell x only owed

-- what a seat owes is what the effect in its view writes, and it is storing
pub record IsOwing (cmd : Command) (effect : Option Effect) (point : Point) (cell : Cell) : Type 0 where
  pub storing : is_storing (stage_of point) ≡ true
  pub e : Effect
  pub is : effect ≡ Some e
  pub written : is_written cmd.slot e.states cell ≡ true

pub owing : (F : Fixed) (cmd : Command) (own wanted again : List ℕ) (lists : List ListRead) (others : List PlayerRead) (states : List NewState) (effect : Option Effect) (point : Point) (cell : Cell) (x : ℕ)
    → IsAt F cmd own wanted again lists others states effect point → owed_at (stores_owed point) cell ≡ Some x → IsOwing cmd effect point cell
owing F cmd own wanted again lists others states effect Idle cell x at owed = cc
owing F cmd own wanted again lists others states effect Owning cell x at owed = cc
owing F cmd own wanted again lists others states effect (Taking got rest) cell x at owed = cc
owing F cmd own wanted again lists others states effect Checking cell x at owed = cc
owing F cmd own wanted again lists others states effect (Entering node plan) cell x at owed = cc
owing F cmd own wanted again lists others states effect (Entered node plan) cell x at owed = cc
owing F cmd own wanted again lists others states effect (Loading node part players plan) cell x at owed = cc
owing F cmd own wanted again lists others states effect (Leaving node plan) cell x at owed = cc
owing F cmd own wanted again lists others states effect (Sensing ids) cell x at owed = cc
owing F cmd own wanted again lists others states effect Resolving cell x at owed = cc
owing F cmd own wanted again lists others states effect (Claiming got rest) cell x at owed = cc
owing F cmd own wanted again lists others states effect (Storing nodes stores) cell x at owed = record {
  storing = refl;
  e = at.e;
  is = at.is;
  written = owed_written cmd.slot at.e.states stores cell x
      (written_end cmd.slot at.e.states at.made stores
      (subst (OnlyWritten cmd.slot at.e.states) (sym at.owed) (stores_written F cmd.slot (home F (record_read cmd.slot again)) at.e))) owed;
}
owing F cmd own wanted again lists others states effect (Releasing nodes) cell x at owed = cc
owing F cmd own wanted again lists others states effect (Returning leaves) cell x at owed = cc
owing F cmd own wanted again lists others states effect (Yielding nodes leaves) cell x at owed = cc

-- a seat owes nothing before its commit
pub settled_owes_nothing : (point : Point) → is_settled (stage_of point) ≡ true → stores_owed point ≡ []
settled_owes_nothing Idle e = absurd (false≢true e)
settled_owes_nothing Owning e = absurd (false≢true e)
settled_owes_nothing (Taking got rest) e = absurd (false≢true e)
settled_owes_nothing Checking e = refl
settled_owes_nothing (Entering node plan) e = refl
settled_owes_nothing (Entered node plan) e = refl
settled_owes_nothing (Loading node part players plan) e = refl
settled_owes_nothing (Leaving node plan) e = refl
settled_owes_nothing (Sensing ids) e = refl
settled_owes_nothing Resolving e = refl
settled_owes_nothing (Claiming got rest) e = refl
settled_owes_nothing (Storing nodes stores) e = absurd (false≢true e)
settled_owes_nothing (Releasing nodes) e = absurd (false≢true e)
settled_owes_nothing (Returning leaves) e = absurd (false≢true e)
settled_owes_nothing (Yielding nodes leaves) e = absurd (false≢true e)
