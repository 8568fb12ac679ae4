-- The passes of a test: at its start, after a move, and at its end.
use Rattle.std.proofs.Common.{◌≡◌, ℕ, ◌<◌, false, List, [], ◌∷◌, length, refl, sym, ap, ◌∙◌, subst, All, arith}
use Rattle.std.proofs.lemmas.List.Elements.{recursion_from_All, All-cons, All-nil}
use Rattle.atomic_table.specs.Seated.{TableId}
use Rattle.entity_recs.specs.declared.effect.Entry.{Entry}
use Rattle.entity_recs.specs.Commands.{Command}
use Rattle.entity_recs.specs.Histories.{Item}
use Rattle.core_steps.specs.Nodes.{Fixed}
use Rattle.ruled_words.specs.Passes.{PassView, IsPassOf, setting_of}
use Rattle.ruled_words.specs.declared.setting.Setting.{Setting}
use Rattle.ruled_words.specs.NewPasses.{first_pass, other_pass}
use Rattle.shared_moves.specs.Closing.{HasNoCommand}
use Rattle.shared_moves.specs.InHand.{MayBegin}
use Rattle.region_locks.specs.Quitting.{has_command_in_hand}
use Rattle.shared_moves.specs.declared.again.Again.{Again}
use Rattle.shared_moves.specs.Moves.{HasRun, WasNotRun}
use Rattle.trial_passes.specs.Trials.{IsFree, IsResting}
use Rattle.region_locks.proofs.Stepping.{without_command}

-- the rooms of two passes, as large as each other
abbrev pub rooms : ℕ → List ℕ
rooms room = room ∷ room ∷ []

first_may_begin : (table : TableId) (setting : Setting) (room : ℕ) → 0 < room → MayBegin (first_pass table setting (rooms room))
first_may_begin table setting room some = record { none = refl; idle = refl; room = some }

second_may_begin : (table : TableId) (setting : Setting) (room : ℕ) → 0 < room → MayBegin (other_pass table setting (rooms room) 1)
second_may_begin table setting room some = record { none = refl; idle = refl; room = some }

-- each of two new passes is free
pub are_free : (F : Fixed) (passes : ℕ) (table : TableId) (room : ℕ) (items : List PassView) (x y : PassView) → 0 < room → items ≡ first_pass table (setting_of F) (rooms room) ∷ other_pass table (setting_of F) (rooms room) 1 ∷ []
    → x ≡ first_pass table (setting_of F) (rooms room) → y ≡ other_pass table (setting_of F) (rooms room) 1 → All (IsPassOf F passes table) items → IsFree F passes table 0 x × IsFree F passes table 1 y
are_free F passes table room items x y some are first second own =
    let two = recursion_from_All (IsPassOf F passes table) (first_pass table (setting_of F) (rooms room) ∷ other_pass table (setting_of F) (rooms room) 1 ∷ []) (subst (All (IsPassOf F passes table)) are own) in (
      record { own = subst (IsPassOf F passes table) (sym first) two.0; number_is = ap (λ (p : PassView). p.number) first; free = subst MayBegin (sym first) (first_may_begin table (setting_of F) room some) },
      record { own = subst (IsPassOf F passes table) (sym second) two.1.0; number_is = ap (λ (p : PassView). p.number) second; free = subst MayBegin (sym second) (second_may_begin table (setting_of F) room some) },
    )

module _ (F : Fixed) (passes : ℕ) (table : TableId) (number : ℕ) (old new : PassView) where
  -- a command that wasn't run may be tried again
  pub free_again : (c : Command) (a : Again) → IsFree F passes table number old → WasNotRun F passes table old new c a → IsFree F passes table number new
  free_again c a was not_run = record {
    own = not_run.own;
    number_is = not_run.number ∙ was.number_is;
    free = record { none = not_run.rests.given; idle = not_run.rests.idle; room = omega (arith, was.free.room, ap (λ (xs : List Item). length xs) not_run.log, not_run.room) };
  }

  -- after a command that was run the pass rests
  pub rests_after : (c : Command) (e : Entry) → IsFree F passes table number old → HasRun F passes table old new c e → IsResting F passes table number new
  rests_after c e was run = record { own = run.own; number_is = run.number ∙ was.number_is; rests = run.rests }

-- a pass that has no command in hand rests
pub rests_now : (F : Fixed) (passes : ℕ) (table : TableId) (number : ℕ) (p : PassView) → IsPassOf F passes table p → p.number ≡ number → has_command_in_hand p ≡ false → IsResting F passes table number p
rests_now F passes table number p own is none = record { own = own; number_is = is; rests = without_command p none }

-- ---- two passes at the end

module _ (F : Fixed) (passes : ℕ) (table : TableId) (x y : PassView) (items : List PassView) (are : items ≡ x ∷ y ∷ []) (first : IsResting F passes table 0 x) (second : IsResting F passes table 1 y) where
  pub two_own : All (IsPassOf F passes table) items
  two_own = subst (All (IsPassOf F passes table)) (sym are) (All-cons (IsPassOf F passes table) x (y ∷ []) first.own (All-cons (IsPassOf F passes table) y [] second.own (All-nil (IsPassOf F passes table))))

  pub two_rest : All HasNoCommand items
  two_rest = subst (All HasNoCommand) (sym are) (All-cons HasNoCommand x (y ∷ []) first.rests (All-cons HasNoCommand y [] second.rests (All-nil HasNoCommand)))
