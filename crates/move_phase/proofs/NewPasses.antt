-- The passes of a new table.
use Rattle.std.proofs.Common.{◌≡◌, ℕ, zero, suc, ◌-◌, ◌<◌, ◌≤◌, List, [], length, map, slice_index, slice_index_or, take, refl, sym, ap, ◌∙◌, subst, None, length-take-le, get_or-take, arith}
use Rattle.std.specs.Prelude.{All}
use Rattle.std.specs.List.{range_with_len}
use Rattle.std.proofs.lemmas.List.FromFn.{get_or-map-range_with_len, length-map-range_with_len}
use Rattle.atomic_table.specs.Seated.{TableId}
use Rattle.entity_recs.specs.Commands.{Command}
use Rattle.core_steps.specs.Nodes.{Fixed}
use Rattle.core_steps.specs.Points.{Idle}
use Rattle.ruled_words.specs.Passes.{PassView, IsPassOf, setting_of}
use Rattle.ruled_words.specs.declared.setting.Setting.{Setting}
use Rattle.ruled_words.specs.NewPasses.{new_passes, other_pass}
use Rattle.move_phase.specs.Serving.{served_by}
use Rattle.move_phase.specs.Running.{MayServe, HaveRoom}

-- the pass has this number, no command, no entry, and the room of its number
pub record IsNew (rooms : List ℕ) (i : ℕ) (p : PassView) : Type 0 where
  pub number : p.number ≡ i
  pub given : p.given ≡ None
  pub idle : p.view.point ≡ Idle
  pub empty : p.view.log ≡ []
  pub room : p.view.room ≡ slice_index rooms i

-- each of the passes of a new table is so
pub new_at : (table : TableId) (setting : Setting) (rooms : List ℕ) (i : ℕ) (d : PassView) → i < length rooms
    → IsNew rooms i (slice_index_or (new_passes table setting rooms) i d)
new_at table setting rooms zero d within = record { number = refl; given = refl; idle = refl; empty = refl; room = refl }
new_at table setting rooms (suc k) d within =
    let at : slice_index_or (map (other_pass table setting rooms) (range_with_len 1 (length rooms - 1))) k d ≡ other_pass table setting rooms (suc k) =
    get_or-map-range_with_len (other_pass table setting rooms) 1 (length rooms - 1) k (suc k) d (omega (arith, within)) (omega arith) in
    subst (IsNew rooms (suc k)) (sym at) (record { number = refl; given = refl; idle = refl; empty = refl; room = refl })

-- there are as many as rooms
pub new_count : (table : TableId) (setting : Setting) (rooms : List ℕ) → 0 < length rooms → length (new_passes table setting rooms) ≡ length rooms
new_count table setting rooms some = omega (arith, some, length-map-range_with_len (other_pass table setting rooms) 1 (length rooms - 1))

-- a new pass may serve the commands that it has room for
pub may_serve : (F : Fixed) (table : TableId) (commands : List Command) (rooms : List ℕ) (passes : List PassView) → passes ≡ new_passes table (setting_of F) rooms
    → 0 < length rooms → All (IsPassOf F (length rooms) table) passes → HaveRoom (length rooms) commands rooms
    → (i : ℕ) (d : PassView) → i < length passes → MayServe F (length rooms) table commands (slice_index_or passes i d)
may_serve F table commands rooms passes are some own room i d within =
    let inside : i < length rooms = omega (arith, within, ap length are, new_count table (setting_of F) rooms some) in
    let new : IsNew rooms i (slice_index_or passes i d) =
    subst (λ (ps : List PassView). IsNew rooms i (slice_index_or ps i d)) (sym are) (new_at table (setting_of F) rooms i d inside) in
    record {
      own = own i d within;
      rests = record { given = new.given; idle = new.idle };
      empty = new.empty;
      room = fits (slice_index_or passes i d).number new.number ((slice_index_or passes i d).view.room) (new.room ∙ room.each i inside);
    }
  where
    fits : (k : ℕ) → k ≡ i → (m : ℕ) → m ≡ length (served_by (length rooms) i commands) → length (served_by (length rooms) k commands) ≤ m
    fits k same m is = let here = ap (λ (j : ℕ). length (served_by (length rooms) j commands)) same in omega (arith, here, is)

-- the first rooms of all are those of the passes
pub record AreRooms (passes : ℕ) (commands : List Command) (rooms : List ℕ) : Type 0 where
  pub count : length rooms ≡ passes
  pub room : HaveRoom (length rooms) commands rooms

pub rooms_are : (passes k : ℕ) (commands : List Command) (all rooms : List ℕ) → k ≡ passes → HaveRoom passes commands all → rooms ≡ take k all
    → AreRooms passes commands rooms
rooms_are passes k commands all rooms k_is room is =
    let count : length rooms ≡ passes = ap length is ∙ length-take-le k all (omega (arith, k_is, room.enough)) ∙ k_is in
    record {
      count = count;
      room = subst (λ (n : ℕ). HaveRoom n commands rooms) (sym count) (record {
        enough = omega (arith, count);
        each = λ i within.
            ap (λ (ns : List ℕ). slice_index ns i) is ∙ get_or-take k all i 0 (omega (arith, within, k_is)) ∙ room.each i within;
      });
    }
