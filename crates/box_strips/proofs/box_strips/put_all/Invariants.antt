use Rattle.std.proofs.Common.{◌≡◌, ℕ, ◌<◌, slice_index_or}
use Rattle.arena_geo.specs.Bounds.{Bounds}
use Rattle.box_strips.specs.Strips.{HasEnds}
use Rattle.box_strips.proofs.box_strips.put_all.Given as goal

-- each of the boxes so far has its ends in the rows, which are as long as they were
abbrev pub invariant-loop-place : goal.invariant-loop-place
invariant-loop-place g l = record {
  x : (k : ℕ) (d : Bounds) → k < l.place → HasEnds l.x k (slice_index_or l.boxes k d).lo.x (slice_index_or l.boxes k d).hi.x;
  y : (k : ℕ) (d : Bounds) → k < l.place → HasEnds l.y k (slice_index_or l.boxes k d).lo.y (slice_index_or l.boxes k d).hi.y;
  x_words : l.x.words ≡ l.fn.x.words;
  y_words : l.y.words ≡ l.fn.y.words;
}
