-- What was taken from a source for a recording that was read to its end, or to its first faulty line.
use Rattle.std.specs.Prelude.{◌≡◌, ℕ, ◌⊎◌, false, List, [], ◌++◌, Option}
use Rattle.std.specs.List.{AllByRecursion}
use Rattle.std.specs.Io.KnownBytes.{Consumes}
use Rattle.edge_io.specs.Lines.{HasNoLineFeed, HasNotReadAhead, ahead}
use Rattle.edge_io.specs.WholeLines.{all_but_last, unlines}
use Rattle.demo_lines.specs.declared.stage.Stage.TheVariants.{Ended}
use Rattle.demo_lines.specs.Known.{Reading, is_over}
use Rattle.demo_lines.specs.Recording.{after}
use Rattle.demo_lines.specs.Reads.{IsTextOf, TakesCutEnd, IsRefusedLine, IsLongFront, IsLastPart}

-- the lines of a recording were taken from the source up to its line `end`, each with its line feed, but for an `end`
-- that the input ends with. No more was read than the last read had to give and the input's end wasn't given in this
-- call (same_end), or such an `end` without a line feed was taken, and the input's end was given (at_end). first is what
-- was known of the recording before; old, new and last are the source before and after, and how many bytes its last read
-- gave
pub record ReadsToEnd {S : Type 0} (first : Reading) (old new : S) (last : ℕ) (same_end at_end : Type 0)
    (left_before left : Option (List ℕ)) : Type 0 where
  pub lines : List (List ℕ)
  pub text : List ℕ
  pub buffered : List ℕ
  pub each : AllByRecursion HasNoLineFeed lines
  pub spelled : IsTextOf lines text (ahead buffered left)
  pub consumed : Consumes left_before (ahead buffered left) text
  pub ended : (after first lines).stage ≡ Ended
  pub going : is_over (after first (all_but_last lines)).stage ≡ false
  pub needed : (HasNotReadAhead old new last [] buffered × same_end)
      ⊎ (TakesCutEnd left_before (ahead buffered left) × at_end)

-- lines were taken from the source that the recording goes on after, and then what is refused: a line or the front of
-- one, where no more was read than the last read had to give and the input's end wasn't given in this call (same_end),
-- or what the input ended with (at_end)
pub record ReadsToRefusal {S : Type 0} (first : Reading) (old new : S) (last : ℕ) (same_end at_end : Type 0)
    (left_before left : Option (List ℕ)) : Type 0 where
  pub lines : List (List ℕ)
  pub refused : List ℕ
  pub buffered : List ℕ
  pub each : AllByRecursion HasNoLineFeed lines
  pub consumed : Consumes left_before (ahead buffered left) (unlines lines ++ refused)
  pub going : is_over (after first lines).stage ≡ false
  pub why : ((IsRefusedLine (after first lines) refused ⊎ IsLongFront refused)
      × (HasNotReadAhead old new last [] buffered × same_end))
      ⊎ (IsLastPart refused (ahead buffered left) × at_end)
