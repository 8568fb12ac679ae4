-- The tries that a take has left, as its patience counts them.
use Rattle.std.proofs.Common.{◌≡◌, ◌<◌, true, Option, Some, None, is_some}
use Rattle.std.proofs.lemmas.Bool.{false≢true}
use Rattle.std.specs.Iterator.{Count, IsFinite, size, MakesProgress}

-- one more try leaves fewer
pub fewer_left : {S A : Type 0} (can : S → Type 0) (left : S → Count) (s t : S) (r : Option A) → MakesProgress can left s r t → IsFinite (left s) → is_some r ≡ true
    → can t × IsFinite (left t) × (size (left t) < size (left s))
fewer_left can left s t None goes counted some = absurd (false≢true some)
fewer_left can left s t (Some x) goes counted some = goes.on counted
