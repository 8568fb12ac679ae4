-- What is left of a part of a block once its front is given up.
use Rattle.std.proofs.Common.{◌≡◌, ℕ, ◌+◌, List, drop, take, sym, ap, ◌∙◌, slice_range}
use Rattle.std.proofs.lemmas.List.{drop-drop}
use Rattle.std.proofs.lemmas.Slice.{between_is}

pub slice_range-later : (xs : List ℕ) (start end count : ℕ) → slice_range xs (start + count) end ≡ drop count (slice_range xs start end)
slice_range-later xs start end count =
    between_is xs (start + count) end
    ∙ sym (drop-drop count start (take end xs))
    ∙ ap (drop count) (sym (between_is xs start end))
