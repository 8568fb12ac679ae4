-- What a list of replies is after its items were lent for writing.
use Rattle.std.specs.Prelude.{ℕ, List, ◌++◌, length, take, drop}
use Rattle.std.specs.Borrow.{Lends, MutBor, Fml, Array}
use denote.Param.{number}
use Rattle.byte_lists.specs.contracts.byte_buf.ByteBuf.{the_row as buf_row}
use Rattle.snapshot_write.specs.declared.reply_buf.TheConstants.{REPLY_ROOM}
use Rattle.frame_phases.specs.contracts.replies.ReplyList.{the_row}

-- a list whose items were written: the new items in place of the old ones, as many as there were
abbrev pub list_rewritten_with : List (List ℕ) → List (List ℕ) → List (List ℕ)
list_rewritten_with old new = take (length old) (new ++ drop (length new) old)

-- after the loan the list has the last items of the lent slice
abbrev pub LendsItems : MutBor (List (List ℕ)) → MutBor (List (List ℕ)) → Fml
LendsItems list slice = Lends the_row (Array (buf_row (number REPLY_ROOM)) 0) list slice (list_rewritten_with list.now)
