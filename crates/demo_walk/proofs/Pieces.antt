-- A text that is written in two pieces.
use Rattle.std.proofs.Common.{ℕ, ◌≤◌, List, [], ◌++◌, Option, append-nil, sym, ap, subst, arith, length-append, length}
use Rattle.std.proofs.KnownBytes.{Appends-trans}
use Rattle.std.proofs.lemmas.List.{take-append-le}
use Rattle.std.specs.Io.KnownBytes.{Appends}
use Rattle.edge_io.specs.Writes.{AppendsPart}
use Rattle.edge_io.proofs.Writing.{IsWritten}
use Rattle.demo_make.proofs.Passed.{passed-part}

-- a part of the first piece is one of the whole
pub first-part : (old new : Option (List ℕ)) (first more : List ℕ) → AppendsPart old new first → AppendsPart old new (first ++ more)
first-part old new first more part =
    let few : part.count ≤ length first = omega (arith, part.part) in
    record {
      count = part.count;
      part = omega (arith, length-append first more, part.part);
      appended = subst (Appends old new) (sym (take-append-le part.count first more few)) part.appended;
    }

-- so is the first piece with a part of the other
pub second-part : (old now new : Option (List ℕ)) (first more : List ℕ) → Appends old now first → AppendsPart now new more
    → AppendsPart old new (first ++ more)
second-part old now new first more written part =
    let all : IsWritten old now (first ++ more) (more ++ []) = record {
      front = first;
      split = ap (λ t. first ++ t) (sym (append-nil more));
      appended = written;
    } in
    passed-part old now new (first ++ more) more [] all part

-- and both pieces are the whole
pub both-pieces : (old now new : Option (List ℕ)) (first more : List ℕ) → Appends old now first → Appends now new more
    → Appends old new (first ++ more)
both-pieces old now new first more one other = Appends-trans old now new first more one other
