-- Lines that are gathered and passed on.
use Rattle.std.proofs.Common.{Result, Ok, Err, ◌≡◌, ℕ, ◌+◌, ◌≤◌, List, [], ◌++◌, Option, length, take, sym, ap, ◌∙◌, subst, arith, append_assoc, append-nil, length-append}
use Rattle.std.specs.Result.{OnOk, OnErr}
use Rattle.std.proofs.KnownBytes.{Appends-trans}
use Rattle.std.proofs.lemmas.List.{take-append-le}
use Rattle.std.proofs.Math.Seq.{take-append-add}
use Rattle.std.specs.Io.KnownBytes.{Appends}
use Rattle.edge_io.specs.Writes.{AppendsPart}
use Rattle.edge_io.proofs.Writing.{IsWritten}
use Rattle.demo_make.specs.Passing.{PassesFront}

pub passed : (old now next : Option (List ℕ)) (whole text more rest : List ℕ) → IsWritten old now whole (text ++ more)
    → PassesFront now next text rest → IsWritten old next whole (rest ++ more)
passed old now next whole text more rest written passes = record {
  front = written.front ++ passes.front;
  split = written.split
      ∙ ap (λ t. written.front ++ (t ++ more)) passes.split
      ∙ ap (λ t. written.front ++ t) (append_assoc passes.front rest more)
      ∙ sym (append_assoc written.front passes.front (rest ++ more));
  appended = Appends-trans old now next written.front passes.front written.appended passes.appended;
}

pub gathered : (old now : Option (List ℕ)) (whole text line more : List ℕ) → IsWritten old now whole (text ++ (line ++ more))
    → IsWritten old now whole ((text ++ line) ++ more)
gathered old now whole text line more written = rw (append_assoc text line more) written

pub passed-part : (old now next : Option (List ℕ)) (whole text more : List ℕ) → IsWritten old now whole (text ++ more)
    → AppendsPart now next text → AppendsPart old next whole
passed-part old now next whole text more written part =
    let front = written.front in
    let few : part.count ≤ length text = omega (arith, part.part) in
    let front_of : take (length front + part.count) whole ≡ front ++ take part.count text =
    ap (take (length front + part.count)) written.split
    ∙ take-append-add front (text ++ more) part.count
    ∙ ap (λ t. front ++ t) (take-append-le part.count text more few) in
    record {
      count = length front + part.count;
      part = omega (arith, ap length written.split, length-append front (text ++ more), length-append text more, part.part);
      appended = subst (Appends old next) (sym front_of)
          (Appends-trans old now next front (take part.count text) written.appended part.appended);
    }

pub passed-all : (old now next : Option (List ℕ)) (whole text : List ℕ) → IsWritten old now whole (text ++ [])
    → Appends now next text → Appends old next whole
passed-all old now next whole text written last =
    let split : whole ≡ written.front ++ text = written.split ∙ ap (λ t. written.front ++ t) (append-nil text) in
    subst (Appends old next) (sym split) (Appends-trans old now next written.front text written.appended last)

pub on_ok : {T E : Type 0} (P Q : Type 0) (r : Result T E) → (P → Q) → OnOk r P → OnOk r Q
on_ok P Q (Ok x) f h = f h
on_ok P Q (Err e) f h = tt

pub on_err : {T E : Type 0} (P Q : Type 0) (r : Result T E) → (P → Q) → OnErr r P → OnErr r Q
on_err P Q (Ok x) f h = tt
on_err P Q (Err e) f h = f h
