-- A text that is written in several pieces.
use Rattle.std.proofs.Common.{◌≡◌, ℕ, ◌-◌, ◌<◌, List, ◌++◌, Option, length, take, drop, refl, sym, ap, ◌∙◌, subst, arith}
use Rattle.std.proofs.lemmas.List.{append_assoc, take-append-drop, take_at, take_rest, length-append}
use Rattle.std.proofs.KnownBytes.{Appends-trans, Appends-kept}
use Rattle.std.specs.Io.KnownBytes.{Appends, Keeps}
use Rattle.edge_io.specs.Writes.{AppendsPart}

-- of the bytes a front was appended, and the rest is still to be written
pub record IsWritten (old now : Option (List ℕ)) (bytes rest : List ℕ) : Type 0 where
  pub front : List ℕ
  pub split : bytes ≡ front ++ rest
  pub appended : Appends old now front

pub IsWritten-more : (old now next : Option (List ℕ)) (bytes rest : List ℕ) (n : ℕ) → IsWritten old now bytes rest → Appends now next (take n rest)
    → IsWritten old next bytes (take (length rest - n) (drop n rest))
IsWritten-more old now next bytes rest n written more = record {
  front = written.front ++ take n rest;
  split = written.split
      ∙ ap (λ l. written.front ++ l) (sym (take-append-drop n rest))
      ∙ sym (append_assoc written.front (take n rest) (drop n rest))
      ∙ ap (λ l. (written.front ++ take n rest) ++ l) (sym (take_rest rest n));
  appended = Appends-trans old now next written.front (take n rest) written.appended more;
}

pub IsWritten-part : (old now next : Option (List ℕ)) (bytes rest : List ℕ) → 0 < length rest → IsWritten old now bytes rest → Keeps now next → AppendsPart old next bytes
IsWritten-part old now next bytes rest some written kept = record {
  count = length written.front;
  part = omega (arith, ap length written.split, length-append written.front rest);
  appended = subst (Appends old next)
      (sym (ap (take (length written.front)) written.split ∙ take_at written.front rest (length written.front) refl))
      (Appends-kept old now next written.front written.appended kept);
}
