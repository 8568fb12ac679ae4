-- The lines of a recording that are read are counted.
use Rattle.std.proofs.Common.{◌≡◌, ℕ, ◌+◌, Bool, true, false, List, [], ◌∷◌, length, refl, ap, ◌∙◌, arith}
use Rattle.edge_io.specs.WholeLines.{all_but_last}
use Rattle.demo_lines.specs.Known.{Reading, is_over}
use Rattle.demo_lines.specs.Recording.{next, after}
use Rattle.demo_lines.proofs.Ends.{next-counts, after-over}

-- what isn't over after lines wasn't over before them
pub going-before : (r : Reading) (lines : List (List ℕ)) → is_over (after r lines).stage ≡ false → is_over r.stage ≡ false
going-before r lines going = by (is_over r.stage) refl
  where
    by : (over : Bool) → is_over r.stage ≡ over → is_over r.stage ≡ false
    by false is = is
    by true is =
        let still : is_over (after r lines).stage ≡ true = ap (λ (t : Reading). is_over t.stage) (after-over r lines is) ∙ is in
        cc

-- lines of which the recording goes on after all but the last are counted
pub counted-lines : (r : Reading) (lines : List (List ℕ)) → is_over (after r (all_but_last lines)).stage ≡ false → (after r lines).lines ≡ r.lines + length lines
counted-lines r [] going = omega arith
counted-lines r (line ∷ []) going = let one = next-counts r line going in omega (arith, one)
counted-lines r (line ∷ other ∷ lines) going =
    let here = going-before r (line ∷ all_but_last (other ∷ lines)) going in
    let one = next-counts r line here in
    let rest = counted-lines (next r line) (other ∷ lines) going in
    omega (arith, one, rest)
