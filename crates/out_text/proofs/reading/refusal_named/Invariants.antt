use Rattle.std.proofs.Common.{◌≡◌, drop, bytes_eq}
use Rattle.std.specs.Prelude.{find}
use Rattle.out_text.specs.OutLines.{name_of}
use Rattle.out_text.proofs.reading.refusal_named.Given as goal

-- the one of those left is the one of all
abbrev pub invariant-loop-why : goal.invariant-loop-why
invariant-loop-why l =
    find (λ why. bytes_eq (name_of why) l.name) (drop l.why-index l.refusals) ≡ find (λ why. bytes_eq (name_of why) l.name) l.refusals
