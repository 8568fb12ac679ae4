-- A limit of frames decides which frame is one too many, and nothing else.
use Rattle.std.proofs.Common.{◌≡◌, ℕ, false, List, Option, Some, None, Result, Ok, Err, IfOk, refl}
use Rattle.demo_lines.specs.declared.line.Line.{Line}
use Rattle.demo_lines.specs.declared.line.Line.TheVariants.{OfMap, Frame, From, End}
use Rattle.demo_lines.specs.declared.line_fault.LineFault.{LineFault}
use Rattle.demo_lines.specs.Known.{Reading, is_over}
use Rattle.demo_lines.specs.Recording.{next, after_test}
use Rattle.demo_lines.specs.Said.{stage_fault, after_said}
use Rattle.demo_lines.specs.Readings.{IsAllowedAt}
use Rattle.demo_lines.proofs.MapGiven.{after_any_line}

test-limit : (r : Reading) (fault : Option LineFault) (line : Line) → (after_test r fault (Some line)).limit ≡ r.limit
test-limit r (Some why) line = refl
test-limit r None (OfMap line) = refl
test-limit r None Frame = refl
test-limit r None (From a) = refl
test-limit r None End = refl

said-limit : (r : Reading) (said : Result Line LineFault) → is_over r.stage ≡ false → IfOk said (IsAllowedAt r.stage) → (after_said r said).limit ≡ r.limit
said-limit r (Ok line) going is = test-limit r (stage_fault r line) line
said-limit r (Err why) going is = refl

-- a line leaves the limit
pub next-limit : (r : Reading) (raw : List ℕ) → (next r raw).limit ≡ r.limit
next-limit r raw = after_any_line (λ r s. s.limit ≡ r.limit) (λ r over. refl) (λ r going. refl) said-limit r raw
