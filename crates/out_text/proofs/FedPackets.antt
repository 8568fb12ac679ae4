-- The packets that a frame of a recording may have: they are small, and their `from` lines differ where they do.
use Rattle.std.proofs.Common.{◌≡◌, ℕ, ◌*◌, ◌^◌, ◌<◌, ◌≤◌, true, All, List, [], ◌∷◌, ◌++◌, length, codes, decimal, refl, sym, ap, ◌∙◌, append_assoc, arith, length-append}
use Rattle.std.specs.List.{AllByRecursion}
use Rattle.std.proofs.lemmas.Fmt.{decimal_nonempty}
use Rattle.std.proofs.lemmas.List.Elements.{All-head, All-tail, All-from_recursion}
use Rattle.std.proofs.lemmas.Option.{same_Some}
use Rattle.hex.specs.Hex.{lower_digits}
use Rattle.hex.proofs.HexLemmas.{length-encode_with}
use Rattle.packet_read.specs.declared.arrival.Arrival.{Arrival}
use Rattle.plain_server.specs.Entries.{HasBytes}
use Rattle.demo_lines.specs.declared.line.Line.TheVariants.{From}
use Rattle.demo_lines.specs.Spelling.{packet_text, line_text, IsArrival, IsFrame}
use Rattle.out_text.specs.OutLines.{OutLine, FromLine, line_spelling}
use Rattle.out_text.specs.Feeds.{from_line, is_from_line}
use Rattle.out_text.specs.Ranges.{IsPacketInRange}
use Rattle.out_text.specs.Reading.{line_in}
use Rattle.out_text.proofs.Fitting.{IsShort, HasLine}
use Rattle.out_text.proofs.LinesRead.{line-back}
use Rattle.out_text.proofs.SmallFrames.{HasPort, IsSmallFrame}

-- ---- what fits a line of a recording

-- a packet's line in a recording is its `from` line
pub from-spelled : (a : Arrival) → line_text (From a) ≡ line_spelling (from_line a)
from-spelled a = sym (append_assoc (codes "from " ++ decimal a.port) (codes " ") (packet_text a.bytes))

text-long : (bytes : List ℕ) → 2 * length bytes ≤ length (packet_text bytes)
text-long [] = omega arith
text-long (b ∷ bytes) = omega (arith, length-encode_with lower_digits (b ∷ bytes))

-- so it has at most 252 bytes
pub arrival-short : (a : Arrival) → IsArrival a → IsShort a
arrival-short a is =
    let front = codes "from " ++ decimal a.port in
    let port = is.port in
    omega (
      arith,
      is.fits,
      ap length (from-spelled a),
      length-append (front ++ codes " ") (packet_text a.bytes),
      length-append front (codes " "),
      length-append (codes "from ") (decimal a.port),
      decimal_nonempty a.port (omega (arith, port)),
      text-long a.bytes,
    )

by_each : {X : Type 0} (P : X → Type 0) (xs : List X) → All P xs → AllByRecursion P xs
by_each P [] all = tt
by_each P (x ∷ xs) all = (All-head P x xs all, by_each P xs (All-tail P x xs all))

pub arrival-in_range : (a : Arrival) → IsArrival a → IsPacketInRange a.port a.bytes
arrival-in_range a is = record {
  port_fits = (let port = is.port in omega (arith, port));
  most = arrival-short a is;
  are_bytes = by_each (λ b. b < 2 ^ 8) a.bytes is.bytes;
}

each-of : {X : Type 0} (P Q : X → Type 0) (xs : List X) → ((x : X) → P x → Q x) → AllByRecursion P xs → All Q xs
each-of {X = X} P Q xs then all = All-from_recursion Q xs (go xs all)
  where
    go : (ys : List X) → AllByRecursion P ys → AllByRecursion Q ys
    go [] all = tt
    go (y ∷ ys) all = (then y all.0, go ys all.1)

-- the packets of a frame are small, and have bytes
pub frame-small : (f : List Arrival) → IsFrame f → IsSmallFrame f
frame-small f is = record {
  few = (let few = is.few in omega (arith, few));
  ports = each-of IsArrival HasPort f (λ a fits. fits.port) is.each;
  short = each-of IsArrival IsShort f arrival-short is.each;
  room = each-of IsArrival HasLine f (λ a fits. fits.fits) is.each;
}

pub frame-bytes : (f : List Arrival) → IsFrame f → All HasBytes f
frame-bytes f is = each-of IsArrival HasBytes f (λ a fits. fits.bytes) is.each

-- ---- `from` lines that are the same

pub from-same : (a b : Arrival) → IsArrival a → IsArrival b → line_spelling (from_line a) ≡ line_spelling (from_line b) → a ≡ b
from-same a b is also same =
    let lines : ◌≡◌ {A = OutLine} (FromLine a.port a.bytes) (FromLine b.port b.bytes) =
    same_Some (from_line a) (from_line b) (sym (line-back (from_line a) (arrival-in_range a is)) ∙ ap line_in same ∙ line-back (from_line b) (arrival-in_range b also)) in
    let ports : a.port ≡ b.port = cc in
    let texts : a.bytes ≡ b.bytes = cc in
    λ i. record { port = ports i; bytes = texts i }

pub from-begins : (a : Arrival) → is_from_line (line_spelling (from_line a)) ≡ true
from-begins a = refl
