-- The `from` lines of a frame, and the line that ends them.
use Rattle.std.proofs.Common.{◌≡◌, ℕ, true, false, List, [], ◌∷◌, ◌++◌, length, map, refl, sym, ap, ◌∙◌, subst, arith, length-append, append-nil}
use Rattle.std.specs.List.{AllByRecursion}
use Rattle.edge_io.specs.Lines.{HasNoLineFeed}
use Rattle.packet_read.specs.declared.arrival.Arrival.{Arrival}
use Rattle.demo_lines.specs.Rest.{HasNoRestLine}
use Rattle.demo_lines.specs.Spelling.{IsArrival, IsFrame}
use Rattle.out_text.specs.OutLines.{line_spelling, text_of}
use Rattle.out_text.specs.Feeds.{from_line, is_from_line}
use Rattle.out_text.specs.MatchLogs.{EndsPackets}
use Rattle.out_text.specs.Transcripts.{BeginsWith}
use Rattle.out_text.proofs.FedPackets.{from-same, from-begins, from-spelled}
use Rattle.transcript_check.specs.Packets.{HasNoPacket, HasNoPackets}
use Rattle.transcript_check.proofs.OneJournal.{text-next}
use Rattle.transcript_check.proofs.Texts.{one_line, same_line}

-- no `from` line is where a line ends the packets
pub ended-there : (after rest line : List ℕ) → EndsPackets after → HasNoLineFeed line → is_from_line line ≡ true → after ≡ line ++ 10 ∷ rest → ⊥
ended-there after rest line ends whole from is =
    let same = same_line ends.line line ends.after rest ends.one_line whole (sym ends.is ∙ is) in
    let never : true ≡ false = sym from ∙ ap is_from_line (sym same.line_is) ∙ ends.other in
    cc

-- packets go on after others, to where a line ends them
pub record GoesOnFrom (f p : List Arrival) (left after : List ℕ) : Type 0 where
  pub more : List Arrival
  pub is : p ≡ f ++ more
  pub left_is : left ≡ text_of (map from_line more) ++ after

-- of two runs of `from` lines that begin the same bytes, one that a line ends is the longer
pub froms-apart : (f p : List Arrival) (left after : List ℕ) → AllByRecursion IsArrival f → AllByRecursion IsArrival p → EndsPackets after
    → text_of (map from_line f) ++ left ≡ text_of (map from_line p) ++ after → GoesOnFrom f p left after
froms-apart [] p left after fits also ends same = record { more = p; is = refl; left_is = same }
froms-apart (x ∷ f) [] left after fits also ends same =
    absurd (ended-there after (text_of (map from_line f) ++ left) (line_spelling (from_line x)) ends (one_line (from_line x)) (from-begins x)
    (sym same ∙ text-next (from_line x) (map from_line f) left))
froms-apart (x ∷ f) (y ∷ p) left after fits also ends same =
    let first = same_line (line_spelling (from_line x)) (line_spelling (from_line y)) (text_of (map from_line f) ++ left) (text_of (map from_line p) ++ after) (one_line (from_line x)) (one_line (from_line y))
    (sym (text-next (from_line x) (map from_line f) left) ∙ same ∙ text-next (from_line y) (map from_line p) after) in
    let here : y ≡ x = sym (from-same x y fits.0 also.0 first.line_is) in
    let rest = froms-apart f p left after fits.1 also.1 ends first.rest_is in
    record { more = rest.more; is = (λ i. here i ∷ rest.is i); left_is = rest.left_is }

-- what holds of each of some, holds of the last of them
all-later : (f more : List Arrival) → AllByRecursion IsArrival (f ++ more) → AllByRecursion IsArrival more
all-later [] more all = all
all-later (x ∷ f) more all = all-later f more all.1

module _ (f : List Arrival) (fits : AllByRecursion IsArrival f) (bytes left : List ℕ) (is : bytes ≡ text_of (map from_line f) ++ left) where
  apart : (p : List Arrival) → IsFrame p → (b : BeginsWith bytes (text_of (map from_line p))) → EndsPackets b.after → GoesOnFrom f p left b.after
  apart p frame b ends = froms-apart f p left b.after fits frame.each ends (sym is ∙ b.is)

  -- no line follows
  pub none-end : HasNoRestLine left → HasNoPackets bytes
  none-end none p frame b ends = by on.more on.is on.left_is
    where
      on : GoesOnFrom f p left b.after
      on = apart p frame b ends

      by : (more : List Arrival) → p ≡ f ++ more → left ≡ text_of (map from_line more) ++ b.after → ⊥
      by [] same there = none ends.line ends.after ends.one_line ends.fits (there ∙ ends.is)
      by (a ∷ more) same there =
          let fit = (all-later f (a ∷ more) (subst (AllByRecursion IsArrival) same frame.each)).0 in
          none (line_spelling (from_line a)) (text_of (map from_line more) ++ b.after) (one_line (from_line a))
          (let short = fit.fits in let same_long = ap length (from-spelled a) in omega (arith, short, same_long)) (there ∙ text-next (from_line a) (map from_line more) b.after)

  -- a line follows that begins with `from `, and there is no packet of it that the frame may have
  pub bad-packet : (line after : List ℕ) → left ≡ line ++ 10 ∷ after → HasNoLineFeed line → is_from_line line ≡ true → HasNoPacket line f → HasNoPackets bytes
  bad-packet line after there whole from none p frame b ends = by on.more on.is on.left_is
    where
      on : GoesOnFrom f p left b.after
      on = apart p frame b ends

      by : (more : List Arrival) → p ≡ f ++ more → left ≡ text_of (map from_line more) ++ b.after → ⊥
      by [] same is_left = ended-there b.after after line ends whole from (sym is_left ∙ there)
      by (a ∷ more) same is_left =
          let fit = (all-later f (a ∷ more) (subst (AllByRecursion IsArrival) same frame.each)).0 in
          let first = same_line line (line_spelling (from_line a)) after (text_of (map from_line more) ++ b.after) whole (one_line (from_line a))
          (sym there ∙ is_left ∙ text-next (from_line a) (map from_line more) b.after) in
          none a (record { fits = fit; line_is = first.line_is }) (let few = frame.few in let long = ap length same ∙ length-append f (a ∷ more) in omega (arith, few, long))

  -- a line follows that ends them
  pub same-packets : EndsPackets left → (p : List Arrival) → IsFrame p → (b : BeginsWith bytes (text_of (map from_line p))) → EndsPackets b.after → p ≡ f
  same-packets ended p frame b ends = by on.more on.is on.left_is
    where
      on : GoesOnFrom f p left b.after
      on = apart p frame b ends

      by : (more : List Arrival) → p ≡ f ++ more → left ≡ text_of (map from_line more) ++ b.after → p ≡ f
      by [] same is_left = same ∙ append-nil f
      by (a ∷ more) same is_left =
          absurd (ended-there left (text_of (map from_line more) ++ b.after) (line_spelling (from_line a)) ended (one_line (from_line a)) (from-begins a)
          (is_left ∙ text-next (from_line a) (map from_line more) b.after))
