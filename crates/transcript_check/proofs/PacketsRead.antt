-- The packets of a frame that were read so far.
use Rattle.std.proofs.Common.{◌≡◌, true, false, List, [], ◌∷◌, ◌++◌, map, sym, ap, ◌∙◌, subst, arith, append-nil, length-append}
use Rattle.std.specs.List.{AllByRecursion}
use Rattle.std.proofs.lemmas.List.{map-append}
use Rattle.edge_io.specs.declared.source.Source as sources
use Rattle.packet_read.specs.declared.arrival.Arrival.{Arrival}
use Rattle.demo_lines.specs.declared.demo_stop.DemoStop.{DemoStop}
use Rattle.demo_lines.specs.Rest.{HasNoRestLine}
use Rattle.demo_lines.specs.Spelling.{IsArrival, IsFrame}
use Rattle.out_text.specs.OutLines.{text_of}
use Rattle.out_text.specs.Feeds.{from_line, is_from_line}
use Rattle.transcript_check.specs.Reading.{InputView, ahead_of, without_held, MayRead, HoldsLine, ReadsLines, ReadsOneAtMost, ReadsBeginning, Misses, ReadFails}
use Rattle.transcript_check.specs.Packets.{TakesPacket, HasNoPacket, ArePackets, HasNoPackets, ReadsPackets}
use Rattle.transcript_check.proofs.Texts.{if_some-read, if_some-weaker}
use Rattle.transcript_check.proofs.ReadingOn.{reads-none, reads-both, fails-after, read-wanted, looked-line, looked-first}
use Rattle.transcript_check.proofs.HeldLines.{BeginsWithLine, accepted, held-none, held-begins}
use Rattle.transcript_check.proofs.FromLines.{none-end, bad-packet}

-- the lines of these packets were read
pub record PacketsSoFar {S : Type 0} (s : sources.Ghosts S) (old now : S) (d e : InputView) (packets : List Arrival) : Type 0 where
  pub reads : ReadsLines s old now d e (map from_line packets)
  pub frame : IsFrame packets

each-push : (f : List Arrival) (a : Arrival) → AllByRecursion IsArrival f → IsArrival a → AllByRecursion IsArrival (f ++ a ∷ [])
each-push [] a all is = (is, tt)
each-push (x ∷ f) a all is = (all.0, each-push f a all.1 is)

module _ {S : Type 0} (s : sources.Ghosts S) where
  pub none-so-far : (old : S) (d : InputView) → MayRead s d old → PacketsSoFar s old old d d []
  none-so-far old d may = record { reads = reads-none s old d may; frame = record { few = omega arith; each = tt } }

  module _ (old now next : S) (d e e2 : InputView) (packets : List Arrival) (so : PacketsSoFar s old now d e packets) where
    -- a read fails
    pub packets-fail : (stop : DemoStop) → ReadFails s now next e stop → ReadFails s old next d stop
    packets-fail stop fails = fails-after s old now next d e stop so.reads.on fails

    -- no line follows
    pub no_line-missed : Misses s now next e HasNoRestLine → Misses s old next d HasNoPackets
    no_line-missed missed = record {
      missed = if_some-read (ahead_of s d old) (ahead_of s e now) (text_of (map from_line packets)) HasNoRestLine HasNoPackets so.reads.consumed missed.missed
          (λ bytes left is none. none-end packets so.frame.each bytes left is none);
      uncounted = missed.uncounted ∙ so.reads.on.uncounted;
    }

    pub no_line-looked : ReadsOneAtMost s now next e e2 → ReadsBeginning s ArePackets old next d e2
    no_line-looked one =
        looked-first s old now next d e e2 ArePackets (map from_line packets) [] so.reads (record { packets = packets; frame = so.frame; lines_are = append-nil (map from_line packets) }) one

    module _ (holds : HoldsLine s now next e e2) where
      held-so : ReadsLines s old next d e2 (map from_line packets)
      held-so = subst (ReadsLines s old next d e2) (append-nil (map from_line packets)) (reads-both s old now next d e e2 (map from_line packets) [] so.reads (held-none s now next e e2 holds))

      -- a line follows that ends them
      pub packets-end : is_from_line e2.given ≡ false → ReadsPackets s old next d e2 packets
      packets-end other = record {
        frame = so.frame;
        reads = held-so;
        ends = if_some-weaker (ahead_of s e2 next) _ _ (held-begins s now next e e2 holds)
            (λ bytes b. record { line = e2.given; after = b.after; is = b.is; one_line = holds.line.one_line; fits = holds.line.fits; other = other });
      }

      -- one more packet was taken
      pub packets-push : (packets' : List Arrival) → TakesPacket e2.given packets packets' → PacketsSoFar s old next d (without_held e2) packets'
      packets-push packets' t =
          let a = t.packet in
          let read = read-wanted s now next e (without_held e2) (from_line a) (accepted s now next e e2 holds) t.is.line_is in
          let lines : map from_line packets ++ from_line a ∷ [] ≡ map from_line packets' = sym (map-append from_line packets (a ∷ [])) ∙ ap (map from_line) (sym t.put) in
          record {
            reads = subst (ReadsLines s old next d (without_held e2)) lines (reads-both s old now next d e (without_held e2) (map from_line packets) (from_line a ∷ []) so.reads read);
            frame = subst IsFrame (sym t.put) (record {
              few = (let room = t.room in let long = length-append packets (a ∷ []) in omega (arith, room, long));
              each = each-push packets a so.frame.each t.is.fits;
            });
          }

      -- the line has no packet that the frame may have
      pub bad-missed : is_from_line e2.given ≡ true → HasNoPacket e2.given packets → Misses s old next d HasNoPackets
      bad-missed from none = record {
        missed = if_some-read (ahead_of s d old) (ahead_of s e2 next) (text_of (map from_line packets)) (BeginsWithLine e2.given) HasNoPackets held-so.consumed (held-begins s now next e e2 holds)
            (λ bytes left is b. bad-packet packets so.frame.each bytes left is e2.given b.after b.is holds.line.one_line from none);
        uncounted = held-so.on.uncounted;
      }

    pub bad-looked : HoldsLine s now next e e2 → ReadsBeginning s ArePackets old next d (without_held e2)
    bad-looked holds =
        looked-first s old now next d e (without_held e2) ArePackets (map from_line packets) [] so.reads (record { packets = packets; frame = so.frame; lines_are = append-nil (map from_line packets) })
        (looked-line s now next e (without_held e2) (accepted s now next e e2 holds))
