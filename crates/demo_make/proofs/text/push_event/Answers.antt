use Rattle.std.proofs.Common.{[], ◌∷◌, length, ap, arith, length-append}
use Rattle.demo_lines.specs.Spelling.{packet_text}
use Rattle.demo_make.proofs.Lines.{packet-long}
use Rattle.demo_make.proofs.text.push_event.Goals as goal

pub extend-requires-in-From-4 : goal.extend-requires-in-From-4
extend-requires-in-From-4 c =
    let long = packet-long c.as_slice.result.now (omega (arith, c.as_slice.ensures.within, ap length c.as_slice.ensures.value)) in
    omega (
      arith,
      c.requires,
      long,
      c.format.ensures.fits,
      ap length c.as_bytes.ensures.value,
      ap length c.push_packet.ensures,
      length-append c.extend-in-From-3.new.self (packet_text c.as_slice.result.now),
      ap length c.extend-in-From-3.ensures,
      length-append c.extend-in-From-2.new.self (32 ∷ []),
      ap length c.extend-in-From-2.ensures,
      length-append c.extend-in-From.new.self c.as_bytes.result.now,
      ap length c.extend-in-From.ensures,
      length-append c.args.text.now (102 ∷ 114 ∷ 111 ∷ 109 ∷ 32 ∷ []),
    )
