-- The line of a live player's command can be read.
use Rattle.std.proofs.Common.{◌<◌, ◌≤◌, List, [], ◌∷◌, length, arith, length-append}
use Rattle.std.specs.Prelude.{Option}
use Rattle.std.specs.Int.{w32}
use Rattle.std.proofs.lemmas.Int.{fits_signed_from_abs}
use Rattle.arena_geo.specs.declared.vec3.Vec3.{Vec3}
use Rattle.arena_geo.specs.Vectors.{IsNear, Fits}
use Rattle.entity_recs.specs.declared.rec.Rec.{Rec}
use Rattle.entity_recs.specs.Commands.{Command}
use Rattle.entity_recs.specs.Histories.{entry_of}
use Rattle.arena_map.specs.Maps.{MapView, IsMap}
use Rattle.arena_map.specs.Validity.{IsValidWorld}
use Rattle.plain_server.specs.Moving.{HasLivePlayer, HasSmallNumber, effect_among}
use Rattle.plain_server.proofs.Reports.{reported_one}
use Rattle.out_text.specs.FrameLines.{did_line}
use Rattle.out_text.specs.OutLines.{OutLine, line_spelling, printed_line, text_of}
use Rattle.out_text.proofs.Lengths.{journal-long}
use Rattle.transcript_check.specs.Moves.{move_line, IsReadable}

pub near_fits : (v : Vec3) → IsNear 1048576 v → Fits v
near_fits v near = record {
  x = fits_signed_from_abs w32 v.x (omega (arith, near.x));
  y = fits_signed_from_abs w32 v.y (omega (arith, near.y));
  z = fits_signed_from_abs w32 v.z (omega (arith, near.z));
}

printed-long : (l : OutLine) → length (line_spelling l) ≤ length (text_of (l ∷ []))
printed-long l = omega (arith, length-append (printed_line l) (text_of []), length-append (line_spelling l) (10 ∷ []))

-- so its line can be read
pub readable : (map : MapView) (records : List (Option Rec)) (c : Command) → IsMap map → IsValidWorld map records → HasLivePlayer records c → HasSmallNumber c
    → IsReadable (move_line map records c)
readable map records c is_map valid has small =
    let e = entry_of 0 c (effect_among map records c) in
    let is = reported_one map records 0 c is_map valid has small in
    let long = journal-long 0 (e ∷ []) (is, tt) in
    let low : c.slot < 64 = has.slot in
    record {
      in_range = record {
        slot = omega (arith, low);
        seq = small;
        origin = near_fits e.reply.origin is.origin;
        few = is.got.few;
        got = is.got.small;
      };
      short = omega (arith, long, printed-long (did_line e));
    }
