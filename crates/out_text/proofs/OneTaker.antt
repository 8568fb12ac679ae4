-- In right journals each item has one taker, until its delay is over.
use Rattle.std.proofs.Common.{◌≡◌, List, [], Option, Some, None, refl, sym, subst, ℕ}
use Rattle.std.proofs.lemmas.Option.{none-some}
use Rattle.entity_recs.specs.declared.effect.Entry.{Entry}
use Rattle.arena_map.specs.Maps.{MapView, IsMap}
use Rattle.packet_read.specs.declared.arrival.Arrival.{Arrival}
use Rattle.demo_lines.specs.Bytes.{map_of}
use Rattle.plain_server.specs.RecordsById.{opening}
use Rattle.plain_server.specs.Takers.{HasTakenIn}
use Rattle.plain_server.proofs.Frames.{opening_is}
use Rattle.plain_server.proofs.Takers.{one_in_each, stay_away}
use Rattle.out_text.specs.Journals.{dids}
use Rattle.out_text.specs.Collecting.{frames_of}
use Rattle.out_text.specs.Output.{AreRightIn, IsOutput, IsFront, IsPart}
use Rattle.out_text.specs.Laws.{OutputsHaveOneTaker}
use Rattle.out_text.specs.OneTaker.{HasOneTakerEach}
use Rattle.out_text.proofs.KeptRules.{map_keeps_rules}

-- nobody took anything where there is no journal
nothing_taken : (n place id : ℕ) → HasTakenIn [] n place id → ⊥
nothing_taken n place id has = none-some has.journal has.of_frame

none_each : (map : Option MapView) → HasOneTakerEach map []
none_each map = record {
  once = λ frame place other id item has also. absurd (nothing_taken frame place id has);
  away = λ frame place later other id delay delay_is has also from before. absurd (nothing_taken frame place id has);
}

one_each : (map : Option MapView) (frames : List (List Arrival)) (journals : List (List Entry)) → ((arena : MapView) → map ≡ Some arena → IsMap arena) → AreRightIn map frames journals → HasOneTakerEach map journals
one_each None frames journals rules right = subst (HasOneTakerEach None) (sym right.1) (none_each None)
one_each (Some map) frames journals rules right =
    let is_map = rules map refl in
    record {
      once = λ frame place other id. one_in_each map 0 (opening map) frames journals is_map (opening_is map is_map) right frame place other id;
      away = λ frame place later other id delay. stay_away map 0 (opening map) frames journals is_map (opening_is map is_map) right frame place later other id delay;
    }

-- in right journals of frames on the map of a recording
pub one_taker_each : (bytes : List ℕ) (frames : List (List Arrival)) (journals : List (List Entry)) → AreRightIn (map_of bytes) frames journals → HasOneTakerEach (map_of bytes) journals
one_taker_each bytes frames journals right = one_each (map_of bytes) frames journals (map_keeps_rules bytes) right

-- in the journals that are read off an output
pub taken_in_output : (workers : ℕ) (bytes text : List ℕ) → IsOutput workers bytes text → HasOneTakerEach (map_of bytes) (dids text)
taken_in_output workers bytes text is = one_taker_each bytes (frames_of bytes) (dids text) is.right

-- and off the text of some frames
pub taken_in_front : (workers : ℕ) (bytes text : List ℕ) (k : ℕ) → IsFront workers bytes k text → HasOneTakerEach (map_of bytes) (dids text)
taken_in_front workers bytes text k is = one_taker_each bytes _ (dids text) is.right

-- and of those of which a part was written
taken_in_part : (workers : ℕ) (bytes : List ℕ) (k : ℕ) (whole_with : List (List Entry) → List ℕ) (last : Option (List Entry)) (text : List ℕ) (is : IsPart workers bytes k whole_with last text) → HasOneTakerEach (map_of bytes) is.journals
taken_in_part workers bytes k whole_with last text is = one_taker_each bytes _ is.journals is.right

pub one_taker : OutputsHaveOneTaker
one_taker = record {
  right = one_taker_each;
  whole = taken_in_output;
  front = λ workers bytes k text. taken_in_front workers bytes text k;
  part = taken_in_part;
}
