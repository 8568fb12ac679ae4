-- The example `one-join` is a recording without a fault, of one frame.
use Rattle.std.proofs.Common.{◌≡◌, ◌<◌, ℕ, false, List, [], ◌∷◌, length, codes, pos, negsuc, refl, sym, ap, subst, arith}
use Rattle.std.specs.Fmt.{digits}
use Rattle.std.specs.Prelude.{None}
use Rattle.std.proofs.lemmas.Int.{ints}
use Rattle.std.proofs.lemmas.List.Elements.{All-cons, All-nil}
use Rattle.arena_geo.specs.declared.vec3.Vec3.{Vec3}
use Rattle.arena_geo.specs.Bounds.{bounds}
use Rattle.arena_geo.specs.Boxes.{is_blocked}
use Rattle.hex.specs.Hex.{encode_with}
use Rattle.packet_read.specs.declared.arrival.Arrival.{Arrival}
use Rattle.arena_map.specs.Maps.{MapView, plain_map, IsSpawn, IsBlock, IsThingInside, IsMap}
use Rattle.demo_lines.specs.Bytes.{fault}
use Rattle.demo_lines.specs.Spelling.{IsArrival, IsRecording, recording_text}
use Rattle.demo_lines.specs.Laws.{IsTextOf, PacketsHaveRoom, RecordingsReadBack}
use Rattle.out_text.specs.Collecting.{frames_of_events, frames_of}
use Rattle.out_text.specs.Laws.{OutputsAreBounded}
use Rattle.arena_engine.specs.Output.{HasRoom}

-- its bytes
abbrev pub one_join_text : List ℕ
one_join_text = codes "arena -131072 -131072 0 131072 131072 65536\nspawn 0 0 6144\nframe\nfrom 7 0101\nend\n"

-- ---- its map

abbrev spawn : Vec3
spawn = record { x = pos 0; y = pos 0; z = pos 6144 }

abbrev map : MapView
map = plain_map
    (bounds
    (record { x = negsuc 131071; y = negsuc 131071; z = pos 0 })
    (record { x = pos 131072; y = pos 131072; z = pos 65536 }))
    []
    (spawn ∷ [])
    []

spawn_is : IsSpawn map.bounds spawn
spawn_is = record { near = record { x = omega arith; y = omega arith; z = omega arith }; inside = refl }

map_is : IsMap map
map_is = record {
  is_box = record {
    ordered = record { x = omega (arith, ints); y = omega (arith, ints); z = omega (arith, ints) };
    in_range = record {
      lo = record { x = omega arith; y = omega arith; z = omega arith };
      hi = record { x = omega arith; y = omega arith; z = omega arith };
    };
  };
  lo = record { x = omega arith; y = omega arith; z = omega arith };
  hi = record { x = omega arith; y = omega arith; z = omega arith };
  wide = refl;
  blocks = All-nil (IsBlock map.bounds);
  few_blocks = omega arith;
  spawns = All-cons (IsSpawn map.bounds) spawn [] spawn_is (All-nil (IsSpawn map.bounds));
  few_spawns = omega arith;
  things = All-nil (IsThingInside map.bounds);
  few_items = omega arith;
  few_teleporters = omega arith;
  few_goals = omega arith;
  few_lifts = omega arith;
  clear_shafts = All-nil (λ shaft. is_blocked shaft map.blocks ≡ false);
  shafts_apart = λ i j d below within. absurd (omega arith);
  depth = record { least = omega arith; most = omega arith };
  few_depth_lines = omega arith;
  default_depth = λ none. refl;
  shots_line = refl;
  limit = record {
    range = record { least = omega arith; most = omega arith };
    few_lines = omega arith;
    default = λ none. refl;
    first = refl;
  };
}

-- ---- its frame

abbrev join : Arrival
join = record { port = 7; bytes = 1 ∷ 1 ∷ [] }

abbrev frames : List (List Arrival)
frames = (join ∷ []) ∷ []

spelled : recording_text map frames ≡ one_join_text
unfolding digits encode_with
spelled = refl

module _ (room : PacketsHaveRoom) (back : RecordingsReadBack) where
  join_is : IsArrival join
  join_is = record {
    port = omega arith;
    bytes = All-cons (λ b. b < 256) 1 (1 ∷ []) (omega arith) (All-cons (λ b. b < 256) 1 [] (omega arith) (All-nil (λ b. b < 256)));
    fits = room.lowest join (omega arith) (omega arith);
  }

  recording_is : IsRecording map frames
  recording_is = record {
    is_map = map_is;
    few = omega arith;
    each = (record { few = omega arith; each = (join_is, tt) }, tt);
    spawn = λ h. refl;
  }

  text_is : IsTextOf map frames one_join_text
  text_is = subst (IsTextOf map frames) spelled (back.in_order map frames recording_is)

  frames_are : frames_of one_join_text ≡ frames
  frames_are = ap (λ es. (frames_of_events es).closed) text_is.events

  fits : OutputsAreBounded → HasRoom 1 one_join_text 1120016
  fits bounded journals right order = omega (arith, bounded.whole one_join_text journals right, ap length frames_are)

  pub one_join_whole : (text : List ℕ) → text ≡ one_join_text → fault text ≡ None
  one_join_whole text is = subst (λ (t : List ℕ). fault t ≡ None) (sym is) text_is.fault

  -- every output of one frame has so many bytes at the most
  pub one_join_fits : OutputsAreBounded → (text : List ℕ) → text ≡ one_join_text → HasRoom 1 text 1120016
  one_join_fits bounded text is = subst (λ (t : List ℕ). HasRoom 1 t 1120016) (sym is) (fits bounded)
