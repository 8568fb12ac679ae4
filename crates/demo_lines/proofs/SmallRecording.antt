-- A small recording and its text.
use Rattle.std.proofs.Common.{◌≡◌, ◌<◌, false, [], ◌∷◌, pos, refl, arith}
use Rattle.std.specs.Fmt.{digits}
use Rattle.std.proofs.lemmas.Int.{ints}
use Rattle.std.proofs.lemmas.List.Elements.{All-cons, All-nil}
use Rattle.arena_geo.specs.declared.vec3.Vec3.{Vec3}
use Rattle.arena_geo.specs.Vectors.{IsNear}
use Rattle.arena_geo.specs.Bounds.{Bounds, bounds, IsBox}
use Rattle.hex.specs.Hex.{encode_with}
use Rattle.edge_io.specs.Lines.{AreBytes}
use Rattle.packet_read.specs.declared.arrival.Arrival.{Arrival}
use Rattle.arena_map.specs.Maps.{IsSpawn, IsBlock, IsThingInside, IsMap}
use Rattle.arena_geo.specs.Boxes.{is_blocked}
use Rattle.demo_lines.specs.Spelling.{IsArrival, IsRecording, small_map, small_lines, small_frames}
use Rattle.demo_lines.specs.InTurn.{IsBuilt}
use Rattle.demo_lines.specs.Laws.{SmallRecording}
use Rattle.demo_lines.proofs.Written.{packets_have_room}

-- ---- its map

small_lo : IsNear 1048576 small_map.bounds.lo
small_lo = record { x = omega arith; y = omega arith; z = omega arith }

small_hi : IsNear 1048576 small_map.bounds.hi
small_hi = record { x = omega arith; y = omega arith; z = omega arith }

small_is_box : IsBox small_map.bounds
small_is_box = record {
  ordered = record { x = omega (arith, ints); y = omega (arith, ints); z = omega (arith, ints) };
  in_range = record {
    lo = record { x = omega arith; y = omega arith; z = omega arith };
    hi = record { x = omega arith; y = omega arith; z = omega arith };
  };
}

abbrev pub small_spawn : Vec3
small_spawn = record { x = pos 0; y = pos 4096; z = pos 6144 }

pub small_spawn_is : IsSpawn small_map.bounds small_spawn
small_spawn_is = record { near = record { x = omega arith; y = omega arith; z = omega arith }; inside = refl }

abbrev pub small_block : Bounds
small_block = bounds (record { x = pos 1; y = pos 20; z = pos 300 }) (record { x = pos 4000; y = pos 30000; z = pos 32768 })

abbrev other_spawn : Vec3
other_spawn = record { x = pos 12288; y = pos 4096; z = pos 6144 }

other_spawn_is : IsSpawn small_map.bounds other_spawn
other_spawn_is = record { near = record { x = omega arith; y = omega arith; z = omega arith }; inside = refl }

pub small_block_is : IsBlock small_map.bounds small_block
small_block_is = record {
  is_box = record {
    ordered = record { x = omega (arith, ints); y = omega (arith, ints); z = omega (arith, ints) };
    in_range = record {
      lo = record { x = omega arith; y = omega arith; z = omega arith };
      hi = record { x = omega arith; y = omega arith; z = omega arith };
    };
  };
  thick = refl;
  inside = refl;
}

pub small_is_map : IsMap small_map
small_is_map = record {
  is_box = small_is_box;
  lo = small_lo;
  hi = small_hi;
  wide = refl;
  blocks = All-cons (IsBlock small_map.bounds) small_block [] small_block_is (All-nil (IsBlock small_map.bounds));
  few_blocks = omega arith;
  spawns = All-cons (IsSpawn small_map.bounds) small_spawn (other_spawn ∷ []) small_spawn_is
      (All-cons (IsSpawn small_map.bounds) other_spawn [] other_spawn_is (All-nil (IsSpawn small_map.bounds)));
  few_spawns = omega arith;
  things = All-nil (IsThingInside small_map.bounds);
  few_items = omega arith;
  few_teleporters = omega arith;
  few_goals = omega arith;
  few_lifts = omega arith;
  clear_shafts = All-nil (λ shaft. is_blocked shaft small_map.blocks ≡ false);
  shafts_apart = λ i j d below within. absurd (omega arith);
  depth = record { least = omega arith; most = omega arith };
  few_depth_lines = omega arith;
  default_depth = λ none. absurd (omega (arith, none));
  shots_line = refl;
  limit = record {
    range = record { least = omega arith; most = omega arith };
    few_lines = omega arith;
    default = λ none. absurd (omega (arith, none));
    first = refl;
  };
}

-- ---- its frames

two_bytes : AreBytes (1 ∷ 175 ∷ [])
two_bytes = All-cons (λ b. b < 256) 1 (175 ∷ []) (omega arith) (All-cons (λ b. b < 256) 175 [] (omega arith) (All-nil (λ b. b < 256)))

abbrev pub small_arrival : Arrival
small_arrival = record { port = 7; bytes = 1 ∷ 175 ∷ [] }

pub small_arrival_is : IsArrival small_arrival
small_arrival_is = record { port = omega arith; bytes = two_bytes; fits = packets_have_room.lowest small_arrival (omega arith) (omega arith) }

abbrev empty_arrival : Arrival
empty_arrival = record { port = 65535; bytes = [] }

empty_arrival_is : IsArrival empty_arrival
empty_arrival_is = record { port = omega arith; bytes = All-nil (λ b. b < 256); fits = packets_have_room.each empty_arrival (omega arith) (omega arith) }

small_is : IsRecording small_map small_frames
small_is = record {
  is_map = small_is_map;
  few = omega arith;
  each = (
    record { few = omega arith; each = (small_arrival_is, (empty_arrival_is, tt)) },
    (record { few = omega arith; each = tt }, tt),
  );
  spawn = λ h. refl;
}

-- its map's lines, the number of blocks first, then the block, and the depth last
block_near : IsNear 1048576 small_block.lo × IsNear 1048576 small_block.hi
block_near = (record { x = omega arith; y = omega arith; z = omega arith }, record { x = omega arith; y = omega arith; z = omega arith })

small_built : IsBuilt small_map.bounds small_lines small_frames
small_built = record {
  near = (small_lo, small_hi);
  wide = refl;
  accepted = (
    record { limits = record { least = omega arith; most = omega arith }; added = refl; rules = refl },
    (
      record { limits = block_near; added = refl; rules = refl },
      (
        record { limits = small_spawn_is.near; added = refl; rules = refl },
        (
          record { limits = tt; added = refl; rules = refl },
          (
            record { limits = other_spawn_is.near; added = refl; rules = refl },
            (record { limits = record { least = omega arith; most = omega arith }; added = refl; rules = refl }, tt),
          ),
        ),
      ),
    ),
  );
  few = small_is.few;
  each = small_is.each;
  spawn = λ h. refl;
}

pub small_recording : SmallRecording
unfolding digits encode_with
small_recording = record { is = small_is; text = refl; built = small_built; same = refl }
