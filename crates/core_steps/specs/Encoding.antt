-- A player's record as five words.
use Rattle.std.specs.Prelude.{ℕ, ◌+◌, ◌*◌, ◌/◌, ◌%◌, ◌^◌, ℤ, List, [], ◌∷◌, slice_index_or}
use Rattle.std.specs.Int.{cast_unsigned, cast_signed, w32}
use Rattle.entity_recs.specs.declared.kind.Kind.TheVariants.{Player}
use Rattle.entity_recs.specs.declared.rec.Rec.{Rec}
use Rattle.entity_recs.specs.declared.bodies.TheConstants.{PLAYER_MINS, PLAYER_MAXS}

-- two halves of a word, the low one first
abbrev pub word_of_halves : ℕ → ℕ → ℕ
word_of_halves low high = low + high * 2 ^ 32

-- the low half of a word
abbrev pub low_half : ℕ → ℕ
low_half word = word % 2 ^ 32

-- the high half of a word
abbrev pub high_half : ℕ → ℕ
high_half word = word / 2 ^ 32

-- a signed number as its 32 bits
abbrev pub bits_of : ℤ → ℕ
bits_of z = cast_unsigned w32 z

-- the signed number of 32 bits
abbrev pub signed_of : ℕ → ℤ
signed_of bits = cast_signed w32 bits

-- a player's five words: x and y; z and vx; vy and vz; score and seq; flags, ammo and carry in a byte each
abbrev pub words_of : Rec → List ℕ
words_of r =
    word_of_halves (bits_of r.origin.x) (bits_of r.origin.y)
    ∷ word_of_halves (bits_of r.origin.z) (bits_of r.vel.x)
    ∷ word_of_halves (bits_of r.vel.y) (bits_of r.vel.z)
    ∷ word_of_halves r.score r.seq
    ∷ (r.flags + r.ammo * 2 ^ 8 + r.carry * 2 ^ 16)
    ∷ []

-- one of a list of words
abbrev pub nth_word : List ℕ → ℕ → ℕ
nth_word words k = slice_index_or words k 0

-- the record of a player with this id, these five words and this state
abbrev pub record_from : ℕ → List ℕ → ℕ → Rec
record_from id words state = record {
  id = id;
  kind = Player;
  origin = record {
    x = signed_of (low_half (nth_word words 0));
    y = signed_of (high_half (nth_word words 0));
    z = signed_of (low_half (nth_word words 1));
  };
  mins = PLAYER_MINS;
  maxs = PLAYER_MAXS;
  vel = record {
    x = signed_of (high_half (nth_word words 1));
    y = signed_of (low_half (nth_word words 2));
    z = signed_of (high_half (nth_word words 2));
  };
  flags = nth_word words 4 % 2 ^ 8;
  ammo = nth_word words 4 / 2 ^ 8 % 2 ^ 8;
  carry = nth_word words 4 / 2 ^ 16 % 2 ^ 8;
  score = low_half (nth_word words 3);
  seq = high_half (nth_word words 3);
  state = state;
}
