-- What holds of the sizes of this crate, and of the numbers on a line.
use Rattle.std.specs.Prelude.{◌≡◌, ◌↔◌, ℕ, ◌≤◌, ◌<◌, ◌^◌, true, List, Some, ℤ, unsigned_abs, decimal}
use Rattle.std.specs.Fmt.{signed_decimal}
use Rattle.edge_io.specs.declared.line_buf.TheConstants.{ROOM}
use Rattle.edge_io.specs.declared.line_reader.TheConstants.{LONGEST}
use Rattle.edge_io.specs.Numbers.{natural_up_to, integer_up_to, is_integer}

-- how many bytes a line buffer has room for, and how many the longest line of input has
pub record LimitsAreKnown : Type 0 where
  pub room : ROOM ≡ 16500
  pub longest : LONGEST ≡ 512

-- a field is a number exactly where it is that number in decimal, and the number is within the limit
abbrev pub NaturalIsDecimal : Type 0
NaturalIsDecimal =
    (limit n : ℕ) (field : List ℕ) → limit < 2 ^ 64
    → (natural_up_to limit field ≡ Some n) ↔ ((field ≡ decimal n) × (n ≤ limit))

-- the same for a number that may be below 0, with a minus in front
abbrev pub IntegerIsDecimal : Type 0
IntegerIsDecimal =
    (limit : ℕ) (z : ℤ) (field : List ℕ) → limit < 2 ^ 64
    → (integer_up_to limit field ≡ Some z) ↔ ((field ≡ signed_decimal z) × (unsigned_abs z ≤ limit))

-- within some limit the field is read as some number
pub record IsReadWithin (field : List ℕ) : Type 0 where
  pub limit : ℕ
  pub number : ℤ
  pub read : integer_up_to limit field ≡ Some number

-- a field has the form of a number exactly where it is read as one within some limit
abbrev pub IntegersHaveForm : Type 0
IntegersHaveForm = (field : List ℕ) → (is_integer field ≡ true) ↔ IsReadWithin field
