-- Numbers as a line spells them: decimal digits without a leading zero, and those up to a limit.
use Rattle.std.specs.Prelude.{ℕ, zero, suc, ◌+◌, ◌-◌, ◌*◌, Bool, false, not, ◌&&◌, nat_le, ◌==◌, List, [], ◌∷◌, Option}
use Rattle.std.specs.Prelude.{Some, None, option_map, codes, bytes_eq, ℤ, pos, negsuc, if◌then◌else◌}
use Rattle.std.specs.List.{list_all}

-- the byte is a decimal digit
abbrev pub is_digit : ℕ → Bool
is_digit b = nat_le 48 b && nat_le b 57

-- the number of at most limit that n's digits and these give
abbrev pub digits_up_to : ℕ → ℕ → List ℕ → Option ℕ
digits_up_to limit n [] = Some n
digits_up_to limit n (d ∷ ds) =
    if is_digit d && nat_le (10 * n + (d - 48)) limit then digits_up_to limit (10 * n + (d - 48)) ds else None

-- digits of which the first is no 0, or 0 alone: a number of at most limit
abbrev pub natural_up_to : ℕ → List ℕ → Option ℕ
natural_up_to limit [] = None
natural_up_to limit (d ∷ []) = digits_up_to limit 0 (d ∷ [])
natural_up_to limit (d ∷ e ∷ ds) = if d == 48 then None else digits_up_to limit 0 (d ∷ e ∷ ds)

-- the number below 0 that is as far from it; 0 has no sign
abbrev pub negative_of : Option ℕ → Option ℤ
negative_of None = None
negative_of (Some zero) = None
negative_of (Some (suc n)) = Some (negsuc n)

-- a number of at most limit, or a minus and one that isn't 0
abbrev pub integer_up_to : ℕ → List ℕ → Option ℤ
integer_up_to limit [] = None
integer_up_to limit (b ∷ bs) =
    if b == 45 then negative_of (natural_up_to limit bs) else option_map pos (natural_up_to limit (b ∷ bs))

-- each byte is a decimal digit
abbrev pub are_digits : List ℕ → Bool
are_digits bytes = list_all is_digit bytes

-- the field is a number, however large: digits of which the first is no 0, or 0 alone
abbrev pub is_natural : List ℕ → Bool
is_natural [] = false
is_natural (d ∷ []) = are_digits (d ∷ [])
is_natural (d ∷ e ∷ ds) = not (d == 48) && are_digits (d ∷ e ∷ ds)

-- the same, or a minus and such a number that isn't 0
abbrev pub is_integer : List ℕ → Bool
is_integer [] = false
is_integer (b ∷ bs) = if b == 45 then is_natural bs && not (bytes_eq bs (codes "0")) else is_natural (b ∷ bs)
