-- A packet's bytes as a line spells them.
use Rattle.std.specs.Prelude.{ℕ, ◌==◌, List, [], length, Option, Some, None, codes, bytes_eq, if◌then◌else◌}
use Rattle.std.specs.Result.{result_ok}
use Rattle.hex.specs.Hex.{decode_of}

-- two hexadecimal digits a byte, at least one byte, or a dash for none
abbrev pub packet_bytes : List ℕ → Option (List ℕ)
packet_bytes text =
    if bytes_eq text (codes "-") then Some []
    else if length text == 0 then None
    else result_ok (decode_of text)
