-- The fields of a line, one after another.
use Rattle.std.proofs.Common.{◌≡◌, ℕ, suc, ◌<◌, false, List, length, drop, get_or, None, ap, ◌∙◌, sym, drop-cons}
use Rattle.edge_io.specs.Fields.{field_at}
use Rattle.arena_map.specs.declared.map_word.MapField.{MapField}
use Rattle.arena_map.specs.declared.map_word.MapField.TheVariants.{Number}
use Rattle.arena_map.specs.Reading.{is_field_first, has_fields}

-- where a field is wanted and there is none, the fields aren't on the line
pub none-left : (fields : List MapField) (place : ℕ) (rest : List ℕ) → place < length fields → None ≡ field_at rest → false ≡ has_fields (drop place fields) rest
none-left fields place rest within none =
    let first = drop-cons fields place Number within in
    ap (λ o. is_field_first (get_or fields place Number) o (has_fields (drop (suc place) fields))) none
    ∙ ap (λ left. has_fields left rest) (sym first)
