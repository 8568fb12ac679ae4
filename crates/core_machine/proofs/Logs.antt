-- Items of commands and entries.
use Rattle.std.proofs.Common.{◌≡◌, List, [], ◌∷◌, ◌++◌, length, map, refl, ap, arith}
use Rattle.entity_recs.specs.declared.cmd.Cmd.{Cmd}
use Rattle.entity_recs.specs.declared.effect.Entry.{Entry}
use Rattle.entity_recs.specs.Commands.{Command, command_of}
use Rattle.entity_recs.specs.Histories.{Item, commands_of}
use Rattle.core_seats.specs.Logs.{entries_of}
use Rattle.core_machine.specs.SeatLogs.{items_of}

pub items_of-length : (commands : List Cmd) (entries : List Entry) → length commands ≡ length entries
    → length (items_of commands entries) ≡ length entries
items_of-length [] [] same = refl
items_of-length [] (e ∷ entries) same = omega arith
items_of-length (c ∷ commands) [] same = omega arith
items_of-length (c ∷ commands) (e ∷ entries) same = omega (arith, items_of-length commands entries (omega arith))

pub commands_of-items : (commands : List Cmd) (entries : List Entry) → length commands ≡ length entries
    → map command_of commands ≡ commands_of (items_of commands entries)
commands_of-items [] [] same = refl
commands_of-items [] (e ∷ entries) same = absurd (omega arith)
commands_of-items (c ∷ commands) [] same = absurd (omega arith)
commands_of-items (c ∷ commands) (e ∷ entries) same =
    ap (λ (cs : List Command). command_of c ∷ cs) (commands_of-items commands entries (omega arith))

pub entries_of-items : (commands : List Cmd) (entries : List Entry) → length commands ≡ length entries
    → entries_of (items_of commands entries) ≡ entries
entries_of-items [] [] same = refl
entries_of-items [] (e ∷ entries) same = absurd (omega arith)
entries_of-items (c ∷ commands) [] same = absurd (omega arith)
entries_of-items (c ∷ commands) (e ∷ entries) same = ap (λ (es : List Entry). e ∷ es) (entries_of-items commands entries (omega arith))

pub items_of-append : (commands : List Cmd) (entries : List Entry) (c : Cmd) (e : Entry) → length commands ≡ length entries
    → items_of (commands ++ c ∷ []) (entries ++ e ∷ []) ≡ items_of commands entries ++ record { command = command_of c; entry = e } ∷ []
items_of-append [] [] c e same = refl
items_of-append [] (f ∷ entries) c e same = absurd (omega arith)
items_of-append (d ∷ commands) [] c e same = absurd (omega arith)
items_of-append (d ∷ commands) (f ∷ entries) c e same =
    ap (λ (items : List Item). record { command = command_of d; entry = f } ∷ items) (items_of-append commands entries c e (omega arith))
