-- Why a recording isn't played on.
use Rattle.std.specs.Prelude.{⊤}
use Rattle.demo_lines.specs.declared.line_refusal.LineRefusal.{LineRefusal}
use Rattle.arena_engine.specs.declared.stop.Stop.{Stop}
use Rattle.arena_engine.specs.declared.stop.Stop.TheVariants.{Refused, ReadFault, WriteFault, NoMemory}

-- P of the refusal, where a line of the recording was refused
abbrev pub OnRefused : Stop → (LineRefusal → Type 0) → Type 0
OnRefused (Refused why) P = P why
OnRefused _ _ = ⊤

-- P, where the source failed
abbrev pub OnReadFault : Stop → Type 0 → Type 0
OnReadFault ReadFault P = P
OnReadFault _ _ = ⊤

-- P, where the sink failed
abbrev pub OnWriteFault : Stop → Type 0 → Type 0
OnWriteFault WriteFault P = P
OnWriteFault _ _ = ⊤

-- P, where memory was refused
abbrev pub OnMemory : Stop → Type 0 → Type 0
OnMemory NoMemory P = P
OnMemory _ _ = ⊤

-- P, unless the source failed
abbrev pub ButOnReadFault : Stop → Type 0 → Type 0
ButOnReadFault ReadFault P = ⊤
ButOnReadFault _ P = P

-- P, unless the sink failed
abbrev pub ButOnWriteFault : Stop → Type 0 → Type 0
ButOnWriteFault WriteFault P = ⊤
ButOnWriteFault _ P = P

-- what a game stops for: a write fault or lack of memory
abbrev pub IsGameStop : Stop → Type 0
IsGameStop (Refused why) = ⊥
IsGameStop ReadFault = ⊥
IsGameStop WriteFault = ⊤
IsGameStop NoMemory = ⊤
