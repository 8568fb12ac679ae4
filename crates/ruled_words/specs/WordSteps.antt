-- What a step does to its word, and what it asks.
use Rattle.std.specs.Prelude.{◌≡◌, ℕ, ◌+◌, ◌<◌, ◌==◌, if◌then◌else◌}
use Rattle.core_steps.specs.Cells.{with_bit, without_bit}
use Rattle.core_steps.specs.Nodes.{Fixed}
use Rattle.core_steps.specs.Reads.{View}
use Rattle.core_steps.specs.Machine.{Next}
use Rattle.core_seats.specs.Going.{view_found}
use Rattle.ruled_words.specs.declared.word_step.WordStep.{WordStep}
use Rattle.ruled_words.specs.declared.word_step.WordStep.TheVariants.{Load, Store, Take, Count, Clear, Set}

-- the word that a step leaves where it found this one
abbrev pub word_by : WordStep → ℕ → ℕ
word_by Load found = found
word_by (Store word) found = word
word_by (Take word) found = if found == 0 then word else found
word_by Count found = found + 1
word_by (Clear slot) found = without_bit found slot
word_by (Set slot) found = with_bit found slot

-- what comes next of a seat may be this step on the word with this index: what is found by a store doesn't matter, the
-- count of commits alone is counted, and there are 64 slots
abbrev pub MayBe : WordStep → Fixed → View → Next → ℕ → Type 0
MayBe Load F view next index = Unit {0}
MayBe (Store word) F view next index = (found : ℕ) → view_found F view next found ≡ view_found F view next word
MayBe (Take word) F view next index = Unit {0}
MayBe Count F view next index = index ≡ 0
MayBe (Clear slot) F view next index = slot < 64
MayBe (Set slot) F view next index = slot < 64
