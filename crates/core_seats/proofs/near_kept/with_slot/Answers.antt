use Rattle.core_seats.proofs.SlotBits.{bit_set}
use Rattle.core_seats.proofs.near_kept.with_slot.Goals as goal

pub returns : goal.returns
returns c other within = bit_set c.args.word c.args.slot other c.requires
