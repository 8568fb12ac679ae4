-- What a frame gives out.
use Rattle.std.specs.Prelude.{◌≡◌, []}
use Rattle.client_ports.specs.Lists.{no_lists}
use Rattle.frame_phases.specs.declared.frame_out.FrameOut.{FrameOut}

-- its lists are empty
pub record IsEmpty (out : FrameOut) : Type 0 where
  pub received : out.received.lists ≡ no_lists
  pub journal : out.journal.entries ≡ []
  pub slots : out.slots ≡ []
  pub replies : out.replies ≡ []
