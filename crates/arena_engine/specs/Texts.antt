-- Which texts a command writes of a recording that it plays, by how that ends.
use Rattle.std.specs.Prelude.{ℕ, List}
use Rattle.demo_lines.specs.declared.line_refusal.LineRefusal.{LineRefusal}
use Rattle.out_text.specs.Output.{HasLast, IsOutput, IsRefused, IsAllFrames, IsSomeFrames, IsCut}
use Rattle.out_text.specs.Feeds.{HasLastFed, IsFedOutput, IsFedRefused, IsFedFrames, IsFedSome, IsFedCut}
use Rattle.arena_engine.specs.Output.{HasRoom, HasFedRoom}
use Rattle.arena_engine.specs.declared.feeding.Feeding.{Feeding}
use Rattle.arena_engine.specs.declared.feeding.Feeding.TheVariants.{Recorded, Threaded}
use Rattle.arena_engine.specs.Feedings.{Last}

-- what is right to write of a recording, with this last frame
pub record Texts : Type 1 where
  -- the whole output of a recording without a fault
  pub whole : (bytes : List ℕ) → Last → (text : List ℕ) → Type 0
  -- all frames that are closed before a line that is refused
  pub refused : (bytes : List ℕ) → LineRefusal → Last → (text : List ℕ) → Type 0
  -- all frames that are closed
  pub all_frames : (bytes : List ℕ) → Last → (text : List ℕ) → Type 0
  -- some of the first frames
  pub some_frames : (bytes : List ℕ) → Last → (text : List ℕ) → Type 0
  -- a proper part of the first frames, all of which but the last are whole
  pub cut : (bytes : List ℕ) → Last → (text : List ℕ) → Type 0
  -- so many bytes are room for the whole output, whichever it is
  pub has_room : (bytes : List ℕ) → (room : ℕ) → Type 0

-- those of `play`, which look at the journal of the last frame alone
abbrev pub play_texts : ℕ → Texts
play_texts workers = record {
  whole = λ bytes last. HasLast (IsOutput workers bytes) last.journal;
  refused = λ bytes why last. HasLast (IsRefused workers bytes why) last.journal;
  all_frames = λ bytes last. HasLast (IsAllFrames workers bytes) last.journal;
  some_frames = λ bytes last. HasLast (IsSomeFrames workers bytes) last.journal;
  cut = λ bytes last. IsCut workers bytes last.journal;
  has_room = λ bytes. HasRoom workers bytes;
}

-- those of `feed`
abbrev pub feed_texts : ℕ → Texts
feed_texts workers = record {
  whole = λ bytes last. HasLastFed (IsFedOutput workers bytes) bytes last.order last.journal;
  refused = λ bytes why last. HasLastFed (IsFedRefused workers bytes why) bytes last.order last.journal;
  all_frames = λ bytes last. HasLastFed (IsFedFrames workers bytes) bytes last.order last.journal;
  some_frames = λ bytes last. HasLastFed (IsFedSome workers bytes) bytes last.order last.journal;
  cut = λ bytes last. IsFedCut workers bytes last.order last.journal;
  has_room = λ bytes. HasFedRoom workers bytes;
}

-- those of what is fed so
abbrev pub texts_of : Feeding → ℕ → Texts
texts_of Recorded workers = play_texts workers
texts_of Threaded workers = feed_texts workers
