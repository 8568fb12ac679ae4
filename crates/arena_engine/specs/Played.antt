-- What a recording that was played has read and written.
use Rattle.std.specs.Prelude.{◌≡◌, ◌≤◌, ℕ, true, [], IfSome, IsSomeAnd, IsSome, None}
use Rattle.edge_io.specs.declared.source.Source as sources
use Rattle.edge_io.specs.declared.sink.Sink as sinks
use Rattle.demo_lines.specs.Bytes.{fault, map_of}
use Rattle.out_text.specs.Journals.{dids}
use Rattle.out_text.specs.OneTaker.{HasOneTakerEach}
use Rattle.arena_engine.specs.declared.report.Report.{Report}
use Rattle.arena_engine.specs.Endings.{IsOrMemory}
use Rattle.arena_engine.specs.Output.{Writes, ReadsSome, ReadsToEnd, ReadsToRefusal}
use Rattle.arena_engine.specs.Reports.{refusal_of, last_in}
use Rattle.arena_engine.specs.Serving.{NothingFailed}
use Rattle.arena_engine.specs.Texts.{Texts, play_texts, feed_texts}

-- a recording from this source was played, and what is right for it among these texts was written to this sink
pub record IsPlayedWith {S K : Type 0} (s : sources.Ghosts S) (k : sinks.Ghosts K) (texts : Texts) (source source' : S)
    (sink sink' : K) (r : Report) : Type 0 where
  -- its status isn't one of those that only `check`, `audit` and `bots` give
  pub known : r.status ≤ 5
  -- the output of the recording was written, and the report has the last frame of it
  pub done : r.status ≡ 0 → IfSome (s.left source) (λ bytes.
      Writes (k.taken sink) (k.taken sink') (texts.whole bytes (last_in r)))
  -- it was read to its line `end`, and no more than the last read had to give
  pub read : r.status ≡ 0 → ReadsToEnd source source' (s.last source') (s.ended source' ≡ s.ended source)
      (s.ended source' ≡ true) (s.left source) (s.left source')
  -- the frames before the first faulty line were written, and the report has that line and its fault
  pub refused : r.status ≡ 1 → IfSome (s.left source) (λ bytes.
      Writes (k.taken sink) (k.taken sink') (texts.refused bytes (refusal_of r) (last_in r)))
  -- it was read to the faulty line, and no more than the last read had to give
  pub refused_read : r.status ≡ 1 → ReadsToRefusal source source' (s.last source')
      (s.ended source' ≡ s.ended source) (s.ended source' ≡ true) (s.left source) (s.left source')
  -- the frames that the lines before the failed read close were written
  pub read_fault : r.status ≡ 3 → ReadsSome (λ bytes. texts.all_frames bytes (last_in r)) (s.left source) (s.left source')
      (k.taken sink) (k.taken sink')
  -- a proper part of the first frames was written, and all of them but the last are whole
  pub write_fault : r.status ≡ 4 → IfSome (s.left source) (λ bytes.
      Writes (k.taken sink) (k.taken sink') (texts.cut bytes (last_in r)))
  -- some of the first frames were written
  pub memory : r.status ≡ 5 → IfSome (s.left source) (λ bytes.
      Writes (k.taken sink) (k.taken sink') (texts.some_frames bytes (last_in r)))
  -- no item was taken twice in a frame, nor again before it was due
  pub taken_once : (r.status ≡ 4 → ⊥) → IfSome (s.left source) (λ bytes.
      Writes (k.taken sink) (k.taken sink') (λ text. HasOneTakerEach (map_of bytes) (dids text)))
  -- journals of all frames are kept for `match` alone
  pub no_journals : r.all ≡ []
  -- no write fails where there is room for every right output
  pub sure_writes : IsSomeAnd (s.left source) (λ bytes. texts.has_room bytes (k.room sink)) → r.status ≡ 4 → ⊥
  -- where nothing failed, a recording without a fault was played to its end, unless memory was refused
  pub complete : IsSomeAnd (s.left source) (λ bytes. fault bytes ≡ None)
      → NothingFailed (s.faults source) (s.faults source') (k.faults sink) (k.faults sink') → IsOrMemory r.status 0
  -- where nothing failed, one with a fault was refused, unless memory was
  pub complete_refusal : IsSomeAnd (s.left source) (λ bytes. IsSome (fault bytes))
      → NothingFailed (s.faults source) (s.faults source') (k.faults sink) (k.faults sink') → IsOrMemory r.status 1
  -- so it is over a source that never fails and a sink with room
  pub surely_complete : s.never_fails source
      → IsSomeAnd (s.left source) (λ bytes. (fault bytes ≡ None) × texts.has_room bytes (k.room sink))
      → IsOrMemory r.status 0
  -- and so it is for one with a fault
  pub surely_refused : s.never_fails source
      → IsSomeAnd (s.left source) (λ bytes. IsSome (fault bytes) × texts.has_room bytes (k.room sink))
      → IsOrMemory r.status 1

-- a recording from this source was played on these workers, and its output was written to this sink
abbrev pub IsPlayed : {S K : Type 0} → sources.Ghosts S → sinks.Ghosts K → ℕ → S → S → K → K → Report → Type 0
IsPlayed s k workers source source' sink sink' r = IsPlayedWith s k (play_texts workers) source source' sink sink' r

-- it was played so in an order of arrival from client threads
abbrev pub IsFed : {S K : Type 0} → sources.Ghosts S → sinks.Ghosts K → ℕ → S → S → K → K → Report → Type 0
IsFed s k workers source source' sink sink' r = IsPlayedWith s k (feed_texts workers) source source' sink sink' r
