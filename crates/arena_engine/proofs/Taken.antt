-- In what was written each item has one taker, until its delay is over.
use Rattle.std.proofs.Common.{◌≡◌, ℕ, List, Option, Some, None, IfSome}
use Rattle.demo_lines.specs.declared.line_refusal.LineRefusal.{LineRefusal}
use Rattle.demo_lines.specs.Bytes.{fault, map_of}
use Rattle.out_text.specs.Journals.{dids}
use Rattle.out_text.specs.OneTaker.{HasOneTakerEach}
use Rattle.out_text.specs.Feeds.{froms}
use Rattle.out_text.proofs.OneTaker.{taken_in_output, taken_in_front, one_taker_each}
use Rattle.arena_engine.specs.Feedings.{Last}
use Rattle.arena_engine.specs.Output.{Writes}
use Rattle.arena_engine.specs.Texts.{Texts, play_texts, feed_texts}

-- what was written of a recording, by what holds of it
on_each : (P Q : List ℕ → List ℕ → Type 0) (a t0 t1 : Option (List ℕ)) → ((bytes text : List ℕ) → P bytes text → Q bytes text) → IfSome a (λ bytes. Writes t0 t1 (P bytes)) → IfSome a (λ bytes. Writes t0 t1 (Q bytes))
on_each P Q None t0 t1 f written = tt
on_each P Q (Some bytes) t0 t1 f written = record { text = written.text; written = written.written; holds = f bytes written.text written.holds }

abbrev pub IsTakenOnce : List ℕ → List ℕ → Type 0
IsTakenOnce bytes text = HasOneTakerEach (map_of bytes) (dids text)

-- what reports rest on
pub record AreSound (texts : Texts) : Type 0 where
  -- only a recording without a fault has a whole output
  pub accepted : (bytes : List ℕ) (last : Last) (text : List ℕ) → texts.whole bytes last text → fault bytes ≡ None
  -- and only one with this fault is refused for it
  pub faulty : (bytes : List ℕ) (why : LineRefusal) (last : Last) (text : List ℕ) → texts.refused bytes why last text → fault bytes ≡ Some why
  -- each item has one taker in each text
  pub whole_once : (bytes : List ℕ) (last : Last) (text : List ℕ) → texts.whole bytes last text → IsTakenOnce bytes text
  pub refused_once : (bytes : List ℕ) (why : LineRefusal) (last : Last) (text : List ℕ) → texts.refused bytes why last text → IsTakenOnce bytes text
  pub some_once : (bytes : List ℕ) (last : Last) (text : List ℕ) → texts.some_frames bytes last text → IsTakenOnce bytes text

pub play_texts_are_sound : (workers : ℕ) → AreSound (play_texts workers)
play_texts_are_sound workers = record {
  accepted = λ bytes last text is. is.holds.accepted;
  faulty = λ bytes why last text is. is.holds.faulty;
  whole_once = λ bytes last text is. taken_in_output workers bytes text is.holds;
  refused_once = λ bytes why last text is. taken_in_front workers bytes text _ is.holds.frames;
  some_once = λ bytes last text is. taken_in_front workers bytes text is.holds.k is.holds.front;
}

pub feed_texts_are_sound : (workers : ℕ) → AreSound (feed_texts workers)
feed_texts_are_sound workers = record {
  accepted = λ bytes last text is. is.holds.accepted;
  faulty = λ bytes why last text is. is.holds.faulty;
  whole_once = λ bytes last text is. one_taker_each bytes (froms text) (dids text) is.holds.right;
  refused_once = λ bytes why last text is. one_taker_each bytes (froms text) (dids text) is.holds.frames.right;
  some_once = λ bytes last text is. one_taker_each bytes (froms text) (dids text) is.holds.front.right;
}

module _ (texts : Texts) (sound : AreSound texts) (a t0 t1 : Option (List ℕ)) (last : Last) where
  pub taken_in_all : IfSome a (λ bytes. Writes t0 t1 (texts.whole bytes last)) → IfSome a (λ bytes. Writes t0 t1 (IsTakenOnce bytes))
  taken_in_all = on_each (λ bytes. texts.whole bytes last) IsTakenOnce a t0 t1 (λ bytes text is. sound.whole_once bytes last text is)

  pub taken_in_some : IfSome a (λ bytes. Writes t0 t1 (texts.some_frames bytes last)) → IfSome a (λ bytes. Writes t0 t1 (IsTakenOnce bytes))
  taken_in_some = on_each (λ bytes. texts.some_frames bytes last) IsTakenOnce a t0 t1 (λ bytes text is. sound.some_once bytes last text is)

  pub taken_before_refusal : (why : LineRefusal) → IfSome a (λ bytes. Writes t0 t1 (texts.refused bytes why last)) → IfSome a (λ bytes. Writes t0 t1 (IsTakenOnce bytes))
  taken_before_refusal why = on_each (λ bytes. texts.refused bytes why last) IsTakenOnce a t0 t1 (λ bytes text is. sound.refused_once bytes why last text is)
