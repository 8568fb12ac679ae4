-- Where nothing was written nobody took anything, and no frame is there.
use Rattle.std.proofs.Common.{rules, ◌≡◌, ℕ, List, [], Option, Some, None, IfSome, ap, sym, subst}
use Rattle.std.specs.Io.KnownBytes.{Appends}
use Rattle.std.proofs.KnownBytes.{Appends-nil}
use Rattle.demo_lines.specs.Bytes.{map_of}
use Rattle.out_text.specs.Journals.{dids}
use Rattle.out_text.specs.OneTaker.{HasOneTakerEach}
use Rattle.out_text.proofs.Fronts.{no_front}
use Rattle.out_text.proofs.OneTaker.{taken_in_front}
use Rattle.arena_engine.specs.declared.report.Report.{Report}
use Rattle.arena_engine.specs.Output.{Writes}
use Rattle.arena_engine.specs.Playbacks.{entries_if}
use Rattle.arena_engine.specs.Reports.{last_in}
use Rattle.edge_io.specs.declared.source.Source as sources
use Rattle.edge_io.specs.declared.sink.Sink as sinks
use Rattle.arena_engine.specs.declared.command.Command.{Command}
use Rattle.arena_engine.specs.declared.command.Command.TheVariants.{Play, Feed, Make, Resend, Walk, Match, Bots, Check, Audit, Help, Version}
use Rattle.arena_engine.specs.Making.{IsMade, IsResent, IsMatched}
use Rattle.arena_engine.specs.declared.feeding.Feeding.TheVariants.{Recorded, Threaded}
use Rattle.arena_engine.specs.Feedings.{no_last}
use Rattle.arena_engine.specs.Texts.{Texts, play_texts, feed_texts}
use Rattle.arena_engine.specs.Played.{IsPlayedWith}
use Rattle.arena_engine.specs.Planned.{IsPlanned}
use Rattle.arena_engine.specs.Walked.{IsWalked}
use Rattle.arena_engine.specs.Checked.{IsChecked, IsAudited}
use Rattle.arena_engine.specs.declared.commands.explain.TheConstants.{HELP, VERSION}
use Rattle.arena_engine.specs.Explained.{IsExplained}
use Rattle.arena_engine.specs.Served.{Unread, IsServed}
use Rattle.arena_engine.proofs.FedTexts.{HoldAtFirst, hold_at_first}
use Rattle.arena_engine.proofs.Exits.{memory_at_first}

pub taken_in_nothing : (a before after : Option (List ℕ)) → after ≡ before → IfSome a (λ bytes. Writes before after (λ text. HasOneTakerEach (map_of bytes) (dids text)))
taken_in_nothing None before after same = tt
taken_in_nothing (Some bytes) before after same = record {
  text = [];
  written = subst (λ (t : Option (List ℕ)). Appends before t []) (sym same) (Appends-nil before);
  holds = taken_in_front 1 bytes [] 0 (no_front 1 bytes);
}

-- where no frame was run, no text of frames was written
pub no_frames : (texts : Texts) → HoldAtFirst texts → (a before after : Option (List ℕ)) (r : Report) → after ≡ before → r.last ≡ None → r.order ≡ None
    → IfSome a (λ bytes. Writes before after (texts.some_frames bytes (last_in r)))
no_frames texts hold a before after r same none no_order =
    let last_is : last_in r ≡ no_last = λ i. record { order = no_order i; journal = entries_if (none i) } in
    subst (λ (t : Option (List ℕ)). IfSome a (λ bytes. Writes before t (texts.some_frames bytes (last_in r)))) (sym same) (memory_at_first texts hold before (last_in r) last_is a)

-- where memory for the arguments was refused, what was asked for is served as far as that
module _ {S K : Type 0} (s : sources.Ghosts S) (k : sinks.Ghosts K) (source source' : S) (sink sink' : K) (r : Report) (unread : source' ≡ source) (same : sink' ≡ sink)
    (five : r.status ≡ 5) (place : (r.line ≡ 0) × (r.fault ≡ 0) × (r.rule ≡ 0)) (last : r.last ≡ None) (order : r.order ≡ None) (all : r.all ≡ []) where
  not_played : (texts : Texts) → HoldAtFirst texts → IsPlayedWith s k texts source source' sink sink' r
  not_played texts hold =
      let memory : IfSome (s.left source) (λ bytes. Writes (k.taken sink) (k.taken sink') (texts.some_frames bytes (last_in r))) =
      no_frames texts hold _ _ _ r (ap k.taken same) last order in
      let once : IfSome (s.left source) (λ bytes. Writes (k.taken sink) (k.taken sink') (λ text. HasOneTakerEach (map_of bytes) (dids text))) =
      taken_in_nothing _ _ _ (ap k.taken same) in
      let is : IsPlayedWith s k texts source source' sink sink' r = search (rules, memory, once, five, all) in is

  pub not_served : (command : Command) → IsServed s k source source' sink sink' r command
  not_served (Play n) = not_played (play_texts n) (hold_at_first Recorded n)
  not_served (Feed n) = not_played (feed_texts n) (hold_at_first Threaded n)
  not_served (Make seed players frames) =
      let is : Unread source source' (IsMade k seed players frames sink sink' r) = search (rules, unread, same, five, place, last, all) in is
  not_served (Resend seed players frames) =
      let is : Unread source source' (IsResent k seed players frames sink sink' r) = search (rules, unread, same, five, place, last, all) in is
  not_served (Walk seed players frames) =
      let is : IsWalked s k seed players frames source source' sink sink' r = search (rules, same, five, last, all) in is
  not_served (Match seed players frames workers) =
      let is : Unread source source' (IsMatched k seed players frames workers sink sink' r) = search (rules, unread, same, five, place, last, all) in is
  not_served (Bots target) =
      let is : IsPlanned s k target source source' sink sink' r = search (rules, same, five, last, all) in is
  not_served Check =
      let is : IsChecked s k source source' sink sink' r = search (rules, same, five, last, all) in is
  not_served Audit =
      let is : IsAudited s k source source' sink sink' r = search (rules, same, five, last, all) in is
  not_served Help =
      let is : Unread source source' (IsExplained k HELP.now sink sink' r) = search (rules, unread, same, five, place, last, all) in is
  not_served Version =
      let is : Unread source source' (IsExplained k VERSION.now sink sink' r) = search (rules, unread, same, five, place, last, all) in is
