-- What is done for each command.
use Rattle.std.specs.Prelude.{◌≡◌, None, ⊤}
use Rattle.edge_io.specs.declared.source.Source as sources
use Rattle.edge_io.specs.declared.sink.Sink as sinks
use Rattle.arena_engine.specs.declared.command.Command.{Command}
use Rattle.arena_engine.specs.declared.command.Command.TheVariants.{Play, Feed, Make, Resend, Walk, Match, Bots, Check, Audit, Help, Version}
use Rattle.arena_engine.specs.declared.commands.explain.TheConstants.{HELP, VERSION}
use Rattle.arena_engine.specs.declared.report.Report.{Report}
use Rattle.arena_engine.specs.Making.{IsMade, IsResent, IsMatched}
use Rattle.arena_engine.specs.Played.{IsPlayed, IsFed}
use Rattle.arena_engine.specs.Planned.{IsPlanned}
use Rattle.arena_engine.specs.Checked.{IsChecked, IsAudited}
use Rattle.arena_engine.specs.Explained.{IsExplained}
use Rattle.arena_engine.specs.Walked.{IsWalked}

-- P, and nothing was read
pub record Unread {S : Type 0} (source source' : S) (P : Type 0) : Type 0 where
  pub reads_nothing : source' ≡ source
  pub is : P

-- this command was served
abbrev pub IsServed : {S K : Type 0} → sources.Ghosts S → sinks.Ghosts K → S → S → K → K → Report → Command → Type 0
IsServed s k source source' sink sink' r (Play workers) = IsPlayed s k workers source source' sink sink' r
IsServed s k source source' sink sink' r (Feed workers) = IsFed s k workers source source' sink sink' r
IsServed s k source source' sink sink' r (Make seed players frames) = Unread source source' (IsMade k seed players frames sink sink' r)
IsServed s k source source' sink sink' r (Resend seed players frames) =
    Unread source source' (IsResent k seed players frames sink sink' r)
IsServed s k source source' sink sink' r (Walk seed players frames) =
    IsWalked s k seed players frames source source' sink sink' r
IsServed s k source source' sink sink' r (Match seed players frames workers) =
    Unread source source' (IsMatched k seed players frames workers sink sink' r)
IsServed s k source source' sink sink' r (Bots target) = IsPlanned s k target source source' sink sink' r
IsServed s k source source' sink sink' r Check = IsChecked s k source source' sink sink' r
IsServed s k source source' sink sink' r Audit = IsAudited s k source source' sink sink' r
IsServed s k source source' sink sink' r Help = Unread source source' (IsExplained k HELP.now sink sink' r)
IsServed s k source source' sink sink' r Version = Unread source source' (IsExplained k VERSION.now sink sink' r)

-- the status of what explains the program isn't that of lack of memory
abbrev pub NeverLacksMemory : Report → Command → Type 0
NeverLacksMemory r Help = r.status ≡ 5 → ⊥
NeverLacksMemory r Version = r.status ≡ 5 → ⊥
NeverLacksMemory r _ = ⊤

-- no order of arrival is in the report of a command but `feed`
abbrev pub HasNoOrder : Report → Command → Type 0
HasNoOrder r (Play workers) = r.order ≡ None
HasNoOrder r (Feed workers) = ⊤
HasNoOrder r (Make seed players frames) = r.order ≡ None
HasNoOrder r (Resend seed players frames) = r.order ≡ None
HasNoOrder r (Walk seed players frames) = r.order ≡ None
HasNoOrder r (Match seed players frames workers) = r.order ≡ None
HasNoOrder r (Bots target) = r.order ≡ None
HasNoOrder r Check = r.order ≡ None
HasNoOrder r Audit = r.order ≡ None
HasNoOrder r Help = r.order ≡ None
HasNoOrder r Version = r.order ≡ None
