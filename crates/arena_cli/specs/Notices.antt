-- What the program prints on standard error.
use Rattle.std.specs.Prelude.{ℕ, ◌==◌, List, ◌++◌, codes, decimal, if◌then◌else◌, Option, Some, None}
use Rattle.arena_engine.specs.declared.report.Report.{Report}
use Rattle.arena_cli.specs.declared.notice.Notice.{Notice}
use Rattle.arena_cli.specs.declared.notice.Notice.TheVariants.{RecordingRefused, WordsRefused, ReadFault, WriteFault, NoMemory}
use Rattle.arena_cli.specs.declared.notice.Notice.TheVariants.{TranscriptRefused, NoWay}

-- the line of a notice
abbrev pub line_of : Notice → List ℕ
line_of (RecordingRefused line fault) =
    codes "recording refused: line " ++ decimal line ++ codes ", fault " ++ decimal fault
line_of WordsRefused = codes "words refused"
line_of ReadFault = codes "read fault"
line_of WriteFault = codes "write fault"
line_of NoMemory = codes "out of memory"
line_of (TranscriptRefused line) = codes "transcript refused: line " ++ decimal line
line_of (NoWay fault) = codes "no way: fault " ++ decimal fault

-- the notice for a report: which line was refused and why, what failed, which line of a transcript is wrong, or why there
-- is no way; none where all was done
abbrev pub notice_for : Report → Option Notice
notice_for report =
    if report.status == 1 then Some (RecordingRefused report.line report.fault)
    else if report.status == 2 then Some WordsRefused
    else if report.status == 3 then Some ReadFault
    else if report.status == 4 then Some WriteFault
    else if report.status == 5 then Some NoMemory
    else if report.status == 6 then Some (TranscriptRefused report.line)
    else if report.status == 7 then Some (NoWay report.fault)
    else None
