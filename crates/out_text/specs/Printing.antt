-- The lines of the program as lines of the output.
use Rattle.out_text.specs.declared.out_line.OutLine as code
use Rattle.out_text.specs.declared.out_line.OutLine.TheVariants.{Frame, From, No, Joined, Did, To, End}
use Rattle.out_text.specs.OutLines.{OutLine, FrameLine, FromLine, NoLine, JoinedLine, DidLine, ToLine, EndLine}

-- what a line of the program prints
abbrev pub line_of : code.OutLine → OutLine
line_of (Frame frame) = FrameLine frame
line_of (From port bytes) = FromLine port bytes.now
line_of (No place why) = NoLine place why
line_of (Joined port slot) = JoinedLine port slot
line_of (Did slot seq origin got) = DidLine (record { slot = slot; seq = seq; origin = origin; got = got })
line_of (To slot bytes) = ToLine slot bytes.now
line_of (End frames) = EndLine frames
