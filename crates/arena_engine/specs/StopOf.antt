-- What a reader's stop is to the server.
use Rattle.demo_lines.specs.declared.demo_stop.DemoStop.{DemoStop}
use Rattle.demo_lines.specs.declared.demo_stop.DemoStop.TheVariants as demo
use Rattle.arena_engine.specs.declared.stop.Stop.{Stop}
use Rattle.arena_engine.specs.declared.stop.Stop.TheVariants.{Refused, ReadFault, NoMemory}

abbrev pub stop_of : DemoStop → Stop
stop_of (demo.Refused line fault rule) = Refused (record { line = line; fault = fault; rule = rule })
stop_of demo.ReadFault = ReadFault
stop_of demo.NoMemory = NoMemory
