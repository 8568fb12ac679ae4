use Rattle.bot_ways.proofs.Searching.{search_more, search_ends, nearest_few}
use Rattle.bot_ways.proofs.search.least_lengths.Goals as goal

pub try_edges-requires-clause-few : goal.try_edges-requires-clause-few
try_edges-requires-clause-few c =
    nearest_few c.args.map.now c.loop-nearest.least c.loop-nearest.settled.items c.in-Some.nearest c.loop-nearest.invariant
    (rw c.deref.ensures.value at c.in-Some.ensures) c.spawns-count.ensures.rules.few_spawns

pub loop-nearest-preserved : goal.loop-nearest-preserved
loop-nearest-preserved c =
    search_more c.args.map.now c.loop-nearest.least c.try_edges.new.least c.loop-nearest.settled.items c.in-Some.nearest
    c.loop-nearest.invariant (rw c.deref.ensures.value at c.in-Some.ensures) c.try_edges.ensures

pub returns : goal.returns
returns c =
    search_ends c.args.map.now c.loop-nearest.least c.loop-nearest.settled.items c.loop-nearest.invariant
    (rw c.deref.ensures.value at (c.in_default.ensures {u = tt}))
