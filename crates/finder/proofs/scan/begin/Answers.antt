-- `finder::scan::begin`: one server is found, the source.
use Rattle.room.specs.Shapes.{servers_of}
use Rattle.finder.specs.Hops.{step_of, Ok}
use Rattle.finder.proofs.Tables.{start}
use Rattle.finder.proofs.scan.begin.Goals as goal

pub returns : goal.returns
returns c = λ s t small inside.
    start (step_of s) (Ok s t) (servers_of s) c.args.source c.args.back.now c.args.queue.now small inside c.requires.1 c.requires.2
