-- `finder::scan::to_scan`: all servers; or none, where the link is failed.
use Rattle.finder.proofs.Sides.{sided_live, sided_dead}
use Rattle.finder.proofs.scan.to_scan.Goals as goal

pub returns-then-is_live : goal.returns-then-is_live
returns-then-is_live c = search sided_live

pub returns-else-is_live : goal.returns-else-is_live
returns-else-is_live c = search sided_dead
