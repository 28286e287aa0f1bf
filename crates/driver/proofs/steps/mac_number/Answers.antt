-- `driver::steps::mac_number`: four bytes and two.
use Rattle.std.proofs.Common.{arith, rules, length, ◌≡◌}
use Rattle.driver.proofs.PackLaws.{mac-made}
use Rattle.driver.proofs.steps.mac_number.Goals as goal

pub returns : goal.returns
returns c = let l : length c.args.mac ≡ 6 = search rules in omega (arith, mac-made c.args.mac l)
