-- `build::hops::byte_of`: the level times 64 and the value.
use mathlib.Core.Path.{refl}
use Rattle.path.specs.Routes.{byte_of}
use Rattle.build.proofs.hops.byte_of.Goals as goal

pub returns : goal.returns
unfolding byte_of
returns c = refl
