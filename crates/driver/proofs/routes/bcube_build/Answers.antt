-- `driver::routes::bcube_build`: the count fits its place.
use Rattle.driver.proofs.RouteSmall.{build-small}
use Rattle.driver.proofs.routes.bcube_build.Goals as goal

pub value_word-requires : goal.value_word-requires
value_word-requires c = (build-small _ _ _ _ c.in-Ok.ensures).value
