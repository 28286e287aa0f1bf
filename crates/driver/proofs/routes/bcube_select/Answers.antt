-- `driver::routes::bcube_select`: the count fits its place.
use Rattle.driver.proofs.RouteSmall.{select-small}
use Rattle.driver.proofs.routes.bcube_select.Goals as goal

pub value_word-requires : goal.value_word-requires
value_word-requires c = (select-small _ c.in-Ok.ensures).value
