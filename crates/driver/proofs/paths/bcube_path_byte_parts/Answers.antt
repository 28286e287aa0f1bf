-- `driver::paths::bcube_path_byte_parts`: the parts fit their places.
use Rattle.driver.proofs.PathSmall.{parts_found}
use Rattle.driver.proofs.paths.bcube_path_byte_parts.Goals as goal

pub refused_word-requires : goal.refused_word-requires
refused_word-requires c = (parts_found _ _ _ c.in-Err.ensures).small
