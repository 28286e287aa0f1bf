-- `driver::paths::bcube_hop_of`: the hop fits its places.
use Rattle.path.specs.Routes.{byte_of}
use Rattle.path.specs.Answers.{hop_answer}
use Rattle.driver.specs.Words.{hop_word}
use Rattle.driver.proofs.WordLaws.{said}
use Rattle.driver.proofs.PathSmall.{hop-found}
use Rattle.driver.proofs.paths.bcube_hop_of.Goals as goal

pub refused_word-requires : goal.refused_word-requires
unfolding byte_of
refused_word-requires c = (hop-found _ _ _ _ c.in-Err.ensures).small

pub returns-in-Ok : goal.returns-in-Ok
unfolding byte_of
returns-in-Ok c = said hop_word (λ s. hop_answer s c.args.server c.args.byte) c.value_word.ensures c.in-Ok.ensures c.shape_in.ensures

pub returns-in-Err : goal.returns-in-Err
unfolding byte_of
returns-in-Err c = said hop_word (λ s. hop_answer s c.args.server c.args.byte) c.refused_word.ensures c.in-Err.ensures c.shape_in.ensures
