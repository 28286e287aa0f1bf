-- `driver::words::reason_word`: nothing but the number of the reason.
use Rattle.driver.proofs.WordLaws.{reason-word}
use Rattle.driver.proofs.words.reason_word.Goals as goal

pub returns : goal.returns
returns c = reason-word _ _ c.number.ensures
