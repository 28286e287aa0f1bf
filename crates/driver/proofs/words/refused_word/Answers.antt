-- `driver::words::refused_word`: the number, and the places.
use Rattle.driver.proofs.WordLaws.{refused-word}
use Rattle.driver.proofs.words.refused_word.Goals as goal

pub returns : goal.returns
returns c = refused-word _ _ c.number-number.ensures
