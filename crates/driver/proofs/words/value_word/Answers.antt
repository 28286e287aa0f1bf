-- `driver::words::value_word`: nothing but the number.
use Rattle.driver.proofs.WordLaws.{value-word}
use Rattle.driver.proofs.words.value_word.Goals as goal

pub returns : goal.returns
returns c = value-word _
