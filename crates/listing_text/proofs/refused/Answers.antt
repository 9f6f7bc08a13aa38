use Rattle.listing_text.specs.Text.{ascii, text, line}
use Rattle.listing_text.proofs.refused.Goals as goal

pub returns : goal.returns
unfolding line text ascii
returns c = rw c.from.ensures at c.numbered.ensures
