-- The link that a letter names.
use Rattle.std.specs.Prelude.{ℕ, cond, eqb}
use Rattle.vector_text.specs.declared.links.Link.{Link}
use Rattle.vector_text.specs.declared.links.Link.TheVariants.{Pcs, Mdu, Dle, Expansion}

-- by p, m and d; any other letter is that of expansion
abbrev pub link_of : ℕ → Link
link_of letter = cond (eqb letter 112) Pcs (cond (eqb letter 109) Mdu (cond (eqb letter 100) Dle Expansion))
