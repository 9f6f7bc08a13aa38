-- What is laid into memory before a call.
use Rattle.std.specs.Prelude.{ℕ, zero, suc, ◌+◌, ◌*◌, ◌%◌, List, [], ◌∷◌}
use Rattle.vector_text.specs.declared.memory.Content.{Content}
use Rattle.vector_text.specs.declared.memory.Content.TheVariants as content

-- byte k of each content
abbrev pub run_byte : ℕ → ℕ
run_byte k = (k % 256 * 7 + 3) % 256

abbrev pub same_byte : ℕ → ℕ
same_byte k = 5

abbrev pub lent_byte : ℕ → ℕ
lent_byte k = k % 251

abbrev pub byte_of : Content → ℕ → ℕ
byte_of content.Run k = run_byte k
byte_of content.Same k = same_byte k
byte_of content.Lent k = lent_byte k

-- n bytes, f k at place k, from place k on
unfoldable pub laid_from : (ℕ → ℕ) → ℕ → ℕ → List ℕ
laid_from f k zero = []
laid_from f k (suc n) = f k ∷ laid_from f (suc k) n

abbrev pub laid : (ℕ → ℕ) → ℕ → List ℕ
laid f n = laid_from f 0 n
